-- Where no enum stands in a tree, none stands in what is left of it.
use Rattle.std.proofs.Common.{◌≡◌, refl, sym, ap, subst, List, [], ◌∷◌, map, filter, Bool, true, false, not, cond}
use Rattle.ecma_kind.specs.declared.kind.Kind.{Kind}
use Rattle.ecma_kind.specs.declared.kind.Kind.TheVariants as kind
use Rattle.ecma_kind.specs.declared.span.Span.{Span}
use Rattle.ecma_tree.specs.declared.node.Node.{Node, fold-roll-Node, ind-Node}
use Rattle.ecma_runs.specs.State.{Id}
use Rattle.ecma_runs.specs.Enums.{is_enum}
use Rattle.ecma_runs.proofs.EnumTrees.{Lacks, lacks_parts, lacks_layer}
use Rattle.ecma_runs.proofs.Kept.{AllNodes}
use Rattle.ecma_run_laws.specs.Lessened.{statement_goes, declarator_goes, specifier_goes, Lessened, fewer, left_of, lessened_step, lessened, without}

-- of a node, and of each list that it may be
record AllLack (l : Lessened) : Type 0 where
  pub less : Lacks l.less
  pub statements : Lacks l.statements
  pub declarators : Lacks l.declarators
  pub specifiers : Lacks l.specifiers

abbrev EachLacks : List Lessened → Type 0
EachLacks [] = Unit {0}
EachLacks (l ∷ ls) = AllLack l × EachLacks ls

less_lack : (ls : List Lessened) → EachLacks ls → AllNodes Lacks (map (λ l. l.less) ls)
less_lack [] h = tt
less_lack (l ∷ ls) h = (h.0.less, less_lack ls h.1)

left_lack : (k : Kind) (ls : List Lessened) → EachLacks ls → AllNodes Lacks (left_of k ls)
left_lack (kind.Module shebang) (body ∷ []) h = (h.0.statements, tt)
left_lack kind.BlockStmt (statements ∷ []) h = (h.0.statements, tt)
left_lack (kind.VarDecl word false) (declarators ∷ []) h = (h.0.declarators, tt)
left_lack (kind.ImportDecl false) (specifiers ∷ source ∷ attributes ∷ []) h = (h.0.specifiers, (h.1.0.less, (h.1.1.0.less, tt)))
left_lack _ ls h = less_lack ls h

kept_one : (b : Bool) (l : Lessened) (ls : List Lessened) → AllLack l → EachLacks ls → EachLacks (cond b (l ∷ ls) ls)
kept_one true l ls one rest = (one, rest)
kept_one false l ls one rest = rest

kept_lack : (test : Lessened → Bool) (ls : List Lessened) → EachLacks ls → EachLacks (filter test ls)
kept_lack test [] h = tt
kept_lack test (l ∷ ls) h = kept_one (test l) l (filter test ls) h.0 (kept_lack test ls h.1)

fewer_lack : (goes : Node → Bool) (span : Span) (k : Kind) (items : List Lessened) (children : List Node) → not (is_enum k) ≡ true → EachLacks items → AllNodes Lacks children → Lacks (fewer goes span k items children)
fewer_lack goes span kind.List items children here each below =
    let stay : List Lessened = filter (λ item. not (goes item.whole)) items in
    lacks_layer (record { span = span; kind = kind.List; children = map (λ item. item.less) stay }) refl (less_lack stay (kept_lack (λ item. not (goes item.whole)) items each))
fewer_lack goes span k items children here each below = lacks_layer (record { span = span; kind = k; children = children }) here below

module _ (gone : Id → Bool) where
  abbrev LacksLeft : Node → Type 0
  LacksLeft n = Lacks n → AllLack (lessened gone n)

  each_left : (ns : List ((n : Node) × LacksLeft n)) → AllNodes Lacks (map (λ e. e.0) ns) → EachLacks (map (lessened gone) (map (λ e. e.0) ns))
  each_left [] h = tt
  each_left (n ∷ ns) h = (n.1 h.0, each_left ns h.1)

  layer_left : (span : Span) (k : Kind) (ls : List Lessened) → not (is_enum k) ≡ true → EachLacks ls → AllLack (lessened_step gone (record { span = span; kind = k; children = ls }))
  layer_left span k ls here each =
      let below : AllNodes Lacks (left_of k ls) = left_lack k ls each in
      record {
        less = lacks_layer (record { span = span; kind = k; children = left_of k ls }) here below;
        statements = fewer_lack (statement_goes gone) span k ls (left_of k ls) here each below;
        declarators = fewer_lack (declarator_goes gone) span k ls (left_of k ls) here each below;
        specifiers = fewer_lack (specifier_goes gone) span k ls (left_of k ls) here each below;
      }

  all_left : (n : Node) → LacksLeft n
  all_left = ind-Node LacksLeft (λ x y is h.
      let t = lacks_parts x h in
      let below : AllNodes Lacks (map (λ e. e.0) y.children) = subst (AllNodes Lacks) (sym (ap (λ z. z.children) is)) t.1 in
      let each : EachLacks (map (lessened gone) x.children) = subst (λ l. EachLacks (map (lessened gone) l)) (ap (λ z. z.children) is) (each_left y.children below) in
      subst AllLack (sym (fold-roll-Node Lessened (lessened_step gone) x)) (layer_left x.span x.kind (map (lessened gone) x.children) t.0 each))

  pub without_lacks : (n : Node) → Lacks n → Lacks (without gone n)
  without_lacks n h = (all_left n h).less
