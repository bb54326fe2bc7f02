-- A module by its sorts is one with other texts: what is put in has the shape that its place asks for.
use Rattle.std.proofs.Common.{◌≡◌, ◌∙◌, ℕ, zero, suc, Bool, true, false, ◌||◌, cond, List, [], ◌∷◌, length, replicate, Option, Some, None, bytes_eq, refl, sym, ap, subst}
use Rattle.ecma_kind.specs.Sorts.{belongs}
use Rattle.ecma_kind.specs.declared.kind.Kind.{Kind}
use Rattle.ecma_kind.specs.declared.kind.Kind.TheVariants as kind
use Rattle.ecma_kind.specs.declared.shapes.Count.{Count}
use Rattle.ecma_kind.specs.declared.shapes.Count.TheVariants.{One, Maybe, Many, MaybeMany, Holes}
use Rattle.ecma_kind.specs.declared.shapes.Shape.{Shape}
use Rattle.ecma_kind.specs.declared.shapes.Sort.{Sort}
use Rattle.ecma_kind.specs.declared.shapes.Sort.TheVariants as sort
use Rattle.ecma_kind.specs.declared.span.Span.{Span}
use Rattle.ecma_tree.specs.declared.node.Node.{Node, out-Node}
use Rattle.ecma_tree.specs.declared.node.Node.TheViews.{roll-out-Node}
use Rattle.ecma_tree.specs.Laws.{HaveShapes}
use Rattle.ecma_tree.specs.Nodes.{node_of}
use Rattle.ecma_tree.specs.Sorted.{HasShape, allows, allows_by, child_shapes, is_absent, item_shape, many, maybe, one}
use Rattle.ecma_tree.proofs.ShapeLaws.{node_has_shape}
use Rattle.ecma_rules.specs.Children.{kind_of}
use Rattle.ecma_scope.specs.Resolved.{is_name}
use Rattle.ecma_hygiene.specs.declared.spot.Spot.{Spot}
use Rattle.ecma_hygiene.specs.declared.spot.Spot.TheVariants as spot
use Rattle.ecma_hygiene.specs.declared.spot.Standing.{Standing}
use Rattle.ecma_hygiene.specs.Renamed.{Texts, at_root, key_of, kind_is_absent, kind_with_text, name_of, old_name, property_key, proto, proto_in_brackets, proto_literal, shared_by, shorthand, spot_in, standing_in, text_of, two_names, with_default}
use Rattle.ecma_hygiene_scopes.proofs.Growing.{OldName, grown, grown_by, grown_pattern}
use Rattle.ecma_hygiene_fits.specs.Laws.{FinalTextsKeepSorts}
use Rattle.ecma_hygiene_fits.proofs.Becoming.{all_become, become, become-out, children_become, old_of, own_kind}
use Rattle.ecma_hygiene_fits.proofs.Everywhere.{Each, children_of, everywhere}
use Rattle.ecma_hygiene_fits.proofs.Listed.{length_same}
use Rattle.ecma_hygiene_fits.proofs.Walk.{shape_parts}

of_parts : (span : Span) (k : Kind) (cs : List Node) (s : Shape) → allows s k ≡ true → HaveShapes (child_shapes k s (length cs)) cs → HasShape s (node_of span k cs)
of_parts span k cs s a h = (node_has_shape span k cs s).1 (a, h)

-- a node of a shape has another that allows its kind and asks the same of its children
reshaped : (n : Node) (s t : Shape) → HasShape s n → allows t (kind_of n) ≡ true → child_shapes (kind_of n) s (length (children_of n)) ≡ child_shapes (kind_of n) t (length (children_of n)) → HasShape t n
reshaped n s t has a same =
    subst (HasShape t) (roll-out-Node n)
    (of_parts (out-Node n).span (kind_of n) (children_of n) t a (subst (λ os. HaveShapes os (children_of n)) same (shape_parts n s has).1))

-- ---- kinds

belongs_text : (σ : Sort) (a b : List ℕ) (ctxt : ℕ) (optional : Bool) → belongs σ (kind.Ident a ctxt optional) ≡ belongs σ (kind.Ident b ctxt optional)
belongs_text sort.Ident a b ctxt optional = refl
belongs_text _ a b ctxt optional = refl

allows_text : (s : Shape) (a b : List ℕ) (ctxt : ℕ) (optional : Bool) → allows s (kind.Ident a ctxt optional) ≡ allows s (kind.Ident b ctxt optional)
allows_text s a b ctxt optional = by s.count
  where
    by : (c : Count) → allows_by c s.sort (kind.Ident a ctxt optional) ≡ allows_by c s.sort (kind.Ident b ctxt optional)
    by One = belongs_text s.sort a b ctxt optional
    by Maybe = belongs_text s.sort a b ctxt optional
    by Many = refl
    by MaybeMany = refl
    by Holes = refl

belongs_pattern : (σ : Sort) → belongs σ kind.AssignPatProp ≡ true → belongs σ kind.KeyValuePatProp ≡ true
belongs_pattern sort.ObjectPatProp b = refl
belongs_pattern _ b = cc

allows_pattern : (s : Shape) → allows s kind.AssignPatProp ≡ true → allows s kind.KeyValuePatProp ≡ true
allows_pattern s = by s.count
  where
    by : (c : Count) → allows_by c s.sort kind.AssignPatProp ≡ true → allows_by c s.sort kind.KeyValuePatProp ≡ true
    by One = belongs_pattern s.sort
    by Maybe = belongs_pattern s.sort
    by Many = λ b. b
    by MaybeMany = λ b. b
    by Holes = λ b. b

name_is_pattern : (k : Kind) → belongs sort.BindingIdent k ≡ true → (n : ℕ) → (belongs sort.Pat k ≡ true) × (child_shapes k (one sort.BindingIdent) n ≡ child_shapes k (one sort.Pat) n)
name_is_pattern kind.BindingIdent b n = (refl, refl)
name_is_pattern _ b n = cc

there_is_expression : (k : Kind) → is_absent k ≡ false → (is_absent k || belongs sort.Expr k) ≡ true → (n : ℕ) → (belongs sort.Expr k ≡ true) × (child_shapes k (maybe sort.Expr) n ≡ child_shapes k (one sort.Expr) n)
there_is_expression kind.Absent e b n = cc
there_is_expression kind.List e b n = cc
there_is_expression kind.SeqExpr e b zero = (b, refl)
there_is_expression kind.SeqExpr e b (suc n) = (b, refl)
there_is_expression _ e b n = (b, refl)

-- ---- what is put in

key_shaped : (old : OldName) → HasShape (one sort.PropName) (key_of old)
key_shaped old = of_parts old.span (kind.IdentName old.text) [] (one sort.PropName) refl tt

text_shaped : (span : Span) → HasShape (one sort.Expr) (node_of span proto_literal [])
text_shaped span = of_parts span proto_literal [] (one sort.Expr) refl tt

brackets_shaped : (span : Span) → HasShape (one sort.PropName) (proto_in_brackets span)
brackets_shaped span = of_parts span kind.ComputedPropName (node_of span proto_literal [] ∷ []) (one sort.PropName) refl (text_shaped span, tt)

property_key_shaped : (old : OldName) → HasShape (one sort.PropName) (property_key old)
property_key_shaped old = by (bytes_eq old.text proto)
  where
    by : (b : Bool) → HasShape (one sort.PropName) (cond b (proto_in_brackets old.span) (key_of old))
    by true = brackets_shaped old.span
    by false = key_shaped old

name_shaped : (old : OldName) → HasShape (maybe sort.ModuleExportName) (name_of old)
name_shaped old = of_parts old.span (kind.Ident old.text 0 false) [] (maybe sort.ModuleExportName) refl tt

default_shaped : (span : Span) (a b : Node) → HasShape (one sort.BindingIdent) a → HasShape (maybe sort.Expr) b → HasShape (one sort.Pat) (with_default span a b)
default_shaped span a b has default = by (kind_is_absent b) refl
  where
    pattern : HasShape (one sort.Pat) a
    pattern =
        let t = name_is_pattern (kind_of a) (shape_parts a (one sort.BindingIdent) has).0 (length (children_of a)) in
        reshaped a (one sort.BindingIdent) (one sort.Pat) has t.0 t.1

    by : (gone : Bool) → kind_is_absent b ≡ gone → HasShape (one sort.Pat) (cond gone a (node_of span kind.AssignPat (a ∷ b ∷ [])))
    by true e = pattern
    by false e =
        let t = there_is_expression (kind_of b) e (shape_parts b (maybe sort.Expr) default).0 (length (children_of b)) in
        of_parts span kind.AssignPat (a ∷ b ∷ []) (one sort.Pat) refl (pattern, (reshaped b (maybe sort.Expr) (one sort.Expr) default t.0 t.1, tt))

names_shaped : (σ : Sort) (old : OldName) (cs : List Node) → HaveShapes (one σ ∷ maybe sort.ModuleExportName ∷ []) cs → HaveShapes (one σ ∷ maybe sort.ModuleExportName ∷ []) (two_names old cs)
names_shaped σ old [] has = absurd has
names_shaped σ old (a ∷ []) has = absurd has.1
names_shaped σ old (a ∷ b ∷ []) has = (has.0, (name_shaped old, tt))
names_shaped σ old (a ∷ b ∷ c ∷ cs) has = has

pattern_shaped : (old : OldName) (span : Span) (cs : List Node) (s : Shape) → allows s kind.AssignPatProp ≡ true → HaveShapes (child_shapes kind.AssignPatProp s (length cs)) cs → HasShape s (grown_pattern old span cs)
pattern_shaped old span [] s a has = absurd has
pattern_shaped old span (c ∷ []) s a has = absurd has.1
pattern_shaped old span (c ∷ d ∷ []) s a has =
    of_parts span kind.KeyValuePatProp (key_of old ∷ with_default span c d ∷ []) s (allows_pattern s a) (key_shaped old, (default_shaped span c d has.0 has.1.0, tt))
pattern_shaped old span (c ∷ d ∷ e ∷ cs) s a has = absurd has.1.1

-- an identifier that is written out is a property
abbrev Ready : Kind → Option OldName → Shape → Type 0
Ready (kind.Ident text ctxt optional) (Some old) s = s ≡ one sort.PropOrSpread
Ready _ o s = Unit {0}

grown_by_shaped : (old : OldName) (span : Span) (k : Kind) (cs : List Node) (s : Shape) → allows s k ≡ true → HaveShapes (child_shapes k s (length cs)) cs → Ready k (Some old) s → HasShape s (grown_by old span k cs)
grown_by_shaped old span (kind.Ident text ctxt optional) cs s a has ready =
    of_parts span kind.KeyValueProp (property_key old ∷ node_of span (kind.Ident text ctxt optional) cs ∷ []) s (ap (λ z. allows z kind.KeyValueProp) ready)
    (property_key_shaped old, (of_parts span (kind.Ident text ctxt optional) cs (one sort.Expr) refl has, tt))
grown_by_shaped old span (kind.ImportNamedSpecifier is_type_only) cs s a has ready = of_parts span (kind.ImportNamedSpecifier is_type_only) (two_names old cs) s a (names_shaped sort.Ident old cs has)
grown_by_shaped old span (kind.ExportNamedSpecifier is_type_only) cs s a has ready =
    of_parts span (kind.ExportNamedSpecifier is_type_only) (two_names old cs) s a (names_shaped sort.ModuleExportName old cs has)
grown_by_shaped old span kind.AssignPatProp cs s a has ready = pattern_shaped old span cs s a has
grown_by_shaped old span k cs s a has ready = of_parts span k cs s a has

grown_shaped : (o : Option OldName) (span : Span) (k : Kind) (cs : List Node) (s : Shape) → allows s k ≡ true → HaveShapes (child_shapes k s (length cs)) cs → Ready k o s → HasShape s (grown o span k cs)
grown_shaped None span k cs s a has ready = of_parts span k cs s a has
grown_shaped (Some old) span k cs s a has ready = grown_by_shaped old span k cs s a has ready

-- ---- where properties stand

abbrev Placed : Spot → Shape → Type 0
Placed spot.Properties s = s ≡ many sort.PropOrSpread
Placed spot.Property s = s ≡ one sort.PropOrSpread
Placed spot.Elsewhere s = Unit {0}

abbrev AllPlaced : (ℕ → Spot) → ℕ → List Shape → Type 0
AllPlaced spots i [] = Unit {0}
AllPlaced spots i (o ∷ os) = Placed (spots i) o × AllPlaced spots (suc i) os

elsewhere : (spots : ℕ → Spot) → ((i : ℕ) → spots i ≡ spot.Elsewhere) → (i : ℕ) (os : List Shape) → AllPlaced spots i os
elsewhere spots e i [] = tt
elsewhere spots e i (o ∷ os) = (subst (λ z. Placed z o) (sym (e i)) tt, elsewhere spots e (suc i) os)

properties : (s : Shape) → s ≡ many sort.PropOrSpread → (i n : ℕ) → AllPlaced (λ j. spot_in spot.Properties kind.List j) i (replicate n (item_shape s))
properties s p i zero = tt
properties s p i (suc n) = (ap item_shape p, properties s p (suc i) n)

placed_below : (at : Spot) (k : Kind) (s : Shape) (n : ℕ) → Placed at s → AllPlaced (spot_in at k) 0 (child_shapes k s n)
placed_below spot.Properties kind.List s n p = properties s p 0 n
placed_below spot.Properties kind.ObjectLit s n p = (refl, tt)
placed_below spot.Properties k s n p = elsewhere _ (λ i. refl) 0 (child_shapes k s n)
placed_below spot.Property kind.ObjectLit s n p = (refl, tt)
placed_below spot.Property k s n p = elsewhere _ (λ i. refl) 0 (child_shapes k s n)
placed_below spot.Elsewhere kind.ObjectLit s n p = (refl, tt)
placed_below spot.Elsewhere k s n p = elsewhere _ (λ i. refl) 0 (child_shapes k s n)

module _ (texts : Texts) where
  ready_option : (o : Option OldName) (text : List ℕ) (ctxt : ℕ) (optional : Bool) (s : Shape) → s ≡ one sort.PropOrSpread → Ready (kind.Ident text ctxt optional) o s
  ready_option None text ctxt optional s p = tt
  ready_option (Some old) text ctxt optional s p = p

  ready_at : (at : Spot) (n : Node) (text : List ℕ) (ctxt : ℕ) (optional : Bool) (s : Shape) → Placed at s → Ready (kind.Ident text ctxt optional) (old_name texts (shorthand at n)) s
  ready_at spot.Properties n text ctxt optional s p = tt
  ready_at spot.Property n text ctxt optional s p = ready_option (old_name texts (Some n)) text ctxt optional s p
  ready_at spot.Elsewhere n text ctxt optional s p = tt

  ready_by : (k : Kind) (named : Bool) (n : Node) (stands : Standing) (s : Shape) → Placed stands.spot s → Ready (kind_with_text texts named k) (old_name texts (shared_by stands k n)) s
  unfolding shared_by
  ready_by (kind.Ident text ctxt optional) true n stands s p = ready_at stands.spot n text ctxt optional s p
  ready_by (kind.Ident text ctxt optional) false n stands s p = ready_at stands.spot n (text_of texts (text, ctxt)) ctxt optional s p
  ready_by _ true n stands s p = tt
  ready_by _ false n stands s p = tt

  allows_own : (s : Shape) (named : Bool) (k : Kind) → allows s (kind_with_text texts named k) ≡ allows s k
  allows_own s true k = refl
  allows_own s false (kind.Ident text ctxt optional) = allows_text s _ text ctxt optional
  allows_own s false _ = refl

  children_own : (s : Shape) (n : ℕ) (named : Bool) (k : Kind) → child_shapes (kind_with_text texts named k) s n ≡ child_shapes k s n
  children_own s n true k = refl
  children_own s n false (kind.Ident text ctxt optional) = refl
  children_own s n false _ = refl

  -- what is shown of each node
  abbrev Kept : Node → Type 0
  Kept n = (s : Shape) → HasShape s n → (stands : Standing) → Placed stands.spot s → HasShape s (become texts n stands)

  children_kept : (os : List Shape) (cs : List Node) → HaveShapes os cs → Each Kept cs → (stands : ℕ → Standing) (i : ℕ) → AllPlaced (λ j. (stands j).spot) i os → HaveShapes os (all_become texts stands i cs)
  children_kept [] [] has e stands i p = tt
  children_kept [] (c ∷ cs) has e stands i p = absurd has
  children_kept (o ∷ os) [] has e stands i p = absurd has
  children_kept (o ∷ os) (c ∷ cs) has e stands i p = (e.0 o has.0 (stands i) p.0, children_kept os cs has.1 e.1 stands (suc i) p.1)

  node_kept : (n : Node) → Each Kept (children_of n) → Kept n
  node_kept n below s has stands p =
      let t = shape_parts n s has in
      let k = kind_of n in
      let ds = children_become texts n stands in
      let each : HaveShapes (child_shapes k s (length (children_of n))) ds =
      children_kept (child_shapes k s (length (children_of n))) (children_of n) t.1 below (standing_in stands n) 0 (placed_below stands.spot k s (length (children_of n)) p) in
      let own : child_shapes k s (length (children_of n)) ≡ child_shapes (own_kind texts n stands) s (length ds) =
      ap (child_shapes k s) (sym (length_same texts (standing_in stands n) 0 (children_of n))) ∙ sym (children_own s (length ds) (is_name stands.role) k) in
      subst (HasShape s) (sym (become-out texts n stands))
      (grown_shaped (old_of texts n stands) (out-Node n).span (own_kind texts n stands) ds s (allows_own s (is_name stands.role) k ∙ t.0) (subst (λ os. HaveShapes os ds) own each)
      (ready_by k (is_name stands.role) n stands s p))

  pub sorts_kept_in : (tree : Node) → HasShape (one sort.Module) tree → HasShape (one sort.Module) (become texts tree at_root)
  sorts_kept_in tree sorted = everywhere Kept node_kept tree (one sort.Module) sorted at_root tt

pub sorts_kept : FinalTextsKeepSorts
sorts_kept = sorts_kept_in
