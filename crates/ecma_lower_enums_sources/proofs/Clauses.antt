-- Clauses of what fits that ask nothing of where a node stands: a module of which no node fails one has none with its enums written.
use Rattle.std.proofs.Common.{◌≡◌, ◌∙◌, ℕ, zero, suc, Bool, true, false, cond, List, [], ◌∷◌, length, Option, Some, None, refl, sym, ap, subst, slice_get}
use Rattle.std.specs.Option.{option_and_then}
use Rattle.ecma_kind.specs.declared.ident.Ident.{Ident}
use Rattle.ecma_kind.specs.declared.kind.Kind.{Kind}
use Rattle.ecma_kind.specs.declared.kind.Kind.TheVariants as kind
use Rattle.ecma_kind.specs.declared.shapes.Shape.{Shape}
use Rattle.ecma_kind.specs.declared.span.Span.{Span}
use Rattle.ecma_tree.specs.Laws.{HaveShapes}
use Rattle.ecma_tree.specs.Nodes.{node_of}
use Rattle.ecma_tree.specs.Sorted.{child_shapes, is_absent}
use Rattle.ecma_tree.specs.declared.node.Node.{Node}
use Rattle.ecma_rules.specs.Children.{kind_of}
use Rattle.ecma_strip_fits.proofs.Walk.{shape_parts}
use Rattle.ecma_utils.specs.Expressions.{key_of}
use Rattle.ecma_enums.specs.Values.{expression}
use Rattle.ecma_enums.specs.KnownReads.{known_read}
use Rattle.ecma_enums.specs.declared.value.TsEnumRecordValue.{TsEnumRecordValue}
use Rattle.ecma_lower_enums.specs.declared.known.KnownEnums.{KnownEnums}
use Rattle.ecma_lower_enums.specs.declared.place.Place.{Place}
use Rattle.ecma_lower_enums.specs.Places.{place_in}
use Rattle.ecma_lower_enums.specs.Forms.{member}
use Rattle.ecma_lower_enums.specs.Writing.{with_default}
use Rattle.ecma_lower_enums_sources.specs.Throughout.{Each, Throughout, more, none, throughout}
use Rattle.ecma_lower_enums_sources.proofs.Alike.{made-kind}
use Rattle.ecma_lower_enums_sources.proofs.Kept.{any-value, any-values}
use Rattle.ecma_lower_enums_sources.proofs.Literals.{Literals, expression-good, is_operator, known-good, undefined-good}
use Rattle.ecma_lower_enums_sources.proofs.Names.{IsNamed}
use Rattle.ecma_lower_enums_sources.proofs.Pieces.{Pieces, is_frame, key-good, member-good, member_in-good, over, part-good, two}
use Rattle.ecma_lower_enums_sources.proofs.Relation.{Items, Ones, Part, Said, Stands, children_of}
use Rattle.ecma_lower_enums_sources.proofs.Relation as relation
use Rattle.ecma_lower_enums_sources.proofs.Suiting.{no}
use Rattle.ecma_lower_enums_sources.proofs.Trees.{Of, append, below, first-of, here, others-of, weaker}

-- what is made
abbrev pub is_made : Kind → Bool
is_made (kind.Ident sym ctxt optional) = true
is_made (kind.IdentName sym) = true
is_made (kind.Str text raw) = true
is_made (kind.Number n raw) = true
is_made (kind.UnaryExpr op) = true
is_made k = is_frame k

frame-made : (k : Kind) → is_frame k ≡ true → is_made k ≡ true
frame-made (kind.Ident sym ctxt optional) h = refl
frame-made (kind.IdentName sym) h = refl
frame-made (kind.Str text raw) h = refl
frame-made (kind.Number n raw) h = refl
frame-made (kind.UnaryExpr op) h = refl
frame-made _ h = h

operator-made : (k : Kind) → is_operator k ≡ true → is_made k ≡ true
operator-made (kind.UnaryExpr op) h = refl
operator-made (kind.BinExpr op) h = refl
operator-made _ h = no h

each-child : (Q : Node → Type 0) (cs : List Node) → Each Q cs → (i : ℕ) (c : Node) → slice_get cs i ≡ Some c → Throughout Q c
each-child Q [] h i c at = cc
each-child Q (d ∷ cs) h zero c at = let same : d ≡ c = cc in subst (Throughout Q) same (first-of Q h)
each-child Q (d ∷ cs) h (suc i) c at = each-child Q cs (others-of Q h) i c at

abbrev P : Span → Kind → Type 0
P span k = is_made k ≡ true

any-named : (o : Option Ident) → IsNamed P o
any-named None = tt
any-named (Some of) = refl

literals : Literals P (λ n. Unit) (λ t. Unit)
literals = record {
  operator = λ k h. operator-made k h;
  digits = λ n h. refl;
  text = λ t h. refl;
  zero_so = tt;
  one_so = tt;
  minus_so = λ n h. tt;
}

-- a test by the kind of a node, which nothing that is made fails
module _ (T : Kind → Node → Bool) (quiet : (k : Kind) (n : Node) → is_made k ≡ true → T k n ≡ false) where
  abbrev Not : Node → Type 0
  Not n = T (kind_of n) n ≡ false

  abbrev None-in : Option Node → Type 0
  None-in None = Unit
  None-in (Some e) = Throughout Not e

  abbrev Made-in : Option Node → Type 0
  Made-in None = Unit
  Made-in (Some e) = Throughout (Of P) e

  passes : {n : Node} → Throughout (Of P) n → Throughout Not n
  passes h = weaker (Of P) Not (λ n m. quiet (kind_of n) n m) h

  in-passes : (o : Option Node) → Made-in o → None-in o
  in-passes None h = tt
  in-passes (Some e) h = passes h

  made-not : (span : Span) (k : Kind) (cs : List Node) → is_made k ≡ true → Not (node_of span k cs)
  made-not span k cs m = quiet (kind_of (node_of span k cs)) (node_of span k cs) (ap is_made (made-kind span k cs) ∙ m)

  module _ (enums : KnownEnums) (N : Ident → Type 0) (K : List ℕ → Type 0)
      (same : (p : Place) (t : Shape) (k : Kind) (a b : Node) → HaveShapes (child_shapes k t (length (children_of a))) (children_of a)
      → Ones enums N K (place_in enums.writes p k) (child_shapes k t (length (children_of a))) (children_of a) (children_of b) → T k b ≡ T k a) where
    pieces : Pieces Not P enums
    pieces = record {
      frame = λ span k cs f. made-not span k cs (frame-made k f);
      leaf = λ span k m. made-not span k [] m;
      key = λ span at text ctxt optional m. refl;
      void = passes (undefined-good P (λ n. Unit) (λ t. Unit) literals);
      values = λ change n. in-passes (option_and_then expression (known_read change enums.members n)) (known-good P (λ n. Unit) (λ t. Unit) literals enums.members (any-values enums.members P) change n);
    }

    value-none : (v : TsEnumRecordValue) (e : Node) → expression v ≡ Some e → Throughout Not e
    value-none v e is = passes (subst Made-in is (expression-good P (λ n. Unit) (λ t. Unit) literals v (any-value P v)))

    said-none : {e : Node} → Said enums N K e → Throughout Not e
    said-none {e} (relation.value v is) = value-none v e is
    said-none (relation.named of text n k) = member-good Not P enums pieces of text refl refl

    default-none : (span : Span) (of : Ident) (text : List ℕ) (y : Node) → Throughout Not y → Throughout Not (with_default span (member of text) y)
    default-none span of text y h = by (is_absent (kind_of y))
      where
        by : (b : Bool) → Throughout Not (cond b (member of text) (node_of span kind.AssignPat (member of text ∷ y ∷ [])))
        by true = member-good Not P enums pieces of text refl refl
        by false = over Not P enums pieces span kind.AssignPat (member of text ∷ y ∷ []) refl (two Not P enums pieces (member of text) y (member-good Not P enums pieces of text refl refl) h)

    mutual
      pub stands-none : {p : Place} {t : Shape} {a b : Node} → Stands enums N K p t a b → Throughout Not a → Throughout Not b
      stands-none (relation.left has calm) h = h
      stands-none {p} {t} {a} {b} (relation.kept has calm l e at ones) h =
          throughout (ap (λ k. T k b) e ∙ same p t (kind_of a) a b (shape_parts a t has).1 ones ∙ here Not h) (ones-none ones (below Not h))
      stands-none {b = b} (relation.listed has e f at items) h = throughout (quiet (kind_of b) b (ap is_made f)) (items-none items (below Not h))
      stands-none (relation.read has suit is said) h = said-none said
      stands-none (relation.target of text has suit is n k) h = member-good Not P enums pieces of text refl refl
      stands-none (relation.short {e = e} span text has suit is k said) h =
          over Not P enums pieces span kind.KeyValueProp (key_of span text ∷ e ∷ []) refl (two Not P enums pieces (key_of span text) e (key-good Not P enums pieces span text refl) (said-none said))
      stands-none {a = a} (relation.patterned {x = x} {y = y} span at of text has suit is get v n k) h =
          over Not P enums pieces span kind.KeyValuePatProp (key_of at text ∷ with_default span (member of text) y ∷ []) refl
          (two Not P enums pieces (key_of at text) (with_default span (member of text) y) (key-good Not P enums pieces at text refl) (default-none span of text y (stands-none v (each-child Not (children_of a) (below Not h) 1 x get))))

      ones-none : {f : ℕ → Place} {ts : List Shape} {cs ds : List Node} → Ones enums N K f ts cs ds → Each Not cs → Each Not ds
      ones-none relation.none h = none
      ones-none (relation.more o os) h = more (stands-none o (first-of Not h)) (ones-none os (others-of Not h))

      items-none : {p : Place} {t : Shape} {cs ds : List Node} → Items enums N K p t cs ds → Each Not cs → Each Not ds
      items-none relation.empty h = none
      items-none (relation.item o os) h = more (stands-none o (first-of Not h)) (items-none os (others-of Not h))
      items-none (relation.part q os is) h = subst (Each Not) (sym is) (append Not (part-none q (first-of Not h)) (items-none os (others-of Not h)))

      part-none : {p : Place} {t : Shape} {c : Node} {l : List Node} → Part enums N K p t c l → Throughout Not c → Each Not l
      part-none (relation.enum {c = c} {list = list} {m = m} span part around has is here' n g get members) h =
          part-good Not P enums pieces span part around m refl (any-named around.name) (stands-none members (each-child Not (children_of c) (below Not h) 1 list get))
      part-none (relation.export {c = c} {d = d} has e get q) h = part-none q (each-child Not (children_of c) (below Not h) 0 d get)
      part-none (relation.member {skips = sk} {c = c} {init = init} {e = e} o span text has is get related g) h =
          member_in-good Not P enums pieces sk o span text e (any-named o) refl (stands-none related (each-child Not (children_of c) (below Not h) 1 init get))
