-- What is said of the children of a node is said of what is written of them.
use Rattle.std.proofs.Common.{◌≡◌, ◌∙◌, ◌⊎◌, inl, inr, ℕ, zero, suc, Bool, true, false, ◌&&◌, ◌||◌, List, [], ◌∷◌, length, map, Option, Some, None, refl, sym, ap, ap₂, subst, slice_get}
use Rattle.std.specs.List.{list_all, list_any}
use Rattle.std.specs.Prelude.{int_lt, pos, if◌then◌else◌}
use Rattle.ecma_kind.specs.declared.ident.Ident.{Ident}
use Rattle.ecma_kind.specs.declared.kind.Kind.{Kind}
use Rattle.ecma_kind.specs.declared.kind.Kind.TheVariants as kind
use Rattle.ecma_kind.specs.declared.operators.BinaryOp.TheVariants as binary
use Rattle.ecma_kind.specs.declared.operators.UnaryOp.TheVariants as unary
use Rattle.ecma_kind.specs.declared.shapes.Shape.{Shape}
use Rattle.ecma_kind.specs.declared.span.Span.{Span}
use Rattle.ecma_number.specs.Arithmetic.{unary_minus_of}
use Rattle.ecma_number.specs.declared.js_number.JsNumber.{JsNumber}
use Rattle.ecma_number.specs.declared.js_number.JsNumber.TheVariants as number
use Rattle.ecma_tree.specs.Laws.{HaveShapes}
use Rattle.ecma_tree.specs.Idents.{ident_node}
use Rattle.ecma_tree.specs.Nodes.{dummy_span, node_of}
use Rattle.ecma_tree.specs.Sorted.{allows, child_shapes, is_absent, is_list, item_shape}
use Rattle.ecma_tree.specs.declared.node.Node.{Node, Node-F, fold_out-Node}
use Rattle.ecma_tree.specs.declared.node.Node.TheViews.{out-roll-Node}
use Rattle.ecma_rules.specs.Children.{children_of as items_of, holds_of, is_present, kind_of, of_kind}
use Rattle.ecma_rules.specs.Targets.{first_is}
use Rattle.ecma_fits.specs.Branches.{holds_at, holds_at_last, last_part, takes_else, takes_else_step}
use Rattle.ecma_fits.specs.Chains.{goes_on, goes_on_step, is_link, keeps_chain}
use Rattle.ecma_rewriting.proofs.Equations.{list-kind}
use Rattle.ecma_strip_fits.proofs.Walk.{shape_parts}
use Rattle.ecma_utils.specs.Expressions.{key_of}
use Rattle.ecma_enums.specs.Values.{expression, minus, number_expression, numeral, one as one_number, text_literal, undefined, zero as zero_number}
use Rattle.ecma_enums.specs.declared.value.TsEnumRecordValue.{TsEnumRecordValue}
use Rattle.ecma_enums.specs.declared.value.TsEnumRecordValue.TheVariants as value
use Rattle.ecma_lower_enums.specs.declared.known.KnownEnums.{KnownEnums}
use Rattle.ecma_lower_enums.specs.declared.place.Place.{Place}
use Rattle.ecma_lower_enums.specs.declared.place.Place.TheVariants as place
use Rattle.ecma_lower_enums.specs.Forms.{member}
use Rattle.ecma_lower_enums.specs.Places.{is_several}
use Rattle.ecma_lower_enums.specs.Writing.{with_default}
use Rattle.ecma_lower_enums_sources.proofs.Relation.{Items, Ones, Part, Said, Stands, children_of, is_members, is_name, is_read, is_target}
use Rattle.ecma_lower_enums_sources.proofs.Relation as relation
use Rattle.ecma_lower_enums_sources.proofs.Sorted.{Each, name-there, read-there, target-there}
use Rattle.ecma_lower_enums_sources.proofs.Suiting.{no}

-- the kind of a node that is made
pub made-kind : (span : Span) (k : Kind) (cs : List Node) → kind_of (node_of span k cs) ≡ k
made-kind span k cs = ap (λ (z : Node-F Node). z.kind) (out-roll-Node (record { span = span; kind = k; children = cs }))

-- ---- what is written for a name or a read

-- a literal, an operator or a member
abbrev pub is_said : Kind → Bool
is_said (kind.Str text raw) = true
is_said (kind.Number n raw) = true
is_said (kind.UnaryExpr op) = true
is_said (kind.BinExpr op) = true
is_said kind.MemberExpr = true
is_said kind.KeyValueProp = true
is_said kind.KeyValuePatProp = true
is_said _ = false

abbrev pub is_left_out : Kind → Bool
is_left_out (kind.Ident sym ctxt optional) = true
is_left_out kind.MemberExpr = true
is_left_out kind.BindingIdent = true
is_left_out kind.AssignPatProp = true
is_left_out _ = false

left-read : (k : Kind) → is_read k ≡ true → is_left_out k ≡ true
left-read (kind.Ident sym ctxt optional) h = refl
left-read kind.MemberExpr h = refl
left-read _ h = no h

left-target : (k : Kind) → is_target k ≡ true → is_left_out k ≡ true
left-target (kind.Ident sym ctxt optional) h = refl
left-target kind.BindingIdent h = refl
left-target _ h = no h

left-name : (k : Kind) → is_name k ≡ true → is_left_out k ≡ true
left-name (kind.Ident sym ctxt optional) h = refl
left-name _ h = no h

kind-said : (span : Span) (k : Kind) (cs : List Node) → is_said k ≡ true → is_said (kind_of (node_of span k cs)) ≡ true
kind-said span k cs h = ap is_said (made-kind span k cs) ∙ h

whole-said : (b : Bool) (x y : JsNumber) → is_said (kind_of (if b then minus (numeral (Some x)) else numeral (Some y))) ≡ true
whole-said true x y = kind-said dummy_span (kind.UnaryExpr unary.Minus) (numeral (Some x) ∷ []) refl
whole-said false x y = kind-said dummy_span (kind.Number (Some y) None) [] refl

number-said : (n : JsNumber) → is_said (kind_of (number_expression n)) ≡ true
number-said (number.Whole n) = whole-said (int_lt n (pos 0)) (unary_minus_of (number.Whole n)) (number.Whole n)
number-said number.NegZero = kind-said dummy_span (kind.UnaryExpr unary.Minus) (numeral (Some zero_number) ∷ []) refl
number-said number.NaN = kind-said dummy_span (kind.BinExpr binary.Div) (numeral (Some zero_number) ∷ numeral (Some zero_number) ∷ []) refl
number-said number.Infinity = kind-said dummy_span (kind.BinExpr binary.Div) (numeral (Some one_number) ∷ numeral (Some zero_number) ∷ []) refl
number-said number.NegInfinity = kind-said dummy_span (kind.BinExpr binary.Div) (minus (numeral (Some one_number)) ∷ numeral (Some zero_number) ∷ []) refl

value-said : (v : TsEnumRecordValue) (e : Node) → expression v ≡ Some e → is_said (kind_of e) ≡ true
value-said (value.String text) e is = let same : text_literal text ≡ e = cc in subst (λ z. is_said (kind_of z) ≡ true) same (kind-said dummy_span (kind.Str text None) [] refl)
value-said (value.Number n) e is = let same : number_expression n ≡ e = cc in subst (λ z. is_said (kind_of z) ≡ true) same (number-said n)
value-said value.Opaque e is = cc
value-said value.Void e is = let same : undefined ≡ e = cc in subst (λ z. is_said (kind_of z) ≡ true) same (kind-said dummy_span (kind.UnaryExpr unary.Void) (numeral (Some zero_number) ∷ []) refl)

module _ (enums : KnownEnums) (N : Ident → Type 0) (K : List ℕ → Type 0) where
  abbrev S : Place → Shape → Node → Node → Type 0
  S = Stands enums N K

  said-kind : {e : Node} → Said enums N K e → is_said (kind_of e) ≡ true
  said-kind {e} (relation.value v is) = value-said v e is
  said-kind (relation.named of sym n k) = kind-said dummy_span kind.MemberExpr (ident_node of ∷ key_of dummy_span sym ∷ []) refl

  -- it is the same node, or one kind for another
  pub exchanged : {p : Place} {t : Shape} {a b : Node} → S p t a b → (kind_of b ≡ kind_of a) ⊎ ((is_left_out (kind_of a) ≡ true) × (is_said (kind_of b) ≡ true))
  exchanged (relation.left has calm) = inl refl
  exchanged (relation.kept has calm l e at ones) = inl e
  exchanged (relation.listed has e f at items) = inl (f ∙ sym e)
  exchanged {a = a} (relation.read has suit is said) = inr (left-read (kind_of a) is, said-kind said)
  exchanged {a = a} (relation.target of text has suit is n k) = inr (left-target (kind_of a) is, kind-said dummy_span kind.MemberExpr (ident_node of ∷ key_of dummy_span text ∷ []) refl)
  exchanged {a = a} (relation.short {e = e} span text has suit is k said) = inr (left-name (kind_of a) is, kind-said span kind.KeyValueProp (key_of span text ∷ e ∷ []) refl)
  exchanged (relation.patterned {y = y} span at of text has suit is get v n k) =
      inr (ap is_left_out is, kind-said span kind.KeyValuePatProp (key_of at text ∷ with_default span (member of text) y ∷ []) refl)

  -- what is the same of these kinds
  pub same-of : (A : Type 0) (f : Kind → A) (x : A) → ((k : Kind) → is_left_out k ≡ true → f k ≡ x) → ((k : Kind) → is_said k ≡ true → f k ≡ x) → {p : Place} {t : Shape} {a b : Node} → S p t a b → f (kind_of b) ≡ f (kind_of a)
  same-of A f x l r {a = a} {b = b} s = by (exchanged s)
    where
      by : (kind_of b ≡ kind_of a) ⊎ ((is_left_out (kind_of a) ≡ true) × (is_said (kind_of b) ≡ true)) → f (kind_of b) ≡ f (kind_of a)
      by (inl e) = ap f e
      by (inr h) = r (kind_of b) h.1 ∙ sym (l (kind_of a) h.0)

  -- in all other places the kind stays
  pub other-kind : {t : Shape} {a b : Node} → S place.Other t a b → kind_of b ≡ kind_of a
  other-kind (relation.left has calm) = refl
  other-kind (relation.kept has calm l e at ones) = e
  other-kind (relation.listed has e f at items) = f ∙ sym e

  left-present : (k : Kind) → is_left_out k ≡ true → is_present k ≡ true
  left-present kind.Absent h = no h
  left-present _ h = refl

  said-present : (k : Kind) → is_said k ≡ true → is_present k ≡ true
  said-present kind.Absent h = no h
  said-present _ h = refl

  pub present-same : {p : Place} {t : Shape} {a b : Node} → S p t a b → is_present (kind_of b) ≡ is_present (kind_of a)
  present-same s = same-of Bool is_present true left-present said-present s

  -- ---- children by their index

  pub holds-same : (test : Node → Bool) → ((p : Place) (t : Shape) (c d : Node) → S p t c d → test d ≡ test c) → {f : ℕ → Place} {ts : List Shape} {cs ds : List Node} → Ones enums N K f ts cs ds → (i : ℕ)
      → holds_of test (slice_get ds i) ≡ holds_of test (slice_get cs i)
  holds-same test same relation.none i = refl
  holds-same test same {f} (relation.more {t = t} {c = c} {d = d} o os) zero = same (f 0) t c d o
  holds-same test same (relation.more o os) (suc i) = holds-same test same os i

  pub present-at : {f : ℕ → Place} {ts : List Shape} {cs ds : List Node} → Ones enums N K f ts cs ds → (i : ℕ) → of_kind is_present (slice_get ds i) ≡ of_kind is_present (slice_get cs i)
  present-at relation.none i = refl
  present-at (relation.more o os) zero = present-same o
  present-at (relation.more o os) (suc i) = present-at os i

  -- of a child in another place
  pub kind-at : (is : Kind → Bool) {f : ℕ → Place} {ts : List Shape} {cs ds : List Node} → Ones enums N K f ts cs ds → (i : ℕ) → f i ≡ place.Other → of_kind is (slice_get ds i) ≡ of_kind is (slice_get cs i)
  kind-at is relation.none i e = refl
  kind-at is {f} (relation.more {t = t} {c = c} {d = d} o os) zero e = ap is (other-kind (subst (λ z. S z t c d) e o))
  kind-at is (relation.more o os) (suc i) e = kind-at is os i e

  pub ones-length : {f : ℕ → Place} {ts : List Shape} {cs ds : List Node} → Ones enums N K f ts cs ds → length ds ≡ length cs
  ones-length relation.none = refl
  ones-length (relation.more o os) = ap suc (ones-length os)

  -- ---- lists of which each item becomes one

  pub data Both : Place → Shape → List Node → List Node → Type 0 where
    nothing : {p : Place} {t : Shape} → Both p t [] []
    another : {p : Place} {t : Shape} {c d : Node} {cs ds : List Node} → S p t c d → Both p t cs ds → Both p t (c ∷ cs) (d ∷ ds)

  left-both : {p : Place} (t : Shape) (cs : List Node) → is_members p ≡ false → Each t cs → Both p t cs cs
  left-both t [] calm have = nothing
  left-both t (c ∷ cs) calm have = another (relation.left have.0 calm) (left-both t cs calm have.1)

  pub part-several : {p : Place} {t : Shape} {c : Node} {l : List Node} → Part enums N K p t c l → is_several p ≡ true
  part-several (relation.enum span part around has is here n g at members) = refl
  part-several (relation.export has e get q) = refl
  part-several (relation.member o span text has is get related g) = refl

  pub items-both : {p : Place} {t : Shape} {cs ds : List Node} → Items enums N K p t cs ds → is_several p ≡ false → Both p t cs ds
  items-both relation.empty h = nothing
  items-both (relation.item o os) h = another o (items-both os h)
  items-both (relation.part q os is) h = no (sym h ∙ part-several q)

  pub list-both : {p : Place} {t : Shape} {a b : Node} → S p t a b → is_list (kind_of a) ≡ true → is_several p ≡ false → Both p (item_shape t) (children_of a) (children_of b)
  list-both {t = t} {a = a} (relation.left has calm) l h =
      left-both (item_shape t) (children_of a) calm (subst (λ z. HaveShapes (child_shapes z t (length (children_of a))) (children_of a)) (list-kind (kind_of a) l) (shape_parts a t has).1)
  list-both (relation.kept has calm o e at ones) l h = no (sym o ∙ l)
  list-both (relation.listed has e f at items) l h = items-both items h
  list-both {a = a} (relation.read has suit is said) l h = no (sym (read-there (kind_of a) is).0 ∙ l)
  list-both {a = a} (relation.target of text has suit is n k) l h = no (sym (target-there (kind_of a) is).0 ∙ l)
  list-both {a = a} (relation.short span text has suit is k said) l h = no (sym (name-there (kind_of a) is).0 ∙ l)
  list-both (relation.patterned span at of text has suit is get v n k) l h = no (sym (ap is_list is) ∙ l)

  -- the items of the list that is a child
  pub items-at-both : {f : ℕ → Place} {ts : List Shape} {cs ds : List Node} → Ones enums N K f ts cs ds → HaveShapes ts cs → (i : ℕ) (u : Shape) (p : Place) → slice_get ts i ≡ Some u → f i ≡ p → is_several p ≡ false
      → ((k : Kind) → allows u k ≡ true → is_list k ≡ true) → Both p (item_shape u) (items_of (slice_get cs i)) (items_of (slice_get ds i))
  items-at-both relation.none have i u p get e h is = nothing
  items-at-both {f} (relation.more {t = t} {c = c} {d = d} o os) have zero u p get e h is =
      let same : t ≡ u = cc in
      let o' = subst (λ z. S z t c d) e o in
      subst (λ (z : Shape). Both p (item_shape z) (children_of c) (children_of d)) same
      (list-both o' (is (kind_of c) (subst (λ (z : Shape). allows z (kind_of c) ≡ true) same (shape_parts c t have.0).0)) h)
  items-at-both (relation.more o os) have (suc i) u p get e h is = items-at-both os have.1 i u p get e h is

  pub both-length : {p : Place} {t : Shape} {cs ds : List Node} → Both p t cs ds → length ds ≡ length cs
  both-length nothing = refl
  both-length (another o os) = ap suc (both-length os)

  pub all-both : (test : Node → Bool) {p : Place} {t : Shape} {cs ds : List Node} → ((c d : Node) → S p t c d → test d ≡ test c) → Both p t cs ds → list_all test ds ≡ list_all test cs
  all-both test same nothing = refl
  all-both test same (another {c = c} {d = d} o os) = ap₂ (λ a b. a && b) (same c d o) (all-both test same os)

  pub any-both : (test : Node → Bool) {p : Place} {t : Shape} {cs ds : List Node} → ((c d : Node) → S p t c d → test d ≡ test c) → Both p t cs ds → list_any test ds ≡ list_any test cs
  any-both test same nothing = refl
  any-both test same (another {c = c} {d = d} o os) = ap₂ (λ a b. a || b) (same c d o) (any-both test same os)

  -- ---- what is made from the leaves up

  quiet-goes : (n : Node) → is_link (kind_of n) ≡ false → keeps_chain (kind_of n) ≡ false → goes_on n ≡ false
  quiet-goes n l c = fold_out-Node Bool goes_on_step n ∙ ap₂ (λ a b. a || (b && first_is (map goes_on (children_of n)))) l c

  left-quiet : (k : Kind) → is_left_out k ≡ true → (is_link k ≡ false) × (keeps_chain k ≡ false) × (is_absent k ≡ false) × (last_part k ≡ None)
  left-quiet (kind.Ident sym ctxt optional) h = (refl, refl, refl, refl)
  left-quiet kind.MemberExpr h = (refl, refl, refl, refl)
  left-quiet kind.BindingIdent h = (refl, refl, refl, refl)
  left-quiet kind.AssignPatProp h = (refl, refl, refl, refl)
  left-quiet _ h = no h

  said-quiet : (k : Kind) → is_said k ≡ true → (is_link k ≡ false) × (keeps_chain k ≡ false) × (is_absent k ≡ false) × (last_part k ≡ None)
  said-quiet (kind.Str text raw) h = (refl, refl, refl, refl)
  said-quiet (kind.Number n raw) h = (refl, refl, refl, refl)
  said-quiet (kind.UnaryExpr op) h = (refl, refl, refl, refl)
  said-quiet (kind.BinExpr op) h = (refl, refl, refl, refl)
  said-quiet kind.MemberExpr h = (refl, refl, refl, refl)
  said-quiet kind.KeyValueProp h = (refl, refl, refl, refl)
  said-quiet kind.KeyValuePatProp h = (refl, refl, refl, refl)
  said-quiet _ h = no h

  both-quiet : {p : Place} {t : Shape} {a b : Node} → S p t a b → is_left_out (kind_of a) ≡ true → is_said (kind_of b) ≡ true → (goes_on b ≡ goes_on a) × (takes_else b ≡ takes_else a)
  both-quiet {a = a} {b = b} s l r =
      let x = left-quiet (kind_of a) l in
      let y = said-quiet (kind_of b) r in
      (quiet-goes b y.0 y.1 ∙ sym (quiet-goes a x.0 x.1), quiet-else b y.2 y.3 ∙ sym (quiet-else a x.2 x.3))
    where
      quiet-else : (n : Node) → is_absent (kind_of n) ≡ false → last_part (kind_of n) ≡ None → takes_else n ≡ false
      quiet-else n a l = fold_out-Node Bool takes_else_step n ∙ ap₂ (λ x y. x || holds_at_last (map takes_else (children_of n)) y) a l

  mutual
    pub goes-same : {p : Place} {t : Shape} {a b : Node} → S p t a b → goes_on b ≡ goes_on a
    goes-same (relation.left has calm) = refl
    goes-same {a = a} {b = b} (relation.kept has calm l e at ones) =
        fold_out-Node Bool goes_on_step b
        ∙ ap (λ k. is_link k || (keeps_chain k && first_is (map goes_on (children_of b)))) e
        ∙ ap (λ z. is_link (kind_of a) || (keeps_chain (kind_of a) && z)) (first-goes ones)
        ∙ sym (fold_out-Node Bool goes_on_step a)
    goes-same {a = a} {b = b} (relation.listed has e f at items) =
        quiet-goes b (ap is_link f) (ap keeps_chain f) ∙ sym (quiet-goes a (ap is_link e) (ap keeps_chain e))
    goes-same {a = a} (relation.read has suit is said) = (both-quiet (relation.read has suit is said) (left-read (kind_of a) is) (said-kind said)).0
    goes-same {a = a} (relation.target of text has suit is n k) =
        (both-quiet (relation.target of text has suit is n k) (left-target (kind_of a) is) (kind-said dummy_span kind.MemberExpr (ident_node of ∷ key_of dummy_span text ∷ []) refl)).0
    goes-same {a = a} (relation.short {e = e} span text has suit is k said) =
        (both-quiet (relation.short span text has suit is k said) (left-name (kind_of a) is) (kind-said span kind.KeyValueProp (key_of span text ∷ e ∷ []) refl)).0
    goes-same {a = a} (relation.patterned {y = y} span at of text has suit is get v n k) =
        (both-quiet (relation.patterned span at of text has suit is get v n k) (ap is_left_out is) (kind-said span kind.KeyValuePatProp (key_of at text ∷ with_default span (member of text) y ∷ []) refl)).0

    first-goes : {f : ℕ → Place} {ts : List Shape} {cs ds : List Node} → Ones enums N K f ts cs ds → first_is (map goes_on ds) ≡ first_is (map goes_on cs)
    first-goes relation.none = refl
    first-goes (relation.more o os) = goes-same o

  last-of : (xs ys : List Bool) → ((i : ℕ) → holds_at xs i ≡ holds_at ys i) → (o : Option ℕ) → holds_at_last xs o ≡ holds_at_last ys o
  last-of xs ys each None = refl
  last-of xs ys each (Some i) = each i

  -- whether an outer `else` would be its own
  mutual
    pub else-same : {p : Place} {t : Shape} {a b : Node} → S p t a b → takes_else b ≡ takes_else a
    else-same (relation.left has calm) = refl
    else-same {a = a} {b = b} (relation.kept has calm l e at ones) =
        fold_out-Node Bool takes_else_step b
        ∙ ap (λ k. is_absent k || holds_at_last (map takes_else (children_of b)) (last_part k)) e
        ∙ ap (λ z. is_absent (kind_of a) || z) (last-of (map takes_else (children_of b)) (map takes_else (children_of a)) (each-else ones) (last_part (kind_of a)))
        ∙ sym (fold_out-Node Bool takes_else_step a)
    else-same {a = a} {b = b} (relation.listed has e f at items) =
        fold_out-Node Bool takes_else_step b ∙ ap (λ k. is_absent k || holds_at_last (map takes_else (children_of b)) (last_part k)) f
        ∙ sym (fold_out-Node Bool takes_else_step a ∙ ap (λ k. is_absent k || holds_at_last (map takes_else (children_of a)) (last_part k)) e)
    else-same {a = a} (relation.read has suit is said) = (both-quiet (relation.read has suit is said) (left-read (kind_of a) is) (said-kind said)).1
    else-same {a = a} (relation.target of text has suit is n k) =
        (both-quiet (relation.target of text has suit is n k) (left-target (kind_of a) is) (kind-said dummy_span kind.MemberExpr (ident_node of ∷ key_of dummy_span text ∷ []) refl)).1
    else-same {a = a} (relation.short {e = e} span text has suit is k said) =
        (both-quiet (relation.short span text has suit is k said) (left-name (kind_of a) is) (kind-said span kind.KeyValueProp (key_of span text ∷ e ∷ []) refl)).1
    else-same {a = a} (relation.patterned {y = y} span at of text has suit is get v n k) =
        (both-quiet (relation.patterned span at of text has suit is get v n k) (ap is_left_out is) (kind-said span kind.KeyValuePatProp (key_of at text ∷ with_default span (member of text) y ∷ []) refl)).1

    each-else : {f : ℕ → Place} {ts : List Shape} {cs ds : List Node} → Ones enums N K f ts cs ds → (i : ℕ) → holds_at (map takes_else ds) i ≡ holds_at (map takes_else cs) i
    each-else relation.none i = refl
    each-else (relation.more o os) zero = else-same o
    each-else (relation.more o os) (suc i) = each-else os i
