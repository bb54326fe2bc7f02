-- What a kind says of scopes it says without types.
use Rattle.std.proofs.Common.{◌≡◌, ℕ, Bool, true, false, ◌||◌, not, List, [], ◌∷◌, map, refl, ap, ◌∙◌}
use Rattle.ecma_kind.specs.Sorts.{is_type_wrapper}
use Rattle.ecma_kind.specs.declared.kind.Kind.{Kind}
use Rattle.ecma_kind.specs.declared.kind.Kind.TheVariants as kind
use Rattle.ecma_kind.specs.declared.shapes.Shape.{Shape}
use Rattle.ecma_kind.specs.declared.shapes.Sort.TheVariants as sort
use Rattle.ecma_kind.specs.declared.span.Span.{Span}
use Rattle.ecma_tree.specs.Laws.{HaveShapes}
use Rattle.ecma_tree.specs.Sorted.{HasShape, allows, child_shapes, is_absent, is_list, maybe, one}
use Rattle.ecma_tree.specs.declared.node.Node.{Node, out-Node}
use Rattle.ecma_scope.specs.declared.role.Role.{Role}
use Rattle.ecma_scope.specs.declared.role.Role.TheVariants as role
use Rattle.ecma_scope.specs.Scopes.{covers, is_there, opens_by, role_by}
use Rattle.ecma_strip.specs.Stripping.{plain, plain_children, plain_kind, staying_nodes, stripped}
use Rattle.ecma_strip.proofs.Stripping.{stripped-out}
use Rattle.ecma_hygiene.proofs.Telling.{true-false}
use Rattle.ecma_hygiene_scopes.proofs.Parts.{kind-of}
use Rattle.ecma_strip_scopes.proofs.Going.{parts-have}

-- ---- plain kinds

pub opens-plain : (r : Role) (k : Kind) (named : Bool) → opens_by r (plain_kind k) named ≡ opens_by r k named
unfolding plain_kind opens_by
opens-plain r kind.FnExpr named = refl
opens-plain r _ named = refl

pub covers-plain : (r : Role) (k : Kind) (i : ℕ) → covers r (plain_kind k) i ≡ covers r k i
unfolding plain_kind covers
covers-plain r kind.ClassExpr i = refl
covers-plain r _ i = refl

pub role-plain : (r : Role) (k : Kind) (sourced : Bool) (i : ℕ) → role_by r (plain_kind k) sourced i ≡ role_by r k sourced i
unfolding plain_kind role_by
role-plain r kind.List sourced i = refl
role-plain r _ sourced i = refl

-- ---- children that are there

same-absent : (k : Kind) → (allows (maybe sort.Ident) k || allows (maybe sort.Str) k) ≡ true → (span : Span) (cs : List Node) → is_absent (out-Node (plain span k cs)).kind ≡ is_absent k
unfolding plain plain_kind
same-absent kind.Absent h span cs = ap is_absent (kind-of span kind.Absent (plain_children kind.Absent cs))
same-absent (kind.Ident s c o) h span cs = ap is_absent (kind-of span (kind.Ident s c false) (plain_children (kind.Ident s c o) cs))
same-absent (kind.Str v r) h span cs = ap is_absent (kind-of span (kind.Str v r) (plain_children (kind.Str v r) cs))
same-absent _ h span cs = absurd (true-false h refl)

absent-kept : (x : Node) → (allows (maybe sort.Ident) (out-Node x).kind || allows (maybe sort.Str) (out-Node x).kind) ≡ true → is_absent (out-Node (stripped x)).kind ≡ is_absent (out-Node x).kind
absent-kept x h =
    ap (λ (z : Node). is_absent (out-Node z).kind) (stripped-out x)
    ∙ same-absent (out-Node x).kind h (out-Node x).span (map stripped (staying_nodes (out-Node x).kind (out-Node x).children))

or-left : (a b : Bool) → a ≡ true → (a || b) ≡ true
or-left true b h = refl
or-left false b h = absurd (true-false h refl)

or-right : (a b : Bool) → b ≡ true → (a || b) ≡ true
or-right true b h = refl
or-right false b h = h

-- a function that is an expression has its name without types
pub opens-kept : (r : Role) (k : Kind) (shape : Shape) (n : ℕ) (ns : List Node) → HaveShapes (child_shapes k shape n) ns → opens_by r k (is_there (plain_children k (map stripped ns)) 0) ≡ opens_by r k (is_there ns 0)
unfolding opens_by plain_children
opens-kept r kind.FnExpr shape n (x ∷ xs) have =
    ap (λ (b : Bool). opens_by r kind.FnExpr (not b))
    (absent-kept x (or-left (allows (maybe sort.Ident) (out-Node x).kind) (allows (maybe sort.Str) (out-Node x).kind) (parts-have x (maybe sort.Ident) have.0).0))
opens-kept r kind.FnExpr shape n [] have = absurd have
opens-kept r _ shape n ns have = refl

-- and an export its source
pub role-kept : (r : Role) (k : Kind) (shape : Shape) (n : ℕ) (ns : List Node) → HaveShapes (child_shapes k shape n) ns → (i : ℕ) → role_by r k (is_there (plain_children k (map stripped ns)) 1) i ≡ role_by r k (is_there ns 1) i
unfolding role_by plain_children
role-kept r (kind.NamedExport t) shape n (x ∷ y ∷ xs) have i =
    ap (λ (b : Bool). role_by r (kind.NamedExport t) (not b) i)
    (absent-kept y (or-right (allows (maybe sort.Ident) (out-Node y).kind) (allows (maybe sort.Str) (out-Node y).kind) (parts-have y (maybe sort.Str) have.1.0).0))
role-kept r (kind.NamedExport t) shape n [] have i = absurd have
role-kept r (kind.NamedExport t) shape n (x ∷ []) have i = absurd have.1
role-kept r _ shape n ns have i = refl

-- ---- expressions with types round them

pub wrapper-some : (k : Kind) (shape : Shape) (n : ℕ) → is_type_wrapper k ≡ true → HaveShapes (child_shapes k shape n) [] → ⊥
wrapper-some kind.TsTypeAssertion shape n is have = have
wrapper-some kind.TsConstAssertion shape n is have = have
wrapper-some kind.TsNonNullExpr shape n is have = have
wrapper-some kind.TsAsExpr shape n is have = have
wrapper-some kind.TsInstantiation shape n is have = have
wrapper-some kind.TsSatisfiesExpr shape n is have = have
wrapper-some _ shape n is have = true-false is refl

pub wrapper-first : (k : Kind) (shape : Shape) (n : ℕ) (x : Node) (xs : List Node) → is_type_wrapper k ≡ true → HaveShapes (child_shapes k shape n) (x ∷ xs) → HasShape (one sort.Expr) x
wrapper-first kind.TsTypeAssertion shape n x xs is have = have.0
wrapper-first kind.TsConstAssertion shape n x xs is have = have.0
wrapper-first kind.TsNonNullExpr shape n x xs is have = have.0
wrapper-first kind.TsAsExpr shape n x xs is have = have.0
wrapper-first kind.TsInstantiation shape n x xs is have = have.0
wrapper-first kind.TsSatisfiesExpr shape n x xs is have = have.0
wrapper-first _ shape n x xs is have = absurd (true-false is refl)

pub wrapper-plain : (k : Kind) (span : Span) (x : Node) (xs : List Node) → is_type_wrapper k ≡ true → plain span k (map stripped (staying_nodes k (x ∷ xs))) ≡ stripped x
unfolding plain
wrapper-plain kind.TsTypeAssertion span x xs is = refl
wrapper-plain kind.TsConstAssertion span x xs is = refl
wrapper-plain kind.TsNonNullExpr span x xs is = refl
wrapper-plain kind.TsAsExpr span x xs is = refl
wrapper-plain kind.TsInstantiation span x xs is = refl
wrapper-plain kind.TsSatisfiesExpr span x xs is = refl
wrapper-plain _ span x xs is = absurd (true-false is refl)

pub wrapper-no-list : (k : Kind) → is_type_wrapper k ≡ true → is_list k ≡ false
wrapper-no-list kind.List is = absurd (true-false is refl)
wrapper-no-list _ is = refl

pub wrapper-opens : (r : Role) (k : Kind) (named : Bool) → is_type_wrapper k ≡ true → opens_by r k named ≡ false
unfolding opens_by
wrapper-opens r kind.TsTypeAssertion named is = refl
wrapper-opens r kind.TsConstAssertion named is = refl
wrapper-opens r kind.TsNonNullExpr named is = refl
wrapper-opens r kind.TsAsExpr named is = refl
wrapper-opens r kind.TsInstantiation named is = refl
wrapper-opens r kind.TsSatisfiesExpr named is = refl
wrapper-opens r _ named is = absurd (true-false is refl)

pub wrapper-role : (r : Role) (k : Kind) (sourced : Bool) (i : ℕ) → is_type_wrapper k ≡ true → role_by r k sourced i ≡ role.Plain
unfolding role_by
wrapper-role r kind.TsTypeAssertion sourced i is = refl
wrapper-role r kind.TsConstAssertion sourced i is = refl
wrapper-role r kind.TsNonNullExpr sourced i is = refl
wrapper-role r kind.TsAsExpr sourced i is = refl
wrapper-role r kind.TsInstantiation sourced i is = refl
wrapper-role r kind.TsSatisfiesExpr sourced i is = refl
wrapper-role r _ sourced i is = absurd (true-false is refl)
