-- In a sorted module types stand round expressions that are the same to their scopes without them.
use Rattle.std.proofs.Common.{◌≡◌, ℕ, zero, suc, Bool, true, false, ◌||◌, not, List, [], ◌∷◌, map, length, replicate, refl, sym, ap, ◌∙◌, subst}
use Rattle.std.specs.List.{All}
use Rattle.std.proofs.lemmas.List.Elements.{All-append, All-cons, All-nil}
use Rattle.ecma_kind.specs.Sorts.{belongs, is_type_wrapper}
use Rattle.ecma_kind.specs.declared.kind.Kind.{Kind}
use Rattle.ecma_kind.specs.declared.kind.Kind.TheVariants as kind
use Rattle.ecma_kind.specs.declared.shapes.Count.{Count}
use Rattle.ecma_kind.specs.declared.shapes.Count.TheVariants.{One, Maybe, Many, MaybeMany, Holes}
use Rattle.ecma_kind.specs.declared.shapes.Shape.{Shape}
use Rattle.ecma_kind.specs.declared.shapes.Sort.{Sort}
use Rattle.ecma_kind.specs.declared.shapes.Sort.TheVariants as sort
use Rattle.ecma_tree.specs.Laws.{HaveShapes}
use Rattle.ecma_tree.specs.Sorted.{HasShape, HasSort, allows_by, child_shapes, item_shape, one}
use Rattle.ecma_tree.specs.declared.node.Node.{Node, Node-F, ind-Node, out-Node, roll-Node}
use Rattle.ecma_tree.specs.declared.node.Node.TheViews.{out-roll-Node}
use Rattle.ecma_scope.specs.declared.role.Role.{Role}
use Rattle.ecma_scope.specs.declared.role.Role.TheVariants as role
use Rattle.ecma_scope.specs.Scopes.{is_there, of_specifier, passes_in_list, role_by, role_in}
use Rattle.ecma_hygiene.specs.Walks.{gathered_from}
use Rattle.ecma_hygiene.proofs.Telling.{true-false}
use Rattle.ecma_hygiene.proofs.Walking.{gathered-out}
use Rattle.ecma_hygiene_scopes.specs.Seats.{Seat, seat_here, seats_at}
use Rattle.ecma_strip_scopes.specs.Apart.{IsWrapped, is_free}
use Rattle.ecma_strip_scopes.proofs.Going.{parts-have}

-- ---- sorts whose nodes may have types round them

abbrev pub takes_types : Sort → Bool
takes_types s = belongs s kind.TsAsExpr

assertion-same : (s : Sort) → belongs s kind.TsTypeAssertion ≡ takes_types s
assertion-same sort.Program = refl
assertion-same _ = refl

const-same : (s : Sort) → belongs s kind.TsConstAssertion ≡ takes_types s
const-same sort.Program = refl
const-same _ = refl

non-null-same : (s : Sort) → belongs s kind.TsNonNullExpr ≡ takes_types s
non-null-same sort.Program = refl
non-null-same _ = refl

instantiation-same : (s : Sort) → belongs s kind.TsInstantiation ≡ takes_types s
instantiation-same sort.Program = refl
instantiation-same _ = refl

satisfies-same : (s : Sort) → belongs s kind.TsSatisfiesExpr ≡ takes_types s
satisfies-same sort.Program = refl
satisfies-same _ = refl

pub belongs-same : (s : Sort) (k : Kind) → is_type_wrapper k ≡ true → belongs s k ≡ true → takes_types s ≡ true
belongs-same s kind.TsTypeAssertion is h = sym (assertion-same s) ∙ h
belongs-same s kind.TsConstAssertion is h = sym (const-same s) ∙ h
belongs-same s kind.TsNonNullExpr is h = sym (non-null-same s) ∙ h
belongs-same s kind.TsAsExpr is h = h
belongs-same s kind.TsInstantiation is h = sym (instantiation-same s) ∙ h
belongs-same s kind.TsSatisfiesExpr is h = sym (satisfies-same s) ∙ h
belongs-same s _ is h = absurd (true-false is refl)

allows-same : (c : Count) (s : Sort) (k : Kind) → is_type_wrapper k ≡ true → allows_by c s k ≡ true → takes_types s ≡ true
allows-same One s k is h = belongs-same s k is h
allows-same Maybe s kind.Absent is h = absurd (true-false is refl)
allows-same Maybe s k is h = belongs-same s k is h
allows-same Many s kind.List is h = absurd (true-false is refl)
allows-same Many s _ is h = absurd (true-false h refl)
allows-same MaybeMany s kind.List is h = absurd (true-false is refl)
allows-same MaybeMany s kind.Absent is h = absurd (true-false is refl)
allows-same MaybeMany s _ is h = absurd (true-false h refl)
allows-same Holes s kind.List is h = absurd (true-false is refl)
allows-same Holes s _ is h = absurd (true-false h refl)

-- ---- roles and shapes

abbrev RoleFits : Role → Shape → Type 0
RoleFits r shape = (is_free r || not (takes_types shape.sort)) ≡ true

abbrev RolesFit : (ℕ → Role) → ℕ → List Shape → Type 0
RolesFit roles i [] = Unit {0}
RolesFit roles i (s ∷ shapes) = RoleFits (roles i) s × RolesFit roles (suc i) shapes

or-true : (b : Bool) → (b || true) ≡ true
or-true true = refl
or-true false = refl

in-list : (r : Role) (b : Bool) → (is_free r || b) ≡ true → (is_free (passes_in_list r) || b) ≡ true
in-list role.Sourced b h = h
in-list role.Ambient b h = h
in-list _ b h = refl

list-fit : (r : Role) (shape : Shape) (n i : ℕ) → RoleFits r shape → RolesFit (λ j. passes_in_list r) i (replicate n (item_shape shape))
list-fit r shape zero i h = tt
list-fit r shape (suc n) i h = (in-list r (not (takes_types shape.sort)) h, list-fit r shape n (suc i) h)

plain-fit : (i : ℕ) (shapes : List Shape) → RolesFit (λ j. role.Plain) i shapes
plain-fit i [] = tt
plain-fit i (s ∷ shapes) = (refl, plain-fit (suc i) shapes)

roles-fit : (r : Role) (k : Kind) (sourced : Bool) (shape : Shape) (n : ℕ) → RoleFits r shape → RolesFit (λ i. role_by r k sourced i) 0 (child_shapes k shape n)
unfolding role_by
roles-fit r kind.List sourced shape n h = list-fit r shape n 0 h
roles-fit r kind.LabeledStmt sourced shape n h = (refl, (refl, tt))
roles-fit r kind.BreakStmt sourced shape n h = (refl, tt)
roles-fit r kind.ContinueStmt sourced shape n h = (refl, tt)
roles-fit r (kind.ImportNamedSpecifier t) sourced shape n h = (refl, (refl, tt))
roles-fit r (kind.ExportNamedSpecifier t) sourced shape n h = (or-true (is_free (of_specifier r 0)), (or-true (is_free (of_specifier r 1)), tt))
roles-fit r kind.ExportNamespaceSpecifier sourced shape n h = (refl, tt)
roles-fit r kind.ExportDefaultSpecifier sourced shape n h = (refl, tt)
roles-fit r (kind.NamedExport t) true shape n h = (refl, (refl, (refl, tt)))
roles-fit r (kind.NamedExport t) false shape n h = (refl, (refl, (refl, tt)))
roles-fit r (kind.Function g a) sourced shape n h = (refl, (refl, (refl, (refl, tt))))
roles-fit r (kind.ArrowExpr a g) sourced shape n h = (refl, (refl, (refl, (refl, tt))))
roles-fit r (kind.Constructor a o) sourced shape n h = (refl, (refl, (refl, tt)))
roles-fit r kind.GetterProp sourced shape n h = (refl, (refl, (refl, tt)))
roles-fit r kind.SetterProp sourced shape n h = (refl, (refl, (refl, (refl, tt))))
roles-fit r kind.StaticBlock sourced shape n h = (refl, tt)
roles-fit r kind.CatchClause sourced shape n h = (refl, (refl, tt))
roles-fit r kind.ExportDefaultDecl sourced shape n h = (refl, tt)
roles-fit r kind.ExportDecl sourced shape n h = (or-true (is_free (role_by r kind.ExportDecl sourced 0)), tt)
roles-fit r (kind.TsModuleDecl d g) sourced shape n h = (or-true (is_free (role_by r (kind.TsModuleDecl d g) sourced 0)), (or-true (is_free (role_by r (kind.TsModuleDecl d g) sourced 1)), tt))
roles-fit r (kind.TsNamespaceDecl d g) sourced shape n h = (or-true (is_free (role_by r (kind.TsNamespaceDecl d g) sourced 0)), (or-true (is_free (role_by r (kind.TsNamespaceDecl d g) sourced 1)), tt))
roles-fit r kind.TsModuleBlock sourced shape n h = (or-true (is_free (role_by r kind.TsModuleBlock sourced 0)), tt)
roles-fit r k sourced shape n h = plain-fit 0 (child_shapes k shape n)

-- ---- a tree

free-by : (a b : Bool) → (a || not b) ≡ true → b ≡ true → a ≡ true
free-by true b h is = refl
free-by false true h is = absurd (true-false h refl)
free-by false false h is = absurd (true-false is refl)

abbrev Wraps : Node → Type 0
Wraps n = (r : Role) (shape : Shape) → HasShape shape n → RoleFits r shape → All IsWrapped (seats_at n r)

abbrev AllWrap : List Node → Type 0
AllWrap ns = (roles : ℕ → Role) (i : ℕ) (shapes : List Shape) → HaveShapes shapes ns → RolesFit roles i shapes → All IsWrapped (gathered_from Role Seat roles i (map seats_at ns))

all-wrap : (ns : List ((n : Node) × Wraps n)) → AllWrap (map (λ e. e.0) ns)
all-wrap [] roles i shapes have fit = All-nil IsWrapped
all-wrap (n ∷ ns) roles i [] have fit = absurd have
all-wrap (n ∷ ns) roles i (s ∷ shapes) have fit =
    All-append IsWrapped (seats_at n.0 (roles i)) (gathered_from Role Seat roles (suc i) (map seats_at (map (λ e. e.0) ns))) (n.1 (roles i) s have.0 fit.0) (all-wrap ns roles (suc i) shapes have.1 fit.1)

layer-wraps : (n : Node) → AllWrap (out-Node n).children → Wraps n
layer-wraps n children r shape has fit =
    let k : Kind = (out-Node n).kind in
    let count : ℕ = length (out-Node n).children in
    let parts = parts-have n shape has in
    subst (All IsWrapped) (sym (gathered-out Role Seat seat_here role_in n r))
    (All-cons IsWrapped (record { role = r; node = n }) (gathered_from Role Seat (role_in r n) 0 (map seats_at (out-Node n).children))
    (λ is. free-by (is_free r) (takes_types shape.sort) fit (allows-same shape.count shape.sort k is parts.0))
    (children (role_in r n) 0 (child_shapes k shape count) parts.1 (roles-fit r k (is_there (out-Node n).children 1) shape count fit)))

wraps : (n : Node) → Wraps n
wraps = ind-Node Wraps (λ x y is.
    layer-wraps (roll-Node x) (subst AllWrap (ap (λ (z : Node-F Node). z.children) is ∙ sym (ap (λ (z : Node-F Node). z.children) (out-roll-Node x))) (all-wrap y.children)))

pub module-wraps : (tree : Node) → HasSort sort.Module tree → All IsWrapped (seats_at tree role.Root)
module-wraps tree has = wraps tree role.Root (one sort.Module) has refl
