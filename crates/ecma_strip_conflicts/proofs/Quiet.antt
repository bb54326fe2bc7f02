-- Nodes in which nothing is declared, and what lists and roles say.
use Rattle.std.proofs.Common.{◌≡◌, ℕ, Bool, true, false, not, cond, filter, List, [], ◌∷◌, ◌++◌, map, refl, sym, ap, ◌∙◌}
use Rattle.ecma_kind.specs.declared.kind.Kind.{Kind}
use Rattle.ecma_kind.specs.declared.kind.Kind.TheVariants as kind
use Rattle.ecma_kind.specs.declared.span.Span.{Span}
use Rattle.ecma_tree.specs.Nodes.{absent, node_of}
use Rattle.ecma_tree.specs.Sorted.{one}
use Rattle.ecma_tree.specs.declared.node.Node.{Node, out-Node}
use Rattle.ecma_scope.specs.declared.form.Part.TheVariants as part
use Rattle.ecma_scope.specs.declared.role.Role.{Role}
use Rattle.ecma_scope.specs.Conflicts.{Surrounding, clashes_in, clashing, meeting, redeclared_at, surrounds}
use Rattle.ecma_scope.specs.Declarations.{holds_vars}
use Rattle.ecma_scope.specs.Scopes.{is_there, opens, opens_by, role_by}
use Rattle.ecma_scope.proofs.Clashing.{redeclared_at-out}
use Rattle.ecma_strip.specs.Stripping.{plain_kind}
use Rattle.ecma_hygiene_scopes.specs.DeclaredIds.{ids_declared, scope_ids}
use Rattle.ecma_hygiene_scopes.proofs.Parts.{children-of, kind-of}
use Rattle.ecma_strip_scopes.proofs.RolesAlike.{Alike}
use Rattle.ecma_strip_scopes.proofs.ScopesDeclare.{vars-plain}

pub filter-all : (ns : List Node) → filter (λ n. true) ns ≡ ns
filter-all [] = refl
filter-all (n ∷ ns) = ap (λ (ms : List Node). n ∷ ms) (filter-all ns)

pub list-opens : (r : Role) (k : Kind) (named : Bool) → k ≡ kind.List → opens_by r k named ≡ false
unfolding opens_by
list-opens r k named is = ap (λ (z : Kind). opens_by r z named) is

pub list-role : (r : Role) (k : Kind) (one other : Bool) (i j : ℕ) → k ≡ kind.List → role_by r k one i ≡ role_by r k other j
unfolding role_by
list-role r k one other i j is = ap (λ (z : Kind). role_by r z one i) is ∙ sym (ap (λ (z : Kind). role_by r z other j) is)

pub first-none : {X : Type 0} (xs ys : List X) → xs ++ ys ≡ [] → xs ≡ []
first-none [] ys h = refl
first-none (x ∷ xs) ys h = cc

pub second-none : {X : Type 0} (xs ys : List X) → xs ++ ys ≡ [] → ys ≡ []
second-none [] ys h = h
second-none (x ∷ xs) ys h = cc

pub both-none : {X : Type 0} (xs ys : List X) → xs ≡ [] → ys ≡ [] → xs ++ ys ≡ []
both-none xs ys h k = λ j. h j ++ k j

-- a scope in two roles that are the same to it
pub role-ids : (r q : Role) (k : Kind) → Alike r q k → (m : Node) → (out-Node m).kind ≡ plain_kind k → scope_ids q m ≡ scope_ids r m
role-ids r q k alike m kind_st =
    let vars : holds_vars q (out-Node m).kind ≡ holds_vars r (out-Node m).kind = ap (holds_vars q) kind_st ∙ vars-plain q k ∙ alike.vars ∙ sym (vars-plain r k) ∙ sym (ap (holds_vars r) kind_st) in
    (λ j. ids_declared m (record { part = alike.own j; stays = not (alike.ambient j) }) ++ cond (vars j) (ids_declared m (record { part = part.Var; stays = not (alike.ambient j) })) [])

-- ---- what is there for nothing

quiet : (m : Node) (t : Surrounding) → (out-Node m).children ≡ [] → opens t.role m ≡ false → redeclared_at m t ≡ []
quiet m t none shut = redeclared_at-out m t ∙ (λ j. cond (shut j) (clashing t.role t.around [] (meeting t.role t.around m)) [] ++ clashes_in (surrounds t m) 0 (map redeclared_at (none j)))

quiet-of : (span : Span) (k : Kind) (t : Surrounding) → ((named : Bool) → opens_by t.role k named ≡ false) → redeclared_at (node_of span k []) t ≡ []
quiet-of span k t shut =
    quiet (node_of span k []) t (children-of span k [])
    (ap (λ (z : Kind). opens_by t.role z (is_there (out-Node (node_of span k [])).children 0)) (kind-of span k []) ∙ shut (is_there (out-Node (node_of span k [])).children 0))

pub absent-quiet : (t : Surrounding) → redeclared_at absent t ≡ []
unfolding opens_by
absent-quiet t = quiet-of _ kind.Absent t (λ named. refl)

pub empty-quiet : (span : Span) (t : Surrounding) → redeclared_at (node_of span kind.EmptyStmt []) t ≡ []
unfolding opens_by
empty-quiet span t = quiet-of span kind.EmptyStmt t (λ named. refl)
