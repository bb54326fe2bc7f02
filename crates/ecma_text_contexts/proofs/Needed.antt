-- A tree needs no more contexts than it weighs, and 16 more.
use Rattle.std.proofs.Common.{◌≤◌, ℕ, suc, ◌+◌, Bool, true, false, ◌&&◌, not, cond, List, [], ◌∷◌, map, ap, subst, arith}
use Rattle.std.proofs.lemmas.List.Sums.{sum_by-cons}
use Rattle.ecma_kind.specs.declared.kind.Kind.{Kind}
use Rattle.ecma_kind.specs.declared.kind.Kind.TheVariants as kind
use Rattle.ecma_tree.specs.declared.node.Node.{Node, Node-F, ind-Node, out-Node, roll-Node}
use Rattle.ecma_tree.specs.declared.node.Node.TheViews.{out-roll-Node}
use Rattle.ecma_tree.proofs.Layers.{from_leaves-roll}
use Rattle.ecma_scope.specs.declared.role.Role.{Role}
use Rattle.ecma_scope.specs.declared.role.Role.TheVariants as role
use Rattle.ecma_scope.specs.Scopes.{is_default, is_there, opens_by, role_in}
use Rattle.ecma_scope.specs.Needs.{has_computed_key, helpers_by, needed, needed_at, needed_here, needed_in, needed_step}
use Rattle.ecma_text_contexts.proofs.Weights.{here, weight, weights, weight_rolled}

one_at_most : (b : Bool) → cond b 1 0 ≤ 1
one_at_most true = omega arith
one_at_most false = omega arith

one_and_none : (b : Bool) → cond b 1 0 + 0 ≤ 1
one_and_none b = let a = one_at_most b in omega arith

kind_needs : (r : Role) (k : Kind) (named computed : Bool) → cond (opens_by r k named) 1 0 + helpers_by k computed ≤ here k
unfolding opens_by helpers_by
kind_needs r kind.FnExpr named computed = one_and_none (named && not (is_default r))
kind_needs r (kind.ClassProp modifiers readonly declare definite) named computed = let a = one_at_most computed in omega arith
kind_needs r _ named computed = omega arith

node_needs : (r : Role) (n : Node) → needed_here r n ≤ here (out-Node n).kind
node_needs r n = kind_needs r (out-Node n).kind (is_there (out-Node n).children 0) (has_computed_key (out-Node n).children)

abbrev Needs : Node → Type 0
Needs n = (r : Role) → needed_at n r ≤ weight n

all_need : (role_of : ℕ → Role) (i : ℕ) (ns : List ((n : Node) × Needs n)) → needed_in role_of i (map needed_at (map (λ e. e.0) ns)) ≤ weights (map (λ e. e.0) ns)
all_need role_of i [] = omega arith
all_need role_of i (n ∷ ns) =
    let first = n.1 (role_of i) in
    let rest = all_need role_of (suc i) ns in
    let all = sum_by-cons weight n.0 (map (λ e. e.0) ns) in
    omega arith

layer_needs : (x : Node-F Node) (r : Role) → needed_in (role_in r (roll-Node x)) 0 (map needed_at x.children) ≤ weights x.children → needed_at (roll-Node x) r ≤ weight (roll-Node x)
layer_needs x r below =
    let a = ap (λ f. f r) (from_leaves-roll (Role → ℕ) needed_step x) in
    let own = subst (λ (y : Node-F Node). needed_here r (roll-Node x) ≤ here y.kind) (out-roll-Node x) (node_needs r (roll-Node x)) in
    let b = weight_rolled x in
    omega arith

needed_at_most : (n : Node) → Needs n
needed_at_most = ind-Node Needs (λ x y is. λ r.
    layer_needs x r (subst (λ (z : Node-F Node). needed_in (role_in r (roll-Node x)) 0 (map needed_at z.children) ≤ weights z.children) is (all_need (role_in r (roll-Node x)) 0 y.children)))

pub needed_by_weight : (tree : Node) → needed tree ≤ weight tree + 16
needed_by_weight tree = let h = needed_at_most tree role.Root in omega arith
