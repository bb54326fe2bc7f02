-- The equations of what is needed, child by child; and it is enough.
use Rattle.std.proofs.Common.{◌≡◌, ℕ, suc, ◌+◌, ◌≤◌, Bool, true, false, ◌&&◌, not, cond, List, [], ◌∷◌, map, drop, length, Some, refl, ap, subst, slice_get, add-one, arith}
use Rattle.ecma_tree.specs.declared.node.Node.{Node, Node-F, out-Node, ind-Node, roll-Node}
use Rattle.ecma_tree.proofs.Items.{drop-item}
use Rattle.ecma_tree.proofs.Layers.{from_leaves_out, from_leaves-roll}
use Rattle.ecma_scope.specs.declared.role.Role.{Role}
use Rattle.ecma_scope.specs.declared.role.Role.TheVariants as role
use Rattle.ecma_scope.specs.Scopes.{is_root, opens, role_in}
use Rattle.ecma_scope.specs.Resolved.{context_count, count_step, counted}
use Rattle.ecma_scope.specs.Needs.{NeededSuffice, capped, has_computed_key, helpers_by, needed_at, needed_here, needed_in, needed_step}
use Rattle.ecma_scope.proofs.Resolving.{drop-none}

-- what the children from the one at i on need
abbrev pub needed_from : Role → Node → ℕ → ℕ
needed_from r n i = needed_in (role_in r n) i (map needed_at (drop i (out-Node n).children))

pub needed_at-out : (n : Node) (r : Role) → needed_at n r ≡ needed_here r n + needed_from r n 0
needed_at-out n r = ap (λ f. f r) (from_leaves_out (Role → ℕ) needed_step n)

pub needed_from-next : (r : Role) (n : Node) (i : ℕ) (x : Node) → slice_get (out-Node n).children i ≡ Some x → needed_from r n i ≡ needed_at x (role_in r n i) + needed_from r n (i + 1)
needed_from-next r n i x at = rw (add-one, drop-item (out-Node n).children i x at, add-one) refl

pub needed_from-all : (r : Role) (n : Node) (i : ℕ) → length (out-Node n).children ≡ i → needed_from r n i ≡ 0
needed_from-all r n i all = ap (λ (z : List Node). needed_in (role_in r n) i (map needed_at z)) (drop-none (out-Node n).children i all)

caps : (total below more : ℕ) → capped (capped (total + capped below) + more) ≡ capped (total + (below + more))
caps total below more = omega arith

pub capped-more : (total below more rest all : ℕ) → capped (total + rest) ≡ all → rest ≡ below + more → capped (capped (total + capped below) + more) ≡ all
capped-more total below more rest all so_far is = rw (← so_far, is) (caps total below more)

taken-le : (opened root : Bool) (helpers : ℕ) → cond (opened && not root) 1 0 ≤ cond opened 1 0 + helpers
taken-le true true helpers = omega arith
taken-le true false helpers = omega arith
taken-le false root helpers = omega arith

all_suffice : (role_of : ℕ → Role) (i : ℕ) (ns : List ((n : Node) × ((r : Role) → context_count n r ≤ needed_at n r)))
    → counted role_of i (map context_count (map (λ e. e.0) ns)) ≤ needed_in role_of i (map needed_at (map (λ e. e.0) ns))
all_suffice role_of i [] = omega arith
all_suffice role_of i (n ∷ ns) =
    let here = n.1 (role_of i) in
    let rest = all_suffice role_of (suc i) ns in
    omega arith

layer_suffices : (x : Node-F Node) (r : Role) → counted (role_in r (roll-Node x)) 0 (map context_count x.children) ≤ needed_in (role_in r (roll-Node x)) 0 (map needed_at x.children)
    → context_count (roll-Node x) r ≤ needed_at (roll-Node x) r
layer_suffices x r children =
    let a = ap (λ f. f r) (from_leaves-roll (Role → ℕ) count_step x) in
    let b = ap (λ f. f r) (from_leaves-roll (Role → ℕ) needed_step x) in
    let own = taken-le (opens r (roll-Node x)) (is_root r) (helpers_by (out-Node (roll-Node x)).kind (has_computed_key (out-Node (roll-Node x)).children)) in
    omega arith

pub suffices : (n : Node) (r : Role) → context_count n r ≤ needed_at n r
suffices = ind-Node (λ n. (r : Role) → context_count n r ≤ needed_at n r) (λ x y is. λ r.
    layer_suffices x r (subst (λ (z : Node-F Node). counted (role_in r (roll-Node x)) 0 (map context_count z.children) ≤ needed_in (role_in r (roll-Node x)) 0 (map needed_at z.children)) is
    (all_suffice (role_in r (roll-Node x)) 0 y.children)))

pub needed-suffice : NeededSuffice
needed-suffice tree = let enough = suffices tree role.Root in omega arith

pub ruleset needing = (needed-suffice)
