-- The equations of simple targets.
use Rattle.std.proofs.Common.{◌≡◌, ◌∙◌, Bool, true, false, ◌||◌, ◌&&◌, List, [], ◌∷◌, Some, None, map, slice_get, refl, ap, sym}
use Rattle.ecma_tree.specs.declared.node.Node.{Node, fold_out-Node, out-Node}
use Rattle.ecma_rules.specs.Targets.{first_is, is_plain_target, is_simple_target, is_wrapper, simple_step}

simple-out : (n : Node) → is_simple_target n ≡ (is_plain_target (out-Node n).kind || (is_wrapper (out-Node n).kind && first_is (map is_simple_target (out-Node n).children)))
simple-out = fold_out-Node Bool simple_step

first-some : (nodes : List Node) (x : Node) → slice_get nodes 0 ≡ Some x → first_is (map is_simple_target nodes) ≡ is_simple_target x
first-some [] x at = cc
first-some (n ∷ ns) x at = let same : n ≡ x = cc in ap is_simple_target same

first-none : (nodes : List Node) → slice_get nodes 0 ≡ None → first_is (map is_simple_target nodes) ≡ false
first-none [] at = refl
first-none (n ∷ ns) at = cc

pub simple-plain : (n : Node) → is_plain_target (out-Node n).kind ≡ true → true ≡ is_simple_target n
simple-plain n plain = sym (simple-out n ∙ rw plain refl)

pub simple-other : (n : Node) → is_plain_target (out-Node n).kind ≡ false → is_wrapper (out-Node n).kind ≡ false → false ≡ is_simple_target n
simple-other n plain wrapper = sym (simple-out n ∙ rw (plain, wrapper) refl)

pub simple-wrapped : (n x : Node) → is_plain_target (out-Node n).kind ≡ false → is_wrapper (out-Node n).kind ≡ true → slice_get (out-Node n).children 0 ≡ Some x → is_simple_target x ≡ is_simple_target n
simple-wrapped n x plain wrapper at = sym (simple-out n ∙ rw (plain, wrapper) (first-some (out-Node n).children x at))

pub simple-empty : (n : Node) → is_plain_target (out-Node n).kind ≡ false → is_wrapper (out-Node n).kind ≡ true → slice_get (out-Node n).children 0 ≡ None → false ≡ is_simple_target n
simple-empty n plain wrapper at = sym (simple-out n ∙ rw (plain, wrapper) (first-none (out-Node n).children at))

pub ruleset simple = (simple-plain, simple-other, simple-wrapped, simple-empty)
