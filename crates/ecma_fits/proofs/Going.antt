-- The equations of what an optional chain goes on behind.
use Rattle.std.proofs.Common.{◌≡◌, ◌∙◌, Bool, true, false, ◌||◌, ◌&&◌, List, [], ◌∷◌, Some, None, map, slice_get, refl, ap, sym}
use Rattle.ecma_tree.specs.declared.node.Node.{Node, fold_out-Node, out-Node}
use Rattle.ecma_rules.specs.Targets.{first_is}
use Rattle.ecma_fits.specs.Chains.{goes_on, goes_on_step, is_link, keeps_chain}

going-out : (n : Node) → goes_on n ≡ (is_link (out-Node n).kind || (keeps_chain (out-Node n).kind && first_is (map goes_on (out-Node n).children)))
going-out = fold_out-Node Bool goes_on_step

first-some : (nodes : List Node) (x : Node) → slice_get nodes 0 ≡ Some x → first_is (map goes_on nodes) ≡ goes_on x
first-some [] x at = cc
first-some (n ∷ ns) x at = let same : n ≡ x = cc in ap goes_on same

first-none : (nodes : List Node) → slice_get nodes 0 ≡ None → first_is (map goes_on nodes) ≡ false
first-none [] at = refl
first-none (n ∷ ns) at = cc

pub going-link : (n : Node) → is_link (out-Node n).kind ≡ true → true ≡ goes_on n
going-link n link = sym (going-out n ∙ rw link refl)

pub going-other : (n : Node) → is_link (out-Node n).kind ≡ false → keeps_chain (out-Node n).kind ≡ false → false ≡ goes_on n
going-other n link keeps = sym (going-out n ∙ rw (link, keeps) refl)

pub going-inner : (n x : Node) → is_link (out-Node n).kind ≡ false → keeps_chain (out-Node n).kind ≡ true → slice_get (out-Node n).children 0 ≡ Some x → goes_on x ≡ goes_on n
going-inner n x link keeps at = sym (going-out n ∙ rw (link, keeps) (first-some (out-Node n).children x at))

pub going-empty : (n : Node) → is_link (out-Node n).kind ≡ false → keeps_chain (out-Node n).kind ≡ true → slice_get (out-Node n).children 0 ≡ None → false ≡ goes_on n
going-empty n link keeps at = sym (going-out n ∙ rw (link, keeps) (first-none (out-Node n).children at))

pub ruleset going = (going-link, going-other, going-inner, going-empty)
