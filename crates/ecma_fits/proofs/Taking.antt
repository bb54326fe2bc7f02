-- The equations of what takes an `else`.
use Rattle.std.proofs.Common.{◌≡◌, ◌∙◌, ℕ, zero, suc, Bool, true, false, ◌||◌, List, [], ◌∷◌, Some, None, map, slice_get, refl, ap, sym}
use Rattle.ecma_tree.specs.declared.node.Node.{Node, fold_out-Node, out-Node}
use Rattle.ecma_tree.specs.Sorted.{is_absent}
use Rattle.ecma_fits.specs.Branches.{holds_at, holds_at_last, last_part, takes_else, takes_else_step}

takes-out : (n : Node) → takes_else n ≡ (is_absent (out-Node n).kind || holds_at_last (map takes_else (out-Node n).children) (last_part (out-Node n).kind))
takes-out = fold_out-Node Bool takes_else_step

at-some : (nodes : List Node) (i : ℕ) (x : Node) → slice_get nodes i ≡ Some x → holds_at (map takes_else nodes) i ≡ takes_else x
at-some [] i x at = cc
at-some (n ∷ ns) zero x at = let same : n ≡ x = cc in ap takes_else same
at-some (n ∷ ns) (suc i) x at = at-some ns i x at

at-none : (nodes : List Node) (i : ℕ) → slice_get nodes i ≡ None → holds_at (map takes_else nodes) i ≡ false
at-none [] i at = refl
at-none (n ∷ ns) zero at = cc
at-none (n ∷ ns) (suc i) at = at-none ns i at

pub takes-absent : (n : Node) → is_absent (out-Node n).kind ≡ true → true ≡ takes_else n
takes-absent n absent = sym (takes-out n ∙ rw absent refl)

pub takes-nothing : (n : Node) → is_absent (out-Node n).kind ≡ false → last_part (out-Node n).kind ≡ None → false ≡ takes_else n
takes-nothing n there last = sym (takes-out n ∙ rw (there, last) refl)

pub takes-last : (n x : Node) (i : ℕ) → is_absent (out-Node n).kind ≡ false → last_part (out-Node n).kind ≡ Some i → slice_get (out-Node n).children i ≡ Some x → takes_else x ≡ takes_else n
takes-last n x i there last at = sym (takes-out n ∙ rw (there, last) (at-some (out-Node n).children i x at))

pub takes-none : (n : Node) (i : ℕ) → is_absent (out-Node n).kind ≡ false → last_part (out-Node n).kind ≡ Some i → slice_get (out-Node n).children i ≡ None → false ≡ takes_else n
takes-none n i there last at = sym (takes-out n ∙ rw (there, last) (at-none (out-Node n).children i at))

pub ruleset taking = (takes-absent, takes-nothing, takes-last, takes-none)
