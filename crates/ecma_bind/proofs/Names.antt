-- The equations of names under types, and of what stands under types.
use Rattle.std.proofs.Common.{◌≡◌, ◌∙◌, Bool, true, false, ◌||◌, ◌&&◌, cond, List, [], ◌∷◌, Some, None, map, slice_get, refl, ap, sym}
use Rattle.ecma_kind.specs.Sorts.{is_type_wrapper}
use Rattle.ecma_tree.specs.declared.node.Node.{Node, fold_out-Node, out-Node}
use Rattle.ecma_tree.proofs.Layers.{from_leaves_out}
use Rattle.ecma_rules.specs.Children.{kind_of}
use Rattle.ecma_rules.specs.Targets.{first_is}
use Rattle.ecma_fits.specs.Roles.{is_name}
use Rattle.ecma_bind.specs.Binding.{first_or, is_name_under_types, names_step, under_types}

names-out : (n : Node) → is_name_under_types n ≡ (is_name (out-Node n).kind || (is_type_wrapper (out-Node n).kind && first_is (map is_name_under_types (out-Node n).children)))
names-out = fold_out-Node Bool names_step

first-some : (nodes : List Node) (x : Node) → slice_get nodes 0 ≡ Some x → first_is (map is_name_under_types nodes) ≡ is_name_under_types x
first-some [] x at = cc
first-some (n ∷ ns) x at = let same : n ≡ x = cc in ap is_name_under_types same

first-none : (nodes : List Node) → slice_get nodes 0 ≡ None → first_is (map is_name_under_types nodes) ≡ false
first-none [] at = refl
first-none (n ∷ ns) at = cc

pub names-plain : (n : Node) → is_name (out-Node n).kind ≡ true → true ≡ is_name_under_types n
names-plain n plain = sym (names-out n ∙ rw plain refl)

pub names-other : (n : Node) → is_name (out-Node n).kind ≡ false → is_type_wrapper (out-Node n).kind ≡ false → false ≡ is_name_under_types n
names-other n plain wrapper = sym (names-out n ∙ rw (plain, wrapper) refl)

pub names-wrapped : (n x : Node) → is_name (out-Node n).kind ≡ false → is_type_wrapper (out-Node n).kind ≡ true → slice_get (out-Node n).children 0 ≡ Some x → is_name_under_types x ≡ is_name_under_types n
names-wrapped n x plain wrapper at = sym (names-out n ∙ rw (plain, wrapper) (first-some (out-Node n).children x at))

pub names-empty : (n : Node) → is_name (out-Node n).kind ≡ false → is_type_wrapper (out-Node n).kind ≡ true → slice_get (out-Node n).children 0 ≡ None → false ≡ is_name_under_types n
names-empty n plain wrapper at = sym (names-out n ∙ rw (plain, wrapper) (first-none (out-Node n).children at))

pub ruleset names = (names-plain, names-other, names-wrapped, names-empty)

-- ---- what stands under types

under-out : (n : Node) → under_types n ≡ cond (is_type_wrapper (kind_of n)) (first_or n (map under_types (out-Node n).children)) n
under-out = from_leaves_out Node (λ node inner. cond (is_type_wrapper (kind_of node)) (first_or node inner) node)

inner-some : (n : Node) (nodes : List Node) (x : Node) → slice_get nodes 0 ≡ Some x → first_or n (map under_types nodes) ≡ under_types x
inner-some n [] x at = cc
inner-some n (y ∷ ys) x at = let same : y ≡ x = cc in ap under_types same

inner-none : (n : Node) (nodes : List Node) → nodes ≡ [] → first_or n (map under_types nodes) ≡ n
inner-none n [] none = refl
inner-none n (y ∷ ys) none = cc

pub under-plain : (n : Node) → is_type_wrapper (out-Node n).kind ≡ false → n ≡ under_types n
under-plain n wrapper = sym (under-out n ∙ rw wrapper refl)

pub under-empty : (n : Node) → is_type_wrapper (out-Node n).kind ≡ true → (out-Node n).children ≡ [] → n ≡ under_types n
under-empty n wrapper none = sym (under-out n ∙ rw wrapper (inner-none n (out-Node n).children none))

pub under-wrapped : (n x : Node) → is_type_wrapper (out-Node n).kind ≡ true → slice_get (out-Node n).children 0 ≡ Some x → under_types x ≡ under_types n
under-wrapped n x wrapper at = sym (under-out n ∙ rw wrapper (inner-some n (out-Node n).children x at))

pub ruleset unwrapping = (under-plain, under-empty, under-wrapped)
