-- The equations of an expression without the types round it.
use Rattle.std.proofs.Common.{◌≡◌, ◌∙◌, Bool, true, false, cond, List, [], ◌∷◌, map, get_or, Some, None, refl, sym, ap, slice_get}
use Rattle.ecma_kind.specs.Sorts.{is_type_wrapper}
use Rattle.ecma_tree.proofs.Layers.{from_leaves_out}
use Rattle.ecma_tree.specs.declared.node.Node.{Node, out-Node}
use Rattle.ecma_properties.specs.Supers.{under_step, under_types}

under-out : (n : Node) → under_types n ≡ under_step n (map under_types (out-Node n).children)
under-out n = from_leaves_out Node under_step n

first-some : (d : Node) (nodes : List Node) (x : Node) → slice_get nodes 0 ≡ Some x → get_or (map under_types nodes) 0 d ≡ under_types x
first-some d [] x at = cc
first-some d (n ∷ ns) x at = let same : n ≡ x = cc in ap under_types same

first-none : (d : Node) (nodes : List Node) → slice_get nodes 0 ≡ None → get_or (map under_types nodes) 0 d ≡ d
first-none d [] at = refl
first-none d (n ∷ ns) at = cc

module _ (n : Node) where
  by : (b : Bool) → is_type_wrapper (out-Node n).kind ≡ b → under_types n ≡ cond b (get_or (map under_types (out-Node n).children) 0 n) n
  by b w = under-out n ∙ ap (λ (z : Bool). cond z (get_or (map under_types (out-Node n).children) 0 n) n) w

  pub under-bare : is_type_wrapper (out-Node n).kind ≡ false → n ≡ under_types n
  under-bare w = sym (by false w)

  pub under-wrapped : (x : Node) → is_type_wrapper (out-Node n).kind ≡ true → slice_get (out-Node n).children 0 ≡ Some x → under_types x ≡ under_types n
  under-wrapped x w at = sym (by true w ∙ first-some n (out-Node n).children x at)

  pub under-empty : is_type_wrapper (out-Node n).kind ≡ true → slice_get (out-Node n).children 0 ≡ None → n ≡ under_types n
  under-empty w at = sym (by true w ∙ first-none n (out-Node n).children at)

pub ruleset under = (under-bare, under-wrapped, under-empty)
