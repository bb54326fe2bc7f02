-- Laws of what stands for parameters, and how many contexts are drawn.
use Rattle.std.specs.Prelude.{◌≡◌, ◌≤◌, ◌-◌, ℕ, true, false, List, Some, count_by, length, slice_get, take}
use Rattle.ecma_tree.specs.declared.node.Node.{Node, out-Node}
use Rattle.ecma_function_wrappers.specs.declared.wrapper.FunctionWrapper.{FunctionWrapper}
use Rattle.ecma_function_wrappers.specs.Counting.{counted, counted_draws, has_parts, placeholder, that_count}
use Rattle.ecma_function_wrappers.specs.Wrapping.{wrapped_draws}

-- ---- what stands for parameters

-- each of these parameters has one stand-in, at its place. A name stands for itself, and a pattern has a `_`, in the context of the mark that the session gives
-- behind those for the patterns before it
pub record HaveStandIns (params : List Node) (left : ℕ) (new : List Node) : Type 0 where
  pub as_many : length new ≡ length params
  pub names : (i : ℕ) (p : Node) → slice_get params i ≡ Some p → has_parts p ≡ false → slice_get new i ≡ Some p
  pub patterns : (i : ℕ) (p : Node) → slice_get params i ≡ Some p → has_parts p ≡ true
      → slice_get new i ≡ Some (placeholder (out-Node p).span (left - count_by has_parts (take i params)))

abbrev pub EachParameterThatCountsHasAStandIn : Type 0
EachParameterThatCountsHasAStandIn = (params : List Node) (left : ℕ) → HaveStandIns (that_count params) left (counted params left)

-- ---- how many contexts are drawn

abbrev pub AtMostOneContextAParameter : Type 0
AtMostOneContextAParameter = (params : List Node) → counted_draws params ≤ length params

abbrev pub AtMostOneContextAWrapper : Type 0
AtMostOneContextAWrapper = (wrapper : FunctionWrapper) → wrapped_draws wrapper ≤ 1
