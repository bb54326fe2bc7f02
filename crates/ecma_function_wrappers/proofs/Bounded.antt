-- At most one context is drawn for a parameter, and one for a wrapper.
use Rattle.std.proofs.Common.{◌≤◌, Bool, true, false, arith}
use Rattle.std.specs.List.{prefix_len}
use Rattle.std.proofs.lemmas.List.{length-take}
use Rattle.std.proofs.lemmas.List.Sums.{count_by-le-length}
use Rattle.ecma_function_parts.specs.Drawing.{count}
use Rattle.ecma_function_wrappers.specs.Counting.{counts, has_parts, that_count}
use Rattle.ecma_function_wrappers.specs.Laws.{AtMostOneContextAParameter, AtMostOneContextAWrapper}
use Rattle.ecma_function_wrappers.specs.Wrapping.{needs_ref}

at-most-one : (b : Bool) → count b ≤ 1
at-most-one true = omega arith
at-most-one false = omega arith

pub one-a-parameter : AtMostOneContextAParameter
one-a-parameter ps =
    let most = count_by-le-length has_parts (that_count ps) in
    let long = length-take (prefix_len counts ps) ps in
    omega (arith, most, long)

pub one-a-wrapper : AtMostOneContextAWrapper
one-a-wrapper w = at-most-one (needs_ref w)
