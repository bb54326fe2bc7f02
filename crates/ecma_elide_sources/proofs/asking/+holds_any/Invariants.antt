use Rattle.std.proofs.Common.{◌≡◌}
use Rattle.ecma_tree.specs.Finding.{enters_all, finds}
use Rattle.ecma_tree.proofs.Finding.{finds_in_rest}
use Rattle.ecma_elide.specs.Laws.{may_go}
use Rattle.ecma_elide_sources.proofs.asking.+holds_any.Given as goal

-- nothing is found so far: what is left decides
abbrev pub invariant-loop-i : goal.invariant-loop-i
invariant-loop-i l = finds may_go enters_all l.node ≡ finds_in_rest may_go enters_all l.node l.i
