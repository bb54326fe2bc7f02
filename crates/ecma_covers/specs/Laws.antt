-- What is read and finished is the finished tree again.
use Rattle.std.specs.Prelude.{◌≡◌}
use Rattle.ecma_tree.specs.declared.node.Node.{Node}
use Rattle.ecma_tree.specs.Spans.{without_spans}
use Rattle.ecma_rules.specs.declared.target.Target.TheVariants as target
use Rattle.ecma_rules.specs.Finishing.{finished}
use Rattle.ecma_covers.specs.Covering.{cover}
use Rattle.ecma_covers.specs.Placing.{Stands}

-- up to spans: a name that is bound has the span of the name
abbrev pub FinishingUncovers : Type 0
FinishingUncovers = (tree : Node) → Stands target.Free tree → without_spans (finished (cover tree)) ≡ without_spans tree
