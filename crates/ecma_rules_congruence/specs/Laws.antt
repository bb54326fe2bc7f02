-- Where nodes stand does not matter to the context rules, nor to what is a pattern.
use Rattle.std.specs.Prelude.{◌≡◌, None}
use Rattle.ecma_tree.specs.declared.node.Node.{Node}
use Rattle.ecma_tree.specs.Spans.{without_spans}
use Rattle.ecma_rules.specs.Rules.{first_broken}
use Rattle.ecma_rules.specs.Finishing.{finished}

abbrev pub SpansDoNotMatterToRules : Type 0
SpansDoNotMatterToRules = (raw again : Node) → without_spans again ≡ without_spans raw → first_broken raw ≡ None → first_broken again ≡ None

abbrev pub SpansDoNotMatterToFinishing : Type 0
SpansDoNotMatterToFinishing = (raw again : Node) → without_spans again ≡ without_spans raw → without_spans (finished again) ≡ without_spans (finished raw)
