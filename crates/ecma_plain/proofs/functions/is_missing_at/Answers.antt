use Rattle.std.proofs.Common.{◌∙◌, sym}
use Rattle.ecma_tree.specs.declared.node.Node.{out-Node}
use Rattle.ecma_plain.proofs.Telling.{missing-none, missing-some}
use Rattle.ecma_plain.proofs.functions.is_missing_at.Goals as goal

pub returns-in-Some : goal.returns-in-Some
returns-in-Some c = c.is_absent.ensures ∙ missing-some (out-Node c.args.node.now).children c.args.index c.in-Some.child.now (sym c.in-Some.ensures.value)

pub returns-in-None : goal.returns-in-None
returns-in-None c = missing-none (out-Node c.args.node.now).children c.args.index (sym c.in-None.ensures.value)
