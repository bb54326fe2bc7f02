use Rattle.std.proofs.Common.{◌∙◌, sym}
use Rattle.ecma_tree.specs.declared.node.Node.{out-Node}
use Rattle.ecma_plain.proofs.Telling.{named-none, named-some}
use Rattle.ecma_plain.proofs.functions.names_this.Goals as goal

pub returns-in-Some : goal.returns-in-Some
returns-in-Some c = c.is_this_name.ensures ∙ named-some (out-Node c.args.node.now).children c.in-Some.name.now (sym c.in-Some.ensures.value)

pub returns-in-None : goal.returns-in-None
returns-in-None c = named-none (out-Node c.args.node.now).children (sym c.in-None.ensures.value)
