use Rattle.std.proofs.Common.{length, sym}
use Rattle.ecma_modules.specs.Modules.{deepest, typescript}
use Rattle.ts_to_js.proofs.Steps.{not-long}
use Rattle.ts_to_js.proofs.convert.convert_text.Goals as goal

pub convert_tree-requires-clause-source : goal.convert_tree-requires-clause-source
convert_tree-requires-clause-source c =
    c.trees_that_are_read_are_read.ensures c.args.text.now typescript deepest c.in_ok-tree.tree c.utf8.text (not-long (length c.args.text.now) c.requires) (sym c.in_ok-tree.ensures)
