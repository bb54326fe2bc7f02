-- Texts that are read as a tree.
use Rattle.std.specs.Prelude.{◌≡◌, ℕ, false, List}
use Rattle.ecma_tree.specs.declared.node.Node.{Node}
use Rattle.ecma_tree.specs.Spans.{without_spans}
use Rattle.ecma_print.specs.Explicit.{explicit}
use Rattle.ecma_plain.specs.Texts.{IsPlainModule}

-- the text is a plain module, of this tree with the parentheses of its layout, up to spans
pub record IsReadAsTree (tree : Node) (text : List ℕ) : Type 0 where
  pub again : Node
  pub plain : IsPlainModule false text again
  pub same : without_spans again ≡ without_spans (explicit tree)
