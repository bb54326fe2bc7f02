-- Trees as they are read: in either mode, and in plain mode.
use Rattle.std.specs.Prelude.{◌≡◌, Bool, true, false}
use Rattle.ecma_tree.specs.declared.node.Node.{Node}
use Rattle.ecma_text_leaves.specs.Everywhere.{Everywhere}
use Rattle.ecma_scope.specs.Laws.{without_contexts}
use Rattle.ecma_rules.specs.Children.{kind_of}
use Rattle.ecma_fits.specs.Fitting.{Fits}
use Rattle.ecma_plain.specs.Forms.{IsBareUnquestioned, IsTaken}
use Rattle.ecma_plain.specs.Functions.{functions}
use Rattle.ecma_plain.specs.Items.{HasUtf8Hashbang, has_plain_items}

-- a tree as it is read: it fits, its leaves are bare, and what stands behind `#!` is UTF-8
pub record IsRead (tree : Node) : Type 0 where
  pub fits : Fits tree
  pub bare : Everywhere IsBareUnquestioned tree
  pub hashbang : HasUtf8Hashbang (kind_of tree)

-- a tree as a plain module is read, up to contexts: it fits; no node is TypeScript, but for the assignments of CommonJS modules
-- where they may stand; texts are UTF-8, and each literal has its source text; functions have bodies and the parameters of plain ones
pub record IsReadPlain (assignments : Bool) (tree : Node) : Type 0 where
  pub fits : Fits tree
  pub taken : Everywhere IsTaken (without_contexts tree)
  pub usual : (functions (without_contexts tree)).has_unusual ≡ false
  pub items : has_plain_items assignments (without_contexts tree) ≡ true
  pub hashbang : HasUtf8Hashbang (kind_of (without_contexts tree))
