-- The tree whose written texts say what its ids say.
use Rattle.std.specs.Prelude.{◌≡◌, List}
use Rattle.ecma_tree.specs.declared.node.Node.{Node}
use Rattle.ecma_hygiene.specs.declared.naming.Named.{Named}
use Rattle.ecma_hygiene.specs.Texts.{HygienicTexts, text_in}
use Rattle.ecma_hygiene.specs.Renamed.{renamed}

pub record IsHygienic (tree written : Node) : Type 0 where
  pub names : List Named
  pub texts : HygienicTexts tree names
  pub is : written ≡ renamed (text_in names) tree
