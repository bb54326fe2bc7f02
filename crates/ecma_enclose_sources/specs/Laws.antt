-- What is read as a module, with parentheses that keep what is written from being read as something else.
use Rattle.std.specs.Prelude.{◌≡◌, None}
use Rattle.ecma_kind.specs.declared.shapes.Sort.TheVariants as sort
use Rattle.ecma_tree.specs.declared.node.Node.{Node}
use Rattle.ecma_tree.specs.Sorted.{HasSort}
use Rattle.ecma_config.specs.declared.config.TsImportExportAssignConfig.{TsImportExportAssignConfig}
use Rattle.ecma_forms.specs.Forms.{first_unlowered, first_untaken}
use Rattle.ecma_plain.specs.Read.{IsRead}
use Rattle.ecma_enclose.specs.Enclosing.{enclosed}

-- a tree as it is read is one with them
abbrev pub EnclosedTreesAreRead : Type 0
EnclosedTreesAreRead = (tree : Node) → IsRead tree → IsRead (enclosed tree)

-- and where each of its forms is taken, whatever the option on assignments is, each is then
abbrev pub EnclosedTreesAreTaken : Type 0
EnclosedTreesAreTaken =
    (assign : TsImportExportAssignConfig) (tree : Node) → HasSort sort.Module tree → first_untaken assign tree ≡ None → first_untaken assign (enclosed tree) ≡ None

-- and where none of them has to be lowered first by another pass, none has then
abbrev pub EnclosedTreesNeedNoLowering : Type 0
EnclosedTreesNeedNoLowering = (tree : Node) → HasSort sort.Module tree → first_unlowered tree ≡ None → first_unlowered (enclosed tree) ≡ None
