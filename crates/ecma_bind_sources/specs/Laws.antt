-- What is read as a module, and the source of a module that is written, with bound names.
use Rattle.std.specs.Prelude.{◌≡◌, None}
use Rattle.ecma_tree.specs.declared.node.Node.{Node}
use Rattle.ecma_config.specs.declared.config.TsImportExportAssignConfig.{TsImportExportAssignConfig}
use Rattle.ecma_forms.specs.Forms.{first_unlowered, first_untaken}
use Rattle.ecma_plain.specs.Read.{IsRead}
use Rattle.ecma_bind.specs.Binding.{with_bound_names}
use Rattle.ecma_sources.specs.Sources.{IsSource}

-- a tree as it is read is one with its names bound
abbrev pub BoundTreesAreRead : Type 0
BoundTreesAreRead = (tree : Node) → IsRead tree → IsRead (with_bound_names tree)

-- and where each of its forms is taken, whatever the option on assignments is, each is then
abbrev pub BoundTreesAreTaken : Type 0
BoundTreesAreTaken = (assign : TsImportExportAssignConfig) (tree : Node) → first_untaken assign tree ≡ None → first_untaken assign (with_bound_names tree) ≡ None

-- and where none of them has to be lowered first by another pass, none has then
abbrev pub BoundTreesNeedNoLowering : Type 0
BoundTreesNeedNoLowering = (tree : Node) → first_unlowered tree ≡ None → first_unlowered (with_bound_names tree) ≡ None

-- the source of a module that is written is one with its names bound
abbrev pub BoundSourcesAreSources : Type 0
BoundSourcesAreSources = (source : Node) → IsSource source → IsSource (with_bound_names source)
