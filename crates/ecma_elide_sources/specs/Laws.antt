-- What is read as a module stays what is read as a module without what the options drop.
use Rattle.std.specs.Prelude.{◌≡◌, ℕ, true, None}
use Rattle.ecma_kind.specs.declared.shapes.Sort.TheVariants as sort
use Rattle.ecma_tree.specs.declared.node.Node.{Node}
use Rattle.ecma_tree.specs.Sorted.{HasSort}
use Rattle.ecma_config.specs.declared.config.Config.{Config}
use Rattle.ecma_config.specs.declared.config.TsImportExportAssignConfig.{TsImportExportAssignConfig}
use Rattle.ecma_fits.specs.Fitting.{Fits}
use Rattle.ecma_forms.specs.Forms.{first_unlowered, first_untaken}
use Rattle.ecma_hygiene_fits.specs.Placed.{NoneMade}
use Rattle.ecma_hygiene_fits.specs.Spelled.{NoneLong}
use Rattle.ecma_plain.specs.Read.{IsRead}
use Rattle.ecma_scope.specs.Laws.{without_contexts}
use Rattle.ecma_scope.specs.Resolved.{contexts}
use Rattle.ecma_elide_sources.specs.Sources.{elided_source, is_kept}

-- a tree as it is read is one then
abbrev pub ElidedSourcesAreRead : Type 0
ElidedSourcesAreRead = (config : Config) (unresolved top left : ℕ) (source : Node) → IsRead source → IsRead (elided_source config unresolved top left source)

-- where nothing of it has to be lowered, nothing has then
abbrev pub ElidedSourcesNeedNoLowering : Type 0
ElidedSourcesNeedNoLowering =
    (config : Config) (unresolved top left : ℕ) (source : Node) → HasSort sort.Module source → first_unlowered source ≡ None → first_unlowered (elided_source config unresolved top left source) ≡ None

-- and where each of its forms is taken, whatever the option on assignments is, each is then
abbrev pub ElidedSourcesAreTaken : Type 0
ElidedSourcesAreTaken =
    (config : Config) (assign : TsImportExportAssignConfig) (unresolved top left : ℕ) (source : Node) → HasSort sort.Module source → first_untaken assign source ≡ None
    → first_untaken assign (elided_source config unresolved top left source) ≡ None

-- no identifier gets another text
abbrev pub ElidingKeepsNamesShort : Type 0
ElidingKeepsNamesShort = (config : Config) (unresolved top left : ℕ) (source : Node) → HasSort sort.Module source → NoneLong source → NoneLong (elided_source config unresolved top left source)

-- nor another place
abbrev pub ElidingMakesNoNames : Type 0
ElidingMakesNoNames = (config : Config) (unresolved top left : ℕ) (source : Node) → HasSort sort.Module source → NoneMade source → NoneMade (elided_source config unresolved top left source)

-- what goes of a module that fits opens no scope: the attributes of an import are keys and texts
--   import type { A } from "m" with { b: "c" };
abbrev pub ElidedSourcesTakeAsManyContexts : Type 0
ElidedSourcesTakeAsManyContexts =
    (config : Config) (unresolved top left : ℕ) (source : Node) → Fits source → contexts (elided_source config unresolved top left source) ≡ contexts source

-- a module of which nothing may go stays
abbrev pub KeptSourcesStay : Type 0
KeptSourcesStay =
    (config : Config) (unresolved top left : ℕ) (source : Node) → without_contexts source ≡ source → is_kept config source ≡ true → elided_source config unresolved top left source ≡ source
