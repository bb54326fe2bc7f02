-- A module that fits, with its enums written, and with reads of their members, whatever is known of these, fits.
use Rattle.std.specs.Prelude.{◌≡◌, ℕ, Bool, List, Ok}
use Rattle.ecma_kind.specs.declared.shapes.Sort.TheVariants as sort
use Rattle.ecma_tree.specs.Sorted.{HasSort}
use Rattle.ecma_tree.specs.declared.node.Node.{Node}
use Rattle.ecma_enums.specs.declared.record.TsEnumRecordEntry.{TsEnumRecordEntry}
use Rattle.ecma_fits.specs.Fitting.{Fits}
use Rattle.ecma_strip_fits.specs.Targets.{HasPlainTargets}
use Rattle.ecma_lower_enums.specs.Lowered.{enums_lowered}
use Rattle.ecma_lower_enums_sources.specs.Laws.{written}
use Rattle.ecma_lower_enums_fits.specs.Premises.{NoneNamesArguments}

-- where these members are known; enums may change or not, and members of `const` enums are kept or not
abbrev pub WrittenEnumsFit : Type 0
WrittenEnumsFit =
    (may_change keeps_constants : Bool) (members : List TsEnumRecordEntry) (tree : Node) →
    Fits tree → NoneNamesArguments tree → Fits (written may_change keeps_constants members tree)

-- where the numbers of all members are computed
abbrev pub LoweredEnumsFit : Type 0
LoweredEnumsFit =
    (may_change keeps_constants : Bool) (unresolved : ℕ) (tree after : Node) →
    enums_lowered may_change keeps_constants unresolved tree ≡ Ok after → Fits tree → NoneNamesArguments tree → Fits after

-- no name is bound with a type round it that was not
abbrev pub WritingEnumsKeepsPlainTargets : Type 0
WritingEnumsKeepsPlainTargets =
    (may_change keeps_constants : Bool) (members : List TsEnumRecordEntry) (tree : Node) →
    HasSort sort.Module tree → HasPlainTargets tree → HasPlainTargets (written may_change keeps_constants members tree)
