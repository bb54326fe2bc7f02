-- The words behind the program's name, and the options that they name.
use Rattle.std.specs.Prelude.{ℕ, Bool, false, ◌||◌, ◌&&◌, ◌++◌, not, cond, List, [], ◌∷◌, map, Option, Some, None, bytes_eq, codes}
use Rattle.std.specs.List.{list_any}
use Rattle.std.specs.declared.rc.RcStr.{RcStr}
use Rattle.std.specs.declared.alloc.Global.{Global}
use Rattle.std.specs.Rc.{rc_str_bytes}
use Rattle.ecma_config.specs.declared.config.Config.{Config}
use Rattle.ecma_config.specs.declared.config.ImportsNotUsedAsValues.{ImportsNotUsedAsValues}
use Rattle.ecma_config.specs.declared.config.ImportsNotUsedAsValues.TheVariants.{Preserve, Remove}
use Rattle.ecma_config.specs.declared.config.TsImportExportAssignConfig.{TsImportExportAssignConfig}
use Rattle.ecma_config.specs.declared.config.TsImportExportAssignConfig.TheVariants as way

-- of imports and exports only what is written `type` goes
abbrev pub verbatim : List ℕ
verbatim = codes "--verbatim"

-- an import none of whose names is used stays, without them
abbrev pub preserve_unused : List ℕ
preserve_unused = codes "--preserve-unused"

-- no `export {}` is written
abbrev pub no_empty_export : List ℕ
no_empty_export = codes "--no-empty-export"

-- how `import a = require("m")` and `export = e` are written
abbrev pub assign_classic : List ℕ
assign_classic = codes "--assign=classic"

abbrev pub assign_preserve : List ℕ
assign_preserve = codes "--assign=preserve"

abbrev pub assign_nodenext : List ℕ
assign_nodenext = codes "--assign=nodenext"

abbrev pub assign_esnext : List ℕ
assign_esnext = codes "--assign=esnext"

abbrev pub is_assignment : List ℕ → Bool
is_assignment word = bytes_eq word assign_classic || (bytes_eq word assign_preserve || (bytes_eq word assign_nodenext || bytes_eq word assign_esnext))

abbrev pub is_known : List ℕ → Bool
is_known word = bytes_eq word verbatim || (bytes_eq word preserve_unused || (bytes_eq word no_empty_export || is_assignment word))

abbrev pub is_among : List (List ℕ) → List ℕ → Bool
is_among words word = list_any (λ w. bytes_eq w word) words

-- it stands among those before it; of the words on assignments one is as good as another
--   --assign=classic --assign=esnext   // the second
abbrev pub is_repeated : List (List ℕ) → List ℕ → Bool
is_repeated before word = is_among before word || (is_assignment word && list_any is_assignment before)

-- it is unknown, or is repeated
abbrev pub is_bad : List (List ℕ) → List ℕ → Bool
is_bad before word = not (is_known word) || is_repeated before word

-- the first such word of those behind others
abbrev pub bad_behind : List (List ℕ) → List (List ℕ) → Option (List ℕ)
bad_behind before [] = None
bad_behind before (word ∷ words) = cond (is_bad before word) (Some word) (bad_behind (before ++ word ∷ []) words)

abbrev pub texts_of : List (RcStr Global) → List (List ℕ)
texts_of words = map rc_str_bytes words

-- the first word that is unknown or repeated
abbrev pub bad_word : List (RcStr Global) → Option (List ℕ)
bad_word words = bad_behind [] (texts_of words)

abbrev pub assign_by : Bool → Bool → Bool → TsImportExportAssignConfig
assign_by preserve nodenext esnext = cond preserve way.Preserve (cond nodenext way.NodeNext (cond esnext way.EsNext way.Classic))

abbrev pub unused_by : Bool → ImportsNotUsedAsValues
unused_by preserved = cond preserved Preserve Remove

-- the options that words name, in any order
abbrev pub config_of : List (RcStr Global) → Config
config_of words = record {
  verbatim_module_syntax = is_among (texts_of words) verbatim;
  import_not_used_as_values = unused_by (is_among (texts_of words) preserve_unused);
  no_empty_export = is_among (texts_of words) no_empty_export;
  import_export_assign_config = assign_by (is_among (texts_of words) assign_preserve) (is_among (texts_of words) assign_nodenext) (is_among (texts_of words) assign_esnext);
  ts_enum_is_mutable = false;
}
