-- What is observed of a tree with its shorthands written out, and of one with its final texts.
use Rattle.std.specs.Prelude.{◌≡◌, ◌≢◌, ℕ, true, false, List, bytes_eq, codes}
use Rattle.std.specs.List.{All}
use Rattle.ecma_tree.specs.declared.node.Node.{Node}
use Rattle.ecma_hygiene.specs.declared.naming.Named.{Named}
use Rattle.ecma_scope.specs.Laws.{without_contexts}
use Rattle.ecma_scope.specs.Resolved.{resolved}
use Rattle.ecma_hygiene.specs.Ids.{Id}
use Rattle.ecma_hygiene.specs.Renamed.{renamed, text_of}
use Rattle.ecma_hygiene.specs.Sights.{sights}
use Rattle.ecma_hygiene.specs.Texts.{HygienicTexts, is_bound, text_in}
use Rattle.ecma_hygiene_scopes.specs.Stops.{IsRight, stops}
use Rattle.ecma_config.specs.declared.config.Config.{Config}
use Rattle.ecma_runs.specs.declared.script.Script.{Script}
use Rattle.ecma_runs.specs.Enums.{lacks_enums}
use Rattle.ecma_runs.specs.Environment.{is_among}
use Rattle.ecma_runs.specs.Evaluation.{meaning}
use Rattle.ecma_runs.specs.Observation.{observe}
use Rattle.ecma_kind.specs.declared.shapes.Sort.TheVariants as sort
use Rattle.ecma_tree.specs.Sorted.{HasSort}
use Rattle.ecma_hygiene_runs.specs.WrittenOut.{written_out}
use Rattle.ecma_hygiene_runs.specs.Resolved.{IsResolved, KeepsApart}
use Rattle.ecma_hygiene_runs.specs.OuterNames.{has_no_exported_import, has_outer_names, NamesAreOuter}
use Rattle.ecma_hygiene_runs.specs.Plain.{is_plain}
use Rattle.ecma_hygiene_runs.specs.Exports.{KeepsExportedTexts}

-- in a sorted module whose names outside of variables have the empty context, and that exports no import, whose name is a variable and a key, patterns have names, and keys beside shorthands and beside variables that are
-- exported have that context
abbrev pub SortedNamesAreOuter : Type 0
SortedNamesAreOuter = (tree : Node) → HasSort sort.Module tree → has_outer_names tree ≡ true → has_no_exported_import tree ≡ true → NamesAreOuter tree

-- each binding of a plain module is declared where the module runs
abbrev pub BindingsAreDeclared : Type 0
BindingsAreDeclared =
    (tree : Node) → HasSort sort.Module tree → is_plain tree ≡ true → (id : Id) → is_bound (sights tree) id ≡ true → is_among (record { sym = id.0; ctxt = id.1 }) (meaning tree).declared ≡ true

-- a sorted module is resolved where it is plain, what is no name of a variable has the empty context, and no binding has it or is `this`
abbrev pub PlainModulesAreResolved : Type 0
PlainModulesAreResolved =
    (tree : Node) → HasSort sort.Module tree → is_plain tree ≡ true → has_outer_names tree ≡ true
    → ((id : Id) → is_bound (sights tree) id ≡ true → (id.1 ≢ 0) × (bytes_eq id.0 (codes "this") ≡ false)) → IsResolved tree

-- trees without enums that are equal with their shorthands written out run alike
abbrev pub ShorthandsDoNotMatter : Type 0
ShorthandsDoNotMatter =
    (turns : ℕ) (options : Config) (m m' : Node) (script : Script) → lacks_enums m ≡ true → lacks_enums m' ≡ true → written_out m ≡ written_out m'
    → observe turns options m script ≡ observe turns options m' script

-- a tree without enums runs as it does with its shorthands written out
abbrev pub WrittenOutShorthandsDoNotMatter : Type 0
WrittenOutShorthandsDoNotMatter = (turns : ℕ) (options : Config) (m : Node) (script : Script) → lacks_enums m ≡ true → observe turns options (written_out m) script ≡ observe turns options m script

-- a resolved tree with its final texts, among which declarations that are exported keep theirs, runs as it does with its own
abbrev pub FinalTextsKeepRuns : Type 0
FinalTextsKeepRuns =
    (turns : ℕ) (options : Config) (tree : Node) (names : List Named) (script : Script) → HygienicTexts tree names → KeepsExportedTexts (text_of (text_in names)) tree
    → IsResolved tree → observe turns options (renamed (text_in names) tree) script ≡ observe turns options tree script

-- the tree with its final texts, read again without contexts and resolved, runs as the tree does
abbrev pub ReadingAgainKeepsRuns : Type 0
ReadingAgainKeepsRuns =
    (turns : ℕ) (options : Config) (unresolved top left : ℕ) (to : ℕ → ℕ) (tree : Node) (names : List Named) (script : Script)
    → HygienicTexts tree names → KeepsExportedTexts (text_of (text_in names)) tree → All (IsRight unresolved top (λ ctxt. ctxt) to) (stops left tree) → IsResolved tree
    → KeepsApart to tree
    → observe turns options (resolved unresolved top left (without_contexts (renamed (text_in names) tree))) script ≡ observe turns options tree script
