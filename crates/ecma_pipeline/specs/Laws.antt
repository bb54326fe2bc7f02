-- A module on its whole way: from its text to the text that is written for it, and what that does; and the parts of this law.
use Rattle.std.specs.Prelude.{◌≡◌, ◌<◌, ◌^◌, ◌-◌, ℕ, Bool, false, List, Ok, length, None, []}
use Rattle.std.specs.Str.{IsUtf8}
use Rattle.ecma_kind.specs.declared.shapes.Sort.TheVariants as sort
use Rattle.ecma_tree.specs.declared.node.Node.{Node}
use Rattle.ecma_tree.specs.Sorted.{HasSort}
use Rattle.ecma_modules.specs.Modules.{reads_as, typescript}
use Rattle.ecma_fits.specs.Fitting.{Fits}
use Rattle.ecma_forms.specs.Forms.{first_untaken}
use Rattle.ecma_lower.specs.Checking.{first_refusal}
use Rattle.ecma_config.specs.declared.config.TsImportExportAssignConfig.{TsImportExportAssignConfig}
use Rattle.ecma_scope.specs.Resolved.{resolved, AreGiven}
use Rattle.ecma_strip.specs.Stripping.{stripped}
use Rattle.ecma_hygiene.specs.Hygienic.{IsHygienic}
use Rattle.ecma_hygiene.specs.Renamed.{text_of}
use Rattle.ecma_hygiene.specs.Texts.{text_in}
use Rattle.ecma_bind.specs.Binding.{with_bound_names}
use Rattle.ecma_elide_sources.specs.Sources.{elided_source}
use Rattle.ecma_hygiene_fits.specs.Placed.{NoneMade}
use Rattle.ecma_hygiene_fits.specs.Spelled.{NoneLong}
use Rattle.ecma_hygiene_runs.specs.Exports.{KeepsExportedTexts}
use Rattle.ecma_scope.specs.Conflicts.{redeclared}
use Rattle.ecma_sources.specs.Sources.{IsReading}
use Rattle.ecma_config.specs.declared.config.Config.{Config}
use Rattle.ecma_ready.specs.Ready.{DeclaresItsTextsOnce, IsReady}
use Rattle.ecma_runs.specs.declared.script.Script.{Script}
use Rattle.ecma_runs.specs.Observation.{observe}
use Rattle.ecma_pipeline.specs.Ways.{IsConvertedTo, IsWrittenFor, LowersToReady, DoesWhatItsSourceDoes, final_text}
use Rattle.ecma_pipeline.specs.Written.{DoesWhatItsTreeDoes}
use Rattle.ecma_plain.specs.Read.{IsRead}

-- what is written for a module that was read is a plain module, of the tree that was made of it, declares no name again where it may not, has the interface of what the options
-- leave of its source, and does what that does
abbrev pub ConvertedModulesDoWhatTheirSourcesDo : Type 0
ConvertedModulesDoWhatTheirSourcesDo =
    (config : Config) (unresolved top left bound : ℕ) (text : List ℕ) (source final : Node) → IsUtf8 text → length text < 2 ^ 32 - 64 → reads_as text typescript bound ≡ Ok source
    → (is : IsConvertedTo config unresolved top left source final)
    → DoesWhatItsSourceDoes unresolved top left (elided_source config unresolved top left source) final (final_text is.hygienic)

-- and so is what is written for any tree as modules are read, of which no identifier is long, and none was made
abbrev pub WrittenModulesDoWhatTheirSourcesDo : Type 0
WrittenModulesDoWhatTheirSourcesDo =
    (assign : TsImportExportAssignConfig) (no_empty_export was_module : Bool) (unresolved top left : ℕ) (source final : Node) → IsRead source → NoneLong source → NoneMade source
    → (is : IsWrittenFor assign no_empty_export was_module unresolved top left source final) → DoesWhatItsSourceDoes unresolved top left source final (final_text is.hygienic)

-- a module as it is read, each form of which is taken, in which no assignment is refused, no identifier is long, and no name is declared again where it may not be, is ready once
-- its names are bound, it is resolved and its assignments are lowered, and its scopes have contexts of their own
abbrev pub BoundSourcesAreReady : Type 0
BoundSourcesAreReady =
    (assign : TsImportExportAssignConfig) (unresolved top left : ℕ) (source : Node) → IsRead source → NoneLong source → first_untaken assign source ≡ None → first_refusal assign source ≡ None
    → redeclared source ≡ [] → AreGiven unresolved top left source → LowersToReady assign unresolved (resolved unresolved top left (with_bound_names source))

-- the tree that is written fits: one that is ready, without its types, with its final texts
abbrev pub FinalTreesFit : Type 0
FinalTreesFit = (assignments : Bool) (free : ℕ) (tree final : Node) → IsReady assignments free tree → IsHygienic (stripped tree) final → Fits final

-- what is read of the written module declares no name again where it may not be
abbrev pub WrittenModulesAreNotRedeclared : Type 0
WrittenModulesAreNotRedeclared =
    (assignments : Bool) (free : ℕ) (tree final written : Node) → IsReady assignments free tree → IsHygienic (stripped tree) final → IsReading final written → redeclared written ≡ []

-- so what is written for a tree that is ready, whose exported declarations keep their texts, and whose scopes declare each text once but for names that were made, does what the tree
-- does, whether or not its literals have source texts, and whichever scopes share contexts
abbrev pub ReadyTreesAreWritten : Type 0
ReadyTreesAreWritten =
    (assignments : Bool) (free : ℕ) (tree final : Node) → IsReady assignments free tree → DeclaresItsTextsOnce tree → (is : IsHygienic (stripped tree) final)
    → KeepsExportedTexts (text_of (text_in is.names)) (stripped tree) → DoesWhatItsTreeDoes assignments tree final

-- a module each form of which is taken, with bound names, resolved, is observed to do what the resolved module does
abbrev pub BoundSourcesRunAlike : Type 0
BoundSourcesRunAlike =
    (assign : TsImportExportAssignConfig) (source : Node) → HasSort sort.Module source → first_untaken assign source ≡ None → (unresolved top left : ℕ) (turns : ℕ) (options : Config) (script : Script)
    → observe turns options (resolved unresolved top left (with_bound_names source)) script ≡ observe turns options (resolved unresolved top left source) script
