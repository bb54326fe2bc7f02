-- A tree that is ready, stripped of its types, given its final texts, written, read again and resolved does what it did.
use Rattle.std.specs.Prelude.{◌≡◌, Bool, true, ℕ, []}
use Rattle.std.specs.List.{All}
use Rattle.ecma_tree.specs.declared.node.Node.{Node}
use Rattle.ecma_fits.specs.Fitting.{Fits}
use Rattle.ecma_scope.specs.declared.role.Role.TheVariants as role
use Rattle.ecma_strip_scopes.specs.Apart.{IsClearSeat}
use Rattle.ecma_strip_scopes.specs.Staying.{staying_seats}
use Rattle.ecma_strip.specs.Stripping.{stripped}
use Rattle.ecma_hygiene_runs.specs.Exports.{KeepsExportedTexts}
use Rattle.ecma_hygiene_runs.specs.Plain.{is_plain}
use Rattle.ecma_config.specs.declared.config.Config.{Config}
use Rattle.ecma_runs.specs.declared.script.Script.{Script}
use Rattle.ecma_runs.specs.Observation.{observe}
use Rattle.ecma_scope.specs.Conflicts.{redeclared}
use Rattle.ecma_scope.specs.Laws.{without_contexts}
use Rattle.ecma_scope.specs.Resolved.{resolved, AreGiven}
use Rattle.ecma_hygiene.specs.Hygienic.{IsHygienic}
use Rattle.ecma_hygiene.specs.Renamed.{text_of}
use Rattle.ecma_hygiene.specs.Texts.{text_in}
use Rattle.ecma_sources.specs.TypesAlone.{adds_types_alone}
use Rattle.ecma_sources.specs.Sources.{IsReading}
use Rattle.ecma_ready.specs.Ready.{DeclaresItsTextsOnce, IsReady}

-- in a module that fits, and in which all that is TypeScript is types, it is clear what each scope that stays declares without types
abbrev pub ModulesAreClear : Type 0
ModulesAreClear = (tree : Node) → Fits tree → adds_types_alone tree ≡ true → All (IsClearSeat true) (staying_seats tree role.Root)

-- and without them it is plain
abbrev pub StrippedModulesArePlain : Type 0
StrippedModulesArePlain = (tree : Node) → Fits tree → adds_types_alone tree ≡ true → is_plain (stripped tree) ≡ true

-- what is observed of the written module, resolved with whatever contexts, is what is observed of a tree that is ready, whichever of its scopes share contexts, where each declares a text
-- once but for names that were made, and declarations that are exported keep their texts; the tree with final texts fits, and declares no name again where it may not be
abbrev pub PassesKeepRuns : Type 0
PassesKeepRuns =
    (assignments : Bool) (free : ℕ) (tree final written : Node) → IsReady assignments free tree → DeclaresItsTextsOnce tree → (is : IsHygienic (stripped tree) final)
    → Fits final → redeclared (without_contexts final) ≡ [] → KeepsExportedTexts (text_of (text_in is.names)) (stripped tree) → IsReading final written
    → (unresolved top left : ℕ) → AreGiven unresolved top left written
    → (turns : ℕ) (options : Config) (script : Script) → observe turns options (resolved unresolved top left written) script ≡ observe turns options tree script
