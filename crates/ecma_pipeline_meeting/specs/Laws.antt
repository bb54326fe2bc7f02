-- Which modules have the evaluator's records for their scopes, what their final texts tell apart, and that under these names may meet.
use Rattle.std.specs.Prelude.{◌≡◌, ℕ, true, false, List, None}
use Rattle.std.specs.List.{All}
use Rattle.ecma_tree.specs.declared.node.Node.{Node}
use Rattle.ecma_fits.specs.Fitting.{Fits}
use Rattle.ecma_hygiene.specs.declared.naming.Named.{Named}
use Rattle.ecma_hygiene.specs.Capture.{IsNotCaptured, placed}
use Rattle.ecma_hygiene.specs.Sights.{sights}
use Rattle.ecma_hygiene.specs.Texts.{HygienicTexts, is_new, text_in}
use Rattle.ecma_hygiene_runs.specs.Plain.{is_plain}
use Rattle.ecma_runs.specs.Exports.{export_names}
use Rattle.ecma_runs.specs.Observation.{exports_in}
use Rattle.ecma_hygiene_meeting.specs.Places.{Place, places}
use Rattle.ecma_hygiene_meeting.specs.Records.{RecordsAreScopes}
use Rattle.ecma_hygiene_meeting.specs.Meets.{Meets}
use Rattle.ecma_hygiene_meeting.specs.Texts.{KeepsFreeApart, sent, written}
use Rattle.ecma_hygiene_scopes.specs.Once.{DeclaresEachOnce}
use Rattle.ecma_pipeline_meeting.specs.Telling.{BindsInside, SaysScopes, TellsOwnNames, TellsParameters}

-- in a plain module that fits, each scope for which the evaluator makes a record is that record, but that a default export without a name has a variable that no scope declares
abbrev pub PlainModulesHaveRecordsOfScopes : Type 0
PlainModulesHaveRecordsOfScopes = (tree : Node) → Fits tree → is_plain tree ≡ true → RecordsAreScopes tree

-- with final texts a scope that declares each text in one context, but for what was made, writes two names as two
abbrev pub FinalTextsTellNamesOfScopes : Type 0
FinalTextsTellNamesOfScopes = (tree : Node) (names : List Named) → HygienicTexts tree names → All (TellsOwnNames (is_new (sights tree)) (text_in names)) (places tree)

-- and a body writes none of its names as a parameter
abbrev pub FinalTextsTellNamesFromParameters : Type 0
FinalTextsTellNamesFromParameters = (tree : Node) (names : List Named) → HygienicTexts tree names → All (TellsParameters (text_in names)) (places tree)

-- so names may meet under the final texts of a plain module that fits, where its ids say which scopes declare its names, and bindings have contexts of their own, with a map of contexts
-- that keeps the empty one, and that of free names apart: where what is exported under its own name keeps its text
abbrev pub PlainFinalTextsMeet : Type 0
PlainFinalTextsMeet =
    (names : List Named) (free : ℕ) (to : ℕ → ℕ) (tree : Node) → HygienicTexts tree names → Fits tree → is_plain tree ≡ true → SaysScopes (is_new (sights tree)) free tree → BindsInside free tree → KeepsFreeApart to free → to 0 ≡ 0
    → All (λ id. written (text_in names) id ≡ id.sym) (export_names (exports_in tree)) → Meets (sent to (text_in names)) tree

-- and under its own texts, where nothing is captured by them, and no scope declares a text twice
abbrev pub PlainOwnTextsMeet : Type 0
PlainOwnTextsMeet =
    (free : ℕ) (to : ℕ → ℕ) (tree : Node) → All (IsNotCaptured (λ id. None)) (placed tree) → All (λ (place : Place). DeclaresEachOnce place.node place.around) (places tree)
    → Fits tree → is_plain tree ≡ true → SaysScopes (λ id. false) free tree → KeepsFreeApart to free → to 0 ≡ 0 → Meets (sent to (λ id. None)) tree
