-- What is written for a tree that is ready, by the laws of each step: literals without source text have that which is written for them.
use Rattle.std.proofs.Common.{◌≡◌, ◌∙◌, ◌≤◌, ℕ, Bool, [], refl, sym, ap, subst}
use Rattle.ecma_tree.specs.Spans.{without_spans}
use Rattle.ecma_tree.specs.declared.node.Node.{Node}
use Rattle.ecma_plain.specs.Texts.{IsPlainModule}
use Rattle.ecma_print.specs.Explicit.{explicit}
use Rattle.ecma_print.specs.Layout.{layout}
use Rattle.ecma_scope.specs.Conflicts.{redeclared}
use Rattle.ecma_scope.specs.Laws.{without_contexts}
use Rattle.ecma_scope.specs.Resolved.{resolved, AreGiven}
use Rattle.ecma_scope_congruence.specs.Laws.{SpansDoNotMatterToConflicts, SpansDoNotMatterToContexts}
use Rattle.ecma_strip.specs.Stripping.{stripped}
use Rattle.ecma_hygiene.specs.Hygienic.{IsHygienic}
use Rattle.ecma_hygiene.specs.Renamed.{text_of}
use Rattle.ecma_hygiene.specs.Texts.{text_in}
use Rattle.ecma_hygiene_runs.specs.Exports.{KeepsExportedTexts}
use Rattle.ecma_config.specs.declared.config.Config.{Config}
use Rattle.ecma_runs.specs.declared.script.Script.{Script}
use Rattle.ecma_runs.specs.Observation.{observe}
use Rattle.ecma_runs.proofs.Layers.{without_spans_kept}
use Rattle.ecma_round_trip.specs.Laws.{IsReadAgain}
use Rattle.ecma_round_trip_literals.specs.Laws.{WhatFitsAndIsPlainIsReadAgain}
use Rattle.ecma_round_trip_literals.specs.Sources.{with_sources}
use Rattle.ecma_source_texts.specs.Laws.{SourcesDoNotMatterToConflicts, SourcesDoNotMatterToContexts, SourcesDoNotMatterToParentheses, SourcesDoNotMatterToRuns}
use Rattle.ecma_ready.specs.Ready.{DeclaresItsTextsOnce, IsReady}
use Rattle.ecma_fits.specs.Fitting.{Fits}
use Rattle.ecma_pipeline_plain.specs.Laws.{ReadyTreesArePlain}
use Rattle.ecma_pipeline_runs.specs.Laws.{PassesKeepRuns}
use Rattle.ecma_pipeline.specs.Laws.{FinalTreesFit, ReadyTreesAreWritten, WrittenModulesAreNotRedeclared}
use Rattle.ecma_pipeline.proofs.Conflicts.{FinalModulesAreNotRedeclared}

pub record Laws : Type 0 where
  pub fit : FinalTreesFit
  pub plain : ReadyTreesArePlain
  pub again : WhatFitsAndIsPlainIsReadAgain
  pub distinct : WrittenModulesAreNotRedeclared
  pub clear : FinalModulesAreNotRedeclared
  pub runs : PassesKeepRuns
  pub spans : SpansDoNotMatterToContexts
  pub span_conflicts : SpansDoNotMatterToConflicts
  pub parentheses : SourcesDoNotMatterToParentheses
  pub contexts : SourcesDoNotMatterToContexts
  pub conflicts : SourcesDoNotMatterToConflicts
  pub source_runs : SourcesDoNotMatterToRuns

module _ (laws : Laws) (assignments : Bool) (free : ℕ) (tree final : Node) (is : IsReady assignments free tree) (once : DeclaresItsTextsOnce tree) (hygienic : IsHygienic (stripped tree) final)
    (exported : KeepsExportedTexts (text_of (text_in hygienic.names)) (stripped tree)) where
  -- what would be read, were it not for the source texts of literals
  abbrev whole : Node
  whole = explicit (without_contexts final)

  fits : Fits final
  fits = laws.fit assignments free tree final is hygienic

  made : (again : Node) × IsPlainModule assignments (layout final) again × IsReadAgain (with_sources final) again
  made = laws.again assignments final fits (laws.plain assignments free tree final is hygienic)

  abbrev written : Node
  written = made.0

  reading : without_spans written ≡ without_spans (with_sources whole)
  reading = made.2 ∙ ap without_spans (laws.parentheses final)

  none_again : redeclared written ≡ []
  none_again = laws.span_conflicts written (with_sources whole) reading ∙ laws.conflicts whole ∙ laws.distinct assignments free tree final whole is hygienic refl

  module _ (unresolved top left : ℕ) (given : AreGiven unresolved top left written) where
    given_whole : AreGiven unresolved top left whole
    given_whole = record {
      unresolved_above = given.unresolved_above;
      top_above = given.top_above;
      apart = given.apart;
      enough = subst (λ (n : ℕ). n ≤ left) ((laws.spans written (with_sources whole) reading).count ∙ (laws.contexts whole).count) given.enough;
    }

    runs_alike : (turns : ℕ) (options : Config) (script : Script) → observe turns options (resolved unresolved top left written) script ≡ observe turns options tree script
    runs_alike turns options script =
        sym (without_spans_kept turns options (resolved unresolved top left written) script)
        ∙ ap (λ n. observe turns options n script) ((laws.spans written (with_sources whole) reading).same unresolved top left)
        ∙ without_spans_kept turns options (resolved unresolved top left (with_sources whole)) script
        ∙ ap (λ n. observe turns options n script) ((laws.contexts whole).same unresolved top left)
        ∙ laws.source_runs turns options (resolved unresolved top left whole) script
        ∙ laws.runs assignments free tree final whole is once hygienic fits (laws.clear assignments free tree final is hygienic) exported refl unresolved top left given_whole turns options script

pub trees_are_written : Laws → ReadyTreesAreWritten
trees_are_written laws assignments free tree final is once hygienic exported =
    let again = made laws assignments free tree final is once hygienic exported in
    record {
      written = again.0;
      plain = again.1;
      again = again.2;
      distinct = none_again laws assignments free tree final is once hygienic exported;
      runs = λ unresolved top left given. runs_alike laws assignments free tree final is once hygienic exported unresolved top left given;
    }
