-- From a text to what is written for what the options leave of its module.
use Rattle.std.proofs.Common.{ℕ, ◌<◌, ◌+◌, ◌-◌, ◌^◌, arith, length, sym, ◌≤◌, subst}
use Rattle.ecma_kind.specs.declared.shapes.Sort.TheVariants as sort
use Rattle.ecma_tree.specs.declared.node.Node.{Node}
use Rattle.ecma_tree.specs.Sorted.{HasSort}
use Rattle.ecma_config.specs.declared.config.Config.{Config}
use Rattle.ecma_elide_sources.specs.Laws.{ElidedSourcesAreRead, ElidedSourcesAreTaken, ElidedSourcesTakeAsManyContexts, ElidingKeepsNamesShort, ElidingMakesNoNames}
use Rattle.ecma_elide_sources.specs.Sources.{elided_source}
use Rattle.ecma_fits.specs.Fitting.{Fits}
use Rattle.ecma_lower.specs.Marking.{has_module_declaration}
use Rattle.ecma_modules.specs.Modules.{typescript}
use Rattle.ecma_pipeline_names.specs.Laws.{NamesThatAreReadAreShort}
use Rattle.ecma_text_spans.specs.Laws.{NamesThatAreReadStandInTheSource}
use Rattle.ecma_plain.specs.Read.{IsRead}
use Rattle.ecma_scope.specs.Resolved.{AreGiven}
use Rattle.ecma_text_sources.specs.Laws.{ReadTreesAreRead}
use Rattle.ecma_pipeline.specs.Laws.{ConvertedModulesDoWhatTheirSourcesDo, WrittenModulesDoWhatTheirSourcesDo}

pub record Laws : Type 0 where
  pub reads : ReadTreesAreRead
  pub short : NamesThatAreReadAreShort
  pub made : NamesThatAreReadStandInTheSource
  pub elided_read : ElidedSourcesAreRead
  pub elided_taken : ElidedSourcesAreTaken
  pub elided_short : ElidingKeepsNamesShort
  pub elided_made : ElidingMakesNoNames
  pub elided_contexts : ElidedSourcesTakeAsManyContexts
  pub written : WrittenModulesDoWhatTheirSourcesDo

shorter : (n : ℕ) → n < 2 ^ 32 - 64 → n < 2 ^ 32
shorter n short = omega arith

short_names : (n : ℕ) → n < 2 ^ 32 - 64 → n + 64 < 4294967296
short_names n short = omega arith

-- contexts enough for a module are enough for what the options leave of it
elided_given : ElidedSourcesTakeAsManyContexts → (config : Config) (unresolved top left : ℕ) (source : Node) → Fits source → AreGiven unresolved top left source
    → AreGiven unresolved top left (elided_source config unresolved top left source)
elided_given law config unresolved top left source fits given = record {
  unresolved_above = given.unresolved_above;
  top_above = given.top_above;
  apart = given.apart;
  enough = subst (λ (n : ℕ). n ≤ left) (sym (law config unresolved top left source fits)) given.enough;
}

pub converted_modules : Laws → ConvertedModulesDoWhatTheirSourcesDo
converted_modules laws config unresolved top left bound text source final utf8 short reads is =
    let read : IsRead source = laws.reads text typescript bound source utf8 (shorter (length text) short) reads in
    let sorted : HasSort sort.Module source = read.fits.sorted in
    let left_of : Node = elided_source config unresolved top left source in
    laws.written config.import_export_assign_config config.no_empty_export (has_module_declaration source) unresolved top left left_of final
    (laws.elided_read config unresolved top left source read)
    (laws.elided_short config unresolved top left source sorted (laws.short text typescript bound source (short_names (length text) short) reads))
    (laws.elided_made config unresolved top left source sorted (laws.made text typescript bound source utf8 reads))
    (record {
      taken = laws.elided_taken config config.import_export_assign_config unresolved top left source sorted is.taken;
      unrefused = is.unrefused;
      distinct = is.distinct;
      given = elided_given laws.elided_contexts config unresolved top left source read.fits is.given;
      uncaptured = is.uncaptured;
      hygienic = is.hygienic;
    })
