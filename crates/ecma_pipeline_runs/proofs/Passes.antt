-- What a module does is kept the whole way.
use Rattle.ecma_print_parentheses.specs.Laws.{RunsAlike}
use Rattle.ecma_runs.proofs.Layers.{without_spans_kept}
use Rattle.ecma_scope.proofs.Unchanged.{keeps-sorts}
use Rattle.ecma_scope_congruence.proofs.ExplicitContexts.{parentheses_do_not_matter_to_contexts}
use Rattle.ecma_scope_congruence.proofs.Resolved.{spans_do_not_matter_to_contexts}
use Rattle.ecma_scope_fits.proofs.Contexts.{contexts_do_not_matter, resolved_fit_alike}
use Rattle.ecma_strip_fits.proofs.FitsKept.{fits_kept}
use Rattle.ecma_strip_fits.proofs.SortsKept.{sorts_kept}
use Rattle.ecma_strip_runs.proofs.Sorted.{only_types_go_from_modules}
use Rattle.ecma_strip_runs.proofs.Steps.{stripping_keeps_runs}
use Rattle.ecma_hygiene_scopes.proofs.Collapsing.{collapsed-is-right}
use Rattle.ecma_hygiene_scopes.proofs.ReadingAgain.{is-read-again}
use Rattle.ecma_hygiene_scopes.proofs.ResolvedApart.{resolved-tells-apart}
use Rattle.ecma_hygiene_scopes.proofs.ResolvedModules.{resolved-captures-nothing, resolved-declares-each-once}
use Rattle.ecma_hygiene_scopes.proofs.WrittenStays.{written-modules-stay}
use Rattle.ecma_hygiene_runs.specs.Laws.{SortedNamesAreOuter}
use Rattle.ecma_meeting_runs.specs.Laws.{ContextsDoNotMatterToPlain, MeetingTextsKeepRuns, PlainTreesStayPlain}
use Rattle.ecma_pipeline_meeting.specs.Laws.{PlainFinalTextsMeet, PlainOwnTextsMeet}
use Rattle.ecma_pipeline_runs.specs.Laws.{PassesKeepRuns}
use Rattle.ecma_pipeline_runs.proofs.Chain.{Laws, keep-runs}
use Rattle.ecma_pipeline_runs.proofs.Counting.{counts}
use Rattle.ecma_pipeline_runs.proofs.PlainModules.{modules-are-plain}
use Rattle.ecma_pipeline_runs.proofs.Ready.{ready-once, ready-says}

-- the laws that functions of other crates carry
pub record Given : Type 0 where
  pub alike : RunsAlike
  pub names : SortedNamesAreOuter
  pub runs : MeetingTextsKeepRuns
  pub plain_with : ContextsDoNotMatterToPlain
  pub plain_renamed : PlainTreesStayPlain
  pub meets : PlainFinalTextsMeet
  pub own_meets : PlainOwnTextsMeet

laws : Given → Laws
laws given = record {
  sorted = keeps-sorts;
  strip_sorts = sorts_kept;
  strip_fits = fits_kept;
  fits_with = contexts_do_not_matter;
  fits_resolved = resolved_fit_alike;
  plain = modules-are-plain;
  plain_with = given.plain_with;
  plain_renamed = given.plain_renamed;
  says = ready-says;
  once = ready-once;
  right = collapsed-is-right;
  counts = counts;
  again = is-read-again;
  stay = written-modules-stay;
  captures = resolved-captures-nothing;
  each_once = resolved-declares-each-once;
  tells = resolved-tells-apart;
  names = given.names;
  meets = given.meets;
  own_meets = given.own_meets;
  runs = given.runs;
  strips = stripping_keeps_runs;
  types = only_types_go_from_modules;
  spans = spans_do_not_matter_to_contexts;
  parentheses = parentheses_do_not_matter_to_contexts;
  alike = given.alike;
  places = without_spans_kept;
}

pub passes-keep-runs : Given → PassesKeepRuns
passes-keep-runs given = keep-runs (laws given)
