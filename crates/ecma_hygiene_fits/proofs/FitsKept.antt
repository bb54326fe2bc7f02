-- What fits fits with other texts, where these are no reserved words and are spelled as identifiers are.
use Rattle.std.proofs.Common.{subst, sym}
use Rattle.ecma_fits.specs.Fitting.{Fits, NoneFails}
use Rattle.ecma_hygiene.specs.Texts.{text_in}
use Rattle.ecma_hygiene_fits.specs.Laws.{FinalTextsKeepFits, HygieneKeepsFits}
use Rattle.ecma_hygiene_fits.proofs.Constructors.{constructors_kept}
use Rattle.ecma_hygiene_fits.proofs.Counts.{counts_kept}
use Rattle.ecma_hygiene_fits.proofs.Roles.{roles_kept}
use Rattle.ecma_hygiene_fits.proofs.Rules.{rules_kept}
use Rattle.ecma_hygiene_fits.proofs.Sorts.{sorts_kept}
use Rattle.ecma_hygiene_fits.proofs.Numbered.{texts_unreserved}
use Rattle.ecma_hygiene_fits.proofs.Spelled.{spelling_kept}
use Rattle.ecma_hygiene_fits.proofs.SpelledNames.{final_texts_readable, final_texts_spelled}
use Rattle.ecma_hygiene_fits.proofs.Strays.{strays_kept}
use Rattle.ecma_hygiene_fits.proofs.Targets.{targets_kept}
use Rattle.ecma_hygiene_fits.proofs.Tests.{branches_kept, chains_kept, members_kept}

pub fits_kept : FinalTextsKeepFits
fits_kept texts tree unreserved are plain f = record {
  sorted = sorts_kept texts tree f.sorted;
  counts = counts_kept texts tree f.sorted f.counts;
  branches = branches_kept texts tree f.sorted f.branches;
  chains = chains_kept texts tree f.sorted f.chains;
  members = members_kept texts tree f.sorted f.members;
  roles = roles_kept texts tree unreserved f.sorted f.roles;
  targets = targets_kept texts tree unreserved f.sorted f.targets;
  rules = rules_kept texts tree unreserved f.sorted plain f.rules;
  constructors = constructors_kept texts tree f.sorted f.constructors;
  leaves = spelling_kept texts tree are f.leaves;
  strays = strays_kept texts tree unreserved f.sorted f.strays;
}

pub hygiene_fits : HygieneKeepsFits
hygiene_fits tree written is plain short f =
    subst Fits (sym is.is)
    (fits_kept (text_in is.names) tree (texts_unreserved tree is.names is.texts) (final_texts_spelled tree is.names is.texts (final_texts_readable tree is.names is.texts short) f.leaves) plain f)
