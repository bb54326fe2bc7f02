-- What fits fits without types, where no name is bound with a type round it.
use Rattle.ecma_fits.specs.Fitting.{NoneFails}
use Rattle.ecma_strip_fits.specs.Laws.{StrippingKeepsFits}
use Rattle.ecma_strip_fits.proofs.Branches.{branches_kept}
use Rattle.ecma_strip_fits.proofs.Chains.{chains_kept}
use Rattle.ecma_strip_fits.proofs.Constructors.{constructors_kept}
use Rattle.ecma_strip_fits.proofs.FullNodes.{counts_kept}
use Rattle.ecma_strip_fits.proofs.Leaves.{leaves_kept, targets_kept}
use Rattle.ecma_strip_fits.proofs.RolesKept.{roles_kept}
use Rattle.ecma_strip_fits.proofs.RulesKept.{rules_kept}
use Rattle.ecma_strip_fits.proofs.SortsKept.{sorts_kept}
use Rattle.ecma_strip_fits.proofs.Strays.{keeps_strays}
use Rattle.ecma_strip_fits.proofs.Tests.{members_kept}
use Rattle.ecma_tree.proofs.Layers.{from_leaves_out}

pub fits_kept : StrippingKeepsFits
fits_kept tree f plain = record {
  sorted = sorts_kept tree f;
  counts = counts_kept tree f;
  branches = branches_kept tree f;
  chains = chains_kept tree f;
  members = members_kept tree f;
  roles = roles_kept tree f plain;
  targets = targets_kept tree f;
  rules = rules_kept tree f;
  constructors = constructors_kept tree f;
  leaves = leaves_kept tree f;
  strays = keeps_strays tree f;
}
