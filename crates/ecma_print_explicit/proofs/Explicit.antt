-- What fits, fits with explicit parentheses, since each clause stays.
use Rattle.ecma_kind.specs.declared.shapes.Sort.TheVariants as sort
use Rattle.ecma_tree.specs.Sorted.{one}
use Rattle.ecma_print_parentheses.proofs.Sorting.{sorts_are_kept}
use Rattle.ecma_print_fits.proofs.Branching.{branches_stay, members_stay}
use Rattle.ecma_print_fits.proofs.Chaining.{chains_stay}
use Rattle.ecma_print_fits.proofs.Constructing.{constructors_stay}
use Rattle.ecma_print_fits.proofs.Counting.{counts_stay}
use Rattle.ecma_print_fits.proofs.Holding.{roles_stay}
use Rattle.ecma_print_fits.proofs.Ruling.{rules_stay}
use Rattle.ecma_print_fits.proofs.Spelling.{leaves_stay}
use Rattle.ecma_print_fits.proofs.Straying.{strays_stay}
use Rattle.ecma_print_fits.proofs.Targeting.{targets_stay}
use Rattle.ecma_print_explicit.specs.Laws.{ExplicitTreesFit}

pub trees_fit : ExplicitTreesFit
trees_fit tree c = record {
  sorted = sorts_are_kept tree (one sort.Module) c.sorted;
  counts = counts_stay tree c.sorted c.counts;
  branches = branches_stay tree c.branches;
  chains = chains_stay tree c.sorted c.chains;
  members = members_stay tree c.members;
  roles = roles_stay tree c.roles;
  targets = targets_stay tree c.sorted c.roles c.targets;
  rules = rules_stay tree c.sorted c.roles c.rules;
  constructors = constructors_stay tree c.sorted c.constructors;
  leaves = leaves_stay tree c.leaves;
  strays = strays_stay tree c.strays;
}
