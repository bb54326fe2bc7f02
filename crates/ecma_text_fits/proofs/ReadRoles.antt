-- What is read as a module has its roles.
use Rattle.std.proofs.Common.{Bool, ◌||◌, subst}
use Rattle.ecma_tree.specs.declared.node.Node.{Node}
use Rattle.ecma_grammar_laws.proofs.Sorted.{modules_sorted}
use Rattle.ecma_text_sorts.proofs.Finished.{finished_sorted}
use Rattle.ecma_rules.specs.Finishing.{finished}
use Rattle.ecma_fits.specs.declared.unfit.Where.{Where}
use Rattle.ecma_fits.specs.Roles.{is_out_of_role}
use Rattle.ecma_fits.specs.Strays.{is_stray_target}
use Rattle.ecma_text_fits.specs.Laws.{FinishedTargetsAreNoStrays, FinishedTreesHaveTheirRoles, ReadTargetsAreNoStrays, ReadTreesHaveTheirRoles}
use Rattle.ecma_fits.specs.Fitting.{NoneFails}
use Rattle.ecma_text_fits_finished.proofs.FinishedRoles.{roles_finished}
use Rattle.ecma_text_types.proofs.Raws.{of_raw}
use Rattle.ecma_text_fits_roles.proofs.RoleReads.{modules_placed}
use Rattle.ecma_fits.proofs.Clauses.{less, out_of_role, stray_target}
use Rattle.ecma_fits.proofs.Walks.{neither}

abbrev both : Where → Node → Bool
both w node = is_out_of_role w.role node || is_stray_target w.role w.arguments node

role_of_both : (tree : Node) → NoneFails both tree → NoneFails out_of_role tree
role_of_both = less both out_of_role (λ w node h. (neither (is_out_of_role w.role node) (is_stray_target w.role w.arguments node) h).0)

target_of_both : (tree : Node) → NoneFails both tree → NoneFails stray_target tree
target_of_both = less both stray_target (λ w node h. (neither (is_out_of_role w.role node) (is_stray_target w.role w.arguments node) h).1)

pub finished_in_roles : FinishedTreesHaveTheirRoles
finished_in_roles raw sorted kept placed = role_of_both (finished raw) (roles_finished raw sorted kept (finished_sorted raw sorted kept) placed)

pub finished_targets : FinishedTargetsAreNoStrays
finished_targets raw sorted kept placed = target_of_both (finished raw) (roles_finished raw sorted kept (finished_sorted raw sorted kept) placed)

pub read_in_roles : ReadTreesHaveTheirRoles
read_in_roles text mode bound tree e =
    of_raw (NoneFails out_of_role) text mode bound tree
    (λ raw h b is. (let sorted = modules_sorted text mode bound raw h in subst (NoneFails out_of_role) is (finished_in_roles raw sorted b (modules_placed text mode bound raw h)))) e

pub read_targets : ReadTargetsAreNoStrays
read_targets text mode bound tree e =
    of_raw (NoneFails stray_target) text mode bound tree
    (λ raw h b is. (let sorted = modules_sorted text mode bound raw h in subst (NoneFails stray_target) is (finished_targets raw sorted b (modules_placed text mode bound raw h)))) e

pub ruleset roles_finish = (finished_in_roles)

pub ruleset targets_finish = (finished_targets)

pub ruleset roles_read = (read_in_roles)

pub ruleset targets_read = (read_targets)
