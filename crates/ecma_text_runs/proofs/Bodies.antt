-- In what keeps the context rules no body is a declaration.
use Rattle.std.proofs.Common.{◌≡◌, refl, sym, subst, ℕ, List, Option, Some, None, Ok, Err, Result}
use Rattle.ecma_kind.specs.declared.shapes.Sort.TheVariants as sort
use Rattle.ecma_tree.specs.declared.node.Node.{Node}
use Rattle.ecma_tree.specs.Sorted.{HasSort}
use Rattle.ecma_grammar.specs.declared.production.Mode.{Mode}
use Rattle.ecma_fits.specs.declared.unfit.Where.{Where}
use Rattle.ecma_fits.specs.Fitting.{at_top, breaks_rule}
use Rattle.ecma_text_fits_finished.proofs.Rules.{keeps_rules}
use Rattle.ecma_modules.specs.Modules.{reads_as}
use Rattle.ecma_text_types.proofs.Raws.{of_raw}
use Rattle.ecma_text_sorts.proofs.Finished.{read_sorted}
use Rattle.ecma_pipeline_runs.proofs.Keeping.{KeepsRules}
use Rattle.ecma_pipeline_runs.proofs.UsualBodies.{usual-bodies}
use Rattle.ecma_text_runs.specs.Laws.{ReadModulesHaveUsualBodies}
use Rattle.ecma_text_runs.proofs.Walks.{none_below, none_here, walk}

abbrev Good : Node → Where → Type 0
Good n w = walk breaks_rule n w ≡ None

keeps : KeepsRules Good
keeps = record { rule = none_here breaks_rule; below = none_below breaks_rule }

-- no node of what is read breaks a rule
pub read_rules : (text : List ℕ) (mode : Mode) (bound : ℕ) (tree : Node) → reads_as text mode bound ≡ Ok tree → walk breaks_rule tree at_top ≡ None
read_rules text mode bound tree e =
    of_raw (λ n. walk breaks_rule n at_top ≡ None) text mode bound tree
    (λ r h b is.
    subst (λ n. walk breaks_rule n at_top ≡ None) is (keeps_rules r b (subst (HasSort sort.Module) (sym is) (read_sorted text mode bound tree e)))) e

pub read_usual : ReadModulesHaveUsualBodies
read_usual text mode bound tree e = usual-bodies Good keeps tree at_top (read_rules text mode bound tree e)
