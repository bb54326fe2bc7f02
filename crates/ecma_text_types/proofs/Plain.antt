-- In plain reading no production of types is read, so what is read holds no types.
use Rattle.std.proofs.Common.{◌∙◌, Ok, ap}
use Rattle.ecma_grammar.specs.Modules.{answer_of}
use Rattle.ecma_rules.specs.Finishing.{finished}
use Rattle.ecma_modules.specs.Modules.{answer_by, kept_by, plain}
use Rattle.ecma_grammar_laws.specs.RawSorts.{one, sorted}
use Rattle.ecma_grammar_laws.proofs.Sorted.{modules_sorted}
use Rattle.ecma_kind.specs.declared.shapes.Sort.TheVariants as sort
use Rattle.ecma_text_types.specs.Laws.{PlainModulesHoldNoTypes}
use Rattle.ecma_text_types.proofs.Bared.{bared_sorted}
use Rattle.ecma_text_types.proofs.Unmarked.{plain_same}

pub plain_modules : PlainModulesHoldNoTypes
plain_modules text assignments bound raw e keeps =
    ap (λ o. answer_by (answer_of o)) (plain_same text assignments bound)
    ∙ ap answer_by e
    ∙ ap (kept_by raw) keeps
    ∙ ap (λ n. Ok (finished n)) (bared_sorted (one (sorted sort.Module)) raw (modules_sorted text (plain assignments) bound raw e))

pub ruleset no_types = (plain_modules)
