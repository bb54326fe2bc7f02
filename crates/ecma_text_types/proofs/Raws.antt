-- What is read as a module is a raw tree without what types hold that keeps the context rules, finished.
use Rattle.std.proofs.Common.{◌≡◌, ℕ, List, Option, Some, None, Result, Ok, Err, refl}
use Rattle.ecma_tree.specs.declared.node.Node.{Node}
use Rattle.ecma_grammar.specs.declared.error.RawError.{RawError}
use Rattle.ecma_grammar.specs.declared.production.Mode.{Mode}
use Rattle.ecma_grammar.specs.Modules as grammar
use Rattle.ecma_grammar.specs.Modules.{reads_module, reads_module_with_types}
use Rattle.ecma_rules.specs.Baring.{bared}
use Rattle.ecma_rules.specs.Finishing.{finished}
use Rattle.ecma_rules.specs.Rules.{first_broken}
use Rattle.ecma_grammar_laws.proofs.Sorted.{modules_sorted}
use Rattle.ecma_modules.specs.Modules.{answer_by, kept_by, reads_as}
use Rattle.ecma_text_types.specs.Laws.{ModulesAreReadWithoutTypes}
use Rattle.ecma_text_types.proofs.Readings.{read_without_types}
use Rattle.ecma_text_types.proofs.Rules.{bared_keeps_rules}

abbrev IsRead : List ℕ → Mode → ℕ → Node → Type 0
IsRead text mode bound tree = (raw : Node) × (grammar.answer_of (reads_module text mode bound) ≡ Ok raw) × (first_broken raw ≡ None) × (finished raw ≡ tree)

pub modules_read : ModulesAreReadWithoutTypes
modules_read text mode bound tree e = of_answer (grammar.answer_of (reads_module_with_types text mode bound)) refl e
  where
    kept : (full : Node) (broken : Option ℕ) → first_broken full ≡ broken → grammar.answer_of (reads_module_with_types text mode bound) ≡ Ok full → kept_by full broken ≡ Ok tree → IsRead text mode bound tree
    kept full None b h f =
        let is : finished (bared full) ≡ tree = cc in
        let r = read_without_types text mode bound full h in
        (bared full, r, bared_keeps_rules full (modules_sorted text mode bound (bared full) r) b, is)
    kept full (Some at) b h f = cc

    of_answer : (a : Result Node RawError) → grammar.answer_of (reads_module_with_types text mode bound) ≡ a → answer_by a ≡ Ok tree → IsRead text mode bound tree
    of_answer (Ok full) h f = kept full (first_broken full) refl h f
    of_answer (Err reason) h f = cc

pub of_raw : (Q : Node → Type 0) (text : List ℕ) (mode : Mode) (bound : ℕ) (tree : Node) → ((raw : Node) → grammar.answer_of (reads_module text mode bound) ≡ Ok raw → first_broken raw ≡ None → finished raw ≡ tree → Q tree)
    → reads_as text mode bound ≡ Ok tree → Q tree
of_raw Q text mode bound tree g e = let r = modules_read text mode bound tree e in g r.0 r.1 r.2 r.3

pub ruleset without_types = (modules_read)
