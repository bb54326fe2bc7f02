-- What is read of a text needs a hundred contexts for each of its bytes, and twenty more, at most.
use Rattle.std.proofs.Common.{◌≡◌, ◌≤◌, ℕ, ◌+◌, ◌*◌, List, [], ◌∷◌, length, Option, Some, None, Result, Ok, Err, refl, ap, arith}
use Rattle.std.specs.Str.{IsUtf8}
use Rattle.ecma_tree.specs.declared.node.Node.{Node}
use Rattle.ecma_grammar.specs.declared.error.RawError.{RawError}
use Rattle.ecma_grammar.specs.declared.production.Mode.{Mode}
use Rattle.ecma_grammar.specs.Modules as grammar
use Rattle.ecma_grammar.specs.Modules.{reads_module}
use Rattle.ecma_grammar.specs.Reading.{Outcome, Position, fails, read, too_deep}
use Rattle.ecma_grammar.specs.trees.Others.{the_one}
use Rattle.ecma_grammar.specs.trees.Parts.{framed}
use Rattle.ecma_rules.specs.Finishing.{finished}
use Rattle.ecma_rules.specs.Rules.{first_broken}
use Rattle.ecma_modules.specs.Modules.{reads_as}
use Rattle.ecma_text_types.proofs.Raws.{of_raw}
use Rattle.ecma_text_contexts.specs.Laws.{NeededIsBoundedByTheText}
use Rattle.ecma_text_contexts.proofs.Weights.{weight, weights, worth}
use Rattle.ecma_text_contexts.proofs.Chains.{framed_weighs}
use Rattle.ecma_text_contexts.proofs.Made.{the_one_light}
use Rattle.ecma_text_contexts.proofs.Needed.{needed_by_weight}
use Rattle.ecma_text_contexts.proofs.Finished.{finished_weight}
use Rattle.ecma_text_contexts.proofs.Paying.{module_is_paid}

-- nodes weigh one less than they are worth, if there are any
one_lighter : (most : ℕ) (xs : List Node) → worth xs ≤ most + 1 → weights xs ≤ most
one_lighter most [] h = omega arith
one_lighter most (x ∷ xs) h = omega arith

the_one_weighs : (most : ℕ) (xs : List Node) → worth xs ≤ most + 1 → weight (framed 1 the_one xs) ≤ most
the_one_weighs most xs h =
    let a = one_lighter most xs h in
    let b = the_one_light xs in
    framed_weighs 1 the_one xs most (omega arith)

module _ (text : List ℕ) (mode : Mode) (bound : ℕ) (utf8 : IsUtf8 text) where
  abbrev most : ℕ
  most = 100 * length text + 4

  raw_weight : (raw : Node) → grammar.answer_of (reads_module text mode bound) ≡ Ok raw → weight raw ≤ most
  raw_weight raw e = by_outcome (reads_module text mode bound) (λ t xs is. module_is_paid text utf8 mode bound t xs is) e
    where
      by_outcome : (o : Outcome (List Node)) → ((t : Position) (xs : List Node) → o ≡ read xs t → worth xs ≤ 100 * length text + 5) → grammar.answer_of o ≡ Ok raw → weight raw ≤ most
      by_outcome (read xs t) h f =
          let is : framed 1 the_one xs ≡ raw = cc in
          let same = ap weight is in
          let a = h t xs refl in
          let b = the_one_weighs most xs (omega arith) in
          omega arith
      by_outcome (fails at) h f = cc
      by_outcome (too_deep at) h f = cc

  tree_weight : (tree : Node) → reads_as text mode bound ≡ Ok tree → weight tree ≤ most
  tree_weight tree e =
      of_raw (λ n. weight n ≤ most) text mode bound tree
      (λ raw h b is.
      (let same = ap weight is in
      let a = finished_weight raw in
      let c = raw_weight raw h in
      omega arith)) e

pub needed_is_bounded : NeededIsBoundedByTheText
needed_is_bounded text mode bound tree utf8 e =
    let a = tree_weight text mode bound utf8 tree e in
    let b = needed_by_weight tree in
    omega arith
