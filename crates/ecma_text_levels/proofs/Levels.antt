-- Readings with more levels, by one induction over grammars and one over levels; and the answers of whole texts.
use Rattle.std.proofs.Common.{◌≡◌, ℕ, zero, suc, ◌+◌, ◌≤◌, List, [], ◌∷◌, length, Ok, Err, refl, sym, ap, subst, ◌∙◌, arith}
use Rattle.std.specs.Prelude.{Result}
use Rattle.ecma_tree.specs.declared.node.Node.{Node}
use Rattle.ecma_grammar.specs.declared.production.Mode.{Mode}
use Rattle.ecma_grammar.specs.declared.production.Part.{Part}
use Rattle.ecma_grammar.specs.Grammar.{Grammar, nothing, same_line, take, keep, put, ◌▸◌, ◌//◌, many, ahead, unless, marked, assigned, up, enter, behind, build}
use Rattle.ecma_grammar.specs.Reading.{Position, Outcome, read, fails, too_deep}
use Rattle.ecma_grammar.specs.Reads.{reads_with_types, levels_by, levels_with_types, Parts, token, next_start}
use Rattle.ecma_grammar.specs.Modules.{answer_of, reads_module_with_types}
use Rattle.ecma_grammar.specs.PartBodies.{part_body}
use Rattle.ecma_grammar.specs.productions.Modules.{module_body}
use Rattle.ecma_modules.specs.declared.error.ReadError.{ReadError}
use Rattle.ecma_modules.specs.declared.error.ReadError.TheVariants as error
use Rattle.ecma_modules.specs.Modules.{answer_by, reads_as}
use Rattle.ecma_text_levels.specs.Laws.{IsDeepEnough, MoreLevelsAnswerTheSame, MoreLevelsReadTheSame}
use Rattle.ecma_text_levels.proofs.Deeper.{Deeper, GoesDeeper, same_is_deeper, then_deeper, followed_deeper, or_deeper, many_deeper, ahead_deeper, unless_deeper, marked_deeper, built_deeper}

module _ (text : List ℕ) (mode : Mode) where
  abbrev PartsDeeper : Parts text → Parts text → Type 0
  PartsDeeper parts others = (p : Part) (at : ℕ) → GoesDeeper (parts p at) (others p at)

  module _ (parts others : Parts text) (h : PartsDeeper parts others) where
    grammar_deeper : (g : Grammar) → GoesDeeper (reads_with_types text mode parts g) (reads_with_types text mode others g)
    grammar_deeper nothing s = refl
    grammar_deeper same_line s = same_is_deeper (reads_with_types text mode parts same_line s)
    grammar_deeper (take t) s = same_is_deeper (reads_with_types text mode parts (take t) s)
    grammar_deeper (keep l) s = same_is_deeper (reads_with_types text mode parts (keep l) s)
    grammar_deeper (put f) s = refl
    grammar_deeper (a ▸ b) s =
        followed_deeper (reads_with_types text mode parts b) (reads_with_types text mode others b) (grammar_deeper b) (reads_with_types text mode parts a s) (reads_with_types text mode others a s) (grammar_deeper a s)
    grammar_deeper (a // b) s =
        or_deeper (reads_with_types text mode parts b) (reads_with_types text mode others b) (grammar_deeper b) s (reads_with_types text mode parts a s) (reads_with_types text mode others a s) (grammar_deeper a s)
    grammar_deeper (many a) s = many_deeper (reads_with_types text mode parts a) (reads_with_types text mode others a) (grammar_deeper a) (length text + 1) s
    grammar_deeper (ahead a) s = ahead_deeper s (reads_with_types text mode parts a s) (reads_with_types text mode others a s) (grammar_deeper a s)
    grammar_deeper (unless a) s = unless_deeper s (reads_with_types text mode parts a s) (reads_with_types text mode others a s) (grammar_deeper a s)
    grammar_deeper (marked a) s = marked_deeper mode.typescript (reads_with_types text mode parts a) (reads_with_types text mode others a) (grammar_deeper a) s
    grammar_deeper (assigned a) s = marked_deeper mode.assignments (reads_with_types text mode parts a) (reads_with_types text mode others a) (grammar_deeper a) s
    grammar_deeper (up p) s = h p s.place s
    grammar_deeper (enter p) s = h p (next_start text s) s
    grammar_deeper (behind t p) s = then_deeper (λ k. parts p k.start) (λ k. others p k.start) (λ k. h p k.start) (token text t s) (token text t s) (same_is_deeper (token text t s))
    grammar_deeper (build form a) s = built_deeper form (next_start text s) (reads_with_types text mode parts a s) (reads_with_types text mode others a s) (grammar_deeper a s)

  levels_deeper : (few more : ℕ) → few ≤ more → PartsDeeper (levels_with_types text mode few) (levels_with_types text mode more)
  unfolding levels_by
  levels_deeper zero more l p at s = tt
  levels_deeper (suc few) zero l p at s = absurd (omega arith)
  levels_deeper (suc few) (suc more) l p at s = grammar_deeper (levels_with_types text mode few) (levels_with_types text mode more) (levels_deeper few more (omega arith)) (part_body p) s

  module_deeper : (few more : ℕ) → few ≤ more → Deeper (reads_module_with_types text mode few) (reads_module_with_types text mode more)
  module_deeper few more l = grammar_deeper (levels_with_types text mode few) (levels_with_types text mode more) (levels_deeper few more l) module_body (record { place = 0; failed = 0 })

answers_same : (o o' : Outcome (List Node)) → Deeper o o' → IsDeepEnough (answer_by (answer_of o)) → answer_by (answer_of o') ≡ answer_by (answer_of o)
answers_same (read xs s) o' d e = ap (λ u. answer_by (answer_of u)) d
answers_same (fails k) o' d e = ap (λ u. answer_by (answer_of u)) d
answers_same (too_deep k) o' d e = absurd e

pub more_levels_answer_the_same : MoreLevelsAnswerTheSame
more_levels_answer_the_same text mode few more l e = answers_same (reads_module_with_types text mode few) (reads_module_with_types text mode more) (module_deeper text mode few more l) e

pub more_levels_read_the_same : MoreLevelsReadTheSame
more_levels_read_the_same text mode few more tree l is =
    more_levels_answer_the_same text mode few more l (subst IsDeepEnough (sym is) tt) ∙ is
