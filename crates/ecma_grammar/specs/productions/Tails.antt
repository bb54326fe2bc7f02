-- What may stand after the first operand of an assignment expression, one precedence of operators after the other: all of it is read after what was read so far, and both are made into one node.
use Rattle.std.specs.Prelude.{Bool, List, [], ◌∷◌, codes}
use Rattle.ecma_grammar.specs.declared.production.Form.{Form}
use Rattle.ecma_grammar.specs.declared.production.Form.TheVariants as form
use Rattle.ecma_grammar.specs.declared.production.Part.TheVariants as part
use Rattle.ecma_grammar.specs.Grammar.{Grammar, ◌//◌, optional, behind_punct}
use Rattle.ecma_grammar.specs.productions.Chains.{links}
use Rattle.ecma_grammar.specs.productions.Operators.{updates, factors, terms, shifts, relations, equalities, conjunctions, exclusions, disjunctions, coalescing, logicals}
use Rattle.ecma_grammar.specs.productions.Expressions.{choice, assignments}

pub record Tail : Type 0 where
  pub form : Form
  pub grammar : Grammar

abbrev pub tail : Form → Grammar → Tail
tail f g = record { form = f; grammar = g }

abbrev pub links_tail : Tail
links_tail = tail form.Links links

-- after the links
abbrev pub tails : Bool → Bool → List Tail
tails no_in middle =
    tail form.Chain updates
    ∷ tail form.Chain (optional (behind_punct (codes "**") part.Power))
    ∷ tail form.Chain factors
    ∷ tail form.Chain terms
    ∷ tail form.Chain shifts
    ∷ tail form.Chain (relations no_in)
    ∷ tail form.Chain (equalities no_in)
    ∷ tail form.Chain (conjunctions no_in)
    ∷ tail form.Chain (exclusions no_in)
    ∷ tail form.Chain (disjunctions no_in)
    ∷ tail form.Logical (coalescing no_in // logicals no_in)
    ∷ tail form.Chain (choice no_in middle)
    ∷ tail form.Chain (assignments no_in middle)
    ∷ []
