-- In the middle of a conditional expression, without types, all is read as elsewhere.
use Rattle.std.proofs.Common.{◌≡◌, ℕ, zero, suc, ◌+◌, ◌*◌, Bool, true, false, refl, ap, sym, ◌∙◌, if◌then◌else◌}
use Rattle.ecma_grammar.specs.declared.production.Part.{Part}
use Rattle.ecma_grammar.specs.declared.production.Part.TheVariants as part
use Rattle.ecma_grammar.specs.Grammar as grammar
use Rattle.ecma_grammar.specs.Grammar.{Grammar}
use Rattle.ecma_grammar.specs.PartBodies.{part_body}
use Rattle.ecma_grammar.specs.productions.Types.{params}
use Rattle.ecma_grammar.specs.productions.Functions.{arrow, arrow_rest}
use Rattle.ecma_grammar.specs.productions.Operators.{short_circuit}
use Rattle.ecma_grammar.specs.productions.Expressions as expressions
use Rattle.ecma_print_tokens.specs.Items.{Items}
use Rattle.ecma_print_tokens.specs.Taking as taking
use Rattle.ecma_print_tokens.specs.Taking.{Took, took, refused, token_in}
use Rattle.ecma_shapes.proofs.Signs.{count}
use Rattle.ecma_print_readings.proofs.Machine.{Out, read, fails, unsure, Turn, behind_on, with_front, followed_on, or_on, many_on, many_up_to, ahead_on, unless_on, built_on, interp, levels, means}

-- a part, and a grammar, without a middle
abbrev elsewhere : Part → Part
elsewhere (part.Assign no_in middle) = part.Assign no_in false
elsewhere u = u

abbrev plainly : Grammar → Grammar
plainly (grammar.◌▸◌ (grammar.marked a) b) = grammar.marked grammar.nothing
plainly (grammar.◌▸◌ a b) = grammar.◌▸◌ (plainly a) (plainly b)
plainly (grammar.◌//◌ a b) = grammar.◌//◌ (plainly a) (plainly b)
plainly (grammar.many a) = grammar.many (plainly a)
plainly (grammar.ahead a) = grammar.ahead (plainly a)
plainly (grammar.unless a) = grammar.unless (plainly a)
plainly (grammar.marked a) = grammar.marked grammar.nothing
plainly (grammar.assigned a) = grammar.assigned (plainly a)
plainly (grammar.up u) = grammar.up (elsewhere u)
plainly (grammar.enter u) = grammar.enter (elsewhere u)
plainly (grammar.behind t u) = grammar.behind t (elsewhere u)
plainly (grammar.build f a) = grammar.build f (plainly a)
plainly g = g

followed_alike : (f f' : Turn) → ((us : Items) → f us ≡ f' us) → (o : Out) → followed_on f o ≡ followed_on f' o
followed_alike f f' same (read xs us) = ap (with_front xs) (same us)
followed_alike f f' same fails = refl
followed_alike f f' same unsure = refl

or_alike : (f f' : Turn) (ts : Items) → f ts ≡ f' ts → (o : Out) → or_on f ts o ≡ or_on f' ts o
or_alike f f' ts same (read xs us) = refl
or_alike f f' ts same fails = same
or_alike f f' ts same unsure = refl

behind_alike : (f f' : Turn) → ((us : Items) → f us ≡ f' us) → (o : Took) → behind_on f o ≡ behind_on f' o
behind_alike f f' same (took w us) = same us
behind_alike f f' same refused = refl
behind_alike f f' same taking.unsure = refl

many_alike : (f f' : Turn) → ((ts : Items) → f ts ≡ f' ts) → (n : ℕ) (ts : Items) → many_up_to f n ts ≡ many_up_to f' n ts
unfolding many_up_to
many_alike f f' same zero ts = refl
many_alike f f' same (suc n) ts = go (f ts) (many_alike f f' same n) ∙ ap (many_on (many_up_to f' n) ts) (same ts)
  where
    go : (o : Out) → ((us : Items) → many_up_to f n us ≡ many_up_to f' n us) → many_on (many_up_to f n) ts o ≡ many_on (many_up_to f' n) ts o
    go (read xs us) r = ap (with_front xs) (r us)
    go fails r = refl
    go unsure r = refl

module _ (assignments : Bool) where
  module _ (p : Part → Turn) (same : (u : Part) (ts : Items) → p u ts ≡ p (elsewhere u) ts) where
    as_elsewhere : (g : Grammar) (ts : Items) → interp assignments p g ts ≡ interp assignments p (plainly g) ts
    as_elsewhere (grammar.◌▸◌ (grammar.marked a) b) ts = refl
    as_elsewhere (grammar.◌▸◌ a b) ts =
        followed_alike (interp assignments p b) (interp assignments p (plainly b)) (as_elsewhere b) (interp assignments p a ts) ∙ ap (followed_on (interp assignments p (plainly b))) (as_elsewhere a ts)
    as_elsewhere (grammar.◌//◌ a b) ts =
        or_alike (interp assignments p b) (interp assignments p (plainly b)) ts (as_elsewhere b ts) (interp assignments p a ts) ∙ ap (or_on (interp assignments p (plainly b)) ts) (as_elsewhere a ts)
    as_elsewhere (grammar.many a) ts = many_alike (interp assignments p a) (interp assignments p (plainly a)) (as_elsewhere a) (suc (count ts)) ts
    as_elsewhere (grammar.ahead a) ts = ap (ahead_on ts) (as_elsewhere a ts)
    as_elsewhere (grammar.unless a) ts = ap (unless_on ts) (as_elsewhere a ts)
    as_elsewhere (grammar.marked a) ts = refl
    as_elsewhere (grammar.assigned a) ts = ap (λ o. if assignments then o else fails) (as_elsewhere a ts)
    as_elsewhere (grammar.up u) ts = same u ts
    as_elsewhere (grammar.enter u) ts = same u ts
    as_elsewhere (grammar.behind t u) ts = behind_alike (p u) (p (elsewhere u)) (same u) (token_in t ts)
    as_elsewhere (grammar.build f a) ts = ap (built_on f) (as_elsewhere a ts)
    as_elsewhere g ts = refl

  body_elsewhere : (no_in middle : Bool) → plainly (part_body (part.Assign no_in middle)) ≡ plainly (part_body (part.Assign no_in false))
  unfolding params arrow arrow_rest short_circuit expressions.conditional expressions.assignments
  body_elsewhere false false = refl
  body_elsewhere false true = refl
  body_elsewhere true false = refl
  body_elsewhere true true = refl

  levels_elsewhere : (n : ℕ) (u : Part) (ts : Items) → levels assignments n u ts ≡ levels assignments n (elsewhere u) ts
  unfolding levels
  levels_elsewhere zero u ts = refl
  levels_elsewhere (suc n) (part.Assign no_in middle) ts =
      let p = levels assignments n in
      as_elsewhere p (levels_elsewhere n) (part_body (part.Assign no_in middle)) ts
      ∙ (ap (λ g. interp assignments p g ts) (body_elsewhere no_in middle)
      ∙ sym (as_elsewhere p (levels_elsewhere n) (part_body (part.Assign no_in false)) ts))
  levels_elsewhere (suc n) u ts = refl

  pub middle_is : (no_in : Bool) (ts : Items) → means assignments (part.Assign no_in true) ts ≡ means assignments (part.Assign no_in false) ts
  unfolding means
  middle_is no_in ts = levels_elsewhere (3 * count ts + 3) (part.Assign no_in true) ts
