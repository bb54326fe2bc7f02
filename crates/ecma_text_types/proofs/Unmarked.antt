-- Plain reading makes the same nodes whether types hold something or nothing, by one induction over grammars and one over levels: no form that knows types is used.
use Rattle.std.proofs.Common.{◌≡◌, ◌∙◌, ℕ, ◌+◌, zero, suc, Bool, true, false, List, [], ◌∷◌, length, refl, ap}
use Rattle.ecma_lex.specs.declared.tokens.Token.{Token}
use Rattle.ecma_tree.specs.declared.node.Node.{Node}
use Rattle.ecma_grammar.specs.declared.production.Form.{Form}
use Rattle.ecma_grammar.specs.declared.production.Form.TheVariants as form
use Rattle.ecma_grammar.specs.declared.production.Part.{Part}
use Rattle.ecma_grammar.specs.Grammar.{Grammar, nothing, same_line, take, keep, put, ◌▸◌, ◌//◌, many, ahead, unless, marked, assigned, up, enter, behind, build}
use Rattle.ecma_grammar.specs.Made.{made, made_with_types}
use Rattle.ecma_grammar.specs.Modules.{reads_module, reads_module_with_types}
use Rattle.ecma_grammar.specs.PartBodies.{part_body}
use Rattle.ecma_grammar.specs.productions.Modules.{module_body}
use Rattle.ecma_grammar.specs.Reading as reading
use Rattle.ecma_grammar.specs.Reading.{Position, Outcome, read, fails, too_deep, Reading, then_on, followed_on, or_on, many_on, many_up_to, ahead_on, unless_on}
use Rattle.ecma_grammar.specs.Reads.{Parts, built_on, built_with_types, levels, levels_by, levels_with_types, next_start, reads, reads_with_types, token}
use Rattle.ecma_grammar_laws.proofs.RawShapes.{both}
use Rattle.ecma_modules.specs.Modules.{plain}
use Rattle.ecma_text_types.proofs.Untyped.{is_untyped, is_untyped_form, is_untyped_part}
use Rattle.ecma_text_types.proofs.UnmarkedChecks.{module_untyped, part_untyped}

made_same : (f : Form) → is_untyped_form f ≡ true → (lo hi : ℕ) (xs : List Node) → made_with_types f lo hi xs ≡ made f lo hi xs
made_same (form.Bare k) h lo hi xs = absurd (cc)
made_same (form.First k) h lo hi xs = absurd (cc)
made_same form.IndexSignature h lo hi xs = absurd (cc)
made_same _ h lo hi xs = refl

abbrev SameReadings : Reading (List Node) → Reading (List Node) → Type 0
SameReadings p p' = (s : Position) → p s ≡ p' s

followed_same : (p p' : Reading (List Node)) → SameReadings p p' → (o : Outcome (List Node)) → followed_on p o ≡ followed_on p' o
followed_same p p' h (read xs s) = ap (reading.with_front xs) (h s)
followed_same p p' h (fails k) = refl
followed_same p p' h (too_deep d) = refl

or_same : (p p' : Reading (List Node)) → SameReadings p p' → (s : Position) (o : Outcome (List Node)) → or_on p s o ≡ or_on p' s o
or_same p p' h s (read xs t) = refl
or_same p p' h s (fails k) = h (record { place = s.place; failed = k })
or_same p p' h s (too_deep d) = refl

round_same : (s : Position) (p p' : Reading (List Node)) → SameReadings p p' → (o : Outcome (List Node)) → many_on s p o ≡ many_on s p' o
round_same s p p' h (read xs t) = ap (reading.with_front xs) (h t)
round_same s p p' h (fails k) = refl
round_same s p p' h (too_deep d) = refl

many_same : (p p' : Reading (List Node)) → SameReadings p p' → (n : ℕ) → SameReadings (many_up_to p n) (many_up_to p' n)
unfolding many_up_to
many_same p p' h zero s = refl
many_same p p' h (suc n) s = ap (many_on s (many_up_to p n)) (h s) ∙ round_same s (many_up_to p n) (many_up_to p' n) (many_same p p' h n) (p' s)

marked_same : (b : Bool) (p p' : Reading (List Node)) → SameReadings p p' → SameReadings (reading.marked b p) (reading.marked b p')
marked_same true p p' h s = h s
marked_same false p p' h s = refl

then_same : (f g : Token → Reading (List Node)) → ((k : Token) → SameReadings (f k) (g k)) → (o : Outcome Token) → then_on f o ≡ then_on g o
then_same f g h (read k u) = h k u
then_same f g h (fails k) = refl
then_same f g h (too_deep d) = refl

built_same : (f : Form) → is_untyped_form f ≡ true → (lo : ℕ) (o : Outcome (List Node)) → built_with_types f lo o ≡ built_on f lo o
built_same f h lo (read xs t) = ap (λ x. read (x ∷ []) t) (made_same f h lo t.place xs)
built_same f h lo (fails k) = refl
built_same f h lo (too_deep d) = refl

module _ (text : List ℕ) (assignments : Bool) where
  abbrev PartsSame : Parts text → Parts text → Type 0
  PartsSame full parts = (u : Part) → is_untyped_part u ≡ true → (at : ℕ) → SameReadings (full u at) (parts u at)

  module _ (full parts : Parts text) (h : PartsSame full parts) where
    abbrev F : Grammar → Reading (List Node)
    F = reads_with_types text (plain assignments) full

    abbrev R : Grammar → Reading (List Node)
    R = reads text (plain assignments) parts

    grammar_same : (g : Grammar) → is_untyped g ≡ true → SameReadings (F g) (R g)
    grammar_same nothing e s = refl
    grammar_same same_line e s = refl
    grammar_same (take t) e s = refl
    grammar_same (keep l) e s = refl
    grammar_same (put f) e s = refl
    grammar_same (a ▸ b) e s = let w = both (is_untyped a) (is_untyped b) e in ap (followed_on (F b)) (grammar_same a w.0 s) ∙ followed_same (F b) (R b) (grammar_same b w.1) (R a s)
    grammar_same (a // b) e s = let w = both (is_untyped a) (is_untyped b) e in ap (or_on (F b) s) (grammar_same a w.0 s) ∙ or_same (F b) (R b) (grammar_same b w.1) s (R a s)
    grammar_same (many a) e s = many_same (F a) (R a) (grammar_same a e) (length text + 1) s
    grammar_same (ahead a) e s = ap (ahead_on s) (grammar_same a e s)
    grammar_same (unless a) e s = ap (unless_on s) (grammar_same a e s)
    grammar_same (marked a) e s = refl
    grammar_same (assigned a) e s = marked_same assignments (F a) (R a) (grammar_same a e) s
    grammar_same (up u) e s = h u e s.place s
    grammar_same (enter u) e s = h u e (next_start text s) s
    grammar_same (behind t u) e s = then_same (λ k. full u k.start) (λ k. parts u k.start) (λ k. h u e k.start) (token text t s)
    grammar_same (build f a) e s =
        let w = both (is_untyped_form f) (is_untyped a) e in
        ap (built_with_types f (next_start text s)) (grammar_same a w.1 s) ∙ built_same f w.0 (next_start text s) (R a s)

  levels_same : (n : ℕ) → PartsSame (levels_with_types text (plain assignments) n) (levels text (plain assignments) n)
  unfolding levels_by
  levels_same zero u e at s = refl
  levels_same (suc n) u e at s = grammar_same (levels_with_types text (plain assignments) n) (levels text (plain assignments) n) (levels_same n) (part_body u) (part_untyped u e) s

pub plain_same : (text : List ℕ) (assignments : Bool) (bound : ℕ) → reads_module_with_types text (plain assignments) bound ≡ reads_module text (plain assignments) bound
plain_same text assignments bound =
    grammar_same text assignments (levels_with_types text (plain assignments) bound) (levels text (plain assignments) bound) (levels_same text assignments bound) module_body module_untyped (record { place = 0; failed = 0 })
