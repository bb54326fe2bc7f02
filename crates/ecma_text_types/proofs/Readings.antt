-- What is read where types hold what was read in them is, without that, what is read where they hold nothing: by one induction over grammars and one over levels.
use Rattle.std.proofs.Common.{◌≡◌, ◌∙◌, ℕ, ◌+◌, zero, suc, Bool, true, false, List, [], ◌∷◌, ◌++◌, map, length, Ok, refl, sym, ap, ap₂, subst}
use Rattle.std.proofs.lemmas.List.{map-append}
use Rattle.ecma_kind.specs.declared.shapes.Sort.TheVariants as sort
use Rattle.ecma_tree.specs.declared.node.Node.{Node}
use Rattle.ecma_grammar.specs.declared.production.Form.{Form}
use Rattle.ecma_grammar.specs.declared.production.Mode.{Mode}
use Rattle.ecma_grammar.specs.declared.production.Part.{Part}
use Rattle.ecma_grammar.specs.Grammar.{Grammar, nothing, same_line, take, keep, put, ◌▸◌, ◌//◌, many, ahead, unless, marked, assigned, up, enter, behind, build}
use Rattle.ecma_grammar.specs.Made.{made, made_with_types}
use Rattle.ecma_grammar.specs.Modules.{answer_of, reads_module, reads_module_with_types}
use Rattle.ecma_grammar.specs.trees.Others.{the_one}
use Rattle.ecma_grammar.specs.trees.Parts.{framed}
use Rattle.ecma_grammar.specs.PartBodies.{part_body}
use Rattle.ecma_lex.specs.declared.tokens.Token.{Token}
use Rattle.ecma_grammar.specs.productions.Modules.{module_body}
use Rattle.ecma_grammar.specs.Reading as reading
use Rattle.ecma_grammar.specs.Reading.{Position, Outcome, read, fails, too_deep, Reading, then_on, with_front, followed_on, or_on, many_on, many_up_to}
use Rattle.ecma_grammar.specs.Reads.{Parts, built_on, built_with_types, levels, levels_by, levels_with_types, next_start, reads, reads_with_types, token}
use Rattle.ecma_grammar_laws.proofs.Asks.{Asked, these, first_part, is_one, none_asked, of_many, of_one, second_part}
use Rattle.ecma_grammar_laws.proofs.Checks.{module_keeps, part_kept}
use Rattle.ecma_grammar_laws.proofs.Needs.{a, keeps, needs, part_keeps, width}
use Rattle.ecma_grammar_laws.proofs.RawShapes.{both}
use Rattle.ecma_grammar_laws.specs.RawSorts.{HasRawSort, one, sorted as sorted_as}
use Rattle.ecma_grammar_laws.proofs.Sorted.{PartsKeep, Reads, as_asked, levels_keep, modules_sorted}
use Rattle.ecma_rules.specs.Baring.{bared}
use Rattle.ecma_text_types.proofs.Bared.{bared_sorted}
use Rattle.ecma_text_types.proofs.Forms.{form_alike}
use Rattle.ecma_text_types.proofs.Makings.{Commutes, framed_same}
use Rattle.ecma_text_types.proofs.Places.{SameReadings, ahead_equal, grammar_same, levels_same, unless_equal}

-- the same nodes, but for what types hold
abbrev pub bared_outcome : Outcome (List Node) → Outcome (List Node)
bared_outcome (read xs s) = read (map bared xs) s
bared_outcome (fails k) = fails k
bared_outcome (too_deep d) = too_deep d

abbrev pub Alike : Outcome (List Node) → Outcome (List Node) → Type 0
Alike o o' = bared_outcome o ≡ bared_outcome o'

abbrev AlikeReadings : Reading (List Node) → Reading (List Node) → Type 0
AlikeReadings p p' = (s : Position) → Alike (p s) (p' s)

-- what two such outcomes are
data Both : Outcome (List Node) → Outcome (List Node) → Type 0 where
  both_read : (xs ys : List Node) (s : Position) → map bared xs ≡ map bared ys → Both (read xs s) (read ys s)
  both_fail : (k : ℕ) → Both (fails k) (fails k)
  both_deep : (d : ℕ) → Both (too_deep d) (too_deep d)

both_of : (o o' : Outcome (List Node)) → Alike o o' → Both o o'
both_of (read xs s) (read ys t) e = let same : s ≡ t = cc in let nodes : map bared xs ≡ map bared ys = cc in subst (λ u. Both (read xs s) (read ys u)) same (both_read xs ys s nodes)
both_of (read xs s) (fails k) e = absurd (cc)
both_of (read xs s) (too_deep d) e = absurd (cc)
both_of (fails k) (read ys t) e = absurd (cc)
both_of (fails k) (fails j) e = let same : k ≡ j = cc in subst (λ u. Both (fails k) (fails u)) same (both_fail k)
both_of (fails k) (too_deep d) e = absurd (cc)
both_of (too_deep d) (read ys t) e = absurd (cc)
both_of (too_deep d) (fails j) e = absurd (cc)
both_of (too_deep d) (too_deep j) e = let same : d ≡ j = cc in subst (λ u. Both (too_deep d) (too_deep u)) same (both_deep d)

front_alike : (xs ys : List Node) → map bared xs ≡ map bared ys → (o o' : Outcome (List Node)) → Alike o o' → Alike (with_front xs o) (with_front ys o')
front_alike xs ys e o o' h = by (both_of o o' h)
  where
    by : {o o' : Outcome (List Node)} → Both o o' → Alike (with_front xs o) (with_front ys o')
    by (both_read us vs s f) = ap (λ z. read z s) (map-append bared xs us ∙ ap₂ (λ a b. a ++ b) e f ∙ sym (map-append bared ys vs))
    by (both_fail k) = refl
    by (both_deep d) = refl

followed_alike : (p p' : Reading (List Node)) → AlikeReadings p p' → (o o' : Outcome (List Node)) → Alike o o' → Alike (followed_on p o) (followed_on p' o')
followed_alike p p' h o o' e = by (both_of o o' e)
  where
    by : {o o' : Outcome (List Node)} → Both o o' → Alike (followed_on p o) (followed_on p' o')
    by (both_read xs ys s f) = front_alike xs ys f (p s) (p' s) (h s)
    by (both_fail k) = refl
    by (both_deep d) = refl

or_alike : (p p' : Reading (List Node)) → AlikeReadings p p' → (s : Position) (o o' : Outcome (List Node)) → Alike o o' → Alike (or_on p s o) (or_on p' s o')
or_alike p p' h s o o' e = by (both_of o o' e)
  where
    by : {o o' : Outcome (List Node)} → Both o o' → Alike (or_on p s o) (or_on p' s o')
    by (both_read xs ys t f) = ap (λ z. read z t) f
    by (both_fail k) = h (record { place = s.place; failed = k })
    by (both_deep d) = refl

round_alike : (s : Position) (p p' : Reading (List Node)) → AlikeReadings p p' → (o o' : Outcome (List Node)) → Alike o o' → Alike (many_on s p o) (many_on s p' o')
round_alike s p p' h o o' e = by (both_of o o' e)
  where
    by : {o o' : Outcome (List Node)} → Both o o' → Alike (many_on s p o) (many_on s p' o')
    by (both_read xs ys t f) = front_alike xs ys f (p t) (p' t) (h t)
    by (both_fail k) = refl
    by (both_deep d) = refl

many_alike : (p p' : Reading (List Node)) → AlikeReadings p p' → (n : ℕ) → AlikeReadings (many_up_to p n) (many_up_to p' n)
unfolding many_up_to
many_alike p p' h zero s = refl
many_alike p p' h (suc n) s = round_alike s (many_up_to p n) (many_up_to p' n) (many_alike p p' h n) (p s) (p' s) (h s)

then_alike : (f g : Token → Reading (List Node)) → ((k : Token) → AlikeReadings (f k) (g k)) → (o : Outcome Token) → Alike (then_on f o) (then_on g o)
then_alike f g h (read k u) = h k u
then_alike f g h (fails k) = refl
then_alike f g h (too_deep d) = refl

marked_alike : (b : Bool) (p p' : Reading (List Node)) → AlikeReadings p p' → AlikeReadings (reading.marked b p) (reading.marked b p')
marked_alike true p p' h s = h s
marked_alike false p p' h s = refl

built_alike : (q : Asked) (form : Form) (lo : ℕ) (o o' : Outcome (List Node)) → Reads (needs form (of_one q)) o' → Alike o o' → Alike (built_with_types form lo o) (built_on form lo o')
built_alike q form lo o o' g e = by (both_of o o' e) g
  where
    by : {o o' : Outcome (List Node)} → Both o o' → Reads (needs form (of_one q)) o' → Alike (built_with_types form lo o) (built_on form lo o')
    by (both_read xs ys s f) g = ap (λ z. read (z ∷ []) s) (form_alike form (of_one q) lo s.place xs ys (g ys s refl) f)
    by (both_fail k) g = refl
    by (both_deep d) g = refl

module _ (text : List ℕ) (mode : Mode) where
  module _ (full parts : Parts text) (asked : PartsKeep text mode parts) (places : (u : Part) (at : ℕ) → SameReadings (full u at) (parts u at)) (h : (u : Part) (at : ℕ) → AlikeReadings (full u at) (parts u at)) where
    abbrev F : Grammar → Reading (List Node)
    F = reads_with_types text mode full

    abbrev R : Grammar → Reading (List Node)
    R = reads text mode parts

    grammar_alike : (g : Grammar) (q : Asked) → keeps g q ≡ true → AlikeReadings (F g) (R g)
    grammar_alike nothing q e s = refl
    grammar_alike same_line q e s = refl
    grammar_alike (take t) q e s = refl
    grammar_alike (keep l) q e s = refl
    grammar_alike (put f) q e s = refl
    grammar_alike (b ▸ c) q e s =
        let w = both (keeps b (first_part (width b) q)) (keeps c (second_part (width b) q)) e in
        followed_alike (F c) (R c) (grammar_alike c (second_part (width b) q) w.1) (F b s) (R b s) (grammar_alike b (first_part (width b) q) w.0 s)
    grammar_alike (b // c) q e s = let w = both (keeps b q) (keeps c q) e in or_alike (F c) (R c) (grammar_alike c q w.1) s (F b s) (R b s) (grammar_alike b q w.0 s)
    grammar_alike (many b) q e s = let w = both (keeps b (of_many q)) (none_asked q) e in many_alike (F b) (R b) (grammar_alike b (of_many q) w.0) (length text + 1) s
    grammar_alike (ahead b) q e s = ap bared_outcome (ahead_equal s (F b s) (R b s) (grammar_same made_with_types made text mode full parts places b s))
    grammar_alike (unless b) q e s = ap bared_outcome (unless_equal s (F b s) (R b s) (grammar_same made_with_types made text mode full parts places b s))
    grammar_alike (marked b) q e s = marked_alike mode.typescript (F b) (R b) (grammar_alike b q e) s
    grammar_alike (assigned b) q e s = marked_alike mode.assignments (F b) (R b) (grammar_alike b q e) s
    grammar_alike (up u) q e s = h u s.place s
    grammar_alike (enter u) q e s = h u (next_start text s) s
    grammar_alike (behind t u) q e s = then_alike (λ k. full u k.start) (λ k. parts u k.start) (λ k. h u k.start) (token text t s)
    grammar_alike (build f b) q e s =
        let w = both (is_one q) (keeps b (needs f (of_one q))) e in
        built_alike q f (next_start text s) (F b s) (R b s) (as_asked text mode parts asked b (needs f (of_one q)) w.1 s) (grammar_alike b (needs f (of_one q)) w.1 s)

  levels_alike : (n : ℕ) (u : Part) (at : ℕ) → AlikeReadings (levels_with_types text mode n u at) (levels text mode n u at)
  unfolding levels_by
  levels_alike zero u at s = refl
  levels_alike (suc n) u at s = grammar_alike (levels_with_types text mode n) (levels text mode n) (levels_keep text mode n) (levels_same made_with_types made text mode n) (levels_alike n) (part_body u) (part_keeps u) (part_kept u) s

pub modules_alike : (text : List ℕ) (mode : Mode) (bound : ℕ) → Alike (reads_module_with_types text mode bound) (reads_module text mode bound)
modules_alike text mode bound =
    grammar_alike text mode (levels_with_types text mode bound) (levels text mode bound) (levels_keep text mode bound) (levels_same made_with_types made text mode bound) (levels_alike text mode bound)
    module_body (these (a sort.Module ∷ [])) module_keeps (record { place = 0; failed = 0 })

-- the one tree of lists that are alike
the_one_alike : (xs ys : List Node) → map bared xs ≡ map bared ys → bared (framed 1 the_one xs) ≡ bared (framed 1 the_one ys)
the_one_alike xs ys e = same xs ∙ ap (framed 1 the_one) e ∙ sym (same ys)
  where
    same : (zs : List Node) → Commutes (framed 1 the_one) (framed 1 the_one) zs
    same = framed_same 1 the_one the_one (λ x. refl)

pub read_without_types : (text : List ℕ) (mode : Mode) (bound : ℕ) (full : Node) → answer_of (reads_module_with_types text mode bound) ≡ Ok full → answer_of (reads_module text mode bound) ≡ Ok (bared full)
read_without_types text mode bound full e =
    by (both_of (reads_module_with_types text mode bound) (reads_module text mode bound) (modules_alike text mode bound)) e (modules_sorted text mode bound)
  where
    by : {o o' : Outcome (List Node)} → Both o o' → answer_of o ≡ Ok full → ((tree : Node) → answer_of o' ≡ Ok tree → HasRawSort sort.Module tree) → answer_of o' ≡ Ok (bared full)
    by (both_read xs ys s f) e sorted =
        let is : framed 1 the_one xs ≡ full = cc in
        ap Ok (sym (bared_sorted (one (sorted_as sort.Module)) (framed 1 the_one ys) (sorted (framed 1 the_one ys) refl)) ∙ sym (the_one_alike xs ys f) ∙ ap bared is)
    by (both_fail k) e sorted = cc
    by (both_deep d) e sorted = cc
