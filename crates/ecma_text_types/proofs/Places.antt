-- Where a reading ends and where it fails is the same, whatever is made of what is read.
use Rattle.std.proofs.Common.{◌≡◌, ℕ, ◌+◌, zero, suc, Bool, true, false, List, [], length, refl, ap, subst}
use Rattle.ecma_lex.specs.declared.tokens.Token.{Token}
use Rattle.ecma_tree.specs.declared.node.Node.{Node}
use Rattle.ecma_grammar.specs.declared.production.Form.{Form}
use Rattle.ecma_grammar.specs.declared.production.Mode.{Mode}
use Rattle.ecma_grammar.specs.declared.production.Part.{Part}
use Rattle.ecma_grammar.specs.Grammar.{Grammar, nothing, same_line, take, keep, put, ◌▸◌, ◌//◌, many, ahead, unless, marked, assigned, up, enter, behind, build}
use Rattle.ecma_grammar.specs.Made.{Making}
use Rattle.ecma_grammar.specs.PartBodies.{part_body}
use Rattle.ecma_grammar.specs.Reading as reading
use Rattle.ecma_grammar.specs.Reading.{Position, Outcome, read, fails, too_deep, Reading, then_on, with_front, followed_on, or_on, many_on, many_up_to, ahead_on, unless_on}
use Rattle.ecma_grammar.specs.Reads.{Parts, built_by, levels_by, next_start, reads_by, token}

-- without the nodes
abbrev pub placed : Outcome (List Node) → Outcome (List Node)
placed (read xs s) = read [] s
placed (fails k) = fails k
placed (too_deep d) = too_deep d

abbrev pub Same : Outcome (List Node) → Outcome (List Node) → Type 0
Same o o' = placed o ≡ placed o'

abbrev pub SameReadings : Reading (List Node) → Reading (List Node) → Type 0
SameReadings p p' = (s : Position) → Same (p s) (p' s)

-- what two such outcomes are
pub data Both : Outcome (List Node) → Outcome (List Node) → Type 0 where
  both_read : (xs ys : List Node) (s : Position) → Both (read xs s) (read ys s)
  both_fail : (k : ℕ) → Both (fails k) (fails k)
  both_deep : (d : ℕ) → Both (too_deep d) (too_deep d)

pub both_of : (o o' : Outcome (List Node)) → Same o o' → Both o o'
both_of (read xs s) (read ys t) e = let same : s ≡ t = cc in subst (λ u. Both (read xs s) (read ys u)) same (both_read xs ys s)
both_of (read xs s) (fails k) e = absurd (cc)
both_of (read xs s) (too_deep d) e = absurd (cc)
both_of (fails k) (read ys t) e = absurd (cc)
both_of (fails k) (fails j) e = let same : k ≡ j = cc in subst (λ u. Both (fails k) (fails u)) same (both_fail k)
both_of (fails k) (too_deep d) e = absurd (cc)
both_of (too_deep d) (read ys t) e = absurd (cc)
both_of (too_deep d) (fails j) e = absurd (cc)
both_of (too_deep d) (too_deep j) e = let same : d ≡ j = cc in subst (λ u. Both (too_deep d) (too_deep u)) same (both_deep d)

front_same : (xs ys : List Node) (o o' : Outcome (List Node)) → Same o o' → Same (with_front xs o) (with_front ys o')
front_same xs ys o o' h = by (both_of o o' h)
  where
    by : {o o' : Outcome (List Node)} → Both o o' → Same (with_front xs o) (with_front ys o')
    by (both_read us vs s) = refl
    by (both_fail k) = refl
    by (both_deep d) = refl

followed_same : (p p' : Reading (List Node)) → SameReadings p p' → (o o' : Outcome (List Node)) → Same o o' → Same (followed_on p o) (followed_on p' o')
followed_same p p' h o o' e = by (both_of o o' e)
  where
    by : {o o' : Outcome (List Node)} → Both o o' → Same (followed_on p o) (followed_on p' o')
    by (both_read xs ys s) = front_same xs ys (p s) (p' s) (h s)
    by (both_fail k) = refl
    by (both_deep d) = refl

or_same : (p p' : Reading (List Node)) → SameReadings p p' → (s : Position) (o o' : Outcome (List Node)) → Same o o' → Same (or_on p s o) (or_on p' s o')
or_same p p' h s o o' e = by (both_of o o' e)
  where
    by : {o o' : Outcome (List Node)} → Both o o' → Same (or_on p s o) (or_on p' s o')
    by (both_read xs ys t) = refl
    by (both_fail k) = h (record { place = s.place; failed = k })
    by (both_deep d) = refl

round_same : (s : Position) (p p' : Reading (List Node)) → SameReadings p p' → (o o' : Outcome (List Node)) → Same o o' → Same (many_on s p o) (many_on s p' o')
round_same s p p' h o o' e = by (both_of o o' e)
  where
    by : {o o' : Outcome (List Node)} → Both o o' → Same (many_on s p o) (many_on s p' o')
    by (both_read xs ys t) = front_same xs ys (p t) (p' t) (h t)
    by (both_fail k) = refl
    by (both_deep d) = refl

many_same : (p p' : Reading (List Node)) → SameReadings p p' → (n : ℕ) → SameReadings (many_up_to p n) (many_up_to p' n)
unfolding many_up_to
many_same p p' h zero s = refl
many_same p p' h (suc n) s = round_same s (many_up_to p n) (many_up_to p' n) (many_same p p' h n) (p s) (p' s) (h s)

-- what stands ahead keeps no node
pub ahead_equal : (s : Position) (o o' : Outcome (List Node)) → Same o o' → ahead_on s o ≡ ahead_on s o'
ahead_equal s o o' e = by (both_of o o' e)
  where
    by : {o o' : Outcome (List Node)} → Both o o' → ahead_on s o ≡ ahead_on s o'
    by (both_read xs ys t) = refl
    by (both_fail k) = refl
    by (both_deep d) = refl

pub unless_equal : (s : Position) (o o' : Outcome (List Node)) → Same o o' → unless_on s o ≡ unless_on s o'
unless_equal s o o' e = by (both_of o o' e)
  where
    by : {o o' : Outcome (List Node)} → Both o o' → unless_on s o ≡ unless_on s o'
    by (both_read xs ys t) = refl
    by (both_fail k) = refl
    by (both_deep d) = refl

marked_same : (b : Bool) (p p' : Reading (List Node)) → SameReadings p p' → SameReadings (reading.marked b p) (reading.marked b p')
marked_same true p p' h s = h s
marked_same false p p' h s = refl

then_same : (f g : Token → Reading (List Node)) → ((k : Token) → SameReadings (f k) (g k)) → (o : Outcome Token) → Same (then_on f o) (then_on g o)
then_same f g h (read k u) = h k u
then_same f g h (fails k) = refl
then_same f g h (too_deep d) = refl

module _ (make make' : Making) where
  built_same : (form : Form) (lo : ℕ) (o o' : Outcome (List Node)) → Same o o' → Same (built_by make form lo o) (built_by make' form lo o')
  built_same form lo o o' e = by (both_of o o' e)
    where
      by : {o o' : Outcome (List Node)} → Both o o' → Same (built_by make form lo o) (built_by make' form lo o')
      by (both_read xs ys t) = refl
      by (both_fail k) = refl
      by (both_deep d) = refl

  module _ (text : List ℕ) (mode : Mode) where
    module _ (full parts : Parts text) (h : (u : Part) (at : ℕ) → SameReadings (full u at) (parts u at)) where
      abbrev F : Grammar → Reading (List Node)
      F = reads_by text mode make full

      abbrev R : Grammar → Reading (List Node)
      R = reads_by text mode make' parts

      pub grammar_same : (g : Grammar) → SameReadings (F g) (R g)
      grammar_same nothing s = refl
      grammar_same same_line s = refl
      grammar_same (take t) s = refl
      grammar_same (keep l) s = refl
      grammar_same (put f) s = refl
      grammar_same (b ▸ c) s = followed_same (F c) (R c) (grammar_same c) (F b s) (R b s) (grammar_same b s)
      grammar_same (b // c) s = or_same (F c) (R c) (grammar_same c) s (F b s) (R b s) (grammar_same b s)
      grammar_same (many b) s = many_same (F b) (R b) (grammar_same b) (length text + 1) s
      grammar_same (ahead b) s = ap placed (ahead_equal s (F b s) (R b s) (grammar_same b s))
      grammar_same (unless b) s = ap placed (unless_equal s (F b s) (R b s) (grammar_same b s))
      grammar_same (marked b) s = marked_same mode.typescript (F b) (R b) (grammar_same b) s
      grammar_same (assigned b) s = marked_same mode.assignments (F b) (R b) (grammar_same b) s
      grammar_same (up u) s = h u s.place s
      grammar_same (enter u) s = h u (next_start text s) s
      grammar_same (behind t u) s = then_same (λ k. full u k.start) (λ k. parts u k.start) (λ k. h u k.start) (token text t s)
      grammar_same (build f b) s = built_same f (next_start text s) (F b s) (R b s) (grammar_same b s)

    pub levels_same : (n : ℕ) (u : Part) (at : ℕ) → SameReadings (levels_by text mode make n u at) (levels_by text mode make' n u at)
    unfolding levels_by
    levels_same zero u at s = refl
    levels_same (suc n) u at s = grammar_same (levels_by text mode make n) (levels_by text mode make' n) (levels_same n) (part_body u) s
