-- What is read, or fails, where so many levels are allowed, comes to the same where more are.
use Rattle.std.proofs.Common.{◌≡◌, ℕ, zero, suc, ◌+◌, ◌≤◌, Bool, true, false, List, [], length, refl, ap, sym, subst, arith}
use Rattle.ecma_lex.specs.Blanks.{skipped}
use Rattle.ecma_tree.specs.declared.node.Node.{Node}
use Rattle.ecma_grammar.specs.declared.production.Mode.{Mode}
use Rattle.ecma_grammar.specs.declared.production.Form.{Form}
use Rattle.ecma_grammar.specs.declared.production.Part.{Part}
use Rattle.ecma_grammar.specs.Grammar as grammar
use Rattle.ecma_grammar.specs.Grammar.{Grammar}
use Rattle.ecma_grammar.specs.Reading as reading
use Rattle.ecma_grammar.specs.Reading.{Position, Outcome, Reading, read, fails, too_deep, pure, ◌>>=◌, then_on, with_front, followed_on, or_on, many_on, many_up_to, ahead_on, unless_on}
use Rattle.ecma_grammar.specs.Reads.{Parts, reads_with_types, levels_by, levels_with_types, token, kept_leaf, same_line_on, built_with_types, next_start}
use Rattle.ecma_grammar.specs.PartBodies.{part_body}

-- the second is the first, unless that is too deep
abbrev pub IsKept : {A : Type 0} → Outcome A → Outcome A → Type 0
IsKept (read x t) o = o ≡ read x t
IsKept (fails k) o = o ≡ fails k
IsKept (too_deep d) o = Unit {0}

abbrev pub Keep : {A : Type 0} → Reading A → Reading A → Type 0
Keep p q = (s : Position) → IsKept (p s) (q s)

itself : {A : Type 0} (o : Outcome A) → IsKept o o
itself (read x t) = refl
itself (fails k) = refl
itself (too_deep d) = tt

then-keeps : {A B : Type 0} (f g : A → Reading B) → ((x : A) → Keep (f x) (g x)) → (o : Outcome A) → IsKept (then_on f o) (then_on g o)
then-keeps f g h (read x t) = h x t
then-keeps f g h (fails k) = refl
then-keeps f g h (too_deep d) = tt

front-keeps : (xs : List Node) (o more : Outcome (List Node)) → IsKept o more → IsKept (with_front xs o) (with_front xs more)
front-keeps xs (read ys t) more e = ap (λ o. with_front xs o) e
front-keeps xs (fails k) more e = ap (λ o. with_front xs o) e
front-keeps xs (too_deep d) more e = tt

followed-keeps : (p q : Reading (List Node)) → Keep p q → (o more : Outcome (List Node)) → IsKept o more → IsKept (followed_on p o) (followed_on q more)
followed-keeps p q h (read xs t) more e = subst (λ o. IsKept (with_front xs (p t)) (followed_on q o)) (sym e) (front-keeps xs (p t) (q t) (h t))
followed-keeps p q h (fails k) more e = ap (λ o. followed_on q o) e
followed-keeps p q h (too_deep d) more e = tt

or-keeps : (p q : Reading (List Node)) → Keep p q → (s : Position) (o more : Outcome (List Node)) → IsKept o more → IsKept (or_on p s o) (or_on q s more)
or-keeps p q h s (read xs t) more e = ap (λ o. or_on q s o) e
or-keeps p q h s (fails k) more e = subst (λ o. IsKept (p (record { place = s.place; failed = k })) (or_on q s o)) (sym e) (h (record { place = s.place; failed = k }))
or-keeps p q h s (too_deep d) more e = tt

turn-keeps : (p q : Reading (List Node)) → Keep p q → (s : Position) (o more : Outcome (List Node)) → IsKept o more → IsKept (many_on s p o) (many_on s q more)
turn-keeps p q h s (read xs t) more e = subst (λ o. IsKept (with_front xs (p t)) (many_on s q o)) (sym e) (front-keeps xs (p t) (q t) (h t))
turn-keeps p q h s (fails k) more e = ap (λ o. many_on s q o) e
turn-keeps p q h s (too_deep d) more e = tt

many-keeps : (p q : Reading (List Node)) → Keep p q → (n : ℕ) → Keep (many_up_to p n) (many_up_to q n)
unfolding many_up_to
many-keeps p q h zero s = refl
many-keeps p q h (suc n) s = turn-keeps (many_up_to p n) (many_up_to q n) (many-keeps p q h n) s (p s) (q s) (h s)

ahead-keeps : (s : Position) (o more : Outcome (List Node)) → IsKept o more → IsKept (ahead_on s o) (ahead_on s more)
ahead-keeps s (read xs t) more e = ap (λ o. ahead_on s o) e
ahead-keeps s (fails k) more e = ap (λ o. ahead_on s o) e
ahead-keeps s (too_deep d) more e = tt

unless-keeps : (s : Position) (o more : Outcome (List Node)) → IsKept o more → IsKept (unless_on s o) (unless_on s more)
unless-keeps s (read xs t) more e = ap (λ o. unless_on s o) e
unless-keeps s (fails k) more e = ap (λ o. unless_on s o) e
unless-keeps s (too_deep d) more e = tt

built-keeps : (form : Form) (lo : ℕ) (o more : Outcome (List Node)) → IsKept o more → IsKept (built_with_types form lo o) (built_with_types form lo more)
built-keeps form lo (read xs t) more e = ap (λ o. built_with_types form lo o) e
built-keeps form lo (fails k) more e = ap (λ o. built_with_types form lo o) e
built-keeps form lo (too_deep d) more e = tt

marked-keeps : (on : Bool) (p q : Reading (List Node)) → Keep p q → Keep (reading.marked on p) (reading.marked on q)
marked-keeps true p q h s = h s
marked-keeps false p q h s = refl

module _ (text : List ℕ) (mode : Mode) where
  deepening : (parts more : Parts text) → ((u : Part) (at : ℕ) → Keep (parts u at) (more u at)) → (g : Grammar) → Keep (reads_with_types text mode parts g) (reads_with_types text mode more g)
  deepening parts more h grammar.nothing s = refl
  deepening parts more h grammar.same_line s = itself (same_line_on s (skipped text s.place))
  deepening parts more h (grammar.take t) s = itself ((token text t >>= λ k. pure []) s)
  deepening parts more h (grammar.keep l) s = itself (kept_leaf text l s)
  deepening parts more h (grammar.put f) s = refl
  deepening parts more h (grammar.◌▸◌ a b) s = followed-keeps (reads_with_types text mode parts b) (reads_with_types text mode more b) (deepening parts more h b) (reads_with_types text mode parts a s) (reads_with_types text mode more a s) (deepening parts more h a s)
  deepening parts more h (grammar.◌//◌ a b) s = or-keeps (reads_with_types text mode parts b) (reads_with_types text mode more b) (deepening parts more h b) s (reads_with_types text mode parts a s) (reads_with_types text mode more a s) (deepening parts more h a s)
  deepening parts more h (grammar.many a) s = many-keeps (reads_with_types text mode parts a) (reads_with_types text mode more a) (deepening parts more h a) (length text + 1) s
  deepening parts more h (grammar.ahead a) s = ahead-keeps s (reads_with_types text mode parts a s) (reads_with_types text mode more a s) (deepening parts more h a s)
  deepening parts more h (grammar.unless a) s = unless-keeps s (reads_with_types text mode parts a s) (reads_with_types text mode more a s) (deepening parts more h a s)
  deepening parts more h (grammar.marked a) s = marked-keeps mode.typescript (reads_with_types text mode parts a) (reads_with_types text mode more a) (deepening parts more h a) s
  deepening parts more h (grammar.assigned a) s = marked-keeps mode.assignments (reads_with_types text mode parts a) (reads_with_types text mode more a) (deepening parts more h a) s
  deepening parts more h (grammar.up u) s = h u s.place s
  deepening parts more h (grammar.enter u) s = h u (next_start text s) s
  deepening parts more h (grammar.behind t u) s = then-keeps (λ k. parts u k.start) (λ k. more u k.start) (λ k. h u k.start) (token text t s)
  deepening parts more h (grammar.build f a) s = built-keeps f (next_start text s) (reads_with_types text mode parts a s) (reads_with_types text mode more a s) (deepening parts more h a s)

  levels-keep : (left more : ℕ) → left ≤ more → (u : Part) (at : ℕ) → Keep (levels_with_types text mode left u at) (levels_with_types text mode more u at)
  unfolding levels_by
  levels-keep zero more less u at s = tt
  levels-keep (suc n) zero less u at s = absurd (omega (arith, less))
  levels-keep (suc n) (suc m) less u at s = deepening (levels_with_types text mode n) (levels_with_types text mode m) (levels-keep n m (omega (arith, less))) (part_body u) s

-- what fails fails so where more levels are allowed
pub fails-deeper : (text : List ℕ) (mode : Mode) (left more : ℕ) (g : Grammar) (s : Position) (k : ℕ) → left ≤ more
    → reads_with_types text mode (levels_with_types text mode left) g s ≡ fails k → reads_with_types text mode (levels_with_types text mode more) g s ≡ fails k
fails-deeper text mode left more g s k less is =
    subst (λ o. IsKept o (reads_with_types text mode (levels_with_types text mode more) g s)) is
    (deepening text mode (levels_with_types text mode left) (levels_with_types text mode more) (levels-keep text mode left more less) g s)
