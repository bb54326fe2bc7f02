-- Outcomes of two readings of which the second may go deeper: where the first is not too deep, they are the same.
use Rattle.std.proofs.Common.{◌≡◌, ℕ, zero, suc, Bool, true, false, List, [], ◌∷◌, ◌++◌, refl, sym, ap, subst}
use Rattle.ecma_tree.specs.declared.node.Node.{Node}
use Rattle.ecma_grammar.specs.declared.production.Form.{Form}
use Rattle.ecma_grammar.specs.Reading.{Position, Outcome, read, fails, too_deep, Reading, then_on, with_front, followed_on, or_on, many_on, many_up_to, ahead_on, unless_on, marked}
use Rattle.ecma_grammar.specs.Reads.{built_with_types}

abbrev pub Deeper : {A : Type 0} → Outcome A → Outcome A → Type 0
Deeper (read x s) other = other ≡ read x s
Deeper (fails k) other = other ≡ fails k
Deeper (too_deep d) other = Unit {0}

abbrev pub GoesDeeper : {A : Type 0} → Reading A → Reading A → Type 0
GoesDeeper p q = (s : Position) → Deeper (p s) (q s)

pub same_is_deeper : {A : Type 0} (o : Outcome A) → Deeper o o
same_is_deeper (read x s) = refl
same_is_deeper (fails k) = refl
same_is_deeper (too_deep d) = tt

-- what is made of two outcomes, of which the first, if it is too deep, stays so
module _ {A B : Type 0} (f g : Outcome A → Outcome B) (deep : (d : ℕ) → f (too_deep d) ≡ too_deep d) (on : (o : Outcome A) → Deeper (f o) (g o)) where
  pub by_outcome : (o o' : Outcome A) → Deeper o o' → Deeper (f o) (g o')
  by_outcome (read x s) o' h = subst (λ u. Deeper (f (read x s)) (g u)) (sym h) (on (read x s))
  by_outcome (fails k) o' h = subst (λ u. Deeper (f (fails k)) (g u)) (sym h) (on (fails k))
  by_outcome (too_deep d) o' h = subst (λ u. Deeper u (g o')) (sym (deep d)) tt

pub then_deeper : {A B : Type 0} (f g : A → Reading B) → ((x : A) → GoesDeeper (f x) (g x)) → (o o' : Outcome A) → Deeper o o' → Deeper (then_on f o) (then_on g o')
then_deeper {A} f g h o o' d = by_outcome (then_on f) (then_on g) (λ k. refl) each o o' d
  where
    each : (o : Outcome A) → Deeper (then_on f o) (then_on g o)
    each (read x s) = h x s
    each (fails k) = refl
    each (too_deep k) = tt

pub front_deeper : {A : Type 0} (xs : List A) (o o' : Outcome (List A)) → Deeper o o' → Deeper (with_front xs o) (with_front xs o')
front_deeper xs o o' d = by_outcome (with_front xs) (with_front xs) (λ k. refl) (λ u. same_is_deeper (with_front xs u)) o o' d

pub followed_deeper : {A : Type 0} (p q : Reading (List A)) → GoesDeeper p q → (o o' : Outcome (List A)) → Deeper o o' → Deeper (followed_on p o) (followed_on q o')
followed_deeper {A} p q h o o' d = by_outcome (followed_on p) (followed_on q) (λ k. refl) each o o' d
  where
    each : (o : Outcome (List A)) → Deeper (followed_on p o) (followed_on q o)
    each (read xs t) = front_deeper xs (p t) (q t) (h t)
    each (fails k) = refl
    each (too_deep k) = tt

pub or_deeper : {A : Type 0} (p q : Reading A) → GoesDeeper p q → (s : Position) (o o' : Outcome A) → Deeper o o' → Deeper (or_on p s o) (or_on q s o')
or_deeper {A} p q h s o o' d = by_outcome (or_on p s) (or_on q s) (λ k. refl) each o o' d
  where
    each : (o : Outcome A) → Deeper (or_on p s o) (or_on q s o)
    each (read x t) = refl
    each (fails k) = h (record { place = s.place; failed = k })
    each (too_deep k) = tt

pub ahead_deeper : {A : Type 0} (s : Position) (o o' : Outcome (List A)) → Deeper o o' → Deeper (ahead_on s o) (ahead_on s o')
ahead_deeper s o o' d = by_outcome (ahead_on s) (ahead_on s) (λ k. refl) (λ u. same_is_deeper (ahead_on s u)) o o' d

pub unless_deeper : {A : Type 0} (s : Position) (o o' : Outcome (List A)) → Deeper o o' → Deeper (unless_on s o) (unless_on s o')
unless_deeper s o o' d = by_outcome (unless_on s) (unless_on s) (λ k. refl) (λ u. same_is_deeper (unless_on s u)) o o' d

pub built_deeper : (form : Form) (lo : ℕ) (o o' : Outcome (List Node)) → Deeper o o' → Deeper (built_with_types form lo o) (built_with_types form lo o')
built_deeper form lo o o' d = by_outcome (built_with_types form lo) (built_with_types form lo) (λ k. refl) (λ u. same_is_deeper (built_with_types form lo u)) o o' d

pub marked_deeper : {A : Type 0} (b : Bool) (p q : Reading A) → GoesDeeper p q → GoesDeeper (marked b p) (marked b q)
marked_deeper true p q h s = h s
marked_deeper false p q h s = refl

round_deeper : {A : Type 0} (s : Position) (p q : Reading (List A)) → GoesDeeper p q → (o o' : Outcome (List A)) → Deeper o o' → Deeper (many_on s p o) (many_on s q o')
round_deeper {A} s p q h o o' d = by_outcome (many_on s p) (many_on s q) (λ k. refl) each o o' d
  where
    each : (o : Outcome (List A)) → Deeper (many_on s p o) (many_on s q o)
    each (read xs t) = front_deeper xs (p t) (q t) (h t)
    each (fails k) = refl
    each (too_deep k) = tt

pub many_deeper : {A : Type 0} (p q : Reading (List A)) → GoesDeeper p q → (n : ℕ) → GoesDeeper (many_up_to p n) (many_up_to q n)
unfolding many_up_to
many_deeper p q h zero s = refl
many_deeper p q h (suc n) s = round_deeper s (many_up_to p n) (many_up_to q n) (many_deeper p q h n) (p s) (q s) (h s)
