-- The less of two offsets, and of two clashes the one that stands first.
use Rattle.std.proofs.Common.{◌≡◌, ◌≢◌, ℕ, min, max, nat_lt, if◌then◌else◌, Bool, true, false, List, [], ◌∷◌, ◌++◌, map, Option, Some, None, refl, sym, ap, ◌∙◌, arith}
use Rattle.std.specs.Option.{option_map}
use Rattle.ecma_scope.specs.declared.clash.Clash.{Clash}
use Rattle.ecma_scope.specs.declared.form.Located.{Located}
use Rattle.ecma_scope.specs.Meetings.{least, lesser, offset_of, only}
use Rattle.ecma_scope.specs.Clashes.{clash_at, first_clash, sooner}

min_assoc : (a b c : ℕ) → min (min a b) c ≡ min a (min b c)
min_assoc a b c = omega arith

pub lesser-none : (x : Option ℕ) → lesser x None ≡ x
lesser-none None = refl
lesser-none (Some a) = refl

pub lesser_assoc : (x y z : Option ℕ) → lesser (lesser x y) z ≡ lesser x (lesser y z)
lesser_assoc None y z = refl
lesser_assoc (Some a) None z = refl
lesser_assoc (Some a) (Some b) None = refl
lesser_assoc (Some a) (Some b) (Some c) = ap Some (min_assoc a b c)

lesser_comm : (x y : Option ℕ) → lesser x y ≡ lesser y x
lesser_comm None None = refl
lesser_comm None (Some b) = refl
lesser_comm (Some a) None = refl
lesser_comm (Some a) (Some b) = ap Some (omega arith)

lesser_self : (x : Option ℕ) → lesser x x ≡ x
lesser_self None = refl
lesser_self (Some a) = ap Some (omega arith)

pub lesser-swap : (x a b : Option ℕ) → lesser x (lesser a b) ≡ lesser a (lesser x b)
lesser-swap x a b = sym (lesser_assoc x a b) ∙ ap (λ z. lesser z b) (lesser_comm x a) ∙ lesser_assoc a x b

pub lesser-twice : (x a b : Option ℕ) → lesser x (lesser a b) ≡ lesser (lesser x a) (lesser x b)
lesser-twice x a b =
    ap (λ z. lesser z (lesser a b)) (sym (lesser_self x)) ∙ lesser_assoc x x (lesser a b)
    ∙ ap (lesser x) (lesser-swap x a b) ∙ sym (lesser_assoc x a (lesser x b))

pub only-none : (holds : Bool) → only holds None ≡ None
only-none true = refl
only-none false = refl

pub least-append : (xs ys : List ℕ) → least (xs ++ ys) ≡ lesser (least xs) (least ys)
least-append [] ys = refl
least-append (x ∷ xs) ys = ap (lesser (Some x)) (least-append xs ys) ∙ sym (lesser_assoc (Some x) (least xs) (least ys))

later-both : (at x : ℕ) (y : Option ℕ) → lesser (Some (max x at)) (option_map (λ z. max z at) y) ≡ option_map (λ z. max z at) (lesser (Some x) y)
later-both at x None = refl
later-both at x (Some y) = ap Some (omega arith)

-- the least of offsets that are the later of two, one of which is the same
pub least-later : (at : ℕ) (ls : List Located) → least (map (λ l. max l.at at) ls) ≡ option_map (λ z. max z at) (least (map offset_of ls))
least-later at [] = refl
least-later at (l ∷ ls) = ap (lesser (Some (max l.at at))) (least-later at ls) ∙ later-both at l.at (least (map offset_of ls))

pub sooner_assoc : (x y z : Option Clash) → sooner (sooner x y) z ≡ sooner x (sooner y z)
sooner_assoc None y z = refl
sooner_assoc (Some a) None z = refl
sooner_assoc (Some a) (Some b) None = grind arith
sooner_assoc (Some a) (Some b) (Some c) = grind arith

pub sooner-none : (x : Option Clash) → sooner x None ≡ x
sooner-none None = refl
sooner-none (Some a) = refl

pub first-append : (xs ys : List Clash) → first_clash (xs ++ ys) ≡ sooner (first_clash xs) (first_clash ys)
first-append [] ys = refl
first-append (x ∷ xs) ys = ap (sooner (Some x)) (first-append xs ys) ∙ sym (sooner_assoc (Some x) (first_clash xs) (first_clash ys))

-- of clashes of one name the one at the least offset
pub first-named : (name : List ℕ) (ats : List ℕ) → first_clash (map (clash_at name) ats) ≡ option_map (clash_at name) (least ats)
first-named name [] = refl
first-named name (x ∷ xs) = ap (sooner (Some (clash_at name x))) (first-named name xs) ∙ grind arith

-- there is a first one where there is one
one-told : (b : Bool) (c d : Clash) → (if b then Some d else Some c) ≢ None
one-told true c d none = cc
one-told false c d none = cc

told : (c : Clash) (rest : Option Clash) → sooner (Some c) rest ≢ None
told c None none = cc
told c (Some d) none = one-told (nat_lt d.at c.at) c d none

pub first-none : (clashes : List Clash) → first_clash clashes ≡ None → clashes ≡ []
first-none [] none = refl
first-none (c ∷ cs) none = absurd (told c (first_clash cs) none)
