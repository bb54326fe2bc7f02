-- Lists by places: what stands at a place, behind more elements and behind a change.
use Rattle.std.proofs.Common.{◌≡◌, refl, sym, ap, ◌∙◌, subst, ℕ, zero, suc, ◌<◌, List, [], ◌∷◌, ◌++◌, length, Some, Bool, true, false, nat_eq, slice_get, arith, eqb-true, eq-eqb}
use Rattle.std.proofs.lemmas.Option.{slice_get_within}
use Rattle.ecma_runs.specs.Run.{changed_at}
use Rattle.ecma_run_places.specs.Worlds.{Are, Paired, newest, older, OneToOne}

pub front_at : {A : Type 0} (xs more : List A) (n : ℕ) (x : A) → slice_get xs n ≡ Some x → slice_get (xs ++ more) n ≡ Some x
front_at [] more n x at = cc
front_at (y ∷ xs) more zero x at = at
front_at (y ∷ xs) more (suc n) x at = front_at xs more n x at

pub last_at : {A : Type 0} (xs : List A) (x : A) → slice_get (xs ++ x ∷ []) (length xs) ≡ Some x
last_at [] x = refl
last_at (y ∷ xs) x = last_at xs x

-- what is changed, and what stands elsewhere
pub here_changed : {A : Type 0} (f : A → A) (n : ℕ) (xs : List A) (x : A) → slice_get xs n ≡ Some x → slice_get (changed_at f n xs) n ≡ Some (f x)
here_changed f n [] x at = cc
here_changed f zero (y ∷ xs) x at = let same : y ≡ x = cc in ap (λ z. Some (f z)) same
here_changed f (suc n) (y ∷ xs) x at = here_changed f n xs x at

there_changed : {A : Type 0} (f : A → A) (n m : ℕ) (xs : List A) → (n ≡ m → ⊥) → slice_get (changed_at f n xs) m ≡ slice_get xs m
there_changed f n m [] apart = refl
there_changed f zero zero (y ∷ xs) apart = absurd (apart refl)
there_changed f zero (suc m) (y ∷ xs) apart = refl
there_changed f (suc n) zero (y ∷ xs) apart = refl
there_changed f (suc n) (suc m) (y ∷ xs) apart = there_changed f n m xs (λ e. apart (ap suc e))

pub not_equal : (n m : ℕ) → (n ≡ m → ⊥) → nat_eq n m ≡ false
not_equal n m apart = by (nat_eq n m) refl
  where
    by : (b : Bool) → nat_eq n m ≡ b → nat_eq n m ≡ false
    by false e = e
    by true e = absurd (apart (eqb-true n m e))

pub equal_not : (n m : ℕ) → nat_eq n m ≡ false → n ≡ m → ⊥
equal_not n m apart same = let is : nat_eq n m ≡ true = eq-eqb n m same in absurd (cc)

pub else_changed : {A : Type 0} (f : A → A) (n m : ℕ) (xs : List A) → nat_eq n m ≡ false → slice_get (changed_at f n xs) m ≡ slice_get xs m
else_changed f n m xs apart = there_changed f n m xs (equal_not n m apart)

-- a place that is there is not the next one
pub is_not_next : {A : Type 0} (xs : List A) (n : ℕ) (x : A) → slice_get xs n ≡ Some x → nat_eq n (length xs) ≡ false
is_not_next xs n x at = let le : n < length xs = slice_get_within xs n x at in not_equal n (length xs) (λ e. omega (arith, le))

pub itself_equal : (n : ℕ) → nat_eq n n ≡ true
itself_equal n = eq-eqb n n refl

equal_flip : (n m : ℕ) → nat_eq n m ≡ false → nat_eq m n ≡ false
equal_flip n m apart = not_equal m n (λ e. equal_not n m apart (sym e))

-- what is there in both stays there, behind more elements
pub are_front : {A : Type 0} {R Q : A → A → Type 0} (xs ys more more' : List A) (a b : ℕ) → ((x y : A) → R x y → Q x y) → Are R (slice_get xs a) (slice_get ys b) → Are Q (slice_get (xs ++ more) a) (slice_get (ys ++ more') b)
are_front xs ys more more' a b h e = record {
  first = e.first;
  second = e.second;
  is_first = front_at xs more a e.first e.is_first;
  is_second = front_at ys more' b e.second e.is_second;
  related = h e.first e.second e.related;
}

pub are_last : {A : Type 0} {R : A → A → Type 0} (xs ys : List A) (x y : A) → R x y → Are R (slice_get (xs ++ x ∷ []) (length xs)) (slice_get (ys ++ y ∷ []) (length ys))
are_last xs ys x y r = record { first = x; second = y; is_first = last_at xs x; is_second = last_at ys y; related = r }

-- behind a change of two elements that belong together, by whether these are others
pub are_changed : {A : Type 0} {R : A → A → Type 0} (f g : A → A) (xs ys : List A) (a b c d : ℕ) → nat_eq a c ≡ nat_eq b d
    → (nat_eq a c ≡ true → (x y : A) → slice_get xs c ≡ Some x → slice_get ys d ≡ Some y → R x y → R (f x) (g y))
    → Are R (slice_get xs c) (slice_get ys d) → Are R (slice_get (changed_at f a xs) c) (slice_get (changed_at g b ys) d)
are_changed {A} {R} f g xs ys a b c d same h e = by (nat_eq a c) refl
  where
    by : (z : Bool) → nat_eq a c ≡ z → Are R (slice_get (changed_at f a xs) c) (slice_get (changed_at g b ys) d)
    by true is =
        let here : a ≡ c = eqb-true a c is in
        let here' : b ≡ d = eqb-true b d (sym same ∙ is) in
        record {
          first = f e.first;
          second = g e.second;
          is_first = subst (λ z. slice_get (changed_at f z xs) c ≡ Some (f e.first)) (sym here) (here_changed f c xs e.first e.is_first);
          is_second = subst (λ z. slice_get (changed_at g z ys) d ≡ Some (g e.second)) (sym here') (here_changed g d ys e.second e.is_second);
          related = h is e.first e.second e.is_first e.is_second e.related;
        }
    by false is = record {
      first = e.first;
      second = e.second;
      is_first = else_changed f a c xs is ∙ e.is_first;
      is_second = else_changed g b d ys (sym same ∙ is) ∙ e.is_second;
      related = e.related;
    }

-- what is there is there behind a change
pub still_there : {A : Type 0} (f : A → A) (a c : ℕ) (xs : List A) (x : A) → slice_get xs c ≡ Some x → (y : A) × (slice_get (changed_at f a xs) c ≡ Some y)
still_there {A} f a c xs x at = by (nat_eq a c) refl
  where
    by : (z : Bool) → nat_eq a c ≡ z → (y : A) × (slice_get (changed_at f a xs) c ≡ Some y)
    by true is = (f x, subst (λ z. slice_get (changed_at f z xs) c ≡ Some (f x)) (sym (eqb-true a c is)) (here_changed f c xs x at))
    by false is = (x, else_changed f a c xs is ∙ at)

-- ---- pairs

-- one more pair, of places that no other pair has
pub one_to_one_with : (n m : ℕ) (ps : List (ℕ × ℕ)) → OneToOne ps → ((a b : ℕ) → Paired ps a b → (nat_eq a n ≡ false) × (nat_eq b m ≡ false)) → OneToOne ((n, m) ∷ ps)
one_to_one_with n m ps h new _ _ _ _ newest newest = itself_equal n ∙ sym (itself_equal m)
one_to_one_with n m ps h new _ _ c d newest (older q) = let t = new c d q in equal_flip c n t.0 ∙ sym (equal_flip d m t.1)
one_to_one_with n m ps h new a b _ _ (older p) newest = let t = new a b p in t.0 ∙ sym t.1
one_to_one_with n m ps h new a b c d (older p) (older q) = h a b c d p q
