-- Lists of contexts that stay apart where contexts and lists are left out.
use Rattle.std.proofs.Common.{◌≡◌, ℕ, Bool, true, false, ◌||◌, List, [], ◌∷◌, ◌++◌, refl, sym, ap, ◌∙◌}
use Rattle.std.specs.List.{All, list_any}
use Rattle.std.proofs.lemmas.List.Elements.{All-append, All-cons, All-head, All-nil, All-tail}
use Rattle.std.proofs.lemmas.List.Folds.{list_any-append}
use Rattle.ecma_hygiene.specs.Ids.{has_context}
use Rattle.ecma_hygiene.proofs.Telling.{or-first, or-second, true-false}
use Rattle.ecma_hygiene_scopes.specs.Apart.{AreApart}

abbrev Lacks : ℕ → List ℕ → Type 0
Lacks c ctxts = has_context c ctxts ≡ false

abbrev pub some_has : ℕ → List (List ℕ) → Bool
some_has c lists = list_any (has_context c) lists

by-test : (b : Bool) → (b ≡ true → ⊥) → b ≡ false
by-test true never = absurd (never refl)
by-test false never = refl

or-no-left : (a b : Bool) → (a || b) ≡ false → a ≡ false
or-no-left true b h = absurd (true-false refl h)
or-no-left false b h = refl

or-no-right : (a b : Bool) → (a || b) ≡ false → b ≡ false
or-no-right true b h = absurd (true-false refl h)
or-no-right false b h = h

all-lack : (c : ℕ) (lists : List (List ℕ)) → some_has c lists ≡ false → All (Lacks c) lists
all-lack c [] h = All-nil (Lacks c)
all-lack c (x ∷ xs) h = All-cons (Lacks c) x xs (or-no-left (has_context c x) (some_has c xs) h) (all-lack c xs (or-no-right (has_context c x) (some_has c xs) h))

none-has : (c : ℕ) (lists : List (List ℕ)) → All (Lacks c) lists → some_has c lists ≡ false
none-has c [] h = refl
none-has c (x ∷ xs) h = (λ j. All-head (Lacks c) x xs h j || none-has c xs (All-tail (Lacks c) x xs h) j)

abbrev Crossing : List (List ℕ) → List (List ℕ) → Type 0
Crossing xs ys = (c : ℕ) → some_has c xs ≡ true → some_has c ys ≡ true → ⊥

-- ---- two lists of them, one behind the other

apart-first : (xs ys : List (List ℕ)) → AreApart (xs ++ ys) → AreApart xs
apart-first [] ys h = tt
apart-first (x ∷ xs) ys h = (λ c has. all-lack c xs (or-no-left (some_has c xs) (some_has c ys) (sym (list_any-append (has_context c) xs ys) ∙ none-has c (xs ++ ys) (h.0 c has))), apart-first xs ys h.1)

apart-second : (xs ys : List (List ℕ)) → AreApart (xs ++ ys) → AreApart ys
apart-second [] ys h = h
apart-second (x ∷ xs) ys h = apart-second xs ys h.1

crossing : (xs ys : List (List ℕ)) → AreApart (xs ++ ys) → Crossing xs ys
crossing [] ys h c has also = true-false has refl
crossing (x ∷ xs) ys h c has also = by (has_context c x) refl (crossing xs ys h.1 c)
  where
    by : (b : Bool) → has_context c x ≡ b → (some_has c xs ≡ true → some_has c ys ≡ true → ⊥) → ⊥
    by true is rec = true-false also (or-no-right (some_has c xs) (some_has c ys) (sym (list_any-append (has_context c) xs ys) ∙ none-has c (xs ++ ys) (h.0 c is)))
    by false is rec = rec (sym (ap (λ (b : Bool). b || some_has c xs) is) ∙ has) also

apart-both : (xs ys : List (List ℕ)) → AreApart xs → AreApart ys → Crossing xs ys → AreApart (xs ++ ys)
apart-both [] ys one two cross = two
apart-both (x ∷ xs) ys one two cross = (
  λ c has. All-append (Lacks c) xs ys (one.0 c has) (all-lack c ys (by-test (some_has c ys) (cross c (or-first (has_context c x) (some_has c xs) has)))),
  apart-both xs ys one.1 two (λ c has. cross c (or-second (has_context c x) (some_has c xs) has)),
)

-- ---- what is left of them

-- of these lists, those have contexts of theirs, and stay apart
pub record Thins (xs ys : List (List ℕ)) : Type 0 where
  pub within : (c : ℕ) → some_has c xs ≡ true → some_has c ys ≡ true
  pub apart : AreApart ys → AreApart xs

pub thins-same : (xs : List (List ℕ)) → Thins xs xs
thins-same xs = record { within = λ c h. h; apart = λ h. h }

pub thins-none : (ys : List (List ℕ)) → Thins [] ys
thins-none ys = record { within = λ c h. absurd (true-false h refl); apart = λ h. tt }

pub thins-again : (xs ys zs : List (List ℕ)) → Thins xs ys → Thins ys zs → Thins xs zs
thins-again xs ys zs one two = record { within = λ c h. two.within c (one.within c h); apart = λ h. one.apart (two.apart h) }

pub thins-append : (xs ys us vs : List (List ℕ)) → Thins xs us → Thins ys vs → Thins (xs ++ ys) (us ++ vs)
thins-append xs ys us vs one two = record {
  within = λ c h. sym' c (by c (some_has c xs) refl (sym (list_any-append (has_context c) xs ys) ∙ h));
  apart = λ h. apart-both xs ys (one.apart (apart-first us vs h)) (two.apart (apart-second us vs h)) (λ c has also. crossing us vs h c (one.within c has) (two.within c also));
}
  where
    sym' : (c : ℕ) → (some_has c us || some_has c vs) ≡ true → some_has c (us ++ vs) ≡ true
    sym' c h = list_any-append (has_context c) us vs ∙ h

    by : (c : ℕ) (b : Bool) → some_has c xs ≡ b → (some_has c xs || some_has c ys) ≡ true → (some_has c us || some_has c vs) ≡ true
    by c true is h = or-first (some_has c us) (some_has c vs) (one.within c is)
    by c false is h = or-second (some_has c us) (some_has c vs) (two.within c (sym (ap (λ (b : Bool). b || some_has c ys) is) ∙ h))

thins-one : (x y : List ℕ) → ((c : ℕ) → has_context c x ≡ true → has_context c y ≡ true) → Thins (x ∷ []) (y ∷ [])
thins-one x y sub = record { within = λ c h. or-first (has_context c y) false (sub c (one c (has_context c x) refl h)); apart = λ h. (λ c has. All-nil (Lacks c), tt) }
  where
    one : (c : ℕ) (b : Bool) → has_context c x ≡ b → (has_context c x || false) ≡ true → has_context c x ≡ true
    one c true is h = is
    one c false is h = absurd (true-false h (ap (λ (b : Bool). b || false) is))

pub thins-cons : (x y : List ℕ) (xs ys : List (List ℕ)) → ((c : ℕ) → has_context c x ≡ true → has_context c y ≡ true) → Thins xs ys → Thins (x ∷ xs) (y ∷ ys)
thins-cons x y xs ys sub h = thins-append (x ∷ []) xs (y ∷ []) ys (thins-one x y sub) h

pub thins-skip : (y : List ℕ) (xs ys : List (List ℕ)) → Thins xs ys → Thins xs (y ∷ ys)
thins-skip y xs ys h = thins-append [] xs (y ∷ []) ys (thins-none (y ∷ [])) h

-- a list without contexts
pub thins-empty : (ys : List (List ℕ)) → Thins ([] ∷ []) ys
thins-empty ys = record { within = λ c h. absurd (true-false h refl); apart = λ h. (λ c has. absurd (true-false has refl), tt) }

pub thins-front : (xs ys : List (List ℕ)) → Thins xs (xs ++ ys)
thins-front xs ys = record { within = λ c h. list_any-append (has_context c) xs ys ∙ or-first (some_has c xs) (some_has c ys) h; apart = apart-first xs ys }
