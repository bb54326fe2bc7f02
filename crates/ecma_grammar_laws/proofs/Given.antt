-- Nodes as they are asked: in front of others, repeated, one by itself.
use Rattle.std.proofs.Common.{◌≡◌, inl, inr, ℕ, zero, suc, true, List, [], ◌∷◌, ◌++◌, take, drop, refl}
use Rattle.ecma_tree.specs.declared.node.Node.{Node}
use Rattle.ecma_grammar_laws.proofs.RawShapes.{both}
use Rattle.ecma_grammar_laws.proofs.Asks.{Ask, any, Asked, whatever, never, these, these_or_none, maybe_and, each, first_and_each, each_and_last, some_and_last, Meets, MeetAll, Each, EachAndLast, Given, fits, all_fit, each_fits, all_given, first_part, second_part, of_many, none_asked, is_one, of_one}
use Rattle.ecma_grammar_laws.proofs.Fits.{no, fits_sound}

-- wider asks

each_any : (xs : List Node) → Each any xs
each_any [] = tt
each_any (x ∷ xs) = (tt, each_any xs)

meet_wider : (ps qs : List Ask) (xs : List Node) → all_fit ps qs ≡ true → MeetAll ps xs → MeetAll qs xs
meet_wider [] [] [] h m = tt
meet_wider [] [] (x ∷ xs) h m = absurd m
meet_wider (p ∷ ps) (q ∷ qs) [] h m = absurd m
meet_wider (p ∷ ps) (q ∷ qs) (x ∷ xs) h m = let t = both (fits p q) (all_fit ps qs) h in (fits_sound p q x t.0 m.0, meet_wider ps qs xs t.1 m.1)
meet_wider [] (q ∷ qs) xs h m = no h
meet_wider (p ∷ ps) [] xs h m = no h

meet_each : (ps : List Ask) (q : Ask) (xs : List Node) → each_fits ps q ≡ true → MeetAll ps xs → Each q xs
meet_each [] q [] h m = tt
meet_each [] q (x ∷ xs) h m = absurd m
meet_each (p ∷ ps) q [] h m = absurd m
meet_each (p ∷ ps) q (x ∷ xs) h m = let t = both (fits p q) (each_fits ps q) h in (fits_sound p q x t.0 m.0, meet_each ps q xs t.1 m.1)

each_wider : (p q : Ask) (xs : List Node) → fits p q ≡ true → Each p xs → Each q xs
each_wider p q [] h m = tt
each_wider p q (x ∷ xs) h m = (fits_sound p q x h m.0, each_wider p q xs h m.1)

pub given_wider : (p q : Asked) (xs : List Node) → all_given p q ≡ true → Given p xs → Given q xs
given_wider p whatever xs h m = tt
given_wider p (each any) xs h m = each_any xs
given_wider (these ps) (these qs) xs h m = meet_wider ps qs xs h m
given_wider (these ps) (each q) xs h m = meet_each ps q xs h m
given_wider (these (p ∷ ps)) (first_and_each q r) [] h m = absurd m
given_wider (these (p ∷ ps)) (first_and_each q r) (x ∷ xs) h m = let t = both (fits p q) (each_fits ps r) h in (fits_sound p q x t.0 m.0, meet_each ps r xs t.1 m.1)
given_wider (these (p ∷ [])) (each_and_last q r) [] h m = absurd m
given_wider (these (p ∷ [])) (each_and_last q r) (x ∷ []) h m = fits_sound p r x h m.0
given_wider (these (p ∷ [])) (each_and_last q r) (x ∷ y ∷ ys) h m = absurd m.1
given_wider (these_or_none ps) (these_or_none qs) xs h (inl e) = inl e
given_wider (these_or_none ps) (these_or_none qs) xs h (inr m) = inr (meet_wider ps qs xs h m)
given_wider (maybe_and p r) (maybe_and q s) xs h (inl m) = let t = both (fits p q) (fits r s) h in inl (one_wider xs m t.1)
  where
    one_wider : (xs : List Node) → MeetAll (r ∷ []) xs → fits r s ≡ true → MeetAll (s ∷ []) xs
    one_wider [] m f = absurd m
    one_wider (x ∷ []) m f = (fits_sound r s x f m.0, tt)
    one_wider (x ∷ y ∷ ys) m f = absurd m.1
given_wider (maybe_and p r) (maybe_and q s) xs h (inr m) = let t = both (fits p q) (fits r s) h in inr (two_wider xs m t.0 t.1)
  where
    two_wider : (xs : List Node) → MeetAll (p ∷ r ∷ []) xs → fits p q ≡ true → fits r s ≡ true → MeetAll (q ∷ s ∷ []) xs
    two_wider [] m f g = absurd m
    two_wider (x ∷ []) m f g = absurd m.1
    two_wider (x ∷ y ∷ []) m f g = (fits_sound p q x f m.0, (fits_sound r s y g m.1.0, tt))
    two_wider (x ∷ y ∷ z ∷ zs) m f g = absurd m.1.1
given_wider (each p) (each q) xs h m = each_wider p q xs h m
given_wider _ _ xs h m = no h

-- one behind the other

no_nodes : (xs ys : List Node) (q : Asked) → MeetAll [] xs → Given q ys → Given q (xs ++ ys)
no_nodes [] ys q m g = g
no_nodes (x ∷ xs) ys q m g = absurd m

meet_both : (n : ℕ) (qs : List Ask) (xs ys : List Node) → MeetAll (take n qs) xs → MeetAll (drop n qs) ys → MeetAll qs (xs ++ ys)
meet_both zero qs xs ys m k = no_nodes xs ys (these qs) m k
meet_both (suc n) [] xs ys m k = no_nodes xs ys (these []) m k
meet_both (suc n) (q ∷ qs) [] ys m k = absurd m
meet_both (suc n) (q ∷ qs) (x ∷ xs) ys m k = (m.0, meet_both n qs xs ys m.1 k)

each_both : (q : Ask) (xs ys : List Node) → Each q xs → Each q ys → Each q (xs ++ ys)
each_both q [] ys m k = k
each_both q (x ∷ xs) ys m k = (m.0, each_both q xs ys m.1 k)

one_more : (q r : Ask) (x : Node) (xs : List Node) → Meets q x → EachAndLast q r xs → EachAndLast q r (x ∷ xs)
one_more q r x [] m k = absurd k
one_more q r x (y ∷ ys) m k = (m, k)

last_both : (q r : Ask) (xs ys : List Node) → Each q xs → EachAndLast q r ys → EachAndLast q r (xs ++ ys)
last_both q r [] ys m k = k
last_both q r (x ∷ xs) ys m k = one_more q r x (xs ++ ys) m.0 (last_both q r xs ys m.1 k)

maybe_both : (q r : Ask) (xs ys : List Node) → Given (these_or_none (q ∷ [])) xs → MeetAll (r ∷ []) ys → Given (maybe_and q r) (xs ++ ys)
maybe_both q r [] ys m k = inl k
maybe_both q r (x ∷ []) ys (inl e) k = cc
maybe_both q r (x ∷ []) ys (inr m) k = inr (m.0, k)
maybe_both q r (x ∷ y ∷ xs) ys (inl e) k = cc
maybe_both q r (x ∷ y ∷ xs) ys (inr m) k = absurd m.1

first_both : (q r : Ask) (xs ys : List Node) → Given (first_and_each q r) xs → Each r ys → Given (first_and_each q r) (xs ++ ys)
first_both q r [] ys m k = absurd m
first_both q r (x ∷ xs) ys m k = (m.0, each_both r xs ys m.1 k)

some_both : (q r : Ask) (xs ys : List Node) → MeetAll (q ∷ []) xs → EachAndLast q r ys → Given (some_and_last q r) (xs ++ ys)
some_both q r [] ys m k = absurd m
some_both q r (x ∷ []) ys m k = (m.0, k)
some_both q r (x ∷ y ∷ xs) ys m k = absurd m.1

pub given_both : (n : ℕ) (q : Asked) (xs ys : List Node) → Given (first_part n q) xs → Given (second_part n q) ys → Given q (xs ++ ys)
given_both n whatever xs ys m k = tt
given_both n never xs ys m k = absurd m
given_both n (these qs) xs ys m k = meet_both n qs xs ys m k
given_both zero (these_or_none qs) xs ys m k = no_nodes xs ys (these_or_none qs) m k
given_both (suc n) (these_or_none qs) xs ys m k = inr (meet_both (suc n) qs xs ys m k)
given_both n (maybe_and q r) xs ys m k = maybe_both q r xs ys m k
given_both n (each q) xs ys m k = each_both q xs ys m k
given_both zero (first_and_each q r) xs ys m k = no_nodes xs ys (first_and_each q r) m k
given_both (suc n) (first_and_each q r) xs ys m k = first_both q r xs ys m k
given_both n (each_and_last q r) xs ys m k = last_both q r xs ys m k
given_both zero (some_and_last q r) xs ys m k = no_nodes xs ys (some_and_last q r) m k
given_both (suc n) (some_and_last q r) xs ys m k = some_both q r xs ys m k

-- none, repeated, and one

pub given_none : (q : Asked) → none_asked q ≡ true → Given q []
given_none whatever h = tt
given_none (these []) h = tt
given_none (these_or_none qs) h = inl refl
given_none (each q) h = tt
given_none _ h = no h

pub given_more : (q : Asked) (xs ys : List Node) → Given (of_many q) xs → Given q ys → Given q (xs ++ ys)
given_more whatever xs ys m k = tt
given_more (each q) xs ys m k = each_both q xs ys m k
given_more _ xs ys m k = absurd m

pub given_one : (q : Asked) (x : Node) → is_one q ≡ true → Meets (of_one q) x → Given q (x ∷ [])
given_one whatever x h m = tt
given_one (these (q ∷ [])) x h m = (m, tt)
given_one (these_or_none (q ∷ [])) x h m = inr (m, tt)
given_one (maybe_and q r) x h m = inl (m, tt)
given_one (each q) x h m = (m, tt)
given_one (first_and_each q r) x h m = (m, tt)
given_one (each_and_last q r) x h m = m
given_one _ x h m = no h
