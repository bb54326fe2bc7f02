-- What is said of nodes that are read goes through the words of a grammar.
use Rattle.std.proofs.Common.{◌≡◌, Bool, true, false, ◌&&◌, List, [], ◌∷◌, ◌++◌, refl}
use Rattle.std.proofs.lemmas.Bool.{and_parts}
use Rattle.ecma_tree.specs.declared.node.Node.{Node}
use Rattle.ecma_grammar.specs.trees.Parts.{kind_of}
use Rattle.ecma_raw_roles.proofs.Walks.{not_true}
use Rattle.ecma_text_plain.proofs.GivenWhole.{AllMeet, Fact, Given, Has, Meets, all_met, anything, are_tight, both, calm, exactly, external, external_calm, followed, forget, in_front, is_tight, is_tight_list, joined, loose, met, never, pairwise, some, some_has, some_if, sound, weaker}
use Rattle.ecma_text_plain.proofs.Whole.{append_all, more, none}

-- one behind the other

all_append : (fs gs : List Fact) (xs ys : List Node) → AllMeet fs xs → AllMeet gs ys → AllMeet (fs ++ gs) (xs ++ ys)
all_append [] gs [] ys p q = q
all_append [] gs (x ∷ xs) ys p q = absurd p
all_append (f ∷ fs) gs [] ys p q = absurd p
all_append (f ∷ fs) gs (x ∷ xs) ys p q = (p.0, all_append fs gs xs ys p.1 q)

both_has : (g h : Given) (xs ys : List Node) → Has g xs → Has h ys → Has (both g h) (xs ++ ys)
both_has g h xs ys p q = some_has (is_tight_list g && is_tight_list h) (xs ++ ys) (λ t. let e = and_parts (is_tight_list g) (is_tight_list h) t in append_all (forget g xs e.0 p) (forget h ys e.1 q))

pub followed_has : (g h : Given) (xs ys : List Node) → Has g xs → Has h ys → Has (followed g h) (xs ++ ys)
followed_has never h xs ys p q = absurd p
followed_has anything h xs ys p q = both_has anything h xs ys p q
followed_has some h xs ys p q = both_has some h xs ys p q
followed_has (exactly fs) never xs ys p q = absurd q
followed_has (exactly fs) anything xs ys p q = both_has (exactly fs) anything xs ys p q
followed_has (exactly fs) some xs ys p q = both_has (exactly fs) some xs ys p q
followed_has (exactly fs) (exactly gs) xs ys p q = all_append fs gs xs ys p q

pub repeated_more : (g : Given) (xs ys : List Node) → Has g xs → Has (some_if (is_tight_list g)) ys → Has (some_if (is_tight_list g)) (xs ++ ys)
repeated_more g xs ys p q = go (is_tight_list g) refl q
  where
    go : (b : Bool) → is_tight_list g ≡ b → Has (some_if b) ys → Has (some_if b) (xs ++ ys)
    go true e r = append_all (forget g xs e p) r
    go false e r = tt

pub repeated_none : (b : Bool) → Has (some_if b) []
repeated_none true = none
repeated_none false = tt

-- the first or the second

weaker_left : (f g : Fact) (x : Node) → Meets f x → Meets (weaker f g) x
weaker_left external external x m = m
weaker_left external calm x m = (m.0, external_calm (kind_of x) m.1)
weaker_left external sound x m = m.0
weaker_left external loose x m = tt
weaker_left calm external x m = m
weaker_left calm calm x m = m
weaker_left calm sound x m = m.0
weaker_left calm loose x m = tt
weaker_left sound external x m = m
weaker_left sound calm x m = m
weaker_left sound sound x m = m
weaker_left sound loose x m = tt
weaker_left loose g x m = tt

weaker_right : (f g : Fact) (x : Node) → Meets g x → Meets (weaker f g) x
weaker_right external g x m = m
weaker_right calm external x m = (m.0, external_calm (kind_of x) m.1)
weaker_right calm calm x m = m
weaker_right calm sound x m = m
weaker_right calm loose x m = tt
weaker_right sound external x m = m.0
weaker_right sound calm x m = m.0
weaker_right sound sound x m = m
weaker_right sound loose x m = tt
weaker_right loose g x m = tt

front_has : (f : Fact) (g : Given) (x : Node) (xs : List Node) → Meets f x → Has g xs → Has (in_front f g) (x ∷ xs)
front_has f never x xs m p = absurd p
front_has f anything x xs m p = some_has (is_tight f && false) (x ∷ xs) (λ t. not_true (and_parts (is_tight f) false t).1)
front_has f some x xs m p = some_has (is_tight f && true) (x ∷ xs) (λ t. more (met f x (and_parts (is_tight f) true t).0 m) p)
front_has f (exactly gs) x xs m p = (m, p)

pair_left : (fs gs : List Fact) (xs : List Node) → AllMeet fs xs → Has (pairwise fs gs) xs
pair_left [] [] xs p = p
pair_left [] (g ∷ gs) xs p = some_has (are_tight (g ∷ gs)) xs (λ t. all_met [] xs refl p)
pair_left (f ∷ fs) [] xs p = some_has (are_tight (f ∷ fs) && true) xs (λ t. all_met (f ∷ fs) xs (and_parts (are_tight (f ∷ fs)) true t).0 p)
pair_left (f ∷ fs) (g ∷ gs) [] p = absurd p
pair_left (f ∷ fs) (g ∷ gs) (x ∷ xs) p = front_has (weaker f g) (pairwise fs gs) x xs (weaker_left f g x p.0) (pair_left fs gs xs p.1)

pair_right : (fs gs : List Fact) (xs : List Node) → AllMeet gs xs → Has (pairwise fs gs) xs
pair_right [] [] xs p = p
pair_right [] (g ∷ gs) xs p = some_has (are_tight (g ∷ gs)) xs (λ t. all_met (g ∷ gs) xs t p)
pair_right (f ∷ fs) [] xs p = some_has (are_tight (f ∷ fs) && true) xs (λ t. all_met [] xs refl p)
pair_right (f ∷ fs) (g ∷ gs) [] p = absurd p
pair_right (f ∷ fs) (g ∷ gs) (x ∷ xs) p = front_has (weaker f g) (pairwise fs gs) x xs (weaker_right f g x p.0) (pair_right fs gs xs p.1)

left_has : (g h : Given) (xs : List Node) → Has g xs → Has (both g h) xs
left_has g h xs p = some_has (is_tight_list g && is_tight_list h) xs (λ t. forget g xs (and_parts (is_tight_list g) (is_tight_list h) t).0 p)

right_has : (g h : Given) (xs : List Node) → Has h xs → Has (both g h) xs
right_has g h xs p = some_has (is_tight_list g && is_tight_list h) xs (λ t. forget h xs (and_parts (is_tight_list g) (is_tight_list h) t).1 p)

pub joined_left : (g h : Given) (xs : List Node) → Has g xs → Has (joined g h) xs
joined_left never h xs p = absurd p
joined_left anything never xs p = p
joined_left anything anything xs p = left_has anything anything xs p
joined_left anything some xs p = left_has anything some xs p
joined_left anything (exactly gs) xs p = left_has anything (exactly gs) xs p
joined_left some never xs p = p
joined_left some anything xs p = left_has some anything xs p
joined_left some some xs p = left_has some some xs p
joined_left some (exactly gs) xs p = left_has some (exactly gs) xs p
joined_left (exactly fs) never xs p = p
joined_left (exactly fs) anything xs p = left_has (exactly fs) anything xs p
joined_left (exactly fs) some xs p = left_has (exactly fs) some xs p
joined_left (exactly fs) (exactly gs) xs p = pair_left fs gs xs p

pub joined_right : (g h : Given) (xs : List Node) → Has h xs → Has (joined g h) xs
joined_right never h xs p = p
joined_right anything never xs p = absurd p
joined_right anything anything xs p = right_has anything anything xs p
joined_right anything some xs p = right_has anything some xs p
joined_right anything (exactly gs) xs p = right_has anything (exactly gs) xs p
joined_right some never xs p = absurd p
joined_right some anything xs p = right_has some anything xs p
joined_right some some xs p = right_has some some xs p
joined_right some (exactly gs) xs p = right_has some (exactly gs) xs p
joined_right (exactly fs) never xs p = absurd p
joined_right (exactly fs) anything xs p = right_has (exactly fs) anything xs p
joined_right (exactly fs) some xs p = right_has (exactly fs) some xs p
joined_right (exactly fs) (exactly gs) xs p = pair_right fs gs xs p
