-- What is said of nodes that are read goes through the words of a grammar.
use Rattle.std.proofs.Common.{Bool, List, [], ◌∷◌, ◌++◌}
use Rattle.ecma_tree.specs.declared.node.Node.{Node}
use Rattle.ecma_text_leaves.proofs.Trees.{each_append}
use Rattle.ecma_text_plain.proofs.PlainKinds.{IsPlain}
use Rattle.ecma_text_plain.proofs.Given.{AllMeet, EachMeets, Fact, Given, Has, Meets, all_met, any_nodes, anything, each, each_met, either, exactly, followed, forget, in_front, joined, met, missing, never, pairwise, repeated, static, statics}

module _ (assignments : Bool) where
  abbrev H : Given → List Node → Type 0
  H = Has assignments

  any_of : (g h : Given) (xs ys : List Node) → H g xs → H h ys → EachMeets assignments anything (xs ++ ys)
  any_of g h xs ys p q = any_nodes assignments (each_append (IsPlain assignments) (forget assignments g xs p) (forget assignments h ys q))

  -- one behind the other

  all_append : (fs gs : List Fact) (xs ys : List Node) → AllMeet assignments fs xs → AllMeet assignments gs ys → AllMeet assignments (fs ++ gs) (xs ++ ys)
  all_append [] gs [] ys p q = q
  all_append [] gs (x ∷ xs) ys p q = absurd p
  all_append (f ∷ fs) gs [] ys p q = absurd p
  all_append (f ∷ fs) gs (x ∷ xs) ys p q = (p.0, all_append fs gs xs ys p.1 q)

  pub followed_has : (g h : Given) (xs ys : List Node) → H g xs → H h ys → H (followed g h) (xs ++ ys)
  followed_has never h xs ys p q = absurd p
  followed_has (exactly fs) (exactly gs) xs ys p q = all_append fs gs xs ys p q
  followed_has (exactly fs) never xs ys p q = absurd q
  followed_has (exactly fs) (each g) xs ys p q = any_of (exactly fs) (each g) xs ys p q
  followed_has (each f) h xs ys p q = any_of (each f) h xs ys p q

  -- as often as it is read

  pub repeated_none : (g : Given) → H (repeated g) []
  repeated_none never = tt
  repeated_none (each f) = tt
  repeated_none (exactly []) = tt
  repeated_none (exactly (f ∷ [])) = tt
  repeated_none (exactly (f ∷ g ∷ fs)) = tt

  pub repeated_more : (g : Given) (xs ys : List Node) → H g xs → H (repeated g) ys → H (repeated g) (xs ++ ys)
  repeated_more never xs ys p q = absurd p
  repeated_more (each f) xs ys p q = any_of (each f) (each anything) xs ys p q
  repeated_more (exactly []) xs ys p q = any_of (exactly []) (each anything) xs ys p q
  repeated_more (exactly (f ∷ [])) [] ys p q = absurd p
  repeated_more (exactly (f ∷ [])) (x ∷ []) ys p q = (p.0, q)
  repeated_more (exactly (f ∷ [])) (x ∷ y ∷ xs) ys p q = absurd p.1
  repeated_more (exactly (f ∷ g ∷ fs)) xs ys p q = any_of (exactly (f ∷ g ∷ fs)) (each anything) xs ys p q

  -- the first or the second

  either_left : (f g : Fact) (x : Node) → Meets assignments f x → Meets assignments (either f g) x
  either_left missing missing x m = m
  either_left static static x m = m
  either_left statics statics x m = m
  either_left anything g x m = m
  either_left missing anything x m = met assignments missing x m
  either_left missing static x m = met assignments missing x m
  either_left missing statics x m = met assignments missing x m
  either_left static anything x m = met assignments static x m
  either_left static missing x m = met assignments static x m
  either_left static statics x m = met assignments static x m
  either_left statics anything x m = met assignments statics x m
  either_left statics missing x m = met assignments statics x m
  either_left statics static x m = met assignments statics x m

  either_right : (f g : Fact) (x : Node) → Meets assignments g x → Meets assignments (either f g) x
  either_right missing missing x m = m
  either_right static static x m = m
  either_right statics statics x m = m
  either_right anything g x m = met assignments g x m
  either_right missing anything x m = m
  either_right missing static x m = met assignments static x m
  either_right missing statics x m = met assignments statics x m
  either_right static anything x m = m
  either_right static missing x m = met assignments missing x m
  either_right static statics x m = met assignments statics x m
  either_right statics anything x m = m
  either_right statics missing x m = met assignments missing x m
  either_right statics static x m = met assignments static x m

  front_has : (f : Fact) (g : Given) (x : Node) (xs : List Node) → Meets assignments f x → H g xs → H (in_front f g) (x ∷ xs)
  front_has f never x xs m p = absurd p
  front_has f (each g) x xs m p = (met assignments f x m, any_nodes assignments (each_met assignments g xs p))
  front_has f (exactly gs) x xs m p = (m, p)

  pair_left : (fs gs : List Fact) (xs : List Node) → AllMeet assignments fs xs → H (pairwise fs gs) xs
  pair_left [] [] xs p = p
  pair_left [] (g ∷ gs) xs p = any_nodes assignments (all_met assignments [] xs p)
  pair_left (f ∷ fs) [] xs p = any_nodes assignments (all_met assignments (f ∷ fs) xs p)
  pair_left (f ∷ fs) (g ∷ gs) [] p = absurd p
  pair_left (f ∷ fs) (g ∷ gs) (x ∷ xs) p = front_has (either f g) (pairwise fs gs) x xs (either_left f g x p.0) (pair_left fs gs xs p.1)

  pair_right : (fs gs : List Fact) (xs : List Node) → AllMeet assignments gs xs → H (pairwise fs gs) xs
  pair_right [] [] xs p = p
  pair_right [] (g ∷ gs) xs p = any_nodes assignments (all_met assignments (g ∷ gs) xs p)
  pair_right (f ∷ fs) [] xs p = any_nodes assignments (all_met assignments [] xs p)
  pair_right (f ∷ fs) (g ∷ gs) [] p = absurd p
  pair_right (f ∷ fs) (g ∷ gs) (x ∷ xs) p = front_has (either f g) (pairwise fs gs) x xs (either_right f g x p.0) (pair_right fs gs xs p.1)

  any_has : (g : Given) (xs : List Node) → H g xs → EachMeets assignments anything xs
  any_has g xs p = any_nodes assignments (forget assignments g xs p)

  pub joined_left : (g h : Given) (xs : List Node) → H g xs → H (joined g h) xs
  joined_left never h xs p = absurd p
  joined_left (each f) never xs p = p
  joined_left (each f) (each g) xs p = any_has (each f) xs p
  joined_left (each f) (exactly gs) xs p = any_has (each f) xs p
  joined_left (exactly fs) never xs p = p
  joined_left (exactly fs) (each g) xs p = any_has (exactly fs) xs p
  joined_left (exactly fs) (exactly gs) xs p = pair_left fs gs xs p

  pub joined_right : (g h : Given) (xs : List Node) → H h xs → H (joined g h) xs
  joined_right never h xs p = p
  joined_right (each f) never xs p = absurd p
  joined_right (each f) (each g) xs p = any_has (each g) xs p
  joined_right (each f) (exactly gs) xs p = any_has (exactly gs) xs p
  joined_right (exactly fs) never xs p = absurd p
  joined_right (exactly fs) (each g) xs p = any_has (each g) xs p
  joined_right (exactly fs) (exactly gs) xs p = pair_right fs gs xs p
