-- Items that pass a test, one after the other.
use Rattle.std.proofs.Common.{◌≡◌, ◌∙◌, Bool, true, false, not, cond, List, [], ◌∷◌, ◌++◌, refl, ap}
use Rattle.std.specs.List.{filter}
use Rattle.std.proofs.lemmas.List.{append-nil}
use Rattle.std.proofs.lemmas.List.Elements.{filter-append}
use Rattle.ecma_tree.specs.declared.node.Node.{Node}
use Rattle.ecma_lower.specs.Assignments.{is_export_assignment}

module _ (p : Node → Bool) where
  one-kept : (n : Node) → p n ≡ true → filter p (n ∷ []) ≡ n ∷ []
  one-kept n h = rw h refl

  one-gone : (n : Node) → p n ≡ false → filter p (n ∷ []) ≡ []
  one-gone n h = rw h refl

  pub kept : (xs : List Node) (n : Node) → p n ≡ true → filter p (xs ++ n ∷ []) ≡ filter p xs ++ n ∷ []
  kept xs n h = filter-append p xs (n ∷ []) ∙ ap (λ z. filter p xs ++ z) (one-kept n h)

  pub gone : (xs : List Node) (n : Node) → p n ≡ false → filter p (xs ++ n ∷ []) ≡ filter p xs
  gone xs n h = filter-append p xs (n ∷ []) ∙ ap (λ z. filter p xs ++ z) (one-gone n h) ∙ append-nil (filter p xs)

abbrev pub is_other : Node → Bool
is_other item = not (is_export_assignment item)

pub exports-kept : (xs : List Node) (n : Node) → is_export_assignment n ≡ true → filter is_export_assignment (xs ++ n ∷ []) ≡ filter is_export_assignment xs ++ n ∷ []
exports-kept xs n h = kept is_export_assignment xs n h

pub exports-gone : (xs : List Node) (n : Node) → is_export_assignment n ≡ false → filter is_export_assignment (xs ++ n ∷ []) ≡ filter is_export_assignment xs
exports-gone xs n h = gone is_export_assignment xs n h

pub others-kept : (xs : List Node) (n : Node) → is_export_assignment n ≡ false → filter (λ item. not (is_export_assignment item)) (xs ++ n ∷ []) ≡ filter (λ item. not (is_export_assignment item)) xs ++ n ∷ []
others-kept xs n h = kept is_other xs n (ap not h)

pub others-gone : (xs : List Node) (n : Node) → is_export_assignment n ≡ true → filter (λ item. not (is_export_assignment item)) (xs ++ n ∷ []) ≡ filter (λ item. not (is_export_assignment item)) xs
others-gone xs n h = gone is_other xs n (ap not h)

pub ruleset parted = (exports-kept, exports-gone, others-kept, others-gone, append-nil)
