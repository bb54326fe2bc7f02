-- Walks that tell nothing of a tree, and those among them that ask nothing of what goes from a list.
use Rattle.std.proofs.Common.{◌≡◌, ◌∙◌, ℕ, Bool, true, false, not, ◌&&◌, List, map, Option, Some, None, refl, sym, ap, ap₂, slice_get}
use Rattle.ecma_tree.specs.Sorted.{is_list}
use Rattle.ecma_tree.specs.declared.node.Node.{Node, out-Node}
use Rattle.ecma_tree.proofs.Layers.{from_leaves_out}
use Rattle.ecma_fits.proofs.Walks.{neither_least, not_failing}
use Rattle.ecma_forms.specs.Forms.{asked_here, gone_at, gone_inside, leaves}
use Rattle.ecma_lower_enums.proofs.ByForm.{no'}
use Rattle.ecma_lower_enums_sources.proofs.Relating.{by-children}
use Rattle.ecma_rules.specs.Children.{holds_of, kind_of}
use Rattle.ecma_rules.specs.Failing.{failing_here, failing_step, first_failing, least, least_from}
use Rattle.ecma_strip.specs.Staying.{stays}
use Rattle.ecma_strip_fits.proofs.Walk.{each_none, none_from}

abbrev children_of : Node → List Node
children_of n = (out-Node n).children

module _ (A : Type 0) (place : A → Node → Option ℕ) (inside : A → Node → ℕ → A) where
  abbrev pub first : Node → A → Option ℕ
  first = first_failing A place inside

  first-out : (n : Node) (a : A) → first n a ≡ least (place a n) (least_from A (inside a n) 0 (map first (children_of n)))
  first-out n a = ap (λ f. f a) (from_leaves_out (A → Option ℕ) (failing_step A place inside) n)

  told : (n : Node) (a : A) → first n a ≡ None → (place a n ≡ None) × (least_from A (inside a n) 0 (map first (children_of n)) ≡ None)
  told n a h = neither_least (place a n) (least_from A (inside a n) 0 (map first (children_of n))) (sym (first-out n a) ∙ h)

  pub told-here : (n : Node) (a : A) → first n a ≡ None → place a n ≡ None
  told-here n a h = (told n a h).0

  pub told-below : (n : Node) (a : A) → first n a ≡ None → (i : ℕ) (c : Node) → slice_get (children_of n) i ≡ Some c → first c (inside a n i) ≡ None
  told-below n a h = each_none A first (children_of n) (inside a n) (told n a h).1

  tells : (n : Node) (a : A) → place a n ≡ None → ((i : ℕ) (c : Node) → slice_get (children_of n) i ≡ Some c → first c (inside a n i) ≡ None) → first n a ≡ None
  tells n a h below = first-out n a ∙ ap₂ least h (none_from A first (children_of n) (inside a n) below)

-- ---- what goes from a list is not asked

not-false : (b : Bool) → not b ≡ false → b ≡ true
not-false true h = refl
not-false false h = no' h

-- an item that stays does not go, nor does what stands in no list
not-gone : (list : Bool) (o : Option Node) (c : Node) → o ≡ Some c → (list ≡ true → stays c ≡ true) → (list && holds_of leaves o) ≡ false
not-gone true o c at stay = ap (holds_of leaves) at ∙ ap not (stay refl)
not-gone false o c at stay = refl

stays-there : (list : Bool) (o : Option Node) (c : Node) → o ≡ Some c → (list && holds_of leaves o) ≡ false → list ≡ true → stays c ≡ true
stays-there true o c at h l = not-false (stays c) (sym (ap (holds_of leaves) at) ∙ h)
stays-there false o c at h l = no' (sym l)

module _ (test : Node → Bool) where
  abbrev walk : Node → Bool → Option ℕ
  walk = first_failing Bool (asked_here test) gone_inside

  -- no node that is asked passes the test
  abbrev pub Low : Node → Type 0
  Low n = walk n false ≡ None

  gone : (n : Node) → walk n true ≡ None
  gone = by-children (λ n. walk n true ≡ None) (λ n below. tells Bool (asked_here test) gone_inside n true refl below)

  pub low-here : (n : Node) → Low n → test n ≡ false
  low-here n h = not_failing (test n) n (told-here Bool (asked_here test) gone_inside n false h)

  pub low-below : (n : Node) → Low n → (i : ℕ) (c : Node) → slice_get (children_of n) i ≡ Some c → (is_list (kind_of n) ≡ true → stays c ≡ true) → Low c
  low-below n h i c at stay =
      let asked : gone_inside false n i ≡ false = not-gone (is_list (kind_of n)) (slice_get (children_of n) i) c at stay in
      sym (ap (walk c) asked) ∙ told-below Bool (asked_here test) gone_inside n false h i c at

  child-low : (n : Node) (i : ℕ) (c : Node) (b : Bool) → gone_at leaves n i ≡ b → slice_get (children_of n) i ≡ Some c → ((is_list (kind_of n) ≡ true → stays c ≡ true) → Low c) → walk c b ≡ None
  child-low n i c true e at h = gone c
  child-low n i c false e at h = h (stays-there (is_list (kind_of n)) (slice_get (children_of n) i) c at e)

  pub low-made : (n : Node) → test n ≡ false → ((i : ℕ) (c : Node) → slice_get (children_of n) i ≡ Some c → (is_list (kind_of n) ≡ true → stays c ≡ true) → Low c) → Low n
  low-made n h each =
      tells Bool (asked_here test) gone_inside n false (ap (λ b. failing_here b n) h) (λ i c at. child-low n i c (gone_at leaves n i) refl at (each i c at))
