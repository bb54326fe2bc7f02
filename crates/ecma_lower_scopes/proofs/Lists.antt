-- What lists of items give, with all in the same around them, as they are written and with each `export =` at the end.
use Rattle.std.proofs.Common.{◌≡◌, ◌∙◌, ℕ, suc, ◌+◌, Bool, true, false, not, cond, refl, sym, ap, ap₂, subst, List, [], ◌∷◌, ◌++◌, append-nil, append_assoc, filter, map, arith}
use Rattle.std.specs.List.{All, sum_by}
use Rattle.std.proofs.lemmas.List.Elements.{All-append}
use Rattle.std.proofs.lemmas.List.Sums.{sum_by-append}
use Rattle.ecma_kind.specs.declared.shapes.Sort.TheVariants as sort
use Rattle.ecma_tree.specs.Sorted.{HasShape, one}
use Rattle.ecma_tree.specs.declared.node.Node.{Node}
use Rattle.ecma_hygiene_scopes.proofs.Stopping.{All-first, All-second}
use Rattle.ecma_lower.specs.Assignments.{is_export_assignment}
use Rattle.ecma_lower.specs.Moving.{exports_last}
use Rattle.ecma_lower_scopes.proofs.Walks.{Walk, given_from}
use Rattle.ecma_lower_strip.proofs.Lists.{AreItems}

abbrev pub IsItem : Node → Type 0
IsItem n = HasShape (one sort.ModuleItem) n

module _ {A R : Type 0} (w : Walk A R) (a : A) where
  -- what the items of a list give, one behind the other
  abbrev pub all_given : List Node → List R
  all_given [] = []
  all_given (n ∷ ns) = w.gives n a ++ all_given ns

  pub given-alike : (around : ℕ → A) → ((i : ℕ) → around i ≡ a) → (i : ℕ) (ns : List Node) → given_from w.gives around i ns ≡ all_given ns
  given-alike around same i [] = refl
  given-alike around same i (n ∷ ns) = ap₂ (λ (x y : List R). x ++ y) (ap (w.gives n) (same i)) (given-alike around same (suc i) ns)

  given-append : (ns ms : List Node) → all_given (ns ++ ms) ≡ all_given ns ++ all_given ms
  given-append [] ms = refl
  given-append (n ∷ ns) ms = ap (λ (z : List R). w.gives n a ++ z) (given-append ns ms) ∙ sym (append_assoc (w.gives n a) (all_given ns) (all_given ms))

  -- ---- other items that give the same

  pub given-mapped : (to : Node → Node) → ((n : Node) → IsItem n → w.gives (to n) a ≡ w.gives n a) → (ns : List Node) → AreItems ns → all_given (map to ns) ≡ all_given ns
  given-mapped to same [] items = refl
  given-mapped to same (n ∷ ns) items = ap₂ (λ (x y : List R). x ++ y) (same n items.0) (given-mapped to same ns items.1)

  -- ---- items that are moved

  abbrev stays_put : Node → Bool
  stays_put item = not (is_export_assignment item)

  module _ (P : R → Type 0) where
    kept-step : (b : Bool) (n : Node) (ns ms : List Node) → (All P (all_given ns) → All P (all_given ms)) → All P (w.gives n a ++ all_given ns) → All P (all_given (cond b (n ∷ ms) ms))
    kept-step true n ns ms rest h = All-append P (w.gives n a) (all_given ms) (All-first P (w.gives n a) (all_given ns) h) (rest (All-second P (w.gives n a) (all_given ns) h))
    kept-step false n ns ms rest h = rest (All-second P (w.gives n a) (all_given ns) h)

    all-kept : (p : Node → Bool) (ns : List Node) → All P (all_given ns) → All P (all_given (filter p ns))
    all-kept p [] h = h
    all-kept p (n ∷ ns) h = kept-step (p n) n ns (filter p ns) (all-kept p ns) h

    -- what is so of all that is given is so where each `export =` is at the end
    pub all-moved : (ns : List Node) → All P (all_given ns) → All P (all_given (exports_last ns))
    all-moved ns h =
        let front = filter stays_put ns in
        let back = filter is_export_assignment ns in
        subst (All P) (sym (given-append front back)) (All-append P (all_given front) (all_given back) (all-kept stays_put ns h) (all-kept is_export_assignment ns h))

  module _ (f : R → ℕ) where
    abbrev total : List Node → ℕ
    total ns = sum_by f (all_given ns)

    total-more : (n : Node) (ns : List Node) → total (n ∷ ns) ≡ sum_by f (w.gives n a) + total ns
    total-more n ns = sum_by-append f (w.gives n a) (all_given ns)

    front-first : (x y z t : ℕ) → y + z ≡ t → x + y + z ≡ x + t
    front-first x y z t e = omega (arith, e)

    back-first : (x y z t : ℕ) → y + z ≡ t → y + (x + z) ≡ x + t
    back-first x y z t e = omega (arith, e)

    both-step : (b : Bool) (n : Node) (ns front back : List Node) → total front + total back ≡ total ns → total (cond (not b) (n ∷ front) front) + total (cond b (n ∷ back) back) ≡ total (n ∷ ns)
    both-step true n ns front back e =
        ap (λ z. total front + z) (total-more n back) ∙ back-first (sum_by f (w.gives n a)) (total front) (total back) (total ns) e ∙ sym (total-more n ns)
    both-step false n ns front back e =
        ap (λ z. z + total back) (total-more n front) ∙ front-first (sum_by f (w.gives n a)) (total front) (total back) (total ns) e ∙ sym (total-more n ns)

    both-total : (ns : List Node) → total (filter stays_put ns) + total (filter is_export_assignment ns) ≡ total ns
    both-total [] = refl
    both-total (n ∷ ns) = both-step (is_export_assignment n) n ns (filter stays_put ns) (filter is_export_assignment ns) (both-total ns)

    -- and the same sum is over all that is given
    pub total-moved : (ns : List Node) → sum_by f (all_given (exports_last ns)) ≡ sum_by f (all_given ns)
    total-moved ns =
        let front = filter stays_put ns in
        let back = filter is_export_assignment ns in
        ap (sum_by f) (given-append front back) ∙ sum_by-append f (all_given front) (all_given back) ∙ both-total ns

  -- where `export =` gives nothing
  module _ (nothing : (n : Node) → IsItem n → is_export_assignment n ≡ true → w.gives n a ≡ []) where
    front-step : (b : Bool) (n : Node) (ns front : List Node) → IsItem n → is_export_assignment n ≡ b → all_given front ≡ all_given ns → all_given (cond (not b) (n ∷ front) front) ≡ all_given (n ∷ ns)
    front-step true n ns front item is e = e ∙ sym (ap (λ (z : List R). z ++ all_given ns) (nothing n item is))
    front-step false n ns front item is e = ap (λ (z : List R). w.gives n a ++ z) e

    front-gives : (ns : List Node) → AreItems ns → all_given (filter stays_put ns) ≡ all_given ns
    front-gives [] items = refl
    front-gives (n ∷ ns) items = front-step (is_export_assignment n) n ns (filter stays_put ns) items.0 refl (front-gives ns items.1)

    back-step : (b : Bool) (n : Node) (back : List Node) → IsItem n → is_export_assignment n ≡ b → all_given back ≡ [] → all_given (cond b (n ∷ back) back) ≡ []
    back-step true n back item is e = ap₂ (λ (x y : List R). x ++ y) (nothing n item is) e
    back-step false n back item is e = e

    back-gives : (ns : List Node) → AreItems ns → all_given (filter is_export_assignment ns) ≡ []
    back-gives [] items = refl
    back-gives (n ∷ ns) items = back-step (is_export_assignment n) n (filter is_export_assignment ns) items.0 refl (back-gives ns items.1)

    pub given-moved : (ns : List Node) → AreItems ns → all_given (exports_last ns) ≡ all_given ns
    given-moved ns items =
        given-append (filter stays_put ns) (filter is_export_assignment ns)
        ∙ ap₂ (λ (x y : List R). x ++ y) (front-gives ns items) (back-gives ns items)
        ∙ append-nil (all_given ns)
