-- One more name that is known.
use Rattle.std.proofs.Common.{◌≡◌, ◌∙◌, ℕ, ◌+◌, Bool, true, false, ◌&&◌, ◌||◌, cond, List, [], ◌∷◌, take, length, Option, Some, None, refl, sym, ap, slice_get, bytes_eq, nat_eq, arith}
use Rattle.std.specs.HashSet.{HashSet, contains}
use Rattle.std.specs.List.{list_any}
use Rattle.std.proofs.lemmas.Bool.{eqb-true}
use Rattle.std.proofs.lemmas.List.{take_all}
use Rattle.std.proofs.lemmas.List.Folds.{list_any-append}
use Rattle.ecma_tree.proofs.Items.{take-item}
use Rattle.ecma_tree.specs.declared.node.Node.{Node}
use Rattle.ecma_scope.specs.Uses.{UsedId}
use Rattle.ecma_elide.specs.Elision.{same_id}
use Rattle.ecma_elide.specs.Rules.{Known}
use Rattle.ecma_elide.specs.Sets.{has_text}

-- ---- a list whose items are added one by one

last : (a b : Bool) → b || (a || false) ≡ cond a true b
last true true = refl
last true false = refl
last false true = refl
last false false = refl

module _ {X : Type 0} (same : X → X → Bool) where
  abbrev among : List X → X → Bool
  among xs x = list_any (λ y. same y x) xs

  -- what the first i say, with the one at i
  pub among-next : (before after : X → Bool) (xs : List X) (i : ℕ) (x : X) → slice_get xs i ≡ Some x → ((q : X) → before q ≡ among (take i xs) q)
      → ((q : X) → after q ≡ cond (same x q) true (before q)) → (q : X) → after q ≡ among (take (i + 1) xs) q
  among-next before after xs i x at so_far adds q =
      adds q ∙ ap (cond (same x q) true) (so_far q) ∙ sym (last (same x q) (among (take i xs) q)) ∙ sym (list_any-append (λ y. same y q) (take i xs) (x ∷ []))
      ∙ ap (λ (z : List X). among z q) (sym (take-item xs i x at))

  pub among-all : (before : X → Bool) (xs : List X) (i : ℕ) → length xs ≡ i → ((q : X) → before q ≡ among (take i xs) q) → (q : X) → before q ≡ among xs q
  among-all before xs i all so_far q = so_far q ∙ ap (λ (z : List X). among z q) (take_all i xs (omega (arith, all)))

-- ---- an id, by its context and its text

and-yes : (b r : Bool) → cond (b && true) true r ≡ cond b true r
and-yes true r = refl
and-yes false r = refl

and-no : (b r : Bool) → cond (b && false) true r ≡ r
and-no true r = refl
and-no false r = refl

-- where the texts of a context are taken out and put back with one more
module _ {S : Type 0} (old taken new : ℕ → Option (HashSet (List ℕ) S)) (ctxt : ℕ) (text : List ℕ) (texts more : HashSet (List ℕ) S) where
  pub one-more : ((t : List ℕ) → contains bytes_eq texts t ≡ has_text (old ctxt) t) → ((c : ℕ) → taken c ≡ cond (nat_eq ctxt c) None (old c))
      → ((t : List ℕ) → contains bytes_eq more t ≡ cond (bytes_eq text t) true (contains bytes_eq texts t))
      → ((c : ℕ) → new c ≡ cond (nat_eq ctxt c) (Some more) (taken c))
      → (id : UsedId) → has_text (new id.1) id.0 ≡ cond (same_id (text, ctxt) id) true (has_text (old id.1) id.0)
  one-more had taking adds puts id = by (nat_eq ctxt id.1) refl
    where
      by : (b : Bool) → nat_eq ctxt id.1 ≡ b → has_text (new id.1) id.0 ≡ cond (bytes_eq text id.0 && nat_eq ctxt id.1) true (has_text (old id.1) id.0)
      by true e =
          ap (λ (o : Option (HashSet (List ℕ) S)). has_text o id.0) (puts id.1)
          ∙ ap (λ b. has_text (cond b (Some more) (taken id.1)) id.0) e
          ∙ adds id.0
          ∙ ap (cond (bytes_eq text id.0) true) (had id.0 ∙ ap (λ c. has_text (old c) id.0) (eqb-true ctxt id.1 e))
          ∙ sym (ap (λ b. cond (bytes_eq text id.0 && b) true (has_text (old id.1) id.0)) e ∙ and-yes (bytes_eq text id.0) (has_text (old id.1) id.0))
      by false e =
          ap (λ (o : Option (HashSet (List ℕ) S)). has_text o id.0) (puts id.1)
          ∙ ap (λ b. has_text (cond b (Some more) (taken id.1)) id.0) e
          ∙ ap (λ (o : Option (HashSet (List ℕ) S)). has_text o id.0) (taking id.1)
          ∙ ap (λ b. has_text (cond b None (old id.1)) id.0) e
          ∙ sym (ap (λ b. cond (bytes_eq text id.0 && b) true (has_text (old id.1) id.0)) e ∙ and-no (bytes_eq text id.0) (has_text (old id.1) id.0))

-- ---- what is known in all

pub knows : (used : UsedId → Bool) (values types : List ℕ → Bool) (keeps : Bool) (tree : Node) (known : Known)
    → ((id : UsedId) → used id ≡ known.is_used id) → ((text : List ℕ) → values text ≡ known.is_value text) → ((text : List ℕ) → types text ≡ known.is_type text)
    → record { is_used = used; is_value = values; is_type = types; keeps_imports = known.keeps_imports } ≡ known
knows used values types keeps tree known u v t = λ j. record { is_used = λ id. u id j; is_value = λ text. v text j; is_type = λ text. t text j; keeps_imports = known.keeps_imports }
