-- The equations of the least failing place, child by child, once for every test.
use Rattle.std.proofs.Common.{◌≡◌, ◌∙◌, ℕ, zero, suc, ◌+◌, List, [], ◌∷◌, map, drop, length, Option, Some, None, refl, sym, ap, slice_get, add-one, arith}
use Rattle.ecma_tree.specs.declared.node.Node.{Node, out-Node}
use Rattle.ecma_tree.proofs.Items.{drop-item}
use Rattle.ecma_tree.proofs.Layers.{from_leaves_out}
use Rattle.ecma_rules.specs.Failing.{failing_step, first_failing, least, least_from}

pub least-none : (a : Option ℕ) → least a None ≡ a
least-none None = refl
least-none (Some i) = refl

pub least-twice : (a b c : Option ℕ) → least (least a b) c ≡ least a (least b c)
least-twice None b c = refl
least-twice (Some i) None c = refl
least-twice (Some i) (Some j) None = refl
least-twice (Some i) (Some j) (Some k) = ap Some (omega arith)

least-swap : (a b : Option ℕ) → least a b ≡ least b a
least-swap None None = refl
least-swap None (Some j) = refl
least-swap (Some i) None = refl
least-swap (Some i) (Some j) = ap Some (omega arith)

pub least-pairs : (a b c d : Option ℕ) → least (least a b) (least c d) ≡ least (least a c) (least b d)
least-pairs a b c d =
    least-twice a b (least c d) ∙ ap (least a) (sym (least-twice b c d) ∙ ap (λ z. least z d) (least-swap b c) ∙ least-twice c b d)
    ∙ sym (least-twice a c (least b d))

-- behind the last nothing is left
pub drop-none : (nodes : List Node) (i : ℕ) → length nodes ≡ i → drop i nodes ≡ []
drop-none [] zero all = refl
drop-none [] (suc i) all = refl
drop-none (n ∷ ns) zero all = cc
drop-none (n ∷ ns) (suc i) all = drop-none ns i (omega (arith, all))

module _ (A : Type 0) (place : A → Node → Option ℕ) (inside : A → Node → ℕ → A) where
  -- in the children from the one at i on
  abbrev pub rest_failing : A → Node → ℕ → Option ℕ
  rest_failing a n i = least_from A (inside a n) i (map (first_failing A place inside) (drop i (out-Node n).children))

  failing-out : (a : A) (n : Node) → first_failing A place inside n a ≡ least (place a n) (rest_failing a n 0)
  failing-out a n = ap (λ f. f a) (from_leaves_out (A → Option ℕ) (failing_step A place inside) n)

  pub rest-next : (a : A) (n : Node) (i : ℕ) (x : Node) → slice_get (out-Node n).children i ≡ Some x → rest_failing a n i ≡ least (first_failing A place inside x (inside a n i)) (rest_failing a n (i + 1))
  rest-next a n i x at = rw (add-one, drop-item (out-Node n).children i x at, add-one) refl

  pub rest-none : (a : A) (n : Node) (i : ℕ) → length (out-Node n).children ≡ i → rest_failing a n i ≡ None
  rest-none a n i all = ap (λ (z : List Node). least_from A (inside a n) i (map (first_failing A place inside) z)) (drop-none (out-Node n).children i all)

  -- before the first child
  pub failing-first : (a : A) (n : Node) (here : Option ℕ) → here ≡ place a n → least here (rest_failing a n 0) ≡ first_failing A place inside n a
  failing-first a n here is = ap (λ z. least z (rest_failing a n 0)) is ∙ sym (failing-out a n)

  -- behind one more
  pub failing-next : (a : A) (n : Node) (found below : Option ℕ) (i : ℕ) (x : Node) → slice_get (out-Node n).children i ≡ Some x → below ≡ first_failing A place inside x (inside a n i)
      → least found (rest_failing a n i) ≡ first_failing A place inside n a → least (least found below) (rest_failing a n (i + 1)) ≡ first_failing A place inside n a
  failing-next a n found below i x at is so_far =
      least-twice found below (rest_failing a n (i + 1)) ∙ ap (λ z. least found (least z (rest_failing a n (i + 1)))) is ∙ ap (least found) (sym (rest-next a n i x at)) ∙ so_far

  -- behind the last
  pub failing-all : (a : A) (n : Node) (found : Option ℕ) (i : ℕ) → length (out-Node n).children ≡ i → least found (rest_failing a n i) ≡ first_failing A place inside n a → found ≡ first_failing A place inside n a
  failing-all a n found i all so_far =
      sym (least-none found) ∙ ap (least found) (sym (rest-none a n i all)) ∙ so_far
