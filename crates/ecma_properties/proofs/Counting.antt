-- How many `super(..)` the children of a node have, child by child.
use Rattle.std.proofs.Common.{◌≡◌, ◌∙◌, ℕ, zero, suc, ◌+◌, ◌<◌, ◌==◌, Bool, true, false, cond, List, [], ◌∷◌, map, drop, length, min, Option, Some, None, refl, sym, ap, slice_get, add-one, arith}
use Rattle.std.proofs.lemmas.Bool.Decides.{nat_tests}
use Rattle.std.proofs.lemmas.List.{drop_all}
use Rattle.std.specs.Option.{option_map_or}
use Rattle.ecma_tree.proofs.Items.{drop-item, item-within}
use Rattle.ecma_tree.proofs.Layers.{from_leaves_out}
use Rattle.ecma_tree.specs.declared.node.Node.{Node, out-Node}
use Rattle.ecma_properties.specs.Supers.{count, cut, is_entered, is_super_call, most, supers_at, supers_in, supers_step, supers_within, total_from}

-- ---- sums that are cut

cut-both : (m a b : ℕ) → min (min a m + min b m) m ≡ min (a + b) m
cut-both m a b = omega arith

-- the sum of two that are cut is the cut sum
pub cut-sum : (x y a b : ℕ) → x ≡ cut a → y ≡ cut b → cut (x + y) ≡ cut (a + b)
cut-sum x y a b is other = ap (λ (z : ℕ). cut (z + y)) is ∙ (ap (λ (z : ℕ). cut (cut a + z)) other ∙ cut-both most a b)

-- one more of a sum that is cut
cut-next : (all more c x rest : ℕ) → more ≡ cut (all + c) → c ≡ cut x → cut (more + rest) ≡ cut (all + (x + rest))
cut-next all more c x rest is other =
    ap (λ (z : ℕ). cut (z + rest)) (is ∙ ap (λ (z : ℕ). cut (all + z)) other) ∙ step most all x rest
  where
    step : (m a b r : ℕ) → min (min (a + min b m) m + r) m ≡ min (a + (b + r)) m
    step m a b r = omega arith

-- one is one, cut or not
one-below : (m n : ℕ) → 1 < m → (min n m == 1) ≡ (n == 1)
one-below m n more = grind (arith, nat_tests)

pub one-cut : (n : ℕ) → (cut n == 1) ≡ (n == 1)
one-cut n = one-below most n (omega arith)

-- ---- child by child

-- in the children from the one at i on
abbrev pub rest : Node → ℕ → ℕ
rest n i = total_from (is_entered n) i (map supers_in (drop i (out-Node n).children))

supers-out : (n : Node) → supers_in n ≡ count (is_super_call n) + rest n 0
unfolding supers_in
supers-out n = from_leaves_out ℕ supers_step n

rest-item : (n : Node) (i : ℕ) (x : Node) → slice_get (out-Node n).children i ≡ Some x → rest n i ≡ cond (is_entered n i) (supers_in x) 0 + rest n (i + 1)
rest-item n i x at = rw (add-one, drop-item (out-Node n).children i x at, add-one) refl

rest-next : (n : Node) (i : ℕ) → i < length (out-Node n).children → rest n i ≡ supers_within n i + rest n (i + 1)
rest-next n i within =
    let found = item-within (out-Node n).children i within in
    rest-item n i found.0 found.1
    ∙ ap (λ (c : Option Node). cond (is_entered n i) (option_map_or supers_in c 0) 0 + rest n (i + 1)) (sym found.1)

rest-none : (n : Node) (i : ℕ) → length (out-Node n).children ≡ i → rest n i ≡ 0
rest-none n i all = ap (λ (ms : List Node). total_from (is_entered n) i (map supers_in ms)) (drop_all i (out-Node n).children (omega (arith, all)))

-- before the first child
pub supers-first : (n : Node) (all : ℕ) → all ≡ count (is_super_call n) → cut (all + rest n 0) ≡ cut (supers_in n)
supers-first n all is = ap cut (ap (λ (z : ℕ). z + rest n 0) is ∙ sym (supers-out n))

-- behind one more
pub supers-next : (n : Node) (i all more next : ℕ) → i < length (out-Node n).children → more ≡ cut (supers_within n i) → next ≡ cut (all + more)
    → cut (all + rest n i) ≡ cut (supers_in n) → cut (next + rest n (i + 1)) ≡ cut (supers_in n)
supers-next n i all more next within is then so_far =
    cut-next all next more (supers_within n i) (rest n (i + 1)) then is ∙ (ap (λ (z : ℕ). cut (all + z)) (sym (rest-next n i within)) ∙ so_far)

-- behind the last
pub supers-all : (n : Node) (i all : ℕ) → length (out-Node n).children ≡ i → cut all ≡ all → cut (all + rest n i) ≡ cut (supers_in n) → all ≡ cut (supers_in n)
supers-all n i all none fits so_far =
    let plus : all + rest n i ≡ all = omega (arith, rest-none n i none) in
    sym fits ∙ (ap cut (sym plus) ∙ so_far)

pub ruleset counting = (supers-first, supers-next, supers-all, cut-sum, one-cut)
