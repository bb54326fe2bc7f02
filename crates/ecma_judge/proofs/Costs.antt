-- The equations of literals and of what they cost.
use Rattle.std.proofs.Common.{◌≡◌, ◌∙◌, ℕ, zero, suc, ◌+◌, Bool, false, List, [], ◌∷◌, map, get_or, drop, length, min, Some, None, refl, sym, ap, slice_get, arith}
use Rattle.std.proofs.lemmas.List.{drop_all}
use Rattle.ecma_tree.proofs.Items.{drop-item}
use Rattle.ecma_tree.proofs.Layers.{from_leaves_out}
use Rattle.ecma_tree.specs.declared.node.Node.{Node, out-Node}
use Rattle.ecma_judge.specs.Literals.{cost, cost_by, cost_here, cut, is_literal_by, is_literal_here, is_literal_part, most, total}

-- ---- literals

pub literal-some : (beyond_json : Bool) (ns : List Node) (i : ℕ) (x : Node) → slice_get ns i ≡ Some x → get_or (map (is_literal_part beyond_json) ns) i false ≡ is_literal_part beyond_json x
literal-some beyond_json [] i x at = cc
literal-some beyond_json (y ∷ ys) zero x at = let same : y ≡ x = cc in ap (is_literal_part beyond_json) same
literal-some beyond_json (y ∷ ys) (suc i) x at = literal-some beyond_json ys i x at

pub literal-none : (beyond_json : Bool) (ns : List Node) (i : ℕ) → slice_get ns i ≡ None → get_or (map (is_literal_part beyond_json) ns) i false ≡ false
literal-none beyond_json [] i at = refl
literal-none beyond_json (y ∷ ys) zero at = cc
literal-none beyond_json (y ∷ ys) (suc i) at = literal-none beyond_json ys i at

pub literal-out : (beyond_json : Bool) (n : Node) → is_literal_part beyond_json n ≡ is_literal_by beyond_json (out-Node n).kind n (map (is_literal_part beyond_json) (out-Node n).children)
unfolding is_literal_part
literal-out beyond_json n = from_leaves_out Bool (is_literal_here beyond_json) n

pub ruleset literals = (literal-some, literal-none, literal-out)

-- ---- sums that are cut

-- the sum of two that are cut is the cut sum
cut-both : (m a b : ℕ) → min (min a m + min b m) m ≡ min (a + b) m
cut-both m a b = omega arith

pub cut-sum : (x y a b : ℕ) → x ≡ cut a → y ≡ cut b → cut (x + y) ≡ cut (a + b)
cut-sum x y a b is other = ap (λ (z : ℕ). cut (z + y)) is ∙ (ap (λ (z : ℕ). cut (cut a + z)) other ∙ cut-both most a b)

pub cut-left : (x y a : ℕ) → x ≡ cut a → cut (x + y) ≡ cut (a + y)
cut-left x y a is = ap (λ (z : ℕ). cut (z + y)) is ∙ cut-one most a y
  where
    cut-one : (m a b : ℕ) → min (min a m + b) m ≡ min (a + b) m
    cut-one m a b = omega arith

-- one more of a sum that is cut
pub cut-next : (all more c x rest : ℕ) → more ≡ cut (all + c) → c ≡ cut x → cut (more + rest) ≡ cut (all + (x + rest))
cut-next all more c x rest is other =
    ap (λ (z : ℕ). cut (z + rest)) (is ∙ ap (λ (z : ℕ). cut (all + z)) other) ∙ step most all x rest
  where
    step : (m a b r : ℕ) → min (min (a + min b m) m + r) m ≡ min (a + (b + r)) m
    step m a b r = omega arith

-- what is cut and stays below the bound is cut once more
pub cut-twice : (a : ℕ) → cut (cut a) ≡ cut a
cut-twice a = twice most a
  where
    twice : (m b : ℕ) → min (min b m) m ≡ min b m
    twice m b = omega arith

-- ---- costs

pub cost-some : (ns : List Node) (i : ℕ) (x : Node) → slice_get ns i ≡ Some x → get_or (map cost ns) i 0 ≡ cost x
cost-some [] i x at = cc
cost-some (y ∷ ys) zero x at = let same : y ≡ x = cc in ap cost same
cost-some (y ∷ ys) (suc i) x at = cost-some ys i x at

pub cost-none : (ns : List Node) (i : ℕ) → slice_get ns i ≡ None → get_or (map cost ns) i 0 ≡ 0
cost-none [] i at = refl
cost-none (y ∷ ys) zero at = cc
cost-none (y ∷ ys) (suc i) at = cost-none ys i at

pub cost-out : (n : Node) → cost n ≡ cost_by (out-Node n).kind n (map cost (out-Node n).children)
unfolding cost
cost-out n = from_leaves_out ℕ cost_here n

-- what the items from the one at i on cost
abbrev pub total_from : List Node → ℕ → ℕ
total_from ns i = total (map cost (drop i ns))

pub total-next : (ns : List Node) (i : ℕ) (x : Node) → slice_get ns i ≡ Some x → total_from ns i ≡ cost x + total_from ns (i + 1)
total-next ns i x at = ap (λ (ms : List Node). total (map cost ms)) (drop-item ns i x at)

pub total-none : (ns : List Node) (i : ℕ) → length ns ≡ i → total_from ns i ≡ 0
total-none ns i all = ap (λ (ms : List Node). total (map cost ms)) (drop_all i ns (omega (arith, all)))

-- with the cost of the item at i
pub total-step : (ns : List Node) (i : ℕ) (x : Node) (all c more : ℕ) → slice_get ns i ≡ Some x → c ≡ cut (cost x) → more ≡ cut (all + c)
    → cut (more + total_from ns (i + 1)) ≡ cut (all + total_from ns i)
total-step ns i x all c more at is next =
    cut-next all more c (cost x) (total_from ns (i + 1)) next is ∙ ap (λ (z : ℕ). cut (all + z)) (sym (total-next ns i x at))

pub total-end : (ns : List Node) (i all : ℕ) → length ns ≡ i → cut all ≡ all → cut (all + total_from ns i) ≡ all
total-end ns i all none fits = ap (λ (z : ℕ). cut (all + z)) (total-none ns i none) ∙ (ap cut (plus-nothing all) ∙ fits)
  where
    plus-nothing : (n : ℕ) → n + 0 ≡ n
    plus-nothing n = omega arith

pub ruleset costs = (cost-some, cost-none, cost-out, cut-sum, cut-left, total-step, total-end, cut-twice)
