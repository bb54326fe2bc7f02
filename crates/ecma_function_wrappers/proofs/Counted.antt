-- Stand-ins of parameters, one by one.
use Rattle.std.proofs.Common.{◌≡◌, ◌∙◌, ◌≤◌, ◌<◌, ◌+◌, ◌-◌, ℕ, Bool, true, false, List, [], ◌∷◌, ◌++◌, cond, drop, get_or, length, Some, refl, sym, ap, slice_get, append_assoc, arith}
use Rattle.std.specs.List.{count_by}
use Rattle.std.proofs.lemmas.List.{append-nil, at_drop_all}
use Rattle.std.proofs.lemmas.List.Sums.{sum_by-cons}
use Rattle.std.proofs.lemmas.Option.{slice_get-get_or}
use Rattle.ecma_kind.specs.Sessions.{SessionState}
use Rattle.ecma_scope.specs.Drawing.{HasGivenAtMost}
use Rattle.ecma_tree.proofs.Items.{drop-item}
use Rattle.ecma_tree.specs.declared.node.Node.{Node}
use Rattle.ecma_function_parts.proofs.Given.{Counting, counting-given, counting-left, counting-next, counting-spent, counting-start, counting-stops}
use Rattle.ecma_function_parts.specs.Drawing.{count}
use Rattle.ecma_function_wrappers.specs.Counting.{has_parts, stand_in, stand_ins}

abbrev pub patterns_in : List Node → ℕ
patterns_in ps = count_by has_parts ps

as-count : (b : Bool) → cond b 1 0 ≡ count b
as-count true = refl
as-count false = refl

pub patterns-cons : (p : Node) (ps : List Node) → patterns_in (p ∷ ps) ≡ count (has_parts p) + patterns_in ps
patterns-cons p ps = sum_by-cons (λ x. cond (has_parts x) 1 0) p ps ∙ ap (λ (n : ℕ). n + patterns_in ps) (as-count (has_parts p))

-- the parameter at an index, as an item
pub item-at : (ps : List Node) (i : ℕ) (p : Node) → i < length ps → p ≡ get_or ps i p → slice_get ps i ≡ Some p
item-at ps i p within is = slice_get-get_or ps i p within ∙ ap Some (sym is)

module _ (ps : List Node) (start : SessionState) where
  -- the stand-ins from the one at i on
  abbrev pub rest_from : ℕ → ℕ → List Node
  rest_from i left = stand_ins (drop i ps) left

  -- the first i parameters have stand-ins
  pub record Standing (now : SessionState) (all : List Node) (i : ℕ) : Type 0 where
    pub all-are : all ++ rest_from i now.left ≡ stand_ins ps start.left
    pub counting : Counting (patterns_in ps) (patterns_in (drop i ps)) start now

  pub standing-start : Standing start [] 0
  standing-start = record { all-are = refl; counting = counting-start (patterns_in ps) start }

  module _ (now : SessionState) (all : List Node) (i : ℕ) (so : Standing now all i) where
    module _ (p : Node) (at : slice_get ps i ≡ Some p) where
      parts : patterns_in (drop i ps) ≡ count (has_parts p) + patterns_in (drop (i + 1) ps)
      parts = ap (λ (z : List Node). patterns_in z) (drop-item ps i p at) ∙ patterns-cons p (drop (i + 1) ps)

      within : count (has_parts p) ≤ patterns_in (drop i ps)
      within = let q = parts in omega (arith, q)

      pub standing-next : (after : SessionState) (n : Node) → n ≡ stand_in p now.left → after.left + count (has_parts p) ≡ now.left
          → HasGivenAtMost (count (has_parts p)) now after → Standing after (all ++ n ∷ []) (i + 1)
      standing-next after n is drew given =
          let left-is : now.left - count (has_parts p) ≡ after.left = omega (arith, drew) in
          let both : rest_from i now.left ≡ n ∷ rest_from (i + 1) after.left =
          ap (λ (z : List Node). stand_ins z now.left) (drop-item ps i p at)
          ∙ ap (λ (z : Node). z ∷ rest_from (i + 1) (now.left - count (has_parts p))) (sym is)
          ∙ ap (λ (l : ℕ). n ∷ rest_from (i + 1) l) left-is in
          record {
            all-are = append_assoc all (n ∷ []) (rest_from (i + 1) after.left) ∙ ap (λ z. all ++ z) (sym both) ∙ so.all-are;
            counting = counting-next (patterns_in ps) (patterns_in (drop i ps)) start now so.counting (count (has_parts p)) (patterns_in (drop (i + 1) ps)) after parts drew given;
          }

      -- also where a parameter is half done
      pub standing-stops : (after : SessionState) → HasGivenAtMost (count (has_parts p)) now after → HasGivenAtMost (patterns_in ps) start after
      standing-stops after given = counting-stops (patterns_in ps) (patterns_in (drop i ps)) start now so.counting (count (has_parts p)) after within given

      pub standing-spent : now.left < count (has_parts p) → start.left < patterns_in ps
      standing-spent lacks = counting-spent (patterns_in ps) (patterns_in (drop i ps)) start now so.counting (count (has_parts p)) within lacks

    pub standing-given : HasGivenAtMost (patterns_in ps) start now
    standing-given = counting-given (patterns_in ps) (patterns_in (drop i ps)) start now so.counting

    none : length ps ≡ i → drop i ps ≡ []
    none all-of = at_drop_all (λ (z : List Node). z) ps i (omega (arith, all-of))

    pub standing-all : length ps ≡ i → all ≡ stand_ins ps start.left
    standing-all all-of = sym (append-nil all) ∙ ap (λ (z : List Node). all ++ stand_ins z now.left) (sym (none all-of)) ∙ so.all-are

    pub standing-left : length ps ≡ i → now.left + patterns_in ps ≡ start.left
    standing-left all-of = counting-left (patterns_in ps) (patterns_in (drop i ps)) start now so.counting (ap (λ (z : List Node). patterns_in z) (none all-of))
