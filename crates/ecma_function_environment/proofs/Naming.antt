-- Needs that get a name, one by one.
use Rattle.std.proofs.Common.{◌≡◌, ◌∙◌, ◌≤◌, ◌<◌, ◌+◌, ◌-◌, ℕ, suc, Bool, true, false, cond, List, [], ◌∷◌, ◌++◌, drop, length, Some, None, Option, refl, sym, ap, subst, slice_get, is_some, if◌then◌else◌, arith}
use Rattle.std.proofs.lemmas.Bool.{false≢true}
use Rattle.std.proofs.lemmas.List.{at_drop_all}
use Rattle.std.proofs.Math.ListN.{length-append}
use Rattle.std.specs.Map.{lookup}
use Rattle.ecma_kind.specs.Sessions.{SessionState, drawn}
use Rattle.ecma_scope.specs.Drawing.{HasGivenAtMost}
use Rattle.ecma_tree.proofs.Items.{drop-item}
use Rattle.indexmap.specs.IndexMap.{insert_entry}
use Rattle.ecma_function_parts.proofs.Given.{Counting, counting-given, counting-left, counting-next, counting-spent, counting-start, counting-stops, given-none, given-one}
use Rattle.ecma_function_environment.specs.declared.need.Need.{Need}
use Rattle.ecma_function_environment.specs.Needs.{Names, draws_for, has_name, named, same_need}

-- a new name comes behind the others
insert-next : (e : Need × ℕ) (es : Names) (n : Need) (c : ℕ) → has_name (e ∷ es) n ≡ false → (has_name es n ≡ false → insert_entry same_need es n c ≡ es ++ (n, c) ∷ [])
    → insert_entry same_need (e ∷ es) n c ≡ e ∷ es ++ (n, c) ∷ []
insert-next e es n c h rest = by (same_need n e.0) refl
  where
    is_first : Bool → Bool
    is_first z = is_some (cond z (Some e.1) (lookup (same_need n) es))

    by : (b : Bool) → same_need n e.0 ≡ b → insert_entry same_need (e ∷ es) n c ≡ e ∷ es ++ (n, c) ∷ []
    by true is = absurd (false≢true (sym h ∙ ap is_first is))
    by false is = ap (λ b. if b then (e.0, c) ∷ es else e ∷ insert_entry same_need es n c) is ∙ ap (λ z. e ∷ z) (rest (sym (ap is_first is) ∙ h))

pub insert-new : (names : Names) (n : Need) (c : ℕ) → has_name names n ≡ false → insert_entry same_need names n c ≡ names ++ (n, c) ∷ []
insert-new [] n c h = refl
insert-new (e ∷ es) n c h = insert-next e es n c h (insert-new es n c)

one-longer : (names : Names) (e : Need × ℕ) → length (names ++ e ∷ []) ≡ length names + 1
one-longer names e = length-append names (e ∷ [])

grows-next : (n : Need) (ns : List Need) (left : ℕ) (names : Names) → length names ≤ length (named ns left names)
    → length (names ++ (n, left) ∷ []) ≤ length (named ns (left - 1) (names ++ (n, left) ∷ [])) → length names ≤ length (named (n ∷ ns) left names)
grows-next n ns left names same more = by (has_name names n)
  where
    by : (b : Bool) → length names ≤ length (if b then named ns left names else named ns (left - 1) (names ++ (n, left) ∷ []))
    by true = same
    by false = let longer = one-longer names (n, left) in omega (arith, more, longer)

-- names stay
grows : (ns : List Need) (left : ℕ) (names : Names) → length names ≤ length (named ns left names)
grows [] left names = omega arith
grows (n ∷ ns) left names = grows-next n ns left names (grows ns left names) (grows ns (left - 1) (names ++ (n, left) ∷ []))

-- ---- one need

module _ (names : Names) (n : Need) (left : ℕ) where
  abbrev by_name : Bool → Names
  by_name b = if b then names else names ++ (n, left) ∷ []

  pub one-there : has_name names n ≡ true → names ≡ named (n ∷ []) left names
  one-there h = sym (ap by_name h)

  pub one-new : has_name names n ≡ false → insert_entry same_need names n left ≡ named (n ∷ []) left names
  one-new h = insert-new names n left h ∙ sym (ap by_name h)

  draws-there : has_name names n ≡ true → draws_for (n ∷ []) left names ≡ 0
  draws-there h = let same : length (named (n ∷ []) left names) ≡ length names = ap length (sym (one-there h)) in omega (arith, same)

  draws-new : has_name names n ≡ false → draws_for (n ∷ []) left names ≡ 1
  draws-new h =
      let same : length (named (n ∷ []) left names) ≡ length (names ++ (n, left) ∷ []) = ap (λ b. length (by_name b)) h in
      let longer = one-longer names (n, left) in
      omega (arith, same, longer)

  pub left-there : has_name names n ≡ true → left + draws_for (n ∷ []) left names ≡ left
  left-there h = let d = draws-there h in omega (arith, d)

  pub left-new : has_name names n ≡ false → (left ≡ 0 → ⊥) → left - 1 + draws_for (n ∷ []) left names ≡ left
  left-new h some = let d = draws-new h in omega (arith, d, some)

  pub spent-new : has_name names n ≡ false → left ≡ 0 → left < draws_for (n ∷ []) left names
  spent-new h none = let d = draws-new h in omega (arith, d, none)

pub given-there : (names : Names) (n : Need) (s : SessionState) → HasGivenAtMost (draws_for (n ∷ []) s.left names) s s
given-there names n s = given-none (draws_for (n ∷ []) s.left names) s

pub given-new : (names : Names) (n : Need) (s : SessionState) → has_name names n ≡ false → HasGivenAtMost (draws_for (n ∷ []) s.left names) s (drawn s)
given-new names n s h = subst (λ (d : ℕ). HasGivenAtMost d s (drawn s)) (sym (draws-new names n s.left h)) (given-one s)

pub ruleset naming = (one-there, one-new, left-there, left-new, spent-new, given-there, given-new)

-- ---- several

-- a need, and those behind it
named-step : (n : Need) (ns : List Need) (left : ℕ) (names : Names)
    → named (n ∷ ns) left names ≡ named ns (left - draws_for (n ∷ []) left names) (named (n ∷ []) left names)
named-step n ns left names = by (has_name names n) refl
  where
    by : (b : Bool) → has_name names n ≡ b → named (n ∷ ns) left names ≡ named ns (left - draws_for (n ∷ []) left names) (named (n ∷ []) left names)
    by true h =
        let d = draws-there names n left h in
        let from : left ≡ left - draws_for (n ∷ []) left names = omega (arith, d) in
        ap (λ b. if b then named ns left names else named ns (left - 1) (names ++ (n, left) ∷ [])) h
        ∙ ap (λ (l : ℕ). named ns l names) from ∙ ap (named ns (left - draws_for (n ∷ []) left names)) (one-there names n left h)
    by false h =
        let d = draws-new names n left h in
        let from : left - 1 ≡ left - draws_for (n ∷ []) left names = omega (arith, d) in
        ap (λ b. if b then named ns left names else named ns (left - 1) (names ++ (n, left) ∷ [])) h
        ∙ ap (λ (l : ℕ). named ns l (names ++ (n, left) ∷ [])) from
        ∙ ap (named ns (left - draws_for (n ∷ []) left names)) (sym (insert-new names n left h) ∙ one-new names n left h)

module _ (needs : List Need) (names₀ : Names) (start : SessionState) where
  abbrev pub all-draws : ℕ
  all-draws = draws_for needs start.left names₀

  -- those from the one at i on
  abbrev pub named_rest : ℕ → ℕ → Names → Names
  named_rest i left names = named (drop i needs) left names

  abbrev pub rest-draws : ℕ → ℕ → Names → ℕ
  rest-draws i left names = length (named_rest i left names) - length names

  -- the first i needs have names
  pub record Naming (now : SessionState) (names : Names) (i : ℕ) : Type 0 where
    pub names-are : named_rest i now.left names ≡ named needs start.left names₀
    pub counting : Counting all-draws (rest-draws i now.left names) start now

  pub naming-start : Naming start names₀ 0
  naming-start = record { names-are = refl; counting = counting-start all-draws start }

  module _ (now : SessionState) (names : Names) (i : ℕ) (so : Naming now names i) where
    module _ (n : Need) (at : slice_get needs i ≡ Some n) where
      abbrev part : ℕ
      part = draws_for (n ∷ []) now.left names

      rest-is : named_rest i now.left names ≡ named (drop (i + 1) needs) (now.left - part) (named (n ∷ []) now.left names)
      rest-is = ap (λ (z : List Need). named z now.left names) (drop-item needs i n at) ∙ named-step n (drop (i + 1) needs) now.left names

      within : part ≤ rest-draws i now.left names
      within =
          let same : length (named_rest i now.left names) ≡ length (named (drop (i + 1) needs) (now.left - part) (named (n ∷ []) now.left names)) = ap length rest-is in
          let more = grows (drop (i + 1) needs) (now.left - part) (named (n ∷ []) now.left names) in
          omega (arith, same, more)

      pub naming-next : (after : SessionState) (new : Names) → new ≡ named (n ∷ []) now.left names → after.left + part ≡ now.left → HasGivenAtMost part now after → Naming after new (i + 1)
      naming-next after new is drew given =
          let from : now.left - part ≡ after.left = omega (arith, drew) in
          let both : named_rest i now.left names ≡ named_rest (i + 1) after.left new =
          rest-is ∙ ap (λ (l : ℕ). named (drop (i + 1) needs) l (named (n ∷ []) now.left names)) from ∙ ap (named (drop (i + 1) needs) after.left) (sym is) in
          let lengths : length (named_rest i now.left names) ≡ length (named_rest (i + 1) after.left new) = ap length both in
          let news : length new ≡ length (named (n ∷ []) now.left names) = ap length is in
          let first = grows (n ∷ []) now.left names in
          let more = grows (drop (i + 1) needs) after.left new in
          record {
            names-are = sym both ∙ so.names-are;
            counting = counting-next all-draws (rest-draws i now.left names) start now so.counting part (rest-draws (i + 1) after.left new) after (omega (arith, lengths, news, first, more)) drew given;
          }

      pub naming-stops : (after : SessionState) → HasGivenAtMost part now after → HasGivenAtMost all-draws start after
      naming-stops after given = counting-stops all-draws (rest-draws i now.left names) start now so.counting part after within given

      pub naming-spent : now.left < part → start.left < all-draws
      naming-spent lacks = counting-spent all-draws (rest-draws i now.left names) start now so.counting part within lacks

    pub naming-given : HasGivenAtMost all-draws start now
    naming-given = counting-given all-draws (rest-draws i now.left names) start now so.counting

    all-named : length needs ≡ i → named_rest i now.left names ≡ names
    all-named all = at_drop_all (λ (z : List Need). named z now.left names) needs i (omega (arith, all))

    pub naming-all : length needs ≡ i → names ≡ named needs start.left names₀
    naming-all all = sym (all-named all) ∙ so.names-are

    pub naming-left : length needs ≡ i → now.left + all-draws ≡ start.left
    naming-left all =
        let same : length (named_rest i now.left names) ≡ length names = ap length (all-named all) in
        counting-left all-draws (rest-draws i now.left names) start now so.counting (omega (arith, same))
