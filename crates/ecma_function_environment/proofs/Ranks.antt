-- Names by their ranks.
use Rattle.std.proofs.Common.{◌≡◌, ◌∙◌, ℕ, zero, suc, ◌+◌, ◌==◌, List, [], ◌∷◌, ◌++◌, drop, length, refl, sym, ap, add-one, append_assoc, slice_get, arith}
use Rattle.std.specs.List.{filter}
use Rattle.std.proofs.lemmas.List.{append-nil, at_drop_all}
use Rattle.std.proofs.lemmas.List.Elements.{filter-append}
use Rattle.ecma_function_environment.specs.declared.need.Need.{Need}
use Rattle.ecma_function_environment.specs.Declaring.{entry_at, of_rank, of_ranks, rank_of}
use Rattle.ecma_function_environment.specs.Needs.{Names}

pub ranks-start : (names : Names) → of_ranks 0 names ≡ []
unfolding of_ranks
ranks-start names = refl

pub ranks-next : (rank : ℕ) (names all more : Names) → all ≡ of_ranks rank names → more ≡ all ++ of_rank rank names → more ≡ of_ranks (rank + 1) names
unfolding of_ranks
ranks-next rank names all more so is = rw add-one (is ∙ ap (λ z. z ++ of_rank rank names) so)

module _ (rank : ℕ) where
  -- the one at i, and those behind it
  rank-split : (names : Names) (i : ℕ) → of_rank rank (drop i names) ≡ of_rank rank (entry_at (slice_get names i)) ++ of_rank rank (drop (suc i) names)
  rank-split [] zero = refl
  rank-split [] (suc i) = refl
  rank-split (e ∷ es) zero = filter-append (λ (x : Need × ℕ). rank_of x.0 == rank) (e ∷ []) es
  rank-split (e ∷ es) (suc i) = rank-split es i

module _ (rank : ℕ) (names : Names) where
  -- those of the rank, from the one at i on
  abbrev pub rank_rest : ℕ → Names
  rank_rest i = of_rank rank (drop i names)

  -- one name more
  pub rank-next : (whole now more : Names) (i : ℕ) → more ≡ now ++ of_rank rank (entry_at (slice_get names i)) → now ++ rank_rest i ≡ whole → more ++ rank_rest (i + 1) ≡ whole
  rank-next whole now more i adds so =
      let split : rank_rest i ≡ of_rank rank (entry_at (slice_get names i)) ++ rank_rest (i + 1) = rw add-one (rank-split rank names i) in
      ap (λ z. z ++ rank_rest (i + 1)) adds ∙ append_assoc now (of_rank rank (entry_at (slice_get names i))) (rank_rest (i + 1)) ∙ ap (λ z. now ++ z) (sym split) ∙ so

  pub rank-all : (whole now : Names) (i : ℕ) → length names ≡ i → now ++ rank_rest i ≡ whole → now ≡ whole
  rank-all whole now i all so = sym (append-nil now) ∙ ap (λ z. now ++ z) (sym (at_drop_all (λ (z : Names). of_rank rank z) names i (omega (arith, all)))) ∙ so

pub ruleset ranking = (ranks-start, ranks-next, rank-next, rank-all)
