-- The equations of the finding that stands first, one by one.
use Rattle.std.proofs.Common.{◌≡◌, ◌∙◌, ◌≤◌, ℕ, zero, suc, ◌+◌, List, [], ◌∷◌, drop, length, Some, refl, sym, ap, slice_get}
use Rattle.std.proofs.lemmas.List.{drop_all}
use Rattle.ecma_tree.proofs.Items.{drop-item}
use Rattle.ecma_merging.specs.declared.finding.Finding.{Finding}
use Rattle.ecma_merging.specs.Merging.{soonest, soonest_from, sooner}

-- those from the one at i on are still to be asked
abbrev pub soonest_so_far : List Finding → ℕ → Finding → Finding
soonest_so_far fs i first = soonest_from first (drop i fs)

pub soonest-first : (fs : List Finding) (f : Finding) → slice_get fs 0 ≡ Some f → soonest fs ≡ Some (soonest_so_far fs 1 f)
soonest-first [] f at = cc
soonest-first (g ∷ gs) f at = let same : g ≡ f = cc in ap (λ (z : Finding). Some (soonest_from z gs)) same

pub soonest-next : (fs : List Finding) (i : ℕ) (f g : Finding) → slice_get fs i ≡ Some g → soonest_so_far fs i f ≡ soonest_so_far fs (i + 1) (sooner f g)
soonest-next fs i f g at = ap (soonest_from f) (drop-item fs i g at)

pub soonest-all : (fs : List Finding) (i : ℕ) (f : Finding) → length fs ≤ i → soonest_so_far fs i f ≡ f
soonest-all fs i f all = ap (soonest_from f) (drop_all i fs all)
