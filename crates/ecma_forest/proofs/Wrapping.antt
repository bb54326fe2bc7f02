-- What a wrap needs once a kind has its number: the kinds before are there still.
use Rattle.std.proofs.Common.{◌≡◌, ◌∙◌, ◌++◌, ◌∷◌, [], ap, sym, ℕ, List, drop, length, take, Some, slice_get, OnErr, Result, Ok, Err}
use Rattle.std.proofs.lemmas.Option.{slice_get_within, slice_get-get_or}
use Rattle.ecma_kind.specs.declared.span.Span.{Span}
use Rattle.ecma_kind.specs.declared.kind.Kind.{Kind}
use Rattle.ecma_kind.specs.declared.kind.Kind.TheVariants.{Absent}
use Rattle.ecma_forest.specs.Slots.{Extends, grown, kind_at, slot_over, trees_over, AreRooted}
use Rattle.ecma_forest.specs.Summaries.{kind_summary}
use Rattle.ecma_forest.specs.Trees.{Trees, wrapped}
use Rattle.ecma_forest.specs.declared.forest.Slot.{Slot}
use Rattle.ecma_forest.specs.declared.summary.Summary.{Summary}
use Rattle.ecma_forest.proofs.Growing.{grown-more_kinds, rooted-kinds, trees_over-kinds, wrapped-below, wrapped-rooted, wrapped-trees}
use Rattle.ecma_forest.proofs.Places.{seen}

pub kind-there : (kinds : List Kind) (k : Kind) (number : ℕ) → slice_get kinds number ≡ Some k → kind_at kinds number ≡ k
kind-there kinds k number at = let p = slice_get-get_or kinds number Absent (slice_get_within kinds number k at) in cc

pub on_err : {A E : Type 0} (r : Result A E) (P : Type 0) → P → OnErr r P
on_err (Ok a) P p = tt
on_err (Err e) P p = p

module _ (kinds : List Kind) (below roots : List Slot) (now : Trees) (is : seen kinds below roots ≡ now) (h : AreRooted kinds below roots)
    (kinds' : List Kind) (more : Extends kinds kinds') where
  pub longer : AreRooted kinds' below roots
  longer = rw more.1 (rooted-kinds kinds more.0 below roots h)

  pub longer-trees : seen kinds' below roots ≡ now
  longer-trees =
      let a = grown-more_kinds kinds more.0 below roots h in
      let b = trees_over-kinds kinds more.0 below roots h in
      rw more.1 (ap (λ ts. record { below = ts; roots = trees_over (kinds ++ more.0) below roots }) a ∙ ap (λ ts. record { below = grown kinds below; roots = ts }) b ∙ is)

  -- the roots from start on, and one over them of a kind that has a number
  module _ (span : Span) (kind : Kind) (number : ℕ) (at : slice_get kinds' number ≡ Some kind) (own : Summary) (says : own ≡ kind_summary kind) (start : ℕ) where
    abbrev low : List Slot
    low = below ++ drop start roots

    abbrev high : List Slot
    high = take start roots ++ slot_over span number own (length below) (drop start roots) ∷ []

    is-kind : kind_at kinds' number ≡ kind
    is-kind = kind-there kinds' kind number at

    pub over-rooted : AreRooted kinds' low high
    over-rooted = wrapped-rooted kinds' below roots span number own start longer (slice_get_within kinds' number kind at) (says ∙ ap kind_summary (sym is-kind))

    pub over-below : grown kinds' low ≡ now.below ++ drop start now.roots
    over-below = wrapped-below kinds' below roots start longer ∙ ap (λ t. t.below ++ drop start t.roots) longer-trees

    pub over-roots : trees_over kinds' low high ≡ wrapped span kind start now.roots
    over-roots =
        wrapped-trees kinds' below roots span number own start longer
        ∙ ap (λ t. wrapped span (kind_at kinds' number) start t.roots) longer-trees
        ∙ ap (λ k. wrapped span k start now.roots) is-kind
