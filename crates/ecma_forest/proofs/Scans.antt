-- A walk along the array: what is made of the trees in front of a slot gives what is made of the slot's.
use Rattle.std.proofs.Common.{◌≡◌, ◌≤◌, ◌<◌, ◌+◌, refl, sym, ap, ◌∙◌, ℕ, List, [], ◌∷◌, ◌++◌, take, drop, map, length, Some, slice_get, get_or, arith}
use Rattle.std.proofs.lemmas.List.{take-map, drop-map, map-append, length-map, length-drop, take-append-drop, take-append-le, drop-append-le, length-take-le, take_all}
use Rattle.std.proofs.lemmas.Option.{slice_get_read}
use Rattle.ecma_kind.specs.declared.span.Span.{Span}
use Rattle.ecma_kind.specs.declared.kind.Kind.{Kind}
use Rattle.ecma_tree.specs.declared.node.Node.{Node, fold-roll-Node}
use Rattle.ecma_tree.proofs.Items.{take-item}
use Rattle.ecma_forest.specs.Scanning.{scanned, scanned_here}
use Rattle.ecma_forest.specs.Slots.{kind_at, tree_of, grown, IsGrounded, AreRooted}
use Rattle.ecma_forest.specs.declared.forest.Slot.{Slot}
use Rattle.ecma_forest.proofs.Growing.{length-grown}
use Rattle.ecma_forest.proofs.Reading.{grown-at}

part-same : {X : Type 0} (xs ys : List X) (first count : ℕ) → first + count ≤ length xs → take count (drop first (xs ++ ys)) ≡ take count (drop first xs)
part-same xs ys first count h =
    let within : first ≤ length xs = omega (arith, h) in
    let room : count ≤ length (drop first xs) = omega (arith, h, length-drop first xs) in
    ap (take count) (drop-append-le first xs ys within) ∙ take-append-le count (drop first xs) ys room

module _ {A : Type 0} (step : Span → Kind → List A → A) (kinds : List Kind) (below roots : List Slot) (h : AreRooted kinds below roots) (i : ℕ) (within : i < length below) (s : Slot) (is_there : s ≡ get_or below i s) where
  there : slice_get below i ≡ Some s
  there = slice_get_read below (length below) i s refl within is_there

  low : IsGrounded (length kinds) (0 + i) s
  low = h.inner.grounded i s there

  pub scan-kind : s.kind < length kinds
  scan-kind = low.known

  abbrev front : List Node
  front = take i (grown kinds below)

  length-front : length front ≡ i
  length-front = length-take-le i (grown kinds below) (omega (arith, within, length-grown kinds below))

  part : take s.count (drop s.first (grown kinds below)) ≡ take s.count (drop s.first front)
  part =
      ap (λ ts. take s.count (drop s.first ts)) (sym (take-append-drop i (grown kinds below)))
      ∙ part-same front (drop i (grown kinds below)) s.first s.count (omega (arith, low.front, length-front))

  module _ (known : List A) (is : known ≡ map (scanned step) front) where
    pub scan-front : s.first + s.count ≤ length known
    scan-front = omega (arith, low.front, ap length is, length-map front (scanned step), length-front)

    children : take s.count (drop s.first known) ≡ map (scanned step) (take s.count (drop s.first (grown kinds below)))
    children =
        ap (λ bs. take s.count (drop s.first bs)) is
        ∙ ap (take s.count) (drop-map (scanned step) s.first front)
        ∙ take-map (scanned step) s.count (drop s.first front)
        ∙ ap (map (scanned step)) (sym part)

    says : step s.span (kind_at kinds s.kind) (take s.count (drop s.first known)) ≡ scanned step (tree_of kinds (grown kinds below) s)
    says =
        ap (step s.span (kind_at kinds s.kind)) children
        ∙ sym (fold-roll-Node A (scanned_here step) (record { span = s.span; kind = kind_at kinds s.kind; children = take s.count (drop s.first (grown kinds below)) }))

    pub scan-next : known ++ step s.span (kind_at kinds s.kind) (take s.count (drop s.first known)) ∷ [] ≡ map (scanned step) (take (i + 1) (grown kinds below))
    scan-next =
        ap (λ b. known ++ b ∷ []) says
        ∙ ap (λ bs. bs ++ scanned step (tree_of kinds (grown kinds below) s) ∷ []) is
        ∙ sym (map-append (scanned step) front (tree_of kinds (grown kinds below) s ∷ []))
        ∙ ap (map (scanned step)) (sym (take-item (grown kinds below) i (tree_of kinds (grown kinds below) s) (grown-at kinds (length kinds) below i s there low)))

pub scan-all : {A : Type 0} (step : Span → Kind → List A → A) (kinds : List Kind) (below : List Slot) (i : ℕ) → length below ≤ i → map (scanned step) (take i (grown kinds below)) ≡ map (scanned step) (grown kinds below)
scan-all step kinds below i all = ap (map (scanned step)) (take_all i (grown kinds below) (omega (arith, all, length-grown kinds below)))
