-- Seats as code hands them down, and what a rewriting by them owes so that one walk does it.
use Rattle.std.specs.Prelude.{◌≡◌, ℕ, Bool, true, false, cond, List, [], ◌∷◌, Option, Some, None}
use Rattle.ecma_kind.specs.declared.kind.Kind.{Kind}
use Rattle.ecma_kind.specs.declared.span.Span.{Span}
use Rattle.ecma_tree.specs.Nodes.{node_of}
use Rattle.ecma_tree.specs.declared.node.Node.{Node}
use Rattle.ecma_rewriting.specs.Rewriting.{Rewriting, becomes}

-- where a node stands: its place, and what is around it
pub record Seat (P A : Type 0) : Type 0 where
  pub place : P
  pub around : A

abbrev pub seat : {P A : Type 0} → P → A → Seat P A
seat p around = record { place = p; around = around }

-- what is around, unless it is something else
abbrev pub around_or : {A : Type 0} → A → Option A → A
around_or around (Some other) = other
around_or around None = around

-- what an item of a list becomes
abbrev pub item_becomes : {S : Type 0} → Rewriting S → S → Node → List Node
item_becomes r s n = cond (r.keeps n) (becomes r s n) (r.unkept s n)

-- the seat behind an item of a list
abbrev pub seat_behind : {S : Type 0} → Rewriting S → S → Node → S
seat_behind r s n = cond (r.keeps n) (r.next s n) s

module _ {P A : Type 0} (r : Rewriting (Seat P A)) where
  -- in a list at such a place the seats of all items are one
  abbrev pub StandsStill : (P → Bool) → Type 0
  StandsStill moves = (p : P) (around : A) (n : Node) → moves p ≡ false → r.next (seat p around) n ≡ seat p around

  -- at any other place what an item brings is around those behind it too
  abbrev pub Moves : {B : Type 0} → (P → Bool) → (P → Node → B) → (A → B → A) → Type 0
  Moves moves brings with_brought =
      (p : P) (around : A) (n : Node) → moves p ≡ true → r.next (seat p around) n ≡ seat p (with_brought around (brings p n))

  module _ {F : Type 0} (form : Seat P A → Span → Kind → List Node → Option F) where
    -- a node of no form stays as it is
    abbrev pub Leaves : Type 0
    Leaves = (s : Seat P A) (span : Span) (k : Kind) (cs : List Node) (lists : List (List Node)) → form s span k cs ≡ None →
        r.here s span k cs lists ≡ node_of span k cs ∷ []

    -- any other is written by its form, which is told of it as it stood
    abbrev pub Writes : (F → Seat P A → Span → Kind → List (List Node) → List Node) → Type 0
    Writes written = (s : Seat P A) (span : Span) (k : Kind) (cs : List Node) (lists : List (List Node)) (f : F) → form s span k cs ≡ Some f →
        r.here s span k cs lists ≡ written f s span k lists

    -- its children stand where its form says
    abbrev pub Seats : (F → P → Kind → ℕ → P) → (Seat P A → Kind → List Node → Option A) → Type 0
    Seats place inside = (s : Seat P A) (span : Span) (k : Kind) (cs : List Node) (i : ℕ) (f : F) → form s span k cs ≡ Some f →
        r.seat s k cs i ≡ seat (place f s.place k i) (around_or s.around (inside s k cs))
