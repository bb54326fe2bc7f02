-- A tree whose assignments are being written, child by child.
use Rattle.std.proofs.Common.{◌≡◌, ◌∙◌, ℕ, zero, suc, ◌+◌, Bool, false, List, [], ◌∷◌, length, Some, refl, sym, ap, slice_get, set, add-one, arith}
use Rattle.ecma_tree.specs.declared.node.Node.{Node, Node-F, out-Node, roll-Node}
use Rattle.ecma_tree.specs.declared.node.Node.TheViews.{out-roll-Node}
use Rattle.ecma_lower.specs.declared.names.Names.{Names}
use Rattle.ecma_lower.specs.declared.seat.Seat.{Seat}
use Rattle.ecma_lower.specs.Assignments.{requires_by}
use Rattle.ecma_lower.specs.Seats.{is_raw, seat_in}
use Rattle.ecma_lower.specs.Writing.{written}
use Rattle.ecma_lower.proofs.Singles.{each_at, write, write-out}

module _ (names : Names) where
  -- the first i of these nodes are written
  abbrev pub front_in : (ℕ → Seat) → List Node → ℕ → List Node
  front_in seat_of nodes zero = nodes
  front_in seat_of [] (suc i) = []
  front_in seat_of (n ∷ ns) (suc i) = write names (seat_of 0) n ∷ front_in (λ j. seat_of (suc j)) ns i

  front_in-at : (seat_of : ℕ → Seat) (nodes : List Node) (i : ℕ) (x : Node) → slice_get (front_in seat_of nodes i) i ≡ Some x → slice_get nodes i ≡ Some x
  front_in-at seat_of nodes zero x at = at
  front_in-at seat_of [] (suc i) x at = at
  front_in-at seat_of (n ∷ ns) (suc i) x at = front_in-at (λ j. seat_of (suc j)) ns i x at

  front_in-set : (seat_of : ℕ → Seat) (nodes : List Node) (i : ℕ) (x : Node) → slice_get nodes i ≡ Some x
      → set (front_in seat_of nodes i) i (write names (seat_of i) x) ≡ front_in seat_of nodes (suc i)
  front_in-set seat_of [] zero x at = cc
  front_in-set seat_of [] (suc i) x at = cc
  front_in-set seat_of (n ∷ ns) zero x at = let same : n ≡ x = cc in ap (λ z. write names (seat_of 0) z ∷ ns) (sym same)
  front_in-set seat_of (n ∷ ns) (suc i) x at = ap (λ zs. write names (seat_of 0) n ∷ zs) (front_in-set (λ j. seat_of (suc j)) ns i x at)

  front_in-all : (seat_of : ℕ → Seat) (nodes : List Node) (i : ℕ) → length nodes ≡ i → front_in seat_of nodes i ≡ each_at (write names) seat_of nodes
  front_in-all seat_of [] zero all = refl
  front_in-all seat_of [] (suc i) all = refl
  front_in-all seat_of (n ∷ ns) zero all = cc
  front_in-all seat_of (n ∷ ns) (suc i) all = ap (λ zs. write names (seat_of 0) n ∷ zs) (front_in-all (λ j. seat_of (suc j)) ns i (omega (arith, all)))

  front_in-length : (seat_of : ℕ → Seat) (nodes : List Node) (i : ℕ) → length (front_in seat_of nodes i) ≡ length nodes
  front_in-length seat_of nodes zero = refl
  front_in-length seat_of [] (suc i) = refl
  front_in-length seat_of (n ∷ ns) (suc i) = ap suc (front_in-length (λ j. seat_of (suc j)) ns i)

  module _ (s : Seat) where
    abbrev pub front_parts : Node → ℕ → Node-F Node
    front_parts n i = record { span = (out-Node n).span; kind = (out-Node n).kind; children = front_in (λ j. seat_in s (out-Node n).kind j) (out-Node n).children i }

    -- the node with its first i children written
    abbrev pub front_written : Node → ℕ → Node
    front_written n i = roll-Node (front_parts n i)

    front-out : (n m : Node) (i : ℕ) → m ≡ front_written n i → out-Node m ≡ front_parts n i
    front-out n m i is = ap out-Node is ∙ out-roll-Node (front_parts n i)

    -- there are as many children as before
    pub written-count : (n m : Node) (i : ℕ) → m ≡ front_written n i → length (out-Node m).children ≡ length (out-Node n).children
    written-count n m i is = ap (λ z. length z.children) (front-out n m i is) ∙ front_in-length (λ j. seat_in s (out-Node n).kind j) (out-Node n).children i

    -- the child at i is the old one
    pub written-at : (n m : Node) (i : ℕ) (x : Node) → m ≡ front_written n i → slice_get (out-Node m).children i ≡ Some x → slice_get (out-Node n).children i ≡ Some x
    written-at n m i x is at = front_in-at (λ j. seat_in s (out-Node n).kind j) (out-Node n).children i x (sym (ap (λ z. slice_get z.children i) (front-out n m i is)) ∙ at)

    -- once the child at i is written too, one child more is
    pub set-written : (n m : Node) (i : ℕ) (x y : Node) → m ≡ front_written n i → slice_get (out-Node m).children i ≡ Some x → y ≡ write names (seat_in s (out-Node m).kind i) x
        → roll-Node (record { span = (out-Node m).span; kind = (out-Node m).kind; children = set (out-Node m).children i y }) ≡ front_written n (i + 1)
    set-written n m i x y is at done =
        let parts : out-Node m ≡ front_parts n i = front-out n m i is in
        let was : slice_get (out-Node n).children i ≡ Some x = written-at n m i x is at in
        rw (done, parts, add-one, front_in-set (λ j. seat_in s (out-Node n).kind j) (out-Node n).children i x was) refl

    -- with all children written and then the node, it is written
    pub write-all : (n m : Node) (i : ℕ) (q : Bool) → is_raw s ≡ false → m ≡ front_written n i → length (out-Node n).children ≡ i → q ≡ requires_by (out-Node n).children
        → written names s q (out-Node m).span (out-Node m).kind (out-Node m).children ≡ write names s n
    write-all n m i q raw is all required =
        let parts : out-Node m ≡ front_parts n i = front-out n m i is in
        ap (λ z. written names s q z.span z.kind z.children) parts
        ∙ ap (λ z. written names s q (out-Node n).span (out-Node n).kind z) (front_in-all (λ j. seat_in s (out-Node n).kind j) (out-Node n).children i all)
        ∙ ap (λ z. written names s z (out-Node n).span (out-Node n).kind (each_at (write names) (λ j. seat_in s (out-Node n).kind j) (out-Node n).children)) required
        ∙ sym (write-out names s n raw)
