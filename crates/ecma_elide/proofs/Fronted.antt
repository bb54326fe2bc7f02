-- A node from which what goes is taken, child by child.
use Rattle.std.proofs.Common.{◌≡◌, ◌∙◌, ℕ, zero, suc, ◌+◌, false, List, [], ◌∷◌, length, Some, refl, sym, ap, slice_get, set, add-one, arith}
use Rattle.ecma_tree.specs.declared.node.Node.{Node, Node-F, out-Node, roll-Node}
use Rattle.ecma_tree.specs.declared.node.Node.TheViews.{out-roll-Node}
use Rattle.ecma_tree.specs.Nodes.{node_of}
use Rattle.ecma_scope.specs.Scopes.{is_there}
use Rattle.ecma_elide.specs.declared.seat.Seat.{Seat}
use Rattle.ecma_elide.specs.Elision.{remaining, seat_in}
use Rattle.ecma_elide.specs.Rules.{Known}
use Rattle.ecma_elide.proofs.Equations.{each, node_goes, result, seats, usual}

module _ (known : Known) where
  -- the first i of these nodes are done
  abbrev pub front_in : (ℕ → Seat) → List Node → ℕ → List Node
  front_in seat_of nodes zero = nodes
  front_in seat_of [] (suc i) = []
  front_in seat_of (n ∷ ns) (suc i) = result known (seat_of 0) n ∷ front_in (λ j. seat_of (suc j)) ns i

  front_in-at : (seat_of : ℕ → Seat) (nodes : List Node) (i : ℕ) (x : Node) → slice_get (front_in seat_of nodes i) i ≡ Some x → slice_get nodes i ≡ Some x
  front_in-at seat_of nodes zero x at = at
  front_in-at seat_of [] (suc i) x at = at
  front_in-at seat_of (n ∷ ns) (suc i) x at = front_in-at (λ j. seat_of (suc j)) ns i x at

  front_in-set : (seat_of : ℕ → Seat) (nodes : List Node) (i : ℕ) (x : Node) → slice_get nodes i ≡ Some x
      → set (front_in seat_of nodes i) i (result known (seat_of i) x) ≡ front_in seat_of nodes (suc i)
  front_in-set seat_of [] zero x at = cc
  front_in-set seat_of [] (suc i) x at = cc
  front_in-set seat_of (n ∷ ns) zero x at = let same : n ≡ x = cc in ap (λ z. result known (seat_of 0) z ∷ ns) (sym same)
  front_in-set seat_of (n ∷ ns) (suc i) x at = ap (λ zs. result known (seat_of 0) n ∷ zs) (front_in-set (λ j. seat_of (suc j)) ns i x at)

  front_in-all : (seat_of : ℕ → Seat) (nodes : List Node) (i : ℕ) → length nodes ≡ i → front_in seat_of nodes i ≡ each known seat_of nodes
  front_in-all seat_of [] zero all = refl
  front_in-all seat_of [] (suc i) all = refl
  front_in-all seat_of (n ∷ ns) zero all = cc
  front_in-all seat_of (n ∷ ns) (suc i) all = ap (λ zs. result known (seat_of 0) n ∷ zs) (front_in-all (λ j. seat_of (suc j)) ns i (omega (arith, all)))

  front_in-length : (seat_of : ℕ → Seat) (nodes : List Node) (i : ℕ) → length (front_in seat_of nodes i) ≡ length nodes
  front_in-length seat_of nodes zero = refl
  front_in-length seat_of [] (suc i) = refl
  front_in-length seat_of (n ∷ ns) (suc i) = ap suc (front_in-length (λ j. seat_of (suc j)) ns i)

  module _ (s : Seat) where
    -- the children that stay
    abbrev pub left : Node → List Node
    left n = remaining known s (out-Node n).kind (out-Node n).children

    abbrev pub seats_of : Node → ℕ → Seat
    seats_of n = seats known s (out-Node n).kind (is_there (out-Node n).children 1)

    abbrev pub front_parts : Node → ℕ → Node-F Node
    front_parts n i = record { span = (out-Node n).span; kind = (out-Node n).kind; children = front_in (seats_of n) (left n) i }

    -- the node of whose children that stay the first i are done
    abbrev pub front : Node → ℕ → Node
    front n i = roll-Node (front_parts n i)

    front-out : (n m : Node) (i : ℕ) → m ≡ front n i → out-Node m ≡ front_parts n i
    front-out n m i is = ap out-Node is ∙ out-roll-Node (front_parts n i)

    -- there are as many children as stay
    pub front-count : (n m : Node) (i : ℕ) → m ≡ front n i → length (out-Node m).children ≡ length (left n)
    front-count n m i is = ap (λ z. length z.children) (front-out n m i is) ∙ front_in-length (seats_of n) (left n) i

    -- the child at i is one that stays
    pub front-child : (n m : Node) (i : ℕ) (x : Node) → m ≡ front n i → slice_get (out-Node m).children i ≡ Some x → slice_get (left n) i ≡ Some x
    front-child n m i x is at = front_in-at (seats_of n) (left n) i x (sym (ap (λ z. slice_get z.children i) (front-out n m i is)) ∙ at)

    -- once the child at i is done too, one child more is
    pub set-front : (n m : Node) (i : ℕ) (x y : Node) → m ≡ front n i → slice_get (out-Node m).children i ≡ Some x
        → y ≡ result known (seat_in s (out-Node m).kind (is_there (out-Node n).children 1) i) x
        → roll-Node (record { span = (out-Node m).span; kind = (out-Node m).kind; children = set (out-Node m).children i y }) ≡ front n (i + 1)
    set-front n m i x y is at done =
        let parts : out-Node m ≡ front_parts n i = front-out n m i is in
        let was : slice_get (left n) i ≡ Some x = front-child n m i x is at in
        rw (done, parts, add-one, front_in-set (seats_of n) (left n) i x was) refl

    -- where all are done, the node is what it becomes
    pub front-all : (n m : Node) (i : ℕ) → node_goes known s n ≡ false → m ≡ front n i → length (left n) ≡ i → m ≡ result known s n
    front-all n m i stays is all =
        is ∙ ap (node_of (out-Node n).span (out-Node n).kind) (front_in-all (seats_of n) (left n) i all) ∙ sym (usual known s n stays)
