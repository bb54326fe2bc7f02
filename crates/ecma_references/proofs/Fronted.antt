-- A tree whose names are being answered, child by child.
use Rattle.std.proofs.Common.{◌≡◌, ◌∙◌, ℕ, zero, suc, ◌+◌, List, [], ◌∷◌, length, Option, Some, refl, sym, ap, slice_get, set, add-one, arith}
use Rattle.ecma_kind.specs.declared.ident.Ident.{Ident}
use Rattle.ecma_tree.specs.declared.node.Node.{Node, Node-F, out-Node, roll-Node}
use Rattle.ecma_tree.specs.declared.node.Node.TheViews.{out-roll-Node, roll-out-Node}
use Rattle.ecma_references.specs.declared.seat.Seat.{Seat}
use Rattle.ecma_references.specs.Answers.{Answers, answer_of}
use Rattle.ecma_references.specs.References.{written}
use Rattle.ecma_references.specs.Seats.{seat_in}
use Rattle.ecma_references.proofs.Ones.{each_at, put, put-out}

module _ (answers : Answers) where
  -- the first i of these nodes are done
  abbrev pub front_in : (ℕ → Seat) → List Node → ℕ → List Node
  front_in seat_at nodes zero = nodes
  front_in seat_at [] (suc i) = []
  front_in seat_at (n ∷ ns) (suc i) = put answers (seat_at 0) n ∷ front_in (λ j. seat_at (suc j)) ns i

  front_in-at : (seat_at : ℕ → Seat) (nodes : List Node) (i : ℕ) (x : Node) → slice_get (front_in seat_at nodes i) i ≡ Some x → slice_get nodes i ≡ Some x
  front_in-at seat_at nodes zero x at = at
  front_in-at seat_at [] (suc i) x at = at
  front_in-at seat_at (n ∷ ns) (suc i) x at = front_in-at (λ j. seat_at (suc j)) ns i x at

  front_in-set : (seat_at : ℕ → Seat) (nodes : List Node) (i : ℕ) (x : Node) → slice_get nodes i ≡ Some x
      → set (front_in seat_at nodes i) i (put answers (seat_at i) x) ≡ front_in seat_at nodes (suc i)
  front_in-set seat_at [] zero x at = cc
  front_in-set seat_at [] (suc i) x at = cc
  front_in-set seat_at (n ∷ ns) zero x at = let same : n ≡ x = cc in ap (λ z. put answers (seat_at 0) z ∷ ns) (sym same)
  front_in-set seat_at (n ∷ ns) (suc i) x at = ap (λ zs. put answers (seat_at 0) n ∷ zs) (front_in-set (λ j. seat_at (suc j)) ns i x at)

  front_in-all : (seat_at : ℕ → Seat) (nodes : List Node) (i : ℕ) → length nodes ≡ i → front_in seat_at nodes i ≡ each_at (put answers) seat_at nodes
  front_in-all seat_at [] zero all = refl
  front_in-all seat_at [] (suc i) all = refl
  front_in-all seat_at (n ∷ ns) zero all = cc
  front_in-all seat_at (n ∷ ns) (suc i) all = ap (λ zs. put answers (seat_at 0) n ∷ zs) (front_in-all (λ j. seat_at (suc j)) ns i (omega (arith, all)))

  front_in-length : (seat_at : ℕ → Seat) (nodes : List Node) (i : ℕ) → length (front_in seat_at nodes i) ≡ length nodes
  front_in-length seat_at nodes zero = refl
  front_in-length seat_at [] (suc i) = refl
  front_in-length seat_at (n ∷ ns) (suc i) = ap suc (front_in-length (λ j. seat_at (suc j)) ns i)

  module _ (s : Seat) where
    abbrev pub front_parts : Node → ℕ → Node-F Node
    front_parts n i = record { span = (out-Node n).span; kind = (out-Node n).kind; children = front_in (λ j. seat_in s (out-Node n).kind j) (out-Node n).children i }

    -- the node with its first i children done
    abbrev pub front : Node → ℕ → Node
    front n i = roll-Node (front_parts n i)

    pub front-start : (n : Node) → n ≡ front n 0
    front-start n = sym (roll-out-Node n)

    front-out : (n m : Node) (i : ℕ) → m ≡ front n i → out-Node m ≡ front_parts n i
    front-out n m i is = ap out-Node is ∙ out-roll-Node (front_parts n i)

    -- there are as many children as before
    pub as-many : (n m : Node) (i : ℕ) → m ≡ front n i → length (out-Node m).children ≡ length (out-Node n).children
    as-many n m i is = ap (λ z. length z.children) (front-out n m i is) ∙ front_in-length (λ j. seat_in s (out-Node n).kind j) (out-Node n).children i

    -- the child at i is the old one
    pub child-was : (n m : Node) (i : ℕ) (x : Node) → m ≡ front n i → slice_get (out-Node m).children i ≡ Some x → slice_get (out-Node n).children i ≡ Some x
    child-was n m i x is at = front_in-at (λ j. seat_in s (out-Node n).kind j) (out-Node n).children i x (sym (ap (λ z. slice_get z.children i) (front-out n m i is)) ∙ at)

    -- once the child at i is done too, one child more is
    pub front-next : (n m : Node) (i : ℕ) (x y : Node) → m ≡ front n i → slice_get (out-Node m).children i ≡ Some x → y ≡ put answers (seat_in s (out-Node m).kind i) x
        → roll-Node (record { span = (out-Node m).span; kind = (out-Node m).kind; children = set (out-Node m).children i y }) ≡ front n (i + 1)
    front-next n m i x y is at done =
        let parts : out-Node m ≡ front_parts n i = front-out n m i is in
        let was : slice_get (out-Node n).children i ≡ Some x = child-was n m i x is at in
        rw (done, parts, add-one, front_in-set (λ j. seat_in s (out-Node n).kind j) (out-Node n).children i x was) refl

    -- with all children done, and then its name answered, the node is done
    pub front-all : (n m : Node) (i : ℕ) (answer : Option (Ident × Node)) → m ≡ front n i → length (out-Node n).children ≡ i
        → answer ≡ answer_of answers s (out-Node n).span (out-Node n).kind (out-Node n).children
        → written answers s answer (out-Node m).span (out-Node m).kind (out-Node m).children ≡ put answers s n
    front-all n m i answer is all answered =
        let parts : out-Node m ≡ front_parts n i = front-out n m i is in
        ap (λ z. written answers s answer z.span z.kind z.children) parts
        ∙ ap (λ z. written answers s answer (out-Node n).span (out-Node n).kind z) (front_in-all (λ j. seat_in s (out-Node n).kind j) (out-Node n).children i all)
        ∙ ap (λ z. written answers s z (out-Node n).span (out-Node n).kind (each_at (put answers) (λ j. seat_in s (out-Node n).kind j) (out-Node n).children)) answered
        ∙ sym (put-out answers s n)
