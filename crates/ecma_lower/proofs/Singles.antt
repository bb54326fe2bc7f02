-- One node is written for one.
use Rattle.std.proofs.Common.{◌≡◌, ◌∙◌, ℕ, suc, Bool, true, false, cond, refl, sym, ap, ap₂, subst, List, [], ◌∷◌, ◌++◌, map}
use Rattle.ecma_kind.specs.Sorts.{is_type_wrapper}
use Rattle.ecma_kind.specs.declared.kind.Kind.{Kind}
use Rattle.ecma_kind.specs.declared.kind.Kind.TheVariants as kind
use Rattle.ecma_kind.specs.declared.span.Span.{Span}
use Rattle.ecma_tree.specs.Nodes.{node_of}
use Rattle.ecma_tree.specs.declared.node.Node.{Node, Node-F, ind-Node, out-Node, roll-Node}
use Rattle.ecma_rewriting.specs.Laws.{children, items, layer}
use Rattle.ecma_rewriting.specs.Rewriting.{Rewriting, become, becomes, only}
use Rattle.ecma_rewriting.proofs.Equations.{becomes-out, becomes-roll}
use Rattle.ecma_lower.specs.declared.names.Names.{Names}
use Rattle.ecma_lower.specs.declared.seat.Seat.{Seat}
use Rattle.ecma_lower.specs.declared.seat.Seat.TheVariants as seat
use Rattle.ecma_lower.specs.Assignments.{requires_by}
use Rattle.ecma_lower.specs.Seats.{is_raw, seat_in}
use Rattle.ecma_lower.specs.Writing.{assigning, done, wrapped, written}

no : {X : Type 0} → false ≡ true → X
no h = cc

-- children, each in its seat
abbrev pub each_at : (Seat → Node → Node) → (ℕ → Seat) → List Node → List Node
each_at to seat_of [] = []
each_at to seat_of (n ∷ ns) = to (seat_of 0) n ∷ each_at to (λ j. seat_of (suc j)) ns

-- at a type round an expression and at a list nothing else is written
item-wrapper : (names : Names) (q : Bool) (span : Span) (k : Kind) (cs : List Node) → is_type_wrapper k ≡ true → written names seat.Item q span k cs ≡ node_of span k cs
unfolding written
item-wrapper names q span kind.TsTypeAssertion cs w = refl
item-wrapper names q span kind.TsConstAssertion cs w = refl
item-wrapper names q span kind.TsNonNullExpr cs w = refl
item-wrapper names q span kind.TsAsExpr cs w = refl
item-wrapper names q span kind.TsInstantiation cs w = refl
item-wrapper names q span kind.TsSatisfiesExpr cs w = refl
item-wrapper names q span _ cs w = no w

value-wrapper : (names : Names) (q : Bool) (span : Span) (k : Kind) (cs : List Node) → is_type_wrapper k ≡ true → written names seat.Value q span k cs ≡ node_of span k cs
unfolding written
value-wrapper names q span kind.TsTypeAssertion cs w = refl
value-wrapper names q span kind.TsConstAssertion cs w = refl
value-wrapper names q span kind.TsNonNullExpr cs w = refl
value-wrapper names q span kind.TsAsExpr cs w = refl
value-wrapper names q span kind.TsInstantiation cs w = refl
value-wrapper names q span kind.TsSatisfiesExpr cs w = refl
value-wrapper names q span _ cs w = no w

written-wrapper : (names : Names) (s : Seat) (q : Bool) (span : Span) (k : Kind) (cs : List Node) → is_type_wrapper k ≡ true → written names s q span k cs ≡ node_of span k cs
unfolding written
written-wrapper names seat.Item q span k cs w = item-wrapper names q span k cs w
written-wrapper names seat.Value q span k cs w = value-wrapper names q span k cs w
written-wrapper names _ q span k cs w = refl

written-list : (names : Names) (s : Seat) (q : Bool) (span : Span) (cs : List Node) → written names s q span kind.List cs ≡ node_of span kind.List cs
unfolding written
written-list names seat.Item q span cs = refl
written-list names seat.Value q span cs = refl
written-list names _ q span cs = refl

module _ (names : Names) where
  abbrev r : Rewriting Seat
  r = assigning names

  -- what becomes of a node in a seat is one node
  abbrev Single : List Node → Type 0
  Single l = l ≡ only l ∷ []

  abbrev Ones : Node → Type 0
  Ones n = (s : Seat) → Single (becomes r s n)

  abbrev nodes : List ((n : Node) × Ones n) → List Node
  nodes ns = map (λ e. e.0) ns

  wrapped-single : (span : Span) (k : Kind) (seat_of : ℕ → Seat) (ns : List ((n : Node) × Ones n)) → Single (wrapped span k (children r seat_of 0 (nodes ns)))
  wrapped-single span k seat_of [] = refl
  wrapped-single span k seat_of (n ∷ ns) =
      subst (λ (l : List Node). Single (map (λ e. node_of span k (e ∷ map only (children r seat_of 1 (nodes ns)))) l)) (sym (n.1 (seat_of 0))) refl

  here-single : (s : Seat) (span : Span) (k : Kind) (ns : List ((n : Node) × Ones n)) → Single (r.here s span k (nodes ns) (children r (r.seat s k (nodes ns)) 0 (nodes ns)))
  here-single s span k ns = by (is_raw s) (is_type_wrapper k)
    where
      by : (b w : Bool) → Single (cond b (node_of span k (nodes ns) ∷ []) (cond w (wrapped span k (children r (r.seat s k (nodes ns)) 0 (nodes ns))) (written names s (requires_by (nodes ns)) span k (map only (children r (r.seat s k (nodes ns)) 0 (nodes ns))) ∷ [])))
      by true w = refl
      by false true = wrapped-single span k (r.seat s k (nodes ns)) ns
      by false false = refl

  layer-single : (s : Seat) (span : Span) (k : Kind) (ns : List ((n : Node) × Ones n)) → Single (layer r s span k (nodes ns))
  layer-single s span kind.List ns = refl
  layer-single s span k ns = here-single s span k ns

  pub ones : (n : Node) → Ones n
  ones = ind-Node Ones (λ x y is.
      (let parts : Node-F Node = record { span = y.span; kind = y.kind; children = nodes y.children } in
      subst (λ (z : Node-F Node). Ones (roll-Node z)) is (λ s. subst Single (sym (becomes-roll r s parts)) (layer-single s y.span y.kind y.children))))

  -- ---- the equation of a node

  abbrev pub write : Seat → Node → Node
  write = become r

  children-each : (seat_of : ℕ → Seat) (i : ℕ) (at : ℕ → ℕ) (cs : List Node) → at 0 ≡ i → ((j : ℕ) → at (suc j) ≡ suc (at j))
      → map only (children r seat_of i cs) ≡ each_at write (λ j. seat_of (at j)) cs
  children-each seat_of i at [] e next = refl
  children-each seat_of i at (c ∷ cs) e next =
      ap₂ (λ a rest. a ∷ rest) (ap (λ j. write (seat_of j) c) (sym e)) (children-each seat_of (suc i) (λ j. at (suc j)) cs (next 0 ∙ ap suc e) (λ j. next (suc j)))

  items-each : (s : Seat) (cs : List Node) → items r s cs ≡ each_at write (λ j. s) cs
  items-each s [] = refl
  items-each s (c ∷ cs) = ap₂ (λ a b. a ++ b) (ones c s) (items-each s cs)

  wrapped-each : (span : Span) (k : Kind) (seat_of : ℕ → Seat) (cs : List Node) → wrapped span k (children r seat_of 0 cs) ≡ node_of span k (map only (children r seat_of 0 cs)) ∷ []
  wrapped-each span k seat_of [] = refl
  wrapped-each span k seat_of (c ∷ cs) = ap (map (λ e. node_of span k (e ∷ map only (children r seat_of 1 cs)))) (ones c (seat_of 0))

  done-out : (s : Seat) (span : Span) (k : Kind) (cs : List Node) (w : Bool) → is_type_wrapper k ≡ w
      → cond w (wrapped span k (children r (λ i. seat_in s k i) 0 cs)) (written names s (requires_by cs) span k (map only (children r (λ i. seat_in s k i) 0 cs)) ∷ [])
      ≡ written names s (requires_by cs) span k (map only (children r (λ i. seat_in s k i) 0 cs)) ∷ []
  done-out s span k cs true w =
      wrapped-each span k (λ i. seat_in s k i) cs ∙ ap (λ z. z ∷ []) (sym (written-wrapper names s (requires_by cs) span k (map only (children r (λ i. seat_in s k i) 0 cs)) w))
  done-out s span k cs false w = refl

  here-out : (s : Seat) (span : Span) (k : Kind) (cs : List Node) → is_raw s ≡ false
      → only (r.here s span k cs (children r (r.seat s k cs) 0 cs)) ≡ written names s (requires_by cs) span k (each_at write (λ i. seat_in s k i) cs)
  here-out s span k cs raw =
      ap (λ b. only (cond b (node_of span k cs ∷ []) (done names s span k cs (children r (r.seat s k cs) 0 cs)))) raw
      ∙ ap only (done-out s span k cs (is_type_wrapper k) refl)
      ∙ ap (written names s (requires_by cs) span k) (children-each (λ i. seat_in s k i) 0 (λ j. j) cs refl (λ j. refl))

  list-seats : (s : Seat) (cs : List Node) → each_at write (λ j. s) cs ≡ each_at write (λ i. seat_in s kind.List i) cs
  unfolding seat_in
  list-seats s cs = refl

  layer-out : (s : Seat) (span : Span) (k : Kind) (cs : List Node) → is_raw s ≡ false
      → only (layer r s span k cs) ≡ written names s (requires_by cs) span k (each_at write (λ i. seat_in s k i) cs)
  layer-out s span kind.List cs raw = ap (node_of span kind.List) (items-each s cs ∙ list-seats s cs) ∙ sym (written-list names s (requires_by cs) span (each_at write (λ i. seat_in s kind.List i) cs))
  layer-out s span k cs raw = here-out s span k cs raw

  -- what becomes of a node where something may be written
  pub write-out : (s : Seat) (n : Node) → is_raw s ≡ false
      → write s n ≡ written names s (requires_by (out-Node n).children) (out-Node n).span (out-Node n).kind (each_at write (λ i. seat_in s (out-Node n).kind i) (out-Node n).children)
  write-out s n raw = ap only (becomes-out r s n) ∙ layer-out s (out-Node n).span (out-Node n).kind (out-Node n).children raw
