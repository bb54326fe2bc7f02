-- One node is written for one.
use Rattle.std.proofs.Common.{◌≡◌, ◌∙◌, ℕ, suc, refl, sym, ap, ap₂, List, [], ◌∷◌, ◌++◌, map, Option, None}
use Rattle.std.specs.Option.{option_and_then}
use Rattle.ecma_kind.specs.declared.ident.Ident.{Ident}
use Rattle.ecma_kind.specs.declared.kind.Kind.{Kind}
use Rattle.ecma_kind.specs.declared.kind.Kind.TheVariants as kind
use Rattle.ecma_kind.specs.declared.span.Span.{Span}
use Rattle.ecma_tree.specs.Nodes.{node_of}
use Rattle.ecma_tree.specs.declared.node.Node.{Node, out-Node}
use Rattle.ecma_rewriting.specs.Laws.{children, items, layer}
use Rattle.ecma_rewriting.specs.Rewriting.{Rewriting, become, becomes, only}
use Rattle.ecma_rewriting.proofs.Equations.{becomes-out}
use Rattle.ecma_references.specs.declared.seat.Seat.{Seat}
use Rattle.ecma_references.specs.Answers.{Answers, answer_of, answer_to, name_of}
use Rattle.ecma_references.specs.References.{referring, written}
use Rattle.ecma_references.specs.Seats.{seat_in}

-- children, each in its seat
abbrev pub each_at : (Seat → Node → Node) → (ℕ → Seat) → List Node → List Node
each_at to seat_at [] = []
each_at to seat_at (n ∷ ns) = to (seat_at 0) n ∷ each_at to (λ j. seat_at (suc j)) ns

-- a list is no name
list-name : (span : Span) (cs : List Node) → name_of span kind.List cs ≡ None
unfolding name_of
list-name span cs = refl

-- its items sit in its own seat
list-seats : (to : Seat → Node → Node) (s : Seat) (cs : List Node) → each_at to (λ j. s) cs ≡ each_at to (λ i. seat_in s kind.List i) cs
unfolding seat_in
list-seats to s cs = refl

module _ (answers : Answers) where
  abbrev r : Rewriting Seat
  r = referring answers

  abbrev pub put : Seat → Node → Node
  put = become r

  layer-single : (s : Seat) (span : Span) (k : Kind) (cs : List Node) → layer r s span k cs ≡ only (layer r s span k cs) ∷ []
  layer-single s span kind.List cs = refl
  layer-single s span k cs = refl

  pub ones : (s : Seat) (n : Node) → becomes r s n ≡ put s n ∷ []
  ones s n =
      let out = becomes-out r s n in
      out ∙ layer-single s (out-Node n).span (out-Node n).kind (out-Node n).children ∙ ap (λ l. only l ∷ []) (sym out)

  children-each : (seat_at : ℕ → Seat) (i : ℕ) (at : ℕ → ℕ) (cs : List Node) → at 0 ≡ i → ((j : ℕ) → at (suc j) ≡ suc (at j))
      → map only (children r seat_at i cs) ≡ each_at put (λ j. seat_at (at j)) cs
  children-each seat_at i at [] e next = refl
  children-each seat_at i at (c ∷ cs) e next =
      ap₂ (λ a rest. a ∷ rest) (ap (λ j. put (seat_at j) c) (sym e)) (children-each seat_at (suc i) (λ j. at (suc j)) cs (next 0 ∙ ap suc e) (λ j. next (suc j)))

  items-each : (s : Seat) (cs : List Node) → items r s cs ≡ each_at put (λ j. s) cs
  items-each s [] = refl
  items-each s (c ∷ cs) = ap₂ (λ a b. a ++ b) (ones s c) (items-each s cs)

  -- what is written of a node over these children
  abbrev pub over : Seat → Span → Kind → List Node → List Node → Node
  over s span k old new = written answers s (answer_of answers s span k old) span k new

  list-over : (s : Seat) (span : Span) (old new : List Node) → node_of span kind.List new ≡ over s span kind.List old new
  list-over s span old new = sym (ap (λ (o : Option Ident). written answers s (option_and_then (answer_to answers s) o) span kind.List new) (list-name span old))

  layer-out : (s : Seat) (span : Span) (k : Kind) (cs : List Node) → only (layer r s span k cs) ≡ over s span k cs (each_at put (λ i. seat_in s k i) cs)
  layer-out s span kind.List cs = ap (node_of span kind.List) (items-each s cs ∙ list-seats put s cs) ∙ list-over s span cs (each_at put (λ i. seat_in s kind.List i) cs)
  layer-out s span k cs = ap (over s span k cs) (children-each (λ i. seat_in s k i) 0 (λ j. j) cs refl (λ j. refl))

  -- what becomes of a node
  pub put-out : (s : Seat) (n : Node) → put s n ≡ over s (out-Node n).span (out-Node n).kind (out-Node n).children (each_at put (λ i. seat_in s (out-Node n).kind i) (out-Node n).children)
  put-out s n = ap only (becomes-out r s n) ∙ layer-out s (out-Node n).span (out-Node n).kind (out-Node n).children
