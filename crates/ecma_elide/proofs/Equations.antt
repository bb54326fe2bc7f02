-- What becomes of a node where it goes and where it stays.
use Rattle.std.proofs.Common.{◌≡◌, ◌∙◌, ℕ, suc, Bool, true, false, not, cond, refl, sym, ap, ap₂, List, [], ◌∷◌, ◌++◌, map, filter}
use Rattle.ecma_kind.specs.declared.kind.Kind.{Kind}
use Rattle.ecma_kind.specs.declared.kind.Kind.TheVariants as kind
use Rattle.ecma_kind.specs.declared.span.Span.{Span}
use Rattle.ecma_tree.specs.Nodes.{absent, node_of}
use Rattle.ecma_tree.specs.Sorted.{is_list}
use Rattle.ecma_tree.specs.declared.node.Node.{Node, out-Node}
use Rattle.ecma_scope.specs.Scopes.{is_there}
use Rattle.ecma_rewriting.specs.Laws.{children, items, layer}
use Rattle.ecma_rewriting.specs.Rewriting.{become, becomes, only, over_ones}
use Rattle.ecma_rewriting.proofs.Equations.{becomes-out, layer-other, list-kind}
use Rattle.ecma_elide.specs.declared.seat.Seat.{Seat}
use Rattle.ecma_elide.specs.declared.seat.Seat.TheVariants as seat
use Rattle.ecma_elide.specs.Elision.{eliding, remaining, seat_in}
use Rattle.ecma_elide.specs.Rules.{Known, alias_goes, export_goes, goes, import_goes, item_goes, reexport_goes}

module _ (known : Known) where
  abbrev pub node_goes : Seat → Node → Bool
  node_goes s n = goes known s (out-Node n).kind (out-Node n).children

  abbrev pub result : Seat → Node → Node
  result = become (eliding known)

  -- no list goes
  pub list-stays : (s : Seat) (cs : List Node) → goes known s kind.List cs ≡ false
  unfolding import_goes export_goes reexport_goes alias_goes item_goes
  list-stays seat.Elsewhere cs = refl
  list-stays seat.Items cs = refl
  list-stays seat.Imported cs = refl
  list-stays seat.Exported cs = refl
  list-stays seat.Reexported cs = refl

  -- ---- what goes

  gone-by : (s : Seat) (span : Span) (k : Kind) (cs : List Node) (b : Bool) → is_list k ≡ b → goes known s k cs ≡ true → layer (eliding known) s span k cs ≡ []
  gone-by s span k cs true l h =
      let never : true ≡ false = sym h ∙ ap (λ z. goes known s z cs) (list-kind k l) ∙ list-stays s cs in
      cc
  gone-by s span k cs false l h =
      layer-other (eliding known) s span k cs l
      ∙ ap (λ b. cond b [] (over_ones span k (children (eliding known) (λ i. seat_in s k (is_there cs 1) i) 0 cs))) h

  pub gone : (s : Seat) (n : Node) → node_goes s n ≡ true → becomes (eliding known) s n ≡ []
  gone s n h = becomes-out (eliding known) s n ∙ gone-by s (out-Node n).span (out-Node n).kind (out-Node n).children (is_list (out-Node n).kind) refl h

  pub gone-result : (s : Seat) (n : Node) → node_goes s n ≡ true → absent ≡ result s n
  gone-result s n h = sym (ap only (gone s n h))

  -- ---- what stays

  -- these nodes, each in its seat, the first in that at 0
  abbrev pub each : (ℕ → Seat) → List Node → List Node
  each seat_of [] = []
  each seat_of (n ∷ ns) = result (seat_of 0) n ∷ each (λ i. seat_of (suc i)) ns

  children-each : (seat_of : ℕ → Seat) (i : ℕ) (cs : List Node) (at : ℕ → ℕ) → at 0 ≡ i → ((j : ℕ) → at (suc j) ≡ suc (at j))
      → map only (children (eliding known) seat_of i cs) ≡ each (λ j. seat_of (at j)) cs
  children-each seat_of i [] at z next = refl
  children-each seat_of i (c ∷ cs) at z next =
      ap₂ (λ a rest. a ∷ rest) (ap (λ j. result (seat_of j) c) (sym z))
      (children-each seat_of (suc i) cs (λ j. at (suc j)) (next 0 ∙ ap suc z) (λ j. next (suc j)))

  -- one node stands for one that is no list
  other-stays : (s : Seat) (span : Span) (k : Kind) (cs : List Node) → is_list k ≡ false → goes known s k cs ≡ false
      → layer (eliding known) s span k cs ≡ node_of span k (each (λ i. seat_in s k (is_there cs 1) i) cs) ∷ []
  other-stays s span k cs l h =
      layer-other (eliding known) s span k cs l
      ∙ ap (λ b. cond b [] (over_ones span k (children (eliding known) (λ i. seat_in s k (is_there cs 1) i) 0 cs))) h
      ∙ ap (λ ns. node_of span k ns ∷ []) (children-each (λ i. seat_in s k (is_there cs 1) i) 0 cs (λ j. j) refl (λ j. refl))

  one-by : (s : Seat) (span : Span) (k : Kind) (cs : List Node) (b : Bool) → is_list k ≡ b → goes known s k cs ≡ false
      → layer (eliding known) s span k cs ≡ only (layer (eliding known) s span k cs) ∷ []
  one-by s span k cs true l h =
      ap (λ z. layer (eliding known) s span z cs) (list-kind k l) ∙ sym (ap (λ z. only (layer (eliding known) s span z cs) ∷ []) (list-kind k l))
  one-by s span k cs false l h = other-stays s span k cs l h ∙ sym (ap (λ z. only z ∷ []) (other-stays s span k cs l h))

  -- what stays becomes one node
  pub one : (s : Seat) (n : Node) → node_goes s n ≡ false → becomes (eliding known) s n ≡ result s n ∷ []
  one s n h =
      becomes-out (eliding known) s n ∙ one-by s (out-Node n).span (out-Node n).kind (out-Node n).children (is_list (out-Node n).kind) refl h
      ∙ sym (ap (λ z. only z ∷ []) (becomes-out (eliding known) s n))

  item : (s : Seat) (c : Node) (cs : List Node) (b : Bool) → node_goes s c ≡ b → items (eliding known) s cs ≡ each (λ i. s) (filter (λ n. not (node_goes s n)) cs)
      → becomes (eliding known) s c ++ items (eliding known) s cs ≡ each (λ i. s) (cond (not b) (c ∷ filter (λ n. not (node_goes s n)) cs) (filter (λ n. not (node_goes s n)) cs))
  item s c cs true h rest = ap (λ l. l ++ items (eliding known) s cs) (gone s c h) ∙ rest
  item s c cs false h rest = ap (λ l. l ++ items (eliding known) s cs) (one s c h) ∙ ap (λ l. result s c ∷ l) rest

  -- of a list those items become something that stay
  pub items-each : (s : Seat) (cs : List Node) → items (eliding known) s cs ≡ each (λ i. s) (filter (λ n. not (node_goes s n)) cs)
  items-each s [] = refl
  items-each s (c ∷ cs) = item s c cs (node_goes s c) refl (items-each s cs)

  -- ---- a node that stays, over its children that do

  pub remaining-other : (s : Seat) (k : Kind) (cs : List Node) → is_list k ≡ false → remaining known s k cs ≡ cs
  remaining-other s kind.List cs l = cc
  remaining-other s _ cs l = refl

  abbrev pub seats : Seat → Kind → Bool → ℕ → Seat
  seats s k sourced i = seat_in s k sourced i

  list-seats : (s : Seat) (sourced : Bool) → (λ (i : ℕ). s) ≡ seats s kind.List sourced
  unfolding seat_in
  list-seats s sourced = refl

  usual-by : (s : Seat) (span : Span) (k : Kind) (cs : List Node) (b : Bool) → is_list k ≡ b → goes known s k cs ≡ false
      → only (layer (eliding known) s span k cs) ≡ node_of span k (each (seats s k (is_there cs 1)) (remaining known s k cs))
  usual-by s span k cs true l h =
      ap (λ z. only (layer (eliding known) s span z cs)) (list-kind k l)
      ∙ ap (node_of span kind.List) (items-each s cs ∙ ap (λ f. each f (filter (λ n. not (node_goes s n)) cs)) (list-seats s (is_there cs 1)))
      ∙ sym (ap (λ z. node_of span z (each (seats s z (is_there cs 1)) (remaining known s z cs))) (list-kind k l))
  usual-by s span k cs false l h =
      ap only (other-stays s span k cs l h)
      ∙ ap (λ ns. node_of span k (each (seats s k (is_there cs 1)) ns)) (sym (remaining-other s k cs l))

  pub usual : (s : Seat) (n : Node) → node_goes s n ≡ false
      → result s n ≡ node_of (out-Node n).span (out-Node n).kind (each (seats s (out-Node n).kind (is_there (out-Node n).children 1)) (remaining known s (out-Node n).kind (out-Node n).children))
  usual s n h =
      ap only (becomes-out (eliding known) s n)
      ∙ usual-by s (out-Node n).span (out-Node n).kind (out-Node n).children (is_list (out-Node n).kind) refl h
