-- What holds of the nodes of a tree in their roles holds of its stops.
use Rattle.std.proofs.Common.{◌≡◌, ℕ, suc, ◌-◌, List, [], ◌∷◌, map, refl, sym, ap, ◌∙◌, subst}
use Rattle.std.specs.List.{All}
use Rattle.std.proofs.lemmas.List.Elements.{All-append, All-cons, All-head, All-nil, All-tail}
use Rattle.ecma_tree.specs.declared.node.Node.{Node, Node-F, ind-Node, out-Node, roll-Node}
use Rattle.ecma_tree.specs.declared.node.Node.TheViews.{out-roll-Node}
use Rattle.ecma_scope.specs.declared.role.Role.{Role}
use Rattle.ecma_scope.specs.Resolved.{context_count, taken}
use Rattle.ecma_scope.specs.Scopes.{role_in}
use Rattle.ecma_hygiene.specs.Sights.{Around, around_child}
use Rattle.ecma_hygiene.specs.Walks.{gathered_from}
use Rattle.ecma_hygiene.proofs.Walking.{gathered-out}
use Rattle.ecma_hygiene_scopes.specs.Seats.{Seat, seat_here, seats_at}
use Rattle.ecma_hygiene_scopes.specs.Stops.{Stop, stops_at, stops_from}
use Rattle.ecma_hygiene_scopes.proofs.Stopping.{All-first, All-second, stops-out}

module _ (P : Seat → Type 0) where
  abbrev Holds : Stop → Type 0
  Holds stop = P (record { role = stop.around.role; node = stop.node })

  abbrev AtStops : Node → Type 0
  AtStops n = (a : Around) (left : ℕ) → All P (seats_at n a.role) → All Holds (stops_at n a left)

  abbrev AllAtStops : List Node → Type 0
  AllAtStops ns = (arounds : ℕ → Around) (roles : ℕ → Role) (i left : ℕ) → ((j : ℕ) → roles j ≡ (arounds j).role) → All P (gathered_from Role Seat roles i (map seats_at ns)) → All Holds (stops_from arounds i ns (map stops_at ns) left)

  all-at-stops : (ns : List ((n : Node) × AtStops n)) → AllAtStops (map (λ e. e.0) ns)
  all-at-stops [] arounds roles i left same h = All-nil Holds
  all-at-stops (n ∷ ns) arounds roles i left same h =
      let others : List Node = map (λ e. e.0) ns in
      let less : ℕ = left - context_count n.0 (arounds i).role in
      let rest : List Seat = gathered_from Role Seat roles (suc i) (map seats_at others) in
      All-append Holds (stops_at n.0 (arounds i) left) (stops_from arounds (suc i) others (map stops_at others) less)
      (n.1 (arounds i) left (subst (λ (r : Role). All P (seats_at n.0 r)) (same i) (All-first P (seats_at n.0 (roles i)) rest h)))
      (all-at-stops ns arounds roles (suc i) less same (All-second P (seats_at n.0 (roles i)) rest h))

  layer-at-stops : (n : Node) → AllAtStops (out-Node n).children → AtStops n
  layer-at-stops n children a left h =
      let seat : Seat = record { role = a.role; node = n } in
      let seats : List Seat = gathered_from Role Seat (role_in a.role n) 0 (map seats_at (out-Node n).children) in
      let parts : All P (seat ∷ seats) = subst (All P) (gathered-out Role Seat seat_here role_in n a.role) h in
      subst (All Holds) (sym (stops-out n a left))
      (All-cons Holds (record { node = n; around = a; left = left }) (stops_from (around_child a n) 0 (out-Node n).children (map stops_at (out-Node n).children) (left - taken a.role n)) (All-head P seat seats parts)
      (children (around_child a n) (role_in a.role n) 0 (left - taken a.role n) (λ j. refl) (All-tail P seat seats parts)))

  pub at-stops : (n : Node) → AtStops n
  at-stops = ind-Node AtStops (λ x y is.
      layer-at-stops (roll-Node x) (subst AllAtStops (ap (λ (z : Node-F Node). z.children) is ∙ sym (ap (λ (z : Node-F Node). z.children) (out-roll-Node x))) (all-at-stops y.children)))
