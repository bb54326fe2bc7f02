-- The nodes of a tree that stay are some of its nodes; which they are below each node.
use Rattle.std.proofs.Common.{◌≡◌, ℕ, suc, Bool, true, false, ◌&&◌, not, cond, List, [], ◌∷◌, map, sym, ap, ◌∙◌, subst}
use Rattle.std.specs.List.{All}
use Rattle.std.proofs.lemmas.List.Elements.{All-append, All-cons, All-head, All-nil, All-tail}
use Rattle.ecma_tree.specs.Sorted.{is_list}
use Rattle.ecma_tree.specs.declared.node.Node.{Node, Node-F, ind-Node, out-Node, roll-Node}
use Rattle.ecma_tree.specs.declared.node.Node.TheViews.{out-roll-Node}
use Rattle.ecma_tree.proofs.Layers.{from_leaves_out}
use Rattle.ecma_scope.specs.declared.role.Role.{Role}
use Rattle.ecma_scope.specs.Scopes.{role_in}
use Rattle.ecma_strip.specs.Staying.{stays}
use Rattle.ecma_hygiene.specs.Walks.{gathered_from}
use Rattle.ecma_hygiene.proofs.Walking.{gathered-out}
use Rattle.ecma_hygiene_scopes.specs.Seats.{Seat, seat_here, seats_at}
use Rattle.ecma_hygiene_scopes.proofs.Stopping.{All-first, All-second}
use Rattle.ecma_strip_scopes.specs.Staying.{staying_from, staying_seats, staying_step}

pub staying-out : (n : Node) (r : Role) → staying_seats n r ≡ record { role = r; node = n } ∷ staying_from (is_list (out-Node n).kind) (role_in r n) 0 (out-Node n).children (map staying_seats (out-Node n).children)
staying-out n r = ap (λ f. f r) (from_leaves_out (Role → List Seat) staying_step n)

-- those in children, of which the first is the one at i
abbrev pub staying_below : Bool → (ℕ → Role) → ℕ → List Node → List Seat
staying_below list roles i ns = staying_from list roles i ns (map staying_seats ns)

-- ---- what holds of those that stay

module _ (P : Seat → Type 0) where
  abbrev first_of : Bool → (ℕ → Role) → ℕ → Node → List Seat
  first_of list roles i n = cond (list && not (stays n)) [] (staying_seats n (roles i))

  -- in a child that is none that goes from a list
  pub staying-first : (list : Bool) (roles : ℕ → Role) (i : ℕ) (n : Node) (ns : List Node) → (list && not (stays n)) ≡ false → All P (staying_below list roles i (n ∷ ns)) → All P (staying_seats n (roles i))
  staying-first list roles i n ns last h =
      subst (λ (b : Bool). All P (cond b [] (staying_seats n (roles i)))) last (All-first P (first_of list roles i n) (staying_below list roles (suc i) ns) h)

  -- in those behind it
  pub staying-rest : (list : Bool) (roles : ℕ → Role) (i : ℕ) (n : Node) (ns : List Node) → All P (staying_below list roles i (n ∷ ns)) → All P (staying_below list roles (suc i) ns)
  staying-rest list roles i n ns h = All-second P (first_of list roles i n) (staying_below list roles (suc i) ns) h

  -- ---- what holds of all nodes

  abbrev Among : Node → Type 0
  Among n = (r : Role) → All P (seats_at n r) → All P (staying_seats n r)

  abbrev AllAmong : List Node → Type 0
  AllAmong ns = (list : Bool) (roles : ℕ → Role) (i : ℕ) → All P (gathered_from Role Seat roles i (map seats_at ns)) → All P (staying_below list roles i ns)

  none-or : (b : Bool) (seats : List Seat) → All P seats → All P (cond b [] seats)
  none-or true seats h = All-nil P
  none-or false seats h = h

  all-among : (ns : List ((n : Node) × Among n)) → AllAmong (map (λ e. e.0) ns)
  all-among [] list roles i h = All-nil P
  all-among (n ∷ ns) list roles i h =
      let others : List Node = map (λ e. e.0) ns in
      let here : List Seat = seats_at n.0 (roles i) in
      let rest : List Seat = gathered_from Role Seat roles (suc i) (map seats_at others) in
      All-append P (first_of list roles i n.0) (staying_below list roles (suc i) others)
      (none-or (list && not (stays n.0)) (staying_seats n.0 (roles i)) (n.1 (roles i) (All-first P here rest h)))
      (all-among ns list roles (suc i) (All-second P here rest h))

  layer-among : (n : Node) → AllAmong (out-Node n).children → Among n
  layer-among n children r h =
      let seat : Seat = record { role = r; node = n } in
      let below : List Seat = gathered_from Role Seat (role_in r n) 0 (map seats_at (out-Node n).children) in
      let list : Bool = is_list (out-Node n).kind in
      let parts : All P (seat ∷ below) = subst (All P) (gathered-out Role Seat seat_here role_in n r) h in
      subst (All P) (sym (staying-out n r))
      (All-cons P seat (staying_below list (role_in r n) 0 (out-Node n).children) (All-head P seat below parts) (children list (role_in r n) 0 (All-tail P seat below parts)))

  pub staying-among : (n : Node) (r : Role) → All P (seats_at n r) → All P (staying_seats n r)
  staying-among = ind-Node Among (λ x y is.
      layer-among (roll-Node x) (subst AllAmong (ap (λ (z : Node-F Node). z.children) is ∙ sym (ap (λ (z : Node-F Node). z.children) (out-roll-Node x))) (all-among y.children)))
