-- The nodes of a resolved tree, beside what they were: what holds of each, holds of all stops.
use Rattle.std.proofs.Common.{◌≡◌, ℕ, suc, ◌-◌, Bool, true, false, ◌&&◌, not, cond, List, [], ◌∷◌, ◌++◌, map, Some, refl, sym, ap, ◌∙◌, subst}
use Rattle.std.specs.List.{All}
use Rattle.std.proofs.lemmas.List.Elements.{All-append, All-cons, All-head, All-nil, All-tail}
use Rattle.ecma_kind.specs.declared.kind.Kind.{Kind}
use Rattle.ecma_tree.specs.declared.node.Node.{Node, Node-F, ind-Node, out-Node, roll-Node}
use Rattle.ecma_tree.specs.declared.node.Node.TheViews.{out-roll-Node}
use Rattle.ecma_scope.specs.declared.role.Role.{Role}
use Rattle.ecma_scope.specs.Resolved.{Place, Scope as Frame, context_count, innermost, placed, inside, resolved_at, taken}
use Rattle.ecma_scope.specs.Scopes.{covers, is_root, opens, role_in}
use Rattle.ecma_scope.specs.Declarations.{is_own, names}
use Rattle.ecma_hygiene.specs.Sights.{Around, around_child, own_scope}
use Rattle.ecma_hygiene.specs.Walks.{gathered_from}
use Rattle.ecma_hygiene.proofs.Walking.{gathered-out}
use Rattle.ecma_hygiene_scopes.specs.Seats.{IsKept, Seat, all_names, seat_here, seats_at}
use Rattle.ecma_hygiene_scopes.specs.Stops.{Stop, stops_at, stops_from}
use Rattle.ecma_hygiene_scopes.proofs.Clashes.{Stays, all-filter}
use Rattle.ecma_hygiene_scopes.proofs.Directly.{place_in}
use Rattle.ecma_hygiene_scopes.proofs.Goodness.{Each, Good, frame_of, frames_in, good-inside}
use Rattle.ecma_hygiene_scopes.proofs.Keeping.{AllKeep, all-kept, keep-inside}
use Rattle.ecma_hygiene_scopes.proofs.OwnScopes.{own-keeps}
use Rattle.ecma_hygiene_scopes.proofs.Sameness.{children-here, children_resolved, counts-resolved, kind-resolved, opens-resolved, role-resolved}
use Rattle.ecma_hygiene_scopes.proofs.Settling.{Settled, settled-inside}
use Rattle.ecma_hygiene_scopes.proofs.Stopping.{All-first, All-second, stops-out}

-- of scopes none says of a name that it goes
abbrev pub Steady : List Frame → Type 0
Steady [] = Unit {0}
Steady (f ∷ fs) = ((text : List ℕ) → f.states text ≡ Some false → ⊥) × Steady fs

steady-last : (fs : List Frame) (f : Frame) → Steady fs → ((text : List ℕ) → f.states text ≡ Some false → ⊥) → Steady (fs ++ f ∷ [])
steady-last [] f steady here = (here, tt)
steady-last (g ∷ fs) f steady here = (steady.0, steady-last fs f steady.1 here)

steady-inside : (opened covered : Bool) (fs : List Frame) (f : Frame) → Steady fs → (opened ≡ true → (text : List ℕ) → f.states text ≡ Some false → ⊥) → Steady (cond (opened && covered) (fs ++ f ∷ []) fs)
steady-inside true true fs f steady here = steady-last fs f steady (here refl)
steady-inside true false fs f steady here = steady
steady-inside false covered fs f steady here = steady

-- what is known of a node of the source in its place; where nothing of the source goes, nothing goes of it, and no scope around it says that a name goes
pub record Known (Whole : Type 0) (m : Node) (s : Around) (frames : List Frame) : Type 0 where
  pub keep : AllKeep s.scopes frames
  pub settled : Settled s.role (innermost frames)
  pub good : Good m s.role (innermost frames)
  pub kept : Whole → All IsKept (seats_at m s.role)
  pub steady : Whole → Steady frames

module _ (unresolved top : ℕ) (Whole : Type 0) where
  abbrev res : Node → Place → ℕ → Node
  res = resolved_at unresolved top

  -- ---- what stands around the children

  module _ (m : Node) (s : Around) (frames : List Frame) (left : ℕ) (known : Known Whole m s frames) where
    abbrev place : Place
    place = place_in unresolved top s.role frames

    abbrev n : Node
    n = res m place left

    abbrev seat : Seat
    seat = record { role = s.role; node = m }

    abbrev seats : List Seat
    seats = gathered_from Role Seat (role_in s.role m) 0 (map seats_at (out-Node m).children)

    seats-parts : Whole → All IsKept (seat ∷ seats)
    seats-parts whole = subst (All IsKept) (gathered-out Role Seat seat_here role_in m s.role) (known.kept whole)

    pub kept-here : Whole → IsKept (record { role = s.role; node = m })
    kept-here whole = All-head IsKept seat seats (seats-parts whole)

    covers-same : (i : ℕ) → covers s.role (out-Node n).kind i ≡ covers s.role (out-Node m).kind i
    unfolding covers
    covers-same i = kind-resolved unresolved top (λ (k : Kind). covers s.role k i) (λ t u c d o. refl) m place left

    keep-below : (i : ℕ) → AllKeep (around_child s n i).scopes (frames_in top m s.role frames left i)
    keep-below i =
        subst (λ (b : Bool). AllKeep (cond b (s.scopes ++ own_scope s.role s.scopes n ∷ []) s.scopes) (frames_in top m s.role frames left i))
        (λ j. sym (opens-resolved unresolved top m place left s.role) j && sym (covers-same i) j)
        (keep-inside (opens s.role m) (covers s.role (out-Node m).kind i) s.scopes frames (own_scope s.role s.scopes n) (frame_of top m s.role frames left) known.keep
        (own-keeps unresolved top m s.role s.scopes frames left known.keep known.settled known.good))

    role-same : (i : ℕ) → role_in s.role m i ≡ (around_child s n i).role
    role-same i = sym (role-resolved unresolved top m place left s.role i)

    settled-below : (i : ℕ) → Settled (around_child s n i).role (innermost (frames_in top m s.role frames left i))
    settled-below i = subst (λ (q : Role). Settled q (innermost (frames_in top m s.role frames left i))) (role-same i) (settled-inside top m s.role frames left known.good i)

    steady-below : Whole → (i : ℕ) → Steady (frames_in top m s.role frames left i)
    steady-below whole i =
        steady-inside (opens s.role m) (covers s.role (out-Node m).kind i) frames (frame_of top m s.role frames left) (known.steady whole)
        (λ is. all-kept (names s.role (innermost frames) m) (all-filter Stays (is_own s.role (innermost frames)) (all_names s.role m) (λ k d lt passes. kept-here whole is k d lt)))

    each-known : (i : ℕ) (xs : List Node) → Each (λ j x. Good x (role_in s.role m j) (innermost (frames_in top m s.role frames left j))) i xs
        → (Whole → All IsKept (gathered_from Role Seat (role_in s.role m) i (map seats_at xs))) → Each (λ j x. Known Whole x (around_child s n j) (frames_in top m s.role frames left j)) i xs
    each-known i [] good kept = tt
    each-known i (x ∷ xs) good kept =
        let rest : List Seat = gathered_from Role Seat (role_in s.role m) (suc i) (map seats_at xs) in (
          record {
            keep = keep-below i;
            settled = settled-below i;
            good = subst (λ (q : Role). Good x q (innermost (frames_in top m s.role frames left i))) (role-same i) good.0;
            kept = λ whole. subst (λ (q : Role). All IsKept (seats_at x q)) (role-same i) (All-first IsKept (seats_at x (role_in s.role m i)) rest (kept whole));
            steady = λ whole. steady-below whole i;
          },
          each-known (suc i) xs good.1 (λ whole. All-second IsKept (seats_at x (role_in s.role m i)) rest (kept whole)),
        )

    known-below : Each (λ j x. Known Whole x (around_child s n j) (frames_in top m s.role frames left j)) 0 (out-Node m).children
    known-below = each-known 0 (out-Node m).children (good-inside top m s.role frames left known.good) (λ whole. All-tail IsKept seat seats (seats-parts whole))

    taken-same : taken s.role n ≡ taken s.role m
    taken-same = ap (λ (b : Bool). cond (b && not (is_root s.role)) 1 0) (opens-resolved unresolved top m place left s.role)

  -- ---- the tree

  module _ (Here : Stop → Type 0) (here : (m : Node) (s : Around) (frames : List Frame) (left : ℕ) → Known Whole m s frames
      → Here (record { node = resolved_at unresolved top m (place_in unresolved top s.role frames) left; around = s; left = left })) where
    abbrev Reaches : Node → Type 0
    Reaches m = (s : Around) (frames : List Frame) (left : ℕ) → Known Whole m s frames → All Here (stops_at (res m (place_in unresolved top s.role frames) left) s left)

    abbrev AllReach : List Node → Type 0
    AllReach ms = (arounds : ℕ → Around) (frames_of : ℕ → List Frame) (places : ℕ → Place) (i left : ℕ) → ((j : ℕ) → places j ≡ place_in unresolved top (arounds j).role (frames_of j))
        → Each (λ j x. Known Whole x (arounds j) (frames_of j)) i ms → All Here (stops_from arounds i (placed places i ms (map res ms) left) (map stops_at (placed places i ms (map res ms) left)) left)

    all-reach : (ms : List ((m : Node) × Reaches m)) → AllReach (map (λ e. e.0) ms)
    all-reach [] arounds frames_of places i left are known = All-nil Here
    all-reach (m ∷ ms) arounds frames_of places i left are known =
        let others : List Node = map (λ e. e.0) ms in
        let child : Node = res m.0 (places i) left in
        let one : ℕ = left - context_count m.0 (places i).role in
        let rest : List Node = placed places (suc i) others (map res others) one in
        let counts : context_count child (arounds i).role ≡ context_count m.0 (places i).role = counts-resolved unresolved top m.0 (places i) left (arounds i).role ∙ ap (context_count m.0) (sym (ap (λ (p : Place). p.role) (are i))) in
        All-append Here (stops_at child (arounds i) left) (stops_from arounds (suc i) rest (map stops_at rest) (left - context_count child (arounds i).role))
        (subst (λ (p : Place). All Here (stops_at (res m.0 p left) (arounds i) left)) (sym (are i)) (m.1 (arounds i) (frames_of i) left known.0))
        (subst (λ (c : ℕ). All Here (stops_from arounds (suc i) rest (map stops_at rest) (left - c))) (sym counts) (all-reach ms arounds frames_of places (suc i) one are known.1))

    layer-reaches : (m : Node) → AllReach (out-Node m).children → Reaches m
    layer-reaches m children s frames left known =
        let p : Place = place_in unresolved top s.role frames in
        let node : Node = res m p left in
        let ms : List Node = children_resolved unresolved top m p left in
        let below = children (around_child s node) (frames_in top m s.role frames left) (inside top p m left) 0 (left - taken s.role m)
        (λ j. ap (λ (q : Role). place_in unresolved top q (frames_in top m s.role frames left j)) (role-same m s frames left known j)) (known-below m s frames left known) in
        subst (All Here) (sym (stops-out node s left))
        (All-cons Here (record { node = node; around = s; left = left }) (stops_from (around_child s node) 0 (out-Node node).children (map stops_at (out-Node node).children) (left - taken s.role node)) (here m s frames left known)
        (subst (λ (cs : List Node). All Here (stops_from (around_child s node) 0 cs (map stops_at cs) (left - taken s.role node))) (sym (children-here unresolved top m p left))
        (subst (λ (c : ℕ). All Here (stops_from (around_child s node) 0 ms (map stops_at ms) (left - c))) (sym (taken-same m s frames left known)) below)))

    pub reached : (m : Node) → Reaches m
    reached = ind-Node Reaches (λ x y is.
        layer-reaches (roll-Node x) (subst AllReach (ap (λ (z : Node-F Node). z.children) is ∙ sym (ap (λ (z : Node-F Node). z.children) (out-roll-Node x))) (all-reach y.children)))
