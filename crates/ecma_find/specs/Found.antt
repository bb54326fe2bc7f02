-- What a finder finds.
use Rattle.std.specs.Prelude.{ℕ, Bool, true, false, ◌&&◌, ◌||◌, not, List, [], Option, Some, None, flat_map, if◌then◌else◌}
use Rattle.ecma_kind.specs.declared.kind.Kind.{Kind}
use Rattle.ecma_kind.specs.declared.shapes.Shape.{Shape}
use Rattle.ecma_tree.specs.declared.node.Node.{Node, out-Node}
use Rattle.ecma_tree.specs.declared.node_ref.NodeRef.{NodeRef}
use Rattle.ecma_tree.specs.NodeRefs.{nodes_of}
use Rattle.ecma_walks.specs.Listing.{listed, listed_within, some_item}
use Rattle.ecma_walks.specs.Seats.{root_seat, seat_at}
use Rattle.ecma_find.specs.declared.finder.Finder.{Finder}
use Rattle.ecma_find.specs.declared.finder.Place.{Place}
use Rattle.ecma_find.specs.Finders.{Rules, rules_of}
use Rattle.ecma_find.specs.Kinds.{is_type}
use Rattle.ecma_find.specs.Names.{itself}

abbrev pub place_of : Shape → Bool → Place
place_of seat is_declared = record { seat = seat; is_declared = is_declared }

-- whether a node is left out: types always are
abbrev pub is_left_out : Rules → Shape → Kind → Bool
is_left_out rules seat kind = is_type kind || rules.leaves_out seat kind

abbrev pub is_listed : Rules → Place → Kind → Bool
is_listed rules place kind = not (is_left_out rules place.seat kind) && rules.lists place kind

abbrev pub is_entered : Rules → Place → Kind → ℕ → Bool
is_entered rules place kind i = not (is_left_out rules place.seat kind) && rules.enters kind i

abbrev place_by : Bool → Option Shape → Bool → Option Place
place_by true (Some seat) is_declared = Some (place_of seat is_declared)
place_by _ _ _ = None

-- where the child at an index stands; None: it is not entered
abbrev pub place_at : Rules → Place → Node → ℕ → Option Place
place_at rules place node i =
    place_by (is_entered rules place (out-Node node).kind i) (seat_at place.seat node i) (rules.declares place node i)

-- what `taken` gives of a node that is listed
abbrev pub taken_here : (A : Type 0) → (Node → List A) → Rules → Place → Node → List A
taken_here A taken rules place node = if is_listed rules place (out-Node node).kind then taken node else []

abbrev pub taken_in : (A : Type 0) → (Node → List A) → Rules → Node → Place → List A
taken_in A taken rules = listed Place A (place_at rules) (taken_here A taken rules)

abbrev pub root_place : NodeRef → Place
root_place part = place_of (root_seat part) false

-- what `taken` gives of the nodes that are listed in some nodes, which stand at one place
abbrev pub taken_among : (A : Type 0) → (Node → List A) → Rules → Place → List Node → List A
taken_among A taken rules place nodes = flat_map (λ node. taken_in A taken rules node place) nodes

-- what `taken` gives of the nodes that a finder lists in a part of a tree, in the order of the text: a node before what is in it
abbrev pub found_as : (A : Type 0) → (Node → List A) → Finder → NodeRef → List A
found_as A taken finder part = taken_among A taken (rules_of finder) (root_place part) (nodes_of part)

-- the nodes themselves
abbrev pub found : Finder → NodeRef → List Node
found = found_as Node itself

-- in a node at a place; in none where it is not entered
abbrev pub taken_within : (A : Type 0) → (Node → List A) → Rules → Option Place → Node → List A
taken_within A taken rules around node = listed_within Place A around (taken_in A taken rules node)

abbrev pub finds_within : Rules → Option Place → Node → Bool
finds_within rules around node = some_item Node (taken_within Node itself rules around node)

-- whether there is one
abbrev pub finds : Finder → NodeRef → Bool
finds finder part = some_item Node (found finder part)
