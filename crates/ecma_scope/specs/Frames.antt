-- Scopes as the resolver keeps them, and what it makes of the children of a node.
use Rattle.std.specs.Prelude.{ℕ, ◌-◌, Bool, List, [], ◌∷◌, ◌++◌, map, cond}
use Rattle.ecma_tree.specs.declared.node.Node.{Node, out-Node}
use Rattle.ecma_tree.specs.Nodes.{node_of}
use Rattle.ecma_scope.specs.declared.frame.Frame.{Frame}
use Rattle.ecma_scope.specs.declared.role.Role.{Role}
use Rattle.ecma_scope.specs.Scopes.{covers, role_in}
use Rattle.ecma_scope.specs.Indexed.{states_of}
use Rattle.ecma_scope.specs.Resolved.{Place, Scope, context_count, counted, inside, placed, resolved_at, taken}

abbrev pub scope_of : Frame → Scope
scope_of frame = record { ctxt = frame.ctxt; states = states_of frame.index }

abbrev pub scopes_of : List Frame → List Scope
scopes_of frames = map scope_of frames

abbrev pub place_of : Role → List Frame → Place
place_of role frames = record { role = role; scopes = scopes_of frames }

abbrev pub with_children : Node → List Node → Node
with_children node children = node_of (out-Node node).span (out-Node node).kind children

-- how many contexts the children of a node take
abbrev pub children_count : Node → Role → ℕ
children_count node r = counted (role_in r node) 0 (map context_count (out-Node node).children)

-- the children of a node in these places, where so many contexts are left
abbrev pub children_at : ℕ → ℕ → (ℕ → Place) → Node → ℕ → List Node
children_at unresolved top places node left = placed places 0 (out-Node node).children (map (resolved_at unresolved top) (out-Node node).children) left

-- the children of a node in its place
abbrev pub children_below : ℕ → ℕ → Place → Node → ℕ → List Node
children_below unresolved top place node left = children_at unresolved top (inside top place node left) node (left - taken place.role node)

-- the places of the children of a node that opens no scope
abbrev pub plain_places : Role → List Frame → Node → ℕ → Place
plain_places role frames node i = place_of (role_in role node i) frames

-- the place of a node that stands in one scope more, if that covers it
abbrev pub place_inside : Role → List Frame → Frame → Bool → Place
place_inside role frames scope covered = record { role = role; scopes = cond covered (scopes_of (frames ++ scope ∷ [])) (scopes_of frames) }

-- and of the children of one that opens this scope
abbrev pub scope_places : Role → List Frame → Frame → Node → ℕ → Place
scope_places role frames scope node i = place_inside (role_in role node i) frames scope (covers role (out-Node node).kind i)
