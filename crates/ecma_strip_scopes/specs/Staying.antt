-- The nodes of a tree that stay when its types go, with their roles.
use Rattle.std.specs.Prelude.{ℕ, suc, Bool, ◌&&◌, not, cond, List, [], ◌∷◌, ◌++◌}
use Rattle.ecma_tree.specs.Sorted.{is_list}
use Rattle.ecma_tree.specs.declared.node.Node.{Node, out-Node}
use Rattle.ecma_tree.specs.Layers.{from_leaves}
use Rattle.ecma_scope.specs.declared.role.Role.{Role}
use Rattle.ecma_scope.specs.Scopes.{role_in}
use Rattle.ecma_strip.specs.Staying.{stays}
use Rattle.ecma_hygiene_scopes.specs.Seats.{Seat}

-- in children, of which the first is the one at i: what goes from a list is passed over
abbrev pub staying_from : Bool → (ℕ → Role) → ℕ → List Node → List (Role → List Seat) → List Seat
staying_from list roles i (node ∷ nodes) (child ∷ children) = cond (list && not (stays node)) [] (child (roles i)) ++ staying_from list roles (suc i) nodes children
staying_from list roles i _ _ = []

abbrev pub staying_step : Node → List (Role → List Seat) → Role → List Seat
staying_step node children r = record { role = r; node = node } ∷ staying_from (is_list (out-Node node).kind) (role_in r node) 0 (out-Node node).children children

abbrev pub staying_seats : Node → Role → List Seat
staying_seats = from_leaves (Role → List Seat) staying_step
