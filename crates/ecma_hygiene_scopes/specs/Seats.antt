-- The nodes of a tree with their roles, and trees in which no declaration goes.
use Rattle.std.specs.Prelude.{◌≡◌, true, not, List, [], ◌∷◌, ◌++◌}
use Rattle.std.specs.List.{All}
use Rattle.ecma_tree.specs.declared.node.Node.{Node}
use Rattle.ecma_scope.specs.declared.form.Declaration.{Declaration}
use Rattle.ecma_scope.specs.declared.role.Role.{Role}
use Rattle.ecma_scope.specs.declared.role.Role.TheVariants as role
use Rattle.ecma_scope.specs.Declarations.{declarations, own_part, vars_of}
use Rattle.ecma_scope.specs.Scopes.{is_ambient, opens, role_in}
use Rattle.ecma_hygiene.specs.Walks.{gathered_down}

pub record Seat : Type 0 where
  pub role : Role
  pub node : Node

abbrev pub seat_here : Role → Node → List Seat
seat_here r node = record { role = r; node = node } ∷ []

abbrev pub seats_at : Node → Role → List Seat
seats_at = gathered_down Role Seat seat_here role_in

-- all that the scope of a node may declare, with the `var` names that belong to it
abbrev pub all_names : Role → Node → List Declaration
all_names r node = declarations node (record { part = own_part r; stays = not (is_ambient r) }) ++ vars_of r (not (is_ambient r)) node

-- nothing that a scope declares goes
abbrev pub IsKept : Seat → Type 0
IsKept seat = opens seat.role seat.node ≡ true → All (λ (d : Declaration). d.stays ≡ true) (all_names seat.role seat.node)

abbrev pub NothingGoes : Node → Type 0
NothingGoes tree = All IsKept (seats_at tree role.Root)
