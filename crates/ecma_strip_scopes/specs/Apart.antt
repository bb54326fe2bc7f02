-- Scopes and nodes of which it is clear what they declare without types.
use Rattle.std.specs.Prelude.{◌≡◌, Bool, true, false, ◌&&◌}
use Rattle.ecma_kind.specs.Sorts.{is_type_wrapper}
use Rattle.ecma_tree.specs.declared.node.Node.{Node, out-Node}
use Rattle.ecma_scope.specs.declared.form.Part.TheVariants as part
use Rattle.ecma_scope.specs.declared.role.Role.{Role}
use Rattle.ecma_scope.specs.declared.role.Role.TheVariants as role
use Rattle.ecma_scope.specs.Declarations.{holds_vars, own_part}
use Rattle.ecma_scope.specs.Scopes.{is_ambient, opens}
use Rattle.ecma_strip.specs.Staying.{is_this_ident}
use Rattle.ecma_hygiene_scopes.specs.Seats.{Seat}
use Rattle.ecma_strip_scopes.specs.Standing.{is_clear}

-- a role in which every expression is the same to its scopes
abbrev pub is_free : Role → Bool
is_free role.Plain = true
is_free role.Body = true
is_free _ = false

-- where the names of a scope are looked for is clear; with `receivers` parameters `this` may go
pub record IsClearScope (receivers : Bool) (r : Role) (n : Node) : Type 0 where
  pub own : is_clear receivers n (record { part = own_part r; stays = true }) ≡ true
  pub vars : holds_vars r (out-Node n).kind ≡ true → is_clear receivers n (record { part = part.Var; stays = true }) ≡ true

-- a scope is clear, and not ambient
abbrev pub IsClearSeat : Bool → Seat → Type 0
IsClearSeat receivers seat = opens seat.role seat.node ≡ true → (is_ambient seat.role ≡ false) × IsClearScope receivers seat.role seat.node

-- types stand round an expression that is the same to its scopes without them
abbrev pub IsWrapped : Seat → Type 0
IsWrapped seat = is_type_wrapper (out-Node seat.node).kind ≡ true → is_free seat.role ≡ true

-- with `receivers` no identifier `this`
abbrev pub IsOther : Bool → Seat → Type 0
IsOther receivers seat = (receivers && is_this_ident (out-Node seat.node).kind) ≡ false
