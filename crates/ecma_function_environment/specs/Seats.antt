-- What nodes are there for, as far as a function's surroundings are asked for: what is around a node and its children decide.
use Rattle.std.specs.Prelude.{ℕ, Bool, true, false, ◌==◌, Option, Some, None, slice_get, if◌then◌else◌}
use Rattle.ecma_kind.specs.Shapes.{field_shapes}
use Rattle.ecma_kind.specs.declared.kind.Kind.{Kind}
use Rattle.ecma_kind.specs.declared.kind.Kind.TheVariants as kind
use Rattle.ecma_kind.specs.declared.shapes.FieldShape.{FieldShape}
use Rattle.ecma_kind.specs.declared.shapes.Sort.{Sort}
use Rattle.ecma_kind.specs.declared.shapes.Sort.TheVariants as sort
use Rattle.ecma_function_environment.specs.declared.seat.Seat.{Seat}
use Rattle.ecma_function_environment.specs.declared.seat.Seat.TheVariants as seat

abbrev pub is_entered : Seat → Bool
is_entered seat.Gone = false
is_entered seat.Outside = false
is_entered _ = true

abbrev pub is_read : Seat → Bool
is_read seat.Read = true
is_read _ = false

-- parentheses and types round a member of `super` go where what is written of it is no member of `super`
--   (super.f)(a)   // _superprop_get_f().call(_this, a)
abbrev pub drops : Seat → Bool
drops seat.Assigned = true
drops seat.Called = true
drops seat.ChainCalled = true
drops seat.Tag = true
drops _ = false

-- ---- by sorts

abbrev pub seat_of : Sort → Seat
seat_of sort.Expr = seat.Read
seat_of sort.ExprOrSpread = seat.Read
seat_of sort.Callee = seat.Read
seat_of sort.BlockStmtOrExpr = seat.Read
seat_of sort.VarDeclOrExpr = seat.Read
seat_of sort.AssignTarget = seat.Target
seat_of sort.Pat = seat.Target
seat_of sort.ForHead = seat.Target
seat_of _ = seat.Other

abbrev pub seat_or_other : Option FieldShape → Seat
seat_or_other (Some child) = seat_of child.shape.sort
seat_or_other None = seat.Other

abbrev pub child_seat : Kind → ℕ → Seat
child_seat k i = seat_or_other (slice_get (field_shapes k) i)

abbrev pub first_as : Seat → Kind → ℕ → Seat
first_as first k i = if i == 0 then first else child_seat k i

-- ---- round a member of `super`

-- the key, and not `super` itself
abbrev pub member_part : ℕ → Seat
member_part i = if i == 1 then seat.Key else seat.Gone

-- what is called, and its arguments
abbrev pub call_part : Seat → ℕ → Seat
call_part callee i = if i == 0 then callee else if i == 1 then seat.Received else seat.Other

abbrev pub callee_seat : Seat → Seat
callee_seat seat.Chained = seat.ChainCalled
callee_seat _ = seat.Called

abbrev pub handed : Seat → Seat
handed seat.Target = seat.Target
handed seat.Assigned = seat.Assigned
handed seat.Called = seat.Called
handed seat.ChainCalled = seat.ChainCalled
handed seat.Tag = seat.Tag
handed _ = seat.Read

-- what is in parentheses; a type round it goes where they go
abbrev pub round_part : Seat → ℕ → Seat
round_part s i = if i == 0 then handed s else if drops s then seat.Gone else seat.Other

-- in a node that is about a member of `super`
abbrev pub over_seat : Seat → Kind → ℕ → Seat
over_seat s kind.SuperPropExpr i = member_part i
over_seat s kind.CallExpr i = call_part seat.Called i
over_seat s kind.OptCall i = call_part (callee_seat s) i
over_seat s (kind.OptChainExpr optional) i = seat.Chained
over_seat s kind.TaggedTpl i = first_as seat.Tag kind.TaggedTpl i
over_seat s (kind.AssignExpr op) i = first_as seat.Assigned (kind.AssignExpr op) i
over_seat s (kind.UpdateExpr op prefix) i = seat.Target
over_seat s k i = round_part s i

-- ---- the whole

-- a getter and a setter of an object have a key of their own
abbrev pub key_alone : ℕ → Seat
key_alone i = if i == 0 then seat.Other else seat.Outside

abbrev pub in_list : Seat → Seat
in_list seat.Received = seat.Read
in_list s = s

abbrev pub seat_by : Bool → Seat → Kind → ℕ → Seat
seat_by true s k i = over_seat s k i
seat_by false s k i = child_seat k i

-- the seat of the child at an index. No function and no class is entered, arrow functions are
abbrev pub seat_in : Bool → Seat → Kind → ℕ → Seat
seat_in over s kind.List i = in_list s
seat_in over s kind.SeqExpr i = seat.Read
seat_in over s kind.ComputedPropName i = seat.Read
seat_in over s (kind.Function is_generator is_async) i = seat.Outside
seat_in over s (kind.Class is_abstract) i = seat.Outside
seat_in over s kind.GetterProp i = key_alone i
seat_in over s kind.SetterProp i = key_alone i
seat_in over s k i = seat_by over s k i
