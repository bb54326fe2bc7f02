-- What a node is there for, as far as names are asked of there. A child's seat is that of its sort, but for the tag of a template and for what a declarator
-- declares.
use Rattle.std.specs.Prelude.{ℕ, ◌==◌, Option, Some, None, if◌then◌else◌, slice_get}
use Rattle.ecma_kind.specs.Shapes.{field_shapes}
use Rattle.ecma_kind.specs.declared.kind.Kind.{Kind}
use Rattle.ecma_kind.specs.declared.kind.Kind.TheVariants as kind
use Rattle.ecma_kind.specs.declared.shapes.FieldShape.{FieldShape}
use Rattle.ecma_kind.specs.declared.shapes.Sort.{Sort}
use Rattle.ecma_kind.specs.declared.shapes.Sort.TheVariants as sort
use Rattle.ecma_references.specs.declared.seat.Seat.{Seat}
use Rattle.ecma_references.specs.declared.seat.Seat.TheVariants as seat

-- what a child of a sort is there for. The operand of `++` is an expression, and so is what stands in parentheses
--   a = b; [a] = b; ({ a } = b); for (a of b); (a) => b;   // a is written to, b is read
--   f(b); new f(b); f?.(b);                                // the first f is called, the others are read
--   a++; (a) = b; a: while (b) break a;                    // the first two a are read, the others stay
abbrev pub seat_of : Sort → Seat
seat_of sort.Expr = seat.Read
seat_of sort.ExprOrSpread = seat.Read
seat_of sort.BlockStmtOrExpr = seat.Read
seat_of sort.VarDeclOrExpr = seat.Read
seat_of sort.Callee = seat.Called
seat_of sort.AssignTarget = seat.Target
seat_of sort.Pat = seat.Target
seat_of sort.ForHead = seat.Target
seat_of sort.ObjectPatProp = seat.Target
seat_of sort.PropOrSpread = seat.Property
seat_of sort.Prop = seat.Property
seat_of _ = seat.Other

abbrev pub seat_or_other : Option FieldShape → Seat
seat_or_other (Some child) = seat_of child.shape.sort
seat_or_other None = seat.Other

-- the seat of the child at an index by its sort; a child that nodes of the kind do not have sits in no other
abbrev pub child_seat : Kind → ℕ → Seat
child_seat kind i = seat_or_other (slice_get (field_shapes kind) i)

abbrev pub first_as : Seat → Kind → ℕ → Seat
first_as first kind i = if i == 0 then first else child_seat kind i

-- the seat of the child at an index in a node of this kind and seat; a list hands its own on
--   let a = b; let [c] = d;   // a is declared and stays, c is written to
--   f`b`;                     // f is called
unfoldable pub seat_in : Seat → Kind → ℕ → Seat
seat_in s kind.List i = s
seat_in s kind.SeqExpr i = seat.Read
seat_in s kind.TaggedTpl i = first_as seat.Called kind.TaggedTpl i
seat_in s (kind.VarDeclarator definite) i = first_as seat.Declared (kind.VarDeclarator definite) i
seat_in s k i = child_seat k i
