-- Seats: what a node is there for. The seat of a node is the shape that its parent asks at its index, and that of a root is told by what it is taken for.
use Rattle.std.specs.Prelude.{ℕ, Bool, true, false, ◌&&◌, Option, length, slice_get}
use Rattle.ecma_kind.specs.Sorts.{belongs}
use Rattle.ecma_kind.specs.declared.kind.Kind.{Kind}
use Rattle.ecma_kind.specs.declared.kind.Kind.TheVariants.{Ident}
use Rattle.ecma_kind.specs.declared.shapes.Shape.{Shape}
use Rattle.ecma_kind.specs.declared.shapes.Sort.{Sort}
use Rattle.ecma_kind.specs.declared.shapes.Sort.TheVariants as sort
use Rattle.ecma_tree.specs.Sorted.{child_shapes, one}
use Rattle.ecma_tree.specs.declared.node.Node.{Node, out-Node}
use Rattle.ecma_tree.specs.declared.node_ref.NodeRef.{NodeRef}
use Rattle.ecma_tree.specs.declared.node_ref.NodeRef.TheVariants as part

-- the seat of the child at an index, in a node that has this seat; none where nodes of the kind have no such child
abbrev pub seat_at : Shape → Node → ℕ → Option Shape
seat_at seat node i = slice_get (child_shapes (out-Node node).kind seat (length (out-Node node).children)) i

abbrev root_sort : NodeRef → Sort
root_sort (part.Module node) = sort.Module
root_sort (part.Item node) = sort.ModuleItem
root_sort (part.Items nodes) = sort.ModuleItem
root_sort (part.Stmt node) = sort.Stmt
root_sort (part.Stmts nodes) = sort.Stmt
root_sort (part.Expr node) = sort.Expr
root_sort (part.Pat node) = sort.Pat
root_sort (part.Function node) = sort.Function
root_sort (part.Arrow node) = sort.Expr
root_sort (part.Class node) = sort.Class
root_sort (part.VarDecl node) = sort.Decl

-- the seat of each node that is referred to; an arrow function is an expression
abbrev pub root_seat : NodeRef → Shape
root_seat ref = one (root_sort ref)

-- whether expressions sit in a seat of this sort: as an expression, an argument or an element, a callee, the body of an arrow function, the head of a loop, or
-- what is assigned to within a pattern
abbrev pub seats_expressions : Sort → Bool
seats_expressions sort.Expr = true
seats_expressions sort.ExprOrSpread = true
seats_expressions sort.Callee = true
seats_expressions sort.BlockStmtOrExpr = true
seats_expressions sort.VarDeclOrExpr = true
seats_expressions sort.ForHead = true
seats_expressions sort.Pat = true
seats_expressions _ = false

-- a node of this kind is an expression in this seat
--   a = b;   // `b` is one, and the assignment; `a` stands where a target is asked for
abbrev pub is_expression : Shape → Kind → Bool
is_expression seat kind = seats_expressions seat.sort && belongs sort.Expr kind

abbrev pub seats_properties : Sort → Bool
seats_properties sort.PropOrSpread = true
seats_properties sort.Prop = true
seats_properties _ = false

abbrev is_ident : Kind → Bool
is_ident (Ident sym ctxt optional) = true
is_ident _ = false

-- it is a property that is a name alone, as in `{ a }`
abbrev pub is_shorthand : Shape → Kind → Bool
is_shorthand seat kind = seats_properties seat.sort && is_ident kind
