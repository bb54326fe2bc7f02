-- Which nodes have a shape, and so are of a sort: those whose kind the shape allows, with children that have the shapes that the kind asks of them.
use Rattle.std.specs.Prelude.{◌≡◌, ℕ, zero, suc, Bool, true, false, ◌&&◌, ◌||◌, List, [], ◌∷◌, map, length, replicate}
use Rattle.ecma_kind.specs.Shapes.{field_shapes}
use Rattle.ecma_kind.specs.Sorts.{belongs}
use Rattle.ecma_kind.specs.declared.kind.Kind.{Kind}
use Rattle.ecma_kind.specs.declared.kind.Kind.TheVariants.{Absent, List as ListKind, SeqExpr}
use Rattle.ecma_kind.specs.declared.shapes.Count.{Count}
use Rattle.ecma_kind.specs.declared.shapes.Count.TheVariants.{One, Maybe, Many, MaybeMany, Holes}
use Rattle.ecma_kind.specs.declared.shapes.Shape.{Shape}
use Rattle.ecma_kind.specs.declared.shapes.Sort.{Sort}
use Rattle.ecma_kind.specs.declared.shapes.Sort.TheVariants.{Expr}
use Rattle.ecma_tree.specs.declared.node.Node.{Node, Node-F, fold-Node}

-- the shapes of children: one node of a sort, one or none, several, several or none, several with holes
abbrev pub shape_of : Count → Sort → Shape
shape_of count sort = record { count = count; sort = sort }

abbrev pub one : Sort → Shape
one = shape_of One

abbrev pub maybe : Sort → Shape
maybe = shape_of Maybe

abbrev pub many : Sort → Shape
many = shape_of Many

abbrev pub maybe_many : Sort → Shape
maybe_many = shape_of MaybeMany

abbrev pub with_holes : Sort → Shape
with_holes = shape_of Holes

abbrev pub is_absent : Kind → Bool
is_absent Absent = true
is_absent _ = false

abbrev pub is_list : Kind → Bool
is_list ListKind = true
is_list _ = false

-- whether a node of a shape may have this kind
abbrev pub allows_by : Count → Sort → Kind → Bool
allows_by One sort kind = belongs sort kind
allows_by Maybe sort kind = is_absent kind || belongs sort kind
allows_by Many sort kind = is_list kind
allows_by MaybeMany sort kind = is_absent kind || is_list kind
allows_by Holes sort kind = is_list kind

abbrev pub allows : Shape → Kind → Bool
allows shape kind = allows_by shape.count shape.sort kind

-- how many nodes each item of a list may be
abbrev pub item_count : Count → Count
item_count Holes = Maybe
item_count _ = One

-- the shape of each item of a list of this shape
abbrev pub item_shape : Shape → Shape
item_shape shape = record { count = item_count shape.count; sort = shape.sort }

-- the shapes of the n children of a node of this kind and shape: of the items of a list, of the expressions of a sequence, which has at
-- least one, and else of the kind's own children
abbrev pub child_shapes : Kind → Shape → ℕ → List Shape
child_shapes ListKind shape n = replicate n (item_shape shape)
child_shapes SeqExpr shape zero = one Expr ∷ []
child_shapes SeqExpr shape (suc n) = replicate (suc n) (one Expr)
child_shapes kind shape n = map (λ child. child.shape) (field_shapes kind)

-- each child has its shape, and there are no others
abbrev pub all_have_shapes : List Shape → List (Shape → Bool) → Bool
all_have_shapes [] [] = true
all_have_shapes (shape ∷ shapes) (has ∷ others) = has shape && all_have_shapes shapes others
all_have_shapes _ _ = false

abbrev pub has_shape_by : Node-F (Shape → Bool) → Shape → Bool
has_shape_by parts shape = allows shape parts.kind && all_have_shapes (child_shapes parts.kind shape (length parts.children)) parts.children

-- whether a node has a shape
abbrev pub has_shape : Node → Shape → Bool
has_shape = fold-Node (Shape → Bool) has_shape_by

abbrev pub HasShape : Shape → Node → Type 0
HasShape shape node = has_shape node shape ≡ true

-- a node is of a sort: what swc's type of that name has
abbrev pub HasSort : Sort → Node → Type 0
HasSort sort = HasShape (one sort)
