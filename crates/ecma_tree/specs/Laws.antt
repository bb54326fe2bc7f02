-- Laws of shapes and sorts: what makes a node of a shape, and what keeps the shape of a tree.
use Rattle.std.specs.Prelude.{◌≡◌, ◌↔◌, ℕ, true, List, [], ◌∷◌, length, Option, IfSome}
use Rattle.std.specs.List.{All}
use Rattle.ecma_kind.specs.Sorts.{belongs}
use Rattle.ecma_kind.specs.declared.span.Span.{Span}
use Rattle.ecma_kind.specs.declared.kind.Kind.{Kind}
use Rattle.ecma_kind.specs.declared.shapes.Shape.{Shape}
use Rattle.ecma_kind.specs.declared.shapes.Sort.{Sort}
use Rattle.ecma_tree.specs.declared.node.Node.{Node}
use Rattle.ecma_tree.specs.Changing.{changed}
use Rattle.ecma_tree.specs.Contexts.{with_contexts}
use Rattle.ecma_tree.specs.Nodes.{list_node, list_or_absent, node_of, or_absent}
use Rattle.ecma_tree.specs.Sorted.{HasShape, HasSort, allows, child_shapes, has_shape, many, maybe, maybe_many, one, with_holes}
use Rattle.ecma_tree.specs.Spans.{without_spans}

-- nodes that have these shapes, one each
abbrev pub HaveShapes : List Shape → List Node → Type 0
HaveShapes [] [] = Unit
HaveShapes (shape ∷ shapes) (node ∷ nodes) = HasShape shape node × HaveShapes shapes nodes
HaveShapes _ _ = ⊥

-- a node has a shape exactly where the shape allows its kind, and its children have the shapes that the kind asks of them
abbrev pub NodeHasShape : Type 0
NodeHasShape = (span : Span) (kind : Kind) (children : List Node) (shape : Shape) →
    HasShape shape (node_of span kind children) ↔ ((allows shape kind ≡ true) × HaveShapes (child_shapes kind shape (length children)) children)

-- so it is of a sort that its kind belongs to, where its children have the shapes that the kind asks of them
abbrev pub NodeHasSort : Type 0
NodeHasSort = (span : Span) (kind : Kind) (children : List Node) (sort : Sort) → belongs sort kind ≡ true →
    HaveShapes (child_shapes kind (one sort) (length children)) children → HasSort sort (node_of span kind children)

-- a child that may be missing has its shape where it is missing, and where it is there and of the sort
abbrev pub OptionalChildHasShape : Type 0
OptionalChildHasShape = (sort : Sort) (child : Option Node) → IfSome child (HasSort sort) → HasShape (maybe sort) (or_absent child)

-- a list has its shape exactly where each item is of the sort
abbrev pub ListHasShape : Type 0
ListHasShape = (sort : Sort) (items : List Node) → HasShape (many sort) (list_node items) ↔ All (HasSort sort) items

-- where holes are allowed, exactly where each item is of the sort or missing
abbrev pub ListWithHolesHasShape : Type 0
ListWithHolesHasShape = (sort : Sort) (items : List Node) → HasShape (with_holes sort) (list_node items) ↔ All (HasShape (maybe sort)) items

abbrev pub OptionalListHasShape : Type 0
OptionalListHasShape = (sort : Sort) (list : Option (List Node)) → IfSome list (All (HasSort sort)) → HasShape (maybe_many sort) (list_or_absent list)

-- a change of kinds that keeps what each kind may be and what it asks of its children
pub record KeepsShapes (kind_to : Kind → Kind) : Type 0 where
  pub allowed : (shape : Shape) (kind : Kind) → allows shape (kind_to kind) ≡ allows shape kind
  pub asked : (kind : Kind) (shape : Shape) (n : ℕ) → child_shapes (kind_to kind) shape n ≡ child_shapes kind shape n

-- a change of spans and of kinds, of kinds by one that keeps shapes, keeps the shape of every tree
abbrev pub ChangesKeepShapes : Type 0
ChangesKeepShapes = (span_to : Span → Span) (kind_to : Kind → Kind) → KeepsShapes kind_to → (tree : Node) (shape : Shape) →
    has_shape (changed span_to kind_to tree) shape ≡ has_shape tree shape

-- so trees keep every sort where spans are dropped
abbrev pub SpansKeepSorts : Type 0
SpansKeepSorts = (tree : Node) (sort : Sort) → HasSort sort (without_spans tree) ↔ HasSort sort tree

-- and where contexts change
abbrev pub ContextsKeepSorts : Type 0
ContextsKeepSorts = (context_of : List ℕ → ℕ → ℕ) (tree : Node) (sort : Sort) → HasSort sort (with_contexts context_of tree) ↔ HasSort sort tree
