-- Sorts of the trees that the grammar gives. They are the sorts of the tables (ecma_kind), but wider where the grammar alone cannot tell:
--   what is assigned to may be any expression;
--   `super` may stand where an expression stands, and before a private name;
--   a parameter property may stand in each list of parameters, with any pattern in it;
--   a getter may keep parameters behind its children, and a setter may have a list of all its parameters where its one stands.
use Rattle.std.specs.Prelude.{◌≡◌, ℕ, zero, suc, Bool, true, false, ◌&&◌, ◌||◌, nat_eq, List, [], ◌∷◌, map, length, replicate, if◌then◌else◌}
use Rattle.ecma_kind.specs.Shapes.{field_shapes}
use Rattle.ecma_kind.specs.Sorts.{belongs}
use Rattle.ecma_kind.specs.declared.kind.Kind.{Kind}
use Rattle.ecma_kind.specs.declared.kind.Kind.TheVariants as kind
use Rattle.ecma_kind.specs.declared.shapes.Count.{Count}
use Rattle.ecma_kind.specs.declared.shapes.Count.TheVariants.{One, Maybe, Many, MaybeMany, Holes}
use Rattle.ecma_kind.specs.declared.shapes.FieldShape.{FieldShape}
use Rattle.ecma_kind.specs.declared.shapes.Sort.{Sort}
use Rattle.ecma_kind.specs.declared.shapes.Sort.TheVariants as sort
use Rattle.ecma_tree.specs.Sorted.{is_absent, is_list, item_count}
use Rattle.ecma_tree.specs.declared.node.Node.{Node, Node-F, fold-Node}

-- a sort of the tables; a parameter, which is a pattern or a parameter property; the parameter of a setter, or all of them
pub data RawSort : Type 0 where
  sorted : Sort → RawSort
  parameter setter_parameter : RawSort

pub record RawShape : Type 0 where
  pub count : Count
  pub sort : RawSort

abbrev pub shape_of : Count → RawSort → RawShape
shape_of count sort = record { count = count; sort = sort }

abbrev pub one : RawSort → RawShape
one = shape_of One

abbrev pub maybe : RawSort → RawShape
maybe = shape_of Maybe

abbrev pub many : RawSort → RawShape
many = shape_of Many

abbrev pub is_super : Kind → Bool
is_super kind.Super = true
is_super _ = false

abbrev pub is_parameter_property : Kind → Bool
is_parameter_property (kind.TsParamProp _ _ _) = true
is_parameter_property _ = false

-- `super` may stand where `this` may
abbrev pub belongs_or_super : Sort → Kind → Bool
belongs_or_super s k = belongs s k || (is_super k && belongs s kind.ThisExpr)

-- whether a kind is of a sort
abbrev pub belongs_raw : RawSort → Kind → Bool
belongs_raw (sorted s) k = belongs_or_super s k
belongs_raw parameter k = belongs_or_super sort.Pat k || is_parameter_property k
belongs_raw setter_parameter k = belongs_or_super sort.Pat k || (is_parameter_property k || is_list k)

abbrev pub allows_by : Count → RawSort → Kind → Bool
allows_by One sort kind = belongs_raw sort kind
allows_by Maybe sort kind = is_absent kind || belongs_raw sort kind
allows_by Many sort kind = is_list kind
allows_by MaybeMany sort kind = is_absent kind || is_list kind
allows_by Holes sort kind = is_list kind

-- whether a node of a shape may have this kind
abbrev pub allows_raw : RawShape → Kind → Bool
allows_raw shape kind = allows_by shape.count shape.sort kind

-- the sort of a child where the tables ask for one
abbrev pub widened : Sort → RawSort
widened sort.AssignTarget = sorted sort.Expr
widened sort.SuperProp = sorted sort.MemberProp
widened sort.Param = sorted sort.ParamOrTsParamProp
widened sort.TsParamPropParam = sorted sort.Pat
widened s = sorted s

abbrev pub widened_shape : FieldShape → RawShape
widened_shape child = shape_of child.shape.count (widened child.shape.sort)

-- the shapes of the n children of a node of this kind
abbrev pub field_shapes_raw : Kind → ℕ → List RawShape
field_shapes_raw (kind.ArrowExpr _ _) n = many parameter ∷ one (sorted sort.BlockStmtOrExpr) ∷ maybe (sorted sort.TsTypeParamDecl) ∷ maybe (sorted sort.TsTypeAnn) ∷ []
field_shapes_raw kind.GetterProp n =
    one (sorted sort.PropName) ∷ maybe (sorted sort.TsTypeAnn) ∷ maybe (sorted sort.BlockStmt) ∷ (if nat_eq n 4 then many parameter ∷ [] else [])
field_shapes_raw kind.SetterProp n =
    one (sorted sort.PropName) ∷ maybe (sorted sort.Pat) ∷ one setter_parameter ∷ maybe (sorted sort.BlockStmt) ∷ []
field_shapes_raw k n = map widened_shape (field_shapes k)

-- each item of a list of parameters is one
abbrev pub item_sort : RawSort → RawSort
item_sort setter_parameter = parameter
item_sort s = s

abbrev pub item_shape : RawShape → RawShape
item_shape shape = shape_of (item_count shape.count) (item_sort shape.sort)

-- the same, where it may be a list or a sequence
abbrev pub child_shapes_raw : Kind → RawShape → ℕ → List RawShape
child_shapes_raw kind.List shape n = replicate n (item_shape shape)
child_shapes_raw kind.SeqExpr shape zero = one (sorted sort.Expr) ∷ []
child_shapes_raw kind.SeqExpr shape (suc n) = replicate (suc n) (one (sorted sort.Expr))
child_shapes_raw kind shape n = field_shapes_raw kind n

-- each child has its shape, and there are no others
abbrev pub all_have_shapes : List RawShape → List (RawShape → Bool) → Bool
all_have_shapes [] [] = true
all_have_shapes (shape ∷ shapes) (has ∷ others) = has shape && all_have_shapes shapes others
all_have_shapes _ _ = false

abbrev pub has_raw_shape_by : Node-F (RawShape → Bool) → RawShape → Bool
has_raw_shape_by parts shape = allows_raw shape parts.kind && all_have_shapes (child_shapes_raw parts.kind shape (length parts.children)) parts.children

-- whether a node has a shape
abbrev pub has_raw_shape : Node → RawShape → Bool
has_raw_shape = fold-Node (RawShape → Bool) has_raw_shape_by

abbrev pub HasRawShape : RawShape → Node → Type 0
HasRawShape shape node = has_raw_shape node shape ≡ true

abbrev pub HasRawSort : Sort → Node → Type 0
HasRawSort s = HasRawShape (one (sorted s))
