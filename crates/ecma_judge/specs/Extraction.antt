-- The effects of an expression without its value: what is left to evaluate, in order, where the value is not wanted.
use Rattle.std.specs.Prelude.{◌≡◌, Bool, true, false, ◌&&◌, List, [], ◌∷◌, ◌++◌, codes, flat_map, get_or, if◌then◌else◌, map}
use Rattle.std.specs.List.{filter, list_any}
use Rattle.ecma_kind.specs.declared.kind.Kind.{Kind}
use Rattle.ecma_kind.specs.declared.kind.Kind.TheVariants as kind
use Rattle.ecma_kind.specs.declared.operators.BinaryOp.{BinaryOp}
use Rattle.ecma_kind.specs.declared.operators.BinaryOp.TheVariants.{LogicalOr, LogicalAnd, NullishCoalescing}
use Rattle.ecma_kind.specs.declared.operators.UnaryOp.{UnaryOp}
use Rattle.ecma_kind.specs.declared.operators.UnaryOp.TheVariants as unary
use Rattle.ecma_kind.specs.declared.span.Span.{Span}
use Rattle.ecma_tree.specs.Layers.{from_leaves}
use Rattle.ecma_tree.specs.Nodes.{node_of}
use Rattle.ecma_tree.specs.declared.node.Node.{Node, Node-F, fold-Node, out-Node}
use Rattle.ecma_judge.specs.declared.ctx.ExprCtx.{ExprCtx}
use Rattle.ecma_judge.specs.declared.ways.Way.{Way}
use Rattle.ecma_judge.specs.declared.ways.Way.TheVariants as way
use Rattle.ecma_judge.specs.Contexts.{is_global}
use Rattle.ecma_judge.specs.Judged.{judged}
use Rattle.ecma_judge.specs.Parts.{has_kind, has_no_items, is_spread, passes_at}

-- ---- what is left of a node

-- a name, parentheses and types round it aside
unfoldable pub is_name_by : Kind → List Bool → Bool
is_name_by (kind.Ident sym ctxt optional) kids = true
is_name_by kind.ParenExpr kids = get_or kids 0 false
is_name_by kind.TsTypeAssertion kids = get_or kids 0 false
is_name_by kind.TsConstAssertion kids = get_or kids 0 false
is_name_by kind.TsNonNullExpr kids = get_or kids 0 false
is_name_by kind.TsAsExpr kids = get_or kids 0 false
is_name_by kind.TsInstantiation kids = get_or kids 0 false
is_name_by kind.TsSatisfiesExpr kids = get_or kids 0 false
is_name_by _ kids = false

abbrev pub is_name_step : Node-F Bool → Bool
is_name_step parts = is_name_by parts.kind parts.children

abbrev pub is_name : Node → Bool
is_name = fold-Node Bool is_name_step

-- `delete` does something itself, and `typeof` with a name never throws
abbrev pub unary_way : UnaryOp → Node → Way
unary_way unary.Delete n = way.Whole
unary_way unary.TypeOf n = if passes_at is_name 0 n then way.Nothing else way.Parts
unary_way _ n = way.Parts

-- its right side may not be evaluated
abbrev pub binary_way : BinaryOp → Way
binary_way LogicalOr = way.Whole
binary_way LogicalAnd = way.Whole
binary_way NullishCoalescing = way.Whole
binary_way _ = way.Parts

abbrev pub has_spread : Node → Bool
has_spread items = list_any (has_kind is_spread) (out-Node items).children

-- a spread and `a = e` stay in the object
abbrev pub is_kept : Kind → Bool
is_kept kind.SpreadElement = true
is_kept kind.AssignProp = true
is_kept _ = false

abbrev pub has_kept : Node → Bool
has_kept properties = list_any (has_kind is_kept) (out-Node properties).children

abbrev pub is_date : ExprCtx → Node → Bool
is_date ctx n = is_global ctx (codes "Date") (out-Node n).kind

--   new Date()
abbrev pub makes_date : ExprCtx → Node → Bool
makes_date ctx n = passes_at (is_date ctx) 0 n && passes_at has_no_items 1 n

abbrev pub name_way : ExprCtx → Node → Way
name_way ctx n = if (judged ctx n).effects then way.Whole else way.Nothing

abbrev pub array_way : Node → Way
array_way n = if passes_at has_spread 0 n then way.Whole else way.Parts

abbrev pub object_way : Node → Way
object_way n = if passes_at has_kept 0 n then way.Kept else way.Parts

abbrev pub new_way : ExprCtx → Node → Way
new_way ctx n = if makes_date ctx n then way.Nothing else way.Whole

-- of properties, keys and lists
unfoldable pub part_way_by : Kind → Way
part_way_by kind.Absent = way.Nothing
part_way_by kind.List = way.Parts
part_way_by (kind.IdentName sym) = way.Nothing
part_way_by kind.ComputedPropName = way.Parts
part_way_by kind.KeyValueProp = way.Parts
part_way_by kind.GetterProp = way.First
part_way_by kind.SetterProp = way.First
part_way_by kind.MethodProp = way.First
part_way_by _ = way.Whole

-- of expressions
unfoldable pub way_by : ExprCtx → Kind → Node → Way
way_by ctx (kind.Ident sym ctxt optional) n = name_way ctx n
way_by ctx (kind.Str value raw) n = way.Nothing
way_by ctx (kind.Bool value) n = way.Nothing
way_by ctx kind.Null n = way.Nothing
way_by ctx (kind.Number value raw) n = way.Nothing
way_by ctx (kind.BigInt value raw) n = way.Nothing
way_by ctx (kind.Regex exp flags) n = way.Nothing
way_by ctx kind.ThisExpr n = way.Nothing
way_by ctx (kind.PrivateName name) n = way.Nothing
way_by ctx kind.FnExpr n = way.Nothing
way_by ctx (kind.ArrowExpr is_async is_generator) n = way.Nothing
way_by ctx (kind.UnaryExpr op) n = unary_way op n
way_by ctx (kind.BinExpr op) n = binary_way op
way_by ctx kind.SeqExpr n = way.Parts
way_by ctx kind.ParenExpr n = way.Parts
way_by ctx kind.TsTypeAssertion n = way.First
way_by ctx kind.TsConstAssertion n = way.First
way_by ctx kind.TsNonNullExpr n = way.First
way_by ctx kind.TsAsExpr n = way.First
way_by ctx kind.TsInstantiation n = way.First
way_by ctx kind.TsSatisfiesExpr n = way.First
way_by ctx kind.Tpl n = way.First
way_by ctx kind.ArrayLit n = array_way n
way_by ctx kind.ObjectLit n = object_way n
way_by ctx kind.NewExpr n = new_way ctx n
way_by ctx k n = part_way_by k

abbrev pub way_of : ExprCtx → Node → Way
way_of ctx n = way_by ctx (out-Node n).kind n

-- ---- what is extracted

abbrev pub may_have_effects : ExprCtx → Node → Bool
may_have_effects ctx n = (judged ctx n).effects

-- of properties those with effects
abbrev pub kept_items : ExprCtx → List Node → List Node
kept_items ctx ns = filter (may_have_effects ctx) ns

abbrev pub kept_list : ExprCtx → Node → Node
kept_list ctx list = node_of (out-Node list).span (out-Node list).kind (kept_items ctx (out-Node list).children)

abbrev pub kept_lists : ExprCtx → List Node → List Node
kept_lists ctx lists = map (kept_list ctx) lists

-- an object with those properties alone that have effects, all spreads among them
abbrev pub kept : ExprCtx → Node → Node
kept ctx object = node_of (out-Node object).span (out-Node object).kind (kept_lists ctx (out-Node object).children)

-- by what is extracted of its children
abbrev pub given : ExprCtx → Way → Node → List (List Node) → List Node
given ctx way.Nothing n kids = []
given ctx way.Whole n kids = n ∷ []
given ctx way.Parts n kids = flat_map (λ x. x) kids
given ctx way.First n kids = get_or kids 0 []
given ctx way.Kept n kids = kept ctx n ∷ []

abbrev pub extracted_by : ExprCtx → Node → List (List Node) → List Node
extracted_by ctx n kids = given ctx (way_of ctx n) n kids

unfoldable pub extracted : ExprCtx → Node → List Node
extracted ctx = from_leaves (List Node) (extracted_by ctx)

abbrev pub extracted_all : ExprCtx → List Node → List Node
extracted_all ctx ns = flat_map (extracted ctx) ns

abbrev pub extracted_parts : ExprCtx → Node → List Node
extracted_parts ctx n = extracted_all ctx (out-Node n).children

abbrev pub extracted_first : ExprCtx → Node → List Node
extracted_first ctx n = get_or (map (extracted ctx) (out-Node n).children) 0 []

-- ---- effects in front of a value

abbrev pub in_front : Span → List Node → Node → Node
in_front span [] val = val
in_front span (e ∷ es) val = node_of span kind.SeqExpr ((e ∷ es) ++ val ∷ [])

-- the effects of the expressions, and then the value
abbrev pub preserved : ExprCtx → Span → Node → List Node → Node
preserved ctx span val exprs = in_front span (extracted_all ctx exprs) val

-- a list begins with another
pub record IsFront (front whole : List Node) : Type 0 where
  pub rest : List Node
  pub is : whole ≡ front ++ rest
