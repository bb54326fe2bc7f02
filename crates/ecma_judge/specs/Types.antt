-- The type of an expression's value, where it is known.
use Rattle.std.specs.Prelude.{ℕ, Bool, true, false, ◌&&◌, ◌||◌, ◌==◌, List, bytes_eq, codes, length, if◌then◌else◌}
use Rattle.ecma_kind.specs.declared.kind.Kind.{Kind}
use Rattle.ecma_kind.specs.declared.kind.Kind.TheVariants as kind
use Rattle.ecma_kind.specs.declared.operators.AssignOp.{AssignOp}
use Rattle.ecma_kind.specs.declared.operators.AssignOp.TheVariants as assign
use Rattle.ecma_kind.specs.declared.operators.BinaryOp.{BinaryOp}
use Rattle.ecma_kind.specs.declared.operators.BinaryOp.TheVariants as binary
use Rattle.ecma_kind.specs.declared.operators.UnaryOp.{UnaryOp}
use Rattle.ecma_kind.specs.declared.operators.UnaryOp.TheVariants as unary
use Rattle.ecma_number.specs.Types.{casted_to_number_on_add}
use Rattle.ecma_number.specs.declared.types.JsType.{JsType}
use Rattle.ecma_number.specs.declared.types.JsType.TheVariants as js_type
use Rattle.ecma_number.specs.declared.value.Value.{Value}
use Rattle.ecma_number.specs.declared.value.Value.TheVariants.{Known, Unknown}
use Rattle.ecma_tree.specs.declared.node.Node.{Node, out-Node}
use Rattle.ecma_judge.specs.declared.ctx.ExprCtx.{ExprCtx}
use Rattle.ecma_judge.specs.Judgement.{Judged, kid}
use Rattle.ecma_judge.specs.Parts.{has_kind, is_array, is_text_literal, passes_at}
use Rattle.ecma_judge.specs.Values.{last_index}

abbrev pub same_type : JsType → JsType → Bool
same_type js_type.Undefined js_type.Undefined = true
same_type js_type.Null js_type.Null = true
same_type js_type.Bool js_type.Bool = true
same_type js_type.Str js_type.Str = true
same_type js_type.Symbol js_type.Symbol = true
same_type js_type.Num js_type.Num = true
same_type js_type.Obj js_type.Obj = true
same_type _ _ = false

-- the type that both have
abbrev pub common_type : Value JsType → Value JsType → Value JsType
common_type (Known left) (Known right) = if same_type left right then Known left else Unknown
common_type left right = Unknown

abbrev pub is_str : Value JsType → Bool
is_str (Known js_type.Str) = true
is_str _ = false

-- a text where a side is one, else a Number where both sides are added as Numbers
abbrev pub added_type : Value JsType → Value JsType → Value JsType
added_type left right =
    if is_str left || is_str right then Known js_type.Str
    else if casted_to_number_on_add left && casted_to_number_on_add right then Known js_type.Num
    else Unknown

abbrev pub unary_type : UnaryOp → JsType
unary_type unary.Minus = js_type.Num
unary_type unary.Plus = js_type.Num
unary_type unary.Tilde = js_type.Num
unary_type unary.Bang = js_type.Bool
unary_type unary.Delete = js_type.Bool
unary_type unary.TypeOf = js_type.Str
unary_type unary.Void = js_type.Undefined

abbrev pub binary_type : BinaryOp → Value JsType → Value JsType → Value JsType
binary_type binary.Sub left right = Known js_type.Num
binary_type binary.Mul left right = Known js_type.Num
binary_type binary.Div left right = Known js_type.Num
binary_type binary.Mod left right = Known js_type.Num
binary_type binary.Exp left right = Known js_type.Num
binary_type binary.BitOr left right = Known js_type.Num
binary_type binary.BitXor left right = Known js_type.Num
binary_type binary.BitAnd left right = Known js_type.Num
binary_type binary.LShift left right = Known js_type.Num
binary_type binary.RShift left right = Known js_type.Num
binary_type binary.ZeroFillRShift left right = Known js_type.Num
binary_type binary.Add left right = added_type left right
binary_type binary.LogicalOr left right = common_type left right
binary_type binary.LogicalAnd left right = common_type left right
binary_type binary.NullishCoalescing left right = Unknown
binary_type _ left right = Known js_type.Bool

-- by the type of the right side
abbrev pub assigned_type : AssignOp → Value JsType → Value JsType
assigned_type assign.Assign right = right
assigned_type assign.AddAssign right = if is_str right then Known js_type.Str else Unknown
assigned_type assign.AndAssign right = Unknown
assigned_type assign.OrAssign right = Unknown
assigned_type assign.NullishAssign right = Unknown
assigned_type _ right = Known js_type.Num

abbrev pub is_number_name : List ℕ → Bool
is_number_name sym = bytes_eq sym (codes "NaN") || bytes_eq sym (codes "Infinity")

abbrev pub name_type : ExprCtx → List ℕ → ℕ → Value JsType
name_type ctx sym ctxt =
    if ctxt == ctx.unresolved_ctxt && bytes_eq sym (codes "undefined") then Known js_type.Undefined
    else if ctxt == ctx.unresolved_ctxt && is_number_name sym then Known js_type.Num
    else Unknown

abbrev pub is_length : Kind → Bool
is_length (kind.IdentName sym) = bytes_eq sym (codes "length")
is_length _ = false

abbrev pub has_length : Kind → Bool
has_length k = is_text_literal k || is_array k

--   "a".length
--   [a].length
abbrev pub member_type : Node → Value JsType
member_type n = if passes_at (has_kind has_length) 0 n && passes_at (has_kind is_length) 1 n then Known js_type.Num else Unknown

unfoldable pub type_by : ExprCtx → Kind → Node → List Judged → Value JsType
type_by ctx (kind.Ident sym ctxt optional) n kids = name_type ctx sym ctxt
type_by ctx (kind.Number value raw) n kids = Known js_type.Num
type_by ctx (kind.Bool value) n kids = Known js_type.Bool
type_by ctx (kind.Str value raw) n kids = Known js_type.Str
type_by ctx kind.Null n kids = Known js_type.Null
type_by ctx (kind.Regex exp flags) n kids = Known js_type.Obj
type_by ctx kind.Tpl n kids = Known js_type.Str
type_by ctx kind.FnExpr n kids = Known js_type.Obj
type_by ctx kind.NewExpr n kids = Known js_type.Obj
type_by ctx kind.ArrayLit n kids = Known js_type.Obj
type_by ctx kind.ObjectLit n kids = Known js_type.Obj
type_by ctx (kind.UnaryExpr op) n kids = Known (unary_type op)
type_by ctx (kind.UpdateExpr op prefix) n kids = Known js_type.Num
type_by ctx (kind.BinExpr op) n kids = binary_type op (kid kids 0).type (kid kids 1).type
type_by ctx (kind.AssignExpr op) n kids = assigned_type op (kid kids 1).type
type_by ctx kind.CondExpr n kids = common_type (kid kids 1).type (kid kids 2).type
type_by ctx kind.SeqExpr n kids = (kid kids (last_index (length (out-Node n).children))).type
type_by ctx kind.MemberExpr n kids = member_type n
type_by ctx _ n kids = Unknown
