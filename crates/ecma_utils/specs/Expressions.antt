-- What is written of an expression e, each with the text that it prints. A node that is written has the span of what stands in no text,
-- where nothing else is said.
use Rattle.std.specs.Prelude.{ℕ, Bool, true, false, ◌&&◌, not, List, [], ◌∷◌, map, Option, Some, None, codes, if◌then◌else◌}
use Rattle.ecma_kind.specs.declared.kind.Kind.{Kind}
use Rattle.ecma_kind.specs.declared.kind.Kind.TheVariants as kind
use Rattle.ecma_kind.specs.declared.operators.AssignOp.{AssignOp}
use Rattle.ecma_kind.specs.declared.operators.BinaryOp.{BinaryOp}
use Rattle.ecma_kind.specs.declared.operators.VarDeclKind.{VarDeclKind}
use Rattle.ecma_kind.specs.declared.span.Span.{Span}
use Rattle.ecma_tree.specs.declared.node.Node.{Node, out-Node}
use Rattle.ecma_tree.specs.Nodes.{absent, dummy_span, list_node, list_or_absent, node_of}
use Rattle.ecma_tree.specs.Sorted.{is_absent}
use Rattle.ecma_utils.specs.Functions.{function_expr_of}

-- ---- statements

--   e;
abbrev pub expr_stmt_of : Node → Node
expr_stmt_of e = node_of dummy_span kind.ExprStmt (e ∷ [])

--   return e;
abbrev pub return_stmt_of : Node → Node
return_stmt_of e = node_of dummy_span kind.ReturnStmt (e ∷ [])

--   { s }
abbrev pub block_of : List Node → Node
block_of stmts = node_of dummy_span kind.BlockStmt (list_node stmts ∷ [])

--   let p = e
abbrev pub var_decl_of : VarDeclKind → Node → Node → Node
var_decl_of word p e = node_of dummy_span (kind.VarDecl word false) (list_node (node_of dummy_span (kind.VarDeclarator false) (p ∷ e ∷ []) ∷ []) ∷ [])

-- ---- calls and members

--   e(args)
abbrev pub call_of : Span → Node → List Node → Node
call_of span e args = node_of span kind.CallExpr (e ∷ list_node args ∷ absent ∷ [])

--   new e(args)
abbrev pub new_of : Span → Node → Option (List Node) → Node
new_of span e args = node_of span kind.NewExpr (e ∷ list_or_absent args ∷ absent ∷ [])

--   e.key
abbrev pub member_of : Node → Node → Node
member_of e key = node_of dummy_span kind.MemberExpr (e ∷ key ∷ [])

--   e[p]
abbrev pub computed_member_of : Node → Node → Node
computed_member_of e p = member_of e (node_of dummy_span kind.ComputedPropName (p ∷ []))

-- a key of this text
abbrev pub key_of : Span → List ℕ → Node
key_of span text = node_of span (kind.IdentName text) []

--   e.apply(this, args)
abbrev pub apply_of : Span → Node → Node → List Node → Node
apply_of span e this args = call_of span (member_of e (key_of span (codes "apply"))) (this ∷ args)

--   e.call(args)
abbrev pub call_method_of : Span → Node → List Node → Node
call_method_of span e args = call_of span (member_of e (key_of span (codes "call"))) args

-- ---- functions that give it

--   (params) => e
abbrev pub lazy_arrow_of : List Node → Node → Node
lazy_arrow_of params e = node_of dummy_span (kind.ArrowExpr false false) (list_node params ∷ e ∷ absent ∷ absent ∷ [])

--   function(params) { return e; }
abbrev pub lazy_function_of : List Node → Node → Node
lazy_function_of params e = node_of dummy_span (kind.Function false false) (list_node params ∷ block_of (return_stmt_of e ∷ []) ∷ absent ∷ absent ∷ [])

abbrev pub param_of : Node → Node
param_of pattern = node_of dummy_span kind.Param (pattern ∷ [])

-- an arrow where they are supported, else a function
--   (params) => e
--   function(params) { return e; }
abbrev pub lazy_of : Bool → List Node → Node → Node
lazy_of true patterns e = lazy_arrow_of patterns e
lazy_of false patterns e = function_expr_of None (lazy_function_of (map param_of patterns) e)

-- ---- operators

--   (e)
abbrev pub paren_of : Node → Node
paren_of e = node_of (out-Node e).span kind.ParenExpr (e ∷ [])

--   e + right
abbrev pub bin_of : BinaryOp → Node → Node → Node
bin_of op e right = node_of dummy_span (kind.BinExpr op) (e ∷ right ∷ [])

--   target = e
abbrev pub assign_of : AssignOp → Node → Node → Node
assign_of op target e = node_of dummy_span (kind.AssignExpr op) (target ∷ e ∷ [])

-- ---- declarations of a named function or class expression

abbrev pub is_there : Node → Bool
is_there node = not (is_absent (out-Node node).kind)

abbrev pub first_is_there : List Node → Bool
first_is_there [] = false
first_is_there (name ∷ others) = is_there name

abbrev pub with_kind : Kind → Node → Node
with_kind k node = node_of (out-Node node).span k (out-Node node).children

abbrev pub is_fn_expr : Kind → Bool
is_fn_expr kind.FnExpr = true
is_fn_expr _ = false

abbrev pub is_class_expr : Kind → Bool
is_class_expr kind.ClassExpr = true
is_class_expr _ = false

-- the declaration of the same name; it stands where the expression did
--   function f() {}
abbrev pub fn_decl_of : Node → Option Node
fn_decl_of e = if is_fn_expr (out-Node e).kind && first_is_there (out-Node e).children then Some (with_kind (kind.FnDecl false) e) else None

--   class C {}
abbrev pub class_decl_of : Node → Option Node
class_decl_of e = if is_class_expr (out-Node e).kind && first_is_there (out-Node e).children then Some (with_kind (kind.ClassDecl false) e) else None
