-- What is written in the place of a function. In what is written here F is that function, n its own name, b the name that it gets where it stands, and ps what
-- stands for the parameters that count.
use Rattle.std.specs.Prelude.{ℕ, false, List, [], ◌∷◌, ◌++◌, Option, Some, None, codes}
use Rattle.std.specs.Option.{option_map}
use Rattle.ecma_kind.specs.declared.ident.Ident.{Ident}
use Rattle.ecma_kind.specs.declared.kind.Kind.TheVariants as kind
use Rattle.ecma_kind.specs.declared.operators.AssignOp.TheVariants.{Assign}
use Rattle.ecma_kind.specs.declared.operators.VarDeclKind.TheVariants.{Var}
use Rattle.ecma_tree.specs.Idents.{ident_node}
use Rattle.ecma_tree.specs.Nodes.{absent, dummy_span, list_node, node_of, or_absent}
use Rattle.ecma_tree.specs.declared.node.Node.{Node}
use Rattle.ecma_utils.specs.Expressions.{apply_of, assign_of, block_of, call_of, expr_stmt_of, return_stmt_of, var_decl_of}
use Rattle.ecma_utils.specs.Functions.{function_decl_of, function_expr_of}
use Rattle.ecma_utils.specs.Quotes.{quoted_ident}
use Rattle.ecma_function_parts.specs.Written.{arguments_node, binding_of, this_node}

-- ---- the function that calls F

-- the name of F where it is called
--   _n   _ref
abbrev pub ref_ident : Option Ident → ℕ → Ident
ref_ident (Some name) ctxt = quoted_ident ctxt name.span (codes "_" ++ name.sym)
ref_ident None ctxt = quoted_ident ctxt dummy_span (codes "_ref")

--   return _ref.apply(this, arguments);
abbrev pub applied : Ident → Node
applied ref = return_stmt_of (apply_of dummy_span (ident_node ref) this_node (arguments_node ∷ []))

--   function(ps) { s }
abbrev pub function_with : List Node → List Node → Node
function_with params stmts = node_of dummy_span (kind.Function false false) (list_node params ∷ block_of stmts ∷ absent ∷ absent ∷ [])

--   function(ps) { return _ref.apply(this, arguments); }
abbrev pub forward : List Node → Ident → Node
forward params ref = function_with params (applied ref ∷ [])

--   function n(ps) { return _n.apply(this, arguments); }   with this name or none, as an expression and as a declaration
abbrev pub forward_expr : List Node → Ident → Option Ident → Node
forward_expr params ref name = function_expr_of (option_map ident_node name) (forward params ref)

abbrev pub forward_decl : List Node → Ident → Option Ident → Node
forward_decl params ref name = function_decl_of (or_absent (option_map ident_node name)) (forward params ref)

--   function _n() { _n = F; return _n.apply(this, arguments); }
abbrev pub ref_function : Ident → Node → Node
ref_function ref function =
    function_decl_of (ident_node ref) (function_with [] (expr_stmt_of (assign_of Assign (ident_node ref) function) ∷ applied ref ∷ []))

-- ---- as one expression

--   function() { s }()
abbrev pub called_at_once : List Node → Node
called_at_once stmts = call_of dummy_span (function_expr_of None (function_with [] stmts)) []

--   var _ref = F;
abbrev pub ref_var : Ident → Node → Node
ref_var ref function = var_decl_of Var (binding_of (ident_node ref)) function

--   function() { var _ref = F; return function b(ps) { return _ref.apply(this, arguments); }; }()
abbrev pub anonymous : Node → List Node → Option Ident → ℕ → Node
anonymous function params binding ctxt =
    let ref = ref_ident None ctxt in
    called_at_once (ref_var ref function ∷ return_stmt_of (forward_expr params ref binding) ∷ [])

--   function() { var _n = F; function n(ps) { return _n.apply(this, arguments); } return n; }()
abbrev pub with_own_name : Node → List Node → Ident → ℕ → Node
with_own_name function params name ctxt =
    let ref = ref_ident (Some name) ctxt in
    called_at_once (ref_var ref function ∷ forward_decl params ref (Some name) ∷ return_stmt_of (ident_node name) ∷ [])
