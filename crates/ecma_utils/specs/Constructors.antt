-- Constructors, and the test of an optional chain.
use Rattle.std.specs.Prelude.{Bool, false, List, [], ◌∷◌, None, codes, if◌then◌else◌}
use Rattle.ecma_kind.specs.declared.kind.Kind.TheVariants as kind
use Rattle.ecma_kind.specs.declared.operators.BinaryOp.TheVariants as op
use Rattle.ecma_kind.specs.declared.operators.UnaryOp.TheVariants.{Void}
use Rattle.ecma_kind.specs.declared.span.Span.{Span}
use Rattle.ecma_tree.specs.declared.node.Node.{Node}
use Rattle.ecma_tree.specs.Nodes.{absent, dummy_span, list_node, node_of}
use Rattle.ecma_utils.specs.Expressions.{bin_of, block_of, call_of, expr_stmt_of, key_of, param_of}
use Rattle.ecma_utils.specs.Indirect.{zero_node}

-- ---- the constructor of a class that has none (ECMAScript, 15.7.14)

--   args
abbrev pub args_node : Node
args_node = node_of dummy_span (kind.Ident (codes "args") 0 false) []

--   ...args
abbrev pub rest_args : Node
rest_args = param_of (node_of dummy_span kind.RestPat (node_of dummy_span kind.BindingIdent (args_node ∷ absent ∷ []) ∷ absent ∷ []))

--   super(...args);
abbrev pub super_call : Node
super_call = expr_stmt_of (call_of dummy_span (node_of dummy_span kind.Super []) (node_of dummy_span kind.SpreadElement (args_node ∷ []) ∷ []))

abbrev pub constructor_of : List Node → List Node → Node
constructor_of params stmts = node_of dummy_span (kind.Constructor None false) (key_of dummy_span (codes "constructor") ∷ list_node params ∷ block_of stmts ∷ [])

-- of a class that extends another, and of one that does not
--   constructor(...args) { super(...args); }
--   constructor() {}
abbrev pub default_constructor_of : Bool → Node
default_constructor_of has_super = if has_super then constructor_of (rest_args ∷ []) (super_call ∷ []) else constructor_of [] []

-- ---- whether an optional chain ends (ECMAScript, 13.3.9.1)

--   null
abbrev pub null_node : Node
null_node = node_of dummy_span kind.Null []

--   void 0
abbrev pub undefined_node : Node
undefined_node = node_of dummy_span (kind.UnaryExpr Void) (zero_node ∷ [])

--   left == null
abbrev pub loose_test : Span → Node → Node
loose_test span left = node_of span (kind.BinExpr op.EqEq) (left ∷ null_node ∷ [])

-- `document.all` equals null, and is not null or undefined
--   left === null || right === void 0
abbrev pub strict_test : Span → Node → Node → Node
strict_test span left right = node_of span (kind.BinExpr op.LogicalOr) (bin_of op.EqEqEq left null_node ∷ bin_of op.EqEqEq right undefined_node ∷ [])

abbrev pub opt_chain_test_of : Span → Bool → Node → Node → Node
opt_chain_test_of span no_document_all left right = if no_document_all then loose_test span left else strict_test span left right
