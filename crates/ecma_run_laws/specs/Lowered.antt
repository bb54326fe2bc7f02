-- Trees in which the blocks of namespaces are written as functions that are called where they stand.
use Rattle.std.specs.Prelude.{List, [], ◌∷◌, false, cond}
use Rattle.ecma_kind.specs.declared.kind.Kind.{Kind}
use Rattle.ecma_kind.specs.declared.kind.Kind.TheVariants as kind
use Rattle.ecma_tree.specs.declared.node.Node.{Node, Node-F, roll-Node}
use Rattle.ecma_tree.specs.Nodes.{node_of, dummy_span, absent, list_node}
use Rattle.ecma_tree.specs.Rewritten.{rewritten}
use Rattle.ecma_runs.specs.Evaluation.{meaning}

-- a function without name and parameters, of whose body these are the statements
abbrev pub function_of : Node → Node
function_of items = node_of dummy_span (kind.Function false false) (list_node [] ∷ node_of dummy_span kind.BlockStmt (items ∷ []) ∷ absent ∷ absent ∷ [])

abbrev pub expression_of : Node → Node
expression_of items = node_of dummy_span kind.FnExpr (absent ∷ function_of items ∷ [])

abbrev pub call_of : Node → Node
call_of items = node_of dummy_span kind.CallExpr (expression_of items ∷ list_node [] ∷ absent ∷ [])

-- (function () { .. })();
abbrev pub called_function : Node → Node
called_function items = node_of dummy_span kind.ExprStmt (call_of items ∷ [])

-- a block is such a call, but one of types alone, which is not written
abbrev pub lowered_by : Kind → List Node → Node-F Node → Node
lowered_by kind.TsModuleBlock (items ∷ []) parts = cond (meaning items).is_type (roll-Node parts) (called_function items)
lowered_by k children parts = roll-Node parts

abbrev pub lowered_node : Node-F Node → Node
lowered_node parts = lowered_by parts.kind parts.children parts

-- the tree with its blocks as such calls, from the leaves up
abbrev pub lowered : Node → Node
lowered = rewritten lowered_node
