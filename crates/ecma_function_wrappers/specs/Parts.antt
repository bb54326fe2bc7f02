-- The parts of functions, and arrow functions as functions.
use Rattle.std.specs.Prelude.{ℕ, Bool, true, false, List, [], ◌∷◌, map, get_or, if◌then◌else◌}
use Rattle.ecma_kind.specs.declared.kind.Kind.{Kind}
use Rattle.ecma_kind.specs.declared.kind.Kind.TheVariants as kind
use Rattle.ecma_tree.specs.Nodes.{absent, list_node, node_of}
use Rattle.ecma_tree.specs.declared.node.Node.{Node, out-Node}
use Rattle.ecma_utils.specs.Expressions.{block_of, param_of}
use Rattle.ecma_function_parts.specs.Written.{first_or_absent}

abbrev pub child_of : Node → ℕ → Node
child_of n i = get_or (out-Node n).children i absent

abbrev pub params_of : Node → List Node
params_of function = (out-Node (first_or_absent (out-Node function).children)).children

-- ---- an arrow function as a function

abbrev pub is_block : Kind → Bool
is_block kind.BlockStmt = true
is_block _ = false

-- what it gives is returned
--   () => e   // function() { return e; }
abbrev pub body_of : Node → Node
body_of body = if is_block (out-Node body).kind then body else block_of (node_of (out-Node body).span kind.ReturnStmt (body ∷ []) ∷ [])

abbrev pub function_kind : Kind → Kind
function_kind (kind.ArrowExpr is_async is_generator) = kind.Function is_generator is_async
function_kind _ = kind.Function false false

-- its types go
abbrev pub function_of_arrow : Node → Node
function_of_arrow n =
    node_of (out-Node n).span (function_kind (out-Node n).kind)
    (list_node (map param_of (out-Node (child_of n 0)).children) ∷ body_of (child_of n 1) ∷ absent ∷ absent ∷ [])
