-- What is written of a function, each with the text that it prints. It has the function's span.
use Rattle.std.specs.Prelude.{false, [], ◌∷◌, Option}
use Rattle.ecma_kind.specs.declared.kind.Kind.TheVariants as kind
use Rattle.ecma_tree.specs.declared.node.Node.{Node, out-Node}
use Rattle.ecma_tree.specs.Nodes.{node_of, or_absent}

--   function f() {}
abbrev pub function_expr_of : Option Node → Node → Node
function_expr_of name function = node_of (out-Node function).span kind.FnExpr (or_absent name ∷ function ∷ [])

--   function f() {}
abbrev pub function_decl_of : Node → Node → Node
function_decl_of name function = node_of (out-Node function).span (kind.FnDecl false) (name ∷ function ∷ [])

--   { f() {} }
abbrev pub method_of : Node → Node → Node
method_of key function = node_of (out-Node function).span kind.MethodProp (key ∷ function ∷ [])
