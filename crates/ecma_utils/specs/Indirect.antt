-- Calls whose callee gives no `this`: that of a member is read first (ECMAScript, 13.3.6.2).
use Rattle.std.specs.Prelude.{pos, Bool, false, List, [], ◌∷◌, Some, None}
use Rattle.ecma_number.specs.declared.js_number.JsNumber.TheVariants.{Whole}
use Rattle.ecma_kind.specs.Sorts.{belongs}
use Rattle.ecma_kind.specs.declared.kind.Kind.{Kind}
use Rattle.ecma_kind.specs.declared.kind.Kind.TheVariants as kind
use Rattle.ecma_kind.specs.declared.shapes.Sort.TheVariants as sort
use Rattle.ecma_tree.specs.declared.node.Node.{Node, out-Node}
use Rattle.ecma_tree.specs.Nodes.{dummy_span, node_of}

--   0
abbrev pub zero_node : Node
zero_node = node_of dummy_span (kind.Number (Some (Whole (pos 0))) None) []

--   (0, e)
abbrev pub indirect_callee : Node → Node
indirect_callee e = node_of dummy_span kind.SeqExpr (zero_node ∷ e ∷ [])

abbrev pub with_indirect_first : List Node → List Node
with_indirect_first [] = []
with_indirect_first (callee ∷ others) = indirect_callee callee ∷ others

-- a call or a tagged template, whose first child is the callee or the tag
--   (0, e)(args)
abbrev pub indirect_call : Node → Node
indirect_call call = node_of (out-Node call).span (out-Node call).kind (with_indirect_first (out-Node call).children)

-- a callee that is an expression, and not `super` or `import`
abbrev pub is_expression : Node → Bool
is_expression node = belongs sort.Expr (out-Node node).kind

abbrev pub first_is_expression : List Node → Bool
first_is_expression [] = false
first_is_expression (node ∷ nodes) = is_expression node

abbrev pub calls_by : Kind → List Node → Bool
calls_by kind.CallExpr children = first_is_expression children
calls_by kind.TaggedTpl children = first_is_expression children
calls_by _ children = false

-- a call of an expression, or a template behind a tag
abbrev pub calls_expression : Node → Bool
calls_expression node = calls_by (out-Node node).kind (out-Node node).children
