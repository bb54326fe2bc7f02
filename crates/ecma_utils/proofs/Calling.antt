-- What is written as a call of an expression calls one.
use Rattle.std.proofs.Common.{◌≡◌, ◌∙◌, ℕ, Bool, List, [], ◌∷◌, ap}
use Rattle.std.specs.Prelude.{IsTrue}
use Rattle.ecma_kind.specs.Sorts.{belongs}
use Rattle.ecma_kind.specs.declared.kind.Kind.TheVariants as kind
use Rattle.ecma_kind.specs.declared.shapes.Sort.TheVariants as sort
use Rattle.ecma_kind.specs.declared.span.Span.{Span}
use Rattle.ecma_tree.specs.Nodes.{node_of}
use Rattle.ecma_tree.specs.declared.node.Node.{Node, Node-F}
use Rattle.ecma_tree.specs.declared.node.Node.TheViews.{out-roll-Node}
use Rattle.ecma_utils.specs.Indirect.{calls_by, calls_expression, is_expression}

-- an identifier is an expression
pub ident_is_expression : (span : Span) (sym : List ℕ) (ctxt : ℕ) (optional : Bool) (n : Node)
    → n ≡ node_of span (kind.Ident sym ctxt optional) [] → IsTrue (is_expression n)
ident_is_expression span sym ctxt optional n is =
    ap (λ (m : Node). is_expression m) is
    ∙ ap (λ (z : Node-F Node). belongs sort.Expr z.kind)
    (out-roll-Node (record { span = span; kind = kind.Ident sym ctxt optional; children = [] }))

-- a call of an expression calls one
pub call_calls_expression : (span : Span) (callee : Node) (others : List Node) (n : Node)
    → n ≡ node_of span kind.CallExpr (callee ∷ others) → IsTrue (is_expression callee) → IsTrue (calls_expression n)
call_calls_expression span callee others n is expression =
    ap (λ (m : Node). calls_expression m) is
    ∙ (ap (λ (z : Node-F Node). calls_by z.kind z.children)
    (out-roll-Node (record { span = span; kind = kind.CallExpr; children = callee ∷ others }))
    ∙ expression)

pub ruleset calling = (ident_is_expression, call_calls_expression)
