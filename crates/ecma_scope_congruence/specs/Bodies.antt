-- Trees in which each function that is an expression has a body.
use Rattle.std.specs.Prelude.{◌≡◌, Bool, true, false, List, [], ◌∷◌}
use Rattle.ecma_kind.specs.declared.span.Span.{Span}
use Rattle.ecma_kind.specs.declared.kind.Kind.{Kind}
use Rattle.ecma_kind.specs.declared.kind.Kind.TheVariants as kind
use Rattle.ecma_tree.specs.declared.node.Node.{Node}
use Rattle.ecma_tree.specs.Nodes.{node_of}
use Rattle.ecma_tree.specs.Values.{is_value}

abbrev pub is_function_expression : Kind → Bool
is_function_expression kind.FnExpr = true
is_function_expression _ = false

mutual
  -- each function that is an expression has a body
  pub data HasBodies : Node → Type 0 where
    with_bodies : (at : Span) (k : Kind) {ns : List Node} → (is_function_expression k ≡ true → is_value (node_of at k ns) ≡ true) → AllHaveBodies ns → HasBodies (node_of at k ns)

  pub data AllHaveBodies : List Node → Type 0 where
    none : AllHaveBodies []
    more : {n : Node} {ns : List Node} → HasBodies n → AllHaveBodies ns → AllHaveBodies (n ∷ ns)
