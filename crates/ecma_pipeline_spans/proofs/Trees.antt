-- Trees of which something holds of the span and the kind of each node.
use Rattle.std.proofs.Common.{Bool, true, false, cond, List, [], ◌∷◌, filter, sym, ap, subst}
use Rattle.ecma_kind.specs.declared.kind.Kind.{Kind}
use Rattle.ecma_kind.specs.declared.kind.Kind.TheVariants as kind
use Rattle.ecma_kind.specs.declared.span.Span.{Span}
use Rattle.ecma_tree.specs.declared.node.Node.{Node, Node-F, out-Node}
use Rattle.ecma_tree.specs.declared.node.Node.TheViews.{out-roll-Node}
use Rattle.ecma_tree.specs.Nodes.{absent, dummy_span, node_of}

module _ (P : Span → Kind → Type 0) where
  mutual
    pub data Everywhere : Node → Type 0 where
      everywhere : (at : Span) (kind : Kind) {children : List Node} → P at kind → Each children → Everywhere (node_of at kind children)

    pub data Each : List Node → Type 0 where
      none : Each []
      more : {n : Node} {ns : List Node} → Everywhere n → Each ns → Each (n ∷ ns)

module _ (P : Span → Kind → Type 0) where
  pub node_good : (at : Span) (k : Kind) (cs : List Node) → P at k → Each P cs → Everywhere P (node_of at k cs)
  node_good at k cs p h = everywhere at k p h

  pub absent_good : P dummy_span kind.Absent → Everywhere P absent
  absent_good p = node_good dummy_span kind.Absent [] p none

  pub own_good : {n : Node} → Everywhere P n → P (out-Node n).span (out-Node n).kind
  own_good (everywhere at k {children = cs} p h) = subst (λ (z : Node-F Node). P z.span z.kind) (sym (out-roll-Node (record { span = at; kind = k; children = cs }))) p

  pub children_good : {n : Node} → Everywhere P n → Each P (out-Node n).children
  children_good (everywhere at k {children = cs} p h) = subst (Each P) (sym (ap (λ (z : Node-F Node). z.children) (out-roll-Node (record { span = at; kind = k; children = cs })))) h

  pub either : (b : Bool) (x y : Node) → Everywhere P x → Everywhere P y → Everywhere P (cond b x y)
  either true x y g k = g
  either false x y g k = k

  kept_good : (b : Bool) {n : Node} {ns : List Node} → Everywhere P n → Each P ns → Each P (cond b (n ∷ ns) ns)
  kept_good true g h = more g h
  kept_good false g h = h

  pub each_filter : (p : Node → Bool) {xs : List Node} → Each P xs → Each P (filter p xs)
  each_filter p none = none
  each_filter p (more {n = n} a h) = kept_good (p n) a (each_filter p h)
