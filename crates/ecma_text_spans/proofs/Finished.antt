-- No identifier of a finished tree was made, where none of the raw tree was.
use Rattle.std.proofs.Common.{ℕ, suc, false, List, [], ◌∷◌, ◌++◌, map, refl, sym, subst}
use Rattle.ecma_kind.specs.declared.span.Span.{Span}
use Rattle.ecma_kind.specs.declared.operators.AssignOp.{AssignOp}
use Rattle.ecma_kind.specs.declared.operators.AssignOp.TheVariants.{Assign}
use Rattle.ecma_kind.specs.declared.kind.Kind.{Kind}
use Rattle.ecma_kind.specs.declared.kind.Kind.TheVariants as kind
use Rattle.ecma_tree.specs.declared.node.Node.{Node, Node-F, ind-Node, out-Node, roll-Node}
use Rattle.ecma_tree.specs.declared.node.Node.TheViews.{out-roll-Node}
use Rattle.ecma_tree.specs.Nodes.{absent}
use Rattle.ecma_rules.specs.declared.target.Target.{Target}
use Rattle.ecma_rules.specs.declared.target.Target.TheVariants as target
use Rattle.ecma_rules.specs.Finishing.{binding, default_by, each_in, element_by, finished_at, finished_by, left_by, name_by, part_by, property_by, shorthand, with_type}
use Rattle.ecma_rules.specs.Targets.{target_in}
use Rattle.ecma_pipeline_spans.proofs.Trees.{absent_good as no_node, children_good, more, node_good, none, own_good}
use Rattle.ecma_pipeline_spans.proofs.Throughout.{All, Good, IsOwn}
use Rattle.ecma_text_fits_finished.proofs.Standing.{finished_parts}
use Rattle.ecma_text_fits_finished.proofs.Rules.{children_made}

each_append : {xs ys : List Node} → All xs → All ys → All (xs ++ ys)
each_append none k = k
each_append (more a h) k = more a (each_append h k)

absent_good : Good absent
absent_good = no_node IsOwn refl

binding_good : (n : Node) → Good n → Good (binding n)
binding_good n g = node_good IsOwn (out-Node n).span kind.BindingIdent (n ∷ absent ∷ []) refl (more g (more absent_good none))

shorthand_good : (n : Node) → Good n → Good (shorthand n)
shorthand_good n g = node_good IsOwn (out-Node n).span kind.AssignPatProp (binding n ∷ absent ∷ []) refl (more (binding_good n g) (more absent_good none))

module _ (span : Span) (children : List Node) (all : All children) where
  abbrev parts : Kind → Node-F Node
  parts k = record { span = span; kind = k; children = children }

  typed : (k to : Kind) → IsOwn span to → Good (with_type to (parts k))
  typed k to p = node_good IsOwn span to (children ++ absent ∷ []) p (each_append all (more absent_good none))

  same : (k : Kind) → IsOwn span k → Good (roll-Node (parts k))
  same k p = node_good IsOwn span k children p all

  left_good : (k : Kind) → IsOwn span k → Good (left_by k (parts k))
  left_good kind.ArrayLit p = typed kind.ArrayLit (kind.ArrayPat false) refl
  left_good kind.ObjectLit p = typed kind.ObjectLit (kind.ObjectPat false) refl
  left_good k p = same k p

  name_good : (k : Kind) → IsOwn span k → Good (name_by k (parts k))
  name_good (kind.Ident text ctxt optional) p = binding_good _ (same (kind.Ident text ctxt optional) p)
  name_good k p = same k p

  part_good : (k : Kind) → IsOwn span k → Good (part_by k (parts k))
  part_good (kind.Ident text ctxt optional) p = binding_good _ (same (kind.Ident text ctxt optional) p)
  part_good kind.ArrayLit p = left_good kind.ArrayLit p
  part_good kind.ObjectLit p = left_good kind.ObjectLit p
  part_good k p = same k p

  default_good : (op : AssignOp) → IsOwn span (kind.AssignExpr op) → Good (default_by op (parts (kind.AssignExpr op)))
  default_good Assign p = node_good IsOwn span kind.AssignPat children refl all
  default_good op p = same (kind.AssignExpr op) p

  element_good : (k : Kind) → IsOwn span k → Good (element_by k (parts k))
  element_good kind.SpreadElement p = typed kind.SpreadElement kind.RestPat refl
  element_good (kind.AssignExpr op) p = default_good op p
  element_good (kind.Ident text ctxt optional) p = part_good (kind.Ident text ctxt optional) p
  element_good kind.ArrayLit p = left_good kind.ArrayLit p
  element_good kind.ObjectLit p = left_good kind.ObjectLit p
  element_good k p = same k p

  property_good : (k : Kind) → IsOwn span k → Good (property_by k (parts k))
  property_good kind.KeyValueProp p = node_good IsOwn span kind.KeyValuePatProp children refl all
  property_good kind.AssignProp p = node_good IsOwn span kind.AssignPatProp children refl all
  property_good kind.SpreadElement p = typed kind.SpreadElement kind.RestPat refl
  property_good (kind.Ident text ctxt optional) p = shorthand_good _ (same (kind.Ident text ctxt optional) p)
  property_good k p = same k p

  finished_by_good : (t : Target) (k : Kind) → IsOwn span k → Good (finished_by t (parts k))
  finished_by_good target.Left k p = left_good k p
  finished_by_good target.Head k p = part_good k p
  finished_by_good target.Part k p = part_good k p
  finished_by_good target.Rest k p = name_good k p
  finished_by_good target.Name k p = name_good k p
  finished_by_good target.Element k p = element_good k p
  finished_by_good target.Property k p = property_good k p
  finished_by_good _ k p = same k p

abbrev Keeps : Node → Type 0
Keeps n = Good n → (t : Target) → Good (finished_at n t)

all_keep : (es : List ((n : Node) × Keeps n)) → All (map (λ e. e.0) es) → (target_of : ℕ → Target) → All (each_in target_of (map finished_at (map (λ e. e.0) es)))
all_keep [] h target_of = none
all_keep (e ∷ es) (more a h) target_of = more (e.1 a (target_of 0)) (all_keep es h (λ i. target_of (suc i)))

node_keeps : (x : Node-F Node) → (All x.children → (target_of : ℕ → Target) → All (each_in target_of (map finished_at x.children))) → Keeps (roll-Node x)
node_keeps x below g t =
    let p : IsOwn x.span x.kind = subst (λ (z : Node-F Node). IsOwn z.span z.kind) (out-roll-Node x) (own_good IsOwn g) in
    let all : All x.children = subst All (children_made x) (children_good IsOwn g) in
    subst Good (sym (finished_parts x t)) (finished_by_good x.span (each_in (target_in t x.kind) (map finished_at x.children)) (below all (target_in t x.kind)) t x.kind p)

pub finished_good : (n : Node) → Keeps n
finished_good = ind-Node Keeps (λ x y is. node_keeps x (subst (λ (z : Node-F Node). All z.children → (target_of : ℕ → Target) → All (each_in target_of (map finished_at z.children))) is (all_keep y.children)))
