-- What holds of all kinds of a raw tree, and of those that finishing makes, holds of all kinds of the finished tree.
use Rattle.std.proofs.Common.{ℕ, suc, false, List, [], ◌∷◌, ◌++◌, map, sym, subst}
use Rattle.ecma_kind.specs.declared.span.Span.{Span}
use Rattle.ecma_kind.specs.declared.operators.AssignOp.{AssignOp}
use Rattle.ecma_kind.specs.declared.operators.AssignOp.TheVariants.{Assign}
use Rattle.ecma_kind.specs.declared.kind.Kind.{Kind}
use Rattle.ecma_kind.specs.declared.kind.Kind.TheVariants as kind
use Rattle.ecma_tree.specs.declared.node.Node.{Node, Node-F, ind-Node, out-Node, roll-Node}
use Rattle.ecma_tree.specs.Nodes.{absent, dummy_span}
use Rattle.ecma_rules.specs.declared.target.Target.{Target}
use Rattle.ecma_rules.specs.declared.target.Target.TheVariants as target
use Rattle.ecma_rules.specs.Finishing.{binding, default_by, each_in, element_by, finished_at, finished_by, left_by, name_by, part_by, property_by, shorthand, with_type}
use Rattle.ecma_rules.specs.Targets.{target_in}
use Rattle.ecma_text_leaves.specs.Everywhere.{Each, Everywhere, more, none}
use Rattle.ecma_text_leaves.proofs.Trees.{children_good, each_append, good_node, kind_good}
use Rattle.ecma_text_fits_finished.proofs.Standing.{finished_parts}
use Rattle.ecma_text_fits_finished.proofs.Rules.{children_made}
use Rattle.ecma_raw_roles.proofs.Walks.{kind_made}

module _ (P : Kind → Type 0) (missing : P kind.Absent) (bound : P kind.BindingIdent) (array : P (kind.ArrayPat false)) (object : P (kind.ObjectPat false)) (rest : P kind.RestPat)
    (default : P kind.AssignPat) (value : P kind.KeyValuePatProp) (short : P kind.AssignPatProp) where
  abbrev Good : Node → Type 0
  Good = Everywhere P

  abbrev All : List Node → Type 0
  All = Each P

  absent_good : Good absent
  absent_good = good_node P dummy_span kind.Absent [] missing none

  binding_good : (n : Node) → Good n → Good (binding n)
  binding_good n g = good_node P (out-Node n).span kind.BindingIdent (n ∷ absent ∷ []) bound (more g (more absent_good none))

  shorthand_good : (n : Node) → Good n → Good (shorthand n)
  shorthand_good n g = good_node P (out-Node n).span kind.AssignPatProp (binding n ∷ absent ∷ []) short (more (binding_good n g) (more absent_good none))

  module _ (span : Span) (children : List Node) (all : All children) where
    abbrev parts : Kind → Node-F Node
    parts k = record { span = span; kind = k; children = children }

    typed : (k to : Kind) → P to → Good (with_type to (parts k))
    typed k to p = good_node P span to (children ++ absent ∷ []) p (each_append P all (more absent_good none))

    same : (k : Kind) → P k → Good (roll-Node (parts k))
    same k p = good_node P span k children p all

    left_good : (k : Kind) → P k → Good (left_by k (parts k))
    left_good kind.ArrayLit p = typed kind.ArrayLit (kind.ArrayPat false) array
    left_good kind.ObjectLit p = typed kind.ObjectLit (kind.ObjectPat false) object
    left_good k p = same k p

    name_good : (k : Kind) → P k → Good (name_by k (parts k))
    name_good (kind.Ident text ctxt optional) p = binding_good _ (same (kind.Ident text ctxt optional) p)
    name_good k p = same k p

    part_good : (k : Kind) → P k → Good (part_by k (parts k))
    part_good (kind.Ident text ctxt optional) p = binding_good _ (same (kind.Ident text ctxt optional) p)
    part_good kind.ArrayLit p = left_good kind.ArrayLit p
    part_good kind.ObjectLit p = left_good kind.ObjectLit p
    part_good k p = same k p

    default_good : (op : AssignOp) → P (kind.AssignExpr op) → Good (default_by op (parts (kind.AssignExpr op)))
    default_good Assign p = good_node P span kind.AssignPat children default all
    default_good op p = same (kind.AssignExpr op) p

    element_good : (k : Kind) → P k → Good (element_by k (parts k))
    element_good kind.SpreadElement p = typed kind.SpreadElement kind.RestPat rest
    element_good (kind.AssignExpr op) p = default_good op p
    element_good (kind.Ident text ctxt optional) p = part_good (kind.Ident text ctxt optional) p
    element_good kind.ArrayLit p = left_good kind.ArrayLit p
    element_good kind.ObjectLit p = left_good kind.ObjectLit p
    element_good k p = same k p

    property_good : (k : Kind) → P k → Good (property_by k (parts k))
    property_good kind.KeyValueProp p = good_node P span kind.KeyValuePatProp children value all
    property_good kind.AssignProp p = good_node P span kind.AssignPatProp children short all
    property_good kind.SpreadElement p = typed kind.SpreadElement kind.RestPat rest
    property_good (kind.Ident text ctxt optional) p = shorthand_good _ (same (kind.Ident text ctxt optional) p)
    property_good k p = same k p

    finished_by_good : (t : Target) (k : Kind) → P k → Good (finished_by t (parts k))
    finished_by_good target.Left k p = left_good k p
    finished_by_good target.Head k p = part_good k p
    finished_by_good target.Part k p = part_good k p
    finished_by_good target.Rest k p = name_good k p
    finished_by_good target.Name k p = name_good k p
    finished_by_good target.Element k p = element_good k p
    finished_by_good target.Property k p = property_good k p
    finished_by_good _ k p = same k p

  abbrev Keeps : Node → Type 0
  Keeps n = Good n → (t : Target) → Good (finished_at n t)

  all_keep : (es : List ((n : Node) × Keeps n)) → All (map (λ e. e.0) es) → (target_of : ℕ → Target) → All (each_in target_of (map finished_at (map (λ e. e.0) es)))
  all_keep [] h target_of = none
  all_keep (e ∷ es) (more a h) target_of = more (e.1 a (target_of 0)) (all_keep es h (λ i. target_of (suc i)))

  node_keeps : (x : Node-F Node) → (All x.children → (target_of : ℕ → Target) → All (each_in target_of (map finished_at x.children))) → Keeps (roll-Node x)
  node_keeps x below g t =
      let p : P x.kind = subst P (kind_made x) (kind_good P g) in
      let all : All x.children = subst All (children_made x) (children_good P g) in
      subst Good (sym (finished_parts x t)) (finished_by_good x.span (each_in (target_in t x.kind) (map finished_at x.children)) (below all (target_in t x.kind)) t x.kind p)

  pub finished_good : (n : Node) → Keeps n
  finished_good = ind-Node Keeps (λ x y is. node_keeps x (subst (λ (z : Node-F Node). All z.children → (target_of : ℕ → Target) → All (each_in target_of (map finished_at z.children))) is (all_keep y.children)))
