-- What finishing keeps of a tree.
use Rattle.std.proofs.Common.{◌≡◌, ◌∙◌, ℕ, suc, List, [], ◌∷◌, ◌++◌, map, flat_map, refl, sym, ap, ap₂, subst}
use Rattle.ecma_kind.specs.declared.span.Span.{Span}
use Rattle.ecma_kind.specs.declared.operators.AssignOp.{AssignOp}
use Rattle.ecma_kind.specs.declared.operators.AssignOp.TheVariants.{Assign}
use Rattle.ecma_kind.specs.declared.kind.Kind.{Kind}
use Rattle.ecma_kind.specs.declared.kind.Kind.TheVariants as kind
use Rattle.ecma_tree.specs.declared.node.Node.{Node, Node-F, fold-roll-Node, ind-Node, out-Node, roll-Node}
use Rattle.ecma_tree.specs.Gathering.{gathered_here}
use Rattle.ecma_tree.specs.Nodes.{absent, node_of}
use Rattle.ecma_rules.specs.declared.target.Target.{Target}
use Rattle.ecma_rules.specs.declared.target.Target.TheVariants as target
use Rattle.ecma_rules.specs.Targets.{target_in}
use Rattle.ecma_rules.specs.Finishing.{binding, default_by, each_in, element_by, finished_at, finished_by, finished_step, left_by, name_by, part_by, property_by, shorthand, with_kind, with_type}
use Rattle.ecma_rules.specs.Laws.{FinishingKeepsOthers, Placed, other_here, others_of}

-- the others in children
abbrev others_in : List Node → List Placed
others_in nodes = flat_map (λ items. items) (map others_of nodes)

others-node : (span : Span) (k : Kind) (children : List Node) → others_of (node_of span k children) ≡ other_here span k ++ others_in children
others-node span k children = fold-roll-Node (List Placed) (gathered_here Placed other_here) (record { span = span; kind = k; children = children })

append-empty : (xs : List Placed) → xs ++ [] ≡ xs
append-empty [] = refl
append-empty (x ∷ xs) = ap (λ ys. x ∷ ys) (append-empty xs)

append-assoc : (xs ys zs : List Placed) → (xs ++ ys) ++ zs ≡ xs ++ (ys ++ zs)
append-assoc [] ys zs = refl
append-assoc (x ∷ xs) ys zs = ap (λ w. x ∷ w) (append-assoc xs ys zs)

absent-none : others_of absent ≡ []
absent-none = others-node _ kind.Absent []

-- a missing child adds none
others-absent : (nodes : List Node) → others_in (nodes ++ absent ∷ []) ≡ others_in nodes
others-absent [] = ap (λ xs. xs ++ []) absent-none
others-absent (n ∷ ns) = ap (λ xs. others_of n ++ xs) (others-absent ns)

binding-keeps : (n : Node) → others_of (binding n) ≡ others_of n
binding-keeps n =
    others-node (out-Node n).span kind.BindingIdent (n ∷ absent ∷ []) ∙ ap (λ xs. others_of n ++ (xs ++ [])) absent-none ∙ append-empty (others_of n)

shorthand-keeps : (n : Node) → others_of (shorthand n) ≡ others_of n
shorthand-keeps n =
    others-node (out-Node n).span kind.AssignPatProp (binding n ∷ absent ∷ []) ∙ ap (λ xs. others_of (binding n) ++ (xs ++ [])) absent-none ∙ append-empty (others_of (binding n)) ∙ binding-keeps n

module _ (span : Span) where
  abbrev parts_of : Kind → List Node → Node-F Node
  parts_of k children = record { span = span; kind = k; children = children }

  -- from one kind that is turned to another
  kind-keeps : (from to : Kind) (children : List Node) → other_here span from ≡ [] → other_here span to ≡ [] → others_of (with_kind to (parts_of from children)) ≡ others_of (node_of span from children)
  kind-keeps from to children a b = others-node span to children ∙ ap (λ xs. xs ++ others_in children) (b ∙ sym a) ∙ sym (others-node span from children)

  type-keeps : (from to : Kind) (children : List Node) → other_here span from ≡ [] → other_here span to ≡ [] → others_of (with_type to (parts_of from children)) ≡ others_of (node_of span from children)
  type-keeps from to children a b =
      others-node span to (children ++ absent ∷ []) ∙ ap₂ (λ xs ys. xs ++ ys) (b ∙ sym a) (others-absent children) ∙ sym (others-node span from children)

  left-keeps : (k : Kind) (children : List Node) → others_of (left_by k (parts_of k children)) ≡ others_of (node_of span k children)
  left-keeps kind.ArrayLit children = type-keeps kind.ArrayLit _ children refl refl
  left-keeps kind.ObjectLit children = type-keeps kind.ObjectLit _ children refl refl
  left-keeps _ children = refl

  name-keeps : (k : Kind) (children : List Node) → others_of (name_by k (parts_of k children)) ≡ others_of (node_of span k children)
  name-keeps (kind.Ident text ctxt optional) children = binding-keeps (node_of span (kind.Ident text ctxt optional) children)
  name-keeps _ children = refl

  part-keeps : (k : Kind) (children : List Node) → others_of (part_by k (parts_of k children)) ≡ others_of (node_of span k children)
  part-keeps (kind.Ident text ctxt optional) children = binding-keeps (node_of span (kind.Ident text ctxt optional) children)
  part-keeps kind.ArrayLit children = left-keeps kind.ArrayLit children
  part-keeps kind.ObjectLit children = left-keeps kind.ObjectLit children
  part-keeps _ children = refl

  default-keeps : (op : AssignOp) (children : List Node) → others_of (default_by op (parts_of (kind.AssignExpr op) children)) ≡ others_of (node_of span (kind.AssignExpr op) children)
  default-keeps Assign children = kind-keeps (kind.AssignExpr Assign) _ children refl refl
  default-keeps _ children = refl

  element-keeps : (k : Kind) (children : List Node) → others_of (element_by k (parts_of k children)) ≡ others_of (node_of span k children)
  element-keeps kind.SpreadElement children = type-keeps kind.SpreadElement _ children refl refl
  element-keeps (kind.AssignExpr op) children = default-keeps op children
  element-keeps (kind.Ident text ctxt optional) children = part-keeps (kind.Ident text ctxt optional) children
  element-keeps kind.ArrayLit children = left-keeps kind.ArrayLit children
  element-keeps kind.ObjectLit children = left-keeps kind.ObjectLit children
  element-keeps _ children = refl

  property-keeps : (k : Kind) (children : List Node) → others_of (property_by k (parts_of k children)) ≡ others_of (node_of span k children)
  property-keeps kind.KeyValueProp children = kind-keeps kind.KeyValueProp _ children refl refl
  property-keeps kind.AssignProp children = kind-keeps kind.AssignProp _ children refl refl
  property-keeps kind.SpreadElement children = type-keeps kind.SpreadElement _ children refl refl
  property-keeps (kind.Ident text ctxt optional) children = shorthand-keeps (node_of span (kind.Ident text ctxt optional) children)
  property-keeps _ children = refl

  node-keeps : (t : Target) (k : Kind) (children : List Node) → others_of (finished_by t (parts_of k children)) ≡ others_of (node_of span k children)
  node-keeps target.Left k children = left-keeps k children
  node-keeps target.Head k children = part-keeps k children
  node-keeps target.Part k children = part-keeps k children
  node-keeps target.Rest k children = name-keeps k children
  node-keeps target.Name k children = name-keeps k children
  node-keeps target.Element k children = element-keeps k children
  node-keeps target.Property k children = property-keeps k children
  node-keeps _ k children = refl

abbrev Keeps : Node → Type 0
Keeps n = (t : Target) → others_of (finished_at n t) ≡ others_of n

abbrev AllKeep : List Node → Type 0
AllKeep nodes = (target_of : ℕ → Target) → others_in (each_in target_of (map finished_at nodes)) ≡ others_in nodes

all-keep : (ns : List ((n : Node) × Keeps n)) → AllKeep (map (λ e. e.0) ns)
all-keep [] target_of = refl
all-keep (n ∷ ns) target_of = ap₂ (λ xs ys. xs ++ ys) (n.1 (target_of 0)) (all-keep ns (λ i. target_of (suc i)))

layer-keeps : (x : Node-F Node) → AllKeep x.children → Keeps (roll-Node x)
layer-keeps x children t =
    ap (λ f. others_of (f t)) (fold-roll-Node (Target → Node) finished_step x)
    ∙ node-keeps x.span t x.kind (each_in (target_in t x.kind) (map finished_at x.children))
    ∙ others-node x.span x.kind (each_in (target_in t x.kind) (map finished_at x.children))
    ∙ ap (λ xs. other_here x.span x.kind ++ xs) (children (target_in t x.kind))
    ∙ sym (others-node x.span x.kind x.children)

keeps : (n : Node) → Keeps n
keeps = ind-Node Keeps (λ x y is. layer-keeps x (subst (λ (z : Node-F Node). AllKeep z.children) is (all-keep y.children)))

pub finishing-keeps : FinishingKeepsOthers
finishing-keeps raw = keeps raw target.Free

pub ruleset keeping = (finishing-keeps)
