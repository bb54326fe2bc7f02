-- A tree weighs no more once it is finished.
use Rattle.std.proofs.Common.{◌≡◌, ◌≤◌, ℕ, suc, ◌+◌, List, [], ◌∷◌, ◌++◌, map, ap, subst, arith}
use Rattle.std.proofs.lemmas.List.Sums.{sum_by-append, sum_by-cons}
use Rattle.ecma_kind.specs.declared.span.Span.{Span}
use Rattle.ecma_kind.specs.declared.operators.AssignOp.{AssignOp}
use Rattle.ecma_kind.specs.declared.operators.AssignOp.TheVariants.{Assign}
use Rattle.ecma_kind.specs.declared.kind.Kind.{Kind}
use Rattle.ecma_kind.specs.declared.kind.Kind.TheVariants as kind
use Rattle.ecma_tree.specs.declared.node.Node.{Node, Node-F, fold-roll-Node, ind-Node, out-Node, roll-Node}
use Rattle.ecma_tree.specs.Nodes.{absent}
use Rattle.ecma_rules.specs.declared.target.Target.{Target}
use Rattle.ecma_rules.specs.declared.target.Target.TheVariants as target
use Rattle.ecma_rules.specs.Finishing.{binding, default_by, each_in, element_by, finished, finished_at, finished_by, finished_step, left_by, name_by, part_by, property_by, shorthand, with_type}
use Rattle.ecma_rules.specs.Targets.{target_in}
use Rattle.ecma_text_contexts.proofs.Weights.{here, missing_weighs_nothing, weight, weight_made, weight_rolled, weights}

binding_weight : (n : Node) → weight (binding n) ≤ weight n
binding_weight n =
    let a = weight_made (out-Node n).span kind.BindingIdent (n ∷ absent ∷ []) in
    let b = missing_weighs_nothing in
    omega arith

shorthand_weight : (n : Node) → weight (shorthand n) ≤ weight n
shorthand_weight n =
    let a = weight_made (out-Node n).span kind.AssignPatProp (binding n ∷ absent ∷ []) in
    let b = missing_weighs_nothing in
    let c = binding_weight n in
    omega arith

module _ (span : Span) (children : List Node) where
  abbrev parts : Kind → Node-F Node
  parts k = record { span = span; kind = k; children = children }

  -- no heavier than a node of these parts
  abbrev Light : Kind → Node → Type 0
  Light k n = weight n ≤ here k + weights children

  same : (k : Kind) → Light k (roll-Node (parts k))
  same k = let a = weight_rolled (parts k) in omega arith

  typed : (k to : Kind) → here to ≤ here k → Light k (with_type to (parts k))
  typed k to h =
      let a = weight_made span to (children ++ absent ∷ []) in
      let b = sum_by-append weight children (absent ∷ []) in
      let c = missing_weighs_nothing in
      omega arith

  bound : (k : Kind) → Light k (binding (roll-Node (parts k)))
  bound k =
      let a = binding_weight (roll-Node (parts k)) in
      let b = same k in
      omega arith

  left_light : (k : Kind) → Light k (left_by k (parts k))
  left_light kind.ArrayLit = typed kind.ArrayLit _ (omega arith)
  left_light kind.ObjectLit = typed kind.ObjectLit _ (omega arith)
  left_light k = same k

  name_light : (k : Kind) → Light k (name_by k (parts k))
  name_light (kind.Ident text ctxt optional) = bound (kind.Ident text ctxt optional)
  name_light k = same k

  part_light : (k : Kind) → Light k (part_by k (parts k))
  part_light (kind.Ident text ctxt optional) = bound (kind.Ident text ctxt optional)
  part_light kind.ArrayLit = left_light kind.ArrayLit
  part_light kind.ObjectLit = left_light kind.ObjectLit
  part_light k = same k

  default_light : (op : AssignOp) → Light (kind.AssignExpr op) (default_by op (parts (kind.AssignExpr op)))
  default_light Assign = let a = weight_made span kind.AssignPat children in omega arith
  default_light op = same (kind.AssignExpr op)

  element_light : (k : Kind) → Light k (element_by k (parts k))
  element_light kind.SpreadElement = typed kind.SpreadElement _ (omega arith)
  element_light (kind.AssignExpr op) = default_light op
  element_light (kind.Ident text ctxt optional) = part_light (kind.Ident text ctxt optional)
  element_light kind.ArrayLit = left_light kind.ArrayLit
  element_light kind.ObjectLit = left_light kind.ObjectLit
  element_light k = same k

  property_light : (k : Kind) → Light k (property_by k (parts k))
  property_light kind.KeyValueProp = let a = weight_made span kind.KeyValuePatProp children in omega arith
  property_light kind.AssignProp = let a = weight_made span kind.AssignPatProp children in omega arith
  property_light kind.SpreadElement = typed kind.SpreadElement _ (omega arith)
  property_light (kind.Ident text ctxt optional) =
      let a = shorthand_weight (roll-Node (parts (kind.Ident text ctxt optional))) in
      let b = same (kind.Ident text ctxt optional) in
      omega arith
  property_light k = same k

  finished_by_light : (t : Target) (k : Kind) → Light k (finished_by t (parts k))
  finished_by_light target.Left k = left_light k
  finished_by_light target.Head k = part_light k
  finished_by_light target.Part k = part_light k
  finished_by_light target.Rest k = name_light k
  finished_by_light target.Name k = name_light k
  finished_by_light target.Element k = element_light k
  finished_by_light target.Property k = property_light k
  finished_by_light _ k = same k

abbrev Stays : Node → Type 0
Stays n = (t : Target) → weight (finished_at n t) ≤ weight n

all_stay : (es : List ((n : Node) × Stays n)) (target_of : ℕ → Target) → weights (each_in target_of (map finished_at (map (λ e. e.0) es))) ≤ weights (map (λ e. e.0) es)
all_stay [] target_of = omega arith
all_stay (e ∷ es) target_of =
    let first = e.1 (target_of 0) in
    let rest = all_stay es (λ i. target_of (suc i)) in
    let before = sum_by-cons weight e.0 (map (λ e. e.0) es) in
    let after = sum_by-cons weight (finished_at e.0 (target_of 0)) (each_in (λ i. target_of (suc i)) (map finished_at (map (λ e. e.0) es))) in
    omega arith

node_stays : (x : Node-F Node) → ((target_of : ℕ → Target) → weights (each_in target_of (map finished_at x.children)) ≤ weights x.children) → Stays (roll-Node x)
node_stays x below t =
    let children = each_in (target_in t x.kind) (map finished_at x.children) in
    let is : finished_at (roll-Node x) t ≡ finished_by t (record { span = x.span; kind = x.kind; children = children }) = ap (λ f. f t) (fold-roll-Node (Target → Node) finished_step x) in
    let a = ap weight is in
    let b = finished_by_light x.span children t x.kind in
    let c = below (target_in t x.kind) in
    let d = weight_rolled x in
    omega arith

stays : (n : Node) → Stays n
stays = ind-Node Stays (λ x y is.
    node_stays x (subst (λ (z : Node-F Node). (target_of : ℕ → Target) → weights (each_in target_of (map finished_at z.children)) ≤ weights z.children) is (all_stay y.children)))

pub finished_weight : (raw : Node) → weight (finished raw) ≤ weight raw
finished_weight raw = stays raw target.Free
