-- Finishing goes alike without spans.
use Rattle.std.proofs.Common.{◌≡◌, false, ◌∙◌, ℕ, suc, List, [], ◌∷◌, ◌++◌, map, refl, sym, ap, ap₂, subst}
use Rattle.ecma_kind.specs.declared.operators.AssignOp.{AssignOp}
use Rattle.ecma_kind.specs.declared.operators.AssignOp.TheVariants.{Assign}
use Rattle.ecma_kind.specs.declared.span.Span.{Span}
use Rattle.ecma_kind.specs.declared.kind.Kind.{Kind}
use Rattle.ecma_kind.specs.declared.kind.Kind.TheVariants as kind
use Rattle.ecma_tree.specs.declared.node.Node.{Node, Node-F, fold-roll-Node, ind-Node, out-Node, roll-Node}
use Rattle.ecma_tree.specs.declared.node.Node.TheViews.{out-roll-Node}
use Rattle.ecma_tree.specs.Nodes.{absent, dummy_span, node_of}
use Rattle.ecma_tree.specs.Spans.{unplaced, without_spans}
use Rattle.ecma_rules.specs.declared.target.Target.{Target}
use Rattle.ecma_rules.specs.declared.target.Target.TheVariants as target
use Rattle.ecma_rules.specs.Targets.{target_in}
use Rattle.ecma_rules.specs.Finishing.{binding, default_by, each_in, element_by, finished_at, finished_by, finished_step, left_by, name_by, part_by, property_by, shorthand, with_type}
use Rattle.ecma_rules_congruence.specs.Laws.{SpansDoNotMatterToFinishing}

spanless : (at : Span) (k : Kind) (children : List Node) → without_spans (node_of at k children) ≡ node_of dummy_span k (map without_spans children)
spanless at k children = fold-roll-Node Node unplaced (record { span = at; kind = k; children = children })

finished_node : (at : Span) (k : Kind) (children : List Node) (t : Target)
    → finished_at (node_of at k children) t ≡ finished_by t (record { span = at; kind = k; children = each_in (target_in t k) (map finished_at children) })
finished_node at k children t = ap (λ f. f t) (fold-roll-Node (Target → Node) finished_step (record { span = at; kind = k; children = children }))

absent-bare : without_spans absent ≡ absent
absent-bare = spanless dummy_span kind.Absent []

with-absent : (ns : List Node) → map without_spans (ns ++ absent ∷ []) ≡ map without_spans ns ++ absent ∷ []
with-absent [] = ap (λ a. a ∷ []) absent-bare
with-absent (n ∷ ns) = ap (λ rest. without_spans n ∷ rest) (with-absent ns)

-- a binding stands where its name does
binding-bare : (at : Span) (k : Kind) (children : List Node) → binding (node_of dummy_span k (map without_spans children)) ≡ without_spans (binding (node_of at k children))
binding-bare at k children =
    ap (λ p. node_of p.span kind.BindingIdent (node_of dummy_span k (map without_spans children) ∷ absent ∷ [])) (out-roll-Node (record { span = dummy_span; kind = k; children = map without_spans children }))
    ∙ ap₂ (λ name none. node_of dummy_span kind.BindingIdent (name ∷ none ∷ [])) (sym (spanless at k children)) (sym absent-bare)
    ∙ sym (spanless (out-Node (node_of at k children)).span kind.BindingIdent (node_of at k children ∷ absent ∷ []))

shorthand-bare : (at : Span) (k : Kind) (children : List Node) → shorthand (node_of dummy_span k (map without_spans children)) ≡ without_spans (shorthand (node_of at k children))
shorthand-bare at k children =
    ap (λ p. node_of p.span kind.AssignPatProp (binding (node_of dummy_span k (map without_spans children)) ∷ absent ∷ [])) (out-roll-Node (record { span = dummy_span; kind = k; children = map without_spans children }))
    ∙ ap₂ (λ name none. node_of dummy_span kind.AssignPatProp (name ∷ none ∷ [])) (binding-bare at k children) (sym absent-bare)
    ∙ sym (spanless (out-Node (node_of at k children)).span kind.AssignPatProp (binding (node_of at k children) ∷ absent ∷ []))

module _ (at : Span) where
  abbrev with_span : Kind → List Node → Node-F Node
  with_span k children = record { span = at; kind = k; children = children }

  abbrev spanless_parts : Kind → List Node → Node-F Node
  spanless_parts k children = record { span = dummy_span; kind = k; children = map without_spans children }

  typed-bare : (to from : Kind) (children : List Node) → with_type to (spanless_parts from children) ≡ without_spans (with_type to (with_span from children))
  typed-bare to from children = ap (node_of dummy_span to) (sym (with-absent children)) ∙ sym (spanless at to (children ++ absent ∷ []))

  left-bare : (k : Kind) (children : List Node) → left_by k (spanless_parts k children) ≡ without_spans (left_by k (with_span k children))
  left-bare kind.ArrayLit children = typed-bare (kind.ArrayPat false) kind.ArrayLit children
  left-bare kind.ObjectLit children = typed-bare (kind.ObjectPat false) kind.ObjectLit children
  left-bare k children = sym (spanless at k children)

  name-bare : (k : Kind) (children : List Node) → name_by k (spanless_parts k children) ≡ without_spans (name_by k (with_span k children))
  name-bare (kind.Ident sym ctxt optional) children = binding-bare at (kind.Ident sym ctxt optional) children
  name-bare k children = sym (spanless at k children)

  part-bare : (k : Kind) (children : List Node) → part_by k (spanless_parts k children) ≡ without_spans (part_by k (with_span k children))
  part-bare (kind.Ident sym ctxt optional) children = binding-bare at (kind.Ident sym ctxt optional) children
  part-bare k children = left-bare k children

  default-bare : (op : AssignOp) (children : List Node) → default_by op (spanless_parts (kind.AssignExpr op) children) ≡ without_spans (default_by op (with_span (kind.AssignExpr op) children))
  default-bare Assign children = sym (spanless at kind.AssignPat children)
  default-bare op children = sym (spanless at (kind.AssignExpr op) children)

  element-bare : (k : Kind) (children : List Node) → element_by k (spanless_parts k children) ≡ without_spans (element_by k (with_span k children))
  element-bare kind.SpreadElement children = typed-bare kind.RestPat kind.SpreadElement children
  element-bare (kind.AssignExpr op) children = default-bare op children
  element-bare k children = part-bare k children

  property-bare : (k : Kind) (children : List Node) → property_by k (spanless_parts k children) ≡ without_spans (property_by k (with_span k children))
  property-bare kind.KeyValueProp children = sym (spanless at kind.KeyValuePatProp children)
  property-bare kind.AssignProp children = sym (spanless at kind.AssignPatProp children)
  property-bare kind.SpreadElement children = typed-bare kind.RestPat kind.SpreadElement children
  property-bare (kind.Ident sym ctxt optional) children = shorthand-bare at (kind.Ident sym ctxt optional) children
  property-bare k children = sym (spanless at k children)

  by-bare : (t : Target) (k : Kind) (children : List Node) → finished_by t (spanless_parts k children) ≡ without_spans (finished_by t (with_span k children))
  by-bare target.Left k children = left-bare k children
  by-bare target.Head k children = part-bare k children
  by-bare target.Part k children = part-bare k children
  by-bare target.Rest k children = name-bare k children
  by-bare target.Name k children = name-bare k children
  by-bare target.Element k children = element-bare k children
  by-bare target.Property k children = property-bare k children
  by-bare t k children = sym (spanless at k children)

abbrev Alike : Node → Type 0
Alike n = (t : Target) → finished_at (without_spans n) t ≡ without_spans (finished_at n t)

each-alike : (ns : List ((n : Node) × Alike n)) (asked : ℕ → Target)
    → each_in asked (map finished_at (map without_spans (map (λ e. e.0) ns))) ≡ map without_spans (each_in asked (map finished_at (map (λ e. e.0) ns)))
each-alike [] asked = refl
each-alike (n ∷ ns) asked = ap₂ (λ a rest. a ∷ rest) (n.1 (asked 0)) (each-alike ns (λ i. asked (suc i)))

abbrev EachAlike : List Node → Type 0
EachAlike ns = (asked : ℕ → Target) → each_in asked (map finished_at (map without_spans ns)) ≡ map without_spans (each_in asked (map finished_at ns))

layer-alike : (x : Node-F Node) → EachAlike x.children → Alike (roll-Node x)
layer-alike x each t =
    ap (λ n. finished_at n t) (spanless x.span x.kind x.children)
    ∙ finished_node dummy_span x.kind (map without_spans x.children) t
    ∙ ap (λ (ns : List Node). finished_by t (record { span = dummy_span; kind = x.kind; children = ns })) (each (target_in t x.kind))
    ∙ by-bare x.span t x.kind (each_in (target_in t x.kind) (map finished_at x.children))
    ∙ ap without_spans (sym (finished_node x.span x.kind x.children t))

alike : (n : Node) → Alike n
alike = ind-Node Alike (λ x y is. layer-alike x (subst (λ (z : Node-F Node). EachAlike z.children) is (each-alike y.children)))

pub spans_do_not_matter_to_finishing : SpansDoNotMatterToFinishing
spans_do_not_matter_to_finishing raw again same =
    sym (alike again target.Free) ∙ ap (λ n. finished_at n target.Free) same ∙ alike raw target.Free
