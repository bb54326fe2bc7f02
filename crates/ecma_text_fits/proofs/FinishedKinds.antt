-- What finishing keeps of a node's kind, and of all that holds throughout a tree.
use Rattle.std.proofs.Common.{◌≡◌, ℕ, suc, Bool, true, false, List, [], ◌∷◌, ◌++◌, map, refl, sym, subst}
use Rattle.ecma_kind.specs.declared.span.Span.{Span}
use Rattle.ecma_kind.specs.declared.operators.AssignOp.{AssignOp}
use Rattle.ecma_kind.specs.declared.operators.AssignOp.TheVariants.{Assign}
use Rattle.ecma_kind.specs.declared.kind.Kind.{Kind}
use Rattle.ecma_kind.specs.declared.kind.Kind.TheVariants as kind
use Rattle.ecma_tree.specs.declared.node.Node.{Node, Node-F, ind-Node, out-Node, roll-Node}
use Rattle.ecma_tree.specs.declared.node.Node.TheViews.{out-roll-Node}
use Rattle.ecma_tree.specs.Nodes.{absent, dummy_span}
use Rattle.ecma_rules.specs.declared.target.Target.{Target}
use Rattle.ecma_rules.specs.declared.target.Target.TheVariants as target
use Rattle.ecma_rules.specs.Finishing.{binding, default_by, each_in, element_by, finished_at, finished_by, left_by, name_by, part_by, property_by, shorthand, with_type}
use Rattle.ecma_rules.specs.Targets.{target_in}
use Rattle.ecma_text_leaves.proofs.Trees.{children_made}
use Rattle.ecma_text_fits_finished.proofs.Standing.{finished_parts}
use Rattle.ecma_text_fits_parts.proofs.Throughout.{EachThroughout, Throughout, append_all, below, here, more, none, throughout}

-- the kinds that finishing makes
abbrev pub is_turned : Kind → Bool
is_turned kind.Absent = true
is_turned kind.BindingIdent = true
is_turned (kind.ArrayPat optional) = true
is_turned (kind.ObjectPat optional) = true
is_turned kind.RestPat = true
is_turned kind.AssignPat = true
is_turned kind.KeyValuePatProp = true
is_turned kind.AssignPatProp = true
is_turned _ = false

module _ (P : Kind → List Node → Type 0) (made : (k : Kind) (cs : List Node) → is_turned k ≡ true → P k cs) where
  abbrev T : Node → Type 0
  T = Throughout P

  abbrev E : List Node → Type 0
  E = EachThroughout P

  absent_made : T absent
  absent_made = throughout dummy_span kind.Absent (made kind.Absent [] refl) none

  binding_made : (n : Node) → T n → T (binding n)
  binding_made n g = throughout (out-Node n).span kind.BindingIdent (made kind.BindingIdent (n ∷ absent ∷ []) refl) (more g (more absent_made none))

  shorthand_made : (n : Node) → T n → T (shorthand n)
  shorthand_made n g = throughout (out-Node n).span kind.AssignPatProp (made kind.AssignPatProp (binding n ∷ absent ∷ []) refl) (more (binding_made n g) (more absent_made none))

  module _ (span : Span) (children : List Node) (all : E children) where
    abbrev parts : Kind → Node-F Node
    parts k = record { span = span; kind = k; children = children }

    typed : (k to : Kind) → is_turned to ≡ true → T (with_type to (parts k))
    typed k to e = throughout span to (made to (children ++ absent ∷ []) e) (append_all P all (more absent_made none))

    same : (k : Kind) → P k children → T (roll-Node (parts k))
    same k p = throughout span k p all

    left_made : (k : Kind) → P k children → T (left_by k (parts k))
    left_made kind.ArrayLit p = typed kind.ArrayLit (kind.ArrayPat false) refl
    left_made kind.ObjectLit p = typed kind.ObjectLit (kind.ObjectPat false) refl
    left_made k p = same k p

    name_made : (k : Kind) → P k children → T (name_by k (parts k))
    name_made (kind.Ident text ctxt optional) p = binding_made _ (same (kind.Ident text ctxt optional) p)
    name_made k p = same k p

    part_made : (k : Kind) → P k children → T (part_by k (parts k))
    part_made (kind.Ident text ctxt optional) p = binding_made _ (same (kind.Ident text ctxt optional) p)
    part_made kind.ArrayLit p = left_made kind.ArrayLit p
    part_made kind.ObjectLit p = left_made kind.ObjectLit p
    part_made k p = same k p

    default_made : (op : AssignOp) → P (kind.AssignExpr op) children → T (default_by op (parts (kind.AssignExpr op)))
    default_made Assign p = throughout span kind.AssignPat (made kind.AssignPat children refl) all
    default_made op p = same (kind.AssignExpr op) p

    element_made : (k : Kind) → P k children → T (element_by k (parts k))
    element_made kind.SpreadElement p = typed kind.SpreadElement kind.RestPat refl
    element_made (kind.AssignExpr op) p = default_made op p
    element_made (kind.Ident text ctxt optional) p = part_made (kind.Ident text ctxt optional) p
    element_made kind.ArrayLit p = left_made kind.ArrayLit p
    element_made kind.ObjectLit p = left_made kind.ObjectLit p
    element_made k p = same k p

    property_made : (k : Kind) → P k children → T (property_by k (parts k))
    property_made kind.KeyValueProp p = throughout span kind.KeyValuePatProp (made kind.KeyValuePatProp children refl) all
    property_made kind.AssignProp p = throughout span kind.AssignPatProp (made kind.AssignPatProp children refl) all
    property_made kind.SpreadElement p = typed kind.SpreadElement kind.RestPat refl
    property_made (kind.Ident text ctxt optional) p = shorthand_made _ (same (kind.Ident text ctxt optional) p)
    property_made k p = same k p

    turned_made : (t : Target) (k : Kind) → P k children → T (finished_by t (parts k))
    turned_made target.Left k p = left_made k p
    turned_made target.Head k p = part_made k p
    turned_made target.Part k p = part_made k p
    turned_made target.Rest k p = name_made k p
    turned_made target.Name k p = name_made k p
    turned_made target.Element k p = element_made k p
    turned_made target.Property k p = property_made k p
    turned_made _ k p = same k p

  module _ (stays : (t : Target) (k : Kind) (cs : List Node) → P k cs → P k (each_in (target_in t k) (map finished_at cs))) where
    abbrev Keeps : Node → Type 0
    Keeps n = T n → (t : Target) → T (finished_at n t)

    all_keep : (es : List ((n : Node) × Keeps n)) → E (map (λ e. e.0) es) → (target_of : ℕ → Target) → E (each_in target_of (map finished_at (map (λ e. e.0) es)))
    all_keep [] h target_of = none
    all_keep (e ∷ es) (more a h) target_of = more (e.1 a (target_of 0)) (all_keep es h (λ i. target_of (suc i)))

    node_keeps : (x : Node-F Node) → (E x.children → (target_of : ℕ → Target) → E (each_in target_of (map finished_at x.children))) → Keeps (roll-Node x)
    node_keeps x inside g t =
        let p : P x.kind x.children = subst (λ (q : Node-F Node). P q.kind q.children) (out-roll-Node x) (here P g) in
        let all : E x.children = subst E (children_made x.span x.kind x.children) (below P g) in
        subst T (sym (finished_parts x t)) (turned_made x.span (each_in (target_in t x.kind) (map finished_at x.children)) (inside all (target_in t x.kind)) t x.kind (stays t x.kind x.children p))

    -- it holds throughout the finished tree too
    pub throughout_finished : (n : Node) → Keeps n
    throughout_finished = ind-Node Keeps (λ x y is. node_keeps x (subst (λ (z : Node-F Node). E z.children → (target_of : ℕ → Target) → E (each_in target_of (map finished_at z.children))) is (all_keep y.children)))
