-- What definitions over trees make of a node of these parts.
use Rattle.std.proofs.Common.{◌≡◌, ℕ, ◌++◌, List, Option, map, ap, ◌∙◌}
use Rattle.ecma_kind.specs.declared.kind.Kind.{Kind}
use Rattle.ecma_kind.specs.declared.span.Span.{Span}
use Rattle.ecma_tree.specs.declared.node.Node.{Node, Node-F, out-Node}
use Rattle.ecma_tree.specs.declared.node.Node.TheViews.{out-roll-Node}
use Rattle.ecma_tree.specs.Contexts.{kind_with_context, with_contexts}
use Rattle.ecma_tree.specs.Nodes.{node_of}
use Rattle.ecma_tree.proofs.Changing.{changed-parts}
use Rattle.ecma_tree.proofs.Layers.{from_leaves-roll}
use Rattle.ecma_tree.proofs.Valuing.{is_value_where-roll, value_where_by}
use Rattle.ecma_scope.specs.declared.form.Declaration.{Declaration}
use Rattle.ecma_scope.specs.declared.form.Sought.{Sought}
use Rattle.ecma_scope.specs.Declarations.{declarations, declared_here, declared_step, found_in, sought_by, sought_in}

abbrev pub parts_of : Span → Kind → List Node → Node-F Node
parts_of span k children = record { span = span; kind = k; children = children }

pub kind-of : (span : Span) (k : Kind) (children : List Node) → (out-Node (node_of span k children)).kind ≡ k
kind-of span k children = ap (λ (z : Node-F Node). z.kind) (out-roll-Node (parts_of span k children))

pub children-of : (span : Span) (k : Kind) (children : List Node) → (out-Node (node_of span k children)).children ≡ children
children-of span k children = ap (λ (z : Node-F Node). z.children) (out-roll-Node (parts_of span k children))

pub contexts-of : (context_of : List ℕ → ℕ → ℕ) (span : Span) (k : Kind) (children : List Node)
    → with_contexts context_of (node_of span k children) ≡ node_of span (kind_with_context context_of k) (map (with_contexts context_of) children)
contexts-of context_of span k children =
    changed-parts (λ span. span) (kind_with_context context_of) (node_of span k children)
    ∙ ap (λ (z : Node-F Node). node_of z.span (kind_with_context context_of z.kind) (map (with_contexts context_of) z.children)) (out-roll-Node (parts_of span k children))

-- what is looked for in the children of a node of these parts
abbrev pub seeks : Sought → Kind → List Node → ℕ → Option Sought
seeks sought k children i = sought_by sought.part sought.stays (value_where_by sought.stays k children) k i

pub seeks-of : (sought : Sought) (span : Span) (k : Kind) (children : List Node) (i : ℕ) → sought_in sought (node_of span k children) i ≡ seeks sought k children i
unfolding sought_in
seeks-of sought span k children i = (λ j. sought_by sought.part sought.stays (is_value_where-roll sought.stays span k children j) (kind-of span k children j) i)

pub declarations-of : (span : Span) (k : Kind) (children : List Node) (sought : Sought)
    → declarations (node_of span k children) sought ≡ declared_here sought k ++ found_in (seeks sought k children) 0 (map declarations children)
declarations-of span k children sought =
    ap (λ f. f sought) (from_leaves-roll (Sought → List Declaration) declared_step (parts_of span k children))
    ∙ (λ j. declared_here sought (kind-of span k children j) ++ found_in (λ i. seeks-of sought span k children i j) 0 (map declarations children))
