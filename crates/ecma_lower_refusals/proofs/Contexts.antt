-- Contexts are no part of what is refused.
use Rattle.std.proofs.Common.{◌≡◌, ◌∙◌, ℕ, Bool, ◌&&◌, List, [], ◌∷◌, map, refl, sym, ap, ap₂, slice_get}
use Rattle.ecma_kind.specs.declared.kind.Kind.{Kind}
use Rattle.ecma_kind.specs.declared.kind.Kind.TheVariants as kind
use Rattle.ecma_tree.specs.Contexts.{kind_with_context}
use Rattle.ecma_tree.specs.declared.node.Node.{Node, Node-F, out-Node}
use Rattle.ecma_tree.specs.declared.node.Node.TheViews.{out-roll-Node}
use Rattle.ecma_tree.proofs.Changing.{changed-parts}
use Rattle.ecma_scope.specs.Laws.{without_contexts}
use Rattle.ecma_rules.specs.Children.{kind_of, of_kind}
use Rattle.ecma_lower.specs.Assignments.{is_export_assignment, is_export_by, is_required, is_required_import}
use Rattle.ecma_lower.specs.Items.{items_by, items_of}
use Rattle.ecma_lower_refusals.specs.Laws.{ContextsDoNotMatterToRefusals}
use Rattle.ecma_lower_refusals.proofs.Refused.{Alike, import-parts, is_import_kind, more, none, refused_alike}

abbrev bare : Kind → Kind
bare = kind_with_context (λ sym ctxt. 0)

bare-parts : (n : Node) → out-Node (without_contexts n) ≡ record { span = (out-Node n).span; kind = bare (kind_of n); children = map without_contexts (out-Node n).children }
bare-parts n = ap out-Node (changed-parts (λ span. span) bare n) ∙ out-roll-Node (record { span = (out-Node n).span; kind = bare (kind_of n); children = map without_contexts (out-Node n).children })

-- what is so of a kind is so without a context, if it does not ask for one
bare_same : (f : Kind → Bool) → ((sym : List ℕ) (ctxt : ℕ) (optional : Bool) → f (kind.Ident sym 0 optional) ≡ f (kind.Ident sym ctxt optional)) → (k : Kind) → f (bare k) ≡ f k
bare_same f h (kind.Ident sym ctxt optional) = h sym ctxt optional
bare_same f h _ = refl

kind_same : (f : Kind → Bool) → ((sym : List ℕ) (ctxt : ℕ) (optional : Bool) → f (kind.Ident sym 0 optional) ≡ f (kind.Ident sym ctxt optional)) → (n : Node) → f (kind_of (without_contexts n)) ≡ f (kind_of n)
kind_same f h n = ap (λ (z : Node-F Node). f z.kind) (bare-parts n) ∙ bare_same f h (kind_of n)

second_same : (cs : List Node) → of_kind is_required (slice_get (map without_contexts cs) 1) ≡ of_kind is_required (slice_get cs 1)
second_same [] = refl
second_same (a ∷ []) = refl
second_same (a ∷ b ∷ cs) = kind_same is_required (λ sym ctxt optional. refl) b

import_same : (n : Node) → is_required_import (without_contexts n) ≡ is_required_import n
import_same n =
    import-parts (without_contexts n)
    ∙ ap₂ (λ a b. a && b) (kind_same is_import_kind (λ sym ctxt optional. refl) n)
    (ap (λ (z : Node-F Node). of_kind is_required (slice_get z.children 1)) (bare-parts n) ∙ second_same (out-Node n).children)
    ∙ sym (import-parts n)

span_same : (n : Node) → (out-Node (without_contexts n)).span ≡ (out-Node n).span
span_same n = ap (λ (z : Node-F Node). z.span) (bare-parts n)

bare_alike : (ns : List Node) → Alike ns (map without_contexts ns)
bare_alike [] = none
bare_alike (n ∷ ns) = more (kind_same is_export_by (λ sym ctxt optional. refl) n) (import_same n) (λ e. span_same n) (λ i. span_same n) (bare_alike ns)

lists_alike : (cs : List Node) → Alike (items_by cs) (items_by (map without_contexts cs))
lists_alike [] = none
lists_alike (list ∷ others) = rw (ap (λ (z : Node-F Node). z.children) (bare-parts list)) (bare_alike (out-Node list).children)

pub contexts_do_not_matter : ContextsDoNotMatterToRefusals
contexts_do_not_matter assign tree = refused_alike assign tree (without_contexts tree) (rw (ap (λ (z : Node-F Node). z.children) (bare-parts tree)) (lists_alike (out-Node tree).children))
