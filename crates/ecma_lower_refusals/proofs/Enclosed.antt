-- Parentheses change no item of a module that is an assignment.
use Rattle.std.proofs.Common.{◌≡◌, ◌∙◌, Bool, false, ◌&&◌, List, [], ◌∷◌, refl, sym, ap, ap₂, subst}
use Rattle.ecma_kind.specs.declared.kind.Kind.{Kind}
use Rattle.ecma_kind.specs.declared.kind.Kind.TheVariants as kind
use Rattle.ecma_kind.specs.declared.shapes.Sort.TheVariants as sort
use Rattle.ecma_tree.specs.Nodes.{node_of}
use Rattle.ecma_tree.specs.Sorted.{one}
use Rattle.ecma_tree.specs.declared.node.Node.{Node, Node-F, out-Node}
use Rattle.ecma_tree.specs.declared.node.Node.TheViews.{out-roll-Node}
use Rattle.ecma_enclose.specs.Enclosing.{enclosed}
use Rattle.ecma_enclose_fits.proofs.Adding.{Adds, All, children_of, enclosed_adds, is_open}
use Rattle.ecma_enclose_fits.proofs.Adding as adding
use Rattle.ecma_enclose_fits.proofs.Alike.{all_of, child_same, kind_same, span_same}
use Rattle.ecma_rules.specs.Children.{kind_of}
use Rattle.ecma_lower.specs.Assignments.{is_export_by, is_required, is_required_import}
use Rattle.ecma_lower.specs.Checking.{first_refusal}
use Rattle.ecma_lower.specs.Items.{items_by, items_of}
use Rattle.ecma_lower_strip.proofs.Modules.{as_module, module-form}
use Rattle.ecma_lower_refusals.specs.Laws.{EnclosedTreesAreRefusedAlike}
use Rattle.ecma_lower_refusals.proofs.Refused.{Alike, import-parts, is_import_kind, more, none, refused_alike}

import_same : {n m : Node} → Adds n m → is_required_import m ≡ is_required_import n
import_same {n} {m} r =
    import-parts m ∙ ap₂ (λ a b. a && b) (ap is_import_kind (kind_same r)) (child_same is_required ((λ value raw. refl), refl, refl, refl, refl, refl, refl) 1 r) ∙ sym (import-parts n)

all_alike : {ns ms : List Node} → All ns ms → Alike ns ms
all_alike adding.none = none
all_alike (adding.more r rest) = more (ap is_export_by (kind_same r)) (import_same r) (λ e. span_same r) (λ i. span_same r) (all_alike rest)

lists_alike : {ns ms : List Node} → All ns ms → (list : Node) → ns ≡ list ∷ [] → is_open (kind_of list) ≡ false → Alike (items_by ns) (items_by ms)
lists_alike adding.none list is closed = cc
lists_alike (adding.more {n} {m} r rest) list is closed =
    let same : n ≡ list = cc in
    all_alike (all_of r (ap (λ z. is_open (kind_of z)) same ∙ closed))

pub trees_are_refused_alike : EnclosedTreesAreRefusedAlike
trees_are_refused_alike assign tree sorted =
    let form = module-form tree sorted in
    let span = form.0 in
    let shebang = form.1 in
    let place = form.2 in
    let ns = form.3 in
    let list : Node = node_of place kind.List ns in
    let parts : out-Node tree ≡ record { span = span; kind = kind.Module shebang; children = list ∷ [] } =
    ap out-Node form.4 ∙ out-roll-Node (record { span = span; kind = kind.Module shebang; children = list ∷ [] }) in
    let inside : kind_of list ≡ kind.List = ap (λ (z : Node-F Node). z.kind) (out-roll-Node (record { span = place; kind = kind.List; children = ns })) in
    let adds : Adds tree (enclosed tree) = enclosed_adds tree (one sort.Module, sorted) in
    let closed : is_open (kind_of tree) ≡ false = ap (λ (z : Node-F Node). is_open z.kind) parts in
    refused_alike assign tree (enclosed tree) (lists_alike (all_of adds closed) list (ap (λ (z : Node-F Node). z.children) parts) (ap is_open inside))
