-- Contexts say nothing of the functions and the items of a module.
use Rattle.std.proofs.Common.{◌≡◌, ◌∙◌, ℕ, Bool, true, false, ◌&&◌, List, [], ◌∷◌, map, refl, sym, ap, ap₂, subst}
use Rattle.std.specs.List.{list_all}
use Rattle.ecma_kind.specs.declared.kind.Kind.{Kind}
use Rattle.ecma_kind.specs.declared.kind.Kind.TheVariants as kind
use Rattle.ecma_tree.specs.declared.node.Node.{Node, Node-F, fold-roll-Node, ind-Node, roll-Node}
use Rattle.ecma_tree.specs.Changing.{changed_here}
use Rattle.ecma_tree.specs.Contexts.{kind_with_context}
use Rattle.ecma_scope.specs.Laws.{without_contexts}
use Rattle.ecma_rules.specs.Children.{items_at}
use Rattle.ecma_scope_fits.proofs.Moved.{Same, all_same, child_same, items_same}
use Rattle.ecma_scope_fits.proofs.Tests.{by_kind}
use Rattle.ecma_plain.specs.Functions.{Functions, functions, functions_step}
use Rattle.ecma_plain.specs.Items.{has_plain_items, is_external, is_plain_item, is_plain_kind}

abbrev none : List ℕ → ℕ → ℕ
none sym ctxt = 0

abbrev pub bare : Kind → Kind
bare = kind_with_context none

-- functions

step_same : (k : Kind) (x : Node-F Functions) → functions_step (record { span = x.span; kind = bare k; children = x.children }) ≡ functions_step (record { span = x.span; kind = k; children = x.children })
step_same (kind.Ident sym ctxt optional) x = refl
step_same _ x = refl

abbrev Alike : Node → Type 0
Alike n = functions (without_contexts n) ≡ functions n

all_alike : (es : List ((n : Node) × Alike n)) → map functions (map without_contexts (map (λ e. e.0) es)) ≡ map functions (map (λ e. e.0) es)
all_alike [] = refl
all_alike (e ∷ es) = ap₂ (λ a b. a ∷ b) e.1 (all_alike es)

layer_alike : (x : Node-F Node) → map functions (map without_contexts x.children) ≡ map functions x.children → Alike (roll-Node x)
layer_alike x below =
    ap functions (fold-roll-Node Node (changed_here (λ span. span) bare) x)
    ∙ fold-roll-Node Functions functions_step (record { span = x.span; kind = bare x.kind; children = map without_contexts x.children })
    ∙ ap (λ (z : List Functions). functions_step (record { span = x.span; kind = bare x.kind; children = z })) below
    ∙ step_same x.kind (record { span = x.span; kind = x.kind; children = map functions x.children })
    ∙ sym (fold-roll-Node Functions functions_step x)

pub functions_alike : (n : Node) → functions (without_contexts n) ≡ functions n
functions_alike = ind-Node Alike (λ x y is. layer_alike x (subst (λ (z : Node-F Node). map functions (map without_contexts z.children) ≡ map functions z.children) is (all_alike y.children)))

-- items

plain_kind_same : (assignments : Bool) (k : Kind) (n : Node) → is_plain_kind assignments k (without_contexts n) ≡ is_plain_kind assignments k n
plain_kind_same assignments (kind.TsImportEqualsDecl is_export is_type_only) n = ap (λ b. assignments && b) (child_same none is_external (λ text a b optional. refl) n 1)
plain_kind_same assignments _ n = refl

plain_item_same : (assignments : Bool) → Same none (is_plain_item assignments)
plain_item_same assignments = by_kind none (is_plain_kind assignments) (λ n text a b optional. refl) (plain_kind_same assignments)

pub items_alike : (assignments : Bool) (n : Node) → has_plain_items assignments (without_contexts n) ≡ has_plain_items assignments n
items_alike assignments n = ap (λ (z : List Node). list_all (is_plain_item assignments) z) (items_same none n 0) ∙ all_same none (is_plain_item assignments) (plain_item_same assignments) (items_at n 0)
