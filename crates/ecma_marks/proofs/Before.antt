-- `export {}` is put in before types go or after.
use Rattle.std.proofs.Common.{◌≡◌, ◌∙◌, ℕ, Bool, true, false, ◌||◌, not, cond, refl, sym, ap, ap₂, List, [], ◌∷◌, ◌++◌, map, filter, Option}
use Rattle.std.proofs.lemmas.List.{map-append}
use Rattle.std.proofs.lemmas.List.Elements.{filter-append}
use Rattle.ecma_kind.specs.declared.kind.Kind.TheVariants as kind
use Rattle.ecma_kind.specs.declared.span.Span.{Span}
use Rattle.ecma_tree.specs.Nodes.{absent, dummy_span, list_node, node_of}
use Rattle.ecma_tree.specs.Values.{value_by}
use Rattle.ecma_tree.specs.declared.node.Node.{Node, Node-F}
use Rattle.ecma_tree.specs.declared.node.Node.TheViews.{out-roll-Node}
use Rattle.ecma_lower.specs.Items.{in_items}
use Rattle.ecma_lower.specs.Marking.{empty_export, has_module_declaration}
use Rattle.ecma_strip.specs.Staying.{is_declared, specifier_stays, stays}
use Rattle.ecma_strip.specs.Stripping.{plain, plain_children, plain_kind, stripped, without_empty}
use Rattle.ecma_strip_rewriting.specs.Commuting.{is_full}
use Rattle.ecma_strip_rewriting.proofs.Commuting.{stripped-absent}
use Rattle.ecma_strip_rewriting.proofs.PlainKinds.{full-roll, stripped-list, stripped-other}
use Rattle.ecma_strip_rewriting.proofs.Stays.{stays-roll}
use Rattle.ecma_marks.specs.Laws.{MarkedBeforeOrAfter}
use Rattle.ecma_marks.proofs.Adding.{module-form, module-in}
use Rattle.ecma_marks.proofs.Modules.{module_at, with_export}

-- ---- `export {}` stays when types go, as it is

pub export-stays : stays empty_export ≡ true
unfolding value_by is_declared specifier_stays
export-stays = stays-roll dummy_span (kind.NamedExport false) (list_node [] ∷ absent ∷ absent ∷ [])

plain-export : stripped empty_export ≡ empty_export
unfolding plain plain_kind plain_children
plain-export =
    stripped-other dummy_span (kind.NamedExport false) (list_node [] ∷ absent ∷ absent ∷ []) refl
    ∙ ap₂ (λ a b. node_of dummy_span (kind.NamedExport false) (a ∷ b ∷ b ∷ [])) (stripped-list dummy_span []) stripped-absent

-- ---- a module without types

-- items without types: first what goes, then the types, then what is empty
abbrev bare : List Node → List Node
bare ns = filter is_full (map stripped (filter stays ns))

empty-roll : (place : Span) (ns : List Node) → without_empty (node_of place kind.List ns) ≡ node_of place kind.List (filter is_full ns)
empty-roll place ns = let parts : Node-F Node = record { span = place; kind = kind.List; children = ns } in ap (λ (z : Node-F Node). node_of z.span z.kind (filter is_full z.children)) (out-roll-Node parts)

module-stripped : (span : Span) (shebang : Option (List ℕ)) (place : Span) (ns : List Node) → stripped (module_at span shebang place ns) ≡ module_at span shebang place (bare ns)
unfolding plain plain_kind plain_children
module-stripped span shebang place ns =
    stripped-other span (kind.Module shebang) (node_of place kind.List ns ∷ []) refl
    ∙ ap (λ z. node_of span (kind.Module shebang) (without_empty z ∷ [])) (stripped-list place ns)
    ∙ ap (λ z. node_of span (kind.Module shebang) (z ∷ [])) (empty-roll place (map stripped (filter stays ns)))

bare-append : (ns ms : List Node) → bare (ns ++ ms) ≡ bare ns ++ bare ms
bare-append ns ms =
    ap (λ z. filter is_full (map stripped z)) (filter-append stays ns ms)
    ∙ ap (filter is_full) (map-append stripped (filter stays ns) (filter stays ms))
    ∙ filter-append is_full (map stripped (filter stays ns)) (map stripped (filter stays ms))

-- an item that stays as it is, and is no empty statement
bare-item : (e : Node) → stays e ≡ true → stripped e ≡ e → is_full e ≡ true → bare (e ∷ []) ≡ e ∷ []
bare-item e stays' same full =
    ap (λ b. filter is_full (map stripped (cond b (e ∷ []) []))) stays'
    ∙ ap (λ z. filter is_full (z ∷ [])) same
    ∙ ap (λ b. cond b (e ∷ []) []) full

module-marked : (span : Span) (shebang : Option (List ℕ)) (place : Span) (ns : List Node)
    → stripped (in_items with_export (module_at span shebang place ns)) ≡ in_items with_export (stripped (module_at span shebang place ns))
module-marked span shebang place ns =
    ap stripped (module-in with_export span shebang place ns)
    ∙ module-stripped span shebang place (with_export ns)
    ∙ ap (module_at span shebang place)
    (bare-append ns (empty_export ∷ [])
    ∙ ap (λ z. bare ns ++ z) (bare-item empty_export export-stays plain-export (full-roll dummy_span (kind.NamedExport false) (list_node [] ∷ absent ∷ absent ∷ []))))
    ∙ sym (module-in with_export span shebang place (bare ns))
    ∙ sym (ap (in_items with_export) (module-stripped span shebang place ns))

pub marked_before_or_after : MarkedBeforeOrAfter
marked_before_or_after no_empty_export was_module tree h = by (no_empty_export || not was_module || has_module_declaration (stripped tree))
  where
    by : (b : Bool) → stripped (cond b tree (in_items with_export tree)) ≡ cond b (stripped tree) (in_items with_export (stripped tree))
    by true = refl
    by false =
        let form = module-form tree h in
        ap (λ z. stripped (in_items with_export z)) form.4
        ∙ module-marked form.0 form.1 form.2 form.3
        ∙ sym (ap (λ z. in_items with_export (stripped z)) form.4)
