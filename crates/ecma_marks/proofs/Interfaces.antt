-- A module imports and exports what it did with one item more for which nothing is told.
use Rattle.std.proofs.Common.{◌≡◌, ◌∙◌, ℕ, Bool, true, false, cond, refl, sym, ap, List, [], ◌∷◌, ◌++◌, append-nil, filter, flat_map, Option, slice_get}
use Rattle.std.proofs.lemmas.Grind.{flat_map-append}
use Rattle.std.proofs.lemmas.List.Elements.{filter-append}
use Rattle.ecma_kind.specs.declared.kind.Kind.TheVariants as kind
use Rattle.ecma_kind.specs.declared.span.Span.{Span}
use Rattle.ecma_tree.specs.declared.node.Node.{Node}
use Rattle.ecma_rules.specs.Children.{children_of, items_at}
use Rattle.ecma_strip.specs.Staying.{stays}
use Rattle.ecma_lower.specs.Marking.{empty_export}
use Rattle.ecma_interface.specs.Interface.{Interface, ReExport}
use Rattle.ecma_interface.specs.Names.{Id}
use Rattle.ecma_interface.specs.Reading.{again, export, export_by, export_specifier, import, import_by, interface_of, re_export, re_export_by, request_at, without_repeats}
use Rattle.ecma_marks.specs.Laws.{MarkedTreesHaveTheirInterface}
use Rattle.ecma_marks.proofs.Adding.{where-it-may-come}
use Rattle.ecma_marks.proofs.Export.{export-kind, no_source, no_specifiers}
use Rattle.ecma_marks.proofs.Modules.{children-of, list_at, module_at}

-- nothing is told for an item
untold : {A : Type 0} (told : Node → List A) (e : Node) → told e ≡ [] → (ns : List Node) → flat_map told (filter stays (ns ++ e ∷ [])) ≡ flat_map told (filter stays ns)
untold told e none ns =
    ap (flat_map told) (filter-append stays ns (e ∷ []))
    ∙ flat_map-append told (filter stays ns) (filter stays (e ∷ []))
    ∙ ap (λ z. flat_map told (filter stays ns) ++ z) (by (stays e))
    ∙ append-nil (flat_map told (filter stays ns))
  where
    by : (b : Bool) → flat_map told (cond b (e ∷ []) []) ≡ []
    by true = ap (λ z. z ++ []) none
    by false = refl

module _ (text : Id → List ℕ) where
  abbrev read_off : List Node → Interface
  read_off items = record {
    imports = flat_map (import text) (filter stays items);
    re_exports = flat_map re_export (filter stays items);
    exports = without_repeats (flat_map (export text) (filter stays items));
  }

  read_same : (e : Node) → import text e ≡ [] → re_export e ≡ [] → export text e ≡ [] → (ns : List Node) → read_off (ns ++ e ∷ []) ≡ read_off ns
  read_same e imports re_exports exports ns = λ i. record {
    imports = untold (import text) e imports ns i;
    re_exports = untold re_export e re_exports ns i;
    exports = without_repeats (untold (export text) e exports ns i);
  }

  module _ (span : Span) (shebang : Option (List ℕ)) (place : Span) where
    module-interface : (ns : List Node) → interface_of text (module_at span shebang place ns) ≡ read_off ns
    module-interface ns =
        ap (λ (z : List Node). read_off (children_of (slice_get z 0))) (children-of span (kind.Module shebang) (list_at place ns ∷ []))
        ∙ ap read_off (children-of place kind.List ns)

    pub more-interface : (e : Node) → import text e ≡ [] → re_export e ≡ [] → export text e ≡ [] → (ns : List Node)
        → interface_of text (module_at span shebang place (ns ++ e ∷ [])) ≡ interface_of text (module_at span shebang place ns)
    more-interface e imports re_exports exports ns = module-interface (ns ++ e ∷ []) ∙ read_same e imports re_exports exports ns ∙ sym (module-interface ns)

-- ---- nothing is told for `export {}`

abbrev exported_again : ReExport
exported_again = record { request = request_at empty_export 1 2; entries = flat_map again (items_at empty_export 0) }

no_re_export : re_export empty_export ≡ []
no_re_export =
    ap (λ k. re_export_by k empty_export) export-kind
    ∙ ap (λ (b : Bool). cond b (exported_again ∷ []) []) no_source

module _ (text : Id → List ℕ) where
  no_import : import text empty_export ≡ []
  no_import = ap (λ k. import_by text k empty_export) export-kind

  no_export : export text empty_export ≡ []
  no_export =
      ap (λ k. export_by text k empty_export) export-kind
      ∙ ap (λ (b : Bool). cond b [] (flat_map (export_specifier text) (items_at empty_export 0))) no_source
      ∙ ap (flat_map (export_specifier text)) no_specifiers

pub marked_trees_have_their_interface : MarkedTreesHaveTheirInterface
marked_trees_have_their_interface no_empty_export was_module text tree h =
    where-it-may-come (λ z. interface_of text z ≡ interface_of text tree) no_empty_export was_module tree h
    (λ span shebang place ns items before. more-interface text span shebang place empty_export (no_import text) no_re_export (no_export text) ns ∙ before)
    refl
