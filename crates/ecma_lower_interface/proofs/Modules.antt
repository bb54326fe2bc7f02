-- A module with its assignments lowered has its interface.
use Rattle.std.proofs.Common.{◌≡◌, ◌∙◌, inl, inr, ℕ, Bool, true, false, not, codes, cond, refl, sym, ap, subst, List, [], ◌∷◌, ◌++◌, map, filter, flat_map, Option, None, append-nil, slice_get}
use Rattle.std.proofs.lemmas.Grind.{flat_map-append}
use Rattle.std.proofs.lemmas.List.Elements.{filter-append}
use Rattle.ecma_config.specs.declared.config.TsImportExportAssignConfig.{TsImportExportAssignConfig}
use Rattle.ecma_config.specs.declared.config.TsImportExportAssignConfig.TheVariants as way
use Rattle.ecma_kind.specs.declared.kind.Kind.{Kind}
use Rattle.ecma_kind.specs.declared.kind.Kind.TheVariants as kind
use Rattle.ecma_kind.specs.declared.span.Span.{Span}
use Rattle.ecma_tree.specs.Nodes.{dummy_span}
use Rattle.ecma_tree.specs.declared.node.Node.{Node}
use Rattle.ecma_utils.specs.Quotes.{quoted_ident}
use Rattle.ecma_rules.specs.Children.{children_of, items_at, kind_of}
use Rattle.ecma_strip.specs.Staying.{stays}
use Rattle.ecma_interface.specs.Interface.{Interface}
use Rattle.ecma_interface.specs.Names.{Id}
use Rattle.ecma_interface.specs.Reading.{export, import, interface_of, re_export, without_repeats}
use Rattle.ecma_interface_laws.proofs.Items.{SameItems, interface_same}
use Rattle.ecma_interface_laws.proofs.Telling.{is_item, silent}
use Rattle.ecma_lower.specs.declared.names.Names.{Names}
use Rattle.ecma_lower.specs.declared.seat.Seat.TheVariants as seat
use Rattle.ecma_lower.specs.Assignments.{is_export_assignment, is_export_by}
use Rattle.ecma_lower.specs.Lowered.{with_assignments_lowered}
use Rattle.ecma_lower.specs.Moving.{exports_last}
use Rattle.ecma_lower.specs.Names.{names_of}
use Rattle.ecma_lower.proofs.Singles.{write}
use Rattle.ecma_lower_strip.proofs.Lists.{AreItems, items-moved}
use Rattle.ecma_lower_strip.proofs.Modules.{as_list, as_module, module-form, module-lowered}
use Rattle.ecma_lower_interface.specs.Laws.{LoweredTreesHaveTheirInterface}
use Rattle.ecma_lower_interface.proofs.Items.{Goes, children-roll, item-same}

-- ---- items for which nothing is told may go to the end

module _ {A : Type 0} (told : Node → List A) (test : Node → Bool) (untold : (n : Node) → test n ≡ true → told n ≡ []) where
  abbrev of_all : List Node → List A
  of_all ns = flat_map told (filter stays ns)

  append-told : (ns ms : List Node) → of_all (ns ++ ms) ≡ of_all ns ++ of_all ms
  append-told ns ms = ap (flat_map told) (filter-append stays ns ms) ∙ flat_map-append told (filter stays ns) (filter stays ms)

  one-untold : (n : Node) (ns : List Node) → test n ≡ true → of_all (n ∷ ns) ≡ of_all ns
  one-untold n ns h = by (stays n)
    where
      by : (b : Bool) → flat_map told (cond b (n ∷ filter stays ns) (filter stays ns)) ≡ of_all ns
      by true = ap (λ z. z ++ of_all ns) (untold n h)
      by false = refl

  one-more : (n : Node) (ns ms : List Node) → of_all ns ≡ of_all ms → of_all (n ∷ ns) ≡ of_all (n ∷ ms)
  one-more n ns ms rest = append-told (n ∷ []) ns ∙ ap (λ z. of_all (n ∷ []) ++ z) rest ∙ sym (append-told (n ∷ []) ms)

  others-told : (ns : List Node) → of_all (filter (λ n. not (test n)) ns) ≡ of_all ns
  others-told [] = refl
  others-told (n ∷ ns) = by (test n) refl (others-told ns)
    where
      by : (b : Bool) → test n ≡ b → of_all (filter (λ m. not (test m)) ns) ≡ of_all ns → of_all (cond (not b) (n ∷ filter (λ m. not (test m)) ns) (filter (λ m. not (test m)) ns)) ≡ of_all (n ∷ ns)
      by true h rest = rest ∙ sym (one-untold n ns h)
      by false h rest = one-more n (filter (λ m. not (test m)) ns) ns rest

  these-untold : (ns : List Node) → of_all (filter test ns) ≡ []
  these-untold [] = refl
  these-untold (n ∷ ns) = by (test n) refl (these-untold ns)
    where
      by : (b : Bool) → test n ≡ b → of_all (filter test ns) ≡ [] → of_all (cond b (n ∷ filter test ns) (filter test ns)) ≡ []
      by true h rest = one-untold n (filter test ns) h ∙ rest
      by false h rest = rest

  moved-told : (ns : List Node) → of_all (filter (λ n. not (test n)) ns ++ filter test ns) ≡ of_all ns
  moved-told ns =
      append-told (filter (λ n. not (test n)) ns) (filter test ns)
      ∙ ap (λ z. of_all (filter (λ n. not (test n)) ns) ++ z) (these-untold ns)
      ∙ append-nil (of_all (filter (λ n. not (test n)) ns))
      ∙ others-told ns

-- ---- a module

export-no-item : (k : Kind) → is_export_by k ≡ true → is_item k ≡ false
export-no-item kind.TsExportAssignment h = refl
export-no-item _ h = cc

-- where modules are required, `exports` is free
names-go : (assign : TsImportExportAssignConfig) (free : ℕ) → Goes (names_of assign free None)
names-go way.Classic free = inr (quoted_ident free dummy_span (codes "require"), free, refl)
names-go way.Preserve free = inl refl
names-go way.NodeNext free = inl refl
names-go way.EsNext free = inl refl

module _ (text : Id → List ℕ) (span : Span) (shebang : Option (List ℕ)) (place : Span) where
  abbrev whole : List Node → Node
  whole = as_module span shebang place

  items-are : (ns : List Node) → items_at (whole ns) 0 ≡ ns
  items-are ns = ap (λ (z : List Node). children_of (slice_get z 0)) (children-roll span (kind.Module shebang) (as_list span shebang place ns ∷ [])) ∙ children-roll place kind.List ns

  abbrev read_off : List Node → Interface
  read_off items = record {
    imports = flat_map (import text) (filter stays items);
    re_exports = flat_map re_export (filter stays items);
    exports = without_repeats (flat_map (export text) (filter stays items));
  }

  moved-read : (ns : List Node) → read_off (exports_last ns) ≡ read_off ns
  moved-read ns = λ i. record {
    imports = moved-told (import text) is_export_assignment (λ n h. (silent text n (export-no-item (kind_of n) h)).0) ns i;
    re_exports = moved-told re_export is_export_assignment (λ n h. (silent text n (export-no-item (kind_of n) h)).1) ns i;
    exports = without_repeats (moved-told (export text) is_export_assignment (λ n h. (silent text n (export-no-item (kind_of n) h)).2) ns i);
  }

  moved-interface : (ns : List Node) → interface_of text (whole (exports_last ns)) ≡ interface_of text (whole ns)
  moved-interface ns = ap read_off (items-are (exports_last ns)) ∙ moved-read ns ∙ sym (ap read_off (items-are ns))

  items-same : (names : Names) → Goes names → (ns : List Node) → AreItems ns → SameItems text text ns (map (write names seat.Item) ns)
  items-same names goes [] h = tt
  items-same names goes (n ∷ ns) h = (item-same text names goes n h.0, items-same names goes ns h.1)

  written-interface : (names : Names) → Goes names → (ns : List Node) → AreItems ns → interface_of text (whole (map (write names seat.Item) ns)) ≡ interface_of text (whole ns)
  written-interface names goes ns h =
      let ms = map (write names seat.Item) ns in
      interface_same text text (whole ns) (whole ms)
      (subst (λ z. SameItems text text z (items_at (whole ms) 0)) (sym (items-are ns)) (subst (SameItems text text ns) (sym (items-are ms)) (items-same names goes ns h)))

  lowered-interface : (assign : TsImportExportAssignConfig) (free : ℕ) (ns : List Node) → AreItems ns → interface_of text (with_assignments_lowered assign free (whole ns)) ≡ interface_of text (whole ns)
  lowered-interface assign free ns h =
      ap (interface_of text) (module-lowered span shebang place assign free ns)
      ∙ written-interface (names_of assign free None) (names-go assign free) (exports_last ns) (items-moved ns h)
      ∙ moved-interface ns

pub lowered_trees_have_their_interface : LoweredTreesHaveTheirInterface
lowered_trees_have_their_interface assign free text tree sorted taken unrefused =
    let form = module-form tree sorted in
    subst (λ z. interface_of text (with_assignments_lowered assign free z) ≡ interface_of text z) (sym form.4) (lowered-interface text form.0 form.1 form.2 assign free form.3 form.5)
