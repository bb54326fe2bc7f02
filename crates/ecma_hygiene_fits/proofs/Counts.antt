-- A node has the parts that its production asks for, with other texts too.
use Rattle.std.proofs.Common.{◌≡◌, ◌∙◌, ℕ, zero, suc, Bool, true, false, not, ◌&&◌, ◌||◌, ◌==◌, ◌+◌, List, [], ◌∷◌, length, Some, refl, ap, ap₂, nat_lt, slice_get, subst}
use Rattle.std.specs.List.{list_all}
use Rattle.ecma_kind.specs.Sorts.{belongs}
use Rattle.ecma_kind.specs.declared.kind.Kind.{Kind}
use Rattle.ecma_kind.specs.declared.kind.Kind.TheVariants as kind
use Rattle.ecma_kind.specs.declared.shapes.Shape.{Shape}
use Rattle.ecma_kind.specs.declared.shapes.Sort.TheVariants as sort
use Rattle.ecma_tree.specs.declared.node.Node.{Node}
use Rattle.ecma_tree.specs.Laws.{HaveShapes}
use Rattle.ecma_tree.specs.Sorted.{HasShape, child_shapes, is_absent, maybe}
use Rattle.ecma_rules.specs.Children.{children_of as items_of, has_child, holds_of, is_present, kind_of}
use Rattle.ecma_rules.specs.Targets.{is_key_value}
use Rattle.ecma_fits.specs.Counts.{are_exports, are_imports, are_stars_or_names, ends_once, ends_template, holds_attributes, is_attribute, is_attribute_key, is_default_import, is_empty, is_full_by, is_named_export, is_named_import, is_star_export, is_star_import, is_star_of, is_text, is_whole_template}
use Rattle.ecma_hygiene.specs.declared.spot.Standing.{Standing}
use Rattle.ecma_hygiene.specs.Renamed.{Texts, proto_literal, standing_in}
use Rattle.ecma_hygiene_fits.specs.Laws.{FinalTextsKeepCounts}
use Rattle.ecma_hygiene_fits.proofs.Becoming.{Silent, present_quiet, all_become, become, child_same, children_stay, is_changed, is_touched, kind_unchanged}
use Rattle.ecma_hygiene_fits.proofs.Everywhere.{children_of}
use Rattle.ecma_hygiene_fits.proofs.Listed.{Nameless, all_like, child_like, items_related, items_same, kind_like, length_same, some_same}
use Rattle.ecma_hygiene_fits.proofs.Surroundings.{test_kept}
use Rattle.ecma_hygiene_fits.proofs.Walk.{shape_parts}

both : (a b : Bool) → (a && b) ≡ true → (a ≡ true) × (b ≡ true)
both true b h = (refl, h)
both false b h = cc

-- ---- the kinds that are counted are none of identifiers and properties

ends : Nameless ends_template
ends = record { names = λ text ctxt optional. refl; property = refl; shorthand = refl; pattern = refl }

named_imports : Nameless is_named_import
named_imports = record { names = λ text ctxt optional. refl; property = refl; shorthand = refl; pattern = refl }

star_imports : Nameless is_star_import
star_imports = record { names = λ text ctxt optional. refl; property = refl; shorthand = refl; pattern = refl }

default_imports : Nameless is_default_import
default_imports = record { names = λ text ctxt optional. refl; property = refl; shorthand = refl; pattern = refl }

named_exports : Nameless is_named_export
named_exports = record { names = λ text ctxt optional. refl; property = refl; shorthand = refl; pattern = refl }

star_exports : Nameless is_star_export
star_exports = record { names = λ text ctxt optional. refl; property = refl; shorthand = refl; pattern = refl }

keys : Nameless is_attribute_key
keys = record { names = λ text ctxt optional. refl; property = refl; shorthand = refl; pattern = refl }

texts_of : Nameless is_text
texts_of = record { names = λ text ctxt optional. refl; property = refl; shorthand = refl; pattern = refl }

key_value_unchanged : (k : Kind) → is_key_value k ≡ true → is_changed k ≡ false
unfolding is_changed
key_value_unchanged kind.KeyValueProp e = refl
key_value_unchanged _ e = cc

module _ (texts : Texts) where
  -- ---- templates

  ends_same : (stands : ℕ → Standing) (j : ℕ) (cs : List Node) → ends_once (all_become texts stands j cs) ≡ ends_once cs
  ends_same stands j [] = refl
  ends_same stands j (c ∷ []) = kind_like ends_template ends texts c (stands j)
  ends_same stands j (c ∷ d ∷ cs) = ap₂ (λ a b. not a && b) (kind_like ends_template ends texts c (stands j)) (ends_same stands (suc j) (d ∷ cs))

  empty_same : (stands : ℕ → Standing) (cs : List Node) → is_empty (all_become texts stands 0 cs) ≡ is_empty cs
  empty_same stands [] = refl
  empty_same stands (c ∷ cs) = refl

  -- ---- imports and exports

  stars_same : (stands : ℕ → Standing) (j : ℕ) (cs : List Node) → are_stars_or_names (all_become texts stands j cs) ≡ are_stars_or_names cs
  stars_same stands j [] = refl
  stars_same stands j (c ∷ []) = ap₂ (λ a b. a || b) (kind_like is_star_import star_imports texts c (stands j)) (kind_like is_named_import named_imports texts c (stands j))
  stars_same stands j (c ∷ d ∷ cs) = all_like is_named_import named_imports texts stands j (c ∷ d ∷ cs)

  imports_same : (stands : ℕ → Standing) (cs : List Node) → are_imports (all_become texts stands 0 cs) ≡ are_imports cs
  imports_same stands [] = refl
  imports_same stands (c ∷ cs) =
      ap₂ (λ a b. a || b) (stars_same stands 0 (c ∷ cs)) (ap₂ (λ a b. a && b) (kind_like is_default_import default_imports texts c (stands 0)) (stars_same stands 1 cs))

  star_same : (has_source : Bool) (stands : ℕ → Standing) (cs : List Node) → is_star_of has_source (all_become texts stands 0 cs) ≡ is_star_of has_source cs
  star_same has_source stands [] = refl
  star_same has_source stands (c ∷ []) = ap (λ b. has_source && b) (kind_like is_star_export star_exports texts c (stands 0))
  star_same has_source stands (c ∷ d ∷ cs) = refl

  exports_same : (has_source has_attributes : Bool) (stands : ℕ → Standing) (cs : List Node) → are_exports has_source has_attributes (all_become texts stands 0 cs) ≡ are_exports has_source has_attributes cs
  exports_same has_source has_attributes stands cs =
      ap₂ (λ a b. (a || b) && (has_source || not has_attributes)) (all_like is_named_export named_exports texts stands 0 cs) (star_same has_source stands cs)

  -- ---- attributes

  attribute_stays : (c : Node) (stands : Standing) → is_attribute c ≡ true → is_attribute (become texts c stands) ≡ true
  attribute_stays c stands h =
      let u = key_value_unchanged (kind_of c) (both (is_key_value (kind_of c)) _ h).0 in
      ap₂ (λ a b. a && b) (ap is_key_value (kind_unchanged texts c stands u))
      (ap₂ (λ a b. a && b) (child_like is_attribute_key keys texts c stands u 0) (child_like is_text texts_of texts c stands u 1))
      ∙ h

  abbrev Stay : List Node → List Node → Type 0
  Stay ds cs = list_all is_attribute cs ≡ true → list_all is_attribute ds ≡ true

  attributes_stay : (stands : ℕ → Standing) (j : ℕ) (cs : List Node) → Stay (all_become texts stands j cs) cs
  attributes_stay stands j [] h = refl
  attributes_stay stands j (c ∷ cs) h =
      let t = both (is_attribute c) (list_all is_attribute cs) h in
      ap₂ (λ a b. a && b) (attribute_stays c (stands j) t.0) (attributes_stay stands (suc j) cs t.1)

  object_untouched : (k : Kind) → (is_absent k || belongs sort.ObjectLit k) ≡ true → is_touched k ≡ false
  unfolding is_touched
  object_untouched kind.Absent h = refl
  object_untouched kind.ObjectLit h = refl
  object_untouched _ h = cc

  object_items : (k : Kind) → (is_absent k || belongs sort.ObjectLit k) ≡ true → (s : Shape) (n : ℕ) (cs : List Node) → HaveShapes (child_shapes k s n) cs → (stands : ℕ → Standing)
      → Stay (items_of (slice_get (all_become texts stands 0 cs) 0)) (items_of (slice_get cs 0))
  object_items kind.Absent h s n [] has stands = λ e. e
  object_items kind.Absent h s n (c ∷ cs) has stands = absurd has
  object_items kind.ObjectLit h s n cs has stands =
      items_related texts Stay (λ e. e) (λ around ds. attributes_stay around 0 ds) (child_shapes kind.ObjectLit s n) cs has 0 sort.PropOrSpread refl stands 0
  object_items _ h s n cs has stands = cc

  object_stays : (c : Node) → HasShape (maybe sort.ObjectLit) c → (stands : Standing) → holds_attributes c ≡ true → holds_attributes (become texts c stands) ≡ true
  object_stays c has stands h =
      let t = shape_parts c (maybe sort.ObjectLit) has in
      ap (λ (z : List Node). list_all is_attribute (items_of (slice_get z 0))) (children_stay texts c stands (object_untouched (kind_of c) t.0))
      ∙ object_items (kind_of c) t.0 (maybe sort.ObjectLit) (length (children_of c)) (children_of c) t.1 (standing_in stands c) h

  with_stays : (os : List Shape) (cs : List Node) → HaveShapes os cs → (i : ℕ) → slice_get os i ≡ Some (maybe sort.ObjectLit) → (stands : ℕ → Standing) (j : ℕ)
      → holds_of holds_attributes (slice_get cs i) ≡ true → holds_of holds_attributes (slice_get (all_become texts stands j cs) i) ≡ true
  with_stays os [] has i at stands j h = h
  with_stays [] (c ∷ cs) has i at stands j h = absurd has
  with_stays (o ∷ os) (c ∷ cs) has zero at stands j h = object_stays c (subst (λ z. HasShape z c) (some_same at) has.0) (stands j) h
  with_stays (o ∷ os) (c ∷ cs) has (suc i) at stands j h = with_stays os cs has.1 i at stands (suc j) h

  -- ---- all of them

  module _ (n m : Node) (s : Shape) (stands : ℕ → Standing) (is : children_of m ≡ all_become texts stands 0 (children_of n)) (there : (i : ℕ) → has_child m i ≡ has_child n i) where
    abbrev Have : Kind → Type 0
    Have k = HaveShapes (child_shapes k s (length (children_of n))) (children_of n)

    attributes : (k : Kind) → Have k → (i : ℕ) → slice_get (child_shapes k s (length (children_of n))) i ≡ Some (maybe sort.ObjectLit)
        → holds_of holds_attributes (slice_get (children_of n) i) ≡ true → holds_of holds_attributes (slice_get (children_of m) i) ≡ true
    attributes k has i at h =
        ap (λ (z : List Node). holds_of holds_attributes (slice_get z i)) is ∙ with_stays (child_shapes k s (length (children_of n))) (children_of n) has i at stands 0 h

    full_stays : (k : Kind) → Have k → is_full_by k n ≡ true → is_full_by k m ≡ true
    unfolding is_full_by
    full_stays kind.Tpl has h =
        let os = child_shapes kind.Tpl s (length (children_of n)) in
        let e = items_same texts ℕ length (λ around cs. length_same texts around 0 cs) os (children_of n) has 0 sort.Expr refl stands 0 in
        let p = items_same texts ℕ length (λ around cs. length_same texts around 0 cs) os (children_of n) has 1 sort.TplElement refl stands 0 in
        let q = items_same texts Bool ends_once (λ around cs. ends_same around 0 cs) os (children_of n) has 1 sort.TplElement refl stands 0 in
        ap (λ (z : List Node). is_whole_template (items_of (slice_get z 0)) (items_of (slice_get z 1))) is ∙ (λ i. (p i == e i + 1) && q i) ∙ h
    full_stays kind.SeqExpr has h = ap (λ (z : List Node). nat_lt 1 (length z)) is ∙ ap (nat_lt 1) (length_same texts stands 0 (children_of n)) ∙ h
    full_stays (kind.YieldExpr delegate) has h = ap (λ b. b || not delegate) (there 0) ∙ h
    full_stays kind.TryStmt has h = ap₂ (λ a b. a || b) (there 1) (there 2) ∙ h
    full_stays (kind.VarDecl k declare) has h =
        ap (λ (z : List Node). not (is_empty (items_of (slice_get z 0)))) is
        ∙ ap not (items_same texts Bool is_empty empty_same (child_shapes (kind.VarDecl k declare) s (length (children_of n))) (children_of n) has 0 sort.VarDeclarator refl stands 0) ∙ h
    full_stays (kind.ImportDecl type_only) has h =
        let t = both _ _ h in
        ap₂ (λ a b. a && b)
        (ap (λ (z : List Node). are_imports (items_of (slice_get z 0))) is
        ∙ items_same texts Bool are_imports imports_same (child_shapes (kind.ImportDecl type_only) s (length (children_of n))) (children_of n) has 0 sort.ImportSpecifier refl stands 0 ∙ t.0)
        (attributes (kind.ImportDecl type_only) has 2 refl t.1)
    full_stays (kind.NamedExport type_only) has h =
        let t = both _ _ h in
        ap₂ (λ a b. a && b)
        (ap₂ (λ a b. are_exports a b (items_of (slice_get (children_of m) 0))) (there 1) (there 2)
        ∙ ap (λ (z : List Node). are_exports (has_child n 1) (has_child n 2) (items_of (slice_get z 0))) is
        ∙ items_same texts Bool (are_exports (has_child n 1) (has_child n 2)) (exports_same (has_child n 1) (has_child n 2)) (child_shapes (kind.NamedExport type_only) s (length (children_of n))) (children_of n) has 0
        sort.ExportSpecifier refl stands 0 ∙ t.0)
        (attributes (kind.NamedExport type_only) has 2 refl t.1)
    full_stays (kind.ExportAll type_only) has h = attributes (kind.ExportAll type_only) has 1 refl h
    full_stays (kind.ArrowExpr is_async is_generator) has h = h
    full_stays _ has h = refl

short_by : Kind → Node → Bool
short_by k n = not (is_full_by k n)

short_quiet : Silent short_by
unfolding is_touched is_full_by short_by
short_quiet kind.Tpl n t = cc
short_quiet kind.SeqExpr n t = cc
short_quiet (kind.YieldExpr delegate) n t = cc
short_quiet (kind.ArrowExpr is_async is_generator) n t = cc
short_quiet kind.TryStmt n t = cc
short_quiet (kind.VarDecl k declare) n t = cc
short_quiet (kind.ImportDecl type_only) n t = cc
short_quiet (kind.NamedExport type_only) n t = cc
short_quiet (kind.ExportAll type_only) n t = cc
short_quiet _ n t = refl

never_short : (text : List ℕ) (n : Node) → (short_by (kind.IdentName text) n ≡ false) × (short_by kind.AssignPat n ≡ false)
unfolding short_by is_full_by
never_short text n = (refl, refl)

brackets_full : (n : Node) → (short_by kind.ComputedPropName n ≡ false) × (short_by proto_literal n ≡ false)
unfolding short_by is_full_by
brackets_full n = (refl, refl)

not_false : (b : Bool) → not b ≡ false → b ≡ true
not_false true h = refl
not_false false h = cc

pub counts_kept : FinalTextsKeepCounts
unfolding short_by
counts_kept texts =
    test_kept texts short_by short_quiet (λ text n. (never_short text n).0) (λ n. (never_short [] n).1) brackets_full
    (λ n s stands has u none.
    ap not (full_stays texts n (become texts n stands) s (standing_in stands n) (children_stay texts n stands u) (child_same texts is_present true present_quiet n stands u) (kind_of n) (shape_parts n s has).1
    (not_false (is_full_by (kind_of n) n) none)))
