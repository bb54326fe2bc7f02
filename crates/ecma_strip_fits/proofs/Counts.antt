-- Nodes have what their productions ask for without types.
use Rattle.std.proofs.Common.{◌≡◌, ◌∙◌, ◌⊎◌, inl, inr, Bool, true, false, not, ◌&&◌, ◌||◌, cond, List, [], ◌∷◌, map, filter, length, replicate, Some, refl, ap, ap₂}
use Rattle.ecma_kind.specs.declared.kind.Kind.{Kind}
use Rattle.ecma_kind.specs.declared.kind.Kind.TheVariants as kind
use Rattle.ecma_kind.specs.declared.shapes.Sort.{Sort}
use Rattle.ecma_kind.specs.declared.shapes.Sort.TheVariants as sort
use Rattle.ecma_tree.specs.declared.node.Node.{Node}
use Rattle.ecma_tree.specs.Laws.{HaveShapes}
use Rattle.ecma_tree.specs.Sorted.{HasShape, one}
use Rattle.ecma_rules.specs.Children.{kind_of}
use Rattle.ecma_strip.specs.Staying.{stays}
use Rattle.ecma_strip.specs.Stripping.{plain_kind, stripped}
use Rattle.ecma_fits.specs.Counts.{are, are_exports, are_imports, are_stars_or_names, ends_once, ends_template, is_default_import, is_empty, is_named_export, is_named_import, is_star_export, is_star_import, is_star_of}
use Rattle.ecma_strip_fits.proofs.ChildrenKept.{AsUsual, Plain, one_usual}
use Rattle.ecma_strip_fits.proofs.StaysAll.{all_left}
use Rattle.ecma_strip_fits.proofs.Walk.{shape_parts, usual_kind}

some_same : {X : Type 0} {x y : X} → Some x ≡ Some y → x ≡ y
some_same e = cc

both : (a b : Bool) → (a && b) ≡ true → (a ≡ true) × (b ≡ true)
both true b h = (refl, h)
both false b h = cc

or_true : (a b : Bool) → b ≡ true → (a || b) ≡ true
or_true true b h = refl
or_true false b h = h

-- ---- lists

-- a test of kinds, of an item that has a sort
item_kind : (σ : Sort) → AsUsual (one σ) → (A : Type 0) (f : Kind → A) → Plain A f → (c : Node) → HasShape (one σ) c → f (kind_of (stripped c)) ≡ f (kind_of c)
item_kind σ usual A f plain c has = ap f (usual_kind c (usual (kind_of c) (shape_parts c (one σ) has).0)) ∙ plain (kind_of c)

ends_plain : Plain Bool ends_template
unfolding plain_kind
ends_plain kind.Absent = refl
ends_plain _ = refl

pub ends_kept : (cs : List Node) → HaveShapes (replicate (length cs) (one sort.TplElement)) cs → ends_once (map stripped cs) ≡ ends_once cs
ends_kept [] h = refl
ends_kept (c ∷ []) h = item_kind sort.TplElement (one_usual sort.TplElement refl) Bool ends_template ends_plain c h.0
ends_kept (c ∷ d ∷ cs) h = ap₂ (λ a b. not a && b) (item_kind sort.TplElement (one_usual sort.TplElement refl) Bool ends_template ends_plain c h.0) (ends_kept (d ∷ cs) h.1)

pub empty_map : (cs : List Node) → is_empty (map stripped cs) ≡ is_empty cs
empty_map [] = refl
empty_map (c ∷ cs) = refl

-- ---- imports and exports

named_plain : Plain Bool is_named_import
unfolding plain_kind
named_plain kind.Absent = refl
named_plain _ = refl

star_plain : Plain Bool is_star_import
unfolding plain_kind
star_plain kind.Absent = refl
star_plain _ = refl

default_plain : Plain Bool is_default_import
unfolding plain_kind
default_plain kind.Absent = refl
default_plain _ = refl

exported_plain : Plain Bool is_named_export
unfolding plain_kind
exported_plain kind.Absent = refl
exported_plain _ = refl

all_exported_plain : Plain Bool is_star_export
unfolding plain_kind
all_exported_plain kind.Absent = refl
all_exported_plain _ = refl

imported : (f : Kind → Bool) → Plain Bool f → (c : Node) → HasShape (one sort.ImportSpecifier) c → f (kind_of (stripped c)) ≡ f (kind_of c)
imported = item_kind sort.ImportSpecifier (one_usual sort.ImportSpecifier refl) Bool

exported : (f : Kind → Bool) → Plain Bool f → (c : Node) → HasShape (one sort.ExportSpecifier) c → f (kind_of (stripped c)) ≡ f (kind_of c)
exported = item_kind sort.ExportSpecifier (one_usual sort.ExportSpecifier refl) Bool

abbrev ImportsHave : List Node → Type 0
ImportsHave cs = HaveShapes (replicate (length cs) (one sort.ImportSpecifier)) cs

names_alone : (cs : List Node) → are is_named_import cs ≡ true → are_stars_or_names cs ≡ true
names_alone [] h = refl
names_alone (c ∷ []) h = let t = both (is_named_import (kind_of c)) true h in ap (λ b. is_star_import (kind_of c) || b) t.0 ∙ or_true (is_star_import (kind_of c)) true refl
names_alone (c ∷ d ∷ cs) h = h

names_left : (cs : List Node) → ImportsHave cs → are is_named_import cs ≡ true → are is_named_import (map stripped (filter stays cs)) ≡ true
names_left = all_left sort.ImportSpecifier (λ n. is_named_import (kind_of n)) (λ c has h. imported is_named_import named_plain c has ∙ h)

stars_left : (cs : List Node) → ImportsHave cs → are_stars_or_names cs ≡ true → are_stars_or_names (map stripped (filter stays cs)) ≡ true
stars_left [] has h = refl
stars_left (c ∷ []) has h = by (stays c)
  where
    by : (b : Bool) → are_stars_or_names (map stripped (cond b (c ∷ []) [])) ≡ true
    by true = ap₂ (λ x y. x || y) (imported is_star_import star_plain c has.0) (imported is_named_import named_plain c has.0) ∙ h
    by false = refl
stars_left (c ∷ d ∷ cs) has h = names_alone (map stripped (filter stays (c ∷ d ∷ cs))) (names_left (c ∷ d ∷ cs) has h)

stars_are_imports : (cs : List Node) → are_stars_or_names cs ≡ true → are_imports cs ≡ true
stars_are_imports [] h = refl
stars_are_imports (c ∷ cs) h = ap (λ b. b || (is_default_import (kind_of c) && are_stars_or_names cs)) h

either : (a b : Bool) → (a || b) ≡ true → (a ≡ true) ⊎ (b ≡ true)
either true b h = inl refl
either false b h = inr h

pub imports_left : (cs : List Node) → ImportsHave cs → are_imports cs ≡ true → are_imports (map stripped (filter stays cs)) ≡ true
imports_left [] has h = refl
imports_left (c ∷ cs) has h = by (either (are_stars_or_names (c ∷ cs)) (is_default_import (kind_of c) && are_stars_or_names cs) h)
  where
    default_left : (b : Bool) → is_default_import (kind_of c) ≡ true → are_stars_or_names (map stripped (filter stays cs)) ≡ true → are_imports (map stripped (cond b (c ∷ filter stays cs) (filter stays cs))) ≡ true
    default_left true d s =
        or_true (are_stars_or_names (stripped c ∷ map stripped (filter stays cs))) _ (ap₂ (λ x y. x && y) (imported is_default_import default_plain c has.0 ∙ d) s)
    default_left false d s = stars_are_imports (map stripped (filter stays cs)) s

    by : (are_stars_or_names (c ∷ cs) ≡ true) ⊎ ((is_default_import (kind_of c) && are_stars_or_names cs) ≡ true) → are_imports (map stripped (filter stays (c ∷ cs))) ≡ true
    by (inl s) = stars_are_imports (map stripped (filter stays (c ∷ cs))) (stars_left (c ∷ cs) has s)
    by (inr d) = let t = both (is_default_import (kind_of c)) (are_stars_or_names cs) d in default_left (stays c) t.0 (stars_left cs has.1 t.1)

abbrev ExportsHave : List Node → Type 0
ExportsHave cs = HaveShapes (replicate (length cs) (one sort.ExportSpecifier)) cs

exports_named : (cs : List Node) → ExportsHave cs → are is_named_export cs ≡ true → are is_named_export (map stripped (filter stays cs)) ≡ true
exports_named = all_left sort.ExportSpecifier (λ n. is_named_export (kind_of n)) (λ c has h. exported is_named_export exported_plain c has ∙ h)

star_left : (has_source : Bool) (cs : List Node) → ExportsHave cs → is_star_of has_source cs ≡ true → (are is_named_export (map stripped (filter stays cs)) || is_star_of has_source (map stripped (filter stays cs))) ≡ true
star_left has_source [] has h = cc
star_left has_source (c ∷ []) has h = by (stays c)
  where
    by : (b : Bool) → (are is_named_export (map stripped (cond b (c ∷ []) [])) || is_star_of has_source (map stripped (cond b (c ∷ []) []))) ≡ true
    by true = or_true (are is_named_export (stripped c ∷ [])) _ (ap (λ x. has_source && x) (exported is_star_export all_exported_plain c has.0) ∙ h)
    by false = refl
star_left has_source (c ∷ d ∷ cs) has h = cc

pub exports_left : (has_source has_attributes : Bool) (cs : List Node) → ExportsHave cs → are_exports has_source has_attributes cs ≡ true → are_exports has_source has_attributes (map stripped (filter stays cs)) ≡ true
exports_left has_source has_attributes cs has h =
    let t = both (are is_named_export cs || is_star_of has_source cs) (has_source || not has_attributes) h in
    ap₂ (λ x y. x && y) (by (either (are is_named_export cs) (is_star_of has_source cs) t.0)) t.1
  where
    by : (are is_named_export cs ≡ true) ⊎ (is_star_of has_source cs ≡ true) → (are is_named_export (map stripped (filter stays cs)) || is_star_of has_source (map stripped (filter stays cs))) ≡ true
    by (inl n) = ap (λ x. x || is_star_of has_source (map stripped (filter stays cs))) (exports_named cs has n)
    by (inr s) = star_left has_source cs has s
