-- The parts of `export {}`.
use Rattle.std.proofs.Common.{◌≡◌, ◌∙◌, Bool, true, false, not, List, [], ◌∷◌, ap, refl, slice_get}
use Rattle.std.specs.List.{list_all}
use Rattle.ecma_kind.specs.declared.kind.Kind.{Kind}
use Rattle.ecma_kind.specs.declared.kind.Kind.TheVariants as kind
use Rattle.ecma_kind.specs.declared.shapes.Sort.TheVariants as sort
use Rattle.ecma_tree.specs.Nodes.{absent, dummy_span, list_node}
use Rattle.ecma_tree.specs.Sorted.{is_absent, many, maybe}
use Rattle.ecma_tree.specs.declared.node.Node.{Node, out-Node}
use Rattle.ecma_tree.proofs.ShapeLaws.{node_has_shape, node_has_sort}
use Rattle.ecma_rules.specs.Children.{children_of, has_child, holds_of, is_present, items_at, kind_of, of_kind}
use Rattle.ecma_fits.specs.Counts.{has_attributes_at, holds_attributes, is_attribute}
use Rattle.ecma_lower.specs.Marking.{empty_export}
use Rattle.ecma_marks.proofs.Modules.{IsItem, children-of, kind-of, no}

-- a module, a list, what is missing, and an export of names
abbrev pub is_still : Kind → Bool
is_still (kind.Module shebang) = true
is_still kind.List = true
is_still kind.Absent = true
is_still (kind.NamedExport type_only) = true
is_still _ = false

-- a list, and what is missing
abbrev pub is_quiet : Kind → Bool
is_quiet kind.List = true
is_quiet kind.Absent = true
is_quiet _ = false

pub quiet-still : (k : Kind) → is_quiet k ≡ true → is_still k ≡ true
quiet-still kind.List h = refl
quiet-still kind.Absent h = refl
quiet-still _ h = no h

abbrev pub parts : List Node
parts = list_node [] ∷ absent ∷ absent ∷ []

pub export-kind : kind_of empty_export ≡ kind.NamedExport false
export-kind = kind-of dummy_span (kind.NamedExport false) parts

pub export-children : (out-Node empty_export).children ≡ parts
export-children = children-of dummy_span (kind.NamedExport false) parts

pub none-kind : kind_of (list_node []) ≡ kind.List
none-kind = kind-of dummy_span kind.List []

pub none-children : (out-Node (list_node [])).children ≡ []
none-children = children-of dummy_span kind.List []

pub absent-kind : kind_of absent ≡ kind.Absent
absent-kind = kind-of dummy_span kind.Absent []

pub absent-children : (out-Node absent).children ≡ []
absent-children = children-of dummy_span kind.Absent []

-- no specifiers, no source and no attributes
pub no_specifiers : items_at empty_export 0 ≡ []
no_specifiers = ap (λ (z : List Node). children_of (slice_get z 0)) export-children ∙ none-children

pub no_source : has_child empty_export 1 ≡ false
no_source = ap (λ (z : List Node). of_kind is_present (slice_get z 1)) export-children ∙ ap (λ k. not (is_absent k)) absent-kind

pub no_attributes : has_child empty_export 2 ≡ false
no_attributes = ap (λ (z : List Node). of_kind is_present (slice_get z 2)) export-children ∙ ap (λ k. not (is_absent k)) absent-kind

pub attributes_held : has_attributes_at 2 empty_export ≡ true
attributes_held =
    ap (λ (z : List Node). holds_of holds_attributes (slice_get z 2)) export-children
    ∙ ap (λ (z : List Node). list_all is_attribute (children_of (slice_get z 0))) absent-children

-- an item by its sort
pub export-item : IsItem empty_export
export-item =
    node_has_sort dummy_span (kind.NamedExport false) parts sort.ModuleItem refl (
      (node_has_shape dummy_span kind.List [] (many sort.ExportSpecifier)).1 (refl, tt),
      ((node_has_shape dummy_span kind.Absent [] (maybe sort.Str)).1 (refl, tt), ((node_has_shape dummy_span kind.Absent [] (maybe sort.ObjectLit)).1 (refl, tt), tt)),
    )
