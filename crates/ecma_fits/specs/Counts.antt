-- What the grammar asks of a node and of what stands directly in it, beyond the sorts of its children (docs/GRAMMAR.md).
use Rattle.std.specs.Prelude.{ℕ, Bool, true, false, not, ◌&&◌, ◌||◌, ◌==◌, ◌+◌, nat_lt, List, [], ◌∷◌, length}
use Rattle.std.specs.List.{list_all}
use Rattle.ecma_kind.specs.declared.kind.Kind.{Kind}
use Rattle.ecma_kind.specs.declared.kind.Kind.TheVariants as kind
use Rattle.ecma_tree.specs.declared.node.Node.{Node, out-Node}
use Rattle.ecma_rules.specs.Children.{kind_of, child_holds, child_is, has_child, items_at}
use Rattle.ecma_rules.specs.Targets.{is_key_value}

abbrev pub ends_template : Kind → Bool
ends_template (kind.TplElement raw cooked tail) = tail
ends_template _ = false

-- the last text part ends the template, and no other
abbrev pub ends_once : List Node → Bool
ends_once [] = false
ends_once (part ∷ []) = ends_template (kind_of part)
ends_once (part ∷ parts) = not (ends_template (kind_of part)) && ends_once parts

-- a text part before each expression of a template, and one after the last
abbrev pub is_whole_template : List Node → List Node → Bool
is_whole_template expressions parts = length parts == length expressions + 1 && ends_once parts

abbrev pub is_empty : List Node → Bool
is_empty [] = true
is_empty _ = false

-- names in braces, or all names as one
abbrev pub is_named_import : Kind → Bool
is_named_import (kind.ImportNamedSpecifier is_type_only) = true
is_named_import _ = false

abbrev pub is_star_import : Kind → Bool
is_star_import kind.ImportStarAsSpecifier = true
is_star_import _ = false

abbrev pub is_default_import : Kind → Bool
is_default_import kind.ImportDefaultSpecifier = true
is_default_import _ = false

abbrev pub is_named_export : Kind → Bool
is_named_export (kind.ExportNamedSpecifier is_type_only) = true
is_named_export _ = false

abbrev pub is_star_export : Kind → Bool
is_star_export kind.ExportNamespaceSpecifier = true
is_star_export _ = false

abbrev pub are : (Kind → Bool) → List Node → Bool
are is nodes = list_all (λ node. is (kind_of node)) nodes

-- `* as a` alone, or names
abbrev pub are_stars_or_names : List Node → Bool
are_stars_or_names (one ∷ []) = is_star_import (kind_of one) || is_named_import (kind_of one)
are_stars_or_names specifiers = are is_named_import specifiers

-- the default import stands before the others
abbrev pub are_imports : List Node → Bool
are_imports [] = true
are_imports (first ∷ others) = are_stars_or_names (first ∷ others) || (is_default_import (kind_of first) && are_stars_or_names others)

-- `* as a` stands alone, before a source; attributes stand after a source
abbrev pub is_star_of : Bool → List Node → Bool
is_star_of has_source (one ∷ []) = has_source && is_star_export (kind_of one)
is_star_of has_source _ = false

abbrev pub are_exports : Bool → Bool → List Node → Bool
are_exports has_source has_attributes specifiers =
    (are is_named_export specifiers || is_star_of has_source specifiers) && (has_source || not has_attributes)

-- `with { .. }` holds keys and texts alone
abbrev pub is_attribute_key : Kind → Bool
is_attribute_key (kind.IdentName sym) = true
is_attribute_key (kind.Str value raw) = true
is_attribute_key _ = false

abbrev pub is_text : Kind → Bool
is_text (kind.Str value raw) = true
is_text _ = false

abbrev pub is_attribute : Node → Bool
is_attribute node = is_key_value (kind_of node) && (child_is is_attribute_key node 0 && child_is is_text node 1)

abbrev pub holds_attributes : Node → Bool
holds_attributes object = list_all is_attribute (items_at object 0)

abbrev pub has_attributes_at : ℕ → Node → Bool
has_attributes_at i node = child_holds holds_attributes node i

-- whether a node has what its production asks for
unfoldable pub is_full_by : Kind → Node → Bool
is_full_by kind.Tpl node = is_whole_template (items_at node 0) (items_at node 1)
is_full_by kind.SeqExpr node = nat_lt 1 (length (out-Node node).children)
is_full_by (kind.YieldExpr delegate) node = has_child node 0 || not delegate
is_full_by (kind.ArrowExpr is_async is_generator) node = not is_generator
is_full_by kind.TryStmt node = has_child node 1 || has_child node 2
is_full_by (kind.VarDecl k declare) node = not (is_empty (items_at node 0))
is_full_by (kind.ImportDecl type_only) node = are_imports (items_at node 0) && has_attributes_at 2 node
is_full_by (kind.NamedExport type_only) node = are_exports (has_child node 1) (has_child node 2) (items_at node 0) && has_attributes_at 2 node
is_full_by (kind.ExportAll type_only) node = has_attributes_at 1 node
is_full_by _ node = true

-- one that has not
abbrev pub is_short : Node → Bool
is_short node = not (is_full_by (kind_of node) node)
