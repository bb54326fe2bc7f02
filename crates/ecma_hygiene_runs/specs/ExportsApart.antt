-- Trees in which a list of exports without a source has its variables apart: `export { a as b }` as if it were `export { ...a as b }`.
-- What is exported is the variable, under the other name, so its own text is no key there; with a source it is: `export { a as b } from "m"`.
use Rattle.std.specs.Prelude.{List, [], ◌∷◌, map, cond}
use Rattle.ecma_kind.specs.declared.kind.Kind.{Kind}
use Rattle.ecma_kind.specs.declared.kind.Kind.TheVariants as kind
use Rattle.ecma_kind.specs.declared.span.Span.{Span}
use Rattle.ecma_tree.specs.declared.node.Node.{Node, Node-F, out-Node, roll-Node}
use Rattle.ecma_tree.specs.Nodes.{absent, node_of}
use Rattle.ecma_tree.specs.Rewritten.{rewritten}
use Rattle.ecma_hygiene.specs.Renamed.{kind_is_absent}
use Rattle.ecma_hygiene_runs.specs.KeyNames.{is_name_by}

-- a name that is no text
abbrev pub apart : Span → Node → Node
apart span name = node_of span kind.RestPat (name ∷ absent ∷ [])

-- a specifier with both names
abbrev pub specifier_by : Kind → List Node → Span → Node → Node
specifier_by (kind.ExportNamedSpecifier is_type_only) (name ∷ other ∷ []) span n =
    cond (is_name_by (out-Node other).kind) (node_of span (kind.ExportNamedSpecifier is_type_only) (apart span name ∷ other ∷ [])) n
specifier_by k children span n = n

abbrev pub specifier_apart : Node → Node
specifier_apart n = specifier_by (out-Node n).kind (out-Node n).children (out-Node n).span n

abbrev pub specifiers_by : Node-F Node → Kind → Node → Node
specifiers_by parts kind.List n = node_of parts.span kind.List (map specifier_apart parts.children)
specifiers_by parts _ n = n

abbrev pub specifiers_apart : Node → Node
specifiers_apart n = specifiers_by (out-Node n) (out-Node n).kind n

-- a node whose children have theirs apart
abbrev pub exports_by : Kind → List Node → Node-F Node → Node
exports_by (kind.NamedExport type_only) (specifiers ∷ source ∷ attributes ∷ []) parts =
    node_of parts.span (kind.NamedExport type_only) (cond (kind_is_absent source) (specifiers_apart specifiers) specifiers ∷ source ∷ attributes ∷ [])
exports_by k children parts = roll-Node parts

abbrev pub exports_here : Node-F Node → Node
exports_here parts = exports_by parts.kind parts.children parts

abbrev pub exports_apart : Node → Node
exports_apart = rewritten exports_here
