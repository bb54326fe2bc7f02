-- Which items of a module, a block or a namespace are values: all but those that are types, that overload or that are written `type`. Ambient ones are,
-- a function without a body too (docs/SCOPES.md has what TypeScript says of each kind).
use Rattle.std.specs.Prelude.{ℕ, Bool, true, false, ◌&&◌, ◌||◌, not, List, get_or, map}
use Rattle.std.specs.List.{list_any}
use Rattle.ecma_kind.specs.declared.kind.Kind.{Kind}
use Rattle.ecma_kind.specs.declared.kind.Kind.TheVariants as kind
use Rattle.ecma_tree.specs.declared.node.Node.{Node, Node-F, fold-Node, out-Node}

-- whether a node of this kind is a value, where its children are or not
--   namespace N { let a; }   // a value
--   namespace N { type T = U; interface A { } }   // none
unfoldable pub value_by : Kind → List Bool → Bool
value_by kind.Absent children = false
value_by kind.EmptyStmt children = false
value_by (kind.TsInterfaceDecl declare) children = false
value_by (kind.TsTypeAliasDecl declare) children = false
value_by kind.TsNamespaceExportDecl children = false
value_by (kind.ImportDecl type_only) children = not type_only
value_by (kind.NamedExport type_only) children = not type_only
value_by (kind.ExportAll type_only) children = not type_only
value_by (kind.TsImportEqualsDecl is_export is_type_only) children = not is_type_only
value_by kind.ExportDecl children = get_or children 0 false
value_by kind.ExportDefaultDecl children = get_or children 0 false
value_by (kind.FnDecl declare) children = get_or children 1 false
value_by kind.FnExpr children = get_or children 1 false
value_by (kind.Function is_generator is_async) children = get_or children 1 false
value_by (kind.TsModuleDecl declare global) children = get_or children 1 false
value_by (kind.TsNamespaceDecl declare global) children = get_or children 1 false
value_by kind.TsModuleBlock children = get_or children 0 false
value_by kind.List children = list_any (λ b. b) children
value_by _ children = true

-- whether all that stands in a node is ambient, where the node itself is not
--   declare namespace N { function f(): void; }   // f is ambient
abbrev pub holds_ambient : Kind → Bool
holds_ambient (kind.FnDecl declare) = declare
holds_ambient (kind.TsModuleDecl declare global) = declare
holds_ambient (kind.TsNamespaceDecl declare global) = declare
holds_ambient _ = false

abbrev pub is_function : Kind → Bool
is_function (kind.Function is_generator is_async) = true
is_function _ = false

-- where declarations stay, and where all is ambient: there a function is a value without its body too
abbrev pub value_step : Node-F (Bool → Bool) → Bool → Bool
value_step parts stays =
    (is_function parts.kind && not stays) || value_by parts.kind (map (λ child. child (not (holds_ambient parts.kind) && stays)) parts.children)

-- whether a node is a value, in a scope whose declarations stay or in an ambient one
--   declare namespace N { function f(): void; }   // a value, and so is f
--   namespace N { function f(): void; }   // none, and nor is f
abbrev pub is_value_where : Bool → Node → Bool
is_value_where stays n = fold-Node (Bool → Bool) value_step n stays

abbrev pub is_value : Node → Bool
is_value = is_value_where true

-- which of the children of a node of this kind are values
abbrev pub values_in : Bool → Kind → List Node → List Bool
values_in stays k children = map (is_value_where (not (holds_ambient k) && stays)) children

-- whether the child at an index is there and a value
abbrev pub value_at_where : Bool → ℕ → Node → Bool
value_at_where stays i n = get_or (map (is_value_where stays) (out-Node n).children) i false

abbrev pub value_at : ℕ → Node → Bool
value_at = value_at_where true
