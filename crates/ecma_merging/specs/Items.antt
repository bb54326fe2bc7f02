-- What the items of a list declare that may merge with others of its name (TypeScript handbook, "Declaration Merging").
use Rattle.std.specs.Prelude.{ℕ, Bool, true, false, not, cond, List, [], ◌∷◌, Option, Some, None, slice_get}
use Rattle.std.specs.List.{flat_map}
use Rattle.std.specs.Option.{option_and_then, option_map_or}
use Rattle.ecma_kind.specs.declared.ident.Ident.{Ident}
use Rattle.ecma_kind.specs.declared.kind.Kind.{Kind}
use Rattle.ecma_kind.specs.declared.kind.Kind.TheVariants as kind
use Rattle.ecma_tree.specs.Idents.{ident_of}
use Rattle.ecma_tree.specs.Values.{is_value_where}
use Rattle.ecma_tree.specs.declared.node.Node.{Node, out-Node}
use Rattle.ecma_merging.specs.declared.items.Declared.{Declared}

-- whether `export` stands before an item, with `default` behind it too
unfoldable pub is_export : Kind → Bool
is_export kind.ExportDecl = true
is_export kind.ExportDefaultDecl = true
is_export _ = false

-- the declaration that an item is, or that stands behind its `export`
abbrev pub declaration_of : Node → Option Node
declaration_of item = cond (is_export (out-Node item).kind) (slice_get (out-Node item).children 0) (Some item)

-- whether a declaration adds to those of its name before it, as an enum and a namespace do; or none add to it, and it to none; functions and classes as
-- expressions stand for declarations behind `export default`
unfoldable pub adds : Kind → Option Bool
adds (kind.FnDecl declare) = Some false
adds kind.FnExpr = Some false
adds (kind.ClassDecl declare) = Some false
adds kind.ClassExpr = Some false
adds (kind.TsEnumDecl declare is_const) = Some true
adds (kind.TsModuleDecl declare false) = Some true
adds _ = None

-- the name of a declaration
abbrev pub name_in : Node → Option Ident
name_in node = option_and_then ident_of (slice_get (out-Node node).children 0)

abbrev pub declared_if : Bool → Option Bool → Option Ident → List Declared
declared_if exported (Some merges) (Some name) = record { name = name.sym; at = name.span.lo; adds = merges; is_exported = exported } ∷ []
declared_if exported _ _ = []

-- in a list whose items are ambient or are not
abbrev pub declared_by : Bool → Bool → Node → List Declared
declared_by ambient exported node = cond (is_value_where (not ambient) node) (declared_if exported (adds (out-Node node).kind) (name_in node)) []

abbrev pub declared_at : Bool → Node → List Declared
declared_at ambient item = option_map_or (declared_by ambient (is_export (out-Node item).kind)) (declaration_of item) []

-- the value declarations of a list that may merge, ambient ones too
--   class A { } export namespace A { let a; } interface A { } let b;   // A, and A behind `export`
abbrev pub declared_in : Bool → List Node → List Declared
declared_in ambient = flat_map (declared_at ambient)
