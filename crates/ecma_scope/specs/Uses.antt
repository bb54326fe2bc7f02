-- Which identifiers are used.
use Rattle.std.specs.Prelude.{ℕ, Bool, ◌||◌, ◌==◌, not, List, [], ◌∷◌, Option, Some, cond}
use Rattle.ecma_kind.specs.declared.kind.Kind.{Kind}
use Rattle.ecma_kind.specs.declared.kind.Kind.TheVariants as kind
use Rattle.ecma_tree.specs.declared.node.Node.{Node, out-Node}
use Rattle.ecma_scope.specs.declared.uses.Use.{Use}
use Rattle.ecma_scope.specs.declared.uses.Use.TheVariants as stands
use Rattle.ecma_scope.specs.Scopes.{is_there}
use Rattle.ecma_walks.specs.Listing.{listed}

-- the child that is meant stands so, and the others otherwise
abbrev pub use_at : ℕ → ℕ → Use → Use → Use
use_at wanted i this others = cond (i == wanted) this others

abbrev pub used_if : Bool → Use
used_if b = cond b stands.Used stands.Out

-- how the child at an index stands, in a node where identifiers are used; an export may have a source
--   let a = b; c.d(e);   // uses b, c and e
--   import f from "m"; let g; export { g };   // uses g
unfoldable pub in_used : Kind → Bool → ℕ → Use
in_used (kind.VarDeclarator definite) sourced i = use_at 0 i stands.Declared stands.Used
in_used (kind.Function is_generator is_async) sourced i = use_at 0 i stands.Declared stands.Used
in_used (kind.ArrowExpr is_async is_generator) sourced i = use_at 0 i stands.Declared stands.Used
in_used (kind.Constructor accessibility is_optional) sourced i = use_at 1 i stands.Declared stands.Used
in_used kind.SetterProp sourced i = use_at 2 i stands.Declared stands.Used
in_used kind.CatchClause sourced i = use_at 0 i stands.Declared stands.Used
in_used (kind.FnDecl declare) sourced i = use_at 0 i stands.Out stands.Used
in_used kind.FnExpr sourced i = use_at 0 i stands.Out stands.Used
in_used (kind.ClassDecl declare) sourced i = use_at 0 i stands.Out stands.Used
in_used kind.ClassExpr sourced i = use_at 0 i stands.Out stands.Used
in_used (kind.Class is_abstract) sourced i = use_at 4 i stands.Out stands.Used
in_used (kind.TsEnumDecl declare is_const) sourced i = use_at 0 i stands.Out stands.Used
in_used kind.TsEnumMember sourced i = use_at 0 i stands.Out stands.Used
in_used (kind.TsModuleDecl declare global) sourced i = use_at 0 i stands.Out stands.Used
in_used (kind.TsNamespaceDecl declare global) sourced i = use_at 0 i stands.Out stands.Used
in_used (kind.TsInterfaceDecl declare) sourced i = stands.Out
in_used (kind.TsTypeAliasDecl declare) sourced i = stands.Out
in_used kind.TsNamespaceExportDecl sourced i = stands.Out
in_used (kind.TsImportEqualsDecl is_export is_type_only) sourced i = use_at 0 i stands.Out (used_if (not is_type_only))
in_used (kind.ImportDecl type_only) sourced i = stands.Out
in_used (kind.NamedExport type_only) sourced i = used_if (not (type_only || sourced))
in_used (kind.ExportNamedSpecifier is_type_only) sourced i = use_at 0 i (used_if (not is_type_only)) stands.Out
in_used kind.ExportNamespaceSpecifier sourced i = stands.Out
in_used kind.ExportDefaultSpecifier sourced i = stands.Out
in_used kind.LabeledStmt sourced i = use_at 0 i stands.Out stands.Used
in_used kind.BreakStmt sourced i = stands.Out
in_used kind.ContinueStmt sourced i = stands.Out
in_used _ sourced i = stands.Used

-- and in a pattern that declares its names: they are no uses, but defaults and keys in brackets may be
--   let { [a]: b = c } = d;   // uses a, c and d
unfoldable pub in_declared : Kind → ℕ → Use
in_declared kind.List i = stands.Declared
in_declared kind.BindingIdent i = use_at 0 i stands.Declared stands.Used
in_declared kind.Param i = stands.Declared
in_declared (kind.TsParamProp accessibility is_override readonly) i = stands.Declared
in_declared (kind.ArrayPat optional) i = use_at 0 i stands.Declared stands.Used
in_declared (kind.ObjectPat optional) i = use_at 0 i stands.Declared stands.Used
in_declared kind.RestPat i = use_at 0 i stands.Declared stands.Used
in_declared kind.AssignPat i = use_at 0 i stands.Declared stands.Used
in_declared kind.AssignPatProp i = use_at 0 i stands.Declared stands.Used
in_declared kind.KeyValuePatProp i = use_at 1 i stands.Declared stands.Used
in_declared _ i = stands.Used

abbrev pub use_by : Use → Kind → Bool → ℕ → Use
use_by stands.Used k sourced i = in_used k sourced i
use_by stands.Declared k sourced i = in_declared k i
use_by stands.Out k sourced i = stands.Out

unfoldable pub use_in : Use → Node → ℕ → Use
use_in use_ node i = use_by use_ (out-Node node).kind (is_there (out-Node node).children 1) i

-- an id: a text and a context
abbrev pub UsedId : Type 0
UsedId = List ℕ × ℕ

unfoldable pub used_here : Use → Kind → List UsedId
used_here stands.Used (kind.Ident sym ctxt optional) = (sym, ctxt) ∷ []
used_here _ _ = []

abbrev pub used_in_node : Use → Node → List UsedId
used_in_node use_ node = used_here use_ (out-Node node).kind

abbrev pub used_in_child : Use → Node → ℕ → Option Use
used_in_child use_ node i = Some (use_in use_ node i)

abbrev pub used_at : Node → Use → List UsedId
used_at = listed Use UsedId used_in_child used_in_node

-- the ids of the identifiers that are used in a tree, in the order of the text: those that stand outside types, imports, type-only exports and
-- exports with a source, and are no declared names; the first name of `import a = b.c` is used unless it is written `type`
abbrev pub used_ids : Node → List UsedId
used_ids tree = used_at tree stands.Used
