-- The forms that a pass has to lower, and those of them that the program does not take yet, node by node; and the least place at which a node of one begins.
use Rattle.std.specs.Prelude.{ℕ, Bool, true, false, not, ◌&&◌, ◌||◌, Option}
use Rattle.ecma_config.specs.declared.config.TsImportExportAssignConfig.{TsImportExportAssignConfig}
use Rattle.ecma_config.specs.declared.config.TsImportExportAssignConfig.TheVariants as way
use Rattle.ecma_kind.specs.declared.kind.Kind.{Kind}
use Rattle.ecma_kind.specs.declared.kind.Kind.TheVariants as kind
use Rattle.ecma_tree.specs.Sorted.{is_list}
use Rattle.ecma_tree.specs.declared.node.Node.{Node}
use Rattle.ecma_strip.specs.Staying.{is_this_ident, stays}
use Rattle.ecma_rules.specs.Children.{child_holds, child_is, kind_of}
use Rattle.ecma_rules.specs.Failing.{first_failing, failing_here}
use Rattle.ecma_rules.specs.Members.{has_body}

abbrev pub is_ambient_variable : Kind → Bool
is_ambient_variable (kind.VarDecl k declare) = declare
is_ambient_variable _ = false

-- a specifier with a name `this`, which is for the laws of types the name of a parameter alone
--   import { this as a } from "m"; export { b as this };   // each of them
abbrev pub names_this : Node → Bool
names_this node = child_is is_this_ident node 0 || child_is is_this_ident node 1

-- such a specifier; and what no text has, though no law says so: a function expression without a body, and a variable in the head of a loop after `declare`
abbrev pub is_odd_by : Kind → Node → Bool
is_odd_by kind.FnExpr node = not (child_holds has_body node 1)
is_odd_by kind.ForStmt node = child_is is_ambient_variable node 0
is_odd_by kind.ForInStmt node = child_is is_ambient_variable node 0
is_odd_by (kind.ForOfStmt is_await) node = child_is is_ambient_variable node 0
is_odd_by (kind.ImportNamedSpecifier is_type_only) node = names_this node
is_odd_by (kind.ExportNamedSpecifier is_type_only) node = names_this node
is_odd_by kind.ExportNamespaceSpecifier node = names_this node
is_odd_by _ node = false

-- what goes, with all that it holds, is not asked, whatever is asked of the others, and whatever goes
abbrev pub asked_here : (Node → Bool) → Bool → Node → Option ℕ
asked_here test gone node = failing_here (not gone && test node) node

abbrev pub gone_at : (Node → Bool) → Node → ℕ → Bool
gone_at going node i = is_list (kind_of node) && child_holds going node i

abbrev pub gone_below : (Node → Bool) → Bool → Node → ℕ → Bool
gone_below going gone node i = gone || gone_at going node i

-- ---- forms that another pass has to lower

-- enums, namespaces, `import a =`, `export =` and parameter properties; and `export a from "m"`, which is no ECMAScript
--   import a from "m"; export { a };   // none
--   import a = b.c; enum D { } class E { constructor(private f) { } }   // each of them
abbrev pub is_unlowered_kind : Kind → Bool
is_unlowered_kind kind.ExportDefaultSpecifier = true
is_unlowered_kind (kind.TsImportEqualsDecl is_export is_type_only) = true
is_unlowered_kind kind.TsExternalModuleRef = true
is_unlowered_kind kind.TsQualifiedName = true
is_unlowered_kind kind.TsExportAssignment = true
is_unlowered_kind (kind.TsEnumDecl declare is_const) = true
is_unlowered_kind kind.TsEnumMember = true
is_unlowered_kind (kind.TsModuleDecl declare global) = true
is_unlowered_kind kind.TsModuleBlock = true
is_unlowered_kind (kind.TsNamespaceDecl declare global) = true
is_unlowered_kind (kind.TsParamProp accessibility is_override readonly) = true
is_unlowered_kind _ = false

abbrev pub is_unlowered : Node → Bool
is_unlowered node = is_unlowered_kind (kind_of node) || is_odd_by (kind_of node) node

-- an item that goes from a list when the types go, an import or an export too
--   import type { A } from "m"; import { type B } from "m";   // the first, and the specifier of the second
abbrev pub leaves : Node → Bool
leaves item = not (stays item)

abbrev pub goes_from_list : Node → ℕ → Bool
goes_from_list = gone_at leaves

abbrev pub unlowered_here : Bool → Node → Option ℕ
unlowered_here = asked_here is_unlowered

abbrev pub gone_inside : Bool → Node → ℕ → Bool
gone_inside = gone_below leaves

-- the least place at which a node begins that is of such a form, and does not go with the types
abbrev pub first_unlowered : Node → Option ℕ
first_unlowered node = first_failing Bool unlowered_here gone_inside node false

-- ---- forms that the program does not take

-- how an option keeps `import a = require("m")`, or writes it with a `require` that is made: neither is taken yet
abbrev pub keeps_requires : TsImportExportAssignConfig → Bool
keeps_requires way.Preserve = true
keeps_requires way.NodeNext = true
keeps_requires _ = false

-- and an option that keeps `export = e`
abbrev pub keeps_exports : TsImportExportAssignConfig → Bool
keeps_exports way.Preserve = true
keeps_exports _ = false

-- all these but the assignments that are lowered, or refused as such
--   import a = b.c; import d = require("m"); export = e;   // taken, but the last two under `Preserve`, and the second under `NodeNext`
--   enum E { } class A { constructor(private b) { } }   // not taken
abbrev pub is_untaken_kind : TsImportExportAssignConfig → Kind → Bool
is_untaken_kind assign kind.TsExternalModuleRef = keeps_requires assign
is_untaken_kind assign kind.TsExportAssignment = keeps_exports assign
is_untaken_kind assign (kind.TsImportEqualsDecl is_export is_type_only) = false
is_untaken_kind assign kind.TsQualifiedName = false
is_untaken_kind assign k = is_unlowered_kind k

abbrev pub is_untaken : TsImportExportAssignConfig → Node → Bool
is_untaken assign node = is_untaken_kind assign (kind_of node) || is_odd_by (kind_of node) node

abbrev pub untaken_here : TsImportExportAssignConfig → Bool → Node → Option ℕ
untaken_here assign = asked_here (is_untaken assign)

-- the least place at which a node begins that is of a form that is not taken, and does not go with the types
abbrev pub first_untaken : TsImportExportAssignConfig → Node → Option ℕ
first_untaken assign node = first_failing Bool (untaken_here assign) gone_inside node false
