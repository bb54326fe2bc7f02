-- What goes of imports and exports.
use Rattle.std.specs.Prelude.{ℕ, Bool, true, false, ◌&&◌, ◌||◌, not, List, [], ◌∷◌, slice_get, cond}
use Rattle.std.specs.List.{list_all}
use Rattle.ecma_kind.specs.declared.kind.Kind.{Kind}
use Rattle.ecma_kind.specs.declared.kind.Kind.TheVariants as kind
use Rattle.ecma_tree.specs.declared.node.Node.{Node, out-Node}
use Rattle.ecma_rules.specs.Children.{children_of, of_kind}
use Rattle.ecma_scope.specs.Scopes.{is_there}
use Rattle.ecma_scope.specs.Uses.{UsedId}
use Rattle.ecma_elide.specs.declared.seat.Seat.{Seat}
use Rattle.ecma_elide.specs.declared.seat.Seat.TheVariants as seat

-- what is known of the names of a module: which ids are used, which texts it declares as values and which as types; and whether an import that is left
-- without names is kept
pub record Known : Type 0 where
  pub is_used : UsedId → Bool
  pub is_value : List ℕ → Bool
  pub is_type : List ℕ → Bool
  pub keeps_imports : Bool

-- ---- names

abbrev pub of_name : (List ℕ → ℕ → Bool) → Kind → Bool
of_name test (kind.Ident sym ctxt optional) = test sym ctxt
of_name test _ = false

-- a test of the identifier that the first child is
abbrev pub first_name : (List ℕ → ℕ → Bool) → List Node → Bool
first_name test children = of_kind (of_name test) (slice_get children 0)

-- the nodes of the list that the first child is
abbrev pub first_list : List Node → List Node
first_list children = children_of (slice_get children 0)

-- an imported name goes where the module declares a value of its text, or where it is not used
abbrev pub is_unwanted : Known → List ℕ → ℕ → Bool
is_unwanted known sym ctxt = known.is_value sym || not (known.is_used (sym, ctxt))

abbrev pub is_unused : Known → List ℕ → ℕ → Bool
is_unused known sym ctxt = not (known.is_used (sym, ctxt))

-- a name is that of a type where it is declared as one, and not as a value
abbrev pub names_type : Known → List ℕ → ℕ → Bool
names_type known sym ctxt = known.is_type sym && not (known.is_value sym)

-- ---- specifiers

-- of an import
--   import a, { b, type C } from "m"; a();   // becomes import a from "m"; a();
--   import { a } from "m"; declare const a: any; a();   // becomes declare const a: any; a();
unfoldable pub import_goes : Known → Kind → List Node → Bool
import_goes known (kind.ImportNamedSpecifier is_type_only) children = is_type_only || first_name (is_unwanted known) children
import_goes known kind.ImportDefaultSpecifier children = first_name (is_unwanted known) children
import_goes known kind.ImportStarAsSpecifier children = first_name (is_unwanted known) children
import_goes known _ children = false

-- of an export of this module's own names
--   type A = B; const c = 1; export { A, c, type c as D };   // becomes type A = B; const c = 1; export { c };
unfoldable pub export_goes : Known → Kind → List Node → Bool
export_goes known (kind.ExportNamedSpecifier is_type_only) children = is_type_only || first_name (names_type known) children
export_goes known _ children = false

-- of an export of another module's
--   export { type A, b } from "m";   // becomes export { b } from "m";
unfoldable pub reexport_goes : Kind → Bool
reexport_goes (kind.ExportNamedSpecifier is_type_only) = is_type_only
reexport_goes _ = false

abbrev pub specifier_goes : Known → Seat → Kind → List Node → Bool
specifier_goes known seat.Imported k children = import_goes known k children
specifier_goes known seat.Exported k children = export_goes known k children
specifier_goes known seat.Reexported k children = reexport_goes k
specifier_goes known _ k children = false

-- of these specifiers none stays
abbrev pub all_go : Known → Seat → List Node → Bool
all_go known s specifiers = list_all (λ n. specifier_goes known s (out-Node n).kind (out-Node n).children) specifiers

-- ---- items

abbrev pub is_empty : List Node → Bool
is_empty [] = true
is_empty (n ∷ ns) = false

-- an import that is left without specifiers; one that is written without stays
--   import "m"; import { a } from "n";   // becomes import "m";
abbrev pub is_left_empty : Known → List Node → Bool
is_left_empty known children =
    not (is_empty (first_list children)) && (all_go known seat.Imported (first_list children) && not known.keeps_imports)

-- the specifiers of an export, with a source or without
abbrev pub exported : Bool → Seat
exported sourced = cond sourced seat.Reexported seat.Exported

-- an export that is left or written without specifiers
--   export { type A }; export { } from "m";   // becomes nothing
abbrev pub exports_nothing : Known → List Node → Bool
exports_nothing known children = all_go known (exported (is_there children 1)) (first_list children)

-- `import a = ..`, as an item of a module or of a namespace: one that is written `type` goes, and, without `export`, one that is not used
--   import a = b.c; export import d = e; namespace F { import g = h; g(); }   // becomes export import d = e; namespace F { import g = h; g(); }
unfoldable pub alias_goes : Known → Kind → List Node → Bool
alias_goes known (kind.TsImportEqualsDecl is_export is_type_only) children =
    is_type_only || (not is_export && first_name (is_unused known) children)
alias_goes known _ children = false

-- an item of a module
--   import type A from "m"; export type { B } from "n"; type C = D; export default C;   // becomes type C = D;
unfoldable pub item_goes : Known → Kind → List Node → Bool
item_goes known (kind.ImportDecl type_only) children = type_only || is_left_empty known children
item_goes known (kind.NamedExport type_only) children = type_only || exports_nothing known children
item_goes known (kind.ExportAll type_only) children = type_only
item_goes known kind.ExportDefaultExpr children = first_name (names_type known) children
item_goes known k children = alias_goes known k children

-- what stands in a seat
abbrev pub goes : Known → Seat → Kind → List Node → Bool
goes known seat.Items k children = item_goes known k children
goes known seat.Elsewhere k children = alias_goes known k children
goes known s k children = specifier_goes known s k children
