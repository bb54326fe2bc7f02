-- The names that the scope of a module declares as values, and those that it declares as types.
use Rattle.std.specs.Prelude.{ℕ, Bool, true, false, ◌==◌, List, [], ◌∷◌, ◌++◌, Option, Some, None, cond}
use Rattle.ecma_kind.specs.declared.kind.Kind.{Kind}
use Rattle.ecma_kind.specs.declared.kind.Kind.TheVariants as kind
use Rattle.ecma_tree.specs.declared.node.Node.{Node, out-Node}
use Rattle.ecma_tree.specs.Values.{is_value}
use Rattle.ecma_walks.specs.Listing.{listed}
use Rattle.ecma_scope.specs.declared.form.Part.{Part}
use Rattle.ecma_scope.specs.declared.form.Part.TheVariants as part
use Rattle.ecma_scope.specs.declared.form.Sought.{Sought}
use Rattle.ecma_scope.specs.Declarations.{sought_in}
use Rattle.ecma_elide.specs.declared.typed.Typed.{Typed}
use Rattle.ecma_elide.specs.declared.typed.Typed.TheVariants as typed

-- the text of an identifier
abbrev pub text_of : Kind → List (List ℕ)
text_of (kind.Ident sym ctxt optional) = sym ∷ []
text_of _ = []

-- ---- values

-- what gives a name to something of another module, or to a type: no declaration of a value of this module
abbrev pub is_imported : Kind → Bool
is_imported (kind.ImportDecl type_only) = true
is_imported (kind.TsImportEqualsDecl is_export is_type_only) = is_type_only
is_imported _ = false

-- what is looked for in the child at an index, as scopes look for it, but for what is imported
abbrev pub value_in : Sought → Node → ℕ → Option Sought
value_in sought node i = cond (is_imported (out-Node node).kind) None (sought_in sought node i)

abbrev pub is_name_part : Part → Bool
is_name_part (part.Name f) = true
is_name_part _ = false

abbrev pub value_here : Sought → Node → List (List ℕ)
value_here sought node = cond (is_name_part sought.part) (text_of (out-Node node).kind) []

abbrev pub values_in : Node → Sought → List (List ℕ)
values_in = listed Sought (List ℕ) value_in value_here

-- the names that a module declares as values, with its `var` names; ambient ones too
--   import { a } from "m"; let b; declare const c; { var d; let e; } interface F { }   // b, c and d
abbrev pub value_names : Node → List (List ℕ)
value_names tree = values_in tree (record { part = part.Scope; stays = true }) ++ values_in tree (record { part = part.Var; stays = true })

-- ---- types

abbrev pub look_at : ℕ → ℕ → Typed → Option Typed
look_at wanted i here = cond (i == wanted) (Some here) None

-- where types are declared: interfaces, aliases, namespaces without values, what is imported as a type
--   interface A { } type B = C; namespace D { type E = F; } import type G = H.I;   // A, B, D and G
unfoldable pub in_types : Bool → Kind → ℕ → Option Typed
in_types value (kind.Module shebang) i = Some typed.Items
in_types value kind.List i = Some typed.Items
in_types value kind.ExportDecl i = Some typed.Items
in_types value kind.ExportDefaultDecl i = Some typed.Items
in_types value (kind.TsInterfaceDecl declare) i = look_at 0 i typed.Name
in_types value (kind.TsTypeAliasDecl declare) i = look_at 0 i typed.Name
in_types value (kind.TsModuleDecl declare false) i = cond value None (look_at 0 i typed.Name)
in_types value (kind.TsImportEqualsDecl is_export true) i = look_at 0 i typed.Name
in_types value (kind.ImportDecl true) i = look_at 0 i typed.TypeImports
in_types value (kind.ImportDecl false) i = look_at 0 i typed.Imports
in_types value _ i = None

-- of an import, the names that are written `type`
--   import { type A, b } from "m";   // A
unfoldable pub in_imports : Kind → ℕ → Option Typed
in_imports kind.List i = Some typed.Imports
in_imports (kind.ImportNamedSpecifier true) i = look_at 0 i typed.Name
in_imports _ i = None

-- of an import that is written `type`, all names
--   import type A from "m"; import type * as B from "n";   // A and B
unfoldable pub in_type_imports : Kind → ℕ → Option Typed
in_type_imports kind.List i = Some typed.TypeImports
in_type_imports (kind.ImportNamedSpecifier is_type_only) i = look_at 0 i typed.Name
in_type_imports kind.ImportDefaultSpecifier i = look_at 0 i typed.Name
in_type_imports kind.ImportStarAsSpecifier i = look_at 0 i typed.Name
in_type_imports _ i = None

abbrev pub typed_by : Typed → Bool → Kind → ℕ → Option Typed
typed_by typed.Items value k i = in_types value k i
typed_by typed.Imports value k i = in_imports k i
typed_by typed.TypeImports value k i = in_type_imports k i
typed_by typed.Name value k i = None

abbrev pub type_in : Typed → Node → ℕ → Option Typed
type_in here node i = typed_by here (is_value node) (out-Node node).kind i

abbrev pub is_name : Typed → Bool
is_name typed.Name = true
is_name _ = false

abbrev pub type_here : Typed → Node → List (List ℕ)
type_here here node = cond (is_name here) (text_of (out-Node node).kind) []

abbrev pub types_in : Node → Typed → List (List ℕ)
types_in = listed Typed (List ℕ) type_in type_here

-- the names that the items of a module declare as types
abbrev pub type_names : Node → List (List ℕ)
type_names tree = types_in tree typed.Items
