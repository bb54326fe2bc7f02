-- The interface of a module, read off its tree (ECMAScript, 16.2.2 ImportEntries, 16.2.3 ExportEntries).
use Rattle.std.specs.Prelude.{ℕ, Bool, true, false, not, ◌&&◌, cond, List, [], ◌∷◌, Option, Some, None, bytes_eq, codes, filter, flat_map, map, slice_get}
use Rattle.ecma_kind.specs.declared.kind.Kind.{Kind}
use Rattle.ecma_kind.specs.declared.kind.Kind.TheVariants as kind
use Rattle.ecma_tree.specs.declared.node.Node.{Node, out-Node}
use Rattle.ecma_rules.specs.Children.{child_is, has_child, items_at, kind_of}
use Rattle.ecma_strip.specs.Staying.{stays}
use Rattle.ecma_interface.specs.Interface.{Again, AllNames, AsObject, Attribute, ByName, Export, Import, ImportEntry, Imported, Interface, NameAs, ObjectAs, ReExport, Request}
use Rattle.ecma_interface.specs.Names.{Id, bound_names}

-- ---- names of modules, and requests

-- what a name or a text says
abbrev pub said_by : Kind → List ℕ
said_by (kind.Ident sym ctxt optional) = sym
said_by (kind.IdentName sym) = sym
said_by (kind.Str value raw) = value
said_by _ = []

abbrev pub said_of : Option Node → List ℕ
said_of None = []
said_of (Some node) = said_by (kind_of node)

abbrev pub said_at : Node → ℕ → List ℕ
said_at node i = said_of (slice_get (out-Node node).children i)

-- the second name of a specifier, or else its first
abbrev pub second_name : Node → List ℕ
second_name specifier = cond (has_child specifier 1) (said_at specifier 1) (said_at specifier 0)

abbrev pub attribute : Node → Attribute
attribute property = record { key = said_at property 0; value = said_at property 1 }

abbrev pub attributes_of : Option Node → List Attribute
attributes_of None = []
attributes_of (Some object) = map attribute (items_at object 0)

-- a specifier and attributes, by their places
abbrev pub request_at : Node → ℕ → ℕ → Request
request_at item i j = record { source = said_at item i; attributes = attributes_of (slice_get (out-Node item).children j) }

-- ---- what is exported again

abbrev pub again_by : Kind → Node → List Again
again_by kind.ExportNamespaceSpecifier specifier = ObjectAs (said_at specifier 0) ∷ []
again_by (kind.ExportNamedSpecifier false) specifier = NameAs (said_at specifier 0) (second_name specifier) ∷ []
again_by _ specifier = []

abbrev pub again : Node → List Again
again specifier = again_by (kind_of specifier) specifier

abbrev pub re_export_by : Kind → Node → List ReExport
re_export_by (kind.NamedExport false) item =
    cond (has_child item 1) (record { request = request_at item 1 2; entries = flat_map again (items_at item 0) } ∷ []) []
re_export_by (kind.ExportAll false) item = record { request = request_at item 0 1; entries = AllNames ∷ [] } ∷ []
re_export_by _ item = []

abbrev pub re_export : Node → List ReExport
re_export item = re_export_by (kind_of item) item

-- ---- variables, by the texts by which they are known

abbrev pub bound_of : Option Node → List Id
bound_of None = []
bound_of (Some node) = bound_names node

abbrev pub bound_at : Node → ℕ → List Id
bound_at node i = bound_of (slice_get (out-Node node).children i)

-- the right side of an import is `require("m")`
abbrev pub is_required : Kind → Bool
is_required kind.TsExternalModuleRef = true
is_required _ = false

module _ (text_of : Id → List ℕ) where
  abbrev pub variable_by : Kind → List ℕ
  variable_by (kind.Ident sym ctxt optional) = text_of (sym, ctxt)
  variable_by _ = []

  abbrev pub variable_of : Option Node → List ℕ
  variable_of None = []
  variable_of (Some node) = variable_by (kind_of node)

  abbrev pub variable_at : Node → ℕ → List ℕ
  variable_at node i = variable_of (slice_get (out-Node node).children i)

  -- 16.2.2.3 ImportEntriesForModule
  abbrev pub import_entry_by : Kind → Node → List ImportEntry
  import_entry_by kind.ImportDefaultSpecifier specifier =
      record { imported = ByName (codes "default"); local = variable_at specifier 0 } ∷ []
  import_entry_by kind.ImportStarAsSpecifier specifier = record { imported = AsObject; local = variable_at specifier 0 } ∷ []
  import_entry_by (kind.ImportNamedSpecifier false) specifier =
      record { imported = ByName (second_name specifier); local = variable_at specifier 0 } ∷ []
  import_entry_by _ specifier = []

  abbrev pub import_entry : Node → List ImportEntry
  import_entry specifier = import_entry_by (kind_of specifier) specifier

  abbrev pub import_by : Kind → Node → List Import
  import_by (kind.ImportDecl false) item =
      record { request = request_at item 1 2; entries = flat_map import_entry (items_at item 0) } ∷ []
  import_by _ item = []

  abbrev pub import : Node → List Import
  import item = import_by (kind_of item) item

  -- a variable by its own text
  abbrev pub by_its_name : Id → Export
  by_its_name id = record { exported = id.0; local = text_of id }

  -- the variable that the default export binds, or `*default*` where that has no name
  abbrev pub default_of : List Id → List Export
  default_of [] = record { exported = codes "default"; local = codes "*default*" } ∷ []
  default_of (id ∷ ids) = record { exported = codes "default"; local = text_of id } ∷ []

  abbrev pub export_specifier_by : Kind → Node → List Export
  export_specifier_by (kind.ExportNamedSpecifier false) specifier =
      record { exported = second_name specifier; local = variable_at specifier 0 } ∷ []
  export_specifier_by _ specifier = []

  abbrev pub export_specifier : Node → List Export
  export_specifier specifier = export_specifier_by (kind_of specifier) specifier

  -- 16.2.3.4 ExportEntries, of the names of the module itself. An alias is a constant that is exported; a required module is written to `exports` when the module runs,
  -- and is no export of it
  --   export import a = b.c; export import d = require("m");   // a for a
  abbrev pub export_by : Kind → Node → List Export
  export_by kind.ExportDecl item = map by_its_name (bound_at item 0)
  export_by kind.ExportDefaultDecl item = default_of (bound_at item 0)
  export_by kind.ExportDefaultExpr item = default_of []
  export_by (kind.NamedExport false) item = cond (has_child item 1) [] (flat_map export_specifier (items_at item 0))
  export_by (kind.TsImportEqualsDecl true false) item = cond (child_is is_required item 1) [] (map by_its_name (bound_at item 0))
  export_by _ item = []

  abbrev pub export : Node → List Export
  export item = export_by (kind_of item) item

-- ---- the whole module

abbrev pub same_export : Export → Export → Bool
same_export a b = bytes_eq a.exported b.exported && bytes_eq a.local b.local

-- each pair once, where it stands first
abbrev pub without_repeats : List Export → List Export
without_repeats [] = []
without_repeats (pair ∷ pairs) = pair ∷ filter (λ other. not (same_export pair other)) (without_repeats pairs)

-- the items that do not go with the types
--   export interface A { } export function f(): T;   // go
abbrev pub staying_items : Node → List Node
staying_items tree = filter stays (items_at tree 0)

-- of a module whose variables are known by these texts
abbrev pub interface_of : (Id → List ℕ) → Node → Interface
interface_of text_of tree = record {
  imports = flat_map (import text_of) (staying_items tree);
  re_exports = flat_map re_export (staying_items tree);
  exports = without_repeats (flat_map (export text_of) (staying_items tree));
}

-- by their own texts
abbrev pub own_text : Id → List ℕ
own_text id = id.0
