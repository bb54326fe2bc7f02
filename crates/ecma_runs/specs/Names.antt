-- Trees with other names.
use Rattle.std.specs.Prelude.{◌≡◌, Bool, true, false, ◌&&◌, List, [], ◌∷◌, ◌++◌, bytes_eq, codes}
use Rattle.std.specs.List.{list_all}
use Rattle.ecma_kind.specs.declared.kind.Kind.{Kind}
use Rattle.ecma_kind.specs.declared.kind.Kind.TheVariants as kind
use Rattle.ecma_tree.specs.declared.node.Node.{Node, Node-F, fold-Node}
use Rattle.ecma_tree.specs.Nodes.{node_of}
use Rattle.ecma_tree.specs.Rewritten.{rewritten}
use Rattle.ecma_runs.specs.State.{Id, default_name}
use Rattle.ecma_runs.specs.Exports.{export_names}
use Rattle.ecma_runs.specs.Environment.{is_among}
use Rattle.ecma_runs.specs.Enums.{lacks_enums}
use Rattle.ecma_runs.specs.Evaluation.{meaning}
use Rattle.ecma_runs.specs.Observation.{exports_in}

-- the kind with its name changed
abbrev pub renamed_ident : (Id → Id) → Kind → Kind
renamed_ident to (kind.Ident sym ctxt optional) = kind.Ident (to (record { sym = sym; ctxt = ctxt })).sym (to (record { sym = sym; ctxt = ctxt })).ctxt optional
renamed_ident to k = k

abbrev pub renamed_node : (Id → Id) → Node-F Node → Node
renamed_node to parts = node_of parts.span (renamed_ident to parts.kind) parts.children

-- the tree with each identifier renamed
abbrev pub renamed : (Id → Id) → Node → Node
renamed to = rewritten (renamed_node to)

-- whether each identifier's id passes a test
abbrev pub passes_by : (Id → Bool) → Kind → Bool
passes_by test (kind.Ident sym ctxt optional) = test (record { sym = sym; ctxt = ctxt })
passes_by test k = true

abbrev pub passes_here : (Id → Bool) → Node-F Bool → Bool
passes_here test parts = passes_by test parts.kind && list_all (λ b. b) parts.children

abbrev pub ids_pass : (Id → Bool) → Node → Bool
ids_pass test = fold-Node Bool (passes_here test)

-- the ids whose texts are keys: shorthands, names in patterns, names in imports and in lists of exports, and names of exported imports
--   export import a = require("m");   // sets `exports.a`

-- the identifiers that a node is or lists, and those that stand as keys in it
pub record Keys : Type 0 where
  pub here : List Id
  pub all : List Id

abbrev pub all_here : List Keys → List Id
all_here [] = []
all_here (part ∷ parts) = part.here ++ all_here parts

abbrev pub all_below : List Keys → List Id
all_below [] = []
all_below (part ∷ parts) = part.all ++ all_below parts

abbrev pub here_by : Kind → List Keys → List Id
here_by (kind.Ident sym ctxt optional) [] = record { sym = sym; ctxt = ctxt } ∷ []
here_by kind.BindingIdent (id ∷ annotation ∷ []) = id.here
here_by kind.List items = all_here items
here_by kind.ParenExpr (e ∷ []) = e.here
here_by kind.TsAsExpr (e ∷ type ∷ []) = e.here
here_by kind.TsTypeAssertion (e ∷ type ∷ []) = e.here
here_by kind.TsConstAssertion (e ∷ []) = e.here
here_by kind.TsNonNullExpr (e ∷ []) = e.here
here_by kind.TsInstantiation (e ∷ types ∷ []) = e.here
here_by kind.TsSatisfiesExpr (e ∷ type ∷ []) = e.here
here_by k parts = []

abbrev pub at_keys : Kind → List Keys → List Id
at_keys kind.ObjectLit (properties ∷ []) = properties.here
at_keys (kind.Class is_abstract) (super ∷ body ∷ types ∷ super_types ∷ implements ∷ []) = body.here
at_keys kind.AssignPatProp (name ∷ default ∷ []) = name.here
at_keys (kind.ImportDecl type_only) (specifiers ∷ source ∷ attributes ∷ []) = source.here
at_keys (kind.ImportNamedSpecifier is_type_only) (local ∷ name ∷ []) = local.here ++ name.here
at_keys (kind.TsImportEqualsDecl true false) (name ∷ source ∷ []) = name.here
at_keys (kind.NamedExport type_only) (specifiers ∷ source ∷ attributes ∷ []) = source.here
at_keys (kind.ExportNamedSpecifier is_type_only) (exported ∷ name ∷ []) = exported.here ++ name.here
at_keys kind.ExportNamespaceSpecifier (name ∷ []) = name.here
at_keys k parts = []

abbrev pub keys_by : Node-F Keys → Keys
keys_by parts = record { here = here_by parts.kind parts.children; all = at_keys parts.kind parts.children ++ all_below parts.children }

abbrev pub keys : Node → Keys
keys = fold-Node Keys keys_by

-- the ids whose texts are keys somewhere in a tree
abbrev pub keys_in : Node → List Id
keys_in m = (keys m).all

-- a map of names keeps their texts
abbrev pub TextsStay : (Id → Id) → List Id → Type 0
TextsStay to [] = Unit {0}
TextsStay to (id ∷ ids) = ((to id).sym ≡ id.sym) × TextsStay to ids

-- of a tree without enums, a map of names that is one to one on a set of names in which each identifier of the tree stands; it keeps the texts of keys
-- and of names that the tree declares nowhere, and which names are the `this` of a parameter that types it; what is exported under its own name keeps
-- its text, and the variable of a default export without a name its name
pub record IsRenaming (to : Id → Id) (m : Node) : Type 0 where
  pub no_enums : lacks_enums m ≡ true
  pub stands : Id → Bool
  pub all_stand : ids_pass stands m ≡ true
  pub one_to_one : (a b : Id) → stands a ≡ true → stands b ≡ true → to a ≡ to b → a ≡ b
  pub key_texts : TextsStay to (keys_in m)
  pub free_texts : (id : Id) → stands id ≡ true → is_among id (meaning m).declared ≡ false → (to id).sym ≡ id.sym
  pub this_stays : (id : Id) → stands id ≡ true → bytes_eq (to id).sym (codes "this") ≡ bytes_eq id.sym (codes "this")
  pub export_texts : TextsStay to (export_names (exports_in m))
  pub default_stays : (stands default_name ≡ true) × (to default_name ≡ default_name)
