-- The names that matter where enums are written: those of members, with the name of their enum, and what the module exports in braces or as its default.
use Rattle.std.specs.Prelude.{ℕ, Bool, true, ◌||◌, not, cond, List, [], ◌∷◌, ◌++◌, Option, Some, slice_get}
use Rattle.std.specs.Option.{option_map_or}
use Rattle.ecma_kind.specs.declared.ident.Ident.{Ident}
use Rattle.ecma_kind.specs.declared.kind.Kind.{Kind}
use Rattle.ecma_kind.specs.declared.kind.Kind.TheVariants as kind
use Rattle.ecma_tree.specs.Sorted.{is_absent}
use Rattle.ecma_tree.specs.declared.node.Node.{Node, out-Node}
use Rattle.ecma_enums.specs.Names as enums
use Rattle.ecma_walks.specs.Listing.{listed}
use Rattle.ecma_lower_enums.specs.declared.known.EnumName.{EnumName}
use Rattle.ecma_lower_enums.specs.declared.known.EnumName.TheVariants as name
use Rattle.ecma_lower_enums.specs.Known.{id_of, name_at}

-- the items of the list that is the child at an index
abbrev pub items_at : List Node → ℕ → List Node
items_at children i = option_map_or (λ list. (out-Node list).children) (slice_get children i) []

-- ---- members

abbrev pub member_name : Ident → Node → List EnumName
member_name of m = option_map_or (λ ident. name.Member (id_of ident) of ∷ []) (name_at (out-Node m).children) []

abbrev pub member_names : Ident → List Node → List EnumName
member_names of [] = []
member_names of (m ∷ ms) = member_name of m ++ member_names of ms

--   enum E { A, "B" }   // A, of E: a text declares no name
abbrev pub names_of_enum : List Node → List EnumName
names_of_enum children = option_map_or (λ of. member_names of (items_at children 1)) (name_at children) []

-- ---- exports

abbrev pub local_name : List Node → List EnumName
local_name children = option_map_or (λ ident. name.Exported (id_of ident) ∷ []) (name_at children) []

abbrev pub specifier_by : Kind → List Node → List EnumName
specifier_by (kind.ExportNamedSpecifier is_type_only) children = cond is_type_only [] (local_name children)
specifier_by _ children = []

abbrev pub specifier_name : Node → List EnumName
specifier_name n = specifier_by (out-Node n).kind (out-Node n).children

abbrev pub specifier_names : List Node → List EnumName
specifier_names [] = []
specifier_names (n ∷ ns) = specifier_name n ++ specifier_names ns

-- whether a child is missing
abbrev pub lacks : List Node → ℕ → Bool
lacks children i = option_map_or (λ n. is_absent (out-Node n).kind) (slice_get children i) true

--   export { E, F as G };   // E and F
--   export { E } from "m";   export type { E };   // none
abbrev pub names_of_export : Bool → List Node → List EnumName
names_of_export type_only children = cond (type_only || not (lacks children 1)) [] (specifier_names (items_at children 0))

--   export default E;
abbrev pub default_name : Node → List EnumName
default_name n = option_map_or (λ id. name.Exported id ∷ []) (enums.name_at n 0) []

-- ---- all of a tree

unfoldable pub names_by : Kind → Node → List Node → List EnumName
names_by (kind.TsEnumDecl declare is_const) n children = names_of_enum children
names_by (kind.NamedExport type_only) n children = names_of_export type_only children
names_by kind.ExportDefaultExpr n children = default_name n
names_by _ n children = []

abbrev pub names_here : Unit {0} → Node → List EnumName
names_here around n = names_by (out-Node n).kind n (out-Node n).children

-- every node is looked at
abbrev pub everywhere : Unit {0} → Node → ℕ → Option (Unit {0})
everywhere around n i = Some tt

abbrev pub names_in : Node → List EnumName
names_in tree = listed (Unit {0}) EnumName everywhere names_here tree tt
