-- What is known of the enums of a module, and what stands around a node.
use Rattle.std.specs.Prelude.{ℕ, Bool, false, ◌&&◌, ◌==◌, not, cond, List, [], ◌∷◌, Option, Some, None, bytes_eq, slice_get}
use Rattle.std.specs.List.{list_any}
use Rattle.std.specs.Option.{option_and_then, option_map}
use Rattle.ecma_kind.specs.declared.ident.Ident.{Ident}
use Rattle.ecma_kind.specs.declared.kind.Kind.{Kind}
use Rattle.ecma_kind.specs.declared.kind.Kind.TheVariants as kind
use Rattle.ecma_tree.specs.Idents.{ident_of}
use Rattle.ecma_tree.specs.declared.node.Node.{Node}
use Rattle.ecma_lower_enums.specs.declared.known.Around.{Around}
use Rattle.ecma_lower_enums.specs.declared.known.EnumName.{EnumName}
use Rattle.ecma_lower_enums.specs.declared.known.EnumName.TheVariants as name
use Rattle.ecma_lower_enums.specs.declared.known.KnownEnums.{KnownEnums}
use Rattle.ecma_lower_enums.specs.declared.known.Part.{Part}
use Rattle.ecma_lower_enums.specs.declared.place.Place.{Place}
use Rattle.ecma_lower_enums.specs.declared.place.Place.TheVariants as place

-- ---- ids

-- a text and a context
abbrev pub Id : Type 0
Id = List ℕ × ℕ

abbrev pub id_of : Ident → Id
id_of ident = (ident.sym, ident.ctxt)

abbrev pub is_id : Id → List ℕ → ℕ → Bool
is_id id sym ctxt = id.1 == ctxt && bytes_eq id.0 sym

abbrev pub has_id : Ident → List Id → Bool
has_id ident = list_any (λ id. is_id id ident.sym ident.ctxt)

-- ---- names

abbrev pub is_exported_by : Ident → EnumName → Bool
is_exported_by ident (name.Exported id) = is_id id ident.sym ident.ctxt
is_exported_by ident (name.Member id of) = false

-- whether the module exports this name in braces or as its default
abbrev pub is_exported : Ident → List EnumName → Bool
is_exported ident = list_any (is_exported_by ident)

abbrev pub enum_of : List ℕ → ℕ → EnumName → Option Ident
enum_of sym ctxt (name.Member id of) = cond (is_id id sym ctxt) (Some of) None
enum_of sym ctxt (name.Exported id) = None

abbrev pub or_else : Option Ident → Option Ident → Option Ident
or_else (Some of) others = Some of
or_else None others = others

-- the name of the enum of which a name with this id is a member, of several the first
abbrev pub alias_by : List ℕ → ℕ → List EnumName → Option Ident
alias_by sym ctxt [] = None
alias_by sym ctxt (n ∷ ns) = or_else (enum_of sym ctxt n) (alias_by sym ctxt ns)

-- ---- parts of enums

-- a name without a `?` behind it
abbrev pub unmarked : Ident → Ident
unmarked ident = record { span = ident.span; ctxt = ident.ctxt; sym = ident.sym; optional = false }

-- the identifier that the first of some children is
abbrev pub name_at : List Node → Option Ident
name_at children = option_map unmarked (option_and_then ident_of (slice_get children 0))

abbrev pub part_by : Place → Bool → Option Ident → Option Part
part_by (place.Item at_top exported) is_const (Some name) = Some (record { name = name; is_const = is_const; at_top = at_top; exported = exported })
part_by _ is_const name = None

-- the part that a node is written as: an enum among the items of a list
abbrev pub part_at : Place → Kind → List Node → Option Part
part_at p (kind.TsEnumDecl declare is_const) children = part_by p is_const (name_at children)
part_at p _ children = None

-- whether members of a part are not written where their values are known: it is `const`, and neither exported nor to be kept
abbrev pub skips : KnownEnums → Part → Bool
skips enums part = part.is_const && not part.exported && not enums.keeps_constants && not (is_exported part.name enums.names)

-- ---- around a node

abbrev pub nowhere : Around
nowhere = record { name = None; before = [] }
