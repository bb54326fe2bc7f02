-- Where a node stands: the place, and what is around it.
use Rattle.std.specs.Prelude.{ℕ, cond, List, [], ◌∷◌, ◌++◌, Option, Some, None, slice_get}
use Rattle.std.specs.Option.{option_map_or}
use Rattle.ecma_kind.specs.declared.ident.Ident.{Ident}
use Rattle.ecma_kind.specs.declared.kind.Kind.{Kind}
use Rattle.ecma_kind.specs.declared.kind.Kind.TheVariants as kind
use Rattle.ecma_tree.specs.declared.node.Node.{Node, out-Node}
use Rattle.ecma_rewriter.specs.Seats as rewriter
use Rattle.ecma_rewriter.specs.Seats.{around_or}
use Rattle.ecma_lower_enums.specs.declared.known.Around.{Around}
use Rattle.ecma_lower_enums.specs.declared.known.KnownEnums.{KnownEnums}
use Rattle.ecma_lower_enums.specs.declared.known.Part.{Part}
use Rattle.ecma_lower_enums.specs.declared.place.Place.{Place}
use Rattle.ecma_lower_enums.specs.declared.place.Place.TheVariants as place
use Rattle.ecma_lower_enums.specs.Known.{Id, id_of, name_at, nowhere, part_at, skips}
use Rattle.ecma_lower_enums.specs.Places.{at_child, is_item, is_raw, place_in}

abbrev pub Seat : Type 0
Seat = rewriter.Seat Place Around

-- a tree as a whole
abbrev pub whole : Seat
whole = record { place = place.Other; around = nowhere }

-- ---- the children of a node

-- in a namespace the items of its body have its name around them
abbrev pub of_block : Place → Option Ident → Option Ident
of_block place.Block name = name
of_block _ name = None

abbrev pub named : Option Ident → Around
named name = record { name = name; before = [] }

-- what is around the children, where it is something else: those of an enum and of a namespace have its name around them, and a list of statements begins anew
unfoldable pub around_in : Place → Option Ident → Kind → List Node → Option Around
around_in p name (kind.Module shebang) children = Some nowhere
around_in p name (kind.Script shebang) children = Some nowhere
around_in p name kind.BlockStmt children = Some nowhere
around_in p name kind.SwitchCase children = Some nowhere
around_in p name kind.TsModuleBlock children = Some (named (of_block p name))
around_in p name (kind.TsModuleDecl declare global) children = Some (named (name_at children))
around_in p name (kind.TsNamespaceDecl declare global) children = Some (named (name_at children))
around_in p name (kind.TsEnumDecl declare is_const) children = Some (named (name_at children))
around_in p name _ children = None

abbrev pub around_at : Seat → Kind → List Node → Around
around_at s k children = around_or s.around (around_in s.place s.around.name k children)

-- the members of an enum that is written
abbrev pub place_by : KnownEnums → Place → Kind → ℕ → Option Part → Place
place_by enums p k i (Some part) = at_child 1 i (place.Member (skips enums part)) place.Other
place_by enums p k i None = place_in enums.writes p k i

abbrev pub place_at : KnownEnums → Place → Kind → List Node → ℕ → Place
place_at enums p k children i = place_by enums p k i (part_at p k children)

abbrev pub seat_at : KnownEnums → Seat → Kind → List Node → ℕ → Seat
seat_at enums s k children i = cond (is_raw s.place) s (record { place = place_at enums s.place k children i; around = around_at s k children })

-- ---- behind an item

abbrev pub id_at : List Node → List Id
id_at children = option_map_or (λ name. id_of name ∷ []) (name_at children) []

-- the id of what a declaration declares to which a later part may add
unfoldable pub declared_ids : Kind → List Node → List Id
declared_ids (kind.FnDecl declare) children = id_at children
declared_ids (kind.ClassDecl declare) children = id_at children
declared_ids (kind.TsEnumDecl declare is_const) children = id_at children
declared_ids (kind.TsModuleDecl declare global) children = id_at children
declared_ids _ children = []

-- of a function or class that is exported as the default
unfoldable pub default_ids : Kind → List Node → List Id
default_ids kind.FnExpr children = id_at children
default_ids kind.ClassExpr children = id_at children
default_ids _ children = []

-- of the first child
abbrev pub first_ids : (Kind → List Node → List Id) → List Node → List Id
first_ids ids children = option_map_or (λ n. ids (out-Node n).kind (out-Node n).children) (slice_get children 0) []

-- of an item, also of one that is exported
--   function f() { }   export class C { }   export default class D { }
unfoldable pub part_ids : Kind → List Node → List Id
part_ids kind.ExportDecl children = first_ids declared_ids children
part_ids kind.ExportDefaultDecl children = first_ids default_ids children
part_ids k children = declared_ids k children

abbrev pub behind : Around → Kind → List Node → Around
behind around k children = record around { before = around.before ++ part_ids k children }

abbrev pub next_seat : Seat → Node → Seat
next_seat s n = cond (is_item s.place) (record s { around = behind s.around (out-Node n).kind (out-Node n).children }) s
