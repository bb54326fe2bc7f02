-- The layout of every tree: one statement or member a line, four blanks a level, a line feed at each end.
--
-- What is laid out are plain modules, and `import a = require("m")` and `export = e`. Types, and what declares nothing but types,
-- have no text. Nor has a node with other children than its kind asks for.
use Rattle.std.specs.Prelude.{ℕ, Bool, true, false, List, [], codes, map, if◌then◌else◌}
use Rattle.ecma_kind.specs.declared.kind.Kind.{Kind}
use Rattle.ecma_kind.specs.declared.kind.Kind.TheVariants.{Absent, List as ListKind}
use Rattle.ecma_tree.specs.declared.node.Node.{Node, Node-F, fold-Node, out-Node}
use Rattle.ecma_print.specs.declared.place.Spot.{Spot}
use Rattle.ecma_print.specs.declared.place.Place.{Place}
use Rattle.ecma_print.specs.declared.place.Place.TheVariants.{At, Within, Key, FunctionHead, MethodHead}
use Rattle.ecma_print.specs.declared.inside.Inside.{Inside}
use Rattle.ecma_print.specs.Pieces.{Piece, nothing, say, ◌>>◌}
use Rattle.ecma_print.specs.Places.{alone, before, after}
use Rattle.ecma_print.specs.Laid.{Laid, is_computed}
use Rattle.ecma_print.specs.Levels.{in_parentheses}
use Rattle.ecma_print.specs.Lists.{listed}
use Rattle.ecma_print.specs.Literals.{literal}
use Rattle.ecma_print.specs.Expressions.{operation, link, primary}
use Rattle.ecma_print.specs.Functions.{function_head, method_head, function_text, class_member, property, pattern}
use Rattle.ecma_print.specs.Statements.{statement, control}
use Rattle.ecma_print.specs.Modules.{importing, exporting}

-- a node that is no list, by itself: it has a text in one of these
abbrev pub whole : Kind → List Laid → Spot → Piece
whole kind children spot = literal kind >> operation kind children spot >> link kind children spot >> primary kind children >> function_text kind children spot >> class_member kind children >> property kind children spot >> pattern kind children >> statement kind children spot >> control kind children >> importing kind children >> exporting kind children

-- in parentheses where its spot asks for them
abbrev pub standing : Kind → List Laid → Spot → Piece
standing kind children spot = if in_parentheses kind children spot then (say (codes "(") >> whole kind children alone >> say (codes ")")) else whole kind children spot

-- what stands between an object and its key
abbrev pub key_mark : Bool → Bool → List ℕ
key_mark true computed = codes "?."
key_mark false true = []
key_mark false false = codes "."

-- a node that is there and no list, in its place
abbrev pub placed : Kind → List Laid → Place → Piece
placed kind children (At spot) = standing kind children spot
placed kind children (Within between spot) = before between >> standing kind children spot >> after between
placed kind children (Key optional) = say (key_mark optional (is_computed kind)) >> whole kind children alone
placed kind children FunctionHead = say (function_head kind)
placed kind children MethodHead = say (method_head kind)
placed kind children place = nothing

-- a node in its place
abbrev pub in_place : Kind → List Laid → Place → Piece
in_place Absent children place = nothing
in_place ListKind items place = listed items place
in_place kind children place = placed kind children place

abbrev pub by_itself : Laid → Piece
by_itself child = child.at (At alone)

abbrev pub lay_step : Node-F Laid → Laid
lay_step parts = record { kind = parts.kind; at = in_place parts.kind parts.children; parts = map by_itself parts.children }

abbrev pub laid : Node → Laid
laid = fold-Node Laid lay_step

-- what the children of a node are laid out as
abbrev pub children_of : {F : Type 0} → Inside F → List Laid
children_of inside = map laid (out-Node inside.node.now).children

-- the text of a module
abbrev pub layout : Node → List ℕ
layout tree = (laid tree).at (At alone) [] []
