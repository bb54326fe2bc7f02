-- The layout of several nodes in one place.
use Rattle.std.specs.Prelude.{ℕ, Bool, true, false, List, [], ◌∷◌, codes}
use Rattle.ecma_print.specs.declared.place.Place.{Place}
use Rattle.ecma_print.specs.declared.place.Place.TheVariants.{At, Lines, Deeper, Block, Commas, Arguments, Braces, Brackets, Imports, Exports}
use Rattle.ecma_print.specs.declared.place.Spot.{Spot}
use Rattle.ecma_print.specs.Precedences as precedence
use Rattle.ecma_print.specs.Pieces.{Piece, nothing, say, ◌>>◌, new_line, deeper}
use Rattle.ecma_print.specs.Places.{alone, free}
use Rattle.ecma_print.specs.Laid.{Laid, is_absent, is_named}

-- each on a line of its own
abbrev pub lines : List Laid → Piece
lines [] = nothing
lines (x ∷ xs) = x.at (At alone) >> say (codes "\n") >> lines xs

-- the same, each after the beginning of its line
abbrev pub new_lines : List Laid → Piece
new_lines [] = nothing
new_lines (x ∷ xs) = new_line >> x.at (At alone) >> new_lines xs

-- in braces, each on a line of its own
abbrev pub block : List Laid → Piece
block [] = say (codes "{}")
block (x ∷ xs) = say (codes "{") >> deeper (new_lines (x ∷ xs)) >> new_line >> say (codes "}")

-- each after a comma and a blank
abbrev pub more_commas : Spot → List Laid → Piece
more_commas spot [] = nothing
more_commas spot (x ∷ xs) = say (codes ", ") >> x.at (At spot) >> more_commas spot xs

-- with a comma and a blank between
abbrev pub commas : Spot → List Laid → Piece
commas spot [] = nothing
commas spot (x ∷ xs) = x.at (At spot) >> more_commas spot xs

-- in parentheses
abbrev pub arguments : List Laid → Piece
arguments items = say (codes "(") >> commas (free precedence.assignment) items >> say (codes ")")

-- in braces, and a blank within each
abbrev pub wide_braces : List Laid → Piece
wide_braces items = say (codes "{ ") >> commas (free precedence.assignment) items >> say (codes " }")

-- in braces
abbrev pub braces : List Laid → Piece
braces [] = say (codes "{}")
braces (x ∷ xs) = wide_braces (x ∷ xs)

abbrev pub ends_in_hole : List Laid → Bool
ends_in_hole [] = false
ends_in_hole (x ∷ []) = is_absent x.kind
ends_in_hole (x ∷ y ∷ ys) = ends_in_hole (y ∷ ys)

-- after a last hole stands one comma more
abbrev pub hole_comma : Bool → List ℕ
hole_comma true = codes ","
hole_comma false = []

-- in brackets
abbrev pub brackets : List Laid → Piece
brackets items = say (codes "[") >> commas (free precedence.assignment) items >> say (hole_comma (ends_in_hole items)) >> say (codes "]")

-- what stands before a specifier, where the one before it stands in braces, or not
abbrev pub specifier_gap : Bool → Bool → List ℕ
specifier_gap true true = codes ", "
specifier_gap true false = codes " }, "
specifier_gap false true = codes ", { "
specifier_gap false false = codes ", "

abbrev pub opening_brace : Bool → List ℕ
opening_brace true = codes "{ "
opening_brace false = []

abbrev pub closing_brace : Bool → List ℕ
closing_brace true = codes " }"
closing_brace false = []

-- the specifiers after one that stands in braces, or not
abbrev pub more_specifiers : Bool → List Laid → Piece
more_specifiers named [] = say (closing_brace named)
more_specifiers named (x ∷ xs) = say (specifier_gap named (is_named x.kind)) >> x.at (At alone) >> more_specifiers (is_named x.kind) xs

-- specifiers with commas between; those with names of the module stand in braces
abbrev pub specifiers : List Laid → Piece
specifiers [] = nothing
specifiers (x ∷ xs) = say (opening_brace (is_named x.kind)) >> x.at (At alone) >> more_specifiers (is_named x.kind) xs

abbrev pub from_specifiers : List Laid → Piece
from_specifiers items = say (codes " ") >> specifiers items >> say (codes " from ")

-- what stands between `import` and the source: a blank alone, where nothing is imported by name
abbrev pub imports : List Laid → Piece
imports [] = say (codes " ")
imports (x ∷ xs) = from_specifiers (x ∷ xs)

-- what stands after `export`
abbrev pub exports : List Laid → Piece
exports [] = say (codes "{}")
exports (x ∷ xs) = specifiers (x ∷ xs)

-- a list in its place
abbrev pub listed : List Laid → Place → Piece
listed items Lines = lines items
listed items Deeper = deeper (new_lines items)
listed items Block = block items
listed items (Commas spot) = commas spot items
listed items Arguments = arguments items
listed items Braces = braces items
listed items Brackets = brackets items
listed items Imports = imports items
listed items Exports = exports items
listed items place = nothing

-- the first child in this place, where no other has a text
abbrev pub first_in : Place → List Laid → Piece
first_in place [] = nothing
first_in place (first ∷ others) = first.at place
