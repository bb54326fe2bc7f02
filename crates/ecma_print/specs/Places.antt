-- Where nodes stand.
use Rattle.std.specs.Prelude.{ℕ, Bool, true, false, List, [], codes}
use Rattle.ecma_print.specs.declared.place.Begins.{Begins}
use Rattle.ecma_print.specs.declared.place.Begins.TheVariants.{Anywhere, StatementStart, ArrowBodyStart, DefaultStart}
use Rattle.ecma_print.specs.declared.place.Beside.{Beside}
use Rattle.ecma_print.specs.declared.place.Beside.TheVariants.{NoNeighbor, BeforeDot, BeforeLink, InChain, BehindMinus, BehindPlus}
use Rattle.ecma_print.specs.declared.place.Spot.{Spot}
use Rattle.ecma_print.specs.declared.place.Between.{Between}
use Rattle.ecma_print.specs.declared.place.Between.TheVariants.{Blank, Equals, Extends, From, As, BeforeAs, Attributes, Finally, Else, LineElse, Parentheses}
use Rattle.ecma_print.specs.Precedences as precedence
use Rattle.ecma_print.specs.Pieces.{Piece, nothing, say, ◌>>◌, new_line}

-- where nothing stands around: an expression of a lower precedence stands in parentheses
abbrev pub free : ℕ → Spot
free level = record { level = level; begins = Anywhere; without_in = false; in_callee_of_new = false; beside = NoNeighbor }

-- the same, and any expression goes without parentheses
abbrev pub alone : Spot
alone = free precedence.expression

-- of a part with which the text of what stands here begins
abbrev pub left : Spot → ℕ → Beside → Spot
left spot level beside = record { level = level; begins = spot.begins; without_in = spot.without_in; in_callee_of_new = spot.in_callee_of_new; beside = beside }

-- of a part further on
abbrev pub right : Spot → ℕ → Beside → Spot
right spot level beside = record { level = level; begins = Anywhere; without_in = spot.without_in; in_callee_of_new = false; beside = beside }

-- an expression that begins a text of this kind, maybe in the first part of the head of a loop
abbrev pub beginning : ℕ → Begins → Bool → Spot
beginning level begins without_in = record { level = level; begins = begins; without_in = without_in; in_callee_of_new = false; beside = NoNeighbor }

-- where `{` would open a block
--   ({}).a; () => ({}); b = {};
abbrev pub opens_a_block : Begins → Bool
opens_a_block StatementStart = true
opens_a_block ArrowBodyStart = true
opens_a_block begins = false

-- where `function` and `class` would begin a declaration
--   (function() {})(); a = function() {};
abbrev pub opens_a_declaration : Begins → Bool
opens_a_declaration StatementStart = true
opens_a_declaration DefaultStart = true
opens_a_declaration begins = false

-- an object, a callee or a tag outside an optional chain
--   (a?.b).c; a?.b.c;
abbrev pub ends_a_chain : Beside → Bool
ends_a_chain BeforeDot = true
ends_a_chain BeforeLink = true
ends_a_chain beside = false

-- an object, a callee or a tag
--   (new A).b; c = new A;
abbrev pub is_headed : Beside → Bool
is_headed BeforeDot = true
is_headed BeforeLink = true
is_headed InChain = true
is_headed beside = false

-- what keeps a sign apart from the same sign before it
--   - -a; +-b; + ++c;
abbrev pub gap : Beside → Beside → List ℕ
gap BehindMinus BehindMinus = codes " "
gap BehindPlus BehindPlus = codes " "
gap before sign = []

-- what stands before a child that is there
abbrev pub before : Between → Piece
before Blank = say (codes " ")
before Equals = say (codes " = ")
before Extends = say (codes " extends ")
before From = say (codes " from ")
before As = say (codes " as ")
before BeforeAs = nothing
before Attributes = say (codes " with ")
before Finally = say (codes " finally ")
before Else = say (codes " else ")
before LineElse = new_line >> say (codes "else ")
before Parentheses = say (codes " (")

-- and what stands after it
abbrev pub after : Between → Piece
after BeforeAs = say (codes " as ")
after Parentheses = say (codes ")")
after between = nothing
