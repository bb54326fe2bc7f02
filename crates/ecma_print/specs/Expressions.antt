-- The layout of expressions (ECMAScript, 13).
use Rattle.std.specs.Prelude.{ℕ, Bool, true, false, List, [], ◌∷◌, codes}
use Rattle.ecma_kind.specs.declared.kind.Kind.{Kind}
use Rattle.ecma_kind.specs.declared.kind.Kind.TheVariants.{ThisExpr, Super, Import, ArrayLit, ObjectLit, SpreadElement, UnaryExpr, UpdateExpr, BinExpr, AssignExpr, CondExpr, MemberExpr, SuperPropExpr, CallExpr, NewExpr, OptChainExpr, OptCall, SeqExpr, Tpl, TaggedTpl, YieldExpr, AwaitExpr, MetaPropExpr, ParenExpr}
use Rattle.ecma_kind.specs.declared.operators.UnaryOp.{UnaryOp}
use Rattle.ecma_kind.specs.declared.operators.UpdateOp.{UpdateOp}
use Rattle.ecma_kind.specs.declared.operators.BinaryOp.{BinaryOp}
use Rattle.ecma_kind.specs.declared.operators.AssignOp.{AssignOp}
use Rattle.ecma_kind.specs.declared.operators.MetaPropKind.{MetaPropKind}
use Rattle.ecma_kind.specs.declared.operators.MetaPropKind.TheVariants.{NewTarget, ImportMeta}
use Rattle.ecma_print.specs.declared.place.Begins.TheVariants.{Anywhere}
use Rattle.ecma_print.specs.declared.place.Beside.{Beside}
use Rattle.ecma_print.specs.declared.place.Beside.TheVariants.{NoNeighbor, BeforeDot, BeforeLink, InChain, OfLink, OfOptionalLink}
use Rattle.ecma_print.specs.declared.place.Spot.{Spot}
use Rattle.ecma_print.specs.declared.place.Between.TheVariants.{Blank}
use Rattle.ecma_print.specs.declared.place.Place.TheVariants.{At, Within, Key, Arguments, Braces, Brackets}
use Rattle.ecma_print.specs.Precedences as precedence
use Rattle.ecma_print.specs.Pieces.{Piece, nothing, say, ◌>>◌}
use Rattle.ecma_print.specs.Places.{alone, free, left, right, gap}
use Rattle.ecma_print.specs.Operators.{unary_word, unary_sign, update_word, update_sign, binary_word, left_level, right_level, under, assign_word}
use Rattle.ecma_print.specs.Laid.{Laid, is_computed}
use Rattle.ecma_print.specs.Lists.{first_in}

--   typeof a; !(a + b); - -c;
abbrev pub unary : UnaryOp → List Laid → Spot → Piece
unary op (operand ∷ []) spot = say (gap spot.beside (unary_sign op)) >> say (unary_word op) >> operand.at (At (right spot precedence.unary (unary_sign op)))
unary op children spot = nothing

--   ++a; b--;
abbrev pub update : UpdateOp → Bool → List Laid → Spot → Piece
update op true (operand ∷ []) spot =
    say (gap spot.beside (update_sign op)) >> say (update_word op) >> operand.at (At (right spot precedence.left_hand_side (update_sign op)))
update op false (operand ∷ []) spot = operand.at (At (left spot precedence.left_hand_side NoNeighbor)) >> say (update_word op)
update op prefix children spot = nothing

--   a + b * c; (a + b) * c;
abbrev pub binary : BinaryOp → List Laid → Spot → Piece
binary op (first ∷ second ∷ []) spot = first.at (At (left spot (left_level op) (under op))) >> say (binary_word op) >> second.at (At (right spot (right_level op) (under op)))
binary op children spot = nothing

--   a = b += c; d = (e, f);
abbrev pub assignment : AssignOp → List Laid → Spot → Piece
assignment op (target ∷ value ∷ []) spot =
    target.at (At (left spot precedence.left_hand_side NoNeighbor)) >> say (assign_word op) >> value.at (At (right spot precedence.assignment NoNeighbor))
assignment op children spot = nothing

--   a ? b : c ? d : e; (a ? b : c) ? d : e;
abbrev pub conditional : List Laid → Spot → Piece
conditional (test ∷ first ∷ second ∷ []) spot =
    test.at (At (left spot precedence.short_circuit NoNeighbor)) >> say (codes " ? ")
    >> first.at (At (right spot precedence.assignment NoNeighbor)) >> say (codes " : ")
    >> second.at (At (right spot precedence.assignment NoNeighbor))
conditional children spot = nothing

-- what an object is beside a key, outside an optional chain
abbrev pub before_key : Bool → Beside
before_key true = BeforeLink
before_key false = BeforeDot

-- what an object is, where this link stands in an optional chain or not
--   (a?.b).c; a?.b.c; (1).d;
abbrev pub object_beside : Beside → Bool → Beside
object_beside OfLink computed = InChain
object_beside OfOptionalLink computed = InChain
object_beside beside computed = before_key computed

-- whether a link has its own `?.`
abbrev pub is_optional : Beside → Bool
is_optional OfOptionalLink = true
is_optional beside = false

abbrev pub member : List Laid → Spot → Piece
member (object ∷ key ∷ []) spot =
    object.at (At (left spot precedence.left_hand_side (object_beside spot.beside (is_computed key.kind)))) >> key.at (Key (is_optional spot.beside))
member children spot = nothing

abbrev pub super_member : List Laid → Piece
super_member (object ∷ key ∷ []) = object.at (At alone) >> key.at (Key false)
super_member children = nothing

--   a(b, (c, d)); (() => e)();
abbrev pub call : List Laid → Spot → Piece
call (callee ∷ args ∷ type_args ∷ []) spot = callee.at (At (left spot precedence.left_hand_side BeforeLink)) >> args.at Arguments
call children spot = nothing

abbrev pub question_dot : Bool → List ℕ
question_dot true = codes "?."
question_dot false = []

abbrev pub chained_call : List Laid → Spot → Piece
chained_call (callee ∷ args ∷ type_args ∷ []) spot =
    callee.at (At (left spot precedence.left_hand_side InChain)) >> say (question_dot (is_optional spot.beside)) >> args.at Arguments
chained_call children spot = nothing

-- in the callee of `new` a call stands in parentheses
--   new (a())(); new (a()).b();
abbrev pub callee_spot : Spot → Spot
callee_spot spot = record { level = precedence.member; begins = Anywhere; without_in = spot.without_in; in_callee_of_new = true; beside = BeforeLink }

abbrev pub construction : List Laid → Spot → Piece
construction (callee ∷ args ∷ type_args ∷ []) spot = say (codes "new ") >> callee.at (At (callee_spot spot)) >> args.at Arguments
construction children spot = nothing

abbrev pub link_of : Bool → Beside
link_of true = OfOptionalLink
link_of false = OfLink

abbrev pub chain : Bool → List Laid → Spot → Piece
chain optional (base ∷ []) spot = base.at (At (left spot precedence.expression (link_of optional)))
chain optional children spot = nothing

abbrev pub more_of_sequence : List Laid → Spot → Piece
more_of_sequence [] spot = nothing
more_of_sequence (x ∷ xs) spot = say (codes ", ") >> x.at (At (right spot precedence.assignment NoNeighbor)) >> more_of_sequence xs spot

--   a, (b, c), d = e;
abbrev pub sequence : List Laid → Spot → Piece
sequence [] spot = nothing
sequence (x ∷ xs) spot = x.at (At (left spot precedence.assignment NoNeighbor)) >> more_of_sequence xs spot

-- an expression in `${` and `}`, if there is one
abbrev pub substitution : List Piece → Piece
substitution [] = nothing
substitution (e ∷ es) = say (codes "${") >> e >> say (codes "}")

abbrev pub others : List Piece → List Piece
others [] = []
others (e ∷ es) = es

-- texts, and after each an expression
abbrev pub template_parts : List Piece → List Piece → Piece
template_parts [] expressions = nothing
template_parts (q ∷ quasis) expressions = q >> substitution expressions >> template_parts quasis (others expressions)

abbrev pub first_piece : List Piece → Piece
first_piece [] = nothing
first_piece (p ∷ ps) = p

abbrev pub template : List Laid → Piece
template (expressions ∷ quasis ∷ []) = say (codes "`") >> template_parts quasis.parts expressions.parts >> say (codes "`")
template children = nothing

abbrev pub tagged : List Laid → Spot → Piece
tagged (tag ∷ type_args ∷ text ∷ []) spot = tag.at (At (left spot precedence.left_hand_side BeforeLink)) >> text.at (At alone)
tagged children spot = nothing

abbrev pub yield_word : Bool → List ℕ
yield_word true = codes "yield*"
yield_word false = codes "yield"

--   function* f() { yield a; b + (yield c); }
abbrev pub yielding : Bool → List Laid → Spot → Piece
yielding delegate (argument ∷ []) spot = say (yield_word delegate) >> argument.at (Within Blank (right spot precedence.assignment NoNeighbor))
yielding delegate children spot = nothing

abbrev pub awaiting : List Laid → Spot → Piece
awaiting (operand ∷ []) spot = say (codes "await ") >> operand.at (At (right spot precedence.unary NoNeighbor))
awaiting children spot = nothing

abbrev pub meta_word : MetaPropKind → List ℕ
meta_word NewTarget = codes "new.target"
meta_word ImportMeta = codes "import.meta"

abbrev pub parenthesized : List Laid → Piece
parenthesized (expression ∷ []) = say (codes "(") >> expression.at (At alone) >> say (codes ")")
parenthesized children = nothing

abbrev pub spread : List Laid → Piece
spread (expression ∷ []) = say (codes "...") >> expression.at (At (free precedence.assignment))
spread children = nothing

-- expressions with operators; other nodes have no such text
abbrev pub operation : Kind → List Laid → Spot → Piece
operation (UnaryExpr op) children spot = unary op children spot
operation (UpdateExpr op prefix) children spot = update op prefix children spot
operation (BinExpr op) children spot = binary op children spot
operation (AssignExpr op) children spot = assignment op children spot
operation CondExpr children spot = conditional children spot
operation SeqExpr children spot = sequence children spot
operation (YieldExpr delegate) children spot = yielding delegate children spot
operation AwaitExpr children spot = awaiting children spot
operation kind children spot = nothing

-- members, calls and templates
abbrev pub link : Kind → List Laid → Spot → Piece
link MemberExpr children spot = member children spot
link SuperPropExpr children spot = super_member children
link CallExpr children spot = call children spot
link NewExpr children spot = construction children spot
link (OptChainExpr optional) children spot = chain optional children spot
link OptCall children spot = chained_call children spot
link Tpl children spot = template children
link TaggedTpl children spot = tagged children spot
link kind children spot = nothing

-- all else that is an expression by itself, or a part of one
abbrev pub primary : Kind → List Laid → Piece
primary ThisExpr children = say (codes "this")
primary Super children = say (codes "super")
primary Import children = say (codes "import")
primary (MetaPropExpr kind) children = say (meta_word kind)
primary ParenExpr children = parenthesized children
primary SpreadElement children = spread children
primary ArrayLit children = first_in Brackets children
primary ObjectLit children = first_in Braces children
primary kind children = nothing
