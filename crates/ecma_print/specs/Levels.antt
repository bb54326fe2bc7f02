-- Which expressions stand in parentheses.
use Rattle.std.specs.Prelude.{ℕ, Bool, true, false, List, [], ◌∷◌, ◌&&◌, ◌||◌, ltb}
use Rattle.ecma_kind.specs.declared.kind.Kind.{Kind}
use Rattle.ecma_kind.specs.declared.kind.Kind.TheVariants.{SeqExpr, AssignExpr, ArrowExpr, YieldExpr, CondExpr, BinExpr, UnaryExpr, AwaitExpr, UpdateExpr, CallExpr, OptChainExpr, NewExpr, Number, ObjectLit, FnExpr, ClassExpr}
use Rattle.ecma_kind.specs.declared.operators.BinaryOp.{BinaryOp}
use Rattle.ecma_kind.specs.declared.operators.BinaryOp.TheVariants.{In, LogicalOr, LogicalAnd, NullishCoalescing}
use Rattle.ecma_print.specs.declared.place.Beside.{Beside}
use Rattle.ecma_print.specs.declared.place.Beside.TheVariants.{BeforeDot, UnderNullish, UnderLogical}
use Rattle.ecma_print.specs.declared.place.Spot.{Spot}
use Rattle.ecma_print.specs.Precedences as precedence
use Rattle.ecma_print.specs.Places.{opens_a_block, opens_a_declaration, ends_a_chain, is_headed}
use Rattle.ecma_print.specs.Operators.{binary_level}
use Rattle.ecma_print.specs.Laid.{Laid, is_absent, is_object_pattern}

-- the precedence of an expression
abbrev pub level_of : Kind → ℕ
level_of SeqExpr = precedence.expression
level_of (AssignExpr op) = precedence.assignment
level_of (ArrowExpr is_async is_generator) = precedence.assignment
level_of (YieldExpr delegate) = precedence.assignment
level_of CondExpr = precedence.conditional
level_of (BinExpr op) = binary_level op
level_of (UnaryExpr op) = precedence.unary
level_of AwaitExpr = precedence.unary
level_of (UpdateExpr op prefix) = precedence.update
level_of CallExpr = precedence.left_hand_side
level_of (OptChainExpr optional) = precedence.left_hand_side
level_of kind = precedence.member

-- `in` would end the first part of the head of a loop; `??` does not go with `||` and `&&`
--   for (let a = (b in c);;) {}
--   (a ?? b) || c; a ?? (b && c);
abbrev pub clashes : BinaryOp → Spot → Beside → Bool
clashes In spot beside = spot.without_in
clashes LogicalOr spot UnderNullish = true
clashes LogicalAnd spot UnderNullish = true
clashes NullishCoalescing spot UnderLogical = true
clashes op spot beside = false

-- a number before a `.` would take it as its own
--   (1).a; 1[a];
abbrev pub is_before_dot : Beside → Bool
is_before_dot BeforeDot = true
is_before_dot beside = false

-- `new` without arguments would take those of what stands around
--   (new A).b; new A().c;
abbrev pub lacks_arguments : List Laid → Bool
lacks_arguments (callee ∷ args ∷ type_args ∷ []) = is_absent args.kind
lacks_arguments children = false

--   ({ a } = b); [c] = d;
abbrev pub begins_with_brace : List Laid → Bool
begins_with_brace (target ∷ value ∷ []) = is_object_pattern target.kind
begins_with_brace children = false

-- what would be read as something else, whatever its precedence
--   (function() {})(); ({}).a; new (b())();
--   () => ({}); export default (class {});
abbrev pub is_misread : Kind → List Laid → Spot → Bool
is_misread (BinExpr op) children spot = clashes op spot spot.beside
is_misread (OptChainExpr optional) children spot = ends_a_chain spot.beside
is_misread CallExpr children spot = spot.in_callee_of_new
is_misread NewExpr children spot = is_headed spot.beside && lacks_arguments children
is_misread (Number value raw) children spot = is_before_dot spot.beside
is_misread ObjectLit children spot = opens_a_block spot.begins
is_misread (AssignExpr op) children spot = opens_a_block spot.begins && begins_with_brace children
is_misread FnExpr children spot = opens_a_declaration spot.begins
is_misread ClassExpr children spot = opens_a_declaration spot.begins
is_misread kind children spot = false

--   (a + b) * c; a * b + c;
--   (a, b) ? c : (d, e);
abbrev pub in_parentheses : Kind → List Laid → Spot → Bool
in_parentheses kind children spot = ltb (level_of kind) spot.level || is_misread kind children spot
