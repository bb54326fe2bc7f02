-- Precedences: how tight an expression binds, by the names of ECMAScript's productions (13). A greater one binds tighter, and an expression stands
-- in parentheses where its place asks for a greater one than its own.
use Rattle.std.specs.Prelude.{ℕ}

--   a, b
abbrev pub expression : ℕ
expression = 0

--   a = b; (a) => b; yield a
abbrev pub assignment : ℕ
assignment = 1

--   a ? b : c
abbrev pub conditional : ℕ
conditional = 2

--   a ?? b; a || b
abbrev pub short_circuit : ℕ
short_circuit = 3

--   a && b
abbrev pub logical_and : ℕ
logical_and = 4

--   a | b
abbrev pub bitwise_or : ℕ
bitwise_or = 5

--   a ^ b
abbrev pub bitwise_xor : ℕ
bitwise_xor = 6

--   a & b
abbrev pub bitwise_and : ℕ
bitwise_and = 7

--   a === b
abbrev pub equality : ℕ
equality = 8

--   a < b; a in b; a instanceof b
abbrev pub relational : ℕ
relational = 9

--   a << b
abbrev pub shift : ℕ
shift = 10

--   a + b
abbrev pub additive : ℕ
additive = 11

--   a * b
abbrev pub multiplicative : ℕ
multiplicative = 12

--   a ** b
abbrev pub exponentiation : ℕ
exponentiation = 13

--   -a; typeof a; await a
abbrev pub unary : ℕ
unary = 14

--   ++a; a++
abbrev pub update : ℕ
update = 15

-- a call or an optional chain
--   a(b); a?.b
abbrev pub left_hand_side : ℕ
left_hand_side = 16

-- and what else stands as the callee of `new`: members, constructions and primary expressions
--   a.b; new a(b); (a); [a]
abbrev pub member : ℕ
member = 17
