-- How much a grammar says: what a production names says as much as the production of that name.
use Rattle.std.proofs.Common.{ℕ, ◌+◌, ◌*◌, ◌<◌, ◌≤◌, Bool, true, false, if◌then◌else◌, arith}
use Rattle.ecma_grammar.specs.declared.production.Production.{Production}
use Rattle.ecma_grammar.specs.Grammar as grammar
use Rattle.ecma_grammar.specs.Grammar.{Grammar}
use Rattle.ecma_grammar.specs.Written.{written, is_name}

abbrev pub size : Grammar → ℕ
size (grammar.◌▸◌ a b) = size a + size b + 1
size (grammar.◌//◌ a b) = size a + size b + 1
size (grammar.many a) = size a + 1
size (grammar.ahead a) = size a + 1
size (grammar.unless a) = size a + 1
size (grammar.marked a) = size a + 1
size (grammar.assigned a) = size a + 1
size (grammar.build f a) = size a + 1
size g = 1

-- a name counts for one more
abbrev pub left_to_read : Production → ℕ
left_to_read p = size (written p) * 2 + (if is_name p then 1 else 0)

name_counts : (b : Bool) → (if b then 1 else 0) ≤ 1
name_counts true = omega arith
name_counts false = omega arith

-- what says less leaves less to read
pub less-left : (p q : Production) → size (written q) < size (written p) → left_to_read q < left_to_read p
less-left p q less = omega (arith, less, name_counts (is_name q))

pub says-less : (p q : Production) → size (written q) < size (written p) → left_to_read q ≤ left_to_read p
says-less p q less = omega (arith, name_counts (is_name q))
