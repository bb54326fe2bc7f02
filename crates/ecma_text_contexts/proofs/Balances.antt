-- What the bytes that a grammar takes bring beyond what the nodes that it keeps are worth, or how much they lack.
use Rattle.std.proofs.Common.{◌≡◌, ℕ, ◌+◌, Bool, true, false, ◌&&◌, cond, nat_le, refl}
use Rattle.ecma_kind.specs.declared.operators.BinaryOp.{BinaryOp}
use Rattle.ecma_kind.specs.declared.operators.BinaryOp.TheVariants as binary
use Rattle.ecma_grammar.specs.declared.production.Part.{Part}
use Rattle.ecma_grammar.specs.declared.production.Part.TheVariants as part
use Rattle.ecma_grammar.specs.declared.production.Link.{Link}
use Rattle.ecma_grammar.specs.declared.production.Link.TheVariants as link
use Rattle.ecma_grammar.specs.Grammar.{Grammar, Terminal, nothing, take, keep, put, ◌▸◌, ◌//◌, many, unless, marked, assigned, up, enter, behind, build}
use Rattle.ecma_grammar.specs.PartBodies.{part_body}
use Rattle.ecma_grammar.specs.productions.Modules.{module_body}
use Rattle.ecma_grammar_laws.specs.Takes.{terminal_takes}
use Rattle.ecma_text_leaves.proofs.Productions.{productions}

-- so much is left, and so much is owed
pub record Balance : Type 0 where
  pub left : ℕ
  pub owed : ℕ

abbrev pub brings : ℕ → Balance
brings n = record { left = n; owed = 0 }

abbrev pub owes : ℕ → Balance
owes n = record { left = 0; owed = n }

abbrev pub both : Balance → Balance → Balance
both a b = record { left = a.left + b.left; owed = a.owed + b.owed }

abbrev pub is_least : Balance → Balance → Bool
is_least a b = nat_le (a.left + b.owed) (b.left + a.owed)

abbrev pub least : Balance → Balance → Balance
least a b = cond (is_least a b) a b

-- each byte brings a hundred, and a token has one at least
abbrev pub token_brings : Terminal → Balance
token_brings t = brings (cond (terminal_takes t) 100 0)

abbrev pub part_balance : Part → Balance
part_balance (part.Link link.NonNull) = owes 3
part_balance (part.NewLink link.NonNull) = owes 3
part_balance (part.Assign no_in middle) = brings 60
part_balance part.«Type» = brings 60
part_balance part.TypeOperator = brings 60
part_balance _ = brings 40

-- a node that is kept is worth one, and one that is made at most two more than what it is made of; nothing always stands ahead, so what is read unless it
-- does is never read
abbrev pub balance : Grammar → Balance
balance (take t) = token_brings t
balance (keep l) = brings 99
balance (put f) = owes 1
balance (a ▸ b) = both (balance a) (balance b)
balance (a // b) = least (balance a) (balance b)
balance (unless nothing) = brings 100
balance (marked a) = balance a
balance (assigned a) = balance a
balance (up u) = part_balance u
balance (enter u) = part_balance u
balance (behind t u) = both (token_brings t) (part_balance u)
balance (build f a) = both (balance a) (owes 2)
balance _ = brings 0

-- what is repeated owes nothing
abbrev pub repeats_pay : Grammar → Bool
repeats_pay (a ▸ b) = repeats_pay a && repeats_pay b
repeats_pay (a // b) = repeats_pay a && repeats_pay b
repeats_pay (many a) = repeats_pay a && is_least (brings 0) (balance a)
repeats_pay (marked a) = repeats_pay a
repeats_pay (assigned a) = repeats_pay a
repeats_pay (build f a) = repeats_pay a
repeats_pay _ = true

-- each part pays for what it keeps

abbrev pub part_pays : Part → Bool
part_pays u = repeats_pay (part_body u) && is_least (part_balance u) (balance (part_body u))

assign_pays : (no_in middle : Bool) → part_pays (part.Assign no_in middle) ≡ true
unfolding productions
assign_pays false false = refl
assign_pays true false = refl
assign_pays false true = refl
assign_pays true true = refl

binary_pays : (op : BinaryOp) → part_pays (part.Binary op false) ≡ true
unfolding productions
binary_pays binary.EqEq = refl
binary_pays _ = refl

binary_no_in_pays : (op : BinaryOp) → part_pays (part.Binary op true) ≡ true
unfolding productions
binary_no_in_pays binary.EqEq = refl
binary_no_in_pays _ = refl

link_pays : (l : Link) → part_pays (part.Link l) ≡ true
unfolding productions
link_pays link.Dot = refl
link_pays _ = refl

new_link_pays : (l : Link) → part_pays (part.NewLink l) ≡ true
unfolding productions
new_link_pays link.Dot = refl
new_link_pays _ = refl

pub parts_pay : (u : Part) → part_pays u ≡ true
unfolding productions
parts_pay (part.Assign no_in middle) = assign_pays no_in middle
parts_pay (part.Binary op false) = binary_pays op
parts_pay (part.Binary op true) = binary_no_in_pays op
parts_pay (part.Link l) = link_pays l
parts_pay (part.NewLink l) = new_link_pays l
parts_pay (part.Class false) = refl
parts_pay (part.Class true) = refl
parts_pay (part.As false) = refl
parts_pay (part.As true) = refl
parts_pay (part.Satisfies false) = refl
parts_pay (part.Satisfies true) = refl
parts_pay _ = refl

-- and a module, but for five
pub module_pays : (repeats_pay module_body && is_least (owes 5) (balance module_body)) ≡ true
unfolding productions
module_pays = refl
