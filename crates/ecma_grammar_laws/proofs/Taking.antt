-- The parts that take a token do so, and what is repeated takes one: each is computed from the productions.
use Rattle.std.proofs.Common.{◌≡◌, Bool, true, false, refl}
use Rattle.std.specs.List.{list_all}
use Rattle.ecma_kind.specs.declared.operators.BinaryOp.{BinaryOp}
use Rattle.ecma_kind.specs.declared.operators.BinaryOp.TheVariants as binary
use Rattle.ecma_grammar.specs.declared.production.Part.{Part}
use Rattle.ecma_grammar.specs.declared.production.Part.TheVariants as part
use Rattle.ecma_grammar.specs.declared.production.Link.{Link}
use Rattle.ecma_grammar.specs.declared.production.Link.TheVariants as link
use Rattle.ecma_grammar.specs.Grammar.{Grammar}
use Rattle.ecma_grammar.specs.PartBodies.{part_body}
use Rattle.ecma_grammar.specs.productions.Modules.{module_body}
use Rattle.ecma_grammar_laws.specs.Takes.{takes, part_takes, repeated}
use Rattle.ecma_grammar_laws.proofs.Productions.{productions}

-- a grammar whose repetitions take a token each
abbrev repetitions_take : Grammar → Bool
repetitions_take g = list_all takes (repeated g)

pub module_repeats : repetitions_take module_body ≡ true
unfolding productions
module_repeats = refl

assign_takes : (no_in middle : Bool) → takes (part_body (part.Assign no_in middle)) ≡ true
unfolding productions
assign_takes false false = refl
assign_takes true false = refl
assign_takes false true = refl
assign_takes true true = refl

binary_takes : (op : BinaryOp) → takes (part_body (part.Binary op false)) ≡ true
unfolding productions
binary_takes binary.EqEq = refl
binary_takes _ = refl

binary_no_in_takes : (op : BinaryOp) → takes (part_body (part.Binary op true)) ≡ true
unfolding productions
binary_no_in_takes binary.EqEq = refl
binary_no_in_takes _ = refl

link_takes : (l : Link) → part_takes (part.Link l) ≡ true → takes (part_body (part.Link l)) ≡ true
unfolding productions
link_takes link.NonNull h = cc
link_takes _ h = refl

new_link_takes : (l : Link) → part_takes (part.NewLink l) ≡ true → takes (part_body (part.NewLink l)) ≡ true
unfolding productions
new_link_takes link.NonNull h = cc
new_link_takes _ h = refl

pub parts_take : (u : Part) → part_takes u ≡ true → takes (part_body u) ≡ true
unfolding productions
parts_take (part.Assign no_in middle) h = assign_takes no_in middle
parts_take (part.Binary op false) h = binary_takes op
parts_take (part.Binary op true) h = binary_no_in_takes op
parts_take (part.Link l) h = link_takes l h
parts_take (part.NewLink l) h = new_link_takes l h
parts_take (part.Class false) h = refl
parts_take (part.Class true) h = refl
parts_take (part.As no_in) h = refl
parts_take (part.Satisfies no_in) h = refl
parts_take _ h = refl

assign_repeat : (no_in middle : Bool) → repetitions_take (part_body (part.Assign no_in middle)) ≡ true
unfolding productions
assign_repeat false false = refl
assign_repeat true false = refl
assign_repeat false true = refl
assign_repeat true true = refl

binary_repeat : (op : BinaryOp) → repetitions_take (part_body (part.Binary op false)) ≡ true
unfolding productions
binary_repeat binary.EqEq = refl
binary_repeat _ = refl

binary_no_in_repeat : (op : BinaryOp) → repetitions_take (part_body (part.Binary op true)) ≡ true
unfolding productions
binary_no_in_repeat binary.EqEq = refl
binary_no_in_repeat _ = refl

link_repeat : (l : Link) → repetitions_take (part_body (part.Link l)) ≡ true
unfolding productions
link_repeat link.Dot = refl
link_repeat _ = refl

new_link_repeat : (l : Link) → repetitions_take (part_body (part.NewLink l)) ≡ true
unfolding productions
new_link_repeat link.Dot = refl
new_link_repeat _ = refl

pub parts_repeat : (u : Part) → repetitions_take (part_body u) ≡ true
unfolding productions
parts_repeat (part.Assign no_in middle) = assign_repeat no_in middle
parts_repeat (part.Binary op false) = binary_repeat op
parts_repeat (part.Binary op true) = binary_no_in_repeat op
parts_repeat (part.Link l) = link_repeat l
parts_repeat (part.NewLink l) = new_link_repeat l
parts_repeat (part.Class false) = refl
parts_repeat (part.Class true) = refl
parts_repeat (part.As false) = refl
parts_repeat (part.As true) = refl
parts_repeat (part.Satisfies false) = refl
parts_repeat (part.Satisfies true) = refl
parts_repeat _ = refl
