use Rattle.std.proofs.Common.{refl, sym, subst}
use Rattle.ecma_reader.specs.Agreement.{Keeps, parts_in}
use Rattle.ecma_reader.specs.Operands.{OperandOr}
use Rattle.ecma_reader.proofs.Tails.{operand-keeps, stood-keeps}
use Rattle.ecma_reader.proofs.machine.+levels.Goals as goal

pub returns-in-Some : goal.returns-in-Some
returns-in-Some t c =
    subst (λ p. Keeps c.args.reader.now c.read_behind.new.reader c.read_behind.result (parts_in c.args.reader.now c.args.left p c.args.at)) (sym c.in-Assign.is)
    (stood-keeps c.args.reader.now c.go_in.new.self c.read_behind.new.reader c.read_behind.result c.args.left _ c.args.at c.go_in.ensures.text c.go_in.ensures.position c.go_in.ensures.kept
    (operand-keeps c.go_in.new.self c.keep_operand.new.self c.read_behind.new.reader c.in-Some.operand c.read_behind.result c.args.left _ c.args.at c.in-Assign.no_in c.in-Assign.middle c.if-left-eq0.false refl
    (subst (λ found. OperandOr c.go_in.new.self c.keep_operand.new.self found) c.in-Some.is c.in_ok-operand.ensures.operand) c.keep_operand.ensures.text c.read_behind.ensures))
