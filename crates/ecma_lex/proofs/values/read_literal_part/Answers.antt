use Rattle.std.proofs.Common.{◌≡◌, Some, None, rules}
use Rattle.ecma_lex.specs.Values.{literal_part, Joins}
use Rattle.ecma_lex.proofs.Sayings.{read_none, read_some}
use Rattle.ecma_lex.proofs.values.read_literal_part.Goals as goal

pub returns-in_err-joined-clause-value : goal.returns-in_err-joined-clause-value
returns-in_err-joined-clause-value c =
    let part : literal_part c.args.in_template c.args.text.now c.args.at ≡ Some c.in_ok-next.next = search rules in
    let joins : Joins c.args.high c.part_value.result None = search rules in
    let none = read_none c.args.text.now c.args.in_template c.args.high c.part_value.result c.args.at c.in_ok-next.next part c.part_value.ensures.value joins in
    search rules

pub returns-clause-value : goal.returns-clause-value
returns-clause-value c =
    let part : literal_part c.args.in_template c.args.text.now c.args.at ≡ Some c.in_ok-next.next = search rules in
    let joins : Joins c.args.high c.part_value.result (Some c.in_ok-joined.joined) = search rules in
    read_some c.args.text.now c.args.in_template c.args.high c.part_value.result c.in_ok-joined.joined c.args.at c.in_ok-next.next part c.part_value.ensures.value joins
