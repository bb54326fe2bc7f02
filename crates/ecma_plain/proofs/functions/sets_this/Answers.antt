use Rattle.std.proofs.Common.{◌≡◌, ◌≢◌, ◌∙◌, length, ap, not, arith}
use Rattle.ecma_tree.specs.declared.node.Node.{out-Node}
use Rattle.ecma_plain.proofs.Telling.{setter-four, setter-other}
use Rattle.ecma_plain.proofs.functions.sets_this.Goals as goal

pub returns-then-len-ne4 : goal.returns-then-len-ne4
returns-then-len-ne4 c =
    let other : length (out-Node c.args.node.now).children ≢ 4 = omega arith in
    setter-other (out-Node c.args.node.now).children other

pub returns : goal.returns
returns c =
    let four : length (out-Node c.args.node.now).children ≡ 4 = omega arith in
    ap not c.is_missing_at.ensures ∙ setter-four (out-Node c.args.node.now).children four
