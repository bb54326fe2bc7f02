use Rattle.std.proofs.Common.{◌≡◌, ◌∙◌, ◌+◌, Bool, length, drop, filter, sym, ap, arith}
use Rattle.ecma_tree.specs.declared.node.Node.{out-Node}
use Rattle.ecma_rules.specs.Members.{is_full_constructor}
use Rattle.ecma_rules.proofs.Seconds.{second-found, second-next, second-none, second_behind}
use Rattle.ecma_rules.proofs.members.second_member.Goals as goal

pub returns-then-both : goal.returns-then-both
returns-then-both c =
    second-found (out-Node c.args.list.now).children c.loop-i.i c.loop-i.is_seen c.is_full_constructor-is_full.result c.at-member.result.now c.at-member.ensures c.is_full_constructor-is_full.ensures
    (sym c.both.ensures ∙ c.if-both.true) ∙ c.loop-i.invariant

pub loop-i-preserved : goal.loop-i-preserved
loop-i-preserved c =
    ap (λ (b : Bool). second_behind b (filter is_full_constructor (drop (c.loop-i.i + 1) (out-Node c.args.list.now).children))) c.either-is_seen.ensures
    ∙ second-next (out-Node c.args.list.now).children c.loop-i.i c.loop-i.is_seen c.is_full_constructor-is_full.result c.at-member.result.now c.at-member.ensures c.is_full_constructor-is_full.ensures
    (sym c.both.ensures ∙ c.if-both.false) ∙ c.loop-i.invariant

pub returns : goal.returns
returns c =
    let all : length (out-Node c.args.list.now).children ≡ c.loop-i.i = omega arith in
    sym (second-none c.loop-i.is_seen (out-Node c.args.list.now).children c.loop-i.i all) ∙ c.loop-i.invariant
