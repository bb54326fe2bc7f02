use Rattle.std.proofs.Common.{◌≡◌, ◌∙◌, ◌+◌, List, ℕ, true, false, sym, bytes_eq, arith}
use Rattle.std.specs.HashSet.{contains}
use Rattle.ecma_exports.specs.Exports.{is_among}
use Rattle.ecma_exports.proofs.Among.{found, passed}
use Rattle.ecma_exports.proofs.check.first_among.Goals as goal

pub returns-then-contains : goal.returns-then-contains
returns-then-contains c =
    let asked = c.requires c.at.result.now in
    let told = c.contains.ensures in
    let is_there = c.if-contains.true in
    let is : is_among c.args.others.now c.at.result.now ≡ true = first_of (cc, grind arith) in
    sym (c.in_ok-name.ensures {u = tt}) ∙ c.at.ensures ∙ sym (found c.args.others.now c.args.names.now c.loop-i.i c.at.result.now c.at.ensures c.loop-i.invariant is)

pub loop-i-preserved : goal.loop-i-preserved
loop-i-preserved c =
    let asked = c.requires c.at.result.now in
    let told = c.contains.ensures in
    let is_not = c.if-contains.false in
    let is : is_among c.args.others.now c.at.result.now ≡ false = first_of (cc, grind arith) in
    passed c.args.others.now c.args.names.now c.loop-i.i c.at.result.now c.at.ensures c.loop-i.invariant is
