use Rattle.std.proofs.Common.{◌≡◌, ◌∙◌, ◌≤◌, ◌++◌, Bool, List, [], ◌∷◌, cond, take, length, ap, sym, arith}
use Rattle.ecma_merging.specs.declared.given.Given.{Given}
use Rattle.ecma_merging.specs.Merging.{is_twice, twice_of}
use Rattle.ecma_merging.proofs.Among.{found-all, found-next}
use Rattle.ecma_merging.proofs.list.push_twice.Goals as goal

pub loop-i-preserved : goal.loop-i-preserved
loop-i-preserved c =
    let told : c.is_twice-told.result ≡ is_twice (take c.loop-i.i c.args.given.now) c.at-one.result.now =
    c.is_twice-told.ensures ∙ ap (λ (xs : List Given). is_twice (take c.loop-i.i xs) c.at-one.result.now) c.as_slice.ensures in
    found-next is_twice twice_of c.args.given.now c.loop-i.i c.at-one.result.now c.loop-i.findings c.push_if.new.findings c.at-one.ensures
    (c.in_ok-push_if.ensures {u = tt} ∙ ap (λ (b : Bool). c.loop-i.findings ++ cond b (twice_of c.at-one.result.now ∷ []) []) told)
    ∙ c.loop-i.invariant

pub returns : goal.returns
returns c =
    let all : length c.args.given.now ≤ c.loop-i.i = omega arith in
    sym (found-all is_twice twice_of c.args.given.now c.loop-i.i c.loop-i.findings all) ∙ c.loop-i.invariant
