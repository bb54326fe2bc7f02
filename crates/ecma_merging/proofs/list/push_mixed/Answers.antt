use Rattle.std.proofs.Common.{◌≡◌, ◌∙◌, ◌≤◌, ◌++◌, Bool, List, [], ◌∷◌, cond, take, length, ap, sym, arith}
use Rattle.ecma_merging.specs.declared.items.Declared.{Declared}
use Rattle.ecma_merging.specs.Merging.{is_mixed, mixed_of}
use Rattle.ecma_merging.proofs.Among.{found-all, found-next}
use Rattle.ecma_merging.proofs.list.push_mixed.Goals as goal

pub loop-i-preserved : goal.loop-i-preserved
loop-i-preserved c =
    let told : c.is_mixed-told.result ≡ is_mixed (take c.loop-i.i c.args.declared.now) c.at-one.result.now =
    c.is_mixed-told.ensures ∙ ap (λ (xs : List Declared). is_mixed (take c.loop-i.i xs) c.at-one.result.now) c.as_slice.ensures in
    found-next is_mixed mixed_of c.args.declared.now c.loop-i.i c.at-one.result.now c.loop-i.findings c.push_if.new.findings c.at-one.ensures
    (c.in_ok-push_if.ensures {u = tt} ∙ ap (λ (b : Bool). c.loop-i.findings ++ cond b (mixed_of c.at-one.result.now ∷ []) []) told)
    ∙ c.loop-i.invariant

pub returns : goal.returns
returns c =
    let all : length c.args.declared.now ≤ c.loop-i.i = omega arith in
    sym (found-all is_mixed mixed_of c.args.declared.now c.loop-i.i c.loop-i.findings all) ∙ c.loop-i.invariant
