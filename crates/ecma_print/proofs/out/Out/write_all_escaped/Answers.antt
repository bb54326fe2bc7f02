use Rattle.std.proofs.Common.{ap, sym, ◌∙◌, ◌++◌, arith, length, ◌≡◌}
use Rattle.std.proofs.lemmas.Grind.{common_steps}
use Rattle.ecma_print.specs.Escapes.{escaped, behind_unit}
use Rattle.ecma_print.proofs.Escaping.{escaped-none, escaped-front}
use Rattle.ecma_print.proofs.out.Out.write_all_escaped.Goals as goal

pub loop-left-preserved : goal.loop-left-preserved
loop-left-preserved c rest =
    rw c.in_ok-left.ensures.1
    (c.in_ok-left.ensures.0 (escaped (behind_unit c.loop-left.left.now) ++ rest) ∙ ap (λ z. c.loop-left.self.bytes.items ++ z) (sym (escaped-front c.loop-left.left.now rest)) ∙ c.loop-left.invariant rest)

pub returns : goal.returns
returns c rest =
    let none : length c.loop-left.left.now ≡ 0 = grind (arith, common_steps) in
    ap (λ z. c.loop-left.self.bytes.items ++ (z ++ rest)) (sym (escaped-none c.loop-left.left.now none)) ∙ c.loop-left.invariant rest
