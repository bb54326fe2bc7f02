use Rattle.std.proofs.Common.{arith, refl, ap, sym, ◌∙◌, ◌++◌, ◌≡◌, ◌+◌, List, ℕ, drop}
use Rattle.ecma_print.specs.Expressions.{substitution, template_parts}
use Rattle.ecma_print.specs.Layout.{laid}
use Rattle.ecma_print.proofs.Parts.{no_part, template_step}
use Rattle.ecma_print.proofs.inside.Inside.template_parts.Goals as goal

pub loop-i-preserved : goal.loop-i-preserved
loop-i-preserved g c rest =
    let margin : List ℕ = c.args.self.now.margin.now in
    let left : List ℕ = template_parts (drop (c.loop-i.i + 1) (laid c.args.quasis.now).parts) (drop (c.loop-i.i + 1) (laid c.args.expressions.now).parts) margin rest in
    c.in_ok-substitution.ensures left ∙ c.in_ok-part.ensures (substitution (drop c.loop-i.i (laid c.args.expressions.now).parts) margin left) ∙ ap (λ z. c.loop-i.out.bytes.items ++ z) (sym (template_step c.args.quasis.now c.args.expressions.now c.loop-i.i (omega arith) margin rest)) ∙ c.loop-i.invariant rest

pub returns : goal.returns
returns g c rest =
    let margin : List ℕ = c.args.self.now.margin.now in
    let done : template_parts (drop c.loop-i.i (laid c.args.quasis.now).parts) (drop c.loop-i.i (laid c.args.expressions.now).parts) margin rest ≡ rest = rw (no_part c.args.quasis.now c.loop-i.i (omega arith)) refl in
    ap (λ z. c.loop-i.out.bytes.items ++ z) (sym done) ∙ c.loop-i.invariant rest
