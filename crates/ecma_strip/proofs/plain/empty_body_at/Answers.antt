use Rattle.ecma_strip.specs.Stripping.{body_of}
use Rattle.ecma_strip.proofs.ChangingAt.{changed_at-within}
use Rattle.ecma_strip.proofs.plain.empty_body_at.Goals as goal

pub returns-then-index-len : goal.returns-then-index-len
returns-then-index-len c =
    changed_at-within c.args.index body_of c.args.children.now c.get_mut.result.now c.empty_body.new.body c.get_mut.ensures.value c.empty_body.ensures
