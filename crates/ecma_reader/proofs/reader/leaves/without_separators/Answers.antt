use Rattle.std.proofs.lemmas.Iterator.{YieldsList-from_chars}
use Rattle.std.proofs.lemmas.Iterator.Consumers.{YieldsList-end}
use Rattle.ecma_grammar.proofs.Steps.{spelled-all}
use Rattle.ecma_reader.proofs.reader.leaves.without_separators.Goals as goal

pub returns : goal.returns
returns c =
    let t = YieldsList-end (YieldsList-from_chars c.args.digits.now c.utf8.digits cc) c.loop-character.yielded _ c.loop-character.yielded_by _ _ c.in-None.is c.next.ensures.steps in
    spelled-all _ c.args.digits.now c.loop-character.yielded c.loop-character.invariant t.0
