use Rattle.std.proofs.Common.{nat_eq}
use Rattle.std.specs.HashMap.{get}
use Rattle.ecma_elide.proofs.Knowing.{one-more}
use Rattle.ecma_elide.proofs.known.add_used.Goals as goal

pub returns : goal.returns
returns c =
    one-more (get nat_eq c.args.used.now.texts) (get nat_eq c.take_texts-texts.new.used.texts) (get nat_eq c.put_texts.new.used.texts) c.args.id.now.1 c.args.id.now.0
    c.take_texts-texts.result c.add_text.new.texts c.take_texts-texts.ensures.texts c.take_texts-texts.ensures.others (c.in_ok-add_text.ensures {u = tt}) (c.in_ok-put_texts.ensures {u = tt})
