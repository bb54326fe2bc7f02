use Rattle.ecma_leaves.proofs.Characters.{cuts_front}
use Rattle.ecma_leaves.proofs.templates.stands_in_template.Goals as goal

pub template_characters_end-requires-clause-cut : goal.template_characters_end-requires-clause-cut
template_characters_end-requires-clause-cut c = cuts_front c.args.text.now c.utf8.text
