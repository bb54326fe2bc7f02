use Rattle.std.proofs.Common.{◌≡◌, drop}
use Rattle.ecma_hygiene.specs.Ids.{Id}
use Rattle.ecma_hygiene.specs.Kept.{texts_in}
use Rattle.ecma_hygiene.specs.Texts.{last_text, text_in}
use Rattle.ecma_hygiene.proofs.rename.text_map.Given as goal

-- what the others give, and before these what is there
abbrev pub invariant-loop-named : goal.invariant-loop-named
invariant-loop-named l = (id : Id) → last_text (drop l.named-index l.named-items) id (texts_in l.texts id) ≡ text_in l.names id
