use Rattle.std.proofs.Common.{◌≡◌, ◌++◌, drop, List, ℕ}
use Rattle.ecma_hygiene.specs.declared.naming.Named.{Named}
use Rattle.ecma_hygiene.specs.Sets.{has_text}
use Rattle.ecma_hygiene.specs.Texts.{GetTexts, had_with}
use Rattle.ecma_hygiene.proofs.texts.get_texts.Given as goal

-- with texts for the others all have theirs
abbrev pub invariant-loop-i : goal.invariant-loop-i
invariant-loop-i l = record {
  names : (others : List Named) → GetTexts l.may_keep (has_text l.had) (drop l.i l.ids) others → GetTexts l.may_keep (has_text l.fn.had) l.ids (l.names ++ others);
  had : (text : List ℕ) → has_text l.had text ≡ had_with l.names (has_text l.fn.had) text;
}
