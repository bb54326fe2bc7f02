use Rattle.std.proofs.Common.{◌≡◌, drop, map}
use Rattle.ecma_judge.specs.Contexts.{is_among}
use Rattle.ecma_judge.proofs.globals.is_among.Given as goal

-- the words that are left decide
abbrev pub invariant-loop-word : goal.invariant-loop-word
invariant-loop-word l = is_among l.text (map (λ word. word.now) (drop l.word-index l.words)) ≡ is_among l.text (map (λ word. word.now) l.words)
