use Rattle.std.proofs.Common.{◌≡◌, drop}
use Rattle.ts_to_js.specs.Words.{is_among, texts_of}
use Rattle.ts_to_js.proofs.options.is_among.Given as goal

-- the words that are left decide
abbrev pub invariant-loop-other : goal.invariant-loop-other
invariant-loop-other l = is_among (texts_of (drop l.other-index l.words)) l.word ≡ is_among (texts_of l.words) l.word
