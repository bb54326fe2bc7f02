use Rattle.std.proofs.Common.{◌≡◌, drop, take}
use Rattle.ts_to_js.specs.Words.{bad_behind, bad_word, texts_of}
use Rattle.ts_to_js.proofs.options.bad_word.Given as goal

-- the words that are left decide
abbrev pub invariant-loop-i : goal.invariant-loop-i
invariant-loop-i l = bad_behind (texts_of (take l.i l.words)) (texts_of (drop l.i l.words)) ≡ bad_word l.words
