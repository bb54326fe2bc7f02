use Rattle.std.proofs.Common.{◌≡◌, drop}
use Rattle.std.specs.List.{list_any}
use Rattle.ts_to_js.specs.Words.{is_assignment, texts_of}
use Rattle.ts_to_js.proofs.options.has_assignment.Given as goal

-- the words that are left decide
abbrev pub invariant-loop-word : goal.invariant-loop-word
invariant-loop-word l = list_any is_assignment (texts_of (drop l.word-index l.words)) ≡ list_any is_assignment (texts_of l.words)
