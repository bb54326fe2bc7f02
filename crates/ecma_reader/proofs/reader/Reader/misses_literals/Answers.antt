use Rattle.std.proofs.Common.{refl}
use Rattle.ecma_reader.proofs.reader.Reader.misses_literals.Goals as goal

pub returns : goal.returns
returns c = λ _. record { no_this = c.if-not-misses_word.ensures refl; no_null = c.if-not-misses_word-2.ensures refl; no_true = c.if-not-misses_word-3.ensures refl; no_false = c.if-not-misses_word-4.ensures refl }
