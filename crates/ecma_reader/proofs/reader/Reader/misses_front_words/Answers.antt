use Rattle.std.proofs.Common.{refl}
use Rattle.ecma_reader.proofs.reader.Reader.misses_front_words.Goals as goal

pub returns : goal.returns
returns c = λ _. record {
  no_async = c.if-not-misses_word.ensures refl;
  no_yield = c.if-not-misses_word-2.ensures refl;
  no_delete = c.if-not-misses_word-3.ensures refl;
  no_void = c.if-not-misses_word-4.ensures refl;
  no_typeof = c.if-not-misses_word-5.ensures refl;
  no_await = c.if-not-misses_word-6.ensures refl;
  no_super = c.if-not-misses_word-7.ensures refl;
  no_import = c.if-not-misses_word-8.ensures refl;
  no_new = c.if-not-misses_word-9.ensures refl;
  no_function = c.if-not-misses_word-10.ensures refl;
  no_class = c.if-not-misses_word-11.ensures refl;
}
