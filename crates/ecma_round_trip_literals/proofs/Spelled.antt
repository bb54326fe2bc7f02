-- With the source text that is written for it, a literal is spelled as without.
use Rattle.std.proofs.Common.{Some, None}
use Rattle.ecma_kind.specs.declared.kind.Kind.TheVariants as kind
use Rattle.ecma_round_trip_literals.specs.Laws.{WritableLiteralsKeepSpelling}
use Rattle.ecma_round_trip_literals.proofs.Numerals.{written_big_ints_are_spelled, written_numbers_are_spelled}
use Rattle.ecma_round_trip_literals.proofs.Texts.{written_texts_are_spelled}

pub writable_literals_keep_spelling : WritableLiteralsKeepSpelling
writable_literals_keep_spelling (kind.Str value None) h tagged is = written_texts_are_spelled value h.0 h.1
writable_literals_keep_spelling (kind.Str value (Some raw)) h tagged is = is
writable_literals_keep_spelling (kind.Number None raw) h tagged is = is
writable_literals_keep_spelling (kind.Number (Some value) None) h tagged is = written_numbers_are_spelled value h is
writable_literals_keep_spelling (kind.Number (Some value) (Some raw)) h tagged is = is
writable_literals_keep_spelling (kind.BigInt value None) h tagged is = written_big_ints_are_spelled value h is
writable_literals_keep_spelling (kind.BigInt value (Some raw)) h tagged is = is
writable_literals_keep_spelling _ h tagged is = is
