use Rattle.std.proofs.Common.{◌≡◌, filter, string_bytes}
use Rattle.std.specs.Str.{encode_utf8_all}
use Rattle.ecma_grammar.specs.Reads.{is_no_separator}
use Rattle.ecma_reader.proofs.reader.leaves.without_separators.Given as goal

abbrev pub invariant-loop-character : goal.invariant-loop-character
invariant-loop-character l = string_bytes l.kept ≡ encode_utf8_all (filter is_no_separator l.yielded)
