use Rattle.std.proofs.Common.{◌≡◌, length}
use Rattle.std.specs.Str.Iter.{chars_rest}
use denote.Shadow.{shadow}
use denote.Text.{Utf8}
use Rattle.ecma_number.specs.Blanks.{end_trimmed}
use Rattle.ecma_number.proofs.string_to_number.end_trimmed.Given as goal

abbrev pub invariant-loop-character : goal.invariant-loop-character
invariant-loop-character l =
    shadow (Utf8 l.kept) × (l.kept ≡ chars_rest l.characters) × (end_trimmed l.text ≡ end_trimmed l.kept)

abbrev pub decreases-loop-character : goal.decreases-loop-character
decreases-loop-character l = length (chars_rest l.characters)
