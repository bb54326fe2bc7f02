use Rattle.std.proofs.Common.{◌≡◌}
use Rattle.std.specs.Str.Iter.{chars_rest}
use denote.Shadow.{shadow}
use denote.Text.{Utf8}
use Rattle.ecma_number.specs.Blanks.{front_trimmed}
use Rattle.ecma_number.proofs.string_to_number.front_trimmed.Given as goal

abbrev pub invariant-loop-character : goal.invariant-loop-character
invariant-loop-character l =
    (goal.iterator-loop-character).can_next l.characters
    × (goal.iterator-loop-character).is_finite l.characters
    × shadow (Utf8 l.kept)
    × (l.kept ≡ chars_rest l.characters)
    × (front_trimmed l.text ≡ front_trimmed l.kept)
