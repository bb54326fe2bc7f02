-- The text `"__proto__"` is spelled as its terminal reads it, and says `__proto__`.
use Rattle.std.proofs.Common.{◌≡◌, true, Some, refl}
use Rattle.std.specs.Str.{chars, is_utf8}
use lib.Utf8.{encode}
use Rattle.std.specs.Char.Utf16.{utf16_chars}
use Rattle.ecma_lex.specs.Text.{after}
use Rattle.ecma_lex.specs.Parts.{many, at_most}
use Rattle.ecma_lex.specs.Blanks.{blank, blanks, comment, comment_rest, has_line_terminator, line, skipped}
use Rattle.ecma_lex.specs.Strings.{quoted, str_end, str_lit, str_value, string_character, string_literal}
use Rattle.ecma_lex.specs.Values.{literal_part, string_part, literal_value, value_behind, text_of, code_points, code_points_up_to, part_value}
use Rattle.ecma_leaves.specs.Words.{is_string}
use Rattle.ecma_hygiene.specs.Renamed.{proto, quoted_proto}

pub proto_spelled : is_string proto (Some quoted_proto) ≡ true
unfolding chars is_utf8 encode after literal_part string_part literal_value value_behind text_of utf16_chars code_points code_points_up_to part_value str_value str_lit str_end string_literal quoted string_character many at_most skipped blanks blank comment comment_rest line has_line_terminator
proto_spelled = refl
