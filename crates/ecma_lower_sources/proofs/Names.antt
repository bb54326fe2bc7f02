-- The free names that are made are spelled as keys, and no reserved words.
use Rattle.std.proofs.Common.{◌≡◌, true, false, codes, refl}
use Rattle.std.specs.Str.{IsUtf8, chars, is_utf8}
use Rattle.std.proofs.lemmas.Str.{IsUtf8-from_is_utf8}
use lib.Utf8.{encode}
use Rattle.unicode_ident.specs.Ident.{is_xid_start, is_xid_continue}
use Rattle.ucd_table.specs.Rows.{in_ranges}
use Rattle.ucd_derived.specs.XidStartRanges.{xid_start_ranges}
use Rattle.ucd_derived.specs.XidContinueRanges.{xid_continue_ranges}
use Rattle.ecma_lex.specs.Blanks.{blank, blanks, comment, comment_rest, has_line_terminator, line, skipped}
use Rattle.ecma_lex.specs.Keys.{identifier_parts, is_reserved, key_end, reserved_words}
use Rattle.ecma_lex.specs.Parts.{at_most, many}
use Rattle.ecma_lex.specs.Text.{after}
use Rattle.ecma_lex.specs.Tokens.{key}
use Rattle.ecma_leaves.specs.Words.{is_one}

pub require-unreserved : is_reserved (codes "require") ≡ false
unfolding is_reserved reserved_words
require-unreserved = refl

pub exports-unreserved : is_reserved (codes "exports") ≡ false
unfolding is_reserved reserved_words
exports-unreserved = refl

pub module-unreserved : is_reserved (codes "module") ≡ false
unfolding is_reserved reserved_words
module-unreserved = refl

pub require-utf8 : IsUtf8 (codes "require")
unfolding chars is_utf8 encode
require-utf8 = IsUtf8-from_is_utf8 (codes "require") refl

pub exports-utf8 : IsUtf8 (codes "exports")
unfolding chars is_utf8 encode
exports-utf8 = IsUtf8-from_is_utf8 (codes "exports") refl

pub module-utf8 : IsUtf8 (codes "module")
unfolding chars is_utf8 encode
module-utf8 = IsUtf8-from_is_utf8 (codes "module") refl

pub require-spelled : is_one key (codes "require") ≡ true
unfolding chars is_utf8 encode after many at_most skipped blanks blank comment comment_rest line has_line_terminator key key_end identifier_parts is_xid_start is_xid_continue in_ranges xid_start_ranges xid_continue_ranges
require-spelled = refl

pub exports-spelled : is_one key (codes "exports") ≡ true
unfolding chars is_utf8 encode after many at_most skipped blanks blank comment comment_rest line has_line_terminator key key_end identifier_parts is_xid_start is_xid_continue in_ranges xid_start_ranges xid_continue_ranges
exports-spelled = refl

pub module-spelled : is_one key (codes "module") ≡ true
unfolding chars is_utf8 encode after many at_most skipped blanks blank comment comment_rest line has_line_terminator key key_end identifier_parts is_xid_start is_xid_continue in_ranges xid_start_ranges xid_continue_ranges
module-spelled = refl
