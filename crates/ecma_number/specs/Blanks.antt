-- White space and line terminators, by the codes of characters: ECMAScript, 12.2 White Space, 12.3 Line Terminators; and a text without them at its ends.
use Rattle.std.specs.Prelude.{ℕ, Bool, ◌||◌, ◌==◌, List, [], ◌∷◌, reverse, chars, if◌then◌else◌}
use Rattle.std.specs.Str.{encode_utf8_all}
use Rattle.std.specs.Int.{is_in_range}

-- USP: a code point of the Unicode category Space_Separator
abbrev pub is_space_separator : ℕ → Bool
is_space_separator code =
    code == 0x20 || code == 0xA0 || code == 0x1680 || is_in_range 0x2000 0x200A code || code == 0x202F || code == 0x205F || code == 0x3000

-- 12.2 WhiteSpace: TAB, VT, FF, ZWNBSP or USP
abbrev pub is_white_space : ℕ → Bool
is_white_space code = code == 0x9 || code == 0xB || code == 0xC || code == 0xFEFF || is_space_separator code

-- 12.3 LineTerminator: LF, CR, LS or PS
abbrev pub is_line_terminator : ℕ → Bool
is_line_terminator code = code == 0xA || code == 0xD || code == 0x2028 || code == 0x2029

-- 7.1.4.1 StrWhiteSpaceChar
abbrev pub is_blank : ℕ → Bool
is_blank code = is_white_space code || is_line_terminator code

-- the characters from the first on that is no blank
abbrev pub without_blanks : List ℕ → List ℕ
without_blanks [] = []
without_blanks (first ∷ others) = (if is_blank first then without_blanks others else first ∷ others)

-- a text without the blanks at its front, and without those at its end
unfoldable pub front_trimmed : List ℕ → List ℕ
front_trimmed text = encode_utf8_all (without_blanks (chars text))

unfoldable pub end_trimmed : List ℕ → List ℕ
end_trimmed text = encode_utf8_all (reverse (without_blanks (reverse (chars text))))
