-- Texts that are made: in double quotes, with what may not stand there escaped (ECMAScript, 12.9.4).
use Rattle.std.specs.Prelude.{ℕ, Bool, false, List, [], ◌∷◌, ◌++◌, ◌==◌, ◌&&◌, ◌||◌, cond, get_or, drop}

-- a quote, a backslash, a line feed and a carriage return are written by an escape, every other byte as it is
abbrev pub escape : ℕ → List ℕ
escape b = cond (b == 34) (92 ∷ 34 ∷ []) (cond (b == 92) (92 ∷ 92 ∷ []) (cond (b == 10) (92 ∷ 110 ∷ []) (cond (b == 13) (92 ∷ 114 ∷ []) (b ∷ []))))

-- the bytes of U+2028 and U+2029
abbrev pub is_separator : ℕ → ℕ → ℕ → Bool
is_separator a b c = (a == 226) && (b == 128) && ((c == 168) || (c == 169))

-- `\u2028` or `\u2029`, by the last byte
abbrev pub separator_escape : ℕ → List ℕ
separator_escape c = 92 ∷ 117 ∷ 50 ∷ 48 ∷ 50 ∷ cond (c == 168) 56 57 ∷ []

-- one of them stands at the front
abbrev pub begins_with_separator : List ℕ → Bool
begins_with_separator (a ∷ b ∷ c ∷ s) = is_separator a b c
begins_with_separator s = false

-- what is written for the character or byte at the front
abbrev pub unit : List ℕ → List ℕ
unit [] = []
unit (a ∷ s) = cond (begins_with_separator (a ∷ s)) (separator_escape (get_or s 1 0)) (escape a)

-- and what stands after it
abbrev pub behind_unit : List ℕ → List ℕ
behind_unit s = cond (begins_with_separator s) (drop 3 s) (drop 1 s)

unfoldable pub escaped : List ℕ → List ℕ
escaped [] = []
escaped (a ∷ []) = escape a
escaped (a ∷ b ∷ []) = escape a ++ escape b
escaped (a ∷ b ∷ c ∷ s) = cond (is_separator a b c) (separator_escape c ++ escaped s) (escape a ++ escaped (b ∷ c ∷ s))

abbrev pub made_text : List ℕ → List ℕ
made_text value = 34 ∷ escaped value ++ 34 ∷ []
