-- The byte that stands behind the blanks.
use Rattle.std.specs.Prelude.{ℕ, List, get_or}
use Rattle.ecma_lex.specs.Blanks.{skipped}

-- 0 at the end of the text
abbrev pub first_byte : List ℕ → ℕ → ℕ
first_byte text i = let before = skipped text i in get_or text before.to 0
