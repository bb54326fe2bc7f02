-- The texts of literals that have parts.
use Rattle.std.specs.Prelude.{ℕ, true, false, List, ◌++◌, codes, Bool}

-- a regular expression literal, of this body and these flags
abbrev pub regex_text : List ℕ → List ℕ → List ℕ
regex_text body flags = codes "/" ++ (body ++ (codes "/" ++ flags))

-- a text part of a template: behind a backtick or `}`, and up to a backtick or `${`
abbrev pub part_opening : Bool → List ℕ
part_opening true = codes "`"
part_opening false = codes "}"

abbrev pub part_closing : Bool → List ℕ
part_closing true = codes "`"
part_closing false = codes "${"

abbrev pub part_text : Bool → Bool → List ℕ → List ℕ
part_text first last raw = part_opening first ++ (raw ++ part_closing last)
