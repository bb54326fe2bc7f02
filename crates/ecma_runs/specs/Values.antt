-- The values of a run (ECMAScript, 6.1 ECMAScript Language Types), in this project's profile:
-- own objects go by their places, host values by their numbers, and errors by their kinds.
use Rattle.std.specs.Prelude.{ℕ, pos, Bool, true, false, not, ◌||◌, List, [], ◌∷◌, Option, nat_lt, if◌then◌else◌}
use Rattle.std.specs.List.{sum_by}
use Rattle.ecma_number.specs.JsNumber.{whole_of, is_zero, is_nan}
use Rattle.ecma_number.specs.declared.js_number.JsNumber.{JsNumber}
use Rattle.ecma_runs.specs.declared.shown.ErrorKind.{ErrorKind}

pub data Value : Type 0 where
  Undefined : Value
  Null : Value
  Truth : Bool → Value
  Number : JsNumber → Value
  Text : List ℕ → Value
  -- an object of the program, by its place
  Own : ℕ → Value
  -- a value of the host, by its number
  Host : ℕ → Value
  Error : ErrorKind → Value

-- how many UTF-16 code units the character has whose UTF-8 form begins with this byte: one up to U+FFFF, two above;
-- the bytes from 128 to 191 begin none (6.1.4 The String Type)
abbrev pub units_from : ℕ → ℕ
units_from byte = (if nat_lt byte 128 then 1 else if nat_lt byte 192 then 0 else if nat_lt byte 240 then 1 else 2)

-- the length of a text, in UTF-16 code units, where it lies in the number domain
abbrev pub length_of : List ℕ → Option JsNumber
length_of text = whole_of (pos (sum_by units_from text))

abbrev pub text_truth : List ℕ → Bool
text_truth [] = false
text_truth (byte ∷ bytes) = true

-- 7.1.2 ToBoolean
abbrev pub truth_of : Value → Bool
truth_of Undefined = false
truth_of Null = false
truth_of (Truth truth) = truth
truth_of (Number number) = not (is_zero number || is_nan number)
truth_of (Text text) = text_truth text
truth_of (Own place) = true
truth_of (Host number) = true
truth_of (Error error_kind) = true

abbrev pub is_undefined : Value → Bool
is_undefined Undefined = true
is_undefined v = false

-- undefined or null
abbrev pub is_nullish : Value → Bool
is_nullish Undefined = true
is_nullish Null = true
is_nullish v = false
