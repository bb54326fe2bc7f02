-- What the first byte of the token ahead says of a reading is so.
use Rattle.std.proofs.lemmas.Bool.Decides.{nat_tests}
use Rattle.std.proofs.Common.{◌≡◌, ℕ, zero, suc, ◌-◌, ◌<◌, Bool, true, false, nat_eq, nat_le, ◌&&◌, List, [], ◌∷◌, length, get_or, drop, take, if◌then◌else◌, Option, Some, None, refl, arith}
use Rattle.std.specs.Char.{is_ascii_digit, is_digit}
use Rattle.std.specs.List.{slice_get, starts_with}
use Rattle.std.specs.Str.{bytes_eq}
use Rattle.ecma_lex.specs.declared.blanks.Skipped.{Skipped}
use Rattle.ecma_lex.specs.Blanks.{skipped}
use Rattle.ecma_lex.specs.Text.{after, cuts, piece}
use Rattle.ecma_lex.specs.Parts.{code_point, if_text}
use Rattle.ecma_lex.specs.Keys.{key_end, word_end}
use Rattle.ecma_lex.specs.Punctuators.{begins_with, is_longest, punct_end, angle_end}
use Rattle.ecma_lex.specs.Templates.{template_text, template_text_end, any_template_text_end, template_characters, found_template_text}
use Rattle.ecma_lex.specs.Strings.{quoted, string_literal, str_end, str_lit}
use Rattle.ecma_number.specs.Numeral.{non_decimal_integer_literal, decimal_integer, digits, big_int_literal, integer_literal}
use Rattle.ecma_lex.specs.Numerals.{num_end, big_end}
use Rattle.ecma_lex.specs.Tokens.{word, punct, angle, num, big, found}
use Rattle.ecma_lex.proofs.Steps.{ascii_here}
use Rattle.ecma_lex.proofs.NumeralReading.{begins_num, no_num}
use Rattle.ecma_lex.proofs.Spelled.{stops}
use Rattle.ecma_reader.specs.Outlook.{Fails, found_outlook}

-- a token that ends nowhere
none-found : (before : Skipped) (end : Option ℕ) → end ≡ None → found_outlook (found before (if before.closed then end else None)) ≡ Fails before.to
none-found before end none = go before.closed refl
  where
    go : (b : Bool) → before.closed ≡ b → found_outlook (found before (if b then end else None)) ≡ Fails before.to
    go true h = rw none refl
    go false h = refl

flipped : (a b : ℕ) → nat_eq a b ≡ false → nat_eq b a ≡ false
flipped a b h = grind arith

-- a text that begins with another byte
starts-off : (text : List ℕ) (j c : ℕ) (cs : List ℕ) → nat_eq (get_or text j 0) c ≡ false → starts_with nat_eq (drop j text) (c ∷ cs) ≡ false
starts-off [] zero c cs h = refl
starts-off [] (suc j) c cs h = refl
starts-off (x ∷ xs) zero c cs h = rw (flipped x c h) refl
starts-off (x ∷ xs) (suc j) c cs h = starts-off xs j c cs h

taken-off : (text : List ℕ) (j n c : ℕ) (cs : List ℕ) → nat_eq (get_or text j 0) c ≡ false → bytes_eq (take n (drop j text)) (c ∷ cs) ≡ false
taken-off [] zero zero c cs h = refl
taken-off [] zero (suc n) c cs h = refl
taken-off [] (suc j) zero c cs h = refl
taken-off [] (suc j) (suc n) c cs h = refl
taken-off (x ∷ xs) zero zero c cs h = refl
taken-off (x ∷ xs) zero (suc n) c cs h = rw h refl
taken-off (x ∷ xs) (suc j) n c cs h = taken-off xs j n c cs h

piece-off : (text : List ℕ) (j k c : ℕ) (cs : List ℕ) → nat_eq (get_or text j 0) c ≡ false → bytes_eq (piece text j k) (c ∷ cs) ≡ false
piece-off text j k c cs h = go (nat_le j k && (cuts text j && cuts text k)) refl
  where
    go : (b : Bool) → (nat_le j k && (cuts text j && cuts text k)) ≡ b → bytes_eq (piece text j k) (c ∷ cs) ≡ false
    go true e = rw e (taken-off text j (k - j) c cs h)
    go false e = rw e refl

word_end-off : (text : List ℕ) (j c : ℕ) (cs : List ℕ) → nat_eq (get_or text j 0) c ≡ false → word_end (c ∷ cs) text j ≡ None
unfolding word_end
word_end-off text j c cs h = go (key_end text j)
  where
    go : (o : Option ℕ) → if_text (λ word. bytes_eq word (c ∷ cs)) text j o ≡ None
    go None = refl
    go (Some k) = rw (piece-off text j k c cs h) refl

pub word-off : (text : List ℕ) (i c : ℕ) (cs : List ℕ) → nat_eq (get_or text (skipped text i).to 0) c ≡ false → found_outlook (word text i (c ∷ cs)) ≡ Fails (skipped text i).to
unfolding word
word-off text i c cs h = none-found (skipped text i) (word_end (c ∷ cs) text (skipped text i).to) (word_end-off text (skipped text i).to c cs h)

punct_end-off : (text : List ℕ) (j c : ℕ) (cs : List ℕ) → nat_eq (get_or text j 0) c ≡ false → punct_end (c ∷ cs) text j ≡ None
unfolding punct_end is_longest begins_with
punct_end-off text j c cs h = rw (starts-off text j c cs h) refl

pub punct-off : (text : List ℕ) (i c : ℕ) (cs : List ℕ) → nat_eq (get_or text (skipped text i).to 0) c ≡ false → found_outlook (punct text i (c ∷ cs)) ≡ Fails (skipped text i).to
unfolding punct
punct-off text i c cs h = none-found (skipped text i) (punct_end (c ∷ cs) text (skipped text i).to) (punct_end-off text (skipped text i).to c cs h)

-- a byte of ASCII that stands in the text
inside : (text : List ℕ) (j : ℕ) → 0 < get_or text j 0 → j < length text
inside [] zero h = absurd (omega arith)
inside [] (suc j) h = absurd (omega arith)
inside (x ∷ xs) zero h = omega arith
inside (x ∷ xs) (suc j) h = let rest = inside xs j h in omega arith

code_point-off : (text : List ℕ) (j c : ℕ) → 0 < get_or text j 0 → get_or text j 0 < 128 → nat_eq (get_or text j 0) c ≡ false → code_point c text j ≡ None
code_point-off text j c some small h = rw (ascii_here text j (inside text j some) small, h) refl

angle_end-off : (text : List ℕ) (j c : ℕ) → 0 < get_or text j 0 → get_or text j 0 < 128 → nat_eq (get_or text j 0) c ≡ false → angle_end c text j ≡ None
unfolding angle_end
angle_end-off text j c some small h = code_point-off text j c some small h

pub angle-off : (text : List ℕ) (i c : ℕ) → 0 < get_or text (skipped text i).to 0 → get_or text (skipped text i).to 0 < 128 → nat_eq (get_or text (skipped text i).to 0) c ≡ false
    → found_outlook (angle text i c) ≡ Fails (skipped text i).to
unfolding angle
angle-off text i c some small h = none-found (skipped text i) (angle_end c text (skipped text i).to) (angle_end-off text (skipped text i).to c some small h)

template_end-off : (text : List ℕ) (j : ℕ) (first tagged : Bool) → 0 < get_or text j 0 → get_or text j 0 < 128 → nat_eq (get_or text j 0) (if first then 96 else 125) ≡ false → template_text_end first tagged text j ≡ None
unfolding template_text_end any_template_text_end template_characters
template_end-off text j first tagged some small h = rw (code_point-off text j (if first then 96 else 125) some small h) refl

pub template-off : (text : List ℕ) (i : ℕ) (first tagged : Bool) → 0 < get_or text (skipped text i).to 0 → get_or text (skipped text i).to 0 < 128 → nat_eq (get_or text (skipped text i).to 0) (if first then 96 else 125) ≡ false
    → found_outlook (template_text text i first tagged) ≡ Fails (skipped text i).to
unfolding template_text
template-off text i first tagged some small h = go (skipped text i).closed refl
  where
    none : template_text_end first tagged text (skipped text i).to ≡ None
    none = template_end-off text (skipped text i).to first tagged some small h

    go : (b : Bool) → (skipped text i).closed ≡ b → found_outlook (found_template_text (skipped text i) (if b then template_text_end first tagged text (skipped text i).to else None)) ≡ Fails (skipped text i).to
    go true e = rw none refl
    go false e = refl

quoted-off : (quote : ℕ) (text : List ℕ) (j : ℕ) → 0 < get_or text j 0 → get_or text j 0 < 128 → nat_eq (get_or text j 0) quote ≡ false → quoted quote text j ≡ None
unfolding quoted
quoted-off quote text j some small h = rw (code_point-off text j quote some small h) refl

str_end-off : (text : List ℕ) (j : ℕ) → 0 < get_or text j 0 → get_or text j 0 < 128 → nat_eq (get_or text j 0) 34 ≡ false → nat_eq (get_or text j 0) 39 ≡ false → str_end text j ≡ None
unfolding str_end string_literal
str_end-off text j some small h k = rw (quoted-off 34 text j some small h, quoted-off 39 text j some small k) refl

pub str-off : (text : List ℕ) (i : ℕ) → 0 < get_or text (skipped text i).to 0 → get_or text (skipped text i).to 0 < 128 → nat_eq (get_or text (skipped text i).to 0) 34 ≡ false → nat_eq (get_or text (skipped text i).to 0) 39 ≡ false
    → found_outlook (str_lit text i) ≡ Fails (skipped text i).to
unfolding str_lit
str-off text i some small h k = none-found (skipped text i) (str_end text (skipped text i).to) (str_end-off text (skipped text i).to some small h k)

digit-off : (c : ℕ) → is_ascii_digit c ≡ false → is_digit c 10 ≡ false
digit-off c h = grind (arith, nat_tests)

zero-off : (c : ℕ) → is_ascii_digit c ≡ false → nat_eq c 48 ≡ false
zero-off c h = grind (arith, nat_tests)

-- no literal of a BigInt begins with another character
no_big_int : (c : ℕ) (cs : List ℕ) → is_ascii_digit c ≡ false → big_int_literal (c ∷ cs) ≡ None
unfolding big_int_literal integer_literal non_decimal_integer_literal decimal_integer digits
no_big_int c cs h = rw (zero-off c h) (rw (zero-off c h) (rw (digit-off c h) refl))

stops-first : (p : ℕ → Bool) (cs : List ℕ) (c : ℕ) → slice_get cs 0 ≡ Some c → p c ≡ false → stops p cs ≡ true
stops-first p [] c h k = refl
stops-first p (d ∷ cs) c h k = let same : d ≡ c = cc in rw (same, k) refl

big_int-off : (text : List ℕ) (j : ℕ) → 0 < get_or text j 0 → is_ascii_digit (get_or text j 0) ≡ false → big_int_literal (drop j text) ≡ None
big_int-off [] j some digit = absurd (omega (arith, some))
big_int-off (x ∷ xs) zero some digit = no_big_int x xs digit
big_int-off (x ∷ xs) (suc j) some digit = big_int-off xs j some digit

num_end-off : (text : List ℕ) (j : ℕ) → 0 < get_or text j 0 → get_or text j 0 < 128 → nat_eq (get_or text j 0) 46 ≡ false → is_ascii_digit (get_or text j 0) ≡ false → num_end text j ≡ None
num_end-off text j some small point digit =
    no_num text j (stops-first begins_num (after text j) (get_or text j 0) (ascii_here text j (inside text j some) small) (rw (digit-off (get_or text j 0) digit, point) refl))

big_end-off : (text : List ℕ) (j : ℕ) → 0 < get_or text j 0 → is_ascii_digit (get_or text j 0) ≡ false → big_end text j ≡ None
unfolding big_end
big_end-off text j some digit = rw (big_int-off text j some digit) refl

pub num-off : (text : List ℕ) (i : ℕ) → 0 < get_or text (skipped text i).to 0 → get_or text (skipped text i).to 0 < 128 → nat_eq (get_or text (skipped text i).to 0) 46 ≡ false → is_ascii_digit (get_or text (skipped text i).to 0) ≡ false → found_outlook (num text i) ≡ Fails (skipped text i).to
unfolding num
num-off text i some small point digit = none-found (skipped text i) (num_end text (skipped text i).to) (num_end-off text (skipped text i).to some small point digit)

pub big-off : (text : List ℕ) (i : ℕ) → 0 < get_or text (skipped text i).to 0 → is_ascii_digit (get_or text (skipped text i).to 0) ≡ false → found_outlook (big text i) ≡ Fails (skipped text i).to
unfolding big
big-off text i some digit = none-found (skipped text i) (big_end text (skipped text i).to) (big_end-off text (skipped text i).to some digit)

-- a word that begins with another byte
pub word-begins : (text word' : List ℕ) (i : ℕ) → 0 < length word' → nat_eq (get_or word' 0 0) (get_or text (skipped text i).to 0) ≡ false → found_outlook (word text i word') ≡ Fails (skipped text i).to
word-begins text [] i h e = absurd (omega arith)
word-begins text (c ∷ cs) i h e = word-off text i c cs (flipped c (get_or text (skipped text i).to 0) e)

-- a punctuator that begins with another byte
pub punct-begins : (text sign : List ℕ) (i : ℕ) → 0 < length sign → nat_eq (get_or sign 0 0) (get_or text (skipped text i).to 0) ≡ false → found_outlook (punct text i sign) ≡ Fails (skipped text i).to
punct-begins text [] i h e = absurd (omega arith)
punct-begins text (c ∷ cs) i h e = punct-off text i c cs (flipped c (get_or text (skipped text i).to 0) e)

pub ruleset wording = (word-begins, punct-begins)
