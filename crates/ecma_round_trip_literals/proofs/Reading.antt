-- What is written for a character is read as a part of a literal, which says the character.
use Rattle.std.proofs.Common.{◌≡◌, ◌∙◌, ℕ, ◌+◌, ◌<◌, ◌≤◌, Bool, true, false, cond, not, ◌&&◌, ◌||◌, nat_eq, nat_le, nat_lt, List, [], ◌∷◌, ◌++◌, length, length-append, append_assoc, append-nil, Some, None, refl, sym, ap, subst, arith, inl, inr}
use Rattle.std.specs.List.{slice_get}
use Rattle.std.specs.Str.{IsUtf8, chars}
use Rattle.std.proofs.lemmas.Bool.{and_parts, eqb-true}
use Rattle.std.proofs.lemmas.Bool.Decides.{nat_tests}
use Rattle.std.proofs.lemmas.Str.{IsUtf8-append, IsUtf8-encode, IsUtf8-from_ascii, IsUtf8-nil, chars-append, chars-encodes, encode_ascii, len_utf8_ascii, length-encode}
use lib.Utf8.{encode, encodes, scalar, scalar_cases, scalars}
use Rattle.ecma_number.specs.Blanks.{is_line_terminator}
use Rattle.ecma_lex.specs.Escapes.{character_escape_sequence, escape_sequence, escape_value, escape_value_of, hex4_digits, hex_digit, hex_escape_sequence, hex_or_unicode, hex_value, if_code_point, is_character_escape, is_hex_digit, line_terminator_sequence, null_escape, numeric_escape, unicode_escape_sequence, braced_digits, decimal_digit}
use Rattle.ecma_lex.specs.Escapes as escapes
use Rattle.ecma_lex.specs.Parts.{char_at, code_point, many, nothing, or_at, passing, then_at, unless, ◌>>◌, ◌//◌}
use Rattle.ecma_lex.specs.Strings.{no_string_character, string_character}
use Rattle.ecma_lex.specs.Text.{piece}
use Rattle.ecma_lex.specs.Values.{literal_part, onto, part_value, part_value_of, string_part, value_behind}
use Rattle.ecma_lex.proofs.Literals.{moves_string_character, no_terminator, or_none, passing_here, then_none}
use Rattle.ecma_lex.proofs.Repeats.{many_some, then_some, unless_stands}
use Rattle.ecma_lex.proofs.Sayings.{nothing_says_nothing, read_some, says_itself, value_at_end}
use Rattle.ecma_lex.proofs.Suffixes.{Cut, Stands, after_here, chars_ascii, cut_ascii, cut_utf8, past, piece_here}
use Rattle.ecma_print.specs.Escapes.{escape, separator_escape}
use Rattle.ecma_number.proofs.NumericLiterals.{is_plain}
use Rattle.ecma_round_trip_literals.proofs.Characters.{written, written_all}
use Rattle.ecma_round_trip_literals.proofs.Plain.{plain_ascii as all_small}

-- a part of a string literal in `"`, which says this character
record Reads (text : List ℕ) (i : ℕ) (word : List ℕ) (c : ℕ) : Type 0 where
  part : literal_part false text i ≡ Some (i + length word)
  says : part_value false text i (i + length word) ≡ c ∷ []
  inner : no_string_character 34 text i ≡ None

-- that a character is what may stand as it is
abbrev is_free : ℕ → Bool
is_free c = not (nat_eq c 92) && not (nat_eq c 34 || (nat_eq c 10 || nat_eq c 13))

both_off : (a b : Bool) → (not a && not b) ≡ true → (a ≡ false) × (b ≡ false)
both_off false false h = (refl, refl)
both_off false true h = cc
both_off true b h = cc

module _ (text : List ℕ) where
  pub ascii_at : (i x : ℕ) (rest : List ℕ) → x < 128 → Stands text i (x ∷ rest) → char_at text i ≡ Some x
  ascii_at i x rest small st = ap (λ cs. slice_get cs 0) (after_here text i (x ∷ rest) st (cut_ascii x rest small) ∙ chars_ascii x rest small)

  character_at : (i c : ℕ) (rest : List ℕ) → scalar c ≡ true → Cut rest → Stands text i (encode c ++ rest) → char_at text i ≡ Some c
  character_at i c rest ok cut st =
      let utf8 = IsUtf8-encode c ok in
      let one : chars (encode c) ≡ c ∷ [] = ap chars (sym (append-nil (encode c))) ∙ chars-encodes (c ∷ []) (rw ok refl) in
      ap (λ cs. slice_get cs 0) (after_here text i (encode c ++ rest) st (cut_utf8 (encode c) rest utf8 cut) ∙ chars-append (encode c) rest utf8 ∙ ap (λ cs. cs ++ chars rest) one)

  -- a character that stands as it is
  free_reads : (i c : ℕ) → is_free c ≡ true → char_at text i ≡ Some c → Reads text i (encode c) c
  unfolding literal_part string_part part_value
  free_reads i c free e =
      let off = both_off (nat_eq c 92) (nat_eq c 34 || (nat_eq c 10 || nat_eq c 13)) free in
      let backslash = off.0 in
      let other = off.1 in
      let here : passing (λ d. not (nat_eq d 92)) text i ≡ Some (i + length (encode c)) = passing_here text (λ d. not (nat_eq d 92)) i c e ∙ rw (backslash, length-encode c) refl in
      record {
        part = ap (or_at (code_point 92 >> escapes.escape) text i) here;
        says = ap (part_value_of false text i (i + length (encode c))) e ∙ rw backslash refl;
        inner = passing_here text (λ d. nat_eq d 34 || (nat_eq d 10 || nat_eq d 13)) i c e ∙ rw other refl;
      }

  -- a backslash, and an escape behind it
  escape_reads : (i c : ℕ) (word : List ℕ) → char_at text i ≡ Some 92 → escapes.escape text (i + 1) ≡ Some (i + length word) → escape_value text (i + 1) (i + length word) ≡ c ∷ [] → Reads text i word c
  unfolding literal_part string_part part_value
  escape_reads i c word e ends value = record {
    part = or_none text (passing (λ d. not (nat_eq d 92))) (code_point 92 >> escapes.escape) i (passing_here text (λ d. not (nat_eq d 92)) i 92 e) ∙ ap (then_at escapes.escape text) (passing_here text (λ d. nat_eq d 92) i 92 e) ∙ ends;
    says = ap (part_value_of false text i (i + length word)) e ∙ value;
    inner = passing_here text (λ d. nat_eq d 34 || (nat_eq d 10 || nat_eq d 13)) i 92 e;
  }

  -- a character behind a backslash
  single_reads : (i x c : ℕ) (rest : List ℕ) → x < 128 → nat_eq x 13 ≡ false → is_line_terminator x ≡ false → is_character_escape x ≡ true → ((j : ℕ) → escape_value_of text (i + 1) j (Some x) ≡ c ∷ []) → Stands text i (92 ∷ x ∷ rest) → Reads text i (92 ∷ x ∷ []) c
  unfolding escapes.escape escape_sequence character_escape_sequence escape_value
  single_reads i x c rest small no_return no_break single value st =
      let e = ascii_at i 92 (x ∷ rest) (omega arith) st in
      let next = ascii_at (i + 1) x rest small (past text (92 ∷ []) st) in
      let one = len_utf8_ascii x small in
      let place : i + 1 + 1 ≡ i + 2 = omega arith in
      let stands : passing is_character_escape text (i + 1) ≡ Some (i + 1 + 1) = passing_here text is_character_escape (i + 1) x next ∙ rw (single, one) refl in
      escape_reads i c (92 ∷ x ∷ []) e
      (or_none text line_terminator_sequence escape_sequence (i + 1) (no_terminator text (i + 1) x next no_return no_break)
      ∙ ap (or_at (null_escape // numeric_escape) text (i + 1)) stands
      ∙ ap Some place)
      (ap (escape_value_of text (i + 1) (i + 2)) next ∙ value (i + 2))

  hex_at : (i x : ℕ) (rest : List ℕ) → x < 128 → is_hex_digit x ≡ true → Stands text i (x ∷ rest) → hex_digit text i ≡ Some (i + 1)
  unfolding hex_digit
  hex_at i x rest small h st = let one = len_utf8_ascii x small in passing_here text is_hex_digit i x (ascii_at i x rest small st) ∙ rw (h, one) refl

  -- `u`, and four hexadecimal digits
  module _ (i d : ℕ) (rest : List ℕ) (cut : Cut rest) (small : d < 128) (digit : is_hex_digit d ≡ true) (st : Stands text i (117 ∷ 50 ∷ 48 ∷ 50 ∷ d ∷ rest)) where
    u_at : char_at text i ≡ Some 117
    u_at = ascii_at i 117 (50 ∷ 48 ∷ 50 ∷ d ∷ rest) (omega arith) st

    digits_read : hex_or_unicode text i ≡ Some (i + 5)
    unfolding hex_or_unicode hex_escape_sequence unicode_escape_sequence hex4_digits
    digits_read =
        let a = past text (117 ∷ []) st in
        let b = past text (50 ∷ []) a in
        let c = past text (48 ∷ []) b in
        let f = past text (50 ∷ []) c in
        let u : code_point 117 text i ≡ Some (i + 1) = passing_here text (λ x. nat_eq x 117) i 117 u_at in
        let four : hex4_digits text (i + 1) ≡ Some (i + 1 + 1 + 1 + 1 + 1) =
        then_some text hex_digit (hex_digit >> hex_digit >> hex_digit) (i + 1) (i + 1 + 1) (hex_at (i + 1) 50 (48 ∷ 50 ∷ d ∷ rest) (omega arith) refl a)
        ∙ then_some text hex_digit (hex_digit >> hex_digit) (i + 1 + 1) (i + 1 + 1 + 1) (hex_at (i + 1 + 1) 48 (50 ∷ d ∷ rest) (omega arith) refl b)
        ∙ then_some text hex_digit hex_digit (i + 1 + 1 + 1) (i + 1 + 1 + 1 + 1) (hex_at (i + 1 + 1 + 1) 50 (d ∷ rest) (omega arith) refl c)
        ∙ hex_at (i + 1 + 1 + 1 + 1) d rest small digit f in
        let place : i + 1 + 1 + 1 + 1 + 1 ≡ i + 5 = omega arith in
        or_none text (code_point 120 >> hex_digit >> hex_digit) unicode_escape_sequence i (then_none text (code_point 120) (hex_digit >> hex_digit) i (passing_here text (λ x. nat_eq x 120) i 117 u_at))
        ∙ then_some text (code_point 117) (hex4_digits // braced_digits) i (i + 1) u
        ∙ ap (or_at braced_digits text (i + 1)) four
        ∙ ap Some place

    digits_piece : piece text i (i + 5) ≡ 117 ∷ 50 ∷ 48 ∷ 50 ∷ d ∷ []
    digits_piece = piece_here text i (117 ∷ 50 ∷ 48 ∷ 50 ∷ d ∷ []) rest st (cut_ascii 117 (50 ∷ 48 ∷ 50 ∷ d ∷ rest) (omega arith)) cut

    unicode_stands : nat_le (hex_value (chars (117 ∷ 50 ∷ 48 ∷ 50 ∷ d ∷ []))) 0x10FFFF ≡ true → escapes.escape text i ≡ Some (i + 5)
    unfolding escapes.escape escape_sequence character_escape_sequence null_escape numeric_escape
    unicode_stands fits =
        let there = digits_piece in
        or_none text line_terminator_sequence escape_sequence i (no_terminator text i 117 u_at refl refl)
        ∙ or_none text (passing is_character_escape) (null_escape // numeric_escape) i (passing_here text is_character_escape i 117 u_at)
        ∙ or_none text null_escape numeric_escape i (then_none text (code_point 48) (unless decimal_digit nothing) i (passing_here text (λ x. nat_eq x 48) i 117 u_at))
        ∙ ap (if_code_point text i) digits_read
        ∙ rw (there, fits) refl

    unicode_says : escape_value text i (i + 5) ≡ hex_value (chars (117 ∷ 50 ∷ 48 ∷ 50 ∷ d ∷ [])) ∷ []
    unfolding escape_value
    unicode_says = let there = digits_piece in ap (escape_value_of text i (i + 5)) u_at ∙ rw there refl

  separator_reads : (i d c : ℕ) (rest : List ℕ) → Cut rest → d < 128 → is_hex_digit d ≡ true → hex_value (chars (117 ∷ 50 ∷ 48 ∷ 50 ∷ d ∷ [])) ≡ c → nat_le c 0x10FFFF ≡ true → Stands text i (92 ∷ 117 ∷ 50 ∷ 48 ∷ 50 ∷ d ∷ rest)
      → Reads text i (92 ∷ 117 ∷ 50 ∷ 48 ∷ 50 ∷ d ∷ []) c
  separator_reads i d c rest cut small digit is fits st =
      let next = past text (92 ∷ []) st in
      let place : i + 1 + 5 ≡ i + 6 = omega arith in
      escape_reads i c (92 ∷ 117 ∷ 50 ∷ 48 ∷ 50 ∷ d ∷ []) (ascii_at i 92 (117 ∷ 50 ∷ 48 ∷ 50 ∷ d ∷ rest) (omega arith) st)
      (unicode_stands (i + 1) d rest cut small digit next (ap (λ v. nat_le v 0x10FFFF) is ∙ fits) ∙ ap Some place)
      (ap (escape_value text (i + 1)) (sym place) ∙ unicode_says (i + 1) d rest cut small digit next ∙ ap (λ v. v ∷ []) is)

-- what is written for a byte, by whether it is a quote, a backslash, a line feed or a carriage return
abbrev chosen : ℕ → Bool → Bool → Bool → Bool → List ℕ
chosen c q b f r = cond q (92 ∷ 34 ∷ []) (cond b (92 ∷ 92 ∷ []) (cond f (92 ∷ 110 ∷ []) (cond r (92 ∷ 114 ∷ []) (c ∷ []))))

first_value : hex_value (chars (117 ∷ 50 ∷ 48 ∷ 50 ∷ 56 ∷ [])) ≡ 0x2028
unfolding hex_value chars
first_value = refl

second_value : hex_value (chars (117 ∷ 50 ∷ 48 ∷ 50 ∷ 57 ∷ [])) ≡ 0x2029
unfolding hex_value chars
second_value = refl

wide_free : (c : ℕ) → 128 ≤ c → is_free c ≡ true
wide_free c large =
    let backslash : nat_eq c 92 ≡ false = grind (arith, nat_tests) in
    let quote : nat_eq c 34 ≡ false = grind (arith, nat_tests) in
    let feed : nat_eq c 10 ≡ false = grind (arith, nat_tests) in
    let return : nat_eq c 13 ≡ false = grind (arith, nat_tests) in
    rw (backslash, quote, feed, return) refl

module _ (text : List ℕ) where
  -- a byte of ASCII
  narrow_reads : (i c : ℕ) (rest : List ℕ) → c < 128 → Stands text i (escape c ++ rest) → Reads text i (escape c) c
  narrow_reads i c rest small st = go (nat_eq c 34) (nat_eq c 92) (nat_eq c 10) (nat_eq c 13) refl refl refl refl st
    where
      pair : (x d : ℕ) → c ≡ d → Reads text i (92 ∷ x ∷ []) d → Reads text i (92 ∷ x ∷ []) c
      pair x d is r = subst (Reads text i (92 ∷ x ∷ [])) (sym is) r

      go : (q b f r : Bool) → nat_eq c 34 ≡ q → nat_eq c 92 ≡ b → nat_eq c 10 ≡ f → nat_eq c 13 ≡ r → Stands text i (chosen c q b f r ++ rest) → Reads text i (chosen c q b f r) c
      go true b f r e g h k s = pair 34 34 (eqb-true c 34 e) (single_reads text i 34 34 rest (omega arith) refl refl refl (λ j. refl) s)
      go false true f r e g h k s = pair 92 92 (eqb-true c 92 g) (single_reads text i 92 92 rest (omega arith) refl refl refl (λ j. refl) s)
      go false false true r e g h k s = pair 110 10 (eqb-true c 10 h) (single_reads text i 110 10 rest (omega arith) refl refl refl (λ j. refl) s)
      go false false false true e g h k s = pair 114 13 (eqb-true c 13 k) (single_reads text i 114 13 rest (omega arith) refl refl refl (λ j. refl) s)
      go false false false false e g h k s = subst (λ w. Reads text i w c) (encode_ascii c small) (free_reads text i c (rw (e, g, h, k) refl) (ascii_at text i c rest small s))

  written_reads : (i c : ℕ) (rest : List ℕ) → scalar c ≡ true → Cut rest → Stands text i (written c ++ rest) → Reads text i (written c) c
  written_reads i c rest ok cut st = go (nat_eq c 0x2028) (nat_eq c 0x2029) (nat_lt c 128) refl refl refl st
    where
      go : (a b d : Bool) → nat_eq c 0x2028 ≡ a → nat_eq c 0x2029 ≡ b → nat_lt c 128 ≡ d → Stands text i (cond a (separator_escape 168) (cond b (separator_escape 169) (cond d (escape c) (encode c))) ++ rest)
          → Reads text i (cond a (separator_escape 168) (cond b (separator_escape 169) (cond d (escape c) (encode c)))) c
      go true b d e f g s = subst (Reads text i (separator_escape 168)) (sym (eqb-true c 0x2028 e)) (separator_reads text i 56 0x2028 rest cut (omega arith) refl first_value refl s)
      go false true d e f g s = subst (Reads text i (separator_escape 169)) (sym (eqb-true c 0x2029 f)) (separator_reads text i 57 0x2029 rest cut (omega arith) refl second_value refl s)
      go false false true e f g s = narrow_reads i c rest (let small : c < 128 = grind (arith, nat_tests) in small) s
      go false false false e f g s = free_reads text i c (wide_free c (let large : 128 ≤ c = grind (arith, nat_tests) in large)) (character_at text i c rest ok cut s)

-- what is written is UTF-8
escape_utf8 : (c : ℕ) → c < 128 → IsUtf8 (escape c)
escape_utf8 c small = go (nat_eq c 34) (nat_eq c 92) (nat_eq c 10) (nat_eq c 13)
  where
    go : (q b f r : Bool) → IsUtf8 (chosen c q b f r)
    go true b f r = IsUtf8-from_ascii (92 ∷ 34 ∷ []) (all_small (92 ∷ 34 ∷ []) refl)
    go false true f r = IsUtf8-from_ascii (92 ∷ 92 ∷ []) (all_small (92 ∷ 92 ∷ []) refl)
    go false false true r = IsUtf8-from_ascii (92 ∷ 110 ∷ []) (all_small (92 ∷ 110 ∷ []) refl)
    go false false false true = IsUtf8-from_ascii (92 ∷ 114 ∷ []) (all_small (92 ∷ 114 ∷ []) refl)
    go false false false false = let p : is_plain c ≡ true = grind (arith, nat_tests) in IsUtf8-from_ascii (c ∷ []) (all_small (c ∷ []) (rw p refl))

written_utf8 : (c : ℕ) → scalar c ≡ true → IsUtf8 (written c)
written_utf8 c ok = go (nat_eq c 0x2028) (nat_eq c 0x2029) (nat_lt c 128) refl
  where
    go : (a b d : Bool) → nat_lt c 128 ≡ d → IsUtf8 (cond a (separator_escape 168) (cond b (separator_escape 169) (cond d (escape c) (encode c))))
    go true b d g = IsUtf8-from_ascii (separator_escape 168) (all_small (separator_escape 168) refl)
    go false true d g = IsUtf8-from_ascii (separator_escape 169) (all_small (separator_escape 169) refl)
    go false false true g = escape_utf8 c (let small : c < 128 = grind (arith, nat_tests) in small)
    go false false false g = IsUtf8-encode c ok

pub all_utf8 : (cs : List ℕ) → scalars cs ≡ true → IsUtf8 (written_all cs)
all_utf8 [] h = IsUtf8-nil
all_utf8 (c ∷ cs) h = let p = and_parts (scalar c) (scalars cs) h in IsUtf8-append (written c) (written_all cs) (written_utf8 c p.0) (all_utf8 cs p.1)

-- ---- all characters

module _ (text : List ℕ) where
  first_reads : (i c : ℕ) (cs rest : List ℕ) → scalar c ≡ true → scalars cs ≡ true → Cut rest → Stands text i (written c ++ (written_all cs ++ rest)) → Reads text i (written c) c
  first_reads i c cs rest ok h cut st = written_reads text i c (written_all cs ++ rest) ok (cut_utf8 (written_all cs) rest (all_utf8 cs h) cut) st

  pub many_written : (cs rest : List ℕ) (i : ℕ) → scalars cs ≡ true → Cut rest → Stands text i (written_all cs ++ rest) → many (string_character 34) text i ≡ many (string_character 34) text (i + length (written_all cs))
  unfolding string_character
  many_written [] rest i h cut st = ap (many (string_character 34) text) (omega arith)
  many_written (c ∷ cs) rest i h cut st =
      let p = and_parts (scalar c) (scalars cs) h in
      let here : Stands text i (written c ++ (written_all cs ++ rest)) = subst (Stands text i) (append_assoc (written c) (written_all cs) rest) st in
      let r = first_reads i c cs rest p.0 p.1 cut here in
      let j = i + length (written c) in
      let place : j + length (written_all cs) ≡ i + length (written_all (c ∷ cs)) = omega (arith, length-append (written c) (written_all cs)) in
      many_some text (string_character 34) (moves_string_character text 34) i j (unless_stands text (no_string_character 34) (literal_part false) i j r.inner r.part)
      ∙ many_written cs rest j p.1 cut (past text (written c) here)
      ∙ ap (many (string_character 34) text) place

  single_unit : (c : ℕ) → scalar c ≡ true → (nat_le 0xD800 c && nat_lt c 0xE000) ≡ false
  single_unit c ok = elim (scalar_cases c ok) [
    | inl low ↦ grind (arith, nat_tests)
    | inr high ↦ let above = high.0 in grind (arith, nat_tests)
  ]

  pub value_written : (cs : List ℕ) (i : ℕ) → scalars cs ≡ true → Stands text i (written_all cs ++ []) → value_behind [] false text i ≡ Some (encodes cs)
  value_written [] i h st = let o = st.within in value_at_end text false [] i (omega arith) ∙ nothing_says_nothing
  value_written (c ∷ cs) i h st =
      let p = and_parts (scalar c) (scalars cs) h in
      let here : Stands text i (written c ++ (written_all cs ++ [])) = subst (Stands text i) (append_assoc (written c) (written_all cs) []) st in
      let r = first_reads i c cs [] p.0 p.1 refl here in
      let j = i + length (written c) in
      let single = single_unit c p.0 in
      read_some text false None (Some c) (record { says = Some c; high = None }) i j r.part (sym r.says) (λ rest. says_itself c rest single)
      ∙ ap (onto (encode c)) (value_written cs j p.1 (past text (written c) here))
