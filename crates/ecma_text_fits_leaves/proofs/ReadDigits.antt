-- The digits of a BigInt that is read.
use Rattle.std.proofs.Common.{◌≡◌, ◌∙◌, ℕ, zero, suc, ◌+◌, ◌-◌, ◌<◌, Bool, true, false, cond, List, [], ◌∷◌, filter, length, take, drop, nat_le, refl, sym, ap, arith, Some, bytes_eq}
use Rattle.std.specs.List.{list_all}
use Rattle.std.specs.Str.{IsAscii, IsUtf8, chars, encode_utf8_all}
use Rattle.std.proofs.lemmas.Bool.{and_parts}
use Rattle.std.proofs.lemmas.Bool.Decides.{nat_tests}
use Rattle.std.proofs.lemmas.Slice.Eq.{bytes_eq-Decides}
use Rattle.std.proofs.lemmas.Str.{IsAscii-take, IsUtf8-from_ascii, chars-IsAscii, encode_ascii}
use Rattle.ecma_number.proofs.NumericLiterals.{is_plain}
use Rattle.ecma_number.specs.Numeral.{IsBigIntLiteral}
use Rattle.ecma_lex.specs.Numerals.{big_end}
use Rattle.ecma_lex.specs.Text.{piece}
use Rattle.ecma_lex.proofs.NumeralTokens.{big_end_literal, literal_piece}
use Rattle.ecma_lex.proofs.Spelled.{alone, zero_add}
use Rattle.ecma_lex.proofs.Steps.{ascii_cuts}
use Rattle.ecma_lex.proofs.Suffixes.{cut_utf8, piece_here, piece_inside}
use Rattle.ecma_print_tokens.specs.Good.{IsToken}
use Rattle.ecma_print_tokens.proofs.Numerals.{big_again}
use Rattle.ecma_grammar.specs.Reads.{without_separators}
use Rattle.ecma_leaves.specs.Words.{digits_of, is_no_separator}

plain_ascii : (w : List ℕ) → list_all is_plain w ≡ true → IsAscii w
plain_ascii [] h k = omega arith
plain_ascii (c ∷ w) h zero = let p = and_parts (is_plain c) (list_all is_plain w) h in let q = p.0 in grind (arith, nat_tests)
plain_ascii (c ∷ w) h (suc k) = plain_ascii w (and_parts (is_plain c) (list_all is_plain w) h).1 k

plain_small : (c : ℕ) → is_plain c ≡ true → c < 128
plain_small c h = grind (arith, nat_tests)

-- characters of one byte are themselves
kept_bytes : (p : ℕ → Bool) (n : ℕ) (w : List ℕ) → list_all is_plain w ≡ true → encode_utf8_all (filter p (take n w)) ≡ filter p (take n w)
kept_bytes p zero w h = refl
kept_bytes p (suc n) [] h = refl
kept_bytes p (suc n) (c ∷ w) h = let both = and_parts (is_plain c) (list_all is_plain w) h in go (p c) (plain_small c both.0) (kept_bytes p n w both.1)
  where
    go : (b : Bool) → c < 128 → encode_utf8_all (filter p (take n w)) ≡ filter p (take n w) → encode_utf8_all (cond b (c ∷ filter p (take n w)) (filter p (take n w))) ≡ cond b (c ∷ filter p (take n w)) (filter p (take n w))
    go true small rest = let e = encode_ascii c small in rw (e, rest) refl
    go false small rest = rest

front_piece : (w : List ℕ) → IsAscii w → 0 < length w → piece w 0 (length w - 1) ≡ take (length w - 1) w
front_piece w ascii some =
    let below : length w - 1 < length w = omega arith in
    let t : nat_le 0 (length w - 1) ≡ true = grind arith in
    let first = ascii_cuts w 0 some (ascii 0) in
    let last = ascii_cuts w (length w - 1) below (ascii (length w - 1)) in
    let m : length w - 1 - 0 ≡ length w - 1 = omega arith in
    rw (t, first, last, m) refl

module _ (text : List ℕ) (u : IsUtf8 text) (i j : ℕ) (h : big_end text i ≡ Some j) where
  abbrev pub word : List ℕ
  word = let l = big_end_literal text i j h in l.first ∷ l.others

  pub word_is : piece text i j ≡ word
  word_is = literal_piece text u i j (big_end_literal text i j h)

  ascii : IsAscii word
  ascii = plain_ascii word (big_end_literal text i j h).plain

  pub word_token : IsToken big_end word
  unfolding chars
  word_token =
      let l = big_end_literal text i j h in
      let utf8 = IsUtf8-from_ascii word ascii in
      let cut = cut_utf8 word [] utf8 refl in
      let all = l.whole in
      let literal : IsBigIntLiteral word = record { value = l.value; all = rw all refl } in
      record { utf8 = utf8; whole = big_again word 0 word [] literal (alone word) cut refl (piece_here word 0 word [] (alone word) cut refl) refl ∙ ap Some (zero_add word) }

  digits_piece : piece text i (j - 1) ≡ take (length word - 1) word
  digits_piece =
      let l = big_end_literal text i j h in
      let ends = l.ends in
      let some : 0 < length word = omega arith in
      let k : j - 1 ≡ i + (length word - 1) = omega arith in
      let z : i + 0 ≡ i = omega arith in
      let inside = piece_inside text i 0 (length word - 1) word (drop j text) l.stands (omega arith) (omega arith) in
      ap (piece text i) k ∙ ap (λ m. piece text m (i + (length word - 1))) (sym z) ∙ inside ∙ front_piece word ascii some

  pub digits_are : bytes_eq (without_separators (piece text i (j - 1))) (digits_of word) ≡ true
  digits_are =
      let l = big_end_literal text i j h in
      let same : without_separators (piece text i (j - 1)) ≡ digits_of word =
      ap without_separators digits_piece
      ∙ ap (λ z. encode_utf8_all (filter is_no_separator z)) (chars-IsAscii (take (length word - 1) word) (IsAscii-take word (length word - 1) ascii))
      ∙ kept_bytes is_no_separator (length word - 1) word l.plain in
      (bytes_eq-Decides (without_separators (piece text i (j - 1))) (digits_of word)).1 same
