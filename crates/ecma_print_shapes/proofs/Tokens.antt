-- What is spelled as its terminal reads it is that token by itself, and says what it says.
use Rattle.std.proofs.Common.{◌≡◌, ◌∙◌, refl, sym, ap, subst, ℕ, ◌-◌, Bool, true, false, not, ◌&&◌, cond, List, length, nat_eq, arith, bytes_eq, Option, Some, None, ℤ, pos, negsuc}
use Rattle.std.specs.Int.RustNames.{int_lt}
use Rattle.std.specs.Str.{IsUtf8}
use Rattle.std.proofs.lemmas.Bool.{and_parts}
use Rattle.std.proofs.lemmas.Bool.Decides.{Decides-eqb, nat_tests}
use Rattle.std.proofs.lemmas.Slice.Eq.{bytes_eq-Decides}
use Rattle.ecma_number.specs.declared.js_number.JsNumber.{JsNumber}
use Rattle.ecma_number.specs.declared.js_number.JsNumber.TheVariants.{Whole}
use Rattle.ecma_number.specs.Numeral.{numeral_of}
use Rattle.ecma_lex.specs.declared.blanks.Skipped.{Skipped}
use Rattle.ecma_lex.specs.Blanks.{skipped}
use Rattle.ecma_lex.specs.Keys.{key_end}
use Rattle.ecma_lex.specs.Numerals.{num_end}
use Rattle.ecma_lex.specs.Strings.{str_end, str_value}
use Rattle.ecma_lex.specs.Strings as strings
use Rattle.ecma_lex.specs.Text.{piece}
use Rattle.ecma_lex.specs.Tokens as lex
use Rattle.ecma_lex.specs.Tokens.{found, term}
use Rattle.ecma_print_tokens.specs.Good.{IsToken}
use Rattle.ecma_leaves.specs.Words.{is_number, is_one, is_readable, is_same_whole, is_string, is_value, is_whole}

-- nothing stands before it, and nothing behind
found_whole : (find : List ℕ → ℕ → Option ℕ) (w : List ℕ) (before : Skipped) → is_whole w (found before (cond before.closed (find w before.to) None)) ≡ true → find w 0 ≡ Some (length w)
found_whole find w before h = closed before.closed h
  where
    ends : (o : Option ℕ) → find w before.to ≡ o → is_whole w (found before o) ≡ true → find w 0 ≡ Some (length w)
    ends None e g = cc
    ends (Some j) e g =
        let p = and_parts (nat_eq before.to 0) (nat_eq j (length w)) g in
        let start : before.to ≡ 0 = (Decides-eqb before.to 0).0 p.0 in
        let end : j ≡ length w = (Decides-eqb j (length w)).0 p.1 in
        subst (λ i. find w i ≡ Some (length w)) start (e ∙ ap Some end)

    closed : (b : Bool) → is_whole w (found before (cond b (find w before.to) None)) ≡ true → find w 0 ≡ Some (length w)
    closed true g = ends (find w before.to) refl g
    closed false g = cc

pub term_whole : (find : List ℕ → ℕ → Option ℕ) (w : List ℕ) → is_whole w (term find w 0) ≡ true → find w 0 ≡ Some (length w)
term_whole find w h = found_whole find w (skipped w 0) h

-- keys

pub key_token : (w : List ℕ) → IsUtf8 w → is_one lex.key w ≡ true → IsToken key_end w
unfolding lex.key
key_token w utf8 h = record { utf8 = utf8; whole = term_whole key_end w (and_parts (is_readable w) (is_whole w (lex.key w 0)) h).1 }

-- texts

pub string_token : (value raw : List ℕ) → IsUtf8 raw → is_string value (Some raw) ≡ true → IsToken str_end raw × (str_value (piece raw 1 (length raw - 1)) ≡ value)
unfolding strings.str_lit
string_token value raw utf8 h =
    let p = and_parts (is_one strings.str_lit raw) (bytes_eq (str_value (piece raw 1 (length raw - 1))) value) h in
    (record { utf8 = utf8; whole = term_whole str_end raw (and_parts (is_readable raw) (is_whole raw (strings.str_lit raw 0)) p.0).1 }, (bytes_eq-Decides (str_value (piece raw 1 (length raw - 1))) value).0 p.1)

-- numbers

same_integer : (a b : ℤ) → (not (int_lt a b) && not (int_lt b a)) ≡ true → a ≡ b
same_integer (pos m) (pos n) h = ap pos (grind (arith, nat_tests))
same_integer (negsuc m) (negsuc n) h = ap negsuc (grind (arith, nat_tests))
same_integer (pos m) (negsuc n) h = cc
same_integer (negsuc m) (pos n) h = cc

same_whole : (a b : JsNumber) → is_same_whole a b ≡ true → a ≡ b
same_whole (Whole a) (Whole b) h = ap Whole (same_integer a b h)
same_whole a b h = cc

same_value : (a b : Option JsNumber) → is_value a b ≡ true → b ≡ a
same_value None None h = refl
same_value (Some a) (Some b) h = ap Some (sym (same_whole a b h))
same_value None (Some b) h = cc
same_value (Some a) None h = cc

pub number_token : (value : Option JsNumber) (raw : List ℕ) → IsUtf8 raw → is_number value (Some raw) ≡ true → IsToken num_end raw × (numeral_of raw ≡ value)
unfolding lex.num
number_token value raw utf8 h = by_parts (split value h)
  where
    split : (v : Option JsNumber) → is_number v (Some raw) ≡ true → (is_one lex.num raw ≡ true) × (is_value v (numeral_of raw) ≡ true)
    split None g = and_parts (is_one lex.num raw) (is_value None (numeral_of raw)) g
    split (Some v) g = and_parts (is_one lex.num raw) (is_value (Some v) (numeral_of raw)) g

    by_parts : (is_one lex.num raw ≡ true) × (is_value value (numeral_of raw) ≡ true) → IsToken num_end raw × (numeral_of raw ≡ value)
    by_parts p = (record { utf8 = utf8; whole = term_whole num_end raw (and_parts (is_readable raw) (is_whole raw (lex.num raw 0)) p.0).1 }, same_value value (numeral_of raw) p.1)
