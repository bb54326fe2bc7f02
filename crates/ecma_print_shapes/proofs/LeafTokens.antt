-- Private names, BigInts and regular expressions that are spelled as their terminals read them are these tokens by themselves.
use Rattle.std.proofs.Common.{◌≡◌, ◌∙◌, refl, sym, ap, subst, ℕ, ◌+◌, ◌-◌, ◌<◌, true, List, [], ◌∷◌, ◌++◌, codes, length, arith, bytes_eq, Some, append-nil}
use Rattle.std.specs.Str.{IsUtf8, chars}
use Rattle.std.proofs.lemmas.Bool.{and_parts}
use Rattle.std.proofs.lemmas.Slice.Eq.{bytes_eq-Decides}
use Rattle.std.proofs.lemmas.Str.{IsUtf8-append}
use lib.Utf8.{encode}
use Rattle.ecma_lex.specs.Keys.{key_end, priv_name_end}
use Rattle.ecma_lex.specs.Numerals.{big_end}
use Rattle.ecma_lex.specs.Parts.{code_point}
use Rattle.ecma_lex.specs.Text.{piece}
use Rattle.ecma_lex.specs.Tokens as lex
use Rattle.ecma_lex.proofs.Repeats.{code_point_stands, then_some}
use Rattle.ecma_lex.proofs.Spelled.{alone, key_again, key_by_itself, piece_all}
use Rattle.ecma_lex.proofs.Suffixes.{Stands, after_here, chars_ascii, cut_ascii, past}
use Rattle.ecma_grammar.specs.Reads.{without_separators}
use Rattle.ecma_leaves.specs.Words.{digits_of, is_big_int, is_one, is_readable, is_whole}
use Rattle.ecma_text_fits_leaves.proofs.ReadDigits.{digits_are, word, word_is}
use Rattle.ecma_print_tokens.specs.Good.{IsToken}
use Rattle.ecma_print_shapes.proofs.Tokens.{key_token, term_whole}

-- a text behind one ASCII character
behind_one : (c : ℕ) (w : List ℕ) → Stands (c ∷ w) (0 + 1) (w ++ [])
behind_one c w = past (c ∷ w) (c ∷ []) (subst (Stands (c ∷ w) 0) (ap (λ l. c ∷ l) (append-nil w ∙ sym (append-nil w))) (alone (c ∷ w)))

pub first_stands : (c : ℕ) (w : List ℕ) → c < 128 → code_point c (c ∷ w) 0 ≡ Some 1
first_stands c w small =
    code_point_stands (c ∷ w) c 0 (chars w)
    (after_here (c ∷ w) 0 (c ∷ w) (subst (Stands (c ∷ w) 0) (append-nil (c ∷ w)) (alone (c ∷ w))) (cut_ascii c w small) ∙ chars_ascii c w small)
    ∙ ap Some (grind arith)

-- private names

pub private_token : (name : List ℕ) → IsUtf8 name → is_one lex.key name ≡ true → IsToken priv_name_end (codes "#" ++ name)
unfolding priv_name_end chars encode
private_token name utf8 h =
    let key = key_token name utf8 h in
    let all = then_some (35 ∷ name) (code_point 35) key_end 0 1 (first_stands 35 name (omega arith)) in
    record {
      utf8 = IsUtf8-append (codes "#") name (35 ∷ [], (refl, refl)) utf8;
      whole = all ∙ key_again (35 ∷ name) 1 name [] (key_by_itself name utf8 key.whole) (behind_one 35 name) refl refl ∙ ap Some (omega arith);
    }

-- BigInts

pub big_token : (value raw : List ℕ) → IsUtf8 raw → is_big_int value (Some raw) ≡ true → IsToken big_end raw × (without_separators (piece raw 0 (length raw - 1)) ≡ value)
unfolding lex.big
big_token value raw utf8 h =
    let p = and_parts (is_one lex.big raw) (bytes_eq value (digits_of raw)) h in
    let whole = term_whole big_end raw (and_parts (is_readable raw) (is_whole raw (lex.big raw 0)) p.0).1 in
    let is : raw ≡ word raw utf8 0 (length raw) whole = sym (piece_all raw utf8) ∙ word_is raw utf8 0 (length raw) whole in
    let digits : without_separators (piece raw 0 (length raw - 1)) ≡ digits_of (word raw utf8 0 (length raw) whole) = (bytes_eq-Decides (without_separators (piece raw 0 (length raw - 1))) (digits_of (word raw utf8 0 (length raw) whole))).0 (digits_are raw utf8 0 (length raw) whole) in
    (record { utf8 = utf8; whole = whole }, digits ∙ ap digits_of (sym is) ∙ sym ((bytes_eq-Decides value (digits_of raw)).0 p.1))
