-- A hashbang is read to the end of its line.
use Rattle.std.proofs.Common.{◌≡◌, ℕ, zero, suc, ◌+◌, Bool, true, false, not, List, [], ◌∷◌, ◌++◌, length, codes, refl, ap, ◌∙◌, arith, Option, Some, None, is_some, if◌then◌else◌, Ok}
use Rattle.std.proofs.lemmas.Str.{encodes-chars, scalars-chars}
use lib.Utf8.{encodes}
use Rattle.std.specs.Char.{len_utf8}
use Rattle.std.specs.Str.{chars}
use Rattle.ecma_lex.specs.Parts.{Part, passing, passes, char_at, code_point, any, ◌>>◌, nothing, then_at, or_at, unless, at_most, many}
use Rattle.ecma_lex.specs.Blanks.{is_line_terminator, line}
use Rattle.ecma_lex.specs.Hashbangs.{hashbang_end}
use Rattle.ecma_lex.specs.Text.{after, piece}
use Rattle.ecma_lex.specs.Tokens.{hashbang}
use Rattle.ecma_lex.proofs.Repeats.{then_some, code_point_stands}
use Rattle.ecma_lex.proofs.Suffixes.{wide-chars, once, Cut, cut_ascii, cut_utf8, chars_ascii, Opens, Stands, past, after_here, piece_here, skipped_gap}
use Rattle.ecma_lex.proofs.Spelled.{many_again}
use Rattle.ecma_shapes.specs.Modules.{IsHashbangText}

abbrev in_line : ℕ → Bool
in_line c = not (is_line_terminator c)

module _ (text : List ℕ) where
  -- what is no line terminator, character by character

  one_in_line : (i : ℕ) → unless (passing is_line_terminator) any text i ≡ passing in_line text i
  one_in_line i = go (char_at text i)
    where
      by : (b : Bool) (j : ℕ) → (if is_some (if b then Some j else None) then None else Some j) ≡ (if not b then Some j else None)
      by true j = refl
      by false j = refl

      go : (o : Option ℕ) → (if is_some (passes is_line_terminator i o) then None else passes (λ c. true) i o) ≡ passes in_line i o
      go None = refl
      go (Some c) = by (is_line_terminator c) (i + len_utf8 c)

  then_same : (p q : Part) → ((i : ℕ) → p text i ≡ q text i) → (o : Option ℕ) → then_at p text o ≡ then_at q text o
  then_same p q h None = refl
  then_same p q h (Some j) = h j

  at_most_same : (p q : Part) → ((i : ℕ) → p text i ≡ q text i) → (n i : ℕ) → at_most n p text i ≡ at_most n q text i
  unfolding at_most
  at_most_same p q h zero i = refl
  at_most_same p q h (suc n) i = ap (λ o. or_at nothing text i (then_at (at_most n p) text o)) (h i) ∙ ap (or_at nothing text i) (then_same (at_most n p) (at_most n q) (at_most_same p q h n) (q text i))

  line_is : (i : ℕ) → line text i ≡ many (passing in_line) text i
  unfolding line many
  line_is i = at_most_same (unless (passing is_line_terminator) any) (passing in_line) one_in_line (length text) i

  module _ (word rest : List ℕ) (h : IsHashbangText word) (e : text ≡ codes "#!" ++ (word ++ (10 ∷ rest))) where
    abbrev pub behind : List ℕ
    behind = word ++ (10 ∷ rest)

    pub behind_cut : Cut behind
    behind_cut = cut_utf8 word (10 ∷ rest) h.utf8 (cut_ascii 10 rest (omega arith))

    stands_0 : Stands text 0 (35 ∷ 33 ∷ behind)
    stands_0 = record { rest = e; within = (let l = ap length e in omega arith) }

    stands_1 : Stands text 1 (33 ∷ behind)
    stands_1 = past text (35 ∷ []) stands_0

    pub stands_2 : Stands text 2 (word ++ (10 ∷ rest))
    stands_2 = past text (33 ∷ []) stands_1

    opens : Opens (35 ∷ 33 ∷ behind)
    opens = record { cut = cut_ascii 35 (33 ∷ behind) (omega arith); clear = rw (chars_ascii 35 (33 ∷ behind) (omega arith)) refl }

    line_end : line text 2 ≡ Some (2 + length word)
    line_end =
        let st : Stands text 2 (encodes (chars word) ++ (10 ∷ rest)) = rw (encodes-chars word h.utf8) stands_2 in
        line_is 2
        ∙ many_again text in_line (chars word) (10 ∷ rest) 2 (scalars-chars word h.utf8) h.on_line st (cut_ascii 10 rest (omega arith)) (rw (chars_ascii 10 rest (omega arith)) refl)
        ∙ ap (λ n. Some (2 + n)) (wide-chars word h.utf8)

    ends_there : hashbang_end text 0 ≡ Some (2 + length word)
    unfolding hashbang_end
    ends_there =
        let first : after text 0 ≡ 35 ∷ chars (33 ∷ behind) = after_here text 0 (35 ∷ 33 ∷ behind) stands_0 opens.cut ∙ chars_ascii 35 (33 ∷ behind) (omega arith) in
        let second : after text 1 ≡ 33 ∷ chars behind = after_here text 1 (33 ∷ behind) stands_1 (cut_ascii 33 behind (omega arith)) ∙ chars_ascii 33 behind (omega arith) in
        then_some text (code_point 35) (code_point 33 >> line) 0 1 (code_point_stands text 35 0 (chars (33 ∷ behind)) first)
        ∙ (then_some text (code_point 33) line 1 2 (code_point_stands text 33 1 (chars behind) second) ∙ line_end)

    -- the token, and the text that it says
    pub hashbang_token : (b : Bool) × (hashbang text 0 ≡ Ok (record { start = 0; next = 2 + length word; new_line = b }))
    unfolding hashbang
    hashbang_token = let k = skipped_gap text once 0 (35 ∷ 33 ∷ behind) stands_0 opens in (k.0, rw (k.1, ends_there) refl)

    pub hashbang_says : piece text 2 (2 + length word) ≡ word
    hashbang_says = piece_here text 2 word (10 ∷ rest) stands_2 behind_cut (cut_ascii 10 rest (omega arith))
