-- Blanks cut off the two ends of a text.
use Rattle.std.proofs.Common.{◌≡◌, ◌∙◌, sym, ap, subst, refl, ℕ, true, false, List, [], ◌∷◌, ◌++◌, length, take, reverse, append-nil}
use Rattle.std.proofs.Math.Seq.{take-append_seam}
use Rattle.std.proofs.lemmas.List.{reverse-append, reverse-reverse}
use Rattle.std.specs.Str.{chars, IsUtf8, IsCharBoundary, encode_utf8_all}
use Rattle.std.specs.Char.{IsScalar, encode_utf8}
use Rattle.std.proofs.lemmas.Str.{chars-nil, chars_past_char, chars-append, encodes-chars, IsUtf8-encode, IsUtf8-take, IsCharBoundary-at_seam}
use Rattle.ecma_number.specs.Blanks.{is_blank, without_blanks, front_trimmed, end_trimmed}

pub front_trimmed-nil : front_trimmed [] ≡ []
unfolding front_trimmed
front_trimmed-nil = rw chars-nil refl

pub end_trimmed-nil : end_trimmed [] ≡ []
unfolding end_trimmed
end_trimmed-nil = rw chars-nil refl

pub front_trimmed-blank : (text rest : List ℕ) (code : ℕ) → IsUtf8 text → text ≡ encode_utf8 code ++ rest → is_blank code ≡ true → front_trimmed text ≡ front_trimmed rest
unfolding front_trimmed
front_trimmed-blank text rest code utf8 parts blank =
    rw (chars_past_char text rest code utf8 parts, blank) refl

pub front_trimmed-kept : (text rest : List ℕ) (code : ℕ) → IsUtf8 text → text ≡ encode_utf8 code ++ rest → is_blank code ≡ false → front_trimmed text ≡ text
unfolding front_trimmed
front_trimmed-kept text rest code utf8 parts kept =
    let begins : chars text ≡ code ∷ chars rest = chars_past_char text rest code utf8 parts in
    let same : without_blanks (chars text) ≡ chars text = rw (begins, kept) refl in
    ap encode_utf8_all same ∙ encodes-chars text utf8

-- the text before the last character, and the characters from the end on
IsUtf8-front : (text rest : List ℕ) (code : ℕ) → IsUtf8 text → IsScalar code → text ≡ rest ++ encode_utf8 code → IsUtf8 rest
IsUtf8-front text rest code utf8 scalar parts =
    let boundary : IsCharBoundary text (length rest) = IsCharBoundary-at_seam text rest (encode_utf8 code) parts (IsUtf8-encode code scalar) in
    let front : take (length rest) text ≡ rest = ap (take (length rest)) parts ∙ take-append_seam rest (encode_utf8 code) in
    subst IsUtf8 front (IsUtf8-take text (length rest) utf8 boundary)

chars-last : (text rest : List ℕ) (code : ℕ) → IsUtf8 text → IsScalar code → text ≡ rest ++ encode_utf8 code → reverse (chars text) ≡ code ∷ reverse (chars rest)
chars-last text rest code utf8 scalar parts =
    let alone : chars (encode_utf8 code) ≡ code ∷ [] =
    chars_past_char (encode_utf8 code) [] code (IsUtf8-encode code scalar) (sym (append-nil (encode_utf8 code))) ∙ ap (λ others. code ∷ others) chars-nil in
    let all : chars text ≡ chars rest ++ code ∷ [] =
    ap chars parts ∙ chars-append rest (encode_utf8 code) (IsUtf8-front text rest code utf8 scalar parts) ∙ ap (λ last. chars rest ++ last) alone in
    ap reverse all ∙ reverse-append (chars rest) (code ∷ [])

pub end_trimmed-blank : (text rest : List ℕ) (code : ℕ) → IsUtf8 text → IsScalar code → text ≡ rest ++ encode_utf8 code → is_blank code ≡ true → end_trimmed text ≡ end_trimmed rest
unfolding end_trimmed
end_trimmed-blank text rest code utf8 scalar parts blank =
    rw (chars-last text rest code utf8 scalar parts, blank) refl

pub end_trimmed-kept : (text rest : List ℕ) (code : ℕ) → IsUtf8 text → IsScalar code → text ≡ rest ++ encode_utf8 code → is_blank code ≡ false → end_trimmed text ≡ text
unfolding end_trimmed
end_trimmed-kept text rest code utf8 scalar parts kept =
    let ends : reverse (chars text) ≡ code ∷ reverse (chars rest) = chars-last text rest code utf8 scalar parts in
    let same : without_blanks (reverse (chars text)) ≡ reverse (chars text) = rw (ends, kept) refl in
    ap (λ codes. encode_utf8_all (reverse codes)) same
    ∙ ap encode_utf8_all (reverse-reverse (chars text))
    ∙ encodes-chars text utf8
