-- What is written for a text is what is written for each of its characters.
use Rattle.std.proofs.Common.{◌≡◌, ◌∙◌, ℕ, ◌+◌, ◌/◌, ◌%◌, ◌<◌, ◌≤◌, Bool, true, false, cond, ◌&&◌, ◌||◌, eqb, nat_eq, nat_lt, List, [], ◌∷◌, ◌++◌, refl, sym, ap, subst, arith, inl, inr}
use Rattle.std.proofs.lemmas.Bool.{cases_lt, eqb-true}
use Rattle.std.proofs.lemmas.Bool.Decides.{nat_tests}
use Rattle.std.proofs.lemmas.Str.{encode_ascii}
use lib.Utf8.{encode, encodes}
use Rattle.ecma_print.specs.Escapes.{begins_with_separator, escape, escaped, is_separator, separator_escape}
use Rattle.ecma_print.proofs.Escaping.{escaped-unit}

-- what is written for a character
abbrev pub written : ℕ → List ℕ
written c = cond (nat_eq c 0x2028) (separator_escape 168) (cond (nat_eq c 0x2029) (separator_escape 169) (cond (nat_lt c 128) (escape c) (encode c)))

abbrev pub written_all : List ℕ → List ℕ
written_all [] = []
written_all (c ∷ cs) = written c ++ written_all cs

one_byte : (a : ℕ) (s : List ℕ) → begins_with_separator (a ∷ s) ≡ false → escaped (a ∷ s) ≡ escape a ++ escaped s
one_byte a s h = escaped-unit (a ∷ s) ∙ rw h refl

no_separator : (a : ℕ) (s : List ℕ) → eqb a 226 ≡ false → begins_with_separator (a ∷ s) ≡ false
no_separator a [] h = refl
no_separator a (b ∷ []) h = refl
no_separator a (b ∷ c ∷ s) h = rw h refl

plain_byte : (b : ℕ) → 128 ≤ b → escape b ≡ b ∷ []
plain_byte b h =
    let quote : eqb b 34 ≡ false = grind (arith, nat_tests) in
    let backslash : eqb b 92 ≡ false = grind (arith, nat_tests) in
    let feed : eqb b 10 ≡ false = grind (arith, nat_tests) in
    let return : eqb b 13 ≡ false = grind (arith, nat_tests) in
    rw (quote, backslash, feed, return) refl

high_byte : (b : ℕ) (s : List ℕ) → 128 ≤ b → begins_with_separator (b ∷ s) ≡ false → escaped (b ∷ s) ≡ b ∷ escaped s
high_byte b s h k = one_byte b s k ∙ ap (λ l. l ++ escaped s) (plain_byte b h)

-- a byte that begins no separator
other_byte : (b : ℕ) (s : List ℕ) → 128 ≤ b → (b ≡ 226 → ⊥) → escaped (b ∷ s) ≡ b ∷ escaped s
other_byte b s h k = let e : eqb b 226 ≡ false = grind (arith, nat_tests) in high_byte b s h (no_separator b s e)

-- the bytes of another character are not those of a separator
apart : (c : ℕ) → c < 65536 → nat_eq c 0x2028 ≡ false → nat_eq c 0x2029 ≡ false → is_separator (224 + c / 4096) (128 + (c / 64) % 64) (128 + c % 64) ≡ false
apart c small h k = go (eqb (224 + c / 4096) 226) (eqb (128 + (c / 64) % 64) 128) (eqb (128 + c % 64) 168) (eqb (128 + c % 64) 169) refl refl refl refl
  where
    go : (x y a b : Bool) → eqb (224 + c / 4096) 226 ≡ x → eqb (128 + (c / 64) % 64) 128 ≡ y → eqb (128 + c % 64) 168 ≡ a → eqb (128 + c % 64) 169 ≡ b → (x && y && (a || b)) ≡ false
    go false y a b e f g i = refl
    go true false a b e f g i = refl
    go true true false false e f g i = refl
    go true true true b e f g i = let p = eqb-true _ _ e in let q = eqb-true _ _ f in let r = eqb-true _ _ g in let is : c ≡ 0x2028 = omega arith in absurd (grind (arith, nat_tests))
    go true true false true e f g i = let p = eqb-true _ _ e in let q = eqb-true _ _ f in let r = eqb-true _ _ i in let is : c ≡ 0x2029 = omega arith in absurd (grind (arith, nat_tests))

two_bytes : (c : ℕ) (s : List ℕ) → 128 ≤ c → c < 2048 → escaped (encode c ++ s) ≡ encode c ++ escaped s
unfolding encode
two_bytes c s low high =
    let a : nat_lt c 128 ≡ false = grind (arith, nat_tests) in
    let b : nat_lt c 2048 ≡ true = grind (arith, nat_tests) in
    let x = 192 + c / 64 in
    let y = 128 + c % 64 in
    rw (a, b) (other_byte x (y ∷ s) (omega arith) (λ e. omega arith) ∙ ap (λ (l : List ℕ). x ∷ l) (other_byte y s (omega arith) (λ e. omega arith)))

three_bytes : (c : ℕ) (s : List ℕ) → 2048 ≤ c → c < 65536 → nat_eq c 0x2028 ≡ false → nat_eq c 0x2029 ≡ false → escaped (encode c ++ s) ≡ encode c ++ escaped s
unfolding encode
three_bytes c s low high h k =
    let a : nat_lt c 128 ≡ false = grind (arith, nat_tests) in
    let b : nat_lt c 2048 ≡ false = grind (arith, nat_tests) in
    let d : nat_lt c 65536 ≡ true = grind (arith, nat_tests) in
    let x = 224 + c / 4096 in
    let y = 128 + (c / 64) % 64 in
    let z = 128 + c % 64 in
    rw (a, b, d)
    (high_byte x (y ∷ z ∷ s) (omega arith) (apart c high h k)
    ∙ ap (λ (l : List ℕ). x ∷ l) (other_byte y (z ∷ s) (omega arith) (λ e. omega arith) ∙ ap (λ (l : List ℕ). y ∷ l) (other_byte z s (omega arith) (λ e. omega arith))))

four_bytes : (c : ℕ) (s : List ℕ) → 65536 ≤ c → escaped (encode c ++ s) ≡ encode c ++ escaped s
unfolding encode
four_bytes c s low =
    let a : nat_lt c 128 ≡ false = grind (arith, nat_tests) in
    let b : nat_lt c 2048 ≡ false = grind (arith, nat_tests) in
    let d : nat_lt c 65536 ≡ false = grind (arith, nat_tests) in
    let w = 240 + c / 262144 in
    let x = 128 + (c / 4096) % 64 in
    let y = 128 + (c / 64) % 64 in
    let z = 128 + c % 64 in
    rw (a, b, d)
    (other_byte w (x ∷ y ∷ z ∷ s) (omega arith) (λ e. omega arith)
    ∙ ap (λ (l : List ℕ). w ∷ l) (other_byte x (y ∷ z ∷ s) (omega arith) (λ e. omega arith)
    ∙ ap (λ (l : List ℕ). x ∷ l) (other_byte y (z ∷ s) (omega arith) (λ e. omega arith) ∙ ap (λ (l : List ℕ). y ∷ l) (other_byte z s (omega arith) (λ e. omega arith)))))

wide_character : (c : ℕ) (s : List ℕ) → 128 ≤ c → nat_eq c 0x2028 ≡ false → nat_eq c 0x2029 ≡ false → escaped (encode c ++ s) ≡ encode c ++ escaped s
wide_character c s low h k = elim (cases_lt c 2048) [
  | inl two ↦ two_bytes c s low two
  | inr more ↦ elim (cases_lt c 65536) [ inl three ↦ three_bytes c s more three h k | inr four ↦ four_bytes c s four ]
]

narrow_character : (c : ℕ) (s : List ℕ) → c < 128 → escaped (encode c ++ s) ≡ escape c ++ escaped s
narrow_character c s small =
    let e : eqb c 226 ≡ false = grind (arith, nat_tests) in
    ap (λ l. escaped (l ++ s)) (encode_ascii c small) ∙ one_byte c s (no_separator c s e)

first_separator : (s : List ℕ) → escaped (encode 0x2028 ++ s) ≡ separator_escape 168 ++ escaped s
unfolding escaped encode
first_separator s = refl

second_separator : (s : List ℕ) → escaped (encode 0x2029 ++ s) ≡ separator_escape 169 ++ escaped s
unfolding escaped encode
second_separator s = refl

-- the character at the front
written_front : (c : ℕ) (s : List ℕ) → escaped (encode c ++ s) ≡ written c ++ escaped s
written_front c s = go (nat_eq c 0x2028) (nat_eq c 0x2029) (nat_lt c 128) refl refl refl
  where
    go : (a b d : Bool) → nat_eq c 0x2028 ≡ a → nat_eq c 0x2029 ≡ b → nat_lt c 128 ≡ d
        → escaped (encode c ++ s) ≡ cond a (separator_escape 168) (cond b (separator_escape 169) (cond d (escape c) (encode c))) ++ escaped s
    go true b d e f g = subst (λ x. escaped (encode x ++ s) ≡ separator_escape 168 ++ escaped s) (sym (eqb-true c 0x2028 e)) (first_separator s)
    go false true d e f g = subst (λ x. escaped (encode x ++ s) ≡ separator_escape 169 ++ escaped s) (sym (eqb-true c 0x2029 f)) (second_separator s)
    go false false true e f g = narrow_character c s (let small : c < 128 = grind (arith, nat_tests) in small)
    go false false false e f g = wide_character c s (let large : 128 ≤ c = grind (arith, nat_tests) in large) e f

pub escaped_is_written : (cs : List ℕ) → escaped (encodes cs) ≡ written_all cs
unfolding escaped
escaped_is_written [] = refl
escaped_is_written (c ∷ cs) = written_front c (encodes cs) ∙ ap (λ l. written c ++ l) (escaped_is_written cs)
