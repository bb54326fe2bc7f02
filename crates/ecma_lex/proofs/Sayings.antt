-- What the text of a literal says, part by part.
use Rattle.std.proofs.Common.{◌≡◌, ℕ, zero, suc, ◌+◌, ◌-◌, ◌<◌, ◌≤◌, List, [], ◌∷◌, ◌++◌, length, get_or, refl, ap, sym, ◌∙◌, subst, arith, append_assoc, Option, Some, None, Bool, true, false, cond, not, ◌&&◌, ◌||◌, nat_lt, nat_le, nat_eq, is_some, map}
use Rattle.std.proofs.lemmas.List.{append-nil}
use Rattle.std.proofs.lemmas.Str.{utf16_chars_lone, utf16_chars_pair}
use Rattle.std.specs.Prelude.{unwrap_or}
use Rattle.std.specs.List.{list_any}
use Rattle.std.specs.Str.{encode_utf8_all}
use Rattle.std.specs.Char.{encode_utf8}
use Rattle.std.specs.Char.Utf16.{is_high_surrogate, is_low_surrogate, surrogate_pair_char, lone_unit_char, utf16_chars}
use Rattle.ecma_lex.specs.Parts.{many}
use Rattle.ecma_lex.specs.Values.{IsHigh, literal_part, part_value, code_points_up_to, code_points, text_of, ends_at, value_behind, onto, bytes_of, Joins}
use Rattle.ecma_lex.specs.declared.values.Joined.{Joined}
use Rattle.ecma_lex.specs.Escapes.{listed}
use Rattle.ecma_lex.proofs.Repeats.{many_none, many_some}
use Rattle.ecma_lex.proofs.Literals.{moves_part, after_start}

pub onto_twice : (xs ys : List ℕ) (o : Option (List ℕ)) → onto xs (onto ys o) ≡ onto (xs ++ ys) o
onto_twice xs ys None = refl
onto_twice xs ys (Some zs) = ap Some (sym (append_assoc xs ys zs))

pub onto_nothing : (o : Option (List ℕ)) → onto [] o ≡ o
onto_nothing None = refl
onto_nothing (Some zs) = refl

pub onto_some : (bs : List ℕ) (o : Option (List ℕ)) → is_some (onto bs o) ≡ is_some o
onto_some bs None = refl
onto_some bs (Some x) = refl

-- surrogates and other code points

abbrev IsPair : ℕ → ℕ → Type 0
IsPair u v = (0xD800 ≤ u) × (u < 0xDC00) × (0xDC00 ≤ v) × (v < 0xE000)

no_surrogate : (c : ℕ) → (nat_le 0xD800 c && nat_lt c 0xE000) ≡ false → 0xD800 ≤ c → c < 0xE000 → ⊥
no_surrogate c h a b = grind arith

high_bounds : (c : ℕ) → is_high_surrogate c ≡ true → (0xD800 ≤ c) × (c < 0xDC00)
high_bounds c h = (grind arith, grind arith)

low_bounds : (c : ℕ) → is_low_surrogate c ≡ true → (0xDC00 ≤ c) × (c < 0xE000)
low_bounds c h = (grind arith, grind arith)

not_low : (c : ℕ) → is_low_surrogate c ≡ false → 0xDC00 ≤ c → c < 0xE000 → ⊥
not_low c h a b = grind arith

-- the text of characters, of which some may be missing
abbrev spelled_by : List (Option ℕ) → Option (List ℕ)
spelled_by us = cond (list_any (λ o. not (is_some o)) us) None (Some (encode_utf8_all (map (λ o. unwrap_or o 0xFFFD) us)))

one_more : (c : ℕ) (us : List (Option ℕ)) → spelled_by (Some c ∷ us) ≡ onto (encode_utf8 c) (spelled_by us)
one_more c us = go (list_any (λ o. not (is_some o)) us)
  where
    go : (b : Bool) → cond b None (Some (encode_utf8 c ++ encode_utf8_all (map (λ o. unwrap_or o 0xFFFD) us))) ≡ onto (encode_utf8 c) (cond b None (Some (encode_utf8_all (map (λ o. unwrap_or o 0xFFFD) us))))
    go true = refl
    go false = refl

-- a code point that is no surrogate is a character of the text
pub says_itself : (c : ℕ) (rest : List ℕ) → (nat_le 0xD800 c && nat_lt c 0xE000) ≡ false → text_of (c ∷ rest) ≡ onto (encode_utf8 c) (text_of rest)
unfolding text_of
says_itself c rest h =
    let apart : ¬ (IsPair c (get_or rest 0 0)) = λ pair. no_surrogate c h pair.0 (omega (arith, pair.1)) in
    let alone : lone_unit_char c ≡ Some c = rw h refl in
    ap spelled_by (utf16_chars_lone c rest apart ∙ ap (λ o. o ∷ utf16_chars rest) alone) ∙ one_more c (utf16_chars rest)

-- a high one and a low one behind it are one character
pub pair_says : (high low : ℕ) (rest : List ℕ) → is_high_surrogate high ≡ true → is_low_surrogate low ≡ true → text_of (high ∷ low ∷ rest) ≡ onto (encode_utf8 (surrogate_pair_char high low)) (text_of rest)
unfolding text_of
pair_says high low rest h k =
    let a = high_bounds high h in
    let b = low_bounds low k in
    ap spelled_by (utf16_chars_pair high low rest (a.0, a.1, b.0, b.1)) ∙ one_more (surrogate_pair_char high low) (utf16_chars rest)

-- a surrogate that is not half of a pair says nothing
alone_none : (c : ℕ) (rest : List ℕ) → 0xD800 ≤ c → c < 0xE000 → ¬ (IsPair c (get_or rest 0 0)) → text_of (c ∷ rest) ≡ None
unfolding text_of
alone_none c rest a b apart =
    let alone : lone_unit_char c ≡ None = (let t : (nat_le 0xD800 c && nat_lt c 0xE000) ≡ true = grind arith in rw t refl) in
    ap spelled_by (utf16_chars_lone c rest apart ∙ ap (λ o. o ∷ utf16_chars rest) alone)

pub lone_high : (high c : ℕ) (rest : List ℕ) → is_high_surrogate high ≡ true → is_low_surrogate c ≡ false → text_of (high ∷ c ∷ rest) ≡ None
lone_high high c rest h k = let a = high_bounds high h in alone_none high (c ∷ rest) a.0 (omega (arith, a.1)) (λ pair. not_low c k pair.2 pair.3)

pub last_high : (high : ℕ) → is_high_surrogate high ≡ true → text_of (high ∷ []) ≡ None
last_high high h = let a = high_bounds high h in alone_none high [] a.0 (omega (arith, a.1)) (λ pair. absurd (omega (arith, pair.2)))

pub lone_low : (low : ℕ) (rest : List ℕ) → is_low_surrogate low ≡ true → text_of (low ∷ rest) ≡ None
lone_low low rest h = let b = low_bounds low h in alone_none low rest (omega (arith, b.0)) b.1 (λ pair. absurd (omega (arith, pair.1, b.0)))

pub nothing_says_nothing : text_of [] ≡ Some []
unfolding text_of utf16_chars
nothing_says_nothing = refl

pub ruleset joining = (says_itself, pair_says, lone_high, last_high, lone_low, nothing_says_nothing)

-- part by part

module _ (text : List ℕ) (in_template : Bool) where
  up_to_none : (n i : ℕ) → literal_part in_template text i ≡ None → code_points_up_to n in_template text i ≡ []
  unfolding code_points_up_to
  up_to_none zero i h = refl
  up_to_none (suc n) i h = rw h refl

  up_to_some : (n i j : ℕ) → literal_part in_template text i ≡ Some j → code_points_up_to (suc n) in_template text i ≡ part_value in_template text i j ++ code_points_up_to n in_template text j
  unfolding code_points_up_to
  up_to_some n i j h = rw h refl

  at_end : (i : ℕ) → length text ≤ i → literal_part in_template text i ≡ None
  at_end i h = go (literal_part in_template text i) refl
    where
      go : (o : Option ℕ) → literal_part in_template text i ≡ o → literal_part in_template text i ≡ None
      go None e = e
      go (Some j) e = absurd (let m = moves_part text in_template in let l = m.within i j e in omega arith)

  -- once the bound is as far as the text goes, it does not matter
  enough : (n m i : ℕ) → length text ≤ n + i → length text ≤ m + i → code_points_up_to n in_template text i ≡ code_points_up_to m in_template text i
  enough zero m i a b = let e = at_end i (omega arith) in up_to_none zero i e ∙ sym (up_to_none m i e)
  enough (suc n) zero i a b = let e = at_end i (omega arith) in up_to_none (suc n) i e ∙ sym (up_to_none zero i e)
  enough (suc n) (suc m) i a b = go (literal_part in_template text i) refl (enough n m)
    where
      go : (o : Option ℕ) → literal_part in_template text i ≡ o → ((j : ℕ) → length text ≤ n + j → length text ≤ m + j → code_points_up_to n in_template text j ≡ code_points_up_to m in_template text j) → code_points_up_to (suc n) in_template text i ≡ code_points_up_to (suc m) in_template text i
      go None e more = up_to_none (suc n) i e ∙ sym (up_to_none (suc m) i e)
      go (Some j) e more =
          let v = moves_part text in_template in
          let l = v.on i j e in
          up_to_some n i j e ∙ ap (λ l. part_value in_template text i j ++ l) (more j (omega arith) (omega arith)) ∙ sym (up_to_some m i j e)

  points_none : (i : ℕ) → literal_part in_template text i ≡ None → code_points in_template text i ≡ []
  unfolding code_points
  points_none i h = up_to_none (length text) i h

  points_some : (i j : ℕ) → literal_part in_template text i ≡ Some j → code_points in_template text i ≡ part_value in_template text i j ++ code_points in_template text j
  unfolding code_points
  points_some i j h =
      let v = moves_part text in_template in
      let l = v.on i j h in
      enough (length text) (suc (length text)) i (omega arith) (omega arith) ∙ up_to_some (length text) i j h

  -- what stands in front of a part, and the part, stand in front of what stands behind it
  pub behind_part : (points : List ℕ) (i j : ℕ) → literal_part in_template text i ≡ Some j → value_behind points in_template text i ≡ value_behind (points ++ part_value in_template text i j) in_template text j
  unfolding value_behind
  behind_part points i j h = rw (many_some text (literal_part in_template) (moves_part text in_template) i j h, points_some i j h, append_assoc points (part_value in_template text i j) (code_points in_template text j)) refl

  -- where no part stands before the end, there is no value
  pub no_part : (points : List ℕ) (i : ℕ) → literal_part in_template text i ≡ None → i < length text → value_behind points in_template text i ≡ None
  unfolding value_behind
  no_part points i h l = let e : nat_eq i (length text) ≡ false = grind arith in rw (many_none text (literal_part in_template) i h, e) refl

  -- at the end there are no more code points
  pub value_at_end : (points : List ℕ) (i : ℕ) → i ≡ length text → value_behind points in_template text i ≡ text_of points
  unfolding value_behind
  value_at_end points i h =
      let n = at_end i (omega arith) in
      let e : nat_eq i (length text) ≡ true = grind arith in
      rw (many_none text (literal_part in_template) i n, e, points_none i n, append-nil points) refl

  -- what a surrogate that waits at the end says
  abbrev pub ending : Option ℕ → Option (List ℕ)
  ending None = Some []
  ending (Some high) = None

  pub ends_so : (high : Option ℕ) (i : ℕ) → IsHigh high → i ≤ length text → length text ≤ i → value_behind (listed high) in_template text i ≡ ending high
  ends_so None i h a b = value_at_end [] i (omega arith) ∙ nothing_says_nothing
  ends_so (Some high) i h a b = value_at_end (high ∷ []) i (omega arith) ∙ last_high high h

  -- a part that is read says what its code point does behind the surrogate that waits

  regroup : (high code : Option ℕ) (i j : ℕ) → listed code ≡ part_value in_template text i j → text_of ((listed high ++ part_value in_template text i j) ++ code_points in_template text j) ≡ text_of (listed high ++ (listed code ++ code_points in_template text j))
  regroup high code i j h = rw (← h) (ap text_of (append_assoc (listed high) (listed code) (code_points in_template text j)))

  pub read_none : (high code : Option ℕ) (i j : ℕ) → literal_part in_template text i ≡ Some j → listed code ≡ part_value in_template text i j → Joins high code None → value_behind (listed high) in_template text i ≡ None
  unfolding value_behind
  read_none high code i j h k joins = behind_part (listed high) i j h ∙ go (ends_at (length text) (many (literal_part in_template) text j))
    where
      go : (b : Bool) → cond b (text_of ((listed high ++ part_value in_template text i j) ++ code_points in_template text j)) None ≡ None
      go true = regroup high code i j k ∙ joins (code_points in_template text j)
      go false = refl

  pub read_some : (high code : Option ℕ) (joined : Joined) (i j : ℕ) → literal_part in_template text i ≡ Some j → listed code ≡ part_value in_template text i j → Joins high code (Some joined) → value_behind (listed high) in_template text i ≡ onto (bytes_of joined.says) (value_behind (listed joined.high) in_template text j)
  unfolding value_behind
  read_some high code joined i j h k joins = behind_part (listed high) i j h ∙ go (ends_at (length text) (many (literal_part in_template) text j))
    where
      go : (b : Bool) → cond b (text_of ((listed high ++ part_value in_template text i j) ++ code_points in_template text j)) None ≡ onto (bytes_of joined.says) (cond b (text_of (listed joined.high ++ code_points in_template text j)) None)
      go true = regroup high code i j k ∙ joins (code_points in_template text j)
      go false = refl

pub ruleset valuing = (onto_nothing, onto_twice, onto_some, ends_so, append-nil)

-- what a character says in a raw text, in bytes
pub encode_listed : (says : Option ℕ) (cs : List ℕ) → encode_utf8_all (listed says ++ cs) ≡ bytes_of says ++ encode_utf8_all cs
encode_listed None cs = refl
encode_listed (Some c) cs = refl

pub ruleset raw = (encode_listed, append_assoc, append-nil, after_start)
