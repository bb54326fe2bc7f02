-- The texts that bindings get are no reserved words: they end in a digit, or are their own.
use Rattle.std.proofs.Common.{◌≡◌, ◌∙◌, ◌⊎◌, inl, inr, ℕ, zero, suc, ◌+◌, ◌/◌, ◌%◌, ◌<◌, Bool, true, false, ◌==◌, bytes_eq, codes, cond, nat_lt, nat_eq, List, [], ◌∷◌, ◌++◌, Option, Some, None, refl, sym, ap, subst, unwrap_or, arith}
use Rattle.std.specs.List.{list_any}
use Rattle.std.proofs.lemmas.Bool.{and_parts, false≢true, lt-ltb, or_from, or_parts}
use Rattle.std.proofs.lemmas.Slice.Eq.{bytes_eq-Decides}
use Rattle.std.specs.Fmt.{decimal, digit_glyph, digits, digits_onto}
use Rattle.ecma_lex.specs.Keys.{is_reserved, reserved_words}
use Rattle.ecma_hygiene.specs.declared.naming.Named.{Named}
use Rattle.ecma_hygiene.specs.Ids.{Id, same_id}
use Rattle.ecma_hygiene.specs.Texts.{GetTexts, Had, IsNumbered, last_text, rule, with_text}
use Rattle.ecma_hygiene_fits.specs.Laws.{HygienicTextsAreUnreserved}
use Rattle.ecma_hygiene_fits.specs.Unreserved.{IsUnreserved}
use Rattle.std.proofs.Math.Nat.{mod-lt}

-- ---- digits

-- the last code of a text is that of a digit, or below
ends_low : List ℕ → Bool
ends_low [] = false
ends_low (c ∷ []) = nat_lt c 58
ends_low (c ∷ d ∷ cs) = ends_low (d ∷ cs)

behind : (c : ℕ) (cs : List ℕ) → ends_low cs ≡ true → ends_low (c ∷ cs) ≡ true
unfolding ends_low
behind c [] h = absurd (false≢true h)
behind c (d ∷ cs) h = h

behind_text : (text cs : List ℕ) → ends_low cs ≡ true → ends_low (text ++ cs) ≡ true
behind_text [] cs h = h
behind_text (c ∷ text) cs h = behind c (text ++ cs) (behind_text text cs h)

onto_low : (k n c : ℕ) (cs : List ℕ) → ends_low (c ∷ cs) ≡ true → ends_low (digits_onto k 10 false n (c ∷ cs)) ≡ true
unfolding ends_low
onto_low zero n c cs h = h
onto_low (suc k) n c cs h = go (n / 10 == 0) (onto_low k (n / 10) (digit_glyph false (n % 10)) (c ∷ cs) h)
  where
    go : (b : Bool) → ends_low (digits_onto k 10 false (n / 10) (digit_glyph false (n % 10) ∷ c ∷ cs)) ≡ true
        → ends_low (cond b (digit_glyph false (n % 10) ∷ c ∷ cs) (digits_onto k 10 false (n / 10) (digit_glyph false (n % 10) ∷ c ∷ cs))) ≡ true
    go true e = h
    go false e = e

glyph_low : (d : ℕ) → d < 10 → nat_lt (digit_glyph false d) 58 ≡ true
glyph_low d h = ap (λ b. nat_lt (cond b (48 + d) (87 + d)) 58) (lt-ltb d 10 h) ∙ lt-ltb (48 + d) 58 (omega (arith, h))

decimal_low : (n : ℕ) → ends_low (decimal n) ≡ true
unfolding ends_low digits
decimal_low n = go (n / 10 == 0)
  where
    last : ends_low (digit_glyph false (n % 10) ∷ []) ≡ true
    last = glyph_low (n % 10) (let some : 0 < 10 = omega arith in mod-lt n some)

    go : (b : Bool) → ends_low (cond b (digit_glyph false (n % 10) ∷ []) (digits_onto 63 10 false (n / 10) (digit_glyph false (n % 10) ∷ []))) ≡ true
    go true = last
    go false = onto_low 63 (n / 10) (digit_glyph false (n % 10)) [] last

-- ---- words

words_high : list_any ends_low reserved_words ≡ false
unfolding ends_low reserved_words
words_high = refl

arguments_high : ends_low (codes "arguments") ≡ false
unfolding ends_low
arguments_high = refl

other : (word text : List ℕ) → ends_low word ≡ false → ends_low text ≡ true → bytes_eq word text ≡ false
other word text h low = go (bytes_eq word text) refl
  where
    go : (b : Bool) → bytes_eq word text ≡ b → bytes_eq word text ≡ false
    go false e = e
    go true e = absurd (false≢true (sym h ∙ (ap ends_low ((bytes_eq-Decides word text).0 e) ∙ low)))

none_of : (words : List (List ℕ)) (text : List ℕ) → list_any ends_low words ≡ false → ends_low text ≡ true → list_any (λ word. bytes_eq word text) words ≡ false
none_of [] text h low = refl
none_of (word ∷ words) text h low =
    let t = or_parts (ends_low word) (list_any ends_low words) h in
    or_from (bytes_eq word text) (list_any (λ z. bytes_eq z text) words) (other word text t.0 low) (none_of words text t.1 low)

low_unreserved : (text : List ℕ) → ends_low text ≡ true → IsUnreserved text
unfolding is_reserved
low_unreserved text low = record { unreserved = none_of reserved_words text words_high low; no_arguments = go (bytes_eq text (codes "arguments")) refl }
  where
    go : (b : Bool) → bytes_eq text (codes "arguments") ≡ b → bytes_eq text (codes "arguments") ≡ false
    go false e = e
    go true e = absurd (false≢true (sym arguments_high ∙ (ap ends_low (sym ((bytes_eq-Decides text (codes "arguments")).0 e)) ∙ low)))

-- ---- texts

-- a text is that of the id, or no reserved word
abbrev IsFor : Id → List ℕ → Type 0
IsFor id text = (text ≡ id.0) ⊎ IsUnreserved text

abbrev AllFor : List Named → Type 0
AllFor [] = Unit {0}
AllFor (named ∷ names) = IsFor named.id named.text × AllFor names

numbered_for : (had : Had) (base text : List ℕ) → IsNumbered had base text → IsUnreserved text
numbered_for had base text is = low_unreserved text (ap ends_low is.is ∙ behind_text base (decimal is.number) (decimal_low is.number))

rule_for : (may_keep : Bool) (had : Had) (id : Id) (text : List ℕ) → rule may_keep had id.0 text → IsFor id text
rule_for false had id text is = inr (numbered_for had id.0 text is)
rule_for true had id text is = go (had id.0) is
  where
    go : (b : Bool) → cond b (IsNumbered had id.0 text) (text ≡ id.0) → IsFor id text
    go true is = inr (numbered_for had id.0 text is)
    go false is = inl is

texts_for : (may_keep : Bool) (had : Had) (ids : List Id) (names : List Named) → GetTexts may_keep had ids names → AllFor names
texts_for may_keep had [] [] get = tt
texts_for may_keep had [] (named ∷ names) get = absurd get
texts_for may_keep had (id ∷ ids) [] get = absurd get
texts_for may_keep had (id ∷ ids) (named ∷ names) get =
    (subst (λ z. IsFor z named.text) (sym get.0) (rule_for may_keep had id named.text get.1), texts_for may_keep (with_text named.text had) ids names get.2)

all_append : (new changed : List Named) → AllFor new → AllFor changed → AllFor (new ++ changed)
all_append [] changed a b = b
all_append (named ∷ new) changed a b = (a.0, all_append new changed a.1 b)

last_for : (names : List Named) (id : Id) (before : Option (List ℕ)) → AllFor names → IsFor id (unwrap_or before id.0) → IsFor id (unwrap_or (last_text names id before) id.0)
last_for [] id before all h = h
last_for (named ∷ names) id before all h = last_for names id (cond (same_id named.id id) (Some named.text) before) all.1 (go (same_id named.id id) refl)
  where
    go : (b : Bool) → same_id named.id id ≡ b → IsFor id (unwrap_or (cond b (Some named.text) before) id.0)
    go false e = h
    go true e =
        subst (λ z. (named.text ≡ z) ⊎ IsUnreserved named.text) ((bytes_eq-Decides named.id.0 id.0).0 (and_parts (bytes_eq named.id.0 id.0) (nat_eq named.id.1 id.1) e).0) all.0

pub texts_unreserved : HygienicTextsAreUnreserved
texts_unreserved tree names are id =
    last_for names id None (subst AllFor (sym are.are) (all_append are.new are.changed (texts_for true _ _ are.new are.of_new) (texts_for false _ _ are.changed are.of_changed))) (inl refl)
