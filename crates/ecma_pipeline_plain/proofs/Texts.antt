-- The text that an id gets is its own, or its own with digits behind it: so it is UTF-8 where its own is.
use Rattle.std.proofs.Common.{◌≡◌, ◌⊎◌, inl, inr, ◌∙◌, refl, sym, ap, subst, ℕ, zero, suc, ◌+◌, ◌<◌, ◌==◌, ◌%◌, ◌/◌, Bool, true, false, cond, if◌then◌else◌, List, [], ◌∷◌, ◌++◌, Option, Some, None, unwrap_or, arith}
use Rattle.std.specs.Fmt.{decimal, digit_glyph, digits, digits_onto}
use Rattle.std.specs.Str.{IsAscii, IsUtf8}
use Rattle.std.proofs.Math.Nat.{mod-lt}
use Rattle.std.proofs.lemmas.Bool.{lt-ltb}
use Rattle.std.proofs.lemmas.Str.{IsUtf8-append, IsUtf8-from_ascii}
use Rattle.ecma_hygiene.specs.declared.naming.Named.{Named}
use Rattle.ecma_hygiene.specs.declared.sight.Meeting.{Meeting}
use Rattle.ecma_hygiene.specs.declared.sight.Sight.{Sight}
use Rattle.ecma_hygiene.specs.Ids.{Id, same_id}
use Rattle.ecma_hygiene.specs.Renamed.{text_of}
use Rattle.ecma_hygiene.specs.Texts.{AreTexts, GetTexts, Had, IsNumbered, changing_bindings, had_with, last_text, new_bindings, rule, source_has, text_in, with_text}
use Rattle.ecma_hygiene_scopes.proofs.Membership.{id-same}

-- ---- digits are ASCII

glyph_ascii : (n : ℕ) → digit_glyph false (n % 10) < 128
glyph_ascii n =
    let less : n % 10 < 10 = mod-lt n (omega arith) in
    let is : digit_glyph false (n % 10) ≡ 48 + n % 10 = ap (λ b. if b then 48 + n % 10 else 87 + n % 10) (lt-ltb (n % 10) 10 less) in
    subst (λ z. z < 128) (sym is) (omega (arith, less))

ascii_more : (c : ℕ) (cs : List ℕ) → c < 128 → IsAscii cs → IsAscii (c ∷ cs)
ascii_more c cs h hs zero = h
ascii_more c cs h hs (suc i) = hs i

ascii_if : (b : Bool) (xs ys : List ℕ) → IsAscii xs → IsAscii ys → IsAscii (if b then xs else ys)
ascii_if true xs ys h g = h
ascii_if false xs ys h g = g

ascii_onto : (k n : ℕ) (acc : List ℕ) → IsAscii acc → IsAscii (digits_onto k 10 false n acc)
ascii_onto zero n acc h = h
ascii_onto (suc k) n acc h =
    let more = ascii_more (digit_glyph false (n % 10)) acc (glyph_ascii n) h in
    ascii_if (n / 10 == 0) (digit_glyph false (n % 10) ∷ acc) (digits_onto k 10 false (n / 10) (digit_glyph false (n % 10) ∷ acc)) more (ascii_onto k (n / 10) (digit_glyph false (n % 10) ∷ acc) more)

ascii_none : IsAscii []
ascii_none i = omega arith

ascii_decimal : (n : ℕ) → IsAscii (decimal n)
unfolding digits
ascii_decimal n = ascii_onto 64 n [] ascii_none

-- ---- texts that are made of others

abbrev Keeps : List ℕ → List ℕ → Type 0
Keeps text made = IsUtf8 text → IsUtf8 made

numbered_keeps : (had : Had) (text made : List ℕ) → IsNumbered had text made → Keeps text made
numbered_keeps had text made r h = subst IsUtf8 (sym r.is) (IsUtf8-append text (decimal r.number) h (IsUtf8-from_ascii (decimal r.number) (ascii_decimal r.number)))

rule_keeps : (may_keep : Bool) (had : Had) (text made : List ℕ) → rule may_keep had text made → Keeps text made
rule_keeps false had text made r h = numbered_keeps had text made r h
rule_keeps true had text made r h = by (had text) r
  where
    by : (b : Bool) → cond b (IsNumbered had text made) (made ≡ text) → IsUtf8 made
    by true r = numbered_keeps had text made r h
    by false is = subst IsUtf8 (sym is) h

module _ (id : Id) (text : List ℕ) where
  some_is : (s : List ℕ) → ◌≡◌ {A = Option (List ℕ)} (Some s) (Some text) → s ≡ text
  some_is s e = cc

  got : (may_keep : Bool) (had : Had) (ids : List Id) (names : List Named) → GetTexts may_keep had ids names → (before : Option (List ℕ)) → last_text names id before ≡ Some text → Keeps id.0 text ⊎ (before ≡ Some text)
  got may_keep had [] [] g before h = inr h
  got may_keep had [] (n ∷ names) g before h = absurd g
  got may_keep had (i ∷ ids) [] g before h = absurd g
  got may_keep had (i ∷ ids) (n ∷ names) g before h = after (got may_keep (with_text n.text had) ids names g.2 (cond (same_id n.id id) (Some n.text) before) h)
    where
      own : (b : Bool) → same_id n.id id ≡ b → cond b (Some n.text) before ≡ Some text → Keeps id.0 text ⊎ (before ≡ Some text)
      own false e was = inr was
      own true e was =
          let same : i ≡ id = sym g.0 ∙ id-same n.id id e in
          inl (subst (λ (z : Id). Keeps z.0 text) same (subst (Keeps i.0) (some_is n.text was) (rule_keeps may_keep had i.0 n.text g.1)))

      after : Keeps id.0 text ⊎ (cond (same_id n.id id) (Some n.text) before ≡ Some text) → Keeps id.0 text ⊎ (before ≡ Some text)
      after (inl k) = inl k
      after (inr was) = own (same_id n.id id) refl was

  none_some : ◌≡◌ {A = Option (List ℕ)} None (Some text) → Keeps id.0 text
  none_some e = absurd (cc)

  appended : (names others : List Named) (before : Option (List ℕ)) → last_text (names ++ others) id before ≡ last_text others id (last_text names id before)
  appended [] others before = refl
  appended (n ∷ names) others before = appended names others (cond (same_id n.id id) (Some n.text) before)

  text_keeps : (seen : List Sight) (met : List Meeting) (names : List Named) → AreTexts seen met names → text_in names id ≡ Some text → Keeps id.0 text
  text_keeps seen met names are h =
      changed (got false (had_with are.new (source_has seen)) (changing_bindings seen met) are.changed are.of_changed (last_text are.new id None) (sym (ap (λ ns. last_text ns id None) are.are ∙ appended are.new are.changed None) ∙ h))
    where
      new : Keeps id.0 text ⊎ (◌≡◌ {A = Option (List ℕ)} None (Some text)) → Keeps id.0 text
      new (inl k) = k
      new (inr e) = none_some e

      changed : Keeps id.0 text ⊎ (last_text are.new id None ≡ Some text) → Keeps id.0 text
      changed (inl k) = k
      changed (inr was) = new (got true (source_has seen) (new_bindings seen) are.new are.of_new None was)

pub final_text_utf8 : (seen : List Sight) (met : List Meeting) (names : List Named) → AreTexts seen met names → (id : Id) → IsUtf8 id.0 → IsUtf8 (text_of (text_in names) id)
final_text_utf8 seen met names are id h = by (text_in names id) refl
  where
    by : (o : Option (List ℕ)) → text_in names id ≡ o → IsUtf8 (unwrap_or o id.0)
    by None e = h
    by (Some text) e = text_keeps id text seen met names are e h
