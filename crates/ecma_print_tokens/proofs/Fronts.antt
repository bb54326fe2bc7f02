-- The characters that tokens begin with, and what begins with none of them.
use Rattle.std.proofs.Common.{◌≡◌, ℕ, ◌≤◌, List, [], ◌∷◌, ◌++◌, length, refl, ap, sym, ◌∙◌, arith, Bool, true, false, not, ◌||◌, nat_eq}
use Rattle.std.specs.List.{list_all, list_any}
use Rattle.std.specs.Str.{IsUtf8, chars}
use Rattle.std.specs.Char.{is_digit, is_ascii_digit}
use Rattle.std.proofs.lemmas.Bool.{and_parts, or_from, eqb-true, false≢true, not-true}
use Rattle.std.proofs.lemmas.Bool.Decides.{nat_tests}
use Rattle.std.proofs.lemmas.Str.{chars-append, chars-nil}
use Rattle.unicode_ident.specs.Ident.{is_xid_start, is_xid_continue}
use Rattle.ucd_table.specs.Rows.{in_ranges}
use Rattle.ucd_derived.specs.XidStartRanges.{xid_start_ranges}
use Rattle.ucd_derived.specs.XidContinueRanges.{xid_continue_ranges}
use Rattle.ecma_number.specs.Numeral.{begins}
use Rattle.ecma_lex.specs.Keys.{is_valid_start, is_valid_continue}
use Rattle.ecma_lex.specs.Strings.{is_quote}
use Rattle.ecma_lex.specs.Numerals.{touches}
use Rattle.ecma_lex.proofs.Suffixes.{clear, clear_front}
use Rattle.ecma_lex.proofs.Spelled.{stops}
use Rattle.ecma_lex.proofs.NumeralReading.{begins_num}
use Rattle.ecma_print_tokens.specs.Good.{continues_numeral, begins_comment}

-- whether a character is one of some
abbrev pub one_of : List ℕ → ℕ → Bool
one_of ks c = list_any (λ k. nat_eq c k) ks

-- a character of a kind is none of those that are not of it
pub apart : (p : ℕ → Bool) (ks : List ℕ) → list_all (λ k. not (p k)) ks ≡ true → (c : ℕ) → p c ≡ true → one_of ks c ≡ false
apart p [] n c h = refl
apart p (k ∷ ks) n c h = or_from (nat_eq c k) (one_of ks c) (go (nat_eq c k) refl) (apart p ks (and_parts (not (p k)) (list_all (λ k. not (p k)) ks) n).1 c h)
  where
    go : (b : Bool) → nat_eq c k ≡ b → b ≡ false
    go true e = let i : c ≡ k = eqb-true c k e in let j : p k ≡ true = rw i at h in let m = (and_parts (not (p k)) (list_all (λ k. not (p k)) ks) n).0 in cc
    go false e = refl

-- where one kind excludes another, the other excludes it
pub turned : (p q : ℕ → Bool) → ((c : ℕ) → p c ≡ true → q c ≡ false) → (c : ℕ) → q c ≡ true → p c ≡ false
turned p q f c h = go (p c) refl
  where
    go : (b : Bool) → p c ≡ b → b ≡ false
    go true e = let k = f c e in cc
    go false e = refl

-- texts by what they begin with

pub front_stops : (p q : ℕ → Bool) → ((c : ℕ) → p c ≡ true → q c ≡ false) → (cs : List ℕ) → begins p cs ≡ true → stops q cs ≡ true
front_stops p q f [] h = refl
front_stops p q f (c ∷ cs) h = let e = f c h in rw e refl

pub front_not : (p : ℕ → Bool) (ks : List ℕ) → list_all (λ k. not (p k)) ks ≡ true → (cs : List ℕ) → begins p cs ≡ true → stops (one_of ks) cs ≡ true
front_not p ks n cs h = front_stops p (one_of ks) (apart p ks n) cs h

pub front_no : (p : ℕ → Bool) (ks : List ℕ) → list_all (λ k. not (p k)) ks ≡ true → (cs : List ℕ) → begins (one_of ks) cs ≡ true → stops p cs ≡ true
front_no p ks n cs h = front_stops (one_of ks) p (turned p (one_of ks) (apart p ks n)) cs h

pub fewer_stop : (p q : ℕ → Bool) → ((c : ℕ) → p c ≡ false → q c ≡ false) → (cs : List ℕ) → stops p cs ≡ true → stops q cs ≡ true
fewer_stop p q f [] h = refl
fewer_stop p q f (c ∷ cs) h = let e = f c (not-true (p c) h) in rw e refl

pub begins_more : (p q : ℕ → Bool) → ((c : ℕ) → p c ≡ true → q c ≡ true) → (cs : List ℕ) → begins p cs ≡ true → begins q cs ≡ true
begins_more p q f [] h = h
begins_more p q f (c ∷ cs) h = f c h

begins_front : (p : ℕ → Bool) (cs ds : List ℕ) → begins p cs ≡ true → begins p (cs ++ ds) ≡ true
begins_front p [] ds h = absurd (false≢true h)
begins_front p (c ∷ cs) ds h = h

-- a word in front of a text begins as it does by itself
pub begins_both : (p : ℕ → Bool) (w v : List ℕ) → IsUtf8 w → begins p (chars w) ≡ true → begins p (chars (w ++ v)) ≡ true
begins_both p w v u h = rw (chars-append w v u) (begins_front p (chars w) (chars v) h)

pub some_bytes : (p : ℕ → Bool) (w : List ℕ) → begins p (chars w) ≡ true → 1 ≤ length w
some_bytes p [] h = absurd (false≢true (sym (ap (begins p) chars-nil) ∙ h))
some_bytes p (c ∷ w) h = omega arith

-- the characters

abbrev pub digits : List ℕ
digits = 48 ∷ 49 ∷ 50 ∷ 51 ∷ 52 ∷ 53 ∷ 54 ∷ 55 ∷ 56 ∷ 57 ∷ []

abbrev pub numeral_starts : List ℕ
numeral_starts = 46 ∷ digits

abbrev pub quotes : List ℕ
quotes = 34 ∷ 39 ∷ []

-- those that begin a blank or a comment
abbrev blanks : List ℕ
blanks = 0x9 ∷ 0xA ∷ 0xB ∷ 0xC ∷ 0xD ∷ 0x20 ∷ 47 ∷ 0xA0 ∷ 0x1680 ∷ 0x2000 ∷ 0x2001 ∷ 0x2002 ∷ 0x2003 ∷ 0x2004 ∷ 0x2005 ∷ 0x2006 ∷ 0x2007 ∷ 0x2008 ∷ 0x2009 ∷ 0x200A ∷ 0x2028 ∷ 0x2029 ∷ 0x202F ∷ 0x205F ∷ 0x3000 ∷ 0xFEFF ∷ []

clear_from_blanks : (c : ℕ) → one_of blanks c ≡ false → clear c ≡ true
clear_from_blanks c h = grind arith

decimal_one : (c : ℕ) → is_ascii_digit c ≡ true → one_of digits c ≡ true
decimal_one c h = grind (arith, nat_tests)

pub digit_one : (c : ℕ) → is_digit c 10 ≡ true → one_of digits c ≡ true
digit_one c h = decimal_one c (grind (arith, nat_tests))

pub numeral_one : (c : ℕ) → begins_num c ≡ true → one_of numeral_starts c ≡ true
numeral_one c h = go (nat_eq c 46) refl
  where
    go : (b : Bool) → nat_eq c 46 ≡ b → (b || one_of digits c) ≡ true
    go true e = refl
    go false e = digit_one c (grind (arith, nat_tests))

pub quote_one : (c : ℕ) → is_quote c ≡ true → one_of quotes c ≡ true
quote_one c h = grind (arith, nat_tests)

-- the other way round

false_back : (a b : Bool) → (a ≡ true → b ≡ true) → b ≡ false → a ≡ false
false_back true b f h = let e = f refl in cc
false_back false b f h = refl

pub no_digit : (c : ℕ) → one_of digits c ≡ false → is_digit c 10 ≡ false
no_digit c h = false_back (is_digit c 10) (one_of digits c) (digit_one c) h

pub no_ascii_digit : (c : ℕ) → one_of digits c ≡ false → is_ascii_digit c ≡ false
no_ascii_digit c h = false_back (is_ascii_digit c) (one_of digits c) (decimal_one c) h

pub no_comment : (c : ℕ) → one_of (47 ∷ 42 ∷ []) c ≡ false → begins_comment c ≡ false
no_comment c h = grind (arith, nat_tests)

pub no_numeral : (c : ℕ) → one_of numeral_starts c ≡ false → begins_num c ≡ false
no_numeral c h = false_back (begins_num c) (one_of numeral_starts c) (numeral_one c) h

pub no_quote : (c : ℕ) → one_of quotes c ≡ false → is_quote c ≡ false
no_quote c h = false_back (is_quote c) (one_of quotes c) (quote_one c) h

-- no blank and no comment begins so
pub front_clear : (p : ℕ → Bool) → list_all (λ k. not (p k)) blanks ≡ true → (cs : List ℕ) → begins p cs ≡ true → clear_front cs ≡ true
front_clear p n [] h = refl
front_clear p n (c ∷ cs) h = clear_from_blanks c (apart p blanks n c h)

pub key_clear : (cs : List ℕ) → begins is_valid_start cs ≡ true → clear_front cs ≡ true
unfolding is_xid_start xid_start_ranges in_ranges
key_clear cs h = front_clear is_valid_start refl cs h

-- characters of keys and others

abbrev pub NoStart : List ℕ → Type 0
NoStart ks = list_all (λ k. not (is_valid_start k)) ks ≡ true

pub no_starts : NoStart (35 ∷ []) × NoStart quotes × NoStart numeral_starts × NoStart digits × NoStart (47 ∷ []) × NoStart (96 ∷ []) × NoStart (125 ∷ []) × NoStart (60 ∷ []) × NoStart (62 ∷ []) × NoStart (33 ∷ [])
unfolding is_xid_start xid_start_ranges in_ranges
no_starts = (refl, refl, refl, refl, refl, refl, refl, refl, refl, refl)

abbrev pub NoMore : List ℕ → Type 0
NoMore ks = list_all (λ k. not (continues_numeral k)) ks ≡ true

-- no key and no numeral goes on with these
pub no_mores : NoMore (35 ∷ []) × NoMore quotes × NoMore (47 ∷ []) × NoMore (96 ∷ []) × NoMore (125 ∷ []) × NoMore (10 ∷ 32 ∷ [])
unfolding is_xid_start xid_start_ranges in_ranges is_xid_continue xid_continue_ranges
no_mores = (refl, refl, refl, refl, refl, refl)

pub no_continue : (c : ℕ) → continues_numeral c ≡ false → is_valid_continue c ≡ false
no_continue c h = go (is_ascii_digit c) (is_valid_start c) (is_valid_continue c) (nat_eq c 46) h
  where
    go : (a b d e : Bool) → ((a || (b || d)) || e) ≡ false → d ≡ false
    go true b d e h = absurd (false≢true (sym h))
    go false true d e h = absurd (false≢true (sym h))
    go false false true e h = absurd (false≢true (sym h))
    go false false false e h = refl

pub no_touch : (c : ℕ) → continues_numeral c ≡ false → touches c ≡ false
no_touch c h = go (touches c) (nat_eq c 46) h
  where
    go : (a b : Bool) → (a || b) ≡ false → a ≡ false
    go true b h = absurd (false≢true (sym h))
    go false b h = refl
