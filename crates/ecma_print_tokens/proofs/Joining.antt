-- A list of tokens of which each joins the next is good.
use Rattle.std.proofs.Common.{◌≡◌, ℕ, ◌<◌, ◌≤◌, List, [], ◌∷◌, ◌++◌, length, refl, sym, ◌∙◌, subst, arith, Bool, true, false, not, ◌||◌, nat_eq, codes, append-nil}
use Rattle.std.specs.List.{list_all, list_any}
use Rattle.std.specs.Str.{bytes_eq, chars}
use Rattle.std.specs.Char.{is_ascii_digit}
use Rattle.std.proofs.lemmas.Bool.{and_parts, or_parts, false≢true, not-true}
use Rattle.std.proofs.lemmas.Bool.Decides.{nat_tests}
use Rattle.std.proofs.lemmas.Str.{chars-nil}
use Rattle.unicode_ident.specs.Ident.{is_xid_start, is_xid_continue}
use Rattle.ucd_table.specs.Rows.{in_ranges}
use Rattle.ucd_derived.specs.XidStartRanges.{xid_start_ranges}
use Rattle.ucd_derived.specs.XidContinueRanges.{xid_continue_ranges}
use Rattle.ecma_number.specs.Numeral.{begins}
use Rattle.ecma_lex.specs.Keys.{is_valid_continue}
use Rattle.ecma_lex.specs.Numerals.{touches}
use Rattle.ecma_lex.specs.Punctuators.{punctuators}
use Rattle.ecma_lex.proofs.Pieces.{among_passes}
use Rattle.ecma_lex.proofs.Suffixes.{chars_ascii}
use Rattle.ecma_lex.proofs.Spelled.{stops}
use Rattle.ecma_print_tokens.specs.Items.{Tok, key, private_name, sign, string, number, big_int, regex, template, Gap, Items, ends, it, token_text, render}
use Rattle.ecma_print_tokens.specs.Taking.{begins_by}
use Rattle.ecma_print_tokens.specs.Good.{is_gap_character, IsGap, Whole, IsSign, Stops, Good, continues_numeral, begins_comment}
use Rattle.ecma_print_tokens.specs.Joins.{goes_on, begins_with_point, parted_by, is_longer_with, opens_comment, sign_before, sign_joins, meets, joins, joins_next, Fine, Joined}
use Rattle.ecma_print_tokens.proofs.Fronts.{one_of, front_not, front_no, fewer_stop, digits, no_ascii_digit, no_comment}
use Rattle.ecma_print_tokens.proofs.Signs.{longest, Head, head}
use Rattle.ecma_print_tokens.proofs.Longer.{Apart, longest_before, unlengthened, numeral_unlengthened}
use Rattle.ecma_print_tokens.proofs.Wholes.{marks, starts, begins_here}

fine_whole : (t : Tok) → Fine t → Whole t
fine_whole (sign w) f = tt
fine_whole (key w) f = f
fine_whole (private_name w) f = f
fine_whole (string w) f = f
fine_whole (number w) f = f
fine_whole (big_int w) f = f
fine_whole (regex w) f = f
fine_whole (template first last w) f = f

abbrev Sign : List ℕ → Type 0
Sign w = list_any (λ p. bytes_eq p w) punctuators ≡ true

some_signs : list_all (λ p. begins (λ c. true) p) punctuators ≡ true
unfolding punctuators
some_signs = refl

sign_some : (w : List ℕ) → Sign w → 1 ≤ length w
sign_some w k = go w (among_passes (λ p. begins (λ c. true) p) punctuators w some_signs k)
  where
    go : (w : List ℕ) → begins (λ c. true) w ≡ true → 1 ≤ length w
    go [] h = absurd (false≢true h)
    go (c ∷ w) h = omega arith

-- what stands behind a token: a gap character

abbrev Blank : List ℕ → Type 0
Blank v = begins is_gap_character (chars v) ≡ true

gap_one : (c : ℕ) → is_gap_character c ≡ true → one_of (10 ∷ 32 ∷ []) c ≡ true
gap_one c h = grind (arith, nat_tests)

blank_stops : (p : ℕ → Bool) → list_all (λ k. not (p k)) (10 ∷ 32 ∷ []) ≡ true → (v : List ℕ) → Blank v → stops p (chars v) ≡ true
blank_stops p n v b = front_no p (10 ∷ 32 ∷ []) n (chars v) (more (chars v) b)
  where
    more : (cs : List ℕ) → begins is_gap_character cs ≡ true → begins (one_of (10 ∷ 32 ∷ [])) cs ≡ true
    more [] h = h
    more (c ∷ cs) h = gap_one c h

blank_apart : Apart is_gap_character
unfolding punctuators
blank_apart = refl

blank_behind : (t : Tok) → Fine t → (v : List ℕ) → Blank v → Stops t v
unfolding is_xid_start xid_start_ranges in_ranges is_xid_continue xid_continue_ranges
blank_behind (key w) f v b = blank_stops is_valid_continue refl v b
blank_behind (private_name w) f v b = blank_stops is_valid_continue refl v b
blank_behind (sign w) f v b =
    let d = blank_stops is_ascii_digit refl v b in
    record { longest = longest_before w v f (unlengthened is_gap_character blank_apart w (sign_some w f) v b) (λ e. d); no_comment = λ e. blank_stops begins_comment refl v b; no_numeral = λ e. d }
blank_behind (string w) f v b = tt
blank_behind (number w) f v b = blank_stops continues_numeral refl v b
blank_behind (big_int w) f v b = blank_stops touches refl v b
blank_behind (regex w) f v b = blank_stops is_valid_continue refl v b
blank_behind (template first last w) f v b = tt

-- nothing

empty_stops : (p : ℕ → Bool) → stops p (chars []) ≡ true
empty_stops p = rw chars-nil refl

empty_behind : (t : Tok) → Fine t → Stops t []
empty_behind (key w) f = empty_stops is_valid_continue
empty_behind (private_name w) f = empty_stops is_valid_continue
empty_behind (sign w) f = record { longest = longest_before w [] f (λ c vs e. (cc)) (λ e. empty_stops is_ascii_digit); no_comment = λ e. empty_stops begins_comment; no_numeral = λ e. empty_stops is_ascii_digit }
empty_behind (string w) f = tt
empty_behind (number w) f = empty_stops continues_numeral
empty_behind (big_int w) f = empty_stops touches
empty_behind (regex w) f = empty_stops is_valid_continue
empty_behind (template first last w) f = tt

-- another token

module _ (u : Tok) (r : List ℕ) (h : Whole u) (s : Stops u r) where
  abbrev behind : List ℕ
  behind = token_text u ++ r

  front : begins (starts u) (chars behind) ≡ true
  front = begins_here u r h s

module _ (r : List ℕ) where
  -- a key and what is like one stops before a token that does not go on with it
  stops_before : (u : Tok) → Whole u → Stops u r → goes_on u ≡ false → (stops touches (chars (token_text u ++ r)) ≡ true) × (stops is_valid_continue (chars (token_text u ++ r)) ≡ true)
  unfolding is_xid_start xid_start_ranges in_ranges is_xid_continue xid_continue_ranges
  stops_before (key w) h s g = absurd (false≢true (sym g))
  stops_before (number w) h s g = absurd (false≢true (sym g))
  stops_before (big_int w) h s g = absurd (false≢true (sym g))
  stops_before (template true last w) h s g = let b = begins_here (template true last w) r h s in (front_no touches (96 ∷ []) refl (chars (w ++ r)) b, front_no is_valid_continue (96 ∷ []) refl (chars (w ++ r)) b)
  stops_before (template false last w) h s g = let b = begins_here (template false last w) r h s in (front_no touches (125 ∷ []) refl (chars (w ++ r)) b, front_no is_valid_continue (125 ∷ []) refl (chars (w ++ r)) b)
  stops_before u h s g = let b = begins_here u r h s in (front_no touches (marks u) refl (chars (token_text u ++ r)) b, front_no is_valid_continue (marks u) refl (chars (token_text u ++ r)) b)

  -- a numeral stops there too, but for a point
  point_apart : (u : Tok) → Whole u → Stops u r → goes_on u ≡ false → begins_with_point u ≡ false → stops (λ c. nat_eq c 46) (chars (token_text u ++ r)) ≡ true
  point_apart (key w) h s g p = absurd (false≢true (sym g))
  point_apart (number w) h s g p = absurd (false≢true (sym g))
  point_apart (big_int w) h s g p = absurd (false≢true (sym g))
  point_apart (sign w) h s g p =
      let f = head w (w ++ r) (longest w (w ++ r) s.longest) in
      let e : begins_by 46 (f.first ∷ f.others) ≡ false = rw f.sign at p in
      rw (f.characters, e) refl
  point_apart (template true last w) h s g p = front_no (λ c. nat_eq c 46) (96 ∷ []) refl (chars (w ++ r)) (begins_here (template true last w) r h s)
  point_apart (template false last w) h s g p = front_no (λ c. nat_eq c 46) (125 ∷ []) refl (chars (w ++ r)) (begins_here (template false last w) r h s)
  point_apart u h s g p = front_no (λ c. nat_eq c 46) (marks u) refl (chars (token_text u ++ r)) (begins_here u r h s)

  both_stop : (p q : ℕ → Bool) (cs : List ℕ) → stops p cs ≡ true → stops q cs ≡ true → stops (λ c. p c || q c) cs ≡ true
  both_stop p q [] h k = refl
  both_stop p q (c ∷ cs) h k = let a = not-true (p c) h in let b = not-true (q c) k in rw (a, b) refl

  -- signs

  -- no digit stands there
  no_digit_before : (u : Tok) → Whole u → Stops u r → list_all (λ l. not (starts u l)) digits ≡ true → stops is_ascii_digit (chars (token_text u ++ r)) ≡ true
  no_digit_before u h s n = fewer_stop (one_of digits) is_ascii_digit no_ascii_digit (chars (token_text u ++ r)) (front_not (starts u) digits n (chars (token_text u ++ r)) (begins_here u r h s))

  no_comment_before : (u : Tok) → Whole u → Stops u r → list_all (λ l. not (starts u l)) (47 ∷ 42 ∷ []) ≡ true → stops begins_comment (chars (token_text u ++ r)) ≡ true
  no_comment_before u h s n = fewer_stop (one_of (47 ∷ 42 ∷ [])) begins_comment no_comment (chars (token_text u ++ r)) (front_not (starts u) (47 ∷ 42 ∷ []) n (chars (token_text u ++ r)) (begins_here u r h s))

  -- before what no sign has behind its first character
  free_sign : (w : List ℕ) → Sign w → (u : Tok) → Whole u → Stops u r → Apart (starts u) → list_all (λ l. not (starts u l)) digits ≡ true → (bytes_eq w (codes "/") ≡ true → stops begins_comment (chars (token_text u ++ r)) ≡ true) → IsSign w (token_text u ++ r)
  free_sign w k u h s a d f =
      let n = no_digit_before u h s d in
      record { longest = longest_before w (token_text u ++ r) k (unlengthened (starts u) a w (sign_some w k) (token_text u ++ r) (begins_here u r h s)) (λ e. n); no_comment = f; no_numeral = λ e. n }

  refuted : (b : Bool) {A : Type 0} → b ≡ false → b ≡ true → A
  refuted b e f = absurd (false≢true (sym e ∙ f))

  numeral_sign : (w : List ℕ) → Sign w → (v : List ℕ) → Whole (number v) → Stops (number v) r → sign_joins w (number v) ≡ true → IsSign w (v ++ r)
  numeral_sign w k v h s j =
      let o = not-true (bytes_eq w (codes ".") || (bytes_eq w (codes "?.") || bytes_eq w (codes "?"))) j in
      let p = or_parts (bytes_eq w (codes ".")) (bytes_eq w (codes "?.") || bytes_eq w (codes "?")) o in
      let q = or_parts (bytes_eq w (codes "?.")) (bytes_eq w (codes "?")) p.1 in
      record {
        longest = longest_before w (v ++ r) k (numeral_unlengthened w k p.0 q.1 (sign_some w k) (v ++ r) (begins_here (number v) r h s)) (refuted (bytes_eq w (codes "?.")) q.0);
        no_comment = λ e. no_comment_before (number v) h s refl;
        no_numeral = refuted (bytes_eq w (codes ".")) p.0;
      }

  digits_apart : Apart (one_of digits)
  unfolding punctuators
  digits_apart = refl

  big_sign : (w : List ℕ) → Sign w → (v : List ℕ) → Whole (big_int v) → Stops (big_int v) r → sign_joins w (big_int v) ≡ true → IsSign w (v ++ r)
  big_sign w k v h s j =
      let o = not-true (bytes_eq w (codes ".") || bytes_eq w (codes "?.")) j in
      let p = or_parts (bytes_eq w (codes ".")) (bytes_eq w (codes "?.")) o in
      record {
        longest = longest_before w (v ++ r) k (unlengthened (one_of digits) digits_apart w (sign_some w k) (v ++ r) (begins_here (big_int v) r h s)) (refuted (bytes_eq w (codes "?.")) p.1);
        no_comment = λ e. no_comment_before (big_int v) h s refl;
        no_numeral = refuted (bytes_eq w (codes ".")) p.0;
      }

  sign_sign : (w : List ℕ) → Sign w → (v : List ℕ) → Whole (sign v) → Stops (sign v) r → sign_before w v ≡ true → IsSign w (v ++ r)
  sign_sign w k v h s j =
      let f = head v (v ++ r) (longest v (v ++ r) s.longest) in
      let d = no_digit_before (sign v) h s refl in
      by_head f d (rw f.sign at j)
    where
      by_head : (f : Head v (v ++ r)) → stops is_ascii_digit (chars (v ++ r)) ≡ true → sign_before w (f.first ∷ f.others) ≡ true → IsSign w (v ++ r)
      by_head f d j =
          let o = or_parts (is_longer_with w f.first) (opens_comment w f.first) (not-true (is_longer_with w f.first || opens_comment w f.first) j) in
          record {
            longest = longest_before w (v ++ r) k (λ c vs e. (let z : f.first ≡ c = (let t = f.text in cc) in subst (λ x. is_longer_with w x ≡ false) z o.0)) (λ e. d);
            no_comment = λ e. (let n : begins_comment f.first ≡ false = rw e at o.1 in rw (f.characters, n) refl);
            no_numeral = λ e. d;
          }

  sign_meets : (w : List ℕ) → Sign w → (u : Tok) → Whole u → Stops u r → sign_joins w u ≡ true → IsSign w (token_text u ++ r)
  unfolding punctuators is_xid_start xid_start_ranges in_ranges
  sign_meets w k (sign v) h s j = sign_sign w k v h s j
  sign_meets w k (number v) h s j = numeral_sign w k v h s j
  sign_meets w k (big_int v) h s j = big_sign w k v h s j
  sign_meets w k (regex v) h s j = free_sign w k (regex v) h s refl refl (refuted (bytes_eq w (codes "/")) (not-true (bytes_eq w (codes "/")) j))
  sign_meets w k (template true last v) h s j = free_sign w k (template true last v) h s refl refl (λ e. no_comment_before (template true last v) h s refl)
  sign_meets w k (template false last v) h s j = free_sign w k (template false last v) h s refl refl (λ e. no_comment_before (template false last v) h s refl)
  sign_meets w k u h s j = free_sign w k u h s refl refl (λ e. no_comment_before u h s refl)

  token_behind : (t u : Tok) → Fine t → meets t u ≡ true → Whole u → Stops u r → Stops t (token_text u ++ r)
  token_behind (key w) u f m h s = (stops_before u h s (not-true (goes_on u) m)).1
  token_behind (private_name w) u f m h s = (stops_before u h s (not-true (goes_on u) m)).1
  token_behind (sign w) u f m h s = sign_meets w f u h s m
  token_behind (string w) u f m h s = tt
  token_behind (number w) u f m h s =
      let p = or_parts (goes_on u) (begins_with_point u) (not-true (goes_on u || begins_with_point u) m) in
      both_stop touches (λ c. nat_eq c 46) (chars (token_text u ++ r)) (stops_before u h s p.0).0 (point_apart u h s p.0 p.1)
  token_behind (big_int w) u f m h s = (stops_before u h s (not-true (goes_on u) m)).0
  token_behind (regex w) u f m h s = (stops_before u h s (not-true (goes_on u) m)).1
  token_behind (template first last w) u f m h s = tt

-- a whole list

gap_blank : (b : ℕ) (bs v : List ℕ) → list_all is_gap_character (b ∷ bs) ≡ true → Blank (b ∷ bs ++ v)
gap_blank b bs v h =
    let g = (and_parts (is_gap_character b) (list_all is_gap_character bs) h).0 in
    let small : b < 128 = grind (arith, nat_tests) in
    rw (chars_ascii b (bs ++ v) small) g

stops_end : (t : Tok) → Fine t → (bs : List ℕ) → list_all is_gap_character bs ≡ true → Stops t bs
stops_end t f [] h = empty_behind t f
stops_end t f (b ∷ bs) h = blank_behind t f (b ∷ bs) (subst Blank (append-nil (b ∷ bs)) (gap_blank b bs [] h))

stops_on : (t : Tok) → Fine t → (g : Gap) → IsGap g → (u : Tok) (r : List ℕ) → joins t g u ≡ true → Whole u → Stops u r → Stops t (g.blanks ++ (token_text u ++ r))
stops_on t f g i u r j h s = go g.blanks i.blank j
  where
    go : (bs : List ℕ) → list_all is_gap_character bs ≡ true → parted_by bs (meets t u) ≡ true → Stops t (bs ++ (token_text u ++ r))
    go [] n m = token_behind r t u f m h s
    go (b ∷ bs) n m = blank_behind t f (b ∷ bs ++ (token_text u ++ r)) (gap_blank b bs (token_text u ++ r) n)

pub joined_good : (ts : Items) → Joined ts → Good ts
unfolding render
joined_good (ends g) j = j
joined_good (it g t ts) j =
    let more = joined_good ts j.3 in
    (j.0, fine_whole t j.1, next ts j.2 j.3 more, more)
  where
    next : (ts : Items) → joins_next t ts ≡ true → Joined ts → Good ts → Stops t (render ts)
    next (ends h) e k l = stops_end t j.1 h.blanks k.blank
    next (it h u us) e k l = stops_on t j.1 h k.0 u (render us) e l.1 l.2
