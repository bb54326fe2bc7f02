-- What is known of a token that is whole by itself and stops where it ends.
use Rattle.std.proofs.Common.{◌≡◌, ℕ, zero, suc, ◌≤◌, List, [], ◌∷◌, ◌++◌, length, refl, ap, ◌∙◌, subst, arith, Bool, true, false, not, ◌||◌, nat_eq, nat_lt, codes, append-nil}
use Rattle.std.specs.List.{list_all}
use Rattle.std.specs.Str.{IsAscii, IsUtf8, bytes_eq, chars}
use Rattle.std.proofs.lemmas.Bool.{and_parts, false≢true, ltb-true}
use Rattle.std.proofs.lemmas.Slice.Eq.{bytes_eq-Decides}
use Rattle.std.proofs.lemmas.Str.{IsUtf8-from_ascii}
use Rattle.ecma_number.specs.Numeral.{begins}
use Rattle.ecma_lex.specs.Keys.{is_valid_start, key_end, priv_name_end}
use Rattle.ecma_lex.specs.Numerals.{num_end, big_end}
use Rattle.ecma_lex.specs.Strings.{str_end}
use Rattle.ecma_lex.specs.Regexes.{regex_end}
use Rattle.ecma_lex.specs.Punctuators.{punctuators}
use Rattle.ecma_lex.proofs.Pieces.{among_passes}
use Rattle.ecma_lex.proofs.Suffixes.{Cut, cut_utf8, cut_ascii, chars_ascii, clear_front}
use Rattle.ecma_lex.proofs.TemplateParts.{opening}
use Rattle.ecma_print_tokens.specs.Items.{Tok, key, private_name, sign, string, number, big_int, regex, template, Items, ends, it, token_text, render}
use Rattle.ecma_print_tokens.specs.Good.{Whole, IsSign, Stops, Good}
use Rattle.ecma_print_tokens.proofs.Gaps.{Quiet, clear, slash, gap_cut}
use Rattle.ecma_print_tokens.proofs.Fronts.{one_of, digits, numeral_starts, quotes, begins_both, key_clear, front_clear, some_bytes}
use Rattle.ecma_print_tokens.proofs.Signs.{Longest, longest, Head, head}
use Rattle.ecma_print_tokens.proofs.Absent.{front_of, key_absent, private_absent, string_absent, number_absent, big_absent, regex_absent, part_begins}
use Rattle.ecma_print_tokens.proofs.Regexes.{comment_apart}

-- the characters that signs begin with: `/` (47) and others
abbrev pub other_heads : List ℕ
other_heads = codes "{}()[].;,<>=!+-*%&|^~?:@"

abbrev pub marks : Tok → List ℕ
marks (key w) = []
marks (private_name w) = 35 ∷ []
marks (sign w) = 47 ∷ other_heads
marks (string w) = quotes
marks (number w) = numeral_starts
marks (big_int w) = digits
marks (regex w) = 47 ∷ []
marks (template first last w) = opening first ∷ []

-- what a token begins with
abbrev pub starts : Tok → ℕ → Bool
starts (key w) = is_valid_start
starts t = one_of (marks t)

heads_are : list_all (λ p. begins (one_of (47 ∷ other_heads)) p) punctuators ≡ true
unfolding punctuators
heads_are = refl

small_signs : list_all (λ p. list_all (λ c. nat_lt c 128) p) punctuators ≡ true
unfolding punctuators
small_signs = refl

ascii : (w : List ℕ) → list_all (λ c. nat_lt c 128) w ≡ true → IsAscii w
ascii [] h k = omega arith
ascii (c ∷ w) h zero = ltb-true c 128 (and_parts (nat_lt c 128) (list_all (λ c. nat_lt c 128) w) h).0
ascii (c ∷ w) h (suc k) = ascii w (and_parts (nat_lt c 128) (list_all (λ c. nat_lt c 128) w) h).1 k

pub sign_utf8 : (w v : List ℕ) → IsSign w v → IsUtf8 w
sign_utf8 w v s = IsUtf8-from_ascii w (ascii w (among_passes (λ p. list_all (λ c. nat_lt c 128) p) punctuators w small_signs (longest w (w ++ v) s.longest).known))

sign_begins : (w v : List ℕ) → IsSign w v → begins (one_of (47 ∷ other_heads)) (chars w) ≡ true
sign_begins w v s =
    let l = longest w (w ++ v) s.longest in
    let h = head w (w ++ v) l in
    let e : chars w ≡ h.first ∷ chars h.others = ap chars h.sign ∙ chars_ascii h.first h.others h.small in
    let k : begins (one_of (47 ∷ other_heads)) (h.first ∷ h.others) ≡ true = rw h.sign at (among_passes (λ p. begins (one_of (47 ∷ other_heads)) p) punctuators w heads_are l.known) in
    rw e k

pub whole_utf8 : (t : Tok) (v : List ℕ) → Whole t → Stops t v → IsUtf8 (token_text t)
whole_utf8 (key w) v h s = h.utf8
whole_utf8 (private_name w) v h s = h.utf8
whole_utf8 (sign w) v h s = sign_utf8 w v s
whole_utf8 (string w) v h s = h.utf8
whole_utf8 (number w) v h s = h.utf8
whole_utf8 (big_int w) v h s = h.utf8
whole_utf8 (regex w) v h s = h.utf8
whole_utf8 (template first last w) v h s = h.utf8

pub whole_begins : (t : Tok) (v : List ℕ) → Whole t → Stops t v → begins (starts t) (chars (token_text t)) ≡ true
whole_begins (key w) v h s = front_of key_end is_valid_start key_absent w (length w) h.utf8 h.whole
whole_begins (private_name w) v h s = front_of priv_name_end (one_of (35 ∷ [])) private_absent w (length w) h.utf8 h.whole
whole_begins (sign w) v h s = sign_begins w v s
whole_begins (string w) v h s = front_of str_end (one_of quotes) string_absent w (length w) h.utf8 h.whole
whole_begins (number w) v h s = front_of num_end (one_of numeral_starts) number_absent w (length w) h.utf8 h.whole
whole_begins (big_int w) v h s = front_of big_end (one_of digits) big_absent w (length w) h.utf8 h.whole
whole_begins (regex w) v h s = front_of regex_end (one_of (47 ∷ [])) regex_absent w (length w) h.utf8 h.whole
whole_begins (template first last w) v h s = part_begins first true last w (length w) h.utf8 h.whole

pub begins_here : (t : Tok) (v : List ℕ) → Whole t → Stops t v → begins (starts t) (chars (token_text t ++ v)) ≡ true
begins_here t v h s = begins_both (starts t) (token_text t) v (whole_utf8 t v h s) (whole_begins t v h s)

pub some_text : (t : Tok) (v : List ℕ) → Whole t → Stops t v → 1 ≤ length (token_text t)
some_text t v h s = some_bytes (starts t) (token_text t) (whole_begins t v h s)

-- neither a blank nor a comment begins where a token does

module _ (w v : List ℕ) (s : IsSign w v) (c : Cut v) where
  slashes : list_all (λ p. not (begins (λ d. nat_eq d 47) p) || (bytes_eq p (codes "/") || bytes_eq p (codes "/="))) punctuators ≡ true
  unfolding punctuators
  slashes = refl

  by_slash : (b d : Bool) → bytes_eq w (codes "/") ≡ b → bytes_eq w (codes "/=") ≡ d → (b || d) ≡ true → Quiet (w ++ v)
  by_slash true d x y h = let e : w ≡ codes "/" = (bytes_eq-Decides w (codes "/")).0 x in rw e (slash {u = v} c (s.no_comment x))
  by_slash false true x y h =
      let e : w ≡ codes "/=" = (bytes_eq-Decides w (codes "/=")).0 y in
      rw e (slash {u = 61 ∷ v} (cut_ascii 61 v (omega arith)) (rw (chars_ascii 61 v (omega arith)) refl))
  by_slash false false x y h = absurd (false≢true h)

  second : (a b : Bool) → a ≡ true → (not a || b) ≡ true → b ≡ true
  second true b h k = k
  second false b h k = absurd (false≢true h)

  by_first : (l : Longest w (w ++ v)) (h : Head w (w ++ v)) (b : Bool) → nat_eq h.first 47 ≡ b → Quiet (w ++ v)
  by_first l h true e =
      let first : begins (λ d. nat_eq d 47) w ≡ true = rw h.sign e in
      by_slash (bytes_eq w (codes "/")) (bytes_eq w (codes "/=")) refl refl (second (begins (λ d. nat_eq d 47) w) (bytes_eq w (codes "/") || bytes_eq w (codes "/=")) first
      (among_passes (λ p. not (begins (λ d. nat_eq d 47) p) || (bytes_eq p (codes "/") || bytes_eq p (codes "/="))) punctuators w slashes l.known))
  by_first l h false e =
      let k : begins (one_of (47 ∷ other_heads)) (h.first ∷ h.others) ≡ true = rw h.sign at (among_passes (λ p. begins (one_of (47 ∷ other_heads)) p) punctuators w heads_are l.known) in
      let other : one_of other_heads h.first ≡ true = rw e at k in
      clear (cut_utf8 w v (sign_utf8 w v s) c) (rw h.characters (front_clear (one_of other_heads) refl (h.first ∷ chars h.behind) other))

  pub sign_quiet : Quiet (w ++ v)
  sign_quiet = let l = longest w (w ++ v) s.longest in let h = head w (w ++ v) l in by_first l h (nat_eq h.first 47) refl

clear_by : (t : Tok) (v : List ℕ) → Whole t → Stops t v → Cut v → (begins (starts t) (chars (token_text t ++ v)) ≡ true → clear_front (chars (token_text t ++ v)) ≡ true) → Quiet (token_text t ++ v)
clear_by t v h s c f = clear (cut_utf8 (token_text t) v (whole_utf8 t v h s) c) (f (begins_here t v h s))

pub quiet : (t : Tok) (v : List ℕ) → Whole t → Stops t v → Cut v → Quiet (token_text t ++ v)
quiet (key w) v h s c = clear_by (key w) v h s c (key_clear (chars (w ++ v)))
quiet (private_name w) v h s c = clear_by (private_name w) v h s c (front_clear (one_of (35 ∷ [])) refl (chars (w ++ v)))
quiet (sign w) v h s c = sign_quiet w v s c
quiet (string w) v h s c = clear_by (string w) v h s c (front_clear (one_of quotes) refl (chars (w ++ v)))
quiet (number w) v h s c = clear_by (number w) v h s c (front_clear (one_of numeral_starts) refl (chars (w ++ v)))
quiet (big_int w) v h s c = clear_by (big_int w) v h s c (front_clear (one_of digits) refl (chars (w ++ v)))
quiet (regex w) v h s c = let r = comment_apart w v h.utf8 h.whole c in let e = r.is in rw e (slash r.cut r.apart)
quiet (template true last w) v h s c = clear_by (template true last w) v h s c (front_clear (one_of (96 ∷ [])) refl (chars (w ++ v)))
quiet (template false last w) v h s c = clear_by (template false last w) v h s c (front_clear (one_of (125 ∷ [])) refl (chars (w ++ v)))

pub good_cut : (ts : Items) → Good ts → Cut (render ts)
unfolding render
good_cut (ends g) h = subst Cut (append-nil g.blanks) (gap_cut g.blanks [] h.blank refl)
good_cut (it g t ts) h =
    let c = good_cut ts h.3 in
    gap_cut g.blanks (token_text t ++ render ts) h.0.blank (cut_utf8 (token_text t) (render ts) (whole_utf8 t (render ts) h.1 h.2) c)
