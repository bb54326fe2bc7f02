-- Terminals that are one token: each reads the text of a list of tokens as its first token says.
use Rattle.std.proofs.Common.{◌≡◌, ℕ, ◌+◌, ◌≤◌, List, [], ◌∷◌, ◌++◌, length, refl, ap, sym, ◌∙◌, subst, arith, Option, Some, None, Bool, true, false, cond, not, ◌||◌, nat_eq, codes, append-nil}
use Rattle.std.specs.List.{list_all}
use Rattle.std.specs.Str.{bytes_eq, chars}
use Rattle.std.proofs.lemmas.Bool.{false≢true}
use Rattle.std.proofs.lemmas.Slice.Eq.{bytes_eq-Decides}
use Rattle.std.proofs.lemmas.Str.{chars-nil}
use Rattle.unicode_ident.specs.Ident.{is_xid_start}
use Rattle.ucd_table.specs.Rows.{in_ranges}
use Rattle.ucd_derived.specs.XidStartRanges.{xid_start_ranges}
use Rattle.ecma_number.specs.Numeral.{begins}
use Rattle.ecma_lex.specs.Text.{after}
use Rattle.ecma_lex.specs.Parts.{Part}
use Rattle.ecma_lex.specs.Keys.{is_valid_start, is_reserved, key_end, name_end, word_end, priv_name_end}
use Rattle.ecma_lex.specs.Numerals.{num_end, big_end}
use Rattle.ecma_lex.specs.Strings.{str_end}
use Rattle.ecma_lex.specs.Regexes.{regex_end, regex_body_end}
use Rattle.ecma_lex.specs.Hashbangs.{hashbang_end}
use Rattle.ecma_lex.specs.Punctuators.{angle_end}
use Rattle.ecma_lex.specs.declared.tokens.Token.{Token}
use Rattle.ecma_lex.proofs.Suffixes.{Cut, cut_ascii, cut_utf8, chars_ascii, Stands, past, after_here, piece_here}
use Rattle.ecma_lex.proofs.Repeats.{code_point_stands}
use Rattle.ecma_lex.proofs.Spelled.{Spelled, IsKey, stops, key_by_itself, key_again, name_again, no_name_again, word_again, name_none, word_none}
use Rattle.ecma_lex.proofs.Quoted.{string_by_itself, string_here}
use Rattle.ecma_lex.proofs.NumeralReading.{num_by_itself, num_again}
use Rattle.ecma_grammar.specs.Reading.{Position}
use Rattle.ecma_print_tokens.specs.Items.{Tok, key, private_name, sign, string, number, big_int, regex, template, Gap, Items, ends, it, token_text, render}
use Rattle.ecma_print_tokens.specs.Taking.{begins_by, word_in, key_in, name_in, private_name_in, string_in, number_in, big_int_in, regex_in, angle_in}
use Rattle.ecma_print_tokens.specs.Good.{Whole, IsSign, Stops, Good}
use Rattle.ecma_print_tokens.specs.Lexing.{Fails, At, Agrees}
use Rattle.ecma_print_tokens.proofs.Gaps.{past_gap, skipped_gap, clear}
use Rattle.ecma_print_tokens.proofs.Fronts.{one_of, apart, front_not, front_no, begins_both, digits, numeral_starts, quotes}
use Rattle.ecma_print_tokens.proofs.Signs.{Longest, longest, Head, head, point_only}
use Rattle.ecma_print_tokens.proofs.Numerals.{closes_by, no_big_here, no_num_here, big_literal_of, big_again, num_literal_of, no_num_point}
use Rattle.ecma_print_tokens.proofs.Absent.{Begins, key_absent, private_absent, string_absent, number_absent, big_absent, regex_absent, angle_absent, hashbang_absent, hashbang_short}
use Rattle.ecma_print_tokens.proofs.Privates.{private_parts, private_again}
use Rattle.ecma_print_tokens.proofs.Regexes.{regex_parts, regex_again, stop_again, stop_within}
use Rattle.ecma_print_tokens.proofs.Wholes.{other_heads, marks, starts, whole_utf8, begins_here, quiet, good_cut}
use Rattle.ecma_print_tokens.proofs.Found.{Reads, Here, terminal, starts_here, none_there, absent_there, token_with, token_there, takes, doubts}

abbrev pub is_key : Tok → Bool
is_key (key w) = true
is_key t = false

abbrev pub is_sign : Tok → Bool
is_sign (sign w) = true
is_sign t = false

no_start : (t : Tok) (v : List ℕ) → is_key t ≡ false → Whole t → Stops t v → stops is_valid_start (chars (token_text t ++ v)) ≡ true
unfolding is_xid_start xid_start_ranges in_ranges
no_start (key w) v k h s = absurd (false≢true (sym k))
no_start (template true last w) v k h s = front_no is_valid_start (96 ∷ []) refl (chars (w ++ v)) (begins_here (template true last w) v h s)
no_start (template false last w) v k h s = front_no is_valid_start (125 ∷ []) refl (chars (w ++ v)) (begins_here (template false last w) v h s)
no_start t v k h s = front_no is_valid_start (marks t) refl (chars (token_text t ++ v)) (begins_here t v h s)

key_begins : (cs : List ℕ) → IsKey cs → begins is_valid_start cs ≡ true
key_begins [] k = absurd k
key_begins (c ∷ cs) k = k.0

-- a sign that begins otherwise
pub sign_other : (w v : List ℕ) → IsSign w v → (c : ℕ) → begins_by c w ≡ false → stops (one_of (c ∷ [])) (chars (w ++ v)) ≡ true
sign_other w v s c h =
    let l = longest w (w ++ v) s.longest in
    let f = head w (w ++ v) l in
    let e : begins_by c (f.first ∷ f.others) ≡ false = rw f.sign at h in
    rw (f.characters, e) refl

module _ (text w v : List ℕ) (i : ℕ) (s : IsSign w v) (st : Stands text i (w ++ v)) (c : Cut (w ++ v)) where
  by_point : (a b : Bool) → bytes_eq w (codes ".") ≡ a → bytes_eq w (codes "...") ≡ b → (a || b) ≡ true → num_end text i ≡ None
  by_point true b x y h =
      let e : w ≡ codes "." = (bytes_eq-Decides w (codes ".")).0 x in
      no_num_point text i v (st.rest ∙ ap (λ l. l ++ v) e) (s.no_numeral x)
  by_point false true x y h =
      let e : w ≡ codes "..." = (bytes_eq-Decides w (codes "...")).0 y in
      no_num_point text i (46 ∷ 46 ∷ v) (st.rest ∙ ap (λ l. l ++ v) e) (rw (chars_ascii 46 (46 ∷ v) (omega arith)) refl)
  by_point false false x y h = absurd (false≢true h)

  by_first : (l : Longest w (w ++ v)) (f : Head w (w ++ v)) (b : Bool) → nat_eq f.first 46 ≡ b → one_of (47 ∷ other_heads) f.first ≡ true → num_end text i ≡ None
  by_first l f true e k =
      let p : begins_by 46 w ≡ true = rw f.sign e in
      by_point (bytes_eq w (codes ".")) (bytes_eq w (codes "...")) refl refl (point_only w (w ++ v) l p)
  by_first l f false e k =
      let d = apart (one_of (47 ∷ other_heads)) digits refl f.first k in
      let a = after_here text i (w ++ v) st c ∙ f.characters in
      number_absent text i (rw (a, e, d) refl)

  pub sign_no_numeral : (h : Whole (sign w)) → num_end text i ≡ None
  sign_no_numeral h =
      let l = longest w (w ++ v) s.longest in
      let f = head w (w ++ v) l in
      let b : begins (one_of (47 ∷ other_heads)) (f.first ∷ chars f.behind) ≡ true = rw f.characters at (begins_here (sign w) v h s) in
      by_first l f (nat_eq f.first 46) refl b

module _ (text : List ℕ) where
  pub here : (g : Gap) (t : Tok) (us : Items) (s : Position) → At text Good (it g t us) s → Here text g (token_text t) (render us) s
  unfolding render
  here g t us s at =
      let good = at.good in
      let c = good_cut us good.3 in
      record {
        skips = skipped_gap text g (token_text t ++ render us) s.place good.0 (quiet t (render us) good.1 good.2 c) at.stands;
        stands = past_gap text g at.stands;
        utf8 = whole_utf8 t (render us) good.1 good.2;
        cut = c;
      }

  pub here_end : (g : Gap) (s : Position) → At text Good (ends g) s → Here text g [] [] s
  unfolding render chars
  here_end g s at =
      let st : Stands text s.place (g.blanks ++ []) = rw (append-nil g.blanks) at.stands in
      record { skips = skipped_gap text g [] s.place at.good (clear refl refl) st; stands = past_gap text g st; utf8 = ([], (refl, refl)); cut = refl }

  pub refuses_end : (find : Part) (p : ℕ → Bool) → Begins find p → (g : Gap) (s : Position) → At text Good (ends g) s → Fails (terminal text find s)
  refuses_end find p f g s at = absent_there text (here_end g s at) find p f (rw chars-nil refl)

  pub refuses : (find : Part) (ls : List ℕ) → Begins find (one_of ls) → (g : Gap) (t : Tok) (us : Items) (s : Position) → At text Good (it g t us) s → list_all (λ l. not (starts t l)) ls ≡ true → Fails (terminal text find s)
  refuses find ls f g t us s at far =
      let good = at.good in
      absent_there text (here g t us s at) find (one_of ls) f (front_not (starts t) ls far (chars (token_text t ++ render us)) (begins_here t (render us) good.1 good.2))

  keyless : (find : Part) → Begins find is_valid_start → (g : Gap) (t : Tok) (us : Items) (s : Position) → At text Good (it g t us) s → is_key t ≡ false → Fails (terminal text find s)
  keyless find f g t us s at k = let good = at.good in absent_there text (here g t us s at) find is_valid_start f (no_start t (render us) k good.1 good.2)

  -- keys

  pub key_sees : (ts : Items) (s : Position) → At text Good ts s → Agrees text Good (key_in ts) (terminal text key_end s) (Reads text)
  key_sees (ends g) s at = refuses_end key_end is_valid_start key_absent g s at
  key_sees (it g (key w) us) s at =
      let good = at.good in
      let h = here g (key w) us s at in
      token_there text us h good.3 key_end (key_again text (s.place + length g.blanks) w (render us) (key_by_itself w good.1.utf8 good.1.whole) h.stands h.cut good.2)
  key_sees (it g t us) s at = keyless key_end key_absent g t us s at refl

  pub name_sees : (ts : Items) (s : Position) → At text Good ts s → Agrees text Good (name_in ts) (terminal text name_end s) (Reads text)
  name_sees (ends g) s at = refuses_end name_end is_valid_start name_none g s at
  name_sees (it g (key w) us) s at =
      let good = at.good in
      let h = here g (key w) us s at in
      let i = s.place + length g.blanks in
      let k = key_by_itself w good.1.utf8 good.1.whole in
      takes text us h good.3 name_end (not (is_reserved w)) (by_word (is_reserved w) refl (λ e. name_again text i w (render us) k e h.stands h.cut good.2) (λ e. no_name_again text i w (render us) k e h.stands h.cut good.2))
    where
      by_word : {o : Option ℕ} {n : ℕ} (b : Bool) → is_reserved w ≡ b → (is_reserved w ≡ false → o ≡ Some n) → (is_reserved w ≡ true → o ≡ None) → o ≡ cond (not b) (Some n) None
      by_word true e f g = g e
      by_word false e f g = f e
  name_sees (it g t us) s at = keyless name_end name_none g t us s at refl

  pub word_sees : (wanted : List ℕ) (ts : Items) (s : Position) → At text Good ts s → Agrees text Good (word_in wanted ts) (terminal text (word_end wanted) s) (Reads text)
  word_sees wanted (ends g) s at = refuses_end (word_end wanted) is_valid_start (λ text. word_none text wanted) g s at
  word_sees wanted (it g (key w) us) s at =
      let good = at.good in
      let h = here g (key w) us s at in
      takes text us h good.3 (word_end wanted) (bytes_eq w wanted) (word_again text (s.place + length g.blanks) w (render us) wanted (key_by_itself w good.1.utf8 good.1.whole) h.stands h.cut good.2)
  word_sees wanted (it g t us) s at = keyless (word_end wanted) (λ text. word_none text wanted) g t us s at refl

  -- private names, and the hashbang

  pub private_sees : (ts : Items) (s : Position) → At text Good ts s → Agrees text Good (private_name_in ts) (terminal text priv_name_end s) (Reads text)
  unfolding is_xid_start xid_start_ranges in_ranges
  private_sees (ends g) s at = refuses_end priv_name_end (one_of (35 ∷ [])) private_absent g s at
  private_sees (it g (private_name w) us) s at =
      let good = at.good in
      let h = here g (private_name w) us s at in
      token_there text us h good.3 priv_name_end (private_again text (s.place + length g.blanks) w (render us) (private_parts w good.1.utf8 good.1.whole) h.stands h.cut good.2)
  private_sees (it g (template true last w) us) s at = refuses priv_name_end (35 ∷ []) private_absent g (template true last w) us s at refl
  private_sees (it g (template false last w) us) s at = refuses priv_name_end (35 ∷ []) private_absent g (template false last w) us s at refl
  private_sees (it g t us) s at = refuses priv_name_end (35 ∷ []) private_absent g t us s at refl

  no_bang : (i : ℕ) (n v : List ℕ) → Spelled IsKey n → Cut v → Stands text i (35 ∷ n ++ v) → hashbang_end text i ≡ None
  unfolding is_xid_start xid_start_ranges in_ranges
  no_bang i n v k c st =
      let e : after text i ≡ 35 ∷ chars (n ++ v) = after_here text i (35 ∷ n ++ v) st (cut_ascii 35 (n ++ v) (omega arith)) ∙ chars_ascii 35 (n ++ v) (omega arith) in
      let next : after text (i + 1) ≡ chars (n ++ v) = after_here text (i + 1) (n ++ v) (past text (35 ∷ []) st) (cut_utf8 n v k.0 c) in
      hashbang_short text i (code_point_stands text 35 i (chars (n ++ v)) e) (rw next (front_not is_valid_start (33 ∷ []) refl (chars (n ++ v)) (begins_both is_valid_start n v k.0 (key_begins (chars n) k.1))))

  pub hashbang_fails : (ts : Items) (s : Position) → At text Good ts s → Fails (terminal text hashbang_end s)
  unfolding is_xid_start xid_start_ranges in_ranges
  hashbang_fails (ends g) s at = refuses_end hashbang_end (one_of (35 ∷ [])) hashbang_absent g s at
  hashbang_fails (it g (private_name w) us) s at =
      let good = at.good in
      let h = here g (private_name w) us s at in
      let i = s.place + length g.blanks in
      let p = private_parts w good.1.utf8 good.1.whole in
      none_there text h hashbang_end (no_bang i p.name (render us) p.key h.cut (subst (λ l. Stands text i (l ++ render us)) p.is h.stands))
  hashbang_fails (it g (template true last w) us) s at = refuses hashbang_end (35 ∷ []) hashbang_absent g (template true last w) us s at refl
  hashbang_fails (it g (template false last w) us) s at = refuses hashbang_end (35 ∷ []) hashbang_absent g (template false last w) us s at refl
  hashbang_fails (it g t us) s at = refuses hashbang_end (35 ∷ []) hashbang_absent g t us s at refl

  -- literals

  pub string_sees : (ts : Items) (s : Position) → At text Good ts s → Agrees text Good (string_in ts) (terminal text str_end s) (Reads text)
  unfolding is_xid_start xid_start_ranges in_ranges
  string_sees (ends g) s at = refuses_end str_end (one_of quotes) string_absent g s at
  string_sees (it g (string w) us) s at =
      let good = at.good in
      let h = here g (string w) us s at in
      token_there text us h good.3 str_end (string_here text (s.place + length g.blanks) w (render us) (string_by_itself w good.1.utf8 good.1.whole) h.stands h.cut)
  string_sees (it g (template true last w) us) s at = refuses str_end quotes string_absent g (template true last w) us s at refl
  string_sees (it g (template false last w) us) s at = refuses str_end quotes string_absent g (template false last w) us s at refl
  string_sees (it g t us) s at = refuses str_end quotes string_absent g t us s at refl

  pub number_sees : (ts : Items) (s : Position) → At text Good ts s → Agrees text Good (number_in ts) (terminal text num_end s) (Reads text)
  unfolding is_xid_start xid_start_ranges in_ranges
  number_sees (ends g) s at = refuses_end num_end (one_of numeral_starts) number_absent g s at
  number_sees (it g (number w) us) s at =
      let good = at.good in
      let h = here g (number w) us s at in
      token_there text us h good.3 num_end (num_again text (s.place + length g.blanks) w (render us) (num_by_itself w good.1.utf8 good.1.whole) h.stands h.cut (closes_by (chars (render us)) good.2))
  number_sees (it g (sign w) us) s at =
      let good = at.good in
      let h = here g (sign w) us s at in
      none_there text h num_end (sign_no_numeral text w (render us) (s.place + length g.blanks) good.2 h.stands (cut_utf8 w (render us) h.utf8 h.cut) good.1)
  number_sees (it g (big_int w) us) s at =
      let good = at.good in
      let h = here g (big_int w) us s at in
      none_there text h num_end (no_num_here text (s.place + length g.blanks) w (render us) (big_literal_of w good.1.utf8 good.1.whole) h.stands h.cut)
  number_sees (it g (template true last w) us) s at = refuses num_end numeral_starts number_absent g (template true last w) us s at refl
  number_sees (it g (template false last w) us) s at = refuses num_end numeral_starts number_absent g (template false last w) us s at refl
  number_sees (it g t us) s at = refuses num_end numeral_starts number_absent g t us s at refl

  pub big_sees : (ts : Items) (s : Position) → At text Good ts s → Agrees text Good (big_int_in ts) (terminal text big_end s) (Reads text)
  unfolding is_xid_start xid_start_ranges in_ranges
  big_sees (ends g) s at = refuses_end big_end (one_of digits) big_absent g s at
  big_sees (it g (big_int w) us) s at =
      let good = at.good in
      let h = here g (big_int w) us s at in
      let i = s.place + length g.blanks in
      let c = cut_utf8 w (render us) h.utf8 h.cut in
      token_there text us h good.3 big_end (big_again text i w (render us) (big_literal_of w good.1.utf8 good.1.whole) h.stands c h.cut (piece_here text i w (render us) h.stands c h.cut) good.2)
  big_sees (it g (number w) us) s at =
      let good = at.good in
      let h = here g (number w) us s at in
      none_there text h big_end (no_big_here text (s.place + length g.blanks) w (render us) (num_literal_of w good.1.utf8 good.1.whole) h.stands good.2)
  big_sees (it g (template true last w) us) s at = refuses big_end digits big_absent g (template true last w) us s at refl
  big_sees (it g (template false last w) us) s at = refuses big_end digits big_absent g (template false last w) us s at refl
  big_sees (it g t us) s at = refuses big_end digits big_absent g t us s at refl

  -- of a regular expression also where its body ends
  abbrev pub ReadsRegex : List ℕ → Token → Type 0
  ReadsRegex w t = Reads text w t × (regex_body_end text t.start ≡ t.start + regex_body_end w 0) × (regex_body_end w 0 + 1 ≤ length w)

  pub regex_sees : (ts : Items) (s : Position) → At text Good ts s → Agrees text Good (regex_in ts) (terminal text regex_end s) ReadsRegex
  unfolding is_xid_start xid_start_ranges in_ranges
  regex_sees (ends g) s at = refuses_end regex_end (one_of (47 ∷ [])) regex_absent g s at
  regex_sees (it g (regex w) us) s at =
      let good = at.good in
      let h = here g (regex w) us s at in
      let p = regex_parts w good.1.whole in
      let r = token_with text us h good.3 (λ t. (regex_body_end text t.start ≡ t.start + regex_body_end w 0) × (regex_body_end w 0 + 1 ≤ length w)) regex_end (regex_again text w (render us) (s.place + length g.blanks) h.utf8 h.stands p h.cut good.2)
      (stop_again text w (render us) (s.place + length g.blanks) h.utf8 h.stands p, stop_within w p) in
      record { value = r.value; state = r.state; is = r.is; holds = (r.holds.0, r.holds.1.0, r.holds.1.1); at = r.at }
  regex_sees (it g (sign w) us) s at =
      let good = at.good in
      let h = here g (sign w) us s at in
      doubts text us h good.3 ReadsRegex regex_end (begins_by 47 w) (λ e. regex_absent text (s.place + length g.blanks) (rw (starts_here text h) (sign_other w (render us) good.2 47 e)))
  regex_sees (it g (template true last w) us) s at = refuses regex_end (47 ∷ []) regex_absent g (template true last w) us s at refl
  regex_sees (it g (template false last w) us) s at = refuses regex_end (47 ∷ []) regex_absent g (template false last w) us s at refl
  regex_sees (it g t us) s at = refuses regex_end (47 ∷ []) regex_absent g t us s at refl

  -- `<` (60) and `>` (62)

  abbrev Aside : ℕ → Type 0
  Aside c = (t : Tok) → is_sign t ≡ false → list_all (λ l. not (starts t l)) (c ∷ []) ≡ true

  left_aside : Aside 60
  unfolding is_xid_start xid_start_ranges in_ranges
  left_aside (sign w) h = absurd (false≢true (sym h))
  left_aside (template true last w) h = refl
  left_aside (template false last w) h = refl
  left_aside t h = refl

  right_aside : Aside 62
  unfolding is_xid_start xid_start_ranges in_ranges
  right_aside (sign w) h = absurd (false≢true (sym h))
  right_aside (template true last w) h = refl
  right_aside (template false last w) h = refl
  right_aside t h = refl

  angle_sees : (c : ℕ) → Aside c → (ts : Items) (s : Position) → At text Good ts s → Agrees text Good (angle_in c ts) (terminal text (angle_end c) s) (Reads text)
  angle_sees c far (ends g) s at = refuses_end (angle_end c) (one_of (c ∷ [])) (angle_absent c) g s at
  angle_sees c far (it g (sign w) us) s at =
      let good = at.good in
      let h = here g (sign w) us s at in
      doubts text us h good.3 (Reads text) (angle_end c) (begins_by c w) (λ e. angle_absent c text (s.place + length g.blanks) (rw (starts_here text h) (sign_other w (render us) good.2 c e)))
  angle_sees c far (it g t us) s at = refuses (angle_end c) (c ∷ []) (angle_absent c) g t us s at (far t refl)

  pub left_sees : (ts : Items) (s : Position) → At text Good ts s → Agrees text Good (angle_in 60 ts) (terminal text (angle_end 60) s) (Reads text)
  left_sees ts s at = angle_sees 60 left_aside ts s at

  pub right_sees : (ts : Items) (s : Position) → At text Good ts s → Agrees text Good (angle_in 62 ts) (terminal text (angle_end 62) s) (Reads text)
  right_sees ts s at = angle_sees 62 right_aside ts s at
