-- A regular expression that is read: its body is one by itself, and its flags are.
use Rattle.std.proofs.Common.{◌≡◌, ◌∙◌, ℕ, zero, suc, ◌+◌, ◌-◌, ◌<◌, ◌≤◌, Bool, true, false, cond, not, List, [], ◌∷◌, length, nat_eq, Option, Some, None, refl, sym, ap, subst, arith, unwrap_or}
use Rattle.std.specs.Char.{len_utf8}
use Rattle.std.specs.List.{list_all}
use Rattle.std.specs.Str.{IsUtf8}
use Rattle.std.proofs.lemmas.Bool.{eqb-true, false≢true}
use Rattle.std.proofs.lemmas.Bool.Decides.{Decides-eqb}
use Rattle.std.proofs.lemmas.Str.{chars-nil}
use Rattle.ecma_number.specs.Blanks.{is_line_terminator}
use Rattle.ecma_lex.specs.Text.{after, cuts, piece}
use Rattle.ecma_lex.specs.Parts.{Part, char_at, passes, passing, code_point, many, ◌>>◌, ◌//◌}
use Rattle.ecma_lex.specs.Keys.{identifier_parts, is_valid_continue}
use Rattle.ecma_lex.specs.Regexes.{backslash_sequence, body, class, class_char, class_chars, first_char, non_terminator, opened, regex_body_end, regex_char, regex_chars, regex_end}
use Rattle.ecma_lex.proofs.Alike.{code_here}
use Rattle.ecma_lex.proofs.Expressions.{class_backslash, class_close, class_end, class_other, regex_backslash, regex_class, regex_none, regex_other, regex_slash}
use Rattle.ecma_lex.proofs.Repeats.{Forward, Moves, between, forward_many, forward_then, many_none, many_some, moves_forward, moves_or, moves_passing, moves_then, moves_unless, none_some, passing_end, passing_fails, passing_stands, then_some, unless_parts, unless_stands}
use Rattle.ecma_lex.proofs.Spelled.{Front, Spelled, alone, spelled}
use Rattle.ecma_lex.proofs.Standings.{Alone, alone_piece, same_char}
use Rattle.ecma_lex.proofs.Steps.{after_cut, after_end, after_step, fits, may_cut, next_here, step}
use Rattle.ecma_lex.proofs.Suffixes.{after_here, past}
use Rattle.ecma_leaves.specs.Words.{are_flags, ends_at, is_body}

module _ (text : List ℕ) where
  moves_code : (c : ℕ) → Moves text (code_point c)
  moves_code c = moves_passing text (λ d. nat_eq d c)

  moves_terminator : Moves text non_terminator
  moves_terminator = moves_passing text (λ c. not (is_line_terminator c))

  moves_backslash : Moves text backslash_sequence
  unfolding backslash_sequence
  moves_backslash = moves_then text (moves_code 92) (moves_forward text moves_terminator)

  moves_class_char : Moves text class_char
  unfolding class_char
  moves_class_char = moves_or text (moves_unless text (code_point 93 // code_point 92) moves_terminator) moves_backslash

  forward_class_chars : Forward text class_chars
  unfolding class_chars
  forward_class_chars = forward_many text (moves_forward text moves_class_char)

  moves_class : Moves text class
  unfolding class
  moves_class = moves_then text (moves_code 91) (forward_then text forward_class_chars (moves_forward text (moves_code 93)))

  moves_regex_char : Moves text regex_char
  unfolding regex_char
  moves_regex_char = moves_or text (moves_unless text (code_point 92 // code_point 47 // code_point 91) moves_terminator) (moves_or text moves_backslash moves_class)

  forward_regex_chars : Forward text regex_chars
  unfolding regex_chars
  forward_regex_chars = forward_many text (moves_forward text moves_regex_char)

  moves_first : Moves text first_char
  moves_first = moves_unless text (code_point 42) moves_regex_char

  forward_body : Forward text body
  unfolding body
  forward_body = forward_then text (moves_forward text moves_first) forward_regex_chars

-- the same characters stand from one place on in a text, and from another on in a second one
module _ (first second : List ℕ) (utf8 : IsUtf8 first) (utf8_too : IsUtf8 second) (a b n : ℕ) (same : (k : ℕ) → k < n → char_at first (a + k) ≡ char_at second (b + k)) where
  -- where a part stands in the first, it stands in the second
  Kept : Part → Type 0
  Kept p = (k r : ℕ) → r ≤ n → p first (a + k) ≡ Some (a + r) → p second (b + k) ≡ Some (b + r)

  inside : (p : Part) → Moves first p → (k r : ℕ) → r ≤ n → p first (a + k) ≡ Some (a + r) → k < n
  inside p m k r l h = let on = m.on (a + k) (a + r) h in omega arith

  passing_kept : (p : ℕ → Bool) → Kept (passing p)
  unfolding Kept
  passing_kept p k r l h = ap (passes p (b + k)) (sym (same k (inside (passing p) (moves_passing first p) k r l h))) ∙ go (char_at first (a + k)) h
    where
      go : (o : Option ℕ) → passes p (a + k) o ≡ Some (a + r) → passes p (b + k) o ≡ Some (b + r)
      go None e = none_some e
      go (Some c) e = test (p c) e
        where
          test : (t : Bool) → cond t (Some (a + k + len_utf8 c)) None ≡ Some (a + r) → cond t (Some (b + k + len_utf8 c)) None ≡ Some (b + r)
          test true x = let y : a + k + len_utf8 c ≡ a + r = cc in ap Some (omega arith)
          test false x = none_some x

  then_kept : (p q : Part) → Kept p → Kept q → Moves first p → Forward first q → Kept (p >> q)
  unfolding Kept
  then_kept p q f g moves forward k r l h =
      let m = between first q (p first (a + k)) (a + r) h in
      let far = forward.on m.0 (a + r) m.2 in
      let on = moves.on (a + k) m.0 m.1 in
      let s : m.0 ≡ a + (m.0 - a) = omega arith in
      then_some second p q (b + k) (b + (m.0 - a)) (f k (m.0 - a) (omega arith) (m.1 ∙ ap Some s)) ∙ g (m.0 - a) r l (subst (λ x. q first x ≡ Some (a + r)) s m.2)

  many_kept : (p : Part) → Moves first p → Moves second p → Kept p → (d k r : ℕ) → n ≤ d + k → r ≤ n → many p first (a + k) ≡ Some (a + r) → p second (b + r) ≡ None → many p second (b + k) ≡ Some (b + r)
  unfolding Kept
  many_kept p u v f zero k r e l h z =
      let on = (forward_many first (moves_forward first u)).on (a + k) (a + r) h in
      let is : k ≡ r = omega arith in
      rw is (many_none second p (b + r) z)
  many_kept p u v f (suc d) k r e l h z = go (p first (a + k)) refl (λ m on rest. many_kept p u v f d m r (omega arith) l rest z)
    where
      go : (o : Option ℕ) → p first (a + k) ≡ o → ((m : ℕ) → k < m → many p first (a + m) ≡ Some (a + r) → many p second (b + m) ≡ Some (b + r)) → many p second (b + k) ≡ Some (b + r)
      go None x more =
          let y : ◌≡◌ {A = Option ℕ} (Some (a + k)) (Some (a + r)) = sym (many_none first p (a + k) x) ∙ h in
          let w : a + k ≡ a + r = cc in
          let is : k ≡ r = omega arith in
          rw is (many_none second p (b + r) z)
      go (Some j) x more =
          let on = u.on (a + k) j x in
          let s : j ≡ a + (j - a) = omega arith in
          let rest : many p first (a + (j - a)) ≡ Some (a + r) = subst (λ y. many p first y ≡ Some (a + r)) s (sym (many_some first p u (a + k) j x) ∙ h) in
          let far = (forward_many first (moves_forward first u)).on (a + (j - a)) (a + r) rest in
          many_some second p v (b + k) (b + (j - a)) (f k (j - a) (omega arith) (x ∙ ap Some s)) ∙ more (j - a) (omega arith) rest

  code_kept : (c : ℕ) → Kept (code_point c)
  code_kept c = passing_kept (λ d. nat_eq d c)

  terminator_kept : Kept non_terminator
  terminator_kept = passing_kept (λ c. not (is_line_terminator c))

  backslash_kept : Kept backslash_sequence
  unfolding backslash_sequence
  backslash_kept = then_kept (code_point 92) non_terminator (code_kept 92) terminator_kept (moves_code first 92) (moves_forward first (moves_terminator first))

  -- by the character that stands there

  here : (k c : ℕ) → char_at first (a + k) ≡ Some c → after first (a + k) ≡ c ∷ after first (a + k + len_utf8 c)
  here k c e = after_step first (a + k) c utf8 e

  there : (k c : ℕ) → k < n → char_at first (a + k) ≡ Some c → after second (b + k) ≡ c ∷ after second (b + k + len_utf8 c)
  there k c l e = after_step second (b + k) c utf8_too (sym (same k l) ∙ e)

  class_char_kept : Kept class_char
  unfolding Kept
  class_char_kept k r l h = go (char_at first (a + k)) refl
    where
      below : k < n
      below = inside class_char (moves_class_char first) k r l h

      other : (c : ℕ) → char_at first (a + k) ≡ Some c → (x y : Bool) → nat_eq c 93 ≡ x → nat_eq c 92 ≡ y → class_char second (b + k) ≡ Some (b + r)
      other c e true y f g = let z = eqb-true c 93 f in none_some (sym (class_close first (a + k) _ (here k 93 (e ∙ ap Some z))) ∙ h)
      other c e false true f g =
          let z : Some c ≡ Some 92 = ap Some (eqb-true c 92 g) in
          class_backslash second (b + k) _ (there k 92 below (e ∙ z)) ∙ backslash_kept k r l (sym (class_backslash first (a + k) _ (here k 92 (e ∙ z))) ∙ h)
      other c e false false f g =
          let x : c ≡ 93 → ⊥ = λ z. (let q = rw z at f in false≢true (sym q)) in
          let y : c ≡ 92 → ⊥ = λ z. (let q = rw z at g in false≢true (sym q)) in
          class_other second (b + k) c _ (there k c below e) x y ∙ terminator_kept k r l (sym (class_other first (a + k) c _ (here k c e) x y) ∙ h)

      go : (o : Option ℕ) → char_at first (a + k) ≡ o → class_char second (b + k) ≡ Some (b + r)
      go None e = none_some (sym (class_end first (a + k) (after_end first (a + k) e)) ∙ h)
      go (Some c) e = other c e (nat_eq c 93) (nat_eq c 92) refl refl

  class_kept : Kept class
  unfolding Kept class class_chars
  class_kept k r l h =
      let p = between first (many class_char >> code_point 93) (code_point 91 first (a + k)) (a + r) h in
      let q = between first (code_point 93) (many class_char first p.0) (a + r) p.2 in
      let c = code_here first 93 q.0 (a + r) (omega arith) q.2 in
      let at = c.1 in
      let far = (forward_many first (moves_forward first (moves_class_char first))).on p.0 q.0 q.1 in
      let on = (moves_code first 91).on (a + k) p.0 p.1 in
      let s : p.0 ≡ a + (p.0 - a) = omega arith in
      let t : q.0 ≡ a + (q.0 - a) = omega arith in
      let stop = class_close second (b + (q.0 - a)) _ (there (q.0 - a) 93 (omega arith) (ap (char_at first) (sym t) ∙ c.0)) in
      let chars_stand : many class_char first (a + (p.0 - a)) ≡ Some (a + (q.0 - a)) = ap (many class_char first) (sym s) ∙ q.1 ∙ ap Some t in
      then_some second (code_point 91) (many class_char >> code_point 93) (b + k) (b + (p.0 - a)) (code_kept 91 k (p.0 - a) (omega arith) (p.1 ∙ ap Some s))
      ∙ then_some second (many class_char) (code_point 93) (b + (p.0 - a)) (b + (q.0 - a)) (many_kept class_char (moves_class_char first) (moves_class_char second) class_char_kept n (p.0 - a) (q.0 - a) (omega arith) (omega arith) chars_stand stop)
      ∙ code_kept 93 (q.0 - a) r l (ap (code_point 93 first) (sym t) ∙ q.2)

  regex_char_kept : Kept regex_char
  unfolding Kept
  regex_char_kept k r l h = go (char_at first (a + k)) refl
    where
      below : k < n
      below = inside regex_char (moves_regex_char first) k r l h

      other : (c : ℕ) → char_at first (a + k) ≡ Some c → (x y z : Bool) → nat_eq c 47 ≡ x → nat_eq c 92 ≡ y → nat_eq c 91 ≡ z → regex_char second (b + k) ≡ Some (b + r)
      other c e true y z f g i = none_some (sym (regex_slash first (a + k) _ (here k 47 (e ∙ ap Some (eqb-true c 47 f)))) ∙ h)
      other c e false true z f g i =
          let q : Some c ≡ Some 92 = ap Some (eqb-true c 92 g) in
          regex_backslash second (b + k) _ (there k 92 below (e ∙ q)) ∙ backslash_kept k r l (sym (regex_backslash first (a + k) _ (here k 92 (e ∙ q))) ∙ h)
      other c e false false true f g i =
          let q : Some c ≡ Some 91 = ap Some (eqb-true c 91 i) in
          regex_class second (b + k) _ (there k 91 below (e ∙ q)) ∙ class_kept k r l (sym (regex_class first (a + k) _ (here k 91 (e ∙ q))) ∙ h)
      other c e false false false f g i =
          let x : c ≡ 47 → ⊥ = λ m. (let q = rw m at f in false≢true (sym q)) in
          let y : c ≡ 92 → ⊥ = λ m. (let q = rw m at g in false≢true (sym q)) in
          let z : c ≡ 91 → ⊥ = λ m. (let q = rw m at i in false≢true (sym q)) in
          regex_other second (b + k) c _ (there k c below e) x y z ∙ terminator_kept k r l (sym (regex_other first (a + k) c _ (here k c e) x y z) ∙ h)

      go : (o : Option ℕ) → char_at first (a + k) ≡ o → regex_char second (b + k) ≡ Some (b + r)
      go None e = none_some (sym (regex_none first (a + k) (after_end first (a + k) e)) ∙ h)
      go (Some c) e = other c e (nat_eq c 47) (nat_eq c 92) (nat_eq c 91) refl refl refl

  code_refused : (c k : ℕ) → k < n → code_point c first (a + k) ≡ None → code_point c second (b + k) ≡ None
  code_refused c k l h = ap (passes (λ d. nat_eq d c) (b + k)) (sym (same k l)) ∙ go (char_at first (a + k)) h
    where
      go : (o : Option ℕ) → passes (λ d. nat_eq d c) (a + k) o ≡ None → passes (λ d. nat_eq d c) (b + k) o ≡ None
      go None e = refl
      go (Some d) e = test (nat_eq d c) e
        where
          test : (t : Bool) → cond t (Some (a + k + len_utf8 d)) None ≡ None → cond t (Some (b + k + len_utf8 d)) None ≡ None
          test true x = none_some (sym x)
          test false x = refl

  first_kept : Kept first_char
  unfolding Kept
  first_kept k r l h =
      let p = unless_parts first (code_point 42) regex_char (a + k) (a + r) h in
      unless_stands second (code_point 42) regex_char (b + k) (b + r) (code_refused 42 k (inside regex_char (moves_regex_char first) k r l p.1) p.0) (regex_char_kept k r l p.1)

  -- a body, behind which none of its characters stands
  pub body_kept : (r : ℕ) → r ≤ n → body first (a + 0) ≡ Some (a + r) → regex_char second (b + r) ≡ None → body second (b + 0) ≡ Some (b + r)
  unfolding Kept body regex_chars
  body_kept r l h z =
      let p = between first (many regex_char) (first_char first (a + 0)) (a + r) h in
      let on = (moves_first first).on (a + 0) p.0 p.1 in
      let far = (forward_many first (moves_forward first (moves_regex_char first))).on p.0 (a + r) p.2 in
      let s : p.0 ≡ a + (p.0 - a) = omega arith in
      then_some second first_char (many regex_char) (b + 0) (b + (p.0 - a)) (first_kept 0 (p.0 - a) (omega arith) (p.1 ∙ ap Some s))
      ∙ many_kept regex_char (moves_regex_char first) (moves_regex_char second) regex_char_kept n (p.0 - a) r (omega arith) l (ap (many regex_char first) (sym s) ∙ p.2) z

-- behind an ASCII character the text may be cut
pub cut_behind : (text : List ℕ) (i c : ℕ) → IsUtf8 text → c < 128 → char_at text i ≡ Some c → cuts text (i + len_utf8 c) ≡ true
cut_behind text i c u small e = may_cut text (i + len_utf8 c) (step text i c u e).0

-- a part that takes characters that pass, one by one, up to one that does not
pub record Takes (text : List ℕ) (p : ℕ → Bool) (part : ℕ → Option ℕ) : Type 0 where
  pub ends : (i : ℕ) → after text i ≡ [] → part i ≡ Some i
  pub stops : (i c : ℕ) → after text i ≡ c ∷ after text (i + len_utf8 c) → p c ≡ false → part i ≡ Some i
  pub more : (i c : ℕ) → after text i ≡ c ∷ after text (i + len_utf8 c) → p c ≡ true → part i ≡ part (i + len_utf8 c)

abbrev pub Pass : (ℕ → Bool) → List ℕ → Type 0
Pass p cs = list_all p cs ≡ true

-- what it takes passes
module _ (text : List ℕ) (u : IsUtf8 text) (p : ℕ → Bool) (part : ℕ → Option ℕ) (takes : Takes text p part) (j : ℕ) where
  taken : (cs : List ℕ) (i : ℕ) → after text i ≡ cs → part i ≡ Some j → Front (Pass p) cs i j
  taken [] i e h =
      let k : ◌≡◌ {A = Option ℕ} (Some i) (Some j) = sym (takes.ends i e) ∙ h in
      let is : i ≡ j = cc in
      record { front = []; back = []; parts = refl; kind = refl; ends = omega arith }
  taken (c ∷ cs) i e h = go (p c) refl (λ k. taken cs (i + len_utf8 c) behind k)
    where
      behind : after text (i + len_utf8 c) ≡ cs
      behind = next_here text i c cs u e

      whole : after text i ≡ c ∷ after text (i + len_utf8 c)
      whole = e ∙ ap (λ l. c ∷ l) (sym behind)

      go : (t : Bool) → p c ≡ t → (part (i + len_utf8 c) ≡ Some j → Front (Pass p) cs (i + len_utf8 c) j) → Front (Pass p) (c ∷ cs) i j
      go true f below =
          let r = below (sym (takes.more i c whole f) ∙ h) in
          record { front = c ∷ r.front; back = r.back; parts = ap (λ l. c ∷ l) r.parts; kind = rw f r.kind; ends = (let z = r.ends in omega arith) }
      go false f below =
          let k : ◌≡◌ {A = Option ℕ} (Some i) (Some j) = sym (takes.stops i c whole f) ∙ h in
          let is : i ≡ j = cc in
          record { front = []; back = c ∷ cs; parts = refl; kind = refl; ends = omega arith }

  pub all_pass : (i : ℕ) → cuts text i ≡ true → part i ≡ Some j → Spelled (Pass p) (piece text i j)
  all_pass i c h = spelled text u c (taken (after text i) i refl h)

flags_take : (text : List ℕ) → Takes text is_valid_continue (identifier_parts text)
unfolding identifier_parts
flags_take text = record {
  ends = λ i e. many_none text (passing is_valid_continue) i (passing_end text is_valid_continue i e);
  stops = λ i c e f. many_none text (passing is_valid_continue) i (passing_fails text is_valid_continue i c _ e f);
  more = λ i c e f. many_some text (passing is_valid_continue) (moves_passing text is_valid_continue) i (i + len_utf8 c) (passing_stands text is_valid_continue i c _ e f);
}

-- a literal, part by part
record Literal (text : List ℕ) (i j : ℕ) : Type 0 where
  stop : ℕ
  opens : char_at text i ≡ Some 47
  body_stands : body text (i + 1) ≡ Some stop
  stops_there : regex_body_end text i ≡ stop
  closes : char_at text stop ≡ Some 47
  flags : identifier_parts text (stop + 1) ≡ Some j
  on : i + 1 ≤ stop

module _ (text : List ℕ) (u : IsUtf8 text) (i j : ℕ) (h : regex_end text i ≡ Some j) where
  literal : Literal text i j
  unfolding regex_end opened regex_body_end
  literal =
      let p = between text (code_point 47 >> identifier_parts) (opened text i) j h in
      let q = between text identifier_parts (code_point 47 text p.0) j p.2 in
      let closes = code_here text 47 p.0 q.0 (omega arith) q.1 in
      let r = between text body (code_point 47 text i) p.0 p.1 in
      let opens = code_here text 47 i r.0 (omega arith) r.1 in
      let first : body text (i + 1) ≡ Some p.0 = subst (λ x. body text x ≡ Some p.0) opens.1 r.2 in
      record {
        stop = p.0;
        opens = opens.0;
        body_stands = first;
        stops_there = ap (λ o. unwrap_or o i) p.1;
        closes = closes.0;
        flags = subst (λ x. identifier_parts text x ≡ Some j) closes.1 q.2;
        on = (forward_body text).on (i + 1) p.0 first;
      }

  pub regex_flags : are_flags (piece text (regex_body_end text i + 1) j) ≡ true
  regex_flags =
      let l = literal in
      let s = all_pass text u is_valid_continue (identifier_parts text) (flags_take text) j (l.stop + 1) (cut_behind text l.stop 47 u (omega arith) l.closes) l.flags in
      subst (λ x. are_flags (piece text (x + 1) j) ≡ true) (sym l.stops_there) s.1

  inner : Alone text (i + 1) (let l = literal in l.stop)
  inner =
      let l = literal in
      let end = fits text l.stop 47 u l.closes in
      alone_piece text u (i + 1) l.stop (l.on, omega arith, cut_behind text i 47 u (omega arith) l.opens, after_cut text l.stop 47 l.closes)

  pub regex_body : is_body (piece text (i + 1) (regex_body_end text i)) ≡ true
  regex_body =
      let l = literal in
      let p = inner in
      let w = piece text (i + 1) l.stop in
      let size = p.ends in
      let same : (k : ℕ) → k < length w → char_at text (i + 1 + k) ≡ char_at w (0 + k) = λ k b. same_char text w p.rest (i + 1) p.utf8 p.stands k b ∙ sym (same_char w w [] 0 p.utf8 (alone w) k b) in
      let none : regex_char w (0 + length w) ≡ None = regex_none w (0 + length w) (after_here w (0 + length w) [] (past w w (alone w)) refl ∙ chars-nil) in
      let stands : body text (i + 1 + 0) ≡ Some (i + 1 + length w) = ap (body text) (omega arith) ∙ l.body_stands ∙ ap Some size in
      let whole = body_kept text w u p.utf8 (i + 1) 0 (length w) same (length w) (omega arith) stands none in
      let z : 0 + length w ≡ length w = omega arith in
      let all : is_body w ≡ true = ap (ends_at (length w)) whole ∙ (Decides-eqb (0 + length w) (length w)).1 z in
      subst (λ x. is_body (piece text (i + 1) x) ≡ true) (sym l.stops_there) all
