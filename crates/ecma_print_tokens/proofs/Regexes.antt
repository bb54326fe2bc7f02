-- Regular expression literals: each is one again where it stands in another text.
use Rattle.std.proofs.Common.{◌≡◌, ℕ, zero, suc, ◌+◌, ◌<◌, ◌≤◌, List, [], ◌∷◌, ◌++◌, length, drop, refl, ap, sym, ◌∙◌, subst, arith, Option, Some, None, Bool, true, false, cond, not, nat_eq}
use Rattle.std.proofs.lemmas.Bool.{and_parts, eqb-true, false≢true, not-true}
use Rattle.std.proofs.lemmas.Str.{chars-append, chars-encodes, encodes-chars, scalars-chars}
use lib.Utf8.{scalar, scalars, encode, encodes}
use Rattle.ecma_number.specs.Numeral.{begins}
use Rattle.std.specs.Str.{IsUtf8, chars}
use Rattle.std.specs.Char.{len_utf8}
use Rattle.std.specs.List.{slice_get}
use Rattle.ecma_number.specs.Blanks.{is_line_terminator}
use Rattle.ecma_lex.specs.Text.{after}
use Rattle.ecma_lex.specs.Parts.{Part, char_at, passes, passing, code_point, ◌>>◌, ◌//◌, many}
use Rattle.ecma_lex.specs.Keys.{is_valid_continue, identifier_parts}
use Rattle.ecma_lex.specs.Regexes.{non_terminator, backslash_sequence, class_char, class_chars, class, regex_char, regex_chars, first_char, body, opened, regex_end, regex_body_end}
use Rattle.ecma_lex.proofs.Steps.{next_here}
use Rattle.ecma_lex.proofs.Literals.{after_start}
use Rattle.ecma_lex.proofs.Suffixes.{Cut, cut_utf8, Stands, past, after_here}
use Rattle.ecma_lex.proofs.Repeats.{Moves, Forward, moves_forward, forward_many, forward_then, moves_passing, moves_then, moves_or, moves_unless, none_some, between, then_some, unless_parts, unless_stands, many_none, many_some, passing_end, passing_fails}
use Rattle.ecma_lex.proofs.Expressions.{class_close, class_backslash, class_other, class_end, regex_slash, regex_backslash, regex_class, regex_other, regex_none}
use Rattle.ecma_lex.proofs.Alike.{code_here}
use Rattle.ecma_lex.proofs.Standings.{same_char}
use Rattle.ecma_lex.proofs.Spelled.{stops}
use Rattle.ecma_print_tokens.specs.Good.{begins_comment}

after_of : (text : List ℕ) (i c : ℕ) → char_at text i ≡ Some c → after text i ≡ c ∷ drop 1 (after text i)
after_of text i c h = go (after text i) h
  where
    go : (cs : List ℕ) → slice_get cs 0 ≡ Some c → cs ≡ c ∷ drop 1 cs
    go [] k = none_some k
    go (x ∷ xs) k = let e : x ≡ c = cc in rw e refl

after_none : (text : List ℕ) (i : ℕ) → char_at text i ≡ None → after text i ≡ []
after_none text i h = go (after text i) h
  where
    go : (cs : List ℕ) → slice_get cs 0 ≡ None → cs ≡ []
    go [] k = refl
    go (x ∷ xs) k = none_some (sym k)

module _ (text : List ℕ) where
  moves_code_point : (c : ℕ) → Moves text (code_point c)
  moves_code_point c = moves_passing text (λ d. nat_eq d c)

  moves_non_terminator : Moves text non_terminator
  moves_non_terminator = moves_passing text (λ c. not (is_line_terminator c))

  moves_backslash : Moves text backslash_sequence
  unfolding backslash_sequence
  moves_backslash = moves_then text (moves_code_point 92) (moves_forward text moves_non_terminator)

  moves_class_char : Moves text class_char
  unfolding class_char
  moves_class_char = moves_or text (moves_unless text (code_point 93 // code_point 92) moves_non_terminator) moves_backslash

  forward_class_chars : Forward text class_chars
  unfolding class_chars
  forward_class_chars = forward_many text (moves_forward text moves_class_char)

  moves_class : Moves text class
  unfolding class
  moves_class = moves_then text (moves_code_point 91) (forward_then text forward_class_chars (moves_forward text (moves_code_point 93)))

  moves_regex_char : Moves text regex_char
  unfolding regex_char
  moves_regex_char = moves_or text (moves_unless text (code_point 92 // code_point 47 // code_point 91) moves_non_terminator) (moves_or text moves_backslash moves_class)

  forward_regex_chars : Forward text regex_chars
  unfolding regex_chars
  forward_regex_chars = forward_many text (moves_forward text moves_regex_char)

  forward_body : Forward text body
  unfolding body
  forward_body = forward_then text (moves_forward text (moves_unless text (code_point 42) moves_regex_char)) forward_regex_chars

  forward_flags : Forward text identifier_parts
  unfolding identifier_parts
  forward_flags = forward_many text (moves_forward text (moves_passing text is_valid_continue))

module _ (text w v : List ℕ) (i : ℕ) (utf8 : IsUtf8 w) (st : Stands text i (w ++ v)) where
  same : (k : ℕ) → k < length w → char_at text (i + k) ≡ char_at w k
  same k l = same_char text w v i utf8 st k l

  -- where a part stands in w, it stands in the text
  Kept : Part → Type 0
  Kept p = (k r : ℕ) → r ≤ length w → p w k ≡ Some r → p text (i + k) ≡ Some (i + r)

  passing_kept : (p : ℕ → Bool) → Kept (passing p)
  unfolding Kept
  passing_kept p k r l h =
      let inside = (moves_passing w p).within k r h in
      ap (passes p (i + k)) (same k inside) ∙ go (char_at w k) h
    where
      go : (o : Option ℕ) → passes p k o ≡ Some r → passes p (i + k) o ≡ Some (i + r)
      go None e = none_some e
      go (Some c) e = test (p c) e
        where
          test : (b : Bool) → cond b (Some (k + len_utf8 c)) None ≡ Some r → cond b (Some (i + k + len_utf8 c)) None ≡ Some (i + r)
          test true x = let y : k + len_utf8 c ≡ r = cc in ap Some (omega arith)
          test false x = none_some x

  then_kept : (p q : Part) → Kept p → Kept q → Forward w q → Kept (p >> q)
  unfolding Kept
  then_kept p q f g forward k r l h =
      let m = between w q (p w k) r h in
      let on = forward.on m.0 r m.2 in
      then_some text p q (i + k) (i + m.0) (f k m.0 (omega arith) m.1) ∙ g m.0 r l m.2

  many_kept : (p : Part) → Moves w p → Moves text p → Kept p → (d k r : ℕ) → length w ≤ d + k → r ≤ length w → many p w k ≡ Some r → p text (i + r) ≡ None → many p text (i + k) ≡ Some (i + r)
  unfolding Kept
  many_kept p a b f zero k r e l h n =
      let forward = (forward_many w (moves_forward w a)).on k r h in
      let z : k ≡ r = omega arith in
      rw z (many_none text p (i + r) n)
  many_kept p a b f (suc d) k r e l h n = go (p w k) refl (λ m on rest far. many_kept p a b f d m r (omega arith) l rest n)
    where
      go : (o : Option ℕ) → p w k ≡ o → ((m : ℕ) → k < m → many p w m ≡ Some r → m ≤ r → many p text (i + m) ≡ Some (i + r)) → many p text (i + k) ≡ Some (i + r)
      go None x more =
          let y : ◌≡◌ {A = Option ℕ} (Some k) (Some r) = sym (many_none w p k x) ∙ h in
          let z : k ≡ r = cc in
          rw z (many_none text p (i + r) n)
      go (Some m) x more =
          let on = a.on k m x in
          let rest : many p w m ≡ Some r = sym (many_some w p a k m x) ∙ h in
          let far = (forward_many w (moves_forward w a)).on m r rest in
          many_some text p b (i + k) (i + m) (f k m (omega arith) x) ∙ more m on rest far

  code_kept : (c : ℕ) → Kept (code_point c)
  code_kept c = passing_kept (λ d. nat_eq d c)

  terminator_kept : Kept non_terminator
  terminator_kept = passing_kept (λ c. not (is_line_terminator c))

  backslash_kept : Kept backslash_sequence
  unfolding backslash_sequence
  backslash_kept = then_kept (code_point 92) non_terminator (code_kept 92) terminator_kept (moves_forward w (moves_non_terminator w))

  -- by the character that stands there
  there : (k c : ℕ) → k < length w → char_at w k ≡ Some c → after text (i + k) ≡ c ∷ drop 1 (after text (i + k))
  there k c l e = after_of text (i + k) c (same k l ∙ e)

  class_char_kept : Kept class_char
  unfolding Kept
  class_char_kept k r l h = go (char_at w k) refl
    where
      inside : k < length w
      inside = (moves_class_char w).within k r h

      other : (c : ℕ) → char_at w k ≡ Some c → (a b : Bool) → nat_eq c 93 ≡ a → nat_eq c 92 ≡ b → class_char text (i + k) ≡ Some (i + r)
      other c e true b x y = let z = eqb-true c 93 x in none_some (sym (class_close w k (drop 1 (after w k)) (after_of w k 93 (e ∙ ap Some z))) ∙ h)
      other c e false true x y =
          let z : Some c ≡ Some 92 = ap Some (eqb-true c 92 y) in
          class_backslash text (i + k) _ (there k 92 inside (e ∙ z)) ∙ backslash_kept k r l (sym (class_backslash w k _ (after_of w k 92 (e ∙ z))) ∙ h)
      other c e false false x y =
          let a : c ≡ 93 → ⊥ = λ z. (let q = rw z at x in false≢true (sym q)) in
          let b : c ≡ 92 → ⊥ = λ z. (let q = rw z at y in false≢true (sym q)) in
          class_other text (i + k) c _ (there k c inside e) a b ∙ terminator_kept k r l (sym (class_other w k c _ (after_of w k c e) a b) ∙ h)

      go : (o : Option ℕ) → char_at w k ≡ o → class_char text (i + k) ≡ Some (i + r)
      go None e = none_some (sym (class_end w k (after_none w k e)) ∙ h)
      go (Some c) e = other c e (nat_eq c 93) (nat_eq c 92) refl refl

  class_chars_kept : (k r : ℕ) → r ≤ length w → class_chars w k ≡ Some r → class_char text (i + r) ≡ None → class_chars text (i + k) ≡ Some (i + r)
  unfolding class_chars
  class_chars_kept k r l h n = many_kept class_char (moves_class_char w) (moves_class_char text) class_char_kept (length w) k r (omega arith) l h n

  class_kept : Kept class
  unfolding Kept class
  class_kept k r l h =
      let a = between w (class_chars >> code_point 93) (code_point 91 w k) r h in
      let b = between w (code_point 93) (class_chars w a.0) r a.2 in
      let c = code_here w 93 b.0 r (omega arith) b.2 in
      let at = c.1 in
      let stop = class_close text (i + b.0) _ (there b.0 93 (omega arith) c.0) in
      let on = (forward_class_chars w).on a.0 b.0 b.1 in
      then_some text (code_point 91) (class_chars >> code_point 93) (i + k) (i + a.0) (code_kept 91 k a.0 (omega arith) a.1)
      ∙ then_some text class_chars (code_point 93) (i + a.0) (i + b.0) (class_chars_kept a.0 b.0 (omega arith) b.1 stop)
      ∙ code_kept 93 b.0 r l b.2

  regex_char_kept : Kept regex_char
  unfolding Kept
  regex_char_kept k r l h = go (char_at w k) refl
    where
      inside : k < length w
      inside = (moves_regex_char w).within k r h

      other : (c : ℕ) → char_at w k ≡ Some c → (a b d : Bool) → nat_eq c 47 ≡ a → nat_eq c 92 ≡ b → nat_eq c 91 ≡ d → regex_char text (i + k) ≡ Some (i + r)
      other c e true b d x y z = none_some (sym (regex_slash w k _ (after_of w k 47 (e ∙ ap Some (eqb-true c 47 x)))) ∙ h)
      other c e false true d x y z =
          let q : Some c ≡ Some 92 = ap Some (eqb-true c 92 y) in
          regex_backslash text (i + k) _ (there k 92 inside (e ∙ q)) ∙ backslash_kept k r l (sym (regex_backslash w k _ (after_of w k 92 (e ∙ q))) ∙ h)
      other c e false false true x y z =
          let q : Some c ≡ Some 91 = ap Some (eqb-true c 91 z) in
          regex_class text (i + k) _ (there k 91 inside (e ∙ q)) ∙ class_kept k r l (sym (regex_class w k _ (after_of w k 91 (e ∙ q))) ∙ h)
      other c e false false false x y z =
          let a : c ≡ 47 → ⊥ = λ f. (let q = rw f at x in false≢true (sym q)) in
          let b : c ≡ 92 → ⊥ = λ f. (let q = rw f at y in false≢true (sym q)) in
          let d : c ≡ 91 → ⊥ = λ f. (let q = rw f at z in false≢true (sym q)) in
          regex_other text (i + k) c _ (there k c inside e) a b d ∙ terminator_kept k r l (sym (regex_other w k c _ (after_of w k c e) a b d) ∙ h)

      go : (o : Option ℕ) → char_at w k ≡ o → regex_char text (i + k) ≡ Some (i + r)
      go None e = none_some (sym (regex_none w k (after_none w k e)) ∙ h)
      go (Some c) e = other c e (nat_eq c 47) (nat_eq c 92) (nat_eq c 91) refl refl refl

  regex_chars_kept : (k r : ℕ) → r ≤ length w → regex_chars w k ≡ Some r → regex_char text (i + r) ≡ None → regex_chars text (i + k) ≡ Some (i + r)
  unfolding regex_chars
  regex_chars_kept k r l h n = many_kept regex_char (moves_regex_char w) (moves_regex_char text) regex_char_kept (length w) k r (omega arith) l h n

  code_refused : (c k : ℕ) → k < length w → code_point c w k ≡ None → code_point c text (i + k) ≡ None
  code_refused c k l h = ap (passes (λ d. nat_eq d c) (i + k)) (same k l) ∙ go (char_at w k) h
    where
      go : (o : Option ℕ) → passes (λ d. nat_eq d c) k o ≡ None → passes (λ d. nat_eq d c) (i + k) o ≡ None
      go None e = refl
      go (Some d) e = test (nat_eq d c) e
        where
          test : (b : Bool) → cond b (Some (k + len_utf8 d)) None ≡ None → cond b (Some (i + k + len_utf8 d)) None ≡ None
          test true x = none_some (sym x)
          test false x = refl

  first_kept : Kept first_char
  unfolding Kept
  first_kept k r l h =
      let p = unless_parts w (code_point 42) regex_char k r h in
      let inside = (moves_regex_char w).within k r p.1 in
      unless_stands text (code_point 42) regex_char (i + k) (i + r) (code_refused 42 k inside p.0) (regex_char_kept k r l p.1)

  -- the body up to its slash
  opened_kept : (m : ℕ) → m < length w → opened w 0 ≡ Some m → char_at w m ≡ Some 47 → opened text i ≡ Some (i + m)
  unfolding Kept opened body
  opened_kept m l h e =
      let zero_more : i + 0 ≡ i = omega arith in
      let a = between w (first_char >> regex_chars) (code_point 47 w 0) m h in
      let b = between w regex_chars (first_char w a.0) m a.2 in
      let on = (forward_regex_chars w).on b.0 m b.2 in
      let first_on = (moves_unless w (code_point 42) (moves_regex_char w)).on a.0 b.0 b.1 in
      let stop = regex_slash text (i + m) _ (there m 47 l e) in
      let all : opened text (i + 0) ≡ Some (i + m) = then_some text (code_point 47) (first_char >> regex_chars) (i + 0) (i + a.0) (code_kept 47 0 a.0 (omega arith) a.1)
      ∙ then_some text first_char regex_chars (i + a.0) (i + b.0) (first_kept a.0 b.0 (omega arith) b.1)
      ∙ regex_chars_kept b.0 m (omega arith) b.2 stop in
      subst (λ x. opened text x ≡ Some (i + m)) zero_more all

-- a literal, part by part: where its body ends
pub record IsRegex (w : List ℕ) : Type 0 where
  pub stop : ℕ
  pub body : opened w 0 ≡ Some stop
  pub closes : code_point 47 w stop ≡ Some (stop + 1)
  pub slash : char_at w stop ≡ Some 47
  pub flags : identifier_parts w (stop + 1) ≡ Some (length w)
  pub on : stop + 1 ≤ length w

pub regex_parts : (w : List ℕ) → regex_end w 0 ≡ Some (length w) → IsRegex w
unfolding regex_end
regex_parts w h =
    let a = between w (code_point 47 >> identifier_parts) (opened w 0) (length w) h in
    let b = between w identifier_parts (code_point 47 w a.0) (length w) a.2 in
    let c = code_here w 47 a.0 b.0 (omega arith) b.1 in
    let flags : identifier_parts w (a.0 + 1) ≡ Some (length w) = subst (λ x. identifier_parts w x ≡ Some (length w)) c.1 b.2 in
    record { stop = a.0; body = a.1; closes = b.1 ∙ ap Some c.1; slash = c.0; flags = flags; on = (forward_flags w).on (a.0 + 1) (length w) flags }

pub stop_within : (w : List ℕ) → IsRegex w → regex_body_end w 0 + 1 ≤ length w
unfolding regex_body_end
stop_within w p = let b = p.body in rw b p.on

module _ (text w v : List ℕ) (i : ℕ) (utf8 : IsUtf8 w) (st : Stands text i (w ++ v)) (p : IsRegex w) where
  pub body_again : opened text i ≡ Some (i + p.stop)
  body_again = let on = p.on in opened_kept text w v i utf8 st p.stop (omega arith) p.body p.slash

  flags_again : Cut v → stops is_valid_continue (chars v) ≡ true → identifier_parts text (i + (p.stop + 1)) ≡ Some (i + length w)
  unfolding Kept identifier_parts
  flags_again c h =
      many_kept text w v i utf8 st (passing is_valid_continue) (moves_passing w is_valid_continue) (moves_passing text is_valid_continue) (passing_kept text w v i utf8 st is_valid_continue)
      (length w) (p.stop + 1) (length w) (omega arith) (omega arith) p.flags (stopped (chars v) (after_here text (i + length w) v (past text w st) c) h)
    where
      stopped : (cs : List ℕ) → after text (i + length w) ≡ cs → stops is_valid_continue cs ≡ true → passing is_valid_continue text (i + length w) ≡ None
      stopped [] e k = passing_end text is_valid_continue (i + length w) e
      stopped (c ∷ cs) e k = passing_fails text is_valid_continue (i + length w) c cs e (not-true (is_valid_continue c) k)

  pub regex_again : Cut v → stops is_valid_continue (chars v) ≡ true → regex_end text i ≡ Some (i + length w)
  unfolding Kept regex_end
  regex_again c h =
      let on = p.on in
      then_some text opened (code_point 47 >> identifier_parts) i (i + p.stop) body_again
      ∙ then_some text (code_point 47) identifier_parts (i + p.stop) (i + (p.stop + 1)) (code_kept text w v i utf8 st 47 p.stop (p.stop + 1) p.on p.closes)
      ∙ flags_again c h

  pub stop_again : regex_body_end text i ≡ i + regex_body_end w 0
  unfolding regex_body_end
  stop_again = let a = body_again in let b = p.body in rw (a, b) refl

-- no comment begins where a literal does

pub record Apart (w v : List ℕ) : Type 0 where
  pub behind : List ℕ
  pub is : w ++ v ≡ 47 ∷ behind
  pub cut : Cut behind
  pub apart : stops begins_comment (chars behind) ≡ true

-- the first character of the body is none that makes a comment
second_apart : (w : List ℕ) (i m : ℕ) → body w i ≡ Some m → begins (λ c. not (begins_comment c)) (after w i) ≡ true
unfolding body
second_apart w i m h =
    let a = between w regex_chars (first_char w i) m h in
    let p = unless_parts w (code_point 42) regex_char i a.0 a.1 in
    go (char_at w i) refl p.0 p.1
  where
    other : (k c : ℕ) → char_at w i ≡ Some c → (a b : Bool) → nat_eq c 47 ≡ a → nat_eq c 42 ≡ b → passes (λ d. nat_eq d 42) i (Some c) ≡ None → regex_char w i ≡ Some k → begins (λ c. not (begins_comment c)) (after w i) ≡ true
    other k c e true b x y p q = none_some (sym (regex_slash w i _ (after_of w i 47 (e ∙ ap Some (eqb-true c 47 x)))) ∙ q)
    other k c e false true x y p q = none_some (sym (rw y at p))
    other k c e false false x y p q = let f = after_of w i c e in rw (f, x, y) refl

    go : {k : ℕ} (o : Option ℕ) → char_at w i ≡ o → code_point 42 w i ≡ None → regex_char w i ≡ Some k → begins (λ c. not (begins_comment c)) (after w i) ≡ true
    go None e p q = none_some (sym (regex_none w i (after_none w i e)) ∙ q)
    go {k} (Some c) e p q = other k c e (nat_eq c 47) (nat_eq c 42) refl refl (sym (ap (passes (λ d. nat_eq d 42) i) e) ∙ p) q

pub comment_apart : (w v : List ℕ) → IsUtf8 w → regex_end w 0 ≡ Some (length w) → Cut v → Apart w v
unfolding opened encode
comment_apart w v u h c =
    let r = regex_parts w h in
    let a = between w body (code_point 47 w 0) r.stop r.body in
    let f = code_here w 47 0 a.0 (omega arith) a.1 in
    let first = after_of w 0 47 f.0 in
    let ds = drop 1 (after w 0) in
    let cs : chars w ≡ 47 ∷ ds = sym (after_start w u) ∙ first in
    let is : w ≡ 47 ∷ encodes ds = sym (encodes-chars w u) ∙ ap encodes cs in
    let tail : IsUtf8 (encodes ds) = utf8_tail ds (subst (λ l. scalars l ≡ true) cs (scalars-chars w u)) in
    let next : after w 1 ≡ ds = next_here w 0 47 ds u (first) in
    let s : begins (λ c. not (begins_comment c)) (after w 1) ≡ true = second_apart w 1 r.stop (subst (λ x. body w x ≡ Some r.stop) f.1 a.2) in
    let t : begins (λ c. not (begins_comment c)) ds ≡ true = rw next at s in
    record {
      behind = encodes ds ++ v;
      is = ap (λ l. l ++ v) is;
      cut = cut_utf8 (encodes ds) v tail c;
      apart = rw (chars-append (encodes ds) v tail, chars-encodes ds (scalars_tail ds (subst (λ l. scalars l ≡ true) cs (scalars-chars w u)))) (stopped ds (chars v) t);
    }
  where
    scalars_tail : (ds : List ℕ) → scalars (47 ∷ ds) ≡ true → scalars ds ≡ true
    scalars_tail ds h = (and_parts (scalar 47) (scalars ds) h).1

    utf8_tail : (ds : List ℕ) → scalars (47 ∷ ds) ≡ true → IsUtf8 (encodes ds)
    utf8_tail ds h = (ds, (scalars_tail ds h, refl))

    stopped : (ds vs : List ℕ) → begins (λ c. not (begins_comment c)) ds ≡ true → stops begins_comment (ds ++ vs) ≡ true
    stopped [] vs h = absurd (false≢true h)
    stopped (d ∷ ds) vs h = h
