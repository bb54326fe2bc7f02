-- Blanks and comments, one step of a loop after the other.
use Rattle.std.proofs.Common.{◌≡◌, ℕ, ◌+◌, ◌-◌, ◌<◌, ◌≤◌, Bool, true, false, cond, ◌&&◌, ◌||◌, List, [], ◌∷◌, length, get_or, take, drop, refl, ap, sym, ◌∙◌, subst, arith, Some, None, nat_eq, nat_le, nat_lt, suc, drop-cons}
use Rattle.std.specs.Char.{len_utf8}
use Rattle.std.specs.List.{list_any}
use Rattle.std.specs.Str.{IsUtf8, chars}
use Rattle.std.proofs.lemmas.List.{drop_all}
use Rattle.std.proofs.lemmas.Str.{IsCharBoundary-after_ascii, chars-nil}
use Rattle.ecma_number.specs.Blanks.{is_white_space, is_line_terminator, is_blank}
use Rattle.ecma_lex.specs.Text.{cuts, after}
use Rattle.ecma_lex.specs.Parts.{passing, code_point, ◌//◌, then_at}
use Rattle.ecma_lex.specs.Blanks.{line, comment_close, comment_chars, comment_rest, comment, blank, blanks, has_line_terminator, skipped}
use Rattle.ecma_lex.specs.declared.blanks.Skipped.{Skipped}
use Rattle.std.specs.Int.{is_in_range}
use Rattle.ecma_lex.proofs.Words.{beyond}
use Rattle.ecma_lex.proofs.Steps.{ascii_here, after_step, after_not, may_cut}
use Rattle.ecma_lex.proofs.Repeats.{Moves, moves_passing, moves_then, moves_or, moves_forward, forward_then, forward_many, moves_unless, moves_any, many_stands, many_none, many_some, up_to_none, up_to_some, up_to_end, then_some, then_none, passing_stands, passing_fails, passing_end, any_stands, code_point_end}

pub ascii_width : (c : ℕ) → c < 128 → len_utf8 c ≡ 1
ascii_width c h = grind arith

-- a character of ASCII that is a blank by itself
pub ascii_blank : (c : ℕ) → c < 128 → is_blank c ≡ (nat_eq c 32 || (nat_le 9 c && nat_le c 13))
ascii_blank c h =
    let within : is_in_range 0x2000 0x200A c ≡ false = grind arith in
    rw (beyond c 0xFEFF h (grind arith), beyond c 0xA0 h (grind arith), beyond c 0x1680 h (grind arith), within, beyond c 0x202F h (grind arith), beyond c 0x205F h (grind arith), beyond c 0x3000 h (grind arith), beyond c 0x2028 h (grind arith), beyond c 0x2029 h (grind arith))
    (among_six c)
  where
    among_six : (c : ℕ) → ((nat_eq c 9 || nat_eq c 11 || nat_eq c 12 || false || (nat_eq c 32 || false || false || false || false || false || false)) || (nat_eq c 10 || nat_eq c 13 || false || false)) ≡ (nat_eq c 32 || (nat_le 9 c && nat_le c 13))
    among_six c = grind arith

chars_ascii : (b : ℕ) (bs : List ℕ) → b < 128 → chars (b ∷ bs) ≡ b ∷ chars bs
unfolding chars
chars_ascii b [] h = let e : nat_lt b 128 ≡ true = grind arith in rw e refl
chars_ascii b (x ∷ xs) h = let e : nat_lt b 128 ≡ true = grind arith in rw e refl

first_terminator : (bs : List ℕ) (i : ℕ) → i < length bs → get_or bs i 0 < 128
    → list_any is_line_terminator (chars (drop i bs)) ≡ (is_line_terminator (get_or bs i 0) || list_any is_line_terminator (chars (drop (i + 1) bs)))
first_terminator bs i l a =
    let e : suc i ≡ i + 1 = omega arith in
    rw (drop-cons bs i 0 l) (rw (chars_ascii (get_or bs i 0) (drop (suc i) bs) a) (ap (λ n. is_line_terminator (get_or bs i 0) || list_any is_line_terminator (chars (drop n bs))) e))

pub terminator_more : (bs : List ℕ) (i : ℕ) → i < length bs → get_or bs i 0 < 128 → (get_or bs i 0 ≡ 10 → ⊥) → (get_or bs i 0 ≡ 13 → ⊥)
    → list_any is_line_terminator (chars (drop (i + 1) bs)) ≡ list_any is_line_terminator (chars (drop i bs))
terminator_more bs i l a n m =
    let e : is_line_terminator (get_or bs i 0) ≡ false = grind arith in
    sym (first_terminator bs i l a ∙ ap (λ b. b || list_any is_line_terminator (chars (drop (i + 1) bs))) e)

pub feed_stops : (bs : List ℕ) (i : ℕ) → i < length bs → get_or bs i 0 ≡ 10 → list_any is_line_terminator (chars (drop i bs)) ≡ true
feed_stops bs i l h = first_terminator bs i l (grind arith) ∙ rw h refl

pub return_stops : (bs : List ℕ) (i : ℕ) → i < length bs → get_or bs i 0 ≡ 13 → list_any is_line_terminator (chars (drop i bs)) ≡ true
return_stops bs i l h = first_terminator bs i l (grind arith) ∙ rw h refl

pub terminator_ends : (bs : List ℕ) (i : ℕ) → length bs ≤ i → list_any is_line_terminator (chars (drop i bs)) ≡ false
terminator_ends bs i h = rw (drop_all i bs h, chars-nil) refl

pub ruleset terminator_steps = (terminator_more, feed_stops, return_stops, terminator_ends)

module _ (text : List ℕ) where
  -- a line

  pub line_more : (i c : ℕ) → after text i ≡ c ∷ after text (i + len_utf8 c) → is_line_terminator c ≡ false → line text (i + len_utf8 c) ≡ line text i
  unfolding line
  line_more i c e h = sym (up_to_some text (passing is_line_terminator) i (i + len_utf8 c) (passing_fails text is_line_terminator i c _ e h) (any_stands text i c _ e))

  pub line_stops : (i c : ℕ) → after text i ≡ c ∷ after text (i + len_utf8 c) → is_line_terminator c ≡ true → line text i ≡ Some i
  unfolding line
  line_stops i c e h = up_to_none text (passing is_line_terminator) i (i + len_utf8 c) (passing_stands text is_line_terminator i c _ e h)

  pub line_ends : (i : ℕ) → after text i ≡ [] → line text i ≡ Some i
  unfolding line
  line_ends i e = up_to_end text (passing is_line_terminator) i (passing_end text is_line_terminator i e) (passing_end text (λ c. true) i e)

  -- a comment

  pub rest_more : (i c : ℕ) → after text i ≡ c ∷ after text (i + len_utf8 c) → comment_close text i ≡ None → comment_rest text (i + len_utf8 c) ≡ comment_rest text i
  unfolding comment_rest
  rest_more i c e h = ap (then_at comment_close text) (sym (up_to_some text comment_close i (i + len_utf8 c) h (any_stands text i c _ e)))

  pub rest_stops : (i j : ℕ) → comment_close text i ≡ Some j → comment_rest text i ≡ Some j
  unfolding comment_rest
  rest_stops i j h = then_some text comment_chars comment_close i i (up_to_none text comment_close i j h) ∙ h

  pub rest_ends : (i : ℕ) → after text i ≡ [] → comment_rest text i ≡ None
  unfolding comment_rest
  rest_ends i e = let h = up_to_end text comment_close i (simp e) (simp e) in simp (h, e)

  -- a byte of ASCII that is no star closes no comment
  pub plain_step : (i : ℕ) → IsUtf8 text → i < length text → get_or text i 0 < 128 → (get_or text i 0 ≡ 42 → ⊥) → comment_rest text (i + 1) ≡ comment_rest text i
  plain_step i u l a n =
      let e = after_step text i (get_or text i 0) u (ascii_here text i l a) in
      let f : nat_eq (get_or text i 0) 42 ≡ false = grind arith in
      subst (λ k. comment_rest text (i + k) ≡ comment_rest text i) (ascii_width (get_or text i 0) a)
      (rest_more i (get_or text i 0) e (simp (e, f)))

  -- behind it the text may be cut
  pub plain_cut : (i : ℕ) → IsUtf8 text → i < length text → get_or text i 0 < 128 → cuts text (i + 1) ≡ true
  plain_cut i u l a = may_cut text (i + 1) (IsCharBoundary-after_ascii text i u l a)

  pub moves_comment : Moves text comment
  unfolding comment line comment_rest
  moves_comment =
      let slash = moves_passing text (λ c. nat_eq c 47) in
      let star = moves_passing text (λ c. nat_eq c 42) in
      let close = moves_forward text (moves_then text star (moves_forward text slash)) in
      moves_or text
      (moves_then text slash (forward_then text (moves_forward text slash) (forward_many text (moves_forward text (moves_unless text (passing is_line_terminator) (moves_any text))))))
      (moves_then text (moves_then text slash (moves_forward text star)) (forward_then text (forward_many text (moves_forward text (moves_unless text comment_close (moves_any text)))) close))

  pub moves_blank : Moves text blank
  unfolding blank
  moves_blank = moves_or text (moves_passing text is_white_space) (moves_or text (moves_passing text is_line_terminator) moves_comment)

  -- blanks

  pub blanks_more : (i j : ℕ) → blank text i ≡ Some j → blanks text j ≡ blanks text i
  unfolding blanks
  blanks_more i j h = sym (many_some text blank moves_blank i j h)

  pub blanks_end : (i : ℕ) → blank text i ≡ None → blanks text i ≡ Some i
  unfolding blanks
  blanks_end i h = many_none text blank i h

  pub blank_slash : (i c : ℕ) (cs : List ℕ) → after text i ≡ c ∷ cs → c ≡ 47 → blank text i ≡ comment text i
  unfolding blank
  blank_slash i c cs e h = simp (e, h)

  no_comment : (i c : ℕ) (cs : List ℕ) → after text i ≡ c ∷ cs → (c ≡ 47 → ⊥) → comment text i ≡ None
  unfolding comment
  no_comment i c cs e n = let h : nat_eq c 47 ≡ false = grind arith in simp (e, h)

  pub blank_char : (i c : ℕ) (cs : List ℕ) → after text i ≡ c ∷ cs → (c ≡ 47 → ⊥) → is_blank c ≡ true → blank text i ≡ Some (i + len_utf8 c)
  unfolding blank
  blank_char i c cs e n h = go (is_white_space c) refl h
    where
      go : (a : Bool) → is_white_space c ≡ a → (a || is_line_terminator c) ≡ true → (passing is_white_space // passing is_line_terminator // comment) text i ≡ Some (i + len_utf8 c)
      go true f k = simp (e, f)
      go false f k = simp (e, f, k)

  pub other_char : (i c : ℕ) (cs : List ℕ) → after text i ≡ c ∷ cs → (c ≡ 47 → ⊥) → is_blank c ≡ false → blank text i ≡ None
  unfolding blank
  other_char i c cs e n h = go (is_white_space c) refl h
    where
      go : (a : Bool) → is_white_space c ≡ a → (a || is_line_terminator c) ≡ false → (passing is_white_space // passing is_line_terminator // comment) text i ≡ None
      go true f k = cc
      go false f k = simp (e, f, k) (no_comment i c cs e n)

  pub no_blank : (i : ℕ) → after text i ≡ [] → blank text i ≡ None
  unfolding blank comment
  no_blank i e = simp e

  pub none_between : (i : ℕ) → has_line_terminator text i i ≡ false
  unfolding has_line_terminator
  none_between i = rw (empty_piece (nat_le i i && (cuts text i && cuts text i)), chars-nil) refl
    where
      empty_piece : (b : Bool) → cond b (take (i - i) (drop i text)) [] ≡ []
      empty_piece true = let e : i - i ≡ 0 = omega arith in rw e refl
      empty_piece false = refl

  -- what is skipped, where it ends before no comment
  pub skipped_by : (i j : ℕ) → blanks text i ≡ Some j → code_point 47 text j ≡ None → skipped text i ≡ record { to = j; new_line = has_line_terminator text i j; closed = true }
  unfolding skipped
  skipped_by i j h k = rw h (rw (then_none text (code_point 47) (code_point 42) j k) refl)

  -- nothing is skipped where the text may not be cut
  pub skipped_outside : (i : ℕ) → cuts text i ≡ false → skipped text i ≡ record { to = i; new_line = false; closed = true }
  skipped_outside i h =
      let e : after text i ≡ [] = after_not text i h in
      skipped_by i i (blanks_end i (no_blank i e)) (code_point_end text 47 i e) ∙ ap (λ b. (let s : Skipped = record { to = i; new_line = b; closed = true } in s)) (none_between i)

  -- what is skipped lies behind the place where it began
  pub skipped_ahead : (i : ℕ) → i ≤ (skipped text i).to
  unfolding skipped blanks
  skipped_ahead i =
      let k = many_stands text blank i in
      let e = k.1 in
      rw e ((forward_many text (moves_forward text moves_blank)).on i k.0 e)

pub ruleset line_steps = (line_more, line_stops, line_ends)

pub ruleset comment_steps = (rest_more, rest_stops, rest_ends)

pub ruleset blanks_steps = (blanks_more, blanks_end)

pub ruleset plain_steps = (plain_step, plain_cut)
