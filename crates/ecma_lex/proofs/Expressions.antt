-- Regular expressions, one step of a loop after the other.
use Rattle.std.proofs.Common.{◌≡◌, ℕ, false, not, List, [], ◌∷◌, sym, ◌∙◌, arith, Some, None, nat_eq}
use Rattle.ecma_number.specs.Blanks.{is_line_terminator}
use Rattle.ecma_lex.specs.Text.{after}
use Rattle.ecma_lex.specs.Parts.{code_point, ◌//◌, unless}
use Rattle.ecma_lex.specs.Regexes.{non_terminator, backslash_sequence, class_char, class_chars, class, regex_char, regex_chars}
use Rattle.ecma_lex.proofs.Repeats.{Moves, moves_passing, moves_then, moves_or, moves_forward, forward_then, forward_many, moves_unless, many_none, many_some, or_only}

module _ (text : List ℕ) where
  moves_code_point : (c : ℕ) → Moves text (code_point c)
  moves_code_point c = moves_passing text (λ d. nat_eq d c)

  moves_non_terminator : Moves text non_terminator
  moves_non_terminator = moves_passing text (λ c. not (is_line_terminator c))

  moves_backslash : Moves text backslash_sequence
  unfolding backslash_sequence
  moves_backslash = moves_then text (moves_code_point 92) (moves_forward text moves_non_terminator)

  moves_class_char : Moves text class_char
  unfolding class_char
  moves_class_char = moves_or text (moves_unless text (code_point 93 // code_point 92) moves_non_terminator) moves_backslash

  moves_class : Moves text class
  unfolding class class_chars
  moves_class = moves_then text (moves_code_point 91) (forward_then text (forward_many text (moves_forward text moves_class_char)) (moves_forward text (moves_code_point 93)))

  moves_regex_char : Moves text regex_char
  unfolding regex_char
  moves_regex_char = moves_or text (moves_unless text (code_point 92 // code_point 47 // code_point 91) moves_non_terminator) (moves_or text moves_backslash moves_class)

  pub class_more : (i j : ℕ) → class_char text i ≡ Some j → class_chars text j ≡ class_chars text i
  unfolding class_chars
  class_more i j h = sym (many_some text class_char moves_class_char i j h)

  pub class_stops : (i : ℕ) → class_char text i ≡ None → class_chars text i ≡ Some i
  unfolding class_chars
  class_stops i h = many_none text class_char i h

  pub regex_more : (i j : ℕ) → regex_char text i ≡ Some j → regex_chars text j ≡ regex_chars text i
  unfolding regex_chars
  regex_more i j h = sym (many_some text regex_char moves_regex_char i j h)

  pub regex_stops : (i : ℕ) → regex_char text i ≡ None → regex_chars text i ≡ Some i
  unfolding regex_chars
  regex_stops i h = many_none text regex_char i h

  -- by the character that stands there

  pub class_close : (i : ℕ) (cs : List ℕ) → after text i ≡ 93 ∷ cs → class_char text i ≡ None
  unfolding class_char backslash_sequence
  class_close i cs e = simp e

  pub class_backslash : (i : ℕ) (cs : List ℕ) → after text i ≡ 92 ∷ cs → class_char text i ≡ backslash_sequence text i
  unfolding class_char
  class_backslash i cs e = simp e

  pub class_other : (i c : ℕ) (cs : List ℕ) → after text i ≡ c ∷ cs → (c ≡ 93 → ⊥) → (c ≡ 92 → ⊥) → class_char text i ≡ non_terminator text i
  unfolding class_char backslash_sequence
  class_other i c cs e h k =
      let a : nat_eq c 93 ≡ false = grind arith in
      let b : nat_eq c 92 ≡ false = grind arith in
      or_only text (unless (code_point 93 // code_point 92) non_terminator) backslash_sequence i (simp (e, b)) ∙ simp (e, a, b)

  pub class_end : (i : ℕ) → after text i ≡ [] → class_char text i ≡ None
  unfolding class_char backslash_sequence
  class_end i e = simp e

  pub regex_slash : (i : ℕ) (cs : List ℕ) → after text i ≡ 47 ∷ cs → regex_char text i ≡ None
  unfolding regex_char backslash_sequence class
  regex_slash i cs e = simp e

  pub regex_backslash : (i : ℕ) (cs : List ℕ) → after text i ≡ 92 ∷ cs → regex_char text i ≡ backslash_sequence text i
  unfolding regex_char class
  regex_backslash i cs e =
      let a : regex_char text i ≡ (backslash_sequence // class) text i = simp e in
      a ∙ or_only text backslash_sequence class i (simp e)

  pub regex_class : (i : ℕ) (cs : List ℕ) → after text i ≡ 91 ∷ cs → regex_char text i ≡ class text i
  unfolding regex_char backslash_sequence
  regex_class i cs e = simp e

  pub regex_other : (i c : ℕ) (cs : List ℕ) → after text i ≡ c ∷ cs → (c ≡ 47 → ⊥) → (c ≡ 92 → ⊥) → (c ≡ 91 → ⊥) → regex_char text i ≡ non_terminator text i
  unfolding regex_char backslash_sequence class
  regex_other i c cs e h k l =
      let a : nat_eq c 47 ≡ false = grind arith in
      let b : nat_eq c 92 ≡ false = grind arith in
      let d : nat_eq c 91 ≡ false = grind arith in
      let n : (backslash_sequence // class) text i ≡ None = simp (e, b, d) in
      or_only text (unless (code_point 92 // code_point 47 // code_point 91) non_terminator) (backslash_sequence // class) i n ∙ simp (e, a, b, d)

  pub regex_none : (i : ℕ) → after text i ≡ [] → regex_char text i ≡ None
  unfolding regex_char backslash_sequence class
  regex_none i e = simp e

pub ruleset class_char_steps = (class_close, class_backslash, class_end)

pub ruleset class_chars_steps = (class_more, class_stops)

pub ruleset regex_char_steps = (regex_slash, regex_backslash, regex_class, regex_none)

pub ruleset regex_chars_steps = (regex_more, regex_stops)
