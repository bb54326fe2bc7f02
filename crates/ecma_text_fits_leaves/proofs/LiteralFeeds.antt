-- What the text of a literal is made of is read alike of a text and of the same with LF for its line ends, and says the same.
use Rattle.std.proofs.Common.{◌≡◌, ◌∙◌, ℕ, zero, suc, ◌+◌, ◌≤◌, Bool, true, false, ◌||◌, cond, List, [], ◌∷◌, ◌++◌, length, nat_eq, nat_le, Option, Some, None, is_some, refl, sym, ap, subst, arith, append_assoc, slice_get}
use Rattle.std.specs.Char.{is_ascii_digit, len_utf8}
use Rattle.std.specs.Str.{IsUtf8, chars}
use Rattle.std.proofs.lemmas.Bool.{eqb-true}
use Rattle.ecma_number.specs.Blanks.{is_line_terminator}
use Rattle.ecma_lex.specs.Escapes.{braced_digits, character_escape_sequence, character_escape_value, decimal_digit, escape, escape_sequence, escape_value, escape_value_of, hex4_digits, hex_digit, hex_digits, hex_escape_sequence, hex_or_unicode, hex_value, if_code_point, is_character_escape, is_hex_digit, line_terminator_sequence, null_escape, numeric_escape, unicode_escape_sequence}
use Rattle.ecma_lex.specs.Parts.{Part, any, char_at, code_point, many, nothing, or_at, passing, then_at, unless, ◌>>◌, ◌//◌}
use Rattle.ecma_lex.specs.Templates.{ill_formed_escape, template_part}
use Rattle.ecma_lex.specs.Text.{after, piece}
use Rattle.ecma_lex.specs.Values.{literal_part, part_value}
use Rattle.ecma_lex.proofs.Literals.{moves_hex_digit, no_terminator}
use Rattle.ecma_lex.proofs.Repeats.{Moves, any_stands, code_point_end, code_point_fails, code_point_stands, many_none, many_some, none_some, passing_end, then_none, then_some}
use Rattle.ecma_lex.proofs.Spelled.{stops}
use Rattle.ecma_text_fits_leaves.proofs.LineFeeds.{Beside, Ends, IsUnbroken, Moved, Same as Taken, View, broken, char_head, ends_there, over, passing_same, same, unbroken, view, word_between}
use Rattle.ecma_text_fits_leaves.proofs.LiteralParts.{break_value, escape_breaks, escape_other, escape_unbroken, escaped_value, fed_value, not_backslash, not_return, part_breaks, part_end, part_escape, part_other, terminator_end}

module _ (first second rest : List ℕ) (u : IsUtf8 first) (v : IsUtf8 second) (ends : Ends rest) where
  abbrev Here : ℕ → ℕ → Type 0
  Here = Beside first second rest u v ends

  abbrev Same : ℕ → ℕ → Option ℕ → Option ℕ → Type 0
  Same = Taken first second rest u v ends

  abbrev Inner : Part → Type 0
  Inner p = (a b : ℕ) → Here a b → Same a b (p first a) (p second b)

  further : (a b i j : ℕ) → Moved first second rest u v ends a b i j → (o r : Option ℕ) → Same i j o r → Same a b o r
  further a b i j m None None h = tt
  further a b i j m None (Some l) h = h
  further a b i j m (Some k) None h = h
  further a b i j m (Some k) (Some l) h =
      let on = m.on_one in
      let there = m.on_two in
      let so = h.on_one in
      let beyond = h.on_two in
      record {
        word = m.word ++ h.word;
        one = m.one ∙ ap (λ l. m.word ++ l) h.one ∙ sym (append_assoc m.word h.word (after first k));
        two = m.two ∙ ap (λ l. m.word ++ l) h.two ∙ sym (append_assoc m.word h.word (after second l));
        on_one = omega arith;
        on_two = omega arith;
        next = h.next;
      }

  then_inner : (p q : Part) → Inner p → Inner q → Inner (p >> q)
  then_inner p q f g a b h = go (p first a) (p second b) (f a b h)
    where
      go : (o r : Option ℕ) → Same a b o r → Same a b (then_at q first o) (then_at q second r)
      go None None m = tt
      go None (Some j) m = absurd m
      go (Some i) None m = absurd m
      go (Some i) (Some j) m = further a b i j m (q first i) (q second j) (g i j m.next)

  or_same : (q : Part) (a b : ℕ) (o r : Option ℕ) → Same a b o r → Same a b (q first a) (q second b) → Same a b (or_at q first a o) (or_at q second b r)
  or_same q a b None None h f = f
  or_same q a b None (Some j) h f = absurd h
  or_same q a b (Some i) None h f = absurd h
  or_same q a b (Some i) (Some j) h f = h

  or_inner : (p q : Part) → Inner p → Inner q → Inner (p // q)
  or_inner p q f g a b h = or_same q a b (p first a) (p second b) (f a b h) (g a b h)

  nothing_inner : Inner nothing
  nothing_inner a b h = record { word = []; one = refl; two = refl; on_one = omega arith; on_two = omega arith; next = h }

  unless_inner : (p q : Part) → Inner p → Inner q → Inner (unless p q)
  unless_inner p q f g a b h = go (p first a) (p second b) (f a b h)
    where
      go : (o r : Option ℕ) → Same a b o r → Same a b (cond (is_some o) None (q first a)) (cond (is_some r) None (q second b))
      go None None m = g a b h
      go None (Some j) m = absurd m
      go (Some i) None m = absurd m
      go (Some i) (Some j) m = tt

  passing_inner : (p : ℕ → Bool) → IsUnbroken p → p 36 ≡ false → p 96 ≡ false → Inner (passing p)
  passing_inner p h k l a b q = passing_same first second rest u v ends p h a b (λ e. ends_there p rest k l ends) q

  module _ (p : Part) (m : Moves first p) (n : Moves second p) (inner : Inner p) where
    many_same : (d a b : ℕ) → length first ≤ d + a → Here a b → Same a b (many p first a) (many p second b)
    many_same zero a b l h = go (p first a) (p second b) refl refl (inner a b h)
      where
        go : (o r : Option ℕ) → p first a ≡ o → p second b ≡ r → Same a b o r → Same a b (many p first a) (many p second b)
        go None None e f s = rw (many_none first p a e, many_none second p b f) (nothing_inner a b h)
        go None (Some j) e f s = absurd s
        go (Some i) r e f s = let w = m.within a i e in absurd (omega arith)
    many_same (suc d) a b l h = go (p first a) (p second b) refl refl (inner a b h) (many_same d)
      where
        go : (o r : Option ℕ) → p first a ≡ o → p second b ≡ r → Same a b o r → ((i j : ℕ) → length first ≤ d + i → Here i j → Same i j (many p first i) (many p second j)) → Same a b (many p first a) (many p second b)
        go None None e f s more = rw (many_none first p a e, many_none second p b f) (nothing_inner a b h)
        go None (Some j) e f s more = absurd s
        go (Some i) None e f s more = absurd s
        go (Some i) (Some j) e f s more =
            let on = m.on a i e in
            rw (many_some first p m a i e, many_some second p n b j f) (further a b i j s (many p first i) (many p second j) (more i j (omega arith) s.next))

    many_inner : Inner (many p)
    many_inner a b h = many_same (length first) a b (omega arith) h

  -- parts without line ends

  digit_inner : Inner hex_digit
  unfolding hex_digit
  digit_inner = passing_inner is_hex_digit (unbroken is_hex_digit refl refl refl refl) refl refl

  code_inner : (d : ℕ) → IsUnbroken (λ c. nat_eq c d) → nat_eq 36 d ≡ false → nat_eq 96 d ≡ false → Inner (code_point d)
  code_inner d h k l = passing_inner (λ c. nat_eq c d) h k l

  hex4_inner : Inner hex4_digits
  unfolding hex4_digits
  hex4_inner = let h = digit_inner in then_inner hex_digit (hex_digit >> hex_digit >> hex_digit) h (then_inner hex_digit (hex_digit >> hex_digit) h (then_inner hex_digit hex_digit h h))

  digits_inner : Inner hex_digits
  unfolding hex_digits
  digits_inner = then_inner hex_digit (many hex_digit) digit_inner (many_inner hex_digit (moves_hex_digit first) (moves_hex_digit second) digit_inner)

  braced_inner : Inner braced_digits
  unfolding braced_digits
  braced_inner =
      then_inner (code_point 123) (hex_digits >> code_point 125) (code_inner 123 (unbroken (λ c. nat_eq c 123) refl refl refl refl) refl refl)
      (then_inner hex_digits (code_point 125) digits_inner (code_inner 125 (unbroken (λ c. nat_eq c 125) refl refl refl refl) refl refl))

  hex_or_unicode_inner : Inner hex_or_unicode
  unfolding hex_or_unicode hex_escape_sequence unicode_escape_sequence
  hex_or_unicode_inner =
      or_inner hex_escape_sequence unicode_escape_sequence
      (then_inner (code_point 120) (hex_digit >> hex_digit) (code_inner 120 (unbroken (λ c. nat_eq c 120) refl refl refl refl) refl refl) (then_inner hex_digit hex_digit digit_inner digit_inner))
      (then_inner (code_point 117) (hex4_digits // braced_digits) (code_inner 117 (unbroken (λ c. nat_eq c 117) refl refl refl refl) refl refl) (or_inner hex4_digits braced_digits hex4_inner braced_inner))

  -- what was taken is the same
  same_digits : (a b i j : ℕ) → Here a b → Moved first second rest u v ends a b i j → hex_value (chars (piece first a i)) ≡ hex_value (chars (piece second b j))
  same_digits a b i j h m =
      let to = m.next in
      ap hex_value (word_between first a i m.word u h.cut_one to.cut_one m.on_one m.one ∙ sym (word_between second b j m.word v h.cut_two to.cut_two m.on_two m.two))

  numeric_inner : Inner numeric_escape
  unfolding numeric_escape
  numeric_inner a b h = go (hex_or_unicode first a) (hex_or_unicode second b) (hex_or_unicode_inner a b h)
    where
      go : (o r : Option ℕ) → Same a b o r → Same a b (if_code_point first a o) (if_code_point second b r)
      go None None m = tt
      go None (Some j) m = absurd m
      go (Some i) None m = absurd m
      go (Some i) (Some j) m = rw (same_digits a b i j h m) (test (nat_le (hex_value (chars (piece second b j))) 0x10FFFF))
        where
          test : (t : Bool) → Same a b (cond t (Some i) None) (cond t (Some j) None)
          test true = m
          test false = tt

  null_inner : Inner null_escape
  unfolding null_escape decimal_digit
  null_inner =
      then_inner (code_point 48) (unless decimal_digit nothing) (code_inner 48 (unbroken (λ c. nat_eq c 48) refl refl refl refl) refl refl)
      (unless_inner decimal_digit nothing (passing_inner is_ascii_digit (unbroken is_ascii_digit refl refl refl refl) refl refl) nothing_inner)

  -- before the end, or where it is that of both texts
  abbrev IsBefore : ℕ → Type 0
  IsBefore a = after first a ≡ rest → rest ≡ []

  escape_same : (a b : ℕ) → IsBefore a → Here a b → Same a b (escape_sequence first a) (escape_sequence second b)
  unfolding escape_sequence character_escape_sequence
  escape_same a b before h =
      or_same (null_escape // numeric_escape) a b (passing is_character_escape first a) (passing is_character_escape second b)
      (passing_same first second rest u v ends is_character_escape escape_unbroken a b (λ e. subst (λ l. stops is_character_escape l ≡ true) (sym (before e)) refl) h) (or_inner null_escape numeric_escape null_inner numeric_inner a b h)

  -- both end, and say the same, or neither stands
  abbrev pub Kept : (ℕ → List ℕ) → (ℕ → List ℕ) → Option ℕ → Option ℕ → Type 0
  Kept f g None None = Unit {0}
  Kept f g None (Some j) = ⊥
  Kept f g (Some i) None = ⊥
  Kept f g (Some i) (Some j) = Here i j × (f i ≡ g j)

  neither_kept : (f g : ℕ → List ℕ) (o r : Option ℕ) → o ≡ None → r ≡ None → Kept f g o r
  neither_kept f g o r e h = rw (e, h) tt

  both_kept : (f g : ℕ → List ℕ) (o r : Option ℕ) (i j : ℕ) → o ≡ Some i → r ≡ Some j → Here i j → f i ≡ g j → Kept f g o r
  both_kept f g o r i j e h n k = rw (e, h) (n, k)

  -- an escape

  abbrev EscapeKept : ℕ → ℕ → Option ℕ → Option ℕ → Type 0
  EscapeKept a b = Kept (escape_value first a) (escape_value second b)

  -- what an escape of a character says
  abbrev says : ℕ → ℕ → List ℕ
  says c n = cond (is_line_terminator c) [] (cond (nat_eq c 120 || nat_eq c 117) (n ∷ []) (cond (nat_eq c 48) (0 ∷ []) (character_escape_value c ∷ [])))

  same_escape : (a b i j : ℕ) (o : Option ℕ) → char_at first a ≡ o → char_at second b ≡ o → Here a b → Moved first second rest u v ends a b i j → escape_value first a i ≡ escape_value second b j
  unfolding escape_value
  same_escape a b i j None e f h m = ap (escape_value_of first a i) e ∙ sym (ap (escape_value_of second b j) f)
  same_escape a b i j (Some c) e f h m = ap (escape_value_of first a i) e ∙ ap (says c) (same_digits a b i j h m) ∙ sym (ap (escape_value_of second b j) f)

  escape_kept : (a b : ℕ) → IsBefore a → Here a b → EscapeKept a b (escape first a) (escape second b)
  escape_kept a b before h = go (view first second rest u v ends a b h)
    where
      kept : (o : Option ℕ) → char_at first a ≡ o → char_at second b ≡ o → (q r : Option ℕ) → Same a b q r → EscapeKept a b q r
      kept o e f None None m = tt
      kept o e f None (Some j) m = m
      kept o e f (Some i) None m = m
      kept o e f (Some i) (Some j) m = (m.next, same_escape a b i j o e f h m)

      sequence : (o : Option ℕ) → char_at first a ≡ o → char_at second b ≡ o → line_terminator_sequence first a ≡ None → line_terminator_sequence second b ≡ None → EscapeKept a b (escape first a) (escape second b)
      sequence o e f k l = rw (escape_other first a k, escape_other second b l) (kept o e f (escape_sequence first a) (escape_sequence second b) (escape_same a b before h))

      go : View first second rest u v ends a b → EscapeKept a b (escape first a) (escape second b)
      go (broken i j c d next k l e f t w is) =
          both_kept (escape_value first a) (escape_value second b) (escape first a) (escape second b) i j (escape_breaks first a i k) (escape_breaks second b j l) next (break_value first a i c e t ∙ sym (break_value second b j d f w))
      go (same c next e f t) =
          let x = char_head first a c (after first (a + len_utf8 c)) e in
          let y = char_head second b c (after second (b + len_utf8 c)) f in
          sequence (Some c) x y (no_terminator first a c x (not_return c t) t) (no_terminator second b c y (not_return c t) t)
      go (over e f) =
          let none = e ∙ before e in
          sequence None (ap (λ l. slice_get l 0) none) (ap (λ l. slice_get l 0) f) (terminator_end first a none) (terminator_end second b f)

  -- a part of a literal in a template

  abbrev pub PartKept : ℕ → ℕ → Option ℕ → Option ℕ → Type 0
  PartKept a b = Kept (part_value true first a) (part_value true second b)

  -- no escape goes past the end
  abbrev pub IsReady : ℕ → Type 0
  IsReady a = IsBefore a × (char_at first a ≡ Some 92 → IsBefore (a + 1))

  abbrev PartsKept : ℕ → ℕ → Type 0
  PartsKept a b = PartKept a b (literal_part true first a) (literal_part true second b)

  pub part_kept : (a b : ℕ) → IsReady a → Here a b → PartKept a b (literal_part true first a) (literal_part true second b)
  part_kept a b ready h = go (view first second rest u v ends a b h)
    where
      both : (i j : ℕ) → literal_part true first a ≡ Some i → literal_part true second b ≡ Some j → Here i j → part_value true first a i ≡ part_value true second b j → PartsKept a b
      both i j = both_kept (part_value true first a) (part_value true second b) (literal_part true first a) (literal_part true second b) i j

      escaped : (cs ds : List ℕ) → after first a ≡ 92 ∷ cs → after second b ≡ 92 ∷ ds → Here (a + 1) (b + 1) → PartsKept a b
      escaped cs ds e f next = rw (part_escape first a cs e, part_escape second b ds f) (kept (escape first (a + 1)) (escape second (b + 1)) (escape_kept (a + 1) (b + 1) (ready.1 (char_head first a 92 cs e)) next))
        where
          kept : (o r : Option ℕ) → EscapeKept (a + 1) (b + 1) o r → PartKept a b o r
          kept None None m = tt
          kept None (Some j) m = m
          kept (Some i) None m = m
          kept (Some i) (Some j) m = (m.0, escaped_value first a i cs e ∙ m.1 ∙ sym (escaped_value second b j ds f))

      go : View first second rest u v ends a b → PartsKept a b
      go (broken i j c d next k l e f t w is) =
          both i j (part_breaks first a i k) (part_breaks second b j l) next (fed_value first a i c e (not_backslash c t) ∙ ap (λ n. n ∷ []) is ∙ sym (fed_value second b j d f (not_backslash d w)))
      go (over e f) = neither_kept (part_value true first a) (part_value true second b) (literal_part true first a) (literal_part true second b) (part_end first a (e ∙ ready.0 e)) (part_end second b f)
      go (same c next e f t) = test (nat_eq c 92) refl
        where
          cs : List ℕ
          cs = after first (a + len_utf8 c)

          ds : List ℕ
          ds = after second (b + len_utf8 c)

          test : (s : Bool) → nat_eq c 92 ≡ s → PartsKept a b
          test true x =
              let is = eqb-true c 92 x in
              escaped cs ds (subst (λ z. after first a ≡ z ∷ cs) is e) (subst (λ z. after second b ≡ z ∷ ds) is f) (subst (λ z. Here (a + len_utf8 z) (b + len_utf8 z)) is next)
          test false x =
              both (a + len_utf8 c) (b + len_utf8 c) (part_other first a c cs e t x) (part_other second b c ds f t x) next (fed_value first a (a + len_utf8 c) c (char_head first a c cs e) x ∙ sym (fed_value second b (b + len_utf8 c) c (char_head second b c ds f) x))

  -- behind a tag a backslash that begins no escape, with a character

  abbrev pub Both : Option ℕ → Option ℕ → Type 0
  Both = Kept (λ i. []) (λ j. [])

  abbrev IllFormedKept : ℕ → ℕ → Type 0
  IllFormedKept a b = Both ((code_point 92 >> any) first a) ((code_point 92 >> any) second b)

  ill_formed_kept : (tagged : Bool) (a b : ℕ) → IsReady a → Here a b → literal_part true first a ≡ None → Both (ill_formed_escape tagged first a) (ill_formed_escape tagged second b)
  ill_formed_kept false a b ready h none = tt
  ill_formed_kept true a b ready h none = go (view first second rest u v ends a b h)
    where
      no_backslash : code_point 92 first a ≡ None → code_point 92 second b ≡ None → IllFormedKept a b
      no_backslash e f = neither_kept (λ i. []) (λ j. []) ((code_point 92 >> any) first a) ((code_point 92 >> any) second b) (then_none first (code_point 92) any a e) (then_none second (code_point 92) any b f)

      behind : (cs ds : List ℕ) → after first a ≡ 92 ∷ cs → after second b ≡ 92 ∷ ds → Here (a + 1) (b + 1) → IllFormedKept a b
      behind cs ds e f next =
          rw (then_some first (code_point 92) any a (a + 1) (code_point_stands first 92 a cs e), then_some second (code_point 92) any b (b + 1) (code_point_stands second 92 b ds f)) (on (view first second rest u v ends (a + 1) (b + 1) next))
        where
          on : View first second rest u v ends (a + 1) (b + 1) → Both (any first (a + 1)) (any second (b + 1))
          on (broken i j c d to k l x y t w is) = none_some (sym none ∙ part_escape first a cs e ∙ escape_breaks first (a + 1) i k)
          on (over x y) = neither_kept (λ i. []) (λ j. []) (any first (a + 1)) (any second (b + 1)) (passing_end first (λ c. true) (a + 1) (x ∙ ready.1 (char_head first a 92 cs e) x)) (passing_end second (λ c. true) (b + 1) y)
          on (same c to x y t) =
              both_kept (λ i. []) (λ j. []) (any first (a + 1)) (any second (b + 1)) (a + 1 + len_utf8 c) (b + 1 + len_utf8 c) (any_stands first (a + 1) c (after first (a + 1 + len_utf8 c)) x) (any_stands second (b + 1) c (after second (b + 1 + len_utf8 c)) y) to refl

      go : View first second rest u v ends a b → IllFormedKept a b
      go (broken i j c d next k l e f t w is) = none_some (sym none ∙ part_breaks first a i k)
      go (over e f) = no_backslash (code_point_end first 92 a (e ∙ ready.0 e)) (code_point_end second 92 b f)
      go (same c next e f t) = test (nat_eq c 92) refl
        where
          cs : List ℕ
          cs = after first (a + len_utf8 c)

          ds : List ℕ
          ds = after second (b + len_utf8 c)

          test : (s : Bool) → nat_eq c 92 ≡ s → IllFormedKept a b
          test true x =
              let is = eqb-true c 92 x in
              behind cs ds (subst (λ z. after first a ≡ z ∷ cs) is e) (subst (λ z. after second b ≡ z ∷ ds) is f) (subst (λ z. Here (a + len_utf8 z) (b + len_utf8 z)) is next)
          test false x = no_backslash (code_point_fails first 92 c a cs e x) (code_point_fails second 92 c b ds f x)

  pub template_part_kept : (tagged : Bool) (a b : ℕ) → IsReady a → Here a b → Both (template_part tagged first a) (template_part tagged second b)
  unfolding template_part
  template_part_kept tagged a b ready h = go (literal_part true first a) (literal_part true second b) refl (part_kept a b ready h)
    where
      go : (o r : Option ℕ) → literal_part true first a ≡ o → PartKept a b o r → Both (or_at (ill_formed_escape tagged) first a o) (or_at (ill_formed_escape tagged) second b r)
      go None None e m = ill_formed_kept tagged a b ready h e
      go None (Some j) e m = absurd m
      go (Some i) None e m = absurd m
      go (Some i) (Some j) e m = (m.0, refl)
