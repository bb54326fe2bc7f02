-- A text and the same with LF for each line end, from a place on in each: either the same character stands there, or a line end, or both are at their ends.
use Rattle.std.proofs.Common.{◌≡◌, ◌∙◌, ℕ, ◌+◌, ◌≤◌, Bool, true, false, not, ◌||◌, cond, List, [], ◌∷◌, ◌++◌, length, drop, nat_eq, Option, Some, None, refl, sym, ap, subst, arith, slice_get}
use Rattle.std.specs.Char.{len_utf8}
use Rattle.std.specs.Str.{IsUtf8, chars}
use Rattle.std.proofs.lemmas.Bool.{eqb-true, false≢true, not-true}
use Rattle.std.proofs.lemmas.List.{append_cancel_right}
use Rattle.std.proofs.lemmas.Str.{chars-append}
use Rattle.ecma_number.specs.Blanks.{is_line_terminator}
use Rattle.ecma_lex.specs.Escapes.{cr_lf, line_terminator_sequence}
use Rattle.ecma_lex.specs.Parts.{char_at, code_point, passing, then_at, ◌>>◌}
use Rattle.ecma_lex.specs.Templates.{is_line_feed, line_feeds}
use Rattle.ecma_lex.specs.Text.{after, cuts, piece}
use Rattle.ecma_lex.proofs.Literals.{or_none, passing_here}
use Rattle.ecma_lex.proofs.Repeats.{code_point_end, code_point_fails, code_point_stands, or_first, passing_end, passing_fails, passing_stands, then_some}
use Rattle.ecma_lex.proofs.Spelled.{stops}
use Rattle.ecma_lex.proofs.Standings.{alone_piece}
use Rattle.ecma_lex.proofs.Steps.{after_is, after_step, cut, may_cut, next_here, step}
use Rattle.ecma_lex.proofs.Suffixes.{past}

-- what a text part ends with: nothing, where it stands alone, or `$` or a backtick
abbrev pub is_sign : ℕ → Bool
is_sign c = nat_eq c 36 || nat_eq c 96

abbrev pub Ends : List ℕ → Type 0
Ends [] = Unit {0}
Ends (c ∷ cs) = is_sign c ≡ true

-- a test that fails at such a sign ends there
pub no_sign : (p : ℕ → Bool) (c : ℕ) → p 36 ≡ false → p 96 ≡ false → is_sign c ≡ true → p c ≡ false
no_sign p c h g e = go (nat_eq c 36) refl e
  where
    go : (b : Bool) → nat_eq c 36 ≡ b → (b || nat_eq c 96) ≡ true → p c ≡ false
    go true x k = subst (λ z. p z ≡ false) (sym (eqb-true c 36 x)) h
    go false x k = subst (λ z. p z ≡ false) (sym (eqb-true c 96 k)) g

pub ends_there : (p : ℕ → Bool) (cs : List ℕ) → p 36 ≡ false → p 96 ≡ false → Ends cs → stops p cs ≡ true
ends_there p [] h g e = refl
ends_there p (c ∷ cs) h g e = ap not (no_sign p c h g e)

-- a test that no line terminator passes
abbrev pub IsUnbroken : (ℕ → Bool) → Type 0
IsUnbroken p = (c : ℕ) → is_line_terminator c ≡ true → p c ≡ false

pub unbroken : (p : ℕ → Bool) → p 10 ≡ false → p 13 ≡ false → p 0x2028 ≡ false → p 0x2029 ≡ false → IsUnbroken p
unbroken p h g k l c e = go (nat_eq c 10) (nat_eq c 13) (nat_eq c 0x2028) (nat_eq c 0x2029) refl refl refl refl e
  where
    go : (a b d f : Bool) → nat_eq c 10 ≡ a → nat_eq c 13 ≡ b → nat_eq c 0x2028 ≡ d → nat_eq c 0x2029 ≡ f → (((a || b) || d) || f) ≡ true → p c ≡ false
    go true b d f x y z w m = subst (λ n. p n ≡ false) (sym (eqb-true c 10 x)) h
    go false true d f x y z w m = subst (λ n. p n ≡ false) (sym (eqb-true c 13 y)) g
    go false false true f x y z w m = subst (λ n. p n ≡ false) (sym (eqb-true c 0x2028 z)) k
    go false false false true x y z w m = subst (λ n. p n ≡ false) (sym (eqb-true c 0x2029 w)) l
    go false false false false x y z w m = cc

-- what has LF for line ends

other_feeds : (c : ℕ) (cs : List ℕ) → nat_eq c 13 ≡ false → line_feeds (c ∷ cs) ≡ c ∷ line_feeds cs
other_feeds c cs h = rw h refl

alone_feeds : (cs : List ℕ) → is_line_feed (slice_get cs 0) ≡ false → line_feeds (13 ∷ cs) ≡ 10 ∷ line_feeds cs
alone_feeds cs h = rw h refl

-- what a line terminator says in a template
abbrev pub fed : ℕ → ℕ
fed c = cond (nat_eq c 13) 10 c

-- the first character behind a place
pub char_head : (text : List ℕ) (i c : ℕ) (cs : List ℕ) → after text i ≡ c ∷ cs → char_at text i ≡ Some c
char_head text i c cs e = ap (λ l. slice_get l 0) e

-- behind a place stand the characters of a piece, and then what stands behind that
pub piece_parts : (text : List ℕ) (i j : ℕ) → IsUtf8 text → cuts text i ≡ true → cuts text j ≡ true → i ≤ j → IsUtf8 (piece text i j) × (after text i ≡ chars (piece text i j) ++ after text j)
piece_parts text i j u ci cj le =
    let most = (cut text j cj).0 in
    let p = alone_piece text u i j (le, most, ci, cj) in
    let w = piece text i j in
    let there = past text w p.stands in
    let at : i + length w ≡ j = sym p.ends in
    let behind : after text j ≡ chars p.rest = after_is text j cj ∙ ap chars (subst (λ n. drop n text ≡ p.rest) at there.rest) in
    (p.utf8, after_is text i ci ∙ ap chars p.stands.rest ∙ chars-append w p.rest p.utf8 ∙ ap (λ l. chars w ++ l) (sym behind))

-- what stands behind the first of two places and not behind the second is what stands between
pub word_between : (text : List ℕ) (i j : ℕ) (word : List ℕ) → IsUtf8 text → cuts text i ≡ true → cuts text j ≡ true → i ≤ j → after text i ≡ word ++ after text j → chars (piece text i j) ≡ word
word_between text i j word u ci cj le e = append_cancel_right (chars (piece text i j)) word (after text j) (sym (piece_parts text i j u ci cj le).1 ∙ e)

module _ (first second rest : List ℕ) (u : IsUtf8 first) (v : IsUtf8 second) (ends : Ends rest) where
  -- from there on up to the end stand the same characters, but for the line ends
  pub record Beside (a b : ℕ) : Type 0 where
    pub left : List ℕ
    pub one : after first a ≡ left ++ rest
    pub two : after second b ≡ line_feeds left
    pub cut_one : cuts first a ≡ true
    pub cut_two : cuts second b ≡ true

  -- what stands there
  pub data View (a b : ℕ) : Type 0 where
    broken : (i j c d : ℕ) → Beside i j → line_terminator_sequence first a ≡ Some i → line_terminator_sequence second b ≡ Some j → char_at first a ≡ Some c → char_at second b ≡ Some d → is_line_terminator c ≡ true → is_line_terminator d ≡ true → fed c ≡ fed d → View a b
    same : (c : ℕ) → Beside (a + len_utf8 c) (b + len_utf8 c) → after first a ≡ c ∷ after first (a + len_utf8 c) → after second b ≡ c ∷ after second (b + len_utf8 c) → is_line_terminator c ≡ false → View a b
    over : after first a ≡ rest → after second b ≡ [] → View a b

  cut_next : (text : List ℕ) (i c : ℕ) (cs : List ℕ) → IsUtf8 text → after text i ≡ c ∷ cs → cuts text (i + len_utf8 c) ≡ true
  cut_next text i c cs u e = may_cut text (i + len_utf8 c) (step text i c u (ap (λ l. slice_get l 0) e)).0

  -- behind a character of each
  beside_next : (a b c d : ℕ) (cs : List ℕ) → after first a ≡ c ∷ (cs ++ rest) → after second b ≡ d ∷ line_feeds cs → Beside (a + len_utf8 c) (b + len_utf8 d)
  beside_next a b c d cs e f = record {
    left = cs;
    one = next_here first a c (cs ++ rest) u e;
    two = next_here second b d (line_feeds cs) v f;
    cut_one = cut_next first a c (cs ++ rest) u e;
    cut_two = cut_next second b d (line_feeds cs) v f;
  }

  -- a line terminator that begins no CR LF
  terminator_alone : (text : List ℕ) (i c : ℕ) → char_at text i ≡ Some c → is_line_terminator c ≡ true → (nat_eq c 13 ≡ true → code_point 10 text (i + len_utf8 c) ≡ None) → line_terminator_sequence text i ≡ Some (i + len_utf8 c)
  unfolding line_terminator_sequence cr_lf
  terminator_alone text i c e h g = or_none text (code_point 13 >> code_point 10) (passing is_line_terminator) i (pair (nat_eq c 13) refl) ∙ passing_here text is_line_terminator i c e ∙ rw h refl
    where
      first_code : (b : Bool) → nat_eq c 13 ≡ b → code_point 13 text i ≡ cond b (Some (i + len_utf8 c)) None
      first_code b k = passing_here text (λ d. nat_eq d 13) i c e ∙ ap (λ t. cond t (Some (i + len_utf8 c)) None) k

      pair : (b : Bool) → nat_eq c 13 ≡ b → (code_point 13 >> code_point 10) text i ≡ None
      pair true k = ap (then_at (code_point 10) text) (first_code true k) ∙ g k
      pair false k = ap (then_at (code_point 10) text) (first_code false k)

  terminator_pair : (text : List ℕ) (i : ℕ) (cs ds : List ℕ) → after text i ≡ 13 ∷ cs → after text (i + len_utf8 13) ≡ 10 ∷ ds → line_terminator_sequence text i ≡ Some (i + len_utf8 13 + len_utf8 10)
  unfolding line_terminator_sequence cr_lf
  terminator_pair text i cs ds e f =
      or_first text (code_point 13 >> code_point 10) (passing is_line_terminator) i (i + len_utf8 13 + len_utf8 10)
      (then_some text (code_point 13) (code_point 10) i (i + len_utf8 13) (code_point_stands text 13 i cs e) ∙ code_point_stands text 10 (i + len_utf8 13) ds f)

  no_feed : (text : List ℕ) (i : ℕ) (cs : List ℕ) → after text i ≡ cs → is_line_feed (slice_get cs 0) ≡ false → code_point 10 text i ≡ None
  no_feed text i [] e h = code_point_end text 10 i e
  no_feed text i (c ∷ cs) e h = code_point_fails text 10 c i cs e h

  no_feed_over : (cs : List ℕ) → Ends cs → is_line_feed (slice_get cs 0) ≡ false
  no_feed_over [] e = refl
  no_feed_over (c ∷ cs) e = no_sign (λ d. nat_eq d 10) c refl refl e

  feed_head : (cs : List ℕ) → is_line_feed (slice_get cs 0) ≡ false → is_line_feed (slice_get (cs ++ rest) 0) ≡ false
  feed_head [] h = no_feed_over rest ends
  feed_head (c ∷ cs) h = h

  module _ (a b : ℕ) where
    return_pair : (cs : List ℕ) → after first a ≡ 13 ∷ 10 ∷ (cs ++ rest) → after second b ≡ line_feeds (13 ∷ 10 ∷ cs) → View a b
    return_pair cs e f =
        let h : after first (a + len_utf8 13) ≡ 10 ∷ (cs ++ rest) = next_here first a 13 (10 ∷ (cs ++ rest)) u e in
        broken (a + len_utf8 13 + len_utf8 10) (b + len_utf8 10) 13 10 (beside_next (a + len_utf8 13) b 10 10 cs h f) (terminator_pair first a (10 ∷ (cs ++ rest)) (cs ++ rest) e h)
        (terminator_alone second b 10 (char_head second b 10 (line_feeds cs) f) refl (λ x. cc)) (char_head first a 13 (10 ∷ (cs ++ rest)) e) (char_head second b 10 (line_feeds cs) f) refl refl refl

    return_alone : (cs : List ℕ) → after first a ≡ 13 ∷ (cs ++ rest) → after second b ≡ line_feeds (13 ∷ cs) → is_line_feed (slice_get cs 0) ≡ false → View a b
    return_alone cs e f k =
        let g : after second b ≡ 10 ∷ line_feeds cs = f ∙ alone_feeds cs k in
        let c = char_head first a 13 (cs ++ rest) e in
        let d = char_head second b 10 (line_feeds cs) g in
        broken (a + len_utf8 13) (b + len_utf8 10) 13 10 (beside_next a b 13 10 cs e g) (terminator_alone first a 13 c refl (λ x. no_feed first (a + len_utf8 13) (cs ++ rest) (next_here first a 13 (cs ++ rest) u e) (feed_head cs k)))
        (terminator_alone second b 10 d refl (λ x. cc)) c d refl refl refl

    return : (cs : List ℕ) → after first a ≡ 13 ∷ (cs ++ rest) → after second b ≡ line_feeds (13 ∷ cs) → View a b
    return [] e f = return_alone [] e f refl
    return (d ∷ ds) e f = go (nat_eq d 10) refl
      where
        go : (t : Bool) → nat_eq d 10 ≡ t → View a b
        go true x = let is = eqb-true d 10 x in return_pair ds (subst (λ z. after first a ≡ 13 ∷ z ∷ (ds ++ rest)) is e) (subst (λ z. after second b ≡ line_feeds (13 ∷ z ∷ ds)) is f)
        go false x = return_alone (d ∷ ds) e f x

    other : (c : ℕ) (cs : List ℕ) → after first a ≡ c ∷ (cs ++ rest) → after second b ≡ c ∷ line_feeds cs → nat_eq c 13 ≡ false → View a b
    other c cs e f k = go (is_line_terminator c) refl
      where
        next : Beside (a + len_utf8 c) (b + len_utf8 c)
        next = beside_next a b c c cs e f

        no_return : nat_eq c 13 ≡ true → code_point 10 first (a + len_utf8 c) ≡ None
        no_return x = absurd (false≢true (sym k ∙ x))

        no_return_there : nat_eq c 13 ≡ true → code_point 10 second (b + len_utf8 c) ≡ None
        no_return_there x = absurd (false≢true (sym k ∙ x))

        go : (t : Bool) → is_line_terminator c ≡ t → View a b
        go true x =
            let d = char_head first a c (cs ++ rest) e in
            let g = char_head second b c (line_feeds cs) f in
            broken (a + len_utf8 c) (b + len_utf8 c) c c next (terminator_alone first a c d x no_return) (terminator_alone second b c g x no_return_there) d g x x refl
        go false x = same c next (after_step first a c u (char_head first a c (cs ++ rest) e)) (after_step second b c v (char_head second b c (line_feeds cs) f)) x

    some : (c : ℕ) (cs : List ℕ) → after first a ≡ c ∷ (cs ++ rest) → after second b ≡ line_feeds (c ∷ cs) → View a b
    some c cs e f = go (nat_eq c 13) refl
      where
        go : (t : Bool) → nat_eq c 13 ≡ t → View a b
        go true x = let is = eqb-true c 13 x in return cs (subst (λ z. after first a ≡ z ∷ (cs ++ rest)) is e) (subst (λ z. after second b ≡ line_feeds (z ∷ cs)) is f)
        go false x = other c cs e (f ∙ other_feeds c cs x) x

    pub view : Beside a b → View a b
    view p = go p.left p.one p.two
      where
        go : (cs : List ℕ) → after first a ≡ cs ++ rest → after second b ≡ line_feeds cs → View a b
        go [] e f = over e f
        go (c ∷ cs) e f = some c cs e f

  -- a part takes the same word of both, or stands in neither
  pub record Moved (a b i j : ℕ) : Type 0 where
    pub word : List ℕ
    pub one : after first a ≡ word ++ after first i
    pub two : after second b ≡ word ++ after second j
    pub on_one : a ≤ i
    pub on_two : b ≤ j
    pub next : Beside i j

  abbrev pub Same : ℕ → ℕ → Option ℕ → Option ℕ → Type 0
  Same a b None None = Unit {0}
  Same a b None (Some j) = ⊥
  Same a b (Some i) None = ⊥
  Same a b (Some i) (Some j) = Moved a b i j

  -- before the end, or where the test fails there too, the same character passes
  pub passing_same : (p : ℕ → Bool) → IsUnbroken p → (a b : ℕ) → (after first a ≡ rest → stops p rest ≡ true) → Beside a b → Same a b (passing p first a) (passing p second b)
  passing_same p h a b clear q = go (view a b q)
    where
      no_passing : (text : List ℕ) (i c : ℕ) → char_at text i ≡ Some c → is_line_terminator c ≡ true → passing p text i ≡ None
      no_passing text i c e t = passing_here text p i c e ∙ rw (h c t) refl

      stopped : (text : List ℕ) (i : ℕ) (cs : List ℕ) → after text i ≡ cs → stops p cs ≡ true → passing p text i ≡ None
      stopped text i [] e t = passing_end text p i e
      stopped text i (c ∷ cs) e t = passing_fails text p i c cs e (not-true (p c) t)

      neither : passing p first a ≡ None → passing p second b ≡ None → Same a b (passing p first a) (passing p second b)
      neither e f = rw (e, f) tt

      go : View a b → Same a b (passing p first a) (passing p second b)
      go (broken i j c d next k l e f t w is) = neither (no_passing first a c e t) (no_passing second b d f w)
      go (over e f) = neither (stopped first a rest e (clear e)) (passing_end second p b f)
      go (same c next e f t) = test (p c) refl
        where
          test : (t : Bool) → p c ≡ t → Same a b (passing p first a) (passing p second b)
          test true x =
              rw (passing_stands first p a c (after first (a + len_utf8 c)) e x, passing_stands second p b c (after second (b + len_utf8 c)) f x)
              (record { word = c ∷ []; one = e; two = f; on_one = omega arith; on_two = omega arith; next = next })
          test false x = neither (passing_fails first p a c (after first (a + len_utf8 c)) e x) (passing_fails second p b c (after second (b + len_utf8 c)) f x)
