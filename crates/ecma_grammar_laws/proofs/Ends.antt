-- Where the parts of tokens end: further on, and in the text.
use Rattle.std.proofs.Common.{◌≡◌, ℕ, ◌+◌, ◌<◌, ◌≤◌, Bool, true, false, cond, List, ◌∷◌, length, drop, refl, ◌∙◌, subst, ◌-◌, ◌||◌, is_some, not, arith, length-append, nat_eq, Option, Some, None, unwrap_or}
use Rattle.std.specs.Bool.{OnTrue}
use Rattle.std.specs.Char.{len_utf8}
use Rattle.std.specs.Str.{IsUtf8, bytes_eq}
use Rattle.std.proofs.lemmas.Str.{len_utf8_bounds}
use Rattle.ecma_lex.specs.Text.{piece, IsPiece}
use Rattle.ecma_lex.specs.Parts.{Part, char_at, passes, passing, code_point, ◌>>◌, ◌//◌, nothing, unless, many, up_to, if_text, with_text}
use Rattle.ecma_lex.specs.Blanks.{line, comment_close, comment_rest, comment, blank, blanks, skipped}
use Rattle.ecma_lex.specs.Keys.{identifier_parts, is_reserved, key_end, name_end, word_end, priv_name_end}
use Rattle.ecma_lex.specs.Numerals.{num_end, big_end}
use Rattle.ecma_lex.specs.Strings.{str_end}
use Rattle.ecma_lex.specs.Regexes.{backslash_sequence, class_char, class_chars, class, regex_char, regex_chars, body, opened, regex_end}
use Rattle.ecma_lex.specs.Hashbangs.{at_start, hashbang_end}
use Rattle.ecma_lex.specs.Punctuators.{is_longest, punct_end, angle_end}
use Rattle.ecma_lex.specs.Templates.{template_characters, template_text_end_of, template_text_end_at, template_text_end_behind, any_template_text_end, template_text_end, if_valued, substitution, end_length}
use Rattle.ecma_lex.specs.Values.{literal_value}
use Rattle.ecma_lex.proofs.Steps.{fits}
use Rattle.ecma_lex.proofs.Repeats.{none_some, between, either, unless_parts, many_along, moves_forward, moves_passing, moves_then, forward_many}
use Rattle.ecma_lex.proofs.Pieces.{longest_stands}
use Rattle.ecma_lex.proofs.Literals.{moves_template_character}
use Rattle.ecma_lex.proofs.Spelled.{Standing}
use Rattle.ecma_lex.proofs.Quoted.{string_spelled, string_standing, string_long}
use Rattle.ecma_lex.proofs.NumeralTokens.{Literal, num_end_literal, big_end_literal}

module _ (text : List ℕ) (u : IsUtf8 text) where
  -- where a part stands in the text, it ends at least k bytes further on, in the text
  pub record Ends (k : ℕ) (p : Part) : Type 0 where
    pub on : (i j : ℕ) → i ≤ length text → p text i ≡ Some j → (i + k ≤ j) × (j ≤ length text)

  pub ends_less : {k : ℕ} (j : ℕ) {p : Part} → j ≤ k → Ends k p → Ends j p
  ends_less j l e = record { on = λ i n a h. (let w = e.on i n a h in let b = w.0 in (omega arith, w.1)) }

  ends_passing : (p : ℕ → Bool) → Ends 1 (passing p)
  ends_passing p = record { on = λ i j a h. at i j (char_at text i) refl h }
    where
      at : (i j : ℕ) (o : Option ℕ) → char_at text i ≡ o → passes p i o ≡ Some j → (i + 1 ≤ j) × (j ≤ length text)
      at i j None e h = none_some h
      at i j (Some c) e h = go (p c) h
        where
          go : (b : Bool) → cond b (Some (i + len_utf8 c)) None ≡ Some j → (i + 1 ≤ j) × (j ≤ length text)
          go true k = let some = (len_utf8_bounds c).0 in let l = fits text i c u e in let n : i + len_utf8 c ≡ j = cc in (omega arith, omega arith)
          go false k = none_some k

  ends_nothing : Ends 0 nothing
  ends_nothing = record { on = λ i j a h. (let e : i ≡ j = cc in (omega arith, omega arith)) }

  ends_then : {k n : ℕ} {p q : Part} → Ends k p → Ends n q → Ends (k + n) (p >> q)
  ends_then {p = p} {q = q} e f = record {
    on = λ i j a h. (let m = between text q (p text i) j h in let x = e.on i m.0 a m.1 in let y = f.on m.0 j x.1 m.2 in let b = x.0 in let c = y.0 in (omega arith, y.1));
  }

  ends_or : {k : ℕ} {p q : Part} → Ends k p → Ends k q → Ends k (p // q)
  ends_or {p = p} {q = q} e f = record { on = λ i j a h. either text p q i j (e.on i j a) (f.on i j a) h }

  ends_unless : (p : Part) {k : ℕ} {q : Part} → Ends k q → Ends k (unless p q)
  ends_unless p {q = q} e = record { on = λ i j a h. e.on i j a (unless_parts text p q i j h).1 }

  ends_many : {k : ℕ} {p : Part} → Ends k p → Ends 0 (many p)
  ends_many {p = p} e = record {
    on = λ i j a h. (let w = many_along text p (λ n. (i ≤ n) × (n ≤ length text)) (λ n m b l. (let x = e.on n m b.1 l in let y = x.0 in let z = b.0 in (omega arith, x.1))) i j (omega arith, a) h in let b = w.0 in (omega arith, w.1));
  }

  ends_up_to : (p : Part) → Ends 0 (up_to p)
  ends_up_to p = ends_many (ends_unless p (ends_passing (λ c. true)))

  ends_with_text : (t : List ℕ → Bool) {k : ℕ} {p : Part} → Ends k p → Ends k (with_text t p)
  ends_with_text t {k} {p} e = record { on = λ i j a h. at i j a (p text i) refl h }
    where
      at : (i j : ℕ) → i ≤ length text → (o : Option ℕ) → p text i ≡ o → if_text t text i o ≡ Some j → (i + k ≤ j) × (j ≤ length text)
      at i j a None g h = none_some h
      at i j a (Some n) g h = go (t (piece text i n)) h
        where
          go : (b : Bool) → cond b (Some n) None ≡ Some j → (i + k ≤ j) × (j ≤ length text)
          go true l = e.on i j a (g ∙ l)
          go false l = none_some l

  -- blanks and comments

  ends_line : Ends 0 line
  unfolding line
  ends_line = ends_up_to _

  ends_comment : Ends 0 comment
  unfolding comment comment_rest
  ends_comment =
      ends_or (ends_less 0 (omega arith) (ends_then (ends_passing _) (ends_then (ends_passing _) ends_line)))
      (ends_less 0 (omega arith) (ends_then (ends_then (ends_passing _) (ends_passing _)) (ends_then (ends_up_to comment_close) (ends_then (ends_passing _) (ends_passing _)))))

  ends_blanks : Ends 0 blanks
  unfolding blanks blank
  ends_blanks = ends_many (ends_or (ends_less 0 (omega arith) (ends_passing _)) (ends_or (ends_less 0 (omega arith) (ends_passing _)) ends_comment))

  -- what is skipped stands in the text
  pub skipped_within : (i : ℕ) → i ≤ length text → (i ≤ (skipped text i).to) × ((skipped text i).to ≤ length text)
  unfolding skipped
  skipped_within i a = go (blanks text i) refl
    where
      go : (o : Option ℕ) → blanks text i ≡ o → (i ≤ unwrap_or o i) × (unwrap_or o i ≤ length text)
      go None e = (omega arith, a)
      go (Some j) e = let w = ends_blanks.on i j a e in let b = w.0 in (omega arith, w.1)

  -- the tokens

  pub ends_key : Ends 1 key_end
  unfolding key_end identifier_parts
  ends_key = ends_then (ends_passing _) (ends_many (ends_passing _))

  pub ends_name : Ends 1 name_end
  unfolding name_end
  ends_name = ends_with_text (λ word. not (is_reserved word)) ends_key

  pub ends_word : (w : List ℕ) → Ends 1 (word_end w)
  unfolding word_end
  ends_word w = ends_with_text (λ word. bytes_eq word w) ends_key

  pub ends_priv_name : Ends 1 priv_name_end
  unfolding priv_name_end
  ends_priv_name = ends_less 1 (omega arith) (ends_then (ends_passing _) ends_key)

  pub ends_angle : (c : ℕ) → Ends 1 (angle_end c)
  unfolding angle_end
  ends_angle c = ends_passing _

  pub ends_hashbang : Ends 1 hashbang_end
  unfolding hashbang_end
  ends_hashbang = ends_less 1 (omega arith) (ends_then ends_start (ends_then (ends_passing _) (ends_then (ends_passing _) ends_line)))
    where
      ends_start : Ends 0 at_start
      ends_start = record { on = λ i j a h. go i j (nat_eq i 0) a h }
        where
          go : (i j : ℕ) (b : Bool) → i ≤ length text → cond b (Some i) None ≡ Some j → (i + 0 ≤ j) × (j ≤ length text)
          go i j true a h = let e : i ≡ j = cc in (omega arith, omega arith)
          go i j false a h = none_some h

  ends_backslash : Ends 1 backslash_sequence
  unfolding backslash_sequence
  ends_backslash = ends_less 1 (omega arith) (ends_then (ends_passing _) (ends_passing _))

  ends_class_char : Ends 1 class_char
  unfolding class_char
  ends_class_char = ends_or (ends_unless _ (ends_passing _)) ends_backslash

  ends_class : Ends 1 class
  unfolding class class_chars
  ends_class = ends_less 1 (omega arith) (ends_then (ends_passing _) (ends_then (ends_many ends_class_char) (ends_passing _)))

  ends_regex_char : Ends 1 regex_char
  unfolding regex_char
  ends_regex_char = ends_or (ends_unless _ (ends_passing _)) (ends_or ends_backslash ends_class)

  pub ends_regex : Ends 1 regex_end
  unfolding regex_end opened body regex_chars identifier_parts
  ends_regex =
      ends_less 1 (omega arith)
      (ends_then (ends_then (ends_passing _) (ends_then (ends_unless _ ends_regex_char) (ends_many ends_regex_char)))
      (ends_then (ends_passing _) (ends_many (ends_passing _))))

  standing_ends : {i j : ℕ} → 1 ≤ length (piece text i j) → Standing text i j → (i + 1 ≤ j) × (j ≤ length text)
  standing_ends {i} {j} l s =
      let e = s.ends in
      let w = s.stands.within in
      let a = length-append (piece text i j) s.rest in
      (omega arith, omega arith)

  pub ends_str : Ends 1 str_end
  ends_str = record { on = λ i j a h. standing_ends (omega (arith, string_long (piece text i j) (string_spelled text i j u h))) (string_standing text i j u h) }

  literal_ends : {A : Type 0} {read : List ℕ → Option (A × List ℕ)} {i j : ℕ} → Literal read text i j → (i + 1 ≤ j) × (j ≤ length text)
  literal_ends {i = i} {j = j} l =
      let e = l.ends in
      let w = l.stands.within in
      let a = length-append (l.first ∷ l.others) (drop j text) in
      (omega arith, omega arith)

  pub ends_num : Ends 1 num_end
  ends_num = record { on = λ i j a h. literal_ends (num_end_literal text i j h) }

  pub ends_big : Ends 1 big_end
  ends_big = record { on = λ i j a h. literal_ends (big_end_literal text i j h) }

  pub ends_punct : (p : List ℕ) → Ends (length p) (punct_end p)
  unfolding punct_end
  ends_punct p = record { on = λ i j a h. go i j (is_longest p (drop i text)) (longest_stands text p i (is_longest p (drop i text)) u refl) h }
    where
      go : (i j : ℕ) (b : Bool) → OnTrue b (IsPiece text i (i + length p)) → cond b (Some (i + length p)) None ≡ Some j → (i + length p ≤ j) × (j ≤ length text)
      go i j true s k = let e : i + length p ≡ j = cc in let w = s.1 in (omega arith, omega arith)
      go i j false s k = none_some k

  -- text parts of templates

  ends_template_end : (i : ℕ) (e : _) → template_text_end_at text i ≡ Some e → (i ≤ e.next) × (e.next ≤ length text)
  unfolding template_text_end_at substitution
  ends_template_end i e h = go (code_point 96 text i) refl (substitution text i) refl h
    where
      tick : (j : ℕ) → code_point 96 text i ≡ Some j → (i ≤ j) × (j ≤ length text)
      tick j k = let b = (moves_passing text (λ c. nat_eq c 96)).within i j k in let w = (ends_passing (λ c. nat_eq c 96)).on i j (omega arith) k in let a = w.0 in (omega arith, w.1)

      dollar : (j : ℕ) → substitution text i ≡ Some j → (i ≤ j) × (j ≤ length text)
      dollar j k =
          let b = (moves_then text (moves_passing text (λ c. nat_eq c 36)) (moves_forward text (moves_passing text (λ c. nat_eq c 123)))).within i j k in
          let w = (ends_then (ends_passing (λ c. nat_eq c 36)) (ends_passing (λ c. nat_eq c 123))).on i j (omega arith) k in
          let a = w.0 in
          (omega arith, w.1)

      go : (o : Option ℕ) → code_point 96 text i ≡ o → (n : Option ℕ) → substitution text i ≡ n → template_text_end_of o n ≡ Some e → (i ≤ e.next) × (e.next ≤ length text)
      go (Some j) k n l m = let z : j ≡ e.next = cc in subst (λ x. (i ≤ x) × (x ≤ length text)) z (tick j k)
      go None k (Some j) l m = let z : j ≡ e.next = cc in subst (λ x. (i ≤ x) × (x ≤ length text)) z (dollar j l)
      go None k None l m = cc

  pub template_ends : (first tagged : Bool) (i : ℕ) (e : _) → template_text_end first tagged text i ≡ Some e → (i + 1 ≤ e.next) × (e.next ≤ length text)
  unfolding template_text_end any_template_text_end template_characters
  template_ends first tagged i e h = valued (any_template_text_end first tagged text i) refl h
    where
      begins : (j : ℕ) → template_characters first tagged text i ≡ Some j → i < j
      begins j k = (moves_then text (moves_passing text _) (forward_many text (moves_forward text (moves_template_character text tagged)))).on i j k

      behind : (o : Option ℕ) → template_characters first tagged text i ≡ o → template_text_end_behind text o ≡ Some e → (i + 1 ≤ e.next) × (e.next ≤ length text)
      behind None k m = cc
      behind (Some j) k m = let a = begins j k in let w = ends_template_end j e m in let b = w.0 in (omega arith, w.1)

      valued : (o : Option _) → any_template_text_end first tagged text i ≡ o → if_valued tagged text i o ≡ Some e → (i + 1 ≤ e.next) × (e.next ≤ length text)
      valued None k m = cc
      valued (Some f) k m = go (tagged || is_some (literal_value true (piece text (i + 1) (f.next - end_length f.last)))) m
        where
          go : (b : Bool) → cond b (Some f) None ≡ Some e → (i + 1 ≤ e.next) × (e.next ≤ length text)
          go true n = behind (template_characters first tagged text i) refl (k ∙ n)
          go false n = cc
