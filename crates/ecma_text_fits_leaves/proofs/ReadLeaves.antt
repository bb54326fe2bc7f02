-- The leaves that are read are spelled as their terminals read them, by themselves.
use Rattle.std.proofs.Common.{◌≡◌, ◌∙◌, ℕ, ◌+◌, ◌-◌, ◌<◌, ◌≤◌, Bool, true, false, not, ◌&&◌, cond, List, [], ◌++◌, codes, length, max, nat_eq, nat_lt, refl, sym, ap, subst, arith, bytes_eq, Option, Some, None, Result, Ok, Err, ℤ, pos, negsuc}
use Rattle.std.proofs.lemmas.Bool.{and_from}
use Rattle.std.specs.Prelude.{option_and_then}
use Rattle.std.specs.Char.{len_utf8}
use Rattle.std.specs.Str.{IsUtf8, chars}
use Rattle.std.specs.Int.RustNames.{int_lt, unsigned_abs}
use Rattle.std.proofs.lemmas.Bool.Decides.{Decides-eqb}
use Rattle.std.proofs.lemmas.Slice.Eq.{bytes_eq-Decides}
use Rattle.ecma_number.specs.declared.js_number.JsNumber.TheVariants.{Whole}
use Rattle.ecma_number.specs.JsNumber.{whole_of}
use Rattle.ecma_number.specs.SafeInt.{is_safe}
use Rattle.ecma_number.specs.Numeral.{MathematicalValue, number_of, numeral_of, numeric_literal, signed_number_of, whole_text, whole_value}
use Rattle.ecma_lex.specs.declared.blanks.Skipped.{Skipped}
use Rattle.ecma_lex.specs.declared.templates.TemplateText.{TemplateText}
use Rattle.ecma_lex.specs.declared.tokens.NoToken.{NoToken}
use Rattle.ecma_lex.specs.declared.tokens.Token.{Token}
use Rattle.ecma_lex.specs.Blanks.{skipped}
use Rattle.ecma_lex.specs.Keys.{key_end, name_end, priv_name_end, word_end}
use Rattle.ecma_lex.specs.Numerals.{big_end, num_end}
use Rattle.ecma_lex.specs.Parts.{char_at, passes, then_at}
use Rattle.ecma_lex.specs.Regexes.{regex_body_end, regex_end}
use Rattle.ecma_lex.specs.Strings.{str_end, str_value}
use Rattle.ecma_lex.specs.Strings as strings
use Rattle.ecma_lex.specs.Templates.{found_template_text, template_raw, template_text, template_text_end, template_value}
use Rattle.ecma_lex.specs.Text.{piece}
use Rattle.ecma_lex.specs.Tokens as lex
use Rattle.ecma_lex.specs.Tokens.{found, term}
use Rattle.ecma_lex.proofs.NumeralReading.{num_alone, num_spelled}
use Rattle.ecma_lex.proofs.Quoted.{string_alone, string_long, string_spelled, string_standing}
use Rattle.ecma_lex.proofs.Spelled.{alone, key_alone, key_spelled, name_key, word_key}
use Rattle.ecma_lex.proofs.Suffixes.{piece_inside}
use Rattle.ecma_print_tokens.specs.Good.{IsToken, Stops, Whole as IsWholeToken}
use Rattle.ecma_print_tokens.specs.Items.{Tok, big_int as big_token, key as key_token, no_gap, number as number_token, string as string_token, token_text}
use Rattle.ecma_print_tokens.proofs.Gaps.{skipped_gap}
use Rattle.ecma_print_tokens.proofs.Wholes.{quiet}
use Rattle.ecma_kind.specs.declared.kind.Kind.{Kind}
use Rattle.ecma_kind.specs.declared.kind.Kind.TheVariants as kind
use Rattle.ecma_tree.specs.declared.node.Node.{Node}
use Rattle.ecma_grammar.specs.declared.production.Leaf.{Leaf}
use Rattle.ecma_grammar.specs.declared.production.Leaf.TheVariants as leaf
use Rattle.ecma_grammar.specs.declared.production.TemplatePart.{TemplatePart}
use Rattle.ecma_grammar.specs.declared.production.TokenKind.TheVariants as token_kind
use Rattle.ecma_grammar.specs.Made.{at_token}
use Rattle.ecma_grammar.specs.Reading.{Position, Reading, fails, pure, read, terminal_on, ◌>>=◌}
use Rattle.ecma_grammar.specs.Reads.{any_token, leaf_node, part_inside, part_on, regex_token, template_part, without_separators, word_token}
use Rattle.ecma_text_leaves.specs.Everywhere.{Everywhere, none}
use Rattle.ecma_text_leaves.proofs.Leaves.{Holds, holds_fails, holds_read, holds_then}
use Rattle.ecma_text_leaves.proofs.Trees.{good_node}
use Rattle.ecma_leaves.specs.Words.{are_flags, digits_of, is_big_int, is_body, is_number, is_one, is_readable, is_regex, is_spelled, is_string, is_text_part, is_value, is_whole}
use Rattle.ecma_leaves.proofs.Characters.{piece_within}
use Rattle.ecma_text_fits_leaves.proofs.ReadDigits.{digits_are, word, word_is, word_token as big_word_token}
use Rattle.ecma_text_fits_leaves.proofs.ReadingOf.{is_hashbang}
use Rattle.ecma_text_fits_leaves.proofs.RawTexts.{part_spelled}
use Rattle.ecma_text_fits_leaves.proofs.ReadRegexes.{regex_body, regex_flags}
use Rattle.ecma_raw_roles.proofs.Walks.{not_true}

-- a whole program, which stands nowhere but at the root
abbrev pub is_program : Kind → Bool
is_program (kind.Module shebang) = true
is_program (kind.Script shebang) = true
is_program _ = false

-- a kind that is no program is spelled, where a text part may stand behind a tag
abbrev pub Told : Kind → Type 0
Told k = is_program k ≡ false → is_spelled true k ≡ true

-- a token by itself, before which nothing is skipped

same_number : (n : ℕ) → nat_eq n n ≡ true
same_number n = (Decides-eqb n n).1 refl

nothing_skipped : (t : Tok) → IsWholeToken t → Stops t [] → skipped (token_text t) 0 ≡ record { to = 0; new_line = false; closed = true }
nothing_skipped t whole stops = skipped_gap (token_text t) no_gap (token_text t ++ []) 0 (record { blank = refl; told = refl }) (quiet t [] whole stops refl) (alone (token_text t))

by_itself : (t : Tok) (find : List ℕ → ℕ → Option ℕ) → IsWholeToken t → Stops t [] → find (token_text t) 0 ≡ Some (length (token_text t)) → is_whole (token_text t) (term find (token_text t) 0) ≡ true
by_itself t find whole stops all =
    let w = token_text t in
    ap (λ (before : Skipped). is_whole w (found before (cond before.closed (find w before.to) None))) (nothing_skipped t whole stops)
    ∙ ap (λ o. is_whole w (found (record { to = 0; new_line = false; closed = true }) o)) all ∙ same_number (length w)

readable : (text : List ℕ) (i j : ℕ) → length text < 4294967296 → is_readable (piece text i j) ≡ true
readable text i j small = let within = piece_within text i j in grind arith

-- numbers

no_less : (a : ℤ) → not (int_lt a a) ≡ true
no_less (pos n) = let e : nat_lt n n ≡ false = grind arith in rw e refl
no_less (negsuc n) = let e : nat_lt n n ≡ false = grind arith in rw e refl

whole_same : (a : ℤ) → is_value (Some (Whole a)) (Some (Whole a)) ≡ true
whole_same a = and_from (not (int_lt a a)) (not (int_lt a a)) (no_less a) (no_less a)

-- the Number of a numeral is whole, where it lies in the domain
value_same : (raw : List ℕ) → is_value (numeral_of raw) (numeral_of raw) ≡ true
unfolding numeral_of
value_same raw = of_literal (whole_text numeric_literal raw)
  where
    safe : (size : ℕ) (b : Bool) → let n = cond b (Some (Whole (pos size))) None in is_value n n ≡ true
    safe size true = whole_same (pos size)
    safe size false = refl

    of_size : (size : ℕ) (b : Bool) → let n = cond b (Some (Whole (pos 0))) (whole_of (pos size)) in is_value n n ≡ true
    of_size size true = refl
    of_size size false = safe size (is_safe (pos size))

    of_value : (o : Option ℕ) → let n = option_and_then (signed_number_of false) o in is_value n n ≡ true
    of_value None = refl
    of_value (Some size) = of_size size (nat_eq (unsigned_abs (pos size)) 0)

    of_literal : (o : Option MathematicalValue) → let n = option_and_then (number_of false) o in is_value n n ≡ true
    of_literal None = refl
    of_literal (Some v) = of_value (whole_value v.significand v.power)

-- an outcome

module _ (text : List ℕ) (u : IsUtf8 text) (small : length text < 4294967296) where
  if_closed : (find : List ℕ → ℕ → Option ℕ) (b : Bool) (i j : ℕ) → cond b (find text i) None ≡ Some j → find text i ≡ Some j
  if_closed find true i j h = h
  if_closed find false i j h = cc

  holds_found : (Q : Token → Type 0) (s : Position) (before : Skipped) (o : Option ℕ) → ((j : ℕ) → o ≡ Some j → Q (record { start = before.to; next = j; new_line = before.new_line })) → Holds (terminal_on s (found before o)) Q
  holds_found Q s before None g = holds_fails Q (max s.failed before.to)
  holds_found Q s before (Some j) g = holds_read Q (record { start = before.to; next = j; new_line = before.new_line }) (record { place = j; failed = s.failed }) (g j refl)

  pub holds_term : (find : List ℕ → ℕ → Option ℕ) (Q : Token → Type 0) → ((i j : ℕ) (b : Bool) → find text i ≡ Some j → Q (record { start = i; next = j; new_line = b })) → (s : Position) → Holds (terminal_on s (term find text s.place)) Q
  holds_term find Q g s =
      let before = skipped text s.place in
      holds_found Q s before (cond before.closed (find text before.to) None) (λ j h. g before.to j before.new_line (if_closed find before.closed before.to j h))

  -- keys

  is_one_key : (i j : ℕ) → key_end text i ≡ Some j → is_one lex.key (piece text i j) ≡ true
  unfolding lex.key chars
  is_one_key i j h =
      let s = key_spelled text i j u h in
      let w = piece text i j in
      let token : IsToken key_end w = record { utf8 = s.0; whole = key_alone w s } in
      and_from (is_readable w) (is_whole w (term key_end w 0)) (readable text i j small) (by_itself (key_token w) key_end token refl token.whole)

  abbrev IsKey : Token → Type 0
  IsKey t = is_one lex.key (piece text t.start t.next) ≡ true

  holds_key : (s : Position) → Holds (any_token text token_kind.Key s) IsKey
  unfolding lex.key
  holds_key s = holds_term key_end IsKey (λ i j b h. is_one_key i j h) s

  holds_name : (s : Position) → Holds (any_token text token_kind.Name s) IsKey
  unfolding lex.name
  holds_name s = holds_term name_end IsKey (λ i j b h. is_one_key i j (name_key text i j h)) s

  holds_word : (w : List ℕ) (s : Position) → Holds (word_token text w s) IsKey
  unfolding lex.word
  holds_word w s = holds_term (word_end w) IsKey (λ i j b h. is_one_key i j (word_key text w i j h)) s

  abbrev IsPrivate : Token → Type 0
  IsPrivate t = is_one lex.key (piece text (t.start + 1) t.next) ≡ true

  behind_sign : (i j : ℕ) → priv_name_end text i ≡ Some j → key_end text (i + 1) ≡ Some j
  unfolding priv_name_end
  behind_sign i j h = by_character (char_at text i) h
    where
      by_sign : (c : ℕ) (b : Bool) → nat_eq c 35 ≡ b → then_at key_end text (cond b (Some (i + len_utf8 c)) None) ≡ Some j → key_end text (i + 1) ≡ Some j
      by_sign c true e k = let is : c ≡ 35 = (Decides-eqb c 35).0 e in subst (λ z. key_end text (i + len_utf8 z) ≡ Some j) is k
      by_sign c false e k = cc

      by_character : (o : Option ℕ) → then_at key_end text (passes (λ d. nat_eq d 35) i o) ≡ Some j → key_end text (i + 1) ≡ Some j
      by_character None k = cc
      by_character (Some c) k = by_sign c (nat_eq c 35) refl k

  holds_private : (s : Position) → Holds (any_token text token_kind.PrivateName s) IsPrivate
  unfolding lex.priv_name
  holds_private s = holds_term priv_name_end IsPrivate (λ i j b h. is_one_key (i + 1) j (behind_sign i j h)) s

  -- texts

  abbrev IsText : Token → Type 0
  IsText t = is_string (str_value (piece text (t.start + 1) (t.next - 1))) (Some (piece text t.start t.next)) ≡ true

  is_text : (i j : ℕ) → str_end text i ≡ Some j → is_string (str_value (piece text (i + 1) (j - 1))) (Some (piece text i j)) ≡ true
  unfolding strings.str_lit
  is_text i j h =
      let s = string_spelled text i j u h in
      let w = piece text i j in
      let long : 2 ≤ length w = string_long w s in
      let at = string_standing text i j u h in
      let e = at.ends in
      let k : j - 1 ≡ i + (length w - 1) = omega arith in
      let token : IsToken str_end w = record { utf8 = s.0; whole = string_alone w s } in
      let value : str_value (piece w 1 (length w - 1)) ≡ str_value (piece text (i + 1) (j - 1)) = rw (k, piece_inside text i 1 (length w - 1) w at.rest at.stands (omega arith) (omega arith)) refl in
      and_from (is_one strings.str_lit w) (bytes_eq (str_value (piece w 1 (length w - 1))) (str_value (piece text (i + 1) (j - 1))))
      (and_from (is_readable w) (is_whole w (term str_end w 0)) (readable text i j small) (by_itself (string_token w) str_end token tt token.whole))
      ((bytes_eq-Decides (str_value (piece w 1 (length w - 1))) (str_value (piece text (i + 1) (j - 1)))).1 value)

  holds_text : (s : Position) → Holds (any_token text token_kind.Str s) IsText
  unfolding strings.str_lit
  holds_text s = holds_term str_end IsText (λ i j b h. is_text i j h) s

  -- numbers

  abbrev IsNumeral : Token → Type 0
  IsNumeral t = is_number (numeral_of (piece text t.start t.next)) (Some (piece text t.start t.next)) ≡ true

  is_numeral : (i j : ℕ) → num_end text i ≡ Some j → is_number (numeral_of (piece text i j)) (Some (piece text i j)) ≡ true
  unfolding lex.num chars
  is_numeral i j h =
      let s = num_spelled text i j u h in
      let w = piece text i j in
      let token : IsToken num_end w = record { utf8 = s.0; whole = num_alone w s } in
      and_from (is_one lex.num w) (is_value (numeral_of w) (numeral_of w))
      (and_from (is_readable w) (is_whole w (term num_end w 0)) (readable text i j small) (by_itself (number_token w) num_end token refl token.whole)) (value_same w)

  holds_numeral : (s : Position) → Holds (any_token text token_kind.Number s) IsNumeral
  unfolding lex.num
  holds_numeral s = holds_term num_end IsNumeral (λ i j b h. is_numeral i j h) s

  -- BigInts

  abbrev IsBigInt : Token → Type 0
  IsBigInt t = is_big_int (without_separators (piece text t.start (t.next - 1))) (Some (piece text t.start t.next)) ≡ true

  is_big : (i j : ℕ) → big_end text i ≡ Some j → is_big_int (without_separators (piece text i (j - 1))) (Some (piece text i j)) ≡ true
  unfolding lex.big chars
  is_big i j h =
      let w = word text u i j h in
      let is = word_is text u i j h in
      let token = big_word_token text u i j h in
      let small_word : is_readable w ≡ true = subst (λ z. is_readable z ≡ true) is (readable text i j small) in
      subst (λ z. is_big_int (without_separators (piece text i (j - 1))) (Some z) ≡ true) (sym is)
      (and_from (is_one lex.big w) (bytes_eq (without_separators (piece text i (j - 1))) (digits_of w))
      (and_from (is_readable w) (is_whole w (term big_end w 0)) small_word (by_itself (big_token w) big_end token refl token.whole))
      (digits_are text u i j h))

  holds_big : (s : Position) → Holds (any_token text token_kind.BigInt s) IsBigInt
  unfolding lex.big
  holds_big s = holds_term big_end IsBigInt (λ i j b h. is_big i j h) s

  -- regular expressions

  abbrev IsRegex : Token → Type 0
  IsRegex t = is_regex (piece text (t.start + 1) (regex_body_end text t.start)) (piece text (regex_body_end text t.start + 1) t.next) ≡ true

  is_expression : (i j : ℕ) → regex_end text i ≡ Some j → is_regex (piece text (i + 1) (regex_body_end text i)) (piece text (regex_body_end text i + 1) j) ≡ true
  is_expression i j h =
      let exp = piece text (i + 1) (regex_body_end text i) in
      let flags = piece text (regex_body_end text i + 1) j in
      and_from (is_readable exp) (is_body exp && are_flags flags) (readable text (i + 1) (regex_body_end text i) small) (and_from (is_body exp) (are_flags flags) (regex_body text u i j h) (regex_flags text u i j h))

  holds_regex : (s : Position) → Holds (regex_token text s) IsRegex
  unfolding lex.regex
  holds_regex s = holds_term regex_end IsRegex (λ i j b h. is_expression i j h) s

  -- text parts of templates

  abbrev IsPart : TemplateText → Type 0
  IsPart part = is_text_part true (template_raw (part_inside text part)) (template_value (part_inside text part)) ≡ true

  holds_wanted : (wanted : Bool) (s : Position) (r : Result TemplateText NoToken) → ((part : TemplateText) → r ≡ Ok part → IsPart part) → Holds (part_on s wanted r) IsPart
  holds_wanted true s (Err e) g = holds_fails IsPart (max s.failed e.at)
  holds_wanted false s (Err e) g = holds_fails IsPart (max s.failed e.at)
  holds_wanted true s (Ok part) g = let token = part.token in go token.next part.last
    where
      go : (next : ℕ) (b : Bool) → Holds (cond b (read part (record { place = next; failed = s.failed })) (fails s.failed)) IsPart
      go next true = holds_read IsPart part (record { place = next; failed = s.failed }) (g part refl)
      go next false = holds_fails IsPart s.failed
  holds_wanted false s (Ok part) g = let token = part.token in go token.next part.last
    where
      go : (next : ℕ) (b : Bool) → Holds (cond b (fails s.failed) (read part (record { place = next; failed = s.failed }))) IsPart
      go next true = holds_fails IsPart s.failed
      go next false = holds_read IsPart part (record { place = next; failed = s.failed }) (g part refl)

  part_found : (before : Skipped) (o : Option _) (part : TemplateText) → found_template_text before o ≡ Ok part
      → ((n : ℕ) (last : Bool) → o ≡ Some (record { next = n; last = last }) → IsPart (record { token = record { start = before.to; next = n; new_line = before.new_line }; last = last })) → IsPart part
  part_found before None part h g = cc
  part_found before (Some e) part h g = let is : there ≡ part = cc in subst IsPart is (g e.next e.last refl)
    where
      there : TemplateText
      there = record { token = record { start = before.to; next = e.next; new_line = before.new_line }; last = e.last }

  closed_part : (first tagged b : Bool) (i n : ℕ) (last : Bool) → cond b (template_text_end first tagged text i) None ≡ Some (record { next = n; last = last }) → template_text_end first tagged text i ≡ Some (record { next = n; last = last })
  closed_part first tagged true i n last h = h
  closed_part first tagged false i n last h = cc

  holds_part : (wanted : TemplatePart) (s : Position) → Holds (template_part text wanted s) IsPart
  unfolding template_text
  holds_part wanted s =
      let before = skipped text s.place in
      let end = cond before.closed (template_text_end wanted.first wanted.tagged text before.to) None in
      holds_wanted wanted.last s (found_template_text before end)
      (λ part h. part_found before end part h (λ n last e. part_spelled text u wanted.first wanted.tagged before.to n last small (closed_part wanted.first wanted.tagged before.closed before.to n last e)))

  -- leaves

  abbrev Good : Node → Type 0
  Good = Everywhere Told

  leaf_at : (t : Token) (k : Kind) → Told k → Good (at_token t k)
  leaf_at t k h = good_node Told (record { lo = t.start; hi = t.next }) k [] h none

  leaf_of : {A : Type 0} (p : Reading A) (Q : A → Type 0) (f : A → Node) (s : Position) → Holds (p s) Q → ((x : A) → Q x → Good (f x)) → Holds ((p >>= λ x. pure (f x)) s) Good
  leaf_of p Q f s h g = holds_then (λ x. pure (f x)) Q Good (p s) h (λ x t q. holds_read Good (f x) t (g x q))

  any_leaf : {A : Type 0} (p : Reading A) (f : A → Node) (s : Position) → ((x : A) → Good (f x)) → Holds ((p >>= λ x. pure (f x)) s) Good
  any_leaf p f s g = leaf_of p (λ x. Unit {0}) f s (λ t x e. tt) (λ x q. g x)

  pub leaf_told : (l : Leaf) (s : Position) → is_hashbang l ≡ false → Holds (leaf_node text l s) Good
  leaf_told leaf.Ident s h = leaf_of (any_token text token_kind.Name) IsKey _ s (holds_name s) (λ t q. leaf_at t _ (λ is. q))
  leaf_told leaf.KeyIdent s h = leaf_of (any_token text token_kind.Key) IsKey _ s (holds_key s) (λ t q. leaf_at t _ (λ is. q))
  leaf_told leaf.ThisIdent s h = leaf_of (word_token text (codes "this")) IsKey _ s (holds_word (codes "this") s) (λ t q. leaf_at t _ (λ is. q))
  leaf_told leaf.IdentName s h = leaf_of (any_token text token_kind.Key) IsKey _ s (holds_key s) (λ t q. leaf_at t _ (λ is. q))
  leaf_told leaf.PrivateName s h = leaf_of (any_token text token_kind.PrivateName) IsPrivate _ s (holds_private s) (λ t q. leaf_at t _ (λ is. q))
  leaf_told leaf.Str s h = leaf_of (any_token text token_kind.Str) IsText _ s (holds_text s) (λ t q. leaf_at t _ (λ is. q))
  leaf_told leaf.Number s h = leaf_of (any_token text token_kind.Number) IsNumeral _ s (holds_numeral s) (λ t q. leaf_at t _ (λ is. q))
  leaf_told leaf.BigInt s h = leaf_of (any_token text token_kind.BigInt) IsBigInt _ s (holds_big s) (λ t q. leaf_at t _ (λ is. q))
  leaf_told leaf.Regex s h = leaf_of (regex_token text) IsRegex _ s (holds_regex s) (λ t q. leaf_at t _ (λ is. q))
  leaf_told (leaf.TplElement wanted) s h = leaf_of (template_part text wanted) IsPart _ s (holds_part wanted s) (λ part q. leaf_at part.token _ (λ is. q))
  leaf_told leaf.This s h = any_leaf (word_token text (codes "this")) _ s (λ t. leaf_at t kind.ThisExpr (λ is. refl))
  leaf_told leaf.Null s h = any_leaf (word_token text (codes "null")) _ s (λ t. leaf_at t kind.Null (λ is. refl))
  leaf_told leaf.True s h = any_leaf (word_token text (codes "true")) _ s (λ t. leaf_at t (kind.Bool true) (λ is. refl))
  leaf_told leaf.False s h = any_leaf (word_token text (codes "false")) _ s (λ t. leaf_at t (kind.Bool false) (λ is. refl))
  leaf_told leaf.Super s h = any_leaf (word_token text (codes "super")) _ s (λ t. leaf_at t kind.Super (λ is. refl))
  leaf_told leaf.Import s h = any_leaf (word_token text (codes "import")) _ s (λ t. leaf_at t kind.Import (λ is. refl))
  leaf_told leaf.Hashbang s h = not_true (sym h)
