-- Each terminal goes on, and all but the ends by a byte at least.
use Rattle.std.proofs.Common.{◌≡◌, ℕ, ◌+◌, ◌≤◌, Bool, true, false, cond, List, [], ◌∷◌, length, refl, ap, arith, max, nat_lt, nat_eq, Option, Some, None, Result, Ok, Err, codes}
use Rattle.std.specs.Str.{IsUtf8}
use Rattle.ecma_lex.specs.declared.tokens.Token.{Token}
use Rattle.ecma_lex.specs.declared.tokens.NoToken.{NoToken}
use Rattle.ecma_lex.specs.declared.blanks.Skipped.{Skipped}
use Rattle.ecma_lex.specs.declared.templates.TemplateText.{TemplateText}
use Rattle.ecma_lex.specs.Parts.{Part}
use Rattle.ecma_lex.specs.Blanks.{skipped}
use Rattle.ecma_lex.specs.Tokens as lex
use Rattle.ecma_lex.specs.Tokens.{found, term, text_end, or_nothing, may_end}
use Rattle.ecma_lex.specs.Strings as strings
use Rattle.ecma_lex.specs.Templates.{template_text, found_template_text, template_text_end}
use Rattle.ecma_tree.specs.declared.node.Node.{Node}
use Rattle.ecma_grammar.specs.declared.production.TokenKind.{TokenKind}
use Rattle.ecma_grammar.specs.declared.production.TokenKind.TheVariants as kind
use Rattle.ecma_grammar.specs.declared.production.TemplatePart.{TemplatePart}
use Rattle.ecma_grammar.specs.declared.production.Leaf.{Leaf}
use Rattle.ecma_grammar.specs.declared.production.Leaf.TheVariants as leaf
use Rattle.ecma_grammar.specs.Grammar.{Terminal, the_word, the_punct, any}
use Rattle.ecma_grammar.specs.Reading.{Position, read, fails, Reading, ◌>>=◌, pure, terminal_on}
use Rattle.ecma_grammar.specs.Reads.{any_token, token, word_token, regex_token, hashbang_token, template_part, part_on, leaf_node, kept_leaf, same_line_on}
use Rattle.ecma_grammar_laws.specs.Takes.{token_takes, terminal_takes}
use Rattle.ecma_grammar_laws.proofs.Ends.{Ends, skipped_within, ends_key, ends_name, ends_word, ends_priv_name, ends_angle, ends_hashbang, ends_regex, ends_str, ends_num, ends_big, ends_punct, ends_less, template_ends}
use Rattle.ecma_grammar_laws.proofs.Moves.{least, Goes, Moves, goes_read, goes_fails, goes_less, goes_then}

module _ (text : List ℕ) (u : IsUtf8 text) where
  goes_token : (i k : ℕ) (s : Position) (t : Token) → i + k ≤ t.next → t.next ≤ length text → Goes text i k (terminal_on s (Ok t))
  goes_token i k s t a b = goes_read text i k t (record { place = t.next; failed = s.failed }) a b

  goes_none : (i k : ℕ) (s : Position) (n : NoToken) → Goes text i k (terminal_on s (Err n))
  goes_none i k s n = goes_fails text i k _

  goes_found : (i k : ℕ) (s : Position) (before : Skipped) (o : Option ℕ) → ((j : ℕ) → o ≡ Some j → (i + k ≤ j) × (j ≤ length text)) → Goes text i k (terminal_on s (found before o))
  goes_found i k s before None g = goes_none i k s _
  goes_found i k s before (Some j) g = let w = g j refl in goes_token i k s (record { start = before.to; next = j; new_line = before.new_line }) w.0 w.1

  -- a terminal that finds its token by a part
  moves_term : (k : ℕ) (p : Part) → Ends text u k p → Moves text k (λ s. terminal_on s (term p text s.place))
  moves_term k p e = record { on = λ s i. at s (skipped text s.place) (skipped_within text u s.place i) }
    where
      at : (s : Position) (before : Skipped) → (s.place ≤ before.to) × (before.to ≤ length text) → Goes text s.place k (terminal_on s (found before (cond before.closed (p text before.to) None)))
      at s before w = go before.closed
        where
          go : (b : Bool) → Goes text s.place k (terminal_on s (found before (cond b (p text before.to) None)))
          go true = goes_found s.place k s before (p text before.to) (λ j h. (let x = e.on before.to j w.1 h in let a = w.0 in let c = x.0 in (omega arith, x.1)))
          go false = goes_none s.place k s _

  moves_punct : (p : List ℕ) → nat_lt 0 (length p) ≡ true → Moves text 1 (λ s. terminal_on s (lex.punct text s.place p))
  unfolding lex.punct
  moves_punct p l = moves_term 1 _ (ends_less text u 1 (grind arith) (ends_punct text u p))

  moves_no_punct : (p : List ℕ) → Moves text 0 (λ s. terminal_on s (lex.punct text s.place p))
  unfolding lex.punct
  moves_no_punct p = moves_term 0 _ (ends_less text u 0 (omega arith) (ends_punct text u p))

  ends_text : Ends text u 0 text_end
  ends_text = record { on = λ i j a h. go i j (nat_eq i (length text)) a h }
    where
      go : (i j : ℕ) (b : Bool) → i ≤ length text → cond b (Some i) None ≡ Some j → (i + 0 ≤ j) × (j ≤ length text)
      go i j true a h = let e : i ≡ j = cc in (omega arith, omega arith)
      go i j false a h = cc

  moves_end_of_text : Moves text 0 (λ s. terminal_on s (lex.end_of_text text s.place))
  unfolding lex.end_of_text
  moves_end_of_text = moves_term 0 _ ends_text

  goes_or_nothing : (s : Position) (before : Skipped) (r : Result Token NoToken) → s.place ≤ length text → Goes text s.place 0 (terminal_on s r) → Goes text s.place 0 (terminal_on s (or_nothing text s.place before r))
  goes_or_nothing s before (Ok t) i g = g
  goes_or_nothing s before (Err n) i g = go (may_end text before)
    where
      go : (b : Bool) → Goes text s.place 0 (terminal_on s (cond b (Ok (record { start = s.place; next = s.place; new_line = before.new_line })) (Err n)))
      go true = goes_token s.place 0 s (record { start = s.place; next = s.place; new_line = before.new_line }) (omega arith) i
      go false = goes_none s.place 0 s n

  moves_end : Moves text 0 (λ s. terminal_on s (lex.end text s.place))
  unfolding lex.end
  moves_end = record { on = λ s i. goes_or_nothing s (skipped text s.place) (lex.punct text s.place (codes ";")) i (goes_less text s.place 1 0 _ (omega arith) ((moves_punct (codes ";") refl).on s i)) }

  goes_part : (k : ℕ) (s : Position) (last : Bool) (r : Result TemplateText NoToken) → ((part : TemplateText) → r ≡ Ok part → (s.place + k ≤ part.token.next) × (part.token.next ≤ length text)) → Goes text s.place k (part_on s last r)
  goes_part k s true (Ok part) g = let w = g part refl in go part.last w
    where
      go : (b : Bool) → (s.place + k ≤ part.token.next) × (part.token.next ≤ length text) → Goes text s.place k (cond b (read part (record { place = part.token.next; failed = s.failed })) (fails s.failed))
      go true w = goes_read text s.place k part (record { place = part.token.next; failed = s.failed }) w.0 w.1
      go false w = goes_fails text s.place k s.failed
  goes_part k s false (Ok part) g = let w = g part refl in go part.last w
    where
      go : (b : Bool) → (s.place + k ≤ part.token.next) × (part.token.next ≤ length text) → Goes text s.place k (cond b (fails s.failed) (read part (record { place = part.token.next; failed = s.failed })))
      go true w = goes_fails text s.place k s.failed
      go false w = goes_read text s.place k part (record { place = part.token.next; failed = s.failed }) w.0 w.1
  goes_part k s last (Err n) g = goes_fails text s.place k _

  template_text_ends : (i : ℕ) (first tagged : Bool) (part : TemplateText) → i ≤ length text → template_text text i first tagged ≡ Ok part → (i + 1 ≤ part.token.next) × (part.token.next ≤ length text)
  unfolding template_text
  template_text_ends i first tagged part a h = at (skipped text i) (skipped_within text u i a) h
    where
      at : (before : Skipped) → (i ≤ before.to) × (before.to ≤ length text) → found_template_text before (cond before.closed (template_text_end first tagged text before.to) None) ≡ Ok part → (i + 1 ≤ part.token.next) × (part.token.next ≤ length text)
      at before w h = closed before.closed h
        where
          there : (o : Option _) → template_text_end first tagged text before.to ≡ o → found_template_text before o ≡ Ok part → (i + 1 ≤ part.token.next) × (part.token.next ≤ length text)
          there None e m = cc
          there (Some f) e m =
              let x = template_ends text u first tagged before.to f e in
              let whole : part ≡ record { token = record { start = before.to; next = f.next; new_line = before.new_line }; last = f.last } = cc in
              let same = ap (λ p. p.token.next) whole in
              let b = x.0 in
              let c = w.0 in
              (omega arith, omega (arith, x.1))

          closed : (b : Bool) → found_template_text before (cond b (template_text_end first tagged text before.to) None) ≡ Ok part → (i + 1 ≤ part.token.next) × (part.token.next ≤ length text)
          closed true m = there (template_text_end first tagged text before.to) refl m
          closed false m = cc

  moves_template_part : (wanted : TemplatePart) → Moves text 1 (template_part text wanted)
  moves_template_part wanted = record { on = λ s i. goes_part 1 s wanted.last (template_text text s.place wanted.first wanted.tagged) (λ part h. template_text_ends s.place wanted.first wanted.tagged part i h) }

  moves_pure : {A : Type 0} (x : A) → Moves text 0 (pure x)
  moves_pure x = record { on = λ s i. goes_read text s.place 0 x s (omega arith) i }

  -- a token, and what is made of it
  moves_then_pure : {A B : Type 0} (p : Reading A) (f : A → B) → Moves text 1 p → Moves text 1 (p >>= λ x. pure (f x))
  moves_then_pure p f m = record { on = λ s i. goes_then text s.place 1 0 (λ x. pure (f x)) (p s) (m.on s i) (λ x. moves_pure (f x)) }

  moves_word : (w : List ℕ) → Moves text 1 (word_token text w)
  unfolding lex.word
  moves_word w = moves_term 1 _ (ends_word text u w)

  moves_any : (k : TokenKind) → Moves text (least (token_takes k)) (any_token text k)
  unfolding lex.name lex.key lex.priv_name strings.str_lit lex.num lex.big lex.angle
  moves_any kind.Name = moves_term 1 _ (ends_name text u)
  moves_any kind.Key = moves_term 1 _ (ends_key text u)
  moves_any kind.PrivateName = moves_term 1 _ (ends_priv_name text u)
  moves_any kind.Str = moves_term 1 _ (ends_str text u)
  moves_any kind.Number = moves_term 1 _ (ends_num text u)
  moves_any kind.BigInt = moves_term 1 _ (ends_big text u)
  moves_any (kind.Template wanted) = moves_then_pure (template_part text wanted) (λ part. part.token) (moves_template_part wanted)
  moves_any kind.LeftAngle = moves_term 1 _ (ends_angle text u 60)
  moves_any kind.RightAngle = moves_term 1 _ (ends_angle text u 62)
  moves_any kind.End = moves_end
  moves_any kind.EndOfText = moves_end_of_text

  pub moves_token : (t : Terminal) → Moves text (least (terminal_takes t)) (token text t)
  moves_token (the_word w) = moves_word w
  moves_token (the_punct w) = at (nat_lt 0 (length w)) refl
    where
      at : (b : Bool) → nat_lt 0 (length w) ≡ b → Moves text (least b) (token text (the_punct w))
      at true e = moves_punct w e
      at false e = moves_no_punct w
  moves_token (any k) = moves_any k

  moves_regex : Moves text 1 (regex_token text)
  unfolding lex.regex
  moves_regex = moves_term 1 _ (ends_regex text u)

  moves_hashbang : Moves text 1 (hashbang_token text)
  unfolding lex.hashbang
  moves_hashbang = moves_term 1 _ (ends_hashbang text u)

  moves_leaf_node : (l : Leaf) → Moves text 1 (leaf_node text l)
  moves_leaf_node leaf.Ident = moves_then_pure _ _ (moves_any kind.Name)
  moves_leaf_node leaf.KeyIdent = moves_then_pure _ _ (moves_any kind.Key)
  moves_leaf_node leaf.ThisIdent = moves_then_pure _ _ (moves_word _)
  moves_leaf_node leaf.IdentName = moves_then_pure _ _ (moves_any kind.Key)
  moves_leaf_node leaf.PrivateName = moves_then_pure _ _ (moves_any kind.PrivateName)
  moves_leaf_node leaf.Str = moves_then_pure _ _ (moves_any kind.Str)
  moves_leaf_node leaf.Number = moves_then_pure _ _ (moves_any kind.Number)
  moves_leaf_node leaf.BigInt = moves_then_pure _ _ (moves_any kind.BigInt)
  moves_leaf_node leaf.Regex = moves_then_pure _ _ moves_regex
  moves_leaf_node (leaf.TplElement wanted) = moves_then_pure _ _ (moves_template_part wanted)
  moves_leaf_node leaf.This = moves_then_pure _ _ (moves_word _)
  moves_leaf_node leaf.Null = moves_then_pure _ _ (moves_word _)
  moves_leaf_node leaf.True = moves_then_pure _ _ (moves_word _)
  moves_leaf_node leaf.False = moves_then_pure _ _ (moves_word _)
  moves_leaf_node leaf.Super = moves_then_pure _ _ (moves_word _)
  moves_leaf_node leaf.Import = moves_then_pure _ _ (moves_word _)
  moves_leaf_node leaf.Hashbang = moves_then_pure _ _ moves_hashbang

  pub moves_leaf : (l : Leaf) → Moves text 1 (kept_leaf text l)
  moves_leaf l = moves_then_pure (leaf_node text l) (λ x. x ∷ []) (moves_leaf_node l)

  pub goes_same_line : (s : Position) (before : Skipped) → s.place ≤ length text → Goes text {A = List Node} s.place 0 (same_line_on s before)
  goes_same_line s before i = go before.new_line
    where
      go : (b : Bool) → Goes text {A = List Node} s.place 0 (cond b (fails (max s.failed before.to)) (read [] s))
      go true = goes_fails text s.place 0 (max s.failed before.to)
      go false = goes_read text s.place 0 [] s (omega arith) i
