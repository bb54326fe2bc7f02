-- Terminals and leaves over lists of tokens: the whole statement.
use Rattle.std.proofs.Common.{◌≡◌, ℕ, ◌+◌, ◌-◌, List, length, max, refl, ap, subst, arith, Some, Bool, true, false, codes}
use Rattle.ecma_lex.specs.Text.{piece}
use Rattle.ecma_lex.specs.Blanks.{skipped}
use Rattle.ecma_lex.specs.Tokens as lex
use Rattle.ecma_lex.specs.Strings.{str_lit, str_value}
use Rattle.ecma_lex.specs.Templates.{template_value, template_raw, end_length}
use Rattle.ecma_lex.specs.Regexes.{regex_body_end}
use Rattle.ecma_lex.specs.declared.tokens.Token.{Token}
use Rattle.ecma_number.specs.Numeral.{numeral_of}
use Rattle.ecma_kind.specs.declared.kind.Kind.TheVariants as kind
use Rattle.ecma_grammar.specs.declared.production.TokenKind.{TokenKind}
use Rattle.ecma_grammar.specs.declared.production.TokenKind.TheVariants as token_kind
use Rattle.ecma_grammar.specs.declared.production.Leaf.{Leaf}
use Rattle.ecma_grammar.specs.declared.production.Leaf.TheVariants as leaf
use Rattle.ecma_grammar.specs.Grammar.{Terminal, the_word, the_punct, any}
use Rattle.ecma_grammar.specs.Made.{at_token}
use Rattle.ecma_grammar.specs.trees.Parts.{from_to}
use Rattle.ecma_grammar.specs.Reading.{Position, Outcome, pure, then_on}
use Rattle.ecma_grammar.specs.Reads.{token, leaf_node, same_line_on, without_separators}
use Rattle.ecma_print_tokens.specs.Items.{Items, ends, it}
use Rattle.ecma_print_tokens.specs.Taking.{Took, took, refused, unsure, token_in, any_in, leaf_in, leaf_kind, new_line_in}
use Rattle.ecma_print_tokens.specs.Good.{Good}
use Rattle.ecma_print_tokens.specs.Lexing.{At, Agrees, IsLeaf, GoesOn, Lexes}
use Rattle.ecma_print_tokens.proofs.Found.{Reads, piece_of, piece_before, piece_whole}
use Rattle.ecma_print_tokens.proofs.Terminals.{here, here_end, key_sees, name_sees, word_sees, private_sees, string_sees, number_sees, big_sees, ReadsRegex, regex_sees, hashbang_fails, left_sees, right_sees}
use Rattle.ecma_print_tokens.proofs.Puncts.{punct_sees, end_sees, end_of_text_sees}
use Rattle.ecma_print_tokens.proofs.Templates.{ReadsPart, template_sees}

module _ (text : List ℕ) where
  -- what is made of what was read
  mapped : {A B : Type 0} (k : Took) (o : Outcome A) (f : A → B) (Q : List ℕ → A → Type 0) (R : List ℕ → B → Type 0) → Agrees text Good k o Q → ((w : List ℕ) (x : A) → Q w x → R w (f x)) → Agrees text Good k (then_on (λ x. pure (f x)) o) R
  mapped (took w ts) o f Q R a h = record { value = f a.value; state = a.state; is = ap (then_on (λ x. pure (f x))) a.is; holds = h w a.value a.holds; at = a.at }
  mapped refused o f Q R a h = record { failed = a.failed; is = ap (then_on (λ x. pure (f x))) a.is }
  mapped unsure o f Q R a h = tt

  weaker : {A : Type 0} (k : Took) (o : Outcome A) (Q R : List ℕ → A → Type 0) → Agrees text Good k o Q → ((w : List ℕ) (x : A) → Q w x → R w x) → Agrees text Good k o R
  weaker (took w ts) o Q R a h = record { value = a.value; state = a.state; is = a.is; holds = h w a.value a.holds; at = a.at }
  weaker refused o Q R a h = a
  weaker unsure o Q R a h = tt

  any_sees : (k : TokenKind) (ts : Items) (s : Position) → At text Good ts s → Agrees text Good (any_in k ts) (token text (any k) s) (λ w t. Unit {0})
  unfolding lex.name lex.key lex.priv_name str_lit lex.num lex.big lex.angle lex.end_of_text
  any_sees token_kind.Name ts s at = weaker _ _ (Reads text) _ (name_sees text ts s at) (λ w t q. tt)
  any_sees token_kind.Key ts s at = weaker _ _ (Reads text) _ (key_sees text ts s at) (λ w t q. tt)
  any_sees token_kind.PrivateName ts s at = weaker _ _ (Reads text) _ (private_sees text ts s at) (λ w t q. tt)
  any_sees token_kind.Str ts s at = weaker _ _ (Reads text) _ (string_sees text ts s at) (λ w t q. tt)
  any_sees token_kind.Number ts s at = weaker _ _ (Reads text) _ (number_sees text ts s at) (λ w t q. tt)
  any_sees token_kind.BigInt ts s at = weaker _ _ (Reads text) _ (big_sees text ts s at) (λ w t q. tt)
  any_sees (token_kind.Template wanted) ts s at = mapped _ _ (λ part. part.token) (ReadsPart text wanted.last) _ (template_sees text wanted ts s at) (λ w t q. tt)
  any_sees token_kind.LeftAngle ts s at = weaker _ _ (Reads text) _ (left_sees text ts s at) (λ w t q. tt)
  any_sees token_kind.RightAngle ts s at = weaker _ _ (Reads text) _ (right_sees text ts s at) (λ w t q. tt)
  any_sees token_kind.End ts s at = end_sees text ts s at
  any_sees token_kind.EndOfText ts s at = end_of_text_sees text ts s at

  tokens_see : (t : Terminal) (ts : Items) (s : Position) → At text Good ts s → Agrees text Good (token_in t ts) (token text t s) (λ w k. Unit {0})
  unfolding lex.word lex.punct
  tokens_see (the_word w) ts s at = weaker _ _ (Reads text) _ (word_sees text w ts s at) (λ w t q. tt)
  tokens_see (the_punct w) ts s at = weaker _ _ (Reads text) _ (punct_sees text w ts s at) (λ w t q. tt)
  tokens_see (any k) ts s at = any_sees k ts s at

  lines_see : (ts : Items) (s : Position) → At text Good ts s → GoesOn text Good (new_line_in ts) (same_line_on s (skipped text s.place)) s
  lines_see (ends g) s at = let k = (here_end text g s at).skips in rw k (go g.new_line)
    where
      go : (b : Bool) → GoesOn text Good b (same_line_on s (record { to = s.place + length g.blanks; new_line = b; closed = true })) s
      go true = record { failed = max s.failed (s.place + length g.blanks); is = refl }
      go false = refl
  lines_see (it g t us) s at = let k = (here text g t us s at).skips in rw k (go g.new_line)
    where
      go : (b : Bool) → GoesOn text Good b (same_line_on s (record { to = s.place + length g.blanks; new_line = b; closed = true })) s
      go true = record { failed = max s.failed (s.place + length g.blanks); is = refl }
      go false = refl

  -- leaves

  piece_behind : {w : List ℕ} {t : Token} → Reads text w t → (a : ℕ) → piece text (t.start + a) t.next ≡ piece w a (length w)
  piece_behind {w} {t} r a = let n = r.ends in rw n (piece_of text r a (length w) (omega arith))

  piece_front : {w : List ℕ} {t : Token} → Reads text w t → (e : ℕ) → piece text t.start (t.next - e) ≡ piece w 0 (length w - e)
  piece_front {w} {t} r e = let z : t.start + 0 ≡ t.start = omega arith in subst (λ x. piece text x (t.next - e) ≡ piece w 0 (length w - e)) z (piece_before text r 0 e)

  regex_is : (w : List ℕ) (t : Token) → ReadsRegex text w t → (let stop = regex_body_end text t.start in kind.Regex (piece text (t.start + 1) stop) (piece text (stop + 1) t.next)) ≡ leaf_kind leaf.Regex w
  regex_is w t r =
      let m = regex_body_end w 0 in
      let e = r.1 in
      let l = r.2 in
      let far : t.start + m + 1 ≡ t.start + (m + 1) = omega arith in
      rw (e, far, piece_of text r.0 1 m (omega arith), piece_behind r.0 (m + 1)) refl

  leaves_see : (l : Leaf) (ts : Items) (s : Position) → At text Good ts s → Agrees text Good (leaf_in l ts) (leaf_node text l s) (IsLeaf text Good l)
  unfolding lex.name lex.key lex.word lex.priv_name str_lit lex.num lex.big lex.regex lex.hashbang
  leaves_see leaf.Ident ts s at = mapped _ _ (λ t. at_token t (kind.Ident (piece text t.start t.next) 0 false)) (Reads text) _ (name_sees text ts s at) (λ w t r. (from_to t.start t.next, ap (λ x. at_token t (kind.Ident x 0 false)) (piece_whole text r)))
  leaves_see leaf.KeyIdent ts s at = mapped _ _ (λ t. at_token t (kind.Ident (piece text t.start t.next) 0 false)) (Reads text) _ (key_sees text ts s at) (λ w t r. (from_to t.start t.next, ap (λ x. at_token t (kind.Ident x 0 false)) (piece_whole text r)))
  leaves_see leaf.ThisIdent ts s at = mapped _ _ (λ t. at_token t (kind.Ident (piece text t.start t.next) 0 false)) (Reads text) _ (word_sees text (codes "this") ts s at) (λ w t r. (from_to t.start t.next, ap (λ x. at_token t (kind.Ident x 0 false)) (piece_whole text r)))
  leaves_see leaf.IdentName ts s at = mapped _ _ (λ t. at_token t (kind.IdentName (piece text t.start t.next))) (Reads text) _ (key_sees text ts s at) (λ w t r. (from_to t.start t.next, ap (λ x. at_token t (kind.IdentName x)) (piece_whole text r)))
  leaves_see leaf.PrivateName ts s at = mapped _ _ (λ t. at_token t (kind.PrivateName (piece text (t.start + 1) t.next))) (Reads text) _ (private_sees text ts s at) (λ w t r. (from_to t.start t.next, ap (λ x. at_token t (kind.PrivateName x)) (piece_behind r 1)))
  leaves_see leaf.Str ts s at =
      mapped _ _ (λ t. at_token t (kind.Str (str_value (piece text (t.start + 1) (t.next - 1))) (Some (piece text t.start t.next)))) (Reads text) _ (string_sees text ts s at)
      (λ w t r. (from_to t.start t.next, rw (piece_before text r 1 1, piece_whole text r) refl))
  leaves_see leaf.Number ts s at = mapped _ _ (λ t. at_token t (kind.Number (numeral_of (piece text t.start t.next)) (Some (piece text t.start t.next)))) (Reads text) _ (number_sees text ts s at) (λ w t r. (from_to t.start t.next, ap (λ x. at_token t (kind.Number (numeral_of x) (Some x))) (piece_whole text r)))
  leaves_see leaf.BigInt ts s at =
      mapped _ _ (λ t. at_token t (kind.BigInt (without_separators (piece text t.start (t.next - 1))) (Some (piece text t.start t.next)))) (Reads text) _ (big_sees text ts s at)
      (λ w t r. (from_to t.start t.next, rw (piece_front r 1, piece_whole text r) refl))
  leaves_see leaf.Regex ts s at =
      mapped _ _ (λ t. (let stop = regex_body_end text t.start in at_token t (kind.Regex (piece text (t.start + 1) stop) (piece text (stop + 1) t.next)))) (ReadsRegex text) _ (regex_sees text ts s at)
      (λ w t r. (from_to t.start t.next, ap (at_token t) (regex_is w t r)))
  leaves_see (leaf.TplElement wanted) ts s at =
      mapped _ _ (λ part. (let token = part.token in let inside = piece text (token.start + 1) (token.next - end_length part.last) in at_token token (kind.TplElement (template_raw inside) (template_value inside) part.last))) (ReadsPart text wanted.last) _ (template_sees text wanted ts s at)
      (λ w part r. (let token = part.token in (from_to token.start token.next, rw (r.ends_so, piece_before text r.reads 1 (end_length wanted.last)) refl)))
  leaves_see leaf.This ts s at = mapped _ _ (λ t. at_token t kind.ThisExpr) (Reads text) _ (word_sees text (codes "this") ts s at) (λ w t r. (from_to t.start t.next, refl))
  leaves_see leaf.Null ts s at = mapped _ _ (λ t. at_token t kind.Null) (Reads text) _ (word_sees text (codes "null") ts s at) (λ w t r. (from_to t.start t.next, refl))
  leaves_see leaf.True ts s at = mapped _ _ (λ t. at_token t (kind.Bool true)) (Reads text) _ (word_sees text (codes "true") ts s at) (λ w t r. (from_to t.start t.next, refl))
  leaves_see leaf.False ts s at = mapped _ _ (λ t. at_token t (kind.Bool false)) (Reads text) _ (word_sees text (codes "false") ts s at) (λ w t r. (from_to t.start t.next, refl))
  leaves_see leaf.Super ts s at = mapped _ _ (λ t. at_token t kind.Super) (Reads text) _ (word_sees text (codes "super") ts s at) (λ w t r. (from_to t.start t.next, refl))
  leaves_see leaf.Import ts s at = mapped _ _ (λ t. at_token t kind.Import) (Reads text) _ (word_sees text (codes "import") ts s at) (λ w t r. (from_to t.start t.next, refl))
  leaves_see leaf.Hashbang ts s at = let f = hashbang_fails text ts s at in record { failed = f.failed; is = ap (then_on (λ t. pure (at_token t (kind.IdentName (piece text 2 t.next))))) f.is }

-- the terminals read the text of a list of tokens as its tokens
pub lexes : (text : List ℕ) → Lexes text Good
lexes text = record { tokens = tokens_see text; leaves = leaves_see text; lines = lines_see text }
