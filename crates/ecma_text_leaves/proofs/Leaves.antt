-- What is read has a property, wherever it is read; and the leaves that are read are spelled.
use Rattle.std.proofs.Common.{◌≡◌, ℕ, ◌+◌, ◌-◌, ◌≤◌, Bool, true, false, cond, List, [], length, max, refl, subst, arith, Option, Some, None, codes}
use Rattle.std.specs.Str.{IsUtf8}
use Rattle.ecma_lex.specs.declared.tokens.Token.{Token}
use Rattle.ecma_lex.specs.declared.blanks.Skipped.{Skipped}
use Rattle.ecma_lex.specs.Text.{piece}
use Rattle.ecma_lex.specs.Blanks.{skipped}
use Rattle.ecma_lex.specs.Keys.{key_end, name_end, word_end}
use Rattle.ecma_lex.specs.Numerals.{num_end}
use Rattle.ecma_lex.specs.Strings.{str_end, str_value}
use Rattle.ecma_lex.specs.Strings as strings
use Rattle.ecma_lex.specs.Tokens as lex
use Rattle.ecma_lex.specs.Tokens.{term, found}
use Rattle.ecma_lex.proofs.Suffixes.{piece_inside}
use Rattle.ecma_lex.proofs.Spelled.{key_spelled, key_alone, name_key, word_key}
use Rattle.ecma_lex.proofs.NumeralReading.{num_spelled, num_alone}
use Rattle.ecma_lex.proofs.Quoted.{string_spelled, string_standing, string_alone, string_long}
use Rattle.ecma_kind.specs.declared.kind.Kind.{Kind}
use Rattle.ecma_kind.specs.declared.kind.Kind.TheVariants as kind
use Rattle.ecma_tree.specs.declared.node.Node.{Node}
use Rattle.ecma_grammar.specs.declared.production.Leaf.{Leaf}
use Rattle.ecma_grammar.specs.declared.production.Leaf.TheVariants as leaf
use Rattle.ecma_grammar.specs.declared.production.TokenKind.TheVariants as token_kind
use Rattle.ecma_grammar.specs.Reading.{Position, Outcome, read, fails, too_deep, Reading, then_on, ◌>>=◌, pure, terminal_on}
use Rattle.ecma_grammar.specs.Reads.{leaf_node, any_token, word_token, template_part, regex_token}
use Rattle.ecma_grammar.specs.Made.{at_token}
use Rattle.ecma_text_leaves.specs.Everywhere.{Everywhere, none}
use Rattle.ecma_text_leaves.specs.Spelling.{IsToken, IsString, IsSpelled}
use Rattle.ecma_text_leaves.proofs.Trees.{good_node}

-- an outcome that is a value has Q
abbrev pub Holds : {A : Type 0} → Outcome A → (A → Type 0) → Type 0
Holds {A} o Q = (t : Position) (x : A) → o ≡ read x t → Q x

pub holds_read : {A : Type 0} (Q : A → Type 0) (x : A) (s : Position) → Q x → Holds (read x s) Q
holds_read Q x s q t y h = let e : x ≡ y = cc in subst Q e q

pub holds_fails : {A : Type 0} (Q : A → Type 0) (n : ℕ) → Holds (fails n) Q
holds_fails Q n t x h = cc

pub holds_deep : {A : Type 0} (Q : A → Type 0) (n : ℕ) → Holds (too_deep n) Q
holds_deep Q n t x h = cc

pub holds_then : {A B : Type 0} (f : A → Reading B) (Q : A → Type 0) (R : B → Type 0) (o : Outcome A) → Holds o Q → ((x : A) (s : Position) → Q x → Holds (f x s) R) → Holds (then_on f o) R
holds_then f Q R (read x u) q h = h x u (q u x refl)
holds_then f Q R (fails n) q h = holds_fails R n
holds_then f Q R (too_deep n) q h = holds_deep R n

abbrev pub Spelled : Node → Type 0
Spelled = Everywhere IsSpelled

module _ (text : List ℕ) (u : IsUtf8 text) where
  if_closed : (find : List ℕ → ℕ → Option ℕ) (b : Bool) (i j : ℕ) → cond b (find text i) None ≡ Some j → find text i ≡ Some j
  if_closed find true i j h = h
  if_closed find false i j h = cc

  holds_found : (Q : Token → Type 0) (s : Position) (before : Skipped) (o : Option ℕ) → ((j : ℕ) → o ≡ Some j → Q (record { start = before.to; next = j; new_line = before.new_line })) → Holds (terminal_on s (found before o)) Q
  holds_found Q s before None g = holds_fails Q (max s.failed before.to)
  holds_found Q s before (Some j) g = holds_read Q (record { start = before.to; next = j; new_line = before.new_line }) (record { place = j; failed = s.failed }) (g j refl)

  holds_term : (find : List ℕ → ℕ → Option ℕ) (Q : Token → Type 0) → ((i j : ℕ) (b : Bool) → find text i ≡ Some j → Q (record { start = i; next = j; new_line = b })) → (s : Position) → Holds (terminal_on s (term find text s.place)) Q
  holds_term find Q g s =
      let before = skipped text s.place in
      holds_found Q s before (cond before.closed (find text before.to) None) (λ j h. g before.to j before.new_line (if_closed find before.closed before.to j h))

  abbrev IsKeyToken : Token → Type 0
  IsKeyToken t = IsToken key_end (piece text t.start t.next)

  key_token : (i j : ℕ) (b : Bool) → key_end text i ≡ Some j → IsKeyToken (record { start = i; next = j; new_line = b })
  key_token i j b h = let s = key_spelled text i j u h in record { utf8 = s.0; whole = key_alone (piece text i j) s }

  holds_key : (s : Position) → Holds (any_token text token_kind.Key s) IsKeyToken
  unfolding lex.key
  holds_key s = holds_term key_end IsKeyToken key_token s

  holds_name : (s : Position) → Holds (any_token text token_kind.Name s) IsKeyToken
  unfolding lex.name
  holds_name s = holds_term name_end IsKeyToken (λ i j b h. key_token i j b (name_key text i j h)) s

  holds_word : (w : List ℕ) (s : Position) → Holds (word_token text w s) IsKeyToken
  unfolding lex.word
  holds_word w s = holds_term (word_end w) IsKeyToken (λ i j b h. key_token i j b (word_key text w i j h)) s

  abbrev IsNumberToken : Token → Type 0
  IsNumberToken t = IsToken num_end (piece text t.start t.next)

  holds_number : (s : Position) → Holds (any_token text token_kind.Number s) IsNumberToken
  unfolding lex.num
  holds_number s = holds_term num_end IsNumberToken (λ i j b h. (let s = num_spelled text i j u h in record { utf8 = s.0; whole = num_alone (piece text i j) s })) s

  abbrev IsStringToken : Token → Type 0
  IsStringToken t = IsString (str_value (piece text (t.start + 1) (t.next - 1))) (piece text t.start t.next)

  string_token : (i j : ℕ) (b : Bool) → str_end text i ≡ Some j → IsStringToken (record { start = i; next = j; new_line = b })
  string_token i j b h =
      let s = string_spelled text i j u h in
      let w = piece text i j in
      let long : 2 ≤ length w = string_long w s in
      let at = string_standing text i j u h in
      let e = at.ends in
      let k : j - 1 ≡ i + (length w - 1) = omega arith in
      record { token = record { utf8 = s.0; whole = string_alone w s }; value_is = rw (k, piece_inside text i 1 (length w - 1) w at.rest at.stands (omega arith) (omega arith)) refl }

  holds_string : (s : Position) → Holds (any_token text token_kind.Str s) IsStringToken
  unfolding strings.str_lit
  holds_string s = holds_term str_end IsStringToken string_token s

  -- a leaf of a kind that is spelled
  leaf_at : (t : Token) (k : Kind) → IsSpelled k → Spelled (at_token t k)
  leaf_at t k h = good_node IsSpelled (record { lo = t.start; hi = t.next }) k [] h none

  leaf_of : {A : Type 0} (p : Reading A) (Q : A → Type 0) (f : A → Node) (s : Position) → Holds (p s) Q → ((x : A) → Q x → Spelled (f x)) → Holds ((p >>= λ x. pure (f x)) s) Spelled
  leaf_of p Q f s h g = holds_then (λ x. pure (f x)) Q Spelled (p s) h (λ x t q. holds_read Spelled (f x) t (g x q))

  -- nothing is asked of a token
  any_leaf : {A : Type 0} (p : Reading A) (f : A → Node) (s : Position) → ((x : A) → Spelled (f x)) → Holds ((p >>= λ x. pure (f x)) s) Spelled
  any_leaf p f s g = leaf_of p (λ x. Unit {0}) f s (λ t x e. tt) (λ x q. g x)

  abbrev pub is_hashbang : Leaf → Bool
  is_hashbang leaf.Hashbang = true
  is_hashbang _ = false

  pub leaf_spelled : (l : Leaf) (s : Position) → is_hashbang l ≡ false → Holds (leaf_node text l s) Spelled
  leaf_spelled leaf.Ident s h = leaf_of (any_token text token_kind.Name) IsKeyToken _ s (holds_name s) (λ t q. leaf_at t _ (q, refl))
  leaf_spelled leaf.KeyIdent s h = leaf_of (any_token text token_kind.Key) IsKeyToken _ s (holds_key s) (λ t q. leaf_at t _ (q, refl))
  leaf_spelled leaf.ThisIdent s h = leaf_of (word_token text (codes "this")) IsKeyToken _ s (holds_word (codes "this") s) (λ t q. leaf_at t _ (q, refl))
  leaf_spelled leaf.IdentName s h = leaf_of (any_token text token_kind.Key) IsKeyToken _ s (holds_key s) (λ t q. leaf_at t _ q)
  leaf_spelled leaf.PrivateName s h = any_leaf (any_token text token_kind.PrivateName) _ s (λ t. leaf_at t _ tt)
  leaf_spelled leaf.Str s h = leaf_of (any_token text token_kind.Str) IsStringToken _ s (holds_string s) (λ t q. leaf_at t _ q)
  leaf_spelled leaf.Number s h = leaf_of (any_token text token_kind.Number) IsNumberToken _ s (holds_number s) (λ t q. leaf_at t _ (q, refl))
  leaf_spelled leaf.BigInt s h = any_leaf (any_token text token_kind.BigInt) _ s (λ t. leaf_at t _ tt)
  leaf_spelled leaf.Regex s h = any_leaf (regex_token text) _ s (λ t. leaf_at t _ tt)
  leaf_spelled (leaf.TplElement wanted) s h = any_leaf (template_part text wanted) _ s (λ part. leaf_at part.token _ tt)
  leaf_spelled leaf.This s h = any_leaf (word_token text (codes "this")) _ s (λ t. leaf_at t kind.ThisExpr tt)
  leaf_spelled leaf.Null s h = any_leaf (word_token text (codes "null")) _ s (λ t. leaf_at t kind.Null tt)
  leaf_spelled leaf.True s h = any_leaf (word_token text (codes "true")) _ s (λ t. leaf_at t (kind.Bool true) tt)
  leaf_spelled leaf.False s h = any_leaf (word_token text (codes "false")) _ s (λ t. leaf_at t (kind.Bool false) tt)
  leaf_spelled leaf.Super s h = any_leaf (word_token text (codes "super")) _ s (λ t. leaf_at t kind.Super tt)
  leaf_spelled leaf.Import s h = any_leaf (word_token text (codes "import")) _ s (λ t. leaf_at t kind.Import tt)
  leaf_spelled leaf.Hashbang s h = cc
