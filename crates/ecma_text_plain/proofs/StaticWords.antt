-- A key of which the word `static` stands ahead is that word.
use Rattle.std.proofs.Common.{◌≡◌, ◌∙◌, ℕ, Bool, true, false, cond, List, [], ◌∷◌, ap, bytes_eq, codes, refl, subst, sym, Option, Some, None}
use Rattle.std.specs.Str.{IsUtf8}
use Rattle.std.proofs.lemmas.Slice.Eq.{bytes_eq-Decides}
use Rattle.ecma_lex.specs.declared.blanks.Skipped.{Skipped}
use Rattle.ecma_lex.specs.declared.tokens.Token.{Token}
use Rattle.ecma_lex.specs.Blanks.{skipped}
use Rattle.ecma_lex.specs.Keys.{key_end, word_end}
use Rattle.ecma_lex.specs.Parts.{if_text}
use Rattle.ecma_lex.specs.Text.{piece}
use Rattle.ecma_lex.specs.Tokens as lex
use Rattle.ecma_lex.specs.Tokens.{found, term}
use Rattle.ecma_kind.specs.declared.kind.Kind.TheVariants as kind
use Rattle.ecma_tree.specs.declared.node.Node.{Node}
use Rattle.ecma_grammar.specs.declared.production.Leaf.TheVariants as leaf
use Rattle.ecma_grammar.specs.declared.production.TokenKind.TheVariants as token_kind
use Rattle.ecma_grammar.specs.trees.Parts.{from_to}
use Rattle.ecma_grammar.specs.Grammar as grammar
use Rattle.ecma_grammar.specs.Grammar.{Grammar, the_word}
use Rattle.ecma_grammar.specs.Made.{at_token}
use Rattle.ecma_grammar.specs.Reading.{Position, Outcome, ahead_on, fails, followed_on, pure, read, terminal_on, then_on, too_deep, with_front}
use Rattle.ecma_grammar.specs.Reads.{any_token, kept_leaf, source, token}
use Rattle.ecma_text_leaves.specs.Everywhere.{none}
use Rattle.ecma_text_leaves.proofs.Leaves.{Holds, holds_deep, holds_fails, holds_read, holds_then}
use Rattle.ecma_text_leaves.proofs.Trees.{good_node, kind_made}
use Rattle.ecma_raw_roles.proofs.Walks.{not_true}
use Rattle.ecma_text_plain.proofs.PlainKinds.{IsPlain}
use Rattle.ecma_text_plain.proofs.Bare.{piece_utf8}
use Rattle.ecma_text_plain.proofs.Given.{AllMeet, Meets, asks_static, keeps_key, static}

-- the grammars that ask for that word and keep that key

pub asks_word : (x : Grammar) → asks_static x ≡ true → x ≡ grammar.ahead (grammar.take (the_word (codes "static")))
asks_word (grammar.ahead (grammar.take (the_word w))) h = let e : w ≡ codes "static" = (bytes_eq-Decides w (codes "static")).0 h in ap (λ v. grammar.ahead (grammar.take (the_word v))) e
asks_word _ h = not_true h

pub keeps_name : (y : Grammar) → keeps_key y ≡ true → y ≡ grammar.keep leaf.IdentName
keeps_name (grammar.keep leaf.IdentName) h = refl
keeps_name _ h = not_true h

module _ (text : List ℕ) where
  passes : (p : List ℕ → Bool) (o : Option ℕ) (i j : ℕ) → if_text p text i o ≡ Some j → (o ≡ Some j) × (p (piece text i j) ≡ true)
  passes p None i j h = cc
  passes p (Some n) i j h = go (p (piece text i n)) refl h
    where
      go : (b : Bool) → p (piece text i n) ≡ b → cond b (Some n) None ≡ Some j → (◌≡◌ {A = Option ℕ} (Some n) (Some j)) × (p (piece text i j) ≡ true)
      go true e k = let m : n ≡ j = cc in (k, subst (λ z. p (piece text i z) ≡ true) m e)
      go false e k = cc

  word_text : (w : List ℕ) (i j : ℕ) → word_end w text i ≡ Some j → (key_end text i ≡ Some j) × (bytes_eq (piece text i j) w ≡ true)
  unfolding word_end
  word_text w i j h = passes (λ word. bytes_eq word w) (key_end text i) i j h

  -- both end at one place
  word_key : (w : List ℕ) (b : Bool) (i j : ℕ) → cond b (word_end w text i) None ≡ Some j → (cond b (key_end text i) None ≡ Some j) × (bytes_eq (piece text i j) w ≡ true)
  word_key w true i j h = word_text w i j h
  word_key w false i j h = cc

  ahead_word : (s : Position) (before : Skipped) (o : Option ℕ) (xs : List Node) (u : Position) → ahead_on s (then_on (λ k. pure []) (terminal_on s (found before o))) ≡ read xs u → (xs ≡ []) × (u.place ≡ s.place) × ((j : ℕ) × (o ≡ Some j))
  ahead_word s before None xs u h = cc
  ahead_word s before (Some j) xs u h =
      let e : xs ≡ [] = cc in
      let f : record { place = s.place; failed = s.failed } ≡ u = cc in
      (e, sym (ap (λ (p : Position). p.place) f), (j, refl))

  abbrev IsWord : List ℕ → Token → Type 0
  IsWord w k = source text k ≡ w

  found_word : (w : List ℕ) (u : Position) (before : Skipped) (o : Option ℕ) (j : ℕ) → o ≡ Some j → piece text before.to j ≡ w → Holds (terminal_on u (found before o)) (IsWord w)
  found_word w u before None j e same = cc
  found_word w u before (Some i) j e same =
      let is : i ≡ j = cc in
      holds_read (IsWord w) (record { start = before.to; next = i; new_line = before.new_line }) (record { place = i; failed = u.failed }) (subst (λ z. piece text before.to z ≡ w) (sym is) same)

  key_word : (w : List ℕ) (s u : Position) (xs : List Node) → ahead_on s (then_on (λ k. pure []) (token text (the_word w) s)) ≡ read xs u → (xs ≡ []) × Holds (any_token text token_kind.Key u) (IsWord w)
  unfolding lex.word lex.key
  key_word w s u xs h =
      let before = skipped text s.place in
      let a = ahead_word s before (cond before.closed (word_end w text before.to) None) xs u h in
      let j = a.2.0 in
      let k = word_key w before.closed before.to j a.2.1 in
      let there = found_word w u before (cond before.closed (key_end text before.to) None) j k.0 ((bytes_eq-Decides (piece text before.to j) w).0 k.1) in
      (a.0, subst (λ p. Holds (terminal_on u (term key_end text p)) (IsWord w)) (sym a.1) there)

  module _ (utf8 : IsUtf8 text) (assignments : Bool) where
    abbrev IsStaticName : List Node → Type 0
    IsStaticName = AllMeet assignments (static ∷ [])

    name_met : (k : Token) → IsWord (codes "static") k → Meets assignments static (at_token k (kind.IdentName (source text k)))
    name_met k e = (
      good_node (IsPlain assignments) (from_to k.start k.next) (kind.IdentName (source text k)) [] (piece_utf8 text utf8 k.start k.next, refl) none,
      kind_made (from_to k.start k.next) (kind.IdentName (source text k)) [] ∙ ap kind.IdentName e,
    )

    name_kept : (u : Position) → Holds (any_token text token_kind.Key u) (IsWord (codes "static")) → Holds (kept_leaf text leaf.IdentName u) IsStaticName
    name_kept u h =
        holds_then _ (Meets assignments static) IsStaticName _
        (holds_then _ (IsWord (codes "static")) (Meets assignments static) (any_token text token_kind.Key u) h (λ k t e. holds_read (Meets assignments static) _ t (name_met k e)))
        (λ x t m. holds_read IsStaticName (x ∷ []) t (m, tt))

    pub static_read : (s : Position) → Holds (followed_on (kept_leaf text leaf.IdentName) (ahead_on s (then_on (λ k. pure []) (token text (the_word (codes "static")) s)))) IsStaticName
    static_read s = go (ahead_on s (then_on (λ k. pure []) (token text (the_word (codes "static")) s))) refl
      where
        behind : (xs : List Node) (u : Position) (o : Outcome (List Node)) → xs ≡ [] → Holds o IsStaticName → Holds (with_front xs o) IsStaticName
        behind xs u (read ys t) e h = rw e (holds_read IsStaticName ys t (h t ys refl))
        behind xs u (fails n) e h = holds_fails IsStaticName n
        behind xs u (too_deep n) e h = holds_deep IsStaticName n

        go : (o : Outcome (List Node)) → ahead_on s (then_on (λ k. pure []) (token text (the_word (codes "static")) s)) ≡ o → Holds (followed_on (kept_leaf text leaf.IdentName) o) IsStaticName
        go (read xs u) e = let k = key_word (codes "static") s u xs e in behind xs u (kept_leaf text leaf.IdentName u) k.0 (name_kept u k.1)
        go (fails n) e = holds_fails IsStaticName n
        go (too_deep n) e = holds_deep IsStaticName n
