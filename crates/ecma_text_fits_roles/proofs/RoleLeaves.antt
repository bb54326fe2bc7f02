-- Tokens that are kept are what they have to be where they stand: a name is no reserved word.
use Rattle.std.proofs.Common.{◌≡◌, ◌∙◌, ℕ, ◌+◌, ◌-◌, Bool, true, false, cond, not, ◌&&◌, ◌||◌, bytes_eq, codes, List, [], ◌∷◌, Option, Some, None, refl, sym, ap, subst, inl, inr, is_some}
use Rattle.std.proofs.lemmas.Slice.Eq.{bytes_eq-Decides}
use Rattle.ecma_lex.specs.declared.blanks.Skipped.{Skipped}
use Rattle.ecma_lex.specs.declared.tokens.Token.{Token}
use Rattle.ecma_lex.specs.Blanks.{skipped}
use Rattle.ecma_lex.specs.Keys.{is_reserved, key_end, name_end, reserved_words, word_end}
use Rattle.ecma_lex.specs.Parts.{if_text}
use Rattle.ecma_lex.specs.Text.{piece}
use Rattle.ecma_lex.specs.Tokens as lex
use Rattle.ecma_lex.specs.Regexes.{regex_body_end}
use Rattle.ecma_lex.specs.Strings.{str_value}
use Rattle.ecma_lex.specs.Templates.{any_template_text_end, end_length, found_template_text, if_valued, template_raw, template_text, template_text_end, template_value}
use Rattle.ecma_lex.specs.Values.{literal_value}
use Rattle.ecma_lex.specs.declared.templates.TemplateText.{TemplateText}
use Rattle.ecma_number.specs.Numeral.{numeral_of}
use Rattle.ecma_lex.specs.Tokens.{found, term}
use Rattle.ecma_kind.specs.declared.kind.Kind.{Kind}
use Rattle.ecma_kind.specs.declared.kind.Kind.TheVariants as kind
use Rattle.ecma_tree.specs.declared.node.Node.{Node}
use Rattle.ecma_rules.specs.Supers.{is_private_name}
use Rattle.ecma_grammar.specs.declared.production.Flag.{Flag}
use Rattle.ecma_grammar.specs.declared.production.Flag.TheVariants as flag
use Rattle.ecma_grammar.specs.declared.production.Leaf.{Leaf}
use Rattle.ecma_grammar.specs.declared.production.Leaf.TheVariants as leaf
use Rattle.ecma_grammar.specs.declared.production.TemplatePart.{TemplatePart}
use Rattle.ecma_grammar.specs.declared.production.TokenKind.TheVariants as token_kind
use Rattle.ecma_grammar.specs.Made.{at_token}
use Rattle.ecma_grammar.specs.trees.Chains.{is_text_kind}
use Rattle.ecma_grammar.specs.trees.Parts.{flag_node, from_to}
use Rattle.ecma_grammar_laws.proofs.RawShapes.{kind_is}
use Rattle.ecma_grammar.specs.Reading.{Outcome, Position, ahead_on, fails, pure, read, terminal_on, then_on, too_deep}
use Rattle.ecma_grammar.specs.Reads.{any_token, hashbang_token, inside, kept_leaf, leaf_node, part_inside, part_on, regex_token, source, template_part, token, without_separators, word_token}
use Rattle.ecma_grammar.specs.Grammar.{the_word}
use Rattle.ecma_fits.specs.declared.role.Role.{Role}
use Rattle.ecma_fits.specs.declared.role.Role.TheVariants as role
use Rattle.ecma_fits.specs.Roles.{is_name, may_be}
use Rattle.ecma_raw_roles.specs.RawRoles.{HasRawRole, may_be_raw}
use Rattle.ecma_raw_roles.proofs.Placed.{absent_placed, displaced_by, placed}
use Rattle.ecma_text_fits_leaves.proofs.RawTexts.{last_of, next_of, nowhere}
use Rattle.ecma_text_fits_roles.proofs.RoleAsks.{Ask, Meets, any, at, both, is_loose, text_or_free}
use Rattle.ecma_text_fits_roles.proofs.RoleNeeds.{flag_meets, leaf_at, leaf_meets, text_at}
use Rattle.ecma_text_fits_roles.proofs.RoleGiven.{no, two}

-- what stands in a role by its kind

loose_place : (k : Kind) → (is_name k || is_text_kind k) ≡ false → is_private_name k ≡ false → (r : Role) → is_loose r ≡ true → displaced_by r k ≡ false
unfolding may_be may_be_raw
loose_place (kind.Ident text ctxt optional) n p r l = no (sym n)
loose_place (kind.PrivateName text) n p r l = no (sym p)
loose_place (kind.TplElement raw cooked tail) n p r l = no (sym n)
loose_place k n p role.Free l = refl
loose_place k n p role.Private l = refl
loose_place k n p role.Key l = refl
loose_place k n p _ l = no l

name_place : (w : List ℕ) → is_reserved w ≡ false → (r : Role) → leaf_at leaf.Ident r ≡ true → displaced_by r (kind.Ident w 0 false) ≡ false
unfolding may_be may_be_raw
name_place w e role.Free l = rw e refl
name_place w e role.Private l = rw e refl
name_place w e role.Key l = refl
name_place w e role.NameOrThis l = rw e refl
name_place w e _ l = no l

this_place : (w : List ℕ) → bytes_eq w (codes "this") ≡ true → (r : Role) → leaf_at leaf.ThisIdent r ≡ true → displaced_by r (kind.Ident w 0 false) ≡ false
unfolding may_be may_be_raw
this_place w e role.NameOrThis l = rw e (go (is_reserved w))
  where
    go : (b : Bool) → ((b && false) || false) ≡ false
    go true = refl
    go false = refl
this_place w e _ l = no l

key_place : (w : List ℕ) (r : Role) → leaf_at leaf.KeyIdent r ≡ true → displaced_by r (kind.Ident w 0 false) ≡ false
unfolding may_be may_be_raw
key_place w role.Key l = refl
key_place w _ l = no l

private_place : (w : List ℕ) (r : Role) → leaf_at leaf.PrivateName r ≡ true → displaced_by r (kind.PrivateName w) ≡ false
unfolding may_be may_be_raw
private_place w role.Private l = refl
private_place w _ l = no l

pub token_placed : (t : Token) (k : Kind) (r : Role) → displaced_by r k ≡ false → HasRawRole r (at_token t k)
token_placed t k r d = placed (from_to t.start t.next) k [] r d tt

-- the module of `global`
pub global_free : is_reserved (codes "global") ≡ false
unfolding is_reserved reserved_words
global_free = refl

module _ (text : List ℕ) where
  passes : (p : List ℕ → Bool) (next : Option ℕ) (i j : ℕ) → if_text p text i next ≡ Some j → (next ≡ Some j) × (p (piece text i j) ≡ true)
  passes p None i j h = cc
  passes p (Some n) i j h = go (p (piece text i n)) refl h
    where
      go : (b : Bool) → p (piece text i n) ≡ b → cond b (Some n) None ≡ Some j → (◌≡◌ {A = Option ℕ} (Some n) (Some j)) × (p (piece text i j) ≡ true)
      go true e k = let m : n ≡ j = cc in (k, subst (λ z. p (piece text i z) ≡ true) m e)
      go false e k = cc

  unnot : (b : Bool) → not b ≡ true → b ≡ false
  unnot true h = no h
  unnot false h = refl

  name_text : (i j : ℕ) → name_end text i ≡ Some j → is_reserved (piece text i j) ≡ false
  unfolding name_end
  name_text i j h = unnot (is_reserved (piece text i j)) (passes (λ word. not (is_reserved word)) (key_end text i) i j h).1

  word_text : (w : List ℕ) (i j : ℕ) → word_end w text i ≡ Some j → (key_end text i ≡ Some j) × (bytes_eq (piece text i j) w ≡ true)
  unfolding word_end
  word_text w i j h = passes (λ word. bytes_eq word w) (key_end text i) i j h

  -- a token by its terminal

  if_closed : (find : List ℕ → ℕ → Option ℕ) (b : Bool) (i j : ℕ) → cond b (find text i) None ≡ Some j → find text i ≡ Some j
  if_closed find true i j h = h
  if_closed find false i j h = cc

  of_found : (Q : Token → Type 0) (s : Position) (before : Skipped) (o : Option ℕ) → ((j : ℕ) → o ≡ Some j → Q (record { start = before.to; next = j; new_line = before.new_line })) → (k : Token) (t : Position) → terminal_on s (found before o) ≡ read k t → Q k
  of_found Q s before None g k t h = cc
  of_found Q s before (Some j) g k t h = let e : record { start = before.to; next = j; new_line = before.new_line } ≡ k = cc in subst Q e (g j refl)

  of_term : (find : List ℕ → ℕ → Option ℕ) (Q : Token → Type 0) → ((i j : ℕ) (b : Bool) → find text i ≡ Some j → Q (record { start = i; next = j; new_line = b })) → (s : Position) (k : Token) (t : Position)
      → terminal_on s (term find text s.place) ≡ read k t → Q k
  of_term find Q g s k t h =
      let before = skipped text s.place in
      of_found Q s before (cond before.closed (find text before.to) None) (λ j e. g before.to j before.new_line (if_closed find before.closed before.to j e)) k t h

  is_named : (s : Position) (k : Token) (t : Position) → any_token text token_kind.Name s ≡ read k t → is_reserved (source text k) ≡ false
  unfolding lex.name
  is_named s k t h = of_term name_end (λ k. is_reserved (source text k) ≡ false) (λ i j b e. name_text i j e) s k t h

  is_this : (s : Position) (k : Token) (t : Position) → word_token text (codes "this") s ≡ read k t → bytes_eq (source text k) (codes "this") ≡ true
  unfolding lex.word
  is_this s k t h = of_term (word_end (codes "this")) (λ k. bytes_eq (source text k) (codes "this") ≡ true) (λ i j b e. (word_text (codes "this") i j e).1) s k t h

  -- what is made of what is read first
  made_from : {A : Type 0} (Q : A → Type 0) (P : Node → Type 0) (f : A → Node) → ((x : A) → Q x → P (f x)) → (o : Outcome A) → ((x : A) (t : Position) → o ≡ read x t → Q x) → (x : Node) (t : Position) → then_on (λ y. pure (f y)) o ≡ read x t → P x
  made_from Q P f g (read y u) q x t h = let e : f y ≡ x = cc in subst P e (g y (q y u refl))
  made_from Q P f g (fails n) q x t h = cc
  made_from Q P f g (too_deep n) q x t h = cc

  any_from : {A : Type 0} (P : Node → Type 0) (f : A → Node) → ((x : A) → P (f x)) → (o : Outcome A) (x : Node) (t : Position) → then_on (λ y. pure (f y)) o ≡ read x t → P x
  any_from P f g o x t h = made_from (λ y. Unit {0}) P f (λ y q. g y) o (λ y u e. tt) x t h

  -- a text part that is read without a tag has a value
  abbrev IsValued : Bool → TemplateText → Type 0
  IsValued tagged part = (tagged || is_some (template_value (part_inside text part))) ≡ true

  valued_end : (tagged : Bool) (i : ℕ) (o : Option _) (n : ℕ) (l : Bool) → if_valued tagged text i o ≡ Some (record { next = n; last = l }) → (tagged || is_some (literal_value true (piece text (i + 1) (n - end_length l)))) ≡ true
  valued_end tagged i None n l h = cc
  valued_end tagged i (Some d) n l h = go (tagged || is_some (literal_value true (piece text (i + 1) (d.next - end_length d.last)))) refl h
    where
      go : (b : Bool) → (tagged || is_some (literal_value true (piece text (i + 1) (d.next - end_length d.last)))) ≡ b → cond b (Some d) None ≡ Some (record { next = n; last = l }) → (tagged || is_some (literal_value true (piece text (i + 1) (n - end_length l)))) ≡ true
      go true x k =
          let m : d.next ≡ n = ap (λ o. next_of (found_template_text nowhere o)) k in
          let q : d.last ≡ l = ap (λ o. last_of (found_template_text nowhere o)) k in
          subst (λ y. (tagged || is_some (literal_value true (piece text (i + 1) (y - end_length l)))) ≡ true) m (subst (λ z. (tagged || is_some (literal_value true (piece text (i + 1) (d.next - end_length z)))) ≡ true) q x)
      go false x k = cc

  of_part : (tagged wanted : Bool) (s : Position) (before : Skipped) (o : Option _) (part : TemplateText) (t : Position) → part_on s wanted (found_template_text before o) ≡ read part t
      → ((n : ℕ) (l : Bool) → o ≡ Some (record { next = n; last = l }) → (tagged || is_some (literal_value true (piece text (before.to + 1) (n - end_length l)))) ≡ true) → IsValued tagged part
  unfolding template_value
  of_part tagged true s before None part t h g = cc
  of_part tagged false s before None part t h g = cc
  of_part tagged true s before (Some e) part t h g = go e.last refl h
    where
      found : TemplateText
      found = record { token = record { start = before.to; next = e.next; new_line = before.new_line }; last = e.last }

      go : (b : Bool) → e.last ≡ b → cond b (read found (record { place = e.next; failed = s.failed })) (fails s.failed) ≡ read part t → IsValued tagged part
      go true x k = let is : found ≡ part = cc in subst (IsValued tagged) is (g e.next e.last refl)
      go false x k = cc
  of_part tagged false s before (Some e) part t h g = go e.last refl h
    where
      found : TemplateText
      found = record { token = record { start = before.to; next = e.next; new_line = before.new_line }; last = e.last }

      go : (b : Bool) → e.last ≡ b → cond b (fails s.failed) (read found (record { place = e.next; failed = s.failed })) ≡ read part t → IsValued tagged part
      go false x k = let is : found ≡ part = cc in subst (IsValued tagged) is (g e.next e.last refl)
      go true x k = cc

  closed_end : (first tagged b : Bool) (i n : ℕ) (l : Bool) → cond b (template_text_end first tagged text i) None ≡ Some (record { next = n; last = l }) → (tagged || is_some (literal_value true (piece text (i + 1) (n - end_length l)))) ≡ true
  unfolding template_text_end
  closed_end first tagged true i n l h = valued_end tagged i (any_template_text_end first tagged text i) n l h
  closed_end first tagged false i n l h = cc

  is_valued : (wanted : TemplatePart) (s : Position) (part : TemplateText) (t : Position) → template_part text wanted s ≡ read part t → IsValued wanted.tagged part
  unfolding template_text
  is_valued wanted s part t h =
      let before = skipped text s.place in
      of_part wanted.tagged wanted.last s before (cond before.closed (template_text_end wanted.first wanted.tagged text before.to) None) part t h (λ n l k. closed_end wanted.first wanted.tagged before.closed before.to n l k)

  text_place : (tagged : Bool) (raw : List ℕ) (cooked : Option (List ℕ)) (last : Bool) (r : Role) → text_at tagged r ≡ true → (tagged || is_some cooked) ≡ true → displaced_by r (kind.TplElement raw cooked last) ≡ false
  unfolding may_be may_be_raw
  text_place true raw None last role.TaggedText h v = refl
  text_place true raw (Some c) last role.TaggedText h v = refl
  text_place true raw cooked last _ h v = no h
  text_place false raw (Some c) last role.Free h v = refl
  text_place false raw (Some c) last role.Private h v = refl
  text_place false raw (Some c) last role.Key h v = refl
  text_place false raw (Some c) last _ h v = no h
  text_place false raw None last r h v = no v

  text_meets : (tagged : Bool) (part : TemplateText) → IsValued tagged part → Meets text_or_free (at_token part.token (kind.TplElement (template_raw (part_inside text part)) (template_value (part_inside text part)) part.last))
  text_meets true part v =
      let raw = template_raw (part_inside text part) in
      let cooked = template_value (part_inside text part) in
      let token = part.token in
      inr (subst (λ k. is_text_kind k ≡ true) (sym (kind_is (from_to token.start token.next) (kind.TplElement raw cooked part.last) [])) refl, token_placed part.token (kind.TplElement raw cooked part.last) role.TaggedText (text_place true raw cooked part.last role.TaggedText refl refl))
  text_meets false part v =
      let raw = template_raw (part_inside text part) in
      let cooked = template_value (part_inside text part) in
      inl (token_placed part.token (kind.TplElement raw cooked part.last) role.Free (text_place false raw cooked part.last role.Free refl v))

  leaf_at_role : (l : Leaf) (r : Role) → leaf_at l r ≡ true → (s t : Position) (x : Node) → leaf_node text l s ≡ read x t → HasRawRole r x
  leaf_at_role leaf.Ident r h s t x e = made_from (λ k. is_reserved (source text k) ≡ false) (HasRawRole r) _ (λ k q. token_placed k _ r (name_place (source text k) q r h)) (any_token text token_kind.Name s) (is_named s) x t e
  leaf_at_role leaf.KeyIdent r h s t x e = any_from (HasRawRole r) _ (λ k. token_placed k _ r (key_place (source text k) r h)) (any_token text token_kind.Key s) x t e
  leaf_at_role leaf.ThisIdent r h s t x e =
      made_from (λ k. bytes_eq (source text k) (codes "this") ≡ true) (HasRawRole r) _ (λ k q. token_placed k _ r (this_place (source text k) q r h)) (word_token text (codes "this") s) (is_this s) x t e
  leaf_at_role leaf.IdentName r h s t x e = any_from (HasRawRole r) _ (λ k. token_placed k (kind.IdentName (source text k)) r (loose_place (kind.IdentName (source text k)) refl refl r h)) (any_token text token_kind.Key s) x t e
  leaf_at_role leaf.PrivateName r h s t x e = any_from (HasRawRole r) _ (λ k. token_placed k _ r (private_place _ r h)) (any_token text token_kind.PrivateName s) x t e
  leaf_at_role leaf.Str r h s t x e = any_from (HasRawRole r) _ (λ k. token_placed k (kind.Str (str_value (inside text k)) (Some (source text k))) r (loose_place (kind.Str (str_value (inside text k)) (Some (source text k))) refl refl r h)) (any_token text token_kind.Str s) x t e
  leaf_at_role leaf.Number r h s t x e = any_from (HasRawRole r) _ (λ k. token_placed k (kind.Number (numeral_of (source text k)) (Some (source text k))) r (loose_place (kind.Number (numeral_of (source text k)) (Some (source text k))) refl refl r h)) (any_token text token_kind.Number s) x t e
  leaf_at_role leaf.BigInt r h s t x e = any_from (HasRawRole r) _ (λ k. token_placed k (kind.BigInt (without_separators (piece text k.start (k.next - 1))) (Some (source text k))) r (loose_place (kind.BigInt (without_separators (piece text k.start (k.next - 1))) (Some (source text k))) refl refl r h)) (any_token text token_kind.BigInt s) x t e
  leaf_at_role leaf.Regex r h s t x e = any_from (HasRawRole r) _ (λ k. token_placed k (kind.Regex (piece text (k.start + 1) (regex_body_end text k.start)) (piece text (regex_body_end text k.start + 1) k.next)) r (loose_place (kind.Regex (piece text (k.start + 1) (regex_body_end text k.start)) (piece text (regex_body_end text k.start + 1) k.next)) refl refl r h)) (regex_token text s) x t e
  leaf_at_role (leaf.TplElement wanted) r h s t x e = made_from (IsValued wanted.tagged) (HasRawRole r) _ (λ part v. token_placed part.token _ r (text_place wanted.tagged (template_raw (part_inside text part)) (template_value (part_inside text part)) part.last r h v)) (template_part text wanted s) (is_valued wanted s) x t e
  leaf_at_role leaf.This r h s t x e = any_from (HasRawRole r) _ (λ k. token_placed k kind.ThisExpr r (loose_place kind.ThisExpr refl refl r h)) (word_token text (codes "this") s) x t e
  leaf_at_role leaf.Null r h s t x e = any_from (HasRawRole r) _ (λ k. token_placed k kind.Null r (loose_place kind.Null refl refl r h)) (word_token text (codes "null") s) x t e
  leaf_at_role leaf.True r h s t x e = any_from (HasRawRole r) _ (λ k. token_placed k (kind.Bool true) r (loose_place (kind.Bool true) refl refl r h)) (word_token text (codes "true") s) x t e
  leaf_at_role leaf.False r h s t x e = any_from (HasRawRole r) _ (λ k. token_placed k (kind.Bool false) r (loose_place (kind.Bool false) refl refl r h)) (word_token text (codes "false") s) x t e
  leaf_at_role leaf.Super r h s t x e = any_from (HasRawRole r) _ (λ k. token_placed k kind.Super r (loose_place kind.Super refl refl r h)) (word_token text (codes "super") s) x t e
  leaf_at_role leaf.Import r h s t x e = any_from (HasRawRole r) _ (λ k. token_placed k kind.Import r (loose_place kind.Import refl refl r h)) (word_token text (codes "import") s) x t e
  leaf_at_role leaf.Hashbang r h s t x e = any_from (HasRawRole r) _ (λ k. token_placed k (kind.IdentName (piece text 2 k.next)) r (loose_place (kind.IdentName (piece text 2 k.next)) refl refl r h)) (hashbang_token text s) x t e

  leaf_as_asked : (l : Leaf) (q : Ask) → leaf_meets l q ≡ true → (s t : Position) (x : Node) → leaf_node text l s ≡ read x t → Meets q x
  leaf_as_asked l any h s t x e = tt
  leaf_as_asked l (at r) h s t x e = leaf_at_role l r h s t x e
  leaf_as_asked (leaf.TplElement wanted) text_or_free h s t x e = made_from (IsValued wanted.tagged) (Meets text_or_free) _ (λ part v. text_meets wanted.tagged part v) (template_part text wanted s) (is_valued wanted s) x t e
  leaf_as_asked l _ h s t x e = no h

  -- what is kept of a leaf is one node
  pub leaf_kept : (l : Leaf) (P : Node → Type 0) (s t : Position) (xs : List Node) → ((x : Node) (u : Position) → leaf_node text l s ≡ read x u → P x) → kept_leaf text l s ≡ read xs t → (x : Node) × (xs ≡ x ∷ []) × P x
  leaf_kept l P s t xs f r = go (leaf_node text l s) f r
    where
      go : (o : Outcome Node) → ((x : Node) (u : Position) → o ≡ read x u → P x) → then_on (λ x. pure (x ∷ [])) o ≡ read xs t → (x : Node) × (xs ≡ x ∷ []) × P x
      go (read y u) f e = (y, cc, f y u refl)
      go (fails n) f e = cc
      go (too_deep n) f e = cc

  pub leaf_meets_ask : (l : Leaf) (q : Ask) → leaf_meets l q ≡ true → (s t : Position) (xs : List Node) → kept_leaf text l s ≡ read xs t → (x : Node) × (xs ≡ x ∷ []) × Meets q x
  leaf_meets_ask l q h s t xs r = leaf_kept l (Meets q) s t xs (λ x u e. leaf_as_asked l q h s u x e) r

  pub private_leaf : (s t : Position) (xs : List Node) → kept_leaf text leaf.PrivateName s ≡ read xs t → (x : Node) × (xs ≡ x ∷ []) × HasRawRole role.Private x
  private_leaf s t xs r = leaf_kept leaf.PrivateName (HasRawRole role.Private) s t xs (λ x u e. leaf_at_role leaf.PrivateName role.Private refl s u x e) r

  -- a key of which a word stands ahead is that word

  -- both end at one place
  word_key : (w : List ℕ) (b : Bool) (i j : ℕ) → cond b (word_end w text i) None ≡ Some j → (cond b (key_end text i) None ≡ Some j) × (bytes_eq (piece text i j) w ≡ true)
  word_key w true i j h = word_text w i j h
  word_key w false i j h = cc

  ahead_word : (w : List ℕ) (s : Position) (before : Skipped) (o : Option ℕ) (xs : List Node) (u : Position) → ahead_on s (then_on (λ k. pure []) (terminal_on s (found before o))) ≡ read xs u → (xs ≡ []) × (u.place ≡ s.place) × ((j : ℕ) × (o ≡ Some j))
  ahead_word w s before None xs u h = cc
  ahead_word w s before (Some j) xs u h =
      let e : xs ≡ [] = cc in
      let f : record { place = s.place; failed = s.failed } ≡ u = cc in
      (e, sym (ap (λ (p : Position). p.place) f), (j, refl))

  key_word : (w : List ℕ) → is_reserved w ≡ false → (u : Position) (before : Skipped) (o : Option ℕ) (j : ℕ) → o ≡ Some j → bytes_eq (piece text before.to j) w ≡ true → (k : Token) (t : Position) → terminal_on u (found before o) ≡ read k t → is_reserved (source text k) ≡ false
  key_word w fine u before o j e same k t h =
      let is : piece text before.to j ≡ w = (bytes_eq-Decides (piece text before.to j) w).0 same in
      let right : is_reserved (piece text before.to j) ≡ false = ap is_reserved is ∙ fine in
      of_found (λ k. is_reserved (source text k) ≡ false) u before o (λ i f. (let g : j ≡ i = cc in subst (λ z. is_reserved (piece text before.to z) ≡ false) g right)) k t h

  pub key_after : (w : List ℕ) → is_reserved w ≡ false → (s u : Position) (xs : List Node) → ahead_on s ((then_on (λ k. pure []) (token text (the_word w) s))) ≡ read xs u → (xs ≡ []) × ((t : Position) (ys : List Node) → kept_leaf text leaf.KeyIdent u ≡ read ys t → (x : Node) × (ys ≡ x ∷ []) × HasRawRole role.Free x)
  unfolding lex.word lex.key
  key_after w fine s u xs h =
      let before = skipped text s.place in
      let a = ahead_word w s before (cond before.closed (word_end w text before.to) None) xs u h in
      let j = a.2.0 in
      let k = word_key w before.closed before.to j a.2.1 in (
        a.0,
        λ t ys r. leaf_kept leaf.KeyIdent (HasRawRole role.Free) u t ys (λ x v e. made_from (λ k. is_reserved (source text k) ≡ false) (HasRawRole role.Free) _ (λ k q. token_placed k _ role.Free (name_place (source text k) q role.Free refl)) (any_token text token_kind.Key u)
            (λ tok z f. key_word w fine u before (cond before.closed (key_end text before.to) None) j k.0 k.1 tok z (subst (λ p. terminal_on u (term key_end text p) ≡ read tok z) a.1 f)) x v e) r,
      )

-- a flag
pub flag_meets_ask : (f : Flag) (q : Ask) → flag_meets f q ≡ true → Meets q (flag_node f)
flag_meets_ask f any h = tt
flag_meets_ask flag.Absent (at r) h = absent_placed r h
flag_meets_ask flag.Absent (both r s) h = let w = two (may_be_raw r kind.Absent) (may_be_raw s kind.Absent) h in (absent_placed r w.0, absent_placed s w.1)
flag_meets_ask flag.Present (at r) h = placed (from_to 0 0) (kind.Bool true) [] r (loose_place (kind.Bool true) refl refl r h) tt
flag_meets_ask flag.Absent _ h = no h
flag_meets_ask flag.Present _ h = no h
