-- Tokens that are kept have the grades of their leaves.
use Rattle.std.proofs.Common.{◌≡◌, ◌∙◌, ℕ, Bool, true, false, not, List, [], codes, refl, sym, ap, Option, Result, Ok, Err, max}
use Rattle.std.specs.Prelude.{if◌then◌else◌}
use Rattle.ecma_lex.specs.declared.tokens.NoToken.{NoToken}
use Rattle.ecma_lex.specs.declared.templates.TemplateText.{TemplateText}
use Rattle.ecma_lex.specs.Templates.{template_text}
use Rattle.ecma_kind.specs.declared.kind.Kind.{Kind}
use Rattle.ecma_kind.specs.declared.kind.Kind.TheVariants as kind
use Rattle.ecma_tree.specs.declared.node.Node.{Node}
use Rattle.ecma_grammar.specs.declared.production.Leaf.{Leaf}
use Rattle.ecma_grammar.specs.declared.production.Leaf.TheVariants as leaf
use Rattle.ecma_grammar.specs.declared.production.TemplatePart.{TemplatePart}
use Rattle.ecma_grammar.specs.declared.production.TokenKind.TheVariants as token_kind
use Rattle.ecma_grammar.specs.Reading.{Position, Reading, fails, pure, read, ◌>>=◌}
use Rattle.ecma_grammar.specs.Reads.{any_token, hashbang_token, leaf_node, part_on, regex_token, template_part, word_token}
use Rattle.ecma_rules.specs.Children.{is_present}
use Rattle.ecma_fits.specs.Counts.{is_attribute_key, is_text}
use Rattle.ecma_text_leaves.proofs.Leaves.{Holds, holds_fails, holds_read, holds_then}
use Rattle.ecma_text_fits_parts.proofs.Grades.{Grade, LeafKind, Meets, is_expression, is_key_leaf, is_text_leaf, leaf_fits, leaf_meets, leaf_part}
use Rattle.ecma_text_fits_parts.proofs.Sound.{Sound}
use Rattle.ecma_raw_roles.proofs.Walks.{not_true}

-- a text part is the last where that is wanted, and else it is not

kept_last : (p : TemplateText) (t : Position) (failed : ℕ) (b : Bool) → p.last ≡ b → Holds (if b then read p t else fails failed) (λ part. part.last ≡ true)
kept_last p t failed true e = holds_read (λ part. part.last ≡ true) p t e
kept_last p t failed false e = holds_fails (λ part. part.last ≡ true) failed

kept_other : (p : TemplateText) (t : Position) (failed : ℕ) (b : Bool) → p.last ≡ b → Holds (if b then fails failed else read p t) (λ part. part.last ≡ false)
kept_other p t failed true e = holds_fails (λ part. part.last ≡ false) failed
kept_other p t failed false e = holds_read (λ part. part.last ≡ false) p t e

part_wanted : (s : Position) (last : Bool) (r : Result TemplateText NoToken) → Holds (part_on s last r) (λ part. part.last ≡ last)
part_wanted s true (Ok part) = let token = part.token in kept_last part (record { place = token.next; failed = s.failed }) s.failed part.last refl
part_wanted s false (Ok part) = let token = part.token in kept_other part (record { place = token.next; failed = s.failed }) s.failed part.last refl
part_wanted s true (Err no_token) = holds_fails (λ part. part.last ≡ true) (max s.failed no_token.at)
part_wanted s false (Err no_token) = holds_fails (λ part. part.last ≡ false) (max s.failed no_token.at)

-- a leaf of a kind without parts
plain_leaf : (l : Leaf) (k : Kind) → Sound k [] → is_present k ≡ true → is_expression k ≡ true → leaf_part false l ≡ false → leaf_part true l ≡ false
    → (is_key_leaf l ≡ true → is_attribute_key k ≡ true) → (is_text_leaf l ≡ true → is_text k ≡ true) → LeafKind l k
plain_leaf l k s p x a b key text = record { sound = s; present = p; expression = λ h. x; part = λ h. not_true (sym a ∙ h); last = λ h. not_true (sym b ∙ h); key = key; text = text }

other_leaf : (l : Leaf) (k : Kind) → Sound k [] → is_present k ≡ true → is_expression k ≡ true → leaf_part false l ≡ false → leaf_part true l ≡ false → is_key_leaf l ≡ false → is_text_leaf l ≡ false → LeafKind l k
other_leaf l k s p x a b key text = plain_leaf l k s p x a b (λ h. not_true (sym key ∙ h)) (λ h. not_true (sym text ∙ h))

element_leaf : (wanted : TemplatePart) (raw : List ℕ) (cooked : Option (List ℕ)) (last : Bool) → last ≡ wanted.last → LeafKind (leaf.TplElement wanted) (kind.TplElement raw cooked last)
element_leaf wanted raw cooked last e = record {
  sound = refl;
  present = refl;
  expression = λ h. not_true h;
  part = λ h. ap not e ∙ h;
  last = λ h. e ∙ h;
  key = λ h. not_true h;
  text = λ h. not_true h;
}

module _ (text : List ℕ) (g : Grade) where
  leaf_of : {A : Type 0} (p : Reading A) (Q : A → Type 0) (f : A → Node) (s : Position) → Holds (p s) Q → ((x : A) → Q x → Meets g (f x)) → Holds ((p >>= λ x. pure (f x)) s) (Meets g)
  leaf_of p Q f s h m = holds_then (λ x. pure (f x)) Q (Meets g) (p s) h (λ x t q. holds_read (Meets g) (f x) t (m x q))

  any_leaf : {A : Type 0} (p : Reading A) (f : A → Node) (s : Position) → ((x : A) → Meets g (f x)) → Holds ((p >>= λ x. pure (f x)) s) (Meets g)
  any_leaf p f s m = leaf_of p (λ x. Unit {0}) f s (λ t x e. tt) (λ x q. m x)

  pub leaf_graded : (l : Leaf) (s : Position) → leaf_fits l g ≡ true → Holds (leaf_node text l s) (Meets g)
  leaf_graded leaf.Ident s h = any_leaf (any_token text token_kind.Name) _ s (λ t. leaf_meets leaf.Ident g t _ (other_leaf leaf.Ident _ refl refl refl refl refl refl refl) h)
  leaf_graded leaf.KeyIdent s h = any_leaf (any_token text token_kind.Key) _ s (λ t. leaf_meets leaf.KeyIdent g t _ (other_leaf leaf.KeyIdent _ refl refl refl refl refl refl refl) h)
  leaf_graded leaf.ThisIdent s h = any_leaf (word_token text (codes "this")) _ s (λ t. leaf_meets leaf.ThisIdent g t _ (other_leaf leaf.ThisIdent _ refl refl refl refl refl refl refl) h)
  leaf_graded leaf.IdentName s h = any_leaf (any_token text token_kind.Key) _ s (λ t. leaf_meets leaf.IdentName g t _ (plain_leaf leaf.IdentName _ refl refl refl refl refl (λ k. refl) (λ k. not_true k)) h)
  leaf_graded leaf.PrivateName s h = any_leaf (any_token text token_kind.PrivateName) _ s (λ t. leaf_meets leaf.PrivateName g t _ (other_leaf leaf.PrivateName _ refl refl refl refl refl refl refl) h)
  leaf_graded leaf.Str s h = any_leaf (any_token text token_kind.Str) _ s (λ t. leaf_meets leaf.Str g t _ (plain_leaf leaf.Str _ refl refl refl refl refl (λ k. refl) (λ k. refl)) h)
  leaf_graded leaf.Number s h = any_leaf (any_token text token_kind.Number) _ s (λ t. leaf_meets leaf.Number g t _ (other_leaf leaf.Number _ refl refl refl refl refl refl refl) h)
  leaf_graded leaf.BigInt s h = any_leaf (any_token text token_kind.BigInt) _ s (λ t. leaf_meets leaf.BigInt g t _ (other_leaf leaf.BigInt _ refl refl refl refl refl refl refl) h)
  leaf_graded leaf.Regex s h = any_leaf (regex_token text) _ s (λ t. leaf_meets leaf.Regex g t _ (other_leaf leaf.Regex _ refl refl refl refl refl refl refl) h)
  leaf_graded (leaf.TplElement wanted) s h =
      leaf_of (template_part text wanted) (λ part. part.last ≡ wanted.last) _ s (part_wanted s wanted.last (template_text text s.place wanted.first wanted.tagged))
      (λ part e. leaf_meets (leaf.TplElement wanted) g part.token _ (element_leaf wanted _ _ part.last e) h)
  leaf_graded leaf.This s h = any_leaf (word_token text (codes "this")) _ s (λ t. leaf_meets leaf.This g t kind.ThisExpr (other_leaf leaf.This _ refl refl refl refl refl refl refl) h)
  leaf_graded leaf.Null s h = any_leaf (word_token text (codes "null")) _ s (λ t. leaf_meets leaf.Null g t kind.Null (other_leaf leaf.Null _ refl refl refl refl refl refl refl) h)
  leaf_graded leaf.True s h = any_leaf (word_token text (codes "true")) _ s (λ t. leaf_meets leaf.True g t (kind.Bool true) (other_leaf leaf.True _ refl refl refl refl refl refl refl) h)
  leaf_graded leaf.False s h = any_leaf (word_token text (codes "false")) _ s (λ t. leaf_meets leaf.False g t (kind.Bool false) (other_leaf leaf.False _ refl refl refl refl refl refl refl) h)
  leaf_graded leaf.Super s h = any_leaf (word_token text (codes "super")) _ s (λ t. leaf_meets leaf.Super g t kind.Super (other_leaf leaf.Super _ refl refl refl refl refl refl refl) h)
  leaf_graded leaf.Import s h = any_leaf (word_token text (codes "import")) _ s (λ t. leaf_meets leaf.Import g t kind.Import (other_leaf leaf.Import _ refl refl refl refl refl refl refl) h)
  leaf_graded leaf.Hashbang s h = any_leaf (hashbang_token text) _ s (λ t. leaf_meets leaf.Hashbang g t _ (other_leaf leaf.Hashbang _ refl refl refl refl refl refl refl) h)
