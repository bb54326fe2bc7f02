-- Leaves weigh nothing, so one that is kept is worth one.
use Rattle.std.proofs.Common.{◌≡◌, ◌∙◌, ℕ, true, false, List, [], ◌∷◌, codes, refl}
use Rattle.ecma_lex.specs.declared.tokens.Token.{Token}
use Rattle.ecma_kind.specs.declared.kind.Kind.{Kind}
use Rattle.ecma_kind.specs.declared.kind.Kind.TheVariants as kind
use Rattle.ecma_tree.specs.declared.node.Node.{Node}
use Rattle.ecma_grammar.specs.declared.production.Flag.{Flag}
use Rattle.ecma_grammar.specs.declared.production.Flag.TheVariants.{Absent, Present}
use Rattle.ecma_grammar.specs.declared.production.Leaf.{Leaf}
use Rattle.ecma_grammar.specs.declared.production.Leaf.TheVariants as leaf
use Rattle.ecma_grammar.specs.declared.production.TokenKind.TheVariants as token_kind
use Rattle.ecma_grammar.specs.trees.Parts.{flag_node, from_to}
use Rattle.ecma_grammar.specs.Made.{at_token}
use Rattle.ecma_grammar.specs.Reading.{Position, Reading, pure, ◌>>=◌}
use Rattle.ecma_grammar.specs.Reads.{any_token, hashbang_token, kept_leaf, leaf_node, regex_token, template_part, word_token}
use Rattle.ecma_text_leaves.proofs.Leaves.{Holds, holds_read, holds_then}
use Rattle.ecma_text_contexts.proofs.Weights.{counts, missing_weighs_nothing, weight, weight_made, worth}

abbrev WeighsNothing : Node → Type 0
WeighsNothing n = weight n ≡ 0

at_token_weighs_nothing : (t : Token) (k : Kind) → counts k ≡ false → WeighsNothing (at_token t k)
at_token_weighs_nothing t k h = weight_made (from_to t.start t.next) k [] ∙ rw h refl

any_leaf : {A : Type 0} (p : Reading A) (f : A → Node) (s : Position) → ((x : A) → WeighsNothing (f x)) → Holds ((p >>= λ x. pure (f x)) s) WeighsNothing
any_leaf p f s g = holds_then (λ x. pure (f x)) (λ x. Unit {0}) WeighsNothing (p s) (λ t x e. tt) (λ x t q. holds_read WeighsNothing (f x) t (g x))

module _ (text : List ℕ) where
  leaf_weighs_nothing : (l : Leaf) (s : Position) → Holds (leaf_node text l s) WeighsNothing
  leaf_weighs_nothing leaf.Ident s = any_leaf (any_token text token_kind.Name) _ s (λ t. at_token_weighs_nothing t _ refl)
  leaf_weighs_nothing leaf.KeyIdent s = any_leaf (any_token text token_kind.Key) _ s (λ t. at_token_weighs_nothing t _ refl)
  leaf_weighs_nothing leaf.ThisIdent s = any_leaf (word_token text (codes "this")) _ s (λ t. at_token_weighs_nothing t _ refl)
  leaf_weighs_nothing leaf.IdentName s = any_leaf (any_token text token_kind.Key) _ s (λ t. at_token_weighs_nothing t _ refl)
  leaf_weighs_nothing leaf.PrivateName s = any_leaf (any_token text token_kind.PrivateName) _ s (λ t. at_token_weighs_nothing t _ refl)
  leaf_weighs_nothing leaf.Str s = any_leaf (any_token text token_kind.Str) _ s (λ t. at_token_weighs_nothing t _ refl)
  leaf_weighs_nothing leaf.Number s = any_leaf (any_token text token_kind.Number) _ s (λ t. at_token_weighs_nothing t _ refl)
  leaf_weighs_nothing leaf.BigInt s = any_leaf (any_token text token_kind.BigInt) _ s (λ t. at_token_weighs_nothing t _ refl)
  leaf_weighs_nothing leaf.Regex s = any_leaf (regex_token text) _ s (λ t. at_token_weighs_nothing t _ refl)
  leaf_weighs_nothing (leaf.TplElement wanted) s = any_leaf (template_part text wanted) _ s (λ part. at_token_weighs_nothing part.token _ refl)
  leaf_weighs_nothing leaf.This s = any_leaf (word_token text (codes "this")) _ s (λ t. at_token_weighs_nothing t kind.ThisExpr refl)
  leaf_weighs_nothing leaf.Null s = any_leaf (word_token text (codes "null")) _ s (λ t. at_token_weighs_nothing t kind.Null refl)
  leaf_weighs_nothing leaf.True s = any_leaf (word_token text (codes "true")) _ s (λ t. at_token_weighs_nothing t _ refl)
  leaf_weighs_nothing leaf.False s = any_leaf (word_token text (codes "false")) _ s (λ t. at_token_weighs_nothing t _ refl)
  leaf_weighs_nothing leaf.Super s = any_leaf (word_token text (codes "super")) _ s (λ t. at_token_weighs_nothing t kind.Super refl)
  leaf_weighs_nothing leaf.Import s = any_leaf (word_token text (codes "import")) _ s (λ t. at_token_weighs_nothing t kind.Import refl)
  leaf_weighs_nothing leaf.Hashbang s = any_leaf (hashbang_token text) _ s (λ t. at_token_weighs_nothing t _ refl)

  abbrev IsWorthOne : List Node → Type 0
  IsWorthOne xs = worth xs ≡ 1

  pub leaf_is_worth_one : (l : Leaf) (s : Position) → Holds (kept_leaf text l s) IsWorthOne
  leaf_is_worth_one l s = holds_then (λ x. pure (x ∷ [])) WeighsNothing IsWorthOne (leaf_node text l s) (leaf_weighs_nothing l s) (λ x t q. holds_read IsWorthOne (x ∷ []) t (rw q refl))

pub flag_is_worth_one : (f : Flag) → worth (flag_node f ∷ []) ≡ 1
flag_is_worth_one Absent = rw missing_weighs_nothing refl
flag_is_worth_one Present = let e = weight_made (from_to 0 0) (kind.Bool true) [] in rw e refl
