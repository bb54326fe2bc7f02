-- The identifiers of what is read are pieces of the text, so none is longer.
use Rattle.std.proofs.Common.{◌≡◌, ◌≤◌, ◌<◌, ℕ, ◌+◌, ◌-◌, Bool, true, false, ◌&&◌, cond, codes, drop, take, List, [], length, nat_le, refl, sym, subst, arith, Ok}
use Rattle.std.proofs.lemmas.Bool.{lt-ltb}
use Rattle.std.proofs.lemmas.List.{length-drop, length-take}
use Rattle.std.proofs.Math.Nat.{min-le_right}
use Rattle.ecma_lex.specs.Text.{cuts, piece}
use Rattle.ecma_lex.specs.declared.tokens.Token.{Token}
use Rattle.ecma_kind.specs.declared.kind.Kind.{Kind}
use Rattle.ecma_kind.specs.declared.kind.Kind.TheVariants as kind
use Rattle.ecma_tree.specs.declared.node.Node.{Node}
use Rattle.ecma_grammar.specs.declared.production.Leaf.{Leaf}
use Rattle.ecma_grammar.specs.declared.production.Leaf.TheVariants as leaf
use Rattle.ecma_grammar.specs.declared.production.Mode.{Mode}
use Rattle.ecma_grammar.specs.declared.production.TokenKind.TheVariants as token_kind
use Rattle.ecma_grammar.specs.trees.Functions.{questioned_kind}
use Rattle.ecma_grammar.specs.trees.Others.{the_one}
use Rattle.ecma_grammar.specs.trees.Parts.{framed}
use Rattle.ecma_grammar.specs.Made.{at_token}
use Rattle.ecma_grammar.specs.Modules as grammar
use Rattle.ecma_grammar.specs.Modules.{reads_module}
use Rattle.ecma_grammar.specs.Reading.{Position, Outcome, Reading, fails, pure, read, too_deep, ◌>>=◌}
use Rattle.ecma_grammar.specs.Reads.{any_token, hashbang_token, leaf_node, regex_token, template_part, word_token}
use Rattle.ecma_rules.specs.declared.target.Target.TheVariants as target
use Rattle.ecma_text_leaves.specs.Everywhere.{more, none}
use Rattle.ecma_text_leaves.proofs.Forms.{is_leaf}
use Rattle.ecma_text_leaves.proofs.Leaves.{Holds, holds_read, holds_then}
use Rattle.ecma_text_leaves.proofs.Trees.{good_framed}
use Rattle.ecma_text_fits_finished.proofs.Everywhere.{finished_good}
use Rattle.ecma_text_types.proofs.Raws.{of_raw}
use Rattle.ecma_text_fits_leaves.proofs.ReadingOf.{read_holds}
use Rattle.ecma_raw_roles.proofs.Walks.{not_true}
use Rattle.ecma_pipeline_names.specs.Laws.{NamesThatAreReadAreShort}
use Rattle.ecma_hygiene_fits.specs.Spelled.{NoneLong}
use Rattle.ecma_pipeline_names.proofs.Throughout.{All, Good, IsShort, missing, node_good, none_long}

-- what stands between two places of a text is no longer than it
piece_length : (text : List ℕ) (i j : ℕ) → length (piece text i j) ≤ length text
piece_length text i j = go (nat_le i j && (cuts text i && cuts text j))
  where
    taken : length (take (j - i) (drop i text)) ≤ length text
    taken =
        let t = length-take (j - i) (drop i text) in
        let d = length-drop i text in
        let m = min-le_right (j - i) (length (drop i text)) in
        omega (arith, t, d, m)

    go : (b : Bool) → length (cond b (take (j - i) (drop i text)) []) ≤ length text
    go true = taken
    go false = omega arith

-- ---- kinds

other_short : (k : Kind) → is_leaf k ≡ false → IsShort k
other_short (kind.Ident text ctxt optional) h = not_true (sym h)
other_short _ h = refl

question_short : (optional : Bool) (k : Kind) → IsShort k → IsShort (questioned_kind optional k)
question_short optional (kind.Ident text ctxt before) h = h
question_short optional _ h = refl

-- ---- leaves

module _ (text : List ℕ) (short : length text + 64 < 4294967296) where
  ident_short : (t : Token) → IsShort (kind.Ident (piece text t.start t.next) 0 false)
  ident_short t =
      let at_most = piece_length text t.start t.next in
      let less : length (piece text t.start t.next) + 64 < 4294967296 = omega (arith, at_most, short) in
      let so = lt-ltb (length (piece text t.start t.next) + 64) 4294967296 less in
      rw so refl

  leaf_at : (t : Token) (k : Kind) → IsShort k → Good (at_token t k)
  leaf_at t k p = node_good (record { lo = t.start; hi = t.next }) k p none

  any_leaf : {A : Type 0} (p : Reading A) (f : A → Node) (s : Position) → ((x : A) → Good (f x)) → Holds ((p >>= λ x. pure (f x)) s) Good
  any_leaf p f s g = holds_then (λ x. pure (f x)) (λ x. Unit {0}) Good (p s) (λ t x e. tt) (λ x t q. holds_read Good (f x) t (g x))

  leaf_good : (l : Leaf) (s : Position) → Holds (leaf_node text l s) Good
  leaf_good leaf.Ident s = any_leaf (any_token text token_kind.Name) _ s (λ t. leaf_at t _ (ident_short t))
  leaf_good leaf.KeyIdent s = any_leaf (any_token text token_kind.Key) _ s (λ t. leaf_at t _ (ident_short t))
  leaf_good leaf.ThisIdent s = any_leaf (word_token text (codes "this")) _ s (λ t. leaf_at t _ (ident_short t))
  leaf_good leaf.IdentName s = any_leaf (any_token text token_kind.Key) _ s (λ t. leaf_at t _ refl)
  leaf_good leaf.PrivateName s = any_leaf (any_token text token_kind.PrivateName) _ s (λ t. leaf_at t _ refl)
  leaf_good leaf.Str s = any_leaf (any_token text token_kind.Str) _ s (λ t. leaf_at t _ refl)
  leaf_good leaf.Number s = any_leaf (any_token text token_kind.Number) _ s (λ t. leaf_at t _ refl)
  leaf_good leaf.BigInt s = any_leaf (any_token text token_kind.BigInt) _ s (λ t. leaf_at t _ refl)
  leaf_good leaf.Regex s = any_leaf (regex_token text) _ s (λ t. leaf_at t _ refl)
  leaf_good (leaf.TplElement wanted) s = any_leaf (template_part text wanted) _ s (λ part. leaf_at part.token _ refl)
  leaf_good leaf.This s = any_leaf (word_token text (codes "this")) _ s (λ t. leaf_at t kind.ThisExpr refl)
  leaf_good leaf.Null s = any_leaf (word_token text (codes "null")) _ s (λ t. leaf_at t kind.Null refl)
  leaf_good leaf.True s = any_leaf (word_token text (codes "true")) _ s (λ t. leaf_at t (kind.Bool true) refl)
  leaf_good leaf.False s = any_leaf (word_token text (codes "false")) _ s (λ t. leaf_at t (kind.Bool false) refl)
  leaf_good leaf.Super s = any_leaf (word_token text (codes "super")) _ s (λ t. leaf_at t kind.Super refl)
  leaf_good leaf.Import s = any_leaf (word_token text (codes "import")) _ s (λ t. leaf_at t kind.Import refl)
  leaf_good leaf.Hashbang s = any_leaf (hashbang_token text) _ s (λ t. leaf_at t _ refl)

-- ---- trees

one_good : {xs : List Node} → All xs → Good (the_one xs)
one_good none = missing
one_good (more a none) = a
one_good (more a (more b h)) = missing

raw_good : (text : List ℕ) (mode : Mode) (bound : ℕ) (raw : Node) → length text + 64 < 4294967296 → grammar.answer_of (reads_module text mode bound) ≡ Ok raw → Good raw
raw_good text mode bound raw short e =
    by_outcome (reads_module text mode bound) (read_holds IsShort other_short question_short text mode (λ l s h. leaf_good text short l s) bound (record { place = 0; failed = 0 })) e
  where
    by_outcome : (o : Outcome (List Node)) → ((s : Position) (xs : List Node) → o ≡ read xs s → All xs) → grammar.answer_of o ≡ Ok raw → Good raw
    by_outcome (read xs s) h f =
        let is : framed 1 the_one xs ≡ raw = cc in
        subst Good is (good_framed IsShort refl 1 the_one (h s xs refl) (λ all. one_good all))
    by_outcome (fails at) h f = cc
    by_outcome (too_deep at) h f = cc

pub names_read : NamesThatAreReadAreShort
names_read text mode bound tree short e =
    of_raw NoneLong text mode bound tree
    (λ raw h b is. none_long tree (subst Good is (finished_good IsShort refl refl refl refl refl refl refl refl raw (raw_good text mode bound raw short h) target.Free))) e
