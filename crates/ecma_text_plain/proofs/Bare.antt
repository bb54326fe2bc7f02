-- The leaves of what is read have UTF-8 texts, no context and their source texts.
use Rattle.std.proofs.Common.{◌≡◌, ℕ, ◌+◌, ◌-◌, Bool, true, false, ◌&&◌, cond, List, [], ◌∷◌, ◌++◌, codes, drop, nat_eq, nat_le, refl, slice_get, subst, sym, take, arith, Some, None, Ok}
use Rattle.std.specs.Str.{IsUtf8, chars}
use lib.Utf8.{scalar, scalars}
use Rattle.std.proofs.lemmas.Bool.{and_parts}
use Rattle.std.proofs.lemmas.Str.{IsUtf8-nil, scalars-chars}
use Rattle.ecma_lex.specs.Escapes.{listed}
use Rattle.ecma_lex.specs.Templates.{is_line_feed, line_feeds, template_raw}
use Rattle.ecma_lex.specs.Text.{cuts, piece}
use Rattle.ecma_lex.specs.declared.tokens.Token.{Token}
use Rattle.ecma_kind.specs.declared.kind.Kind.{Kind}
use Rattle.ecma_kind.specs.declared.kind.Kind.TheVariants as kind
use Rattle.ecma_tree.specs.declared.node.Node.{Node}
use Rattle.ecma_tree.specs.Nodes.{absent}
use Rattle.ecma_grammar.specs.declared.production.Leaf.{Leaf}
use Rattle.ecma_grammar.specs.declared.production.Leaf.TheVariants as leaf
use Rattle.ecma_grammar.specs.declared.production.Mode.{Mode}
use Rattle.ecma_grammar.specs.declared.production.TokenKind.TheVariants as token_kind
use Rattle.ecma_grammar.specs.trees.Functions.{questioned_kind}
use Rattle.ecma_grammar.specs.trees.Others.{the_one}
use Rattle.ecma_grammar.specs.trees.Parts.{framed}
use Rattle.ecma_grammar.specs.Made.{at_token}
use Rattle.ecma_grammar.specs.Modules as grammar
use Rattle.ecma_grammar.specs.Modules.{reads_module}
use Rattle.ecma_grammar.specs.Reading.{Position, Outcome, Reading, fails, pure, read, too_deep, ◌>>=◌}
use Rattle.ecma_grammar.specs.Reads.{any_token, leaf_node, hashbang_token, part_inside, regex_token, template_part, word_token}
use Rattle.ecma_rules.specs.declared.target.Target.TheVariants as target
use Rattle.ecma_text_leaves.specs.Everywhere.{Each, Everywhere, more, none}
use Rattle.ecma_text_leaves.proofs.Forms.{is_leaf}
use Rattle.ecma_text_leaves.proofs.Leaves.{Holds, holds_read, holds_then}
use Rattle.ecma_text_leaves.proofs.Trees.{good_absent, good_framed, good_node}
use Rattle.ecma_text_fits_finished.proofs.Everywhere.{finished_good}
use Rattle.ecma_text_fits_leaves.proofs.LineFeeds.{piece_parts}
use Rattle.ecma_text_types.proofs.Raws.{of_raw}
use Rattle.ecma_text_fits_leaves.proofs.ReadingOf.{is_hashbang, read_holds}
use Rattle.ecma_raw_roles.proofs.Walks.{not_true}
use Rattle.ecma_plain.specs.Forms.{IsBareUnquestioned}
use Rattle.ecma_text_plain.specs.Laws.{ReadLeavesAreBare}
use Rattle.ecma_text_plain.proofs.PlainKinds.{IsPlain, everywhere_also}

-- what stands between two places of a text is UTF-8, as nothing is where it may not be cut
pub piece_utf8 : (text : List ℕ) → IsUtf8 text → (i j : ℕ) → IsUtf8 (piece text i j)
piece_utf8 text u i j = go (nat_le i j) (cuts text i) (cuts text j) refl refl refl
  where
    go : (l a b : Bool) → nat_le i j ≡ l → cuts text i ≡ a → cuts text j ≡ b → IsUtf8 (cond (l && (a && b)) (take (j - i) (drop i text)) [])
    go true true true x y z = let is : piece text i j ≡ take (j - i) (drop i text) = rw (x, y, z) refl in subst IsUtf8 is (piece_parts text i j u y z (grind arith)).0
    go true true false x y z = IsUtf8-nil
    go true false b x y z = IsUtf8-nil
    go false a b x y z = IsUtf8-nil

-- the raw value of a text part is UTF-8

abbrev fed_front : Bool → Bool → ℕ → List ℕ → List ℕ
fed_front r f c cs = listed (cond r (cond f None (Some 10)) (Some c)) ++ cs

scalars_fed : (r f : Bool) (c : ℕ) (cs : List ℕ) → scalar c ≡ true → scalars cs ≡ true → scalars (fed_front r f c cs) ≡ true
scalars_fed true true c cs h g = g
scalars_fed true false c cs h g = g
scalars_fed false f c cs h g = rw (h, g) refl

scalars_feeds : (cs : List ℕ) → scalars cs ≡ true → scalars (line_feeds cs) ≡ true
scalars_feeds [] h = refl
scalars_feeds (c ∷ cs) h = let p = and_parts (scalar c) (scalars cs) h in scalars_fed (nat_eq c 13) (is_line_feed (slice_get cs 0)) c (line_feeds cs) p.0 (scalars_feeds cs p.1)

raw_utf8 : (inside : List ℕ) → IsUtf8 inside → IsUtf8 (template_raw inside)
unfolding template_raw
raw_utf8 inside u = (line_feeds (chars inside), (scalars_feeds (chars inside) (scalars-chars inside u), refl))

-- kinds

bare_other : (k : Kind) → is_leaf k ≡ false → IsBareUnquestioned k
bare_other (kind.Ident text ctxt optional) h = not_true (sym h)
bare_other (kind.IdentName text) h = not_true (sym h)
bare_other (kind.PrivateName text) h = not_true (sym h)
bare_other (kind.Str value raw) h = not_true (sym h)
bare_other (kind.Number value raw) h = not_true (sym h)
bare_other (kind.BigInt value raw) h = not_true (sym h)
bare_other (kind.Regex exp flags) h = not_true (sym h)
bare_other (kind.TplElement raw cooked tail) h = not_true (sym h)
bare_other _ h = tt

bare_question : (optional : Bool) (k : Kind) → IsBareUnquestioned k → IsBareUnquestioned (questioned_kind optional k)
bare_question optional (kind.Ident text ctxt before) p = p
bare_question optional (kind.ArrayPat before) p = tt
bare_question optional (kind.ObjectPat before) p = tt
bare_question optional _ p = p

-- what a kind that is a leaf of plain modules is
bare_leaf : (k : Kind) → IsPlain false k → IsBareUnquestioned k
bare_leaf (kind.Ident text ctxt optional) p = let b = p.0 in (b.0, b.1, refl)
bare_leaf (kind.ArrayPat optional) p = tt
bare_leaf (kind.ObjectPat optional) p = tt
bare_leaf (kind.Module shebang) p = tt
bare_leaf _ p = p.0

abbrev Good : Node → Type 0
Good = Everywhere IsBareUnquestioned

module _ (text : List ℕ) (u : IsUtf8 text) where
  some_text : (i j : ℕ) → IsUtf8 (piece text i j)
  some_text = piece_utf8 text u

  leaf_at : (t : Token) (k : Kind) → (IsPlain false) k → (Everywhere (IsPlain false)) (at_token t k)
  leaf_at t k h = good_node (IsPlain false) (record { lo = t.start; hi = t.next }) k [] h none

  any_leaf : {A : Type 0} (p : Reading A) (f : A → Node) (s : Position) → ((x : A) → (Everywhere (IsPlain false)) (f x)) → Holds ((p >>= λ x. pure (f x)) s) (Everywhere (IsPlain false))
  any_leaf p f s g = holds_then (λ x. pure (f x)) (λ x. Unit {0}) (Everywhere (IsPlain false)) (p s) (λ t x e. tt) (λ x t q. holds_read (Everywhere (IsPlain false)) (f x) t (g x))

  pub leaf_plain : (l : Leaf) (s : Position) → Holds (leaf_node text l s) (Everywhere (IsPlain false))
  leaf_plain leaf.Ident s = any_leaf (any_token text token_kind.Name) _ s (λ t. leaf_at t _ ((some_text t.start t.next, refl, refl), refl))
  leaf_plain leaf.KeyIdent s = any_leaf (any_token text token_kind.Key) _ s (λ t. leaf_at t _ ((some_text t.start t.next, refl, refl), refl))
  leaf_plain leaf.ThisIdent s = any_leaf (word_token text (codes "this")) _ s (λ t. leaf_at t _ ((some_text t.start t.next, refl, refl), refl))
  leaf_plain leaf.IdentName s = any_leaf (any_token text token_kind.Key) _ s (λ t. leaf_at t _ (some_text t.start t.next, refl))
  leaf_plain leaf.PrivateName s = any_leaf (any_token text token_kind.PrivateName) _ s (λ t. leaf_at t _ (some_text (t.start + 1) t.next, refl))
  leaf_plain leaf.Str s = any_leaf (any_token text token_kind.Str) _ s (λ t. leaf_at t _ (some_text t.start t.next, refl))
  leaf_plain leaf.Number s = any_leaf (any_token text token_kind.Number) _ s (λ t. leaf_at t _ (some_text t.start t.next, refl))
  leaf_plain leaf.BigInt s = any_leaf (any_token text token_kind.BigInt) _ s (λ t. leaf_at t _ (some_text t.start t.next, refl))
  leaf_plain leaf.Regex s = any_leaf (regex_token text) _ s (λ t. leaf_at t _ ((some_text _ _, some_text _ _), refl))
  leaf_plain (leaf.TplElement wanted) s = any_leaf (template_part text wanted) _ s (λ part. leaf_at part.token _ (raw_utf8 (part_inside text part) (some_text _ _), refl))
  leaf_plain leaf.This s = any_leaf (word_token text (codes "this")) _ s (λ t. leaf_at t kind.ThisExpr (tt, refl))
  leaf_plain leaf.Null s = any_leaf (word_token text (codes "null")) _ s (λ t. leaf_at t kind.Null (tt, refl))
  leaf_plain leaf.True s = any_leaf (word_token text (codes "true")) _ s (λ t. leaf_at t (kind.Bool true) (tt, refl))
  leaf_plain leaf.False s = any_leaf (word_token text (codes "false")) _ s (λ t. leaf_at t (kind.Bool false) (tt, refl))
  leaf_plain leaf.Super s = any_leaf (word_token text (codes "super")) _ s (λ t. leaf_at t kind.Super (tt, refl))
  leaf_plain leaf.Import s = any_leaf (word_token text (codes "import")) _ s (λ t. leaf_at t kind.Import (tt, refl))
  leaf_plain leaf.Hashbang s = any_leaf (hashbang_token text) _ s (λ t. leaf_at t _ (some_text 2 t.next, refl))

  leaf_bare : (l : Leaf) (s : Position) → is_hashbang l ≡ false → Holds (leaf_node text l s) Good
  leaf_bare l s h t x e = everywhere_also (IsPlain false) IsBareUnquestioned bare_leaf (leaf_plain l s t x e)

missing : Good absent
missing = good_absent IsBareUnquestioned tt

one_good : {xs : List Node} → Each IsBareUnquestioned xs → Good (the_one xs)
one_good none = missing
one_good (more a none) = a
one_good (more a (more b h)) = missing

raw_bare : (text : List ℕ) (mode : Mode) (bound : ℕ) (raw : Node) → IsUtf8 text → grammar.answer_of (reads_module text mode bound) ≡ Ok raw → Good raw
raw_bare text mode bound raw u e = by_outcome (reads_module text mode bound) (read_holds IsBareUnquestioned bare_other bare_question text mode (leaf_bare text u) bound (record { place = 0; failed = 0 })) e
  where
    by_outcome : (o : Outcome (List Node)) → ((s : Position) (xs : List Node) → o ≡ read xs s → Each IsBareUnquestioned xs) → grammar.answer_of o ≡ Ok raw → Good raw
    by_outcome (read xs s) h f =
        let is : framed 1 the_one xs ≡ raw = cc in
        subst Good is (good_framed IsBareUnquestioned tt 1 the_one (h s xs refl) (λ all. one_good all))
    by_outcome (fails at) h f = cc
    by_outcome (too_deep at) h f = cc

pub read_bare : ReadLeavesAreBare
read_bare text mode bound tree u e =
    of_raw Good text mode bound tree
    (λ raw h b is. subst Good is (finished_good IsBareUnquestioned tt tt tt tt tt tt tt tt raw (raw_bare text mode bound raw u h) target.Free)) e

pub ruleset leaves_bare = (read_bare)
