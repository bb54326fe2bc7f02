-- What stands behind `#!` in what is read as a module is UTF-8.
use Rattle.std.proofs.Common.{◌≡◌, ℕ, false, List, [], ◌∷◌, ◌++◌, Ok, refl, sym, subst}
use Rattle.std.specs.Str.{IsUtf8}
use Rattle.ecma_kind.specs.declared.kind.Kind.TheVariants as kind
use Rattle.ecma_tree.specs.declared.node.Node.{Node}
use Rattle.ecma_tree.specs.Nodes.{dummy_span, node_of}
use Rattle.ecma_grammar.specs.declared.production.Flag.TheVariants as flag
use Rattle.ecma_grammar.specs.declared.production.Form.TheVariants as form
use Rattle.ecma_grammar.specs.declared.production.Leaf.TheVariants as leaf
use Rattle.ecma_grammar.specs.declared.production.Mode.{Mode}
use Rattle.ecma_grammar.specs.declared.production.TokenKind.TheVariants as token_kind
use Rattle.ecma_grammar.specs.Grammar as grammar
use Rattle.ecma_grammar.specs.Grammar.{Grammar}
use Rattle.ecma_grammar.specs.Made.{made}
use Rattle.ecma_grammar.specs.Modules as modules
use Rattle.ecma_grammar.specs.Modules.{reads_module}
use Rattle.ecma_grammar.specs.Reading.{Outcome, Position, Reading, fails, read, too_deep}
use Rattle.ecma_grammar.specs.Reads.{kept_leaf, leaf_node, levels, next_start, reads, token}
use Rattle.ecma_grammar.specs.productions.Modules.{module_body, module_item}
use Rattle.ecma_grammar.specs.trees.Others.{text_of}
use Rattle.ecma_grammar.specs.trees.Parts.{flag_node, from_to, kind_of}
use Rattle.ecma_modules.specs.Modules.{reads_as}
use Rattle.ecma_text_leaves.specs.Everywhere.{Everywhere}
use Rattle.ecma_text_leaves.proofs.Leaves.{Holds, holds_read, holds_then}
use Rattle.ecma_text_leaves.proofs.Trees.{kind_good, kind_made}
use Rattle.ecma_text_types.proofs.Raws.{of_raw}
use Rattle.ecma_text_fits_leaves.proofs.ReadingOf.{holds_built, holds_followed, holds_or}
use Rattle.ecma_raw_roles.proofs.Walks.{free_kind}
use Rattle.ecma_plain.specs.Items.{HasUtf8Hashbang}
use Rattle.ecma_text_plain.proofs.Bare.{leaf_plain}
use Rattle.ecma_text_plain.proofs.PlainKinds.{IsPlain, hashbang_read, hashbang_utf8}

-- a module with this hashbang
abbrev IsHashbang : Node → Type 0
IsHashbang x = HasUtf8Hashbang (kind.Module (text_of (kind_of x)))

abbrev IsOne : List Node → Type 0
IsOne xs = (x : Node) × (xs ≡ x ∷ [])

abbrev IsEmpty : List Node → Type 0
IsEmpty xs = xs ≡ []

abbrev IsHead : List Node → Type 0
IsHead xs = (x : Node) × (xs ≡ x ∷ []) × IsHashbang x

abbrev IsHeaded : List Node → Type 0
IsHeaded xs = (x : Node) × (items : Node) × (xs ≡ x ∷ items ∷ []) × IsHashbang x

abbrev IsModule : List Node → Type 0
IsModule xs = (x : Node) × (xs ≡ x ∷ []) × HasUtf8Hashbang (kind_of x)

items_alone : (xs ys : List Node) → IsOne xs → IsEmpty ys → IsOne (xs ++ ys)
items_alone xs ys p q = let e = p.1 in (p.0, rw (e, q) refl)

headed : (xs ys : List Node) → IsHead xs → IsOne ys → IsHeaded (xs ++ ys)
headed xs ys p q = let e = p.1 in let f = q.1 in (p.0, q.0, rw (e, f) refl, p.2)

module_made : (lo hi : ℕ) (xs : List Node) → IsHeaded xs → IsModule (made form.Module lo hi xs ∷ [])
module_made lo hi xs q =
    let k = kind.Module (text_of (kind_of q.0)) in
    let e = q.2 in
    rw e (node_of (from_to lo hi) k (q.1 ∷ []), refl, subst HasUtf8Hashbang (sym (kind_made (from_to lo hi) k (q.1 ∷ []))) q.3)

module _ (text : List ℕ) (u : IsUtf8 text) (mode : Mode) (bound : ℕ) where
  abbrev R : Grammar → Reading (List Node)
  R = reads text mode (levels text mode bound)

  head_leaf : (s : Position) → Holds (kept_leaf text leaf.Hashbang s) IsHead
  head_leaf s =
      holds_then _ (Everywhere (IsPlain false)) IsHead (leaf_node text leaf.Hashbang s) (leaf_plain text u leaf.Hashbang s)
      (λ x t q. holds_read IsHead (x ∷ []) t (x, refl, hashbang_utf8 (kind.Module (text_of (kind_of x))) (hashbang_read (kind_of x) (kind_good (IsPlain false) q).0)))

  maybe_head : (s : Position) → Holds (R (grammar.maybe (grammar.keep leaf.Hashbang)) s) IsHead
  maybe_head s =
      holds_or IsHead (R (grammar.put flag.Absent)) s (kept_leaf text leaf.Hashbang s) (head_leaf s)
      (λ t. holds_read IsHead _ t (flag_node flag.Absent, refl, subst (λ k. HasUtf8Hashbang (kind.Module (text_of k))) (sym (kind_made dummy_span kind.Absent [])) tt))

  items_read : (s : Position) → Holds (R (grammar.list (grammar.many module_item)) s) IsOne
  items_read s = holds_built (λ xs. Unit {0}) IsOne form.List (next_start text s) (R (grammar.many module_item) s) (λ t xs e. tt) (λ hi xs q. (_, refl))

  end_read : (s : Position) → Holds (R (grammar.a token_kind.EndOfText) s) IsEmpty
  end_read s = holds_then _ (λ k. Unit {0}) IsEmpty (token text (grammar.any token_kind.EndOfText) s) (λ p x e. tt) (λ x t q. holds_read IsEmpty [] t refl)

  behind_head : (s : Position) → Holds (R (grammar.◌▸◌ (grammar.list (grammar.many module_item)) (grammar.a token_kind.EndOfText)) s) IsOne
  behind_head s = holds_followed IsOne IsEmpty IsOne (R (grammar.a token_kind.EndOfText)) (R (grammar.list (grammar.many module_item)) s) (items_read s) end_read items_alone

  body_read : (s : Position) → Holds (R module_body s) IsModule
  unfolding module_body
  body_read s = holds_built IsHeaded IsModule form.Module (next_start text s) _
      (holds_followed IsHead IsOne IsHeaded (R (grammar.◌▸◌ (grammar.list (grammar.many module_item)) (grammar.a token_kind.EndOfText))) (R (grammar.maybe (grammar.keep leaf.Hashbang)) s) (maybe_head s) behind_head headed)
      (λ hi xs q. module_made (next_start text s) hi xs q)

  raw_utf8 : (raw : Node) → modules.answer_of (reads_module text mode bound) ≡ Ok raw → HasUtf8Hashbang (kind_of raw)
  raw_utf8 raw e = by_outcome (reads_module text mode bound) (body_read (record { place = 0; failed = 0 })) e
    where
      by_outcome : (o : Outcome (List Node)) → ((s : Position) (xs : List Node) → o ≡ read xs s → IsModule xs) → modules.answer_of o ≡ Ok raw → HasUtf8Hashbang (kind_of raw)
      by_outcome (read xs s) h f =
          let t = h s xs refl in
          let one : xs ≡ t.0 ∷ [] = t.1 in
          let is : t.0 ≡ raw = (let g = rw one at f in cc) in
          subst (λ (n : Node). HasUtf8Hashbang (kind_of n)) is t.2
      by_outcome (fails at) h f = cc
      by_outcome (too_deep at) h f = cc

-- in either mode
pub read_utf8 : (text : List ℕ) (mode : Mode) (bound : ℕ) (tree : Node) → IsUtf8 text → reads_as text mode bound ≡ Ok tree → HasUtf8Hashbang (kind_of tree)
read_utf8 text mode bound tree u e =
    of_raw (λ (n : Node). HasUtf8Hashbang (kind_of n)) text mode bound tree
    (λ raw h b is. subst (λ (n : Node). HasUtf8Hashbang (kind_of n)) is (subst HasUtf8Hashbang (sym (free_kind raw)) (raw_utf8 text u mode bound raw h))) e
