-- A module that is read has a hashbang in one line, or none.
use Rattle.std.proofs.Common.{◌≡◌, ℕ, ◌+◌, ◌<◌, Bool, true, false, not, ◌||◌, cond, List, [], ◌∷◌, ◌++◌, length, nat_eq, Some, None, refl, sym, subst, arith}
use Rattle.std.specs.List.{list_all, list_any}
use Rattle.std.specs.Str.{IsUtf8, chars}
use Rattle.std.proofs.lemmas.Bool.{and_parts, eqb-true}
use Rattle.ecma_number.specs.Blanks.{is_line_terminator}
use Rattle.ecma_lex.specs.declared.tokens.Token.{Token}
use Rattle.ecma_lex.specs.Blanks.{line}
use Rattle.ecma_lex.specs.Hashbangs.{at_start, hashbang_end}
use Rattle.ecma_lex.specs.Parts.{char_at, code_point, ◌>>◌}
use Rattle.ecma_lex.specs.Text.{piece}
use Rattle.ecma_lex.specs.Tokens as lex
use Rattle.ecma_lex.proofs.Alike.{code_here}
use Rattle.ecma_lex.proofs.Comments.{line_ends, line_more, line_stops}
use Rattle.ecma_lex.proofs.Repeats.{between, none_some}
use Rattle.ecma_kind.specs.declared.kind.Kind.TheVariants as kind
use Rattle.ecma_tree.specs.declared.node.Node.{Node}
use Rattle.ecma_tree.specs.Nodes.{dummy_span, node_of}
use Rattle.ecma_grammar.specs.declared.production.Flag.TheVariants as flag
use Rattle.ecma_grammar.specs.declared.production.Form.TheVariants as form
use Rattle.ecma_grammar.specs.declared.production.Leaf.TheVariants as leaf
use Rattle.ecma_grammar.specs.declared.production.Mode.{Mode}
use Rattle.ecma_grammar.specs.declared.production.TokenKind.TheVariants as token_kind
use Rattle.ecma_grammar.specs.Grammar as grammar
use Rattle.ecma_grammar.specs.Grammar.{Grammar}
use Rattle.ecma_grammar.specs.Made.{made}
use Rattle.ecma_grammar.specs.Reading.{Position, Reading}
use Rattle.ecma_grammar.specs.Reads.{hashbang_token, kept_leaf, leaf_node, levels, next_start, reads, token}
use Rattle.ecma_grammar.specs.productions.Modules.{module_body, module_item}
use Rattle.ecma_grammar.specs.trees.Others.{text_of}
use Rattle.ecma_grammar.specs.trees.Parts.{flag_node, from_to, kind_of}
use Rattle.ecma_text_leaves.proofs.Leaves.{Holds, holds_read, holds_then}
use Rattle.ecma_text_leaves.proofs.Trees.{kind_made}
use Rattle.ecma_leaves.specs.Words.{is_hashbang, is_one_line, is_spelled}
use Rattle.ecma_text_fits_leaves.proofs.ReadingOf.{holds_built, holds_followed, holds_or}
use Rattle.ecma_text_fits_leaves.proofs.ReadLeaves.{holds_term}
use Rattle.ecma_text_fits_leaves.proofs.ReadRegexes.{Takes, all_pass, cut_behind}

-- characters that stand in one line
abbrev stays : ℕ → Bool
stays c = not (is_line_terminator c)

none_ends : (cs : List ℕ) → list_all stays cs ≡ true → not (list_any is_line_terminator cs) ≡ true
none_ends [] h = refl
none_ends (c ∷ cs) h = go (is_line_terminator c) (and_parts (stays c) (list_all stays cs) h) (none_ends cs)
  where
    go : (b : Bool) → (not b ≡ true) × (list_all stays cs ≡ true) → (list_all stays cs ≡ true → not (list_any is_line_terminator cs) ≡ true) → not (b || list_any is_line_terminator cs) ≡ true
    go true p f = let e = p.0 in cc
    go false p f = f p.1

kept : (b : Bool) → not b ≡ true → b ≡ false
kept true h = cc
kept false h = refl

ended : (b : Bool) → not b ≡ false → b ≡ true
ended true h = refl
ended false h = cc

line_takes : (text : List ℕ) → Takes text stays (line text)
line_takes text = record {
  ends = λ i e. line_ends text i e;
  stops = λ i c e f. line_stops text i c e (ended (is_line_terminator c) f);
  more = λ i c e f. sym (line_more text i c e (kept (is_line_terminator c) f));
}

abbrev pub IsHashbang : Node → Type 0
IsHashbang x = is_hashbang (text_of (kind_of x)) ≡ true

module _ (text : List ℕ) (u : IsUtf8 text) where
  first : (i j : ℕ) → at_start text i ≡ Some j → (i ≡ 0) × (j ≡ i)
  first i j h = go (nat_eq i 0) refl h
    where
      go : (b : Bool) → nat_eq i 0 ≡ b → cond b (Some i) None ≡ Some j → (i ≡ 0) × (j ≡ i)
      go true e k = let f : i ≡ j = cc in (eqb-true i 0 e, sym f)
      go false e k = none_some k

  one_line : (i j : ℕ) → hashbang_end text i ≡ Some j → is_one_line (piece text 2 j) ≡ true
  unfolding hashbang_end
  one_line i j h =
      let p = between text (code_point 35 >> code_point 33 >> line) (at_start text i) j h in
      let start = first i p.0 p.1 in
      let q = between text (code_point 33 >> line) (code_point 35 text p.0) j p.2 in
      let sign = code_here text 35 p.0 q.0 (omega arith) q.1 in
      let r = between text line (code_point 33 text q.0) j q.2 in
      let mark = code_here text 33 q.0 r.0 (omega arith) r.1 in
      let zero_at : i ≡ 0 = start.0 in
      let at : p.0 ≡ i = start.1 in
      let behind : q.0 ≡ p.0 + 1 = sign.1 in
      let beyond : r.0 ≡ q.0 + 1 = mark.1 in
      let one_at : q.0 ≡ 1 = omega arith in
      let two_at : r.0 ≡ 2 = omega arith in
      let stands : line text 2 ≡ Some j = subst (λ x. line text x ≡ Some j) two_at r.2 in
      let s = all_pass text u stays (line text) (line_takes text) j 2 (cut_behind text 1 33 u (omega arith) (subst (λ x. ◌≡◌ (char_at text x) (Some 33)) one_at mark.0)) stands in
      none_ends (chars (piece text 2 j)) s.1

  abbrev OneLine : Token → Type 0
  OneLine t = is_one_line (piece text 2 t.next) ≡ true

  hashbang_told : length text < 4294967296 → (s : Position) → Holds (leaf_node text leaf.Hashbang s) IsHashbang
  unfolding lex.hashbang
  hashbang_told small s =
      holds_then _ OneLine IsHashbang (hashbang_token text s) (holds_term text u small hashbang_end OneLine (λ i j b h. one_line i j h) s)
      (λ t p q. holds_read IsHashbang _ p (subst (λ k. is_hashbang (text_of k) ≡ true) (sym (kind_made (record { lo = t.start; hi = t.next }) (kind.IdentName (piece text 2 t.next)) [])) q))

-- a module: a hashbang or none, and its items

abbrev IsOne : List Node → Type 0
IsOne xs = (x : Node) × (xs ≡ x ∷ [])

abbrev IsEmpty : List Node → Type 0
IsEmpty xs = xs ≡ []

abbrev IsHead : List Node → Type 0
IsHead xs = (x : Node) × (xs ≡ x ∷ []) × IsHashbang x

abbrev IsHeaded : List Node → Type 0
IsHeaded xs = (x : Node) × (items : Node) × (xs ≡ x ∷ items ∷ []) × IsHashbang x

-- its own kind is spelled
abbrev pub IsModule : List Node → Type 0
IsModule xs = (x : Node) × (xs ≡ x ∷ []) × (is_spelled true (kind_of x) ≡ true)

items_alone : (xs ys : List Node) → IsOne xs → IsEmpty ys → IsOne (xs ++ ys)
items_alone xs ys p q = let e = p.1 in (p.0, rw (e, q) refl)

headed : (xs ys : List Node) → IsHead xs → IsOne ys → IsHeaded (xs ++ ys)
headed xs ys p q = let e = p.1 in let f = q.1 in (p.0, q.0, rw (e, f) refl, p.2)

module_made : (lo hi : ℕ) (xs : List Node) → IsHeaded xs → IsModule (made form.Module lo hi xs ∷ [])
module_made lo hi xs q =
    let k = kind.Module (text_of (kind_of q.0)) in
    let e = q.2 in
    rw e (node_of (from_to lo hi) k (q.1 ∷ []), refl, subst (λ z. is_spelled true z ≡ true) (sym (kind_made (from_to lo hi) k (q.1 ∷ []))) q.3)

module _ (text : List ℕ) (mode : Mode) (u : IsUtf8 text) (small : length text < 4294967296) (n : ℕ) where
  abbrev R : Grammar → Reading (List Node)
  R = reads text mode (levels text mode n)

  head_leaf : (s : Position) → Holds (kept_leaf text leaf.Hashbang s) IsHead
  head_leaf s = holds_then _ IsHashbang IsHead (leaf_node text leaf.Hashbang s) (hashbang_told text u small s) (λ x t q. holds_read IsHead (x ∷ []) t (x, refl, q))

  maybe_head : (s : Position) → Holds (R (grammar.maybe (grammar.keep leaf.Hashbang)) s) IsHead
  maybe_head s = holds_or IsHead (R (grammar.put flag.Absent)) s (kept_leaf text leaf.Hashbang s) (head_leaf s) (λ t. holds_read IsHead _ t (flag_node flag.Absent, refl, subst (λ k. is_hashbang (text_of k) ≡ true) (sym (kind_made dummy_span kind.Absent [])) refl))

  items_read : (s : Position) → Holds (R (grammar.list (grammar.many module_item)) s) IsOne
  items_read s = holds_built (λ xs. Unit {0}) IsOne form.List (next_start text s) (R (grammar.many module_item) s) (λ t xs e. tt) (λ hi xs q. (_, refl))

  end_read : (s : Position) → Holds (R (grammar.a token_kind.EndOfText) s) IsEmpty
  end_read s = holds_then _ (λ k. Unit {0}) IsEmpty (token text (grammar.any token_kind.EndOfText) s) (λ p x e. tt) (λ x t q. holds_read IsEmpty [] t refl)

  behind_head : (s : Position) → Holds (R (grammar.◌▸◌ (grammar.list (grammar.many module_item)) (grammar.a token_kind.EndOfText)) s) IsOne
  behind_head s = holds_followed IsOne IsEmpty IsOne (R (grammar.a token_kind.EndOfText)) (R (grammar.list (grammar.many module_item)) s) (items_read s) end_read items_alone

  pub module_told : (s : Position) → Holds (R module_body s) IsModule
  unfolding module_body
  module_told s = holds_built IsHeaded IsModule form.Module (next_start text s) _
      (holds_followed IsHead IsOne IsHeaded (R (grammar.◌▸◌ (grammar.list (grammar.many module_item)) (grammar.a token_kind.EndOfText))) (R (grammar.maybe (grammar.keep leaf.Hashbang)) s) (maybe_head s) behind_head headed)
      (λ hi xs q. module_made (next_start text s) hi xs q)
