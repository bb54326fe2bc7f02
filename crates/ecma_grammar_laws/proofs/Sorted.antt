-- What a grammar reads is as asked, by one induction over grammars and one over levels.
use Rattle.std.proofs.Common.{◌≡◌, ℕ, zero, suc, ◌+◌, max, Bool, true, false, cond, List, [], ◌∷◌, ◌++◌, length, refl, sym, subst, Ok}
use Rattle.ecma_lex.specs.declared.tokens.Token.{Token}
use Rattle.ecma_lex.specs.declared.blanks.Skipped.{Skipped}
use Rattle.ecma_lex.specs.Blanks.{skipped}
use Rattle.ecma_kind.specs.declared.shapes.Sort.TheVariants as sort
use Rattle.ecma_tree.specs.declared.node.Node.{Node}
use Rattle.ecma_grammar.specs.declared.production.Mode.{Mode}
use Rattle.ecma_grammar.specs.declared.production.Part.{Part}
use Rattle.ecma_grammar.specs.declared.production.Form.{Form}
use Rattle.ecma_grammar.specs.declared.production.Leaf.{Leaf}
use Rattle.ecma_grammar.specs.Grammar.{Grammar, nothing, same_line, take, keep, put, ◌▸◌, ◌//◌, many, ahead, unless, marked, assigned, up, enter, behind, build}
use Rattle.ecma_grammar.specs.Reading as reading
use Rattle.ecma_grammar.specs.Reading.{Position, Outcome, read, fails, too_deep, Reading, then_on, pure, with_front, followed_on, or_on, many_on, many_up_to, ahead_on, unless_on}
use Rattle.ecma_grammar.specs.Reads.{reads, levels, levels_by, Parts, built_on, token, next_start, same_line_on, kept_leaf}
use Rattle.ecma_grammar.specs.Made.{made}
use Rattle.ecma_grammar.specs.trees.Parts.{flag_node}
use Rattle.ecma_grammar.specs.PartBodies.{part_body}
use Rattle.ecma_grammar.specs.productions.Modules.{module_body}
use Rattle.ecma_grammar.specs.Modules.{answer_of, reads_module}
use Rattle.ecma_grammar_laws.specs.RawSorts.{HasRawSort}
use Rattle.ecma_grammar_laws.specs.Laws.{ModulesAreSorted}
use Rattle.ecma_grammar_laws.proofs.RawShapes.{both}
use Rattle.ecma_grammar_laws.proofs.Asks.{Asked, these, Given, all_given, first_part, second_part, of_many, none_asked, is_one, of_one}
use Rattle.ecma_grammar_laws.proofs.Needs.{a, keeps, part_keeps, width, leaf_kind, leaf_meets, flag_meets, needs}
use Rattle.ecma_grammar_laws.proofs.Given.{given_wider, given_both, given_none, given_more, given_one}
use Rattle.ecma_grammar_laws.proofs.Leaves.{leaf_meets_ask, flag_meets_ask}
use Rattle.ecma_grammar_laws.proofs.Makings.{form_made}
use Rattle.ecma_grammar_laws.proofs.Checks.{module_keeps, part_kept}

-- what an outcome reads is as asked
abbrev pub Reads : Asked → Outcome (List Node) → Type 0
Reads q o = (xs : List Node) (t : Position) → o ≡ read xs t → Given q xs

reads_this : (q : Asked) (xs : List Node) (s : Position) → Given q xs → Reads q (read xs s)
reads_this q xs s g ys t r = let e : xs ≡ ys = cc in subst (Given q) e g

reads_no : (q : Asked) (n : ℕ) → Reads q (fails n)
reads_no q n ys t r = cc

reads_none : (q : Asked) (n : ℕ) → Reads q (too_deep n)
reads_none q n ys t r = cc

-- something was read in front
reads_front : (p q r : Asked) (xs : List Node) → Given p xs → ((ys : List Node) → Given p xs → Given q ys → Given r (xs ++ ys)) → (o : Outcome (List Node)) → Reads q o → Reads r (with_front xs o)
reads_front p q r xs g join (read ys u) h = reads_this r (xs ++ ys) u (join ys g (h ys u refl))
reads_front p q r xs g join (fails n) h = reads_no r n
reads_front p q r xs g join (too_deep n) h = reads_none r n

reads_followed : (n : ℕ) (q : Asked) (p : Reading (List Node)) (o : Outcome (List Node)) → Reads (first_part n q) o → ((s : Position) → Reads (second_part n q) (p s)) → Reads q (followed_on p o)
reads_followed n q p (read xs u) h k = reads_front (first_part n q) (second_part n q) q xs (h xs u refl) (λ ys f g. given_both n q xs ys f g) (p u) (k u)
reads_followed n q p (fails m) h k = reads_no q m
reads_followed n q p (too_deep m) h k = reads_none q m

reads_or : (q : Asked) (p : Reading (List Node)) (s : Position) (o : Outcome (List Node)) → Reads q o → ((s : Position) → Reads q (p s)) → Reads q (or_on p s o)
reads_or q p s (read xs u) h k = h
reads_or q p s (fails n) h k = k (record { place = s.place; failed = n })
reads_or q p s (too_deep n) h k = reads_none q n

reads_many_on : (q : Asked) (s : Position) (rest : Reading (List Node)) (o : Outcome (List Node)) → none_asked q ≡ true → Reads (of_many q) o → ((s : Position) → Reads q (rest s)) → Reads q (many_on s rest o)
reads_many_on q s rest (read xs u) e h k = reads_front (of_many q) q q xs (h xs u refl) (λ ys f g. given_more q xs ys f g) (rest u) (k u)
reads_many_on q s rest (fails n) e h k = reads_this q [] (record { place = s.place; failed = n }) (given_none q e)
reads_many_on q s rest (too_deep n) e h k = reads_none q n

reads_many : (q : Asked) (p : Reading (List Node)) → none_asked q ≡ true → ((s : Position) → Reads (of_many q) (p s)) → (n : ℕ) (s : Position) → Reads q (many_up_to p n s)
unfolding many_up_to
reads_many q p e h zero s = reads_this q [] s (given_none q e)
reads_many q p e h (suc n) s = reads_many_on q s (many_up_to p n) (p s) e (h s) (λ u. reads_many q p e h n u)

reads_ahead : (q : Asked) (s : Position) (o : Outcome (List Node)) → none_asked q ≡ true → Reads q (ahead_on s o)
reads_ahead q s (read xs u) e = reads_this q [] (record { place = s.place; failed = u.failed }) (given_none q e)
reads_ahead q s (fails n) e = reads_no q n
reads_ahead q s (too_deep n) e = reads_none q n

reads_unless : (q : Asked) (s : Position) (o : Outcome (List Node)) → none_asked q ≡ true → Reads q (unless_on s o)
reads_unless q s (read xs u) e = reads_no q u.failed
reads_unless q s (fails n) e = reads_this q [] (record { place = s.place; failed = n }) (given_none q e)
reads_unless q s (too_deep n) e = reads_none q n

reads_marked : (q : Asked) (b : Bool) (p : Reading (List Node)) (s : Position) → Reads q (p s) → Reads q (reading.marked b p s)
reads_marked q true p s h = h
reads_marked q false p s h = reads_no q s.failed

reads_same_line : (q : Asked) (s : Position) (before : Skipped) → none_asked q ≡ true → Reads q (same_line_on s before)
reads_same_line q s before e = go before.new_line
  where
    go : (b : Bool) → Reads q (cond b (fails (max s.failed before.to)) (read [] s))
    go true = reads_no q (max s.failed before.to)
    go false = reads_this q [] s (given_none q e)

reads_then : (q : Asked) (f : Token → Reading (List Node)) (o : Outcome Token) → ((k : Token) (s : Position) → Reads q (f k s)) → Reads q (then_on f o)
reads_then q f (read k u) h = h k u
reads_then q f (fails n) h = reads_no q n
reads_then q f (too_deep n) h = reads_none q n

reads_built : (q : Asked) (form : Form) (lo : ℕ) (o : Outcome (List Node)) → is_one q ≡ true → Reads (needs form (of_one q)) o → Reads q (built_on form lo o)
reads_built q form lo (read xs u) e h = reads_this q (made form lo u.place xs ∷ []) u (given_one q (made form lo u.place xs) e (form_made form (of_one q) lo u.place xs (h xs u refl)))
reads_built q form lo (fails n) e h = reads_no q n
reads_built q form lo (too_deep n) e h = reads_none q n

module _ (text : List ℕ) (mode : Mode) where
  abbrev pub PartsKeep : Parts text → Type 0
  PartsKeep parts = (u : Part) (at : ℕ) (s : Position) → Reads (part_keeps u) (parts u at s)

  reads_part : (q : Asked) (u : Part) (o : Outcome (List Node)) → all_given (part_keeps u) q ≡ true → Reads (part_keeps u) o → Reads q o
  reads_part q u o e h xs t r = given_wider (part_keeps u) q xs e (h xs t r)

  reads_leaf : (l : Leaf) (q : Asked) (s : Position) → (is_one q ≡ true) × (leaf_meets (leaf_kind l) (of_one q) ≡ true) → Reads q (kept_leaf text l s)
  reads_leaf l q s e xs t r = let x = leaf_meets_ask text l (of_one q) e.1 s t xs r in subst (Given q) (sym x.1) (given_one q x.0 e.0 x.2)

  module _ (parts : Parts text) (h : PartsKeep parts) where
    pub as_asked : (g : Grammar) (q : Asked) → keeps g q ≡ true → (s : Position) → Reads q (reads text mode parts g s)
    as_asked nothing q e s = reads_this q [] s (given_none q e)
    as_asked same_line q e s = reads_same_line q s (skipped text s.place) e
    as_asked (take t) q e s = reads_then q (λ k. pure []) (token text t s) (λ k u. reads_this q [] u (given_none q e))
    as_asked (keep l) q e s = reads_leaf l q s (both (is_one q) (leaf_meets (leaf_kind l) (of_one q)) e)
    as_asked (put f) q e s = let w = both (is_one q) (flag_meets f (of_one q)) e in reads_this q (flag_node f ∷ []) s (given_one q (flag_node f) w.0 (flag_meets_ask f (of_one q) w.1))
    as_asked (b ▸ c) q e s =
        let w = both (keeps b (first_part (width b) q)) (keeps c (second_part (width b) q)) e in
        reads_followed (width b) q (reads text mode parts c) (reads text mode parts b s) (as_asked b (first_part (width b) q) w.0 s) (as_asked c (second_part (width b) q) w.1)
    as_asked (b // c) q e s = let w = both (keeps b q) (keeps c q) e in reads_or q (reads text mode parts c) s (reads text mode parts b s) (as_asked b q w.0 s) (as_asked c q w.1)
    as_asked (many b) q e s = let w = both (keeps b (of_many q)) (none_asked q) e in reads_many q (reads text mode parts b) w.1 (as_asked b (of_many q) w.0) (length text + 1) s
    as_asked (ahead b) q e s = reads_ahead q s (reads text mode parts b s) e
    as_asked (unless nothing) q e s = reads_no q s.failed
    as_asked (unless b) q e s = reads_unless q s (reads text mode parts b s) e
    as_asked (marked b) q e s = reads_marked q mode.typescript (reads text mode parts b) s (as_asked b q e s)
    as_asked (assigned b) q e s = reads_marked q mode.assignments (reads text mode parts b) s (as_asked b q e s)
    as_asked (up u) q e s = reads_part q u (parts u s.place s) e (h u s.place s)
    as_asked (enter u) q e s = reads_part q u (parts u (next_start text s) s) e (h u (next_start text s) s)
    as_asked (behind t u) q e s = reads_then q (λ k. parts u k.start) (token text t s) (λ k v. reads_part q u (parts u k.start v) e (h u k.start v))
    as_asked (build f b) q e s = let w = both (is_one q) (keeps b (needs f (of_one q))) e in reads_built q f (next_start text s) (reads text mode parts b s) w.0 (as_asked b (needs f (of_one q)) w.1 s)

  pub levels_keep : (n : ℕ) → PartsKeep (levels text mode n)
  unfolding levels_by
  levels_keep zero u at s = reads_none (part_keeps u) at
  levels_keep (suc n) u at s = as_asked (levels text mode n) (levels_keep n) (part_body u) (part_keeps u) (part_kept u) s

  one_sorted : (o : Outcome (List Node)) → Reads (these (a sort.Module ∷ [])) o → (tree : Node) → answer_of o ≡ Ok tree → HasRawSort sort.Module tree
  one_sorted (read xs u) h tree e = go xs (h xs u refl) e
    where
      go : (xs : List Node) → Given (these (a sort.Module ∷ [])) xs → answer_of (read xs u) ≡ Ok tree → HasRawSort sort.Module tree
      go [] m r = absurd m
      go (x ∷ []) m r = let is : x ≡ tree = cc in subst (HasRawSort sort.Module) is m.0
      go (x ∷ y ∷ ys) m r = absurd m.1
  one_sorted (fails n) h tree e = cc
  one_sorted (too_deep n) h tree e = cc

pub modules_sorted : ModulesAreSorted
modules_sorted text mode bound tree e =
    one_sorted text mode (reads_module text mode bound)
    (as_asked text mode (levels text mode bound) (levels_keep text mode bound) module_body (these (a sort.Module ∷ [])) module_keeps (record { place = 0; failed = 0 })) tree e
