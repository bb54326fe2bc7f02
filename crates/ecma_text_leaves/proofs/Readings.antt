-- What is read is spelled, by one induction over grammars and one over levels.
use Rattle.std.proofs.Common.{◌≡◌, ℕ, zero, suc, ◌+◌, Bool, true, false, ◌&&◌, List, [], ◌∷◌, ◌++◌, length, refl, max}
use Rattle.std.specs.Prelude.{if◌then◌else◌}
use Rattle.std.specs.Str.{IsUtf8}
use Rattle.std.proofs.lemmas.Bool.{and_parts}
use Rattle.ecma_lex.specs.declared.blanks.Skipped.{Skipped}
use Rattle.ecma_lex.specs.Blanks.{skipped}
use Rattle.ecma_kind.specs.declared.operators.BinaryOp.{BinaryOp}
use Rattle.ecma_kind.specs.declared.operators.BinaryOp.TheVariants as binary
use Rattle.ecma_kind.specs.declared.kind.Kind.{Kind}
use Rattle.ecma_kind.specs.declared.kind.Kind.TheVariants as kind
use Rattle.ecma_tree.specs.declared.node.Node.{Node}
use Rattle.ecma_grammar.specs.declared.production.Mode.{Mode}
use Rattle.ecma_grammar.specs.declared.production.Part.{Part}
use Rattle.ecma_grammar.specs.declared.production.Part.TheVariants as part
use Rattle.ecma_grammar.specs.declared.production.Link.{Link}
use Rattle.ecma_grammar.specs.declared.production.Link.TheVariants as link
use Rattle.ecma_grammar.specs.declared.production.Flag.{Flag}
use Rattle.ecma_grammar.specs.declared.production.Flag.TheVariants as flag
use Rattle.ecma_grammar.specs.declared.production.Form.{Form}
use Rattle.ecma_grammar.specs.declared.production.Form.TheVariants as form
use Rattle.ecma_grammar.specs.declared.production.Leaf.{Leaf}
use Rattle.ecma_grammar.specs.declared.production.Leaf.TheVariants as leaf
use Rattle.ecma_grammar.specs.declared.production.TokenKind.TheVariants as token_kind
use Rattle.ecma_grammar.specs.trees.Parts.{flag_node, from_to}
use Rattle.ecma_grammar.specs.trees.Functions.{questioned_kind}
use Rattle.ecma_grammar.specs.Reading.{Position, Outcome, read, fails, too_deep, Reading, followed_on, with_front, or_on, many_on, many_up_to, ahead_on, unless_on, marked}
use Rattle.ecma_grammar.specs.Grammar as grammar
use Rattle.ecma_grammar.specs.Grammar.{Grammar}
use Rattle.ecma_grammar.specs.Made.{made}
use Rattle.ecma_grammar.specs.Reads.{reads, levels, levels_by, Parts, token, same_line_on, built_on, next_start, kept_leaf, leaf_node}
use Rattle.ecma_grammar.specs.PartBodies.{part_body}
use Rattle.ecma_grammar.specs.productions.Modules.{module_body, module_item}
use Rattle.ecma_text_leaves.specs.Everywhere.{Each, none, more}
use Rattle.ecma_text_leaves.specs.Spelling.{IsSpelled}
use Rattle.ecma_text_leaves.specs.Laws.{LeavesAreSpelled}
use Rattle.ecma_text_leaves.proofs.Trees.{good_node, each_append}
use Rattle.ecma_text_leaves.proofs.Forms.{is_leaf, made_good, module_good}
use Rattle.ecma_text_leaves.proofs.Leaves.{Holds, holds_read, holds_fails, holds_deep, holds_then, Spelled, is_hashbang, leaf_spelled}
use Rattle.ecma_text_leaves.proofs.Productions.{productions}

abbrev AllSpelled : List Node → Type 0
AllSpelled = Each IsSpelled

other_spelled : (k : Kind) → is_leaf k ≡ false → IsSpelled k
other_spelled (kind.Ident sym ctxt optional) h = cc
other_spelled (kind.IdentName sym) h = cc
other_spelled (kind.Str value raw) h = cc
other_spelled (kind.Number value raw) h = cc
other_spelled _ h = tt

question_spelled : (optional : Bool) (k : Kind) → IsSpelled k → IsSpelled (questioned_kind optional k)
question_spelled optional (kind.Ident sym ctxt before) p = p
question_spelled optional (kind.ArrayPat before) p = tt
question_spelled optional (kind.ObjectPat before) p = tt
question_spelled optional _ p = p

made_spelled : (f : Form) (lo hi : ℕ) {xs : List Node} → AllSpelled xs → Spelled (made f lo hi xs)
made_spelled f lo hi h = made_good IsSpelled other_spelled question_spelled f lo hi h

flag_spelled : (f : Flag) → Spelled (flag_node f)
flag_spelled flag.Absent = good_node IsSpelled _ kind.Absent [] tt none
flag_spelled flag.Present = good_node IsSpelled _ (kind.Bool true) [] tt none

-- a grammar that reads no hashbang
abbrev no_hashbang : Grammar → Bool
no_hashbang (grammar.keep leaf.Hashbang) = false
no_hashbang (grammar.◌▸◌ a b) = no_hashbang a && no_hashbang b
no_hashbang (grammar.◌//◌ a b) = no_hashbang a && no_hashbang b
no_hashbang (grammar.many a) = no_hashbang a
no_hashbang (grammar.marked a) = no_hashbang a
no_hashbang (grammar.assigned a) = no_hashbang a
no_hashbang (grammar.build f a) = no_hashbang a
no_hashbang _ = true

assign_no_hashbang : (no_in middle : Bool) → no_hashbang (part_body (part.Assign no_in middle)) ≡ true
unfolding productions
assign_no_hashbang false false = refl
assign_no_hashbang true false = refl
assign_no_hashbang false true = refl
assign_no_hashbang true true = refl

binary_no_hashbang : (op : BinaryOp) → no_hashbang (part_body (part.Binary op false)) ≡ true
unfolding productions
binary_no_hashbang binary.EqEq = refl
binary_no_hashbang _ = refl

binary_no_in_no_hashbang : (op : BinaryOp) → no_hashbang (part_body (part.Binary op true)) ≡ true
unfolding productions
binary_no_in_no_hashbang binary.EqEq = refl
binary_no_in_no_hashbang _ = refl

link_no_hashbang : (l : Link) → no_hashbang (part_body (part.Link l)) ≡ true
unfolding productions
link_no_hashbang link.Dot = refl
link_no_hashbang _ = refl

new_link_no_hashbang : (l : Link) → no_hashbang (part_body (part.NewLink l)) ≡ true
unfolding productions
new_link_no_hashbang link.Dot = refl
new_link_no_hashbang _ = refl

part_no_hashbang : (u : Part) → no_hashbang (part_body u) ≡ true
unfolding productions
part_no_hashbang (part.Assign no_in middle) = assign_no_hashbang no_in middle
part_no_hashbang (part.Binary op false) = binary_no_hashbang op
part_no_hashbang (part.Binary op true) = binary_no_in_no_hashbang op
part_no_hashbang (part.Link l) = link_no_hashbang l
part_no_hashbang (part.NewLink l) = new_link_no_hashbang l
part_no_hashbang (part.Class false) = refl
part_no_hashbang (part.Class true) = refl
part_no_hashbang (part.As false) = refl
part_no_hashbang (part.As true) = refl
part_no_hashbang (part.Satisfies false) = refl
part_no_hashbang (part.Satisfies true) = refl
part_no_hashbang _ = refl

item_no_hashbang : no_hashbang module_item ≡ true
unfolding productions
item_no_hashbang = refl

-- how a property of what is read goes through the words of a grammar

holds_front : (Q R : List Node → Type 0) (xs : List Node) (o : Outcome (List Node)) → Holds o Q → ((ys : List Node) → Q ys → R (xs ++ ys)) → Holds (with_front xs o) R
holds_front Q R xs (read ys u) q f = holds_read R (xs ++ ys) u (f ys (q u ys refl))
holds_front Q R xs (fails n) q f = holds_fails R n
holds_front Q R xs (too_deep n) q f = holds_deep R n

holds_followed : (P Q R : List Node → Type 0) (q : Reading (List Node)) (o : Outcome (List Node)) → Holds o P → ((s : Position) → Holds (q s) Q) → ((xs ys : List Node) → P xs → Q ys → R (xs ++ ys)) → Holds (followed_on q o) R
holds_followed P Q R q (read xs u) p h f = holds_front Q R xs (q u) (h u) (λ ys k. f xs ys (p u xs refl) k)
holds_followed P Q R q (fails n) p h f = holds_fails R n
holds_followed P Q R q (too_deep n) p h f = holds_deep R n

holds_or : (Q : List Node → Type 0) (q : Reading (List Node)) (s : Position) (o : Outcome (List Node)) → Holds o Q → ((s : Position) → Holds (q s) Q) → Holds (or_on q s o) Q
holds_or Q q s (read xs u) p h = p
holds_or Q q s (fails n) p h = h (record { place = s.place; failed = n })
holds_or Q q s (too_deep n) p h = holds_deep Q n

holds_marked : (Q : List Node → Type 0) (b : Bool) (p : Reading (List Node)) (s : Position) → Holds (p s) Q → Holds (marked b p s) Q
holds_marked Q true p s h = h
holds_marked Q false p s h = holds_fails Q s.failed

holds_ahead : (s : Position) (o : Outcome (List Node)) → Holds (ahead_on s o) AllSpelled
holds_ahead s (read xs u) = holds_read AllSpelled [] _ none
holds_ahead s (fails n) = holds_fails AllSpelled n
holds_ahead s (too_deep n) = holds_deep AllSpelled n

holds_unless : (s : Position) (o : Outcome (List Node)) → Holds (unless_on s o) AllSpelled
holds_unless s (read xs u) = holds_fails AllSpelled u.failed
holds_unless s (fails n) = holds_read AllSpelled [] _ none
holds_unless s (too_deep n) = holds_deep AllSpelled n

holds_line : (s : Position) (before : Skipped) → Holds (same_line_on s before) AllSpelled
holds_line s before = go before.new_line
  where
    go : (b : Bool) → Holds {A = List Node} (if b then fails (max s.failed before.to) else read [] s) AllSpelled
    go true = holds_fails AllSpelled (max s.failed before.to)
    go false = holds_read AllSpelled [] s none

holds_many_on : (s : Position) (rest : Reading (List Node)) (o : Outcome (List Node)) → Holds o AllSpelled → ((s : Position) → Holds (rest s) AllSpelled) → Holds (many_on s rest o) AllSpelled
holds_many_on s rest (read xs u) h r = holds_front AllSpelled AllSpelled xs (rest u) (r u) (λ ys k. each_append IsSpelled (h u xs refl) k)
holds_many_on s rest (fails n) h r = holds_read AllSpelled [] _ none
holds_many_on s rest (too_deep n) h r = holds_deep AllSpelled n

holds_many : (p : Reading (List Node)) → ((s : Position) → Holds (p s) AllSpelled) → (n : ℕ) (s : Position) → Holds (many_up_to p n s) AllSpelled
unfolding many_up_to
holds_many p h zero s = holds_read AllSpelled [] s none
holds_many p h (suc n) s = holds_many_on s (many_up_to p n) (p s) (h s) (holds_many p h n)

holds_built : (Q R : List Node → Type 0) (f : Form) (lo : ℕ) (o : Outcome (List Node)) → Holds o Q → ((hi : ℕ) (xs : List Node) → Q xs → R (made f lo hi xs ∷ [])) → Holds (built_on f lo o) R
holds_built Q R f lo (read xs u) h g = holds_read R _ u (g u.place xs (h u xs refl))
holds_built Q R f lo (fails n) h g = holds_fails R n
holds_built Q R f lo (too_deep n) h g = holds_deep R n

module _ (text : List ℕ) (u : IsUtf8 text) (mode : Mode) where
  leaf_kept : (l : Leaf) (s : Position) → is_hashbang text u l ≡ false → Holds (kept_leaf text l s) AllSpelled
  leaf_kept l s h = holds_then _ Spelled AllSpelled (leaf_node text l s) (leaf_spelled text u l s h) (λ x t q. holds_read AllSpelled (x ∷ []) t (more q none))

  module _ (parts : Parts text) (inside : (p : Part) (at : ℕ) (s : Position) → Holds (parts p at s) AllSpelled) where
    reads_spelled : (g : Grammar) (s : Position) → no_hashbang g ≡ true → Holds (reads text mode parts g s) AllSpelled
    reads_spelled grammar.nothing s h = holds_read AllSpelled [] s none
    reads_spelled grammar.same_line s h = holds_line s (skipped text s.place)
    reads_spelled (grammar.take t) s h = holds_then _ (λ k. Unit {0}) AllSpelled (token text t s) (λ p x e. tt) (λ x p q. holds_read AllSpelled [] p none)
    reads_spelled (grammar.keep leaf.Hashbang) s h = cc
    reads_spelled (grammar.keep leaf.Ident) s h = leaf_kept leaf.Ident s refl
    reads_spelled (grammar.keep leaf.KeyIdent) s h = leaf_kept leaf.KeyIdent s refl
    reads_spelled (grammar.keep leaf.ThisIdent) s h = leaf_kept leaf.ThisIdent s refl
    reads_spelled (grammar.keep leaf.IdentName) s h = leaf_kept leaf.IdentName s refl
    reads_spelled (grammar.keep leaf.PrivateName) s h = leaf_kept leaf.PrivateName s refl
    reads_spelled (grammar.keep leaf.Str) s h = leaf_kept leaf.Str s refl
    reads_spelled (grammar.keep leaf.Number) s h = leaf_kept leaf.Number s refl
    reads_spelled (grammar.keep leaf.BigInt) s h = leaf_kept leaf.BigInt s refl
    reads_spelled (grammar.keep leaf.Regex) s h = leaf_kept leaf.Regex s refl
    reads_spelled (grammar.keep (leaf.TplElement wanted)) s h = leaf_kept (leaf.TplElement wanted) s refl
    reads_spelled (grammar.keep leaf.This) s h = leaf_kept leaf.This s refl
    reads_spelled (grammar.keep leaf.Null) s h = leaf_kept leaf.Null s refl
    reads_spelled (grammar.keep leaf.True) s h = leaf_kept leaf.True s refl
    reads_spelled (grammar.keep leaf.False) s h = leaf_kept leaf.False s refl
    reads_spelled (grammar.keep leaf.Super) s h = leaf_kept leaf.Super s refl
    reads_spelled (grammar.keep leaf.Import) s h = leaf_kept leaf.Import s refl
    reads_spelled (grammar.put f) s h = holds_read AllSpelled (flag_node f ∷ []) s (more (flag_spelled f) none)
    reads_spelled (grammar.◌▸◌ a b) s h =
        let both = and_parts (no_hashbang a) (no_hashbang b) h in
        holds_followed AllSpelled AllSpelled AllSpelled (reads text mode parts b) (reads text mode parts a s) (reads_spelled a s both.0) (λ t. reads_spelled b t both.1) (λ xs ys p q. each_append IsSpelled p q)
    reads_spelled (grammar.◌//◌ a b) s h =
        let both = and_parts (no_hashbang a) (no_hashbang b) h in
        holds_or AllSpelled (reads text mode parts b) s (reads text mode parts a s) (reads_spelled a s both.0) (λ t. reads_spelled b t both.1)
    reads_spelled (grammar.many a) s h = holds_many (reads text mode parts a) (λ t. reads_spelled a t h) (length text + 1) s
    reads_spelled (grammar.ahead a) s h = holds_ahead s (reads text mode parts a s)
    reads_spelled (grammar.unless a) s h = holds_unless s (reads text mode parts a s)
    reads_spelled (grammar.marked a) s h = holds_marked AllSpelled mode.typescript (reads text mode parts a) s (reads_spelled a s h)
    reads_spelled (grammar.assigned a) s h = holds_marked AllSpelled mode.assignments (reads text mode parts a) s (reads_spelled a s h)
    reads_spelled (grammar.up p) s h = inside p s.place s
    reads_spelled (grammar.enter p) s h = inside p (next_start text s) s
    reads_spelled (grammar.behind t p) s h = holds_then _ (λ k. Unit {0}) AllSpelled (token text t s) (λ q x e. tt) (λ k t q. inside p k.start t)
    reads_spelled (grammar.build f a) s h = holds_built AllSpelled AllSpelled f (next_start text s) (reads text mode parts a s) (reads_spelled a s h) (λ hi xs q. more (made_spelled f (next_start text s) hi q) none)

  levels_spelled : (n : ℕ) (p : Part) (at : ℕ) (s : Position) → Holds (levels text mode n p at s) AllSpelled
  unfolding levels_by
  levels_spelled zero p at s = holds_deep AllSpelled at
  levels_spelled (suc n) p at s = reads_spelled (levels text mode n) (levels_spelled n) (part_body p) s (part_no_hashbang p)

  -- a module: a hashbang or none, and its items

  abbrev IsOne : List Node → Type 0
  IsOne xs = (x : Node) × (xs ≡ x ∷ [])

  -- one node that is spelled
  abbrev IsItems : List Node → Type 0
  IsItems xs = (items : Node) × (xs ≡ items ∷ []) × Spelled items

  abbrev IsEmpty : List Node → Type 0
  IsEmpty xs = xs ≡ []

  -- any node, and one that is spelled
  abbrev IsHeaded : List Node → Type 0
  IsHeaded xs = (x : Node) × (items : Node) × (xs ≡ x ∷ items ∷ []) × Spelled items

  items_alone : (xs ys : List Node) → IsItems xs → IsEmpty ys → IsItems (xs ++ ys)
  items_alone xs ys p q = let e = p.1 in (p.0, rw (e, q) refl, p.2)

  headed : (xs ys : List Node) → IsOne xs → IsItems ys → IsHeaded (xs ++ ys)
  headed xs ys p q = let e = p.1 in let f = q.1 in (p.0, q.0, rw (e, f) refl, q.2)

  module_made : (lo hi : ℕ) (xs : List Node) → IsHeaded xs → AllSpelled (made form.Module lo hi xs ∷ [])
  module_made lo hi xs q = let e = q.2 in rw e (more (module_good IsSpelled other_spelled question_spelled (from_to lo hi) q.0 q.3) none)

  module _ (n : ℕ) where
    abbrev R : Grammar → Reading (List Node)
    R = reads text mode (levels text mode n)

    one_leaf : (s : Position) → Holds (kept_leaf text leaf.Hashbang s) IsOne
    one_leaf s = holds_then _ (λ x. Unit {0}) IsOne (leaf_node text leaf.Hashbang s) (λ p x e. tt) (λ x t q. holds_read IsOne (x ∷ []) t (x, refl))

    maybe_hashbang : (s : Position) → Holds (R (grammar.maybe (grammar.keep leaf.Hashbang)) s) IsOne
    maybe_hashbang s = holds_or IsOne (R (grammar.put flag.Absent)) s (kept_leaf text leaf.Hashbang s) (one_leaf s) (λ t. holds_read IsOne _ t (_, refl))

    items_read : (s : Position) → Holds (R (grammar.list (grammar.many module_item)) s) IsItems
    items_read s = holds_built AllSpelled IsItems form.List (next_start text s) (R (grammar.many module_item) s)
        (reads_spelled (levels text mode n) (levels_spelled n) (grammar.many module_item) s item_no_hashbang)
        (λ hi xs q. (_, refl, made_spelled form.List (next_start text s) hi q))

    end_read : (s : Position) → Holds (R (grammar.a token_kind.EndOfText) s) IsEmpty
    end_read s = holds_then _ (λ k. Unit {0}) IsEmpty (token text (grammar.any token_kind.EndOfText) s) (λ p x e. tt) (λ x t q. holds_read IsEmpty [] t refl)

    behind_hashbang : (s : Position) → Holds (R (grammar.◌▸◌ (grammar.list (grammar.many module_item)) (grammar.a token_kind.EndOfText)) s) IsItems
    behind_hashbang s = holds_followed IsItems IsEmpty IsItems (R (grammar.a token_kind.EndOfText)) (R (grammar.list (grammar.many module_item)) s) (items_read s) end_read items_alone

    module_spelled : (s : Position) → Holds (R module_body s) AllSpelled
    unfolding module_body
    module_spelled s = holds_built IsHeaded AllSpelled form.Module (next_start text s) _
        (holds_followed IsOne IsItems IsHeaded (R (grammar.◌▸◌ (grammar.list (grammar.many module_item)) (grammar.a token_kind.EndOfText))) (R (grammar.maybe (grammar.keep leaf.Hashbang)) s) (maybe_hashbang s) behind_hashbang headed)
        (λ hi xs q. module_made (next_start text s) hi xs q)

pub leaves_are_spelled : LeavesAreSpelled
leaves_are_spelled text mode bound trees s u h = module_spelled text u mode bound (record { place = 0; failed = 0 }) s trees h
