-- What is read in plain mode is plain: one induction over grammars and one over levels.
use Rattle.std.proofs.Common.{◌≡◌, ℕ, zero, suc, ◌+◌, Bool, true, false, not, ◌&&◌, ◌||◌, cond, List, [], ◌∷◌, ◌++◌, codes, length, max, refl, subst, sym}
use Rattle.std.specs.Prelude.{if◌then◌else◌}
use Rattle.std.specs.Str.{IsUtf8}
use Rattle.std.proofs.lemmas.Bool.{and_parts}
use Rattle.ecma_lex.specs.declared.blanks.Skipped.{Skipped}
use Rattle.ecma_lex.specs.Blanks.{skipped}
use Rattle.ecma_kind.specs.declared.operators.BinaryOp.{BinaryOp}
use Rattle.ecma_kind.specs.declared.operators.BinaryOp.TheVariants as binary
use Rattle.ecma_tree.specs.declared.node.Node.{Node}
use Rattle.ecma_grammar.specs.declared.production.Part.{Part}
use Rattle.ecma_grammar.specs.declared.production.Part.TheVariants as part
use Rattle.ecma_grammar.specs.declared.production.Link.{Link}
use Rattle.ecma_grammar.specs.declared.production.Link.TheVariants as link
use Rattle.ecma_grammar.specs.declared.production.Flag.{Flag}
use Rattle.ecma_grammar.specs.declared.production.Flag.TheVariants as flag
use Rattle.ecma_grammar.specs.declared.production.Leaf.{Leaf}
use Rattle.ecma_grammar.specs.trees.Parts.{flag_node}
use Rattle.ecma_grammar.specs.Reading.{Position, Outcome, Reading, ahead_on, fails, followed_on, many_on, many_up_to, marked, read, too_deep, unless_on, with_front}
use Rattle.ecma_grammar.specs.Grammar as grammar
use Rattle.ecma_grammar.specs.Grammar.{Grammar, the_word}
use Rattle.ecma_grammar.specs.Reads.{Parts, kept_leaf, leaf_node, levels, levels_by, next_start, reads, same_line_on, token}
use Rattle.ecma_grammar.specs.PartBodies.{part_body}
use Rattle.ecma_grammar.specs.productions.Modules.{module_body}
use Rattle.ecma_modules.specs.Modules.{plain}
use Rattle.ecma_text_leaves.specs.Everywhere.{none}
use Rattle.ecma_text_leaves.proofs.Leaves.{Holds, holds_deep, holds_fails, holds_read, holds_then}
use Rattle.ecma_text_leaves.proofs.Productions.{productions}
use Rattle.ecma_text_leaves.proofs.Trees.{good_node}
use Rattle.ecma_text_fits_leaves.proofs.ReadingOf.{holds_followed, holds_or, holds_built}
use Rattle.ecma_raw_roles.proofs.Walks.{not_true}
use Rattle.ecma_text_plain.proofs.PlainKinds.{IsPlain, allowed, everywhere_also}
use Rattle.ecma_text_plain.proofs.Bare.{leaf_plain}
use Rattle.ecma_text_plain.proofs.Given.{All, Given, Good, Has, Meets, any_nodes, anything, asks_static, exactly, fact_made, flag_gives, followed, forget, gives, is_plain, is_plain_part, joined, keeps_key, never, part_gives, repeated, static, takes}
use Rattle.ecma_text_plain.proofs.Joins.{followed_has, joined_left, joined_right, repeated_more, repeated_none}
use Rattle.ecma_text_plain.proofs.PlainMade.{made_meets}
use Rattle.ecma_text_plain.proofs.StaticWords.{asks_word, keeps_name, static_read}

-- the bodies of the parts of plain modules are plain

module _ (assignments : Bool) where
  abbrev IsPlainBody : Part → Type 0
  IsPlainBody u = is_plain assignments (part_body u) ≡ true

  assign_plain : (no_in middle : Bool) → IsPlainBody (part.Assign no_in middle)
  unfolding productions
  assign_plain false false = refl
  assign_plain true false = refl
  assign_plain false true = refl
  assign_plain true true = refl

  binary_plain : (op : BinaryOp) → IsPlainBody (part.Binary op false)
  unfolding productions
  binary_plain binary.EqEq = refl
  binary_plain _ = refl

  binary_no_in_plain : (op : BinaryOp) → IsPlainBody (part.Binary op true)
  unfolding productions
  binary_no_in_plain binary.EqEq = refl
  binary_no_in_plain _ = refl

  link_plain : (l : Link) → is_plain_part (part.Link l) ≡ true → IsPlainBody (part.Link l)
  unfolding productions
  link_plain link.NonNull h = not_true h
  link_plain link.Instantiation h = not_true h
  link_plain link.Dot h = refl
  link_plain _ h = refl

  new_link_plain : (l : Link) → is_plain_part (part.NewLink l) ≡ true → IsPlainBody (part.NewLink l)
  unfolding productions
  new_link_plain link.NonNull h = not_true h
  new_link_plain link.Instantiation h = not_true h
  new_link_plain link.Dot h = refl
  new_link_plain _ h = refl

  body_plain : (u : Part) → is_plain_part u ≡ true → IsPlainBody u
  unfolding productions
  body_plain part.NamespaceBody h = not_true h
  body_plain part.Declared h = not_true h
  body_plain part.«Type» h = not_true h
  body_plain part.TypeOperator h = not_true h
  body_plain part.ArraySuffix h = not_true h
  body_plain part.Assertion h = not_true h
  body_plain (part.As no_in) h = not_true h
  body_plain (part.Satisfies no_in) h = not_true h
  body_plain part.DottedName h = not_true h
  body_plain part.DottedKey h = not_true h
  body_plain (part.Assign no_in middle) h = assign_plain no_in middle
  body_plain (part.Binary op false) h = binary_plain op
  body_plain (part.Binary op true) h = binary_no_in_plain op
  body_plain (part.Link l) h = link_plain l h
  body_plain (part.NewLink l) h = new_link_plain l h
  body_plain (part.Class false) h = refl
  body_plain (part.Class true) h = refl
  body_plain _ h = refl

  assign_one : (no_in middle : Bool) → gives assignments (part_body (part.Assign no_in middle)) ≡ exactly (anything ∷ [])
  unfolding productions
  assign_one false false = refl
  assign_one true false = refl
  assign_one false true = refl
  assign_one true true = refl

  pattern_one : gives assignments (part_body part.Pattern) ≡ exactly (anything ∷ [])
  unfolding productions
  pattern_one = refl

  body_has : (u : Part) (xs : List Node) → Has assignments (gives assignments (part_body u)) xs → Has assignments (part_gives u) xs
  body_has (part.Assign no_in middle) xs h = subst (λ g. Has assignments g xs) (assign_one no_in middle) h
  body_has part.Pattern xs h = subst (λ g. Has assignments g xs) pattern_one h
  body_has part.Statement xs h = any_nodes assignments (forget assignments (gives assignments (part_body part.Statement)) xs h)
  body_has part.NamespaceBody xs h = any_nodes assignments (forget assignments (gives assignments (part_body part.NamespaceBody)) xs h)
  body_has part.Declared xs h = any_nodes assignments (forget assignments (gives assignments (part_body part.Declared)) xs h)
  body_has part.«Type» xs h = any_nodes assignments (forget assignments (gives assignments (part_body part.«Type»)) xs h)
  body_has part.TypeOperator xs h = any_nodes assignments (forget assignments (gives assignments (part_body part.TypeOperator)) xs h)
  body_has part.ArraySuffix xs h = any_nodes assignments (forget assignments (gives assignments (part_body part.ArraySuffix)) xs h)
  body_has part.Operand xs h = any_nodes assignments (forget assignments (gives assignments (part_body part.Operand)) xs h)
  body_has part.Assertion xs h = any_nodes assignments (forget assignments (gives assignments (part_body part.Assertion)) xs h)
  body_has part.New xs h = any_nodes assignments (forget assignments (gives assignments (part_body part.New)) xs h)
  body_has part.Power xs h = any_nodes assignments (forget assignments (gives assignments (part_body part.Power)) xs h)
  body_has (part.Class named) xs h = any_nodes assignments (forget assignments (gives assignments (part_body (part.Class named))) xs h)
  body_has (part.Link l) xs h = any_nodes assignments (forget assignments (gives assignments (part_body (part.Link l))) xs h)
  body_has (part.NewLink l) xs h = any_nodes assignments (forget assignments (gives assignments (part_body (part.NewLink l))) xs h)
  body_has (part.Binary op no_in) xs h = any_nodes assignments (forget assignments (gives assignments (part_body (part.Binary op no_in))) xs h)
  body_has (part.As no_in) xs h = any_nodes assignments (forget assignments (gives assignments (part_body (part.As no_in))) xs h)
  body_has (part.Satisfies no_in) xs h = any_nodes assignments (forget assignments (gives assignments (part_body (part.Satisfies no_in))) xs h)
  body_has part.DottedName xs h = any_nodes assignments (forget assignments (gives assignments (part_body part.DottedName)) xs h)
  body_has part.DottedKey xs h = any_nodes assignments (forget assignments (gives assignments (part_body part.DottedKey)) xs h)

module_plain : (assignments : Bool) → is_plain assignments module_body ≡ true
unfolding productions
module_plain true = refl
module_plain false = refl

-- how what is said goes through the words of a grammar

holds_after : (Q R : List Node → Type 0) (xs : List Node) (o : Outcome (List Node)) → Holds o Q → ((ys : List Node) → Q ys → R (xs ++ ys)) → Holds (with_front xs o) R
holds_after Q R xs (read ys u) q f = holds_read R (xs ++ ys) u (f ys (q u ys refl))
holds_after Q R xs (fails n) q f = holds_fails R n
holds_after Q R xs (too_deep n) q f = holds_deep R n

holds_also : (Q R : List Node → Type 0) (o : Outcome (List Node)) → Holds o Q → ((xs : List Node) → Q xs → R xs) → Holds o R
holds_also Q R o h f t xs e = f xs (h t xs e)

module _ (text : List ℕ) (u : IsUtf8 text) (assignments : Bool) where
  abbrev H : Given → List Node → Type 0
  H = Has assignments

  abbrev Nothing : List Node → Type 0
  Nothing = H (exactly [])

  abbrev One : List Node → Type 0
  One = H (exactly (anything ∷ []))

  leaf_good : (l : Leaf) (s : Position) → Holds (leaf_node text l s) (Good assignments)
  leaf_good l s t x e = everywhere_also (IsPlain false) (IsPlain assignments) (allowed assignments) (leaf_plain text u l s t x e)

  leaf_kept : (l : Leaf) (s : Position) → Holds (kept_leaf text l s) One
  leaf_kept l s = holds_then _ (Good assignments) One (leaf_node text l s) (leaf_good l s) (λ x t q. holds_read One (x ∷ []) t (q, tt))

  flag_met : (f : Flag) → Meets assignments (flag_gives f) (flag_node f)
  flag_met flag.Absent = refl
  flag_met flag.Present = good_node (IsPlain assignments) _ _ [] (tt, refl) none

  holds_ahead : (s : Position) (o : Outcome (List Node)) → Holds (ahead_on s o) Nothing
  holds_ahead s (read xs t) = holds_read Nothing [] _ tt
  holds_ahead s (fails n) = holds_fails Nothing n
  holds_ahead s (too_deep n) = holds_deep Nothing n

  holds_unless : (s : Position) (o : Outcome (List Node)) → Holds (unless_on s o) Nothing
  holds_unless s (read xs t) = holds_fails Nothing t.failed
  holds_unless s (fails n) = holds_read Nothing [] _ tt
  holds_unless s (too_deep n) = holds_deep Nothing n

  holds_line : (s : Position) (before : Skipped) → Holds (same_line_on s before) Nothing
  holds_line s before = go before.new_line
    where
      go : (b : Bool) → Holds {A = List Node} (if b then fails (max s.failed before.to) else read [] s) Nothing
      go true = holds_fails Nothing (max s.failed before.to)
      go false = holds_read Nothing [] s tt

  holds_many_on : (g : Given) (s : Position) (rest : Reading (List Node)) (o : Outcome (List Node)) → Holds o (H g) → ((s : Position) → Holds (rest s) (H (repeated g))) → Holds (many_on s rest o) (H (repeated g))
  holds_many_on g s rest (read xs t) h r = holds_after (H (repeated g)) (H (repeated g)) xs (rest t) (r t) (λ ys k. repeated_more assignments g xs ys (h t xs refl) k)
  holds_many_on g s rest (fails n) h r = holds_read (H (repeated g)) [] _ (repeated_none assignments g)
  holds_many_on g s rest (too_deep n) h r = holds_deep (H (repeated g)) n

  holds_many : (g : Given) (p : Reading (List Node)) → ((s : Position) → Holds (p s) (H g)) → (n : ℕ) (s : Position) → Holds (many_up_to p n s) (H (repeated g))
  unfolding many_up_to
  holds_many g p h zero s = holds_read (H (repeated g)) [] s (repeated_none assignments g)
  holds_many g p h (suc n) s = holds_many_on g s (many_up_to p n) (p s) (h s) (holds_many g p h n)

  module _ (parts : Parts text) (inside : (p : Part) (at : ℕ) (s : Position) → is_plain_part p ≡ true → Holds (parts p at s) (H (part_gives p))) where
    abbrev R : Grammar → Reading (List Node)
    R = reads text (plain assignments) parts

    abbrev Reads : Grammar → Type 0
    Reads g = (s : Position) → Holds (R g s) (H (gives assignments g))

    -- two, where the first asks for `static` and the second keeps a key, or not
    both_read : (x y : Grammar) → Reads x → Reads y → Reads (grammar.◌▸◌ x y)
    both_read x y p q s = go (asks_static x && keeps_key y) refl
      where
        go : (b : Bool) → (asks_static x && keeps_key y) ≡ b → Holds (followed_on (R y) (R x s)) (H (cond b (exactly (static ∷ [])) (followed (gives assignments x) (gives assignments y))))
        go true e =
            let two = and_parts (asks_static x) (keeps_key y) e in
            let one = asks_word x two.0 in
            let other = keeps_name y two.1 in
            subst (λ (z : Grammar). Holds (followed_on (R y) (R z s)) (H (exactly (static ∷ [])))) (sym one)
            (subst (λ (z : Grammar). Holds (followed_on (R z) (R (grammar.ahead (grammar.take (the_word (codes "static")))) s)) (H (exactly (static ∷ [])))) (sym other) (static_read text u assignments s))
        go false e =
            holds_followed (H (gives assignments x)) (H (gives assignments y)) (H (followed (gives assignments x) (gives assignments y))) (R y) (R x s) (p s) q
            (λ xs ys a b. followed_has assignments (gives assignments x) (gives assignments y) xs ys a b)

    some_read : (x : Grammar) → (not assignments || is_plain assignments x) ≡ true → ((is_plain assignments x ≡ true) → Reads x) → (s : Position) → Holds (marked assignments (R x) s) (H (cond assignments (gives assignments x) never))
    some_read x e p s = go assignments refl e
      where
        go : (b : Bool) → assignments ≡ b → (not b || is_plain assignments x) ≡ true → Holds (marked b (R x) s) (H (cond b (gives assignments x) never))
        go true i e = p e s
        go false i e = holds_fails (H never) s.failed

    plain_read : (g : Grammar) → is_plain assignments g ≡ true → Reads g
    plain_read grammar.nothing h s = holds_read Nothing [] s tt
    plain_read grammar.same_line h s = holds_line s (skipped text s.place)
    plain_read (grammar.take t) h s = holds_then _ (λ k. Unit {0}) Nothing (token text t s) (λ p x e. tt) (λ x p q. holds_read Nothing [] p tt)
    plain_read (grammar.keep l) h s = leaf_kept l s
    plain_read (grammar.put f) h s = holds_read (H (exactly (flag_gives f ∷ []))) (flag_node f ∷ []) s (flag_met f, tt)
    plain_read (grammar.◌▸◌ x y) h s =
        let both = and_parts (is_plain assignments x) (is_plain assignments y) h in
        both_read x y (plain_read x both.0) (plain_read y both.1) s
    plain_read (grammar.◌//◌ x y) h s =
        let both = and_parts (is_plain assignments x) (is_plain assignments y) h in
        let g = gives assignments x in
        let k = gives assignments y in
        holds_or (H (joined g k)) (R y) s (R x s)
        (holds_also (H g) (H (joined g k)) (R x s) (plain_read x both.0 s) (λ xs a. joined_left assignments g k xs a))
        (λ t. holds_also (H k) (H (joined g k)) (R y t) (plain_read y both.1 t) (λ xs a. joined_right assignments g k xs a))
    plain_read (grammar.many x) h s = holds_many (gives assignments x) (R x) (plain_read x h) (length text + 1) s
    plain_read (grammar.ahead x) h s = holds_ahead s (R x s)
    plain_read (grammar.unless x) h s = holds_unless s (R x s)
    plain_read (grammar.marked x) h s = holds_fails (H never) s.failed
    plain_read (grammar.assigned x) h s = some_read x h (plain_read x) s
    plain_read (grammar.up p) h s = inside p s.place s h
    plain_read (grammar.enter p) h s = inside p (next_start text s) s h
    plain_read (grammar.behind t p) h s = holds_then _ (λ k. Unit {0}) (H (part_gives p)) (token text t s) (λ q x e. tt) (λ k t q. inside p k.start t h)
    plain_read (grammar.build f x) h s =
        let both = and_parts (is_plain assignments x) (takes assignments f (gives assignments x)) h in
        let fact = fact_made f (gives assignments x) in
        holds_built (H (gives assignments x)) (H (exactly (fact ∷ []))) f (next_start text s) (R x s) (plain_read x both.0 s)
        (λ hi xs q. (made_meets assignments f (gives assignments x) both.1 (next_start text s) hi xs q, tt))

  levels_plain : (n : ℕ) (p : Part) (at : ℕ) (s : Position) → is_plain_part p ≡ true → Holds (levels text (plain assignments) n p at s) (H (part_gives p))
  unfolding levels_by
  levels_plain zero p at s h = holds_deep (H (part_gives p)) at
  levels_plain (suc n) p at s h =
      holds_also (H (gives assignments (part_body p))) (H (part_gives p)) _ (plain_read (levels text (plain assignments) n) (levels_plain n) (part_body p) (body_plain assignments p h) s) (λ xs q. body_has assignments p xs q)

  -- every node of a module
  pub module_reads : (bound : ℕ) (s : Position) → Holds (reads text (plain assignments) (levels text (plain assignments) bound) module_body s) (All assignments)
  module_reads bound s =
      holds_also (H (gives assignments module_body)) (All assignments) _ (plain_read (levels text (plain assignments) bound) (levels_plain bound) module_body (module_plain assignments) s) (λ xs q. forget assignments (gives assignments module_body) xs q)
