-- No identifier that is read ends where the text begins, by one induction over grammars and one over levels.
use Rattle.std.proofs.Common.{◌≡◌, ◌≤◌, ℕ, zero, suc, ◌+◌, Bool, true, false, List, [], ◌∷◌, ◌++◌, codes, length, max, refl, ap, subst, arith}
use Rattle.std.specs.Prelude.{Result, Ok, Err, if◌then◌else◌}
use Rattle.std.specs.Str.{IsUtf8}
use Rattle.ecma_lex.specs.declared.blanks.Skipped.{Skipped}
use Rattle.ecma_lex.specs.declared.tokens.NoToken.{NoToken}
use Rattle.ecma_lex.specs.declared.tokens.Token.{Token}
use Rattle.ecma_lex.specs.Blanks.{skipped}
use Rattle.ecma_lex.specs.Tokens as lex
use Rattle.ecma_kind.specs.declared.kind.Kind.{Kind}
use Rattle.ecma_kind.specs.declared.kind.Kind.TheVariants as kind
use Rattle.ecma_tree.specs.declared.node.Node.{Node}
use Rattle.ecma_grammar.specs.declared.production.Flag.{Flag}
use Rattle.ecma_grammar.specs.declared.production.Flag.TheVariants as flag
use Rattle.ecma_grammar.specs.declared.production.Form.{Form}
use Rattle.ecma_grammar.specs.declared.production.Leaf.{Leaf}
use Rattle.ecma_grammar.specs.declared.production.Leaf.TheVariants as leaf
use Rattle.ecma_grammar.specs.declared.production.Mode.{Mode}
use Rattle.ecma_grammar.specs.declared.production.Part.{Part}
use Rattle.ecma_grammar.specs.declared.production.TokenKind.TheVariants as token_kind
use Rattle.ecma_grammar.specs.Grammar.{Grammar, Terminal, nothing, same_line, take, keep, put, ◌▸◌, ◌//◌, many, ahead, unless, marked, assigned, up, enter, behind, build}
use Rattle.ecma_grammar.specs.Made.{at_token, made}
use Rattle.ecma_grammar.specs.PartBodies.{part_body}
use Rattle.ecma_grammar.specs.Reading as reading
use Rattle.ecma_grammar.specs.Reading.{Outcome, Position, Reading, ahead_on, fails, followed_on, many_on, many_up_to, or_on, pure, read, terminal_on, then_on, too_deep, unless_on, with_front}
use Rattle.ecma_grammar.specs.Reads.{Parts, any_token, built_on, hashbang_token, kept_leaf, leaf_node, levels, levels_by, next_start, regex_token, same_line_on, template_part, token, word_token}
use Rattle.ecma_grammar.specs.productions.Modules.{module_body}
use Rattle.ecma_grammar.specs.trees.Parts.{flag_node, from_to}
use Rattle.ecma_grammar_laws.specs.Repetitions.{reads_with}
use Rattle.ecma_grammar_laws.proofs.Repetitions.{readings_move_on}
use Rattle.ecma_text_spans.proofs.Forms.{made_good}
use Rattle.ecma_text_spans.proofs.Placed.{IsPlaced, further}
use Rattle.ecma_text_spans.proofs.Trees.{Each, Everywhere, each_append, everywhere, good_node, more, none}

-- what is read up to a place
abbrev pub All : ℕ → List Node → Type 0
All stop = Each (IsPlaced stop)

-- so it is up to a place further on
module _ (stop later : ℕ) (l : stop ≤ later) where
  mutual
    good_further : {n : Node} → Everywhere (IsPlaced stop) n → Everywhere (IsPlaced later) n
    good_further (everywhere at k {children = cs} p h) = everywhere at k (further stop later at k cs l p) (all_further h)

    all_further : {ns : List Node} → Each (IsPlaced stop) ns → Each (IsPlaced later) ns
    all_further none = none
    all_further (more a h) = more (good_further a) (all_further h)

abbrev Stand : Outcome (List Node) → Type 0
Stand o = (t : Position) (xs : List Node) → o ≡ read xs t → All t.place xs

stand_read : (xs : List Node) (s : Position) → All s.place xs → Stand (read xs s)
stand_read xs s h t ys e =
    let same : s ≡ t = cc in
    let nodes : xs ≡ ys = cc in
    subst (λ (z : Position). All z.place ys) same (subst (All s.place) nodes h)

stand_fails : (n : ℕ) → Stand (fails n)
stand_fails n t xs e = cc

stand_deep : (n : ℕ) → Stand (too_deep n)
stand_deep n t xs e = cc

-- behind what was read up to a place, what is read from there on
stand_front : (from : ℕ) (xs : List Node) (o : Outcome (List Node)) → All from xs → Stand o → ((t : Position) (ys : List Node) → o ≡ read ys t → from ≤ t.place) → Stand (with_front xs o)
stand_front from xs (read ys u) a h l = stand_read (xs ++ ys) u (each_append (IsPlaced u.place) (all_further from u.place (l u ys refl) a) (h u ys refl))
stand_front from xs (fails n) a h l = stand_fails n
stand_front from xs (too_deep n) a h l = stand_deep n

stand_or : (q : Reading (List Node)) (s : Position) (o : Outcome (List Node)) → Stand o → ((n : ℕ) → Stand (q (record { place = s.place; failed = n }))) → Stand (or_on q s o)
stand_or q s (read xs u) p h = p
stand_or q s (fails n) p h = h n
stand_or q s (too_deep n) p h = stand_deep n

stand_ahead : (s : Position) (o : Outcome (List Node)) → Stand (ahead_on s o)
stand_ahead s (read xs u) = stand_read [] (record { place = s.place; failed = u.failed }) none
stand_ahead s (fails n) = stand_fails n
stand_ahead s (too_deep n) = stand_deep n

stand_unless : (s : Position) (o : Outcome (List Node)) → Stand (unless_on s o)
stand_unless s (read xs u) = stand_fails u.failed
stand_unless s (fails n) = stand_read [] (record { place = s.place; failed = n }) none
stand_unless s (too_deep n) = stand_deep n

stand_line : (s : Position) (before : Skipped) → Stand (same_line_on s before)
stand_line s before = go before.new_line
  where
    go : (b : Bool) → Stand (if b then fails (max s.failed before.to) else read [] s)
    go true = stand_fails (max s.failed before.to)
    go false = stand_read [] s none

stand_marked : (m : Bool) (p : Reading (List Node)) (s : Position) → Stand (p s) → Stand (reading.marked m p s)
stand_marked true p s h = h
stand_marked false p s h = stand_fails s.failed

stand_built : (form : Form) (lo : ℕ) (o : Outcome (List Node)) → Stand o → Stand (built_on form lo o)
stand_built form lo (read xs u) h = stand_read (made form lo u.place xs ∷ []) u (more (made_good u.place form lo (h u xs refl)) none)
stand_built form lo (fails n) h = stand_fails n
stand_built form lo (too_deep n) h = stand_deep n

-- ---- repetitions

-- what is read ends no earlier than there
abbrev GoesOn : ℕ → Outcome (List Node) → Type 0
GoesOn from o = (t : Position) (xs : List Node) → o ≡ read xs t → from ≤ t.place

goes_read : (xs : List Node) (s : Position) (from : ℕ) → from ≤ s.place → GoesOn from (read xs s)
goes_read xs s from l t ys e = let same : s ≡ t = cc in let place = ap (λ (z : Position). z.place) same in omega (arith, l, place)

goes_front : (from : ℕ) (xs : List Node) (o : Outcome (List Node)) → GoesOn from o → GoesOn from (with_front xs o)
goes_front from xs (read ys u) g = goes_read (xs ++ ys) u from (g u ys refl)
goes_front from xs (fails n) g = λ t ys e. cc
goes_front from xs (too_deep n) g = λ t ys e. cc

goes_further : (from later : ℕ) (o : Outcome (List Node)) → from ≤ later → GoesOn later o → GoesOn from o
goes_further from later o l g t xs e = let more_on = g t xs e in omega (arith, l, more_on)

abbrev ManyStand : List ℕ → Reading (List Node) → Type 0
ManyStand text p = (s : Position) → s.place ≤ length text → Stand (p s) × GoesOn s.place (p s)

many_step : (text : List ℕ) (s : Position) (rest : Reading (List Node)) (o : Outcome (List Node)) → Stand o → ((t : Position) (xs : List Node) → o ≡ read xs t → (s.place ≤ t.place) × (t.place ≤ length text)) → ManyStand text rest
    → Stand (many_on s rest o) × GoesOn s.place (many_on s rest o)
many_step text s rest (read xs u) p l r =
    let moved = l u xs refl in
    let after = r u moved.1 in
    (stand_front u.place xs (rest u) (p u xs refl) after.0 after.1, goes_front s.place xs (rest u) (goes_further s.place u.place (rest u) moved.0 after.1))
many_step text s rest (fails k) p l r =
    let end : Position = record { place = s.place; failed = k } in
    (stand_read [] end none, goes_read [] end s.place (omega arith))
many_step text s rest (too_deep k) p l r = (stand_deep k, (λ t xs e. cc))

-- ---- leaves

-- one node that is read
abbrev One : Outcome Node → Type 0
One o = (t : Position) (x : Node) → o ≡ read x t → 1 ≤ t.place → Everywhere (IsPlaced t.place) x

-- a token ends where the reading goes on
abbrev Ends : Outcome Token → Type 0
Ends o = (t : Position) (k : Token) → o ≡ read k t → k.next ≡ t.place

ends_terminal : (s : Position) (r : Result Token NoToken) → Ends (terminal_on s r)
ends_terminal s (Ok a) t k e =
    let same : a ≡ k = cc in
    let after : Position = record { place = a.next; failed = s.failed } in
    let place : after ≡ t = cc in
    let before = ap (λ (z : Token). z.next) same in
    let behind = ap (λ (z : Position). z.place) place in
    omega (arith, before, behind)
ends_terminal s (Err reason) t k e = cc

one_ident : (text : Token → List ℕ) (o : Outcome Token) → Ends o → One (then_on (λ k. pure (at_token k (kind.Ident (text k) 0 false))) o)
one_ident text (read k u) h t x e l =
    let next = h u k refl in
    let same : u ≡ t = cc in
    let node : at_token k (kind.Ident (text k) 0 false) ≡ x = cc in
    let place = ap (λ (z : Position). z.place) same in
    let behind : 1 ≤ k.next = omega (arith, next, place, l) in
    subst (Everywhere (IsPlaced t.place)) node (good_node (IsPlaced t.place) (from_to k.start k.next) (kind.Ident (text k) 0 false) [] (l, behind) none)
one_ident text (fails n) h t x e l = cc
one_ident text (too_deep n) h t x e l = cc

one_other : {A : Type 0} (f : A → Node) (o : Outcome A) → ((stop : ℕ) (a : A) → Everywhere (IsPlaced stop) (f a)) → One (then_on (λ a. pure (f a)) o)
one_other f (read a u) h t x e l = let node : f a ≡ x = cc in subst (Everywhere (IsPlaced t.place)) node (h t.place a)
one_other f (fails n) h t x e l = cc
one_other f (too_deep n) h t x e l = cc

module _ (text : List ℕ) where
  abbrev at : (stop : ℕ) (k : Token) (to : Kind) → IsPlaced stop (from_to k.start k.next) to [] → Everywhere (IsPlaced stop) (at_token k to)
  at stop k to p = good_node (IsPlaced stop) (from_to k.start k.next) to [] p none

  leaf_one : (l : Leaf) (s : Position) → One (leaf_node text l s)
  leaf_one leaf.Ident s = one_ident _ (any_token text token_kind.Name s) (ends_terminal s (lex.name text s.place))
  leaf_one leaf.KeyIdent s = one_ident _ (any_token text token_kind.Key s) (ends_terminal s (lex.key text s.place))
  leaf_one leaf.ThisIdent s = one_ident _ (word_token text (codes "this") s) (ends_terminal s (lex.word text s.place (codes "this")))
  leaf_one leaf.IdentName s = one_other _ (any_token text token_kind.Key s) (λ stop k. at stop k _ tt)
  leaf_one leaf.PrivateName s = one_other _ (any_token text token_kind.PrivateName s) (λ stop k. at stop k _ tt)
  leaf_one leaf.Str s = one_other _ (any_token text token_kind.Str s) (λ stop k. at stop k _ tt)
  leaf_one leaf.Number s = one_other _ (any_token text token_kind.Number s) (λ stop k. at stop k _ tt)
  leaf_one leaf.BigInt s = one_other _ (any_token text token_kind.BigInt s) (λ stop k. at stop k _ tt)
  leaf_one leaf.Regex s = one_other _ (regex_token text s) (λ stop k. at stop k _ tt)
  leaf_one (leaf.TplElement wanted) s = one_other _ (template_part text wanted s) (λ stop part. at stop part.token _ tt)
  leaf_one leaf.This s = one_other _ (word_token text (codes "this") s) (λ stop k. at stop k kind.ThisExpr tt)
  leaf_one leaf.Null s = one_other _ (word_token text (codes "null") s) (λ stop k. at stop k kind.Null tt)
  leaf_one leaf.True s = one_other _ (word_token text (codes "true") s) (λ stop k. at stop k (kind.Bool true) tt)
  leaf_one leaf.False s = one_other _ (word_token text (codes "false") s) (λ stop k. at stop k (kind.Bool false) tt)
  leaf_one leaf.Super s = one_other _ (word_token text (codes "super") s) (λ stop k. at stop k kind.Super tt)
  leaf_one leaf.Import s = one_other _ (word_token text (codes "import") s) (λ stop k. at stop k kind.Import tt)
  leaf_one leaf.Hashbang s = one_other _ (hashbang_token text s) (λ stop k. at stop k _ tt)

  kept_one : (o : Outcome Node) → One o → (t : Position) (xs : List Node) → then_on (λ x. pure (x ∷ [])) o ≡ read xs t → 1 ≤ t.place → All t.place xs
  kept_one (read x u) h t xs e l =
      let same : u ≡ t = cc in
      let nodes : x ∷ [] ≡ xs = cc in
      let there : ◌≡◌ {A = Outcome Node} (read x u) (read x t) = ap (read x) same in
      subst (All t.place) nodes (more (h t x there l) none)
  kept_one (fails n) h t xs e l = cc
  kept_one (too_deep n) h t xs e l = cc

  flag_placed : (stop : ℕ) (f : Flag) → All stop (flag_node f ∷ [])
  flag_placed stop flag.Absent = more (good_node (IsPlaced stop) _ kind.Absent [] tt none) none
  flag_placed stop flag.Present = more (good_node (IsPlaced stop) _ (kind.Bool true) [] tt none) none

  module _ (utf8 : IsUtf8 text) (mode : Mode) where
    on : (n : ℕ) (g : Grammar) (s t : Position) (xs : List Node) → s.place ≤ length text → reads_with text mode n g s ≡ read xs t → (s.place ≤ t.place) × (t.place ≤ length text)
    on n g s t xs i e = let moved = readings_move_on text mode n g s t xs utf8 i e in (moved.0, moved.1)

    stand_many : (n : ℕ) (g : Grammar) → ((s : Position) → s.place ≤ length text → Stand (reads_with text mode n g s)) → (m : ℕ) → ManyStand text (many_up_to (reads_with text mode n g) m)
    unfolding many_up_to
    stand_many n g h zero s i = (stand_read [] s none, goes_read [] s s.place (omega arith))
    stand_many n g h (suc m) s i = many_step text s (many_up_to (reads_with text mode n g) m) (reads_with text mode n g s) (h s i) (λ t xs e. on n g s t xs i e) (stand_many n g h m)

    stand_taken : (n : ℕ) (k : Terminal) (q : Token → Reading (List Node)) (s : Position) → s.place ≤ length text → ((a : Token) (t : Position) → t.place ≤ length text → Stand (q a t)) → Stand (then_on q (token text k s))
    stand_taken n k q s i h = go (token text k s) (λ t a e. (on n (take k) s t [] i (ap (then_on (λ (a : Token). pure [])) e)).1)
      where
        go : (o : Outcome Token) → ((t : Position) (a : Token) → o ≡ read a t → t.place ≤ length text) → Stand (then_on q o)
        go (read a u) l = h a u (l u a refl)
        go (fails m) l = stand_fails m
        go (too_deep m) l = stand_deep m

    stand_kept : (n : ℕ) (l : Leaf) (s : Position) → s.place ≤ length text → Stand (kept_leaf text l s)
    stand_kept n l s i t xs e =
        let moved = readings_move_on text mode n (keep l) s t xs utf8 i e in
        let less = moved.2 refl in
        kept_one (leaf_node text l s) (leaf_one l s) t xs e (omega (arith, less))

    stand_followed : (n : ℕ) (b : Grammar) (o : Outcome (List Node)) → Stand o → ((t : Position) (xs : List Node) → o ≡ read xs t → t.place ≤ length text) → ((t : Position) → t.place ≤ length text → Stand (reads_with text mode n b t))
        → Stand (followed_on (reads_with text mode n b) o)
    stand_followed n b (read xs u) p i h = stand_front u.place xs (reads_with text mode n b u) (p u xs refl) (h u (i u xs refl)) (λ t ys e. (on n b u t ys (i u xs refl) e).0)
    stand_followed n b (fails m) p i h = stand_fails m
    stand_followed n b (too_deep m) p i h = stand_deep m

    abbrev PartsStand : Parts text → Type 0
    PartsStand parts = (u : Part) (at : ℕ) (s : Position) → s.place ≤ length text → Stand (parts u at s)

    module _ (n : ℕ) (parts_stand : PartsStand (levels text mode n)) where
      abbrev R : Grammar → Reading (List Node)
      R = reads_with text mode n

      stands : (g : Grammar) (s : Position) → s.place ≤ length text → Stand (R g s)
      stands nothing s i = stand_read [] s none
      stands same_line s i = stand_line s (skipped text s.place)
      stands (take t) s i = stand_taken n t (λ a. pure []) s i (λ a u j. stand_read [] u none)
      stands (keep l) s i = stand_kept n l s i
      stands (put f) s i = stand_read (flag_node f ∷ []) s (flag_placed s.place f)
      stands (a ▸ b) s i = stand_followed n b (R a s) (stands a s i) (λ t xs e. (on n a s t xs i e).1) (λ t j. stands b t j)
      stands (a // b) s i = stand_or (R b) s (R a s) (stands a s i) (λ k. stands b (record { place = s.place; failed = k }) i)
      stands (many a) s i = (stand_many n a (λ t j. stands a t j) (length text + 1) s i).0
      stands (ahead a) s i = stand_ahead s (R a s)
      stands (unless a) s i = stand_unless s (R a s)
      stands (marked a) s i = stand_marked mode.typescript (R a) s (stands a s i)
      stands (assigned a) s i = stand_marked mode.assignments (R a) s (stands a s i)
      stands (up u) s i = parts_stand u s.place s i
      stands (enter u) s i = parts_stand u (next_start text s) s i
      stands (behind t u) s i = stand_taken n t (λ a. levels text mode n u a.start) s i (λ a v j. parts_stand u a.start v j)
      stands (build f a) s i = stand_built f (next_start text s) (R a s) (stands a s i)

    levels_stand : (n : ℕ) → PartsStand (levels text mode n)
    unfolding levels_by
    levels_stand zero u at s i = stand_deep at
    levels_stand (suc n) u at s i = stands n (levels_stand n) (part_body u) s i

    -- what a module is read as
    pub module_stands : (n : ℕ) (t : Position) (xs : List Node) → reads_with text mode n module_body (record { place = 0; failed = 0 }) ≡ read xs t → All t.place xs
    module_stands n t xs e = stands n (levels_stand n) module_body (record { place = 0; failed = 0 }) (omega arith) t xs e
