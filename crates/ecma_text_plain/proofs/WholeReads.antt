-- What is read in plain mode is whole: one induction over grammars and one over levels.
use Rattle.std.proofs.Common.{◌≡◌, ◌∙◌, ℕ, zero, suc, ◌+◌, Bool, true, false, cond, List, [], ◌∷◌, ◌++◌, bytes_eq, codes, length, max, refl, subst, sym, Option, Some, None}
use Rattle.std.specs.Prelude.{if◌then◌else◌}
use Rattle.std.specs.Str.{IsUtf8}
use Rattle.std.proofs.lemmas.Bool.{and_parts}
use Rattle.std.proofs.lemmas.Slice.Eq.{bytes_eq-Decides}
use Rattle.ecma_lex.specs.declared.blanks.Skipped.{Skipped}
use Rattle.ecma_lex.specs.Blanks.{skipped}
use Rattle.ecma_lex.specs.Keys.{is_reserved, name_end, reserved_words}
use Rattle.ecma_lex.specs.Text.{piece}
use Rattle.ecma_lex.specs.Tokens as lex
use Rattle.ecma_lex.specs.Tokens.{found}
use Rattle.ecma_lex.proofs.Spelled.{name_spelled}
use Rattle.ecma_kind.specs.declared.operators.BinaryOp.{BinaryOp}
use Rattle.ecma_kind.specs.declared.operators.BinaryOp.TheVariants as binary
use Rattle.ecma_kind.specs.declared.kind.Kind.{Kind}
use Rattle.ecma_kind.specs.declared.kind.Kind.TheVariants as kind
use Rattle.ecma_lex.specs.declared.tokens.Token.{Token}
use Rattle.ecma_tree.specs.declared.node.Node.{Node}
use Rattle.ecma_grammar.specs.declared.production.Part.{Part}
use Rattle.ecma_grammar.specs.declared.production.Part.TheVariants as part
use Rattle.ecma_grammar.specs.declared.production.Link.{Link}
use Rattle.ecma_grammar.specs.declared.production.Link.TheVariants as link
use Rattle.ecma_grammar.specs.declared.production.Flag.{Flag}
use Rattle.ecma_grammar.specs.declared.production.Flag.TheVariants as flag
use Rattle.ecma_grammar.specs.declared.production.Leaf.{Leaf}
use Rattle.ecma_grammar.specs.declared.production.Leaf.TheVariants as leaf
use Rattle.ecma_grammar.specs.declared.production.TokenKind.TheVariants as token_kind
use Rattle.ecma_grammar.specs.trees.Parts.{flag_node}
use Rattle.ecma_grammar.specs.Reading.{Position, Outcome, Reading, ◌>>=◌, ahead_on, fails, many_on, many_up_to, marked, pure, read, terminal_on, too_deep, unless_on, with_front}
use Rattle.ecma_grammar.specs.Grammar as grammar
use Rattle.ecma_grammar.specs.Grammar.{Grammar}
use Rattle.ecma_grammar.specs.Reads.{Parts, any_token, hashbang_token, kept_leaf, leaf_node, levels, levels_by, next_start, reads, regex_token, same_line_on, template_part, token, word_token}
use Rattle.ecma_grammar.specs.Made.{at_token}
use Rattle.ecma_grammar.specs.PartBodies.{part_body}
use Rattle.ecma_grammar.specs.productions.Modules.{module_body}
use Rattle.ecma_modules.specs.Modules.{plain}
use Rattle.ecma_text_leaves.proofs.Leaves.{Holds, holds_deep, holds_fails, holds_read, holds_then}
use Rattle.ecma_text_leaves.proofs.Productions.{productions}
use Rattle.ecma_text_fits_leaves.proofs.ReadingOf.{holds_followed, holds_or, holds_built}
use Rattle.ecma_raw_roles.proofs.Walks.{not_true}
use Rattle.ecma_text_plain.proofs.Given.{is_plain_part}
use Rattle.ecma_text_plain.proofs.WholeMade.{made_meets}
use Rattle.ecma_plain.specs.Functions.{is_this_name}
use Rattle.ecma_text_plain.proofs.GivenWhole.{Given, Has, Meets, bare_full, calm, exactly, fact_made, followed, forget, gives, is_full, is_tight_list, joined, leaf_gives, never, part_gives, some_if, sound, takes}
use Rattle.ecma_text_plain.proofs.WholeJoins.{followed_has, joined_left, joined_right, repeated_more, repeated_none}
use Rattle.ecma_text_plain.proofs.Whole.{A, G, none, whole}

-- the bodies of the parts of plain modules

module _ (assignments : Bool) where
  abbrev IsFullBody : Part → Type 0
  IsFullBody u = is_full assignments (part_body u) ≡ true

  assign_full : (no_in middle : Bool) → IsFullBody (part.Assign no_in middle)
  unfolding productions
  assign_full false false = refl
  assign_full true false = refl
  assign_full false true = refl
  assign_full true true = refl

  binary_full : (op : BinaryOp) → IsFullBody (part.Binary op false)
  unfolding productions
  binary_full binary.EqEq = refl
  binary_full _ = refl

  binary_no_in_full : (op : BinaryOp) → IsFullBody (part.Binary op true)
  unfolding productions
  binary_no_in_full binary.EqEq = refl
  binary_no_in_full _ = refl

  link_full : (l : Link) → is_plain_part (part.Link l) ≡ true → IsFullBody (part.Link l)
  unfolding productions
  link_full link.NonNull h = not_true h
  link_full link.Instantiation h = not_true h
  link_full link.Dot h = refl
  link_full _ h = refl

  new_link_full : (l : Link) → is_plain_part (part.NewLink l) ≡ true → IsFullBody (part.NewLink l)
  unfolding productions
  new_link_full link.NonNull h = not_true h
  new_link_full link.Instantiation h = not_true h
  new_link_full link.Dot h = refl
  new_link_full _ h = refl

  body_full : (u : Part) → is_plain_part u ≡ true → IsFullBody u
  unfolding productions
  body_full part.NamespaceBody h = not_true h
  body_full part.Declared h = not_true h
  body_full part.«Type» h = not_true h
  body_full part.TypeOperator h = not_true h
  body_full part.ArraySuffix h = not_true h
  body_full part.Assertion h = not_true h
  body_full (part.As no_in) h = not_true h
  body_full (part.Satisfies no_in) h = not_true h
  body_full part.DottedName h = not_true h
  body_full part.DottedKey h = not_true h
  body_full (part.Assign no_in middle) h = assign_full no_in middle
  body_full (part.Binary op false) h = binary_full op
  body_full (part.Binary op true) h = binary_no_in_full op
  body_full (part.Link l) h = link_full l h
  body_full (part.NewLink l) h = new_link_full l h
  body_full (part.Class false) h = refl
  body_full (part.Class true) h = refl
  body_full _ h = refl

  assign_one : (no_in middle : Bool) → gives assignments (part_body (part.Assign no_in middle)) ≡ exactly (sound ∷ [])
  unfolding productions
  assign_one false false = refl
  assign_one true false = refl
  assign_one false true = refl
  assign_one true true = refl

  pattern_one : gives assignments (part_body part.Pattern) ≡ exactly (calm ∷ [])
  unfolding productions
  pattern_one = refl

  statement_one : gives assignments (part_body part.Statement) ≡ exactly (sound ∷ [])
  unfolding productions
  statement_one = refl

  abbrev IsTightBody : Part → Type 0
  IsTightBody u = is_tight_list (gives assignments (part_body u)) ≡ true

  assign_tight : (no_in middle : Bool) → IsTightBody (part.Assign no_in middle)
  unfolding productions
  assign_tight false false = refl
  assign_tight true false = refl
  assign_tight false true = refl
  assign_tight true true = refl

  binary_tight : (op : BinaryOp) → IsTightBody (part.Binary op false)
  unfolding productions
  binary_tight binary.EqEq = refl
  binary_tight _ = refl

  binary_no_in_tight : (op : BinaryOp) → IsTightBody (part.Binary op true)
  unfolding productions
  binary_no_in_tight binary.EqEq = refl
  binary_no_in_tight _ = refl

  link_tight : (l : Link) → is_plain_part (part.Link l) ≡ true → IsTightBody (part.Link l)
  unfolding productions
  link_tight link.NonNull h = not_true h
  link_tight link.Instantiation h = not_true h
  link_tight link.Dot h = refl
  link_tight _ h = refl

  new_link_tight : (l : Link) → is_plain_part (part.NewLink l) ≡ true → IsTightBody (part.NewLink l)
  unfolding productions
  new_link_tight link.NonNull h = not_true h
  new_link_tight link.Instantiation h = not_true h
  new_link_tight link.Dot h = refl
  new_link_tight _ h = refl

  body_tight : (u : Part) → is_plain_part u ≡ true → IsTightBody u
  unfolding productions
  body_tight part.NamespaceBody h = not_true h
  body_tight part.Declared h = not_true h
  body_tight part.«Type» h = not_true h
  body_tight part.TypeOperator h = not_true h
  body_tight part.ArraySuffix h = not_true h
  body_tight part.Assertion h = not_true h
  body_tight (part.As no_in) h = not_true h
  body_tight (part.Satisfies no_in) h = not_true h
  body_tight part.DottedName h = not_true h
  body_tight part.DottedKey h = not_true h
  body_tight (part.Assign no_in middle) h = assign_tight no_in middle
  body_tight (part.Binary op false) h = binary_tight op
  body_tight (part.Binary op true) h = binary_no_in_tight op
  body_tight (part.Link l) h = link_tight l h
  body_tight (part.NewLink l) h = new_link_tight l h
  body_tight (part.Class false) h = refl
  body_tight (part.Class true) h = refl
  body_tight _ h = refl

  body_has : (u : Part) (xs : List Node) → is_plain_part u ≡ true → Has (gives assignments (part_body u)) xs → Has (part_gives u) xs
  body_has (part.Assign no_in middle) xs e h = subst (λ g. Has g xs) (assign_one no_in middle) h
  body_has part.Pattern xs e h = subst (λ g. Has g xs) pattern_one h
  body_has part.Statement xs e h = subst (λ g. Has g xs) statement_one h
  body_has part.NamespaceBody xs e h = forget (gives assignments (part_body part.NamespaceBody)) xs (body_tight part.NamespaceBody e) h
  body_has part.Declared xs e h = forget (gives assignments (part_body part.Declared)) xs (body_tight part.Declared e) h
  body_has part.«Type» xs e h = forget (gives assignments (part_body part.«Type»)) xs (body_tight part.«Type» e) h
  body_has part.TypeOperator xs e h = forget (gives assignments (part_body part.TypeOperator)) xs (body_tight part.TypeOperator e) h
  body_has part.ArraySuffix xs e h = forget (gives assignments (part_body part.ArraySuffix)) xs (body_tight part.ArraySuffix e) h
  body_has part.Operand xs e h = forget (gives assignments (part_body part.Operand)) xs (body_tight part.Operand e) h
  body_has part.Assertion xs e h = forget (gives assignments (part_body part.Assertion)) xs (body_tight part.Assertion e) h
  body_has part.New xs e h = forget (gives assignments (part_body part.New)) xs (body_tight part.New e) h
  body_has part.Power xs e h = forget (gives assignments (part_body part.Power)) xs (body_tight part.Power e) h
  body_has (part.Class named) xs e h = forget (gives assignments (part_body (part.Class named))) xs (body_tight (part.Class named) e) h
  body_has (part.Link l) xs e h = forget (gives assignments (part_body (part.Link l))) xs (body_tight (part.Link l) e) h
  body_has (part.NewLink l) xs e h = forget (gives assignments (part_body (part.NewLink l))) xs (body_tight (part.NewLink l) e) h
  body_has (part.Binary op no_in) xs e h = forget (gives assignments (part_body (part.Binary op no_in))) xs (body_tight (part.Binary op no_in) e) h
  body_has (part.As no_in) xs e h = forget (gives assignments (part_body (part.As no_in))) xs (body_tight (part.As no_in) e) h
  body_has (part.Satisfies no_in) xs e h = forget (gives assignments (part_body (part.Satisfies no_in))) xs (body_tight (part.Satisfies no_in) e) h
  body_has part.DottedName xs e h = forget (gives assignments (part_body part.DottedName)) xs (body_tight part.DottedName e) h
  body_has part.DottedKey xs e h = forget (gives assignments (part_body part.DottedKey)) xs (body_tight part.DottedKey e) h

module_tight : (assignments : Bool) → is_tight_list (gives assignments module_body) ≡ true
unfolding productions
module_tight true = refl
module_tight false = refl

module_full : (assignments : Bool) → is_full assignments module_body ≡ true
unfolding productions
module_full true = refl
module_full false = refl

-- how what is said goes through the words of a grammar

holds_after : (Q R : List Node → Type 0) (xs : List Node) (o : Outcome (List Node)) → Holds o Q → ((ys : List Node) → Q ys → R (xs ++ ys)) → Holds (with_front xs o) R
holds_after Q R xs (read ys u) q f = holds_read R (xs ++ ys) u (f ys (q u ys refl))
holds_after Q R xs (fails n) q f = holds_fails R n
holds_after Q R xs (too_deep n) q f = holds_deep R n

holds_also : (Q R : List Node → Type 0) (o : Outcome (List Node)) → Holds o Q → ((xs : List Node) → Q xs → R xs) → Holds o R
holds_also Q R o h f t xs e = f xs (h t xs e)

this_reserved : is_reserved (codes "this") ≡ true
unfolding is_reserved reserved_words
this_reserved = refl

not_this : (w : List ℕ) → is_reserved w ≡ false → bytes_eq w (codes "this") ≡ false
not_this w h = go (bytes_eq w (codes "this")) refl
  where
    go : (b : Bool) → bytes_eq w (codes "this") ≡ b → b ≡ false
    go true e = let same : w ≡ codes "this" = (bytes_eq-Decides w (codes "this")).0 e in not_true (sym (subst (λ (v : List ℕ). is_reserved v ≡ false) same h) ∙ this_reserved)
    go false e = refl

module _ (text : List ℕ) (u : IsUtf8 text) (assignments : Bool) where
  abbrev H : Given → List Node → Type 0
  H = Has

  abbrev Nothing : List Node → Type 0
  Nothing = H (exactly [])

  abbrev One : List Node → Type 0
  One = H (exactly (sound ∷ []))

  any_leaf : {X : Type 0} (p : Reading X) (f : X → Node) (s : Position) → ((x : X) → G (f x)) → Holds ((p >>= λ x. pure (f x)) s) G
  any_leaf p f s g = holds_then (λ x. pure (f x)) (λ x. Unit {0}) G (p s) (λ t x e. tt) (λ x t q. holds_read G (f x) t (g x))

  leaf_at : (t : Token) (k : Kind) → is_this_name k ≡ false → G (at_token t k)
  leaf_at t k q = whole (record { lo = t.start; hi = t.next }) k (bare_full k) q none

  -- a name is no reserved word

  if_closed : (find : List ℕ → ℕ → Option ℕ) (b : Bool) (i j : ℕ) → cond b (find text i) None ≡ Some j → find text i ≡ Some j
  if_closed find true i j h = h
  if_closed find false i j h = cc

  holds_found : (Q : Token → Type 0) (s : Position) (before : Skipped) (o : Option ℕ) → ((j : ℕ) → o ≡ Some j → Q (record { start = before.to; next = j; new_line = before.new_line })) → Holds (terminal_on s (found before o)) Q
  holds_found Q s before None g = holds_fails Q (max s.failed before.to)
  holds_found Q s before (Some j) g = holds_read Q (record { start = before.to; next = j; new_line = before.new_line }) (record { place = j; failed = s.failed }) (g j refl)

  abbrev IsNoThis : Token → Type 0
  IsNoThis t = bytes_eq (piece text t.start t.next) (codes "this") ≡ false

  name_told : (s : Position) → Holds (any_token text token_kind.Name s) IsNoThis
  unfolding lex.name
  name_told s =
      let before = skipped text s.place in
      holds_found IsNoThis s before (cond before.closed (name_end text before.to) None) (λ j h. not_this (piece text before.to j) (name_spelled text before.to j u (if_closed name_end before.closed before.to j h)).1)

  leaf_met : (l : Leaf) (s : Position) → Holds (leaf_node text l s) (Meets (leaf_gives l))
  leaf_met leaf.Ident s = holds_then _ IsNoThis G (any_token text token_kind.Name s) (name_told s) (λ t u q. holds_read G _ u (leaf_at t _ q))
  leaf_met leaf.KeyIdent s = λ t x e. tt
  leaf_met leaf.ThisIdent s = λ t x e. tt
  leaf_met leaf.IdentName s = any_leaf (any_token text token_kind.Key) _ s (λ t. leaf_at t _ refl)
  leaf_met leaf.PrivateName s = any_leaf (any_token text token_kind.PrivateName) _ s (λ t. leaf_at t _ refl)
  leaf_met leaf.Str s = any_leaf (any_token text token_kind.Str) _ s (λ t. leaf_at t _ refl)
  leaf_met leaf.Number s = any_leaf (any_token text token_kind.Number) _ s (λ t. leaf_at t _ refl)
  leaf_met leaf.BigInt s = any_leaf (any_token text token_kind.BigInt) _ s (λ t. leaf_at t _ refl)
  leaf_met leaf.Regex s = any_leaf (regex_token text) _ s (λ t. leaf_at t _ refl)
  leaf_met (leaf.TplElement wanted) s = any_leaf (template_part text wanted) _ s (λ part. leaf_at part.token _ refl)
  leaf_met leaf.This s = any_leaf (word_token text (codes "this")) _ s (λ t. leaf_at t kind.ThisExpr refl)
  leaf_met leaf.Null s = any_leaf (word_token text (codes "null")) _ s (λ t. leaf_at t kind.Null refl)
  leaf_met leaf.True s = any_leaf (word_token text (codes "true")) _ s (λ t. leaf_at t (kind.Bool true) refl)
  leaf_met leaf.False s = any_leaf (word_token text (codes "false")) _ s (λ t. leaf_at t (kind.Bool false) refl)
  leaf_met leaf.Super s = any_leaf (word_token text (codes "super")) _ s (λ t. leaf_at t kind.Super refl)
  leaf_met leaf.Import s = any_leaf (word_token text (codes "import")) _ s (λ t. leaf_at t kind.Import refl)
  leaf_met leaf.Hashbang s = any_leaf (hashbang_token text) _ s (λ t. leaf_at t _ refl)

  leaf_kept : (l : Leaf) (s : Position) → Holds (kept_leaf text l s) (H (exactly (leaf_gives l ∷ [])))
  leaf_kept l s = holds_then _ (Meets (leaf_gives l)) (H (exactly (leaf_gives l ∷ []))) (leaf_node text l s) (leaf_met l s) (λ x t q. holds_read (H (exactly (leaf_gives l ∷ []))) (x ∷ []) t (q, tt))

  flag_good : (f : Flag) → G (flag_node f)
  flag_good flag.Absent = whole _ kind.Absent refl refl none
  flag_good flag.Present = whole _ (kind.Bool true) refl refl none

  holds_ahead : (s : Position) (o : Outcome (List Node)) → Holds (ahead_on s o) Nothing
  holds_ahead s (read xs t) = holds_read Nothing [] _ tt
  holds_ahead s (fails n) = holds_fails Nothing n
  holds_ahead s (too_deep n) = holds_deep Nothing n

  holds_unless : (s : Position) (o : Outcome (List Node)) → Holds (unless_on s o) Nothing
  holds_unless s (read xs t) = holds_fails Nothing t.failed
  holds_unless s (fails n) = holds_read Nothing [] _ tt
  holds_unless s (too_deep n) = holds_deep Nothing n

  holds_line : (s : Position) (before : Skipped) → Holds (same_line_on s before) Nothing
  holds_line s before = go before.new_line
    where
      go : (b : Bool) → Holds {A = List Node} (if b then fails (max s.failed before.to) else read [] s) Nothing
      go true = holds_fails Nothing (max s.failed before.to)
      go false = holds_read Nothing [] s tt

  abbrev Repeated : Given → List Node → Type 0
  Repeated g = H (some_if (is_tight_list g))

  holds_many_on : (g : Given) (s : Position) (rest : Reading (List Node)) (o : Outcome (List Node)) → Holds o (H g) → ((s : Position) → Holds (rest s) (Repeated g)) → Holds (many_on s rest o) (Repeated g)
  holds_many_on g s rest (read xs t) h r = holds_after (Repeated g) (Repeated g) xs (rest t) (r t) (λ ys k. repeated_more g xs ys (h t xs refl) k)
  holds_many_on g s rest (fails n) h r = holds_read (Repeated g) [] _ (repeated_none (is_tight_list g))
  holds_many_on g s rest (too_deep n) h r = holds_deep (Repeated g) n

  holds_many : (g : Given) (p : Reading (List Node)) → ((s : Position) → Holds (p s) (H g)) → (n : ℕ) (s : Position) → Holds (many_up_to p n s) (Repeated g)
  unfolding many_up_to
  holds_many g p h zero s = holds_read (Repeated g) [] s (repeated_none (is_tight_list g))
  holds_many g p h (suc n) s = holds_many_on g s (many_up_to p n) (p s) (h s) (holds_many g p h n)

  module _ (parts : Parts text) (inside : (p : Part) (at : ℕ) (s : Position) → is_plain_part p ≡ true → Holds (parts p at s) (H (part_gives p))) where
    abbrev R : Grammar → Reading (List Node)
    R = reads text (plain assignments) parts

    abbrev Reads : Grammar → Type 0
    Reads g = (s : Position) → Holds (R g s) (H (gives assignments g))

    some_read : (x : Grammar) → Reads x → (s : Position) → Holds (marked assignments (R x) s) (H (cond assignments (gives assignments x) never))
    some_read x p s = go assignments
      where
        go : (b : Bool) → Holds (marked b (R x) s) (H (cond b (gives assignments x) never))
        go true = p s
        go false = holds_fails (H never) s.failed

    full_read : (g : Grammar) → is_full assignments g ≡ true → Reads g
    full_read grammar.nothing h s = holds_read Nothing [] s tt
    full_read grammar.same_line h s = holds_line s (skipped text s.place)
    full_read (grammar.take t) h s = holds_then _ (λ k. Unit {0}) Nothing (token text t s) (λ p x e. tt) (λ x p q. holds_read Nothing [] p tt)
    full_read (grammar.keep l) h s = leaf_kept l s
    full_read (grammar.put f) h s = holds_read One (flag_node f ∷ []) s (flag_good f, tt)
    full_read (grammar.◌▸◌ x y) h s =
        let both = and_parts (is_full assignments x) (is_full assignments y) h in
        holds_followed (H (gives assignments x)) (H (gives assignments y)) (H (followed (gives assignments x) (gives assignments y))) (R y) (R x s) (full_read x both.0 s) (full_read y both.1)
        (λ xs ys a b. followed_has (gives assignments x) (gives assignments y) xs ys a b)
    full_read (grammar.◌//◌ x y) h s =
        let both = and_parts (is_full assignments x) (is_full assignments y) h in
        let g = gives assignments x in
        let k = gives assignments y in
        holds_or (H (joined g k)) (R y) s (R x s)
        (holds_also (H g) (H (joined g k)) (R x s) (full_read x both.0 s) (λ xs a. joined_left g k xs a))
        (λ t. holds_also (H k) (H (joined g k)) (R y t) (full_read y both.1 t) (λ xs a. joined_right g k xs a))
    full_read (grammar.many x) h s = holds_many (gives assignments x) (R x) (full_read x h) (length text + 1) s
    full_read (grammar.ahead x) h s = holds_ahead s (R x s)
    full_read (grammar.unless x) h s = holds_unless s (R x s)
    full_read (grammar.marked x) h s = holds_fails (H never) s.failed
    full_read (grammar.assigned x) h s = some_read x (full_read x h) s
    full_read (grammar.up p) h s = inside p s.place s h
    full_read (grammar.enter p) h s = inside p (next_start text s) s h
    full_read (grammar.behind t p) h s = holds_then _ (λ k. Unit {0}) (H (part_gives p)) (token text t s) (λ q x e. tt) (λ k t q. inside p k.start t h)
    full_read (grammar.build f x) h s =
        let both = and_parts (is_full assignments x) (takes f (gives assignments x)) h in
        let fact = fact_made f (gives assignments x) in
        holds_built (H (gives assignments x)) (H (exactly (fact ∷ []))) f (next_start text s) (R x s) (full_read x both.0 s)
        (λ hi xs q. (made_meets f (gives assignments x) both.1 (next_start text s) hi xs q, tt))

  levels_full : (n : ℕ) (p : Part) (at : ℕ) (s : Position) → is_plain_part p ≡ true → Holds (levels text (plain assignments) n p at s) (H (part_gives p))
  unfolding levels_by
  levels_full zero p at s h = holds_deep (H (part_gives p)) at
  levels_full (suc n) p at s h =
      holds_also (H (gives assignments (part_body p))) (H (part_gives p)) _ (full_read (levels text (plain assignments) n) (levels_full n) (part_body p) (body_full assignments p h) s) (λ xs q. body_has assignments p xs h q)

  -- every node of a module
  pub module_reads : (bound : ℕ) (s : Position) → Holds (reads text (plain assignments) (levels text (plain assignments) bound) module_body s) A
  module_reads bound s =
      holds_also (H (gives assignments module_body)) A _ (full_read (levels text (plain assignments) bound) (levels_full bound) module_body (module_full assignments) s) (λ xs q. forget (gives assignments module_body) xs (module_tight assignments) q)
