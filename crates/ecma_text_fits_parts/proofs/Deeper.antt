-- With more levels a grammar reads the same, where it was not too deep; and where terminals failed before does not matter.
use Rattle.std.proofs.Common.{◌≡◌, ◌∙◌, ℕ, zero, suc, ◌+◌, ◌≤◌, Bool, true, false, List, [], ◌∷◌, ◌++◌, length, refl, ap, ap₂, subst, arith, codes, max, Result, Ok, Err}
use Rattle.std.specs.Prelude.{if◌then◌else◌}
use Rattle.ecma_lex.specs.declared.blanks.Skipped.{Skipped}
use Rattle.ecma_lex.specs.declared.tokens.NoToken.{NoToken}
use Rattle.ecma_lex.specs.declared.tokens.Token.{Token}
use Rattle.ecma_lex.specs.declared.templates.TemplateText.{TemplateText}
use Rattle.ecma_lex.specs.Blanks.{skipped}
use Rattle.ecma_lex.specs.Strings.{str_lit}
use Rattle.ecma_lex.specs.Templates.{template_text}
use Rattle.ecma_lex.specs.Tokens as lex
use Rattle.ecma_tree.specs.declared.node.Node.{Node}
use Rattle.ecma_grammar.specs.declared.production.Form.{Form}
use Rattle.ecma_grammar.specs.declared.production.Leaf.{Leaf}
use Rattle.ecma_grammar.specs.declared.production.Leaf.TheVariants as leaf
use Rattle.ecma_grammar.specs.declared.production.Mode.{Mode}
use Rattle.ecma_grammar.specs.declared.production.Part.{Part}
use Rattle.ecma_grammar.specs.declared.production.TokenKind.{TokenKind}
use Rattle.ecma_grammar.specs.declared.production.TokenKind.TheVariants as token_kind
use Rattle.ecma_grammar.specs.Grammar as grammar
use Rattle.ecma_grammar.specs.Grammar.{Grammar, Terminal, any, the_punct, the_word}
use Rattle.ecma_grammar.specs.Made.{made}
use Rattle.ecma_grammar.specs.PartBodies.{part_body}
use Rattle.ecma_grammar.specs.Reading.{Outcome, Position, Reading, ahead_on, fails, followed_on, many_on, many_up_to, marked, or_on, pure, read, terminal_on, then_on, too_deep, unless_on, with_front, ◌>>=◌}
use Rattle.ecma_grammar.specs.Reads.{Parts, any_token, built_on, hashbang_token, leaf_node, levels, levels_by, next_start, part_on, reads, regex_token, same_line_on, template_part, token, word_token}

-- the second reads what the first reads, up to the same place, and fails where that fails
abbrev pub Like : {A : Type 0} → Outcome A → Outcome A → Type 0
Like (too_deep n) o = Unit {0}
Like (fails n) (fails m) = Unit {0}
Like (read x t) (read y u) = (x ≡ y) × (t.place ≡ u.place)
Like _ _ = ⊥

-- from the same place
abbrev pub SameFrom : {A : Type 0} → Reading A → Reading A → Type 0
SameFrom p q = (s t : Position) → s.place ≡ t.place → Like (p s) (q t)

like_then : {A B : Type 0} (f g : A → Reading B) (o p : Outcome A) → Like o p → ((x : A) → SameFrom (f x) (g x)) → Like (then_on f o) (then_on g p)
like_then f g (too_deep n) p h k = tt
like_then f g (fails n) (fails m) h k = tt
like_then f g (fails n) (read y u) h k = absurd h
like_then f g (fails n) (too_deep m) h k = absurd h
like_then f g (read x t) (read y u) h k = subst (λ z. Like (f x t) (g z u)) h.0 (k x t u h.1)
like_then f g (read x t) (fails m) h k = absurd h
like_then f g (read x t) (too_deep m) h k = absurd h

like_front : (xs ys : List Node) → xs ≡ ys → (o p : Outcome (List Node)) → Like o p → Like (with_front xs o) (with_front ys p)
like_front xs ys e (too_deep n) p h = tt
like_front xs ys e (fails n) (fails m) h = tt
like_front xs ys e (fails n) (read y u) h = absurd h
like_front xs ys e (fails n) (too_deep m) h = absurd h
like_front xs ys e (read x t) (read y u) h = (ap₂ (λ a b. a ++ b) e h.0, h.1)
like_front xs ys e (read x t) (fails m) h = absurd h
like_front xs ys e (read x t) (too_deep m) h = absurd h

like_followed : (q r : Reading (List Node)) (o p : Outcome (List Node)) → Like o p → SameFrom q r → Like (followed_on q o) (followed_on r p)
like_followed q r (too_deep n) p h k = tt
like_followed q r (fails n) (fails m) h k = tt
like_followed q r (fails n) (read y u) h k = absurd h
like_followed q r (fails n) (too_deep m) h k = absurd h
like_followed q r (read x t) (read y u) h k = like_front x y h.0 (q t) (r u) (k t u h.1)
like_followed q r (read x t) (fails m) h k = absurd h
like_followed q r (read x t) (too_deep m) h k = absurd h

like_or : (q r : Reading (List Node)) (s t : Position) → s.place ≡ t.place → (o p : Outcome (List Node)) → Like o p → SameFrom q r → Like (or_on q s o) (or_on r t p)
like_or q r s t e (too_deep n) p h k = tt
like_or q r s t e (fails n) (fails m) h k = k (record { place = s.place; failed = n }) (record { place = t.place; failed = m }) e
like_or q r s t e (fails n) (read y u) h k = absurd h
like_or q r s t e (fails n) (too_deep m) h k = absurd h
like_or q r s t e (read x v) (read y u) h k = h
like_or q r s t e (read x v) (fails m) h k = absurd h
like_or q r s t e (read x v) (too_deep m) h k = absurd h

like_many_on : (s t : Position) → s.place ≡ t.place → (q r : Reading (List Node)) (o p : Outcome (List Node)) → Like o p → SameFrom q r → Like (many_on s q o) (many_on t r p)
like_many_on s t e q r (too_deep n) p h k = tt
like_many_on s t e q r (fails n) (fails m) h k = (refl, e)
like_many_on s t e q r (fails n) (read y u) h k = absurd h
like_many_on s t e q r (fails n) (too_deep m) h k = absurd h
like_many_on s t e q r (read x v) (read y u) h k = like_front x y h.0 (q v) (r u) (k v u h.1)
like_many_on s t e q r (read x v) (fails m) h k = absurd h
like_many_on s t e q r (read x v) (too_deep m) h k = absurd h

like_many : (q r : Reading (List Node)) → SameFrom q r → (n : ℕ) → SameFrom (many_up_to q n) (many_up_to r n)
unfolding many_up_to
like_many q r k zero s t e = (refl, e)
like_many q r k (suc n) s t e = like_many_on s t e (many_up_to q n) (many_up_to r n) (q s) (r t) (k s t e) (like_many q r k n)

like_ahead : (s t : Position) → s.place ≡ t.place → (o p : Outcome (List Node)) → Like o p → Like (ahead_on s o) (ahead_on t p)
like_ahead s t e (too_deep n) p h = tt
like_ahead s t e (fails n) (fails m) h = tt
like_ahead s t e (fails n) (read y u) h = absurd h
like_ahead s t e (fails n) (too_deep m) h = absurd h
like_ahead s t e (read x v) (read y u) h = (refl, e)
like_ahead s t e (read x v) (fails m) h = absurd h
like_ahead s t e (read x v) (too_deep m) h = absurd h

like_unless : (s t : Position) → s.place ≡ t.place → (o p : Outcome (List Node)) → Like o p → Like (unless_on s o) (unless_on t p)
like_unless s t e (too_deep n) p h = tt
like_unless s t e (fails n) (fails m) h = (refl, e)
like_unless s t e (fails n) (read y u) h = absurd h
like_unless s t e (fails n) (too_deep m) h = absurd h
like_unless s t e (read x v) (read y u) h = tt
like_unless s t e (read x v) (fails m) h = absurd h
like_unless s t e (read x v) (too_deep m) h = absurd h

like_marked : (b : Bool) (q r : Reading (List Node)) → SameFrom q r → SameFrom (marked b q) (marked b r)
like_marked true q r k s t e = k s t e
like_marked false q r k s t e = tt

like_built : (f : Form) (lo hi : ℕ) → lo ≡ hi → (o p : Outcome (List Node)) → Like o p → Like (built_on f lo o) (built_on f hi p)
like_built f lo hi e (too_deep n) p h = tt
like_built f lo hi e (fails n) (fails m) h = tt
like_built f lo hi e (fails n) (read y u) h = absurd h
like_built f lo hi e (fails n) (too_deep m) h = absurd h
like_built f lo hi e (read x t) (read y u) h =
    (ap (λ a. made f a t.place x ∷ []) e ∙ ap (λ a. made f hi a x ∷ []) h.1 ∙ ap (λ a. made f hi u.place a ∷ []) h.0, h.1)
like_built f lo hi e (read x t) (fails m) h = absurd h
like_built f lo hi e (read x t) (too_deep m) h = absurd h

-- what depends on the place alone
by_place : {A : Type 0} (f : ℕ → Position → Outcome A) → ((n : ℕ) (s t : Position) → Like (f n s) (f n t)) → (s t : Position) → s.place ≡ t.place → Like (f s.place s) (f t.place t)
by_place f k s t e = subst (λ n. Like (f s.place s) (f n t)) e (k s.place s t)

like_terminal : (r : Result Token NoToken) (s t : Position) → Like (terminal_on s r) (terminal_on t r)
like_terminal (Ok k) s t = (refl, refl)
like_terminal (Err none) s t = tt

like_chosen : (b : Bool) (p : TemplateText) (u v : Position) (n m : ℕ) → u.place ≡ v.place → Like (if b then read p u else fails n) (if b then read p v else fails m)
like_chosen true p u v n m e = (refl, e)
like_chosen false p u v n m e = tt

like_refused : (b : Bool) (p : TemplateText) (u v : Position) (n m : ℕ) → u.place ≡ v.place → Like (if b then fails n else read p u) (if b then fails m else read p v)
like_refused true p u v n m e = tt
like_refused false p u v n m e = (refl, e)

like_part : (last : Bool) (r : Result TemplateText NoToken) (s t : Position) → Like (part_on s last r) (part_on t last r)
like_part true (Ok part) s t = like_chosen part.last part _ _ s.failed t.failed refl
like_part false (Ok part) s t = like_refused part.last part _ _ s.failed t.failed refl
like_part true (Err none) s t = tt
like_part false (Err none) s t = tt

same_pure : {A : Type 0} (x : A) → SameFrom (pure x) (pure x)
same_pure x s t e = (refl, e)

like_line : (before : Skipped) (s t : Position) → s.place ≡ t.place → Like (same_line_on s before) (same_line_on t before)
like_line before s t e = go before.new_line
  where
    go : (b : Bool) → Like {A = List Node} (if b then fails (max s.failed before.to) else read [] s) (if b then fails (max t.failed before.to) else read [] t)
    go true = tt
    go false = (refl, e)

module _ (text : List ℕ) where
  same_part : (last first tagged : Bool) (s t : Position) → s.place ≡ t.place → Like (part_on s last (template_text text s.place first tagged)) (part_on t last (template_text text t.place first tagged))
  same_part last first tagged s t e = by_place (λ n u. part_on u last (template_text text n first tagged)) (λ n u v. like_part last (template_text text n first tagged) u v) s t e

  same_token : (k : TokenKind) → SameFrom (any_token text k) (any_token text k)
  same_token token_kind.Name s t e = by_place (λ n u. terminal_on u (lex.name text n)) (λ n u v. like_terminal (lex.name text n) u v) s t e
  same_token token_kind.Key s t e = by_place (λ n u. terminal_on u (lex.key text n)) (λ n u v. like_terminal (lex.key text n) u v) s t e
  same_token token_kind.PrivateName s t e = by_place (λ n u. terminal_on u (lex.priv_name text n)) (λ n u v. like_terminal (lex.priv_name text n) u v) s t e
  same_token token_kind.Str s t e = by_place (λ n u. terminal_on u (str_lit text n)) (λ n u v. like_terminal (str_lit text n) u v) s t e
  same_token token_kind.Number s t e = by_place (λ n u. terminal_on u (lex.num text n)) (λ n u v. like_terminal (lex.num text n) u v) s t e
  same_token token_kind.BigInt s t e = by_place (λ n u. terminal_on u (lex.big text n)) (λ n u v. like_terminal (lex.big text n) u v) s t e
  same_token (token_kind.Template wanted) s t e = like_then (λ part. pure part.token) (λ part. pure part.token) _ _ (same_part wanted.last wanted.first wanted.tagged s t e) (λ part. same_pure part.token)
  same_token token_kind.LeftAngle s t e = by_place (λ n u. terminal_on u (lex.angle text n 60)) (λ n u v. like_terminal (lex.angle text n 60) u v) s t e
  same_token token_kind.RightAngle s t e = by_place (λ n u. terminal_on u (lex.angle text n 62)) (λ n u v. like_terminal (lex.angle text n 62) u v) s t e
  same_token token_kind.End s t e = by_place (λ n u. terminal_on u (lex.end text n)) (λ n u v. like_terminal (lex.end text n) u v) s t e
  same_token token_kind.EndOfText s t e = by_place (λ n u. terminal_on u (lex.end_of_text text n)) (λ n u v. like_terminal (lex.end_of_text text n) u v) s t e

  same_word : (w : List ℕ) → SameFrom (word_token text w) (word_token text w)
  same_word w s t e = by_place (λ n u. terminal_on u (lex.word text n w)) (λ n u v. like_terminal (lex.word text n w) u v) s t e

  same_terminal : (t : Terminal) → SameFrom (token text t) (token text t)
  same_terminal (the_word w) s t e = same_word w s t e
  same_terminal (the_punct w) s t e = by_place (λ n u. terminal_on u (lex.punct text n w)) (λ n u v. like_terminal (lex.punct text n w) u v) s t e
  same_terminal (any k) s t e = same_token k s t e

  same_leaf_of : {A : Type 0} (p : Reading A) (f : A → Node) → SameFrom p p → SameFrom (p >>= λ x. pure (f x)) (p >>= λ x. pure (f x))
  same_leaf_of p f k s t e = like_then (λ x. pure (f x)) (λ x. pure (f x)) (p s) (p t) (k s t e) (λ x. same_pure (f x))

  same_leaf : (l : Leaf) → SameFrom (leaf_node text l) (leaf_node text l)
  same_leaf leaf.Ident = same_leaf_of (any_token text token_kind.Name) _ (same_token token_kind.Name)
  same_leaf leaf.KeyIdent = same_leaf_of (any_token text token_kind.Key) _ (same_token token_kind.Key)
  same_leaf leaf.ThisIdent = same_leaf_of (word_token text (codes "this")) _ (same_word (codes "this"))
  same_leaf leaf.IdentName = same_leaf_of (any_token text token_kind.Key) _ (same_token token_kind.Key)
  same_leaf leaf.PrivateName = same_leaf_of (any_token text token_kind.PrivateName) _ (same_token token_kind.PrivateName)
  same_leaf leaf.Str = same_leaf_of (any_token text token_kind.Str) _ (same_token token_kind.Str)
  same_leaf leaf.Number = same_leaf_of (any_token text token_kind.Number) _ (same_token token_kind.Number)
  same_leaf leaf.BigInt = same_leaf_of (any_token text token_kind.BigInt) _ (same_token token_kind.BigInt)
  same_leaf leaf.Regex = same_leaf_of (regex_token text) _ (λ s t e. by_place (λ n u. terminal_on u (lex.regex text n)) (λ n u v. like_terminal (lex.regex text n) u v) s t e)
  same_leaf (leaf.TplElement wanted) = same_leaf_of (template_part text wanted) _ (same_part wanted.last wanted.first wanted.tagged)
  same_leaf leaf.This = same_leaf_of (word_token text (codes "this")) _ (same_word (codes "this"))
  same_leaf leaf.Null = same_leaf_of (word_token text (codes "null")) _ (same_word (codes "null"))
  same_leaf leaf.True = same_leaf_of (word_token text (codes "true")) _ (same_word (codes "true"))
  same_leaf leaf.False = same_leaf_of (word_token text (codes "false")) _ (same_word (codes "false"))
  same_leaf leaf.Super = same_leaf_of (word_token text (codes "super")) _ (same_word (codes "super"))
  same_leaf leaf.Import = same_leaf_of (word_token text (codes "import")) _ (same_word (codes "import"))
  same_leaf leaf.Hashbang = same_leaf_of (hashbang_token text) _ (λ s t e. by_place (λ n u. terminal_on u (lex.hashbang text n)) (λ n u v. like_terminal (lex.hashbang text n) u v) s t e)

  start_same : (s t : Position) → s.place ≡ t.place → next_start text s ≡ next_start text t
  start_same s t e = ap (λ n. (skipped text n).to) e

  module _ (mode : Mode) where
    module _ (one other : Parts text) (inside : (p : Part) (at to : ℕ) → SameFrom (one p at) (other p to)) where
      same_reads : (g : Grammar) → SameFrom (reads text mode one g) (reads text mode other g)
      same_reads grammar.nothing s t e = (refl, e)
      same_reads grammar.same_line s t e = subst (λ n. Like (same_line_on s (skipped text s.place)) (same_line_on t (skipped text n))) e (like_line (skipped text s.place) s t e)
      same_reads (grammar.take k) s t e = like_then (λ x. pure []) (λ x. pure []) (token text k s) (token text k t) (same_terminal k s t e) (λ x. same_pure [])
      same_reads (grammar.keep l) s t e = like_then (λ x. pure (x ∷ [])) (λ x. pure (x ∷ [])) (leaf_node text l s) (leaf_node text l t) (same_leaf l s t e) (λ x. same_pure (x ∷ []))
      same_reads (grammar.put f) s t e = (refl, e)
      same_reads (grammar.◌▸◌ a b) s t e = like_followed (reads text mode one b) (reads text mode other b) (reads text mode one a s) (reads text mode other a t) (same_reads a s t e) (same_reads b)
      same_reads (grammar.◌//◌ a b) s t e = like_or (reads text mode one b) (reads text mode other b) s t e (reads text mode one a s) (reads text mode other a t) (same_reads a s t e) (same_reads b)
      same_reads (grammar.many a) s t e = like_many (reads text mode one a) (reads text mode other a) (same_reads a) (length text + 1) s t e
      same_reads (grammar.ahead a) s t e = like_ahead s t e (reads text mode one a s) (reads text mode other a t) (same_reads a s t e)
      same_reads (grammar.unless a) s t e = like_unless s t e (reads text mode one a s) (reads text mode other a t) (same_reads a s t e)
      same_reads (grammar.marked a) s t e = like_marked mode.typescript (reads text mode one a) (reads text mode other a) (same_reads a) s t e
      same_reads (grammar.assigned a) s t e = like_marked mode.assignments (reads text mode one a) (reads text mode other a) (same_reads a) s t e
      same_reads (grammar.up p) s t e = inside p s.place t.place s t e
      same_reads (grammar.enter p) s t e = inside p (next_start text s) (next_start text t) s t e
      same_reads (grammar.behind k p) s t e = like_then (λ x. one p x.start) (λ x. other p x.start) (token text k s) (token text k t) (same_terminal k s t e) (λ x. inside p x.start x.start)
      same_reads (grammar.build f a) s t e = like_built f (next_start text s) (next_start text t) (start_same s t e) (reads text mode one a s) (reads text mode other a t) (same_reads a s t e)

    -- with more levels
    pub same_levels : (n m : ℕ) → n ≤ m → (p : Part) (at to : ℕ) → SameFrom (levels text mode n p at) (levels text mode m p to)
    unfolding levels_by
    same_levels zero m l p at to s t e = tt
    same_levels (suc n) zero l p at to s t e = absurd (omega arith)
    same_levels (suc n) (suc m) l p at to s t e = same_reads (levels text mode n) (levels text mode m) (same_levels n m (omega arith)) (part_body p) s t e

    pub same_reading : (n m : ℕ) → n ≤ m → (g : Grammar) → SameFrom (reads text mode (levels text mode n) g) (reads text mode (levels text mode m) g)
    same_reading n m l g = same_reads (levels text mode n) (levels text mode m) (same_levels n m l) g
