-- Where terminals have failed before does not matter to what is read nor to what fails, but for the greatest failed place: it is the greater of both.
use Rattle.std.proofs.Common.{◌≡◌, ℕ, zero, suc, ◌+◌, ◌≤◌, max, Bool, true, false, List, [], ◌∷◌, length, Result, Ok, Err, refl, ap, sym, ◌∙◌, arith}
use Rattle.ecma_lex.specs.declared.tokens.Token.{Token}
use Rattle.ecma_lex.specs.declared.tokens.NoToken.{NoToken}
use Rattle.ecma_lex.specs.declared.blanks.Skipped.{Skipped}
use Rattle.ecma_lex.specs.declared.templates.TemplateText.{TemplateText}
use Rattle.ecma_lex.specs.Blanks.{skipped}
use Rattle.ecma_tree.specs.declared.node.Node.{Node}
use Rattle.ecma_grammar.specs.declared.production.Mode.{Mode}
use Rattle.ecma_grammar.specs.declared.production.Form.{Form}
use Rattle.ecma_grammar.specs.declared.production.Part.{Part}
use Rattle.ecma_grammar.specs.declared.production.TokenKind.{TokenKind}
use Rattle.ecma_grammar.specs.declared.production.TokenKind.TheVariants as token_kind
use Rattle.ecma_grammar.specs.declared.production.Leaf.{Leaf}
use Rattle.ecma_grammar.specs.declared.production.Leaf.TheVariants as leaf
use Rattle.ecma_grammar.specs.Grammar as grammar
use Rattle.ecma_grammar.specs.Grammar.{Terminal, the_word, the_punct, any, Grammar}
use Rattle.ecma_grammar.specs.Reading as reading
use Rattle.ecma_grammar.specs.Reading.{Position, Outcome, Reading, read, fails, too_deep, pure, ◌>>=◌, then_on, with_front, followed_on, or_on, many_on, many_up_to, ahead_on, unless_on, terminal_on}
use Rattle.ecma_grammar.specs.Reads.{Parts, reads_with_types, levels_by, levels_with_types, any_token, token, kept_leaf, template_part, word_token, regex_token, hashbang_token, part_on, same_line_on, built_with_types, next_start}
use Rattle.ecma_grammar.specs.PartBodies.{part_body}
use Rattle.ecma_reader.proofs.Outlooks.{raised}

abbrev pub raised_on : {A : Type 0} → ℕ → Outcome A → Outcome A
raised_on k (read x t) = read x (raised k t)
raised_on k (fails j) = fails (max j k)
raised_on k (too_deep d) = too_deep d

abbrev pub Raises : {A : Type 0} → Reading A → Type 0
Raises p = (k : ℕ) (s : Position) → p (raised k s) ≡ raised_on k (p s)

swapped : (a b c : ℕ) → max (max a b) c ≡ max (max a c) b
swapped a b c = omega arith

pure-raises : {A : Type 0} (x : A) → Raises (pure x)
pure-raises x k s = refl

then-raises : {A B : Type 0} (f : A → Reading B) → ((x : A) → Raises (f x)) → (k : ℕ) (o : Outcome A) → then_on f (raised_on k o) ≡ raised_on k (then_on f o)
then-raises f h k (read x t) = h x k t
then-raises f h k (fails j) = refl
then-raises f h k (too_deep d) = refl

bound-raises : {A B : Type 0} (p : Reading A) (f : A → Reading B) → Raises p → ((x : A) → Raises (f x)) → Raises (p >>= f)
bound-raises p f h g k s = ap (λ o. then_on f o) (h k s) ∙ then-raises f g k (p s)

-- a token that is kept as a node
kept-raises : {A : Type 0} (p : Reading A) (node : A → Node) → Raises p → Raises ((p >>= λ t. pure (node t)) >>= λ x. pure (x ∷ []))
kept-raises p node h = bound-raises (p >>= λ t. pure (node t)) (λ x. pure (x ∷ [])) (bound-raises p (λ t. pure (node t)) h (λ t. pure-raises (node t))) (λ x. pure-raises (x ∷ []))

terminal-raises : (k : ℕ) (s : Position) (found : Result Token NoToken) → terminal_on (raised k s) found ≡ raised_on k (terminal_on s found)
terminal-raises k s (Ok t) = refl
terminal-raises k s (Err none) = ap fails (swapped s.failed k none.at)

part-raises : (k : ℕ) (s : Position) (last : Bool) (found : Result TemplateText NoToken) → part_on (raised k s) last found ≡ raised_on k (part_on s last found)
part-raises k s last (Err none) = go last
  where
    go : (b : Bool) → part_on (raised k s) b (Err none) ≡ raised_on k (part_on s b (Err none))
    go true = ap fails (swapped s.failed k none.at)
    go false = ap fails (swapped s.failed k none.at)
part-raises k s last (Ok part) = go last part.last refl
  where
    go : (b is : Bool) → part.last ≡ is → part_on (raised k s) b (Ok part) ≡ raised_on k (part_on s b (Ok part))
    go true true h = rw h refl
    go true false h = rw h refl
    go false true h = rw h refl
    go false false h = rw h refl

line-raises : (k : ℕ) (s : Position) (before : Skipped) → same_line_on (raised k s) before ≡ raised_on k (same_line_on s before)
line-raises k s before = go before.new_line refl
  where
    go : (b : Bool) → before.new_line ≡ b → same_line_on (raised k s) before ≡ raised_on k (same_line_on s before)
    go true h = rw h (ap fails (swapped s.failed k before.to))
    go false h = rw h refl

front-raises : (xs : List Node) (k : ℕ) (o : Outcome (List Node)) → with_front xs (raised_on k o) ≡ raised_on k (with_front xs o)
front-raises xs k (read ys t) = refl
front-raises xs k (fails j) = refl
front-raises xs k (too_deep d) = refl

followed-raises : (q : Reading (List Node)) → Raises q → (k : ℕ) (o : Outcome (List Node)) → followed_on q (raised_on k o) ≡ raised_on k (followed_on q o)
followed-raises q h k (read xs t) = ap (λ o. with_front xs o) (h k t) ∙ front-raises xs k (q t)
followed-raises q h k (fails j) = refl
followed-raises q h k (too_deep d) = refl

or-raises : (q : Reading (List Node)) → Raises q → (k : ℕ) (s : Position) (o : Outcome (List Node)) → or_on q (raised k s) (raised_on k o) ≡ raised_on k (or_on q s o)
or-raises q h k s (read xs t) = refl
or-raises q h k s (fails j) = h k (record { place = s.place; failed = j })
or-raises q h k s (too_deep d) = refl

turn-raises : (rest : Reading (List Node)) → Raises rest → (k : ℕ) (s : Position) (o : Outcome (List Node)) → many_on (raised k s) rest (raised_on k o) ≡ raised_on k (many_on s rest o)
turn-raises rest h k s (read xs t) = ap (λ o. with_front xs o) (h k t) ∙ front-raises xs k (rest t)
turn-raises rest h k s (fails j) = refl
turn-raises rest h k s (too_deep d) = refl

many-raises : (p : Reading (List Node)) → Raises p → (n : ℕ) → Raises (many_up_to p n)
unfolding many_up_to
many-raises p h zero k s = refl
many-raises p h (suc n) k s = ap (λ o. many_on (raised k s) (many_up_to p n) o) (h k s) ∙ turn-raises (many_up_to p n) (many-raises p h n) k s (p s)

ahead-raises : (k : ℕ) (s : Position) (o : Outcome (List Node)) → ahead_on (raised k s) (raised_on k o) ≡ raised_on k (ahead_on s o)
ahead-raises k s (read xs t) = refl
ahead-raises k s (fails j) = refl
ahead-raises k s (too_deep d) = refl

unless-raises : (k : ℕ) (s : Position) (o : Outcome (List Node)) → unless_on (raised k s) (raised_on k o) ≡ raised_on k (unless_on s o)
unless-raises k s (read xs t) = refl
unless-raises k s (fails j) = refl
unless-raises k s (too_deep d) = refl

built-raises : (form : Form) (lo k : ℕ) (o : Outcome (List Node)) → built_with_types form lo (raised_on k o) ≡ raised_on k (built_with_types form lo o)
built-raises form lo k (read xs t) = refl
built-raises form lo k (fails j) = refl
built-raises form lo k (too_deep d) = refl

marked-raises : (on : Bool) (p : Reading (List Node)) → Raises p → Raises (reading.marked on p)
marked-raises true p h k s = h k s
marked-raises false p h k s = refl

module _ (text : List ℕ) where
  template-raises : (part : _) → Raises (template_part text part)
  template-raises part k s = part-raises k s part.last _

  kind-raises : (kind : TokenKind) → Raises (any_token text kind)
  kind-raises token_kind.Name k s = terminal-raises k s _
  kind-raises token_kind.Key k s = terminal-raises k s _
  kind-raises token_kind.PrivateName k s = terminal-raises k s _
  kind-raises token_kind.Str k s = terminal-raises k s _
  kind-raises token_kind.Number k s = terminal-raises k s _
  kind-raises token_kind.BigInt k s = terminal-raises k s _
  kind-raises (token_kind.Template part) k s = bound-raises (template_part text part) (λ found. pure found.token) (template-raises part) (λ found. pure-raises found.token) k s
  kind-raises token_kind.LeftAngle k s = terminal-raises k s _
  kind-raises token_kind.RightAngle k s = terminal-raises k s _
  kind-raises token_kind.End k s = terminal-raises k s _
  kind-raises token_kind.EndOfText k s = terminal-raises k s _

  token-raises : (t : Terminal) → Raises (token text t)
  token-raises (the_word w) k s = terminal-raises k s _
  token-raises (the_punct w) k s = terminal-raises k s _
  token-raises (any kind) k s = kind-raises kind k s

  word-raises : (w : List ℕ) → Raises (word_token text w)
  word-raises w k s = terminal-raises k s _

  leaf-raises : (l : Leaf) → Raises (kept_leaf text l)
  leaf-raises leaf.Ident = kept-raises _ _ (kind-raises token_kind.Name)
  leaf-raises leaf.KeyIdent = kept-raises _ _ (kind-raises token_kind.Key)
  leaf-raises leaf.ThisIdent = kept-raises _ _ (word-raises _)
  leaf-raises leaf.IdentName = kept-raises _ _ (kind-raises token_kind.Key)
  leaf-raises leaf.PrivateName = kept-raises _ _ (kind-raises token_kind.PrivateName)
  leaf-raises leaf.Str = kept-raises _ _ (kind-raises token_kind.Str)
  leaf-raises leaf.Number = kept-raises _ _ (kind-raises token_kind.Number)
  leaf-raises leaf.BigInt = kept-raises _ _ (kind-raises token_kind.BigInt)
  leaf-raises leaf.Regex = kept-raises (regex_token text) _ (λ k s. terminal-raises k s _)
  leaf-raises (leaf.TplElement part) = kept-raises _ _ (template-raises part)
  leaf-raises leaf.This = kept-raises _ _ (word-raises _)
  leaf-raises leaf.Null = kept-raises _ _ (word-raises _)
  leaf-raises leaf.True = kept-raises _ _ (word-raises _)
  leaf-raises leaf.False = kept-raises _ _ (word-raises _)
  leaf-raises leaf.Super = kept-raises _ _ (word-raises _)
  leaf-raises leaf.Import = kept-raises _ _ (word-raises _)
  leaf-raises leaf.Hashbang = kept-raises (hashbang_token text) _ (λ k s. terminal-raises k s _)

  module _ (mode : Mode) where
    raising : (parts : Parts text) → ((u : Part) (at : ℕ) → Raises (parts u at)) → (g : Grammar) → Raises (reads_with_types text mode parts g)
    raising parts h grammar.nothing k s = refl
    raising parts h grammar.same_line k s = line-raises k s (skipped text s.place)
    raising parts h (grammar.take t) k s = bound-raises (token text t) (λ x. pure []) (token-raises t) (λ x. pure-raises []) k s
    raising parts h (grammar.keep l) k s = leaf-raises l k s
    raising parts h (grammar.put f) k s = refl
    raising parts h (grammar.◌▸◌ a b) k s = ap (λ o. followed_on (reads_with_types text mode parts b) o) (raising parts h a k s) ∙ followed-raises (reads_with_types text mode parts b) (raising parts h b) k (reads_with_types text mode parts a s)
    raising parts h (grammar.◌//◌ a b) k s = ap (λ o. or_on (reads_with_types text mode parts b) (raised k s) o) (raising parts h a k s) ∙ or-raises (reads_with_types text mode parts b) (raising parts h b) k s (reads_with_types text mode parts a s)
    raising parts h (grammar.many a) k s = many-raises (reads_with_types text mode parts a) (raising parts h a) (length text + 1) k s
    raising parts h (grammar.ahead a) k s = ap (λ o. ahead_on (raised k s) o) (raising parts h a k s) ∙ ahead-raises k s (reads_with_types text mode parts a s)
    raising parts h (grammar.unless a) k s = ap (λ o. unless_on (raised k s) o) (raising parts h a k s) ∙ unless-raises k s (reads_with_types text mode parts a s)
    raising parts h (grammar.marked a) k s = marked-raises mode.typescript (reads_with_types text mode parts a) (raising parts h a) k s
    raising parts h (grammar.assigned a) k s = marked-raises mode.assignments (reads_with_types text mode parts a) (raising parts h a) k s
    raising parts h (grammar.up u) k s = h u s.place k s
    raising parts h (grammar.enter u) k s = h u (next_start text s) k s
    raising parts h (grammar.behind t u) k s = bound-raises (token text t) (λ x. parts u x.start) (token-raises t) (λ x. h u x.start) k s
    raising parts h (grammar.build f a) k s = ap (λ o. built_with_types f (next_start text s) o) (raising parts h a k s) ∙ built-raises f (next_start text s) k (reads_with_types text mode parts a s)

    levels-raise : (left : ℕ) (u : Part) (at : ℕ) → Raises (levels_with_types text mode left u at)
    unfolding levels_by
    levels-raise zero u at k s = refl
    levels-raise (suc n) u at k s = raising (levels_with_types text mode n) (levels-raise n) (part_body u) k s

-- what failed fails again, and marks nothing, once the places where it fails are marked
pub fails-again : (text : List ℕ) (mode : Mode) (left : ℕ) (g : Grammar) (place before j failed : ℕ)
    → reads_with_types text mode (levels_with_types text mode left) g (record { place = place; failed = before }) ≡ fails j → j ≤ failed
    → reads_with_types text mode (levels_with_types text mode left) g (record { place = place; failed = failed }) ≡ fails failed
fails-again text mode left g place before j failed is more =
    let raises : Raises (reads_with_types text mode (levels_with_types text mode left) g) = raising text mode (levels_with_types text mode left) (levels-raise text mode left) g in
    let again : reads_with_types text mode (levels_with_types text mode left) g (record { place = place; failed = max before before }) ≡ fails (max j before) = raises before (record { place = place; failed = before }) ∙ ap (λ o. raised_on before o) is in
    let none : max before before ≡ before = omega arith in
    let greatest : fails j ≡ fails (max j before) = sym is ∙ rw none at again in
    let reached : j ≡ max j before = cc in
    let most : max before failed ≡ failed = omega (arith, reached, more) in
    let last : max j failed ≡ failed = omega (arith, more) in
    rw (most, last) at (raises failed (record { place = place; failed = before }) ∙ ap (λ o. raised_on failed o) is)
