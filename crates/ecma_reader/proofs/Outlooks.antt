-- What is known of a reading by the tokens that stand ahead is so.
use Rattle.std.proofs.Common.{◌≡◌, ℕ, suc, max, Bool, true, false, List, [], ◌∷◌, ◌++◌, length, Result, Ok, Err, if◌then◌else◌, refl, ap, ◌∙◌, add-one, arith}
use Rattle.ecma_lex.specs.declared.tokens.Token.{Token}
use Rattle.ecma_lex.specs.declared.tokens.NoToken.{NoToken}
use Rattle.ecma_lex.specs.declared.blanks.Skipped.{Skipped}
use Rattle.ecma_lex.specs.declared.templates.TemplateText.{TemplateText}
use Rattle.ecma_lex.specs.Blanks.{skipped}
use Rattle.ecma_tree.specs.declared.node.Node.{Node}
use Rattle.ecma_grammar.specs.declared.production.Mode.{Mode}
use Rattle.ecma_grammar.specs.declared.production.Form.{Form}
use Rattle.ecma_grammar.specs.declared.production.TokenKind.TheVariants as token_kind
use Rattle.ecma_grammar.specs.declared.production.Leaf.{Leaf}
use Rattle.ecma_grammar.specs.declared.production.Leaf.TheVariants as leaf
use Rattle.ecma_grammar.specs.Grammar as grammar
use Rattle.ecma_grammar.specs.Grammar.{Terminal, the_word, the_punct, any, Grammar}
use Rattle.ecma_grammar.specs.Reading as reading
use Rattle.ecma_grammar.specs.Reading.{Position, Outcome, Reading, read, fails, pure, followed_on, or_on, many_up_to, ahead_on, unless_on, terminal_on}
use Rattle.ecma_grammar.specs.Reads.{Parts, reads_with_types, token, kept_leaf, part_on, same_line_on, built_with_types}
use Rattle.ecma_grammar.specs.trees.Parts.{flag_node}
use Rattle.ecma_grammar.specs.Made.{made_with_types}
use Rattle.ecma_reader.specs.Outlook.{Outlook, Open, Fails, Stays, Passes, then_outlook, or_outlook, many_outlook, ahead_outlook, unless_outlook, build_outlook, found_outlook, unless_begun, line_outlook, token_outlook, leaf_outlook, outlook}

-- where the reading stays, while terminals fail up to a place
abbrev pub raised : ℕ → Position → Position
raised at s = record { place = s.place; failed = max s.failed at }

pub record StaysAt (at : ℕ) (s : Position) (o : Outcome (List Node)) : Type 0 where
  pub kept : List Node
  pub is : o ≡ read kept (raised at s)

abbrev pub Foresees : Outlook → Position → Outcome (List Node) → Type 0
Foresees Open s o = Unit {0}
Foresees (Fails at) s o = o ≡ fails (max s.failed at)
Foresees (Stays at) s o = StaysAt at s o
Foresees (Passes at) s o = o ≡ read [] (raised at s)

pub max-none : (k : ℕ) → max k 0 ≡ k
max-none k = omega arith

max-three : (a b c : ℕ) → max (max a b) c ≡ max a (max b c)
max-three a b c = omega arith

raised-none : (s : Position) → s ≡ raised 0 s
raised-none s = rw (max-none s.failed) refl

-- behind what stays
then-foresees : (x y : Outlook) (s : Position) (q : Reading (List Node)) (o : Outcome (List Node))
    → Foresees x s o → ((k : ℕ) → Foresees y (raised k s) (q (raised k s))) → Foresees (then_outlook x y) s (followed_on q o)
then-foresees Open y s q o h g = tt
then-foresees (Fails k) y s q o h g = rw h refl
then-foresees (Stays k) Open s q o h g = tt
then-foresees (Stays k) (Fails l) s q o h g = rw (h.is, g k, max-three s.failed k l) refl
then-foresees (Stays k) (Stays l) s q o h g = let r = g k in record { kept = h.kept ++ r.kept; is = rw (h.is, r.is, max-three s.failed k l) refl }
then-foresees (Stays k) (Passes l) s q o h g = record { kept = h.kept ++ []; is = rw (h.is, g k, max-three s.failed k l) refl }
then-foresees (Passes k) Open s q o h g = tt
then-foresees (Passes k) (Fails l) s q o h g = rw (h, g k, max-three s.failed k l) refl
then-foresees (Passes k) (Stays l) s q o h g = let r = g k in record { kept = r.kept; is = rw (h, r.is, max-three s.failed k l) refl }
then-foresees (Passes k) (Passes l) s q o h g = rw (h, g k, max-three s.failed k l) refl

or-foresees : (x y : Outlook) (s : Position) (q : Reading (List Node)) (o : Outcome (List Node))
    → Foresees x s o → ((k : ℕ) → Foresees y (raised k s) (q (raised k s))) → Foresees (or_outlook x y) s (or_on q s o)
or-foresees Open y s q o h g = tt
or-foresees (Fails k) Open s q o h g = tt
or-foresees (Fails k) (Fails l) s q o h g = rw (h, g k, max-three s.failed k l) refl
or-foresees (Fails k) (Stays l) s q o h g = let r = g k in record { kept = r.kept; is = rw (h, r.is, max-three s.failed k l) refl }
or-foresees (Fails k) (Passes l) s q o h g = rw (h, g k, max-three s.failed k l) refl
or-foresees (Stays k) y s q o h g = record { kept = h.kept; is = rw h.is refl }
or-foresees (Passes k) y s q o h g = rw h refl

many-foresees : (x : Outlook) (s : Position) (p : Reading (List Node)) (n : ℕ) → Foresees x s (p s) → Foresees (many_outlook x) s (many_up_to p (suc n) s)
unfolding many_up_to
many-foresees Open s p n h = tt
many-foresees (Fails k) s p n h = rw h refl
many-foresees (Stays k) s p n h = tt
many-foresees (Passes k) s p n h = tt

ahead-foresees : (x : Outlook) (s : Position) (o : Outcome (List Node)) → Foresees x s o → Foresees (ahead_outlook x) s (ahead_on s o)
ahead-foresees Open s o h = tt
ahead-foresees (Fails k) s o h = rw h refl
ahead-foresees (Stays k) s o h = rw h.is refl
ahead-foresees (Passes k) s o h = rw h refl

unless-foresees : (x : Outlook) (s : Position) (o : Outcome (List Node)) → Foresees x s o → Foresees (unless_outlook x) s (unless_on s o)
unless-foresees Open s o h = tt
unless-foresees (Fails k) s o h = rw h refl
unless-foresees (Stays k) s o h = rw h.is refl
unless-foresees (Passes k) s o h = rw h refl

build-foresees : (x : Outlook) (s : Position) (form : Form) (lo : ℕ) (o : Outcome (List Node)) → Foresees x s o → Foresees (build_outlook x) s (built_with_types form lo o)
build-foresees Open s form lo o h = tt
build-foresees (Fails k) s form lo o h = rw h refl
build-foresees (Stays k) s form lo o h = record { kept = made_with_types form lo s.place h.kept ∷ []; is = rw h.is refl }
build-foresees (Passes k) s form lo o h = record { kept = made_with_types form lo s.place [] ∷ []; is = rw h refl }

marked-foresees : (on : Bool) (x : Outlook) (s : Position) (p : Reading (List Node)) → Foresees x s (p s) → Foresees (if on then x else Fails 0) s (reading.marked on p s)
marked-foresees true x s p h = h
marked-foresees false x s p h = rw (max-none s.failed) refl

line-foresees : (s : Position) (before : Skipped) → Foresees (line_outlook before) s (same_line_on s before)
line-foresees s before = go before.new_line refl
  where
    go : (b : Bool) → before.new_line ≡ b → Foresees (line_outlook before) s (same_line_on s before)
    go true h = rw h refl
    go false h = rw h (rw (max-none s.failed) refl)

-- tokens: what reads one and goes on in whatever way
token-foresees : (s : Position) (found : Result Token NoToken) (f : Token → Reading (List Node)) → Foresees (found_outlook found) s (reading.then_on f (terminal_on s found))
token-foresees s (Ok t) f = tt
token-foresees s (Err none) f = refl

begun-foresees : (s : Position) (b : Bool) (found : Result Token NoToken) (f : Token → Reading (List Node)) → Foresees (unless_begun b found) s (reading.then_on f (terminal_on s found))
begun-foresees s true found f = tt
begun-foresees s false found f = token-foresees s found f

-- a token that is kept as a node
kept-foresees : (s : Position) (found : Result Token NoToken) (g : Token → Node) → Foresees (found_outlook found) s (reading.then_on (λ x. pure (x ∷ [])) (reading.then_on (λ t. pure (g t)) (terminal_on s found)))
kept-foresees s (Ok t) g = tt
kept-foresees s (Err none) g = refl

kept-begun : (s : Position) (b : Bool) (found : Result Token NoToken) (g : Token → Node) → Foresees (unless_begun b found) s (reading.then_on (λ x. pure (x ∷ [])) (reading.then_on (λ t. pure (g t)) (terminal_on s found)))
kept-begun s true found g = tt
kept-begun s false found g = kept-foresees s found g

part-foresees : (s : Position) (b last : Bool) (found : Result TemplateText NoToken) (f : Token → Reading (List Node))
    → Foresees (unless_begun b found) s (reading.then_on f (reading.then_on (λ part. pure part.token) (part_on s last found)))
part-foresees s true last found f = tt
part-foresees s false last (Ok part) f = tt
part-foresees s false last (Err none) f = refl

kept-part : (s : Position) (b last : Bool) (found : Result TemplateText NoToken) (g : TemplateText → Node)
    → Foresees (unless_begun b found) s (reading.then_on (λ x. pure (x ∷ [])) (reading.then_on (λ part. pure (g part)) (part_on s last found)))
kept-part s true last found g = tt
kept-part s false last (Ok part) g = tt
kept-part s false last (Err none) g = refl

module _ (text : List ℕ) where
  token-foreseen : (t : Terminal) (s : Position) (f : Token → Reading (List Node)) → Foresees (token_outlook text s.place t) s (reading.then_on f (token text t s))
  token-foreseen (the_word w) s f = token-foresees s _ f
  token-foreseen (the_punct w) s f = token-foresees s _ f
  token-foreseen (any token_kind.Name) s f = token-foresees s _ f
  token-foreseen (any token_kind.Key) s f = token-foresees s _ f
  token-foreseen (any token_kind.PrivateName) s f = begun-foresees s _ _ f
  token-foreseen (any token_kind.Str) s f = begun-foresees s _ _ f
  token-foreseen (any token_kind.Number) s f = begun-foresees s _ _ f
  token-foreseen (any token_kind.BigInt) s f = begun-foresees s _ _ f
  token-foreseen (any (token_kind.Template part)) s f = part-foresees s _ part.last _ f
  token-foreseen (any token_kind.LeftAngle) s f = token-foresees s _ f
  token-foreseen (any token_kind.RightAngle) s f = token-foresees s _ f
  token-foreseen (any token_kind.End) s f = tt
  token-foreseen (any token_kind.EndOfText) s f = tt

  leaf-foreseen : (l : Leaf) (s : Position) → Foresees (leaf_outlook text s.place l) s (kept_leaf text l s)
  leaf-foreseen leaf.Ident s = kept-foresees s _ _
  leaf-foreseen leaf.KeyIdent s = kept-foresees s _ _
  leaf-foreseen leaf.ThisIdent s = kept-foresees s _ _
  leaf-foreseen leaf.IdentName s = kept-foresees s _ _
  leaf-foreseen leaf.PrivateName s = kept-begun s _ _ _
  leaf-foreseen leaf.Str s = kept-begun s _ _ _
  leaf-foreseen leaf.Number s = kept-begun s _ _ _
  leaf-foreseen leaf.BigInt s = kept-begun s _ _ _
  leaf-foreseen leaf.Regex s = kept-begun s _ _ _
  leaf-foreseen (leaf.TplElement part) s = kept-part s _ part.last _ _
  leaf-foreseen leaf.This s = kept-foresees s _ _
  leaf-foreseen leaf.Null s = kept-foresees s _ _
  leaf-foreseen leaf.True s = kept-foresees s _ _
  leaf-foreseen leaf.False s = kept-foresees s _ _
  leaf-foreseen leaf.Super s = kept-foresees s _ _
  leaf-foreseen leaf.Import s = kept-foresees s _ _
  leaf-foreseen leaf.Hashbang s = tt

  pub foreseen : (mode : Mode) (parts : Parts text) (g : Grammar) (s : Position) → Foresees (outlook text s.place mode g) s (reads_with_types text mode parts g s)
  foreseen mode parts grammar.nothing s = ap (λ t. read [] t) (raised-none s)
  foreseen mode parts grammar.same_line s = line-foresees s (skipped text s.place)
  foreseen mode parts (grammar.take t) s = token-foreseen t s (λ k. pure [])
  foreseen mode parts (grammar.keep l) s = leaf-foreseen l s
  foreseen mode parts (grammar.put f) s = record { kept = flag_node f ∷ []; is = ap (λ t. read (flag_node f ∷ []) t) (raised-none s) }
  foreseen mode parts (grammar.◌▸◌ a b) s = then-foresees (outlook text s.place mode a) (outlook text s.place mode b) s (reads_with_types text mode parts b) (reads_with_types text mode parts a s) (foreseen mode parts a s) (λ k. foreseen mode parts b (raised k s))
  foreseen mode parts (grammar.◌//◌ a b) s = or-foresees (outlook text s.place mode a) (outlook text s.place mode b) s (reads_with_types text mode parts b) (reads_with_types text mode parts a s) (foreseen mode parts a s) (λ k. foreseen mode parts b (raised k s))
  foreseen mode parts (grammar.many a) s = rw (add-one (length text)) (many-foresees (outlook text s.place mode a) s (reads_with_types text mode parts a) (length text) (foreseen mode parts a s))
  foreseen mode parts (grammar.ahead a) s = ahead-foresees (outlook text s.place mode a) s (reads_with_types text mode parts a s) (foreseen mode parts a s)
  foreseen mode parts (grammar.unless a) s = unless-foresees (outlook text s.place mode a) s (reads_with_types text mode parts a s) (foreseen mode parts a s)
  foreseen mode parts (grammar.marked a) s = marked-foresees mode.typescript (outlook text s.place mode a) s (reads_with_types text mode parts a) (foreseen mode parts a s)
  foreseen mode parts (grammar.assigned a) s = marked-foresees mode.assignments (outlook text s.place mode a) s (reads_with_types text mode parts a) (foreseen mode parts a s)
  foreseen mode parts (grammar.up u) s = tt
  foreseen mode parts (grammar.enter u) s = tt
  foreseen mode parts (grammar.behind t u) s = token-foreseen t s (λ k. parts u k.start)
  foreseen mode parts (grammar.build f a) s = build-foresees (outlook text s.place mode a) s f _ (reads_with_types text mode parts a s) (foreseen mode parts a s)

-- what fails by the tokens ahead, which were looked at there
pub fails-known : (text seen : List ℕ) (mode seen_mode : Mode) (i : ℕ) (g : Grammar) (s : Position) (at failed k : ℕ) (parts : Parts text)
    → outlook seen i seen_mode g ≡ Fails at → seen ≡ text → seen_mode ≡ mode → i ≡ s.place → failed ≡ s.failed → k ≡ max failed at → reads_with_types text mode parts g s ≡ fails k
fails-known text seen mode seen_mode i g s at failed k parts known same same_mode here before after =
    let fails_there : outlook text s.place mode g ≡ Fails at = rw (same, same_mode, here) at known in
    rw (after, before) (rw fails_there at (foreseen text mode parts g s))

-- what reads nothing by the tokens ahead, which were looked at there
pub passes-known : (text seen : List ℕ) (mode seen_mode : Mode) (i : ℕ) (g : Grammar) (s t : Position) (at failed : ℕ) (parts : Parts text)
    → outlook seen i seen_mode g ≡ Passes at → seen ≡ text → seen_mode ≡ mode → i ≡ s.place → failed ≡ s.failed → t.place ≡ i → t.failed ≡ max failed at → reads_with_types text mode parts g s ≡ read [] t
passes-known text seen mode seen_mode i g s t at failed parts known same same_mode here before there after =
    let passes_there : outlook text s.place mode g ≡ Passes at = rw (same, same_mode, here) at known in
    let where_it_stands : raised at s ≡ t = rw (← here, ← before, ← there, ← after) refl in
    rw passes_there at (foreseen text mode parts g s) ∙ ap (λ p. read [] p) where_it_stands
