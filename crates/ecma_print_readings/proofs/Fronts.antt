-- What a grammar does at a front token: where it refuses it, it fails, whatever stands behind.
use Rattle.std.proofs.Common.{◌≡◌, ℕ, suc, ◌⊎◌, inl, inr, Bool, true, false, not, ◌&&◌, ◌||◌, List, [], ◌++◌, bytes_eq, codes, refl, ap, sym, subst, ◌∙◌, if◌then◌else◌}
use Rattle.std.proofs.lemmas.Bool.{and_parts, false≢true}
use Rattle.ecma_lex.specs.Keys.{is_reserved, reserved_words}
use Rattle.ecma_tree.specs.declared.node.Node.{Node}
use Rattle.ecma_grammar.specs.declared.production.Part.{Part}
use Rattle.ecma_grammar.specs.declared.production.Part.TheVariants as part
use Rattle.ecma_grammar.specs.declared.production.TemplatePart.{TemplatePart}
use Rattle.ecma_grammar.specs.declared.production.TokenKind.{TokenKind}
use Rattle.ecma_grammar.specs.declared.production.TokenKind.TheVariants as token_kind
use Rattle.ecma_grammar.specs.declared.production.Leaf.{Leaf}
use Rattle.ecma_grammar.specs.declared.production.Leaf.TheVariants as leaf
use Rattle.ecma_grammar.specs.declared.production.Form.{Form}
use Rattle.ecma_grammar.specs.Grammar as grammar
use Rattle.ecma_grammar.specs.Grammar.{Grammar, Terminal, the_word, the_punct, any, ◌▸◌}
use Rattle.ecma_print_tokens.specs.Items.{Tok, key, private_name, sign, string, number, big_int, regex, template, Gap, no_gap, Items, ends, it}
use Rattle.ecma_print_tokens.specs.Taking as taking
use Rattle.ecma_print_tokens.specs.Taking.{Took, took, refused, took_if, unsure_if, begins_by, token_in, leaf_in, new_line_in, word_in, punct_in, key_in, name_in, private_name_in, string_in, number_in, big_int_in, regex_in, template_in}
use Rattle.ecma_grammar.specs.PartBodies.{part_body}
use Rattle.ecma_grammar.specs.productions.Chains.{new_body}
use Rattle.ecma_print_readings.proofs.Machine.{Out, read, fails, Turn, taken, kept, behind_on, with_front, followed_on, or_on, many_on, many_up_to, ahead_on, unless_on, built_on, without, body_at, interp, means}
use Rattle.ecma_shapes.proofs.Signs.{count}
use Rattle.ecma_print_readings.proofs.Levels.{means_is}

-- the token that stands first: this one, or a name that is none of the words that the grammar knows; or none
pub data Front : Type 0 where
  exactly : Tok → Front
  a_name the_end : Front

-- the words of the grammar at which an expression or a statement may begin
abbrev pub is_known : List ℕ → Bool
is_known w = is_reserved w || bytes_eq w (codes "async")

pub record IsName (w : List ℕ) : Type 0 where
  pub free : is_reserved w ≡ false
  pub apart : (known : List ℕ) → is_known known ≡ true → bytes_eq w known ≡ false

pub data Begins : Front → Items → Type 0 where
  at_token : {g : Gap} {t : Tok} {ts : Items} → Begins (exactly t) (it g t ts)
  at_name : {g : Gap} {w : List ℕ} {ts : Items} → IsName w → Begins a_name (it g (key w) ts)
  at_end : {g : Gap} → Begins the_end (ends g)

-- it fails; it takes no token, or fails; or it may do anything
pub data Verdict : Type 0 where
  refuses idles open_ : Verdict

abbrev pub by_took : Took → Verdict
by_took refused = refuses
by_took o = open_

abbrev pub refuses_if : Bool → Verdict
refuses_if true = refuses
refuses_if false = open_

abbrev alone : Tok → Items
alone t = it no_gap t (ends no_gap)

abbrev pub kind_verdict : TokenKind → Front → Verdict
kind_verdict token_kind.End f = open_
kind_verdict token_kind.LeftAngle f = open_
kind_verdict token_kind.RightAngle f = open_
kind_verdict k (exactly t) = by_took (token_in (any k) (alone t))
kind_verdict token_kind.Name a_name = open_
kind_verdict token_kind.Key a_name = open_
kind_verdict k a_name = refuses
kind_verdict token_kind.EndOfText the_end = open_
kind_verdict k the_end = refuses

abbrev pub token_verdict : Terminal → Front → Verdict
token_verdict (any k) f = kind_verdict k f
token_verdict t (exactly u) = by_took (token_in t (alone u))
token_verdict (the_word w) a_name = refuses_if (is_known w)
token_verdict (the_punct w) a_name = refuses
token_verdict t the_end = refuses

abbrev pub leaf_verdict : Leaf → Front → Verdict
leaf_verdict l (exactly t) = by_took (leaf_in l (alone t))
leaf_verdict leaf.Ident a_name = open_
leaf_verdict leaf.KeyIdent a_name = open_
leaf_verdict leaf.IdentName a_name = open_
leaf_verdict l a_name = refuses
leaf_verdict l the_end = refuses

-- one behind the other, and choice
abbrev pub behind_verdict : Verdict → Verdict → Verdict
behind_verdict refuses v = refuses
behind_verdict idles v = v
behind_verdict open_ v = open_

abbrev pub both_idle : Verdict → Verdict
both_idle open_ = open_
both_idle v = idles

abbrev pub or_verdict : Verdict → Verdict → Verdict
or_verdict refuses v = v
or_verdict idles v = both_idle v
or_verdict open_ v = open_

abbrev pub idles_if : Verdict → Verdict
idles_if refuses = idles
idles_if v = open_

abbrev pub if_refuses : Verdict → Verdict
if_refuses refuses = refuses
if_refuses v = open_

abbrev pub verdict : (Part → Front → Verdict) → Front → Grammar → Verdict
verdict q f grammar.nothing = idles
verdict q f grammar.same_line = idles
verdict q f (grammar.take t) = token_verdict t f
verdict q f (grammar.keep l) = leaf_verdict l f
verdict q f (grammar.put k) = idles
verdict q f (grammar.◌▸◌ a b) = behind_verdict (verdict q f a) (verdict q f b)
verdict q f (grammar.◌//◌ a b) = or_verdict (verdict q f a) (verdict q f b)
verdict q f (grammar.many a) = idles_if (verdict q f a)
verdict q f (grammar.ahead a) = verdict q f a
verdict q f (grammar.unless grammar.nothing) = refuses
verdict q f (grammar.unless a) = idles_if (verdict q f a)
verdict q f (grammar.marked a) = refuses
verdict q f (grammar.assigned a) = verdict q f a
verdict q f (grammar.up u) = q u f
verdict q f (grammar.enter u) = q u f
verdict q f (grammar.behind t u) = if_refuses (token_verdict t f)
verdict q f (grammar.build k a) = verdict q f a

-- the verdict holds

abbrev pub Judged : Verdict → Items → Out → Type 0
Judged refuses ts o = o ≡ fails
Judged idles ts o = (o ≡ fails) ⊎ ((xs : List Node) × (o ≡ read xs ts))
Judged open_ ts o = Unit {0}

if_same : (b : Bool) (w : List ℕ) (ts us : Items) → by_took (took_if b w ts) ≡ by_took (took_if b w us)
if_same true w ts us = refl
if_same false w ts us = refl

took_judged : (o : Took) (ts : Items) → Judged (by_took o) ts (taken o)
took_judged (took w us) ts = tt
took_judged refused ts = refl
took_judged taking.unsure ts = tt

judged_by : (o o' : Took) (ts : Items) → by_took o ≡ by_took o' → Judged (by_took o') ts (taken o)
judged_by o o' ts e = subst (λ v. Judged v ts (taken o)) e (took_judged o ts)

kept_judged : (l : Leaf) (o : Took) (ts : Items) → Judged (by_took o) ts (kept l o)
kept_judged l (took w us) ts = tt
kept_judged l refused ts = refl
kept_judged l taking.unsure ts = tt

kept_judged_by : (l : Leaf) (o o' : Took) (ts : Items) → by_took o ≡ by_took o' → Judged (by_took o') ts (kept l o)
kept_judged_by l o o' ts e = subst (λ v. Judged v ts (kept l o)) e (kept_judged l o ts)

-- what stands behind the token does not matter, but for the end of a statement

word_alone : (wanted : List ℕ) (g : Gap) (t : Tok) (ts : Items) → by_took (word_in wanted (it g t ts)) ≡ by_took (word_in wanted (alone t))
word_alone wanted g (key w) ts = if_same (bytes_eq w wanted) w ts (ends no_gap)
word_alone wanted g t ts = refl

punct_alone : (wanted : List ℕ) (g : Gap) (t : Tok) (ts : Items) → by_took (punct_in wanted (it g t ts)) ≡ by_took (punct_in wanted (alone t))
punct_alone wanted g (sign w) ts = if_same (bytes_eq w wanted) w ts (ends no_gap)
punct_alone wanted g t ts = refl

name_alone : (g : Gap) (t : Tok) (ts : Items) → by_took (name_in (it g t ts)) ≡ by_took (name_in (alone t))
name_alone g (key w) ts = if_same (not (is_reserved w)) w ts (ends no_gap)
name_alone g t ts = refl

template_alone : (wanted : TemplatePart) (g : Gap) (t : Tok) (ts : Items) → by_took (template_in wanted (it g t ts)) ≡ by_took (template_in wanted (alone t))
template_alone wanted g (template first last w) ts = if_same _ w ts (ends no_gap)
template_alone wanted g t ts = refl

key_alone : (g : Gap) (t : Tok) (ts : Items) → by_took (key_in (it g t ts)) ≡ by_took (key_in (alone t))
key_alone g (key w) ts = refl
key_alone g t ts = refl

private_name_alone : (g : Gap) (t : Tok) (ts : Items) → by_took (private_name_in (it g t ts)) ≡ by_took (private_name_in (alone t))
private_name_alone g (private_name w) ts = refl
private_name_alone g t ts = refl

string_alone : (g : Gap) (t : Tok) (ts : Items) → by_took (string_in (it g t ts)) ≡ by_took (string_in (alone t))
string_alone g (string w) ts = refl
string_alone g t ts = refl

number_alone : (g : Gap) (t : Tok) (ts : Items) → by_took (number_in (it g t ts)) ≡ by_took (number_in (alone t))
number_alone g (number w) ts = refl
number_alone g t ts = refl

big_int_alone : (g : Gap) (t : Tok) (ts : Items) → by_took (big_int_in (it g t ts)) ≡ by_took (big_int_in (alone t))
big_int_alone g (big_int w) ts = refl
big_int_alone g t ts = refl

regex_alone : (g : Gap) (t : Tok) (ts : Items) → by_took (regex_in (it g t ts)) ≡ by_took (regex_in (alone t))
regex_alone g (regex w) ts = refl
regex_alone g t ts = refl

kind_token : (k : TokenKind) (g : Gap) (t : Tok) (ts : Items) → Judged (kind_verdict k (exactly t)) (it g t ts) (taken (token_in (any k) (it g t ts)))
kind_token token_kind.End g t ts = tt
kind_token token_kind.LeftAngle g t ts = tt
kind_token token_kind.RightAngle g t ts = tt
kind_token token_kind.Name g t ts = judged_by (name_in (it g t ts)) (name_in (alone t)) (it g t ts) (name_alone g t ts)
kind_token token_kind.Key g t ts = judged_by (key_in (it g t ts)) (key_in (alone t)) (it g t ts) (key_alone g t ts)
kind_token token_kind.PrivateName g t ts = judged_by (private_name_in (it g t ts)) (private_name_in (alone t)) (it g t ts) (private_name_alone g t ts)
kind_token token_kind.Str g t ts = judged_by (string_in (it g t ts)) (string_in (alone t)) (it g t ts) (string_alone g t ts)
kind_token token_kind.Number g t ts = judged_by (number_in (it g t ts)) (number_in (alone t)) (it g t ts) (number_alone g t ts)
kind_token token_kind.BigInt g t ts = judged_by (big_int_in (it g t ts)) (big_int_in (alone t)) (it g t ts) (big_int_alone g t ts)
kind_token (token_kind.Template wanted) g t ts = judged_by (template_in wanted (it g t ts)) (template_in wanted (alone t)) (it g t ts) (template_alone wanted g t ts)
kind_token token_kind.EndOfText g t ts = refl

kind_name : (k : TokenKind) (g : Gap) (w : List ℕ) (ts : Items) → Judged (kind_verdict k a_name) (it g (key w) ts) (taken (token_in (any k) (it g (key w) ts)))
kind_name token_kind.End g w ts = tt
kind_name token_kind.LeftAngle g w ts = tt
kind_name token_kind.RightAngle g w ts = tt
kind_name token_kind.Name g w ts = tt
kind_name token_kind.Key g w ts = tt
kind_name k g w ts = refl

kind_end : (k : TokenKind) (g : Gap) → Judged (kind_verdict k the_end) (ends g) (taken (token_in (any k) (ends g)))
kind_end token_kind.End g = tt
kind_end token_kind.LeftAngle g = tt
kind_end token_kind.RightAngle g = tt
kind_end token_kind.EndOfText g = tt
kind_end k g = refl

word_name : (wanted : List ℕ) (g : Gap) (w : List ℕ) (ts : Items) → IsName w → Judged (refuses_if (is_known wanted)) (it g (key w) ts) (taken (word_in wanted (it g (key w) ts)))
word_name wanted g w ts n = go (is_known wanted) (n.apart wanted)
  where
    go : (b : Bool) → (b ≡ true → bytes_eq w wanted ≡ false) → Judged (refuses_if b) (it g (key w) ts) (taken (word_in wanted (it g (key w) ts)))
    go true h = rw (h refl) refl
    go false h = tt

token_judged : (t : Terminal) (f : Front) (ts : Items) → Begins f ts → Judged (token_verdict t f) ts (taken (token_in t ts))
token_judged (any k) f ts (at_token {g = g} {t = t} {ts = us}) = kind_token k g t us
token_judged (any k) f ts (at_name {g = g} {w = w} {ts = us} n) = kind_name k g w us
token_judged (any k) f ts (at_end {g = g}) = kind_end k g
token_judged (the_word w) f ts (at_token {g = g} {t = t} {ts = us}) = judged_by (word_in w (it g t us)) (word_in w (alone t)) (it g t us) (word_alone w g t us)
token_judged (the_word w) f ts (at_name {g = g} {w = v} {ts = us} n) = word_name w g v us n
token_judged (the_word w) f ts at_end = refl
token_judged (the_punct w) f ts (at_token {g = g} {t = t} {ts = us}) = judged_by (punct_in w (it g t us)) (punct_in w (alone t)) (it g t us) (punct_alone w g t us)
token_judged (the_punct w) f ts (at_name n) = refl
token_judged (the_punct w) f ts at_end = refl

leaf_alone : (l : Leaf) (g : Gap) (t : Tok) (ts : Items) → by_took (leaf_in l (it g t ts)) ≡ by_took (leaf_in l (alone t))
leaf_alone leaf.Ident g t ts = name_alone g t ts
leaf_alone leaf.KeyIdent g t ts = key_alone g t ts
leaf_alone leaf.ThisIdent g t ts = word_alone _ g t ts
leaf_alone leaf.IdentName g t ts = key_alone g t ts
leaf_alone leaf.PrivateName g t ts = private_name_alone g t ts
leaf_alone leaf.Str g t ts = string_alone g t ts
leaf_alone leaf.Number g t ts = number_alone g t ts
leaf_alone leaf.BigInt g t ts = big_int_alone g t ts
leaf_alone leaf.Regex g t ts = regex_alone g t ts
leaf_alone (leaf.TplElement wanted) g t ts = template_alone wanted g t ts
leaf_alone leaf.This g t ts = word_alone _ g t ts
leaf_alone leaf.Null g t ts = word_alone _ g t ts
leaf_alone leaf.True g t ts = word_alone _ g t ts
leaf_alone leaf.False g t ts = word_alone _ g t ts
leaf_alone leaf.Super g t ts = word_alone _ g t ts
leaf_alone leaf.Import g t ts = word_alone _ g t ts
leaf_alone leaf.Hashbang g t ts = refl

word_refused : (known : List ℕ) (l : Leaf) (w : List ℕ) (ts : Items) → IsName w → is_known known ≡ true → kept l (took_if (bytes_eq w known) w ts) ≡ fails
word_refused known l w ts n h = rw (n.apart known h) refl

leaf_name : (l : Leaf) (g : Gap) (w : List ℕ) (ts : Items) → IsName w → Judged (leaf_verdict l a_name) (it g (key w) ts) (kept l (leaf_in l (it g (key w) ts)))
unfolding is_reserved reserved_words
leaf_name leaf.Ident g w ts n = tt
leaf_name leaf.KeyIdent g w ts n = tt
leaf_name leaf.IdentName g w ts n = tt
leaf_name leaf.ThisIdent g w ts n = word_refused (codes "this") leaf.ThisIdent w ts n refl
leaf_name leaf.This g w ts n = word_refused (codes "this") leaf.This w ts n refl
leaf_name leaf.Null g w ts n = word_refused (codes "null") leaf.Null w ts n refl
leaf_name leaf.True g w ts n = word_refused (codes "true") leaf.True w ts n refl
leaf_name leaf.False g w ts n = word_refused (codes "false") leaf.False w ts n refl
leaf_name leaf.Super g w ts n = word_refused (codes "super") leaf.Super w ts n refl
leaf_name leaf.Import g w ts n = word_refused (codes "import") leaf.Import w ts n refl
leaf_name l g w ts n = refl

leaf_judged : (l : Leaf) (f : Front) (ts : Items) → Begins f ts → Judged (leaf_verdict l f) ts (kept l (leaf_in l ts))
leaf_judged l f ts (at_token {g = g} {t = t} {ts = us}) = kept_judged_by l (leaf_in l (it g t us)) (leaf_in l (alone t)) (it g t us) (leaf_alone l g t us)
leaf_judged l f ts (at_name {g = g} {w = w} {ts = us} n) = leaf_name l g w us n
leaf_judged l f ts (at_end {g = g}) = leaf_end l g
  where
    leaf_end : (l : Leaf) (g : Gap) → kept l (leaf_in l (ends g)) ≡ fails
    leaf_end leaf.Ident g = refl
    leaf_end l g = refl

-- grammars

behind_judged : (v w : Verdict) (f : Turn) (ts : Items) (o : Out) → Judged v ts o → Judged w ts (f ts) → Judged (behind_verdict v w) ts (followed_on f o)
behind_judged refuses w f ts o h k = ap (followed_on f) h
behind_judged idles refuses f ts o (inl h) k = ap (followed_on f) h
behind_judged idles refuses f ts o (inr h) k = ap (followed_on f) h.1 ∙ ap (with_front h.0) k
behind_judged idles idles f ts o (inl h) k = inl (ap (followed_on f) h)
behind_judged idles idles f ts o (inr h) (inl k) = inl (ap (followed_on f) h.1 ∙ ap (with_front h.0) k)
behind_judged idles idles f ts o (inr h) (inr k) = inr (h.0 ++ k.0, ap (followed_on f) h.1 ∙ ap (with_front h.0) k.1)
behind_judged idles open_ f ts o h k = tt
behind_judged open_ w f ts o h k = tt

or_judged : (v w : Verdict) (f : Turn) (ts : Items) (o : Out) → Judged v ts o → Judged w ts (f ts) → Judged (or_verdict v w) ts (or_on f ts o)
or_judged refuses w f ts o h k = subst (λ z. Judged w ts (or_on f ts z)) (sym h) k
or_judged idles refuses f ts o (inl h) k = inl (ap (or_on f ts) h ∙ k)
or_judged idles refuses f ts o (inr h) k = inr (h.0, ap (or_on f ts) h.1)
or_judged idles idles f ts o (inl h) (inl k) = inl (ap (or_on f ts) h ∙ k)
or_judged idles idles f ts o (inl h) (inr k) = inr (k.0, ap (or_on f ts) h ∙ k.1)
or_judged idles idles f ts o (inr h) k = inr (h.0, ap (or_on f ts) h.1)
or_judged idles open_ f ts o h k = tt
or_judged open_ w f ts o h k = tt

line_judged : (b : Bool) (ts : Items) → Judged idles ts (if b then fails else read [] ts)
line_judged true ts = inl refl
line_judged false ts = inr ([], refl)

many_judged : (v : Verdict) (f : Turn) (n : ℕ) (ts : Items) → Judged v ts (f ts) → Judged (idles_if v) ts (many_up_to f (suc n) ts)
unfolding many_up_to
many_judged refuses f n ts h = inr ([], ap (many_on (many_up_to f n) ts) h)
many_judged idles f n ts h = tt
many_judged open_ f n ts h = tt

ahead_judged : (v : Verdict) (ts : Items) (o : Out) → Judged v ts o → Judged v ts (ahead_on ts o)
ahead_judged refuses ts o h = ap (ahead_on ts) h
ahead_judged idles ts o (inl h) = inl (ap (ahead_on ts) h)
ahead_judged idles ts o (inr h) = inr ([], ap (ahead_on ts) h.1)
ahead_judged open_ ts o h = tt

unless_judged : (v : Verdict) (ts : Items) (o : Out) → Judged v ts o → Judged (idles_if v) ts (unless_on ts o)
unless_judged refuses ts o h = inr ([], ap (unless_on ts) h)
unless_judged idles ts o h = tt
unless_judged open_ ts o h = tt

assigned_judged : (b : Bool) (v : Verdict) (ts : Items) (o : Out) → Judged v ts o → Judged v ts (if b then o else fails)
assigned_judged true v ts o h = h
assigned_judged false refuses ts o h = refl
assigned_judged false idles ts o h = inl refl
assigned_judged false open_ ts o h = tt

on_behind : (f : Turn) (ts : Items) (o : Took) (v : Verdict) → Judged v ts (taken o) → Judged (if_refuses v) ts (behind_on f o)
on_behind f ts (took w us) refuses h = cc
on_behind f ts refused refuses h = refl
on_behind f ts taking.unsure refuses h = cc
on_behind f ts o idles h = tt
on_behind f ts o open_ h = tt

built_judged : (k : Form) (v : Verdict) (ts : Items) (o : Out) → Judged v ts o → Judged v ts (built_on k o)
built_judged k refuses ts o h = ap (built_on k) h
built_judged k idles ts o (inl h) = inl (ap (built_on k) h)
built_judged k idles ts o (inr h) = inr (_, ap (built_on k) h.1)
built_judged k open_ ts o h = tt

module _ (assignments : Bool) (p : Part → Turn) (q : Part → Front → Verdict) (parts : (u : Part) (f : Front) (ts : Items) → Begins f ts → Judged (q u f) ts (p u ts)) where
  pub judged : (g : Grammar) (f : Front) (ts : Items) → Begins f ts → Judged (verdict q f g) ts (interp assignments p g ts)
  judged grammar.nothing f ts b = inr ([], refl)
  judged grammar.same_line f ts b = line_judged (new_line_in ts) ts
  judged (grammar.take t) f ts b = token_judged t f ts b
  judged (grammar.keep l) f ts b = leaf_judged l f ts b
  judged (grammar.put k) f ts b = inr (_, refl)
  judged (grammar.◌▸◌ x y) f ts b = behind_judged (verdict q f x) (verdict q f y) (interp assignments p y) ts (interp assignments p x ts) (judged x f ts b) (judged y f ts b)
  judged (grammar.◌//◌ x y) f ts b = or_judged (verdict q f x) (verdict q f y) (interp assignments p y) ts (interp assignments p x ts) (judged x f ts b) (judged y f ts b)
  judged (grammar.many x) f ts b = many_judged (verdict q f x) (interp assignments p x) (count ts) ts (judged x f ts b)
  judged (grammar.ahead x) f ts b = ahead_judged (verdict q f x) ts (interp assignments p x ts) (judged x f ts b)
  judged (grammar.unless grammar.nothing) f ts b = refl
  judged (grammar.unless x) f ts b = unless_judged (verdict q f x) ts (interp assignments p x ts) (judged x f ts b)
  judged (grammar.marked x) f ts b = refl
  judged (grammar.assigned x) f ts b = assigned_judged assignments (verdict q f x) ts (interp assignments p x ts) (judged x f ts b)
  judged (grammar.up u) f ts b = parts u f ts b
  judged (grammar.enter u) f ts b = parts u f ts b
  judged (grammar.behind t u) f ts b = on_behind (p u) ts (token_in t ts) (token_verdict t f) (token_judged t f ts b)
  judged (grammar.build k x) f ts b = built_judged k (verdict q f x) ts (interp assignments p x ts) (judged x f ts b)

-- nothing is known of parts
abbrev pub unknown : Part → Front → Verdict
unknown u f = open_

abbrev pub is_refuses : Verdict → Bool
is_refuses refuses = true
is_refuses v = false

abbrev pub refuses_at : Front → Grammar → Bool
refuses_at f g = is_refuses (verdict unknown f g)

-- what refuses in front of what may do anything refuses by itself
refuses_alone : (v : Verdict) → is_refuses (behind_verdict v open_) ≡ true → is_refuses v ≡ true
refuses_alone refuses h = refl
refuses_alone idles h = absurd (false≢true h)
refuses_alone open_ h = absurd (false≢true h)

pub first_refuses : (f : Front) (a : Grammar) → is_refuses (behind_verdict (verdict unknown f a) open_) ≡ true → refuses_at f a ≡ true
first_refuses f a h = refuses_alone (verdict unknown f a) h

refuses_by_first : (v w : Verdict) → is_refuses v ≡ true → is_refuses (behind_verdict v w) ≡ true
refuses_by_first refuses w h = refl
refuses_by_first idles w h = absurd (false≢true h)
refuses_by_first open_ w h = absurd (false≢true h)

pub refuses_first : (f : Front) (a b : Grammar) → refuses_at f a ≡ true → refuses_at f (a ▸ b) ≡ true
refuses_first f a b h = refuses_by_first (verdict unknown f a) (verdict unknown f b) h

pub front_of : (ts : Items) → (k : Front) × Begins k ts
front_of (ends g) = (the_end, at_end)
front_of (it g t ts) = (exactly t, at_token)

-- nothing is read and nothing kept there
abbrev pub passes_at : Front → Grammar → Bool
passes_at f grammar.nothing = true
passes_at f (grammar.◌//◌ a b) = refuses_at f a && passes_at f b
passes_at f (grammar.◌▸◌ a b) = passes_at f a && passes_at f b
passes_at f (grammar.many a) = refuses_at f a
passes_at f (grammar.unless a) = refuses_at f a
passes_at f g = false

module _ (assignments : Bool) (p : Part → Turn) where
  refused_by : (v : Verdict) (ts : Items) (o : Out) → Judged v ts o → is_refuses v ≡ true → o ≡ fails
  refused_by refuses ts o h e = h
  refused_by idles ts o h e = absurd (false≢true e)
  refused_by open_ ts o h e = absurd (false≢true e)

  pub refused_at : (g : Grammar) (f : Front) (ts : Items) → Begins f ts → refuses_at f g ≡ true → interp assignments p g ts ≡ fails
  refused_at g f ts b e = refused_by (verdict unknown f g) ts (interp assignments p g ts) (judged assignments p unknown (λ u f ts b. tt) g f ts b) e

  pub passed_at : (g : Grammar) (f : Front) (ts : Items) → Begins f ts → passes_at f g ≡ true → interp assignments p g ts ≡ read [] ts
  unfolding many_up_to
  passed_at grammar.nothing f ts b e = refl
  passed_at (grammar.◌//◌ x y) f ts b e = let z = and_parts (refuses_at f x) (passes_at f y) e in ap (or_on (interp assignments p y) ts) (refused_at x f ts b z.0) ∙ passed_at y f ts b z.1
  passed_at (grammar.◌▸◌ x y) f ts b e = let z = and_parts (passes_at f x) (passes_at f y) e in ap (followed_on (interp assignments p y)) (passed_at x f ts b z.0) ∙ ap (with_front []) (passed_at y f ts b z.1)
  passed_at (grammar.many x) f ts b e = ap (many_on (many_up_to (interp assignments p x) (count ts)) ts) (refused_at x f ts b e)
  passed_at (grammar.unless x) f ts b e = ap (unless_on ts) (refused_at x f ts b e)
  passed_at grammar.same_line f ts b e = absurd (false≢true e)
  passed_at (grammar.take t) f ts b e = absurd (false≢true e)
  passed_at (grammar.keep l) f ts b e = absurd (false≢true e)
  passed_at (grammar.put k) f ts b e = absurd (false≢true e)
  passed_at (grammar.ahead x) f ts b e = absurd (false≢true e)
  passed_at (grammar.marked x) f ts b e = absurd (false≢true e)
  passed_at (grammar.assigned x) f ts b e = absurd (false≢true e)
  passed_at (grammar.up u) f ts b e = absurd (false≢true e)
  passed_at (grammar.enter u) f ts b e = absurd (false≢true e)
  passed_at (grammar.behind t u) f ts b e = absurd (false≢true e)
  passed_at (grammar.build k x) f ts b e = absurd (false≢true e)

-- what a part does at a front, but for the parts in it
abbrev pub known : Part → Front → Verdict
known u f = verdict unknown f (part_body u)

abbrev pub refuses_all : Front → Grammar → Bool
refuses_all f g = is_refuses (verdict known f g)

module _ (assignments : Bool) where
  -- the point of a numeral may be taken
  numeral_judged : (b : Bool) (v : Verdict) (ts : Items) (o : Out) → Judged v ts o → Judged (or_verdict (behind_verdict (by_took (unsure_if b)) refuses) v) ts o
  numeral_judged true v ts o h = tt
  numeral_judged false v ts o h = h

  body_judged : (u : Part) (f : Front) (ts : Items) → Begins f ts → Judged (known u f) ts (interp assignments (means assignments) (body_at u ts) ts)
  unfolding new_body
  body_judged part.New f (it g (number w) ts) at_token =
      let constructed = without 1 (part_body part.New) in
      numeral_judged (begins_by 46 w) (verdict unknown (exactly (number w)) constructed) (it g (number w) ts) _ (judged assignments (means assignments) unknown (λ u f ts b. tt) constructed (exactly (number w)) (it g (number w) ts) at_token)
  body_judged u f ts b = judged assignments (means assignments) unknown (λ u f ts b. tt) (part_body u) f ts b

  known_judged : (u : Part) (f : Front) (ts : Items) → Begins f ts → Judged (known u f) ts (means assignments u ts)
  known_judged u f ts b = subst (Judged (known u f) ts) (sym (means_is assignments u ts)) (body_judged u f ts b)

  pub all_refused : (g : Grammar) (f : Front) (ts : Items) → Begins f ts → refuses_all f g ≡ true → interp assignments (means assignments) g ts ≡ fails
  all_refused g f ts b e = refused_by assignments (means assignments) (verdict known f g) ts (interp assignments (means assignments) g ts) (judged assignments (means assignments) known known_judged g f ts b) e
