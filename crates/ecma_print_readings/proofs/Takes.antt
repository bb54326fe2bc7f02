-- A token that is taken is gone.
use Rattle.std.proofs.Common.{◌≡◌, ℕ, ◌+◌, ◌≤◌, Bool, true, false, ◌||◌, List, arith, bytes_eq, codes, if◌then◌else◌}
use Rattle.ecma_grammar.specs.declared.production.TemplatePart.{TemplatePart}
use Rattle.ecma_grammar.specs.declared.production.TokenKind.{TokenKind}
use Rattle.ecma_grammar.specs.declared.production.TokenKind.TheVariants as token_kind
use Rattle.ecma_grammar.specs.declared.production.Leaf.{Leaf}
use Rattle.ecma_grammar.specs.declared.production.Leaf.TheVariants as leaf
use Rattle.ecma_grammar.specs.Grammar.{Terminal, the_word, the_punct, any}
use Rattle.ecma_print_tokens.specs.Items.{Tok, key, private_name, sign, string, number, big_int, regex, template, Gap, Items, ends, it}
use Rattle.ecma_print_tokens.specs.Taking.{Took, took, refused, unsure, took_if, unsure_if, end_by, token_in, leaf_in, word_in, punct_in, key_in, name_in, private_name_in, string_in, number_in, big_int_in, regex_in, angle_in, template_in, end_in, end_of_text_in}
use Rattle.ecma_shapes.proofs.Signs.{count}

-- behind a token that was taken k tokens fewer stand, or still fewer
abbrev pub Shorter : ℕ → Items → Took → Type 0
Shorter k ts o = (w : List ℕ) (us : Items) → o ≡ took w us → count us + k ≤ count ts

none : (k : ℕ) (ts : Items) → Shorter k ts refused
none k ts w us e = cc

hidden : (k : ℕ) (ts : Items) → Shorter k ts unsure
hidden k ts w us e = cc

if_hidden : (k : ℕ) (ts : Items) (b : Bool) → Shorter k ts (unsure_if b)
if_hidden k ts true w us e = cc
if_hidden k ts false w us e = cc

all_but : (k : ℕ) (ts vs : Items) (v : List ℕ) → count vs + k ≤ count ts → Shorter k ts (took v vs)
all_but k ts vs v h w us e = (let z : vs ≡ us = cc in rw (← z) h)

if_taken : (k : ℕ) (ts vs : Items) (v : List ℕ) (b : Bool) → count vs + k ≤ count ts → Shorter k ts (took_if b v vs)
if_taken k ts vs v true h = all_but k ts vs v h
if_taken k ts vs v false h = none k ts

one : (ts : Items) (g : Gap) (t : Tok) (v : List ℕ) (b : Bool) → Shorter 1 (it g t ts) (took_if b v ts)
one ts g t v b = if_taken 1 (it g t ts) ts v b (omega arith)

word_taken : (wanted : List ℕ) (ts : Items) → Shorter 1 ts (word_in wanted ts)
word_taken wanted (it g (key w) ts) = one ts g (key w) w (bytes_eq w wanted)
word_taken wanted ts = none 1 ts

punct_taken : (wanted : List ℕ) (ts : Items) → Shorter 1 ts (punct_in wanted ts)
punct_taken wanted (it g (sign w) ts) = one ts g (sign w) w (bytes_eq w wanted)
punct_taken wanted (it g (number w) ts) = if_hidden 1 (it g (number w) ts) _
punct_taken wanted (it g (regex w) ts) = if_hidden 1 (it g (regex w) ts) _
punct_taken wanted (it g (template first last w) ts) = if_hidden 1 (it g (template first last w) ts) _
punct_taken wanted ts = none 1 ts

key_taken : (ts : Items) → Shorter 1 ts (key_in ts)
key_taken (it g (key w) ts) = one ts g (key w) w true
key_taken ts = none 1 ts

name_taken : (ts : Items) → Shorter 1 ts (name_in ts)
name_taken (it g (key w) ts) = one ts g (key w) w _
name_taken ts = none 1 ts

private_name_taken : (ts : Items) → Shorter 1 ts (private_name_in ts)
private_name_taken (it g (private_name w) ts) = one ts g (private_name w) w true
private_name_taken ts = none 1 ts

string_taken : (ts : Items) → Shorter 1 ts (string_in ts)
string_taken (it g (string w) ts) = one ts g (string w) w true
string_taken ts = none 1 ts

number_taken : (ts : Items) → Shorter 1 ts (number_in ts)
number_taken (it g (number w) ts) = one ts g (number w) w true
number_taken ts = none 1 ts

big_int_taken : (ts : Items) → Shorter 1 ts (big_int_in ts)
big_int_taken (it g (big_int w) ts) = one ts g (big_int w) w true
big_int_taken ts = none 1 ts

regex_taken : (ts : Items) → Shorter 1 ts (regex_in ts)
regex_taken (it g (regex w) ts) = one ts g (regex w) w true
regex_taken (it g (sign w) ts) = if_hidden 1 (it g (sign w) ts) _
regex_taken ts = none 1 ts

angle_taken : (c : ℕ) (ts : Items) → Shorter 1 ts (angle_in c ts)
angle_taken c (it g (sign w) ts) = if_hidden 1 (it g (sign w) ts) _
angle_taken c ts = none 1 ts

template_taken : (wanted : TemplatePart) (ts : Items) → Shorter 1 ts (template_in wanted ts)
template_taken wanted (it g (template first last w) ts) = one ts g (template first last w) w _
template_taken wanted (it g (sign w) ts) = if_hidden 1 (it g (sign w) ts) _
template_taken wanted ts = none 1 ts

-- the end of a statement, and of the text, may be no token

end_by_taken : (g : Gap) (b : Bool) (ts : Items) → Shorter 0 ts (end_by g b ts)
end_by_taken g b ts = if_taken 0 ts ts _ (g.new_line || b) (omega arith)

end_sign_taken : (g : Gap) (w : List ℕ) (ts : Items) (b : Bool) → Shorter 0 (it g (sign w) ts) (if b then took w ts else end_by g (bytes_eq w (codes "}")) (it g (sign w) ts))
end_sign_taken g w ts true = all_but 0 (it g (sign w) ts) ts w (omega arith)
end_sign_taken g w ts false = end_by_taken g _ (it g (sign w) ts)

end_taken : (ts : Items) → Shorter 0 ts (end_in ts)
end_taken (ends g) = all_but 0 (ends g) (ends g) _ (omega arith)
end_taken (it g (sign w) ts) = end_sign_taken g w ts (bytes_eq w (codes ";"))
end_taken (it g (template false last w) ts) = hidden 0 (it g (template false last w) ts)
end_taken (it g t ts) = end_by_taken g false (it g t ts)

end_of_text_taken : (ts : Items) → Shorter 0 ts (end_of_text_in ts)
end_of_text_taken (ends g) = all_but 0 (ends g) _ _ (omega arith)
end_of_text_taken ts = none 0 ts

-- how many tokens a terminal takes at least
abbrev pub kind_eats : TokenKind → ℕ
kind_eats token_kind.End = 0
kind_eats token_kind.EndOfText = 0
kind_eats k = 1

abbrev pub token_eats : Terminal → ℕ
token_eats (any k) = kind_eats k
token_eats t = 1

any_taken : (k : TokenKind) (ts : Items) → Shorter (kind_eats k) ts (token_in (any k) ts)
any_taken token_kind.Name ts = name_taken ts
any_taken token_kind.Key ts = key_taken ts
any_taken token_kind.PrivateName ts = private_name_taken ts
any_taken token_kind.Str ts = string_taken ts
any_taken token_kind.Number ts = number_taken ts
any_taken token_kind.BigInt ts = big_int_taken ts
any_taken (token_kind.Template wanted) ts = template_taken wanted ts
any_taken token_kind.LeftAngle ts = angle_taken 60 ts
any_taken token_kind.RightAngle ts = angle_taken 62 ts
any_taken token_kind.End ts = end_taken ts
any_taken token_kind.EndOfText ts = end_of_text_taken ts

pub token_taken : (t : Terminal) (ts : Items) → Shorter (token_eats t) ts (token_in t ts)
token_taken (the_word w) ts = word_taken w ts
token_taken (the_punct w) ts = punct_taken w ts
token_taken (any k) ts = any_taken k ts

pub leaf_taken : (l : Leaf) (ts : Items) → Shorter 1 ts (leaf_in l ts)
leaf_taken leaf.Ident ts = name_taken ts
leaf_taken leaf.KeyIdent ts = key_taken ts
leaf_taken leaf.ThisIdent ts = word_taken _ ts
leaf_taken leaf.IdentName ts = key_taken ts
leaf_taken leaf.PrivateName ts = private_name_taken ts
leaf_taken leaf.Str ts = string_taken ts
leaf_taken leaf.Number ts = number_taken ts
leaf_taken leaf.BigInt ts = big_int_taken ts
leaf_taken leaf.Regex ts = regex_taken ts
leaf_taken (leaf.TplElement wanted) ts = template_taken wanted ts
leaf_taken leaf.This ts = word_taken _ ts
leaf_taken leaf.Null ts = word_taken _ ts
leaf_taken leaf.True ts = word_taken _ ts
leaf_taken leaf.False ts = word_taken _ ts
leaf_taken leaf.Super ts = word_taken _ ts
leaf_taken leaf.Import ts = word_taken _ ts
leaf_taken leaf.Hashbang ts = none 1 ts
