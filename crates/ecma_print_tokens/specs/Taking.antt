-- What terminals take of a list of tokens.
use Rattle.std.specs.Prelude.{ℕ, ◌+◌, ◌-◌, Bool, true, false, not, ◌&&◌, ◌||◌, List, [], ◌∷◌, length, nat_eq, Some, is_some, bytes_eq, codes, if◌then◌else◌}
use Rattle.ecma_number.specs.Numeral.{numeral_of}
use Rattle.ecma_lex.specs.Text.{piece}
use Rattle.ecma_lex.specs.Keys.{is_reserved}
use Rattle.ecma_lex.specs.Strings.{str_value}
use Rattle.ecma_lex.specs.Templates.{template_value, template_raw, end_length}
use Rattle.ecma_lex.specs.Regexes.{regex_body_end}
use Rattle.ecma_kind.specs.declared.kind.Kind.{Kind}
use Rattle.ecma_kind.specs.declared.kind.Kind.TheVariants as kind
use Rattle.ecma_grammar.specs.declared.production.TemplatePart.{TemplatePart}
use Rattle.ecma_grammar.specs.declared.production.TokenKind.{TokenKind}
use Rattle.ecma_grammar.specs.declared.production.TokenKind.TheVariants as token_kind
use Rattle.ecma_grammar.specs.declared.production.Leaf.{Leaf}
use Rattle.ecma_grammar.specs.declared.production.Leaf.TheVariants as leaf
use Rattle.ecma_grammar.specs.Grammar.{Terminal, the_word, the_punct, any}
use Rattle.ecma_grammar.specs.Reads.{without_separators}
use Rattle.ecma_print_tokens.specs.Items.{key, private_name, sign, string, number, big_int, regex, template, Gap, no_gap, Items, ends, it, first_gap}

-- a token was taken, by its text, and what stands behind it; none is; or the text may be read otherwise than as these tokens
pub data Took : Type 0 where
  took : List ℕ → Items → Took
  refused unsure : Took

abbrev pub took_if : Bool → List ℕ → Items → Took
took_if taken w ts = if taken then took w ts else refused

abbrev pub unsure_if : Bool → Took
unsure_if otherwise = if otherwise then unsure else refused

abbrev pub begins_by : ℕ → List ℕ → Bool
begins_by c [] = false
begins_by c (d ∷ ds) = nat_eq d c

-- a token of a list

abbrev pub word_in : List ℕ → Items → Took
word_in wanted (it g (key w) ts) = took_if (bytes_eq w wanted) w ts
word_in wanted ts = refused

-- a point (46) may be the beginning of a numeral, `/` or `/=` (47) that of a regular expression, `}` that of a text part
abbrev pub punct_in : List ℕ → Items → Took
punct_in wanted (it g (sign w) ts) = took_if (bytes_eq w wanted) w ts
punct_in wanted (it g (number w) ts) = unsure_if (bytes_eq wanted (codes ".") && begins_by 46 w)
punct_in wanted (it g (regex w) ts) = unsure_if (begins_by 47 wanted)
punct_in wanted (it g (template first last w) ts) = unsure_if (not first && bytes_eq wanted (codes "}"))
punct_in wanted ts = refused

abbrev pub key_in : Items → Took
key_in (it g (key w) ts) = took w ts
key_in ts = refused

abbrev pub name_in : Items → Took
name_in (it g (key w) ts) = took_if (not (is_reserved w)) w ts
name_in ts = refused

abbrev pub private_name_in : Items → Took
private_name_in (it g (private_name w) ts) = took w ts
private_name_in ts = refused

abbrev pub string_in : Items → Took
string_in (it g (string w) ts) = took w ts
string_in ts = refused

abbrev pub number_in : Items → Took
number_in (it g (number w) ts) = took w ts
number_in ts = refused

abbrev pub big_int_in : Items → Took
big_int_in (it g (big_int w) ts) = took w ts
big_int_in ts = refused

abbrev pub regex_in : Items → Took
regex_in (it g (regex w) ts) = took w ts
regex_in (it g (sign w) ts) = unsure_if (begins_by 47 w)
regex_in ts = refused

-- `<` (60) or `>` (62) alone
abbrev pub angle_in : ℕ → Items → Took
angle_in c (it g (sign w) ts) = unsure_if (begins_by c w)
angle_in c ts = refused

-- what stands between the ends of a text part
abbrev pub part_inside : Bool → List ℕ → List ℕ
part_inside last w = piece w 1 (length w - end_length last)

abbrev pub same_flag : Bool → Bool → Bool
same_flag true b = b
same_flag false b = not b

abbrev pub template_in : TemplatePart → Items → Took
template_in wanted (it g (template first last w) ts) =
    took_if (same_flag first wanted.first && (same_flag last wanted.last && (wanted.tagged || is_some (template_value (part_inside last w))))) w ts
template_in wanted (it g (sign w) ts) = unsure_if (not wanted.first && bytes_eq w (codes "}"))
template_in wanted ts = refused

-- `;`, or nothing where a statement may end
abbrev pub end_by : Gap → Bool → Items → Took
end_by g closes ts = took_if (g.new_line || closes) [] ts

abbrev pub end_in : Items → Took
end_in (ends g) = took [] (ends g)
end_in (it g (sign w) ts) = if bytes_eq w (codes ";") then took w ts else end_by g (bytes_eq w (codes "}")) (it g (sign w) ts)
end_in (it g (template false last w) ts) = unsure
end_in (it g t ts) = end_by g false (it g t ts)

abbrev pub end_of_text_in : Items → Took
end_of_text_in (ends g) = took [] (ends no_gap)
end_of_text_in ts = refused

abbrev pub any_in : TokenKind → Items → Took
any_in token_kind.Name ts = name_in ts
any_in token_kind.Key ts = key_in ts
any_in token_kind.PrivateName ts = private_name_in ts
any_in token_kind.Str ts = string_in ts
any_in token_kind.Number ts = number_in ts
any_in token_kind.BigInt ts = big_int_in ts
any_in (token_kind.Template wanted) ts = template_in wanted ts
any_in token_kind.LeftAngle ts = angle_in 60 ts
any_in token_kind.RightAngle ts = angle_in 62 ts
any_in token_kind.End ts = end_in ts
any_in token_kind.EndOfText ts = end_of_text_in ts

abbrev pub token_in : Terminal → Items → Took
token_in (the_word w) ts = word_in w ts
token_in (the_punct w) ts = punct_in w ts
token_in (any k) ts = any_in k ts

-- a token that is kept as a node: which token, and what the node is by the token's text

abbrev pub leaf_in : Leaf → Items → Took
leaf_in leaf.Ident ts = name_in ts
leaf_in leaf.KeyIdent ts = key_in ts
leaf_in leaf.ThisIdent ts = word_in (codes "this") ts
leaf_in leaf.IdentName ts = key_in ts
leaf_in leaf.PrivateName ts = private_name_in ts
leaf_in leaf.Str ts = string_in ts
leaf_in leaf.Number ts = number_in ts
leaf_in leaf.BigInt ts = big_int_in ts
leaf_in leaf.Regex ts = regex_in ts
leaf_in (leaf.TplElement wanted) ts = template_in wanted ts
leaf_in leaf.This ts = word_in (codes "this") ts
leaf_in leaf.Null ts = word_in (codes "null") ts
leaf_in leaf.True ts = word_in (codes "true") ts
leaf_in leaf.False ts = word_in (codes "false") ts
leaf_in leaf.Super ts = word_in (codes "super") ts
leaf_in leaf.Import ts = word_in (codes "import") ts
leaf_in leaf.Hashbang ts = refused

abbrev pub leaf_kind : Leaf → List ℕ → Kind
leaf_kind leaf.Ident w = kind.Ident w 0 false
leaf_kind leaf.KeyIdent w = kind.Ident w 0 false
leaf_kind leaf.ThisIdent w = kind.Ident w 0 false
leaf_kind leaf.IdentName w = kind.IdentName w
leaf_kind leaf.PrivateName w = kind.PrivateName (piece w 1 (length w))
leaf_kind leaf.Str w = kind.Str (str_value (piece w 1 (length w - 1))) (Some w)
leaf_kind leaf.Number w = kind.Number (numeral_of w) (Some w)
leaf_kind leaf.BigInt w = kind.BigInt (without_separators (piece w 0 (length w - 1))) (Some w)
leaf_kind leaf.Regex w = let stop = regex_body_end w 0 in kind.Regex (piece w 1 stop) (piece w (stop + 1) (length w))
leaf_kind (leaf.TplElement wanted) w = kind.TplElement (template_raw (part_inside wanted.last w)) (template_value (part_inside wanted.last w)) wanted.last
leaf_kind leaf.This w = kind.ThisExpr
leaf_kind leaf.Null w = kind.Null
leaf_kind leaf.True w = kind.Bool true
leaf_kind leaf.False w = kind.Bool false
leaf_kind leaf.Super w = kind.Super
leaf_kind leaf.Import w = kind.Import
leaf_kind leaf.Hashbang w = kind.Absent

-- a line break stands before what follows
abbrev pub new_line_in : Items → Bool
new_line_in ts = let g = first_gap ts in g.new_line
