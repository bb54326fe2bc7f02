-- What is known of a reading before it is tried, by the tokens that stand ahead: where these are not what a grammar begins with, it fails.
use Rattle.std.specs.Prelude.{◌≡◌, ◌<◌, ℕ, max, Bool, true, ◌||◌, List, if◌then◌else◌, ◌==◌, Result, Ok, Err, Option, Some, None, codes}
use Rattle.std.specs.Char.{is_ascii_digit}
use Rattle.ecma_lex.specs.declared.tokens.NoToken.{NoToken}
use Rattle.ecma_lex.specs.declared.blanks.Skipped.{Skipped}
use Rattle.ecma_lex.specs.Blanks.{skipped}
use Rattle.ecma_lex.specs.Tokens as lex
use Rattle.ecma_lex.specs.Strings.{str_lit}
use Rattle.ecma_lex.specs.Templates.{template_text}
use Rattle.ecma_grammar.specs.declared.production.Mode.{Mode}
use Rattle.ecma_grammar.specs.declared.production.TemplatePart.{TemplatePart}
use Rattle.ecma_grammar.specs.declared.production.TokenKind.{TokenKind}
use Rattle.ecma_grammar.specs.declared.production.TokenKind.TheVariants as token_kind
use Rattle.ecma_grammar.specs.declared.production.Leaf.{Leaf}
use Rattle.ecma_grammar.specs.declared.production.Leaf.TheVariants as leaf
use Rattle.ecma_grammar.specs.declared.productions.glances.Glance.{Glance}
use Rattle.ecma_grammar.specs.declared.productions.glances.Glance.TheVariants as glance
use Rattle.ecma_reader.specs.FirstByte.{first_byte}
use Rattle.ecma_grammar.specs.Glance.{Remains}
use Rattle.ecma_grammar.specs.Written.{written}
use Rattle.ecma_grammar.specs.Grammar as grammar
use Rattle.ecma_grammar.specs.Grammar.{Terminal, the_word, the_punct, any, Grammar}

pub data Outlook : Type 0 where
  -- nothing is known
  Open : Outlook
  -- it fails, as terminals do up to this place
  Fails : ℕ → Outlook
  -- something is read and nothing taken, while terminals fail up to this place
  Stays : ℕ → Outlook
  -- nothing is read, while terminals fail up to this place
  Passes : ℕ → Outlook

-- where the code knows that it fails, if it does
abbrev pub outlook_of : Option ℕ → Outlook
outlook_of None = Open
outlook_of (Some at) = Fails at

-- one behind the other
abbrev pub then_outlook : Outlook → Outlook → Outlook
then_outlook Open y = Open
then_outlook (Fails k) y = Fails k
then_outlook (Stays k) Open = Open
then_outlook (Stays k) (Fails l) = Fails (max k l)
then_outlook (Stays k) (Stays l) = Stays (max k l)
then_outlook (Stays k) (Passes l) = Stays (max k l)
then_outlook (Passes k) Open = Open
then_outlook (Passes k) (Fails l) = Fails (max k l)
then_outlook (Passes k) (Stays l) = Stays (max k l)
then_outlook (Passes k) (Passes l) = Passes (max k l)

-- the second, where the first fails
abbrev pub or_outlook : Outlook → Outlook → Outlook
or_outlook (Fails k) Open = Open
or_outlook (Fails k) (Fails l) = Fails (max k l)
or_outlook (Fails k) (Stays l) = Stays (max k l)
or_outlook (Fails k) (Passes l) = Passes (max k l)
or_outlook Open y = Open
or_outlook (Stays k) y = Stays k
or_outlook (Passes k) y = Passes k

abbrev pub many_outlook : Outlook → Outlook
many_outlook (Fails k) = Passes k
many_outlook x = Open

abbrev pub ahead_outlook : Outlook → Outlook
ahead_outlook Open = Open
ahead_outlook (Fails k) = Fails k
ahead_outlook (Stays k) = Passes k
ahead_outlook (Passes k) = Passes k

abbrev pub unless_outlook : Outlook → Outlook
unless_outlook Open = Open
unless_outlook (Fails k) = Passes k
unless_outlook (Stays k) = Fails k
unless_outlook (Passes k) = Fails k

abbrev pub build_outlook : Outlook → Outlook
build_outlook Open = Open
build_outlook (Fails k) = Fails k
build_outlook (Stays k) = Stays k
build_outlook (Passes k) = Stays k

-- a token that was looked for
abbrev pub found_outlook : {A : Type 0} → Result A NoToken → Outlook
found_outlook (Ok token) = Open
found_outlook (Err none) = Fails none.at

-- a token that is only looked for where it cannot stand by its first byte
abbrev pub unless_begun : {A : Type 0} → Bool → Result A NoToken → Outlook
unless_begun begins found = if begins then Open else found_outlook found

abbrev pub line_outlook : Skipped → Outlook
line_outlook before = if before.new_line then Fails before.to else Passes 0

module _ (text : List ℕ) (i : ℕ) where
  abbrev pub template_outlook : TemplatePart → Outlook
  template_outlook part = unless_begun (first_byte text i == (if part.first then 96 else 125)) (template_text text i part.first part.tagged)

  abbrev pub kind_outlook : TokenKind → Outlook
  kind_outlook token_kind.Name = found_outlook (lex.name text i)
  kind_outlook token_kind.Key = found_outlook (lex.key text i)
  kind_outlook token_kind.PrivateName = unless_begun (first_byte text i == 35) (lex.priv_name text i)
  kind_outlook token_kind.Str = unless_begun (first_byte text i == 34 || first_byte text i == 39) (str_lit text i)
  kind_outlook token_kind.Number = unless_begun (first_byte text i == 46 || is_ascii_digit (first_byte text i)) (lex.num text i)
  kind_outlook token_kind.BigInt = unless_begun (is_ascii_digit (first_byte text i)) (lex.big text i)
  kind_outlook (token_kind.Template part) = template_outlook part
  kind_outlook token_kind.LeftAngle = found_outlook (lex.angle text i 60)
  kind_outlook token_kind.RightAngle = found_outlook (lex.angle text i 62)
  kind_outlook token_kind.End = Open
  kind_outlook token_kind.EndOfText = Open

  abbrev pub token_outlook : Terminal → Outlook
  token_outlook (the_word w) = found_outlook (lex.word text i w)
  token_outlook (the_punct w) = found_outlook (lex.punct text i w)
  token_outlook (any k) = kind_outlook k

  abbrev pub word_outlook : List ℕ → Outlook
  word_outlook w = found_outlook (lex.word text i w)

  abbrev pub leaf_outlook : Leaf → Outlook
  leaf_outlook leaf.Ident = kind_outlook token_kind.Name
  leaf_outlook leaf.KeyIdent = kind_outlook token_kind.Key
  leaf_outlook leaf.ThisIdent = word_outlook (codes "this")
  leaf_outlook leaf.IdentName = kind_outlook token_kind.Key
  leaf_outlook leaf.PrivateName = kind_outlook token_kind.PrivateName
  leaf_outlook leaf.Str = kind_outlook token_kind.Str
  leaf_outlook leaf.Number = kind_outlook token_kind.Number
  leaf_outlook leaf.BigInt = kind_outlook token_kind.BigInt
  leaf_outlook leaf.Regex = unless_begun (first_byte text i == 47) (lex.regex text i)
  leaf_outlook (leaf.TplElement part) = template_outlook part
  leaf_outlook leaf.This = word_outlook (codes "this")
  leaf_outlook leaf.Null = word_outlook (codes "null")
  leaf_outlook leaf.True = word_outlook (codes "true")
  leaf_outlook leaf.False = word_outlook (codes "false")
  leaf_outlook leaf.Super = word_outlook (codes "super")
  leaf_outlook leaf.Import = word_outlook (codes "import")
  leaf_outlook leaf.Hashbang = Open

  module _ (mode : Mode) where
    abbrev pub outlook : Grammar → Outlook
    outlook grammar.nothing = Passes 0
    outlook grammar.same_line = line_outlook (skipped text i)
    outlook (grammar.take t) = token_outlook t
    outlook (grammar.keep l) = leaf_outlook l
    outlook (grammar.put f) = Stays 0
    outlook (grammar.◌▸◌ a b) = then_outlook (outlook a) (outlook b)
    outlook (grammar.◌//◌ a b) = or_outlook (outlook a) (outlook b)
    outlook (grammar.many a) = many_outlook (outlook a)
    outlook (grammar.ahead a) = ahead_outlook (outlook a)
    outlook (grammar.unless a) = unless_outlook (outlook a)
    outlook (grammar.marked a) = if mode.typescript then outlook a else Fails 0
    outlook (grammar.assigned a) = if mode.assignments then outlook a else Fails 0
    outlook (grammar.up u) = Open
    outlook (grammar.enter u) = Open
    outlook (grammar.behind t u) = token_outlook t
    outlook (grammar.build f a) = build_outlook (outlook a)

-- where what the first byte says of a grammar is asked for: all TypeScript is read, and that byte is of ASCII
pub record IsSeen (text : List ℕ) (i : ℕ) (mode : Mode) : Type 0 where
  pub typescript : mode.typescript ≡ true
  pub assignments : mode.assignments ≡ true
  pub some : 0 < first_byte text i
  pub small : first_byte text i < 128

-- what is known of a grammar by the first byte of the token ahead is so
abbrev pub Tells : List ℕ → ℕ → Mode → Grammar → Glance → Type 0
Tells text i mode g glance.Open = Unit {0}
Tells text i mode g glance.Fails = outlook text i mode g ≡ Fails (skipped text i).to
Tells text i mode g glance.Passes = outlook text i mode g ≡ Passes (skipped text i).to
Tells text i mode g (glance.Remains rest) = IsSeen text i mode × Remains (first_byte text i) g (written rest.now)
