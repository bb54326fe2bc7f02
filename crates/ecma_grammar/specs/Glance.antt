-- What the first byte of the token ahead says of a reading: where none of the tokens that it may begin with begins with that byte, it fails.
use Rattle.std.specs.Prelude.{◌≡◌, ℕ, Bool, true, false, List, [], ◌∷◌, if◌then◌else◌, ◌==◌, ◌||◌, codes}
use Rattle.std.specs.Char.{is_ascii_digit}
use Rattle.ecma_grammar.specs.declared.production.TemplatePart.{TemplatePart}
use Rattle.ecma_grammar.specs.declared.production.TokenKind.{TokenKind}
use Rattle.ecma_grammar.specs.declared.production.TokenKind.TheVariants as token_kind
use Rattle.ecma_grammar.specs.declared.production.Leaf.{Leaf}
use Rattle.ecma_grammar.specs.declared.production.Leaf.TheVariants as leaf
use Rattle.ecma_grammar.specs.declared.productions.glances.Glance.{Glance}
use Rattle.ecma_grammar.specs.declared.productions.glances.Glance.TheVariants as glance
use Rattle.ecma_grammar.specs.Written.{written}
use Rattle.ecma_grammar.specs.Grammar as grammar
use Rattle.ecma_grammar.specs.Grammar.{Terminal, the_word, the_punct, any, Grammar}

pub data Sight : Type 0 where
  -- nothing is known
  unknown : Sight
  -- it fails, as terminals do after the blanks
  fails : Sight
  -- nothing is read, while terminals fail there
  passes : Sight
  -- nothing is read, and no terminal fails
  rests : Sight
  -- nothing is taken, or it fails there
  stays : Sight

-- a token that begins as a text
abbrev pub begun : ℕ → List ℕ → Sight
begun byte [] = unknown
begun byte (c ∷ cs) = if byte == c then unknown else fails

abbrev pub only_fails : Sight → Sight
only_fails fails = fails
only_fails y = unknown

-- one after the other
abbrev pub then_sight : Sight → Sight → Sight
then_sight unknown y = unknown
then_sight fails y = fails
then_sight passes y = only_fails y
then_sight rests y = only_fails y
then_sight stays y = only_fails y

-- the second, where the first fails
abbrev pub or_sight : Sight → Sight → Sight
or_sight fails unknown = unknown
or_sight fails fails = fails
or_sight fails passes = passes
or_sight fails rests = passes
or_sight fails stays = stays
or_sight unknown y = unknown
or_sight passes y = unknown
or_sight rests y = unknown
or_sight stays y = unknown

module _ (byte : ℕ) where
  abbrev pub template_sight : TemplatePart → Sight
  template_sight part = begun byte ((if part.first then 96 else 125) ∷ [])

  abbrev pub kind_sight : TokenKind → Sight
  kind_sight (token_kind.Template part) = template_sight part
  kind_sight token_kind.LeftAngle = begun byte (60 ∷ [])
  kind_sight token_kind.RightAngle = begun byte (62 ∷ [])
  kind_sight token_kind.Str = if byte == 34 || byte == 39 then unknown else fails
  kind_sight token_kind.Number = if byte == 46 || is_ascii_digit byte then unknown else fails
  kind_sight token_kind.BigInt = if is_ascii_digit byte then unknown else fails
  kind_sight k = unknown

  abbrev pub token_sight : Terminal → Sight
  token_sight (the_word w) = begun byte w
  token_sight (the_punct w) = begun byte w
  token_sight (any k) = kind_sight k

  abbrev pub leaf_sight : Leaf → Sight
  leaf_sight (leaf.TplElement part) = template_sight part
  leaf_sight leaf.Str = kind_sight token_kind.Str
  leaf_sight leaf.Number = kind_sight token_kind.Number
  leaf_sight leaf.BigInt = kind_sight token_kind.BigInt
  leaf_sight leaf.ThisIdent = begun byte (codes "this")
  leaf_sight leaf.This = begun byte (codes "this")
  leaf_sight leaf.Null = begun byte (codes "null")
  leaf_sight leaf.True = begun byte (codes "true")
  leaf_sight leaf.False = begun byte (codes "false")
  leaf_sight leaf.Super = begun byte (codes "super")
  leaf_sight leaf.Import = begun byte (codes "import")
  leaf_sight l = unknown

  -- where all TypeScript is read
  abbrev pub sight : Grammar → Sight
  sight grammar.nothing = rests
  sight grammar.same_line = stays
  sight (grammar.take t) = token_sight t
  sight (grammar.keep l) = leaf_sight l
  sight (grammar.put f) = stays
  sight (grammar.◌▸◌ a b) = then_sight (sight a) (sight b)
  sight (grammar.◌//◌ a b) = or_sight (sight a) (sight b)
  sight (grammar.many a) = unknown
  sight (grammar.ahead a) = only_fails (sight a)
  sight (grammar.unless a) = unknown
  sight (grammar.marked a) = sight a
  sight (grammar.assigned a) = sight a
  sight (grammar.up u) = unknown
  sight (grammar.enter u) = unknown
  sight (grammar.behind t u) = token_sight t
  sight (grammar.build f a) = only_fails (sight a)

-- a first alternative that fails
abbrev pub is_failing : Sight → Bool
is_failing fails = true
is_failing x = false

module _ (byte : ℕ) where
  -- a choice whose first alternative fails
  abbrev pub leads_nowhere : Grammar → Bool
  leads_nowhere (grammar.◌//◌ a b) = is_failing (sight byte a)
  leads_nowhere g = false

  -- what remains of a choice after the first of its alternatives, as far as they fail
  abbrev pub remainder : Grammar → Grammar
  remainder (grammar.◌//◌ a b) = if is_failing (sight byte a) then remainder b else grammar.◌//◌ a b
  remainder g = g

  abbrev pub Remains : Grammar → Grammar → Type 0
  Remains g rest = (leads_nowhere g ≡ true) × (remainder g ≡ rest)

-- what the code knows is so
abbrev pub Says : Glance → ℕ → Grammar → Type 0
Says glance.Open byte g = Unit {0}
Says glance.Fails byte g = sight byte g ≡ fails
Says glance.Passes byte g = sight byte g ≡ passes
Says (glance.Remains rest) byte g = Remains byte g (written rest.now)
