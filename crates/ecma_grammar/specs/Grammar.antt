-- Grammars as data. Productions are written with these words; Reads.antt says what each reads.
use Rattle.std.specs.Prelude.{ℕ, List, codes}
use Rattle.ecma_grammar.specs.declared.production.Part.{Part}
use Rattle.ecma_grammar.specs.declared.production.TokenKind.{TokenKind}
use Rattle.ecma_grammar.specs.declared.production.Leaf.{Leaf}
use Rattle.ecma_grammar.specs.declared.production.Flag.{Flag}
use Rattle.ecma_grammar.specs.declared.production.Flag.TheVariants.{Absent, Present}
use Rattle.ecma_grammar.specs.declared.production.Plain.{Plain}
use Rattle.ecma_grammar.specs.declared.production.Form.{Form}
use Rattle.ecma_grammar.specs.declared.production.Form.TheVariants as form

-- a token: the key with this text, the punctuator with this text, or any of a kind
pub data Terminal : Type 0 where
  the_word the_punct : List ℕ → Terminal
  any : TokenKind → Terminal

infixr 20 ◌▸◌
infixr 10 ◌//◌
pub data Grammar : Type 0 where
  nothing same_line : Grammar
  -- a token, of which nothing is kept; a token that is kept as a node; a node of no text
  take : Terminal → Grammar
  keep : Leaf → Grammar
  put : Flag → Grammar
  -- one after the other; ordered choice; as often as it is read
  ◌▸◌ ◌//◌ : Grammar → Grammar → Grammar
  many : Grammar → Grammar
  -- it stands ahead, or does not
  ahead unless : Grammar → Grammar
  -- TypeScript; TypeScript that may stay in plain reading
  marked assigned : Grammar → Grammar
  -- a part, one level further in: too deep where the reading stands, where the next token begins, or where the token before it begins
  up enter : Part → Grammar
  behind : Terminal → Part → Grammar
  -- what is made of all that is read
  build : Form → Grammar → Grammar

-- a token

abbrev pub word : List ℕ → Grammar
word w = take (the_word w)

abbrev pub punct : List ℕ → Grammar
punct w = take (the_punct w)

abbrev pub a : TokenKind → Grammar
a k = take (any k)

abbrev pub behind_word : List ℕ → Part → Grammar
behind_word w u = behind (the_word w) u

abbrev pub behind_punct : List ℕ → Part → Grammar
behind_punct w u = behind (the_punct w) u

-- what may be missing: nothing is kept of it, or a child; or it is kept whether it was there
abbrev pub optional : Grammar → Grammar
optional g = g // nothing

abbrev pub maybe : Grammar → Grammar
maybe g = g // put Absent

abbrev pub whether : Grammar → Grammar
whether g = g ▸ put Present // put Absent

-- L(g): with commas between, and perhaps one after the last
abbrev pub commas : Grammar → Grammar
commas g = g ▸ many (punct (codes ",") ▸ g) ▸ optional (punct (codes ",")) // nothing

-- nodes

abbrev pub node : Plain → Grammar → Grammar
node k g = build (form.Node k) g

abbrev pub bare : Plain → Grammar → Grammar
bare k g = build (form.Bare k) g

-- a node whose first child stands in front of it
abbrev pub item : Plain → Grammar → Grammar
item k g = node k (put Absent ▸ g)

abbrev pub list : Grammar → Grammar
list g = build form.List g
