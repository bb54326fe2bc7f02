-- Lists of tokens, and the text that they make.
use Rattle.std.specs.Prelude.{ℕ, Bool, false, List, [], ◌++◌}

-- a token, by its text
pub data Tok : Type 0 where
  -- an IdentifierName, a PrivateIdentifier, a punctuator, a literal
  key private_name sign string number big_int regex : List ℕ → Tok
  -- a text part of a template: whether it is the first, whether it is the last
  template : Bool → Bool → List ℕ → Tok

-- what stands before a token: blanks and line feeds, and whether a line feed is among them
pub record Gap : Type 0 where
  pub blanks : List ℕ
  pub new_line : Bool

abbrev pub no_gap : Gap
no_gap = record { blanks = []; new_line = false }

-- tokens, each behind its gap; and the gap before the end of the text
pub data Items : Type 0 where
  ends : Gap → Items
  it : Gap → Tok → Items → Items

abbrev pub token_text : Tok → List ℕ
token_text (key w) = w
token_text (private_name w) = w
token_text (sign w) = w
token_text (string w) = w
token_text (number w) = w
token_text (big_int w) = w
token_text (regex w) = w
token_text (template first last w) = w

unfoldable pub render : Items → List ℕ
render (ends g) = g.blanks
render (it g t ts) = g.blanks ++ (token_text t ++ render ts)

-- the gap that stands first
abbrev pub first_gap : Items → Gap
first_gap (ends g) = g
first_gap (it g t ts) = g
