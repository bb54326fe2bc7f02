-- Pieces of text: each is what it puts in front of the text that follows, at the margin that its lines begin with.
use Rattle.std.specs.Prelude.{ℕ, List, ◌++◌, codes}

abbrev pub Piece : Type 0
Piece = List ℕ → List ℕ → List ℕ

-- no text
abbrev pub nothing : Piece
nothing margin rest = rest

-- these characters
abbrev pub say : List ℕ → Piece
say text margin rest = text ++ rest

infixr 6 ◌>>◌
-- one piece, and after it another
abbrev pub ◌>>◌ : Piece → Piece → Piece
(first >> second) margin rest = first margin (second margin rest)

-- the beginning of a new line
abbrev pub new_line : Piece
new_line margin rest = codes "\n" ++ margin ++ rest

-- a margin one level further in
abbrev pub further : List ℕ → List ℕ
further margin = margin ++ codes "    "

-- a piece with its lines one level further in
abbrev pub deeper : Piece → Piece
deeper piece margin rest = piece (further margin) rest
