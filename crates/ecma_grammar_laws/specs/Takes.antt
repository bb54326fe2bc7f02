-- Which grammars read only by taking a token, and what a grammar repeats.
use Rattle.std.specs.Prelude.{Bool, true, false, ◌&&◌, ◌||◌, nat_lt, List, [], ◌∷◌, ◌++◌, length}
use Rattle.ecma_grammar.specs.declared.production.Part.{Part}
use Rattle.ecma_grammar.specs.declared.production.Part.TheVariants as part
use Rattle.ecma_grammar.specs.declared.production.Link.TheVariants as link
use Rattle.ecma_grammar.specs.declared.production.TokenKind.{TokenKind}
use Rattle.ecma_grammar.specs.declared.production.TokenKind.TheVariants as token
use Rattle.ecma_grammar.specs.Grammar.{Terminal, the_word, the_punct, any, Grammar, nothing, take, keep, ◌▸◌, ◌//◌, many, ahead, unless, marked, assigned, up, enter, behind, build}

-- the end of a statement and that of the text may be empty
abbrev pub token_takes : TokenKind → Bool
token_takes token.End = false
token_takes token.EndOfText = false
token_takes _ = true

-- no punctuator is empty
abbrev pub terminal_takes : Terminal → Bool
terminal_takes (the_word w) = true
terminal_takes (the_punct w) = nat_lt 0 (length w)
terminal_takes (any k) = token_takes k

-- each part but the links behind `!`, which may be none
abbrev pub part_takes : Part → Bool
part_takes (part.Link link.NonNull) = false
part_takes (part.NewLink link.NonNull) = false
part_takes _ = true

-- nothing always stands ahead: what is read unless it does is never read
abbrev pub takes : Grammar → Bool
takes (take t) = terminal_takes t
takes (keep l) = true
takes (a ▸ b) = takes a || takes b
takes (a // b) = takes a && takes b
takes (unless nothing) = true
takes (marked a) = takes a
takes (assigned a) = takes a
takes (up u) = part_takes u
takes (enter u) = part_takes u
takes (behind t u) = terminal_takes t || part_takes u
takes (build form a) = takes a
takes _ = false

-- each part of a grammar that is repeated
abbrev pub repeated : Grammar → List Grammar
repeated (a ▸ b) = repeated a ++ repeated b
repeated (a // b) = repeated a ++ repeated b
repeated (many a) = a ∷ repeated a
repeated (ahead a) = repeated a
repeated (unless a) = repeated a
repeated (marked a) = repeated a
repeated (assigned a) = repeated a
repeated (build form a) = repeated a
repeated _ = []
