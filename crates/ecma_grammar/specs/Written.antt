-- What a production of the code says.
use Rattle.std.specs.Prelude.{Bool, true, false}
use Rattle.ecma_grammar.specs.declared.production.Terminal as declared
use Rattle.ecma_grammar.specs.declared.production.Terminal.TheVariants as terminal
use Rattle.ecma_grammar.specs.declared.production.Production.{Production}
use Rattle.ecma_grammar.specs.declared.production.Production.TheVariants as production
use Rattle.ecma_grammar.specs.declared.productions.tails.Tail as declared_tail
use Rattle.ecma_grammar.specs.productions.Tails.{Tail, tail}
use Rattle.ecma_grammar.specs.Rules.{rule_grammar}
use Rattle.ecma_grammar.specs.Grammar.{Terminal, the_word, the_punct, any, Grammar, nothing, same_line, take, keep, put, ◌▸◌, ◌//◌, many, ahead, unless, marked, assigned, up, enter, behind, build}

abbrev pub written_token : declared.Terminal → Terminal
written_token (terminal.Word w) = the_word w.now
written_token (terminal.Punct w) = the_punct w.now
written_token (terminal.Kind k) = any k

abbrev pub written : Production → Grammar
written production.Nothing = nothing
written (production.Take t) = take (written_token t)
written (production.Keep l) = keep l
written (production.Put f) = put f
written (production.Then' p a q b) = written a ▸ written b
written (production.Or' p a q b) = written a // written b
written (production.Many' p a) = many (written a)
written (production.Ahead' p a) = ahead (written a)
written (production.Unless' p a) = unless (written a)
written production.SameLine = same_line
written (production.Marked' p a) = marked (written a)
written (production.Assigned' p a) = assigned (written a)
written (production.Up u) = up u
written (production.Enter u) = enter u
written (production.Behind t u) = behind (written_token t) u
written (production.Build' f p a) = build f (written a)
written (production.The r) = rule_grammar r

-- what stands after what was read
abbrev pub written_tail : declared_tail.Tail → Tail
written_tail t = tail t.form (written t.production)

-- a production that is a name
abbrev pub is_name : Production → Bool
is_name (production.The r) = true
is_name p = false

-- a production of which another is read in its place, or a last part
abbrev pub goes_on : Production → Bool
goes_on (production.The r) = true
goes_on (production.Then' p a q b) = true
goes_on (production.Or' p a q b) = true
goes_on (production.Marked' p a) = true
goes_on (production.Assigned' p a) = true
goes_on (production.Build' f p a) = true
goes_on p = false
