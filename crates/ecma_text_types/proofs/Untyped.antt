-- Grammars that know no types, but where they are marked.
use Rattle.std.proofs.Common.{Bool, true, false, ◌&&◌}
use Rattle.ecma_grammar.specs.declared.production.Form.{Form}
use Rattle.ecma_grammar.specs.declared.production.Form.TheVariants as form
use Rattle.ecma_grammar.specs.declared.production.Link.TheVariants as link
use Rattle.ecma_grammar.specs.declared.production.Part.{Part}
use Rattle.ecma_grammar.specs.declared.production.Part.TheVariants as part
use Rattle.ecma_grammar.specs.Grammar.{Grammar, ◌▸◌, ◌//◌, many, ahead, unless, marked, assigned, up, enter, behind, build}

-- a form that makes the same of types that hold something
abbrev pub is_untyped_form : Form → Bool
is_untyped_form (form.Bare k) = false
is_untyped_form (form.First k) = false
is_untyped_form form.IndexSignature = false
is_untyped_form _ = true

-- parts of types are marked wherever they are used
abbrev pub is_untyped_part : Part → Bool
is_untyped_part part.«Type» = false
is_untyped_part part.TypeOperator = false
is_untyped_part part.ArraySuffix = false
is_untyped_part part.Assertion = false
is_untyped_part (part.As no_in) = false
is_untyped_part (part.Satisfies no_in) = false
is_untyped_part part.Declared = false
is_untyped_part (part.Link link.Instantiation) = false
is_untyped_part _ = true

abbrev pub is_untyped : Grammar → Bool
is_untyped (a ▸ b) = is_untyped a && is_untyped b
is_untyped (a // b) = is_untyped a && is_untyped b
is_untyped (many a) = is_untyped a
is_untyped (ahead a) = is_untyped a
is_untyped (unless a) = is_untyped a
is_untyped (marked a) = true
is_untyped (assigned a) = is_untyped a
is_untyped (up u) = is_untyped_part u
is_untyped (enter u) = is_untyped_part u
is_untyped (behind t u) = is_untyped_part u
is_untyped (build f a) = is_untyped_form f && is_untyped a
is_untyped _ = true
