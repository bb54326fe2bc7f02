-- Whether all lists of nodes that a grammar keeps are wanted, computed from the grammar.
use Rattle.std.proofs.Common.{Bool, true, false, ◌&&◌, ◌||◌}
use Rattle.ecma_grammar.specs.declared.production.Part.{Part}
use Rattle.ecma_grammar.specs.declared.production.Part.TheVariants as part
use Rattle.ecma_grammar.specs.Grammar as grammar
use Rattle.ecma_grammar.specs.Grammar.{Grammar}
use Rattle.ecma_text_fits_parts.proofs.Grades.{closed, expression, flag_fits, good, leaf_fits, link, mild, pattern}
use Rattle.ecma_text_fits_parts.proofs.Needs.{needs, six}
use Rattle.ecma_text_fits_parts.proofs.Wanted.{Wanted, choice, done, each, either, ends, is_whatever, one, passes, repeats_then, steps, whatever}

-- the lists of nodes that a part keeps; those of types go
abbrev pub part_keeps : Part → Wanted
part_keeps part.Statement = one good done
part_keeps part.NamespaceBody = one good done
part_keeps part.Declared = one closed done
part_keeps (part.Assign no_in middle) = one expression done
part_keeps part.Pattern = one pattern done
part_keeps part.«Type» = whatever
part_keeps part.TypeOperator = whatever
part_keeps part.ArraySuffix = whatever
part_keeps part.Operand = one expression done
part_keeps part.Assertion = either (one expression done) (one good (one expression done))
part_keeps part.New = either done (one good (one good (one good done)))
part_keeps part.Power = each mild
part_keeps (part.Class named) = six
part_keeps (part.Link l) = each link
part_keeps (part.NewLink l) = each link
part_keeps (part.Binary op no_in) = each mild
part_keeps (part.As no_in) = each mild
part_keeps (part.Satisfies no_in) = each mild
part_keeps part.DottedName = each good
part_keeps part.DottedKey = each mild

abbrev pub is_one : Wanted → Bool
is_one (one g done) = true
is_one _ = false

-- nothing is kept
abbrev pub none : Grammar → Bool
none (grammar.keep l) = false
none (grammar.put f) = false
none (grammar.◌▸◌ a b) = none a && none b
none (grammar.◌//◌ a b) = none a && none b
none (grammar.many a) = none a
none (grammar.marked a) = none a
none (grammar.assigned a) = none a
none (grammar.up u) = false
none (grammar.enter u) = false
none (grammar.behind t u) = false
none (grammar.build f a) = false
none _ = true

-- one node is kept
abbrev pub single : Grammar → Bool
single (grammar.keep l) = true
single (grammar.put f) = true
single (grammar.◌▸◌ a b) = (none a && single b) || (single a && none b)
single (grammar.◌//◌ a b) = single a && single b
single (grammar.marked a) = single a
single (grammar.assigned a) = single a
single (grammar.up u) = is_one (part_keeps u)
single (grammar.build f a) = true
single _ = false

-- whatever a grammar keeps may stand next, and what is wanted behind it passes a test
abbrev pub keeps : Grammar → (Wanted → Bool) → Wanted → Bool
keeps (grammar.keep l) next w = steps (leaf_fits l) next w
keeps (grammar.put f) next w = steps (flag_fits f) next w
keeps (grammar.◌▸◌ a b) next w = choice (is_whatever w) true (λ u. next w) (λ u. keeps a (keeps b next) w) (λ u. false)
keeps (grammar.◌//◌ a b) next w =
    choice (is_whatever w || (none a && none b)) (single a && single b) (λ u. next w) (λ u. steps (λ g. keeps a ends (one g done) && keeps b ends (one g done)) next w) (λ u. keeps a next w && keeps b next w)
keeps (grammar.many a) next w = choice (none a) true (λ u. next w) (λ u. repeats_then (keeps a) next w) (λ u. false)
keeps (grammar.unless grammar.nothing) next w = true
keeps (grammar.marked a) next w = keeps a next w
keeps (grammar.assigned a) next w = keeps a next w
keeps (grammar.up p) next w = passes (part_keeps p) next w
keeps (grammar.enter p) next w = passes (part_keeps p) next w
keeps (grammar.behind t p) next w = passes (part_keeps p) next w
keeps (grammar.build f a) next w = steps (λ g. keeps a ends (needs f g)) next w
keeps _ next w = next w
