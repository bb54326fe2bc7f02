-- The layout of a module whose literals lack source texts is that of the module with them, which is read again.
use Rattle.std.proofs.Common.{ℕ, List, subst}
use Rattle.ecma_tree.specs.declared.node.Node.{Node}
use Rattle.ecma_plain.specs.Texts.{IsPlainModule}
use Rattle.ecma_round_trip.specs.Laws.{IsReadAgain, WhatFitsIsReadAgain}
use Rattle.ecma_round_trip_literals.specs.Laws.{WhatFitsAndIsPlainIsReadAgain}
use Rattle.ecma_round_trip_literals.specs.Sources.{with_sources}
use Rattle.ecma_round_trip_literals.proofs.Layouts.{sources_do_not_matter_to_layouts}
use Rattle.ecma_round_trip_literals.proofs.PlainTrees.{plain_with_sources}

pub what_fits_and_is_plain_is_read_again : WhatFitsIsReadAgain → WhatFitsAndIsPlainIsReadAgain
what_fits_and_is_plain_is_read_again reads_again keep_assign tree fits is =
    subst (λ (text : List ℕ). (again : Node) × IsPlainModule keep_assign text again × IsReadAgain (with_sources tree) again)
    (sources_do_not_matter_to_layouts tree)
    (reads_again keep_assign (with_sources tree) (plain_with_sources keep_assign tree fits is))
