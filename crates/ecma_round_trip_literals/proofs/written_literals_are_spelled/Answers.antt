use Rattle.ecma_round_trip_literals.proofs.Numerals as numerals
use Rattle.ecma_round_trip_literals.proofs.Spelled.{writable_literals_keep_spelling}
use Rattle.ecma_round_trip_literals.proofs.Texts as made
use Rattle.ecma_round_trip_literals.proofs.written_literals_are_spelled.Goals as goal

pub returns-clause-big_ints : goal.returns-clause-big_ints
returns-clause-big_ints c = numerals.written_big_ints_are_spelled

pub returns-clause-numbers : goal.returns-clause-numbers
returns-clause-numbers c = numerals.written_numbers_are_spelled

pub returns-clause-texts : goal.returns-clause-texts
returns-clause-texts c = made.written_texts_are_spelled

pub returns-clause-kinds : goal.returns-clause-kinds
returns-clause-kinds c = writable_literals_keep_spelling
