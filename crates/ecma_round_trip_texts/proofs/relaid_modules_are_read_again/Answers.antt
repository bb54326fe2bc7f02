use Rattle.ecma_round_trip_texts.proofs.Relaid.{relaid_modules}
use Rattle.ecma_round_trip_texts.proofs.relaid_modules_are_read_again.Goals as goal

pub returns : goal.returns
returns c = relaid_modules (record {
  reads = c.trees_that_are_read_are_read.ensures;
  taken = c.plain_trees_that_are_read_are_taken.ensures;
  items = c.plain_modules_that_are_read_have_plain_items.ensures;
  bodies = c.plain_functions_that_are_read_have_bodies.ensures;
  names = c.plain_names_that_are_read_are_not_this.ensures;
  usual = c.functions_are_usual_by_tests.ensures;
  again = c.what_fits_is_read_again.ensures;
})
