use Rattle.ecma_text_fits.proofs.WhatIsRead.{read_fits}
use Rattle.ecma_text_fits.proofs.what_is_read_fits.Goals as goal

pub returns : goal.returns
returns c =
    read_fits c.modules_that_are_read_are_sorted.ensures c.nodes_that_are_read_are_full.ensures c.branches_that_are_read_take_their_else.ensures c.links_that_are_read_are_not_loose.ensures
    c.members_that_are_read_are_not_misread.ensures c.trees_that_are_read_have_their_roles.ensures c.targets_that_are_read_are_no_strays.ensures c.trees_that_are_read_keep_rules.ensures c.leaves_that_are_read_are_spelled.ensures
