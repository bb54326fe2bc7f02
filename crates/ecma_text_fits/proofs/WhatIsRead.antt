-- What is read fits, clause by clause.
use Rattle.ecma_text_sorts.specs.Laws.{ReadModulesAreSorted}
use Rattle.ecma_text_fits.specs.Laws.{ReadLeavesAreSpelled, ReadTreesKeepRules, ReadTargetsAreNoStrays, ReadTreesHaveTheirRoles, ReadBranchesTakeTheirElse, ReadLinksAreNotLoose, ReadMembersAreNotMisread, ReadNodesAreFull, WhatIsReadFits}

pub read_fits : ReadModulesAreSorted → ReadNodesAreFull → ReadBranchesTakeTheirElse → ReadLinksAreNotLoose → ReadMembersAreNotMisread → ReadTreesHaveTheirRoles → ReadTargetsAreNoStrays → ReadTreesKeepRules → ReadLeavesAreSpelled → WhatIsReadFits
read_fits sorted full branches links members roles targets keeps spelled text mode bound tree utf8 small e =
    let rules = keeps text mode bound tree e in
    record {
      sorted = sorted text mode bound tree e;
      counts = full text mode bound tree e;
      branches = branches text mode bound tree e;
      chains = links text mode bound tree e;
      members = members text mode bound tree e;
      roles = roles text mode bound tree e;
      targets = targets text mode bound tree e;
      rules = rules.rules;
      constructors = rules.constructors;
      leaves = spelled text mode bound tree utf8 small e;
      strays = rules.strays;
    }
