use Rattle.std.proofs.Common.{◌≡◌, drop}
use Rattle.ecma_elide.specs.Rules.{all_go}
use Rattle.ecma_elide.specs.Sets.{known_by}
use Rattle.ecma_elide.proofs.going.all_go.Given as goal

-- the specifiers that are left decide
abbrev pub invariant-loop-specifier : goal.invariant-loop-specifier
invariant-loop-specifier l = all_go (known_by l.names) l.seat (drop l.specifier-index l.specifiers) ≡ all_go (known_by l.names) l.seat l.specifiers
