use Rattle.std.proofs.Common.{◌≡◌, drop}
use Rattle.ecma_fits.specs.Counts.{are, is_named_import}
use Rattle.ecma_fits.proofs.counts.are_named_imports.Given as goal

-- what is left to be looked at decides
abbrev pub invariant-loop-item : goal.invariant-loop-item
invariant-loop-item l = are is_named_import (drop l.item-index l.specifiers) ≡ are is_named_import l.specifiers
