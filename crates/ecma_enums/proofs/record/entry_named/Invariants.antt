use Rattle.std.proofs.Common.{◌≡◌, drop}
use Rattle.std.specs.Option.{option_copied}
use Rattle.ecma_enums.specs.Records.{entry_behind, entry_named}
use Rattle.ecma_enums.proofs.record.entry_named.Given as goal

-- the entries that are left may still count
abbrev pub invariant-loop-entry : goal.invariant-loop-entry
invariant-loop-entry l = entry_behind (option_copied l.found) l.sym l.ctxt l.name (drop l.entry-index l.entries) ≡ entry_named l.sym l.ctxt l.name l.entries
