use Rattle.std.proofs.Common.{◌≡◌, ◌&&◌, drop, bytes_eq}
use Rattle.std.specs.List.{list_any}
use Rattle.ecma_merging.specs.Merging.{differ}
use Rattle.ecma_merging.proofs.list.is_mixed.Given as goal

-- the declarations that are left decide
abbrev pub invariant-loop-other : goal.invariant-loop-other
invariant-loop-other l =
    list_any (λ e. bytes_eq e.name l.declared.name && differ e.is_exported l.declared.is_exported) (drop l.other-index l.earlier)
    ≡ list_any (λ e. bytes_eq e.name l.declared.name && differ e.is_exported l.declared.is_exported) l.earlier
