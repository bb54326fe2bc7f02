use Rattle.std.proofs.Common.{◌≡◌, ◌++◌, drop}
use Rattle.ecma_lower_enums.specs.Names.{specifier_names}
use Rattle.ecma_lower_enums.proofs.names.push_specifiers.Given as goal

-- those that are there, and those of the specifiers that are left
abbrev pub invariant-loop-node : goal.invariant-loop-node
invariant-loop-node l = l.names ++ specifier_names (drop l.node-index l.nodes) ≡ l.fn.names ++ specifier_names l.nodes
