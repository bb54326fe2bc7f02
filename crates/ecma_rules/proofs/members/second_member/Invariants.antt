use Rattle.std.proofs.Common.{◌≡◌, drop, filter}
use Rattle.ecma_tree.specs.declared.node.Node.{out-Node}
use Rattle.ecma_rules.specs.Members.{is_full_constructor, second_of}
use Rattle.ecma_rules.proofs.Seconds.{second_behind}
use Rattle.ecma_rules.proofs.members.second_member.Given as goal

-- the members that are left decide
abbrev pub invariant-loop-i : goal.invariant-loop-i
invariant-loop-i l = second_behind l.is_seen (filter is_full_constructor (drop l.i (out-Node l.list).children)) ≡ second_of (filter is_full_constructor (out-Node l.list).children)
