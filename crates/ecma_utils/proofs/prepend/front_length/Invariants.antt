use Rattle.std.proofs.Common.{◌≡◌, ◌+◌, ◌&&◌, drop}
use Rattle.ecma_utils.specs.Directives.{front_length, stands_in_front}
use Rattle.ecma_utils.proofs.prepend.front_length.Given as goal

-- all before stand in front, and those that are left decide
abbrev pub invariant-loop-i : goal.invariant-loop-i
invariant-loop-i g l =
    front_length (λ item. g.T.StmtLike.is_statement item && stands_in_front l.calls (g.T.StmtLike.node item)) l.items
    ≡ l.i + front_length (λ item. g.T.StmtLike.is_statement item && stands_in_front l.calls (g.T.StmtLike.node item)) (drop l.i l.items)
