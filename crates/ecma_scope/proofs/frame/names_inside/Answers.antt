use Rattle.std.proofs.Common.{◌≡◌, IfOk, List, ℕ, Bool, Option, length, ◌+◌, ◌-◌, sym, subst, arith}
use Rattle.ecma_scope.specs.Located.{located_names}
use Rattle.ecma_scope.specs.Indexed.{states_of}
use Rattle.ecma_scope.proofs.Framing.{innermost-last-is, innermost-none}
use Rattle.ecma_scope.proofs.frame.names_inside.Goals as goal

pub returns-then-count-eq0 : goal.returns-then-count-eq0
returns-then-count-eq0 c =
    let none : length c.args.frames.now ≡ 0 = omega arith in
    subst (λ (f : List ℕ → Option Bool). IfOk c.own_names.result (λ own. own ≡ located_names c.args.role f c.args.node.now))
    (sym (innermost-none c.args.frames.now (states_of c.empty_index-none.result) none c.empty_index-none.ensures)) c.own_names.ensures

pub returns : goal.returns
returns c =
    let last : length c.args.frames.now ≡ (c.len-count.result - 1) + 1 = omega arith in
    subst (λ (f : List ℕ → Option Bool). IfOk c.own_names-2.result (λ own. own ≡ located_names c.args.role f c.args.node.now))
    (sym (innermost-last-is c.args.frames.now (c.len-count.result - 1) c.at.result.now c.at.ensures last)) c.own_names-2.ensures
