use Rattle.std.proofs.Common.{rules, ◌≡◌, ◌∙◌, ◌++◌, Bool, List, [], length, ap, sym, arith}
use Rattle.ecma_tree.specs.declared.node.Node.{out-Node}
use Rattle.ecma_tree.proofs.Weights.{weight-child}
use Rattle.ecma_scope.specs.declared.form.Sought.{Sought}
use Rattle.ecma_hygiene.specs.Ids.{Id, declared_by, declared_here, declared_ids, soughts_in}
use Rattle.ecma_hygiene.proofs.Seeking.{nothing-declared}
use Rattle.ecma_hygiene.proofs.Walking.{all_done, append-none, first, next}
use Rattle.ecma_hygiene.proofs.declared.+push_declared.Goals as goal

pub push_declared-requires : goal.push_declared-requires
push_declared-requires t c =
    let smaller = weight-child c.args.node.now c.at.result.now c.loop-i.i c.at.ensures in
    (omega arith, tt)

pub returns-then-is_empty : goal.returns-then-is_empty
returns-then-is_empty t c =
    let none : c.args.soughts.now ≡ [] = search rules in
    sym (ap (λ (ss : List Sought). c.args.ids.now ++ declared_ids c.args.node.now ss) none ∙ (ap (λ (ids : List Id). c.args.ids.now ++ ids) (nothing-declared c.args.node.now) ∙ append-none c.args.ids.now))

pub loop-i-init : goal.loop-i-init
loop-i-init t c =
    first (List Sought) Id declared_here soughts_in c.args.node.now c.args.soughts.now c.args.ids.now c.push_declared_by.new.ids
    (c.in_ok-push_declared_by.ensures {u = tt} ∙ ap (λ (b : Bool). c.args.ids.now ++ declared_by b (out-Node c.args.node.now).kind) c.is_declared.ensures)

pub loop-i-preserved : goal.loop-i-preserved
loop-i-preserved t c =
    next (List Sought) Id declared_here soughts_in (soughts_in c.args.soughts.now c.args.node.now) c.args.node.now c.loop-i.ids c.push_declared.new.ids (c.args.ids.now ++ declared_ids c.args.node.now c.args.soughts.now)
    c.loop-i.i c.at.result.now c.at.ensures c.loop-i.invariant
    (c.in_ok-push_declared.ensures {u = tt} ∙ ap (λ (ss : List Sought). c.loop-i.ids ++ declared_ids c.at.result.now ss) (c.in_ok-inner.ensures {u = tt}))

pub returns : goal.returns
returns t c =
    let all : length (out-Node c.args.node.now).children ≡ c.loop-i.i = omega arith in
    all_done (List Sought) Id declared_here soughts_in (soughts_in c.args.soughts.now c.args.node.now) c.args.node.now c.loop-i.ids (c.args.ids.now ++ declared_ids c.args.node.now c.args.soughts.now)
    c.loop-i.i all c.loop-i.invariant
