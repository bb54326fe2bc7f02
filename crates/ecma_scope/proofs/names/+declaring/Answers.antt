use Rattle.std.proofs.Common.{◌≡◌, ◌∙◌, ◌++◌, ap, length, Option, arith}
use Rattle.ecma_tree.specs.declared.node.Node.{out-Node}
use Rattle.ecma_scope.specs.declared.form.Sought.{Sought}
use Rattle.ecma_walks.specs.Listing.{listed_within}
use Rattle.ecma_scope.specs.declared.form.Located.{Located}
use Rattle.ecma_scope.specs.Located.{located}
use Rattle.ecma_scope.proofs.Naming.{names-first, names-next, names-all}
use Rattle.ecma_scope.proofs.names.+declaring.Goals as goal

pub push_declarations-loop-i-init : goal.push_declarations-loop-i-init
push_declarations-loop-i-init t c = names-first c.args.sought c.args.node.now c.args.names.now c.push_here.new.names (c.in_ok-push_here.ensures {u = tt})

pub push_declarations-loop-i-preserved : goal.push_declarations-loop-i-preserved
push_declarations-loop-i-preserved t c =
    names-next c.args.sought c.args.node.now c.args.names.now c.loop-i.names c.push_found.new.names c.loop-i.i c.at.result.now c.at.ensures c.loop-i.invariant
    (c.in_ok-push_found.ensures {u = tt} ∙ ap (λ (s : Option Sought). c.loop-i.names ++ listed_within Sought Located s (located c.at.result.now)) c.sought_in.ensures)

pub push_declarations-returns : goal.push_declarations-returns
push_declarations-returns t c =
    let all : length (out-Node c.args.node.now).children ≡ c.loop-i.i = omega arith in
    names-all c.args.sought c.args.node.now c.args.names.now c.loop-i.names c.loop-i.i all c.loop-i.invariant
