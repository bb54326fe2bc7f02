use Rattle.std.proofs.Common.{◌≡◌, ◌∙◌, ◌+◌, ◌++◌, List, IfOk, drop, length, refl, sym, ap, subst, arith}
use Rattle.ecma_tree.specs.declared.node.Node.{Node, out-Node}
use Rattle.ecma_tree.proofs.Weights.{weight-child}
use Rattle.ecma_function_parts.proofs.Children.{as-long, child-was, rest-same}
use Rattle.ecma_function_environment.proofs.Hoisted.{below-is, hoisted-all, hoisted-entered, hoisted-left, hoisted-next, hoisted_rest}
use Rattle.ecma_function_environment.proofs.hoisting.+hoist.Goals as goal

pub returns-then-not-is_entered : goal.returns-then-not-is_entered
returns-then-not-is_entered t c =
    subst (λ (z : List Node). IfOk c.left_as.result (λ nodes. nodes ≡ z))
    (hoisted-left c.args.flags.now c.args.names.now.entries c.args.node c.args.seat (sym c.is_entered.ensures ∙ c.if-not-is_entered.true)) c.left_as.ensures

pub loop-i-init : goal.loop-i-init
loop-i-init t c = record { kind_is = refl; key_is = c.in_ok-key.ensures {u = tt}; same = refl; long = refl; done = ap (λ (z : List Node). z ++ hoisted_rest c.args.flags.now c.args.names.now.entries c.args.node c.args.seat 0) c.new-inside.ensures }

pub hoist-requires : goal.hoist-requires
hoist-requires t c =
    let was = child-was c.loop-i.children (out-Node c.args.node).children c.loop-i.i c.replace-child.result c.loop-i.invariant.same c.replace-child.ensures.item in
    let smaller = weight-child c.args.node c.replace-child.result c.loop-i.i was in
    (omega arith, tt)

pub loop-i-preserved : goal.loop-i-preserved
loop-i-preserved t c =
    let was = child-was c.loop-i.children (out-Node c.args.node).children c.loop-i.i c.replace-child.result c.loop-i.invariant.same c.replace-child.ensures.item in
    record {
      kind_is = c.loop-i.invariant.kind_is;
      key_is = c.loop-i.invariant.key_is;
      same = ap (drop (c.loop-i.i + 1)) c.replace-child.ensures.rest ∙ rest-same c.loop-i.children (out-Node c.args.node).children c.loop-i.i _ c.loop-i.invariant.same;
      long = ap length c.replace-child.ensures.rest ∙ as-long c.loop-i.children (out-Node c.args.node).children c.loop-i.i _ c.loop-i.invariant.long;
      done = hoisted-next c.args.flags.now c.args.names.now.entries c.args.node c.args.seat c.loop-i.inside c.append.new.self c.in_ok-hoist.field-0 c.loop-i.i c.replace-child.result
          c.seat_in-below.result was
          (below-is c.args.flags.now c.args.seat c.args.node c.seat_in-below.result c.is_some-over.result _ _ c.loop-i.i c.seat_in-below.ensures c.is_some-over.ensures
          (c.in_ok-key.ensures {u = tt}) c.loop-i.invariant.kind_is)
          (c.in_ok-hoist.ensures {u = tt}) c.in_ok-append.ensures.ok c.loop-i.invariant.done;
    }

pub returns : goal.returns
returns t c =
    let all : length (out-Node c.args.node).children ≡ c.loop-i.i = omega arith in
    subst (λ (z : List Node). IfOk c.hoisted_by.result (λ nodes. nodes ≡ z))
    (hoisted-entered c.args.flags.now c.args.names.now.entries c.args.node c.args.seat _ _ c.loop-i.inside c.new-node.result
    (sym c.is_entered.ensures ∙ c.if-not-is_entered.false) c.loop-i.invariant.key_is c.new-node.ensures c.loop-i.invariant.kind_is
    (hoisted-all c.args.flags.now c.args.names.now.entries c.args.node c.args.seat c.loop-i.inside c.loop-i.i all c.loop-i.invariant.done))
    c.hoisted_by.ensures
