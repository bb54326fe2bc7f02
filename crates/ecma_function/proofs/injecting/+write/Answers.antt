use Rattle.std.proofs.Common.{rules, ◌≡◌, ◌∙◌, ◌+◌, ◌<◌, drop, length, sym, ap, subst, arith, slice_set}
use Rattle.ecma_kind.specs.declared.kind.Kind.{Kind}
use Rattle.ecma_tree.specs.Nodes.{node_of}
use Rattle.ecma_tree.specs.declared.node.Node.{Node, out-Node}
use Rattle.ecma_tree.proofs.Weights.{weight-child}
use Rattle.ecma_function_parts.specs.Drawing.{count}
use Rattle.ecma_function_parts.proofs.Children.{as-long, child-was, rest-same}
use Rattle.ecma_function.specs.declared.injecting.Written.{Written}
use Rattle.ecma_function.specs.Injecting.{Outcome, is_named}
use Rattle.ecma_function.specs.Places.{place_in}
use Rattle.ecma_function.proofs.Underway.{Underway, entered-given, entered-left, entered-spent, entered-written, outside-is, own-given, own-spent, underway-all, underway-given, underway-left, underway-next-at, underway-spent-at, underway-start, underway-stops-at}
use Rattle.ecma_function.proofs.injecting.+write.Goals as goal

pub returns-then-is_outside-clause-written : goal.returns-then-is_outside-clause-written
returns-then-is_outside-clause-written t c =
    c.in_ok-as_it_is.ensures {u = tt}
    ∙ ap (λ (o : Outcome). o.written) (sym (outside-is c.args.exprs.now c.args.node c.args.place c.args.session.now.left (sym c.is_outside.ensures ∙ c.if-is_outside.true)))

pub returns-in_err-ctxt-clause-spent : goal.returns-in_err-ctxt-clause-spent
returns-in_err-ctxt-clause-spent t c = λ spent.
    own-spent c.args.exprs.now c.args.node c.args.place c.args.session.now (sym c.is_outside.ensures ∙ c.if-is_outside.false)
    c.is_named.result (c.is_named.ensures ∙ ap is_named c.role_of-role.ensures) (c.draw_if.ensures.spent (search rules))

pub returns-in_err-ctxt-clause-session : goal.returns-in_err-ctxt-clause-session
returns-in_err-ctxt-clause-session t c =
    own-given c.args.exprs.now c.args.node c.args.place c.args.session.now (sym c.is_outside.ensures ∙ c.if-is_outside.false)
    c.is_named.result (c.is_named.ensures ∙ ap is_named c.role_of-role.ensures) c.draw_if.new.session c.draw_if.ensures.session

pub write-requires : goal.write-requires
write-requires t c =
    let was = child-was c.loop-i.children (out-Node c.args.node).children c.loop-i.i c.replace-child.result c.loop-i.invariant.same c.replace-child.ensures.item in
    let smaller = weight-child c.args.node c.replace-child.result c.loop-i.i was in
    (omega arith, tt)

pub returns-in_err-more-clause-spent : goal.returns-in_err-more-clause-spent
returns-in_err-more-clause-spent t c = λ spent.
    let was = child-was c.loop-i.children (out-Node c.args.node).children c.loop-i.i c.replace-child.result c.loop-i.invariant.same c.replace-child.ensures.item in
    entered-spent c.args.exprs.now c.args.node c.args.place c.args.session.now (sym c.is_outside.ensures ∙ c.if-is_outside.false)
    c.is_named.result (c.is_named.ensures ∙ ap is_named c.role_of-role.ensures) c.draw_if.new.session (c.in_ok-ctxt.ensures.left) c.draw_if.ensures.session
    (underway-spent-at c.args.exprs.now c.args.place (out-Node c.args.node).kind (out-Node c.args.node).children c.draw_if.new.session c.loop-i.session c.loop-i.inside c.loop-i.i
    c.loop-i.invariant.so c.replace-child.result was c.place_in.result (c.place_in.ensures ∙ ap (λ (k : Kind). place_in c.args.place k c.loop-i.i) c.loop-i.invariant.kind_is) (c.write.ensures.spent (search rules)))

pub returns-in_err-more-clause-session : goal.returns-in_err-more-clause-session
returns-in_err-more-clause-session t c =
    let was = child-was c.loop-i.children (out-Node c.args.node).children c.loop-i.i c.replace-child.result c.loop-i.invariant.same c.replace-child.ensures.item in
    entered-given c.args.exprs.now c.args.node c.args.place c.args.session.now (sym c.is_outside.ensures ∙ c.if-is_outside.false)
    c.is_named.result (c.is_named.ensures ∙ ap is_named c.role_of-role.ensures) c.draw_if.new.session (c.in_ok-ctxt.ensures.left) c.draw_if.ensures.session
    c.write.new.session
    (underway-stops-at c.args.exprs.now c.args.place (out-Node c.args.node).kind (out-Node c.args.node).children c.draw_if.new.session c.loop-i.session c.loop-i.inside c.loop-i.i
    c.loop-i.invariant.so c.replace-child.result was c.place_in.result (c.place_in.ensures ∙ ap (λ (k : Kind). place_in c.args.place k c.loop-i.i) c.loop-i.invariant.kind_is) c.write.new.session c.write.ensures.session)

pub returns-in_err-inside-clause-session : goal.returns-in_err-inside-clause-session
returns-in_err-inside-clause-session t c =
    let was = child-was c.loop-i.children (out-Node c.args.node).children c.loop-i.i c.replace-child.result c.loop-i.invariant.same c.replace-child.ensures.item in
    entered-given c.args.exprs.now c.args.node c.args.place c.args.session.now (sym c.is_outside.ensures ∙ c.if-is_outside.false)
    c.is_named.result (c.is_named.ensures ∙ ap is_named c.role_of-role.ensures) c.draw_if.new.session (c.in_ok-ctxt.ensures.left) c.draw_if.ensures.session
    c.write.new.session
    (underway-stops-at c.args.exprs.now c.args.place (out-Node c.args.node).kind (out-Node c.args.node).children c.draw_if.new.session c.loop-i.session c.loop-i.inside c.loop-i.i
    c.loop-i.invariant.so c.replace-child.result was c.place_in.result (c.place_in.ensures ∙ ap (λ (k : Kind). place_in c.args.place k c.loop-i.i) c.loop-i.invariant.kind_is) c.write.new.session c.write.ensures.session)

pub loop-i-preserved : goal.loop-i-preserved
loop-i-preserved t c =
    let was = child-was c.loop-i.children (out-Node c.args.node).children c.loop-i.i c.replace-child.result c.loop-i.invariant.same c.replace-child.ensures.item in
    record {
      kind_is = c.loop-i.invariant.kind_is;
      same = ap (drop (c.loop-i.i + 1)) c.replace-child.ensures.rest ∙ rest-same c.loop-i.children (out-Node c.args.node).children c.loop-i.i _ c.loop-i.invariant.same;
      long = ap length c.replace-child.ensures.rest ∙ as-long c.loop-i.children (out-Node c.args.node).children c.loop-i.i _ c.loop-i.invariant.long;
      so = subst (λ (w : Written). Underway c.args.exprs.now c.args.place (out-Node c.args.node).kind (out-Node c.args.node).children c.draw_if.new.session c.write.new.session w (c.loop-i.i + 1))
          (sym (c.in_ok-inside.ensures {u = tt}))
          (underway-next-at c.args.exprs.now c.args.place (out-Node c.args.node).kind (out-Node c.args.node).children c.draw_if.new.session c.loop-i.session c.loop-i.inside c.loop-i.i
          c.loop-i.invariant.so c.replace-child.result was c.place_in.result (c.place_in.ensures ∙ ap (λ (k : Kind). place_in c.args.place k c.loop-i.i) c.loop-i.invariant.kind_is) c.write.new.session c.in_ok-more.more (c.in_ok-more.ensures.written)
          (c.in_ok-more.ensures.left) c.write.ensures.session);
    }

pub returns-in_err-write_as-clause-session : goal.returns-in_err-write_as-clause-session
returns-in_err-write_as-clause-session t c =
    entered-given c.args.exprs.now c.args.node c.args.place c.args.session.now (sym c.is_outside.ensures ∙ c.if-is_outside.false)
    c.is_named.result (c.is_named.ensures ∙ ap is_named c.role_of-role.ensures) c.draw_if.new.session (c.in_ok-ctxt.ensures.left) c.draw_if.ensures.session
    c.loop-i.session
    (underway-given c.args.exprs.now c.args.place (out-Node c.args.node).kind (out-Node c.args.node).children c.draw_if.new.session c.loop-i.session c.loop-i.inside c.loop-i.i c.loop-i.invariant.so)

pub returns-clause-written : goal.returns-clause-written
returns-clause-written t c =
    let all : length (out-Node c.args.node).children ≡ c.loop-i.i = omega arith in
    c.in_ok-write_as.ensures {u = tt}
    ∙ entered-written c.args.exprs.now c.args.node c.args.place c.args.session.now (sym c.is_outside.ensures ∙ c.if-is_outside.false)
    c.is_named.result (c.is_named.ensures ∙ ap is_named c.role_of-role.ensures) c.draw_if.new.session (c.in_ok-ctxt.ensures.left) c.draw_if.ensures.session
    c.role_of-role.result c.in_ok-ctxt.ctxt c.new-node.result c.loop-i.inside c.role_of-role.ensures (c.in_ok-ctxt.ensures.ctxt) (c.new-node.ensures ∙ ap (λ (k : Kind). node_of (out-Node c.args.node).span k c.loop-i.inside.nodes) c.loop-i.invariant.kind_is)
    (underway-all c.args.exprs.now c.args.place (out-Node c.args.node).kind (out-Node c.args.node).children c.draw_if.new.session c.loop-i.session c.loop-i.inside c.loop-i.i c.loop-i.invariant.so all)

pub returns-clause-left : goal.returns-clause-left
returns-clause-left t c =
    let all : length (out-Node c.args.node).children ≡ c.loop-i.i = omega arith in
    entered-left c.args.exprs.now c.args.node c.args.place c.args.session.now (sym c.is_outside.ensures ∙ c.if-is_outside.false)
    c.is_named.result (c.is_named.ensures ∙ ap is_named c.role_of-role.ensures) c.draw_if.new.session (c.in_ok-ctxt.ensures.left) c.draw_if.ensures.session
    c.loop-i.session
    (underway-left c.args.exprs.now c.args.place (out-Node c.args.node).kind (out-Node c.args.node).children c.draw_if.new.session c.loop-i.session c.loop-i.inside c.loop-i.i c.loop-i.invariant.so all)

pub returns-clause-session : goal.returns-clause-session
returns-clause-session t c =
    entered-given c.args.exprs.now c.args.node c.args.place c.args.session.now (sym c.is_outside.ensures ∙ c.if-is_outside.false)
    c.is_named.result (c.is_named.ensures ∙ ap is_named c.role_of-role.ensures) c.draw_if.new.session (c.in_ok-ctxt.ensures.left) c.draw_if.ensures.session
    c.loop-i.session
    (underway-given c.args.exprs.now c.args.place (out-Node c.args.node).kind (out-Node c.args.node).children c.draw_if.new.session c.loop-i.session c.loop-i.inside c.loop-i.i c.loop-i.invariant.so)
