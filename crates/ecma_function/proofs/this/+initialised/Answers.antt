use Rattle.std.proofs.Common.{◌≡◌, ◌∙◌, ◌+◌, ◌++◌, ◌∷◌, [], List, IfOk, true, false, drop, length, map, sym, ap, subst, arith}
use Rattle.ecma_kind.specs.declared.kind.Kind.{Kind}
use Rattle.ecma_tree.specs.Nodes.{node_of}
use Rattle.ecma_tree.specs.declared.node.Node.{Node, out-Node}
use Rattle.ecma_tree.proofs.Weights.{weight-child}
use Rattle.ecma_function_parts.proofs.Children.{as-long, child-was, mapping-all, mapping-next, rest-same}
use Rattle.ecma_function.specs.This.{initialised, initialised_over}
use Rattle.ecma_function.proofs.Setting.{class-stays, node-set}
use Rattle.ecma_function.proofs.this.+initialised.Goals as goal

pub returns-then-is_class : goal.returns-then-is_class
returns-then-is_class t c = class-stays c.args.name.now c.args.node (sym c.is_class.ensures ∙ c.if-is_class.true)

pub initialised-requires : goal.initialised-requires
initialised-requires t c =
    let was = child-was c.loop-i.children (out-Node c.args.node).children c.loop-i.i c.replace-child.result c.loop-i.invariant.same c.replace-child.ensures.item in
    let smaller = weight-child c.args.node c.replace-child.result c.loop-i.i was in
    (omega arith, tt)

pub loop-i-preserved : goal.loop-i-preserved
loop-i-preserved t c =
    let was = child-was c.loop-i.children (out-Node c.args.node).children c.loop-i.i c.replace-child.result c.loop-i.invariant.same c.replace-child.ensures.item in
    record {
      kind_is = c.loop-i.invariant.kind_is;
      same = ap (drop (c.loop-i.i + 1)) c.replace-child.ensures.rest ∙ rest-same c.loop-i.children (out-Node c.args.node).children c.loop-i.i _ c.loop-i.invariant.same;
      long = ap length c.replace-child.ensures.rest ∙ as-long c.loop-i.children (out-Node c.args.node).children c.loop-i.i _ c.loop-i.invariant.long;
      done = ap (λ (z : List Node). z ++ map (initialised c.args.name.now) (drop (c.loop-i.i + 1) (out-Node c.args.node).children))
          (c.in_ok-push.ensures.ok ∙ ap (λ (z : Node). c.loop-i.inside ++ z ∷ []) (c.in_ok-initialised.ensures {u = tt}))
          ∙ mapping-next (initialised c.args.name.now) (out-Node c.args.node).children c.loop-i.inside c.loop-i.i c.replace-child.result was c.loop-i.invariant.done;
    }

pub returns-then-is_call : goal.returns-then-is_call
returns-then-is_call t c =
    let all : length (out-Node c.args.node).children ≡ c.loop-i.i = omega arith in
    subst (λ (z : Node). IfOk c.setting_this.result (λ new. new ≡ z))
    (node-set c.args.name.now c.args.node true c.new-node.result c.loop-i.inside (sym c.is_class.ensures ∙ c.if-is_class.false) (sym c.if-is_call.true ∙ c.is_super_call-is_call.ensures)
    (c.new-node.ensures ∙ ap (λ (k : Kind). node_of (out-Node c.args.node).span k c.loop-i.inside) c.loop-i.invariant.kind_is) (mapping-all (initialised c.args.name.now) (out-Node c.args.node).children c.loop-i.inside c.loop-i.i all c.loop-i.invariant.done))
    c.setting_this.ensures

pub returns : goal.returns
returns t c =
    let all : length (out-Node c.args.node).children ≡ c.loop-i.i = omega arith in
    node-set c.args.name.now c.args.node false c.new-node.result c.loop-i.inside (sym c.is_class.ensures ∙ c.if-is_class.false) (sym c.if-is_call.false ∙ c.is_super_call-is_call.ensures)
    (c.new-node.ensures ∙ ap (λ (k : Kind). node_of (out-Node c.args.node).span k c.loop-i.inside) c.loop-i.invariant.kind_is) (mapping-all (initialised c.args.name.now) (out-Node c.args.node).children c.loop-i.inside c.loop-i.i all c.loop-i.invariant.done)
