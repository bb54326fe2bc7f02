use Rattle.std.proofs.Common.{◌≡◌, ◌∙◌, ℕ, ◌+◌, ◌++◌, IfOk, true, false, List, [], ◌∷◌, length, sym, ap, subst, arith}
use Rattle.ecma_kind.specs.declared.kind.Kind.TheVariants as kind
use Rattle.ecma_tree.specs.Nodes.{node_of}
use Rattle.ecma_tree.specs.Sorted.{is_list}
use Rattle.ecma_tree.specs.declared.node.Node.{Node, out-Node}
use Rattle.ecma_tree.specs.declared.node.Node.TheViews.{roll-out-Node}
use Rattle.ecma_tree.proofs.Weights.{weight-child}
use Rattle.ecma_rewriting.specs.Laws as law
use Rattle.ecma_rewriting.specs.Rewriting.{becomes}
use Rattle.ecma_rewriter.specs.Seats.{Seat, seat}
use Rattle.ecma_rewriter.proofs.Taken.{taken-part}
use Rattle.ecma_rewriter.proofs.Walking.{Along, Over, along-next, left-becomes, list-becomes, over-all, over-next, written-becomes}
use Rattle.ecma_rewriter.proofs.walk.+rewriting.Goals as goal

-- ---- the items of a list

pub rewrite_items-rewrite_item-requires : goal.rewrite_items-rewrite_item-requires
rewrite_items-rewrite_item-requires g t c κs within =
    let was = taken-part (out-Node c.args.list).children c.loop-i.parts c.loop-i.i c.replace-item.result c.loop-i.invariant.0.taken c.replace-item.ensures.item in
    let smaller = weight-child c.args.list c.replace-item.result c.loop-i.i was in
    (omega arith, (within.0, (within.1.0, (within.1.1.0, (within.1.1.1.0, (within.1.1.1.1, c.loop-i.invariant.1))))))

pub rewrite_items-loop-i-preserved : goal.rewrite_items-loop-i-preserved
rewrite_items-loop-i-preserved g t c =
    let r = g.R.Rewriter.rewriting c.args.r.now in (
      subst (λ (ps : List Node). Along r c.args.place c.args.around.now (out-Node c.args.list).children ps c.rewrite_item.new.own c.rewrite_item.new.out (c.loop-i.i + 1)) (sym c.replace-item.ensures.rest)
          (along-next r c.args.place c.args.around.now (out-Node c.args.list).children c.loop-i.parts c.loop-i.own c.rewrite_item.new.own c.loop-i.out c.rewrite_item.new.out c.loop-i.i c.replace-item.result _
          c.loop-i.invariant.0 c.replace-item.ensures.item c.in_ok-rewrite_item.ensures.out c.in_ok-rewrite_item.ensures.seat),
      c.in_ok-rewrite_item.ensures.moves ∙ c.loop-i.invariant.1,
    )

-- ---- the children of a node

pub rewrite_over-rewrite-requires : goal.rewrite_over-rewrite-requires
rewrite_over-rewrite-requires g t c κs within =
    let was = taken-part (out-Node c.args.node).children c.loop-i.parts c.loop-i.i c.replace-child.result c.loop-i.invariant.taken c.replace-child.ensures.item in
    let smaller = weight-child c.args.node c.replace-child.result c.loop-i.i was in
    (omega arith, within)

pub rewrite_over-loop-i-preserved : goal.rewrite_over-loop-i-preserved
rewrite_over-loop-i-preserved g t c =
    let r = g.R.Rewriter.rewriting c.args.r.now in
    let seats : ℕ → Seat g.row.R-Place.Denot g.row.R-Around.Denot = λ i. seat (g.R.Rewriter.child_place c.args.r.now c.args.by c.args.place (out-Node c.args.node).kind i) c.args.inside.now in
    let is : c.push.new.self ≡ c.loop-i.lists ++ becomes r (seats c.loop-i.i) c.replace-child.result ∷ [] =
    c.in_ok-push.ensures.ok
    ∙ ap (λ z. c.loop-i.lists ++ z ∷ [])
    ((c.in_ok-rewrite.ensures {u = tt}) ∙ ap (λ q. becomes r (seat q c.args.inside.now) c.replace-child.result)
    (c.child_place-below.ensures
    ∙ ap (λ (n : Node). g.R.Rewriter.child_place c.args.r.now c.args.by c.args.place (out-Node n).kind c.loop-i.i) (roll-out-Node c.args.node))) in
    subst (λ (ps : List Node). Over r seats (out-Node c.args.node).children ps c.push.new.self (c.loop-i.i + 1)) (sym c.replace-child.ensures.rest)
    (over-next r seats (out-Node c.args.node).children c.loop-i.parts c.loop-i.lists c.push.new.self c.loop-i.i c.replace-child.result _ c.loop-i.invariant c.replace-child.ensures.item is)

pub rewrite_over-returns : goal.rewrite_over-returns
rewrite_over-returns g t c =
    let r = g.R.Rewriter.rewriting c.args.r.now in
    let seats : ℕ → Seat g.row.R-Place.Denot g.row.R-Around.Denot = λ i. seat (g.R.Rewriter.child_place c.args.r.now c.args.by c.args.place (out-Node c.args.node).kind i) c.args.inside.now in
    let all : length c.loop-i.parts ≡ c.loop-i.i = omega arith in
    subst (λ (ls : List (List Node)). IfOk c.write.result (λ nodes. nodes
    ≡ g.R.Rewriter.written c.args.r.now c.args.by (seat c.args.place c.args.around.now) (out-Node c.args.node).span (out-Node c.args.node).kind ls))
    (over-all r seats (out-Node c.args.node).children c.loop-i.parts c.loop-i.lists c.loop-i.i c.loop-i.invariant all)
    (subst (λ (n : Node). IfOk c.write.result (λ nodes. nodes
    ≡ g.R.Rewriter.written c.args.r.now c.args.by (seat c.args.place c.args.around.now) (out-Node n).span (out-Node n).kind c.loop-i.lists))
    (roll-out-Node c.args.node) c.write.ensures)

-- ---- a node

pub rewrite-returns-then-is_list : goal.rewrite-returns-then-is_list
rewrite-returns-then-is_list g t c =
    let r = g.R.Rewriter.rewriting c.args.r.now in
    let s = seat c.args.place c.args.around.now in
    let list : is_list (out-Node c.args.node).kind ≡ true = sym c.is_list.ensures ∙ c.if-is_list.true in
    (c.in_ok-from_array.ensures {u = tt})
    ∙ ap (λ (n : Node). n ∷ []) (c.new.ensures ∙ ap (node_of (out-Node c.args.node).span kind.List) (c.in_ok-items.ensures {u = tt}))
    ∙ sym (list-becomes r s c.args.node list)

pub rewrite-returns-in_default : goal.rewrite-returns-in_default
rewrite-returns-in_default g t c =
    let r = g.R.Rewriter.rewriting c.args.r.now in
    let other : is_list (out-Node c.args.node).kind ≡ false = sym c.is_list.ensures ∙ c.if-is_list.false in
    (c.in_ok-from_array-2.ensures {u = tt})
    ∙ left-becomes r c.args.place c.args.around.now c.args.node (g.R.Rewriter.form c.args.r.now) (g.met.R.Rewriter.leaves c.args.r.now) other
    (sym c.in_default.is ∙ (c.in_ok-by.ensures {u = tt}))

pub rewrite-returns : goal.rewrite-returns
rewrite-returns g t c =
    let steps = g.R.Rewriter in
    let laws = g.met.R.Rewriter in
    let n = c.args.node in
    let r = steps.rewriting c.args.r.now in
    let s = seat c.args.place c.args.around.now in
    let by = c.in-Some.by in
    let other : is_list (out-Node n).kind ≡ false = sym c.is_list.ensures ∙ c.if-is_list.false in
    subst (λ (nodes : List Node). IfOk c.rewrite_over.result (λ made. made ≡ nodes))
    (ap (λ around. steps.written c.args.r.now by s (out-Node n).span (out-Node n).kind
    (law.children r (λ i. seat (steps.child_place c.args.r.now by c.args.place (out-Node n).kind i) around) 0 (out-Node n).children)) c.around_or.ensures
    ∙ written-becomes r c.args.place c.args.around.now n (steps.form c.args.r.now) (steps.written c.args.r.now) (steps.child_place c.args.r.now) (steps.inside c.args.r.now) by c.in_ok-own.own
    (laws.writes c.args.r.now) (laws.seats c.args.r.now) other (sym c.in-Some.is ∙ (c.in_ok-by.ensures {u = tt})) (c.in_ok-own.ensures {u = tt}))
    c.rewrite_over.ensures
