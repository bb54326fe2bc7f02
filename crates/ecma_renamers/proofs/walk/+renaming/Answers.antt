use Rattle.std.proofs.Common.{◌≡◌, ◌∙◌, length, ap, sym, arith}
use Rattle.ecma_kind.specs.declared.kind.Kind.{Kind}
use Rattle.ecma_tree.specs.declared.node.Node.{Node-F, Node, out-Node}
use Rattle.ecma_tree.proofs.Weights.{weight-child}
use Rattle.ecma_renamers.specs.Renamers.{renaming_of}
use Rattle.ecma_renamers.specs.Renaming.{renamed_at, spot_in}
use Rattle.ecma_renamers.proofs.Writing.{child-was, front-all, front-next, front-out, front-start, renamed-all, renamed-kept, same-length}
use Rattle.ecma_renamers.proofs.walk.+renaming.Goals as goal

pub rename_children-loop-i-init : goal.rename_children-loop-i-init
rename_children-loop-i-init t c = front-start (renaming_of c.args.rule.now) c.args.spot c.args.node.now

pub rename_children-get_mut-requires : goal.rename_children-get_mut-requires
rename_children-get_mut-requires t c =
    let same = same-length (renaming_of c.args.rule.now) c.args.spot c.args.node.now c.loop-i.node c.loop-i.i c.loop-i.invariant in
    omega arith

pub rename_children-rename-requires : goal.rename_children-rename-requires
rename_children-rename-requires t c =
    let was = child-was (renaming_of c.args.rule.now) c.args.spot c.args.node.now c.loop-i.node c.loop-i.i c.get_mut.result.now c.loop-i.invariant c.get_mut.ensures.value in
    let smaller = weight-child c.args.node.now c.get_mut.result.now c.loop-i.i was in
    (omega arith, tt)

pub rename_children-loop-i-preserved : goal.rename_children-loop-i-preserved
rename_children-loop-i-preserved t c =
    let kinds : (out-Node c.loop-i.node).kind ≡ (out-Node c.args.node.now).kind =
    ap (λ (z : Node-F Node). z.kind) (front-out (renaming_of c.args.rule.now) c.args.spot c.args.node.now c.loop-i.node c.loop-i.i c.loop-i.invariant) in
    let spot : c.spot_in-inside.result ≡ spot_in (renaming_of c.args.rule.now) c.args.spot (out-Node c.args.node.now).kind c.loop-i.i =
    c.spot_in-inside.ensures ∙ ap (λ (k : Kind). spot_in (renaming_of c.args.rule.now) c.args.spot k c.loop-i.i) kinds in
    front-next (renaming_of c.args.rule.now) c.args.spot c.args.node.now c.loop-i.node c.loop-i.i c.get_mut.result.now c.rename.new.node c.loop-i.invariant c.get_mut.ensures.value
    (c.in_ok-rename.ensures {u = tt} ∙ ap (renamed_at (renaming_of c.args.rule.now) c.get_mut.result.now) spot)

pub rename_children-returns : goal.rename_children-returns
rename_children-returns t c =
    let all : length (out-Node c.args.node.now).children ≡ c.loop-i.i = omega arith in
    front-all (renaming_of c.args.rule.now) c.args.spot c.args.node.now c.loop-i.node c.loop-i.i c.loop-i.invariant all

pub rename-returns-then-is_kept : goal.rename-returns-then-is_kept
rename-returns-then-is_kept t c = renamed-kept (renaming_of c.args.rule.now) c.args.spot c.args.node.now (sym c.is_kept.ensures ∙ c.if-is_kept.true)

pub rename-returns : goal.rename-returns
rename-returns t c =
    renamed-all (renaming_of c.args.rule.now) c.args.spot c.args.node.now c.rename_children.new.node c.set_ident.new.node c.expand.new.node c.in_ok-new.new c.in_ok-old.old
    (sym c.is_kept.ensures ∙ c.if-is_kept.false) (c.in_ok-rename_children.ensures {u = tt}) (c.in_ok-new.ensures {u = tt}) c.set_ident.ensures (c.in_ok-old.ensures {u = tt})
    (c.in_ok-expand.ensures {u = tt})
