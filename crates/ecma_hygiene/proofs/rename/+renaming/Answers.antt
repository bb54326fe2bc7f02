use Rattle.std.proofs.Common.{◌≡◌, ◌∙◌, Bool, length, ap, arith}
use Rattle.ecma_kind.specs.declared.kind.Kind.{Kind}
use Rattle.ecma_tree.specs.declared.node.Node.{Node-F, Node, out-Node}
use Rattle.ecma_tree.proofs.Weights.{weight-child}
use Rattle.ecma_scope.proofs.Opening.{same-role}
use Rattle.ecma_hygiene.specs.Kept.{texts_in}
use Rattle.ecma_hygiene.specs.Renamed.{kind_with_text, renamed_at, spot_in}
use Rattle.ecma_hygiene.proofs.Writing.{child-was, front-all, front-next, front-out, front-start, renamed-all, same-length}
use Rattle.ecma_hygiene.proofs.rename.+renaming.Goals as goal

pub rename_children-loop-i-init : goal.rename_children-loop-i-init
rename_children-loop-i-init t c = front-start (texts_in c.args.renaming.now.texts) c.args.stands c.args.node.now

pub rename_children-get_mut-requires : goal.rename_children-get_mut-requires
rename_children-get_mut-requires t c =
    let same = same-length (texts_in c.args.renaming.now.texts) c.args.stands c.args.node.now c.loop-i.node c.loop-i.i c.loop-i.invariant in
    omega arith

pub rename_children-rename-requires : goal.rename_children-rename-requires
rename_children-rename-requires t c =
    let was = child-was (texts_in c.args.renaming.now.texts) c.args.stands c.args.node.now c.loop-i.node c.loop-i.i c.get_mut.result.now c.loop-i.invariant c.get_mut.ensures.value in
    let smaller = weight-child c.args.node.now c.get_mut.result.now c.loop-i.i was in
    (omega arith, tt)

pub rename_children-loop-i-preserved : goal.rename_children-loop-i-preserved
rename_children-loop-i-preserved t c =
    let kinds : (out-Node c.loop-i.node).kind ≡ (out-Node c.args.node.now).kind =
    ap (λ (z : Node-F Node). z.kind) (front-out (texts_in c.args.renaming.now.texts) c.args.stands c.args.node.now c.loop-i.node c.loop-i.i c.loop-i.invariant) in
    let role = same-role c.args.node.now c.loop-i.node c.args.stands.role c.role_by-role.result c.is_there-sourced.result c.loop-i.i kinds c.is_there-sourced.ensures c.role_by-role.ensures in
    let spot : c.spot_in-spot.result ≡ spot_in c.args.stands.spot (out-Node c.args.node.now).kind c.loop-i.i = c.spot_in-spot.ensures ∙ ap (λ (k : Kind). spot_in c.args.stands.spot k c.loop-i.i) kinds in
    front-next (texts_in c.args.renaming.now.texts) c.args.stands c.args.node.now c.loop-i.node c.loop-i.i c.get_mut.result.now c.rename.new.node c.loop-i.invariant c.get_mut.ensures.value
    (c.in_ok-rename.ensures {u = tt} ∙ (λ j. renamed_at (texts_in c.args.renaming.now.texts) c.get_mut.result.now (record { role = role j; spot = spot j })))

pub rename_children-returns : goal.rename_children-returns
rename_children-returns t c =
    let all : length (out-Node c.args.node.now).children ≡ c.loop-i.i = omega arith in
    front-all (texts_in c.args.renaming.now.texts) c.args.stands c.args.node.now c.loop-i.node c.loop-i.i c.loop-i.invariant all

pub rename-returns : goal.rename-returns
rename-returns t c =
    renamed-all (texts_in c.args.renaming.now.texts) c.args.stands c.args.node.now c.rename_children.new.node c.expand.new.node c.set_text.new.kind c.in_ok-old.old (c.in_ok-rename_children.ensures {u = tt})
    (c.in_ok-set_text.ensures {u = tt} ∙ ap (λ (b : Bool). kind_with_text (texts_in c.args.renaming.now.texts) b (out-Node c.rename_children.new.node).kind) c.is_name.ensures)
    (c.in_ok-old.ensures {u = tt}) (c.in_ok-expand.ensures {u = tt})
