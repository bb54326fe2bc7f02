use Rattle.std.proofs.Common.{◌≡◌, ◌∙◌, length, refl, slice_get, Some, sym}
use Rattle.std.proofs.lemmas.Option.{slice_get_read}
use Rattle.std.proofs.lemmas.Slice.Zip.{zip_turn}
use Rattle.ecma_tree.proofs.Sameness.{from-false, item-same}
use Rattle.ecma_tree.proofs.equal.all_same_but_for_spans.Goals as goal

pub returns-then-not-same_but_for_spans : goal.returns-then-not-same_but_for_spans
returns-then-not-same_but_for_spans c =
    let nodes = c.args.nodes.now in
    let others = c.args.others.now in
    let i = length c.loop-node.yielded in
    let first : c.into_iter-node-iterator.result.a.rest.now ≡ nodes = cc in
    let second : c.into_iter-node-iterator.result.b.rest.now ≡ others = cc in
    let turn =
    zip_turn nodes others c.loop-node.yielded c.into_iter-node-iterator.result c.loop-node.node-iterator c.next.new.self (Some (c.in-Some.node, c.in-Some.other)) first second c.loop-node.yielded_by (c.in-Some.node, c.in-Some.other) refl
    c.in-Some.ensures.steps in
    let node : slice_get nodes i ≡ Some c.in-Some.node.now = slice_get_read nodes (length nodes) i c.in-Some.node.now refl turn.0 (turn.2 c.in-Some.node.now) in
    let other : slice_get others i ≡ Some c.in-Some.other.now = slice_get_read others (length others) i c.in-Some.other.now refl turn.1 (turn.3 c.in-Some.other.now) in
    (λ h. from-false h, λ e. sym c.if-not-same_but_for_spans.true ∙ c.same_but_for_spans.ensures.1 (item-same nodes others i c.in-Some.node.now c.in-Some.other.now node other e))
