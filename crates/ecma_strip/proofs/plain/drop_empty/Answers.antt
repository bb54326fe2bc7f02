use Rattle.std.proofs.Common.{rules, ◌≡◌, filter, not, refl}
use Rattle.std.proofs.lemmas.Fn.{filter_same}
use Rattle.ecma_tree.specs.declared.node.Node.{Node, out-Node}
use Rattle.ecma_strip.specs.Staying.{is_empty_stmt}
use Rattle.ecma_strip.proofs.plain.drop_empty.Goals as goal

pub returns : goal.returns
returns c =
    let kept : c.retain.new.self ≡ filter (λ (n : Node). not (is_empty_stmt (out-Node n).kind)) (out-Node c.args.list.now).children = filter_same _ _ _ (λ x b f' k. search rules) _ _ c.retain.ensures in
    rw kept refl
