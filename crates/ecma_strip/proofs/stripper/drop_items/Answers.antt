use Rattle.std.proofs.Common.{rules, ◌≡◌, filter, refl}
use Rattle.std.proofs.lemmas.Fn.{filter_same}
use Rattle.ecma_tree.specs.declared.node.Node.{out-Node}
use Rattle.ecma_strip.specs.Staying.{stays}
use Rattle.ecma_strip.proofs.stripper.drop_items.Goals as goal

pub returns : goal.returns
returns c =
    let kept : c.retain.new.self ≡ filter stays (out-Node c.args.list.now).children = filter_same _ _ _ (λ x b f' k. search rules) _ _ c.retain.ensures in
    rw kept refl
