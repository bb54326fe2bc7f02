use Rattle.std.proofs.Common.{rules, ◌≡◌, filter, not, refl}
use Rattle.std.proofs.lemmas.Fn.{filter_same}
use Rattle.ecma_tree.specs.declared.node.Node.{Node, out-Node}
use Rattle.ecma_elide.specs.Rules.{goes}
use Rattle.ecma_elide.specs.Sets.{known_by}
use Rattle.ecma_elide.proofs.eliding.drop_items.Goals as goal

pub returns : goal.returns
returns c =
    let kept : c.retain.new.self ≡ filter (λ (n : Node). not (goes (known_by c.args.names.now) c.args.seat (out-Node n).kind (out-Node n).children)) (out-Node c.args.list.now).children =
    filter_same _ _ _ (λ x b f' k. search rules) _ _ c.retain.ensures in
    rw kept refl
