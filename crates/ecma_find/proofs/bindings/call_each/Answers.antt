use Rattle.std.proofs.Common.{◌≡◌, ◌<◌, List, Some, length, refl, slice_get, subst, arith}
use Rattle.std.proofs.lemmas.Option.{slice_get_read}
use Rattle.std.specs.Fn.{CalledAt}
use Rattle.std.specs.List.{FoldsTo}
use Rattle.ecma_tree.specs.declared.node.Node.{Node}
use Rattle.ecma_find.specs.declared.finder.Finder.TheVariants.{Bindings}
use Rattle.ecma_find.specs.declared.finder.Place.{Place}
use Rattle.ecma_find.specs.Finders.{rules_of}
use Rattle.ecma_find.specs.Found.{taken_among}
use Rattle.ecma_find.specs.Names.{itself}
use Rattle.ecma_tree.specs.NodeRefs.{nodes_of}
use Rattle.ecma_find.proofs.Calling.{StepsRest-all, StepsRest-next}
use Rattle.ecma_find.proofs.Naming.{given_rest-all, given_rest-next}
use Rattle.ecma_find.proofs.bindings.call_each.Goals as goal

pub loop-node-preserved : goal.loop-node-preserved
loop-node-preserved g c =
    let within : c.loop-node.node-index < length c.nodes-node-items.result.now = omega arith in
    let at : slice_get c.nodes-node-items.result.now c.loop-node.node-index ≡ Some c.node-item.result =
    slice_get_read c.nodes-node-items.result.now _ c.loop-node.node-index c.node-item.result refl within c.node-item.is in (
      c.call_in.ensures.again,
      StepsRest-next (λ p x q. CalledAt g.F.FnMut p x tt q) c.args.op.now c.loop-node.op c.call_in.new.op _ _ _ _
          (given_rest-next Node itself (rules_of Bindings) c.root_place-place.result c.nodes-node-items.result.now
          c.loop-node.node-index c.node-item.result at)
          c.call_in.ensures.ran c.loop-node.invariant.1,
    )

pub returns-clause-ran : goal.returns-clause-ran
returns-clause-ran g c =
    let all : length c.nodes-node-items.result.now ≡ c.loop-node.node-index = omega arith in
    subst (λ (place : Place). FoldsTo (λ p x q. CalledAt g.F.FnMut p x tt q) c.args.op.now
    (taken_among Node itself (rules_of Bindings) place (nodes_of c.args.part)) c.loop-node.op)
    c.root_place-place.ensures
    (subst (λ (z : List Node). FoldsTo (λ p x q. CalledAt g.F.FnMut p x tt q) c.args.op.now
    (taken_among Node itself (rules_of Bindings) c.root_place-place.result z) c.loop-node.op)
    c.nodes-node-items.ensures
    (StepsRest-all (λ p x q. CalledAt g.F.FnMut p x tt q) c.args.op.now c.loop-node.op _ _
    (given_rest-all Node itself (rules_of Bindings) c.root_place-place.result c.nodes-node-items.result.now
    c.loop-node.node-index all) c.loop-node.invariant.1))
