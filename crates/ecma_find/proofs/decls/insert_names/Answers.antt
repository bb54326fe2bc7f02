use Rattle.std.proofs.Common.{◌≡◌, ◌<◌, List, Some, length, refl, slice_get, subst, arith}
use Rattle.std.proofs.lemmas.Option.{slice_get_read}
use Rattle.ecma_tree.specs.NodeRefs.{nodes_of}
use Rattle.ecma_tree.specs.declared.node.Node.{Node}
use Rattle.ecma_find.specs.declared.finder.Finder.TheVariants.{Declared}
use Rattle.ecma_find.specs.declared.finder.Place.{Place}
use Rattle.ecma_find.specs.Finders.{rules_of}
use Rattle.ecma_find.specs.Found.{taken_among}
use Rattle.ecma_find.specs.Names.{AddsAll, name_in}
use Rattle.ecma_find.proofs.Declaring.{SetRest-all, SetRest-next}
use Rattle.ecma_find.proofs.Naming.{given_rest-all, given_rest-next}
use Rattle.ecma_find.proofs.decls.insert_names.Goals as goal

pub loop-node-preserved : goal.loop-node-preserved
loop-node-preserved g c =
    let within : c.loop-node.node-index < length c.nodes-node-items.result.now = omega arith in
    let at : slice_get c.nodes-node-items.result.now c.loop-node.node-index ≡ Some c.node-item.result =
    slice_get_read c.nodes-node-items.result.now _ c.loop-node.node-index c.node-item.result refl within c.node-item.is in
    SetRest-next _ _ g.I.PartialEq.eq c.args.set.now c.loop-node.set c.insert_names_in.new.set _ _ _ _
    (given_rest-next _ (name_in _ g.I.IdentLike.of_ident c.args.only.now) (rules_of Declared) c.root_place-place.result
    c.nodes-node-items.result.now c.loop-node.node-index c.node-item.result at)
    (c.in_ok-insert_names_in.ensures {u = tt}) c.loop-node.invariant

pub returns : goal.returns
returns g c =
    let all : length c.nodes-node-items.result.now ≡ c.loop-node.node-index = omega arith in
    subst (λ (place : Place). AddsAll _ _ g.I.PartialEq.eq c.args.set.now c.loop-node.set
    (taken_among _ (name_in _ g.I.IdentLike.of_ident c.args.only.now) (rules_of Declared) place (nodes_of c.args.part)))
    c.root_place-place.ensures
    (subst (λ (z : List Node). AddsAll _ _ g.I.PartialEq.eq c.args.set.now c.loop-node.set
    (taken_among _ (name_in _ g.I.IdentLike.of_ident c.args.only.now) (rules_of Declared) c.root_place-place.result z))
    c.nodes-node-items.ensures
    (SetRest-all _ _ g.I.PartialEq.eq c.args.set.now c.loop-node.set _ _
    (given_rest-all _ (name_in _ g.I.IdentLike.of_ident c.args.only.now) (rules_of Declared) c.root_place-place.result
    c.nodes-node-items.result.now c.loop-node.node-index all) c.loop-node.invariant))
