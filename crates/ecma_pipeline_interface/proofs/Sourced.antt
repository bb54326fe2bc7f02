-- A module with its parentheses and bound names, resolved, has the interface of the resolved module.
use Rattle.std.proofs.Common.{◌∙◌, ap}
use Rattle.ecma_kind.specs.declared.shapes.Sort.TheVariants as sort
use Rattle.ecma_bind_interface.proofs.Bound.{binding_keeps}
use Rattle.ecma_bind_interface.proofs.Enclosed.{enclosing_keeps}
use Rattle.ecma_bind_scopes.proofs.Placed.{resolve_alike}
use Rattle.ecma_enclose.specs.Enclosing.{enclosed}
use Rattle.ecma_enclose_fits.proofs.Whole.{trees_are_sorted}
use Rattle.ecma_interface.specs.Reading.{interface_of}
use Rattle.ecma_pipeline_interface.specs.Laws.{BoundSourcesHaveTheirInterface}
use Rattle.ecma_scope.proofs.Unchanged.{keeps-sorts}
use Rattle.ecma_scope.specs.Resolved.{resolved}

pub bound_sources : BoundSourcesHaveTheirInterface
bound_sources text unresolved top left source sorted =
    let round = trees_are_sorted source sorted in
    ap (interface_of text) ((resolve_alike (enclosed source) round).same unresolved top left)
    ∙ binding_keeps text (resolved unresolved top left (enclosed source)) ((keeps-sorts unresolved top left (enclosed source) sort.Module).1 round)
    ∙ enclosing_keeps text unresolved top left source sorted
