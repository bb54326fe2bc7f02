-- A module as it is read is one with bound names.
use Rattle.std.proofs.Common.{◌∙◌, ap}
use Rattle.ecma_fits.specs.declared.role.Role.TheVariants as role
use Rattle.ecma_bind.specs.Binding.{with_bound_names}
use Rattle.ecma_bind_fits.proofs.Whole.{names_fit}
use Rattle.ecma_bind_scopes.proofs.Told.{declare_alike}
use Rattle.ecma_bind_sources.specs.Laws.{BoundSourcesAreSources}
use Rattle.ecma_bind_sources.proofs.Alone.{alone_stays}
use Rattle.ecma_bind_sources.proofs.Bare.{bound_turned}

pub sources_are_sources : BoundSourcesAreSources
sources_are_sources source is = record {
  fits = names_fit source is.fits;
  bare = bound_turned (λ t c. 0) source role.Free ∙ ap with_bound_names is.bare;
  distinct = declare_alike source is.fits.sorted ∙ is.distinct;
  types = alone_stays source is.types role.Free;
}
