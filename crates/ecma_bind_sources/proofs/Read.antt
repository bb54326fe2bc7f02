-- A tree as it is read is one with its names bound.
use Rattle.std.proofs.Common.{refl, sym, subst}
use Rattle.ecma_plain.specs.Items.{HasUtf8Hashbang}
use Rattle.ecma_fits.specs.declared.role.Role.TheVariants as role
use Rattle.ecma_plain.specs.Forms.{IsBareUnquestioned}
use Rattle.ecma_bind_fits.specs.Laws.{BoundNamesFit}
use Rattle.ecma_bind_fits.proofs.Alike.{usual_kind}
use Rattle.ecma_bind_sources.specs.Laws.{BoundTreesAreRead}
use Rattle.ecma_bind_sources.proofs.Everywhere.{everywhere_bound}

pub trees_are_read : BoundNamesFit → BoundTreesAreRead
trees_are_read fit tree is = record {
  fits = fit tree is.fits;
  bare = everywhere_bound IsBareUnquestioned tt tt tree is.bare role.Free;
  hashbang = subst HasUtf8Hashbang (sym (usual_kind tree role.Free refl)) is.hashbang;
}
