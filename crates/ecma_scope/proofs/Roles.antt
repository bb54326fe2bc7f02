-- Which roles a source makes a difference to.
use Rattle.std.proofs.Common.{◌≡◌, ℕ, Bool, false, refl}
use Rattle.ecma_kind.specs.declared.kind.Kind.{Kind}
use Rattle.ecma_kind.specs.declared.kind.Kind.TheVariants as kind
use Rattle.ecma_scope.specs.declared.role.Role.{Role}
use Rattle.ecma_scope.specs.Scopes.{role_by}

-- it makes one to the children of an export alone
pub role_by-unsourced : (r : Role) (k : Kind) (sourced : Bool) (i : ℕ) → ((type_only : Bool) → k ≡ kind.NamedExport type_only → ⊥) → role_by r k false i ≡ role_by r k sourced i
unfolding role_by
role_by-unsourced r (kind.NamedExport type_only) sourced i other = absurd (other type_only refl)
role_by-unsourced r _ sourced i other = refl
