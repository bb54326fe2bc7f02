-- What does not go from a list with bound names does not go without them.
use Rattle.std.proofs.Common.{◌≡◌, ◌∙◌, Bool, true, false, not, refl, sym, ap}
use Rattle.ecma_tree.specs.declared.node.Node.{Node}
use Rattle.ecma_fits.specs.declared.role.Role.{Role}
use Rattle.ecma_strip.specs.Staying.{stays}
use Rattle.ecma_forms.specs.Forms.{leaves}
use Rattle.ecma_bind.specs.Binding.{bound_at}
use Rattle.ecma_bind_fits.proofs.StayingItems.{stays_before}

pub bound_leaves : (n : Node) (r : Role) → leaves (bound_at n r) ≡ false → leaves n ≡ false
bound_leaves n r h = by (stays (bound_at n r)) refl
  where
    by : (b : Bool) → stays (bound_at n r) ≡ b → leaves n ≡ false
    by true e = ap not (stays_before n r e)
    by false e = let no : true ≡ false = sym (ap not e) ∙ h in absurd (cc)
