-- Roles by which all nodes are read alike: what stands below them is the same, and whether it is a text part behind a tag.
use Rattle.std.proofs.Common.{◌≡◌, ◌∙◌, ℕ, Bool, true, false, ◌==◌, cond, refl, sym, ap, ap₂}
use Rattle.ecma_kind.specs.declared.kind.Kind.{Kind}
use Rattle.ecma_kind.specs.declared.kind.Kind.TheVariants as kind
use Rattle.ecma_fits.specs.declared.role.Role.{Role}
use Rattle.ecma_fits.specs.declared.role.Role.TheVariants as role
use Rattle.ecma_fits.specs.Roles.{bound_name_of, by, in_default, in_list, in_rest, in_template, is_assigned, is_tagged, role_in}

pub record Alike (r s : Role) : Type 0 where
  pub tagged : is_tagged r ≡ is_tagged s
  pub below : (k : Kind) (i : ℕ) → role_in r k i ≡ role_in s k i

pub alike_same : {r s : Role} → r ≡ s → Alike r s
alike_same e = record { tagged = ap is_tagged e; below = λ k i. ap (λ z. role_in z k i) e }

pub alike_then : {r s t : Role} → Alike r s → Alike s t → Alike r t
alike_then a b = record { tagged = a.tagged ∙ b.tagged; below = λ k i. a.below k i ∙ b.below k i }

-- a name that is bound, what is bound with a default, and what stands before that
abbrev Bound : Role → Type 0
Bound r =
    (is_tagged r ≡ false) × (in_list r ≡ role.Free) × (bound_name_of r ≡ role.Free) × (in_rest r ≡ by r role.Assigned role.Declared) × (in_default r ≡ by r role.Assigned role.Declared)
    × (in_template r ≡ role.Free)

bound_below : (r s : Role) → is_assigned r ≡ is_assigned s → Bound r → Bound s → (k : Kind) (i : ℕ) → role_in r k i ≡ role_in s k i
unfolding role_in
bound_below r s e p q kind.List i = p.1 ∙ sym q.1
bound_below r s e p q (kind.ArrayPat optional) i = ap (λ b. cond (i == 0) (cond b role.AssignedElements role.DeclaredElements) (cond b role.Nothing role.Free)) e
bound_below r s e p q (kind.ObjectPat optional) i = ap (λ b. cond (i == 0) (cond b role.AssignedProperties role.DeclaredProperties) (cond b role.Nothing role.Free)) e
bound_below r s e p q kind.BindingIdent i = ap₂ (λ z b. cond (i == 0) z (cond b role.Nothing role.Free)) (p.2 ∙ sym q.2) e
bound_below r s e p q kind.RestPat i = ap₂ (λ z b. cond (i == 0) z (cond b role.Nothing role.Free)) (p.3 ∙ ap (λ b. cond b role.Assigned role.Declared) e ∙ sym q.3) e
bound_below r s e p q kind.AssignPat i = ap (λ z. cond (i == 0) z role.Free) (p.4 ∙ ap (λ b. cond b role.Assigned role.Declared) e ∙ sym q.4)
bound_below r s e p q kind.KeyValuePatProp i = ap (λ b. cond (i == 1) (cond b role.AssignedValue role.DeclaredValue) role.Free) e
bound_below r s e p q kind.AssignPatProp i = ap (λ b. cond (i == 0) (cond b role.AssignedName role.DeclaredName) role.Free) e
bound_below r s e p q kind.Tpl i = ap (λ z. cond (i == 1) z role.Free) (p.5 ∙ sym q.5)
bound_below r s e p q _ i = refl

bound_alike : (r s : Role) → is_assigned r ≡ is_assigned s → Bound r → Bound s → Alike r s
bound_alike r s e p q = record { tagged = p.0 ∙ sym q.0; below = bound_below r s e p q }

-- a name of an object pattern is read as a value of one is
pub value_alike : (b : Bool) → Alike (cond b role.AssignedName role.DeclaredName) (cond b role.AssignedValue role.DeclaredValue)
value_alike true = bound_alike role.AssignedName role.AssignedValue refl (refl, refl, refl, refl, refl, refl) (refl, refl, refl, refl, refl, refl)
value_alike false = bound_alike role.DeclaredName role.DeclaredValue refl (refl, refl, refl, refl, refl, refl) (refl, refl, refl, refl, refl, refl)

-- and as what stands before a default
pub default_alike : (b : Bool) → Alike (cond b role.AssignedName role.DeclaredName) (in_default (cond b role.AssignedValue role.DeclaredValue))
default_alike true = bound_alike role.AssignedName role.Assigned refl (refl, refl, refl, refl, refl, refl) (refl, refl, refl, refl, refl, refl)
default_alike false = bound_alike role.DeclaredName role.Declared refl (refl, refl, refl, refl, refl, refl) (refl, refl, refl, refl, refl, refl)
