-- What the body of a function and the block of a `catch` stand in: a scope that declares parameters, or names that are caught, and nothing else.
use Rattle.std.proofs.Common.{◌≡◌, ℕ, ◌==◌, Bool, true, false, not, cond, [], Option, Some, None, refl, ap}
use Rattle.std.proofs.lemmas.Bool.{eqb-true}
use Rattle.ecma_kind.specs.declared.kind.Kind.{Kind}
use Rattle.ecma_kind.specs.declared.kind.Kind.TheVariants as kind
use Rattle.ecma_scope.specs.declared.form.Form.{Form}
use Rattle.ecma_scope.specs.declared.form.Form.TheVariants as form
use Rattle.ecma_scope.specs.declared.form.Part.{Part}
use Rattle.ecma_scope.specs.declared.form.Part.TheVariants as part
use Rattle.ecma_scope.specs.declared.form.Sought.{Sought}
use Rattle.ecma_scope.specs.declared.role.Role.{Role}
use Rattle.ecma_scope.specs.declared.role.Role.TheVariants as role
use Rattle.ecma_scope.specs.Conflicts.{has_parameters}
use Rattle.ecma_scope.specs.Declarations.{declared_here, holds_vars, in_item, in_scope}
use Rattle.ecma_scope.specs.Scopes.{at_child, covers, opens_by, role_by}
use Rattle.ecma_scope.proofs.Around.{body-here}
use Rattle.ecma_hygiene.proofs.Telling.{true-false}

abbrev named : Form → Sought
named f = record { part = part.Name f; stays = true }

pub record HasParameters (r : Role) (k : Kind) (i : ℕ) : Type 0 where
  -- the form in which they are declared
  pub declared_as : Form
  pub opens : (there : Bool) → opens_by r k there ≡ true
  pub covers : covers r k i ≡ true
  pub holds : holds_vars r k ≡ false
  pub seeks : (v : Bool) (j : ℕ) (q : Sought) → in_scope true v k j ≡ Some q → q ≡ named declared_as
  pub items : (v : Bool) (j : ℕ) → in_item true v k j ≡ None
  pub leaf : (p : Part) (s : Bool) → declared_here (record { part = p; stays = s }) k ≡ []

part-at : (f : Form) (b : Bool) (q : Sought) → ◌≡◌ {A = Option Sought} (cond b (Some (named f)) None) (Some q) → q ≡ named f
part-at f true q h = cc
part-at f false q h = cc

none-some : (q : Sought) → ◌≡◌ {A = Option Sought} None (Some q) → ⊥
none-some q h = cc

child-index : (wanted i : ℕ) → has_parameters (at_child role.Body wanted i) ≡ true → (i == wanted) ≡ true
child-index wanted i h = by (i == wanted) h
  where
    by : (b : Bool) → has_parameters (cond b role.Body role.Plain) ≡ true → b ≡ true
    by true h = refl
    by false h = absurd (true-false h refl)

at-second : (i : ℕ) → (i == 2) ≡ true → not (i == 0) ≡ true
at-second i h = ap (λ (n : ℕ). not (n == 0)) (eqb-true i 2 h)

at-third : (i : ℕ) → (i == 3) ≡ true → not (i == 0) ≡ true
at-third i h = ap (λ (n : ℕ). not (n == 0)) (eqb-true i 3 h)

pub has-parameters : (r : Role) (k : Kind) (sourced : Bool) (i : ℕ) → has_parameters (role_by r k sourced i) ≡ true → HasParameters r k i
unfolding role_by opens_by covers holds_vars in_scope in_item declared_here
has-parameters r (kind.Function g a) sourced i h =
    record { declared_as = form.Parameter; opens = λ t. refl; covers = refl; holds = refl; seeks = λ v j q is. part-at form.Parameter (j == 0) q is; items = λ v j. refl; leaf = λ p s. refl }
has-parameters r (kind.ArrowExpr a g) sourced i h =
    record { declared_as = form.Parameter; opens = λ t. refl; covers = refl; holds = refl; seeks = λ v j q is. part-at form.Parameter (j == 0) q is; items = λ v j. refl; leaf = λ p s. refl }
has-parameters r (kind.Constructor a o) sourced i h =
    record { declared_as = form.Parameter; opens = λ t. refl; covers = refl; holds = refl; seeks = λ v j q is. part-at form.Parameter (j == 1) q is; items = λ v j. refl; leaf = λ p s. refl }
has-parameters r kind.GetterProp sourced i h =
    record { declared_as = form.Parameter; opens = λ t. refl; covers = at-second i (child-index 2 i h); holds = refl; seeks = λ v j q is. absurd (none-some q is); items = λ v j. refl; leaf = λ p s. refl }
has-parameters r kind.SetterProp sourced i h =
    record { declared_as = form.Parameter; opens = λ t. refl; covers = at-third i (child-index 3 i h); holds = refl; seeks = λ v j q is. part-at form.Parameter (j == 2) q is; items = λ v j. refl; leaf = λ p s. refl }
has-parameters r kind.CatchClause sourced i h =
    record { declared_as = form.Catch; opens = λ t. refl; covers = refl; holds = refl; seeks = λ v j q is. part-at form.Catch (j == 0) q is; items = λ v j. refl; leaf = λ p s. refl }
has-parameters r k sourced i h = absurd (true-false h (body-here r k sourced i refl))
