-- What assigns to a pattern means the same of a tree with bound names.
use Rattle.std.proofs.Common.{◌≡◌, ◌∙◌, inr, ℕ, suc, Bool, true, false, ◌==◌, cond, List, [], ◌∷◌, map, Some, refl, ap, slice_get}
use Rattle.ecma_kind.specs.declared.kind.Kind.{Kind}
use Rattle.ecma_kind.specs.declared.kind.Kind.TheVariants as kind
use Rattle.ecma_kind.specs.declared.operators.AssignOp.TheVariants.{Assign}
use Rattle.ecma_tree.specs.declared.node.Node.{Node}
use Rattle.ecma_fits.specs.declared.role.Role.{Role}
use Rattle.ecma_fits.specs.declared.role.Role.TheVariants as role
use Rattle.ecma_fits.specs.Roles.{is_in, role_in}
use Rattle.ecma_runs.specs.Meaning.{Meaning}
use Rattle.ecma_runs.specs.Evaluation.{meaning, meaning_by}
use Rattle.ecma_bind.specs.Binding.{bound_at}
use Rattle.ecma_bind_fits.proofs.Bound.{bound_each}
use Rattle.ecma_bind_runs.proofs.Near.{NearAnywhere, behind_first, others}
use Rattle.ecma_bind_runs.proofs.Quiet.{Quiet, bound_same, quiet_either}
use Rattle.ecma_bind_runs.proofs.Targets.{assign_same, in_same, of_same}

-- what has a target as its first child
abbrev pub takes_target : Kind → Bool
takes_target (kind.AssignExpr op) = true
takes_target kind.ForInStmt = true
takes_target (kind.ForOfStmt is_await) = true
takes_target _ = false

-- nothing is assigned to in others, where nothing around them is
pub free_quiet : (k : Kind) → takes_target k ≡ false → (i : ℕ) → Quiet (role_in role.Free k i)
unfolding role_in
free_quiet (kind.AssignExpr op) t i = cc
free_quiet kind.ForInStmt t i = cc
free_quiet (kind.ForOfStmt is_await) t i = cc
free_quiet (kind.ArrayPat optional) t i = quiet_either (i == 0) role.DeclaredElements role.Free refl refl
free_quiet (kind.ObjectPat optional) t i = quiet_either (i == 0) role.DeclaredProperties role.Free refl refl
free_quiet kind.BindingIdent t i = quiet_either (i == 0) role.Free role.Free refl refl
free_quiet kind.RestPat t i = quiet_either (i == 0) role.Declared role.Free refl refl
free_quiet kind.AssignPat t i = quiet_either (i == 0) role.Declared role.Free refl refl
free_quiet kind.KeyValuePatProp t i = quiet_either (i == 1) role.DeclaredValue role.Free refl refl
free_quiet kind.AssignPatProp t i = quiet_either (i == 0) role.DeclaredName role.Free refl refl
free_quiet (kind.ArrowExpr is_async is_generator) t i = quiet_either (i == 0) role.Parameters role.Free refl refl
free_quiet kind.SetterProp t i = quiet_either (i == 1) role.Parameter (cond (i == 2) role.Parameter role.Free) refl (quiet_either (i == 2) role.Parameter role.Free refl refl)
free_quiet kind.CatchClause t i = quiet_either (i == 0) role.Declared role.Free refl refl
free_quiet (kind.VarDeclarator definite) t i = quiet_either (i == 0) role.Declared role.Free refl refl
free_quiet (kind.BinExpr op) t i = quiet_either (i == 0) (cond (is_in op) role.Private role.Free) role.Free (quiet_either (is_in op) role.Private role.Free refl refl) refl
free_quiet kind.MemberExpr t i = quiet_either (i == 1) role.Private role.Free refl refl
free_quiet (kind.PrivateMethod m modifiers) t i = quiet_either (i == 0) role.Private role.Free refl refl
free_quiet (kind.PrivateProp modifiers readonly declare definite) t i = quiet_either (i == 0) role.Private role.Free refl refl
free_quiet (kind.ImportNamedSpecifier is_type_only) t i = quiet_either (i == 1) role.Key role.Free refl refl
free_quiet kind.TsEnumMember t i = quiet_either (i == 0) role.Key role.Free refl refl
free_quiet kind.TaggedTpl t i = quiet_either (i == 2) role.Tagged role.Free refl refl
free_quiet kind.Tpl t i = quiet_either (i == 1) role.Free role.Free refl refl
free_quiet _ t i = refl

abbrev pub free_each : List Node → List Node
free_each = bound_each (λ i. role.Free)

behind : (i : ℕ) (x : Role) → Quiet (cond (suc i == 0) x role.Free) × Quiet role.Free
behind i x = (behind_first i x role.Free refl, refl)

module _ (n : Node) where
  -- the children with their names bound for their roles, or for none
  targets_same : (k : Kind) → takes_target k ≡ true → (cs : List Node) → ((i : ℕ) (c : Node) → slice_get cs i ≡ Some c → NearAnywhere c)
      → meaning_by n k (map meaning (bound_each (role_in role.Free k) cs)) ≡ meaning_by n k (map meaning (free_each cs))
  unfolding role_in
  targets_same k t [] near = refl
  targets_same (kind.AssignExpr Assign) t (c ∷ cs) near =
      assign_same n (meaning (bound_at c role.Left)) (meaning (bound_at c role.Free)) (map meaning (bound_each (λ i. role_in role.Free (kind.AssignExpr Assign) (suc i)) cs)) (near 0 c refl role.Left role.Free)
      ∙ ap (λ (z : List Meaning). meaning_by n (kind.AssignExpr Assign) (meaning (bound_at c role.Free) ∷ z)) (others cs (λ i. role_in role.Free (kind.AssignExpr Assign) (suc i)) (λ i. role.Free) (λ i. behind i role.Left))
  targets_same (kind.AssignExpr op) t (c ∷ cs) near =
      ap (λ (z : Node). meaning_by n (kind.AssignExpr op) (meaning z ∷ map meaning (bound_each (λ i. role_in role.Free (kind.AssignExpr op) (suc i)) cs))) (bound_same c role.Simple role.Free (inr (refl, refl)))
      ∙ ap (λ (z : List Meaning). meaning_by n (kind.AssignExpr op) (meaning (bound_at c role.Free) ∷ z)) (others cs (λ i. role_in role.Free (kind.AssignExpr op) (suc i)) (λ i. role.Free) (λ i. behind i role.Simple))
  targets_same kind.ForInStmt t (c ∷ cs) near =
      in_same n (meaning (bound_at c role.Head)) (meaning (bound_at c role.Free)) (map meaning (bound_each (λ i. role_in role.Free kind.ForInStmt (suc i)) cs)) (near 0 c refl role.Head role.Free)
      ∙ ap (λ (z : List Meaning). meaning_by n kind.ForInStmt (meaning (bound_at c role.Free) ∷ z)) (others cs (λ i. role_in role.Free kind.ForInStmt (suc i)) (λ i. role.Free) (λ i. behind i role.Head))
  targets_same (kind.ForOfStmt is_await) t (c ∷ cs) near =
      of_same n (meaning (bound_at c role.Head)) (meaning (bound_at c role.Free)) (map meaning (bound_each (λ i. role_in role.Free (kind.ForOfStmt is_await) (suc i)) cs)) (near 0 c refl role.Head role.Free) is_await
      ∙ ap (λ (z : List Meaning). meaning_by n (kind.ForOfStmt is_await) (meaning (bound_at c role.Free) ∷ z)) (others cs (λ i. role_in role.Free (kind.ForOfStmt is_await) (suc i)) (λ i. role.Free) (λ i. behind i role.Head))
  targets_same _ t cs near = cc

  pub free_same : (k : Kind) (cs : List Node) → ((i : ℕ) (c : Node) → slice_get cs i ≡ Some c → NearAnywhere c)
      → meaning_by n k (map meaning (bound_each (role_in role.Free k) cs)) ≡ meaning_by n k (map meaning (free_each cs))
  free_same k cs near = go (takes_target k) refl
    where
      go : (t : Bool) → takes_target k ≡ t → meaning_by n k (map meaning (bound_each (role_in role.Free k) cs)) ≡ meaning_by n k (map meaning (free_each cs))
      go true t = targets_same k t cs near
      go false t = ap (meaning_by n k) (others cs (role_in role.Free k) (λ i. role.Free) (λ i. (free_quiet k t i, refl)))
