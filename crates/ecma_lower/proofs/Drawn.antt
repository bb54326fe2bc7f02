-- The contexts that are drawn for the head of a module.
use Rattle.std.proofs.Common.{◌≡◌, ◌<◌, ℕ, ◌+◌, ◌-◌, true, false, cond, Some, None, refl, sym, ap, subst, arith}
use Rattle.ecma_config.specs.declared.config.TsImportExportAssignConfig.{TsImportExportAssignConfig}
use Rattle.ecma_kind.specs.Sessions.{SessionState, drawn}
use Rattle.ecma_scope.specs.Drawing.{HasGivenAtMost}
use Rattle.ecma_tree.specs.declared.node.Node.{Node}
use Rattle.ecma_lower.specs.Names.{drawn_for, head_by, head_of, makes_require}

given-none : (s : SessionState) → HasGivenAtMost 0 s s
given-none s = record { fewer = omega arith; most = omega arith; total = refl; slots = refl }

given-one : (s : SessionState) → HasGivenAtMost 2 s (drawn s)
given-one s = record { fewer = omega arith; most = omega arith; total = refl; slots = refl }

given-two : (s : SessionState) → HasGivenAtMost 2 s (drawn (drawn s))
given-two s = record { fewer = omega arith; most = omega arith; total = refl; slots = refl }

module _ (assign : TsImportExportAssignConfig) (tree : Node) where
  count-none : makes_require assign tree ≡ false → drawn_for assign tree ≡ 0
  count-none h = ap (λ b. cond b 2 0) h

  count-two : makes_require assign tree ≡ true → drawn_for assign tree ≡ 2
  count-two h = ap (λ b. cond b 2 0) h

  pub session-none : (s : SessionState) → makes_require assign tree ≡ false → HasGivenAtMost (drawn_for assign tree) s s
  session-none s h = subst (λ (n : ℕ). HasGivenAtMost n s s) (sym (count-none h)) (given-none s)

  pub session-one : (s : SessionState) → makes_require assign tree ≡ true → HasGivenAtMost (drawn_for assign tree) s (drawn s)
  session-one s h = subst (λ (n : ℕ). HasGivenAtMost n s (drawn s)) (sym (count-two h)) (given-one s)

  pub session-two : (s : SessionState) → makes_require assign tree ≡ true → HasGivenAtMost (drawn_for assign tree) s (drawn (drawn s))
  session-two s h = subst (λ (n : ℕ). HasGivenAtMost n s (drawn (drawn s))) (sym (count-two h)) (given-two s)

  pub left-none : (left : ℕ) → makes_require assign tree ≡ false → left + drawn_for assign tree ≡ left
  left-none left h = let none = count-none h in omega (arith, none)

  pub left-two : (left : ℕ) → makes_require assign tree ≡ true → (left ≡ 0 → ⊥) → (left - 1 ≡ 0 → ⊥) → left - 1 - 1 + drawn_for assign tree ≡ left
  left-two left h first second = let two = count-two h in omega (arith, two, first, second)

  pub spent-first : (left : ℕ) → makes_require assign tree ≡ true → left ≡ 0 → left < drawn_for assign tree
  spent-first left h none = let two = count-two h in omega (arith, two, none)

  pub spent-second : (left : ℕ) → makes_require assign tree ≡ true → left - 1 ≡ 0 → left < drawn_for assign tree
  spent-second left h none = let two = count-two h in omega (arith, two, none)

  pub head-none : (left : ℕ) → makes_require assign tree ≡ false → None ≡ head_of assign left tree
  head-none left h = sym (ap (λ b. cond b (Some (head_by left)) None) h)

  pub head-some : (left : ℕ) → makes_require assign tree ≡ true → Some (head_by left) ≡ head_of assign left tree
  head-some left h = sym (ap (λ b. cond b (Some (head_by left)) None) h)

pub ruleset drawing = (session-none, session-one, session-two, left-none, left-two, spent-first, spent-second, head-none, head-some)
