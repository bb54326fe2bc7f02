-- Declarators, one by one.
use Rattle.std.proofs.Common.{◌≡◌, ◌∙◌, ◌≤◌, ◌<◌, ◌+◌, ◌-◌, ℕ, suc, Bool, List, [], ◌∷◌, ◌++◌, drop, length, Some, refl, sym, ap, subst, slice_get, append_assoc, arith}
use Rattle.std.proofs.lemmas.List.{append-nil, at_drop_all}
use Rattle.ecma_kind.specs.Sessions.{SessionState}
use Rattle.ecma_scope.specs.Drawing.{HasGivenAtMost}
use Rattle.ecma_tree.proofs.Items.{drop-item}
use Rattle.ecma_tree.specs.declared.node.Node.{Node}
use Rattle.ecma_function_parts.proofs.Given.{Counting, counting-given, counting-left, counting-next, counting-spent, counting-start, counting-stops}
use Rattle.ecma_function_environment.specs.declared.need.Need.{Need}
use Rattle.ecma_function_environment.specs.Declaring.{declarator, declarator_draws, declarators, draws_of}
use Rattle.ecma_function_environment.specs.Needs.{Names}

module _ (in_subclass : Bool) (names es : Names) (start : SessionState) where
  -- the declarators from the one at i on
  abbrev pub declared_rest : ℕ → ℕ → List Node
  declared_rest i left = declarators in_subclass names (drop i es) left

  -- the first i names have declarators
  pub record Declaring (now : SessionState) (decls : List Node) (i : ℕ) : Type 0 where
    pub decls-are : decls ++ declared_rest i now.left ≡ declarators in_subclass names es start.left
    pub counting : Counting (declarator_draws es) (declarator_draws (drop i es)) start now

  pub declaring-start : Declaring start [] 0
  declaring-start = record { decls-are = refl; counting = counting-start (declarator_draws es) start }

  module _ (now : SessionState) (decls : List Node) (i : ℕ) (so : Declaring now decls i) where
    module _ (e : Need × ℕ) (at : slice_get es i ≡ Some e) where
      parts : declarator_draws (drop i es) ≡ draws_of e.0 + declarator_draws (drop (i + 1) es)
      parts = ap declarator_draws (drop-item es i e at)

      within : draws_of e.0 ≤ declarator_draws (drop i es)
      within = let p = parts in omega (arith, p)

      pub declaring-next : (after : SessionState) (n : Node) → n ≡ declarator in_subclass names e.0 e.1 now.left → after.left + draws_of e.0 ≡ now.left
          → HasGivenAtMost (draws_of e.0) now after → Declaring after (decls ++ n ∷ []) (i + 1)
      declaring-next after n is drew given =
          let left-is : now.left - draws_of e.0 ≡ after.left = omega (arith, drew) in
          let both : declared_rest i now.left ≡ n ∷ declared_rest (i + 1) after.left =
          ap (λ (z : Names). declarators in_subclass names z now.left) (drop-item es i e at)
          ∙ ap (λ z. z ∷ declared_rest (i + 1) (now.left - draws_of e.0)) (sym is)
          ∙ ap (λ (l : ℕ). n ∷ declared_rest (i + 1) l) left-is in
          record {
            decls-are = append_assoc decls (n ∷ []) (declared_rest (i + 1) after.left) ∙ ap (λ z. decls ++ z) (sym both) ∙ so.decls-are;
            counting = counting-next (declarator_draws es) (declarator_draws (drop i es)) start now so.counting (draws_of e.0) (declarator_draws (drop (i + 1) es)) after parts drew given;
          }

      pub declaring-stops : (after : SessionState) → HasGivenAtMost (draws_of e.0) now after → HasGivenAtMost (declarator_draws es) start after
      declaring-stops after given = counting-stops (declarator_draws es) (declarator_draws (drop i es)) start now so.counting (draws_of e.0) after within given

      pub declaring-spent : now.left < draws_of e.0 → start.left < declarator_draws es
      declaring-spent lacks = counting-spent (declarator_draws es) (declarator_draws (drop i es)) start now so.counting (draws_of e.0) within lacks

    pub declaring-given : HasGivenAtMost (declarator_draws es) start now
    declaring-given = counting-given (declarator_draws es) (declarator_draws (drop i es)) start now so.counting

    none : length es ≡ i → drop i es ≡ []
    none all = at_drop_all (λ (z : Names). z) es i (omega (arith, all))

    pub declaring-all : length es ≡ i → decls ≡ declarators in_subclass names es start.left
    declaring-all all = sym (append-nil decls) ∙ ap (λ (z : Names). decls ++ declarators in_subclass names z now.left) (sym (none all)) ∙ so.decls-are

    pub declaring-left : length es ≡ i → now.left + declarator_draws es ≡ start.left
    declaring-left all = counting-left (declarator_draws es) (declarator_draws (drop i es)) start now so.counting (ap declarator_draws (none all))
