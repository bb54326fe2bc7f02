-- The equations of the calls of an operation.
use Rattle.std.proofs.Common.{◌≡◌, List, [], ◌++◌, refl, sym, subst}
use Rattle.std.specs.List.{FoldsTo}
use Rattle.ecma_walks.proofs.Walking.{FoldsTo-append}

module _ {P A : Type 0} (R : P → A → P → Type 0) where
  -- where the steps at the items that are left end, the steps at all end
  pub record StepsRest (p q : P) (rest whole : List A) : Type 0 where
    pub ends : (last : P) → FoldsTo R q rest last → FoldsTo R p whole last

  pub StepsRest-start : (p : P) (whole : List A) → StepsRest p p whole whole
  StepsRest-start p whole = record { ends = λ last steps. steps }

  pub StepsRest-first : (p q : P) (here rest whole : List A) → whole ≡ here ++ rest → FoldsTo R p here q → StepsRest p q rest whole
  StepsRest-first p q here rest whole is steps = record {
    ends = λ last more. subst (λ (z : List A). FoldsTo R p z last) (sym is) (FoldsTo-append R here rest p q last steps more);
  }

  pub StepsRest-next : (p q r : P) (items rest others whole : List A) → rest ≡ items ++ others → FoldsTo R q items r
      → StepsRest p q rest whole → StepsRest p r others whole
  StepsRest-next p q r items rest others whole is steps so_far = record {
    ends = λ last more. so_far.ends last (subst (λ (z : List A). FoldsTo R q z last) (sym is)
        (FoldsTo-append R items others q r last steps more));
  }

  pub StepsRest-all : (p q : P) (rest whole : List A) → rest ≡ [] → StepsRest p q rest whole → FoldsTo R p whole q
  StepsRest-all p q rest whole is so_far = so_far.ends q (subst (λ (z : List A). FoldsTo R q z q) (sym is) refl)
