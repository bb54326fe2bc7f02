-- Where the contexts of all scopes are one, those of a tree whose ids say which scopes declare its names are right, whichever scopes share contexts.
use Rattle.std.proofs.Common.{◌≡◌, ◌≢◌, ◌==◌, ℕ, ◌<◌, Bool, true, false, cond, refl, sym, ap, ◌∙◌, eq-eqb, get_or, arith}
use Rattle.std.proofs.lemmas.Bool.{eqb-true}
use Rattle.ecma_hygiene.proofs.Telling.{true-false}
use Rattle.ecma_hygiene_scopes.specs.Apart.{IsScoped}
use Rattle.ecma_hygiene_scopes.specs.Collapsed.{collapsed}
use Rattle.ecma_hygiene_scopes.specs.Laws.{CollapsedContextsAreRight}
use Rattle.ecma_hygiene_scopes.specs.Stops.{IsRight, Stop, stops}
use Rattle.ecma_hygiene_scopes.proofs.Mapping.{has, own-has}
use Rattle.ecma_hygiene_scopes.proofs.Numbers.{IsGiven, number, tree-numbers}
use Rattle.ecma_hygiene_scopes.proofs.ResolvedApart.{no-empty, no-number}

module _ (free : ℕ) where
  of-free : free ≢ 0 → collapsed free free ≡ 1
  of-free there = by (free == 0) (free == free) refl refl
    where
      by : (z f : Bool) → (free == 0) ≡ z → (free == free) ≡ f → ◌≡◌ {A = ℕ} (cond z 0 (cond f 1 2)) 1
      by true f is e = absurd (there (eqb-true free 0 is))
      by false true is e = refl
      by false false is e = absurd (true-false (eq-eqb free free refl) e)

  of-scope : (ctxt : ℕ) → ctxt ≢ 0 → ctxt ≢ free → collapsed free ctxt ≡ 2
  of-scope ctxt inner bound = by (ctxt == 0) (ctxt == free) refl refl
    where
      by : (z f : Bool) → (ctxt == 0) ≡ z → (ctxt == free) ≡ f → ◌≡◌ {A = ℕ} (cond z 0 (cond f 1 2)) 2
      by true f is e = absurd (inner (eqb-true ctxt 0 is))
      by false true is e = absurd (bound (eqb-true ctxt free e))
      by false false is e = refl

none-above : (left n : ℕ) → left < n → n ≡ 0 → ⊥
none-above left n lt is = omega arith

module _ (unresolved top free left : ℕ) (there : free ≢ 0) (unresolved_above : left < unresolved) (top_above : left < top) (apart : unresolved ≢ top) where
  right-collapsed : (stop : Stop) → IsScoped free stop → IsGiven top left stop → IsRight unresolved top (collapsed unresolved) (collapsed free) stop
  right-collapsed stop scoped given = record {
    absent = scoped.absent;
    names = scoped.names;
    free = λ t c o is other none. ap (collapsed free) (scoped.free_names t c o is other none) ∙ of-free free there ∙ sym (of-free unresolved (none-above left unresolved unresolved_above));
    declares = λ is. (let cleanly = scoped.declares is in record {
      stay = cleanly.stay;
      blocks = cleanly.blocks;
      parameters = cleanly.parameters;
      contexts = λ id h. of-scope free id.1 (λ none. true-false (ap (λ (c : ℕ). has c stop) (sym none) ∙ own-has stop id is h) scoped.not_empty)
          (λ same. true-false (ap (λ (c : ℕ). has c stop) (sym same) ∙ own-has stop id is h) scoped.not_free)
          ∙ sym (of-scope unresolved (number top stop) (λ none. no-empty unresolved top left unresolved_above top_above apart stop (given is) (sym none))
          (λ same. no-number unresolved top left unresolved_above top_above apart stop (given is) (sym same)));
    });
  }

pub collapsed-is-right : CollapsedContextsAreRight
collapsed-is-right unresolved top free left tree scoped there unresolved_above top_above apart enough =
    let numbers = tree-numbers top tree left top_above enough in
    λ k d lt. right-collapsed unresolved top free left there unresolved_above top_above apart (get_or (stops left tree) k d) (scoped k d lt) (numbers.given k d lt)
