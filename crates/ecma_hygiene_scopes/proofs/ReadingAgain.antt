-- The tree with final texts, read again without contexts and resolved, has the ids that it had, up to maps of contexts.
use Rattle.std.proofs.Common.{◌≡◌, ℕ, ◌≤◌, List, [], refl, sym, ap, ◌∙◌, subst, cond, suc, eq-eqb, get_or}
use Rattle.std.specs.List.{All}
use Rattle.ecma_tree.specs.declared.node.Node.{Node}
use Rattle.ecma_tree.specs.Contexts.{with_contexts}
use Rattle.ecma_scope.specs.Bindings.{FollowBindings}
use Rattle.ecma_scope.specs.Laws.{without_contexts}
use Rattle.ecma_scope.specs.Resolved.{contexts, resolved}
use Rattle.ecma_scope.proofs.Following.{resolved-follows}
use Rattle.ecma_hygiene.specs.Renamed.{renamed}
use Rattle.ecma_hygiene.specs.declared.naming.Named.{Named}
use Rattle.ecma_hygiene.specs.declared.sight.Meeting.{Meeting}
use Rattle.ecma_hygiene.specs.declared.sight.Sight.{Sight}
use Rattle.ecma_hygiene.specs.declared.spot.Spot.{Spot}
use Rattle.ecma_hygiene.specs.declared.spot.Spot.TheVariants as spot
use Rattle.ecma_hygiene.specs.Capture.{IsNotCaptured, Placed, placed_here}
use Rattle.ecma_hygiene.specs.Sights.{meetings, meets, nowhere, sight_here, sights}
use Rattle.ecma_hygiene.specs.Texts.{HygienicTexts, text_in}
use Rattle.ecma_hygiene.proofs.Capturing.{nothing-is-captured}
use Rattle.ecma_hygiene_scopes.specs.Laws.{FollowsItsTexts, IsReadAgain}
use Rattle.ecma_hygiene_scopes.specs.Stops.{IsRight, Stop, stops}
use Rattle.ecma_hygiene_scopes.proofs.Reading.{Fine, counts-again, resolves-again}
use Rattle.ecma_hygiene_scopes.proofs.Sameness.{contexts-stay}
use Rattle.ecma_hygiene_scopes.proofs.Stopping.{IsAmong, all-among, any-among, inside}
use Rattle.ecma_hygiene_scopes.proofs.TwoMaps.{back, shifted, taken-back}

apart : ◌≡◌ {A = Spot} spot.Elsewhere spot.Property → ⊥
apart h = cc

module _ (unresolved top left : ℕ) (from to : ℕ → ℕ) (tree : Node) (names : List Named) (texts : HygienicTexts tree names) where
  -- with maps that keep the empty context
  module _ (kept : from 0 ≡ 0) (none : to 0 ≡ 0) (right : All (IsRight unresolved top from to) (stops left tree)) where
    all-fine : All (Fine unresolved top from to kept none (sights tree) (meetings tree) names texts) (stops left tree)
    all-fine k d lt =
        let captured = inside Placed placed_here (IsNotCaptured (text_in names)) tree nowhere left (nothing-is-captured tree names texts) in
        let seen = inside Sight sight_here (IsAmong (sights tree)) tree nowhere left (all-among (sights tree)) in
        let met = inside Meeting meets (IsAmong (meetings tree)) tree nowhere left (all-among (meetings tree)) in
        record {
          right = right k d lt;
          captured = captured k d lt;
          seen_in = λ f h. any-among (sights tree) f _ (seen k d lt) h;
          met_in = λ f h. any-among (meetings tree) f _ (met k d lt) h;
        }

    kept-again : with_contexts (λ text ctxt. from ctxt) (resolved unresolved top left (without_contexts (renamed (text_in names) tree))) ≡ with_contexts (λ text ctxt. to ctxt) (renamed (text_in names) tree)
    kept-again = resolves-again unresolved top from to kept none (sights tree) (meetings tree) names texts tree nowhere spot.Elsewhere [] left all-fine tt (λ h. absurd (apart h))

    counted-again : contexts (without_contexts (renamed (text_in names) tree)) ≡ contexts tree
    counted-again = counts-again unresolved top from to kept none (sights tree) (meetings tree) names texts tree nowhere spot.Elsewhere [] left all-fine tt (λ h. absurd (apart h))

-- what is right with two maps, is with a third behind both
right-after : (unresolved top : ℕ) (from to after : ℕ → ℕ) (stop : Stop) → IsRight unresolved top from to stop → IsRight unresolved top (λ ctxt. after (from ctxt)) (λ ctxt. after (to ctxt)) stop
right-after unresolved top from to after stop right = record {
  absent = right.absent;
  names = right.names;
  free = λ t c o is other none. ap after (right.free t c o is other none);
  declares = λ is. (let rightly = right.declares is in
      record { stay = rightly.stay; blocks = rightly.blocks; parameters = rightly.parameters; contexts = λ id h. ap after (rightly.contexts id h) });
}

-- where they give the empty context another, that is made the empty one, and back
pub is-read-again : IsReadAgain
is-read-again unresolved top left from to tree names texts same right =
    let free : ℕ = from 0 in
    let empty : shifted free free ≡ 0 = ap (λ b. cond b 0 (suc free)) (eq-eqb free free refl) in
    let read : Node = resolved unresolved top left (without_contexts (renamed (text_in names) tree)) in
    sym (taken-back free from read)
    ∙ ap (with_contexts (λ text ctxt. back free ctxt)) (kept-again unresolved top left (λ ctxt. shifted free (from ctxt)) (λ ctxt. shifted free (to ctxt)) tree names texts empty (ap (shifted free) same ∙ empty)
    (λ k d lt. right-after unresolved top from to (shifted free) (get_or (stops left tree) k d) (right k d lt)))
    ∙ taken-back free to (renamed (text_in names) tree)

pub follows-its-texts : FollowsItsTexts
follows-its-texts unresolved top left to tree names texts none right unresolved_above top_above apart_ enough =
    let again : Node = without_contexts (renamed (text_in names) tree) in
    let counts : contexts again ≡ contexts tree = counted-again unresolved top left (λ ctxt. ctxt) to tree names texts refl none right in
    subst (λ (t : Node). FollowBindings unresolved t again)
    (sym (contexts-stay (resolved unresolved top left again)) ∙ is-read-again unresolved top left (λ ctxt. ctxt) to tree names texts none right)
    (resolved-follows unresolved top left again unresolved_above top_above apart_ (subst (λ (n : ℕ). n ≤ left) (sym counts) enough))
