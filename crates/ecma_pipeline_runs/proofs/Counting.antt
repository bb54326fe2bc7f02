-- The tree with final texts has as many scopes.
use Rattle.std.proofs.Common.{◌≡◌, []}
use Rattle.std.specs.List.{All}
use Rattle.ecma_hygiene.specs.declared.sight.Meeting.{Meeting}
use Rattle.ecma_hygiene.specs.declared.sight.Sight.{Sight}
use Rattle.ecma_hygiene.specs.declared.spot.Spot.{Spot}
use Rattle.ecma_hygiene.specs.declared.spot.Spot.TheVariants as spot
use Rattle.ecma_hygiene.specs.Capture.{IsNotCaptured, Placed, placed_here}
use Rattle.ecma_hygiene.specs.Sights.{meetings, meets, nowhere, sight_here, sights}
use Rattle.ecma_hygiene.specs.Texts.{text_in}
use Rattle.ecma_hygiene.proofs.Capturing.{nothing-is-captured}
use Rattle.ecma_hygiene_scopes.specs.Stops.{stops}
use Rattle.ecma_hygiene_scopes.proofs.Reading.{Fine, counts-again}
use Rattle.ecma_hygiene_scopes.proofs.Stopping.{IsAmong, all-among, any-among, inside}
use Rattle.ecma_pipeline_runs.proofs.Chain.{ReadingAgainCounts}

apart : ◌≡◌ {A = Spot} spot.Elsewhere spot.Property → ⊥
apart h = cc

pub counts : ReadingAgainCounts
counts unresolved top left from to tree names texts kept none right =
    counts-again unresolved top from to kept none (sights tree) (meetings tree) names texts tree nowhere spot.Elsewhere [] left all-fine tt (λ h. absurd (apart h))
  where
    all-fine : All (Fine unresolved top from to kept none (sights tree) (meetings tree) names texts) (stops left tree)
    all-fine k d lt =
        let captured = inside Placed placed_here (IsNotCaptured (text_in names)) tree nowhere left (nothing-is-captured tree names texts) in
        let seen = inside Sight sight_here (IsAmong (sights tree)) tree nowhere left (all-among (sights tree)) in
        let met = inside Meeting meets (IsAmong (meetings tree)) tree nowhere left (all-among (meetings tree)) in
        record {
          right = right k d lt;
          captured = captured k d lt;
          seen_in = λ f h. any-among (sights tree) f _ (seen k d lt) h;
          met_in = λ f h. any-among (meetings tree) f _ (met k d lt) h;
        }
