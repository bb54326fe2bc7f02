-- What a part of a run leaves as it was.
use Rattle.std.specs.Prelude.{◌≡◌, List, ◌++◌}
use Rattle.ecma_runs.specs.State.{State}

-- a list, and more behind it
abbrev pub Front : {A : Type 0} → List A → List A → Type 0
Front {A} before after = (more : List A) × (after ≡ before ++ more)

-- the environment records and the objects of a state are the first of those of another, as they were, and the host has seen and answered nothing between them: more is made, nothing is changed. Turns may be spent.
pub record Still (before after : State) : Type 0 where
  pub environments : Front before.environments after.environments
  pub objects : Front before.objects after.objects
  pub handles : after.handles ≡ before.handles
  pub answers : after.answers ≡ before.answers
  pub events : after.events ≡ before.events
