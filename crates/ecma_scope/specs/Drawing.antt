-- What a pass that draws contexts leaves of a session.
use Rattle.std.specs.Prelude.{◌≡◌, ◌≤◌, ◌+◌, ℕ}
use Rattle.ecma_kind.specs.Sessions.{SessionState}

-- the session has given marks, at most so many, and is the same otherwise
pub record HasGivenAtMost (count : ℕ) (before after : SessionState) : Type 0 where
  pub fewer : after.left ≤ before.left
  pub most : before.left ≤ after.left + count
  pub total : after.total ≡ before.total
  pub slots : after.slots ≡ before.slots
