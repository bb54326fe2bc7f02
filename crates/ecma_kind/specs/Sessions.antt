-- What a session is: the number that it was made with, how many marks are left, and the slots of the helpers.
use Rattle.std.specs.Prelude.{ℕ, ◌-◌, ◌<◌, ◌≤◌, Bool, List, Option, Some, None, slice_set, [], ◌∷◌}
use Rattle.std.specs.List.{All}

pub record SessionState : Type 0 where
  pub total : ℕ
  pub left : ℕ
  pub slots : List (Option (ℕ × Bool))

-- a session with so many marks, and nothing in its slots
abbrev pub fresh_session : ℕ → SessionState
fresh_session n = record { total = n; left = n; slots = None ∷ None ∷ None ∷ None ∷ None ∷ [] }

-- one mark less, if one is left
abbrev pub drawn : SessionState → SessionState
drawn session = record session { left = session.left - 1 }

-- the mark of this number was given by the session
abbrev pub HasGiven : SessionState → ℕ → Type 0
HasGiven session mark = (session.left < mark) × (mark ≤ session.total)

-- what is in a slot, if anything, is the context of a mark that the session gave
abbrev pub IsGiven : SessionState → Option (ℕ × Bool) → Type 0
IsGiven session None = Unit
IsGiven session (Some kept) = HasGiven session kept.0

-- what is true of every session: it has not more marks left than it was made with, and its slots hold contexts that it gave
pub record IsSession (session : SessionState) : Type 0 where
  pub marks : session.left ≤ session.total
  pub slots : All (IsGiven session) session.slots

-- the session with this context, used or not, in the slot n
abbrev pub with_slot : SessionState → ℕ → ℕ → Bool → SessionState
with_slot session n ctxt used = record session { slots = slice_set session.slots n (Some (ctxt, used)) }
