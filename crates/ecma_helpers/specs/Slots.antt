-- What a session keeps of each helper: in which context its name is, and whether it is used.
use Rattle.std.specs.Prelude.{ℕ, Bool, true, false, Option, Some, None, get_or}
use Rattle.ecma_kind.specs.Sessions.{SessionState, drawn, with_slot}
use Rattle.ecma_helpers.specs.declared.name.HelperName.{HelperName}
use Rattle.ecma_helpers.specs.declared.name.HelperName.TheVariants as helper
use Rattle.ecma_helpers.specs.Names.{slot_of}

-- the context of its name, and whether it is used; nothing, where it was never asked for
abbrev pub kept_of : HelperName → SessionState → Option (ℕ × Bool)
kept_of name session = get_or session.slots (slot_of name) None

-- ---- a helper is asked for

abbrev pub context_by : Option (ℕ × Bool) → SessionState → ℕ
context_by (Some kept) session = kept.0
context_by None session = session.left

-- the context of its name: the one that it has, else a fresh one
abbrev pub context_of : HelperName → SessionState → ℕ
context_of name session = context_by (kept_of name session) session

abbrev pub draws_by : Option (ℕ × Bool) → ℕ
draws_by (Some kept) = 0
draws_by None = 1

-- how many contexts are drawn
abbrev pub draws_for : HelperName → SessionState → ℕ
draws_for name session = draws_by (kept_of name session)

abbrev pub drawn_by : Option (ℕ × Bool) → SessionState → SessionState
drawn_by (Some kept) session = session
drawn_by None session = drawn session

-- the session in which it is used
abbrev pub with_used : HelperName → SessionState → SessionState
with_used name session = with_slot (drawn_by (kept_of name session) session) (slot_of name) (context_of name session) true

-- ---- no helper is used

abbrev pub unused_by : HelperName → Option (ℕ × Bool) → SessionState → SessionState
unused_by name (Some kept) session = with_slot session (slot_of name) kept.0 false
unused_by name None session = session

-- the session in which it is not used, and keeps its context
abbrev pub with_unused : HelperName → SessionState → SessionState
with_unused name session = unused_by name (kept_of name session) session

-- the session in which none is used, and each keeps its context
abbrev pub with_all_unused : SessionState → SessionState
with_all_unused session =
    with_unused helper.AssertThisInitialized
    (with_unused helper.Update (with_unused helper.Set (with_unused helper.GetPrototypeOf (with_unused helper.Get session))))
