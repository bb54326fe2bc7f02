-- What is lent as the one or the other.
use Rattle.std.specs.Prelude.{Result, Ok, Err}
use Rattle.std.specs.Borrow.{Fml, GName, MutBor, RattleType, follows}

-- the name under which it is lent, which tells it from what else is lent
abbrev pub lent_name : {A B : Type 0} → Result (MutBor A) (MutBor B) → GName
lent_name (Ok lent) = lent.ghost_name
lent_name (Err lent) = lent.ghost_name

-- an R lends a T in `Ok` or in `Err`: where w is written there, the R ends as F w, and it ends so for some w
abbrev pub LendsEither : (R T : RattleType) → MutBor R.Denot → Result (MutBor T.Denot) (MutBor T.Denot) → (T.Denot → R.Denot) → Fml
LendsEither R T lender lent = follows R T lender.ghost_name (lent_name lent)
