-- What a call answers.
use Rattle.std.proofs.Common.{◌≡◌, Result, Ok, Err}
use Rattle.ecma_enums.specs.declared.error.EnumError.{EnumError}
use Rattle.ecma_enums.specs.declared.error.EnumError.TheVariants.{EnumNumber, NoMemory}
use Rattle.ecma_enums.specs.Folded.{Answers}

pub answers_same : {A : Type 0} (result wanted : Result A EnumError) → result ≡ wanted → Answers result wanted
answers_same (Ok value) wanted same = same
answers_same (Err NoMemory) wanted same = tt
answers_same (Err (EnumNumber at)) wanted same = same
