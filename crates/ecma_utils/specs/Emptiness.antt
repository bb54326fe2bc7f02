-- What of options and lists is empty.
use Rattle.std.specs.Prelude.{Bool, true, false, List, [], ◌∷◌, Option}
use Rattle.std.specs.Option.{option_map_or}

-- none, or what is empty itself
abbrev pub option_is_empty : {A : Type 0} → (A → Bool) → Option A → Bool
option_is_empty empty value = option_map_or empty value true

abbrev pub list_is_empty : {A : Type 0} → List A → Bool
list_is_empty [] = true
list_is_empty (item ∷ items) = false
