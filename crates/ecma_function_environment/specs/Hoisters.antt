-- What a hoister is: what it leaves as it is, and the names that it has.
use Rattle.std.specs.Prelude.{ℕ, Bool, true, false, List, [], Option, Some, None}
use Rattle.std.specs.Map.{lookup}
use Rattle.std.specs.Option.{option_map}
use Rattle.ecma_kind.specs.declared.ident.Ident.{Ident}
use Rattle.ecma_function_environment.specs.declared.hoisting.Flags.{Flags}
use Rattle.ecma_function_environment.specs.declared.need.Need.{Need}
use Rattle.ecma_function_environment.specs.declared.need.Need.TheVariants as need
use Rattle.ecma_function_environment.specs.Needs.{Names, ident_of_need, named, same_need}

pub record Hoister : Type 0 where
  pub flags : Flags
  pub names : Names

abbrev pub new_hoister : ℕ → Hoister
new_hoister unresolved = record {
  flags = record { unresolved = unresolved; arguments_disabled = false; this_disabled = false; super_disabled = false };
  names = [];
}

abbrev pub with_flags : Flags → Hoister → Hoister
with_flags flags h = record h { flags = flags }

-- with names for all of these needs
abbrev pub with_needs : List Need → ℕ → Hoister → Hoister
with_needs needs left h = record h { names = named needs left h.names }

-- the name of `this`, if there is one
abbrev pub this_name : Names → Option Ident
this_name names = option_map (ident_of_need need.This) (lookup (same_need need.This) names)
