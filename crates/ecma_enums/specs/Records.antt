-- The members of enums that stand before, and what is known of them.
use Rattle.std.specs.Prelude.{ℕ, Bool, ◌&&◌, ◌==◌, List, [], ◌∷◌, Option, Some, None, bytes_eq, if◌then◌else◌}
use Rattle.std.specs.Option.{option_map}
use Rattle.ecma_enums.specs.declared.record.TsEnumRecordEntry.{TsEnumRecordEntry}
use Rattle.ecma_enums.specs.declared.record.TsEnumRecordKey.{TsEnumRecordKey}
use Rattle.ecma_enums.specs.declared.value.TsEnumRecordValue.{TsEnumRecordValue}

-- the member of this name, of the enum with this text and context
abbrev pub is_of : List ℕ → ℕ → List ℕ → TsEnumRecordKey → Bool
is_of sym ctxt name key = bytes_eq key.enum_id.0 sym && key.enum_id.1 == ctxt && bytes_eq key.member_name name

-- its entry behind what was found before: the last one counts
abbrev pub entry_behind : Option TsEnumRecordEntry → List ℕ → ℕ → List ℕ → List TsEnumRecordEntry → Option TsEnumRecordEntry
entry_behind found sym ctxt name [] = found
entry_behind found sym ctxt name (e ∷ es) = entry_behind (if is_of sym ctxt name e.key then Some e else found) sym ctxt name es

abbrev pub entry_named : List ℕ → ℕ → List ℕ → List TsEnumRecordEntry → Option TsEnumRecordEntry
entry_named sym ctxt name es = entry_behind None sym ctxt name es

-- what is recorded of it
abbrev pub recorded : List ℕ → ℕ → List ℕ → List TsEnumRecordEntry → Option TsEnumRecordValue
recorded sym ctxt name es = option_map (λ (e : TsEnumRecordEntry). e.value) (entry_named sym ctxt name es)
