-- The members of an enum declaration (TypeScript handbook, "Enums").
use Rattle.std.specs.Prelude.{ℕ, Bool, List, [], Option, Some, None, Result, Ok, Err, not, slice_get, if◌then◌else◌}
use Rattle.std.specs.Option.{option_and_then, option_map_or}
use Rattle.ecma_kind.specs.declared.kind.Kind.{Kind}
use Rattle.ecma_kind.specs.declared.kind.Kind.TheVariants as kind
use Rattle.ecma_tree.specs.Sorted.{is_absent}
use Rattle.ecma_tree.specs.declared.node.Node.{Node, out-Node}
use Rattle.ecma_enums.specs.declared.computer.EnumValueComputer.{EnumValueComputer}
use Rattle.ecma_enums.specs.declared.error.EnumError.{EnumError}
use Rattle.ecma_enums.specs.declared.error.EnumError.TheVariants.{EnumNumber}
use Rattle.ecma_enums.specs.declared.record.TsEnumRecordEntry.{TsEnumRecordEntry}
use Rattle.ecma_enums.specs.declared.value.TsEnumRecordValue.{TsEnumRecordValue}
use Rattle.ecma_enums.specs.declared.value.TsEnumRecordValue.TheVariants as value
use Rattle.ecma_enums.specs.Folded.{answer}
use Rattle.ecma_enums.specs.Folding.{folded}
use Rattle.ecma_enums.specs.Names.{Name}
use Rattle.ecma_enums.specs.Values.{zero}

-- ---- a member

abbrev pub name_text : Kind → List ℕ
name_text (kind.Ident sym ctxt optional) = sym
name_text (kind.Str text raw) = text
name_text _ = []

--   A   "A"
abbrev pub member_name : Node → List ℕ
member_name m = option_map_or (λ name. name_text (out-Node name).kind) (slice_get (out-Node m).children 0) []

abbrev pub is_there : Node → Bool
is_there n = not (is_absent (out-Node n).kind)

abbrev pub if_there : Node → Option Node
if_there n = if is_there n then Some n else None

abbrev pub initialiser : Node → Option Node
initialiser m = option_and_then if_there (slice_get (out-Node m).children 1)

-- the automatic value of a member at an offset, where it is one of those that are computed
abbrev pub automatic : ℕ → Option TsEnumRecordValue → Result TsEnumRecordValue EnumError
automatic at (Some v) = Ok v
automatic at None = Err (EnumNumber at)

abbrev pub value_by : EnumValueComputer → Option TsEnumRecordValue → ℕ → Option Node → Result TsEnumRecordValue EnumError
value_by c next at (Some e) = answer (folded c e)
value_by c next at None = automatic at next

-- that of its initialiser, or the one that comes next
abbrev pub member_value : EnumValueComputer → Option TsEnumRecordValue → Node → Result TsEnumRecordValue EnumError
member_value c next m = value_by c next (out-Node m).span.lo (initialiser m)

-- the first is 0
abbrev pub first_value : Option TsEnumRecordValue
first_value = Some (value.Number zero)

-- ---- what is recorded

-- of an enum that is `const` or is not
abbrev pub entry_of : Name → Bool → Node → TsEnumRecordValue → TsEnumRecordEntry
entry_of id is_const m v = record { key = record { enum_id = id; member_name = member_name m }; value = v; is_const = is_const }
