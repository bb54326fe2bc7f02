-- Reads of members of enums whose values are known.
use Rattle.std.specs.Prelude.{ℕ, Bool, ◌&&◌, ◌||◌, List, Option, Some, None, not, if◌then◌else◌}
use Rattle.std.specs.Option.{option_and_then}
use Rattle.ecma_kind.specs.declared.kind.Kind.{Kind}
use Rattle.ecma_kind.specs.declared.kind.Kind.TheVariants as kind
use Rattle.ecma_tree.specs.declared.node.Node.{Node, out-Node}
use Rattle.ecma_enums.specs.declared.record.TsEnumRecordEntry.{TsEnumRecordEntry}
use Rattle.ecma_enums.specs.declared.value.TsEnumRecordValue.{TsEnumRecordValue}
use Rattle.ecma_enums.specs.Keys.{key_at}
use Rattle.ecma_enums.specs.Names.{Name, name_at}
use Rattle.ecma_enums.specs.Records.{entry_named}
use Rattle.ecma_enums.specs.Values.{is_constant}

-- a known value stays what it is: that of an enum that is `const`, and where enums do not change that of any
abbrev pub stays_known : Bool → TsEnumRecordEntry → Bool
stays_known may_change e = is_constant e.value && (e.is_const || not may_change)

abbrev pub lasting : Bool → TsEnumRecordEntry → Option TsEnumRecordValue
lasting may_change e = if stays_known may_change e then Some e.value else None

abbrev pub value_of : Bool → List TsEnumRecordEntry → Option Name → Option (List ℕ) → Option TsEnumRecordValue
value_of may_change es (Some name) (Some key) = option_and_then (lasting may_change) (entry_named name.0 name.1 key es)
value_of may_change es name key = None

abbrev pub known_by : Bool → List TsEnumRecordEntry → Kind → Node → Option TsEnumRecordValue
known_by may_change es kind.MemberExpr n = value_of may_change es (name_at n 0) (key_at n 1)
known_by may_change es _ n = None

-- a member of an enum, by the enum's name, also with types round it and not in parentheses, and by the member's name; a link of an optional chain is none
--   E.A   E["A"]   E[`A`]
--   (E).A   E?.A   // none
abbrev pub known_read : Bool → List TsEnumRecordEntry → Node → Option TsEnumRecordValue
known_read may_change es n = known_by may_change es (out-Node n).kind n
