-- What is asked of a module before its enums are written, and of what is known of their members.
use Rattle.std.specs.Prelude.{ℕ, List, None}
use Rattle.std.specs.List.{All}
use Rattle.ecma_kind.specs.declared.kind.Kind.{Kind}
use Rattle.ecma_kind.specs.declared.kind.Kind.TheVariants as kind
use Rattle.ecma_number.specs.SafeInt.{IsSafe}
use Rattle.ecma_number.specs.declared.js_number.JsNumber.{JsNumber}
use Rattle.ecma_number.specs.declared.js_number.JsNumber.TheVariants as number
use Rattle.ecma_tree.specs.declared.node.Node.{Node}
use Rattle.ecma_enums.specs.Declarations.{member_name}
use Rattle.ecma_enums.specs.declared.record.TsEnumRecordEntry.{TsEnumRecordEntry}
use Rattle.ecma_enums.specs.declared.value.TsEnumRecordValue.{TsEnumRecordValue}
use Rattle.ecma_enums.specs.declared.value.TsEnumRecordValue.TheVariants as value
use Rattle.ecma_plain.specs.Writable.{IsWritable}
use Rattle.ecma_rules.specs.Children.{kind_of}

-- a text that can be written as one: it is UTF-8, and what is written for it can be read
abbrev pub IsText : List ℕ → Type 0
IsText text = IsWritable (kind.Str text None)

abbrev pub IsSafeNumber : JsNumber → Type 0
IsSafeNumber (number.Whole n) = IsSafe n
IsSafeNumber _ = Unit {0}

-- a value for which an expression can be written
abbrev pub IsWritten : TsEnumRecordValue → Type 0
IsWritten (value.String text) = IsText text
IsWritten (value.Number n) = IsSafeNumber n
IsWritten _ = Unit {0}

-- what is known of members can be written
abbrev pub AreWritten : List TsEnumRecordEntry → Type 0
AreWritten members = All (λ (e : TsEnumRecordEntry). IsWritten e.value) members

-- the name of a member is written as a text too
--   enum E { "\uD800" }   // is not UTF-8
abbrev pub HasTextBy : Kind → Node → Type 0
HasTextBy kind.TsEnumMember n = IsText (member_name n)
HasTextBy _ n = Unit {0}

abbrev pub HasText : Node → Type 0
HasText n = HasTextBy (kind_of n) n
