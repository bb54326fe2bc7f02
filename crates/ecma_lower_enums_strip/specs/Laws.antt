-- Enums and stripping: which of the two is done first.
use Rattle.std.specs.Prelude.{◌≡◌, ℕ, Bool, true, not, List, Result, Ok, Err}
use Rattle.std.specs.List.{list_all}
use Rattle.ecma_kind.specs.declared.shapes.Sort.{Sort}
use Rattle.ecma_tree.specs.Sorted.{HasSort}
use Rattle.ecma_tree.specs.declared.node.Node.{Node}
use Rattle.ecma_rewriting.specs.Rewriting.{become}
use Rattle.ecma_strip.specs.Plain.{has_no_types}
use Rattle.ecma_strip.specs.Stripping.{stripped}
use Rattle.ecma_strip_rewriting.specs.Commuting.{of_all}
use Rattle.ecma_enums.specs.Walks.{with_enums}
use Rattle.ecma_enums.specs.declared.error.EnumError.{EnumError}
use Rattle.ecma_enums.specs.declared.record.TsEnumRecordEntry.{TsEnumRecordEntry}
use Rattle.ecma_lower_enums.specs.declared.known.EnumName.{EnumName}
use Rattle.ecma_lower_enums.specs.declared.known.EnumName.TheVariants as name
use Rattle.ecma_lower_enums.specs.declared.known.KnownEnums.{KnownEnums}
use Rattle.ecma_lower_enums.specs.Lowered.{enums_lowered, known_enums}
use Rattle.ecma_lower_enums.specs.Seats.{whole}
use Rattle.ecma_lower_enums.specs.Writing.{with_enums_written, writing}

-- ---- whatever is known of the enums

-- a name of an enum that is known, without a `?` behind it
abbrev pub is_unmarked : EnumName → Bool
is_unmarked (name.Member id of) = not of.optional
is_unmarked (name.Exported id) = true

-- as all are that are told of a tree (`names_in`): a `?` would be written with the name, where stripping has been already
--   f(A);   // where A is known as a member of `E?`: f(E.A), in which E has a `?` behind it if types go first, and none if they go last
abbrev pub NamesAreUnmarked : KnownEnums → Type 0
NamesAreUnmarked enums = list_all is_unmarked enums.names ≡ true

-- a tree with its enums written, of which every item is kept: without types each stays
abbrev pub with_all_enums_written : KnownEnums → Node → Node
with_all_enums_written enums = become (of_all (writing enums)) whole

-- writing the enums of what is stripped is stripping what has its enums written: spans, order and data of nodes too. So laws of stripping need not speak of enums.
-- Asked is a tree by its sorts
--   enum E { A = f() as T } g(E.A!);   // var E; (function(E) { E[E["A"] = f()] = "A"; })(E || (E = {})); g(E.A);
--   enum (E as T) { }   // no tree by its sorts: with the type it has no name and is not written, without it it is
abbrev pub EnumsBeforeOrAfter : Type 0
EnumsBeforeOrAfter = (enums : KnownEnums) (tree : Node) (sort : Sort) → NamesAreUnmarked enums → HasSort sort tree →
    with_all_enums_written enums (stripped tree) ≡ stripped (with_enums_written enums tree)

-- ---- in one way

-- enums are written in one way with types and without where in the end every item of a list stays
--   namespace N { declare let a; } enum N { A }   // no `var N`: the namespace has a value and declares N. Without types it has none, and `var N` is written
abbrev pub EnumsBeforeOrAfterAlike : Type 0
EnumsBeforeOrAfterAlike = (enums : KnownEnums) (tree : Node) (sort : Sort) → NamesAreUnmarked enums → HasSort sort tree →
    has_no_types (stripped tree) ≡ true → with_enums_written enums (stripped tree) ≡ stripped (with_enums_written enums tree)

-- ---- as it is known of the tree without types

abbrev pub stripped_by : Bool → Bool → Node → Result (List TsEnumRecordEntry) EnumError → Result Node EnumError
stripped_by may_change keeps_constants tree (Ok members) =
    Ok (stripped (with_enums_written (known_enums may_change keeps_constants members (stripped tree)) tree))
stripped_by may_change keeps_constants tree (Err e) = Err e

-- a tree with its enums written and its types gone, by what is known of it without types: the members of `declare enum` are none of its
--   declare enum E { A } enum E { B = f(A) }   // f(A), where the tree with its types knows an A of E: f(E.A)
abbrev pub lowered_then_stripped : Bool → Bool → ℕ → Node → Result Node EnumError
lowered_then_stripped may_change keeps_constants unresolved tree =
    stripped_by may_change keeps_constants tree (with_enums unresolved (stripped tree))

abbrev pub EnumsLoweredBeforeOrAfter : Type 0
EnumsLoweredBeforeOrAfter = (may_change keeps_constants : Bool) (unresolved : ℕ) (tree : Node) (sort : Sort) → HasSort sort tree →
    has_no_types (stripped tree) ≡ true →
    enums_lowered may_change keeps_constants unresolved (stripped tree) ≡ lowered_then_stripped may_change keeps_constants unresolved tree
