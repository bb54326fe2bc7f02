-- A module with its enums written, and with reads of their members.
use Rattle.std.specs.Prelude.{ℕ, Bool, true, false, List, [], Result, Ok, Err}
use Rattle.ecma_enums.specs.Walks.{with_enums}
use Rattle.ecma_enums.specs.declared.error.EnumError.{EnumError}
use Rattle.ecma_enums.specs.declared.record.TsEnumRecordEntry.{TsEnumRecordEntry}
use Rattle.ecma_tree.specs.declared.node.Node.{Node}
use Rattle.ecma_lower_enums.specs.declared.known.KnownEnums.{KnownEnums}
use Rattle.ecma_lower_enums.specs.Names.{names_in}
use Rattle.ecma_lower_enums.specs.Writing.{with_enums_written}

-- of a tree with these members: enums may change or not, and members of `const` enums are kept or not
abbrev pub known_enums : Bool → Bool → List TsEnumRecordEntry → Node → KnownEnums
known_enums may_change keeps_constants members tree =
    record { members = members; names = names_in tree; may_change = may_change; keeps_constants = keeps_constants; writes = true }

abbrev pub lowered_by : Bool → Bool → Node → Result (List TsEnumRecordEntry) EnumError → Result Node EnumError
lowered_by may_change keeps_constants tree (Ok members) = Ok (with_enums_written (known_enums may_change keeps_constants members tree) tree)
lowered_by may_change keeps_constants tree (Err e) = Err e

-- a resolved module with its enums written, where the numbers of all members are computed
--   enum E { A, B = "t" }   // var E; (function(E) { E[E["A"] = 0] = "A"; E["B"] = "t"; })(E || (E = {}));
abbrev pub enums_lowered : Bool → Bool → ℕ → Node → Result Node EnumError
enums_lowered may_change keeps_constants unresolved tree = lowered_by may_change keeps_constants tree (with_enums unresolved tree)

-- what a call answers that leaves this tree
abbrev pub left : {A : Type 0} → Result A EnumError → Node → Result Node EnumError
left (Ok done) tree = Ok tree
left (Err e) tree = Err e

-- ---- reads alone

-- nothing is known but the members, and enums stay
abbrev pub inlining : List TsEnumRecordEntry → KnownEnums
inlining members = record { members = members; names = []; may_change = false; keeps_constants = false; writes = false }

-- a tree in which reads of these members are their values, where they are known
--   enum E { A = 1 } f(E.A);   // enum E { A = 1 } f(1);
abbrev pub with_members_read : List TsEnumRecordEntry → Node → Node
with_members_read members = with_enums_written (inlining members)
