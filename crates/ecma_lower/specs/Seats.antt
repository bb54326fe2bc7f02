-- Where a node stands, as far as assignments are written there.
use Rattle.std.specs.Prelude.{ℕ, Bool, true, false, ◌==◌, cond}
use Rattle.ecma_kind.specs.declared.kind.Kind.{Kind}
use Rattle.ecma_kind.specs.declared.kind.Kind.TheVariants as kind
use Rattle.ecma_lower.specs.declared.seat.Seat.{Seat}
use Rattle.ecma_lower.specs.declared.seat.Seat.TheVariants as seat

abbrev pub is_raw : Seat → Bool
is_raw seat.Raw = true
is_raw _ = false

-- this for the child that is meant, and nothing is written in the others
abbrev pub at_child : ℕ → ℕ → Seat → Seat
at_child wanted i s = cond (i == wanted) s seat.Raw

abbrev pub of_module : Seat → ℕ → Seat
of_module seat.Whole i = at_child 0 i seat.Item
of_module _ i = seat.Raw

abbrev pub of_import : Seat → ℕ → Seat
of_import seat.Item i = at_child 1 i seat.Value
of_import _ i = seat.Raw

abbrev pub of_name : Seat → ℕ → Seat
of_name seat.Value i = at_child 0 i seat.Value
of_name _ i = seat.Raw

-- where the child at an index of a node of this kind stands: the items of a module, the right side of an import that is no type, what is before a dot there. An
-- expression stands where a type round it stands
--   import a = b.c.d;   // `b.c.d`, `b.c` and `b` are values
unfoldable pub seat_in : Seat → Kind → ℕ → Seat
seat_in s (kind.Module shebang) i = of_module s i
seat_in s kind.List i = s
seat_in s (kind.TsImportEqualsDecl is_export false) i = of_import s i
seat_in s kind.TsQualifiedName i = of_name s i
seat_in s kind.TsTypeAssertion i = at_child 0 i s
seat_in s kind.TsConstAssertion i = at_child 0 i s
seat_in s kind.TsNonNullExpr i = at_child 0 i s
seat_in s kind.TsAsExpr i = at_child 0 i s
seat_in s kind.TsInstantiation i = at_child 0 i s
seat_in s kind.TsSatisfiesExpr i = at_child 0 i s
seat_in s _ i = seat.Raw
