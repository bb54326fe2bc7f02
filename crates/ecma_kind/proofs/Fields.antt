-- Searching the names of a kind's children one by one.
use Rattle.std.proofs.Common.{◌≡◌, ◌≢◌, ◌∙◌, ℕ, ◌+◌, ◌<◌, true, false, Some, List, length, get_or, sym, ap, subst, slice_get, arith}
use Rattle.std.proofs.Math.Nat.{eq-or-lt_of_le}
use mathlib.Core.Logic.{◌⊎◌, inl, inr}
use Rattle.std.proofs.lemmas.Option.{slice_get-map, slice_get-get_or}
use Rattle.std.specs.Option.{option_map}
use Rattle.ecma_kind.specs.Shapes.{LacksBefore, fields, field_shapes}
use Rattle.ecma_kind.specs.contracts.shapes.Field as field_type
use Rattle.ecma_kind.specs.declared.kind.Kind.{Kind}
use Rattle.ecma_kind.specs.declared.shapes.Field.{Field}
use Rattle.ecma_kind.specs.declared.shapes.FieldShape.{FieldShape}
use denote.Enum.Bare.{sameb, same_false, same_true}

-- the name of the child at i, read off a slice of their shapes
pub field-read : (kind : Kind) (read : List FieldShape) (i : ℕ) (default : FieldShape) → read ≡ field_shapes kind → i < length read → slice_get (fields kind) i ≡ Some (get_or read i default).field
field-read kind read i default same within =
    slice_get-map (λ child. child.field) (field_shapes kind) i
    ∙ ap (λ shapes. option_map (λ child. child.field) (slice_get shapes i)) (sym same)
    ∙ ap (option_map (λ child. child.field)) (slice_get-get_or read i default within)

-- one child more that has another name
pub lacks-more : (n : ℕ) (field : Field) (kind : Kind) → LacksBefore n field kind → slice_get (fields kind) n ≢ Some field → LacksBefore (n + 1) field kind
lacks-more n field kind lacks other i within has = go (eq-or-lt_of_le (omega (arith, within)))
  where
    go : (i ≡ n) ⊎ (i < n) → ⊥
    go (inl same) = other (subst (λ k. slice_get (fields kind) k ≡ Some field) same has)
    go (inr less) = lacks i less has

-- equal names are found, others are not
pub found : (a b : Field) → sameb field_type.the_type a b ≡ true → Some a ≡ Some b
found a b h = ap Some (same_true field_type.the_type tt a b h)

pub other : (a b : Field) → sameb field_type.the_type a b ≡ false → Some a ≢ Some b
other a b h e = same_false field_type.the_type a b h (some e)
  where
    some : Some a ≡ Some b → a ≡ b
    some e = cc
