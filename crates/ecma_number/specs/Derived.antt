-- Derived equality, order and hash: by the variants in the order in which they are declared, then by the field.
use Rattle.std.specs.Prelude.{ℕ, pos, Bool, true, false, ◌++◌}
use Rattle.std.specs.declared.cmp.Ordering.{Ordering}
use Rattle.std.specs.declared.cmp.Ordering.TheVariants.{Less, Equal, Greater}
use Rattle.std.specs.Hash.{HashWrites, isize}
use Rattle.ecma_number.specs.declared.value.Value.{Value}
use Rattle.ecma_number.specs.declared.value.Value.TheVariants.{Known, Unknown}
use Rattle.ecma_number.specs.declared.types.JsType.{JsType}
use Rattle.ecma_number.specs.declared.types.JsType.TheVariants as js_type
use Rattle.ecma_number.specs.declared.types.Purity.{Purity}
use Rattle.ecma_number.specs.declared.types.Purity.TheVariants.{MayBeImpure, Pure}

-- how many variants of its type stand before a variant
abbrev pub type_rank : JsType → ℕ
type_rank js_type.Undefined = 0
type_rank js_type.Null = 1
type_rank js_type.Bool = 2
type_rank js_type.Str = 3
type_rank js_type.Symbol = 4
type_rank js_type.Num = 5
type_rank js_type.Obj = 6

abbrev pub purity_rank : Purity → ℕ
purity_rank MayBeImpure = 0
purity_rank Pure = 1

-- what is known comes first, in the order of the values
abbrev pub value_order : {T : Type 0} → (T → T → Ordering) → Value T → Value T → Ordering
value_order order (Known left) (Known right) = order left right
value_order order (Known left) Unknown = Less
value_order order Unknown (Known right) = Greater
value_order order Unknown Unknown = Equal

-- two known values are equal where the values are, and two unknown ones always
abbrev pub value_equality : {T : Type 0} → (T → T → Bool) → Value T → Value T → Bool
value_equality equal (Known left) (Known right) = equal left right
value_equality equal (Known left) Unknown = false
value_equality equal Unknown (Known right) = false
value_equality equal Unknown Unknown = true

-- a hasher is fed the rank of the variant, and then the value that is known
abbrev pub value_input : {T : Type 0} → (T → HashWrites) → Value T → HashWrites
value_input input (Known value) = isize (pos 0) ++ input value
value_input input Unknown = isize (pos 1)
