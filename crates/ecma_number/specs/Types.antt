-- Types of values, and purity of evaluations.
use Rattle.std.specs.Prelude.{◌≡◌, ◌↔◌, Bool, true, false}
use Rattle.ecma_number.specs.declared.types.JsType.{JsType}
use Rattle.ecma_number.specs.declared.types.JsType.TheVariants as js_type
use Rattle.ecma_number.specs.declared.types.Purity.{Purity}
use Rattle.ecma_number.specs.declared.types.Purity.TheVariants.{MayBeImpure, Pure}
use Rattle.ecma_number.specs.declared.value.Value.{Value}
use Rattle.ecma_number.specs.declared.value.Value.TheVariants.{Known, Unknown}

-- `+` adds a value of this type as a Number, unless the other side is a text
abbrev pub is_added_as_number : JsType → Bool
is_added_as_number js_type.Bool = true
is_added_as_number js_type.Null = true
is_added_as_number js_type.Num = true
is_added_as_number js_type.Undefined = true
is_added_as_number type = false

abbrev pub casted_to_number_on_add : Value JsType → Bool
casted_to_number_on_add (Known type) = is_added_as_number type
casted_to_number_on_add Unknown = false

-- it is known to have no effect
abbrev pub is_pure : Purity → Bool
is_pure Pure = true
is_pure MayBeImpure = false

-- the purity of two evaluations
abbrev pub purity_of_both : Purity → Purity → Purity
purity_of_both Pure Pure = Pure
purity_of_both left right = MayBeImpure

-- the sum of two purities is that of both, and it is pure exactly if both are
pub record IsPuritySum (left right sum : Purity) : Type 0 where
  pub value : sum ≡ purity_of_both left right
  pub law : (sum ≡ Pure) ↔ ((left ≡ Pure) × (right ≡ Pure))
