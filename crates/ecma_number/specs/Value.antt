-- What is known of a value before the program runs.
use Rattle.std.specs.Prelude.{Bool, true, false, not}
use Rattle.ecma_number.specs.declared.value.Value.{Value}
use Rattle.ecma_number.specs.declared.value.Value.TheVariants.{Known, Unknown}

-- it is known
abbrev pub is_known : {T : Type 0} → Value T → Bool
is_known (Known value) = true
is_known Unknown = false

-- `&&`, `||` and `!` in three-valued logic: a side that decides alone decides whatever the other is
abbrev pub conjunction_of : Value Bool → Value Bool → Value Bool
conjunction_of (Known false) right = Known false
conjunction_of left (Known false) = Known false
conjunction_of (Known true) (Known true) = Known true
conjunction_of left right = Unknown

abbrev pub disjunction_of : Value Bool → Value Bool → Value Bool
disjunction_of (Known true) right = Known true
disjunction_of left (Known true) = Known true
disjunction_of (Known false) (Known false) = Known false
disjunction_of left right = Unknown

abbrev pub logical_not : Value Bool → Value Bool
logical_not (Known value) = Known (not value)
logical_not Unknown = Unknown
