-- What is judged of a node before a program runs: a field for each question.
use Rattle.std.specs.Prelude.{ℕ, Bool, true, false, List, get_or}
use Rattle.std.specs.List.{list_any}
use Rattle.ecma_number.specs.declared.js_number.JsNumber.{JsNumber}
use Rattle.ecma_number.specs.declared.types.JsType.{JsType}
use Rattle.ecma_number.specs.declared.types.Purity.{Purity}
use Rattle.ecma_number.specs.declared.types.Purity.TheVariants.{MayBeImpure, Pure}
use Rattle.ecma_number.specs.declared.value.Value.{Value}
use Rattle.ecma_number.specs.declared.value.Value.TheVariants.{Unknown}

pub record Judged : Type 0 where
  -- to evaluate it may have effects
  pub effects : Bool
  -- a call of its value has none of its own
  pub pure_callee : Bool
  -- whether its value counts as true, its value as a Number, and its value as a text if it has no effects
  pub truth : Purity × Value Bool
  pub number : Purity × Value JsNumber
  pub text : Value (List ℕ)
  -- the text that it adds as an element of an array that is made a text
  pub element : Value (List ℕ)
  pub type : Value JsType

-- of a child that is not there
abbrev pub nothing : Judged
nothing = record {
  effects = false;
  pure_callee = false;
  truth = (Pure, Unknown);
  number = (MayBeImpure, Unknown);
  text = Unknown;
  element = Unknown;
  type = Unknown;
}

-- what is judged of the child at an index
abbrev pub kid : List Judged → ℕ → Judged
kid kids i = get_or kids i nothing

-- one of the children may have effects
abbrev pub any_has_effects : List Judged → Bool
any_has_effects kids = list_any (λ (k : Judged). k.effects) kids

-- the purity of what may have effects or not
abbrev pub purity_of : Bool → Purity
purity_of true = MayBeImpure
purity_of false = Pure
