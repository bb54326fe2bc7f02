-- Functions, classes, properties and patterns are laid out alike.
use Rattle.std.proofs.Common.{◌≡◌, refl, List, [], ◌∷◌, map, Bool}
use Rattle.ecma_kind.specs.declared.kind.Kind.{Kind}
use Rattle.ecma_kind.specs.declared.kind.Kind.TheVariants as kind
use Rattle.ecma_print.specs.Laid.{Laid}
use Rattle.ecma_print.specs.declared.place.Spot.{Spot}
use Rattle.ecma_print.specs.declared.place.Place.TheVariants as place
use Rattle.ecma_round_trip_literals.specs.Sources.{with_source}
use Rattle.ecma_round_trip_literals.proofs.Telling.{told}
use Rattle.ecma_kind.specs.declared.operators.MethodKind.{MethodKind}
use Rattle.ecma_print.specs.Functions.{plain, named_function, function_rest, arrow, named_class, class_rest, constructor, class_method, field, static_block, key_value, with_default, getter, setter, method, computed, rest_pattern, function_text, class_member, property, pattern}
use Rattle.ecma_round_trip_literals.proofs.Lists.{first_in_told}

named_function_told : (children : List Laid) → named_function (map told children) ≡ named_function children
named_function_told [] = refl
named_function_told (a ∷ []) = refl
named_function_told (a ∷ b ∷ []) = refl
named_function_told (a ∷ b ∷ c ∷ more) = refl

function_rest_told : (children : List Laid) → function_rest (map told children) ≡ function_rest children
function_rest_told [] = refl
function_rest_told (a ∷ []) = refl
function_rest_told (a ∷ b ∷ []) = refl
function_rest_told (a ∷ b ∷ c ∷ []) = refl
function_rest_told (a ∷ b ∷ c ∷ d ∷ []) = refl
function_rest_told (a ∷ b ∷ c ∷ d ∷ e ∷ more) = refl

arrow_told : (is_async : Bool) (children : List Laid) (spot : Spot) → arrow is_async (map told children) spot ≡ arrow is_async children spot
arrow_told is_async [] spot = refl
arrow_told is_async (a ∷ []) spot = refl
arrow_told is_async (a ∷ b ∷ []) spot = refl
arrow_told is_async (a ∷ b ∷ c ∷ []) spot = refl
arrow_told is_async (a ∷ b ∷ c ∷ d ∷ []) spot = refl
arrow_told is_async (a ∷ b ∷ c ∷ d ∷ e ∷ more) spot = refl

named_class_told : (children : List Laid) → named_class (map told children) ≡ named_class children
named_class_told [] = refl
named_class_told (a ∷ []) = refl
named_class_told (a ∷ b ∷ []) = refl
named_class_told (a ∷ b ∷ c ∷ more) = refl

class_rest_told : (children : List Laid) → class_rest (map told children) ≡ class_rest children
class_rest_told [] = refl
class_rest_told (a ∷ []) = refl
class_rest_told (a ∷ b ∷ []) = refl
class_rest_told (a ∷ b ∷ c ∷ []) = refl
class_rest_told (a ∷ b ∷ c ∷ d ∷ []) = refl
class_rest_told (a ∷ b ∷ c ∷ d ∷ e ∷ []) = refl
class_rest_told (a ∷ b ∷ c ∷ d ∷ e ∷ f ∷ more) = refl

constructor_told : (children : List Laid) → constructor (map told children) ≡ constructor children
constructor_told [] = refl
constructor_told (a ∷ []) = refl
constructor_told (a ∷ b ∷ []) = refl
constructor_told (a ∷ b ∷ c ∷ []) = refl
constructor_told (a ∷ b ∷ c ∷ d ∷ more) = refl

class_method_told : (k : MethodKind) (is_static : Bool) (children : List Laid) → class_method k is_static (map told children) ≡ class_method k is_static children
class_method_told k is_static [] = refl
class_method_told k is_static (a ∷ []) = refl
class_method_told k is_static (a ∷ b ∷ []) = refl
class_method_told k is_static (a ∷ b ∷ c ∷ more) = refl

field_told : (is_static : Bool) (children : List Laid) → field is_static (map told children) ≡ field is_static children
field_told is_static [] = refl
field_told is_static (a ∷ []) = refl
field_told is_static (a ∷ b ∷ []) = refl
field_told is_static (a ∷ b ∷ c ∷ []) = refl
field_told is_static (a ∷ b ∷ c ∷ d ∷ more) = refl

static_block_told : (children : List Laid) → static_block (map told children) ≡ static_block children
static_block_told [] = refl
static_block_told (a ∷ []) = refl
static_block_told (a ∷ b ∷ more) = refl

key_value_told : (children : List Laid) → key_value (map told children) ≡ key_value children
key_value_told [] = refl
key_value_told (a ∷ []) = refl
key_value_told (a ∷ b ∷ []) = refl
key_value_told (a ∷ b ∷ c ∷ more) = refl

with_default_told : (children : List Laid) → with_default (map told children) ≡ with_default children
with_default_told [] = refl
with_default_told (a ∷ []) = refl
with_default_told (a ∷ b ∷ []) = refl
with_default_told (a ∷ b ∷ c ∷ more) = refl

getter_told : (children : List Laid) → getter (map told children) ≡ getter children
getter_told [] = refl
getter_told (a ∷ []) = refl
getter_told (a ∷ b ∷ []) = refl
getter_told (a ∷ b ∷ c ∷ []) = refl
getter_told (a ∷ b ∷ c ∷ d ∷ more) = refl

setter_told : (children : List Laid) → setter (map told children) ≡ setter children
setter_told [] = refl
setter_told (a ∷ []) = refl
setter_told (a ∷ b ∷ []) = refl
setter_told (a ∷ b ∷ c ∷ []) = refl
setter_told (a ∷ b ∷ c ∷ d ∷ []) = refl
setter_told (a ∷ b ∷ c ∷ d ∷ e ∷ more) = refl

method_told : (children : List Laid) → method (map told children) ≡ method children
method_told [] = refl
method_told (a ∷ []) = refl
method_told (a ∷ b ∷ []) = refl
method_told (a ∷ b ∷ c ∷ more) = refl

computed_told : (children : List Laid) (spot : Spot) → computed (map told children) spot ≡ computed children spot
computed_told [] spot = refl
computed_told (a ∷ []) spot = refl
computed_told (a ∷ b ∷ more) spot = refl

rest_pattern_told : (children : List Laid) → rest_pattern (map told children) ≡ rest_pattern children
rest_pattern_told [] = refl
rest_pattern_told (a ∷ more) = refl

pub function_text_told : (k : Kind) (children : List Laid) (spot : Spot) → function_text (with_source k) (map told children) spot ≡ function_text k children spot
function_text_told kind.FnExpr children spot = named_function_told children
function_text_told (kind.FnDecl declare) children spot = named_function_told children
function_text_told (kind.Function is_generator is_async) children spot = function_rest_told children
function_text_told (kind.ArrowExpr is_async is_generator) children spot = arrow_told is_async children spot
function_text_told kind.ClassExpr children spot = named_class_told children
function_text_told (kind.ClassDecl declare) children spot = named_class_told children
function_text_told (kind.Class is_abstract) children spot = class_rest_told children
function_text_told _ children spot = refl

pub class_member_told : (k : Kind) (children : List Laid) → class_member (with_source k) (map told children) ≡ class_member k children
class_member_told (kind.Constructor accessibility is_optional) children = constructor_told children
class_member_told (kind.ClassMethod k modifiers) children = class_method_told k modifiers.is_static children
class_member_told (kind.PrivateMethod k modifiers) children = class_method_told k modifiers.is_static children
class_member_told (kind.ClassProp modifiers readonly declare definite) children = field_told modifiers.is_static children
class_member_told (kind.PrivateProp modifiers readonly declare definite) children = field_told modifiers.is_static children
class_member_told kind.StaticBlock children = static_block_told children
class_member_told _ children = refl

pub property_told : (k : Kind) (children : List Laid) (spot : Spot) → property (with_source k) (map told children) spot ≡ property k children spot
property_told kind.KeyValueProp children spot = key_value_told children
property_told kind.AssignProp children spot = with_default_told children
property_told kind.GetterProp children spot = getter_told children
property_told kind.SetterProp children spot = setter_told children
property_told kind.MethodProp children spot = method_told children
property_told kind.ComputedPropName children spot = computed_told children spot
property_told _ children spot = refl

pub pattern_told : (k : Kind) (children : List Laid) → pattern (with_source k) (map told children) ≡ pattern k children
pattern_told kind.BindingIdent children = first_in_told plain children
pattern_told kind.Param children = first_in_told plain children
pattern_told (kind.TsParamProp accessibility is_override readonly) children = first_in_told plain children
pattern_told (kind.ArrayPat optional) children = first_in_told place.Brackets children
pattern_told (kind.ObjectPat optional) children = first_in_told place.Braces children
pattern_told kind.RestPat children = rest_pattern_told children
pattern_told kind.AssignPat children = with_default_told children
pattern_told kind.KeyValuePatProp children = key_value_told children
pattern_told kind.AssignPatProp children = with_default_told children
pattern_told _ children = refl
