-- Where nodes stand in the body of a constructor, as far as calls of `super` are looked for there.
use Rattle.std.specs.Prelude.{ℕ, Bool, false, true, ◌==◌, ltb, if◌then◌else◌}
use Rattle.ecma_kind.specs.declared.kind.Kind.{Kind}
use Rattle.ecma_kind.specs.declared.kind.Kind.TheVariants as kind
use Rattle.ecma_function.specs.declared.place.Place.{Place}
use Rattle.ecma_function.specs.declared.place.Place.TheVariants as place

abbrev pub is_outside : Place → Bool
is_outside place.Outside = true
is_outside _ = false

-- the key of a member or of a property, and nothing else of it
--   ({ get [f()]() { g(); } });   // f() is evaluated here, g() is not
abbrev pub first_inside : ℕ → Place
first_inside i = if i == 0 then place.Inside else place.Outside

-- what a class extends, and the list of its members
abbrev pub class_part : ℕ → Place
class_part i = if ltb i 2 then place.Inside else place.Outside

-- the test of a case, and its list of statements
abbrev pub case_part : ℕ → Place
case_part i = if i == 1 then place.Statements else place.Inside

abbrev pub in_list : Place → Place
in_list place.Statements = place.Item
in_list p = p

abbrev pub in_statement : Place → Place
in_statement place.Item = place.Alone
in_statement _ = place.Inside

-- where the child at an index stands. Arrow functions are entered, and a block of one is a list of statements; functions are not
abbrev pub place_in : Place → Kind → ℕ → Place
place_in p kind.List i = in_list p
place_in p kind.ExprStmt i = in_statement p
place_in p kind.BlockStmt i = place.Statements
place_in p kind.SwitchCase i = case_part i
place_in p (kind.Function is_generator is_async) i = place.Outside
place_in p kind.StaticBlock i = place.Outside
place_in p (kind.Class is_abstract) i = class_part i
place_in p kind.GetterProp i = first_inside i
place_in p kind.SetterProp i = first_inside i
place_in p (kind.Constructor accessibility is_optional) i = first_inside i
place_in p (kind.ClassMethod kind modifiers) i = first_inside i
place_in p (kind.PrivateMethod kind modifiers) i = first_inside i
place_in p (kind.ClassProp modifiers readonly declare definite) i = first_inside i
place_in p (kind.PrivateProp modifiers readonly declare definite) i = first_inside i
place_in p _ i = place.Inside
