-- Classes with parameter properties that are not lowered, and which of them is told.
use Rattle.std.specs.Prelude.{◌≡◌, ℕ, Bool, false, ◌&&◌, not, Option, Some, None, Result, Ok, Err}
use Rattle.ecma_kind.specs.declared.kind.Kind.{Kind}
use Rattle.ecma_kind.specs.declared.kind.Kind.TheVariants as kind
use Rattle.ecma_rules.specs.Children.{kind_of}
use Rattle.ecma_rules.specs.Failing.{failing_here, first_failing}
use Rattle.ecma_tree.specs.declared.node.Node.{Node}
use Rattle.ecma_properties.specs.declared.error.PropertyError.{PropertyError}
use Rattle.ecma_properties.specs.declared.error.PropertyError.TheVariants.{Unlowered, NoMemory}
use Rattle.ecma_properties.specs.declared.error.Rule.{Rule}
use Rattle.ecma_properties.specs.declared.error.Rule.TheVariants as rule
use Rattle.ecma_properties.specs.declared.standing.Around.{Around}
use Rattle.ecma_properties.specs.Keys.{keeps_keys}
use Rattle.ecma_properties.specs.Standing.{around_in, at_root}
use Rattle.ecma_properties.specs.Supers.{misplaces_super}

-- a class that is apart keeps no key, since no variable before the statement would do; and `super` is called in its place
--   (() => class { [f()] = 1; constructor(private a) { } });   // breaks the first
--   class A extends B { constructor(private a) { if (a) super(); } }   // breaks the second
abbrev pub is_broken : Rule → Bool → Node → Bool
is_broken rule.KeyAlias apart class = apart && keeps_keys class
is_broken rule.SuperPlace apart class = misplaces_super class

abbrev pub fails_by : Kind → Rule → Bool → Node → Bool
fails_by (kind.Class is_abstract) r apart n = is_broken r apart n
fails_by _ r apart n = false

-- what goes with the types is not asked
abbrev pub refused_here : Rule → Around → Node → Option ℕ
refused_here r around n = failing_here (not around.is_gone && fails_by (kind_of n) r around.is_apart n) n

-- the least place at which a class begins that breaks a rule
abbrev pub first_refused : Rule → Node → Option ℕ
first_refused r tree = first_failing Around (refused_here r) around_in tree at_root

-- a class that breaks the first rule is told, or else one that breaks the second; or there is neither
abbrev pub Answers : Result (Unit {0}) PropertyError → Option ℕ → Option ℕ → Type 0
Answers (Ok _) keys supers = (keys ≡ None) × (supers ≡ None)
Answers (Err (Unlowered rule.KeyAlias at)) keys supers = keys ≡ Some at
Answers (Err (Unlowered rule.SuperPlace at)) keys supers = (keys ≡ None) × (supers ≡ Some at)
Answers (Err NoMemory) keys supers = Unit {0}
