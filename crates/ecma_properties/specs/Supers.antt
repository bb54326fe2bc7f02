-- `super(..)` in the constructor of a class with parameter properties (ECMAScript, 13.3.7; TypeScript handbook, "Parameter Properties").
use Rattle.std.specs.Prelude.{ℕ, suc, Bool, true, false, ◌&&◌, ◌+◌, ◌-◌, ◌^◌, ◌==◌, ltb, min, not, cond, List, [], ◌∷◌, Option, Some, None, get_or, map, slice_get}
use Rattle.std.specs.List.{list_any}
use Rattle.std.specs.Option.{option_map_or}
use Rattle.ecma_kind.specs.Sorts.{is_type_wrapper}
use Rattle.ecma_kind.specs.declared.kind.Kind.{Kind}
use Rattle.ecma_kind.specs.declared.kind.Kind.TheVariants as kind
use Rattle.ecma_rules.specs.Children.{child_holds, child_is, items_at, kind_of}
use Rattle.ecma_rules.specs.Supers.{is_super}
use Rattle.ecma_strip.specs.Staying.{stays}
use Rattle.ecma_tree.specs.Layers.{from_leaves}
use Rattle.ecma_tree.specs.Sorted.{is_list}
use Rattle.ecma_tree.specs.declared.node.Node.{Node, out-Node}
use Rattle.ecma_properties.specs.Classes.{constructor_of, extends_among, has_properties}

-- ---- calls

abbrev pub call_by : Kind → Node → Bool
call_by kind.CallExpr n = child_is is_super n 0
call_by _ n = false

--   super(a)
abbrev pub is_super_call : Node → Bool
is_super_call n = call_by (kind_of n) n

abbrev pub under_step : Node → List Node → Node
under_step n inner = cond (is_type_wrapper (kind_of n)) (get_or inner 0 n) n

-- an expression without the types round it
--   (a as T)!   // (a as T)
abbrev pub under_types : Node → Node
under_types = from_leaves Node under_step

abbrev pub stmt_by : Kind → Node → Bool
stmt_by kind.ExprStmt n = child_holds (λ e. is_super_call (under_types e)) n 0
stmt_by _ n = false

-- also with types round the call
--   super(a);
--   super(a) as T;
abbrev pub is_super_stmt : Node → Bool
is_super_stmt n = stmt_by (kind_of n) n

-- ---- what a function has of its own

-- the key of a member, and nothing else of it
abbrev pub first_alone : ℕ → Bool
first_alone i = i == 0

-- what a class extends, and its members
abbrev pub class_parts : ℕ → Bool
class_parts i = ltb i 2

-- whether the child at an index belongs to the function around: arrow functions do, functions do not, and of classes what they extend and the keys in
-- brackets of their members
abbrev pub shares : Kind → ℕ → Bool
shares (kind.Function is_generator is_async) i = false
shares kind.StaticBlock i = false
shares (kind.Class is_abstract) i = class_parts i
shares kind.GetterProp i = first_alone i
shares kind.SetterProp i = first_alone i
shares (kind.Constructor accessibility is_optional) i = first_alone i
shares (kind.ClassMethod k modifiers) i = first_alone i
shares (kind.PrivateMethod k modifiers) i = first_alone i
shares (kind.ClassProp modifiers readonly declare definite) i = first_alone i
shares (kind.PrivateProp modifiers readonly declare definite) i = first_alone i
shares _ i = true

-- an item of a list that goes with the types
abbrev pub goes_at : Node → ℕ → Bool
goes_at n i = is_list (kind_of n) && child_holds (λ item. not (stays item)) n i

abbrev pub is_entered : Node → ℕ → Bool
is_entered n i = shares (kind_of n) i && not (goes_at n i)

-- ---- how many

-- code counts up to the greatest number of 64 bits
abbrev pub most : ℕ
most = 2 ^ 64 - 1

abbrev pub cut : ℕ → ℕ
cut n = min n most

abbrev pub count : Bool → ℕ
count true = 1
count false = 0

-- of children, of which the first is the one at i
abbrev pub total_from : (ℕ → Bool) → ℕ → List ℕ → ℕ
total_from entered i [] = 0
total_from entered i (k ∷ ks) = cond (entered i) k 0 + total_from entered (suc i) ks

abbrev pub supers_step : Node → List ℕ → ℕ
supers_step n kids = count (is_super_call n) + total_from (is_entered n) 0 kids

-- how many `super(..)` of its own a function has in one of its parts
--   () => super();   // one
--   class { [super()]() { super(); } }   // one: the key
unfoldable pub supers_in : Node → ℕ
supers_in = from_leaves ℕ supers_step

abbrev pub supers_at : Node → ℕ → ℕ
supers_at n i = option_map_or supers_in (slice_get (out-Node n).children i) 0

-- of the child at an index, where it is entered
abbrev pub supers_within : Node → ℕ → ℕ
supers_within n i = cond (is_entered n i) (supers_at n i) 0

-- in the parameters of a constructor and in its body
abbrev pub supers_of : Node → ℕ
supers_of constructor = supers_at constructor 1 + supers_at constructor 2

-- the statements of the body
abbrev pub statements_of : Node → List Node
statements_of constructor = option_map_or (λ body. items_at body 0) (slice_get (out-Node constructor).children 2) []

-- ---- where it has to stand

-- one is all that there is, and it is a statement of the body
abbrev pub calls_once : Node → Bool
calls_once constructor = supers_of constructor == 1 && list_any is_super_stmt (statements_of constructor)

abbrev pub constructor_calls_once : Node → Bool
constructor_calls_once class = option_map_or calls_once (constructor_of class) false

-- a class that extends another, with parameter properties, whose constructor does not call `super` so: there is no place for what it assigns
--   class A extends B { constructor(private a) { f(); super(); } }
--   class A extends B { constructor(private a) { if (a) super(); } }   // refused
abbrev pub misplaces_super : Node → Bool
misplaces_super class = extends_among (out-Node class).children && (has_properties class && not (constructor_calls_once class))
