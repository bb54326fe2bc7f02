-- References, calls, constructions and function objects (ECMAScript, 6.2.5, 10.2 ECMAScript Function Objects, 13.3).
use Rattle.std.specs.Prelude.{ℕ, pos, List, [], ◌∷◌, ◌++◌, map, Option, Some, None, Bool, true, cond, nat_eq, bytes_eq, codes}
use Rattle.ecma_number.specs.declared.js_number.JsNumber.TheVariants.{Whole}
use Rattle.ecma_tree.specs.declared.node.Node.{Node}
use Rattle.ecma_runs.specs.declared.observation.Event.TheVariants as event
use Rattle.ecma_runs.specs.Values.{Value, Undefined, Null, Truth, Number, Own, Host, Error}
use Rattle.ecma_runs.specs.State.{Arguments, Unbound, Forbidden, Given, Made, Activation, Sort, Plain, Method, Arrow, BaseClass, DerivedClass, Closure, Callable, Code, Bound, Passed, Property, Fixed, Open, Entry, Ordinary, Object}
use Rattle.ecma_runs.specs.Run.{Run, ◌>>=◌, give, outside, type_error, when, given, each}
use Rattle.ecma_runs.specs.Host.{show, use_host, read_free, read_free_typed, is_open_object, is_open_callee}
use Rattle.ecma_runs.specs.Environment.{Reference, ToVariable, ToFree, ToMember, ToSuper, ToImportMeta, ToMetaMember, ToValue, read_variable, write_variable, activation, set_activation, with_arguments, bind_this}
use Rattle.ecma_runs.specs.Meaning.{AsCall, AsConstruct, ExecutionContext}
use Rattle.ecma_runs.specs.Objects.{Calling, Function, BoundFunction, new_object, calling_at, prototype_at, found_from, elements_at, new_arguments}
use Rattle.ecma_runs.specs.Members.{got, member, set_member, super_member, set_super_member, delete_member, prototype_property}

-- the free name `arguments`: an object with the arguments of the call of the nearest function that is no arrow, made at the first read

abbrev pub made_arguments : ℕ → Activation → List Value → Run Value
made_arguments place a arguments = new_arguments arguments >>= λ object. set_activation place (with_arguments (Made object) a) >>= λ _. give (Own object)

abbrev pub arguments_by : ℕ → Activation → Arguments → Run Value → Run Value
arguments_by place a Unbound free = free
arguments_by place a Forbidden free = outside
arguments_by place a (Given arguments) free = made_arguments place a arguments
arguments_by place a (Made object) free = give (Own object)

-- a free name, read with what the host gives for it
abbrev pub read_name : ExecutionContext → List ℕ → Run Value → Run Value
read_name x name free = when (bytes_eq name (codes "arguments")) (activation x.scope >>= λ a. arguments_by a.0 a.1 a.1.arguments free) free

-- references

-- 6.2.5.5 GetValue
abbrev pub read : ExecutionContext → Reference → Run Value
read x (ToVariable place id) = read_variable x.provided.imports place id
read x (ToFree name) = read_name x name (read_free x.provided.frees name)
read x (ToMember o key) = member x o key
read x (ToSuper this base key) = super_member x this base key
read x ToImportMeta = outside
read x (ToMetaMember v) = give v
read x (ToValue v) = give v

-- 6.2.5.6 PutValue; writing a free name is open
abbrev pub write : ExecutionContext → Reference → Value → Run (Unit {0})
write x (ToVariable place id) v = write_variable place id v
write x (ToMember o key) v = set_member x o key v
write x (ToSuper this base key) v = set_super_member x this base key v
write x r v = outside

-- the object of a member, and the operand of `new`: free `Math` and `Date` are open
abbrev pub read_object : ExecutionContext → Reference → Run Value
read_object x (ToFree name) = when (is_open_object name) outside (read x (ToFree name))
read_object x r = read x r

-- 13.5.3.1 typeof: a free name without value throws nothing
abbrev pub read_typed : ExecutionContext → Reference → Run Value
read_typed x (ToFree name) = read_name x name (read_free_typed x.provided.frees name)
read_typed x r = read x r

-- 13.5.1.2 delete; of a name, of a `super` member and of `import.meta.url` it is open
abbrev pub delete : Reference → Run Value
delete (ToMember o key) = delete_member o key
delete (ToValue v) = give (Truth true)
delete r = outside

-- what is called

-- the methods of functions (20.2.3) that are known as callees
pub data Borrowing : Type 0 where
  Apply : Borrowing
  Bind : Borrowing
  Call : Borrowing

pub data Callee : Type 0 where
  -- a value, with `this` of the call
  Called : Value → Value → Callee
  -- a `super` member, with `this`
  CalledSuper : Value → Value → Callee
  -- a method of the function at this place
  Borrowed : Borrowing → ℕ → Callee

abbrev pub borrowing_of : List ℕ → Option Borrowing
borrowing_of key = cond (bytes_eq key (codes "call")) (Some Call) (cond (bytes_eq key (codes "apply")) (Some Apply) (cond (bytes_eq key (codes "bind")) (Some Bind) None))

-- a member of an own object as a callee: where a function has no property of that key, its method
abbrev pub own_callee : ExecutionContext → ℕ → Option Borrowing → Option Calling → Option Property → Run Callee
own_callee x place (Some borrowing) (Some calling) (Some Open) = give (Borrowed borrowing place)
own_callee x place borrowing calling p = got x (Own place) p >>= λ f. give (Called f (Own place))

abbrev pub member_callee : ExecutionContext → Value → List ℕ → Run Callee
member_callee x (Own place) key = calling_at place >>= λ o. found_from place key >>= λ p. own_callee x place (borrowing_of key) o p
member_callee x o key = member x o key >>= λ f. give (Called f o)

-- a callee, and `this` of its call: the object for a member, else undefined (13.3.6.2 EvaluateCall); free `Math`, `Date` and `eval` are open
abbrev pub callee_by : ExecutionContext → Reference → Run Callee
callee_by x (ToFree name) = when (is_open_callee name) outside (read x (ToFree name) >>= λ f. give (Called f Undefined))
callee_by x (ToMember o key) = member_callee x o key
callee_by x (ToSuper this base key) = super_member x this base key >>= λ f. give (CalledSuper f this)
callee_by x r = read x r >>= λ f. give (Called f Undefined)

-- calls

-- a call of a host value
abbrev pub call_host : ℕ → Value → List Value → Run Value
call_host number receiver arguments = show receiver >>= λ this. each show arguments >>= λ shown. use_host (event.HostCall number this shown)

-- a class can not be called (10.2.1 [[Call]])
abbrev pub call_function : ExecutionContext → ℕ → Value → List Value → Sort → Run Value
call_function x place receiver arguments BaseClass = type_error
call_function x place receiver arguments DerivedClass = type_error
call_function x place receiver arguments sort = x.functions.invoke place (AsCall receiver) arguments

abbrev pub call_target : ExecutionContext → ℕ → Value → List Value → Option Calling → Run Value
call_target x place receiver arguments (Some (Function sort)) = call_function x place receiver arguments sort
call_target x place receiver arguments o = outside

-- 10.4.1.1 [[Call]] of a bound function: its target, with the bound values
abbrev pub call_calling : ExecutionContext → ℕ → Value → List Value → Option Calling → Run Value
call_calling x place receiver arguments None = type_error
call_calling x place receiver arguments (Some (Function sort)) = call_function x place receiver arguments sort
call_calling x place receiver arguments (Some (BoundFunction target this given)) = calling_at target >>= λ o. call_target x target this (given ++ arguments) o

abbrev pub call_own : ExecutionContext → ℕ → Value → List Value → Run Value
call_own x place receiver arguments = calling_at place >>= λ o. call_calling x place receiver arguments o

-- a call of a value (13.3.6.2 EvaluateCall); a call of an error is open
abbrev pub call_value : ExecutionContext → Value → Value → List Value → Run Value
call_value x (Own place) receiver arguments = call_own x place receiver arguments
call_value x (Host number) receiver arguments = call_host number receiver arguments
call_value x (Error error_kind) receiver arguments = outside
call_value x v receiver arguments = type_error

abbrev pub call_super_calling : ExecutionContext → ℕ → Value → List Value → Option Calling → Run Value
call_super_calling x place receiver arguments None = outside
call_super_calling x place receiver arguments (Some (Function BaseClass)) = outside
call_super_calling x place receiver arguments (Some (Function DerivedClass)) = outside
call_super_calling x place receiver arguments o = call_calling x place receiver arguments o

-- a call of a `super` member; of a class, or of what is no function of the program, it is open
abbrev pub call_super_value : ExecutionContext → Value → Value → List Value → Run Value
call_super_value x (Own place) receiver arguments = calling_at place >>= λ o. call_super_calling x place receiver arguments o
call_super_value x v receiver arguments = outside

-- the first of some values, and the others

abbrev pub first_or_undefined : List Value → Value
first_or_undefined [] = Undefined
first_or_undefined (v ∷ vs) = v

abbrev pub all_but_first : List Value → List Value
all_but_first [] = []
all_but_first (v ∷ vs) = vs

-- CreateListFromArrayLike (7.3), of an array or `arguments`; of another object it is open
abbrev pub list_from : Value → Run (List Value)
list_from Undefined = give []
list_from Null = give []
list_from (Own place) = elements_at place
list_from (Host number) = outside
list_from (Error error_kind) = outside
list_from v = type_error

-- what is bound, with more arguments
abbrev pub bound_to : ℕ → Value → List Value → Option Calling → Callable
bound_to place this given (Some (BoundFunction target this' given')) = Bound target this' (given' ++ given)
bound_to place this given o = Bound place this given

-- what is the name and the length of a function is open
abbrev pub function_entries : List Entry
function_entries = record { key = codes "name"; property = Open } ∷ record { key = codes "length"; property = Open } ∷ []

abbrev pub function_object : List Entry → Option ℕ → Callable → Object
function_object entries parent callable = record { entries = entries; prototype = parent; callable = Some callable; extent = Ordinary }

-- 10.4.1.3 BoundFunctionCreate
abbrev pub bind_function : ℕ → Value → List Value → Run Value
bind_function place this given = calling_at place >>= λ o. prototype_at place >>= λ p. new_object (function_object function_entries p (bound_to place this given o)) >>= λ f. give (Own f)

-- 20.2.3.1 apply, 20.2.3.2 bind, 20.2.3.3 call
abbrev pub call_borrowed : ExecutionContext → Borrowing → ℕ → List Value → Run Value
call_borrowed x Apply place arguments = list_from (first_or_undefined (all_but_first arguments)) >>= λ list. call_own x place (first_or_undefined arguments) list
call_borrowed x Bind place arguments = bind_function place (first_or_undefined arguments) (all_but_first arguments)
call_borrowed x Call place arguments = call_own x place (first_or_undefined arguments) (all_but_first arguments)

abbrev pub call : ExecutionContext → Callee → List Value → Run Value
call x (Called f receiver) arguments = call_value x f receiver arguments
call x (CalledSuper f receiver) arguments = call_super_value x f receiver arguments
call x (Borrowed borrowing place) arguments = call_borrowed x borrowing place arguments

-- constructions

-- a construction answered by a primitive is open
abbrev pub constructed : Value → Run Value
constructed (Own place) = give (Own place)
constructed (Host number) = give (Host number)
constructed v = outside

-- 7.2.4 IsConstructor
abbrev pub construct_function : ExecutionContext → ℕ → ℕ → List Value → Sort → Run Value
construct_function x place new_target arguments Method = type_error
construct_function x place new_target arguments Arrow = type_error
construct_function x place new_target arguments sort = x.functions.invoke place (AsConstruct new_target) arguments

abbrev pub construct_target : ExecutionContext → ℕ → ℕ → List Value → Option Calling → Run Value
construct_target x place new_target arguments (Some (Function sort)) = construct_function x place new_target arguments sort
construct_target x place new_target arguments o = outside

-- 10.4.1.2 [[Construct]] of a bound function
abbrev pub construct_calling : ExecutionContext → ℕ → ℕ → List Value → Option Calling → Run Value
construct_calling x place new_target arguments None = type_error
construct_calling x place new_target arguments (Some (Function sort)) = construct_function x place new_target arguments sort
construct_calling x place new_target arguments (Some (BoundFunction target this given)) =
    calling_at target >>= λ o. construct_target x target (cond (nat_eq place new_target) target new_target) (given ++ arguments) o

abbrev pub construct_own : ExecutionContext → ℕ → ℕ → List Value → Run Value
construct_own x place new_target arguments = calling_at place >>= λ o. construct_calling x place new_target arguments o

-- 13.3.5.1.1 EvaluateNew
abbrev pub construct : ExecutionContext → Value → List Value → Run Value
construct x (Own place) arguments = construct_own x place place arguments
construct x (Host number) arguments = each show arguments >>= λ shown. use_host (event.HostNew number shown) >>= λ v. constructed v
construct x (Error error_kind) arguments = outside
construct x v arguments = type_error

-- the place of an own object
abbrev pub own : Value → Run ℕ
own (Own place) = give place
own v = outside

-- super(..) (13.3.7.1 SuperCall: Evaluation)
abbrev pub super_call : ExecutionContext → List Value → Run Value
super_call x arguments =
    activation x.scope >>= λ a. given a.1.new_target >>= λ t. own t >>= λ new_target. given a.1.function >>= λ function.
    prototype_at function >>= λ parent. given parent >>= λ place.
    construct_own x place new_target arguments >>= λ v.
    bind_this x.scope v >>= λ _. x.functions.fields function v >>= λ _. give v

-- function objects

-- a place for the prototype of what a function constructs (10.2.5 MakeConstructor); its `constructor` is open
abbrev pub new_prototype : Option ℕ → Run ℕ
new_prototype parent = new_object (record { entries = record { key = codes "constructor"; property = Open } ∷ []; prototype = parent; callable = None; extent = Ordinary })

abbrev pub closure_of : Node → Sort → Option ℕ → ExecutionContext → Closure
closure_of node sort home x = record { node = node; scope = x.scope; sort = sort; home = home; field_keys = [] }

-- a function object (10.2.3 OrdinaryFunctionCreate)
abbrev pub new_function : List Entry → Option ℕ → Node → Sort → Option ℕ → ExecutionContext → Run ℕ
new_function entries parent node sort home x = new_object (function_object entries parent (Code (closure_of node sort home x)))

-- the property `prototype`, which can be written but of a class
abbrev pub prototype_entries : Bool → ℕ → List Entry
prototype_entries writable place = record { key = codes "prototype"; property = Fixed writable (Own place) } ∷ function_entries

-- a function that can be constructed also takes a place for its prototype
abbrev pub make_function : Node → Sort → Option ℕ → ExecutionContext → Run ℕ
make_function node Plain home x = new_prototype None >>= λ place. new_function (prototype_entries true place) None node Plain home x
make_function node sort home x = new_function function_entries None node sort home x

-- the keys of what stands above the prototypes of all generators: of these (27.5.1, 27.6.1), and of iterators in later editions
abbrev pub iterator_keys : List (List ℕ)
iterator_keys = codes "next" ∷ codes "return" ∷ codes "throw" ∷ codes "drop" ∷ codes "every" ∷ codes "filter" ∷ codes "find" ∷ codes "flatMap" ∷ codes "forEach" ∷ codes "map"
    ∷ codes "reduce" ∷ codes "some" ∷ codes "take" ∷ codes "toArray" ∷ []

abbrev pub open_entries : List (List ℕ) → List Entry
open_entries keys = map (λ key. record { key = key; property = Open }) keys

abbrev pub plain_object : List Entry → Option ℕ → Object
plain_object entries parent = record { entries = entries; prototype = parent; callable = None; extent = Ordinary }

-- a generator can not be constructed, and has a prototype without `constructor`, which can be written (15.5.3, 15.5.4, 15.6.3, 15.6.4 InstantiateGeneratorFunctionObject and others).
-- What all generators and all their prototypes have above them (27.3.3, 27.4.3), each has for itself here: nobody comes to it but by keys that are open, and bound functions have it too.
abbrev pub make_generator : Node → Option ℕ → ExecutionContext → Run ℕ
make_generator node home x =
    new_object (plain_object (open_entries iterator_keys) None) >>= λ above. new_object (plain_object [] (Some above)) >>= λ place.
    new_object (plain_object (open_entries (codes "prototype" ∷ [])) None) >>= λ functions. new_function (prototype_entries true place) (Some functions) node Method home x

-- the keys of what stands above all regular expressions (22.2.6 Properties of the RegExp Prototype Object, B.2.4, and what later editions add)
abbrev pub regular_expression_keys : List (List ℕ)
regular_expression_keys = codes "exec" ∷ codes "test" ∷ codes "compile" ∷ codes "source" ∷ codes "flags" ∷ codes "dotAll" ∷ codes "global" ∷ codes "hasIndices" ∷ codes "ignoreCase"
    ∷ codes "multiline" ∷ codes "sticky" ∷ codes "unicode" ∷ codes "unicodeSets" ∷ []

-- a regular expression: an object of which nothing is known but that its `lastIndex` can be set, and is 0 until it is (22.2.3.3 RegExpInitialize)
abbrev pub new_regular_expression : Run ℕ
new_regular_expression =
    new_object (plain_object (open_entries regular_expression_keys) None) >>= λ above.
    new_object (plain_object (record { key = codes "lastIndex"; property = Fixed true (Number (Whole (pos 0))) } ∷ []) (Some above))

-- the two places of a function expression without a name that is called where it stands, so that nobody holds it
abbrev pub pass_function : Node → ExecutionContext → Run ℕ
pass_function node x = new_prototype None >>= λ place. new_object (function_object (prototype_entries true place) None (Passed (closure_of node Plain None x)))

abbrev pub parent_from : Value → Run (Option ℕ)
parent_from (Own place) = give (Some place)
parent_from (Host number) = outside
parent_from (Error error_kind) = outside
parent_from v = give None

-- 10.1.14 GetPrototypeFromConstructor; a host value or an error there is open
abbrev pub prototype_for : ℕ → Run (Option ℕ)
prototype_for place = prototype_property place >>= λ v. parent_from v
