-- References, calls, constructions and function objects keep it so, where the functions of the program do and construct objects.
use Rattle.std.proofs.Common.{refl, ℕ, List, [], ◌∷◌, ◌++◌, Option, Some, None, true, false, cond, nat_eq, bytes_eq, codes, pos}
use Rattle.ecma_number.specs.declared.js_number.JsNumber.TheVariants.{Whole}
use Rattle.ecma_tree.specs.declared.node.Node.{Node}
use Rattle.ecma_runs.specs.declared.observation.Event.TheVariants as event
use Rattle.ecma_runs.specs.declared.shown.ErrorKind.TheVariants as error
use Rattle.ecma_runs.specs.Values.{Value, Undefined, Null, Truth, Number, Text, Own, Host, Error}
use Rattle.ecma_runs.specs.State.{Arguments, Unbound, Forbidden, Given, Made, Activation, Sort, Plain, Method, Arrow, BaseClass, DerivedClass, Property, Data, Fixed, Accessor, Open, Entry, Passed, State}
use Rattle.ecma_runs.specs.Run.{Run, ◌>>=◌, give}
use Rattle.ecma_runs.specs.Host.{show, read_free, read_free_typed, is_open_object, is_open_callee}
use Rattle.ecma_runs.specs.Environment.{Reference, ToVariable, ToFree, ToMember, ToSuper, ToImportMeta, ToMetaMember, ToValue, with_arguments}
use Rattle.ecma_runs.specs.Meaning.{AsCall, AsConstruct, Invocation, Functions, ExecutionContext}
use Rattle.ecma_runs.specs.Objects.{Calling, Function, BoundFunction, Base, calling_at}
use Rattle.ecma_runs.specs.Members.{got, member, set_by, set_member, super_member, set_super_member}
use Rattle.ecma_runs.specs.Functions.{made_arguments, arguments_by, read_name, read, write, read_object, read_typed, delete, Borrowing, Apply, Bind, Call, Callee, Called, CalledSuper, Borrowed, borrowing_of, own_callee, member_callee, callee_by, call_host, call_function, call_target, call_calling, call_own, call_value, call_super_calling, call_super_value, call_borrowed, list_from, bind_function, first_or_undefined, all_but_first, call, constructed, construct_function, construct_target, construct_calling, construct_own, construct, own, super_call, bound_to, function_entries, function_object, new_prototype, closure_of, new_function, prototype_entries, make_function, iterator_keys, open_entries, plain_object, make_generator, regular_expression_keys, new_regular_expression, pass_function, parent_from, prototype_for}
use Rattle.ecma_run_constructions.proofs.Keeping.{IsObject, fine_same, Has, Held, Keeps, bind, give_keeps, throw_keeps, outside_keeps, when_keeps, given_keeps, each_keeps, Gives, then_gives, bind_given}
use Rattle.ecma_run_constructions.proofs.States.{show_keeps, use_host_keeps, read_free_keeps, read_free_typed_keeps, read_variable_keeps, write_variable_keeps, activation_then, activation_keeps, bind_this_keeps, new_object_keeps, calling_at_keeps, prototype_at_keeps, found_from_keeps, found_from_base_keeps, elements_at_keeps, text_member_keeps, put_on_keeps, delete_member_keeps, prototype_property_keeps}
use Rattle.ecma_runs.specs.Laws.{state_behind}

-- functions that keep it so, and construct objects
pub record Sound (f : Functions) : Type 0 where
  pub invoke : (place : ℕ) (how : Invocation) (vs : List Value) → Keeps (f.invoke place how vs)
  pub fields : (place : ℕ) (v : Value) → Keeps (f.fields place v)
  pub constructs : (place new_target : ℕ) (vs : List Value) → Gives IsObject (f.invoke place (AsConstruct new_target) vs)

own_keeps : (v : Value) → Keeps (own v)
own_keeps (Own place) = give_keeps place
own_keeps _ = outside_keeps

list_from_keeps : (v : Value) → Keeps (list_from v)
list_from_keeps Undefined = give_keeps []
list_from_keeps Null = give_keeps []
list_from_keeps (Own place) = elements_at_keeps place
list_from_keeps (Host number) = outside_keeps
list_from_keeps (Error error_kind) = outside_keeps
list_from_keeps _ = throw_keeps (Error error.Kind)

bind_function_keeps : (place : ℕ) (this : Value) (vs : List Value) → Keeps (bind_function place this vs)
bind_function_keeps place this vs = bind (calling_at_keeps place) (λ o. bind (prototype_at_keeps place) (λ p. bind (new_object_keeps (function_object function_entries p (bound_to place this vs o))) (λ f. give_keeps (Own f))))

call_host_keeps : (number : ℕ) (receiver : Value) (vs : List Value) → Keeps (call_host number receiver vs)
call_host_keeps number receiver vs = bind (show_keeps receiver) (λ this. bind (each_keeps show show_keeps vs) (λ shown. use_host_keeps (event.HostCall number this shown)))

constructed_keeps : (v : Value) → Keeps (constructed v)
constructed_keeps (Own place) = give_keeps (Own place)
constructed_keeps (Host number) = give_keeps (Host number)
constructed_keeps _ = outside_keeps

pub delete_keeps : (r : Reference) → Keeps (delete r)
delete_keeps (ToMember o key) = delete_member_keeps o key
delete_keeps (ToValue v) = give_keeps (Truth true)
delete_keeps _ = outside_keeps

-- the object `arguments` is made, in the record that has the arguments
made_held : (place : ℕ) (a : Activation) (vs : List Value) (s : State) → Has s.environments place a → Held s (state_behind (made_arguments place a vs s))
made_held place a vs s has = λ p f. fine_same a (with_arguments (Made _) a) refl place s.environments p has f

arguments_held : (place : ℕ) (a : Activation) (g : Arguments) (free : Run Value) → Keeps free → (s : State) → Has s.environments place a → Held s (state_behind (arguments_by place a g free s))
arguments_held place a Unbound free h s has = h.at s
arguments_held place a Forbidden free h s has = λ p f. f
arguments_held place a (Given vs) free h s has = made_held place a vs s has
arguments_held place a (Made object) free h s has = λ p f. f

module _ (x : ExecutionContext) where
  read_name_keeps : (name : List ℕ) (free : Run Value) → Keeps free → Keeps (read_name x name free)
  read_name_keeps name free h =
      when_keeps (bytes_eq name (codes "arguments")) (activation_then (λ a. arguments_by a.0 a.1 a.1.arguments free) (λ place a s has. arguments_held place a a.arguments free h s has) x.scope) h

  module _ (sound : Sound x.functions) where
    -- ---- members

    got_keeps : (receiver : Value) (p : Option Property) → Keeps (got x receiver p)
    got_keeps receiver None = give_keeps Undefined
    got_keeps receiver (Some (Data v)) = give_keeps v
    got_keeps receiver (Some (Fixed writable v)) = give_keeps v
    got_keeps receiver (Some (Accessor (Some getter) setter)) = sound.invoke getter (AsCall receiver) []
    got_keeps receiver (Some (Accessor None setter)) = give_keeps Undefined
    got_keeps receiver (Some Open) = outside_keeps

    pub member_keeps : (o : Value) (key : List ℕ) → Keeps (member x o key)
    member_keeps Undefined key = throw_keeps (Error error.Kind)
    member_keeps Null key = throw_keeps (Error error.Kind)
    member_keeps (Truth truth) key = outside_keeps
    member_keeps (Number number) key = outside_keeps
    member_keeps (Text text) key = text_member_keeps text key
    member_keeps (Own place) key = bind (found_from_keeps place key) (λ p. got_keeps (Own place) p)
    member_keeps (Host number) key = use_host_keeps (event.HostGet number key)
    member_keeps (Error error_kind) key = outside_keeps

    set_by_keeps : (key : List ℕ) (receiver v : Value) (p : Option Property) → Keeps (set_by x key receiver v p)
    set_by_keeps key receiver v (Some (Accessor getter (Some setter))) = bind (sound.invoke setter (AsCall receiver) (v ∷ [])) (λ _. give_keeps tt)
    set_by_keeps key receiver v (Some (Accessor getter None)) = throw_keeps (Error error.Kind)
    set_by_keeps key receiver v (Some (Fixed false old)) = throw_keeps (Error error.Kind)
    set_by_keeps key receiver v (Some (Fixed true old)) = put_on_keeps receiver key v
    set_by_keeps key receiver v (Some Open) = outside_keeps
    set_by_keeps key receiver v (Some (Data old)) = put_on_keeps receiver key v
    set_by_keeps key receiver v None = put_on_keeps receiver key v

    set_member_keeps : (o : Value) (key : List ℕ) (v : Value) → Keeps (set_member x o key v)
    set_member_keeps (Own place) key v = bind (found_from_keeps place key) (λ p. set_by_keeps key (Own place) v p)
    set_member_keeps (Host number) key v = bind (show_keeps v) (λ w. bind (use_host_keeps (event.HostSet number key w)) (λ _. give_keeps tt))
    set_member_keeps _ key v = outside_keeps

    super_member_keeps : (receiver : Value) (base : Base) (key : List ℕ) → Keeps (super_member x receiver base key)
    super_member_keeps receiver base key = bind (found_from_base_keeps base key) (λ p. got_keeps receiver p)

    set_super_member_keeps : (receiver : Value) (base : Base) (key : List ℕ) (v : Value) → Keeps (set_super_member x receiver base key v)
    set_super_member_keeps (Own place) base key v = bind (found_from_base_keeps base key) (λ p. set_by_keeps key (Own place) v p)
    set_super_member_keeps _ base key v = outside_keeps

    -- ---- references

    pub read_keeps : (r : Reference) → Keeps (read x r)
    read_keeps (ToVariable place id) = read_variable_keeps x.provided.imports place id
    read_keeps (ToFree name) = read_name_keeps name (read_free x.provided.frees name) (read_free_keeps x.provided.frees name)
    read_keeps (ToMember o key) = member_keeps o key
    read_keeps (ToSuper this base key) = super_member_keeps this base key
    read_keeps ToImportMeta = outside_keeps
    read_keeps (ToMetaMember v) = give_keeps v
    read_keeps (ToValue v) = give_keeps v

    pub write_keeps : (r : Reference) (v : Value) → Keeps (write x r v)
    write_keeps (ToVariable place id) v = write_variable_keeps place id v
    write_keeps (ToMember o key) v = set_member_keeps o key v
    write_keeps (ToSuper this base key) v = set_super_member_keeps this base key v
    write_keeps _ v = outside_keeps

    pub read_object_keeps : (r : Reference) → Keeps (read_object x r)
    read_object_keeps (ToFree name) = when_keeps (is_open_object name) outside_keeps (read_keeps (ToFree name))
    read_object_keeps r = read_keeps r

    pub read_typed_keeps : (r : Reference) → Keeps (read_typed x r)
    read_typed_keeps (ToFree name) = read_name_keeps name (read_free_typed x.provided.frees name) (read_free_typed_keeps x.provided.frees name)
    read_typed_keeps r = read_keeps r

    -- ---- callees

    got_callee : (place : ℕ) (p : Option Property) → Keeps (got x (Own place) p >>= λ f. give (Called f (Own place)))
    got_callee place p = bind (got_keeps (Own place) p) (λ f. give_keeps (Called f (Own place)))

    own_callee_keeps : (place : ℕ) (borrowing : Option Borrowing) (o : Option Calling) (p : Option Property) → Keeps (own_callee x place borrowing o p)
    own_callee_keeps place None o p = got_callee place p
    own_callee_keeps place (Some borrowing) None p = got_callee place p
    own_callee_keeps place (Some borrowing) (Some calling) None = got_callee place None
    own_callee_keeps place (Some borrowing) (Some calling) (Some Open) = give_keeps (Borrowed borrowing place)
    own_callee_keeps place (Some borrowing) (Some calling) (Some (Data v)) = got_callee place (Some (Data v))
    own_callee_keeps place (Some borrowing) (Some calling) (Some (Fixed writable v)) = got_callee place (Some (Fixed writable v))
    own_callee_keeps place (Some borrowing) (Some calling) (Some (Accessor getter setter)) = got_callee place (Some (Accessor getter setter))

    member_called : (o : Value) (key : List ℕ) → Keeps (member x o key >>= λ f. give (Called f o))
    member_called o key = bind (member_keeps o key) (λ f. give_keeps (Called f o))

    member_callee_keeps : (o : Value) (key : List ℕ) → Keeps (member_callee x o key)
    member_callee_keeps (Own place) key = bind (calling_at_keeps place) (λ o. bind (found_from_keeps place key) (λ p. own_callee_keeps place (borrowing_of key) o p))
    member_callee_keeps o key = member_called o key

    read_called : (r : Reference) → Keeps (read x r >>= λ f. give (Called f Undefined))
    read_called r = bind (read_keeps r) (λ f. give_keeps (Called f Undefined))

    pub callee_by_keeps : (r : Reference) → Keeps (callee_by x r)
    callee_by_keeps (ToFree name) = when_keeps (is_open_callee name) outside_keeps (read_called (ToFree name))
    callee_by_keeps (ToMember o key) = member_callee_keeps o key
    callee_by_keeps (ToSuper this base key) = bind (super_member_keeps this base key) (λ f. give_keeps (CalledSuper f this))
    callee_by_keeps r = read_called r

    -- ---- calls

    call_function_keeps : (place : ℕ) (receiver : Value) (vs : List Value) (sort : Sort) → Keeps (call_function x place receiver vs sort)
    call_function_keeps place receiver vs BaseClass = throw_keeps (Error error.Kind)
    call_function_keeps place receiver vs DerivedClass = throw_keeps (Error error.Kind)
    call_function_keeps place receiver vs Plain = sound.invoke place (AsCall receiver) vs
    call_function_keeps place receiver vs Method = sound.invoke place (AsCall receiver) vs
    call_function_keeps place receiver vs Arrow = sound.invoke place (AsCall receiver) vs

    call_target_keeps : (place : ℕ) (receiver : Value) (vs : List Value) (o : Option Calling) → Keeps (call_target x place receiver vs o)
    call_target_keeps place receiver vs None = outside_keeps
    call_target_keeps place receiver vs (Some (Function sort)) = call_function_keeps place receiver vs sort
    call_target_keeps place receiver vs (Some (BoundFunction target this bound)) = outside_keeps

    call_calling_keeps : (place : ℕ) (receiver : Value) (vs : List Value) (o : Option Calling) → Keeps (call_calling x place receiver vs o)
    call_calling_keeps place receiver vs None = throw_keeps (Error error.Kind)
    call_calling_keeps place receiver vs (Some (Function sort)) = call_function_keeps place receiver vs sort
    call_calling_keeps place receiver vs (Some (BoundFunction target this bound)) = bind (calling_at_keeps target) (λ o. call_target_keeps target this (bound ++ vs) o)

    call_own_keeps : (place : ℕ) (receiver : Value) (vs : List Value) → Keeps (call_own x place receiver vs)
    call_own_keeps place receiver vs = bind (calling_at_keeps place) (λ o. call_calling_keeps place receiver vs o)

    call_value_keeps : (f receiver : Value) (vs : List Value) → Keeps (call_value x f receiver vs)
    call_value_keeps (Own place) receiver vs = call_own_keeps place receiver vs
    call_value_keeps (Host number) receiver vs = call_host_keeps number receiver vs
    call_value_keeps (Error error_kind) receiver vs = outside_keeps
    call_value_keeps _ receiver vs = throw_keeps (Error error.Kind)

    call_super_calling_keeps : (place : ℕ) (receiver : Value) (vs : List Value) (o : Option Calling) → Keeps (call_super_calling x place receiver vs o)
    call_super_calling_keeps place receiver vs None = outside_keeps
    call_super_calling_keeps place receiver vs (Some (Function BaseClass)) = outside_keeps
    call_super_calling_keeps place receiver vs (Some (Function DerivedClass)) = outside_keeps
    call_super_calling_keeps place receiver vs (Some (Function Plain)) = call_calling_keeps place receiver vs (Some (Function Plain))
    call_super_calling_keeps place receiver vs (Some (Function Method)) = call_calling_keeps place receiver vs (Some (Function Method))
    call_super_calling_keeps place receiver vs (Some (Function Arrow)) = call_calling_keeps place receiver vs (Some (Function Arrow))
    call_super_calling_keeps place receiver vs (Some (BoundFunction target this bound)) = call_calling_keeps place receiver vs (Some (BoundFunction target this bound))

    call_super_value_keeps : (f receiver : Value) (vs : List Value) → Keeps (call_super_value x f receiver vs)
    call_super_value_keeps (Own place) receiver vs = bind (calling_at_keeps place) (λ o. call_super_calling_keeps place receiver vs o)
    call_super_value_keeps _ receiver vs = outside_keeps

    call_borrowed_keeps : (borrowing : Borrowing) (place : ℕ) (vs : List Value) → Keeps (call_borrowed x borrowing place vs)
    call_borrowed_keeps Apply place vs = bind (list_from_keeps (first_or_undefined (all_but_first vs))) (λ list. call_own_keeps place (first_or_undefined vs) list)
    call_borrowed_keeps Bind place vs = bind_function_keeps place (first_or_undefined vs) (all_but_first vs)
    call_borrowed_keeps Call place vs = call_own_keeps place (first_or_undefined vs) (all_but_first vs)

    pub call_keeps : (c : Callee) (vs : List Value) → Keeps (call x c vs)
    call_keeps (Called f receiver) vs = call_value_keeps f receiver vs
    call_keeps (CalledSuper f receiver) vs = call_super_value_keeps f receiver vs
    call_keeps (Borrowed borrowing place) vs = call_borrowed_keeps borrowing place vs

    -- ---- constructions

    construct_function_keeps : (place new_target : ℕ) (vs : List Value) (sort : Sort) → Keeps (construct_function x place new_target vs sort)
    construct_function_keeps place new_target vs Method = throw_keeps (Error error.Kind)
    construct_function_keeps place new_target vs Arrow = throw_keeps (Error error.Kind)
    construct_function_keeps place new_target vs Plain = sound.invoke place (AsConstruct new_target) vs
    construct_function_keeps place new_target vs BaseClass = sound.invoke place (AsConstruct new_target) vs
    construct_function_keeps place new_target vs DerivedClass = sound.invoke place (AsConstruct new_target) vs

    construct_target_keeps : (place new_target : ℕ) (vs : List Value) (o : Option Calling) → Keeps (construct_target x place new_target vs o)
    construct_target_keeps place new_target vs None = outside_keeps
    construct_target_keeps place new_target vs (Some (Function sort)) = construct_function_keeps place new_target vs sort
    construct_target_keeps place new_target vs (Some (BoundFunction target this bound)) = outside_keeps

    construct_calling_keeps : (place new_target : ℕ) (vs : List Value) (o : Option Calling) → Keeps (construct_calling x place new_target vs o)
    construct_calling_keeps place new_target vs None = throw_keeps (Error error.Kind)
    construct_calling_keeps place new_target vs (Some (Function sort)) = construct_function_keeps place new_target vs sort
    construct_calling_keeps place new_target vs (Some (BoundFunction target this bound)) =
        bind (calling_at_keeps target) (λ o. construct_target_keeps target (cond (nat_eq place new_target) target new_target) (bound ++ vs) o)

    construct_own_keeps : (place new_target : ℕ) (vs : List Value) → Keeps (construct_own x place new_target vs)
    construct_own_keeps place new_target vs = bind (calling_at_keeps place) (λ o. construct_calling_keeps place new_target vs o)

    pub construct_keeps : (f : Value) (vs : List Value) → Keeps (construct x f vs)
    construct_keeps (Own place) vs = construct_own_keeps place place vs
    construct_keeps (Host number) vs = bind (each_keeps show show_keeps vs) (λ shown. bind (use_host_keeps (event.HostNew number shown)) (λ v. constructed_keeps v))
    construct_keeps (Error error_kind) vs = outside_keeps
    construct_keeps _ vs = throw_keeps (Error error.Kind)

    -- what is constructed is an object

    construct_function_gives : (place new_target : ℕ) (vs : List Value) (sort : Sort) → Gives IsObject (construct_function x place new_target vs sort)
    construct_function_gives place new_target vs Method = record { at = λ s. tt }
    construct_function_gives place new_target vs Arrow = record { at = λ s. tt }
    construct_function_gives place new_target vs Plain = sound.constructs place new_target vs
    construct_function_gives place new_target vs BaseClass = sound.constructs place new_target vs
    construct_function_gives place new_target vs DerivedClass = sound.constructs place new_target vs

    construct_target_gives : (place new_target : ℕ) (vs : List Value) (o : Option Calling) → Gives IsObject (construct_target x place new_target vs o)
    construct_target_gives place new_target vs None = record { at = λ s. tt }
    construct_target_gives place new_target vs (Some (Function sort)) = construct_function_gives place new_target vs sort
    construct_target_gives place new_target vs (Some (BoundFunction target this bound)) = record { at = λ s. tt }

    construct_calling_gives : (place new_target : ℕ) (vs : List Value) (o : Option Calling) → Gives IsObject (construct_calling x place new_target vs o)
    construct_calling_gives place new_target vs None = record { at = λ s. tt }
    construct_calling_gives place new_target vs (Some (Function sort)) = construct_function_gives place new_target vs sort
    construct_calling_gives place new_target vs (Some (BoundFunction target this bound)) =
        then_gives (calling_at target) (λ o. construct_target x target (cond (nat_eq place new_target) target new_target) (bound ++ vs) o)
        (λ o. construct_target_gives target (cond (nat_eq place new_target) target new_target) (bound ++ vs) o)

    construct_own_gives : (place new_target : ℕ) (vs : List Value) → Gives IsObject (construct_own x place new_target vs)
    construct_own_gives place new_target vs = then_gives (calling_at place) (λ o. construct_calling x place new_target vs o) (λ o. construct_calling_gives place new_target vs o)

    -- so `super(..)` binds one
    pub super_call_keeps : (vs : List Value) → Keeps (super_call x vs)
    super_call_keeps vs =
        activation_keeps x.scope (λ a. bind (given_keeps a.1.new_target) (λ t. bind (own_keeps t) (λ new_target. bind (given_keeps a.1.function) (λ function.
        bind (prototype_at_keeps function) (λ parent. bind (given_keeps parent) (λ place.
        bind_given (construct_own_keeps place new_target vs) (construct_own_gives place new_target vs) (λ v is.
        bind (bind_this_keeps x.scope v is) (λ _. bind (sound.fields function v) (λ _. give_keeps v)))))))))

-- ---- function objects

pub new_prototype_keeps : (parent : Option ℕ) → Keeps (new_prototype parent)
new_prototype_keeps parent = new_object_keeps _

pub new_function_keeps : (entries : List Entry) (parent : Option ℕ) (node : Node) (sort : Sort) (home : Option ℕ) (x : ExecutionContext) → Keeps (new_function entries parent node sort home x)
new_function_keeps entries parent node sort home x = new_object_keeps _

pub make_function_keeps : (node : Node) (sort : Sort) (home : Option ℕ) (x : ExecutionContext) → Keeps (make_function node sort home x)
make_function_keeps node Plain home x = bind (new_prototype_keeps None) (λ place. new_function_keeps (prototype_entries true place) None node Plain home x)
make_function_keeps node Method home x = new_function_keeps function_entries None node Method home x
make_function_keeps node Arrow home x = new_function_keeps function_entries None node Arrow home x
make_function_keeps node BaseClass home x = new_function_keeps function_entries None node BaseClass home x
make_function_keeps node DerivedClass home x = new_function_keeps function_entries None node DerivedClass home x

pub make_generator_keeps : (node : Node) (home : Option ℕ) (x : ExecutionContext) → Keeps (make_generator node home x)
make_generator_keeps node home x =
    bind (new_object_keeps (plain_object (open_entries iterator_keys) None)) (λ above. bind (new_object_keeps (plain_object [] (Some above))) (λ place.
    bind (new_object_keeps (plain_object (open_entries (codes "prototype" ∷ [])) None)) (λ functions. new_function_keeps (prototype_entries true place) (Some functions) node Method home x)))

pub new_regular_expression_keeps : Keeps new_regular_expression
new_regular_expression_keeps =
    bind (new_object_keeps (plain_object (open_entries regular_expression_keys) None)) (λ above.
    new_object_keeps (plain_object (record { key = codes "lastIndex"; property = Fixed true (Number (Whole (pos 0))) } ∷ []) (Some above)))

pub pass_function_keeps : (node : Node) (x : ExecutionContext) → Keeps (pass_function node x)
pass_function_keeps node x = bind (new_prototype_keeps None) (λ place. new_object_keeps (function_object (prototype_entries true place) None (Passed (closure_of node Plain None x))))

parent_from_keeps : (v : Value) → Keeps (parent_from v)
parent_from_keeps (Own place) = give_keeps (Some place)
parent_from_keeps (Host number) = outside_keeps
parent_from_keeps (Error error_kind) = outside_keeps
parent_from_keeps _ = give_keeps None

pub prototype_for_keeps : (place : ℕ) → Keeps (prototype_for place)
prototype_for_keeps place = bind (prototype_property_keeps place) (λ v. parent_from_keeps v)
