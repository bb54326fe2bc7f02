-- What reads and changes states keeps it so: the host, records, objects and members of values.
use Rattle.std.proofs.Common.{◌≡◌, refl, ℕ, List, [], ◌∷◌, ◌++◌, length, Option, Some, None, Bool, true, false, ◌^◌, nat_lt, nat_eq, bytes_eq, codes, slice_get, ◌&&◌}
use Rattle.std.specs.List.{position}
use Rattle.ecma_runs.specs.declared.observation.Event.{Event}
use Rattle.ecma_runs.specs.declared.script.Answer.{Answer}
use Rattle.ecma_runs.specs.declared.script.Answer.TheVariants as answer
use Rattle.ecma_runs.specs.declared.script.FreeValue.{FreeValue}
use Rattle.ecma_runs.specs.declared.script.ImportValue.{ImportValue}
use Rattle.ecma_runs.specs.declared.shown.ErrorKind.TheVariants as error
use Rattle.ecma_runs.specs.declared.shown.Shown.{Shown}
use Rattle.ecma_runs.specs.declared.shown.Shown.TheVariants as shown
use Rattle.ecma_runs.specs.Values.{Value, Undefined, Null, Truth, Number, Text, Own, Host, Error, length_of}
use Rattle.ecma_runs.specs.State.{Id, Entered, Content, Empty, Unfilled, Holds, Imported, Binding, Activation, Callable, Code, Bound, Passed, Property, Data, Fixed, Accessor, Open, Entry, Extent, Ordinary, Array, ArgumentList, Object, State}
use Rattle.ecma_runs.specs.Run.{Done, Run, then_outcome, ◌>>=◌, give, when, outside}
use Rattle.ecma_runs.specs.Host.{own_at, handled, taken, taken_if, show_own, show, answered, answer_from, next_answer, add_event, use_host, import_value, free_or, free_value, fixed_value, read_free, free_or_undefined, read_free_typed}
use Rattle.ecma_runs.specs.Environment.{ToVariable, ToFree, new_environment, set_variable, with_value, copy_environment, bindings_in, resolved, is_among, content_value, value_in, read_variable, variable, unless_empty, write_in, write_variable, set_all, initialize_one, initialize, fill_content, fill_in, fill_variable, fill_one, fill, activation_in, activation_at, with_activation, activation_or, activation, this, with_this, bind_this_in, bind_this}
use Rattle.ecma_runs.specs.Objects.{new_object, Calling, Function, BoundFunction, calling_of, calling_at, callable_in, prototype_at, extent_at, own_property_at, found_from, Base, ObjectBase, BuiltInBase, super_base, found_from_base, change_entries, put_entry, without_entry, is_fixed, is_index_below, if_element, define, elements_by, elements_at, extent_in, has_elements, is_open_element}
use Rattle.ecma_runs.specs.Members.{text_member, written, put_over, put_on, delete_own, delete_member, is_there, has_member, inherits, prototype_value, prototype_property, instance_by, instance_of_function, instance_of_calling, instance_of, type_by, type_of}
use Rattle.ecma_run_constructions.proofs.Keeping.{IsObject, fine_append, fine_changed, Has, Held, Keeps, bind, give_keeps, throw_keeps, outside_keeps, when_keeps, given_or_keeps, given_keeps}
use Rattle.ecma_runs.specs.Laws.{state_behind}

-- ---- the host

own_at_keeps : (o : Option ℕ) → Keeps (own_at o)
own_at_keeps (Some place) = give_keeps (Own place)
own_at_keeps None = outside_keeps

handled_keeps : (number : ℕ) → Keeps (handled number)
handled_keeps number = record { at = λ s. (own_at_keeps (slice_get s.handles number)).at s }

taken_keeps : (v : Shown) → Keeps (taken v)
taken_keeps (shown.Handle number) = handled_keeps number
taken_keeps shown.Undefined = give_keeps Undefined
taken_keeps shown.Null = give_keeps Null
taken_keeps (shown.Bool truth) = give_keeps (Truth truth)
taken_keeps (shown.Num number) = give_keeps (Number number)
taken_keeps (shown.Text text) = give_keeps (Text text)
taken_keeps (shown.Host number) = give_keeps (Host number)
taken_keeps (shown.Error error_kind) = give_keeps (Error error_kind)

pub taken_if_keeps : (o : Option Shown) → Keeps (taken_if o)
taken_if_keeps None = outside_keeps
taken_if_keeps (Some v) = taken_keeps v

number_own_by : (place : ℕ) (s : State) (b : Bool) → Held s (state_behind (when b (λ t. Done (shown.Handle (length s.handles)) (record t { handles = s.handles ++ place ∷ [] })) outside s))
number_own_by place s true = λ p f. f
number_own_by place s false = λ p f. f

show_own_keeps : (place : ℕ) (o : Option ℕ) → Keeps (show_own place o)
show_own_keeps place (Some number) = give_keeps (shown.Handle number)
show_own_keeps place None = record { at = λ s. number_own_by place s (nat_lt (length s.handles) (2 ^ 32)) }

pub show_keeps : (v : Value) → Keeps (show v)
show_keeps Undefined = give_keeps shown.Undefined
show_keeps Null = give_keeps shown.Null
show_keeps (Truth truth) = give_keeps (shown.Bool truth)
show_keeps (Number number) = give_keeps (shown.Num number)
show_keeps (Text text) = give_keeps (shown.Text text)
show_keeps (Own place) = record { at = λ s. (show_own_keeps place (position (nat_eq place) s.handles)).at s }
show_keeps (Host number) = give_keeps (shown.Host number)
show_keeps (Error error_kind) = give_keeps (shown.Error error_kind)

answered_keeps : (a : Answer) → Keeps (answered a)
answered_keeps (answer.Return v) = taken_keeps v
answered_keeps (answer.Throw v) = bind (taken_keeps v) (λ w. throw_keeps w)

answer_from_held : (s : State) (answers : List Answer) → Held s (state_behind (answer_from answers s))
answer_from_held s [] = λ p f. f
answer_from_held s (a ∷ rest) = λ p f. (answered_keeps a).at (record s { answers = rest }) p f

next_answer_keeps : Keeps next_answer
next_answer_keeps = record { at = λ s. answer_from_held s s.answers }

add_event_keeps : (e : Event) → Keeps (add_event e)
add_event_keeps e = record { at = λ s p f. f }

pub use_host_keeps : (e : Event) → Keeps (use_host e)
use_host_keeps e = bind (add_event_keeps e) (λ _. next_answer_keeps)

free_or_keeps : (o : Option Value) (v : Option Shown) → Keeps (free_or o v)
free_or_keeps (Some w) v = give_keeps w
free_or_keeps None (Some v) = taken_keeps v
free_or_keeps None None = throw_keeps (Error error.Reference)

pub read_free_keeps : (frees : List FreeValue) (name : List ℕ) → Keeps (read_free frees name)
read_free_keeps frees name = free_or_keeps (fixed_value name) (free_value frees name)

typed_keeps : (o : Option Value) (v : Option Shown) → Keeps (free_or_undefined o v)
typed_keeps None None = give_keeps Undefined
typed_keeps (Some w) v = free_or_keeps (Some w) v
typed_keeps None (Some v) = free_or_keeps None (Some v)

pub read_free_typed_keeps : (frees : List FreeValue) (name : List ℕ) → Keeps (read_free_typed frees name)
read_free_typed_keeps frees name = typed_keeps (fixed_value name) (free_value frees name)

-- ---- records

pub new_environment_keeps : (bindings : List Binding) (o : Option Activation) → Keeps (new_environment bindings o)
new_environment_keeps bindings o = record { at = λ s p f. fine_append s.environments (record { bindings = bindings; activation = o } ∷ []) p f }

pub copy_environment_keeps : (e : Entered) → Keeps (copy_environment e)
copy_environment_keeps e = record { at = λ s p f. fine_append s.environments (record { bindings = bindings_in (slice_get s.environments e.place); activation = None } ∷ []) p f }

set_variable_keeps : (place : ℕ) (id : Id) (v : Value) → Keeps (set_variable place id v)
set_variable_keeps place id v = record { at = λ s p f. fine_changed (with_value id v) (λ e h. h) place s.environments p f }

pub resolved_keeps : (scope : List Entered) (declared : List Id) (id : Id) → Keeps (resolved scope declared id)
resolved_keeps [] declared id = when_keeps (is_among id declared) outside_keeps (give_keeps (ToFree id.sym))
resolved_keeps (e ∷ outer) declared id = when_keeps (is_among id e.ids) (give_keeps (ToVariable e.place id)) (resolved_keeps outer declared id)

content_keeps : (imports : List ImportValue) (c : Content) → Keeps (content_value imports c)
content_keeps imports Empty = throw_keeps (Error error.Reference)
content_keeps imports Unfilled = throw_keeps (Error error.Reference)
content_keeps imports (Holds v) = give_keeps v
content_keeps imports (Imported source name) = taken_if_keeps (import_value imports source name)

value_in_keeps : (imports : List ImportValue) (o : Option Binding) → Keeps (value_in imports o)
value_in_keeps imports None = outside_keeps
value_in_keeps imports (Some binding) = content_keeps imports binding.content

pub read_variable_keeps : (imports : List ImportValue) (place : ℕ) (id : Id) → Keeps (read_variable imports place id)
read_variable_keeps imports place id = record { at = λ s. (value_in_keeps imports (variable place id s)).at s }

unless_empty_keeps : {A : Type 0} (c : Content) {m : Run A} → Keeps m → Keeps (unless_empty c m)
unless_empty_keeps Empty h = throw_keeps (Error error.Reference)
unless_empty_keeps Unfilled h = throw_keeps (Error error.Reference)
unless_empty_keeps (Holds v) h = h
unless_empty_keeps (Imported source name) h = h

write_in_keeps : (place : ℕ) (id : Id) (v : Value) (o : Option Binding) → Keeps (write_in place id v o)
write_in_keeps place id v None = outside_keeps
write_in_keeps place id v (Some binding) = unless_empty_keeps binding.content (when_keeps binding.is_constant (throw_keeps (Error error.Kind)) (set_variable_keeps place id v))

pub write_variable_keeps : (place : ℕ) (id : Id) (v : Value) → Keeps (write_variable place id v)
write_variable_keeps place id v = record { at = λ s. (write_in_keeps place id v (variable place id s)).at s }

pub set_all_keeps : (ids : List Id) (place : ℕ) (v : Value) → Keeps (set_all ids place v)
set_all_keeps [] place v = give_keeps tt
set_all_keeps (id ∷ ids) place v = bind (set_variable_keeps place id v) (λ _. set_all_keeps ids place v)

initialize_one_keeps : (scope : List Entered) (id : Id) (v : Value) → Keeps (initialize_one scope id v)
initialize_one_keeps [] id v = give_keeps tt
initialize_one_keeps (e ∷ outer) id v = when_keeps (is_among id e.ids) (set_variable_keeps e.place id v) (initialize_one_keeps outer id v)

pub initialize_keeps : (scope : List Entered) (ids : List Id) (v : Value) → Keeps (initialize scope ids v)
initialize_keeps scope [] v = give_keeps tt
initialize_keeps scope (id ∷ ids) v = bind (initialize_one_keeps scope id v) (λ _. initialize_keeps scope ids v)

fill_content_keeps : (place : ℕ) (id : Id) (c : Content) → Keeps (fill_content place id c)
fill_content_keeps place id Unfilled = set_variable_keeps place id Undefined
fill_content_keeps place id Empty = give_keeps tt
fill_content_keeps place id (Holds v) = give_keeps tt
fill_content_keeps place id (Imported source name) = give_keeps tt

fill_in_keeps : (place : ℕ) (id : Id) (o : Option Binding) → Keeps (fill_in place id o)
fill_in_keeps place id None = give_keeps tt
fill_in_keeps place id (Some binding) = fill_content_keeps place id binding.content

fill_variable_keeps : (place : ℕ) (id : Id) → Keeps (fill_variable place id)
fill_variable_keeps place id = record { at = λ s. (fill_in_keeps place id (variable place id s)).at s }

fill_one_keeps : (scope : List Entered) (id : Id) → Keeps (fill_one scope id)
fill_one_keeps [] id = give_keeps tt
fill_one_keeps (e ∷ outer) id = when_keeps (is_among id e.ids) (fill_variable_keeps e.place id) (fill_one_keeps outer id)

pub fill_keeps : (scope : List Entered) (ids : List Id) → Keeps (fill scope ids)
fill_keeps scope [] = give_keeps tt
fill_keeps scope (id ∷ ids) = bind (fill_one_keeps scope id) (λ _. fill_keeps scope ids)

-- ---- activations

-- what follows the nearest activation may rest on it: the record at its place has it
module _ {B : Type 0} (k : ℕ × Activation → Run B) (h : (place : ℕ) (a : Activation) (s : State) → Has s.environments place a → Held s (state_behind (k (place, a) s))) where
  activation_by : (e : Entered) (outer : List Entered) (s : State) → Held s (state_behind (then_outcome (activation outer s) k)) → (o : Option Activation) → activation_in (slice_get s.environments e.place) ≡ o
      → Held s (state_behind (then_outcome (activation_or e.place o (activation outer) s) k))
  activation_by e outer s g (Some a) is = h e.place a s is
  activation_by e outer s g None is = g

  activation_held : (scope : List Entered) (s : State) → Held s (state_behind (then_outcome (activation scope s) k))
  activation_held [] s = λ p f. f
  activation_held (e ∷ outer) s = activation_by e outer s (activation_held outer s) (activation_in (slice_get s.environments e.place)) refl

  pub activation_then : (scope : List Entered) → Keeps (activation scope >>= k)
  activation_then scope = record { at = λ s. activation_held scope s }

pub activation_at_keeps : (place : ℕ) → Keeps (activation_at place)
activation_at_keeps place = record { at = λ s p f. f }

pub activation_keeps : {B : Type 0} {k : ℕ × Activation → Run B} (scope : List Entered) → ((a : ℕ × Activation) → Keeps (k a)) → Keeps (activation scope >>= k)
activation_keeps {k = k} scope h = activation_then k (λ place a s has. (h (place, a)).at s) scope

pub this_keeps : (scope : List Entered) → Keeps (this scope)
this_keeps scope = activation_keeps scope (λ a. given_or_keeps a.1.this (throw_keeps (Error error.Reference)))

bind_this_in_keeps : (place : ℕ) (a : Activation) (v : Value) → IsObject v → (o : Option Value) → Keeps (bind_this_in place a v o)
bind_this_in_keeps place a v is (Some old) = throw_keeps (Error error.Reference)
bind_this_in_keeps place a v is None = record { at = λ s p f. fine_changed (with_activation (with_this v a)) (λ e h. is) place s.environments p f }

-- an object is bound
pub bind_this_keeps : (scope : List Entered) (v : Value) → IsObject v → Keeps (bind_this scope v)
bind_this_keeps scope v is = activation_keeps scope (λ a. bind_this_in_keeps a.0 a.1 v is a.1.this)

-- ---- objects

pub new_object_keeps : (o : Object) → Keeps (new_object o)
new_object_keeps o = record { at = λ s p f. f }

calling_of_keeps : (o : Option Callable) → Keeps (calling_of o)
calling_of_keeps None = give_keeps None
calling_of_keeps (Some (Code closure)) = give_keeps (Some (Function closure.sort))
calling_of_keeps (Some (Bound target this given)) = give_keeps (Some (BoundFunction target this given))
calling_of_keeps (Some (Passed closure)) = outside_keeps

pub calling_at_keeps : (place : ℕ) → Keeps (calling_at place)
calling_at_keeps place = record { at = λ s. (calling_of_keeps (callable_in (slice_get s.objects place))).at s }

pub prototype_at_keeps : (place : ℕ) → Keeps (prototype_at place)
prototype_at_keeps place = record { at = λ s p f. f }

extent_at_keeps : (place : ℕ) → Keeps (extent_at place)
extent_at_keeps place = record { at = λ s p f. f }

own_property_at_keeps : (place : ℕ) (key : List ℕ) → Keeps (own_property_at place key)
own_property_at_keeps place key = record { at = λ s p f. f }

pub found_from_keeps : (place : ℕ) (key : List ℕ) → Keeps (found_from place key)
found_from_keeps place key = record { at = λ s p f. f }

pub super_base_keeps : (home : ℕ) → Keeps (super_base home)
super_base_keeps home = record { at = λ s p f. f }

pub found_from_base_keeps : (base : Base) (key : List ℕ) → Keeps (found_from_base base key)
found_from_base_keeps (ObjectBase place) key = found_from_keeps place key
found_from_base_keeps (BuiltInBase ancestry) key = give_keeps _

change_entries_keeps : (place : ℕ) (change : List Entry → List Entry) → Keeps (change_entries place change)
change_entries_keeps place change = record { at = λ s p f. f }

if_element_keeps : (extent : Extent) (key : List ℕ) {m : Run (Unit {0})} → Keeps m → Keeps (if_element extent key m)
if_element_keeps Ordinary key h = h
if_element_keeps (Array n) key h = when_keeps (is_index_below n key) h outside_keeps
if_element_keeps (ArgumentList n) key h = when_keeps (is_index_below n key) h outside_keeps

pub define_keeps : (place : ℕ) (key : List ℕ) (to : Option Property → Property) → Keeps (define place key to)
define_keeps place key to =
    bind (own_property_at_keeps place key) (λ o. bind (extent_at_keeps place) (λ extent. if_element_keeps extent key (when_keeps (is_fixed o) (throw_keeps (Error error.Kind)) (change_entries_keeps place (put_entry key to)))))

elements_by_keeps : (o : Option Object) (extent : Extent) → Keeps (elements_by o extent)
elements_by_keeps None extent = outside_keeps
elements_by_keeps (Some object) Ordinary = outside_keeps
elements_by_keeps (Some object) (Array n) = give_keeps _
elements_by_keeps (Some object) (ArgumentList n) = give_keeps _

pub elements_at_keeps : (place : ℕ) → Keeps (elements_at place)
elements_at_keeps place = record { at = λ s. (elements_by_keeps (slice_get s.objects place) (extent_in (slice_get s.objects place))).at s }

-- ---- members

pub text_member_keeps : (text key : List ℕ) → Keeps (text_member text key)
text_member_keeps text key = when_keeps (bytes_eq key (codes "length")) (bind (given_keeps (length_of text)) (λ n. give_keeps (Number n))) outside_keeps

put_keeps : (place : ℕ) (key : List ℕ) (v : Value) → Keeps (extent_at place >>= λ extent. if_element extent key (change_entries place (put_entry key (written v))))
put_keeps place key v = bind (extent_at_keeps place) (λ extent. if_element_keeps extent key (change_entries_keeps place (put_entry key (written v))))

put_over_keeps : (place : ℕ) (key : List ℕ) (v : Value) (o : Option Property) → Keeps (put_over place key v o)
put_over_keeps place key v (Some (Accessor getter setter)) = throw_keeps (Error error.Kind)
put_over_keeps place key v (Some (Fixed false old)) = throw_keeps (Error error.Kind)
put_over_keeps place key v (Some (Fixed true old)) = put_keeps place key v
put_over_keeps place key v (Some Open) = outside_keeps
put_over_keeps place key v (Some (Data old)) = put_keeps place key v
put_over_keeps place key v None = put_keeps place key v

pub put_on_keeps : (receiver : Value) (key : List ℕ) (v : Value) → Keeps (put_on receiver key v)
put_on_keeps (Own place) key v = bind (own_property_at_keeps place key) (λ o. put_over_keeps place key v o)
put_on_keeps _ key v = outside_keeps

deleted_keeps : (place : ℕ) (key : List ℕ) → Keeps (change_entries place (without_entry key) >>= λ _. give (Truth true))
deleted_keeps place key = bind (change_entries_keeps place (without_entry key)) (λ _. give_keeps (Truth true))

delete_own_keeps : (place : ℕ) (key : List ℕ) (o : Option Property) (extent : Extent) → Keeps (delete_own place key o extent)
delete_own_keeps place key (Some (Fixed writable v)) (ArgumentList n) = outside_keeps
delete_own_keeps place key (Some (Fixed writable v)) Ordinary = throw_keeps (Error error.Kind)
delete_own_keeps place key (Some (Fixed writable v)) (Array n) = throw_keeps (Error error.Kind)
delete_own_keeps place key (Some Open) extent = outside_keeps
delete_own_keeps place key (Some (Data v)) extent = deleted_keeps place key
delete_own_keeps place key (Some (Accessor getter setter)) extent = deleted_keeps place key
delete_own_keeps place key None extent = when_keeps (has_elements extent && is_open_element key) outside_keeps (give_keeps (Truth true))

pub delete_member_keeps : (o : Value) (key : List ℕ) → Keeps (delete_member o key)
delete_member_keeps (Own place) key = bind (own_property_at_keeps place key) (λ p. bind (extent_at_keeps place) (λ extent. delete_own_keeps place key p extent))
delete_member_keeps _ key = outside_keeps

is_there_keeps : (o : Option Property) → Keeps (is_there o)
is_there_keeps (Some Open) = outside_keeps
is_there_keeps (Some (Data v)) = give_keeps _
is_there_keeps (Some (Fixed writable v)) = give_keeps _
is_there_keeps (Some (Accessor getter setter)) = give_keeps _
is_there_keeps None = give_keeps _

pub has_member_keeps : (o : Value) (key : List ℕ) → Keeps (has_member o key)
has_member_keeps (Own place) key = bind (found_from_keeps place key) (λ p. is_there_keeps p)
has_member_keeps _ key = outside_keeps

prototype_value_keeps : (o : Option Property) → Keeps (prototype_value o)
prototype_value_keeps None = give_keeps Undefined
prototype_value_keeps (Some (Data v)) = give_keeps v
prototype_value_keeps (Some (Fixed writable v)) = give_keeps v
prototype_value_keeps (Some (Accessor getter setter)) = outside_keeps
prototype_value_keeps (Some Open) = outside_keeps

pub prototype_property_keeps : (place : ℕ) → Keeps (prototype_property place)
prototype_property_keeps place = bind (found_from_keeps place (codes "prototype")) (λ p. prototype_value_keeps p)

inherits_keeps : (place prototype : ℕ) → Keeps (inherits place prototype)
inherits_keeps place prototype = record { at = λ s p f. f }

instance_by_keeps : (place : ℕ) (v : Value) → Keeps (instance_by place v)
instance_by_keeps place (Own prototype) = bind (inherits_keeps place prototype) (λ b. give_keeps (Truth b))
instance_by_keeps place (Host number) = outside_keeps
instance_by_keeps place (Error error_kind) = outside_keeps
instance_by_keeps place _ = throw_keeps (Error error.Kind)

instance_of_function_keeps : (v : Value) (function : ℕ) → Keeps (instance_of_function v function)
instance_of_function_keeps (Own place) function = bind (prototype_property_keeps function) (λ v. instance_by_keeps place v)
instance_of_function_keeps (Host number) function = outside_keeps
instance_of_function_keeps (Error error_kind) function = outside_keeps
instance_of_function_keeps _ function = give_keeps (Truth false)

instance_of_calling_keeps : (v : Value) (place : ℕ) (o : Option Calling) → Keeps (instance_of_calling v place o)
instance_of_calling_keeps v place None = throw_keeps (Error error.Kind)
instance_of_calling_keeps v place (Some (Function sort)) = instance_of_function_keeps v place
instance_of_calling_keeps v place (Some (BoundFunction target this given)) = instance_of_function_keeps v target

pub instance_of_keeps : (v w : Value) → Keeps (instance_of v w)
instance_of_keeps v (Own place) = bind (calling_at_keeps place) (λ o. instance_of_calling_keeps v place o)
instance_of_keeps v (Host number) = outside_keeps
instance_of_keeps v (Error error_kind) = outside_keeps
instance_of_keeps v _ = throw_keeps (Error error.Kind)

pub type_of_keeps : (v : Value) → Keeps (type_of v)
type_of_keeps (Own place) = bind (calling_at_keeps place) (λ o. give_keeps (Text (type_by o)))
type_of_keeps Undefined = give_keeps _
type_of_keeps Null = give_keeps _
type_of_keeps (Truth truth) = give_keeps _
type_of_keeps (Number number) = give_keeps _
type_of_keeps (Text text) = give_keeps _
type_of_keeps (Host number) = outside_keeps
type_of_keeps (Error error_kind) = outside_keeps
