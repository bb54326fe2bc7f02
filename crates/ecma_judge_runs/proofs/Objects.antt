-- What reads objects leaves all as it was, and so does what changes new ones.
use Rattle.std.proofs.Common.{ℕ, pos, ◌≤◌, length, List, [], ◌∷◌, Option, Some, None, true, codes, slice_get}
use Rattle.ecma_number.specs.declared.js_number.JsNumber.TheVariants.{Whole}
use Rattle.ecma_kind.specs.declared.operators.MethodKind.{MethodKind}
use Rattle.ecma_kind.specs.declared.operators.MethodKind.TheVariants as method
use Rattle.ecma_tree.specs.declared.node.Node.{Node}
use Rattle.ecma_runs.specs.declared.shown.ErrorKind.TheVariants as error
use Rattle.ecma_runs.specs.Values.{Value, Null, Truth, Number, Text, Own, Host, Error}
use Rattle.ecma_runs.specs.State.{Sort, Plain, Method, Arrow, BaseClass, DerivedClass, Callable, Code, Bound, Passed, Property, Data, Fixed, Accessor, Open, Entry, Extent, Ordinary, Array, ArgumentList, Object, State}
use Rattle.ecma_runs.specs.Run.{Run}
use Rattle.ecma_runs.specs.Meaning.{ExecutionContext}
use Rattle.ecma_runs.specs.Objects.{new_object, callable_in, Calling, Function, BoundFunction, calling_of, calling_at, extent_at, is_index_below, own_property_at, found_from, with_entries, change_entries, put_entry, is_fixed, if_element, define, define_data, with_getter, with_setter, new_array}
use Rattle.ecma_runs.specs.Members.{is_there, has_member, inherits, prototype_value, prototype_property, instance_by, instance_of_function, instance_of_calling, instance_of, type_by, type_of}
use Rattle.ecma_runs.specs.Functions.{new_prototype, new_function, prototype_entries, function_entries, make_function, plain_object, new_regular_expression}
use Rattle.ecma_runs.specs.Classes.{checked_target, checked_calling, parent_class, parent_prototype, keeping_keys, keep_field_keys, define_method}
use Rattle.ecma_judge_runs.proofs.Fronts.{front_push, front_changed, front_length}
use Rattle.ecma_judge_runs.proofs.Leaving.{LeavesBy, Leaves, bind_by, bind_leaves, weaker, give_leaves, throw_leaves, outside_leaves, when_leaves}

module _ (old : State) where
  -- the place of an object that was not there
  abbrev pub NewObject : ℕ → Type 0
  NewObject place = length old.objects ≤ place

  pub new_object_by : (o : Object) → LeavesBy old NewObject (new_object o)
  new_object_by o = record {
    at = λ s g. (
      record { environments = g.environments; objects = front_push old.objects s.objects o g.objects; handles = g.handles; answers = g.answers; events = g.events },
      front_length old.objects s.objects g.objects,
    );
  }

  pub new_object_leaves : (o : Object) → Leaves old (new_object o)
  new_object_leaves o = weaker old (λ place new. tt) (new_object_by o)

  pub new_array_leaves : (elements : List (Option Value)) → Leaves old (new_array elements)
  new_array_leaves elements = new_object_leaves _

  -- what is known of an object

  calling_of_leaves : (o : Option Callable) → Leaves old (calling_of o)
  calling_of_leaves None = give_leaves old None
  calling_of_leaves (Some (Code closure)) = give_leaves old _
  calling_of_leaves (Some (Bound target this given)) = give_leaves old _
  calling_of_leaves (Some (Passed closure)) = outside_leaves old

  calling_at_leaves : (place : ℕ) → Leaves old (calling_at place)
  calling_at_leaves place = record { at = λ s g. (calling_of_leaves (callable_in (slice_get s.objects place))).at s g }

  pub extent_at_leaves : (place : ℕ) → Leaves old (extent_at place)
  extent_at_leaves place = record { at = λ s g. (g, tt) }

  pub own_property_at_leaves : (place : ℕ) (key : List ℕ) → Leaves old (own_property_at place key)
  own_property_at_leaves place key = record { at = λ s g. (g, tt) }

  found_from_leaves : (place : ℕ) (key : List ℕ) → Leaves old (found_from place key)
  found_from_leaves place key = record { at = λ s g. (g, tt) }

  -- changes of what is new

  pub change_entries_leaves : (place : ℕ) (change : List Entry → List Entry) → NewObject place → Leaves old (change_entries place change)
  change_entries_leaves place change new = record {
    at = λ s g. (
      record {
        environments = g.environments;
        objects = front_changed (with_entries change) old.objects s.objects place new g.objects;
        handles = g.handles;
        answers = g.answers;
        events = g.events;
      },
      tt,
    );
  }

  if_element_leaves : (extent : Extent) (key : List ℕ) {m : Run (Unit {0})} → Leaves old m → Leaves old (if_element extent key m)
  if_element_leaves Ordinary key h = h
  if_element_leaves (Array n) key h = when_leaves old (is_index_below n key) h (outside_leaves old)
  if_element_leaves (ArgumentList n) key h = when_leaves old (is_index_below n key) h (outside_leaves old)

  define_leaves : (place : ℕ) (key : List ℕ) (to : Option Property → Property) → NewObject place → Leaves old (define place key to)
  define_leaves place key to new =
      bind_leaves old (own_property_at_leaves place key) (λ p. bind_leaves old (extent_at_leaves place) (λ extent.
      if_element_leaves extent key (when_leaves old (is_fixed p) (throw_leaves old (Error error.Kind)) (change_entries_leaves place (put_entry key to) new))))

  pub define_data_leaves : (place : ℕ) (key : List ℕ) (v : Value) → NewObject place → Leaves old (define_data place key v)
  define_data_leaves place key v new = define_leaves place key (λ old. Data v) new

  pub define_method_leaves : (k : MethodKind) (place : ℕ) (key : List ℕ) (f : ℕ) → NewObject place → Leaves old (define_method k place key f)
  define_method_leaves method.Method place key f new = define_data_leaves place key (Own f) new
  define_method_leaves method.Getter place key f new = define_leaves place key (with_getter f) new
  define_method_leaves method.Setter place key f new = define_leaves place key (with_setter f) new

  pub keep_field_keys_leaves : (place : ℕ) (keys : List (List ℕ)) → NewObject place → Leaves old (keep_field_keys place keys)
  keep_field_keys_leaves place keys new = record {
    at = λ s g. (
      record {
        environments = g.environments;
        objects = front_changed (keeping_keys keys) old.objects s.objects place new g.objects;
        handles = g.handles;
        answers = g.answers;
        events = g.events;
      },
      tt,
    );
  }

  -- functions

  pub new_prototype_by : (parent : Option ℕ) → LeavesBy old NewObject (new_prototype parent)
  new_prototype_by parent = new_object_by _

  pub new_function_by : (x : ExecutionContext) (entries : List Entry) (parent : Option ℕ) (n : Node) (sort : Sort) (home : Option ℕ) → LeavesBy old NewObject (new_function entries parent n sort home x)
  new_function_by x entries parent n sort home = new_object_by _

  new_function_leaves : (x : ExecutionContext) (entries : List Entry) (n : Node) (sort : Sort) (home : Option ℕ) → Leaves old (new_function entries None n sort home x)
  new_function_leaves x entries n sort home = new_object_leaves _

  pub make_function_leaves : (x : ExecutionContext) (n : Node) (sort : Sort) (home : Option ℕ) → Leaves old (make_function n sort home x)
  make_function_leaves x n Plain home = bind_by old (new_prototype_by None) (λ place new. new_function_leaves x (prototype_entries true place) n Plain home)
  make_function_leaves x n Method home = new_function_leaves x function_entries n Method home
  make_function_leaves x n Arrow home = new_function_leaves x function_entries n Arrow home
  make_function_leaves x n BaseClass home = new_function_leaves x function_entries n BaseClass home
  make_function_leaves x n DerivedClass home = new_function_leaves x function_entries n DerivedClass home

  pub new_regular_expression_leaves : Leaves old new_regular_expression
  new_regular_expression_leaves =
      bind_leaves old (new_object_leaves _) (λ above. new_object_leaves (plain_object (record { key = codes "lastIndex"; property = Fixed true (Number (Whole (pos 0))) } ∷ []) (Some above)))

  -- `in`, `instanceof`, `typeof`, and the parents of a class

  is_there_leaves : (p : Option Property) → Leaves old (is_there p)
  is_there_leaves (Some Open) = outside_leaves old
  is_there_leaves _ = give_leaves old _

  pub has_member_leaves : (o : Value) (key : List ℕ) → Leaves old (has_member o key)
  has_member_leaves (Own place) key = bind_leaves old (found_from_leaves place key) (λ p. is_there_leaves p)
  has_member_leaves _ key = outside_leaves old

  inherits_leaves : (place prototype : ℕ) → Leaves old (inherits place prototype)
  inherits_leaves place prototype = record { at = λ s g. (g, tt) }

  prototype_value_leaves : (p : Option Property) → Leaves old (prototype_value p)
  prototype_value_leaves None = give_leaves old _
  prototype_value_leaves (Some (Data v)) = give_leaves old v
  prototype_value_leaves (Some (Fixed writable v)) = give_leaves old v
  prototype_value_leaves (Some (Accessor getter setter)) = outside_leaves old
  prototype_value_leaves (Some Open) = outside_leaves old

  pub prototype_property_leaves : (place : ℕ) → Leaves old (prototype_property place)
  prototype_property_leaves place = bind_leaves old (found_from_leaves place (codes "prototype")) (λ p. prototype_value_leaves p)

  instance_by_leaves : (place : ℕ) (v : Value) → Leaves old (instance_by place v)
  instance_by_leaves place (Own prototype) = bind_leaves old (inherits_leaves place prototype) (λ b. give_leaves old (Truth b))
  instance_by_leaves place (Host number) = outside_leaves old
  instance_by_leaves place (Error error_kind) = outside_leaves old
  instance_by_leaves place _ = throw_leaves old _

  instance_of_function_leaves : (v : Value) (function : ℕ) → Leaves old (instance_of_function v function)
  instance_of_function_leaves (Own place) function = bind_leaves old (prototype_property_leaves function) (λ v. instance_by_leaves place v)
  instance_of_function_leaves (Host number) function = outside_leaves old
  instance_of_function_leaves (Error error_kind) function = outside_leaves old
  instance_of_function_leaves _ function = give_leaves old _

  instance_of_calling_leaves : (v : Value) (place : ℕ) (o : Option Calling) → Leaves old (instance_of_calling v place o)
  instance_of_calling_leaves v place None = throw_leaves old _
  instance_of_calling_leaves v place (Some (Function sort)) = instance_of_function_leaves v place
  instance_of_calling_leaves v place (Some (BoundFunction target this given)) = instance_of_function_leaves v target

  pub instance_of_leaves : (v w : Value) → Leaves old (instance_of v w)
  instance_of_leaves v (Own place) = bind_leaves old (calling_at_leaves place) (λ o. instance_of_calling_leaves v place o)
  instance_of_leaves v (Host number) = outside_leaves old
  instance_of_leaves v (Error error_kind) = outside_leaves old
  instance_of_leaves v _ = throw_leaves old _

  pub type_of_leaves : (v : Value) → Leaves old (type_of v)
  type_of_leaves (Own place) = bind_leaves old (calling_at_leaves place) (λ o. give_leaves old (Text (type_by o)))
  type_of_leaves (Host number) = outside_leaves old
  type_of_leaves (Error error_kind) = outside_leaves old
  type_of_leaves _ = give_leaves old _

  checked_target_leaves : (place : ℕ) (o : Option Calling) → Leaves old (checked_target place o)
  checked_target_leaves place (Some (Function Plain)) = give_leaves old place
  checked_target_leaves place (Some (Function BaseClass)) = give_leaves old place
  checked_target_leaves place (Some (Function DerivedClass)) = give_leaves old place
  checked_target_leaves place _ = throw_leaves old _

  checked_calling_leaves : (place : ℕ) (o : Option Calling) → Leaves old (checked_calling place o)
  checked_calling_leaves place (Some (Function Plain)) = give_leaves old place
  checked_calling_leaves place (Some (Function BaseClass)) = give_leaves old place
  checked_calling_leaves place (Some (Function DerivedClass)) = give_leaves old place
  checked_calling_leaves place (Some (BoundFunction target this given)) = bind_leaves old (calling_at_leaves target) (λ o. checked_target_leaves place o)
  checked_calling_leaves place _ = throw_leaves old _

  pub parent_class_leaves : (v : Value) → Leaves old (parent_class v)
  parent_class_leaves (Own place) = bind_leaves old (calling_at_leaves place) (λ o. checked_calling_leaves place o)
  parent_class_leaves Null = outside_leaves old
  parent_class_leaves (Host number) = outside_leaves old
  parent_class_leaves (Error error_kind) = outside_leaves old
  parent_class_leaves _ = throw_leaves old _

  pub parent_prototype_leaves : (v : Value) → Leaves old (parent_prototype v)
  parent_prototype_leaves (Own place) = give_leaves old place
  parent_prototype_leaves Null = outside_leaves old
  parent_prototype_leaves (Host number) = outside_leaves old
  parent_prototype_leaves (Error error_kind) = outside_leaves old
  parent_prototype_leaves _ = throw_leaves old _
