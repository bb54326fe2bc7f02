-- What reads environment records leaves all as it was, and so does what changes new ones.
use Rattle.std.proofs.Common.{◌≡◌, refl, ℕ, ◌≤◌, length, List, [], ◌∷◌, Option, Some, None, Bool, true, false, bytes_eq, codes, slice_get}
use Rattle.ecma_runs.specs.declared.script.FreeValue.{FreeValue}
use Rattle.ecma_runs.specs.declared.script.ImportValue.{ImportValue}
use Rattle.ecma_runs.specs.declared.shown.Shown.{Shown}
use Rattle.ecma_runs.specs.declared.shown.Shown.TheVariants as shown
use Rattle.ecma_runs.specs.Values.{Value, Own}
use Rattle.ecma_runs.specs.State.{Content, Empty, Unfilled, Holds, Imported, Id, Entered, Binding, Activation, State}
use Rattle.ecma_runs.specs.Run.{Run, give, outside, when}
use Rattle.ecma_runs.specs.Host.{import_value, taken_if, own_at, handled, taken, free_value, fixed_value, free_or, read_free, free_or_undefined, read_free_typed}
use Rattle.ecma_runs.specs.Environment.{ids_of, new_environment, variable, with_value, set_variable, Reference, ToVariable, ToFree, ToMember, ToSuper, ToImportMeta, ToMetaMember, ToValue, is_among, resolved, content_value, value_in, read_variable, set_all, activation_at, activation_or, activation, this}
use Rattle.ecma_judge_runs.proofs.Fronts.{front_push, front_changed, front_length}
use Rattle.ecma_judge_runs.proofs.Leaving.{LeavesBy, Leaves, bind_leaves, weaker, give_by, give_leaves, throw_leaves, outside_leaves, when_leaves, given_or_leaves}

-- what may be read: no member, and not the name `arguments`, whose first read makes its object
abbrev pub Readable : Reference → Type 0
Readable (ToVariable place id) = Unit {0}
Readable (ToFree name) = bytes_eq name (codes "arguments") ≡ false
Readable (ToMember o key) = ⊥
Readable (ToSuper this base key) = ⊥
Readable ToImportMeta = Unit {0}
Readable (ToMetaMember v) = Unit {0}
Readable (ToValue v) = Unit {0}

module _ (old : State) where
  -- the place of a record that was not there
  abbrev pub NewRecord : Entered → Type 0
  NewRecord entered = length old.environments ≤ entered.place

  pub new_environment_as : (bindings : List Binding) (a : Option Activation) → LeavesBy old (λ entered. NewRecord entered × (entered.ids ≡ ids_of bindings)) (new_environment bindings a)
  new_environment_as bindings a = record {
    at = λ s g. (
      record {
        environments = front_push old.environments s.environments (record { bindings = bindings; activation = a }) g.environments;
        objects = g.objects;
        handles = g.handles;
        answers = g.answers;
        events = g.events;
      },
      (front_length old.environments s.environments g.environments, refl),
    );
  }

  pub new_environment_by : (bindings : List Binding) (a : Option Activation) → LeavesBy old NewRecord (new_environment bindings a)
  new_environment_by bindings a = weaker old (λ entered h. h.0) (new_environment_as bindings a)

  pub set_variable_leaves : (place : ℕ) (id : Id) (v : Value) → length old.environments ≤ place → Leaves old (set_variable place id v)
  set_variable_leaves place id v new = record {
    at = λ s g. (
      record {
        environments = front_changed (with_value id v) old.environments s.environments place new g.environments;
        objects = g.objects;
        handles = g.handles;
        answers = g.answers;
        events = g.events;
      },
      tt,
    );
  }

  pub set_all_leaves : (ids : List Id) (place : ℕ) (v : Value) → length old.environments ≤ place → Leaves old (set_all ids place v)
  set_all_leaves [] place v new = give_leaves old tt
  set_all_leaves (id ∷ ids) place v new = bind_leaves old (set_variable_leaves place id v new) (λ _. set_all_leaves ids place v new)

  -- the values of host and script

  own_at_leaves : (o : Option ℕ) → Leaves old (own_at o)
  own_at_leaves (Some place) = give_leaves old (Own place)
  own_at_leaves None = outside_leaves old

  handled_leaves : (number : ℕ) → Leaves old (handled number)
  handled_leaves number = record { at = λ s g. (own_at_leaves (slice_get s.handles number)).at s g }

  taken_leaves : (v : Shown) → Leaves old (taken v)
  taken_leaves (shown.Handle number) = handled_leaves number
  taken_leaves _ = give_leaves old _

  taken_if_leaves : (o : Option Shown) → Leaves old (taken_if o)
  taken_if_leaves None = outside_leaves old
  taken_if_leaves (Some v) = taken_leaves v

  content_value_leaves : (imports : List ImportValue) (content : Content) → Leaves old (content_value imports content)
  content_value_leaves imports Empty = throw_leaves old _
  content_value_leaves imports Unfilled = throw_leaves old _
  content_value_leaves imports (Holds v) = give_leaves old v
  content_value_leaves imports (Imported source name) = taken_if_leaves (import_value imports source name)

  value_in_leaves : (imports : List ImportValue) (o : Option Binding) → Leaves old (value_in imports o)
  value_in_leaves imports None = outside_leaves old
  value_in_leaves imports (Some binding) = content_value_leaves imports binding.content

  pub read_variable_leaves : (imports : List ImportValue) (place : ℕ) (id : Id) → Leaves old (read_variable imports place id)
  read_variable_leaves imports place id = record { at = λ s g. (value_in_leaves imports (variable place id s)).at s g }

  free_or_leaves : (o : Option Value) (p : Option Shown) → Leaves old (free_or o p)
  free_or_leaves (Some v) p = give_leaves old v
  free_or_leaves None (Some v) = taken_leaves v
  free_or_leaves None None = throw_leaves old _

  pub read_free_leaves : (frees : List FreeValue) (name : List ℕ) → Leaves old (read_free frees name)
  read_free_leaves frees name = free_or_leaves (fixed_value name) (free_value frees name)

  free_or_undefined_leaves : (o : Option Value) (p : Option Shown) → Leaves old (free_or_undefined o p)
  free_or_undefined_leaves (Some v) p = give_leaves old v
  free_or_undefined_leaves None (Some v) = taken_leaves v
  free_or_undefined_leaves None None = give_leaves old _

  pub read_free_typed_leaves : (frees : List FreeValue) (name : List ℕ) → Leaves old (read_free_typed frees name)
  read_free_typed_leaves frees name = free_or_undefined_leaves (fixed_value name) (free_value frees name)

  -- activations

  activation_at_leaves : (place : ℕ) → Leaves old (activation_at place)
  activation_at_leaves place = record { at = λ s g. (g, tt) }

  activation_or_leaves : (place : ℕ) (o : Option Activation) {m : Run (ℕ × Activation)} → Leaves old m → Leaves old (activation_or place o m)
  activation_or_leaves place (Some a) h = give_leaves old (place, a)
  activation_or_leaves place None h = h

  pub activation_leaves : (scope : List Entered) → Leaves old (activation scope)
  activation_leaves [] = outside_leaves old
  activation_leaves (e ∷ outer) = bind_leaves old (activation_at_leaves e.place) (λ o. activation_or_leaves e.place o (activation_leaves outer))

  pub this_leaves : (scope : List Entered) → Leaves old (this scope)
  this_leaves scope = bind_leaves old (activation_leaves scope) (λ a. given_or_leaves old a.1.this (throw_leaves old _))

  -- names

  free_by : (name : List ℕ) (b : Bool) → (b ≡ false → bytes_eq name (codes "arguments") ≡ false) → LeavesBy old Readable (when b outside (give (ToFree name)))
  free_by name true h = outside_leaves old
  free_by name false h = give_by old (ToFree name) (h refl)

  -- what a name refers to may be read, where it is not the free name `arguments`
  pub resolved_by : (scope : List Entered) (declared : List Id) (id : Id) → (is_among id declared ≡ false → bytes_eq id.sym (codes "arguments") ≡ false) → LeavesBy old Readable (resolved scope declared id)
  resolved_by [] declared id h = free_by id.sym (is_among id declared) h
  resolved_by (e ∷ outer) declared id h = when_leaves old (is_among id e.ids) (give_by old (ToVariable e.place id) tt) (resolved_by outer declared id h)
