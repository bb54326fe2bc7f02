-- Calls keep it so, and construct objects, however deep they stand.
use Rattle.std.proofs.Common.{refl, ℕ, zero, suc, List, [], ◌∷◌, ◌++◌, length, map, Option, Some, None, false, slice_get}
use Rattle.ecma_runs.specs.declared.shown.ErrorKind.TheVariants as error
use Rattle.ecma_runs.specs.Values.{Value, Undefined, Own, Host, Error}
use Rattle.ecma_runs.specs.State.{Activation, Environment, Entered, Sort, Plain, Method, Arrow, BaseClass, DerivedClass, Closure, State}
use Rattle.ecma_runs.specs.Run.{Outcome, Done, Thrown, Returned, Broken, Continued, Ended, Run, then_outcome, ◌>>=◌, given_or, reference_error, spend, returned_by}
use Rattle.ecma_runs.specs.Host.{Provided}
use Rattle.ecma_runs.specs.Environment.{empty, ids_of, new_environment, activation_in}
use Rattle.ecma_runs.specs.Meaning.{Invocation, AsCall, AsConstruct, Functions, Known, ExecutionContext, inside, Meaning}
use Rattle.ecma_runs.specs.Objects.{new_object, closure_at}
use Rattle.ecma_runs.specs.Functions.{prototype_for}
use Rattle.ecma_runs.specs.Evaluation.{as_it_is, called_with, meaning, entered, constructed_with, or_object, this_of, or_this, instance_object, construct_base, invoked, class_fields, fields_by, closure_context, invoke_closure, fields_of_closure, no_fields, functions_with, apply_at, apply, calls, invoke}
use Rattle.ecma_runs.specs.Laws.{state_behind}
use Rattle.ecma_run_constructions.proofs.Keeping.{IsObject, ThisIsObject, Fits, Fine, Held, Keeps, bind, give_keeps, throw_keeps, outside_keeps, given_or_keeps, returned_keeps, spend_keeps, Gave, Gives, then_gives}
use Rattle.ecma_run_constructions.proofs.States.{new_environment_keeps, activation_at_keeps, new_object_keeps}
use Rattle.ecma_run_constructions.proofs.Functions.{Sound, prototype_for_keeps}
use Rattle.ecma_run_constructions.proofs.Expressions.{MeansKept}
use Rattle.ecma_run_constructions.proofs.Nodes.{in_record_keeps, means_kept}

-- ---- what is constructed

or_object_keeps : (object place : ℕ) (v : Value) → Keeps (or_object object place v)
or_object_keeps object place (Own other) = give_keeps (Own other)
or_object_keeps object place (Host number) = give_keeps (Host number)
or_object_keeps object place (Error error_kind) = outside_keeps
or_object_keeps object place _ = give_keeps (Own object)

or_object_gives : (object place : ℕ) (v : Value) → Gives IsObject (or_object object place v)
or_object_gives object place (Own other) = record { at = λ s. refl }
or_object_gives object place (Host number) = record { at = λ s. refl }
or_object_gives object place (Error error_kind) = record { at = λ s. tt }
or_object_gives object place _ = record { at = λ s. refl }

this_of_keeps : (o : Option Activation) → Keeps (this_of o)
this_of_keeps None = outside_keeps
this_of_keeps (Some a) = given_or_keeps a.this (throw_keeps (Error error.Reference))

or_this_keeps : (place : ℕ) (v : Value) → Keeps (or_this place v)
or_this_keeps place (Own other) = give_keeps (Own other)
or_this_keeps place (Host number) = give_keeps (Host number)
or_this_keeps place (Error error_kind) = outside_keeps
or_this_keeps place Undefined = bind (activation_at_keeps place) (λ o. this_of_keeps o)
or_this_keeps place _ = throw_keeps (Error error.Kind)

-- the `this` of a record of which it is so

fits_at : (es : List Environment) (place : ℕ) → Fine es place → Fits (activation_in (slice_get es place))
fits_at [] place h = absurd h
fits_at (e ∷ es) zero h = h
fits_at (e ∷ es) (suc place) h = fits_at es place h

last_fine : (es : List Environment) (e : Environment) → Fits e.activation → Fine (es ++ e ∷ []) (length es)
last_fine [] e h = h
last_fine (first ∷ es) e h = last_fine es e h

this_gave : (o : Option Value) → ThisIsObject o → (s : State) → Gave IsObject (given_or o reference_error s)
this_gave None h s = tt
this_gave (Some v) h s = h

this_of_gave : (o : Option Activation) → Fits o → (s : State) → Gave IsObject (this_of o s)
this_of_gave None h s = tt
this_of_gave (Some a) h s = this_gave a.this h s

or_this_gave : (place : ℕ) (v : Value) (s : State) → Fine s.environments place → Gave IsObject (or_this place v s)
or_this_gave place (Own other) s h = refl
or_this_gave place (Host number) s h = refl
or_this_gave place (Error error_kind) s h = tt
or_this_gave place Undefined s h = this_of_gave (activation_in (slice_get s.environments place)) (fits_at s.environments place h) s
or_this_gave place _ s h = tt

behind_gave : (place : ℕ) (s : State) → Fine s.environments place → (r : Outcome Value) → Held s (state_behind r) → Gave IsObject (then_outcome r (λ v. or_this place v))
behind_gave place s h (Done v t) held = or_this_gave place v t (held place h)
behind_gave place s h (Thrown v t) held = tt
behind_gave place s h (Returned v t) held = tt
behind_gave place s h (Broken t) held = tt
behind_gave place s h (Continued t) held = tt
behind_gave place s h (Ended why t) held = tt

-- ---- calls and constructions

module _ (m : Meaning) (kept : MeansKept m) (x : ExecutionContext) (sound : Sound x.functions) where
  entered_keeps : (o : Option Activation) (vs : List Value) {finish : ℕ → Value → Run Value} → ((place : ℕ) (v : Value) → Keeps (finish place v)) → Keeps (entered m o vs finish x)
  entered_keeps o vs hf = in_record_keeps x sound (map (empty false) m.parameter_names) o (m.code vs) (kept.code vs) hf

  entered_gives : (o : Option Activation) (vs : List Value) (finish : ℕ → Value → Run Value) → ((place : ℕ) (v : Value) → Gives IsObject (finish place v)) → Gives IsObject (entered m o vs finish x)
  entered_gives o vs finish hf =
      then_gives (new_environment (map (empty false) m.parameter_names) o) (λ place. returned_by (λ _. Undefined) (m.code vs (inside x place)) >>= λ v. finish place.place v)
      (λ place. then_gives (returned_by (λ _. Undefined) (m.code vs (inside x place))) (λ v. finish place.place v) (λ v. hf place.place v))

  -- the object that `super(..)` bound
  derived_gave : (a : Activation) → ThisIsObject a.this → (vs : List Value) (s : State) → Gave IsObject (entered m (Some a) vs or_this x s)
  derived_gave a h vs s =
      let bindings = map (empty false) m.parameter_names in
      let e : Entered = record { place = length s.environments; ids = ids_of bindings } in
      let t : State = record s { environments = s.environments ++ record { bindings = bindings; activation = Some a } ∷ [] } in
      behind_gave (length s.environments) t (last_fine s.environments (record { bindings = bindings; activation = Some a }) h) (returned_by (λ _. Undefined) (m.code vs (inside x e)) t)
      ((returned_keeps (λ _. Undefined) (kept.code vs (inside x e) sound)).at t)

  construct_base_keeps : (function : ℕ) (home : Option ℕ) (new_target : ℕ) (vs : List Value) → Keeps (construct_base m function home new_target vs x)
  construct_base_keeps function home new_target vs =
      bind (prototype_for_keeps new_target) (λ p. bind (new_object_keeps (instance_object p)) (λ object. bind (sound.fields function (Own object)) (λ _.
      entered_keeps (Some (constructed_with (Some (Own object)) function home new_target vs)) vs (or_object_keeps object))))

  construct_base_gives : (function : ℕ) (home : Option ℕ) (new_target : ℕ) (vs : List Value) → Gives IsObject (construct_base m function home new_target vs x)
  construct_base_gives function home new_target vs =
      then_gives (prototype_for new_target)
      (λ p. new_object (instance_object p) >>= λ object. x.functions.fields function (Own object) >>= λ _. entered m (Some (constructed_with (Some (Own object)) function home new_target vs)) vs (or_object object) x)
      (λ p. then_gives (new_object (instance_object p))
      (λ object. x.functions.fields function (Own object) >>= λ _. entered m (Some (constructed_with (Some (Own object)) function home new_target vs)) vs (or_object object) x)
      (λ object. then_gives (x.functions.fields function (Own object)) (λ _. entered m (Some (constructed_with (Some (Own object)) function home new_target vs)) vs (or_object object) x)
      (λ _. entered_gives (Some (constructed_with (Some (Own object)) function home new_target vs)) vs (or_object object) (or_object_gives object))))

  as_it_is_keeps : (place : ℕ) (v : Value) → Keeps (as_it_is place v)
  as_it_is_keeps place v = give_keeps v

  invoked_keeps : (function : ℕ) (home : Option ℕ) (sort : Sort) (how : Invocation) (vs : List Value) → Keeps (invoked m function home sort how vs x)
  invoked_keeps function home Arrow (AsCall this) vs = entered_keeps None vs as_it_is_keeps
  invoked_keeps function home Plain (AsCall this) vs = entered_keeps (Some (called_with this function home vs)) vs as_it_is_keeps
  invoked_keeps function home Method (AsCall this) vs = entered_keeps (Some (called_with this function home vs)) vs as_it_is_keeps
  invoked_keeps function home BaseClass (AsCall this) vs = throw_keeps (Error error.Kind)
  invoked_keeps function home DerivedClass (AsCall this) vs = throw_keeps (Error error.Kind)
  invoked_keeps function home Plain (AsConstruct new_target) vs = construct_base_keeps function home new_target vs
  invoked_keeps function home BaseClass (AsConstruct new_target) vs = construct_base_keeps function home new_target vs
  invoked_keeps function home DerivedClass (AsConstruct new_target) vs = entered_keeps (Some (constructed_with None function home new_target vs)) vs or_this_keeps
  invoked_keeps function home Arrow (AsConstruct new_target) vs = throw_keeps (Error error.Kind)
  invoked_keeps function home Method (AsConstruct new_target) vs = throw_keeps (Error error.Kind)

  invoked_gives : (function : ℕ) (home : Option ℕ) (sort : Sort) (new_target : ℕ) (vs : List Value) → Gives IsObject (invoked m function home sort (AsConstruct new_target) vs x)
  invoked_gives function home Plain new_target vs = construct_base_gives function home new_target vs
  invoked_gives function home BaseClass new_target vs = construct_base_gives function home new_target vs
  invoked_gives function home DerivedClass new_target vs = record { at = λ s. derived_gave (constructed_with None function home new_target vs) tt vs s }
  invoked_gives function home Arrow new_target vs = record { at = λ s. tt }
  invoked_gives function home Method new_target vs = record { at = λ s. tt }

  class_fields_keeps : (closure : Closure) (v : Value) → Keeps (class_fields m closure v x)
  class_fields_keeps closure v = bind (new_environment_keeps [] _) (λ place. bind (kept.fields closure.field_keys v (inside x place) sound) (λ _. give_keeps tt))

  fields_by_keeps : (sort : Sort) (closure : Closure) (v : Value) → Keeps (fields_by m sort closure v x)
  fields_by_keeps BaseClass closure v = class_fields_keeps closure v
  fields_by_keeps DerivedClass closure v = class_fields_keeps closure v
  fields_by_keeps Plain closure v = give_keeps tt
  fields_by_keeps Method closure v = give_keeps tt
  fields_by_keeps Arrow closure v = give_keeps tt

module _ (provided : Provided) (known : Known) where
  invoke_closure_keeps : (f : Functions) → Sound f → (function : ℕ) (how : Invocation) (vs : List Value) (o : Option Closure) → Keeps (invoke_closure f provided known function how vs o)
  invoke_closure_keeps f sound function how vs None = outside_keeps
  invoke_closure_keeps f sound function how vs (Some closure) = invoked_keeps (meaning closure.node) (means_kept closure.node) (closure_context f provided known closure) sound function closure.home closure.sort how vs

  invoke_closure_gives : (f : Functions) → Sound f → (function new_target : ℕ) (vs : List Value) (o : Option Closure) → Gives IsObject (invoke_closure f provided known function (AsConstruct new_target) vs o)
  invoke_closure_gives f sound function new_target vs None = record { at = λ s. tt }
  invoke_closure_gives f sound function new_target vs (Some closure) = invoked_gives (meaning closure.node) (means_kept closure.node) (closure_context f provided known closure) sound function closure.home closure.sort new_target vs

  fields_of_closure_keeps : (f : Functions) → Sound f → (v : Value) (o : Option Closure) → Keeps (fields_of_closure f provided known v o)
  fields_of_closure_keeps f sound v None = outside_keeps
  fields_of_closure_keeps f sound v (Some closure) = fields_by_keeps (meaning closure.node) (means_kept closure.node) (closure_context f provided known closure) sound closure.sort closure v

  -- calls that keep it so, and construct objects
  pub record Invokes (f : ℕ → Invocation → List Value → Run Value) : Type 0 where
    pub keeps : (place : ℕ) (how : Invocation) (vs : List Value) → Keeps (f place how vs)
    pub gives : (place new_target : ℕ) (vs : List Value) → Gives IsObject (f place (AsConstruct new_target) vs)

  without_fields : (f : ℕ → Invocation → List Value → Run Value) → Invokes f → Sound (record { invoke = f; fields = no_fields })
  without_fields f h = record { invoke = h.keeps; fields = λ place v. outside_keeps; constructs = h.gives }

  sound_with : (f : ℕ → Invocation → List Value → Run Value) → Invokes f → Sound (functions_with f provided known)
  sound_with f h = record {
    invoke = h.keeps;
    fields = λ place v. record { at = λ s. (fields_of_closure_keeps (record { invoke = f; fields = no_fields }) (without_fields f h) v (closure_at place s)).at s };
    constructs = h.gives;
  }

  apply_keeps : (f : ℕ → Invocation → List Value → Run Value) → Invokes f → (place : ℕ) (how : Invocation) (vs : List Value) → Keeps (apply f provided known place how vs)
  apply_keeps f h place how vs = bind spend_keeps (λ _. record { at = λ s. (invoke_closure_keeps (functions_with f provided known) (sound_with f h) place how vs (closure_at place s)).at s })

  apply_gives : (f : ℕ → Invocation → List Value → Run Value) → Invokes f → (place new_target : ℕ) (vs : List Value) → Gives IsObject (apply f provided known place (AsConstruct new_target) vs)
  apply_gives f h place new_target vs =
      then_gives spend (λ _. apply_at f provided known place (AsConstruct new_target) vs)
      (λ _. record { at = λ s. (invoke_closure_gives (functions_with f provided known) (sound_with f h) place new_target vs (closure_at place s)).at s })

  pub calls_invoke : (n : ℕ) → Invokes (calls provided known n)
  calls_invoke zero = record { keeps = λ place how vs. record { at = λ s p f. f }; gives = λ place new_target vs. record { at = λ s. tt } }
  calls_invoke (suc n) = record {
    keeps = λ place how vs. record { at = λ s. (apply_keeps (calls provided known n) (calls_invoke n) place how vs).at s };
    gives = λ place new_target vs. record { at = λ s. (apply_gives (calls provided known n) (calls_invoke n) place new_target vs).at s };
  }

  pub invoke_gives : (place new_target : ℕ) (vs : List Value) → Gives IsObject (invoke provided known place (AsConstruct new_target) vs)
  invoke_gives place new_target vs = record { at = λ s. ((calls_invoke s.turns).gives place new_target vs).at s }
