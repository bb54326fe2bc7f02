-- Parts of runs that may be dropped: they read, or make what nobody else has.
use Rattle.std.proofs.Common.{◌≡◌, refl, sym, ap, ◌∙◌, subst, subst₂, ℕ, pos, List, [], ◌∷◌, ◌++◌, length, append-nil, Option, Some, None, Bool, true, false, nat_eq, codes}
use Rattle.ecma_number.specs.declared.js_number.JsNumber.TheVariants.{Whole}
use Rattle.ecma_kind.specs.declared.operators.BinaryOp.{BinaryOp}
use Rattle.ecma_kind.specs.declared.operators.BinaryOp.TheVariants as binary
use Rattle.ecma_tree.specs.declared.node.Node.{Node}
use Rattle.ecma_runs.specs.Values.{Value, Undefined, Null, Truth, Number, Text, Own, Host, Error}
use Rattle.ecma_runs.specs.State.{Id, Activation, Environment, Entered, Sort, Plain, Method, Arrow, BaseClass, DerivedClass, Callable, Code, Bound, Passed, Property, Data, Fixed, Accessor, Open, Object, State}
use Rattle.ecma_runs.specs.Run.{Outcome, Done, Thrown, Returned, Broken, Continued, Ended, Run, then_outcome, ◌>>=◌, give, outside, type_error, reference_error, when, given, given_or, changed_at}
use Rattle.ecma_runs.specs.Environment.{Reference, ToVariable, ToFree, resolved, is_among, this, activation_in, with_value, set_variable, set_all}
use Rattle.ecma_runs.specs.Meaning.{ExecutionContext}
use Rattle.ecma_runs.specs.Operators.{key_from, binary_value}
use Rattle.ecma_runs.specs.Objects.{new_object, Calling, Function, BoundFunction, calling_of, calling_at, found_from}
use Rattle.ecma_runs.specs.Members.{is_there, inherits, prototype_value, instance_by, instance_of_function, instance_of_calling, instance_of, type_by, type_of}
use Rattle.ecma_runs.specs.Functions.{read, read_typed, function_object, closure_of, prototype_entries, make_function, open_entries, plain_object, make_generator, new_regular_expression}
use Rattle.ecma_runs.specs.Enums.{enum_of, is_hidden}
use Rattle.ecma_runs.specs.Expressions.{named, identifier, is_in, applied}
use Rattle.ecma_run_places.specs.Worlds.{Paired, World, IsFree, arguments_of_activation, arguments_at, LikeArguments, States}
use Rattle.ecma_run_places.specs.Alike.{Contexts, first}
use Rattle.ecma_run_places.proofs.Lists.{else_changed, not_equal, equal_not}
use Rattle.ecma_run_places.proofs.Building.{new_environments, arguments_in}
use Rattle.ecma_run_places.proofs.Records.{Found, found, found_none, activation_found}
use Rattle.ecma_run_places.proofs.Dropping.{besides, Dropped, dropped, dropped_thrown, dropped_end, Drops, read_variable_drops, free_drops, typed_drops}

dropped_on : {w : World} {A B : Type 0} {k : A → Run B} → ((a : A) → Drops w (k a)) → {s' : State} {r : Outcome A} → Dropped w s' r → Dropped w s' (then_outcome r k)
dropped_on h (dropped st) = (h _).at st
dropped_on h dropped_thrown = dropped_thrown
dropped_on h dropped_end = dropped_end

pub drops_bind : {w : World} {A B : Type 0} {m : Run A} {k : A → Run B} → Drops w m → ((a : A) → Drops w (k a)) → Drops w (m >>= k)
drops_bind hm hk = record { at = λ st. dropped_on hk (hm.at st) }

assoc : {A B C : Type 0} (r : Outcome A) (k : A → Run B) (l : B → Run C) → then_outcome r (λ a. k a >>= l) ≡ then_outcome (then_outcome r k) l
assoc (Done a s) k l = refl
assoc (Thrown v s) k l = refl
assoc (Returned v s) k l = refl
assoc (Broken s) k l = refl
assoc (Continued s) k l = refl
assoc (Ended why s) k l = refl

-- it does not matter how parts are put together
pub drops_together : {w : World} {A B C : Type 0} (m : Run A) (k : A → Run B) (l : B → Run C) → Drops w ((m >>= k) >>= l) → Drops w (m >>= λ a. k a >>= l)
drops_together {w} m k l h = record { at = λ st. together st }
  where
    together : {s s' : State} → States w s s' → Dropped w s' (then_outcome (m s) (λ a. k a >>= l))
    together {s} {s'} st = subst (Dropped w s') (sym (assoc (m s) k l)) (h.at st)

pub given_drops : {w : World} {A : Type 0} (o : Option A) → Drops w (given o)
given_drops (Some a) = record { at = λ st. dropped st }
given_drops None = record { at = λ st. dropped_end }

pub give_drops : {w : World} {A : Type 0} (a : A) → Drops w (give a)
give_drops a = record { at = λ st. dropped st }

pub outside_drops : {w : World} {A : Type 0} → Drops w (outside {A = A})
outside_drops = record { at = λ st. dropped_end }

type_error_drops : {w : World} {A : Type 0} → Drops w (type_error {A = A})
type_error_drops = record { at = λ st. dropped_thrown }

pub when_drops : {w : World} {A : Type 0} (z : Bool) {m k : Run A} → Drops w m → Drops w k → Drops w (when z m k)
when_drops true hm hk = hm
when_drops false hm hk = hk

-- ---- names

when_then : {w : World} {A B : Type 0} (z : Bool) (m m' : Run A) (k : A → Run B) → Drops w (m >>= k) → Drops w (m' >>= k) → Drops w (when z m m' >>= k)
when_then true m m' k h h' = h
when_then false m m' k h h' = h'

named_drops : {w : World} {A : Type 0} (k : Reference → Run A) → ((place : ℕ) (id : Id) → Drops w (k (ToVariable place id))) → ((name : List ℕ) → Drops w (k (ToFree name)))
    → (scope : List Entered) (declared : List Id) (id : Id) → Drops w (resolved scope declared id >>= k)
named_drops k hv hf [] declared id = when_then (is_among id declared) outside (give (ToFree id.sym)) k (record { at = λ st. dropped_end }) (record { at = λ st. (hf id.sym).at st })
named_drops k hv hf (e ∷ outer) declared id = when_then (is_among id e.ids) (give (ToVariable e.place id)) (resolved outer declared id) k (record { at = λ st. (hv e.place id).at st }) (named_drops k hv hf outer declared id)

-- no name is that of a member
abbrev pub NoMembers : {w : World} → Contexts w → Type 0
NoMembers c = c.known.enums.names ≡ []

no_member_drops : {w : World} (c : Contexts w) → NoMembers c → (id : Id) {A : Type 0} (k : Reference → Run A) → ((place : ℕ) (id : Id) → Drops w (k (ToVariable place id))) → ((name : List ℕ) → Drops w (k (ToFree name)))
    → Drops w (named (enum_of id c.known.enums.names) id (first c) >>= k)
no_member_drops {w} c none id k hv hf =
    subst (λ names. Drops w (named (enum_of id names) id (first c) >>= k)) (sym none)
    (when_then (is_hidden c.known.enums id) outside (resolved c.scope c.known.declared id) k (record { at = λ st. dropped_end }) (named_drops k hv hf c.scope c.known.declared id))

pub identifier_drops : {w : World} (c : Contexts w) → NoMembers c → (sym : List ℕ) (ctxt : ℕ) → Drops w (identifier sym ctxt (first c) >>= λ r. read (first c) r)
identifier_drops c none sym ctxt = no_member_drops c none (record { sym = sym; ctxt = ctxt }) (λ r. read (first c) r) (λ place id. read_variable_drops c.provided.imports place id) (λ name. free_drops c name)

pub typed_identifier_drops : {w : World} (c : Contexts w) → NoMembers c → (sym : List ℕ) (ctxt : ℕ) → Drops w (identifier sym ctxt (first c) >>= λ r. read_typed (first c) r)
typed_identifier_drops c none sym ctxt = no_member_drops c none (record { sym = sym; ctxt = ctxt }) (λ r. read_typed (first c) r) (λ place id. read_variable_drops c.provided.imports place id) (λ name. typed_drops c name)

given_or_error : {w : World} (o : Option Value) → Drops w (given_or o reference_error)
given_or_error (Some v) = give_drops v
given_or_error None = record { at = λ st. dropped_thrown }

this_found : {w : World} {s s' : State} {r r' : Outcome (ℕ × Activation)} → States w s s' → Found w s s' r r' → Dropped w s' (then_outcome r (λ a. given_or a.1.this reference_error))
this_found st (found {x = x} p at at' l) = (given_or_error x.this).at st
this_found st found_none = dropped_end

pub this_drops : {w : World} (c : Contexts w) → Drops w (this c.scope)
this_drops c = record { at = λ st. this_found st (activation_found c.scopes st) }

-- ---- objects that are made

abbrev with_parts : State → List Environment → List Object → State
with_parts s es os = record { environments = es; objects = os; handles = s.handles; answers = s.answers; events = s.events; turns = s.turns }

pub more_left : {w : World} {s s' : State} → States w s s' → (os : List Object) (es : List Environment) → States w (with_parts s (s.environments ++ es) (s.objects ++ os)) s'
more_left {w} {s} {s'} st os es =
    subst₂ (λ es' os'. States w (with_parts s (s.environments ++ es) (s.objects ++ os)) (with_parts s' es' os')) (append-nil s'.environments) (append-nil s'.objects) (besides st os [] es [])

made_object : {w : World} {s s' : State} → States w s s' → (o : Object) → States w (with_parts s s.environments (s.objects ++ o ∷ [])) s'
made_object {w} {s} {s'} st o = subst (λ es. States w (with_parts s es (s.objects ++ o ∷ [])) s') (append-nil s.environments) (more_left st (o ∷ []) [])

pub new_object_drops : {w : World} (o : Object) → Drops w (new_object o)
new_object_drops o = record { at = λ st. dropped (made_object st o) }

pub make_function_drops : {w : World} (node : Node) (sort : Sort) (home : Option ℕ) (x : ExecutionContext) → Drops w (make_function node sort home x)
make_function_drops node Plain home x = drops_bind (new_object_drops _) (λ place. new_object_drops (function_object (prototype_entries true place) None (Code (closure_of node Plain home x))))
make_function_drops node Method home x = new_object_drops _
make_function_drops node Arrow home x = new_object_drops _
make_function_drops node BaseClass home x = new_object_drops _
make_function_drops node DerivedClass home x = new_object_drops _

pub make_generator_drops : {w : World} (node : Node) (home : Option ℕ) (x : ExecutionContext) → Drops w (make_generator node home x)
make_generator_drops node home x =
    drops_bind (new_object_drops _) (λ top. drops_bind (new_object_drops (plain_object [] (Some top))) (λ place. drops_bind (new_object_drops (plain_object (open_entries (codes "prototype" ∷ [])) None)) (λ functions.
    new_object_drops (function_object (prototype_entries true place) (Some functions) (Code (closure_of node Method home x))))))

pub new_regular_expression_drops : {w : World} → Drops w new_regular_expression
new_regular_expression_drops = drops_bind (new_object_drops _) (λ top. new_object_drops (plain_object (record { key = codes "lastIndex"; property = Fixed true (Number (Whole (pos 0))) } ∷ []) (Some top)))

-- ---- records that are made

-- a change of a record that is in no pair
changed_record : {w : World} {s s' : State} → States w s s' → (f : Environment → Environment) (place : ℕ) → IsFree w.environments place → States w (record s { environments = changed_at f place s.environments }) s'
changed_record {w} {s} {s'} st f place free = record {
  objects = st.objects;
  environments = λ a b p. let e = st.environments a b p in record { first = e.first; second = e.second; is_first = else_changed f place a s.environments (other a b p) ∙ e.is_first; is_second = e.is_second; related = e.related };
  arguments = λ a b p. subst (λ z. LikeArguments w s.objects z (arguments_at s' b)) (sym (same a b p)) (st.arguments a b p);
  arguments_apart = λ a b c d o p q h k. st.arguments_apart a b c d o p q (sym (same a b p) ∙ h) (sym (same c d q) ∙ k);
  free = st.free;
  handles = st.handles;
  answers = st.answers;
  events = st.events;
  turns = st.turns;
}
  where
    other : (a b : ℕ) → Paired w.environments a b → nat_eq place a ≡ false
    other a b p = not_equal place a (λ e. free b (subst (λ z. Paired w.environments z b) (sym e) p))

    same : (a b : ℕ) → Paired w.environments a b → arguments_in (changed_at f place s.environments) a ≡ arguments_at s a
    same a b p = ap (λ o. arguments_of_activation (activation_in o)) (else_changed f place a s.environments (other a b p))

set_variable_drops : {w : World} (place : ℕ) (id : Id) (v : Value) → IsFree w.environments place → Drops w (set_variable place id v)
set_variable_drops place id v free = record { at = λ st. dropped (changed_record st (with_value id v) place free) }

pub set_all_drops : {w : World} (ids : List Id) (place : ℕ) (v : Value) → IsFree w.environments place → Drops w (set_all ids place v)
set_all_drops [] place v free = give_drops tt
set_all_drops (id ∷ ids) place v free = drops_bind (set_variable_drops place id v free) (λ _. set_all_drops ids place v free)

pub made_record : {w : World} {s s' : State} → States w s s' → (e : Environment) → States w (with_parts s (s.environments ++ e ∷ []) s.objects) s'
made_record {w} {s} {s'} st e = subst (λ os. States w (with_parts s (s.environments ++ e ∷ []) os) s') (append-nil s.objects) (more_left st [] (e ∷ []))

pub next_record_free : {w : World} {s s' : State} → States w s s' → IsFree w.environments (length s.environments)
next_record_free {s = s} st b p = equal_not (length s.environments) (length s.environments) (new_environments st (length s.environments) b p).0 refl

-- ---- operators

found_drops : {w : World} (place : ℕ) (key : List ℕ) → Drops w (found_from place key)
found_drops place key = record { at = λ st. dropped st }

is_there_drops : {w : World} (o : Option Property) → Drops w (is_there o)
is_there_drops (Some Open) = outside_drops
is_there_drops (Some (Data v)) = give_drops _
is_there_drops (Some (Fixed b v)) = give_drops _
is_there_drops (Some (Accessor g s)) = give_drops _
is_there_drops None = give_drops _

is_in_drops : {w : World} (v u : Value) → Drops w (is_in v u)
is_in_drops v (Own place) = drops_bind (given_drops (key_from v)) (λ k. drops_bind (found_drops place k) (λ p. is_there_drops p))
is_in_drops v (Host n) = outside_drops
is_in_drops v (Error k) = outside_drops
is_in_drops v Undefined = type_error_drops
is_in_drops v Null = type_error_drops
is_in_drops v (Truth b) = type_error_drops
is_in_drops v (Number n) = type_error_drops
is_in_drops v (Text t) = type_error_drops

calling_of_drops : {w : World} (o : Option Callable) → Drops w (calling_of o)
calling_of_drops None = give_drops None
calling_of_drops (Some (Code closure)) = give_drops _
calling_of_drops (Some (Bound target this given)) = give_drops _
calling_of_drops (Some (Passed closure)) = outside_drops

calling_drops : {w : World} (place : ℕ) → Drops w (calling_at place)
calling_drops place = record { at = λ st. (calling_of_drops _).at st }

prototype_value_drops : {w : World} (o : Option Property) → Drops w (prototype_value o)
prototype_value_drops None = give_drops _
prototype_value_drops (Some (Data v)) = give_drops v
prototype_value_drops (Some (Fixed b v)) = give_drops v
prototype_value_drops (Some (Accessor g s)) = outside_drops
prototype_value_drops (Some Open) = outside_drops

inherits_drops : {w : World} (place prototype : ℕ) → Drops w (inherits place prototype)
inherits_drops place prototype = record { at = λ st. dropped st }

instance_by_drops : {w : World} (place : ℕ) (v : Value) → Drops w (instance_by place v)
instance_by_drops place (Own prototype) = drops_bind (inherits_drops place prototype) (λ b. give_drops (Truth b))
instance_by_drops place (Host n) = outside_drops
instance_by_drops place (Error k) = outside_drops
instance_by_drops place Undefined = type_error_drops
instance_by_drops place Null = type_error_drops
instance_by_drops place (Truth b) = type_error_drops
instance_by_drops place (Number n) = type_error_drops
instance_by_drops place (Text t) = type_error_drops

instance_of_function_drops : {w : World} (v : Value) (f : ℕ) → Drops w (instance_of_function v f)
instance_of_function_drops (Own place) f = drops_bind (drops_bind (found_drops f (codes "prototype")) (λ p. prototype_value_drops p)) (λ v. instance_by_drops place v)
instance_of_function_drops (Host n) f = outside_drops
instance_of_function_drops (Error k) f = outside_drops
instance_of_function_drops Undefined f = give_drops _
instance_of_function_drops Null f = give_drops _
instance_of_function_drops (Truth b) f = give_drops _
instance_of_function_drops (Number n) f = give_drops _
instance_of_function_drops (Text t) f = give_drops _

instance_of_calling_drops : {w : World} (v : Value) (place : ℕ) (o : Option Calling) → Drops w (instance_of_calling v place o)
instance_of_calling_drops v place None = type_error_drops
instance_of_calling_drops v place (Some (Function sort)) = instance_of_function_drops v place
instance_of_calling_drops v place (Some (BoundFunction target this given)) = instance_of_function_drops v target

instance_of_drops : {w : World} (v u : Value) → Drops w (instance_of v u)
instance_of_drops v (Own place) = drops_bind (calling_drops place) (λ o. instance_of_calling_drops v place o)
instance_of_drops v (Host n) = outside_drops
instance_of_drops v (Error k) = outside_drops
instance_of_drops v Undefined = type_error_drops
instance_of_drops v Null = type_error_drops
instance_of_drops v (Truth b) = type_error_drops
instance_of_drops v (Number n) = type_error_drops
instance_of_drops v (Text t) = type_error_drops

pub applied_drops : {w : World} (op : BinaryOp) (v u : Value) → Drops w (applied op v u)
applied_drops binary.In v u = is_in_drops v u
applied_drops binary.InstanceOf v u = instance_of_drops v u
applied_drops op v u = given_drops (binary_value op v u)

pub type_of_drops : {w : World} (v : Value) → Drops w (type_of v)
type_of_drops Undefined = give_drops _
type_of_drops Null = give_drops _
type_of_drops (Truth b) = give_drops _
type_of_drops (Number n) = give_drops _
type_of_drops (Text t) = give_drops _
type_of_drops (Own place) = drops_bind (calling_drops place) (λ o. give_drops (Text (type_by o)))
type_of_drops (Host n) = outside_drops
type_of_drops (Error k) = outside_drops
