-- Objects are made, read and changed alike.
use Rattle.std.proofs.Common.{◌≡◌, refl, sym, ap, subst, subst₂, ℕ, zero, suc, ◌<◌, ◌||◌, List, map, length, Option, Some, None, is_some, Bool, true, false, if◌then◌else◌, bytes_eq, codes, slice_get, arith}
use Rattle.std.specs.Fmt.{decimal}
use Rattle.std.proofs.lemmas.Option.{slice_get_within}
use Rattle.ecma_runs.specs.declared.shown.ErrorKind.TheVariants as error
use Rattle.ecma_runs.specs.Values.{Value}
use Rattle.ecma_runs.specs.State.{Sort, Callable, Property, Entry, Extent, Ordinary, Array, ArgumentList, Object, State}
use Rattle.ecma_runs.specs.Run.{Run}
use Rattle.ecma_runs.specs.Objects.{new_object, object_at, callable_in, code_in, closure_at, Calling, Function, BoundFunction, calling_of, calling_at, prototype_in, prototype_at, extent_in, extent_at, Ancestry, has_elements, with_object, property_of, or_else, own_property, extent_property, length_property, own_in, own_property_at, missing, property_above, no_ancestry, found_from, Base, BuiltInBase, base_from, base_of, super_base, found_from_base, with_entries, change_entries, put_entry, without_entry, is_fixed, if_element, define, define_data, with_getter, with_setter, data_or_undefined, elements_to, element_entries, elements_by, elements_at, new_array}
use Rattle.ecma_runs.specs.Classes.{with_field_keys, keeping_keys, keep_field_keys}
use Rattle.ecma_run_places.specs.Worlds.{Each, no_more, more, Maybe, neither, both, Paired, newest, World, Same, is, Objects, Like, undefineds, numbers, errors, LikeClosure, closures_like, LikeCallable, codes_like, bound_like, passed_like, LikeProperty, data_like, fixed_like, accessors_like, open_like, LikeEntry, entries_like, LikeObject, objects_like, arguments_object, IsBelow, LikeAt, States}
use Rattle.ecma_run_places.specs.Alike.{Alike, Outcomes, both_done, Likes, MaybeObjects, LikeElements, LikeBase, object_bases, built_in_bases}
use Rattle.ecma_run_places.proofs.Combinators.{done_here, Keeps, kept_bind, kept_bind_same, give_kept, throw_kept, outside_kept, when_kept}
use Rattle.ecma_run_places.proofs.Host.{each_length}
use Rattle.ecma_run_places.proofs.Records.{if_maybe}
use Rattle.ecma_run_places.proofs.Building.{new_objects, more_objects, grown_objects, changed_objects}

-- ---- places

pub new_object_alike : {w : World} {o o' : Object} → LikeObject w o o' → Alike w Objects (new_object o) (new_object o')
new_object_alike {w} {o} {o'} q = record { at = λ st. made_at st }
  where
    made_at : {s s' : State} → States w s s' → Outcomes w Objects (new_object o s) (new_object o' s')
    made_at {s} {s'} st = both_done (more_objects w (length s.objects) (length s'.objects) (new_objects st)) (grown_objects st q) newest

-- what is known of an object is known of both
pub of_objects : {w : World} {s s' : State} (P : Option Object → Option Object → Type 0) → States w s s' → {a b : ℕ} → Paired w.objects a b → ((o o' : Object) → LikeAt w a b o o' → P (Some o) (Some o'))
    → P (slice_get s.objects a) (slice_get s'.objects b)
of_objects P st {a} {b} p h = let e = st.objects a b p in subst₂ P (sym e.is_first) (sym e.is_second) (h e.first e.second e.related)

callable_of : {w : World} {o o' : Object} → LikeObject w o o' → Maybe (LikeCallable w) o.callable o'.callable
callable_of (objects_like es p c) = c

pub prototype_of : {w : World} {o o' : Object} → LikeObject w o o' → Maybe (Objects w) o.prototype o'.prototype
prototype_of (objects_like es p c) = p

extent_of : {w : World} {o o' : Object} → LikeObject w o o' → o'.extent ≡ o.extent
extent_of (objects_like es p c) = refl

-- what can be called of an object
pub data LikeCalling (w : World) : Calling → Calling → Type 0 where
  functions_like : {sort : Sort} → LikeCalling w (Function sort) (Function sort)
  bound_functions_like : {a b : ℕ} {v v' : Value} {vs vs' : List Value} → Objects w a b → Like w v v' → Likes w vs vs' → LikeCalling w (BoundFunction a v vs) (BoundFunction b v' vs')

abbrev pub MaybeCalling : World → Option Calling → Option Calling → Type 0
MaybeCalling w o o' = Maybe (LikeCalling w) o o'

calling_of_kept : {w : World} {o o' : Option Callable} → Maybe (LikeCallable w) o o' → Keeps w MaybeCalling (calling_of o) (calling_of o')
calling_of_kept neither = give_kept neither
calling_of_kept (both (codes_like (closures_like s h))) = give_kept (both functions_like)
calling_of_kept (both (bound_like p q qs)) = give_kept (both (bound_functions_like p q qs))
calling_of_kept (both (passed_like q)) = outside_kept

pub callable_like : {w : World} {s s' : State} → States w s s' → {a b : ℕ} → Objects w a b → Maybe (LikeCallable w) (callable_in (slice_get s.objects a)) (callable_in (slice_get s'.objects b))
callable_like {w} st p = of_objects (λ o o'. Maybe (LikeCallable w) (callable_in o) (callable_in o')) st p (λ o o' l. callable_of l.like)

pub calling_at_kept : {w : World} {a b : ℕ} → Objects w a b → Keeps w MaybeCalling (calling_at a) (calling_at b)
calling_at_kept p = record { at = λ st. (calling_of_kept (callable_like st p)).at st }

code_in_like : {w : World} {o o' : Option Callable} → Maybe (LikeCallable w) o o' → Maybe (LikeClosure w) (code_in o) (code_in o')
code_in_like neither = neither
code_in_like (both (codes_like q)) = both q
code_in_like (both (bound_like p q qs)) = neither
code_in_like (both (passed_like q)) = neither

pub closure_at_like : {w : World} {s s' : State} → States w s s' → {a b : ℕ} → Objects w a b → Maybe (LikeClosure w) (closure_at a s) (closure_at b s')
closure_at_like st p = code_in_like (callable_like st p)

pub prototype_at_kept : {w : World} {a b : ℕ} → Objects w a b → Keeps w MaybeObjects (prototype_at a) (prototype_at b)
prototype_at_kept {w} p = record { at = λ st. done_here st (of_objects (λ o o'. Maybe (Objects w) (prototype_in o) (prototype_in o')) st p (λ o o' l. prototype_of l.like)) }

pub same_is : {w : World} {A : Type 0} {a a' : A} → a' ≡ a → Same w a a'
same_is {w} {A} {a} e = subst (λ z. Same w a z) (sym e) is

pub extent_at_kept : {w : World} {a b : ℕ} → Objects w a b → Keeps w Same (extent_at a) (extent_at b)
extent_at_kept {w} p = record { at = λ st. done_here st (same_is (of_objects (λ o o'. extent_in o' ≡ extent_in o) st p (λ o o' l. extent_of l.like))) }

-- ---- properties

abbrev pub MaybeProperty : World → Option Property → Option Property → Type 0
MaybeProperty w o o' = Maybe (LikeProperty w) o o'

property_of_like : {w : World} (key : List ℕ) {es es' : List Entry} → Each (LikeEntry w) es es' → MaybeProperty w (property_of key es) (property_of key es')
property_of_like key no_more = neither
property_of_like key (more (entries_like {key = k} q) qs) = if_maybe (bytes_eq k key) (both q) (property_of_like key qs)

length_like : {w : World} (n : ℕ) (key : List ℕ) → MaybeProperty w (length_property n key) (length_property n key)
length_like n key = if_maybe (bytes_eq key (codes "length")) (both (fixed_like (numbers _))) neither

extent_like : {w : World} (extent : Extent) (key : List ℕ) → MaybeProperty w (extent_property extent key) (extent_property extent key)
extent_like Ordinary key = neither
extent_like (Array n) key = length_like n key
extent_like (ArgumentList n) key = length_like n key

or_else_like : {A : Type 0} {R : A → A → Type 0} {o o' p p' : Option A} → Maybe R o o' → Maybe R p p' → Maybe R (or_else o p) (or_else o' p')
or_else_like (both q) r = both q
or_else_like neither r = r

own_property_like : {w : World} (key : List ℕ) {o o' : Object} → LikeObject w o o' → MaybeProperty w (own_property key o) (own_property key o')
own_property_like key (objects_like {extent = extent} es p c) = or_else_like (extent_like extent key) (property_of_like key es)

pub own_property_at_kept : {w : World} {a b : ℕ} → Objects w a b → (key : List ℕ) → Keeps w MaybeProperty (own_property_at a key) (own_property_at b key)
own_property_at_kept {w} p key = record { at = λ st. done_here st (of_objects (λ o o'. MaybeProperty w (own_in key o) (own_in key o')) st p (λ o o' l. own_property_like key l.like)) }

missing_like : {w : World} (ancestry : Ancestry) (key : List ℕ) → MaybeProperty w (missing ancestry key) (missing ancestry key)
missing_like ancestry key = if_maybe _ (both open_like) neither

is_some_like : {A : Type 0} {R : A → A → Type 0} {o o' : Option A} → Maybe R o o' → is_some o' ≡ is_some o
is_some_like neither = refl
is_some_like (both q) = refl

with_object_like : {w : World} {o o' : Object} → LikeObject w o o' → (ancestry : Ancestry) → with_object o' ancestry ≡ with_object o ancestry
with_object_like (objects_like {extent = extent} es p c) ancestry =
    ap (λ b. record { has_function = b || ancestry.has_function; has_elements = has_elements extent || ancestry.has_elements }) (is_some_like c)

-- ---- look-ups, up the prototypes: these stand lower and lower

module _ {w : World} {s s' : State} (st : States w s s') (key : List ℕ) where
  above_prototype : (a b n n' : ℕ) (ancestry : Ancestry) → suc a < suc n → suc b < suc n' → {p p' : Option ℕ} → Maybe (Objects w) p p' → IsBelow a p → IsBelow b p'
      → ((c d : ℕ) → Paired w.objects c d → c < a → suc c < n → suc d < n' → MaybeProperty w (property_above s.objects key ancestry n (slice_get s.objects c)) (property_above s'.objects key ancestry n' (slice_get s'.objects d)))
      → MaybeProperty w (property_above s.objects key ancestry n (object_at s.objects p)) (property_above s'.objects key ancestry n' (object_at s'.objects p'))
  above_prototype a b zero n' ancestry le le' q below below' rest = absurd (omega (arith, le))
  above_prototype a b (suc n) zero ancestry le le' q below below' rest = absurd (omega (arith, le'))
  above_prototype a b (suc n) (suc n') ancestry le le' neither below below' rest = missing_like ancestry key
  above_prototype a b (suc n) (suc n') ancestry le le' (both {a = c} {a' = d} q) below below' rest = rest c d q below (omega (arith, le, below)) (omega (arith, le', below'))

  above_object : (a b n n' : ℕ) (ancestry : Ancestry) → suc a < suc n → suc b < suc n' → (o o' : Object) → LikeAt w a b o o'
      → ((c d : ℕ) (anc : Ancestry) → Paired w.objects c d → c < a → suc c < n → suc d < n' → MaybeProperty w (property_above s.objects key anc n (slice_get s.objects c)) (property_above s'.objects key anc n' (slice_get s'.objects d)))
      → MaybeProperty w (property_above s.objects key ancestry (suc n) (Some o)) (property_above s'.objects key ancestry (suc n') (Some o'))
  above_object a b n n' ancestry le le' o o' l rest =
      or_else_like (own_property_like key l.like)
      (subst (λ z. MaybeProperty w (property_above s.objects key (with_object o ancestry) n (object_at s.objects o.prototype)) (property_above s'.objects key z n' (object_at s'.objects o'.prototype)))
      (sym (with_object_like l.like ancestry))
      (above_prototype a b n n' (with_object o ancestry) le le' (prototype_of l.like) l.below l.below' (λ c d q. rest c d (with_object o ancestry) q)))

  -- with as much to go as the place is high, and one more
  above_like : (n n' a b : ℕ) (ancestry : Ancestry) → Paired w.objects a b → suc a < n → suc b < n'
      → MaybeProperty w (property_above s.objects key ancestry n (slice_get s.objects a)) (property_above s'.objects key ancestry n' (slice_get s'.objects b))
  above_like zero n' a b ancestry p le le' = absurd (omega (arith, le))
  above_like (suc n) zero a b ancestry p le le' = absurd (omega (arith, le'))
  above_like (suc n) (suc n') a b ancestry p le le' =
      of_objects (λ o o'. MaybeProperty w (property_above s.objects key ancestry (suc n) o) (property_above s'.objects key ancestry (suc n') o')) st p
      (λ o o' l. above_object a b n n' ancestry le le' o o' l (λ c d anc q lower lt lt'. above_like n n' c d anc q lt lt'))

  pub found_like : {a b : ℕ} → Paired w.objects a b → MaybeProperty w (property_above s.objects key no_ancestry (suc (length s.objects)) (slice_get s.objects a)) (property_above s'.objects key no_ancestry (suc (length s'.objects)) (slice_get s'.objects b))
  found_like {a} {b} p =
      let e = st.objects a b p in
      let le : a < length s.objects = slice_get_within s.objects a e.first e.is_first in
      let le' : b < length s'.objects = slice_get_within s'.objects b e.second e.is_second in
      above_like (suc (length s.objects)) (suc (length s'.objects)) a b no_ancestry p (omega (arith, le)) (omega (arith, le'))

pub found_from_kept : {w : World} {a b : ℕ} → Objects w a b → (key : List ℕ) → Keeps w MaybeProperty (found_from a key) (found_from b key)
found_from_kept p key = record { at = λ st. done_here st (found_like st key p) }

base_from_like : {w : World} {o o' : Object} → LikeObject w o o' → {p p' : Option ℕ} → Maybe (Objects w) p p' → LikeBase w (base_from o p) (base_from o' p')
base_from_like l (both q) = object_bases q
base_from_like {w} {o} {o'} l neither = subst (λ z. LikeBase w (base_from o None) (BuiltInBase z)) (sym (with_object_like l no_ancestry)) built_in_bases

pub super_base_kept : {w : World} {a b : ℕ} → Objects w a b → Keeps w LikeBase (super_base a) (super_base b)
super_base_kept {w} p = record { at = λ st. done_here st (of_objects (λ o o'. LikeBase w (base_of o) (base_of o')) st p (λ o o' l. base_from_like l.like (prototype_of l.like))) }

pub found_from_base_kept : {w : World} {b b' : Base} → LikeBase w b b' → (key : List ℕ) → Keeps w MaybeProperty (found_from_base b key) (found_from_base b' key)
found_from_base_kept (object_bases p) key = found_from_kept p key
found_from_base_kept (built_in_bases {ancestry = ancestry}) key = give_kept (missing_like ancestry key)

-- ---- changes

with_entries_like : {w : World} (f g : List Entry → List Entry) → ((es es' : List Entry) → Each (LikeEntry w) es es' → Each (LikeEntry w) (f es) (g es')) → (o o' : Object) → LikeObject w o o' → LikeObject w (with_entries f o) (with_entries g o')
with_entries_like f g h _ _ (objects_like es p c) = objects_like (h _ _ es) p c

pub change_entries_kept : {w : World} {a b : ℕ} → Objects w a b → (f g : List Entry → List Entry) → ((es es' : List Entry) → Each (LikeEntry w) es es' → Each (LikeEntry w) (f es) (g es'))
    → Keeps w Same (change_entries a f) (change_entries b g)
change_entries_kept p f g h = record { at = λ st. done_here (changed_objects st p (with_entries f) (with_entries g) (with_entries_like f g h) (λ o. refl) (λ o. refl)) is }

-- what a property becomes
abbrev pub PutAlike : World → (Option Property → Property) → (Option Property → Property) → Type 0
PutAlike w to to' = (o o' : Option Property) → MaybeProperty w o o' → LikeProperty w (to o) (to' o')

if_each : {A : Type 0} {R : A → A → Type 0} {xs xs' ys ys' : List A} (b : Bool) → Each R xs xs' → Each R ys ys' → Each R (if b then xs else ys) (if b then xs' else ys')
if_each true q r = q
if_each false q r = r

put_entry_like : {w : World} (key : List ℕ) (to to' : Option Property → Property) → PutAlike w to to' → (es es' : List Entry) → Each (LikeEntry w) es es'
    → Each (LikeEntry w) (put_entry key to es) (put_entry key to' es')
put_entry_like key to to' h _ _ no_more = more (entries_like (h None None neither)) no_more
put_entry_like key to to' h _ _ (more (entries_like {key = k} q) qs) = if_each (bytes_eq k key) (more (entries_like (h _ _ (both q))) qs) (more (entries_like q) (put_entry_like key to to' h _ _ qs))

pub without_entry_like : {w : World} (key : List ℕ) (es es' : List Entry) → Each (LikeEntry w) es es' → Each (LikeEntry w) (without_entry key es) (without_entry key es')
without_entry_like key _ _ no_more = no_more
without_entry_like key _ _ (more (entries_like {key = k} q) qs) = if_each (bytes_eq k key) qs (more (entries_like q) (without_entry_like key _ _ qs))

if_element_kept : {w : World} (extent : Extent) (key : List ℕ) {m m' : Run (Unit {0})} → Keeps w Same m m' → Keeps w Same (if_element extent key m) (if_element extent key m')
if_element_kept Ordinary key h = h
if_element_kept (Array n) key h = when_kept refl h outside_kept
if_element_kept (ArgumentList n) key h = when_kept refl h outside_kept

-- an element may be changed
pub put_element_kept : {w : World} {a b : ℕ} → Objects w a b → (extent : Extent) (key : List ℕ) (to to' : Option Property → Property) → PutAlike w to to'
    → Keeps w Same (if_element extent key (change_entries a (put_entry key to))) (if_element extent key (change_entries b (put_entry key to')))
put_element_kept p extent key to to' h = if_element_kept extent key (change_entries_kept p (put_entry key to) (put_entry key to') (put_entry_like key to to' h))

is_fixed_same : {w : World} {o o' : Option Property} → MaybeProperty w o o' → is_fixed o' ≡ is_fixed o
is_fixed_same neither = refl
is_fixed_same (both (data_like q)) = refl
is_fixed_same (both (fixed_like q)) = refl
is_fixed_same (both (accessors_like g s)) = refl
is_fixed_same (both open_like) = refl

pub define_kept : {w : World} {a b : ℕ} → Objects w a b → (key : List ℕ) (to to' : Option Property → Property) → PutAlike w to to' → Keeps w Same (define a key to) (define b key to')
define_kept p key to to' h =
    kept_bind (own_property_at_kept p key) (λ _ _ q. kept_bind_same (extent_at_kept p) (λ extent.
    if_element_kept extent key (when_kept (is_fixed_same q) (throw_kept (errors error.Kind)) (change_entries_kept p (put_entry key to) (put_entry key to') (put_entry_like key to to' h)))))

pub define_data_kept : {w : World} {a b : ℕ} → Objects w a b → (key : List ℕ) {v v' : Value} → Like w v v' → Keeps w Same (define_data a key v) (define_data b key v')
define_data_kept p key q = define_kept p key _ _ (λ o o' _. data_like q)

pub with_getter_like : {w : World} {a b : ℕ} → Objects w a b → PutAlike w (with_getter a) (with_getter b)
with_getter_like p _ _ neither = accessors_like (both p) neither
with_getter_like p _ _ (both (data_like q)) = accessors_like (both p) neither
with_getter_like p _ _ (both (fixed_like q)) = accessors_like (both p) neither
with_getter_like p _ _ (both (accessors_like g s)) = accessors_like (both p) s
with_getter_like p _ _ (both open_like) = accessors_like (both p) neither

pub with_setter_like : {w : World} {a b : ℕ} → Objects w a b → PutAlike w (with_setter a) (with_setter b)
with_setter_like p _ _ neither = accessors_like neither (both p)
with_setter_like p _ _ (both (data_like q)) = accessors_like neither (both p)
with_setter_like p _ _ (both (fixed_like q)) = accessors_like neither (both p)
with_setter_like p _ _ (both (accessors_like g s)) = accessors_like g (both p)
with_setter_like p _ _ (both open_like) = accessors_like neither (both p)

with_field_keys_like : {w : World} (keys : List (List ℕ)) {o o' : Option Callable} → Maybe (LikeCallable w) o o' → Maybe (LikeCallable w) (with_field_keys keys o) (with_field_keys keys o')
with_field_keys_like keys neither = neither
with_field_keys_like keys (both (codes_like (closures_like s h))) = both (codes_like (closures_like s h))
with_field_keys_like keys (both (bound_like p q qs)) = both (bound_like p q qs)
with_field_keys_like keys (both (passed_like (closures_like s h))) = both (passed_like (closures_like s h))

keeping_keys_like : {w : World} (keys : List (List ℕ)) (o o' : Object) → LikeObject w o o' → LikeObject w (keeping_keys keys o) (keeping_keys keys o')
keeping_keys_like keys _ _ (objects_like es p c) = objects_like es p (with_field_keys_like keys c)

pub keep_field_keys_kept : {w : World} {a b : ℕ} → Objects w a b → (keys : List (List ℕ)) → Keeps w Same (keep_field_keys a keys) (keep_field_keys b keys)
keep_field_keys_kept p keys = record { at = λ st. done_here (changed_objects st p (keeping_keys keys) (keeping_keys keys) (keeping_keys_like keys) (λ o. refl) (λ o. refl)) is }

-- ---- arrays

data_or_undefined_like : {w : World} {o o' : Option Property} → MaybeProperty w o o' → Like w (data_or_undefined o) (data_or_undefined o')
data_or_undefined_like neither = undefineds
data_or_undefined_like (both (data_like q)) = q
data_or_undefined_like (both (fixed_like q)) = undefineds
data_or_undefined_like (both (accessors_like g s)) = undefineds
data_or_undefined_like (both open_like) = undefineds

elements_to_like : {w : World} {es es' : List Entry} → Each (LikeEntry w) es es' → (n : ℕ) {vs vs' : List Value} → Likes w vs vs' → Likes w (elements_to es n vs) (elements_to es' n vs')
elements_to_like es zero qs = qs
elements_to_like es (suc n) qs = elements_to_like es n (more (data_or_undefined_like (property_of_like (decimal n) es)) qs)

entries_of : {w : World} {o o' : Object} → LikeObject w o o' → Each (LikeEntry w) o.entries o'.entries
entries_of (objects_like es p c) = es

elements_in : {w : World} (o o' : Object) → Each (LikeEntry w) o.entries o'.entries → (extent : Extent) → Keeps w Likes (elements_by (Some o) extent) (elements_by (Some o') extent)
elements_in o o' es Ordinary = outside_kept
elements_in o o' es (Array n) = give_kept (elements_to_like es n no_more)
elements_in o o' es (ArgumentList n) = give_kept (elements_to_like es n no_more)

elements_by_kept : {w : World} (o o' : Object) → LikeObject w o o' → Keeps w Likes (elements_by (Some o) o.extent) (elements_by (Some o') o'.extent)
elements_by_kept {w} o o' l = subst (λ z. Keeps w Likes (elements_by (Some o) o.extent) (elements_by (Some o') z)) (sym (extent_of l)) (elements_in o o' (entries_of l) o.extent)

pub elements_at_kept : {w : World} {a b : ℕ} → Objects w a b → Keeps w Likes (elements_at a) (elements_at b)
elements_at_kept {w} p = record { at = λ st. (of_objects (λ o o'. Keeps w Likes (elements_by o (extent_in o)) (elements_by o' (extent_in o'))) st p (λ o o' l. elements_by_kept o o' l.like)).at st }

pub element_entries_like : {w : World} (n : ℕ) {es es' : List (Option Value)} → LikeElements w es es' → Each (LikeEntry w) (element_entries n es) (element_entries n es')
element_entries_like n no_more = no_more
element_entries_like n (more neither qs) = element_entries_like (suc n) qs
element_entries_like n (more (both q) qs) = more (entries_like (data_like q)) (element_entries_like (suc n) qs)

pub new_array_alike : {w : World} {es es' : List (Option Value)} → LikeElements w es es' → Alike w Objects (new_array es) (new_array es')
new_array_alike {w} {es} {es'} qs = by (length es') (each_length qs)
  where
    by : (n : ℕ) → n ≡ length es → Alike w Objects (new_array es) (new_object (record { entries = element_entries 0 es'; prototype = None; callable = None; extent = Array n }))
    by n e = subst (λ z. Alike w Objects (new_array es) (new_object (record { entries = element_entries 0 es'; prototype = None; callable = None; extent = Array z }))) (sym e)
        (new_object_alike (objects_like (element_entries_like 0 qs) neither neither))

pub some_likes : {w : World} {vs vs' : List Value} → Likes w vs vs' → LikeElements w (map Some vs) (map Some vs')
some_likes no_more = no_more
some_likes (more q qs) = more (both q) (some_likes qs)

-- the objects `arguments` of values that are the same but for places
pub arguments_like : {w : World} {vs vs' : List Value} → Likes w vs vs' → LikeObject w (arguments_object vs) (arguments_object vs')
arguments_like {w} {vs} {vs'} qs = by (length vs') (each_length qs)
  where
    by : (n : ℕ) → n ≡ length vs → LikeObject w (arguments_object vs) (record { entries = element_entries 0 (map Some vs'); prototype = None; callable = None; extent = ArgumentList n })
    by n e = subst (λ z. LikeObject w (arguments_object vs) (record { entries = element_entries 0 (map Some vs'); prototype = None; callable = None; extent = ArgumentList z })) (sym e)
        (objects_like (element_entries_like 0 (some_likes qs)) neither neither)
