-- Objects without accessors, and none above them: to read a member of one calls nothing, and what defines data on it, or something on another, keeps it so.
use Rattle.std.proofs.Common.{◌≡◌, refl, sym, subst, ◌⊎◌, inl, inr, ℕ, zero, suc, ◌+◌, ◌<◌, ◌≤◌, arith, length, length-append, List, [], ◌∷◌, ◌++◌, Option, Some, None, Bool, true, false, bytes_eq, codes, slice_get, if◌then◌else◌}
use Rattle.std.specs.List.{list_all}
use Rattle.ecma_kind.specs.declared.operators.MethodKind.{MethodKind}
use Rattle.ecma_kind.specs.declared.operators.MethodKind.TheVariants as method
use Rattle.ecma_judge.specs.Effects.{is_accessor_kind}
use Rattle.std.specs.Prelude.{pos}
use Rattle.ecma_number.specs.declared.js_number.JsNumber.TheVariants.{Whole}
use Rattle.ecma_runs.specs.declared.shown.ErrorKind.TheVariants as error
use Rattle.ecma_runs.specs.Values.{Value, Undefined, Number, Text, Own, Error}
use Rattle.ecma_tree.specs.declared.node.Node.{Node}
use Rattle.ecma_runs.specs.State.{Id, Sort, Plain, Method, Arrow, BaseClass, DerivedClass, Code, Property, Data, Fixed, Accessor, Open, Entry, Extent, Ordinary, Array, ArgumentList, Object, State}
use Rattle.ecma_runs.specs.Run.{Run, give, changed_at}
use Rattle.ecma_runs.specs.Environment.{set_variable, set_all, Reference, ToFree, ToMember}
use Rattle.ecma_runs.specs.Meaning.{ExecutionContext}
use Rattle.ecma_runs.specs.Objects.{new_object, Ancestry, with_object, no_ancestry, is_open_key, property_of, or_else, length_property, extent_property, own_property, property_above, object_at, is_index_below, with_entries, change_entries, put_entry, is_fixed, if_element, define, define_data, with_getter, with_setter}
use Rattle.ecma_runs.specs.Members.{got}
use Rattle.ecma_runs.specs.Functions.{new_prototype, prototype_entries, function_entries, function_object, closure_of, new_function, make_function, open_entries, plain_object, make_generator, read, read_typed}
use Rattle.ecma_runs.specs.Classes.{keeping_keys, keep_field_keys, define_method}
use Rattle.ecma_judge_runs.specs.Still.{Still}
use Rattle.ecma_judge_runs.proofs.Both.{both_true, two_true}
use Rattle.ecma_judge_runs.proofs.Fronts.{last_at, front_at, front_push, front_length}
use Rattle.ecma_judge_runs.proofs.Leaving.{Leaves, give_leaves, outside_leaves}
use Rattle.ecma_judge_runs.proofs.Keeping.{Any, LeavesFrom, bind_from, of_leaves, weaker_from, kept_from, give_from, throw_from, outside_from, when_from}
use Rattle.ecma_judge_runs.proofs.Records.{Readable, set_variable_leaves}
use Rattle.ecma_judge_runs.proofs.Objects.{NewObject, new_object_leaves, own_property_at_leaves, extent_at_leaves, change_entries_leaves, keep_field_keys_leaves}
use Rattle.ecma_judge_runs.proofs.Reading.{read_leaves, read_typed_leaves, text_member_leaves}

-- ---- objects

abbrev pub is_data : Property → Bool
is_data (Accessor getter setter) = false
is_data p = true

abbrev pub all_data : List Entry → Bool
all_data entries = list_all (λ (e : Entry). is_data e.property) entries

-- it has no accessor and no prototype
abbrev pub HasData : Object → Type 0
HasData o = (all_data o.entries ≡ true) × (o.prototype ≡ None)

-- such an object stands there
abbrev pub IsDataIn : ℕ → List Object → Type 0
IsDataIn place objects = (o : Object) × (slice_get objects place ≡ Some o) × HasData o

abbrev pub IsDataAt : ℕ → State → Type 0
IsDataAt place s = IsDataIn place s.objects

pub still_data : (place : ℕ) (s t : State) → Still s t → IsDataAt place s → IsDataAt place t
still_data place s t h d = (d.0, front_at s.objects t.objects place d.0 h.objects d.1, d.2)

-- it has no accessor, and stands below such an object
pub record IsBelowData (place : ℕ) (objects : List Object) : Type 0 where
  pub object : Object
  pub at : slice_get objects place ≡ Some object
  pub plain : all_data object.entries ≡ true
  pub parent : ℕ
  pub below : object.prototype ≡ Some parent
  pub above : Object
  pub at_above : slice_get objects parent ≡ Some above
  pub data_above : HasData above

-- no accessor is found from there
abbrev pub IsReadIn : ℕ → List Object → Type 0
IsReadIn place objects = IsDataIn place objects ⊎ IsBelowData place objects

abbrev pub IsReadAt : ℕ → State → Type 0
IsReadAt place s = IsReadIn place s.objects

pub still_read : (place : ℕ) (s t : State) → Still s t → IsReadAt place s → IsReadAt place t
still_read place s t h (inl d) = inl (still_data place s t h d)
still_read place s t h (inr b) = inr (record {
  object = b.object;
  at = front_at s.objects t.objects place b.object h.objects b.at;
  plain = b.plain;
  parent = b.parent;
  below = b.below;
  above = b.above;
  at_above = front_at s.objects t.objects b.parent b.above h.objects b.at_above;
  data_above = b.data_above;
})

-- ---- look-ups

-- a property that is found, if one is, is no accessor
abbrev is_data_if : Option Property → Bool
is_data_if None = true
is_data_if (Some p) = is_data p

or_data : (a b : Option Property) → is_data_if a ≡ true → is_data_if b ≡ true → is_data_if (or_else a b) ≡ true
or_data (Some p) b ha hb = ha
or_data None b ha hb = hb

if_data : (b : Bool) (p q : Option Property) → is_data_if p ≡ true → is_data_if q ≡ true → is_data_if (if b then p else q) ≡ true
if_data true p q hp hq = hp
if_data false p q hp hq = hq

property_data : (key : List ℕ) (entries : List Entry) → all_data entries ≡ true → is_data_if (property_of key entries) ≡ true
property_data key [] all = refl
property_data key (e ∷ entries) all =
    let t = both_true (is_data e.property) (all_data entries) all in
    if_data (bytes_eq e.key key) (Some e.property) (property_of key entries) t.0 (property_data key entries t.1)

length_data : (n : ℕ) (key : List ℕ) → is_data_if (length_property n key) ≡ true
length_data n key = if_data (bytes_eq key (codes "length")) (Some (Fixed true (Number (Whole (pos n))))) None refl refl

extent_data : (extent : Extent) (key : List ℕ) → is_data_if (extent_property extent key) ≡ true
extent_data Ordinary key = refl
extent_data (Array n) key = length_data n key
extent_data (ArgumentList n) key = length_data n key

above_data : (objects : List Object) (key : List ℕ) (ancestry : Ancestry) (n : ℕ) → is_data_if (property_above objects key ancestry n None) ≡ true
above_data objects key ancestry zero = refl
above_data objects key ancestry (suc n) = if_data (is_open_key ancestry key) (Some Open) None refl refl

own_data : (key : List ℕ) (o : Object) → all_data o.entries ≡ true → is_data_if (own_property key o) ≡ true
own_data key o all = or_data (extent_property o.extent key) (property_of key o.entries) (extent_data o.extent key) (property_data key o.entries all)

found_data : (objects : List Object) (key : List ℕ) (ancestry : Ancestry) (n : ℕ) (o : Object) → HasData o → is_data_if (property_above objects key ancestry n (Some o)) ≡ true
found_data objects key ancestry zero o h = refl
found_data objects key ancestry (suc n) o h =
    or_data (own_property key o) (property_above objects key (with_object o ancestry) n (object_at objects o.prototype)) (own_data key o h.0)
    (subst (λ p. is_data_if (property_above objects key (with_object o ancestry) n (object_at objects p)) ≡ true) (sym h.1) (above_data objects key (with_object o ancestry) n))

found_below : (objects : List Object) (key : List ℕ) (n : ℕ) (place : ℕ) (b : IsBelowData place objects) → is_data_if (property_above objects key no_ancestry (suc n) (Some b.object)) ≡ true
found_below objects key n place b =
    or_data (own_property key b.object) (property_above objects key (with_object b.object no_ancestry) n (object_at objects b.object.prototype)) (own_data key b.object b.plain)
    (subst (λ p. is_data_if (property_above objects key (with_object b.object no_ancestry) n (object_at objects p)) ≡ true) (sym b.below)
    (subst (λ o. is_data_if (property_above objects key (with_object b.object no_ancestry) n o) ≡ true) (sym b.at_above) (found_data objects key (with_object b.object no_ancestry) n b.above b.data_above)))

-- what is found from there is no accessor
abbrev FindsData : List ℕ → List Object → Option Object → Type 0
FindsData key objects o = is_data_if (property_above objects key no_ancestry (suc (length objects)) o) ≡ true

read_finds : (place : ℕ) (key : List ℕ) (objects : List Object) → IsReadIn place objects → FindsData key objects (slice_get objects place)
read_finds place key objects (inl d) = subst (λ o. FindsData key objects o) (sym d.1) (found_data objects key no_ancestry (suc (length objects)) d.0 d.2)
read_finds place key objects (inr b) = subst (λ o. FindsData key objects o) (sym b.at) (found_below objects key (length objects) place b)

-- ---- changes

if_all_data : (b : Bool) (l m : List Entry) → all_data l ≡ true → all_data m ≡ true → all_data (if b then l else m) ≡ true
if_all_data true l m hl hm = hl
if_all_data false l m hl hm = hm

put_data : (key : List ℕ) (to : Option Property → Property) → ((p : Option Property) → is_data (to p) ≡ true) → (entries : List Entry) → all_data entries ≡ true → all_data (put_entry key to entries) ≡ true
put_data key to h [] all = two_true (is_data (to None)) true (h None) refl
put_data key to h (e ∷ entries) all =
    let t = both_true (is_data e.property) (all_data entries) all in
    if_all_data (bytes_eq e.key key) (record { key = key; property = to (Some e.property) } ∷ entries) (e ∷ put_entry key to entries)
    (two_true (is_data (to (Some e.property))) (all_data entries) (h (Some e.property)) t.1)
    (two_true (is_data e.property) (all_data (put_entry key to entries)) t.0 (put_data key to h entries t.1))

changed_data : (f : Object → Object) → ((o : Object) → HasData o → HasData (f o)) → (objects : List Object) (place at : ℕ) (o : Object) → slice_get objects at ≡ Some o → HasData o
    → (p : Object) × (slice_get (changed_at f place objects) at ≡ Some p) × HasData p
changed_data f keeps [] place at o is h = absurd (cc)
changed_data f keeps (x ∷ xs) zero zero o is h = let same : o ≡ x = cc in (f x, refl, keeps x (subst HasData same h))
changed_data f keeps (x ∷ xs) zero (suc at) o is h = (o, is, h)
changed_data f keeps (x ∷ xs) (suc place) zero o is h = (o, is, h)
changed_data f keeps (x ∷ xs) (suc place) (suc at) o is h = changed_data f keeps xs place at o is h

-- what stands behind the place that is changed is as it was
changed_before : (f : Object → Object) (objects : List Object) (place at : ℕ) (o : Object) → place < at → slice_get objects at ≡ Some o → slice_get (changed_at f place objects) at ≡ Some o
changed_before f [] place at o lt is = absurd (cc)
changed_before f (x ∷ xs) zero zero o lt is = absurd (omega (arith, lt))
changed_before f (x ∷ xs) zero (suc at) o lt is = is
changed_before f (x ∷ xs) (suc place) zero o lt is = is
changed_before f (x ∷ xs) (suc place) (suc at) o lt is = changed_before f xs place at o (omega (arith, lt)) is

-- data are put there, or what is changed stands before
abbrev pub Spares : ℕ → ℕ → (Option Property → Property) → Type 0
Spares kept place to = ((p : Option Property) → is_data (to p) ≡ true) ⊎ (place < kept)

put_keeps : (kept place : ℕ) (key : List ℕ) (to : Option Property → Property) → Spares kept place to → (objects : List Object) (o : Object) → slice_get objects kept ≡ Some o → HasData o
    → (p : Object) × (slice_get (changed_at (with_entries (put_entry key to)) place objects) kept ≡ Some p) × HasData p
put_keeps kept place key to (inl h) objects o is d = changed_data (with_entries (put_entry key to)) (λ z dz. (put_data key to h z.entries dz.0, dz.1)) objects place kept o is d
put_keeps kept place key to (inr lt) objects o is d = (o, changed_before (with_entries (put_entry key to)) objects place kept o lt is, d)

last_below : (xs : List Object) (o : Object) → length xs < length (xs ++ o ∷ [])
last_below xs o = let e : length (xs ++ o ∷ []) ≡ length xs + length (o ∷ []) = length-append xs (o ∷ []) in omega (arith, e)

-- what may be read, by the state: a member of an object without accessors, or of a text
abbrev pub ReadableIn : Reference → State → Type 0
ReadableIn (ToMember (Own place) key) s = IsReadAt place s
ReadableIn (ToMember (Text text) key) s = Unit {0}
ReadableIn (ToMember o key) s = ⊥
ReadableIn r s = Readable r

pub readable_in : (r : Reference) (s : State) → Readable r → ReadableIn r s
readable_in (ToMember o key) s h = absurd h
readable_in r s h = h

module _ (old : State) where
  -- such an object is made
  pub new_data_from : (R : ℕ → Type 0) (o : Object) → HasData o → LeavesFrom old (λ s. R (length s.objects)) (λ p t. NewObject old p × R p × IsDataAt p t) (new_object o)
  new_data_from R o h = record {
    at = λ s g r. (
      record { environments = g.environments; objects = front_push old.objects s.objects o g.objects; handles = g.handles; answers = g.answers; events = g.events },
      (front_length old.objects s.objects g.objects, r, (o, last_at s.objects o, h)),
    );
  }

  -- any is made, and the next stands behind it
  pub new_object_from : (o : Object) → LeavesFrom old Any (λ p t. NewObject old p × (p < length t.objects)) (new_object o)
  new_object_from o = record {
    at = λ s g r. (
      record { environments = g.environments; objects = front_push old.objects s.objects o g.objects; handles = g.handles; answers = g.answers; events = g.events },
      (front_length old.objects s.objects g.objects, last_below s.objects o),
    );
  }

  -- ---- definitions

  module _ (kept : ℕ) where
    abbrev pub Keeps : {A : Type 0} → Run A → Type 0
    Keeps m = LeavesFrom old (IsDataAt kept) (λ a s. IsDataAt kept s) m

    pub keeps_data : {A : Type 0} {m : Run A} → ((s : State) → Leaves s m) → Keeps m
    keeps_data h = kept_from old (IsDataAt kept) (still_data kept) h

    pub give_keeps : {A : Type 0} (a : A) → Keeps (give a)
    give_keeps a = give_from old a (λ s r. r)

    if_element_keeps : (extent : Extent) (key : List ℕ) {m : Run (Unit {0})} → Keeps m → Keeps (if_element extent key m)
    if_element_keeps Ordinary key h = h
    if_element_keeps (Array n) key h = when_from old (is_index_below n key) h (outside_from old)
    if_element_keeps (ArgumentList n) key h = when_from old (is_index_below n key) h (outside_from old)

    put_from : (place : ℕ) (key : List ℕ) (to : Option Property → Property) → NewObject old place → Spares kept place to → Keeps (change_entries place (put_entry key to))
    put_from place key to new spares = record { at = λ s g d. (((change_entries_leaves old place (put_entry key to) new).at s g).0, put_keeps kept place key to spares s.objects d.0 d.1 d.2) }

    pub define_keeps : (place : ℕ) (key : List ℕ) (to : Option Property → Property) → NewObject old place → Spares kept place to → Keeps (define place key to)
    define_keeps place key to new spares =
        bind_from old (keeps_data (λ s. own_property_at_leaves s place key)) (λ p. bind_from old (keeps_data (λ s. extent_at_leaves s place)) (λ extent.
        if_element_keeps extent key (when_from old (is_fixed p) (throw_from old (Error error.Kind)) (put_from place key to new spares))))

    pub define_data_keeps : (place : ℕ) (key : List ℕ) (v : Value) → NewObject old place → Keeps (define_data place key v)
    define_data_keeps place key v new = define_keeps place key (λ p. Data v) new (inl (λ p. refl))

    pub define_method_keeps : (sort : MethodKind) (place : ℕ) (key : List ℕ) (f : ℕ) → NewObject old place → (is_accessor_kind sort ≡ false) ⊎ (place < kept) → Keeps (define_method sort place key f)
    define_method_keeps method.Method place key f new h = define_data_keeps place key (Own f) new
    define_method_keeps method.Getter place key f new (inr lt) = define_keeps place key (with_getter f) new (inr lt)
    define_method_keeps method.Setter place key f new (inr lt) = define_keeps place key (with_setter f) new (inr lt)
    define_method_keeps method.Getter place key f new (inl plain) = absurd (cc)
    define_method_keeps method.Setter place key f new (inl plain) = absurd (cc)

    pub keep_field_keys_keeps : (place : ℕ) (keys : List (List ℕ)) → NewObject old place → Keeps (keep_field_keys place keys)
    keep_field_keys_keeps place keys new = record {
      at = λ s g d. (((keep_field_keys_leaves old place keys new).at s g).0, changed_data (keeping_keys keys) (λ z dz. dz) s.objects place kept d.0 d.1 d.2);
    }

  -- ---- what is read

  got_leaves : (x : ExecutionContext) (receiver : Value) (p : Option Property) → is_data_if p ≡ true → Leaves old (got x receiver p)
  got_leaves x receiver None h = give_leaves old Undefined
  got_leaves x receiver (Some (Data v)) h = give_leaves old v
  got_leaves x receiver (Some (Fixed writable v)) h = give_leaves old v
  got_leaves x receiver (Some (Accessor getter setter)) h = absurd (cc)
  got_leaves x receiver (Some Open) h = outside_leaves old

  -- a member of such an object
  read_data : (x : ExecutionContext) (place : ℕ) (key : List ℕ) → LeavesFrom old (IsReadAt place) (λ v s. Unit {0}) (read x (ToMember (Own place) key))
  read_data x place key = record {
    at = λ s g d.
        (of_leaves old {R = Any}
        (got_leaves x (Own place) (property_above s.objects key no_ancestry (suc (length s.objects)) (slice_get s.objects place)) (read_finds place key s.objects d))).at s g tt;
  }

  -- what is left as it was, where that may be read
  readable_from : {A : Type 0} (r : Reference) (m : Run A) → (Readable r → Leaves old m) → LeavesFrom old (λ s. Readable r) (λ v s. Unit {0}) m
  readable_from r m h = record { at = λ s g readable. (of_leaves old {R = Any} (h readable)).at s g tt }

  never : {A : Type 0} (m : Run A) → LeavesFrom old (λ s. ⊥) (λ v s. Unit {0}) m
  never m = record { at = λ s g none. absurd none }

  pub read_from : (x : ExecutionContext) (r : Reference) → LeavesFrom old (ReadableIn r) (λ v s. Unit {0}) (read x r)
  read_from x (ToMember (Own place) key) = read_data x place key
  read_from x (ToMember (Text text) key) = of_leaves old (text_member_leaves old text key)
  read_from x (ToMember o key) = never (read x (ToMember o key))
  read_from x r = readable_from r (read x r) (λ h. read_leaves old x r h)

  pub read_typed_from : (x : ExecutionContext) (r : Reference) → LeavesFrom old (ReadableIn r) (λ v s. Unit {0}) (read_typed x r)
  read_typed_from x (ToFree name) = readable_from (ToFree name) (read_typed x (ToFree name)) (λ h. read_typed_leaves old x (ToFree name) h)
  read_typed_from x r = read_from x r

  -- ---- functions

  data_from : (o : Object) → HasData o → LeavesFrom old Any (λ p s. IsDataAt p s) (new_object o)
  data_from o h = weaker_from old (λ p s d. d.2) (new_data_from (λ p. Unit {0}) o h)

  function_from : (x : ExecutionContext) (entries : List Entry) (n : Node) (sort : Sort) (home : Option ℕ) → all_data entries ≡ true → LeavesFrom old Any (λ f s. IsDataAt f s) (new_function entries None n sort home x)
  function_from x entries n sort home all = data_from _ (all, refl)

  pub make_function_from : (x : ExecutionContext) (n : Node) (sort : Sort) (home : Option ℕ) → LeavesFrom old Any (λ f s. IsDataAt f s) (make_function n sort home x)
  make_function_from x n Plain home = bind_from old (of_leaves old {R = Any} (new_object_leaves old _)) (λ place. function_from x (prototype_entries true place) n Plain home refl)
  make_function_from x n Method home = function_from x function_entries n Method home refl
  make_function_from x n Arrow home = function_from x function_entries n Arrow home refl
  make_function_from x n BaseClass home = function_from x function_entries n BaseClass home refl
  make_function_from x n DerivedClass home = function_from x function_entries n DerivedClass home refl

  below_from : (o : Object) (parent : ℕ) → all_data o.entries ≡ true → o.prototype ≡ Some parent → LeavesFrom old (IsDataAt parent) (λ p s. IsReadAt p s) (new_object o)
  below_from o parent all below = record {
    at = λ s g d. (
      ((new_object_leaves old o).at s g).0,
      inr (record {
        object = o;
        at = last_at s.objects o;
        plain = all;
        parent = parent;
        below = below;
        above = d.0;
        at_above = front_at s.objects (s.objects ++ o ∷ []) parent d.0 (o ∷ [], refl) d.1;
        data_above = d.2;
      }),
    );
  }

  -- a generator stands below an object of its own
  pub make_generator_from : (x : ExecutionContext) (n : Node) (home : Option ℕ) → LeavesFrom old Any (λ f s. IsReadAt f s) (make_generator n home x)
  make_generator_from x n home =
      bind_from old (of_leaves old {R = Any} (new_object_leaves old _)) (λ above. bind_from old (of_leaves old {R = Any} (new_object_leaves old (plain_object [] (Some above)))) (λ place.
      bind_from old (data_from (plain_object (open_entries (codes "prototype" ∷ [])) None) (refl, refl)) (λ functions.
      below_from (function_object (prototype_entries true place) (Some functions) (Code (closure_of n Method home x))) functions refl refl)))

  -- of a class, which stands behind its prototype
  pub new_prototype_from : (parent : Option ℕ) → LeavesFrom old Any (λ p t. NewObject old p × (p < length t.objects)) (new_prototype parent)
  new_prototype_from parent = new_object_from _

  pub new_class_from : (R : ℕ → Type 0) (x : ExecutionContext) (place : ℕ) (n : Node) (sort : Sort) (home : Option ℕ)
      → LeavesFrom old (λ s. R (length s.objects)) (λ p t. NewObject old p × R p × IsDataAt p t) (new_function (prototype_entries false place) None n sort home x)
  new_class_from R x place n sort home = new_data_from R _ (refl, refl)

  -- variables of new records are no objects

  module _ (R : List Object → Type 0) where
    set_variable_from : (id : Id) (place : ℕ) (v : Value) → length old.environments ≤ place → LeavesFrom old (λ s. R s.objects) (λ a s. R s.objects) (set_variable place id v)
    set_variable_from id place v new = record { at = λ s g r. (((set_variable_leaves old place id v new).at s g).0, r) }

    pub set_all_from : (ids : List Id) (place : ℕ) (v : Value) → length old.environments ≤ place → LeavesFrom old (λ s. R s.objects) (λ a s. R s.objects) (set_all ids place v)
    set_all_from [] place v new = give_from old tt (λ s r. r)
    set_all_from (id ∷ ids) place v new = bind_from old (set_variable_from id place v new) (λ _. set_all_from ids place v new)
