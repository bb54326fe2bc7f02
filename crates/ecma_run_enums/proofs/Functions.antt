-- What is read, written and called, and how functions are made, does not look at what is known of enums.
use Rattle.std.proofs.Common.{◌≡◌, refl, ℕ, List, ◌++◌, Option, Some, None, true, false, cond, nat_eq}
use Rattle.ecma_tree.specs.declared.node.Node.{Node}
use Rattle.ecma_runs.specs.Values.{Value, Own}
use Rattle.ecma_runs.specs.State.{Sort, Plain, Method, Arrow, BaseClass, DerivedClass, Property, Data, Fixed, Accessor, Open}
use Rattle.ecma_runs.specs.Run.{◌>>=◌, give, given}
use Rattle.ecma_runs.specs.Environment.{Reference, ToVariable, ToFree, ToMember, ToSuper, ToImportMeta, ToMetaMember, ToValue, activation, bind_this}
use Rattle.ecma_runs.specs.Meaning.{ExecutionContext}
use Rattle.ecma_runs.specs.Objects.{Calling, Function, BoundFunction, calling_at, found_from, found_from_base, prototype_at, Base}
use Rattle.ecma_runs.specs.Members.{got, member, set_by, set_member, super_member, set_super_member}
use Rattle.ecma_runs.specs.Functions.{read, write, read_object, read_typed, Borrowing, Apply, Bind, Call, Callee, Called, CalledSuper, Borrowed, borrowing_of, own_callee, member_callee, callee_by, call_function, call_target, call_calling, call_own, call_value, call_super_calling, call_super_value, call_borrowed, list_from, first_or_undefined, all_but_first, call, construct_function, construct_target, construct_calling, construct_own, construct, own, super_call, make_function}
use Rattle.ecma_run_enums.proofs.Two.{Two, first, second}

module _ (t : Two) (x : ExecutionContext) where
  -- ---- members

  got_same : (receiver : Value) (p : Option Property) → got (first t x) receiver p ≡ got (second t x) receiver p
  got_same receiver None = refl
  got_same receiver (Some (Data v)) = refl
  got_same receiver (Some (Fixed writable v)) = refl
  got_same receiver (Some (Accessor (Some getter) setter)) = refl
  got_same receiver (Some (Accessor None setter)) = refl
  got_same receiver (Some Open) = refl

  pub member_same : (o : Value) (key : List ℕ) → member (first t x) o key ≡ member (second t x) o key
  member_same (Own place) key = λ i. found_from place key >>= λ p. got_same (Own place) p i
  member_same _ key = refl

  set_by_same : (key : List ℕ) (receiver v : Value) (p : Option Property) → set_by (first t x) key receiver v p ≡ set_by (second t x) key receiver v p
  set_by_same key receiver v None = refl
  set_by_same key receiver v (Some (Data w)) = refl
  set_by_same key receiver v (Some (Fixed true w)) = refl
  set_by_same key receiver v (Some (Fixed false w)) = refl
  set_by_same key receiver v (Some (Accessor getter (Some setter))) = refl
  set_by_same key receiver v (Some (Accessor getter None)) = refl
  set_by_same key receiver v (Some Open) = refl

  set_member_same : (o : Value) (key : List ℕ) (v : Value) → set_member (first t x) o key v ≡ set_member (second t x) o key v
  set_member_same (Own place) key v = λ i. found_from place key >>= λ p. set_by_same key (Own place) v p i
  set_member_same _ key v = refl

  super_member_same : (receiver : Value) (base : Base) (key : List ℕ) → super_member (first t x) receiver base key ≡ super_member (second t x) receiver base key
  super_member_same receiver base key = λ i. found_from_base base key >>= λ p. got_same receiver p i

  set_super_member_same : (receiver : Value) (base : Base) (key : List ℕ) (v : Value) → set_super_member (first t x) receiver base key v ≡ set_super_member (second t x) receiver base key v
  set_super_member_same (Own place) base key v = λ i. found_from_base base key >>= λ p. set_by_same key (Own place) v p i
  set_super_member_same _ base key v = refl

  -- ---- references

  pub read_same : (r : Reference) → read (first t x) r ≡ read (second t x) r
  read_same (ToVariable place id) = refl
  read_same (ToFree name) = refl
  read_same (ToMember o key) = member_same o key
  read_same (ToSuper this base key) = super_member_same this base key
  read_same ToImportMeta = refl
  read_same (ToMetaMember v) = refl
  read_same (ToValue v) = refl

  pub write_same : (r : Reference) (v : Value) → write (first t x) r v ≡ write (second t x) r v
  write_same (ToVariable place id) v = refl
  write_same (ToMember o key) v = set_member_same o key v
  write_same (ToSuper this base key) v = set_super_member_same this base key v
  write_same (ToFree name) v = refl
  write_same ToImportMeta v = refl
  write_same (ToMetaMember w) v = refl
  write_same (ToValue w) v = refl

  pub read_object_same : (r : Reference) → read_object (first t x) r ≡ read_object (second t x) r
  read_object_same (ToFree name) = refl
  read_object_same r = read_same r

  pub read_typed_same : (r : Reference) → read_typed (first t x) r ≡ read_typed (second t x) r
  read_typed_same (ToFree name) = refl
  read_typed_same r = read_same r

  -- ---- callees

  got_callee : (place : ℕ) (p : Option Property) → (got (first t x) (Own place) p >>= λ f. give (Called f (Own place))) ≡ (got (second t x) (Own place) p >>= λ f. give (Called f (Own place)))
  got_callee place p = λ i. got_same (Own place) p i >>= λ f. give (Called f (Own place))

  own_callee_same : (place : ℕ) (borrowing : Option Borrowing) (o : Option Calling) (p : Option Property) → own_callee (first t x) place borrowing o p ≡ own_callee (second t x) place borrowing o p
  own_callee_same place None o p = got_callee place p
  own_callee_same place (Some borrowing) None p = got_callee place p
  own_callee_same place (Some borrowing) (Some calling) None = refl
  own_callee_same place (Some borrowing) (Some calling) (Some Open) = refl
  own_callee_same place (Some borrowing) (Some calling) (Some (Data v)) = refl
  own_callee_same place (Some borrowing) (Some calling) (Some (Fixed writable v)) = refl
  own_callee_same place (Some borrowing) (Some calling) (Some (Accessor getter setter)) = got_callee place (Some (Accessor getter setter))

  member_callee_same : (o : Value) (key : List ℕ) → member_callee (first t x) o key ≡ member_callee (second t x) o key
  member_callee_same (Own place) key = λ i. calling_at place >>= λ o. found_from place key >>= λ p. own_callee_same place (borrowing_of key) o p i
  member_callee_same _ key = refl

  pub callee_by_same : (r : Reference) → callee_by (first t x) r ≡ callee_by (second t x) r
  callee_by_same (ToFree name) = refl
  callee_by_same (ToMember o key) = member_callee_same o key
  callee_by_same (ToSuper this base key) = λ i. super_member_same this base key i >>= λ f. give (CalledSuper f this)
  callee_by_same (ToVariable place id) = refl
  callee_by_same ToImportMeta = refl
  callee_by_same (ToMetaMember v) = refl
  callee_by_same (ToValue v) = refl

  -- ---- calls

  call_function_same : (place : ℕ) (receiver : Value) (vs : List Value) (sort : Sort) → call_function (first t x) place receiver vs sort ≡ call_function (second t x) place receiver vs sort
  call_function_same place receiver vs BaseClass = refl
  call_function_same place receiver vs DerivedClass = refl
  call_function_same place receiver vs Plain = refl
  call_function_same place receiver vs Method = refl
  call_function_same place receiver vs Arrow = refl

  call_target_same : (place : ℕ) (receiver : Value) (vs : List Value) (o : Option Calling) → call_target (first t x) place receiver vs o ≡ call_target (second t x) place receiver vs o
  call_target_same place receiver vs None = refl
  call_target_same place receiver vs (Some (Function sort)) = call_function_same place receiver vs sort
  call_target_same place receiver vs (Some (BoundFunction target this bound)) = refl

  call_calling_same : (place : ℕ) (receiver : Value) (vs : List Value) (o : Option Calling) → call_calling (first t x) place receiver vs o ≡ call_calling (second t x) place receiver vs o
  call_calling_same place receiver vs None = refl
  call_calling_same place receiver vs (Some (Function sort)) = call_function_same place receiver vs sort
  call_calling_same place receiver vs (Some (BoundFunction target this bound)) = λ i. calling_at target >>= λ o. call_target_same target this (bound ++ vs) o i

  call_own_same : (place : ℕ) (receiver : Value) (vs : List Value) → call_own (first t x) place receiver vs ≡ call_own (second t x) place receiver vs
  call_own_same place receiver vs = λ i. calling_at place >>= λ o. call_calling_same place receiver vs o i

  call_value_same : (f receiver : Value) (vs : List Value) → call_value (first t x) f receiver vs ≡ call_value (second t x) f receiver vs
  call_value_same (Own place) receiver vs = call_own_same place receiver vs
  call_value_same _ receiver vs = refl

  call_super_calling_same : (place : ℕ) (receiver : Value) (vs : List Value) (o : Option Calling) → call_super_calling (first t x) place receiver vs o ≡ call_super_calling (second t x) place receiver vs o
  call_super_calling_same place receiver vs None = refl
  call_super_calling_same place receiver vs (Some (Function BaseClass)) = refl
  call_super_calling_same place receiver vs (Some (Function DerivedClass)) = refl
  call_super_calling_same place receiver vs (Some (Function Plain)) = refl
  call_super_calling_same place receiver vs (Some (Function Method)) = refl
  call_super_calling_same place receiver vs (Some (Function Arrow)) = refl
  call_super_calling_same place receiver vs (Some (BoundFunction target this bound)) = call_calling_same place receiver vs (Some (BoundFunction target this bound))

  call_super_value_same : (f receiver : Value) (vs : List Value) → call_super_value (first t x) f receiver vs ≡ call_super_value (second t x) f receiver vs
  call_super_value_same (Own place) receiver vs = λ i. calling_at place >>= λ o. call_super_calling_same place receiver vs o i
  call_super_value_same _ receiver vs = refl

  call_borrowed_same : (borrowing : Borrowing) (place : ℕ) (vs : List Value) → call_borrowed (first t x) borrowing place vs ≡ call_borrowed (second t x) borrowing place vs
  call_borrowed_same Apply place vs = λ i. list_from (first_or_undefined (all_but_first vs)) >>= λ list. call_own_same place (first_or_undefined vs) list i
  call_borrowed_same Bind place vs = refl
  call_borrowed_same Call place vs = call_own_same place (first_or_undefined vs) (all_but_first vs)

  pub call_same : (c : Callee) (vs : List Value) → call (first t x) c vs ≡ call (second t x) c vs
  call_same (Called f receiver) vs = call_value_same f receiver vs
  call_same (CalledSuper f receiver) vs = call_super_value_same f receiver vs
  call_same (Borrowed borrowing place) vs = call_borrowed_same borrowing place vs

  -- ---- constructions

  construct_function_same : (place new_target : ℕ) (vs : List Value) (sort : Sort) → construct_function (first t x) place new_target vs sort ≡ construct_function (second t x) place new_target vs sort
  construct_function_same place new_target vs Method = refl
  construct_function_same place new_target vs Arrow = refl
  construct_function_same place new_target vs Plain = refl
  construct_function_same place new_target vs BaseClass = refl
  construct_function_same place new_target vs DerivedClass = refl

  construct_target_same : (place new_target : ℕ) (vs : List Value) (o : Option Calling) → construct_target (first t x) place new_target vs o ≡ construct_target (second t x) place new_target vs o
  construct_target_same place new_target vs None = refl
  construct_target_same place new_target vs (Some (Function sort)) = construct_function_same place new_target vs sort
  construct_target_same place new_target vs (Some (BoundFunction target this bound)) = refl

  construct_calling_same : (place new_target : ℕ) (vs : List Value) (o : Option Calling) → construct_calling (first t x) place new_target vs o ≡ construct_calling (second t x) place new_target vs o
  construct_calling_same place new_target vs None = refl
  construct_calling_same place new_target vs (Some (Function sort)) = construct_function_same place new_target vs sort
  construct_calling_same place new_target vs (Some (BoundFunction target this bound)) =
      λ i. calling_at target >>= λ o. construct_target_same target (cond (nat_eq place new_target) target new_target) (bound ++ vs) o i

  construct_own_same : (place new_target : ℕ) (vs : List Value) → construct_own (first t x) place new_target vs ≡ construct_own (second t x) place new_target vs
  construct_own_same place new_target vs = λ i. calling_at place >>= λ o. construct_calling_same place new_target vs o i

  pub construct_same : (f : Value) (vs : List Value) → construct (first t x) f vs ≡ construct (second t x) f vs
  construct_same (Own place) vs = construct_own_same place place vs
  construct_same _ vs = refl

  pub super_call_same : (vs : List Value) → super_call (first t x) vs ≡ super_call (second t x) vs
  super_call_same vs =
      λ i. activation x.scope >>= λ a. given a.1.new_target >>= λ n. own n >>= λ new_target. given a.1.function >>= λ function.
      prototype_at function >>= λ parent. given parent >>= λ place. construct_own_same place new_target vs i >>= λ v.
      bind_this x.scope v >>= λ _. x.functions.fields function v >>= λ _. give v

  -- ---- function objects

  pub make_function_same : (node : Node) (sort : Sort) (home : Option ℕ) → make_function node sort home (first t x) ≡ make_function node sort home (second t x)
  make_function_same node Plain home = refl
  make_function_same node Method home = refl
  make_function_same node Arrow home = refl
  make_function_same node BaseClass home = refl
  make_function_same node DerivedClass home = refl
