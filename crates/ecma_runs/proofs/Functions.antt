-- References, calls, constructions and function objects do alike.
use Rattle.std.proofs.Common.{◌≡◌, ℕ, pos, ◌++◌, refl, subst, List, [], ◌∷◌, Option, Some, None, true, cond, bytes_eq, nat_eq, codes}
use Rattle.ecma_number.specs.declared.js_number.JsNumber.TheVariants.{Whole}
use Rattle.ecma_tree.specs.declared.node.Node.{Node}
use Rattle.ecma_runs.specs.declared.observation.Event.TheVariants as event
use Rattle.ecma_runs.specs.Values.{Value, Undefined, Null, Truth, Number, Text, Own, Host, Error}
use Rattle.ecma_runs.specs.State.{Environment, Arguments, Unbound, Forbidden, Given, Made, Activation, Sort, Plain, Method, Arrow, BaseClass, DerivedClass, Property, Data, Fixed, Accessor, Open, Entry}
use Rattle.ecma_runs.specs.Run.{Run}
use Rattle.ecma_runs.specs.Host.{show, is_open_object, is_open_callee}
use Rattle.ecma_runs.specs.Environment.{Reference, ToVariable, ToFree, ToMember, ToSuper, ToImportMeta, ToMetaMember, ToValue, read_variable, write_variable, with_arguments}
use Rattle.ecma_runs.specs.Meaning.{AsCall, AsConstruct}
use Rattle.ecma_runs.specs.Objects.{new_object, Calling, Function, BoundFunction}
use Rattle.ecma_runs.specs.Functions.{made_arguments, arguments_by, read_name, read, write, read_object, read_typed, delete, Borrowing, Apply, Bind, Call, Callee, Called, CalledSuper, Borrowed, borrowing_of, own_callee, member_callee, callee_by, call_host, call_function, call_target, call_calling, call_own, call_value, call_super_calling, call_super_value, first_or_undefined, all_but_first, list_from, bound_to, function_object, bind_function, call_borrowed, call, constructed, construct_function, construct_target, construct_calling, construct_own, construct, own, super_call, new_prototype, new_function, function_entries, prototype_entries, make_function, plain_object, open_entries, iterator_keys, make_generator, regular_expression_keys, new_regular_expression, parent_from, prototype_for}
use Rattle.ecma_runs.specs.Evaluation.{meaning}
use Rattle.ecma_runs.proofs.Names.{Unless, unless_three}
use Rattle.ecma_runs.proofs.Scopes.{Opens}
use Rattle.ecma_runs.proofs.Alike.{Change, Standing, seeks, changed_callable, FineCallable, Alike, bind_alike, give_alike, throw_alike, outside_alike, when_alike, given_alike, each_alike}
use Rattle.ecma_runs.proofs.Environments.{read_variable_alike, write_variable_alike, activation_alike, set_activation_alike, bind_this_alike, changed_reference, KeptReference, show_alike, use_host_alike, read_free_alike, read_free_typed_alike}
use Rattle.ecma_runs.proofs.Objects.{new_object_alike, calling_at_alike, prototype_at_alike, found_from_alike, elements_at_alike, new_arguments_alike}
use Rattle.ecma_runs.proofs.Meanings.{World, first, second}
use Rattle.ecma_runs.proofs.Members.{got_alike, member_alike, super_member_alike, set_member_alike, set_super_member_alike, delete_member_alike, prototype_property_alike}

module _ (c : Change) where
  made_arguments_alike : (place : ℕ) (a : Activation) (arguments : List Value) → Alike c (made_arguments place a arguments) (made_arguments place a arguments)
  made_arguments_alike place a arguments = bind_alike c (new_arguments_alike c arguments) (λ object. bind_alike c (set_activation_alike c place (with_arguments (Made object) a)) (λ _. give_alike c (Own object)))

  arguments_by_alike : (place : ℕ) (a : Activation) (arguments : Arguments) {free free' : Run Value} → Alike c free free' → Alike c (arguments_by place a arguments free) (arguments_by place a arguments free')
  arguments_by_alike place a Unbound h = h
  arguments_by_alike place a Forbidden h = outside_alike c
  arguments_by_alike place a (Given arguments) h = made_arguments_alike place a arguments
  arguments_by_alike place a (Made object) h = give_alike c _

  module _ (w : World c) where
    read_name_alike : (name : List ℕ) {free free' : Run Value} → Alike c free free' → Alike c (read_name (first c w) name free) (read_name (second c w) name free')
    read_name_alike name h = when_alike c (bytes_eq name (codes "arguments")) (bind_alike c (activation_alike c w.scope) (λ a. arguments_by_alike a.0 a.1 a.1.arguments h)) h

    pub read_alike : (r : Reference) → KeptReference c r → Alike c (read (first c w) r) (read (second c w) (changed_reference c r))
    read_alike (ToVariable place id) kept =
        subst (λ p. Alike c (read_variable w.provided.imports p id) (read_variable w.provided.imports p (c.names.to id))) kept.1.1 (read_variable_alike c kept.1.0 kept.1.2 id kept.1.3 w.provided.imports kept.0)
    read_alike (ToFree name) kept = read_name_alike name (read_free_alike c w.provided.frees name)
    read_alike (ToMember o key) kept = member_alike c w kept o key
    read_alike (ToSuper this base key) kept = super_member_alike c w kept this base key
    read_alike ToImportMeta kept = outside_alike c
    read_alike (ToMetaMember v) kept = give_alike c v
    read_alike (ToValue v) kept = give_alike c v

    pub write_alike : (r : Reference) → KeptReference c r → (v : Value) → Alike c (write (first c w) r v) (write (second c w) (changed_reference c r) v)
    write_alike (ToVariable place id) kept v =
        subst (λ p. Alike c (write_variable p id v) (write_variable p (c.names.to id) v)) kept.1.1 (write_variable_alike c kept.1.0 kept.1.2 id kept.1.3 v kept.0)
    write_alike (ToFree name) kept v = outside_alike c
    write_alike (ToMember o key) kept v = set_member_alike c w kept o key v
    write_alike (ToSuper this base key) kept v = set_super_member_alike c w kept this base key v
    write_alike ToImportMeta kept v = outside_alike c
    write_alike (ToMetaMember old) kept v = outside_alike c
    write_alike (ToValue old) kept v = outside_alike c

    pub read_object_alike : (r : Reference) → KeptReference c r → Alike c (read_object (first c w) r) (read_object (second c w) (changed_reference c r))
    read_object_alike (ToFree name) kept = when_alike c (is_open_object name) (outside_alike c) (read_alike (ToFree name) kept)
    read_object_alike (ToVariable place id) kept = read_alike (ToVariable place id) kept
    read_object_alike (ToMember o key) kept = read_alike (ToMember o key) kept
    read_object_alike (ToSuper this base key) kept = read_alike (ToSuper this base key) kept
    read_object_alike ToImportMeta kept = read_alike ToImportMeta kept
    read_object_alike (ToMetaMember v) kept = read_alike (ToMetaMember v) kept
    read_object_alike (ToValue v) kept = read_alike (ToValue v) kept

    pub read_typed_alike : (r : Reference) → KeptReference c r → Alike c (read_typed (first c w) r) (read_typed (second c w) (changed_reference c r))
    read_typed_alike (ToFree name) kept = read_name_alike name (read_free_typed_alike c w.provided.frees name)
    read_typed_alike (ToVariable place id) kept = read_alike (ToVariable place id) kept
    read_typed_alike (ToMember o key) kept = read_alike (ToMember o key) kept
    read_typed_alike (ToSuper this base key) kept = read_alike (ToSuper this base key) kept
    read_typed_alike ToImportMeta kept = read_alike ToImportMeta kept
    read_typed_alike (ToMetaMember v) kept = read_alike (ToMetaMember v) kept
    read_typed_alike (ToValue v) kept = read_alike (ToValue v) kept

  pub delete_alike : (r : Reference) → Alike c (delete r) (delete (changed_reference c r))
  delete_alike (ToMember o key) = delete_member_alike c o key
  delete_alike (ToValue v) = give_alike c _
  delete_alike (ToVariable place id) = outside_alike c
  delete_alike (ToFree name) = outside_alike c
  delete_alike (ToSuper this base key) = outside_alike c
  delete_alike ToImportMeta = outside_alike c
  delete_alike (ToMetaMember v) = outside_alike c

  list_from_alike : (v : Value) → Alike c (list_from v) (list_from v)
  list_from_alike Undefined = give_alike c []
  list_from_alike Null = give_alike c []
  list_from_alike (Own place) = elements_at_alike c place
  list_from_alike (Host number) = outside_alike c
  list_from_alike (Error error_kind) = outside_alike c
  list_from_alike _ = throw_alike c _

  fine_bound : (es : List Environment) (place : ℕ) (this : Value) (given : List Value) (o : Option Calling) → FineCallable c es (Some (bound_to place this given o))
  fine_bound es place this given None = tt
  fine_bound es place this given (Some (Function sort)) = tt
  fine_bound es place this given (Some (BoundFunction target this' given')) = tt

  bound-changed : (place : ℕ) (this : Value) (given : List Value) (o : Option Calling) → changed_callable c (bound_to place this given o) ≡ bound_to place this given o
  bound-changed place this given None = refl
  bound-changed place this given (Some (Function sort)) = refl
  bound-changed place this given (Some (BoundFunction target this' given')) = refl

  bind_function_alike : (place : ℕ) (this : Value) (given : List Value) → Alike c (bind_function place this given) (bind_function place this given)
  bind_function_alike place this given =
      bind_alike c (calling_at_alike c place) (λ o. bind_alike c (prototype_at_alike c place) (λ p.
      bind_alike c (subst (λ z. Alike c (new_object (function_object function_entries p (bound_to place this given o))) (new_object (function_object function_entries p z))) (bound-changed place this given o) (new_object_alike c _ (λ es around. fine_bound es place this given o)))
      (λ f. give_alike c (Own f))))

  module _ (w : World c) (u : c.uses ≡ true) where
    -- calls

    own_callee_alike : (place : ℕ) (borrowing : Option Borrowing) (o : Option Calling) (p : Option Property) → Alike c (own_callee (first c w) place borrowing o p) (own_callee (second c w) place borrowing o p)
    own_callee_alike place (Some borrowing) (Some calling) (Some Open) = give_alike c _
    own_callee_alike place (Some borrowing) (Some calling) None = bind_alike c (got_alike c w u (Own place) None) (λ f. give_alike c (Called f (Own place)))
    own_callee_alike place (Some borrowing) (Some calling) (Some (Data v)) = bind_alike c (got_alike c w u (Own place) (Some (Data v))) (λ f. give_alike c (Called f (Own place)))
    own_callee_alike place (Some borrowing) (Some calling) (Some (Fixed writable v)) = bind_alike c (got_alike c w u (Own place) (Some (Fixed writable v))) (λ f. give_alike c (Called f (Own place)))
    own_callee_alike place (Some borrowing) (Some calling) (Some (Accessor getter setter)) = bind_alike c (got_alike c w u (Own place) (Some (Accessor getter setter))) (λ f. give_alike c (Called f (Own place)))
    own_callee_alike place (Some borrowing) None p = bind_alike c (got_alike c w u (Own place) p) (λ f. give_alike c (Called f (Own place)))
    own_callee_alike place None o p = bind_alike c (got_alike c w u (Own place) p) (λ f. give_alike c (Called f (Own place)))

    pub member_callee_alike : (o : Value) (key : List ℕ) → Alike c (member_callee (first c w) o key) (member_callee (second c w) o key)
    member_callee_alike (Own place) key = bind_alike c (calling_at_alike c place) (λ o. bind_alike c (found_from_alike c place key) (λ p. own_callee_alike place (borrowing_of key) o p))
    member_callee_alike Undefined key = bind_alike c (member_alike c w u Undefined key) (λ f. give_alike c (Called f Undefined))
    member_callee_alike Null key = bind_alike c (member_alike c w u Null key) (λ f. give_alike c (Called f Null))
    member_callee_alike (Truth truth) key = bind_alike c (member_alike c w u (Truth truth) key) (λ f. give_alike c (Called f (Truth truth)))
    member_callee_alike (Number number) key = bind_alike c (member_alike c w u (Number number) key) (λ f. give_alike c (Called f (Number number)))
    member_callee_alike (Text text) key = bind_alike c (member_alike c w u (Text text) key) (λ f. give_alike c (Called f (Text text)))
    member_callee_alike (Host number) key = bind_alike c (member_alike c w u (Host number) key) (λ f. give_alike c (Called f (Host number)))
    member_callee_alike (Error error_kind) key = bind_alike c (member_alike c w u (Error error_kind) key) (λ f. give_alike c (Called f (Error error_kind)))

    pub callee_by_alike : (r : Reference) → KeptReference c r → Alike c (callee_by (first c w) r) (callee_by (second c w) (changed_reference c r))
    callee_by_alike (ToFree name) kept = when_alike c (is_open_callee name) (outside_alike c) (bind_alike c (read_alike w (ToFree name) kept) (λ f. give_alike c (Called f Undefined)))
    callee_by_alike (ToMember o key) kept = member_callee_alike o key
    callee_by_alike (ToSuper this base key) kept = bind_alike c (super_member_alike c w u this base key) (λ f. give_alike c (CalledSuper f this))
    callee_by_alike (ToVariable place id) kept = bind_alike c (read_alike w (ToVariable place id) kept) (λ f. give_alike c (Called f Undefined))
    callee_by_alike ToImportMeta kept = bind_alike c (read_alike w ToImportMeta kept) (λ f. give_alike c (Called f Undefined))
    callee_by_alike (ToMetaMember v) kept = bind_alike c (read_alike w (ToMetaMember v) kept) (λ f. give_alike c (Called f Undefined))
    callee_by_alike (ToValue v) kept = bind_alike c (read_alike w (ToValue v) kept) (λ f. give_alike c (Called f Undefined))

    call_host_alike : (number : ℕ) (receiver : Value) (arguments : List Value) → Alike c (call_host number receiver arguments) (call_host number receiver arguments)
    call_host_alike number receiver arguments =
        bind_alike c (show_alike c receiver) (λ this. bind_alike c (each_alike c show show (show_alike c) arguments) (λ shown. use_host_alike c u (event.HostCall number this shown)))

    call_function_alike : (place : ℕ) (receiver : Value) (arguments : List Value) (sort : Sort) → Alike c (call_function (first c w) place receiver arguments sort) (call_function (second c w) place receiver arguments sort)
    call_function_alike place receiver arguments BaseClass = throw_alike c _
    call_function_alike place receiver arguments DerivedClass = throw_alike c _
    call_function_alike place receiver arguments Plain = (w.alike u).invoke place (AsCall receiver) arguments
    call_function_alike place receiver arguments Method = (w.alike u).invoke place (AsCall receiver) arguments
    call_function_alike place receiver arguments Arrow = (w.alike u).invoke place (AsCall receiver) arguments

    call_target_alike : (place : ℕ) (receiver : Value) (arguments : List Value) (o : Option Calling) → Alike c (call_target (first c w) place receiver arguments o) (call_target (second c w) place receiver arguments o)
    call_target_alike place receiver arguments (Some (Function sort)) = call_function_alike place receiver arguments sort
    call_target_alike place receiver arguments _ = outside_alike c

    call_calling_alike : (place : ℕ) (receiver : Value) (arguments : List Value) (o : Option Calling) → Alike c (call_calling (first c w) place receiver arguments o) (call_calling (second c w) place receiver arguments o)
    call_calling_alike place receiver arguments None = throw_alike c _
    call_calling_alike place receiver arguments (Some (Function sort)) = call_function_alike place receiver arguments sort
    call_calling_alike place receiver arguments (Some (BoundFunction target this given)) = bind_alike c (calling_at_alike c target) (λ o. call_target_alike target this (given ++ arguments) o)

    call_own_alike : (place : ℕ) (receiver : Value) (arguments : List Value) → Alike c (call_own (first c w) place receiver arguments) (call_own (second c w) place receiver arguments)
    call_own_alike place receiver arguments = bind_alike c (calling_at_alike c place) (λ o. call_calling_alike place receiver arguments o)

    pub call_value_alike : (v receiver : Value) (arguments : List Value) → Alike c (call_value (first c w) v receiver arguments) (call_value (second c w) v receiver arguments)
    call_value_alike (Own place) receiver arguments = call_own_alike place receiver arguments
    call_value_alike (Host number) receiver arguments = call_host_alike number receiver arguments
    call_value_alike (Error error_kind) receiver arguments = outside_alike c
    call_value_alike _ receiver arguments = throw_alike c _

    call_super_calling_alike : (place : ℕ) (receiver : Value) (arguments : List Value) (o : Option Calling) → Alike c (call_super_calling (first c w) place receiver arguments o) (call_super_calling (second c w) place receiver arguments o)
    call_super_calling_alike place receiver arguments None = outside_alike c
    call_super_calling_alike place receiver arguments (Some (Function BaseClass)) = outside_alike c
    call_super_calling_alike place receiver arguments (Some (Function DerivedClass)) = outside_alike c
    call_super_calling_alike place receiver arguments (Some (Function Plain)) = call_function_alike place receiver arguments Plain
    call_super_calling_alike place receiver arguments (Some (Function Method)) = call_function_alike place receiver arguments Method
    call_super_calling_alike place receiver arguments (Some (Function Arrow)) = call_function_alike place receiver arguments Arrow
    call_super_calling_alike place receiver arguments (Some (BoundFunction target this given)) = call_calling_alike place receiver arguments (Some (BoundFunction target this given))

    call_super_value_alike : (v receiver : Value) (arguments : List Value) → Alike c (call_super_value (first c w) v receiver arguments) (call_super_value (second c w) v receiver arguments)
    call_super_value_alike (Own place) receiver arguments = bind_alike c (calling_at_alike c place) (λ o. call_super_calling_alike place receiver arguments o)
    call_super_value_alike _ receiver arguments = outside_alike c

    call_borrowed_alike : (borrowing : Borrowing) (place : ℕ) (arguments : List Value) → Alike c (call_borrowed (first c w) borrowing place arguments) (call_borrowed (second c w) borrowing place arguments)
    call_borrowed_alike Apply place arguments = bind_alike c (list_from_alike (first_or_undefined (all_but_first arguments))) (λ list. call_own_alike place (first_or_undefined arguments) list)
    call_borrowed_alike Bind place arguments = bind_function_alike place (first_or_undefined arguments) (all_but_first arguments)
    call_borrowed_alike Call place arguments = call_own_alike place (first_or_undefined arguments) (all_but_first arguments)

    pub call_alike : (f : Callee) (arguments : List Value) → Alike c (call (first c w) f arguments) (call (second c w) f arguments)
    call_alike (Called f receiver) arguments = call_value_alike f receiver arguments
    call_alike (CalledSuper f receiver) arguments = call_super_value_alike f receiver arguments
    call_alike (Borrowed borrowing place) arguments = call_borrowed_alike borrowing place arguments

    -- constructions

    constructed_alike : (v : Value) → Alike c (constructed v) (constructed v)
    constructed_alike (Own place) = give_alike c _
    constructed_alike (Host number) = give_alike c _
    constructed_alike _ = outside_alike c

    construct_function_alike : (place target : ℕ) (arguments : List Value) (sort : Sort) → Alike c (construct_function (first c w) place target arguments sort) (construct_function (second c w) place target arguments sort)
    construct_function_alike place target arguments Method = throw_alike c _
    construct_function_alike place target arguments Arrow = throw_alike c _
    construct_function_alike place target arguments Plain = (w.alike u).invoke place (AsConstruct target) arguments
    construct_function_alike place target arguments BaseClass = (w.alike u).invoke place (AsConstruct target) arguments
    construct_function_alike place target arguments DerivedClass = (w.alike u).invoke place (AsConstruct target) arguments

    construct_target_alike : (place target : ℕ) (arguments : List Value) (o : Option Calling) → Alike c (construct_target (first c w) place target arguments o) (construct_target (second c w) place target arguments o)
    construct_target_alike place target arguments (Some (Function sort)) = construct_function_alike place target arguments sort
    construct_target_alike place target arguments _ = outside_alike c

    construct_calling_alike : (place target : ℕ) (arguments : List Value) (o : Option Calling) → Alike c (construct_calling (first c w) place target arguments o) (construct_calling (second c w) place target arguments o)
    construct_calling_alike place target arguments None = throw_alike c _
    construct_calling_alike place target arguments (Some (Function sort)) = construct_function_alike place target arguments sort
    construct_calling_alike place target arguments (Some (BoundFunction goal this given)) =
        bind_alike c (calling_at_alike c goal) (λ o. construct_target_alike goal (cond (nat_eq place target) goal target) (given ++ arguments) o)

    construct_own_alike : (place target : ℕ) (arguments : List Value) → Alike c (construct_own (first c w) place target arguments) (construct_own (second c w) place target arguments)
    construct_own_alike place target arguments = bind_alike c (calling_at_alike c place) (λ o. construct_calling_alike place target arguments o)

    pub construct_alike : (v : Value) (arguments : List Value) → Alike c (construct (first c w) v arguments) (construct (second c w) v arguments)
    construct_alike (Own place) arguments = construct_own_alike place place arguments
    construct_alike (Host number) arguments =
        bind_alike c (each_alike c show show (show_alike c) arguments) (λ shown. bind_alike c (use_host_alike c u (event.HostNew number shown)) (λ v. constructed_alike v))
    construct_alike (Error error_kind) arguments = outside_alike c
    construct_alike _ arguments = throw_alike c _

    own_alike : (v : Value) → Alike c (own v) (own v)
    own_alike (Own place) = give_alike c place
    own_alike _ = outside_alike c

    pub super_call_alike : (arguments : List Value) → Alike c (super_call (first c w) arguments) (super_call (second c w) arguments)
    super_call_alike arguments =
        bind_alike c (activation_alike c w.scope) (λ a. bind_alike c (given_alike c a.1.new_target) (λ t. bind_alike c (own_alike t) (λ target. bind_alike c (given_alike c a.1.function) (λ function.
        bind_alike c (prototype_at_alike c function) (λ parent. bind_alike c (given_alike c parent) (λ place.
        bind_alike c (construct_own_alike place target arguments) (λ v.
        bind_alike c (bind_this_alike c w.scope v) (λ _. bind_alike c ((w.alike u).fields function v) (λ _. give_alike c v)))))))))

  -- functions

  pub new_prototype_alike : (parent : Option ℕ) → Alike c (new_prototype parent) (new_prototype parent)
  new_prototype_alike parent = new_object_alike c _ (λ es around. tt)

  -- a node that a function may keep in this scope
  abbrev pub MayKeep : World c → Node → Type 0
  MayKeep w n = Unless c.names.plain (Standing c w.scope (seeks c n).sought × Opens c.names (meaning n).parameter_names (seeks c n).sought (seeks c n).code_sought)

  pub new_function_alike : (w : World c) (entries : List Entry) (parent : Option ℕ) (n : Node) (sort : Sort) (home : Option ℕ) → c.fine n → MayKeep w n
      → Alike c (new_function entries parent n sort home (first c w)) (new_function entries parent (c.node n) sort home (second c w))
  new_function_alike w entries parent n sort home fine keeps = new_object_alike c _ (λ es around. (fine, unless_three c.names.plain (λ there here k. (there es here, k.0, k.1)) w.there around keeps))

  pub make_function_alike : (w : World c) (n : Node) (sort : Sort) (home : Option ℕ) → c.fine n → MayKeep w n → Alike c (make_function n sort home (first c w)) (make_function (c.node n) sort home (second c w))
  make_function_alike w n Plain home fine keeps = bind_alike c (new_prototype_alike None) (λ place. new_function_alike w (prototype_entries true place) None n Plain home fine keeps)
  make_function_alike w n Method home fine keeps = new_function_alike w function_entries None n Method home fine keeps
  make_function_alike w n Arrow home fine keeps = new_function_alike w function_entries None n Arrow home fine keeps
  make_function_alike w n BaseClass home fine keeps = new_function_alike w function_entries None n BaseClass home fine keeps
  make_function_alike w n DerivedClass home fine keeps = new_function_alike w function_entries None n DerivedClass home fine keeps

  plain_object_alike : (entries : List Entry) (parent : Option ℕ) → Alike c (new_object (plain_object entries parent)) (new_object (plain_object entries parent))
  plain_object_alike entries parent = new_object_alike c (plain_object entries parent) (λ es around. tt)

  pub make_generator_alike : (w : World c) (n : Node) (home : Option ℕ) → c.fine n → MayKeep w n → Alike c (make_generator n home (first c w)) (make_generator (c.node n) home (second c w))
  make_generator_alike w n home fine keeps =
      bind_alike c (plain_object_alike (open_entries iterator_keys) None) (λ above. bind_alike c (plain_object_alike [] (Some above)) (λ place.
      bind_alike c (plain_object_alike (open_entries (codes "prototype" ∷ [])) None) (λ functions. new_function_alike w (prototype_entries true place) (Some functions) n Method home fine keeps)))

  pub new_regular_expression_alike : Alike c new_regular_expression new_regular_expression
  new_regular_expression_alike =
      bind_alike c (plain_object_alike (open_entries regular_expression_keys) None) (λ above.
      plain_object_alike (record { key = codes "lastIndex"; property = Fixed true (Number (Whole (pos 0))) } ∷ []) (Some above))

  parent_from_alike : (v : Value) → Alike c (parent_from v) (parent_from v)
  parent_from_alike (Own place) = give_alike c _
  parent_from_alike (Host number) = outside_alike c
  parent_from_alike (Error error_kind) = outside_alike c
  parent_from_alike _ = give_alike c None

  pub prototype_for_alike : (place : ℕ) → Alike c (prototype_for place) (prototype_for place)
  prototype_for_alike place = bind_alike c (prototype_property_alike c place) (λ v. parent_from_alike v)
