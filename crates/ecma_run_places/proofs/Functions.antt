-- References, calls, constructions and function objects do alike.
use Rattle.std.proofs.Common.{◌≡◌, refl, sym, subst, ℕ, pos, List, [], ◌∷◌, Option, Some, None, Bool, true, false, cond, nat_eq, codes}
use Rattle.ecma_number.specs.declared.js_number.JsNumber.TheVariants.{Whole}
use Rattle.ecma_tree.specs.declared.node.Node.{Node}
use Rattle.ecma_runs.specs.declared.observation.Event.TheVariants as event
use Rattle.ecma_runs.specs.declared.shown.ErrorKind.TheVariants as error
use Rattle.ecma_runs.specs.Values.{Value, Undefined, Own}
use Rattle.ecma_runs.specs.State.{Sort, Plain, Method, Arrow, BaseClass, DerivedClass, Callable, Property, Entry}
use Rattle.ecma_runs.specs.Run.{◌>>=◌, give, given}
use Rattle.ecma_runs.specs.Members.{got, member}
use Rattle.ecma_runs.specs.Environment.{Reference}
use Rattle.ecma_runs.specs.Objects.{Calling, new_object}
use Rattle.ecma_runs.specs.Functions.{read, write, read_object, read_typed, delete, Borrowing, Apply, Bind, Call, Callee, Called, CalledSuper, Borrowed, borrowing_of, own_callee, member_callee, callee_by, call_host, call_function, call_target, call_calling, call_own, call_value, call_super_calling, call_super_value, first_or_undefined, all_but_first, list_from, bound_to, function_entries, function_object, bind_function, call_borrowed, call, constructed, construct_function, construct_target, construct_calling, construct_own, construct, own, super_call, new_prototype, new_function, prototype_entries, make_function, iterator_keys, open_entries, plain_object, make_generator, regular_expression_keys, new_regular_expression, pass_function, parent_from, prototype_for}
use Rattle.ecma_run_places.specs.Worlds.{Each, no_more, more, Maybe, neither, both, World, Above, Same, Objects, Like, undefineds, nulls, truths, numbers, texts, owns, hosts, errors, closures_like, LikeCallable, codes_like, bound_like, passed_like, data_like, fixed_like, accessors_like, open_like, LikeEntry, entries_like, LikeObject, objects_like}
use Rattle.ecma_run_places.specs.Alike.{Alike, Likes, MaybeObjects, LikeReference, to_variables, to_frees, to_members, to_supers, to_import_metas, to_meta_members, to_values, calls_like, constructions_like, Contexts, first, second}
use Rattle.ecma_run_places.proofs.Growing.{above, value_up, place_up, scopes_up, later}
use Rattle.ecma_run_places.proofs.Combinators.{Keeps, keeps_alike, kept_bind, kept_bind_same, here_bind, here_bind_same, bind, bind_same, give_kept, throw_kept, outside_kept, give_alike, throw_alike, outside_alike, when_alike, given_kept, each_kept_same}
use Rattle.ecma_run_places.proofs.Host.{show_kept, use_host_kept, read_free_kept, read_free_typed_kept, each_append}
use Rattle.ecma_run_places.proofs.Records.{read_variable_kept, write_variable_kept, activation_kept, bind_this_kept}
use Rattle.ecma_run_places.proofs.Arguments.{read_name_alike}
use Rattle.ecma_run_places.proofs.Objects.{new_object_alike, functions_like, bound_functions_like, MaybeCalling, calling_at_kept, prototype_at_kept, MaybeProperty, found_from_kept, elements_at_kept}
use Rattle.ecma_run_places.proofs.Members.{got_alike, member_alike, set_member_alike, super_member_alike, set_super_member_alike, delete_member_kept, prototype_property_kept}

-- ---- references

pub read_alike : {w : World} (c : Contexts w) {r r' : Reference} → LikeReference w r r' → Alike w Like (read (first c) r) (read (second c) r')
read_alike c (to_variables {id = id} p) = keeps_alike (read_variable_kept c.provided.imports p id)
read_alike c (to_frees {name = name}) = read_name_alike c name (keeps_alike (read_free_kept c.provided.frees name))
read_alike c (to_members {key = key} q) = member_alike c q key
read_alike c (to_supers {key = key} q b) = super_member_alike c q b key
read_alike c to_import_metas = outside_alike
read_alike c (to_meta_members q) = give_alike q
read_alike c (to_values q) = give_alike q

pub write_alike : {w : World} (c : Contexts w) {r r' : Reference} → LikeReference w r r' → {v v' : Value} → Like w v v' → Alike w Same (write (first c) r v) (write (second c) r' v')
write_alike c (to_variables {id = id} p) z = keeps_alike (write_variable_kept p id z)
write_alike c (to_members {key = key} q) z = set_member_alike c q key z
write_alike c (to_supers {key = key} q b) z = set_super_member_alike c q b key z
write_alike c _ z = outside_alike

pub read_object_alike : {w : World} (c : Contexts w) {r r' : Reference} → LikeReference w r r' → Alike w Like (read_object (first c) r) (read_object (second c) r')
read_object_alike c (to_frees {name = name}) = when_alike refl outside_alike (read_alike c (to_frees {name = name}))
read_object_alike c (to_variables {id = id} p) = read_alike c (to_variables {id = id} p)
read_object_alike c (to_members {key = key} q) = read_alike c (to_members {key = key} q)
read_object_alike c (to_supers {key = key} q b) = read_alike c (to_supers {key = key} q b)
read_object_alike c to_import_metas = outside_alike
read_object_alike c (to_meta_members q) = give_alike q
read_object_alike c (to_values q) = give_alike q

pub read_typed_alike : {w : World} (c : Contexts w) {r r' : Reference} → LikeReference w r r' → Alike w Like (read_typed (first c) r) (read_typed (second c) r')
read_typed_alike c (to_frees {name = name}) = read_name_alike c name (keeps_alike (read_free_typed_kept c.provided.frees name))
read_typed_alike c (to_variables {id = id} p) = read_alike c (to_variables {id = id} p)
read_typed_alike c (to_members {key = key} q) = read_alike c (to_members {key = key} q)
read_typed_alike c (to_supers {key = key} q b) = read_alike c (to_supers {key = key} q b)
read_typed_alike c to_import_metas = outside_alike
read_typed_alike c (to_meta_members q) = give_alike q
read_typed_alike c (to_values q) = give_alike q

pub delete_kept : {w : World} {r r' : Reference} → LikeReference w r r' → Keeps w Like (delete r) (delete r')
delete_kept (to_members {key = key} q) = delete_member_kept q key
delete_kept (to_values q) = give_kept (truths true)
delete_kept _ = outside_kept

-- ---- callees

pub data LikeCallee (w : World) : Callee → Callee → Type 0 where
  called_like : {f f' v v' : Value} → Like w f f' → Like w v v' → LikeCallee w (Called f v) (Called f' v')
  called_super_like : {f f' v v' : Value} → Like w f f' → Like w v v' → LikeCallee w (CalledSuper f v) (CalledSuper f' v')
  borrowed_like : {borrowing : Borrowing} {a b : ℕ} → Objects w a b → LikeCallee w (Borrowed borrowing a) (Borrowed borrowing b)

pub callee_up : {w v : World} → Above w v → {f f' : Callee} → LikeCallee w f f' → LikeCallee v f f'
callee_up u (called_like q r) = called_like (value_up u q) (value_up u r)
callee_up u (called_super_like q r) = called_super_like (value_up u q) (value_up u r)
callee_up u (borrowed_like p) = borrowed_like (u.objects _ _ p)

got_callee : {w : World} (c : Contexts w) {a b : ℕ} → Objects w a b → {o o' : Option Property} → MaybeProperty w o o'
    → Alike w LikeCallee (got (first c) (Own a) o >>= λ f. give (Called f (Own a))) (got (second c) (Own b) o' >>= λ f. give (Called f (Own b)))
got_callee c p o = bind (got_alike c (owns p) o) (λ v u _ _ f. give_alike (called_like f (owns (u.objects _ _ p))))

own_callee_alike : {w : World} (c : Contexts w) {a b : ℕ} → Objects w a b → (borrowing : Option Borrowing) {o o' : Option Calling} → MaybeCalling w o o' → {p p' : Option Property} → MaybeProperty w p p'
    → Alike w LikeCallee (own_callee (first c) a borrowing o p) (own_callee (second c) b borrowing o' p')
own_callee_alike c p None o q = got_callee c p q
own_callee_alike c p (Some borrowing) neither q = got_callee c p q
own_callee_alike c p (Some borrowing) (both o) neither = got_callee c p neither
own_callee_alike c p (Some borrowing) (both o) (both open_like) = give_alike (borrowed_like p)
own_callee_alike c p (Some borrowing) (both o) (both (data_like q)) = got_callee c p (both (data_like q))
own_callee_alike c p (Some borrowing) (both o) (both (fixed_like {writable = writable} q)) = got_callee c p (both (fixed_like {writable = writable} q))
own_callee_alike c p (Some borrowing) (both o) (both (accessors_like g s)) = got_callee c p (both (accessors_like g s))

member_called : {w : World} (c : Contexts w) {v v' : Value} → Like w v v' → (key : List ℕ)
    → Alike w LikeCallee (member (first c) v key >>= λ f. give (Called f v)) (member (second c) v' key >>= λ f. give (Called f v'))
member_called c q key = bind (member_alike c q key) (λ v u _ _ f. give_alike (called_like f (value_up u q)))

member_callee_alike : {w : World} (c : Contexts w) {v v' : Value} → Like w v v' → (key : List ℕ) → Alike w LikeCallee (member_callee (first c) v key) (member_callee (second c) v' key)
member_callee_alike c (owns p) key = here_bind (calling_at_kept p) (λ _ _ o. here_bind (found_from_kept p key) (λ _ _ q. own_callee_alike c p (borrowing_of key) o q))
member_callee_alike c undefineds key = member_called c undefineds key
member_callee_alike c nulls key = member_called c nulls key
member_callee_alike c (truths b) key = member_called c (truths b) key
member_callee_alike c (numbers n) key = member_called c (numbers n) key
member_callee_alike c (texts t) key = member_called c (texts t) key
member_callee_alike c (hosts n) key = member_called c (hosts n) key
member_callee_alike c (errors k) key = member_called c (errors k) key

read_called : {w : World} (c : Contexts w) {r r' : Reference} → LikeReference w r r'
    → Alike w LikeCallee (read (first c) r >>= λ f. give (Called f Undefined)) (read (second c) r' >>= λ f. give (Called f Undefined))
read_called c q = bind (read_alike c q) (λ v u _ _ f. give_alike (called_like f undefineds))

pub callee_by_alike : {w : World} (c : Contexts w) {r r' : Reference} → LikeReference w r r' → Alike w LikeCallee (callee_by (first c) r) (callee_by (second c) r')
callee_by_alike c (to_frees {name = name}) = when_alike refl outside_alike (read_called c (to_frees {name = name}))
callee_by_alike c (to_members {key = key} q) = member_callee_alike c q key
callee_by_alike c (to_supers {key = key} q b) = bind (super_member_alike c q b key) (λ v u _ _ f. give_alike (called_super_like f (value_up u q)))
callee_by_alike c (to_variables {id = id} p) = read_called c (to_variables {id = id} p)
callee_by_alike c to_import_metas = read_called c to_import_metas
callee_by_alike c (to_meta_members q) = read_called c (to_meta_members q)
callee_by_alike c (to_values q) = read_called c (to_values q)

-- ---- calls

call_host_kept : {w : World} (number : ℕ) {r r' : Value} → Like w r r' → {vs vs' : List Value} → Likes w vs vs' → Keeps w Like (call_host number r vs) (call_host number r' vs')
call_host_kept number r qs = kept_bind_same (show_kept _ _ r) (λ this. kept_bind_same (each_kept_same show_kept qs) (λ shown. use_host_kept (event.HostCall number this shown)))

call_function_alike : {w : World} (c : Contexts w) {a b : ℕ} → Objects w a b → {r r' : Value} → Like w r r' → {vs vs' : List Value} → Likes w vs vs' → (sort : Sort)
    → Alike w Like (call_function (first c) a r vs sort) (call_function (second c) b r' vs' sort)
call_function_alike c p r qs BaseClass = throw_alike (errors error.Kind)
call_function_alike c p r qs DerivedClass = throw_alike (errors error.Kind)
call_function_alike c p r qs Plain = c.alike.invoke p (calls_like r) qs
call_function_alike c p r qs Method = c.alike.invoke p (calls_like r) qs
call_function_alike c p r qs Arrow = c.alike.invoke p (calls_like r) qs

call_target_alike : {w : World} (c : Contexts w) {a b : ℕ} → Objects w a b → {r r' : Value} → Like w r r' → {vs vs' : List Value} → Likes w vs vs' → {o o' : Option Calling} → MaybeCalling w o o'
    → Alike w Like (call_target (first c) a r vs o) (call_target (second c) b r' vs' o')
call_target_alike c p r qs neither = outside_alike
call_target_alike c p r qs (both (functions_like {sort = sort})) = call_function_alike c p r qs sort
call_target_alike c p r qs (both (bound_functions_like t q g)) = outside_alike

call_calling_alike : {w : World} (c : Contexts w) {a b : ℕ} → Objects w a b → {r r' : Value} → Like w r r' → {vs vs' : List Value} → Likes w vs vs' → {o o' : Option Calling} → MaybeCalling w o o'
    → Alike w Like (call_calling (first c) a r vs o) (call_calling (second c) b r' vs' o')
call_calling_alike c p r qs neither = throw_alike (errors error.Kind)
call_calling_alike c p r qs (both (functions_like {sort = sort})) = call_function_alike c p r qs sort
call_calling_alike c p r qs (both (bound_functions_like t q g)) = here_bind (calling_at_kept t) (λ _ _ o. call_target_alike c t q (each_append g qs) o)

call_own_alike : {w : World} (c : Contexts w) {a b : ℕ} → Objects w a b → {r r' : Value} → Like w r r' → {vs vs' : List Value} → Likes w vs vs'
    → Alike w Like (call_own (first c) a r vs) (call_own (second c) b r' vs')
call_own_alike c p r qs = here_bind (calling_at_kept p) (λ _ _ o. call_calling_alike c p r qs o)

pub call_value_alike : {w : World} (c : Contexts w) {f f' : Value} → Like w f f' → {r r' : Value} → Like w r r' → {vs vs' : List Value} → Likes w vs vs'
    → Alike w Like (call_value (first c) f r vs) (call_value (second c) f' r' vs')
call_value_alike c (owns p) r qs = call_own_alike c p r qs
call_value_alike c (hosts n) r qs = keeps_alike (call_host_kept n r qs)
call_value_alike c (errors k) r qs = outside_alike
call_value_alike c _ r qs = throw_alike (errors error.Kind)

call_super_calling_alike : {w : World} (c : Contexts w) {a b : ℕ} → Objects w a b → {r r' : Value} → Like w r r' → {vs vs' : List Value} → Likes w vs vs' → {o o' : Option Calling} → MaybeCalling w o o'
    → Alike w Like (call_super_calling (first c) a r vs o) (call_super_calling (second c) b r' vs' o')
call_super_calling_alike c p r qs neither = outside_alike
call_super_calling_alike c p r qs (both (functions_like {sort = BaseClass})) = outside_alike
call_super_calling_alike c p r qs (both (functions_like {sort = DerivedClass})) = outside_alike
call_super_calling_alike c p r qs (both (functions_like {sort = Plain})) = call_function_alike c p r qs Plain
call_super_calling_alike c p r qs (both (functions_like {sort = Method})) = call_function_alike c p r qs Method
call_super_calling_alike c p r qs (both (functions_like {sort = Arrow})) = call_function_alike c p r qs Arrow
call_super_calling_alike c p r qs (both (bound_functions_like t q g)) = call_calling_alike c p r qs (both (bound_functions_like t q g))

call_super_value_alike : {w : World} (c : Contexts w) {f f' : Value} → Like w f f' → {r r' : Value} → Like w r r' → {vs vs' : List Value} → Likes w vs vs'
    → Alike w Like (call_super_value (first c) f r vs) (call_super_value (second c) f' r' vs')
call_super_value_alike c (owns p) r qs = here_bind (calling_at_kept p) (λ _ _ o. call_super_calling_alike c p r qs o)
call_super_value_alike c _ r qs = outside_alike

pub first_like : {w : World} {vs vs' : List Value} → Likes w vs vs' → Like w (first_or_undefined vs) (first_or_undefined vs')
first_like no_more = undefineds
first_like (more q qs) = q

pub others_like : {w : World} {vs vs' : List Value} → Likes w vs vs' → Likes w (all_but_first vs) (all_but_first vs')
others_like no_more = no_more
others_like (more q qs) = qs

list_from_kept : {w : World} {v v' : Value} → Like w v v' → Keeps w Likes (list_from v) (list_from v')
list_from_kept undefineds = give_kept no_more
list_from_kept nulls = give_kept no_more
list_from_kept (owns p) = elements_at_kept p
list_from_kept (hosts n) = outside_kept
list_from_kept (errors k) = outside_kept
list_from_kept _ = throw_kept (errors error.Kind)

bound_to_like : {w : World} {a b : ℕ} → Objects w a b → {v v' : Value} → Like w v v' → {vs vs' : List Value} → Likes w vs vs' → {o o' : Option Calling}
    → MaybeCalling w o o' → LikeCallable w (bound_to a v vs o) (bound_to b v' vs' o')
bound_to_like p q qs neither = bound_like p q qs
bound_to_like p q qs (both functions_like) = bound_like p q qs
bound_to_like p q qs (both (bound_functions_like t r g)) = bound_like t r (each_append g qs)

function_entries_like : {w : World} → Each (LikeEntry w) function_entries function_entries
function_entries_like = more (entries_like open_like) (more (entries_like open_like) no_more)

function_object_like : {w : World} {es es' : List Entry} → Each (LikeEntry w) es es' → {p p' : Option ℕ}
    → MaybeObjects w p p' → {c c' : Callable} → LikeCallable w c c' → LikeObject w (function_object es p c) (function_object es' p' c')
function_object_like es p c = objects_like es p (both c)

bind_function_alike : {w : World} {a b : ℕ} → Objects w a b → {v v' : Value} → Like w v v' → {vs vs' : List Value} → Likes w vs vs' → Alike w Like (bind_function a v vs) (bind_function b v' vs')
bind_function_alike p q qs =
    here_bind (calling_at_kept p) (λ _ _ o. here_bind (prototype_at_kept p) (λ _ _ parent.
    bind (new_object_alike (function_object_like function_entries_like parent (bound_to_like p q qs o))) (λ v u _ _ f. give_alike (owns f))))

call_borrowed_alike : {w : World} (c : Contexts w) (borrowing : Borrowing) {a b : ℕ} → Objects w a b → {vs vs' : List Value} → Likes w vs vs'
    → Alike w Like (call_borrowed (first c) borrowing a vs) (call_borrowed (second c) borrowing b vs')
call_borrowed_alike c Apply p qs = here_bind (list_from_kept (first_like (others_like qs))) (λ _ _ list. call_own_alike c p (first_like qs) list)
call_borrowed_alike c Bind p qs = bind_function_alike p (first_like qs) (others_like qs)
call_borrowed_alike c Call p qs = call_own_alike c p (first_like qs) (others_like qs)

pub call_alike : {w : World} (c : Contexts w) {f f' : Callee} → LikeCallee w f f' → {vs vs' : List Value} → Likes w vs vs' → Alike w Like (call (first c) f vs) (call (second c) f' vs')
call_alike c (called_like f r) qs = call_value_alike c f r qs
call_alike c (called_super_like f r) qs = call_super_value_alike c f r qs
call_alike c (borrowed_like {borrowing = borrowing} p) qs = call_borrowed_alike c borrowing p qs

-- ---- constructions

constructed_kept : {w : World} {v v' : Value} → Like w v v' → Keeps w Like (constructed v) (constructed v')
constructed_kept (owns p) = give_kept (owns p)
constructed_kept (hosts n) = give_kept (hosts n)
constructed_kept _ = outside_kept

construct_function_alike : {w : World} (c : Contexts w) {a b t t' : ℕ} → Objects w a b → Objects w t t' → {vs vs' : List Value} → Likes w vs vs' → (sort : Sort)
    → Alike w Like (construct_function (first c) a t vs sort) (construct_function (second c) b t' vs' sort)
construct_function_alike c p t qs Method = throw_alike (errors error.Kind)
construct_function_alike c p t qs Arrow = throw_alike (errors error.Kind)
construct_function_alike c p t qs Plain = c.alike.invoke p (constructions_like t) qs
construct_function_alike c p t qs BaseClass = c.alike.invoke p (constructions_like t) qs
construct_function_alike c p t qs DerivedClass = c.alike.invoke p (constructions_like t) qs

construct_target_alike : {w : World} (c : Contexts w) {a b t t' : ℕ} → Objects w a b → Objects w t t' → {vs vs' : List Value} → Likes w vs vs' → {o o' : Option Calling} → MaybeCalling w o o'
    → Alike w Like (construct_target (first c) a t vs o) (construct_target (second c) b t' vs' o')
construct_target_alike c p t qs neither = outside_alike
construct_target_alike c p t qs (both (functions_like {sort = sort})) = construct_function_alike c p t qs sort
construct_target_alike c p t qs (both (bound_functions_like g q r)) = outside_alike

-- a place that is new.target, or another
chosen_like : (w : World) {g h t t' : ℕ} (b b' : Bool) → b' ≡ b → Objects w g h → Objects w t t' → Objects w (cond b g t) (cond b' h t')
chosen_like w {g} {h} {t} {t'} b b' e p q = subst (λ z. Objects w (cond b g t) (cond z h t')) (sym e) (by b)
  where
    by : (z : Bool) → Objects w (cond z g t) (cond z h t')
    by true = p
    by false = q

construct_calling_alike : {w : World} (c : Contexts w) {a b t t' : ℕ} → Objects w a b → Objects w t t' → {vs vs' : List Value} → Likes w vs vs' → {o o' : Option Calling} → MaybeCalling w o o'
    → Alike w Like (construct_calling (first c) a t vs o) (construct_calling (second c) b t' vs' o')
construct_calling_alike c p t qs neither = throw_alike (errors error.Kind)
construct_calling_alike c p t qs (both (functions_like {sort = sort})) = construct_function_alike c p t qs sort
construct_calling_alike {w} c {a} {b} {t} {t'} p q qs (both (bound_functions_like g r rs)) =
    here_bind (calling_at_kept g) (λ _ _ o. construct_target_alike c g (chosen_like w (nat_eq a t) (nat_eq b t') (sym (w.objects_apart a b t t' p q)) g q) (each_append rs qs) o)

construct_own_alike : {w : World} (c : Contexts w) {a b t t' : ℕ} → Objects w a b → Objects w t t' → {vs vs' : List Value} → Likes w vs vs'
    → Alike w Like (construct_own (first c) a t vs) (construct_own (second c) b t' vs')
construct_own_alike c p t qs = here_bind (calling_at_kept p) (λ _ _ o. construct_calling_alike c p t qs o)

pub construct_alike : {w : World} (c : Contexts w) {v v' : Value} → Like w v v' → {vs vs' : List Value} → Likes w vs vs' → Alike w Like (construct (first c) v vs) (construct (second c) v' vs')
construct_alike c (owns p) qs = construct_own_alike c p p qs
construct_alike c (hosts n) qs = keeps_alike (kept_bind_same (each_kept_same show_kept qs) (λ shown. kept_bind (use_host_kept (event.HostNew n shown)) (λ _ _ v. constructed_kept v)))
construct_alike c (errors k) qs = outside_alike
construct_alike c _ qs = throw_alike (errors error.Kind)

own_kept : {w : World} {v v' : Value} → Like w v v' → Keeps w Objects (own v) (own v')
own_kept (owns p) = give_kept p
own_kept _ = outside_kept

pub given_value : {w : World} {o o' : Option Value} → Maybe (Like w) o o' → Keeps w Like (given o) (given o')
given_value q = given_kept q

pub given_place : {w : World} {o o' : Option ℕ} → MaybeObjects w o o' → Keeps w Objects (given o) (given o')
given_place q = given_kept q

pub super_call_alike : {w : World} (c : Contexts w) {vs vs' : List Value} → Likes w vs vs' → Alike w Like (super_call (first c) vs) (super_call (second c) vs')
super_call_alike c qs =
    here_bind (activation_kept c.scopes) (λ _ _ a. here_bind (given_value a.1.new_target) (λ _ _ t. here_bind (own_kept t) (λ _ _ target. here_bind (given_place a.1.function) (λ _ _ function.
    here_bind (prototype_at_kept function) (λ _ _ parent. here_bind (given_place parent) (λ _ _ place.
    bind (construct_own_alike c place target qs) (λ v u _ _ q.
    here_bind_same (bind_this_kept (scopes_up u c.scopes) q) (λ _. bind_same (c.alike.fields (u.objects _ _ function) q) (λ z y _. give_alike (value_up y q))))))))))

-- ---- function objects

pub new_prototype_alike : {w : World} {p p' : Option ℕ} → MaybeObjects w p p' → Alike w Objects (new_prototype p) (new_prototype p')
new_prototype_alike p = new_object_alike (objects_like (more (entries_like open_like) no_more) p neither)

pub prototype_entries_like : {w : World} (writable : Bool) {a b : ℕ} → Objects w a b → Each (LikeEntry w) (prototype_entries writable a) (prototype_entries writable b)
prototype_entries_like writable p = more (entries_like (fixed_like (owns p))) function_entries_like

pub new_function_alike : {w : World} {es es' : List Entry} → Each (LikeEntry w) es es' → {p p' : Option ℕ} → MaybeObjects w p p' → (node : Node) (sort : Sort) {h h' : Option ℕ}
    → MaybeObjects w h h' → (c : Contexts w)
    → Alike w Objects (new_function es p node sort h (first c)) (new_function es' p' node sort h' (second c))
new_function_alike es p node sort h c = new_object_alike (objects_like es p (both (codes_like (closures_like c.scopes h))))

pub make_function_alike : {w : World} (node : Node) (sort : Sort) {h h' : Option ℕ} → MaybeObjects w h h' → (c : Contexts w)
    → Alike w Objects (make_function node sort h (first c)) (make_function node sort h' (second c))
make_function_alike node Plain h c = bind (new_prototype_alike neither) (λ v u _ _ place. new_function_alike (prototype_entries_like true place) neither node Plain (place_up u h) (later u c))
make_function_alike node Method h c = new_function_alike function_entries_like neither node Method h c
make_function_alike node Arrow h c = new_function_alike function_entries_like neither node Arrow h c
make_function_alike node BaseClass h c = new_function_alike function_entries_like neither node BaseClass h c
make_function_alike node DerivedClass h c = new_function_alike function_entries_like neither node DerivedClass h c

open_entries_like : {w : World} (keys : List (List ℕ)) → Each (LikeEntry w) (open_entries keys) (open_entries keys)
open_entries_like [] = no_more
open_entries_like (key ∷ keys) = more (entries_like open_like) (open_entries_like keys)

plain_object_alike : {w : World} {es es' : List Entry} → Each (LikeEntry w) es es' → {p p' : Option ℕ} → MaybeObjects w p p' → Alike w Objects (new_object (plain_object es p)) (new_object (plain_object es' p'))
plain_object_alike es p = new_object_alike (objects_like es p neither)

pub make_generator_alike : {w : World} (node : Node) {h h' : Option ℕ} → MaybeObjects w h h' → (c : Contexts w) → Alike w Objects (make_generator node h (first c)) (make_generator node h' (second c))
make_generator_alike node h c =
    bind (plain_object_alike (open_entries_like iterator_keys) neither) (λ v u _ _ top. bind (plain_object_alike no_more (both top)) (λ v' u' _ _ place.
    bind (plain_object_alike (open_entries_like (codes "prototype" ∷ [])) neither) (λ v'' u'' _ _ functions.
    new_function_alike (prototype_entries_like true (u''.objects _ _ place)) (both functions) node Method (place_up (above u (above u' u'')) h) (later (above u (above u' u'')) c))))

pub new_regular_expression_alike : {w : World} → Alike w Objects new_regular_expression new_regular_expression
new_regular_expression_alike =
    bind (plain_object_alike (open_entries_like regular_expression_keys) neither) (λ v u _ _ top. plain_object_alike (more (entries_like {key = codes "lastIndex"} (fixed_like {writable = true} (numbers (Whole (pos 0))))) no_more) (both top))

pub pass_function_alike : {w : World} (node : Node) (c : Contexts w) → Alike w Objects (pass_function node (first c)) (pass_function node (second c))
pass_function_alike node c =
    bind (new_prototype_alike neither) (λ v u _ _ place. new_object_alike (function_object_like (prototype_entries_like true place) neither (passed_like (closures_like {node = node} {sort = Plain} {keys = []} (scopes_up u c.scopes) neither))))

parent_from_kept : {w : World} {v v' : Value} → Like w v v' → Keeps w MaybeObjects (parent_from v) (parent_from v')
parent_from_kept (owns p) = give_kept (both p)
parent_from_kept (hosts n) = outside_kept
parent_from_kept (errors k) = outside_kept
parent_from_kept _ = give_kept neither

pub prototype_for_kept : {w : World} {a b : ℕ} → Objects w a b → Keeps w MaybeObjects (prototype_for a) (prototype_for b)
prototype_for_kept p = kept_bind (prototype_property_kept p) (λ _ _ v. parent_from_kept v)
