-- Members of values are read, set, deleted and tested alike.
use Rattle.std.proofs.Common.{◌≡◌, refl, sym, ap₂, subst, ℕ, zero, suc, ◌<◌, ◌||◌, List, length, Option, None, true, false, codes, slice_get, arith}
use Rattle.std.proofs.lemmas.Option.{slice_get_within}
use Rattle.ecma_runs.specs.declared.observation.Event.TheVariants as event
use Rattle.ecma_runs.specs.declared.shown.ErrorKind.TheVariants as error
use Rattle.ecma_runs.specs.Values.{Value, Truth, Text, length_of}
use Rattle.ecma_runs.specs.State.{Property, Extent, Ordinary, Array, ArgumentList, Object, State}
use Rattle.ecma_runs.specs.Run.{◌>>=◌, give}
use Rattle.ecma_runs.specs.Objects.{Base, Calling, change_entries, object_at, without_entry}
use Rattle.ecma_runs.specs.Members.{got, text_member, member, written, put_over, put_on, set_by, set_member, super_member, set_super_member, delete_own, delete_member, is_there, has_member, is_place, is_above, inherits, prototype_value, prototype_property, instance_by, instance_of_function, instance_of_calling, instance_of, type_by, type_of}
use Rattle.ecma_run_places.specs.Worlds.{no_more, more, Maybe, neither, both, Paired, World, Same, is, Objects, Like, undefineds, nulls, truths, numbers, texts, owns, hosts, errors, data_like, fixed_like, accessors_like, open_like, IsBelow, States}
use Rattle.ecma_run_places.specs.Alike.{Alike, LikeBase, calls_like, Contexts, first, second}
use Rattle.ecma_run_places.proofs.Combinators.{done_here, Keeps, keeps_alike, kept_bind, kept_bind_same, here_bind, bind, give_kept, throw_kept, outside_kept, give_alike, throw_alike, outside_alike, when_kept, given_same}
use Rattle.ecma_run_places.proofs.Host.{show_kept, use_host_kept}
use Rattle.ecma_run_places.proofs.Objects.{of_objects, functions_like, bound_functions_like, MaybeCalling, calling_at_kept, MaybeProperty, own_property_at_kept, extent_at_kept, found_from_kept, found_from_base_kept, prototype_of, same_is, PutAlike, put_element_kept, change_entries_kept, without_entry_like}

-- ---- reading

pub got_alike : {w : World} (c : Contexts w) {r r' : Value} → Like w r r' → {o o' : Option Property} → MaybeProperty w o o' → Alike w Like (got (first c) r o) (got (second c) r' o')
got_alike c r neither = give_alike undefineds
got_alike c r (both (data_like q)) = give_alike q
got_alike c r (both (fixed_like q)) = give_alike q
got_alike c r (both (accessors_like (both g) s)) = c.alike.invoke g (calls_like r) no_more
got_alike c r (both (accessors_like neither s)) = give_alike undefineds
got_alike c r (both open_like) = outside_alike

text_member_kept : {w : World} (text key : List ℕ) → Keeps w Like (text_member text key) (text_member text key)
text_member_kept text key = when_kept refl (kept_bind_same (given_same (length_of text)) (λ n. give_kept (numbers n))) outside_kept

pub member_alike : {w : World} (c : Contexts w) {v v' : Value} → Like w v v' → (key : List ℕ) → Alike w Like (member (first c) v key) (member (second c) v' key)
member_alike c undefineds key = throw_alike (errors error.Kind)
member_alike c nulls key = throw_alike (errors error.Kind)
member_alike c (truths b) key = outside_alike
member_alike c (numbers n) key = outside_alike
member_alike c (texts t) key = keeps_alike (text_member_kept t key)
member_alike c (owns p) key = here_bind (found_from_kept p key) (λ _ _ q. got_alike c (owns p) q)
member_alike c (hosts n) key = keeps_alike (use_host_kept (event.HostGet n key))
member_alike c (errors k) key = outside_alike

-- ---- setting

written_like : {w : World} {v v' : Value} → Like w v v' → PutAlike w (written v) (written v')
written_like q _ _ neither = data_like q
written_like q _ _ (both (data_like r)) = data_like q
written_like q _ _ (both (fixed_like r)) = fixed_like q
written_like q _ _ (both (accessors_like g s)) = data_like q
written_like q _ _ (both open_like) = data_like q

put_over_kept : {w : World} {a b : ℕ} → Objects w a b → (key : List ℕ) {v v' : Value} → Like w v v' → {o o' : Option Property} → MaybeProperty w o o' → Keeps w Same (put_over a key v o) (put_over b key v' o')
put_over_kept p key q neither = kept_bind_same (extent_at_kept p) (λ extent. put_element_kept p extent key _ _ (written_like q))
put_over_kept p key q (both (data_like r)) = kept_bind_same (extent_at_kept p) (λ extent. put_element_kept p extent key _ _ (written_like q))
put_over_kept p key q (both (fixed_like {writable = true} r)) = kept_bind_same (extent_at_kept p) (λ extent. put_element_kept p extent key _ _ (written_like q))
put_over_kept p key q (both (fixed_like {writable = false} r)) = throw_kept (errors error.Kind)
put_over_kept p key q (both (accessors_like g s)) = throw_kept (errors error.Kind)
put_over_kept p key q (both open_like) = outside_kept

put_on_kept : {w : World} {r r' : Value} → Like w r r' → (key : List ℕ) {v v' : Value} → Like w v v' → Keeps w Same (put_on r key v) (put_on r' key v')
put_on_kept (owns p) key q = kept_bind (own_property_at_kept p key) (λ _ _ o. put_over_kept p key q o)
put_on_kept _ key q = outside_kept

set_by_alike : {w : World} (c : Contexts w) (key : List ℕ) {r r' : Value} → Like w r r' → {v v' : Value} → Like w v v' → {o o' : Option Property} → MaybeProperty w o o'
    → Alike w Same (set_by (first c) key r v o) (set_by (second c) key r' v' o')
set_by_alike c key r q (both (accessors_like g (both s))) = bind (c.alike.invoke s (calls_like r) (more q no_more)) (λ v u _ _ z. give_alike is)
set_by_alike c key r q (both (accessors_like g neither)) = throw_alike (errors error.Kind)
set_by_alike c key r q (both (fixed_like {writable = false} o)) = throw_alike (errors error.Kind)
set_by_alike c key r q (both (fixed_like {writable = true} o)) = keeps_alike (put_on_kept r key q)
set_by_alike c key r q (both open_like) = outside_alike
set_by_alike c key r q (both (data_like o)) = keeps_alike (put_on_kept r key q)
set_by_alike c key r q neither = keeps_alike (put_on_kept r key q)

pub set_member_alike : {w : World} (c : Contexts w) {o o' : Value} → Like w o o' → (key : List ℕ) {v v' : Value} → Like w v v' → Alike w Same (set_member (first c) o key v) (set_member (second c) o' key v')
set_member_alike c (owns p) key q = here_bind (found_from_kept p key) (λ _ _ o. set_by_alike c key (owns p) q o)
set_member_alike c (hosts n) key q = keeps_alike (kept_bind_same (show_kept _ _ q) (λ w. kept_bind (use_host_kept (event.HostSet n key w)) (λ _ _ z. give_kept is)))
set_member_alike c _ key q = outside_alike

-- ---- `super` members

pub super_member_alike : {w : World} (c : Contexts w) {r r' : Value} → Like w r r' → {b b' : Base} → LikeBase w b b' → (key : List ℕ)
    → Alike w Like (super_member (first c) r b key) (super_member (second c) r' b' key)
super_member_alike c r b key = here_bind (found_from_base_kept b key) (λ _ _ o. got_alike c r o)

pub set_super_member_alike : {w : World} (c : Contexts w) {r r' : Value} → Like w r r' → {b b' : Base} → LikeBase w b b' → (key : List ℕ) {v v' : Value} → Like w v v'
    → Alike w Same (set_super_member (first c) r b key v) (set_super_member (second c) r' b' key v')
set_super_member_alike c (owns p) b key q = here_bind (found_from_base_kept b key) (λ _ _ o. set_by_alike c key (owns p) q o)
set_super_member_alike c _ b key q = outside_alike

-- ---- deleting

delete_there : {w : World} {a b : ℕ} → Objects w a b → (key : List ℕ)
    → Keeps w Like (change_entries a (without_entry key) >>= λ _. give (Truth true)) (change_entries b (without_entry key) >>= λ _. give (Truth true))
delete_there p key = kept_bind_same (change_entries_kept p (without_entry key) (without_entry key) (without_entry_like key)) (λ _. give_kept (truths true))

delete_own_kept : {w : World} {a b : ℕ} → Objects w a b → (key : List ℕ) {o o' : Option Property} → MaybeProperty w o o' → (extent : Extent)
    → Keeps w Like (delete_own a key o extent) (delete_own b key o' extent)
delete_own_kept p key (both (fixed_like q)) (ArgumentList n) = outside_kept
delete_own_kept p key (both (fixed_like q)) Ordinary = throw_kept (errors error.Kind)
delete_own_kept p key (both (fixed_like q)) (Array n) = throw_kept (errors error.Kind)
delete_own_kept p key (both open_like) extent = outside_kept
delete_own_kept p key (both (data_like q)) extent = delete_there p key
delete_own_kept p key (both (accessors_like g s)) extent = delete_there p key
delete_own_kept p key neither extent = when_kept refl outside_kept (give_kept (truths true))

pub delete_member_kept : {w : World} {v v' : Value} → Like w v v' → (key : List ℕ) → Keeps w Like (delete_member v key) (delete_member v' key)
delete_member_kept (owns p) key = kept_bind (own_property_at_kept p key) (λ _ _ o. kept_bind_same (extent_at_kept p) (λ extent. delete_own_kept p key o extent))
delete_member_kept _ key = outside_kept

-- ---- `in` and `instanceof`

is_there_kept : {w : World} {o o' : Option Property} → MaybeProperty w o o' → Keeps w Like (is_there o) (is_there o')
is_there_kept neither = give_kept (truths false)
is_there_kept (both (data_like q)) = give_kept (truths true)
is_there_kept (both (fixed_like q)) = give_kept (truths true)
is_there_kept (both (accessors_like g s)) = give_kept (truths true)
is_there_kept (both open_like) = outside_kept

pub has_member_kept : {w : World} {v v' : Value} → Like w v v' → (key : List ℕ) → Keeps w Like (has_member v key) (has_member v' key)
has_member_kept (owns p) key = kept_bind (found_from_kept p key) (λ _ _ o. is_there_kept o)
has_member_kept _ key = outside_kept

is_place_same : (w : World) {a b : ℕ} → Objects w a b → {o o' : Option ℕ} → Maybe (Objects w) o o' → is_place b o' ≡ is_place a o
is_place_same w p neither = refl
is_place_same w {a} {b} p (both {a = c} {a' = d} q) = sym (w.objects_apart a b c d p q)

nothing_above : (objects objects' : List Object) (a b n n' : ℕ) → is_above objects' b n' None ≡ is_above objects a n None
nothing_above objects objects' a b zero zero = refl
nothing_above objects objects' a b zero (suc n') = refl
nothing_above objects objects' a b (suc n) zero = refl
nothing_above objects objects' a b (suc n) (suc n') = refl

module _ {w : World} {s s' : State} (st : States w s s') {p p' : ℕ} (prototype : Objects w p p') where
  above_prototype : (a b n n' : ℕ) → a < suc n → b < suc n' → {o o' : Option ℕ} → Maybe (Objects w) o o' → IsBelow a o → IsBelow b o'
      → ((c d : ℕ) → Paired w.objects c d → c < n → d < n' → is_above s'.objects p' n' (slice_get s'.objects d) ≡ is_above s.objects p n (slice_get s.objects c))
      → is_above s'.objects p' n' (object_at s'.objects o') ≡ is_above s.objects p n (object_at s.objects o)
  above_prototype a b n n' le le' neither below below' rest = nothing_above s.objects s'.objects p p' n n'
  above_prototype a b n n' le le' (both {a = c} {a' = d} q) below below' rest = rest c d q (omega (arith, le, below)) (omega (arith, le', below'))

  is_above_same : (n n' a b : ℕ) → Paired w.objects a b → a < n → b < n' → is_above s'.objects p' n' (slice_get s'.objects b) ≡ is_above s.objects p n (slice_get s.objects a)
  is_above_same zero n' a b q le le' = absurd (omega (arith, le))
  is_above_same (suc n) zero a b q le le' = absurd (omega (arith, le'))
  is_above_same (suc n) (suc n') a b q le le' =
      of_objects (λ o o'. is_above s'.objects p' (suc n') o' ≡ is_above s.objects p (suc n) o) st q
      (λ o o' l. ap₂ (λ x y. x || y) (is_place_same w prototype (prototype_of l.like))
      (above_prototype a b n n' le le' (prototype_of l.like) l.below l.below' (λ c d r lt lt'. is_above_same n n' c d r lt lt')))

  inherits_same : {a b : ℕ} → Objects w a b → is_above s'.objects p' (suc (length s'.objects)) (slice_get s'.objects b) ≡ is_above s.objects p (suc (length s.objects)) (slice_get s.objects a)
  inherits_same {a} {b} q =
      let e = st.objects a b q in
      let le : a < length s.objects = slice_get_within s.objects a e.first e.is_first in
      let le' : b < length s'.objects = slice_get_within s'.objects b e.second e.is_second in
      is_above_same (suc (length s.objects)) (suc (length s'.objects)) a b q (omega (arith, le)) (omega (arith, le'))

inherits_kept : {w : World} {a b p p' : ℕ} → Objects w a b → Objects w p p' → Keeps w Same (inherits a p) (inherits b p')
inherits_kept q p = record { at = λ st. done_here st (same_is (inherits_same st p q)) }

prototype_value_kept : {w : World} {o o' : Option Property} → MaybeProperty w o o' → Keeps w Like (prototype_value o) (prototype_value o')
prototype_value_kept neither = give_kept undefineds
prototype_value_kept (both (data_like q)) = give_kept q
prototype_value_kept (both (fixed_like q)) = give_kept q
prototype_value_kept (both (accessors_like g s)) = outside_kept
prototype_value_kept (both open_like) = outside_kept

pub prototype_property_kept : {w : World} {a b : ℕ} → Objects w a b → Keeps w Like (prototype_property a) (prototype_property b)
prototype_property_kept p = kept_bind (found_from_kept p (codes "prototype")) (λ _ _ o. prototype_value_kept o)

instance_by_kept : {w : World} {a b : ℕ} → Objects w a b → {v v' : Value} → Like w v v' → Keeps w Like (instance_by a v) (instance_by b v')
instance_by_kept p (owns q) = kept_bind_same (inherits_kept p q) (λ b. give_kept (truths b))
instance_by_kept p (hosts n) = outside_kept
instance_by_kept p (errors k) = outside_kept
instance_by_kept p _ = throw_kept (errors error.Kind)

instance_of_function_kept : {w : World} {v v' : Value} → Like w v v' → {a b : ℕ} → Objects w a b → Keeps w Like (instance_of_function v a) (instance_of_function v' b)
instance_of_function_kept (owns p) f = kept_bind (prototype_property_kept f) (λ _ _ q. instance_by_kept p q)
instance_of_function_kept (hosts n) f = outside_kept
instance_of_function_kept (errors k) f = outside_kept
instance_of_function_kept _ f = give_kept (truths false)

instance_of_calling_kept : {w : World} {v v' : Value} → Like w v v' → {a b : ℕ} → Objects w a b → {o o' : Option Calling} → MaybeCalling w o o'
    → Keeps w Like (instance_of_calling v a o) (instance_of_calling v' b o')
instance_of_calling_kept q p neither = throw_kept (errors error.Kind)
instance_of_calling_kept q p (both functions_like) = instance_of_function_kept q p
instance_of_calling_kept q p (both (bound_functions_like t r rs)) = instance_of_function_kept q t

pub instance_of_kept : {w : World} {v v' : Value} → Like w v v' → {u u' : Value} → Like w u u' → Keeps w Like (instance_of v u) (instance_of v' u')
instance_of_kept q (owns p) = kept_bind (calling_at_kept p) (λ _ _ o. instance_of_calling_kept q p o)
instance_of_kept q (hosts n) = outside_kept
instance_of_kept q (errors k) = outside_kept
instance_of_kept q _ = throw_kept (errors error.Kind)

type_by_same : {w : World} {o o' : Option Calling} → MaybeCalling w o o' → type_by o' ≡ type_by o
type_by_same neither = refl
type_by_same (both q) = refl

texts_same : {w : World} {t t' : List ℕ} → t' ≡ t → Like w (Text t) (Text t')
texts_same {w} {t} e = subst (λ z. Like w (Text t) (Text z)) (sym e) (texts t)

pub type_of_kept : {w : World} {v v' : Value} → Like w v v' → Keeps w Like (type_of v) (type_of v')
type_of_kept undefineds = give_kept (texts _)
type_of_kept nulls = give_kept (texts _)
type_of_kept (truths b) = give_kept (texts _)
type_of_kept (numbers n) = give_kept (texts _)
type_of_kept (texts t) = give_kept (texts _)
type_of_kept (owns p) = kept_bind (calling_at_kept p) (λ _ _ o. give_kept (texts_same (type_by_same o)))
type_of_kept (hosts n) = outside_kept
type_of_kept (errors k) = outside_kept
