-- What refers to no free name is read under `typeof` as it is read elsewhere.
use Rattle.std.proofs.Common.{◌≡◌, refl, sym, ap, subst, ℕ, List, [], ◌∷◌, Option, Some, None, Bool, true, false, ◌&&◌, bytes_eq, codes}
use Rattle.ecma_kind.specs.declared.kind.Kind.{Kind}
use Rattle.ecma_kind.specs.declared.kind.Kind.TheVariants as kind
use Rattle.ecma_tree.specs.declared.node.Node.{Node}
use Rattle.ecma_runs.specs.Values.{Value, Undefined, Own, is_nullish}
use Rattle.ecma_runs.specs.State.{State}
use Rattle.ecma_runs.specs.Run.{Stop, Outcome, Done, Thrown, Returned, Broken, Continued, Ended, Run, then_outcome, ◌>>=◌, give, outside, when, given, catching}
use Rattle.ecma_runs.specs.Environment.{Reference, ToMember, ToSuper, ToImportMeta, ToMetaMember, ToValue, activation}
use Rattle.ecma_runs.specs.Meaning.{ExecutionContext, Evaluation, Meaning}
use Rattle.ecma_runs.specs.Enums.{Reading, Unknown, Constant, Expected, reading, is_data}
use Rattle.ecma_runs.specs.Objects.{found_from, super_base}
use Rattle.ecma_runs.specs.Functions.{read, read_object, read_typed, callee_by, call}
use Rattle.ecma_runs.specs.Expressions.{chained, continued, callee_is_nullish, expected, known_reference, member_of, member_reference, read_member, super_reference, member_link, call_link, link_of}
use Rattle.ecma_run_places.specs.Worlds.{World, States}
use Rattle.ecma_extract_runs.proofs.Leading.{Led, Leads}

pub data Bounded : Outcome Reference → Type 0 where
  bounded : {r : Reference} {t : State} → ((x : ExecutionContext) → read_typed x r ≡ read x r) → Bounded (Done r t)
  bounded_thrown : {e : Value} {t : State} → Bounded (Thrown e t)
  bounded_returned : {e : Value} {t : State} → Bounded (Returned e t)
  bounded_broken : {t : State} → Bounded (Broken t)
  bounded_continued : {t : State} → Bounded (Continued t)
  bounded_end : {why : Stop} {t : State} → Bounded (Ended why t)

pub record IsBound (m : Run Reference) : Type 0 where
  pub at : (s : State) → Bounded (m s)

bounded_on : {A : Type 0} {k : A → Run Reference} → ((a : A) → IsBound (k a)) → (r : Outcome A) → Bounded (then_outcome r k)
bounded_on h (Done a s) = (h a).at s
bounded_on h (Thrown v s) = bounded_thrown
bounded_on h (Returned v s) = bounded_returned
bounded_on h (Broken s) = bounded_broken
bounded_on h (Continued s) = bounded_continued
bounded_on h (Ended why s) = bounded_end

bound_bind : {A : Type 0} (m : Run A) {k : A → Run Reference} → ((a : A) → IsBound (k a)) → IsBound (m >>= k)
bound_bind m h = record { at = λ s. bounded_on h (m s) }

nested_on : {A B : Type 0} (k : A → Run B) (l : B → Run Reference) → ((a : A) → IsBound (k a >>= l)) → (r : Outcome A) → Bounded (then_outcome (then_outcome r k) l)
nested_on k l h (Done a s) = (h a).at s
nested_on k l h (Thrown v s) = bounded_thrown
nested_on k l h (Returned v s) = bounded_returned
nested_on k l h (Broken s) = bounded_broken
nested_on k l h (Continued s) = bounded_continued
nested_on k l h (Ended why s) = bounded_end

bound_nested : {A B : Type 0} (m : Run A) (k : A → Run B) (l : B → Run Reference) → ((a : A) → IsBound (k a >>= l)) → IsBound ((m >>= k) >>= l)
bound_nested m k l h = record { at = λ s. nested_on k l h (m s) }

bound_to : (r : Reference) → ((x : ExecutionContext) → read_typed x r ≡ read x r) → IsBound (give r)
bound_to r h = record { at = λ s. bounded {r = r} {t = s} h }

pub bound_outside : IsBound outside
bound_outside = record { at = λ s. bounded_end }

-- ---- members

meta_bound : (b : Bool) (v : Value) → IsBound (when b (give (ToMetaMember v)) outside)
meta_bound true v = bound_to (ToMetaMember v) (λ x. refl)
meta_bound false v = bound_outside

value_bound : (b : Bool) (v : Value) → IsBound (when b (give (ToValue v)) outside)
value_bound true v = bound_to (ToValue v) (λ x. refl)
value_bound false v = bound_outside

member_of_bound : (x : ExecutionContext) (r : Reference) (key : Run (List ℕ)) → IsBound (member_of x r key)
member_of_bound x ToImportMeta key = bound_bind key (λ k. meta_bound (bytes_eq k (codes "url")) _)
member_of_bound x r key = bound_bind (read_object x r) (λ o. bound_bind key (λ k. bound_to (ToMember o k) (λ x. refl)))

pub member_bound : (object key : Meaning) (x : ExecutionContext) → IsBound (member_reference object key x)
member_bound object key x = bound_bind (object.reference x) (λ r. member_of_bound x r (key.key x))

expected_bound : (v : Value) (r : Reference) → IsBound (expected v r)
expected_bound v (ToMember (Own place) key) = bound_bind (found_from place key) (λ p. value_bound (is_data v p) v)
expected_bound v _ = bound_outside

known_bound : (reading : Reading) (e : Evaluation Reference) (x : ExecutionContext) → IsBound (e x) → IsBound (known_reference reading e x)
known_bound Unknown e x h = h
known_bound (Constant v) e x h = bound_to (ToValue v) (λ x. refl)
known_bound (Expected v) e x h = bound_bind (catching (e x) (λ thrown. outside)) (λ r. expected_bound v r)

pub read_bound : (n : Node) (object key : Meaning) (x : ExecutionContext) → IsBound (read_member n object key x)
read_bound n object key x = known_bound (reading x.known.enums n) (member_reference object key) x (member_bound object key x)

pub super_bound : (key : Meaning) (x : ExecutionContext) → IsBound (super_reference key x)
super_bound key x =
    bound_bind (activation x.scope) (λ a. bound_bind (given a.1.this) (λ receiver. bound_bind (key.key x) (λ k.
    bound_bind (given a.1.home) (λ home. bound_bind (super_base home) (λ base. bound_to (ToSuper receiver base k) (λ x. refl))))))

-- ---- chains

abbrev ended : Option Reference → Run Reference
ended o = give (chained o)

member_link_bound : (b : Bool) (v : Value) (key : Run (List ℕ)) → IsBound (when b (give None) (key >>= λ k. give (Some (ToMember v k))) >>= λ o. give (chained o))
member_link_bound true v key = bound_to (ToValue Undefined) (λ x. refl)
member_link_bound false v key = bound_nested key (λ k. give (Some (ToMember v k))) ended (λ k. bound_to (ToMember v k) (λ x. refl))

call_link_bound : (b : Bool) (arguments : Run (List Value)) (called : List Value → Run Value)
    → IsBound (when b (give None) (arguments >>= λ vs. called vs >>= λ v. give (Some (ToValue v))) >>= λ o. give (chained o))
call_link_bound true arguments called = bound_to (ToValue Undefined) (λ x. refl)
call_link_bound false arguments called =
    bound_nested arguments (λ vs. called vs >>= λ v. give (Some (ToValue v))) ended (λ vs. bound_nested (called vs) (λ v. give (Some (ToValue v))) ended (λ v. bound_to (ToValue v) (λ x. refl)))

continued_bound : (o : Option Reference) (next : Reference → Run (Option Reference)) → ((r : Reference) → IsBound (next r >>= λ o. give (chained o))) → IsBound (continued o next >>= λ o. give (chained o))
continued_bound None next h = bound_to (ToValue Undefined) (λ x. refl)
continued_bound (Some r) next h = h r

pub link_bound : (k : Kind) (ms : List Meaning) (optional : Bool) (x : ExecutionContext) → IsBound (link_of k ms optional x >>= λ o. give (chained o))
link_bound kind.MemberExpr (object ∷ key ∷ []) optional x =
    bound_nested (object.chain x) (λ o. continued o (λ r. read_object x r >>= λ v. member_link optional v key x)) ended (λ o. continued_bound o (λ r. read_object x r >>= λ v. member_link optional v key x) (λ r.
    bound_nested (read_object x r) (λ v. member_link optional v key x) ended (λ v. member_link_bound (optional && is_nullish v) v (key.key x))))
link_bound kind.OptCall (callee ∷ arguments ∷ types ∷ []) optional x =
    bound_nested (callee.chain x) (λ o. continued o (λ r. callee_by x r >>= λ c. call_link optional c arguments x)) ended (λ o. continued_bound o (λ r. callee_by x r >>= λ c. call_link optional c arguments x) (λ r.
    bound_nested (callee_by x r) (λ c. call_link optional c arguments x) ended (λ c. call_link_bound (optional && callee_is_nullish c) (arguments.arguments x) (λ vs. call x c vs))))
link_bound _ ms optional x = record { at = λ s. bounded_end }

-- ---- under `typeof`

read_same : (x : ExecutionContext) {r : Outcome Reference} → Bounded r → then_outcome r (λ a. read x a) ≡ then_outcome r (λ a. read_typed x a)
read_same x (bounded {r} {t} h) = ap (λ (run : Run Value). run t) (sym (h x))
read_same x bounded_thrown = refl
read_same x bounded_returned = refl
read_same x bounded_broken = refl
read_same x bounded_continued = refl
read_same x bounded_end = refl

pub typed_lead : {w : World} (x : ExecutionContext) {m : Run Reference} {m' : Run (Unit {0})} → IsBound m → Leads w (m >>= λ r. read x r) m' → Leads w (m >>= λ r. read_typed x r) m'
typed_lead {w} x {m} {m'} b h = record { at = λ st. by st }
  where
    by : {s s' : State} → States w s s' → Led w (then_outcome (m s) (λ r. read_typed x r)) (m' s')
    by {s} {s'} st = subst (λ o. Led w o (m' s')) (read_same x (b.at s)) (h.at st)
