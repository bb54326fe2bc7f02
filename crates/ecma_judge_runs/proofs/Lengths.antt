-- The length of a text literal and of an array literal is a Number.
use Rattle.std.proofs.Common.{◌≡◌, refl, sym, ap, subst, ℕ, suc, List, [], ◌∷◌, map, length, Option, Some, None, true, bytes_eq, codes, slice_get}
use Rattle.std.proofs.lemmas.Slice.Eq.{bytes_eq-Decides}
use Rattle.ecma_number.specs.declared.types.JsType.TheVariants as js_type
use Rattle.ecma_number.specs.declared.value.Value.TheVariants.{Known}
use Rattle.ecma_kind.specs.declared.kind.Kind.{Kind}
use Rattle.ecma_kind.specs.declared.kind.Kind.TheVariants as kind
use Rattle.ecma_tree.specs.declared.node.Node.{Node, out-Node}
use Rattle.ecma_judge.specs.Types.{is_length, has_length}
use Rattle.ecma_runs.specs.Values.{Value, Number, Text, Own, length_of}
use Rattle.ecma_runs.specs.State.{Array, Object, State}
use Rattle.ecma_runs.specs.Run.{Outcome, Done, Thrown, Returned, Broken, Continued, Ended, Run, then_outcome, ◌>>=◌, give, outside, given}
use Rattle.ecma_runs.specs.Environment.{Reference, ToMember, ToImportMeta, ToValue}
use Rattle.ecma_runs.specs.Meaning.{ExecutionContext}
use Rattle.ecma_runs.specs.Evaluation.{meaning_by, meaning}
use Rattle.ecma_runs.specs.Functions.{read, read_object}
use Rattle.ecma_runs.specs.Members.{got}
use Rattle.ecma_runs.specs.Objects.{no_ancestry, property_above, element_entries, new_array}
use Rattle.ecma_runs.specs.Expressions.{member_of}
use Rattle.ecma_runs.proofs.Layer.{meaning_out}
use Rattle.ecma_judge_runs.proofs.Lone.{lone}
use Rattle.ecma_judge_runs.proofs.Fronts.{last_at}
use Rattle.ecma_judge_runs.specs.Known.{HasType}
use Rattle.ecma_judge_runs.proofs.Giving.{Gave, GivesBy, bind_gives, then_gives, give_gives, outside_gives, when_gives}

-- ---- what runs give, with the state in which they give it

abbrev GaveIn : {A : Type 0} → (A → State → Type 0) → Outcome A → Type 0
GaveIn P (Done a s) = P a s
GaveIn P (Thrown v s) = Unit {0}
GaveIn P (Returned v s) = Unit {0}
GaveIn P (Broken s) = Unit {0}
GaveIn P (Continued s) = Unit {0}
GaveIn P (Ended why s) = Unit {0}

-- from the states that are R
record GivesFrom {A : Type 0} (R : State → Type 0) (P : A → State → Type 0) (m : Run A) : Type 0 where
  pub at : (s : State) → R s → GaveIn P (m s)

then_gave : {A B : Type 0} (P : A → State → Type 0) (Q : B → State → Type 0) (k : A → Run B) → ((a : A) → GivesFrom (P a) Q (k a)) → (r : Outcome A) → GaveIn P r → GaveIn Q (then_outcome r k)
then_gave P Q k h (Done a s) e = (h a).at s e
then_gave P Q k h (Thrown v s) e = tt
then_gave P Q k h (Returned v s) e = tt
then_gave P Q k h (Broken s) e = tt
then_gave P Q k h (Continued s) e = tt
then_gave P Q k h (Ended why s) e = tt

bind_from : {A B : Type 0} {R : State → Type 0} {P : A → State → Type 0} {Q : B → State → Type 0} {m : Run A} {k : A → Run B} → GivesFrom R P m → ((a : A) → GivesFrom (P a) Q (k a)) → GivesFrom R Q (m >>= k)
bind_from {P = P} {Q = Q} {m = m} {k = k} hm hk = record { at = λ s e. then_gave P Q k hk (m s) (hm.at s e) }

any_gave : {A : Type 0} (r : Outcome A) → GaveIn (λ a s. Unit {0}) r
any_gave (Done a s) = tt
any_gave (Thrown v s) = tt
any_gave (Returned v s) = tt
any_gave (Broken s) = tt
any_gave (Continued s) = tt
any_gave (Ended why s) = tt

any_from : {A : Type 0} (m : Run A) → GivesFrom (λ s. Unit {0}) (λ a s. Unit {0}) m
any_from m = record { at = λ s e. any_gave (m s) }

gave_in : {A : Type 0} (P : A → Type 0) (r : Outcome A) → GaveIn (λ a s. P a) r → Gave P r
gave_in P (Done a s) e = e
gave_in P (Thrown v s) e = tt
gave_in P (Returned v s) e = tt
gave_in P (Broken s) e = tt
gave_in P (Continued s) e = tt
gave_in P (Ended why s) e = tt

gives_from : {A : Type 0} (P : A → Type 0) (m : Run A) → GivesFrom (λ s. Unit {0}) (λ a s. P a) m → GivesBy P m
gives_from P m h = record { at = λ s. gave_in P (m s) (h.at s tt) }

-- ---- arrays

abbrev array_of : List (Option Value) → Object
array_of es = record { entries = element_entries 0 es; prototype = None; callable = None; extent = Array (length es) }

-- an array stands there
abbrev IsArrayAt : ℕ → State → Type 0
IsArrayAt place s = (es : List (Option Value)) × (slice_get s.objects place ≡ Some (array_of es))

abbrev IsNumber : Value → Type 0
IsNumber v = HasType (Known js_type.Num) v

module _ (x : ExecutionContext) where
  length_gave : (place : ℕ) (s : State) → IsArrayAt place s → GaveIn (λ v t. IsNumber v) (read (lone x) (ToMember (Own place) (codes "length")) s)
  length_gave place s h =
      subst (λ z. GaveIn (λ v t. IsNumber v) (got (lone x) (Own place) (property_above s.objects (codes "length") no_ancestry (suc (length s.objects)) z) s)) (sym h.1) refl

  array_gives : (elements : Run (List (Option Value))) (name : List ℕ) → name ≡ codes "length"
      → GivesBy IsNumber ((((elements >>= λ es. new_array es >>= λ o. give (Own o)) >>= λ v. give (ToValue v)) >>= λ r. member_of (lone x) r (give name)) >>= λ r. read (lone x) r)
  array_gives elements name same =
      subst (λ z. GivesBy IsNumber ((((elements >>= λ es. new_array es >>= λ o. give (Own o)) >>= λ v. give (ToValue v)) >>= λ r. member_of (lone x) r (give z)) >>= λ r. read (lone x) r)) (sym same)
      (gives_from IsNumber _
      (bind_from {P = λ r s. (o : ℕ) × (r ≡ ToMember (Own o) (codes "length")) × IsArrayAt o s}
      (bind_from {P = λ r s. (o : ℕ) × (r ≡ ToValue (Own o)) × IsArrayAt o s}
      (bind_from {P = λ v s. (o : ℕ) × (v ≡ Own o) × IsArrayAt o s}
      (bind_from (any_from elements) (λ es. record { at = λ s e. (length s.objects, refl, (es, last_at s.objects (array_of es))) }))
      (λ v. record { at = λ s h. (h.0, ap ToValue h.1, h.2) }))
      (λ r. record { at = λ s h. subst (λ z. GaveIn (λ r s. (o : ℕ) × (r ≡ ToMember (Own o) (codes "length")) × IsArrayAt o s) (member_of (lone x) z (give (codes "length")) s)) (sym h.1) (h.0, refl, h.2) }))
      (λ r. record { at = λ s h. subst (λ z. GaveIn (λ v t. IsNumber v) (read (lone x) z s)) (sym h.1) (length_gave h.0 s h.2) })))

  -- ---- texts: all else is open

  text_member_gives : (text key : List ℕ) → GivesBy IsNumber (read (lone x) (ToMember (Text text) key))
  text_member_gives text key = when_gives (bytes_eq key (codes "length")) (then_gives (given (length_of text)) (λ n. give_gives (Number n) refl)) outside_gives

  text_gives : (text : List ℕ) (key : Run (List ℕ)) → GivesBy IsNumber (((give (Text text) >>= λ v. give (ToValue v)) >>= λ r. member_of (lone x) r key) >>= λ r. read (lone x) r)
  text_gives text key =
      bind_gives {P = λ r. (k : List ℕ) × (r ≡ ToMember (Text text) k)} (then_gives key (λ k. give_gives (ToMember (Text text) k) (k, refl)))
      (λ r p. subst (λ z. GivesBy IsNumber (read (lone x) z)) (sym p.1) (text_member_gives text p.0))

  -- ---- by what the object and the key are

  no_member : (r : Reference) → GivesBy (λ z. ⊥) (member_of (lone x) r outside)
  no_member ToImportMeta = outside_gives
  no_member r = then_gives (read_object (lone x) r) (λ o. outside_gives)

  no_key : (object : Run Reference) → GivesBy IsNumber ((object >>= λ r. member_of (lone x) r outside) >>= λ r. read (lone x) r)
  no_key object = bind_gives {P = λ r. ⊥} (then_gives object (λ r. no_member r)) (λ r none. absurd none)

  kinds_give : (object key : Node) (k l : Kind) (os ks : List Node) → has_length k ≡ true → is_length l ≡ true
      → GivesBy IsNumber (((meaning_by object k (map meaning os)).reference (lone x) >>= λ r. member_of (lone x) r ((meaning_by key l (map meaning ks)).key (lone x))) >>= λ r. read (lone x) r)
  kinds_give object key (kind.Str text raw) l [] ks h is = text_gives text ((meaning_by key l (map meaning ks)).key (lone x))
  kinds_give object key (kind.Str text raw) l (c ∷ cs) ks h is = outside_gives
  kinds_give object key kind.ArrayLit (kind.IdentName name) (e ∷ []) [] h is = array_gives ((meaning e).elements (lone x)) name ((bytes_eq-Decides name (codes "length")).0 is)
  kinds_give object key kind.ArrayLit (kind.IdentName name) (e ∷ []) (c ∷ cs) h is = no_key ((meaning_by object kind.ArrayLit (meaning e ∷ [])).reference (lone x))
  kinds_give object key kind.ArrayLit (kind.IdentName name) [] ks h is = outside_gives
  kinds_give object key kind.ArrayLit (kind.IdentName name) (e ∷ f ∷ es) ks h is = outside_gives
  kinds_give object key k l os ks h is = absurd (cc)

  pub length_gives : (object key : Node) → has_length (out-Node object).kind ≡ true → is_length (out-Node key).kind ≡ true
      → GivesBy IsNumber (((meaning object).reference (lone x) >>= λ r. member_of (lone x) r ((meaning key).key (lone x))) >>= λ r. read (lone x) r)
  length_gives object key h is =
      subst (λ m. GivesBy IsNumber ((m.reference (lone x) >>= λ r. member_of (lone x) r ((meaning key).key (lone x))) >>= λ r. read (lone x) r)) (sym (meaning_out object))
      (subst (λ m. GivesBy IsNumber (((meaning_by object (out-Node object).kind (map meaning (out-Node object).children)).reference (lone x) >>= λ r. member_of (lone x) r (m.key (lone x))) >>= λ r. read (lone x) r)) (sym (meaning_out key))
      (kinds_give object key (out-Node object).kind (out-Node key).kind (out-Node object).children (out-Node key).children h is))
