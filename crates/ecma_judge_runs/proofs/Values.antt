-- What is known of values that are given.
use Rattle.std.proofs.Common.{◌≡◌, refl, sym, ap, ◌∙◌, ℕ, List, Option, Some, None, Bool, true, false, not, ◌||◌, if◌then◌else◌}
use Rattle.ecma_number.specs.declared.js_number.JsNumber.{JsNumber}
use Rattle.ecma_number.specs.declared.types.JsType.{JsType}
use Rattle.ecma_number.specs.declared.types.JsType.TheVariants as js_type
use Rattle.ecma_number.specs.declared.types.Purity.{Purity}
use Rattle.ecma_number.specs.declared.types.Purity.TheVariants.{MayBeImpure, Pure}
use Rattle.ecma_number.specs.declared.value.Value.{Value as KnownOr}
use Rattle.ecma_number.specs.declared.value.Value.TheVariants.{Known, Unknown}
use Rattle.ecma_number.specs.Arithmetic.{sum_of}
use Rattle.ecma_number.specs.JsNumber.{is_nan, is_zero}
use Rattle.ecma_number.specs.StringToNumber.{text_number_of}
use Rattle.ecma_number.specs.Types.{is_pure, casted_to_number_on_add}
use Rattle.ecma_number.specs.Value.{logical_not}
use Rattle.ecma_judge.specs.Truths.{number_truth, or_truth, and_truth}
use Rattle.ecma_judge.specs.Numbers.{bool_number, array_number, not_number_by}
use Rattle.ecma_judge.specs.Texts.{bool_text, known_bool_text, void_text}
use Rattle.ecma_judge.specs.Types.{same_type, common_type, is_str}
use Rattle.ecma_runs.specs.Values.{Value, Undefined, Null, Truth, Number, Text, Own, truth_of}
use Rattle.ecma_runs.specs.Operators.{if_known, computed, added}
use Rattle.ecma_judge_runs.specs.Known.{HasTruth, HasNumber, HasText, is_of_type, HasType}

abbrev or_given : {A : Type 0} → A → Option A → A
or_given a None = a
or_given a (Some b) = b

pub some_same : {A : Type 0} (a b : A) → Some a ≡ Some b → a ≡ b
some_same a b h = ap (λ o. or_given a o) h

-- ---- truths

different : (b : Bool) → b ≡ true → b ≡ false → ⊥
different true p q = cc
different false p q = cc

or_swap : (a b : Bool) → (a || b) ≡ (b || a)
or_swap true true = refl
or_swap true false = refl
or_swap false true = refl
or_swap false false = refl

pub number_is_true : (n : JsNumber) → truth_of (Number n) ≡ number_truth n
number_is_true n = ap not (or_swap (is_zero n) (is_nan n))

pub not_truth : (k : KnownOr Bool) (v : Value) → HasTruth k v → HasTruth (logical_not k) (Truth (not (truth_of v)))
not_truth (Known truth) v h = ap not h
not_truth Unknown v h = tt

pub pure_truth : (p : Purity) (k : KnownOr Bool) (v : Value) → HasTruth k v → HasTruth (if is_pure p then k else Unknown) v
pure_truth Pure k v h = h
pure_truth MayBeImpure k v h = tt

pub or_left : (p q : Purity) (k l : KnownOr Bool) (v : Value) → HasTruth k v → truth_of v ≡ true → HasTruth (or_truth (p, k) (q, l)).1 v
or_left p q (Known true) l v h is = is
or_left p q (Known false) (Known true) v h is = is
or_left p q (Known false) (Known false) v h is = tt
or_left p q (Known false) Unknown v h is = tt
or_left p q Unknown (Known true) v h is = is
or_left p q Unknown (Known false) v h is = tt
or_left p q Unknown Unknown v h is = tt

pub or_right : (p q : Purity) (k l : KnownOr Bool) (v w : Value) → HasTruth k v → truth_of v ≡ false → HasTruth l w → HasTruth (or_truth (p, k) (q, l)).1 w
or_right p q (Known true) l v w h is h' = absurd (different (truth_of v) h is)
or_right p q (Known false) (Known true) v w h is h' = h'
or_right p q (Known false) (Known false) v w h is h' = tt
or_right p q (Known false) Unknown v w h is h' = tt
or_right p q Unknown (Known true) v w h is h' = h'
or_right p q Unknown (Known false) v w h is h' = tt
or_right p q Unknown Unknown v w h is h' = tt

pub and_left : (p q : Purity) (k l : KnownOr Bool) (v : Value) → HasTruth k v → truth_of v ≡ false → HasTruth (and_truth (p, k) (q, l)).1 v
and_left p q (Known false) l v h is = is
and_left p q (Known true) (Known false) v h is = is
and_left p q (Known true) (Known true) v h is = tt
and_left p q (Known true) Unknown v h is = tt
and_left p q Unknown (Known false) v h is = is
and_left p q Unknown (Known true) v h is = tt
and_left p q Unknown Unknown v h is = tt

pub and_right : (p q : Purity) (k l : KnownOr Bool) (v w : Value) → HasTruth k v → truth_of v ≡ true → HasTruth l w → HasTruth (and_truth (p, k) (q, l)).1 w
and_right p q (Known false) l v w h is h' = absurd (different (truth_of v) is h)
and_right p q (Known true) (Known false) v w h is h' = h'
and_right p q (Known true) (Known true) v w h is h' = tt
and_right p q (Known true) Unknown v w h is h' = tt
and_right p q Unknown (Known false) v w h is h' = h'
and_right p q Unknown (Known true) v w h is h' = tt
and_right p q Unknown Unknown v w h is h' = tt

-- ---- numbers and texts

pub text_has_number : (t : List ℕ) (k : KnownOr JsNumber) → text_number_of t ≡ k → HasNumber k (Text t)
text_has_number t (Known m) is = λ n e. let same : Some m ≡ Some n = ap if_known (sym is) ∙ e in sym (some_same m n same)
text_has_number t Unknown is = tt

pub number_is : (m : JsNumber) → HasNumber (Known m) (Number m)
number_is m = λ n e. sym (some_same m n e)

pub bool_has_number : (b : Bool) → HasNumber (Known (bool_number b)) (Truth b)
bool_has_number true = λ n e. sym (some_same (bool_number true) n e)
bool_has_number false = λ n e. sym (some_same (bool_number false) n e)

pub not_has_number : (k : KnownOr Bool) (v : Value) → HasTruth k v → HasNumber (not_number_by k).1 (Truth (not (truth_of v)))
not_has_number (Known truth) v h = rw h (bool_has_number (not truth))
not_has_number Unknown v h = tt

none_is : {A : Type 0} (a : A) → None ≡ Some a → ⊥
none_is a e = cc

pub own_has_number : (k : KnownOr JsNumber) (place : ℕ) → HasNumber k (Own place)
own_has_number (Known m) place = λ n e. absurd (none_is n e)
own_has_number Unknown place = tt

pub array_has_number : (p : Purity) (k : KnownOr (List ℕ)) (place : ℕ) → HasNumber (array_number p k).1 (Own place)
array_has_number p (Known text) place = own_has_number (text_number_of text) place
array_has_number p Unknown place = tt

pub own_has_text : (k : KnownOr (List ℕ)) (place : ℕ) → HasText k (Own place)
own_has_text (Known m) place = λ t e. absurd (none_is t e)
own_has_text Unknown place = tt

pub text_is : (t : List ℕ) → HasText (Known t) (Text t)
text_is t = λ u e. sym (some_same t u e)

pub bool_has_text : (b : Bool) → HasText (Known (bool_text b)) (Truth b)
bool_has_text true = λ u e. sym (some_same (bool_text true) u e)
bool_has_text false = λ u e. sym (some_same (bool_text false) u e)

pub not_has_text : (k : KnownOr Bool) (v : Value) → HasTruth k v → HasText (known_bool_text (logical_not k)) (Truth (not (truth_of v)))
not_has_text (Known truth) v h = rw h (bool_has_text (not truth))
not_has_text Unknown v h = tt

pub void_has_text : (p : Purity) → HasText (void_text p) Undefined
void_has_text Pure = λ u e. sym (some_same _ u e)
void_has_text MayBeImpure = tt

-- ---- types

same_type-is : (a b : JsType) → same_type a b ≡ true → a ≡ b
same_type-is js_type.Undefined js_type.Undefined e = refl
same_type-is js_type.Null js_type.Null e = refl
same_type-is js_type.Bool js_type.Bool e = refl
same_type-is js_type.Str js_type.Str e = refl
same_type-is js_type.Symbol js_type.Symbol e = refl
same_type-is js_type.Num js_type.Num e = refl
same_type-is js_type.Obj js_type.Obj e = refl
same_type-is a b e = absurd (cc)

if_type : (b : Bool) (type : JsType) (v : Value) → (b ≡ true → is_of_type type v ≡ true) → HasType (if b then Known type else Unknown) v
if_type true type v h = h refl
if_type false type v h = tt

pub common_left : (k l : KnownOr JsType) (v : Value) → HasType k v → HasType (common_type k l) v
common_left (Known a) (Known b) v h = if_type (same_type a b) a v (λ same. h)
common_left (Known a) Unknown v h = tt
common_left Unknown (Known b) v h = tt
common_left Unknown Unknown v h = tt

pub common_right : (k l : KnownOr JsType) (v : Value) → HasType l v → HasType (common_type k l) v
common_right (Known a) (Known b) v h = if_type (same_type a b) a v (λ same. ap (λ t. is_of_type t v) (same_type-is a b same) ∙ h)
common_right (Known a) Unknown v h = tt
common_right Unknown (Known b) v h = tt
common_right Unknown Unknown v h = tt

-- a value of a type that is added as a Number
abbrev pub is_added : Value → Bool
is_added Undefined = true
is_added Null = true
is_added (Truth truth) = true
is_added (Number number) = true
is_added v = false

pub casted_is_added : (k : KnownOr JsType) (v : Value) → HasType k v → casted_to_number_on_add k ≡ true → is_added v ≡ true
casted_is_added (Known js_type.Undefined) Undefined h e = refl
casted_is_added (Known js_type.Null) Null h e = refl
casted_is_added (Known js_type.Bool) (Truth truth) h e = refl
casted_is_added (Known js_type.Num) (Number number) h e = refl
casted_is_added k v h e = absurd (cc)

pub text_of_type : (k : KnownOr JsType) (v : Value) → HasType k v → is_str k ≡ true → (t : List ℕ) × (v ≡ Text t)
text_of_type (Known js_type.Str) (Text t) h e = (t, refl)
text_of_type k v h e = absurd (cc)

-- a sum of two that are added as Numbers is one
pub sum_gives : (v w : Value) → is_added v ≡ true → is_added w ≡ true → added v w ≡ computed sum_of v w
sum_gives Undefined Undefined p q = refl
sum_gives Undefined Null p q = refl
sum_gives Undefined (Truth b) p q = refl
sum_gives Undefined (Number n) p q = refl
sum_gives Null Undefined p q = refl
sum_gives Null Null p q = refl
sum_gives Null (Truth b) p q = refl
sum_gives Null (Number n) p q = refl
sum_gives (Truth a) Undefined p q = refl
sum_gives (Truth a) Null p q = refl
sum_gives (Truth a) (Truth b) p q = refl
sum_gives (Truth a) (Number n) p q = refl
sum_gives (Number m) Undefined p q = refl
sum_gives (Number m) Null p q = refl
sum_gives (Number m) (Truth b) p q = refl
sum_gives (Number m) (Number n) p q = refl
sum_gives v w p q = absurd (cc)
