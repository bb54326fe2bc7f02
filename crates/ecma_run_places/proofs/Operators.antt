-- Operators give the same of values that are the same but for places.
use Rattle.std.proofs.Common.{◌≡◌, refl, sym, ap, subst, ℕ, List, ◌++◌, Option, Some, None, option_map, Bool, true, false, not, nat_eq}
use Rattle.ecma_number.specs.declared.js_number.JsNumber.{JsNumber}
use Rattle.ecma_number.specs.Arithmetic.{sum_of, unary_minus_of}
use Rattle.ecma_number.specs.Bits.{complement_of}
use Rattle.ecma_kind.specs.declared.operators.BinaryOp.{BinaryOp}
use Rattle.ecma_kind.specs.declared.operators.BinaryOp.TheVariants as binary
use Rattle.ecma_kind.specs.declared.operators.UnaryOp.{UnaryOp}
use Rattle.ecma_kind.specs.declared.operators.UnaryOp.TheVariants as unary
use Rattle.ecma_runs.specs.Values.{Value, Undefined, Null, Truth, Number, Text, Own, Host, Error, truth_of, is_undefined, is_nullish}
use Rattle.ecma_runs.specs.Operators.{both, text_from, number_from, strictly_equal, loosely_equal, compared, computed, added, binary_value, short_circuit, unary_value}
use Rattle.ecma_run_places.specs.Worlds.{Maybe, neither, World, Objects, Like, undefineds, nulls, truths, numbers, texts, owns, hosts, errors}
use Rattle.ecma_run_places.specs.Worlds as like

-- ---- of one value

-- what is the same of all objects is the same
pub same_by : {w : World} {X : Type 0} (g : Value → X) → ((a b : ℕ) → g (Own b) ≡ g (Own a)) → {v v' : Value} → Like w v v' → g v' ≡ g v
same_by g h undefineds = refl
same_by g h nulls = refl
same_by g h (truths b) = refl
same_by g h (numbers n) = refl
same_by g h (texts t) = refl
same_by g h (owns p) = h _ _
same_by g h (hosts n) = refl
same_by g h (errors k) = refl

pub truth_same : {w : World} {v v' : Value} → Like w v v' → truth_of v' ≡ truth_of v
truth_same q = same_by truth_of (λ a b. refl) q

pub undefined_same : {w : World} {v v' : Value} → Like w v v' → is_undefined v' ≡ is_undefined v
undefined_same q = same_by is_undefined (λ a b. refl) q

pub nullish_same : {w : World} {v v' : Value} → Like w v v' → is_nullish v' ≡ is_nullish v
nullish_same q = same_by is_nullish (λ a b. refl) q

pub text_same : {w : World} {v v' : Value} → Like w v v' → text_from v' ≡ text_from v
text_same q = same_by text_from (λ a b. refl) q

pub number_same : {w : World} {v v' : Value} → Like w v v' → number_from v' ≡ number_from v
number_same q = same_by number_from (λ a b. refl) q

pub short_same : {w : World} (op : BinaryOp) {v v' : Value} → Like w v v' → short_circuit op v' ≡ short_circuit op v
short_same binary.LogicalAnd q = ap (λ b. Some (not b)) (truth_same q)
short_same binary.LogicalOr q = ap Some (truth_same q)
short_same binary.NullishCoalescing q = ap (λ b. Some (not b)) (nullish_same q)
short_same op q = refl

-- ---- of two values

abbrev is_own : Value → Bool
is_own (Own place) = true
is_own v = false

-- what is the same of objects that belong together, and of any object beside what is none, is the same
module _ {w : World} {X : Type 0} (f : Value → Value → X) (owns_same : (a b c d : ℕ) → nat_eq a c ≡ nat_eq b d → f (Own b) (Own d) ≡ f (Own a) (Own c))
    (left_same : (a b : ℕ) (v : Value) → is_own v ≡ false → f (Own b) v ≡ f (Own a) v) (right_same : (v : Value) → is_own v ≡ false → (a b : ℕ) → f v (Own b) ≡ f v (Own a)) where
  beside : (v : Value) → is_own v ≡ false → {u u' : Value} → Like w u u' → f v u' ≡ f v u
  beside v not_own q = same_by (f v) (right_same v not_own) q

  pub both_same : {v v' u u' : Value} → Like w v v' → Like w u u' → f v' u' ≡ f v u
  both_same (owns {a = a} {b = b} p) undefineds = left_same a b _ refl
  both_same (owns {a = a} {b = b} p) nulls = left_same a b _ refl
  both_same (owns {a = a} {b = b} p) (truths t) = left_same a b _ refl
  both_same (owns {a = a} {b = b} p) (numbers n) = left_same a b _ refl
  both_same (owns {a = a} {b = b} p) (texts t) = left_same a b _ refl
  both_same (owns {a = a} {b = b} p) (owns {a = c} {b = d} q) = owns_same a b c d (w.objects_apart a b c d p q)
  both_same (owns {a = a} {b = b} p) (hosts n) = left_same a b _ refl
  both_same (owns {a = a} {b = b} p) (errors k) = left_same a b _ refl
  both_same undefineds q = beside Undefined refl q
  both_same nulls q = beside Null refl q
  both_same (truths b) q = beside (Truth b) refl q
  both_same (numbers n) q = beside (Number n) refl q
  both_same (texts t) q = beside (Text t) refl q
  both_same (hosts n) q = beside (Host n) refl q
  both_same (errors k) q = beside (Error k) refl q

strict_owns : (a b c d : ℕ) → nat_eq a c ≡ nat_eq b d → strictly_equal (Own b) (Own d) ≡ strictly_equal (Own a) (Own c)
strict_owns a b c d e = ap Some (sym e)

strict_left : (a b : ℕ) (v : Value) → is_own v ≡ false → strictly_equal (Own b) v ≡ strictly_equal (Own a) v
strict_left a b (Own c) not_own = absurd (cc)
strict_left a b _ not_own = refl

strict_right : (v : Value) → is_own v ≡ false → (a b : ℕ) → strictly_equal v (Own b) ≡ strictly_equal v (Own a)
strict_right (Own c) not_own a b = absurd (cc)
strict_right _ not_own a b = refl

loose_owns : (a b c d : ℕ) → nat_eq a c ≡ nat_eq b d → loosely_equal (Own b) (Own d) ≡ loosely_equal (Own a) (Own c)
loose_owns a b c d e = ap Some (sym e)

loose_left : (a b : ℕ) (v : Value) → is_own v ≡ false → loosely_equal (Own b) v ≡ loosely_equal (Own a) v
loose_left a b (Own c) not_own = absurd (cc)
loose_left a b _ not_own = refl

loose_right : (v : Value) → is_own v ≡ false → (a b : ℕ) → loosely_equal v (Own b) ≡ loosely_equal v (Own a)
loose_right (Own c) not_own a b = absurd (cc)
loose_right _ not_own a b = refl

pub strict_same : {w : World} {v v' u u' : Value} → Like w v v' → Like w u u' → strictly_equal v' u' ≡ strictly_equal v u
strict_same q r = both_same strictly_equal strict_owns strict_left strict_right q r

loose_same : {w : World} {v v' u u' : Value} → Like w v v' → Like w u u' → loosely_equal v' u' ≡ loosely_equal v u
loose_same q r = both_same loosely_equal loose_owns loose_left loose_right q r

added_left : (a b : ℕ) (v : Value) → is_own v ≡ false → added (Own b) v ≡ added (Own a) v
added_left a b (Text t) not_own = refl
added_left a b _ not_own = refl

added_right : (v : Value) → is_own v ≡ false → (a b : ℕ) → added v (Own b) ≡ added v (Own a)
added_right (Text t) not_own a b = refl
added_right _ not_own a b = refl

added_same : {w : World} {v v' u u' : Value} → Like w v v' → Like w u u' → added v' u' ≡ added v u
added_same q r = both_same added (λ a b c d e. refl) added_left added_right q r

compared_left : (says : Bool → Bool) (a b : ℕ) (v : Value) → is_own v ≡ false → compared says (Own b) v ≡ compared says (Own a) v
compared_left says a b v not_own = refl

compared_right : (says : Bool → Bool) (v : Value) → is_own v ≡ false → (a b : ℕ) → compared says v (Own b) ≡ compared says v (Own a)
compared_right says (Text t) not_own a b = refl
compared_right says _ not_own a b = refl

compared_same : {w : World} (says : Bool → Bool) {v v' u u' : Value} → Like w v v' → Like w u u' → compared says v' u' ≡ compared says v u
compared_same says q r = both_same (compared says) (λ a b c d e. refl) (compared_left says) (compared_right says) q r

computed_same : {w : World} (operation : JsNumber → JsNumber → Option JsNumber) {v v' u u' : Value} → Like w v v' → Like w u u' → computed operation v' u' ≡ computed operation v u
computed_same operation q r = rw (number_same q, number_same r) refl

-- ---- what is given is no object

truths_of : {w : World} (f : Bool → Bool) (o : Option Bool) → Maybe (Like w) (option_map (λ b. Truth (f b)) o) (option_map (λ b. Truth (f b)) o)
truths_of f None = neither
truths_of f (Some b) = like.both (truths (f b))

numbers_of : {w : World} (f : JsNumber → JsNumber) (o : Option JsNumber) → Maybe (Like w) (option_map (λ n. Number (f n)) o) (option_map (λ n. Number (f n)) o)
numbers_of f None = neither
numbers_of f (Some n) = like.both (numbers (f n))

joined_of : {w : World} (a b : Option (List ℕ)) → Maybe (Like w) (both (λ x y. Some (Text (x ++ y))) a b) (both (λ x y. Some (Text (x ++ y))) a b)
joined_of None b = neither
joined_of (Some a) None = neither
joined_of (Some a) (Some b) = like.both (texts (a ++ b))

added_of : {w : World} (v u : Value) → Maybe (Like w) (added v u) (added v u)
added_of (Text a) u = joined_of (Some a) (text_from u)
added_of v (Text b) = joined_of (text_from v) (Some b)
added_of v u = numbers_of (λ n. n) (both sum_of (number_from v) (number_from u))

pub from_same : {w : World} {o o' : Option Value} → o' ≡ o → Maybe (Like w) o o → Maybe (Like w) o o'
from_same {w} {o} e q = subst (λ z. Maybe (Like w) o z) (sym e) q

computed_like : {w : World} (operation : JsNumber → JsNumber → Option JsNumber) {v v' u u' : Value} → Like w v v' → Like w u u' → Maybe (Like w) (computed operation v u) (computed operation v' u')
computed_like operation {v} {v'} {u} {u'} q r = from_same (computed_same operation q r) (numbers_of (λ n. n) (both operation (number_from v) (number_from u)))

compared_like : {w : World} (says : Bool → Bool) {v v' u u' : Value} → Like w v v' → Like w u u' → Maybe (Like w) (option_map Truth (compared says v u)) (option_map Truth (compared says v' u'))
compared_like says {v} {v'} {u} {u'} q r = from_same (ap (option_map Truth) (compared_same says q r)) (truths_of (λ b. b) (compared says v u))

pub binary_like : {w : World} (op : BinaryOp) {v v' u u' : Value} → Like w v v' → Like w u u' → Maybe (Like w) (binary_value op v u) (binary_value op v' u')
binary_like binary.EqEq {v} {v'} {u} {u'} q r = from_same (ap (option_map Truth) (loose_same q r)) (truths_of (λ b. b) (loosely_equal v u))
binary_like binary.NotEq {v} {v'} {u} {u'} q r = from_same (ap (option_map (λ b. Truth (not b))) (loose_same q r)) (truths_of not (loosely_equal v u))
binary_like binary.EqEqEq {v} {v'} {u} {u'} q r = from_same (ap (option_map Truth) (strict_same q r)) (truths_of (λ b. b) (strictly_equal v u))
binary_like binary.NotEqEq {v} {v'} {u} {u'} q r = from_same (ap (option_map (λ b. Truth (not b))) (strict_same q r)) (truths_of not (strictly_equal v u))
binary_like binary.Lt q r = compared_like _ q r
binary_like binary.LtEq q r = compared_like _ r q
binary_like binary.Gt q r = compared_like _ r q
binary_like binary.GtEq q r = compared_like _ q r
binary_like binary.LShift q r = computed_like _ q r
binary_like binary.RShift q r = computed_like _ q r
binary_like binary.ZeroFillRShift q r = computed_like _ q r
binary_like binary.Add {v} {v'} {u} {u'} q r = from_same (added_same q r) (added_of v u)
binary_like binary.Sub q r = computed_like _ q r
binary_like binary.Mul q r = computed_like _ q r
binary_like binary.Div q r = computed_like _ q r
binary_like binary.Mod q r = computed_like _ q r
binary_like binary.BitOr q r = computed_like _ q r
binary_like binary.BitXor q r = computed_like _ q r
binary_like binary.BitAnd q r = computed_like _ q r
binary_like binary.Exp q r = computed_like _ q r
binary_like op q r = neither

pub unary_like : {w : World} (op : UnaryOp) {v v' : Value} → Like w v v' → Maybe (Like w) (unary_value op v) (unary_value op v')
unary_like unary.Minus {v} {v'} q = from_same (ap (option_map (λ n. Number (unary_minus_of n))) (number_same q)) (numbers_of unary_minus_of (number_from v))
unary_like unary.Plus {v} {v'} q = from_same (ap (option_map Number) (number_same q)) (numbers_of (λ n. n) (number_from v))
unary_like unary.Bang {v} {v'} q = from_same (ap (λ b. Some (Truth (not b))) (truth_same q)) (like.both (truths (not (truth_of v))))
unary_like unary.Tilde {v} {v'} q = from_same (ap (option_map (λ n. Number (complement_of n))) (number_same q)) (numbers_of complement_of (number_from v))
unary_like unary.Void q = like.both undefineds
unary_like op q = neither
