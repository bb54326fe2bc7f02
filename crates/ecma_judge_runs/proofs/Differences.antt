-- What is told of Numbers with a minus, of differences and quotients, and of `&` and `|` of truths.
use Rattle.std.proofs.Common.{◌≡◌, refl, sym, ap, ap₂, ◌∙◌, subst, Option, Some, None, Bool, true, false, not, ◌&&◌, ◌||◌, if◌then◌else◌}
use Rattle.std.specs.Option.{option_map}
use Rattle.std.specs.Prelude.{ℕ, bit_and, bit_or}
use Rattle.ecma_number.specs.Arithmetic.{unary_minus_of, difference_of, quotient_of}
use Rattle.ecma_number.specs.Bits.{bitwise}
use Rattle.ecma_number.specs.Equality.{are_equal}
use Rattle.ecma_number.specs.JsNumber.{is_nan, is_infinite, is_zero}
use Rattle.ecma_number.specs.Types.{is_pure}
use Rattle.ecma_number.specs.Value.{conjunction_of, disjunction_of}
use Rattle.ecma_number.specs.declared.js_number.JsNumber.{JsNumber}
use Rattle.ecma_number.specs.declared.types.JsType.{JsType}
use Rattle.ecma_number.specs.declared.types.JsType.TheVariants as js_type
use Rattle.ecma_number.specs.declared.types.Purity.{Purity}
use Rattle.ecma_number.specs.declared.types.Purity.TheVariants.{MayBeImpure, Pure}
use Rattle.ecma_number.specs.declared.value.Value.{Value as KnownOr}
use Rattle.ecma_number.specs.declared.value.Value.TheVariants.{Known, Unknown}
use Rattle.ecma_judge.specs.Truths.{number_truth, negated_truth, difference_truth, quotient_truth, is_bool, if_bools}
use Rattle.ecma_runs.specs.Values.{Value, Truth, Number, truth_of}
use Rattle.ecma_runs.specs.Run.{given}
use Rattle.ecma_runs.specs.Operators.{both, total, number_from}
use Rattle.ecma_judge_runs.specs.Known.{HasTruth, HasNumber, HasType}
use Rattle.ecma_judge_runs.proofs.Giving.{GivesBy, mapped_by, outside_gives}
use Rattle.ecma_judge_runs.proofs.Arithmetic.{minus_nothing, difference_nothing, bit_of, and_bits, or_bits}
use Rattle.ecma_judge_runs.proofs.Quotients.{quotient_nothing}
use Rattle.ecma_judge_runs.proofs.Values.{number_is_true, some_same}

pub pure_number : (p : Purity) (k : KnownOr JsNumber) (v : Value) → HasNumber k v → HasNumber (if is_pure p then k else Unknown) v
pure_number Pure k v h = h
pure_number MayBeImpure k v h = tt

-- a minus changes no truth
pub minus_truth : (k : KnownOr JsNumber) (v : Value) → HasNumber k v → (a : JsNumber) → number_from v ≡ Some a → HasTruth (negated_truth k) (Number (unary_minus_of a))
minus_truth (Known m) v h a is = number_is_true (unary_minus_of a) ∙ (ap not (minus_nothing a) ∙ ap number_truth (h a is))
minus_truth Unknown v h a is = tt

-- a difference of two known Numbers

pub difference_fits : (k l : KnownOr JsNumber) (v w : Value) → HasNumber k v → HasNumber l w → (a b r : JsNumber) → number_from v ≡ Some a → number_from w ≡ Some b → difference_of a b ≡ Some r
    → HasTruth (difference_truth k l) (Number r)
difference_fits (Known m) (Known n) v w h g a b r p q is =
    number_is_true r ∙ (ap not (difference_nothing a b r is) ∙ ap₂ (λ y z. not (are_equal y z || is_nan y || is_nan z)) (h a p) (g b q))
difference_fits (Known m) Unknown v w h g a b r p q is = tt
difference_fits Unknown (Known n) v w h g a b r p q is = tt
difference_fits Unknown Unknown v w h g a b r p q is = tt

-- and a quotient of two

pub quotient_fits : (k l : KnownOr JsNumber) (v w : Value) → HasNumber k v → HasNumber l w → (a b r : JsNumber) → number_from v ≡ Some a → number_from w ≡ Some b → quotient_of a b ≡ Some r
    → HasTruth (quotient_truth k l) (Number r)
quotient_fits (Known m) (Known n) v w h g a b r p q is =
    number_is_true r ∙ (ap not (quotient_nothing a b r is) ∙ ap₂ (λ y z. not (is_nan y || is_nan z || is_zero y || is_infinite z)) (h a p) (g b q))
quotient_fits (Known m) Unknown v w h g a b r p q is = tt
quotient_fits Unknown (Known n) v w h g a b r p q is = tt
quotient_fits Unknown Unknown v w h g a b r p q is = tt

-- what two values give, where both are Numbers
pub numbers_by : (P : Value → Type 0) (f : JsNumber → JsNumber → Option JsNumber) (o p : Option JsNumber) → ((a b r : JsNumber) → o ≡ Some a → p ≡ Some b → f a b ≡ Some r → P (Number r)) → GivesBy P (given (option_map Number (both f o p)))
numbers_by P f (Some a) (Some b) h = mapped_by Number (f a b) (λ r is. h a b r refl refl is)
numbers_by P f (Some a) None h = outside_gives
numbers_by P f None p h = outside_gives

-- `&` and `|` of two truths

truth_of_type : (k : KnownOr JsType) (v : Value) → HasType k v → is_bool k ≡ true → (b : Bool) × (v ≡ Truth b)
truth_of_type (Known js_type.Bool) (Truth b) h e = (b, refl)
truth_of_type k v h e = absurd (cc)

bit_from : (b : Bool) → number_from (Truth b) ≡ Some (bit_of b)
bit_from true = refl
bit_from false = refl

bits_are : (op : ℕ → ℕ → ℕ) (a b : Bool) (r : JsNumber) → (m n : JsNumber) → number_from (Truth a) ≡ Some m → number_from (Truth b) ≡ Some n → total (bitwise op) m n ≡ Some r → bitwise op (bit_of a) (bit_of b) ≡ r
bits_are op a b r m n p q is = ap₂ (bitwise op) (some_same (bit_of a) m (sym (bit_from a) ∙ p)) (some_same (bit_of b) n (sym (bit_from b) ∙ q)) ∙ some_same (bitwise op m n) r is

twice_not : (b : Bool) → not (not b) ≡ b
twice_not true = refl
twice_not false = refl

and_known : (k l : KnownOr Bool) (a b c : Bool) → c ≡ (a && b) → HasTruth k (Truth a) → HasTruth l (Truth b) → HasTruth (conjunction_of k l) (Truth c)
and_known (Known false) l a b c e h g = rw (e, h) refl
and_known (Known true) (Known false) a b c e h g = rw (e, h, g) refl
and_known (Known true) (Known true) a b c e h g = rw (e, h, g) refl
and_known (Known true) Unknown a b c e h g = tt
and_known Unknown (Known false) true b c e h g = e ∙ g
and_known Unknown (Known false) false b c e h g = e
and_known Unknown (Known true) a b c e h g = tt
and_known Unknown Unknown a b c e h g = tt

or_known : (k l : KnownOr Bool) (a b c : Bool) → c ≡ (a || b) → HasTruth k (Truth a) → HasTruth l (Truth b) → HasTruth (disjunction_of k l) (Truth c)
or_known (Known true) l a b c e h g = rw (e, h) refl
or_known (Known false) (Known true) a b c e h g = rw (e, h, g) refl
or_known (Known false) (Known false) a b c e h g = rw (e, h, g) refl
or_known (Known false) Unknown a b c e h g = tt
or_known Unknown (Known true) true b c e h g = e
or_known Unknown (Known true) false b c e h g = e ∙ g
or_known Unknown (Known false) a b c e h g = tt
or_known Unknown Unknown a b c e h g = tt

if_both : (p q : Bool) (known : KnownOr Bool) (v : Value) → (p ≡ true → q ≡ true → HasTruth known v) → HasTruth (if_bools (p && q) known) v
if_both true true known v h = h refl refl
if_both true false known v h = tt
if_both false q known v h = tt

as_truth_of : (known : KnownOr Bool) (v : Value) → HasTruth known (Truth (truth_of v)) → HasTruth known v
as_truth_of (Known b) v h = h
as_truth_of Unknown v h = tt

module _ (s t : KnownOr JsType) (k l : KnownOr Bool) (v w : Value) (hs : HasType s v) (ht : HasType t w) (hk : HasTruth k v) (hl : HasTruth l w) where
  and_at : (a b : Bool) → v ≡ Truth a → w ≡ Truth b → (m n r : JsNumber) → number_from v ≡ Some m → number_from w ≡ Some n → total (bitwise bit_and) m n ≡ Some r → HasTruth (conjunction_of k l) (Number r)
  and_at a b p q m n r pm qn is =
      let bits = bits_are bit_and a b r m n (sym (ap number_from p) ∙ pm) (sym (ap number_from q) ∙ qn) is in
      let c : truth_of (Number r) ≡ (a && b) = number_is_true r ∙ (ap number_truth (sym bits) ∙ (ap not (and_bits a b) ∙ twice_not (a && b))) in
      as_truth_of (conjunction_of k l) (Number r) (and_known k l a b (truth_of (Number r)) c (subst (HasTruth k) p hk) (subst (HasTruth l) q hl))

  or_at : (a b : Bool) → v ≡ Truth a → w ≡ Truth b → (m n r : JsNumber) → number_from v ≡ Some m → number_from w ≡ Some n → total (bitwise bit_or) m n ≡ Some r → HasTruth (disjunction_of k l) (Number r)
  or_at a b p q m n r pm qn is =
      let bits = bits_are bit_or a b r m n (sym (ap number_from p) ∙ pm) (sym (ap number_from q) ∙ qn) is in
      let c : truth_of (Number r) ≡ (a || b) = number_is_true r ∙ (ap number_truth (sym bits) ∙ (ap not (or_bits a b) ∙ twice_not (a || b))) in
      as_truth_of (disjunction_of k l) (Number r) (or_known k l a b (truth_of (Number r)) c (subst (HasTruth k) p hk) (subst (HasTruth l) q hl))

  pub and_fits_bits : (m n r : JsNumber) → number_from v ≡ Some m → number_from w ≡ Some n → total (bitwise bit_and) m n ≡ Some r → HasTruth (if_bools (is_bool s && is_bool t) (conjunction_of k l)) (Number r)
  and_fits_bits m n r pm qn is =
      if_both (is_bool s) (is_bool t) (conjunction_of k l) (Number r)
      (λ p q. let a = truth_of_type s v hs p in let b = truth_of_type t w ht q in and_at a.0 b.0 a.1 b.1 m n r pm qn is)

  pub or_fits_bits : (m n r : JsNumber) → number_from v ≡ Some m → number_from w ≡ Some n → total (bitwise bit_or) m n ≡ Some r → HasTruth (if_bools (is_bool s && is_bool t) (disjunction_of k l)) (Number r)
  or_fits_bits m n r pm qn is =
      if_both (is_bool s) (is_bool t) (disjunction_of k l) (Number r)
      (λ p q. let a = truth_of_type s v hs p in let b = truth_of_type t w ht q in or_at a.0 b.0 a.1 b.1 m n r pm qn is)
