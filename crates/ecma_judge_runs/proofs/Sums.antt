-- What sums and joined texts give.
use Rattle.std.proofs.Common.{◌≡◌, refl, sym, subst, ℕ, List, [], ◌∷◌, ◌++◌, Option, Some, None, Bool, true, false, ◌&&◌, ◌||◌, if◌then◌else◌}
use Rattle.ecma_number.specs.declared.types.JsType.{JsType}
use Rattle.ecma_number.specs.declared.types.JsType.TheVariants as js_type
use Rattle.ecma_number.specs.declared.value.Value.{Value as KnownOr}
use Rattle.ecma_number.specs.declared.value.Value.TheVariants.{Known, Unknown}
use Rattle.ecma_number.specs.Arithmetic.{sum_of}
use Rattle.ecma_number.specs.Types.{casted_to_number_on_add}
use Rattle.ecma_judge.specs.Types.{is_str, added_type}
use Rattle.ecma_runs.specs.Values.{Value, Undefined, Null, Truth, Number, Text, Own, Host, Error, truth_of}
use Rattle.ecma_runs.specs.Run.{given}
use Rattle.ecma_runs.specs.Operators.{both, number_from, text_from, joined, added}
use Rattle.ecma_judge_runs.specs.Known.{HasTruth, is_of_type, HasType}
use Rattle.ecma_judge_runs.proofs.Giving.{GivesBy, mapped_gives, any_gives, give_gives, outside_gives}
use Rattle.ecma_judge_runs.proofs.Values.{some_same, is_added, casted_is_added, text_of_type, sum_gives}

-- a text with something in it
abbrev pub Filled : Value → Type 0
Filled v = (c : ℕ) × (cs : List ℕ) × (v ≡ Text (c ∷ cs))

pub filled_value : (v : Value) → is_of_type js_type.Str v ≡ true → truth_of v ≡ true → Filled v
filled_value (Text (c ∷ cs)) p q = (c, cs, refl)
filled_value (Text []) p q = absurd (cc)
filled_value v p q = absurd (cc)

joined_by : (P : Value → Type 0) (o p : Option (List ℕ)) → ((t u : List ℕ) → o ≡ Some t → p ≡ Some u → P (Text (t ++ u))) → GivesBy P (given (both (λ a b. Some (Text (a ++ b))) o p))
joined_by P (Some t) (Some u) h = give_gives (Text (t ++ u)) (h t u refl refl)
joined_by P (Some t) None h = outside_gives
joined_by P None p h = outside_gives

joined_gives : (P : Value → Type 0) (v w : Value) → ((t u : List ℕ) → text_from v ≡ Some t → text_from w ≡ Some u → P (Text (t ++ u))) → GivesBy P (given (joined v w))
joined_gives P v w h = joined_by P (text_from v) (text_from w) h

added_text : (v : Value) (t : List ℕ) → added v (Text t) ≡ joined v (Text t)
added_text Undefined t = refl
added_text Null t = refl
added_text (Truth b) t = refl
added_text (Number n) t = refl
added_text (Text u) t = refl
added_text (Own place) t = refl
added_text (Host number) t = refl
added_text (Error error_kind) t = refl

filled_behind : (t : List ℕ) (c : ℕ) (cs : List ℕ) → truth_of (Text (t ++ c ∷ cs)) ≡ true
filled_behind [] c cs = refl
filled_behind (x ∷ t) c cs = refl

module _ (v w : Value) where
  -- a sum with a filled text is one
  pub filled_sum : (f g : Bool) → (f ≡ true → Filled v) → (g ≡ true → Filled w) → GivesBy (HasTruth (if f || g then Known true else Unknown)) (given (added v w))
  filled_sum true g left right =
      let l = left refl in
      subst (λ z. GivesBy (HasTruth (Known true)) (given (added z w))) (sym l.2)
      (joined_gives (HasTruth (Known true)) (Text (l.0 ∷ l.1)) w (λ t u is is'. subst (λ z. truth_of (Text (z ++ u)) ≡ true) (some_same (l.0 ∷ l.1) t is) refl))
  filled_sum false true left right =
      let r = right refl in
      subst (λ z. GivesBy (HasTruth (Known true)) (given (added v z))) (sym r.2)
      (subst (λ o. GivesBy (HasTruth (Known true)) (given o)) (sym (added_text v (r.0 ∷ r.1)))
      (joined_gives (HasTruth (Known true)) v (Text (r.0 ∷ r.1)) (λ t u is is'. subst (λ z. truth_of (Text (t ++ z)) ≡ true) (some_same (r.0 ∷ r.1) u is') (filled_behind t r.0 r.1))))
  filled_sum false false left right = any_gives (λ u. tt)

  text_sum_left : (t : List ℕ) → v ≡ Text t → GivesBy (HasType (Known js_type.Str)) (given (added v w))
  text_sum_left t is = subst (λ z. GivesBy (HasType (Known js_type.Str)) (given (added z w))) (sym is) (joined_gives (HasType (Known js_type.Str)) (Text t) w (λ a b p q. refl))

  text_sum_right : (t : List ℕ) → w ≡ Text t → GivesBy (HasType (Known js_type.Str)) (given (added v w))
  text_sum_right t is =
      subst (λ z. GivesBy (HasType (Known js_type.Str)) (given (added v z))) (sym is)
      (subst (λ o. GivesBy (HasType (Known js_type.Str)) (given o)) (sym (added_text v t)) (joined_gives (HasType (Known js_type.Str)) v (Text t) (λ a b p q. refl)))

  number_sum : is_added v ≡ true → is_added w ≡ true → GivesBy (HasType (Known js_type.Num)) (given (added v w))
  number_sum p q = subst (λ o. GivesBy (HasType (Known js_type.Num)) (given o)) (sym (sum_gives v w p q)) (mapped_gives Number (both sum_of (number_from v) (number_from w)) (λ n. refl))

  module _ (l r : KnownOr JsType) (p : HasType l v) (q : HasType r w) where
    sum_by : (a b c d : Bool) → is_str l ≡ a → is_str r ≡ b → casted_to_number_on_add l ≡ c → casted_to_number_on_add r ≡ d
        → GivesBy (HasType (if a || b then Known js_type.Str else if c && d then Known js_type.Num else Unknown)) (given (added v w))
    sum_by true b c d is is' isc isd = let t = text_of_type l v p is in text_sum_left t.0 t.1
    sum_by false true c d is is' isc isd = let t = text_of_type r w q is' in text_sum_right t.0 t.1
    sum_by false false true true is is' isc isd = number_sum (casted_is_added l v p isc) (casted_is_added r w q isd)
    sum_by false false true false is is' isc isd = any_gives (λ u. tt)
    sum_by false false false d is is' isc isd = any_gives (λ u. tt)

    -- a sum has the type that is told of it
    pub typed_sum : GivesBy (HasType (added_type l r)) (given (added v w))
    typed_sum = sum_by (is_str l) (is_str r) (casted_to_number_on_add l) (casted_to_number_on_add r) refl refl refl refl
