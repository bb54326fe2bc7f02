-- What the words of the grammar read at a place of a text.
use Rattle.std.proofs.Common.{◌≡◌, ◌≢◌, length-drop, ◌∙◌, sym, ap, refl, ℕ, suc, ◌+◌, ◌*◌, ◌^◌, ◌≤◌, ◌<◌, Bool, true, false, ◌&&◌, eqb, List, [], ◌∷◌, length, drop, get_or, Option, Some, None, inl, inr, arith}
use Rattle.std.specs.Char.{digit_value, is_digit}
use Rattle.std.proofs.lemmas.Bool.{cases_lt, eqb-true, false≢true}
use Rattle.std.proofs.Math.Nat.{pow-suc, pow-zero}
use Rattle.std.proofs.lemmas.Bool.Decides.{nat_tests}
use Rattle.std.proofs.lemmas.List.{at_drop_more, at_drop_all, drop-drop}
use Rattle.ecma_number.specs.declared.numerals.NumeralForm.{NumeralForm}
use Rattle.ecma_number.specs.DigitRun.{Reads, ReadsTo}
use Rattle.ecma_number.specs.Numeral.{Reading, Digits, begins, code_point, has_separators, maybe, more_digits, no_digits, pure, sign, then_read, whole_text, with_digit, ◌>>◌}

-- what is read is what the production reads
pub reads_some : {T A : Type 0} (holds : T → A → Type 0) (text : List ℕ) (read : T × ℕ) (o : Option (A × List ℕ)) → Reads holds text (Some read) o → (exact : A) × (o ≡ Some (exact, drop read.1 text)) × holds read.0 exact × (read.1 ≤ length text)
reads_some holds text read (Some exact) r = (exact.0, ap (λ rest. Some (exact.0, rest)) r.1, r.0, r.2)
reads_some holds text read None r = absurd r

pub reads_none : {T A : Type 0} (holds : T → A → Type 0) (text : List ℕ) (o : Option (A × List ℕ)) → Reads holds text None o → o ≡ None
reads_none holds text (Some exact) r = absurd r
reads_none holds text None r = refl

behind_here : {A : Type 0} (passes : ℕ → Bool) (read : Reading A) (l : List ℕ) → begins passes l ≡ true → (passes >> read) l ≡ read (drop 1 l)
behind_here passes read [] h = absurd (false≢true h)
behind_here passes read (first ∷ others) h = rw h refl

-- behind a character that passes, and where none does
pub behind_read : {A : Type 0} (passes : ℕ → Bool) (read : Reading A) (text : List ℕ) (at : ℕ) → begins passes (drop at text) ≡ true → (passes >> read) (drop at text) ≡ read (drop (at + 1) text)
behind_read passes read text at h = behind_here passes read (drop at text) h ∙ ap read (drop-drop 1 at text)

pub behind_none : {A : Type 0} (passes : ℕ → Bool) (read : Reading A) (l : List ℕ) → begins passes l ≡ false → (passes >> read) l ≡ None
behind_none passes read [] h = refl
behind_none passes read (first ∷ others) h = rw h refl

pub begins_within : (passes : ℕ → Bool) (text : List ℕ) (at : ℕ) → begins passes (drop at text) ≡ true → at + 1 ≤ length text
begins_within passes text at h = elim (cases_lt at (length text)) [
  | inl within ↦ omega arith
  | inr past ↦ absurd (false≢true (sym (at_drop_all (begins passes) text at past) ∙ h))
]

-- a sign
pub plus_read : (text : List ℕ) (at : ℕ) → begins (code_point 43) (drop at text) ≡ true → maybe false sign (drop at text) ≡ Some (false, drop (at + 1) text)
plus_read text at h = let plus = behind_read (code_point 43) (pure false) text at h in rw plus refl

no_plus : (l : List ℕ) → begins (code_point 45) l ≡ true → begins (code_point 43) l ≡ false
no_plus [] h = refl
no_plus (first ∷ others) h = let minus : first ≡ 45 = eqb-true first 45 h in rw minus refl

pub minus_read : (text : List ℕ) (at : ℕ) → begins (code_point 45) (drop at text) ≡ true → maybe false sign (drop at text) ≡ Some (true, drop (at + 1) text)
minus_read text at h =
    let plus = behind_none (code_point 43) (pure false) (drop at text) (no_plus (drop at text) h) in
    let minus = behind_read (code_point 45) (pure true) text at h in
    rw (plus, minus) refl

-- the next of more digits, a separator, and where they end
pub more-digit : (form : NumeralForm) (radix : ℕ) (here : Digits) (text : List ℕ) (i code digit : ℕ) → i < length text → code ≡ get_or text i 0 → digit_value code < radix → digit ≡ digit_value code → more_digits form radix here (drop i text) ≡ more_digits form radix (record { mv = here.mv * radix + digit; count = here.count + 1 }) (drop (i + 1) text)
more-digit form radix here text i code digit within is below read =
    let below_here : digit_value (get_or text i 0) < radix = rw (← is) below in
    let passes : is_digit (get_or text i 0) radix ≡ true = grind (arith, nat_tests) in
    at_drop_more (more_digits form radix here) text i 0 within ∙ rw (passes, read, is) refl

pub more-separator : (form : NumeralForm) (radix : ℕ) (here : Digits) (text : List ℕ) (i code : ℕ) → i < length text → code ≡ get_or text i 0 → radix ≤ digit_value code → (has_separators form && (eqb (get_or text i 0) 95 && begins (λ next. is_digit next radix) (drop (i + 1) text))) ≡ true → more_digits form radix here (drop i text) ≡ more_digits form radix here (drop (i + 1) text)
more-separator form radix here text i code within is above test =
    let above_here : radix ≤ digit_value (get_or text i 0) = rw (← is) above in
    let fails : is_digit (get_or text i 0) radix ≡ false = grind (arith, nat_tests) in
    at_drop_more (more_digits form radix here) text i 0 within ∙ rw (fails, test) refl

pub more-stops : (form : NumeralForm) (radix : ℕ) (here : Digits) (text : List ℕ) (i code : ℕ) → i < length text → code ≡ get_or text i 0 → radix ≤ digit_value code → (has_separators form && (eqb (get_or text i 0) 95 && begins (λ next. is_digit next radix) (drop (i + 1) text))) ≡ false → more_digits form radix here (drop i text) ≡ (here, drop i text)
more-stops form radix here text i code within is above test =
    let above_here : radix ≤ digit_value (get_or text i 0) = rw (← is) above in
    let fails : is_digit (get_or text i 0) radix ≡ false = grind (arith, nat_tests) in
    at_drop_more (more_digits form radix here) text i 0 within ∙ rw (fails, test) (ap (λ l. (here, l)) (sym (at_drop_more (λ l. l) text i 0 within)))

pub more-end : (form : NumeralForm) (radix : ℕ) (here : Digits) (text : List ℕ) (i : ℕ) → length text ≤ i → more_digits form radix here (drop i text) ≡ (here, drop i text)
more-end form radix here text i past = at_drop_all (λ l. more_digits form radix here l) text i past ∙ ap (λ l. (here, l)) (sym (at_drop_all (λ l. l) text i past))

-- a value that is made of another, and the place alone
pub reads_map : {T A B : Type 0} (holds : T → A → Type 0) (holds_made : T → B → Type 0) (made : A → B) (text : List ℕ) (r : Option (T × ℕ)) (o : Option (A × List ℕ)) → ((t : T) (a : A) → holds t a → holds_made t (made a)) → Reads holds text r o → Reads holds_made text r (then_read (λ a. pure (made a)) o)
reads_map holds holds_made made text None None makes h = tt
reads_map holds holds_made made text (Some r) (Some o) makes h = (makes r.0 o.0 h.0, h.1, h.2)
reads_map holds holds_made made text None (Some o) makes h = absurd h
reads_map holds holds_made made text (Some r) None makes h = absurd h

pub reads_some_to : {A : Type 0} (text : List ℕ) (end : ℕ) (o : Option (A × List ℕ)) → ReadsTo text (Some end) o → (exact : A) × (o ≡ Some (exact, drop end text)) × (end ≤ length text)
reads_some_to text end (Some exact) r = (exact.0, ap (λ rest. Some (exact.0, rest)) r.0, r.1)
reads_some_to text end None r = absurd r

pub reads_none_to : {A : Type 0} (text : List ℕ) (o : Option (A × List ℕ)) → ReadsTo text None o → o ≡ None
reads_none_to text (Some exact) r = absurd r
reads_none_to text None r = refl

grown : (value power mv digit radix : ℕ) → (value * power + mv) * radix + digit ≡ value * (power * radix) + (mv * radix + digit)
grown value power mv digit radix = omega arith

abbrev Behind : NumeralForm → ℕ → ℕ → Digits → List ℕ → Type 0
Behind form radix value here rest = more_digits form radix (record { mv = value * radix ^ here.count + here.mv; count = here.count }) rest ≡ (let read = more_digits form radix here rest in (record { mv = value * radix ^ read.0.count + read.0.mv; count = read.0.count }, read.1))

-- digits that are read behind others have these in front of their value
pub more-behind : (form : NumeralForm) (radix value : ℕ) (before : Digits) (text : List ℕ) → Behind form radix value before text
more-behind form radix value before [] = refl
more-behind form radix value before (first ∷ others) = go (is_digit first radix) (has_separators form && (eqb first 95 && begins (λ next. is_digit next radix) others)) refl refl (more-behind form radix value (with_digit radix before first) others) (more-behind form radix value before others)
  where
    go : (a b : Bool) → is_digit first radix ≡ a → (has_separators form && (eqb first 95 && begins (λ next. is_digit next radix) others)) ≡ b → Behind form radix value (with_digit radix before first) others → Behind form radix value before others → Behind form radix value before (first ∷ others)
    go true b d s with_it without =
        let up : before.count + 1 ≡ suc before.count = omega arith in
        let power : radix ^ (before.count + 1) ≡ radix ^ before.count * radix = rw up (pow-suc radix before.count) in
        let one : (value * radix ^ before.count + before.mv) * radix + digit_value first ≡ value * radix ^ (before.count + 1) + (before.mv * radix + digit_value first) = rw power (grown value (radix ^ before.count) before.mv (digit_value first) radix) in
        rw d (ap (λ mv. more_digits form radix (record { mv = mv; count = before.count + 1 }) others) one ∙ with_it)
    go false true d s with_it without = rw (d, s) without
    go false false d s with_it without = rw (d, s) refl

pub more-from : (form : NumeralForm) (radix value : ℕ) (text : List ℕ) → more_digits form radix (record { mv = value; count = 0 }) text ≡ (let read = more_digits form radix no_digits text in (record { mv = value * radix ^ read.0.count + read.0.mv; count = read.0.count }, read.1))
more-from form radix value text =
    let start : value * radix ^ 0 + 0 ≡ value = rw (pow-zero radix) (omega arith) in
    ap (λ mv. more_digits form radix (record { mv = mv; count = 0 }) text) (sym start) ∙ more-behind form radix value no_digits text

-- a production that leaves something, or that does not stand, is not the whole text
pub part_of_text : {A : Type 0} (read : Reading A) (text : List ℕ) (exact : A) (end : ℕ) → read text ≡ Some (exact, drop end text) → end ≤ length text → end ≢ length text → whole_text read text ≡ None
part_of_text read text exact end is within part =
    let left : eqb (length (drop end text)) 0 ≡ false = rw (length-drop end text) (grind (arith, nat_tests)) in
    rw (is, left) refl

pub no_text : {A : Type 0} (read : Reading A) (text : List ℕ) → read text ≡ None → whole_text read text ≡ None
no_text read text none = rw none refl
