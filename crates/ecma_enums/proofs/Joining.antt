-- The equations of texts that are put together: those so far, and what the other parts of a template add.
use Rattle.std.proofs.Common.{◌≡◌, ◌∙◌, ◌<◌, ◌≤◌, ◌⊎◌, inl, inr, ℕ, zero, suc, ◌+◌, List, [], ◌∷◌, drop, get_or, length, refl, sym, ap, append_assoc, add-one, arith}
use Rattle.std.proofs.lemmas.List.{append-nil, drop_all}
use Rattle.ecma_enums.specs.declared.folded.Folded.{Folded}
use Rattle.ecma_enums.specs.declared.folded.Folded.TheVariants.{Text, Number, Opaque, Beyond}
use Rattle.ecma_enums.specs.declared.joined.Joined.{Joined}
use Rattle.ecma_enums.specs.declared.joined.Joined.TheVariants as held
use Rattle.ecma_enums.specs.Folded.{as_text, joined, template}
use Rattle.ecma_enums.specs.Joined.{seen}

pub joined-assoc : (a b c : Folded) → joined (joined a b) c ≡ joined a (joined b c)
joined-assoc (Beyond at) b c = refl
joined-assoc (Text a) (Beyond at) c = refl
joined-assoc (Text a) (Text b) (Text c) = ap Text (append_assoc a b c)
joined-assoc (Text a) (Text b) (Number c) = refl
joined-assoc (Text a) (Text b) Opaque = refl
joined-assoc (Text a) (Text b) (Beyond at) = refl
joined-assoc (Text a) (Number b) (Text c) = refl
joined-assoc (Text a) (Number b) (Number c) = refl
joined-assoc (Text a) (Number b) Opaque = refl
joined-assoc (Text a) (Number b) (Beyond at) = refl
joined-assoc (Text a) Opaque (Text c) = refl
joined-assoc (Text a) Opaque (Number c) = refl
joined-assoc (Text a) Opaque Opaque = refl
joined-assoc (Text a) Opaque (Beyond at) = refl
joined-assoc (Number a) (Beyond at) c = refl
joined-assoc (Number a) (Text b) (Text c) = refl
joined-assoc (Number a) (Text b) (Number c) = refl
joined-assoc (Number a) (Text b) Opaque = refl
joined-assoc (Number a) (Text b) (Beyond at) = refl
joined-assoc (Number a) (Number b) (Text c) = refl
joined-assoc (Number a) (Number b) (Number c) = refl
joined-assoc (Number a) (Number b) Opaque = refl
joined-assoc (Number a) (Number b) (Beyond at) = refl
joined-assoc (Number a) Opaque (Text c) = refl
joined-assoc (Number a) Opaque (Number c) = refl
joined-assoc (Number a) Opaque Opaque = refl
joined-assoc (Number a) Opaque (Beyond at) = refl
joined-assoc Opaque (Beyond at) c = refl
joined-assoc Opaque (Text b) (Text c) = refl
joined-assoc Opaque (Text b) (Number c) = refl
joined-assoc Opaque (Text b) Opaque = refl
joined-assoc Opaque (Text b) (Beyond at) = refl
joined-assoc Opaque (Number b) (Text c) = refl
joined-assoc Opaque (Number b) (Number c) = refl
joined-assoc Opaque (Number b) Opaque = refl
joined-assoc Opaque (Number b) (Beyond at) = refl
joined-assoc Opaque Opaque (Text c) = refl
joined-assoc Opaque Opaque (Number c) = refl
joined-assoc Opaque Opaque Opaque = refl
joined-assoc Opaque Opaque (Beyond at) = refl

pub nothing-joined : (a : Folded) → joined (Text []) (as_text a) ≡ as_text a
nothing-joined (Text a) = refl
nothing-joined (Number n) = refl
nothing-joined Opaque = refl
nothing-joined (Beyond at) = refl

joined-nothing : (j : Joined) → joined (seen j) (Text []) ≡ seen j
joined-nothing (held.Text t) = ap Text (append-nil _)
joined-nothing held.Opaque = refl
joined-nothing (held.Beyond at) = refl

nothing-twice : (a b : Folded) → joined (Text []) (joined (as_text a) b) ≡ joined (as_text a) b
nothing-twice a b = sym (joined-assoc (Text []) (as_text a) b) ∙ ap (λ (s : Folded). joined s b) (nothing-joined a)

-- ---- the parts of a template from the one at i on

abbrev pub rest : List Folded → List Folded → ℕ → Folded
rest parts expressions i = template (drop i parts) (drop i expressions)

nothing-before : (ps es : List Folded) → joined (Text []) (template ps es) ≡ template ps es
unfolding template
nothing-before [] es = refl
nothing-before (p ∷ ps) [] = nothing-twice p (template ps [])
nothing-before (p ∷ ps) (e ∷ es) = nothing-twice p (joined (as_text e) (template ps es))

pub template-first : (ps es : List Folded) (j : Joined) → seen j ≡ Text [] → joined (seen j) (rest ps es 0) ≡ template ps es
template-first ps es j empty = ap (λ (s : Folded). joined s (template ps es)) empty ∙ nothing-before ps es

drop-get : (ps : List Folded) (i : ℕ) → i < length ps → drop i ps ≡ get_or ps i Opaque ∷ drop (suc i) ps
drop-get [] i within = absurd (omega (arith, within))
drop-get (p ∷ ps) zero within = refl
drop-get (p ∷ ps) (suc i) within = drop-get ps i (omega (arith, within))

rest-both : (ps es : List Folded) (i : ℕ) → i < length ps → i < length es
    → rest ps es i ≡ joined (as_text (get_or ps i Opaque)) (joined (as_text (get_or es i Opaque)) (rest ps es (suc i)))
unfolding template
rest-both ps es i in_parts in_es =
    ap (λ (qs : List Folded). template qs (drop i es)) (drop-get ps i in_parts)
    ∙ ap (template (get_or ps i Opaque ∷ drop (suc i) ps)) (drop-get es i in_es)

get-past : (es : List Folded) (i : ℕ) (d : Folded) → length es ≤ i → get_or es i d ≡ d
get-past [] i d past = refl
get-past (e ∷ es) zero d past = absurd (omega (arith, past))
get-past (e ∷ es) (suc i) d past = get-past es i d (omega (arith, past))

get-within : (es : List Folded) (i : ℕ) (c d : Folded) → i < length es → get_or es i c ≡ get_or es i d
get-within [] i c d within = absurd (omega (arith, within))
get-within (e ∷ es) zero c d within = refl
get-within (e ∷ es) (suc i) c d within = get-within es i c d (omega (arith, within))

rest-past : (ps es : List Folded) (i : ℕ) → length es ≤ i → rest ps es i ≡ template (drop i ps) []
rest-past ps es i past = ap (template (drop i ps)) (drop_all i es past)

rest-one : (ps es : List Folded) (i : ℕ) → i < length ps → length es ≤ i
    → rest ps es i ≡ joined (as_text (get_or ps i Opaque)) (rest ps es (suc i))
unfolding template
rest-one ps es i in_parts past =
    rest-past ps es i past
    ∙ ap (λ (qs : List Folded). template qs []) (drop-get ps i in_parts)
    ∙ ap (joined (as_text (get_or ps i Opaque))) (sym (rest-past ps es (suc i) (omega (arith, past))))

rest-next : (ps es : List Folded) (i : ℕ) → i < length ps → (i < length es) ⊎ (length es ≤ i)
    → rest ps es i ≡ joined (as_text (get_or ps i Opaque)) (joined (as_text (get_or es i (Text []))) (rest ps es (suc i)))
rest-next ps es i in_parts (inl in_es) =
    rest-both ps es i in_parts in_es
    ∙ ap (λ (v : Folded). joined (as_text (get_or ps i Opaque)) (joined (as_text v) (rest ps es (suc i)))) (get-within es i Opaque (Text []) in_es)
rest-next ps es i in_parts (inr past) =
    rest-one ps es i in_parts past
    ∙ ap (joined (as_text (get_or ps i Opaque))) (sym (nothing-before (drop (suc i) ps) (drop (suc i) es)))
    ∙ ap (λ (v : Folded). joined (as_text (get_or ps i Opaque)) (joined (as_text v) (rest ps es (suc i)))) (sym (get-past es i (Text []) past))

within-or-past : (i : ℕ) (es : List Folded) → (i < length es) ⊎ (length es ≤ i)
within-or-past i [] = inr (omega arith)
within-or-past zero (e ∷ es) = inl (omega arith)
within-or-past (suc i) (e ∷ es) = elim (within-or-past i es) [ inl within ↦ inl (omega (arith, within)) | inr past ↦ inr (omega (arith, past)) ]

-- a part, and what stands between it and the next, are put behind the others
pub template-next : (ps es : List Folded) (i n : ℕ) (j k l : Joined) (part value : Folded) → length ps ≡ n → i < n → part ≡ get_or ps i Opaque → value ≡ get_or es i (Text [])
    → seen k ≡ joined (seen j) (as_text part) → seen l ≡ joined (seen k) (as_text value)
    → joined (seen j) (rest ps es i) ≡ joined (seen l) (rest ps es (i + 1))
template-next ps es i n j k l part value count within is_part is_value first second =
    rw add-one
    (ap (joined (seen j)) (rest-next ps es i (omega (arith, count, within)) (within-or-past i es))
    ∙ ap (λ (v : Folded). joined (seen j) (joined (as_text v) (joined (as_text (get_or es i (Text []))) (rest ps es (suc i))))) (sym is_part)
    ∙ ap (λ (v : Folded). joined (seen j) (joined (as_text part) (joined (as_text v) (rest ps es (suc i))))) (sym is_value)
    ∙ sym (joined-assoc (seen j) (as_text part) (joined (as_text value) (rest ps es (suc i))))
    ∙ ap (λ (s : Folded). joined s (joined (as_text value) (rest ps es (suc i)))) (sym first)
    ∙ sym (joined-assoc (seen k) (as_text value) (rest ps es (suc i)))
    ∙ ap (λ (s : Folded). joined s (rest ps es (suc i))) (sym second))

-- there are no more parts
pub template-all : (ps es : List Folded) (i n : ℕ) (j : Joined) → length ps ≡ n → n ≤ i → joined (seen j) (rest ps es i) ≡ seen j
unfolding template
template-all ps es i n j count past = ap (λ (qs : List Folded). joined (seen j) (template qs (drop i es))) (drop_all i ps (omega (arith, count, past))) ∙ joined-nothing j

-- what stands behind a part of a template, where it has so many expressions
pub value-within : (es : List Folded) (i n : ℕ) (v : Folded) → length es ≡ n → i < n → v ≡ get_or es i Opaque → v ≡ get_or es i (Text [])
value-within es i n v count within is = is ∙ get-within es i Opaque (Text []) (omega (arith, count, within))

pub value-past : (es : List Folded) (i n : ℕ) → length es ≡ n → n ≤ i → Text [] ≡ get_or es i (Text [])
value-past es i n count past = sym (get-past es i (Text []) (omega (arith, count, past)))

pub ruleset joining = (nothing-joined, template-first, template-next, template-all, value-within, value-past)
