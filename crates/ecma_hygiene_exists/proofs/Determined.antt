-- Each text that is got is determined.
use Rattle.std.proofs.Common.{◌≡◌, inl, inr, ℕ, ◌<◌, Bool, true, false, cond, List, [], ◌∷◌, ◌++◌, refl, sym, ap, ap₂, ◌∙◌, subst}
use Rattle.std.specs.Fmt.{decimal}
use Rattle.std.proofs.lemmas.Bool.{cases_order}
use Rattle.ecma_hygiene.specs.declared.naming.Named.{Named}
use Rattle.ecma_hygiene.specs.declared.sight.Meeting.{Meeting}
use Rattle.ecma_hygiene.specs.declared.sight.Sight.{Sight}
use Rattle.ecma_hygiene.specs.Ids.{Id}
use Rattle.ecma_hygiene.specs.Renamed.{renamed}
use Rattle.ecma_hygiene.specs.Texts.{AreTexts, GetTexts, Had, IsNumbered, changing_bindings, had_with, new_bindings, rule, source_has, text_in, with_text}
use Rattle.ecma_hygiene.proofs.Telling.{true-false}
use Rattle.ecma_hygiene_exists.specs.Laws.{FinalTextsAreUnique}

module _ (had : Had) (text : List ℕ) where
  no-smaller : (a b : List ℕ) (m : IsNumbered had text a) (n : IsNumbered had text b) → m.number < n.number → ⊥
  no-smaller a b m n less = true-false (n.least m.number m.positive less) (ap had (sym m.is) ∙ m.none_has)

  numbered-same : (a b : List ℕ) → IsNumbered had text a → IsNumbered had text b → a ≡ b
  numbered-same a b m n =
      elim (cases_order m.number n.number) [
        | inl same ↦ m.is ∙ ap (λ (k : ℕ). text ++ decimal k) same ∙ sym n.is
        | inr other ↦ elim other [ inl less ↦ absurd (no-smaller a b m n less) | inr more ↦ absurd (no-smaller b a n m more) ]
      ]

  based-same : (taken : Bool) (a b : List ℕ) → cond taken (IsNumbered had text a) (a ≡ text) → cond taken (IsNumbered had text b) (b ≡ text) → a ≡ b
  based-same true a b m n = numbered-same a b m n
  based-same false a b m n = m ∙ sym n

  rule-same : (may_keep : Bool) (a b : List ℕ) → rule may_keep had text a → rule may_keep had text b → a ≡ b
  rule-same true a b m n = based-same (had text) a b m n
  rule-same false a b m n = numbered-same a b m n

module _ (may_keep : Bool) where
  gets-same : (had : Had) (ids : List Id) (a b : List Named) → GetTexts may_keep had ids a → GetTexts may_keep had ids b → a ≡ b
  gets-same had [] [] [] m n = refl
  gets-same had [] [] (y ∷ ys) m n = absurd n
  gets-same had [] (x ∷ xs) b m n = absurd m
  gets-same had (id ∷ ids) [] b m n = absurd m
  gets-same had (id ∷ ids) (x ∷ xs) [] m n = absurd n
  gets-same had (id ∷ ids) (x ∷ xs) (y ∷ ys) m n =
      let of_id : x.id ≡ y.id = m.0 ∙ sym n.0 in
      let of_text : x.text ≡ y.text = rule-same had id.0 may_keep x.text y.text m.1 n.1 in
      let one : x ≡ y = (λ j. record { id = of_id j; text = of_text j }) in
      let rest : xs ≡ ys = gets-same (with_text x.text had) ids xs ys m.2 (subst (λ (t : List ℕ). GetTexts may_keep (with_text t had) ids ys) (sym of_text) n.2) in
      (λ j. one j ∷ rest j)

texts-same : (seen : List Sight) (met : List Meeting) (a b : List Named) → AreTexts seen met a → AreTexts seen met b → a ≡ b
texts-same seen met a b m n =
    let new : m.new ≡ n.new = gets-same true (source_has seen) (new_bindings seen) m.new n.new m.of_new n.of_new in
    let changed : m.changed ≡ n.changed =
    gets-same false (had_with m.new (source_has seen)) (changing_bindings seen met) m.changed n.changed m.of_changed
    (subst (λ (ns : List Named). GetTexts false (had_with ns (source_has seen)) (changing_bindings seen met) n.changed) (sym new) n.of_changed) in
    m.are ∙ ap₂ (λ (x y : List Named). x ++ y) new changed ∙ sym n.are

pub texts-are-unique : FinalTextsAreUnique
texts-are-unique tree a b m n = m.is ∙ ap (λ (ns : List Named). renamed (text_in ns) tree) (texts-same _ _ m.names n.names m.texts n.texts) ∙ sym n.is
