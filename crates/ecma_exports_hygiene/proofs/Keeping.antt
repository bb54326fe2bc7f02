-- A name that is not new, and does not change, keeps its text.
use Rattle.std.proofs.Common.{◌≡◌, ℕ, Bool, true, false, cond, List, [], ◌∷◌, ◌++◌, filter, Option, Some, None, refl, sym, ap, ◌∙◌, unwrap_or}
use Rattle.ecma_hygiene.specs.declared.naming.Named.{Named}
use Rattle.ecma_hygiene.specs.declared.sight.Meeting.{Meeting}
use Rattle.ecma_hygiene.specs.declared.sight.Sight.{Sight}
use Rattle.ecma_hygiene.specs.Ids.{Id, same_id}
use Rattle.ecma_hygiene.specs.Renamed.{text_of}
use Rattle.ecma_hygiene.specs.Texts.{AreTexts, GetTexts, Had, bindings, changes, changing_bindings, had_with, is_new, last_text, new_bindings, source_has, text_in, with_text}
use Rattle.ecma_hygiene.proofs.Telling.{id-same, true-false}

-- each of these ids passes a test
abbrev Pass : (Id → Bool) → List Id → Type 0
Pass f [] = Unit {0}
Pass f (id ∷ ids) = (f id ≡ true) × Pass f ids

pass-filter : (f : Id → Bool) (ids : List Id) → Pass f (filter f ids)
pass-filter f [] = tt
pass-filter f (id ∷ ids) = go (pass-filter f ids) (f id) refl
  where
    go : Pass f (filter f ids) → (b : Bool) → f id ≡ b → Pass f (cond b (id ∷ filter f ids) (filter f ids))
    go rest true e = (e, rest)
    go rest false e = rest

module _ (f : Id → Bool) (id : Id) (fails : f id ≡ false) where
  -- one that fails it gets no text
  none-got : (may_keep : Bool) (had : Had) (ids : List Id) (names : List Named) → GetTexts may_keep had ids names → Pass f ids → (before : Option (List ℕ)) → last_text names id before ≡ before
  none-got may_keep had [] [] g p before = refl
  none-got may_keep had [] (n ∷ names) g p before = absurd g
  none-got may_keep had (i ∷ ids) [] g p before = absurd g
  none-got may_keep had (i ∷ ids) (n ∷ names) g p before =
      ap (λ b. last_text names id (cond b (Some n.text) before)) (other (same_id n.id id) refl) ∙ none-got may_keep (with_text n.text had) ids names g.2 p.1 before
    where
      other : (b : Bool) → same_id n.id id ≡ b → same_id n.id id ≡ false
      other false is = is
      other true is = absurd (true-false (ap f (sym (id-same n.id id is) ∙ g.0) ∙ p.0) fails)

appended : (names others : List Named) (id : Id) (before : Option (List ℕ)) → last_text (names ++ others) id before ≡ last_text others id (last_text names id before)
appended [] others id before = refl
appended (n ∷ names) others id before = appended names others id (cond (same_id n.id id) (Some n.text) before)

pub keeps-text : (seen : List Sight) (met : List Meeting) (names : List Named) (id : Id) → AreTexts seen met names → is_new seen id ≡ false → changes seen met id ≡ false → text_of (text_in names) id ≡ id.0
keeps-text seen met names id are old stays =
    ap (λ o. unwrap_or o id.0)
    (ap (λ ns. last_text ns id None) are.are ∙ appended are.new are.changed id None
    ∙ none-got (changes seen met) id stays false (had_with are.new (source_has seen)) (changing_bindings seen met) are.changed are.of_changed (pass-filter (changes seen met) (bindings seen)) (last_text are.new id None)
    ∙ none-got (is_new seen) id old true (source_has seen) (new_bindings seen) are.new are.of_new (pass-filter (is_new seen) (bindings seen)) None)
