-- There are final texts.
use Rattle.std.proofs.Common.{◌≡◌, ℕ, suc, ◌+◌, ◌^◌, ◌<◌, ◌≤◌, Bool, true, false, ◌&&◌, ◌||◌, not, cond, List, [], ◌∷◌, ◌++◌, map, filter, length, bytes_eq, refl, sym, ap, ◌∙◌, subst, arith}
use Rattle.std.specs.List.{list_any}
use Rattle.std.proofs.lemmas.List.{length-map}
use Rattle.ecma_hygiene.specs.declared.naming.Named.{Named}
use Rattle.ecma_hygiene.specs.declared.sight.Meeting.{Meeting}
use Rattle.ecma_hygiene.specs.declared.sight.Sight.{Sight}
use Rattle.ecma_hygiene.specs.Ids.{Id, same_id}
use Rattle.ecma_hygiene.specs.Renamed.{renamed}
use Rattle.ecma_hygiene.specs.Sights.{meetings, sights}
use Rattle.ecma_hygiene.specs.Texts.{AreTexts, GetTexts, Had, IsNumbered, bindings, changes, changing_bindings, declared_in, distinct, had_with, is_new, new_bindings, none, rule, source_has, text_in, with_text}
use Rattle.ecma_hygiene.proofs.Telling.{or-first, or-second}
use Rattle.ecma_hygiene_exists.specs.Laws.{FinalTextsExist}
use Rattle.ecma_hygiene_exists.proofs.Numbering.{AreIn, filter-le, is_in, limit, numbered-exists}

-- ---- the texts that are had stand in a list

one-more-in : (had : Had) (text : List ℕ) (texts : List (List ℕ)) → AreIn had texts → AreIn (with_text text had) (text ∷ texts)
one-more-in had text texts are other h = go (bytes_eq text other) refl
  where
    go : (b : Bool) → bytes_eq text other ≡ b → is_in other (text ∷ texts) ≡ true
    go true e = or-first (bytes_eq text other) (is_in other texts) e
    go false e = or-second (bytes_eq text other) (is_in other texts) (are other (ap (λ (b : Bool). b || had other) (sym e) ∙ h))

source-in : (seen all : List Sight) (text : List ℕ) → list_any (λ (x : Sight). bytes_eq x.id.0 text && not (is_new all x.id)) seen ≡ true → is_in text (map (λ (x : Sight). x.id.0) seen) ≡ true
source-in [] all text h = h
source-in (x ∷ xs) all text h = go (source-in xs all text) (bytes_eq x.id.0 text) refl
  where
    others : List (List ℕ)
    others = map (λ (y : Sight). y.id.0) xs

    go : (list_any (λ (y : Sight). bytes_eq y.id.0 text && not (is_new all y.id)) xs ≡ true → is_in text others ≡ true) → (b : Bool) → bytes_eq x.id.0 text ≡ b → is_in text (map (λ (y : Sight). y.id.0) (x ∷ xs)) ≡ true
    go rec true e = or-first (bytes_eq x.id.0 text) (is_in text others) e
    go rec false e = or-second (bytes_eq x.id.0 text) (is_in text others)
        (rec (ap (λ (b : Bool). (b && not (is_new all x.id)) || list_any (λ (y : Sight). bytes_eq y.id.0 text && not (is_new all y.id)) xs) (sym e) ∙ h))

-- ---- texts for ids

rule-exists : (may_keep : Bool) (had : Had) (text : List ℕ) (texts : List (List ℕ)) → AreIn had texts → 1 + length texts < limit → (result : List ℕ) × rule may_keep had text result
rule-exists false had text texts are small = numbered-exists had text texts are small
rule-exists true had text texts are small = go (had text) refl
  where
    go : (b : Bool) → had text ≡ b → (result : List ℕ) × rule true had text result
    go true e = (let n : (result : List ℕ) × IsNumbered had text result = numbered-exists had text texts are small in
        (n.0, subst (λ (b : Bool). cond b (IsNumbered had text n.0) (n.0 ≡ text)) (sym e) n.1))
    go false e = (text, subst (λ (b : Bool). cond b (IsNumbered had text text) (text ≡ text)) (sym e) refl)

-- texts for these ids, and a list of all that are had then
record Got (may_keep : Bool) (had : Had) (ids : List Id) (count : ℕ) : Type 0 where
  pub names : List Named
  pub gets : GetTexts may_keep had ids names
  pub texts : List (List ℕ)
  pub are : AreIn (had_with names had) texts
  pub count_is : length texts ≡ count

get-exists : (may_keep : Bool) (ids : List Id) (had : Had) (texts : List (List ℕ)) → AreIn had texts → 1 + (length texts + length ids) < limit → Got may_keep had ids (length texts + length ids)
get-exists may_keep [] had texts are small = record { names = []; gets = tt; texts = texts; are = are; count_is = omega arith }
get-exists may_keep (id ∷ ids) had texts are small =
    let one : (result : List ℕ) × rule may_keep had id.0 result = rule-exists may_keep had id.0 texts are (omega arith) in
    let rest : Got may_keep (with_text one.0 had) ids (length (one.0 ∷ texts) + length ids) = get-exists may_keep ids (with_text one.0 had) (one.0 ∷ texts) (one-more-in had one.0 texts are) (omega arith) in
    record {
      names = record { id = id; text = one.0 } ∷ rest.names;
      gets = (refl, one.1, rest.gets);
      texts = rest.texts;
      are = rest.are;
      count_is = omega (arith, rest.count_is);
    }

-- ---- how many ids there are

distinct-le : (met : Id → Bool) (ids : List Id) → length (distinct met ids) ≤ length ids
distinct-le met [] = omega arith
distinct-le met (id ∷ ids) = go (met id) (distinct-le met ids) (distinct-le (λ other. same_id id other || met other) ids)
  where
    go : (b : Bool) → length (distinct met ids) ≤ length ids → length (distinct (λ other. same_id id other || met other) ids) ≤ length ids
        → length (cond b (distinct met ids) (id ∷ distinct (λ other. same_id id other || met other) ids)) ≤ suc (length ids)
    go true h k = omega arith
    go false h k = omega arith

declared-le : (seen : List Sight) → length (declared_in seen) ≤ length seen
declared-le seen = omega (arith, length-map (filter (λ (x : Sight). x.declares) seen) (λ (x : Sight). x.id), filter-le (λ (x : Sight). x.declares) seen)

bindings-le : (seen : List Sight) → length (bindings seen) ≤ length seen
bindings-le seen = omega (arith, distinct-le none (declared_in seen), declared-le seen)

-- ---- together

module _ (seen : List Sight) (met : List Meeting) where
  both : (count more : ℕ) (new : Got true (source_has seen) (new_bindings seen) count) → Got false (had_with new.names (source_has seen)) (changing_bindings seen met) more → (names : List Named) × AreTexts seen met names
  both count more new changed = (new.names ++ changed.names, record { new = new.names; changed = changed.names; are = refl; of_new = new.gets; of_changed = changed.gets })

  all-exist : length seen < 2 ^ 64 → (names : List Named) × AreTexts seen met names
  all-exist small =
      let of_source : List (List ℕ) = map (λ (x : Sight). x.id.0) seen in
      let most = bindings-le seen in
      let count : length of_source ≡ length seen = length-map seen (λ (x : Sight). x.id.0) in
      let news = filter-le (is_new seen) (bindings seen) in
      let changings = filter-le (changes seen met) (bindings seen) in
      let new : Got true (source_has seen) (new_bindings seen) (length of_source + length (new_bindings seen)) =
      get-exists true (new_bindings seen) (source_has seen) of_source (source-in seen seen) (omega arith) in
      both (length of_source + length (new_bindings seen)) (length new.texts + length (changing_bindings seen met)) new
      (get-exists false (changing_bindings seen met) (had_with new.names (source_has seen)) new.texts new.are (omega (arith, new.count_is)))

pub texts-exist : FinalTextsExist
texts-exist tree small =
    let all : (names : List Named) × AreTexts (sights tree) (meetings tree) names = all-exist (sights tree) (meetings tree) small in
    (renamed (text_in all.0) tree, record { names = all.0; texts = all.1; is = refl })
