-- Two ids are written as two, in one context or in two, and a free one keeps its text.
use Rattle.std.proofs.Common.{◌≡◌, ◌≢◌, ℕ, Bool, true, false, ◌&&◌, ◌||◌, cond, filter, List, [], ◌∷◌, ◌++◌, map, Option, Some, None, refl, sym, ap, ◌∙◌, bytes_eq, nat_eq, eq-eqb, unwrap_or}
use Rattle.std.specs.List.{list_any}
use Rattle.ecma_hygiene.specs.declared.naming.Named.{Named}
use Rattle.ecma_hygiene.specs.declared.sight.Meeting.{Meeting}
use Rattle.ecma_hygiene.specs.declared.sight.Sight.{Sight}
use Rattle.ecma_hygiene.specs.Ids.{Id, same_id}
use Rattle.ecma_hygiene.specs.Laws.{is_seen}
use Rattle.ecma_hygiene.specs.Renamed.{text_of}
use Rattle.ecma_hygiene.specs.Sights.{meetings, sights}
use Rattle.ecma_hygiene.specs.Texts.{AreTexts, GetTexts, Had, bindings, changes, declared_in, distinct, had_with, is_bound, is_new, last_text, source_has, text_in, none as none_yet, with_text}
use Rattle.ecma_hygiene.proofs.Telling.{and-both, id-refl, or-first, or-second, text-refl, texts-tell-apart, true-false}
use Rattle.ecma_hygiene_scopes.specs.Laws.{IdsStayApart}
use Rattle.ecma_hygiene_scopes.proofs.Membership.{id-same}

module _ (seen : List Sight) where
  AllBound : List Id → Type 0
  AllBound [] = Unit {0}
  AllBound (id ∷ ids) = (is_bound seen id ≡ true) × AllBound ids

  cond-bound : (b : Bool) (id : Id) (ids : List Id) → is_bound seen id ≡ true → AllBound ids → AllBound (cond b (id ∷ ids) ids)
  unfolding AllBound
  cond-bound true id ids here all = (here, all)
  cond-bound false id ids here all = all

  filter-bound : (f : Id → Bool) (ids : List Id) → AllBound ids → AllBound (filter f ids)
  unfolding AllBound
  filter-bound f [] all = tt
  filter-bound f (id ∷ ids) all = cond-bound (f id) id (filter f ids) all.0 (filter-bound f ids all.1)

  met-bound : (b : Bool) (id : Id) (one two : List Id) → is_bound seen id ≡ true → AllBound one → AllBound two → AllBound (cond b one (id ∷ two))
  unfolding AllBound
  met-bound true id one two here all others = all
  met-bound false id one two here all others = (here, others)

  distinct-bound : (met : Id → Bool) (ids : List Id) → AllBound ids → AllBound (distinct met ids)
  unfolding AllBound
  distinct-bound met [] all = tt
  distinct-bound met (id ∷ ids) all =
      met-bound (met id) id (distinct met ids) (distinct (λ other. same_id id other || met other) ids) all.0 (distinct-bound met ids all.1) (distinct-bound (λ other. same_id id other || met other) ids all.1)

  sight-bound : (b : Bool) (x : Sight) (xs : List Sight) → x.declares ≡ b → ((f : Sight → Bool) → list_any f (x ∷ xs) ≡ true → list_any f seen ≡ true) → AllBound (map (λ y. y.id) (filter (λ y. y.declares) xs))
      → AllBound (map (λ y. y.id) (cond b (x ∷ filter (λ y. y.declares) xs) (filter (λ y. y.declares) xs)))
  unfolding AllBound
  sight-bound true x xs is among all =
      (among (λ y. same_id y.id x.id && y.declares) (or-first (same_id x.id x.id && x.declares) (list_any (λ y. same_id y.id x.id && y.declares) xs) (and-both (same_id x.id x.id) x.declares (id-refl x.id) is)), all)
  sight-bound false x xs is among all = all

  declared-bound : (xs : List Sight) → ((f : Sight → Bool) → list_any f xs ≡ true → list_any f seen ≡ true) → AllBound (map (λ y. y.id) (filter (λ y. y.declares) xs))
  unfolding AllBound
  declared-bound [] among = tt
  declared-bound (x ∷ xs) among = sight-bound x.declares x xs refl among (declared-bound xs (λ f h. among f (or-second (f x) (list_any f xs) h)))

  bindings-bound : AllBound (bindings seen)
  bindings-bound = distinct-bound none_yet (declared_in seen) (declared-bound seen (λ f h. h))

  -- what is not bound gets no text
  unbound-by : (b : Bool) (n : Named) (id : Id) (before : Option (List ℕ)) → same_id n.id id ≡ b → is_bound seen n.id ≡ true → is_bound seen id ≡ false → ◌≡◌ {A = Option (List ℕ)} (cond b (Some n.text) before) before
  unbound-by true n id before is bound free = absurd (true-false (sym (ap (is_bound seen) (id-same n.id id is)) ∙ bound) free)
  unbound-by false n id before is bound free = refl

  unbound : (may_keep : Bool) (had : Had) (ids : List Id) (names : List Named) (id : Id) (before : Option (List ℕ)) → AllBound ids → GetTexts may_keep had ids names → is_bound seen id ≡ false → last_text names id before ≡ before
  unfolding AllBound
  unbound may_keep had [] [] id before all gets free = refl
  unbound may_keep had [] (n ∷ names) id before all gets free = absurd gets
  unbound may_keep had (i ∷ ids) [] id before all gets free = absurd gets
  unbound may_keep had (i ∷ ids) (n ∷ names) id before all gets free =
      ap (last_text names id) (unbound-by (same_id n.id id) n id before refl (ap (is_bound seen) gets.0 ∙ all.0) free)
      ∙ unbound may_keep (with_text n.text had) ids names id before all.1 gets.2 free

  last-append : (names others : List Named) (id : Id) (before : Option (List ℕ)) → last_text (names ++ others) id before ≡ last_text others id (last_text names id before)
  last-append [] others id before = refl
  last-append (n ∷ names) others id before = last-append names others id (cond (same_id n.id id) (Some n.text) before)

  module _ (met : List Meeting) (names : List Named) (are : AreTexts seen met names) where
    pub free-stays : (id : Id) → is_bound seen id ≡ false → text_of (text_in names) id ≡ id.0
    free-stays id free =
        ap (λ (o : Option (List ℕ)). unwrap_or o id.0)
        (ap (λ (ns : List Named). last_text ns id None) are.are ∙ last-append are.new are.changed id None
        ∙ ap (last_text are.changed id) (unbound true (source_has seen) _ are.new id None (filter-bound (is_new seen) (bindings seen) bindings-bound) are.of_new free)
        ∙ unbound false (had_with are.new (source_has seen)) _ are.changed id None (filter-bound (changes seen met) (bindings seen) bindings-bound) are.of_changed free)

    texts-apart : (a b : Id) (s t : Bool) → is_bound seen a ≡ s → is_bound seen b ≡ t → is_seen seen a ≡ true → is_seen seen b ≡ true → a.0 ≢ b.0 → text_of (text_in names) a ≢ text_of (text_in names) b
    texts-apart a b s true is also there other apart same =
        texts-tell-apart seen met names a b are there also (λ equal. apart (ap (λ (i : Id). i.0) equal)) (λ old old_too texts. absurd (apart texts)) same
    texts-apart a b true false is also there other apart same =
        texts-tell-apart seen met names b a are other is (λ equal. apart (sym (ap (λ (i : Id). i.0) equal))) (λ old old_too texts. absurd (apart (sym texts))) (sym same)
    texts-apart a b false false is also there other apart same = apart (sym (free-stays a is) ∙ same ∙ free-stays b also)

    ids-apart : (a b : Id) (t : Bool) → bytes_eq a.0 b.0 ≡ t → is_seen seen a ≡ true → is_seen seen b ≡ true → a.1 ≡ b.1 → text_of (text_in names) a ≡ text_of (text_in names) b → a ≡ b
    ids-apart a b true is there other ctxts same = id-same a b (and-both (bytes_eq a.0 b.0) (nat_eq a.1 b.1) is (eq-eqb a.1 b.1 ctxts))
    ids-apart a b false is there other ctxts same =
        absurd (texts-apart a b (is_bound seen a) (is_bound seen b) refl refl there other (λ texts. true-false (text-refl b.0) (ap (λ (t : List ℕ). bytes_eq t b.0) (sym texts) ∙ is)) same)

pub stay-apart : IdsStayApart
stay-apart tree names texts = record {
  apart = λ a b there other ctxts same. ids-apart (sights tree) (meetings tree) names texts a b (bytes_eq a.0 b.0) refl there other ctxts same;
  free = free-stays (sights tree) (meetings tree) names texts;
}
