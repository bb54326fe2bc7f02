-- Names may meet under the final texts of a plain module that fits, and under its own.
use Rattle.std.proofs.Common.{◌≡◌, ◌⊎◌, inl, inr, refl, sym, ap, ◌∙◌, ℕ, List, [], ◌∷◌, ◌++◌, map, filter, Option, Some, None, Bool, true, false, cond, ◌&&◌, ◌||◌, bytes_eq, codes, unwrap_or}
use Rattle.std.specs.List.{All, list_any}
use Rattle.std.proofs.lemmas.List.Elements.{All-cons, All-nil}
use Rattle.std.proofs.lemmas.Slice.Eq.{bytes_eq-Decides}
use Rattle.ecma_lex.specs.Keys.{is_reserved, reserved_words}
use Rattle.ecma_tree.specs.declared.node.Node.{Node}
use Rattle.ecma_hygiene.specs.declared.naming.Named.{Named}
use Rattle.ecma_hygiene.specs.declared.sight.Meeting.{Meeting}
use Rattle.ecma_hygiene.specs.declared.sight.Sight.{Sight}
use Rattle.ecma_scope.specs.Scopes.{opens}
use Rattle.ecma_hygiene.specs.Ids.{Id as HygieneId, Scope, has_context, innermost, same_id}
use Rattle.ecma_hygiene.specs.Renamed.{Texts, text_of}
use Rattle.ecma_hygiene.specs.Sights.{meetings, own_scope, sights}
use Rattle.ecma_hygiene.specs.Texts.{AreTexts, GetTexts, Had, HygienicTexts, bindings, changes, declared_in, distinct, had_with, is_bound, is_new, last_text, none, source_has, text_in, with_text}
use Rattle.ecma_hygiene.proofs.Telling.{and-both, id-refl, id-same, or-first, or-second, true-false}
use Rattle.ecma_hygiene_fits.specs.Laws.{HygienicTextsAreUnreserved}
use Rattle.ecma_hygiene_fits.specs.Unreserved.{IsUnreserved}
use Rattle.ecma_hygiene_runs.specs.Laws.{BindingsAreDeclared}
use Rattle.ecma_hygiene_runs.specs.Plain.{is_plain}
use Rattle.ecma_fits.specs.Fitting.{Fits}
use Rattle.ecma_runs.specs.State.{Id}
use Rattle.ecma_runs.specs.Environment.{ids_of, is_among}
use Rattle.ecma_runs.specs.Evaluation.{meaning}
use Rattle.ecma_runs.specs.Exports.{export_names, local_ids}
use Rattle.ecma_runs.specs.Observation.{exports_in}
use Rattle.ecma_runs.specs.Sought.{sought_in}
use Rattle.ecma_hygiene_scopes.specs.Once.{DeclaresEachOnce}
use Rattle.ecma_hygiene_meeting.specs.Laws.{FinalTextsMeet, WhatIsNotCapturedMeets}
use Rattle.ecma_hygiene_meeting.specs.Places.{Place, places}
use Rattle.ecma_hygiene_meeting.specs.Texts.{IsRewritten, NamesAreTold, TellsItsNames, TellsNames, written}
use Rattle.ecma_hygiene_meeting.proofs.Among.{either-of}
use Rattle.ecma_pipeline_meeting.specs.Laws.{PlainFinalTextsMeet, PlainOwnTextsMeet}
use Rattle.ecma_pipeline_meeting.specs.Telling.{BindsInside, IsInside, SaysItsScopes, SaysScopes, TellsOwnNames, TellsParameters}
use Rattle.ecma_pipeline_meeting.proofs.Apart.{final_texts_tell_names_from_parameters, final_texts_tell_names_of_scopes}
use Rattle.ecma_pipeline_meeting.proofs.Exporting.{exports-known}
use Rattle.ecma_pipeline_meeting.proofs.Records.{plain_modules_have_records_of_scopes}
use Rattle.ecma_pipeline_meeting.proofs.Walks.{both-all}

-- no id gets another text
abbrev itself : Texts
itself id = None

-- a scope declares each text in one context
abbrev EachOnce : Place → Type 0
EachOnce place = DeclaresEachOnce place.node place.around

-- ---- what gets a text is bound

module _ (seen : List Sight) where
  AllBound : List HygieneId → Type 0
  AllBound [] = Unit {0}
  AllBound (id ∷ ids) = (is_bound seen id ≡ true) × AllBound ids

  filter-bound : (f : HygieneId → Bool) (ids : List HygieneId) → AllBound ids → AllBound (filter f ids)
  unfolding AllBound
  filter-bound f [] all = tt
  filter-bound f (id ∷ ids) all = either (f id) (filter-bound f ids all.1)
    where
      either : (b : Bool) → AllBound (filter f ids) → AllBound (cond b (id ∷ filter f ids) (filter f ids))
      either true rest = (all.0, rest)
      either false rest = rest

  met-bound : (b : Bool) (id : HygieneId) (one two : List HygieneId) → is_bound seen id ≡ true → AllBound one → AllBound two → AllBound (cond b one (id ∷ two))
  unfolding AllBound
  met-bound true id one two here all others = all
  met-bound false id one two here all others = (here, others)

  distinct-bound : (met : HygieneId → Bool) (ids : List HygieneId) → AllBound ids → AllBound (distinct met ids)
  unfolding AllBound
  distinct-bound met [] all = tt
  distinct-bound met (id ∷ ids) all =
      met-bound (met id) id (distinct met ids) (distinct (λ other. same_id id other || met other) ids) all.0 (distinct-bound met ids all.1) (distinct-bound (λ other. same_id id other || met other) ids all.1)

  declared-bound : (xs : List Sight) → ((f : Sight → Bool) → list_any f xs ≡ true → list_any f seen ≡ true) → AllBound (declared_in xs)
  unfolding AllBound
  declared-bound [] among = tt
  declared-bound (x ∷ xs) among = either x.declares refl (declared-bound xs (λ f h. among f (or-second (f x) (list_any f xs) h)))
    where
      either : (b : Bool) → x.declares ≡ b → AllBound (declared_in xs) → AllBound (map (λ y. y.id) (cond b (x ∷ filter (λ y. y.declares) xs) (filter (λ y. y.declares) xs)))
      either true is all = (among (λ y. same_id y.id x.id && y.declares) (or-first (same_id x.id x.id && x.declares) (list_any (λ y. same_id y.id x.id && y.declares) xs) (and-both (same_id x.id x.id) x.declares (id-refl x.id) is)), all)
      either false is all = all

  bindings-bound : AllBound (bindings seen)
  bindings-bound = distinct-bound none (declared_in seen) (declared-bound seen (λ f h. h))

  -- what is not bound gets no text
  unbound : (may_keep : Bool) (had : Had) (ids : List HygieneId) (names : List Named) (id : HygieneId) (before : Option (List ℕ)) → AllBound ids → GetTexts may_keep had ids names → is_bound seen id ≡ false → last_text names id before ≡ before
  unfolding AllBound
  unbound may_keep had [] [] id before all gets free = refl
  unbound may_keep had [] (n ∷ names) id before all gets free = absurd gets
  unbound may_keep had (i ∷ ids) [] id before all gets free = absurd gets
  unbound may_keep had (i ∷ ids) (n ∷ names) id before all gets free = ap (last_text names id) (step (same_id n.id id) refl) ∙ unbound may_keep (with_text n.text had) ids names id before all.1 gets.2 free
    where
      step : (b : Bool) → same_id n.id id ≡ b → ◌≡◌ {A = Option (List ℕ)} (cond b (Some n.text) before) before
      step true is = absurd (true-false (sym (ap (is_bound seen) (id-same n.id id is)) ∙ (ap (is_bound seen) gets.0 ∙ all.0)) free)
      step false is = refl

  last-append : (names others : List Named) (id : HygieneId) (before : Option (List ℕ)) → last_text (names ++ others) id before ≡ last_text others id (last_text names id before)
  last-append [] others id before = refl
  last-append (n ∷ names) others id before = last-append names others id (cond (same_id n.id id) (Some n.text) before)

  unbound-none : (met : List Meeting) (names : List Named) → AreTexts seen met names → (id : HygieneId) → is_bound seen id ≡ false → text_in names id ≡ None
  unbound-none met names are id free =
      ap (λ (ns : List Named). last_text ns id None) are.are ∙ last-append are.new are.changed id None
      ∙ ap (last_text are.changed id) (unbound true (source_has seen) _ are.new id None (filter-bound (is_new seen) (bindings seen) bindings-bound) are.of_new free)
      ∙ unbound false (had_with are.new (source_has seen)) _ are.changed id None (filter-bound (changes seen met) (bindings seen) bindings-bound) are.of_changed free

-- ---- no text is `this`

this_reserved : is_reserved (codes "this") ≡ true
unfolding is_reserved reserved_words
this_reserved = refl

not_reserved : (word : List ℕ) → is_reserved word ≡ false → bytes_eq word (codes "this") ≡ false
not_reserved word free = go (bytes_eq word (codes "this")) refl
  where
    go : (b : Bool) → bytes_eq word (codes "this") ≡ b → bytes_eq word (codes "this") ≡ false
    go false e = e
    go true e = absurd (true-false (ap is_reserved ((bytes_eq-Decides word (codes "this")).0 e) ∙ this_reserved) free)

-- ---- what is told of the names of a tree

none-some : (text : List ℕ) → ◌≡◌ {A = Option (List ℕ)} None (Some text) → ⊥
none-some text h = cc

module _ (bindings : BindingsAreDeclared) (tree : Node) (fits : Fits tree) (plain : is_plain tree ≡ true) where
  declared-of : (id : Id) → is_bound (sights tree) (id.sym, id.ctxt) ≡ true → is_among id (meaning tree).declared ≡ true
  declared-of id h = bindings tree fits.sorted plain (id.sym, id.ctxt) h

  own-exports : (free : ℕ) (id : Id) → is_among id (local_ids (exports_in tree)) ≡ true
      → (is_among id (ids_of (meaning tree).locals) ≡ true) ⊎ ((is_among id (sought_in tree).sought ≡ true) ⊎ (id.ctxt ≡ free))
  own-exports free id h = either-of (exports-known id tree fits.sorted plain h) inl (λ s. inr (inl s))

  -- under final texts
  module _ (names : List Named) (free : ℕ) (are : HygienicTexts tree names) (unreserved : HygienicTextsAreUnreserved) (says : SaysScopes (is_new (sights tree)) free tree) (inside : BindsInside free tree) where
    abbrev texts : Texts
    texts = text_in names

    bound-of : (id : HygieneId) (text : List ℕ) → texts id ≡ Some text → is_bound (sights tree) id ≡ true
    bound-of id text e = go (is_bound (sights tree) id) refl
      where
        go : (b : Bool) → is_bound (sights tree) id ≡ b → is_bound (sights tree) id ≡ true
        go true is = is
        go false is = absurd (none-some text (sym (unbound-none (sights tree) (meetings tree) names are id is) ∙ e))

    apart-by : (id : HygieneId) (text : List ℕ) → text_of texts id ≡ text → bytes_eq id.0 (codes "this") ≡ false → (text_of texts id ≡ id.0) ⊎ IsUnreserved (text_of texts id) → bytes_eq text (codes "this") ≡ false
    apart-by id text e this (inl same) = ap (λ t. bytes_eq t (codes "this")) (sym e ∙ same) ∙ this
    apart-by id text e this (inr u) = not_reserved text (ap is_reserved (sym e) ∙ u.unreserved)

    given : (id : Id) (text : List ℕ) → texts (id.sym, id.ctxt) ≡ Some text → IsRewritten free tree id text
    given id text e =
        let bound : is_bound (sights tree) (id.sym, id.ctxt) ≡ true = bound-of (id.sym, id.ctxt) text e in
        let is : IsInside free (id.sym, id.ctxt) = inside (id.sym, id.ctxt) bound in
        record {
          declared = declared-of id bound;
          inner = is.inner;
          bound = is.bound;
          apart = is.no_this;
          text_apart = apart-by (id.sym, id.ctxt) text (ap (λ o. unwrap_or o id.sym) e) is.no_this (unreserved tree names are (id.sym, id.ctxt));
        }

    abbrev Told : Place → Type 0
    Told place = TellsOwnNames (is_new (sights tree)) texts place × TellsParameters texts place

    told : (place : Place) → SaysItsScopes (is_new (sights tree)) free place → Told place → TellsNames texts free place
    told place scope t = record { outer = scope.outer; free_names = scope.free_names; own_names = λ opened. t.0 opened (scope.once opened); parameters = t.1 }

    pub final-told : NamesAreTold texts free tree
    final-told = record {
      told = both-all (SaysItsScopes (is_new (sights tree)) free) Told (TellsNames texts free) (places tree) told says.scopes
          (both-all (TellsOwnNames (is_new (sights tree)) texts) (TellsParameters texts) Told (places tree) (λ place a b. (a, b)) (final_texts_tell_names_of_scopes tree names are) (final_texts_tell_names_from_parameters tree names are));
      given = given;
    }

  -- and under its own texts
  module _ (free : ℕ) (each : All EachOnce (places tree)) (says : SaysScopes (λ id. false) free tree) where
    own-one : (place : Place) → EachOnce place → opens place.around.role place.node ≡ true → TellsItsNames itself (own_scope place.around.role place.around.scopes place.node)
    own-one place once opened a b ha hb same =
        let scope : Scope = own_scope place.around.role place.around.scopes place.node in
        let ctxts : a.ctxt ≡ b.ctxt = once.once opened b.sym a.ctxt b.ctxt (ap (λ (t : List ℕ). has_context a.ctxt (scope t)) (sym same) ∙ ha) hb in
        λ i. record { sym = same i; ctxt = ctxts i }

    tells : (place : Place) → SaysItsScopes (λ id. false) free place → EachOnce place → TellsNames itself free place
    tells place scope once = record {
      outer = scope.outer;
      free_names = scope.free_names;
      own_names = own-one place once;
      parameters = λ body parameter name hp hn same.
          once.apart body name.sym parameter.ctxt name.ctxt (ap (λ (t : List ℕ). has_context parameter.ctxt (innermost place.around.scopes t)) (sym same) ∙ hp) hn;
    }

    none-given : (id : Id) (text : List ℕ) → ◌≡◌ {A = Option (List ℕ)} None (Some text) → IsRewritten free tree id text
    none-given id text e = absurd (none-some text e)

    pub own-told : NamesAreTold itself free tree
    own-told = record {
      told = both-all (SaysItsScopes (λ id. false) free) EachOnce (TellsNames itself free) (places tree) tells says.scopes each;
      given = none-given;
    }

all-stay : (ids : List Id) → All (λ id. written itself id ≡ id.sym) ids
all-stay [] = All-nil (λ id. written itself id ≡ id.sym)
all-stay (id ∷ ids) = All-cons (λ id. written itself id ≡ id.sym) id ids refl (all-stay ids)

pub plain_final_texts_meet : BindingsAreDeclared → HygienicTextsAreUnreserved → FinalTextsMeet → PlainFinalTextsMeet
plain_final_texts_meet bindings unreserved meet names free to tree are fits plain says inside keeps stays exports =
    meet names free to tree are (plain_modules_have_records_of_scopes bindings tree fits plain) (final-told bindings tree fits plain names free are unreserved says inside) keeps stays
    (record { own = own-exports bindings tree fits plain free; stay = exports })

pub plain_own_texts_meet : BindingsAreDeclared → WhatIsNotCapturedMeets → PlainOwnTextsMeet
plain_own_texts_meet bindings meet free to tree none each fits plain says keeps stays =
    meet itself free to tree (plain_modules_have_records_of_scopes bindings tree fits plain) (record { not_captured = none; names = own-told bindings tree fits plain free each says }) keeps stays
    (record { own = own-exports bindings tree fits plain free; stay = all-stay (export_names (exports_in tree)) })
