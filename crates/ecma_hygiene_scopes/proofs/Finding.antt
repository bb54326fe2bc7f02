-- Where nothing is captured, a name is found by its final text where its id is declared.
use Rattle.std.proofs.Common.{◌≡◌, ◌≢◌, ◌⊎◌, inl, inr, ℕ, Bool, true, false, ◌&&◌, ◌||◌, cond, List, [], ◌∷◌, ◌++◌, map, Option, refl, sym, ap, ◌∙◌, subst, bytes_eq, nat_eq, append_assoc}
use Rattle.std.specs.List.{list_any}
use Rattle.std.proofs.lemmas.List.Folds.{list_any-append}
use Rattle.ecma_tree.specs.declared.node.Node.{Node, out-Node}
use Rattle.ecma_scope.specs.Resolved.{Scope as Frame, context_in, given, is_name}
use Rattle.ecma_scope.specs.Scopes.{opens}
use Rattle.ecma_hygiene.specs.declared.naming.Named.{Named}
use Rattle.ecma_hygiene.specs.declared.sight.Meeting.{Meeting}
use Rattle.ecma_hygiene.specs.declared.sight.Sight.{Sight}
use Rattle.ecma_hygiene.specs.Capture.{IsNotCaptured, NoneDeclares, Writes}
use Rattle.ecma_hygiene.specs.Ids.{Id, Scope, has_context, innermost, is_body_block, own_ids, same_id}
use Rattle.ecma_hygiene.specs.Laws.{is_seen, meets_binding}
use Rattle.ecma_hygiene.specs.Renamed.{Texts, text_of}
use Rattle.ecma_hygiene.specs.Sights.{Around, around_child, beside, beside_parameters, hides, meetings_at, meets, own_scope}
use Rattle.ecma_hygiene.specs.Texts.{AreTexts, is_bound, text_in}
use Rattle.ecma_hygiene.specs.Walks.{gathered_from}
use Rattle.ecma_hygiene.proofs.Telling.{and-both, has-id, id-refl, or-first, or-second, text-refl, texts-tell-apart, true-false}
use Rattle.ecma_hygiene.proofs.Walking.{gathered-out}
use Rattle.ecma_hygiene_scopes.proofs.Alike.{Like}
use Rattle.ecma_hygiene_scopes.proofs.Membership.{contexts-agree, id-same, turned}

module _ (unresolved : ℕ) (texts : Texts) (from to : ℕ → ℕ) (is_binding : Id → Bool) where
  abbrev NoneWrites : List Scope → List ℕ → Type 0
  NoneWrites [] text = Unit {0}
  NoneWrites (w ∷ ws) text = (Writes texts w text → ⊥) × NoneWrites ws text

  quiet : (name : Id) (all : List Scope) → IsNotCaptured texts (record { name = name; scopes = all }) → (before inner : List Scope) → all ≡ before ++ inner → NoneDeclares inner name → NoneWrites inner (text_of texts name)
  quiet name all captured before [] is none = tt
  quiet name all captured before (w ∷ ws) is none =
      (captured before w ws is none, quiet name all captured (before ++ w ∷ []) ws (is ∙ sym (append_assoc before (w ∷ []) ws)) none.1)

  -- scopes of which none writes a text leave it to those around them
  none-gives : (ws : List Scope) (fs : List Frame) (text : List ℕ) (outer : ℕ) → Like texts from to is_binding ws fs → NoneWrites ws text → context_in unresolved fs text outer ≡ outer
  none-gives [] [] text outer like none = refl
  none-gives [] (f ∷ fs) text outer like none = absurd like
  none-gives (w ∷ ws) [] text outer like none = absurd like
  none-gives (w ∷ ws) (f ∷ fs) text outer like none =
      elim (like.0.states.only text) [
        | inl open_here ↦ ap (λ (o : Option Bool). context_in unresolved fs text (given o f.ctxt unresolved outer)) open_here ∙ none-gives ws fs text outer like.1 none.1
        | inr writes ↦ absurd (none.0 writes)
      ]

  -- and the innermost that writes it gives it its own context
  kept-gives : (before : List Scope) (w : Scope) (inner : List Scope) (fs : List Frame) (b : Id) (outer : ℕ) → Like texts from to is_binding (before ++ w ∷ inner) fs → has_context b.1 (w b.0) ≡ true
      → NoneWrites inner (text_of texts b) → from (context_in unresolved fs (text_of texts b) outer) ≡ to b.1
  kept-gives [] w inner [] b outer like declared none = absurd like
  kept-gives [] w inner (f ∷ fs) b outer like declared none =
      ap from (ap (λ (o : Option Bool). context_in unresolved fs (text_of texts b) (given o f.ctxt unresolved outer)) (like.0.states.written b declared)
      ∙ none-gives inner fs (text_of texts b) f.ctxt like.1 none) ∙ sym (like.0.number b declared)
  kept-gives (v ∷ before) w inner [] b outer like declared none = absurd like
  kept-gives (v ∷ before) w inner (f ∷ fs) b outer like declared none =
      kept-gives before w inner fs b (given (f.states (text_of texts b)) f.ctxt unresolved outer) like.1 declared none

  -- the innermost scope that declares an id
  record Split (scopes : List Scope) (name : Id) : Type 0 where
    pub outer : List Scope
    pub scope : Scope
    pub inner : List Scope
    pub are : scopes ≡ outer ++ scope ∷ inner
    pub declared : has_context name.1 (scope name.0) ≡ true
    pub none : NoneDeclares inner name

  split-by : (w : Scope) (ws : List Scope) (name : Id) (b : Bool) → has_context name.1 (w name.0) ≡ b → NoneDeclares ws name ⊎ Split ws name → NoneDeclares (w ∷ ws) name ⊎ Split (w ∷ ws) name
  split-by w ws name b is (inr s) = inr (record { outer = w ∷ s.outer; scope = s.scope; inner = s.inner; are = ap (λ (zs : List Scope). w ∷ zs) s.are; declared = s.declared; none = s.none })
  split-by w ws name true is (inl none) = inr (record { outer = []; scope = w; inner = ws; are = refl; declared = is; none = none })
  split-by w ws name false is (inl none) = inl (is, none)

  split : (ws : List Scope) (name : Id) → NoneDeclares ws name ⊎ Split ws name
  split [] name = inl tt
  split (w ∷ ws) name = split-by w ws name (has_context name.1 (w name.0)) refl (split ws name)

  pub gives : (ws : List Scope) (fs : List Frame) (name : Id) → Like texts from to is_binding ws fs → IsNotCaptured texts (record { name = name; scopes = ws }) → (NoneDeclares ws name → to name.1 ≡ from unresolved)
      → from (context_in unresolved fs (text_of texts name) unresolved) ≡ to name.1
  gives ws fs name like captured free =
      elim (split ws name) [
        | inl none ↦ ap from (none-gives ws fs (text_of texts name) unresolved like (quiet name ws captured [] ws refl none)) ∙ sym (free none)
        | inr s ↦ kept-gives s.outer s.scope s.inner fs name unresolved (subst (λ (zs : List Scope). Like texts from to is_binding zs fs) s.are like) s.declared
            (quiet name ws captured (s.outer ++ s.scope ∷ []) s.inner (s.are ∙ sym (append_assoc s.outer (s.scope ∷ []) s.inner)) s.none)
      ]

-- ---- a parameter and a binding of the body are written as two

beside-by : (binding p : Id) (x : ℕ) (xs : List ℕ) (t : Bool) → nat_eq p.1 x ≡ t → p.0 ≡ binding.0 → (t || has_context p.1 xs) ≡ true → (has_context p.1 xs ≡ true → meets_binding (beside binding xs) p binding ≡ true)
    → meets_binding (beside binding (x ∷ xs)) p binding ≡ true
beside-by binding p x xs true is same h rec =
    or-first (same_id (binding.0, x) p && same_id binding binding) (meets_binding (beside binding xs) p binding)
    (and-both (same_id (binding.0, x) p) (same_id binding binding)
    (and-both (bytes_eq binding.0 p.0) (nat_eq x p.1) (ap (λ (t : List ℕ). bytes_eq t p.0) (sym same) ∙ text-refl p.0) (turned p x p.1 ∙ is)) (id-refl binding))
beside-by binding p x xs false is same h rec = or-second (same_id (binding.0, x) p && same_id binding binding) (meets_binding (beside binding xs) p binding) (rec h)

beside-has : (binding p : Id) (ctxts : List ℕ) → p.0 ≡ binding.0 → has_context p.1 ctxts ≡ true → meets_binding (beside binding ctxts) p binding ≡ true
beside-has binding p [] same h = absurd (true-false h refl)
beside-has binding p (x ∷ xs) same h = beside-by binding p x xs (nat_eq p.1 x) refl same h (beside-has binding p xs same)

parameters-by : (parameters : Scope) (p b x : Id) (xs : List Id) (t : Bool) → same_id x b ≡ t → p.0 ≡ b.0 → has_context p.1 (parameters b.0) ≡ true → (t || has-id b xs) ≡ true
    → (has-id b xs ≡ true → meets_binding (beside_parameters parameters xs) p b ≡ true) → meets_binding (beside_parameters parameters (x ∷ xs)) p b ≡ true
parameters-by parameters p b x xs true is same has h rec =
    let equal : x ≡ b = id-same x b is in
    list_any-append (λ (m : Meeting). same_id m.name p && same_id m.binding b) (beside x (parameters x.0)) (beside_parameters parameters xs)
    ∙ or-first (meets_binding (beside x (parameters x.0)) p b) (meets_binding (beside_parameters parameters xs) p b)
    (ap (λ (y : Id). meets_binding (beside y (parameters y.0)) p b) equal ∙ beside-has b p (parameters b.0) same has)
parameters-by parameters p b x xs false is same has h rec =
    list_any-append (λ (m : Meeting). same_id m.name p && same_id m.binding b) (beside x (parameters x.0)) (beside_parameters parameters xs)
    ∙ or-second (meets_binding (beside x (parameters x.0)) p b) (meets_binding (beside_parameters parameters xs) p b) (rec h)

parameters-have : (parameters : Scope) (p b : Id) (ids : List Id) → p.0 ≡ b.0 → has_context p.1 (parameters b.0) ≡ true → has-id b ids ≡ true → meets_binding (beside_parameters parameters ids) p b ≡ true
parameters-have parameters p b [] same has h = absurd (true-false h refl)
parameters-have parameters p b (x ∷ xs) same has h = parameters-by parameters p b x xs (same_id x b) refl same has h (parameters-have parameters p b xs same has)

bound-seen : (seen : List Sight) (id : Id) → is_bound seen id ≡ true → is_seen seen id ≡ true
bound-seen [] id h = h
bound-seen (x ∷ xs) id h = go (same_id x.id id) x.declares (is_bound xs id) (is_seen xs id) (bound-seen xs id) h
  where
    go : (a b c d : Bool) → (c ≡ true → d ≡ true) → ((a && b) || c) ≡ true → (a || d) ≡ true
    go true b c d rec h = refl
    go false b c d rec h = rec h

module _ (seen : List Sight) (met : List Meeting) (names : List Named) (are : AreTexts seen met names) (n : Node) (s : Around)
    (met_in : (f : Meeting → Bool) → list_any f (meetings_at n s) ≡ true → list_any f met ≡ true) where
  here-met : (p b : Id) → opens s.role n ≡ true → is_body_block s.role (out-Node n).kind ≡ true → p.0 ≡ b.0 → has_context p.1 (innermost s.scopes p.0) ≡ true
      → has_context b.1 (own_scope s.role s.scopes n b.0) ≡ true → meets_binding met p b ≡ true
  here-met p b opened block same has own =
      let f : Meeting → Bool = λ m. same_id m.name p && same_id m.binding b in
      let ids : List Id = own_ids s.role (innermost s.scopes) n in
      let besides : List Meeting = beside_parameters (innermost s.scopes) ids in
      let hiding : List Meeting = hides (is_name s.role) s.scopes (out-Node n).kind in
      let below : List Meeting = gathered_from Around Meeting (around_child s n) 0 (map meetings_at (out-Node n).children) in
      let mine : has-id b ids ≡ true = sym (contexts-agree b ids) ∙ own in
      let there : list_any f besides ≡ true = parameters-have (innermost s.scopes) p b ids same (ap (λ (t : List ℕ). has_context p.1 (innermost s.scopes t)) (sym same) ∙ has) mine in
      met_in f (ap (list_any f) (gathered-out Around Meeting meets around_child n s) ∙ list_any-append f (meets s n) below
      ∙ or-first (list_any f (meets s n)) (list_any f below)
      (list_any-append f (cond (opens s.role n && is_body_block s.role (out-Node n).kind) besides []) hiding
      ∙ or-first (list_any f (cond (opens s.role n && is_body_block s.role (out-Node n).kind) besides [])) (list_any f hiding)
      ((λ j. list_any f (cond (opened j && block j) besides [])) ∙ there)))

  pub written-apart : (p b : Id) → opens s.role n ≡ true → is_body_block s.role (out-Node n).kind ≡ true → is_bound seen p ≡ true → is_bound seen b ≡ true → has_context p.1 (innermost s.scopes p.0) ≡ true
      → has_context b.1 (own_scope s.role s.scopes n b.0) ≡ true → p ≢ b → text_of (text_in names) p ≢ text_of (text_in names) b
  written-apart p b opened block bound also has own other =
      texts-tell-apart seen met names p b are (bound-seen seen p bound) also other (λ old old_too same. here-met p b opened block same has own)
