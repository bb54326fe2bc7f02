-- What final texts tell apart in a scope, and between a body and its parameters.
use Rattle.std.proofs.Common.{◌≡◌, refl, sym, ap, ◌∙◌, subst, ℕ, suc, List, [], ◌∷◌, ◌++◌, map, Bool, true, false, cond, not, ◌&&◌, ◌||◌, bytes_eq, nat_eq}
use Rattle.std.specs.List.{All, list_any}
use Rattle.std.proofs.lemmas.List.Folds.{list_any-append}
use Rattle.ecma_kind.specs.declared.kind.Kind.{Kind}
use Rattle.ecma_kind.specs.declared.kind.Kind.TheVariants as kind
use Rattle.ecma_tree.specs.declared.node.Node.{Node, out-Node}
use Rattle.ecma_scope.specs.declared.role.Role.{Role}
use Rattle.ecma_scope.specs.Resolved.{is_name}
use Rattle.ecma_scope.specs.Scopes.{covers, is_there, opens, opens_by}
use Rattle.ecma_hygiene.specs.declared.naming.Named.{Named}
use Rattle.ecma_hygiene.specs.declared.sight.Meeting.{Meeting}
use Rattle.ecma_hygiene.specs.declared.sight.Sight.{Sight}
use Rattle.ecma_hygiene.specs.Ids.{Id as HygieneId, Scope, has_context, innermost, is_body_block, is_function_body, own_ids, same_id}
use Rattle.ecma_hygiene.specs.Laws.{is_seen, meets_binding}
use Rattle.ecma_hygiene.specs.Renamed.{text_of}
use Rattle.ecma_hygiene.specs.Sights.{Around, around_child, beside, beside_parameters, hides, meetings, meetings_at, meets, nowhere, own_scope, sight_here, sights, sights_at}
use Rattle.ecma_hygiene.specs.Texts.{AreTexts, is_bound, is_new, text_in}
use Rattle.ecma_hygiene.specs.Walks.{gathered_from}
use Rattle.ecma_hygiene.proofs.Bound.{nat-turn, own-bound}
use Rattle.ecma_hygiene.proofs.Telling.{and-both, and-right, has-id, id-refl, id-same, or-first, or-second, text-refl, texts-tell-apart, true-false}
use Rattle.ecma_hygiene.proofs.Walking.{gathered-out}
use Rattle.ecma_hygiene_scopes.proofs.Membership.{contexts-agree, is_kept, own-agrees}
use Rattle.ecma_hygiene_scopes.specs.DeclaredIds.{scope_ids}
use Rattle.ecma_runs.specs.State.{Id}
use Rattle.ecma_hygiene_meeting.specs.Places.{places}
use Rattle.ecma_hygiene_meeting.specs.Records.{declares_id}
use Rattle.ecma_pipeline_meeting.specs.Laws.{FinalTextsTellNamesFromParameters, FinalTextsTellNamesOfScopes}
use Rattle.ecma_pipeline_meeting.specs.Telling.{TellsOwnNames, TellsParameters}
use Rattle.ecma_pipeline_meeting.proofs.Walks.{Each, held}

-- ---- a parameter meets a binding of its text in the body

beside-has : (binding : HygieneId) (ctxts : List ℕ) (c : ℕ) → has_context c ctxts ≡ true → meets_binding (beside binding ctxts) (binding.0, c) binding ≡ true
beside-has binding [] c h = absurd (true-false h refl)
beside-has binding (x ∷ xs) c h = step (nat_eq c x) refl h (beside-has binding xs c)
  where
    step : (b : Bool) → nat_eq c x ≡ b → (b || has_context c xs) ≡ true → (has_context c xs ≡ true → meets_binding (beside binding xs) (binding.0, c) binding ≡ true) → meets_binding (beside binding (x ∷ xs)) (binding.0, c) binding ≡ true
    step true is k rec = or-first (same_id (binding.0, x) (binding.0, c) && same_id binding binding) (meets_binding (beside binding xs) (binding.0, c) binding)
        (and-both (same_id (binding.0, x) (binding.0, c)) (same_id binding binding) (and-both (bytes_eq binding.0 binding.0) (nat_eq x c) (text-refl binding.0) (nat-turn c x is)) (id-refl binding))
    step false is k rec = or-second (same_id (binding.0, x) (binding.0, c) && same_id binding binding) (meets_binding (beside binding xs) (binding.0, c) binding) (rec k)

beside-all : (parameters : Scope) (ids : List HygieneId) (p b : HygieneId) → p.0 ≡ b.0 → has_context p.1 (parameters p.0) ≡ true → has-id b ids ≡ true → meets_binding (beside_parameters parameters ids) p b ≡ true
beside-all parameters [] p b texts h there = absurd (true-false there refl)
beside-all parameters (x ∷ xs) p b texts h there =
    let meet : Meeting → Bool = λ m. same_id m.name p && same_id m.binding b in
    list_any-append meet (beside x (parameters x.0)) (beside_parameters parameters xs) ∙ step (same_id x b) refl there (beside-all parameters xs p b texts h)
  where
    first : x ≡ b → meets_binding (beside x (parameters x.0)) p b ≡ true
    first same =
        let is : ◌≡◌ {A = HygieneId} (b.0, p.1) p = λ j. (sym texts j, p.1) in
        ap (λ (y : HygieneId). meets_binding (beside y (parameters y.0)) p b) same
        ∙ ap (λ (q : HygieneId). meets_binding (beside b (parameters b.0)) q b) (sym is)
        ∙ beside-has b (parameters b.0) p.1 (ap (λ (t : List ℕ). has_context p.1 (parameters t)) (sym texts) ∙ h)

    step : (t : Bool) → same_id x b ≡ t → (t || has-id b xs) ≡ true → (has-id b xs ≡ true → meets_binding (beside_parameters parameters xs) p b ≡ true)
        → (meets_binding (beside x (parameters x.0)) p b || meets_binding (beside_parameters parameters xs) p b) ≡ true
    step true is k rec = or-first (meets_binding (beside x (parameters x.0)) p b) (meets_binding (beside_parameters parameters xs) p b) (first (id-same x b is))
    step false is k rec = or-second (meets_binding (beside x (parameters x.0)) p b) (meets_binding (beside_parameters parameters xs) p b) (rec k)

-- ---- tests

block-opens : (r : Role) (k : Kind) (there : Bool) → is_body_block r k ≡ true → opens_by r k there ≡ true
unfolding opens_by
block-opens r kind.BlockStmt there h = refl
block-opens r _ there h = absurd (true-false (and-right (is_function_body r) false h) refl)

-- two ids of hygiene with the parts of two that are one
same-id : (a b : Id) → ◌≡◌ {A = HygieneId} (a.sym, a.ctxt) (b.sym, b.ctxt) → a ≡ b
same-id a b e = λ j. record { sym = (e j).0; ctxt = (e j).1 }

-- what is not own is declared by the parameters
own-apart : (p b : HygieneId) (body declared : Bool) (parameters : Scope) → body ≡ true → has_context p.1 (parameters p.0) ≡ true → p ≡ b → (declared && not (body && has_context b.1 (parameters b.0))) ≡ true → ⊥
own-apart p b body declared parameters is h same k =
    let there : has_context b.1 (parameters b.0) ≡ true = ap (λ (y : HygieneId). has_context y.1 (parameters y.0)) (sym same) ∙ h in
    true-false (and-right declared (not (body && has_context b.1 (parameters b.0))) k) (λ j. not (is j && there j))

module _ (seen : List Sight) (met : List Meeting) (names : List Named) (are : AreTexts seen met names) where
  abbrev pub ScopesBound : List Scope → Type 0
  ScopesBound [] = Unit {0}
  ScopesBound (scope ∷ scopes) = ((b : HygieneId) → has_context b.1 (scope b.0) ≡ true → is_bound seen b ≡ true) × ScopesBound scopes

  bound-last : (scopes : List Scope) (own : Scope) → ScopesBound scopes → ((b : HygieneId) → has_context b.1 (own b.0) ≡ true → is_bound seen b ≡ true) → ScopesBound (scopes ++ own ∷ [])
  bound-last [] own all h = (h, tt)
  bound-last (s ∷ ss) own all h = (all.0, bound-last ss own all.1 h)

  bound-innermost : (scopes : List Scope) → ScopesBound scopes → (b : HygieneId) → has_context b.1 (innermost scopes b.0) ≡ true → is_bound seen b ≡ true
  bound-innermost [] all b h = absurd (true-false h refl)
  bound-innermost (s ∷ []) all b h = all.0 b h
  bound-innermost (s ∷ t ∷ ss) all b h = bound-innermost (t ∷ ss) all.1 b h

  -- what stands in a node and its surroundings stands in the tree
  pub record Inside (n : Node) (s : Around) : Type 0 where
    pub seen_in : (f : Sight → Bool) → list_any f (sights_at n s) ≡ true → list_any f seen ≡ true
    pub met_in : (f : Meeting → Bool) → list_any f (meetings_at n s) ≡ true → list_any f met ≡ true
    pub bound_in : ScopesBound s.scopes

  each-inside : (n : Node) (s : Around) (i : ℕ) (cs : List Node)
      → ((f : Sight → Bool) → list_any f (gathered_from Around Sight (around_child s n) i (map sights_at cs)) ≡ true → list_any f seen ≡ true)
      → ((f : Meeting → Bool) → list_any f (gathered_from Around Meeting (around_child s n) i (map meetings_at cs)) ≡ true → list_any f met ≡ true)
      → ((j : ℕ) → ScopesBound (around_child s n j).scopes) → Each (λ j c. Inside c (around_child s n j)) i cs
  each-inside n s i [] sees meeting_it bounds = tt
  each-inside n s i (c ∷ cs) sees meeting_it bounds =
      let others : List Sight = gathered_from Around Sight (around_child s n) (suc i) (map sights_at cs) in
      let more : List Meeting = gathered_from Around Meeting (around_child s n) (suc i) (map meetings_at cs) in (
        record {
          seen_in = λ f h. sees f (list_any-append f (sights_at c (around_child s n i)) others ∙ or-first (list_any f (sights_at c (around_child s n i))) (list_any f others) h);
          met_in = λ f h. meeting_it f (list_any-append f (meetings_at c (around_child s n i)) more ∙ or-first (list_any f (meetings_at c (around_child s n i))) (list_any f more) h);
          bound_in = bounds i;
        },
        each-inside n s (suc i) cs
            (λ f h. sees f (list_any-append f (sights_at c (around_child s n i)) others ∙ or-second (list_any f (sights_at c (around_child s n i))) (list_any f others) h))
            (λ f h. meeting_it f (list_any-append f (meetings_at c (around_child s n i)) more ∙ or-second (list_any f (meetings_at c (around_child s n i))) (list_any f more) h))
            bounds,
      )

  child-bound : (n : Node) (s : Around) (opened covered : Bool) → opens s.role n ≡ opened → Inside n s → ScopesBound (cond (opened && covered) (s.scopes ++ own_scope s.role s.scopes n ∷ []) s.scopes)
  child-bound n s true true is inside = bound-last s.scopes (own_scope s.role s.scopes n) inside.bound_in (λ b h. inside.seen_in (λ x. same_id x.id b && x.declares) (own-bound n s b is h))
  child-bound n s true false is inside = inside.bound_in
  child-bound n s false covered is inside = inside.bound_in

  down : (n : Node) (s : Around) → Inside n s → Each (λ i c. Inside c (around_child s n i)) 0 (out-Node n).children
  down n s inside =
      let sighted = gathered-out Around Sight sight_here around_child n s in
      let meeting_all = gathered-out Around Meeting meets around_child n s in
      let others : List Sight = gathered_from Around Sight (around_child s n) 0 (map sights_at (out-Node n).children) in
      let more : List Meeting = gathered_from Around Meeting (around_child s n) 0 (map meetings_at (out-Node n).children) in
      each-inside n s 0 (out-Node n).children
      (λ f h. inside.seen_in f (ap (list_any f) sighted ∙ list_any-append f (sight_here s n) others ∙ or-second (list_any f (sight_here s n)) (list_any f others) h))
      (λ f h. inside.met_in f (ap (list_any f) meeting_all ∙ list_any-append f (meets s n) more ∙ or-second (list_any f (meets s n)) (list_any f more) h))
      (λ j. child-bound n s (opens s.role n) (covers s.role (out-Node n).kind j) refl inside)

  seen-bound : (b : HygieneId) (xs : List Sight) → is_bound xs b ≡ true → is_seen xs b ≡ true
  seen-bound b [] h = h
  seen-bound b (x ∷ xs) h = go (same_id x.id b) x.declares (seen-bound b xs) h
    where
      go : (p d : Bool) → (is_bound xs b ≡ true → is_seen xs b ≡ true) → ((p && d) || is_bound xs b) ≡ true → (p || is_seen xs b) ≡ true
      go true d rec e = refl
      go false d rec e = rec e

  -- two bindings that are two are written as two, where those of one text that are not new meet
  two : (a b : HygieneId) → is_bound seen a ≡ true → is_bound seen b ≡ true → (a ≡ b → ⊥) → (is_new seen a ≡ false → is_new seen b ≡ false → a.0 ≡ b.0 → meets_binding met a b ≡ true)
      → text_of (text_in names) a ≡ text_of (text_in names) b → ⊥
  two a b bound also apart meet = texts-tell-apart seen met names a b are (seen-bound a seen bound) also apart meet

  own-bound-in : (n : Node) (s : Around) → Inside n s → opens s.role n ≡ true → (id : Id) → declares_id (own_scope s.role s.scopes n) id ≡ true → is_bound seen (id.sym, id.ctxt) ≡ true
  own-bound-in n s inside opened id h = inside.seen_in (λ x. same_id x.id (id.sym, id.ctxt) && x.declares) (own-bound n s (id.sym, id.ctxt) opened h)

  tells-own : (n : Node) (s : Around) → Inside n s → TellsOwnNames (is_new seen) (text_in names) (record { around = s; node = n })
  tells-own n s inside opened once a b ha hb same = go (same_id (a.sym, a.ctxt) (b.sym, b.ctxt)) refl
    where
      go : (t : Bool) → same_id (a.sym, a.ctxt) (b.sym, b.ctxt) ≡ t → a ≡ b
      go true is = same-id a b (id-same (a.sym, a.ctxt) (b.sym, b.ctxt) is)
      go false is =
          absurd (two (a.sym, a.ctxt) (b.sym, b.ctxt) (own-bound-in n s inside opened a ha) (own-bound-in n s inside opened b hb)
          (λ equal. true-false (subst (λ (y : HygieneId). same_id (a.sym, a.ctxt) y ≡ true) equal (id-refl (a.sym, a.ctxt))) is)
          (λ old old_too texts. absurd (true-false
          (let ctxts : a.ctxt ≡ b.ctxt = once b.sym a.ctxt b.ctxt (ap (λ (t : List ℕ). has_context a.ctxt (own_scope s.role s.scopes n t)) (sym texts) ∙ ha) hb
          (ap (λ (t : List ℕ). is_new seen (t, a.ctxt)) (sym texts) ∙ old) old_too in
          subst (λ (y : HygieneId). same_id (a.sym, a.ctxt) y ≡ true) (λ j. (texts j, ctxts j)) (id-refl (a.sym, a.ctxt))) is))
          same)

  tells-parameters : (n : Node) (s : Around) → Inside n s → TellsParameters (text_in names) (record { around = s; node = n })
  tells-parameters n s inside body p b hp hb same =
      let opened : opens s.role n ≡ true = block-opens s.role (out-Node n).kind (is_there (out-Node n).children 0) body in
      let own = own-agrees (b.sym, b.ctxt) s.role s.scopes n in
      let there : has-id (b.sym, b.ctxt) (own_ids s.role (innermost s.scopes) n) ≡ true = sym (contexts-agree (b.sym, b.ctxt) (own_ids s.role (innermost s.scopes) n)) ∙ hb in
      let hiding : List Meeting = hides (is_name s.role) s.scopes (out-Node n).kind in
      let besides : List Meeting = beside_parameters (innermost s.scopes) (own_ids s.role (innermost s.scopes) n) in
      let more : List Meeting = gathered_from Around Meeting (around_child s n) 0 (map meetings_at (out-Node n).children) in
      two (p.sym, p.ctxt) (b.sym, b.ctxt) (bound-innermost s.scopes inside.bound_in (p.sym, p.ctxt) hp) (own-bound-in n s inside opened b hb)
      (λ equal. own-apart (p.sym, p.ctxt) (b.sym, b.ctxt) (is_body_block s.role (out-Node n).kind) (list_any (is_kept (b.sym, b.ctxt)) (scope_ids s.role n)) (innermost s.scopes) body hp equal (sym own ∙ hb))
      (λ old old_too texts.
      let met_here : Meeting → Bool = λ m. same_id m.name (p.sym, p.ctxt) && same_id m.binding (b.sym, b.ctxt) in
      let of_all : list_any met_here (cond (opens s.role n && is_body_block s.role (out-Node n).kind) besides []) ≡ true =
      (λ j. list_any met_here (cond (opened j && body j) besides [])) ∙ beside-all (innermost s.scopes) (own_ids s.role (innermost s.scopes) n) (p.sym, p.ctxt) (b.sym, b.ctxt) texts hp there in
      inside.met_in met_here (ap (list_any met_here) (gathered-out Around Meeting meets around_child n s) ∙ list_any-append met_here (meets s n) more
      ∙ or-first (list_any met_here (meets s n)) (list_any met_here more)
      (list_any-append met_here (cond (opens s.role n && is_body_block s.role (out-Node n).kind) besides []) hiding
      ∙ or-first (list_any met_here (cond (opens s.role n && is_body_block s.role (out-Node n).kind) besides [])) (list_any met_here hiding) of_all)))
      same

  pub all-own : (tree : Node) → Inside tree nowhere → All (TellsOwnNames (is_new seen) (text_in names)) (places tree)
  all-own tree = held Inside (TellsOwnNames (is_new seen) (text_in names)) down tells-own tree nowhere

  pub all-parameters : (tree : Node) → Inside tree nowhere → All (TellsParameters (text_in names)) (places tree)
  all-parameters tree = held Inside (TellsParameters (text_in names)) down tells-parameters tree nowhere

pub final_texts_tell_names_of_scopes : FinalTextsTellNamesOfScopes
final_texts_tell_names_of_scopes tree names are = all-own (sights tree) (meetings tree) names are tree (record { seen_in = λ f h. h; met_in = λ f h. h; bound_in = tt })

pub final_texts_tell_names_from_parameters : FinalTextsTellNamesFromParameters
final_texts_tell_names_from_parameters tree names are = all-parameters (sights tree) (meetings tree) names are tree (record { seen_in = λ f h. h; met_in = λ f h. h; bound_in = tt })
