-- Why nothing is captured.
use Rattle.std.proofs.Common.{◌≡◌, ℕ, suc, Bool, true, false, ◌&&◌, ◌||◌, cond, List, [], ◌∷◌, ◌++◌, map, refl, sym, ap, ◌∙◌, subst, bytes_eq, nat_eq}
use Rattle.std.specs.List.{All, list_any}
use Rattle.std.proofs.lemmas.List.Elements.{All-append, All-cons, All-nil}
use Rattle.std.proofs.lemmas.List.Folds.{list_any-append}
use Rattle.ecma_kind.specs.declared.kind.Kind.{Kind}
use Rattle.ecma_kind.specs.declared.kind.Kind.TheVariants as kind
use Rattle.ecma_kind.specs.declared.span.Span.{Span}
use Rattle.ecma_tree.specs.declared.node.Node.{Node, Node-F, ind-Node, out-Node, roll-Node}
use Rattle.ecma_tree.specs.declared.node.Node.TheViews.{out-roll-Node}
use Rattle.ecma_scope.specs.Resolved.{is_name}
use Rattle.ecma_scope.specs.Scopes.{covers, opens}
use Rattle.ecma_hygiene.specs.declared.naming.Named.{Named}
use Rattle.ecma_hygiene.specs.declared.sight.Meeting.{Meeting}
use Rattle.ecma_hygiene.specs.declared.sight.Sight.{Sight}
use Rattle.ecma_hygiene.specs.Capture.{IsNotCaptured, NoneDeclares, NothingIsCaptured, Placed, placed_at, placed_by, placed_here}
use Rattle.ecma_hygiene.specs.Ids.{Id, Scope, declares, has_context, innermost, is_body_block, own_ids, same_id}
use Rattle.ecma_hygiene.specs.Laws.{is_seen, meets_binding}
use Rattle.ecma_hygiene.specs.Sights.{Around, around_child, beside_parameters, hidden, hides, meet, meetings, meetings_at, meets, nowhere, own_scope, sight_by, sight_here, sights, sights_at}
use Rattle.ecma_hygiene.specs.Texts.{AreTexts, is_bound, text_in}
use Rattle.ecma_hygiene.specs.Walks.{gathered_from}
use Rattle.ecma_hygiene.proofs.Bound.{nat-turn, own-bound}
use Rattle.ecma_hygiene.proofs.Telling.{and-both, id-refl, or-first, or-second, text-refl, texts-tell-apart, true-false}
use Rattle.ecma_hygiene.proofs.Walking.{gathered-out}

-- ---- a scope that is passed hides its bindings

hidden-append : (outer rest : List Scope) (id : Id) (so_far : List ℕ) → hidden (outer ++ rest) id so_far ≡ hidden rest id (hidden outer id so_far)
hidden-append [] rest id so_far = refl
hidden-append (s ∷ ss) rest id so_far = hidden-append ss rest id (cond (has_context id.1 (s id.0)) [] (so_far ++ s id.0))

hidden-keeps : (inner : List Scope) (id : Id) (so_far : List ℕ) (c : ℕ) → NoneDeclares inner id → has_context c so_far ≡ true → has_context c (hidden inner id so_far) ≡ true
hidden-keeps [] id so_far c none h = h
hidden-keeps (s ∷ ss) id so_far c none h =
    ap (λ (b : Bool). has_context c (hidden ss id (cond b [] (so_far ++ s id.0)))) none.0
    ∙ hidden-keeps ss id (so_far ++ s id.0) c none.1 (list_any-append (nat_eq c) so_far (s id.0) ∙ or-first (has_context c so_far) (has_context c (s id.0)) h)

hidden-has : (scopes outer : List Scope) (scope : Scope) (inner : List Scope) (id : Id) (c : ℕ) → scopes ≡ outer ++ scope ∷ inner → NoneDeclares (scope ∷ inner) id → has_context c (scope id.0) ≡ true
    → has_context c (hidden scopes id []) ≡ true
hidden-has scopes outer scope inner id c are none h =
    let before : List ℕ = hidden outer id [] in
    ap (λ (ss : List Scope). has_context c (hidden ss id [])) are ∙ ap (has_context c) (hidden-append outer (scope ∷ inner) id [])
    ∙ ap (λ (b : Bool). has_context c (hidden inner id (cond b [] (before ++ scope id.0)))) none.0
    ∙ hidden-keeps inner id (before ++ scope id.0) c none.1 (list_any-append (nat_eq c) before (scope id.0) ∙ or-second (has_context c before) (has_context c (scope id.0)) h)

meet-has : (name : Id) (ctxts : List ℕ) (c : ℕ) → has_context c ctxts ≡ true → meets_binding (meet name ctxts) name (name.0, c) ≡ true
meet-has name [] c h = h
meet-has name (x ∷ xs) c h = step (nat_eq c x) refl h (meet-has name xs c)
  where
    step : (b : Bool) → nat_eq c x ≡ b → (b || has_context c xs) ≡ true → (has_context c xs ≡ true → meets_binding (meet name xs) name (name.0, c) ≡ true) → meets_binding (meet name (x ∷ xs)) name (name.0, c) ≡ true
    step true is k rec = or-first (same_id name name && same_id (name.0, x) (name.0, c)) (meets_binding (meet name xs) name (name.0, c))
        (and-both (same_id name name) (same_id (name.0, x) (name.0, c)) (id-refl name) (and-both (bytes_eq name.0 name.0) (nat_eq x c) (text-refl name.0) (nat-turn c x is)))
    step false is k rec = or-second (same_id name name && same_id (name.0, x) (name.0, c)) (meets_binding (meet name xs) name (name.0, c)) (rec k)

module _ (seen : List Sight) (met : List Meeting) (names : List Named) (are : AreTexts seen met names) where
  abbrev Keeps : Placed → Type 0
  Keeps = IsNotCaptured (text_in names)

  abbrev ScopesBound : List Scope → Type 0
  ScopesBound [] = Unit {0}
  ScopesBound (scope ∷ scopes) = ((b : Id) → has_context b.1 (scope b.0) ≡ true → is_bound seen b ≡ true) × ScopesBound scopes

  bound-last : (scopes : List Scope) (own : Scope) → ScopesBound scopes → ((b : Id) → has_context b.1 (own b.0) ≡ true → is_bound seen b ≡ true) → ScopesBound (scopes ++ own ∷ [])
  bound-last [] own all h = (h, tt)
  bound-last (s ∷ ss) own all h = (all.0, bound-last ss own all.1 h)

  bound-at : (scopes outer : List Scope) (scope : Scope) (inner : List Scope) → scopes ≡ outer ++ scope ∷ inner → ScopesBound scopes → (b : Id) → has_context b.1 (scope b.0) ≡ true → is_bound seen b ≡ true
  bound-at scopes outer scope inner is all = in_split outer (subst ScopesBound is all)
    where
      in_split : (outer : List Scope) → ScopesBound (outer ++ scope ∷ inner) → (b : Id) → has_context b.1 (scope b.0) ≡ true → is_bound seen b ≡ true
      in_split [] h = h.0
      in_split (s ∷ ss) h = in_split ss h.1

  -- what stands in a node and its surroundings is what stands in the tree
  record Inside (n : Node) (s : Around) : Type 0 where
    pub seen_in : (f : Sight → Bool) → list_any f (sights_at n s) ≡ true → list_any f seen ≡ true
    pub met_in : (f : Meeting → Bool) → list_any f (meetings_at n s) ≡ true → list_any f met ≡ true
    pub bound_in : ScopesBound s.scopes

  not-same : (scope : Scope) (name binding : Id) → has_context binding.1 (scope binding.0) ≡ true → has_context name.1 (scope name.0) ≡ false → name ≡ binding → ⊥
  not-same scope name binding h k same = true-false h (ap (λ (i : Id). has_context i.1 (scope i.0)) (sym same) ∙ k)

  here-kept : (scopes : List Scope) (sym_ : List ℕ) (ctxt : ℕ) → ScopesBound scopes → is_seen seen (sym_, ctxt) ≡ true
      → ((c : ℕ) → has_context c (hidden scopes (sym_, ctxt) []) ≡ true → meets_binding met (sym_, ctxt) (sym_, c) ≡ true) → Keeps (record { name = (sym_, ctxt); scopes = scopes })
  here-kept scopes sym_ ctxt bounds there meets_it outer scope inner is none writes =
      texts-tell-apart seen met names (sym_, ctxt) writes.binding are there (bound-at scopes outer scope inner is bounds writes.binding writes.declared)
      (not-same scope (sym_, ctxt) writes.binding writes.declared none.0)
      (λ old also same.
      (let declared : has_context writes.binding.1 (scope sym_) ≡ true = ap (λ (t : List ℕ). has_context writes.binding.1 (scope t)) same ∙ writes.declared in
      let met_by = meets_it writes.binding.1 (hidden-has scopes outer scope inner (sym_, ctxt) writes.binding.1 is none declared) in
      ap (λ (t : List ℕ). meets_binding met (sym_, ctxt) (t, writes.binding.1)) (sym same) ∙ met_by))
      (sym writes.is)

  here-all : (named declares : Bool) (scopes : List Scope) (span : Span) (k : Kind) → ScopesBound scopes
      → ((f : Sight → Bool) → list_any f (sight_by named declares span k) ≡ true → list_any f seen ≡ true)
      → ((f : Meeting → Bool) → list_any f (hides named scopes k) ≡ true → list_any f met ≡ true) → All Keeps (placed_by named scopes k)
  here-all false declares scopes span (kind.Ident sym_ ctxt optional) bounds sees meeting_it =
      All-cons Keeps (record { name = (sym_, ctxt); scopes = scopes }) []
      (here-kept scopes sym_ ctxt bounds (sees (λ x. same_id x.id (sym_, ctxt)) (or-first (same_id (sym_, ctxt) (sym_, ctxt)) false (id-refl (sym_, ctxt))))
      (λ c h. meeting_it (λ m. same_id m.name (sym_, ctxt) && same_id m.binding (sym_, c)) (meet-has (sym_, ctxt) (hidden scopes (sym_, ctxt) []) c h))) (All-nil Keeps)
  here-all false declares scopes span _ bounds sees meeting_it = All-nil Keeps
  here-all true declares scopes span k bounds sees meeting_it = All-nil Keeps

  abbrev Kept : Node → Type 0
  Kept n = (s : Around) → Inside n s → All Keeps (placed_at n s)

  abbrev KeptBelow : List Node → Type 0
  KeptBelow ns = (n : Node) (s : Around) (i : ℕ) → ((f : Sight → Bool) → list_any f (gathered_from Around Sight (around_child s n) i (map sights_at ns)) ≡ true → list_any f seen ≡ true)
      → ((f : Meeting → Bool) → list_any f (gathered_from Around Meeting (around_child s n) i (map meetings_at ns)) ≡ true → list_any f met ≡ true)
      → ((j : ℕ) → ScopesBound (around_child s n j).scopes) → All Keeps (gathered_from Around Placed (around_child s n) i (map placed_at ns))

  kept-below : (ns : List ((n : Node) × Kept n)) → KeptBelow (map (λ e. e.0) ns)
  kept-below [] n s i sees meeting_it bounds = All-nil Keeps
  kept-below (x ∷ xs) n s i sees meeting_it bounds =
      let others : List Sight = gathered_from Around Sight (around_child s n) (suc i) (map sights_at (map (λ e. e.0) xs)) in
      let more : List Meeting = gathered_from Around Meeting (around_child s n) (suc i) (map meetings_at (map (λ e. e.0) xs)) in
      All-append Keeps (placed_at x.0 (around_child s n i)) (gathered_from Around Placed (around_child s n) (suc i) (map placed_at (map (λ e. e.0) xs)))
      (x.1 (around_child s n i) (record {
        seen_in = λ f h. sees f (list_any-append f (sights_at x.0 (around_child s n i)) others ∙ or-first (list_any f (sights_at x.0 (around_child s n i))) (list_any f others) h);
        met_in = λ f h. meeting_it f (list_any-append f (meetings_at x.0 (around_child s n i)) more ∙ or-first (list_any f (meetings_at x.0 (around_child s n i))) (list_any f more) h);
        bound_in = bounds i;
      }))
      (kept-below xs n s (suc i)
      (λ f h. sees f (list_any-append f (sights_at x.0 (around_child s n i)) others ∙ or-second (list_any f (sights_at x.0 (around_child s n i))) (list_any f others) h))
      (λ f h. meeting_it f (list_any-append f (meetings_at x.0 (around_child s n i)) more ∙ or-second (list_any f (meetings_at x.0 (around_child s n i))) (list_any f more) h))
      bounds)

  child-bound : (n : Node) (s : Around) (opened covered : Bool) → opens s.role n ≡ opened → Inside n s → ScopesBound (cond (opened && covered) (s.scopes ++ own_scope s.role s.scopes n ∷ []) s.scopes)
  child-bound n s true true is inside = bound-last s.scopes (own_scope s.role s.scopes n) inside.bound_in (λ b h. inside.seen_in (λ x. same_id x.id b && x.declares) (own-bound n s b is h))
  child-bound n s true false is inside = inside.bound_in
  child-bound n s false covered is inside = inside.bound_in

  layer-kept : (n : Node) → KeptBelow (out-Node n).children → Kept n
  layer-kept n children s inside =
      let sighted = gathered-out Around Sight sight_here around_child n s in
      let meeting_all = gathered-out Around Meeting meets around_child n s in
      let others : List Sight = gathered_from Around Sight (around_child s n) 0 (map sights_at (out-Node n).children) in
      let more : List Meeting = gathered_from Around Meeting (around_child s n) 0 (map meetings_at (out-Node n).children) in
      let beside : List Meeting = cond (opens s.role n && is_body_block s.role (out-Node n).kind) (beside_parameters (innermost s.scopes) (own_ids s.role (innermost s.scopes) n)) [] in
      let hiding : List Meeting = hides (is_name s.role) s.scopes (out-Node n).kind in
      subst (All Keeps) (sym (gathered-out Around Placed placed_here around_child n s))
      (All-append Keeps (placed_here s n) (gathered_from Around Placed (around_child s n) 0 (map placed_at (out-Node n).children))
      (here-all (is_name s.role) (list_any declares s.soughts) s.scopes (out-Node n).span (out-Node n).kind inside.bound_in
      (λ f h. inside.seen_in f (ap (list_any f) sighted ∙ list_any-append f (sight_here s n) others ∙ or-first (list_any f (sight_here s n)) (list_any f others) h))
      (λ f h. inside.met_in f (ap (list_any f) meeting_all ∙ list_any-append f (meets s n) more ∙ or-first (list_any f (meets s n)) (list_any f more)
      (list_any-append f beside hiding ∙ or-second (list_any f beside) (list_any f hiding) h))))
      (children n s 0
      (λ f h. inside.seen_in f (ap (list_any f) sighted ∙ list_any-append f (sight_here s n) others ∙ or-second (list_any f (sight_here s n)) (list_any f others) h))
      (λ f h. inside.met_in f (ap (list_any f) meeting_all ∙ list_any-append f (meets s n) more ∙ or-second (list_any f (meets s n)) (list_any f more) h))
      (λ j. child-bound n s (opens s.role n) (covers s.role (out-Node n).kind j) refl inside)))

  kept : (n : Node) → Kept n
  kept = ind-Node Kept (λ x y is.
      layer-kept (roll-Node x) (subst KeptBelow (ap (λ (z : Node-F Node). z.children) is ∙ sym (ap (λ (z : Node-F Node). z.children) (out-roll-Node x))) (kept-below y.children)))

pub nothing-is-captured : NothingIsCaptured
nothing-is-captured tree names are = kept (sights tree) (meetings tree) names are tree nowhere (record { seen_in = λ f h. h; met_in = λ f h. h; bound_in = tt })
