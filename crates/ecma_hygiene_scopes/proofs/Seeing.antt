-- Each identifier of a tree whose contexts tell its scopes apart has a context of a scope, or that of free names.
use Rattle.std.proofs.Common.{◌≡◌, ◌⊎◌, inl, inr, ℕ, suc, ◌-◌, Bool, true, false, ◌&&◌, ◌||◌, cond, List, [], ◌∷◌, ◌++◌, map, refl, sym, ap, ◌∙◌, subst}
use Rattle.std.specs.List.{All, list_any}
use Rattle.std.proofs.lemmas.List.Elements.{All-append, All-cons, All-head, All-nil, All-tail}
use Rattle.ecma_kind.specs.declared.kind.Kind.{Kind}
use Rattle.ecma_kind.specs.declared.kind.Kind.TheVariants as kind
use Rattle.ecma_kind.specs.declared.span.Span.{Span}
use Rattle.ecma_tree.specs.declared.node.Node.{Node, Node-F, ind-Node, out-Node, roll-Node}
use Rattle.ecma_tree.specs.declared.node.Node.TheViews.{out-roll-Node}
use Rattle.ecma_scope.specs.Resolved.{context_count, is_name, taken}
use Rattle.ecma_scope.specs.Scopes.{covers, opens}
use Rattle.ecma_hygiene.specs.declared.sight.Sight.{Sight}
use Rattle.ecma_hygiene.specs.Capture.{NoneDeclares}
use Rattle.ecma_hygiene.specs.Ids.{Id, Scope, declares, has_context, same_id}
use Rattle.ecma_hygiene.specs.Laws.{is_seen}
use Rattle.ecma_hygiene.specs.Sights.{Around, around_child, nowhere, own_scope, sight_by, sight_here, sights, sights_at}
use Rattle.ecma_hygiene.specs.Walks.{gathered_from}
use Rattle.ecma_hygiene.proofs.Telling.{true-false}
use Rattle.ecma_hygiene.proofs.Walking.{gathered-out}
use Rattle.ecma_hygiene_scopes.specs.Laws.{ContextsAreMapped}
use Rattle.ecma_hygiene_scopes.specs.Apart.{IsContext, IsScoped, own_contexts}
use Rattle.ecma_hygiene_scopes.specs.Stops.{Stop, stops, stops_at, stops_from}
use Rattle.ecma_hygiene_scopes.proofs.Membership.{id-same}
use Rattle.ecma_hygiene_scopes.proofs.Mapping.{mapped, own-has, to}
use Rattle.ecma_hygiene_scopes.proofs.Stopping.{All-first, All-second, IsAmong, all-among, stop-here, stops-below}

module _ (free left : ℕ) (tree : Node) where
  abbrev all : List Stop
  all = stops left tree

  abbrev Known : Sight → Type 0
  Known x = IsContext free left tree x.id.1

  -- what these scopes declare, scopes of the tree declare
  abbrev AmongScopes : List Scope → Type 0
  AmongScopes [] = Unit {0}
  AmongScopes (w ∷ ws) = ((id : Id) → has_context id.1 (w id.0) ≡ true → list_any (λ stop. has_context id.1 (own_contexts stop)) all ≡ true) × AmongScopes ws

  among-last : (ws : List Scope) (w : Scope) → AmongScopes ws → ((id : Id) → has_context id.1 (w id.0) ≡ true → list_any (λ stop. has_context id.1 (own_contexts stop)) all ≡ true) → AmongScopes (ws ++ w ∷ [])
  among-last [] w among h = (h, tt)
  among-last (v ∷ ws) w among h = (among.0, among-last ws w among.1 h)

  among-child : (opened covered : Bool) (ws : List Scope) (w : Scope) → AmongScopes ws → (opened ≡ true → (id : Id) → has_context id.1 (w id.0) ≡ true → list_any (λ stop. has_context id.1 (own_contexts stop)) all ≡ true)
      → AmongScopes (cond (opened && covered) (ws ++ w ∷ []) ws)
  among-child true true ws w among h = among-last ws w among (h refl)
  among-child true false ws w among h = among
  among-child false covered ws w among h = among

  decide-by : (w : Scope) (ws : List Scope) (id : Id) (b : Bool) → has_context id.1 (w id.0) ≡ b → AmongScopes (w ∷ ws) → (NoneDeclares ws id ⊎ (list_any (λ stop. has_context id.1 (own_contexts stop)) all ≡ true))
      → NoneDeclares (w ∷ ws) id ⊎ (list_any (λ stop. has_context id.1 (own_contexts stop)) all ≡ true)
  decide-by w ws id true is among rest = inr (among.0 id is)
  decide-by w ws id false is among (inl none) = inl (is, none)
  decide-by w ws id false is among (inr there) = inr there

  decide : (ws : List Scope) (id : Id) → AmongScopes ws → NoneDeclares ws id ⊎ (list_any (λ stop. has_context id.1 (own_contexts stop)) all ≡ true)
  decide [] id among = inl tt
  decide (w ∷ ws) id among = decide-by w ws id (has_context id.1 (w id.0)) refl among (decide ws id among.1)

  known-by : (ws : List Scope) (named declares : Bool) (span : Span) (k : Kind) → AmongScopes ws
      → ((t : List ℕ) (c : ℕ) (o : Bool) → k ≡ kind.Ident t c o → named ≡ false → NoneDeclares ws (t, c) → c ≡ free) → All Known (sight_by named declares span k)
  known-by ws false declares span (kind.Ident t c o) among free_names =
      All-cons Known _ [] (elim (decide ws (t, c) among) [ inl none ↦ inl (free_names t c o refl refl none) | inr there ↦ inr there ]) (All-nil Known)
  known-by ws false declares span _ among free_names = All-nil Known
  known-by ws true declares span k among free_names = All-nil Known

  abbrev Sees : Node → Type 0
  Sees n = (s : Around) (less : ℕ) → All (IsScoped free) (stops_at n s less) → All (IsAmong all) (stops_at n s less) → AmongScopes s.scopes → All Known (sights_at n s)

  abbrev AllSee : List Node → Type 0
  AllSee ns = (arounds : ℕ → Around) (i less : ℕ) → All (IsScoped free) (stops_from arounds i ns (map stops_at ns) less) → All (IsAmong all) (stops_from arounds i ns (map stops_at ns) less)
      → ((j : ℕ) → AmongScopes (arounds j).scopes) → All Known (gathered_from Around Sight arounds i (map sights_at ns))

  all-see : (ns : List ((n : Node) × Sees n)) → AllSee (map (λ e. e.0) ns)
  all-see [] arounds i less scoped among scopes = All-nil Known
  all-see (n ∷ ns) arounds i less scoped among scopes =
      let others : List Node = map (λ e. e.0) ns in
      let next : ℕ = less - context_count n.0 (arounds i).role in
      let rest : List Stop = stops_from arounds (suc i) others (map stops_at others) next in
      All-append Known (sights_at n.0 (arounds i)) (gathered_from Around Sight arounds (suc i) (map sights_at others))
      (n.1 (arounds i) less (All-first (IsScoped free) (stops_at n.0 (arounds i) less) rest scoped) (All-first (IsAmong all) (stops_at n.0 (arounds i) less) rest among) (scopes i))
      (all-see ns arounds (suc i) next (All-second (IsScoped free) (stops_at n.0 (arounds i) less) rest scoped) (All-second (IsAmong all) (stops_at n.0 (arounds i) less) rest among) scopes)

  layer-sees : (n : Node) → AllSee (out-Node n).children → Sees n
  layer-sees n children s less scoped among scopes =
      let here : Stop = record { node = n; around = s; left = less } in
      let mine : IsScoped free here = stop-here (IsScoped free) n s less scoped in
      let there : IsAmong all here = stop-here (IsAmong all) n s less among in
      subst (All Known) (sym (gathered-out Around Sight sight_here around_child n s))
      (All-append Known (sight_here s n) (gathered_from Around Sight (around_child s n) 0 (map sights_at (out-Node n).children))
      (known-by s.scopes (is_name s.role) (list_any declares s.soughts) (out-Node n).span (out-Node n).kind scopes mine.free_names)
      (children (around_child s n) 0 (less - taken s.role n) (stops-below (IsScoped free) n s less scoped) (stops-below (IsAmong all) n s less among)
      (λ j. among-child (opens s.role n) (covers s.role (out-Node n).kind j) s.scopes (own_scope s.role s.scopes n) scopes
      (λ is id h. there (λ stop. has_context id.1 (own_contexts stop)) (own-has here id is h)))))

  sees : (n : Node) → Sees n
  sees = ind-Node Sees (λ x y is.
      layer-sees (roll-Node x) (subst AllSee (ap (λ (z : Node-F Node). z.children) is ∙ sym (ap (λ (z : Node-F Node). z.children) (out-roll-Node x))) (all-see y.children)))

  pub all-known : All (IsScoped free) (stops left tree) → All Known (sights tree)
  all-known scoped = sees tree nowhere left scoped (all-among all) tt

  seen-by : (id : Id) (xs : List Sight) → All Known xs → list_any (λ x. same_id x.id id) xs ≡ true → IsContext free left tree id.1
  seen-by id [] known h = absurd (true-false h refl)
  seen-by id (x ∷ xs) known h = by (same_id x.id id) refl h (seen-by id xs (All-tail Known x xs known))
    where
      by : (b : Bool) → same_id x.id id ≡ b → (b || list_any (λ y. same_id y.id id) xs) ≡ true → (list_any (λ y. same_id y.id id) xs ≡ true → IsContext free left tree id.1) → IsContext free left tree id.1
      by true is h rec = subst (λ (i : Id). IsContext free left tree i.1) (id-same x.id id is) (All-head Known x xs known)
      by false is h rec = rec h

  pub seen-context : All (IsScoped free) (stops left tree) → (id : Id) → is_seen (sights tree) id ≡ true → IsContext free left tree id.1
  seen-context scoped id h = seen-by id (sights tree) (all-known scoped) h

pub contexts-are-mapped : ContextsAreMapped
contexts-are-mapped unresolved top free left tree scopes unresolved_above top_above apart enough =
    (to unresolved top free left tree scopes, mapped unresolved top free left tree scopes unresolved_above top_above apart enough (seen-context free left tree scopes.scoped))
