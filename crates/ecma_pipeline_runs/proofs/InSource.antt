-- An id of which no identifier stands in the source has none there without types either.
use Rattle.std.proofs.Common.{◌≡◌, ◌≢◌, ℕ, suc, ◌-◌, Bool, true, false, ◌&&◌, ◌||◌, cond, List, [], ◌∷◌, ◌++◌, map, filter, refl, sym, ap, ◌∙◌, subst}
use Rattle.std.specs.List.{All, list_any}
use Rattle.std.proofs.lemmas.List.Folds.{list_any-append}
use Rattle.ecma_kind.specs.declared.kind.Kind.{Kind}
use Rattle.ecma_kind.specs.declared.kind.Kind.TheVariants as kind
use Rattle.ecma_kind.specs.declared.span.Span.{Span}
use Rattle.ecma_tree.specs.declared.node.Node.{Node, Node-F, ind-Node, out-Node, roll-Node}
use Rattle.ecma_tree.specs.declared.node.Node.TheViews.{out-roll-Node}
use Rattle.ecma_tree.specs.Nodes.{node_of}
use Rattle.ecma_scope.specs.Resolved.{context_count, is_name, taken}
use Rattle.ecma_strip.specs.Staying.{stays}
use Rattle.ecma_strip.specs.Stripping.{plain_kind, staying_nodes, stripped}
use Rattle.ecma_strip.proofs.Stripping.{stripped-roll}
use Rattle.ecma_hygiene.specs.declared.sight.Sight.{Sight}
use Rattle.ecma_hygiene.specs.Ids.{Id, declares, same_id}
use Rattle.ecma_hygiene.specs.Sights.{Around, around_child, nowhere, sight_by, sight_here, sights, sights_at, stands_in_source}
use Rattle.ecma_hygiene.specs.Texts.{is_in_source}
use Rattle.ecma_hygiene.specs.Walks.{gathered_from}
use Rattle.ecma_hygiene.proofs.Telling.{id-same, or-left, or-right, true-false}
use Rattle.ecma_hygiene.proofs.Walking.{gathered-out}
use Rattle.ecma_hygiene_scopes.specs.Stops.{Stop, stops, stops_at, stops_from}
use Rattle.ecma_hygiene_scopes.proofs.Stopping.{All-first, All-second, stop-here, stops-below}
use Rattle.ecma_pipeline_runs.proofs.Names.{IsEmpty}
use Rattle.ecma_pipeline_spans.proofs.PlainNodes.{plain_good}
use Rattle.ecma_pipeline_spans.proofs.Trees.{Each, Everywhere, everywhere, more, none}

module _ (id : Id) where
  -- an identifier of this id in the source
  abbrev stands : Kind → Span → Bool
  stands (kind.Ident text ctxt optional) at = same_id (text, ctxt) id && stands_in_source at
  stands _ at = false

  abbrev IsAway : Span → Kind → Type 0
  IsAway at k = stands k at ≡ false

  abbrev Away : Node → Type 0
  Away = Everywhere IsAway

  abbrev AllAway : List Node → Type 0
  AllAway = Each IsAway

  -- without types

  kind-away : (at : Span) (k : Kind) → IsAway at k → IsAway at (plain_kind k)
  unfolding plain_kind
  kind-away at (kind.Ident text ctxt optional) h = h
  kind-away at _ h = refl

  staying-away : (k : Kind) (ns : List Node) → AllAway (map stripped (filter stays ns)) → AllAway (map stripped ns) → AllAway (map stripped (staying_nodes k ns))
  staying-away kind.List ns some every = some
  staying-away _ ns some every = every

  kept-away : (b : Bool) (n : Node) (ns : List Node) → Away (stripped n) → AllAway (map stripped ns) → AllAway (map stripped (cond b (n ∷ ns) ns))
  kept-away true n ns g h = more g h
  kept-away false n ns g h = h

  mutual
    stripped-away : {n : Node} → Away n → Away (stripped n)
    stripped-away (everywhere at k {children = cs} p h) =
        subst Away (sym (stripped-roll (record { span = at; kind = k; children = cs }))) (plain_good IsAway refl (λ at. refl) kind-away at k p (staying-away k cs (some-away h) (every-away h)))

    some-away : {ns : List Node} → AllAway ns → AllAway (map stripped (filter stays ns))
    some-away none = none
    some-away (more {n = n} {ns = ns} a h) = kept-away (stays n) n (filter stays ns) (stripped-away a) (some-away h)

    every-away : {ns : List Node} → AllAway ns → AllAway (map stripped ns)
    every-away none = none
    every-away (more a h) = more (stripped-away a) (every-away h)

  -- by what is seen of a tree in which no name but those of variables has this context

  in-append : (xs ys : List Sight) → is_in_source (xs ++ ys) id ≡ (is_in_source xs id || is_in_source ys id)
  in-append xs ys = list_any-append (λ (x : Sight). same_id x.id id && x.in_source) xs ys

  and-other : (a b : Bool) → a ≡ false → (a && b) ≡ false
  and-other true b h = absurd (true-false refl h)
  and-other false b h = refl

  other-id : (text : List ℕ) (ctxt : ℕ) (b : Bool) → same_id (text, ctxt) id ≡ b → ctxt ≡ 0 → id.1 ≢ 0 → b ≡ false
  other-id text ctxt true same zero inner = absurd (inner (ap (λ (i : Id). i.1) (sym (id-same (text, ctxt) id same)) ∙ zero))
  other-id text ctxt false same zero inner = refl

  here-away : (named d : Bool) (at : Span) (k : Kind) → id.1 ≢ 0 → ((text : List ℕ) (ctxt : ℕ) (optional : Bool) → k ≡ kind.Ident text ctxt optional → named ≡ true → ctxt ≡ 0)
      → is_in_source (sight_by named d at k) id ≡ false → IsAway at k
  here-away true d at (kind.Ident text ctxt optional) inner names h =
      and-other (same_id (text, ctxt) id) (stands_in_source at) (other-id text ctxt (same_id (text, ctxt) id) refl (names text ctxt optional refl refl) inner)
  here-away false d at (kind.Ident text ctxt optional) inner names h = or-left (same_id (text, ctxt) id && stands_in_source at) false h
  here-away true d at _ inner names h = refl
  here-away false d at _ inner names h = refl

  abbrev Seen : Node → Type 0
  Seen n = (s : Around) (left : ℕ) → All IsEmpty (stops_at n s left) → is_in_source (sights_at n s) id ≡ false → Away n

  abbrev AllSeen : List Node → Type 0
  AllSeen cs = (arounds : ℕ → Around) (i left : ℕ) → All IsEmpty (stops_from arounds i cs (map stops_at cs) left) → is_in_source (gathered_from Around Sight arounds i (map sights_at cs)) id ≡ false → AllAway cs

  all-seen : (ns : List ((n : Node) × Seen n)) → AllSeen (map (λ e. e.0) ns)
  all-seen [] arounds i left names h = none
  all-seen (n ∷ ns) arounds i left names h =
      let others : List Node = map (λ e. e.0) ns in
      let less : ℕ = left - context_count n.0 (arounds i).role in
      let rest : List Stop = stops_from arounds (suc i) others (map stops_at others) less in
      let later : List Sight = gathered_from Around Sight arounds (suc i) (map sights_at others) in
      let parts = sym (in-append (sights_at n.0 (arounds i)) later) ∙ h in
      more (n.1 (arounds i) left (All-first IsEmpty (stops_at n.0 (arounds i) left) rest names) (or-left (is_in_source (sights_at n.0 (arounds i)) id) (is_in_source later id) parts))
      (all-seen ns arounds (suc i) less (All-second IsEmpty (stops_at n.0 (arounds i) left) rest names) (or-right (is_in_source (sights_at n.0 (arounds i)) id) (is_in_source later id) parts))

  seen : id.1 ≢ 0 → (n : Node) → Seen n
  seen inner = ind-Node Seen (λ x y is s left names h.
      let n = roll-Node x in
      let out = out-roll-Node x in
      let later : List Sight = gathered_from Around Sight (around_child s n) 0 (map sights_at (out-Node n).children) in
      let parts = sym (in-append (sight_here s n) later) ∙ sym (ap (λ (xs : List Sight). is_in_source xs id) (gathered-out Around Sight sight_here around_child n s)) ∙ h in
      let below : AllSeen (out-Node n).children = subst AllSeen (ap (λ (z : Node-F Node). z.children) is ∙ sym (ap (λ (z : Node-F Node). z.children) out)) (all-seen y.children) in
      let own : IsAway (out-Node n).span (out-Node n).kind =
      here-away (is_name s.role) (list_any declares s.soughts) (out-Node n).span (out-Node n).kind inner (stop-here IsEmpty n s left names) (or-left (is_in_source (sight_here s n) id) (is_in_source later id) parts) in
      let children : AllAway (out-Node n).children =
      below (around_child s n) 0 (left - taken s.role n) (stops-below IsEmpty n s left names) (or-right (is_in_source (sight_here s n) id) (is_in_source later id) parts) in
      everywhere x.span x.kind (subst (λ (z : Node-F Node). IsAway z.span z.kind) out own) (subst AllAway (ap (λ (z : Node-F Node). z.children) out) children))

  -- and so nothing is seen of it there

  none-here : (named d : Bool) (at : Span) (k : Kind) → IsAway at k → is_in_source (sight_by named d at k) id ≡ false
  none-here true d at k h = refl
  none-here false d at (kind.Ident text ctxt optional) h = ap (λ b. b || false) h
  none-here false d at _ h = refl

  mutual
    unseen : {n : Node} → Away n → (s : Around) → is_in_source (sights_at n s) id ≡ false
    unseen (everywhere at k {children = cs} p h) s =
        let x : Node-F Node = record { span = at; kind = k; children = cs } in
        let n = node_of at k cs in
        let out = out-roll-Node x in
        let later : List Sight = gathered_from Around Sight (around_child s n) 0 (map sights_at (out-Node n).children) in
        let own : IsAway (out-Node n).span (out-Node n).kind = subst (λ (z : Node-F Node). IsAway z.span z.kind) (sym out) p in
        ap (λ (xs : List Sight). is_in_source xs id) (gathered-out Around Sight sight_here around_child n s) ∙ in-append (sight_here s n) later
        ∙ (λ i. none-here (is_name s.role) (list_any declares s.soughts) (out-Node n).span (out-Node n).kind own i || is_in_source later id)
        ∙ subst (λ (ds : List Node). is_in_source (gathered_from Around Sight (around_child s n) 0 (map sights_at ds)) id ≡ false) (sym (ap (λ (z : Node-F Node). z.children) out)) (unseen-below h (around_child s n) 0)

    unseen-below : {ns : List Node} → AllAway ns → (arounds : ℕ → Around) (i : ℕ) → is_in_source (gathered_from Around Sight arounds i (map sights_at ns)) id ≡ false
    unseen-below none arounds i = refl
    unseen-below (more {n = n} {ns = ns} a h) arounds i =
        let later : List Sight = gathered_from Around Sight arounds (suc i) (map sights_at ns) in
        in-append (sights_at n (arounds i)) later ∙ (λ j. unseen a (arounds i) j || is_in_source later id) ∙ unseen-below h arounds (suc i)

pub none-in-source : (id : Id) (left : ℕ) (tree : Node) → id.1 ≢ 0 → All IsEmpty (stops left tree) → is_in_source (sights tree) id ≡ false → is_in_source (sights (stripped tree)) id ≡ false
none-in-source id left tree inner names h = unseen id (stripped-away id (seen id inner tree nowhere left names h)) nowhere
