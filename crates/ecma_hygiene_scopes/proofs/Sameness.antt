-- What a tree and the resolved tree have in common.
use Rattle.std.proofs.Common.{◌≡◌, ℕ, zero, suc, ◌+◌, ◌-◌, Bool, true, false, ◌&&◌, not, cond, List, [], ◌∷◌, map, Option, Some, None, refl, sym, ap, ap₂, ◌∙◌, subst}
use Rattle.ecma_kind.specs.declared.kind.Kind.{Kind}
use Rattle.ecma_kind.specs.declared.kind.Kind.TheVariants as kind
use Rattle.ecma_kind.specs.declared.span.Span.{Span}
use Rattle.ecma_tree.specs.declared.node.Node.{Node, Node-F, ind-Node, out-Node, roll-Node}
use Rattle.ecma_tree.specs.declared.node.Node.TheViews.{out-roll-Node, roll-out-Node}
use Rattle.ecma_tree.specs.Contexts.{kind_with_context, with_contexts}
use Rattle.ecma_tree.specs.Nodes.{node_of}
use Rattle.ecma_tree.proofs.Changing.{changed-parts}
use Rattle.ecma_tree.specs.Values.{is_value_where}
use Rattle.ecma_tree.proofs.Layers.{from_leaves_out}
use Rattle.ecma_scope.specs.declared.role.Role.{Role}
use Rattle.ecma_scope.specs.declared.role.Role.TheVariants as role
use Rattle.ecma_scope.specs.declared.form.Sought.{Sought}
use Rattle.ecma_scope.specs.Declarations.{declarations, sought_by, sought_in}
use Rattle.ecma_scope.specs.Laws.{without_contexts}
use Rattle.ecma_scope.specs.Resolved.{Place, context_count, counted, inside, is_name, kind_at, placed, resolved_at, taken}
use Rattle.ecma_scope.specs.Scopes.{is_root, is_there, opens, role_by, role_in}
use Rattle.ecma_scope.proofs.Opening.{context_count-out, resolved_at-out}
use Rattle.ecma_hygiene.specs.declared.spot.Spot.TheVariants as spot
use Rattle.ecma_hygiene.specs.declared.spot.Standing.{Standing}
use Rattle.ecma_hygiene.specs.Renamed.{Texts, expanded, kind_with_text, old_name, old_name_by, renamed_at, renamed_step, shared_name, standing_in, written_from, written_of}
use Rattle.ecma_hygiene_scopes.specs.DeclaredIds.{ids_declared, with_text}
use Rattle.ecma_hygiene_scopes.proofs.Declaring.{declares-again}
use Rattle.ecma_hygiene_scopes.proofs.KindsTurned.{ident-seeks}
use Rattle.ecma_hygiene_scopes.proofs.Parts.{children-of, contexts-of, kind-of}
use Rattle.ecma_hygiene_scopes.proofs.Resolving.{absent-resolved}
use Rattle.ecma_hygiene_scopes.proofs.Scoping.{opens-again}
use Rattle.ecma_hygiene_scopes.proofs.Values.{value-again}

abbrev pub no_text : Texts
no_text id = None

-- ---- where nothing gets a text, and no context changes, a tree stays

none-by : (span : Span) (k : Kind) → old_name_by no_text span k ≡ None
none-by span (kind.Ident s c o) = refl
none-by span _ = refl

none-old : (name : Option Node) → old_name no_text name ≡ None
none-old (Some node) = none-by (out-Node node).span (out-Node node).kind
none-old None = refl

same-kind : (named : Bool) (k : Kind) → kind_with_text no_text named k ≡ k
same-kind false (kind.Ident s c o) = refl
same-kind false _ = refl
same-kind true k = refl

abbrev Stays : Node → Type 0
Stays n = (stands : Standing) → renamed_at no_text n stands ≡ n

abbrev AllStay : List Node → Type 0
AllStay ns = (stands : ℕ → Standing) (i : ℕ) → written_from stands i (map (renamed_at no_text) ns) ≡ ns

all-stay : (ns : List ((n : Node) × Stays n)) → AllStay (map (λ e. e.0) ns)
all-stay [] stands i = refl
all-stay (n ∷ ns) stands i = ap₂ (λ a rest. a ∷ rest) (n.1 (stands i)) (all-stay ns stands (suc i))

layer-stays : (n : Node) → AllStay (out-Node n).children → Stays n
layer-stays n children stands =
    ap (λ f. f stands) (from_leaves_out (Standing → Node) (renamed_step no_text) n)
    ∙ ap (λ o. expanded o (written_of no_text stands n (written_from (standing_in stands n) 0 (map (renamed_at no_text) (out-Node n).children)))) (none-old (shared_name stands n))
    ∙ (λ j. node_of (out-Node n).span (same-kind (is_name stands.role) (out-Node n).kind j) (children (standing_in stands n) 0 j))
    ∙ roll-out-Node n

pub stays : (n : Node) → Stays n
stays = ind-Node Stays (λ x y is.
    layer-stays (roll-Node x) (subst AllStay (ap (λ (z : Node-F Node). z.children) is ∙ sym (ap (λ (z : Node-F Node). z.children) (out-roll-Node x))) (all-stay y.children)))

abbrev own : List ℕ → ℕ → ℕ
own text ctxt = ctxt

own-kind : (k : Kind) → kind_with_context own k ≡ k
own-kind (kind.Ident s c o) = refl
own-kind _ = refl

abbrev Same : Node → Type 0
Same n = with_contexts own n ≡ n

all-same : (ns : List ((n : Node) × Same n)) → map (with_contexts own) (map (λ e. e.0) ns) ≡ map (λ e. e.0) ns
all-same [] = refl
all-same (n ∷ ns) = ap₂ (λ a rest. a ∷ rest) n.1 (all-same ns)

layer-same : (n : Node) → map (with_contexts own) (out-Node n).children ≡ (out-Node n).children → Same n
layer-same n children =
    changed-parts (λ span. span) (kind_with_context own) n ∙ (λ j. node_of (out-Node n).span (own-kind (out-Node n).kind j) (children j)) ∙ roll-out-Node n

pub contexts-stay : (n : Node) → with_contexts own n ≡ n
contexts-stay = ind-Node Same (λ x y is.
    layer-same (roll-Node x) (subst (λ (ns : List Node). map (with_contexts own) ns ≡ ns) (ap (λ (z : Node-F Node). z.children) is ∙ sym (ap (λ (z : Node-F Node). z.children) (out-roll-Node x))) (all-same y.children)))

-- ---- so contexts are nothing to these

abbrev plainly : Standing
plainly = record { role = role.Plain; spot = spot.Elsewhere }

abbrev empty : List ℕ → ℕ → ℕ
empty text ctxt = 0

bare-value : (s : Bool) (n : Node) → is_value_where s (without_contexts n) ≡ is_value_where s n
bare-value s n = ap (λ (z : Node). is_value_where s (without_contexts z)) (sym (stays n plainly)) ∙ value-again empty no_text (λ text. refl) n s plainly

bare-opens : (r : Role) (n : Node) → opens r (without_contexts n) ≡ opens r n
bare-opens r n = ap (λ (z : Node). opens r (without_contexts z)) (sym (stays n plainly)) ∙ opens-again empty no_text (λ text. refl) n plainly r

bare-declares : (n : Node) (q : Sought) → declarations (without_contexts n) q ≡ map (with_text no_text) (ids_declared n q)
bare-declares n q = ap (λ (z : Node). declarations (without_contexts z) q) (sym (stays n plainly)) ∙ declares-again empty no_text (λ text. refl) n plainly q (λ h. (refl, refl))

pub declares-ids : (n : Node) (q : Sought) → declarations n q ≡ map (with_text no_text) (ids_declared n q)
declares-ids n q =
    ap (λ (z : Node). declarations z q) (sym (contexts-stay n) ∙ ap (with_contexts own) (sym (stays n plainly))) ∙ declares-again own no_text (λ text. refl) n plainly q (λ h. (refl, refl))

-- ---- the resolved node

module _ (unresolved top : ℕ) where
  abbrev res : Node → Place → ℕ → Node
  res = resolved_at unresolved top

  abbrev pub children_resolved : Node → Place → ℕ → List Node
  children_resolved m place left = placed (inside top place m left) 0 (out-Node m).children (map (resolved_at unresolved top) (out-Node m).children) (left - taken place.role m)

  bare-at : (place : Place) (k : Kind) → kind_with_context empty (kind_at unresolved place k) ≡ kind_with_context empty k
  bare-at place (kind.Ident s c o) = refl
  bare-at place _ = refl

  abbrev Kept : Node → Type 0
  Kept m = (place : Place) (left : ℕ) → without_contexts (res m place left) ≡ without_contexts m

  abbrev AllKept : List Node → Type 0
  AllKept ms = (places : ℕ → Place) (i left : ℕ) → map without_contexts (placed places i ms (map res ms) left) ≡ map without_contexts ms

  all-kept : (ms : List ((m : Node) × Kept m)) → AllKept (map (λ e. e.0) ms)
  all-kept [] places i left = refl
  all-kept (m ∷ ms) places i left = ap₂ (λ a rest. a ∷ rest) (m.1 (places i) left) (all-kept ms places (suc i) (left - context_count m.0 (places i).role))

  layer-kept : (m : Node) → AllKept (out-Node m).children → Kept m
  layer-kept m children place left =
      ap without_contexts (resolved_at-out unresolved top m place left)
      ∙ contexts-of empty (out-Node m).span (kind_at unresolved place (out-Node m).kind) (children_resolved m place left)
      ∙ (λ j. node_of (out-Node m).span (bare-at place (out-Node m).kind j) (children (inside top place m left) 0 (left - taken place.role m) j))
      ∙ sym (changed-parts (λ span. span) (kind_with_context empty) m)

  kept : (m : Node) → Kept m
  kept = ind-Node Kept (λ x y is.
      layer-kept (roll-Node x) (subst AllKept (ap (λ (z : Node-F Node). z.children) is ∙ sym (ap (λ (z : Node-F Node). z.children) (out-roll-Node x))) (all-kept y.children)))

  pub value-resolved : (s : Bool) (m : Node) (place : Place) (left : ℕ) → is_value_where s (res m place left) ≡ is_value_where s m
  value-resolved s m place left = sym (bare-value s (res m place left)) ∙ ap (is_value_where s) (kept m place left) ∙ bare-value s m

  pub opens-resolved : (m : Node) (place : Place) (left : ℕ) (r : Role) → opens r (res m place left) ≡ opens r m
  opens-resolved m place left r = sym (bare-opens r (res m place left)) ∙ ap (opens r) (kept m place left) ∙ bare-opens r m

  -- the resolved node declares the texts that the node declares
  pub declares-resolved : (m : Node) (place : Place) (left : ℕ) (q : Sought) → declarations m q ≡ map (with_text no_text) (ids_declared (res m place left) q)
  declares-resolved m place left q =
      declares-ids m q ∙ sym (bare-declares m q) ∙ ap (λ (z : Node). declarations z q) (sym (kept m place left)) ∙ bare-declares (res m place left) q

  module _ {A : Type 0} (f : Kind → A) (alike : (s t : List ℕ) (c d : ℕ) (o : Bool) → f (kind.Ident s c o) ≡ f (kind.Ident t d o)) where
    at-same : (place : Place) (k : Kind) → f (kind_at unresolved place k) ≡ f k
    at-same place (kind.Ident s c o) = alike _ _ _ _ o
    at-same place _ = refl

    pub kind-resolved : (m : Node) (place : Place) (left : ℕ) → f (out-Node (res m place left)).kind ≡ f (out-Node m).kind
    kind-resolved m place left =
        ap (λ (z : Node). f (out-Node z).kind) (resolved_at-out unresolved top m place left)
        ∙ ap f (kind-of (out-Node m).span (kind_at unresolved place (out-Node m).kind) (children_resolved m place left)) ∙ at-same place (out-Node m).kind

  pub kind-here : (m : Node) (place : Place) (left : ℕ) → (out-Node (res m place left)).kind ≡ kind_at unresolved place (out-Node m).kind
  kind-here m place left =
      ap (λ (z : Node). (out-Node z).kind) (resolved_at-out unresolved top m place left) ∙ kind-of (out-Node m).span (kind_at unresolved place (out-Node m).kind) (children_resolved m place left)

  pub children-here : (m : Node) (place : Place) (left : ℕ) → (out-Node (res m place left)).children ≡ children_resolved m place left
  children-here m place left =
      ap (λ (z : Node). (out-Node z).children) (resolved_at-out unresolved top m place left) ∙ children-of (out-Node m).span (kind_at unresolved place (out-Node m).kind) (children_resolved m place left)

  there-placed : (places : ℕ → Place) (k : ℕ) (xs : List Node) (left i : ℕ) → is_there (placed places k xs (map res xs) left) i ≡ is_there xs i
  there-placed places k [] left i = refl
  there-placed places k (x ∷ xs) left zero = ap not (absent-resolved unresolved top x (places k) left)
  there-placed places k (x ∷ xs) left (suc i) = there-placed places (suc k) xs (left - context_count x (places k).role) i

  pub role-resolved : (m : Node) (place : Place) (left : ℕ) (r : Role) (i : ℕ) → role_in r (res m place left) i ≡ role_in r m i
  unfolding role_by
  role-resolved m place left r i =
      ap (λ (zs : List Node). role_by r (out-Node (res m place left)).kind (is_there zs 1) i) (children-here m place left)
      ∙ ap (λ (b : Bool). role_by r (out-Node (res m place left)).kind b i) (there-placed (inside top place m left) 0 (out-Node m).children (left - taken place.role m) 1)
      ∙ kind-resolved (λ (k : Kind). role_by r k (is_there (out-Node m).children 1) i) (λ s t c d o. refl) m place left

  pub sought-resolved : (m : Node) (place : Place) (left : ℕ) (q : Sought) (i : ℕ) → sought_in q (res m place left) i ≡ sought_in q m i
  unfolding sought_in
  sought-resolved m place left q i =
      ap (λ (b : Bool). sought_by q.part q.stays b (out-Node (res m place left)).kind i) (value-resolved q.stays m place left)
      ∙ kind-resolved (λ (k : Kind). sought_by q.part q.stays (is_value_where q.stays m) k i) (λ s t c d o. ident-seeks (λ text ctxt. 0) no_text q.part q.stays (is_value_where q.stays m) i s c o ∙ sym (ident-seeks (λ text ctxt. 0) no_text q.part q.stays (is_value_where q.stays m) i t d o)) m place left

  -- and takes as many contexts
  abbrev Counts : Node → Type 0
  Counts m = (place : Place) (left : ℕ) (r : Role) → context_count (res m place left) r ≡ context_count m r

  all-count : (ms : List ((m : Node) × Counts m)) (places : ℕ → Place) (roles : ℕ → Role) (i left : ℕ)
      → counted roles i (map context_count (placed places i (map (λ e. e.0) ms) (map res (map (λ e. e.0) ms)) left)) ≡ counted roles i (map context_count (map (λ e. e.0) ms))
  all-count [] places roles i left = refl
  all-count (m ∷ ms) places roles i left = ap₂ (λ (a b : ℕ). a + b) (m.1 (places i) left (roles i)) (all-count ms places roles (suc i) (left - context_count m.0 (places i).role))

  abbrev AllCount : List Node → Type 0
  AllCount ms = (places : ℕ → Place) (roles : ℕ → Role) (i left : ℕ) → counted roles i (map context_count (placed places i ms (map res ms) left)) ≡ counted roles i (map context_count ms)

  layer-counts : (m : Node) → AllCount (out-Node m).children → Counts m
  layer-counts m children place left r =
      context_count-out (res m place left) r
      ∙ ap₂ (λ (a b : ℕ). a + b) (ap (λ (b : Bool). cond (b && not (is_root r)) 1 0) (opens-resolved m place left r))
      ((λ j. counted (λ i. role-resolved m place left r i j) 0 (map context_count (children-here m place left j))) ∙ children (inside top place m left) (role_in r m) 0 (left - taken place.role m))
      ∙ sym (context_count-out m r)

  pub counts-resolved : (m : Node) → Counts m
  counts-resolved = ind-Node Counts (λ x y is.
      layer-counts (roll-Node x) (subst AllCount (ap (λ (z : Node-F Node). z.children) is ∙ sym (ap (λ (z : Node-F Node). z.children) (out-roll-Node x))) (λ places roles i left. all-count y.children places roles i left)))
