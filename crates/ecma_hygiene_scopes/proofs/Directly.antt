-- A declared name is resolved as it stands in the scope that declares it, where no scope is opened on the way to it.
use Rattle.std.proofs.Common.{◌≡◌, ℕ, suc, ◌-◌, Bool, true, false, cond, List, [], ◌∷◌, ◌++◌, map, Option, Some, None, refl, sym, ap, ap₂, ◌∙◌, subst}
use Rattle.std.specs.List.{All}
use Rattle.std.proofs.lemmas.List.Elements.{All-append, All-cons, All-nil}
use Rattle.ecma_kind.specs.declared.kind.Kind.{Kind}
use Rattle.ecma_kind.specs.declared.kind.Kind.TheVariants as kind
use Rattle.ecma_tree.specs.declared.node.Node.{Node, Node-F, ind-Node, out-Node, roll-Node}
use Rattle.ecma_tree.specs.declared.node.Node.TheViews.{out-roll-Node}
use Rattle.ecma_tree.specs.Values.{is_value_where}
use Rattle.ecma_tree.proofs.Layers.{from_leaves_out}
use Rattle.ecma_scope.specs.declared.form.Part.{Part}
use Rattle.ecma_scope.specs.declared.form.Part.TheVariants as part
use Rattle.ecma_scope.specs.declared.form.Sought.{Sought}
use Rattle.ecma_scope.specs.declared.role.Role.{Role}
use Rattle.ecma_scope.specs.Declarations.{sought_in}
use Rattle.ecma_scope.specs.Resolved.{Place, Scope as Frame, context_count, context_in, inside, is_name, kind_at, placed, resolved_at, scope_at, taken}
use Rattle.ecma_scope.specs.Scopes.{is_there, role_in}
use Rattle.ecma_hygiene.proofs.Roles.{seeks_name, sought-no-name}
use Rattle.ecma_hygiene_scopes.specs.DeclaredIds.{DeclaredId, id_here, ids_at, ids_declared, ids_in, ids_step}
use Rattle.ecma_hygiene_scopes.proofs.Sameness.{children-here, children_resolved, kind-here, sought-resolved}
use Rattle.ecma_hygiene_scopes.proofs.Ways.{Way, next-way, shut}

pub ids-out : (n : Node) (q : Sought) → ids_declared n q ≡ id_here q (out-Node n).kind ++ ids_in (sought_in q n) 0 (map ids_declared (out-Node n).children)
ids-out n q = ap (λ f. f q) (from_leaves_out (Sought → List DeclaredId) ids_step n)

module _ (unresolved top : ℕ) where
  abbrev res : Node → Place → ℕ → Node
  res = resolved_at unresolved top

  abbrev pub place_in : Role → List Frame → Place
  place_in r frames = record { role = r; scopes = frames }

  -- the ids that are declared in the resolved node: its own, and those of its children
  pub ids-resolved : (m : Node) (place : Place) (left : ℕ) (q : Sought)
      → ids_declared (resolved_at unresolved top m place left) q ≡ id_here q (kind_at unresolved place (out-Node m).kind) ++ ids_in (sought_in q m) 0 (map ids_declared (children_resolved unresolved top m place left))
  ids-resolved m place left q =
      ids-out (res m place left) q
      ∙ ap₂ (λ (k : Kind) (cs : List Node). id_here q k ++ ids_in (sought_in q (res m place left)) 0 (map ids_declared cs)) (kind-here unresolved top m place left) (children-here unresolved top m place left)
      ∙ (λ j. id_here q (kind_at unresolved place (out-Node m).kind) ++ ids_in (λ i. sought-resolved unresolved top m place left q i j) 0 (map ids_declared (children_resolved unresolved top m place left)))

  -- a declared id that stays has the context that these scopes give its text
  abbrev pub Given : List Frame → DeclaredId → Type 0
  Given frames d = d.stays ≡ true → d.id.1 ≡ context_in unresolved frames d.id.0 unresolved

  named-by : (r : Role) (frames : List Frame) (s : List ℕ) (c : ℕ) → is_name r ≡ false → cond (is_name r) c (context_in unresolved frames s unresolved) ≡ context_in unresolved frames s unresolved
  named-by r frames s c other = ap (λ (b : Bool). cond b c (context_in unresolved frames s unresolved)) other

  pub given-here : (q : Sought) (p : Part) → q.part ≡ p → (r : Role) (frames : List Frame) (k : Kind) → Way p r → All (Given frames) (id_here q (kind_at unresolved (place_in r frames) k))
  given-here q p is r frames k way =
      subst (λ (z : Part). All (Given frames) (id_here (record { part = z; stays = q.stays }) (kind_at unresolved (place_in r frames) k))) (sym is) (by p k way)
    where
      by : (p : Part) (k : Kind) → Way p r → All (Given frames) (id_here (record { part = p; stays = q.stays }) (kind_at unresolved (place_in r frames) k))
      by (part.Name f) (kind.Ident s c o) way = All-cons (Given frames) _ [] (λ stays. named-by r frames s c way) (All-nil (Given frames))
      by _ (kind.Ident s c o) way = All-nil (Given frames)
      by p _ way = All-nil (Given frames)

  abbrev Finds : Node → Type 0
  Finds m = (q : Sought) (r : Role) (frames : List Frame) (left : ℕ) → Way q.part r → All (Given frames) (ids_declared (res m (place_in r frames) left) q)

  pub record Step (into : ℕ → Option Sought) (places : ℕ → Place) (frames : List Frame) : Type 0 where
    pub role : ℕ → Role
    pub place : (j : ℕ) (q : Sought) → into j ≡ Some q → places j ≡ place_in (role j) frames
    pub way : (j : ℕ) (q : Sought) → into j ≡ Some q → Way q.part (role j)

  abbrev pub AllFind : List Node → Type 0
  AllFind ms = (into : ℕ → Option Sought) (places : ℕ → Place) (frames : List Frame) (i left : ℕ) → Step into places frames → All (Given frames) (ids_in into i (map ids_declared (placed places i ms (map res ms) left)))

  at-child : (m : Node) → Finds m → (frames : List Frame) (o : Option Sought) (place : Place) (r : Role) (left : ℕ) → ((q : Sought) → o ≡ Some q → place ≡ place_in r frames) → ((q : Sought) → o ≡ Some q → Way q.part r)
      → All (Given frames) (ids_at o (ids_declared (res m place left)))
  at-child m finds frames None place r left is way = All-nil (Given frames)
  at-child m finds frames (Some q) place r left is way = subst (λ (z : Place). All (Given frames) (ids_declared (res m z left) q)) (sym (is q refl)) (finds q r frames left (way q refl))

  all-find : (ms : List ((m : Node) × Finds m)) → AllFind (map (λ e. e.0) ms)
  all-find [] into places frames i left step = All-nil (Given frames)
  all-find (m ∷ ms) into places frames i left step =
      let less : ℕ = left - context_count m.0 (places i).role in
      All-append (Given frames) (ids_at (into i) (ids_declared (res m.0 (places i) left))) (ids_in into (suc i) (map ids_declared (placed places (suc i) (map (λ e. e.0) ms) (map res (map (λ e. e.0) ms)) less)))
      (at-child m.0 m.1 frames (into i) (places i) (step.role i) left (step.place i) (step.way i)) (all-find ms into places frames (suc i) less step)

  shut-place : (m : Node) (r : Role) (frames : List Frame) (left : ℕ) (q : Sought) → Way q.part r → (i : ℕ) (next : Sought) → sought_in q m i ≡ Some next → inside top (place_in r frames) m left i ≡ place_in (role_in r m i) frames
  unfolding sought_in
  shut-place m r frames left q way i next h =
      ap (λ (b : Bool). place_in (role_in r m i) (cond b (frames ++ scope_at top (place_in r frames) m left ∷ []) frames))
      (shut q.part r q.stays (is_value_where q.stays m) (out-Node m).kind (is_there (out-Node m).children 0) i next way h)

  way-below : (m : Node) (r : Role) (q : Sought) → Way q.part r → (i : ℕ) (next : Sought) → sought_in q m i ≡ Some next → Way next.part (role_in r m i)
  unfolding sought_in
  way-below m r q way i next h =
      next-way q.part r q.stays (is_value_where q.stays m) (out-Node m).kind (is_there (out-Node m).children 1) i next way h
      (λ f is. sought-no-name q r m i (ap seeks_name h ∙ ap (λ (p : Part). seeks_name (Some (record { part = p; stays = next.stays }))) is))

  layer-finds : (m : Node) → AllFind (out-Node m).children → Finds m
  layer-finds m children q r frames left way =
      let place : Place = place_in r frames in
      subst (All (Given frames)) (sym (ids-resolved m place left q))
      (All-append (Given frames) (id_here q (kind_at unresolved place (out-Node m).kind)) (ids_in (sought_in q m) 0 (map ids_declared (children_resolved unresolved top m place left)))
      (given-here q q.part refl r frames (out-Node m).kind way)
      (children (sought_in q m) (inside top place m left) frames 0 (left - taken r m) (record { role = role_in r m; place = shut-place m r frames left q way; way = way-below m r q way })))

  pub finds : (m : Node) → Finds m
  finds = ind-Node Finds (λ x y is.
      layer-finds (roll-Node x) (subst AllFind (ap (λ (z : Node-F Node). z.children) is ∙ sym (ap (λ (z : Node-F Node). z.children) (out-roll-Node x))) (all-find y.children)))

  pub each-find : (ms : List Node) → AllFind ms
  each-find [] into places frames i left step = All-nil (Given frames)
  each-find (m ∷ ms) into places frames i left step =
      let less : ℕ = left - context_count m (places i).role in
      All-append (Given frames) (ids_at (into i) (ids_declared (res m (places i) left))) (ids_in into (suc i) (map ids_declared (placed places (suc i) ms (map res ms) less)))
      (at-child m (finds m) frames (into i) (places i) (step.role i) left (step.place i) (step.way i)) (each-find ms into places frames (suc i) less step)
