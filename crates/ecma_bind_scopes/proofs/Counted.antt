-- A tree with bound names takes as many contexts.
use Rattle.std.proofs.Common.{◌≡◌, ◌∙◌, ◌⊎◌, inl, inr, ℕ, suc, ◌+◌, Bool, true, false, not, ◌&&◌, cond, List, [], ◌∷◌, map, length, Some, refl, sym, ap, ap₂, slice_get}
use Rattle.ecma_kind.specs.declared.kind.Kind.TheVariants as kind
use Rattle.ecma_kind.specs.declared.shapes.Shape.{Shape}
use Rattle.ecma_tree.specs.declared.node.Node.{Node, Node-F}
use Rattle.ecma_tree.specs.declared.node.Node.TheViews.{out-roll-Node}
use Rattle.ecma_tree.specs.Nodes.{absent}
use Rattle.ecma_tree.specs.Sorted.{HasShape, child_shapes}
use Rattle.ecma_tree.proofs.Layers.{from_leaves_out}
use Rattle.ecma_rules.specs.Children.{kind_of}
use Rattle.ecma_rules.specs.Finishing.{binding}
use Rattle.ecma_fits.specs.declared.role.Role.{Role}
use Rattle.ecma_fits.specs.Roles.{role_in}
use Rattle.ecma_scope.specs.declared.role.Role.{Role as Standing}
use Rattle.ecma_scope.specs.Resolved.{context_count, count_step, counted, taken}
use Rattle.ecma_scope.specs.Scopes.{is_root, is_there, role_in as seen_in}
use Rattle.ecma_strip_fits.proofs.Lists.{have_at}
use Rattle.ecma_strip_fits.proofs.Walk.{shape_parts}
use Rattle.ecma_bind.specs.Binding.{bound_at, is_name_under_types, is_typed_name, under_types}
use Rattle.ecma_bind_fits.proofs.Alike.{bound_parts, typed_parts, usual_children}
use Rattle.ecma_bind_fits.proofs.Bound.{bound_each, by_children, children_of, typed_is}
use Rattle.ecma_bind_scopes.proofs.Sights.{Leaf, Plain, Sides, Wrapped, closed_opens, is_closed, opens_same, seen_same, under_plain, view}

count-out : (n : Node) (q : Standing) → context_count n q ≡ taken q n + counted (seen_in q n) 0 (map context_count (children_of n))
count-out n q = ap (λ f. f q) (from_leaves_out (Standing → ℕ) count_step n)

pub none_taken : (q : Standing) (n : Node) → is_closed (kind_of n) ≡ true → taken q n ≡ 0
none_taken q n c = ap (λ b. cond (b && not (is_root q)) 1 0) (closed_opens q (kind_of n) (is_there (children_of n) 0) c)

pub leaf_count : (n : Node) → Leaf n → (q : Standing) → context_count n q ≡ 0
leaf_count n l q = count-out n q ∙ ap₂ (λ a b. a + b) (none_taken q n l.0) (ap (λ (z : List Node). counted (seen_in q n) 0 (map context_count z)) l.1)

sides_count : (cs : List Node) (e : Node) → Sides cs e → ((q : Standing) → context_count e q ≡ 0) → (f : ℕ → Standing) → counted f 0 (map context_count cs) ≡ 0
sides_count cs e (inl is) none f = ap (λ (z : List Node). counted f 0 (map context_count z)) is ∙ ap (λ a. a + 0) (none (f 0))
sides_count cs e (inr t) none f = ap (λ (z : List Node). counted f 0 (map context_count z)) t.1 ∙ ap₂ (λ a b. a + (b + 0)) (none (f 0)) (leaf_count t.0 t.2 (f 1))

abbrev Uncounted : Node → Type 0
Uncounted n = (shape : Shape) → HasShape shape n → is_name_under_types n ≡ true → (q : Standing) → context_count n q ≡ 0

-- a name with types round it takes none
name_count : (n : Node) → Uncounted n
name_count = by_children Uncounted (λ n below shape has h q. by n below q (view n shape has h))
  where
    by : (n : Node) → ((i : ℕ) (c : Node) → slice_get (children_of n) i ≡ Some c → Uncounted c) → (q : Standing) → Wrapped n ⊎ Plain n → context_count n q ≡ 0
    by n below q (inl w) = count-out n q ∙ ap₂ (λ a b. a + b) (none_taken q n w.closed) (sides_count (children_of n) w.inner w.sides (below 0 w.inner w.at w.shape w.shaped w.named) (seen_in q n))
    by n below q (inr p) = leaf_count n p.leaf q

pub absent_leaf : Leaf absent
absent_leaf =
    let parts = out-roll-Node (record { span = record { lo = 0; hi = 0 }; kind = kind.Absent; children = [] }) in
    (ap (λ (z : Node-F Node). is_closed z.kind) parts, ap (λ (z : Node-F Node). z.children) parts)

pub binding_closed : (u : Node) → is_closed (kind_of (binding u)) ≡ true
binding_closed u = ap (λ (z : Node-F Node). is_closed z.kind) (bound_parts u)

pub binding_children : (u : Node) → children_of (binding u) ≡ u ∷ absent ∷ []
binding_children u = ap (λ (z : Node-F Node). z.children) (bound_parts u)

binding_count : (u : Node) → Leaf u → (q : Standing) → context_count (binding u) q ≡ 0
binding_count u l q =
    count-out (binding u) q
    ∙ ap₂ (λ a b. a + b) (none_taken q (binding u) (binding_closed u))
    (ap (λ (z : List Node). counted (seen_in q (binding u)) 0 (map context_count z)) (binding_children u) ∙ ap₂ (λ a b. a + (b + 0)) (leaf_count u l (seen_in q (binding u) 0)) (leaf_count absent absent_leaf (seen_in q (binding u) 1)))

-- a node of a sorted tree
abbrev pub Shaped : Node → Type 0
Shaped n = (shape : Shape) × HasShape shape n

pub child_shaped : (n : Node) → Shaped n → (i : ℕ) (c : Node) → slice_get (children_of n) i ≡ Some c → Shaped c
child_shaped n s i c at = let t = have_at (child_shapes (kind_of n) s.0 (length (children_of n))) (children_of n) (shape_parts n s.0 s.1).1 i c at in (t.0, t.2)

abbrev Counts : Node → Type 0
Counts n = Shaped n → (r : Role) (q : Standing) → context_count (bound_at n r) q ≡ context_count n q

counted_same : (f g : ℕ → Standing) → ((i : ℕ) → f i ≡ g i) → (cs : List Node) (roles : ℕ → Role) (i : ℕ) → ((j : ℕ) (c : Node) → slice_get cs j ≡ Some c → (q : Standing) → context_count (bound_at c (roles j)) q ≡ context_count c q)
    → counted f i (map context_count (bound_each roles cs)) ≡ counted g i (map context_count cs)
counted_same f g same [] roles i below = refl
counted_same f g same (c ∷ cs) roles i below =
    ap₂ (λ a b. a + b) (ap (context_count (bound_at c (roles 0))) (same i) ∙ below 0 c refl (g i)) (counted_same f g same cs (λ j. roles (suc j)) (suc i) (λ j d at. below (suc j) d at))

pub count_same : (n : Node) → Counts n
count_same = by_children Counts (λ n below s r q. by n below s r q (is_typed_name r n) refl)
  where
    by : (n : Node) → ((i : ℕ) (c : Node) → slice_get (children_of n) i ≡ Some c → Counts c) → Shaped n → (r : Role) (q : Standing) → (t : Bool) → is_typed_name r n ≡ t → context_count (bound_at n r) q ≡ context_count n q
    by n below s r q true t =
        let h = (typed_parts n r t).2 in
        ap (λ (z : Node). context_count z q) (typed_is n r t) ∙ binding_count (under_types n) (under_plain n s.0 s.1 h).leaf q ∙ sym (name_count n s.0 s.1 h q)
    by n below s r q false t =
        count-out (bound_at n r) q
        ∙ ap₂ (λ a b. a + b) (ap (λ b. cond (b && not (is_root q)) 1 0) (opens_same q n r t))
        (ap (λ (z : List Node). counted (seen_in q (bound_at n r)) 0 (map context_count z)) (usual_children n r t)
        ∙ counted_same (seen_in q (bound_at n r)) (seen_in q n) (seen_same q n r t) (children_of n) (role_in r (kind_of n)) 0 (λ j c at. below j c at (child_shaped n s j c at) (role_in r (kind_of n) j)))
        ∙ sym (count-out n q)
