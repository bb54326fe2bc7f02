-- The same names are declared again in a tree with bound names.
use Rattle.std.proofs.Common.{◌≡◌, ◌∙◌, ◌⊎◌, inl, inr, ℕ, suc, Bool, true, false, not, ◌&&◌, ◌||◌, cond, List, [], ◌∷◌, ◌++◌, map, Option, Some, refl, sym, ap, ap₂, slice_get}
use Rattle.std.specs.Prelude.{filter}
use Rattle.ecma_kind.specs.declared.shapes.Shape.{Shape}
use Rattle.ecma_kind.specs.declared.shapes.Sort.TheVariants as sort
use Rattle.ecma_tree.specs.declared.node.Node.{Node}
use Rattle.ecma_tree.specs.Nodes.{absent}
use Rattle.ecma_tree.specs.Sorted.{HasShape, one}
use Rattle.ecma_tree.proofs.Layers.{from_leaves_out}
use Rattle.ecma_rules.specs.Children.{kind_of}
use Rattle.ecma_rules.specs.Finishing.{binding}
use Rattle.ecma_fits.specs.declared.role.Role.{Role}
use Rattle.ecma_fits.specs.declared.role.Role.TheVariants as role
use Rattle.ecma_fits.specs.Roles.{role_in}
use Rattle.ecma_scope.specs.declared.role.Role.{Role as Standing}
use Rattle.ecma_scope.specs.declared.role.Role.TheVariants as standing
use Rattle.ecma_scope.specs.declared.form.Declaration.{Declaration}
use Rattle.ecma_scope.specs.declared.form.Part.TheVariants as part
use Rattle.ecma_scope.specs.declared.form.Sought.{Sought}
use Rattle.ecma_scope.specs.Conflicts.{Surrounding, clash_step, clashes_in, clashing, is_further_out, marked, nothing, own_clashes, passing, redeclared_at, surrounds}
use Rattle.ecma_scope.specs.Declarations.{holds_vars, stated}
use Rattle.ecma_scope.specs.Scopes.{covers, is_ambient, is_there, opens}
use Rattle.ecma_bind.specs.Binding.{bound_at, is_name_under_types, is_typed_name, under_types}
use Rattle.ecma_bind_fits.proofs.Alike.{typed_parts, usual_children, usual_kind}
use Rattle.ecma_bind_fits.proofs.Bound.{bound_each, by_children, children_of, typed_is}
use Rattle.ecma_bind_scopes.specs.Laws.{BoundNamesDeclareAlike}
use Rattle.ecma_bind_scopes.proofs.Counted.{Shaped, absent_leaf, binding_children, binding_closed, child_shaped}
use Rattle.ecma_bind_scopes.proofs.Declared.{declared_same, names_same, no_part}
use Rattle.ecma_bind_scopes.proofs.Sights.{Leaf, Plain, Sides, Wrapped, closed_opens, is_closed, opens_same, seen_same, under_plain, view}

told-out : (n : Node) (s : Surrounding) → redeclared_at n s ≡ own_clashes s n ++ clashes_in (surrounds s n) 0 (map redeclared_at (children_of n))
told-out n s = ap (λ f. f s) (from_leaves_out (Surrounding → List (List ℕ)) clash_step n)

none_own : (s : Surrounding) (n : Node) → opens s.role n ≡ false → own_clashes s n ≡ []
none_own s n closed = rw closed refl

closed_own : (s : Surrounding) (n : Node) → is_closed (kind_of n) ≡ true → own_clashes s n ≡ []
closed_own s n c = none_own s n (closed_opens s.role (kind_of n) (is_there (children_of n) 0) c)

leaf_told : (n : Node) → Leaf n → (s : Surrounding) → redeclared_at n s ≡ []
leaf_told n l s = told-out n s ∙ ap₂ (λ a b. a ++ b) (closed_own s n l.0) (ap (λ (z : List Node). clashes_in (surrounds s n) 0 (map redeclared_at z)) l.1)

sides_told : (cs : List Node) (e : Node) → Sides cs e → ((s : Surrounding) → redeclared_at e s ≡ []) → (f : ℕ → Surrounding) → clashes_in f 0 (map redeclared_at cs) ≡ []
sides_told cs e (inl is) none f = ap (λ (z : List Node). clashes_in f 0 (map redeclared_at z)) is ∙ ap (λ a. a ++ []) (none (f 0))
sides_told cs e (inr t) none f = ap (λ (z : List Node). clashes_in f 0 (map redeclared_at z)) t.1 ∙ ap₂ (λ a b. a ++ (b ++ [])) (none (f 0)) (leaf_told t.0 t.2 (f 1))

abbrev Untold : Node → Type 0
Untold n = (shape : Shape) → HasShape shape n → is_name_under_types n ≡ true → (s : Surrounding) → redeclared_at n s ≡ []

name_told : (n : Node) → Untold n
name_told = by_children Untold (λ n below shape has h s. by n below s (view n shape has h))
  where
    by : (n : Node) → ((i : ℕ) (c : Node) → slice_get (children_of n) i ≡ Some c → Untold c) → (s : Surrounding) → Wrapped n ⊎ Plain n → redeclared_at n s ≡ []
    by n below s (inl w) = told-out n s ∙ ap₂ (λ a b. a ++ b) (closed_own s n w.closed) (sides_told (children_of n) w.inner w.sides (below 0 w.inner w.at w.shape w.shaped w.named) (surrounds s n))
    by n below s (inr p) = leaf_told n p.leaf s

binding_told : (u : Node) → Leaf u → (s : Surrounding) → redeclared_at (binding u) s ≡ []
binding_told u l s =
    told-out (binding u) s
    ∙ ap₂ (λ a b. a ++ b) (closed_own s (binding u) (binding_closed u))
    (ap (λ (z : List Node). clashes_in (surrounds s (binding u)) 0 (map redeclared_at z)) (binding_children u) ∙ ap₂ (λ a b. a ++ (b ++ [])) (leaf_told u l (surrounds s (binding u) 0)) (leaf_told absent absent_leaf (surrounds s (binding u) 1)))

-- ---- the nodes of a tree

passing_same : (q : Standing) (n : Node) (r : Role) → is_typed_name r n ≡ false → passing q (bound_at n r) ≡ passing q n
passing_same q n r t =
    let s : Sought = record { part = part.Var; stays = not (is_ambient q) } in
    ap₂ (λ k (found : List Declaration). cond (holds_vars q k) [] (filter (λ d. d.stays) found)) (usual_kind n r t) (declared_same n r s (no_part r s refl))

-- those that meet, of the names of a scope and those that pass through it
abbrev met : Standing → (List ℕ → Option Bool) → List Declaration → List Declaration → List Declaration
met q around own passed = marked [] (filter (λ d. d.stays || is_further_out q around passed d.sym) own) ++ passed

own_same : (s : Surrounding) (n : Node) (r : Role) → is_typed_name r n ≡ false → own_clashes s (bound_at n r) ≡ own_clashes s n
own_same s n r t = λ j. cond (opens_same s.role n r t j) (clashing s.role s.around [] (met s.role s.around (names_same s.role s.around n r t j) (passing_same s.role n r t j))) []

surrounds_same : (s : Surrounding) (n : Node) (r : Role) → is_typed_name r n ≡ false → (i : ℕ) → surrounds s (bound_at n r) i ≡ surrounds s n i
surrounds_same s n r t i =
    λ j. record {
      role = seen_same s.role n r t i j;
      around = cond (opens_same s.role n r t j && covers s.role (usual_kind n r t j) i) (stated (names_same s.role s.around n r t j)) s.around;
    }

abbrev Tells : Node → Type 0
Tells n = Shaped n → (r : Role) (s : Surrounding) → redeclared_at (bound_at n r) s ≡ redeclared_at n s

each_told : (f g : ℕ → Surrounding) → ((i : ℕ) → f i ≡ g i) → (cs : List Node) (roles : ℕ → Role) (i : ℕ) → ((j : ℕ) (c : Node) → slice_get cs j ≡ Some c → (s : Surrounding) → redeclared_at (bound_at c (roles j)) s ≡ redeclared_at c s)
    → clashes_in f i (map redeclared_at (bound_each roles cs)) ≡ clashes_in g i (map redeclared_at cs)
each_told f g same [] roles i below = refl
each_told f g same (c ∷ cs) roles i below =
    ap₂ (λ a b. a ++ b) (ap (redeclared_at (bound_at c (roles 0))) (same i) ∙ below 0 c refl (g i)) (each_told f g same cs (λ j. roles (suc j)) (suc i) (λ j d at. below (suc j) d at))

told_same : (n : Node) → Tells n
told_same = by_children Tells (λ n below h r s. by n below h r s (is_typed_name r n) refl)
  where
    by : (n : Node) → ((i : ℕ) (c : Node) → slice_get (children_of n) i ≡ Some c → Tells c) → Shaped n → (r : Role) (s : Surrounding) → (t : Bool) → is_typed_name r n ≡ t → redeclared_at (bound_at n r) s ≡ redeclared_at n s
    by n below h r s true t =
        let name = (typed_parts n r t).2 in
        ap (λ (z : Node). redeclared_at z s) (typed_is n r t) ∙ binding_told (under_types n) (under_plain n h.0 h.1 name).leaf s ∙ sym (name_told n h.0 h.1 name s)
    by n below h r s false t =
        told-out (bound_at n r) s
        ∙ ap₂ (λ a b. a ++ b) (own_same s n r t)
        (ap (λ (z : List Node). clashes_in (surrounds s (bound_at n r)) 0 (map redeclared_at z)) (usual_children n r t)
        ∙ each_told (surrounds s (bound_at n r)) (surrounds s n) (surrounds_same s n r t) (children_of n) (role_in r (kind_of n)) 0 (λ j c at. below j c at (child_shaped n h j c at) (role_in r (kind_of n) j)))
        ∙ sym (told-out n s)

pub declare_alike : BoundNamesDeclareAlike
declare_alike tree sorted = told_same tree (one sort.Module, sorted) role.Free (record { role = standing.Root; around = nothing })
