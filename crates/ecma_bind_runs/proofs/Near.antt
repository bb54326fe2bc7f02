-- A node with bound names means the same as a target, wherever it stands.
use Rattle.std.proofs.Common.{◌≡◌, ◌∙◌, inr, ℕ, suc, Bool, true, false, ◌==◌, cond, List, [], ◌∷◌, map, length, Some, refl, sym, ap, ap₂, slice_get, arith}
use Rattle.std.proofs.lemmas.Bool.{eqb-true}
use Rattle.ecma_kind.specs.Sorts.{is_type_wrapper}
use Rattle.ecma_kind.specs.declared.kind.Kind.{Kind}
use Rattle.ecma_kind.specs.declared.kind.Kind.TheVariants as kind
use Rattle.ecma_kind.specs.declared.shapes.Shape.{Shape}
use Rattle.ecma_tree.specs.declared.node.Node.{Node, Node-F, out-Node, roll-Node}
use Rattle.ecma_tree.specs.declared.node.Node.TheViews.{out-roll-Node, roll-out-Node}
use Rattle.ecma_tree.specs.Laws.{HaveShapes}
use Rattle.ecma_tree.specs.Nodes.{absent}
use Rattle.ecma_tree.specs.Sorted.{HasShape, child_shapes}
use Rattle.ecma_rules.specs.Children.{kind_of}
use Rattle.ecma_rules.specs.Finishing.{binding}
use Rattle.ecma_fits.specs.declared.role.Role.{Role}
use Rattle.ecma_fits.specs.declared.role.Role.TheVariants as role
use Rattle.ecma_fits.specs.Roles.{by, in_default, in_rest, is_name, role_in}
use Rattle.ecma_runs.specs.Meaning.{Meaning}
use Rattle.ecma_runs.specs.Evaluation.{meaning, meaning_by}
use Rattle.ecma_runs.proofs.Layer.{meaning_out}
use Rattle.ecma_strip_fits.proofs.Lists.{have_at}
use Rattle.ecma_strip_fits.proofs.Walk.{shape_parts}
use Rattle.ecma_bind.specs.Binding.{bound_at, is_name_under_types, is_typed_name, under_types, with_children}
use Rattle.ecma_bind_fits.proofs.Alike.{bound_parts, typed_parts, usual_children, usual_kind}
use Rattle.ecma_bind_fits.proofs.Bound.{bound_each, by_children, children_of, typed_is, usual_is}
use Rattle.ecma_bind_fits.proofs.Names.{bare_is, front, under_name}
use Rattle.ecma_bind_runs.proofs.Quiet.{Quiet, as_good, assigns, bound_same, each_bound, hands_on, quiet_type}
use Rattle.ecma_bind_runs.proofs.Targets.{Near, array_near, default_near, key_near, list_near, object_near, rest_near, short_near, target_alone}

-- ---- a node whose names are bound

pub bound_meaning : (n : Node) (r : Role) → is_typed_name r n ≡ false → meaning (bound_at n r) ≡ meaning_by (bound_at n r) (kind_of n) (map meaning (bound_each (role_in r (kind_of n)) (children_of n)))
bound_meaning n r u =
    meaning_out (bound_at n r) ∙ ap₂ (λ (k : Kind) (cs : List Node). meaning_by (bound_at n r) k (map meaning cs)) (usual_kind n r u) (usual_children n r u)

-- ---- a name with types round it

-- the name means what the whole does
record Named (n : Node) : Type 0 where
  none : children_of (under_types n) ≡ []
  same : meaning (bound_at n role.Free) ≡ meaning (under_types n)

abbrev Names : Node → Type 0
Names n = (shape : Shape) → HasShape shape n → is_name_under_types n ≡ true → Named n

none_inside : (k : Kind) (shape : Shape) (cs : List Node) → is_name k ≡ true → HaveShapes (child_shapes k shape (length cs)) cs → cs ≡ []
none_inside (kind.Ident sym ctxt optional) shape [] i h = refl
none_inside (kind.Ident sym ctxt optional) shape (c ∷ cs) i h = absurd h
none_inside _ shape cs i h = cc

-- what it is of a kind with a type beside the expression, and of one without
wrapped_meaning : (n : Node) (k : Kind) (shape : Shape) (r : Role) (cs : List Node) (e : Node) → is_type_wrapper k ≡ true → HaveShapes (child_shapes k shape (length cs)) cs → slice_get cs 0 ≡ Some e
    → meaning_by n k (map meaning (bound_each (role_in r k) cs)) ≡ meaning (bound_at e role.Free)
unfolding role_in
wrapped_meaning n kind.TsTypeAssertion shape r (c ∷ t ∷ []) e w h at = let same : c ≡ e = cc in ap (λ (z : Node). meaning (bound_at z role.Free)) same
wrapped_meaning n kind.TsConstAssertion shape r (c ∷ []) e w h at = let same : c ≡ e = cc in ap (λ (z : Node). meaning (bound_at z role.Free)) same
wrapped_meaning n kind.TsNonNullExpr shape r (c ∷ []) e w h at = let same : c ≡ e = cc in ap (λ (z : Node). meaning (bound_at z role.Free)) same
wrapped_meaning n kind.TsAsExpr shape r (c ∷ t ∷ []) e w h at = let same : c ≡ e = cc in ap (λ (z : Node). meaning (bound_at z role.Free)) same
wrapped_meaning n kind.TsInstantiation shape r (c ∷ t ∷ []) e w h at = let same : c ≡ e = cc in ap (λ (z : Node). meaning (bound_at z role.Free)) same
wrapped_meaning n kind.TsSatisfiesExpr shape r (c ∷ t ∷ []) e w h at = let same : c ≡ e = cc in ap (λ (z : Node). meaning (bound_at z role.Free)) same
wrapped_meaning n kind.TsTypeAssertion shape r [] e w h at = cc
wrapped_meaning n kind.TsTypeAssertion shape r (c ∷ []) e w h at = absurd h.1
wrapped_meaning n kind.TsTypeAssertion shape r (c ∷ t ∷ u ∷ cs) e w h at = absurd h.1.1
wrapped_meaning n kind.TsConstAssertion shape r [] e w h at = cc
wrapped_meaning n kind.TsConstAssertion shape r (c ∷ t ∷ cs) e w h at = absurd h.1
wrapped_meaning n kind.TsNonNullExpr shape r [] e w h at = cc
wrapped_meaning n kind.TsNonNullExpr shape r (c ∷ t ∷ cs) e w h at = absurd h.1
wrapped_meaning n kind.TsAsExpr shape r [] e w h at = cc
wrapped_meaning n kind.TsAsExpr shape r (c ∷ []) e w h at = absurd h.1
wrapped_meaning n kind.TsAsExpr shape r (c ∷ t ∷ u ∷ cs) e w h at = absurd h.1.1
wrapped_meaning n kind.TsInstantiation shape r [] e w h at = cc
wrapped_meaning n kind.TsInstantiation shape r (c ∷ []) e w h at = absurd h.1
wrapped_meaning n kind.TsInstantiation shape r (c ∷ t ∷ u ∷ cs) e w h at = absurd h.1.1
wrapped_meaning n kind.TsSatisfiesExpr shape r [] e w h at = cc
wrapped_meaning n kind.TsSatisfiesExpr shape r (c ∷ []) e w h at = absurd h.1
wrapped_meaning n kind.TsSatisfiesExpr shape r (c ∷ t ∷ u ∷ cs) e w h at = absurd h.1.1
wrapped_meaning n _ shape r cs e w h at = cc

-- a name has no children to bind
bare_bound : (n : Node) → children_of n ≡ [] → bound_at n role.Free ≡ n
bare_bound n none =
    sym (roll-out-Node (bound_at n role.Free))
    ∙ ap roll-Node (parts_same n none)
    ∙ roll-out-Node n
  where
    parts_same : (n : Node) → children_of n ≡ [] → out-Node (bound_at n role.Free) ≡ out-Node n
    parts_same n none =
        ap out-Node (usual_is n role.Free refl)
        ∙ out-roll-Node (record { span = (out-Node n).span; kind = kind_of n; children = bound_each (role_in role.Free (kind_of n)) (children_of n) })
        ∙ ap (λ (z : List Node). record { span = (out-Node n).span; kind = kind_of n; children = bound_each (role_in role.Free (kind_of n)) z }) none
        ∙ ap (λ (z : List Node). record { span = (out-Node n).span; kind = kind_of n; children = z }) (sym none)

names : (n : Node) → Names n
names = by_children Names (λ n below shape has h. go n below shape has h (is_type_wrapper (kind_of n)) refl)
  where
    go : (n : Node) → ((i : ℕ) (c : Node) → slice_get (children_of n) i ≡ Some c → Names c) → (shape : Shape) → HasShape shape n → is_name_under_types n ≡ true → (b : Bool) → is_type_wrapper (kind_of n) ≡ b → Named n
    go n below shape has h true w =
        let f = front n w h in
        let t = have_at (child_shapes (kind_of n) shape (length (children_of n))) (children_of n) (shape_parts n shape has).1 0 f.0 f.1 in
        let e = below 0 f.0 f.1 t.0 t.2 f.2 in
        record {
          none = ap children_of f.3 ∙ e.none;
          same = bound_meaning n role.Free refl ∙ wrapped_meaning (bound_at n role.Free) (kind_of n) shape role.Free (children_of n) f.0 w (shape_parts n shape has).1 f.1 ∙ e.same ∙ ap meaning (sym f.3);
        }
    go n below shape has h false w =
        let bare = bare_is n w in
        let none = none_inside (kind_of n) shape (children_of n) (ap (λ (z : Node). is_name (kind_of z)) (sym bare) ∙ under_name n h) (shape_parts n shape has).1 in
        record { none = ap children_of bare ∙ none; same = ap meaning (bare_bound n none ∙ sym bare) }

-- ---- a name that is bound

absent_meaning : meaning absent ≡ meaning_by absent kind.Absent []
absent_meaning = meaning_out absent ∙ ap (λ (z : Node-F Node). meaning_by absent z.kind (map meaning z.children)) (out-roll-Node (record { span = record { lo = 0; hi = 0 }; kind = kind.Absent; children = [] }))

name_near : (b u : Node) (k : Kind) → is_name k ≡ true → Near (meaning_by b kind.BindingIdent (meaning_by u k [] ∷ meaning_by absent kind.Absent [] ∷ [])) (meaning_by u k [])
name_near b u (kind.Ident sym ctxt optional) i = refl
name_near b u _ i = cc

binding_near : (u : Node) → is_name (kind_of u) ≡ true → children_of u ≡ [] → Near (meaning (binding u)) (meaning u)
binding_near u i none =
    let is : meaning u ≡ meaning_by u (kind_of u) [] = meaning_out u ∙ ap (λ (z : List Node). meaning_by u (kind_of u) (map meaning z)) none in
    ap target_alone (meaning_out (binding u) ∙ ap (λ (z : Node-F Node). meaning_by (binding u) z.kind (map meaning z.children)) (bound_parts u))
    ∙ ap₂ (λ x y. target_alone (meaning_by (binding u) kind.BindingIdent (x ∷ y ∷ []))) is absent_meaning
    ∙ name_near (binding u) u (kind_of u) i
    ∙ ap target_alone (sym is)

typed_near : (n : Node) (shape : Shape) → HasShape shape n → (r : Role) → is_typed_name r n ≡ true → Near (meaning (bound_at n r)) (meaning (bound_at n role.Free))
typed_near n shape has r t =
    let h = (typed_parts n r t).2 in
    let named = names n shape has h in
    ap (λ (z : Node). target_alone (meaning z)) (typed_is n r t) ∙ binding_near (under_types n) (under_name n h) named.none ∙ ap target_alone (sym named.same)

-- ---- the nodes of a tree

pub no_zero : (j : ℕ) → (suc j == 0) ≡ false
no_zero j = go (suc j == 0) refl
  where
    go : (b : Bool) → (suc j == 0) ≡ b → (suc j == 0) ≡ false
    go false e = e
    go true e = let z : suc j ≡ 0 = eqb-true (suc j) 0 e in let no : ⊥ = omega (arith, z) in absurd no

-- wherever the children stand, they mean the same as targets
abbrev pub NearAnywhere : Node → Type 0
NearAnywhere c = (a b : Role) → Near (meaning (bound_at c a)) (meaning (bound_at c b))

each_near : (cs : List Node) (at_a at_b : ℕ → Role) → ((i : ℕ) (c : Node) → slice_get cs i ≡ Some c → NearAnywhere c)
    → map target_alone (map meaning (bound_each at_a cs)) ≡ map target_alone (map meaning (bound_each at_b cs))
each_near [] at_a at_b near = refl
each_near (c ∷ cs) at_a at_b near = ap₂ (λ x xs. x ∷ xs) (near 0 c refl (at_a 0) (at_b 0)) (each_near cs (λ i. at_a (suc i)) (λ i. at_b (suc i)) (λ i d at. near (suc i) d at))

-- in two roles in which nothing is assigned to
pub others : (cs : List Node) (at_a at_b : ℕ → Role) → ((i : ℕ) → Quiet (at_a i) × Quiet (at_b i)) → map meaning (bound_each at_a cs) ≡ map meaning (bound_each at_b cs)
others cs at_a at_b q = ap (map meaning) (each_bound cs at_a at_b (λ i c at. bound_same c (at_a i) (at_b i) (inr (q i))))

pub behind_first : (j : ℕ) (x y : Role) → Quiet y → Quiet (cond (suc j == 0) x y)
behind_first j x y q = ap (λ b. assigns (cond b x y)) (no_zero j) ∙ q

no_one : (j : ℕ) → (suc (suc j) == 1) ≡ false
no_one j = go (suc (suc j) == 1) refl
  where
    go : (b : Bool) → (suc (suc j) == 1) ≡ b → (suc (suc j) == 1) ≡ false
    go false e = e
    go true e = let z : suc (suc j) ≡ 1 = eqb-true (suc (suc j)) 1 e in let no : ⊥ = omega (arith, z) in absurd no

behind_second : (j : ℕ) (x y : Role) → Quiet y → Quiet (cond (suc (suc j) == 1) x y)
behind_second j x y q = ap (λ b. assigns (cond b x y)) (no_one j) ∙ q

module _ (n n' : Node) (a b : Role) where
  kinds_near : (k : Kind) → hands_on k ≡ true → (cs : List Node) → ((i : ℕ) (c : Node) → slice_get cs i ≡ Some c → NearAnywhere c)
      → Near (meaning_by n k (map meaning (bound_each (role_in a k) cs))) (meaning_by n' k (map meaning (bound_each (role_in b k) cs)))
  unfolding role_in
  kinds_near kind.List h cs near = list_near n n' (map meaning (bound_each (role_in a kind.List) cs)) (map meaning (bound_each (role_in b kind.List) cs)) (each_near cs (role_in a kind.List) (role_in b kind.List) near)
  kinds_near (kind.ArrayPat o) h [] near = refl
  kinds_near (kind.ArrayPat o) h (c ∷ cs) near =
      array_near n n' (meaning (bound_at c (role_in a (kind.ArrayPat o) 0))) (meaning (bound_at c (role_in b (kind.ArrayPat o) 0))) (map meaning (bound_each (λ i. role_in a (kind.ArrayPat o) (suc i)) cs)) (near 0 c refl (role_in a (kind.ArrayPat o) 0) (role_in b (kind.ArrayPat o) 0)) o
      ∙ ap (λ (z : List Meaning). target_alone (meaning_by n' (kind.ArrayPat o) (meaning (bound_at c (role_in b (kind.ArrayPat o) 0)) ∷ z)))
      (others cs (λ i. role_in a (kind.ArrayPat o) (suc i)) (λ i. role_in b (kind.ArrayPat o) (suc i)) (λ i. (behind_first i (by a role.AssignedElements role.DeclaredElements) (by a role.Nothing role.Free) (quiet_type a), behind_first i (by b role.AssignedElements role.DeclaredElements) (by b role.Nothing role.Free) (quiet_type b))))
  kinds_near (kind.ObjectPat o) h [] near = refl
  kinds_near (kind.ObjectPat o) h (c ∷ cs) near =
      object_near n n' (meaning (bound_at c (role_in a (kind.ObjectPat o) 0))) (meaning (bound_at c (role_in b (kind.ObjectPat o) 0))) (map meaning (bound_each (λ i. role_in a (kind.ObjectPat o) (suc i)) cs)) (near 0 c refl (role_in a (kind.ObjectPat o) 0) (role_in b (kind.ObjectPat o) 0)) o
      ∙ ap (λ (z : List Meaning). target_alone (meaning_by n' (kind.ObjectPat o) (meaning (bound_at c (role_in b (kind.ObjectPat o) 0)) ∷ z)))
      (others cs (λ i. role_in a (kind.ObjectPat o) (suc i)) (λ i. role_in b (kind.ObjectPat o) (suc i)) (λ i. (behind_first i (by a role.AssignedProperties role.DeclaredProperties) (by a role.Nothing role.Free) (quiet_type a), behind_first i (by b role.AssignedProperties role.DeclaredProperties) (by b role.Nothing role.Free) (quiet_type b))))
  kinds_near kind.RestPat h [] near = refl
  kinds_near kind.RestPat h (c ∷ cs) near =
      rest_near n n' (meaning (bound_at c (role_in a kind.RestPat 0))) (meaning (bound_at c (role_in b kind.RestPat 0))) (map meaning (bound_each (λ i. role_in a kind.RestPat (suc i)) cs)) (near 0 c refl (role_in a kind.RestPat 0) (role_in b kind.RestPat 0))
      ∙ ap (λ (z : List Meaning). target_alone (meaning_by n' kind.RestPat (meaning (bound_at c (role_in b kind.RestPat 0)) ∷ z)))
      (others cs (λ i. role_in a kind.RestPat (suc i)) (λ i. role_in b kind.RestPat (suc i)) (λ i. (behind_first i (in_rest a) (by a role.Nothing role.Free) (quiet_type a), behind_first i (in_rest b) (by b role.Nothing role.Free) (quiet_type b))))
  kinds_near kind.AssignPat h [] near = refl
  kinds_near kind.AssignPat h (c ∷ cs) near =
      default_near n n' (meaning (bound_at c (role_in a kind.AssignPat 0))) (meaning (bound_at c (role_in b kind.AssignPat 0))) (map meaning (bound_each (λ i. role_in a kind.AssignPat (suc i)) cs)) (near 0 c refl (role_in a kind.AssignPat 0) (role_in b kind.AssignPat 0))
      ∙ ap (λ (z : List Meaning). target_alone (meaning_by n' kind.AssignPat (meaning (bound_at c (role_in b kind.AssignPat 0)) ∷ z)))
      (others cs (λ i. role_in a kind.AssignPat (suc i)) (λ i. role_in b kind.AssignPat (suc i)) (λ i. (behind_first i (in_default a) role.Free (refl), behind_first i (in_default b) role.Free (refl))))
  kinds_near kind.AssignPatProp h [] near = refl
  kinds_near kind.AssignPatProp h (c ∷ cs) near =
      short_near n n' (meaning (bound_at c (role_in a kind.AssignPatProp 0))) (meaning (bound_at c (role_in b kind.AssignPatProp 0))) (map meaning (bound_each (λ i. role_in a kind.AssignPatProp (suc i)) cs)) (near 0 c refl (role_in a kind.AssignPatProp 0) (role_in b kind.AssignPatProp 0))
      ∙ ap (λ (z : List Meaning). target_alone (meaning_by n' kind.AssignPatProp (meaning (bound_at c (role_in b kind.AssignPatProp 0)) ∷ z)))
      (others cs (λ i. role_in a kind.AssignPatProp (suc i)) (λ i. role_in b kind.AssignPatProp (suc i)) (λ i. (behind_first i (by a role.AssignedName role.DeclaredName) role.Free (refl), behind_first i (by b role.AssignedName role.DeclaredName) role.Free (refl))))
  kinds_near kind.KeyValuePatProp h [] near = refl
  kinds_near kind.KeyValuePatProp h (c ∷ []) near = refl
  kinds_near kind.KeyValuePatProp h (c ∷ d ∷ cs) near =
      key_near n n' (meaning (bound_at d (role_in a kind.KeyValuePatProp 1))) (meaning (bound_at d (role_in b kind.KeyValuePatProp 1))) (map meaning (bound_each (λ i. role_in a kind.KeyValuePatProp (suc (suc i))) cs)) (near 1 d refl (role_in a kind.KeyValuePatProp 1) (role_in b kind.KeyValuePatProp 1)) (meaning (bound_at c role.Free))
      ∙ ap (λ (z : List Meaning). target_alone (meaning_by n' kind.KeyValuePatProp (meaning (bound_at c role.Free) ∷ meaning (bound_at d (role_in b kind.KeyValuePatProp 1)) ∷ z)))
      (others cs (λ i. role_in a kind.KeyValuePatProp (suc (suc i))) (λ i. role_in b kind.KeyValuePatProp (suc (suc i))) (λ i. (behind_second i (by a role.AssignedValue role.DeclaredValue) role.Free refl, behind_second i (by b role.AssignedValue role.DeclaredValue) role.Free refl)))
  kinds_near _ h cs near = cc

abbrev NearFree : Node → Type 0
NearFree n = (shape : Shape) → HasShape shape n → (r : Role) → Near (meaning (bound_at n r)) (meaning (bound_at n role.Free))

pub anywhere : (n : Node) → NearFree n → (shape : Shape) → HasShape shape n → NearAnywhere n
anywhere n near shape has a b = near shape has a ∙ sym (near shape has b)

near_free : (n : Node) → NearFree n
near_free = by_children NearFree (λ n below shape has r. go n below shape has r (is_typed_name r n) refl (hands_on (kind_of n)) refl)
  where
    go : (n : Node) → ((i : ℕ) (c : Node) → slice_get (children_of n) i ≡ Some c → NearFree c) → (shape : Shape) → HasShape shape n → (r : Role) → (t : Bool) → is_typed_name r n ≡ t → (h : Bool) → hands_on (kind_of n) ≡ h
        → Near (meaning (bound_at n r)) (meaning (bound_at n role.Free))
    go n below shape has r true t h o = typed_near n shape has r t
    go n below shape has r false t true o =
        ap target_alone (bound_meaning n r t)
        ∙ kinds_near (bound_at n r) (bound_at n role.Free) r role.Free (kind_of n) o (children_of n) (λ i c at.
        let s = have_at (child_shapes (kind_of n) shape (length (children_of n))) (children_of n) (shape_parts n shape has).1 i c at in anywhere c (below i c at) s.0 s.2)
        ∙ ap target_alone (sym (bound_meaning n role.Free refl))
    go n below shape has r false t false o =
        ap (λ (z : Node). target_alone (meaning z))
        (usual_is n r t
        ∙ ap (with_children n) (each_bound (children_of n) (role_in r (kind_of n)) (role_in role.Free (kind_of n)) (λ i c at. bound_same c (role_in r (kind_of n) i) (role_in role.Free (kind_of n) i) (as_good (kind_of n) o r role.Free i)))
        ∙ sym (usual_is n role.Free refl))

-- a node of a sorted tree, its names bound for whatever role
pub near_anywhere : (n : Node) (shape : Shape) → HasShape shape n → NearAnywhere n
near_anywhere n = anywhere n (near_free n)
