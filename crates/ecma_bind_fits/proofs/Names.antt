-- The name under the types round it, where the tree fits.
use Rattle.std.proofs.Common.{◌≡◌, ◌∙◌, ℕ, Bool, true, false, ◌&&◌, ◌||◌, cond, List, [], ◌∷◌, map, length, Some, None, refl, sym, ap, subst, slice_get}
use Rattle.ecma_kind.specs.Sorts.{is_type_wrapper}
use Rattle.ecma_kind.specs.declared.kind.Kind.{Kind}
use Rattle.ecma_kind.specs.declared.kind.Kind.TheVariants as kind
use Rattle.ecma_kind.specs.declared.shapes.Shape.{Shape}
use Rattle.ecma_tree.specs.declared.node.Node.{Node, fold_out-Node}
use Rattle.ecma_tree.specs.Sorted.{HasShape, child_shapes}
use Rattle.ecma_tree.proofs.Layers.{from_leaves_out}
use Rattle.ecma_rules.specs.declared.strays.Strays.{Strays}
use Rattle.ecma_rules.specs.Jumps.{Held, first_held_stray, held_in, stray_here}
use Rattle.ecma_rules.specs.Strays.{in_named, strays_in}
use Rattle.ecma_rules.specs.Children.{kind_of}
use Rattle.ecma_rules.specs.Targets.{first_is}
use Rattle.ecma_fits.specs.declared.role.Role.{Role}
use Rattle.ecma_fits.specs.declared.role.Role.TheVariants as role
use Rattle.ecma_fits.specs.declared.unfit.Where.{Where}
use Rattle.ecma_fits.specs.Fitting.{first_unfit_in, unfit_here, where_in}
use Rattle.ecma_fits.specs.Roles.{is_name, role_in}
use Rattle.ecma_bind.specs.Binding.{first_or, is_name_under_types, names_step, under_types}
use Rattle.ecma_strip_fits.proofs.Lists.{have_at}
use Rattle.ecma_strip_fits.proofs.Walk.{shape_parts}
use Rattle.ecma_bind_fits.proofs.Alike.{six_at}
use Rattle.ecma_bind_fits.proofs.Bound.{by_children, children_of, parts_none}

abbrev pub inner : Node → List Node → Node
inner node results = cond (is_type_wrapper (kind_of node)) (first_or node results) node

pub under-out : (n : Node) → under_types n ≡ cond (is_type_wrapper (kind_of n)) (first_or n (map under_types (children_of n))) n
under-out = from_leaves_out Node inner

-- ---- what is known of a node of a tree that fits

-- where a node stands, what it is held by, and the shape that it has
pub record Place : Type 0 where
  pub where_at : Where
  pub held_at : Held
  pub shape : Shape

pub record Good (n : Node) (p : Place) : Type 0 where
  pub shaped : HasShape p.shape n
  pub fit : first_unfit_in n p.where_at ≡ None
  pub held : first_held_stray n p.held_at ≡ None

abbrev pub inside : Place → Node → ℕ → Shape → Place
inside p n i o = record { where_at = where_in p.where_at n i; held_at = held_in p.held_at n i; shape = o }

pub good_child : (n : Node) (p : Place) → Good n p → (i : ℕ) (c : Node) → slice_get (children_of n) i ≡ Some c
    → (o : Shape) × (slice_get (child_shapes (kind_of n) p.shape (length (children_of n))) i ≡ Some o) × Good c (inside p n i o)
good_child n p g i c at =
    let t = have_at (child_shapes (kind_of n) p.shape (length (children_of n))) (children_of n) (shape_parts n p.shape g.shaped).1 i c at in
    (t.0, t.1, record { shaped = t.2; fit = (parts_none Where unfit_here where_in n p.where_at g.fit).1 i c at; held = (parts_none Held stray_here held_in n p.held_at g.held).1 i c at })

-- ---- the name under types

first_inside : (k : Kind) (b : Bool) → is_type_wrapper k ≡ true → (is_name k || (is_type_wrapper k && b)) ≡ true → b ≡ true
first_inside (kind.Ident sym ctxt optional) b w h = cc
first_inside kind.TsTypeAssertion b w h = h
first_inside kind.TsConstAssertion b w h = h
first_inside kind.TsNonNullExpr b w h = h
first_inside kind.TsAsExpr b w h = h
first_inside kind.TsInstantiation b w h = h
first_inside kind.TsSatisfiesExpr b w h = h
first_inside _ b w h = cc

-- in a type round a name stands a name, perhaps with types round it
pub names_inside : (n : Node) → is_type_wrapper (kind_of n) ≡ true → is_name_under_types n ≡ true → first_is (map is_name_under_types (children_of n)) ≡ true
names_inside n w h = first_inside (kind_of n) (first_is (map is_name_under_types (children_of n))) w (sym (fold_out-Node Bool names_step n) ∙ h)

front_of : (cs : List Node) → first_is (map is_name_under_types cs) ≡ true → (e : Node) × (slice_get cs 0 ≡ Some e) × (is_name_under_types e ≡ true) × ((n : Node) → first_or n (map under_types cs) ≡ under_types e)
front_of [] h = cc
front_of (e ∷ cs) h = (e, refl, h, λ n. refl)

pub front : (n : Node) → is_type_wrapper (kind_of n) ≡ true → is_name_under_types n ≡ true → (e : Node) × (slice_get (children_of n) 0 ≡ Some e) × (is_name_under_types e ≡ true) × (under_types n ≡ under_types e)
front n w h =
    let t = front_of (children_of n) (names_inside n w h) in
    (t.0, t.1, t.2, under-out n ∙ (ap (λ b. cond b (first_or n (map under_types (children_of n))) n) w ∙ t.3 n))

pub bare_is : (n : Node) → is_type_wrapper (kind_of n) ≡ false → under_types n ≡ n
bare_is n w = under-out n ∙ ap (λ b. cond b (first_or n (map under_types (children_of n))) n) w

bare_name : (k : Kind) (b : Bool) → is_type_wrapper k ≡ false → (is_name k || (is_type_wrapper k && b)) ≡ true → is_name k ≡ true
bare_name (kind.Ident sym ctxt optional) b w h = refl
bare_name kind.TsTypeAssertion b w h = cc
bare_name kind.TsConstAssertion b w h = cc
bare_name kind.TsNonNullExpr b w h = cc
bare_name kind.TsAsExpr b w h = cc
bare_name kind.TsInstantiation b w h = cc
bare_name kind.TsSatisfiesExpr b w h = cc
bare_name _ b w h = cc

abbrev Named : Node → Type 0
Named n = is_name_under_types n ≡ true → is_name (kind_of (under_types n)) ≡ true

pub under_name : (n : Node) → Named n
under_name = by_children Named (λ n below h. by n below h (is_type_wrapper (kind_of n)) refl)
  where
    by : (n : Node) → ((i : ℕ) (c : Node) → slice_get (children_of n) i ≡ Some c → Named c) → is_name_under_types n ≡ true → (b : Bool) → is_type_wrapper (kind_of n) ≡ b → is_name (kind_of (under_types n)) ≡ true
    by n below h true w = let t = front n w h in ap (λ (z : Node). is_name (kind_of z)) t.3 ∙ below 0 t.0 t.1 t.2
    by n below h false w = ap (λ (z : Node). is_name (kind_of z)) (bare_is n w) ∙ bare_name (kind_of n) (first_is (map is_name_under_types (children_of n))) w (sym (fold_out-Node Bool names_step n) ∙ h)

-- ---- it is good where the whole is

wrapped_role : (k : Kind) → is_type_wrapper k ≡ true → (r : Role) → role_in r k 0 ≡ role.Free
unfolding role_in
wrapped_role k w r = six_at Role (λ z. role_in r z 0) role.Free (refl, refl, refl, refl, refl, refl) k w

wrapped_strays : (k : Kind) → is_type_wrapper k ≡ true → (s : Strays) → (strays_in s k 0).arguments ≡ s.arguments
unfolding strays_in in_named
wrapped_strays k w s = six_at Bool (λ z. (strays_in s z 0).arguments) s.arguments (refl, refl, refl, refl, refl, refl) k w

abbrev pub GoodName : Node → Place → Type 0
GoodName u p = (q : Place) × Good u q × (q.where_at.role ≡ role.Free) × (q.held_at.strays.arguments ≡ p.held_at.strays.arguments)

abbrev Reaches : Node → Type 0
Reaches n = (p : Place) → Good n p → is_type_wrapper (kind_of n) ≡ true → is_name_under_types n ≡ true → GoodName (under_types n) p

node_reaches : (n : Node) → ((i : ℕ) (c : Node) → slice_get (children_of n) i ≡ Some c → Reaches c) → Reaches n
node_reaches n below p g w h = by (is_type_wrapper (kind_of f.0)) refl
  where
    f : (e : Node) × (slice_get (children_of n) 0 ≡ Some e) × (is_name_under_types e ≡ true) × (under_types n ≡ under_types e)
    f = front n w h

    c : (o : Shape) × (slice_get (child_shapes (kind_of n) p.shape (length (children_of n))) 0 ≡ Some o) × Good f.0 (inside p n 0 o)
    c = good_child n p g 0 f.0 f.1

    same : (strays_in p.held_at.strays (kind_of n) 0).arguments ≡ p.held_at.strays.arguments
    same = wrapped_strays (kind_of n) w p.held_at.strays

    by : (b : Bool) → is_type_wrapper (kind_of f.0) ≡ b → GoodName (under_types n) p
    by true e =
        let t = below 0 f.0 f.1 (inside p n 0 c.0) c.2 e f.2 in
        (t.0, subst (λ (z : Node). Good z t.0) (sym f.3) t.1, t.2, t.3 ∙ same)
    by false e =
        (inside p n 0 c.0, subst (λ (z : Node). Good z (inside p n 0 c.0)) (sym (f.3 ∙ bare_is f.0 e)) c.2, wrapped_role (kind_of n) w p.where_at.role, same)

pub name_good : (n : Node) → Reaches n
name_good = by_children Reaches node_reaches
