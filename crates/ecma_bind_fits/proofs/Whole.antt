-- What fits fits with bound names, and then no name is bound with a type round it.
use Rattle.std.proofs.Common.{◌≡◌, ◌∙◌, inl, inr, ℕ, zero, suc, Bool, true, false, not, ◌&&◌, ◌||◌, codes, List, [], ◌∷◌, length, Option, Some, None, refl, sym, ap, ap₂, subst, slice_get}
use Rattle.ecma_kind.specs.Sorts.{belongs, is_type_wrapper}
use Rattle.ecma_kind.specs.declared.kind.Kind.{Kind}
use Rattle.ecma_kind.specs.declared.kind.Kind.TheVariants as kind
use Rattle.ecma_kind.specs.declared.shapes.Shape.{Shape}
use Rattle.ecma_kind.specs.declared.shapes.Sort.TheVariants as sort
use Rattle.ecma_tree.specs.declared.node.Node.{Node, Node-F, out-Node}
use Rattle.ecma_tree.specs.declared.node.Node.TheViews.{out-roll-Node, roll-out-Node}
use Rattle.ecma_tree.specs.Laws.{HaveShapes}
use Rattle.ecma_tree.specs.Nodes.{absent, dummy_span}
use Rattle.ecma_tree.specs.Sorted.{HasShape, child_shapes, maybe, one}
use Rattle.ecma_tree.proofs.ShapeLaws.{node_has_shape}
use Rattle.ecma_leaves.specs.Words.{is_spelled}
use Rattle.ecma_rules.specs.Children.{child_is, is_named, kind_of, of_kind}
use Rattle.ecma_rules.specs.Failing.{failing_here, first_failing}
use Rattle.ecma_rules.specs.Finishing.{binding}
use Rattle.ecma_rules.specs.Jumps.{Held, first_held_stray, held_in, is_held_stray, is_stray_in, label_of, not_held, stray_here}
use Rattle.ecma_rules.specs.declared.strays.Strays.{Strays}
use Rattle.ecma_rules.specs.Strays.{in_named, is_stray, strays_in}
use Rattle.ecma_rules.specs.Targets.{is_simple_target}
use Rattle.ecma_fits.specs.declared.role.Role.{Role}
use Rattle.ecma_fits.specs.declared.role.Role.TheVariants as role
use Rattle.ecma_fits.specs.declared.unfit.Where.{Where}
use Rattle.ecma_fits.specs.Fitting.{Fits, at_top, first_unfit_in, unfit_here, where_in}
use Rattle.ecma_fits.specs.Roles.{is_assigned, is_bound_name, is_name, is_out_of_role, is_tagged, is_wrong_name, may_be, role_in, takes}
use Rattle.ecma_fits.specs.declared.strays.Arguments.{Arguments}
use Rattle.ecma_fits.specs.Strays.{arguments_in, is_stray_target}
use Rattle.ecma_text_fits_finished.proofs.Arguments.{AllLinked, Linked, allows_inert, is_inert_kind, linked_in}
use Rattle.ecma_strip_fits.specs.Targets.{HasPlainTargets, is_typed_target}
use Rattle.ecma_strip_fits.proofs.FitsKept.{fits_kept}
use Rattle.ecma_strip_fits.proofs.Leaves.{unfit_none}
use Rattle.ecma_strip_fits.proofs.Strays.{none_failing, not_failing}
use Rattle.ecma_strip_fits.proofs.Walk.{shape_parts}
use Rattle.ecma_bind.specs.Binding.{binds, bound_at, is_name_under_types, is_typed_name, under_types, with_bound_names}
use Rattle.ecma_bind_fits.specs.Laws.{BoundNamesArePlain, BoundNamesFit, WhatFitsFitsWithoutTypes}
use Rattle.ecma_bind_fits.proofs.Alike.{bound_length, bound_parts, six_at, typed_parts, usual_children, usual_kind}
use Rattle.ecma_bind_fits.proofs.Around.{held_same, place_same, stray_same, where_same}
use Rattle.ecma_bind_fits.proofs.Bound.{bound_each, by_children, children_of, parts_none, typed_is, usual_is, whole_none}
use Rattle.ecma_bind_fits.proofs.Folded.{names_same}
use Rattle.ecma_bind_fits.proofs.Idle.{idle_fits, is_idle}
use Rattle.ecma_bind_fits.proofs.Names.{Good, GoodName, Place, good_child, inside, name_good, under_name}
use Rattle.ecma_bind_fits.proofs.Rules.{good_word, some_same}
use Rattle.ecma_bind_fits.proofs.Suiting.{allows_bound, suits, suits_child}
use Rattle.ecma_fits.proofs.Clauses.{fits_of, none_unfit}

abbrev typed_here : Where → Node → Option ℕ
typed_here w n = failing_here (is_typed_target w n) n

abbrev Plain : Node → Where → Type 0
Plain n w = first_failing Where typed_here where_in n w ≡ None

-- ---- a name that is bound

leaf_children : (k : Kind) (o : Shape) (cs : List Node) → is_name k ≡ true → HaveShapes (child_shapes k o (length cs)) cs → cs ≡ []
leaf_children (kind.Ident sym ctxt optional) o [] i h = refl
leaf_children (kind.Ident sym ctxt optional) o (c ∷ cs) i h = absurd h
leaf_children _ o cs i h = cc

name_shape : (k : Kind) (o : Shape) (cs : List Node) → is_name k ≡ true → HaveShapes (child_shapes k o (length cs)) cs → HaveShapes (child_shapes k (one sort.Ident) (length cs)) cs
name_shape (kind.Ident sym ctxt optional) o cs i h = h
name_shape _ o cs i h = cc

name_belongs : (k : Kind) → is_name k ≡ true → belongs sort.Ident k ≡ true
name_belongs (kind.Ident sym ctxt optional) i = refl
name_belongs _ i = cc

name_idle : (k : Kind) → is_name k ≡ true → is_idle k ≡ true
name_idle (kind.Ident sym ctxt optional) i = refl
name_idle _ i = cc

name_free : (k : Kind) → is_name k ≡ true → may_be role.Free k ≡ true
unfolding may_be
name_free (kind.Ident sym ctxt optional) i = refl
name_free _ i = cc

name_spelled : (k : Kind) (a b : Bool) → is_name k ≡ true → is_spelled a k ≡ true → is_spelled b k ≡ true
name_spelled (kind.Ident sym ctxt optional) a b i h = h
name_spelled _ a b i h = cc

name_stray : (k : Kind) (h : Held) (l : Option (List ℕ)) → is_name k ≡ true → is_stray_in h k l ≡ (h.strays.arguments && is_named (codes "arguments") k)
unfolding is_stray_in is_stray
name_stray (kind.Ident sym ctxt optional) h l i = refl
name_stray _ h l i = cc

binding_may : (r : Role) → binds r ≡ true → may_be r kind.BindingIdent ≡ true
unfolding may_be
binding_may role.Head b = refl
binding_may role.Assigned b = refl
binding_may role.AssignedValue b = refl
binding_may role.AssignedElement b = refl
binding_may role.AssignedName b = refl
binding_may _ b = cc

binding_roles : (r : Role) → binds r ≡ true → (role_in r kind.BindingIdent 0 ≡ role.Free) × (role_in r kind.BindingIdent 1 ≡ role.Nothing)
unfolding role_in
binding_roles role.Head b = (refl, refl)
binding_roles role.Assigned b = (refl, refl)
binding_roles role.AssignedValue b = (refl, refl)
binding_roles role.AssignedElement b = (refl, refl)
binding_roles role.AssignedName b = (refl, refl)
binding_roles _ b = cc

wrapper_ert : (k : Kind) → is_type_wrapper k ≡ true → is_inert_kind k ≡ false
wrapper_ert k w = six_at Bool is_inert_kind false (refl, refl, refl, refl, refl, refl) k w

idle_bare : (k : Kind) → is_idle k ≡ true → is_type_wrapper k ≡ false
idle_bare kind.Absent i = refl
idle_bare kind.BindingIdent i = refl
idle_bare (kind.Ident sym ctxt optional) i = refl
idle_bare _ i = cc

and_no : (b : Bool) → (b && false) ≡ false
and_no true = refl
and_no false = refl

squeeze : (a x n : Bool) → (a && n) ≡ false → (a && (x && n)) ≡ false
squeeze a true n h = h
squeeze a false n h = and_no a

not_not : (b : Bool) → not b ≡ false → b ≡ true
not_not true h = refl
not_not false h = cc

name_unbound : (k : Kind) → is_name k ≡ true → is_bound_name k ≡ false
name_unbound (kind.Ident sym ctxt optional) i = refl
name_unbound _ i = cc

absent_parts : out-Node absent ≡ record { span = dummy_span; kind = kind.Absent; children = [] }
absent_parts = out-roll-Node (record { span = dummy_span; kind = kind.Absent; children = [] })

unbound_stray : (w : Where) (n : Node) → is_bound_name (kind_of n) ≡ false → is_stray_target w.role w.arguments n ≡ false
unbound_stray w n b =
    ap (λ x. w.arguments.stray && (is_assigned w.role && (x && child_is (is_named (codes "arguments")) n 0))) b
    ∙ (ap (λ x. w.arguments.stray && x) (and_no (is_assigned w.role)) ∙ and_no w.arguments.stray)

missing_free : is_out_of_role role.Nothing absent ≡ false
unfolding may_be takes
missing_free = ap (λ k. is_wrong_name role.Nothing k || not (may_be role.Nothing k || (takes role.Nothing k && is_simple_target absent))) (ap (λ (z : Node-F Node). z.kind) absent_parts)

binding_no_stray : (h : Held) (l : Option (List ℕ)) → is_stray_in h kind.BindingIdent l ≡ false
unfolding is_stray_in is_stray
binding_no_stray h l = refl

absent_no_stray : (h : Held) (l : Option (List ℕ)) → is_stray_in h kind.Absent l ≡ false
unfolding is_stray_in is_stray
absent_no_stray h l = refl

binding_no_arguments : (s : Strays) → (strays_in s kind.BindingIdent 0).arguments ≡ false
unfolding strays_in in_named
binding_no_arguments s = refl

-- a node without children
module _ (n : Node) (leaf : children_of n ≡ []) where
  no_child : {A : Type 0} (j : ℕ) (d : Node) → slice_get (children_of n) j ≡ Some d → A
  no_child j d at = let no : None ≡ Some d = sym (ap (λ (z : List Node). slice_get z j) leaf) ∙ at in absurd (cc)

  leaf_fits : (w : Where) → unfit_here w n ≡ None → first_unfit_in n w ≡ None
  leaf_fits w h = whole_none Where unfit_here where_in n w h (λ j d at. no_child j d at)

  leaf_held : (h : Held) → stray_here h n ≡ None → first_held_stray n h ≡ None
  leaf_held h e = whole_none Held stray_here held_in n h e (λ j d at. no_child j d at)

  leaf_plain : (w : Where) → typed_here w n ≡ None → Plain n w
  leaf_plain w h = whole_none Where typed_here where_in n w h (λ j d at. no_child j d at)

idle_plain : (w : Where) (n : Node) → is_idle (kind_of n) ≡ true → typed_here w n ≡ None
idle_plain w n i =
    none_failing (is_typed_target w n) n (ap (λ x. binds w.role && (x && is_name_under_types n)) (idle_bare (kind_of n) i) ∙ and_no (binds w.role))

module _ (n : Node) (p : Place) (g : Good n p) (fine : suits p.where_at.role p.shape.sort ≡ true) (linked : Linked p.held_at.strays p.where_at.arguments p.shape) (t : is_typed_name p.where_at.role n ≡ true) where
  abbrev w : Where
  w = p.where_at

  abbrev h : Held
  h = p.held_at

  abbrev u : Node
  u = under_types n

  abbrev m : Node
  m = binding u

  parts : (binds p.where_at.role ≡ true) × (is_type_wrapper (kind_of n) ≡ true) × (is_name_under_types n ≡ true)
  parts = typed_parts n p.where_at.role t

  good : GoodName u p
  good = name_good n p g parts.1 parts.2

  named : is_name (kind_of u) ≡ true
  named = under_name n parts.2

  u_leaf : children_of u ≡ []
  u_leaf = leaf_children (kind_of u) good.0.shape (children_of u) named (shape_parts u good.0.shape good.1.shaped).1

  m_kind : kind_of m ≡ kind.BindingIdent
  m_kind = ap (λ (z : Node-F Node). z.kind) (bound_parts u)

  m_children : children_of m ≡ u ∷ absent ∷ []
  m_children = ap (λ (z : Node-F Node). z.children) (bound_parts u)

  a_kind : kind_of absent ≡ kind.Absent
  a_kind = ap (λ (z : Node-F Node). z.kind) absent_parts

  a_leaf : children_of absent ≡ []
  a_leaf = ap (λ (z : Node-F Node). z.children) absent_parts

  -- what holds of both parts of it
  of_both : (P : ℕ → Node → Type 0) → P 0 u → P 1 absent → (j : ℕ) (d : Node) → slice_get (children_of m) j ≡ Some d → P j d
  of_both P a b j d at = by j (sym (ap (λ (z : List Node). slice_get z j) m_children) ∙ at)
    where
      by : (j : ℕ) → slice_get (u ∷ absent ∷ []) j ≡ Some d → P j d
      by zero e = let same : u ≡ d = cc in subst (P 0) same a
      by (suc zero) e = let same : absent ≡ d = cc in subst (P 1) same b
      by (suc (suc j)) e = cc

  shaped : HasShape p.shape m
  shaped = (node_has_shape (out-Node u).span kind.BindingIdent (u ∷ absent ∷ []) p.shape).1
      (allows_bound p.shape p.where_at.role (kind_of n) parts.0 fine parts.1 (shape_parts n p.shape g.shaped).0, (name, (missing, tt)))
    where
      name : HasShape (one sort.Ident) u
      name = subst (HasShape (one sort.Ident)) (roll-out-Node u) ((node_has_shape (out-Node u).span (kind_of u) (children_of u) (one sort.Ident)).1
          (name_belongs (kind_of u) named, name_shape (kind_of u) good.0.shape (children_of u) named (shape_parts u good.0.shape good.1.shaped).1))

      missing : HasShape (maybe sort.TsTypeAnn) absent
      missing = (node_has_shape dummy_span kind.Absent [] (maybe sort.TsTypeAnn)).1 (refl, tt)

  no_stray : (p.where_at.arguments.stray && is_named (codes "arguments") (kind_of u)) ≡ false
  no_stray = by linked
    where
      here : (p.held_at.strays.arguments && is_named (codes "arguments") (kind_of u)) ≡ false
      here =
          ap (λ x. x && is_named (codes "arguments") (kind_of u)) (sym good.3)
          ∙ (sym (name_stray (kind_of u) good.0.held_at (label_of u) named)
          ∙ not_failing (is_held_stray good.0.held_at u) u (parts_none Held stray_here held_in u good.0.held_at good.1.held).0)

      by : Linked p.held_at.strays p.where_at.arguments p.shape → (p.where_at.arguments.stray && is_named (codes "arguments") (kind_of u)) ≡ false
      by (inl match) = ap (λ x. x && is_named (codes "arguments") (kind_of u)) (sym match.0) ∙ here
      by (inr inert) = let no : false ≡ true = sym (wrapper_ert (kind_of n) parts.1) ∙ allows_inert p.shape inert (kind_of n) (shape_parts n p.shape g.shaped).0 in absurd (cc)

  bound_fits : first_unfit_in m w ≡ None
  bound_fits = whole_none Where unfit_here where_in m w here (of_both (λ j d. first_unfit_in d (where_in w m j) ≡ None) name missing)
    where
      here : unfit_here w m ≡ None
      here = idle_fits w m (ap is_idle m_kind)
          (ap (λ k. is_wrong_name w.role k || not (may_be w.role k || (takes w.role k && is_simple_target m))) m_kind
          ∙ ap (λ x. not (x || (takes w.role kind.BindingIdent && is_simple_target m))) (binding_may w.role parts.0))
          (ap₂ (λ k (z : List Node). w.arguments.stray && (is_assigned w.role && (is_bound_name k && of_kind (is_named (codes "arguments")) (slice_get z 0)))) m_kind m_children
          ∙ squeeze w.arguments.stray (is_assigned w.role) (is_named (codes "arguments") (kind_of u)) no_stray)
          (ap (is_spelled (is_tagged w.role)) m_kind)

      name_role : (where_in w m 0).role ≡ role.Free
      name_role = ap (λ k. role_in w.role k 0) m_kind ∙ (binding_roles w.role parts.0).0

      name_out : is_out_of_role (where_in w m 0).role u ≡ false
      name_out =
          ap (λ x. is_out_of_role x u) name_role
          ∙ ap₂ (λ x y. x || not (y || (takes role.Free (kind_of u) && is_simple_target u))) (good_word u good.0 good.1 good.2) (name_free (kind_of u) named)

      name_spells : is_spelled (is_tagged (where_in w m 0).role) (kind_of u) ≡ true
      name_spells = name_spelled (kind_of u) (is_tagged good.0.where_at.role) (is_tagged (where_in w m 0).role) named
          (not_not (is_spelled (is_tagged good.0.where_at.role) (kind_of u)) (unfit_none good.0.where_at u (parts_none Where unfit_here where_in u good.0.where_at good.1.fit).0).1)

      name : first_unfit_in u (where_in w m 0) ≡ None
      name = leaf_fits u u_leaf (where_in w m 0) (idle_fits (where_in w m 0) u (name_idle (kind_of u) named) name_out (unbound_stray (where_in w m 0) u (name_unbound (kind_of u) named)) name_spells)

      missing_role : (where_in w m 1).role ≡ role.Nothing
      missing_role = ap (λ k. role_in w.role k 1) m_kind ∙ (binding_roles w.role parts.0).1

      missing_out : is_out_of_role (where_in w m 1).role absent ≡ false
      missing_out = ap (λ x. is_out_of_role x absent) missing_role ∙ missing_free

      missing : first_unfit_in absent (where_in w m 1) ≡ None
      missing = leaf_fits absent a_leaf (where_in w m 1) (idle_fits (where_in w m 1) absent (ap is_idle a_kind) missing_out (unbound_stray (where_in w m 1) absent (ap is_bound_name a_kind)) (ap (is_spelled (is_tagged (where_in w m 1).role)) a_kind))

  bound_held : first_held_stray m h ≡ None
  bound_held = whole_none Held stray_here held_in m h (none_failing (is_held_stray h m) m (ap (λ k. is_stray_in h k (label_of m)) m_kind ∙ binding_no_stray h (label_of m)))
      (of_both (λ j d. first_held_stray d (held_in h m j) ≡ None)
      (leaf_held u u_leaf (held_in h m 0) (none_failing (is_held_stray (held_in h m 0) u) u
      (name_stray (kind_of u) (held_in h m 0) (label_of u) named ∙ ap (λ x. x && is_named (codes "arguments") (kind_of u)) (ap (λ k. (strays_in h.strays k 0).arguments) m_kind ∙ binding_no_arguments h.strays))))
      (leaf_held absent a_leaf (held_in h m 1) (none_failing (is_held_stray (held_in h m 1) absent) absent (ap (λ k. is_stray_in (held_in h m 1) k (label_of absent)) a_kind ∙ absent_no_stray (held_in h m 1) (label_of absent)))))

  bound_plain : Plain m w
  bound_plain = whole_none Where typed_here where_in m w (idle_plain w m (ap is_idle m_kind))
      (of_both (λ j d. Plain d (where_in w m j)) (leaf_plain u u_leaf (where_in w m 0) (idle_plain (where_in w m 0) u (name_idle (kind_of u) named)))
      (leaf_plain absent a_leaf (where_in w m 1) (idle_plain (where_in w m 1) absent (ap is_idle a_kind))))

  typed_whole : Good (bound_at n p.where_at.role) p × Plain (bound_at n p.where_at.role) p.where_at
  typed_whole = subst (λ (z : Node). Good z p × Plain z p.where_at) (sym (typed_is n p.where_at.role t)) (record { shaped = shaped; fit = bound_fits; held = bound_held }, bound_plain)

-- ---- any other node

each_of : (cs : List Node) (roles : ℕ → Role) (j : ℕ) (d : Node) → slice_get (bound_each roles cs) j ≡ Some d → (c : Node) × (slice_get cs j ≡ Some c) × (bound_at c (roles j) ≡ d)
each_of [] roles j d at = cc
each_of (c ∷ cs) roles zero d at = (c, refl, cc)
each_of (c ∷ cs) roles (suc j) d at = each_of cs (λ i. roles (suc i)) j d at

have_each : (os : List Shape) (cs : List Node) (roles : ℕ → Role) → HaveShapes os cs → ((i : ℕ) (c : Node) (o : Shape) → slice_get cs i ≡ Some c → slice_get os i ≡ Some o → HasShape o (bound_at c (roles i))) → HaveShapes os (bound_each roles cs)
have_each [] [] roles h s = tt
have_each [] (c ∷ cs) roles h s = absurd h
have_each (o ∷ os) [] roles h s = absurd h
have_each (o ∷ os) (c ∷ cs) roles h s = (s 0 c o refl refl, have_each os cs (λ i. roles (suc i)) h.1 (λ i d q a b. s (suc i) d q a b))

linked_at : (ss : ℕ → Strays) (as_of : ℕ → Arguments) (os : List Shape) → AllLinked ss as_of os → (i : ℕ) (o : Shape) → slice_get os i ≡ Some o → Linked (ss i) (as_of i) o
linked_at ss as_of [] a i o at = cc
linked_at ss as_of (x ∷ os) a zero o at = let same : x ≡ o = cc in subst (Linked (ss 0) (as_of 0)) same a.0
linked_at ss as_of (x ∷ os) a (suc i) o at = linked_at (λ j. ss (suc j)) (λ j. as_of (suc j)) os a.1 i o at

abbrev Kept : Node → Type 0
Kept n = (p : Place) → Good n p → suits p.where_at.role p.shape.sort ≡ true → Linked p.held_at.strays p.where_at.arguments p.shape
    → Good (bound_at n p.where_at.role) p × Plain (bound_at n p.where_at.role) p.where_at

module _ (n : Node) (below : (i : ℕ) (c : Node) → slice_get (children_of n) i ≡ Some c → Kept c) (p : Place) (g : Good n p) (fine : suits p.where_at.role p.shape.sort ≡ true)
    (linked : Linked p.held_at.strays p.where_at.arguments p.shape) (usual : is_typed_name p.where_at.role n ≡ false) where
  abbrev roles : ℕ → Role
  roles = role_in p.where_at.role (kind_of n)

  abbrev bound : Node
  bound = bound_at n p.where_at.role

  child_kept : (i : ℕ) (c : Node) (o : Shape) → slice_get (children_of n) i ≡ Some c → slice_get (child_shapes (kind_of n) p.shape (length (children_of n))) i ≡ Some o → Good c (inside p n i o)
      → Good (bound_at c (role_in p.where_at.role (kind_of n) i)) (inside p n i o) × Plain (bound_at c (role_in p.where_at.role (kind_of n) i)) (where_in p.where_at n i)
  child_kept i c o at is gc =
      below i c at (inside p n i o) gc (suits_child (kind_of n) p.where_at.role p.shape (length (children_of n)) i o fine is)
      (linked_at (strays_in p.held_at.strays (kind_of n)) (arguments_in p.where_at.arguments (kind_of n)) (child_shapes (kind_of n) p.shape (length (children_of n)))
      (linked_in p.held_at.strays p.where_at.arguments (kind_of n) p.shape (length (children_of n)) linked (shape_parts n p.shape g.shaped).0) i o is)

  usual_shaped : HasShape p.shape (bound_at n p.where_at.role)
  usual_shaped =
      let parts = shape_parts n p.shape g.shaped in
      let have = have_each (child_shapes (kind_of n) p.shape (length (children_of n))) (children_of n) (role_in p.where_at.role (kind_of n)) parts.1
      (λ i c o at is. (let q = good_child n p g i c at in let same : q.0 ≡ o = some_same (sym q.1 ∙ is) in subst (λ z. HasShape z (bound_at c (role_in p.where_at.role (kind_of n) i))) same (child_kept i c q.0 at q.1 q.2).0.shaped)) in
      let kids = bound_each (role_in p.where_at.role (kind_of n)) (children_of n) in
      subst (HasShape p.shape) (sym (usual_is n p.where_at.role usual))
      ((node_has_shape (out-Node n).span (kind_of n) kids p.shape).1
      (parts.0, subst (λ z. HaveShapes (child_shapes (kind_of n) p.shape z) (bound_each (role_in p.where_at.role (kind_of n)) (children_of n))) (sym (bound_length (children_of n) (role_in p.where_at.role (kind_of n)))) have))

  -- what holds of each child holds of each child there
  of_each : (P : ℕ → Node → Type 0) → ((j : ℕ) (c : Node) (o : Shape) → Good (bound_at c (role_in p.where_at.role (kind_of n) j)) (inside p n j o) × Plain (bound_at c (role_in p.where_at.role (kind_of n) j)) (where_in p.where_at n j) → P j (bound_at c (role_in p.where_at.role (kind_of n) j)))
      → (j : ℕ) (d : Node) → slice_get (children_of (bound_at n p.where_at.role)) j ≡ Some d → P j d
  of_each P f j d at =
      let e = each_of (children_of n) (role_in p.where_at.role (kind_of n)) j d (sym (ap (λ (z : List Node). slice_get z j) (usual_children n p.where_at.role usual)) ∙ at) in
      let q = good_child n p g j e.0 e.1 in
      subst (P j) e.2 (f j e.0 q.0 (child_kept j e.0 q.0 e.1 q.1 q.2))

  usual_fits : first_unfit_in (bound_at n p.where_at.role) p.where_at ≡ None
  usual_fits = whole_none Where unfit_here where_in (bound_at n p.where_at.role) p.where_at
      (place_same p.where_at n p g usual ∙ (parts_none Where unfit_here where_in n p.where_at g.fit).0)
      (of_each (λ j d. first_unfit_in d (where_in p.where_at (bound_at n p.where_at.role) j) ≡ None)
      (λ j c o k. ap (first_unfit_in (bound_at c (role_in p.where_at.role (kind_of n) j))) (where_same p.where_at n p.where_at.role usual j) ∙ k.0.fit))

  usual_held : first_held_stray (bound_at n p.where_at.role) p.held_at ≡ None
  usual_held = whole_none Held stray_here held_in (bound_at n p.where_at.role) p.held_at
      (stray_same p.held_at n p.where_at.role usual ∙ (parts_none Held stray_here held_in n p.held_at g.held).0)
      (of_each (λ j d. first_held_stray d (held_in p.held_at (bound_at n p.where_at.role) j) ≡ None)
      (λ j c o k. ap (first_held_stray (bound_at c (role_in p.where_at.role (kind_of n) j))) (held_same p.held_at n p.where_at.role usual j) ∙ k.0.held))

  usual_plain : Plain (bound_at n p.where_at.role) p.where_at
  usual_plain = whole_none Where typed_here where_in (bound_at n p.where_at.role) p.where_at
      (none_failing (is_typed_target p.where_at (bound_at n p.where_at.role)) (bound_at n p.where_at.role) still)
      (of_each (λ j d. Plain d (where_in p.where_at (bound_at n p.where_at.role) j))
      (λ j c o k. ap (first_failing Where typed_here where_in (bound_at c (role_in p.where_at.role (kind_of n) j))) (where_same p.where_at n p.where_at.role usual j) ∙ k.1))
    where
      still : is_typed_name p.where_at.role (bound_at n p.where_at.role) ≡ false
      still = ap₂ (λ k x. binds p.where_at.role && (is_type_wrapper k && x)) (usual_kind n p.where_at.role usual) (names_same n p.where_at.role usual) ∙ usual

  usual_whole : Good (bound_at n p.where_at.role) p × Plain (bound_at n p.where_at.role) p.where_at
  usual_whole = (record { shaped = usual_shaped; fit = usual_fits; held = usual_held }, usual_plain)

pub kept : (n : Node) → Kept n
kept = by_children Kept (λ n below p g fine linked. by n below p g fine linked (is_typed_name p.where_at.role n) refl)
  where
    by : (n : Node) → ((i : ℕ) (c : Node) → slice_get (children_of n) i ≡ Some c → Kept c) → (p : Place) → Good n p → suits p.where_at.role p.shape.sort ≡ true → Linked p.held_at.strays p.where_at.arguments p.shape
        → (t : Bool) → is_typed_name p.where_at.role n ≡ t → Good (bound_at n p.where_at.role) p × Plain (bound_at n p.where_at.role) p.where_at
    by n below p g fine linked true e = typed_whole n p g fine linked e
    by n below p g fine linked false e = usual_whole n below p g fine linked e

whole_kept : (tree : Node) → Fits tree → Fits (with_bound_names tree) × HasPlainTargets (with_bound_names tree)
whole_kept tree f =
    let k = kept tree (record { where_at = at_top; held_at = not_held; shape = one sort.Module }) (record { shaped = f.sorted; fit = none_unfit tree f; held = f.strays }) refl (inl (refl, refl)) in
    (fits_of (with_bound_names tree) k.0.shaped k.0.fit k.0.held, k.1)

pub names_fit : BoundNamesFit
names_fit tree f = (whole_kept tree f).0

pub names_are_plain : BoundNamesArePlain
names_are_plain tree f = (whole_kept tree f).1

pub fit_without_types : WhatFitsFitsWithoutTypes
fit_without_types tree f = let t = whole_kept tree f in fits_kept (with_bound_names tree) t.0 t.1
