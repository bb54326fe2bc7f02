-- What is said of the nodes of a tree, but for what goes from lists, and what is then so of the tree without its types.
use Rattle.std.proofs.Common.{◌≡◌, inl, inr, ℕ, Bool, true, false, not, cond, List, [], map, filter, length, Some, refl, sym, ap, subst, slice_get}
use Rattle.ecma_kind.specs.declared.kind.Kind.{Kind}
use Rattle.ecma_kind.specs.declared.kind.Kind.TheVariants as kind
use Rattle.ecma_kind.specs.declared.shapes.Shape.{Shape}
use Rattle.ecma_kind.specs.declared.shapes.Sort.TheVariants as sort
use Rattle.ecma_kind.specs.declared.span.Span.{Span}
use Rattle.ecma_tree.specs.declared.node.Node.{Node, Node-F, out-Node}
use Rattle.ecma_tree.specs.Laws.{HaveShapes}
use Rattle.ecma_tree.specs.Nodes.{absent, node_of}
use Rattle.ecma_tree.specs.Sorted.{HasShape, allows, child_shapes, is_absent, is_list, item_shape, one}
use Rattle.ecma_rules.specs.Children.{kind_of}
use Rattle.ecma_strip.specs.Staying.{is_empty_stmt, item_stays, stays}
use Rattle.ecma_strip.specs.Stripping.{body_of, plain_children, plain_kind, stripped, without_empty, without_this}
use Rattle.ecma_strip.proofs.Sorting.{list-kind}
use Rattle.ecma_strip_fits.proofs.Classes.{Class, Turned, class_of, is_body_at, is_receiver_at, only_list, turned, wrapped_front}
use Rattle.ecma_strip_fits.proofs.Classes.Class.{Listed, Typed, Usual, Wrapped}
use Rattle.ecma_strip_fits.proofs.Lists.{filter_at, filter_passes, have_at, items_at, map_at}
use Rattle.ecma_strip_fits.proofs.Walk.{listed_is, listed_parts, shape_parts, typed_is, usual_is, wrapped_is}
use Rattle.ecma_hygiene_fits.proofs.Everywhere.{children_of}
use Rattle.ecma_pipeline_runs.proofs.Nodes.{StaysIn, by-children, in-no-list, some-same}

usual_unlisted : (k : Kind) → class_of k ≡ Usual → is_list k ≡ false
unfolding class_of
usual_unlisted kind.List e = cc
usual_unlisted _ e = refl

wrapped_unlisted : (k : Kind) → class_of k ≡ Wrapped → is_list k ≡ false
unfolding class_of
wrapped_unlisted kind.List e = cc
wrapped_unlisted _ e = refl

module _ (T E : Node → Type 0) where
  abbrev pub AllAre : List Node → Type 0
  AllAre cs = (i : ℕ) (c : Node) → slice_get cs i ≡ Some c → E c

  -- what is said of a node is said of its children that stay, and is enough for what is left of it
  pub record Says : Type 0 where
    pub below : (n : Node) → T n → (i : ℕ) (c : Node) → slice_get (children_of n) i ≡ Some c → StaysIn (kind_of n) c → T c
    pub missing : E absent
    pub empty : (span : Span) → E (node_of span kind.EmptyStmt [])
    pub lists : (span : Span) (cs : List Node) → AllAre cs → E (node_of span kind.List cs)
    pub usual : (n : Node) (s : Shape) → class_of (kind_of n) ≡ Usual → HasShape s n → T n → AllAre (plain_children (kind_of n) (map stripped (children_of n)))
        → E (node_of (out-Node n).span (plain_kind (kind_of n)) (plain_children (kind_of n) (map stripped (children_of n))))

  module _ (says : Says) where
    -- a node without types, and a list that has lost its empty statements too
    abbrev pub IsLeft : Node → Type 0
    IsLeft c = E (stripped c) × (is_list (kind_of c) ≡ true → E (without_empty (stripped c)))

    abbrev Kept : Node → Type 0
    Kept n = (s : Shape) → HasShape s n → T n → IsLeft n

    body_good : (d : Node) → E d → E (body_of d)
    body_good d h = by (item_stays d)
      where
        by : (keeps : Bool) → E (cond keeps d (node_of (out-Node d).span kind.EmptyStmt []))
        by true = h
        by false = says.empty (out-Node d).span

    this_good : (d : Node) → E d → E (without_this d)
    this_good d h = by (is_absent (kind_of d))
      where
        by : (gone : Bool) → E (cond gone d absent)
        by true = h
        by false = says.missing

    turned_good : (body this : Bool) (o : Shape) (c d : Node) → HasShape o c → IsLeft c → Turned body this (Some o) (stripped c) d → E d
    turned_good body this o c d has k (inl e) = subst E e k.0
    turned_good body this o c d has k (inr (inl (is, e))) = subst E e (body_good (stripped c) k.0)
    turned_good body this o c d has k (inr (inr (inl (σ, is, e)))) = subst E e (k.1 (subst (λ z. allows z (kind_of c) ≡ true) (some-same is) (shape_parts c o has).0))
    turned_good body this o c d has k (inr (inr (inr (is, e)))) = subst E e (this_good (stripped c) k.0)

    module _ (n : Node) (below : (i : ℕ) (c : Node) → slice_get (children_of n) i ≡ Some c → Kept c) (s : Shape) (h : HasShape s n) (t : T n) where
      -- a child that stands in no list
      child_kept : is_list (kind_of n) ≡ false → (i : ℕ) (c : Node) → slice_get (children_of n) i ≡ Some c → (o : Shape) → HasShape o c → IsLeft c
      child_kept free i c at o has = below i c at o has (says.below n t i c at (in-no-list (kind_of n) c free))

      typed_kept : class_of (kind_of n) ≡ Typed → E (stripped n)
      typed_kept e = subst E (sym (typed_is n e)) says.missing

      wrapped_kept : class_of (kind_of n) ≡ Wrapped → E (stripped n)
      wrapped_kept w =
          let front = wrapped_front (kind_of n) s (length (children_of n)) (children_of n) w (shape_parts n s h).1 in
          let at : slice_get (children_of n) 0 ≡ Some front.0 = ap (λ (z : List Node). slice_get z 0) front.2 in
          subst E (sym (wrapped_is n w front.0 front.1 front.2)) (child_kept (wrapped_unlisted (kind_of n) w) 0 front.0 at (one sort.Expr) front.3).0

      usual_each : class_of (kind_of n) ≡ Usual → AllAre (plain_children (kind_of n) (map stripped (children_of n)))
      usual_each u i d at =
          let os = child_shapes (kind_of n) s (length (children_of n)) in
          let t = turned (kind_of n) s (length (children_of n)) (map stripped (children_of n)) i d at in
          let m = map_at stripped (children_of n) i t.0 t.1 in
          let c = m.0 in
          let w = have_at os (children_of n) (shape_parts n s h).1 i c m.1 in
          let body = is_body_at (kind_of n) i in
          let this = is_receiver_at (kind_of n) i in
          turned_good body this w.0 c d w.2 (child_kept (usual_unlisted (kind_of n) u) i c m.1 w.0 w.2)
          (subst (λ o. Turned body this o (stripped c) d) w.1 (subst (λ (x : Node). Turned body this (slice_get os i) x d) (sym m.2) t.2))

      usual_kept : class_of (kind_of n) ≡ Usual → E (stripped n)
      usual_kept u = subst E (sym (usual_is n u)) (says.usual n s u h t (usual_each u))

      abbrev rest : List Node
      rest = map stripped (filter stays (children_of n))

      item_kept : is_list (kind_of n) ≡ true → AllAre rest
      item_kept l k d at =
          let m = map_at stripped (filter stays (children_of n)) k d at in
          let c = m.0 in
          let f = filter_at stays (children_of n) k c m.1 in
          let has = items_at (item_shape s) (children_of n) (subst (λ k. HaveShapes (child_shapes k s (length (children_of n))) (children_of n)) (list-kind (kind_of n) l) (shape_parts n s h).1) f.0 c f.1 in
          subst E m.2 (below f.0 c f.1 (item_shape s) has (says.below n t f.0 c f.1 (λ list. filter_passes stays (children_of n) k c m.1))).0

      listed_kept : is_list (kind_of n) ≡ true → E (stripped n)
      listed_kept l = subst E (sym (listed_is n l)) (says.lists (out-Node n).span rest (item_kept l))

      abbrev is_something : Node → Bool
      is_something m = not (is_empty_stmt (out-Node m).kind)

      tidied_kept : is_list (kind_of n) ≡ true → E (without_empty (stripped n))
      tidied_kept l =
          subst (λ (z : Node-F Node). E (node_of z.span z.kind (filter is_something z.children))) (sym (listed_parts n l))
          (says.lists (out-Node n).span (filter is_something rest) (λ j d at. let f = filter_at is_something rest j d at in item_kept l f.0 d f.1))

      by_class : (k : Class) → class_of (kind_of n) ≡ k → E (stripped n)
      by_class Typed e = typed_kept e
      by_class Wrapped e = wrapped_kept e
      by_class Listed e = listed_kept (ap is_list (only_list (kind_of n) e))
      by_class Usual e = usual_kept e

      node_kept : IsLeft n
      node_kept = (by_class (class_of (kind_of n)) refl, tidied_kept)

    pub kept : (n : Node) → Kept n
    kept = by-children Kept node_kept
