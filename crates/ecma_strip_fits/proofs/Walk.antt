-- A walk over a tree without its types tells nothing where one over the tree tells nothing.
use Rattle.std.proofs.Common.{◌≡◌, ◌∙◌, inl, inr, ℕ, zero, suc, Bool, true, false, not, cond, List, [], ◌∷◌, map, filter, length, Option, Some, None, refl, sym, ap, ap₂, subst, slice_get}
use Rattle.std.proofs.lemmas.List.{length-map}
use Rattle.ecma_kind.specs.declared.kind.Kind.TheVariants as kind
use Rattle.ecma_kind.specs.declared.shapes.Shape.{Shape}
use Rattle.ecma_kind.specs.declared.shapes.Sort.TheVariants as sort
use Rattle.ecma_kind.specs.declared.span.Span.{Span}
use Rattle.ecma_tree.specs.declared.node.Node.{Node, Node-F, ind-Node, out-Node, roll-Node}
use Rattle.ecma_tree.specs.declared.node.Node.TheViews.{out-roll-Node, roll-out-Node}
use Rattle.ecma_tree.specs.Laws.{HaveShapes}
use Rattle.ecma_tree.specs.Nodes.{absent, dummy_span, node_of}
use Rattle.ecma_tree.specs.Sorted.{HasShape, allows, child_shapes, is_absent, is_list, item_shape, one}
use Rattle.ecma_tree.proofs.ShapeLaws.{node_has_shape}
use Rattle.ecma_tree.proofs.Layers.{from_leaves_out}
use Rattle.ecma_rules.specs.Children.{kind_of}
use Rattle.ecma_rules.specs.Failing.{failing_step, first_failing, least, least_from}
use Rattle.ecma_strip.specs.Staying.{is_empty_stmt, item_stays, stays}
use Rattle.ecma_strip.specs.Stripping.{body_of, operand, plain, plain_children, plain_kind, staying_nodes, stripped, without_empty, without_this}
use Rattle.ecma_strip.proofs.Sorting.{list-kind}
use Rattle.ecma_strip.proofs.Stripping.{stripped-out}
use Rattle.ecma_strip_fits.proofs.Classes.{Class, Turned, class_of, is_body_at, is_receiver_at, only_list, plain_listed, plain_typed, plain_usual, plain_wrapped, turned, usual_stay, wrapped_front, wrapped_stay}
use Rattle.ecma_strip_fits.proofs.Classes.Class.{Listed, Typed, Usual, Wrapped}
use Rattle.ecma_strip_fits.proofs.Lists.{filter_at, have_at, items_at, map_at}

abbrev pub children_of : Node → List Node
children_of n = (out-Node n).children

pub shape_parts : (n : Node) (o : Shape) → HasShape o n → (allows o (kind_of n) ≡ true) × HaveShapes (child_shapes (kind_of n) o (length (children_of n))) (children_of n)
shape_parts n o h = let x = out-Node n in (node_has_shape x.span x.kind x.children o).0 (subst (HasShape o) (sym (roll-out-Node n)) h)

-- ---- what becomes of a node

pub typed_is : (n : Node) → class_of (kind_of n) ≡ Typed → stripped n ≡ absent
typed_is n e = stripped-out n ∙ plain_typed (out-Node n).span (map stripped (staying_nodes (kind_of n) (children_of n))) (kind_of n) e

pub wrapped_is : (n : Node) → class_of (kind_of n) ≡ Wrapped → (e : Node) (ts : List Node) → children_of n ≡ e ∷ ts → stripped n ≡ stripped e
wrapped_is n w e ts is =
    stripped-out n ∙ plain_wrapped (out-Node n).span (map stripped (staying_nodes (kind_of n) (children_of n))) (kind_of n) w
    ∙ ap (λ (z : List Node). operand (out-Node n).span (kind_of n) (map stripped z)) (wrapped_stay (kind_of n) (children_of n) w ∙ is)

pub usual_is : (n : Node) → class_of (kind_of n) ≡ Usual → stripped n ≡ node_of (out-Node n).span (plain_kind (kind_of n)) (plain_children (kind_of n) (map stripped (children_of n)))
usual_is n u =
    stripped-out n ∙ plain_usual (out-Node n).span (map stripped (staying_nodes (kind_of n) (children_of n))) (kind_of n) u
    ∙ ap (λ (z : List Node). node_of (out-Node n).span (plain_kind (kind_of n)) (plain_children (kind_of n) (map stripped z))) (usual_stay (kind_of n) (children_of n) u)

pub usual_kind : (n : Node) → class_of (kind_of n) ≡ Usual → kind_of (stripped n) ≡ plain_kind (kind_of n)
usual_kind n u =
    ap kind_of (usual_is n u)
    ∙ ap (λ (z : Node-F Node). z.kind) (out-roll-Node (record { span = (out-Node n).span; kind = plain_kind (kind_of n); children = plain_children (kind_of n) (map stripped (children_of n)) }))

pub usual_children : (n : Node) → class_of (kind_of n) ≡ Usual → children_of (stripped n) ≡ plain_children (kind_of n) (map stripped (children_of n))
usual_children n u =
    ap children_of (usual_is n u)
    ∙ ap (λ (z : Node-F Node). z.children) (out-roll-Node (record { span = (out-Node n).span; kind = plain_kind (kind_of n); children = plain_children (kind_of n) (map stripped (children_of n)) }))

pub listed_is : (n : Node) → is_list (kind_of n) ≡ true → stripped n ≡ node_of (out-Node n).span kind.List (map stripped (filter stays (children_of n)))
listed_is n l =
    stripped-out n ∙ ap (λ k. plain (out-Node n).span k (map stripped (staying_nodes k (children_of n)))) (list-kind (kind_of n) l)
    ∙ plain_listed (out-Node n).span (map stripped (filter stays (children_of n)))

pub listed_parts : (n : Node) → is_list (kind_of n) ≡ true → out-Node (stripped n) ≡ record { span = (out-Node n).span; kind = kind.List; children = map stripped (filter stays (children_of n)) }
listed_parts n l = ap out-Node (listed_is n l) ∙ out-roll-Node (record { span = (out-Node n).span; kind = kind.List; children = map stripped (filter stays (children_of n)) })

-- ---- walks

some_same : {X : Type 0} {x y : X} → Some x ≡ Some y → x ≡ y
some_same e = cc

pub neither_least : (a b : Option ℕ) → least a b ≡ None → (a ≡ None) × (b ≡ None)
neither_least None b h = (refl, h)
neither_least (Some i) None h = cc
neither_least (Some i) (Some j) h = cc

module _ (A : Type 0) (f : Node → A → Option ℕ) where
  shifted : (around : ℕ → A) (k : ℕ) (cs : List (A → Option ℕ)) → least_from A around (suc k) cs ≡ least_from A (λ i. around (suc i)) k cs
  shifted around k [] = refl
  shifted around k (c ∷ cs) = ap (least (c (around (suc k)))) (shifted around (suc k) cs)

  -- none of these nodes tells anything
  abbrev pub NoneTells : (ℕ → A) → List Node → Type 0
  NoneTells around cs = (i : ℕ) (c : Node) → slice_get cs i ≡ Some c → f c (around i) ≡ None

  pub each_none : (cs : List Node) (around : ℕ → A) → least_from A around 0 (map f cs) ≡ None → NoneTells around cs
  each_none [] around h i c at = cc
  each_none (x ∷ xs) around h zero c at = let same : x ≡ c = cc in ap (λ z. f z (around 0)) (sym same) ∙ (neither_least (f x (around 0)) (least_from A around 1 (map f xs)) h).0
  each_none (x ∷ xs) around h (suc i) c at =
      each_none xs (λ j. around (suc j)) (sym (shifted around 0 (map f xs)) ∙ (neither_least (f x (around 0)) (least_from A around 1 (map f xs)) h).1) i c at

  pub none_from : (cs : List Node) (around : ℕ → A) → NoneTells around cs → least_from A around 0 (map f cs) ≡ None
  none_from [] around h = refl
  none_from (x ∷ xs) around h = ap₂ least (h 0 x refl) (shifted around 0 (map f xs) ∙ none_from xs (λ j. around (suc j)) (λ i c at. h (suc i) c at))

module _ (A : Type 0) (inside : A → Node → ℕ → A) (p q : A → Node → Option ℕ) (R : Node → Shape → A → A → Type 0) where
  abbrev first : (A → Node → Option ℕ) → Node → A → Option ℕ
  first place = first_failing A place inside

  -- how the nodes of a tree stand, and they without types: what carries it down, and that then a node tells nothing
  pub record Carries : Type 0 where
    pub missing : (n : Node) (s : Shape) (a b : A) → class_of (kind_of n) ≡ Typed → HasShape s n → R n s a b → p a n ≡ None → q b absent ≡ None
    pub empty : (n : Node) (s : Shape) (a b : A) → class_of (kind_of n) ≡ Usual → HasShape s n → R n s a b → p a n ≡ None → (i : ℕ) → is_body_at (kind_of n) i ≡ true → (span : Span)
        → q (inside b (stripped n) i) (node_of span kind.EmptyStmt []) ≡ None
    pub lone : (n : Node) (s : Shape) (a b : A) → class_of (kind_of n) ≡ Usual → HasShape s n → R n s a b → p a n ≡ None → (i : ℕ) → is_receiver_at (kind_of n) i ≡ true → q (inside b (stripped n) i) absent ≡ None
    pub lists : (n : Node) (s : Shape) (a b : A) → is_list (kind_of n) ≡ true → HasShape s n → R n s a b → p a n ≡ None → (span : Span) (cs : List Node) → q b (node_of span kind.List cs) ≡ None
    pub under : (n : Node) (s : Shape) (a b : A) → class_of (kind_of n) ≡ Wrapped → HasShape s n → R n s a b → p a n ≡ None → (e : Node) → slice_get (children_of n) 0 ≡ Some e → HasShape (one sort.Expr) e → R e (one sort.Expr) (inside a n 0) b
    pub here : (n : Node) (s : Shape) (a b : A) → class_of (kind_of n) ≡ Usual → HasShape s n → R n s a b → p a n ≡ None → q b (stripped n) ≡ None
    pub items : (n : Node) (s : Shape) (a b : A) → is_list (kind_of n) ≡ true → R n s a b → (m : Node) → is_list (kind_of m) ≡ true → (c : Node) (i j : ℕ) → slice_get (children_of n) i ≡ Some c
        → (suc i ≡ length (children_of n) → suc j ≡ length (children_of m)) → R c (item_shape s) (inside a n i) (inside b m j)
    pub below : (n : Node) (s : Shape) (a b : A) → class_of (kind_of n) ≡ Usual → HasShape s n → R n s a b → p a n ≡ None → (c : Node) (o : Shape) (i : ℕ) → slice_get (children_of n) i ≡ Some c
        → slice_get (child_shapes (kind_of n) s (length (children_of n))) i ≡ Some o → R c o (inside a n i) (inside b (stripped n) i)

  module _ (carries : Carries) where
    -- what is shown of each node
    abbrev Kept : Node → Type 0
    Kept n = (s : Shape) (a b : A) → HasShape s n → R n s a b → first p n a ≡ None
        → (first q (stripped n) b ≡ None) × (is_list (kind_of n) ≡ true → first q (without_empty (stripped n)) b ≡ None)

    first-out : (place : A → Node → Option ℕ) (n : Node) (a : A) → first place n a ≡ least (place a n) (least_from A (inside a n) 0 (map (first place) (children_of n)))
    first-out place n a = ap (λ f. f a) (from_leaves_out (A → Option ℕ) (failing_step A place inside) n)

    -- a node that tells nothing over children that tell nothing
    tells_none : (place : A → Node → Option ℕ) (n : Node) (a : A) → place a n ≡ None → NoneTells A (first place) (inside a n) (children_of n) → first place n a ≡ None
    tells_none place n a here below = first-out place n a ∙ ap₂ least here (none_from A (first place) (children_of n) (inside a n) below)

    leaf_none : (n : Node) (b : A) → q b n ≡ None → children_of n ≡ [] → first q n b ≡ None
    leaf_none n b here none = first-out q n b ∙ ap₂ least here (ap (λ (z : List Node). least_from A (inside b n) 0 (map (first q) z)) none)

    absent_none : (b : A) → q b absent ≡ None → first q absent b ≡ None
    absent_none b here = leaf_none absent b here (ap (λ (z : Node-F Node). z.children) (out-roll-Node (record { span = dummy_span; kind = kind.Absent; children = [] })))

    empty_none : (span : Span) (b : A) → q b (node_of span kind.EmptyStmt []) ≡ None → first q (node_of span kind.EmptyStmt []) b ≡ None
    empty_none span b here = leaf_none (node_of span kind.EmptyStmt []) b here (ap (λ (z : Node-F Node). z.children) (out-roll-Node (record { span = span; kind = kind.EmptyStmt; children = [] })))

    body_none : (d : Node) (b : A) → ((span : Span) → q b (node_of span kind.EmptyStmt []) ≡ None) → first q d b ≡ None → first q (body_of d) b ≡ None
    body_none d b here h = by (item_stays d)
      where
        by : (keeps : Bool) → first q (cond keeps d (node_of (out-Node d).span kind.EmptyStmt [])) b ≡ None
        by true = h
        by false = empty_none (out-Node d).span b (here (out-Node d).span)

    lone_none : (d : Node) (b : A) → q b absent ≡ None → first q d b ≡ None → first q (without_this d) b ≡ None
    lone_none d b here h = by (is_absent (kind_of d))
      where
        by : (gone : Bool) → first q (cond gone d absent) b ≡ None
        by true = h
        by false = absent_none b here

    module _ (n : Node) (below : (i : ℕ) (c : Node) → slice_get (children_of n) i ≡ Some c → Kept c) (s : Shape) (a b : A) (h : HasShape s n) (r : R n s a b) (none : first p n a ≡ None) where
      told : (p a n ≡ None) × (least_from A (inside a n) 0 (map (first p) (children_of n)) ≡ None)
      told = neither_least (p a n) (least_from A (inside a n) 0 (map (first p) (children_of n))) (sym (first-out p n a) ∙ none)

      each : NoneTells A (first p) (inside a n) (children_of n)
      each = each_none A (first p) (children_of n) (inside a n) told.1

      typed_kept : class_of (kind_of n) ≡ Typed → first q (stripped n) b ≡ None
      typed_kept t = ap (λ (m : Node). first q m b) (typed_is n t) ∙ absent_none b (carries.missing n s a b t h r told.0)

      wrapped_kept : class_of (kind_of n) ≡ Wrapped → first q (stripped n) b ≡ None
      wrapped_kept w =
          let front = wrapped_front (kind_of n) s (length (children_of n)) (children_of n) w (shape_parts n s h).1 in
          let e = front.0 in
          let is : children_of n ≡ e ∷ front.1 = front.2 in
          let at : slice_get (children_of n) 0 ≡ Some e = ap (λ (z : List Node). slice_get z 0) is in
          ap (λ (m : Node). first q m b) (wrapped_is n w e front.1 is)
          ∙ (below 0 e at (one sort.Expr) (inside a n 0) b front.3 (carries.under n s a b w h r told.0 e at front.3) (each 0 e at)).0

      turned_none : (body this : Bool) (o : Shape) (c d : Node) (b' : A) → (body ≡ true → (span : Span) → q b' (node_of span kind.EmptyStmt []) ≡ None) → (this ≡ true → q b' absent ≡ None) → HasShape o c
          → (first q (stripped c) b' ≡ None) × (is_list (kind_of c) ≡ true → first q (without_empty (stripped c)) b' ≡ None) → Turned body this (Some o) (stripped c) d → first q d b' ≡ None
      turned_none body this o c d b' empty lone has k (inl e) = ap (λ (m : Node). first q m b') (sym e) ∙ k.0
      turned_none body this o c d b' empty lone has k (inr (inl (is, e))) = ap (λ (m : Node). first q m b') (sym e) ∙ body_none (stripped c) b' (empty is) k.0
      turned_none body this o c d b' empty lone has k (inr (inr (inl (σ, is, e)))) =
          ap (λ (m : Node). first q m b') (sym e) ∙ k.1 (subst (λ z. allows z (kind_of c) ≡ true) (some_same is) (shape_parts c o has).0)
      turned_none body this o c d b' empty lone has k (inr (inr (inr (is, e)))) = ap (λ (m : Node). first q m b') (sym e) ∙ lone_none (stripped c) b' (lone is) k.0

      usual_each : class_of (kind_of n) ≡ Usual → NoneTells A (first q) (inside b (stripped n)) (plain_children (kind_of n) (map stripped (children_of n)))
      usual_each u i d at =
          let os = child_shapes (kind_of n) s (length (children_of n)) in
          let t = turned (kind_of n) s (length (children_of n)) (map stripped (children_of n)) i d at in
          let m = map_at stripped (children_of n) i t.0 t.1 in
          let c = m.0 in
          let w = have_at os (children_of n) (shape_parts n s h).1 i c m.1 in
          let body = is_body_at (kind_of n) i in
          let this = is_receiver_at (kind_of n) i in
          turned_none body this w.0 c d (inside b (stripped n) i) (carries.empty n s a b u h r told.0 i) (carries.lone n s a b u h r told.0 i) w.2 (below i c m.1 w.0 (inside a n i) (inside b (stripped n) i) w.2 (carries.below n s a b u h r told.0 c w.0 i m.1 w.1) (each i c m.1))
          (subst (λ o. Turned body this o (stripped c) d) w.1 (subst (λ (x : Node). Turned body this (slice_get os i) x d) (sym m.2) t.2))

      usual_kept : class_of (kind_of n) ≡ Usual → first q (stripped n) b ≡ None
      usual_kept u =
          tells_none q (stripped n) b (carries.here n s a b u h r told.0)
          (subst (NoneTells A (first q) (inside b (stripped n))) (sym (usual_children n u)) (usual_each u))

      -- what is left of a list: the last item, where it stays, is the last
      left_each : (l : is_list (kind_of n) ≡ true) (m : Node) → is_list (kind_of m) ≡ true → (k : ℕ) (d : Node) → slice_get (map stripped (filter stays (children_of n))) k ≡ Some d → (j : ℕ)
          → (suc k ≡ length (map stripped (filter stays (children_of n))) → suc j ≡ length (children_of m)) → first q d (inside b m j) ≡ None
      left_each l m list k d at j last =
          let t = map_at stripped (filter stays (children_of n)) k d at in
          let c = t.0 in
          let f = filter_at stays (children_of n) k c t.1 in
          let parts = shape_parts n s h in
          let has = items_at (item_shape s) (children_of n) (subst (λ k. HaveShapes (child_shapes k s (length (children_of n))) (children_of n)) (list-kind (kind_of n) l) parts.1) f.0 c f.1 in
          let last' : suc f.0 ≡ length (children_of n) → suc j ≡ length (children_of m) = λ e. last (f.2 e ∙ sym (length-map (filter stays (children_of n)) stripped)) in
          ap (λ (x : Node). first q x (inside b m j)) (sym t.2)
          ∙ (below f.0 c f.1 (item_shape s) (inside a n f.0) (inside b m j) has (carries.items n s a b l r m list c f.0 j f.1 last') (each f.0 c f.1)).0

      left_none : (l : is_list (kind_of n) ≡ true) (span : Span) (ds : List Node) → ((m : Node) → is_list (kind_of m) ≡ true → children_of m ≡ ds → NoneTells A (first q) (inside b m) ds) → first q (node_of span kind.List ds) b ≡ None
      left_none l span ds all =
          let m = node_of span kind.List ds in
          let parts : out-Node m ≡ record { span = span; kind = kind.List; children = ds } = out-roll-Node (record { span = span; kind = kind.List; children = ds }) in
          let children : children_of m ≡ ds = ap (λ (z : Node-F Node). z.children) parts in
          tells_none q m b (carries.lists n s a b l h r told.0 span ds) (subst (NoneTells A (first q) (inside b m)) (sym children) (all m (ap (λ (z : Node-F Node). is_list z.kind) parts) children))

      listed_kept : is_list (kind_of n) ≡ true → first q (stripped n) b ≡ None
      listed_kept l =
          ap (λ (m : Node). first q m b) (listed_is n l)
          ∙ left_none l (out-Node n).span (map stripped (filter stays (children_of n))) (λ m list is j d at. left_each l m list j d at j (λ e. e ∙ ap length (sym is)))

      tidied_kept : is_list (kind_of n) ≡ true → first q (without_empty (stripped n)) b ≡ None
      tidied_kept l =
          let ds = map stripped (filter stays (children_of n)) in
          ap (λ (z : Node-F Node). first q (node_of z.span z.kind (filter (λ m. not (is_empty_stmt (out-Node m).kind)) z.children)) b) (listed_parts n l)
          ∙ left_none l (out-Node n).span (filter (λ m. not (is_empty_stmt (out-Node m).kind)) ds) (λ m list is j d at.
          (let f = filter_at (λ (x : Node). not (is_empty_stmt (out-Node x).kind)) ds j d at in left_each l m list f.0 d f.1 j (λ e. f.2 e ∙ ap length (sym is))))

      by_class : (k : Class) → class_of (kind_of n) ≡ k → first q (stripped n) b ≡ None
      by_class Typed e = typed_kept e
      by_class Wrapped e = wrapped_kept e
      by_class Listed e = listed_kept (ap is_list (only_list (kind_of n) e))
      by_class Usual e = usual_kept e

      node_kept : (first q (stripped n) b ≡ None) × (is_list (kind_of n) ≡ true → first q (without_empty (stripped n)) b ≡ None)
      node_kept = (by_class (class_of (kind_of n)) refl, tidied_kept)

    each_of : (es : List ((n : Node) × Kept n)) (i : ℕ) (c : Node) → slice_get (map (λ e. e.0) es) i ≡ Some c → Kept c
    each_of [] i c at = cc
    each_of (e ∷ es) zero c at = let same : e.0 ≡ c = cc in subst Kept same e.1
    each_of (e ∷ es) (suc i) c at = each_of es i c at

    pub kept : (n : Node) → Kept n
    kept = ind-Node Kept (λ x y is.
        node_kept (roll-Node x) (λ i c at.
        each_of y.children i c (ap (λ (z : Node-F Node). slice_get z.children i) is ∙ (sym (ap (λ (z : Node-F Node). slice_get z.children i) (out-roll-Node x)) ∙ at))))
