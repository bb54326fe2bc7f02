-- What no node of a raw tree that keeps the rules fails, none of the finished tree fails.
use Rattle.std.proofs.Common.{◌≡◌, ◌∙◌, ℕ, suc, Bool, true, false, not, ◌&&◌, ◌||◌, ◌==◌, List, [], ◌∷◌, ◌++◌, map, length, Option, None, refl, sym, ap, subst, slice_get}
use Rattle.ecma_kind.specs.Sorts.{belongs}
use Rattle.ecma_kind.specs.declared.span.Span.{Span}
use Rattle.ecma_kind.specs.declared.operators.AssignOp.{AssignOp}
use Rattle.ecma_kind.specs.declared.operators.AssignOp.TheVariants.{Assign}
use Rattle.ecma_kind.specs.declared.kind.Kind.{Kind}
use Rattle.ecma_kind.specs.declared.kind.Kind.TheVariants as kind
use Rattle.ecma_kind.specs.declared.shapes.Shape.{Shape}
use Rattle.ecma_kind.specs.declared.shapes.Sort.TheVariants as sort
use Rattle.ecma_tree.specs.declared.node.Node.{Node, Node-F, ind-Node, out-Node, roll-Node}
use Rattle.ecma_tree.specs.declared.node.Node.TheViews.{out-roll-Node, roll-out-Node}
use Rattle.ecma_tree.specs.Laws.{HaveShapes}
use Rattle.ecma_tree.specs.Nodes.{absent, dummy_span, node_of}
use Rattle.ecma_tree.specs.Sorted.{HasShape, child_shapes, one}
use Rattle.ecma_tree.proofs.ShapeLaws.{node_has_shape}
use Rattle.ecma_tree.proofs.Layers.{from_leaves-roll}
use Rattle.ecma_rules.specs.declared.target.Target.{Target}
use Rattle.ecma_rules.specs.declared.target.Target.TheVariants as target
use Rattle.ecma_rules.specs.declared.standing.Around.{Around}
use Rattle.ecma_rules.specs.declared.standing.Standing.{Standing}
use Rattle.ecma_rules.specs.Children.{child_is, kind_of, of_kind}
use Rattle.ecma_rules.specs.Failing.{failing_here, failing_step, first_failing, least_from}
use Rattle.ecma_rules.specs.Finishing.{binding, default_by, each_in, element_by, finished_at, finished_by, left_by, name_by, part_by, property_by, shorthand, with_kind, with_type}
use Rattle.ecma_rules.specs.Lists.{is_early_rest, is_item, is_rest, is_rest_pattern, is_wrong_head, last_by}
use Rattle.ecma_rules.specs.Members.{second_constructor}
use Rattle.ecma_rules.specs.Rules.{fails_list, first_misplaced, is_misplaced, misplaced_here}
use Rattle.ecma_rules.specs.Surroundings.{around_in, standing_by}
use Rattle.ecma_rules.specs.Targets.{first_is, is_literal, is_no_target, is_plain_target, is_simple_target, is_wrapper, takes_patterns, target_in}
use Rattle.ecma_fits.specs.declared.unfit.Where.{Where}
use Rattle.ecma_fits.specs.Fitting.{where_in}
use Rattle.ecma_raw_roles.proofs.Walks.{free_kind, have_front, not_true, one_more, kind_made}
use Rattle.ecma_text_fits_finished.proofs.Standing.{AllStand, Stands, around_by, binds, each_stands, finished_parts, free_child, is_element, is_part, is_property, keeps_last, kept_rules, no_rest_expression, no_target_by, same_children, shape_allows, shown, turns}
use Rattle.ecma_fits.proofs.Walks.{both_none, neither, neither_least, not_failing, shifted}

-- the kinds that finishing makes, and what may stand in them
abbrev pub is_made : Kind → Bool
is_made kind.Absent = true
is_made kind.BindingIdent = true
is_made (kind.Ident text ctxt optional) = true
is_made (kind.ArrayPat optional) = true
is_made (kind.ObjectPat optional) = true
is_made kind.KeyValuePatProp = true
is_made kind.AssignPatProp = true
is_made _ = false

-- a raw node that is not misplaced, in which none is
pub broken_parts : (x : Node-F Node) (a : Around) → first_misplaced (roll-Node x) a ≡ None
    → (is_misplaced a (roll-Node x) ≡ false) × (least_from Around (around_by a x) 0 (map first_misplaced x.children) ≡ None) × (second_constructor (roll-Node x) ≡ None)
broken_parts x a h =
    let n = roll-Node x in
    let e = ap (λ f. f a) (from_leaves-roll (Around → Option ℕ) (failing_step Around misplaced_here around_in) x) in
    let w = neither_least (misplaced_here a n) (least_from Around (around_in a n) 0 (map first_misplaced x.children)) (sym e ∙ h) in
    let v = neither_least (failing_here (is_misplaced a n) n) (second_constructor n) w.0 in
    (not_failing (is_misplaced a n) n v.0, subst (λ (p : Node-F Node). least_from Around (around_by a p) 0 (map first_misplaced x.children) ≡ None) (out-roll-Node x) w.1, v.1)

no_children : (cs : List Node) → HaveShapes [] cs → cs ≡ []
no_children [] h = refl
no_children (c ∷ cs) h = absurd h

is_expression : (n : Node) → HasShape (one sort.Expr) (finished_at n target.Free) → keeps_last (kind_of n) ≡ false
is_expression n h = no_rest_expression (kind_of n) (subst (λ k. belongs sort.Expr k ≡ true) (free_kind n) (shape_allows (finished_at n target.Free) (one sort.Expr) h))

-- the children of an assignment that is a default: a target, and an expression
default_children : (was now : ℕ → Around) (target_of : ℕ → Target) (cs : List Node) → ((k : Kind) → Stands (was 0) k (now 0)) → ((k : Kind) → keeps_last k ≡ false → Stands (was 1) k (now 1))
    → target_of 1 ≡ target.Free → HaveShapes (one sort.Pat ∷ one sort.Expr ∷ []) (each_in target_of (map finished_at cs)) → AllStand was cs now
default_children was now target_of [] first second free h = absurd h
default_children was now target_of (c ∷ []) first second free h = absurd h.1
default_children was now target_of (c ∷ d ∷ []) first second free h =
    (first (kind_of c), (second (kind_of d) (is_expression d (subst (λ t. HasShape (one sort.Expr) (finished_at d t)) free h.1.0)), tt))
default_children was now target_of (c ∷ d ∷ e ∷ cs) first second free h = absurd h.1.1

-- a target in a pattern that is not misplaced is no rest once it is finished
no_rest_target : (x : Node-F Node) → is_no_target target.Part (roll-Node x) ≡ false → is_rest_pattern (kind_of (finished_at (roll-Node x) target.Part)) ≡ false
no_rest_target x h =
    ap (λ n. is_rest_pattern (kind_of n)) (finished_parts x target.Part) ∙ by_kind (each_in (target_in target.Part x.kind) (map finished_at x.children)) x.kind (sym (no_target_by x) ∙ h)
  where
    by_kind : (children : List Node) (k : Kind) → not (is_literal k || (is_plain_target k || (is_wrapper k && first_is (map is_simple_target x.children)))) ≡ false
        → is_rest_pattern (kind_of (part_by k (record { span = x.span; kind = k; children = children }))) ≡ false
    by_kind children kind.RestPat h = not_true (sym h)
    by_kind children (kind.Ident text ctxt optional) h = ap is_rest_pattern (kind_made _)
    by_kind children kind.ArrayLit h = ap is_rest_pattern (kind_made _)
    by_kind children kind.ObjectLit h = ap is_rest_pattern (kind_made _)
    by_kind children k h = ap is_rest_pattern (kind_made (record { span = x.span; kind = k; children = children }))

no_rest_part : (n : Node) (a : Around) → a.target ≡ target.Part → first_misplaced n a ≡ None → is_rest_pattern (kind_of (finished_at n target.Part)) ≡ false
no_rest_part n a part =
    subst (λ (m : Node). first_misplaced m a ≡ None → is_rest_pattern (kind_of (finished_at m target.Part)) ≡ false) (roll-out-Node n)
    (λ h. let x = out-Node n in no_rest_target x (subst (λ t. is_no_target t (roll-Node x) ≡ false) part (kept_rules a (roll-Node x) (broken_parts x a h).0).target))

no_rest_first : (was : ℕ → Around) (target_of : ℕ → Target) (cs : List Node) → (was 0).target ≡ target.Part → target_of 0 ≡ target.Part → least_from Around was 0 (map first_misplaced cs) ≡ None
    → of_kind is_rest_pattern (slice_get (each_in target_of (map finished_at cs)) 0) ≡ false
no_rest_first was target_of [] was_part part h = refl
no_rest_first was target_of (c ∷ cs) was_part part h =
    ap (λ t. is_rest_pattern (kind_of (finished_at c t))) part
    ∙ no_rest_part c (was 0) was_part (neither_least (first_misplaced c (was 0)) (least_from Around was 1 (map first_misplaced cs)) h).0

-- a spread that is an item of what is assigned to stands last
stands_last : (a : Around) (span : Span) (cs : List Node) → is_item a.target ≡ true → fails_list a (node_of span kind.SpreadElement cs) ≡ false → a.is_last ≡ true
stands_last a span cs item h =
    let n = node_of span kind.SpreadElement cs in
    let early = (neither (is_wrong_head a.target n) (is_early_rest a.target a.is_last n) h).1 in
    let spread : ((is_item a.target && true) && not a.is_last) ≡ false = subst (λ k. (is_rest a.target k && not a.is_last) ≡ false) (kind_made (record { span = span; kind = kind.SpreadElement; children = cs })) early in
    unnot a.is_last (subst (λ b. ((b && true) && not a.is_last) ≡ false) item spread)
  where
    unnot : (b : Bool) → not b ≡ false → b ≡ true
    unnot true e = refl
    unnot false e = not_true (sym e)

-- where nothing is turned

nothing_turns : (t : Target) → takes_patterns t ≡ false → is_element t ≡ false → is_property t ≡ false → binds t ≡ false → (k : Kind) → turns t k ≡ false
nothing_turns t patterns element property binding kind.ArrayLit = patterns
nothing_turns t patterns element property binding kind.ObjectLit = patterns
nothing_turns t patterns element property binding kind.SpreadElement = rw (element, property) refl
nothing_turns t patterns element property binding kind.KeyValueProp = property
nothing_turns t patterns element property binding kind.AssignProp = property
nothing_turns t patterns element property binding (kind.AssignExpr op) = rw element refl
nothing_turns t patterns element property binding (kind.Ident text ctxt optional) = binding
nothing_turns t patterns element property binding _ = refl

-- a test of a node and of where it stands: none that finishing makes fails it, a rest that stands last does not, nor does a pattern that is no rest with a
-- default, nor a node that is not turned where it is not misplaced
module _ (T : Where → Node → Bool)
    (made : (w : Where) (x : Node-F Node) → is_made x.kind ≡ true → T w (roll-Node x) ≡ false)
    (rest : (w : Where) (span : Span) (cs : List Node) → w.around.is_last ≡ true → T w (node_of span kind.RestPat cs) ≡ false)
    (with_default : (w : Where) (span : Span) (cs : List Node) → child_is is_rest_pattern (node_of span kind.AssignPat cs) 0 ≡ false → T w (node_of span kind.AssignPat cs) ≡ false)
    (same : (was : Around) (w : Where) (span : Span) (k : Kind) (cs : List Node) (o : Shape) → Stands was k w.around → turns was.target k ≡ false → is_misplaced was (node_of span k cs) ≡ false → second_constructor (node_of span k cs) ≡ None
    → HasShape o (node_of span k (each_in (target_in was.target k) (map finished_at cs))) → T w (node_of span k (each_in (target_in was.target k) (map finished_at cs))) ≡ false) where
  abbrev tell : Where → Node → Option ℕ
  tell w node = failing_here (T w node) node

  abbrev walk : Node → Where → Option ℕ
  walk = first_failing Where tell where_in

  walk_whole : (x : Node-F Node) (w : Where) → T w (roll-Node x) ≡ false → least_from Where (where_in w (roll-Node x)) 0 (map walk x.children) ≡ None → walk (roll-Node x) w ≡ None
  walk_whole x w h g =
      ap (λ f. f w) (from_leaves-roll (Where → Option ℕ) (failing_step Where tell where_in) x)
      ∙ both_none (tell w (roll-Node x)) _ (ap (λ b. failing_here b (roll-Node x)) h) g

  absent_tells : (w : Where) → walk absent w ≡ None
  absent_tells w = let x : Node-F Node = record { span = dummy_span; kind = kind.Absent; children = [] } in walk_whole x w (made w x refl) refl

  module _ (span : Span) (text : List ℕ) (ctxt : ℕ) (optional : Bool) (children : List Node) where
    abbrev ident : Kind
    ident = kind.Ident text ctxt optional

    abbrev name : Node
    name = node_of span ident children

    name_tells : (w : Where) → HasShape (one sort.Ident) name → walk name w ≡ None
    name_tells w h =
        let none = no_children children ((node_has_shape span ident children (one sort.Ident)).0 h).1 in
        let x : Node-F Node = record { span = span; kind = ident; children = children } in
        walk_whole x w (made w x refl) (subst (λ (z : List Node). least_from Where (where_in w name) 0 (map walk z) ≡ None) (sym none) refl)

    binding_tells : (w : Where) (o : Shape) → HasShape o (binding name) → walk (binding name) w ≡ None
    binding_tells w o h =
        let t = (node_has_shape (out-Node name).span kind.BindingIdent (name ∷ absent ∷ []) o).0 h in
        let x : Node-F Node = record { span = (out-Node name).span; kind = kind.BindingIdent; children = name ∷ absent ∷ [] } in
        let inside = where_in w (binding name) in
        walk_whole x w (made w x refl) (both_none (walk name (inside 0)) _ (name_tells (inside 0) t.1.0) (both_none (walk absent (inside 1)) None (absent_tells (inside 1)) refl))

    shorthand_tells : (w : Where) (o : Shape) → HasShape o (shorthand name) → walk (shorthand name) w ≡ None
    shorthand_tells w o h =
        let t = (node_has_shape (out-Node name).span kind.AssignPatProp (binding name ∷ absent ∷ []) o).0 h in
        let x : Node-F Node = record { span = (out-Node name).span; kind = kind.AssignPatProp; children = binding name ∷ absent ∷ [] } in
        let inside = where_in w (shorthand name) in
        walk_whole x w (made w x refl) (both_none (walk (binding name) (inside 0)) _ (binding_tells (inside 0) (one sort.BindingIdent) t.1.0) (both_none (walk absent (inside 1)) None (absent_tells (inside 1)) refl))

  module _ (span : Span) (s : Standing) (l : Bool) (w : Where) (o : Shape) (cs : List Node)
      (below : (was : ℕ → Around) (where_of : ℕ → Where) (os : List Shape) → AllStand was cs (λ i. (where_of i).around) → HaveShapes os (each_in (λ i. (was i).target) (map finished_at cs))
      → least_from Around was 0 (map first_misplaced cs) ≡ None → least_from Where where_of 0 (map walk (each_in (λ i. (was i).target) (map finished_at cs))) ≡ None) where
    -- what stood around the node
    abbrev at : Target → Around
    at t = record { target = t; standing = s; is_last = l }

    abbrev kids : Target → Kind → List Node
    kids t k = each_in (target_in t k) (map finished_at cs)

    abbrev raw : Kind → Node-F Node
    raw k = record { span = span; kind = k; children = cs }

    abbrev parts : Target → Kind → Node-F Node
    parts t k = record { span = span; kind = k; children = kids t k }

    -- a node of this kind kept the rules there, and so did all below
    record Was (t : Target) (k : Kind) : Type 0 where
      fine : is_misplaced (at t) (node_of span k cs) ≡ false
      stands : Stands (at t) k w.around
      inside : least_from Around (around_by (at t) (raw k)) 0 (map first_misplaced cs) ≡ None
      single : second_constructor (node_of span k cs) ≡ None

    abbrev Tells : Node → Type 0
    Tells n = HasShape o n → walk n w ≡ None

    same_tells : (t : Target) (k : Kind) → turns t k ≡ false → Was t k → Tells (roll-Node (parts t k))
    same_tells t k stays was h =
        let have = ((node_has_shape span k (kids t k) o).0 h).1 in
        let stand = subst (λ (p : Node-F Node). AllStand (around_by (at t) (raw k)) cs (λ i. around_by w.around p i)) (sym (out-roll-Node (parts t k))) (same_children (at t) w.around span k cs was.stands stays was.fine) in
        walk_whole (parts t k) w (same (at t) w span k cs o was.stands stays was.fine was.single h) (below (around_by (at t) (raw k)) (where_in w (roll-Node (parts t k))) (child_shapes k o (length (kids t k))) stand have was.inside)

    -- it becomes another kind, as whose children these stand
    turned : (t : Target) (k to : Kind) → T w (with_kind to (parts t k)) ≡ false
        → (HaveShapes (child_shapes to o (length (kids t k))) (kids t k) → AllStand (around_by (at t) (raw k)) cs (around_by w.around (record { span = span; kind = to; children = kids t k }))) → Was t k → Tells (with_kind to (parts t k))
    turned t k to holds stand was h =
        let have = ((node_has_shape span to (kids t k) o).0 h).1 in
        let x : Node-F Node = record { span = span; kind = to; children = kids t k } in
        let all = subst (λ (p : Node-F Node). AllStand (around_by (at t) (raw k)) cs (λ i. around_by w.around p i)) (sym (out-roll-Node x)) (stand have) in
        walk_whole x w holds (below (around_by (at t) (raw k)) (where_in w (roll-Node x)) (child_shapes to o (length (kids t k))) all have was.inside)

    typed : (t : Target) (k to : Kind) → T w (with_type to (parts t k)) ≡ false
        → AllStand (around_by (at t) (raw k)) cs (around_by w.around (record { span = span; kind = to; children = kids t k ++ absent ∷ [] })) → Was t k → Tells (with_type to (parts t k))
    typed t k to holds stand was h =
        let x : Node-F Node = record { span = span; kind = to; children = kids t k ++ absent ∷ [] } in
        let front = have_front (child_shapes to o (length x.children)) (kids t k) (absent ∷ []) ((node_has_shape span to x.children o).0 h).1 in
        let all = subst (λ (p : Node-F Node). AllStand (around_by (at t) (raw k)) cs (λ i. around_by w.around p i)) (sym (out-roll-Node x)) stand in
        let told = below (around_by (at t) (raw k)) (where_in w (roll-Node x)) front.0 all front.1 was.inside in
        walk_whole x w holds (one_more Where walk (where_in w (roll-Node x)) 0 absent absent_tells (kids t k) told)

    array : (t : Target) → ((i : ℕ) → target.Free ≡ shown (target_in t kind.ArrayLit i)) → Was t kind.ArrayLit → Tells (with_type (kind.ArrayPat false) (parts t kind.ArrayLit))
    unfolding target_in standing_by last_by
    array t e was = typed t kind.ArrayLit (kind.ArrayPat false) (made w _ refl) (each_stands _ cs _ (λ i k. record { standing = refl; target = e i; last = λ p q. refl })) was

    object : (t : Target) → ((i : ℕ) → target.Free ≡ shown (target_in t kind.ObjectLit i)) → Was t kind.ObjectLit → Tells (with_type (kind.ObjectPat false) (parts t kind.ObjectLit))
    unfolding target_in standing_by last_by
    object t e was = typed t kind.ObjectLit (kind.ObjectPat false) (made w _ refl) (each_stands _ cs _ (λ i k. record { standing = refl; target = e i; last = λ p q. refl })) was

    -- `...` before what takes the rest, which stood last
    spread : (t : Target) → is_item t ≡ true → is_part t ≡ false → ((i : ℕ) → target.Free ≡ shown (target_in t kind.SpreadElement i)) → Was t kind.SpreadElement → Tells (with_type kind.RestPat (parts t kind.SpreadElement))
    unfolding target_in standing_by last_by
    spread t item part e was =
        let last : w.around.is_last ≡ true = was.stands.last part refl ∙ stands_last (at t) span cs item (kept_rules (at t) (node_of span kind.SpreadElement cs) was.fine).list in
        typed t kind.SpreadElement kind.RestPat (rest w span (kids t kind.SpreadElement ++ absent ∷ []) last) (each_stands _ cs _ (λ i k. record { standing = refl; target = e i; last = λ p q. refl })) was

    left : (k : Kind) → Was target.Left k → Tells (left_by k (parts target.Left k))
    unfolding target_in
    left kind.ArrayLit was = array target.Left (λ i. refl) was
    left kind.ObjectLit was = object target.Left (λ i. refl) was
    left k was = same_tells target.Left k refl was

    head : (k : Kind) → Was target.Head k → Tells (part_by k (parts target.Head k))
    unfolding target_in
    head (kind.Ident text ctxt optional) was = binding_tells span text ctxt optional (kids target.Head (kind.Ident text ctxt optional)) w o
    head kind.ArrayLit was = array target.Head (λ i. refl) was
    head kind.ObjectLit was = object target.Head (λ i. refl) was
    head k was = same_tells target.Head k refl was

    part : (k : Kind) → Was target.Part k → Tells (part_by k (parts target.Part k))
    unfolding target_in
    part (kind.Ident text ctxt optional) was = binding_tells span text ctxt optional (kids target.Part (kind.Ident text ctxt optional)) w o
    part kind.ArrayLit was = array target.Part (λ i. refl) was
    part kind.ObjectLit was = object target.Part (λ i. refl) was
    part k was = same_tells target.Part k refl was

    taken : (k : Kind) → Was target.Rest k → Tells (name_by k (parts target.Rest k))
    taken (kind.Ident text ctxt optional) was = binding_tells span text ctxt optional (kids target.Rest (kind.Ident text ctxt optional)) w o
    taken k was = same_tells target.Rest k refl was

    named : (k : Kind) → Was target.Name k → Tells (name_by k (parts target.Name k))
    named (kind.Ident text ctxt optional) was = binding_tells span text ctxt optional (kids target.Name (kind.Ident text ctxt optional)) w o
    named k was = same_tells target.Name k refl was

    default : (op : AssignOp) → Was target.Element (kind.AssignExpr op) → Tells (default_by op (parts target.Element (kind.AssignExpr op)))
    unfolding target_in standing_by last_by
    default Assign was =
        let assigned = kind.AssignExpr Assign in
        let x : Node-F Node = record { span = span; kind = kind.AssignPat; children = kids target.Element assigned } in
        let no_rest = ap (λ (p : Node-F Node). of_kind is_rest_pattern (slice_get p.children 0)) (out-roll-Node x) ∙ no_rest_first (around_by (at target.Element) (raw assigned)) (target_in target.Element assigned) cs refl refl was.inside in
        turned target.Element assigned kind.AssignPat (with_default w span x.children no_rest)
        (λ have. default_children _ _ (target_in target.Element (kind.AssignExpr Assign)) cs
        (λ k. record { standing = refl; target = refl; last = λ p q. not_true (sym p) })
        (λ k keeps. record { standing = refl; target = refl; last = λ p q. not_true (sym keeps ∙ q) }) refl have) was
    default op was = same_tells target.Element (kind.AssignExpr op) refl was

    element : (k : Kind) → Was target.Element k → Tells (element_by k (parts target.Element k))
    unfolding target_in
    element kind.SpreadElement was = spread target.Element refl refl (λ i. refl) was
    element (kind.AssignExpr op) was = default op was
    element (kind.Ident text ctxt optional) was = binding_tells span text ctxt optional (kids target.Element (kind.Ident text ctxt optional)) w o
    element kind.ArrayLit was = array target.Element (λ i. refl) was
    element kind.ObjectLit was = object target.Element (λ i. refl) was
    element k was = same_tells target.Element k refl was

    property : (k : Kind) → Was target.Property k → Tells (property_by k (parts target.Property k))
    unfolding target_in standing_by last_by
    property kind.KeyValueProp was =
        turned target.Property kind.KeyValueProp kind.KeyValuePatProp (made w _ refl)
        (λ have. each_stands _ cs _ (λ i k. record { standing = refl; target = free_child (i == 1) target.Element refl; last = λ p q. refl })) was
    property kind.AssignProp was =
        turned target.Property kind.AssignProp kind.AssignPatProp (made w _ refl)
        (λ have. each_stands _ cs _ (λ i k. record { standing = refl; target = free_child (i == 0) target.Name refl; last = λ p q. refl })) was
    property kind.SpreadElement was = spread target.Property refl refl (λ i. refl) was
    property (kind.Ident text ctxt optional) was = shorthand_tells span text ctxt optional (kids target.Property (kind.Ident text ctxt optional)) w o
    property k was = same_tells target.Property k refl was

    finished_tells : (t : Target) (k : Kind) → Was t k → Tells (finished_by t (parts t k))
    finished_tells target.Left k was = left k was
    finished_tells target.Head k was = head k was
    finished_tells target.Part k was = part k was
    finished_tells target.Rest k was = taken k was
    finished_tells target.Name k was = named k was
    finished_tells target.Element k was = element k was
    finished_tells target.Property k was = property k was
    finished_tells target.Free k was = same_tells target.Free k (nothing_turns target.Free refl refl refl refl k) was
    finished_tells target.Simple k was = same_tells target.Simple k (nothing_turns target.Simple refl refl refl refl k) was
    finished_tells target.Elements k was = same_tells target.Elements k (nothing_turns target.Elements refl refl refl refl k) was
    finished_tells target.Properties k was = same_tells target.Properties k (nothing_turns target.Properties refl refl refl refl k) was

  abbrev Ruled : Node → Type 0
  Ruled n = (was : Around) (w : Where) (o : Shape) → Stands was (kind_of n) w.around → HasShape o (finished_at n was.target) → first_misplaced n was ≡ None → walk (finished_at n was.target) w ≡ None

  abbrev AllRuled : List Node → Type 0
  AllRuled ns = (was : ℕ → Around) (where_of : ℕ → Where) (os : List Shape) → AllStand was ns (λ i. (where_of i).around) → HaveShapes os (each_in (λ i. (was i).target) (map finished_at ns))
      → least_from Around was 0 (map first_misplaced ns) ≡ None → least_from Where where_of 0 (map walk (each_in (λ i. (was i).target) (map finished_at ns))) ≡ None

  all_ruled : (es : List ((n : Node) × Ruled n)) → AllRuled (map (λ e. e.0) es)
  all_ruled [] was where_of os stand h none = refl
  all_ruled (e ∷ es) was where_of [] stand h none = absurd h
  all_ruled (e ∷ es) was where_of (o ∷ os) stand h none =
      let ns = map (λ e. e.0) es in
      let v = neither_least (first_misplaced e.0 (was 0)) (least_from Around was 1 (map first_misplaced ns)) none in
      let now = each_in (λ i. (was (suc i)).target) (map finished_at ns) in
      both_none (walk (finished_at e.0 (was 0).target) (where_of 0)) (least_from Where where_of 1 (map walk now))
      (e.1 (was 0) (where_of 0) o stand.0 h.0 v.0)
      (shifted Where where_of 0 (map walk now) ∙ all_ruled es (λ i. was (suc i)) (λ i. where_of (suc i)) os stand.1 h.1 (sym (shifted Around was 0 (map first_misplaced ns)) ∙ v.1))

  node_ruled : (x : Node-F Node) → AllRuled x.children → Ruled (roll-Node x)
  node_ruled x below was w o stands shape none =
      let b = broken_parts x was none in
      let at_kind : Stands was x.kind w.around = subst (λ k. Stands was k w.around) (kind_made x) stands in
      subst (λ (m : Node). walk m w ≡ None) (sym (finished_parts x was.target))
      (finished_tells x.span was.standing was.is_last w o x.children below was.target x.kind (record { fine = b.0; stands = at_kind; inside = b.1; single = b.2 }) (subst (HasShape o) (finished_parts x was.target) shape))

  pub ruled : (n : Node) → Ruled n
  ruled = ind-Node Ruled (λ x y is. node_ruled x (subst (λ (z : Node-F Node). AllRuled z.children) is (all_ruled y.children)))
