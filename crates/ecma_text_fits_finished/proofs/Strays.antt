-- What belongs to nothing in a finished tree belongs to nothing in the raw one.
use Rattle.std.proofs.Common.{◌≡◌, ◌∙◌, ℕ, suc, Bool, true, false, List, [], ◌∷◌, ◌++◌, map, length, Option, None, refl, sym, ap, subst, slice_get}
use Rattle.ecma_kind.specs.declared.span.Span.{Span}
use Rattle.ecma_kind.specs.declared.operators.AssignOp.{AssignOp}
use Rattle.ecma_kind.specs.declared.operators.AssignOp.TheVariants.{Assign}
use Rattle.ecma_kind.specs.declared.kind.Kind.{Kind}
use Rattle.ecma_kind.specs.declared.kind.Kind.TheVariants as kind
use Rattle.ecma_kind.specs.declared.shapes.Shape.{Shape}
use Rattle.ecma_kind.specs.declared.shapes.Sort.TheVariants as sort
use Rattle.ecma_tree.specs.declared.node.Node.{Node, Node-F, fold-roll-Node, ind-Node, out-Node, roll-Node}
use Rattle.ecma_tree.specs.declared.node.Node.TheViews.{out-roll-Node}
use Rattle.ecma_tree.specs.Laws.{HaveShapes}
use Rattle.ecma_tree.specs.Nodes.{absent, dummy_span, node_of}
use Rattle.ecma_tree.specs.Sorted.{HasShape, child_shapes, one, HasSort}
use Rattle.ecma_tree.proofs.ShapeLaws.{node_has_shape}
use Rattle.ecma_rules.specs.declared.target.Target.{Target}
use Rattle.ecma_rules.specs.declared.target.Target.TheVariants as target
use Rattle.ecma_rules.specs.Failing.{failing_here, failing_step, least, least_from}
use Rattle.ecma_rules.specs.Finishing.{binding, default_by, each_in, element_by, finished_at, finished_by, finished_step, left_by, name_by, part_by, property_by, shorthand, with_kind, with_type, finished}
use Rattle.ecma_rules.specs.Jumps.{Held, ends_jumps, first_held_stray, first_stray, held_behind, held_in, is_held_stray, is_stray_in, not_held, own_label, stray_here, text_by, text_of}
use Rattle.ecma_rules.specs.Rules.{first_misplaced, first_broken}
use Rattle.ecma_rules.specs.Strays.{in_named, is_stray, strays_in}
use Rattle.ecma_rules.specs.Surroundings.{at_root}
use Rattle.ecma_rules.specs.Targets.{target_in}
use Rattle.ecma_tree.proofs.Layers.{from_leaves-roll}
use Rattle.ecma_raw_roles.proofs.Walks.{free_kind, have_front, not_true, one_more}
use Rattle.ecma_fits.proofs.Walks.{both_none, neither_least, not_failing, shifted}

-- the label of a node with these children
abbrev pub label_in : List Node → Option (List ℕ)
label_in children = text_of (slice_get children 0)

-- what is held in the child at an index
abbrev pub held_by : Held → Kind → Option (List ℕ) → ℕ → Held
held_by held k label i = held_behind (strays_in held.strays k i) (ends_jumps k) (own_label k label) held.labels

-- a node tells nothing exactly where it is no stray and its children tell nothing
module _ (x : Node-F Node) (held : Held) where
  abbrev n : Node
  n = roll-Node x

  is : out-Node n ≡ x
  is = out-roll-Node x

  equation : first_held_stray n held ≡ least (stray_here held n) (least_from Held (held_in held n) 0 (map first_held_stray x.children))
  equation = ap (λ f. f held) (from_leaves-roll (Held → Option ℕ) (failing_step Held stray_here held_in) x)

  pub none_parts : first_held_stray n held ≡ None → (is_stray_in held x.kind (label_in x.children) ≡ false) × (least_from Held (held_by held x.kind (label_in x.children)) 0 (map first_held_stray x.children) ≡ None)
  none_parts h =
      let w = neither_least (stray_here held n) (least_from Held (held_in held n) 0 (map first_held_stray x.children)) (sym equation ∙ h) in (
        subst (λ (p : Node-F Node). is_stray_in held p.kind (label_in p.children) ≡ false) is (not_failing (is_held_stray held n) n w.0),
        subst (λ (p : Node-F Node). least_from Held (held_by held p.kind (label_in p.children)) 0 (map first_held_stray x.children) ≡ None) is w.1,
      )

  none_whole : is_stray_in held x.kind (label_in x.children) ≡ false → least_from Held (held_by held x.kind (label_in x.children)) 0 (map first_held_stray x.children) ≡ None → first_held_stray n held ≡ None
  none_whole h g =
      let here : is_held_stray held n ≡ false = subst (λ (p : Node-F Node). is_stray_in held p.kind (label_in p.children) ≡ false) (sym is) h in
      let below : least_from Held (held_in held n) 0 (map first_held_stray x.children) ≡ None = subst (λ (p : Node-F Node). least_from Held (held_by held p.kind (label_in p.children)) 0 (map first_held_stray x.children) ≡ None) (sym is) g in
      equation ∙ both_none (stray_here held n) _ (ap (λ b. failing_here b n) here) below

absent_tells : (held : Held) → first_held_stray absent held ≡ None
unfolding is_stray_in is_stray
absent_tells held = none_whole (record { span = dummy_span; kind = kind.Absent; children = [] }) held refl refl

-- jumps and labelled statements have labels
abbrev uses_label : Kind → Bool
uses_label kind.BreakStmt = true
uses_label kind.ContinueStmt = true
uses_label kind.LabeledStmt = true
uses_label _ = false

stray_label : (held : Held) (k : Kind) (l m : Option (List ℕ)) → (uses_label k ≡ true → l ≡ m) → is_stray_in held k m ≡ false → is_stray_in held k l ≡ false
unfolding is_stray_in
stray_label held kind.BreakStmt l m e h = subst (λ z. is_stray_in held kind.BreakStmt z ≡ false) (sym (e refl)) h
stray_label held kind.ContinueStmt l m e h = subst (λ z. is_stray_in held kind.ContinueStmt z ≡ false) (sym (e refl)) h
stray_label held _ l m e h = h

own_same : (k : Kind) (l m : Option (List ℕ)) → (uses_label k ≡ true → l ≡ m) → own_label k l ≡ own_label k m
own_same kind.LabeledStmt l m e = e refl
own_same _ l m e = refl

label_free : (cs : List Node) → label_in (each_in (λ i. target.Free) (map finished_at cs)) ≡ label_in cs
label_free [] = refl
label_free (c ∷ cs) = ap text_by (free_kind c)

label_stays : (t : Target) (k : Kind) (cs : List Node) → uses_label k ≡ true → label_in (each_in (target_in t k) (map finished_at cs)) ≡ label_in cs
unfolding target_in
label_stays t kind.BreakStmt cs h = label_free cs
label_stays t kind.ContinueStmt cs h = label_free cs
label_stays t kind.LabeledStmt cs h = label_free cs
label_stays t _ cs h = not_true h

no_children : (cs : List Node) → HaveShapes [] cs → cs ≡ []
no_children [] h = refl
no_children (c ∷ cs) h = absurd h

-- a name that is declared, or is taken for such, is no stray
module _ (span : Span) (text : List ℕ) (ctxt : ℕ) (optional : Bool) (children : List Node) where
  abbrev ident : Kind
  ident = kind.Ident text ctxt optional

  abbrev name : Node
  name = node_of span ident children

  name_tells : (held : Held) → held.strays.arguments ≡ false → HasShape (one sort.Ident) name → first_held_stray name held ≡ None
  unfolding is_stray_in is_stray
  name_tells held unused h =
      let none = no_children children ((node_has_shape span ident children (one sort.Ident)).0 h).1 in
      none_whole (record { span = span; kind = ident; children = children }) held (rw unused refl)
      (subst (λ (z : List Node). least_from Held (held_by held ident (label_in z)) 0 (map first_held_stray z) ≡ None) (sym none) refl)

  binding_tells : (held : Held) (o : Shape) → HasShape o (binding name) → first_held_stray (binding name) held ≡ None
  unfolding is_stray_in is_stray strays_in in_named ends_jumps
  binding_tells held o h =
      let t = (node_has_shape (out-Node name).span kind.BindingIdent (name ∷ absent ∷ []) o).0 h in
      let inside = held_by held kind.BindingIdent (label_in (name ∷ absent ∷ [])) in
      none_whole (record { span = (out-Node name).span; kind = kind.BindingIdent; children = name ∷ absent ∷ [] }) held refl
      (both_none (first_held_stray name (inside 0)) _ (name_tells (inside 0) refl t.1.0) (both_none (first_held_stray absent (inside 1)) None (absent_tells (inside 1)) refl))

  shorthand_tells : (held : Held) (o : Shape) → HasShape o (shorthand name) → first_held_stray (shorthand name) held ≡ None
  unfolding is_stray_in is_stray strays_in in_named ends_jumps
  shorthand_tells held o h =
      let t = (node_has_shape (out-Node name).span kind.AssignPatProp (binding name ∷ absent ∷ []) o).0 h in
      let inside = held_by held kind.AssignPatProp (label_in (binding name ∷ absent ∷ [])) in
      none_whole (record { span = (out-Node name).span; kind = kind.AssignPatProp; children = binding name ∷ absent ∷ [] }) held refl
      (both_none (first_held_stray (binding name) (inside 0)) _ (binding_tells (inside 0) (one sort.BindingIdent) t.1.0) (both_none (first_held_stray absent (inside 1)) None (absent_tells (inside 1)) refl))

-- a node that is finished, whose children were `cs` and are finished too
module _ (span : Span) (held : Held) (o : Shape) (cs children : List Node)
    (below : (held_of : ℕ → Held) (os : List Shape) → HaveShapes os children → least_from Held held_of 0 (map first_held_stray cs) ≡ None → least_from Held held_of 0 (map first_held_stray children) ≡ None) where
  abbrev parts : Kind → Node-F Node
  parts k = record { span = span; kind = k; children = children }

  -- nothing was told of a node of this kind
  record Was (k : Kind) : Type 0 where
    here : is_stray_in held k (label_in cs) ≡ false
    inside : least_from Held (held_by held k (label_in cs)) 0 (map first_held_stray cs) ≡ None
    label : uses_label k ≡ true → label_in children ≡ label_in cs

  abbrev Tells : Node → Type 0
  Tells n = HasShape o n → first_held_stray n held ≡ None

  same : (k : Kind) → Was k → Tells (roll-Node (parts k))
  same k w h =
      let t = (node_has_shape span k children o).0 h in
      let told = below (held_by held k (label_in cs)) (child_shapes k o (length children)) t.1 w.inside in
      none_whole (parts k) held (stray_label held k (label_in children) (label_in cs) w.label w.here)
      (subst (λ z. least_from Held (λ i. held_behind (strays_in held.strays k i) (ends_jumps k) z held.labels) 0 (map first_held_stray children) ≡ None) (sym (own_same k (label_in children) (label_in cs) w.label)) told)

  -- of another kind, in which as much is held
  abbrev HoldsAlike : Kind → Kind → Type 0
  HoldsAlike k to = ((l : Option (List ℕ)) → is_stray_in held to l ≡ false) × ((l : Option (List ℕ)) → held_by held k (label_in cs) ≡ held_by held to l)

  turned : (k to : Kind) → HoldsAlike k to → Was k → Tells (with_kind to (parts k))
  turned k to alike w h =
      let t = (node_has_shape span to children o).0 h in
      let told = below (held_by held k (label_in cs)) (child_shapes to o (length children)) t.1 w.inside in
      none_whole (parts to) held (alike.0 (label_in children)) (subst (λ (f : ℕ → Held). least_from Held f 0 (map first_held_stray children) ≡ None) (alike.1 (label_in children)) told)

  typed : (k to : Kind) → HoldsAlike k to → Was k → Tells (with_type to (parts k))
  typed k to alike w h =
      let t = (node_has_shape span to (children ++ absent ∷ []) o).0 h in
      let front = have_front (child_shapes to o (length (children ++ absent ∷ []))) children (absent ∷ []) t.1 in
      let told = below (held_by held k (label_in cs)) front.0 front.1 w.inside in
      let more = one_more Held first_held_stray (held_by held k (label_in cs)) 0 absent absent_tells children told in
      none_whole (record { span = span; kind = to; children = children ++ absent ∷ [] }) held (alike.0 (label_in (children ++ absent ∷ [])))
      (subst (λ (f : ℕ → Held). least_from Held f 0 (map first_held_stray (children ++ absent ∷ [])) ≡ None) (alike.1 (label_in (children ++ absent ∷ []))) more)

  left : (k : Kind) → Was k → Tells (left_by k (parts k))
  unfolding is_stray_in is_stray strays_in in_named ends_jumps
  left kind.ArrayLit w = typed kind.ArrayLit (kind.ArrayPat false) (λ l. refl, λ l. refl) w
  left kind.ObjectLit w = typed kind.ObjectLit (kind.ObjectPat false) (λ l. refl, λ l. refl) w
  left k w = same k w

  named : (k : Kind) → Was k → Tells (name_by k (parts k))
  named (kind.Ident text ctxt optional) w = binding_tells span text ctxt optional children held o
  named k w = same k w

  part : (k : Kind) → Was k → Tells (part_by k (parts k))
  part (kind.Ident text ctxt optional) w = binding_tells span text ctxt optional children held o
  part kind.ArrayLit w = left kind.ArrayLit w
  part kind.ObjectLit w = left kind.ObjectLit w
  part k w = same k w

  default : (op : AssignOp) → Was (kind.AssignExpr op) → Tells (default_by op (parts (kind.AssignExpr op)))
  unfolding is_stray_in is_stray strays_in in_named ends_jumps
  default Assign w = turned (kind.AssignExpr Assign) kind.AssignPat (λ l. refl, λ l. refl) w
  default op w = same (kind.AssignExpr op) w

  element : (k : Kind) → Was k → Tells (element_by k (parts k))
  unfolding is_stray_in is_stray strays_in in_named ends_jumps
  element kind.SpreadElement w = typed kind.SpreadElement kind.RestPat (λ l. refl, λ l. refl) w
  element (kind.AssignExpr op) w = default op w
  element (kind.Ident text ctxt optional) w = part (kind.Ident text ctxt optional) w
  element kind.ArrayLit w = left kind.ArrayLit w
  element kind.ObjectLit w = left kind.ObjectLit w
  element k w = same k w

  property : (k : Kind) → Was k → Tells (property_by k (parts k))
  unfolding is_stray_in is_stray strays_in in_named ends_jumps
  property kind.KeyValueProp w = turned kind.KeyValueProp kind.KeyValuePatProp (λ l. refl, λ l. refl) w
  property kind.AssignProp w = turned kind.AssignProp kind.AssignPatProp (λ l. refl, λ l. refl) w
  property kind.SpreadElement w = typed kind.SpreadElement kind.RestPat (λ l. refl, λ l. refl) w
  property (kind.Ident text ctxt optional) w = shorthand_tells span text ctxt optional children held o
  property k w = same k w

  finished_tells : (t : Target) (k : Kind) → Was k → Tells (finished_by t (parts k))
  finished_tells target.Left k w = left k w
  finished_tells target.Head k w = part k w
  finished_tells target.Part k w = part k w
  finished_tells target.Rest k w = named k w
  finished_tells target.Name k w = named k w
  finished_tells target.Element k w = element k w
  finished_tells target.Property k w = property k w
  finished_tells _ k w = same k w

abbrev Strayless : Node → Type 0
Strayless n = (t : Target) (held : Held) (o : Shape) → HasShape o (finished_at n t) → first_held_stray n held ≡ None → first_held_stray (finished_at n t) held ≡ None

abbrev AllStrayless : List Node → Type 0
AllStrayless ns = (target_of : ℕ → Target) (held_of : ℕ → Held) (os : List Shape) → HaveShapes os (each_in target_of (map finished_at ns)) → least_from Held held_of 0 (map first_held_stray ns) ≡ None
    → least_from Held held_of 0 (map first_held_stray (each_in target_of (map finished_at ns))) ≡ None

all_strayless : (es : List ((n : Node) × Strayless n)) → AllStrayless (map (λ e. e.0) es)
all_strayless [] target_of held_of os h none = refl
all_strayless (e ∷ es) target_of held_of [] h none = absurd h
all_strayless (e ∷ es) target_of held_of (o ∷ os) h none =
    let ns = map (λ e. e.0) es in
    let w = neither_least (first_held_stray e.0 (held_of 0)) (least_from Held held_of 1 (map first_held_stray ns)) none in
    let now = each_in (λ i. target_of (suc i)) (map finished_at ns) in
    both_none (first_held_stray (finished_at e.0 (target_of 0)) (held_of 0)) (least_from Held held_of 1 (map first_held_stray now))
    (e.1 (target_of 0) (held_of 0) o h.0 w.0)
    (shifted Held held_of 0 (map first_held_stray now) ∙ all_strayless es (λ i. target_of (suc i)) (λ i. held_of (suc i)) os h.1 (sym (shifted Held held_of 0 (map first_held_stray ns)) ∙ w.1))

node_strayless : (x : Node-F Node) → AllStrayless x.children → Strayless (roll-Node x)
node_strayless x below t held o shape none =
    let w = none_parts x held none in
    let children = each_in (target_in t x.kind) (map finished_at x.children) in
    let now : finished_at (roll-Node x) t ≡ finished_by t (record { span = x.span; kind = x.kind; children = children }) = ap (λ f. f t) (fold-roll-Node (Target → Node) finished_step x) in
    subst (λ (m : Node). first_held_stray m held ≡ None) (sym now)
    (finished_tells x.span held o x.children children (below (target_in t x.kind)) t x.kind (record { here = w.0; inside = w.1; label = label_stays t x.kind x.children }) (subst (HasShape o) now shape))

all_nodes_strayless : (n : Node) → Strayless n
all_nodes_strayless = ind-Node Strayless (λ x y is. node_strayless x (subst (λ (z : Node-F Node). AllStrayless z.children) is (all_strayless y.children)))

pub no_strays : (raw : Node) → first_broken raw ≡ None → HasSort sort.Module (finished raw) → first_stray (finished raw) ≡ None
no_strays raw kept sorted =
    let w = neither_least (first_misplaced raw at_root) (first_stray raw) kept in
    all_nodes_strayless raw target.Free not_held (one sort.Module) sorted w.1
