-- The names of what is declared are the ids that are declared in it.
use Rattle.std.proofs.Common.{◌≡◌, refl, sym, ap, ap₂, ◌∙◌, subst, ℕ, suc, List, [], ◌∷◌, ◌++◌, map, length, replicate, Bool, true, false, cond, not, ◌&&◌, ◌||◌}
use Rattle.ecma_kind.specs.Sorts.{belongs}
use Rattle.ecma_kind.specs.declared.kind.Kind.{Kind}
use Rattle.ecma_kind.specs.declared.kind.Kind.TheVariants as kind
use Rattle.ecma_kind.specs.declared.shapes.Count.{Count}
use Rattle.ecma_kind.specs.declared.shapes.Count.TheVariants as count
use Rattle.ecma_kind.specs.declared.shapes.Shape.{Shape}
use Rattle.ecma_kind.specs.declared.shapes.Sort.{Sort}
use Rattle.ecma_kind.specs.declared.shapes.Sort.TheVariants as sort
use Rattle.ecma_tree.specs.declared.node.Node.{Node, Node-F, ind-Node, out-Node, roll-Node}
use Rattle.ecma_tree.specs.declared.node.Node.TheViews.{out-roll-Node, roll-out-Node}
use Rattle.ecma_tree.specs.Laws.{HaveShapes}
use Rattle.ecma_tree.specs.Sorted.{HasShape, allows, child_shapes, is_absent, is_list, item_shape, maybe, one, shape_of}
use Rattle.ecma_tree.proofs.ShapeLaws.{node_has_shape}
use Rattle.ecma_fits.specs.declared.role.Role.{Role}
use Rattle.ecma_fits.specs.declared.role.Role.TheVariants as role
use Rattle.ecma_fits.specs.declared.unfit.Where.{Where}
use Rattle.ecma_fits.specs.Fitting.{where_in}
use Rattle.ecma_fits.specs.Roles.{is_assigned, is_binding, is_bound_name, is_default, is_out_of_role, is_rest, is_wrong_name, may_be, role_in, takes}
use Rattle.ecma_rules.specs.Children.{kind_of}
use Rattle.ecma_rules.specs.Targets.{is_simple_target}
use Rattle.ecma_scope.specs.declared.form.Form.{Form}
use Rattle.ecma_scope.specs.declared.form.Part.TheVariants as part
use Rattle.ecma_scope.specs.declared.form.Sought.{Sought}
use Rattle.ecma_scope.specs.Declarations.{in_name, sought_in}
use Rattle.ecma_hygiene.proofs.Telling.{and-right, or-first, or-second, true-false}
use Rattle.ecma_hygiene_scopes.specs.DeclaredIds.{id_here, ids_declared, ids_in}
use Rattle.ecma_runs.specs.State.{Id, same_id}
use Rattle.ecma_runs.specs.Environment.{is_among}
use Rattle.ecma_runs.specs.Declarations.{all_names}
use Rattle.ecma_runs.specs.Evaluation.{meaning, meaning_by}
use Rattle.ecma_runs.proofs.Layer.{meaning_out}
use Rattle.ecma_lower_names.proofs.Parts.{Each, Placed, among-append, and-true, in-role, kept, kept-append, kept-nil, kept-out, placed-below}

-- ---- shapes

pub shape_out : (shape : Shape) (n : Node) → HasShape shape n → (allows shape (out-Node n).kind ≡ true) × HaveShapes (child_shapes (out-Node n).kind shape (length (out-Node n).children)) (out-Node n).children
shape_out shape n h = (node_has_shape (out-Node n).span (out-Node n).kind (out-Node n).children shape).0 (subst (HasShape shape) (sym (roll-out-Node n)) h)

-- ---- the roles of what is declared

abbrev is_property : Kind → Bool
is_property kind.KeyValuePatProp = true
is_property kind.AssignPatProp = true
is_property kind.RestPat = true
is_property _ = false

abbrev are_properties : Count → Sort → Bool
are_properties count.Many sort.ObjectPatProp = true
are_properties _ _ = false

-- a part of what is declared, of a shape, where it stands
abbrev pub binds : Role → Shape → Kind → Bool
binds role.Declared shape k = is_binding k || is_absent k
binds role.DeclaredValue shape k = is_binding k || is_default k
binds role.DeclaredElement shape k = is_binding k || (is_default k || (is_rest k || is_absent k))
binds role.Parameter shape k = is_binding k || (is_default k || (is_rest k || is_absent k))
binds role.DefaultedParameter shape k = is_binding k || is_rest k
binds role.DeclaredName shape k = is_bound_name k
binds role.DeclaredElements shape k = is_list k
binds role.Parameters shape k = is_list k
binds role.DeclaredProperties shape k = are_properties shape.count shape.sort && is_list k
binds role.DeclaredProperty shape k = is_property k
binds _ shape k = false

free-may : (wrong may takes simple : Bool) → (wrong || not (may || (takes && simple))) ≡ false → takes ≡ false → may ≡ true
free-may false true takes simple h e = refl
free-may false false true simple h e = absurd (true-false refl e)
free-may false false false simple h e = absurd (true-false refl h)
free-may true may takes simple h e = absurd (true-false refl h)

module _ (r : Role) (n : Node) (h : is_out_of_role r n ≡ false) where
  may : takes r (kind_of n) ≡ false → may_be r (kind_of n) ≡ true
  may e = free-may (is_wrong_name r (kind_of n)) (may_be r (kind_of n)) (takes r (kind_of n)) (is_simple_target n) h e

-- in these roles a part is what its role says
may-bind : (w : Where) (shape : Shape) (n : Node) → Placed w n → (r : Role) → w.role ≡ r → takes r (kind_of n) ≡ false → may_be r (kind_of n) ≡ binds r shape (kind_of n) → binds w.role shape (kind_of n) ≡ true
may-bind w shape n p r is free same =
    let out : is_out_of_role r n ≡ false = subst (λ q. is_out_of_role q n ≡ false) is (in-role w n p) in
    subst (λ q. binds q shape (kind_of n) ≡ true) (sym is) (sym same ∙ may r n out free)

pub declared-binds : (w : Where) (shape : Shape) (n : Node) → Placed w n → w.role ≡ role.Declared → binds w.role shape (kind_of n) ≡ true
unfolding may_be takes
declared-binds w shape n p is = may-bind w shape n p role.Declared is refl refl

value-binds : (w : Where) (shape : Shape) (n : Node) → Placed w n → w.role ≡ role.DeclaredValue → binds w.role shape (kind_of n) ≡ true
unfolding may_be takes
value-binds w shape n p is = may-bind w shape n p role.DeclaredValue is refl refl

element-binds : (w : Where) (shape : Shape) (n : Node) → Placed w n → w.role ≡ role.DeclaredElement → binds w.role shape (kind_of n) ≡ true
unfolding may_be takes
element-binds w shape n p is = may-bind w shape n p role.DeclaredElement is refl refl

pub parameter-binds : (w : Where) (shape : Shape) (n : Node) → Placed w n → w.role ≡ role.Parameter → binds w.role shape (kind_of n) ≡ true
unfolding may_be takes
parameter-binds w shape n p is = may-bind w shape n p role.Parameter is refl refl

defaulted-binds : (w : Where) (shape : Shape) (n : Node) → Placed w n → w.role ≡ role.DefaultedParameter → binds w.role shape (kind_of n) ≡ true
unfolding may_be takes
defaulted-binds w shape n p is = may-bind w shape n p role.DefaultedParameter is refl refl

name-binds : (w : Where) (shape : Shape) (n : Node) → Placed w n → w.role ≡ role.DeclaredName → binds w.role shape (kind_of n) ≡ true
unfolding may_be takes
name-binds w shape n p is = may-bind w shape n p role.DeclaredName is refl refl

binds-declared : (r : Role) (shape : Shape) (k : Kind) → binds r shape k ≡ true → is_assigned r ≡ false
binds-declared role.Declared shape k h = refl
binds-declared role.DeclaredValue shape k h = refl
binds-declared role.DeclaredElement shape k h = refl
binds-declared role.Parameter shape k h = refl
binds-declared role.DefaultedParameter shape k h = refl
binds-declared role.DeclaredName shape k h = refl
binds-declared role.DeclaredElements shape k h = refl
binds-declared role.Parameters shape k h = refl
binds-declared role.DeclaredProperties shape k h = refl
binds-declared role.DeclaredProperty shape k h = refl
binds-declared _ shape k h = absurd (true-false h refl)

-- ---- names

abbrev pub name_sought : Form → Sought
name_sought f = record { part = part.Name f; stays = true }

module _ (id : Id) where
  -- the ids that are declared in a node, where names are looked for, are its names
  abbrev pub NamesAre : Form → Node → Type 0
  NamesAre f n = kept id (ids_declared n (record { part = part.Name f; stays = true })) ≡ is_among id (meaning n).names

  -- what is found in a node of these parts, and its names
  abbrev FoundOf : Form → Node → Kind → List Node → Type 0
  FoundOf f n k cs = kept id (id_here (name_sought f) k ++ ids_in (sought_in (name_sought f) n) 0 (map ids_declared cs)) ≡ is_among id (meaning_by n k (map meaning cs)).names

  names-by : (f : Form) (n : Node) → FoundOf f n (out-Node n).kind (out-Node n).children → NamesAre f n
  names-by f n h = kept-out id n (name_sought f) ∙ h ∙ ap (λ m. is_among id m.names) (sym (meaning_out n))

  -- the same, where what is looked for in children is said by the kind
  abbrev FoundBy : Form → Node → Kind → List Node → Type 0
  FoundBy f n k cs = kept id (id_here (name_sought f) k ++ ids_in (λ i. in_name f true k i) 0 (map ids_declared cs)) ≡ is_among id (meaning_by n k (map meaning cs)).names

  names-of : (f : Form) (n : Node) → FoundBy f n (out-Node n).kind (out-Node n).children → NamesAre f n
  unfolding sought_in
  names-of f n h = names-by f n h

  -- an identifier
  ident-kind : (f : Form) (n : Node) (k : Kind) (cs : List Node) → belongs sort.Ident k ≡ true → HaveShapes (child_shapes k (one sort.Ident) (length cs)) cs → FoundBy f n k cs
  ident-kind f n (kind.Ident text ctxt optional) [] a h = ap (λ b. b || false) (and-true (same_id (record { sym = text; ctxt = ctxt }) id))
  ident-kind f n (kind.Ident text ctxt optional) (c ∷ cs) a h = absurd h
  ident-kind f n _ cs a h = absurd (true-false a refl)

  pub ident-named : (f : Form) (n : Node) → HasShape (one sort.Ident) n → NamesAre f n
  ident-named f n h = let s = shape_out (one sort.Ident) n h in names-of f n (ident-kind f n (out-Node n).kind (out-Node n).children s.0 s.1)

  -- or none
  maybe-kind : (f : Form) (n : Node) (k : Kind) (cs : List Node) → allows (maybe sort.Ident) k ≡ true → HaveShapes (child_shapes k (maybe sort.Ident) (length cs)) cs → FoundBy f n k cs
  maybe-kind f n kind.Absent [] a h = refl
  maybe-kind f n kind.Absent (c ∷ cs) a h = absurd h
  maybe-kind f n (kind.Ident text ctxt optional) [] a h = ap (λ b. b || false) (and-true (same_id (record { sym = text; ctxt = ctxt }) id))
  maybe-kind f n (kind.Ident text ctxt optional) (c ∷ cs) a h = absurd h
  maybe-kind f n _ cs a h = absurd (true-false a refl)

  pub own-named : (f : Form) (n : Node) → HasShape (maybe sort.Ident) n → NamesAre f n
  own-named f n h = let s = shape_out (maybe sort.Ident) n h in names-of f n (maybe-kind f n (out-Node n).kind (out-Node n).children s.0 s.1)

  -- ---- patterns

  abbrev Named : Node → Type 0
  Named n = (w : Where) (shape : Shape) (f : Form) → binds w.role shape (out-Node n).kind ≡ true → Placed w n → HasShape shape n → NamesAre f n

  abbrev AllNamed : List Node → Type 0
  AllNamed [] = Unit {0}
  AllNamed (c ∷ cs) = Named c × AllNamed cs

  abbrev AllAre : Form → List Node → Type 0
  AllAre f [] = Unit {0}
  AllAre f (c ∷ cs) = NamesAre f c × AllAre f cs

  abbrev PlacedBelow : (ℕ → Where) → ℕ → List Node → Type 0
  PlacedBelow around i cs = Each (λ j c. Placed (around j) c) i cs

  -- the names of items
  all-found : (f : Form) (i : ℕ) (cs : List Node) → AllAre f cs → kept id (ids_in (λ j. in_name f true kind.List j) i (map ids_declared cs)) ≡ is_among id (all_names (map meaning cs))
  unfolding in_name
  all-found f i [] h = refl
  all-found f i (c ∷ cs) h =
      kept-append id (ids_declared c (name_sought f)) (ids_in (λ j. in_name f true kind.List j) (suc i) (map ids_declared cs))
      ∙ ap₂ (λ a b. a || b) h.0 (all-found f (suc i) cs h.1)
      ∙ sym (among-append id (meaning c).names (all_names (map meaning cs)))

  -- what stands in a list where something is declared is a part of that
  item-binds : (r : Role) (c : Count) (s : Sort) → binds r (record { count = c; sort = s }) kind.List ≡ true → (w : Where) (n : Node) → w.role ≡ role_in r kind.List 0 → Placed w n
      → HasShape (item_shape (record { count = c; sort = s })) n → binds w.role (item_shape (record { count = c; sort = s })) (out-Node n).kind ≡ true
  unfolding role_in
  item-binds role.DeclaredElements c s b w n is p h = element-binds w (item_shape (record { count = c; sort = s })) n p is
  item-binds role.Parameters c s b w n is p h = parameter-binds w (item_shape (record { count = c; sort = s })) n p is
  item-binds role.DeclaredProperties count.Many sort.ObjectPatProp b w n is p h =
      subst (λ q. binds q (one sort.ObjectPatProp) (out-Node n).kind ≡ true) (sym is) (property (out-Node n).kind (shape_out (one sort.ObjectPatProp) n h).0)
    where
      property : (k : Kind) → belongs sort.ObjectPatProp k ≡ true → is_property k ≡ true
      property kind.KeyValuePatProp a = refl
      property kind.AssignPatProp a = refl
      property kind.RestPat a = refl
      property _ a = absurd (true-false a refl)
  item-binds role.DeclaredProperties _ _ b w n is p h = absurd (true-false b refl)
  item-binds _ c s b w n is p h = absurd (true-false b refl)

  items-named : (f : Form) (r : Role) (shape : Shape) → binds r shape kind.List ≡ true → (around : ℕ → Where) → ((i : ℕ) → (around i).role ≡ role_in r kind.List 0) → (i m : ℕ) (cs : List Node)
      → PlacedBelow around i cs → HaveShapes (replicate (length cs) (item_shape shape)) cs → AllNamed cs → AllAre f cs
  items-named f r shape b around roles i m [] p h named = tt
  items-named f r shape b around roles i m (c ∷ cs) p h named = (
    named.0 (around i) (item_shape shape) f (item-binds r shape.count shape.sort b (around i) c (roles i) p.0 h.0) p.0 h.0,
    items-named f r shape b around roles (suc i) m cs p.1 h.1 named.1,
  )

  at-role : (w : Where) (q : Role) (shape : Shape) (k : Kind) → w.role ≡ q → binds q shape k ≡ true → binds w.role shape k ≡ true
  at-role w q shape k is h = subst (λ z. binds z shape k ≡ true) (sym is) h

  -- where something is declared, so it is further in
  inner : (r assigned declared : Role) (w : Where) (shape : Shape) (k : Kind) → binds r shape k ≡ true → w.role ≡ cond (is_assigned r) assigned declared → w.role ≡ declared
  inner r assigned declared w shape k b is = is ∙ ap (λ z. cond z assigned declared) (binds-declared r shape k b)

  default-child : (r : Role) (shape : Shape) (w : Where) (c : Node) (s : Shape) → binds r shape kind.AssignPat ≡ true → w.role ≡ role_in r kind.AssignPat 0 → Placed w c → binds w.role s (out-Node c).kind ≡ true
  unfolding role_in
  default-child role.Parameter shape w c s b is p = defaulted-binds w s c p is
  default-child role.DeclaredValue shape w c s b is p = declared-binds w s c p is
  default-child role.DeclaredElement shape w c s b is p = declared-binds w s c p is
  default-child role.Declared shape w c s b is p = absurd (true-false b refl)
  default-child role.DeclaredProperties shape w c s b is p = absurd (true-false (and-right (are_properties shape.count shape.sort) false b) refl)
  default-child _ shape w c s b is p = absurd (true-false b refl)

  rest-child : (r : Role) (shape : Shape) (w : Where) (c : Node) (s : Shape) → binds r shape kind.RestPat ≡ true → w.role ≡ role_in r kind.RestPat 0 → Placed w c → binds w.role s (out-Node c).kind ≡ true
  unfolding role_in
  rest-child role.DeclaredProperty shape w c s b is p = name-binds w s c p is
  rest-child role.DeclaredElement shape w c s b is p = declared-binds w s c p is
  rest-child role.Parameter shape w c s b is p = declared-binds w s c p is
  rest-child role.DefaultedParameter shape w c s b is p = declared-binds w s c p is
  rest-child role.DeclaredProperties shape w c s b is p = absurd (true-false (and-right (are_properties shape.count shape.sort) false b) refl)
  rest-child _ shape w c s b is p = absurd (true-false b refl)

  -- a part is one of these
  abbrev is_part : Kind → Bool
  is_part k = is_binding k || (is_default k || (is_rest k || (is_absent k || (is_list k || is_property k))))

  part-of : (r : Role) (shape : Shape) (k : Kind) → binds r shape k ≡ true → is_part k ≡ true
  part-of r shape k h = go r h
    where
      binding : is_binding k ≡ true → is_part k ≡ true
      binding e = or-first (is_binding k) _ e

      default : is_default k ≡ true → is_part k ≡ true
      default e = or-second (is_binding k) _ (or-first (is_default k) _ e)

      rest : is_rest k ≡ true → is_part k ≡ true
      rest e = or-second (is_binding k) _ (or-second (is_default k) _ (or-first (is_rest k) _ e))

      missing : is_absent k ≡ true → is_part k ≡ true
      missing e = or-second (is_binding k) _ (or-second (is_default k) _ (or-second (is_rest k) _ (or-first (is_absent k) _ e)))

      list : is_list k ≡ true → is_part k ≡ true
      list e = or-second (is_binding k) _ (or-second (is_default k) _ (or-second (is_rest k) _ (or-second (is_absent k) _ (or-first (is_list k) _ e))))

      property : is_property k ≡ true → is_part k ≡ true
      property e = or-second (is_binding k) _ (or-second (is_default k) _ (or-second (is_rest k) _ (or-second (is_absent k) _ (or-second (is_list k) _ e))))

      split : (x y : Bool) → (x ≡ true → is_part k ≡ true) → (y ≡ true → is_part k ≡ true) → (x || y) ≡ true → is_part k ≡ true
      split true y f g e = f refl
      split false y f g e = g e

      others : (is_default k || (is_rest k || is_absent k)) ≡ true → is_part k ≡ true
      others e = split (is_default k) (is_rest k || is_absent k) default (λ f. split (is_rest k) (is_absent k) rest missing f) e

      name : (k : Kind) → is_bound_name k ≡ true → is_binding k ≡ true
      name kind.BindingIdent e = refl
      name _ e = absurd (true-false e refl)

      go : (r : Role) → binds r shape k ≡ true → is_part k ≡ true
      go role.Declared e = split (is_binding k) (is_absent k) binding missing e
      go role.DeclaredValue e = split (is_binding k) (is_default k) binding default e
      go role.DeclaredElement e = split (is_binding k) (is_default k || (is_rest k || is_absent k)) binding others e
      go role.Parameter e = split (is_binding k) (is_default k || (is_rest k || is_absent k)) binding others e
      go role.DefaultedParameter e = split (is_binding k) (is_rest k) binding rest e
      go role.DeclaredName e = binding (name k e)
      go role.DeclaredElements e = list e
      go role.Parameters e = list e
      go role.DeclaredProperties e = list (and-right (are_properties shape.count shape.sort) (is_list k) e)
      go role.DeclaredProperty e = property e
      go _ e = absurd (true-false e refl)

  named-by : (f : Form) (r : Role) (shape : Shape) (n : Node) (k : Kind) (cs : List Node) (around : ℕ → Where) → ((i : ℕ) → (around i).role ≡ role_in r k i) → binds r shape k ≡ true
      → PlacedBelow around 0 cs → HaveShapes (child_shapes k shape (length cs)) cs → AllNamed cs → FoundBy f n k cs
  unfolding in_name role_in
  named-by f r shape n kind.Absent [] around roles b p h named = refl
  named-by f r shape n kind.Absent (c ∷ cs) around roles b p h named = absurd h
  named-by f r shape n kind.List cs around roles b p h named = all-found f 0 cs (items-named f r shape b around roles 0 0 cs p h named)
  named-by f r shape n kind.BindingIdent (name ∷ type ∷ []) around roles b p h named = kept-nil id (ids_declared name (name_sought f)) ∙ ident-named f name h.0
  named-by f r shape n kind.BindingIdent [] around roles b p h named = absurd h
  named-by f r shape n kind.BindingIdent (c ∷ []) around roles b p h named = absurd h.1
  named-by f r shape n kind.BindingIdent (c ∷ d ∷ e ∷ cs) around roles b p h named = absurd h.1.1
  named-by f r shape n (kind.ArrayPat o) (elements ∷ type ∷ []) around roles b p h named =
      let is : (around 0).role ≡ role.DeclaredElements = inner r role.AssignedElements role.DeclaredElements (around 0) shape (kind.ArrayPat o) b (roles 0) in
      let s = shape_of count.Holes sort.Pat in
      kept-nil id (ids_declared elements (name_sought f))
      ∙ named.0 (around 0) s f (at-role (around 0) role.DeclaredElements s (out-Node elements).kind is (shape_out s elements h.0).0) p.0 h.0
  named-by f r shape n (kind.ArrayPat o) [] around roles b p h named = absurd h
  named-by f r shape n (kind.ArrayPat o) (c ∷ []) around roles b p h named = absurd h.1
  named-by f r shape n (kind.ArrayPat o) (c ∷ d ∷ e ∷ cs) around roles b p h named = absurd h.1.1
  named-by f r shape n (kind.ObjectPat o) (properties ∷ type ∷ []) around roles b p h named =
      let is : (around 0).role ≡ role.DeclaredProperties = inner r role.AssignedProperties role.DeclaredProperties (around 0) shape (kind.ObjectPat o) b (roles 0) in
      let s = shape_of count.Many sort.ObjectPatProp in
      kept-nil id (ids_declared properties (name_sought f))
      ∙ named.0 (around 0) s f (at-role (around 0) role.DeclaredProperties s (out-Node properties).kind is (shape_out s properties h.0).0) p.0 h.0
  named-by f r shape n (kind.ObjectPat o) [] around roles b p h named = absurd h
  named-by f r shape n (kind.ObjectPat o) (c ∷ []) around roles b p h named = absurd h.1
  named-by f r shape n (kind.ObjectPat o) (c ∷ d ∷ e ∷ cs) around roles b p h named = absurd h.1.1
  named-by f r shape n kind.RestPat (argument ∷ type ∷ []) around roles b p h named =
      kept-nil id (ids_declared argument (name_sought f))
      ∙ named.0 (around 0) (one sort.Pat) f (rest-child r shape (around 0) argument (one sort.Pat) b (roles 0) p.0) p.0 h.0
  named-by f r shape n kind.RestPat [] around roles b p h named = absurd h
  named-by f r shape n kind.RestPat (c ∷ []) around roles b p h named = absurd h.1
  named-by f r shape n kind.RestPat (c ∷ d ∷ e ∷ cs) around roles b p h named = absurd h.1.1
  named-by f r shape n kind.AssignPat (left ∷ right ∷ []) around roles b p h named =
      kept-nil id (ids_declared left (name_sought f))
      ∙ named.0 (around 0) (one sort.Pat) f (default-child r shape (around 0) left (one sort.Pat) b (roles 0) p.0) p.0 h.0
  named-by f r shape n kind.AssignPat [] around roles b p h named = absurd h
  named-by f r shape n kind.AssignPat (c ∷ []) around roles b p h named = absurd h.1
  named-by f r shape n kind.AssignPat (c ∷ d ∷ e ∷ cs) around roles b p h named = absurd h.1.1
  named-by f r shape n kind.KeyValuePatProp (key ∷ value ∷ []) around roles b p h named =
      let is : (around 1).role ≡ role.DeclaredValue = inner r role.AssignedValue role.DeclaredValue (around 1) shape kind.KeyValuePatProp b (roles 1) in
      kept-nil id (ids_declared value (name_sought f))
      ∙ named.1.0 (around 1) (one sort.Pat) f (value-binds (around 1) (one sort.Pat) value p.1.0 is) p.1.0 h.1.0
  named-by f r shape n kind.KeyValuePatProp [] around roles b p h named = absurd h
  named-by f r shape n kind.KeyValuePatProp (c ∷ []) around roles b p h named = absurd h.1
  named-by f r shape n kind.KeyValuePatProp (c ∷ d ∷ e ∷ cs) around roles b p h named = absurd h.1.1
  named-by f r shape n kind.AssignPatProp (name ∷ default ∷ []) around roles b p h named =
      let is : (around 0).role ≡ role.DeclaredName = inner r role.AssignedName role.DeclaredName (around 0) shape kind.AssignPatProp b (roles 0) in
      kept-nil id (ids_declared name (name_sought f))
      ∙ named.0 (around 0) (one sort.BindingIdent) f (name-binds (around 0) (one sort.BindingIdent) name p.0 is) p.0 h.0
  named-by f r shape n kind.AssignPatProp [] around roles b p h named = absurd h
  named-by f r shape n kind.AssignPatProp (c ∷ []) around roles b p h named = absurd h.1
  named-by f r shape n kind.AssignPatProp (c ∷ d ∷ e ∷ cs) around roles b p h named = absurd h.1.1
  named-by f r shape n k cs around roles b p h named = absurd (true-false (part-of r shape k b) refl)

  layer-named : (n : Node) → AllNamed (out-Node n).children → Named n
  layer-named n named w shape f b p h =
      names-of f n
      (named-by f w.role shape n (out-Node n).kind (out-Node n).children (where_in w n) (λ i. refl) b (placed-below w n p) (shape_out shape n h).1 named)

  all-named : (ns : List ((n : Node) × Named n)) → AllNamed (map (λ e. e.0) ns)
  all-named [] = tt
  all-named (n ∷ ns) = (n.1, all-named ns)

  pub named : (n : Node) → Named n
  named = ind-Node Named (λ x y is.
      layer-named (roll-Node x) (subst AllNamed (ap (λ (z : Node-F Node). z.children) is ∙ sym (ap (λ (z : Node-F Node). z.children) (out-roll-Node x))) (all-named y.children)))
