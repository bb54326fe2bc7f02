-- The raw tree of what fits has no strays.
use Rattle.std.proofs.Common.{◌≡◌, ◌∙◌, ℕ, suc, Bool, true, false, cond, List, [], ◌∷◌, map, length, refl, sym, ap, ap₂, subst}
use Rattle.ecma_kind.specs.declared.operators.AssignOp.TheVariants.{Assign}
use Rattle.ecma_kind.specs.declared.span.Span.{Span}
use Rattle.ecma_kind.specs.declared.kind.Kind.{Kind}
use Rattle.ecma_kind.specs.declared.kind.Kind.TheVariants as kind
use Rattle.ecma_kind.specs.declared.shapes.Shape.{Shape}
use Rattle.ecma_kind.specs.declared.shapes.Sort.TheVariants as sort
use Rattle.ecma_tree.specs.declared.node.Node.{Node, Node-F}
use Rattle.ecma_tree.specs.Laws.{HaveShapes}
use Rattle.ecma_tree.specs.Nodes.{node_of}
use Rattle.ecma_tree.specs.Sorted.{HasShape, child_shapes, many, maybe, one, with_holes}
use Rattle.ecma_rules.specs.declared.target.Target.{Target}
use Rattle.ecma_rules.specs.declared.target.Target.TheVariants as target
use Rattle.ecma_rules.specs.Finishing.{each_in}
use Rattle.ecma_rules.specs.Jumps.{Held, ends_jumps, held_behind, not_held}
use Rattle.ecma_rules.specs.Lists.{last_by}
use Rattle.ecma_rules.specs.Failing.{least}
use Rattle.ecma_rules.specs.Strays.{in_named, strays_in}
use Rattle.ecma_rules.specs.Surroundings.{standing_by}
use Rattle.ecma_rules.specs.Targets.{in_literal, takes_patterns, target_in}
use Rattle.ecma_covers.specs.Covering.{cover_at, cover_in}
use Rattle.ecma_covers.specs.Placing.{EachStands, Stands, array, as_read, binds, bound, default, key_value, more, none, object, other, rest_element, rest_property, short, short_default}
use Rattle.ecma_covers.proofs.Uncovering.{array_covered, asks_same, binding_covered, binding_node, cover_node, default_name, each_same, kept, literal_asks, name_node, object_covered, short_name}
use Rattle.ecma_fits.specs.declared.role.Role.TheVariants as role
use Rattle.ecma_fits.specs.declared.unfit.Where.{Where}
use Rattle.ecma_fits.specs.Fitting.{at_top}
use Rattle.ecma_fits.specs.Roles.{by, in_rest, is_assigned, role_in}
use Rattle.ecma_fits.specs.Strays.{arguments_in}
use Rattle.ecma_fits.proofs.Clauses.{none_unfit}
use Rattle.ecma_print_fits.specs.Laws.{CoversBreakNoRule}
use Rattle.ecma_print_fits.proofs.Parts.{AllFit, Fit, fitting, not_true, where_by}
use Rattle.ecma_print_fits.proofs.Roles.{suited, target_of}
use Rattle.ecma_print_fits.proofs.Itself.{There}
use Rattle.ecma_print_fits.proofs.Below.{AllThere}
use Rattle.ecma_print_fits.proofs.Placed.{stands_placed}
use Rattle.ecma_print_fits.proofs.Strays.{Alike, AllAlike, AllQuiet, Quiet, alike_below, assigned_binds, clear_parts, clear_whole, held_by, label_in, label_stays, name_quiet, own_same, quiet_parts, quiet_whole, stray_label}
use Rattle.ecma_print_fits.proofs.Unbroken.{before_default, behind_rest, below_there, child_there, covers_whole, fits, is_property_role, shapes, takes_assigned}

-- what covers a pattern
module _ (held : Held) (at : Span) where
  abbrev parts : Kind → List Node → Node-F Node
  parts k cs = record { span = at; kind = k; children = cs }

  array_quiet : (t : Target) → takes_patterns t ≡ true → (elements of_type : Node) → Quiet held (cover_at elements target.Elements) → Quiet held (cover_at (node_of at (kind.ArrayPat false) (elements ∷ of_type ∷ [])) t)
  unfolding cover_in target_in
  array_quiet t h elements of_type q =
      let is : cover_at (node_of at (kind.ArrayPat false) (elements ∷ of_type ∷ [])) t ≡ node_of at kind.ArrayLit (cover_at elements target.Elements ∷ []) =
      cover_node at (kind.ArrayPat false) (elements ∷ of_type ∷ []) t
      ∙ (array_covered t h at (cover_at elements (in_literal t target.Elements)) (cover_at of_type target.Free) ∙ ap (λ u. node_of at kind.ArrayLit (cover_at elements u ∷ [])) (literal_asks t target.Elements h)) in
      subst (Quiet held) (sym is) (clear_whole (parts kind.ArrayLit (cover_at elements target.Elements ∷ [])) held refl (q, tt))

  object_quiet : (t : Target) → takes_patterns t ≡ true → (properties of_type : Node) → Quiet held (cover_at properties target.Properties) → Quiet held (cover_at (node_of at (kind.ObjectPat false) (properties ∷ of_type ∷ [])) t)
  unfolding cover_in target_in
  object_quiet t h properties of_type q =
      let is : cover_at (node_of at (kind.ObjectPat false) (properties ∷ of_type ∷ [])) t ≡ node_of at kind.ObjectLit (cover_at properties target.Properties ∷ []) =
      cover_node at (kind.ObjectPat false) (properties ∷ of_type ∷ []) t
      ∙ (object_covered t h at (cover_at properties (in_literal t target.Properties)) (cover_at of_type target.Free) ∙ ap (λ u. node_of at kind.ObjectLit (cover_at properties u ∷ [])) (literal_asks t target.Properties h)) in
      subst (Quiet held) (sym is) (clear_whole (parts kind.ObjectLit (cover_at properties target.Properties ∷ [])) held refl (q, tt))

  default_quiet : (part value : Node) → Quiet held (cover_at part target.Part) → Quiet held (cover_at value target.Free) → Quiet held (cover_at (node_of at kind.AssignPat (part ∷ value ∷ [])) target.Element)
  unfolding cover_in target_in
  default_quiet part value p v =
      subst (Quiet held) (sym (cover_node at kind.AssignPat (part ∷ value ∷ []) target.Element))
      (clear_whole (parts (kind.AssignExpr Assign) (cover_at part target.Part ∷ cover_at value target.Free ∷ [])) held refl (p, (v, tt)))

  rest_element_quiet : (part of_type : Node) → Quiet held (cover_at part target.Part) → Quiet held (cover_at (node_of at kind.RestPat (part ∷ of_type ∷ [])) target.Element)
  unfolding cover_in target_in
  rest_element_quiet part of_type p =
      subst (Quiet held) (sym (cover_node at kind.RestPat (part ∷ of_type ∷ []) target.Element)) (clear_whole (parts kind.SpreadElement (cover_at part target.Part ∷ [])) held refl (p, tt))

  rest_property_quiet : (part of_type : Node) → Quiet held (cover_at part target.Rest) → Quiet held (cover_at (node_of at kind.RestPat (part ∷ of_type ∷ [])) target.Property)
  unfolding cover_in target_in
  rest_property_quiet part of_type p =
      subst (Quiet held) (sym (cover_node at kind.RestPat (part ∷ of_type ∷ []) target.Property)) (clear_whole (parts kind.SpreadElement (cover_at part target.Rest ∷ [])) held refl (p, tt))

  key_value_quiet : (key value : Node) → Quiet held (cover_at key target.Free) → Quiet held (cover_at value target.Element) → Quiet held (cover_at (node_of at kind.KeyValuePatProp (key ∷ value ∷ [])) target.Property)
  unfolding cover_in target_in
  key_value_quiet key value p v =
      subst (Quiet held) (sym (cover_node at kind.KeyValuePatProp (key ∷ value ∷ []) target.Property))
      (clear_whole (parts kind.KeyValueProp (cover_at key target.Free ∷ cover_at value target.Element ∷ [])) held refl (p, (v, tt)))

-- a node that is itself there
itself_quiet : (t : Target) (held : Held) (at : Span) (k : Kind) (cs : List Node) → as_read t k ≡ true → Quiet held (node_of at k cs)
    → AllQuiet (held_by held k (label_in cs)) (each_in (target_in t k) (map cover_at cs)) → Quiet held (cover_at (node_of at k cs) t)
itself_quiet t held at k cs h q below =
    let kids = each_in (target_in t k) (map cover_at cs) in
    let label = label_stays t k cs in
    let is : cover_at (node_of at k cs) t ≡ node_of at k kids = cover_node at k cs t ∙ ((kept t (record { span = at; kind = k; children = each_in (cover_in t k) (map cover_at cs) }) h).0
    ∙ ap (node_of at k) (each_same (cover_in t k) (target_in t k) (λ i. asks_same t k i h) (map cover_at cs))) in
    subst (Quiet held) (sym is) (quiet_whole (record { span = at; kind = k; children = kids }) held
    (stray_label held k (label_in kids) (label_in cs) label (quiet_parts (record { span = at; kind = k; children = cs }) held q).0)
    (subst (λ z. AllQuiet (λ i. held_behind (strays_in held.strays k i) (ends_jumps k) z held.labels) kids) (sym (own_same k (label_in kids) (label_in cs) label)) below))

-- the name of a shorthand
short_bound : (held : Held) (w : Where) (at of_binding of_name of_type : Span) (text : List ℕ) (ctxt : ℕ) (optional : Bool) (value : Node) → target.Property ≡ target_of w.role → Alike held.strays w.arguments
    → Fit (where_by w (record { span = at; kind = kind.AssignPatProp; children = binding_node of_binding of_name of_type text ctxt optional ∷ value ∷ [] }) 0) (binding_node of_binding of_name of_type text ctxt optional) → Quiet held (name_node of_name text ctxt optional)
unfolding role_in arguments_in
short_bound held w at of_binding of_name of_type text ctxt optional value e alike fit =
    let x : Node-F Node = record { span = of_binding; kind = kind.BindingIdent; children = name_node of_name text ctxt optional ∷ node_of of_type kind.Absent [] ∷ [] } in
    let u = where_by w (record { span = at; kind = kind.AssignPatProp; children = binding_node of_binding of_name of_type text ctxt optional ∷ value ∷ [] }) 0 in
    name_quiet held u.role u.arguments of_binding of_name of_type text ctxt optional alike (ap (λ r. is_assigned (by r role.AssignedName role.DeclaredName)) (is_property_role w.role e)) (fitting x u fit).arguments

mutual
  unfolding role_in target_in standing_by last_by strays_in in_named arguments_in

  strayless : {t : Target} {n : Node} → Stands t n → (held : Held) (l : Bool) (w : Where) (o : Shape) → There t l w o → Alike held.strays w.arguments → HasShape o n → Fit w n → Quiet held n → Quiet held (cover_at n t)
  strayless (array {t} h at of_type {elements} s) held l w o there alike shape fit q =
      let cs = elements ∷ node_of of_type kind.Absent [] ∷ [] in
      let x : Node-F Node = record { span = at; kind = kind.ArrayPat false; children = cs } in
      let a : is_assigned w.role ≡ true = takes_assigned w.role (sym (ap takes_patterns there.same) ∙ h) in
      let child = child_there t l w o at (kind.ArrayPat false) cs 0 target.Elements (with_holes sort.Pat) (sym (ap (λ b. target_of (cond b role.AssignedElements role.DeclaredElements)) a)) refl
      (suited w.role (kind.ArrayPat false) o 2 there.suit).0 (λ e. not_true e) (λ e. not_true e) in
      array_quiet held at t h elements (node_of of_type kind.Absent []) (strayless s held true (where_by w x 0) (with_holes sort.Pat) child alike
      (shapes t l w o at (kind.ArrayPat false) cs there shape fit).1.0 (fits t l w o at (kind.ArrayPat false) cs there shape fit).below.0 (clear_parts x held refl q).0)
  strayless (object {t} h at of_type {properties} s) held l w o there alike shape fit q =
      let cs = properties ∷ node_of of_type kind.Absent [] ∷ [] in
      let x : Node-F Node = record { span = at; kind = kind.ObjectPat false; children = cs } in
      let a : is_assigned w.role ≡ true = takes_assigned w.role (sym (ap takes_patterns there.same) ∙ h) in
      let child = child_there t l w o at (kind.ObjectPat false) cs 0 target.Properties (many sort.ObjectPatProp) (sym (ap (λ b. target_of (cond b role.AssignedProperties role.DeclaredProperties)) a)) refl
      (suited w.role (kind.ObjectPat false) o 2 there.suit).0 (λ e. not_true e) (λ e. not_true e) in
      object_quiet held at t h properties (node_of of_type kind.Absent []) (strayless s held true (where_by w x 0) (many sort.ObjectPatProp) child alike
      (shapes t l w o at (kind.ObjectPat false) cs there shape fit).1.0 (fits t l w o at (kind.ObjectPat false) cs there shape fit).below.0 (clear_parts x held refl q).0)
  strayless (bound {t} h at of_name of_type text ctxt optional) held l w o there alike shape fit q =
      let x : Node-F Node = record { span = at; kind = kind.BindingIdent; children = name_node of_name text ctxt optional ∷ node_of of_type kind.Absent [] ∷ [] } in
      subst (Quiet held) (sym (binding_covered t h at of_name of_type text ctxt optional))
      (name_quiet held w.role w.arguments at of_name of_type text ctxt optional alike (assigned_binds w.role (sym (ap binds there.same) ∙ h)) (fitting x w fit).arguments)
  strayless (default at {part} {value} s v) held l w o there alike shape fit q =
      let cs = part ∷ value ∷ [] in
      let x : Node-F Node = record { span = at; kind = kind.AssignPat; children = cs } in
      let have = (shapes target.Element l w o at kind.AssignPat cs there shape fit).1 in
      let below = (fits target.Element l w o at kind.AssignPat cs there shape fit).below in
      let suit = suited w.role kind.AssignPat o 2 there.suit in
      let told = clear_parts x held refl q in
      let first = child_there target.Element l w o at kind.AssignPat cs 0 target.Part (one sort.Pat) (before_default w.role there.same) refl suit.0 (λ e. not_true e) (λ e. not_true e) in
      let second = child_there target.Element l w o at kind.AssignPat cs 1 target.Free (one sort.Expr) refl refl suit.1.0 (λ e. not_true e) (λ e. not_true e) in
      default_quiet held at part value (strayless s held true (where_by w x 0) (one sort.Pat) first alike have.0 below.0 told.0) (strayless v held true (where_by w x 1) (one sort.Expr) second alike have.1.0 below.1.0 told.1.0)
  strayless (rest_element at of_type {part} s) held l w o there alike shape fit q =
      let cs = part ∷ node_of of_type kind.Absent [] ∷ [] in
      let x : Node-F Node = record { span = at; kind = kind.RestPat; children = cs } in
      let first = child_there target.Element l w o at kind.RestPat cs 0 target.Part (one sort.Pat) (behind_rest w.role there.same) refl (suited w.role kind.RestPat o 2 there.suit).0 (λ e. not_true e) (λ e. not_true e) in
      rest_element_quiet held at part (node_of of_type kind.Absent []) (strayless s held true (where_by w x 0) (one sort.Pat) first alike
      (shapes target.Element l w o at kind.RestPat cs there shape fit).1.0 (fits target.Element l w o at kind.RestPat cs there shape fit).below.0 (clear_parts x held refl q).0)
  strayless (rest_property at of_type {part} s) held l w o there alike shape fit q =
      let cs = part ∷ node_of of_type kind.Absent [] ∷ [] in
      let x : Node-F Node = record { span = at; kind = kind.RestPat; children = cs } in
      let same : target.Rest ≡ target_of (in_rest w.role) = sym (ap (λ r. target_of (in_rest r)) (is_property_role w.role there.same)) in
      let first = child_there target.Property l w o at kind.RestPat cs 0 target.Rest (one sort.Pat) same refl (suited w.role kind.RestPat o 2 there.suit).0 (λ e. not_true e) (λ e. not_true e) in
      rest_property_quiet held at part (node_of of_type kind.Absent []) (strayless s held true (where_by w x 0) (one sort.Pat) first alike
      (shapes target.Property l w o at kind.RestPat cs there shape fit).1.0 (fits target.Property l w o at kind.RestPat cs there shape fit).below.0 (clear_parts x held refl q).0)
  strayless (key_value at {key} {value} k s) held l w o there alike shape fit q =
      let cs = key ∷ value ∷ [] in
      let x : Node-F Node = record { span = at; kind = kind.KeyValuePatProp; children = cs } in
      let have = (shapes target.Property l w o at kind.KeyValuePatProp cs there shape fit).1 in
      let below = (fits target.Property l w o at kind.KeyValuePatProp cs there shape fit).below in
      let suit = suited w.role kind.KeyValuePatProp o 2 there.suit in
      let told = clear_parts x held refl q in
      let same : target.Element ≡ target_of (by w.role role.AssignedValue role.DeclaredValue) = sym (ap (λ r. target_of (by r role.AssignedValue role.DeclaredValue)) (is_property_role w.role there.same)) in
      let first = child_there target.Property l w o at kind.KeyValuePatProp cs 0 target.Free (one sort.PropName) refl refl suit.0 (λ e. not_true e) (λ e. not_true e) in
      let second = child_there target.Property l w o at kind.KeyValuePatProp cs 1 target.Element (one sort.Pat) same refl suit.1.0 (λ e. not_true e) (λ e. not_true e) in
      key_value_quiet held at key value (strayless k held true (where_by w x 0) (one sort.PropName) first alike have.0 below.0 told.0) (strayless s held true (where_by w x 1) (one sort.Pat) second alike have.1.0 below.1.0 told.1.0)
  strayless (short at of_binding of_name of_type of_value text ctxt optional) held l w o there alike shape fit q =
      let cs = binding_node of_binding of_name of_type text ctxt optional ∷ node_of of_value kind.Absent [] ∷ [] in
      subst (Quiet held) (sym (short_name at of_binding of_name of_type of_value text ctxt optional))
      (short_bound held w at of_binding of_name of_type text ctxt optional (node_of of_value kind.Absent []) there.same alike (fits target.Property l w o at kind.AssignPatProp cs there shape fit).below.0)
  strayless (short_default at of_binding of_name of_type text ctxt optional {value} is v) held l w o there alike shape fit q =
      let cs = binding_node of_binding of_name of_type text ctxt optional ∷ value ∷ [] in
      let x : Node-F Node = record { span = at; kind = kind.AssignPatProp; children = cs } in
      let below = (fits target.Property l w o at kind.AssignPatProp cs there shape fit).below in
      let second = child_there target.Property l w o at kind.AssignPatProp cs 1 target.Free (maybe sort.Expr) refl refl (suited w.role kind.AssignPatProp o 2 there.suit).1.0 (λ e. not_true e) (λ e. not_true e) in
      subst (Quiet held) (sym (default_name at of_binding of_name of_type text ctxt optional value is))
      (clear_whole (record { span = at; kind = kind.AssignProp; children = name_node of_name text ctxt optional ∷ cover_at value target.Free ∷ [] }) held refl (
        short_bound held w at of_binding of_name of_type text ctxt optional value there.same alike below.0,
        (strayless v held true (where_by w x 1) (maybe sort.Expr) second alike (shapes target.Property l w o at kind.AssignPatProp cs there shape fit).1.1.0 below.1.0 (clear_parts x held refl q).1.0, tt),
      ))
  strayless (other {t} at k {children = cs} h each) held l w o there alike shape fit q =
      let x : Node-F Node = record { span = at; kind = k; children = cs } in
      itself_quiet t held at k cs h q
      (each_strayless each (held_by held k (label_in cs)) (λ i. last_by l k (length (each_in (target_in t k) (map cover_at cs))) i) (where_by w x) (child_shapes k o (length cs)) (below_there t l w o at k cs there shape fit h)
      (alike_below held.strays w.arguments alike k o (length cs)) (shapes t l w o at k cs there shape fit).1 (fits t l w o at k cs there shape fit).below (quiet_parts x held q).1)

  each_strayless : {target_at : ℕ → Target} {ns : List Node} → EachStands target_at ns → (held_at : ℕ → Held) (last_at : ℕ → Bool) (where_at : ℕ → Where) (os : List Shape)
      → AllThere target_at last_at where_at os → AllAlike (λ i. (held_at i).strays) (λ i. (where_at i).arguments) os → HaveShapes os ns → AllFit where_at ns → AllQuiet held_at ns → AllQuiet held_at (each_in target_at (map cover_at ns))
  each_strayless none held_at last_at where_at os there alike have fit q = tt
  each_strayless (more s rest) held_at last_at where_at [] there alike have fit q = absurd have
  each_strayless (more s rest) held_at last_at where_at (o ∷ os) there alike have fit q = (
    strayless s (held_at 0) (last_at 0) (where_at 0) o there.0 alike.0 have.0 fit.0 q.0,
    each_strayless rest (λ i. held_at (suc i)) (λ i. last_at (suc i)) (λ i. where_at (suc i)) os there.1 alike.1 have.1 fit.1 q.1,
  )

pub unbroken_covers : CoversBreakNoRule
unbroken_covers tree f bare =
    let quiet = strayless (stands_placed tree f bare) not_held true at_top (one sort.Module) (record { same = refl; head = refl; last = λ e. refl; suit = refl; short = λ e. not_true e; super = λ e. not_true e })
    (record { stray = λ e. not_true e; within = λ e. not_true e; inside = λ e. not_true e }) f.sorted (none_unfit tree f) f.strays in
    ap₂ least (covers_whole tree f bare) quiet

pub ruleset keeping = (unbroken_covers)
