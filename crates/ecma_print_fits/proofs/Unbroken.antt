-- No node of the raw tree of what fits is misplaced.
use Rattle.std.proofs.Common.{◌≡◌, ◌∙◌, ℕ, suc, Bool, true, false, not, ◌&&◌, ◌||◌, cond, List, [], ◌∷◌, map, length, None, refl, sym, ap, subst, slice_get}
use Rattle.ecma_kind.specs.declared.operators.AssignOp.TheVariants.{Assign}
use Rattle.ecma_kind.specs.Sorts.{belongs}
use Rattle.ecma_kind.specs.declared.span.Span.{Span}
use Rattle.ecma_kind.specs.declared.kind.Kind.{Kind}
use Rattle.ecma_kind.specs.declared.kind.Kind.TheVariants as kind
use Rattle.ecma_kind.specs.declared.shapes.Shape.{Shape}
use Rattle.ecma_kind.specs.declared.shapes.Sort.TheVariants as sort
use Rattle.ecma_tree.specs.declared.node.Node.{Node, Node-F, roll-Node}
use Rattle.ecma_tree.specs.Laws.{HaveShapes}
use Rattle.ecma_tree.specs.Nodes.{node_of}
use Rattle.ecma_tree.specs.Sorted.{HasShape, allows, child_shapes, is_absent, many, maybe, one, with_holes}
use Rattle.ecma_rules.specs.declared.target.Target.{Target}
use Rattle.ecma_rules.specs.declared.target.Target.TheVariants as target
use Rattle.ecma_rules.specs.declared.standing.Around.{Around}
use Rattle.ecma_rules.specs.declared.standing.Standing.{Standing}
use Rattle.ecma_rules.specs.declared.standing.Standing.TheVariants as standing
use Rattle.ecma_rules.specs.Children.{is_present, kind_of, of_kind}
use Rattle.ecma_rules.specs.Finishing.{each_in}
use Rattle.ecma_rules.specs.Lists.{is_early_rest, is_head, is_item, is_rest, is_wrong_head, last_by}
use Rattle.ecma_rules.specs.Members.{second_by, second_constructor}
use Rattle.ecma_rules.specs.Rules.{fails_list, fails_member, fails_statement}
use Rattle.ecma_rules.specs.Supers.{is_linked}
use Rattle.ecma_rules.specs.Surroundings.{standing_by}
use Rattle.ecma_rules.specs.Targets.{in_literal, is_plain_target, is_property, may_be, takes_patterns, target_in}
use Rattle.ecma_covers.specs.Covering.{cover_at, cover_in}
use Rattle.ecma_covers.specs.Placing.{EachStands, Stands, array, as_read, bound, default, key_value, more, none, object, other, rest_element, rest_property, short, short_default}
use Rattle.ecma_covers.proofs.Uncovering.{array_covered, asks_same, binding_covered, binding_node, cover_node, default_name, each_same, kept, literal_asks, name_node, object_covered, short_name}
use Rattle.ecma_fits.specs.declared.role.Role.{Role}
use Rattle.ecma_fits.specs.declared.role.Role.TheVariants as role
use Rattle.ecma_fits.specs.declared.unfit.Where.{Where}
use Rattle.ecma_fits.specs.Fitting.{at_top, breaks_rule}
use Rattle.ecma_fits.specs.Roles.{by, in_default, in_rest, is_assigned, role_in}
use Rattle.ecma_fits.proofs.Clauses.{none_unfit}
use Rattle.ecma_print_fits.specs.Laws.{CoversAreNotMisplaced}
use Rattle.ecma_print_fits.proofs.Parts.{AllFit, Fit, Fitting, around_by, fitting, kind_allowed, kind_made, neither, not_true, shape_made, where_by}
use Rattle.ecma_print_fits.proofs.Roles.{asked, property_kind, suited, suits, target_of}
use Rattle.ecma_print_fits.proofs.Tests.{as_many}
use Rattle.ecma_print_fits.proofs.Fine.{AllWhole, Whole, and_no, covering_whole, fine_node, no_and, whole_node}
use Rattle.ecma_print_fits.proofs.Reading.{single_stays}
use Rattle.ecma_print_fits.proofs.Itself.{There, itself_fine}
use Rattle.ecma_print_fits.proofs.Below.{AllThere, all_there, declared, head_alike, last_grows, linked_below, short_below, standing_stays}
use Rattle.ecma_print_fits.proofs.Placed.{stands_placed}

-- roles, by what is asked of what is read

abbrev is_element : Target → Bool
is_element target.Element = true
is_element _ = false

pub takes_assigned : (r : Role) → takes_patterns (target_of r) ≡ true → is_assigned r ≡ true
takes_assigned role.Left h = refl
takes_assigned role.Head h = refl
takes_assigned role.Assigned h = refl
takes_assigned role.AssignedValue h = refl
takes_assigned role.AssignedElement h = refl
takes_assigned _ h = not_true h

pub before_default : (r : Role) → target.Element ≡ target_of r → target.Part ≡ target_of (in_default r)
before_default role.AssignedValue e = refl
before_default role.AssignedElement e = refl
before_default _ e = not_true (sym (ap is_element e))

pub behind_rest : (r : Role) → target.Element ≡ target_of r → target.Part ≡ target_of (in_rest r)
behind_rest role.AssignedValue e = refl
behind_rest role.AssignedElement e = refl
behind_rest _ e = not_true (sym (ap is_element e))

pub is_property_role : (r : Role) → target.Property ≡ target_of r → r ≡ role.AssignedProperty
is_property_role role.AssignedProperty e = refl
is_property_role _ e = not_true (sym (ap is_property e))

literals_may : (t : Target) → takes_patterns t ≡ true → (may_be t kind.ArrayLit ≡ true) × (may_be t kind.ObjectLit ≡ true)
literals_may target.Left h = (refl, refl)
literals_may target.Head h = (refl, refl)
literals_may target.Part h = (refl, refl)
literals_may target.Element h = (refl, refl)
literals_may _ h = not_true h

or_true : (b : Bool) → (b || true) ≡ true
or_true true = refl
or_true false = refl

true_or : (a b : Bool) → a ≡ true → (a || b) ≡ true
true_or a b h = ap (λ z. z || b) h

unnot : (b : Bool) → not b ≡ false → b ≡ true
unnot true h = refl
unnot false h = not_true (sym h)

-- nothing that takes the rest, where nothing of the kind is
no_rest : (t : Target) (l : Bool) → ((is_item t && false) && not l) ≡ false
no_rest t l = no_and (is_item t && false) (not l) (and_no (is_item t) false refl)

-- a name stands wherever something is assigned to
name_whole : (a : Around) (at : Span) (text : List ℕ) (ctxt : ℕ) (optional : Bool) → Whole a (name_node at text ctxt optional)
name_whole a at text ctxt optional =
    covering_whole a (record { span = at; kind = kind.Ident text ctxt optional; children = [] }) refl (or_true (may_be a.target (kind.Ident text ctxt optional))) refl (no_rest a.target a.is_last) tt

-- what takes the rest in the finished tree stands last
rest_lasts : (w : Where) (at : Span) (cs : List Node) → breaks_rule w (node_of at kind.RestPat cs) ≡ false → w.around.is_last ≡ true
rest_lasts w at cs rules =
    let n = node_of at kind.RestPat cs in
    let list = neither (fails_list w.around n) (fails_member w.around n || fails_statement w.around n) rules in
    let early = (neither (is_wrong_head w.around.target n) (is_early_rest w.around.target w.around.is_last n) list.0).1 in
    unnot w.around.is_last (subst (λ k. (is_rest w.around.target k && not w.around.is_last) ≡ false) (kind_made (record { span = at; kind = kind.RestPat; children = cs })) early)

single_by : (x : Node-F Node) → second_constructor (roll-Node x) ≡ None → second_by x.kind (roll-Node x) ≡ None
single_by x h = sym (ap (λ k. second_by k (roll-Node x)) (kind_made x)) ∙ h

single_here : (x : Node-F Node) → second_by x.kind (roll-Node x) ≡ None → second_constructor (roll-Node x) ≡ None
single_here x h = ap (λ k. second_by k (roll-Node x)) (kind_made x) ∙ h

-- what stands around a node as it is read
abbrev at_of : Target → Bool → Where → Around
at_of t l w = record { target = t; standing = w.around.standing; is_last = l }

-- what is known of a node of these parts
module _ (t : Target) (l : Bool) (w : Where) (o : Shape) (at : Span) (k : Kind) (cs : List Node) (there : There t l w o) (shape : HasShape o (node_of at k cs)) (fit : Fit w (node_of at k cs)) where
  abbrev x : Node-F Node
  x = record { span = at; kind = k; children = cs }

  pub shapes : (allows o k ≡ true) × HaveShapes (child_shapes k o (length cs)) cs
  shapes = shape_made x o shape

  pub fits : Fitting w x
  fits = fitting x w fit

  abbrev kids : List Node
  kids = each_in (target_in t k) (map cover_at cs)

  -- a child that stands anyhow, as it is read
  pub below_there : as_read t k ≡ true → AllThere (target_in t k) (λ i. last_by l k (length kids) i) (where_by w x) (child_shapes k o (length cs))
  below_there h =
      let read : as_read (target_of w.role) k ≡ true = sym (ap (λ u. as_read u k) there.same) ∙ h in
      let free = declared w.role k (kind_allowed x w.role fits.role) (λ e. property_kind o.count o.sort k (subst (λ r. suits r o ≡ true) e there.suit) shapes.0) read in
      all_there (target_in t k) (λ i. last_by l k (length kids) i) (where_by w x)
      (λ i. ap (λ u. target_in u k i) there.same ∙ sym (asked w.role k read free i))
      (λ i. head_alike w.around.target t k i)
      (λ i e. ap (λ n. last_by l k n i) (as_many (target_in t k) cs) ∙ last_grows k w.around.is_last l (length cs) i there.last e)
      (child_shapes k o (length cs)) (suited w.role k o (length cs) there.suit) (short_below w.role k o (length cs) there.short)
      (linked_below w.around.standing k (of_kind is_present (slice_get cs 1)) (of_kind is_present (slice_get cs 2)) o (length cs) there.super)

  -- itself, over children of which none is misplaced
  itself_whole : as_read t k ≡ true → AllWhole (around_by (at_of t l w) (record { span = at; kind = k; children = kids })) kids → Whole (at_of t l w) (cover_at (node_of at k cs) t)
  itself_whole h below =
      let y : Node-F Node = record { span = at; kind = k; children = kids } in
      let whole = whole_node (at_of t l w) y (fine_node (at_of t l w) y (itself_fine t l w o at k cs there h shapes.0 shapes.1 fits)) (single_here y (single_stays t at k cs o (length cs) shapes.1 (single_by x fits.single))) below in
      let is : cover_at (node_of at k cs) t ≡ roll-Node y = cover_node at k cs t ∙ ((kept t (record { span = at; kind = k; children = each_in (cover_in t k) (map cover_at cs) }) h).0
      ∙ ap (node_of at k) (each_same (cover_in t k) (target_in t k) (λ i. asks_same t k i h) (map cover_at cs))) in
      subst (Whole (at_of t l w)) (sym is) whole

-- patterns, over parts of which none is misplaced

-- the node that stands in the place of a pattern, around which something else stands
module _ (t : Target) (l : Bool) (w : Where) (o : Shape) (at : Span) where
  abbrev parts : Kind → List Node → Node-F Node
  parts k cs = record { span = at; kind = k; children = cs }

  -- a child of a part of a pattern
  pub child_there : (k : Kind) (cs : List Node) (i : ℕ) (u : Target) (s : Shape) → u ≡ target_of (role_in w.role k i) → is_head (target_in w.around.target k i) ≡ is_head u → suits (role_in w.role k i) s ≡ true
      → (belongs s.sort kind.AssignProp ≡ true → role_in w.role k i ≡ role.Free) → (belongs s.sort kind.Super ≡ true → is_linked (where_by w (parts k cs) i).around.standing ≡ true) → There u true (where_by w (parts k cs) i) s
  child_there k cs i u s same head suit defaults super = record { same = same; head = head; last = λ e. refl; suit = suit; short = defaults; super = super }

  array_whole : takes_patterns t ≡ true → (elements : Node) → Whole (record { target = target.Elements; standing = standing.Plain; is_last = true }) (cover_at elements target.Elements) → (of_type : Node)
      → Whole (at_of t l w) (cover_at (node_of at (kind.ArrayPat false) (elements ∷ of_type ∷ [])) t)
  unfolding cover_in target_in standing_by last_by
  array_whole h elements whole of_type =
      let y : Node-F Node = parts kind.ArrayLit (cover_at elements (in_literal t target.Elements) ∷ []) in
      let is : cover_at (node_of at (kind.ArrayPat false) (elements ∷ of_type ∷ [])) t ≡ roll-Node y =
      cover_node at (kind.ArrayPat false) (elements ∷ of_type ∷ []) t ∙ array_covered t h at (cover_at elements (in_literal t target.Elements)) (cover_at of_type target.Free) in
      let below : Whole (around_by (at_of t l w) y 0) (cover_at elements (in_literal t target.Elements)) =
      subst (λ u. Whole (record { target = u; standing = standing.Plain; is_last = true }) (cover_at elements u)) (sym (literal_asks t target.Elements h)) whole in
      subst (Whole (at_of t l w)) (sym is) (covering_whole (at_of t l w) y refl (true_or (may_be t kind.ArrayLit) (is_plain_target kind.ArrayLit) (literals_may t h).0) refl (no_rest t l) (below, tt))

  object_whole : takes_patterns t ≡ true → (properties : Node) → Whole (record { target = target.Properties; standing = standing.Plain; is_last = true }) (cover_at properties target.Properties) → (of_type : Node)
      → Whole (at_of t l w) (cover_at (node_of at (kind.ObjectPat false) (properties ∷ of_type ∷ [])) t)
  unfolding cover_in target_in standing_by last_by
  object_whole h properties whole of_type =
      let y : Node-F Node = parts kind.ObjectLit (cover_at properties (in_literal t target.Properties) ∷ []) in
      let is : cover_at (node_of at (kind.ObjectPat false) (properties ∷ of_type ∷ [])) t ≡ roll-Node y =
      cover_node at (kind.ObjectPat false) (properties ∷ of_type ∷ []) t ∙ object_covered t h at (cover_at properties (in_literal t target.Properties)) (cover_at of_type target.Free) in
      let below : Whole (around_by (at_of t l w) y 0) (cover_at properties (in_literal t target.Properties)) =
      subst (λ u. Whole (record { target = u; standing = standing.Plain; is_last = true }) (cover_at properties u)) (sym (literal_asks t target.Properties h)) whole in
      subst (Whole (at_of t l w)) (sym is) (covering_whole (at_of t l w) y refl (true_or (may_be t kind.ObjectLit) (is_plain_target kind.ObjectLit) (literals_may t h).1) refl (no_rest t l) (below, tt))

-- a node that stands anyhow
abbrev plainly : Target → Around
plainly t = record { target = t; standing = standing.Plain; is_last = true }

module _ (l : Bool) (s : Standing) (at : Span) where
  abbrev element_at : Around
  element_at = record { target = target.Element; standing = s; is_last = l }

  abbrev property_at : Around
  property_at = record { target = target.Property; standing = s; is_last = l }

  default_whole : (part value : Node) → Whole (plainly target.Part) (cover_at part target.Part) → Whole (plainly target.Free) (cover_at value target.Free) → Whole element_at (cover_at (node_of at kind.AssignPat (part ∷ value ∷ [])) target.Element)
  unfolding cover_in target_in standing_by last_by
  default_whole part value p v =
      subst (Whole element_at) (sym (cover_node at kind.AssignPat (part ∷ value ∷ []) target.Element))
      (covering_whole element_at (record { span = at; kind = kind.AssignExpr Assign; children = cover_at part target.Part ∷ cover_at value target.Free ∷ [] }) refl refl refl (no_rest target.Element l) (p, (v, tt)))

  rest_element_whole : l ≡ true → (part of_type : Node) → Whole (plainly target.Part) (cover_at part target.Part) → Whole element_at (cover_at (node_of at kind.RestPat (part ∷ of_type ∷ [])) target.Element)
  unfolding cover_in target_in standing_by last_by
  rest_element_whole last part of_type p =
      subst (Whole element_at) (sym (cover_node at kind.RestPat (part ∷ of_type ∷ []) target.Element))
      (covering_whole element_at (record { span = at; kind = kind.SpreadElement; children = cover_at part target.Part ∷ [] }) refl refl refl (ap not last) (p, tt))

  rest_property_whole : l ≡ true → (part of_type : Node) → Whole (plainly target.Rest) (cover_at part target.Rest) → Whole property_at (cover_at (node_of at kind.RestPat (part ∷ of_type ∷ [])) target.Property)
  unfolding cover_in target_in standing_by last_by
  rest_property_whole last part of_type p =
      subst (Whole property_at) (sym (cover_node at kind.RestPat (part ∷ of_type ∷ []) target.Property))
      (covering_whole property_at (record { span = at; kind = kind.SpreadElement; children = cover_at part target.Rest ∷ [] }) refl refl refl (ap not last) (p, tt))

  key_value_whole : (key value : Node) → Whole (plainly target.Free) (cover_at key target.Free) → Whole (plainly target.Element) (cover_at value target.Element) → Whole property_at (cover_at (node_of at kind.KeyValuePatProp (key ∷ value ∷ [])) target.Property)
  unfolding cover_in target_in standing_by last_by
  key_value_whole key value p v =
      subst (Whole property_at) (sym (cover_node at kind.KeyValuePatProp (key ∷ value ∷ []) target.Property))
      (covering_whole property_at (record { span = at; kind = kind.KeyValueProp; children = cover_at key target.Free ∷ cover_at value target.Element ∷ [] }) refl refl refl (no_rest target.Property l) (p, (v, tt)))

  short_whole : (of_binding of_name of_type of_value : Span) (text : List ℕ) (ctxt : ℕ) (optional : Bool)
      → Whole property_at (cover_at (node_of at kind.AssignPatProp (binding_node of_binding of_name of_type text ctxt optional ∷ node_of of_value kind.Absent [] ∷ [])) target.Property)
  short_whole of_binding of_name of_type of_value text ctxt optional =
      subst (Whole property_at) (sym (short_name at of_binding of_name of_type of_value text ctxt optional)) (name_whole property_at of_name text ctxt optional)

  short_default_whole : (of_binding of_name of_type : Span) (text : List ℕ) (ctxt : ℕ) (optional : Bool) (value : Node) → is_absent (kind_of value) ≡ false → Whole (plainly target.Free) (cover_at value target.Free)
      → Whole property_at (cover_at (node_of at kind.AssignPatProp (binding_node of_binding of_name of_type text ctxt optional ∷ value ∷ [])) target.Property)
  unfolding target_in standing_by last_by
  short_default_whole of_binding of_name of_type text ctxt optional value there v =
      subst (Whole property_at) (sym (default_name at of_binding of_name of_type text ctxt optional value there))
      (covering_whole property_at (record { span = at; kind = kind.AssignProp; children = name_node of_name text ctxt optional ∷ cover_at value target.Free ∷ [] }) refl refl refl (no_rest target.Property l)
      (name_whole (plainly target.Name) of_name text ctxt optional, (v, tt)))

-- over the tree
mutual
  unfolding role_in target_in standing_by last_by

  unbroken : {t : Target} {n : Node} → Stands t n → (l : Bool) (w : Where) (o : Shape) → There t l w o → HasShape o n → Fit w n → Whole (at_of t l w) (cover_at n t)
  unbroken (array {t} h at of_type {elements} s) l w o there shape fit =
      let cs = elements ∷ node_of of_type kind.Absent [] ∷ [] in
      let a : is_assigned w.role ≡ true = takes_assigned w.role (sym (ap takes_patterns there.same) ∙ h) in
      let child = child_there t l w o at (kind.ArrayPat false) cs 0 target.Elements (with_holes sort.Pat) (sym (ap (λ b. target_of (cond b role.AssignedElements role.DeclaredElements)) a)) refl
      (suited w.role (kind.ArrayPat false) o 2 there.suit).0 (λ e. not_true e) (λ e. not_true e) in
      array_whole t l w o at h elements (unbroken s true (where_by w (record { span = at; kind = kind.ArrayPat false; children = cs }) 0) (with_holes sort.Pat) child
      (shapes t l w o at (kind.ArrayPat false) cs there shape fit).1.0 (fits t l w o at (kind.ArrayPat false) cs there shape fit).below.0) (node_of of_type kind.Absent [])
  unbroken (object {t} h at of_type {properties} s) l w o there shape fit =
      let cs = properties ∷ node_of of_type kind.Absent [] ∷ [] in
      let a : is_assigned w.role ≡ true = takes_assigned w.role (sym (ap takes_patterns there.same) ∙ h) in
      let child = child_there t l w o at (kind.ObjectPat false) cs 0 target.Properties (many sort.ObjectPatProp) (sym (ap (λ b. target_of (cond b role.AssignedProperties role.DeclaredProperties)) a)) refl
      (suited w.role (kind.ObjectPat false) o 2 there.suit).0 (λ e. not_true e) (λ e. not_true e) in
      object_whole t l w o at h properties (unbroken s true (where_by w (record { span = at; kind = kind.ObjectPat false; children = cs }) 0) (many sort.ObjectPatProp) child
      (shapes t l w o at (kind.ObjectPat false) cs there shape fit).1.0 (fits t l w o at (kind.ObjectPat false) cs there shape fit).below.0) (node_of of_type kind.Absent [])
  unbroken (bound {t} h at of_name of_type text ctxt optional) l w o there shape fit =
      subst (Whole (at_of t l w)) (sym (binding_covered t h at of_name of_type text ctxt optional)) (name_whole (at_of t l w) of_name text ctxt optional)
  unbroken (default at {part} {value} s v) l w o there shape fit =
      let cs = part ∷ value ∷ [] in
      let have = (shapes target.Element l w o at kind.AssignPat cs there shape fit).1 in
      let below = (fits target.Element l w o at kind.AssignPat cs there shape fit).below in
      let suit = suited w.role kind.AssignPat o 2 there.suit in
      let x : Node-F Node = record { span = at; kind = kind.AssignPat; children = cs } in
      let first = child_there target.Element l w o at kind.AssignPat cs 0 target.Part (one sort.Pat) (before_default w.role there.same) refl suit.0 (λ e. not_true e) (λ e. not_true e) in
      let second = child_there target.Element l w o at kind.AssignPat cs 1 target.Free (one sort.Expr) refl refl suit.1.0 (λ e. not_true e) (λ e. not_true e) in
      default_whole l w.around.standing at part value (unbroken s true (where_by w x 0) (one sort.Pat) first have.0 below.0) (unbroken v true (where_by w x 1) (one sort.Expr) second have.1.0 below.1.0)
  unbroken (rest_element at of_type {part} s) l w o there shape fit =
      let cs = part ∷ node_of of_type kind.Absent [] ∷ [] in
      let f = fits target.Element l w o at kind.RestPat cs there shape fit in
      let x : Node-F Node = record { span = at; kind = kind.RestPat; children = cs } in
      let first = child_there target.Element l w o at kind.RestPat cs 0 target.Part (one sort.Pat) (behind_rest w.role there.same) refl (suited w.role kind.RestPat o 2 there.suit).0 (λ e. not_true e) (λ e. not_true e) in
      rest_element_whole l w.around.standing at (there.last (rest_lasts w at cs f.rules)) part (node_of of_type kind.Absent [])
      (unbroken s true (where_by w x 0) (one sort.Pat) first (shapes target.Element l w o at kind.RestPat cs there shape fit).1.0 f.below.0)
  unbroken (rest_property at of_type {part} s) l w o there shape fit =
      let cs = part ∷ node_of of_type kind.Absent [] ∷ [] in
      let f = fits target.Property l w o at kind.RestPat cs there shape fit in
      let x : Node-F Node = record { span = at; kind = kind.RestPat; children = cs } in
      let same : target.Rest ≡ target_of (in_rest w.role) = sym (ap (λ r. target_of (in_rest r)) (is_property_role w.role there.same)) in
      let first = child_there target.Property l w o at kind.RestPat cs 0 target.Rest (one sort.Pat) same refl (suited w.role kind.RestPat o 2 there.suit).0 (λ e. not_true e) (λ e. not_true e) in
      rest_property_whole l w.around.standing at (there.last (rest_lasts w at cs f.rules)) part (node_of of_type kind.Absent [])
      (unbroken s true (where_by w x 0) (one sort.Pat) first (shapes target.Property l w o at kind.RestPat cs there shape fit).1.0 f.below.0)
  unbroken (key_value at {key} {value} k s) l w o there shape fit =
      let cs = key ∷ value ∷ [] in
      let have = (shapes target.Property l w o at kind.KeyValuePatProp cs there shape fit).1 in
      let below = (fits target.Property l w o at kind.KeyValuePatProp cs there shape fit).below in
      let suit = suited w.role kind.KeyValuePatProp o 2 there.suit in
      let x : Node-F Node = record { span = at; kind = kind.KeyValuePatProp; children = cs } in
      let same : target.Element ≡ target_of (by w.role role.AssignedValue role.DeclaredValue) = sym (ap (λ r. target_of (by r role.AssignedValue role.DeclaredValue)) (is_property_role w.role there.same)) in
      let first = child_there target.Property l w o at kind.KeyValuePatProp cs 0 target.Free (one sort.PropName) refl refl suit.0 (λ e. not_true e) (λ e. not_true e) in
      let second = child_there target.Property l w o at kind.KeyValuePatProp cs 1 target.Element (one sort.Pat) same refl suit.1.0 (λ e. not_true e) (λ e. not_true e) in
      key_value_whole l w.around.standing at key value (unbroken k true (where_by w x 0) (one sort.PropName) first have.0 below.0) (unbroken s true (where_by w x 1) (one sort.Pat) second have.1.0 below.1.0)
  unbroken (short at of_binding of_name of_type of_value text ctxt optional) l w o there shape fit = short_whole l w.around.standing at of_binding of_name of_type of_value text ctxt optional
  unbroken (short_default at of_binding of_name of_type text ctxt optional {value} is v) l w o there shape fit =
      let cs = binding_node of_binding of_name of_type text ctxt optional ∷ value ∷ [] in
      let x : Node-F Node = record { span = at; kind = kind.AssignPatProp; children = cs } in
      let second = child_there target.Property l w o at kind.AssignPatProp cs 1 target.Free (maybe sort.Expr) refl refl (suited w.role kind.AssignPatProp o 2 there.suit).1.0 (λ e. not_true e) (λ e. not_true e) in
      short_default_whole l w.around.standing at of_binding of_name of_type text ctxt optional value is
      (unbroken v true (where_by w x 1) (maybe sort.Expr) second (shapes target.Property l w o at kind.AssignPatProp cs there shape fit).1.1.0 (fits target.Property l w o at kind.AssignPatProp cs there shape fit).below.1.0)
  unbroken (other {t} at k {children = cs} h each) l w o there shape fit =
      let x : Node-F Node = record { span = at; kind = k; children = cs } in
      let kids = each_in (target_in t k) (map cover_at cs) in
      itself_whole t l w o at k cs there shape fit h
      (each_unbroken each (λ i. last_by l k (length kids) i) (where_by w x) (λ i. standing_by w.around.standing k (of_kind is_present (slice_get kids 1)) (of_kind is_present (slice_get kids 2)) i) (child_shapes k o (length cs))
      (λ i. standing_stays w.around.standing t k cs i) (below_there t l w o at k cs there shape fit h) (shapes t l w o at k cs there shape fit).1 (fits t l w o at k cs there shape fit).below)

  each_unbroken : {target_at : ℕ → Target} {ns : List Node} → EachStands target_at ns → (last_at : ℕ → Bool) (where_at : ℕ → Where) (standing_at : ℕ → Standing) (os : List Shape)
      → ((i : ℕ) → standing_at i ≡ (where_at i).around.standing) → AllThere target_at last_at where_at os → HaveShapes os ns → AllFit where_at ns
      → AllWhole (λ i. record { target = target_at i; standing = standing_at i; is_last = last_at i }) (each_in target_at (map cover_at ns))
  each_unbroken none last_at where_at standing_at os e there have fit = tt
  each_unbroken (more s rest) last_at where_at standing_at [] e there have fit = absurd have
  each_unbroken (more {asked = target_at} {n} s rest) last_at where_at standing_at (o ∷ os) e there have fit = (
    subst (λ (z : Standing). Whole (record { target = target_at 0; standing = z; is_last = last_at 0 }) (cover_at n (target_at 0))) (sym (e 0)) (unbroken s (last_at 0) (where_at 0) o there.0 have.0 fit.0),
    each_unbroken rest (λ i. last_at (suc i)) (λ i. where_at (suc i)) (λ i. standing_at (suc i)) os (λ i. e (suc i)) there.1 have.1 fit.1,
  )

pub covers_whole : CoversAreNotMisplaced
covers_whole tree f bare =
    unbroken (stands_placed tree f bare) true at_top (one sort.Module) (record { same = refl; head = refl; last = λ e. refl; suit = refl; short = λ e. not_true e; super = λ e. not_true e }) f.sorted (none_unfit tree f)

pub ruleset whole = (covers_whole)
