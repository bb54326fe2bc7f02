-- Walks over a raw tree and its finished one, simple targets, and the names that are made.
use Rattle.std.proofs.Common.{◌≡◌, ◌∙◌, ℕ, Bool, true, false, ◌&&◌, ◌||◌, cond, List, [], ◌∷◌, map, Option, None, refl, sym, ap, slice_get, subst, bytes_eq, codes}
use Rattle.ecma_kind.specs.declared.span.Span.{Span}
use Rattle.ecma_kind.specs.declared.kind.Kind.{Kind}
use Rattle.ecma_kind.specs.declared.kind.Kind.TheVariants as kind
use Rattle.ecma_kind.specs.declared.shapes.Shape.{Shape}
use Rattle.ecma_kind.specs.declared.shapes.Sort.TheVariants as sort
use Rattle.ecma_tree.specs.declared.node.Node.{Node, Node-F, fold-roll-Node, ind-Node, out-Node, roll-Node}
use Rattle.ecma_tree.specs.declared.node.Node.TheViews.{out-roll-Node}
use Rattle.ecma_tree.specs.Laws.{HaveShapes}
use Rattle.ecma_tree.specs.Nodes.{absent, dummy_span, node_of}
use Rattle.ecma_tree.specs.Sorted.{HasShape, is_absent, is_list, one}
use Rattle.ecma_tree.proofs.ShapeLaws.{node_has_shape}
use Rattle.ecma_tree.proofs.Layers.{from_leaves-roll}
use Rattle.ecma_rules.specs.declared.target.Target.{Target}
use Rattle.ecma_rules.specs.declared.target.Target.TheVariants as target
use Rattle.ecma_rules.specs.declared.standing.Around.{Around}
use Rattle.ecma_rules.specs.Children.{is_named, kind_of, of_kind}
use Rattle.ecma_rules.specs.Failing.{failing_here, failing_step, first_failing, least_from}
use Rattle.ecma_rules.specs.Finishing.{binding, each_in, finished_at, shorthand}
use Rattle.ecma_rules.specs.Rules.{fails_list, fails_member, fails_statement, fails_super, fails_target, is_misplaced}
use Rattle.ecma_rules.specs.Supers.{is_lone_super, is_private_name, is_private_of_super, is_super_member}
use Rattle.ecma_rules.specs.Targets.{first_is, is_no_target, is_plain_target, is_simple_target, is_spread, is_stray_default, is_wrapper, simple_step, target_in}
use Rattle.ecma_fits.specs.declared.unfit.Where.{Where}
use Rattle.ecma_fits.specs.declared.role.Role.{Role}
use Rattle.ecma_fits.specs.declared.role.Role.TheVariants as role
use Rattle.ecma_fits.specs.Fitting.{where_in}
use Rattle.ecma_fits.specs.Roles.{bound_name_of, is_assigned, is_bound_name, is_name, is_out_of_role, is_wrong_name, may_be, role_in}
use Rattle.ecma_fits.specs.Strays.{arguments_in, is_stray_target}
use Rattle.ecma_raw_roles.specs.RawRoles.{raw_role_in, usual_role_in}
use Rattle.ecma_raw_roles.proofs.Walks.{not_true, kind_made}
use Rattle.ecma_text_fits_finished.proofs.Standing.{finished_parts}
use Rattle.ecma_raw_roles.proofs.Placed.{along_least, least_along, raw_walk, usual}
use Rattle.ecma_text_fits_finished.proofs.RoleKinds.{may_stand, out_by}
use Rattle.ecma_fits.proofs.Walks.{both_none, neither}

-- what the sorts of a raw tree say of the first children of a node of this kind
abbrev pub AreSound : Kind → List Node → Type 0
AreSound kind.ArrayLit (list ∷ ns) = is_list (kind_of list) ≡ true
AreSound kind.ObjectLit (list ∷ ns) = is_list (kind_of list) ≡ true
AreSound kind.KeyValueProp (key ∷ value ∷ ns) = (is_spread (kind_of value) || is_absent (kind_of value)) ≡ false
AreSound kind.AssignProp (key ∷ ns) = is_name (kind_of key) ≡ true
AreSound _ ns = Unit {0}

-- each of these
abbrev pub Each : (Node → Type 0) → List Node → Type 0
Each P [] = Unit {0}
Each P (n ∷ ns) = P n × Each P ns

-- the walk over the finished tree

abbrev pub tell : Where → Node → Option ℕ
tell w node = failing_here (is_out_of_role w.role node || is_stray_target w.role w.arguments node) node

abbrev pub walk : Node → Where → Option ℕ
walk = first_failing Where tell where_in

-- `arguments`, which belongs to nothing
abbrev pub stray_by : Where → Node-F Node → Bool
stray_by w x = w.arguments.stray && (is_assigned w.role && (is_bound_name x.kind && of_kind (is_named (codes "arguments")) (slice_get x.children 0)))

second_no : (a b : Bool) → b ≡ false → (a && b) ≡ false
second_no true b h = h
second_no false b h = refl

first_no : (a b : Bool) → a ≡ false → (a && b) ≡ false
first_no a b h = rw h refl

pub unbound : (w : Where) (x : Node-F Node) → is_bound_name x.kind ≡ false → stray_by w x ≡ false
unbound w x h =
    let named = of_kind (is_named (codes "arguments")) (slice_get x.children 0) in
    second_no w.arguments.stray _ (second_no (is_assigned w.role) _ (first_no (is_bound_name x.kind) named h))

pub declared_fine : (w : Where) (x : Node-F Node) → is_assigned w.role ≡ false → stray_by w x ≡ false
declared_fine w x h = second_no w.arguments.stray _ (first_no (is_assigned w.role) _ h)

pub walk_whole : (x : Node-F Node) (w : Where) → out_by w.role x.kind (roll-Node x) ≡ false → stray_by w x ≡ false → least_from Where (where_in w (roll-Node x)) 0 (map walk x.children) ≡ None → walk (roll-Node x) w ≡ None
walk_whole x w h q g =
    let role : is_out_of_role w.role (roll-Node x) ≡ false = subst (λ k. out_by w.role k (roll-Node x) ≡ false) (sym (kind_made x)) h in
    let belongs : is_stray_target w.role w.arguments (roll-Node x) ≡ false = subst (λ p. stray_by w p ≡ false) (sym (out-roll-Node x)) q in
    let here : (is_out_of_role w.role (roll-Node x) || is_stray_target w.role w.arguments (roll-Node x)) ≡ false = rw (role, belongs) refl in
    ap (λ f. f w) (from_leaves-roll (Where → Option ℕ) (failing_step Where tell where_in) x)
    ∙ both_none (tell w (roll-Node x)) _ (ap (λ b. failing_here b (roll-Node x)) here) g

pub absent_tells : (w : Where) → may_be w.role kind.Absent ≡ true → walk absent w ≡ None
absent_tells w h = let x : Node-F Node = record { span = dummy_span; kind = kind.Absent; children = [] } in walk_whole x w (may_stand w.role kind.Absent (roll-Node x) refl h) (unbound w x refl) refl

-- the role of the child at an index of a node that is made
pub role_made : (x : Node-F Node) (w : Where) (i : ℕ) → role_in w.role x.kind i ≡ (let inner = where_in w (roll-Node x) i in inner.role)
role_made x w i = ap (λ k. role_in w.role k i) (sym (kind_made x))

-- rules on targets

pub kept_targets : (a : Around) (n : Node) → is_misplaced a n ≡ false → (is_no_target a.target n ≡ false) × (is_stray_default a.target n ≡ false)
unfolding is_misplaced
kept_targets a n h =
    let t = neither (fails_target a n) (fails_list a n || (fails_member a n || (fails_statement a n || fails_super a n))) h in
    neither (is_no_target a.target n) (is_stray_default a.target n) t.0

-- behind `super` stands no private name

kept_super : (a : Around) (n : Node) → is_misplaced a n ≡ false → is_private_of_super n ≡ false
unfolding is_misplaced
kept_super a n h =
    let t = neither (fails_target a n) (fails_list a n || (fails_member a n || (fails_statement a n || fails_super a n))) h in
    let l = neither (fails_list a n) (fails_member a n || (fails_statement a n || fails_super a n)) t.1 in
    let m = neither (fails_member a n) (fails_statement a n || fails_super a n) l.1 in
    let s = neither (fails_statement a n) (fails_super a n) m.1 in
    (neither (is_lone_super a.standing n) (is_private_of_super n) s.1).1

pub usual_roles : (was : Around) (x : Node-F Node) (r : Role) → is_misplaced was (roll-Node x) ≡ false → least_from Role (raw_role_in r x.kind) 0 (map raw_walk x.children) ≡ None → least_from Role (usual_role_in r x.kind) 0 (map raw_walk x.children) ≡ None
usual_roles was x r fine h =
    along_least (usual_role_in r x.kind) x.children
    (usual r x.kind x.children (subst (λ (p : Node-F Node). (is_super_member p.kind && of_kind is_private_name (slice_get p.children 1)) ≡ false) (out-roll-Node x) (kept_super was (roll-Node x) fine)) (least_along (raw_role_in r x.kind) x.children h))

-- a simple target stays one

abbrev pub first_simple : List Node → Bool
first_simple ns = first_is (map is_simple_target ns)

pub simple_made : (x : Node-F Node) → is_simple_target (roll-Node x) ≡ (is_plain_target x.kind || (is_wrapper x.kind && first_simple x.children))
simple_made x = fold-roll-Node Bool simple_step x

wrapper_free : (t : Target) (k : Kind) (i : ℕ) → is_wrapper k ≡ true → target_in t k i ≡ target.Free
unfolding target_in
wrapper_free t kind.ParenExpr i h = refl
wrapper_free t kind.TsTypeAssertion i h = refl
wrapper_free t kind.TsConstAssertion i h = refl
wrapper_free t kind.TsNonNullExpr i h = refl
wrapper_free t kind.TsAsExpr i h = refl
wrapper_free t kind.TsInstantiation i h = refl
wrapper_free t kind.TsSatisfiesExpr i h = refl
wrapper_free t _ i h = not_true h

abbrev StaysSimple : Node → Type 0
StaysSimple n = is_simple_target (finished_at n target.Free) ≡ is_simple_target n

first_stays : (t : Target) (k : Kind) (ns : List Node) → Each StaysSimple ns → (is_wrapper k && first_simple (each_in (target_in t k) (map finished_at ns))) ≡ (is_wrapper k && first_simple ns)
first_stays t k [] s = refl
first_stays t k (n ∷ ns) s = go (is_wrapper k) refl
  where
    go : (b : Bool) → is_wrapper k ≡ b → (b && is_simple_target (finished_at n (target_in t k 0))) ≡ (b && is_simple_target n)
    go false e = refl
    go true e = ap (λ z. is_simple_target (finished_at n z)) (wrapper_free t k 0 e) ∙ s.0

module _ (span : Span) (t : Target) (k : Kind) (cs : List Node) where
  abbrev was_node : Node
  was_node = node_of span k cs

  abbrev now_node : Node
  now_node = node_of span k (each_in (target_in t k) (map finished_at cs))

  pub simple_same : Each StaysSimple cs → is_simple_target now_node ≡ is_simple_target was_node
  simple_same s =
      simple_made (record { span = span; kind = k; children = each_in (target_in t k) (map finished_at cs) })
      ∙ ap (λ z. is_plain_target k || z) (first_stays t k cs s) ∙ sym (simple_made (record { span = span; kind = k; children = cs }))

all_simple : (es : List ((n : Node) × StaysSimple n)) → Each StaysSimple (map (λ e. e.0) es)
all_simple [] = tt
all_simple (e ∷ es) = (e.1, all_simple es)

node_simple : (x : Node-F Node) → Each StaysSimple x.children → StaysSimple (roll-Node x)
node_simple x s = ap is_simple_target (finished_parts x target.Free) ∙ simple_same x.span target.Free x.kind x.children s

simple_stays : (n : Node) → StaysSimple n
simple_stays = ind-Node StaysSimple (λ x y is. node_simple x (subst (λ (z : Node-F Node). Each StaysSimple z.children) is (all_simple y.children)))

pub each_simple : (ns : List Node) → Each StaysSimple ns
each_simple [] = tt
each_simple (n ∷ ns) = (simple_stays n, each_simple ns)

-- names that are made

bound_free : (v : Role) → is_assigned v ≡ true → bound_name_of v ≡ role.Free
bound_free role.Parameter h = not_true h
bound_free _ h = refl

no_children : (cs : List Node) → HaveShapes [] cs → cs ≡ []
no_children [] h = refl
no_children (c ∷ cs) h = absurd h

module _ (span : Span) (text : List ℕ) (ctxt : ℕ) (optional : Bool) (children : List Node) (name_fits : is_wrong_name role.Free (kind.Ident text ctxt optional) ≡ false) where
  abbrev ident : Kind
  ident = kind.Ident text ctxt optional

  abbrev name : Node
  name = node_of span ident children

  name_tells : (v : Where) → v.role ≡ role.Free → HasShape (one sort.Ident) name → walk name v ≡ None
  unfolding may_be
  name_tells v free h =
      let none = no_children children ((node_has_shape span ident children (one sort.Ident)).0 h).1 in
      let x : Node-F Node = record { span = span; kind = ident; children = children } in
      let right : is_wrong_name v.role ident ≡ false = ap (λ z. is_wrong_name z ident) free ∙ name_fits in
      let may : may_be v.role ident ≡ true = ap (λ z. may_be z ident) free in
      walk_whole x v (may_stand v.role ident name right may) (unbound v x refl) (subst (λ (z : List Node). least_from Where (where_in v name) 0 (map walk z) ≡ None) (sym none) refl)

  -- it is not `arguments` that belongs to nothing
  abbrev pub Belongs : Where → Type 0
  Belongs v = (v.arguments.stray && bytes_eq text (codes "arguments")) ≡ false

  bound_fine : (v : Where) → Belongs v → stray_by v (record { span = (out-Node name).span; kind = kind.BindingIdent; children = name ∷ absent ∷ [] }) ≡ false
  bound_fine v b =
      subst (λ k. (v.arguments.stray && (is_assigned v.role && is_named (codes "arguments") k)) ≡ false) (sym (kind_made (record { span = span; kind = ident; children = children })))
      (between v.arguments.stray (is_assigned v.role) (bytes_eq text (codes "arguments")) b)
    where
      between : (a b c : Bool) → (a && c) ≡ false → (a && (b && c)) ≡ false
      between true true c h = h
      between true false c h = refl
      between false b c h = refl

  pub binding_tells : (v : Where) (o : Shape) → is_assigned v.role ≡ true → may_be v.role kind.BindingIdent ≡ true → Belongs v → HasShape o (binding name) → walk (binding name) v ≡ None
  unfolding role_in may_be
  binding_tells v o assigned may b h =
      let t = (node_has_shape (out-Node name).span kind.BindingIdent (name ∷ absent ∷ []) o).0 h in
      let x : Node-F Node = record { span = (out-Node name).span; kind = kind.BindingIdent; children = name ∷ absent ∷ [] } in
      let inside = where_in v (binding name) in
      let first = inside 0 in
      let second = inside 1 in
      let is_first : first.role ≡ role.Free = sym (role_made x v 0) ∙ bound_free v.role assigned in
      let is_second : second.role ≡ role.Nothing = sym (role_made x v 1) ∙ ap (λ b. cond b role.Nothing role.Free) assigned in
      walk_whole x v (may_stand v.role kind.BindingIdent (binding name) refl may) (bound_fine v b)
      (both_none (walk name first) _ (name_tells first is_first t.1.0) (both_none (walk absent second) None (absent_tells second (ap (λ z. may_be z kind.Absent) is_second)) refl))

  pub shorthand_tells : (v : Where) (o : Shape) → v.role ≡ role.AssignedProperty → Belongs v → HasShape o (shorthand name) → walk (shorthand name) v ≡ None
  unfolding role_in may_be arguments_in
  shorthand_tells v o is b h =
      let t = (node_has_shape (out-Node name).span kind.AssignPatProp (binding name ∷ absent ∷ []) o).0 h in
      let x : Node-F Node = record { span = (out-Node name).span; kind = kind.AssignPatProp; children = binding name ∷ absent ∷ [] } in
      let inside = where_in v (shorthand name) in
      let first = inside 0 in
      let second = inside 1 in
      let is_first : first.role ≡ role.AssignedName = sym (role_made x v 0) ∙ ap (λ z. role_in z kind.AssignPatProp 0) is in
      let is_second : second.role ≡ role.Free = sym (role_made x v 1) ∙ ap (λ z. role_in z kind.AssignPatProp 1) is in
      let same : v.arguments ≡ first.arguments = ap (λ k. arguments_in v.arguments k 0) (sym (kind_made x)) in
      walk_whole x v (may_stand v.role kind.AssignPatProp (shorthand name) refl (ap (λ z. may_be z kind.AssignPatProp) is)) (unbound v x refl)
      (both_none (walk (binding name) first) _ (binding_tells first (one sort.BindingIdent) (ap is_assigned is_first) (ap (λ z. may_be z kind.BindingIdent) is_first) (subst (λ a. (a.stray && bytes_eq text (codes "arguments")) ≡ false) same b) t.1.0) (both_none (walk absent second) None (absent_tells second (ap (λ z. may_be z kind.Absent) is_second)) refl))
