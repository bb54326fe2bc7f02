-- In the finished tree of a raw one that keeps the context rules, each node is what it has to be where it stands, and in its patterns nothing
-- assigns to an `arguments` that belongs to nothing.
use Rattle.std.proofs.Common.{◌≡◌, ◌∙◌, inl, inr, ◌⊎◌, ℕ, suc, Bool, true, false, not, ◌&&◌, ◌||◌, ◌==◌, cond, List, [], ◌∷◌, ◌++◌, map, length, None, refl, sym, ap, subst, bytes_eq, codes}
use Rattle.ecma_kind.specs.declared.span.Span.{Span}
use Rattle.ecma_kind.specs.declared.operators.AssignOp.{AssignOp}
use Rattle.ecma_kind.specs.declared.operators.AssignOp.TheVariants.{Assign}
use Rattle.ecma_kind.specs.declared.kind.Kind.{Kind}
use Rattle.ecma_kind.specs.declared.kind.Kind.TheVariants as kind
use Rattle.ecma_kind.specs.declared.shapes.Shape.{Shape}
use Rattle.ecma_kind.specs.declared.shapes.Sort.TheVariants as sort
use Rattle.ecma_tree.specs.declared.node.Node.{Node, Node-F, ind-Node, roll-Node, out-Node}
use Rattle.ecma_tree.specs.Laws.{HaveShapes}
use Rattle.ecma_tree.specs.Nodes.{absent, node_of}
use Rattle.ecma_tree.specs.Sorted.{HasShape, allows, child_shapes, is_absent, many, maybe, one, with_holes}
use Rattle.ecma_tree.proofs.ShapeLaws.{node_has_shape}
use Rattle.ecma_rules.specs.declared.target.Target.{Target}
use Rattle.ecma_rules.specs.declared.target.Target.TheVariants as target
use Rattle.ecma_rules.specs.declared.standing.Around.{Around}
use Rattle.ecma_rules.specs.declared.standing.Standing.{Standing}
use Rattle.ecma_rules.specs.Children.{kind_of}
use Rattle.ecma_rules.specs.Failing.{least_from}
use Rattle.ecma_rules.specs.Finishing.{binding, default_by, each_in, element_by, finished_at, finished_by, left_by, name_by, part_by, property_by, with_kind, with_type}
use Rattle.ecma_rules.specs.Rules.{first_misplaced, is_misplaced}
use Rattle.ecma_rules.specs.Targets as targets
use Rattle.ecma_rules.specs.Targets.{is_plain_target, is_short_default, is_simple_target, is_spread, is_wrapper, target_in}
use Rattle.ecma_fits.specs.declared.unfit.Where.{Where}
use Rattle.ecma_fits.specs.declared.role.Role.{Role}
use Rattle.ecma_fits.specs.declared.role.Role.TheVariants as role
use Rattle.ecma_fits.specs.Fitting.{where_in}
use Rattle.ecma_fits.specs.Roles.{in_default, in_rest, is_assigned, is_bound_name, is_name, is_wrong_name, may_be, role_in, takes}
use Rattle.ecma_raw_roles.specs.RawRoles.{is_getter, may_be_raw, raw_role, usual_role_in}
use Rattle.ecma_raw_roles.proofs.Walks.{not_true, kind_made}
use Rattle.ecma_text_fits_finished.proofs.Standing.{around_by, finished_parts, shape_allows}
use Rattle.ecma_text_fits_finished.proofs.Ruled.{broken_parts}
use Rattle.ecma_raw_roles.proofs.Placed.{displaced_by, raw_parts, raw_walk}
use Rattle.ecma_text_fits_finished.proofs.RoleKinds.{Proper, calm, is_odd, unassigned, may_stand, no_list_parameter, one_pat, out_by, stands, taken, wrong_name}
use Rattle.ecma_text_fits_finished.proofs.RoleChildren.{Agrees, AllProper, AllStand, Stands, calm_in, default_single, each_stands, free_agrees, is_steady, proper_in, steady_unbound, rest_single, stand, steady_stand, untold}
use Rattle.ecma_rules.specs.Jumps.{Held, first_held_stray, is_stray_in}
use Rattle.ecma_rules.specs.Strays.{in_named, is_stray, strays_in}
use Rattle.ecma_fits.specs.Strays.{arguments_in}
use Rattle.ecma_text_fits_finished.proofs.Strays.{held_by, label_in, none_parts}
use Rattle.ecma_text_fits_finished.proofs.Arguments.{AllLinked, Linked, allows_inert, is_inert_kind, linked_in, linked_turned}
use Rattle.ecma_text_fits_finished.proofs.RoleWalks.{declared_fine, stray_by, unbound, AreSound, Each, walk, walk_whole, absent_tells, kept_targets, usual_roles, first_simple, simple_made, simple_same, each_simple, binding_tells, shorthand_tells}
use Rattle.ecma_fits.proofs.Walks.{both_none, neither, neither_least, shifted}

module _ (Sound : Node → Type 0) (sound : (x : Node-F Node) → Sound (roll-Node x) → Each Sound x.children × AreSound x.kind x.children) where
  -- of children of which nothing was told, nothing is told
  abbrev Below : List Node → Type 0
  Below cs = (was : ℕ → Around) (rs : ℕ → Role) (hs : ℕ → Held) (where_of : ℕ → Where) (os : List Shape) → AllLinked (λ i. (hs i).strays) (λ i. (where_of i).arguments) os → AllStand (λ i. (was i).target) rs (λ i. (where_of i).role) os cs → HaveShapes os (each_in (λ i. (was i).target) (map finished_at cs)) → Each Sound cs
      → least_from Around was 0 (map first_misplaced cs) ≡ None → least_from Role rs 0 (map raw_walk cs) ≡ None → least_from Held hs 0 (map first_held_stray cs) ≡ None → least_from Where where_of 0 (map walk (each_in (λ i. (was i).target) (map finished_at cs))) ≡ None

  module _ (span : Span) (s : Standing) (l : Bool) (r : Role) (held : Held) (w : Where) (o : Shape) where
    abbrev at : Target → Around
    at t = record { target = t; standing = s; is_last = l }

    abbrev raw : Kind → List Node → Node-F Node
    raw k cs = record { span = span; kind = k; children = cs }

    abbrev kids : Target → Kind → List Node → List Node
    kids t k cs = each_in (target_in t k) (map finished_at cs)

    abbrev parts : Target → Kind → List Node → Node-F Node
    parts t k cs = record { span = span; kind = k; children = kids t k cs }

    abbrev Tells : Node → Type 0
    Tells n = HasShape o n → walk n w ≡ None

    -- a node of this kind kept the rules there, and was what it had to be; and so were all below
    record Was (t : Target) (k : Kind) (cs : List Node) : Type 0 where
      fine : is_misplaced (at t) (node_of span k cs) ≡ false
      agrees : Agrees t r w.role k
      proper : Proper w.role o
      placed : displaced_by r k ≡ false
      inside : least_from Around (around_by (at t) (raw k cs)) 0 (map first_misplaced cs) ≡ None
      roles : least_from Role (usual_role_in r k) 0 (map raw_walk cs) ≡ None
      called : is_stray_in held k (label_in cs) ≡ false
      linked : Linked held.strays w.arguments o
      helds : least_from Held (held_by held k (label_in cs)) 0 (map first_held_stray cs) ≡ None
      parts_sound : AreSound k cs
      all_sound : Each Sound cs

    -- a node with these children, of this kind
    same_tells : (t : Target) (k : Kind) (cs : List Node) → Below cs → Was t k cs → (HasShape o (roll-Node (parts t k cs)) → out_by w.role k (roll-Node (parts t k cs)) ≡ false) → stray_by w (parts t k cs) ≡ false
        → (HasShape o (roll-Node (parts t k cs)) → (os : List Shape) → child_shapes k o (length (kids t k cs)) ≡ os → AllStand (target_in t k) (usual_role_in r k) (role_in w.role k) os cs) → Tells (roll-Node (parts t k cs))
    same_tells t k cs below was out fine stand h =
        let y = parts t k cs in
        let os = child_shapes k o (length (kids t k cs)) in
        let shaped = (node_has_shape span k (kids t k cs) o).0 h in
        let all = subst (λ z. AllStand (target_in t k) (usual_role_in r k) (λ i. role_in w.role z i) os cs) (sym (kind_made y)) (stand h os refl) in
        let links = subst (λ z. AllLinked (strays_in held.strays k) (λ i. arguments_in w.arguments z i) os) (sym (kind_made y)) (linked_in held.strays w.arguments k o (length (kids t k cs)) was.linked shaped.0) in
        walk_whole y w (out h) fine (below (around_by (at t) (raw k cs)) (usual_role_in r k) (held_by held k (label_in cs)) (where_in w (roll-Node y)) os links all shaped.1 was.all_sound was.inside was.roles was.helds)

    -- it turns into another kind, in which `arguments` belongs to the same
    record Passes (k to : Kind) : Type 0 where
      unbound : is_bound_name to ≡ false
      ert : is_inert_kind to ≡ false
      before : (i : ℕ) → held.strays ≡ strays_in held.strays k i
      behind : (i : ℕ) → w.arguments ≡ arguments_in w.arguments to i

    passes_array : Passes kind.ArrayLit (kind.ArrayPat false)
    unfolding strays_in in_named arguments_in
    passes_array = record { unbound = refl; ert = refl; before = λ i. refl; behind = λ i. refl }

    passes_object : Passes kind.ObjectLit (kind.ObjectPat false)
    unfolding strays_in in_named arguments_in
    passes_object = record { unbound = refl; ert = refl; before = λ i. refl; behind = λ i. refl }

    passes_spread : Passes kind.SpreadElement kind.RestPat
    unfolding strays_in in_named arguments_in
    passes_spread = record { unbound = refl; ert = refl; before = λ i. refl; behind = λ i. refl }

    passes_default : Passes (kind.AssignExpr Assign) kind.AssignPat
    unfolding strays_in in_named arguments_in
    passes_default = record { unbound = refl; ert = refl; before = λ i. refl; behind = λ i. refl }

    passes_value : Passes kind.KeyValueProp kind.KeyValuePatProp
    unfolding strays_in in_named arguments_in
    passes_value = record { unbound = refl; ert = refl; before = λ i. refl; behind = λ i. refl }

    passes_short : Passes kind.AssignProp kind.AssignPatProp
    unfolding strays_in in_named arguments_in
    passes_short = record { unbound = refl; ert = refl; before = λ i. refl; behind = λ i. refl }

    turned_tells : (t : Target) (k to : Kind) (cs : List Node) → Below cs → Was t k cs → out_by w.role to (with_kind to (parts t k cs)) ≡ false → Passes k to
        → ((os : List Shape) → child_shapes to o (length (kids t k cs)) ≡ os → AllStand (target_in t k) (usual_role_in r k) (role_in w.role to) os cs) → Tells (with_kind to (parts t k cs))
    turned_tells t k to cs below was out passes stand h =
        let y : Node-F Node = record { span = span; kind = to; children = kids t k cs } in
        let os = child_shapes to o (length (kids t k cs)) in
        let shaped = (node_has_shape span to (kids t k cs) o).0 h in
        let all = subst (λ z. AllStand (target_in t k) (usual_role_in r k) (λ i. role_in w.role z i) os cs) (sym (kind_made y)) (stand os refl) in
        let links = subst (λ z. AllLinked (strays_in held.strays k) (λ i. arguments_in w.arguments z i) os) (sym (kind_made y)) (linked_turned held.strays w.arguments k to o os was.linked shaped.0 passes.ert passes.before passes.behind) in
        walk_whole y w out (unbound w y passes.unbound) (below (around_by (at t) (raw k cs)) (usual_role_in r k) (held_by held k (label_in cs)) (where_in w (roll-Node y)) os links all shaped.1 was.all_sound was.inside was.roles was.helds)

    -- one child, and room for a type behind it
    typed_tells : (t : Target) (k to : Kind) (p q : Shape) (cs : List Node) → Below cs → Was t k cs → out_by w.role to (with_type to (parts t k cs)) ≡ false → Passes k to → ((n : ℕ) → child_shapes to o n ≡ p ∷ q ∷ [])
        → ((c : Node) (ns : List Node) → cs ≡ c ∷ ns → Stands (target_in t k 0) (usual_role_in r k 0) (role_in w.role to 0) (kind_of c) p) → may_be (role_in w.role to 1) kind.Absent ≡ true → Tells (with_type to (parts t k cs))
    typed_tells t k to p q [] below was out passes shapes stand missing h =
        absurd (subst (λ os. HaveShapes os (absent ∷ [])) (shapes 1) ((node_has_shape span to (absent ∷ []) o).0 h).1).1
    typed_tells t k to p q (c ∷ []) below was out passes shapes stand missing h =
        let children = kids t k (c ∷ []) ++ absent ∷ [] in
        let y : Node-F Node = record { span = span; kind = to; children = children } in
        let have : HaveShapes (p ∷ q ∷ []) children = subst (λ os. HaveShapes os children) (shapes 2) ((node_has_shape span to children o).0 h).1 in
        let stands = subst (λ z. Stands (target_in t k 0) (usual_role_in r k 0) (role_in w.role z 0) (kind_of c) p) (sym (kind_made y)) (stand c [] refl) in
        let allowed = ((node_has_shape span to children o).0 h).0 in
        let links = subst (λ z. AllLinked (strays_in held.strays k) (λ i. arguments_in w.arguments z i) (p ∷ [])) (sym (kind_made y)) (linked_turned held.strays w.arguments k to o (p ∷ []) was.linked allowed passes.ert passes.before passes.behind) in
        let told = below (around_by (at t) (raw k (c ∷ []))) (usual_role_in r k) (held_by held k (label_in (c ∷ []))) (where_in w (roll-Node y)) (p ∷ []) links (stands, tt) (have.0, tt) was.all_sound was.inside was.roles was.helds in
        let first = neither_least (walk (finished_at c (target_in t k 0)) (where_in w (roll-Node y) 0)) None told in
        let last = absent_tells (where_in w (roll-Node y) 1) (subst (λ z. may_be (role_in w.role z 1) kind.Absent ≡ true) (sym (kind_made y)) missing) in
        walk_whole y w out (unbound w y passes.unbound) (both_none (walk (finished_at c (target_in t k 0)) (where_in w (roll-Node y) 0)) _ first.0 (both_none (walk absent (where_in w (roll-Node y) 1)) None last refl))
    typed_tells t k to p q (c ∷ d ∷ cs) below was out passes shapes stand missing h =
        let children = kids t k (c ∷ d ∷ cs) ++ absent ∷ [] in
        let have : HaveShapes (p ∷ q ∷ []) children = subst (λ os. HaveShapes os children) (shapes (length children)) ((node_has_shape span to children o).0 h).1 in
        too_many (kids t k (c ∷ d ∷ cs)) refl have
      where
        too_many : {A : Type 0} → (ns : List Node) → kids t k (c ∷ d ∷ cs) ≡ ns → HaveShapes (p ∷ q ∷ []) (ns ++ absent ∷ []) → A
        too_many [] e v = cc
        too_many (m ∷ []) e v = cc
        too_many (m ∷ n ∷ []) e v = absurd v.1.1
        too_many (m ∷ n ∷ z ∷ ns) e v = absurd v.1.1

    -- what is known of its kind

    name_right : (t : Target) (k : Kind) (cs : List Node) → Was t k cs → r ≡ raw_role w.role → is_wrong_name w.role k ≡ false
    name_right t k cs was e =
        let wrong = (neither (is_wrong_name r k) (not (may_be_raw r k)) was.placed).0 in
        sym (wrong_name w.role k) ∙ ap (λ z. is_wrong_name z k) (sym e) ∙ wrong

    free_name : (t : Target) (k : Kind) (cs : List Node) → Was t k cs → r ≡ role.Free → is_wrong_name role.Free k ≡ false
    free_name t k cs was e = ap (λ z. is_wrong_name z k) (sym e) ∙ (neither (is_wrong_name r k) (not (may_be_raw r k)) was.placed).0

    no_target : (t : Target) (k : Kind) (cs : List Node) → Was t k cs → targets.may_be t k ≡ false → is_simple_target (node_of span k cs) ≡ true
    no_target t k cs was other =
        let told = (kept_targets (at t) (node_of span k cs) was.fine).0 in
        let by_kind : not (targets.may_be t k || is_simple_target (node_of span k cs)) ≡ false = subst (λ z. not (targets.may_be t z || is_simple_target (node_of span k cs)) ≡ false) (kind_made (raw k cs)) told in
        unnot (is_simple_target (node_of span k cs)) (subst (λ b. not (b || is_simple_target (node_of span k cs)) ≡ false) other by_kind)
      where
        unnot : (b : Bool) → not b ≡ false → b ≡ true
        unnot true e = refl
        unnot false e = not_true (sym e)

    steady : (k : Kind) (cs : List Node) → is_simple_target (node_of span k cs) ≡ true → is_steady k ≡ true
    steady k cs h = either (is_plain_target k) (is_wrapper k) (first_simple cs) (sym (simple_made (raw k cs)) ∙ h)
      where
        either : (a b c : Bool) → (a || (b && c)) ≡ true → (a || b) ≡ true
        either true b c e = refl
        either false true c e = refl
        either false false c e = e

    -- a simple target, which stays what it is
    simple_tells : (t : Target) (k : Kind) (cs : List Node) → Below cs → Was t k cs → r ≡ role.Free → targets.may_be t k ≡ false → raw_role w.role ≡ role.Free → takes w.role k ≡ true → Tells (roll-Node (parts t k cs))
    simple_tells t k cs below was free other assigned takes_it =
        let simple = no_target t k cs was other in
        let now = simple_same span t k cs (each_simple cs) ∙ simple in
        same_tells t k cs below was (λ h. taken w.role k (roll-Node (parts t k cs)) (name_right t k cs was (free ∙ sym assigned)) takes_it now) (unbound w (parts t k cs) (steady_unbound k (steady k cs simple)))
        (λ h os e. subst (λ z. AllStand (target_in t k) (usual_role_in z k) (role_in w.role k) os cs) (sym free) (steady_stand t w.role k (steady k cs simple) os cs))

    -- literals that turn into patterns
    array : (t : Target) (cs : List Node) → Below cs → Was t kind.ArrayLit cs → r ≡ role.Free → target_in t kind.ArrayLit 0 ≡ target.Elements → is_assigned w.role ≡ true → may_be w.role (kind.ArrayPat false) ≡ true
        → Tells (with_type (kind.ArrayPat false) (parts t kind.ArrayLit cs))
    unfolding role_in usual_role_in may_be
    array t cs below was free to assigned may =
        typed_tells t kind.ArrayLit (kind.ArrayPat false) (with_holes sort.Pat) (maybe sort.TsTypeAnn) cs below was (may_stand w.role (kind.ArrayPat false) _ refl may) passes_array (λ n. refl)
        (λ c ns e. record {
          agrees = subst (λ z. Agrees z (usual_role_in r kind.ArrayLit 0) (role_in w.role (kind.ArrayPat false) 0) (kind_of c)) (sym to)
              (ap (λ z. usual_role_in z kind.ArrayLit 0) free, ap (λ b. cond b role.AssignedElements role.DeclaredElements) assigned, subst (AreSound kind.ArrayLit) e was.parts_sound);
          proper = calm (role_in w.role (kind.ArrayPat false) 0) (with_holes sort.Pat) (calm_in w.role (kind.ArrayPat false) 0 refl);
        })
        (ap (λ b. may_be (cond b role.Nothing role.Free) kind.Absent) assigned)

    object : (t : Target) (cs : List Node) → Below cs → Was t kind.ObjectLit cs → r ≡ role.Free → target_in t kind.ObjectLit 0 ≡ target.Properties → is_assigned w.role ≡ true → may_be w.role (kind.ObjectPat false) ≡ true
        → Tells (with_type (kind.ObjectPat false) (parts t kind.ObjectLit cs))
    unfolding role_in usual_role_in may_be
    object t cs below was free to assigned may =
        typed_tells t kind.ObjectLit (kind.ObjectPat false) (many sort.ObjectPatProp) (maybe sort.TsTypeAnn) cs below was (may_stand w.role (kind.ObjectPat false) _ refl may) passes_object (λ n. refl)
        (λ c ns e. record {
          agrees = subst (λ z. Agrees z (usual_role_in r kind.ObjectLit 0) (role_in w.role (kind.ObjectPat false) 0) (kind_of c)) (sym to)
              (ap (λ z. usual_role_in z kind.ObjectLit 0) free, ap (λ b. cond b role.AssignedProperties role.DeclaredProperties) assigned, subst (AreSound kind.ObjectLit) e was.parts_sound);
          proper = calm (role_in w.role (kind.ObjectPat false) 0) (many sort.ObjectPatProp) (calm_in w.role (kind.ObjectPat false) 0 refl);
        })
        (ap (λ b. may_be (cond b role.Nothing role.Free) kind.Absent) assigned)

    -- the left of an assignment, and an operand
    left : (k : Kind) (cs : List Node) → Below cs → Was target.Left k cs → Tells (left_by k (parts target.Left k cs))
    unfolding target_in may_be takes
    left kind.ArrayLit cs below was = let a = was.agrees in array target.Left cs below was a.0 refl (ap is_assigned a.1) (ap (λ z. may_be z (kind.ArrayPat false)) a.1)
    left kind.ObjectLit cs below was = let a = was.agrees in object target.Left cs below was a.0 refl (ap is_assigned a.1) (ap (λ z. may_be z (kind.ObjectPat false)) a.1)
    left k cs below was = let a = was.agrees in simple_tells target.Left k cs below was a.0 refl (ap raw_role a.1) (ap (λ z. takes z k) a.1)

    operand : (k : Kind) (cs : List Node) → Below cs → Was target.Simple k cs → Tells (roll-Node (parts target.Simple k cs))
    unfolding takes
    operand k cs below was = let a = was.agrees in simple_tells target.Simple k cs below was a.0 refl (ap raw_role a.1) (ap (λ z. takes z k) a.1)

    -- names in patterns

    belongs : (t : Target) (text : List ℕ) (ctxt : ℕ) (optional : Bool) (cs : List Node) → Was t (kind.Ident text ctxt optional) cs → (to : Kind) → is_inert_kind to ≡ false → allows o to ≡ true → (w.arguments.stray && bytes_eq text (codes "arguments")) ≡ false
    unfolding is_stray_in is_stray
    belongs t text ctxt optional cs was to ert allowed = go was.linked
      where
        go : Linked held.strays w.arguments o → (w.arguments.stray && bytes_eq text (codes "arguments")) ≡ false
        go (inl m) = subst (λ b. (b && bytes_eq text (codes "arguments")) ≡ false) m.0 was.called
        go (inr i) = not_true (sym ert ∙ allows_inert o i to allowed)

    bound : (t : Target) (text : List ℕ) (ctxt : ℕ) (optional : Bool) (cs : List Node) → Was t (kind.Ident text ctxt optional) cs → r ≡ role.Free → is_assigned w.role ≡ true → may_be w.role kind.BindingIdent ≡ true
        → Tells (binding (roll-Node (parts t (kind.Ident text ctxt optional) cs)))
    bound t text ctxt optional cs was free assigned may = λ h.
        (let named = roll-Node (parts t (kind.Ident text ctxt optional) cs) in
        let allowed = ((node_has_shape (out-Node named).span kind.BindingIdent (named ∷ absent ∷ []) o).0 h).0 in
        binding_tells span text ctxt optional (kids t (kind.Ident text ctxt optional) cs) (free_name t (kind.Ident text ctxt optional) cs was free) w o assigned may (belongs t text ctxt optional cs was kind.BindingIdent refl allowed) h)

    -- before `in` or `of`
    head : (k : Kind) (cs : List Node) → Below cs → Was target.Head k cs → Tells (part_by k (parts target.Head k cs))
    unfolding target_in may_be takes role_in usual_role_in
    head (kind.Ident text ctxt optional) cs below was = let a = was.agrees in bound target.Head text ctxt optional cs was a.0 (ap is_assigned a.1) (ap (λ z. may_be z kind.BindingIdent) a.1)
    head kind.ArrayLit cs below was = let a = was.agrees in array target.Head cs below was a.0 refl (ap is_assigned a.1) (ap (λ z. may_be z (kind.ArrayPat false)) a.1)
    head kind.ObjectLit cs below was = let a = was.agrees in object target.Head cs below was a.0 refl (ap is_assigned a.1) (ap (λ z. may_be z (kind.ObjectPat false)) a.1)
    head (kind.VarDecl k declare) cs below was =
        let a = was.agrees in
        same_tells target.Head (kind.VarDecl k declare) cs below was (λ h. may_stand w.role (kind.VarDecl k declare) _ refl (ap (λ z. may_be z (kind.VarDecl k declare)) a.1)) (unbound w (parts target.Head (kind.VarDecl k declare) cs) refl)
        (λ h os e. stand (target_in target.Head (kind.VarDecl k declare)) (usual_role_in r (kind.VarDecl k declare)) (role_in w.role (kind.VarDecl k declare)) os cs
        (λ i c. (ap (λ z. usual_role_in z (kind.VarDecl k declare) i) a.0, refl)) (untold w.role (kind.VarDecl k declare) os refl))
    head k cs below was = let a = was.agrees in simple_tells target.Head k cs below was a.0 refl (ap raw_role a.1) (ap (λ z. takes z k) a.1)

    -- in a pattern
    part : (k : Kind) (cs : List Node) → Below cs → Was target.Part k cs → Tells (part_by k (parts target.Part k cs))
    unfolding target_in may_be takes
    part (kind.Ident text ctxt optional) cs below was = let a = was.agrees in bound target.Part text ctxt optional cs was a.0 (ap is_assigned a.1) (ap (λ z. may_be z kind.BindingIdent) a.1)
    part kind.ArrayLit cs below was = let a = was.agrees in array target.Part cs below was a.0 refl (ap is_assigned a.1) (ap (λ z. may_be z (kind.ArrayPat false)) a.1)
    part kind.ObjectLit cs below was = let a = was.agrees in object target.Part cs below was a.0 refl (ap is_assigned a.1) (ap (λ z. may_be z (kind.ObjectPat false)) a.1)
    part k cs below was = let a = was.agrees in simple_tells target.Part k cs below was a.0 refl (ap raw_role a.1) (ap (λ z. takes z k) a.1)

    -- what takes the rest of an object, and the name of a property
    rest : (k : Kind) (cs : List Node) → Below cs → Was target.Rest k cs → Tells (name_by k (parts target.Rest k cs))
    unfolding target_in may_be takes
    rest (kind.Ident text ctxt optional) cs below was = let a = was.agrees in bound target.Rest text ctxt optional cs was a.0 (ap is_assigned a.1) (ap (λ z. may_be z kind.BindingIdent) a.1)
    rest k cs below was = let a = was.agrees in simple_tells target.Rest k cs below was a.0 refl (ap raw_role a.1) (ap (λ z. takes z k) a.1)

    named : (k : Kind) (cs : List Node) → Below cs → Was target.Name k cs → Tells (name_by k (parts target.Name k cs))
    unfolding may_be
    named (kind.Ident text ctxt optional) cs below was = let a = was.agrees in bound target.Name text ctxt optional cs was a.0 (ap is_assigned a.1) (ap (λ z. may_be z kind.BindingIdent) a.1)
    named k cs below was = let a = was.agrees in not_true a.2

    -- elements and values of a pattern

    abbrev IsElement : Kind → Type 0
    IsElement k = (w.role ≡ role.AssignedElement) ⊎ ((w.role ≡ role.AssignedValue) × ((is_spread k || is_absent k) ≡ false))

    either_role : (P : Role → Type 0) (k : Kind) → IsElement k → P role.AssignedElement → P role.AssignedValue → P w.role
    either_role P k (inl e) p q = subst P (sym e) p
    either_role P k (inr e) p q = subst P (sym e.0) q

    spread_element : (cs : List Node) → Below cs → Was target.Element kind.SpreadElement cs → IsElement kind.SpreadElement → Tells (with_type kind.RestPat (parts target.Element kind.SpreadElement cs))
    unfolding target_in may_be role_in usual_role_in
    spread_element cs below was (inl e) =
        let a = was.agrees in
        typed_tells target.Element kind.SpreadElement kind.RestPat (one sort.Pat) (maybe sort.TsTypeAnn) cs below was (may_stand w.role kind.RestPat _ refl (ap (λ z. may_be z kind.RestPat) e)) passes_spread (λ n. refl)
        (λ c ns f. record { agrees = (ap (λ z. usual_role_in z kind.SpreadElement 0) a.0, ap (λ z. role_in z kind.RestPat 0) e); proper = one_pat (in_rest w.role) (rest_single w.role) })
        (ap (λ z. may_be (role_in z kind.RestPat 1) kind.Absent) e)
    spread_element cs below was (inr e) = not_true (sym e.1)

    default_agrees : (b : Bool) (c : Kind) → r ≡ role.Free → in_default w.role ≡ role.Assigned → Agrees (cond b target.Part target.Free) (raw_role (cond b role.Left role.Free)) (cond b (in_default w.role) role.Free) c
    default_agrees true c free e = (refl, e)
    default_agrees false c free e = (refl, refl)

    default_stand : (cs : List Node) → r ≡ role.Free → in_default w.role ≡ role.Assigned → (os : List Shape) → one sort.Pat ∷ one sort.Expr ∷ [] ≡ os
        → AllStand (target_in target.Element (kind.AssignExpr Assign)) (usual_role_in r (kind.AssignExpr Assign)) (role_in w.role kind.AssignPat) os cs
    unfolding target_in role_in usual_role_in
    default_stand cs free e os is =
        subst (λ z. AllStand (target_in target.Element (kind.AssignExpr Assign)) (usual_role_in z (kind.AssignExpr Assign)) (role_in w.role kind.AssignPat) os cs) (sym free)
        (stand _ _ (role_in w.role kind.AssignPat) os cs (λ i c. default_agrees (i == 0) c free e)
        (subst (AllProper (role_in w.role kind.AssignPat)) is (one_pat (in_default w.role) (default_single w.role), (calm role.Free (one sort.Expr) refl, tt))))

    default : (op : AssignOp) (cs : List Node) → Below cs → Was target.Element (kind.AssignExpr op) cs → IsElement (kind.AssignExpr op) → Tells (default_by op (parts target.Element (kind.AssignExpr op) cs))
    unfolding may_be takes
    default Assign cs below was is =
        let a = was.agrees in
        turned_tells target.Element (kind.AssignExpr Assign) kind.AssignPat cs below was (may_stand w.role kind.AssignPat _ refl (either_role (λ z. may_be z kind.AssignPat ≡ true) (kind.AssignExpr Assign) is refl refl)) passes_default
        (λ os e. default_stand cs a.0 (either_role (λ z. in_default z ≡ role.Assigned) (kind.AssignExpr Assign) is refl refl) os e)
    default op cs below was is =
        let a = was.agrees in
        simple_tells target.Element (kind.AssignExpr op) cs below was a.0 refl (either_role (λ z. raw_role z ≡ role.Free) (kind.AssignExpr op) is refl refl) (either_role (λ z. takes z (kind.AssignExpr op) ≡ true) (kind.AssignExpr op) is refl refl)

    none_stand : (ts : ℕ → Target) (rs ws : ℕ → Role) (os : List Shape) (cs : List Node) → [] ≡ os → AllStand ts rs ws os cs
    none_stand ts rs ws os [] e = tt
    none_stand ts rs ws [] (c ∷ cs) e = tt
    none_stand ts rs ws (o ∷ os) (c ∷ cs) e = cc

    missing : (cs : List Node) → Below cs → Was target.Element kind.Absent cs → IsElement kind.Absent → Tells (roll-Node (parts target.Element kind.Absent cs))
    unfolding may_be
    missing cs below was (inl e) = same_tells target.Element kind.Absent cs below was (λ h. may_stand w.role kind.Absent _ refl (ap (λ z. may_be z kind.Absent) e)) (unbound w (parts target.Element kind.Absent cs) refl) (λ h os is. none_stand _ _ _ os cs is)
    missing cs below was (inr e) = not_true (sym e.1)

    element : (k : Kind) (cs : List Node) → Below cs → Was target.Element k cs → Tells (element_by k (parts target.Element k cs))
    unfolding target_in may_be takes
    element kind.SpreadElement cs below was = let a = was.agrees in spread_element cs below was a.1
    element (kind.AssignExpr op) cs below was = let a = was.agrees in default op cs below was a.1
    element (kind.Ident text ctxt optional) cs below was =
        let a = was.agrees in
        bound target.Element text ctxt optional cs was a.0 (either_role (λ z. is_assigned z ≡ true) (kind.Ident text ctxt optional) a.1 refl refl) (either_role (λ z. may_be z kind.BindingIdent ≡ true) (kind.Ident text ctxt optional) a.1 refl refl)
    element kind.ArrayLit cs below was =
        let a = was.agrees in array target.Element cs below was a.0 refl (either_role (λ z. is_assigned z ≡ true) kind.ArrayLit a.1 refl refl) (either_role (λ z. may_be z (kind.ArrayPat false) ≡ true) kind.ArrayLit a.1 refl refl)
    element kind.ObjectLit cs below was =
        let a = was.agrees in object target.Element cs below was a.0 refl (either_role (λ z. is_assigned z ≡ true) kind.ObjectLit a.1 refl refl) (either_role (λ z. may_be z (kind.ObjectPat false) ≡ true) kind.ObjectLit a.1 refl refl)
    element kind.Absent cs below was = let a = was.agrees in missing cs below was a.1
    element k cs below was =
        let a = was.agrees in simple_tells target.Element k cs below was a.0 refl (either_role (λ z. raw_role z ≡ role.Free) k a.1 refl refl) (either_role (λ z. takes z k ≡ not (is_name k)) k a.1 refl refl)

    -- properties of a pattern

    value_stand : (cs : List Node) → r ≡ role.Free → w.role ≡ role.AssignedProperty → AreSound kind.KeyValueProp cs → (os : List Shape) → one sort.PropName ∷ one sort.Pat ∷ [] ≡ os
        → AllStand (target_in target.Property kind.KeyValueProp) (usual_role_in r kind.KeyValueProp) (role_in w.role kind.KeyValuePatProp) os cs
    unfolding target_in role_in usual_role_in
    value_stand cs free is are os e = subst (λ z. AllStand (target_in target.Property kind.KeyValueProp) (usual_role_in r kind.KeyValueProp) (role_in w.role kind.KeyValuePatProp) z cs) e (go cs are)
      where
        key : (c : Node) → Stands target.Free (usual_role_in r kind.KeyValueProp 0) role.Free (kind_of c) (one sort.PropName)
        key c = record { agrees = (ap (λ z. usual_role_in z kind.KeyValueProp 0) free, refl); proper = calm role.Free (one sort.PropName) refl }

        go : (cs : List Node) → AreSound kind.KeyValueProp cs → AllStand (target_in target.Property kind.KeyValueProp) (usual_role_in r kind.KeyValueProp) (role_in w.role kind.KeyValuePatProp) (one sort.PropName ∷ one sort.Pat ∷ []) cs
        go [] are = tt
        go (c ∷ []) are = (key c, tt)
        go (c ∷ v ∷ []) are =
            (key c, (record { agrees = (ap (λ z. usual_role_in z kind.KeyValueProp 1) free, inr (ap (λ z. role_in z kind.KeyValuePatProp 1) is, are)); proper = subst (λ z. Proper z (one sort.Pat)) (sym (ap (λ z. role_in z kind.KeyValuePatProp 1) is)) (calm role.AssignedValue (one sort.Pat) refl) }, tt))
        go (c ∷ v ∷ x ∷ xs) are =
            (key c, (record { agrees = (ap (λ z. usual_role_in z kind.KeyValueProp 1) free, inr (ap (λ z. role_in z kind.KeyValuePatProp 1) is, are)); proper = subst (λ z. Proper z (one sort.Pat)) (sym (ap (λ z. role_in z kind.KeyValuePatProp 1) is)) (calm role.AssignedValue (one sort.Pat) refl) }, tt))

    short_stand : (cs : List Node) → r ≡ role.Free → w.role ≡ role.AssignedProperty → AreSound kind.AssignProp cs → (os : List Shape) → one sort.BindingIdent ∷ maybe sort.Expr ∷ [] ≡ os
        → AllStand (target_in target.Property kind.AssignProp) (usual_role_in r kind.AssignProp) (role_in w.role kind.AssignPatProp) os cs
    unfolding target_in role_in usual_role_in
    short_stand cs free is are os e = subst (λ z. AllStand (target_in target.Property kind.AssignProp) (usual_role_in r kind.AssignProp) (role_in w.role kind.AssignPatProp) z cs) e (go cs are)
      where
        key : (c : Node) → is_name (kind_of c) ≡ true → Stands target.Name (usual_role_in r kind.AssignProp 0) (role_in w.role kind.AssignPatProp 0) (kind_of c) (one sort.BindingIdent)
        key c named = record {
          agrees = (ap (λ z. usual_role_in z kind.AssignProp 0) free, ap (λ z. role_in z kind.AssignPatProp 0) is, named);
          proper = subst (λ z. Proper z (one sort.BindingIdent)) (sym (ap (λ z. role_in z kind.AssignPatProp 0) is)) (calm role.AssignedName (one sort.BindingIdent) refl);
        }

        value : (c : Node) → Stands target.Free (usual_role_in r kind.AssignProp 1) role.Free (kind_of c) (maybe sort.Expr)
        value c = record { agrees = (ap (λ z. usual_role_in z kind.AssignProp 1) free, refl); proper = calm role.Free (maybe sort.Expr) refl }

        go : (cs : List Node) → AreSound kind.AssignProp cs → AllStand (target_in target.Property kind.AssignProp) (usual_role_in r kind.AssignProp) (role_in w.role kind.AssignPatProp) (one sort.BindingIdent ∷ maybe sort.Expr ∷ []) cs
        go [] are = tt
        go (c ∷ []) are = (key c are, tt)
        go (c ∷ v ∷ []) are = (key c are, (value v, tt))
        go (c ∷ v ∷ x ∷ xs) are = (key c are, (value v, tt))

    property : (k : Kind) (cs : List Node) → Below cs → Was target.Property k cs → Tells (property_by k (parts target.Property k cs))
    unfolding target_in may_be role_in usual_role_in
    property kind.KeyValueProp cs below was =
        let a = was.agrees in
        turned_tells target.Property kind.KeyValueProp kind.KeyValuePatProp cs below was (may_stand w.role kind.KeyValuePatProp _ refl (ap (λ z. may_be z kind.KeyValuePatProp) a.1)) passes_value (λ os e. value_stand cs a.0 a.1 was.parts_sound os e)
    property kind.AssignProp cs below was =
        let a = was.agrees in
        turned_tells target.Property kind.AssignProp kind.AssignPatProp cs below was (may_stand w.role kind.AssignPatProp _ refl (ap (λ z. may_be z kind.AssignPatProp) a.1)) passes_short (λ os e. short_stand cs a.0 a.1 was.parts_sound os e)
    property kind.SpreadElement cs below was =
        let a = was.agrees in
        typed_tells target.Property kind.SpreadElement kind.RestPat (one sort.Pat) (maybe sort.TsTypeAnn) cs below was (may_stand w.role kind.RestPat _ refl (ap (λ z. may_be z kind.RestPat) a.1)) passes_spread (λ n. refl)
        (λ c ns f. record { agrees = (ap (λ z. usual_role_in z kind.SpreadElement 0) a.0, ap (λ z. role_in z kind.RestPat 0) a.1); proper = one_pat (in_rest w.role) (rest_single w.role) })
        (ap (λ z. may_be (role_in z kind.RestPat 1) kind.Absent) a.1)
    property (kind.Ident text ctxt optional) cs below was = λ h.
        (let a = was.agrees in
        let named = roll-Node (parts target.Property (kind.Ident text ctxt optional) cs) in
        let allowed = ((node_has_shape (out-Node named).span kind.AssignPatProp (binding named ∷ absent ∷ []) o).0 h).0 in
        shorthand_tells span text ctxt optional (kids target.Property (kind.Ident text ctxt optional) cs) (free_name target.Property (kind.Ident text ctxt optional) cs was a.0) w o a.1
        (belongs target.Property text ctxt optional cs was kind.AssignPatProp refl allowed) h)
    property k cs below was =
        let a = was.agrees in
        let simple = no_target target.Property k cs was refl in
        same_tells target.Property k cs below was (λ h. may_stand w.role k _ (name_right target.Property k cs was (a.0 ∙ sym (ap raw_role a.1))) (ap (λ z. may_be z k) a.1)) (unbound w (parts target.Property k cs) (steady_unbound k (steady k cs simple)))
        (λ h os e. subst (λ z. AllStand (target_in target.Property k) (usual_role_in z k) (role_in w.role k) os cs) (sym a.0) (steady_stand target.Property w.role k (steady k cs simple) os cs))

    -- the lists of both

    elements : (k : Kind) (cs : List Node) → Below cs → Was target.Elements k cs → Tells (roll-Node (parts target.Elements k cs))
    unfolding target_in may_be role_in usual_role_in
    elements kind.List cs below was =
        let a = was.agrees in
        same_tells target.Elements kind.List cs below was (λ h. may_stand w.role kind.List _ refl (ap (λ z. may_be z kind.List) a.1)) (unbound w (parts target.Elements kind.List cs) refl)
        (λ h os e. each_stands (target_in target.Elements kind.List) (usual_role_in r kind.List) (role_in w.role kind.List) os cs (λ i c. (ap (λ z. usual_role_in z kind.List i) a.0, inl (ap (λ z. role_in z kind.List i) a.1)))
        (λ i p. subst (λ z. Proper z p) (sym (ap (λ z. role_in z kind.List i) a.1)) (calm role.AssignedElement p refl)))
    elements k cs below was = let a = was.agrees in not_true a.2

    properties : (k : Kind) (cs : List Node) → Below cs → Was target.Properties k cs → Tells (roll-Node (parts target.Properties k cs))
    unfolding target_in may_be role_in usual_role_in
    properties kind.List cs below was =
        let a = was.agrees in
        same_tells target.Properties kind.List cs below was (λ h. may_stand w.role kind.List _ refl (ap (λ z. may_be z kind.List) a.1)) (unbound w (parts target.Properties kind.List cs) refl)
        (λ h os e. each_stands (target_in target.Properties kind.List) (usual_role_in r kind.List) (role_in w.role kind.List) os cs (λ i c. (ap (λ z. usual_role_in z kind.List i) a.0, ap (λ z. role_in z kind.List i) a.1))
        (λ i p. subst (λ z. Proper z p) (sym (ap (λ z. role_in z kind.List i) a.1)) (calm role.AssignedProperty p refl)))
    properties k cs below was = let a = was.agrees in not_true a.2

    -- where nothing is assigned to

    even : (k : Kind) (cs : List Node) → Was target.Free k cs → HasShape o (roll-Node (parts target.Free k cs)) → is_odd w.role k ≡ false
    even k cs was h =
        let y = parts target.Free k cs in
        let p = was.proper in
        p.0 k (subst (λ z. allows o z ≡ true) (kind_made y) (shape_allows (roll-Node y) o h))

    no_short : (k : Kind) (cs : List Node) → Was target.Free k cs → is_short_default k ≡ false
    no_short k cs was = and_true (is_short_default k) (subst (λ z. (is_short_default z && true) ≡ false) (kind_made (raw k cs)) (kept_targets (at target.Free) (node_of span k cs) was.fine).1)
      where
        and_true : (b : Bool) → (b && true) ≡ false → b ≡ false
        and_true true h = h
        and_true false h = refl

    free_out : (k : Kind) (cs : List Node) → Was target.Free k cs → HasShape o (roll-Node (parts target.Free k cs)) → out_by w.role k (roll-Node (parts target.Free k cs)) ≡ false
    free_out k cs was h =
        let a = was.agrees in
        let may : may_be_raw r k ≡ true = unnot (may_be_raw r k) (neither (is_wrong_name r k) (not (may_be_raw r k)) was.placed).1 in
        may_stand w.role k (roll-Node (parts target.Free k cs)) (name_right target.Free k cs was a.0) (stands w.role k a.1 (subst (λ z. may_be_raw z k ≡ true) a.0 may) (even k cs was h) (no_short k cs was))
      where
        unnot : (b : Bool) → not b ≡ false → b ≡ true
        unnot true e = refl
        unnot false e = not_true (sym e)

    free_stand : (k : Kind) (cs : List Node) → Was target.Free k cs → is_getter k ≡ false → HasShape o (roll-Node (parts target.Free k cs)) → (os : List Shape) → child_shapes k o (length (kids target.Free k cs)) ≡ os
        → AllStand (target_in target.Free k) (usual_role_in r k) (role_in w.role k) os cs
    free_stand k cs was getter h os e =
        let a = was.agrees in
        subst (λ z. AllStand (target_in target.Free k) (usual_role_in z k) (role_in w.role k) os cs) (sym a.0)
        (stand (target_in target.Free k) (usual_role_in (raw_role w.role) k) (role_in w.role k) os cs (λ i c. free_agrees w.role a.1 k getter (no_list_parameter w.role k (even k cs was h)) i c)
        (subst (AllProper (role_in w.role k)) e (proper_in w.role a.1 k o (length (kids target.Free k cs)) was.proper)))

    getter_stand : (cs : List Node) (os : List Shape) → one sort.PropName ∷ maybe sort.TsTypeAnn ∷ maybe sort.BlockStmt ∷ [] ≡ os → AllStand (target_in target.Free kind.GetterProp) (usual_role_in r kind.GetterProp) (role_in w.role kind.GetterProp) os cs
    unfolding target_in role_in usual_role_in
    getter_stand cs os e = subst (λ z. AllStand (target_in target.Free kind.GetterProp) (usual_role_in r kind.GetterProp) (role_in w.role kind.GetterProp) z cs) e (go cs)
      where
        free : (c : Node) (p : Shape) → Stands target.Free role.Free role.Free (kind_of c) p
        free c p = record { agrees = (refl, refl); proper = calm role.Free p refl }

        go : (cs : List Node) → AllStand (target_in target.Free kind.GetterProp) (usual_role_in r kind.GetterProp) (role_in w.role kind.GetterProp) (one sort.PropName ∷ maybe sort.TsTypeAnn ∷ maybe sort.BlockStmt ∷ []) cs
        go [] = tt
        go (a ∷ []) = (free a (one sort.PropName), tt)
        go (a ∷ b ∷ []) = (free a (one sort.PropName), (free b (maybe sort.TsTypeAnn), tt))
        go (a ∷ b ∷ c ∷ []) = (free a (one sort.PropName), (free b (maybe sort.TsTypeAnn), (free c (maybe sort.BlockStmt), tt)))
        go (a ∷ b ∷ c ∷ d ∷ ds) = (free a (one sort.PropName), (free b (maybe sort.TsTypeAnn), (free c (maybe sort.BlockStmt), tt)))

    free_tells : (k : Kind) (cs : List Node) → Below cs → Was target.Free k cs → Tells (roll-Node (parts target.Free k cs))
    free_tells kind.GetterProp cs below was =
        let a = was.agrees in same_tells target.Free kind.GetterProp cs below was (free_out kind.GetterProp cs was) (declared_fine w (parts target.Free kind.GetterProp cs) (unassigned w.role a.1)) (λ h os e. getter_stand cs os e)
    free_tells k cs below was = let a = was.agrees in same_tells target.Free k cs below was (free_out k cs was) (declared_fine w (parts target.Free k cs) (unassigned w.role a.1)) (free_stand k cs was refl)

    finished_tells : (t : Target) (k : Kind) (cs : List Node) → Below cs → Was t k cs → Tells (finished_by t (parts t k cs))
    finished_tells target.Left k cs below was = left k cs below was
    finished_tells target.Head k cs below was = head k cs below was
    finished_tells target.Part k cs below was = part k cs below was
    finished_tells target.Rest k cs below was = rest k cs below was
    finished_tells target.Name k cs below was = named k cs below was
    finished_tells target.Element k cs below was = element k cs below was
    finished_tells target.Property k cs below was = property k cs below was
    finished_tells target.Free k cs below was = free_tells k cs below was
    finished_tells target.Simple k cs below was = operand k cs below was
    finished_tells target.Elements k cs below was = elements k cs below was
    finished_tells target.Properties k cs below was = properties k cs below was

  abbrev InRoles : Node → Type 0
  InRoles n = (was : Around) (r : Role) (held : Held) (w : Where) (o : Shape) → Linked held.strays w.arguments o → Stands was.target r w.role (kind_of n) o → HasShape o (finished_at n was.target) → Sound n → first_misplaced n was ≡ None → raw_walk n r ≡ None → first_held_stray n held ≡ None → walk (finished_at n was.target) w ≡ None

  all_in_roles : (es : List ((n : Node) × InRoles n)) → Below (map (λ e. e.0) es)
  all_in_roles [] was rs hs where_of os links stand h all none roles helds = refl
  all_in_roles (e ∷ es) was rs hs where_of [] links stand h all none roles helds = absurd h
  all_in_roles (e ∷ es) was rs hs where_of (o ∷ os) links stand h all none roles helds =
      let ns = map (λ e. e.0) es in
      let v = neither_least (first_misplaced e.0 (was 0)) (least_from Around was 1 (map first_misplaced ns)) none in
      let u = neither_least (raw_walk e.0 (rs 0)) (least_from Role rs 1 (map raw_walk ns)) roles in
      let c = neither_least (first_held_stray e.0 (hs 0)) (least_from Held hs 1 (map first_held_stray ns)) helds in
      let now = each_in (λ i. (was (suc i)).target) (map finished_at ns) in
      both_none (walk (finished_at e.0 (was 0).target) (where_of 0)) (least_from Where where_of 1 (map walk now))
      (e.1 (was 0) (rs 0) (hs 0) (where_of 0) o links.0 stand.0 h.0 all.0 v.0 u.0 c.0)
      (shifted Where where_of 0 (map walk now)
      ∙ all_in_roles es (λ i. was (suc i)) (λ i. rs (suc i)) (λ i. hs (suc i)) (λ i. where_of (suc i)) os links.1 stand.1 h.1 all.1 (sym (shifted Around was 0 (map first_misplaced ns)) ∙ v.1) (sym (shifted Role rs 0 (map raw_walk ns)) ∙ u.1) (sym (shifted Held hs 0 (map first_held_stray ns)) ∙ c.1))

  node_in_roles : (x : Node-F Node) → Below x.children → InRoles (roll-Node x)
  node_in_roles x below was r held w o links stands shape sound_node none roles helds =
      let b = broken_parts x was none in
      let p = raw_parts x r roles in
      let s = sound x sound_node in
      let c = none_parts x held helds in
      let at_kind : Stands was.target r w.role x.kind o = subst (λ k. Stands was.target r w.role k o) (kind_made x) stands in
      subst (λ (m : Node). walk m w ≡ None) (sym (finished_parts x was.target))
      (finished_tells x.span was.standing was.is_last r held w o was.target x.kind x.children below
      (record { fine = b.0; agrees = at_kind.agrees; proper = at_kind.proper; placed = p.0; inside = b.1; roles = usual_roles was x r b.0 p.1; called = c.0; linked = links; helds = c.1; parts_sound = s.1; all_sound = s.0 })
      (subst (HasShape o) (finished_parts x was.target) shape))

  pub in_roles : (n : Node) → InRoles n
  in_roles = ind-Node InRoles (λ x y is. node_in_roles x (subst (λ (z : Node-F Node). Below z.children) is (all_in_roles y.children)))
