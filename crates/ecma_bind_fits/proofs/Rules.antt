-- What the rules ask of a node, and where its children stand, is the same of a tree with bound names.
use Rattle.std.proofs.Common.{◌≡◌, ◌∙◌, ℕ, zero, suc, Bool, true, false, not, ◌&&◌, ◌||◌, codes, List, [], ◌∷◌, map, length, Option, Some, None, bytes_eq, refl, sym, ap, ap₂, slice_get}
use Rattle.std.specs.List.{list_any}
use Rattle.std.proofs.lemmas.Slice.Eq.{bytes_eq-Decides}
use Rattle.ecma_lex.specs.Keys.{is_reserved, reserved_words}
use Rattle.ecma_kind.specs.Sorts.{belongs, is_type_wrapper}
use Rattle.ecma_kind.specs.declared.kind.Kind.{Kind}
use Rattle.ecma_kind.specs.declared.kind.Kind.TheVariants as kind
use Rattle.ecma_kind.specs.declared.operators.MethodKind.{MethodKind}
use Rattle.ecma_kind.specs.declared.operators.MethodKind.TheVariants.{Method, Getter, Setter}
use Rattle.ecma_kind.specs.declared.shapes.Shape.{Shape}
use Rattle.ecma_kind.specs.declared.shapes.Sort.TheVariants as sort
use Rattle.ecma_tree.specs.declared.node.Node.{Node, Node-F, fold_out-Node}
use Rattle.ecma_tree.specs.Sorted.{allows, child_shapes, one}
use Rattle.ecma_rules.specs.declared.standing.Around.{Around}
use Rattle.ecma_rules.specs.Children.{child_holds, child_is, children_of as items_of, holds_of, is_named, items_at, kind_of, of_kind}
use Rattle.ecma_rules.specs.Finishing.{binding}
use Rattle.ecma_rules.specs.Lists.{is_rest_pattern}
use Rattle.ecma_rules.specs.Members.{behind_first, fits_kind, is_binding_name, is_constructor_key, is_declaring, is_empty_list, is_method, is_named_pattern, is_one_parameter, is_plain_parameter, is_property_kind, is_special_by, is_special_function, is_this_by, is_this_parameter, is_this_pattern, misfits_by, misplaces_this_by, takes_not_one, takes_one, has_body}
use Rattle.ecma_rules.specs.Rules.{fails_member}
use Rattle.ecma_rules.specs.Targets.{first_is}
use Rattle.ecma_fits.specs.declared.role.Role.{Role}
use Rattle.ecma_fits.specs.declared.role.Role.TheVariants as role
use Rattle.ecma_fits.specs.declared.unfit.Where.{Where}
use Rattle.ecma_fits.specs.Fitting.{unfit_here, where_in}
use Rattle.ecma_fits.specs.Roles.{is_name, is_wrong_name, role_in}
use Rattle.ecma_strip_fits.proofs.RulesKept.{in_role}
use Rattle.ecma_strip_fits.proofs.Tests.{neither}
use Rattle.ecma_strip_fits.proofs.Walk.{shape_parts}
use Rattle.ecma_bind.specs.Binding.{binds, bound_at, is_name_under_types, is_typed_name, names_step, under_types}
use Rattle.ecma_bind_fits.proofs.Alike.{Same, any_where, bound_parts, child_same, has_same, holds_where, items_same, quiet_usual, roles_at, typed_parts, usual_children, usual_kind}
use Rattle.ecma_bind_fits.proofs.Bound.{bound_each, children_of, parts_none, typed_is}
use Rattle.ecma_bind_fits.proofs.Names.{Good, Place, front, good_child, inside, name_good, under_name}

pub some_same : {X : Type 0} {x y : X} → Some x ≡ Some y → x ≡ y
some_same e = cc

-- a name that fits is no reserved word
pub good_word : (u : Node) (q : Place) → Good u q → q.where_at.role ≡ role.Free → is_wrong_name role.Free (kind_of u) ≡ false
good_word u q g r =
    let here = (parts_none Where unfit_here where_in u q.where_at g.fit).0 in
    let out = in_role q.where_at u here in
    ap (λ z. is_wrong_name z (kind_of u)) (sym r) ∙ (neither (is_wrong_name q.where_at.role (kind_of u)) _ out).0

-- ---- the parameter `this`

this_reserved : is_reserved (codes "this") ≡ true
unfolding is_reserved reserved_words
this_reserved = refl

not_this : (k : Kind) → is_wrong_name role.Free k ≡ false → is_named (codes "this") k ≡ false
not_this (kind.Ident text ctxt optional) h = by (bytes_eq text (codes "this")) refl
  where
    by : (b : Bool) → bytes_eq text (codes "this") ≡ b → b ≡ false
    by true e =
        let is : text ≡ codes "this" = (bytes_eq-Decides text (codes "this")).0 e in
        let no : true ≡ false = sym this_reserved ∙ (ap is_reserved (sym is) ∙ h) in
        absurd (cc)
    by false e = refl
not_this _ h = refl

no_this : (k : Kind) (n : Node) (b : Bool) → (is_name k || (is_type_wrapper k && b)) ≡ true → is_this_by k n ≡ false
no_this kind.BindingIdent n b h = cc
no_this _ n b h = refl

names_no_this : (n : Node) → is_name_under_types n ≡ true → is_this_pattern n ≡ false
names_no_this n h = no_this (kind_of n) n (first_is (map is_name_under_types (children_of n))) (sym (fold_out-Node Bool names_step n) ∙ h)

name_no_this : (n : Node) → is_name (kind_of n) ≡ true → is_this_pattern n ≡ false
name_no_this n h = no_this (kind_of n) n false (ap (λ b. b || (is_type_wrapper (kind_of n) && false)) h)

abbrev GoodSame : (Node → Bool) → Type 0
GoodSame test = (n : Node) (p : Place) → Good n p → test (bound_at n p.where_at.role) ≡ test n

this_by_same : (k : Kind) (n : Node) → kind_of n ≡ k → (r : Role) → is_typed_name r n ≡ false → is_this_by k (bound_at n r) ≡ is_this_by k n
this_by_same kind.BindingIdent n e r u = child_same (is_named (codes "this")) (refl, refl, refl, refl, refl, refl) 0 n r u
this_by_same _ n e r u = refl

this_same : GoodSame is_this_pattern
this_same n p g = by (is_typed_name p.where_at.role n) refl
  where
    by : (t : Bool) → is_typed_name p.where_at.role n ≡ t → is_this_pattern (bound_at n p.where_at.role) ≡ is_this_pattern n
    by true e =
        let t = typed_parts n p.where_at.role e in
        let w = name_good n p g t.1 t.2 in
        ap is_this_pattern (typed_is n p.where_at.role e)
        ∙ ap (λ k. is_this_by k (binding (under_types n))) (ap (λ (z : Node-F Node). z.kind) (bound_parts (under_types n)))
        ∙ ap (λ (z : Node-F Node). of_kind (is_named (codes "this")) (slice_get z.children 0)) (bound_parts (under_types n))
        ∙ not_this (kind_of (under_types n)) (good_word (under_types n) w.0 w.1 w.2)
        ∙ sym (names_no_this n t.2)
    by false e = ap (λ k. is_this_by k (bound_at n p.where_at.role)) (usual_kind n p.where_at.role e) ∙ this_by_same (kind_of n) n refl p.where_at.role e

this_parameter_same : GoodSame is_this_parameter
this_parameter_same n p g = by (is_typed_name p.where_at.role n) refl
  where
    by : (t : Bool) → is_typed_name p.where_at.role n ≡ t → is_this_parameter (bound_at n p.where_at.role) ≡ is_this_parameter n
    by true e =
        let t = typed_parts n p.where_at.role e in
        let f = front n t.1 t.2 in
        ap is_this_parameter (typed_is n p.where_at.role e)
        ∙ ap (λ (z : Node-F Node). holds_of is_this_pattern (slice_get z.children 0)) (bound_parts (under_types n))
        ∙ name_no_this (under_types n) (under_name n t.2)
        ∙ sym (ap (holds_of is_this_pattern) f.1 ∙ names_no_this f.0 f.2)
    by false e = holds_where is_this_pattern n p.where_at.role e 0 (λ c at. (let q = good_child n p g 0 c at in this_same c (inside p n 0 q.0) q.2))

-- ---- what takes the rest

no_rest : (k : Kind) (b : Bool) → (is_name k || (is_type_wrapper k && b)) ≡ true → is_rest_pattern k ≡ false
no_rest kind.RestPat b h = cc
no_rest _ b h = refl

names_no_rest : (n : Node) → is_name_under_types n ≡ true → is_rest_pattern (kind_of n) ≡ false
names_no_rest n h = no_rest (kind_of n) (first_is (map is_name_under_types (children_of n))) (sym (fold_out-Node Bool names_step n) ∙ h)

rest_parameter_same : Same (λ n. child_is is_rest_pattern n 0)
rest_parameter_same n r = by (is_typed_name r n) refl
  where
    by : (t : Bool) → is_typed_name r n ≡ t → child_is is_rest_pattern (bound_at n r) 0 ≡ child_is is_rest_pattern n 0
    by true e =
        let t = typed_parts n r e in
        let f = front n t.1 t.2 in
        ap (λ m. child_is is_rest_pattern m 0) (typed_is n r e)
        ∙ ap (λ (z : Node-F Node). of_kind is_rest_pattern (slice_get z.children 0)) (bound_parts (under_types n))
        ∙ no_rest (kind_of (under_types n)) false (ap (λ b. b || (is_type_wrapper (kind_of (under_types n)) && false)) (under_name n t.2))
        ∙ sym (ap (of_kind is_rest_pattern) f.1 ∙ names_no_rest f.0 f.2)
    by false e = child_same is_rest_pattern (refl, refl, refl, refl, refl, refl) 0 n r e

takes_one_same : GoodSame takes_one
takes_one_same n p g = ap₂ (λ x y. not x && not y) (this_parameter_same n p g) (rest_parameter_same n p.where_at.role)

-- ---- items

good_items : (n : Node) (p : Place) → Good n p → (i j : ℕ) (d : Node) → slice_get (items_at n i) j ≡ Some d
    → (q : Place) × Good d q × (q.where_at.role ≡ roles_at (slice_get (children_of n) i) (role_in p.where_at.role (kind_of n) i) j)
good_items n p g i j d = by (slice_get (children_of n) i) refl
  where
    by : (o : Option Node) → slice_get (children_of n) i ≡ o → slice_get (items_of o) j ≡ Some d → (q : Place) × Good d q × (q.where_at.role ≡ roles_at o (role_in p.where_at.role (kind_of n) i) j)
    by None e at = cc
    by (Some list) e at =
        let a = good_child n p g i list e in
        let b = good_child list (inside p n i a.0) a.2 j d at in
        (inside (inside p n i a.0) list j b.0, b.2, refl)

-- a test that is the same of each good node is the same of the items
item_same : (test : Node → Bool) → GoodSame test → (n : Node) (p : Place) → Good n p → (i j : ℕ) (d : Node) → slice_get (items_at n i) j ≡ Some d
    → test (bound_at d (roles_at (slice_get (children_of n) i) (role_in p.where_at.role (kind_of n) i) j)) ≡ test d
item_same test s n p g i j d at = let t = good_items n p g i j d at in ap (λ z. test (bound_at d z)) (sym t.2) ∙ s d t.0 t.1

-- ---- members

abbrev SameOfEach : (Node → Bool) → List Node → (ℕ → Role) → Type 0
SameOfEach test ns roles = (i : ℕ) (c : Node) → slice_get ns i ≡ Some c → test (bound_at c (roles i)) ≡ test c

parameter_same : (ns : List Node) (roles : ℕ → Role) → SameOfEach is_this_parameter ns roles → SameOfEach takes_one ns roles → is_one_parameter (bound_each roles ns) ≡ is_one_parameter ns
parameter_same [] roles s o = refl
parameter_same (n ∷ []) roles s o = o 0 n refl
parameter_same (n ∷ m ∷ []) roles s o = ap₂ (λ x y. x && y) (s 0 n refl) (o 1 m refl)
parameter_same (n ∷ m ∷ l ∷ ns) roles s o = refl

none_same : (ns : List Node) (roles : ℕ → Role) → is_empty_list (bound_each roles ns) ≡ is_empty_list ns
none_same [] roles = refl
none_same (n ∷ ns) roles = refl

function_free : (k : Kind) → belongs sort.Function k ≡ true → (r : Role) → binds (role_in r k 0) ≡ false
unfolding role_in
function_free (kind.Function is_generator is_async) b r = refl
function_free _ b r = cc

accessor_same : (k : MethodKind) (n : Node) (p : Place) → Good n p → is_typed_name p.where_at.role n ≡ false → binds (role_in p.where_at.role (kind_of n) 0) ≡ false → fits_kind k (bound_at n p.where_at.role) ≡ fits_kind k n
accessor_same Method n p g u q = refl
accessor_same Getter n p g u q = ap is_empty_list (items_same n p.where_at.role u 0 q) ∙ none_same (items_at n 0) (roles_at (slice_get (children_of n) 0) (role_in p.where_at.role (kind_of n) 0))
accessor_same Setter n p g u q =
    ap is_one_parameter (items_same n p.where_at.role u 0 q)
    ∙ parameter_same (items_at n 0) (roles_at (slice_get (children_of n) 0) (role_in p.where_at.role (kind_of n) 0)) (λ j d at. item_same is_this_parameter this_parameter_same n p g 0 j d at)
    (λ j d at. item_same takes_one takes_one_same n p g 0 j d at)

-- the function of a method
method_same : (k : MethodKind) (n : Node) (p : Place) → Good n p → is_typed_name p.where_at.role n ≡ false → role_in p.where_at.role (kind_of n) 1 ≡ role.Free
    → slice_get (child_shapes (kind_of n) p.shape (length (children_of n))) 1 ≡ Some (one sort.Function) → child_holds (fits_kind k) (bound_at n p.where_at.role) 1 ≡ child_holds (fits_kind k) n 1
method_same k n p g u free shape = holds_where (fits_kind k) n p.where_at.role u 1 (λ c at. by c at (good_child n p g 1 c at))
  where
    by : (c : Node) → slice_get (children_of n) 1 ≡ Some c → (o : Shape) × (slice_get (child_shapes (kind_of n) p.shape (length (children_of n))) 1 ≡ Some o) × Good c (inside p n 1 o)
        → fits_kind k (bound_at c (role_in p.where_at.role (kind_of n) 1)) ≡ fits_kind k c
    by c at q =
        let is : q.0 ≡ one sort.Function = some_same (sym q.1 ∙ shape) in
        let allowed : belongs sort.Function (kind_of c) ≡ true = ap (λ o. allows o (kind_of c)) (sym is) ∙ (shape_parts c q.0 q.2.shaped).0 in
        accessor_same k c (inside p n 1 q.0) q.2 (quiet_usual c (role_in p.where_at.role (kind_of n) 1) (ap binds free)) (function_free (kind_of c) allowed (role_in p.where_at.role (kind_of n) 1))

body_same : (n : Node) (p : Place) → Good n p → is_typed_name p.where_at.role n ≡ false → role_in p.where_at.role (kind_of n) 1 ≡ role.Free
    → child_holds has_body (bound_at n p.where_at.role) 1 ≡ child_holds has_body n 1
body_same n p g u free =
    holds_where has_body n p.where_at.role u 1 (λ c at. has_same 1 c (role_in p.where_at.role (kind_of n) 1) (quiet_usual c (role_in p.where_at.role (kind_of n) 1) (ap binds free)))

misfits_same : (k : Kind) (n : Node) (p : Place) → Good n p → kind_of n ≡ k → is_typed_name p.where_at.role n ≡ false → misfits_by k (bound_at n p.where_at.role) ≡ misfits_by k n
unfolding misfits_by role_in
misfits_same kind.AssignPat n p g e u = child_same is_rest_pattern (refl, refl, refl, refl, refl, refl) 0 n p.where_at.role u
misfits_same kind.GetterProp n p g e u = ap₂ (λ x y. x || not y) (has_same 3 n p.where_at.role u) (has_same 2 n p.where_at.role u)
misfits_same kind.SetterProp n p g e u = ap₂ (λ x y. x || not y) (child_same takes_not_one (refl, refl, refl, refl, refl, refl) 2 n p.where_at.role u) (has_same 3 n p.where_at.role u)
misfits_same kind.MethodProp n p g e u =
    ap not (body_same n p g u (ap (λ z. role_in p.where_at.role z 1) e))
misfits_same (kind.ClassMethod k modifiers) n p g e u =
    ap not (method_same k n p g u (ap (λ z. role_in p.where_at.role z 1) e) (ap (λ z. slice_get (child_shapes z p.shape (length (children_of n))) 1) e))
misfits_same (kind.PrivateMethod k modifiers) n p g e u =
    ap not (method_same k n p g u (ap (λ z. role_in p.where_at.role z 1) e) (ap (λ z. slice_get (child_shapes z p.shape (length (children_of n))) 1) e))
misfits_same _ n p g e u = refl

special_same : (k : Kind) (n : Node) (r : Role) → is_typed_name r n ≡ false → is_special_by k (bound_at n r) ≡ is_special_by k n
special_same (kind.ClassMethod k modifiers) n r u =
    ap₂ (λ x y. not modifiers.is_static && (x && (not (is_method k) || y))) (child_same is_constructor_key (refl, refl, refl, refl, refl, refl) 0 n r u)
    (child_same is_special_function (refl, refl, refl, refl, refl, refl) 1 n r u)
special_same _ n r u = refl

behind_same : (ns : List Node) (roles : ℕ → Role) → behind_first (bound_each roles ns) ≡ bound_each (λ i. roles (suc i)) (behind_first ns)
behind_same [] roles = refl
behind_same (n ∷ ns) roles = refl

behind_at : (ns : List Node) (i : ℕ) (c : Node) → slice_get (behind_first ns) i ≡ Some c → slice_get ns (suc i) ≡ Some c
behind_at [] i c at = at
behind_at (n ∷ ns) i c at = at

misplaced_same : (k : Kind) (n : Node) (p : Place) → Good n p → kind_of n ≡ k → is_typed_name p.where_at.role n ≡ false → misplaces_this_by k (bound_at n p.where_at.role) ≡ misplaces_this_by k n
unfolding misplaces_this_by role_in
misplaced_same (kind.Function is_generator is_async) n p g e u =
    let roles = roles_at (slice_get (children_of n) 0) (role_in p.where_at.role (kind_of n) 0) in
    ap (λ (z : List Node). list_any is_this_parameter (behind_first z)) (items_same n p.where_at.role u 0 (ap (λ z. binds (role_in p.where_at.role z 0)) e))
    ∙ ap (list_any is_this_parameter) (behind_same (items_at n 0) roles)
    ∙ any_where is_this_parameter (behind_first (items_at n 0)) (λ i. roles (suc i)) (λ j d at. item_same is_this_parameter this_parameter_same n p g 0 (suc j) d (behind_at (items_at n 0) j d at))
misplaced_same (kind.ArrowExpr is_async is_generator) n p g e u =
    ap (list_any is_this_pattern) (items_same n p.where_at.role u 0 (ap (λ z. binds (role_in p.where_at.role z 0)) e))
    ∙ any_where is_this_pattern (items_at n 0) (roles_at (slice_get (children_of n) 0) (role_in p.where_at.role (kind_of n) 0)) (λ j d at. item_same is_this_pattern this_same n p g 0 j d at)
misplaced_same (kind.Constructor accessibility is_optional) n p g e u =
    ap (list_any is_this_parameter) (items_same n p.where_at.role u 1 (ap (λ z. binds (role_in p.where_at.role z 1)) e))
    ∙ any_where is_this_parameter (items_at n 1) (roles_at (slice_get (children_of n) 1) (role_in p.where_at.role (kind_of n) 1)) (λ j d at. item_same is_this_parameter this_parameter_same n p g 1 j d at)
misplaced_same kind.SetterProp n p g e u = holds_where is_this_pattern n p.where_at.role u 2 (λ c at. (let q = good_child n p g 2 c at in this_same c (inside p n 2 q.0) q.2))
misplaced_same _ n p g e u = refl

-- a parameter with modifiers
quiet_kind : (is : Kind → Bool) (ns : List Node) (roles : ℕ → Role) (i : ℕ) → binds (roles i) ≡ false → of_kind is (slice_get (bound_each roles ns) i) ≡ of_kind is (slice_get ns i)
quiet_kind is [] roles i q = refl
quiet_kind is (n ∷ ns) roles zero q = ap is (usual_kind n (roles 0) (quiet_usual n (roles 0) q))
quiet_kind is (n ∷ ns) roles (suc i) q = quiet_kind is ns (λ j. roles (suc j)) i q

named_same : (k : Kind) (c : Node) → kind_of c ≡ k → is_named_pattern k (bound_at c role.Parameter) ≡ is_named_pattern k c
unfolding role_in
named_same kind.BindingIdent c e = refl
named_same kind.AssignPat c e =
    ap (λ (z : List Node). of_kind is_binding_name (slice_get z 0)) (usual_children c role.Parameter (quiet_usual c role.Parameter refl))
    ∙ quiet_kind is_binding_name (children_of c) (role_in role.Parameter (kind_of c)) 0 (ap (λ z. binds (role_in role.Parameter z 0)) e)
named_same _ c e = refl

plain_same : (c : Node) (r : Role) → r ≡ role.Parameter → is_plain_parameter (bound_at c r) ≡ is_plain_parameter c
plain_same c r e =
    ap (λ z. is_plain_parameter (bound_at c z)) e
    ∙ ap (λ k. is_named_pattern k (bound_at c role.Parameter)) (usual_kind c role.Parameter (quiet_usual c role.Parameter refl))
    ∙ named_same (kind_of c) c refl

property_same : (d : Bool) (k : Kind) (n : Node) → kind_of n ≡ k → (r : Role) → is_typed_name r n ≡ false
    → (is_property_kind k && not (d && child_holds is_plain_parameter (bound_at n r) 0)) ≡ (is_property_kind k && not (d && child_holds is_plain_parameter n 0))
unfolding role_in
property_same d (kind.TsParamProp accessibility is_override readonly) n e r u =
    ap (λ x. not (d && x)) (holds_where is_plain_parameter n r u 0 (λ c at. plain_same c (role_in r (kind_of n) 0) (ap (λ z. role_in r z 0) e)))
property_same d _ n e r u = refl

pub members_same : (a : Around) (n : Node) (p : Place) → Good n p → is_typed_name p.where_at.role n ≡ false → fails_member a (bound_at n p.where_at.role) ≡ fails_member a n
members_same a n p g u =
    let m = bound_at n p.where_at.role in
    let is = usual_kind n p.where_at.role u in
    ap₂ (λ x y. x || y)
    (ap (λ k. is_property_kind k && not (is_declaring a.standing && child_holds is_plain_parameter m 0)) is ∙ property_same (is_declaring a.standing) (kind_of n) n refl p.where_at.role u)
    (ap₂ (λ x y. x || y) (ap (λ k. misfits_by k m) is ∙ misfits_same (kind_of n) n p g refl u)
    (ap₂ (λ x y. x || y) (ap (λ k. is_special_by k m) is ∙ special_same (kind_of n) n p.where_at.role u) (ap (λ k. misplaces_this_by k m) is ∙ misplaced_same (kind_of n) n p g refl u)))
