-- What stands around the children of a node is the same of a tree with bound names, and so is whether it fits, where it is no typed name.
use Rattle.std.proofs.Common.{◌≡◌, ◌∙◌, ℕ, suc, Bool, true, false, not, ◌&&◌, ◌||◌, codes, cond, List, [], ◌∷◌, map, filter, length, Option, Some, None, refl, sym, ap, ap₂, slice_get}
use Rattle.ecma_kind.specs.Sorts.{is_type_wrapper}
use Rattle.ecma_kind.specs.declared.kind.Kind.{Kind}
use Rattle.ecma_kind.specs.declared.kind.Kind.TheVariants as kind
use Rattle.ecma_kind.specs.declared.shapes.Sort.TheVariants as sort
use Rattle.ecma_tree.specs.declared.node.Node.{Node, out-Node}
use Rattle.ecma_tree.specs.Sorted.{allows, child_shapes, is_list, many}
use Rattle.ecma_leaves.specs.Words.{is_spelled}
use Rattle.ecma_rules.specs.declared.standing.Around.{Around}
use Rattle.ecma_rules.specs.Children.{has_child, is_named, items_at, kind_of}
use Rattle.ecma_rules.specs.Failing.{least}
use Rattle.ecma_rules.specs.Jumps.{Held, ends_jumps, held_behind, held_in, is_stray_in, label_of, own_label, stray_here, text_by, text_of}
use Rattle.ecma_rules.specs.Lists.{is_head, is_one_without_value, is_rest, last_by}
use Rattle.ecma_rules.specs.Members.{is_constructor, is_full_constructor, second_by, second_constructor, second_of}
use Rattle.ecma_rules.specs.Rules.{fails_list, fails_statement}
use Rattle.ecma_rules.specs.Statements.{is_body, is_declaration, is_exported, is_text}
use Rattle.ecma_rules.specs.Strays.{strays_in}
use Rattle.ecma_rules.specs.Surroundings.{around_in, standing_by}
use Rattle.ecma_rules.specs.Targets.{is_variables, target_in}
use Rattle.ecma_strip.proofs.Sorting.{list-kind}
use Rattle.ecma_fits.specs.declared.role.Role.{Role}
use Rattle.ecma_fits.specs.declared.role.Role.TheVariants as role
use Rattle.ecma_fits.specs.declared.unfit.Where.{Where}
use Rattle.ecma_fits.specs.Fitting.{breaks_rule, is_misshapen, is_unfit, unfit_here, where_in}
use Rattle.ecma_fits.specs.Roles.{is_assigned, is_bound_name, is_out_of_role, is_tagged, is_wrong_name, may_be, role_in, takes}
use Rattle.ecma_fits.specs.Strays.{arguments_in, is_stray_target}
use Rattle.ecma_strip_fits.proofs.Walk.{shape_parts}
use Rattle.ecma_bind.specs.Binding.{binds, bound_at, is_typed_name}
use Rattle.ecma_bind_fits.proofs.Alike.{Same, by_kind, child_same, has_same, items_same, kind_same, length_same, quiet_usual, roles_at, typed_parts, usual_children, usual_kind, usual_span}
use Rattle.ecma_bind_fits.proofs.Bound.{bound_each, children_of}
use Rattle.ecma_bind_fits.proofs.Folded.{simple_same}
use Rattle.ecma_bind_fits.proofs.Names.{Good, Place, good_child}
use Rattle.ecma_bind_fits.proofs.Rules.{members_same as member_rules_same, some_same}
use Rattle.ecma_bind_fits.proofs.Tests.{chains_same, dangling_same, members_same, short_same}

-- ---- lists

one_same : (ns : List Node) (roles : ℕ → Role) → binds (roles 0) ≡ false → is_one_without_value (bound_each roles ns) ≡ is_one_without_value ns
one_same [] roles q = refl
one_same (n ∷ []) roles q = ap not (has_same 1 n (roles 0) (quiet_usual n (roles 0) q))
one_same (n ∷ m ∷ ns) roles q = refl

free_list : (k : Kind) → is_list k ≡ true → (r : Role) → r ≡ role.Free → binds (role_in r k 0) ≡ false
unfolding role_in
free_list k l r e = ap₂ (λ x y. binds (role_in x y 0)) e (list-kind k l)

variables_quiet : (n : Node) (p : Place) → Good n p → (k : Kind) → kind_of n ≡ k → is_variables k ≡ true → (o : Option Node) → slice_get (children_of n) 0 ≡ o → binds (roles_at o (role_in p.where_at.role (kind_of n) 0) 0) ≡ false
unfolding role_in
variables_quiet n p g (kind.VarDecl k declare) e v None at = refl
variables_quiet n p g (kind.VarDecl k declare) e v (Some list) at =
    let q = good_child n p g 0 list at in
    let is : q.0 ≡ many sort.VarDeclarator = some_same (sym q.1 ∙ ap (λ z. slice_get (child_shapes z p.shape (length (children_of n))) 0) e) in
    let allowed : is_list (kind_of list) ≡ true = ap (λ o. allows o (kind_of list)) (sym is) ∙ (shape_parts list q.0 q.2.shaped).0 in
    free_list (kind_of list) allowed (role_in p.where_at.role (kind_of n) 0) (ap (λ z. role_in p.where_at.role z 0) e)
variables_quiet n p g _ e v o at = cc

head_same : (b v : Bool) (n : Node) (p : Place) → Good n p → is_typed_name p.where_at.role n ≡ false → is_variables (kind_of n) ≡ v
    → ((b && v) && not (is_one_without_value (items_at (bound_at n p.where_at.role) 0))) ≡ ((b && v) && not (is_one_without_value (items_at n 0)))
unfolding role_in
head_same false v n p g u e = refl
head_same true false n p g u e = refl
head_same true true n p g u e = ap not
    (ap is_one_without_value (items_same n p.where_at.role u 0 (list_quiet (kind_of n) e))
    ∙ one_same (items_at n 0) (roles_at (slice_get (children_of n) 0) (role_in p.where_at.role (kind_of n) 0)) (variables_quiet n p g (kind_of n) refl e (slice_get (children_of n) 0) refl))
  where
    list_quiet : (k : Kind) → is_variables k ≡ true → binds (role_in p.where_at.role k 0) ≡ false
    list_quiet (kind.VarDecl k declare) h = refl
    list_quiet _ h = cc

lists_same : (a : Around) (n : Node) (p : Place) → Good n p → is_typed_name p.where_at.role n ≡ false → fails_list a (bound_at n p.where_at.role) ≡ fails_list a n
lists_same a n p g u =
    let m = bound_at n p.where_at.role in
    ap (λ k. ((is_head a.target && is_variables k) && not (is_one_without_value (items_at m 0))) || (is_rest a.target k && not a.is_last)) (usual_kind n p.where_at.role u)
    ∙ ap (λ x. x || (is_rest a.target (kind_of n) && not a.is_last)) (head_same (is_head a.target) (is_variables (kind_of n)) n p g u refl)

-- ---- statements and constructors

statements_same : (a : Around) (n : Node) (r : Role) → is_typed_name r n ≡ false → fails_statement a (bound_at n r) ≡ fails_statement a n
statements_same a n r u = ap (λ k. (is_exported a.standing && is_text k) || (is_body a.standing && is_declaration k)) (usual_kind n r u)

constructor_same : Same is_full_constructor
constructor_same = by_kind (λ k n. is_constructor k && has_child n 2) (λ n m. (refl, refl, refl, refl, refl, refl)) (λ k n e r u. ap (λ x. is_constructor k && x) (has_same 2 n r u))

abbrev second_place : List ℕ → Option ℕ
second_place (a ∷ b ∷ others) = Some b
second_place _ = None

second_is : (ns : List Node) → second_of ns ≡ second_place (map (λ n. (out-Node n).span.lo) ns)
second_is [] = refl
second_is (n ∷ []) = refl
second_is (n ∷ m ∷ ns) = refl

constructor_usual : (n : Node) (r : Role) → is_full_constructor n ≡ true → (t : Bool) → is_typed_name r n ≡ t → t ≡ false
constructor_usual n r c true e = no (kind_of n) (typed_parts n r e).1 c
  where
    no : (k : Kind) → is_type_wrapper k ≡ true → (is_constructor k && has_child n 2) ≡ true → true ≡ false
    no (kind.Constructor accessibility is_optional) w h = cc
    no _ w h = cc
constructor_usual n r c false e = refl

places_step : (n : Node) (r : Role) (ns ms : List Node) (a b : Bool) → is_full_constructor (bound_at n r) ≡ a → is_full_constructor n ≡ b → map (λ n. (out-Node n).span.lo) ms ≡ map (λ n. (out-Node n).span.lo) ns
    → map (λ n. (out-Node n).span.lo) (cond a (bound_at n r ∷ ms) ms) ≡ map (λ n. (out-Node n).span.lo) (cond b (n ∷ ns) ns)
places_step n r ns ms true true x y is = ap₂ (λ s rest. s.lo ∷ rest) (usual_span n r (usual (is_typed_name r n) refl)) is
  where
    usual : (t : Bool) → is_typed_name r n ≡ t → is_typed_name r n ≡ false
    usual t e = e ∙ constructor_usual n r y t e
places_step n r ns ms false false x y is = is
places_step n r ns ms true false x y is = let no : true ≡ false = sym x ∙ (constructor_same n r ∙ y) in absurd (cc)
places_step n r ns ms false true x y is = let no : false ≡ true = sym x ∙ (constructor_same n r ∙ y) in absurd (cc)

places_same : (ns : List Node) (roles : ℕ → Role) → map (λ n. (out-Node n).span.lo) (filter is_full_constructor (bound_each roles ns)) ≡ map (λ n. (out-Node n).span.lo) (filter is_full_constructor ns)
places_same [] roles = refl
places_same (n ∷ ns) roles =
    places_step n (roles 0) (filter is_full_constructor ns) (filter is_full_constructor (bound_each (λ i. roles (suc i)) ns)) (is_full_constructor (bound_at n (roles 0))) (is_full_constructor n) refl refl (places_same ns (λ i. roles (suc i)))

second_by_same : (k : Kind) (n : Node) → kind_of n ≡ k → (r : Role) → is_typed_name r n ≡ false → second_by k (bound_at n r) ≡ second_by k n
unfolding role_in
second_by_same (kind.Class is_abstract) n e r u =
    let roles = roles_at (slice_get (children_of n) 1) (role_in r (kind_of n) 1) in
    ap (λ (z : List Node). second_of (filter is_full_constructor z)) (items_same n r u 1 (ap (λ z. binds (role_in r z 1)) e))
    ∙ second_is (filter is_full_constructor (bound_each roles (items_at n 1)))
    ∙ ap second_place (places_same (items_at n 1) roles)
    ∙ sym (second_is (filter is_full_constructor (items_at n 1)))
second_by_same _ n e r u = refl

constructors_same : (n : Node) (r : Role) → is_typed_name r n ≡ false → second_constructor (bound_at n r) ≡ second_constructor n
constructors_same n r u = ap (λ k. second_by k (bound_at n r)) (usual_kind n r u) ∙ second_by_same (kind_of n) n refl r u

-- ---- what stands around the children

around_same : (a : Around) (n : Node) (r : Role) → is_typed_name r n ≡ false → (i : ℕ) → around_in a (bound_at n r) i ≡ around_in a n i
around_same a n r u i = λ j. record {
  target = ap (λ k. target_in a.target k i) (usual_kind n r u) j;
  standing = standing_by a.standing (usual_kind n r u j) (has_same 1 n r u j) (has_same 2 n r u j) i;
  is_last = last_by a.is_last (usual_kind n r u j) (length_same n r u j) i;
}

pub where_same : (w : Where) (n : Node) (r : Role) → is_typed_name r n ≡ false → (i : ℕ) → where_in w (bound_at n r) i ≡ where_in w n i
where_same w n r u i = λ j. record {
  role = role_in w.role (usual_kind n r u j) i;
  around = around_same w.around n r u i j;
  arguments = arguments_in w.arguments (usual_kind n r u j) i;
}

text_at : (ns : List Node) (roles : ℕ → Role) → text_of (slice_get (bound_each roles ns) 0) ≡ text_of (slice_get ns 0)
text_at [] roles = refl
text_at (n ∷ ns) roles = kind_same (Option (List ℕ)) text_by (refl, refl, refl, refl, refl, refl) n (roles 0)

label_same : (n : Node) (r : Role) → is_typed_name r n ≡ false → label_of (bound_at n r) ≡ label_of n
label_same n r u = ap (λ (z : List Node). text_of (slice_get z 0)) (usual_children n r u) ∙ text_at (children_of n) (role_in r (kind_of n))

pub stray_same : (held : Held) (n : Node) (r : Role) → is_typed_name r n ≡ false → stray_here held (bound_at n r) ≡ stray_here held n
stray_same held n r u = ap₂ (λ b s. cond b (Some s.lo) None) (ap₂ (is_stray_in held) (usual_kind n r u) (label_same n r u)) (usual_span n r u)

pub held_same : (held : Held) (n : Node) (r : Role) → is_typed_name r n ≡ false → (i : ℕ) → held_in held (bound_at n r) i ≡ held_in held n i
held_same held n r u i = λ j.
    held_behind (strays_in held.strays (usual_kind n r u j) i) (ends_jumps (usual_kind n r u j)) (own_label (usual_kind n r u j) (label_same n r u j)) held.labels

-- ---- whether it fits

pub misshapen_same : Same is_misshapen
misshapen_same n r = ap₂ (λ a b. a || b) (short_same n r) (ap₂ (λ a b. a || b) (dangling_same n r) (ap₂ (λ a b. a || b) (chains_same n r) (members_same n r)))

role_same : (q r : Role) (n : Node) → is_typed_name r n ≡ false → is_out_of_role q (bound_at n r) ≡ is_out_of_role q n
role_same q r n u =
    ap₂ (λ k x. is_wrong_name q k || not (may_be q k || (takes q k && x))) (usual_kind n r u) (simple_same n r u)

stray_target_same : (w : Where) (r : Role) (n : Node) → is_typed_name r n ≡ false → is_stray_target w.role w.arguments (bound_at n r) ≡ is_stray_target w.role w.arguments n
stray_target_same w r n u =
    ap₂ (λ k x. w.arguments.stray && (is_assigned w.role && (is_bound_name k && x))) (usual_kind n r u) (child_same (is_named (codes "arguments")) (refl, refl, refl, refl, refl, refl) 0 n r u)

rules_same : (w : Where) (n : Node) (p : Place) → Good n p → is_typed_name p.where_at.role n ≡ false → breaks_rule w (bound_at n p.where_at.role) ≡ breaks_rule w n
rules_same w n p g u =
    ap₂ (λ a b. a || b) (lists_same w.around n p g u) (ap₂ (λ a b. a || b) (member_rules_same w.around n p g u) (statements_same w.around n p.where_at.role u))

unfit_same : (w : Where) (n : Node) (p : Place) → Good n p → is_typed_name p.where_at.role n ≡ false → is_unfit w (bound_at n p.where_at.role) ≡ is_unfit w n
unfolding is_unfit
unfit_same w n p g u =
    ap₂ (λ a b. a || b) (misshapen_same n p.where_at.role)
    (ap₂ (λ a b. a || b)
    (ap₂ (λ a b. a || b) (role_same w.role p.where_at.role n u) (ap₂ (λ a b. a || b) (stray_target_same w p.where_at.role n u) (rules_same w n p g u)))
    (ap (λ k. not (is_spelled (is_tagged w.role) k)) (usual_kind n p.where_at.role u)))

pub place_same : (w : Where) (n : Node) (p : Place) → Good n p → is_typed_name p.where_at.role n ≡ false → unfit_here w (bound_at n p.where_at.role) ≡ unfit_here w n
place_same w n p g u = ap₂ least (ap₂ (λ b s. cond b (Some s.lo) None) (unfit_same w n p g u) (usual_span n p.where_at.role u)) (constructors_same n p.where_at.role u)
