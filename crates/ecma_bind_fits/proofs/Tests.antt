-- What the grammar asks of a node is the same of a tree with bound names.
use Rattle.std.proofs.Common.{◌≡◌, ◌∙◌, ℕ, suc, zero, Bool, true, false, not, ◌+◌, ◌&&◌, ◌||◌, ◌==◌, List, [], ◌∷◌, map, refl, sym, ap, ap₂, nat_lt, slice_get}
use Rattle.std.specs.List.{list_all}
use Rattle.ecma_kind.specs.Sorts.{is_type_wrapper}
use Rattle.ecma_kind.specs.declared.kind.Kind.{Kind}
use Rattle.ecma_kind.specs.declared.kind.Kind.TheVariants as kind
use Rattle.ecma_kind.specs.declared.operators.MethodKind.{MethodKind}
use Rattle.ecma_tree.specs.declared.node.Node.{Node, Node-F, fold_out-Node}
use Rattle.ecma_tree.specs.Nodes.{absent}
use Rattle.ecma_rules.specs.Children.{child_holds, child_is, children_of as items_of, has_child, items_at, kind_of}
use Rattle.ecma_rules.specs.Members.{is_constructor_key, is_special_function, is_method}
use Rattle.ecma_rules.specs.Targets.{first_is, is_key_value}
use Rattle.ecma_fits.specs.declared.role.Role.{Role}
use Rattle.ecma_fits.specs.declared.role.Role.TheVariants as role
use Rattle.ecma_fits.specs.Branches.{is_choice, is_dangling, takes_else}
use Rattle.ecma_fits.specs.Chains.{goes_on, is_behind_chain, is_loose, is_loose_by}
use Rattle.ecma_fits.specs.Counts.{are, are_exports, are_imports, are_stars_or_names, ends_once, ends_template, has_attributes_at, holds_attributes, is_attribute, is_attribute_key, is_default_import, is_empty, is_full_by, is_named_export, is_named_import, is_short, is_star_export, is_star_import, is_star_of, is_text, is_whole_template}
use Rattle.ecma_fits.specs.Members.{is_misread, is_misread_by, is_special_accessor}
use Rattle.ecma_fits.specs.Roles.{is_name, role_in}
use Rattle.ecma_bind.specs.Binding.{binds, bound_at, is_name_under_types, is_typed_name, names_step, under_types}
use Rattle.ecma_bind_fits.proofs.Alike.{Alike, Blind, Same, Six, all_same, bound_length, bound_parts, by_kind, child_same, has_same, holds_same, holds_where, is_same, items_same, kind_same, length_same, roles_at, typed_parts, usual_children}
use Rattle.ecma_bind_fits.proofs.Bound.{bound_each, children_of, typed_is}
use Rattle.ecma_bind_fits.proofs.Folded.{else_same, goes_same}
use Rattle.ecma_bind_fits.proofs.Names.{names_inside, under_name}

-- ---- counts

ends_same : (ns : List Node) (roles : ℕ → Role) → ends_once (bound_each roles ns) ≡ ends_once ns
ends_same [] roles = refl
ends_same (n ∷ []) roles = is_same ends_template (refl, refl, refl, refl, refl, refl) n (roles 0)
ends_same (n ∷ m ∷ ns) roles = ap₂ (λ a b. not a && b) (is_same ends_template (refl, refl, refl, refl, refl, refl) n (roles 0)) (ends_same (m ∷ ns) (λ i. roles (suc i)))

whole_same : (es ps : List Node) (at_e at_p : ℕ → Role) → is_whole_template (bound_each at_e es) (bound_each at_p ps) ≡ is_whole_template es ps
whole_same es ps at_e at_p = ap₂ (λ a b. a && b) (ap₂ (λ a b. a == b + 1) (bound_length ps at_p) (bound_length es at_e)) (ends_same ps at_p)

empty_same : (ns : List Node) (roles : ℕ → Role) → is_empty (bound_each roles ns) ≡ is_empty ns
empty_same [] roles = refl
empty_same (n ∷ ns) roles = refl

are_same : (is : Kind → Bool) → Blind Bool is → (ns : List Node) (roles : ℕ → Role) → are is (bound_each roles ns) ≡ are is ns
are_same is b = all_same (λ n. is (kind_of n)) (kind_same Bool is b)

stars_same : (ns : List Node) (roles : ℕ → Role) → are_stars_or_names (bound_each roles ns) ≡ are_stars_or_names ns
stars_same [] roles = refl
stars_same (n ∷ []) roles = ap₂ (λ a b. a || b) (is_same is_star_import (refl, refl, refl, refl, refl, refl) n (roles 0)) (is_same is_named_import (refl, refl, refl, refl, refl, refl) n (roles 0))
stars_same (n ∷ m ∷ ns) roles = are_same is_named_import (refl, refl, refl, refl, refl, refl) (n ∷ m ∷ ns) roles

imports_same : (ns : List Node) (roles : ℕ → Role) → are_imports (bound_each roles ns) ≡ are_imports ns
imports_same [] roles = refl
imports_same (n ∷ ns) roles = ap₂ (λ a b. a || b) (stars_same (n ∷ ns) roles) (ap₂ (λ a b. a && b) (is_same is_default_import (refl, refl, refl, refl, refl, refl) n (roles 0)) (stars_same ns (λ i. roles (suc i))))

star_same : (has_source : Bool) (ns : List Node) (roles : ℕ → Role) → is_star_of has_source (bound_each roles ns) ≡ is_star_of has_source ns
star_same has_source [] roles = refl
star_same has_source (n ∷ []) roles = ap (λ a. has_source && a) (is_same is_star_export (refl, refl, refl, refl, refl, refl) n (roles 0))
star_same has_source (n ∷ m ∷ ns) roles = refl

exports_same : (has_source has_attributes : Bool) (ns : List Node) (roles : ℕ → Role) → are_exports has_source has_attributes (bound_each roles ns) ≡ are_exports has_source has_attributes ns
exports_same has_source has_attributes ns roles =
    ap₂ (λ a b. (a || b) && (has_source || not has_attributes)) (are_same is_named_export (refl, refl, refl, refl, refl, refl) ns roles) (star_same has_source ns roles)

attribute_same : Same is_attribute
attribute_same = by_kind (λ k n. is_key_value k && (child_is is_attribute_key n 0 && child_is is_text n 1)) (λ n m. (refl, refl, refl, refl, refl, refl)) (λ k n e r u.
    ap₂ (λ a b. is_key_value k && (a && b)) (child_same is_attribute_key (refl, refl, refl, refl, refl, refl) 0 n r u) (child_same is_text (refl, refl, refl, refl, refl, refl) 1 n r u))

-- neither a name nor a type round one is an attribute
no_attribute : (k : Kind) (b c : Bool) → (is_name k || (is_type_wrapper k && b)) ≡ true → (is_key_value k && c) ≡ false
no_attribute kind.KeyValueProp b c h = cc
no_attribute _ b c h = refl

names_no_attribute : (n : Node) → is_name_under_types n ≡ true → is_attribute n ≡ false
names_no_attribute n h =
    no_attribute (kind_of n) (first_is (map is_name_under_types (children_of n))) (child_is is_attribute_key n 0 && child_is is_text n 1) (sym (fold_out-Node Bool names_step n) ∙ h)

name_no_attribute : (n : Node) → is_name (kind_of n) ≡ true → is_attribute n ≡ false
name_no_attribute n h = no_attribute (kind_of n) false (child_is is_attribute_key n 0 && child_is is_text n 1) (ap (λ b. b || (is_type_wrapper (kind_of n) && false)) h)

first_fails : (cs : List Node) → first_is (map is_name_under_types cs) ≡ true → list_all is_attribute cs ≡ false
first_fails [] h = cc
first_fails (c ∷ cs) h = ap (λ b. b && list_all is_attribute cs) (names_no_attribute c h)

items_attribute : (c : Node) (r : Role) → list_all is_attribute (children_of (bound_at c r)) ≡ list_all is_attribute (children_of c)
items_attribute c r = by (is_typed_name r c) refl
  where
    by : (t : Bool) → is_typed_name r c ≡ t → list_all is_attribute (children_of (bound_at c r)) ≡ list_all is_attribute (children_of c)
    by true e =
        ap (λ (z : Node). list_all is_attribute (children_of z)) (typed_is c r e)
        ∙ ap (λ (z : Node-F Node). list_all is_attribute z.children) (bound_parts (under_types c))
        ∙ ap (λ b. b && (is_attribute absent && true)) (name_no_attribute (under_types c) (under_name c (typed_parts c r e).2))
        ∙ sym (first_fails (children_of c) (names_inside c (typed_parts c r e).1 (typed_parts c r e).2))
    by false e = ap (λ (z : List Node). list_all is_attribute z) (usual_children c r e) ∙ all_same is_attribute attribute_same (children_of c) (role_in r (kind_of c))

attributes_in : (ns : List Node) (roles : ℕ → Role) (i : ℕ) → list_all is_attribute (items_of (slice_get (bound_each roles ns) i)) ≡ list_all is_attribute (items_of (slice_get ns i))
attributes_in [] roles i = refl
attributes_in (n ∷ ns) roles zero = items_attribute n (roles 0)
attributes_in (n ∷ ns) roles (suc i) = attributes_in ns (λ j. roles (suc j)) i

attributes_same : Alike holds_attributes
attributes_same n r u = ap (λ (z : List Node). list_all is_attribute (items_of (slice_get z 0))) (usual_children n r u) ∙ attributes_in (children_of n) (role_in r (kind_of n)) 0

attributes_at_same : (i : ℕ) (n : Node) (r : Role) → is_typed_name r n ≡ false → binds (role_in r (kind_of n) i) ≡ false → has_attributes_at i (bound_at n r) ≡ has_attributes_at i n
attributes_at_same i n r u q = holds_where holds_attributes n r u i (λ c at. attributes_same c (role_in r (kind_of n) i) (ap (λ b. b && (is_type_wrapper (kind_of c) && is_name_under_types c)) q))

-- the place of a part where no name is bound
quiet_at : (n : Node) (k : Kind) → kind_of n ≡ k → (r : Role) (i : ℕ) → binds (role_in r k i) ≡ false → binds (role_in r (kind_of n) i) ≡ false
quiet_at n k e r i q = ap (λ z. binds (role_in r z i)) e ∙ q

template_quiet : (r : Role) → binds (role_in r kind.Tpl 1) ≡ false
unfolding role_in
template_quiet role.Tagged = refl
template_quiet _ = refl

full_same : (k : Kind) (n : Node) → kind_of n ≡ k → (r : Role) → is_typed_name r n ≡ false → is_full_by k (bound_at n r) ≡ is_full_by k n
unfolding is_full_by role_in
full_same kind.Tpl n e r u =
    ap₂ is_whole_template (items_same n r u 0 (quiet_at n kind.Tpl e r 0 refl)) (items_same n r u 1 (quiet_at n kind.Tpl e r 1 (template_quiet r)))
    ∙ whole_same (items_at n 0) (items_at n 1) (roles_at (slice_get (children_of n) 0) (role_in r (kind_of n) 0)) (roles_at (slice_get (children_of n) 1) (role_in r (kind_of n) 1))
full_same kind.SeqExpr n e r u = ap (nat_lt 1) (length_same n r u)
full_same (kind.YieldExpr delegate) n e r u = ap (λ a. a || not delegate) (has_same 0 n r u)
full_same kind.TryStmt n e r u = ap₂ (λ a b. a || b) (has_same 1 n r u) (has_same 2 n r u)
full_same (kind.VarDecl k declare) n e r u =
    ap (λ (z : List Node). not (is_empty z)) (items_same n r u 0 (quiet_at n (kind.VarDecl k declare) e r 0 refl)) ∙ ap not (empty_same (items_at n 0) (roles_at (slice_get (children_of n) 0) (role_in r (kind_of n) 0)))
full_same (kind.ImportDecl type_only) n e r u =
    ap₂ (λ a b. a && b)
    (ap are_imports (items_same n r u 0 (quiet_at n (kind.ImportDecl type_only) e r 0 refl)) ∙ imports_same (items_at n 0) (roles_at (slice_get (children_of n) 0) (role_in r (kind_of n) 0)))
    (attributes_at_same 2 n r u (quiet_at n (kind.ImportDecl type_only) e r 2 refl))
full_same (kind.NamedExport type_only) n e r u =
    ap₂ (λ a b. a && b)
    (ap₂ (λ a b. are_exports a b (items_at (bound_at n r) 0)) (has_same 1 n r u) (has_same 2 n r u)
    ∙ ap (are_exports (has_child n 1) (has_child n 2)) (items_same n r u 0 (quiet_at n (kind.NamedExport type_only) e r 0 refl))
    ∙ exports_same (has_child n 1) (has_child n 2) (items_at n 0) (roles_at (slice_get (children_of n) 0) (role_in r (kind_of n) 0)))
    (attributes_at_same 2 n r u (quiet_at n (kind.NamedExport type_only) e r 2 refl))
full_same (kind.ExportAll type_only) n e r u = attributes_at_same 1 n r u (quiet_at n (kind.ExportAll type_only) e r 1 refl)
full_same _ n e r u = refl

full_blind : (n m : Node) → Six Bool (λ k. is_full_by k n) (is_full_by kind.BindingIdent m)
unfolding is_full_by
full_blind n m = (refl, refl, refl, refl, refl, refl)

pub short_same : Same is_short
short_same n r = ap not (by_kind is_full_by full_blind full_same n r)

-- ---- branches

pub dangling_same : Same is_dangling
dangling_same = by_kind (λ k n. is_choice k && (has_child n 2 && child_holds takes_else n 1)) (λ n m. (refl, refl, refl, refl, refl, refl)) (λ k n e r u.
    ap₂ (λ a b. is_choice k && (a && b)) (has_same 2 n r u) (holds_same takes_else else_same 1 n r u))

-- ---- chains

behind_same : (n : Node) (r : Role) → is_typed_name r n ≡ false → is_behind_chain (bound_at n r) ≡ is_behind_chain n
behind_same = holds_same goes_on goes_same 0

loose_same : (k : Kind) (n : Node) → kind_of n ≡ k → (r : Role) → is_typed_name r n ≡ false → is_loose_by k (bound_at n r) ≡ is_loose_by k n
unfolding role_in
loose_same (kind.OptChainExpr optional) n e r u =
    ap (λ a. not optional && not a) (holds_where is_behind_chain n r u 0 (λ c at. behind_same c (role_in r (kind_of n) 0) (ap (λ b. b && (is_type_wrapper (kind_of c) && is_name_under_types c)) (quiet_at n (kind.OptChainExpr optional) e r 0 refl))))
loose_same _ n e r u = refl

pub chains_same : Same is_loose
chains_same = by_kind is_loose_by (λ n m. (refl, refl, refl, refl, refl, refl)) loose_same

-- ---- members

accessor_same : (k : MethodKind) → Alike (is_special_accessor k)
accessor_same k n r u = ap (λ a. not (is_method k) && a) (child_same is_special_function (refl, refl, refl, refl, refl, refl) 1 n r u)

key_same : Alike (λ n. child_is is_constructor_key n 0)
key_same = child_same is_constructor_key (refl, refl, refl, refl, refl, refl) 0

misread_same : (k : Kind) (n : Node) → kind_of n ≡ k → (r : Role) → is_typed_name r n ≡ false → is_misread_by k (bound_at n r) ≡ is_misread_by k n
unfolding is_misread_by
misread_same (kind.Constructor accessibility is_optional) n e r u = ap not (key_same n r u)
misread_same (kind.ClassMethod k modifiers) n e r u = ap₂ (λ a b. a || (not modifiers.is_static && b)) (accessor_same k n r u) (key_same n r u)
misread_same (kind.PrivateMethod k modifiers) n e r u = accessor_same k n r u
misread_same _ n e r u = refl

misread_blind : (n m : Node) → Six Bool (λ k. is_misread_by k n) (is_misread_by kind.BindingIdent m)
unfolding is_misread_by
misread_blind n m = (refl, refl, refl, refl, refl, refl)

pub members_same : Same is_misread
members_same = by_kind is_misread_by misread_blind misread_same
