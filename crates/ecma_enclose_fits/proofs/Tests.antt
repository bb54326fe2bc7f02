-- What the grammar asks of a node is the same with parentheses added.
use Rattle.std.proofs.Common.{◌≡◌, ◌∙◌, ℕ, suc, Bool, true, false, not, ◌+◌, ◌&&◌, ◌||◌, ◌==◌, List, [], ◌∷◌, length, Some, refl, sym, ap, ap₂, nat_lt, slice_get}
use Rattle.std.specs.List.{list_all}
use Rattle.ecma_kind.specs.Sorts.{belongs}
use Rattle.ecma_kind.specs.declared.kind.Kind.{Kind}
use Rattle.ecma_kind.specs.declared.kind.Kind.TheVariants as kind
use Rattle.ecma_kind.specs.declared.operators.MethodKind.{MethodKind}
use Rattle.ecma_kind.specs.declared.shapes.Shape.{Shape}
use Rattle.ecma_kind.specs.declared.shapes.Sort.{Sort}
use Rattle.ecma_kind.specs.declared.shapes.Sort.TheVariants as sort
use Rattle.ecma_kind.specs.declared.span.Span.{Span}
use Rattle.ecma_tree.specs.declared.node.Node.{Node}
use Rattle.ecma_tree.specs.Sorted.{child_shapes, is_absent, many, maybe, one}
use Rattle.ecma_rules.specs.Children.{child_holds, child_is, has_child, items_at, kind_of}
use Rattle.ecma_rules.specs.Members.{is_constructor_key, is_special_function, is_method}
use Rattle.ecma_rules.specs.Targets.{first_is, is_key_value, is_simple_target, simple_step}
use Rattle.ecma_fits.specs.Branches.{is_choice, is_dangling, takes_else, takes_else_step}
use Rattle.ecma_fits.specs.Chains.{goes_on, goes_on_step, is_behind_chain, is_loose, is_loose_by}
use Rattle.ecma_fits.specs.Counts.{are, are_exports, are_imports, are_stars_or_names, ends_once, ends_template, has_attributes_at, holds_attributes, is_attribute, is_attribute_key, is_default_import, is_empty, is_full_by, is_named_export, is_named_import, is_short, is_star_export, is_star_import, is_star_of, is_text, is_whole_template}
use Rattle.ecma_fits.specs.Members.{is_misread, is_misread_by, is_special_accessor}
use Rattle.ecma_enclose_fits.proofs.Adding.{Adds, All, children_of, is_open, more, none}
use Rattle.ecma_enclose_fits.proofs.Alike.{IsListAt, Keeps, all_length, all_same, by_kind, child_allowed, child_usual, fold_same, has_same, holds_usual, holds_where, is_same, items_same, kind_same, length_same, listed}

-- ---- counts

ends_same : {ns ms : List Node} → All ns ms → ends_once ms ≡ ends_once ns
ends_same none = refl
ends_same (more r none) = is_same ends_template r
ends_same (more r (more q all)) = ap₂ (λ a b. not a && b) (is_same ends_template r) (ends_same (more q all))

whole_same : {es es' ps ps' : List Node} → All es es' → All ps ps' → is_whole_template es' ps' ≡ is_whole_template es ps
whole_same es ps = ap₂ (λ a b. a && b) (ap₂ (λ a b. a == b + 1) (all_length ps) (all_length es)) (ends_same ps)

pub empty_same : {ns ms : List Node} → All ns ms → is_empty ms ≡ is_empty ns
empty_same none = refl
empty_same (more r all) = refl

are_same : (is : Kind → Bool) {ns ms : List Node} → All ns ms → are is ms ≡ are is ns
are_same is all = all_same (λ n. is (kind_of n)) (λ a b q. is_same is q) all

stars_same : {ns ms : List Node} → All ns ms → are_stars_or_names ms ≡ are_stars_or_names ns
stars_same none = refl
stars_same (more r none) = ap₂ (λ a b. a || b) (is_same is_star_import r) (is_same is_named_import r)
stars_same (more r (more q all)) = are_same is_named_import (more r (more q all))

imports_same : {ns ms : List Node} → All ns ms → are_imports ms ≡ are_imports ns
imports_same none = refl
imports_same (more r all) = ap₂ (λ a b. a || b) (stars_same (more r all)) (ap₂ (λ a b. a && b) (is_same is_default_import r) (stars_same all))

star_same : (has_source : Bool) {ns ms : List Node} → All ns ms → is_star_of has_source ms ≡ is_star_of has_source ns
star_same has_source none = refl
star_same has_source (more r none) = ap (λ a. has_source && a) (is_same is_star_export r)
star_same has_source (more r (more q all)) = refl

exports_same : (has_source has_attributes : Bool) {ns ms : List Node} → All ns ms → are_exports has_source has_attributes ms ≡ are_exports has_source has_attributes ns
exports_same has_source has_attributes all =
    ap₂ (λ a b. (a || b) && (has_source || not has_attributes)) (are_same is_named_export all) (star_same has_source all)

both_parts : (k : Kind) {a b : Node} → Adds a b → kind_of a ≡ k
    → (is_key_value k && (child_is is_attribute_key b 0 && child_is is_text b 1)) ≡ (is_key_value k && (child_is is_attribute_key a 0 && child_is is_text a 1))
both_parts kind.KeyValueProp r e = ap₂ (λ x y. x && y) (child_usual is_attribute_key 0 r (ap is_open e)) (child_usual is_text 1 r (ap is_open e))
both_parts _ r e = refl

attribute_same : {a b : Node} → Adds a b → Keeps is_attribute a b
attribute_same r = by_kind (λ k n. is_key_value k && (child_is is_attribute_key n 0 && child_is is_text n 1)) (λ k a b q e. both_parts k q e) r

-- the object behind `with`, or nothing
object_list : (k : Kind) (a : Node) → kind_of a ≡ k → (is_absent k || belongs sort.ObjectLit k) ≡ true → (is_open k ≡ false) × IsListAt a 0
object_list kind.Absent a e h = (refl, λ shape o at. (let no = sym (ap (λ z. slice_get (child_shapes z shape (length (children_of a))) 0) e) ∙ at in cc))
object_list kind.ObjectLit a e h = (refl, λ shape o at. listed sort.PropOrSpread (sym (ap (λ z. slice_get (child_shapes z shape (length (children_of a))) 0) e) ∙ at))
object_list _ a e h = cc

attributes_same : {a b : Node} → Adds a b → (is_absent (kind_of a) || belongs sort.ObjectLit (kind_of a)) ≡ true → holds_attributes b ≡ holds_attributes a
attributes_same {a} r h = let t = object_list (kind_of a) a refl h in all_same is_attribute (λ c d q. attribute_same q) (items_same 0 r t.0 t.1)

attributes_at_same : (i : ℕ) {a b : Node} → Adds a b → is_open (kind_of a) ≡ false → ((shape : Shape) → slice_get (child_shapes (kind_of a) shape (length (children_of a))) i ≡ Some (maybe sort.ObjectLit))
    → has_attributes_at i b ≡ has_attributes_at i a
attributes_at_same i r o is = holds_where holds_attributes i r o (λ c d at q. attributes_same q (child_allowed r i (maybe sort.ObjectLit) is c at))

-- a list at an index of a node of a kind
pub list_at : (σ : Sort) (i : ℕ) (k : Kind) (a : Node) → kind_of a ≡ k → ((shape : Shape) (count : ℕ) → slice_get (child_shapes k shape count) i ≡ Some (many σ)) → IsListAt a i
list_at σ i k a e is shape o at = listed σ (sym (ap (λ z. slice_get (child_shapes z shape (length (children_of a))) i) e ∙ is shape (length (children_of a))) ∙ at)

full_same : (k : Kind) {a b : Node} → Adds a b → kind_of a ≡ k → is_full_by k b ≡ is_full_by k a
unfolding is_full_by
full_same kind.Tpl {a} r e =
    whole_same (items_same 0 r (ap is_open e) (list_at sort.Expr 0 kind.Tpl a e (λ s n. refl))) (items_same 1 r (ap is_open e) (list_at sort.TplElement 1 kind.Tpl a e (λ s n. refl)))
full_same kind.SeqExpr r e = ap (nat_lt 1) (length_same r)
full_same (kind.YieldExpr delegate) r e = ap (λ a. a || not delegate) (has_same 0 r)
full_same kind.TryStmt r e = ap₂ (λ a b. a || b) (has_same 1 r) (has_same 2 r)
full_same (kind.VarDecl k declare) {a} r e = ap not (empty_same (items_same 0 r (ap is_open e) (list_at sort.VarDeclarator 0 (kind.VarDecl k declare) a e (λ s n. refl))))
full_same (kind.ImportDecl type_only) {a} r e =
    ap₂ (λ a b. a && b) (imports_same (items_same 0 r (ap is_open e) (list_at sort.ImportSpecifier 0 (kind.ImportDecl type_only) a e (λ s n. refl))))
    (attributes_at_same 2 r (ap is_open e) (λ shape. ap (λ z. slice_get (child_shapes z shape (length (children_of a))) 2) e))
full_same (kind.NamedExport type_only) {a} {b} r e =
    ap₂ (λ a b. a && b)
    (ap₂ (λ x y. are_exports x y (items_at b 0)) (has_same 1 r) (has_same 2 r)
    ∙ exports_same (has_child a 1) (has_child a 2) (items_same 0 r (ap is_open e) (list_at sort.ExportSpecifier 0 (kind.NamedExport type_only) a e (λ s n. refl))))
    (attributes_at_same 2 r (ap is_open e) (λ shape. ap (λ z. slice_get (child_shapes z shape (length (children_of a))) 2) e))
full_same (kind.ExportAll type_only) {a} r e = attributes_at_same 1 r (ap is_open e) (λ shape. ap (λ z. slice_get (child_shapes z shape (length (children_of a))) 1) e)
full_same _ r e = refl

pub short_same : {a b : Node} → Adds a b → Keeps is_short a b
short_same r = ap not (by_kind is_full_by (λ k a b q e. full_same k q e) r)

-- ---- branches

else_open : (at : Span) (k : Kind) (c d : Bool) (cs : List Bool) → is_open k ≡ true → takes_else_step (record { span = at; kind = k; children = c ∷ cs }) ≡ takes_else_step (record { span = at; kind = k; children = d ∷ cs })
else_open at kind.ExprStmt c d cs o = refl
else_open at (kind.ForOfStmt is_await) c d cs o = refl
else_open at _ c d cs o = cc

else_same : {a b : Node} → Adds a b → Keeps takes_else a b
else_same r = fold_same takes_else_step else_open r

dangling_by : (k : Kind) {a b : Node} → Adds a b → kind_of a ≡ k → (is_choice k && (has_child b 2 && child_holds takes_else b 1)) ≡ (is_choice k && (has_child a 2 && child_holds takes_else a 1))
dangling_by kind.IfStmt r e = ap₂ (λ x y. x && y) (has_same 2 r) (holds_usual takes_else (λ a b q. else_same q) 1 r (ap is_open e))
dangling_by _ r e = refl

pub dangling_same : {a b : Node} → Adds a b → Keeps is_dangling a b
dangling_same r = by_kind (λ k n. is_choice k && (has_child n 2 && child_holds takes_else n 1)) (λ k a b q e. dangling_by k q e) r

-- ---- chains

goes_on_open : (at : Span) (k : Kind) (c d : Bool) (cs : List Bool) → is_open k ≡ true → goes_on_step (record { span = at; kind = k; children = c ∷ cs }) ≡ goes_on_step (record { span = at; kind = k; children = d ∷ cs })
goes_on_open at kind.ExprStmt c d cs o = refl
goes_on_open at (kind.ForOfStmt is_await) c d cs o = refl
goes_on_open at _ c d cs o = cc

goes_on_same : {a b : Node} → Adds a b → Keeps goes_on a b
goes_on_same r = fold_same goes_on_step goes_on_open r

base_open : (k : Kind) → belongs sort.OptChainBase k ≡ true → is_open k ≡ false
base_open kind.ExprStmt h = cc
base_open (kind.ForOfStmt is_await) h = cc
base_open _ h = refl

-- what stands behind `?.`, or after it
base_same : (k : Kind) {a b : Node} → Adds a b → kind_of a ≡ k → belongs sort.OptChainBase k ≡ true → is_behind_chain b ≡ is_behind_chain a
base_same k r e h = holds_usual goes_on (λ a b q. goes_on_same q) 0 r (ap is_open e ∙ base_open k h)

loose_same : (k : Kind) {a b : Node} → Adds a b → kind_of a ≡ k → is_loose_by k b ≡ is_loose_by k a
loose_same (kind.OptChainExpr optional) {a} r e =
    ap (λ x. not optional && not x)
    (holds_where is_behind_chain 0 r (ap is_open e)
    (λ c d at q. base_same (kind_of c) q refl (child_allowed r 0 (one sort.OptChainBase) (λ shape. ap (λ z. slice_get (child_shapes z shape (length (children_of a))) 0) e) c at)))
loose_same _ r e = refl

pub chains_same : {a b : Node} → Adds a b → Keeps is_loose a b
chains_same r = by_kind is_loose_by (λ k a b q e. loose_same k q e) r

-- ---- members

misread_same : (k : Kind) {a b : Node} → Adds a b → kind_of a ≡ k → is_misread_by k b ≡ is_misread_by k a
unfolding is_misread_by
misread_same (kind.Constructor accessibility is_optional) r e = ap not (child_usual is_constructor_key 0 r (ap is_open e))
misread_same (kind.ClassMethod k modifiers) r e =
    ap₂ (λ a b. (not (is_method k) && a) || (not modifiers.is_static && b)) (child_usual is_special_function 1 r (ap is_open e)) (child_usual is_constructor_key 0 r (ap is_open e))
misread_same (kind.PrivateMethod k modifiers) r e = ap (λ a. not (is_method k) && a) (child_usual is_special_function 1 r (ap is_open e))
misread_same _ r e = refl

pub members_same : {a b : Node} → Adds a b → Keeps is_misread a b
members_same r = by_kind is_misread_by (λ k a b q e. misread_same k q e) r

-- ---- simple targets

simple_open : (at : Span) (k : Kind) (c d : Bool) (cs : List Bool) → is_open k ≡ true → simple_step (record { span = at; kind = k; children = c ∷ cs }) ≡ simple_step (record { span = at; kind = k; children = d ∷ cs })
simple_open at kind.ExprStmt c d cs o = refl
simple_open at (kind.ForOfStmt is_await) c d cs o = refl
simple_open at _ c d cs o = cc

pub simple_same : {a b : Node} → Adds a b → Keeps is_simple_target a b
simple_same r = fold_same simple_step simple_open r
