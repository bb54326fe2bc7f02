-- What stays in a list stays there with parentheses added.
use Rattle.std.proofs.Common.{◌≡◌, ◌∙◌, ℕ, zero, suc, Bool, true, false, ◌&&◌, not, cond, List, [], ◌∷◌, map, refl, ap, ap₂, get_or, slice_get}
use Rattle.ecma_kind.specs.Sorts.{belongs}
use Rattle.ecma_kind.specs.declared.kind.Kind.{Kind}
use Rattle.ecma_kind.specs.declared.kind.Kind.TheVariants as kind
use Rattle.ecma_kind.specs.declared.shapes.Sort.TheVariants as sort
use Rattle.ecma_tree.specs.declared.node.Node.{Node, out-Node}
use Rattle.ecma_tree.specs.Values.{is_value, value_at}
use Rattle.ecma_rules.specs.Children.{kind_of}
use Rattle.ecma_strip.specs.Staying.{if_there, is_ambient, is_declared, is_empty_stmt, is_export, is_this, is_this_by, is_this_ident, is_this_param, is_this_param_by, item_stays, member_stays, member_stays_by, specifier_stays, stays}
use Rattle.ecma_enclose_fits.proofs.Adding.{Adds, All, is_open, more, none}
use Rattle.ecma_enclose_fits.proofs.Alike.{Keeps, Same, all_of, by_kind, is_same}
use Rattle.ecma_enclose_scopes.proofs.Declared.{value_same}

all_first : (test : Node → Bool) → Same test → {ns ms : List Node} → All ns ms → (i : ℕ) → if_there (slice_get ms i) test ≡ if_there (slice_get ns i) test
all_first test s none i = refl
all_first test s (more r all) zero = s _ _ r
all_first test s (more r all) (suc i) = all_first test s all i

all_values : {ns ms : List Node} → All ns ms → (i : ℕ) → get_or (map is_value ms) i false ≡ get_or (map is_value ns) i false
all_values none i = refl
all_values (more r all) zero = value_same r
all_values (more r all) (suc i) = all_values all i

ambient_by : (k : Kind) {a b : Node} → Adds a b → kind_of a ≡ k
    → cond (is_export k) (if_there (slice_get (out-Node b).children 0) (λ x. is_declared (out-Node x).kind)) (is_declared k) ≡ cond (is_export k) (if_there (slice_get (out-Node a).children 0) (λ x. is_declared (out-Node x).kind)) (is_declared k)
ambient_by kind.ExportDecl r e = all_first (λ x. is_declared (out-Node x).kind) (λ a b q. is_same is_declared q) (all_of r (ap is_open e)) 0
ambient_by _ r e = refl

ambient_same : {a b : Node} → Adds a b → Keeps is_ambient a b
ambient_same r = by_kind (λ k n. cond (is_export k) (if_there (slice_get (out-Node n).children 0) (λ x. is_declared (out-Node x).kind)) (is_declared k)) (λ k a b q e. ambient_by k q e) r

item_same : {a b : Node} → Adds a b → Keeps item_stays a b
item_same r = λ j. cond (is_same is_empty_stmt r j) true (cond (is_same (belongs sort.ModuleItem) r j) (value_same r j && not (ambient_same r j)) true)

member_by : (k : Kind) {a b : Node} → Adds a b → kind_of a ≡ k → member_stays_by k b ≡ member_stays_by k a
unfolding member_stays_by
member_by (kind.Constructor accessibility is_optional) r e = all_values (all_of r (ap is_open e)) 2
member_by (kind.ClassMethod k modifiers) r e = ap (λ x. not modifiers.is_abstract && x) (all_values (all_of r (ap is_open e)) 1)
member_by (kind.PrivateMethod k modifiers) r e = ap (λ x. not modifiers.is_abstract && x) (all_values (all_of r (ap is_open e)) 1)
member_by _ r e = refl

member_same : {a b : Node} → Adds a b → Keeps member_stays a b
member_same r = by_kind member_stays_by (λ k a b q e. member_by k q e) r

this_by : (k : Kind) {a b : Node} → Adds a b → kind_of a ≡ k → is_this_by k b ≡ is_this_by k a
this_by kind.BindingIdent r e = all_first (λ x. is_this_ident (out-Node x).kind) (λ a b q. is_same is_this_ident q) (all_of r (ap is_open e)) 0
this_by _ r e = refl

this_same : {a b : Node} → Adds a b → Keeps is_this a b
this_same r = by_kind is_this_by (λ k a b q e. this_by k q e) r

param_by : (k : Kind) {a b : Node} → Adds a b → kind_of a ≡ k → is_this_param_by k b ≡ is_this_param_by k a
param_by kind.Param r e = all_first is_this (λ a b q. this_same q) (all_of r (ap is_open e)) 0
param_by _ r e = this_same r

param_same : {a b : Node} → Adds a b → Keeps is_this_param a b
param_same r = by_kind is_this_param_by (λ k a b q e. param_by k q e) r

pub stays_same : {a b : Node} → Adds a b → Keeps stays a b
unfolding stays
stays_same r = λ j. item_same r j && member_same r j && is_same specifier_stays r j && not (param_same r j)
