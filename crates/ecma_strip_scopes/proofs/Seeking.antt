-- What is looked for in a node without its types.
use Rattle.std.proofs.Common.{◌≡◌, ℕ, Bool, true, false, List, [], None, refl, ap}
use Rattle.ecma_kind.specs.Sorts.{is_type_wrapper}
use Rattle.ecma_kind.specs.declared.kind.Kind.{Kind}
use Rattle.ecma_kind.specs.declared.kind.Kind.TheVariants as kind
use Rattle.ecma_kind.specs.declared.operators.VarDeclKind.TheVariants as var_kind
use Rattle.ecma_kind.specs.declared.span.Span.{Span}
use Rattle.ecma_tree.specs.Nodes.{absent, node_of}
use Rattle.ecma_tree.specs.Sorted.{is_list}
use Rattle.ecma_tree.specs.declared.node.Node.{Node}
use Rattle.ecma_scope.specs.declared.form.Form.{Form}
use Rattle.ecma_scope.specs.declared.form.Part.{Part}
use Rattle.ecma_scope.specs.declared.form.Part.TheVariants as part
use Rattle.ecma_scope.specs.declared.form.Sought.{Sought}
use Rattle.ecma_scope.specs.Declarations.{in_default, in_item, in_member, in_name, in_scope, in_var, sought_by}
use Rattle.ecma_strip.specs.Stripping.{plain, plain_children, plain_kind}
use Rattle.ecma_hygiene_scopes.specs.DeclaredIds.{id_here}
use Rattle.ecma_strip_scopes.specs.Standing.{has_value}

-- ---- values matter to few kinds

scope-plain : (s v w : Bool) (k : Kind) (i : ℕ) → (has_value k ≡ true → w ≡ v) → in_scope s w (plain_kind k) i ≡ in_scope s v k i
unfolding in_scope plain_kind
scope-plain s v w (kind.TsNamespaceDecl d g) i same = ap (λ (b : Bool). in_scope s b (kind.TsNamespaceDecl d g) i) (same refl)
scope-plain s v w _ i same = refl

item-plain : (s v w : Bool) (k : Kind) (i : ℕ) → (has_value k ≡ true → w ≡ v) → in_item s w (plain_kind k) i ≡ in_item s v k i
unfolding in_item plain_kind
item-plain s v w (kind.FnDecl d) i same = ap (λ (b : Bool). in_item s b (kind.FnDecl d) i) (same refl)
item-plain s v w (kind.TsModuleDecl d g) i same = ap (λ (b : Bool). in_item s b (kind.TsModuleDecl d g) i) (same refl)
item-plain s v w (kind.VarDecl var_kind.Let d) i same = refl
item-plain s v w (kind.VarDecl var_kind.Const d) i same = refl
item-plain s v w (kind.VarDecl var_kind.Var d) i same = refl
item-plain s v w _ i same = refl

default-plain : (s v w : Bool) (k : Kind) (i : ℕ) → (has_value k ≡ true → w ≡ v) → in_default s w (plain_kind k) i ≡ in_default s v k i
unfolding in_default plain_kind
default-plain s v w kind.FnExpr i same = ap (λ (b : Bool). in_default s b kind.FnExpr i) (same refl)
default-plain s v w _ i same = refl

member-plain : (s : Bool) (k : Kind) (i : ℕ) → in_member s (plain_kind k) i ≡ in_member s k i
unfolding in_member plain_kind
member-plain s kind.List i = refl
member-plain s _ i = refl

var-plain : (s : Bool) (k : Kind) → in_var s (plain_kind k) ≡ in_var s k
unfolding in_var plain_kind
var-plain s (kind.VarDecl var_kind.Var d) = refl
var-plain s (kind.VarDecl _ d) = refl
var-plain s _ = refl

name-plain : (f : Form) (s : Bool) (k : Kind) (i : ℕ) → in_name f s (plain_kind k) i ≡ in_name f s k i
unfolding in_name plain_kind
name-plain f s kind.List i = refl
name-plain f s _ i = refl

pub seeks-plain : (p : Part) (s v w : Bool) (k : Kind) (i : ℕ) → (has_value k ≡ true → w ≡ v) → sought_by p s w (plain_kind k) i ≡ sought_by p s v k i
seeks-plain part.Scope s v w k i same = scope-plain s v w k i same
seeks-plain part.Item s v w k i same = item-plain s v w k i same
seeks-plain part.Default s v w k i same = default-plain s v w k i same
seeks-plain part.Member s v w k i same = member-plain s k i
seeks-plain part.Var s v w k i same = var-plain s k
seeks-plain (part.Name f) s v w k i same = name-plain f s k i

pub here-plain : (q : Sought) (k : Kind) → id_here q (plain_kind k) ≡ id_here q k
unfolding plain_kind
here-plain q (kind.Ident s c o) = refl
here-plain q _ = refl

-- ---- what becomes of a node

pub data Becomes (k : Kind) : Type 0 where
  typed : ((span : Span) (cs : List Node) → plain span k cs ≡ absent) → is_list k ≡ false → is_type_wrapper k ≡ false → ((p : Part) (s v : Bool) (i : ℕ) → sought_by p s v k i ≡ None) → ((q : Sought) → id_here q k ≡ []) → Becomes k
  wrapper : is_type_wrapper k ≡ true → ((p : Part) (s v : Bool) (i : ℕ) → sought_by p s v k i ≡ None) → ((q : Sought) → id_here q k ≡ []) → Becomes k
  list : k ≡ kind.List → Becomes k
  itself : ((span : Span) (cs : List Node) → plain span k cs ≡ node_of span (plain_kind k) (plain_children k cs)) → is_list k ≡ false → is_type_wrapper k ≡ false → Becomes k

-- a kind in which nothing is looked for
nothing : (k : Kind) → ((s v : Bool) (i : ℕ) → in_scope s v k i ≡ None) → ((s v : Bool) (i : ℕ) → in_item s v k i ≡ None) → ((s v : Bool) (i : ℕ) → in_default s v k i ≡ None) → ((s : Bool) (i : ℕ) → in_member s k i ≡ None)
    → ((s : Bool) → in_var s k ≡ None) → ((f : Form) (s : Bool) (i : ℕ) → in_name f s k i ≡ None) → (p : Part) (s v : Bool) (i : ℕ) → sought_by p s v k i ≡ None
nothing k a b c d e f part.Scope s v i = a s v i
nothing k a b c d e f part.Item s v i = b s v i
nothing k a b c d e f part.Default s v i = c s v i
nothing k a b c d e f part.Member s v i = d s i
nothing k a b c d e f part.Var s v i = e s
nothing k a b c d e f (part.Name g) s v i = f g s i

pub becomes : (k : Kind) → Becomes k
unfolding plain in_scope in_item in_default in_member in_var in_name
becomes kind.TsTypeAnn = typed (λ span cs. refl) refl refl (nothing kind.TsTypeAnn (λ s v i. refl) (λ s v i. refl) (λ s v i. refl) (λ s i. refl) (λ s. refl) (λ f s i. refl)) (λ q. refl)
becomes kind.TsType = typed (λ span cs. refl) refl refl (nothing kind.TsType (λ s v i. refl) (λ s v i. refl) (λ s v i. refl) (λ s i. refl) (λ s. refl) (λ f s i. refl)) (λ q. refl)
becomes kind.TsTypeParamDecl = typed (λ span cs. refl) refl refl (nothing kind.TsTypeParamDecl (λ s v i. refl) (λ s v i. refl) (λ s v i. refl) (λ s i. refl) (λ s. refl) (λ f s i. refl)) (λ q. refl)
becomes kind.TsTypeParamInstantiation = typed (λ span cs. refl) refl refl (nothing kind.TsTypeParamInstantiation (λ s v i. refl) (λ s v i. refl) (λ s v i. refl) (λ s i. refl) (λ s. refl) (λ f s i. refl)) (λ q. refl)
becomes kind.TsTypeAssertion = wrapper refl (nothing kind.TsTypeAssertion (λ s v i. refl) (λ s v i. refl) (λ s v i. refl) (λ s i. refl) (λ s. refl) (λ f s i. refl)) (λ q. refl)
becomes kind.TsConstAssertion = wrapper refl (nothing kind.TsConstAssertion (λ s v i. refl) (λ s v i. refl) (λ s v i. refl) (λ s i. refl) (λ s. refl) (λ f s i. refl)) (λ q. refl)
becomes kind.TsNonNullExpr = wrapper refl (nothing kind.TsNonNullExpr (λ s v i. refl) (λ s v i. refl) (λ s v i. refl) (λ s i. refl) (λ s. refl) (λ f s i. refl)) (λ q. refl)
becomes kind.TsAsExpr = wrapper refl (nothing kind.TsAsExpr (λ s v i. refl) (λ s v i. refl) (λ s v i. refl) (λ s i. refl) (λ s. refl) (λ f s i. refl)) (λ q. refl)
becomes kind.TsInstantiation = wrapper refl (nothing kind.TsInstantiation (λ s v i. refl) (λ s v i. refl) (λ s v i. refl) (λ s i. refl) (λ s. refl) (λ f s i. refl)) (λ q. refl)
becomes kind.TsSatisfiesExpr = wrapper refl (nothing kind.TsSatisfiesExpr (λ s v i. refl) (λ s v i. refl) (λ s v i. refl) (λ s i. refl) (λ s. refl) (λ f s i. refl)) (λ q. refl)
becomes kind.List = list refl
becomes _ = itself (λ span cs. refl) refl refl

-- in a list the same is looked for in each item
pub list-seeks : (p : Part) (s v : Bool) (i j : ℕ) → sought_by p s v kind.List i ≡ sought_by p s v kind.List j
unfolding in_scope in_item in_default in_member in_var in_name
list-seeks part.Scope s v i j = refl
list-seeks part.Item s v i j = refl
list-seeks part.Default s v i j = refl
list-seeks part.Member s v i j = refl
list-seeks part.Var s v i j = refl
list-seeks (part.Name f) s v i j = refl

-- and nothing of a setter in its `this`
pub setter-seeks : (p : Part) (s v : Bool) → sought_by p s v kind.SetterProp 1 ≡ None
unfolding in_scope in_item in_default in_member in_var in_name
setter-seeks part.Scope s v = refl
setter-seeks part.Item s v = refl
setter-seeks part.Default s v = refl
setter-seeks part.Member s v = refl
setter-seeks part.Var s v = refl
setter-seeks (part.Name f) s v = refl
