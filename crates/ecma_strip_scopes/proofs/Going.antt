-- What goes with the types of a tree declares no value that stays.
use Rattle.std.proofs.Common.{◌≡◌, ◌⊎◌, inl, inr, ℕ, ◌==◌, Bool, true, false, ◌&&◌, not, cond, List, [], ◌∷◌, length, Option, Some, None, refl, sym, ap, ◌∙◌, subst}
use Rattle.ecma_kind.specs.Sorts.{belongs}
use Rattle.ecma_kind.specs.declared.kind.Kind.{Kind}
use Rattle.ecma_kind.specs.declared.kind.Kind.TheVariants as kind
use Rattle.ecma_kind.specs.declared.operators.VarDeclKind.TheVariants as var_kind
use Rattle.ecma_kind.specs.declared.shapes.Shape.{Shape}
use Rattle.ecma_kind.specs.declared.shapes.Sort.TheVariants as sort
use Rattle.ecma_tree.specs.Laws.{HaveShapes}
use Rattle.ecma_tree.specs.Sorted.{HasShape, allows, child_shapes}
use Rattle.ecma_tree.specs.declared.node.Node.{Node, out-Node}
use Rattle.ecma_tree.specs.declared.node.Node.TheViews.{roll-out-Node}
use Rattle.ecma_tree.proofs.ShapeLaws.{node_has_shape}
use Rattle.ecma_scope.specs.declared.form.Form.{Form}
use Rattle.ecma_scope.specs.declared.form.Part.{Part}
use Rattle.ecma_scope.specs.declared.form.Part.TheVariants as part
use Rattle.ecma_scope.specs.declared.form.Sought.{Sought}
use Rattle.ecma_scope.specs.Declarations.{in_default, in_item, in_member, in_name, in_var, sought_by, sought_in}
use Rattle.ecma_strip.specs.Staying.{is_declared, member_stays_by, specifier_stays}
use Rattle.ecma_tree.proofs.Valuing.{is_value-out}
use Rattle.ecma_tree.specs.Values.{is_value, is_value_where, value_by, values_in}
use Rattle.ecma_hygiene.proofs.Telling.{true-false}
use Rattle.ecma_hygiene_scopes.specs.DeclaredIds.{id_here, ids_declared}
use Rattle.ecma_strip_scopes.specs.Going.{is_list_part}
use Rattle.ecma_hygiene_scopes.proofs.Gone.{below-gone, gone, gone-at, gone-both, gone-some, kept, none-some}

pub and-none : (s x : Bool) → x ≡ false → (s && x) ≡ false
and-none true x h = h
and-none false x h = refl

-- ---- shapes

pub parts-have : (n : Node) (shape : Shape) → HasShape shape n → (allows shape (out-Node n).kind ≡ true) × HaveShapes (child_shapes (out-Node n).kind shape (length (out-Node n).children)) (out-Node n).children
parts-have n shape has = (node_has_shape (out-Node n).span (out-Node n).kind (out-Node n).children shape).0 (subst (HasShape shape) (sym (roll-out-Node n)) has)

pub only : (shape : Shape) (cs : List Node) → HaveShapes (shape ∷ []) cs → (c : Node) × (cs ≡ c ∷ []) × HasShape shape c
only shape (c ∷ []) h = (c, refl, h.0)
only shape [] h = absurd h
only shape (c ∷ d ∷ cs) h = absurd h.1

-- a function with a name
abbrev pub is_named : Kind → Bool
is_named (kind.FnDecl declare) = true
is_named kind.FnExpr = true
is_named _ = false

-- ---- what is written `declare`

declared-item : (s v : Bool) (k : Kind) (i : ℕ) (q : Sought) → is_declared k ≡ true → in_item s v k i ≡ Some q → q.stays ≡ false
unfolding is_declared in_item
declared-item s v (kind.FnDecl d) i q is h = gone-at (i == 0) _ _ q (and-none s (not d && v) (ap (λ (b : Bool). not b && v) is)) h
declared-item s v (kind.ClassDecl d) i q is h = gone-at (i == 0) _ _ q (and-none s (not d) (ap not is)) h
declared-item s v (kind.VarDecl var_kind.Let d) i q is h = gone-some _ _ q (and-none s (not d) (ap not is)) h
declared-item s v (kind.VarDecl var_kind.Const d) i q is h = gone-some _ _ q (and-none s (not d) (ap not is)) h
declared-item s v (kind.VarDecl _ d) i q is h = none-some q h
declared-item s v (kind.TsEnumDecl d c) i q is h = gone-at (i == 0) _ _ q (and-none s (not d) (ap not is)) h
declared-item s v (kind.TsModuleDecl d false) i q is h = gone-both v (i == 0) _ _ q (and-none s (not d) (ap not is)) h
declared-item s v (kind.TsModuleDecl d true) i q is h = none-some q h
declared-item s v _ i q is h = absurd (true-false is refl)

declared-var : (s : Bool) (k : Kind) (q : Sought) → is_declared k ≡ true → in_var s k ≡ Some q → q.stays ≡ false
unfolding is_declared in_var
declared-var s (kind.VarDecl var_kind.Var d) q is h = gone-some _ _ q (and-none s (not d) (ap not is)) h
declared-var s (kind.VarDecl _ d) q is h = none-some q h
declared-var s (kind.FnDecl d) q is h = none-some q h
declared-var s (kind.ClassDecl d) q is h = none-some q h
declared-var s (kind.TsEnumDecl d c) q is h = none-some q h
declared-var s (kind.TsModuleDecl d g) q is h = none-some q h
declared-var s _ q is h = absurd (true-false is refl)

-- ---- what is no value

abbrev pub is_exporting : Kind → Bool
is_exporting kind.ExportDecl = true
is_exporting kind.ExportDefaultDecl = true
is_exporting _ = false

none-unless : {A : Type 0} (v : Bool) (o : Option Sought) (q : Sought) → v ≡ false → cond v o None ≡ Some q → A
none-unless true o q is h = absurd (true-false refl is)
none-unless false o q is h = none-some q h

valueless-item : (s v : Bool) (k : Kind) (vs : List Bool) (i : ℕ) (q : Sought) → belongs sort.ModuleItem k ≡ true → value_by k vs ≡ false → v ≡ false → is_exporting k ≡ false
    → in_item s v k i ≡ Some q → q.stays ≡ false
unfolding value_by in_item
valueless-item s v (kind.ImportDecl t) vs i q item val not_v other h = gone-at (i == 0) _ _ q (and-none s (not t) val) h
valueless-item s v (kind.TsImportEqualsDecl e t) vs i q item val not_v other h = gone-at (i == 0) _ _ q (and-none s (not t) val) h
valueless-item s v (kind.FnDecl d) vs i q item val not_v other h = gone-at (i == 0) _ _ q (and-none s (not d && v) (and-none (not d) v not_v)) h
valueless-item s v (kind.TsModuleDecl d false) vs i q item val not_v other h = none-unless v _ q not_v h
valueless-item s v (kind.TsModuleDecl d true) vs i q item val not_v other h = none-some q h
valueless-item s v kind.ExportDecl vs i q item val not_v other h = absurd (true-false refl other)
valueless-item s v kind.ExportDefaultDecl vs i q item val not_v other h = absurd (true-false refl other)
valueless-item s v (kind.TsInterfaceDecl d) vs i q item val not_v other h = none-some q h
valueless-item s v (kind.TsTypeAliasDecl d) vs i q item val not_v other h = none-some q h
valueless-item s v kind.TsNamespaceExportDecl vs i q item val not_v other h = none-some q h
valueless-item s v (kind.NamedExport t) vs i q item val not_v other h = none-some q h
valueless-item s v (kind.ExportAll t) vs i q item val not_v other h = none-some q h
valueless-item s v kind.EmptyStmt vs i q item val not_v other h = none-some q h
valueless-item s v kind.Absent vs i q item val not_v other h = none-some q h
valueless-item s v kind.FnExpr vs i q item val not_v other h = none-some q h
valueless-item s v (kind.Function g a) vs i q item val not_v other h = none-some q h
valueless-item s v (kind.TsNamespaceDecl d g) vs i q item val not_v other h = none-some q h
valueless-item s v kind.TsModuleBlock vs i q item val not_v other h = none-some q h
valueless-item s v kind.List vs i q item val not_v other h = absurd (true-false item refl)
valueless-item s v _ vs i q item val not_v other h = absurd (true-false refl val)

valueless-var : (s : Bool) (k : Kind) (vs : List Bool) (q : Sought) → belongs sort.ModuleItem k ≡ true → value_by k vs ≡ false → is_exporting k ≡ false → in_var s k ≡ Some q → q.stays ≡ false
unfolding value_by in_var
valueless-var s kind.Absent vs q item val other h = none-some q h
valueless-var s kind.EmptyStmt vs q item val other h = none-some q h
valueless-var s (kind.TsInterfaceDecl d) vs q item val other h = none-some q h
valueless-var s (kind.TsTypeAliasDecl d) vs q item val other h = none-some q h
valueless-var s kind.TsNamespaceExportDecl vs q item val other h = none-some q h
valueless-var s (kind.ImportDecl t) vs q item val other h = none-some q h
valueless-var s (kind.NamedExport t) vs q item val other h = none-some q h
valueless-var s (kind.ExportAll t) vs q item val other h = none-some q h
valueless-var s (kind.TsImportEqualsDecl e t) vs q item val other h = none-some q h
valueless-var s kind.ExportDecl vs q item val other h = absurd (true-false refl other)
valueless-var s kind.ExportDefaultDecl vs q item val other h = absurd (true-false refl other)
valueless-var s (kind.FnDecl d) vs q item val other h = none-some q h
valueless-var s kind.FnExpr vs q item val other h = none-some q h
valueless-var s (kind.Function g a) vs q item val other h = none-some q h
valueless-var s (kind.TsModuleDecl d g) vs q item val other h = none-some q h
valueless-var s (kind.TsNamespaceDecl d g) vs q item val other h = none-some q h
valueless-var s kind.TsModuleBlock vs q item val other h = absurd (true-false item refl)
valueless-var s kind.List vs q item val other h = absurd (true-false item refl)
valueless-var s _ vs q item val other h = absurd (true-false refl val)

-- ---- no item is a pattern, or a member of an enum

item-member : (s : Bool) (k : Kind) (i : ℕ) (q : Sought) → belongs sort.ModuleItem k ≡ true → in_member s k i ≡ Some q → q.stays ≡ false
unfolding in_member
item-member s kind.List i q item h = absurd (true-false item refl)
item-member s kind.TsEnumMember i q item h = absurd (true-false item refl)
item-member s _ i q item h = none-some q h

item-name : (f : Form) (s : Bool) (k : Kind) (i : ℕ) (q : Sought) → belongs sort.ModuleItem k ≡ true → in_name f s k i ≡ Some q → q.stays ≡ false
unfolding in_name
item-name f s kind.List i q item h = absurd (true-false item refl)
item-name f s kind.BindingIdent i q item h = absurd (true-false item refl)
item-name f s kind.Param i q item h = absurd (true-false item refl)
item-name f s (kind.TsParamProp a o r) i q item h = absurd (true-false item refl)
item-name f s (kind.VarDeclarator d) i q item h = absurd (true-false item refl)
item-name f s (kind.ArrayPat o) i q item h = absurd (true-false item refl)
item-name f s (kind.ObjectPat o) i q item h = absurd (true-false item refl)
item-name f s kind.RestPat i q item h = absurd (true-false item refl)
item-name f s kind.AssignPat i q item h = absurd (true-false item refl)
item-name f s kind.AssignPatProp i q item h = absurd (true-false item refl)
item-name f s kind.KeyValuePatProp i q item h = absurd (true-false item refl)
item-name f s _ i q item h = none-some q h

pub no-scope : {A : Type 0} → false ≡ true → A
no-scope h = absurd (true-false h refl)

declared-by : (p : Part) (s v : Bool) (k : Kind) (i : ℕ) (q : Sought) → is_list_part p ≡ true → belongs sort.ModuleItem k ≡ true → is_declared k ≡ true → sought_by p s v k i ≡ Some q → q.stays ≡ false
declared-by part.Item s v k i q list item is h = declared-item s v k i q is h
declared-by part.Var s v k i q list item is h = declared-var s k q is h
declared-by part.Member s v k i q list item is h = item-member s k i q item h
declared-by (part.Name f) s v k i q list item is h = item-name f s k i q item h
declared-by part.Scope s v k i q list item is h = no-scope list
declared-by part.Default s v k i q list item is h = no-scope list

valueless-by : (p : Part) (s v : Bool) (k : Kind) (vs : List Bool) (i : ℕ) (q : Sought) → is_list_part p ≡ true → belongs sort.ModuleItem k ≡ true → value_by k vs ≡ false → v ≡ false → is_exporting k ≡ false
    → sought_by p s v k i ≡ Some q → q.stays ≡ false
valueless-by part.Item s v k vs i q list item val not_v other h = valueless-item s v k vs i q item val not_v other h
valueless-by part.Var s v k vs i q list item val not_v other h = valueless-var s k vs q item val other h
valueless-by part.Member s v k vs i q list item val not_v other h = item-member s k i q item h
valueless-by (part.Name f) s v k vs i q list item val not_v other h = item-name f s k i q item h
valueless-by part.Scope s v k vs i q list item val not_v other h = no-scope list
valueless-by part.Default s v k vs i q list item val not_v other h = no-scope list

-- ---- members of classes and specifiers

-- kinds in which no list part is looked for
abbrev pub is_silent : Kind → Bool
is_silent (kind.TsIndexSignature readonly is_static) = true
is_silent (kind.Constructor accessibility is_optional) = true
is_silent (kind.ClassMethod k modifiers) = true
is_silent (kind.PrivateMethod k modifiers) = true
is_silent (kind.ClassProp modifiers readonly declare definite) = true
is_silent (kind.PrivateProp modifiers readonly declare definite) = true
is_silent (kind.ExportNamedSpecifier is_type_only) = true
is_silent kind.TsType = true
is_silent _ = false

abbrev AllNone : Bool → Bool → Kind → ℕ → Type 0
AllNone s v k i = (in_item s v k i ≡ None) × (in_var s k ≡ None) × (in_member s k i ≡ None) × ((f : Form) → in_name f s k i ≡ None)

silent-none : (k : Kind) → is_silent k ≡ true → (s v : Bool) (i : ℕ) → AllNone s v k i
unfolding in_item in_var in_member in_name
silent-none (kind.TsIndexSignature r t) is s v i = (refl, refl, refl, λ f. refl)
silent-none (kind.Constructor a o) is s v i = (refl, refl, refl, λ f. refl)
silent-none (kind.ClassMethod k m) is s v i = (refl, refl, refl, λ f. refl)
silent-none (kind.PrivateMethod k m) is s v i = (refl, refl, refl, λ f. refl)
silent-none (kind.ClassProp m r d e) is s v i = (refl, refl, refl, λ f. refl)
silent-none (kind.PrivateProp m r d e) is s v i = (refl, refl, refl, λ f. refl)
silent-none (kind.ExportNamedSpecifier t) is s v i = (refl, refl, refl, λ f. refl)
silent-none kind.TsType is s v i = (refl, refl, refl, λ f. refl)
silent-none _ is s v i = no-scope is

pub silent-by : (p : Part) (s v : Bool) (k : Kind) (i : ℕ) (q : Sought) → is_list_part p ≡ true → is_silent k ≡ true → sought_by p s v k i ≡ Some q → q.stays ≡ false
silent-by part.Item s v k i q list is h = none-some q (sym (silent-none k is s v i).0 ∙ h)
silent-by part.Var s v k i q list is h = none-some q (sym (silent-none k is s v i).1 ∙ h)
silent-by part.Member s v k i q list is h = none-some q (sym (silent-none k is s v i).2 ∙ h)
silent-by (part.Name f) s v k i q list is h = none-some q (sym ((silent-none k is s v i).3 f) ∙ h)
silent-by part.Scope s v k i q list is h = no-scope list
silent-by part.Default s v k i q list is h = no-scope list

pub member-silent : (k : Kind) (n : Node) → member_stays_by k n ≡ false → is_silent k ≡ true
unfolding member_stays_by
member-silent (kind.TsIndexSignature r t) n h = refl
member-silent (kind.Constructor a o) n h = refl
member-silent (kind.ClassMethod k m) n h = refl
member-silent (kind.PrivateMethod k m) n h = refl
member-silent (kind.ClassProp m r d e) n h = refl
member-silent (kind.PrivateProp m r d e) n h = refl
member-silent _ n h = absurd (true-false refl h)

pub specifier-by : (p : Part) (s v : Bool) (k : Kind) (i : ℕ) (q : Sought) → is_list_part p ≡ true → specifier_stays k ≡ false → sought_by p s v k i ≡ Some q → q.stays ≡ false
unfolding specifier_stays in_item in_var in_member in_name in_default
specifier-by part.Item s v (kind.ImportNamedSpecifier t) i q list is h = gone-at (i == 0) _ _ q (and-none s (not t) is) h
specifier-by part.Scope s v (kind.ImportNamedSpecifier t) i q list is h = no-scope list
specifier-by _ s v (kind.ImportNamedSpecifier t) i q list is h = none-some q h
specifier-by p s v (kind.ExportNamedSpecifier t) i q list is h = silent-by p s v (kind.ExportNamedSpecifier t) i q list refl h
specifier-by p s v kind.TsType i q list is h = silent-by p s v kind.TsType i q list refl h
specifier-by p s v _ i q list is h = absurd (true-false refl is)

-- ---- what goes is no identifier

abbrev pub is_ident : Kind → Bool
is_ident (kind.Ident sym ctxt optional) = true
is_ident _ = false

pub no-id : (q : Sought) (k : Kind) → (is_ident k ≡ true → ⊥) → id_here q k ≡ []
no-id q (kind.Ident s c o) never = absurd (never refl)
no-id q _ never = refl

pub apart : (test : Kind → Bool) (k : Kind) → ((s : List ℕ) (c : ℕ) (o : Bool) → test (kind.Ident s c o) ≡ false) → test k ≡ true → is_ident k ≡ true → ⊥
apart test (kind.Ident s c o) other h is = true-false h (other s c o)
apart test _ other h is = true-false is refl

-- ---- declarations

pub decl-gone : (n : Node) (q : Sought) → is_list_part q.part ≡ true → belongs sort.ModuleItem (out-Node n).kind ≡ true → is_exporting (out-Node n).kind ≡ false → (is_value n ≡ false) ⊎ (is_declared (out-Node n).kind ≡ true)
    → kept (ids_declared n q) ≡ []
unfolding sought_in
decl-gone n q list item other (inl val) = by q.stays refl
  where
    by : (s : Bool) → q.stays ≡ s → kept (ids_declared n q) ≡ []
    by true stays =
        below-gone n q (no-id q (out-Node n).kind (apart (belongs sort.ModuleItem) (out-Node n).kind (λ s c o. refl) item))
        (λ j next h. valueless-by q.part q.stays (is_value_where q.stays n) (out-Node n).kind (values_in true (out-Node n).kind (out-Node n).children) j next list item (sym (is_value-out n) ∙ val) (ap (λ (s : Bool). is_value_where s n) stays ∙ val) other h)
    by false goes = gone n q goes
decl-gone n q list item other (inr is) =
    below-gone n q (no-id q (out-Node n).kind (apart (belongs sort.ModuleItem) (out-Node n).kind (λ s c o. refl) item))
    (λ j next h. declared-by q.part q.stays (is_value_where q.stays n) (out-Node n).kind j next list item is h)

pub decl-item : (k : Kind) → belongs sort.Decl k ≡ true → (belongs sort.ModuleItem k ≡ true) × (is_exporting k ≡ false)
decl-item (kind.ClassDecl d) h = (refl, refl)
decl-item (kind.FnDecl d) h = (refl, refl)
decl-item (kind.VarDecl v d) h = (refl, refl)
decl-item (kind.TsInterfaceDecl d) h = (refl, refl)
decl-item (kind.TsTypeAliasDecl d) h = (refl, refl)
decl-item (kind.TsEnumDecl d c) h = (refl, refl)
decl-item (kind.TsModuleDecl d g) h = (refl, refl)
decl-item _ h = no-scope h
