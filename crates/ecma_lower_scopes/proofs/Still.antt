-- The kinds of which an assignment of a module consists, and of which what is written for it does: they open no scope, and declare nothing themselves.
use Rattle.std.proofs.Common.{◌≡◌, ◌∙◌, ℕ, Bool, true, false, refl, ap, List, []}
use Rattle.ecma_kind.specs.declared.kind.Kind.{Kind}
use Rattle.ecma_kind.specs.declared.kind.Kind.TheVariants as kind
use Rattle.ecma_kind.specs.declared.operators.AssignOp.{AssignOp}
use Rattle.ecma_kind.specs.declared.operators.VarDeclKind.TheVariants as var_kind
use Rattle.ecma_kind.specs.declared.span.Span.{Span}
use Rattle.ecma_rules.specs.Children.{kind_of}
use Rattle.ecma_tree.specs.Sorted.{is_absent}
use Rattle.ecma_tree.specs.Values.{is_value_where}
use Rattle.ecma_tree.specs.Nodes.{node_of}
use Rattle.ecma_tree.specs.declared.node.Node.{Node, Node-F, out-Node}
use Rattle.ecma_tree.specs.declared.node.Node.TheViews.{out-roll-Node}
use Rattle.ecma_scope.specs.declared.form.Part.{Part}
use Rattle.ecma_scope.specs.declared.form.Part.TheVariants as part
use Rattle.ecma_scope.specs.declared.form.Sought.{Sought}
use Rattle.ecma_scope.specs.declared.role.Role.{Role}
use Rattle.ecma_scope.specs.declared.role.Role.TheVariants as role
use Rattle.ecma_scope.specs.Declarations.{declared_here, in_default, in_item, in_scope, sought_by, sought_in}
use Rattle.ecma_scope.specs.Scopes.{is_there, opens, opens_by, role_by, role_in}
use Rattle.ecma_hygiene.specs.Ids.{declared_by}
use Rattle.ecma_strip_rewriting.proofs.PlainKinds.{no}

-- a node of these parts has them
pub kind-of : (span : Span) (k : Kind) (cs : List Node) → kind_of (node_of span k cs) ≡ k
kind-of span k cs = let parts : Node-F Node = record { span = span; kind = k; children = cs } in ap (λ (z : Node-F Node). z.kind) (out-roll-Node parts)

pub children-of : (span : Span) (k : Kind) (cs : List Node) → (out-Node (node_of span k cs)).children ≡ cs
children-of span k cs = let parts : Node-F Node = record { span = span; kind = k; children = cs } in ap (λ (z : Node-F Node). z.children) (out-roll-Node parts)

abbrev pub list_at : Span → List Node → Node
list_at place ns = node_of place kind.List ns

-- ---- the kinds

abbrev pub is_still : Kind → Bool
is_still kind.List = true
is_still (kind.VarDecl var_kind.Const declare) = true
is_still (kind.VarDeclarator definite) = true
is_still kind.BindingIdent = true
is_still kind.ExportDecl = true
is_still kind.ExprStmt = true
is_still (kind.AssignExpr op) = true
is_still kind.MemberExpr = true
is_still kind.CallExpr = true
is_still (kind.IdentName text) = true
is_still (kind.TsImportEqualsDecl is_export is_type_only) = true
is_still kind.TsQualifiedName = true
is_still kind.TsExternalModuleRef = true
is_still kind.TsExportAssignment = true
is_still _ = false

-- what is so of each of them
pub still : (P : Kind → Type 0) → P kind.List → ((d : Bool) → P (kind.VarDecl var_kind.Const d)) → ((d : Bool) → P (kind.VarDeclarator d)) → P kind.BindingIdent → P kind.ExportDecl
    → P kind.ExprStmt → ((op : AssignOp) → P (kind.AssignExpr op)) → P kind.MemberExpr → P kind.CallExpr → ((text : List ℕ) → P (kind.IdentName text))
    → ((e t : Bool) → P (kind.TsImportEqualsDecl e t)) → P kind.TsQualifiedName → P kind.TsExternalModuleRef → P kind.TsExportAssignment → (k : Kind) → is_still k ≡ true → P k
still P list variable declarator bound exported statement assigned member called key imported qualified required export kind.List h = list
still P list variable declarator bound exported statement assigned member called key imported qualified required export (kind.VarDecl var_kind.Const d) h = variable d
still P list variable declarator bound exported statement assigned member called key imported qualified required export (kind.VarDeclarator d) h = declarator d
still P list variable declarator bound exported statement assigned member called key imported qualified required export kind.BindingIdent h = bound
still P list variable declarator bound exported statement assigned member called key imported qualified required export kind.ExportDecl h = exported
still P list variable declarator bound exported statement assigned member called key imported qualified required export kind.ExprStmt h = statement
still P list variable declarator bound exported statement assigned member called key imported qualified required export (kind.AssignExpr op) h = assigned op
still P list variable declarator bound exported statement assigned member called key imported qualified required export kind.MemberExpr h = member
still P list variable declarator bound exported statement assigned member called key imported qualified required export kind.CallExpr h = called
still P list variable declarator bound exported statement assigned member called key imported qualified required export (kind.IdentName text) h = key text
still P list variable declarator bound exported statement assigned member called key imported qualified required export (kind.TsImportEqualsDecl e t) h = imported e t
still P list variable declarator bound exported statement assigned member called key imported qualified required export kind.TsQualifiedName h = qualified
still P list variable declarator bound exported statement assigned member called key imported qualified required export kind.TsExternalModuleRef h = required
still P list variable declarator bound exported statement assigned member called key imported qualified required export kind.TsExportAssignment h = export
still P list variable declarator bound exported statement assigned member called key imported qualified required export _ h = no h

-- those that stand below the right side of an import, or what is written for it
abbrev pub is_inner : Kind → Bool
is_inner kind.List = true
is_inner (kind.AssignExpr op) = true
is_inner kind.MemberExpr = true
is_inner kind.CallExpr = true
is_inner kind.TsQualifiedName = true
is_inner kind.TsExternalModuleRef = true
is_inner _ = false

pub inner-plain : (k : Kind) (i : ℕ) → is_inner k ≡ true → role_by role.Plain k false i ≡ role.Plain
unfolding role_by
inner-plain kind.List i h = refl
inner-plain (kind.AssignExpr op) i h = refl
inner-plain kind.MemberExpr i h = refl
inner-plain kind.CallExpr i h = refl
inner-plain kind.TsQualifiedName i h = refl
inner-plain kind.TsExternalModuleRef i h = refl
inner-plain _ i h = no h

-- ---- they open no scope, and it does not matter which children are there

opens-by : (r : Role) (there : Bool) (k : Kind) → is_still k ≡ true → opens_by r k there ≡ false
unfolding opens_by
opens-by r there = still (λ k. opens_by r k there ≡ false) refl (λ d. refl) (λ d. refl) refl refl refl (λ op. refl) refl refl (λ text. refl) (λ e t. refl) refl refl refl

pub opens-none : (r : Role) (n : Node) (k : Kind) → kind_of n ≡ k → is_still k ≡ true → opens r n ≡ false
opens-none r n k e h = ap (λ z. opens_by r z (is_there (out-Node n).children 0)) e ∙ opens-by r (is_there (out-Node n).children 0) k h

-- nor do what is missing and an identifier
abbrev pub is_leaf : Kind → Bool
is_leaf kind.Absent = true
is_leaf (kind.Ident sym ctxt optional) = true
is_leaf _ = false

leaf-by : (r : Role) (there : Bool) (k : Kind) → is_leaf k ≡ true → opens_by r k there ≡ false
unfolding opens_by
leaf-by r there kind.Absent h = refl
leaf-by r there (kind.Ident sym ctxt optional) h = refl
leaf-by r there _ h = no h

pub opens-leaf : (r : Role) (n : Node) (k : Kind) → kind_of n ≡ k → is_leaf k ≡ true → opens r n ≡ false
opens-leaf r n k e h = ap (λ z. opens_by r z (is_there (out-Node n).children 0)) e ∙ leaf-by r (is_there (out-Node n).children 0) k h

role-by : (r : Role) (there : Bool) (i : ℕ) (k : Kind) → is_still k ≡ true → role_by r k there i ≡ role_by r k false i
unfolding role_by
role-by r there i = still (λ k. role_by r k there i ≡ role_by r k false i) refl (λ d. refl) (λ d. refl) refl refl refl (λ op. refl) refl refl (λ text. refl) (λ e t. refl) refl refl refl

pub role-is : (r : Role) (n : Node) (k : Kind) (i : ℕ) → kind_of n ≡ k → is_still k ≡ true → role_in r n i ≡ role_by r k false i
role-is r n k i e h = ap (λ z. role_by r z (is_there (out-Node n).children 1) i) e ∙ role-by r (is_there (out-Node n).children 1) i k h

-- ---- what is looked for in their children does not depend on whether they are values

item-by : (stays v w : Bool) (i : ℕ) (k : Kind) → is_still k ≡ true → in_item stays v k i ≡ in_item stays w k i
unfolding in_item
item-by stays v w i =
    still (λ k. in_item stays v k i ≡ in_item stays w k i) refl (λ d. refl) (λ d. refl) refl refl refl (λ op. refl) refl refl (λ text. refl) (λ e t. refl) refl refl refl

default-by : (stays v w : Bool) (i : ℕ) (k : Kind) → is_still k ≡ true → in_default stays v k i ≡ in_default stays w k i
unfolding in_default
default-by stays v w i =
    still (λ k. in_default stays v k i ≡ in_default stays w k i) refl (λ d. refl) (λ d. refl) refl refl refl (λ op. refl) refl refl (λ text. refl) (λ e t. refl) refl refl refl

scope-by : (stays v w : Bool) (i : ℕ) (k : Kind) → is_still k ≡ true → in_scope stays v k i ≡ in_scope stays w k i
unfolding in_scope
scope-by stays v w i =
    still (λ k. in_scope stays v k i ≡ in_scope stays w k i) refl (λ d. refl) (λ d. refl) refl refl refl (λ op. refl) refl refl (λ text. refl) (λ e t. refl) refl refl refl

sought-by : (p : Part) (stays v w : Bool) (k : Kind) (i : ℕ) → is_still k ≡ true → sought_by p stays v k i ≡ sought_by p stays w k i
sought-by part.Scope stays v w k i h = scope-by stays v w i k h
sought-by part.Item stays v w k i h = item-by stays v w i k h
sought-by part.Default stays v w k i h = default-by stays v w i k h
sought-by part.Member stays v w k i h = refl
sought-by part.Var stays v w k i h = refl
sought-by (part.Name f) stays v w k i h = refl

pub sought-is : (s : Sought) (n : Node) (k : Kind) (i : ℕ) → kind_of n ≡ k → is_still k ≡ true → sought_in s n i ≡ sought_by s.part s.stays false k i
unfolding sought_in
sought-is s n k i e h = ap (λ z. sought_by s.part s.stays (is_value_where s.stays n) z i) e ∙ sought-by s.part s.stays (is_value_where s.stays n) false k i h

-- ---- they are no names, and are there

pub none-declared : (s : Sought) (k : Kind) → is_still k ≡ true → declared_here s k ≡ []
unfolding declared_here
none-declared s = still (λ k. declared_here s k ≡ []) refl (λ d. refl) (λ d. refl) refl refl refl (λ op. refl) refl refl (λ text. refl) (λ e t. refl) refl refl refl

pub no-id : (b : Bool) (k : Kind) → is_still k ≡ true → declared_by b k ≡ []
no-id false k h = refl
no-id true k h = still (λ z. declared_by true z ≡ []) refl (λ d. refl) (λ d. refl) refl refl refl (λ op. refl) refl refl (λ text. refl) (λ e t. refl) refl refl refl k h

pub still-there : (k : Kind) → is_still k ≡ true → is_absent k ≡ false
still-there = still (λ k. is_absent k ≡ false) refl (λ d. refl) (λ d. refl) refl refl refl (λ op. refl) refl refl (λ text. refl) (λ e t. refl) refl refl refl
