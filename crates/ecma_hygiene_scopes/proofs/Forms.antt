-- How names are declared, by what was looked for.
use Rattle.std.proofs.Common.{◌≡◌, ℕ, suc, Bool, true, false, List, [], ◌∷◌, map, Option, Some, None, refl, sym, ap, ◌∙◌, subst}
use Rattle.std.specs.List.{All}
use Rattle.std.proofs.lemmas.List.Elements.{All-append, All-cons, All-nil}
use Rattle.ecma_kind.specs.declared.kind.Kind.{Kind}
use Rattle.ecma_kind.specs.declared.kind.Kind.TheVariants as kind
use Rattle.ecma_kind.specs.declared.operators.VarDeclKind.TheVariants as var_kind
use Rattle.ecma_tree.specs.declared.node.Node.{Node, Node-F, ind-Node, out-Node, roll-Node}
use Rattle.ecma_tree.specs.declared.node.Node.TheViews.{out-roll-Node}
use Rattle.ecma_tree.specs.Values.{is_value_where}
use Rattle.ecma_scope.specs.declared.form.Form.{Form}
use Rattle.ecma_scope.specs.declared.form.Form.TheVariants as form
use Rattle.ecma_scope.specs.declared.form.Part.{Part}
use Rattle.ecma_scope.specs.declared.form.Part.TheVariants as part
use Rattle.ecma_scope.specs.declared.form.Sought.{Sought}
use Rattle.ecma_scope.specs.Declarations.{sought_by, sought_in}
use Rattle.ecma_hygiene_scopes.specs.DeclaredIds.{DeclaredId, id_here, ids_at, ids_declared, ids_in}
use Rattle.ecma_hygiene_scopes.proofs.Directly.{ids-out}
use Rattle.ecma_hygiene_scopes.proofs.Ways.{default-next, item-next, name-next, next_default, next_item, next_name, next_var, var-next}

-- the forms of the items of a list of statements
abbrev pub is_item_form : Form → Bool
is_item_form form.Import = true
is_item_form form.Lexical = true
is_item_form form.Class = true
is_item_form form.Function = true
is_item_form form.Enum = true
is_item_form form.Namespace = true
is_item_form _ = false

abbrev pub Allowed : Part → Form → Type 0
Allowed (part.Name f) g = g ≡ f
Allowed part.Item g = is_item_form g ≡ true
Allowed part.Default g = is_item_form g ≡ true
Allowed part.Var g = g ≡ form.Var
Allowed _ g = Unit {0}

abbrev AllowedNext : Option Part → Form → Type 0
AllowedNext (Some p) g = Allowed p g
AllowedNext None g = ⊥

item-forms : (k : Kind) (g : Form) → AllowedNext (next_item k) g → is_item_form g ≡ true
item-forms kind.List g h = h
item-forms kind.SwitchCase g h = h
item-forms kind.ExportDecl g h = h
item-forms kind.ExportDefaultDecl g h = h
item-forms (kind.ImportDecl t) g h = h
item-forms (kind.ImportNamedSpecifier t) g h = ap is_item_form h
item-forms kind.ImportDefaultSpecifier g h = ap is_item_form h
item-forms kind.ImportStarAsSpecifier g h = ap is_item_form h
item-forms (kind.TsImportEqualsDecl e t) g h = ap is_item_form h
item-forms (kind.VarDecl var_kind.Let d) g h = ap is_item_form h
item-forms (kind.VarDecl var_kind.Const d) g h = ap is_item_form h
item-forms (kind.VarDecl _ d) g h = absurd h
item-forms (kind.FnDecl d) g h = ap is_item_form h
item-forms (kind.ClassDecl d) g h = ap is_item_form h
item-forms (kind.TsEnumDecl d c) g h = ap is_item_form h
item-forms (kind.TsModuleDecl d false) g h = ap is_item_form h
item-forms (kind.TsModuleDecl d true) g h = absurd h
item-forms _ g h = absurd h

default-forms : (k : Kind) (g : Form) → AllowedNext (next_default k) g → is_item_form g ≡ true
default-forms kind.FnExpr g h = ap is_item_form h
default-forms kind.ClassExpr g h = ap is_item_form h
default-forms _ g h = absurd h

name-forms : (f : Form) (k : Kind) (g : Form) → AllowedNext (next_name f k) g → g ≡ f
name-forms f kind.List g h = h
name-forms f kind.BindingIdent g h = h
name-forms f kind.Param g h = h
name-forms f (kind.TsParamProp a o r) g h = h
name-forms f (kind.VarDeclarator d) g h = h
name-forms f (kind.ArrayPat o) g h = h
name-forms f (kind.ObjectPat o) g h = h
name-forms f kind.RestPat g h = h
name-forms f kind.AssignPat g h = h
name-forms f kind.AssignPatProp g h = h
name-forms f kind.KeyValuePatProp g h = h
name-forms f _ g h = absurd h

var-forms : (k : Kind) (g : Form) → AllowedNext (next_var k) g → g ≡ form.Var
var-forms (kind.VarDecl var_kind.Var d) g h = h
var-forms (kind.VarDecl _ d) g h = absurd h
var-forms kind.List g h = h
var-forms (kind.Module s) g h = h
var-forms (kind.Script s) g h = h
var-forms kind.TsModuleBlock g h = h
var-forms kind.ExportDecl g h = h
var-forms kind.BlockStmt g h = h
var-forms kind.IfStmt g h = h
var-forms kind.ForStmt g h = h
var-forms kind.ForInStmt g h = h
var-forms (kind.ForOfStmt a) g h = h
var-forms kind.WhileStmt g h = h
var-forms kind.DoWhileStmt g h = h
var-forms kind.LabeledStmt g h = h
var-forms kind.TryStmt g h = h
var-forms kind.CatchClause g h = h
var-forms kind.SwitchStmt g h = h
var-forms kind.SwitchCase g h = h
var-forms _ g h = absurd h

pub allowed-step : (p : Part) (stays value : Bool) (k : Kind) (i : ℕ) (q : Sought) → sought_by p stays value k i ≡ Some q → (g : Form) → Allowed q.part g → Allowed p g
allowed-step (part.Name f) stays value k i q h g a = name-forms f k g (subst (λ (o : Option Part). AllowedNext o g) (sym (name-next f stays k i q h)) a)
allowed-step part.Item stays value k i q h g a = item-forms k g (subst (λ (o : Option Part). AllowedNext o g) (sym (item-next stays value k i q h)) a)
allowed-step part.Default stays value k i q h g a = default-forms k g (subst (λ (o : Option Part). AllowedNext o g) (sym (default-next stays value k i q h)) a)
allowed-step part.Var stays value k i q h g a = var-forms k g (subst (λ (o : Option Part). AllowedNext o g) (sym (var-next stays k q h)) a)
allowed-step part.Scope stays value k i q h g a = tt
allowed-step part.Member stays value k i q h g a = tt

abbrev pub Formed : Part → DeclaredId → Type 0
Formed p d = Allowed p d.form

abbrev Forms : Node → Type 0
Forms m = (q : Sought) → All (Formed q.part) (ids_declared m q)

forms-here : (p : Part) (stays : Bool) (k : Kind) → All (Formed p) (id_here (record { part = p; stays = stays }) k)
forms-here (part.Name f) stays (kind.Ident s c o) = All-cons (Formed (part.Name f)) _ [] refl (All-nil (Formed (part.Name f)))
forms-here p stays (kind.Ident s c o) = All-nil (Formed p)
forms-here p stays _ = All-nil (Formed p)

abbrev AllForms : List Node → Type 0
AllForms ms = (into : ℕ → Option Sought) (p : Part) (i : ℕ) → ((j : ℕ) (q : Sought) → into j ≡ Some q → (g : Form) → Allowed q.part g → Allowed p g) → All (Formed p) (ids_in into i (map ids_declared ms))

forms-at : (m : Node) → Forms m → (p : Part) (o : Option Sought) → ((q : Sought) → o ≡ Some q → (g : Form) → Allowed q.part g → Allowed p g) → All (Formed p) (ids_at o (ids_declared m))
forms-at m forms p None step = All-nil (Formed p)
forms-at m forms p (Some q) step = λ k d lt. step q refl _ (forms q k d lt)

all-forms : (ms : List ((m : Node) × Forms m)) → AllForms (map (λ e. e.0) ms)
all-forms [] into p i step = All-nil (Formed p)
all-forms (m ∷ ms) into p i step =
    All-append (Formed p) (ids_at (into i) (ids_declared m.0)) (ids_in into (suc i) (map ids_declared (map (λ e. e.0) ms))) (forms-at m.0 m.1 p (into i) (step i)) (all-forms ms into p (suc i) step)

layer-forms : (m : Node) → AllForms (out-Node m).children → Forms m
unfolding sought_in
layer-forms m children q =
    subst (All (Formed q.part)) (sym (ids-out m q))
    (All-append (Formed q.part) (id_here q (out-Node m).kind) (ids_in (sought_in q m) 0 (map ids_declared (out-Node m).children)) (forms-here q.part q.stays (out-Node m).kind)
    (children (sought_in q m) q.part 0 (λ j found is g a. allowed-step q.part q.stays (is_value_where q.stays m) (out-Node m).kind j found is g a)))

pub forms : (m : Node) → Forms m
forms = ind-Node Forms (λ x y is.
    layer-forms (roll-Node x) (subst AllForms (ap (λ (z : Node-F Node). z.children) is ∙ sym (ap (λ (z : Node-F Node). z.children) (out-roll-Node x))) (all-forms y.children)))

each-forms : (ms : List Node) → AllForms ms
each-forms [] into p i step = All-nil (Formed p)
each-forms (m ∷ ms) into p i step =
    All-append (Formed p) (ids_at (into i) (ids_declared m)) (ids_in into (suc i) (map ids_declared ms)) (forms-at m (forms m) p (into i) (step i)) (each-forms ms into p (suc i) step)

-- so where what is looked for in the children declares in these forms, the node does
pub forms-by : (m : Node) (q : Sought) (p : Part) → All (Formed p) (id_here q (out-Node m).kind) → ((j : ℕ) (found : Sought) → sought_in q m j ≡ Some found → (g : Form) → Allowed found.part g → Allowed p g) → All (Formed p) (ids_declared m q)
forms-by m q p here step =
    subst (All (Formed p)) (sym (ids-out m q))
    (All-append (Formed p) (id_here q (out-Node m).kind) (ids_in (sought_in q m) 0 (map ids_declared (out-Node m).children)) here (each-forms (out-Node m).children (sought_in q m) p 0 step))
