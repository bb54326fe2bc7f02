-- In a sorted module nodes stand where they may.
use Rattle.std.proofs.Common.{◌≡◌, ℕ, zero, suc, ◌==◌, Bool, true, false, ◌&&◌, ◌||◌, not, cond, List, [], ◌∷◌, map, length, replicate, Option, is_some, refl, sym, ap, ◌∙◌, subst}
use Rattle.std.specs.List.{All, list_all}
use Rattle.std.proofs.lemmas.List.Elements.{All-append, All-cons, All-nil}
use Rattle.ecma_kind.specs.Sorts.{belongs}
use Rattle.ecma_kind.specs.declared.kind.Kind.{Kind}
use Rattle.ecma_kind.specs.declared.kind.Kind.TheVariants as kind
use Rattle.ecma_kind.specs.declared.operators.Accessibility.{Accessibility}
use Rattle.ecma_kind.specs.declared.shapes.Count.{Count}
use Rattle.ecma_kind.specs.declared.shapes.Count.TheVariants.{One, Maybe, Many, MaybeMany, Holes}
use Rattle.ecma_kind.specs.declared.shapes.Shape.{Shape}
use Rattle.ecma_kind.specs.declared.shapes.Sort.{Sort}
use Rattle.ecma_kind.specs.declared.shapes.Sort.TheVariants as sort
use Rattle.ecma_tree.specs.declared.node.Node.{Node, Node-F, ind-Node, out-Node, roll-Node}
use Rattle.ecma_tree.specs.declared.node.Node.TheViews.{out-roll-Node, roll-out-Node}
use Rattle.ecma_tree.specs.Laws.{HaveShapes}
use Rattle.ecma_tree.specs.Sorted.{HasShape, HasSort, allows, allows_by, child_shapes, is_absent, is_list, item_shape, many, maybe, one}
use Rattle.ecma_tree.proofs.ShapeLaws.{node_has_shape}
use Rattle.ecma_scope.specs.declared.role.Role.{Role}
use Rattle.ecma_scope.specs.declared.role.Role.TheVariants as role
use Rattle.ecma_scope.specs.Scopes.{at_child, is_ambient, is_there, of_exports, of_specifier, opens, opens_by, passes_ambient, passes_in_list, role_by, role_in}
use Rattle.ecma_hygiene.specs.Renamed.{kind_is_absent}
use Rattle.ecma_hygiene.specs.Walks.{gathered_from}
use Rattle.ecma_hygiene.proofs.Telling.{and-left, and-right, true-false}
use Rattle.ecma_hygiene.proofs.Walking.{gathered-out}
use Rattle.ecma_hygiene_scopes.specs.Seats.{Seat, seat_here, seats_at}
use Rattle.ecma_hygiene_scopes.proofs.Goodness.{Nested, is_body_kind, is_class_expr, is_module_kind}
use Rattle.ecma_hygiene_scopes.proofs.Ways.{next_var}

-- ---- sorts of which no module is

abbrev tame : Sort → Bool
tame sort.Program = false
tame sort.Module = false
tame sort.Script = false
tame sort.TsNamespaceBody = false
tame _ = true

no-module : (s : Sort) (x : Option (List ℕ)) → tame s ≡ true → belongs s (kind.Module x) ≡ false
no-module sort.Program x h = absurd (true-false h refl)
no-module sort.Module x h = absurd (true-false h refl)
no-module sort.Script x h = absurd (true-false h refl)
no-module sort.TsNamespaceBody x h = absurd (true-false h refl)
no-module _ x h = refl

no-script : (s : Sort) (x : Option (List ℕ)) → tame s ≡ true → belongs s (kind.Script x) ≡ false
no-script sort.Program x h = absurd (true-false h refl)
no-script sort.Module x h = absurd (true-false h refl)
no-script sort.Script x h = absurd (true-false h refl)
no-script sort.TsNamespaceBody x h = absurd (true-false h refl)
no-script _ x h = refl

no-block : (s : Sort) → tame s ≡ true → belongs s kind.TsModuleBlock ≡ false
no-block sort.Program h = absurd (true-false h refl)
no-block sort.Module h = absurd (true-false h refl)
no-block sort.Script h = absurd (true-false h refl)
no-block sort.TsNamespaceBody h = absurd (true-false h refl)
no-block _ h = refl

no-list : (s : Sort) → belongs s kind.List ≡ false
no-list sort.Program = refl
no-list _ = refl

count-by : (c : Count) (s : Sort) (k : Kind) → is_absent k ≡ false → is_list k ≡ false → belongs s k ≡ false → allows_by c s k ≡ false
count-by One s k a l b = b
count-by Maybe s k a l b = (λ j. a j || b j)
count-by Many s k a l b = l
count-by MaybeMany s k a l b = (λ j. a j || l j)
count-by Holes s k a l b = l

tame-kind : (c : Count) (s : Sort) (k : Kind) → tame s ≡ true → allows_by c s k ≡ true → is_module_kind k ≡ false
tame-kind c s (kind.Module x) t h = absurd (true-false h (count-by c s (kind.Module x) refl refl (no-module s x t)))
tame-kind c s (kind.Script x) t h = absurd (true-false h (count-by c s (kind.Script x) refl refl (no-script s x t)))
tame-kind c s kind.TsModuleBlock t h = absurd (true-false h (count-by c s kind.TsModuleBlock refl refl (no-block s t)))
tame-kind c s _ t h = refl

-- ---- lists of them

abbrev is_many : Count → Bool
is_many One = false
is_many Maybe = false
is_many _ = true

abbrev tame_list : Shape → Bool
tame_list s = not (is_many s.count) || tame s.sort

item-one : (c : Count) (s : Sort) → tame_list (item_shape (record { count = c; sort = s })) ≡ true
item-one Holes s = refl
item-one _ s = refl

all-replicate : (f : Shape → Bool) (s : Shape) (n : ℕ) → f s ≡ true → list_all f (replicate n s) ≡ true
all-replicate f s zero h = refl
all-replicate f s (suc n) h = (λ j. h j && all-replicate f s n h j)

kinds-many : (k : Kind) (shape : Shape) (n : ℕ) → list_all tame_list (child_shapes k shape n) ≡ true
kinds-many kind.List shape n = all-replicate tame_list (item_shape shape) n (item-one shape.count shape.sort)
kinds-many kind.SeqExpr shape zero = refl
kinds-many kind.SeqExpr shape (suc n) = all-replicate tame_list (one sort.Expr) (suc n) refl
kinds-many _ shape n = refl

child-list : (c : Count) (s : Sort) (k : Kind) → tame_list (record { count = c; sort = s }) ≡ true → allows_by c s k ≡ true → is_list k ≡ true → tame s ≡ true
child-list One s kind.List t h l = absurd (true-false h (no-list s))
child-list Maybe s kind.List t h l = absurd (true-false h (no-list s))
child-list _ s kind.List t h l = t
child-list c s k t h l = absurd (true-false l refl)

abbrev tame_here : Shape → Bool
tame_here s = tame s.sort

abbrev ListTame : Kind → Shape → Type 0
ListTame k shape = is_list k ≡ true → tame shape.sort ≡ true

var-tame : (k : Kind) (shape : Shape) (n : ℕ) → is_some (next_var k) ≡ true → ListTame k shape → list_all tame_here (child_shapes k shape n) ≡ true
var-tame kind.List shape n var list = all-replicate tame_here (item_shape shape) n (list refl)
var-tame (kind.VarDecl v d) shape n var list = refl
var-tame (kind.Module s) shape n var list = refl
var-tame (kind.Script s) shape n var list = refl
var-tame kind.TsModuleBlock shape n var list = refl
var-tame kind.ExportDecl shape n var list = refl
var-tame kind.BlockStmt shape n var list = refl
var-tame kind.IfStmt shape n var list = refl
var-tame kind.ForStmt shape n var list = refl
var-tame kind.ForInStmt shape n var list = refl
var-tame (kind.ForOfStmt a) shape n var list = refl
var-tame kind.WhileStmt shape n var list = refl
var-tame kind.DoWhileStmt shape n var list = refl
var-tame kind.LabeledStmt shape n var list = refl
var-tame kind.TryStmt shape n var list = refl
var-tame kind.CatchClause shape n var list = refl
var-tame kind.SwitchStmt shape n var list = refl
var-tame kind.SwitchCase shape n var list = refl
var-tame _ shape n var list = absurd (true-false var refl)

-- ---- the shapes of default exports, of bodies, and of what is ambient

abbrev default_by : Count → Sort → Bool
default_by One sort.DefaultDecl = true
default_by _ _ = false

abbrev body_by : Count → Sort → Bool
body_by Maybe sort.BlockStmt = true
body_by One sort.BlockStmtOrExpr = true
body_by _ _ = false

-- the sorts of what stands directly in a namespace
abbrev bodiless : Sort → Bool
bodiless sort.ModuleItem = true
bodiless sort.Decl = true
bodiless sort.Ident = true
bodiless sort.TsModuleName = true
bodiless sort.TsNamespaceBody = true
bodiless _ = false

abbrev RoleShape : Role → Shape → Type 0
RoleShape role.Default shape = default_by shape.count shape.sort ≡ true
RoleShape role.Body shape = body_by shape.count shape.sort ≡ true
RoleShape role.Ambient shape = bodiless shape.sort ≡ true
RoleShape _ shape = Unit {0}

default-allows : (c : Count) (s : Sort) (k : Kind) → default_by c s ≡ true → allows_by c s k ≡ true → belongs sort.DefaultDecl k ≡ true
default-allows One sort.DefaultDecl k d h = h
default-allows One _ k d h = absurd (true-false d refl)
default-allows _ s k d h = absurd (true-false d refl)

and-none : (a : Bool) → (a && false) ≡ false
and-none true = refl
and-none false = refl

default-kind : (k : Kind) (there : Bool) → belongs sort.DefaultDecl k ≡ true → opens_by role.Default k there ≡ true → is_class_expr k ≡ true
unfolding opens_by
default-kind kind.ClassExpr there b o = refl
default-kind kind.FnExpr there b o = absurd (true-false o (and-none there))
default-kind (kind.TsInterfaceDecl d) there b o = absurd (true-false o refl)
default-kind _ there b o = absurd (true-false b refl)

abbrev is_body_sort : Kind → Bool
is_body_sort k = is_absent k || (belongs sort.BlockStmt k || belongs sort.BlockStmtOrExpr k)

body-absent : (a b c : Bool) → (a || b) ≡ true → (a || (b || c)) ≡ true
body-absent true b c h = refl
body-absent false true c h = refl
body-absent false false c h = cc

body-either : (a b c : Bool) → c ≡ true → (a || (b || c)) ≡ true
body-either true b c h = refl
body-either false true c h = refl
body-either false false c h = h

body-allows : (c : Count) (s : Sort) (k : Kind) → body_by c s ≡ true → allows_by c s k ≡ true → is_body_sort k ≡ true
body-allows Maybe sort.BlockStmt k d h = body-absent (is_absent k) (belongs sort.BlockStmt k) (belongs sort.BlockStmtOrExpr k) h
body-allows One sort.BlockStmtOrExpr k d h = body-either (is_absent k) (belongs sort.BlockStmt k) (belongs sort.BlockStmtOrExpr k) h
body-allows Maybe _ k d h = absurd (true-false d refl)
body-allows One _ k d h = absurd (true-false d refl)
body-allows _ s k d h = absurd (true-false d refl)

body-kind : (k : Kind) (there : Bool) → is_body_sort k ≡ true → opens_by role.Body k there ≡ true → is_body_kind k ≡ true
unfolding opens_by
body-kind kind.BlockStmt there b o = refl
body-kind kind.FnExpr there b o = refl
body-kind kind.ClassExpr there b o = refl
body-kind (kind.ArrowExpr x y) there b o = refl
body-kind (kind.Module s) there b o = absurd (true-false b refl)
body-kind (kind.Script s) there b o = absurd (true-false b refl)
body-kind kind.TsModuleBlock there b o = absurd (true-false b refl)
body-kind (kind.TsNamespaceDecl d g) there b o = absurd (true-false b refl)
body-kind (kind.Function g a) there b o = absurd (true-false b refl)
body-kind (kind.Constructor a p) there b o = absurd (true-false b refl)
body-kind kind.GetterProp there b o = absurd (true-false b refl)
body-kind kind.SetterProp there b o = absurd (true-false b refl)
body-kind (kind.ClassDecl d) there b o = absurd (true-false b refl)
body-kind (kind.TsEnumDecl d c) there b o = absurd (true-false b refl)
body-kind kind.SwitchStmt there b o = absurd (true-false b refl)
body-kind kind.ForStmt there b o = absurd (true-false b refl)
body-kind kind.ForInStmt there b o = absurd (true-false b refl)
body-kind (kind.ForOfStmt a) there b o = absurd (true-false b refl)
body-kind kind.CatchClause there b o = absurd (true-false b refl)
body-kind _ there b o = absurd (true-false o refl)

-- ---- the roles of children have their shapes

abbrev RolesFit : (ℕ → Role) → ℕ → List Shape → Type 0
RolesFit roles i [] = Unit {0}
RolesFit roles i (s ∷ shapes) = RoleShape (roles i) s × RolesFit roles (suc i) shapes

abbrev is_special : Role → Bool
is_special role.Default = true
is_special role.Body = true
is_special role.Ambient = true
is_special _ = false

plain-role : (r : Role) (s : Shape) → is_special r ≡ false → RoleShape r s
plain-role role.Default s h = absurd (true-false refl h)
plain-role role.Body s h = absurd (true-false refl h)
plain-role role.Ambient s h = absurd (true-false refl h)
plain-role _ s h = tt

plain-fit : (roles : ℕ → Role) (i : ℕ) (shapes : List Shape) → ((j : ℕ) → is_special (roles j) ≡ false) → RolesFit roles i shapes
plain-fit roles i [] plain = tt
plain-fit roles i (s ∷ shapes) plain = (plain-role (roles i) s (plain i), plain-fit roles (suc i) shapes plain)

replicate-fit : (roles : ℕ → Role) (i : ℕ) (s : Shape) (n : ℕ) → ((j : ℕ) → RoleShape (roles j) s) → RolesFit roles i (replicate n s)
replicate-fit roles i s zero fit = tt
replicate-fit roles i s (suc n) fit = (fit i, replicate-fit roles (suc i) s n fit)

list-role : (r : Role) (s : Shape) → RoleShape r s → RoleShape (passes_in_list r) (item_shape s)
list-role role.Sourced s fits = tt
list-role role.Ambient s fits = fits
list-role _ s fits = tt

ambient-role : (b : Bool) (s : Shape) → bodiless s.sort ≡ true → RoleShape (passes_ambient b) s
ambient-role true s h = h
ambient-role false s h = tt

abbrev has_special : Kind → Bool
has_special kind.List = true
has_special kind.ExportDecl = true
has_special (kind.TsModuleDecl d g) = true
has_special (kind.TsNamespaceDecl d g) = true
has_special kind.TsModuleBlock = true
has_special kind.ExportDefaultDecl = true
has_special (kind.Function g a) = true
has_special (kind.ArrowExpr a g) = true
has_special (kind.Constructor a o) = true
has_special kind.GetterProp = true
has_special kind.SetterProp = true
has_special _ = false

at-role : (r : Role) (wanted i : ℕ) → is_special r ≡ false → is_special (at_child r wanted i) ≡ false
at-role r wanted i h = elim (i == wanted) as (λ b. is_special (cond b r role.Plain) ≡ false) [ true ↦ h | false ↦ refl ]

in-specifier : (r : Role) (i : ℕ) → is_special (of_specifier r i) ≡ false
in-specifier role.Sourced i = refl
in-specifier _ i = at-role role.Name 1 i refl

in-exports : (b : Bool) (i : ℕ) → is_special (of_exports b i) ≡ false
in-exports true i = at-role role.Sourced 0 i refl
in-exports false i = refl

not-special : (r : Role) (k : Kind) (sourced : Bool) (i : ℕ) → has_special k ≡ false → is_special (role_by r k sourced i) ≡ false
unfolding role_by
not-special r kind.List sourced i h = absurd (true-false refl h)
not-special r kind.LabeledStmt sourced i h = at-role role.Name 0 i refl
not-special r (kind.ImportNamedSpecifier t) sourced i h = at-role role.Name 1 i refl
not-special r (kind.ExportNamedSpecifier t) sourced i h = in-specifier r i
not-special r (kind.NamedExport t) sourced i h = in-exports sourced i
not-special r kind.CatchClause sourced i h = at-role role.CatchBody 1 i refl
not-special r kind.ExportDecl sourced i h = absurd (true-false refl h)
not-special r (kind.TsModuleDecl d g) sourced i h = absurd (true-false refl h)
not-special r (kind.TsNamespaceDecl d g) sourced i h = absurd (true-false refl h)
not-special r kind.TsModuleBlock sourced i h = absurd (true-false refl h)
not-special r kind.ExportDefaultDecl sourced i h = absurd (true-false refl h)
not-special r (kind.Function g a) sourced i h = absurd (true-false refl h)
not-special r (kind.ArrowExpr a g) sourced i h = absurd (true-false refl h)
not-special r (kind.Constructor a o) sourced i h = absurd (true-false refl h)
not-special r kind.GetterProp sourced i h = absurd (true-false refl h)
not-special r kind.SetterProp sourced i h = absurd (true-false refl h)
not-special r _ sourced i h = refl

roles-fit : (r : Role) (k : Kind) (sourced : Bool) (shape : Shape) (n : ℕ) → RoleShape r shape → RolesFit (λ i. role_by r k sourced i) 0 (child_shapes k shape n)
unfolding role_by
roles-fit r kind.List sourced shape n fits = replicate-fit (λ i. passes_in_list r) 0 (item_shape shape) n (λ j. list-role r shape fits)
roles-fit r kind.ExportDecl sourced shape n fits = (ambient-role (is_ambient r) (one sort.Decl) refl, tt)
roles-fit r (kind.TsModuleDecl d g) sourced shape n fits = (ambient-role (d || is_ambient r) (one sort.TsModuleName) refl, (ambient-role (d || is_ambient r) (maybe sort.TsNamespaceBody) refl, tt))
roles-fit r (kind.TsNamespaceDecl d g) sourced shape n fits = (ambient-role (d || is_ambient r) (one sort.Ident) refl, (ambient-role (d || is_ambient r) (one sort.TsNamespaceBody) refl, tt))
roles-fit r kind.TsModuleBlock sourced shape n fits = (ambient-role (is_ambient r) (many sort.ModuleItem) refl, tt)
roles-fit r kind.ExportDefaultDecl sourced shape n fits = (refl, tt)
roles-fit r (kind.Function g a) sourced shape n fits = (tt, (refl, (tt, (tt, tt))))
roles-fit r (kind.ArrowExpr a g) sourced shape n fits = (tt, (refl, (tt, (tt, tt))))
roles-fit r (kind.Constructor a o) sourced shape n fits = (tt, (tt, (refl, tt)))
roles-fit r kind.GetterProp sourced shape n fits = (tt, (tt, (refl, tt)))
roles-fit r kind.SetterProp sourced shape n fits = (tt, (tt, (tt, (refl, tt))))
roles-fit r k sourced shape n fits = plain-fit (λ i. role_by r k sourced i) 0 (child_shapes k shape n) (λ i. not-special r k sourced i refl)

-- ---- what has a body is not ambient itself

no-function : (s : Sort) (g a : Bool) → bodiless s ≡ true → belongs s (kind.Function g a) ≡ false
no-function sort.Function g a h = absurd (true-false h refl)
no-function _ g a h = refl

no-arrow : (s : Sort) (a g : Bool) → bodiless s ≡ true → belongs s (kind.ArrowExpr a g) ≡ false
no-arrow sort.ModuleItem a g h = refl
no-arrow sort.Decl a g h = refl
no-arrow sort.Ident a g h = refl
no-arrow sort.TsModuleName a g h = refl
no-arrow sort.TsNamespaceBody a g h = refl
no-arrow _ a g h = absurd (true-false h refl)

no-constructor : (s : Sort) (a : Option Accessibility) (o : Bool) → bodiless s ≡ true → belongs s (kind.Constructor a o) ≡ false
no-constructor sort.ClassMember a o h = absurd (true-false h refl)
no-constructor _ a o h = refl

no-getter : (s : Sort) → bodiless s ≡ true → belongs s kind.GetterProp ≡ false
no-getter sort.PropOrSpread h = absurd (true-false h refl)
no-getter sort.Prop h = absurd (true-false h refl)
no-getter _ h = refl

no-setter : (s : Sort) → bodiless s ≡ true → belongs s kind.SetterProp ≡ false
no-setter sort.PropOrSpread h = absurd (true-false h refl)
no-setter sort.Prop h = absurd (true-false h refl)
no-setter _ h = refl

no-body : (b : Bool) → passes_ambient b ≡ role.Body → ⊥
no-body true h = cc
no-body false h = cc

ambient-none : (c : Count) (s : Sort) (k : Kind) (sourced : Bool) (i : ℕ) → bodiless s ≡ true → allows_by c s k ≡ true → role_by role.Ambient k sourced i ≡ role.Body → ⊥
unfolding role_by
ambient-none c s (kind.Function g a) sourced i b h is = true-false h (count-by c s (kind.Function g a) refl refl (no-function s g a b))
ambient-none c s (kind.ArrowExpr a g) sourced i b h is = true-false h (count-by c s (kind.ArrowExpr a g) refl refl (no-arrow s a g b))
ambient-none c s (kind.Constructor a o) sourced i b h is = true-false h (count-by c s (kind.Constructor a o) refl refl (no-constructor s a o b))
ambient-none c s kind.GetterProp sourced i b h is = true-false h (count-by c s kind.GetterProp refl refl (no-getter s b))
ambient-none c s kind.SetterProp sourced i b h is = true-false h (count-by c s kind.SetterProp refl refl (no-setter s b))
ambient-none c s kind.List sourced i b h is = cc
ambient-none c s kind.ExportDecl sourced i b h is = cc
ambient-none c s (kind.TsModuleDecl d g) sourced i b h is = no-body (d || true) is
ambient-none c s (kind.TsNamespaceDecl d g) sourced i b h is = no-body (d || true) is
ambient-none c s kind.TsModuleBlock sourced i b h is = cc
ambient-none c s kind.ExportDefaultDecl sourced i b h is = cc
ambient-none c s k sourced i b h is = true-false (ap is_special is) (not-special role.Ambient k sourced i refl)

not-ambient : (r : Role) (shape : Shape) (k : Kind) (sourced : Bool) (i : ℕ) → RoleShape r shape → allows shape k ≡ true → role_by r k sourced i ≡ role.Body → is_ambient r ≡ false
not-ambient role.Ambient shape k sourced i fits h is = absurd (ambient-none shape.count shape.sort k sourced i fits h is)
not-ambient _ shape k sourced i fits h is = refl

-- ---- a node, by its shape

pub record Shaped (seat : Seat) : Type 0 where
  pub absent : kind_is_absent seat.node ≡ true → (out-Node seat.node).children ≡ []
  pub default : seat.role ≡ role.Default → opens seat.role seat.node ≡ true → is_class_expr (out-Node seat.node).kind ≡ true
  pub body : seat.role ≡ role.Body → opens seat.role seat.node ≡ true → is_body_kind (out-Node seat.node).kind ≡ true
  pub nested : is_some (next_var (out-Node seat.node).kind) ≡ true → Nested (out-Node seat.node).children
  pub holder : (i : ℕ) → role_in seat.role seat.node i ≡ role.Body → is_ambient seat.role ≡ false

parts-have : (m : Node) (shape : Shape) → HasShape shape m → (allows shape (out-Node m).kind ≡ true) × HaveShapes (child_shapes (out-Node m).kind shape (length (out-Node m).children)) (out-Node m).children
parts-have m shape has = (node_has_shape (out-Node m).span (out-Node m).kind (out-Node m).children shape).0 (subst (HasShape shape) (sym (roll-out-Node m)) has)

absent-none : (k : Kind) (shape : Shape) (n : ℕ) (cs : List Node) → is_absent k ≡ true → HaveShapes (child_shapes k shape n) cs → cs ≡ []
absent-none kind.Absent shape n [] h have = refl
absent-none kind.Absent shape n (c ∷ cs) h have = absurd have
absent-none _ shape n cs h have = absurd (true-false h refl)

nested-by : (shapes : List Shape) (cs : List Node) → list_all tame_here shapes ≡ true → HaveShapes shapes cs → Nested cs
nested-by [] [] t have = tt
nested-by [] (c ∷ cs) t have = absurd have
nested-by (s ∷ shapes) [] t have = absurd have
nested-by (s ∷ shapes) (c ∷ cs) t have =
    (tame-kind s.count s.sort (out-Node c).kind (and-left (tame s.sort) (list_all tame_here shapes) t) (parts-have c s have.0).0, nested-by shapes cs (and-right (tame s.sort) (list_all tame_here shapes) t) have.1)

shaped-here : (m : Node) (r : Role) (shape : Shape) → HasShape shape m → ListTame (out-Node m).kind shape → RoleShape r shape → Shaped (record { role = r; node = m })
shaped-here m r shape has list fits =
    let parts = parts-have m shape has in
    let k : Kind = (out-Node m).kind in
    let n : ℕ = length (out-Node m).children in
    record {
      absent = λ gone. absent-none k shape n (out-Node m).children gone parts.1;
      default = λ is opened. default-kind k (is_there (out-Node m).children 0) (default-allows shape.count shape.sort k (subst (λ (q : Role). RoleShape q shape) is fits) parts.0) (subst (λ (q : Role). opens q m ≡ true) is opened);
      body = λ is opened. body-kind k (is_there (out-Node m).children 0) (body-allows shape.count shape.sort k (subst (λ (q : Role). RoleShape q shape) is fits) parts.0) (subst (λ (q : Role). opens q m ≡ true) is opened);
      nested = λ var. nested-by (child_shapes k shape n) (out-Node m).children (var-tame k shape n var list) parts.1;
      holder = λ i is. not-ambient r shape k (is_there (out-Node m).children 1) i fits parts.0 is;
    }

abbrev Sorts : Node → Type 0
Sorts m = (r : Role) (shape : Shape) → HasShape shape m → ListTame (out-Node m).kind shape → RoleShape r shape → All Shaped (seats_at m r)

abbrev AllSort : List Node → Type 0
AllSort ms = (roles : ℕ → Role) (i : ℕ) (shapes : List Shape) → HaveShapes shapes ms → list_all tame_list shapes ≡ true → RolesFit roles i shapes → All Shaped (gathered_from Role Seat roles i (map seats_at ms))

all-sort : (ms : List ((m : Node) × Sorts m)) → AllSort (map (λ e. e.0) ms)
all-sort [] roles i shapes have tames fit = All-nil Shaped
all-sort (m ∷ ms) roles i [] have tames fit = absurd have
all-sort (m ∷ ms) roles i (s ∷ shapes) have tames fit =
    All-append Shaped (seats_at m.0 (roles i)) (gathered_from Role Seat roles (suc i) (map seats_at (map (λ e. e.0) ms)))
    (m.1 (roles i) s have.0 (λ list. child-list s.count s.sort (out-Node m.0).kind (and-left (tame_list s) (list_all tame_list shapes) tames) (parts-have m.0 s have.0).0 list) fit.0)
    (all-sort ms roles (suc i) shapes have.1 (and-right (tame_list s) (list_all tame_list shapes) tames) fit.1)

layer-sorts : (m : Node) → AllSort (out-Node m).children → Sorts m
layer-sorts m children r shape has list fits =
    let k : Kind = (out-Node m).kind in
    let n : ℕ = length (out-Node m).children in
    subst (All Shaped) (sym (gathered-out Role Seat seat_here role_in m r))
    (All-cons Shaped (record { role = r; node = m }) (gathered_from Role Seat (role_in r m) 0 (map seats_at (out-Node m).children)) (shaped-here m r shape has list fits)
    (children (role_in r m) 0 (child_shapes k shape n) (parts-have m shape has).1 (kinds-many k shape n) (roles-fit r k (is_there (out-Node m).children 1) shape n fits)))

sorts : (m : Node) → Sorts m
sorts = ind-Node Sorts (λ x y is.
    layer-sorts (roll-Node x) (subst AllSort (ap (λ (z : Node-F Node). z.children) is ∙ sym (ap (λ (z : Node-F Node). z.children) (out-roll-Node x))) (all-sort y.children)))

module-list : (k : Kind) → belongs sort.Module k ≡ true → ListTame k (one sort.Module)
module-list kind.List h l = absurd (true-false h refl)
module-list (kind.Module s) h l = absurd (true-false l refl)
module-list _ h l = absurd (true-false h refl)

pub module-shaped : (tree : Node) → HasSort sort.Module tree → All Shaped (seats_at tree role.Root)
module-shaped tree has = sorts tree role.Root (one sort.Module) has (module-list (out-Node tree).kind (parts-have tree (one sort.Module) has).0) tt
