-- What is looked for in the children of a node, and what is known of each child where it is.
use Rattle.std.proofs.Common.{◌≡◌, ℕ, zero, suc, ◌==◌, Bool, true, false, ◌&&◌, ◌||◌, not, cond, List, [], ◌∷◌, Option, Some, None, refl, sym, ap, ◌∙◌, subst, slice_get}
use Rattle.std.proofs.lemmas.Bool.{eqb-true}
use Rattle.ecma_kind.specs.Sorts.{belongs, is_type_wrapper}
use Rattle.ecma_kind.specs.declared.kind.Kind.{Kind}
use Rattle.ecma_kind.specs.declared.kind.Kind.TheVariants as kind
use Rattle.ecma_kind.specs.declared.operators.VarDeclKind.TheVariants as var_kind
use Rattle.ecma_kind.specs.declared.shapes.Count.{Count}
use Rattle.ecma_kind.specs.declared.shapes.Count.TheVariants.{One, Maybe, Many, MaybeMany, Holes}
use Rattle.ecma_kind.specs.declared.shapes.Shape.{Shape}
use Rattle.ecma_kind.specs.declared.shapes.Sort.{Sort}
use Rattle.ecma_kind.specs.declared.shapes.Sort.TheVariants as sort
use Rattle.ecma_tree.specs.declared.node.Node.{Node, out-Node}
use Rattle.ecma_tree.specs.Sorted.{HasShape, allows, allows_by, child_shapes, is_absent, is_list, item_shape, many, maybe, one, with_holes}
use Rattle.ecma_rules.specs.Targets.{is_simple_target}
use Rattle.ecma_fits.specs.declared.role.Role.{Role}
use Rattle.ecma_fits.specs.declared.role.Role.TheVariants as role
use Rattle.ecma_fits.specs.Roles.{bound_name_of, in_default, in_list, in_rest, is_assigned, is_binding, is_bound_name, is_default, is_out_of_role, is_rest, is_wrong_name, may_be, role_in, takes}
use Rattle.ecma_scope.specs.declared.form.Form.{Form}
use Rattle.ecma_scope.specs.declared.form.Form.TheVariants as form
use Rattle.ecma_scope.specs.declared.form.Part.{Part}
use Rattle.ecma_scope.specs.declared.form.Part.TheVariants as part
use Rattle.ecma_scope.specs.declared.form.Sought.{Sought}
use Rattle.ecma_scope.specs.Declarations.{in_default as default_in, in_item, in_name, in_scope, in_var}
use Rattle.ecma_hygiene.proofs.Telling.{and-both, and-left, and-right, true-false}
use Rattle.ecma_strip_scopes.proofs.Going.{is_named, parts-have}
use Rattle.ecma_strip_scopes.proofs.Wrapping.{belongs-same, takes_types}
use Rattle.ecma_sources.specs.TypesAlone.{is_lowered}
use Rattle.ecma_pipeline_runs.proofs.Nodes.{none-some, or-right, some-same}
use Rattle.ecma_pipeline_runs.proofs.Remaining.{holds_items, is_many, remains, remains_by}
use Rattle.ecma_tree.specs.Values.{is_value}

-- ---- where names are declared

abbrev pub is_declaring : Role → Bool
is_declaring role.Declared = true
is_declaring role.DeclaredValue = true
is_declaring role.DeclaredElement = true
is_declaring role.DeclaredName = true
is_declaring role.Parameter = true
is_declaring role.DefaultedParameter = true
is_declaring _ = false

abbrev pub are_declaring : Role → Bool
are_declaring role.Parameters = true
are_declaring role.DeclaredElements = true
are_declaring _ = false

abbrev pub in_assignment : Role → Bool
in_assignment role.AssignedElements = true
in_assignment role.AssignedProperties = true
in_assignment r = is_assigned r

abbrev pub declaring_by : Bool → Bool → Role → Bool
declaring_by several typed r = (not typed || cond several (are_declaring r) (is_declaring r)) && not (in_assignment r)

-- where a name may be declared, no expression with a type round it stands
abbrev pub declaring : Shape → Role → Bool
declaring s r = declaring_by (is_many s.count) (takes_types s.sort) r

unassigned-by : (r : Role) → not (in_assignment r) ≡ true → is_assigned r ≡ false
unassigned-by role.AssignedElements h = refl
unassigned-by role.AssignedProperties h = refl
unassigned-by role.Left h = absurd (true-false h refl)
unassigned-by role.Head h = absurd (true-false h refl)
unassigned-by role.Assigned h = absurd (true-false h refl)
unassigned-by role.AssignedValue h = absurd (true-false h refl)
unassigned-by role.AssignedElement h = absurd (true-false h refl)
unassigned-by role.AssignedProperty h = absurd (true-false h refl)
unassigned-by role.AssignedName h = absurd (true-false h refl)
unassigned-by _ h = refl

pub unassigned : (several typed : Bool) (r : Role) → declaring_by several typed r ≡ true → is_assigned r ≡ false
unassigned several typed r h = unassigned-by r (and-right (not typed || cond several (are_declaring r) (is_declaring r)) (not (in_assignment r)) h)

list-by : (typed : Bool) (r : Role) → declaring_by true typed r ≡ true → declaring_by false typed (in_list r) ≡ true
list-by true role.Parameters h = refl
list-by true role.DeclaredElements h = refl
list-by true _ h = absurd (true-false h refl)
list-by false role.AssignedElements h = absurd (true-false h refl)
list-by false role.AssignedProperties h = absurd (true-false h refl)
list-by false _ h = refl

no-list : (σ : Sort) → belongs σ kind.List ≡ true → ⊥
no-list sort.Program h = true-false h refl
no-list _ h = true-false h refl

list-shape : (c : Count) (σ : Sort) (r : Role) → allows_by c σ kind.List ≡ true → declaring_by (is_many c) (takes_types σ) r ≡ true → declaring (item_shape (record { count = c; sort = σ })) (in_list r) ≡ true
list-shape One σ r a h = absurd (no-list σ a)
list-shape Maybe σ r a h = absurd (no-list σ a)
list-shape Many σ r a h = list-by (takes_types σ) r h
list-shape MaybeMany σ r a h = list-by (takes_types σ) r h
list-shape Holes σ r a h = list-by (takes_types σ) r h

pub list-declaring : (s : Shape) (r : Role) → allows s kind.List ≡ true → declaring s r ≡ true → declaring (item_shape s) (in_list r) ≡ true
list-declaring s r a h = list-shape s.count s.sort r a h

-- an expression with a type round it
record IsOther (k : Kind) : Type 0 where
  binding : is_binding k ≡ false
  bound : is_bound_name k ≡ false
  default : is_default k ≡ false
  rest : is_rest k ≡ false
  absent : is_absent k ≡ false
  list : is_list k ≡ false

other : (k : Kind) → is_type_wrapper k ≡ true → IsOther k
other kind.TsTypeAssertion w = record { binding = refl; bound = refl; default = refl; rest = refl; absent = refl; list = refl }
other kind.TsConstAssertion w = record { binding = refl; bound = refl; default = refl; rest = refl; absent = refl; list = refl }
other kind.TsNonNullExpr w = record { binding = refl; bound = refl; default = refl; rest = refl; absent = refl; list = refl }
other kind.TsAsExpr w = record { binding = refl; bound = refl; default = refl; rest = refl; absent = refl; list = refl }
other kind.TsInstantiation w = record { binding = refl; bound = refl; default = refl; rest = refl; absent = refl; list = refl }
other kind.TsSatisfiesExpr w = record { binding = refl; bound = refl; default = refl; rest = refl; absent = refl; list = refl }
other _ w = absurd (true-false w refl)

may-not : (r : Role) (k : Kind) (x : Bool) → is_declaring r ≡ true → IsOther k → (may_be r k || (takes r k && x)) ≡ false
unfolding may_be takes
may-not role.Declared k x d o = rw (o.binding, o.absent) refl
may-not role.DeclaredValue k x d o = rw (o.binding, o.default) refl
may-not role.DeclaredElement k x d o = rw (o.binding, o.default, o.rest, o.absent) refl
may-not role.DeclaredName k x d o = rw (o.bound) refl
may-not role.Parameter k x d o = rw (o.binding, o.default, o.rest, o.absent) refl
may-not role.DefaultedParameter k x d o = rw (o.binding, o.rest) refl
may-not _ k x d o = absurd (true-false d refl)

wrapper-typed : (c : Count) (σ : Sort) (k : Kind) → is_type_wrapper k ≡ true → allows_by c σ k ≡ true → (is_many c ≡ false) × (takes_types σ ≡ true)
wrapper-typed One σ k w a = (refl, belongs-same σ k w a)
wrapper-typed Maybe σ k w a = (refl, belongs-same σ k w (or-right (is_absent k) (belongs σ k) (other k w).absent a))
wrapper-typed Many σ k w a = absurd (true-false a (other k w).list)
wrapper-typed MaybeMany σ k w a = absurd (true-false (or-right (is_absent k) (is_list k) (other k w).absent a) (other k w).list)
wrapper-typed Holes σ k w a = absurd (true-false a (other k w).list)

declares-by : (several typed : Bool) (r : Role) → several ≡ false → typed ≡ true → declaring_by several typed r ≡ true → is_declaring r ≡ true
declares-by true typed r s t h = absurd (true-false refl s)
declares-by false true r s t h = and-left (is_declaring r) (not (in_assignment r)) h
declares-by false false r s t h = absurd (true-false t refl)

out-by : (wrong stands : Bool) → (wrong || not stands) ≡ false → stands ≡ true
out-by true stands h = absurd (true-false refl h)
out-by false true h = refl
out-by false false h = absurd (true-false refl h)

pub declares-no-wrapper : (n : Node) (s : Shape) (r : Role) → HasShape s n → declaring s r ≡ true → is_out_of_role r n ≡ false → is_type_wrapper (out-Node n).kind ≡ true → ⊥
declares-no-wrapper n s r has d in_role w =
    let k = (out-Node n).kind in
    let t = wrapper-typed s.count s.sort k w (parts-have n s has).0 in
    true-false (out-by (is_wrong_name r k) (may_be r k || (takes r k && is_simple_target n)) in_role)
    (may-not r k (is_simple_target n) (declares-by (is_many s.count) (takes_types s.sort) r t.0 t.1 d) (other k w))

-- ---- what is asked of a node in which something is looked for

abbrev pub Asked : Part → Node → Shape → Role → Type 0
Asked (part.Name f) n s r = declaring s r ≡ true
Asked part.Item n s r = remains n ≡ true
Asked part.Var n s r = remains n ≡ true
Asked part.Default n s r = (belongs sort.DefaultDecl (out-Node n).kind ≡ true) × (is_value n ≡ true)
Asked part.Scope n s r = is_type_wrapper (out-Node n).kind ≡ false
Asked part.Member n s r = ⊥

-- what is looked for in a child stays, and the child is as it is asked
abbrev pub Got : Node → Shape → Role → Sought → Type 0
Got c o r q = (q.stays ≡ true) × Asked q.part c o r

abbrev pub Found : Part → Bool → Sought → Type 0
Found p stays q = ◌≡◌ {A = Option Sought} (Some (record { part = p; stays = stays })) (Some q)

pub got-some : (c : Node) (o : Shape) (r : Role) (p : Part) (stays : Bool) (q : Sought) → stays ≡ true → Asked p c o r → Found p stays q → Got c o r q
got-some c o r p stays q stay asked h = subst (Got c o r) (some-same h) (stay, asked)

module _ (c : Node) (roles : ℕ → Role) where
  -- the child that is meant
  got-at : (w : ℕ) (shapes : List Shape) (own : Shape) → slice_get shapes w ≡ Some own → (i : ℕ) (o : Shape) → slice_get shapes i ≡ Some o → (p : Part) (stays : Bool) (q : Sought) → stays ≡ true → Asked p c own (roles w)
      → ◌≡◌ {A = Option Sought} (cond (i == w) (Some (record { part = p; stays = stays })) None) (Some q) → Got c o (roles i) q
  got-at w shapes own there i o at p stays q stay asked h = by (i == w) refl h
    where
      by : (b : Bool) → (i == w) ≡ b → ◌≡◌ {A = Option Sought} (cond b (Some (record { part = p; stays = stays })) None) (Some q) → Got c o (roles i) q
      by true e h =
          let is : i ≡ w = eqb-true i w e in
          let same : own ≡ o = some-same (sym there ∙ ap (slice_get shapes) (sym is) ∙ at) in
          got-some c o (roles i) p stays q stay (subst (λ (z : Shape). Asked p c z (roles i)) same (subst (λ (j : ℕ). Asked p c own (roles j)) (sym is) asked)) h
      by false e h = none-some h

  -- the only child
  got-only : (own : Shape) (i : ℕ) (o : Shape) → slice_get (own ∷ []) i ≡ Some o → (p : Part) (stays : Bool) (q : Sought) → stays ≡ true → Asked p c own (roles 0) → Found p stays q → Got c o (roles i) q
  got-only own zero o at p stays q stay asked h = got-some c o (roles 0) p stays q stay (subst (λ (z : Shape). Asked p c z (roles 0)) (some-same at) asked) h
  got-only own (suc i) o at p stays q stay asked h = none-some at

-- ---- names

name-free : (r : Role) → declaring (one sort.Ident) (bound_name_of r) ≡ true
name-free role.Parameter = refl
name-free _ = refl

rest-declares : (r : Role) → is_assigned r ≡ false → declaring (one sort.Pat) (in_rest r) ≡ true
rest-declares role.DeclaredProperty h = refl
rest-declares role.AssignedProperty h = absurd (true-false refl h)
rest-declares r h = by (is_assigned r) h
  where
    by : (b : Bool) → b ≡ false → declaring (one sort.Pat) (cond b role.Assigned role.Declared) ≡ true
    by true e = absurd (true-false refl e)
    by false e = refl

default-declares : (r : Role) → is_assigned r ≡ false → declaring (one sort.Pat) (in_default r) ≡ true
default-declares role.Parameter h = refl
default-declares r h = by (is_assigned r) h
  where
    by : (b : Bool) → b ≡ false → declaring (one sort.Pat) (cond b role.Assigned role.Declared) ≡ true
    by true e = absurd (true-false refl e)
    by false e = refl

chosen-declares : (s : Shape) (b : Bool) (x y : Role) → b ≡ false → declaring s y ≡ true → declaring s (cond b x y) ≡ true
chosen-declares s true x y e h = absurd (true-false refl e)
chosen-declares s false x y e h = h

pub name-got : (f : Form) (k : Kind) (s : Shape) (m : ℕ) (r : Role) (i : ℕ) (c : Node) (o : Shape) (q : Sought) → is_list k ≡ false → is_assigned r ≡ false → slice_get (child_shapes k s m) i ≡ Some o → in_name f true k i ≡ Some q
    → Got c o (role_in r k i) q
unfolding in_name role_in
name-got f kind.List s m r i c o q l u at h = absurd (true-false refl l)
name-got f kind.BindingIdent s m r i c o q l u at h = got-at c (role_in r kind.BindingIdent) 0 (child_shapes kind.BindingIdent s m) (one sort.Ident) refl i o at (part.Name f) true q refl (name-free r) h
name-got f kind.Param s m r i c o q l u at h = got-at c (role_in r kind.Param) 0 (child_shapes kind.Param s m) (one sort.Pat) refl i o at (part.Name f) true q refl refl h
name-got f (kind.TsParamProp a b d) s m r i c o q l u at h = got-at c (role_in r (kind.TsParamProp a b d)) 0 (child_shapes (kind.TsParamProp a b d) s m) (one sort.TsParamPropParam) refl i o at (part.Name f) true q refl refl h
name-got f (kind.VarDeclarator d) s m r i c o q l u at h = got-at c (role_in r (kind.VarDeclarator d)) 0 (child_shapes (kind.VarDeclarator d) s m) (one sort.Pat) refl i o at (part.Name f) true q refl refl h
name-got f (kind.ArrayPat b) s m r i c o q l u at h =
    got-at c (role_in r (kind.ArrayPat b)) 0 (child_shapes (kind.ArrayPat b) s m) (with_holes sort.Pat) refl i o at (part.Name f) true q refl (chosen-declares (with_holes sort.Pat) (is_assigned r) role.AssignedElements role.DeclaredElements u refl) h
name-got f (kind.ObjectPat b) s m r i c o q l u at h =
    got-at c (role_in r (kind.ObjectPat b)) 0 (child_shapes (kind.ObjectPat b) s m) (many sort.ObjectPatProp) refl i o at (part.Name f) true q refl (chosen-declares (many sort.ObjectPatProp) (is_assigned r) role.AssignedProperties role.DeclaredProperties u refl) h
name-got f kind.RestPat s m r i c o q l u at h = got-at c (role_in r kind.RestPat) 0 (child_shapes kind.RestPat s m) (one sort.Pat) refl i o at (part.Name f) true q refl (rest-declares r u) h
name-got f kind.AssignPat s m r i c o q l u at h = got-at c (role_in r kind.AssignPat) 0 (child_shapes kind.AssignPat s m) (one sort.Pat) refl i o at (part.Name f) true q refl (default-declares r u) h
name-got f kind.AssignPatProp s m r i c o q l u at h =
    got-at c (role_in r kind.AssignPatProp) 0 (child_shapes kind.AssignPatProp s m) (one sort.BindingIdent) refl i o at (part.Name f) true q refl (chosen-declares (one sort.BindingIdent) (is_assigned r) role.AssignedName role.DeclaredName u refl) h
name-got f kind.KeyValuePatProp s m r i c o q l u at h =
    got-at c (role_in r kind.KeyValuePatProp) 1 (child_shapes kind.KeyValuePatProp s m) (one sort.Pat) refl i o at (part.Name f) true q refl (chosen-declares (one sort.Pat) (is_assigned r) role.AssignedValue role.DeclaredValue u refl) h
name-got f _ s m r i c o q l u at h = none-some h

-- ---- `var` names

pub var-got : (k : Kind) (value ambient : Bool) (s : Shape) (m : ℕ) (r : Role) (i : ℕ) (c : Node) (o : Shape) (q : Sought) → is_list k ≡ false → remains_by k value ambient ≡ true → (holds_items k ≡ true → remains c ≡ true)
    → slice_get (child_shapes k s m) i ≡ Some o → in_var true k ≡ Some q → Got c o (role_in r k i) q
unfolding in_var role_in
var-got (kind.VarDecl var_kind.Var d) value ambient s m r i c o q l rem child at h = got-only c (role_in r (kind.VarDecl var_kind.Var d)) (many sort.VarDeclarator) i o at (part.Name form.Var) (not d) q rem refl h
var-got (kind.VarDecl _ d) value ambient s m r i c o q l rem child at h = none-some h
var-got kind.List value ambient s m r i c o q l rem child at h = absurd (true-false refl l)
var-got (kind.Module x) value ambient s m r i c o q l rem child at h = got-some c o (role_in r (kind.Module x) i) part.Var true q refl (child refl) h
var-got (kind.Script x) value ambient s m r i c o q l rem child at h = got-some c o (role_in r (kind.Script x) i) part.Var true q refl (child refl) h
var-got kind.TsModuleBlock value ambient s m r i c o q l rem child at h = got-some c o (role_in r kind.TsModuleBlock i) part.Var true q refl (child refl) h
var-got kind.ExportDecl value ambient s m r i c o q l rem child at h = got-some c o (role_in r kind.ExportDecl i) part.Var true q refl (child refl) h
var-got kind.BlockStmt value ambient s m r i c o q l rem child at h = got-some c o (role_in r kind.BlockStmt i) part.Var true q refl (child refl) h
var-got kind.IfStmt value ambient s m r i c o q l rem child at h = got-some c o (role_in r kind.IfStmt i) part.Var true q refl (child refl) h
var-got kind.ForStmt value ambient s m r i c o q l rem child at h = got-some c o (role_in r kind.ForStmt i) part.Var true q refl (child refl) h
var-got kind.ForInStmt value ambient s m r i c o q l rem child at h = got-some c o (role_in r kind.ForInStmt i) part.Var true q refl (child refl) h
var-got (kind.ForOfStmt w) value ambient s m r i c o q l rem child at h = got-some c o (role_in r (kind.ForOfStmt w) i) part.Var true q refl (child refl) h
var-got kind.WhileStmt value ambient s m r i c o q l rem child at h = got-some c o (role_in r kind.WhileStmt i) part.Var true q refl (child refl) h
var-got kind.DoWhileStmt value ambient s m r i c o q l rem child at h = got-some c o (role_in r kind.DoWhileStmt i) part.Var true q refl (child refl) h
var-got kind.LabeledStmt value ambient s m r i c o q l rem child at h = got-some c o (role_in r kind.LabeledStmt i) part.Var true q refl (child refl) h
var-got kind.TryStmt value ambient s m r i c o q l rem child at h = got-some c o (role_in r kind.TryStmt i) part.Var true q refl (child refl) h
var-got kind.CatchClause value ambient s m r i c o q l rem child at h = got-some c o (role_in r kind.CatchClause i) part.Var true q refl (child refl) h
var-got kind.SwitchStmt value ambient s m r i c o q l rem child at h = got-some c o (role_in r kind.SwitchStmt i) part.Var true q refl (child refl) h
var-got kind.SwitchCase value ambient s m r i c o q l rem child at h = got-some c o (role_in r kind.SwitchCase i) part.Var true q refl (child refl) h
var-got _ value ambient s m r i c o q l rem child at h = none-some h

-- ---- items, what is exported as the default, and scopes

-- of a node, whether it is a value to scopes, and to stripping
abbrev pub Valued : Kind → Bool → Bool → Type 0
Valued k scoped value = is_named k ≡ true → scoped ≡ value

abbrev pub is_default_export : Kind → Bool
is_default_export kind.ExportDefaultDecl = true
is_default_export k = false

pub item-got : (k : Kind) (scoped value ambient : Bool) (s : Shape) (m : ℕ) (r : Role) (i : ℕ) (c : Node) (o : Shape) (q : Sought) → is_list k ≡ false → is_lowered k ≡ false → Valued k scoped value → remains_by k value ambient ≡ true
    → (holds_items k ≡ true → remains c ≡ true) → (is_default_export k ≡ true → (belongs sort.DefaultDecl (out-Node c).kind ≡ true) × (is_value c ≡ true)) → slice_get (child_shapes k s m) i ≡ Some o → in_item true scoped k i ≡ Some q → Got c o (role_in r k i) q
unfolding in_item role_in
item-got kind.List scoped value ambient s m r i c o q l low is rem child default at h = absurd (true-false refl l)
item-got kind.SwitchCase scoped value ambient s m r i c o q l low is rem child default at h =
    got-at c (role_in r kind.SwitchCase) 1 (child_shapes kind.SwitchCase s m) (many sort.Stmt) refl i o at part.Item true q refl (child refl) h
item-got kind.ExportDecl scoped value ambient s m r i c o q l low is rem child default at h = got-some c o (role_in r kind.ExportDecl i) part.Item true q refl (child refl) h
item-got kind.ExportDefaultDecl scoped value ambient s m r i c o q l low is rem child default at h = got-some c o (role_in r kind.ExportDefaultDecl i) part.Default true q refl (default refl) h
item-got (kind.ImportDecl t) scoped value ambient s m r i c o q l low is rem child default at h =
    got-at c (role_in r (kind.ImportDecl t)) 0 (child_shapes (kind.ImportDecl t) s m) (many sort.ImportSpecifier) refl i o at part.Item (not t) q rem (child refl) h
item-got (kind.ImportNamedSpecifier t) scoped value ambient s m r i c o q l low is rem child default at h =
    got-at c (role_in r (kind.ImportNamedSpecifier t)) 0 (child_shapes (kind.ImportNamedSpecifier t) s m) (one sort.Ident) refl i o at (part.Name form.Import) (not t) q rem refl h
item-got kind.ImportDefaultSpecifier scoped value ambient s m r i c o q l low is rem child default at h = got-only c (role_in r kind.ImportDefaultSpecifier) (one sort.Ident) i o at (part.Name form.Import) true q refl refl h
item-got kind.ImportStarAsSpecifier scoped value ambient s m r i c o q l low is rem child default at h = got-only c (role_in r kind.ImportStarAsSpecifier) (one sort.Ident) i o at (part.Name form.Import) true q refl refl h
item-got (kind.TsImportEqualsDecl e t) scoped value ambient s m r i c o q l low is rem child default at h = absurd (true-false refl low)
item-got (kind.VarDecl var_kind.Let d) scoped value ambient s m r i c o q l low is rem child default at h =
    got-only c (role_in r (kind.VarDecl var_kind.Let d)) (many sort.VarDeclarator) i o at (part.Name form.Lexical) (not d) q rem refl h
item-got (kind.VarDecl var_kind.Const d) scoped value ambient s m r i c o q l low is rem child default at h =
    got-only c (role_in r (kind.VarDecl var_kind.Const d)) (many sort.VarDeclarator) i o at (part.Name form.Lexical) (not d) q rem refl h
item-got (kind.VarDecl _ d) scoped value ambient s m r i c o q l low is rem child default at h = none-some h
item-got (kind.FnDecl d) scoped value ambient s m r i c o q l low is rem child default at h =
    got-at c (role_in r (kind.FnDecl d)) 0 (child_shapes (kind.FnDecl d) s m) (one sort.Ident) refl i o at (part.Name form.Function) (not d && scoped) q
    (and-both (not d) scoped (and-right value (not d) rem) (is refl ∙ and-left value (not d) rem)) refl h
item-got (kind.ClassDecl d) scoped value ambient s m r i c o q l low is rem child default at h =
    got-at c (role_in r (kind.ClassDecl d)) 0 (child_shapes (kind.ClassDecl d) s m) (one sort.Ident) refl i o at (part.Name form.Class) (not d) q rem refl h
item-got (kind.TsEnumDecl d e) scoped value ambient s m r i c o q l low is rem child default at h = absurd (true-false refl low)
item-got (kind.TsModuleDecl d g) scoped value ambient s m r i c o q l low is rem child default at h = absurd (true-false refl low)
item-got _ scoped value ambient s m r i c o q l low is rem child default at h = none-some h

pub default-got : (k : Kind) (scoped value : Bool) (s : Shape) (m : ℕ) (r : Role) (i : ℕ) (c : Node) (o : Shape) (q : Sought) → Valued k scoped value → value ≡ true → slice_get (child_shapes k s m) i ≡ Some o
    → default_in true scoped k i ≡ Some q → Got c o (role_in r k i) q
unfolding default_in role_in
default-got kind.FnExpr scoped value s m r i c o q is val at h = got-at c (role_in r kind.FnExpr) 0 (child_shapes kind.FnExpr s m) (maybe sort.Ident) refl i o at (part.Name form.Function) scoped q (is refl ∙ val) refl h
default-got kind.ClassExpr scoped value s m r i c o q is val at h = got-at c (role_in r kind.ClassExpr) 0 (child_shapes kind.ClassExpr s m) (maybe sort.Ident) refl i o at (part.Name form.Class) true q refl refl h
default-got _ scoped value s m r i c o q is val at h = none-some h

pub scope-got : (k : Kind) (scoped value ambient : Bool) (s : Shape) (m : ℕ) (r : Role) (i : ℕ) (c : Node) (o : Shape) (q : Sought) → is_lowered k ≡ false → (remains_by k value ambient ≡ true → holds_items k ≡ true → remains c ≡ true)
    → slice_get (child_shapes k s m) i ≡ Some o → in_scope true scoped k i ≡ Some q → Got c o (role_in r k i) q
unfolding in_scope role_in
scope-got (kind.Module x) scoped value ambient s m r i c o q low child at h = got-some c o (role_in r (kind.Module x) i) part.Item true q refl (child refl refl) h
scope-got (kind.Script x) scoped value ambient s m r i c o q low child at h = got-some c o (role_in r (kind.Script x) i) part.Item true q refl (child refl refl) h
scope-got kind.TsModuleBlock scoped value ambient s m r i c o q low child at h = got-some c o (role_in r kind.TsModuleBlock i) part.Item true q refl (child refl refl) h
scope-got kind.BlockStmt scoped value ambient s m r i c o q low child at h = got-some c o (role_in r kind.BlockStmt i) part.Item true q refl (child refl refl) h
scope-got kind.SwitchStmt scoped value ambient s m r i c o q low child at h = got-at c (role_in r kind.SwitchStmt) 1 (child_shapes kind.SwitchStmt s m) (many sort.SwitchCase) refl i o at part.Item true q refl (child refl refl) h
scope-got kind.ForStmt scoped value ambient s m r i c o q low child at h = got-at c (role_in r kind.ForStmt) 0 (child_shapes kind.ForStmt s m) (maybe sort.VarDeclOrExpr) refl i o at part.Item true q refl (child refl refl) h
scope-got kind.ForInStmt scoped value ambient s m r i c o q low child at h = got-at c (role_in r kind.ForInStmt) 0 (child_shapes kind.ForInStmt s m) (one sort.ForHead) refl i o at part.Item true q refl (child refl refl) h
scope-got (kind.ForOfStmt w) scoped value ambient s m r i c o q low child at h = got-at c (role_in r (kind.ForOfStmt w)) 0 (child_shapes (kind.ForOfStmt w) s m) (one sort.ForHead) refl i o at part.Item true q refl (child refl refl) h
scope-got kind.CatchClause scoped value ambient s m r i c o q low child at h = got-at c (role_in r kind.CatchClause) 0 (child_shapes kind.CatchClause s m) (maybe sort.Pat) refl i o at (part.Name form.Catch) true q refl refl h
scope-got (kind.Function g a) scoped value ambient s m r i c o q low child at h = got-at c (role_in r (kind.Function g a)) 0 (child_shapes (kind.Function g a) s m) (many sort.Param) refl i o at (part.Name form.Parameter) true q refl refl h
scope-got (kind.ArrowExpr a g) scoped value ambient s m r i c o q low child at h = got-at c (role_in r (kind.ArrowExpr a g)) 0 (child_shapes (kind.ArrowExpr a g) s m) (many sort.Pat) refl i o at (part.Name form.Parameter) true q refl refl h
scope-got (kind.Constructor a p) scoped value ambient s m r i c o q low child at h =
    got-at c (role_in r (kind.Constructor a p)) 1 (child_shapes (kind.Constructor a p) s m) (many sort.ParamOrTsParamProp) refl i o at (part.Name form.Parameter) true q refl refl h
scope-got kind.SetterProp scoped value ambient s m r i c o q low child at h = got-at c (role_in r kind.SetterProp) 2 (child_shapes kind.SetterProp s m) (one sort.Pat) refl i o at (part.Name form.Parameter) true q refl refl h
scope-got kind.FnExpr scoped value ambient s m r i c o q low child at h = got-at c (role_in r kind.FnExpr) 0 (child_shapes kind.FnExpr s m) (maybe sort.Ident) refl i o at (part.Name form.Own) true q refl refl h
scope-got kind.ClassExpr scoped value ambient s m r i c o q low child at h = got-at c (role_in r kind.ClassExpr) 0 (child_shapes kind.ClassExpr s m) (maybe sort.Ident) refl i o at (part.Name form.Own) true q refl refl h
scope-got (kind.TsEnumDecl d e) scoped value ambient s m r i c o q low child at h = absurd (true-false refl low)
scope-got (kind.TsNamespaceDecl d g) scoped value ambient s m r i c o q low child at h = absurd (true-false refl low)
scope-got _ scoped value ambient s m r i c o q low child at h = none-some h
