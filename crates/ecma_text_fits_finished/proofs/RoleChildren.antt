-- The roles of children in the finished tree, by what is assigned to them and what the raw tree asks of them.
use Rattle.std.proofs.Common.{◌≡◌, ◌⊎◌, ℕ, zero, suc, Bool, true, false, ◌&&◌, ◌||◌, ◌==◌, cond, List, [], ◌∷◌, replicate, refl, sym, ap, subst}
use Rattle.ecma_kind.specs.declared.operators.AssignOp.{AssignOp}
use Rattle.ecma_kind.specs.declared.operators.AssignOp.TheVariants.{Assign}
use Rattle.ecma_kind.specs.declared.operators.BinaryOp.{BinaryOp}
use Rattle.ecma_kind.specs.declared.operators.BinaryOp.TheVariants.{In}
use Rattle.ecma_kind.specs.declared.kind.Kind.{Kind}
use Rattle.ecma_kind.specs.declared.kind.Kind.TheVariants as kind
use Rattle.ecma_kind.specs.declared.shapes.Shape.{Shape}
use Rattle.ecma_kind.specs.declared.shapes.Sort.TheVariants as sort
use Rattle.ecma_tree.specs.declared.node.Node.{Node}
use Rattle.ecma_tree.specs.Sorted.{child_shapes, is_absent, is_list, item_shape, one, maybe}
use Rattle.ecma_rules.specs.declared.target.Target.{Target}
use Rattle.ecma_rules.specs.declared.target.Target.TheVariants as target
use Rattle.ecma_rules.specs.Children.{kind_of}
use Rattle.ecma_rules.specs.Targets.{is_plain_target, is_spread, is_wrapper, on_left, target_in}
use Rattle.ecma_fits.specs.declared.role.Role.{Role}
use Rattle.ecma_fits.specs.declared.role.Role.TheVariants as role
use Rattle.ecma_fits.specs.Roles.{is_bound_name, bound_name_of, by, in_default, in_list, in_rest, in_template, is_assigned, is_name, left_of, operand_of, role_in}
use Rattle.ecma_raw_roles.specs.RawRoles.{is_getter, is_parameter, raw_role, usual_role_in}
use Rattle.ecma_text_fits_finished.proofs.RoleKinds.{Proper, bound_name, calm, is_calm, is_declared, is_single, items_even, maybe_parameter, one_pat, parameters, property_parameter, unassigned}
use Rattle.ecma_raw_roles.proofs.Walks.{not_true}

-- a node of this kind has one role in the raw tree, and another in the finished one
abbrev pub Agrees : Target → Role → Role → Kind → Type 0
Agrees target.Free r w k = (r ≡ raw_role w) × (is_declared w ≡ true)
Agrees target.Left r w k = (r ≡ role.Free) × (w ≡ role.Left)
Agrees target.Simple r w k = (r ≡ role.Free) × (w ≡ role.Simple)
Agrees target.Head r w k = (r ≡ role.Free) × (w ≡ role.Head)
Agrees target.Part r w k = (r ≡ role.Free) × (w ≡ role.Assigned)
Agrees target.Element r w k = (r ≡ role.Free) × ((w ≡ role.AssignedElement) ⊎ ((w ≡ role.AssignedValue) × ((is_spread k || is_absent k) ≡ false)))
Agrees target.Rest r w k = (r ≡ role.Free) × (w ≡ role.AssignedName)
Agrees target.Name r w k = (r ≡ role.Free) × (w ≡ role.AssignedName) × (is_name k ≡ true)
Agrees target.Property r w k = (r ≡ role.Free) × (w ≡ role.AssignedProperty)
Agrees target.Elements r w k = (r ≡ role.Free) × (w ≡ role.AssignedElements) × (is_list k ≡ true)
Agrees target.Properties r w k = (r ≡ role.Free) × (w ≡ role.AssignedProperties) × (is_list k ≡ true)

-- a child whose finished form has a shape
pub record Stands (t : Target) (r w : Role) (k : Kind) (o : Shape) : Type 0 where
  pub agrees : Agrees t r w k
  pub proper : Proper w o

abbrev pub AllStand : (ℕ → Target) → (ℕ → Role) → (ℕ → Role) → List Shape → List Node → Type 0
AllStand ts rs ws os [] = Unit {0}
AllStand ts rs ws [] (n ∷ ns) = Unit {0}
AllStand ts rs ws (o ∷ os) (n ∷ ns) = Stands (ts 0) (rs 0) (ws 0) (kind_of n) o × AllStand (λ i. ts (suc i)) (λ i. rs (suc i)) (λ i. ws (suc i)) os ns

pub each_stands : (ts : ℕ → Target) (rs ws : ℕ → Role) (os : List Shape) (ns : List Node) → ((i : ℕ) (k : Kind) → Agrees (ts i) (rs i) (ws i) k) → ((i : ℕ) (o : Shape) → Proper (ws i) o) → AllStand ts rs ws os ns
each_stands ts rs ws os [] a p = tt
each_stands ts rs ws [] (n ∷ ns) a p = tt
each_stands ts rs ws (o ∷ os) (n ∷ ns) a p =
    (record { agrees = a 0 (kind_of n); proper = p 0 o }, each_stands (λ i. ts (suc i)) (λ i. rs (suc i)) (λ i. ws (suc i)) os ns (λ i k. a (suc i) k) (λ i o. p (suc i) o))

-- and where each shape keeps out what it has to
abbrev pub AllProper : (ℕ → Role) → List Shape → Type 0
AllProper ws [] = Unit {0}
AllProper ws (o ∷ os) = Proper (ws 0) o × AllProper (λ i. ws (suc i)) os

pub stand : (ts : ℕ → Target) (rs ws : ℕ → Role) (os : List Shape) (ns : List Node) → ((i : ℕ) (k : Kind) → Agrees (ts i) (rs i) (ws i) k) → AllProper ws os → AllStand ts rs ws os ns
stand ts rs ws os [] a p = tt
stand ts rs ws [] (n ∷ ns) a p = tt
stand ts rs ws (o ∷ os) (n ∷ ns) a p =
    (record { agrees = a 0 (kind_of n); proper = p.0 }, stand (λ i. ts (suc i)) (λ i. rs (suc i)) (λ i. ws (suc i)) os ns (λ i k. a (suc i) k) p.1)

-- the same as in the raw tree

alike : (w : Role) → is_declared w ≡ true → (k : Kind) (i : ℕ) → raw_role (role_in (raw_role w) k i) ≡ raw_role (role_in w k i)
alike role.Left d k i = not_true d
alike role.Simple d k i = not_true d
alike role.Head d k i = not_true d
alike role.Nothing d k i = not_true d
alike role.Assigned d k i = not_true d
alike role.AssignedValue d k i = not_true d
alike role.AssignedElement d k i = not_true d
alike role.AssignedElements d k i = not_true d
alike role.AssignedProperty d k i = not_true d
alike role.AssignedProperties d k i = not_true d
alike role.AssignedName d k i = not_true d
alike _ d k i = refl

pub raw_alike : (w : Role) → is_declared w ≡ true → (k : Kind) (i : ℕ) → is_getter k ≡ false → (is_parameter (raw_role w) && is_list k) ≡ false → usual_role_in (raw_role w) k i ≡ raw_role (role_in w k i)
unfolding usual_role_in
raw_alike w d k i getter listed = rw (getter, listed) (alike w d k i)

-- kinds where something is assigned to, and those whose children the sorts have to tell
abbrev pub is_assigning : Kind → Bool
is_assigning (kind.AssignExpr op) = true
is_assigning (kind.UpdateExpr op prefix) = true
is_assigning kind.ForInStmt = true
is_assigning (kind.ForOfStmt is_await) = true
is_assigning _ = false

abbrev pub is_told : Kind → Bool
is_told kind.List = true
is_told kind.RestPat = true
is_told kind.AssignPat = true
is_told kind.KeyValuePatProp = true
is_told kind.AssignPatProp = true
is_told kind.Param = true
is_told (kind.TsParamProp accessibility is_override readonly) = true
is_told (kind.ArrowExpr is_async is_generator) = true
is_told kind.SetterProp = true
is_told _ = false

at_declared : (b : Bool) (x y : Role) → is_declared x ≡ true → is_declared y ≡ true → is_declared (cond b x y) ≡ true
at_declared true x y h g = h
at_declared false x y h g = g

at_calm : (b : Bool) (x y : Role) → is_calm x ≡ true → is_calm y ≡ true → is_calm (cond b x y) ≡ true
at_calm true x y h g = h
at_calm false x y h g = g

operand_declared : (op : BinaryOp) → is_declared (operand_of op) ≡ true
operand_declared In = refl
operand_declared _ = refl

operand_calm : (op : BinaryOp) → is_calm (operand_of op) ≡ true
operand_calm In = refl
operand_calm _ = refl

listed : (w : Role) → is_declared w ≡ true → is_declared (in_list w) ≡ true
listed role.AssignedElements d = not_true d
listed role.AssignedProperties d = not_true d
listed role.Parameters d = refl
listed role.DeclaredElements d = refl
listed role.DeclaredProperties d = refl
listed role.TaggedTexts d = refl
listed _ d = refl

named : (w : Role) → is_declared (bound_name_of w) ≡ true
named role.Parameter = refl
named _ = refl

named_calm : (w : Role) → is_calm (bound_name_of w) ≡ true
named_calm role.Parameter = refl
named_calm _ = refl

rest_declared : (w : Role) → is_declared w ≡ true → is_declared (in_rest w) ≡ true
rest_declared role.DeclaredProperty d = refl
rest_declared role.AssignedProperty d = not_true d
rest_declared role.Left d = not_true d
rest_declared role.Head d = not_true d
rest_declared role.Assigned d = not_true d
rest_declared role.AssignedValue d = not_true d
rest_declared role.AssignedElement d = not_true d
rest_declared role.AssignedName d = not_true d
rest_declared _ d = refl

pub rest_single : (w : Role) → is_single (in_rest w) ≡ true
rest_single role.DeclaredProperty = refl
rest_single role.AssignedProperty = refl
rest_single _ = refl

default_declared : (w : Role) → is_declared w ≡ true → is_declared (in_default w) ≡ true
default_declared role.Parameter d = refl
default_declared role.AssignedProperty d = not_true d
default_declared role.Left d = not_true d
default_declared role.Head d = not_true d
default_declared role.Assigned d = not_true d
default_declared role.AssignedValue d = not_true d
default_declared role.AssignedElement d = not_true d
default_declared role.AssignedName d = not_true d
default_declared _ d = refl

pub default_single : (w : Role) → is_single (in_default w) ≡ true
default_single role.Parameter = refl
default_single _ = refl

template_declared : (w : Role) → is_declared (in_template w) ≡ true
template_declared role.Tagged = refl
template_declared _ = refl

template_calm : (w : Role) → is_calm (in_template w) ≡ true
template_calm role.Tagged = refl
template_calm _ = refl

-- a role of a child where nothing is assigned to
pub declared_in : (w : Role) → is_declared w ≡ true → (k : Kind) (i : ℕ) → is_assigning k ≡ false → is_declared (role_in w k i) ≡ true
unfolding role_in
declared_in w d kind.List i h = listed w d
declared_in w d (kind.ArrayPat optional) i h = let a = unassigned w d in rw a (at_declared (i == 0) role.DeclaredElements role.Free refl refl)
declared_in w d (kind.ObjectPat optional) i h = let a = unassigned w d in rw a (at_declared (i == 0) role.DeclaredProperties role.Free refl refl)
declared_in w d kind.BindingIdent i h = let a = unassigned w d in rw a (at_declared (i == 0) (bound_name_of w) role.Free (named w) refl)
declared_in w d kind.RestPat i h = at_declared (i == 0) (in_rest w) (by w role.Nothing role.Free) (rest_declared w d) (ap (λ b. is_declared (cond b role.Nothing role.Free)) (unassigned w d))
declared_in w d kind.AssignPat i h = at_declared (i == 0) (in_default w) role.Free (default_declared w d) refl
declared_in w d kind.KeyValuePatProp i h = let a = unassigned w d in rw a (at_declared (i == 1) role.DeclaredValue role.Free refl refl)
declared_in w d kind.AssignPatProp i h = let a = unassigned w d in rw a (at_declared (i == 0) role.DeclaredName role.Free refl refl)
declared_in w d (kind.ArrowExpr is_async is_generator) i h = at_declared (i == 0) role.Parameters role.Free refl refl
declared_in w d kind.SetterProp i h = at_declared (i == 1) role.Parameter (cond (i == 2) role.Parameter role.Free) refl (at_declared (i == 2) role.Parameter role.Free refl refl)
declared_in w d kind.CatchClause i h = at_declared (i == 0) role.Declared role.Free refl refl
declared_in w d (kind.VarDeclarator definite) i h = at_declared (i == 0) role.Declared role.Free refl refl
declared_in w d (kind.BinExpr op) i h = at_declared (i == 0) (operand_of op) role.Free (operand_declared op) refl
declared_in w d kind.MemberExpr i h = at_declared (i == 1) role.Private role.Free refl refl
declared_in w d (kind.PrivateMethod k modifiers) i h = at_declared (i == 0) role.Private role.Free refl refl
declared_in w d (kind.PrivateProp modifiers readonly declare definite) i h = at_declared (i == 0) role.Private role.Free refl refl
declared_in w d (kind.ImportNamedSpecifier is_type_only) i h = at_declared (i == 1) role.Key role.Free refl refl
declared_in w d kind.TsEnumMember i h = at_declared (i == 0) role.Key role.Free refl refl
declared_in w d kind.TaggedTpl i h = at_declared (i == 2) role.Tagged role.Free refl refl
declared_in w d kind.Tpl i h = at_declared (i == 1) (in_template w) role.Free (template_declared w) refl
declared_in w d (kind.AssignExpr op) i h = not_true (sym h)
declared_in w d (kind.UpdateExpr op prefix) i h = not_true (sym h)
declared_in w d kind.ForInStmt i h = not_true (sym h)
declared_in w d (kind.ForOfStmt is_await) i h = not_true (sym h)
declared_in w d _ i h = refl

left_calm : (op : AssignOp) → is_calm (left_of op) ≡ true
left_calm Assign = refl
left_calm _ = refl

pub calm_in : (w : Role) (k : Kind) (i : ℕ) → is_told k ≡ false → is_calm (role_in w k i) ≡ true
unfolding role_in
calm_in w (kind.ArrayPat optional) i h = at_calm (i == 0) (by w role.AssignedElements role.DeclaredElements) (by w role.Nothing role.Free) (at_calm (is_assigned w) role.AssignedElements role.DeclaredElements refl refl) (at_calm (is_assigned w) role.Nothing role.Free refl refl)
calm_in w (kind.ObjectPat optional) i h = at_calm (i == 0) (by w role.AssignedProperties role.DeclaredProperties) (by w role.Nothing role.Free) (at_calm (is_assigned w) role.AssignedProperties role.DeclaredProperties refl refl) (at_calm (is_assigned w) role.Nothing role.Free refl refl)
calm_in w kind.BindingIdent i h = at_calm (i == 0) (bound_name_of w) (by w role.Nothing role.Free) (named_calm w) (at_calm (is_assigned w) role.Nothing role.Free refl refl)
calm_in w kind.CatchClause i h = at_calm (i == 0) role.Declared role.Free refl refl
calm_in w (kind.VarDeclarator definite) i h = at_calm (i == 0) role.Declared role.Free refl refl
calm_in w (kind.AssignExpr op) i h = at_calm (i == 0) (left_of op) role.Free (left_calm op) refl
calm_in w kind.ForInStmt i h = at_calm (i == 0) role.Head role.Free refl refl
calm_in w (kind.ForOfStmt is_await) i h = at_calm (i == 0) role.Head role.Free refl refl
calm_in w (kind.BinExpr op) i h = at_calm (i == 0) (operand_of op) role.Free (operand_calm op) refl
calm_in w kind.MemberExpr i h = at_calm (i == 1) role.Private role.Free refl refl
calm_in w (kind.PrivateMethod k modifiers) i h = at_calm (i == 0) role.Private role.Free refl refl
calm_in w (kind.PrivateProp modifiers readonly declare definite) i h = at_calm (i == 0) role.Private role.Free refl refl
calm_in w (kind.ImportNamedSpecifier is_type_only) i h = at_calm (i == 1) role.Key role.Free refl refl
calm_in w kind.TsEnumMember i h = at_calm (i == 0) role.Key role.Free refl refl
calm_in w kind.TaggedTpl i h = at_calm (i == 2) role.Tagged role.Free refl refl
calm_in w kind.Tpl i h = at_calm (i == 1) (in_template w) role.Free (template_calm w) refl
calm_in w kind.List i h = not_true (sym h)
calm_in w kind.RestPat i h = not_true (sym h)
calm_in w kind.AssignPat i h = not_true (sym h)
calm_in w kind.KeyValuePatProp i h = not_true (sym h)
calm_in w kind.AssignPatProp i h = not_true (sym h)
calm_in w kind.Param i h = not_true (sym h)
calm_in w (kind.TsParamProp accessibility is_override readonly) i h = not_true (sym h)
calm_in w (kind.ArrowExpr is_async is_generator) i h = not_true (sym h)
calm_in w kind.SetterProp i h = not_true (sym h)
calm_in w _ i h = refl

each_proper : (ws : ℕ → Role) (os : List Shape) → ((i : ℕ) → is_calm (ws i) ≡ true) → AllProper ws os
each_proper ws [] h = tt
each_proper ws (o ∷ os) h = (calm (ws 0) o (h 0), each_proper (λ i. ws (suc i)) os (λ i. h (suc i)))

-- the items of a list
same_proper : (w : Role) (o : Shape) (n : ℕ) → Proper w o → AllProper (λ i. w) (replicate n o)
same_proper w o zero p = tt
same_proper w o (suc n) p = (p, same_proper w o n p)

by_single : (b : Bool) (x y : Role) → is_single x ≡ true → is_single y ≡ true → is_single (cond b x y) ≡ true
by_single true x y h g = h
by_single false x y h g = g

name_proper : (w : Role) → is_declared w ≡ true → Proper (by w role.AssignedName role.DeclaredName) (one sort.BindingIdent)
name_proper w d = subst (λ b. Proper (cond b role.AssignedName role.DeclaredName) (one sort.BindingIdent)) (sym (unassigned w d)) bound_name

pub untold : (w : Role) (k : Kind) (os : List Shape) → is_told k ≡ false → AllProper (role_in w k) os
untold w k os h = each_proper (role_in w k) os (λ i. calm_in w k i h)

nothing_calm : (w : Role) → is_calm (by w role.Nothing role.Free) ≡ true
nothing_calm w = at_calm (is_assigned w) role.Nothing role.Free refl refl

-- what the shapes of the children of a node keep out
pub proper_in : (w : Role) → is_declared w ≡ true → (k : Kind) (o : Shape) (n : ℕ) → Proper w o → AllProper (role_in w k) (child_shapes k o n)
unfolding role_in
proper_in w d kind.List o n p = same_proper (in_list w) (item_shape o) n (p.1, λ k a. items_even w k)
proper_in w d kind.RestPat o n p = (one_pat (in_rest w) (rest_single w), (calm (by w role.Nothing role.Free) (maybe sort.TsTypeAnn) (nothing_calm w), tt))
proper_in w d kind.AssignPat o n p = (one_pat (in_default w) (default_single w), (calm role.Free (one sort.Expr) refl, tt))
proper_in w d kind.KeyValuePatProp o n p = (calm role.Free (one sort.PropName) refl, (one_pat (by w role.AssignedValue role.DeclaredValue) (by_single (is_assigned w) role.AssignedValue role.DeclaredValue refl refl), tt))
proper_in w d kind.AssignPatProp o n p = (name_proper w d, (calm role.Free (maybe sort.Expr) refl, tt))
proper_in w d kind.Param o n p = (one_pat role.Parameter refl, tt)
proper_in w d (kind.TsParamProp accessibility is_override readonly) o n p = (property_parameter, tt)
proper_in w d (kind.ArrowExpr is_async is_generator) o n p = (parameters, (calm role.Free (one sort.BlockStmtOrExpr) refl, (calm role.Free (maybe sort.TsTypeParamDecl) refl, (calm role.Free (maybe sort.TsTypeAnn) refl, tt))))
proper_in w d kind.SetterProp o n p = (calm role.Free (one sort.PropName) refl, (maybe_parameter, (one_pat role.Parameter refl, (calm role.Free (maybe sort.BlockStmt) refl, tt))))
proper_in w d k o n p = untold w k (child_shapes k o n) refl

-- what is asked of a child of a node to which nothing is assigned

free_twice : (b : Bool) → cond b target.Free target.Free ≡ target.Free
free_twice true = refl
free_twice false = refl

free_target : (k : Kind) (i : ℕ) → is_assigning k ≡ false → target_in target.Free k i ≡ target.Free
unfolding target_in
free_target kind.KeyValueProp i h = free_twice (i == 1)
free_target kind.AssignProp i h = free_twice (i == 0)
free_target (kind.AssignExpr op) i h = not_true (sym h)
free_target (kind.UpdateExpr op prefix) i h = not_true (sym h)
free_target kind.ForInStmt i h = not_true (sym h)
free_target (kind.ForOfStmt is_await) i h = not_true (sym h)
free_target _ i h = refl

at_agrees : (b : Bool) (t : Target) (w : Role) (r : Role) (c : Kind) → r ≡ raw_role (cond b w role.Free) → ((s : Role) → s ≡ raw_role w → Agrees t s w c) → Agrees (cond b t target.Free) r (cond b w role.Free) c
at_agrees true t w r c e h = h r e
at_agrees false t w r c e h = (e, refl)

left_agrees : (op : AssignOp) (r : Role) (c : Kind) → r ≡ raw_role (left_of op) → Agrees (on_left target.Free op) r (left_of op) c
left_agrees Assign r c e = (e, refl)
left_agrees op r c e = (e, refl)

pub no_second : (b c : Bool) → c ≡ false → (b && c) ≡ false
no_second true c h = h
no_second false c h = refl

pub free_agrees : (w : Role) → is_declared w ≡ true → (k : Kind) → is_getter k ≡ false → (is_parameter (raw_role w) && is_list k) ≡ false → (i : ℕ) (c : Kind) → Agrees (target_in target.Free k i) (usual_role_in (raw_role w) k i) (role_in w k i) c
unfolding target_in role_in
free_agrees w d (kind.AssignExpr op) getter list i c = at_agrees (i == 0) (on_left target.Free op) (left_of op) _ c (raw_alike w d (kind.AssignExpr op) i getter list) (λ s e. left_agrees op s c e)
free_agrees w d (kind.UpdateExpr op prefix) getter list i c = (raw_alike w d (kind.UpdateExpr op prefix) i getter list, refl)
free_agrees w d kind.ForInStmt getter list i c = at_agrees (i == 0) target.Head role.Head _ c (raw_alike w d kind.ForInStmt i getter list) (λ s e. (e, refl))
free_agrees w d (kind.ForOfStmt is_await) getter list i c = at_agrees (i == 0) target.Head role.Head _ c (raw_alike w d (kind.ForOfStmt is_await) i getter list) (λ s e. (e, refl))
free_agrees w d k getter list i c =
    subst (λ t. Agrees t (usual_role_in (raw_role w) k i) (role_in w k i) c) (sym (free_target k i refl)) (raw_alike w d k i getter list, declared_in w d k i refl)

-- a target that is no pattern

abbrev pub is_steady : Kind → Bool
is_steady k = is_plain_target k || is_wrapper k

member_agrees : (b : Bool) (c : Kind) → Agrees target.Free (raw_role (cond b role.Private role.Free)) (cond b role.Private role.Free) c
member_agrees true c = (refl, refl)
member_agrees false c = (refl, refl)

pub steady_agrees : (t : Target) (w : Role) (k : Kind) → is_steady k ≡ true → (i : ℕ) (c : Kind) → Agrees (target_in t k i) (usual_role_in role.Free k i) (role_in w k i) c
unfolding target_in role_in usual_role_in
steady_agrees t w (kind.Ident text ctxt optional) h i c = (refl, refl)
steady_agrees t w kind.MemberExpr h i c = member_agrees (i == 1) c
steady_agrees t w kind.SuperPropExpr h i c = (refl, refl)
steady_agrees t w kind.ParenExpr h i c = (refl, refl)
steady_agrees t w kind.TsTypeAssertion h i c = (refl, refl)
steady_agrees t w kind.TsConstAssertion h i c = (refl, refl)
steady_agrees t w kind.TsNonNullExpr h i c = (refl, refl)
steady_agrees t w kind.TsAsExpr h i c = (refl, refl)
steady_agrees t w kind.TsInstantiation h i c = (refl, refl)
steady_agrees t w kind.TsSatisfiesExpr h i c = (refl, refl)
steady_agrees t w _ h i c = not_true h

steady_untold : (k : Kind) → is_steady k ≡ true → is_told k ≡ false
steady_untold kind.List h = not_true h
steady_untold kind.RestPat h = not_true h
steady_untold kind.AssignPat h = not_true h
steady_untold kind.KeyValuePatProp h = not_true h
steady_untold kind.AssignPatProp h = not_true h
steady_untold kind.Param h = not_true h
steady_untold (kind.TsParamProp accessibility is_override readonly) h = not_true h
steady_untold (kind.ArrowExpr is_async is_generator) h = not_true h
steady_untold kind.SetterProp h = not_true h
steady_untold _ h = refl

pub steady_stand : (t : Target) (w : Role) (k : Kind) → is_steady k ≡ true → (os : List Shape) (cs : List Node) → AllStand (target_in t k) (usual_role_in role.Free k) (role_in w k) os cs
steady_stand t w k h os cs = stand (target_in t k) (usual_role_in role.Free k) (role_in w k) os cs (λ i c. steady_agrees t w k h i c) (untold w k os (steady_untold k h))

pub steady_unbound : (k : Kind) → is_steady k ≡ true → is_bound_name k ≡ false
steady_unbound kind.BindingIdent h = not_true h
steady_unbound _ h = refl
