-- How nodes stand to the rules of lists and statements, and how they do without types.
use Rattle.std.proofs.Common.{◌≡◌, ◌∙◌, ◌⊎◌, inl, inr, ℕ, zero, suc, Bool, true, false, not, ◌&&◌, ◌||◌, ◌==◌, cond, List, [], ◌∷◌, map, Some, refl, sym, ap, ap₂, slice_get, arith}
use Rattle.std.proofs.lemmas.Bool.{eqb-true}
use Rattle.ecma_kind.specs.Sorts.{belongs}
use Rattle.ecma_kind.specs.declared.kind.Kind.{Kind}
use Rattle.ecma_kind.specs.declared.kind.Kind.TheVariants as kind
use Rattle.ecma_kind.specs.declared.operators.AssignOp.{AssignOp}
use Rattle.ecma_kind.specs.declared.operators.AssignOp.TheVariants.{Assign}
use Rattle.ecma_kind.specs.declared.shapes.Count.{Count}
use Rattle.ecma_kind.specs.declared.shapes.Count.TheVariants.{One, Maybe, Many, MaybeMany, Holes}
use Rattle.ecma_kind.specs.declared.shapes.Shape.{Shape}
use Rattle.ecma_kind.specs.declared.shapes.Sort.{Sort}
use Rattle.ecma_kind.specs.declared.shapes.Sort.TheVariants as sort
use Rattle.ecma_tree.specs.declared.node.Node.{Node, fold_out-Node}
use Rattle.ecma_tree.specs.Sorted.{allows_by, child_shapes, is_absent, is_list}
use Rattle.ecma_rules.specs.declared.standing.Standing.{Standing}
use Rattle.ecma_rules.specs.declared.standing.Standing.TheVariants as standing
use Rattle.ecma_rules.specs.declared.target.Target.{Target}
use Rattle.ecma_rules.specs.declared.target.Target.TheVariants as target
use Rattle.ecma_rules.specs.Children.{kind_of}
use Rattle.ecma_rules.specs.Statements.{is_exported}
use Rattle.ecma_rules.specs.Surroundings.{at_child, if_there, standing_by}
use Rattle.ecma_rules.specs.Targets.{first_is, in_list, in_literal, in_short_default, in_spread, in_value, is_plain_target, is_simple_target, is_wrapper, on_left, simple_step, target_in}
use Rattle.ecma_fits.specs.declared.role.Role.{Role}
use Rattle.ecma_fits.specs.declared.role.Role.TheVariants as role
use Rattle.ecma_fits.specs.Roles.{is_out_of_role, is_wrong_name, left_of, may_be, role_in, takes}
use Rattle.ecma_strip_fits.proofs.Classes.{class_of}
use Rattle.ecma_strip_fits.proofs.Classes.Class.{Usual, Wrapped}
use Rattle.ecma_strip_fits.proofs.ChildrenKept.{is_usual, maybe_usual, usual_by}
use Rattle.ecma_strip_fits.proofs.Walk.{children_of}

some_same : {X : Type 0} {x y : X} → Some x ≡ Some y → x ≡ y
some_same e = cc

-- ---- targets, of which a finished tree has few

-- where something is assigned to, which is no pattern or stands before one
abbrev pub is_left : Role → Bool
is_left role.Left = true
is_left role.Head = true
is_left _ = false

abbrev pub is_met : Target → Role → Bool
is_met target.Free r = true
is_met target.Simple r = true
is_met target.Left r = is_left r
is_met target.Head r = is_left r
is_met _ r = false

abbrev pub is_idle : Target → Bool
is_idle target.Free = true
is_idle target.Simple = true
is_idle _ = false

pub idle_or_left : (t : Target) (r : Role) → is_met t r ≡ true → (is_idle t ≡ true) ⊎ (is_left r ≡ true)
idle_or_left target.Free r m = inl refl
idle_or_left target.Simple r m = inl refl
idle_or_left target.Left r m = inr m
idle_or_left target.Head r m = inr m
idle_or_left _ r m = inl (cc)

pub is_literal : Kind → Bool
is_literal kind.ArrayLit = true
is_literal kind.ObjectLit = true
is_literal _ = false

no_pattern_there : (t : Target) (items : Target) → is_idle t ≡ true → in_literal t items ≡ target.Free
no_pattern_there target.Free items i = refl
no_pattern_there target.Simple items i = refl
no_pattern_there _ items i = cc

pub list_met : (t : Target) (r : Role) → is_met t r ≡ true → in_list t ≡ target.Free
list_met target.Free r m = refl
list_met target.Simple r m = refl
list_met target.Left r m = refl
list_met target.Head r m = refl
list_met _ r m = cc

spread_met : (t : Target) (r : Role) → is_met t r ≡ true → in_spread t ≡ target.Free
spread_met target.Free r m = refl
spread_met target.Simple r m = refl
spread_met target.Left r m = refl
spread_met target.Head r m = refl
spread_met _ r m = cc

value_met : (t : Target) (r : Role) → is_met t r ≡ true → in_value t ≡ target.Free
value_met target.Free r m = refl
value_met target.Simple r m = refl
value_met target.Left r m = refl
value_met target.Head r m = refl
value_met _ r m = cc

short_met : (t : Target) (r : Role) → is_met t r ≡ true → in_short_default t ≡ target.Free
short_met target.Free r m = refl
short_met target.Simple r m = refl
short_met target.Left r m = refl
short_met target.Head r m = refl
short_met _ r m = cc

left_met : (t : Target) (r : Role) → is_met t r ≡ true → (op : AssignOp) (b : Bool) → is_met (cond b (on_left t op) target.Free) (cond b (left_of op) role.Free) ≡ true
left_met t r m op false = refl
left_met target.Free r m Assign true = refl
left_met target.Free r m _ true = refl
left_met target.Simple r m Assign true = refl
left_met target.Simple r m _ true = refl
left_met target.Left r m Assign true = refl
left_met target.Left r m _ true = refl
left_met target.Head r m Assign true = refl
left_met target.Head r m _ true = refl
left_met _ r m op true = cc

free_met : (b : Bool) (t : Target) (r : Role) → t ≡ target.Free → is_met (cond b t target.Free) r ≡ true
free_met true t r e = ap (λ z. is_met z r) e
free_met false t r e = refl

head_met : (b : Bool) → is_met (cond b target.Head target.Free) (cond b role.Head role.Free) ≡ true
head_met true = refl
head_met false = refl

pub met_child : (t : Target) (r : Role) (k : Kind) (i : ℕ) → is_met t r ≡ true → (is_literal k ≡ true → is_idle t ≡ true) → is_met (target_in t k i) (role_in r k i) ≡ true
unfolding target_in role_in is_literal
met_child t r kind.List i m idle = ap (λ z. is_met z (role_in r kind.List i)) (list_met t r m)
met_child t r kind.ArrayLit i m idle = ap (λ z. is_met z role.Free) (no_pattern_there t target.Elements (idle refl))
met_child t r kind.ObjectLit i m idle = ap (λ z. is_met z role.Free) (no_pattern_there t target.Properties (idle refl))
met_child t r kind.SpreadElement i m idle = ap (λ z. is_met z role.Free) (spread_met t r m)
met_child t r kind.KeyValueProp i m idle = free_met (i == 1) (in_value t) role.Free (value_met t r m)
met_child t r kind.AssignProp i m idle = free_met (i == 0) (in_short_default t) role.Free (short_met t r m)
met_child t r (kind.AssignExpr op) i m idle = left_met t r m op (i == 0)
met_child t r (kind.UpdateExpr op prefix) i m idle = refl
met_child t r kind.ForInStmt i m idle = head_met (i == 0)
met_child t r (kind.ForOfStmt is_await) i m idle = head_met (i == 0)
met_child t r _ i m idle = refl

-- ---- an expression there is a simple target

pub left_expression : (r : Role) → is_left r ≡ true → (k : Kind) → belongs sort.Expr k ≡ true → may_be r k ≡ false
unfolding may_be
left_expression role.Left l kind.BindingIdent b = cc
left_expression role.Left l _ b = cc
left_expression role.Head l kind.BindingIdent b = cc
left_expression role.Head l _ b = cc
left_expression _ l k b = cc

pub must_take : (a b c d : Bool) → (a || not (b || (c && d))) ≡ false → b ≡ false → d ≡ true
must_take true b c d h f = cc
must_take false true c d h f = cc
must_take false false false d h f = cc
must_take false false true false h f = cc
must_take false false true true h f = refl

pub simple_there : (r : Role) (n : Node) → is_out_of_role r n ≡ false → is_left r ≡ true → belongs sort.Expr (kind_of n) ≡ true → is_simple_target n ≡ true
simple_there r n fits l b = must_take (is_wrong_name r (kind_of n)) (may_be r (kind_of n)) (takes r (kind_of n)) (is_simple_target n) fits (left_expression r l (kind_of n) b)

pub simple-out : (n : Node) → is_simple_target n ≡ (is_plain_target (kind_of n) || (is_wrapper (kind_of n) && first_is (map is_simple_target (children_of n))))
simple-out n = fold_out-Node Bool simple_step n

literal_expression : (k : Kind) → is_literal k ≡ true → belongs sort.Expr k ≡ true
unfolding is_literal
literal_expression kind.ArrayLit l = refl
literal_expression kind.ObjectLit l = refl
literal_expression _ l = cc

literal_not : (k : Kind) → is_literal k ≡ true → (c : Bool) → (is_plain_target k || (is_wrapper k && c)) ≡ false
unfolding is_literal
literal_not kind.ArrayLit l c = refl
literal_not kind.ObjectLit l c = refl
literal_not _ l c = cc

pub literal_idle : (t : Target) (r : Role) (n : Node) → is_out_of_role r n ≡ false → is_met t r ≡ true → is_literal (kind_of n) ≡ true → is_idle t ≡ true
literal_idle t r n fits m l = by (idle_or_left t r m)
  where
    by : (is_idle t ≡ true) ⊎ (is_left r ≡ true) → is_idle t ≡ true
    by (inl i) = i
    by (inr f) =
        let yes' = simple_there r n fits f (literal_expression (kind_of n) l) in
        let no' = literal_not (kind_of n) l (first_is (map is_simple_target (children_of n))) in
        let clash : true ≡ false = sym yes' ∙ (simple-out n ∙ no') in
        absurd (cc)

-- behind a wrapper
first_simple : (a b c : Bool) → a ≡ false → (a || (b && c)) ≡ true → c ≡ true
first_simple true b c f h = cc
first_simple false true c f h = h
first_simple false false c f h = cc

wrapped_no_target : (k : Kind) → class_of k ≡ Wrapped → is_plain_target k ≡ false
unfolding class_of
wrapped_no_target (kind.Ident text ctxt optional) w = cc
wrapped_no_target kind.MemberExpr w = cc
wrapped_no_target kind.SuperPropExpr w = cc
wrapped_no_target _ w = refl

first_at : (cs : List Node) (e : Node) → slice_get cs 0 ≡ Some e → first_is (map is_simple_target cs) ≡ true → is_simple_target e ≡ true
first_at [] e at h = cc
first_at (c ∷ cs) e at h = let same : c ≡ e = cc in ap is_simple_target (sym same) ∙ h

pub simple_under : (n e : Node) → class_of (kind_of n) ≡ Wrapped → slice_get (children_of n) 0 ≡ Some e → is_simple_target n ≡ true → is_simple_target e ≡ true
simple_under n e w at h =
    first_at (children_of n) e at
    (first_simple (is_plain_target (kind_of n)) (is_wrapper (kind_of n)) (first_is (map is_simple_target (children_of n))) (wrapped_no_target (kind_of n) w) (sym (simple-out n) ∙ h))

pub wrapped_expression : (k : Kind) → class_of k ≡ Wrapped → belongs sort.Expr k ≡ true
unfolding class_of
wrapped_expression kind.TsTypeAssertion w = refl
wrapped_expression kind.TsConstAssertion w = refl
wrapped_expression kind.TsNonNullExpr w = refl
wrapped_expression kind.TsAsExpr w = refl
wrapped_expression kind.TsInstantiation w = refl
wrapped_expression kind.TsSatisfiesExpr w = refl
wrapped_expression _ w = cc

-- ---- exported names

abbrev pub is_name_sort : Sort → Bool
is_name_sort sort.ExportSpecifier = true
is_name_sort sort.ModuleExportName = true
is_name_sort _ = false

name_usual : (σ : Sort) → is_name_sort σ ≡ true → is_usual σ ≡ true
name_usual sort.ExportSpecifier n = refl
name_usual sort.ModuleExportName n = refl
name_usual _ n = cc

pub wrapped_no_list : (k : Kind) → class_of k ≡ Wrapped → is_list k ≡ false
unfolding class_of
wrapped_no_list kind.List w = cc
wrapped_no_list _ w = refl

pub wrapped_there : (k : Kind) → class_of k ≡ Wrapped → is_absent k ≡ false
unfolding class_of
wrapped_there kind.Absent w = cc
wrapped_there _ w = refl

wrapped_usual : (k : Kind) → class_of k ≡ Wrapped → class_of k ≡ Usual → ⊥
wrapped_usual k w u = let clash : Wrapped ≡ Usual = sym w ∙ u in cc

pub no_name_wrapped : (k : Kind) → class_of k ≡ Wrapped → (c : Count) (σ : Sort) → is_name_sort σ ≡ true → allows_by c σ k ≡ true → ⊥
no_name_wrapped k w One σ n a = wrapped_usual k w (usual_by σ (name_usual σ n) k a)
no_name_wrapped k w Maybe σ n a = wrapped_usual k w (maybe_usual σ (name_usual σ n) k a)
no_name_wrapped k w Many σ n a = let clash : false ≡ true = sym (wrapped_no_list k w) ∙ a in cc
no_name_wrapped k w MaybeMany σ n a = let clash : false ≡ true = sym (ap₂ (λ x y. x || y) (wrapped_there k w) (wrapped_no_list k w)) ∙ a in cc
no_name_wrapped k w Holes σ n a = let clash : false ≡ true = sym (wrapped_no_list k w) ∙ a in cc

exported_cond : (b : Bool) (x y : Standing) → is_exported x ≡ false → is_exported y ≡ false → is_exported (cond b x y) ≡ false
exported_cond true x y h g = h
exported_cond false x y h g = g

child_unexported : (wanted i : ℕ) (x : Standing) → is_exported x ≡ false → is_exported (at_child wanted i x) ≡ false
child_unexported wanted i x h = exported_cond (i == wanted) x standing.Plain h refl

is_exporting : Kind → Bool
is_exporting (kind.NamedExport type_only) = true
is_exporting (kind.ExportNamedSpecifier is_type_only) = true
is_exporting kind.List = true
is_exporting _ = false

unexported : (s : Standing) (k : Kind) (f g : Bool) (i : ℕ) → is_exporting k ≡ false → is_exported (standing_by s k f g i) ≡ false
unfolding standing_by is_exporting
unexported s kind.List f g i e = cc
unexported s kind.SuperPropExpr f g i e = child_unexported 0 i standing.Linked refl
unexported s kind.CallExpr f g i e = child_unexported 0 i standing.Linked refl
unexported s (kind.Constructor accessibility is_optional) f g i e = child_unexported 1 i (if_there g standing.Declaring) (exported_cond g standing.Declaring standing.Plain refl refl)
unexported s (kind.NamedExport type_only) f g i e = cc
unexported s (kind.ExportNamedSpecifier is_type_only) f g i e = cc
unexported s kind.IfStmt f g i e = exported_cond (i == 0) standing.Plain standing.Body refl refl
unexported s kind.LabeledStmt f g i e = child_unexported 1 i standing.Body refl
unexported s kind.WhileStmt f g i e = child_unexported 1 i standing.Body refl
unexported s kind.DoWhileStmt f g i e = child_unexported 1 i standing.Body refl
unexported s kind.ForStmt f g i e = child_unexported 3 i standing.Body refl
unexported s kind.ForInStmt f g i e = child_unexported 2 i standing.Body refl
unexported s (kind.ForOfStmt is_await) f g i e = child_unexported 2 i standing.Body refl
unexported s _ f g i e = refl

at_first : (i : ℕ) (x : Standing) → is_exported (at_child 0 (suc i) x) ≡ true → ⊥
at_first i x h = by (suc i == 0) refl h
  where
    by : (b : Bool) → (suc i == 0) ≡ b → is_exported (cond b x standing.Plain) ≡ true → ⊥
    by true e h' = let z : suc i ≡ 0 = eqb-true (suc i) 0 e in omega (arith, z)
    by false e h' = cc

-- what stands exported is a specifier or a name
name_shape : (s : Standing) (k : Kind) (f g : Bool) (i : ℕ) (o' : Shape) (m : ℕ) (o : Shape) → class_of k ≡ Usual → is_exporting k ≡ true → is_exported (standing_by s k f g i) ≡ true → slice_get (child_shapes k o' m) i ≡ Some o → is_name_sort o.sort ≡ true
unfolding standing_by is_exporting class_of
name_shape s (kind.NamedExport type_only) f g zero o' m o u e h at = ap (λ z. is_name_sort z.sort) (sym (some_same at))
name_shape s (kind.NamedExport type_only) f g (suc i) o' m o u e h at = absurd (at_first i (if_there (not f) standing.Exported) h)
name_shape s (kind.ExportNamedSpecifier is_type_only) f g zero o' m o u e h at = ap (λ z. is_name_sort z.sort) (sym (some_same at))
name_shape s (kind.ExportNamedSpecifier is_type_only) f g (suc i) o' m o u e h at = absurd (at_first i s h)
name_shape s kind.List f g i o' m o u e h at = cc
name_shape s _ f g i o' m o u e h at = cc

pub named_child : (s : Standing) (k : Kind) (f g : Bool) (i : ℕ) (o' : Shape) (m : ℕ) (o : Shape) → class_of k ≡ Usual → slice_get (child_shapes k o' m) i ≡ Some o → is_exported (standing_by s k f g i) ≡ true → is_name_sort o.sort ≡ true
named_child s k f g i o' m o u at h = by (is_exporting k) refl
  where
    by : (b : Bool) → is_exporting k ≡ b → is_name_sort o.sort ≡ true
    by true e = name_shape s k f g i o' m o u e h at
    by false e = let no : false ≡ true = sym (unexported s k f g i e) ∙ h in absurd (cc)
