-- Where declarations and members of enums may stand in a module: among the items of a list, behind `export`, or in an enum; and nothing that is left as it is has one.
use Rattle.std.proofs.Common.{◌≡◌, ◌∙◌, ℕ, zero, suc, Bool, true, false, not, cond, ◌&&◌, ◌||◌, ◌==◌, List, [], ◌∷◌, map, Option, Some, None, refl, sym, ap, subst, slice_get, arith}
use Rattle.std.specs.List.{list_all}
use Rattle.std.specs.Option.{option_map_or}
use Rattle.ecma_kind.specs.Shapes.{field_shapes}
use Rattle.ecma_kind.specs.Sorts.{belongs, is_decl, is_stmt, is_type_wrapper}
use Rattle.ecma_kind.specs.declared.kind.Kind.{Kind}
use Rattle.ecma_kind.specs.declared.kind.Kind.TheVariants as kind
use Rattle.ecma_kind.specs.declared.operators.UnaryOp.{UnaryOp}
use Rattle.ecma_kind.specs.declared.operators.UnaryOp.TheVariants as unary
use Rattle.ecma_kind.specs.declared.shapes.Count.{Count}
use Rattle.ecma_kind.specs.declared.shapes.Count.TheVariants.{One, Maybe, Many, MaybeMany, Holes}
use Rattle.ecma_kind.specs.declared.shapes.FieldShape.{FieldShape}
use Rattle.ecma_kind.specs.declared.shapes.Shape.{Shape}
use Rattle.ecma_kind.specs.declared.shapes.Sort.{Sort}
use Rattle.ecma_kind.specs.declared.shapes.Sort.TheVariants as sort
use Rattle.ecma_tree.specs.Sorted.{allows, allows_by, child_shapes, is_absent, is_list, item_shape, one}
use Rattle.ecma_fits.specs.Roles.{is_bound_name}
use Rattle.ecma_lower_enums.specs.declared.place.Place.{Place}
use Rattle.ecma_lower_enums.specs.declared.place.Place.TheVariants as place
use Rattle.ecma_lower_enums.specs.Places.{child_place, exported_place, inside_place, is_item, is_left, is_raw, is_variables, operand_place, pattern_place, place_in, place_of}
use Rattle.ecma_lower_enums.specs.Writing.{is_enum_kind}
use Rattle.ecma_lower_enums.proofs.ByForm.{no'}
use Rattle.ecma_lower_enums_sources.proofs.Relation.{is_members, suits}
use Rattle.ecma_lower_enums_sources.proofs.Suiting.{belongs-by, child-suits, no, some-same, sort-suits}
use Rattle.ecma_rules.specs.Statements.{is_body as is_body_standing, is_declaration}
use Rattle.ecma_rules.specs.Surroundings.{standing_by}
use Rattle.ecma_rules.specs.declared.standing.Standing.{Standing}

-- ---- shapes

abbrev is_stmt_sort : Sort → Bool
is_stmt_sort sort.Stmt = true
is_stmt_sort _ = false

-- neither a declaration nor a member of an enum is of these
abbrev is_quiet_sort : Sort → Bool
is_quiet_sort sort.ModuleItem = false
is_quiet_sort sort.ModuleDecl = false
is_quiet_sort sort.Stmt = false
is_quiet_sort sort.Decl = false
is_quiet_sort sort.TsEnumMember = false
is_quiet_sort _ = true

abbrev is_lone : Count → Bool
is_lone One = true
is_lone Maybe = true
is_lone _ = false

-- which shapes stand where nothing is written
abbrev pub strict : Place → Shape → Bool
strict place.Body t = is_stmt_sort t.sort && is_lone t.count
strict place.Other t = is_quiet_sort t.sort
strict place.Block t = is_quiet_sort t.sort
strict place.Raw t = is_quiet_sort t.sort
strict _ t = true

-- what may stand where nodes are left as they are
abbrev pub settles : Place → Kind → Bool
settles place.Raw k = is_absent k || is_bound_name k
settles place.Body k = not (is_left place.Body k)
settles _ k = true

none-some : {X Y : Type 0} (x : X) → None ≡ Some x → Y
none-some x e = absurd (by e)
  where
    by : None ≡ Some x → ⊥
    by e = cc

left-true : (a b : Bool) → (a && b) ≡ true → (a ≡ true) × (b ≡ true)
left-true true b h = (refl, h)
left-true false b h = no h

-- ---- what stands in the body of a statement

body-kind : (t : Shape) (k : Kind) → strict place.Body t ≡ true → allows t k ≡ true → (is_absent k || is_stmt k) ≡ true
body-kind t k s a = by t.count t.sort s a
  where
    or-right : (a b : Bool) → b ≡ true → (a || b) ≡ true
    or-right true b h = refl
    or-right false b h = h

    by : (c : Count) (σ : Sort) → (is_stmt_sort σ && is_lone c) ≡ true → allows_by c σ k ≡ true → (is_absent k || is_stmt k) ≡ true
    by One sort.Stmt s a = or-right (is_absent k) (is_stmt k) a
    by Maybe sort.Stmt s a = a
    by c sort.Stmt s a = no s
    by c _ s a = no s

no-list-body : (k : Kind) → is_list k ≡ true → (is_absent k || is_stmt k) ≡ true → false ≡ true
no-list-body kind.List l h = h
no-list-body _ l h = l

no-wrapper-body : (k : Kind) → is_type_wrapper k ≡ true → (is_absent k || is_stmt k) ≡ true → false ≡ true
no-wrapper-body kind.TsTypeAssertion l h = h
no-wrapper-body kind.TsConstAssertion l h = h
no-wrapper-body kind.TsNonNullExpr l h = h
no-wrapper-body kind.TsAsExpr l h = h
no-wrapper-body kind.TsInstantiation l h = h
no-wrapper-body kind.TsSatisfiesExpr l h = h
no-wrapper-body _ l h = l

-- ---- lists

lone-item : (t : Shape) → is_lone (item_shape t).count ≡ true
lone-item t = by t.count
  where
    by : (c : Count) → is_lone (item_shape (record { count = c; sort = t.sort })).count ≡ true
    by Holes = refl
    by _ = refl

pub items-strict : (p : Place) (t : Shape) → strict p t ≡ true → strict p (item_shape t) ≡ true
items-strict place.Body t s = ap (λ b. b && is_lone (item_shape t).count) (left-true (is_stmt_sort t.sort) (is_lone t.count) s).0 ∙ lone-item t
items-strict place.Other t s = s
items-strict place.Block t s = s
items-strict place.Raw t s = s
items-strict _ t s = s

raw-no-list : (k : Kind) → is_list k ≡ true → (is_absent k || is_bound_name k) ≡ true → false ≡ true
raw-no-list kind.List l h = h
raw-no-list _ l h = l

pub items-settle : (p : Place) (t : Shape) (k m : Kind) → is_list k ≡ true → strict p t ≡ true → allows t k ≡ true → settles p k ≡ true → settles p m ≡ true
items-settle place.Body t k m l s a h = no (no-list-body k l (body-kind t k s a))
items-settle place.Raw t k m l s a h = no (raw-no-list k l h)
items-settle _ t k m l s a h = refl

-- ---- children

at-strict : (b : Bool) (x y : Place) (u : Shape) → strict x u ≡ true → strict y u ≡ true → strict (cond b x y) u ≡ true
at-strict true x y u h g = h
at-strict false x y u h g = g

at-settles : (b : Bool) (x y : Place) (k : Kind) → settles x k ≡ true → settles y k ≡ true → settles (cond b x y) k ≡ true
at-settles true x y k h g = h
at-settles false x y k h g = g

abbrev is_quiet : Shape → Bool
is_quiet t = is_quiet_sort t.sort

quiet-at : (ts : List Shape) (i : ℕ) (u : Shape) → list_all is_quiet ts ≡ true → slice_get ts i ≡ Some u → is_quiet_sort u.sort ≡ true
quiet-at [] i u h at = cc
quiet-at (t ∷ ts) zero u h at = ap is_quiet (sym (some-same at)) ∙ (left-true (is_quiet t) (list_all is_quiet ts) h).0
quiet-at (t ∷ ts) (suc i) u h at = quiet-at ts i u (left-true (is_quiet t) (list_all is_quiet ts) h).1 at

inside-strict : (p : Place) (u : Shape) → strict (inside_place p) u ≡ true
inside-strict place.Target u = refl
inside-strict _ u = refl

inside-settles : (p : Place) (k : Kind) → settles (inside_place p) k ≡ true
inside-settles place.Target k = refl
inside-settles _ k = refl

operand-strict : (op : UnaryOp) (u : Shape) → strict (operand_place op) u ≡ true
operand-strict unary.Delete u = refl
operand-strict _ u = refl

operand-settles : (op : UnaryOp) (k : Kind) → settles (operand_place op) k ≡ true
operand-settles unary.Delete k = refl
operand-settles _ k = refl

item-exported : (p : Place) (u : Shape) → is_item p ≡ true → strict (exported_place p) u ≡ true
item-exported (place.Item at_top exported) u h = refl
item-exported _ u h = no h

exported-settles : (p : Place) (k : Kind) → settles (exported_place p) k ≡ true
exported-settles (place.Item at_top exported) k = refl
exported-settles _ k = refl

-- by the field
abbrev is_usual : FieldShape → Bool
is_usual f = is_quiet_sort f.shape.sort || (is_stmt_sort f.shape.sort && is_lone f.shape.count)

usual-strict : (p : Place) (c : Count) (σ : Sort) → (is_quiet_sort σ || (is_stmt_sort σ && is_lone c)) ≡ true → strict (place_of p σ) (record { count = c; sort = σ }) ≡ true
usual-strict p c sort.ModuleItem h = no h
usual-strict p c sort.ModuleDecl h = no h
usual-strict p c sort.Stmt h = h
usual-strict p c sort.Decl h = no h
usual-strict p c sort.TsEnumMember h = no h
usual-strict place.Target c sort.Pat h = refl
usual-strict _ c sort.Pat h = refl
usual-strict place.Target c sort.ObjectPatProp h = refl
usual-strict _ c sort.ObjectPatProp h = refl
usual-strict p c _ h = refl

fields-strict : (p : Place) (fs : List FieldShape) (i : ℕ) (u : Shape) → list_all is_usual fs ≡ true → slice_get (map (λ (f : FieldShape). f.shape) fs) i ≡ Some u
    → strict (option_map_or (λ (f : FieldShape). place_of p f.shape.sort) (slice_get fs i) place.Other) u ≡ true
fields-strict p [] i u h at = cc
fields-strict p (f ∷ fs) zero u h at =
    subst (λ (z : Shape). strict (place_of p f.shape.sort) z ≡ true) (some-same at) (usual-strict p f.shape.count f.shape.sort (left-true (is_usual f) (list_all is_usual fs) h).0)
fields-strict p (f ∷ fs) (suc i) u h at = fields-strict p fs i u (left-true (is_usual f) (list_all is_usual fs) h).1 at

wrapper-strict : (p : Place) (t : Shape) (k : Kind) → is_type_wrapper k ≡ true → strict p t ≡ true → allows t k ≡ true → strict p (one sort.Expr) ≡ true
wrapper-strict place.Body t k wr s a = no (no-wrapper-body k wr (body-kind t k s a))
wrapper-strict place.Other t k wr s a = refl
wrapper-strict place.Block t k wr s a = refl
wrapper-strict place.Raw t k wr s a = refl
wrapper-strict _ t k wr s a = refl

-- kinds of which more is asked
abbrev pub is_holder : Kind → Bool
is_holder kind.List = true
is_holder kind.SeqExpr = true
is_holder (kind.Module shebang) = true
is_holder (kind.Script shebang) = true
is_holder kind.BlockStmt = true
is_holder kind.TsModuleBlock = true
is_holder kind.SwitchCase = true
is_holder kind.ExportDecl = true
is_holder (kind.TsEnumDecl declare is_const) = true
is_holder _ = false

is-usual : (k : Kind) → is_holder k ≡ false → list_all is_usual (field_shapes k) ≡ true
is-usual kind.List h = no' h
is-usual kind.SeqExpr h = no' h
is-usual (kind.Module shebang) h = no' h
is-usual (kind.Script shebang) h = no' h
is-usual kind.BlockStmt h = no' h
is-usual kind.TsModuleBlock h = no' h
is-usual kind.SwitchCase h = no' h
is-usual kind.ExportDecl h = no' h
is-usual (kind.TsEnumDecl declare is_const) h = no' h
is-usual _ h = refl

the-index : (i j : ℕ) → (i == j) ≡ true → i ≡ j
the-index i j h = grind (arith, h)

module _ (p : Place) (t : Shape) (n : ℕ) where
  under-at : (b : Bool) (k : Kind) (i : ℕ) (u : Shape) (ts : List Shape) → (i == 0) ≡ b → is_type_wrapper k ≡ true → list_all is_quiet ts ≡ true → strict p t ≡ true → allows t k ≡ true
      → slice_get (one sort.Expr ∷ ts) i ≡ Some u → strict (cond b p place.Other) u ≡ true
  under-at true k i u ts e wr q s a at =
      subst (λ (z : Shape). strict p z ≡ true) (some-same (ap (λ j. slice_get (one sort.Expr ∷ ts) j) (sym (the-index i 0 e)) ∙ at)) (wrapper-strict p t k wr s a)
  under-at false k i u ts e wr q s a at = quiet-at (one sort.Expr ∷ ts) i u q at

  under : (k : Kind) (i : ℕ) (u : Shape) (ts : List Shape) → is_type_wrapper k ≡ true → list_all is_quiet ts ≡ true → strict p t ≡ true → allows t k ≡ true → slice_get (one sort.Expr ∷ ts) i ≡ Some u
      → strict (cond (i == 0) p place.Other) u ≡ true
  under k i u ts wr q s a at = under-at (i == 0) k i u ts refl wr q s a at

  pub child-strict : (k : Kind) (i : ℕ) (u : Shape) → is_list k ≡ false → is_enum_kind k ≡ false → (k ≡ kind.ExportDecl → is_item p ≡ true) → strict p t ≡ true → allows t k ≡ true
      → slice_get (child_shapes k t n) i ≡ Some u → strict (place_in true p k i) u ≡ true
  unfolding place_in
  child-strict kind.List i u l e x s a at = no (sym l)
  child-strict (kind.TsEnumDecl declare is_const) i u l e x s a at = no (sym e)
  child-strict kind.SeqExpr i u l e x s a at = refl
  child-strict (kind.Module shebang) i u l e x s a at = refl
  child-strict (kind.Script shebang) i u l e x s a at = refl
  child-strict kind.BlockStmt i u l e x s a at = refl
  child-strict kind.TsModuleBlock i u l e x s a at = refl
  child-strict kind.SwitchCase i u l e x s a at = at-strict (i == 1) (place.Item false false) place.Read u refl refl
  child-strict kind.ExportDecl zero u l e x s a at = item-exported p u (x refl)
  child-strict kind.ExportDecl (suc i) u l e x s a at = none-some u at
  child-strict (kind.TsModuleDecl declare global) i u l e x s a at =
      let q = quiet-at (child_shapes (kind.TsModuleDecl declare global) t n) i u refl at in at-strict (i == 1) place.Block place.Other u q q
  child-strict (kind.TsNamespaceDecl declare global) i u l e x s a at =
      let q = quiet-at (child_shapes (kind.TsNamespaceDecl declare global) t n) i u refl at in at-strict (i == 1) place.Block place.Other u q q
  child-strict kind.ParenExpr i u l e x s a at = inside-strict p u
  child-strict (kind.UpdateExpr op prefix) i u l e x s a at = refl
  child-strict (kind.UnaryExpr op) i u l e x s a at = operand-strict op u
  child-strict (kind.ArrowExpr is_async is_generator) i u l e x s a at =
      let q = quiet-at (child_shapes (kind.ArrowExpr is_async is_generator) t n) i u refl at in at-strict (i == 1) place.Read place.Other u refl q
  child-strict kind.SetterProp i u l e x s a at =
      let q = quiet-at (child_shapes kind.SetterProp t n) i u refl at in at-strict (i == 1) place.Raw place.Other u q q
  child-strict kind.TsTypeAssertion i u l e x s a at = under kind.TsTypeAssertion i u (one sort.TsType ∷ []) refl refl s a at
  child-strict kind.TsConstAssertion i u l e x s a at = under kind.TsConstAssertion i u [] refl refl s a at
  child-strict kind.TsNonNullExpr i u l e x s a at = under kind.TsNonNullExpr i u [] refl refl s a at
  child-strict kind.TsAsExpr i u l e x s a at = under kind.TsAsExpr i u (one sort.TsType ∷ []) refl refl s a at
  child-strict kind.TsInstantiation i u l e x s a at = under kind.TsInstantiation i u (one sort.TsTypeParamInstantiation ∷ []) refl refl s a at
  child-strict kind.TsSatisfiesExpr i u l e x s a at = under kind.TsSatisfiesExpr i u (one sort.TsType ∷ []) refl refl s a at
  child-strict k i u l e x s a at = fields-strict p (field_shapes k) i u (is-usual k refl) at

-- ---- what stands there

-- a declaration that is no body is no body that is left
undeclared-settles : (k : Kind) → is_declaration k ≡ false → not (is_decl k && not (is_variables k)) ≡ true
unfolding is_declaration
undeclared-settles (kind.FnDecl declare) h = no' h
undeclared-settles (kind.ClassDecl declare) h = no' h
undeclared-settles (kind.VarDecl word declare) h = refl
undeclared-settles (kind.TsInterfaceDecl declare) h = no' h
undeclared-settles (kind.TsTypeAliasDecl declare) h = no' h
undeclared-settles (kind.TsEnumDecl declare is_const) h = no' h
undeclared-settles (kind.TsModuleDecl declare global) h = no' h
undeclared-settles _ h = refl

pattern-settles : (p : Place) (m : Kind) → settles (pattern_place p) m ≡ true
pattern-settles place.Target m = refl
pattern-settles _ m = refl

sort-settles : (p : Place) (σ : Sort) (m : Kind) → is_quiet_sort σ ≡ true → settles (place_of p σ) m ≡ true
sort-settles p sort.ModuleItem m h = no h
sort-settles p sort.ModuleDecl m h = no h
sort-settles p sort.Stmt m h = no h
sort-settles p sort.Decl m h = no h
sort-settles p sort.TsEnumMember m h = no h
sort-settles p sort.Pat m h = pattern-settles p m
sort-settles p sort.ObjectPatProp m h = pattern-settles p m
sort-settles p _ m h = refl

abbrev is_quiet_field : FieldShape → Bool
is_quiet_field f = is_quiet_sort f.shape.sort

fields-settle : (p : Place) (fs : List FieldShape) (i : ℕ) (m : Kind) → list_all is_quiet_field fs ≡ true → settles (option_map_or (λ (f : FieldShape). place_of p f.shape.sort) (slice_get fs i) place.Other) m ≡ true
fields-settle p [] i m h = refl
fields-settle p (f ∷ fs) zero m h = sort-settles p f.shape.sort m (left-true (is_quiet_field f) (list_all is_quiet_field fs) h).0
fields-settle p (f ∷ fs) (suc i) m h = fields-settle p fs i m (left-true (is_quiet_field f) (list_all is_quiet_field fs) h).1

wrapper-settles : (p : Place) (t : Shape) (k m : Kind) → is_type_wrapper k ≡ true → is_raw p ≡ false → strict p t ≡ true → allows t k ≡ true → settles p m ≡ true
wrapper-settles place.Body t k m wr r s a = no (no-wrapper-body k wr (body-kind t k s a))
wrapper-settles place.Raw t k m wr r s a = no' r
wrapper-settles _ t k m wr r s a = refl

module _ (p : Place) (t : Shape) (s : Standing) (first second : Bool) (m : Kind) where
  -- no declaration stands in the body of a statement; and what an object's setter has first is a name with its type
  abbrev pub Asked : Kind → ℕ → Type 0
  Asked k i = ((is_body_standing (standing_by s k first second i) && is_declaration m) ≡ false) × (k ≡ kind.SetterProp → i ≡ 1 → (is_absent m || is_bound_name m) ≡ true)

  under-settles : (k : Kind) (i : ℕ) → is_type_wrapper k ≡ true → is_raw p ≡ false → strict p t ≡ true → allows t k ≡ true → settles (cond (i == 0) p place.Other) m ≡ true
  under-settles k i wr r h a = at-settles (i == 0) p place.Other m (wrapper-settles p t k m wr r h a) refl

  taken-settles : (b : Bool) (i : ℕ) → (i == 1) ≡ b → (i ≡ 1 → (is_absent m || is_bound_name m) ≡ true) → settles (cond b place.Raw place.Other) m ≡ true
  taken-settles true i e h = h (the-index i 1 e)
  taken-settles false i e h = refl

  pub child-settles : (k : Kind) (i : ℕ) → is_list k ≡ false → is_enum_kind k ≡ false → is_raw p ≡ false → strict p t ≡ true → allows t k ≡ true → Asked k i → settles (place_in true p k i) m ≡ true
  unfolding place_in standing_by
  child-settles kind.List i l e r h a asked = no (sym l)
  child-settles (kind.TsEnumDecl declare is_const) i l e r h a asked = no (sym e)
  child-settles kind.SeqExpr i l e r h a asked = refl
  child-settles (kind.Module shebang) i l e r h a asked = refl
  child-settles (kind.Script shebang) i l e r h a asked = refl
  child-settles kind.BlockStmt i l e r h a asked = refl
  child-settles kind.TsModuleBlock i l e r h a asked = refl
  child-settles kind.SwitchCase i l e r h a asked = at-settles (i == 1) (place.Item false false) place.Read m refl refl
  child-settles kind.ExportDecl i l e r h a asked = at-settles (i == 0) (exported_place p) place.Other m (exported-settles p m) refl
  child-settles (kind.TsModuleDecl declare global) i l e r h a asked = at-settles (i == 1) place.Block place.Other m refl refl
  child-settles (kind.TsNamespaceDecl declare global) i l e r h a asked = at-settles (i == 1) place.Block place.Other m refl refl
  child-settles kind.ParenExpr i l e r h a asked = inside-settles p m
  child-settles (kind.UpdateExpr op prefix) i l e r h a asked = refl
  child-settles (kind.UnaryExpr op) i l e r h a asked = operand-settles op m
  child-settles (kind.ArrowExpr is_async is_generator) i l e r h a asked = at-settles (i == 1) place.Read place.Other m refl refl
  child-settles kind.SetterProp i l e r h a asked = taken-settles (i == 1) i refl (asked.1 refl)
  child-settles kind.TsTypeAssertion i l e r h a asked = under-settles kind.TsTypeAssertion i refl r h a
  child-settles kind.TsConstAssertion i l e r h a asked = under-settles kind.TsConstAssertion i refl r h a
  child-settles kind.TsNonNullExpr i l e r h a asked = under-settles kind.TsNonNullExpr i refl r h a
  child-settles kind.TsAsExpr i l e r h a asked = under-settles kind.TsAsExpr i refl r h a
  child-settles kind.TsInstantiation i l e r h a asked = under-settles kind.TsInstantiation i refl r h a
  child-settles kind.TsSatisfiesExpr i l e r h a asked = under-settles kind.TsSatisfiesExpr i refl r h a
  child-settles kind.IfStmt zero l e r h a asked = refl
  child-settles kind.IfStmt (suc zero) l e r h a asked = undeclared-settles m asked.0
  child-settles kind.IfStmt (suc (suc zero)) l e r h a asked = undeclared-settles m asked.0
  child-settles kind.IfStmt (suc (suc (suc i))) l e r h a asked = refl
  child-settles kind.LabeledStmt zero l e r h a asked = refl
  child-settles kind.LabeledStmt (suc zero) l e r h a asked = undeclared-settles m asked.0
  child-settles kind.LabeledStmt (suc (suc i)) l e r h a asked = refl
  child-settles kind.WhileStmt zero l e r h a asked = refl
  child-settles kind.WhileStmt (suc zero) l e r h a asked = undeclared-settles m asked.0
  child-settles kind.WhileStmt (suc (suc i)) l e r h a asked = refl
  child-settles kind.DoWhileStmt zero l e r h a asked = refl
  child-settles kind.DoWhileStmt (suc zero) l e r h a asked = undeclared-settles m asked.0
  child-settles kind.DoWhileStmt (suc (suc i)) l e r h a asked = refl
  child-settles kind.ForStmt zero l e r h a asked = refl
  child-settles kind.ForStmt (suc zero) l e r h a asked = refl
  child-settles kind.ForStmt (suc (suc zero)) l e r h a asked = refl
  child-settles kind.ForStmt (suc (suc (suc zero))) l e r h a asked = undeclared-settles m asked.0
  child-settles kind.ForStmt (suc (suc (suc (suc i)))) l e r h a asked = refl
  child-settles kind.ForInStmt zero l e r h a asked = refl
  child-settles kind.ForInStmt (suc zero) l e r h a asked = refl
  child-settles kind.ForInStmt (suc (suc zero)) l e r h a asked = undeclared-settles m asked.0
  child-settles kind.ForInStmt (suc (suc (suc i))) l e r h a asked = refl
  child-settles (kind.ForOfStmt is_await) zero l e r h a asked = refl
  child-settles (kind.ForOfStmt is_await) (suc zero) l e r h a asked = refl
  child-settles (kind.ForOfStmt is_await) (suc (suc zero)) l e r h a asked = undeclared-settles m asked.0
  child-settles (kind.ForOfStmt is_await) (suc (suc (suc i))) l e r h a asked = refl
  child-settles k i l e r h a asked = fields-settle p (field_shapes k) i m refl

-- ---- where enums, their members and exports stand

abbrev is_outer_sort : Sort → Bool
is_outer_sort sort.ModuleItem = true
is_outer_sort sort.ModuleDecl = true
is_outer_sort sort.Decl = true
is_outer_sort sort.Stmt = true
is_outer_sort _ = false

abbrev is_body : Place → Bool
is_body place.Body = true
is_body _ = false

-- a declaration stands among items, or is the body of a statement
outer-place : (p : Place) (σ : Sort) (c : Count) → is_outer_sort σ ≡ true → suits p (record { count = c; sort = σ }) ≡ true → strict p (record { count = c; sort = σ }) ≡ true → (is_item p || is_body p) ≡ true
outer-place (place.Item at_top exported) σ c o s h = refl
outer-place place.Body σ c o s h = refl
outer-place place.Block sort.ModuleItem c o s h = no h
outer-place place.Block sort.ModuleDecl c o s h = no h
outer-place place.Block sort.Decl c o s h = no h
outer-place place.Block sort.Stmt c o s h = no h
outer-place place.Block _ c o s h = no o
outer-place place.Other sort.ModuleItem c o s h = no h
outer-place place.Other sort.ModuleDecl c o s h = no h
outer-place place.Other sort.Decl c o s h = no h
outer-place place.Other sort.Stmt c o s h = no h
outer-place place.Other _ c o s h = no o
outer-place place.Raw sort.ModuleItem c o s h = no h
outer-place place.Raw sort.ModuleDecl c o s h = no h
outer-place place.Raw sort.Decl c o s h = no h
outer-place place.Raw sort.Stmt c o s h = no h
outer-place place.Raw _ c o s h = no o
outer-place place.Read sort.ModuleItem c o s h = no s
outer-place place.Read sort.ModuleDecl c o s h = no s
outer-place place.Read sort.Decl c o s h = no s
outer-place place.Read sort.Stmt c o s h = no s
outer-place place.Read _ c o s h = no o
outer-place place.Property sort.ModuleItem c o s h = no s
outer-place place.Property sort.ModuleDecl c o s h = no s
outer-place place.Property sort.Decl c o s h = no s
outer-place place.Property sort.Stmt c o s h = no s
outer-place place.Property _ c o s h = no o
outer-place place.Target sort.ModuleItem c o s h = no s
outer-place place.Target sort.ModuleDecl c o s h = no s
outer-place place.Target sort.Decl c o s h = no s
outer-place place.Target sort.Stmt c o s h = no s
outer-place place.Target _ c o s h = no o
outer-place (place.Member skips) sort.ModuleItem c o s h = no s
outer-place (place.Member skips) sort.ModuleDecl c o s h = no s
outer-place (place.Member skips) sort.Decl c o s h = no s
outer-place (place.Member skips) sort.Stmt c o s h = no s
outer-place (place.Member skips) _ c o s h = no o

export-sort : (σ : Sort) → belongs σ kind.ExportDecl ≡ true → (is_outer_sort σ ≡ true) × (is_stmt_sort σ ≡ false)
export-sort sort.ModuleItem h = (refl, refl)
export-sort sort.ModuleDecl h = (refl, refl)
export-sort _ h = no h

enum-sort : (σ : Sort) (declare is_const : Bool) → belongs σ (kind.TsEnumDecl declare is_const) ≡ true → is_outer_sort σ ≡ true
enum-sort sort.ModuleItem declare is_const h = refl
enum-sort sort.Decl declare is_const h = refl
enum-sort sort.Stmt declare is_const h = refl
enum-sort _ declare is_const h = no h

-- one that is exported is no body
pub export-item : (p : Place) (t : Shape) → suits p t ≡ true → strict p t ≡ true → allows t kind.ExportDecl ≡ true → is_item p ≡ true
export-item p t s h a =
    let b = belongs-by t kind.ExportDecl refl refl a in
    by p (export-sort t.sort b).1 h (outer-place p t.sort t.count (export-sort t.sort b).0 s h)
  where
    by : (q : Place) → is_stmt_sort t.sort ≡ false → strict q t ≡ true → (is_item q || is_body q) ≡ true → is_item q ≡ true
    by (place.Item at_top exported) o h e = refl
    by place.Body o h e = no (sym (ap (λ b. b && is_lone t.count) o) ∙ h)
    by _ o h e = e

enum-left : (k : Kind) → is_enum_kind k ≡ true → settles place.Body k ≡ true → false ≡ true
enum-left (kind.TsEnumDecl declare is_const) e h = h
enum-left _ e h = e

-- an enum is an item
pub enum-item : (p : Place) (t : Shape) (k : Kind) → is_enum_kind k ≡ true → suits p t ≡ true → strict p t ≡ true → settles p k ≡ true → allows t k ≡ true → is_item p ≡ true
enum-item p t k e s h f a = by p f (outer-place p t.sort t.count (outer k e a) s h)
  where
    outer : (j : Kind) → is_enum_kind j ≡ true → allows t j ≡ true → is_outer_sort t.sort ≡ true
    outer (kind.TsEnumDecl declare is_const) e a = enum-sort t.sort declare is_const (belongs-by t (kind.TsEnumDecl declare is_const) refl refl a)
    outer _ e a = no e

    by : (q : Place) → settles q k ≡ true → (is_item q || is_body q) ≡ true → is_item q ≡ true
    by (place.Item at_top exported) f h = refl
    by place.Body f h = no (enum-left k e f)
    by _ f h = h

member-sort : (σ : Sort) → belongs σ kind.TsEnumMember ≡ true → σ ≡ sort.TsEnumMember
member-sort sort.TsEnumMember h = refl
member-sort _ h = no h

-- a member stands in an enum
pub member-place : (p : Place) (t : Shape) → suits p t ≡ true → strict p t ≡ true → allows t kind.TsEnumMember ≡ true → (skips : Bool) × (p ≡ place.Member skips)
member-place p t s h a = by p t.count (member-sort t.sort (belongs-by t kind.TsEnumMember refl refl a)) s h
  where
    by : (q : Place) (c : Count) → t.sort ≡ sort.TsEnumMember → suits q t ≡ true → strict q t ≡ true → (skips : Bool) × (q ≡ place.Member skips)
    by (place.Member skips) c e s h = (skips, refl)
    by (place.Item at_top true) c e s h = no (sym (ap (λ σ. suits (place.Item at_top true) (record { count = t.count; sort = σ })) e) ∙ s)
    by (place.Item at_top false) c e s h = no (sym (ap (λ σ. suits (place.Item at_top false) (record { count = t.count; sort = σ })) e) ∙ s)
    by place.Read c e s h = no (sym (ap (λ σ. suits place.Read (record { count = t.count; sort = σ })) e) ∙ s)
    by place.Property c e s h = no (sym (ap (λ σ. suits place.Property (record { count = t.count; sort = σ })) e) ∙ s)
    by place.Target c e s h = no (sym (ap (λ σ. suits place.Target (record { count = t.count; sort = σ })) e) ∙ s)
    by place.Body c e s h = no (sym (ap (λ σ. is_stmt_sort σ && is_lone t.count) e) ∙ h)
    by place.Block c e s h = no (sym (ap is_quiet_sort e) ∙ h)
    by place.Other c e s h = no (sym (ap is_quiet_sort e) ∙ h)
    by place.Raw c e s h = no (sym (ap is_quiet_sort e) ∙ h)
