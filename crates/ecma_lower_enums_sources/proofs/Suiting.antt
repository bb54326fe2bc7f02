-- Which shapes suit the places of children, and which children become one node each.
use Rattle.std.proofs.Common.{◌≡◌, ◌∙◌, ℕ, zero, suc, Bool, true, false, cond, ◌&&◌, ◌||◌, ◌==◌, List, [], ◌∷◌, map, length, Option, Some, None, refl, sym, ap, subst, slice_get, arith}
use Rattle.std.specs.Option.{option_map_or}
use Rattle.ecma_kind.specs.Shapes.{field_shapes}
use Rattle.ecma_kind.specs.Sorts.{belongs, is_decl, is_type_wrapper}
use Rattle.ecma_kind.specs.declared.kind.Kind.{Kind}
use Rattle.ecma_kind.specs.declared.kind.Kind.TheVariants as kind
use Rattle.ecma_kind.specs.declared.operators.UnaryOp.{UnaryOp}
use Rattle.ecma_kind.specs.declared.operators.UnaryOp.TheVariants as unary
use Rattle.ecma_kind.specs.declared.shapes.Count.{Count}
use Rattle.ecma_kind.specs.declared.shapes.Count.TheVariants.{One, Maybe, Many, MaybeMany, Holes}
use Rattle.ecma_kind.specs.declared.shapes.FieldShape.{FieldShape}
use Rattle.ecma_kind.specs.declared.shapes.Shape.{Shape}
use Rattle.ecma_kind.specs.declared.shapes.Sort.{Sort}
use Rattle.ecma_kind.specs.declared.shapes.Sort.TheVariants as sort
use Rattle.ecma_tree.specs.Laws.{HaveShapes}
use Rattle.ecma_tree.specs.Sorted.{HasShape, allows, allows_by, child_shapes, is_absent, is_list, item_count, item_shape, many, maybe, one}
use Rattle.ecma_tree.specs.declared.node.Node.{Node}
use Rattle.ecma_rules.specs.Children.{kind_of}
use Rattle.ecma_strip_fits.proofs.Lists.{have_at}
use Rattle.ecma_strip_fits.proofs.Walk.{shape_parts}
use Rattle.ecma_lower_enums.specs.declared.form.Form.TheVariants as form
use Rattle.ecma_lower_enums.specs.declared.place.Place.{Place}
use Rattle.ecma_lower_enums.specs.declared.place.Place.TheVariants as place
use Rattle.ecma_lower_enums.specs.Places.{at_child, exported_place, inside_place, is_several, operand_place, pattern_place, place_in, place_of, statements}
use Rattle.ecma_lower_enums.specs.Writing.{form_of, is_enum_first, is_enum_kind}
use Rattle.ecma_lower_enums.proofs.ByForm.{is_single, single}
use Rattle.ecma_lower_enums_sources.proofs.Relation.{children_of, is_members, suits, suits_sort}

pub no : {X : Type 0} → false ≡ true → X
no h = cc

pub some-same : {X : Type 0} {x y : X} → Some x ≡ Some y → x ≡ y
some-same e = cc

none-some : {X Y : Type 0} (x : X) → None ≡ Some x → Y
none-some x e = absurd (by e)
  where
    by : None ≡ Some x → ⊥
    by e = cc

and-no : (a : Bool) → (a && false) ≡ false
and-no true = refl
and-no false = refl

-- ---- what a shape allows

-- a type round an expression is an expression
wrapper-sorts : (σ : Sort) (k : Kind) → is_type_wrapper k ≡ true → belongs σ k ≡ true → (p : Place) → suits_sort p σ ≡ true → suits_sort p sort.Expr ≡ true
wrapper-sorts σ k wr b (place.Item at_top false) s = no (sym (by σ k wr s) ∙ b)
  where
    by : (σ : Sort) (k : Kind) → is_type_wrapper k ≡ true → suits_sort (place.Item at_top false) σ ≡ true → belongs σ k ≡ false
    by sort.ModuleItem kind.TsTypeAssertion wr s = refl
    by sort.ModuleItem kind.TsConstAssertion wr s = refl
    by sort.ModuleItem kind.TsNonNullExpr wr s = refl
    by sort.ModuleItem kind.TsAsExpr wr s = refl
    by sort.ModuleItem kind.TsInstantiation wr s = refl
    by sort.ModuleItem kind.TsSatisfiesExpr wr s = refl
    by sort.ModuleItem _ wr s = no wr
    by sort.Stmt kind.TsTypeAssertion wr s = refl
    by sort.Stmt kind.TsConstAssertion wr s = refl
    by sort.Stmt kind.TsNonNullExpr wr s = refl
    by sort.Stmt kind.TsAsExpr wr s = refl
    by sort.Stmt kind.TsInstantiation wr s = refl
    by sort.Stmt kind.TsSatisfiesExpr wr s = refl
    by sort.Stmt _ wr s = no wr
    by _ k wr s = no s
wrapper-sorts σ k wr b (place.Item at_top true) s = no (sym (by σ k wr s) ∙ b)
  where
    by : (σ : Sort) (k : Kind) → is_type_wrapper k ≡ true → suits_sort (place.Item at_top true) σ ≡ true → belongs σ k ≡ false
    by sort.Decl kind.TsTypeAssertion wr s = refl
    by sort.Decl kind.TsConstAssertion wr s = refl
    by sort.Decl kind.TsNonNullExpr wr s = refl
    by sort.Decl kind.TsAsExpr wr s = refl
    by sort.Decl kind.TsInstantiation wr s = refl
    by sort.Decl kind.TsSatisfiesExpr wr s = refl
    by sort.Decl _ wr s = no wr
    by _ k wr s = no s
wrapper-sorts σ k wr b (place.Member skips) s = no (sym (by σ k wr s) ∙ b)
  where
    by : (σ : Sort) (k : Kind) → is_type_wrapper k ≡ true → suits_sort (place.Member skips) σ ≡ true → belongs σ k ≡ false
    by sort.TsEnumMember kind.TsEnumMember wr s = no wr
    by sort.TsEnumMember _ wr s = refl
    by _ k wr s = no s
wrapper-sorts σ k wr b place.Property s = no (sym (by σ k wr s) ∙ b)
  where
    by : (σ : Sort) (k : Kind) → is_type_wrapper k ≡ true → suits_sort place.Property σ ≡ true → belongs σ k ≡ false
    by sort.PropOrSpread kind.TsTypeAssertion wr s = refl
    by sort.PropOrSpread kind.TsConstAssertion wr s = refl
    by sort.PropOrSpread kind.TsNonNullExpr wr s = refl
    by sort.PropOrSpread kind.TsAsExpr wr s = refl
    by sort.PropOrSpread kind.TsInstantiation wr s = refl
    by sort.PropOrSpread kind.TsSatisfiesExpr wr s = refl
    by sort.PropOrSpread _ wr s = no wr
    by _ k wr s = no s
wrapper-sorts σ k wr b place.Read s = refl
wrapper-sorts σ k wr b place.Target s = refl
wrapper-sorts σ k wr b place.Block s = refl
wrapper-sorts σ k wr b place.Body s = refl
wrapper-sorts σ k wr b place.Other s = refl
wrapper-sorts σ k wr b place.Raw s = refl

-- what is neither a list nor missing is of the sort
pub belongs-by : (t : Shape) (k : Kind) → is_list k ≡ false → is_absent k ≡ false → allows t k ≡ true → belongs t.sort k ≡ true
belongs-by t k l a h = by t.count h
  where
    neither : (is_absent k || is_list k) ≡ false
    neither = rw (a, l) refl

    by : (c : Count) → allows_by c t.sort k ≡ true → belongs t.sort k ≡ true
    by One h = h
    by Maybe h = sym (ap (λ b. b || belongs t.sort k) a) ∙ h
    by Many h = no (sym l ∙ h)
    by MaybeMany h = no (sym neither ∙ h)
    by Holes h = no (sym l ∙ h)

wrapper-there : (k : Kind) → is_type_wrapper k ≡ true → (is_list k ≡ false) × (is_absent k ≡ false)
wrapper-there kind.List h = no h
wrapper-there kind.Absent h = no h
wrapper-there _ h = (refl, refl)

left-true : (a b : Bool) → (a && b) ≡ true → a ≡ true
left-true true b h = refl
left-true false b h = no h

pub sort-suits : (p : Place) (t : Shape) → suits p t ≡ true → suits_sort p t.sort ≡ true
sort-suits (place.Member skips) t s = left-true (suits_sort (place.Member skips) t.sort) _ s
sort-suits (place.Item at_top true) t s = left-true (suits_sort (place.Item at_top true) t.sort) _ s
sort-suits (place.Item at_top false) t s = s
sort-suits _ t s = s

expression-suits : (p : Place) → suits_sort p sort.Expr ≡ true → suits p (one sort.Expr) ≡ true
expression-suits (place.Member skips) s = no s
expression-suits (place.Item at_top true) s = no s
expression-suits (place.Item at_top false) s = s
expression-suits _ s = s

-- so do the items of a list
pub items-suit : (p : Place) (t : Shape) → suits p t ≡ true → suits p (item_shape t) ≡ true
items-suit (place.Member skips) t s = by t.count s
  where
    by : (c : Count) → suits (place.Member skips) (record { count = c; sort = t.sort }) ≡ true → suits (place.Member skips) (record { count = item_count c; sort = t.sort }) ≡ true
    by One s = s
    by Many s = s
    by Maybe s = no (sym (and-no (suits_sort (place.Member skips) t.sort)) ∙ s)
    by MaybeMany s = no (sym (and-no (suits_sort (place.Member skips) t.sort)) ∙ s)
    by Holes s = no (sym (and-no (suits_sort (place.Member skips) t.sort)) ∙ s)
items-suit (place.Item at_top true) t s = by t.count s
  where
    by : (c : Count) → suits (place.Item at_top true) (record { count = c; sort = t.sort }) ≡ true → suits (place.Item at_top true) (record { count = item_count c; sort = t.sort }) ≡ true
    by One s = s
    by Many s = no (sym (and-no (suits_sort (place.Item at_top true) t.sort)) ∙ s)
    by Maybe s = no (sym (and-no (suits_sort (place.Item at_top true) t.sort)) ∙ s)
    by MaybeMany s = no (sym (and-no (suits_sort (place.Item at_top true) t.sort)) ∙ s)
    by Holes s = no (sym (and-no (suits_sort (place.Item at_top true) t.sort)) ∙ s)
items-suit (place.Item at_top false) t s = s
items-suit _ t s = s

pub wrapper-suits : (p : Place) (t : Shape) (k : Kind) → is_type_wrapper k ≡ true → suits p t ≡ true → allows t k ≡ true → suits p (one sort.Expr) ≡ true
wrapper-suits p t k wr s a = let there = wrapper-there k wr in expression-suits p (wrapper-sorts t.sort k wr (belongs-by t k there.0 there.1 a) p (sort-suits p t s))

-- no place of several has an expression
pub expression-single : (p : Place) → suits p (one sort.Expr) ≡ true → is_several p ≡ false
expression-single (place.Item at_top false) s = no s
expression-single (place.Item at_top true) s = no s
expression-single (place.Member skips) s = no s
expression-single _ s = refl

-- ---- places of children

pattern-suits : (p : Place) (c : Count)
    → (suits (pattern_place p) (record { count = c; sort = sort.Pat }) ≡ true) × (suits (pattern_place p) (record { count = c; sort = sort.ObjectPatProp }) ≡ true) × (is_several (pattern_place p) ≡ false) × (is_members (pattern_place p) ≡ false)
pattern-suits place.Target c = (refl, refl, refl, refl)
pattern-suits _ c = (refl, refl, refl, refl)

of-suits : (p : Place) (c : Count) (σ : Sort) → suits (place_of p σ) (record { count = c; sort = σ }) ≡ true
of-suits p c sort.Pat = (pattern-suits p c).0
of-suits p c sort.ObjectPatProp = (pattern-suits p c).1
of-suits p c _ = refl

of-calm : (p : Place) (σ : Sort) → is_members (place_of p σ) ≡ false
of-calm p sort.Pat = (pattern-suits p One).3
of-calm p sort.ObjectPatProp = (pattern-suits p One).3
of-calm p _ = refl

fields-calm : (p : Place) (fields : List FieldShape) (i : ℕ) → is_members (option_map_or (λ (f : FieldShape). place_of p f.shape.sort) (slice_get fields i) place.Other) ≡ false
fields-calm p [] i = refl
fields-calm p (f ∷ fs) zero = of-calm p f.shape.sort
fields-calm p (f ∷ fs) (suc i) = fields-calm p fs i

of-single : (p : Place) (σ : Sort) → is_several (place_of p σ) ≡ false
of-single p sort.Pat = (pattern-suits p One).2
of-single p sort.ObjectPatProp = (pattern-suits p One).2
of-single p _ = refl

fields-suit : (p : Place) (fields : List FieldShape) (i : ℕ) (u : Shape) → slice_get (map (λ child. child.shape) fields) i ≡ Some u
    → suits (option_map_or (λ (f : FieldShape). place_of p f.shape.sort) (slice_get fields i) place.Other) u ≡ true
fields-suit p [] i u at = none-some u at
fields-suit p (f ∷ fs) zero u at = subst (λ (z : Shape). suits (place_of p f.shape.sort) z ≡ true) (some-same at) (of-suits p f.shape.count f.shape.sort)
fields-suit p (f ∷ fs) (suc i) u at = fields-suit p fs i u at

fields-single : (p : Place) (fields : List FieldShape) (i : ℕ) → is_several (option_map_or (λ (f : FieldShape). place_of p f.shape.sort) (slice_get fields i) place.Other) ≡ false
fields-single p [] i = refl
fields-single p (f ∷ fs) zero = of-single p f.shape.sort
fields-single p (f ∷ fs) (suc i) = fields-single p fs i

-- a place for the child that is meant, and one for the others
at-suits : (b : Bool) (p q : Place) (u : Shape) → (b ≡ true → suits p u ≡ true) → suits q u ≡ true → suits (cond b p q) u ≡ true
at-suits true p q u h g = h refl
at-suits false p q u h g = g

at-single : (b : Bool) (p q : Place) → is_several p ≡ false → is_several q ≡ false → is_several (cond b p q) ≡ false
at-single true p q h g = h
at-single false p q h g = g

is-index : (i j : ℕ) → (i == j) ≡ true → i ≡ j
is-index i j h = grind (arith, h)

first-shape : (t : Shape) (ts : List Shape) (i : ℕ) (u : Shape) → slice_get (t ∷ ts) i ≡ Some u → (i == 0) ≡ true → t ≡ u
first-shape t ts i u at h = some-same (ap (λ j. slice_get (t ∷ ts) j) (sym (is-index i 0 h)) ∙ at)

second-shape : (t v : Shape) (ts : List Shape) (i : ℕ) (u : Shape) → slice_get (t ∷ v ∷ ts) i ≡ Some u → (i == 1) ≡ true → v ≡ u
second-shape t v ts i u at h = some-same (ap (λ j. slice_get (t ∷ v ∷ ts) j) (sym (is-index i 1 h)) ∙ at)

statements-suit : (writes at_top : Bool) (u : Shape) → suits (place.Item at_top false) u ≡ true → suits (statements writes at_top) u ≡ true
statements-suit true at_top u h = h
statements-suit false at_top u h = refl

-- a list of statements
list-suits : (writes at_top : Bool) (t : Shape) (i : ℕ) (u : Shape) → suits (place.Item at_top false) t ≡ true → slice_get (t ∷ []) i ≡ Some u → suits (statements writes at_top) u ≡ true
list-suits writes at_top t zero u h at = statements-suit writes at_top u (ap (suits (place.Item at_top false)) (sym (some-same at)) ∙ h)
list-suits writes at_top t (suc i) u h at = none-some u at

inside-suits : (p : Place) → (suits (inside_place p) (one sort.Expr) ≡ true) × (is_several (inside_place p) ≡ false)
inside-suits place.Target = (refl, refl)
inside-suits _ = (refl, refl)

operand-suits : (op : UnaryOp) → (suits (operand_place op) (one sort.Expr) ≡ true) × (is_several (operand_place op) ≡ false)
operand-suits unary.Delete = (refl, refl)
operand-suits _ = (refl, refl)

exported-suits : (p : Place) → suits (exported_place p) (one sort.Decl) ≡ true
exported-suits (place.Item at_top exported) = refl
exported-suits _ = refl

only-first : (t : Shape) (i : ℕ) (u : Shape) → slice_get (t ∷ []) i ≡ Some u → t ≡ u
only-first t zero u at = some-same at
only-first t (suc i) u at = none-some u at

all-expressions : (n i : ℕ) (t u : Shape) → slice_get (child_shapes kind.SeqExpr t n) i ≡ Some u → one sort.Expr ≡ u
all-expressions zero zero t u at = some-same at
all-expressions zero (suc i) t u at = none-some u at
all-expressions (suc n) zero t u at = some-same at
all-expressions (suc zero) (suc i) t u at = none-some u at
all-expressions (suc (suc n)) (suc i) t u at = all-expressions (suc n) i t u at

module _ (writes : Bool) (p : Place) (t : Shape) where
  under : (k : Kind) (i : ℕ) (u : Shape) (ts : List Shape) → is_type_wrapper k ≡ true → suits p t ≡ true → allows t k ≡ true → slice_get (one sort.Expr ∷ ts) i ≡ Some u
      → suits (at_child 0 i p place.Other) u ≡ true
  under k i u ts wr s a at =
      at-suits (i == 0) p place.Other u (λ h. ap (suits p) (sym (first-shape (one sort.Expr) ts i u at h)) ∙ wrapper-suits p t k wr s a) refl

  -- the shapes of children suit their places
  pub child-suits : (k : Kind) (n i : ℕ) (u : Shape) → is_list k ≡ false → suits p t ≡ true → allows t k ≡ true → slice_get (child_shapes k t n) i ≡ Some u → suits (place_in writes p k i) u ≡ true
  unfolding place_in
  child-suits kind.List n i u l s a at = no (sym l)
  child-suits kind.SeqExpr n i u l s a at = subst (λ (z : Shape). suits place.Read z ≡ true) (all-expressions n i t u at) refl
  child-suits (kind.Module shebang) n i u l s a at = list-suits writes true (many sort.ModuleItem) i u refl at
  child-suits (kind.Script shebang) n i u l s a at = list-suits writes true (many sort.Stmt) i u refl at
  child-suits kind.BlockStmt n i u l s a at = list-suits writes false (many sort.Stmt) i u refl at
  child-suits kind.TsModuleBlock n i u l s a at = list-suits writes false (many sort.ModuleItem) i u refl at
  child-suits kind.SwitchCase n zero u l s a at = subst (λ (z : Shape). suits place.Read z ≡ true) (some-same at) refl
  child-suits kind.SwitchCase n (suc zero) u l s a at = statements-suit writes false u (subst (λ (z : Shape). suits (place.Item false false) z ≡ true) (some-same at) refl)
  child-suits kind.SwitchCase n (suc (suc i)) u l s a at = none-some u at
  child-suits kind.ExportDecl n i u l s a at = at-suits (i == 0) (exported_place p) place.Other u (λ h. subst (λ (z : Shape). suits (exported_place p) z ≡ true) (first-shape (one sort.Decl) [] i u at h) (exported-suits p)) refl
  child-suits (kind.TsModuleDecl declare global) n i u l s a at = at-suits (i == 1) place.Block place.Other u (λ h. refl) refl
  child-suits (kind.TsNamespaceDecl declare global) n i u l s a at = at-suits (i == 1) place.Block place.Other u (λ h. refl) refl
  child-suits kind.ParenExpr n i u l s a at = subst (λ (z : Shape). suits (inside_place p) z ≡ true) (only-first (one sort.Expr) i u at) (inside-suits p).0
  child-suits (kind.UpdateExpr op prefix) n i u l s a at = subst (λ (z : Shape). suits place.Target z ≡ true) (only-first (one sort.Expr) i u at) refl
  child-suits (kind.UnaryExpr op) n i u l s a at = subst (λ (z : Shape). suits (operand_place op) z ≡ true) (only-first (one sort.Expr) i u at) (operand-suits op).0
  child-suits (kind.ArrowExpr is_async is_generator) n zero u l s a at = refl
  child-suits (kind.ArrowExpr is_async is_generator) n (suc i) u l s a at =
      at-suits (suc i == 1) place.Read place.Other u (λ h. subst (λ (z : Shape). suits place.Read z ≡ true)
      (second-shape (many sort.Pat) (one sort.BlockStmtOrExpr) (maybe sort.TsTypeParamDecl ∷ maybe sort.TsTypeAnn ∷ []) (suc i) u at h) refl) refl
  child-suits kind.SetterProp n i u l s a at = at-suits (i == 1) place.Raw place.Other u (λ h. refl) refl
  child-suits kind.TsTypeAssertion n i u l s a at = under kind.TsTypeAssertion i u (one sort.TsType ∷ []) refl s a at
  child-suits kind.TsConstAssertion n i u l s a at = under kind.TsConstAssertion i u [] refl s a at
  child-suits kind.TsNonNullExpr n i u l s a at = under kind.TsNonNullExpr i u [] refl s a at
  child-suits kind.TsAsExpr n i u l s a at = under kind.TsAsExpr i u (one sort.TsType ∷ []) refl s a at
  child-suits kind.TsInstantiation n i u l s a at = under kind.TsInstantiation i u (one sort.TsTypeParamInstantiation ∷ []) refl s a at
  child-suits kind.TsSatisfiesExpr n i u l s a at = under kind.TsSatisfiesExpr i u (one sort.TsType ∷ []) refl s a at
  child-suits k n i u l s a at = fields-suit p (field_shapes k) i u at

  -- none is a member of an enum
  statements-calm : (b at_top : Bool) → is_members (statements b at_top) ≡ false
  statements-calm true at_top = refl
  statements-calm false at_top = refl

  at-calm : (b : Bool) (x y : Place) → is_members x ≡ false → is_members y ≡ false → is_members (cond b x y) ≡ false
  at-calm true x y h g = h
  at-calm false x y h g = g

  exported-calm : (q : Place) → is_members (exported_place q) ≡ false
  exported-calm (place.Item at_top exported) = refl
  exported-calm _ = refl

  inside-calm : (q : Place) → is_members (inside_place q) ≡ false
  inside-calm place.Target = refl
  inside-calm _ = refl

  operand-calm : (op : UnaryOp) → is_members (operand_place op) ≡ false
  operand-calm unary.Delete = refl
  operand-calm _ = refl

  pub child-calm : (k : Kind) (i : ℕ) → is_members p ≡ false → is_members (place_in writes p k i) ≡ false
  unfolding place_in
  child-calm (kind.Module shebang) i c = statements-calm writes true
  child-calm (kind.Script shebang) i c = statements-calm writes true
  child-calm kind.BlockStmt i c = statements-calm writes false
  child-calm kind.TsModuleBlock i c = statements-calm writes false
  child-calm kind.SwitchCase i c = at-calm (i == 1) (statements writes false) place.Read (statements-calm writes false) refl
  child-calm kind.ExportDecl i c = at-calm (i == 0) (exported_place p) place.Other (exported-calm p) refl
  child-calm (kind.TsModuleDecl declare global) i c = at-calm (i == 1) place.Block place.Other refl refl
  child-calm (kind.TsNamespaceDecl declare global) i c = at-calm (i == 1) place.Block place.Other refl refl
  child-calm kind.ParenExpr i c = inside-calm p
  child-calm (kind.UpdateExpr op prefix) i c = refl
  child-calm (kind.UnaryExpr op) i c = operand-calm op
  child-calm kind.SeqExpr i c = refl
  child-calm (kind.ArrowExpr is_async is_generator) i c = at-calm (i == 1) place.Read place.Other refl refl
  child-calm kind.SetterProp i c = at-calm (i == 1) place.Raw place.Other refl refl
  child-calm kind.TsTypeAssertion i c = at-calm (i == 0) p place.Other c refl
  child-calm kind.TsConstAssertion i c = at-calm (i == 0) p place.Other c refl
  child-calm kind.TsNonNullExpr i c = at-calm (i == 0) p place.Other c refl
  child-calm kind.TsAsExpr i c = at-calm (i == 0) p place.Other c refl
  child-calm kind.TsInstantiation i c = at-calm (i == 0) p place.Other c refl
  child-calm kind.TsSatisfiesExpr i c = at-calm (i == 0) p place.Other c refl
  child-calm k i c = fields-calm p (field_shapes k) i

  -- ---- one for one

  abbrev is_block : Kind → Bool
  is_block (kind.Module shebang) = true
  is_block (kind.Script shebang) = true
  is_block kind.BlockStmt = true
  is_block kind.TsModuleBlock = true
  is_block kind.SwitchCase = true
  is_block kind.ExportDecl = true
  is_block _ = false

  -- no child of other nodes may become several
  usual-single : (k : Kind) (i : ℕ) → is_block k ≡ false → (is_type_wrapper k ≡ true → is_several p ≡ false) → is_several (place_in writes p k i) ≡ false
  unfolding place_in
  usual-single (kind.Module shebang) i b wr = no (sym b)
  usual-single (kind.Script shebang) i b wr = no (sym b)
  usual-single kind.BlockStmt i b wr = no (sym b)
  usual-single kind.TsModuleBlock i b wr = no (sym b)
  usual-single kind.SwitchCase i b wr = no (sym b)
  usual-single kind.ExportDecl i b wr = no (sym b)
  usual-single (kind.TsModuleDecl declare global) i b wr = at-single (i == 1) place.Block place.Other refl refl
  usual-single (kind.TsNamespaceDecl declare global) i b wr = at-single (i == 1) place.Block place.Other refl refl
  usual-single kind.ParenExpr i b wr = (inside-suits p).1
  usual-single (kind.UpdateExpr op prefix) i b wr = refl
  usual-single (kind.UnaryExpr op) i b wr = (operand-suits op).1
  usual-single kind.SeqExpr i b wr = refl
  usual-single (kind.ArrowExpr is_async is_generator) i b wr = at-single (i == 1) place.Read place.Other refl refl
  usual-single kind.SetterProp i b wr = at-single (i == 1) place.Raw place.Other refl refl
  usual-single kind.TsTypeAssertion i b wr = at-single (i == 0) p place.Other (wr refl) refl
  usual-single kind.TsConstAssertion i b wr = at-single (i == 0) p place.Other (wr refl) refl
  usual-single kind.TsNonNullExpr i b wr = at-single (i == 0) p place.Other (wr refl) refl
  usual-single kind.TsAsExpr i b wr = at-single (i == 0) p place.Other (wr refl) refl
  usual-single kind.TsInstantiation i b wr = at-single (i == 0) p place.Other (wr refl) refl
  usual-single kind.TsSatisfiesExpr i b wr = at-single (i == 0) p place.Other (wr refl) refl
  usual-single k i b wr = fields-single p (field_shapes k) i

  pub list-single : (q : Place) (k : Kind) (cs : List Node) → is_list k ≡ true → is_single (form_of q k cs) ≡ true
  unfolding form_of
  list-single q kind.List cs h = refl
  list-single q _ cs h = no h

  decl-single : (q : Place) (k : Kind) (cs : List Node) → is_decl k ≡ true → is_enum_kind k ≡ false → is_single (form_of q k cs) ≡ true
  unfolding form_of
  decl-single q (kind.TsEnumDecl declare is_const) cs d e = no (sym e)
  decl-single q kind.ExportDecl cs d e = no d
  decl-single q kind.TsEnumMember cs d e = no d
  decl-single q _ cs d e = refl

  abbrev Single : Place → Node → Type 0
  Single q c = is_single (form_of q (kind_of c) (children_of c)) ≡ true

  of-shape : (u : Shape) (c : Node) → HasShape u c → allows u (kind_of c) ≡ true
  of-shape u c h = (shape_parts c u h).0

  -- a child that is a list
  listed-single : (q : Place) (σ : Sort) (u : Shape) (c : Node) → many σ ≡ u → HasShape u c → Single q c
  listed-single q σ u c is h = list-single q (kind_of c) (children_of c) (ap (λ (z : Shape). allows z (kind_of c)) is ∙ of-shape u c h)

  statement-list : (q : Place) (σ : Sort) (i : ℕ) (u : Shape) (c : Node) → slice_get (many σ ∷ []) i ≡ Some u → HasShape u c → Single q c
  statement-list q σ i u c at h = listed-single q σ u c (only-first (many σ) i u at) h

  first-enum : (cs : List Node) (c : Node) → slice_get cs 0 ≡ Some c → is_enum_first cs ≡ false → is_enum_kind (kind_of c) ≡ false
  first-enum cs c at h = sym (ap (λ (o : Option Node). option_map_or (λ n. is_enum_kind (kind_of n)) o false) at) ∙ h

  exported-single : (q : Place) (cs : List Node) (c : Node) → is_single (form_of q kind.ExportDecl cs) ≡ true → slice_get cs 0 ≡ Some c → is_decl (kind_of c) ≡ true → Single (exported_place q) c
  unfolding form_of
  exported-single (place.Item at_top exported) cs c f at d = decl-single (place.Item at_top true) (kind_of c) (children_of c) d (first-enum cs c at (by (is_enum_first cs) f))
    where
      by : (b : Bool) → is_single (cond b form.Export form.One) ≡ true → b ≡ false
      by true h = no h
      by false h = refl
  exported-single _ cs c f at d = single place.Other (kind_of c) (children_of c) refl

  pub child-single : (k : Kind) (cs : List Node) → is_list k ≡ false → suits p t ≡ true → allows t k ≡ true → HaveShapes (child_shapes k t (length cs)) cs → is_single (form_of p k cs) ≡ true
      → (i : ℕ) (c : Node) → slice_get cs i ≡ Some c → Single (place_in writes p k i) c
  unfolding place_in
  child-single (kind.Module shebang) cs l s a have f i c at =
      let h = have_at (child_shapes (kind.Module shebang) t (length cs)) cs have i c at in statement-list (place_in writes p (kind.Module shebang) i) sort.ModuleItem i h.0 c h.1 h.2
  child-single (kind.Script shebang) cs l s a have f i c at =
      let h = have_at (child_shapes (kind.Script shebang) t (length cs)) cs have i c at in statement-list (place_in writes p (kind.Script shebang) i) sort.Stmt i h.0 c h.1 h.2
  child-single kind.BlockStmt cs l s a have f i c at =
      let h = have_at (child_shapes kind.BlockStmt t (length cs)) cs have i c at in statement-list (place_in writes p kind.BlockStmt i) sort.Stmt i h.0 c h.1 h.2
  child-single kind.TsModuleBlock cs l s a have f i c at =
      let h = have_at (child_shapes kind.TsModuleBlock t (length cs)) cs have i c at in statement-list (place_in writes p kind.TsModuleBlock i) sort.ModuleItem i h.0 c h.1 h.2
  child-single kind.SwitchCase cs l s a have f zero c at = single place.Read (kind_of c) (children_of c) refl
  child-single kind.SwitchCase cs l s a have f (suc zero) c at =
      let h = have_at (child_shapes kind.SwitchCase t (length cs)) cs have 1 c at in listed-single (place_in writes p kind.SwitchCase 1) sort.Stmt h.0 c (some-same h.1) h.2
  child-single kind.SwitchCase cs l s a have f (suc (suc i)) c at = let h = have_at (child_shapes kind.SwitchCase t (length cs)) cs have (suc (suc i)) c at in none-some h.0 h.1
  child-single kind.ExportDecl cs l s a have f zero c at =
      let h = have_at (child_shapes kind.ExportDecl t (length cs)) cs have 0 c at in
      exported-single p cs c f at (ap (λ (z : Shape). allows z (kind_of c)) (some-same h.1) ∙ of-shape h.0 c h.2)
  child-single kind.ExportDecl cs l s a have f (suc i) c at = let h = have_at (child_shapes kind.ExportDecl t (length cs)) cs have (suc i) c at in none-some h.0 h.1
  child-single k cs l s a have f i c at =
      single (place_in writes p k i) (kind_of c) (children_of c) (usual-single k i refl (λ wr. expression-single p (wrapper-suits p t k wr s a)))
