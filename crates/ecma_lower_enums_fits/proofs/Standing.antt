-- How children stand in their places: a statement of a list stands plainly, and no expression that is read stands as a name that is exported.
use Rattle.std.proofs.Common.{◌≡◌, ℕ, zero, suc, Bool, true, false, not, cond, ◌&&◌, ◌==◌, List, [], ◌∷◌, Some, None, refl, sym, ap, slice_get}
use Rattle.std.specs.Option.{option_map_or}
use Rattle.ecma_kind.specs.Shapes.{field_shapes}
use Rattle.ecma_kind.specs.Sorts.{belongs}
use Rattle.ecma_kind.specs.declared.kind.Kind.{Kind}
use Rattle.ecma_kind.specs.declared.kind.Kind.TheVariants as kind
use Rattle.ecma_kind.specs.declared.shapes.FieldShape.{FieldShape}
use Rattle.ecma_kind.specs.declared.shapes.Shape.{Shape}
use Rattle.ecma_kind.specs.declared.shapes.Sort.{Sort}
use Rattle.ecma_kind.specs.declared.shapes.Sort.TheVariants as sort
use Rattle.ecma_tree.specs.Sorted.{allows, child_shapes, is_absent, is_list}
use Rattle.ecma_rules.specs.declared.standing.Standing.{Standing}
use Rattle.ecma_rules.specs.declared.standing.Standing.TheVariants as standing
use Rattle.ecma_rules.specs.declared.target.Target.{Target}
use Rattle.ecma_rules.specs.declared.target.Target.TheVariants as target
use Rattle.ecma_rules.specs.Statements.{is_exported}
use Rattle.ecma_rules.specs.Surroundings.{in_branch, standing_by}
use Rattle.ecma_rules.specs.Targets.{in_list, target_in}
use Rattle.ecma_lower_enums.specs.declared.place.Place.{Place}
use Rattle.ecma_lower_enums.specs.declared.place.Place.TheVariants as place
use Rattle.ecma_lower_enums.specs.Places.{exported_place, inside_place, is_several, operand_place, pattern_place, place_in, place_of, statements}
use Rattle.ecma_lower_enums_sources.proofs.Relation.{suits, suits_sort}
use Rattle.ecma_lower_enums_sources.proofs.Suiting.{belongs-by, no, sort-suits}

-- ---- statements

abbrev pub is_plain : Standing → Bool
is_plain standing.Plain = true
is_plain _ = false

abbrev pub is_free : Target → Bool
is_free target.Free = true
is_free _ = false

-- how nodes stand in a place
abbrev pub stands : Place → Standing → Target → Bool
stands place.Read s t = not (is_exported s)
stands (place.Item at_top exported) s t = is_plain s && is_free t
stands (place.Member skips) s t = is_plain s && is_free t
stands _ s t = true

abbrev pub is_read_place : Place → Bool
is_read_place place.Read = true
is_read_place _ = false

-- where none is of a list of statements, only a name that is exported matters
stands-unexported : (q : Place) (s : Standing) (t : Target) → is_several q ≡ false → is_exported s ≡ false → stands q s t ≡ true
stands-unexported place.Read s t q h = ap not h
stands-unexported (place.Item at_top exported) s t q h = no (sym q)
stands-unexported (place.Member skips) s t q h = no (sym q)
stands-unexported _ s t q h = refl

stands-unread : (q : Place) (s : Standing) (t : Target) → is_several q ≡ false → is_read_place q ≡ false → stands q s t ≡ true
stands-unread place.Read s t q h = no (sym h)
stands-unread (place.Item at_top exported) s t q h = no (sym q)
stands-unread (place.Member skips) s t q h = no (sym q)
stands-unread _ s t q h = refl

stands-plain : (q : Place) → stands q standing.Plain target.Free ≡ true
stands-plain place.Read = refl
stands-plain (place.Item at_top exported) = refl
stands-plain (place.Member skips) = refl
stands-plain _ = refl

-- ---- by sorts

pattern-single : (p : Place) → is_several (pattern_place p) ≡ false
pattern-single place.Target = refl
pattern-single _ = refl

of-single : (p : Place) (σ : Sort) → is_several (place_of p σ) ≡ false
of-single p sort.Pat = pattern-single p
of-single p sort.ObjectPatProp = pattern-single p
of-single p _ = refl

pub fields-single : (p : Place) (fields : List FieldShape) (i : ℕ) → is_several (option_map_or (λ (f : FieldShape). place_of p f.shape.sort) (slice_get fields i) place.Other) ≡ false
fields-single p [] i = refl
fields-single p (f ∷ fs) zero = of-single p f.shape.sort
fields-single p (f ∷ fs) (suc i) = fields-single p fs i

fields-stand : (p : Place) (k : Kind) (i : ℕ) (s : Standing) (t : Target) → is_exported s ≡ false
    → stands (option_map_or (λ (f : FieldShape). place_of p f.shape.sort) (slice_get (field_shapes k) i) place.Other) s t ≡ true
fields-stand p k i s t h = stands-unexported (option_map_or (λ (f : FieldShape). place_of p f.shape.sort) (slice_get (field_shapes k) i) place.Other) s t (fields-single p (field_shapes k) i) h

-- ---- by kinds

inside-single : (p : Place) → is_several (inside_place p) ≡ false
inside-single place.Target = refl
inside-single _ = refl

chosen : (b : Bool) (s : Standing) → is_exported s ≡ false → is_exported (cond b s standing.Plain) ≡ false
chosen true s h = h
chosen false s h = refl

branch : (i : ℕ) → is_exported (in_branch i) ≡ false
branch i = by (i == 0)
  where
    by : (b : Bool) → is_exported (cond b standing.Plain standing.Body) ≡ false
    by true = refl
    by false = refl

declaring : (b c : Bool) → is_exported (cond b (cond c standing.Declaring standing.Plain) standing.Plain) ≡ false
declaring true true = refl
declaring true false = refl
declaring false c = refl

none-some : {X Y : Type 0} (x : X) → None ≡ Some x → Y
none-some x e = absurd (by e)
  where
    by : None ≡ Some x → ⊥
    by e = cc

module _ (writes : Bool) (p : Place) (t : Shape) (s : Standing) (r : Target) where
  pub child-stands : (k : Kind) (first second : Bool) (n i : ℕ) (u : Shape) → is_list k ≡ false → slice_get (child_shapes k t n) i ≡ Some u
      → stands (place_in writes p k i) (standing_by s k first second i) (target_in r k i) ≡ true
  unfolding place_in standing_by target_in
  child-stands kind.List first second n i u l at = no (sym l)
  child-stands (kind.Module shebang) first second n i u l at = stands-plain (statements writes true)
  child-stands (kind.Script shebang) first second n i u l at = stands-plain (statements writes true)
  child-stands kind.BlockStmt first second n i u l at = stands-plain (statements writes false)
  child-stands kind.TsModuleBlock first second n i u l at = stands-plain (statements writes false)
  child-stands kind.SwitchCase first second n i u l at = stands-plain (cond (i == 1) (statements writes false) place.Read)
  child-stands kind.ExportDecl first second n i u l at = stands-plain (cond (i == 0) (exported_place p) place.Other)
  child-stands (kind.TsModuleDecl declare global) first second n i u l at = stands-plain (cond (i == 1) place.Block place.Other)
  child-stands (kind.TsNamespaceDecl declare global) first second n i u l at = stands-plain (cond (i == 1) place.Block place.Other)
  child-stands kind.ParenExpr first second n i u l at = stands-plain (inside_place p)
  child-stands (kind.UpdateExpr op prefix) first second n i u l at = refl
  child-stands (kind.UnaryExpr op) first second n i u l at = stands-plain (operand_place op)
  child-stands kind.SeqExpr first second n i u l at = refl
  child-stands (kind.ArrowExpr is_async is_generator) first second n i u l at = stands-plain (cond (i == 1) place.Read place.Other)
  child-stands kind.SetterProp first second n i u l at = stands-plain (cond (i == 1) place.Raw place.Other)
  child-stands kind.TsTypeAssertion first second n i u l at = stands-plain (cond (i == 0) p place.Other)
  child-stands kind.TsConstAssertion first second n i u l at = stands-plain (cond (i == 0) p place.Other)
  child-stands kind.TsNonNullExpr first second n i u l at = stands-plain (cond (i == 0) p place.Other)
  child-stands kind.TsAsExpr first second n i u l at = stands-plain (cond (i == 0) p place.Other)
  child-stands kind.TsInstantiation first second n i u l at = stands-plain (cond (i == 0) p place.Other)
  child-stands kind.TsSatisfiesExpr first second n i u l at = stands-plain (cond (i == 0) p place.Other)
  -- those that stand otherwise
  child-stands kind.SuperPropExpr first second n i u l at = fields-stand p kind.SuperPropExpr i _ _ (chosen (i == 0) standing.Linked refl)
  child-stands kind.CallExpr first second n i u l at = fields-stand p kind.CallExpr i _ _ (chosen (i == 0) standing.Linked refl)
  child-stands (kind.Constructor accessibility is_optional) first second n i u l at = fields-stand p (kind.Constructor accessibility is_optional) i _ _ (declaring (i == 1) second)
  child-stands (kind.NamedExport type_only) first second n zero u l at = refl
  child-stands (kind.NamedExport type_only) first second n (suc zero) u l at = refl
  child-stands (kind.NamedExport type_only) first second n (suc (suc zero)) u l at = refl
  child-stands (kind.NamedExport type_only) first second n (suc (suc (suc i))) u l at = none-some u at
  child-stands (kind.ExportNamedSpecifier is_type_only) first second n zero u l at = refl
  child-stands (kind.ExportNamedSpecifier is_type_only) first second n (suc zero) u l at = refl
  child-stands (kind.ExportNamedSpecifier is_type_only) first second n (suc (suc i)) u l at = none-some u at
  child-stands kind.IfStmt first second n i u l at = fields-stand p kind.IfStmt i _ _ (branch i)
  child-stands kind.LabeledStmt first second n i u l at = fields-stand p kind.LabeledStmt i _ _ (chosen (i == 1) standing.Body refl)
  child-stands kind.WhileStmt first second n i u l at = fields-stand p kind.WhileStmt i _ _ (chosen (i == 1) standing.Body refl)
  child-stands kind.DoWhileStmt first second n i u l at = fields-stand p kind.DoWhileStmt i _ _ (chosen (i == 1) standing.Body refl)
  child-stands kind.ForStmt first second n i u l at = fields-stand p kind.ForStmt i _ _ (chosen (i == 3) standing.Body refl)
  child-stands kind.ForInStmt first second n i u l at = fields-stand p kind.ForInStmt i _ _ (chosen (i == 2) standing.Body refl)
  child-stands (kind.ForOfStmt is_await) first second n i u l at = fields-stand p (kind.ForOfStmt is_await) i _ _ (chosen (i == 2) standing.Body refl)
  child-stands k first second n i u l at = fields-stand p k i standing.Plain (target_in r k i) refl

-- the items of a list
free-items : (t : Target) → is_free t ≡ true → is_free (in_list t) ≡ true
free-items target.Free h = refl
free-items _ h = no h

both-plain : (s : Standing) (t : Target) → (is_plain s && is_free t) ≡ true → (is_plain s && is_free (in_list t)) ≡ true
both-plain s t h = by (is_plain s) h
  where
    by : (b : Bool) → (b && is_free t) ≡ true → (b && is_free (in_list t)) ≡ true
    by true h = free-items t h
    by false h = no h

pub item-stands : (p : Place) (s : Standing) (t : Target) → stands p s t ≡ true → stands p s (in_list t) ≡ true
item-stands place.Read s t h = h
item-stands (place.Item at_top exported) s t h = both-plain s t h
item-stands (place.Member skips) s t h = both-plain s t h
item-stands _ s t h = refl

-- what holds of a statement in a list
pub plain-parts : (s : Standing) (t : Target) → (is_plain s && is_free t) ≡ true → (is_plain s ≡ true) × (is_free t ≡ true)
plain-parts s t h = by (is_plain s) h
  where
    by : (b : Bool) → (b && is_free t) ≡ true → (b ≡ true) × (is_free t ≡ true)
    by true h = (refl, h)
    by false h = no h

-- ---- what stands last in a list

-- what a place in a list is handed on to, or is asked of
abbrev pub is_last_kind : Kind → Bool
is_last_kind kind.Param = true
is_last_kind (kind.TsParamProp accessibility is_override readonly) = true
is_last_kind kind.AssignPat = true
is_last_kind kind.RestPat = true
is_last_kind kind.SpreadElement = true
is_last_kind _ = false

last-sorts : (σ : Sort) (k : Kind) → is_last_kind k ≡ true → (p : Place) → is_several p ≡ true → suits_sort p σ ≡ true → belongs σ k ≡ true → true ≡ false
last-sorts σ k l (place.Item at_top false) q s b = by σ k l s b
  where
    by : (σ : Sort) (k : Kind) → is_last_kind k ≡ true → suits_sort (place.Item at_top false) σ ≡ true → belongs σ k ≡ true → true ≡ false
    by sort.ModuleItem kind.Param l s b = no b
    by sort.ModuleItem (kind.TsParamProp accessibility is_override readonly) l s b = no b
    by sort.ModuleItem kind.AssignPat l s b = no b
    by sort.ModuleItem kind.RestPat l s b = no b
    by sort.ModuleItem kind.SpreadElement l s b = no b
    by sort.ModuleItem _ l s b = no l
    by sort.Stmt kind.Param l s b = no b
    by sort.Stmt (kind.TsParamProp accessibility is_override readonly) l s b = no b
    by sort.Stmt kind.AssignPat l s b = no b
    by sort.Stmt kind.RestPat l s b = no b
    by sort.Stmt kind.SpreadElement l s b = no b
    by sort.Stmt _ l s b = no l
    by _ k l s b = no s
last-sorts σ k l (place.Item at_top true) q s b = by σ k l s b
  where
    by : (σ : Sort) (k : Kind) → is_last_kind k ≡ true → suits_sort (place.Item at_top true) σ ≡ true → belongs σ k ≡ true → true ≡ false
    by sort.Decl kind.Param l s b = no b
    by sort.Decl (kind.TsParamProp accessibility is_override readonly) l s b = no b
    by sort.Decl kind.AssignPat l s b = no b
    by sort.Decl kind.RestPat l s b = no b
    by sort.Decl kind.SpreadElement l s b = no b
    by sort.Decl _ l s b = no l
    by _ k l s b = no s
last-sorts σ k l (place.Member skips) q s b = by σ k l s b
  where
    by : (σ : Sort) (k : Kind) → is_last_kind k ≡ true → suits_sort (place.Member skips) σ ≡ true → belongs σ k ≡ true → true ≡ false
    by sort.TsEnumMember kind.TsEnumMember l s b = no l
    by sort.TsEnumMember _ l s b = no b
    by _ k l s b = no s
last-sorts σ k l _ q s b = no q

last-there : (k : Kind) → is_last_kind k ≡ true → (is_list k ≡ false) × (is_absent k ≡ false)
last-there kind.List h = no h
last-there kind.Absent h = no h
last-there _ h = (refl, refl)

-- no statement of a list is of these
pub none-last : (p : Place) (t : Shape) (k : Kind) → is_several p ≡ true → suits p t ≡ true → allows t k ≡ true → is_last_kind k ≡ false
none-last p t k q s a = by (is_last_kind k) refl
  where
    by : (b : Bool) → is_last_kind k ≡ b → b ≡ false
    by false e = refl
    by true e = let there = last-there k e in last-sorts t.sort k e p q (sort-suits p t s) (belongs-by t k there.0 there.1 a)
