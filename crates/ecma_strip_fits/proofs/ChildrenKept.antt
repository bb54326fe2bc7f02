-- What is said of a child's kind is said of it without types.
use Rattle.std.proofs.Common.{◌≡◌, ◌∙◌, ℕ, zero, suc, Bool, true, false, not, ◌&&◌, List, [], ◌∷◌, map, length, Option, Some, None, refl, sym, ap, subst, slice_get}
use Rattle.std.specs.List.{list_all}
use Rattle.ecma_kind.specs.Sorts.{belongs}
use Rattle.ecma_kind.specs.declared.kind.Kind.{Kind}
use Rattle.ecma_kind.specs.declared.kind.Kind.TheVariants as kind
use Rattle.ecma_kind.specs.declared.shapes.Shape.{Shape}
use Rattle.ecma_kind.specs.declared.shapes.Sort.{Sort}
use Rattle.ecma_tree.specs.declared.node.Node.{Node}
use Rattle.ecma_tree.specs.Sorted.{HasShape, allows, child_shapes, maybe, one}
use Rattle.ecma_rules.specs.Children.{child_is, kind_of, of_kind}
use Rattle.ecma_strip.specs.Stripping.{plain_children, plain_kind, stripped}
use Rattle.ecma_strip_fits.proofs.Classes.{class_of}
use Rattle.ecma_strip_fits.proofs.Classes.Class.{Usual}
use Rattle.ecma_strip_fits.proofs.Lists.{have_at}
use Rattle.ecma_strip_fits.proofs.Walk.{children_of, shape_parts, usual_children, usual_kind}

-- the kinds that are not as usual
abbrev odd : List Kind
odd =
    kind.TsTypeAnn ∷ kind.TsType ∷ kind.TsTypeParamDecl ∷ kind.TsTypeParamInstantiation ∷ kind.TsTypeAssertion ∷ kind.TsConstAssertion
    ∷ kind.TsNonNullExpr ∷ kind.TsAsExpr ∷ kind.TsInstantiation ∷ kind.TsSatisfiesExpr ∷ kind.List ∷ []

-- a sort that has none of them
abbrev pub is_usual : Sort → Bool
is_usual σ = list_all (λ k. not (belongs σ k)) odd

none_belongs : (σ : Sort) (ks : List Kind) (i : ℕ) (k : Kind) {A : Type 0} → slice_get ks i ≡ Some k → list_all (λ l. not (belongs σ l)) ks ≡ true → belongs σ k ≡ true → A
none_belongs σ [] i k at u h = absurd (cc)
none_belongs σ (l ∷ ks) zero k at u h =
    let same : l ≡ k = cc in
    by (belongs σ l) u (ap (belongs σ) same ∙ h)
  where
    by : {A : Type 0} (b : Bool) → (not b && list_all (λ l. not (belongs σ l)) ks) ≡ true → b ≡ true → A
    by true u h = absurd (cc)
    by false u h = absurd (cc)
none_belongs σ (l ∷ ks) (suc i) k at u h = none_belongs σ ks i k at (by (belongs σ l) u) h
  where
    by : (b : Bool) → (not b && list_all (λ l. not (belongs σ l)) ks) ≡ true → list_all (λ l. not (belongs σ l)) ks ≡ true
    by true u = cc
    by false u = u

pub usual_by : (σ : Sort) → is_usual σ ≡ true → (k : Kind) → belongs σ k ≡ true → class_of k ≡ Usual
unfolding class_of
usual_by σ u kind.TsTypeAnn h = none_belongs σ odd 0 kind.TsTypeAnn refl u h
usual_by σ u kind.TsType h = none_belongs σ odd 1 kind.TsType refl u h
usual_by σ u kind.TsTypeParamDecl h = none_belongs σ odd 2 kind.TsTypeParamDecl refl u h
usual_by σ u kind.TsTypeParamInstantiation h = none_belongs σ odd 3 kind.TsTypeParamInstantiation refl u h
usual_by σ u kind.TsTypeAssertion h = none_belongs σ odd 4 kind.TsTypeAssertion refl u h
usual_by σ u kind.TsConstAssertion h = none_belongs σ odd 5 kind.TsConstAssertion refl u h
usual_by σ u kind.TsNonNullExpr h = none_belongs σ odd 6 kind.TsNonNullExpr refl u h
usual_by σ u kind.TsAsExpr h = none_belongs σ odd 7 kind.TsAsExpr refl u h
usual_by σ u kind.TsInstantiation h = none_belongs σ odd 8 kind.TsInstantiation refl u h
usual_by σ u kind.TsSatisfiesExpr h = none_belongs σ odd 9 kind.TsSatisfiesExpr refl u h
usual_by σ u kind.List h = none_belongs σ odd 10 kind.List refl u h
usual_by σ u _ h = refl

-- a shape of which every node is as usual
abbrev pub AsUsual : Shape → Type 0
AsUsual o = (k : Kind) → allows o k ≡ true → class_of k ≡ Usual

pub one_usual : (σ : Sort) → is_usual σ ≡ true → AsUsual (one σ)
one_usual = usual_by

pub maybe_usual : (σ : Sort) → is_usual σ ≡ true → AsUsual (maybe σ)
unfolding class_of
maybe_usual σ u kind.Absent h = refl
maybe_usual σ u k h = usual_by σ u k h

-- ---- a child by its index

-- what the kind of a node says of types is nothing to a test
abbrev pub Plain : (A : Type 0) → (Kind → A) → Type 0
Plain A f = (k : Kind) → f (plain_kind k) ≡ f k

pub none_map : (cs : List Node) (i : ℕ) → slice_get cs i ≡ None → slice_get (map stripped cs) i ≡ None
none_map [] i at = refl
none_map (c ∷ cs) zero at = cc
none_map (c ∷ cs) (suc i) at = none_map cs i at

pub some_map : (cs : List Node) (i : ℕ) (c : Node) → slice_get cs i ≡ Some c → slice_get (map stripped cs) i ≡ Some (stripped c)
some_map [] i c at = cc
some_map (x ∷ xs) zero c at = let same : x ≡ c = cc in ap (λ z. Some (stripped z)) same
some_map (x ∷ xs) (suc i) c at = some_map xs i c at

module _ (n : Node) (s : Shape) (h : HasShape s n) (u : class_of (kind_of n) ≡ Usual) (i : ℕ)
    (untouched : (cs : List Node) → slice_get (plain_children (kind_of n) cs) i ≡ slice_get cs i) where
  -- the child at the index, without its types
  at_child : slice_get (children_of (stripped n)) i ≡ slice_get (map stripped (children_of n)) i
  at_child = ap (λ (z : List Node). slice_get z i) (usual_children n u) ∙ untouched (map stripped (children_of n))

  -- a child and what becomes of it, by a relation of each that has the shape
  pub child_by : (Q : Option Node → Option Node → Type 0) → Q None None → ((c : Node) (o : Shape) → slice_get (child_shapes (kind_of n) s (length (children_of n))) i ≡ Some o → HasShape o c → Q (Some c) (Some (stripped c)))
      → Q (slice_get (children_of n) i) (slice_get (children_of (stripped n)) i)
  child_by Q none some = subst (Q (slice_get (children_of n) i)) (sym at_child) (by (slice_get (children_of n) i) refl)
    where
      by : (o : Option Node) → slice_get (children_of n) i ≡ o → Q (slice_get (children_of n) i) (slice_get (map stripped (children_of n)) i)
      by None at = subst (λ z. Q z (slice_get (map stripped (children_of n)) i)) (sym at) (subst (Q None) (sym (none_map (children_of n) i at)) none)
      by (Some c) at =
          let w = have_at (child_shapes (kind_of n) s (length (children_of n))) (children_of n) (shape_parts n s h).1 i c at in
          subst (λ z. Q z (slice_get (map stripped (children_of n)) i)) (sym at) (subst (Q (Some c)) (sym (some_map (children_of n) i c at)) (some c w.0 w.1 w.2))

  -- what is said of a child, by a test that is kept of each that has the shape
  pub child_kept : (A : Type 0) (of : Option Node → A) → ((c : Node) (o : Shape) → slice_get (child_shapes (kind_of n) s (length (children_of n))) i ≡ Some o → HasShape o c → of (Some (stripped c)) ≡ of (Some c))
      → of (slice_get (children_of (stripped n)) i) ≡ of (slice_get (children_of n) i)
  child_kept A of keeps = child_by (λ a b. of b ≡ of a) refl keeps

  pub kind_kept : (is : Kind → Bool) → Plain Bool is → ((o : Shape) → slice_get (child_shapes (kind_of n) s (length (children_of n))) i ≡ Some o → AsUsual o) → child_is is (stripped n) i ≡ child_is is n i
  kind_kept is plain usual = child_kept Bool (of_kind is) (λ c o at has. ap is (usual_kind c (usual o at (kind_of c) (shape_parts c o has).0)) ∙ plain (kind_of c))
