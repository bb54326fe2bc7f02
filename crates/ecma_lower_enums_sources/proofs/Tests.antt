-- What the grammar asks of a node whose kind stays is the same of what is written of it.
use Rattle.std.proofs.Common.{◌≡◌, ◌∙◌, ℕ, suc, Bool, true, false, not, ◌&&◌, ◌||◌, cond, List, [], ◌∷◌, filter, length, is_some, refl, sym, ap, ap₂, subst, slice_get}
use Rattle.ecma_kind.specs.declared.ident.Ident.{Ident}
use Rattle.ecma_kind.specs.declared.kind.Kind.{Kind}
use Rattle.ecma_kind.specs.declared.kind.Kind.TheVariants as kind
use Rattle.ecma_kind.specs.declared.shapes.Shape.{Shape}
use Rattle.ecma_kind.specs.declared.shapes.Sort.TheVariants as sort
use Rattle.ecma_tree.specs.Laws.{HaveShapes}
use Rattle.ecma_tree.specs.Sorted.{child_shapes, item_shape, many}
use Rattle.ecma_tree.specs.declared.node.Node.{Node}
use Rattle.ecma_rules.specs.Children.{child_holds, children_of as items_of, has_child, holds_of}
use Rattle.ecma_rules.specs.Members.{is_constructor, is_constructor_key, is_full_constructor, is_method, is_special_function, second_by, second_of}
use Rattle.ecma_fits.specs.Branches.{is_choice, takes_else}
use Rattle.ecma_fits.specs.Chains.{goes_on, is_behind_chain, is_loose_by}
use Rattle.ecma_fits.specs.Members.{is_misread_by}
use Rattle.ecma_lower_enums.specs.declared.known.KnownEnums.{KnownEnums}
use Rattle.ecma_lower_enums.specs.declared.place.Place.{Place}
use Rattle.ecma_lower_enums.specs.declared.place.Place.TheVariants as place
use Rattle.ecma_lower_enums.specs.Places.{place_in}
use Rattle.ecma_lower_enums_sources.proofs.Alike.{Both, another, else-same, goes-same, holds-same, items-at-both, kind-at, nothing, part-several, present-at}
use Rattle.ecma_lower_enums_sources.proofs.Relation.{Items, Ones, Stands, children_of}
use Rattle.ecma_lower_enums_sources.proofs.Relation as relation
use Rattle.ecma_lower_enums_sources.proofs.Suiting.{no}

module _ (enums : KnownEnums) (N : Ident → Type 0) (K : List ℕ → Type 0) (p : Place) (t : Shape) where
  -- the children of a node of a kind
  abbrev Below : Kind → List Node → List Node → Type 0
  Below k cs ds = Ones enums N K (place_in enums.writes p k) (child_shapes k t (length cs)) cs ds

  -- ---- branches

  pub dangling-same : (k : Kind) (a b : Node) → Below k (children_of a) (children_of b) → (is_choice k && (has_child b 2 && child_holds takes_else b 1)) ≡ (is_choice k && (has_child a 2 && child_holds takes_else a 1))
  dangling-same kind.IfStmt a b os = ap₂ (λ x y. x && y) (present-at enums N K os 2) (holds-same enums N K takes_else (λ q u c d o. else-same enums N K o) os 1)
  dangling-same _ a b os = refl

  -- ---- members

  pub misread-same : (k : Kind) (a b : Node) → Below k (children_of a) (children_of b) → is_misread_by k b ≡ is_misread_by k a
  unfolding is_misread_by place_in
  misread-same (kind.Constructor accessibility is_optional) a b os = ap not (kind-at enums N K is_constructor_key os 0 refl)
  misread-same (kind.ClassMethod k modifiers) a b os =
      ap₂ (λ x y. (not (is_method k) && x) || (not modifiers.is_static && y)) (kind-at enums N K is_special_function os 1 refl) (kind-at enums N K is_constructor_key os 0 refl)
  misread-same (kind.PrivateMethod k modifiers) a b os = ap (λ x. not (is_method k) && x) (kind-at enums N K is_special_function os 1 refl)
  misread-same _ a b os = refl

  -- ---- chains

  first-item : (u : Shape) (cs ds : List Node) → Items enums N K place.Other u cs ds → holds_of goes_on (slice_get ds 0) ≡ holds_of goes_on (slice_get cs 0)
  first-item u cs ds relation.empty = refl
  first-item u cs ds (relation.item o os) = goes-same enums N K o
  first-item u cs ds (relation.part q os is) = no (part-several enums N K q)

  -- what stands in the place of a base is one, and what it stands behind goes on as it did
  base-same : (u : Shape) (c d : Node) → Stands enums N K place.Other u c d → is_behind_chain d ≡ is_behind_chain c
  base-same u c d (relation.left has calm) = refl
  base-same u c d (relation.kept has calm l e at ones) = holds-same enums N K goes_on (λ q v x y o. goes-same enums N K o) ones 0
  base-same u c d (relation.listed has e f at items) = first-item (item_shape u) (children_of c) (children_of d) items

  first-base : {f : ℕ → Place} {ts : List Shape} {cs ds : List Node} → Ones enums N K f ts cs ds → f 0 ≡ place.Other → holds_of is_behind_chain (slice_get ds 0) ≡ holds_of is_behind_chain (slice_get cs 0)
  first-base relation.none e = refl
  first-base (relation.more {t = u} {c = c} {d = d} o os) e = base-same u c d (subst (λ z. Stands enums N K z u c d) e o)

  pub loose-same : (k : Kind) (a b : Node) → Below k (children_of a) (children_of b) → is_loose_by k b ≡ is_loose_by k a
  unfolding place_in
  loose-same (kind.OptChainExpr optional) a b os = ap (λ x. not optional && not x) (first-base os refl)
  loose-same _ a b os = refl

  -- ---- constructors

  full-same : (u : Shape) (c d : Node) → Stands enums N K place.Other u c d → is_full_constructor d ≡ is_full_constructor c
  full-same u c d (relation.left has calm) = refl
  full-same u c d (relation.kept has calm l e at ones) = ap₂ (λ x y. x && y) (ap is_constructor e) (present-at enums N K ones 2)
  full-same u c d (relation.listed has e f at items) = ap (λ k. is_constructor k && has_child d 2) f ∙ sym (ap (λ k. is_constructor k && has_child c 2) e)

  kept-or-not : (x y : Bool) (c d : Node) (cs ds : List Node) → y ≡ x → length ds ≡ length cs → length (cond y (d ∷ ds) ds) ≡ length (cond x (c ∷ cs) cs)
  kept-or-not true true c d cs ds e h = ap suc h
  kept-or-not false false c d cs ds e h = h
  kept-or-not true false c d cs ds e h = no e
  kept-or-not false true c d cs ds e h = no (sym e)

  filtered : {u : Shape} {cs ds : List Node} → Both enums N K place.Other u cs ds → length (filter is_full_constructor ds) ≡ length (filter is_full_constructor cs)
  filtered nothing = refl
  filtered {u} (another {c = c} {d = d} {cs = cs} {ds = ds} o os) =
      kept-or-not (is_full_constructor c) (is_full_constructor d) c d (filter is_full_constructor cs) (filter is_full_constructor ds) (full-same u c d o) (filtered os)

  second-length : (xs ys : List Node) → length ys ≡ length xs → is_some (second_of ys) ≡ is_some (second_of xs)
  second-length [] [] h = refl
  second-length [] (y ∷ ys) h = cc
  second-length (x ∷ xs) [] h = cc
  second-length (x ∷ []) (y ∷ []) h = refl
  second-length (x ∷ []) (y ∷ z ∷ ys) h = cc
  second-length (x ∷ w ∷ xs) (y ∷ []) h = cc
  second-length (x ∷ w ∷ xs) (y ∷ z ∷ ys) h = refl

  pub second-same : (k : Kind) (a b : Node) → HaveShapes (child_shapes k t (length (children_of a))) (children_of a) → Below k (children_of a) (children_of b) → is_some (second_by k b) ≡ is_some (second_by k a)
  unfolding place_in
  second-same (kind.Class is_abstract) a b have os =
      second-length (filter is_full_constructor (items_of (slice_get (children_of a) 1))) (filter is_full_constructor (items_of (slice_get (children_of b) 1)))
      (filtered (items-at-both enums N K os have 1 (many sort.ClassMember) place.Other refl refl refl (λ k h. h)))
  second-same _ a b have os = refl
