-- What the grammar and the context rules ask of a node whose kind stays, beyond the clauses that are known, is the same of what is written of it.
use Rattle.std.proofs.Common.{◌≡◌, ◌∙◌, ℕ, zero, suc, Bool, true, false, not, ◌&&◌, ◌||◌, ◌==◌, ◌+◌, List, [], ◌∷◌, length, codes, Some, refl, sym, ap, ap₂, subst, slice_get, nat_lt, map}
use Rattle.std.specs.List.{list_all, list_any}
use Rattle.ecma_kind.specs.Sorts.{belongs}
use Rattle.ecma_kind.specs.declared.ident.Ident.{Ident}
use Rattle.ecma_kind.specs.declared.kind.Kind.{Kind}
use Rattle.ecma_kind.specs.declared.kind.Kind.TheVariants as kind
use Rattle.ecma_kind.specs.declared.operators.MethodKind.{MethodKind}
use Rattle.ecma_kind.specs.declared.operators.MethodKind.TheVariants.{Method, Getter, Setter}
use Rattle.ecma_kind.specs.declared.shapes.Shape.{Shape}
use Rattle.ecma_kind.specs.declared.shapes.Sort.TheVariants as sort
use Rattle.ecma_tree.specs.Idents.{ident_node}
use Rattle.ecma_tree.specs.Laws.{HaveShapes}
use Rattle.ecma_tree.specs.Nodes.{dummy_span}
use Rattle.ecma_tree.specs.Sorted.{HasShape, allows, child_shapes, is_list, many, maybe, one}
use Rattle.ecma_tree.specs.declared.node.Node.{Node, fold_out-Node}
use Rattle.ecma_rules.specs.Children.{child_holds, child_is, children_of as items_of, has_child, holds_of, is_named, items_at, kind_of, of_kind}
use Rattle.ecma_rules.specs.Lists.{is_one_without_value, is_rest_pattern}
use Rattle.ecma_rules.specs.Members.{behind_first, fits_kind, has_body, is_binding_name, is_constructor_key, is_empty_list, is_method, is_named_pattern, is_one_parameter, is_plain_parameter, is_property_kind, is_special_by, is_special_function, is_this_by, is_this_parameter, is_this_pattern, misfits_by, misplaces_this_by, takes_not_one, takes_one}
use Rattle.ecma_rules.specs.Targets.{first_is, is_key_value, is_plain_target, is_simple_target, is_variables, is_wrapper, simple_step}
use Rattle.ecma_fits.specs.Counts.{are, are_exports, are_imports, are_stars_or_names, ends_once, ends_template, has_attributes_at, holds_attributes, is_attribute, is_attribute_key, is_default_import, is_empty, is_full_by, is_named_export, is_named_import, is_star_export, is_star_import, is_star_of, is_text}
use Rattle.ecma_fits.specs.Roles.{is_bound_name}
use Rattle.ecma_strip_fits.proofs.Walk.{shape_parts}
use Rattle.ecma_utils.specs.Expressions.{key_of}
use Rattle.ecma_lower_enums.specs.declared.known.KnownEnums.{KnownEnums}
use Rattle.ecma_lower_enums.specs.declared.place.Place.{Place}
use Rattle.ecma_lower_enums.specs.declared.place.Place.TheVariants as place
use Rattle.ecma_lower_enums.specs.Places.{place_in}
use Rattle.ecma_lower_enums_sources.proofs.Alike.{Both, all-both, another, any-both, both-length, is_left_out, is_said, items-at-both, kind-at, nothing, ones-length, other-kind, present-at, same-of}
use Rattle.ecma_lower_enums_sources.proofs.Relation.{Ones, Stands, children_of, is_name, is_read}
use Rattle.ecma_lower_enums_sources.proofs.Relation as relation
use Rattle.ecma_lower_enums_sources.proofs.Suiting.{no}
use Rattle.ecma_lower_enums_fits.proofs.Making.{member-simple}

-- ---- simple targets

abbrev by-kind : Kind → List Node → Bool
by-kind k cs = is_plain_target k || (is_wrapper k && first_is (map is_simple_target cs))

pub not-simple : (n : Node) (k : Kind) → kind_of n ≡ k → is_plain_target k ≡ false → is_wrapper k ≡ false → is_simple_target n ≡ false
not-simple n k e h g = fold_out-Node Bool simple_step n ∙ ap (λ z. by-kind z (children_of n)) e ∙ ap₂ (λ x y. x || (y && first_is (map is_simple_target (children_of n)))) h g

module _ (enums : KnownEnums) (N : Ident → Type 0) (K : List ℕ → Type 0) where
  abbrev S : Place → Shape → Node → Node → Type 0
  S = Stands enums N K

  abbrev Below : Place → Shape → Kind → List Node → List Node → Type 0
  Below p t k cs ds = Ones enums N K (place_in enums.writes p k) (child_shapes k t (length cs)) cs ds

  -- ---- nodes

  shape-of : {p : Place} {t : Shape} {a b : Node} → S p t a b → HasShape t a
  shape-of (relation.left has calm) = has
  shape-of (relation.kept has calm l e at ones) = has
  shape-of (relation.listed has e f at items) = has
  shape-of (relation.read has suit is said) = has
  shape-of (relation.target of text has suit is n k) = has
  shape-of (relation.short span text has suit is k said) = has
  shape-of (relation.patterned span at of text has suit is get v n k) = has

  -- a node in another place that is no list: the same, or one whose children have become theirs
  data Other (u : Shape) (c d : Node) : Type 0 where
    unchanged : d ≡ c → Other u c d
    rebuilt : kind_of d ≡ kind_of c → Below place.Other u (kind_of c) (children_of c) (children_of d) → Other u c d

  other : {u : Shape} {c d : Node} → S place.Other u c d → is_list (kind_of c) ≡ false → Other u c d
  other (relation.left has calm) l = unchanged refl
  other (relation.kept has calm l e at ones) n = rebuilt e ones
  other (relation.listed has e f at items) n = no (sym n ∙ ap is_list e)

  -- no list is of this shape
  abbrev Single : Shape → Type 0
  Single u = (k : Kind) → is_list k ≡ true → allows u k ≡ false

  unlisted : {u : Shape} {c d : Node} → Single u → S place.Other u c d → is_list (kind_of c) ≡ false
  unlisted {u} {c} single s = by (is_list (kind_of c)) refl
    where
      by : (b : Bool) → is_list (kind_of c) ≡ b → b ≡ false
      by false e = refl
      by true e = no (sym (single (kind_of c) e) ∙ (shape_parts c u (shape-of s)).0)

  -- a test of a child in another place
  holds-at : (test : Node → Bool) {f : ℕ → Place} {ts : List Shape} {cs ds : List Node} → Ones enums N K f ts cs ds → (i : ℕ) (u : Shape) → slice_get ts i ≡ Some u → f i ≡ place.Other
      → ((c d : Node) → S place.Other u c d → test d ≡ test c) → holds_of test (slice_get ds i) ≡ holds_of test (slice_get cs i)
  holds-at test relation.none i u get e same = refl
  holds-at test (relation.more {t = t} {c = c} {d = d} o os) zero u get e same =
      let is : t ≡ u = cc in
      same c d (subst (λ z. S place.Other z c d) is (subst (λ z. S z t c d) e o))
  holds-at test (relation.more o os) (suc i) u get e same = holds-at test os i u get e same

  kinds-both : (is : Kind → Bool) {t : Shape} (c d : Node) → S place.Other t c d → is (kind_of d) ≡ is (kind_of c)
  kinds-both is c d o = ap is (other-kind enums N K o)

  -- ---- parameters

  -- a name
  named-by : (u : Shape) (k : Kind) (c d : Node) → Below place.Other u k (children_of c) (children_of d) → is_this_by k d ≡ is_this_by k c
  unfolding place_in
  named-by u kind.BindingIdent c d os = kind-at enums N K (is_named (codes "this")) os 0 refl
  named-by u _ c d os = refl

  this-pattern-same : {u : Shape} (c d : Node) → Single u → S place.Other u c d → is_this_pattern d ≡ is_this_pattern c
  this-pattern-same {u} c d single s = by (other s (unlisted single s))
    where
      by : Other u c d → is_this_pattern d ≡ is_this_pattern c
      by (unchanged e) = ap is_this_pattern e
      by (rebuilt e os) = ap (λ k. is_this_by k d) e ∙ named-by u (kind_of c) c d os

  pattern-single : Single (one sort.Pat)
  pattern-single kind.List h = refl
  pattern-single _ h = no h

  parameter-kind : (k : Kind) → belongs sort.ParamOrTsParamProp k ≡ true → is_list k ≡ false
  parameter-kind kind.List h = no h
  parameter-kind _ h = refl

  -- a pattern of a parameter
  inner-this : (k : Kind) (u : Shape) (c d : Node) → belongs sort.ParamOrTsParamProp k ≡ true → Below place.Other u k (children_of c) (children_of d) → child_holds is_this_pattern d 0 ≡ child_holds is_this_pattern c 0
  unfolding place_in
  inner-this kind.Param u c d h os = holds-at is_this_pattern os 0 (one sort.Pat) refl refl (λ x y s. this-pattern-same x y pattern-single s)
  inner-this (kind.TsParamProp accessibility is_override readonly) u c d h os = holds-at is_this_pattern os 0 (one sort.TsParamPropParam) refl refl (λ x y s. this-pattern-same x y single s)
    where
      single : Single (one sort.TsParamPropParam)
      single kind.List h = refl
      single _ h = no h
  inner-this _ u c d h os = no h

  param-same : (u : Shape) (c d : Node) → Single u → ((k : Kind) → allows u k ≡ true → belongs sort.ParamOrTsParamProp k ≡ true) → S place.Other u c d → is_this_parameter d ≡ is_this_parameter c
  param-same u c d single param s = by (other s (unlisted single s))
    where
      by : Other u c d → is_this_parameter d ≡ is_this_parameter c
      by (unchanged e) = ap is_this_parameter e
      by (rebuilt e os) = inner-this (kind_of c) u c d (param (kind_of c) (shape_parts c u (shape-of s)).0) os

  -- its pattern is a rest, or not
  rest-by : (k : Kind) (u : Shape) (c d : Node) → belongs sort.Param k ≡ true → Below place.Other u k (children_of c) (children_of d) → child_is is_rest_pattern d 0 ≡ child_is is_rest_pattern c 0
  unfolding place_in
  rest-by kind.Param u c d h os = kind-at enums N K is_rest_pattern os 0 refl
  rest-by _ u c d h os = no h

  param-single : Single (one sort.Param)
  param-single kind.List h = refl
  param-single _ h = no h

  param-param : (k : Kind) → belongs sort.Param k ≡ true → belongs sort.ParamOrTsParamProp k ≡ true
  param-param kind.Param h = refl
  param-param _ h = no h

  one-same : (c d : Node) → S place.Other (one sort.Param) c d → is_this_parameter d ≡ is_this_parameter c
  one-same c d s = param-same (one sort.Param) c d param-single param-param s

  takes-same : (c d : Node) → S place.Other (one sort.Param) c d → takes_one d ≡ takes_one c
  takes-same c d s = ap₂ (λ x y. not x && not y) (one-same c d s) (by (other s (unlisted param-single s)))
    where
      by : Other (one sort.Param) c d → child_is is_rest_pattern d 0 ≡ child_is is_rest_pattern c 0
      by (unchanged e) = ap (λ z. child_is is_rest_pattern z 0) e
      by (rebuilt e os) = rest-by (kind_of c) (one sort.Param) c d (shape_parts c (one sort.Param) (shape-of s)).0 os

  abbrev B : Shape → List Node → List Node → Type 0
  B = Both enums N K place.Other

  parameter-same : {cs ds : List Node} → B (one sort.Param) cs ds → is_one_parameter ds ≡ is_one_parameter cs
  parameter-same nothing = refl
  parameter-same (another {c = c} {d = d} o nothing) = takes-same c d o
  parameter-same (another {c = c} {d = d} o (another {c = x} {d = y} q nothing)) = ap₂ (λ a b. a && b) (one-same c d o) (takes-same x y q)
  parameter-same (another o (another q (another r os))) = refl

  empty-same : {u : Shape} {cs ds : List Node} → B u cs ds → is_empty_list ds ≡ is_empty_list cs
  empty-same nothing = refl
  empty-same (another o os) = refl

  -- ---- functions

  function-single : Single (one sort.Function)
  function-single kind.List h = refl
  function-single _ h = no h

  -- a function that is a member
  abbrev Functions : (Node → Bool) → Type 0
  Functions test = (k : Kind) (u : Shape) (c d : Node) → belongs sort.Function k ≡ true → HaveShapes (child_shapes k u (length (children_of c))) (children_of c) → Below place.Other u k (children_of c) (children_of d) → test d ≡ test c

  function-same : (test : Node → Bool) → Functions test → (c d : Node) → S place.Other (one sort.Function) c d → test d ≡ test c
  function-same test functions c d s = by (other s (unlisted function-single s))
    where
      by : Other (one sort.Function) c d → test d ≡ test c
      by (unchanged e) = ap test e
      by (rebuilt e os) = let parts = shape_parts c (one sort.Function) (shape-of s) in functions (kind_of c) (one sort.Function) c d parts.0 parts.1 os

  bodies : Functions has_body
  bodies k u c d h have os = present-at enums N K os 1

  accessors : (m : MethodKind) → Functions (fits_kind m)
  unfolding place_in
  accessors Method k u c d h have os = refl
  accessors Getter (kind.Function is_generator is_async) u c d h have os = empty-same (items-at-both enums N K os have 0 (many sort.Param) place.Other refl refl refl (λ k h. h))
  accessors Getter _ u c d h have os = no h
  accessors Setter (kind.Function is_generator is_async) u c d h have os = parameter-same (items-at-both enums N K os have 0 (many sort.Param) place.Other refl refl refl (λ k h. h))
  accessors Setter _ u c d h have os = no h

  -- ---- declarators

  declarator-single : Single (one sort.VarDeclarator)
  declarator-single kind.List h = refl
  declarator-single _ h = no h

  declarator-same : (c d : Node) → S place.Other (one sort.VarDeclarator) c d → has_child d 1 ≡ has_child c 1
  declarator-same c d s = by (other s (unlisted declarator-single s))
    where
      by : Other (one sort.VarDeclarator) c d → has_child d 1 ≡ has_child c 1
      by (unchanged e) = ap (λ z. has_child z 1) e
      by (rebuilt e os) = present-at enums N K os 1

  valueless-same : {cs ds : List Node} → B (one sort.VarDeclarator) cs ds → is_one_without_value ds ≡ is_one_without_value cs
  valueless-same nothing = refl
  valueless-same (another {c = c} {d = d} o nothing) = ap not (declarator-same c d o)
  valueless-same (another o (another q os)) = refl

  -- ---- a parameter with modifiers

  plain-by : (k : Kind) (u : Shape) (c d : Node) → Below place.Other u k (children_of c) (children_of d) → is_named_pattern k d ≡ is_named_pattern k c
  unfolding place_in
  plain-by kind.AssignPat u c d os = kind-at enums N K is_binding_name os 0 refl
  plain-by _ u c d os = refl

  plain-same : {u : Shape} (c d : Node) → Single u → S place.Other u c d → is_plain_parameter d ≡ is_plain_parameter c
  plain-same {u} c d single s = by (other s (unlisted single s))
    where
      by : Other u c d → is_plain_parameter d ≡ is_plain_parameter c
      by (unchanged e) = ap is_plain_parameter e
      by (rebuilt e os) = ap (λ k. is_named_pattern k d) e ∙ plain-by (kind_of c) u c d os

  module _ (p : Place) (t : Shape) where
    -- ---- names and declarations

    pub name-same : (k : Kind) (a b : Node) → Below p t k (children_of a) (children_of b) → (is_bound_name k && child_is (is_named (codes "arguments")) b 0) ≡ (is_bound_name k && child_is (is_named (codes "arguments")) a 0)
    unfolding place_in
    name-same kind.BindingIdent a b os = kind-at enums N K (is_named (codes "arguments")) os 0 refl
    name-same _ a b os = refl

    pub head-same : (k : Kind) (a b : Node) → HaveShapes (child_shapes k t (length (children_of a))) (children_of a) → Below p t k (children_of a) (children_of b)
        → (is_variables k && not (is_one_without_value (items_at b 0))) ≡ (is_variables k && not (is_one_without_value (items_at a 0)))
    unfolding place_in
    head-same (kind.VarDecl word declare) a b have os = ap not (valueless-same (items-at-both enums N K os have 0 (many sort.VarDeclarator) place.Other refl refl refl (λ k h. h)))
    head-same _ a b have os = refl

    pub property-same : (k : Kind) (a b : Node) → Below p t k (children_of a) (children_of b) → (is_property_kind k && child_holds is_plain_parameter b 0) ≡ (is_property_kind k && child_holds is_plain_parameter a 0)
    unfolding place_in
    property-same (kind.TsParamProp accessibility is_override readonly) a b os = holds-at is_plain_parameter os 0 (one sort.TsParamPropParam) refl refl (λ x y s. plain-same x y single s)
      where
        single : Single (one sort.TsParamPropParam)
        single kind.List h = refl
        single _ h = no h
    property-same _ a b os = refl

    -- ---- members

    -- what stands for a name or a read is no rest
    rest-at : {f : ℕ → Place} {ts : List Shape} {cs ds : List Node} → Ones enums N K f ts cs ds → (i : ℕ) → of_kind is_rest_pattern (slice_get ds i) ≡ of_kind is_rest_pattern (slice_get cs i)
    rest-at relation.none i = refl
    rest-at (relation.more o os) zero = same-of enums N K Bool is_rest_pattern false left said o
      where
        left : (k : Kind) → is_left_out k ≡ true → is_rest_pattern k ≡ false
        left kind.RestPat h = no h
        left _ h = refl

        said : (k : Kind) → is_said k ≡ true → is_rest_pattern k ≡ false
        said kind.RestPat h = no h
        said _ h = refl
    rest-at (relation.more o os) (suc i) = rest-at os i

    pub misfits-same : (k : Kind) (a b : Node) → Below p t k (children_of a) (children_of b) → misfits_by k b ≡ misfits_by k a
    unfolding misfits_by place_in
    misfits-same kind.AssignPat a b os = rest-at os 0
    misfits-same kind.GetterProp a b os = ap₂ (λ x y. x || not y) (present-at enums N K os 3) (present-at enums N K os 2)
    misfits-same kind.SetterProp a b os = ap₂ (λ x y. x || not y) (kind-at enums N K takes_not_one os 2 refl) (present-at enums N K os 3)
    misfits-same kind.MethodProp a b os = ap not (holds-at has_body os 1 (one sort.Function) refl refl (λ c d s. function-same has_body bodies c d s))
    misfits-same (kind.ClassMethod m modifiers) a b os = ap not (holds-at (fits_kind m) os 1 (one sort.Function) refl refl (λ c d s. function-same (fits_kind m) (accessors m) c d s))
    misfits-same (kind.PrivateMethod m modifiers) a b os = ap not (holds-at (fits_kind m) os 1 (one sort.Function) refl refl (λ c d s. function-same (fits_kind m) (accessors m) c d s))
    misfits-same _ a b os = refl

    pub special-same : (k : Kind) (a b : Node) → Below p t k (children_of a) (children_of b) → is_special_by k b ≡ is_special_by k a
    unfolding place_in
    special-same (kind.ClassMethod m modifiers) a b os =
        ap₂ (λ x y. not modifiers.is_static && (x && (not (is_method m) || y))) (kind-at enums N K is_constructor_key os 0 refl) (kind-at enums N K is_special_function os 1 refl)
    special-same _ a b os = refl

    any-behind : {cs ds : List Node} → B (one sort.Param) cs ds → list_any is_this_parameter (behind_first ds) ≡ list_any is_this_parameter (behind_first cs)
    any-behind nothing = refl
    any-behind (another o os) = any-both enums N K is_this_parameter one-same os

    pub this-same : (k : Kind) (a b : Node) → HaveShapes (child_shapes k t (length (children_of a))) (children_of a) → Below p t k (children_of a) (children_of b) → misplaces_this_by k b ≡ misplaces_this_by k a
    unfolding misplaces_this_by place_in
    this-same (kind.Function is_generator is_async) a b have os = any-behind (items-at-both enums N K os have 0 (many sort.Param) place.Other refl refl refl (λ k h. h))
    this-same (kind.ArrowExpr is_async is_generator) a b have os =
        any-both enums N K is_this_pattern (λ c d s. this-pattern-same c d pattern-single s) (items-at-both enums N K os have 0 (many sort.Pat) place.Other refl refl refl (λ k h. h))
    this-same (kind.Constructor accessibility is_optional) a b have os =
        any-both enums N K is_this_parameter (λ c d s. param-same (one sort.ParamOrTsParamProp) c d single (λ k h. h) s) (items-at-both enums N K os have 1 (many sort.ParamOrTsParamProp) place.Other refl refl refl (λ k h. h))
      where
        single : Single (one sort.ParamOrTsParamProp)
        single kind.List h = refl
        single _ h = no h
    this-same kind.SetterProp a b have os = holds-at is_this_pattern os 2 (one sort.Pat) refl refl (λ x y s. this-pattern-same x y pattern-single s)
    this-same _ a b have os = refl

  -- ---- targets

  wrapper-place : (k : Kind) → is_wrapper k ≡ true → place_in enums.writes place.Target k 0 ≡ place.Target
  unfolding place_in
  wrapper-place kind.ParenExpr h = refl
  wrapper-place kind.TsTypeAssertion h = refl
  wrapper-place kind.TsConstAssertion h = refl
  wrapper-place kind.TsNonNullExpr h = refl
  wrapper-place kind.TsAsExpr h = refl
  wrapper-place kind.TsInstantiation h = refl
  wrapper-place kind.TsSatisfiesExpr h = refl
  wrapper-place _ h = no h

  either-so : (plain wrapped x y : Bool) → (wrapped ≡ true → x ≡ true → y ≡ true) → (plain || (wrapped && x)) ≡ true → (plain || (wrapped && y)) ≡ true
  either-so true wrapped x y so h = refl
  either-so false true x y so h = so refl h
  either-so false false x y so h = h

  abbrev is_target_place : Place → Bool
  is_target_place place.Target = true
  is_target_place _ = false

  -- a simple target becomes one where it is one
  mutual
    simple-in : {p : Place} {t : Shape} {a b : Node} → S p t a b → p ≡ place.Target → is_simple_target a ≡ true → is_simple_target b ≡ true
    simple-in (relation.left has calm) q h = h
    simple-in {p = p} {a = a} {b = b} (relation.kept has calm l e at ones) q h =
        fold_out-Node Bool simple_step b ∙ ap (λ k. by-kind k (children_of b)) e
        ∙ either-so (is_plain_target (kind_of a)) (is_wrapper (kind_of a)) (first_is (map is_simple_target (children_of a))) (first_is (map is_simple_target (children_of b)))
        (λ w. first-in ones (ap (λ z. place_in enums.writes z (kind_of a) 0) q ∙ wrapper-place (kind_of a) w)) (sym (fold_out-Node Bool simple_step a) ∙ h)
    simple-in {a = a} (relation.listed has e f at items) q h = no (sym (not-simple a kind.List e refl refl) ∙ h)
    simple-in (relation.read has suit is said) q h = no (ap is_target_place q)
    simple-in (relation.target of text has suit is n k) q h = member-simple dummy_span (ident_node of ∷ key_of dummy_span text ∷ [])
    simple-in (relation.short span text has suit is k said) q h = no (ap is_target_place q)
    simple-in {a = a} (relation.patterned span at of text has suit is get v n k) q h = no (sym (not-simple a kind.AssignPatProp is refl refl) ∙ h)

    first-in : {f : ℕ → Place} {ts : List Shape} {cs ds : List Node} → Ones enums N K f ts cs ds → f 0 ≡ place.Target → first_is (map is_simple_target cs) ≡ true → first_is (map is_simple_target ds) ≡ true
    first-in relation.none e h = h
    first-in (relation.more o os) e h = simple-in o e h

  pub simple-so : {p : Place} {t : Shape} {a b : Node} → S p t a b → p ≡ place.Target → is_simple_target a ≡ true → is_simple_target b ≡ true
  simple-so s q h = simple-in s q h

  -- ---- counts

  ends-same : {cs ds : List Node} → B (one sort.TplElement) cs ds → ends_once ds ≡ ends_once cs
  ends-same nothing = refl
  ends-same (another {c = c} {d = d} o nothing) = kinds-both ends_template c d o
  ends-same (another {c = c} {d = d} o (another q os)) = ap₂ (λ a b. not a && b) (kinds-both ends_template c d o) (ends-same (another q os))

  none-same : {u : Shape} {cs ds : List Node} → B u cs ds → is_empty ds ≡ is_empty cs
  none-same nothing = refl
  none-same (another o os) = refl

  are-same : (is : Kind → Bool) {u : Shape} {cs ds : List Node} → B u cs ds → are is ds ≡ are is cs
  are-same is os = all-both enums N K (λ n. is (kind_of n)) (λ c d o. kinds-both is c d o) os

  stars-same : {u : Shape} {cs ds : List Node} → B u cs ds → are_stars_or_names ds ≡ are_stars_or_names cs
  stars-same nothing = refl
  stars-same (another {c = c} {d = d} o nothing) = ap₂ (λ a b. a || b) (kinds-both is_star_import c d o) (kinds-both is_named_import c d o)
  stars-same (another o (another q os)) = are-same is_named_import (another o (another q os))

  imports-same : {u : Shape} {cs ds : List Node} → B u cs ds → are_imports ds ≡ are_imports cs
  imports-same nothing = refl
  imports-same (another {c = c} {d = d} o os) =
      ap₂ (λ a b. a || b) (stars-same (another o os)) (ap₂ (λ a b. a && b) (kinds-both is_default_import c d o) (stars-same os))

  star-same : (has_source : Bool) {u : Shape} {cs ds : List Node} → B u cs ds → is_star_of has_source ds ≡ is_star_of has_source cs
  star-same has_source nothing = refl
  star-same has_source (another {c = c} {d = d} o nothing) = ap (λ a. has_source && a) (kinds-both is_star_export c d o)
  star-same has_source (another o (another q os)) = refl

  exports-same : (has_source has_attributes : Bool) {u : Shape} {cs ds : List Node} → B u cs ds → are_exports has_source has_attributes ds ≡ are_exports has_source has_attributes cs
  exports-same has_source has_attributes os =
      ap₂ (λ a b. (a || b) && (has_source || not has_attributes)) (are-same is_named_export os) (star-same has_source os)

  -- ---- attributes of imports and exports

  read-text : (k : Kind) → is_read k ≡ true → is_text k ≡ false
  read-text (kind.Str value raw) h = no h
  read-text _ h = refl

  text-so : {u : Shape} {c d : Node} → S place.Read u c d → is_text (kind_of c) ≡ true → is_text (kind_of d) ≡ true
  text-so (relation.left has calm) h = h
  text-so (relation.kept has calm l e at ones) h = ap is_text e ∙ h
  text-so (relation.listed has e f at items) h = no (sym (ap is_text e) ∙ h)
  text-so {c = c} (relation.read has suit is said) h = no (sym (read-text (kind_of c) is) ∙ h)

  text-at : {f : ℕ → Place} {ts : List Shape} {cs ds : List Node} → Ones enums N K f ts cs ds → (i : ℕ) → f i ≡ place.Read → of_kind is_text (slice_get cs i) ≡ true → of_kind is_text (slice_get ds i) ≡ true
  text-at relation.none i e h = h
  text-at (relation.more {t = t} {c = c} {d = d} o os) zero e h = text-so (subst (λ z. S z t c d) e o) h
  text-at (relation.more o os) (suc i) e h = text-at os i e h

  and-so : (a b c d : Bool) → (a ≡ true → c ≡ true) → (b ≡ true → d ≡ true) → (a && b) ≡ true → (c && d) ≡ true
  and-so true b c d f g h = ap₂ (λ x y. x && y) (f refl) (g h)
  and-so false b c d f g h = no h

  attribute-by : (k : Kind) (u : Shape) (c d : Node) → Below place.Property u k (children_of c) (children_of d) → (is_key_value k && (child_is is_attribute_key c 0 && child_is is_text c 1)) ≡ true
      → (is_key_value k && (child_is is_attribute_key d 0 && child_is is_text d 1)) ≡ true
  unfolding place_in
  attribute-by kind.KeyValueProp u c d os h =
      and-so (child_is is_attribute_key c 0) (child_is is_text c 1) (child_is is_attribute_key d 0) (child_is is_text d 1) (λ z. kind-at enums N K is_attribute_key os 0 refl ∙ z) (λ z. text-at os 1 refl z) h
  attribute-by _ u c d os h = no h

  key-value-no : (n : Node) (k : Kind) → kind_of n ≡ k → is_key_value k ≡ false → is_attribute n ≡ false
  key-value-no n k e h = ap (λ z. is_key_value z && (child_is is_attribute_key n 0 && child_is is_text n 1)) e ∙ ap (λ z. z && (child_is is_attribute_key n 0 && child_is is_text n 1)) h

  name-value : (k : Kind) → is_name k ≡ true → is_key_value k ≡ false
  name-value kind.KeyValueProp h = no h
  name-value _ h = refl

  attribute-so : {u : Shape} {c d : Node} → S place.Property u c d → is_attribute c ≡ true → is_attribute d ≡ true
  attribute-so (relation.left has calm) h = h
  attribute-so {u} {c} {d} (relation.kept has calm l e at ones) h =
      ap (λ z. is_key_value z && (child_is is_attribute_key d 0 && child_is is_text d 1)) e ∙ attribute-by (kind_of c) u c d ones h
  attribute-so {c = c} (relation.listed has e f at items) h = no (sym (key-value-no c kind.List e refl) ∙ h)
  attribute-so {c = c} (relation.short span text has suit is k said) h = no (sym (key-value-no c (kind_of c) refl (name-value (kind_of c) is)) ∙ h)

  attributes-so : {u : Shape} {cs ds : List Node} → Both enums N K place.Property u cs ds → list_all is_attribute cs ≡ true → list_all is_attribute ds ≡ true
  attributes-so nothing h = h
  attributes-so (another {c = c} {d = d} {cs = cs} {ds = ds} o os) h = and-so (is_attribute c) (list_all is_attribute cs) (is_attribute d) (list_all is_attribute ds) (attribute-so o) (attributes-so os) h

  no-items : {f : ℕ → Place} {cs ds : List Node} → Ones enums N K f [] cs ds → items_of (slice_get ds 0) ≡ items_of (slice_get cs 0)
  no-items relation.none = refl

  object-by : (k : Kind) (u : Shape) (c d : Node) → allows (maybe sort.ObjectLit) k ≡ true → HaveShapes (child_shapes k u (length (children_of c))) (children_of c) → Below place.Other u k (children_of c) (children_of d)
      → holds_attributes c ≡ true → holds_attributes d ≡ true
  unfolding place_in
  object-by kind.Absent u c d a have os h = ap (list_all is_attribute) (no-items os) ∙ h
  object-by kind.ObjectLit u c d a have os h = attributes-so (items-at-both enums N K os have 0 (many sort.PropOrSpread) place.Property refl refl refl (λ k g. g)) h
  object-by _ u c d a have os h = no a

  object-single : Single (maybe sort.ObjectLit)
  object-single kind.List h = refl
  object-single _ h = no h

  object-so : (c d : Node) → S place.Other (maybe sort.ObjectLit) c d → holds_attributes c ≡ true → holds_attributes d ≡ true
  object-so c d s h = by (other s (unlisted object-single s))
    where
      by : Other (maybe sort.ObjectLit) c d → holds_attributes d ≡ true
      by (unchanged e) = ap holds_attributes e ∙ h
      by (rebuilt e os) = let parts = shape_parts c (maybe sort.ObjectLit) (shape-of s) in object-by (kind_of c) (maybe sort.ObjectLit) c d parts.0 parts.1 os h

  attributes-at : {f : ℕ → Place} {ts : List Shape} {cs ds : List Node} → Ones enums N K f ts cs ds → (i : ℕ) → slice_get ts i ≡ Some (maybe sort.ObjectLit) → f i ≡ place.Other
      → holds_of holds_attributes (slice_get cs i) ≡ true → holds_of holds_attributes (slice_get ds i) ≡ true
  attributes-at relation.none i get e h = h
  attributes-at (relation.more {t = t} {c = c} {d = d} o os) zero get e h =
      let is : t ≡ maybe sort.ObjectLit = cc in
      object-so c d (subst (λ z. S place.Other z c d) is (subst (λ z. S z t c d) e o)) h
  attributes-at (relation.more o os) (suc i) get e h = attributes-at os i get e h

  module _ (p : Place) (t : Shape) where
    -- what its production asks for
    pub full-so : (k : Kind) (a b : Node) → HaveShapes (child_shapes k t (length (children_of a))) (children_of a) → Below p t k (children_of a) (children_of b) → is_full_by k a ≡ true → is_full_by k b ≡ true
    unfolding is_full_by place_in
    full-so kind.Tpl a b have os h =
        ap₂ (λ x y. x && y)
        (ap₂ (λ x y. x == y + 1) (both-length enums N K (items-at-both enums N K os have 1 (many sort.TplElement) place.Other refl refl refl (λ k g. g)))
        (both-length enums N K (items-at-both enums N K os have 0 (many sort.Expr) place.Read refl refl refl (λ k g. g))))
        (ends-same (items-at-both enums N K os have 1 (many sort.TplElement) place.Other refl refl refl (λ k g. g)))
        ∙ h
    full-so kind.SeqExpr a b have os h = ap (nat_lt 1) (ones-length enums N K os) ∙ h
    full-so (kind.YieldExpr delegate) a b have os h = ap (λ x. x || not delegate) (present-at enums N K os 0) ∙ h
    full-so kind.TryStmt a b have os h = ap₂ (λ x y. x || y) (present-at enums N K os 1) (present-at enums N K os 2) ∙ h
    full-so (kind.VarDecl word declare) a b have os h = ap not (none-same (items-at-both enums N K os have 0 (many sort.VarDeclarator) place.Other refl refl refl (λ k g. g))) ∙ h
    full-so (kind.ImportDecl type_only) a b have os h =
        and-so (are_imports (items_at a 0)) (has_attributes_at 2 a) (are_imports (items_at b 0)) (has_attributes_at 2 b)
        (λ z. imports-same (items-at-both enums N K os have 0 (many sort.ImportSpecifier) place.Other refl refl refl (λ k g. g)) ∙ z) (λ z. attributes-at os 2 refl refl z) h
    full-so (kind.NamedExport type_only) a b have os h =
        and-so (are_exports (has_child a 1) (has_child a 2) (items_at a 0)) (has_attributes_at 2 a) (are_exports (has_child b 1) (has_child b 2) (items_at b 0)) (has_attributes_at 2 b)
        (λ z. ap₂ (λ x y. are_exports x y (items_at b 0)) (present-at enums N K os 1) (present-at enums N K os 2)
        ∙ exports-same (has_child a 1) (has_child a 2) (items-at-both enums N K os have 0 (many sort.ExportSpecifier) place.Other refl refl refl (λ k g. g)) ∙ z) (λ z. attributes-at os 2 refl refl z) h
    full-so (kind.ExportAll type_only) a b have os h = attributes-at os 1 refl refl h
    full-so _ a b have os h = h
