-- What is said of parameters is said of them without types; no parameter `this` is left.
use Rattle.std.proofs.Common.{◌≡◌, ◌∙◌, ◌⊎◌, inl, inr, ℕ, Bool, true, false, not, ◌&&◌, ◌||◌, codes, cond, List, [], ◌∷◌, map, filter, length, replicate, Option, Some, None, refl, sym, ap, ap₂, subst, slice_get}
use Rattle.std.specs.List.{list_any}
use Rattle.ecma_kind.specs.Sorts.{belongs}
use Rattle.ecma_kind.specs.declared.kind.Kind.{Kind}
use Rattle.ecma_kind.specs.declared.kind.Kind.TheVariants as kind
use Rattle.ecma_kind.specs.declared.shapes.Shape.{Shape}
use Rattle.ecma_kind.specs.declared.shapes.Sort.{Sort}
use Rattle.ecma_kind.specs.declared.shapes.Sort.TheVariants as sort
use Rattle.ecma_tree.specs.declared.node.Node.{Node, out-Node}
use Rattle.ecma_tree.specs.Laws.{HaveShapes}
use Rattle.ecma_tree.specs.Sorted.{HasShape, allows, child_shapes, is_list, one}
use Rattle.ecma_tree.specs.Values.{is_value}
use Rattle.ecma_rules.specs.Children.{child_is, holds_of, is_named, kind_of, of_kind}
use Rattle.ecma_rules.specs.Lists.{is_rest_pattern}
use Rattle.ecma_rules.specs.Members.{behind_first, is_binding_name, is_empty_list, is_named_pattern, is_one_parameter, is_plain_parameter, is_this_by, is_this_parameter, is_this_pattern, takes_not_one, takes_one}
use Rattle.ecma_strip.specs.Staying.{if_there, is_ambient, is_empty_stmt, is_this, is_this_by as goes_by, is_this_ident, is_this_param, is_this_param_by, item_stays, member_stays, member_stays_by, specifier_stays, stays}
use Rattle.ecma_strip.specs.Stripping.{plain_children, plain_kind, stripped}
use Rattle.ecma_strip_fits.proofs.Classes.{class_of}
use Rattle.ecma_strip_fits.proofs.Classes.Class.{Usual}
use Rattle.ecma_strip_fits.proofs.ChildrenKept.{AsUsual, Plain, child_by, child_kept, kind_kept, one_usual}
use Rattle.ecma_strip_fits.proofs.FullNodes.{expression_kept}
use Rattle.ecma_strip_fits.proofs.Walk.{children_of, shape_parts, usual_kind}

some_same : {X : Type 0} {x y : X} → Some x ≡ Some y → x ≡ y
some_same e = cc

-- ---- patterns

pattern_class : (k : Kind) → belongs sort.Pat k ≡ true → (belongs sort.Expr k ≡ true) ⊎ (class_of k ≡ Usual)
unfolding class_of
pattern_class kind.BindingIdent b = inr refl
pattern_class (kind.ArrayPat optional) b = inr refl
pattern_class kind.RestPat b = inr refl
pattern_class (kind.ObjectPat optional) b = inr refl
pattern_class kind.AssignPat b = inr refl
pattern_class kind.Absent b = cc
pattern_class k b = inl b

-- a test of kinds that no expression passes, and that looks at nothing that types say
module _ (is : Kind → Bool) (never : (k : Kind) → belongs sort.Expr k ≡ true → is k ≡ false) (plain : Plain Bool is) where
  pub pattern_kept : (c : Node) (s : Shape) → HasShape s c → belongs sort.Pat (kind_of c) ≡ true → is (kind_of (stripped c)) ≡ is (kind_of c)
  pattern_kept c s h b = by (pattern_class (kind_of c) b)
    where
      by : (belongs sort.Expr (kind_of c) ≡ true) ⊎ (class_of (kind_of c) ≡ Usual) → is (kind_of (stripped c)) ≡ is (kind_of c)
      by (inl e) = never (kind_of (stripped c)) (expression_kept c s h e) ∙ sym (never (kind_of c) e)
      by (inr u) = ap is (usual_kind c u) ∙ plain (kind_of c)

no_bound_expression : (k : Kind) → belongs sort.Expr k ≡ true → is_binding_name k ≡ false
no_bound_expression kind.BindingIdent b = cc
no_bound_expression _ b = refl

binding_plain : Plain Bool is_binding_name
unfolding plain_kind
binding_plain kind.Absent = refl
binding_plain _ = refl

no_listed_expression : (k : Kind) → belongs sort.Expr k ≡ true → is_list k ≡ false
no_listed_expression kind.List b = cc
no_listed_expression _ b = refl

list_plain : Plain Bool is_list
unfolding plain_kind
list_plain kind.Absent = refl
list_plain _ = refl

binding_kept : (c : Node) (s : Shape) → HasShape s c → belongs sort.Pat (kind_of c) ≡ true → is_binding_name (kind_of (stripped c)) ≡ is_binding_name (kind_of c)
binding_kept = pattern_kept is_binding_name no_bound_expression binding_plain

no_rest_expression : (k : Kind) → belongs sort.Expr k ≡ true → is_rest_pattern k ≡ false
no_rest_expression kind.RestPat b = cc
no_rest_expression _ b = refl

rest_plain : Plain Bool is_rest_pattern
unfolding plain_kind
rest_plain kind.Absent = refl
rest_plain _ = refl

pub rest_kept : (c : Node) (s : Shape) → HasShape s c → belongs sort.Pat (kind_of c) ≡ true → is_rest_pattern (kind_of (stripped c)) ≡ is_rest_pattern (kind_of c)
rest_kept = pattern_kept is_rest_pattern no_rest_expression rest_plain

pub not_one_kept : (c : Node) (s : Shape) → HasShape s c → belongs sort.Pat (kind_of c) ≡ true → takes_not_one (kind_of (stripped c)) ≡ takes_not_one (kind_of c)
not_one_kept c s h b = ap₂ (λ x y. x || y) (pattern_kept is_list no_listed_expression list_plain c s h b) (rest_kept c s h b)

-- ---- the name `this`

this_plain : Plain Bool (is_named (codes "this"))
unfolding plain_kind
this_plain kind.Absent = refl
this_plain _ = refl

this_by : (k : Kind) (n : Node) → is_this_by k n ≡ (is_binding_name k && child_is (is_named (codes "this")) n 0)
this_by kind.BindingIdent n = refl
this_by _ n = refl

bound_class : (k : Kind) → is_binding_name k ≡ true → class_of k ≡ Usual
unfolding class_of
bound_class kind.BindingIdent e = refl
bound_class _ e = cc

bound_first : (k : Kind) → is_binding_name k ≡ true → (cs : List Node) → slice_get (plain_children k cs) 0 ≡ slice_get cs 0
unfolding plain_children
bound_first kind.BindingIdent e cs = refl
bound_first _ e cs = cc

bound_usual : (k : Kind) → is_binding_name k ≡ true → (s : Shape) (m : ℕ) (o : Shape) → slice_get (child_shapes k s m) 0 ≡ Some o → AsUsual o
bound_usual kind.BindingIdent e s m o at = subst AsUsual (some_same at) (one_usual sort.Ident refl)
bound_usual _ e s m o at = cc

pub this_kept : (c : Node) (s : Shape) → HasShape s c → belongs sort.Pat (kind_of c) ≡ true → is_this_pattern (stripped c) ≡ is_this_pattern c
this_kept c s h b = this_by (kind_of (stripped c)) (stripped c) ∙ (go (is_binding_name (kind_of c)) refl ∙ sym (this_by (kind_of c) c))
  where
    go : (x : Bool) → is_binding_name (kind_of c) ≡ x
        → (is_binding_name (kind_of (stripped c)) && child_is (is_named (codes "this")) (stripped c) 0) ≡ (is_binding_name (kind_of c) && child_is (is_named (codes "this")) c 0)
    go true e =
        ap₂ (λ x y. x && y) (binding_kept c s h b)
        (kind_kept c s h (bound_class (kind_of c) e) 0 (bound_first (kind_of c) e) (is_named (codes "this")) this_plain (bound_usual (kind_of c) e s (length (children_of c))))
    go false e = ap (λ x. x && child_is (is_named (codes "this")) (stripped c) 0) (binding_kept c s h b ∙ e) ∙ sym (ap (λ x. x && child_is (is_named (codes "this")) c 0) e)

-- ---- parameters of functions and constructors

parameter_class : (k : Kind) → belongs sort.ParamOrTsParamProp k ≡ true → class_of k ≡ Usual
unfolding class_of
parameter_class kind.Param b = refl
parameter_class (kind.TsParamProp accessibility is_override readonly) b = refl
parameter_class _ b = cc

parameter_first : (k : Kind) → belongs sort.ParamOrTsParamProp k ≡ true → (cs : List Node) → slice_get (plain_children k cs) 0 ≡ slice_get cs 0
unfolding plain_children
parameter_first kind.Param b cs = refl
parameter_first (kind.TsParamProp accessibility is_override readonly) b cs = refl
parameter_first _ b cs = cc

property_pattern : (k : Kind) → belongs sort.TsParamPropParam k ≡ true → belongs sort.Pat k ≡ true
property_pattern kind.BindingIdent b = refl
property_pattern kind.AssignPat b = refl
property_pattern _ b = cc

parameter_pattern : (k : Kind) → belongs sort.ParamOrTsParamProp k ≡ true → (s : Shape) (m : ℕ) (o : Shape) → slice_get (child_shapes k s m) 0 ≡ Some o → (c : Kind) → allows o c ≡ true → belongs sort.Pat c ≡ true
parameter_pattern kind.Param b s m o at c a = subst (λ z. allows z c ≡ true → belongs sort.Pat c ≡ true) (some_same at) (λ x. x) a
parameter_pattern (kind.TsParamProp accessibility is_override readonly) b s m o at c a = subst (λ z. allows z c ≡ true → belongs sort.Pat c ≡ true) (some_same at) (property_pattern c) a
parameter_pattern _ b s m o at c a = cc

-- what is said of the pattern of a parameter
module _ (p : Node) (s : Shape) (h : HasShape s p) (b : belongs sort.ParamOrTsParamProp (kind_of p) ≡ true) (of : Option Node → Bool)
    (kept : (c : Node) (o : Shape) → HasShape o c → belongs sort.Pat (kind_of c) ≡ true → of (Some (stripped c)) ≡ of (Some c)) where
  of_pattern_kept : of (slice_get (children_of (stripped p)) 0) ≡ of (slice_get (children_of p) 0)
  of_pattern_kept =
      child_kept p s h (parameter_class (kind_of p) b) 0 (parameter_first (kind_of p) b) Bool of
      (λ c o at has. kept c o has (parameter_pattern (kind_of p) b s (length (children_of p)) o at (kind_of c) (shape_parts c o has).0))

pub this_parameter_kept : (p : Node) (s : Shape) → HasShape s p → belongs sort.ParamOrTsParamProp (kind_of p) ≡ true → is_this_parameter (stripped p) ≡ is_this_parameter p
this_parameter_kept p s h b = of_pattern_kept p s h b (holds_of is_this_pattern) this_kept

takes_one_kept : (p : Node) (s : Shape) → HasShape s p → belongs sort.ParamOrTsParamProp (kind_of p) ≡ true → takes_one (stripped p) ≡ takes_one p
takes_one_kept p s h b = ap₂ (λ x y. not x && not y) (this_parameter_kept p s h b) (of_pattern_kept p s h b (of_kind is_rest_pattern) rest_kept)

-- ---- what goes

this_ident : (o : Option Node) → if_there o (λ x. is_this_ident (out-Node x).kind) ≡ of_kind (is_named (codes "this")) o
this_ident None = refl
this_ident (Some x) = by (kind_of x)
  where
    by : (k : Kind) → is_this_ident k ≡ is_named (codes "this") k
    by (kind.Ident text ctxt optional) = refl
    by _ = refl

pub this_goes : (n : Node) → is_this n ≡ is_this_pattern n
this_goes n = by (kind_of n)
  where
    by : (k : Kind) → goes_by k n ≡ is_this_by k n
    by kind.BindingIdent = this_ident (slice_get (children_of n) 0)
    by _ = refl

there_this : (o : Option Node) → if_there o is_this ≡ holds_of is_this_pattern o
there_this None = refl
there_this (Some c) = this_goes c

only_param : (k : Kind) → belongs sort.Param k ≡ true → k ≡ kind.Param
only_param kind.Param b = refl
only_param _ b = cc

-- a parameter stays where it is not `this`
param_stays : (p : Node) → belongs sort.Param (kind_of p) ≡ true → stays p ≡ not (is_this_parameter p)
unfolding stays member_stays_by specifier_stays
param_stays p b =
    let e = only_param (kind_of p) b in
    let item : item_stays p ≡ true = ap (λ k. cond (is_empty_stmt k) true (cond (belongs sort.ModuleItem k) (is_value p && not (is_ambient p)) true)) e in
    let member : member_stays p ≡ true = ap (λ k. member_stays_by k p) e in
    let specifier : specifier_stays (kind_of p) ≡ true = ap specifier_stays e in
    let this : is_this_param p ≡ is_this_parameter p = ap (λ k. is_this_param_by k p) e ∙ there_this (slice_get (children_of p) 0) in
    λ j. ((item j && member j) && specifier j) && not (this j)

both : (a b : Bool) → (a && b) ≡ true → (a ≡ true) × (b ≡ true)
both true b h = (refl, h)
both false b h = cc

neither : (a b : Bool) → (a || b) ≡ false → (a ≡ false) × (b ≡ false)
neither true b h = cc
neither false b h = (refl, h)

not_true : (b : Bool) → not b ≡ true → b ≡ false
not_true true h = cc
not_true false h = refl

-- what stays in a list of patterns is no name `this`
pattern_unnamed : (c : Node) → belongs sort.Pat (kind_of c) ≡ true → stays c ≡ true → is_this_pattern c ≡ false
unfolding stays
pattern_unnamed c b h = sym (this_goes c) ∙ (sym (pattern_goes (kind_of c) b) ∙ not_true (is_this_param c) (both ((item_stays c && member_stays c) && specifier_stays (kind_of c)) (not (is_this_param c)) h).1)
  where
    pattern_goes : (k : Kind) → belongs sort.Pat k ≡ true → is_this_param_by k c ≡ is_this c
    pattern_goes kind.Param b = cc
    pattern_goes _ b = refl

param_unnamed : (p : Node) → belongs sort.Param (kind_of p) ≡ true → stays p ≡ true → is_this_parameter p ≡ false
param_unnamed p b h = not_true (is_this_parameter p) (sym (param_stays p b) ∙ h)

-- ---- lists

-- nothing is left in a list that passes a test, where nothing passes it that stays
module _ (σ : Sort) (test : Node → Bool) (kept : (c : Node) → HasShape (one σ) c → test (stripped c) ≡ test c) where
  chosen : (b : Bool) (c : Node) (cs : List Node) → (b ≡ true → test (stripped c) ≡ false) → list_any test (map stripped cs) ≡ false → list_any test (map stripped (cond b (c ∷ cs) cs)) ≡ false
  chosen true c cs h rest = ap₂ (λ x y. x || y) (h refl) rest
  chosen false c cs h rest = rest

  pub none_stays : ((c : Node) → HasShape (one σ) c → stays c ≡ true → test c ≡ false) → (cs : List Node) → HaveShapes (replicate (length cs) (one σ)) cs → list_any test (map stripped (filter stays cs)) ≡ false
  none_stays gone [] has = refl
  none_stays gone (c ∷ cs) has = chosen (stays c) c (filter stays cs) (λ h. kept c has.0 ∙ gone c has.0 h) (none_stays gone cs has.1)

  pub none_left : (cs : List Node) → HaveShapes (replicate (length cs) (one σ)) cs → list_any test cs ≡ false → list_any test (map stripped (filter stays cs)) ≡ false
  none_left [] has h = refl
  none_left (c ∷ cs) has h =
      let t = neither (test c) (list_any test cs) h in
      chosen (stays c) c (filter stays cs) (λ g. kept c has.0 ∙ t.0) (none_left cs has.1 t.1)

one_pattern : (c : Node) → HasShape (one sort.Pat) c → belongs sort.Pat (kind_of c) ≡ true
one_pattern c has = (shape_parts c (one sort.Pat) has).0

one_param : (p : Node) → HasShape (one sort.Param) p → belongs sort.Param (kind_of p) ≡ true
one_param p has = (shape_parts p (one sort.Param) has).0

is_parameter : (k : Kind) → belongs sort.Param k ≡ true → belongs sort.ParamOrTsParamProp k ≡ true
is_parameter kind.Param b = refl
is_parameter _ b = cc

param_kept : (p : Node) → HasShape (one sort.Param) p → is_this_parameter (stripped p) ≡ is_this_parameter p
param_kept p has = this_parameter_kept p (one sort.Param) has (is_parameter (kind_of p) (one_param p has))

one_kept : (p : Node) → HasShape (one sort.Param) p → takes_one p ≡ true → takes_one (stripped p) ≡ true
one_kept p has h = takes_one_kept p (one sort.Param) has (is_parameter (kind_of p) (one_param p has)) ∙ h

one_stays : (p : Node) → HasShape (one sort.Param) p → takes_one p ≡ true → stays p ≡ true
one_stays p has h = param_stays p (one_param p has) ∙ (both (not (is_this_parameter p)) (not (child_is is_rest_pattern p 0)) h).0

pub no_patterns : (cs : List Node) → HaveShapes (replicate (length cs) (one sort.Pat)) cs → list_any is_this_pattern (map stripped (filter stays cs)) ≡ false
no_patterns = none_stays sort.Pat is_this_pattern (λ c has. this_kept c (one sort.Pat) has (one_pattern c has)) (λ c has. pattern_unnamed c (one_pattern c has))

behind : (ns : List Node) → list_any is_this_parameter ns ≡ false → list_any is_this_parameter (behind_first ns) ≡ false
behind [] h = refl
behind (n ∷ ns) h = (neither (is_this_parameter n) (list_any is_this_parameter ns) h).1

pub no_further : (cs : List Node) → HaveShapes (replicate (length cs) (one sort.Param)) cs → list_any is_this_parameter (behind_first (map stripped (filter stays cs))) ≡ false
no_further cs has = behind (map stripped (filter stays cs)) (none_stays sort.Param is_this_parameter param_kept (λ c g. param_unnamed c (one_param c g)) cs has)

pub no_others : (cs : List Node) → HaveShapes (replicate (length cs) (one sort.ParamOrTsParamProp)) cs → list_any is_this_parameter cs ≡ false → list_any is_this_parameter (map stripped (filter stays cs)) ≡ false
no_others = none_left sort.ParamOrTsParamProp is_this_parameter (λ c has. this_parameter_kept c (one sort.ParamOrTsParamProp) has (shape_parts c (one sort.ParamOrTsParamProp) has).0)

pub none_empty : (cs : List Node) → is_empty_list cs ≡ true → is_empty_list (map stripped (filter stays cs)) ≡ true
none_empty [] h = refl
none_empty (c ∷ cs) h = cc

pub one_left : (cs : List Node) → HaveShapes (replicate (length cs) (one sort.Param)) cs → is_one_parameter cs ≡ true → is_one_parameter (map stripped (filter stays cs)) ≡ true
one_left [] has h = h
one_left (p ∷ []) has h = ap (λ b. is_one_parameter (map stripped (cond b (p ∷ []) []))) (one_stays p has.0 h) ∙ one_kept p has.0 h
one_left (p ∷ q ∷ []) has h =
    let t = both (is_this_parameter p) (takes_one q) h in
    let gone : stays p ≡ false = param_stays p (one_param p has.0) ∙ ap not t.0 in
    ap₂ (λ a b. is_one_parameter (map stripped (cond a (p ∷ cond b (q ∷ []) []) (cond b (q ∷ []) [])))) gone (one_stays q has.1.0 t.1) ∙ one_kept q has.1.0 t.1
one_left (p ∷ q ∷ r ∷ cs) has h = cc

-- ---- a plain name, perhaps with a default

pub plain_kept : (c : Node) (s : Shape) → HasShape s c → is_plain_parameter c ≡ true → is_plain_parameter (stripped c) ≡ true
unfolding class_of plain_kind plain_children
plain_kept c s h = by (kind_of c) refl
  where
    now : (k : Kind) → kind_of c ≡ k → class_of k ≡ Usual → kind_of (stripped c) ≡ plain_kind k
    now k e u = usual_kind c (ap class_of e ∙ u) ∙ ap plain_kind e

    by : (k : Kind) → kind_of c ≡ k → is_named_pattern k c ≡ true → is_plain_parameter (stripped c) ≡ true
    by kind.BindingIdent e h = ap (λ k. is_named_pattern k (stripped c)) (now kind.BindingIdent e refl)
    by kind.AssignPat e g =
        ap (λ k. is_named_pattern k (stripped c)) (now kind.AssignPat e refl)
        ∙ child_by c s h (ap class_of e) 0 (λ cs. ap (λ k. slice_get (plain_children k cs) 0) e) (λ x y. of_kind is_binding_name x ≡ true → of_kind is_binding_name y ≡ true) (λ z. z)
        (λ d o at has z. ap is_binding_name (usual_kind d (bound_class (kind_of d) z)) ∙ (binding_plain (kind_of d) ∙ z)) g
    by _ e h = cc
