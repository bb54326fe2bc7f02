-- Each node has what its production asks for without types, where it had it.
use Rattle.std.proofs.Common.{◌≡◌, ◌∙◌, ℕ, zero, suc, ◌+◌, Bool, true, false, not, ◌&&◌, ◌||◌, ◌==◌, List, [], ◌∷◌, map, length, Some, refl, sym, ap, ap₂, subst, slice_get, nat_lt}
use Rattle.std.specs.List.{list_all}
use Rattle.std.proofs.lemmas.List.{length-map}
use Rattle.ecma_kind.specs.Sorts.{belongs}
use Rattle.ecma_kind.specs.declared.kind.Kind.{Kind}
use Rattle.ecma_kind.specs.declared.kind.Kind.TheVariants as kind
use Rattle.ecma_kind.specs.declared.shapes.Shape.{Shape}
use Rattle.ecma_kind.specs.declared.shapes.Sort.{Sort}
use Rattle.ecma_kind.specs.declared.shapes.Sort.TheVariants as sort
use Rattle.ecma_tree.specs.declared.node.Node.{Node, Node-F, ind-Node, roll-Node}
use Rattle.ecma_tree.specs.declared.node.Node.TheViews.{out-roll-Node}
use Rattle.ecma_tree.specs.Sorted.{HasShape, allows, child_shapes, many, maybe, one}
use Rattle.ecma_rules.specs.Children.{child_is, children_of as items_of, has_child, holds_of, is_present, items_at, kind_of, of_kind}
use Rattle.ecma_rules.specs.Targets.{is_key_value}
use Rattle.ecma_strip.specs.Stripping.{plain_children, plain_kind, stripped}
use Rattle.ecma_fits.specs.Counts.{are_exports, are_imports, ends_once, has_attributes_at, holds_attributes, is_attribute, is_attribute_key, is_empty, is_full_by, is_short, is_text}
use Rattle.ecma_fits.specs.Fitting.{Fits, NoneFails}
use Rattle.ecma_strip_fits.proofs.Classes.{Class, class_of, only_list, wrapped_front}
use Rattle.ecma_strip_fits.proofs.Classes.Class.{Listed, Typed, Usual, Wrapped}
use Rattle.ecma_strip_fits.proofs.ChildrenKept.{AsUsual, Plain, child_by, child_kept, kind_kept, maybe_usual, one_usual}
use Rattle.ecma_strip_fits.proofs.Constructors.{present_plain}
use Rattle.ecma_strip_fits.proofs.Counts.{empty_map, ends_kept, exports_left, imports_left}
use Rattle.ecma_strip_fits.proofs.StaysAll.{all_left, all_of_list, declarators_calm, expressions_calm, items_have, left_of_list, texts_calm}
use Rattle.ecma_strip_fits.proofs.Tests.{not_short, test_kept}
use Rattle.ecma_strip_fits.proofs.Walk.{children_of, shape_parts, usual_children, usual_kind, wrapped_is}

some_same : {X : Type 0} {x y : X} → Some x ≡ Some y → x ≡ y
some_same e = cc

both : (a b : Bool) → (a && b) ≡ true → (a ≡ true) × (b ≡ true)
both true b h = (refl, h)
both false b h = cc

-- ---- an expression is one without the types round it

pub no_type : {A : Type 0} (k : Kind) → class_of k ≡ Typed → belongs sort.Expr k ≡ true → A
unfolding class_of
no_type kind.TsTypeAnn e b = absurd (cc)
no_type kind.TsType e b = absurd (cc)
no_type kind.TsTypeParamDecl e b = absurd (cc)
no_type kind.TsTypeParamInstantiation e b = absurd (cc)
no_type _ e b = absurd (cc)

expression_plain : Plain Bool (belongs sort.Expr)
unfolding plain_kind
expression_plain kind.Absent = refl
expression_plain _ = refl

abbrev There : Node → Type 0
There n = (s : Shape) → HasShape s n → belongs sort.Expr (kind_of n) ≡ true → belongs sort.Expr (kind_of (stripped n)) ≡ true

node_there : (n : Node) → ((i : ℕ) (c : Node) → slice_get (children_of n) i ≡ Some c → There c) → There n
node_there n below s h b = by (class_of (kind_of n)) refl
  where
    by : (k : Class) → class_of (kind_of n) ≡ k → belongs sort.Expr (kind_of (stripped n)) ≡ true
    by Typed e = no_type (kind_of n) e b
    by Wrapped e =
        let front = wrapped_front (kind_of n) s (length (children_of n)) (children_of n) e (shape_parts n s h).1 in
        let is : children_of n ≡ front.0 ∷ front.1 = front.2 in
        ap (λ (m : Node). belongs sort.Expr (kind_of m)) (wrapped_is n e front.0 front.1 is)
        ∙ below 0 front.0 (ap (λ (z : List Node). slice_get z 0) is) (one sort.Expr) front.3 (shape_parts front.0 (one sort.Expr) front.3).0
    by Listed e = let l = only_list (kind_of n) e in let no : belongs sort.Expr kind.List ≡ true = ap (belongs sort.Expr) (sym l) ∙ b in absurd (cc)
    by Usual e = ap (belongs sort.Expr) (usual_kind n e) ∙ (expression_plain (kind_of n) ∙ b)

each_there : (es : List ((n : Node) × There n)) (i : ℕ) (c : Node) → slice_get (map (λ e. e.0) es) i ≡ Some c → There c
each_there [] i c at = cc
each_there (e ∷ es) zero c at = let same : e.0 ≡ c = cc in subst There same e.1
each_there (e ∷ es) (suc i) c at = each_there es i c at

pub expression_kept : (n : Node) → There n
expression_kept = ind-Node There (λ x y is. node_there (roll-Node x) (λ i c at.
    each_there y.children i c (ap (λ (z : Node-F Node). slice_get z.children i) is ∙ (sym (ap (λ (z : Node-F Node). slice_get z.children i) (out-roll-Node x)) ∙ at))))

expression_there : (k : Kind) → belongs sort.Expr k ≡ true → is_present k ≡ true
expression_there kind.Absent b = cc
expression_there _ b = refl

-- an expression that may be missing
maybe_there : (c : Node) → HasShape (maybe sort.Expr) c → is_present (kind_of c) ≡ true → is_present (kind_of (stripped c)) ≡ true
maybe_there c has p = expression_there (kind_of (stripped c)) (expression_kept c (maybe sort.Expr) has (by (kind_of c) p (shape_parts c (maybe sort.Expr) has).0))
  where
    by : (k : Kind) → is_present k ≡ true → allows (maybe sort.Expr) k ≡ true → belongs sort.Expr k ≡ true
    by kind.Absent p a = cc
    by k p a = a

-- ---- attributes

key_plain : Plain Bool is_attribute_key
unfolding plain_kind
key_plain kind.Absent = refl
key_plain _ = refl

text_plain : Plain Bool is_text
unfolding plain_kind
text_plain kind.Absent = refl
text_plain _ = refl

pair_plain : Plain Bool is_key_value
unfolding plain_kind
pair_plain kind.Absent = refl
pair_plain _ = refl

text_usual : (k : Kind) → is_text k ≡ true → class_of k ≡ Usual
unfolding class_of
text_usual (kind.Str value raw) t = refl
text_usual _ t = cc

pair_usual : (k : Kind) → is_key_value k ≡ true → class_of k ≡ Usual
unfolding class_of
pair_usual kind.KeyValueProp t = refl
pair_usual _ t = cc

pair_untouched : (k : Kind) → is_key_value k ≡ true → (i : ℕ) (cs : List Node) → slice_get (plain_children k cs) i ≡ slice_get cs i
unfolding plain_children
pair_untouched kind.KeyValueProp t i cs = refl
pair_untouched _ t i cs = cc

pair_key : (k : Kind) → is_key_value k ≡ true → (s : Shape) (m : ℕ) (o : Shape) → slice_get (child_shapes k s m) 0 ≡ Some o → AsUsual o
pair_key kind.KeyValueProp t s m o at = subst AsUsual (some_same at) (one_usual sort.PropName refl)
pair_key _ t s m o at = cc

attribute_kept : (p : Node) → HasShape (one sort.PropOrSpread) p → is_attribute p ≡ true → is_attribute (stripped p) ≡ true
attribute_kept p has h =
    let a = both (is_key_value (kind_of p)) (child_is is_attribute_key p 0 && child_is is_text p 1) h in
    let b = both (child_is is_attribute_key p 0) (child_is is_text p 1) a.1 in
    let u = pair_usual (kind_of p) a.0 in
    let key = kind_kept p (one sort.PropOrSpread) has u 0 (pair_untouched (kind_of p) a.0 0) is_attribute_key key_plain (pair_key (kind_of p) a.0 (one sort.PropOrSpread) (length (children_of p))) in
    let value = child_by p (one sort.PropOrSpread) has u 1 (pair_untouched (kind_of p) a.0 1) (λ x y. of_kind is_text x ≡ true → of_kind is_text y ≡ true) (λ g. g)
    (λ c o at shape g. ap is_text (usual_kind c (text_usual (kind_of c) g)) ∙ (text_plain (kind_of c) ∙ g)) in
    λ j. (ap is_key_value (usual_kind p u) ∙ (pair_plain (kind_of p) ∙ a.0)) j && ((key ∙ b.0) j && value b.1 j)

object_untouched : (k : Kind) → allows (maybe sort.ObjectLit) k ≡ true → (cs : List Node) → slice_get (plain_children k cs) 0 ≡ slice_get cs 0
unfolding plain_children
object_untouched kind.ObjectLit a cs = refl
object_untouched kind.Absent a cs = refl
object_untouched _ a cs = cc

object_shape : (k : Kind) → allows (maybe sort.ObjectLit) k ≡ true → (s : Shape) (m : ℕ) (o : Shape) → slice_get (child_shapes k s m) 0 ≡ Some o → many sort.PropOrSpread ≡ o
object_shape kind.ObjectLit a s m o at = some_same at
object_shape kind.Absent a s m o at = cc
object_shape _ a s m o at = cc

attributes_kept : (c : Node) → HasShape (maybe sort.ObjectLit) c → holds_attributes c ≡ true → holds_attributes (stripped c) ≡ true
attributes_kept c has =
    let a = (shape_parts c (maybe sort.ObjectLit) has).0 in
    child_by c (maybe sort.ObjectLit) has (maybe_usual sort.ObjectLit refl (kind_of c) a) 0 (object_untouched (kind_of c) a)
    (λ x y. list_all is_attribute (items_of x) ≡ true → list_all is_attribute (items_of y) ≡ true) (λ g. g)
    (λ l o at shape g.
    (let list : HasShape (many sort.PropOrSpread) l = subst (λ z. HasShape z l) (sym (object_shape (kind_of c) a (maybe sort.ObjectLit) (length (children_of c)) o at)) shape in
    ap (λ (z : List Node). list_all is_attribute z) (left_of_list sort.PropOrSpread l list)
    ∙ all_left sort.PropOrSpread is_attribute attribute_kept (children_of l) (items_have sort.PropOrSpread l list) g))

-- ---- by kinds

module _ (n : Node) (s : Shape) (h : HasShape s n) (u : class_of (kind_of n) ≡ Usual) (k : Kind) (e : kind_of n ≡ k) (whole : (cs : List Node) → plain_children k cs ≡ cs) where
  untouched : (i : ℕ) (cs : List Node) → slice_get (plain_children (kind_of n) cs) i ≡ slice_get cs i
  untouched i cs = ap (λ z. slice_get (plain_children z cs) i) e ∙ ap (λ (z : List Node). slice_get z i) (whole cs)

  shape_is : (i : ℕ) (o o' : Shape) → slice_get (child_shapes k s (length (children_of n))) i ≡ Some o' → slice_get (child_shapes (kind_of n) s (length (children_of n))) i ≡ Some o → o' ≡ o
  shape_is i o o' is at = some_same (sym is ∙ (ap (λ z. slice_get (child_shapes z s (length (children_of n))) i) (sym e) ∙ at))

  pub present : (i : ℕ) (o : Shape) → AsUsual o → slice_get (child_shapes k s (length (children_of n))) i ≡ Some o → has_child (stripped n) i ≡ has_child n i
  present i o usual is = kind_kept n s h u i (untouched i) is_present present_plain (λ o' at. subst AsUsual (shape_is i o' o is at) usual)

  expression : (i : ℕ) → slice_get (child_shapes k s (length (children_of n))) i ≡ Some (maybe sort.Expr) → has_child n i ≡ true → has_child (stripped n) i ≡ true
  expression i is = child_by n s h u i (untouched i) (λ x y. of_kind is_present x ≡ true → of_kind is_present y ≡ true) (λ g. g)
      (λ c o at has. maybe_there c (subst (λ z. HasShape z c) (sym (shape_is i o (maybe sort.Expr) is at)) has))

  -- what is said of a list
  list : (A : Type 0) (f : List Node → A) (i : ℕ) (σ : Sort) → slice_get (child_shapes k s (length (children_of n))) i ≡ Some (many σ)
      → ((l : Node) → HasShape (many σ) l → f (children_of (stripped l)) ≡ f (children_of l)) → f (items_at (stripped n) i) ≡ f (items_at n i)
  list A f i σ is same = child_kept n s h u i (untouched i) A (λ o. f (items_of o)) (λ l o at has. same l (subst (λ z. HasShape z l) (sym (shape_is i o (many σ) is at)) has))

  pub list_by : (f : List Node → Bool) (i : ℕ) (σ : Sort) → slice_get (child_shapes k s (length (children_of n))) i ≡ Some (many σ)
      → ((l : Node) → HasShape (many σ) l → f (children_of l) ≡ true → f (children_of (stripped l)) ≡ true) → f (items_at n i) ≡ true → f (items_at (stripped n) i) ≡ true
  list_by f i σ is keeps = child_by n s h u i (untouched i) (λ x y. f (items_of x) ≡ true → f (items_of y) ≡ true) (λ g. g)
      (λ l o at has. keeps l (subst (λ z. HasShape z l) (sym (shape_is i o (many σ) is at)) has))

  attributes : (i : ℕ) → slice_get (child_shapes k s (length (children_of n))) i ≡ Some (maybe sort.ObjectLit) → has_attributes_at i n ≡ true → has_attributes_at i (stripped n) ≡ true
  attributes i is = child_by n s h u i (untouched i) (λ x y. holds_of holds_attributes x ≡ true → holds_of holds_attributes y ≡ true) (λ g. g)
      (λ c o at has. attributes_kept c (subst (λ z. HasShape z c) (sym (shape_is i o (maybe sort.ObjectLit) is at)) has))

  children_whole : children_of (stripped n) ≡ map stripped (children_of n)
  children_whole = usual_children n u ∙ (ap (λ z. plain_children z (map stripped (children_of n))) e ∙ whole (map stripped (children_of n)))

or_kept : (a b c : Bool) → (a ≡ true → b ≡ true) → (a || c) ≡ true → (b || c) ≡ true
or_kept true b c f h = ap (λ z. z || c) (f refl)
or_kept false true c f h = refl
or_kept false false c f h = h

module _ (n : Node) (s : Shape) (h : HasShape s n) (u : class_of (kind_of n) ≡ Usual) where
  full_by : (k : Kind) → kind_of n ≡ k → is_full_by k n ≡ true → is_full_by (plain_kind k) (stripped n) ≡ true
  unfolding is_full_by plain_kind plain_children
  full_by kind.Tpl e f =
      (λ j. list n s h u kind.Tpl e (λ cs. refl) ℕ length 1 sort.TplElement refl (λ l has. ap length (all_of_list sort.TplElement texts_calm l has) ∙ length-map (children_of l) stripped) j
      == list n s h u kind.Tpl e (λ cs. refl) ℕ length 0 sort.Expr refl (λ l has. ap length (all_of_list sort.Expr expressions_calm l has) ∙ length-map (children_of l) stripped) j + 1
      && list n s h u kind.Tpl e (λ cs. refl) Bool ends_once 1 sort.TplElement refl (λ l has. ap ends_once (all_of_list sort.TplElement texts_calm l has) ∙ ends_kept (children_of l) (items_have sort.TplElement l has)) j)
      ∙ f
  full_by kind.SeqExpr e f = ap (nat_lt 1) (ap length (children_whole n s h u kind.SeqExpr e (λ cs. refl)) ∙ length-map (children_of n) stripped) ∙ f
  full_by (kind.YieldExpr delegate) e f = or_kept (has_child n 0) (has_child (stripped n) 0) (not delegate) (expression n s h u (kind.YieldExpr delegate) e (λ cs. refl) 0 refl) f
  full_by (kind.ArrowExpr is_async is_generator) e f = f
  full_by kind.TryStmt e f =
      ap₂ (λ a b. a || b) (present n s h u kind.TryStmt e (λ cs. refl) 1 (maybe sort.CatchClause) (maybe_usual sort.CatchClause refl) refl) (present n s h u kind.TryStmt e (λ cs. refl) 2 (maybe sort.BlockStmt) (maybe_usual sort.BlockStmt refl) refl)
      ∙ f
  full_by (kind.VarDecl k declare) e f =
      ap not (list n s h u (kind.VarDecl k declare) e (λ cs. refl) Bool is_empty 0 sort.VarDeclarator refl (λ l has. ap is_empty (all_of_list sort.VarDeclarator declarators_calm l has) ∙ empty_map (children_of l))) ∙ f
  full_by (kind.ImportDecl type_only) e f =
      let k = kind.ImportDecl type_only in
      let t = both (are_imports (items_at n 0)) (has_attributes_at 2 n) f in
      let a = list_by n s h u k e (λ cs. refl) are_imports 0 sort.ImportSpecifier refl (λ l has g. ap are_imports (left_of_list sort.ImportSpecifier l has) ∙ imports_left (children_of l) (items_have sort.ImportSpecifier l has) g) t.0 in
      let b = attributes n s h u k e (λ cs. refl) 2 refl t.1 in
      λ j. a j && b j
  full_by (kind.NamedExport type_only) e f =
      let k = kind.NamedExport type_only in
      let t = both (are_exports (has_child n 1) (has_child n 2) (items_at n 0)) (has_attributes_at 2 n) f in
      let source = present n s h u k e (λ cs. refl) 1 (maybe sort.Str) (maybe_usual sort.Str refl) refl in
      let with_those = present n s h u k e (λ cs. refl) 2 (maybe sort.ObjectLit) (maybe_usual sort.ObjectLit refl) refl in
      let a = list_by n s h u k e (λ cs. refl) (are_exports (has_child n 1) (has_child n 2)) 0 sort.ExportSpecifier refl (λ l has g.
      ap (are_exports (has_child n 1) (has_child n 2)) (left_of_list sort.ExportSpecifier l has) ∙ exports_left (has_child n 1) (has_child n 2) (children_of l) (items_have sort.ExportSpecifier l has) g) t.0 in
      let b = attributes n s h u k e (λ cs. refl) 2 refl t.1 in
      λ j. (ap₂ (λ x y. are_exports x y (items_at (stripped n) 0)) source with_those ∙ a) j && b j
  full_by (kind.ExportAll type_only) e f = attributes n s h u (kind.ExportAll type_only) e (λ cs. refl) 1 refl f
  full_by (kind.Ident text ctxt optional) e f = refl
  full_by _ e f = refl

abbrev lacks : Kind → Node → Bool
lacks k n = not (is_full_by k n)

not_false : (b : Bool) → not b ≡ false → b ≡ true
not_false true h = refl
not_false false h = cc

never_short : (n : Node) → (lacks kind.Absent n ≡ false) × (lacks kind.EmptyStmt n ≡ false) × (lacks kind.List n ≡ false)
unfolding is_full_by
never_short n = (refl, refl, refl)

pub counts_kept : (tree : Node) → Fits tree → NoneFails (λ w n. is_short n) (stripped tree)
counts_kept =
    test_kept lacks (λ n. (never_short n).0) (λ n. (never_short n).1) (λ n. (never_short n).2)
    (λ n s w u h none. ap not (full_by n s h u (kind_of n) refl (not_false (is_full_by (kind_of n) n) (not_short w n none))))
