-- What the rules ask of the children of a node stays where nothing is assigned to.
use Rattle.std.proofs.Common.{◌≡◌, ◌∙◌, ◌&&◌, ◌||◌, ℕ, zero, suc, Bool, true, not, codes, List, [], ◌∷◌, map, length, replicate, refl, sym, ap, ap₂, subst, slice_get}
use Rattle.std.specs.List.{list_any}
use Rattle.ecma_kind.specs.Sorts.{belongs}
use Rattle.ecma_kind.specs.declared.kind.Kind.{Kind}
use Rattle.ecma_kind.specs.declared.kind.Kind.TheVariants as kind
use Rattle.ecma_kind.specs.declared.operators.MethodKind.{MethodKind}
use Rattle.ecma_kind.specs.declared.operators.MethodKind.TheVariants.{Method, Getter, Setter}
use Rattle.ecma_kind.specs.declared.shapes.Shape.{Shape}
use Rattle.ecma_kind.specs.declared.shapes.Sort.{Sort}
use Rattle.ecma_kind.specs.declared.shapes.Sort.TheVariants as sort
use Rattle.ecma_tree.specs.declared.node.Node.{Node, Node-F, out-Node, roll-Node}
use Rattle.ecma_tree.specs.declared.node.Node.TheViews.{out-roll-Node, roll-out-Node}
use Rattle.ecma_tree.specs.Laws.{HaveShapes}
use Rattle.ecma_tree.specs.Sorted.{HasShape, allows, child_shapes, is_list, many, one}
use Rattle.ecma_tree.proofs.ShapeLaws.{node_has_shape}
use Rattle.ecma_rules.specs.declared.target.Target.{Target}
use Rattle.ecma_rules.specs.declared.target.Target.TheVariants as target
use Rattle.ecma_rules.specs.Children.{child_is, children_of as items_of, has_child, holds_of, is_named, is_present, items_at, kind_of, of_kind}
use Rattle.ecma_rules.specs.Finishing.{each_in, finished_at}
use Rattle.ecma_rules.specs.Lists.{is_one_without_value, is_rest_pattern}
use Rattle.ecma_rules.specs.Members.{behind_first, fits_kind, is_binding_name, is_empty_list, is_named_pattern, is_one_parameter, is_plain_parameter, is_this_by, is_this_parameter, is_this_pattern, takes_one}
use Rattle.ecma_rules.specs.Targets.{target_in}
use Rattle.ecma_raw_roles.proofs.Walks.{free_kind, not_true}
use Rattle.ecma_text_fits_finished.proofs.Standing.{finished_parts, presence}

abbrev children_of : Node → List Node
children_of n = (out-Node n).children

pub shape_parts : (n : Node) (o : Shape) → HasShape o n → (allows o (kind_of n) ≡ true) × HaveShapes (child_shapes (kind_of n) o (length (children_of n))) (children_of n)
shape_parts n o h = let x = out-Node n in (node_has_shape x.span x.kind x.children o).0 (subst (HasShape o) (sym (roll-out-Node n)) h)

-- where nothing is assigned to, children are what is made of them as the kind asks
pub free_children : (n : Node) → children_of (finished_at n target.Free) ≡ each_in (target_in target.Free (kind_of n)) (map finished_at (children_of n))
free_children n = subst (λ (m : Node). children_of (finished_at m target.Free) ≡ each_in (target_in target.Free (kind_of m)) (map finished_at (children_of m))) (roll-out-Node n) (of_parts (out-Node n))
  where
    of_parts : (x : Node-F Node) → children_of (finished_at (roll-Node x) target.Free) ≡ each_in (target_in target.Free (kind_of (roll-Node x))) (map finished_at (children_of (roll-Node x)))
    of_parts x =
        let now : Node-F Node = record { span = x.span; kind = x.kind; children = each_in (target_in target.Free x.kind) (map finished_at x.children) } in
        ap children_of (finished_parts x target.Free) ∙ ap (λ (p : Node-F Node). p.children) (out-roll-Node now)
        ∙ sym (ap (λ (p : Node-F Node). each_in (target_in target.Free p.kind) (map finished_at p.children)) (out-roll-Node x))

pub free_has_child : (n : Node) (i : ℕ) → has_child (finished_at n target.Free) i ≡ has_child n i
free_has_child n i = ap (λ (z : List Node). of_kind is_present (slice_get z i)) (free_children n) ∙ presence (target_in target.Free (kind_of n)) (children_of n) i

-- a test of kinds, of a child where nothing is assigned to
pub kind_at : (is : Kind → Bool) (target_of : ℕ → Target) (ns : List Node) (i : ℕ) → target_of i ≡ target.Free → of_kind is (slice_get (each_in target_of (map finished_at ns)) i) ≡ of_kind is (slice_get ns i)
kind_at is target_of [] i free = refl
kind_at is target_of (n ∷ ns) zero free = ap (λ t. is (kind_of (finished_at n t))) free ∙ ap is (free_kind n)
kind_at is target_of (n ∷ ns) (suc i) free = kind_at is (λ i. target_of (suc i)) ns i free

-- a test of nodes that stays so
pub test_at : (test : Node → Bool) → ((n : Node) → test (finished_at n target.Free) ≡ test n) → (target_of : ℕ → Target) (ns : List Node) (i : ℕ) → target_of i ≡ target.Free
    → holds_of test (slice_get (each_in target_of (map finished_at ns)) i) ≡ holds_of test (slice_get ns i)
test_at test stays target_of [] i free = refl
test_at test stays target_of (n ∷ ns) zero free = ap (λ t. test (finished_at n t)) free ∙ stays n
test_at test stays target_of (n ∷ ns) (suc i) free = test_at test stays (λ i. target_of (suc i)) ns i free

-- the same, of the children of a node that is not assigned to
child_kind_at : (is : Kind → Bool) (n : Node) (i : ℕ) → target_in target.Free (kind_of n) i ≡ target.Free → child_is is (finished_at n target.Free) i ≡ child_is is n i
child_kind_at is n i free = ap (λ (z : List Node). of_kind is (slice_get z i)) (free_children n) ∙ kind_at is (target_in target.Free (kind_of n)) (children_of n) i free

list_only : (k : Kind) → is_list k ≡ true → k ≡ kind.List
list_only kind.List h = refl
list_only _ h = not_true h

-- a declarator without a value

pub free_list : (k : Kind) (i : ℕ) → is_list k ≡ true → target_in target.Free k i ≡ target.Free
unfolding target_in
free_list kind.List i h = refl
free_list _ i h = not_true h

one_declarator : (target_of : ℕ → Target) (ds : List Node) → target_of 0 ≡ target.Free → is_one_without_value (each_in target_of (map finished_at ds)) ≡ is_one_without_value ds
one_declarator target_of [] free = refl
one_declarator target_of (d ∷ []) free = ap (λ t. not (has_child (finished_at d t) 1)) free ∙ ap not (free_has_child d 1)
one_declarator target_of (d ∷ e ∷ ds) free = refl

pub list_kind : (n : Node) (o : Shape) → HasShape o (finished_at n target.Free) → ((k : Kind) → allows o k ≡ true → is_list k ≡ true) → is_list (kind_of n) ≡ true
list_kind n o h lists = subst (λ k. is_list k ≡ true) (free_kind n) (lists (kind_of (finished_at n target.Free)) (shape_parts (finished_at n target.Free) o h).0)

pub without_value : (n : Node) → HasShape (many sort.VarDeclarator) (finished_at n target.Free) → is_one_without_value (children_of (finished_at n target.Free)) ≡ is_one_without_value (children_of n)
without_value n h =
    ap is_one_without_value (free_children n)
    ∙ one_declarator (target_in target.Free (kind_of n)) (children_of n) (free_list (kind_of n) 0 (list_kind n (many sort.VarDeclarator) h (λ k e. e)))

-- a plain parameter

pub plain_parameter : (n : Node) → is_plain_parameter (finished_at n target.Free) ≡ is_plain_parameter n
unfolding target_in
plain_parameter n = ap (λ k. is_named_pattern k (finished_at n target.Free)) (free_kind n) ∙ by_kind (kind_of n) refl
  where
    by_kind : (k : Kind) → kind_of n ≡ k → is_named_pattern k (finished_at n target.Free) ≡ is_named_pattern k n
    by_kind kind.BindingIdent e = refl
    by_kind kind.AssignPat e = child_kind_at is_binding_name n 0 (ap (λ k. target_in target.Free k 0) e)
    by_kind _ e = refl

-- the parameters of accessors

pub this_pattern : (n : Node) → is_this_pattern (finished_at n target.Free) ≡ is_this_pattern n
unfolding target_in
this_pattern n = ap (λ k. is_this_by k (finished_at n target.Free)) (free_kind n) ∙ by_kind (kind_of n) refl
  where
    by_kind : (k : Kind) → kind_of n ≡ k → is_this_by k (finished_at n target.Free) ≡ is_this_by k n
    by_kind kind.BindingIdent e = child_kind_at (is_named (codes "this")) n 0 (ap (λ k. target_in target.Free k 0) e)
    by_kind _ e = refl

-- a sort whose nodes ask nothing of their first child
abbrev FirstIsFree : Sort → Type 0
FirstIsFree σ = (k : Kind) → belongs σ k ≡ true → target_in target.Free k 0 ≡ target.Free

param_free : FirstIsFree sort.Param
unfolding target_in
param_free kind.Param h = refl
param_free _ h = not_true h

constructor_param_free : FirstIsFree sort.ParamOrTsParamProp
unfolding target_in
constructor_param_free kind.Param h = refl
constructor_param_free (kind.TsParamProp accessibility is_override readonly) h = refl
constructor_param_free _ h = not_true h

this_of : (σ : Sort) → FirstIsFree σ → (n : Node) → HasShape (one σ) (finished_at n target.Free) → is_this_parameter (finished_at n target.Free) ≡ is_this_parameter n
this_of σ free n h =
    let is_of = subst (λ k. belongs σ k ≡ true) (free_kind n) (shape_parts (finished_at n target.Free) (one σ) h).0 in
    ap (λ (z : List Node). holds_of is_this_pattern (slice_get z 0)) (free_children n)
    ∙ test_at is_this_pattern this_pattern (target_in target.Free (kind_of n)) (children_of n) 0 (free (kind_of n) is_of)

this_parameter : (n : Node) → HasShape (one sort.Param) (finished_at n target.Free) → is_this_parameter (finished_at n target.Free) ≡ is_this_parameter n
this_parameter = this_of sort.Param param_free

takes_one_stays : (n : Node) → HasShape (one sort.Param) (finished_at n target.Free) → takes_one (finished_at n target.Free) ≡ takes_one n
takes_one_stays n h =
    let is_of = subst (λ k. belongs sort.Param k ≡ true) (free_kind n) (shape_parts (finished_at n target.Free) (one sort.Param) h).0 in
    ap₂ (λ a b. not a && not b) (this_parameter n h) (child_kind_at is_rest_pattern n 0 (param_free (kind_of n) is_of))

empty_stays : (target_of : ℕ → Target) (ns : List Node) → is_empty_list (each_in target_of (map finished_at ns)) ≡ is_empty_list ns
empty_stays target_of [] = refl
empty_stays target_of (n ∷ ns) = refl

one_parameter : (ns : List Node) (m : ℕ) → HaveShapes (replicate m (one sort.Param)) (each_in (λ i. target.Free) (map finished_at ns)) → is_one_parameter (each_in (λ i. target.Free) (map finished_at ns)) ≡ is_one_parameter ns
one_parameter [] m h = refl
one_parameter (n ∷ []) zero h = absurd h
one_parameter (n ∷ []) (suc m) h = takes_one_stays n h.0
one_parameter (n ∷ l ∷ []) zero h = absurd h
one_parameter (n ∷ l ∷ []) (suc zero) h = absurd h.1
one_parameter (n ∷ l ∷ []) (suc (suc m)) h = ap₂ (λ a b. a && b) (this_parameter n h.0) (takes_one_stays l h.1.0)
one_parameter (n ∷ l ∷ k ∷ ns) m h = refl

-- of a list
module _ (σ : Sort) (p : Node) (h : HasShape (many σ) (finished_at p target.Free)) where
  abbrev p' : Node
  p' = finished_at p target.Free

  is_list_there : is_list (kind_of p) ≡ true
  is_list_there = list_kind p (many σ) h (λ k e. e)

  free_items : children_of p' ≡ each_in (λ i. target.Free) (map finished_at (children_of p))
  unfolding target_in
  free_items = free_children p ∙ ap (λ k. each_in (target_in target.Free k) (map finished_at (children_of p))) (list_only (kind_of p) is_list_there)

  items_have : HaveShapes (replicate (length (children_of p')) (one σ)) (children_of p')
  items_have =
      let t = shape_parts p' (many σ) h in
      subst (λ k. HaveShapes (child_shapes k (many σ) (length (children_of p'))) (children_of p')) (list_only (kind_of p') t.0) t.1

  free_have : HaveShapes (replicate (length (children_of p')) (one σ)) (each_in (λ i. target.Free) (map finished_at (children_of p)))
  free_have = subst (HaveShapes (replicate (length (children_of p')) (one σ))) free_items items_have

one_stays : (p : Node) → HasShape (many sort.Param) (finished_at p target.Free) → is_one_parameter (children_of (finished_at p target.Free)) ≡ is_one_parameter (children_of p)
one_stays p h =
    ap is_one_parameter (free_items sort.Param p h) ∙ one_parameter (children_of p) (length (children_of (finished_at p target.Free))) (free_have sort.Param p h)

none_stays : (p : Node) → HasShape (many sort.Param) (finished_at p target.Free) → is_empty_list (children_of (finished_at p target.Free)) ≡ is_empty_list (children_of p)
none_stays p h = ap is_empty_list (free_items sort.Param p h) ∙ empty_stays (λ i. target.Free) (children_of p)

any_parameter : (σ : Sort) → FirstIsFree σ → (ns : List Node) (m : ℕ) → HaveShapes (replicate m (one σ)) (each_in (λ i. target.Free) (map finished_at ns))
    → list_any is_this_parameter (each_in (λ i. target.Free) (map finished_at ns)) ≡ list_any is_this_parameter ns
any_parameter σ free [] m h = refl
any_parameter σ free (n ∷ ns) zero h = absurd h
any_parameter σ free (n ∷ ns) (suc m) h = ap₂ (λ a b. a || b) (this_of σ free n h.0) (any_parameter σ free ns m h.1)

any_further : (ns : List Node) (m : ℕ) → HaveShapes (replicate m (one sort.Param)) (each_in (λ i. target.Free) (map finished_at ns))
    → list_any is_this_parameter (behind_first (each_in (λ i. target.Free) (map finished_at ns))) ≡ list_any is_this_parameter (behind_first ns)
any_further [] m h = refl
any_further (n ∷ ns) zero h = absurd h
any_further (n ∷ ns) (suc m) h = any_parameter sort.Param param_free ns m h.1

any_pattern : (ns : List Node) → list_any is_this_pattern (each_in (λ i. target.Free) (map finished_at ns)) ≡ list_any is_this_pattern ns
any_pattern [] = refl
any_pattern (n ∷ ns) = ap₂ (λ a b. a || b) (this_pattern n) (any_pattern ns)

-- whether a parameter is `this` stays, behind the first of a function, in a constructor and in an arrow function
pub further_stay : (p : Node) → HasShape (many sort.Param) (finished_at p target.Free)
    → list_any is_this_parameter (behind_first (children_of (finished_at p target.Free))) ≡ list_any is_this_parameter (behind_first (children_of p))
further_stay p h =
    ap (λ (z : List Node). list_any is_this_parameter (behind_first z)) (free_items sort.Param p h) ∙ any_further (children_of p) (length (children_of (finished_at p target.Free))) (free_have sort.Param p h)

pub all_stay : (p : Node) → HasShape (many sort.ParamOrTsParamProp) (finished_at p target.Free) → list_any is_this_parameter (children_of (finished_at p target.Free)) ≡ list_any is_this_parameter (children_of p)
all_stay p h =
    ap (list_any is_this_parameter) (free_items sort.ParamOrTsParamProp p h)
    ∙ any_parameter sort.ParamOrTsParamProp constructor_param_free (children_of p) (length (children_of (finished_at p target.Free))) (free_have sort.ParamOrTsParamProp p h)

pub patterns_stay : (p : Node) → HasShape (many sort.Pat) (finished_at p target.Free) → list_any is_this_pattern (children_of (finished_at p target.Free)) ≡ list_any is_this_pattern (children_of p)
patterns_stay p h = ap (list_any is_this_pattern) (free_items sort.Pat p h) ∙ any_pattern (children_of p)

function_only : (k : Kind) (o : Shape) (n : ℕ) (cs : List Node) → belongs sort.Function k ≡ true → HaveShapes (child_shapes k o n) cs → (p : Node) × (ps : List Node) × (cs ≡ p ∷ ps) × HasShape (many sort.Param) p
function_only (kind.Function is_generator is_async) o n [] b h = absurd h
function_only (kind.Function is_generator is_async) o n (p ∷ ps) b h = (p, ps, refl, h.0)
function_only _ o n cs b h = not_true b

function_free : (k : Kind) → belongs sort.Function k ≡ true → target_in target.Free k 0 ≡ target.Free
unfolding target_in
function_free (kind.Function is_generator is_async) b = refl
function_free _ b = not_true b

first_stays : (test : List Node → Bool) (target_of : ℕ → Target) (cs : List Node) (p : Node) (ps : List Node) → target_of 0 ≡ target.Free → each_in target_of (map finished_at cs) ≡ p ∷ ps → HasShape (many sort.Param) p
    → ((n : Node) → HasShape (many sort.Param) (finished_at n target.Free) → test (children_of (finished_at n target.Free)) ≡ test (children_of n))
    → (c : Node) × (ds : List Node) × (cs ≡ c ∷ ds) × (test (children_of p) ≡ test (children_of c))
first_stays test target_of [] p ps free e h stays = cc
first_stays test target_of (c ∷ ds) p ps free e h stays =
    let is : finished_at c (target_of 0) ≡ p = cc in
    let now : finished_at c target.Free ≡ p = sym (ap (finished_at c) free) ∙ is in
    (c, ds, refl, sym (ap (λ m. test (children_of m)) now) ∙ stays c (subst (HasShape (many sort.Param)) (sym now) h))

abbrev of_first : List Node → List Node
of_first z = items_of (slice_get z 0)

parameters_stay : (test : List Node → Bool) → ((n : Node) → HasShape (many sort.Param) (finished_at n target.Free) → test (children_of (finished_at n target.Free)) ≡ test (children_of n))
    → (f : Node) → HasShape (one sort.Function) (finished_at f target.Free) → test (items_at (finished_at f target.Free) 0) ≡ test (items_at f 0)
parameters_stay test stays f h =
    let f' = finished_at f target.Free in
    let t = shape_parts f' (one sort.Function) h in
    let is_function = subst (λ k. belongs sort.Function k ≡ true) (free_kind f) t.0 in
    let s = function_only (kind_of f') (one sort.Function) (length (children_of f')) (children_of f') t.0 t.1 in
    let e : children_of f' ≡ s.0 ∷ s.1 = s.2 in
    let r = first_stays test (target_in target.Free (kind_of f)) (children_of f) s.0 s.1 (function_free (kind_of f) is_function) (sym (free_children f) ∙ e) s.3 stays in
    let d : children_of f ≡ r.0 ∷ r.1 = r.2 in
    ap (λ (z : List Node). test (of_first z)) e ∙ r.3 ∙ sym (ap (λ (z : List Node). test (of_first z)) d)

pub kind_fits : (k : MethodKind) (f : Node) → HasShape (one sort.Function) (finished_at f target.Free) → fits_kind k (finished_at f target.Free) ≡ fits_kind k f
kind_fits Method f h = refl
kind_fits Getter f h = parameters_stay is_empty_list none_stays f h
kind_fits Setter f h = parameters_stay is_one_parameter one_stays f h
