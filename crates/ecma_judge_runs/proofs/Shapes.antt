-- Trees with shapes, and functions that do nothing among them.
use Rattle.std.proofs.Common.{◌≡◌, refl, sym, ap, ◌∙◌, subst, arith, length, replicate, suc, List, [], ◌∷◌, map, Bool, true, false, ◌&&◌, slice_get}
use Rattle.std.specs.List.{list_all}
use Rattle.std.specs.Option.{option_map_or}
use Rattle.std.proofs.lemmas.List.{length-map}
use Rattle.ecma_kind.specs.Sorts.{belongs}
use Rattle.ecma_kind.specs.declared.kind.Kind.{Kind}
use Rattle.ecma_kind.specs.declared.kind.Kind.TheVariants as kind
use Rattle.ecma_kind.specs.declared.shapes.Shape.{Shape}
use Rattle.ecma_kind.specs.declared.shapes.Sort.TheVariants as sort
use Rattle.ecma_tree.specs.Sorted.{is_list, allows, child_shapes, all_have_shapes, has_shape, has_shape_by, one, maybe, many}
use Rattle.ecma_tree.specs.declared.node.Node.{Node, fold_out-Node, out-Node}
use Rattle.ecma_judge.specs.Parts.{has_kind, is_block, is_declared_name, is_empty_block, has_no_items, passes_at}
use Rattle.ecma_judge.specs.PureCallees.{is_plain_param, are_plain_params, is_idle}
use Rattle.ecma_judge_runs.specs.Idle.{is_named_by, is_plain_by, is_plain, are_plain_by, are_plain, has_none_by, is_empty_by, is_empty, is_harmless_by, is_harmless}
use Rattle.ecma_judge_runs.proofs.Both.{both_true, two_true}
use Rattle.ecma_judge_runs.proofs.Passing.{passes_first, passes_second}

-- ---- shapes

has_shape-out : (n : Node) (s : Shape) → has_shape n s ≡ (allows s (out-Node n).kind && all_have_shapes (child_shapes (out-Node n).kind s (length (out-Node n).children)) (map has_shape (out-Node n).children))
has_shape-out n s =
    ap (λ f. f s) (fold_out-Node (Shape → Bool) has_shape_by n)
    ∙ ap (λ k. allows s (out-Node n).kind && all_have_shapes (child_shapes (out-Node n).kind s k) (map has_shape (out-Node n).children)) (length-map (out-Node n).children has_shape)

-- the children have their shapes
abbrev pub Below : Kind → Shape → List Node → Type 0
Below k s cs = all_have_shapes (child_shapes k s (length cs)) (map has_shape cs) ≡ true

pub shaped : (n : Node) (s : Shape) → has_shape n s ≡ true → (allows s (out-Node n).kind ≡ true) × Below (out-Node n).kind s (out-Node n).children
shaped n s h =
    both_true (allows s (out-Node n).kind) (all_have_shapes (child_shapes (out-Node n).kind s (length (out-Node n).children)) (map has_shape (out-Node n).children)) (sym (has_shape-out n s) ∙ h)

pub same_count : (shapes : List Shape) (cs : List Node) → all_have_shapes shapes (map has_shape cs) ≡ true → length cs ≡ length shapes
same_count [] [] h = refl
same_count [] (c ∷ cs) h = absurd (cc)
same_count (s ∷ shapes) [] h = absurd (cc)
same_count (s ∷ shapes) (c ∷ cs) h = ap suc (same_count shapes cs (both_true (has_shape c s) (all_have_shapes shapes (map has_shape cs)) h).1)

pub untrue : false ≡ true → ⊥
untrue h = cc

pub unfalse : true ≡ false → ⊥
unfalse h = cc

pub never : (b : Bool) → (b && false) ≡ true → ⊥
never true h = cc
never false h = cc

-- ---- children that pass

gives_second : (test : Node → Bool) (n a b : Node) (cs : List Node) → (out-Node n).children ≡ a ∷ b ∷ cs → test b ≡ true → passes_at test 1 n ≡ true
gives_second test n a b cs is h = subst (λ (z : List Node). option_map_or test (slice_get z 1) false ≡ true) (sym is) h

pub fails_first : (test : Node → Bool) (n a : Node) (cs : List Node) → (out-Node n).children ≡ a ∷ cs → passes_at test 0 n ≡ false → test a ≡ false
fails_first test n a cs is h = subst (λ (z : List Node). option_map_or test (slice_get z 0) false ≡ false) is h

pub fails_second : (test : Node → Bool) (n a b : Node) (cs : List Node) → (out-Node n).children ≡ a ∷ b ∷ cs → passes_at test 1 n ≡ false → test b ≡ false
fails_second test n a b cs is h = subst (λ (z : List Node). option_map_or test (slice_get z 1) false ≡ false) is h

-- ---- functions that do nothing

named_by_kind : (k : Kind) (cs : List Node) → is_declared_name k ≡ true → Below k (one sort.Pat) cs → is_named_by k cs ≡ true
named_by_kind kind.BindingIdent (id ∷ annotation ∷ []) is below = refl
named_by_kind kind.BindingIdent cs is below = absurd (omega (arith, same_count (child_shapes kind.BindingIdent (one sort.Pat) (length cs)) cs below))
named_by_kind k cs is below = absurd (untrue is)

plain_by_kind : (n : Node) (k : Kind) (cs : List Node) → (out-Node n).children ≡ cs → belongs sort.Param k ≡ true → Below k (one sort.Param) cs → is_plain_param n ≡ true → is_plain_by k cs ≡ true
plain_by_kind n kind.Param (p ∷ []) shape is below plain =
    named_by_kind (out-Node p).kind (out-Node p).children (passes_first (has_kind is_declared_name) n p [] shape plain)
    (shaped p (one sort.Pat) (both_true (has_shape p (one sort.Pat)) true below).0).1
plain_by_kind n kind.Param cs shape is below plain = absurd (omega (arith, same_count (child_shapes kind.Param (one sort.Param) (length cs)) cs below))
plain_by_kind n k cs shape is below plain = absurd (untrue is)

plain_params : (cs : List Node) → all_have_shapes (replicate (length cs) (one sort.Param)) (map has_shape cs) ≡ true → list_all is_plain_param cs ≡ true → list_all is_plain cs ≡ true
plain_params [] below plain = refl
plain_params (c ∷ cs) below plain =
    let b = both_true (has_shape c (one sort.Param)) (all_have_shapes (replicate (length cs) (one sort.Param)) (map has_shape cs)) below in
    let p = both_true (is_plain_param c) (list_all is_plain_param cs) plain in
    let h = shaped c (one sort.Param) b.0 in
    two_true (is_plain c) (list_all is_plain cs) (plain_by_kind c (out-Node c).kind (out-Node c).children refl h.0 h.1 p.0) (plain_params cs b.1 p.1)

params_by_kind : (k : Kind) (cs : List Node) → is_list k ≡ true → Below k (many sort.Param) cs → list_all is_plain_param cs ≡ true → are_plain_by k cs ≡ true
params_by_kind kind.List cs is below plain = plain_params cs below plain
params_by_kind k cs is below plain = absurd (untrue is)

none_by_kind : (k : Kind) (cs : List Node) → is_list k ≡ true → length cs ≡ 0 → has_none_by k cs ≡ true
none_by_kind kind.List [] is none = refl
none_by_kind kind.List (c ∷ cs) is none = absurd (omega (arith, none))
none_by_kind k cs is none = absurd (untrue is)

abbrev is_none : List Node → Bool
is_none [] = true
is_none (n ∷ ns) = false

none_length : (cs : List Node) → is_none cs ≡ true → length cs ≡ 0
none_length [] h = refl
none_length (c ∷ cs) h = absurd (cc)

empty_by_kind : (n : Node) (k : Kind) (cs : List Node) → (out-Node n).children ≡ cs → Below k (maybe sort.BlockStmt) cs → (is_block k && passes_at has_no_items 0 n) ≡ true → is_empty_by k cs ≡ true
empty_by_kind n kind.BlockStmt (s ∷ []) shape below h =
    let t = shaped s (many sort.Stmt) (both_true (has_shape s (many sort.Stmt)) true below).0 in
    none_by_kind (out-Node s).kind (out-Node s).children t.0 (none_length (out-Node s).children (passes_first has_no_items n s [] shape h))
empty_by_kind n kind.BlockStmt cs shape below h = absurd (omega (arith, same_count (child_shapes kind.BlockStmt (maybe sort.BlockStmt) (length cs)) cs below))
empty_by_kind n k cs shape below h = absurd (untrue h)

harmless_by_kind : (n : Node) (k : Kind) (cs : List Node) → (out-Node n).children ≡ cs → belongs sort.Function k ≡ true → Below k (one sort.Function) cs → is_idle n ≡ true → is_harmless_by k cs ≡ true
harmless_by_kind n (kind.Function false false) (parameters ∷ body ∷ types ∷ return_type ∷ []) shape is below idle =
    let i = both_true (passes_at are_plain_params 0 n) (passes_at is_empty_block 1 n) idle in
    let b = both_true (has_shape parameters (many sort.Param)) _ below in
    let c = both_true (has_shape body (maybe sort.BlockStmt)) _ b.1 in
    let p = shaped parameters (many sort.Param) b.0 in
    let e = shaped body (maybe sort.BlockStmt) c.0 in
    two_true (are_plain parameters) (is_empty body)
    (params_by_kind (out-Node parameters).kind (out-Node parameters).children p.0 p.1 (passes_first are_plain_params n parameters (body ∷ types ∷ return_type ∷ []) shape i.0))
    (empty_by_kind body (out-Node body).kind (out-Node body).children refl e.1 (passes_second is_empty_block n parameters body (types ∷ return_type ∷ []) shape i.1))
harmless_by_kind n (kind.Function false false) cs shape is below idle =
    absurd (omega (arith, same_count (child_shapes (kind.Function false false) (one sort.Function) (length cs)) cs below))
harmless_by_kind n (kind.Function is_generator is_async) cs shape is below idle = refl
harmless_by_kind n k cs shape is below idle = absurd (untrue is)

harmless : (n : Node) → has_shape n (one sort.Function) ≡ true → is_idle n ≡ true → is_harmless n ≡ true
harmless n h idle = let t = shaped n (one sort.Function) h in harmless_by_kind n (out-Node n).kind (out-Node n).children refl t.0 t.1 idle

pub function_by_kind : (n : Node) (cs : List Node) → (out-Node n).children ≡ cs → (s : Shape) → Below kind.FnExpr s cs → passes_at is_idle 1 n ≡ true → passes_at is_harmless 1 n ≡ true
function_by_kind n (name ∷ function ∷ []) shape s below idle =
    let b = both_true (has_shape name (maybe sort.Ident)) _ below in
    gives_second is_harmless n name function [] shape (harmless function (both_true (has_shape function (one sort.Function)) true b.1).0 (passes_second is_idle n name function [] shape idle))
function_by_kind n cs shape s below idle = absurd (omega (arith, same_count (child_shapes kind.FnExpr s (length cs)) cs below))
