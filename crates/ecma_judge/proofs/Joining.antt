-- The equations of texts that are joined: those so far, and what the others add.
use Rattle.std.proofs.Common.{◌≡◌, ◌∙◌, ℕ, ◌+◌, List, [], ◌∷◌, ◌++◌, map, drop, length, Some, refl, sym, ap, append_assoc, slice_get, arith}
use Rattle.std.proofs.lemmas.List.{append-nil, drop_all}
use Rattle.ecma_number.specs.declared.value.Value.TheVariants.{Known, Unknown}
use Rattle.ecma_tree.proofs.Items.{drop-item}
use Rattle.ecma_tree.specs.declared.node.Node.{Node, out-Node}
use Rattle.ecma_judge.specs.declared.ctx.ExprCtx.{ExprCtx}
use Rattle.ecma_judge.specs.Judged.{judged, kids_of}
use Rattle.ecma_judge.specs.Texts.{Text, followed_by, joined, joined_behind}

-- what is joined so far, and the elements from the one at i on, the first of them behind `front`
abbrev pub rest_joined : ExprCtx → Node → List ℕ → List ℕ → ℕ → Text
rest_joined ctx n done front i = followed_by (Known done) (joined_behind front (map (judged ctx) (drop i (out-Node n).children)))

followed-nothing : (t : Text) → followed_by (Known []) t ≡ t
followed-nothing (Known t) = refl
followed-nothing Unknown = refl

followed-twice : (a b : List ℕ) (t : Text) → followed_by (Known a) (followed_by (Known b) t) ≡ followed_by (Known (a ++ b)) t
followed-twice a b (Known t) = ap Known (sym (append_assoc a b t))
followed-twice a b Unknown = refl

pub joined-first : (ctx : ExprCtx) (n : Node) → rest_joined ctx n [] [] 0 ≡ joined (kids_of ctx n)
joined-first ctx n = followed-nothing (joined (kids_of ctx n))

rest-item : (ctx : ExprCtx) (n : Node) (done front : List ℕ) (i : ℕ) (x : Node) → slice_get (out-Node n).children i ≡ Some x
    → rest_joined ctx n done front i ≡ followed_by (Known done) (followed_by (followed_by (Known front) (judged ctx x).element) (joined_behind (44 ∷ []) (map (judged ctx) (drop (i + 1) (out-Node n).children))))
rest-item ctx n done front i x at = ap (λ (ns : List Node). followed_by (Known done) (joined_behind front (map (judged ctx) ns))) (drop-item (out-Node n).children i x at)

-- the element at i is a text
pub joined-next : (ctx : ExprCtx) (n : Node) (done front text : List ℕ) (i : ℕ) (x : Node) → slice_get (out-Node n).children i ≡ Some x → Known text ≡ (judged ctx x).element
    → rest_joined ctx n done front i ≡ rest_joined ctx n ((done ++ front) ++ text) (44 ∷ []) (i + 1)
joined-next ctx n done front text i x at is =
    let rest : Text = joined_behind (44 ∷ []) (map (judged ctx) (drop (i + 1) (out-Node n).children)) in
    rest-item ctx n done front i x at
    ∙ ap (λ (t : Text). followed_by (Known done) (followed_by (followed_by (Known front) t) rest)) (sym is)
    ∙ followed-twice done (front ++ text) rest
    ∙ ap (λ (z : List ℕ). followed_by (Known z) rest) (sym (append_assoc done front text))

-- the element at i is not known
pub joined-unknown : (ctx : ExprCtx) (n : Node) (done front : List ℕ) (i : ℕ) (x : Node) → slice_get (out-Node n).children i ≡ Some x → Unknown ≡ (judged ctx x).element
    → rest_joined ctx n done front i ≡ Unknown
joined-unknown ctx n done front i x at is =
    rest-item ctx n done front i x at
    ∙ ap (λ (t : Text). followed_by (Known done) (followed_by (followed_by (Known front) t) (joined_behind (44 ∷ []) (map (judged ctx) (drop (i + 1) (out-Node n).children))))) (sym is)

-- there are no more
pub joined-all : (ctx : ExprCtx) (n : Node) (done front : List ℕ) (i : ℕ) → length (out-Node n).children ≡ i → rest_joined ctx n done front i ≡ Known done
joined-all ctx n done front i all =
    ap (λ (ns : List Node). followed_by (Known done) (joined_behind front (map (judged ctx) ns))) (drop-length (out-Node n).children i all) ∙ ap Known (append-nil done)
  where
    drop-length : (ns : List Node) (k : ℕ) → length ns ≡ k → drop k ns ≡ []
    drop-length ns k e = drop_all k ns (omega (arith, e))

pub ruleset joining = (joined-first, joined-next, joined-unknown, joined-all)
