-- The equations of what is judged of a node: field by field, of the node itself and of the child at an index.
use Rattle.std.proofs.Common.{◌≡◌, ◌∙◌, ℕ, zero, suc, List, [], ◌∷◌, map, get_or, Some, None, refl, sym, ap, slice_get}
use Rattle.ecma_number.specs.declared.types.Purity.{Purity}
use Rattle.ecma_tree.proofs.Layers.{from_leaves_out}
use Rattle.ecma_tree.specs.declared.node.Node.{Node, out-Node}
use Rattle.ecma_judge.specs.declared.ctx.ExprCtx.{ExprCtx}
use Rattle.ecma_judge.specs.Effects.{has_effects}
use Rattle.ecma_judge.specs.Judged.{judged, judged_by, kids_of}
use Rattle.ecma_judge.specs.Judgement.{Judged, kid, nothing, purity_of}
use Rattle.ecma_judge.specs.Numbers.{number_by}
use Rattle.ecma_judge.specs.PureCallees.{is_pure_callee}
use Rattle.ecma_judge.specs.Texts.{element_by, text_by}
use Rattle.ecma_judge.specs.Truths.{truth_by}
use Rattle.ecma_judge.specs.Types.{type_by}

-- ---- the child at an index

module _ {X : Type 0} (f : Node → X) (d : X) where
  get_or-some : (ns : List Node) (i : ℕ) (x : Node) → slice_get ns i ≡ Some x → get_or (map f ns) i d ≡ f x
  get_or-some [] i x at = cc
  get_or-some (y ∷ ys) zero x at = let same : y ≡ x = cc in ap f same
  get_or-some (y ∷ ys) (suc i) x at = get_or-some ys i x at

  get_or-none : (ns : List Node) (i : ℕ) → slice_get ns i ≡ None → get_or (map f ns) i d ≡ d
  get_or-none [] i at = refl
  get_or-none (y ∷ ys) zero at = cc
  get_or-none (y ∷ ys) (suc i) at = get_or-none ys i at

kid-some : (ctx : ExprCtx) (n : Node) (i : ℕ) (x : Node) → slice_get (out-Node n).children i ≡ Some x → kid (kids_of ctx n) i ≡ judged ctx x
kid-some ctx n = get_or-some (judged ctx) nothing (out-Node n).children

kid-none : (ctx : ExprCtx) (n : Node) (i : ℕ) → slice_get (out-Node n).children i ≡ None → kid (kids_of ctx n) i ≡ nothing
kid-none ctx n = get_or-none (judged ctx) nothing (out-Node n).children

module _ {X : Type 0} (field : Judged → X) where
  at-some : (ctx : ExprCtx) (n : Node) (i : ℕ) (x : Node) → slice_get (out-Node n).children i ≡ Some x → field (kid (kids_of ctx n) i) ≡ field (judged ctx x)
  at-some ctx n i x at = ap field (kid-some ctx n i x at)

  at-none : (ctx : ExprCtx) (n : Node) (i : ℕ) → slice_get (out-Node n).children i ≡ None → field (kid (kids_of ctx n) i) ≡ field nothing
  at-none ctx n i at = ap field (kid-none ctx n i at)

-- ---- the node itself

judged-out : (ctx : ExprCtx) (n : Node) → judged ctx n ≡ judged_by ctx n (kids_of ctx n)
unfolding judged
judged-out ctx n = from_leaves_out Judged (judged_by ctx) n

abbrev own_purity : ExprCtx → Node → Purity
own_purity ctx n = purity_of (judged ctx n).effects

-- ---- effects

pub effects-out : (ctx : ExprCtx) (n : Node) → (judged ctx n).effects ≡ has_effects ctx n (kids_of ctx n)
effects-out ctx n = ap (λ (j : Judged). j.effects) (judged-out ctx n)

pub effects-some : (ctx : ExprCtx) (n : Node) (i : ℕ) (x : Node) → slice_get (out-Node n).children i ≡ Some x → (kid (kids_of ctx n) i).effects ≡ (judged ctx x).effects
effects-some = at-some (λ j. j.effects)

pub effects-none : (ctx : ExprCtx) (n : Node) (i : ℕ) → slice_get (out-Node n).children i ≡ None → (kid (kids_of ctx n) i).effects ≡ nothing.effects
effects-none = at-none (λ j. j.effects)

pub callee-out : (ctx : ExprCtx) (n : Node) → (judged ctx n).pure_callee ≡ is_pure_callee ctx n
callee-out ctx n = ap (λ (j : Judged). j.pure_callee) (judged-out ctx n)

pub callee-some : (ctx : ExprCtx) (n : Node) (i : ℕ) (x : Node) → slice_get (out-Node n).children i ≡ Some x → (kid (kids_of ctx n) i).pure_callee ≡ (judged ctx x).pure_callee
callee-some = at-some (λ j. j.pure_callee)

pub callee-none : (ctx : ExprCtx) (n : Node) (i : ℕ) → slice_get (out-Node n).children i ≡ None → (kid (kids_of ctx n) i).pure_callee ≡ nothing.pure_callee
callee-none = at-none (λ j. j.pure_callee)

pub ruleset effects = (effects-out, effects-some, effects-none)

pub ruleset callees = (callee-out, callee-some, callee-none)

-- ---- types

pub type-out : (ctx : ExprCtx) (n : Node) → (judged ctx n).type ≡ type_by ctx (out-Node n).kind n (kids_of ctx n)
type-out ctx n = ap (λ (j : Judged). j.type) (judged-out ctx n)

pub type-some : (ctx : ExprCtx) (n : Node) (i : ℕ) (x : Node) → slice_get (out-Node n).children i ≡ Some x → (kid (kids_of ctx n) i).type ≡ (judged ctx x).type
type-some = at-some (λ j. j.type)

pub type-none : (ctx : ExprCtx) (n : Node) (i : ℕ) → slice_get (out-Node n).children i ≡ None → (kid (kids_of ctx n) i).type ≡ nothing.type
type-none = at-none (λ j. j.type)

pub ruleset types = (type-out, type-some, type-none)

-- ---- truths, numbers and texts, by the purity that a node has by its effects

own-out : (ctx : ExprCtx) (n : Node) → purity_of (has_effects ctx n (kids_of ctx n)) ≡ own_purity ctx n
own-out ctx n = ap purity_of (sym (effects-out ctx n))

pub truth-out : (ctx : ExprCtx) (n : Node) → (judged ctx n).truth ≡ truth_by ctx (own_purity ctx n) (out-Node n).kind n (kids_of ctx n)
truth-out ctx n = ap (λ (j : Judged). j.truth) (judged-out ctx n) ∙ ap (λ own. truth_by ctx own (out-Node n).kind n (kids_of ctx n)) (own-out ctx n)

pub truth-some : (ctx : ExprCtx) (n : Node) (i : ℕ) (x : Node) → slice_get (out-Node n).children i ≡ Some x → (kid (kids_of ctx n) i).truth ≡ (judged ctx x).truth
truth-some = at-some (λ j. j.truth)

pub truth-none : (ctx : ExprCtx) (n : Node) (i : ℕ) → slice_get (out-Node n).children i ≡ None → (kid (kids_of ctx n) i).truth ≡ nothing.truth
truth-none = at-none (λ j. j.truth)

pub number-out : (ctx : ExprCtx) (n : Node) → (judged ctx n).number ≡ number_by ctx (own_purity ctx n) (out-Node n).kind n (kids_of ctx n)
number-out ctx n = ap (λ (j : Judged). j.number) (judged-out ctx n) ∙ ap (λ own. number_by ctx own (out-Node n).kind n (kids_of ctx n)) (own-out ctx n)

pub number-some : (ctx : ExprCtx) (n : Node) (i : ℕ) (x : Node) → slice_get (out-Node n).children i ≡ Some x → (kid (kids_of ctx n) i).number ≡ (judged ctx x).number
number-some = at-some (λ j. j.number)

pub number-none : (ctx : ExprCtx) (n : Node) (i : ℕ) → slice_get (out-Node n).children i ≡ None → (kid (kids_of ctx n) i).number ≡ nothing.number
number-none = at-none (λ j. j.number)

pub text-out : (ctx : ExprCtx) (n : Node) → (judged ctx n).text ≡ text_by ctx (own_purity ctx n) (out-Node n).kind (kids_of ctx n)
text-out ctx n = ap (λ (j : Judged). j.text) (judged-out ctx n) ∙ ap (λ own. text_by ctx own (out-Node n).kind (kids_of ctx n)) (own-out ctx n)

pub text-some : (ctx : ExprCtx) (n : Node) (i : ℕ) (x : Node) → slice_get (out-Node n).children i ≡ Some x → (kid (kids_of ctx n) i).text ≡ (judged ctx x).text
text-some = at-some (λ j. j.text)

pub text-none : (ctx : ExprCtx) (n : Node) (i : ℕ) → slice_get (out-Node n).children i ≡ None → (kid (kids_of ctx n) i).text ≡ nothing.text
text-none = at-none (λ j. j.text)

pub element-out : (ctx : ExprCtx) (n : Node) → (judged ctx n).element ≡ element_by ctx (own_purity ctx n) (out-Node n).kind (judged ctx n).text
element-out ctx n =
    ap (λ (j : Judged). j.element) (judged-out ctx n) ∙ ap (λ own. element_by ctx own (out-Node n).kind (text_by ctx own (out-Node n).kind (kids_of ctx n))) (own-out ctx n)
    ∙ ap (element_by ctx (own_purity ctx n) (out-Node n).kind) (sym (text-out ctx n))

pub ruleset truths = (truth-out, truth-some, truth-none, number-out, number-some, number-none, text-out, text-some, text-none, element-out)
