-- The stand-in at an index.
use Rattle.std.proofs.Common.{◌≡◌, ◌∙◌, ◌-◌, ℕ, zero, suc, Bool, List, [], ◌∷◌, length, take, Some, refl, ap, slice_get, arith, if◌then◌else◌}
use Rattle.ecma_tree.specs.declared.node.Node.{Node, out-Node}
use Rattle.ecma_function_parts.specs.Drawing.{count}
use Rattle.ecma_function_wrappers.proofs.Counted.{patterns-cons, patterns_in}
use Rattle.ecma_function_wrappers.specs.Counting.{has_parts, placeholder, stand_in, stand_ins, that_count}
use Rattle.ecma_function_wrappers.specs.Laws.{EachParameterThatCountsHasAStandIn, HaveStandIns}

as-many : (ps : List Node) (left : ℕ) → length (stand_ins ps left) ≡ length ps
as-many [] left = refl
as-many (p ∷ ps) left = ap suc (as-many ps (left - count (has_parts p)))

-- the context is that of the mark behind those for the patterns before it
stand-in-at : (ps : List Node) (left i : ℕ) (p : Node) → slice_get ps i ≡ Some p → slice_get (stand_ins ps left) i ≡ Some (stand_in p (left - patterns_in (take i ps)))
stand-in-at [] left zero p at = cc
stand-in-at [] left (suc i) p at = cc
stand-in-at (q ∷ qs) left zero p at =
    let same : q ≡ p = cc in
    let none : left ≡ left - 0 = omega arith in
    ap (λ (z : Node). Some (stand_in z left)) same ∙ ap (λ (l : ℕ). Some (stand_in p l)) none
stand-in-at (q ∷ qs) left (suc i) p at =
    let parts = patterns-cons q (take i qs) in
    let left-is : (left - count (has_parts q)) - patterns_in (take i qs) ≡ left - patterns_in (take (suc i) (q ∷ qs)) = omega (arith, parts) in
    stand-in-at qs (left - count (has_parts q)) i p at ∙ ap (λ (l : ℕ). Some (stand_in p l)) left-is

abbrev stands_as : Node → ℕ → Bool → Node
stands_as p ctxt b = if b then placeholder (out-Node p).span ctxt else p

have-stand-ins : (ps : List Node) (left : ℕ) → HaveStandIns ps left (stand_ins ps left)
have-stand-ins ps left = record {
  as_many = as-many ps left;
  names = λ i p at plain. stand-in-at ps left i p at ∙ ap (λ (b : Bool). Some (stands_as p (left - patterns_in (take i ps)) b)) plain;
  patterns = λ i p at parts. stand-in-at ps left i p at ∙ ap (λ (b : Bool). Some (stands_as p (left - patterns_in (take i ps)) b)) parts;
}

pub each-has-one : EachParameterThatCountsHasAStandIn
each-has-one params left = have-stand-ins (that_count params) left
