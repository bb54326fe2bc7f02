-- Walks over a tree that tell nothing.
use Rattle.std.proofs.Common.{◌≡◌, ℕ, suc, Bool, true, false, ◌||◌, List, [], ◌∷◌, Option, Some, None, refl, ap, ap₂}
use Rattle.ecma_tree.specs.declared.node.Node.{Node}
use Rattle.ecma_rules.specs.Failing.{failing_here, least, least_from}

pub neither : (a b : Bool) → (a || b) ≡ false → (a ≡ false) × (b ≡ false)
neither true b h = cc
neither false b h = (refl, h)

pub neither_least : (a b : Option ℕ) → least a b ≡ None → (a ≡ None) × (b ≡ None)
neither_least None b h = (refl, h)
neither_least (Some i) None h = cc
neither_least (Some i) (Some j) h = cc

pub both_none : (a b : Option ℕ) → a ≡ None → b ≡ None → least a b ≡ None
both_none a b h g = ap₂ least h g

pub not_failing : (b : Bool) (n : Node) → failing_here b n ≡ None → b ≡ false
not_failing true n h = cc
not_failing false n h = refl

-- in children that are counted from one on
pub shifted : (A : Type 0) (around : ℕ → A) (k : ℕ) (cs : List (A → Option ℕ)) → least_from A around (suc k) cs ≡ least_from A (λ i. around (suc i)) k cs
shifted A around k [] = refl
shifted A around k (c ∷ cs) = ap (least (c (around (suc k)))) (shifted A around (suc k) cs)
