-- Where nothing is looked for, nothing is declared.
use Rattle.std.proofs.Common.{◌≡◌, ℕ, suc, false, List, [], ◌∷◌, ◌++◌, map, refl, sym, ap, ap₂, ◌∙◌, subst}
use Rattle.ecma_tree.specs.declared.node.Node.{Node, Node-F, ind-Node, out-Node, roll-Node}
use Rattle.ecma_tree.specs.declared.node.Node.TheViews.{out-roll-Node}
use Rattle.ecma_kind.specs.declared.kind.Kind.{Kind}
use Rattle.ecma_scope.specs.declared.form.Sought.{Sought}
use Rattle.ecma_hygiene.specs.Ids.{Id, declared_by, declared_here, declared_ids, soughts_in}
use Rattle.ecma_hygiene.specs.Walks.{gathered_from}
use Rattle.ecma_hygiene.proofs.Walking.{gathered-out}

none-here : (k : Kind) → declared_by false k ≡ []
none-here k = refl

all-none : (i : ℕ) (n : Node) (ns : List ((x : Node) × (declared_ids x [] ≡ []))) → gathered_from (List Sought) Id (soughts_in [] n) i (map declared_ids (map (λ e. e.0) ns)) ≡ []
all-none i n [] = refl
all-none i n (x ∷ xs) = ap₂ (λ a b. a ++ b) x.1 (all-none (suc i) n xs)

layer-none : (n : Node) → gathered_from (List Sought) Id (soughts_in [] n) 0 (map declared_ids (out-Node n).children) ≡ [] → declared_ids n [] ≡ []
layer-none n children = gathered-out (List Sought) Id declared_here soughts_in n [] ∙ children

pub nothing-declared : (n : Node) → declared_ids n [] ≡ []
nothing-declared = ind-Node (λ n. declared_ids n [] ≡ []) (λ x y is.
    layer-none (roll-Node x) (subst (λ (ns : List Node). gathered_from (List Sought) Id (soughts_in [] (roll-Node x)) 0 (map declared_ids ns) ≡ [])
    (ap (λ (z : Node-F Node). z.children) is ∙ sym (ap (λ (z : Node-F Node). z.children) (out-roll-Node x))) (all-none 0 (roll-Node x) y.children)))

pub ruleset seeking = (nothing-declared)
