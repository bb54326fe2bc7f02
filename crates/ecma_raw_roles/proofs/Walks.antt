-- Walks over a tree that tell nothing, and children that are finished.
use Rattle.std.proofs.Common.{◌≡◌, ◌∙◌, ℕ, suc, true, false, List, [], ◌∷◌, ◌++◌, map, Option, None, refl, sym, ap, subst}
use Rattle.ecma_kind.specs.declared.shapes.Shape.{Shape}
use Rattle.ecma_tree.specs.declared.node.Node.{Node, Node-F, fold-roll-Node, out-Node, roll-Node}
use Rattle.ecma_tree.specs.declared.node.Node.TheViews.{out-roll-Node, roll-out-Node}
use Rattle.ecma_tree.specs.Laws.{HaveShapes}
use Rattle.ecma_rules.specs.declared.target.Target.{Target}
use Rattle.ecma_rules.specs.declared.target.Target.TheVariants as target
use Rattle.ecma_rules.specs.Children.{kind_of}
use Rattle.ecma_rules.specs.Failing.{least_from}
use Rattle.ecma_rules.specs.Finishing.{each_in, finished_at, finished_step}
use Rattle.ecma_rules.specs.Targets.{target_in}
use Rattle.ecma_fits.proofs.Walks.{both_none, neither_least}

pub not_true : {A : Type 0} → false ≡ true → A
not_true h = cc

-- one more child that tells nothing
pub one_more : (A : Type 0) (f : Node → A → Option ℕ) (around : ℕ → A) (k : ℕ) (x : Node) → ((a : A) → f x a ≡ None) → (ns : List Node) → least_from A around k (map f ns) ≡ None → least_from A around k (map f (ns ++ x ∷ [])) ≡ None
one_more A f around k x tells [] h = both_none (f x (around k)) None (tells (around k)) refl
one_more A f around k x tells (n ∷ ns) h =
    let w = neither_least (f n (around k)) (least_from A around (suc k) (map f ns)) h in
    both_none (f n (around k)) (least_from A around (suc k) (map f (ns ++ x ∷ []))) w.0 (one_more A f around (suc k) x tells ns w.1)

-- the shapes of those in front
pub have_front : (os : List Shape) (xs ys : List Node) → HaveShapes os (xs ++ ys) → (ps : List Shape) × HaveShapes ps xs
have_front os [] ys h = ([], tt)
have_front [] (x ∷ xs) ys h = absurd h
have_front (o ∷ os) (x ∷ xs) ys h = let t = have_front os xs ys h.1 in (o ∷ t.0, (h.0, t.1))

pub kind_made : (x : Node-F Node) → kind_of (roll-Node x) ≡ x.kind
kind_made x = ap (λ (p : Node-F Node). p.kind) (out-roll-Node x)

-- what nothing is assigned to keeps its kind
pub free_kind : (n : Node) → kind_of (finished_at n target.Free) ≡ kind_of n
free_kind n = subst (λ (m : Node). kind_of (finished_at m target.Free) ≡ kind_of m) (roll-out-Node n) (of_parts (out-Node n))
  where
    of_parts : (x : Node-F Node) → kind_of (finished_at (roll-Node x) target.Free) ≡ kind_of (roll-Node x)
    of_parts x =
        let now : Node-F Node = record { span = x.span; kind = x.kind; children = each_in (target_in target.Free x.kind) (map finished_at x.children) } in
        ap (λ f. kind_of (f target.Free)) (fold-roll-Node (Target → Node) finished_step x) ∙ ap (λ (p : Node-F Node). p.kind) (out-roll-Node now) ∙ sym (ap (λ (p : Node-F Node). p.kind) (out-roll-Node x))
