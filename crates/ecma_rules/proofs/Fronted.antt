-- A tree that is being finished, child by child.
use Rattle.std.proofs.Common.{◌≡◌, ◌∙◌, ℕ, zero, suc, ◌+◌, List, [], ◌∷◌, map, length, Some, refl, sym, ap, slice_get, set, add-one, arith}
use Rattle.ecma_tree.specs.declared.node.Node.{Node, Node-F, fold_out-Node, out-Node, roll-Node}
use Rattle.ecma_tree.specs.declared.node.Node.TheViews.{out-roll-Node}
use Rattle.ecma_rules.specs.declared.target.Target.{Target}
use Rattle.ecma_rules.specs.Targets.{target_in}
use Rattle.ecma_rules.specs.Finishing.{each_in, finished_at, finished_by, finished_step}

-- the first i of these nodes are finished
abbrev pub front_in : (ℕ → Target) → List Node → ℕ → List Node
front_in target_of nodes zero = nodes
front_in target_of [] (suc i) = []
front_in target_of (n ∷ ns) (suc i) = finished_at n (target_of 0) ∷ front_in (λ j. target_of (suc j)) ns i

front_in-at : (target_of : ℕ → Target) (nodes : List Node) (i : ℕ) (x : Node) → slice_get (front_in target_of nodes i) i ≡ Some x → slice_get nodes i ≡ Some x
front_in-at target_of nodes zero x at = at
front_in-at target_of [] (suc i) x at = at
front_in-at target_of (n ∷ ns) (suc i) x at = front_in-at (λ j. target_of (suc j)) ns i x at

front_in-set : (target_of : ℕ → Target) (nodes : List Node) (i : ℕ) (x : Node) → slice_get nodes i ≡ Some x
    → set (front_in target_of nodes i) i (finished_at x (target_of i)) ≡ front_in target_of nodes (suc i)
front_in-set target_of [] zero x at = cc
front_in-set target_of [] (suc i) x at = cc
front_in-set target_of (n ∷ ns) zero x at = let same : n ≡ x = cc in ap (λ z. finished_at z (target_of 0) ∷ ns) (sym same)
front_in-set target_of (n ∷ ns) (suc i) x at = ap (λ zs. finished_at n (target_of 0) ∷ zs) (front_in-set (λ j. target_of (suc j)) ns i x at)

front_in-all : (target_of : ℕ → Target) (nodes : List Node) (i : ℕ) → length nodes ≡ i → front_in target_of nodes i ≡ each_in target_of (map finished_at nodes)
front_in-all target_of [] zero all = refl
front_in-all target_of [] (suc i) all = refl
front_in-all target_of (n ∷ ns) zero all = cc
front_in-all target_of (n ∷ ns) (suc i) all = ap (λ zs. finished_at n (target_of 0) ∷ zs) (front_in-all (λ j. target_of (suc j)) ns i (omega (arith, all)))

front_in-length : (target_of : ℕ → Target) (nodes : List Node) (i : ℕ) → length (front_in target_of nodes i) ≡ length nodes
front_in-length target_of nodes zero = refl
front_in-length target_of [] (suc i) = refl
front_in-length target_of (n ∷ ns) (suc i) = ap suc (front_in-length (λ j. target_of (suc j)) ns i)

module _ (t : Target) where
  abbrev pub front_parts : Node → ℕ → Node-F Node
  front_parts n i = record { span = (out-Node n).span; kind = (out-Node n).kind; children = front_in (target_in t (out-Node n).kind) (out-Node n).children i }

  -- the node with its first i children finished
  abbrev pub front_finished : Node → ℕ → Node
  front_finished n i = roll-Node (front_parts n i)

  front-out : (n m : Node) (i : ℕ) → m ≡ front_finished n i → out-Node m ≡ front_parts n i
  front-out n m i is = ap out-Node is ∙ out-roll-Node (front_parts n i)

  -- there are as many children as before
  pub finished-count : (n m : Node) (i : ℕ) → m ≡ front_finished n i → length (out-Node m).children ≡ length (out-Node n).children
  finished-count n m i is = ap (λ z. length z.children) (front-out n m i is) ∙ front_in-length (target_in t (out-Node n).kind) (out-Node n).children i

  pub finished-kind : (n m : Node) (i : ℕ) → m ≡ front_finished n i → (out-Node m).kind ≡ (out-Node n).kind
  finished-kind n m i is = ap (λ z. z.kind) (front-out n m i is)

  -- the child at i is the old one
  pub finished-at : (n m : Node) (i : ℕ) (x : Node) → m ≡ front_finished n i → slice_get (out-Node m).children i ≡ Some x → slice_get (out-Node n).children i ≡ Some x
  finished-at n m i x is at = front_in-at (target_in t (out-Node n).kind) (out-Node n).children i x (sym (ap (λ z. slice_get z.children i) (front-out n m i is)) ∙ at)

  -- once the child at i is finished too, one more is
  pub set-finished : (n m : Node) (i : ℕ) (x y : Node) → m ≡ front_finished n i → slice_get (out-Node m).children i ≡ Some x → y ≡ finished_at x (target_in t (out-Node m).kind i)
      → roll-Node (record { span = (out-Node m).span; kind = (out-Node m).kind; children = set (out-Node m).children i y }) ≡ front_finished n (i + 1)
  set-finished n m i x y is at done =
      let parts : out-Node m ≡ front_parts n i = front-out n m i is in
      let was : slice_get (out-Node n).children i ≡ Some x = finished-at n m i x is at in
      rw (done, parts, add-one, front_in-set (target_in t (out-Node n).kind) (out-Node n).children i x was) refl

  -- with all children finished, what the node has to be is the finished node
  pub finished-all : (n m : Node) (i : ℕ) → m ≡ front_finished n i → length (out-Node n).children ≡ i → finished_by t (out-Node m) ≡ finished_at n t
  finished-all n m i is all =
      ap (finished_by t) (front-out n m i is
      ∙ ap (λ z. record { span = (out-Node n).span; kind = (out-Node n).kind; children = z }) (front_in-all (target_in t (out-Node n).kind) (out-Node n).children i all))
      ∙ sym (ap (λ f. f t) (fold_out-Node (Target → Node) finished_step n))
