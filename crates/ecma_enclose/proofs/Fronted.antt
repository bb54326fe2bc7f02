-- A tree that gets its parentheses, child by child.
use Rattle.std.proofs.Common.{◌≡◌, ◌∙◌, ℕ, zero, suc, ◌+◌, true, false, cond, List, [], ◌∷◌, map, length, Some, refl, sym, ap, slice_get, set, add-one, arith}
use Rattle.ecma_tree.specs.declared.node.Node.{Node, Node-F, out-Node, roll-Node}
use Rattle.ecma_tree.specs.declared.node.Node.TheViews.{out-roll-Node}
use Rattle.ecma_tree.specs.Nodes.{node_of}
use Rattle.ecma_tree.proofs.Layers.{from_leaves_out}
use Rattle.ecma_rules.specs.Children.{kind_of}
use Rattle.ecma_enclose.specs.declared.place.Place.{Place}
use Rattle.ecma_enclose.specs.Enclosing.{each_at, enclosed_at, enclosed_step, first_in, in_parentheses, is_enclosed, place_in}

-- the places of the children of a node
abbrev pub places : Place → Node → ℕ → Place
places p n = place_in p (kind_of n) (first_in p n)

-- the first i of these nodes have theirs
abbrev pub front_in : (ℕ → Place) → List Node → ℕ → List Node
front_in place_of nodes zero = nodes
front_in place_of [] (suc i) = []
front_in place_of (n ∷ ns) (suc i) = enclosed_at n (place_of 0) ∷ front_in (λ j. place_of (suc j)) ns i

front_in-at : (place_of : ℕ → Place) (nodes : List Node) (i : ℕ) (x : Node) → slice_get (front_in place_of nodes i) i ≡ Some x → slice_get nodes i ≡ Some x
front_in-at place_of nodes zero x at = at
front_in-at place_of [] (suc i) x at = at
front_in-at place_of (n ∷ ns) (suc i) x at = front_in-at (λ j. place_of (suc j)) ns i x at

front_in-set : (place_of : ℕ → Place) (nodes : List Node) (i : ℕ) (x : Node) → slice_get nodes i ≡ Some x
    → set (front_in place_of nodes i) i (enclosed_at x (place_of i)) ≡ front_in place_of nodes (suc i)
front_in-set place_of [] zero x at = cc
front_in-set place_of [] (suc i) x at = cc
front_in-set place_of (n ∷ ns) zero x at = let same : n ≡ x = cc in ap (λ z. enclosed_at z (place_of 0) ∷ ns) (sym same)
front_in-set place_of (n ∷ ns) (suc i) x at = ap (λ zs. enclosed_at n (place_of 0) ∷ zs) (front_in-set (λ j. place_of (suc j)) ns i x at)

front_in-all : (place_of : ℕ → Place) (nodes : List Node) (i : ℕ) → length nodes ≡ i → front_in place_of nodes i ≡ each_at place_of (map enclosed_at nodes)
front_in-all place_of [] zero all = refl
front_in-all place_of [] (suc i) all = refl
front_in-all place_of (n ∷ ns) zero all = cc
front_in-all place_of (n ∷ ns) (suc i) all = ap (λ zs. enclosed_at n (place_of 0) ∷ zs) (front_in-all (λ j. place_of (suc j)) ns i (omega (arith, all)))

front_in-length : (place_of : ℕ → Place) (nodes : List Node) (i : ℕ) → length (front_in place_of nodes i) ≡ length nodes
front_in-length place_of nodes zero = refl
front_in-length place_of [] (suc i) = refl
front_in-length place_of (n ∷ ns) (suc i) = ap suc (front_in-length (λ j. place_of (suc j)) ns i)

-- a node whose children have theirs
abbrev pub with_each : Node → Place → Node
with_each n p = node_of (out-Node n).span (kind_of n) (each_at (places p n) (map enclosed_at (out-Node n).children))

enclosed-out : (n : Node) (p : Place) → enclosed_at n p ≡ cond (is_enclosed p n) (in_parentheses n) (with_each n p)
enclosed-out n p = ap (λ f. f p) (from_leaves_out (Place → Node) enclosed_step n)

-- what stands in parentheses
pub enclosed-alone : (n : Node) (p : Place) → is_enclosed p n ≡ true → in_parentheses n ≡ enclosed_at n p
enclosed-alone n p is = sym (enclosed-out n p ∙ ap (λ b. cond b (in_parentheses n) (with_each n p)) is)

-- what does not
pub enclosed-usual : (n : Node) (p : Place) → is_enclosed p n ≡ false → enclosed_at n p ≡ with_each n p
enclosed-usual n p not = enclosed-out n p ∙ ap (λ b. cond b (in_parentheses n) (with_each n p)) not

module _ (p : Place) where
  abbrev pub front_parts : Node → ℕ → Node-F Node
  front_parts n i = record { span = (out-Node n).span; kind = (out-Node n).kind; children = front_in (places p n) (out-Node n).children i }

  -- the node whose first i children have theirs
  abbrev pub front_enclosed : Node → ℕ → Node
  front_enclosed n i = roll-Node (front_parts n i)

  front-out : (n m : Node) (i : ℕ) → m ≡ front_enclosed n i → out-Node m ≡ front_parts n i
  front-out n m i is = ap out-Node is ∙ out-roll-Node (front_parts n i)

  -- there are as many children as before
  pub enclosed-count : (n m : Node) (i : ℕ) → m ≡ front_enclosed n i → length (out-Node m).children ≡ length (out-Node n).children
  enclosed-count n m i is = ap (λ z. length z.children) (front-out n m i is) ∙ front_in-length (places p n) (out-Node n).children i

  -- the child at i is the old one
  pub enclosed-child : (n m : Node) (i : ℕ) (x : Node) → m ≡ front_enclosed n i → slice_get (out-Node m).children i ≡ Some x → slice_get (out-Node n).children i ≡ Some x
  enclosed-child n m i x is at = front_in-at (places p n) (out-Node n).children i x (sym (ap (λ z. slice_get z.children i) (front-out n m i is)) ∙ at)

  -- once the child at i has its own too, one child more has
  pub set-enclosed : (n m : Node) (i : ℕ) (x y : Node) → m ≡ front_enclosed n i → slice_get (out-Node m).children i ≡ Some x → y ≡ enclosed_at x (place_in p (out-Node m).kind (first_in p n) i)
      → roll-Node (record { span = (out-Node m).span; kind = (out-Node m).kind; children = set (out-Node m).children i y }) ≡ front_enclosed n (i + 1)
  set-enclosed n m i x y is at done =
      let parts : out-Node m ≡ front_parts n i = front-out n m i is in
      let was : slice_get (out-Node n).children i ≡ Some x = enclosed-child n m i x is at in
      rw (done, parts, add-one, front_in-set (places p n) (out-Node n).children i x was) refl

  -- where all children have theirs, the tree has
  pub enclosed-all : (n m : Node) (i : ℕ) → is_enclosed p n ≡ false → m ≡ front_enclosed n i → length (out-Node n).children ≡ i → m ≡ enclosed_at n p
  enclosed-all n m i usual is all =
      is ∙ ap (node_of (out-Node n).span (kind_of n)) (front_in-all (places p n) (out-Node n).children i all) ∙ sym (enclosed-usual n p usual)
