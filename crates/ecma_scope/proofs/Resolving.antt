-- How far the resolver is: a node of which the first children are in their contexts.
use Rattle.std.proofs.Common.{◌≡◌, ℕ, zero, suc, ◌+◌, ◌-◌, ◌<◌, List, [], ◌∷◌, ◌++◌, map, take, drop, length, Some, refl, sym, ap, ap₂, ◌∙◌, slice_get, set, add-one, arith}
use Rattle.std.proofs.Math.ListN.{length-set}
use Rattle.ecma_tree.specs.declared.node.Node.{Node, out-Node, roll-Node}
use Rattle.ecma_tree.specs.declared.node.Node.TheViews.{out-roll-Node, roll-out-Node}
use Rattle.ecma_tree.proofs.Items.{drop-item}
use Rattle.ecma_scope.specs.Resolved.{Place, context_count, counted, placed, resolved_at}
use Rattle.ecma_scope.specs.Frames.{children_at, with_children}

module _ {X : Type 0} where
  get-drop : (xs : List X) (i : ℕ) → slice_get xs i ≡ slice_get (drop i xs) 0
  get-drop [] zero = refl
  get-drop [] (suc i) = refl
  get-drop (x ∷ xs) zero = refl
  get-drop (x ∷ xs) (suc i) = get-drop xs i

  get-same : (xs ys : List X) (i : ℕ) (x : X) → drop i xs ≡ drop i ys → slice_get xs i ≡ Some x → slice_get ys i ≡ Some x
  get-same xs ys i x same at = get-drop ys i ∙ ap (λ z. slice_get z 0) (sym same) ∙ sym (get-drop xs i) ∙ at

  take-set-suc : (xs : List X) (i : ℕ) (x y : X) → slice_get xs i ≡ Some x → take (suc i) (set xs i y) ≡ take i xs ++ y ∷ []
  take-set-suc [] i x y at = cc
  take-set-suc (z ∷ zs) zero x y at = refl
  take-set-suc (z ∷ zs) (suc i) x y at = ap (λ w. z ∷ w) (take-set-suc zs i x y at)

  pub take-set : (xs : List X) (i : ℕ) (x y : X) → slice_get xs i ≡ Some x → take (i + 1) (set xs i y) ≡ take i xs ++ y ∷ []
  take-set xs i x y at = rw add-one (take-set-suc xs i x y at)

  drop-set-suc : (xs : List X) (i : ℕ) (y : X) → drop (suc i) (set xs i y) ≡ drop (suc i) xs
  drop-set-suc [] i y = refl
  drop-set-suc (z ∷ zs) zero y = refl
  drop-set-suc (z ∷ zs) (suc i) y = drop-set-suc zs i y

  pub drop-set : (xs : List X) (i : ℕ) (y : X) → drop (i + 1) (set xs i y) ≡ drop (i + 1) xs
  drop-set xs i y = rw add-one (drop-set-suc xs i y)

  drop-drop : (xs : List X) (i : ℕ) → drop 1 (drop i xs) ≡ drop (suc i) xs
  drop-drop [] zero = refl
  drop-drop [] (suc i) = refl
  drop-drop (x ∷ xs) zero = refl
  drop-drop (x ∷ xs) (suc i) = drop-drop xs i

  drop-tail-suc : (xs ys : List X) (i : ℕ) → drop i xs ≡ drop i ys → drop (suc i) xs ≡ drop (suc i) ys
  drop-tail-suc xs ys i same = sym (drop-drop xs i) ∙ ap (drop 1) same ∙ drop-drop ys i

  drop-tail : (xs ys : List X) (i : ℕ) → drop i xs ≡ drop i ys → drop (i + 1) xs ≡ drop (i + 1) ys
  drop-tail xs ys i same = rw add-one (drop-tail-suc xs ys i same)

  pub drop-none : (xs : List X) (i : ℕ) → length xs ≡ i → drop i xs ≡ []
  drop-none [] zero all = refl
  drop-none [] (suc i) all = refl
  drop-none (x ∷ xs) zero all = cc
  drop-none (x ∷ xs) (suc i) all = drop-none xs i (omega (arith, all))

  pub append-none : (xs : List X) → xs ++ [] ≡ xs
  append-none [] = refl
  append-none (x ∷ xs) = ap (λ w. x ∷ w) (append-none xs)

  pub append-one : (xs : List X) (y : X) (ys : List X) → (xs ++ y ∷ []) ++ ys ≡ xs ++ y ∷ ys
  append-one [] y ys = refl
  append-one (x ∷ xs) y ys = ap (λ w. x ∷ w) (append-one xs y ys)

  pub take-whole : (xs : List X) (i : ℕ) → drop i xs ≡ [] → take i xs ≡ xs
  take-whole [] zero all = refl
  take-whole [] (suc i) all = refl
  take-whole (x ∷ xs) zero all = cc
  take-whole (x ∷ xs) (suc i) all = ap (λ w. x ∷ w) (take-whole xs i all)

module _ (unresolved top : ℕ) (places : ℕ → Place) where
  abbrev pub rest_placed : List Node → ℕ → ℕ → List Node
  rest_placed nodes i left = placed places i nodes (map (resolved_at unresolved top) nodes) left

  abbrev pub rest_count : List Node → ℕ → ℕ
  rest_count nodes i = counted (λ k. (places k).role) i (map context_count nodes)

  rest_placed-next : (nodes : List Node) (i : ℕ) (x : Node) (left less : ℕ) → slice_get nodes i ≡ Some x → less + context_count x (places i).role ≡ left
      → rest_placed (drop i nodes) i left ≡ resolved_at unresolved top x (places i) left ∷ rest_placed (drop (i + 1) nodes) (i + 1) less
  rest_placed-next nodes i x left less at is =
      let next : suc i ≡ i + 1 = omega arith in
      let rest : left - context_count x (places i).role ≡ less = omega arith in
      ap (λ z. rest_placed z i left) (drop-item nodes i x at)
      ∙ ap₂ (λ k l. resolved_at unresolved top x (places i) left ∷ rest_placed (drop (i + 1) nodes) k l) next rest

  pub rest_count-next : (nodes : List Node) (i : ℕ) (x : Node) → slice_get nodes i ≡ Some x
      → rest_count (drop i nodes) i ≡ context_count x (places i).role + rest_count (drop (i + 1) nodes) (i + 1)
  rest_count-next nodes i x at =
      let next : suc i ≡ i + 1 = omega arith in
      ap (λ z. rest_count z i) (drop-item nodes i x at) ∙ ap (λ k. context_count x (places i).role + rest_count (drop (i + 1) nodes) k) next

  -- of the node n the first i children are in their contexts, which m shows; so many contexts were left before the first, and are left now
  pub record Done (n m : Node) (first i left : ℕ) : Type 0 where
    pub span : (out-Node m).span ≡ (out-Node n).span
    pub kind : (out-Node m).kind ≡ (out-Node n).kind
    pub size : length (out-Node m).children ≡ length (out-Node n).children
    pub rest : drop i (out-Node m).children ≡ drop i (out-Node n).children
    pub done : take i (out-Node m).children ++ rest_placed (drop i (out-Node n).children) i left ≡ rest_placed (out-Node n).children 0 first
    pub count : first + rest_count (drop i (out-Node n).children) i ≡ left + rest_count (out-Node n).children 0

  pub done-none : (n : Node) (first : ℕ) → Done n n first 0 first
  done-none n first = record { span = refl; kind = refl; size = refl; rest = refl; done = refl; count = refl }

  abbrev pub with_child : Node → ℕ → Node → Node
  with_child m i y = roll-Node (record { span = (out-Node m).span; kind = (out-Node m).kind; children = set (out-Node m).children i y })

  with_child-out : (m : Node) (i : ℕ) (y : Node) → out-Node (with_child m i y) ≡ record { span = (out-Node m).span; kind = (out-Node m).kind; children = set (out-Node m).children i y }
  with_child-out m i y = out-roll-Node (record { span = (out-Node m).span; kind = (out-Node m).kind; children = set (out-Node m).children i y })

  -- the child at i, as it was
  pub child_at : (n m : Node) (first i left : ℕ) (x : Node) → Done n m first i left → slice_get (out-Node m).children i ≡ Some x → slice_get (out-Node n).children i ≡ Some x
  child_at n m first i left x done at = get-same (out-Node m).children (out-Node n).children i x done.rest at

  done-next-done : (n m : Node) (first i left less : ℕ) (x y : Node) → Done n m first i left → slice_get (out-Node m).children i ≡ Some x
      → y ≡ resolved_at unresolved top x (places i) left → less + context_count x (places i).role ≡ left
      → take (i + 1) (set (out-Node m).children i y) ++ rest_placed (drop (i + 1) (out-Node n).children) (i + 1) less ≡ rest_placed (out-Node n).children 0 first
  done-next-done n m first i left less x y done at is count =
      let was = child_at n m first i left x done at in
      ap (λ z. z ++ rest_placed (drop (i + 1) (out-Node n).children) (i + 1) less) (take-set (out-Node m).children i x y at)
      ∙ append-one (take i (out-Node m).children) y (rest_placed (drop (i + 1) (out-Node n).children) (i + 1) less)
      ∙ ap (λ z. take i (out-Node m).children ++ z ∷ rest_placed (drop (i + 1) (out-Node n).children) (i + 1) less) is
      ∙ ap (λ z. take i (out-Node m).children ++ z) (sym (rest_placed-next (out-Node n).children i x left less was count))
      ∙ done.done

  -- once it is in its contexts, one child more is
  pub done-next : (n m : Node) (first i left less : ℕ) (x y : Node) → Done n m first i left → slice_get (out-Node m).children i ≡ Some x
      → y ≡ resolved_at unresolved top x (places i) left → less + context_count x (places i).role ≡ left → Done n (with_child m i y) first (i + 1) less
  done-next n m first i left less x y done at is count =
      let parts = with_child-out m i y in
      let was = child_at n m first i left x done at in
      let counts = rest_count-next (out-Node n).children i x was in
      let before = done.count in
      record {
        span = ap (λ z. z.span) parts ∙ done.span;
        kind = ap (λ z. z.kind) parts ∙ done.kind;
        size = ap (λ z. length z.children) parts ∙ length-set (out-Node m).children i y ∙ done.size;
        rest = ap (λ z. drop (i + 1) z.children) parts ∙ drop-set (out-Node m).children i y ∙ drop-tail (out-Node m).children (out-Node n).children i done.rest;
        done = ap (λ z. take (i + 1) z.children ++ rest_placed (drop (i + 1) (out-Node n).children) (i + 1) less) parts ∙ done-next-done n m first i left less x y done at is count;
        count = omega arith;
      }

  -- with all children in their contexts, the node has them
  pub done-all : (n m : Node) (first i left : ℕ) → Done n m first i left → length (out-Node n).children ≡ i → m ≡ with_children n (children_at unresolved top places n first)
  done-all n m first i left done all =
      let none = drop-none (out-Node n).children i all in
      let whole : (out-Node m).children ≡ children_at unresolved top places n first =
      sym (take-whole (out-Node m).children i (done.rest ∙ none))
      ∙ sym (append-none (take i (out-Node m).children))
      ∙ ap (λ z. take i (out-Node m).children ++ rest_placed z i left) (sym none)
      ∙ done.done in
      sym (roll-out-Node m) ∙ (λ j. roll-Node (record { span = done.span j; kind = done.kind j; children = whole j }))

  pub done-count : (n m : Node) (first i left : ℕ) → Done n m first i left → length (out-Node n).children ≡ i → left + rest_count (out-Node n).children 0 ≡ first
  done-count n m first i left done all =
      let none = ap (λ z. rest_count z i) (drop-none (out-Node n).children i all) in
      let before = done.count in
      omega arith

  -- where too few are left for a child, too few were for all
  pub done-spent : (n m : Node) (first i left : ℕ) (x : Node) → Done n m first i left → slice_get (out-Node m).children i ≡ Some x
      → left < context_count x (places i).role → first < rest_count (out-Node n).children 0
  done-spent n m first i left x done at spent =
      let counts = rest_count-next (out-Node n).children i x (child_at n m first i left x done at) in
      let before = done.count in
      omega arith
