-- What holds of every node of a tree, by its kind and its children.
use Rattle.std.proofs.Common.{ℕ, zero, suc, Bool, true, false, cond, List, [], ◌∷◌, ◌++◌, take, filter, map, sym, subst}
use Rattle.std.specs.Prelude.{slice_set, slice_index_or}
use Rattle.std.specs.List.{swap}
use Rattle.ecma_kind.specs.declared.span.Span.{Span}
use Rattle.ecma_kind.specs.declared.kind.Kind.{Kind}
use Rattle.ecma_tree.specs.declared.node.Node.{Node}
use Rattle.ecma_tree.specs.Nodes.{node_of}
use Rattle.ecma_grammar.specs.trees.Parts.{children_of, kind_of}
use Rattle.ecma_text_leaves.proofs.Trees.{children_made, kind_made}

module _ (P : Kind → List Node → Type 0) where
  mutual
    -- of a node and of all below it
    pub data Throughout : Node → Type 0 where
      throughout : (at : Span) (kind : Kind) {children : List Node} → P kind children → EachThroughout children → Throughout (node_of at kind children)

    -- of each of several trees
    pub data EachThroughout : List Node → Type 0 where
      none : EachThroughout []
      more : {n : Node} {ns : List Node} → Throughout n → EachThroughout ns → EachThroughout (n ∷ ns)

  pub here : {n : Node} → Throughout n → P (kind_of n) (children_of n)
  here (throughout at k {children = cs} p h) = subst (λ j. P j (children_of (node_of at k cs))) (sym (kind_made at k cs)) (subst (P k) (sym (children_made at k cs)) p)

  pub below : {n : Node} → Throughout n → EachThroughout (children_of n)
  below (throughout at k {children = cs} p h) = subst EachThroughout (sym (children_made at k cs)) h

  pub first_of : {n : Node} {ns : List Node} → EachThroughout (n ∷ ns) → Throughout n
  first_of (more a h) = a

  pub others_of : {n : Node} {ns : List Node} → EachThroughout (n ∷ ns) → EachThroughout ns
  others_of (more a h) = h

  pub append_all : {xs ys : List Node} → EachThroughout xs → EachThroughout ys → EachThroughout (xs ++ ys)
  append_all none k = k
  append_all (more a h) k = more a (append_all h k)

  pub take_all : (n : ℕ) {xs : List Node} → EachThroughout xs → EachThroughout (take n xs)
  take_all zero h = none
  take_all (suc n) none = none
  take_all (suc n) (more a h) = more a (take_all n h)

  pub filter_all : (p : Node → Bool) {xs : List Node} → EachThroughout xs → EachThroughout (filter p xs)
  filter_all p none = none
  filter_all p (more {n = n} {ns = ns} a h) = go (p n) (filter_all p h)
    where
      go : (b : Bool) → EachThroughout (filter p ns) → EachThroughout (cond b (n ∷ filter p ns) (filter p ns))
      go true r = more a r
      go false r = r

  pub map_all : {xs : List Node} (f : Node → Node) → ((n : Node) → Throughout n → Throughout (f n)) → EachThroughout xs → EachThroughout (map f xs)
  map_all f g none = none
  map_all f g (more {n = n} a h) = more (g n a) (map_all f g h)

  pub set_all : {xs : List Node} (i : ℕ) (x : Node) → Throughout x → EachThroughout xs → EachThroughout (slice_set xs i x)
  set_all i x g none = none
  set_all zero x g (more a h) = more g h
  set_all (suc i) x g (more a h) = more a (set_all i x g h)

  index_all : {xs : List Node} (i : ℕ) (d : Node) → Throughout d → EachThroughout xs → Throughout (slice_index_or xs i d)
  index_all i d g none = g
  index_all zero d g (more a h) = a
  index_all (suc i) d g (more a h) = index_all i d g h

  pub swap_all : {xs : List Node} (i j : ℕ) → EachThroughout xs → EachThroughout (swap xs i j)
  swap_all i j none = none
  swap_all i j (more a h) = set_all j _ (index_all i _ a (more a h)) (set_all i _ (index_all j _ a (more a h)) (more a h))
