-- Trees of which something holds of the span, the kind and the children of each node: how they are made, taken apart and listed.
use Rattle.std.proofs.Common.{ℕ, zero, suc, Bool, true, false, cond, List, [], ◌∷◌, ◌++◌, take, filter, map, length, ap, sym, subst, Some, None}
use Rattle.std.specs.Prelude.{slice_set, slice_index_or, ◌==◌, if◌then◌else◌}
use Rattle.std.specs.List.{swap}
use Rattle.ecma_kind.specs.declared.span.Span.{Span}
use Rattle.ecma_kind.specs.declared.kind.Kind.{Kind}
use Rattle.ecma_kind.specs.declared.kind.Kind.TheVariants as kind
use Rattle.ecma_tree.specs.declared.node.Node.{Node, Node-F}
use Rattle.ecma_tree.specs.declared.node.Node.TheViews.{out-roll-Node}
use Rattle.ecma_tree.specs.Nodes.{node_of, absent, dummy_span}
use Rattle.ecma_grammar.specs.trees.Parts.{span_of, kind_of, children_of, by_frame, framed}

module _ (P : Span → Kind → List Node → Type 0) where
  mutual
    pub data Everywhere : Node → Type 0 where
      everywhere : (at : Span) (kind : Kind) {children : List Node} → P at kind children → Each children → Everywhere (node_of at kind children)

    pub data Each : List Node → Type 0 where
      none : Each []
      more : {n : Node} {ns : List Node} → Everywhere n → Each ns → Each (n ∷ ns)

module _ (P : Span → Kind → List Node → Type 0) where
  abbrev pub Good : Node → Type 0
  Good = Everywhere P

  abbrev pub All : List Node → Type 0
  All = Each P

  pub good_node : (at : Span) (k : Kind) (children : List Node) → P at k children → All children → Good (node_of at k children)
  good_node at k children p h = everywhere at k p h

  pub own_good : {n : Node} → Good n → P (span_of n) (kind_of n) (children_of n)
  own_good (everywhere at k {children = cs} p h) = subst (λ (z : Node-F Node). P z.span z.kind z.children) (sym (out-roll-Node (record { span = at; kind = k; children = cs }))) p

  pub children_good : {n : Node} → Good n → All (children_of n)
  children_good (everywhere at k {children = cs} p h) = subst All (sym (ap (λ (z : Node-F Node). z.children) (out-roll-Node (record { span = at; kind = k; children = cs })))) h

  pub each_append : {xs ys : List Node} → All xs → All ys → All (xs ++ ys)
  each_append none k = k
  each_append (more a h) k = more a (each_append h k)

  pub each_take : (n : ℕ) {xs : List Node} → All xs → All (take n xs)
  each_take zero h = none
  each_take (suc n) none = none
  each_take (suc n) (more a h) = more a (each_take n h)

  pub each_filter : (p : Node → Bool) {xs : List Node} → All xs → All (filter p xs)
  each_filter p none = none
  each_filter p (more {n = n} {ns = ns} a h) = go (p n) (each_filter p h)
    where
      go : (b : Bool) → All (filter p ns) → All (cond b (n ∷ filter p ns) (filter p ns))
      go true r = more a r
      go false r = r

  pub each_map : {xs : List Node} (f : Node → Node) → ((n : Node) → Good n → Good (f n)) → All xs → All (map f xs)
  each_map f g none = none
  each_map f g (more {n = n} a h) = more (g n a) (each_map f g h)

  pub each_set : {xs : List Node} (i : ℕ) (x : Node) → Good x → All xs → All (slice_set xs i x)
  each_set i x g none = none
  each_set zero x g (more a h) = more g h
  each_set (suc i) x g (more a h) = more a (each_set i x g h)

  pub each_index : {xs : List Node} (i : ℕ) (d : Node) → Good d → All xs → Good (slice_index_or xs i d)
  each_index i d g none = g
  each_index zero d g (more a h) = a
  each_index (suc i) d g (more a h) = each_index i d g h

  pub each_swap : {xs : List Node} (i j : ℕ) → All xs → All (swap xs i j)
  each_swap i j none = none
  each_swap i j (more a h) = each_set j _ (each_index i _ a (more a h)) (each_set i _ (each_index j _ a (more a h)) (more a h))

  module _ (missing : P dummy_span kind.Absent []) where
    pub good_absent : Good absent
    good_absent = good_node dummy_span kind.Absent [] missing none

    pub good_framed : {xs : List Node} (n : ℕ) (f : List Node → Node) → All xs → (All xs → Good (f xs)) → Good (framed n f xs)
    good_framed {xs} n f h g = go (length xs == n)
      where
        go : (b : Bool) → Good (by_frame f (if b then Some xs else None))
        go true = g h
        go false = good_absent
