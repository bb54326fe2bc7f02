-- The second item of which a test holds, item by item.
use Rattle.std.proofs.Common.{◌≡◌, ◌∙◌, ℕ, ◌+◌, Bool, true, false, ◌&&◌, ◌||◌, List, [], ◌∷◌, drop, filter, length, Option, Some, None, refl, sym, ap, slice_get}
use Rattle.ecma_tree.specs.declared.node.Node.{Node, out-Node}
use Rattle.ecma_tree.proofs.Items.{drop-item}
use Rattle.ecma_rules.specs.Members.{is_full_constructor, second_of}
use Rattle.ecma_rules.proofs.Failures.{drop-none}

-- of those that are left, where one was seen or not
abbrev pub second_behind : Bool → List Node → Option ℕ
second_behind false nodes = second_of nodes
second_behind true [] = None
second_behind true (n ∷ ns) = Some (out-Node n).span.lo

module _ (nodes : List Node) (i : ℕ) where
  abbrev pub left_at : ℕ → List Node
  left_at j = filter is_full_constructor (drop j nodes)

  left-full : (x : Node) → slice_get nodes i ≡ Some x → is_full_constructor x ≡ true → left_at i ≡ x ∷ left_at (i + 1)
  left-full x at full = rw (drop-item nodes i x at, full) refl

  left-other : (x : Node) → slice_get nodes i ≡ Some x → is_full_constructor x ≡ false → left_at i ≡ left_at (i + 1)
  left-other x at full = rw (drop-item nodes i x at, full) refl

  second-first : (x : Node) → second_behind false (x ∷ left_at (i + 1)) ≡ second_behind true (left_at (i + 1))
  second-first x = go (left_at (i + 1))
    where
      go : (ns : List Node) → second_behind false (x ∷ ns) ≡ second_behind true ns
      go [] = refl
      go (n ∷ ns) = refl

  -- where the item at i is no second one, the others decide
  pub second-next : (seen full : Bool) (x : Node) → slice_get nodes i ≡ Some x → full ≡ is_full_constructor x → (seen && full) ≡ false
      → second_behind (seen || full) (left_at (i + 1)) ≡ second_behind seen (left_at i)
  second-next true true x at is other = cc
  second-next true false x at is other = ap (second_behind true) (sym (left-other x at (sym is)))
  second-next false true x at is other = sym (ap (second_behind false) (left-full x at (sym is)) ∙ second-first x)
  second-next false false x at is other = ap (second_behind false) (sym (left-other x at (sym is)))

  -- and else it is the one
  pub second-found : (seen full : Bool) (x : Node) → slice_get nodes i ≡ Some x → full ≡ is_full_constructor x → (seen && full) ≡ true → Some (out-Node x).span.lo ≡ second_behind seen (left_at i)
  second-found true true x at is found = ap (second_behind true) (sym (left-full x at (sym is)))
  second-found true false x at is found = cc
  second-found false full x at is found = cc

pub second-none : (seen : Bool) (nodes : List Node) (i : ℕ) → length nodes ≡ i → second_behind seen (filter is_full_constructor (drop i nodes)) ≡ None
second-none seen nodes i all = ap (λ (ns : List Node). second_behind seen (filter is_full_constructor ns)) (drop-none nodes i all) ∙ go seen
  where
    go : (b : Bool) → second_behind b [] ≡ None
    go true = refl
    go false = refl
