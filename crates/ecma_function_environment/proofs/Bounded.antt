-- At most three contexts are drawn for a node, and two for a declarator.
use Rattle.std.proofs.Common.{◌≡◌, ◌∙◌, ◌≤◌, ◌+◌, ◌-◌, ◌*◌, ℕ, suc, Bool, true, false, List, [], ◌∷◌, ◌++◌, Option, Some, None, length, map, refl, sym, ap, subst, if◌then◌else◌, arith}
use Rattle.std.specs.List.{sum}
use Rattle.std.proofs.Math.ListN.{length-append}
use Rattle.std.proofs.lemmas.List.Sums.{sum_by-cons}
use Rattle.ecma_kind.specs.declared.kind.Kind.{Kind}
use Rattle.ecma_kind.specs.declared.kind.Kind.TheVariants as kind
use Rattle.ecma_kind.specs.declared.operators.MetaPropKind.TheVariants.{NewTarget}
use Rattle.ecma_tree.specs.declared.node.Node.{Node, Node-F, ind-Node, out-Node, roll-Node}
use Rattle.ecma_tree.specs.declared.node.Node.TheViews.{out-roll-Node}
use Rattle.ecma_tree.proofs.Layers.{from_leaves_out}
use Rattle.ecma_walks.specs.Listing.{listed_from, listed_within}
use Rattle.ecma_walks.proofs.Walking.{listed-out}
use Rattle.ecma_function_parts.specs.Drawing.{count}
use Rattle.ecma_function_environment.specs.declared.hoisting.Flags.{Flags}
use Rattle.ecma_function_environment.specs.declared.need.Need.{Need}
use Rattle.ecma_function_environment.specs.declared.need.Need.TheVariants as need
use Rattle.ecma_function_environment.specs.declared.seat.Seat.{Seat}
use Rattle.ecma_function_environment.specs.declared.seat.Seat.TheVariants as seat
use Rattle.ecma_function_environment.specs.Declaring.{declarator, declarator_draws, declarators, draws_of, has_prop, has_value, in_rank_order}
use Rattle.ecma_function_environment.specs.Hoisting.{if_entered, is_arguments, key_needs, member_needs, needs, needs_by, needs_here, needs_in, needs_of, receiver_needs, seat_below}
use Rattle.ecma_function_environment.specs.Laws.{AtMostThreeContextsANode, AtMostThreeContextsANodeOfATree, AtMostTwoContextsADeclarator, nodes_in}
use Rattle.ecma_function_environment.specs.Members.{key_at}
use Rattle.ecma_function_environment.specs.Needs.{Key, Names, draws_for, has_name, named}
use Rattle.ecma_function_environment.specs.Seats.{is_entered}
use Rattle.ecma_function_environment.proofs.Hoisted.{step}

-- ---- a context for a need

longer-next : (n : Need) (ns : List Need) (left : ℕ) (names : Names) → length (named ns left names) ≤ length names + length ns
    → length (named ns (left - 1) (names ++ (n, left) ∷ [])) ≤ length (names ++ (n, left) ∷ []) + length ns → length (named (n ∷ ns) left names) ≤ length names + length (n ∷ ns)
longer-next n ns left names same more = by (has_name names n)
  where
    by : (b : Bool) → length (if b then named ns left names else named ns (left - 1) (names ++ (n, left) ∷ [])) ≤ length names + length (n ∷ ns)
    by true = omega (arith, same)
    by false = let longer = length-append names ((n, left) ∷ []) in omega (arith, more, longer)

at-most-longer : (ns : List Need) (left : ℕ) (names : Names) → length (named ns left names) ≤ length names + length ns
at-most-longer [] left names = omega arith
at-most-longer (n ∷ ns) left names = longer-next n ns left names (at-most-longer ns left names) (at-most-longer ns (left - 1) (names ++ (n, left) ∷ []))

draws-at-most : (ns : List Need) (left : ℕ) (names : Names) → draws_for ns left names ≤ length ns
draws-at-most ns left names = let so = at-most-longer ns left names in omega (arith, so)

-- ---- three needs for a node

module _ (flags : Flags) where
  one-receiver : length (receiver_needs flags) ≤ 1
  one-receiver = by flags.this_disabled
    where
      by : (b : Bool) → length (if b then [] else need.This ∷ []) ≤ 1
      by true = omega arith
      by false = omega arith

  three-of-member : (s : Seat) (key : Key) → length (member_needs flags s key) ≤ 3
  three-of-member seat.Called key = let one = one-receiver in omega (arith, one)
  three-of-member seat.ChainCalled key = let one = one-receiver in omega (arith, one)
  three-of-member seat.Tag key = let one = one-receiver in omega (arith, one)
  three-of-member _ key = omega arith

  three-of-key : (s : Seat) (key : Option Key) → length (key_needs flags s key) ≤ 3
  three-of-key s (Some key) = three-of-member s key
  three-of-key s None = omega arith

  three-by : (s : Seat) (key : Option Key) (k : Kind) → length (needs_by flags s key k) ≤ 3
  three-by s key kind.ThisExpr = let one = one-receiver in omega (arith, one)
  three-by s key (kind.MetaPropExpr NewTarget) = omega arith
  three-by s key (kind.Ident sym ctxt optional) = by (is_arguments flags s sym ctxt)
    where
      by : (b : Bool) → length (if b then need.Arguments ∷ [] else []) ≤ 3
      by true = omega arith
      by false = omega arith
  three-by s key kind.SuperPropExpr = three-of-key s key
  three-by s key _ = omega arith

  -- ---- in a tree

  abbrev Bounded : Node → Type 0
  Bounded n = (s : Seat) → length (needs flags n s) ≤ 3 * nodes_in n

  nodes-out : (n : Node) → nodes_in n ≡ 1 + sum (map nodes_in (out-Node n).children)
  nodes-out = from_leaves_out ℕ (λ n counts. 1 + sum counts)

  within : (o : Option Seat) (y : (n : Node) × Bounded n) → length (listed_within Seat Need o (needs flags y.0)) ≤ 3 * nodes_in y.0
  within (Some s) y = y.1 s
  within None y = omega arith

  in-order : (seats : ℕ → Option Seat) (ys : List ((n : Node) × Bounded n)) (i : ℕ)
      → length (listed_from Seat Need seats i (map (needs flags) (map (λ y. y.0) ys))) ≤ 3 * sum (map nodes_in (map (λ y. y.0) ys))
  in-order seats [] i = omega arith
  in-order seats (y ∷ ys) i =
      let one = within (seats i) y in
      let others = in-order seats ys (suc i) in
      let long = length-append (listed_within Seat Need (seats i) (needs flags y.0)) (listed_from Seat Need seats (suc i) (map (needs flags) (map (λ z. z.0) ys))) in
      let both = sum_by-cons (λ (z : ℕ). z) (nodes_in y.0) (map nodes_in (map (λ (z : (n : Node) × Bounded n). z.0) ys)) in
      omega (arith, one, others, long, both)

  node-bounded : (n : Node) (ys : List ((n : Node) × Bounded n)) → map (λ y. y.0) ys ≡ (out-Node n).children → Bounded n
  node-bounded n ys is s =
      let children = (out-Node n).children in
      let rest = listed_from Seat Need (step flags s n) 0 (map (needs flags) children) in
      let listed : length (needs flags n s) ≡ length (needs_here flags s n ++ rest) = ap length (listed-out Seat Need (step flags) (needs_here flags) s n) in
      let long = length-append (needs_here flags s n) rest in
      let here = three-by s (key_at flags.super_disabled n) (out-Node n).kind in
      let inside : length rest ≤ 3 * sum (map nodes_in children) =
      subst (λ (z : List Node). length (listed_from Seat Need (step flags s n) 0 (map (needs flags) z)) ≤ 3 * sum (map nodes_in z)) is (in-order (step flags s n) ys 0) in
      let all = nodes-out n in
      omega (arith, listed, long, here, inside, all)

  bounded : (n : Node) → Bounded n
  bounded = ind-Node Bounded (λ x y is. node-bounded (roll-Node x) y.children (ap (λ z. z.children) is ∙ sym (ap (λ z. z.children) (out-roll-Node x))))

  bounded-in : (s : Seat) (n : Node) → length (needs_in flags s n) ≤ 3 * nodes_in n
  bounded-in s n = within (if_entered s) (n, bounded n)

  bounded-of : (s : Seat) (ns : List Node) → length (needs_of flags s ns) ≤ 3 * sum (map nodes_in ns)
  bounded-of s [] = omega arith
  bounded-of s (n ∷ ns) =
      let one = bounded-in s n in
      let others = bounded-of s ns in
      let long = length-append (needs_in flags s n) (needs_of flags s ns) in
      let both = sum_by-cons (λ (z : ℕ). z) (nodes_in n) (map nodes_in ns) in
      omega (arith, one, others, long, both)

pub three-for-trees : AtMostThreeContextsANode
three-for-trees flags s ns left names = let few = bounded-of flags s ns in let drawn = draws-at-most (needs_of flags s ns) left names in omega (arith, few, drawn)

pub three-for-a-tree : AtMostThreeContextsANodeOfATree
three-for-a-tree flags s n left names = let few = bounded-in flags s n in let drawn = draws-at-most (needs_in flags s n) left names in omega (arith, few, drawn)

-- ---- two for a declarator

at-most-one : (b : Bool) → count b ≤ 1
at-most-one true = omega arith
at-most-one false = omega arith

two-for-one : (n : Need) → draws_of n ≤ 2
two-for-one n = let prop = at-most-one (has_prop n) in let value = at-most-one (has_value n) in omega (arith, prop, value)

two-for-each : (in_subclass : Bool) (names es : Names) (left : ℕ) → declarator_draws es ≤ 2 * length (declarators in_subclass names es left)
two-for-each in_subclass names [] left = omega arith
two-for-each in_subclass names (e ∷ es) left =
    let one = two-for-one e.0 in let others = two-for-each in_subclass names es (left - draws_of e.0) in omega (arith, one, others)

pub two-for-declarators : AtMostTwoContextsADeclarator
two-for-declarators in_subclass names left = two-for-each in_subclass names (in_rank_order names) left
