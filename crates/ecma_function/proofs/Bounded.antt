-- At most one context is drawn for a call.
use Rattle.std.proofs.Common.{◌≡◌, ◌∙◌, ◌≤◌, ◌+◌, ◌-◌, ℕ, suc, Bool, true, false, List, [], ◌∷◌, map, refl, sym, ap, subst, if◌then◌else◌, arith}
use Rattle.std.specs.List.{sum}
use Rattle.std.proofs.lemmas.List.Sums.{sum_by-cons}
use Rattle.ecma_kind.specs.declared.kind.Kind.{Kind}
use Rattle.ecma_tree.specs.declared.node.Node.{Node, Node-F, ind-Node, out-Node, roll-Node}
use Rattle.ecma_tree.specs.declared.node.Node.TheViews.{out-roll-Node}
use Rattle.ecma_tree.proofs.Layers.{from_leaves_out}
use Rattle.ecma_function_parts.specs.Drawing.{count}
use Rattle.ecma_function.specs.declared.injecting.Role.TheVariants as role
use Rattle.ecma_function.specs.declared.place.Place.{Place}
use Rattle.ecma_function.specs.declared.place.Place.TheVariants as place
use Rattle.ecma_function.specs.Calls.{is_super_call, is_super_stmt}
use Rattle.ecma_function.specs.Injecting.{Outcome, in_order, is_named, role_of, writing}
use Rattle.ecma_function.specs.Laws.{AtMostOneContextACall, super_calls}
use Rattle.ecma_function.specs.Places.{is_outside, place_in}
use Rattle.ecma_function.proofs.Underway.{entered-is, outside-is}

-- only a call has a name
named-call : (p : Place) (n : Node) → count (is_named (role_of p n)) ≤ count (is_super_call n)
named-call place.Inside n = by (is_super_call n)
  where
    by : (b : Bool) → count (is_named (if b then role.Named else role.Other)) ≤ count b
    by true = omega arith
    by false = omega arith
named-call place.Item n = by (is_super_stmt n)
  where
    by : (b : Bool) → count (is_named (if b then role.SuperStmt else role.Stmt)) ≤ count (is_super_call n)
    by true = omega arith
    by false = omega arith
named-call _ n = by (is_super_call n)
  where
    by : (b : Bool) → count (is_named (if b then role.Alone else role.Other)) ≤ count b
    by true = omega arith
    by false = omega arith

module _ (exprs : List Node) where
  abbrev Bounded : Node → Type 0
  Bounded n = (p : Place) (left : ℕ) → (writing exprs n p left).draws ≤ super_calls n

  calls-out : (n : Node) → super_calls n ≡ count (is_super_call n) + sum (map super_calls (out-Node n).children)
  calls-out = from_leaves_out ℕ (λ n counts. count (is_super_call n) + sum counts)

  in-order : (p : Place) (k : Kind) (ys : List ((n : Node) × Bounded n)) (i left : ℕ)
      → (in_order p k i (map (writing exprs) (map (λ y. y.0) ys)) left).draws ≤ sum (map super_calls (map (λ y. y.0) ys))
  in-order p k [] i left = omega arith
  in-order p k (y ∷ ys) i left =
      let first : Outcome = writing exprs y.0 (place_in p k i) left in
      let one = y.1 (place_in p k i) left in
      let others = in-order p k ys (suc i) (left - first.draws) in
      let both = sum_by-cons (λ (z : ℕ). z) (super_calls y.0) (map super_calls (map (λ (z : (n : Node) × Bounded n). z.0) ys)) in
      omega (arith, one, others, both)

  node-bounded : (n : Node) (ys : List ((n : Node) × Bounded n)) → map (λ y. y.0) ys ≡ (out-Node n).children → Bounded n
  node-bounded n ys is p left = by (is_outside p) refl
    where
      by : (b : Bool) → is_outside p ≡ b → (writing exprs n p left).draws ≤ super_calls n
      by true h = let none : (writing exprs n p left).draws ≡ 0 = ap (λ (o : Outcome). o.draws) (outside-is exprs n p left h) in omega (arith, none)
      by false h =
          let own = count (is_named (role_of p n)) in
          let drawn : (writing exprs n p left).draws ≡ own + (in_order p (out-Node n).kind 0 (map (writing exprs) (out-Node n).children) (left - own)).draws =
          ap (λ (o : Outcome). o.draws) (entered-is exprs n p left h) in
          let inside : (in_order p (out-Node n).kind 0 (map (writing exprs) (out-Node n).children) (left - own)).draws ≤ sum (map super_calls (out-Node n).children) =
          subst (λ (z : List Node). (in_order p (out-Node n).kind 0 (map (writing exprs) z) (left - own)).draws ≤ sum (map super_calls z)) is
          (in-order p (out-Node n).kind ys 0 (left - own)) in
          let here : own ≤ count (is_super_call n) = named-call p n in
          let all = calls-out n in
          omega (arith, drawn, inside, here, all)

  bounded : (n : Node) → Bounded n
  bounded = ind-Node Bounded (λ x y is. node-bounded (roll-Node x) y.children (ap (λ z. z.children) is ∙ sym (ap (λ z. z.children) (out-roll-Node x))))

pub at_most_one : AtMostOneContextACall
at_most_one exprs tree p left = bounded exprs tree p left
