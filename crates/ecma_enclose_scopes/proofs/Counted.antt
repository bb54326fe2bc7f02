-- A tree with parentheses added takes as many contexts.
use Rattle.std.proofs.Common.{◌≡◌, ◌∙◌, ℕ, zero, suc, ◌+◌, Bool, true, false, not, ◌&&◌, cond, List, [], ◌∷◌, map, refl, sym, ap, ap₂, arith}
use Rattle.ecma_kind.specs.declared.kind.Kind.{Kind}
use Rattle.ecma_kind.specs.declared.shapes.Sort.TheVariants as sort
use Rattle.ecma_tree.specs.declared.node.Node.{Node}
use Rattle.ecma_tree.specs.Sorted.{one}
use Rattle.ecma_tree.proofs.Layers.{from_leaves_out}
use Rattle.ecma_rules.specs.Children.{kind_of}
use Rattle.ecma_scope.specs.declared.role.Role.{Role}
use Rattle.ecma_scope.specs.declared.role.Role.TheVariants as role
use Rattle.ecma_scope.specs.Resolved.{context_count, count_step, counted, taken}
use Rattle.ecma_scope.specs.Scopes.{is_root, is_there, role_by, role_in}
use Rattle.ecma_enclose.specs.Enclosing.{in_parentheses}
use Rattle.ecma_enclose_fits.proofs.Adding.{Adds, All, Alone, Below, adds, children_of, enclosed_adds, every, first, more, none}
use Rattle.ecma_enclose_scopes.specs.Laws.{EnclosedTreesTakeAsManyContexts}
use Rattle.ecma_enclose_scopes.proofs.Declared.{open_role, opens_same, paren_children, paren_round, role_same, round_opens, round_role}

pub count-out : (n : Node) (q : Role) → context_count n q ≡ taken q n + counted (role_in q n) 0 (map context_count (children_of n))
count-out n q = ap (λ f. f q) (from_leaves_out (Role → ℕ) count_step n)

pub taken_same : (q : Role) {a b : Node} → Adds a b → taken q b ≡ taken q a
taken_same q r = ap (λ o. cond (o && not (is_root q)) 1 0) (opens_same q r)

pub paren_taken : (q : Role) (e : Node) → taken q (in_parentheses e) ≡ 0
paren_taken q e = ap (λ o. cond (o && not (is_root q)) 1 0) (round_opens q (in_parentheses e) (paren_round e))

one_counted : (a : ℕ) → 0 + (a + 0) ≡ a
one_counted a = omega arith

pub paren_count : (e : Node) (q : Role) → context_count (in_parentheses e) q ≡ context_count e role.Plain
paren_count e q =
    count-out (in_parentheses e) q
    ∙ ap₂ (λ here (cs : List Node). here + counted (role_in q (in_parentheses e)) 0 (map context_count cs)) (paren_taken q e) (paren_children e)
    ∙ ap (λ p. 0 + (context_count e p + 0)) (round_role q (in_parentheses e) 0 (paren_round e))
    ∙ one_counted (context_count e role.Plain)

mutual
  pub count_same : {a b : Node} → Adds a b → (q : Role) → context_count b q ≡ context_count a q
  count_same {a} {b} (adds s k at below) q =
      count-out b q
      ∙ ap₂ (λ x y. x + y) (taken_same q (adds s k at below))
      (below_counted (kind_of a) q (is_there (children_of a) 1) below (role_in q b) (role_in q a) (role_same q (adds s k at below)) (λ i. refl))
      ∙ sym (count-out a q)

  below_counted : (k : Kind) (q : Role) (sourced : Bool) {ns ms : List Node} → Below k ns ms → (f g : ℕ → Role) → ((i : ℕ) → f i ≡ g i) → ((i : ℕ) → g i ≡ role_by q k sourced i)
      → counted f 0 (map context_count ms) ≡ counted g 0 (map context_count ns)
  below_counted k q sourced (every all) f g same is = all_counted all f g same 0
  below_counted k q sourced (first e alone all) f g same is =
      ap₂ (λ x y. x + y) (paren_count e (f 0) ∙ ap (context_count e) (sym (is 0 ∙ open_role k e alone q sourced))) (all_counted all f g same 1)

  all_counted : {ns ms : List Node} → All ns ms → (f g : ℕ → Role) → ((i : ℕ) → f i ≡ g i) → (i : ℕ) → counted f i (map context_count ms) ≡ counted g i (map context_count ns)
  all_counted none f g same i = refl
  all_counted (more {n} {m} r all) f g same i = ap₂ (λ x y. x + y) (ap (context_count m) (same i) ∙ count_same r (g i)) (all_counted all f g same (suc i))

pub take_as_many : EnclosedTreesTakeAsManyContexts
take_as_many tree sorted = count_same (enclosed_adds tree (one sort.Module, sorted)) role.Root
