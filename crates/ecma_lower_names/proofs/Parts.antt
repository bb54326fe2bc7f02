-- Parts that proofs share: what stands where in a tree that fits, and ids that are declared in a node.
use Rattle.std.proofs.Common.{◌≡◌, refl, sym, ap, ◌∙◌, ℕ, suc, List, [], ◌∷◌, ◌++◌, map, Option, None, Bool, true, false, not, ◌&&◌, ◌||◌}
use Rattle.std.specs.List.{list_any}
use Rattle.std.proofs.lemmas.List.Folds.{list_any-append}
use Rattle.ecma_tree.specs.declared.node.Node.{Node, out-Node}
use Rattle.ecma_tree.proofs.Layers.{from_leaves_out}
use Rattle.ecma_leaves.specs.Words.{is_spelled}
use Rattle.ecma_rules.specs.Failing.{failing_here, failing_step, least_from}
use Rattle.ecma_rules.specs.Members.{second_constructor}
use Rattle.ecma_rules.specs.Rules.{fails_list, fails_member, fails_statement}
use Rattle.ecma_rules.specs.Statements.{is_declared_body, is_quoted_local}
use Rattle.ecma_fits.specs.declared.unfit.Where.{Where}
use Rattle.ecma_fits.specs.Fitting.{breaks_rule, first_unfit_in, is_misplaced, is_misshapen, is_unfit, unfit_here, where_in}
use Rattle.ecma_fits.specs.Roles.{is_out_of_role, is_tagged}
use Rattle.ecma_fits.specs.Strays.{is_stray_target}
use Rattle.ecma_fits.proofs.Walks.{neither, neither_least, not_failing}
use Rattle.ecma_scope.specs.declared.form.Sought.{Sought}
use Rattle.ecma_scope.specs.Declarations.{sought_in}
use Rattle.ecma_hygiene.proofs.Telling.{true-false}
use Rattle.ecma_hygiene.proofs.Walking.{append-none}
use Rattle.ecma_hygiene_scopes.specs.DeclaredIds.{DeclaredId, id_here, ids_at, ids_declared, ids_in}
use Rattle.ecma_hygiene_scopes.proofs.Directly.{ids-out}
use Rattle.ecma_hygiene_scopes.proofs.Membership.{is_kept}
use Rattle.ecma_runs.specs.State.{Id, same_id}
use Rattle.ecma_runs.specs.Declarations.{has_no_effect}
use Rattle.ecma_runs.specs.Environment.{is_among}
use Rattle.ecma_runs.specs.Evaluation.{meaning}

-- a node that has no effect, wherever it stands
abbrev pub does_nothing : Node → Bool
does_nothing n = has_no_effect (out-Node n).kind (map meaning (out-Node n).children)

-- of nodes, of which the first is the one at i
abbrev pub Each : (ℕ → Node → Type 0) → ℕ → List Node → Type 0
Each P i [] = Unit {0}
Each P i (x ∷ xs) = P i x × Each P (suc i) xs

-- ---- tests

pub or-assoc : (a b c : Bool) → ((a || b) || c) ≡ (a || (b || c))
or-assoc true b c = refl
or-assoc false b c = refl

pub and-true : (a : Bool) → (a && true) ≡ a
and-true true = refl
and-true false = refl

pub not-true : (b : Bool) → not b ≡ true → b ≡ false
not-true true h = absurd (true-false h refl)
not-true false h = refl

pub or-neither : (a b : Bool) → a ≡ false → b ≡ false → (a || b) ≡ false
or-neither a b h g = (λ j. h j || g j)

-- ---- nodes that stand where they may

abbrev pub Placed : Where → Node → Type 0
Placed w n = first_unfit_in n w ≡ None

each-placed : (around : ℕ → Where) (i : ℕ) (cs : List Node) → least_from Where around i (map first_unfit_in cs) ≡ None → Each (λ j c. Placed (around j) c) i cs
each-placed around i [] h = tt
each-placed around i (c ∷ cs) h =
    let t = neither_least (first_unfit_in c (around i)) (least_from Where around (suc i) (map first_unfit_in cs)) h in
    (t.0, each-placed around (suc i) cs t.1)

module _ (w : Where) (n : Node) (fits : Placed w n) where
  told : (unfit_here w n ≡ None) × (least_from Where (where_in w n) 0 (map first_unfit_in (out-Node n).children) ≡ None)
  told =
      neither_least (unfit_here w n) (least_from Where (where_in w n) 0 (map first_unfit_in (out-Node n).children))
      (sym (ap (λ f. f w) (from_leaves_out (Where → Option ℕ) (failing_step Where unfit_here where_in) n)) ∙ fits)

  pub placed-below : Each (λ i c. Placed (where_in w n i) c) 0 (out-Node n).children
  placed-below = each-placed (where_in w n) 0 (out-Node n).children told.1

  here : is_misplaced w n ≡ false
  unfolding is_unfit
  here =
      let unfit = not_failing (is_unfit w n) n (neither_least (failing_here (is_unfit w n) n) (second_constructor n) told.0).0 in
      (neither (is_misplaced w n) (not (is_spelled (is_tagged w.role) (out-Node n).kind)) (neither (is_misshapen n) (is_misplaced w n || not (is_spelled (is_tagged w.role) (out-Node n).kind)) unfit).1).0

  pub in-role : is_out_of_role w.role n ≡ false
  in-role = (neither (is_out_of_role w.role n) (is_stray_target w.role w.arguments n || breaks_rule w n) here).0

  pub no-declared-body : is_declared_body w.around.standing n ≡ false
  no-declared-body =
      let rule : breaks_rule w n ≡ false = (neither (is_stray_target w.role w.arguments n) (breaks_rule w n) (neither (is_out_of_role w.role n) (is_stray_target w.role w.arguments n || breaks_rule w n) here).1).1 in
      let statement = (neither (fails_member w.around n) (fails_statement w.around n) (neither (fails_list w.around n) (fails_member w.around n || fails_statement w.around n) rule).1).1 in
      (neither (is_quoted_local w.around.standing n) (is_declared_body w.around.standing n) statement).1

-- ---- ids

pub among-append : (id : Id) (xs ys : List Id) → is_among id (xs ++ ys) ≡ (is_among id xs || is_among id ys)
among-append id [] ys = refl
among-append id (x ∷ xs) ys = ap (λ b. same_id x id || b) (among-append id xs ys) ∙ sym (or-assoc (same_id x id) (is_among id xs) (is_among id ys))

module _ (id : Id) where
  -- whether it is among declared ids, and stays
  abbrev pub kept : List DeclaredId → Bool
  kept ds = list_any (is_kept (id.sym, id.ctxt)) ds

  pub kept-append : (xs ys : List DeclaredId) → kept (xs ++ ys) ≡ (kept xs || kept ys)
  kept-append xs ys = list_any-append (is_kept (id.sym, id.ctxt)) xs ys

  pub kept-nil : (xs : List DeclaredId) → kept (xs ++ []) ≡ kept xs
  kept-nil xs = ap kept (append-none xs)

  pub kept-out : (n : Node) (q : Sought) → kept (ids_declared n q) ≡ kept (id_here q (out-Node n).kind ++ ids_in (sought_in q n) 0 (map ids_declared (out-Node n).children))
  kept-out n q = ap kept (ids-out n q)

  -- what is not found in a node, is not in its children
  each-lacks : (into : ℕ → Option Sought) (i : ℕ) (cs : List Node) → kept (ids_in into i (map ids_declared cs)) ≡ false → Each (λ j c. kept (ids_at (into j) (ids_declared c)) ≡ false) i cs
  each-lacks into i [] h = tt
  each-lacks into i (c ∷ cs) h =
      let t = neither (kept (ids_at (into i) (ids_declared c))) (kept (ids_in into (suc i) (map ids_declared cs)))
      (sym (kept-append (ids_at (into i) (ids_declared c)) (ids_in into (suc i) (map ids_declared cs))) ∙ h) in
      (t.0, each-lacks into (suc i) cs t.1)

  pub lacks-below : (n : Node) (q : Sought) → kept (ids_declared n q) ≡ false → Each (λ j c. kept (ids_at (sought_in q n j) (ids_declared c)) ≡ false) 0 (out-Node n).children
  lacks-below n q h =
      let below = ids_in (sought_in q n) 0 (map ids_declared (out-Node n).children) in
      each-lacks (sought_in q n) 0 (out-Node n).children
      (neither (kept (id_here q (out-Node n).kind)) (kept below) (sym (kept-out n q ∙ kept-append (id_here q (out-Node n).kind) below) ∙ h)).1
