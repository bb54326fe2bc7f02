-- Parts that proofs share: ids among others, what is found in children, walks that find no failure, shapes of children.
use Rattle.std.proofs.Common.{◌≡◌, refl, sym, ap, ap₂, ◌∙◌, ℕ, suc, List, [], ◌∷◌, ◌++◌, map, Option, None, Bool, true, false, not, ◌&&◌, ◌||◌}
use Rattle.std.specs.List.{list_all, list_any}
use Rattle.std.proofs.lemmas.List.Folds.{list_any-append}
use Rattle.ecma_kind.specs.declared.kind.Kind.{Kind}
use Rattle.ecma_tree.specs.declared.node.Node.{Node, out-Node}
use Rattle.ecma_tree.proofs.Layers.{from_leaves_out}
use Rattle.ecma_rules.specs.Failing.{failing_here, failing_step, first_failing, least_from}
use Rattle.ecma_scope.specs.declared.form.Sought.{Sought}
use Rattle.ecma_scope.specs.Declarations.{sought_in}
use Rattle.ecma_fits.specs.declared.unfit.Where.{Where}
use Rattle.ecma_fits.specs.Fitting.{where_in}
use Rattle.ecma_fits.proofs.Walks.{neither_least, not_failing}
use Rattle.ecma_hygiene.proofs.Telling.{and-left, and-right, true-false}
use Rattle.ecma_hygiene.proofs.Walking.{append-none}
use Rattle.ecma_hygiene_scopes.specs.DeclaredIds.{DeclaredId, id_here, ids_declared, ids_in}
use Rattle.ecma_hygiene_scopes.proofs.Directly.{ids-out}
use Rattle.ecma_hygiene_scopes.proofs.Membership.{is_kept}
use Rattle.ecma_hygiene_runs.specs.Plain.{is_plain, is_plain_kind, has_no_receiver, plain_by, plain_step}
use Rattle.ecma_runs.specs.State.{Binding, Id, same_id}
use Rattle.ecma_runs.specs.Environment.{ids_of, is_among}
use Rattle.ecma_runs.specs.Declarations.{has_no_effect}
use Rattle.ecma_runs.specs.Evaluation.{meaning}
use Rattle.ecma_pipeline_meeting.proofs.Walks.{Each}

-- ---- tests

pub or-assoc : (a b c : Bool) → ((a || b) || c) ≡ (a || (b || c))
or-assoc true b c = refl
or-assoc false b c = refl

pub or-none : (a : Bool) → (a || false) ≡ a
or-none true = refl
or-none false = refl

pub and-true : (a : Bool) → (a && true) ≡ a
and-true true = refl
and-true false = refl

pub not-true : (b : Bool) → not b ≡ true → b ≡ false
not-true true h = absurd (true-false h refl)
not-true false h = refl

pub not-false : (b : Bool) → not b ≡ false → b ≡ true
not-false true h = refl
not-false false h = absurd (true-false refl h)

-- ---- ids

pub among-append : (id : Id) (xs ys : List Id) → is_among id (xs ++ ys) ≡ (is_among id xs || is_among id ys)
among-append id [] ys = refl
among-append id (x ∷ xs) ys = ap (λ b. same_id x id || b) (among-append id xs ys) ∙ sym (or-assoc (same_id x id) (is_among id xs) (is_among id ys))

pub ids-append : (xs ys : List Binding) → ids_of (xs ++ ys) ≡ ids_of xs ++ ids_of ys
ids-append [] ys = refl
ids-append (x ∷ xs) ys = ap (λ z. x.id ∷ z) (ids-append xs ys)

-- ids, each made a variable of that id
pub ids-made : (make : Id → Binding) → ((id : Id) → (make id).id ≡ id) → (ids : List Id) → ids_of (map make ids) ≡ ids
ids-made make is [] = refl
ids-made make is (id ∷ ids) = ap₂ (λ a b. a ∷ b) (is id) (ids-made make is ids)

module _ (id : Id) where
  -- whether it is among declared ids, and stays
  abbrev pub kept : List DeclaredId → Bool
  kept ds = list_any (is_kept (id.sym, id.ctxt)) ds

  pub kept-append : (xs ys : List DeclaredId) → kept (xs ++ ys) ≡ (kept xs || kept ys)
  kept-append xs ys = list_any-append (is_kept (id.sym, id.ctxt)) xs ys

  pub kept-nil : (xs : List DeclaredId) → kept (xs ++ []) ≡ kept xs
  kept-nil xs = ap kept (append-none xs)

  pub kept-nils : (xs : List DeclaredId) → kept ((xs ++ []) ++ []) ≡ kept xs
  kept-nils xs = kept-nil (xs ++ []) ∙ kept-nil xs

  pub kept-out : (n : Node) (q : Sought) → kept (ids_declared n q) ≡ kept (id_here q (out-Node n).kind ++ ids_in (sought_in q n) 0 (map ids_declared (out-Node n).children))
  kept-out n q = ap kept (ids-out n q)

-- ---- walks that find no failure

module _ (fails : Where → Node → Bool) where
  abbrev pub first : Node → Where → Option ℕ
  first = first_failing Where (λ w node. failing_here (fails w node) node) where_in

  -- nothing fails in a node that stands there
  abbrev pub Sound : Where → Node → Type 0
  Sound w n = first n w ≡ None

  each-sound : (around : ℕ → Where) (i : ℕ) (cs : List Node) → least_from Where around i (map first cs) ≡ None → Each (λ j c. Sound (around j) c) i cs
  each-sound around i [] h = tt
  each-sound around i (c ∷ cs) h =
      let t = neither_least (first c (around i)) (least_from Where around (suc i) (map first cs)) h in
      (t.0, each-sound around (suc i) cs t.1)

  pub sound-out : (w : Where) (n : Node) → Sound w n → (fails w n ≡ false) × Each (λ i c. Sound (where_in w n i) c) 0 (out-Node n).children
  sound-out w n h =
      let t = neither_least (failing_here (fails w n) n) (least_from Where (where_in w n) 0 (map first (out-Node n).children))
      (sym (ap (λ f. f w) (from_leaves_out (Where → Option ℕ) (failing_step Where (λ w node. failing_here (fails w node) node) where_in) n)) ∙ h) in
      (not_failing (fails w n) n t.0, each-sound (where_in w n) 0 (out-Node n).children t.1)

-- ---- plain nodes

abbrev pub AllPlain : List Node → Type 0
AllPlain cs = list_all (λ b. b) (map is_plain cs) ≡ true

pub plain-out : (n : Node) → is_plain n ≡ true → (plain_by (out-Node n).kind (out-Node n).children ≡ true) × AllPlain (out-Node n).children
plain-out n p =
    let a = plain_by (out-Node n).kind (out-Node n).children in
    let b = list_all (λ b. b) (map is_plain (out-Node n).children) in
    let h : (a && b) ≡ true = sym (from_leaves_out Bool plain_step n) ∙ p in
    (and-left a b h, and-right a b h)

pub plain-kind : (k : Kind) (cs : List Node) → plain_by k cs ≡ true → is_plain_kind k ≡ true
plain-kind k [] p = and-left (is_plain_kind k) true p
plain-kind k (c ∷ cs) p = and-left (is_plain_kind k) (not (has_no_effect k (map meaning (c ∷ cs))) && has_no_receiver k (c ∷ cs)) p

-- what has children has an effect
pub plain-effect : (k : Kind) (c : Node) (cs : List Node) → plain_by k (c ∷ cs) ≡ true → has_no_effect k (map meaning (c ∷ cs)) ≡ false
plain-effect k c cs p =
    let free = not (has_no_effect k (map meaning (c ∷ cs))) in
    not-true (has_no_effect k (map meaning (c ∷ cs))) (and-left free (has_no_receiver k (c ∷ cs)) (and-right (is_plain_kind k) (free && has_no_receiver k (c ∷ cs)) p))

pub plain-head : (c : Node) (cs : List Node) → AllPlain (c ∷ cs) → is_plain c ≡ true
plain-head c cs p = and-left (is_plain c) (list_all (λ b. b) (map is_plain cs)) p

pub plain-tail : (c : Node) (cs : List Node) → AllPlain (c ∷ cs) → AllPlain cs
plain-tail c cs p = and-right (is_plain c) (list_all (λ b. b) (map is_plain cs)) p
