-- What holds of every node: how trees of which it holds are made and taken apart.
use Rattle.std.proofs.Common.{◌≡◌, ◌∙◌, ℕ, suc, Bool, false, List, [], ◌∷◌, ◌++◌, map, Option, None, refl, sym, ap, ap₂, subst}
use Rattle.ecma_kind.specs.declared.kind.Kind.{Kind}
use Rattle.ecma_kind.specs.declared.span.Span.{Span}
use Rattle.ecma_tree.specs.Nodes.{node_of}
use Rattle.ecma_tree.specs.declared.node.Node.{Node, Node-F, ind-Node, out-Node, roll-Node}
use Rattle.ecma_tree.specs.declared.node.Node.TheViews.{out-roll-Node, roll-out-Node}
use Rattle.ecma_tree.proofs.Layers.{from_leaves_out}
use Rattle.ecma_rules.specs.Failing.{failing_here, failing_step, first_failing, least, least_from}
use Rattle.ecma_text_leaves.specs.Everywhere.{Everywhere}
use Rattle.ecma_text_leaves.specs.Everywhere.{Each as Every, more as more-of, none as none-of}
use Rattle.ecma_text_leaves.proofs.Trees.{children_good, good_node, kind_good}
use Rattle.ecma_fits.specs.declared.unfit.Where.{Where}
use Rattle.ecma_fits.specs.Fitting.{NoneFails, at_top, where_in}
use Rattle.ecma_fits.proofs.Walks.{neither_least, not_failing}
use Rattle.ecma_lower_enums_sources.specs.Throughout.{Each, Throughout, more, none, throughout}

-- ---- nodes

module _ (P : Node → Type 0) where
  pub here : {n : Node} → Throughout P n → P n
  here (throughout p h) = p

  pub below : {n : Node} → Throughout P n → Each P (out-Node n).children
  below (throughout p h) = h

  pub first-of : {n : Node} {ns : List Node} → Each P (n ∷ ns) → Throughout P n
  first-of (more a h) = a

  pub others-of : {n : Node} {ns : List Node} → Each P (n ∷ ns) → Each P ns
  others-of (more a h) = h

  pub append : {ns ms : List Node} → Each P ns → Each P ms → Each P (ns ++ ms)
  append none g = g
  append (more a h) g = more a (append h g)

  pub alone : {n : Node} → Throughout P n → Each P (n ∷ [])
  alone a = more a none

-- of the parts of a node
pub parts-of : (P : Span → Kind → List Node → Type 0) (span : Span) (k : Kind) (cs : List Node) → P span k cs → (let n = node_of span k cs in P (out-Node n).span (out-Node n).kind (out-Node n).children)
parts-of P span k cs h = subst (λ (z : Node-F Node). P z.span z.kind z.children) (sym (out-roll-Node (record { span = span; kind = k; children = cs }))) h

-- what is asked of kinds and spans
abbrev pub Of : (Span → Kind → Type 0) → Node → Type 0
Of P n = P (out-Node n).span (out-Node n).kind

pub good : (P : Span → Kind → Type 0) (span : Span) (k : Kind) (cs : List Node) → P span k → Each (Of P) cs → Throughout (Of P) (node_of span k cs)
good P span k cs p h = throughout (parts-of (λ s k cs. P s k) span k cs p) (parts-of (λ s k cs. Each (Of P) cs) span k cs h)

pub below-roll : (P : Node → Type 0) (span : Span) (k : Kind) (cs : List Node) → Throughout P (node_of span k cs) → Each P cs
below-roll P span k cs h = subst (λ (z : Node-F Node). Each P z.children) (out-roll-Node (record { span = span; kind = k; children = cs })) (below P h)

-- ---- one and another

module _ (P Q : Node → Type 0) (so : (n : Node) → P n → Q n) where
  mutual
    pub weaker : {n : Node} → Throughout P n → Throughout Q n
    weaker {n} (throughout p h) = throughout (so n p) (all-weaker h)

    all-weaker : {ns : List Node} → Each P ns → Each Q ns
    all-weaker none = none
    all-weaker (more a h) = more (weaker a) (all-weaker h)

-- ---- tests that fail nowhere

module _ (test : Node → Bool) where
  abbrev place : Where → Node → Option ℕ
  place w n = failing_here (test n) n

  abbrev first : Node → Where → Option ℕ
  first = first_failing Where place where_in

  abbrev Not : Node → Type 0
  Not n = test n ≡ false

  first-out : (n : Node) (w : Where) → first n w ≡ least (place w n) (least_from Where (where_in w n) 0 (map first (out-Node n).children))
  first-out n w = ap (λ f. f w) (from_leaves_out (Where → Option ℕ) (failing_step Where place where_in) n)

  mutual
    passes : {n : Node} → Throughout Not n → (w : Where) → first n w ≡ None
    passes {n} (throughout p h) w = first-out n w ∙ ap₂ least (ap (λ b. failing_here b n) p) (all-pass h (where_in w n) 0)

    all-pass : {ns : List Node} → Each Not ns → (around : ℕ → Where) (i : ℕ) → least_from Where around i (map first ns) ≡ None
    all-pass none around i = refl
    all-pass (more a h) around i = ap₂ least (passes a (around i)) (all-pass h around (suc i))

  pub fails-nowhere : (tree : Node) → Throughout Not tree → NoneFails (λ w n. test n) tree
  fails-nowhere tree h = passes h at_top

  abbrev Passed : Node → Type 0
  Passed n = (w : Where) → first n w ≡ None → Throughout Not n

  all-passed : (es : List ((n : Node) × Passed n)) (around : ℕ → Where) (i : ℕ) → least_from Where around i (map first (map (λ e. e.0) es)) ≡ None → Each Not (map (λ e. e.0) es)
  all-passed [] around i h = none
  all-passed (e ∷ es) around i h =
      let both = neither_least (first e.0 (around i)) (least_from Where around (suc i) (map first (map (λ e. e.0) es))) h in
      more (e.1 (around i) both.0) (all-passed es around (suc i) both.1)

  abbrev AllPassed : List Node → Type 0
  AllPassed ns = (around : ℕ → Where) → least_from Where around 0 (map first ns) ≡ None → Each Not ns

  node-passed : (n : Node) → AllPassed (out-Node n).children → Passed n
  node-passed n below w h =
      let both = neither_least (place w n) (least_from Where (where_in w n) 0 (map first (out-Node n).children)) (sym (first-out n w) ∙ h) in
      throughout (not_failing (test n) n both.0) (below (where_in w n) both.1)

  passed : (n : Node) → Passed n
  passed = ind-Node Passed (λ x y is.
      node-passed (roll-Node x) (subst AllPassed (ap (λ (z : Node-F Node). z.children) is ∙ sym (ap (λ (z : Node-F Node). z.children) (out-roll-Node x))) (λ around. all-passed y.children around 0)))

  pub fails-everywhere-not : (tree : Node) → NoneFails (λ w n. test n) tree → Throughout Not tree
  fails-everywhere-not tree h = passed tree at_top h

-- ---- what is asked of kinds

module _ (P : Kind → Type 0) where
  mutual
    pub everywhere-so : {n : Node} → Throughout (λ m. P (out-Node m).kind) n → Everywhere P n
    everywhere-so {n} (throughout p h) = subst (Everywhere P) (roll-out-Node n) (good_node P (out-Node n).span (out-Node n).kind (out-Node n).children p (every-so h))

    every-so : {ns : List Node} → Each (λ m. P (out-Node m).kind) ns → Every P ns
    every-so none = none-of
    every-so (more a h) = more-of (everywhere-so a) (every-so h)

  -- beside what is asked of nodes
  module _ (Q : Node → Type 0) where
    abbrev pub Both : Node → Type 0
    Both n = P (out-Node n).kind × Q n

    mutual
      pub both-so : {n : Node} → Throughout Q n → Everywhere P n → Throughout Both n
      both-so (throughout q h) g = throughout (kind_good P g, q) (both-each h (children_good P g))

      both-each : {ns : List Node} → Each Q ns → Every P ns → Each Both ns
      both-each none g = none
      both-each (more a h) (more-of b g) = more (both-so a b) (both-each h g)

-- ---- what holds of every node whatever

module _ (P : Node → Type 0) (always : (n : Node) → P n) where
  each-so : (es : List ((n : Node) × Throughout P n)) → Each P (map (λ e. e.0) es)
  each-so [] = none
  each-so (e ∷ es) = more e.1 (each-so es)

  pub anywhere : (n : Node) → Throughout P n
  anywhere = ind-Node (Throughout P) (λ x y is.
      throughout (always (roll-Node x)) (subst (Each P) (ap (λ (z : Node-F Node). z.children) is ∙ sym (ap (λ (z : Node-F Node). z.children) (out-roll-Node x))) (each-so y.children)))
