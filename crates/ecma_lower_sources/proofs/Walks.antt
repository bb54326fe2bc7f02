-- A walk that tells nothing over a module tells nothing of its items, and the other way round.
use Rattle.std.proofs.Common.{◌≡◌, ◌∙◌, ℕ, suc, Bool, false, refl, sym, ap, List, [], ◌∷◌, map, Option, Some, None, slice_get}
use Rattle.ecma_kind.specs.declared.kind.Kind.{Kind}
use Rattle.ecma_kind.specs.declared.kind.Kind.TheVariants as kind
use Rattle.ecma_kind.specs.declared.span.Span.{Span}
use Rattle.ecma_tree.specs.Nodes.{node_of}
use Rattle.ecma_tree.specs.declared.node.Node.{Node, out-Node}
use Rattle.ecma_tree.proofs.Layers.{from_leaves_out}
use Rattle.ecma_rules.specs.Children.{kind_of}
use Rattle.ecma_rules.specs.Failing.{failing_here, failing_step, first_failing, least, least_from}
use Rattle.ecma_fits.proofs.Walks.{neither_least, not_failing}
use Rattle.ecma_rewriting_fits.proofs.Walking.{AllTell, node-tells, node-told}
use Rattle.ecma_strip_rewriting.proofs.Stays.{kind-roll}
use Rattle.ecma_lower_sources.proofs.Modules.{Each, list_at, module_at}
use Rattle.ecma_lower_sources.proofs.Writes.{IsItem}

-- a walk: a test of a node, by its kind and by what is around it, and what is around its children
module _ (A : Type 0) (test : A → Kind → Node → Bool) (inside : A → Node → ℕ → A) where
  abbrev pub place : A → Node → Option ℕ
  place a n = failing_here (test a (kind_of n) n) n

  abbrev pub first : Node → A → Option ℕ
  first = first_failing A place inside

  abbrev pub Passes : A → Node → Type 0
  Passes a n = first n a ≡ None

  abbrev pub AllPass : (ℕ → A) → List Node → Type 0
  AllPass around ns = AllTell A inside place around 0 ns

  -- a node of these parts
  pub node-passes : (span : Span) (k : Kind) (cs : List Node) (a : A) → test a k (node_of span k cs) ≡ false → AllPass (inside a (node_of span k cs)) cs → Passes a (node_of span k cs)
  node-passes span k cs a h below =
      let n = node_of span k cs in
      node-tells A inside place span k cs a (ap (λ (b : Bool). failing_here b n) (ap (λ z. test a z n) (kind-roll span k cs) ∙ h)) below

  pub node-passed : (span : Span) (k : Kind) (cs : List Node) (a : A) → Passes a (node_of span k cs) → (test a k (node_of span k cs) ≡ false) × AllPass (inside a (node_of span k cs)) cs
  node-passed span k cs a h =
      let n = node_of span k cs in
      let parts = node-told A inside place span k cs a h in
      (sym (ap (λ z. test a z n) (kind-roll span k cs)) ∙ not_failing (test a (kind_of n) n) n parts.0, parts.1)

  pub passes-so : (a b : A) (n : Node) → a ≡ b → Passes a n → Passes b n
  passes-so a b n e h = sym (ap (first n) e) ∙ h

  first-out : (n : Node) (a : A) → first n a ≡ least (place a n) (least_from A (inside a n) 0 (map first (out-Node n).children))
  first-out n a = ap (λ f. f a) (from_leaves_out (A → Option ℕ) (failing_step A place inside) n)

  pub passes-here : (n : Node) (a : A) → Passes a n → test a (kind_of n) n ≡ false
  passes-here n a h =
      not_failing (test a (kind_of n) n) n (neither_least (place a n) (least_from A (inside a n) 0 (map first (out-Node n).children)) (sym (first-out n a) ∙ h)).0

  -- what is around a node matters as far as it tells, and as far as what is around its children does
  pub tells-alike : (n : Node) (a b : A) → test a (kind_of n) n ≡ test b (kind_of n) n → ((i : ℕ) → inside a n i ≡ inside b n i) → first n a ≡ first n b
  tells-alike n a b here below =
      first-out n a
      ∙ (λ j. least (failing_here (here j) n) (least_from A (λ i. below i j) 0 (map first (out-Node n).children)))
      ∙ sym (first-out n b)

  -- ---- lists

  less : (around : ℕ → A) (i : ℕ) (ns : List Node) → AllTell A inside place around (suc i) ns → AllTell A inside place (λ j. around (suc j)) i ns
  less around i [] h = tt
  less around i (n ∷ ns) h = (h.0, less around (suc i) ns h.1)

  further : (around : ℕ → A) (i : ℕ) (ns : List Node) → AllTell A inside place (λ j. around (suc j)) i ns → AllTell A inside place around (suc i) ns
  further around i [] h = tt
  further around i (n ∷ ns) h = (h.0, further around (suc i) ns h.1)

  module _ (own : Node → A) where
    -- what is around an item is as good as this
    abbrev pub AroundItems : (ℕ → A) → List Node → Type 0
    AroundItems around ns = (i : ℕ) (n : Node) → slice_get ns i ≡ Some n → IsItem n → first n (around i) ≡ first n (own n)

    all-each : (around : ℕ → A) (ns : List Node) → Each IsItem ns → AroundItems around ns → AllPass around ns → Each (λ n. Passes (own n) n) ns
    all-each around [] items same h = tt
    all-each around (n ∷ ns) items same h =
        (sym (same 0 n refl items.0) ∙ h.0, all-each (λ i. around (suc i)) ns items.1 (λ i m at is. same (suc i) m at is) (less around 0 ns h.1))

    each-all : (around : ℕ → A) (ns : List Node) → Each IsItem ns → AroundItems around ns → Each (λ n. Passes (own n) n) ns → AllPass around ns
    each-all around [] items same h = tt
    each-all around (n ∷ ns) items same h =
        (same 0 n refl items.0 ∙ h.0, further around 0 ns (each-all (λ i. around (suc i)) ns items.1 (λ i m at is. same (suc i) m at is) h.1))

    -- ---- a module

    -- its list fails nowhere, and around its items is what is as good
    pub record Along (top : A) : Type 0 where
      pub list : (span : Span) (shebang : Option (List ℕ)) (at : Span) (ns : List Node) → test (inside top (module_at span shebang at ns) 0) kind.List (list_at at ns) ≡ false
      pub items : (span : Span) (shebang : Option (List ℕ)) (at : Span) (ns : List Node) → AroundItems (inside (inside top (module_at span shebang at ns) 0) (list_at at ns)) ns

    module _ (top : A) (along : Along top) (span : Span) (shebang : Option (List ℕ)) (at : Span) (ns : List Node) (items : Each IsItem ns) where
      abbrev whole : Node
      whole = module_at span shebang at ns

      pub items-pass : Passes top whole → (test top (kind.Module shebang) whole ≡ false) × Each (λ n. Passes (own n) n) ns
      items-pass h =
          let parts = node-passed span (kind.Module shebang) (list_at at ns ∷ []) top h in
          let listed = node-passed at kind.List ns (inside top whole 0) parts.1.0 in
          (parts.0, all-each (inside (inside top whole 0) (list_at at ns)) ns items (along.items span shebang at ns) listed.1)

      pub module-passes : test top (kind.Module shebang) whole ≡ false → Each (λ n. Passes (own n) n) ns → Passes top whole
      module-passes h each =
          node-passes span (kind.Module shebang) (list_at at ns ∷ []) top h
          (node-passes at kind.List ns (inside top whole 0) (along.list span shebang at ns) (each-all (inside (inside top whole 0) (list_at at ns)) ns items (along.items span shebang at ns) each), tt)
