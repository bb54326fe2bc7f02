-- What no node of a tree is where it stands, none is in the tree with explicit parentheses.
use Rattle.std.proofs.Common.{◌≡◌, ◌∙◌, if◌then◌else◌, ℕ, suc, Bool, true, false, List, [], ◌∷◌, map, Option, None, refl, sym, ap, ap₂, subst}
use Rattle.ecma_kind.specs.declared.span.Span.{Span}
use Rattle.ecma_kind.specs.declared.kind.Kind.{Kind}
use Rattle.ecma_kind.specs.declared.kind.Kind.TheVariants as kind
use Rattle.ecma_tree.specs.declared.node.Node.{Node, Node-F, ind-Node, roll-Node}
use Rattle.ecma_tree.specs.Nodes.{dummy_span, node_of}
use Rattle.ecma_rules.specs.Failing.{failing_here, failing_step, least, least_from}
use Rattle.ecma_print.specs.declared.place.Spot.{Spot}
use Rattle.ecma_print.specs.Places.{free}
use Rattle.ecma_print.specs.Laid.{Laid}
use Rattle.ecma_print.specs.Levels.{in_parentheses}
use Rattle.ecma_print.specs.Explicit.{Standing, bare, laid_children, parenthesized, stood}
use Rattle.ecma_print.specs.Spots.{first_spots, further_spot}
use Rattle.ecma_print_parentheses.proofs.Standing.{stands}
use Rattle.ecma_print_parentheses.proofs.Asking.{AllFit, Fits, first_fit, further_fits}
use Rattle.ecma_print_fits.proofs.Parts.{neither_least, not_failing, shifted}
use Rattle.ecma_print_fits.proofs.Explicit.{spotted}
use Rattle.ecma_print_fits.proofs.Holding.{closed, closes}
use Rattle.ecma_tree.specs.Layers.{from_leaves}
use Rattle.ecma_tree.proofs.Layers.{from_leaves-roll}

-- what is known of each of these where it stands
abbrev pub AllKnown : (A : Type 0) → (A → Node → Type 0) → (ℕ → A) → List Node → Type 0
AllKnown A P a_of [] = Unit {0}
AllKnown A P a_of (n ∷ ns) = P (a_of 0) n × AllKnown A P (λ i. a_of (suc i)) ns

-- over the tree: a test of nodes and of what stands around them, that a node passes in which children stand in their spots, if it passed it, and that parentheses
-- and what stands in them pass; of nodes of which something is known where they stand, and whose children have the same around them in parentheses
module _ (A : Type 0) (P : A → Node → Type 0) (T : A → Node → Bool) (inside : A → Node → ℕ → A) (known : (a : A) (x : Node-F Node) → P a (roll-Node x) → AllKnown A P (inside a (roll-Node x)) x.children)
    (same : (a : A) (span : Span) (k : Kind) (ns : List Node) (spots : List Spot) (further : Spot) → AllFit spots → Fits further → (i : ℕ) → inside a (node_of span k (spotted ns spots further)) i ≡ inside a (node_of span k ns) i)
    (here : (a : A) (span : Span) (k : Kind) (ns : List Node) (children : List Laid) (spot : Spot) → Fits spot → P a (node_of span k ns) → T a (node_of span k ns) ≡ false → T a (node_of span k (spotted ns (first_spots k children spot) (further_spot k spot))) ≡ false)
    (never : (a : A) (n : Node) → T a (parenthesized n) ≡ false) (around : (a : A) (x : Node-F Node) (n : Node) → closes x.kind ≡ true → P a (roll-Node x) → (i : ℕ) → inside (inside a (parenthesized n) 0) (roll-Node x) i ≡ inside a (roll-Node x) i)
    (within : (a : A) (x : Node-F Node) (n : Node) → closes x.kind ≡ true → T a (roll-Node x) ≡ false → T (inside a (parenthesized n) 0) (roll-Node x) ≡ false) where
  abbrev tell : A → Node → Option ℕ
  tell a n = failing_here (T a n) n

  abbrev walk : Node → A → Option ℕ
  walk = from_leaves (A → Option ℕ) (failing_step A tell inside)

  walk_parts : (x : Node-F Node) (a : A) → walk (roll-Node x) a ≡ None → (T a (roll-Node x) ≡ false) × (least_from A (inside a (roll-Node x)) 0 (map walk x.children) ≡ None)
  walk_parts x a h =
      let n = roll-Node x in
      let e = ap (λ f. f a) (from_leaves-roll (A → Option ℕ) (failing_step A tell inside) x) in
      let p = neither_least (tell a n) (least_from A (inside a n) 0 (map walk x.children)) (sym e ∙ h) in
      (not_failing (T a n) n p.0, p.1)

  walk_whole : (x : Node-F Node) (a : A) → T a (roll-Node x) ≡ false → least_from A (inside a (roll-Node x)) 0 (map walk x.children) ≡ None → walk (roll-Node x) a ≡ None
  walk_whole x a h g = ap (λ f. f a) (from_leaves-roll (A → Option ℕ) (failing_step A tell inside) x) ∙ ap₂ least (ap (λ b. failing_here b (roll-Node x)) h) g

  abbrev Kept : Node → Type 0
  Kept n = (a : A) → P a n → walk n a ≡ None → (spot : Spot) → Fits spot → walk ((stood n).at spot) a ≡ None

  abbrev AllKept : List Node → Type 0
  AllKept ns = (a_of b_of : ℕ → A) → ((i : ℕ) → b_of i ≡ a_of i) → AllKnown A P a_of ns → least_from A a_of 0 (map walk ns) ≡ None → (spots : List Spot) (further : Spot) → AllFit spots → Fits further → least_from A b_of 0 (map walk (spotted ns spots further)) ≡ None

  all_kept : (es : List ((n : Node) × Kept n)) → AllKept (map (λ e. e.0) es)
  all_kept [] a_of b_of alike p h spots further fit fits = refl
  all_kept (e ∷ es) a_of b_of alike p h [] further fit fits =
      let ns = map (λ e. e.0) es in
      let t = neither_least (walk e.0 (a_of 0)) (least_from A a_of 1 (map walk ns)) h in
      let rest = all_kept es (λ i. a_of (suc i)) (λ i. b_of (suc i)) (λ i. alike (suc i)) p.1 (sym (shifted A a_of 0 (map walk ns)) ∙ t.1) [] further fit fits in
      ap₂ least (ap (walk ((stood e.0).at further)) (alike 0) ∙ e.1 (a_of 0) p.0 t.0 further fits) (shifted A b_of 0 (map walk (spotted ns [] further)) ∙ rest)
  all_kept (e ∷ es) a_of b_of alike p h (spot ∷ spots) further fit fits =
      let ns = map (λ e. e.0) es in
      let t = neither_least (walk e.0 (a_of 0)) (least_from A a_of 1 (map walk ns)) h in
      let rest = all_kept es (λ i. a_of (suc i)) (λ i. b_of (suc i)) (λ i. alike (suc i)) p.1 (sym (shifted A a_of 0 (map walk ns)) ∙ t.1) spots further fit.1 fits in
      ap₂ least (ap (walk ((stood e.0).at spot)) (alike 0) ∙ e.1 (a_of 0) p.0 t.0 spot fit.0) (shifted A b_of 0 (map walk (spotted ns spots further)) ∙ rest)

  module _ (x : Node-F Node) (below : AllKept x.children) (a : A) (p : P a (roll-Node x)) (h : walk (roll-Node x) a ≡ None) where
    abbrev own : List Standing
    own = map stood x.children

    abbrev stood_at : Spot → Node-F Node
    stood_at spot = record { span = x.span; kind = x.kind; children = spotted x.children (first_spots x.kind (laid_children own) spot) (further_spot x.kind spot) }

    fine : (spot : Spot) → Fits spot → T a (roll-Node (stood_at spot)) ≡ false
    fine spot fits = here a x.span x.kind x.children (laid_children own) spot fits p (walk_parts x a h).0

    bare_kept : (spot : Spot) → Fits spot → (b : A) → ((i : ℕ) → inside b (roll-Node x) i ≡ inside a (roll-Node x) i) → T b (roll-Node (stood_at spot)) ≡ false → walk (roll-Node (stood_at spot)) b ≡ None
    bare_kept spot fits b alike passes =
        let spots = first_spots x.kind (laid_children own) spot in
        let further = further_spot x.kind spot in
        let fit = first_fit x.kind (laid_children own) spot fits in
        let more = further_fits x.kind spot fits in
        walk_whole (stood_at spot) b passes
        (below (inside a (roll-Node x)) (inside b (roll-Node (stood_at spot))) (λ i. same b x.span x.kind x.children spots further fit more i ∙ alike i) (known a x p) (walk_parts x a h).1 spots further fit more)

    closed_kept : closes x.kind ≡ true → walk (parenthesized (roll-Node (stood_at (free 0)))) a ≡ None
    closed_kept c =
        let y = stood_at (free 0) in
        let inner = roll-Node y in
        walk_whole (record { span = dummy_span; kind = kind.ParenExpr; children = inner ∷ [] }) a (never a inner)
        (ap₂ least (bare_kept (free 0) refl (inside a (parenthesized inner) 0) (around a x inner c p) (within a y inner c (fine (free 0) refl))) refl)

    either_kept : (b : Bool) (spot : Spot) → Fits spot → (b ≡ true → closes x.kind ≡ true) → walk (if b then parenthesized (bare x.span x.kind own (free 0)) else bare x.span x.kind own spot) a ≡ None
    either_kept true spot fits c = closed_kept (c refl)
    either_kept false spot fits c = bare_kept spot fits a (λ i. refl) (fine spot fits)

  node_kept : (x : Node-F Node) → AllKept x.children → Kept (roll-Node x)
  node_kept x below a p h spot fits =
      let ls = laid_children (map stood x.children) in
      ap (λ m. walk m a) (stands x spot) ∙ either_kept x below a p h (in_parentheses x.kind ls spot) spot fits (λ e. closed x.kind ls spot fits e)

  pub kept : (n : Node) → Kept n
  kept = ind-Node Kept (λ x y is. node_kept x (subst (λ (z : Node-F Node). AllKept z.children) is (all_kept y.children)))
