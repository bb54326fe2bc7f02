-- What no node of a tree is, none is in the tree with explicit parentheses, where it does not tell by the children that may stand in these.
use Rattle.std.proofs.Common.{◌≡◌, ◌∙◌, if◌then◌else◌, ℕ, zero, suc, Bool, true, false, List, [], ◌∷◌, map, Option, Some, None, refl, sym, ap, ap₂, subst, slice_get}
use Rattle.ecma_kind.specs.declared.span.Span.{Span}
use Rattle.ecma_kind.specs.declared.kind.Kind.{Kind}
use Rattle.ecma_kind.specs.declared.kind.Kind.TheVariants as kind
use Rattle.ecma_tree.specs.declared.node.Node.{Node, Node-F, ind-Node, roll-Node}
use Rattle.ecma_tree.specs.Nodes.{dummy_span, node_of}
use Rattle.ecma_rules.specs.Children.{holds_of, kind_of, of_kind}
use Rattle.ecma_rules.specs.Failing.{failing_here, failing_step, least, least_from}
use Rattle.ecma_print.specs.declared.place.Spot.{Spot}
use Rattle.ecma_print.specs.Places.{free}
use Rattle.ecma_print.specs.Laid.{Laid}
use Rattle.ecma_print.specs.Levels.{in_parentheses}
use Rattle.ecma_print.proofs.LaidOut.{laid_kind}
use Rattle.ecma_print.specs.Explicit.{Standing, bare, in_spots, laid_children, parenthesized, stood}
use Rattle.ecma_print.specs.Spots.{first_spots, further_spot}
use Rattle.ecma_print_parentheses.proofs.Standing.{stands}
use Rattle.ecma_print_parentheses.proofs.Asking.{AllFit, Fits, first_fit, further_fits, said_in_spot}
use Rattle.ecma_fits.specs.declared.unfit.Where.{Where}
use Rattle.ecma_fits.specs.Fitting.{where_in}
use Rattle.ecma_print_fits.proofs.Parts.{neither_least, not_failing, shifted}
use Rattle.ecma_tree.specs.Layers.{from_leaves}
use Rattle.ecma_tree.proofs.Layers.{from_leaves-roll}

-- children in their spots
abbrev pub spotted : List Node → List Spot → Spot → List Node
spotted ns spots further = in_spots (map stood ns) spots further

-- a test of nodes that parentheses round one in its spot do not change
abbrev pub IsKept : (Node → Bool) → Type 0
IsKept test = (n : Node) (spot : Spot) → Fits spot → test ((stood n).at spot) ≡ test n

pub kept_at : (test : Node → Bool) → IsKept test → (ns : List Node) (spots : List Spot) (further : Spot) → AllFit spots → Fits further → (i : ℕ) → holds_of test (slice_get (spotted ns spots further) i) ≡ holds_of test (slice_get ns i)
kept_at test kept [] spots further fit fits i = refl
kept_at test kept (n ∷ ns) [] further fit fits zero = kept n further fits
kept_at test kept (n ∷ ns) [] further fit fits (suc i) = kept_at test kept ns [] further fit fits i
kept_at test kept (n ∷ ns) (spot ∷ spots) further fit fits zero = kept n spot fit.0
kept_at test kept (n ∷ ns) (spot ∷ spots) further fit fits (suc i) = kept_at test kept ns spots further fit.1 fits i

by_kind : (is : Kind → Bool) (o : Option Node) → of_kind is o ≡ holds_of (λ n. is (kind_of n)) o
by_kind is None = refl
by_kind is (Some n) = refl

pub kind_kept : (is : Kind → Bool) → is kind.ParenExpr ≡ false → ((k : Kind) (children : List Laid) (spot : Spot) → Fits spot → is k ≡ true → in_parentheses k children spot ≡ false) → IsKept (λ n. is (kind_of n))
kind_kept is none opens n spot fits = ap is (sym (laid_kind ((stood n).at spot))) ∙ (said_in_spot is none spot (λ k children. opens k children spot fits) n ∙ ap is (laid_kind n))

pub kind_at : (is : Kind → Bool) → IsKept (λ n. is (kind_of n)) → (ns : List Node) (spots : List Spot) (further : Spot) → AllFit spots → Fits further → (i : ℕ) → of_kind is (slice_get (spotted ns spots further) i) ≡ of_kind is (slice_get ns i)
kind_at is kept ns spots further fit fits i =
    by_kind is (slice_get (spotted ns spots further) i) ∙ (kept_at (λ n. is (kind_of n)) kept ns spots further fit fits i ∙ sym (by_kind is (slice_get ns i)))

-- what is known of each of these
abbrev pub AllHold : (Node → Type 0) → List Node → Type 0
AllHold P [] = Unit {0}
AllHold P (n ∷ ns) = P n × AllHold P ns

-- over the tree: a test that no parentheses pass, and that a node passes in which children stand in their spots, if it passed it; of nodes of which something is
-- known that holds of their children too
module _ (P : Node → Type 0) (T : Node → Bool) (known : (x : Node-F Node) → P (roll-Node x) → AllHold P x.children) (never : (n : Node) → T (parenthesized n) ≡ false)
    (here : (span : Span) (k : Kind) (ns : List Node) (children : List Laid) (spot : Spot) → Fits spot → P (node_of span k ns) → T (node_of span k ns) ≡ false → T (node_of span k (spotted ns (first_spots k children spot) (further_spot k spot))) ≡ false) where
  abbrev tell : Where → Node → Option ℕ
  tell w n = failing_here (T n) n

  abbrev walk : Node → Where → Option ℕ
  walk = from_leaves (Where → Option ℕ) (failing_step Where tell where_in)

  walk_parts : (x : Node-F Node) (w : Where) → walk (roll-Node x) w ≡ None → (T (roll-Node x) ≡ false) × (least_from Where (where_in w (roll-Node x)) 0 (map walk x.children) ≡ None)
  walk_parts x w h =
      let n = roll-Node x in
      let e = ap (λ f. f w) (from_leaves-roll (Where → Option ℕ) (failing_step Where tell where_in) x) in
      let a = neither_least (tell w n) (least_from Where (where_in w n) 0 (map walk x.children)) (sym e ∙ h) in
      (not_failing (T n) n a.0, a.1)

  walk_whole : (x : Node-F Node) (w : Where) → T (roll-Node x) ≡ false → least_from Where (where_in w (roll-Node x)) 0 (map walk x.children) ≡ None → walk (roll-Node x) w ≡ None
  walk_whole x w h g =
      ap (λ f. f w) (from_leaves-roll (Where → Option ℕ) (failing_step Where tell where_in) x) ∙ ap₂ least (ap (λ b. failing_here b (roll-Node x)) h) g

  abbrev Kept : Node → Type 0
  Kept n = P n → (w : Where) → walk n w ≡ None → (spot : Spot) → Fits spot → (v : Where) → walk ((stood n).at spot) v ≡ None

  abbrev AllKept : List Node → Type 0
  AllKept ns = AllHold P ns → (w_of : ℕ → Where) → least_from Where w_of 0 (map walk ns) ≡ None → (spots : List Spot) (further : Spot) → AllFit spots → Fits further → (v_of : ℕ → Where) → least_from Where v_of 0 (map walk (spotted ns spots further)) ≡ None

  all_kept : (es : List ((n : Node) × Kept n)) → AllKept (map (λ e. e.0) es)
  all_kept [] p w_of h spots further fit fits v_of = refl
  all_kept (e ∷ es) p w_of h [] further fit fits v_of =
      let ns = map (λ e. e.0) es in
      let a = neither_least (walk e.0 (w_of 0)) (least_from Where w_of 1 (map walk ns)) h in
      let rest = all_kept es p.1 (λ i. w_of (suc i)) (sym (shifted Where w_of 0 (map walk ns)) ∙ a.1) [] further fit fits (λ i. v_of (suc i)) in
      ap₂ least (e.1 p.0 (w_of 0) a.0 further fits (v_of 0)) (shifted Where v_of 0 (map walk (spotted ns [] further)) ∙ rest)
  all_kept (e ∷ es) p w_of h (spot ∷ spots) further fit fits v_of =
      let ns = map (λ e. e.0) es in
      let a = neither_least (walk e.0 (w_of 0)) (least_from Where w_of 1 (map walk ns)) h in
      let rest = all_kept es p.1 (λ i. w_of (suc i)) (sym (shifted Where w_of 0 (map walk ns)) ∙ a.1) spots further fit.1 fits (λ i. v_of (suc i)) in
      ap₂ least (e.1 p.0 (w_of 0) a.0 spot fit.0 (v_of 0)) (shifted Where v_of 0 (map walk (spotted ns spots further)) ∙ rest)

  module _ (x : Node-F Node) (below : AllKept x.children) (is : P (roll-Node x)) (w : Where) (h : walk (roll-Node x) w ≡ None) where
    abbrev own : List Standing
    own = map stood x.children

    bare_kept : (spot : Spot) → Fits spot → (v : Where) → walk (bare x.span x.kind own spot) v ≡ None
    bare_kept spot fits v =
        let told = walk_parts x w h in
        let spots = first_spots x.kind (laid_children own) spot in
        let further = further_spot x.kind spot in
        let y : Node-F Node = record { span = x.span; kind = x.kind; children = spotted x.children spots further } in
        let fit = first_fit x.kind (laid_children own) spot fits in
        let more = further_fits x.kind spot fits in
        walk_whole y v (here x.span x.kind x.children (laid_children own) spot fits is told.0) (below (known x is) (where_in w (roll-Node x)) told.1 spots further fit more (where_in v (roll-Node y)))

    either_kept : (b : Bool) (spot : Spot) → Fits spot → (v : Where) → walk (if b then parenthesized (bare x.span x.kind own (free 0)) else bare x.span x.kind own spot) v ≡ None
    either_kept true spot fits v =
        let inner = bare x.span x.kind own (free 0) in
        let y : Node-F Node = record { span = dummy_span; kind = kind.ParenExpr; children = inner ∷ [] } in
        walk_whole y v (never inner) (ap₂ least (bare_kept (free 0) refl (where_in v (roll-Node y) 0)) refl)
    either_kept false spot fits v = bare_kept spot fits v

  node_kept : (x : Node-F Node) → AllKept x.children → Kept (roll-Node x)
  node_kept x below is w h spot fits v = ap (λ m. walk m v) (stands x spot) ∙ either_kept x below is w h (in_parentheses x.kind (laid_children (map stood x.children)) spot) spot fits v

  pub kept : (n : Node) → Kept n
  kept = ind-Node Kept (λ x y is. node_kept x (subst (λ (z : Node-F Node). AllKept z.children) is (all_kept y.children)))
