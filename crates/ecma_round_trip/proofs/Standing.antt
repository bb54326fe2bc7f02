-- What holds of the kinds of all nodes, holds with explicit parentheses.
use Rattle.std.proofs.Common.{◌≡◌, refl, sym, subst, Bool, true, false, ◌||◌, if◌then◌else◌, List, [], ◌∷◌, map, ℕ, suc}
use Rattle.ecma_kind.specs.declared.kind.Kind.{Kind}
use Rattle.ecma_kind.specs.declared.kind.Kind.TheVariants as kind
use Rattle.ecma_tree.specs.Finding.{enters_all, finds, finds_from, finds_here}
use Rattle.ecma_tree.specs.declared.node.Node.{Node, Node-F, fold-roll-Node, ind-Node, out-Node, roll-Node}
use Rattle.ecma_tree.specs.declared.node.Node.TheViews.{out-roll-Node}
use Rattle.ecma_tree.specs.Nodes.{dummy_span}
use Rattle.ecma_text_leaves.specs.Everywhere.{Each, Everywhere, everywhere, more, none}
use Rattle.ecma_print.specs.declared.place.Spot.{Spot}
use Rattle.ecma_print.specs.Places.{free}
use Rattle.ecma_print.specs.Levels.{in_parentheses}
use Rattle.ecma_print.specs.Explicit.{bare, explicit, in_spots, laid_children, parenthesized, stood}
use Rattle.ecma_print.specs.Spots.{first_spots, further_spot}
use Rattle.ecma_print_parentheses.proofs.Standing.{stands}

module _ (P : Kind → Type 0) where
  pub parts : {n : Node} → Everywhere P n → P (out-Node n).kind × Each P (out-Node n).children
  parts (everywhere at k {children = cs} p below) =
      let e = out-roll-Node (record { span = at; kind = k; children = cs }) in
      (subst (λ x. P x.kind) (sym e) p, subst (λ x. Each P x.children) (sym e) below)

  module _ (round : P kind.ParenExpr) where
    abbrev Kept : Node → Type 0
    Kept n = Everywhere P n → (spot : Spot) → Everywhere P ((stood n).at spot)

    abbrev AllKept : List Node → Type 0
    AllKept ns = Each P ns → (spots : List Spot) (further : Spot) → Each P (in_spots (map stood ns) spots further)

    all_kept : (es : List ((n : Node) × Kept n)) → AllKept (map (λ e. e.0) es)
    all_kept [] none spots further = none
    all_kept (e ∷ es) (more h hs) [] further = more (e.1 h further) (all_kept es hs [] further)
    all_kept (e ∷ es) (more h hs) (spot ∷ spots) further = more (e.1 h spot) (all_kept es hs spots further)

    module _ (x : Node-F Node) (below : AllKept x.children) (h : Everywhere P (roll-Node x)) where
      own : (P x.kind) × (Each P x.children)
      own = let p = parts h in (subst (λ z. P z.kind) (out-roll-Node x) p.0, subst (λ z. Each P z.children) (out-roll-Node x) p.1)

      bare_kept : (spot : Spot) → Everywhere P (bare x.span x.kind (map stood x.children) spot)
      bare_kept spot = everywhere x.span x.kind own.0 (below own.1 (first_spots x.kind (laid_children (map stood x.children)) spot) (further_spot x.kind spot))

      either_kept : (b : Bool) (spot : Spot) → Everywhere P (if b then parenthesized (bare x.span x.kind (map stood x.children) (free 0)) else bare x.span x.kind (map stood x.children) spot)
      either_kept true spot = everywhere dummy_span kind.ParenExpr round (more (bare_kept (free 0)) none)
      either_kept false spot = bare_kept spot

    node_kept : (x : Node-F Node) → AllKept x.children → Kept (roll-Node x)
    node_kept x below h spot = subst (Everywhere P) (sym (stands x spot)) (either_kept x below h (in_parentheses x.kind (laid_children (map stood x.children)) spot) spot)

    kept : (n : Node) → Kept n
    kept = ind-Node Kept (λ x y is. node_kept x (subst (λ (z : Node-F Node). AllKept z.children) is (all_kept y.children)))

    pub everywhere_explicit : (tree : Node) → Everywhere P tree → Everywhere P (explicit tree)
    everywhere_explicit tree h = kept tree h (free 0)

-- a kind that no node has is not found
module _ (P : Kind → Type 0) (is : Kind → Bool) (not_it : (k : Kind) → P k → is k ≡ false) where
  neither : (a b : Bool) → a ≡ false → b ≡ false → (a || b) ≡ false
  neither true b h g = h
  neither false b h g = g

  mutual
    pub not_found : {n : Node} → Everywhere P n → finds is enters_all n ≡ false
    not_found (everywhere at k {children = cs} p below) =
        subst (λ b. b ≡ false) (sym (fold-roll-Node Bool (finds_here is enters_all) (record { span = at; kind = k; children = cs })))
        (neither (is k) (finds_from (enters_all k) 0 (map (finds is enters_all) cs)) (not_it k p) (none_found k 0 below))

    none_found : {ns : List Node} (k : Kind) (i : ℕ) → Each P ns → finds_from (enters_all k) i (map (finds is enters_all) ns) ≡ false
    none_found k i none = refl
    none_found k i (more {n} {ns} h hs) = neither (finds is enters_all n) (finds_from (enters_all k) (suc i) (map (finds is enters_all) ns)) (not_found h) (none_found k (suc i) hs)
