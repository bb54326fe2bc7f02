-- A tree with explicit parentheses lacks none, and one that lacks none is such a tree.
use Rattle.std.proofs.Common.{◌≡◌, refl, sym, ap, ap₂, subst, ◌∙◌, ◌&&◌, not, List, [], ◌∷◌, map, Bool, true, false, if◌then◌else◌}
use Rattle.ecma_kind.specs.declared.span.Span.{Span}
use Rattle.ecma_kind.specs.declared.kind.Kind.{Kind}
use Rattle.ecma_kind.specs.declared.kind.Kind.TheVariants as kind
use Rattle.ecma_tree.specs.declared.node.Node.{Node, fold-roll-Node, ind-Node}
use Rattle.ecma_tree.specs.Nodes.{dummy_span, node_of}
use Rattle.ecma_print.specs.declared.place.Spot.{Spot}
use Rattle.ecma_print.specs.Places.{free}
use Rattle.ecma_print.specs.Layout.{laid}
use Rattle.ecma_print.specs.Levels.{in_parentheses}
use Rattle.ecma_print.specs.Spots.{first_spots, further_spot}
use Rattle.ecma_print.specs.Explicit.{in_spots, parenthesized, stood, explicit}
use Rattle.ecma_print_parentheses.specs.Lacking.{Complete, all_complete, complete_by, complete_step, complete}
use Rattle.ecma_print_parentheses.specs.Laws.{NoneAreAddedAgain, NoneAreLacking, TreesThatLackNoneStay}
use Rattle.ecma_print_parentheses.proofs.Standing.{if_false}
use Rattle.ecma_print_parentheses.proofs.Asking.{Fits, AllFit, first_fit, further_fits, open_where_free, parentheses_stand_open}
use Rattle.ecma_print_parentheses.proofs.Spotted.{bare', spotted, parentheses_alike, spots_alike, stands_in}

nodes_themselves : (ns : List ((n : Node) × ((complete n).node ≡ n))) → map (λ m. m.node) (map complete (map (λ e. e.0) ns)) ≡ map (λ e. e.0) ns
nodes_themselves [] = refl
nodes_themselves (n ∷ ns) = ap₂ (λ a rest. a ∷ rest) n.1 (nodes_themselves ns)

itself : (n : Node) → (complete n).node ≡ n
itself = ind-Node (λ n. (complete n).node ≡ n) (λ x y is.
    ap (λ m. m.node) (fold-roll-Node Complete complete_step x)
    ∙ ap (λ children. node_of x.span x.kind children)
    (ap (λ z. map (λ m. m.node) (map complete z.children)) (sym is) ∙ (nodes_themselves y.children ∙ ap (λ z. z.children) is)))

laid_children_of : (ns : List Node) → map (λ child. laid child.node) (map complete ns) ≡ map laid ns
laid_children_of [] = refl
laid_children_of (n ∷ ns) = ap₂ (λ a rest. a ∷ rest) (ap laid (itself n)) (laid_children_of ns)

pub complete_in : (span : Span) (k : Kind) (ns : List Node) (spot : Spot) → (complete (node_of span k ns)).at spot ≡ complete_by k (map laid ns) (map complete ns) spot
complete_in span k ns spot = ap (λ m. m.at spot) (fold-roll-Node Complete complete_step (record { span = span; kind = k; children = ns })) ∙ ap (λ l. complete_by k l (map complete ns) spot) (laid_children_of ns)

-- each node in its spot lacks none

LacksNone : Node → Type 0
LacksNone n = (spot : Spot) → Fits spot → (complete ((stood n).at spot)).at spot ≡ true

children_lack_none : (ns : List ((n : Node) × LacksNone n)) (spots : List Spot) (further : Spot) → AllFit spots → Fits further
    → all_complete (map complete (in_spots (map stood (map (λ e. e.0) ns)) spots further)) spots further ≡ true
unfolding LacksNone
children_lack_none [] spots further fit fits = refl
children_lack_none (n ∷ ns) [] further fit fits = ap₂ (λ a b. a && b) (n.1 further fits) (children_lack_none ns [] further fit fits)
children_lack_none (n ∷ ns) (spot ∷ spots) further fit fits = ap₂ (λ a b. a && b) (n.1 spot fit.0) (children_lack_none ns spots further fit.1 fits)

module _ (span : Span) (k : Kind) (ns : List ((n : Node) × LacksNone n)) where
  abbrev own : List Node
  own = map (λ e. e.0) ns

  open_lacks_none : (spot : Spot) → Fits spot → in_parentheses k (map laid own) spot ≡ false → (complete (bare' span k own spot)).at spot ≡ true
  open_lacks_none spot fits opens =
      complete_in span k (spotted k own spot) spot
      ∙ ap₂ (λ b c. not b && c) (parentheses_alike k own spot fits ∙ opens)
      (ap (λ spots. all_complete (map complete (spotted k own spot)) spots (further_spot k spot)) (spots_alike k own spot)
      ∙ children_lack_none ns (first_spots k (map laid own) spot) (further_spot k spot) (first_fit k (map laid own) spot fits) (further_fits k spot fits))

  closed_lacks_none : (spot : Spot) → Fits spot → (complete (parenthesized (bare' span k own (free 0)))).at spot ≡ true
  closed_lacks_none spot fits =
      let n = bare' span k own (free 0) in
      complete_in dummy_span kind.ParenExpr (n ∷ []) spot
      ∙ ap₂ (λ b c. not b && (c && true)) (parentheses_stand_open (map laid (n ∷ [])) spot fits) (open_lacks_none (free 0) refl (open_where_free k (map laid own)))

  either_lacks_none : (spot : Spot) → Fits spot → (b : Bool) → in_parentheses k (map laid own) spot ≡ b → (complete (if b then parenthesized (bare' span k own (free 0)) else bare' span k own spot)).at spot ≡ true
  either_lacks_none spot fits true is = closed_lacks_none spot fits
  either_lacks_none spot fits false is = open_lacks_none spot fits is

  layer_lacks_none : LacksNone (node_of span k own)
  unfolding LacksNone
  layer_lacks_none spot fits = ap (λ n. (complete n).at spot) (stands_in span k own spot) ∙ either_lacks_none spot fits (in_parentheses k (map laid own) spot) refl

all_lack_none : (n : Node) → LacksNone n
all_lack_none = ind-Node LacksNone (λ x y is. subst (λ ns. LacksNone (node_of x.span x.kind ns)) (ap (λ z. z.children) is) (layer_lacks_none x.span x.kind y.children))

pub none_are_lacking : NoneAreLacking
unfolding LacksNone
none_are_lacking m = all_lack_none m (free 0) refl

-- and a node that lacks none in a spot stands in it as it is

Stays : Node → Type 0
Stays n = (spot : Spot) → (complete n).at spot ≡ true → (stood n).at spot ≡ n

and_parts : (a b : Bool) → (a && b) ≡ true → (a ≡ true) × (b ≡ true)
and_parts true b h = (refl, h)
and_parts false b h = cc

not_true : (b : Bool) → not b ≡ true → b ≡ false
not_true true h = cc
not_true false h = refl

children_stay : (ns : List ((n : Node) × Stays n)) (spots : List Spot) (further : Spot) → all_complete (map complete (map (λ e. e.0) ns)) spots further ≡ true → in_spots (map stood (map (λ e. e.0) ns)) spots further ≡ map (λ e. e.0) ns
unfolding Stays
children_stay [] spots further h = refl
children_stay (n ∷ ns) [] further h =
    let parts = and_parts ((complete n.0).at further) (all_complete (map complete (map (λ e. e.0) ns)) [] further) h in
    ap₂ (λ a rest. a ∷ rest) (n.1 further parts.0) (children_stay ns [] further parts.1)
children_stay (n ∷ ns) (spot ∷ spots) further h =
    let parts = and_parts ((complete n.0).at spot) (all_complete (map complete (map (λ e. e.0) ns)) spots further) h in
    ap₂ (λ a rest. a ∷ rest) (n.1 spot parts.0) (children_stay ns spots further parts.1)

layer_stays : (span : Span) (k : Kind) (ns : List ((n : Node) × Stays n)) → Stays (node_of span k (map (λ e. e.0) ns))
unfolding Stays
layer_stays span k ns spot h =
    let own = map (λ e. e.0) ns in
    let parts = and_parts (not (in_parentheses k (map laid own) spot)) (all_complete (map complete own) (first_spots k (map laid own) spot) (further_spot k spot)) (sym (complete_in span k own spot) ∙ h) in
    stands_in span k own spot
    ∙ (if_false (in_parentheses k (map laid own) spot) (parenthesized (bare' span k own (free 0))) (bare' span k own spot) (not_true (in_parentheses k (map laid own) spot) parts.0)
    ∙ ap (node_of span k) (children_stay ns (first_spots k (map laid own) spot) (further_spot k spot) parts.1))

all_stay : (n : Node) → Stays n
all_stay = ind-Node Stays (λ x y is. subst (λ ns. Stays (node_of x.span x.kind ns)) (ap (λ z. z.children) is) (layer_stays x.span x.kind y.children))

pub trees_that_lack_none_stay : TreesThatLackNoneStay
unfolding Stays
trees_that_lack_none_stay m h = all_stay m (free 0) h

pub none_are_added_again : NoneAreAddedAgain
none_are_added_again m = trees_that_lack_none_stay (explicit m) (none_are_lacking m)
