-- The same parentheses are nodes in a tree with source texts.
use Rattle.std.proofs.Common.{◌≡◌, ◌∙◌, Bool, true, false, List, [], ◌∷◌, map, refl, sym, ap, ap₂, subst, if◌then◌else◌}
use Rattle.ecma_kind.specs.declared.kind.Kind.{Kind}
use Rattle.ecma_kind.specs.declared.kind.Kind.TheVariants as kind
use Rattle.ecma_kind.specs.declared.span.Span.{Span}
use Rattle.ecma_tree.specs.declared.node.Node.{Node, Node-F, fold-roll-Node, ind-Node, roll-Node}
use Rattle.ecma_tree.specs.Changing.{changed_here}
use Rattle.ecma_tree.specs.Nodes.{dummy_span, node_of}
use Rattle.ecma_scope.specs.Laws.{without_contexts}
use Rattle.ecma_print.specs.declared.place.Spot.{Spot}
use Rattle.ecma_print.specs.Expressions.{object_beside}
use Rattle.ecma_print.specs.Explicit.{Standing, bare, explicit, in_spots, laid_children, parenthesized, stand_step, standing, stood}
use Rattle.ecma_print.specs.Laid.{Laid}
use Rattle.ecma_print.specs.Levels.{in_parentheses}
use Rattle.ecma_print.specs.Places.{alone, left}
use Rattle.ecma_print.specs.Precedences as precedence
use Rattle.ecma_print.specs.Spots.{first_spots, further_spot, has_computed_key}
use Rattle.ecma_round_trip_literals.specs.Sources.{with_source}
use Rattle.ecma_round_trip_literals.proofs.Layouts.{alike, parentheses_told}
use Rattle.ecma_round_trip_literals.proofs.Moved.{to}
use Rattle.ecma_round_trip_literals.proofs.PlainTrees.{commutes}
use Rattle.ecma_round_trip_literals.proofs.Telling.{is_computed_told, told}
use Rattle.ecma_source_texts.specs.Laws.{SourcesDoNotMatterToParentheses}

-- a node that is changed
to_node : (span : Span) (k : Kind) (cs : List Node) → to (node_of span k cs) ≡ node_of span (with_source k) (map to cs)
to_node span k cs = fold-roll-Node Node (changed_here (λ span. span) with_source) (record { span = span; kind = k; children = cs })

-- where children stand

computed_told : (children : List Laid) → has_computed_key (map told children) ≡ has_computed_key children
computed_told [] = refl
computed_told (a ∷ []) = refl
computed_told (a ∷ b ∷ []) = is_computed_told b.kind
computed_told (a ∷ b ∷ c ∷ more) = refl

spots_told : (k : Kind) (children : List Laid) (spot : Spot) → first_spots (with_source k) (map told children) spot ≡ first_spots k children spot
spots_told (kind.Str value raw) children spot = refl
spots_told (kind.Number value raw) children spot = refl
spots_told (kind.BigInt value raw) children spot = refl
spots_told kind.MemberExpr children spot = ap (λ computed. left spot precedence.left_hand_side (object_beside spot.beside computed) ∷ []) (computed_told children)
spots_told (kind.UpdateExpr op true) children spot = refl
spots_told (kind.UpdateExpr op false) children spot = refl
spots_told _ children spot = refl

further_told : (k : Kind) (spot : Spot) → further_spot (with_source k) spot ≡ further_spot k spot
further_told (kind.Str value raw) spot = refl
further_told (kind.Number value raw) spot = refl
further_told (kind.BigInt value raw) spot = refl
further_told _ spot = refl

-- a node that stands, with source texts
abbrev moved : Standing → Standing
moved child = record { node = to child.node; at = λ spot. to (child.at spot) }

laid_moved : (children : List Standing) → laid_children (map moved children) ≡ map told (laid_children children)
laid_moved [] = refl
laid_moved (c ∷ cs) = ap₂ (λ (a : Laid) (more : List Laid). a ∷ more) (alike c.node) (laid_moved cs)

nodes_moved : (children : List Standing) → map (λ child. child.node) (map moved children) ≡ map to (map (λ child. child.node) children)
nodes_moved [] = refl
nodes_moved (c ∷ cs) = ap (λ (more : List Node). to c.node ∷ more) (nodes_moved cs)

spots_moved : (children : List Standing) (spots : List Spot) (further : Spot) → in_spots (map moved children) spots further ≡ map to (in_spots children spots further)
spots_moved [] spots further = refl
spots_moved (c ∷ cs) [] further = ap (λ (more : List Node). to (c.at further) ∷ more) (spots_moved cs [] further)
spots_moved (c ∷ cs) (spot ∷ spots) further = ap (λ (more : List Node). to (c.at spot) ∷ more) (spots_moved cs spots further)

module _ (span : Span) (k : Kind) (cs : List Standing) where
  bare_moved : (spot : Spot) → bare span (with_source k) (map moved cs) spot ≡ to (bare span k cs spot)
  bare_moved spot =
      ap₂ (λ (spots : List Spot) (further : Spot). node_of span (with_source k) (in_spots (map moved cs) spots further))
      (ap (λ (ls : List Laid). first_spots (with_source k) ls spot) (laid_moved cs) ∙ spots_told k (laid_children cs) spot) (further_told k spot)
      ∙ ap (node_of span (with_source k)) (spots_moved cs (first_spots k (laid_children cs) spot) (further_spot k spot))
      ∙ sym (to_node span k (in_spots cs (first_spots k (laid_children cs) spot) (further_spot k spot)))

  parentheses_moved : (spot : Spot) → in_parentheses (with_source k) (laid_children (map moved cs)) spot ≡ in_parentheses k (laid_children cs) spot
  parentheses_moved spot = ap (λ (ls : List Laid). in_parentheses (with_source k) ls spot) (laid_moved cs) ∙ parentheses_told k (laid_children cs) spot

  chosen : (b : Bool) (inner whole : Node) → (if b then parenthesized (to inner) else to whole) ≡ to (if b then parenthesized inner else whole)
  chosen true inner whole = sym (to_node dummy_span kind.ParenExpr (inner ∷ []))
  chosen false inner whole = refl

  standing_moved : (spot : Spot) → standing span (with_source k) (map moved cs) spot ≡ to (standing span k cs spot)
  standing_moved spot =
      (λ j. if parentheses_moved spot j then parenthesized (bare_moved alone j) else bare_moved spot j) ∙ chosen (in_parentheses k (laid_children cs) spot) (bare span k cs alone) (bare span k cs spot)

  step_moved : stand_step (record { span = span; kind = with_source k; children = map moved cs }) ≡ moved (stand_step (record { span = span; kind = k; children = cs }))
  step_moved = λ j. record {
    node = (ap (node_of span (with_source k)) (nodes_moved cs) ∙ sym (to_node span k (map (λ child. child.node) cs))) j;
    at = λ spot. standing_moved spot j;
  }

-- a tree

abbrev Stands : Node → Type 0
Stands n = stood (to n) ≡ moved (stood n)

all_stand : (ns : List ((n : Node) × Stands n)) → map stood (map to (map (λ e. e.0) ns)) ≡ map moved (map stood (map (λ e. e.0) ns))
all_stand [] = refl
all_stand (n ∷ ns) = ap₂ (λ (a : Standing) (more : List Standing). a ∷ more) n.1 (all_stand ns)

node_stands : (x : Node-F Node) → map stood (map to x.children) ≡ map moved (map stood x.children) → Stands (roll-Node x)
node_stands x children =
    ap stood (fold-roll-Node Node (changed_here (λ span. span) with_source) x)
    ∙ fold-roll-Node Standing stand_step (record { span = x.span; kind = with_source x.kind; children = map to x.children })
    ∙ ap (λ (cs : List Standing). stand_step (record { span = x.span; kind = with_source x.kind; children = cs })) children
    ∙ step_moved x.span x.kind (map stood x.children)
    ∙ ap moved (sym (fold-roll-Node Standing stand_step x))

stands : (n : Node) → Stands n
stands = ind-Node Stands (λ x y is. node_stands x (subst (λ (z : Node-F Node). map stood (map to z.children) ≡ map moved (map stood z.children)) is (all_stand y.children)))

pub sources_do_not_matter_to_parentheses : SourcesDoNotMatterToParentheses
sources_do_not_matter_to_parentheses tree = ap explicit (commutes tree) ∙ ap (λ (s : Standing). s.at alone) (stands (without_contexts tree))
