-- The children of a node in their spots, and a layer in its spot.
use Rattle.std.proofs.Common.{◌≡◌, refl, ap, ◌∙◌, ◌&&◌, ◌||◌, ltb, List, [], ◌∷◌, map, true, false, if◌then◌else◌}
use Rattle.ecma_kind.specs.declared.kind.Kind.{Kind}
use Rattle.ecma_kind.specs.declared.kind.Kind.TheVariants as kind
use Rattle.ecma_kind.specs.declared.span.Span.{Span}
use Rattle.ecma_tree.specs.declared.node.Node.{Node}
use Rattle.ecma_tree.specs.Nodes.{node_of}
use Rattle.ecma_print.specs.declared.place.Beside.TheVariants.{NoNeighbor}
use Rattle.ecma_print.specs.declared.place.Spot.{Spot}
use Rattle.ecma_print.specs.Places.{free, left, opens_a_block, is_headed}
use Rattle.ecma_print.specs.Expressions.{object_beside}
use Rattle.ecma_print.specs.Laid.{is_computed}
use Rattle.ecma_print.specs.Layout.{laid}
use Rattle.ecma_print.specs.Levels.{level_of, is_misread, in_parentheses}
use Rattle.ecma_print.specs.Spots.{first_spots, further_spot}
use Rattle.ecma_print.specs.Explicit.{in_spots, parenthesized, stood}
use Rattle.ecma_print_parentheses.proofs.Standing.{laid_children_of, stands}
use Rattle.ecma_print_parentheses.proofs.Asking.{Fits, absent_in_spot, object_pattern_in_spot, said_where_free}

-- the children of a node in their spots
abbrev pub spotted : Kind → List Node → Spot → List Node
spotted k ns spot = in_spots (map stood ns) (first_spots k (map laid ns) spot) (further_spot k spot)

-- children in their spots are misread where they are, and stand in the same spots

pub misread_alike : (k : Kind) (ns : List Node) (spot : Spot) → Fits spot → is_misread k (map laid (spotted k ns spot)) spot ≡ is_misread k (map laid ns) spot
misread_alike kind.NewExpr [] spot h = refl
misread_alike kind.NewExpr (a ∷ []) spot h = refl
misread_alike kind.NewExpr (a ∷ b ∷ []) spot h = refl
misread_alike kind.NewExpr (a ∷ b ∷ d ∷ []) spot h = ap (λ z. is_headed spot.beside && z) (absent_in_spot (free 1) refl b)
misread_alike kind.NewExpr (a ∷ b ∷ d ∷ e ∷ ns) spot h = refl
misread_alike (kind.AssignExpr op) [] spot h = refl
misread_alike (kind.AssignExpr op) (a ∷ []) spot h = refl
misread_alike (kind.AssignExpr op) (a ∷ b ∷ []) spot h = ap (λ z. opens_a_block spot.begins && z) (object_pattern_in_spot (left spot 16 NoNeighbor) refl a)
misread_alike (kind.AssignExpr op) (a ∷ b ∷ d ∷ ns) spot h = refl
misread_alike _ ns spot h = refl

pub parentheses_alike : (k : Kind) (ns : List Node) (spot : Spot) → Fits spot → in_parentheses k (map laid (spotted k ns spot)) spot ≡ in_parentheses k (map laid ns) spot
parentheses_alike k ns spot h = ap (λ z. ltb (level_of k) spot.level || z) (misread_alike k ns spot h)

pub spots_alike : (k : Kind) (ns : List Node) (spot : Spot) → first_spots k (map laid (spotted k ns spot)) spot ≡ first_spots k (map laid ns) spot
spots_alike kind.MemberExpr [] spot = refl
spots_alike kind.MemberExpr (a ∷ []) spot = refl
spots_alike kind.MemberExpr (a ∷ b ∷ []) spot = ap (λ z. left spot 16 (object_beside spot.beside z) ∷ []) (said_where_free is_computed refl b)
spots_alike kind.MemberExpr (a ∷ b ∷ d ∷ ns) spot = refl
spots_alike (kind.UpdateExpr op true) ns spot = refl
spots_alike (kind.UpdateExpr op false) ns spot = refl
spots_alike _ ns spot = refl

-- a layer by its children

abbrev pub bare' : Span → Kind → List Node → Spot → Node
bare' span k ns spot = node_of span k (spotted k ns spot)

abbrev pub standing' : Span → Kind → List Node → Spot → Node
standing' span k ns spot = if in_parentheses k (map laid ns) spot then parenthesized (bare' span k ns (free 0)) else bare' span k ns spot

pub stands_in : (span : Span) (k : Kind) (ns : List Node) (spot : Spot) → (stood (node_of span k ns)).at spot ≡ standing' span k ns spot
stands_in span k ns spot =
    stands (record { span = span; kind = k; children = ns }) spot
    ∙ ap (λ l. if in_parentheses k l spot then parenthesized (node_of span k (in_spots (map stood ns) (first_spots k l (free 0)) (further_spot k (free 0)))) else node_of span k (in_spots (map stood ns) (first_spots k l spot) (further_spot k spot)))
    (laid_children_of ns)
