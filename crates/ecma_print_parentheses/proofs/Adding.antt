-- Nothing but parentheses is added.
use Rattle.std.proofs.Common.{◌≡◌, refl, sym, ap, ap₂, ◌∙◌, List, [], ◌∷◌, map, Bool, true, false, if◌then◌else◌}
use Rattle.ecma_tree.specs.declared.node.Node.{Node, Node-F, fold-roll-Node, roll-Node, ind-Node}
use Rattle.ecma_kind.specs.declared.kind.Kind.TheVariants as kind
use Rattle.ecma_tree.specs.Nodes.{dummy_span}
use Rattle.ecma_print.specs.declared.place.Spot.{Spot}
use Rattle.ecma_print.specs.Places.{free}
use Rattle.ecma_print.specs.Levels.{in_parentheses}
use Rattle.ecma_print.specs.Spots.{first_spots, further_spot}
use Rattle.ecma_print.specs.Explicit.{in_spots, laid_children, bare, parenthesized, stood, opened, without_parens}
use Rattle.ecma_print_parentheses.specs.Laws.{OnlyParenthesesAreAdded}
use Rattle.ecma_print_parentheses.proofs.Standing.{stands}

-- in every spot
abbrev Opened : Node → Type 0
Opened n = (spot : Spot) → without_parens ((stood n).at spot) ≡ without_parens n

abbrev nodes : List ((n : Node) × Opened n) → List Node
nodes ns = map (λ e. e.0) ns

children_opened : (ns : List ((n : Node) × Opened n)) (spots : List Spot) (further : Spot) → map without_parens (in_spots (map stood (nodes ns)) spots further) ≡ map without_parens (nodes ns)
children_opened [] spots further = refl
children_opened (n ∷ ns) [] further = ap₂ (λ a rest. a ∷ rest) (n.1 further) (children_opened ns [] further)
children_opened (n ∷ ns) (spot ∷ spots) further = ap₂ (λ a rest. a ∷ rest) (n.1 spot) (children_opened ns spots further)

without_parens-roll : (x : Node-F Node) → without_parens (roll-Node x) ≡ opened (record { span = x.span; kind = x.kind; children = map without_parens x.children })
without_parens-roll x = fold-roll-Node Node opened x

parenthesized_opened : (n : Node) → without_parens (parenthesized n) ≡ without_parens n
parenthesized_opened n = without_parens-roll (record { span = dummy_span; kind = kind.ParenExpr; children = n ∷ [] })

bare_opened : (x : Node-F Node) (ns : List ((n : Node) × Opened n)) → nodes ns ≡ x.children → (spot : Spot) → without_parens (bare x.span x.kind (map stood x.children) spot) ≡ without_parens (roll-Node x)
bare_opened x ns is spot =
    let spots = first_spots x.kind (laid_children (map stood x.children)) spot in
    let further = further_spot x.kind spot in
    let same : map without_parens (in_spots (map stood x.children) spots further) ≡ map without_parens x.children =
    ap (λ cs. map without_parens (in_spots (map stood cs) spots further)) (sym is) ∙ (children_opened ns spots further ∙ ap (map without_parens) is) in
    without_parens-roll (record { span = x.span; kind = x.kind; children = in_spots (map stood x.children) spots further })
    ∙ (ap (λ cs. opened (record { span = x.span; kind = x.kind; children = cs })) same ∙ sym (without_parens-roll x))

either_opened : (b : Bool) (inner outer n : Node) → without_parens inner ≡ without_parens n → without_parens outer ≡ without_parens n → without_parens (if b then parenthesized inner else outer) ≡ without_parens n
either_opened true inner outer n h k = parenthesized_opened inner ∙ h
either_opened false inner outer n h k = k

all_opened : (n : Node) → Opened n
all_opened = ind-Node Opened (λ x y is spot.
    ap without_parens (stands x spot)
    ∙ either_opened (in_parentheses x.kind (laid_children (map stood x.children)) spot) _ _ (roll-Node x) (bare_opened x y.children (ap (λ z. z.children) is) (free 0)) (bare_opened x y.children (ap (λ z. z.children) is) spot))

pub only_parentheses_are_added : OnlyParenthesesAreAdded
only_parentheses_are_added m = all_opened m (free 0)
