-- The layout of a tree is that of the tree with explicit parentheses.
use Rattle.std.proofs.Common.{◌≡◌, refl, sym, ap, subst, ◌∙◌, ◌||◌, List, [], ◌∷◌, map, length, Bool, true, false, codes, if◌then◌else◌}
use Rattle.ecma_kind.specs.declared.span.Span.{Span}
use Rattle.ecma_kind.specs.declared.kind.Kind.{Kind}
use Rattle.ecma_kind.specs.declared.kind.Kind.TheVariants as kind
use Rattle.ecma_kind.specs.declared.shapes.Shape.{Shape}
use Rattle.ecma_kind.specs.declared.shapes.Sort.{Sort}
use Rattle.ecma_tree.specs.declared.node.Node.{Node, fold-roll-Node, ind-Node, out-Node}
use Rattle.ecma_tree.specs.declared.node.Node.TheViews.{roll-out-Node}
use Rattle.ecma_tree.specs.Laws.{HaveShapes}
use Rattle.ecma_tree.specs.Nodes.{dummy_span, node_of}
use Rattle.ecma_tree.specs.Sorted.{HasShape, child_shapes, is_list, many}
use Rattle.ecma_tree.proofs.ShapeLaws.{node_has_shape}
use Rattle.ecma_print.specs.declared.place.Spot.{Spot}
use Rattle.ecma_print.specs.declared.place.Between.{Between}
use Rattle.ecma_print.specs.declared.place.Place.{Place}
use Rattle.ecma_print.specs.declared.place.Place.TheVariants as place
use Rattle.ecma_print.specs.Pieces.{nothing, say, ◌>>◌}
use Rattle.ecma_print.specs.Places.{free, before, after}
use Rattle.ecma_print.specs.Functions.{function_head, method_head}
use Rattle.ecma_print.specs.Laid.{Laid, is_computed}
use Rattle.ecma_print.specs.Levels.{in_parentheses}
use Rattle.ecma_print.specs.Lists.{listed}
use Rattle.ecma_print.specs.Literals.{literal}
use Rattle.ecma_print.specs.Layout.{by_itself, in_place, key_mark, laid, lay_step, placed, standing, whole}
use Rattle.ecma_print.proofs.LaidOut.{laid_kind, laid_kind_of-node}
use Rattle.ecma_print.specs.Explicit.{parenthesized}
use Rattle.ecma_print_parentheses.specs.Laws.{LayoutStays}
use Rattle.ecma_print_parentheses.proofs.Standing.{if_false}
use Rattle.ecma_print_parentheses.proofs.Shaped.{AllShaped, all_shaped}
use Rattle.ecma_print_parentheses.proofs.Asking.{Fits, absent_stands_open, open_where_free, parentheses_stand_open}
use Rattle.ecma_print_parentheses.proofs.Spotted.{bare', spotted, standing', parentheses_alike, stands_in}
use Rattle.ecma_print_parentheses.proofs.Places.{spot_in, LaidAlike, Child, nodes, TemplateHasLists, listed_alike, each_by_itself}
use Rattle.ecma_print_parentheses.proofs.LaidExpressions.{operation_alike, link_alike, primary_alike, function_alike, class_member_alike, property_alike, pattern_alike}
use Rattle.ecma_print_parentheses.proofs.LaidStatements.{statement_alike, control_alike, importing_alike, exporting_alike}

-- the shapes of the children of a sorted node

list_has_list_kind : (sort : Sort) (n : Node) → HasShape (many sort) n → is_list (laid n).kind ≡ true
list_has_list_kind sort n h =
    let x = out-Node n in
    let here : HasShape (many sort) (node_of x.span x.kind x.children) = subst (HasShape (many sort)) (sym (roll-out-Node n)) h in
    ap is_list (laid_kind n) ∙ ((node_has_shape x.span x.kind x.children (many sort)).0 here).0

template_has_lists : (k : Kind) (ns : List Node) (shape : Shape) → HaveShapes (child_shapes k shape (length ns)) ns → TemplateHasLists k ns
template_has_lists kind.Tpl (a ∷ b ∷ []) shape h = (list_has_list_kind _ a h.0, list_has_list_kind _ b h.1.0)
template_has_lists _ ns shape h = tt

-- a node by itself in its place

laid_in : (span : Span) (k : Kind) (ns : List Node) (p : Place) → (laid (node_of span k ns)).at p ≡ in_place k (map laid ns) p
laid_in span k ns p = ap (λ m. m.at p) (fold-roll-Node Laid lay_step (record { span = span; kind = k; children = ns }))

-- no missing child, and no list
abbrev is_one : Kind → Bool
is_one kind.Absent = false
is_one kind.List = false
is_one k = true

one_placed : (k : Kind) (children : List Laid) (p : Place) → is_one k ≡ true → in_place k children p ≡ placed k children p
one_placed kind.Absent children p h = absurd (cc)
one_placed kind.List children p h = absurd (cc)
one_placed _ children p h = refl

-- nothing in parentheses has a head of a function
no_function_head : (k : Kind) (children : List Laid) → in_parentheses k children (free 1) ≡ true → function_head k ≡ []
no_function_head (kind.Function is_generator is_async) children h = absurd (cc)
no_function_head _ children h = refl

no_method_head : (k : Kind) (children : List Laid) → in_parentheses k children (free 1) ≡ true → method_head k ≡ []
no_method_head (kind.Function is_generator is_async) children h = absurd (cc)
no_method_head _ children h = refl

laid_parts_in : (span : Span) (k : Kind) (ns : List Node) → (laid (node_of span k ns)).parts ≡ map by_itself (map laid ns)
laid_parts_in span k ns = ap (λ m. m.parts) (fold-roll-Node Laid lay_step (record { span = span; kind = k; children = ns }))

one_at : (n : Node) → is_one (laid n).kind ≡ true → (p : Place) → (laid n).at p ≡ placed (laid n).kind (map laid (out-Node n).children) p
one_at n one p =
    let x = out-Node n in
    ap (λ m. (laid m).at p) (sym (roll-out-Node n))
    ∙ (laid_in x.span x.kind x.children p
    ∙ (ap (λ k. in_place k (map laid x.children) p) (sym (laid_kind n))
    ∙ one_placed (laid n).kind (map laid x.children) p one))

module _ (span : Span) (k : Kind) (ns : List Child) (h : AllShaped (nodes ns)) (l : TemplateHasLists k (nodes ns)) where
  abbrev own : List Laid
  own = map laid (nodes ns)

  abbrev bare_at : Spot → Node
  bare_at spot = bare' span k (nodes ns) spot

  whole_alike : (spot : Spot) → Fits spot → whole k (map laid (spotted k (nodes ns) spot)) spot ≡ whole k own spot
  whole_alike spot fits = λ i. literal k
      >> operation_alike spot fits k ns h l i
      >> link_alike spot fits k ns h l i
      >> primary_alike spot fits k ns h l i
      >> function_alike spot fits k ns h l i
      >> class_member_alike spot fits k ns h l i
      >> property_alike spot fits k ns h l i
      >> pattern_alike spot fits k ns h l i
      >> statement_alike spot fits k ns h l i
      >> control_alike spot fits k ns h l i
      >> importing_alike spot fits k ns h l i
      >> exporting_alike spot fits k ns h l i

  module _ (one : is_one k ≡ true) where
    -- where no parentheses stand
    open_alike : (spot : Spot) → Fits spot → in_parentheses k own spot ≡ false → (laid (bare_at spot)).at (place.At spot) ≡ whole k own spot
    open_alike spot fits opens =
        laid_in span k (spotted k (nodes ns) spot) (place.At spot)
        ∙ (one_placed k (map laid (spotted k (nodes ns) spot)) (place.At spot) one
        ∙ (if_false (in_parentheses k (map laid (spotted k (nodes ns) spot)) spot) _ (whole k (map laid (spotted k (nodes ns) spot)) spot) (parentheses_alike k (nodes ns) spot fits ∙ opens)
        ∙ whole_alike spot fits))

    closed_alike : (spot : Spot) → Fits spot → (laid (parenthesized (bare_at (free 0)))).at (place.At spot) ≡ say (codes "(") >> (whole k own (free 0) >> say (codes ")"))
    closed_alike spot fits =
        laid_in dummy_span kind.ParenExpr (bare_at (free 0) ∷ []) (place.At spot)
        ∙ (if_false (in_parentheses kind.ParenExpr (map laid (bare_at (free 0) ∷ [])) spot) _ (whole kind.ParenExpr (map laid (bare_at (free 0) ∷ [])) spot) (parentheses_stand_open (map laid (bare_at (free 0) ∷ [])) spot fits)
        ∙ (λ i. say (codes "(") >> open_alike (free 0) refl (open_where_free k own) i >> say (codes ")")))

    either_alike : (spot : Spot) → Fits spot → (b : Bool) → in_parentheses k own spot ≡ b
        → (laid (if b then parenthesized (bare_at (free 0)) else bare_at spot)).at (place.At spot) ≡ (if b then (say (codes "(") >> (whole k own (free 0) >> say (codes ")"))) else whole k own spot)
    either_alike spot fits true is = closed_alike spot fits
    either_alike spot fits false is = open_alike spot fits is

    -- by itself
    at_alike : (spot : Spot) → Fits spot → (laid (standing' span k (nodes ns) spot)).at (place.At spot) ≡ standing k own spot
    at_alike spot fits = either_alike spot fits (in_parentheses k own spot) refl

    one_standing : (b : Bool) (spot : Spot) → is_one (laid (if b then parenthesized (bare_at (free 0)) else bare_at spot)).kind ≡ true
    one_standing true spot = ap is_one (laid_kind_of-node dummy_span kind.ParenExpr (bare_at (free 0) ∷ []))
    one_standing false spot = ap is_one (laid_kind_of-node span k (spotted k (nodes ns) spot)) ∙ one

    is_placed : (spot : Spot) (p : Place) → (laid (standing' span k (nodes ns) spot)).at p ≡ placed (laid (standing' span k (nodes ns) spot)).kind (map laid (out-Node (standing' span k (nodes ns) spot)).children) p
    is_placed spot p = one_at (standing' span k (nodes ns) spot) (one_standing (in_parentheses k own spot) spot) p

    -- between words
    within_alike : (between : Between) (spot : Spot) → Fits spot → (laid (standing' span k (nodes ns) spot)).at (place.Within between spot) ≡ placed k own (place.Within between spot)
    within_alike between spot fits = is_placed spot (place.Within between spot) ∙ (λ i. before between >> (sym (is_placed spot (place.At spot)) ∙ at_alike spot fits) i >> after between)

    -- as a key
    key_alike : (optional : Bool) → (laid (standing' span k (nodes ns) (free 0))).at (place.Key optional) ≡ placed k own (place.Key optional)
    key_alike optional =
        ap (λ n. (laid n).at (place.Key optional)) (if_false (in_parentheses k own (free 0)) (parenthesized (bare_at (free 0))) (bare_at (free 0)) (open_where_free k own))
        ∙ (laid_in span k (spotted k (nodes ns) (free 0)) (place.Key optional)
        ∙ (one_placed k (map laid (spotted k (nodes ns) (free 0))) (place.Key optional) one
        ∙ (λ i. say (key_mark optional (is_computed k)) >> whole_alike (free 0) refl i)))

    -- as the head of a function, and of a method
    function_head_alike : (b : Bool) → in_parentheses k own (free 1) ≡ b → (laid (if b then parenthesized (bare_at (free 0)) else bare_at (free 1))).at place.FunctionHead ≡ placed k own place.FunctionHead
    function_head_alike true is = laid_in dummy_span kind.ParenExpr (bare_at (free 0) ∷ []) place.FunctionHead ∙ ap say (sym (no_function_head k own is))
    function_head_alike false is = laid_in span k (spotted k (nodes ns) (free 1)) place.FunctionHead ∙ one_placed k (map laid (spotted k (nodes ns) (free 1))) place.FunctionHead one

    method_head_alike : (b : Bool) → in_parentheses k own (free 1) ≡ b → (laid (if b then parenthesized (bare_at (free 0)) else bare_at (free 1))).at place.MethodHead ≡ placed k own place.MethodHead
    method_head_alike true is = laid_in dummy_span kind.ParenExpr (bare_at (free 0) ∷ []) place.MethodHead ∙ ap say (sym (no_method_head k own is))
    method_head_alike false is = laid_in span k (spotted k (nodes ns) (free 1)) place.MethodHead ∙ one_placed k (map laid (spotted k (nodes ns) (free 1))) place.MethodHead one

    -- in each place
    placed_alike : (p : Place) → Fits (spot_in p) → (laid (standing' span k (nodes ns) (spot_in p))).at p ≡ placed k own p
    placed_alike (place.At spot) fits = at_alike spot fits
    placed_alike (place.Within between spot) fits = within_alike between spot fits
    placed_alike (place.Key optional) fits = key_alike optional
    placed_alike place.FunctionHead fits = function_head_alike (in_parentheses k own (free 1)) refl
    placed_alike place.MethodHead fits = method_head_alike (in_parentheses k own (free 1)) refl
    placed_alike place.Lines fits = is_placed (free 0) place.Lines
    placed_alike place.Deeper fits = is_placed (free 0) place.Deeper
    placed_alike place.Block fits = is_placed (free 0) place.Block
    placed_alike (place.Commas spot) fits = is_placed spot (place.Commas spot)
    placed_alike place.Arguments fits = is_placed (free 1) place.Arguments
    placed_alike place.Braces fits = is_placed (free 1) place.Braces
    placed_alike place.Brackets fits = is_placed (free 1) place.Brackets
    placed_alike place.Imports fits = is_placed (free 0) place.Imports
    placed_alike place.Exports fits = is_placed (free 0) place.Exports

-- a missing child, a list, and all else

missing_in_place : (span : Span) (ns : List Node) (p : Place) → Fits (spot_in p) → (laid (standing' span kind.Absent ns (spot_in p))).at p ≡ nothing
missing_in_place span ns p fits =
    ap (λ n. (laid n).at p) (if_false (in_parentheses kind.Absent (map laid ns) (spot_in p)) (parenthesized (bare' span kind.Absent ns (free 0))) (bare' span kind.Absent ns (spot_in p)) (absent_stands_open kind.Absent (map laid ns) (spot_in p) fits refl))
    ∙ laid_in span kind.Absent (spotted kind.Absent ns (spot_in p)) p

list_in_place : (span : Span) (ns : List Child) → AllShaped (nodes ns) → (p : Place) → Fits (spot_in p) → (laid (standing' span kind.List (nodes ns) (spot_in p))).at p ≡ listed (map laid (nodes ns)) p
list_in_place span ns h p fits =
    ap (λ n. (laid n).at p) (if_false (in_parentheses kind.List (map laid (nodes ns)) (spot_in p)) (parenthesized (bare' span kind.List (nodes ns) (free 0))) (bare' span kind.List (nodes ns) (spot_in p)) (ap (λ b. b || false) fits))
    ∙ (laid_in span kind.List (spotted kind.List (nodes ns) (spot_in p)) p
    ∙ listed_alike p fits ns h)

layer_in_place : (span : Span) (k : Kind) (ns : List Child) → AllShaped (nodes ns) → TemplateHasLists k (nodes ns) → (p : Place) → Fits (spot_in p)
    → (laid (standing' span k (nodes ns) (spot_in p))).at p ≡ in_place k (map laid (nodes ns)) p
layer_in_place span kind.Absent ns h l p fits = missing_in_place span (nodes ns) p fits
layer_in_place span kind.List ns h l p fits = list_in_place span ns h p fits
layer_in_place span k ns h l p fits = placed_alike span k ns h l refl p fits

list_parts : (span : Span) (k : Kind) (ns : List Child) → AllShaped (nodes ns) → is_list k ≡ true → (laid (bare' span k (nodes ns) (free 0))).parts ≡ map by_itself (map laid (nodes ns))
list_parts span kind.List ns h l = laid_parts_in span kind.List (spotted kind.List (nodes ns) (free 0)) ∙ each_by_itself ns h
list_parts span _ ns h l = absurd (cc)

layer_alike : (span : Span) (k : Kind) (ns : List Child) → LaidAlike (node_of span k (nodes ns))
layer_alike span k ns = record {
  at = λ shaped p fits. (let have = ((node_has_shape span k (nodes ns) shaped.0).0 shaped.1).1 in
      ap (λ n. (laid n).at p) (stands_in span k (nodes ns) (spot_in p))
      ∙ (layer_in_place span k ns (all_shaped _ (nodes ns) have) (template_has_lists k (nodes ns) shaped.0 have) p fits
      ∙ sym (laid_in span k (nodes ns) p)));
  parts = λ shaped list. (let have = ((node_has_shape span k (nodes ns) shaped.0).0 shaped.1).1 in
      ap (λ n. (laid n).parts) (stands_in span k (nodes ns) (free 0) ∙ if_false (in_parentheses k (map laid (nodes ns)) (free 0)) (parenthesized (bare' span k (nodes ns) (free 0))) (bare' span k (nodes ns) (free 0)) (open_where_free k (map laid (nodes ns))))
      ∙ (list_parts span k ns (all_shaped _ (nodes ns) have) (sym (ap is_list (laid_kind_of-node span k (nodes ns))) ∙ list)
      ∙ sym (laid_parts_in span k (nodes ns))));
}

all_alike : (n : Node) → LaidAlike n
all_alike = ind-Node LaidAlike (λ x y is. subst (λ ns. LaidAlike (node_of x.span x.kind ns)) (ap (λ z. z.children) is) (layer_alike x.span x.kind y.children))

pub layout_stays : LayoutStays
layout_stays m shape h = ap (λ piece. piece [] []) ((all_alike m).at (shape, h) (place.At (free 0)) refl)
