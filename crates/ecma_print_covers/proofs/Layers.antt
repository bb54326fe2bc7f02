-- A node with other children that are laid out alike, and one of another kind.
use Rattle.std.proofs.Common.{◌≡◌, ◌∙◌, refl, sym, ap, subst, ltb, ◌||◌, ◌&&◌, Bool, true, false, List, [], ◌∷◌, map, if◌then◌else◌}
use Rattle.ecma_kind.specs.declared.kind.Kind.{Kind}
use Rattle.ecma_kind.specs.declared.kind.Kind.TheVariants as kind
use Rattle.ecma_kind.specs.declared.span.Span.{Span}
use Rattle.ecma_tree.specs.declared.node.Node.{Node, fold-roll-Node}
use Rattle.ecma_tree.specs.Nodes.{node_of}
use Rattle.ecma_tree.specs.Sorted.{is_list}
use Rattle.ecma_print.specs.declared.place.Place.{Place}
use Rattle.ecma_print.specs.declared.place.Place.TheVariants as place
use Rattle.ecma_print.specs.declared.place.Spot.{Spot}
use Rattle.ecma_print.specs.Functions.{function_head, method_head}
use Rattle.ecma_print.specs.Laid.{Laid, is_absent, is_block, is_computed, is_named, is_object_pattern}
use Rattle.ecma_print.specs.Layout.{by_itself, in_place, key_mark, laid, lay_step, placed, standing, whole}
use Rattle.ecma_print.specs.Levels.{in_parentheses}
use Rattle.ecma_print.specs.Literals.{literal}
use Rattle.ecma_print.specs.Pieces.{say, ◌>>◌}
use Rattle.ecma_print.specs.Places.{after, before, free, is_headed, opens_a_block}
use Rattle.ecma_print.proofs.LaidOut.{laid_kind_of-node}
use Rattle.ecma_print.specs.Spots.{first_spots, further_spot}
use Rattle.ecma_print_covers.proofs.Pairs.{AllAlike, IsAlike, Pair, TemplateHasLists, afters, befores, each_by_itself, listed_alike, spot_in}
use Rattle.ecma_print_covers.proofs.LaidExpressions.{operation_alike, link_alike, primary_alike, function_alike, class_member_alike, property_alike, pattern_alike}
use Rattle.ecma_print_covers.proofs.LaidStatements.{statement_alike, control_alike, importing_alike, exporting_alike}

pub laid_in : (at : Span) (k : Kind) (ns : List Node) (p : Place) → (laid (node_of at k ns)).at p ≡ in_place k (map laid ns) p
laid_in at k ns p = ap (λ m. m.at p) (fold-roll-Node Laid lay_step (record { span = at; kind = k; children = ns }))

laid_parts_in : (at : Span) (k : Kind) (ns : List Node) → (laid (node_of at k ns)).parts ≡ map by_itself (map laid ns)
laid_parts_in at k ns = ap (λ m. m.parts) (fold-roll-Node Laid lay_step (record { span = at; kind = k; children = ns }))

if_false : {A : Type 0} (b : Bool) (a a' : A) → b ≡ false → (if b then a else a') ≡ a'
if_false true a a' h = cc
if_false false a a' h = refl

-- no missing child, and no list
abbrev pub is_one : Kind → Bool
is_one kind.Absent = false
is_one kind.List = false
is_one k = true

one_placed : (k : Kind) (children : List Laid) (p : Place) → is_one k ≡ true → in_place k children p ≡ placed k children p
one_placed kind.Absent children p h = absurd (cc)
one_placed kind.List children p h = absurd (cc)
one_placed _ children p h = refl

-- two nodes that stand in no parentheses and have one text are laid out alike
module _ (k k' : Kind) (children children' : List Laid) (computed : is_computed k' ≡ is_computed k) (function : function_head k' ≡ function_head k) (method : method_head k' ≡ method_head k) where
  standing_alike : (spot : Spot) → in_parentheses k children spot ≡ false → in_parentheses k' children' spot ≡ false → whole k' children' spot ≡ whole k children spot → standing k' children' spot ≡ standing k children spot
  standing_alike spot bare bare' same =
      if_false (in_parentheses k' children' spot) _ (whole k' children' spot) bare' ∙ same ∙ sym (if_false (in_parentheses k children spot) _ (whole k children spot) bare)

  placed_alike : (p : Place) → in_parentheses k children (spot_in p) ≡ false → in_parentheses k' children' (spot_in p) ≡ false → whole k' children' (spot_in p) ≡ whole k children (spot_in p)
      → placed k' children' p ≡ placed k children p
  placed_alike (place.At spot) bare bare' same = standing_alike spot bare bare' same
  placed_alike (place.Within between spot) bare bare' same = λ i. before between >> standing_alike spot bare bare' same i >> after between
  placed_alike (place.Key optional) bare bare' same = λ i. say (key_mark optional (computed i)) >> same i
  placed_alike place.FunctionHead bare bare' same = λ i. say (function i)
  placed_alike place.MethodHead bare bare' same = λ i. say (method i)
  placed_alike _ bare bare' same = refl

  pub in_place_alike : is_one k ≡ true → is_one k' ≡ true → (p : Place) → in_parentheses k children (spot_in p) ≡ false → in_parentheses k' children' (spot_in p) ≡ false → whole k' children' (spot_in p) ≡ whole k children (spot_in p)
      → in_place k' children' p ≡ in_place k children p
  in_place_alike one one' p bare bare' same = one_placed k' children' p one' ∙ placed_alike p bare bare' same ∙ sym (one_placed k children p one)

-- a node of another kind
pub turned_alike : (at at' : Span) (k k' : Kind) (ns ns' : List Node) (spot : Spot) → is_list k ≡ false → is_absent k' ≡ is_absent k → is_block k' ≡ is_block k → is_computed k' ≡ is_computed k → is_named k' ≡ is_named k
    → (is_object_pattern k' ≡ true → is_object_pattern k ≡ true) → ((p : Place) → spot_in p ≡ spot → in_place k' (map laid ns') p ≡ in_place k (map laid ns) p)
    → IsAlike spot (record { before = node_of at k ns; after = node_of at' k' ns' })
turned_alike at at' k k' ns ns' spot list missing block computed named pattern same =
    let b = laid_kind_of-node at k ns in
    let a = laid_kind_of-node at' k' ns' in
    record {
      at = λ p e. laid_in at' k' ns' p ∙ same p e ∙ sym (laid_in at k ns p);
      parts = λ e is. (let no : true ≡ false = sym is ∙ ap is_list b ∙ list in cc);
      missing = ap is_absent a ∙ missing ∙ sym (ap is_absent b);
      block = ap is_block a ∙ block ∙ sym (ap is_block b);
      computed = ap is_computed a ∙ computed ∙ sym (ap is_computed b);
      named = ap is_named a ∙ named ∙ sym (ap is_named b);
      pattern = λ e. ap is_object_pattern b ∙ pattern (sym (ap is_object_pattern a) ∙ e);
    }

-- the same node with other children

both_false : (a b c : Bool) → (b ≡ true → c ≡ true) → (a && c) ≡ false → (a && b) ≡ false
both_false true true c h e = (let t = h refl in cc)
both_false true false c h e = refl
both_false false b c h e = refl

or_false : (a b c : Bool) → (b ≡ false → c ≡ false) → (a || b) ≡ false → (a || c) ≡ false
or_false true b c h e = e
or_false false b c h e = h e

pub open_after : (k : Kind) (ps : List Pair) (spot : Spot) → AllAlike ps (first_spots k (map laid (befores ps)) spot) (further_spot k spot) → in_parentheses k (map laid (befores ps)) spot ≡ false → in_parentheses k (map laid (afters ps)) spot ≡ false
open_after kind.NewExpr (a ∷ b ∷ d ∷ []) spot h bare = ap (λ z. ltb 17 spot.level || (is_headed spot.beside && z)) h.1.0.missing ∙ bare
open_after (kind.AssignExpr op) (a ∷ b ∷ []) spot h bare =
    or_false (ltb 1 spot.level) (opens_a_block spot.begins && is_object_pattern (laid a.before).kind) (opens_a_block spot.begins && is_object_pattern (laid a.after).kind)
    (both_false (opens_a_block spot.begins) (is_object_pattern (laid a.after).kind) (is_object_pattern (laid a.before).kind) h.0.pattern) bare
open_after _ ps spot h bare = bare

whole_alike : (k : Kind) (ps : List Pair) (spot : Spot) → AllAlike ps (first_spots k (map laid (befores ps)) spot) (further_spot k spot) → TemplateHasLists k (befores ps) → whole k (map laid (afters ps)) spot ≡ whole k (map laid (befores ps)) spot
whole_alike k ps spot h l = λ i. literal k
    >> operation_alike spot k ps h l i
    >> link_alike spot k ps h l i
    >> primary_alike spot k ps h l i
    >> function_alike spot k ps h l i
    >> class_member_alike spot k ps h l i
    >> property_alike spot k ps h l i
    >> pattern_alike spot k ps h l i
    >> statement_alike spot k ps h l i
    >> control_alike spot k ps h l i
    >> importing_alike spot k ps h l i
    >> exporting_alike spot k ps h l i

abbrev SpotsAlike : Kind → List Pair → Spot → Type 0
SpotsAlike k ps spot = AllAlike ps (first_spots k (map laid (befores ps)) spot) (further_spot k spot)

one_layer : (k : Kind) (ps : List Pair) → TemplateHasLists k (befores ps) → is_one k ≡ true → (p : Place) → SpotsAlike k ps (spot_in p) → in_parentheses k (map laid (befores ps)) (spot_in p) ≡ false
    → in_place k (map laid (afters ps)) p ≡ in_place k (map laid (befores ps)) p
one_layer k ps l one p h bare =
    in_place_alike k k (map laid (befores ps)) (map laid (afters ps)) refl refl refl one one p bare (open_after k ps (spot_in p) h bare) (whole_alike k ps (spot_in p) h l)

layer_in_place : (k : Kind) (ps : List Pair) → TemplateHasLists k (befores ps) → (p : Place) → SpotsAlike k ps (spot_in p) → in_parentheses k (map laid (befores ps)) (spot_in p) ≡ false
    → in_place k (map laid (afters ps)) p ≡ in_place k (map laid (befores ps)) p
layer_in_place kind.Absent ps l p h bare = refl
layer_in_place kind.List ps l p h bare = listed_alike p ps h
layer_in_place k ps l p h bare = one_layer k ps l refl p h bare

layer_parts : (k : Kind) (ps : List Pair) → SpotsAlike k ps (free 0) → is_list k ≡ true → map by_itself (map laid (afters ps)) ≡ map by_itself (map laid (befores ps))
layer_parts kind.List ps h list = each_by_itself ps h
layer_parts _ ps h list = absurd (cc)

pub layer_alike : (at : Span) (k : Kind) (ps : List Pair) (spot : Spot) → SpotsAlike k ps spot → TemplateHasLists k (befores ps) → in_parentheses k (map laid (befores ps)) spot ≡ false
    → IsAlike spot (record { before = node_of at k (befores ps); after = node_of at k (afters ps) })
layer_alike at k ps spot h l bare =
    let b = laid_kind_of-node at k (befores ps) in
    let a = laid_kind_of-node at k (afters ps) in
    record {
      at = λ p e. laid_in at k (afters ps) p
          ∙ layer_in_place k ps l p (subst (SpotsAlike k ps) (sym e) h) (subst (λ s. in_parentheses k (map laid (befores ps)) s ≡ false) (sym e) bare)
          ∙ sym (laid_in at k (befores ps) p);
      parts = λ e is. laid_parts_in at k (afters ps) ∙ layer_parts k ps (subst (SpotsAlike k ps) e h) (sym (ap is_list b) ∙ is) ∙ sym (laid_parts_in at k (befores ps));
      missing = ap is_absent a ∙ sym (ap is_absent b);
      block = ap is_block a ∙ sym (ap is_block b);
      computed = ap is_computed a ∙ sym (ap is_computed b);
      named = ap is_named a ∙ sym (ap is_named b);
      pattern = λ e. ap is_object_pattern b ∙ sym (ap is_object_pattern a) ∙ e;
    }
