-- What is laid out alike in each place, and lists whose items are.
use Rattle.std.proofs.Common.{◌≡◌, refl, ap, ap₂, List, [], ◌∷◌, map, Bool, true, codes}
use Rattle.ecma_kind.specs.declared.kind.Kind.{Kind}
use Rattle.ecma_kind.specs.declared.kind.Kind.TheVariants as kind
use Rattle.ecma_tree.specs.declared.node.Node.{Node}
use Rattle.ecma_tree.specs.Sorted.{is_list}
use Rattle.ecma_print.specs.declared.place.Beside.TheVariants.{NoNeighbor}
use Rattle.ecma_print.specs.declared.place.Spot.{Spot}
use Rattle.ecma_print.specs.declared.place.Place.{Place}
use Rattle.ecma_print.specs.declared.place.Place.TheVariants as place
use Rattle.ecma_print.specs.Pieces.{say, ◌>>◌, new_line, deeper}
use Rattle.ecma_print.specs.Places.{free, right}
use Rattle.ecma_print.specs.Expressions.{more_of_sequence}
use Rattle.ecma_print.specs.Laid.{Laid, is_named}
use Rattle.ecma_print.specs.Layout.{laid, by_itself}
use Rattle.ecma_print.specs.Lists.{lines, new_lines, block, more_commas, commas, braces, ends_in_hole, hole_comma, brackets, specifier_gap, opening_brace, more_specifiers, specifiers, imports, exports, listed}
use Rattle.ecma_print_parentheses.proofs.Shaped.{Shaped, AllShaped}
use Rattle.ecma_print.specs.Explicit.{in_spots, stood}
use Rattle.ecma_print_parentheses.proofs.Asking.{Fits, absent_in_spot, said_where_free}

-- the spot of what stands in a place, or of the items of a list there
abbrev pub spot_in : Place → Spot
spot_in (place.At spot) = spot
spot_in (place.Within between spot) = spot
spot_in (place.Key optional) = free 0
spot_in place.FunctionHead = free 1
spot_in place.MethodHead = free 1
spot_in place.Lines = free 0
spot_in place.Deeper = free 0
spot_in place.Block = free 0
spot_in (place.Commas spot) = spot
spot_in place.Arguments = free 1
spot_in place.Braces = free 1
spot_in place.Brackets = free 1
spot_in place.Imports = free 0
spot_in place.Exports = free 0

-- a node is laid out alike in the spot of each place; so are the items of a list, each by itself
pub record LaidAlike (n : Node) : Type 0 where
  pub at : Shaped n → (p : Place) → Fits (spot_in p) → (laid ((stood n).at (spot_in p))).at p ≡ (laid n).at p
  pub parts : Shaped n → is_list (laid n).kind ≡ true → (laid ((stood n).at (free 0))).parts ≡ (laid n).parts

abbrev pub Child : Type 0
Child = (n : Node) × LaidAlike n

abbrev pub nodes : List Child → List Node
nodes ns = map (λ e. e.0) ns

-- the children of a template are lists
abbrev pub TemplateHasLists : Kind → List Node → Type 0
TemplateHasLists kind.Tpl (a ∷ b ∷ []) = (is_list (laid a).kind ≡ true) × (is_list (laid b).kind ≡ true)
TemplateHasLists k ns = Unit {0}

-- all in one spot
abbrev pub all_in : Spot → List Child → List Laid
all_in spot ns = map laid (in_spots (map stood (nodes ns)) [] spot)

abbrev pub all_laid : List Child → List Laid
all_laid ns = map laid (nodes ns)

pub more_of_sequence_alike : (spot : Spot) (ns : List Child) → AllShaped (nodes ns) → more_of_sequence (all_in (right spot 1 NoNeighbor) ns) spot ≡ more_of_sequence (all_laid ns) spot
more_of_sequence_alike spot [] h = refl
more_of_sequence_alike spot (n ∷ ns) h = λ i. say (codes ", ") >> n.1.at h.0 (place.At (right spot 1 NoNeighbor)) refl i >> more_of_sequence_alike spot ns h.1 i

lines_alike : (ns : List Child) → AllShaped (nodes ns) → lines (all_in (free 0) ns) ≡ lines (all_laid ns)
lines_alike [] h = refl
lines_alike (n ∷ ns) h = λ i. n.1.at h.0 (place.At (free 0)) refl i >> say (codes "\n") >> lines_alike ns h.1 i

new_lines_alike : (ns : List Child) → AllShaped (nodes ns) → new_lines (all_in (free 0) ns) ≡ new_lines (all_laid ns)
new_lines_alike [] h = refl
new_lines_alike (n ∷ ns) h = λ i. new_line >> n.1.at h.0 (place.At (free 0)) refl i >> new_lines_alike ns h.1 i

block_alike : (ns : List Child) → AllShaped (nodes ns) → block (all_in (free 0) ns) ≡ block (all_laid ns)
block_alike [] h = refl
block_alike (n ∷ ns) h = λ i. say (codes "{") >> deeper (new_lines_alike (n ∷ ns) h i) >> new_line >> say (codes "}")

module _ (spot : Spot) (fits : Fits spot) where
  more_commas_alike : (ns : List Child) → AllShaped (nodes ns) → more_commas spot (all_in spot ns) ≡ more_commas spot (all_laid ns)
  more_commas_alike [] h = refl
  more_commas_alike (n ∷ ns) h = λ i. say (codes ", ") >> n.1.at h.0 (place.At spot) fits i >> more_commas_alike ns h.1 i

  commas_alike : (ns : List Child) → AllShaped (nodes ns) → commas spot (all_in spot ns) ≡ commas spot (all_laid ns)
  commas_alike [] h = refl
  commas_alike (n ∷ ns) h = λ i. n.1.at h.0 (place.At spot) fits i >> more_commas_alike ns h.1 i

braces_alike : (ns : List Child) → AllShaped (nodes ns) → braces (all_in (free 1) ns) ≡ braces (all_laid ns)
braces_alike [] h = refl
braces_alike (n ∷ ns) h = λ i. say (codes "{ ") >> commas_alike (free 1) refl (n ∷ ns) h i >> say (codes " }")

ends_alike : (ns : List Child) → ends_in_hole (all_in (free 1) ns) ≡ ends_in_hole (all_laid ns)
ends_alike [] = refl
ends_alike (n ∷ []) = absent_in_spot (free 1) refl n.0
ends_alike (n ∷ m ∷ ns) = ends_alike (m ∷ ns)

brackets_alike : (ns : List Child) → AllShaped (nodes ns) → brackets (all_in (free 1) ns) ≡ brackets (all_laid ns)
brackets_alike ns h = λ i. say (codes "[") >> commas_alike (free 1) refl ns h i >> say (hole_comma (ends_alike ns i)) >> say (codes "]")

named_alike : (n : Node) → is_named (laid ((stood n).at (free 0))).kind ≡ is_named (laid n).kind
named_alike n = said_where_free is_named refl n

more_specifiers_alike : (named named' : Bool) → named ≡ named' → (ns : List Child) → AllShaped (nodes ns) → more_specifiers named (all_in (free 0) ns) ≡ more_specifiers named' (all_laid ns)
more_specifiers_alike named named' e [] h = ap (λ z. more_specifiers z []) e
more_specifiers_alike named named' e (n ∷ ns) h =
    λ i. say (specifier_gap (e i) (named_alike n.0 i)) >> n.1.at h.0 (place.At (free 0)) refl i >> more_specifiers_alike (is_named (laid ((stood n.0).at (free 0))).kind) (is_named (laid n.0).kind) (named_alike n.0) ns h.1 i

specifiers_alike : (ns : List Child) → AllShaped (nodes ns) → specifiers (all_in (free 0) ns) ≡ specifiers (all_laid ns)
specifiers_alike [] h = refl
specifiers_alike (n ∷ ns) h =
    λ i. say (opening_brace (named_alike n.0 i)) >> n.1.at h.0 (place.At (free 0)) refl i >> more_specifiers_alike (is_named (laid ((stood n.0).at (free 0))).kind) (is_named (laid n.0).kind) (named_alike n.0) ns h.1 i

imports_alike : (ns : List Child) → AllShaped (nodes ns) → imports (all_in (free 0) ns) ≡ imports (all_laid ns)
imports_alike [] h = refl
imports_alike (n ∷ ns) h = λ i. say (codes " ") >> specifiers_alike (n ∷ ns) h i >> say (codes " from ")

exports_alike : (ns : List Child) → AllShaped (nodes ns) → exports (all_in (free 0) ns) ≡ exports (all_laid ns)
exports_alike [] h = refl
exports_alike (n ∷ ns) h = specifiers_alike (n ∷ ns) h

-- a list in each place
pub listed_alike : (p : Place) → Fits (spot_in p) → (ns : List Child) → AllShaped (nodes ns) → listed (all_in (spot_in p) ns) p ≡ listed (all_laid ns) p
listed_alike place.Lines fits ns h = lines_alike ns h
listed_alike place.Deeper fits ns h = λ i. deeper (new_lines_alike ns h i)
listed_alike place.Block fits ns h = block_alike ns h
listed_alike (place.Commas spot) fits ns h = commas_alike spot fits ns h
listed_alike place.Arguments fits ns h = λ i. say (codes "(") >> commas_alike (free 1) refl ns h i >> say (codes ")")
listed_alike place.Braces fits ns h = braces_alike ns h
listed_alike place.Brackets fits ns h = brackets_alike ns h
listed_alike place.Imports fits ns h = imports_alike ns h
listed_alike place.Exports fits ns h = exports_alike ns h
listed_alike _ fits ns h = refl

-- and its items by themselves
pub each_by_itself : (ns : List Child) → AllShaped (nodes ns) → map by_itself (all_in (free 0) ns) ≡ map by_itself (all_laid ns)
each_by_itself [] h = refl
each_by_itself (n ∷ ns) h = ap₂ (λ a rest. a ∷ rest) (n.1.at h.0 (place.At (free 0)) refl) (each_by_itself ns h.1)
