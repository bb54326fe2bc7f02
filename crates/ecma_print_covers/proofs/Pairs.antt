-- Nodes in the place of others that are laid out alike, and lists of them.
use Rattle.std.proofs.Common.{◌≡◌, refl, ap, ap₂, List, [], ◌∷◌, map, Bool, true, codes}
use Rattle.ecma_kind.specs.declared.kind.Kind.{Kind}
use Rattle.ecma_kind.specs.declared.kind.Kind.TheVariants as kind
use Rattle.ecma_tree.specs.declared.node.Node.{Node}
use Rattle.ecma_tree.specs.Sorted.{is_list}
use Rattle.ecma_print.specs.declared.place.Beside.TheVariants.{NoNeighbor}
use Rattle.ecma_print.specs.declared.place.Spot.{Spot}
use Rattle.ecma_print.specs.declared.place.Place.{Place}
use Rattle.ecma_print.specs.declared.place.Place.TheVariants as place
use Rattle.ecma_print.specs.Pieces.{say, ◌>>◌, new_line, deeper}
use Rattle.ecma_print.specs.Places.{free, right}
use Rattle.ecma_print.specs.Expressions.{more_of_sequence}
use Rattle.ecma_print.specs.Laid.{is_absent, is_block, is_computed, is_named, is_object_pattern}
use Rattle.ecma_print.specs.Layout.{laid, by_itself}
use Rattle.ecma_print.specs.Lists.{lines, new_lines, block, more_commas, commas, braces, ends_in_hole, hole_comma, brackets, specifier_gap, opening_brace, more_specifiers, specifiers, imports, exports, listed}

-- the spot of what stands in a place, or of the items of a list there
abbrev pub spot_in : Place → Spot
spot_in (place.At spot) = spot
spot_in (place.Within between spot) = spot
spot_in (place.Key optional) = free 0
spot_in place.FunctionHead = free 1
spot_in place.MethodHead = free 1
spot_in place.Lines = free 0
spot_in place.Deeper = free 0
spot_in place.Block = free 0
spot_in (place.Commas spot) = spot
spot_in place.Arguments = free 1
spot_in place.Braces = free 1
spot_in place.Brackets = free 1
spot_in place.Imports = free 0
spot_in place.Exports = free 0

-- a node, and what stands in its place
pub record Pair : Type 0 where
  pub before : Node
  pub after : Node

-- in this spot the two are laid out alike, and are the same for what stands around them
pub record IsAlike (spot : Spot) (pair : Pair) : Type 0 where
  pub at : (p : Place) → spot_in p ≡ spot → (laid pair.after).at p ≡ (laid pair.before).at p
  pub parts : spot ≡ free 0 → is_list (laid pair.before).kind ≡ true → (laid pair.after).parts ≡ (laid pair.before).parts
  pub missing : is_absent (laid pair.after).kind ≡ is_absent (laid pair.before).kind
  pub block : is_block (laid pair.after).kind ≡ is_block (laid pair.before).kind
  pub computed : is_computed (laid pair.after).kind ≡ is_computed (laid pair.before).kind
  pub named : is_named (laid pair.after).kind ≡ is_named (laid pair.before).kind
  pub pattern : is_object_pattern (laid pair.after).kind ≡ true → is_object_pattern (laid pair.before).kind ≡ true

abbrev pub befores : List Pair → List Node
befores ps = map (λ p. p.before) ps

abbrev pub afters : List Pair → List Node
afters ps = map (λ p. p.after) ps

-- each in its spot: the first ones in these, all others in this one
abbrev pub AllAlike : List Pair → List Spot → Spot → Type 0
AllAlike [] spots further = Unit {0}
AllAlike (p ∷ ps) [] further = IsAlike further p × AllAlike ps [] further
AllAlike (p ∷ ps) (spot ∷ spots) further = IsAlike spot p × AllAlike ps spots further

-- the children of a template are lists
abbrev pub TemplateHasLists : Kind → List Node → Type 0
TemplateHasLists kind.Tpl (a ∷ b ∷ []) = (is_list (laid a).kind ≡ true) × (is_list (laid b).kind ≡ true)
TemplateHasLists k ns = Unit {0}

pub more_of_sequence_alike : (spot : Spot) (ps : List Pair) → AllAlike ps [] (right spot 1 NoNeighbor) → more_of_sequence (map laid (afters ps)) spot ≡ more_of_sequence (map laid (befores ps)) spot
more_of_sequence_alike spot [] h = refl
more_of_sequence_alike spot (n ∷ ns) h = λ i. say (codes ", ") >> h.0.at (place.At (right spot 1 NoNeighbor)) refl i >> more_of_sequence_alike spot ns h.1 i

lines_alike : (ps : List Pair) → AllAlike ps [] (free 0) → lines (map laid (afters ps)) ≡ lines (map laid (befores ps))
lines_alike [] h = refl
lines_alike (n ∷ ns) h = λ i. h.0.at (place.At (free 0)) refl i >> say (codes "\n") >> lines_alike ns h.1 i

new_lines_alike : (ps : List Pair) → AllAlike ps [] (free 0) → new_lines (map laid (afters ps)) ≡ new_lines (map laid (befores ps))
new_lines_alike [] h = refl
new_lines_alike (n ∷ ns) h = λ i. new_line >> h.0.at (place.At (free 0)) refl i >> new_lines_alike ns h.1 i

block_alike : (ps : List Pair) → AllAlike ps [] (free 0) → block (map laid (afters ps)) ≡ block (map laid (befores ps))
block_alike [] h = refl
block_alike (n ∷ ns) h = λ i. say (codes "{") >> deeper (new_lines_alike (n ∷ ns) h i) >> new_line >> say (codes "}")

module _ (spot : Spot) where
  more_commas_alike : (ps : List Pair) → AllAlike ps [] spot → more_commas spot (map laid (afters ps)) ≡ more_commas spot (map laid (befores ps))
  more_commas_alike [] h = refl
  more_commas_alike (n ∷ ns) h = λ i. say (codes ", ") >> h.0.at (place.At spot) refl i >> more_commas_alike ns h.1 i

  commas_alike : (ps : List Pair) → AllAlike ps [] spot → commas spot (map laid (afters ps)) ≡ commas spot (map laid (befores ps))
  commas_alike [] h = refl
  commas_alike (n ∷ ns) h = λ i. h.0.at (place.At spot) refl i >> more_commas_alike ns h.1 i

braces_alike : (ps : List Pair) → AllAlike ps [] (free 1) → braces (map laid (afters ps)) ≡ braces (map laid (befores ps))
braces_alike [] h = refl
braces_alike (n ∷ ns) h = λ i. say (codes "{ ") >> commas_alike (free 1) (n ∷ ns) h i >> say (codes " }")

ends_alike : (ps : List Pair) → AllAlike ps [] (free 1) → ends_in_hole (map laid (afters ps)) ≡ ends_in_hole (map laid (befores ps))
ends_alike [] h = refl
ends_alike (n ∷ []) h = h.0.missing
ends_alike (n ∷ m ∷ ns) h = ends_alike (m ∷ ns) h.1

brackets_alike : (ps : List Pair) → AllAlike ps [] (free 1) → brackets (map laid (afters ps)) ≡ brackets (map laid (befores ps))
brackets_alike ns h = λ i. say (codes "[") >> commas_alike (free 1) ns h i >> say (hole_comma (ends_alike ns h i)) >> say (codes "]")

more_specifiers_alike : (named named' : Bool) → named ≡ named' → (ps : List Pair) → AllAlike ps [] (free 0) → more_specifiers named (map laid (afters ps)) ≡ more_specifiers named' (map laid (befores ps))
more_specifiers_alike named named' e [] h = ap (λ z. more_specifiers z []) e
more_specifiers_alike named named' e (n ∷ ns) h =
    λ i. say (specifier_gap (e i) (h.0.named i)) >> h.0.at (place.At (free 0)) refl i >> more_specifiers_alike (is_named (laid n.after).kind) (is_named (laid n.before).kind) h.0.named ns h.1 i

specifiers_alike : (ps : List Pair) → AllAlike ps [] (free 0) → specifiers (map laid (afters ps)) ≡ specifiers (map laid (befores ps))
specifiers_alike [] h = refl
specifiers_alike (n ∷ ns) h =
    λ i. say (opening_brace (h.0.named i)) >> h.0.at (place.At (free 0)) refl i >> more_specifiers_alike (is_named (laid n.after).kind) (is_named (laid n.before).kind) h.0.named ns h.1 i

imports_alike : (ps : List Pair) → AllAlike ps [] (free 0) → imports (map laid (afters ps)) ≡ imports (map laid (befores ps))
imports_alike [] h = refl
imports_alike (n ∷ ns) h = λ i. say (codes " ") >> specifiers_alike (n ∷ ns) h i >> say (codes " from ")

exports_alike : (ps : List Pair) → AllAlike ps [] (free 0) → exports (map laid (afters ps)) ≡ exports (map laid (befores ps))
exports_alike [] h = refl
exports_alike (n ∷ ns) h = specifiers_alike (n ∷ ns) h

-- a list in each place
pub listed_alike : (p : Place) → (ps : List Pair) → AllAlike ps [] (spot_in p) → listed (map laid (afters ps)) p ≡ listed (map laid (befores ps)) p
listed_alike place.Lines ns h = lines_alike ns h
listed_alike place.Deeper ns h = λ i. deeper (new_lines_alike ns h i)
listed_alike place.Block ns h = block_alike ns h
listed_alike (place.Commas spot) ns h = commas_alike spot ns h
listed_alike place.Arguments ns h = λ i. say (codes "(") >> commas_alike (free 1) ns h i >> say (codes ")")
listed_alike place.Braces ns h = braces_alike ns h
listed_alike place.Brackets ns h = brackets_alike ns h
listed_alike place.Imports ns h = imports_alike ns h
listed_alike place.Exports ns h = exports_alike ns h
listed_alike _ ns h = refl

-- and its items by themselves
pub each_by_itself : (ps : List Pair) → AllAlike ps [] (free 0) → map by_itself (map laid (afters ps)) ≡ map by_itself (map laid (befores ps))
each_by_itself [] h = refl
each_by_itself (n ∷ ns) h = ap₂ (λ a rest. a ∷ rest) (h.0.at (place.At (free 0)) refl) (each_by_itself ns h.1)
