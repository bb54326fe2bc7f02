-- Lists are laid out alike.
use Rattle.std.proofs.Common.{◌≡◌, refl, ap, ◌∙◌, List, [], ◌∷◌, map, Bool, codes}
use Rattle.ecma_print.specs.Laid.{Laid, is_named}
use Rattle.ecma_print.specs.declared.place.Spot.{Spot}
use Rattle.ecma_print.specs.declared.place.Place.{Place}
use Rattle.ecma_print.specs.declared.place.Place.TheVariants as place
use Rattle.ecma_print.specs.Pieces.{say, ◌>>◌, deeper, new_line}
use Rattle.ecma_print.specs.Places.{free}
use Rattle.ecma_round_trip_literals.proofs.Telling.{is_absent_told, is_named_told, told}
use Rattle.ecma_print.specs.Lists.{lines, new_lines, block, more_commas, commas, arguments, braces, ends_in_hole, hole_comma, brackets, specifier_gap, opening_brace, more_specifiers, specifiers, imports, exports, listed, first_in}

lines_told : (items : List Laid) → lines (map told items) ≡ lines items
lines_told [] = refl
lines_told (a ∷ more) = λ i. a.at (place.At (free 0)) >> say (codes "\n") >> lines_told more i

new_lines_told : (items : List Laid) → new_lines (map told items) ≡ new_lines items
new_lines_told [] = refl
new_lines_told (a ∷ more) = λ i. new_line >> a.at (place.At (free 0)) >> new_lines_told more i

block_told : (items : List Laid) → block (map told items) ≡ block items
block_told [] = refl
block_told (a ∷ more) = λ i. say (codes "{") >> deeper (new_lines_told (a ∷ more) i) >> new_line >> say (codes "}")

more_commas_told : (spot : Spot) (items : List Laid) → more_commas spot (map told items) ≡ more_commas spot items
more_commas_told spot [] = refl
more_commas_told spot (a ∷ more) = λ i. say (codes ", ") >> a.at (place.At spot) >> more_commas_told spot more i

commas_told : (spot : Spot) (items : List Laid) → commas spot (map told items) ≡ commas spot items
commas_told spot [] = refl
commas_told spot (a ∷ more) = λ i. a.at (place.At spot) >> more_commas_told spot more i

arguments_told : (items : List Laid) → arguments (map told items) ≡ arguments items
arguments_told items = λ i. say (codes "(") >> commas_told (free 1) items i >> say (codes ")")

braces_told : (items : List Laid) → braces (map told items) ≡ braces items
braces_told [] = refl
braces_told (a ∷ more) = λ i. say (codes "{ ") >> commas_told (free 1) (a ∷ more) i >> say (codes " }")

hole_told : (items : List Laid) → ends_in_hole (map told items) ≡ ends_in_hole items
hole_told [] = refl
hole_told (a ∷ []) = is_absent_told a.kind
hole_told (a ∷ b ∷ more) = hole_told (b ∷ more)

brackets_told : (items : List Laid) → brackets (map told items) ≡ brackets items
brackets_told items = λ i. say (codes "[") >> commas_told (free 1) items i >> say (hole_comma (hole_told items i)) >> say (codes "]")

more_specifiers_told : (named : Bool) (items : List Laid) → more_specifiers named (map told items) ≡ more_specifiers named items
more_specifiers_told named [] = refl
more_specifiers_told named (a ∷ more) =
    ap (λ n. say (specifier_gap named n) >> a.at (place.At (free 0)) >> more_specifiers n (map told more)) (is_named_told a.kind)
    ∙ (λ i. say (specifier_gap named (is_named a.kind)) >> a.at (place.At (free 0)) >> more_specifiers_told (is_named a.kind) more i)

specifiers_told : (items : List Laid) → specifiers (map told items) ≡ specifiers items
specifiers_told [] = refl
specifiers_told (a ∷ more) =
    ap (λ n. say (opening_brace n) >> a.at (place.At (free 0)) >> more_specifiers n (map told more)) (is_named_told a.kind)
    ∙ (λ i. say (opening_brace (is_named a.kind)) >> a.at (place.At (free 0)) >> more_specifiers_told (is_named a.kind) more i)

imports_told : (items : List Laid) → imports (map told items) ≡ imports items
imports_told [] = refl
imports_told (a ∷ more) = λ i. say (codes " ") >> specifiers_told (a ∷ more) i >> say (codes " from ")

exports_told : (items : List Laid) → exports (map told items) ≡ exports items
exports_told [] = refl
exports_told (a ∷ more) = specifiers_told (a ∷ more)

pub listed_told : (items : List Laid) (p : Place) → listed (map told items) p ≡ listed items p
listed_told items place.Lines = lines_told items
listed_told items place.Deeper = λ i. deeper (new_lines_told items i)
listed_told items place.Block = block_told items
listed_told items (place.Commas spot) = commas_told spot items
listed_told items place.Arguments = arguments_told items
listed_told items place.Braces = braces_told items
listed_told items place.Brackets = brackets_told items
listed_told items place.Imports = imports_told items
listed_told items place.Exports = exports_told items
listed_told items _ = refl

pub first_in_told : (p : Place) (items : List Laid) → first_in p (map told items) ≡ first_in p items
first_in_told p [] = refl
first_in_told p (a ∷ more) = refl
