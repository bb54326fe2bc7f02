-- What is said of the texts that are written for literals, and that what fits and is plain is read again as it is printed.
use Rattle.std.specs.Prelude.{◌≡◌, ℕ, Bool, true, List, Some}
use Rattle.std.specs.Str.{IsUtf8}
use Rattle.ecma_number.specs.declared.js_number.JsNumber.{JsNumber}
use Rattle.ecma_number.specs.JsNumber.{value_of}
use Rattle.ecma_number.specs.SafeInt.{IsSafe}
use Rattle.ecma_number.specs.Text.{text_of}
use Rattle.ecma_tree.specs.declared.node.Node.{Node}
use Rattle.ecma_kind.specs.declared.kind.Kind.{Kind}
use Rattle.ecma_text_leaves.specs.Everywhere.{Everywhere}
use Rattle.ecma_leaves.specs.Words.{is_big_int, is_decimal, is_natural, is_number, is_readable, is_string}
use Rattle.ecma_fits.specs.Fitting.{Fits}
use Rattle.ecma_print.specs.Escapes.{made_text}
use Rattle.ecma_print.specs.Layout.{layout}
use Rattle.ecma_plain.specs.Texts.{IsPlainModule}
use Rattle.ecma_round_trip.specs.Laws.{IsReadAgain}
use Rattle.ecma_plain.specs.Plain.{IsPlain}
use Rattle.ecma_plain.specs.Writable.{IsWritable, big_text}
use Rattle.ecma_round_trip_literals.specs.Sources.{with_sources, KeepsSpelling}

-- a layout shows each literal by its source text, or else by that very text
abbrev pub SourcesDoNotMatterToLayouts : Type 0
SourcesDoNotMatterToLayouts = (tree : Node) → layout (with_sources tree) ≡ layout tree

-- decimal digits and `n` are read as a BigInt of these digits
abbrev pub WrittenBigIntsAreSpelled : Type 0
WrittenBigIntsAreSpelled = (value : List ℕ) → is_readable (big_text value) ≡ true → is_decimal value ≡ true → is_big_int value (Some (big_text value)) ≡ true

-- the text of a Number that is not negative is read as a numeral of that value
abbrev pub WrittenNumbersAreSpelled : Type 0
WrittenNumbersAreSpelled = (value : JsNumber) → IsSafe (value_of value) → is_natural value ≡ true → is_number (Some value) (Some (text_of value)) ≡ true

-- the text that is made for a value is read as a string literal that says the value
abbrev pub WrittenTextsAreSpelled : Type 0
WrittenTextsAreSpelled = (value : List ℕ) → IsUtf8 value → is_readable (made_text value) ≡ true → is_string value (Some (made_text value)) ≡ true

-- where a literal is writable, it is spelled with its source text as without
abbrev pub WritableLiteralsKeepSpelling : Type 0
WritableLiteralsKeepSpelling = (k : Kind) → IsWritable k → KeepsSpelling k

-- what fits fits with source texts, where each literal without one is writable
abbrev pub WhatFitsFitsWithSources : Type 0
WhatFitsFitsWithSources = (tree : Node) → Everywhere IsWritable tree → Fits tree → Fits (with_sources tree)

-- what fits and is plain (that is what the calls `fits` and `is_plain` say) is printed as a text that is read as a plain module,
-- with some number of levels and with any larger one, as that tree: up to spans, contexts, the parentheses of the layout, and source
-- texts that literals lack
abbrev pub WhatFitsAndIsPlainIsReadAgain : Type 0
WhatFitsAndIsPlainIsReadAgain =
    (keep_assign : Bool) (tree : Node) → Fits tree → IsPlain keep_assign tree
    → (again : Node) × IsPlainModule keep_assign (layout tree) again × IsReadAgain (with_sources tree) again
