-- Trees whose literals have source texts: a literal without one gets the text that is written for it (ECMAScript, 12.9.3, 12.9.4).
use Rattle.std.specs.Prelude.{◌≡◌, ℕ, true, List, Option, Some, None, Bool}
use Rattle.ecma_number.specs.declared.js_number.JsNumber.{JsNumber}
use Rattle.ecma_number.specs.Text.{text_of}
use Rattle.ecma_kind.specs.declared.kind.Kind.{Kind}
use Rattle.ecma_kind.specs.declared.kind.Kind.TheVariants.{Str, Number, BigInt}
use Rattle.ecma_tree.specs.declared.node.Node.{Node}
use Rattle.ecma_tree.specs.Changing.{changed}
use Rattle.ecma_leaves.specs.Words.{is_spelled}
use Rattle.ecma_print.specs.Escapes.{made_text}
use Rattle.ecma_plain.specs.Writable.{big_text}

-- the source text that is there, or else this one
abbrev pub source_or : List ℕ → Option (List ℕ) → Option (List ℕ)
source_or made None = Some made
source_or made (Some raw) = Some raw

-- a number without a value has no text
abbrev pub number_source : Option JsNumber → Option (List ℕ) → Option (List ℕ)
number_source None raw = raw
number_source (Some value) raw = source_or (text_of value) raw

abbrev pub with_source : Kind → Kind
with_source (Str value raw) = Str value (source_or (made_text value) raw)
with_source (Number value raw) = Number value (number_source value raw)
with_source (BigInt value raw) = BigInt value (source_or (big_text value) raw)
with_source kind = kind

-- the tree in which each literal has its source text, or else the one that is written for it
abbrev pub with_sources : Node → Node
with_sources = changed (λ span. span) with_source

-- with its source text a literal is spelled as without
abbrev pub KeepsSpelling : Kind → Type 0
KeepsSpelling k = (tagged : Bool) → is_spelled tagged k ≡ true → is_spelled tagged (with_source k) ≡ true
