-- The values of members, and what is written for them.
use Rattle.std.proofs.Common.{◌≡◌, ℕ, Bool, true, false, List, [], ◌∷◌, Option, Some, None, refl, sym}
use Rattle.std.specs.Prelude.{ℤ, pos, int_lt, if◌then◌else◌}
use Rattle.std.specs.List.{All}
use Rattle.std.specs.Option.{option_and_then}
use Rattle.std.proofs.lemmas.List.Elements.{All-head, All-tail}
use Rattle.ecma_kind.specs.declared.kind.Kind.{Kind}
use Rattle.ecma_kind.specs.declared.kind.Kind.TheVariants as kind
use Rattle.ecma_kind.specs.declared.operators.BinaryOp.TheVariants as binary
use Rattle.ecma_kind.specs.declared.operators.UnaryOp.TheVariants as unary
use Rattle.ecma_kind.specs.declared.span.Span.{Span}
use Rattle.ecma_number.specs.Arithmetic.{unary_minus_of}
use Rattle.ecma_number.specs.JsNumber.{value_of as integer_of}
use Rattle.ecma_number.specs.declared.js_number.JsNumber.{JsNumber}
use Rattle.ecma_number.specs.declared.js_number.JsNumber.TheVariants as number
use Rattle.ecma_tree.specs.Nodes.{dummy_span}
use Rattle.ecma_tree.specs.declared.node.Node.{Node, out-Node}
use Rattle.ecma_enums.specs.KnownReads.{known_by, known_read, lasting, stays_known, value_of}
use Rattle.ecma_enums.specs.Names.{Name, name_at}
use Rattle.ecma_enums.specs.Keys.{key_at}
use Rattle.ecma_enums.specs.Records.{entry_behind, entry_named, is_of}
use Rattle.ecma_enums.specs.Values.{divided_by_zero, expression, minus, number_expression, numeral, one, undefined, whole_expression, zero}
use Rattle.ecma_enums.specs.declared.record.TsEnumRecordEntry.{TsEnumRecordEntry}
use Rattle.ecma_enums.specs.declared.value.TsEnumRecordValue.{TsEnumRecordValue}
use Rattle.ecma_enums.specs.declared.value.TsEnumRecordValue.TheVariants as value
use Rattle.ecma_lower_enums_sources.specs.Throughout.{Throughout, more, none}
use Rattle.ecma_lower_enums_sources.proofs.Trees.{Of, good}

abbrev pub is_operator : Kind → Bool
is_operator (kind.UnaryExpr op) = true
is_operator (kind.BinExpr op) = true
is_operator _ = false

-- of whole numbers and of texts that are so, and of what then holds of what is written
module _ (P : Span → Kind → Type 0) (IsSo : ℤ → Type 0) (IsText : List ℕ → Type 0) where
  pub record Literals : Type 0 where
    pub operator : (k : Kind) → is_operator k ≡ true → P dummy_span k
    pub digits : (n : JsNumber) → IsSo (integer_of n) → P dummy_span (kind.Number (Some n) None)
    pub text : (t : List ℕ) → IsText t → P dummy_span (kind.Str t None)
    pub zero_so : IsSo (pos 0)
    pub one_so : IsSo (pos 1)
    pub minus_so : (n : ℤ) → IsSo n → IsSo (integer_of (unary_minus_of (number.Whole n)))

  abbrev IsNumberSo : JsNumber → Type 0
  IsNumberSo (number.Whole n) = IsSo n
  IsNumberSo _ = Unit

  abbrev pub IsValueSo : TsEnumRecordValue → Type 0
  IsValueSo (value.String text) = IsText text
  IsValueSo (value.Number n) = IsNumberSo n
  IsValueSo _ = Unit

  module _ (literals : Literals) where
    abbrev Good : Node → Type 0
    Good = Throughout (Of P)

    numeral-good : (n : JsNumber) → IsSo (integer_of n) → Good (numeral (Some n))
    numeral-good n h = good P dummy_span (kind.Number (Some n) None) [] (literals.digits n h) none

    minus-good : (e : Node) → Good e → Good (minus e)
    minus-good e h = good P dummy_span (kind.UnaryExpr unary.Minus) (e ∷ []) (literals.operator (kind.UnaryExpr unary.Minus) refl) (more h none)

    divided-good : (e : Node) → Good e → Good (divided_by_zero e)
    divided-good e h = good P dummy_span (kind.BinExpr binary.Div) (e ∷ numeral (Some zero) ∷ []) (literals.operator (kind.BinExpr binary.Div) refl) (more h (more (numeral-good zero literals.zero_so) none))

    pub undefined-good : Good undefined
    undefined-good = good P dummy_span (kind.UnaryExpr unary.Void) (numeral (Some zero) ∷ []) (literals.operator (kind.UnaryExpr unary.Void) refl) (more (numeral-good zero literals.zero_so) none)

    whole-good : (n : ℤ) → IsSo n → Good (whole_expression n)
    whole-good n h = by (int_lt n (pos 0))
      where
        by : (b : Bool) → Good (if b then minus (numeral (Some (unary_minus_of (number.Whole n)))) else numeral (Some (number.Whole n)))
        by true = minus-good (numeral (Some (unary_minus_of (number.Whole n)))) (numeral-good (unary_minus_of (number.Whole n)) (literals.minus_so n h))
        by false = numeral-good (number.Whole n) h

    number-good : (n : JsNumber) → IsNumberSo n → Good (number_expression n)
    number-good (number.Whole n) h = whole-good n h
    number-good number.NegZero h = minus-good (numeral (Some zero)) (numeral-good zero literals.zero_so)
    number-good number.NaN h = divided-good (numeral (Some zero)) (numeral-good zero literals.zero_so)
    number-good number.Infinity h = divided-good (numeral (Some one)) (numeral-good one literals.one_so)
    number-good number.NegInfinity h = divided-good (minus (numeral (Some one))) (minus-good (numeral (Some one)) (numeral-good one literals.one_so))

    abbrev IfGood : Option Node → Type 0
    IfGood None = Unit
    IfGood (Some e) = Good e

    pub expression-good : (v : TsEnumRecordValue) → IsValueSo v → IfGood (expression v)
    expression-good (value.String t) h = good P dummy_span (kind.Str t None) [] (literals.text t h) none
    expression-good (value.Number n) h = number-good n h
    expression-good value.Opaque h = tt
    expression-good value.Void h = undefined-good

    -- ---- members

    abbrev IsEntry : Option TsEnumRecordEntry → Type 0
    IsEntry None = Unit
    IsEntry (Some e) = IsValueSo e.value

    found-so : (b : Bool) (e : TsEnumRecordEntry) (o : Option TsEnumRecordEntry) → IsValueSo e.value → IsEntry o → IsEntry (if b then Some e else o)
    found-so true e o h g = h
    found-so false e o h g = g

    entry-so : (found : Option TsEnumRecordEntry) (sym : List ℕ) (ctxt : ℕ) (key : List ℕ) (es : List TsEnumRecordEntry) → IsEntry found → All (λ (e : TsEnumRecordEntry). IsValueSo e.value) es
        → IsEntry (entry_behind found sym ctxt key es)
    entry-so found sym ctxt key [] h g = h
    entry-so found sym ctxt key (e ∷ es) h g =
        let here = All-head (λ (e : TsEnumRecordEntry). IsValueSo e.value) e es g in
        let rest = All-tail (λ (e : TsEnumRecordEntry). IsValueSo e.value) e es g in
        entry-so (if is_of sym ctxt key e.key then Some e else found) sym ctxt key es (found-so (is_of sym ctxt key e.key) e found here h) rest

    lasting-good : (may_change : Bool) (o : Option TsEnumRecordEntry) → IsEntry o → IfGood (option_and_then expression (option_and_then (lasting may_change) o))
    lasting-good may_change None h = tt
    lasting-good may_change (Some e) h = by (stays_known may_change e)
      where
        by : (b : Bool) → IfGood (option_and_then expression (if b then Some e.value else None))
        by true = expression-good e.value h
        by false = tt

    module _ (es : List TsEnumRecordEntry) (so : All (λ (e : TsEnumRecordEntry). IsValueSo e.value) es) where
      value-good : (may_change : Bool) (n : Option Name) (k : Option (List ℕ)) → IfGood (option_and_then expression (value_of may_change es n k))
      value-good may_change (Some name) (Some key) = lasting-good may_change (entry_named name.0 name.1 key es) (entry-so None name.0 name.1 key es tt so)
      value-good may_change (Some name) None = tt
      value-good may_change None k = tt

      kind-good : (may_change : Bool) (k : Kind) (n : Node) → IfGood (option_and_then expression (known_by may_change es k n))
      kind-good may_change kind.MemberExpr n = value-good may_change (name_at n 0) (key_at n 1)
      kind-good may_change _ n = tt

      pub known-good : (may_change : Bool) (n : Node) → IfGood (option_and_then expression (known_read may_change es n))
      known-good may_change n = kind-good may_change (out-Node n).kind n
