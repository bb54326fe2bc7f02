-- What is converted is a conversion, and every valid module is converted.
use Rattle.std.proofs.Common.{◌≡◌, ◌≤◌, ◌<◌, ◌^◌, ◌⊎◌, ℕ, List, Bool, true, false, Some, None, Ok, Err, inl, inr, refl, sym, subst, arith, length, nat_lt, Vec, ◌-◌}
use Rattle.std.proofs.lemmas.Bool.Decides.{nat_tests}
use Rattle.std.specs.declared.alloc.Global.{Global}
use Rattle.std.specs.Prelude.{Option, Result, IfOk, IsOk, cond}
use Rattle.std.specs.Str.{IsUtf8, is_utf8}
use Rattle.std.proofs.lemmas.Str.{IsUtf8-from_is_utf8, is_utf8-from_IsUtf8}
use Rattle.ecma_tree.specs.declared.node.Node.{Node}
use Rattle.ecma_modules.specs.declared.error.ReadError.{ReadError}
use Rattle.ecma_modules.specs.Modules.{reads_as, typescript, deepest}
use Rattle.ecma_print.specs.Layout.{layout}
use Rattle.ecma_hygiene_exists.proofs.Leaving.{leave-sixteen}
use Rattle.ecma_pipeline.specs.Laws.{ConvertedModulesDoWhatTheirSourcesDo}
use Rattle.ts_to_js.specs.declared.error.TsError.{TsError}
use Rattle.ts_to_js.specs.declared.error.TsError.TheVariants as error
use Rattle.ts_to_js.specs.Answer.{AnswersBy}
use Rattle.ecma_config.specs.declared.config.Config.{Config}
use Rattle.ts_to_js.specs.Conversion.{ComesOf, ComesOfReading, IsConverted, byte_limit}
use Rattle.ts_to_js.specs.Stages.{IsFinal}
use Rattle.ecma_plain.specs.Texts.{IsPlainModule}
use Rattle.ts_to_js.specs.Headline.{IsValidModule, IsValid, IsConversion}
use Rattle.ts_to_js.specs.Refusals.{refused}
use Rattle.ts_to_js.proofs.Accepting.{accepted, given}

-- where a text comes of a tree, nothing refuses that, and it is the layout of the tree that is written
record IsText (config : Config) (left : ℕ) (source : Node) (text : List ℕ) : Type 0 where
  taken : refused config left source ≡ None
  final : Node
  is : IsFinal config left source final
  text_is : text ≡ layout final

text_by : (config : Config) (left : ℕ) (source : Node) (refusal : Option TsError) (text : List ℕ) → refused config left source ≡ refusal → ComesOf config left refusal source (Ok text) → IsText config left source text
text_by config left source (Some refusal) text e h = cc
text_by config left source None text e (final, is, same) = record { taken = e; final = final; is = is; text_is = cc }

-- what an answer other than a refusal says of the tests that were made
record IsConvertedText (config : Config) (left : ℕ) (long valid : Bool) (read : Result Node ReadError) (text : List ℕ) : Type 0 where
  short : long ≡ false
  utf8 : valid ≡ true
  source : Node
  read_as : read ≡ Ok source
  is : IsText config left source text

converted_by : (config : Config) (left : ℕ) (long valid : Bool) (read : Result Node ReadError) (text : List ℕ)
    → cond long (Ok text ≡ Err error.TooLong) (cond valid (ComesOfReading config left read (Ok text)) (Ok text ≡ Err error.NotUtf8)) → IsConvertedText config left long valid read text
converted_by config left true valid read text h = cc
converted_by config left false false read text h = cc
converted_by config left false true (Ok source) text h = record { short = refl; utf8 = refl; source = source; read_as = refl; is = text_by config left source (refused config left source) text refl h }
converted_by config left false true (Err reason) text h = cc

short_by : (src : List ℕ) → nat_lt byte_limit (length src) ≡ false → length src ≤ byte_limit
short_by src is = grind (arith, nat_tests)

long_by : (src : List ℕ) → length src ≤ byte_limit → nat_lt byte_limit (length src) ≡ false
long_by src short = grind (arith, nat_tests)

below : (n : ℕ) → n ≤ 4194304 → n < 2 ^ 32 - 64
below n short = omega arith

pub is_conversion : ConvertedModulesDoWhatTheirSourcesDo → (config : Config) (left : ℕ) (src text : List ℕ) → IsConverted config left src (Ok text) → IsConversion config left src text
is_conversion law config left src text converted =
    let parts = converted_by config left (nat_lt byte_limit (length src)) (is_utf8 src) (reads_as src typescript deepest) text converted in
    let utf8 : IsUtf8 src = IsUtf8-from_is_utf8 src parts.utf8 in
    let short : length src ≤ byte_limit = short_by src parts.short in
    let is = parts.is in
    let tree = accepted config left parts.source is.taken in
    let whole = law config left (left - 1) (left - 2) deepest src parts.source is.final utf8 (below (length src) short) parts.read_as (record {
      taken = tree.taken;
      unrefused = tree.unrefused;
      given = given leave-sixteen left parts.source tree.enough;
      distinct = tree.distinct;
      uncaptured = tree.uncaptured;
      hygienic = is.is;
    }) in
    record {
      source = parts.source;
      valid = record { short = short; utf8 = utf8; reads_as = parts.read_as; taken = is.taken };
      written = whole.written;
      plain = subst (λ t. IsPlainModule false t whole.written) (sym is.text_is) whole.plain;
      final = is.final;
      is_final = is.is;
      tree = whole.tree;
      distinct = whole.distinct;
      interface = whole.interface;
      runs = λ options turns script unresolved top contexts given. inr (whole.runs unresolved top contexts given turns options script);
    }

-- what a valid module is converted to is a text
valid_by : (config : Config) (left : ℕ) (source : Node) (refusal : Option TsError) (answer : Result (List ℕ) TsError) → refusal ≡ None → ComesOf config left refusal source answer → (text : List ℕ) × (answer ≡ Ok text)
valid_by config left source (Some refusal) answer e h = cc
valid_by config left source None answer e (final, is, same) = (layout final, same)

pub valid_converted : (config : Config) (left : ℕ) (src : List ℕ) (tree : Node) → IsValidModule config left src tree → (answer : Result (List ℕ) TsError) → IsConverted config left src answer
    → (text : List ℕ) × (answer ≡ Ok text)
valid_converted config left src tree valid answer converted =
    let comes : ComesOf config left (refused config left tree) tree answer =
    subst (λ read. ComesOfReading config left read answer) valid.reads_as
    (subst (λ utf8. cond utf8 (ComesOfReading config left (reads_as src typescript deepest) answer) (answer ≡ Err error.NotUtf8)) (is_utf8-from_IsUtf8 src valid.utf8)
    (subst (λ long. cond long (answer ≡ Err error.TooLong) (cond (is_utf8 src) (ComesOfReading config left (reads_as src typescript deepest) answer) (answer ≡ Err error.NotUtf8)))
    (long_by src valid.short) converted)) in
    valid_by config left tree (refused config left tree) answer valid.taken comes

pub answered-conversion : ConvertedModulesDoWhatTheirSourcesDo → (config : Config) (left : ℕ) (src : List ℕ) (result : Result (Vec ℕ Global) TsError) → AnswersBy result (IsConverted config left src)
    → IfOk result (λ text. IsConversion config left src text.items)
answered-conversion law config left src (Ok text) is = is_conversion law config left src text.items is
answered-conversion law config left src (Err refusal) is = tt

no_text : (refusal : TsError) (text : List ℕ) → Err refusal ≡ Ok text → ⊥
no_text refusal text h = cc

answered_refusal : (config : Config) (left : ℕ) (src : List ℕ) (refusal : TsError) → IsConverted config left src (Err refusal) → IsValid config left src → ⊥
answered_refusal config left src refusal is (tree, valid) = let other = valid_converted config left src tree valid (Err refusal) is in no_text refusal other.0 other.1

pub answered-valid : (config : Config) (left : ℕ) (src : List ℕ) (result : Result (Vec ℕ Global) TsError) → AnswersBy result (IsConverted config left src) → IsValid config left src
    → (IsOk result) ⊎ (result ≡ Err error.NoMemory)
answered-valid config left src (Ok text) is valid = inl refl
answered-valid config left src (Err error.NoMemory) is valid = inr refl
answered-valid config left src (Err error.TooLong) is valid = absurd (answered_refusal config left src error.TooLong is valid)
answered-valid config left src (Err error.NotUtf8) is valid = absurd (answered_refusal config left src error.NotUtf8 is valid)
answered-valid config left src (Err (error.TooDeep at)) is valid = absurd (answered_refusal config left src (error.TooDeep at) is valid)
answered-valid config left src (Err (error.Syntax at)) is valid = absurd (answered_refusal config left src (error.Syntax at) is valid)
answered-valid config left src (Err error.Spent) is valid = absurd (answered_refusal config left src error.Spent is valid)
answered-valid config left src (Err (error.ExportAssignTwice at)) is valid = absurd (answered_refusal config left src (error.ExportAssignTwice at) is valid)
answered-valid config left src (Err (error.ImportAssign at)) is valid = absurd (answered_refusal config left src (error.ImportAssign at) is valid)
answered-valid config left src (Err (error.ExportAssign at)) is valid = absurd (answered_refusal config left src (error.ExportAssign at) is valid)
answered-valid config left src (Err (error.Redeclared name)) is valid = absurd (answered_refusal config left src (error.Redeclared name) is valid)
answered-valid config left src (Err (error.ExportUnbound name)) is valid = absurd (answered_refusal config left src (error.ExportUnbound name) is valid)
answered-valid config left src (Err (error.Captured name)) is valid = absurd (answered_refusal config left src (error.Captured name) is valid)
