-- What is written is read again as the tree that was read.
use Rattle.std.proofs.Common.{◌≡◌, ◌≤◌, ◌<◌, ◌^◌, ℕ, List, Bool, true, false, Ok, Err, refl, sym, subst, arith, length, nat_lt, Vec}
use Rattle.std.proofs.lemmas.Bool.Decides.{nat_tests}
use Rattle.std.specs.declared.alloc.Global.{Global}
use Rattle.std.specs.Prelude.{Result, IfOk, if◌then◌else◌}
use Rattle.std.specs.Str.{is_utf8}
use Rattle.std.proofs.lemmas.Str.{IsUtf8-from_is_utf8}
use Rattle.ecma_tree.specs.declared.node.Node.{Node}
use Rattle.ecma_modules.specs.declared.error.ReadError.{ReadError}
use Rattle.ecma_modules.specs.Modules.{reads_as, plain, deepest}
use Rattle.ecma_print.specs.Layout.{layout}
use Rattle.ecma_round_trip_texts.specs.Again.{IsReadAsTree}
use Rattle.ecma_round_trip_texts.specs.Laws.{RelaidModulesAreReadAgain}
use Rattle.ts_to_js.specs.declared.error.TsError.{TsError}
use Rattle.ts_to_js.specs.declared.error.TsError.TheVariants as error
use Rattle.ts_to_js.specs.declared.program.TheConstants.{DONE}
use Rattle.ts_to_js.specs.Answer.{Answers}
use Rattle.ts_to_js.specs.Conversion.{byte_limit}
use Rattle.ts_to_js.specs.Running.{EndsWith, expected_of}
use Rattle.ts_to_js.proofs.Outcomes.{answered}
use Rattle.relayout.specs.Relayout.{IsRelaid, laid_out, relaid}

-- what a text says of the tests that were made
record IsLaidOut (long valid : Bool) (read : Result Node ReadError) (text : List ℕ) : Type 0 where
  short : long ≡ false
  utf8 : valid ≡ true
  tree : Node
  read_as : read ≡ Ok tree
  text_is : text ≡ layout tree

laid_out_parts : (long valid : Bool) (read : Result Node ReadError) (text : List ℕ)
    → (if long then Err error.TooLong else if valid then laid_out read else Err error.NotUtf8) ≡ Ok text → IsLaidOut long valid read text
laid_out_parts true valid read text h = cc
laid_out_parts false false read text h = cc
laid_out_parts false true (Ok tree) text h =
    record { short = refl; utf8 = refl; tree = tree; read_as = refl; text_is = cc }
laid_out_parts false true (Err reason) text h = cc

short_by : (src : List ℕ) → nat_lt byte_limit (length src) ≡ false → length src ≤ byte_limit
short_by src is = grind (arith, nat_tests)

below : (n : ℕ) → n ≤ 4194304 → n < 2 ^ 32
below n short = omega arith

pub is_relaid : RelaidModulesAreReadAgain → (src text : List ℕ) → relaid src ≡ Ok text → IsRelaid src text
is_relaid law src text h =
    let parts = laid_out_parts (nat_lt byte_limit (length src)) (is_utf8 src) (reads_as src (plain false) deepest) text h in
    let again = law src deepest parts.tree (IsUtf8-from_is_utf8 src parts.utf8) (below (length src) (short_by src parts.short)) parts.read_as in
    record { tree = parts.tree; read_plain = parts.read_as; again = subst (IsReadAsTree parts.tree) (sym parts.text_is) again }

pub answered-relaid : RelaidModulesAreReadAgain → (src : List ℕ) (result : Result (Vec ℕ Global) TsError) → Answers result (relaid src) → IfOk result (λ text. IsRelaid src text.items)
answered-relaid law src (Ok text) is = is_relaid law src text.items is
answered-relaid law src (Err refusal) is = tt

pub done-relaid : RelaidModulesAreReadAgain → (src : List ℕ) (status : ℕ) → EndsWith (expected_of (relaid src)).status status → status ≡ DONE → IsRelaid src (expected_of (relaid src)).text
done-relaid law src status ends done =
    let a = answered (relaid src) status ends done in
    subst (IsRelaid src) (sym a.same) (is_relaid law src a.text a.is)
