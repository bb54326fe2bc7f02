-- A run has contexts enough for each text that it reads.
use Rattle.std.proofs.Common.{◌≡◌, ◌≢◌, ◌≤◌, ℕ, Bool, true, false, List, Option, Some, None, Result, Ok, Err, get_or, length, nat_lt, refl, ap, subst, arith}
use Rattle.std.proofs.lemmas.Bool.{le-ltb, ltb-false}
use Rattle.std.proofs.lemmas.Str.{IsUtf8-from_is_utf8}
use Rattle.std.specs.Prelude.{cond}
use Rattle.std.specs.Str.{is_utf8}
use Rattle.ecma_tree.specs.declared.node.Node.{Node}
use Rattle.ecma_modules.specs.declared.error.ReadError.{ReadError}
use Rattle.ecma_modules.specs.declared.error.ReadError.TheVariants as reading
use Rattle.ecma_modules.specs.Modules.{deepest, reads_as, typescript}
use Rattle.ecma_scope.specs.Clashes.{first_redeclared}
use Rattle.ecma_scope.specs.Needs.{needed}
use Rattle.ecma_config.specs.declared.config.Config.{Config}
use Rattle.ecma_forms.specs.Forms.{first_untaken}
use Rattle.ecma_lower.specs.Checking.{first_refusal}
use Rattle.ecma_lower.specs.declared.error.LowerError.{LowerError}
use Rattle.ecma_lower.specs.declared.error.LowerError.TheVariants as lowering
use Rattle.ecma_text_contexts.specs.Laws.{NeededIsBoundedByTheText}
use Rattle.ts_to_js.specs.declared.error.TsError.{TsError}
use Rattle.ts_to_js.specs.declared.error.TsError.TheVariants as error
use Rattle.ts_to_js.specs.Conversion.{ComesOf, ComesOfReading, byte_limit}
use Rattle.ts_to_js.specs.Lines.{fault_line}
use Rattle.ecma_exports.specs.Exports.{first_captured, first_unbound}
use Rattle.ts_to_js.specs.Refusals.{refusal_of, refused_assignment, refused_by, refused_form, refused_late, refused_name}
use Rattle.ts_to_js.specs.Stages.{kept, ready_of}
use Rattle.ts_to_js.specs.Running.{NoRunIsSpent, contexts_of_a_run, expected_of}

-- a tree for which contexts enough are left
enough_left : (config : Config) (left : ℕ) (tree : Node) (untaken : Option ℕ) (refusal : Option LowerError) (told unbound captured : Option (List ℕ)) (answer : Result (List ℕ) TsError)
    → ComesOf config left (refused_by (refused_form untaken false) (refused_by (refused_assignment refusal) (refused_name told unbound captured))) tree answer → answer ≢ Err error.Spent
enough_left config left tree (Some at) refusal told unbound captured answer is spent = cc
enough_left config left tree None (Some (lowering.ExportAssignTwice at)) told unbound captured answer is spent = cc
enough_left config left tree None (Some (lowering.ImportAssign at)) told unbound captured answer is spent = cc
enough_left config left tree None (Some (lowering.ExportAssign at)) told unbound captured answer is spent = cc
enough_left config left tree None (Some lowering.NoMemory) told unbound captured answer is spent = cc
enough_left config left tree None None None None None answer (final, is_final, is) spent = cc
enough_left config left tree None None None None (Some name) answer is spent = cc
enough_left config left tree None None None (Some name) captured answer is spent = cc
enough_left config left tree None None (Some name) unbound captured answer is spent = cc

-- a text that is not read
not_read : (reason : ReadError) → refusal_of reason ≢ error.Spent
not_read (reading.TooDeep at) spent = cc
not_read (reading.Syntax at) spent = cc
not_read reading.NoMemory spent = cc

same_refusal : (answer : Result (List ℕ) TsError) (one other : TsError) → answer ≡ Err one → answer ≡ Err other → one ≡ other
same_refusal answer one other is is' = cc

module _ (law : NeededIsBoundedByTheText) (config : Config) (src : List ℕ) (answer : Result (List ℕ) TsError) where
  needs_few : (tree : Node) → length src ≤ byte_limit → is_utf8 src ≡ true → reads_as src typescript deepest ≡ Ok tree → nat_lt contexts_of_a_run (needed tree) ≡ false
  needs_few tree short utf8 read =
      let few = law src typescript deepest tree (IsUtf8-from_is_utf8 src utf8) read in
      le-ltb contexts_of_a_run (needed tree) (omega arith)

  by_reading : (read : Result Node ReadError) → ((tree : Node) → read ≡ Ok tree → nat_lt contexts_of_a_run (needed tree) ≡ false) → ComesOfReading config contexts_of_a_run read answer → answer ≢ Err error.Spent
  by_reading (Ok tree) few comes =
      enough_left config contexts_of_a_run tree (first_untaken config.import_export_assign_config tree) (first_refusal config.import_export_assign_config (kept config contexts_of_a_run tree))
      (first_redeclared (kept config contexts_of_a_run tree)) (first_unbound contexts_of_a_run (ready_of config contexts_of_a_run tree))
      (first_captured contexts_of_a_run (ready_of config contexts_of_a_run tree)) answer
      (subst (λ short. ComesOf config contexts_of_a_run (refused_by (refused_form (first_untaken config.import_export_assign_config tree) short) (refused_late config contexts_of_a_run tree)) tree answer)
      (few tree refl) comes)
  by_reading (Err reason) few is = λ spent. not_read reason (same_refusal answer (refusal_of reason) error.Spent is spent)

  by_tests : (long utf8 : Bool) → nat_lt byte_limit (length src) ≡ long → is_utf8 src ≡ utf8
      → cond long (answer ≡ Err error.TooLong) (cond utf8 (ComesOfReading config contexts_of_a_run (reads_as src typescript deepest) answer) (answer ≡ Err error.NotUtf8)) → answer ≢ Err error.Spent
  by_tests true utf8 l u is = λ spent. cc
  by_tests false true l u comes = by_reading (reads_as src typescript deepest) (λ tree read. needs_few tree (ltb-false byte_limit (length src) l) u read) comes
  by_tests false false l u is = λ spent. cc

pub never_spent : NeededIsBoundedByTheText → NoRunIsSpent
never_spent law config src answer converted = by_tests law config src answer (nat_lt byte_limit (length src)) (is_utf8 src) refl refl converted

-- the lines of two refusals differ in a letter
letter : (i : ℕ) {xs ys : List ℕ} → xs ≡ ys → get_or xs i 0 ≡ get_or ys i 0
letter i is = ap (λ xs. get_or xs i 0) is

pub other_line : (answer : Result (List ℕ) TsError) → answer ≢ Err error.Spent → (expected_of answer).line ≢ fault_line error.Spent
other_line (Ok text) other is = omega (arith, letter 7 is)
other_line (Err error.TooLong) other is = omega (arith, letter 7 is)
other_line (Err error.NotUtf8) other is = omega (arith, letter 7 is)
other_line (Err (error.TooDeep at)) other is = omega (arith, letter 7 is)
other_line (Err (error.Syntax at)) other is = omega (arith, letter 8 is)
other_line (Err error.Spent) other is = other refl
other_line (Err (error.ExportAssignTwice at)) other is = omega (arith, letter 7 is)
other_line (Err (error.ImportAssign at)) other is = omega (arith, letter 7 is)
other_line (Err (error.ExportAssign at)) other is = omega (arith, letter 7 is)
other_line (Err (error.Redeclared name)) other is = omega (arith, letter 7 is)
other_line (Err (error.ExportUnbound name)) other is = omega (arith, letter 7 is)
other_line (Err (error.Captured name)) other is = omega (arith, letter 7 is)
other_line (Err error.NoMemory) other is = omega (arith, letter 7 is)
