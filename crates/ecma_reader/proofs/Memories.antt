-- What is remembered of an attempt that failed holds wherever terminals have failed before, and however many levels more are allowed.
use Rattle.std.proofs.Common.{◌≡◌, ◌⊎◌, ℕ, ◌≤◌, List, Some, sym, subst}
use mathlib.Core.Logic.{inl, inr}
use Rattle.ecma_grammar.specs.declared.production.Mode.{Mode}
use Rattle.ecma_grammar.specs.Grammar.{Grammar}
use Rattle.ecma_grammar.specs.Reading.{fails}
use Rattle.ecma_grammar.specs.Reads.{reads_with_types, levels_with_types}
use Rattle.ecma_reader.specs.declared.reader.memo.Trial.{Trial}
use Rattle.ecma_reader.specs.declared.reader.memo.Refusal.{Refusal}
use Rattle.ecma_reader.specs.declared.reader.memo.Memo.{Memo}
use Rattle.ecma_reader.specs.Attempts.{attempted}
use Rattle.ecma_reader.specs.Memo.{refusal_of, IsRemembered, Remembers}
use Rattle.ecma_reader.proofs.Deepening.{fails-deeper}
use Rattle.ecma_reader.proofs.Raising.{fails-again}

-- what is remembered fails
pub remembered-fails : (text : List ℕ) (mode : Mode) (memo : Memo) (trial : Trial) (g : Grammar) (refusal : Refusal) (left failed : ℕ) → Remembers text mode memo → refusal_of memo trial ≡ Some refusal
    → attempted trial.attempt ≡ g → refusal.left ≤ left → refusal.at ≤ failed → reads_with_types text mode (levels_with_types text mode left) g (record { place = trial.place; failed = failed }) ≡ fails failed
remembered-fails text mode memo trial g refusal left failed h is same deep more =
    subst (λ x. reads_with_types text mode (levels_with_types text mode left) x (record { place = trial.place; failed = failed }) ≡ fails failed) same (h trial refusal is left failed deep more)

-- what failed is remembered beside the others
pub remembers-more : (text : List ℕ) (mode : Mode) (old new : Memo) (trial : Trial) (g : Grammar) (refusal : Refusal) (before : ℕ) → Remembers text mode old → attempted trial.attempt ≡ g
    → reads_with_types text mode (levels_with_types text mode refusal.left) g (record { place = trial.place; failed = before }) ≡ fails refusal.at
    → ((t : Trial) (k : Refusal) → refusal_of new t ≡ Some k → ((t ≡ trial) × (k ≡ refusal)) ⊎ (refusal_of old t ≡ Some k)) → Remembers text mode new
remembers-more text mode old new trial g refusal before h same is either t k found = go (either t k found)
  where
    first : reads_with_types text mode (levels_with_types text mode refusal.left) (attempted trial.attempt) (record { place = trial.place; failed = before }) ≡ fails refusal.at
    first = subst (λ x. reads_with_types text mode (levels_with_types text mode refusal.left) x (record { place = trial.place; failed = before }) ≡ fails refusal.at) (sym same) is

    this : IsRemembered text mode trial refusal
    this left failed deep more =
        fails-deeper text mode refusal.left left (attempted trial.attempt) (record { place = trial.place; failed = failed }) failed deep
        (fails-again text mode refusal.left (attempted trial.attempt) trial.place before refusal.at failed first more)

    go : ((t ≡ trial) × (k ≡ refusal)) ⊎ (refusal_of old t ≡ Some k) → IsRemembered text mode t k
    go (inl is_this) = subst (λ x. IsRemembered text mode x k) (sym is_this.0) (subst (λ x. IsRemembered text mode trial x) (sym is_this.1) this)
    go (inr was) = h t k was

pub ruleset remembering = (remembered-fails, remembers-more)
