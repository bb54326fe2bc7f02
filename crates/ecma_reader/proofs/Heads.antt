-- Where the head of a grammar fails by the tokens ahead, the grammar does: its head is what it asks for first.
use Rattle.std.proofs.Common.{◌≡◌, ℕ, max, true, false, List, refl, arith}
use Rattle.ecma_lex.specs.Blanks.{skipped}
use Rattle.ecma_grammar.specs.declared.production.Mode.{Mode}
use Rattle.ecma_grammar.specs.declared.production.Flag.{Flag}
use Rattle.ecma_grammar.specs.declared.production.Form.{Form}
use Rattle.ecma_grammar.specs.Grammar as grammar
use Rattle.ecma_grammar.specs.Grammar.{Grammar, ◌▸◌, same_line, put, marked, ahead, build}
use Rattle.ecma_reader.specs.Outlook.{Fails, outlook}

-- as far as the head is known to fail, the whole does
abbrev pub IsHead : List ℕ → ℕ → Mode → Grammar → Grammar → Type 0
IsHead text i mode g h = (at : ℕ) → outlook text i mode h ≡ Fails at → outlook text i mode g ≡ Fails at

module _ (text : List ℕ) (i : ℕ) (mode : Mode) (g : Grammar) where
  pub head-first : (a b : Grammar) → IsHead text i mode g (a ▸ b) → IsHead text i mode g a
  head-first a b h at k = h at (rw k refl)

  pub head-behind-flag : (f : Flag) (b : Grammar) → IsHead text i mode g (put f ▸ b) → IsHead text i mode g b
  head-behind-flag f b h at k = let same : max 0 at ≡ at = omega arith in h at (rw (k, same) refl)

  pub head-in-line : (b : Grammar) → (skipped text i).new_line ≡ false → IsHead text i mode g (same_line ▸ b) → IsHead text i mode g b
  head-in-line b none h at k = let same : max 0 at ≡ at = omega arith in h at (rw (none, k, same) refl)

  pub line-fails : (b : Grammar) → (skipped text i).new_line ≡ true → IsHead text i mode g (same_line ▸ b) → outlook text i mode g ≡ Fails (skipped text i).to
  line-fails b some h = h (skipped text i).to (rw some refl)

  pub head-ahead : (a : Grammar) → IsHead text i mode g (ahead a) → IsHead text i mode g a
  head-ahead a h at k = h at (rw k refl)

  pub head-built : (form : Form) (a : Grammar) → IsHead text i mode g (build form a) → IsHead text i mode g a
  head-built form a h at k = h at (rw k refl)

  pub head-marked : (a : Grammar) → mode.typescript ≡ true → IsHead text i mode g (marked a) → IsHead text i mode g a
  head-marked a on h at k = h at (rw on k)

  pub unmarked-fails : (a : Grammar) → mode.typescript ≡ false → IsHead text i mode g (marked a) → outlook text i mode g ≡ Fails 0
  unmarked-fails a off h = h 0 (rw off refl)

pub ruleset heading = (head-first, head-behind-flag, head-in-line, line-fails, head-ahead, head-built, head-marked, unmarked-fails)
