-- What the grammar gives of a text as a module is sound.
use Rattle.std.proofs.Common.{◌≡◌, ℕ, List, [], ◌∷◌, Ok, refl, subst}
use Rattle.ecma_tree.specs.declared.node.Node.{Node}
use Rattle.ecma_grammar.specs.declared.production.Mode.{Mode}
use Rattle.ecma_grammar.specs.Modules.{answer_of, reads_module}
use Rattle.ecma_grammar.specs.productions.Modules.{module_body}
use Rattle.ecma_grammar.specs.Reading.{Outcome, fails, read, too_deep}
use Rattle.ecma_text_leaves.proofs.Leaves.{Holds}
use Rattle.ecma_text_fits_parts.proofs.Grades.{good}
use Rattle.ecma_text_fits_parts.proofs.Statements.{kept}
use Rattle.ecma_text_fits_parts.proofs.KeepsChecks.{module_kept}
use Rattle.ecma_text_fits_parts.proofs.Sound.{Sound}
use Rattle.ecma_text_fits_parts.proofs.Throughout.{Throughout}
use Rattle.ecma_text_fits_parts.proofs.Wanted.{Given, done, one}

one_sound : (o : Outcome (List Node)) (raw : Node) → Holds o (Given (one good done)) → answer_of o ≡ Ok raw → Throughout Sound raw
one_sound (read [] s) raw h e = absurd (h s [] refl)
one_sound (read (x ∷ []) s) raw h e = let is : x ≡ raw = cc in subst (Throughout Sound) is (h s (x ∷ []) refl).0.0
one_sound (read (x ∷ y ∷ ys) s) raw h e = absurd (h s (x ∷ y ∷ ys) refl).1
one_sound (fails n) raw h e = cc
one_sound (too_deep n) raw h e = cc

pub raw_sound : (text : List ℕ) (mode : Mode) (bound : ℕ) (raw : Node) → answer_of (reads_module text mode bound) ≡ Ok raw → Throughout Sound raw
raw_sound text mode bound raw e = one_sound (reads_module text mode bound) raw (kept text mode bound module_body (one good done) (record { place = 0; failed = 0 }) module_kept) e
