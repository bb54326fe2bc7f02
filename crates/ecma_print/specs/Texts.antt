-- Texts as they are written: each as what it puts in front of the text that follows it.
use Rattle.std.specs.Prelude.{◌≡◌, ℕ, List, ◌++◌}

abbrev pub Text : Type 0
Text = List ℕ → List ℕ

-- what was written after the old text is the new text, whatever follows
abbrev pub Writes : List ℕ → List ℕ → Text → Type 0
Writes old new text = (rest : List ℕ) → new ++ rest ≡ old ++ text rest

abbrev pub nothing : Text
nothing rest = rest
