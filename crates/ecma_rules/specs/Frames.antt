-- The labels around a node as the walk keeps them.
use Rattle.std.specs.Prelude.{ℕ, List, [], ◌∷◌}
use Rattle.ecma_rules.specs.declared.labels.Labels.{Labels, Nothing, Label'}
use Rattle.ecma_rules.specs.declared.strays.Strays.{Strays}
use Rattle.ecma_rules.specs.Jumps.{Held}

abbrev pub labels_of : Labels → List (List ℕ)
labels_of Nothing = []
labels_of (Label' label p outer) = label.now ∷ labels_of outer

abbrev pub held_of : Strays → Labels → Held
held_of strays labels = record { strays = strays; labels = labels_of labels }
