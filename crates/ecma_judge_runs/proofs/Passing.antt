-- A child that passes a test.
use Rattle.std.proofs.Common.{◌≡◌, subst, List, ◌∷◌, Bool, true, false, slice_get}
use Rattle.std.specs.Option.{option_map_or}
use Rattle.ecma_tree.specs.declared.node.Node.{Node, out-Node}
use Rattle.ecma_judge.specs.Parts.{passes_at}

pub passes_first : (test : Node → Bool) (n a : Node) (cs : List Node) → (out-Node n).children ≡ a ∷ cs → passes_at test 0 n ≡ true → test a ≡ true
passes_first test n a cs is h = subst (λ (z : List Node). option_map_or test (slice_get z 0) false ≡ true) is h

pub passes_second : (test : Node → Bool) (n a b : Node) (cs : List Node) → (out-Node n).children ≡ a ∷ b ∷ cs → passes_at test 1 n ≡ true → test b ≡ true
passes_second test n a b cs is h = subst (λ (z : List Node). option_map_or test (slice_get z 1) false ≡ true) is h
