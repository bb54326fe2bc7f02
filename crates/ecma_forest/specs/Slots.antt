-- What slots say.
use Rattle.std.specs.Prelude.{◌≡◌, ◌≤◌, ◌<◌, ◌+◌, ℕ, List, [], ◌∷◌, ◌++◌, take, drop, map, length, Some, slice_get, slice_index_or}
use Rattle.ecma_kind.specs.declared.span.Span.{Span}
use Rattle.ecma_kind.specs.declared.kind.Kind.{Kind}
use Rattle.ecma_kind.specs.declared.kind.Kind.TheVariants.{Absent}
use Rattle.ecma_tree.specs.Nodes.{node_of}
use Rattle.ecma_tree.specs.declared.node.Node.{Node}
use Rattle.ecma_forest.specs.Summaries.{joined_summaries, join_summaries, tree_summary}
use Rattle.ecma_forest.specs.declared.forest.Slot.{Slot}
use Rattle.ecma_forest.specs.declared.summary.Summary.{Summary}

-- a list, and more behind it
abbrev pub Extends : {X : Type 0} → List X → List X → Type 0
Extends {X} old new = (more : List X) × (new ≡ old ++ more)

-- what they say of their trees, together
abbrev pub slots_summary : List Slot → Summary
slots_summary ss = joined_summaries (map (λ s. s.summary) ss)

-- a slot whose children, these, come to stand at first
abbrev pub slot_over : Span → ℕ → Summary → ℕ → List Slot → Slot
slot_over span kind own first children = record { span = span; kind = kind; first = first; count = length children; summary = join_summaries own (slots_summary children) }

abbrev pub kind_at : List Kind → ℕ → Kind
kind_at kinds k = slice_index_or kinds k Absent

-- the tree of a slot, whose children are among these trees
abbrev pub tree_of : List Kind → List Node → Slot → Node
tree_of kinds trees s = node_of s.span (kind_at kinds s.kind) (take s.count (drop s.first trees))

abbrev pub grown_from : List Kind → List Node → List Slot → List Node
grown_from kinds trees [] = trees
grown_from kinds trees (s ∷ ss) = grown_from kinds (trees ++ tree_of kinds trees s ∷ []) ss

-- the trees of slots, of which each has its children among those in front of it
unfoldable pub grown : List Kind → List Slot → List Node
grown kinds ss = grown_from kinds [] ss

abbrev pub trees_over : List Kind → List Slot → List Slot → List Node
trees_over kinds below roots = map (tree_of kinds (grown kinds below)) roots

-- a slot whose children stand in front of a place, and whose kind is one of so many
pub record IsGrounded (n place : ℕ) (s : Slot) : Type 0 where
  pub known : s.kind < n
  pub front : s.first + s.count ≤ place

-- so each of these, of which the first stands at a place
abbrev pub StandGrounded : ℕ → ℕ → List Slot → Type 0
StandGrounded n place ss = (i : ℕ) (s : Slot) → slice_get ss i ≡ Some s → IsGrounded n (place + i) s

abbrev pub AllGrounded : ℕ → ℕ → List Slot → Type 0
AllGrounded n place [] = Unit {0}
AllGrounded n place (s ∷ ss) = IsGrounded n place s × AllGrounded n place ss

-- a slot has the summary of its tree
abbrev pub IsSummed : List Kind → List Node → Slot → Type 0
IsSummed kinds trees s = s.summary ≡ tree_summary (tree_of kinds trees s)

abbrev pub AllSummed : List Kind → List Node → List Slot → Type 0
AllSummed kinds trees [] = Unit {0}
AllSummed kinds trees (s ∷ ss) = IsSummed kinds trees s × AllSummed kinds trees ss

-- slots that stand below roots
pub record AreSound (kinds : List Kind) (below : List Slot) : Type 0 where
  pub grounded : StandGrounded (length kinds) 0 below
  pub summed : AllSummed kinds (grown kinds below) below

pub record AreRooted (kinds : List Kind) (below roots : List Slot) : Type 0 where
  pub inner : AreSound kinds below
  pub grounded : AllGrounded (length kinds) (length below) roots
  pub summed : AllSummed kinds (grown kinds below) roots

-- a slot that may be read among others
pub record IsAt (kinds : List Kind) (below : List Slot) (s : Slot) : Type 0 where
  pub inner : AreSound kinds below
  pub grounded : IsGrounded (length kinds) (length below) s
  pub summed : IsSummed kinds (grown kinds below) s
