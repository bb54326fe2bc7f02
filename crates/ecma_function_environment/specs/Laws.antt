-- Laws of names in the places of what is needed.
use Rattle.std.specs.Prelude.{◌≡◌, ◌≤◌, ◌+◌, ◌-◌, ◌*◌, ℕ, zero, suc, Bool, List, [], ◌∷◌, ◌++◌, length, map}
use Rattle.std.specs.List.{sum}
use Rattle.std.specs.Map.{keys_of}
use Rattle.indexmap.specs.IndexSet.{insert_all}
use Rattle.ecma_tree.specs.Layers.{from_leaves}
use Rattle.ecma_tree.specs.declared.node.Node.{Node}
use Rattle.ecma_function_environment.specs.declared.hoisting.Flags.{Flags}
use Rattle.ecma_function_environment.specs.declared.need.Need.{Need}
use Rattle.ecma_function_environment.specs.declared.seat.Seat.{Seat}
use Rattle.ecma_function_environment.specs.Declaring.{declared, declared_draws}
use Rattle.ecma_function_environment.specs.Hoisting.{needs_in, needs_of}
use Rattle.ecma_function_environment.specs.Needs.{Names, draws_for, named, same_need}

-- ---- names

-- the marks that a session with so many left gives, one after the other
abbrev pub marks_from : ℕ → ℕ → List ℕ
marks_from left zero = []
marks_from left (suc n) = left ∷ marks_from (left - 1) n

-- exactly what had a name or is needed has one, once, in the order of first use; each name that is new is in a context of its own, which the session gives
pub record AreNamed (needs : List Need) (left : ℕ) (old new : Names) : Type 0 where
  pub added : Names
  pub kept : new ≡ old ++ added
  pub exactly : keys_of new ≡ insert_all same_need (keys_of old) needs
  pub fresh : map (λ e. e.1) added ≡ marks_from left (length added)

abbrev pub EachNeedHasOneName : Type 0
EachNeedHasOneName = (needs : List Need) (left : ℕ) (names : Names) → AreNamed needs left names (named needs left names)

-- ---- how many contexts are drawn

-- how many nodes a tree has
abbrev pub nodes_in : Node → ℕ
nodes_in = from_leaves ℕ (λ n counts. 1 + sum counts)

abbrev pub AtMostThreeContextsANode : Type 0
AtMostThreeContextsANode = (flags : Flags) (seat : Seat) (trees : List Node) (left : ℕ) (names : Names) → draws_for (needs_of flags seat trees) left names ≤ 3 * sum (map nodes_in trees)

abbrev pub AtMostThreeContextsANodeOfATree : Type 0
AtMostThreeContextsANodeOfATree = (flags : Flags) (seat : Seat) (tree : Node) (left : ℕ) (names : Names) → draws_for (needs_in flags seat tree) left names ≤ 3 * nodes_in tree

abbrev pub AtMostTwoContextsADeclarator : Type 0
AtMostTwoContextsADeclarator = (in_subclass : Bool) (names : Names) (left : ℕ) → declared_draws names ≤ 2 * length (declared in_subclass names left)
