-- What it is to write a piece, and to show the children of a node.
use Rattle.std.specs.Prelude.{◌≡◌, ℕ, ◌<◌, List, ◌++◌, Result, OnOk}
use Rattle.std.specs.Borrow.{Bor, MutBor}
use Rattle.std.specs.Fn.{Shared}
use Rattle.ecma_number.specs.declared.error.NoMemory.{NoMemory}
use Rattle.ecma_tree.specs.declared.node.Node.{Node, size-Node}
use Rattle.ecma_print.specs.declared.out.Out.{Out}
use Rattle.ecma_print.specs.declared.place.Place.{Place}
use Rattle.ecma_print.specs.declared.inside.Inside.{Inside}
use Rattle.ecma_print.specs.Pieces.{Piece}
use Rattle.ecma_print.specs.Layout.{laid}

-- what was written after the old text at this margin is the piece, whatever follows
abbrev pub Puts : Out → Out → List ℕ → Piece → Type 0
Puts old new margin piece = (rest : List ℕ) → new.bytes.items ++ rest ≡ old.bytes.items ++ piece margin rest

-- what a call that shows a node takes, and what it gives
abbrev pub ShowArgs : Type 0
ShowArgs = MutBor Out × (Bor Node × (Place × (Bor (List ℕ) × Unit {0})))

abbrev pub ShowResult : Type 0
ShowResult = Result (Unit {0}) NoMemory × (MutBor Out × Unit {0})

-- what stands inside the node is shown as it is laid out
pub record ShowsChildren {F : Type 0} (calls : Shared F ShowArgs ShowResult) (inside : Inside F) : Type 0 where
  pub callable : (out : MutBor Out) (child : Bor Node) (place : Place) (margin : Bor (List ℕ)) → size-Node child.now < size-Node inside.node.now → calls.pre inside.show.now (out, (child, (place, (margin, tt))))
  pub exact : (old new : MutBor Out) (child : Bor Node) (place : Place) (margin : Bor (List ℕ)) (result : Result (Unit {0}) NoMemory) → size-Node child.now < size-Node inside.node.now
      → calls.post inside.show.now (old, (child, (place, (margin, tt)))) (result, (new, tt)) → OnOk result (Puts old.now new.now margin.now ((laid child.now).at place))
