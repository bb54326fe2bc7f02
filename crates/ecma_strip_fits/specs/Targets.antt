-- Trees in which no name is bound with a type round it.
use Rattle.std.specs.Prelude.{Bool}
use Rattle.ecma_tree.specs.declared.node.Node.{Node}
use Rattle.ecma_fits.specs.declared.unfit.Where.{Where}
use Rattle.ecma_fits.specs.Fitting.{NoneFails}
use Rattle.ecma_bind.specs.Binding.{is_typed_name}

-- a name with a type round it where names are bound
abbrev pub is_typed_target : Where → Node → Bool
is_typed_target w node = is_typed_name w.role node

abbrev pub HasPlainTargets : Node → Type 0
HasPlainTargets tree = NoneFails is_typed_target tree
