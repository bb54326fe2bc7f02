-- `super(..)` that sets a name to `this`.
use Rattle.std.specs.Prelude.{Bool, true, false, List, [], ◌∷◌, if◌then◌else◌}
use Rattle.ecma_kind.specs.declared.ident.Ident.{Ident}
use Rattle.ecma_kind.specs.declared.kind.Kind.{Kind}
use Rattle.ecma_kind.specs.declared.kind.Kind.TheVariants as kind
use Rattle.ecma_kind.specs.declared.operators.AssignOp.TheVariants.{Assign}
use Rattle.ecma_tree.specs.Idents.{ident_node}
use Rattle.ecma_tree.specs.Layers.{from_leaves}
use Rattle.ecma_tree.specs.Nodes.{node_of}
use Rattle.ecma_tree.specs.declared.node.Node.{Node, out-Node}
use Rattle.ecma_utils.specs.Expressions.{assign_of, paren_of}
use Rattle.ecma_function_parts.specs.Written.{this_node}
use Rattle.ecma_function.specs.Calls.{is_super_call}

abbrev pub is_class : Kind → Bool
is_class (kind.Class is_abstract) = true
is_class _ = false

-- both have the place of the call
--   (super(a), t = this)
abbrev pub setting_this : Ident → Node → Node
setting_this t call = paren_of (node_of (out-Node call).span kind.SeqExpr (call ∷ assign_of Assign (ident_node t) this_node ∷ []))

abbrev pub initialised_over : Ident → Bool → Node → Node
initialised_over t is_call n = if is_call then setting_this t n else n

abbrev pub initialising_step : Ident → Node → List Node → Node
initialising_step t n children =
    if is_class (out-Node n).kind then n
    else initialised_over t (is_super_call n) (node_of (out-Node n).span (out-Node n).kind children)

-- each `super(..)` outside classes sets the name
abbrev pub initialised : Ident → Node → Node
initialised t = from_leaves Node (initialising_step t)
