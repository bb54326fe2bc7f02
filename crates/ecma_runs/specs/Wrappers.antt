-- Trees without the types that wrap expressions, and without parentheses that end no optional chain.
use Rattle.std.specs.Prelude.{Bool, true, false, List, [], ◌∷◌, if◌then◌else◌}
use Rattle.ecma_kind.specs.declared.kind.Kind.{Kind}
use Rattle.ecma_kind.specs.declared.kind.Kind.TheVariants as kind
use Rattle.ecma_tree.specs.declared.node.Node.{Node, Node-F, fold-Node, roll-Node}
use Rattle.ecma_tree.specs.Rewritten.{rewritten}

-- the expression stands in the place of one with a type
abbrev pub unwrapped_by : Kind → List Node → Node-F Node → Node
unwrapped_by kind.TsAsExpr (e ∷ type ∷ []) parts = e
unwrapped_by kind.TsTypeAssertion (e ∷ type ∷ []) parts = e
unwrapped_by kind.TsConstAssertion (e ∷ []) parts = e
unwrapped_by kind.TsNonNullExpr (e ∷ []) parts = e
unwrapped_by kind.TsInstantiation (e ∷ types ∷ []) parts = e
unwrapped_by kind.TsSatisfiesExpr (e ∷ type ∷ []) parts = e
unwrapped_by k children parts = roll-Node parts

abbrev pub unwrapped : Node-F Node → Node
unwrapped parts = unwrapped_by parts.kind parts.children parts

-- the tree without type wrappers
abbrev pub without_wrappers : Node → Node
without_wrappers = rewritten unwrapped

abbrev pub is_chain_by : Kind → List Bool → Bool
is_chain_by (kind.OptChainExpr optional) children = true
is_chain_by kind.TsAsExpr (e ∷ type ∷ []) = e
is_chain_by kind.TsTypeAssertion (e ∷ type ∷ []) = e
is_chain_by kind.TsConstAssertion (e ∷ []) = e
is_chain_by kind.TsNonNullExpr (e ∷ []) = e
is_chain_by kind.TsInstantiation (e ∷ types ∷ []) = e
is_chain_by kind.TsSatisfiesExpr (e ∷ type ∷ []) = e
is_chain_by k children = false

abbrev pub is_chain_step : Node-F Bool → Bool
is_chain_step parts = is_chain_by parts.kind parts.children

-- an optional chain, type wrappers aside
abbrev pub is_chain : Node → Bool
is_chain = fold-Node Bool is_chain_step

-- what stands in parentheses stands in their place, unless it is a chain that they end
abbrev pub opened_by : Kind → List Node → Node-F Node → Node
opened_by kind.ParenExpr (e ∷ []) parts = (if is_chain e then roll-Node parts else e)
opened_by k children parts = roll-Node parts

abbrev pub opened : Node-F Node → Node
opened parts = opened_by parts.kind parts.children parts

-- the tree without parentheses that end no optional chain
abbrev pub without_parentheses : Node → Node
without_parentheses = rewritten opened
