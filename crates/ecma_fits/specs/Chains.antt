-- A link of an optional chain without its own `?.` stands after one that has it (ECMAScript, 13.3.9).
use Rattle.std.specs.Prelude.{Bool, true, false, not, ◌&&◌, ◌||◌}
use Rattle.ecma_kind.specs.declared.kind.Kind.{Kind}
use Rattle.ecma_kind.specs.declared.kind.Kind.TheVariants as kind
use Rattle.ecma_tree.specs.declared.node.Node.{Node, Node-F, fold-Node}
use Rattle.ecma_rules.specs.Children.{kind_of, child_holds}
use Rattle.ecma_rules.specs.Targets.{first_is}

abbrev pub is_link : Kind → Bool
is_link (kind.OptChainExpr optional) = true
is_link _ = false

-- `!` and type arguments after a link do not end its chain
abbrev pub keeps_chain : Kind → Bool
keeps_chain kind.TsNonNullExpr = true
keeps_chain kind.TsInstantiation = true
keeps_chain _ = false

abbrev pub goes_on_step : Node-F Bool → Bool
goes_on_step parts = is_link parts.kind || (keeps_chain parts.kind && first_is parts.children)

-- whether an optional chain goes on after a node
abbrev pub goes_on : Node → Bool
goes_on = fold-Node Bool goes_on_step

-- the object or the callee of a link
abbrev pub is_behind_chain : Node → Bool
is_behind_chain base = child_holds goes_on base 0

abbrev pub is_loose_by : Kind → Node → Bool
is_loose_by (kind.OptChainExpr optional) node = not optional && not (child_holds is_behind_chain node 0)
is_loose_by _ node = false

-- a link that goes on with no chain
abbrev pub is_loose : Node → Bool
is_loose node = is_loose_by (kind_of node) node
