-- Trees that stay when they are stripped.
use Rattle.std.specs.Prelude.{Bool, true, ◌&&◌, not, List}
use Rattle.std.specs.List.{list_all}
use Rattle.ecma_kind.specs.declared.kind.Kind.{Kind}
use Rattle.ecma_kind.specs.declared.kind.Kind.TheVariants as kind
use Rattle.ecma_tree.specs.declared.node.Node.{Node, out-Node}
use Rattle.ecma_strip.specs.Staying.{is_this_param}
use Rattle.ecma_tree.specs.Layers.{from_leaves}
use Rattle.ecma_tree.specs.Values.{value_by, values_in}

-- whether a test holds of a node, and of all below it
abbrev pub holds_everywhere : (Node → Bool) → Node → Bool
holds_everywhere test = from_leaves Bool (λ node held. test node && list_all (λ b. b) held)

-- a namespace has a value, and no item of a list is the name `this`
unfoldable pub lasts_by : Kind → List Node → Bool
lasts_by (kind.TsModuleDecl declare global) children = value_by (kind.TsModuleDecl declare global) (values_in true (kind.TsModuleDecl declare global) children)
lasts_by kind.List children = list_all (λ n. not (is_this_param n)) children
lasts_by _ children = true

abbrev pub lasts : Node → Bool
lasts node = lasts_by (out-Node node).kind (out-Node node).children

-- a namespace has a value
unfoldable pub is_full_by : Kind → List Node → Bool
is_full_by (kind.TsModuleDecl declare global) children = value_by (kind.TsModuleDecl declare global) (values_in true (kind.TsModuleDecl declare global) children)
is_full_by _ children = true

abbrev pub is_full : Node → Bool
is_full node = is_full_by (out-Node node).kind (out-Node node).children
