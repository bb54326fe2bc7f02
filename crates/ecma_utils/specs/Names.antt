-- Spreads of `arguments`.
use Rattle.std.specs.Prelude.{Bool, false, List, bytes_eq, codes}
use Rattle.std.specs.Option.{option_map_or}
use Rattle.ecma_kind.specs.declared.kind.Kind.{Kind}
use Rattle.ecma_kind.specs.declared.kind.Kind.TheVariants as kind
use Rattle.ecma_tree.specs.declared.node.Node.{Node, out-Node}
use Rattle.ecma_utils.specs.Directives.{first_of}

abbrev pub is_arguments_kind : Kind → Bool
is_arguments_kind (kind.Ident sym ctxt optional) = bytes_eq sym (codes "arguments")
is_arguments_kind _ = false

abbrev pub is_arguments : Node → Bool
is_arguments node = is_arguments_kind (out-Node node).kind

abbrev pub rest_arguments_by : Kind → List Node → Bool
rest_arguments_by kind.SpreadElement children = option_map_or is_arguments (first_of children) false
rest_arguments_by _ children = false

--   ...arguments
abbrev pub is_rest_arguments : Node → Bool
is_rest_arguments argument = rest_arguments_by (out-Node argument).kind (out-Node argument).children
