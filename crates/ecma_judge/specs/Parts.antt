-- What tells nodes apart by their kinds and their children.
use Rattle.std.specs.Prelude.{ℕ, Bool, true, false, ◌&&◌, not, List, [], ◌∷◌, slice_get}
use Rattle.std.specs.Option.{option_map_or}
use Rattle.ecma_kind.specs.declared.kind.Kind.{Kind}
use Rattle.ecma_kind.specs.declared.kind.Kind.TheVariants as kind
use Rattle.ecma_tree.specs.declared.node.Node.{Node, out-Node}
use Rattle.ecma_tree.specs.Sorted.{is_absent}

abbrev pub kind_of : Node → Kind
kind_of n = (out-Node n).kind

abbrev pub children_of : Node → List Node
children_of n = (out-Node n).children

-- whether the child at an index is there and passes a test
abbrev pub passes_at : (Node → Bool) → ℕ → Node → Bool
passes_at test i n = option_map_or test (slice_get (out-Node n).children i) false

abbrev pub has_kind : (Kind → Bool) → Node → Bool
has_kind test n = test (out-Node n).kind

abbrev pub is_there : Node → Bool
is_there n = not (is_absent (out-Node n).kind)

abbrev pub is_text_literal : Kind → Bool
is_text_literal (kind.Str value raw) = true
is_text_literal _ = false

abbrev pub is_number_literal : Kind → Bool
is_number_literal (kind.Number value raw) = true
is_number_literal _ = false

abbrev pub is_array : Kind → Bool
is_array kind.ArrayLit = true
is_array _ = false

abbrev pub is_spread : Kind → Bool
is_spread kind.SpreadElement = true
is_spread _ = false

abbrev pub is_block : Kind → Bool
is_block kind.BlockStmt = true
is_block _ = false

abbrev pub is_declared_name : Kind → Bool
is_declared_name kind.BindingIdent = true
is_declared_name _ = false

abbrev pub is_optional_call : Kind → Bool
is_optional_call kind.OptCall = true
is_optional_call _ = false

abbrev is_empty : List Node → Bool
is_empty [] = true
is_empty (n ∷ ns) = false

abbrev pub has_no_items : Node → Bool
has_no_items list = is_empty (out-Node list).children

--   { }
abbrev pub is_empty_block : Node → Bool
is_empty_block n = is_block (out-Node n).kind && passes_at has_no_items 0 n
