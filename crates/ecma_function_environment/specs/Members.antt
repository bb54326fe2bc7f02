-- The member of `super` that a node is about.
use Rattle.std.specs.Prelude.{Bool, true, false, List, Option, Some, None, get_or, slice_get, if◌then◌else◌}
use Rattle.std.specs.Option.{option_and_then, option_map}
use Rattle.ecma_kind.specs.Sorts.{is_type_wrapper}
use Rattle.ecma_kind.specs.declared.kind.Kind.{Kind}
use Rattle.ecma_kind.specs.declared.kind.Kind.TheVariants as kind
use Rattle.ecma_kind.specs.declared.operators.AssignOp.TheVariants as assign
use Rattle.ecma_tree.specs.Layers.{from_leaves}
use Rattle.ecma_tree.specs.declared.node.Node.{Node, out-Node}
use Rattle.ecma_function_environment.specs.Needs.{Key}

-- parentheses, or a type round an expression
abbrev pub is_round : Kind → Bool
is_round kind.ParenExpr = true
is_round k = is_type_wrapper k

-- by what its children are
unfoldable pub under_by : Kind → Node → List (Option Node) → Option Node
under_by kind.SuperPropExpr n found = Some n
under_by kind.ParenExpr n found = get_or found 0 None
under_by kind.TsTypeAssertion n found = get_or found 0 None
under_by kind.TsConstAssertion n found = get_or found 0 None
under_by kind.TsNonNullExpr n found = get_or found 0 None
under_by kind.TsAsExpr n found = get_or found 0 None
under_by kind.TsInstantiation n found = get_or found 0 None
under_by kind.TsSatisfiesExpr n found = get_or found 0 None
under_by _ n found = None

-- the member of `super` that a node is, in parentheses too
abbrev pub super_under : Node → Option Node
super_under = from_leaves (Option Node) (λ n found. under_by (out-Node n).kind n found)

abbrev pub first_under : List Node → Option Node
first_under children = option_and_then super_under (slice_get children 0)

abbrev pub called_in : Kind → List Node → Option Node
called_in kind.OptCall children = first_under children
called_in _ children = None

abbrev pub first_called : List Node → Option Node
first_called children = option_and_then (λ n. called_in (out-Node n).kind (out-Node n).children) (slice_get children 0)

abbrev pub about_by : Node → Kind → List Node → Option Node
about_by n kind.SuperPropExpr children = Some n
about_by n kind.CallExpr children = first_under children
about_by n kind.OptCall children = first_under children
about_by n kind.TaggedTpl children = first_under children
about_by n (kind.UpdateExpr op prefix) children = first_under children
about_by n (kind.AssignExpr assign.Assign) children = first_under children
about_by n (kind.OptChainExpr true) children = first_called children
about_by n k children = if is_round k then first_under children else None

-- the member of `super` that a node is, has in parentheses, calls, assigns to by `=` or updates
--   super.f   (super.f)   (super.f)(a)   super.f?.(a)   super.f`a`   super.f = a   super.f++
abbrev pub about : Node → Option Node
about n = about_by n (out-Node n).kind (out-Node n).children

abbrev pub key_by : Kind → Key
key_by (kind.IdentName sym) = Some sym
key_by _ = None

-- its key, none where that stands in brackets
abbrev pub key_of : Node → Key
key_of n = option_and_then (λ key. key_by (out-Node key).kind) (slice_get (out-Node n).children 1)

-- the key of that member, where `super` is looked for
abbrev pub key_at : Bool → Node → Option Key
key_at true n = None
key_at false n = option_map key_of (about n)
