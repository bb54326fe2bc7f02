-- The text that a node is as the key of a member.
use Rattle.std.specs.Prelude.{ℕ, Bool, ◌&&◌, ◌==◌, List, [], Option, Some, None, get_or, length, map, slice_get, if◌then◌else◌}
use Rattle.std.specs.Option.{option_and_then, option_map_or}
use Rattle.ecma_kind.specs.declared.kind.Kind.{Kind}
use Rattle.ecma_kind.specs.declared.kind.Kind.TheVariants as kind
use Rattle.ecma_tree.specs.Layers.{from_leaves}
use Rattle.ecma_tree.specs.declared.node.Node.{Node, out-Node}

-- the items of the list that is the child at an index
abbrev pub items_at : Node → ℕ → List Node
items_at n i = option_map_or (λ list. (out-Node list).children) (slice_get (out-Node n).children i) []

-- ---- templates

-- a template has no expressions, so one part alone
abbrev pub is_plain : ℕ → ℕ → Bool
is_plain expressions parts = expressions == 0 && parts == 1

abbrev pub cooked_text : Kind → Option (List ℕ)
cooked_text (kind.TplElement raw cooked tail) = cooked
cooked_text _ = None

abbrev pub part_text : Node → Option (List ℕ)
part_text part = cooked_text (out-Node part).kind

-- the text of a template without expressions
abbrev pub plain_text : List Node → List Node → Option (List ℕ)
plain_text expressions parts = if is_plain (length expressions) (length parts) then option_and_then part_text (slice_get parts 0) else None

-- ---- by kinds

unfoldable pub key_by : Kind → Node → List (Option (List ℕ)) → Option (List ℕ)
key_by (kind.IdentName sym) n kids = Some sym
key_by kind.ComputedPropName n kids = get_or kids 0 None
key_by (kind.Str value raw) n kids = Some value
key_by kind.Tpl n kids = plain_text (items_at n 0) (items_at n 1)
key_by kind.TsTypeAssertion n kids = get_or kids 0 None
key_by kind.TsConstAssertion n kids = get_or kids 0 None
key_by kind.TsNonNullExpr n kids = get_or kids 0 None
key_by kind.TsAsExpr n kids = get_or kids 0 None
key_by kind.TsInstantiation n kids = get_or kids 0 None
key_by kind.TsSatisfiesExpr n kids = get_or kids 0 None
key_by _ n kids = None

-- a name behind a point, or a text in brackets, also with types round it
--   E.A   E["A"]   E[`A`]
unfoldable pub key_under : Node → Option (List ℕ)
key_under = from_leaves (Option (List ℕ)) (λ n kids. key_by (out-Node n).kind n kids)

-- of the child at an index
abbrev pub key_at : Node → ℕ → Option (List ℕ)
key_at n i = get_or (map key_under (out-Node n).children) i None
