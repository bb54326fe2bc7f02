-- The name that an expression is.
use Rattle.std.specs.Prelude.{ℕ, List, Option, Some, None, get_or, map}
use Rattle.ecma_kind.specs.declared.kind.Kind.{Kind}
use Rattle.ecma_kind.specs.declared.kind.Kind.TheVariants as kind
use Rattle.ecma_tree.specs.Layers.{from_leaves}
use Rattle.ecma_tree.specs.declared.node.Node.{Node, out-Node}

-- a text and a context
abbrev pub Name : Type 0
Name = List ℕ × ℕ

unfoldable pub name_by : Kind → List (Option Name) → Option Name
name_by (kind.Ident sym ctxt optional) kids = Some (sym, ctxt)
name_by kind.TsTypeAssertion kids = get_or kids 0 None
name_by kind.TsConstAssertion kids = get_or kids 0 None
name_by kind.TsNonNullExpr kids = get_or kids 0 None
name_by kind.TsAsExpr kids = get_or kids 0 None
name_by kind.TsInstantiation kids = get_or kids 0 None
name_by kind.TsSatisfiesExpr kids = get_or kids 0 None
name_by _ kids = None

-- also with types round it, and not in parentheses
--   E   E!
unfoldable pub name_under : Node → Option Name
name_under = from_leaves (Option Name) (λ n kids. name_by (out-Node n).kind kids)

-- of the child at an index
abbrev pub name_at : Node → ℕ → Option Name
name_at n i = get_or (map name_under (out-Node n).children) i None
