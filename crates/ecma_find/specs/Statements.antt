-- Statements that control leaves only by a jump.
use Rattle.std.specs.Prelude.{ℕ, Bool, true, false, ◌&&◌, List, get_or, map}
use Rattle.std.specs.List.{list_any}
use Rattle.ecma_kind.specs.declared.kind.Kind.{Kind}
use Rattle.ecma_kind.specs.declared.kind.Kind.TheVariants as kind
use Rattle.ecma_tree.specs.declared.node.Node.{Node, Node-F, fold-Node, out-Node}

-- whether control leaves a statement of this kind only by a jump, where it so leaves its children or not
--   { return; f(); }   // so
--   if (a) throw b; else return;   // so
--   if (a) return;   // not so
unfoldable pub terminates_by : Kind → List Bool → Bool
terminates_by kind.BreakStmt children = true
terminates_by kind.ContinueStmt children = true
terminates_by kind.ThrowStmt children = true
terminates_by kind.ReturnStmt children = true
terminates_by kind.BlockStmt children = get_or children 0 false
terminates_by kind.List children = list_any (λ b. b) children
terminates_by kind.IfStmt children = get_or children 1 false && get_or children 2 false
terminates_by _ children = false

abbrev pub terminates_step : Node-F Bool → Bool
terminates_step parts = terminates_by parts.kind parts.children

-- a jump, a block with a statement that is so, or an `if` both of whose branches are
abbrev pub terminates : Node → Bool
terminates = fold-Node Bool terminates_step

-- whether the child at an index is there, and is so
abbrev pub terminates_at : ℕ → Node → Bool
terminates_at i n = get_or (map terminates (out-Node n).children) i false
