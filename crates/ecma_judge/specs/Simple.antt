-- Expressions that are simple: names, `this` and literals, and what is written of such.
use Rattle.std.specs.Prelude.{Bool, true, false, ◌&&◌, ◌||◌, List, get_or, map}
use Rattle.ecma_kind.specs.Sorts.{is_lit}
use Rattle.ecma_kind.specs.declared.kind.Kind.{Kind}
use Rattle.ecma_kind.specs.declared.kind.Kind.TheVariants as kind
use Rattle.ecma_kind.specs.declared.operators.UnaryOp.{UnaryOp}
use Rattle.ecma_kind.specs.declared.operators.UnaryOp.TheVariants.{Bang, Void}
use Rattle.ecma_tree.specs.Layers.{from_leaves}
use Rattle.ecma_tree.specs.declared.node.Node.{Node, out-Node}
use Rattle.ecma_judge.specs.Parts.{has_kind, passes_at}

-- `void` and `!`
abbrev pub keeps_simple : UnaryOp → Bool
keeps_simple Void = true
keeps_simple Bang = true
keeps_simple _ = false

abbrev pub is_name_key : Kind → Bool
is_name_key (kind.IdentName sym) = true
is_name_key (kind.PrivateName name) = true
is_name_key _ = false

-- a member whose object is simple, and its key too where that is in brackets
--   this.a
--   this[a]
abbrev pub is_simple_member_by : Node → List Bool → Bool
is_simple_member_by n kids = get_or kids 0 false && (passes_at (has_kind is_name_key) 1 n || get_or kids 1 false)

unfoldable pub is_simple_by : Bool → Kind → Node → List Bool → Bool
is_simple_by getters (kind.Ident sym ctxt optional) n kids = true
is_simple_by getters kind.ThisExpr n kids = true
is_simple_by getters (kind.UnaryExpr op) n kids = keeps_simple op && get_or kids 0 false
is_simple_by getters kind.MemberExpr n kids = getters && is_simple_member_by n kids
is_simple_by getters kind.ComputedPropName n kids = get_or kids 0 false
is_simple_by getters k n kids = is_lit k

abbrev pub is_simple_here : Bool → Node → List Bool → Bool
is_simple_here getters n kids = is_simple_by getters (out-Node n).kind n kids

-- a name, `this`, a literal, `void` and `!` of such, and where getters are taken for pure a member of such; a key in brackets is as what stands in it
unfoldable pub is_simple : Bool → Node → Bool
is_simple getters = from_leaves Bool (is_simple_here getters)

abbrev pub is_simple_member : Bool → Node → Bool
is_simple_member getters n = is_simple_member_by n (map (is_simple getters) (out-Node n).children)
