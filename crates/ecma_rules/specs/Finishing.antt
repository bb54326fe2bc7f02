-- The finished tree: what is assigned to is a pattern where it was read as a literal. The literals are the cover grammar of assignment patterns (ECMAScript,
-- 13.15.5), and this refines them.
use Rattle.std.specs.Prelude.{ℕ, suc, false, List, [], ◌∷◌, ◌++◌}
use Rattle.ecma_kind.specs.declared.operators.AssignOp.{AssignOp}
use Rattle.ecma_kind.specs.declared.operators.AssignOp.TheVariants.{Assign}
use Rattle.ecma_kind.specs.declared.kind.Kind.{Kind}
use Rattle.ecma_kind.specs.declared.kind.Kind.TheVariants as kind
use Rattle.ecma_tree.specs.declared.node.Node.{Node, Node-F, fold-Node, out-Node, roll-Node}
use Rattle.ecma_tree.specs.Nodes.{absent, node_of}
use Rattle.ecma_rules.specs.declared.target.Target.{Target}
use Rattle.ecma_rules.specs.declared.target.Target.TheVariants as target
use Rattle.ecma_rules.specs.Targets.{target_in}

-- the same node as another kind
abbrev pub with_kind : Kind → Node-F Node → Node
with_kind k parts = node_of parts.span k parts.children

-- and with room for a type after its children
abbrev pub with_type : Kind → Node-F Node → Node
with_type k parts = node_of parts.span k (parts.children ++ absent ∷ [])

-- a name as a pattern
abbrev pub binding : Node → Node
binding name = node_of (out-Node name).span kind.BindingIdent (name ∷ absent ∷ [])

-- a name as a property of a pattern, without a default
abbrev pub shorthand : Node → Node
shorthand name = node_of (out-Node name).span kind.AssignPatProp (binding name ∷ absent ∷ [])

-- the left of an assignment: a name stays
--   [a] = b;   // an ArrayPat
--   a = b;   // an Ident still
abbrev pub left_by : Kind → Node-F Node → Node
left_by kind.ArrayLit parts = with_type (kind.ArrayPat false) parts
left_by kind.ObjectLit parts = with_type (kind.ObjectPat false) parts
left_by _ parts = roll-Node parts

abbrev pub name_by : Kind → Node-F Node → Node
name_by (kind.Ident sym ctxt optional) parts = binding (roll-Node parts)
name_by _ parts = roll-Node parts

-- a target in a pattern, or before `in` or `of`
--   for (a of b); [c] = d;   // a and c are BindingIdents
abbrev pub part_by : Kind → Node-F Node → Node
part_by (kind.Ident sym ctxt optional) parts = binding (roll-Node parts)
part_by k parts = left_by k parts

abbrev pub default_by : AssignOp → Node-F Node → Node
default_by Assign parts = with_kind kind.AssignPat parts
default_by _ parts = roll-Node parts

--   [a = 1, ...b] = c;   // an AssignPat, a RestPat
abbrev pub element_by : Kind → Node-F Node → Node
element_by kind.SpreadElement parts = with_type kind.RestPat parts
element_by (kind.AssignExpr op) parts = default_by op parts
element_by k parts = part_by k parts

--   ({ a, b: c, d = 1, ...e } = f);   // AssignPatProp, KeyValuePatProp, AssignPatProp, RestPat
abbrev pub property_by : Kind → Node-F Node → Node
property_by kind.KeyValueProp parts = with_kind kind.KeyValuePatProp parts
property_by kind.AssignProp parts = with_kind kind.AssignPatProp parts
property_by kind.SpreadElement parts = with_type kind.RestPat parts
property_by (kind.Ident sym ctxt optional) parts = shorthand (roll-Node parts)
property_by _ parts = roll-Node parts

-- a node whose children are finished
abbrev pub finished_by : Target → Node-F Node → Node
finished_by target.Left parts = left_by parts.kind parts
finished_by target.Head parts = part_by parts.kind parts
finished_by target.Part parts = part_by parts.kind parts
finished_by target.Rest parts = name_by parts.kind parts
finished_by target.Name parts = name_by parts.kind parts
finished_by target.Element parts = element_by parts.kind parts
finished_by target.Property parts = property_by parts.kind parts
finished_by _ parts = roll-Node parts

-- children, each as what it has to be, the first as what is asked at 0
abbrev pub each_in : (ℕ → Target) → List (Target → Node) → List Node
each_in target_of [] = []
each_in target_of (child ∷ children) = child (target_of 0) ∷ each_in (λ i. target_of (suc i)) children

abbrev pub finished_step : Node-F (Target → Node) → Target → Node
finished_step parts t = finished_by t (record { span = parts.span; kind = parts.kind; children = each_in (target_in t parts.kind) parts.children })

abbrev pub finished_at : Node → Target → Node
finished_at = fold-Node (Target → Node) finished_step

-- the finished tree of a raw one
abbrev pub finished : Node → Node
finished raw = finished_at raw target.Free
