-- The raw tree of a finished one: in the place of each pattern that is assigned to stands the literal that covers it (ECMAScript, 13.15.5).
use Rattle.std.specs.Prelude.{ℕ, List, [], ◌∷◌, cond}
use Rattle.ecma_kind.specs.declared.operators.AssignOp.TheVariants.{Assign}
use Rattle.ecma_kind.specs.declared.kind.Kind.{Kind}
use Rattle.ecma_kind.specs.declared.kind.Kind.TheVariants as kind
use Rattle.ecma_tree.specs.declared.node.Node.{Node, Node-F, fold-Node, out-Node, roll-Node}
use Rattle.ecma_tree.specs.Nodes.{node_of}
use Rattle.ecma_tree.specs.Sorted.{is_absent}
use Rattle.ecma_rules.specs.declared.target.Target.{Target}
use Rattle.ecma_rules.specs.declared.target.Target.TheVariants as target
use Rattle.ecma_rules.specs.Targets.{at_child, in_literal, in_short_default, in_spread, in_value, target_in}
use Rattle.ecma_rules.specs.Finishing.{each_in, with_kind}

-- a name for what binds it
abbrev pub name_for : Node-F Node → List Node → Node
name_for parts (name ∷ type ∷ []) = name
name_for parts children = roll-Node parts

-- another kind, without the room for a type
abbrev pub untyped : Kind → Node-F Node → List Node → Node
untyped k parts (part ∷ type ∷ []) = node_of parts.span k (part ∷ [])
untyped k parts children = roll-Node parts

-- `name = value`, or a name alone where no value stands
abbrev pub short_for : Node-F Node → List Node → Node
short_for parts (name ∷ value ∷ []) = cond (is_absent (out-Node value).kind) name (node_of parts.span kind.AssignProp (name ∷ value ∷ []))
short_for parts children = roll-Node parts

abbrev pub left_cover : Kind → Node-F Node → Node
left_cover (kind.ArrayPat optional) parts = untyped kind.ArrayLit parts parts.children
left_cover (kind.ObjectPat optional) parts = untyped kind.ObjectLit parts parts.children
left_cover _ parts = roll-Node parts

abbrev pub name_cover : Kind → Node-F Node → Node
name_cover kind.BindingIdent parts = name_for parts parts.children
name_cover _ parts = roll-Node parts

abbrev pub part_cover : Kind → Node-F Node → Node
part_cover kind.BindingIdent parts = name_for parts parts.children
part_cover k parts = left_cover k parts

abbrev pub element_cover : Kind → Node-F Node → Node
element_cover kind.RestPat parts = untyped kind.SpreadElement parts parts.children
element_cover kind.AssignPat parts = with_kind (kind.AssignExpr Assign) parts
element_cover k parts = part_cover k parts

abbrev pub property_cover : Kind → Node-F Node → Node
property_cover kind.KeyValuePatProp parts = with_kind kind.KeyValueProp parts
property_cover kind.AssignPatProp parts = short_for parts parts.children
property_cover kind.RestPat parts = untyped kind.SpreadElement parts parts.children
property_cover _ parts = roll-Node parts

-- a node whose children are covered
abbrev pub cover_by : Target → Node-F Node → Node
cover_by target.Left parts = left_cover parts.kind parts
cover_by target.Head parts = part_cover parts.kind parts
cover_by target.Part parts = part_cover parts.kind parts
cover_by target.Rest parts = name_cover parts.kind parts
cover_by target.Name parts = name_cover parts.kind parts
cover_by target.Element parts = element_cover parts.kind parts
cover_by target.Property parts = property_cover parts.kind parts
cover_by _ parts = roll-Node parts

-- the target of an element with a default
abbrev pub in_default : Target → Target
in_default target.Element = target.Part
in_default _ = target.Free

-- what the child at an index has to be, in a finished node of this kind
unfoldable pub cover_in : Target → Kind → ℕ → Target
cover_in t (kind.ArrayPat optional) i = at_child 0 i (in_literal t target.Elements)
cover_in t (kind.ObjectPat optional) i = at_child 0 i (in_literal t target.Properties)
cover_in t kind.RestPat i = at_child 0 i (in_spread t)
cover_in t kind.AssignPat i = at_child 0 i (in_default t)
cover_in t kind.KeyValuePatProp i = at_child 1 i (in_value t)
cover_in t kind.AssignPatProp i = at_child 0 i (in_short_default t)
cover_in t k i = target_in t k i

abbrev pub cover_step : Node-F (Target → Node) → Target → Node
cover_step parts t = cover_by t (record { span = parts.span; kind = parts.kind; children = each_in (cover_in t parts.kind) parts.children })

abbrev pub cover_at : Node → Target → Node
cover_at = fold-Node (Target → Node) cover_step

-- the raw tree of a finished one
abbrev pub cover : Node → Node
cover tree = cover_at tree target.Free
