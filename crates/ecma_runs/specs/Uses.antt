-- Trees in which nothing is used that may belong to the host, and no function is called.
use Rattle.std.specs.Prelude.{Bool, true, false, ◌&&◌}
use Rattle.std.specs.List.{list_all}
use Rattle.ecma_kind.specs.declared.kind.Kind.{Kind}
use Rattle.ecma_kind.specs.declared.kind.Kind.TheVariants as kind
use Rattle.ecma_tree.specs.declared.node.Node.{Node, Node-F, fold-Node}

-- neither a member nor a call: no property access, no dotted name, no property of a pattern, no call and no construction, no assignment of a CommonJS module, and no enum
abbrev pub uses_nothing_by : Kind → Bool
uses_nothing_by kind.MemberExpr = false
uses_nothing_by kind.SuperPropExpr = false
uses_nothing_by kind.TsQualifiedName = false
uses_nothing_by kind.KeyValuePatProp = false
uses_nothing_by kind.AssignPatProp = false
uses_nothing_by kind.CallExpr = false
uses_nothing_by kind.OptCall = false
uses_nothing_by kind.NewExpr = false
uses_nothing_by kind.TsExternalModuleRef = false
uses_nothing_by kind.TsExportAssignment = false
uses_nothing_by (kind.TsEnumDecl false is_const) = false
uses_nothing_by kind.TsEnumMember = false
uses_nothing_by k = true

abbrev pub uses_nothing_step : Node-F Bool → Bool
uses_nothing_step parts = uses_nothing_by parts.kind && list_all (λ b. b) parts.children

-- no node of the tree is a member or a call
abbrev pub uses_nothing : Node → Bool
uses_nothing = fold-Node Bool uses_nothing_step
