-- What of a tree stays when its types go, and may not: no plain module has it.
use Rattle.std.specs.Prelude.{Bool, true, false, ◌&&◌, ◌||◌, not, List}
use Rattle.ecma_kind.specs.declared.kind.Kind.{Kind}
use Rattle.ecma_kind.specs.declared.kind.Kind.TheVariants as kind
use Rattle.ecma_tree.specs.Layers.{from_leaves}
use Rattle.ecma_tree.specs.Sorted.{is_list}
use Rattle.ecma_tree.specs.declared.node.Node.{Node, out-Node}
use Rattle.ecma_rules.specs.Children.{kind_of}
use Rattle.ecma_forms.specs.Forms.{is_odd_by}
use Rattle.ecma_sources.specs.TypesAlone.{is_lowered, staying_hold}

-- enums, namespaces, `import a =` and parameter properties, which other passes lower; `export a from "m"`; and `export =` where it does not stay
--   class A { constructor(b: T) { } }   // none
--   class A { constructor(private b) { } }   // one
abbrev pub is_left_over : Bool → Kind → Bool
is_left_over assignments kind.TsExportAssignment = not assignments
is_left_over assignments kind.TsModuleBlock = true
is_left_over assignments kind.TsQualifiedName = true
is_left_over assignments (kind.TsParamProp accessibility is_override readonly) = true
is_left_over assignments kind.ExportDefaultSpecifier = true
is_left_over assignments k = is_lowered k

-- nor a function without a body that could be no declaration
abbrev pub may_be_left : Bool → Node → Bool
may_be_left assignments node = not (is_left_over assignments (kind_of node)) && not (is_odd_by (kind_of node) node)

abbrev pub leaves_step : Bool → Node → List Bool → Bool
leaves_step assignments node children = may_be_left assignments node && staying_hold (is_list (kind_of node)) (out-Node node).children children

-- each node is asked but what goes from a list, with all that it holds
abbrev pub leaves_plain_forms : Bool → Node → Bool
leaves_plain_forms assignments = from_leaves Bool (leaves_step assignments)
