-- Trees in which all that is TypeScript is types, but for parameter properties and `export =`, which stay when types go.
use Rattle.std.specs.Prelude.{Bool, true, false, ◌&&◌, ◌||◌, not, List, ◌∷◌}
use Rattle.std.specs.List.{list_any}
use Rattle.ecma_kind.specs.declared.kind.Kind.{Kind}
use Rattle.ecma_kind.specs.declared.kind.Kind.TheVariants as kind
use Rattle.ecma_tree.specs.Sorted.{is_list}
use Rattle.ecma_tree.specs.declared.node.Node.{Node, out-Node}
use Rattle.ecma_tree.specs.Values.{is_value}
use Rattle.ecma_tree.specs.Layers.{from_leaves}
use Rattle.ecma_strip.specs.Staying.{is_declared, is_this, is_this_ident, is_this_param, stays}

-- an enum, a namespace, or `import a =`, which are lowered by other passes
abbrev pub is_lowered : Kind → Bool
is_lowered (kind.TsEnumDecl declare is_const) = true
is_lowered kind.TsEnumMember = true
is_lowered (kind.TsModuleDecl declare global) = true
is_lowered (kind.TsNamespaceDecl declare global) = true
is_lowered (kind.TsImportEqualsDecl is_export is_type_only) = true
is_lowered _ = false

-- a declaration behind `declare` in the head of a loop, which no text has
abbrev pub has_ambient_head : Kind → List Node → Bool
has_ambient_head kind.ForStmt (init ∷ others) = is_declared (out-Node init).kind
has_ambient_head kind.ForInStmt (left ∷ others) = is_declared (out-Node left).kind
has_ambient_head (kind.ForOfStmt is_await) (left ∷ others) = is_declared (out-Node left).kind
has_ambient_head k children = false

abbrev pub lacks_body_by : Kind → Bool → Bool
lacks_body_by kind.FnExpr value = not value
lacks_body_by k value = false

-- a function without a body that is no declaration
abbrev pub lacks_body : Node → Bool
lacks_body n = lacks_body_by (out-Node n).kind (is_value n)

-- one that is not exported as the default: the grammar reads some, and TypeScript refuses them
abbrev pub has_bodiless : Kind → List Node → Bool
has_bodiless kind.ExportDefaultDecl children = false
has_bodiless k children = list_any lacks_body children

-- the name `this`, alone or as a parameter that is there for its type alone
abbrev pub is_receiver : Node → Bool
is_receiver n = is_this_ident (out-Node n).kind || is_this_param n

abbrev pub is_lone_receiver : Node → Bool
is_lone_receiver n = is_this_ident (out-Node n).kind || is_this n

-- one that stands where no parameter of a function does, nor the one that a setter of an object has beside its own
abbrev pub has_stray_receiver : Kind → List Node → Bool
has_stray_receiver kind.List children = list_any is_lone_receiver children
has_stray_receiver kind.Param children = list_any (λ c. is_this_ident (out-Node c).kind) children
has_stray_receiver kind.BindingIdent (name ∷ others) = list_any is_receiver others
has_stray_receiver kind.SetterProp (key ∷ receiver ∷ others) = is_receiver key || list_any is_receiver others
has_stray_receiver k children = list_any is_receiver children

abbrev pub adds_types_by : Kind → List Node → Bool
adds_types_by k children = not (is_lowered k) && (not (has_ambient_head k children) && (not (has_bodiless k children) && not (has_stray_receiver k children)))

-- the children, one after the other: what goes from a list is not asked
abbrev pub staying_hold : Bool → List Node → List Bool → Bool
staying_hold list (node ∷ nodes) (holds ∷ others) = ((list && not (stays node)) || holds) && staying_hold list nodes others
staying_hold list _ _ = true

abbrev pub alone_step : Node → List Bool → Bool
alone_step node children = adds_types_by (out-Node node).kind (out-Node node).children && staying_hold (is_list (out-Node node).kind) (out-Node node).children children

-- a tree of which at most these are left for other passes once its types are gone: each node is asked but what goes from a list, with all that it holds
abbrev pub adds_types_alone : Node → Bool
adds_types_alone = from_leaves Bool alone_step
