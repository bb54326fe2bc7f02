-- Trees from which only types go: what goes does nothing.
use Rattle.std.specs.Prelude.{Bool, true, false, ◌&&◌, ◌||◌, not, cond, List, [], ◌∷◌, map}
use Rattle.std.specs.List.{list_all}
use Rattle.ecma_kind.specs.declared.kind.Kind.{Kind}
use Rattle.ecma_kind.specs.declared.kind.Kind.TheVariants as kind
use Rattle.ecma_tree.specs.declared.node.Node.{Node, Node-F, fold-Node, out-Node}
use Rattle.ecma_tree.specs.Nodes.{node_of}
use Rattle.ecma_tree.specs.Sorted.{is_list}
use Rattle.ecma_strip.specs.Staying.{item_stays, stays}
use Rattle.ecma_strip.specs.Stripping.{stripped}
use Rattle.ecma_runs.specs.declared.script.Script.{Script}
use Rattle.ecma_runs.specs.Declarations.{has_no_effect}
use Rattle.ecma_runs.specs.Evaluation.{meaning}

-- a node that has no effect, wherever it stands
abbrev pub does_nothing : Node → Bool
does_nothing n = has_no_effect (out-Node n).kind (map meaning (out-Node n).children)

-- a node, and whether only types go from it
pub record Seen : Type 0 where
  pub node : Node
  pub fine : Bool

-- an item of a list: what goes does nothing
abbrev pub fine_item : Seen → Bool
fine_item item = cond (stays item.node) item.fine (does_nothing item.node)

-- the body of a statement: it stays, or does nothing
abbrev pub fine_body : Seen → Bool
fine_body body = body.fine && (item_stays (stripped body.node) || does_nothing (stripped body.node))

-- a list of statements
abbrev pub fine_list : Seen → Bool
fine_list list = list.fine && is_list (out-Node list.node).kind

abbrev pub all_fine : List Seen → Bool
all_fine children = list_all (λ child. child.fine) children

-- a node whose children are told: what is a type, or has one, is not looked into; what types alone stand in is no list of statements, no body and no
-- member of a class that stays
unfoldable pub fine_by : Kind → List Seen → Bool
fine_by kind.List items = list_all fine_item items
fine_by kind.TsTypeAnn children = true
fine_by kind.TsTypeParamDecl children = true
fine_by kind.TsTypeParamInstantiation children = true
fine_by (kind.TsInterfaceDecl declare) children = true
fine_by (kind.TsTypeAliasDecl declare) children = true
fine_by kind.TsType children = false
fine_by kind.TsAsExpr (e ∷ type ∷ []) = e.fine
fine_by kind.TsAsExpr children = false
fine_by kind.TsTypeAssertion (e ∷ type ∷ []) = e.fine
fine_by kind.TsTypeAssertion children = false
fine_by kind.TsInstantiation (e ∷ types ∷ []) = e.fine
fine_by kind.TsInstantiation children = false
fine_by kind.TsSatisfiesExpr (e ∷ type ∷ []) = e.fine
fine_by kind.TsSatisfiesExpr children = false
fine_by kind.TsConstAssertion (e ∷ []) = e.fine
fine_by kind.TsConstAssertion children = false
fine_by kind.TsNonNullExpr (e ∷ []) = e.fine
fine_by kind.TsNonNullExpr children = false
fine_by (kind.Module shebang) (body ∷ []) = fine_list body
fine_by (kind.Module shebang) children = false
fine_by (kind.Script shebang) (body ∷ []) = fine_list body
fine_by (kind.Script shebang) children = false
fine_by kind.BlockStmt (statements ∷ []) = fine_list statements
fine_by kind.BlockStmt children = false
fine_by kind.TsModuleBlock (items ∷ []) = fine_list items
fine_by kind.TsModuleBlock children = false
fine_by kind.SwitchCase (test ∷ statements ∷ []) = test.fine && fine_list statements
fine_by kind.SwitchCase children = false
fine_by kind.IfStmt (test ∷ yes' ∷ no' ∷ []) = test.fine && (fine_body yes' && fine_body no')
fine_by kind.IfStmt children = false
fine_by kind.LabeledStmt (label ∷ body ∷ []) = label.fine && fine_body body
fine_by kind.LabeledStmt children = false
fine_by kind.WhileStmt (test ∷ body ∷ []) = test.fine && fine_body body
fine_by kind.WhileStmt children = false
fine_by kind.DoWhileStmt (test ∷ body ∷ []) = test.fine && fine_body body
fine_by kind.DoWhileStmt children = false
fine_by kind.ForStmt (init ∷ test ∷ update ∷ body ∷ []) = init.fine && (test.fine && (update.fine && fine_body body))
fine_by kind.ForStmt children = false
fine_by kind.ForInStmt (left ∷ right ∷ body ∷ []) = left.fine && (right.fine && fine_body body)
fine_by kind.ForInStmt children = false
fine_by (kind.ForOfStmt is_await) (left ∷ right ∷ body ∷ []) = left.fine && (right.fine && fine_body body)
fine_by (kind.ForOfStmt is_await) children = false
fine_by kind.SetterProp (key ∷ this_parameter ∷ parameter ∷ body ∷ []) = key.fine && (parameter.fine && body.fine)
fine_by kind.SetterProp children = false
fine_by (kind.ClassProp modifiers readonly declare definite) children = not declare && (not modifiers.is_abstract && all_fine children)
fine_by (kind.PrivateProp modifiers readonly declare definite) children = not declare && (not modifiers.is_abstract && all_fine children)
fine_by (kind.ClassMethod sort modifiers) children = not modifiers.is_abstract && all_fine children
fine_by (kind.PrivateMethod sort modifiers) children = not modifiers.is_abstract && all_fine children
fine_by k children = all_fine children

abbrev pub seen_step : Node-F Seen → Seen
seen_step parts = record { node = node_of parts.span parts.kind (map (λ child. child.node) parts.children); fine = fine_by parts.kind parts.children }

-- what goes from a tree, where its types go, does nothing
abbrev pub only_types_go : Node → Bool
only_types_go n = (fold-Node Seen seen_step n).fine
