-- Which names a node looks up in the scopes around it.
use Rattle.std.specs.Prelude.{List, [], ◌∷◌, ◌++◌, map, not, false, cond}
use Rattle.std.specs.List.{filter}
use Rattle.ecma_kind.specs.declared.kind.Kind.{Kind}
use Rattle.ecma_kind.specs.declared.kind.Kind.TheVariants as kind
use Rattle.ecma_tree.specs.declared.node.Node.{Node, Node-F, fold-Node}
use Rattle.ecma_tree.specs.Nodes.{node_of}
use Rattle.ecma_runs.specs.State.{Id, default_name}
use Rattle.ecma_runs.specs.Environment.{ids_of, is_among, except}
use Rattle.ecma_runs.specs.Meaning.{Meaning}
use Rattle.ecma_runs.specs.Declarations.{parameter_names_of, has_no_effect}
use Rattle.ecma_runs.specs.Evaluation.{meaning}

-- the ids that a node looks up in the scopes around it; as the code of a function, in the record of the parameters; as a body, in the record of its own
pub record Sought : Type 0 where
  pub sought : List Id
  pub code_sought : List Id
  pub body_sought : List Id

abbrev pub nothing_sought : Sought
nothing_sought = record { sought = []; code_sought = []; body_sought = [] }

-- what a node means, and what it looks up
pub record Seeker : Type 0 where
  pub meaning : Meaning
  pub seeks : Sought

abbrev pub meanings : List Seeker → List Meaning
meanings children = map (λ child. child.meaning) children

-- what is left of these ids in a record that has others
abbrev pub outside_of : List Id → List Id → List Id
outside_of ids sought = filter (λ id. not (is_among id ids)) sought

abbrev pub all_sought : List Seeker → List Id
all_sought [] = []
all_sought (child ∷ children) = child.seeks.sought ++ all_sought children

abbrev pub all_code_sought : List Seeker → List Id
all_code_sought [] = []
all_code_sought (child ∷ children) = child.seeks.code_sought ++ all_code_sought children

-- by the body of a function with parameters of these names, outside of its record
abbrev pub sought_by_body : List Id → Seeker → List Id
sought_by_body names body = outside_of (ids_of (except names body.meaning.locals)) body.seeks.body_sought

-- by the code of a function, in the record of its parameters
abbrev pub code_sought_of : Kind → List Seeker → List Id
code_sought_of (kind.Function false false) (parameters ∷ body ∷ types ∷ return_type ∷ []) = parameters.seeks.sought ++ sought_by_body parameters.meaning.names body
code_sought_of (kind.ArrowExpr false false) (parameters ∷ body ∷ types ∷ return_type ∷ []) = parameters.seeks.sought ++ sought_by_body parameters.meaning.names body
code_sought_of kind.GetterProp (key ∷ type ∷ body ∷ []) = sought_by_body [] body
code_sought_of kind.SetterProp (key ∷ this_parameter ∷ parameter ∷ body ∷ []) = parameter.seeks.sought ++ sought_by_body parameter.meaning.names body
code_sought_of (kind.Constructor accessibility is_optional) (key ∷ parameters ∷ body ∷ []) = parameters.seeks.sought ++ sought_by_body parameters.meaning.names body
code_sought_of (kind.Class is_abstract) (super ∷ body ∷ types ∷ super_types ∷ implements ∷ []) = body.seeks.code_sought
code_sought_of kind.List items = all_code_sought items
code_sought_of _ children = []

-- by a function, outside of the record of its parameters
abbrev pub sought_by_code : Kind → List Seeker → List Id
sought_by_code k children = outside_of (parameter_names_of k (meanings children)) (code_sought_of k children)

-- in any role but as code and as a body
abbrev pub sought_of : Kind → List Seeker → List Id
sought_of (kind.Ident sym ctxt optional) [] = record { sym = sym; ctxt = ctxt } ∷ []
sought_of kind.BindingIdent (id ∷ annotation ∷ []) = id.meaning.names ++ id.seeks.sought
sought_of kind.BlockStmt (statements ∷ []) = outside_of (ids_of statements.meaning.lexicals) statements.seeks.sought
sought_of kind.ForStmt (init ∷ test ∷ update ∷ body ∷ []) = outside_of (ids_of init.meaning.lexicals) (all_sought (init ∷ test ∷ update ∷ body ∷ []))
sought_of kind.SwitchStmt (discriminant ∷ cases ∷ []) = discriminant.seeks.sought ++ outside_of (ids_of cases.meaning.lexicals) cases.seeks.sought
sought_of kind.CatchClause (parameter ∷ body ∷ []) = outside_of parameter.meaning.names (parameter.seeks.sought ++ body.seeks.sought)
sought_of kind.TsModuleBlock (items ∷ []) = outside_of (ids_of (except [] (items.meaning.vars ++ items.meaning.lexicals))) items.seeks.sought
sought_of (kind.FnDecl false) (name ∷ function ∷ []) = name.meaning.names ++ function.seeks.sought
sought_of kind.FnExpr (name ∷ function ∷ []) = outside_of name.meaning.names function.seeks.sought
sought_of (kind.ClassDecl false) (name ∷ class ∷ []) = name.meaning.names ++ outside_of name.meaning.names class.seeks.sought
sought_of kind.ClassExpr (name ∷ class ∷ []) = outside_of name.meaning.names class.seeks.sought
sought_of (kind.Class is_abstract) (super ∷ body ∷ types ∷ super_types ∷ implements ∷ []) =
    super.seeks.sought ++ (body.seeks.sought ++ sought_by_code (kind.Class is_abstract) (super ∷ body ∷ types ∷ super_types ∷ implements ∷ []))
sought_of (kind.Function is_async is_generator) children = sought_by_code (kind.Function is_async is_generator) children
sought_of (kind.ArrowExpr is_async is_generator) children = sought_by_code (kind.ArrowExpr is_async is_generator) children
sought_of kind.GetterProp (key ∷ type ∷ body ∷ []) = key.seeks.sought ++ sought_by_code kind.GetterProp (key ∷ type ∷ body ∷ [])
sought_of kind.SetterProp (key ∷ this_parameter ∷ parameter ∷ body ∷ []) = key.seeks.sought ++ sought_by_code kind.SetterProp (key ∷ this_parameter ∷ parameter ∷ body ∷ [])
sought_of kind.ExportDefaultExpr (e ∷ []) = default_name ∷ e.seeks.sought
sought_of kind.ExportDefaultDecl (declaration ∷ []) = declaration.meaning.default_names ++ declaration.seeks.sought
sought_of (kind.TsImportEqualsDecl is_export false) (name ∷ source ∷ []) = (name.meaning.names ++ name.seeks.sought) ++ source.seeks.sought
-- names that are looked up in no scope: labels, and those of imports
sought_of (kind.Constructor accessibility is_optional) children = []
sought_of kind.BreakStmt children = []
sought_of kind.ContinueStmt children = []
sought_of (kind.ImportDecl type_only) children = []
sought_of (kind.TsTypeAliasDecl declare) children = []
-- what opens a scope of its own and has a clause in no role: no run comes to what it has; and enums, which stand in no tree whose names may meet
sought_of (kind.Script shebang) children = []
sought_of kind.ForInStmt children = []
sought_of (kind.ForOfStmt is_await) children = []
sought_of kind.StaticBlock children = []
sought_of (kind.TsEnumDecl declare is_const) children = []
sought_of (kind.TsModuleDecl declare global) children = []
sought_of (kind.TsNamespaceDecl declare global) children = []
sought_of _ children = all_sought children

-- as a body, in the record of its own
abbrev pub body_sought_of : Kind → List Seeker → List Id
body_sought_of kind.BlockStmt (statements ∷ []) = statements.seeks.sought
body_sought_of k children = sought_of k children

abbrev pub role_sought : Kind → List Seeker → Sought
role_sought k children = record { sought = sought_of k children; code_sought = code_sought_of k children; body_sought = body_sought_of k children }

-- an expression with a type, or in parentheses, looks up what the expression does; types, and what has no effect, look up nothing
abbrev pub sought_by : Kind → List Seeker → Sought
sought_by kind.ParenExpr (e ∷ []) = e.seeks
sought_by kind.TsAsExpr (e ∷ type ∷ []) = e.seeks
sought_by kind.TsTypeAssertion (e ∷ type ∷ []) = e.seeks
sought_by kind.TsConstAssertion (e ∷ []) = e.seeks
sought_by kind.TsNonNullExpr (e ∷ []) = e.seeks
sought_by kind.TsInstantiation (e ∷ types ∷ []) = e.seeks
sought_by kind.TsSatisfiesExpr (e ∷ type ∷ []) = e.seeks
sought_by kind.TsTypeAnn children = nothing_sought
sought_by kind.TsTypeParamDecl children = nothing_sought
sought_by kind.TsTypeParamInstantiation children = nothing_sought
sought_by k children = cond (has_no_effect k (meanings children)) nothing_sought (role_sought k children)

-- a node, and what it looks up
pub record Seeking : Type 0 where
  pub node : Node
  pub seeks : Sought

abbrev pub seeking_step : Node-F Seeking → Seeking
seeking_step parts = record {
  node = node_of parts.span parts.kind (map (λ child. child.node) parts.children);
  seeks = sought_by parts.kind (map (λ child. record { meaning = meaning child.node; seeks = child.seeks }) parts.children);
}

abbrev pub sought_in : Node → Sought
sought_in n = (fold-Node Seeking seeking_step n).seeks

abbrev pub seeker : Node → Seeker
seeker n = record { meaning = meaning n; seeks = sought_in n }
