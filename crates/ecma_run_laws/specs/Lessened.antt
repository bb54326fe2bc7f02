-- Trees without declarations of names that are to go.
use Rattle.std.specs.Prelude.{ℕ, Bool, true, false, not, ◌&&◌, Option, List, [], ◌∷◌, map, filter}
use Rattle.std.specs.List.{list_all}
use Rattle.ecma_kind.specs.declared.kind.Kind.{Kind}
use Rattle.ecma_kind.specs.declared.kind.Kind.TheVariants as kind
use Rattle.ecma_kind.specs.declared.operators.VarDeclKind.TheVariants.{Var, Let}
use Rattle.ecma_kind.specs.declared.span.Span.{Span}
use Rattle.ecma_tree.specs.declared.node.Node.{Node, Node-F, fold-Node, out-Node}
use Rattle.ecma_tree.specs.Nodes.{node_of}
use Rattle.ecma_runs.specs.State.{Id}
use Rattle.ecma_runs.specs.Declarations.{is_absent_of}
use Rattle.ecma_runs.specs.Evaluation.{meaning}

-- what goes

abbrev pub are_gone : (Id → Bool) → List Id → Bool
are_gone gone [] = false
are_gone gone (id ∷ ids) = gone id && list_all gone ids

-- a node that declares names that are to go, and no other
abbrev pub declares_gone : (Id → Bool) → Node → Bool
declares_gone gone n = are_gone gone (meaning n).declared

abbrev pub is_name_by : Kind → List Node → Bool
is_name_by kind.BindingIdent (id ∷ annotation ∷ []) = true
is_name_by k children = false

abbrev pub is_name : Node → Bool
is_name n = is_name_by (out-Node n).kind (out-Node n).children

-- a declarator of one name, without a value
abbrev pub is_idle_declarator_by : Kind → List Node → Bool
is_idle_declarator_by (kind.VarDeclarator definite) (name ∷ init ∷ []) = is_name name && is_absent_of (out-Node init).kind
is_idle_declarator_by k children = false

abbrev pub declarator_goes : (Id → Bool) → Node → Bool
declarator_goes gone n = is_idle_declarator_by (out-Node n).kind (out-Node n).children && declares_gone gone n

-- a specifier of an import
abbrev pub is_specifier_by : Kind → List Node → Bool
is_specifier_by kind.ImportDefaultSpecifier (local ∷ []) = true
is_specifier_by kind.ImportStarAsSpecifier (local ∷ []) = true
is_specifier_by (kind.ImportNamedSpecifier false) (local ∷ name ∷ []) = true
is_specifier_by k children = false

abbrev pub specifier_goes : (Id → Bool) → Node → Bool
specifier_goes gone n = is_specifier_by (out-Node n).kind (out-Node n).children && declares_gone gone n

-- a list with an item, of which all go
abbrev pub all_go_by : (Node → Bool) → Kind → List Node → Bool
all_go_by goes kind.List (item ∷ items) = goes item && list_all goes items
all_go_by goes k children = false

abbrev pub all_go : (Node → Bool) → Node → Bool
all_go goes n = all_go_by goes (out-Node n).kind (out-Node n).children

-- `var` and `let` of which all declarators go, an import of which all specifiers go
abbrev pub is_idle_by : (Id → Bool) → Kind → List Node → Bool
is_idle_by gone (kind.VarDecl Var false) (declarators ∷ []) = all_go (declarator_goes gone) declarators
is_idle_by gone (kind.VarDecl Let false) (declarators ∷ []) = all_go (declarator_goes gone) declarators
is_idle_by gone (kind.ImportDecl false) (specifiers ∷ source ∷ attributes ∷ []) = all_go (specifier_goes gone) specifiers
is_idle_by gone k children = false

abbrev pub statement_goes : (Id → Bool) → Node → Bool
statement_goes gone n = is_idle_by gone (out-Node n).kind (out-Node n).children && declares_gone gone n

-- the tree without it

-- a node, and what is left of it: where it stands as a list of statements, of declarators and of specifiers, and elsewhere
pub record Lessened : Type 0 where
  pub whole : Node
  pub less : Node
  pub statements : Node
  pub declarators : Node
  pub specifiers : Node

-- a list without the items that go
abbrev pub fewer : (Node → Bool) → Span → Kind → List Lessened → List Node → Node
fewer goes span kind.List items children = node_of span kind.List (map (λ item. item.less) (filter (λ item. not (goes item.whole)) items))
fewer goes span k items children = node_of span k children

-- the lists of statements are those of modules and blocks, the bodies of functions among them
abbrev pub left_of : Kind → List Lessened → List Node
left_of (kind.Module shebang) (body ∷ []) = body.statements ∷ []
left_of kind.BlockStmt (statements ∷ []) = statements.statements ∷ []
left_of (kind.VarDecl word false) (declarators ∷ []) = declarators.declarators ∷ []
left_of (kind.ImportDecl false) (specifiers ∷ source ∷ attributes ∷ []) = specifiers.specifiers ∷ source.less ∷ attributes.less ∷ []
left_of k children = map (λ child. child.less) children

abbrev pub lessened_step : (Id → Bool) → Node-F Lessened → Lessened
lessened_step gone parts = record {
  whole = node_of parts.span parts.kind (map (λ child. child.whole) parts.children);
  less = node_of parts.span parts.kind (left_of parts.kind parts.children);
  statements = fewer (statement_goes gone) parts.span parts.kind parts.children (left_of parts.kind parts.children);
  declarators = fewer (declarator_goes gone) parts.span parts.kind parts.children (left_of parts.kind parts.children);
  specifiers = fewer (specifier_goes gone) parts.span parts.kind parts.children (left_of parts.kind parts.children);
}

abbrev pub lessened : (Id → Bool) → Node → Lessened
lessened gone = fold-Node Lessened (lessened_step gone)

-- the tree without the declarations of names that are to go, as far as they do nothing: imports, and `var` and `let` without a value (what other modules do
-- that are imported is no part of a run); in the head of a loop a declaration stays, without them
abbrev pub without : (Id → Bool) → Node → Node
without gone n = (lessened gone n).less

abbrev pub module_of : Span → Option (List ℕ) → Span → List Node → Node
module_of span shebang place items = node_of span (kind.Module shebang) (node_of place kind.List items ∷ [])
