-- The names that a declaration binds (ECMAScript, 8.2.1 BoundNames), as ids.
use Rattle.std.specs.Prelude.{ℕ, List, [], ◌∷◌, ◌++◌}
use Rattle.ecma_kind.specs.declared.kind.Kind.{Kind}
use Rattle.ecma_kind.specs.declared.kind.Kind.TheVariants as kind
use Rattle.ecma_tree.specs.declared.node.Node.{Node, Node-F, fold-Node}

-- a text and a context
abbrev pub Id : Type 0
Id = List ℕ × ℕ

abbrev pub all_ids : List (List Id) → List Id
all_ids [] = []
all_ids (ids ∷ others) = ids ++ all_ids others

-- of what the parts of a declaration or of a pattern bind
--   let [a, { b: c = d }, ...e] = f;   // binds a, c and e
--   function f() { }   // binds f
unfoldable pub bound_by : Kind → List (List Id) → List Id
bound_by (kind.Ident sym ctxt optional) parts = (sym, ctxt) ∷ []
bound_by kind.List parts = all_ids parts
bound_by kind.BindingIdent (name ∷ parts) = name
bound_by (kind.ArrayPat optional) (elements ∷ parts) = elements
bound_by (kind.ObjectPat optional) (properties ∷ parts) = properties
bound_by kind.RestPat (rest ∷ parts) = rest
bound_by kind.AssignPat (bound ∷ parts) = bound
bound_by kind.AssignPatProp (name ∷ parts) = name
bound_by kind.KeyValuePatProp (key ∷ bound ∷ parts) = bound
bound_by (kind.VarDecl k declare) (declarators ∷ parts) = declarators
bound_by (kind.VarDeclarator definite) (bound ∷ parts) = bound
bound_by (kind.FnDecl declare) (name ∷ parts) = name
bound_by (kind.ClassDecl declare) (name ∷ parts) = name
bound_by (kind.TsEnumDecl declare is_const) (name ∷ parts) = name
bound_by (kind.TsModuleDecl declare global) (name ∷ parts) = name
bound_by kind.FnExpr (name ∷ parts) = name
bound_by kind.ClassExpr (name ∷ parts) = name
bound_by _ parts = []

abbrev pub bound_step : Node-F (List Id) → List Id
bound_step parts = bound_by parts.kind parts.children

abbrev pub bound_names : Node → List Id
bound_names = fold-Node (List Id) bound_step
