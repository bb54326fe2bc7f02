-- Where the records of the evaluator are the scopes of which texts are read.
use Rattle.std.specs.Prelude.{◌≡◌, ◌⊎◌, Bool, true, false, not, ◌&&◌, List, [], ◌∷◌, ◌++◌, map, cond}
use Rattle.std.specs.List.{All}
use Rattle.ecma_kind.specs.Sorts.{belongs}
use Rattle.ecma_kind.specs.declared.kind.Kind.{Kind}
use Rattle.ecma_kind.specs.declared.kind.Kind.TheVariants as kind
use Rattle.ecma_kind.specs.declared.shapes.Sort.TheVariants as sort
use Rattle.ecma_tree.specs.declared.node.Node.{Node, out-Node}
use Rattle.ecma_tree.specs.Sorted.{is_list}
use Rattle.ecma_scope.specs.declared.role.Role.{Role}
use Rattle.ecma_scope.specs.declared.role.Role.TheVariants as role
use Rattle.ecma_scope.specs.Declarations.{is_body}
use Rattle.ecma_scope.specs.Scopes.{is_default, is_root, opens}
use Rattle.ecma_hygiene.specs.Ids.{Scope, has_context, innermost, is_block, is_body_block, is_function_body, is_own}
use Rattle.ecma_hygiene.specs.Sights.{own_scope}
use Rattle.ecma_runs.specs.State.{Id, default_name}
use Rattle.ecma_runs.specs.Enums.{lacks_enums}
use Rattle.ecma_runs.specs.Environment.{except, ids_of, is_among}
use Rattle.ecma_runs.specs.Meaning.{Meaning}
use Rattle.ecma_runs.specs.Evaluation.{meaning}
use Rattle.ecma_runs.specs.Sought.{sought_in}
use Rattle.ecma_hygiene_meeting.specs.Places.{Place, places}

-- ---- the names of records

-- the names of the record that the evaluator makes for the scope of a node
abbrev pub record_names : Role → Kind → List Meaning → List Id
record_names r (kind.Function is_generator is_async) (parameters ∷ body ∷ types ∷ return_type ∷ []) = parameters.names
record_names r (kind.ArrowExpr is_async is_generator) (parameters ∷ body ∷ types ∷ return_type ∷ []) = parameters.names
record_names r (kind.Constructor accessibility is_optional) (key ∷ parameters ∷ body ∷ []) = parameters.names
record_names r kind.SetterProp (key ∷ this_parameter ∷ parameter ∷ body ∷ []) = parameter.names
record_names r kind.BlockStmt (statements ∷ []) = cond (is_body r) (ids_of (statements.vars ++ statements.lexicals)) (ids_of statements.lexicals)
record_names r kind.ForStmt (init ∷ test ∷ update ∷ body ∷ []) = ids_of init.lexicals
record_names r kind.SwitchStmt (discriminant ∷ cases ∷ []) = ids_of cases.lexicals
record_names r kind.CatchClause (parameter ∷ body ∷ []) = parameter.names
record_names r kind.TsModuleBlock (items ∷ []) = ids_of (except [] (items.vars ++ items.lexicals))
record_names r kind.FnExpr (name ∷ function ∷ []) = name.names
record_names r kind.ClassExpr (name ∷ class ∷ []) = cond (is_default r) [] name.names
record_names r k children = []

-- whether it makes one: that of a module is another matter, and no run comes to what stands in the others
abbrev pub has_record : Role → Kind → Bool
has_record r (kind.Module shebang) = not (is_root r)
has_record r (kind.Script shebang) = false
has_record r kind.ForInStmt = false
has_record r (kind.ForOfStmt is_await) = false
has_record r (kind.TsEnumDecl declare is_const) = false
has_record r (kind.TsNamespaceDecl declare global) = false
has_record r _ = true

-- a scope declares an id
abbrev pub declares_id : Scope → Id → Bool
declares_id scope id = has_context id.ctxt (scope id.sym)

-- the scope that a node opens declares the names of its record; a name of a body that the parameters have is a parameter
abbrev pub IsRecord : Place → Type 0
IsRecord place =
    has_record place.around.role (out-Node place.node).kind ≡ true → opens place.around.role place.node ≡ true → (id : Id) → declares_id (own_scope place.around.role place.around.scopes place.node) id
    ≡ is_among id (record_names place.around.role (out-Node place.node).kind (map meaning (out-Node place.node).children))
    && is_own (is_body_block place.around.role (out-Node place.node).kind) (innermost place.around.scopes) (id.sym, id.ctxt)

-- ---- functions and classes

-- the body of a function is a block, or an expression
abbrev pub IsBody : Kind → List Node → Node → Type 0
IsBody kind.BlockStmt (statements ∷ []) node = Unit {0}
IsBody k children node = (is_block k ≡ false) × ((meaning node).locals ≡ []) × ((sought_in node).body_sought ≡ (sought_in node).sought)

-- getters and setters have their parts
abbrev pub has_parts : Kind → List Node → Bool
has_parts kind.GetterProp (key ∷ type ∷ body ∷ []) = true
has_parts kind.GetterProp children = false
has_parts kind.SetterProp (key ∷ this_parameter ∷ parameter ∷ body ∷ []) = true
has_parts kind.SetterProp children = false
has_parts k children = true

abbrev pub is_constructor : Kind → Bool
is_constructor (kind.Constructor accessibility is_optional) = true
is_constructor _ = false

-- a member with which nothing is constructed
abbrev pub IsNoCode : Node → Type 0
IsNoCode member = ((meaning member).parameter_names ≡ []) × ((sought_in member).code_sought ≡ [])

abbrev pub AreNoCode : List Node → Type 0
AreNoCode [] = Unit {0}
AreNoCode (member ∷ members) = IsNoCode member × AreNoCode members

-- of members, one is a constructor with a body, or none is
abbrev pub OneConstructor : List Node → Type 0
OneConstructor [] = Unit {0}
OneConstructor (member ∷ members) = (IsNoCode member × OneConstructor members) ⊎ ((is_constructor (out-Node member).kind ≡ true) × AreNoCode members)

abbrev pub HasMembers : Kind → List Node → Type 0
HasMembers (kind.Class is_abstract) (super ∷ body ∷ types ∷ super_types ∷ implements ∷ []) = (is_list (out-Node body).kind ≡ true) × OneConstructor (out-Node body).children
HasMembers k children = Unit {0}

pub record IsFormed (place : Place) : Type 0 where
  pub parts : has_parts (out-Node place.node).kind (out-Node place.node).children ≡ true
  pub body : is_function_body place.around.role ≡ true → IsBody (out-Node place.node).kind (out-Node place.node).children place.node
  pub members : HasMembers (out-Node place.node).kind (out-Node place.node).children
  pub default : is_default place.around.role ≡ true → belongs sort.DefaultDecl (out-Node place.node).kind ≡ true

-- a module without enums in which each scope for which the evaluator makes a record is that record; its own scope has at least its variables, but for that of a default export without a name,
-- and at most what it declares (what stands where declarators do and is none has names that are declared nowhere)
pub record RecordsAreScopes (tree : Node) : Type 0 where
  pub whole : belongs sort.Module (out-Node tree).kind ≡ true
  pub locals : (id : Id) → is_among id (ids_of (meaning tree).locals) ≡ true → (id ≡ default_name) ⊎ (declares_id (own_scope role.Root [] tree) id ≡ true)
  pub declared : (id : Id) → declares_id (own_scope role.Root [] tree) id ≡ true → is_among id (meaning tree).declared ≡ true
  pub formed : All IsFormed (places tree)
  pub records : All IsRecord (places tree)
  pub no_enums : lacks_enums tree ≡ true
