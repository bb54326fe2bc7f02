-- Ids, and the ids that a scope declares.
use Rattle.std.specs.Prelude.{ℕ, Bool, true, false, ◌&&◌, not, List, [], ◌∷◌, ◌++◌, filter, Option, Some, None, bytes_eq, nat_eq, cond}
use Rattle.std.specs.List.{list_any}
use Rattle.ecma_kind.specs.declared.kind.Kind.{Kind}
use Rattle.ecma_kind.specs.declared.kind.Kind.TheVariants as kind
use Rattle.ecma_tree.specs.declared.node.Node.{Node, out-Node}
use Rattle.ecma_scope.specs.declared.form.Part.{Part}
use Rattle.ecma_scope.specs.declared.form.Part.TheVariants as part
use Rattle.ecma_scope.specs.declared.form.Sought.{Sought}
use Rattle.ecma_scope.specs.declared.role.Role.{Role}
use Rattle.ecma_scope.specs.declared.role.Role.TheVariants as role
use Rattle.ecma_scope.specs.Scopes.{is_ambient}
use Rattle.ecma_scope.specs.Declarations.{holds_vars, own_part, sought_in}
use Rattle.ecma_hygiene.specs.Walks.{gathered_down}

-- an id: a text and a context
abbrev pub Id : Type 0
Id = List ℕ × ℕ

abbrev pub same_id : Id → Id → Bool
same_id a b = bytes_eq a.0 b.0 && nat_eq a.1 b.1

abbrev pub has_context : ℕ → List ℕ → Bool
has_context ctxt ctxts = list_any (nat_eq ctxt) ctxts

-- ---- where the names of scopes are declared

abbrev pub is_name_part : Part → Bool
is_name_part (part.Name f) = true
is_name_part _ = false

-- whether an identifier is declared here, as a value that stays
abbrev pub declares : Sought → Bool
declares sought = is_name_part sought.part && sought.stays

abbrev pub found : Option Sought → List Sought
found (Some sought) = sought ∷ []
found None = []

-- what is looked for in the child at an index
abbrev pub soughts_in : List Sought → Node → ℕ → List Sought
soughts_in [] node i = []
soughts_in (sought ∷ soughts) node i = found (sought_in sought node i) ++ soughts_in soughts node i

abbrev pub var_sought : Bool → Bool → List Sought
var_sought true stays = record { part = part.Var; stays = stays } ∷ []
var_sought false stays = []

-- what is looked for in a node that opens a scope: the names of the scope, and the `var` names that belong to it
abbrev pub scope_soughts : Role → Kind → List Sought
scope_soughts r k = record { part = own_part r; stays = not (is_ambient r) } ∷ var_sought (holds_vars r k) (not (is_ambient r))

abbrev pub declared_by : Bool → Kind → List Id
declared_by true (kind.Ident sym ctxt optional) = (sym, ctxt) ∷ []
declared_by _ _ = []

abbrev pub declared_here : List Sought → Node → List Id
declared_here soughts node = declared_by (list_any declares soughts) (out-Node node).kind

-- the ids that are declared in a node, in the order of the text
abbrev pub declared_ids : Node → List Sought → List Id
declared_ids = gathered_down (List Sought) Id declared_here soughts_in

-- ---- scopes

-- a scope: the contexts in which it declares a text
abbrev pub Scope : Type 0
Scope = List ℕ → List ℕ

abbrev pub contexts_of : List Id → Scope
contexts_of [] text = []
contexts_of (id ∷ ids) text = cond (bytes_eq id.0 text) (id.1 ∷ []) [] ++ contexts_of ids text

abbrev pub nothing : Scope
nothing text = []

abbrev pub innermost : List Scope → Scope
innermost [] = nothing
innermost (scope ∷ []) = scope
innermost (scope ∷ inner ∷ scopes) = innermost (inner ∷ scopes)

abbrev pub is_function_body : Role → Bool
is_function_body role.Body = true
is_function_body _ = false

abbrev pub is_block : Kind → Bool
is_block kind.BlockStmt = true
is_block _ = false

-- whether a node is the block that is the body of a function; the body of an arrow may be an expression
abbrev pub is_body_block : Role → Kind → Bool
is_body_block r k = is_function_body r && is_block k

-- a name of the body of a function that the parameters declare is a parameter
abbrev pub is_own : Bool → Scope → Id → Bool
is_own body parameters id = not (body && has_context id.1 (parameters id.0))

-- the ids that the scope of a node declares, with this scope directly around it
abbrev pub own_ids : Role → Scope → Node → List Id
own_ids r around node = filter (is_own (is_body_block r (out-Node node).kind) around) (declared_ids node (scope_soughts r (out-Node node).kind))
