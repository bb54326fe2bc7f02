-- Maps of names under which names may become one, where no identifier is caught by it.
use Rattle.std.specs.Prelude.{◌≡◌, List, [], ◌∷◌, ◌++◌, map, Bool, true, false, not, ◌&&◌, ◌||◌, bytes_eq, codes}
use Rattle.std.specs.List.{list_all}
use Rattle.ecma_kind.specs.declared.kind.Kind.{Kind}
use Rattle.ecma_kind.specs.declared.kind.Kind.TheVariants as kind
use Rattle.ecma_tree.specs.declared.node.Node.{Node, Node-F, fold-Node}
use Rattle.ecma_tree.specs.Nodes.{node_of}
use Rattle.ecma_runs.specs.State.{Id, same_id, default_name}
use Rattle.ecma_runs.specs.Exports.{Exported, Local, Indirect, Star, local_ids, export_names}
use Rattle.ecma_runs.specs.Environment.{ids_of, is_among, except}
use Rattle.ecma_runs.specs.Declarations.{parameter_names_of}
use Rattle.ecma_runs.specs.Sought.{Seeker, meanings, outside_of, all_sought, code_sought_of, seeker}
use Rattle.ecma_runs.specs.Enums.{lacks_enums}
use Rattle.ecma_runs.specs.Evaluation.{meaning}
use Rattle.ecma_runs.specs.Observation.{exports_in}
use Rattle.ecma_runs.specs.Names.{ids_pass, keys_in, TextsStay}

-- no other of these names becomes what this one does
abbrev pub is_told : (Id → Id) → List Id → Id → Bool
is_told to ids id = list_all (λ other. same_id other id || not (same_id (to other) (to id))) ids

-- in a record with these names, none that is looked up there is caught
abbrev pub catches_none : (Id → Id) → List Id → List Id → Bool
catches_none to ids inner = list_all (is_told to ids) inner

-- the body of a function with parameters of these names: nor do its own names become theirs
abbrev pub body_meets : (Id → Id) → List Id → Seeker → Bool
body_meets to names body = catches_none to (ids_of (except names body.meaning.locals)) body.seeks.body_sought && catches_none to names (ids_of body.meaning.locals)

abbrev pub function_meets : (Id → Id) → List Seeker → Bool
function_meets to (parameters ∷ body ∷ types ∷ return_type ∷ []) = body_meets to parameters.meaning.names body
function_meets to children = true

abbrev pub code_meets : (Id → Id) → Kind → List Seeker → Bool
code_meets to k children = catches_none to (parameter_names_of k (meanings children)) (code_sought_of k children)

-- in each record that a node makes
abbrev pub meets_by : (Id → Id) → Kind → List Seeker → Bool
meets_by to (kind.Function false false) children = code_meets to (kind.Function false false) children && function_meets to children
meets_by to (kind.ArrowExpr false false) children = code_meets to (kind.ArrowExpr false false) children && function_meets to children
meets_by to kind.GetterProp (key ∷ type ∷ body ∷ []) = code_meets to kind.GetterProp (key ∷ type ∷ body ∷ []) && body_meets to [] body
meets_by to kind.SetterProp (key ∷ this_parameter ∷ parameter ∷ body ∷ []) =
    code_meets to kind.SetterProp (key ∷ this_parameter ∷ parameter ∷ body ∷ []) && body_meets to parameter.meaning.names body
meets_by to (kind.Constructor accessibility is_optional) (key ∷ parameters ∷ body ∷ []) = body_meets to parameters.meaning.names body
meets_by to (kind.Class is_abstract) children = code_meets to (kind.Class is_abstract) children
meets_by to kind.BlockStmt (statements ∷ []) = catches_none to (ids_of statements.meaning.lexicals) statements.seeks.sought
meets_by to kind.ForStmt (init ∷ test ∷ update ∷ body ∷ []) = catches_none to (ids_of init.meaning.lexicals) (all_sought (init ∷ test ∷ update ∷ body ∷ []))
meets_by to kind.SwitchStmt (discriminant ∷ cases ∷ []) = catches_none to (ids_of cases.meaning.lexicals) cases.seeks.sought
meets_by to kind.CatchClause (parameter ∷ body ∷ []) = catches_none to parameter.meaning.names (parameter.seeks.sought ++ body.seeks.sought)
meets_by to kind.TsModuleBlock (items ∷ []) = catches_none to (ids_of (except [] (items.meaning.vars ++ items.meaning.lexicals))) items.seeks.sought
meets_by to kind.FnExpr (name ∷ function ∷ []) = catches_none to name.meaning.names (name.meaning.names ++ function.seeks.sought)
meets_by to (kind.ClassDecl false) (name ∷ class ∷ []) = catches_none to name.meaning.names (name.meaning.names ++ class.seeks.sought)
meets_by to kind.ClassExpr (name ∷ class ∷ []) = catches_none to name.meaning.names (name.meaning.names ++ class.seeks.sought)
meets_by to k children = true

-- a node, and whether names meet in it
pub record Met : Type 0 where
  pub node : Node
  pub meets : Bool

abbrev pub met_step : (Id → Id) → Node-F Met → Met
met_step to parts = record {
  node = node_of parts.span parts.kind (map (λ child. child.node) parts.children);
  meets = meets_by to parts.kind (map (λ child. seeker child.node) parts.children) && list_all (λ child. child.meets) parts.children;
}

abbrev pub met : (Id → Id) → Node → Met
met to = fold-Node Met (met_step to)

-- the names of a module: none that it looks up becomes another of its own, and none that it declares nowhere one that it declares anywhere
abbrev pub module_meets : (Id → Id) → Seeker → Bool
module_meets to m = catches_none to (ids_of m.meaning.locals) m.seeks.sought && catches_none to m.meaning.declared (outside_of m.meaning.declared m.seeks.sought)

-- no variable that is exported becomes another one that is, or another one of the module's scope
abbrev pub exports_meet : (Id → Id) → List Id → List Exported → Bool
exports_meet to ids [] = true
exports_meet to ids (Local name id ∷ entries) = is_told to ids id && (catches_none to (id ∷ []) (local_ids entries) && exports_meet to ids entries)
exports_meet to ids (Indirect name source imported ∷ entries) = exports_meet to ids entries
exports_meet to ids (Star ∷ entries) = exports_meet to ids entries

-- of a tree without enums, a map of names under which names may become one where no identifier is caught; it keeps the texts of keys and of names that the tree declares nowhere,
-- and which names are the `this` of a parameter that types it; what is exported under its own name keeps its text, and the variable of a default export
-- without a name its name
pub record MayMeet (to : Id → Id) (m : Node) : Type 0 where
  pub no_enums : lacks_enums m ≡ true
  pub stands : Id → Bool
  pub all_stand : ids_pass stands m ≡ true
  pub none_caught : (met to m).meets ≡ true
  pub in_module : module_meets to (seeker m) ≡ true
  pub key_texts : TextsStay to (keys_in m)
  pub free_texts : (id : Id) → stands id ≡ true → is_among id (meaning m).declared ≡ false → (to id).sym ≡ id.sym
  pub this_stays : (id : Id) → stands id ≡ true → bytes_eq (to id).sym (codes "this") ≡ bytes_eq id.sym (codes "this")
  pub exports_apart : exports_meet to (ids_of (meaning m).locals) (exports_in m) ≡ true
  pub export_texts : TextsStay to (export_names (exports_in m))
  pub default_stays : (stands default_name ≡ true) × (to default_name ≡ default_name)
