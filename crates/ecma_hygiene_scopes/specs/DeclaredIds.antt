-- The ids that a scope declares, each with its form, and the declarations that they become with other texts.
use Rattle.std.specs.Prelude.{ℕ, suc, Bool, not, List, [], ◌∷◌, ◌++◌, Option, Some, None, cond}
use Rattle.ecma_kind.specs.declared.kind.Kind.{Kind}
use Rattle.ecma_kind.specs.declared.kind.Kind.TheVariants as kind
use Rattle.ecma_tree.specs.declared.node.Node.{Node, out-Node}
use Rattle.ecma_tree.specs.Layers.{from_leaves}
use Rattle.ecma_scope.specs.declared.form.Form.{Form}
use Rattle.ecma_scope.specs.declared.form.Part.{Part}
use Rattle.ecma_scope.specs.declared.form.Part.TheVariants as part
use Rattle.ecma_scope.specs.declared.form.Sought.{Sought}
use Rattle.ecma_scope.specs.declared.form.Declaration.{Declaration}
use Rattle.ecma_scope.specs.declared.role.Role.{Role}
use Rattle.ecma_scope.specs.Scopes.{is_ambient}
use Rattle.ecma_scope.specs.Declarations.{holds_vars, own_part, sought_in}
use Rattle.ecma_hygiene.specs.Ids.{Id}
use Rattle.ecma_hygiene.specs.Renamed.{Texts, text_of}

-- an id that is declared
pub record DeclaredId : Type 0 where
  pub id : Id
  pub form : Form
  pub stays : Bool

abbrev pub named_by : Part → Id → Bool → List DeclaredId
named_by (part.Name f) id stays = record { id = id; form = f; stays = stays } ∷ []
named_by _ id stays = []

-- an identifier where names are looked for declares its id
abbrev pub id_here : Sought → Kind → List DeclaredId
id_here sought (kind.Ident sym ctxt optional) = named_by sought.part (sym, ctxt) sought.stays
id_here sought _ = []

abbrev pub ids_at : Option Sought → (Sought → List DeclaredId) → List DeclaredId
ids_at (Some sought) child = child sought
ids_at None child = []

-- what is found in children, of which the first is the one at i
abbrev pub ids_in : (ℕ → Option Sought) → ℕ → List (Sought → List DeclaredId) → List DeclaredId
ids_in into i [] = []
ids_in into i (child ∷ children) = ids_at (into i) child ++ ids_in into (suc i) children

abbrev pub ids_step : Node → List (Sought → List DeclaredId) → Sought → List DeclaredId
ids_step node children sought = id_here sought (out-Node node).kind ++ ids_in (sought_in sought node) 0 children

-- the ids that are declared in a node, in the order of the text
abbrev pub ids_declared : Node → Sought → List DeclaredId
ids_declared = from_leaves (Sought → List DeclaredId) ids_step

-- the ids that the scope of a node may declare, with the `var` names that belong to it
abbrev pub scope_ids : Role → Node → List DeclaredId
scope_ids r node =
    ids_declared node (record { part = own_part r; stays = not (is_ambient r) })
    ++ cond (holds_vars r (out-Node node).kind) (ids_declared node (record { part = part.Var; stays = not (is_ambient r) })) []

-- a declaration with the text that its id gets
abbrev pub with_text : Texts → DeclaredId → Declaration
with_text texts d = record { sym = text_of texts d.id; form = d.form; stays = d.stays }
