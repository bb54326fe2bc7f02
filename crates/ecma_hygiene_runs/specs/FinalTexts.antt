-- Resolved trees as `hygiene` takes them, and their final texts as a map of ids.
use Rattle.std.specs.Prelude.{ℕ, suc, Bool, true, false, ◌==◌, ◌&&◌, List, [], ◌∷◌, Option, Some, None}
use Rattle.ecma_kind.specs.declared.kind.Kind.{Kind}
use Rattle.ecma_kind.specs.declared.kind.Kind.TheVariants as kind
use Rattle.ecma_tree.specs.declared.node.Node.{Node, out-Node}
use Rattle.ecma_tree.specs.Layers.{from_leaves}
use Rattle.ecma_scope.specs.declared.role.Role.{Role}
use Rattle.ecma_scope.specs.declared.role.Role.TheVariants as role
use Rattle.ecma_scope.specs.Resolved.{is_name}
use Rattle.ecma_scope.specs.Scopes.{role_in}
use Rattle.ecma_hygiene.specs.Renamed.{Texts, text_of}
use Rattle.ecma_runs.specs.State.{Id}
use Rattle.ecma_hygiene_runs.specs.WrittenOut.{identifier_by, leaf_text}

-- an id with its final text, and with another context
abbrev pub final_id : (ℕ → ℕ) → Texts → Id → Id
final_id to texts id = record { sym = text_of texts (id.sym, id.ctxt); ctxt = to id.ctxt }

-- what is no name of a variable has the empty context
abbrev pub is_outer : Bool → Kind → Bool
is_outer true (kind.Ident sym ctxt optional) = ctxt == 0
is_outer _ k = true

abbrev pub is_text : Option (List ℕ) → Bool
is_text (Some text) = true
is_text None = false

abbrev pub has_text : Option Node → Bool
has_text (Some id) = is_text (leaf_text (out-Node id).kind (out-Node id).children)
has_text None = false

-- a shorthand pattern has an identifier
abbrev pub has_name : Kind → List Node → Bool
has_name kind.AssignPatProp (name ∷ default ∷ []) = has_text (identifier_by (out-Node name).kind (out-Node name).children)
has_name k children = true

-- of children, the first is the one at i
abbrev pub all_named : (ℕ → Role) → ℕ → List (Role → Bool) → Bool
all_named roles i [] = true
all_named roles i (child ∷ children) = child (roles i) && all_named roles (suc i) children

abbrev pub named_step : Node → List (Role → Bool) → Role → Bool
named_step node children r = is_outer (is_name r) (out-Node node).kind && (has_name (out-Node node).kind (out-Node node).children && all_named (role_in r node) 0 children)

-- so it is everywhere in a node
abbrev pub is_named_at : Node → Role → Bool
is_named_at = from_leaves (Role → Bool) named_step

abbrev pub is_named : Node → Bool
is_named tree = is_named_at tree role.Root
