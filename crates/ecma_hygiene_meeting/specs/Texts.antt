-- Trees of which the written texts are read as the ids say, whatever contexts scopes share.
use Rattle.std.specs.Prelude.{◌≡◌, ◌≢◌, ◌⊎◌, ℕ, Bool, true, false, List, Some, bytes_eq, codes}
use Rattle.std.specs.List.{All}
use Rattle.ecma_kind.specs.declared.kind.Kind.TheVariants as kind
use Rattle.ecma_tree.specs.declared.node.Node.{Node, out-Node}
use Rattle.ecma_scope.specs.Resolved.{is_name}
use Rattle.ecma_scope.specs.Scopes.{opens}
use Rattle.ecma_hygiene.specs.Capture.{IsNotCaptured, NoneDeclares, placed}
use Rattle.ecma_hygiene.specs.Ids.{Scope, innermost, is_body_block}
use Rattle.ecma_hygiene.specs.Renamed.{Texts, text_of}
use Rattle.ecma_hygiene.specs.Sights.{own_scope}
use Rattle.ecma_runs.specs.State.{Id}
use Rattle.ecma_runs.specs.Environment.{ids_of, is_among}
use Rattle.ecma_runs.specs.Exports.{export_names, local_ids}
use Rattle.ecma_runs.specs.Evaluation.{meaning}
use Rattle.ecma_runs.specs.Observation.{exports_in}
use Rattle.ecma_runs.specs.Sought.{sought_in}
use Rattle.ecma_hygiene_meeting.specs.Places.{Place, places}
use Rattle.ecma_hygiene_meeting.specs.Records.{declares_id}

-- the text of an id
abbrev pub written : Texts → Id → List ℕ
written texts id = text_of texts (id.sym, id.ctxt)

-- an id with its text, and with another context
abbrev pub sent : (ℕ → ℕ) → Texts → Id → Id
sent to texts id = record { sym = written texts id; ctxt = to id.ctxt }

-- a scope writes two names as two
abbrev pub TellsItsNames : Texts → Scope → Type 0
TellsItsNames texts scope = (a b : Id) → declares_id scope a ≡ true → declares_id scope b ≡ true → written texts a ≡ written texts b → a ≡ b

-- what is no name of a variable has the empty context, and what no scope around declares that of free names; a scope writes two names as two; a body writes none as a parameter
pub record TellsNames (texts : Texts) (free : ℕ) (place : Place) : Type 0 where
  pub outer : (sym : List ℕ) (ctxt : ℕ) (optional : Bool) → (out-Node place.node).kind ≡ kind.Ident sym ctxt optional → is_name place.around.role ≡ true → ctxt ≡ 0
  pub free_names : (sym : List ℕ) (ctxt : ℕ) (optional : Bool) → (out-Node place.node).kind ≡ kind.Ident sym ctxt optional → is_name place.around.role ≡ false
      → NoneDeclares place.around.scopes (sym, ctxt) → ctxt ≡ free
  pub own_names : opens place.around.role place.node ≡ true → TellsItsNames texts (own_scope place.around.role place.around.scopes place.node)
  pub parameters : is_body_block place.around.role (out-Node place.node).kind ≡ true → (parameter name : Id) → declares_id (innermost place.around.scopes) parameter ≡ true
      → declares_id (own_scope place.around.role place.around.scopes place.node) name ≡ true → written texts parameter ≡ written texts name → ⊥

-- what has another text is declared, in a context that is neither the empty one nor that of free names, and is not `this`
pub record IsRewritten (free : ℕ) (tree : Node) (id : Id) (text : List ℕ) : Type 0 where
  pub declared : is_among id (meaning tree).declared ≡ true
  pub inner : id.ctxt ≢ 0
  pub bound : id.ctxt ≢ free
  pub apart : bytes_eq id.sym (codes "this") ≡ false
  pub text_apart : bytes_eq text (codes "this") ≡ false

-- what is told of the names of a tree, where free names have this context
pub record NamesAreTold (texts : Texts) (free : ℕ) (tree : Node) : Type 0 where
  pub told : All (TellsNames texts free) (places tree)
  pub given : (id : Id) (text : List ℕ) → texts (id.sym, id.ctxt) ≡ Some text → IsRewritten free tree id text

-- with these texts nothing is captured
pub record IsReadByTexts (texts : Texts) (free : ℕ) (tree : Node) : Type 0 where
  pub not_captured : All (IsNotCaptured texts) (placed tree)
  pub names : NamesAreTold texts free tree

-- a map of contexts that keeps the empty one and that of free names apart from the others; the others may become one
pub record KeepsFreeApart (to : ℕ → ℕ) (free : ℕ) : Type 0 where
  pub empty : (ctxt : ℕ) → to ctxt ≡ to 0 → ctxt ≡ 0
  pub free_names : (ctxt : ℕ) → to ctxt ≡ to free → ctxt ≡ free

-- what a module exports are variables of its own, names that it looks up, or free ones, and those that are exported under their own names keep their texts
pub record KeepsExports (texts : Texts) (free : ℕ) (tree : Node) : Type 0 where
  pub own : (id : Id) → is_among id (local_ids (exports_in tree)) ≡ true
      → (is_among id (ids_of (meaning tree).locals) ≡ true) ⊎ ((is_among id (sought_in tree).sought ≡ true) ⊎ (id.ctxt ≡ free))
  pub stay : All (λ id. written texts id ≡ id.sym) (export_names (exports_in tree))
