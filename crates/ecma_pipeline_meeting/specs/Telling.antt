-- What is left to ask of a plain module, so that its final texts are a map under which names may meet.
use Rattle.std.specs.Prelude.{◌≡◌, ◌≢◌, ℕ, Bool, true, false, List, bytes_eq, codes}
use Rattle.std.specs.List.{All}
use Rattle.ecma_kind.specs.declared.kind.Kind.TheVariants as kind
use Rattle.ecma_tree.specs.declared.node.Node.{Node, out-Node}
use Rattle.ecma_scope.specs.Resolved.{is_name}
use Rattle.ecma_scope.specs.Scopes.{opens}
use Rattle.ecma_hygiene.specs.Capture.{NoneDeclares}
use Rattle.ecma_hygiene.specs.Ids.{Id as HygieneId, innermost, is_body_block}
use Rattle.ecma_hygiene.specs.Renamed.{Texts}
use Rattle.ecma_hygiene.specs.Sights.{own_scope, sights}
use Rattle.ecma_hygiene.specs.Texts.{is_bound}
use Rattle.ecma_runs.specs.State.{Id}
use Rattle.ecma_hygiene_meeting.specs.Places.{Place, places}
use Rattle.ecma_hygiene_meeting.specs.Records.{declares_id}
use Rattle.ecma_hygiene_meeting.specs.Texts.{TellsItsNames, written}
use Rattle.ecma_hygiene_scopes.specs.Once.{DeclaresOnce, DeclaresTextsOnce}

-- a scope that declares each text in one context, but for what was made, writes two names as two
abbrev pub TellsOwnNames : (HygieneId → Bool) → Texts → Place → Type 0
TellsOwnNames made texts place =
    opens place.around.role place.node ≡ true → DeclaresOnce made (own_scope place.around.role place.around.scopes place.node) → TellsItsNames texts (own_scope place.around.role place.around.scopes place.node)

-- a body writes none of its names as a parameter
abbrev pub TellsParameters : Texts → Place → Type 0
TellsParameters texts place =
    is_body_block place.around.role (out-Node place.node).kind ≡ true → (parameter name : Id) → declares_id (innermost place.around.scopes) parameter ≡ true
    → declares_id (own_scope place.around.role place.around.scopes place.node) name ≡ true → written texts parameter ≡ written texts name → ⊥

-- what is no name of a variable has the empty context, and what no scope around declares that of free names; a scope declares a text in one context, but for what was made
pub record SaysItsScopes (made : HygieneId → Bool) (free : ℕ) (place : Place) : Type 0 where
  pub outer : (sym : List ℕ) (ctxt : ℕ) (optional : Bool) → (out-Node place.node).kind ≡ kind.Ident sym ctxt optional → is_name place.around.role ≡ true → ctxt ≡ 0
  pub free_names : (sym : List ℕ) (ctxt : ℕ) (optional : Bool) → (out-Node place.node).kind ≡ kind.Ident sym ctxt optional → is_name place.around.role ≡ false
      → NoneDeclares place.around.scopes (sym, ctxt) → ctxt ≡ free
  pub once : DeclaresTextsOnce made place.node place.around

-- a module whose ids say which scope declares each name, where free names have this context, which is not the empty one
pub record SaysScopes (made : HygieneId → Bool) (free : ℕ) (tree : Node) : Type 0 where
  pub scopes : All (SaysItsScopes made free) (places tree)
  pub there : free ≢ 0

-- a binding has neither the empty context nor that of free names, and is not `this`
pub record IsInside (free : ℕ) (id : HygieneId) : Type 0 where
  pub inner : id.1 ≢ 0
  pub bound : id.1 ≢ free
  pub no_this : bytes_eq id.0 (codes "this") ≡ false

-- so is each binding of a tree
abbrev pub BindsInside : ℕ → Node → Type 0
BindsInside free tree = (id : HygieneId) → is_bound (sights tree) id ≡ true → IsInside free id
