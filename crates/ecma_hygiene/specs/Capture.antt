-- Nothing is captured: read by its written text, a name is found where its id is declared.
use Rattle.std.specs.Prelude.{◌≡◌, ℕ, Bool, true, false, List, [], ◌∷◌, ◌++◌}
use Rattle.std.specs.List.{All}
use Rattle.ecma_kind.specs.declared.kind.Kind.{Kind}
use Rattle.ecma_kind.specs.declared.kind.Kind.TheVariants as kind
use Rattle.ecma_tree.specs.declared.node.Node.{Node, out-Node}
use Rattle.ecma_scope.specs.Resolved.{is_name}
use Rattle.ecma_hygiene.specs.declared.naming.Named.{Named}
use Rattle.ecma_hygiene.specs.Ids.{Id, Scope, has_context}
use Rattle.ecma_hygiene.specs.Renamed.{Texts, text_of}
use Rattle.ecma_hygiene.specs.Sights.{Around, around_child, nowhere}
use Rattle.ecma_hygiene.specs.Texts.{HygienicTexts, text_in}
use Rattle.ecma_hygiene.specs.Walks.{gathered_down}

-- an identifier, with the scopes around it, the innermost last
pub record Placed : Type 0 where
  pub name : Id
  pub scopes : List Scope

abbrev pub placed_by : Bool → List Scope → Kind → List Placed
placed_by false scopes (kind.Ident sym ctxt optional) = record { name = (sym, ctxt); scopes = scopes } ∷ []
placed_by _ scopes k = []

abbrev pub placed_here : Around → Node → List Placed
placed_here around node = placed_by (is_name around.role) around.scopes (out-Node node).kind

abbrev pub placed_at : Node → Around → List Placed
placed_at = gathered_down Around Placed placed_here around_child

-- the identifiers of a tree
abbrev pub placed : Node → List Placed
placed tree = placed_at tree nowhere

-- none of these scopes declares the id
abbrev pub NoneDeclares : List Scope → Id → Type 0
NoneDeclares [] id = Unit {0}
NoneDeclares (scope ∷ scopes) id = (has_context id.1 (scope id.0) ≡ false) × NoneDeclares scopes id

-- a binding of this scope is written so
pub record Writes (texts : Texts) (scope : Scope) (text : List ℕ) : Type 0 where
  pub binding : Id
  pub declared : has_context binding.1 (scope binding.0) ≡ true
  pub is : text_of texts binding ≡ text

-- no scope that stands further in than the one which declares a name, and where none declares it no scope, has a binding that is written as the name is
abbrev pub IsNotCaptured : Texts → Placed → Type 0
IsNotCaptured texts x = (outer : List Scope) (scope : Scope) (inner : List Scope) → x.scopes ≡ outer ++ scope ∷ inner → NoneDeclares (scope ∷ inner) x.name → Writes texts scope (text_of texts x.name) → ⊥

-- so it is of each identifier
abbrev pub NothingIsCaptured : Type 0
NothingIsCaptured = (tree : Node) (names : List Named) → HygienicTexts tree names → All (IsNotCaptured (text_in names)) (placed tree)
