-- Trees whose contexts tell their scopes apart, and the map of these contexts to those that the scopes get.
use Rattle.std.specs.Prelude.{◌≡◌, ◌≢◌, ◌⊎◌, ℕ, Bool, true, false, List, [], ◌∷◌, map, cond}
use Rattle.std.specs.List.{All, list_any}
use Rattle.ecma_kind.specs.declared.kind.Kind.TheVariants as kind
use Rattle.ecma_tree.specs.declared.node.Node.{Node, out-Node}
use Rattle.ecma_scope.specs.declared.role.Role.TheVariants as role
use Rattle.ecma_scope.specs.Declarations.{is_hoisted}
use Rattle.ecma_scope.specs.Resolved.{is_name}
use Rattle.ecma_scope.specs.Scopes.{opens}
use Rattle.ecma_hygiene.specs.Capture.{NoneDeclares}
use Rattle.ecma_hygiene.specs.Ids.{Id, has_context, innermost, is_block, is_body_block, own_ids}
use Rattle.ecma_hygiene.specs.Laws.{is_seen}
use Rattle.ecma_hygiene.specs.Renamed.{kind_is_absent}
use Rattle.ecma_hygiene.specs.Sights.{sights}
use Rattle.ecma_hygiene_scopes.specs.DeclaredIds.{DeclaredId, scope_ids}
use Rattle.ecma_hygiene_scopes.specs.Stops.{IsRight, Stop, stops}

-- the contexts in which the scope of a node declares ids, if it opens one
abbrev pub own_contexts : Stop → List ℕ
own_contexts stop = cond (opens stop.around.role stop.node) (map (λ id. id.1) (own_ids stop.around.role (innermost stop.around.scopes) stop.node)) []

-- no context stands in two of these lists
abbrev pub AreApart : List (List ℕ) → Type 0
AreApart [] = Unit {0}
AreApart (ctxts ∷ others) = ((ctxt : ℕ) → has_context ctxt ctxts ≡ true → All (λ other. has_context ctxt other ≡ false) others) × AreApart others

-- `DeclaresRightly` of stops, but for contexts
pub record DeclaresCleanly (stop : Stop) : Type 0 where
  pub stay : All (λ (d : DeclaredId). d.stays ≡ true) (scope_ids stop.around.role stop.node)
  pub blocks : stop.around.role ≡ role.Body → All (λ (d : DeclaredId). is_hoisted d.form ≡ true → is_block (out-Node stop.node).kind ≡ true) (scope_ids stop.around.role stop.node)
  pub parameters : is_body_block stop.around.role (out-Node stop.node).kind ≡ true
      → All (λ (d : DeclaredId). has_context d.id.1 (innermost stop.around.scopes d.id.0) ≡ true → is_hoisted d.form ≡ true) (scope_ids stop.around.role stop.node)

-- the scope of a node declares its ids in one context
abbrev pub HasOneContext : Stop → Type 0
HasOneContext stop = (c d : ℕ) → has_context c (own_contexts stop) ≡ true → has_context d (own_contexts stop) ≡ true → c ≡ d

-- a node of a tree whose ids say which scopes declare its names, in which free names have this context; a scope declares no id in that of free names, and none in the empty one
pub record IsScoped (free : ℕ) (stop : Stop) : Type 0 where
  pub absent : kind_is_absent stop.node ≡ true → (out-Node stop.node).children ≡ []
  pub names : (sym : List ℕ) (ctxt : ℕ) (optional : Bool) → (out-Node stop.node).kind ≡ kind.Ident sym ctxt optional → is_name stop.around.role ≡ true → ctxt ≡ 0
  pub free_names : (sym : List ℕ) (ctxt : ℕ) (optional : Bool) → (out-Node stop.node).kind ≡ kind.Ident sym ctxt optional → is_name stop.around.role ≡ false
      → NoneDeclares stop.around.scopes (sym, ctxt) → ctxt ≡ free
  pub declares : opens stop.around.role stop.node ≡ true → DeclaresCleanly stop
  pub not_free : has_context free (own_contexts stop) ≡ false
  pub not_empty : has_context 0 (own_contexts stop) ≡ false

pub record TellsScopesApart (free left : ℕ) (tree : Node) : Type 0 where
  pub scoped : All (IsScoped free) (stops left tree)
  pub one : All HasOneContext (stops left tree)
  pub apart : AreApart (map own_contexts (stops left tree))
  pub there : free ≢ 0

-- a context of a scope, or that of free names
abbrev pub IsContext : ℕ → ℕ → Node → ℕ → Type 0
IsContext free left tree ctxt = (ctxt ≡ free) ⊎ (list_any (λ stop. has_context ctxt (own_contexts stop)) (stops left tree) ≡ true)

-- a map of contexts with which the ids of a tree are right, one to one; it takes none of those of identifiers to the empty one
pub record IsMap (unresolved top free left : ℕ) (tree : Node) (to : ℕ → ℕ) : Type 0 where
  pub none : to 0 ≡ 0
  pub right : All (IsRight unresolved top (λ ctxt. ctxt) to) (stops left tree)
  pub one_to_one : (c d : ℕ) → to c ≡ to d → c ≡ d
  pub free_names : to free ≡ unresolved
  pub inner : (c : ℕ) → IsContext free left tree c → to c ≢ 0
  pub seen : (id : Id) → is_seen (sights tree) id ≡ true → IsContext free left tree id.1
