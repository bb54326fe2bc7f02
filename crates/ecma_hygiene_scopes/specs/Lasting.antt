-- Resolved modules in which declarations may go: what scopes declare as values that stay, they declare in contexts of their own.
use Rattle.std.specs.Prelude.{◌≡◌, ◌≢◌, ℕ, Bool, true, false, List, [], map}
use Rattle.std.specs.List.{All}
use Rattle.ecma_kind.specs.declared.kind.Kind.TheVariants as kind
use Rattle.ecma_kind.specs.declared.shapes.Sort.TheVariants as sort
use Rattle.ecma_tree.specs.Sorted.{HasSort}
use Rattle.ecma_tree.specs.declared.node.Node.{Node, out-Node}
use Rattle.ecma_scope.specs.declared.role.Role.TheVariants as role
use Rattle.ecma_scope.specs.Conflicts.{redeclared}
use Rattle.ecma_scope.specs.Declarations.{is_hoisted}
use Rattle.ecma_scope.specs.Laws.{without_contexts}
use Rattle.ecma_scope.specs.Resolved.{is_name}
use Rattle.ecma_scope.specs.Scopes.{opens}
use Rattle.ecma_hygiene.specs.Capture.{NoneDeclares}
use Rattle.ecma_hygiene.specs.Ids.{has_context, innermost, is_block, is_body_block}
use Rattle.ecma_hygiene.specs.Renamed.{kind_is_absent}
use Rattle.ecma_hygiene_scopes.specs.Apart.{AreApart, HasOneContext, own_contexts}
use Rattle.ecma_hygiene_scopes.specs.DeclaredIds.{DeclaredId, scope_ids}
use Rattle.ecma_hygiene_scopes.specs.Stops.{Stop, stops}

-- a node of such a module, in which free names have this context: `IsScoped`, but that what a scope declares may go
pub record KeepsScope (free : ℕ) (stop : Stop) : Type 0 where
  pub absent : kind_is_absent stop.node ≡ true → (out-Node stop.node).children ≡ []
  pub names : (sym : List ℕ) (ctxt : ℕ) (optional : Bool) → (out-Node stop.node).kind ≡ kind.Ident sym ctxt optional → is_name stop.around.role ≡ true → ctxt ≡ 0
  pub free_names : (sym : List ℕ) (ctxt : ℕ) (optional : Bool) → (out-Node stop.node).kind ≡ kind.Ident sym ctxt optional → is_name stop.around.role ≡ false
      → NoneDeclares stop.around.scopes (sym, ctxt) → ctxt ≡ free
  pub blocks : opens stop.around.role stop.node ≡ true → stop.around.role ≡ role.Body → All (λ (d : DeclaredId). is_hoisted d.form ≡ true → is_block (out-Node stop.node).kind ≡ true) (scope_ids stop.around.role stop.node)
  pub parameters : opens stop.around.role stop.node ≡ true → is_body_block stop.around.role (out-Node stop.node).kind ≡ true
      → All (λ (d : DeclaredId). has_context d.id.1 (innermost stop.around.scopes d.id.0) ≡ true → is_hoisted d.form ≡ true) (scope_ids stop.around.role stop.node)
  pub not_free : has_context free (own_contexts stop) ≡ false
  pub not_empty : has_context 0 (own_contexts stop) ≡ false

pub record KeepsScopesApart (free left : ℕ) (tree : Node) : Type 0 where
  pub scoped : All (KeepsScope free) (stops left tree)
  pub one : All HasOneContext (stops left tree)
  pub apart : AreApart (map own_contexts (stops left tree))
  pub there : free ≢ 0

-- a module as it is read, with the empty context for each identifier, in which no name is declared again where it may not be
pub record IsCheckedModule (source : Node) : Type 0 where
  pub sorted : HasSort sort.Module source
  pub bare : without_contexts source ≡ source
  pub clear : redeclared source ≡ []
