-- Where a walk over a tree comes, and what is right there: the ids say which scope declares each name.
use Rattle.std.specs.Prelude.{◌≡◌, ℕ, suc, ◌-◌, Bool, true, false, List, [], ◌∷◌, ◌++◌, cond}
use Rattle.std.specs.List.{All}
use Rattle.ecma_kind.specs.declared.kind.Kind.TheVariants as kind
use Rattle.ecma_tree.specs.declared.node.Node.{Node, out-Node}
use Rattle.ecma_tree.specs.Layers.{from_leaves}
use Rattle.ecma_scope.specs.declared.role.Role.TheVariants as role
use Rattle.ecma_scope.specs.Declarations.{is_hoisted}
use Rattle.ecma_scope.specs.Resolved.{context_count, is_name, taken}
use Rattle.ecma_scope.specs.Scopes.{is_root, opens}
use Rattle.ecma_hygiene.specs.Capture.{NoneDeclares}
use Rattle.ecma_hygiene.specs.Ids.{Id, has_context, innermost, is_block, is_body_block}
use Rattle.ecma_hygiene.specs.Renamed.{kind_is_absent}
use Rattle.ecma_hygiene.specs.Sights.{Around, around_child, nowhere, own_scope}
use Rattle.ecma_hygiene_scopes.specs.DeclaredIds.{DeclaredId, scope_ids}

-- a node with what stands around it, where so many contexts are left
pub record Stop : Type 0 where
  pub node : Node
  pub around : Around
  pub left : ℕ

-- the children, of which the first is the one at i: each takes its contexts before those behind it
abbrev pub stops_from : (ℕ → Around) → ℕ → List Node → List (Around → ℕ → List Stop) → ℕ → List Stop
stops_from around i (node ∷ nodes) (child ∷ children) left = child (around i) left ++ stops_from around (suc i) nodes children (left - context_count node (around i).role)
stops_from around i _ _ left = []

abbrev pub stop_step : Node → List (Around → ℕ → List Stop) → Around → ℕ → List Stop
stop_step node children around left =
    record { node = node; around = around; left = left } ∷ stops_from (around_child around node) 0 (out-Node node).children children (left - taken around.role node)

abbrev pub stops_at : Node → Around → ℕ → List Stop
stops_at = from_leaves (Around → ℕ → List Stop) stop_step

-- each node of a tree, where `resolve` has so many contexts
abbrev pub stops : ℕ → Node → List Stop
stops left tree = stops_at tree nowhere left

-- of what a scope declares, nothing goes; in the body of a function, which is a block where it declares a `var` or a function, only these are
-- what the parameters declare; and each id that it declares has the context that the scope gets, up to two maps of contexts: of those that it has, and of those that scopes get
pub record DeclaresRightly (top : ℕ) (from to : ℕ → ℕ) (stop : Stop) : Type 0 where
  pub stay : All (λ (d : DeclaredId). d.stays ≡ true) (scope_ids stop.around.role stop.node)
  pub blocks : stop.around.role ≡ role.Body → All (λ (d : DeclaredId). is_hoisted d.form ≡ true → is_block (out-Node stop.node).kind ≡ true) (scope_ids stop.around.role stop.node)
  pub parameters : is_body_block stop.around.role (out-Node stop.node).kind ≡ true
      → All (λ (d : DeclaredId). has_context d.id.1 (innermost stop.around.scopes d.id.0) ≡ true → is_hoisted d.form ≡ true) (scope_ids stop.around.role stop.node)
  pub contexts : (id : Id) → has_context id.1 (own_scope stop.around.role stop.around.scopes stop.node id.0) ≡ true → to id.1 ≡ from (cond (is_root stop.around.role) top stop.left)

-- what is not there has no children; what is no name of a variable has the empty context; what no scope around declares is free
pub record IsRight (unresolved top : ℕ) (from to : ℕ → ℕ) (stop : Stop) : Type 0 where
  pub absent : kind_is_absent stop.node ≡ true → (out-Node stop.node).children ≡ []
  pub names : (sym : List ℕ) (ctxt : ℕ) (optional : Bool) → (out-Node stop.node).kind ≡ kind.Ident sym ctxt optional → is_name stop.around.role ≡ true → ctxt ≡ 0
  pub free : (sym : List ℕ) (ctxt : ℕ) (optional : Bool) → (out-Node stop.node).kind ≡ kind.Ident sym ctxt optional → is_name stop.around.role ≡ false
      → NoneDeclares stop.around.scopes (sym, ctxt) → to ctxt ≡ from unresolved
  pub declares : opens stop.around.role stop.node ≡ true → DeclaresRightly top from to stop
