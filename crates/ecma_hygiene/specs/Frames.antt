-- Scopes as they are kept.
use Rattle.std.specs.Prelude.{ℕ, Bool, true, List, [], ◌∷◌, ◌++◌, map, Option, Some, bytes_eq, unwrap_or}
use Rattle.std.specs.HashMap.{HashMap, get}
use Rattle.ecma_hygiene.specs.declared.scope.Declared.{Declared}
use Rattle.ecma_hygiene.specs.declared.scope.Declared.TheVariants as declared
use Rattle.ecma_tree.specs.declared.node.Node.{Node, out-Node}
use Rattle.ecma_scope.specs.declared.form.Sought.{Sought}
use Rattle.ecma_scope.specs.declared.role.Role.{Role}
use Rattle.ecma_scope.specs.Scopes.{covers, role_in}
use Rattle.ecma_hygiene.specs.Ids.{Scope, contexts_of, soughts_in}
use Rattle.ecma_hygiene.specs.Sights.{Around}

-- the contexts of a text
abbrev pub contexts_by : {S : Type 0} → HashMap (List ℕ) (List ℕ) S → Scope
contexts_by contexts text = unwrap_or (get bytes_eq contexts text) []

abbrev pub contexts_in : Declared → Scope
contexts_in (declared.Few ids) text = contexts_of ids text
contexts_in (declared.Many contexts) text = contexts_by contexts text

abbrev pub scopes_of : List Declared → List Scope
scopes_of scopes = map contexts_in scopes

abbrev pub around_of : Role → List Sought → List Declared → Around
around_of r soughts frames = record { role = r; soughts = soughts; scopes = scopes_of frames }

-- the scopes in one scope more, if there is one and it covers what stands there
abbrev pub scopes_within : List Declared → Option Declared → Bool → List Scope
scopes_within frames (Some scope) true = scopes_of (frames ++ scope ∷ [])
scopes_within frames _ _ = scopes_of frames

abbrev pub around_within : Role → List Sought → List Declared → Option Declared → Bool → Around
around_within r soughts frames scope covered = record { role = r; soughts = soughts; scopes = scopes_within frames scope covered }

-- what stands around the children of a node in which this is looked for, and which opens this scope, if it opens one
abbrev pub around_children : Role → List Sought → List Declared → Option Declared → Node → ℕ → Around
around_children r soughts frames scope node i =
    around_within (role_in r node i) (soughts_in soughts node i) frames scope (covers r (out-Node node).kind i)
