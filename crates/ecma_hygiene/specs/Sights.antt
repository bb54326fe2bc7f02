-- The identifiers of a tree, and which bindings the written texts alone would not tell from each other.
use Rattle.std.specs.Prelude.{ℕ, Bool, true, false, ◌&&◌, ◌==◌, not, List, [], ◌∷◌, ◌++◌, map, cond}
use Rattle.std.specs.List.{list_any}
use Rattle.ecma_kind.specs.declared.kind.Kind.{Kind}
use Rattle.ecma_kind.specs.declared.kind.Kind.TheVariants as kind
use Rattle.ecma_kind.specs.declared.span.Span.{Span}
use Rattle.ecma_tree.specs.declared.node.Node.{Node, out-Node}
use Rattle.ecma_scope.specs.declared.form.Sought.{Sought}
use Rattle.ecma_scope.specs.declared.role.Role.{Role}
use Rattle.ecma_scope.specs.declared.role.Role.TheVariants as role
use Rattle.ecma_scope.specs.Scopes.{covers, opens, role_in}
use Rattle.ecma_scope.specs.Resolved.{is_name}
use Rattle.ecma_hygiene.specs.declared.sight.Sight.{Sight}
use Rattle.ecma_hygiene.specs.declared.sight.Meeting.{Meeting}
use Rattle.ecma_hygiene.specs.Ids.{Id, Scope, contexts_of, declares, has_context, innermost, is_body_block, own_ids, scope_soughts, soughts_in}
use Rattle.ecma_hygiene.specs.Walks.{gathered_down}

-- what stands around a node: what it is to its parent, what is looked for in it, and the scopes, the innermost last
pub record Around : Type 0 where
  pub role : Role
  pub soughts : List Sought
  pub scopes : List Scope

abbrev pub inner_soughts : Bool → List Sought → List Sought → List Sought
inner_soughts true outer own = outer ++ own
inner_soughts false outer own = outer

abbrev pub own_scope : Role → List Scope → Node → Scope
own_scope r scopes node = contexts_of (own_ids r (innermost scopes) node)

-- what stands around the child at an index
abbrev pub around_child : Around → Node → ℕ → Around
around_child around node i =
    record {
      role = role_in around.role node i;
      soughts = soughts_in (inner_soughts (opens around.role node) around.soughts (scope_soughts around.role (out-Node node).kind)) node i;
      scopes = cond (opens around.role node && covers around.role (out-Node node).kind i) (around.scopes ++ own_scope around.role around.scopes node ∷ []) around.scopes;
    }

abbrev pub stands_in_source : Span → Bool
stands_in_source span = not (span.lo == 0 && span.hi == 0)

-- ---- what identifiers there are

abbrev pub sight_by : Bool → Bool → Span → Kind → List Sight
sight_by false declares span (kind.Ident sym ctxt optional) = record { id = (sym, ctxt); in_source = stands_in_source span; declares = declares } ∷ []
sight_by _ declares span k = []

abbrev pub sight_here : Around → Node → List Sight
sight_here around node = sight_by (is_name around.role) (list_any declares around.soughts) (out-Node node).span (out-Node node).kind

-- ---- an identifier that stands in the scope of a binding of its text, and names another binding from outside, or nothing

-- of scopes, from the outermost in: the contexts in which those declare a text that are further in than the one that declares it in this context
abbrev pub hidden : List Scope → Id → List ℕ → List ℕ
hidden [] id so_far = so_far
hidden (scope ∷ scopes) id so_far = hidden scopes id (cond (has_context id.1 (scope id.0)) [] (so_far ++ scope id.0))

abbrev pub meet : Id → List ℕ → List Meeting
meet name ctxts = map (λ ctxt. record { name = name; binding = (name.0, ctxt) }) ctxts

abbrev pub hides : Bool → List Scope → Kind → List Meeting
hides false scopes (kind.Ident sym ctxt optional) = meet (sym, ctxt) (hidden scopes (sym, ctxt) [])
hides _ scopes k = []

-- ---- a parameter beside a binding of its text in the body

abbrev pub beside : Id → List ℕ → List Meeting
beside binding ctxts = map (λ ctxt. record { name = (binding.0, ctxt); binding = binding }) ctxts

abbrev pub beside_parameters : Scope → List Id → List Meeting
beside_parameters parameters [] = []
beside_parameters parameters (id ∷ ids) = beside id (parameters id.0) ++ beside_parameters parameters ids

abbrev pub meets : Around → Node → List Meeting
meets around node =
    cond (opens around.role node && is_body_block around.role (out-Node node).kind) (beside_parameters (innermost around.scopes) (own_ids around.role (innermost around.scopes) node)) []
    ++ hides (is_name around.role) around.scopes (out-Node node).kind

abbrev pub nowhere : Around
nowhere = record { role = role.Root; soughts = []; scopes = [] }

-- the identifiers of a tree, in the order of the text
abbrev pub sights_at : Node → Around → List Sight
sights_at = gathered_down Around Sight sight_here around_child

abbrev pub sights : Node → List Sight
sights tree = sights_at tree nowhere

-- and the bindings that meet a name of their text
abbrev pub meetings_at : Node → Around → List Meeting
meetings_at = gathered_down Around Meeting meets around_child

abbrev pub meetings : Node → List Meeting
meetings tree = meetings_at tree nowhere
