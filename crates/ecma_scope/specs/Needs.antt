-- How many contexts are needed for all that becomes of a tree.
use Rattle.std.specs.Prelude.{ℕ, suc, ◌+◌, ◌-◌, ◌^◌, ◌≤◌, Bool, true, false, List, [], ◌∷◌, Option, Some, None, slice_get, cond, min}
use Rattle.ecma_kind.specs.declared.kind.Kind.{Kind}
use Rattle.ecma_kind.specs.declared.kind.Kind.TheVariants as kind
use Rattle.ecma_tree.specs.declared.node.Node.{Node, out-Node}
use Rattle.ecma_tree.specs.Layers.{from_leaves}
use Rattle.ecma_scope.specs.declared.role.Role.{Role}
use Rattle.ecma_scope.specs.declared.role.Role.TheVariants as role
use Rattle.ecma_scope.specs.Scopes.{opens, role_in}
use Rattle.ecma_scope.specs.Resolved.{contexts}

abbrev is_computed : Kind → Bool
is_computed kind.ComputedPropName = true
is_computed _ = false

abbrev computed_by : Option Node → Bool
computed_by (Some node) = is_computed (out-Node node).kind
computed_by None = false

-- whether the first child is a key in brackets
abbrev pub has_computed_key : List Node → Bool
has_computed_key children = computed_by (slice_get children 0)

-- one for a class, and one for a field of a class whose key is in brackets
unfoldable pub helpers_by : Kind → Bool → ℕ
helpers_by (kind.Class is_abstract) computed = 1
helpers_by (kind.ClassProp modifiers readonly declare definite) computed = cond computed 1 0
helpers_by _ computed = 0

-- and one for a scope
abbrev pub needed_here : Role → Node → ℕ
needed_here r node = cond (opens r node) 1 0 + helpers_by (out-Node node).kind (has_computed_key (out-Node node).children)

abbrev pub needed_in : (ℕ → Role) → ℕ → List (Role → ℕ) → ℕ
needed_in role_of i [] = 0
needed_in role_of i (child ∷ children) = child (role_of i) + needed_in role_of (suc i) children

abbrev pub needed_step : Node → List (Role → ℕ) → Role → ℕ
needed_step node children r = needed_here r node + needed_in (role_in r node) 0 children

abbrev pub needed_at : Node → Role → ℕ
needed_at = from_leaves (Role → ℕ) needed_step

-- the scopes, the classes, the fields with a key in brackets, and 16 more
abbrev pub needed : Node → ℕ
needed tree = needed_at tree role.Root + 16

-- the greatest number of 64 bits in the place of a greater one
abbrev pub capped : ℕ → ℕ
capped n = min n (2 ^ 64 - 1)

-- so many are enough for the scopes
abbrev pub NeededSuffice : Type 0
NeededSuffice = (tree : Node) → contexts tree ≤ needed tree
