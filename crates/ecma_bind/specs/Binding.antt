-- Names with types round them, bound where names are bound: in a pattern that is assigned to, and before `in` or `of` (ECMAScript, 13.15.5, 14.7.5.1).
use Rattle.std.specs.Prelude.{ℕ, suc, Bool, true, false, ◌&&◌, ◌||◌, cond, List, [], ◌∷◌}
use Rattle.ecma_kind.specs.Sorts.{is_type_wrapper}
use Rattle.ecma_tree.specs.declared.node.Node.{Node, Node-F, fold-Node, out-Node}
use Rattle.ecma_tree.specs.Nodes.{node_of}
use Rattle.ecma_tree.specs.Layers.{from_leaves}
use Rattle.ecma_rules.specs.Children.{kind_of}
use Rattle.ecma_rules.specs.Finishing.{binding}
use Rattle.ecma_rules.specs.Targets.{first_is}
use Rattle.ecma_fits.specs.declared.role.Role.{Role}
use Rattle.ecma_fits.specs.declared.role.Role.TheVariants as role
use Rattle.ecma_fits.specs.Roles.{is_name, role_in}

-- what an expression is without the types round it is a name
abbrev pub names_step : Node-F Bool → Bool
names_step parts = is_name parts.kind || (is_type_wrapper parts.kind && first_is parts.children)

abbrev pub is_name_under_types : Node → Bool
is_name_under_types = fold-Node Bool names_step

-- where a name is bound, in a pattern that is assigned to and before `in` or `of`
--   [a, { b: c }] = d; for (e of f);   // a, c and e
abbrev pub binds : Role → Bool
binds role.Head = true
binds role.Assigned = true
binds role.AssignedValue = true
binds role.AssignedElement = true
binds role.AssignedName = true
binds _ = false

abbrev pub first_or : Node → List Node → Node
first_or node [] = node
first_or node (expression ∷ types) = expression

-- an expression without the types round it
abbrev pub under_types : Node → Node
under_types = from_leaves Node (λ node inner. cond (is_type_wrapper (kind_of node)) (first_or node inner) node)

-- a name with a type round it where names are bound; one in parentheses is none
--   [a as T] = b; for (c! of d);   // a as T and c!
--   [(a as T)] = b;   // none: in parentheses stands a simple target
abbrev pub is_typed_name : Role → Node → Bool
is_typed_name r node = binds r && (is_type_wrapper (kind_of node) && is_name_under_types node)

-- children, each for its role, the first for the one at 0
abbrev pub each_at : (ℕ → Role) → List (Role → Node) → List Node
each_at role_of [] = []
each_at role_of (child ∷ children) = child (role_of 0) ∷ each_at (λ i. role_of (suc i)) children

-- the node with these children
abbrev pub with_children : Node → List Node → Node
with_children node children = node_of (out-Node node).span (kind_of node) children

abbrev pub bound_step : Node → List (Role → Node) → Role → Node
bound_step node children r = cond (is_typed_name r node) (binding (under_types node)) (with_children node (each_at (role_in r (kind_of node)) children))

abbrev pub bound_at : Node → Role → Node
bound_at = from_leaves (Role → Node) bound_step

-- the tree in which such a name is bound as finishing binds a name without types
--   [a as T] = b; for (c! of d);   // [a] = b; for (c of d);
abbrev pub with_bound_names : Node → Node
with_bound_names tree = bound_at tree role.Free
