-- Nodes of which it is clear what they declare without their types.
use Rattle.std.specs.Prelude.{ℕ, suc, Bool, true, false, ◌&&◌, ◌||◌, not, cond, List, [], ◌∷◌, map, Option, Some, None, bytes_eq, codes, slice_get}
use Rattle.ecma_kind.specs.Sorts.{is_type_wrapper}
use Rattle.ecma_kind.specs.declared.kind.Kind.{Kind}
use Rattle.ecma_kind.specs.declared.kind.Kind.TheVariants as kind
use Rattle.ecma_tree.specs.Sorted.{is_list}
use Rattle.ecma_tree.specs.declared.node.Node.{Node, out-Node}
use Rattle.ecma_scope.specs.declared.form.Sought.{Sought}
use Rattle.ecma_scope.specs.Declarations.{sought_in}
use Rattle.ecma_strip.specs.Plain.{unless_missing}
use Rattle.ecma_strip.specs.Staying.{is_this_ident, is_this_param, item_stays, stays}
use Rattle.ecma_strip.specs.Stripping.{stripped}
use Rattle.ecma_hygiene_scopes.specs.DeclaredIds.{DeclaredId, ids_declared}
use Rattle.ecma_tree.specs.Values.{is_value}
use Rattle.ecma_tree.specs.Layers.{from_leaves}

abbrev pub is_none : List DeclaredId → Bool
is_none [] = true
is_none (id ∷ ids) = false

abbrev pub same : Bool → Bool → Bool
same true b = b
same false b = not b

-- a kind that is a value, or not, by what is in it
abbrev pub has_value : Kind → Bool
has_value (kind.FnDecl declare) = true
has_value kind.FnExpr = true
has_value (kind.TsModuleDecl declare global) = true
has_value (kind.TsNamespaceDecl declare global) = true
has_value _ = false

-- the bodies of a statement stay, of its children without types
abbrev pub bodies_stay : Kind → List Node → Bool
bodies_stay kind.IfStmt children = unless_missing (slice_get children 1) item_stays && unless_missing (slice_get children 2) item_stays
bodies_stay kind.LabeledStmt children = unless_missing (slice_get children 1) item_stays
bodies_stay kind.WhileStmt children = unless_missing (slice_get children 1) item_stays
bodies_stay kind.DoWhileStmt children = unless_missing (slice_get children 1) item_stays
bodies_stay kind.ForStmt children = unless_missing (slice_get children 3) item_stays
bodies_stay kind.ForInStmt children = unless_missing (slice_get children 2) item_stays
bodies_stay (kind.ForOfStmt is_await) children = unless_missing (slice_get children 2) item_stays
bodies_stay k children = true

-- an id that is declared as a value that stays; with `receivers` none `this`, which is a parameter that is there for its type alone
abbrev pub lasts : Bool → DeclaredId → Bool
lasts receivers d = not (receivers && bytes_eq d.id.0 (codes "this")) && d.stays

-- a node in which something is looked for: with `receivers` no name `this`; an expression with a type round it declares nothing without it, what is a value is
-- one without its types, and the bodies of a statement stay
abbrev pub clear_here : Bool → Node → Sought → Bool
clear_here receivers node sought =
    not (receivers && is_this_ident (out-Node node).kind)
    && cond (is_type_wrapper (out-Node node).kind) (is_none (ids_declared (stripped node) sought))
    ((not (has_value (out-Node node).kind) || same (is_value (stripped node)) (is_value node)) && bodies_stay (out-Node node).kind (map stripped (out-Node node).children))

abbrev pub clear_at : Option Sought → (Sought → Bool) → Bool
clear_at (Some sought) child = sought.stays && child sought
clear_at None child = true

-- the children, of which the first is the one at i: what goes from a list is without `receivers` no parameter `this`, and in what stays only values that stay are
-- looked for
abbrev pub clear_in : Bool → Bool → (ℕ → Option Sought) → ℕ → List Node → List (Sought → Bool) → Bool
clear_in receivers list into i (node ∷ nodes) (child ∷ children) =
    cond (list && not (stays node)) (receivers || not (is_this_param node)) (clear_at (into i) child)
    && clear_in receivers list into (suc i) nodes children
clear_in receivers list into i _ _ = true

abbrev pub clear_step : Bool → Node → List (Sought → Bool) → Sought → Bool
clear_step receivers node children sought =
    clear_here receivers node sought && clear_in receivers (is_list (out-Node node).kind) (sought_in sought node) 0 (out-Node node).children children

-- so it is all the way down, where something is looked for
abbrev pub is_clear : Bool → Node → Sought → Bool
is_clear receivers = from_leaves (Sought → Bool) (clear_step receivers)
