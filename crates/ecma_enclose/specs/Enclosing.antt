-- Parentheses round what would be read as something else once types and empty statements are gone: a text that comes to stand where a directive stands
-- and is none (ECMAScript, 11.2.1), and `async` that comes to stand before `of` (14.7.5).
use Rattle.std.specs.Prelude.{ℕ, suc, ◌+◌, Bool, true, false, not, ◌&&◌, ◌||◌, ◌==◌, cond, codes, drop, List, [], ◌∷◌}
use Rattle.ecma_kind.specs.Sorts.{is_type_wrapper}
use Rattle.ecma_kind.specs.declared.kind.Kind.{Kind}
use Rattle.ecma_kind.specs.declared.kind.Kind.TheVariants as kind
use Rattle.ecma_tree.specs.declared.node.Node.{Node, Node-F, fold-Node, out-Node}
use Rattle.ecma_tree.specs.Nodes.{node_of}
use Rattle.ecma_tree.specs.Layers.{from_leaves}
use Rattle.ecma_rules.specs.Children.{child_is, is_named, kind_of}
use Rattle.ecma_rules.specs.Statements.{is_text}
use Rattle.ecma_rules.specs.Targets.{first_is}
use Rattle.ecma_strip.specs.Staying.{is_empty_stmt, stays}
use Rattle.ecma_enclose.specs.declared.place.Place.{Place}
use Rattle.ecma_enclose.specs.declared.place.Place.TheVariants as place

-- ---- what stands under types

abbrev pub under_step : (Kind → Bool) → Node-F Bool → Bool
under_step is parts = is parts.kind || (is_type_wrapper parts.kind && first_is parts.children)

-- what an expression is without the types round it is a text
--   "a" as T;
abbrev pub is_text_under_types : Node → Bool
is_text_under_types = fold-Node Bool (under_step is_text)

-- it is the name `async`
abbrev pub is_async_under_types : Node → Bool
is_async_under_types = fold-Node Bool (under_step (is_named (codes "async")))

-- ---- directives

abbrev pub is_expression_statement : Kind → Bool
is_expression_statement kind.ExprStmt = true
is_expression_statement _ = false

-- a directive, where none but such stand before it
--   "use strict";
abbrev pub is_text_statement : Node → Bool
is_text_statement n = is_expression_statement (kind_of n) && child_is is_text n 0

-- a statement that is gone once the types are
abbrev pub goes : Node → Bool
goes n = not (stays n) || is_empty_stmt (kind_of n)

-- how many of the first of these nodes pass a test
abbrev pub front_length : (Node → Bool) → List Node → ℕ
front_length test [] = 0
front_length test (n ∷ ns) = cond (test n) (suc (front_length test ns)) 0

-- the place of the statement that then stands first behind the directives
--   "a"; type T = U; ; "b";   // "b" at 3
abbrev pub behind_directives : List Node → ℕ
behind_directives ns = front_length is_text_statement ns + front_length goes (drop (front_length is_text_statement ns) ns)

-- ---- where a node stands

-- this for the child that is meant, and nothing for the others
abbrev pub at_child : ℕ → ℕ → Place → Place
at_child wanted i p = cond (i == wanted) p place.Elsewhere

abbrev pub in_block : Place → ℕ → Place
in_block place.Body i = at_child 0 i place.Statements
in_block _ i = place.Elsewhere

abbrev pub in_list : Place → ℕ → ℕ → Place
in_list place.Statements first i = at_child first i place.Behind
in_list _ first i = place.Elsewhere

abbrev pub in_statement : Place → ℕ → Place
in_statement place.Behind i = at_child 0 i place.Text
in_statement _ i = place.Elsewhere

-- where the child at an index of a node of this kind stands; in a list of statements one stands first behind the directives
unfoldable pub place_in : Place → Kind → ℕ → ℕ → Place
place_in p (kind.Module shebang) first i = at_child 0 i place.Statements
place_in p (kind.Script shebang) first i = at_child 0 i place.Statements
place_in p (kind.Function is_generator is_async) first i = at_child 1 i place.Body
place_in p (kind.ArrowExpr is_async is_generator) first i = at_child 1 i place.Body
place_in p (kind.Constructor accessibility is_optional) first i = at_child 2 i place.Body
place_in p kind.GetterProp first i = at_child 2 i place.Body
place_in p kind.SetterProp first i = at_child 3 i place.Body
place_in p kind.BlockStmt first i = in_block p i
place_in p kind.List first i = in_list p first i
place_in p kind.ExprStmt first i = in_statement p i
place_in p (kind.ForOfStmt false) first i = at_child 0 i place.Left
place_in p _ first i = place.Elsewhere

-- what stands there would be read as a directive, or as the `async` of an arrow function
--   "use strict" as T; f();   // the text
--   for (async! of a);   // async!
abbrev pub is_enclosed : Place → Node → Bool
is_enclosed place.Text n = is_text_under_types n
is_enclosed place.Left n = is_type_wrapper (kind_of n) && is_async_under_types n
is_enclosed _ n = false

abbrev pub first_in : Place → Node → ℕ
first_in place.Statements n = behind_directives (out-Node n).children
first_in _ n = 0

-- ---- the tree

abbrev pub in_parentheses : Node → Node
in_parentheses n = node_of (out-Node n).span kind.ParenExpr (n ∷ [])

-- children, each in its place, the first in that at 0
abbrev pub each_at : (ℕ → Place) → List (Place → Node) → List Node
each_at place_of [] = []
each_at place_of (child ∷ children) = child (place_of 0) ∷ each_at (λ i. place_of (suc i)) children

abbrev pub enclosed_step : Node → List (Place → Node) → Place → Node
enclosed_step n children p =
    cond (is_enclosed p n) (in_parentheses n)
    (node_of (out-Node n).span (kind_of n) (each_at (place_in p (kind_of n) (first_in p n)) children))

abbrev pub enclosed_at : Node → Place → Node
enclosed_at = from_leaves (Place → Node) enclosed_step

-- the tree in which it stands in parentheses
--   type T = U; "a"; for (async! of b);   // type T = U; ("a"); for ((async!) of b);
abbrev pub enclosed : Node → Node
enclosed tree = enclosed_at tree place.Elsewhere
