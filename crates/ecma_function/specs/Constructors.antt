-- Constructors with expressions behind `super(..)`.
use Rattle.std.specs.Prelude.{ℕ, List, [], ◌∷◌, map, if◌then◌else◌}
use Rattle.std.specs.List.{insert_slice}
use Rattle.ecma_kind.specs.declared.kind.Kind.{Kind}
use Rattle.ecma_kind.specs.declared.kind.Kind.TheVariants as kind
use Rattle.ecma_tree.specs.Nodes.{node_of}
use Rattle.ecma_tree.specs.Sorted.{is_absent}
use Rattle.ecma_tree.specs.declared.node.Node.{Node, out-Node}
use Rattle.ecma_utils.specs.Directives.{front_length, is_text_stmt}
use Rattle.ecma_utils.specs.Expressions.{block_of, expr_stmt_of}
use Rattle.ecma_function_parts.specs.Written.{first_or_absent}
use Rattle.ecma_function.specs.declared.place.Place.TheVariants as place
use Rattle.ecma_function.specs.Injecting.{Outcome, writing}

-- ---- a body without `super(..)`

-- statements behind those at the beginning that are a text literal
abbrev pub behind_texts : List Node → List Node → List Node
behind_texts more stmts = insert_slice stmts (front_length is_text_stmt stmts) more

abbrev pub list_behind_texts : List Node → Node → Node
list_behind_texts more list = node_of (out-Node list).span (out-Node list).kind (behind_texts more (out-Node list).children)

abbrev pub block_children : List Node → List Node → List Node
block_children more [] = []
block_children more (list ∷ others) = list_behind_texts more list ∷ others

abbrev pub block_behind_texts : List Node → Node → Node
block_behind_texts more block = node_of (out-Node block).span (out-Node block).kind (block_children more (out-Node block).children)

-- ---- a body

abbrev pub body_by : List Node → Outcome → Node
body_by exprs o =
    let body = first_or_absent o.written.nodes in
    if o.written.found then body else block_behind_texts (map expr_stmt_of exprs) body

-- what the body becomes
abbrev pub outcome_of : List Node → Node → ℕ → Outcome
outcome_of exprs body left = writing exprs body place.Inside left

abbrev pub with_exprs : List Node → Node → ℕ → Node
with_exprs [] body left = body
with_exprs exprs body left = body_by exprs (outcome_of exprs body left)

abbrev pub draws_in : List Node → Node → ℕ → ℕ
draws_in [] body left = 0
draws_in exprs body left = (outcome_of exprs body left).draws

-- ---- a constructor

-- a missing body is made
abbrev pub made_body : Node → Node
made_body body = if is_absent (out-Node body).kind then block_of [] else body

abbrev children_by : List Node → ℕ → List Node → List Node
children_by exprs left (key ∷ params ∷ body ∷ []) = key ∷ params ∷ with_exprs exprs (made_body body) left ∷ []
children_by exprs left children = children

abbrev draws_by : List Node → ℕ → List Node → ℕ
draws_by exprs left (key ∷ params ∷ body ∷ []) = draws_in exprs (made_body body) left
draws_by exprs left children = 0

-- the expressions stand behind each `super(..)` of the body, or where it has none before its first statement that is no text literal
abbrev pub after_super : List Node → ℕ → Node → Node
after_super exprs left n = node_of (out-Node n).span (out-Node n).kind (children_by exprs left (out-Node n).children)

-- how many contexts that takes
abbrev pub after_super_draws : List Node → ℕ → Node → ℕ
after_super_draws exprs left n = draws_by exprs left (out-Node n).children
