-- Chains: what was read is the first part, and then parts that each hold what stands before them as their first child.
use Rattle.std.specs.Prelude.{Bool, true, false, not, ◌&&◌, List, [], ◌∷◌, filter, slice_set, Option, Some, None, unwrap_or, length, ◌==◌, if◌then◌else◌}
use Rattle.ecma_kind.specs.declared.span.Span.{Span}
use Rattle.ecma_kind.specs.declared.operators.BinaryOp.TheVariants.{LogicalAnd, LogicalOr}
use Rattle.ecma_kind.specs.declared.operators.MetaPropKind.TheVariants.{NewTarget}
use Rattle.ecma_kind.specs.declared.kind.Kind.{Kind}
use Rattle.ecma_kind.specs.declared.kind.Kind.TheVariants as kind
use Rattle.ecma_tree.specs.declared.node.Node.{Node, Node-F, fold-Node}
use Rattle.ecma_tree.specs.Nodes.{node_of, absent, list_node}
use Rattle.ecma_grammar.specs.trees.Parts.{kind_of, span_of, children_of, from_to, in_front, frame, framed}

-- one part after the other
abbrev pub step_on : (Node → Node → Node) → Option Node → Node → Option Node
step_on step None n = Some n
step_on step (Some x) n = Some (step x n)

abbrev pub steps : (Node → Node → Node) → Option Node → List Node → Option Node
steps step before [] = before
steps step before (n ∷ ns) = steps step (step_on step before n) ns

abbrev pub all_steps : (Node → Node → Node) → List Node → Node
all_steps step xs = unwrap_or (steps step None xs) absent

abbrev pub chained : List Node → Node
chained xs = all_steps in_front xs

-- `&&` holds more tightly than `||`: it takes the right side of an `||` that stands before it

abbrev pub is_and : Kind → Bool
is_and (kind.BinExpr LogicalAnd) = true
is_and k = false

abbrev pub is_or : Kind → Bool
is_or (kind.BinExpr LogicalOr) = true
is_or k = false

-- a binary expression whose right side goes on
abbrev pub right_in_front : Span → Kind → Node → List Node → Node
right_in_front span k n (left ∷ right ∷ []) = node_of span k (left ∷ in_front right n ∷ [])
right_in_front span k n children = absent

abbrev pub in_front_logical : Node → Node → Node
in_front_logical x n =
    if is_and (kind_of n) && is_or (kind_of x)
    then framed 2 (right_in_front (from_to (span_of x).lo (span_of n).hi) (kind_of x) n) (children_of x)
    else in_front x n

abbrev pub logical : List Node → Node
logical xs = all_steps in_front_logical xs

-- members, calls and templates

-- whether an optional chain goes on after a node: it is a link of one, or type arguments or `!` after such
abbrev pub first_true : List Bool → Bool
first_true [] = false
first_true (c ∷ cs) = c

abbrev pub goes_on_by : Kind → List Bool → Bool
goes_on_by (kind.OptChainExpr optional) children = true
goes_on_by kind.TsNonNullExpr children = first_true children
goes_on_by kind.TsInstantiation children = first_true children
goes_on_by k children = false

abbrev pub goes_on_step : Node-F Bool → Bool
goes_on_step parts = goes_on_by parts.kind parts.children

abbrev pub goes_on : Node → Bool
goes_on n = fold-Node Bool goes_on_step n

-- a link of an optional chain, without a `?.` of its own
abbrev pub linked : Node → Node
linked n = node_of (span_of n) (kind.OptChainExpr false) (n ∷ [])

-- what is called, with its type arguments
abbrev pub Callee : Type 0
Callee = Node × Node

abbrev pub instantiated : Option (List Node) → Callee
instantiated (Some (callee ∷ type_args ∷ [])) = (callee, type_args)
instantiated children = (absent, absent)

abbrev pub callee_by : Node → Kind → Callee
callee_by x kind.TsInstantiation = instantiated (frame 2 (children_of x))
callee_by x k = (x, absent)

abbrev pub callee_of : Node → Callee
callee_of x = callee_by x (kind_of x)

abbrev pub member_of : Node → Node → Kind → Node
member_of x n kind.Super = node_of (from_to (span_of x).lo (span_of n).hi) kind.SuperPropExpr (slice_set (children_of n) 0 x)
member_of x n k = if goes_on x then linked (in_front x n) else in_front x n

abbrev pub call_of : Span → Callee → List Node → Node
call_of span (callee, type_args) (none ∷ args ∷ no_types ∷ []) =
    if goes_on callee then linked (node_of span kind.OptCall (callee ∷ args ∷ type_args ∷ [])) else node_of span kind.CallExpr (callee ∷ args ∷ type_args ∷ [])
call_of span callee children = absent

abbrev pub tagged_of : Span → Callee → List Node → Node
tagged_of span (tag, type_args) (none ∷ no_types ∷ template ∷ []) = node_of span kind.TaggedTpl (tag ∷ type_args ∷ template ∷ [])
tagged_of span callee children = absent

abbrev pub optional_of : Span → Node → List Node → Node
optional_of span x (base ∷ []) = node_of span (kind.OptChainExpr true) (in_front x base ∷ [])
optional_of span x children = absent

abbrev pub link_by : Node → Node → Kind → Node
link_by x n kind.MemberExpr = member_of x n (kind_of x)
link_by x n kind.CallExpr = framed 3 (call_of (from_to (span_of x).lo (span_of n).hi) (callee_of x)) (children_of n)
link_by x n kind.TaggedTpl = framed 3 (tagged_of (from_to (span_of x).lo (span_of n).hi) (callee_of x)) (children_of n)
link_by x n (kind.OptChainExpr optional) = framed 1 (optional_of (from_to (span_of x).lo (span_of n).hi) x) (children_of n)
link_by x n k = in_front x n

abbrev pub in_front_link : Node → Node → Node
in_front_link x n = link_by x n (kind_of n)

abbrev pub links : List Node → Node
links xs = all_steps in_front_link xs

-- callee, type arguments, arguments; or nothing, for `new.target`
abbrev pub new_expr : Span → List Node → Node
new_expr span (callee ∷ type_args ∷ args ∷ []) = node_of span kind.NewExpr (callee ∷ args ∷ type_args ∷ [])
new_expr span xs = absent

abbrev pub construction : Span → List Node → Node
construction span xs = if length xs == 0 then node_of span (kind.MetaPropExpr NewTarget) [] else framed 3 (new_expr span) xs

-- a template of its text parts and what stands between them

abbrev pub is_text_kind : Kind → Bool
is_text_kind (kind.TplElement raw cooked tail) = true
is_text_kind k = false

abbrev pub is_text_part : Node → Bool
is_text_part n = is_text_kind (kind_of n)

abbrev pub is_substitution : Node → Bool
is_substitution n = not (is_text_part n)

abbrev pub template : Span → List Node → Node
template span xs = node_of span kind.Tpl (list_node (filter is_substitution xs) ∷ list_node (filter is_text_part xs) ∷ [])
