-- Expressions behind each `super(..)` of a tree, by where nodes stand.
use Rattle.std.specs.Prelude.{ℕ, suc, ◌+◌, ◌-◌, Bool, true, false, ◌||◌, List, [], ◌∷◌, ◌++◌, map, codes, if◌then◌else◌}
use Rattle.ecma_kind.specs.declared.kind.Kind.{Kind}
use Rattle.ecma_kind.specs.declared.kind.Kind.TheVariants as kind
use Rattle.ecma_kind.specs.declared.operators.AssignOp.TheVariants.{Assign}
use Rattle.ecma_kind.specs.declared.operators.VarDeclKind.TheVariants.{Var}
use Rattle.ecma_kind.specs.declared.span.Span.{Span}
use Rattle.ecma_tree.specs.Layers.{from_leaves}
use Rattle.ecma_tree.specs.Nodes.{absent, dummy_span, list_node, node_of}
use Rattle.ecma_tree.specs.declared.node.Node.{Node, out-Node}
use Rattle.ecma_utils.specs.Expressions.{assign_of, expr_stmt_of}
use Rattle.ecma_utils.specs.Quotes.{name_of}
use Rattle.ecma_function_parts.specs.Drawing.{context_if, count}
use Rattle.ecma_function.specs.declared.injecting.Written.{Written}
use Rattle.ecma_function.specs.declared.place.Place.{Place}
use Rattle.ecma_function.specs.declared.place.Place.TheVariants as place
use Rattle.ecma_function.specs.Calls.{is_super_call, is_super_stmt}
use Rattle.ecma_function.specs.declared.injecting.Role.{Role}
use Rattle.ecma_function.specs.declared.injecting.Role.TheVariants as role
use Rattle.ecma_function.specs.Places.{is_outside, place_in}

-- ---- what is written of one call

--   _temp
abbrev pub temp_of : ℕ → Node
temp_of ctxt = name_of ctxt dummy_span (codes "_temp")

--   var _temp;
abbrev pub var_of : ℕ → Node
var_of ctxt =
    node_of dummy_span (kind.VarDecl Var false) (list_node (node_of dummy_span (kind.VarDeclarator false)
    (node_of dummy_span kind.BindingIdent (temp_of ctxt ∷ absent ∷ []) ∷ absent ∷ []) ∷ []) ∷ [])

--   _temp = super(a), b, _temp
abbrev pub in_sequence : List Node → ℕ → Node → Node
in_sequence exprs ctxt call = node_of dummy_span kind.SeqExpr (assign_of Assign (temp_of ctxt) call ∷ exprs ++ temp_of ctxt ∷ [])

-- ---- what becomes of a node

-- what a node becomes, the contexts of the names that are to be declared before the statement around it, and whether a `super(..)` is in it
--   record Written = { nodes : List Node; temps : List ℕ; found : Bool }

abbrev pub nothing : Written
nothing = record { nodes = []; temps = []; found = false }

abbrev pub as_it_is : Node → Written
as_it_is n = record { nodes = n ∷ []; temps = []; found = false }

-- one behind the other
abbrev pub joined : Written → Written → Written
joined a b = record { nodes = a.nodes ++ b.nodes; temps = a.temps ++ b.temps; found = a.found || b.found }

-- a statement of a list: the names are declared before it
abbrev pub as_item : Node → List Node → List ℕ → Bool → Written
as_item n behind temps found = record { nodes = map var_of temps ++ n ∷ behind; temps = []; found = found }

abbrev pub as_named : Node → ℕ → List ℕ → Written
as_named n ctxt temps = record { nodes = n ∷ []; temps = ctxt ∷ temps; found = true }

abbrev pub as_other : Node → List ℕ → Bool → Written
as_other n temps found = record { nodes = n ∷ []; temps = temps; found = found }

-- what a node is there for: a call that is no statement of a list has a name for its value
abbrev pub role_of : Place → Node → Role
role_of place.Item n = if is_super_stmt n then role.SuperStmt else role.Stmt
role_of place.Inside n = if is_super_call n then role.Named else role.Other
role_of p n = if is_super_call n then role.Alone else role.Other

-- a node, over what its children became, by what it is there for
--   super(a);     // super(a); b;
--   c(super(a));  // var _temp; c((_temp = super(a), b, _temp));
abbrev pub written_as : List Node → Role → ℕ → Node → List ℕ → Bool → Written
written_as exprs role.SuperStmt ctxt n temps found = as_item n (map expr_stmt_of exprs) temps found
written_as exprs role.Stmt ctxt n temps found = as_item n [] temps found
written_as exprs role.Named ctxt n temps found = as_named (in_sequence exprs ctxt n) ctxt temps
written_as exprs role.Alone ctxt n temps found = as_other n temps true
written_as exprs role.Other ctxt n temps found = as_other n temps found

-- ---- in order

-- what was written, and how many contexts that took
pub record Outcome : Type 0 where
  pub written : Written
  pub draws : ℕ

-- what becomes of a node where it stands, in a session with so many marks left
abbrev pub Writing : Type 0
Writing = Place → ℕ → Outcome

abbrev pub behind : Outcome → Outcome → Outcome
behind a b = record { written = joined a.written b.written; draws = a.draws + b.draws }

-- the children of a node, of which the first is the one at i
abbrev pub in_order : Place → Kind → ℕ → List Writing → ℕ → Outcome
in_order p k i [] left = record { written = nothing; draws = 0 }
in_order p k i (w ∷ ws) left = let first = w (place_in p k i) left in behind first (in_order p k (suc i) ws (left - first.draws))

abbrev pub is_named : Role → Bool
is_named role.Named = true
is_named _ = false

-- a node over what its children became; a call draws its own context before those inside it
abbrev pub finished : List Node → Role → ℕ → Span → Kind → Outcome → Outcome
finished exprs r left span k inside = record {
  written = written_as exprs r (context_if (is_named r) left) (node_of span k inside.written.nodes) inside.written.temps inside.written.found;
  draws = count (is_named r) + inside.draws;
}

abbrev pub entered : List Node → Role → Place → Span → Kind → List Writing → ℕ → Outcome
entered exprs r p span k ws left = finished exprs r left span k (in_order p k 0 ws (left - count (is_named r)))

abbrev pub writing_step : List Node → Node → List Writing → Writing
writing_step exprs n ws p left =
    if is_outside p then record { written = as_it_is n; draws = 0 } else entered exprs (role_of p n) p (out-Node n).span (out-Node n).kind ws left

-- what a node becomes where it stands, in a session with so many marks left
abbrev pub writing : List Node → Node → Writing
writing exprs = from_leaves Writing (writing_step exprs)
