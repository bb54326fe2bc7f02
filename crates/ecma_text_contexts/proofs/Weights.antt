-- How many nodes of a tree are of a kind that may need a context.
use Rattle.std.proofs.Common.{◌≡◌, ◌∙◌, ◌≤◌, ℕ, ◌+◌, Bool, true, false, cond, List, [], ◌∷◌, length, sym, ap, arith}
use Rattle.std.specs.Prelude.{slice_set, if◌then◌else◌}
use Rattle.std.specs.List.{sum, sum_by}
use Rattle.std.proofs.lemmas.List.Sums.{sum-map, sum_by-cons}
use Rattle.ecma_kind.specs.declared.span.Span.{Span}
use Rattle.ecma_kind.specs.declared.kind.Kind.{Kind}
use Rattle.ecma_kind.specs.declared.kind.Kind.TheVariants as kind
use Rattle.ecma_tree.specs.declared.node.Node.{Node, Node-F, fold-Node, fold-roll-Node, out-Node, roll-Node}
use Rattle.ecma_tree.specs.declared.node.Node.TheViews.{roll-out-Node}
use Rattle.ecma_tree.specs.Nodes.{absent, dummy_span, list_node, node_of}
use Rattle.ecma_grammar.specs.trees.Parts.{children_of, kind_of}

-- those that may open a scope, classes and their fields
abbrev pub counts : Kind → Bool
counts (kind.Module shebang) = true
counts (kind.Script shebang) = true
counts kind.TsModuleBlock = true
counts (kind.TsNamespaceDecl declare global) = true
counts (kind.Function is_generator is_async) = true
counts (kind.ArrowExpr is_async is_generator) = true
counts (kind.Constructor accessibility is_optional) = true
counts kind.GetterProp = true
counts kind.SetterProp = true
counts kind.FnExpr = true
counts kind.ClassExpr = true
counts (kind.ClassDecl declare) = true
counts (kind.Class is_abstract) = true
counts (kind.ClassProp modifiers readonly declare definite) = true
counts (kind.TsEnumDecl declare is_const) = true
counts kind.BlockStmt = true
counts kind.SwitchStmt = true
counts kind.ForStmt = true
counts kind.ForInStmt = true
counts (kind.ForOfStmt is_await) = true
counts kind.CatchClause = true
counts _ = false

abbrev pub here : Kind → ℕ
here k = cond (counts k) 1 0

abbrev weight_step : Node-F ℕ → ℕ
weight_step parts = here parts.kind + sum parts.children

pub weight : Node → ℕ
weight = fold-Node ℕ weight_step

abbrev pub weights : List Node → ℕ
weights = sum_by weight

-- each node weighs one more where it is kept by itself
abbrev pub worth : List Node → ℕ
worth xs = weights xs + length xs

pub weight_rolled : (x : Node-F Node) → weight (roll-Node x) ≡ here x.kind + weights x.children
unfolding weight
weight_rolled x = fold-roll-Node ℕ weight_step x ∙ ap (λ (n : ℕ). here x.kind + n) (sum-map weight x.children)

pub weight_made : (at : Span) (k : Kind) (children : List Node) → weight (node_of at k children) ≡ here k + weights children
weight_made at k children = weight_rolled (record { span = at; kind = k; children = children })

pub weight_parts : (n : Node) → weight n ≡ here (kind_of n) + weights (children_of n)
weight_parts n = ap weight (sym (roll-out-Node n)) ∙ weight_rolled (out-Node n)

pub here_at_most_one : (k : Kind) → here k ≤ 1
here_at_most_one k = go (counts k)
  where
    go : (b : Bool) → cond b 1 0 ≤ 1
    go true = omega arith
    go false = omega arith

pub missing_weighs_nothing : weight absent ≡ 0
missing_weighs_nothing = weight_made dummy_span kind.Absent []

pub missing_weighs_little : (most : ℕ) → weight absent ≤ most
missing_weighs_little most = let e = missing_weighs_nothing in omega arith

pub list_weight : (xs : List Node) → weight (list_node xs) ≡ weights xs
list_weight xs = let a = weight_made dummy_span kind.List xs in omega arith

-- one of two nodes, or of two lists
pub either_weighs : (b : Bool) (x y : Node) (most : ℕ) → weight x ≤ most → weight y ≤ most → weight (if b then x else y) ≤ most
either_weighs true x y most g h = g
either_weighs false x y most g h = h

pub either_weigh : (b : Bool) (xs ys : List Node) (most : ℕ) → weights xs ≤ most → weights ys ≤ most → weights (if b then xs else ys) ≤ most
either_weigh true xs ys most g h = g
either_weigh false xs ys most g h = h

pub first_set : (x : Node) (xs : List Node) → weights (slice_set xs 0 x) ≤ weight x + weights xs
first_set x [] = omega arith
first_set x (y ∷ ys) =
    let a = sum_by-cons weight x ys in
    let b = sum_by-cons weight y ys in
    omega arith
