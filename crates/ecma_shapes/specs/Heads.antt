-- Where `in` would end the first part of the head of a loop (ECMAScript, 14.7.4, 14.7.5).
use Rattle.std.specs.Prelude.{Bool, true, false, List, [], ◌∷◌}
use Rattle.std.specs.List.{list_any}
use Rattle.ecma_kind.specs.declared.operators.BinaryOp.TheVariants as op
use Rattle.ecma_kind.specs.declared.kind.Kind.{Kind}
use Rattle.ecma_kind.specs.declared.kind.Kind.TheVariants as kind
use Rattle.ecma_tree.specs.declared.node.Node.{Node, Node-F, fold-Node}

abbrev pub any_of : List Bool → Bool
any_of bs = list_any (λ b. b) bs

abbrev pub first_of : List Bool → Bool
first_of [] = false
first_of (b ∷ bs) = b

-- by what is said of the parts
abbrev pub may_hold_by : Kind → List Bool → Bool
may_hold_by (kind.BinExpr op.In) bs = true
may_hold_by (kind.BinExpr o) bs = any_of bs
may_hold_by (kind.UnaryExpr o) bs = any_of bs
may_hold_by (kind.UpdateExpr o prefix) bs = any_of bs
may_hold_by kind.AwaitExpr bs = any_of bs
may_hold_by (kind.AssignExpr o) bs = any_of bs
may_hold_by kind.CondExpr bs = any_of bs
may_hold_by kind.MemberExpr bs = first_of bs
may_hold_by kind.CallExpr bs = first_of bs
may_hold_by kind.NewExpr bs = first_of bs
may_hold_by (kind.OptChainExpr optional) bs = first_of bs
may_hold_by kind.OptCall bs = first_of bs
may_hold_by kind.TaggedTpl bs = first_of bs
may_hold_by kind.SeqExpr bs = any_of bs
may_hold_by (kind.YieldExpr delegate) bs = any_of bs
may_hold_by (kind.ArrowExpr is_async is_generator) bs = any_of bs
may_hold_by (kind.VarDecl k declare) bs = true
may_hold_by (kind.VarDeclarator definite) bs = any_of bs
may_hold_by k bs = false

abbrev pub may_hold_step : Node-F Bool → Bool
may_hold_step parts = may_hold_by parts.kind parts.children

-- whether an `in` may stand in an expression, or in the value of a declarator, as an operator outside of parentheses and brackets
abbrev pub may_hold_in : Node → Bool
may_hold_in = fold-Node Bool may_hold_step
