-- Expressions that only read names and make what nobody else has.
use Rattle.std.specs.Prelude.{Bool, true, false, ◌&&◌, List, [], ◌∷◌}
use Rattle.ecma_kind.specs.declared.kind.Kind.{Kind}
use Rattle.ecma_kind.specs.declared.kind.Kind.TheVariants as kind
use Rattle.ecma_kind.specs.declared.operators.UnaryOp.{UnaryOp}
use Rattle.ecma_kind.specs.declared.operators.UnaryOp.TheVariants as operator
use Rattle.ecma_tree.specs.declared.node.Node.{Node, Node-F, fold-Node}

-- what is known of a node
pub record Making : Type 0 where
  -- it only reads and makes
  pub only : Bool
  -- it is a name, parentheses and types round it aside
  pub named : Bool

abbrev pub all_only : List Making → Bool
all_only [] = true
all_only (m ∷ ms) = m.only && all_only ms

-- `delete` changes what is there, and `typeof` looks at what is referred to
abbrev pub unary_only : UnaryOp → Making → Bool
unary_only operator.Delete m = false
unary_only operator.TypeOf m = m.named
unary_only op m = m.only

-- by its children; functions that are made are not called
abbrev pub only_by : Kind → List Making → Bool
only_by (kind.Ident sym ctxt optional) ms = true
only_by (kind.Str text raw) ms = true
only_by (kind.Number number raw) ms = true
only_by (kind.Bool truth) ms = true
only_by kind.Null ms = true
only_by kind.ThisExpr ms = true
only_by (kind.Regex pattern' flags) ms = true
only_by kind.FnExpr ms = true
only_by (kind.ArrowExpr is_async is_generator) ms = true
only_by kind.ArrayLit ms = all_only ms
only_by (kind.UnaryExpr op) (m ∷ []) = unary_only op m
only_by (kind.BinExpr op) ms = all_only ms
only_by kind.CondExpr ms = all_only ms
only_by kind.SeqExpr ms = all_only ms
only_by kind.Absent ms = true
only_by kind.List ms = all_only ms
only_by kind.ParenExpr (m ∷ ms) = m.only
only_by kind.TsAsExpr (m ∷ ms) = m.only
only_by kind.TsTypeAssertion (m ∷ ms) = m.only
only_by kind.TsConstAssertion (m ∷ ms) = m.only
only_by kind.TsNonNullExpr (m ∷ ms) = m.only
only_by kind.TsInstantiation (m ∷ ms) = m.only
only_by kind.TsSatisfiesExpr (m ∷ ms) = m.only
only_by k ms = false

abbrev pub named_by : Kind → List Making → Bool
named_by (kind.Ident sym ctxt optional) [] = true
named_by kind.ParenExpr (m ∷ []) = m.named
named_by kind.TsAsExpr (m ∷ type ∷ []) = m.named
named_by kind.TsTypeAssertion (m ∷ type ∷ []) = m.named
named_by kind.TsConstAssertion (m ∷ []) = m.named
named_by kind.TsNonNullExpr (m ∷ []) = m.named
named_by kind.TsInstantiation (m ∷ types ∷ []) = m.named
named_by kind.TsSatisfiesExpr (m ∷ type ∷ []) = m.named
named_by k ms = false

abbrev pub making_step : Node-F Making → Making
making_step parts = record { only = only_by parts.kind parts.children; named = named_by parts.kind parts.children }

abbrev pub making : Node → Making
making = fold-Node Making making_step

-- an expression of names, literals, functions, arrays and operators on these:  [x, [], function () {}, typeof y, a ? 1 : /b/]
abbrev pub only_makes : Node → Bool
only_makes n = (making n).only
