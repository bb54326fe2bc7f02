-- Which nodes may hold what has parameters around it.
use Rattle.std.specs.Prelude.{Bool, true, false}
use Rattle.ecma_kind.specs.declared.kind.Kind.{Kind}
use Rattle.ecma_kind.specs.declared.kind.Kind.TheVariants as kind

-- whether the body of a function, or the block of a `catch`, may be a child of a node of this kind
abbrev pub may_hold_body : Kind → Bool
may_hold_body (kind.Function is_generator is_async) = true
may_hold_body (kind.ArrowExpr is_async is_generator) = true
may_hold_body (kind.Constructor accessibility is_optional) = true
may_hold_body kind.GetterProp = true
may_hold_body kind.SetterProp = true
may_hold_body kind.CatchClause = true
may_hold_body _ = false
