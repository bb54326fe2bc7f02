use Rattle.std.proofs.Common.{◌≡◌, Bool, refl, subst, sym}
use Rattle.std.specs.Result.{IfOk}
use Rattle.ecma_tree.specs.declared.node.Node.{Node}
use Rattle.ecma_function_wrappers.specs.Wrapping.{nameless}
use Rattle.ecma_function_wrappers.proofs.wrapper.nameless.Goals as goal

pub returns-then-is_wrapped : goal.returns-then-is_wrapped
returns-then-is_wrapped c =
    subst (λ (b : Bool). IfOk c.anonymous.result (λ (node : Node). node ≡ nameless c.args.function c.args.params c.args.binding b c.args.ctxt))
    (sym c.if-is_wrapped.true) c.anonymous.ensures

pub returns-else-is_wrapped : goal.returns-else-is_wrapped
returns-else-is_wrapped c =
    subst (λ (b : Bool). c.args.function ≡ nameless c.args.function c.args.params c.args.binding b c.args.ctxt) (sym c.if-is_wrapped.false) refl
