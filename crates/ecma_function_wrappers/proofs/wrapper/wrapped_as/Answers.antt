use Rattle.std.proofs.Common.{◌≡◌, Option, subst, sym}
use Rattle.std.specs.Result.{IfOk}
use Rattle.ecma_kind.specs.declared.ident.Ident.{Ident}
use Rattle.ecma_tree.specs.declared.node.Node.{Node}
use Rattle.ecma_function_wrappers.specs.Wrapping.{wrapped_as}
use Rattle.ecma_function_wrappers.proofs.wrapper.wrapped_as.Goals as goal

pub returns-in-Some : goal.returns-in-Some
returns-in-Some c =
    subst (λ (name : Option Ident). IfOk c.with_own_name.result
    (λ (node : Node). node ≡ wrapped_as c.args.function c.args.params name c.args.binding c.args.is_wrapped c.args.ctxt)) (sym c.in-Some.is) c.with_own_name.ensures

pub returns-in-None : goal.returns-in-None
returns-in-None c =
    subst (λ (name : Option Ident). IfOk c.nameless.result
    (λ (node : Node). node ≡ wrapped_as c.args.function c.args.params name c.args.binding c.args.is_wrapped c.args.ctxt)) (sym c.in-None.is) c.nameless.ensures
