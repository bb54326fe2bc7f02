use Rattle.std.proofs.Common.{◌∙◌, ◌&&◌, Bool, sym, ap, filter, not}
use Rattle.ecma_hygiene.specs.Frames.{scopes_of}
use Rattle.ecma_hygiene.specs.Ids.{Id, has_context, innermost}
use Rattle.ecma_hygiene.proofs.Arounds.{filter-all}
use Rattle.ecma_hygiene.proofs.scope.drop_parameters.Goals as goal

pub returns-then-body : goal.returns-then-body
returns-then-body c =
    c.drop_innermost.ensures ∙ ap (λ (b : Bool). filter (λ (id : Id). not (b && has_context id.1 (innermost (scopes_of c.args.frames.now) id.0))) c.args.ids.now) (sym c.if-body.true)

pub returns-else-body : goal.returns-else-body
returns-else-body c =
    sym (ap (λ (b : Bool). filter (λ (id : Id). not (b && has_context id.1 (innermost (scopes_of c.args.frames.now) id.0))) c.args.ids.now) c.if-body.false ∙ filter-all c.args.ids.now)
