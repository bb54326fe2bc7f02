use Rattle.std.proofs.Common.{rules, ◌≡◌, ◌∙◌, ◌+◌, ◌-◌, filter, length, ap, sym, not, arith}
use Rattle.std.proofs.lemmas.Fn.{filter_same}
use Rattle.ecma_hygiene.specs.Frames.{contexts_in}
use Rattle.ecma_hygiene.specs.Ids.{Id, Scope, has_context}
use Rattle.ecma_hygiene.proofs.Arounds.{apart-none, innermost-at, innermost-none}
use Rattle.ecma_hygiene.proofs.scope.drop_innermost.Goals as goal

pub returns-then-count-gt0 : goal.returns-then-count-gt0
returns-then-count-gt0 c =
    let kept : c.retain.new.self ≡ filter (λ (id : Id). not (has_context id.1 (contexts_in c.at-parameters.result.now id.0))) c.args.ids.now = filter_same _ _ _ (λ x b f' k. search rules) _ _ c.retain.ensures in
    let last : length c.args.frames.now ≡ (c.len-count.result - 1) + 1 = omega arith in
    kept ∙ ap (λ (s : Scope). filter (λ (id : Id). not (has_context id.1 (s id.0))) c.args.ids.now) (sym (innermost-at c.args.frames.now (c.len-count.result - 1) c.at-parameters.result.now c.at-parameters.ensures last))

pub returns-else-count-gt0 : goal.returns-else-count-gt0
returns-else-count-gt0 c =
    let none : length c.args.frames.now ≡ 0 = omega arith in
    sym (ap (λ (s : Scope). filter (λ (id : Id). not (has_context id.1 (s id.0))) c.args.ids.now) (innermost-none c.args.frames.now none) ∙ apart-none c.args.ids.now)
