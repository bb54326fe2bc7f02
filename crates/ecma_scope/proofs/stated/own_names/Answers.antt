use Rattle.std.proofs.Common.{rules, ◌≡◌, ◌∙◌, ◌++◌, filter, ap, not}
use Rattle.std.proofs.lemmas.Fn.{filter_same}
use Rattle.ecma_scope.specs.Scopes.{is_ambient}
use Rattle.ecma_scope.specs.declared.form.Located.{Located}
use Rattle.ecma_scope.specs.Declarations.{is_own, own_part}
use Rattle.ecma_scope.specs.Located.{located, located_vars}
use Rattle.ecma_scope.specs.Indexed.{states_of}
use Rattle.ecma_scope.proofs.stated.own_names.Goals as goal

pub returns : goal.returns
returns c =
    let kept : c.retain.new.self ≡ filter (λ (l : Located). is_own c.args.role (states_of c.args.around.now) l.declaration) c.push_vars.new.own =
    filter_same _ _ _ (λ x b f' k. search rules) _ _ c.retain.ensures in
    let own : c.push_declarations.new.names ≡ located c.args.node.now (record { part = own_part c.args.role; stays = not (is_ambient c.args.role) }) =
    c.in_ok-push_declarations.ensures {u = tt}
    ∙ (λ j. c.new-own.ensures j ++ located c.args.node.now (record { part = c.own_part-part.ensures j; stays = not (c.is_ambient-stays.ensures j) })) in
    kept ∙ ap (filter (λ (l : Located). is_own c.args.role (states_of c.args.around.now) l.declaration))
    (c.in_ok-push_vars.ensures {u = tt} ∙ (λ j. own j ++ located_vars c.args.role (not (c.is_ambient-stays.ensures j)) c.args.node.now))
