use Rattle.std.proofs.Common.{rules, ◌≡◌, ◌∙◌, ◌++◌, not, if◌then◌else◌, [], filter, sym}
use Rattle.std.proofs.lemmas.Fn.{filter_same}
use Rattle.ecma_tree.specs.declared.node.Node.{out-Node}
use Rattle.ecma_scope.specs.declared.form.Located.{Located}
use Rattle.ecma_scope.specs.declared.form.Part.TheVariants as part
use Rattle.ecma_scope.specs.Declarations.{holds_vars}
use Rattle.ecma_scope.specs.Located.{located}
use Rattle.ecma_scope.proofs.conflicts.passing.Goals as goal

pub returns : goal.returns
returns c =
    let kept : c.retain.new.self ≡ filter (λ (l : Located). l.declaration.stays) c.push_declarations.new.names = filter_same _ _ _ (λ x b f' k. search rules) _ _ c.retain.ensures in
    let pushed : c.push_declarations.new.names ≡ located c.args.node.now (record { part = part.Var; stays = not _ }) =
    c.in_ok-push_declarations.ensures {u = tt} ∙ (λ j. c.new-names.ensures j ++ located c.args.node.now (record { part = part.Var; stays = not (c.is_ambient-stays.ensures j) })) in
    let passes : holds_vars c.args.role (out-Node c.args.node.now).kind ≡ _ = sym c.holds_vars.ensures ∙ c.if-holds_vars.false in
    kept ∙ (λ j. if sym passes j then [] else filter (λ (l : Located). l.declaration.stays) (pushed j))
