use Rattle.std.proofs.Common.{◌≡◌, ◌∙◌, List, ℕ, Bool, Option, subst, ap}
use Rattle.std.specs.Option.{option_map}
use Rattle.ecma_scope.specs.declared.clash.Clash.{Clash}
use Rattle.ecma_scope.specs.declared.role.Role.TheVariants as role
use Rattle.ecma_scope.specs.Indexed.{states_of}
use Rattle.ecma_scope.specs.Conflicts.{nothing}
use Rattle.ecma_scope.specs.Clashes.{Answers, clashes_at, first_clash, name_of}
use Rattle.ecma_scope.proofs.conflicts.check_scopes.Goals as goal

pub returns : goal.returns
returns c =
    let same : states_of c.empty_index-none.result ≡ nothing = (λ j text. c.empty_index-none.ensures text j) in
    let found : c.in_ok-first.first ≡ first_clash (clashes_at c.args.tree.now (record { role = role.Root; around = nothing })) =
    c.in_ok-first.ensures {u = tt} ∙ ap (λ (f : List ℕ → Option Bool). first_clash (clashes_at c.args.tree.now (record { role = role.Root; around = f }))) same in
    subst (λ (f : Option Clash). Answers c.answer.result (option_map name_of f)) found c.answer.ensures
