use Rattle.std.proofs.Common.{◌≤◌, ◌+◌, ◌∙◌, ap, subst, sym}
use Rattle.ecma_bind.specs.Binding.{with_bound_names}
use Rattle.ecma_enclose.specs.Enclosing.{enclosed}
use Rattle.ecma_scope.specs.Resolved.{contexts}
use Rattle.ecma_text_sources.proofs.Sources.{tree_stays}
use Rattle.ts_to_js.proofs.Steps.{enough-bound, enough-two, left-bound}
use Rattle.ts_to_js.proofs.convert.make_ready.Goals as goal

pub elide_source-requires-clause-bare : goal.elide_source-requires-clause-bare
elide_source-requires-clause-bare c = tree_stays c.requires.source.bare

pub elide_source-requires-clause-enough : goal.elide_source-requires-clause-enough
elide_source-requires-clause-enough c = enough-two c.args.session.now.left c.args.tree.now c.requires.enough

pub resolve_names-requires : goal.resolve_names-requires
resolve_names-requires c =
    let bound = c.in_ok-bind_names.ensures {u = tt} ∙ ap with_bound_names (c.in_ok-enclose.ensures {u = tt} ∙ ap enclosed (c.in_ok-elide_source.ensures {u = tt})) in
    subst (λ n. contexts c.bind_names.new.tree + 2 ≤ n) (sym c.left.ensures.left)
    (enough-bound c.elided_sources_take_as_many_contexts.ensures c.args.config.now c.args.session.now.left c.args.tree.now c.bind_names.new.tree c.requires.source.fits bound c.requires.enough)

pub returns-clause-left : goal.returns-clause-left
returns-clause-left c =
    let bound = c.in_ok-bind_names.ensures {u = tt} ∙ ap with_bound_names (c.in_ok-enclose.ensures {u = tt} ∙ ap enclosed (c.in_ok-elide_source.ensures {u = tt})) in
    left-bound c.elided_sources_take_as_many_contexts.ensures c.args.config.now c.args.session.now.left c.args.tree.now c.bind_names.new.tree c.requires.source.fits bound c.in_ok-given.given.left
    (c.in_ok-given.ensures.left ∙ c.left.ensures.left)
