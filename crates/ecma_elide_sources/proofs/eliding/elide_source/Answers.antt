use Rattle.std.proofs.Common.{◌∙◌, ◌-◌, sym}
use Rattle.ecma_elide_sources.proofs.Keeping.{kept_source}
use Rattle.ecma_elide_sources.proofs.eliding.elide_source.Goals as goal

pub returns-then-is_kept : goal.returns-then-is_kept
returns-then-is_kept c =
    let left = c.args.session.now.left in
    sym (kept_source c.args.config.now left (left - 1) (left - 2) c.args.tree.now c.requires.bare (sym c.is_kept.ensures ∙ c.if-is_kept.true))
