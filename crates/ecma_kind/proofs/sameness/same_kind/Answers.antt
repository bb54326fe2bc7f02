use Rattle.std.proofs.Common.{sym, ap, ◌∙◌}
use Rattle.ecma_kind.specs.contracts.kind.KindEq.TheImpl.Laws as laws
use Rattle.ecma_kind.specs.contracts.kind.KindPartialEq.TheImpl as kind_eq
use Rattle.ecma_kind.proofs.Equality.{kind_exact}
use Rattle.ecma_kind.proofs.sameness.same_kind.Goals as goal

pub returns : goal.returns
returns c = (
  λ h. kind_exact c.args.kind.now c.args.other.now (sym c.eq.ensures ∙ h),
  λ e. c.eq.ensures ∙ ap (λ z. kind_eq.ghosts.eq z c.args.other.now) e ∙ laws.laws-law.refl c.args.other.now,
)
