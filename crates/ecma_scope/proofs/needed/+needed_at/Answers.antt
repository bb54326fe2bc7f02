use Rattle.std.proofs.Common.{◌≡◌, ◌∙◌, ◌+◌, ℕ, length, ap, sym, arith}
use Rattle.ecma_tree.specs.declared.node.Node.{out-Node}
use Rattle.ecma_tree.proofs.Weights.{weight-child}
use Rattle.ecma_scope.specs.declared.role.Role.{Role}
use Rattle.ecma_scope.specs.Scopes.{role_in}
use Rattle.ecma_scope.specs.Needs.{capped, needed_at}
use Rattle.ecma_scope.proofs.Needing.{capped-more, needed_at-out, needed_from, needed_from-all, needed_from-next}
use Rattle.ecma_scope.proofs.needed.+needed_at.Goals as goal

pub loop-i-init : goal.loop-i-init
loop-i-init t c = record {
  so_far = ap capped (ap (λ (k : ℕ). k + needed_from c.args.role c.args.node.now 0) c.needed_here-total.ensures ∙ sym (needed_at-out c.args.node.now c.args.role));
  fits = omega arith;
}

pub needed_at-below-requires : goal.needed_at-below-requires
needed_at-below-requires t c =
    let smaller = weight-child c.args.node.now c.at.result.now c.loop-i.i c.at.ensures in
    (omega arith, tt)

pub loop-i-preserved : goal.loop-i-preserved
loop-i-preserved t c =
    let more : c.saturating_add-total.result ≡ capped (c.loop-i.total + capped (needed_at c.at.result.now (role_in c.args.role c.args.node.now c.loop-i.i))) =
    c.saturating_add-total.ensures
    ∙ ap (λ (k : ℕ). capped (c.loop-i.total + k)) (c.needed_at-below.ensures ∙ ap (λ (r : Role). capped (needed_at c.at.result.now r)) c.role_in.ensures) in
    record {
      so_far = ap (λ (k : ℕ). capped (k + needed_from c.args.role c.args.node.now (c.loop-i.i + 1))) more
          ∙ capped-more c.loop-i.total (needed_at c.at.result.now (role_in c.args.role c.args.node.now c.loop-i.i)) (needed_from c.args.role c.args.node.now (c.loop-i.i + 1))
          (needed_from c.args.role c.args.node.now c.loop-i.i) (capped (needed_at c.args.node.now c.args.role)) c.loop-i.invariant.so_far
          (needed_from-next c.args.role c.args.node.now c.loop-i.i c.at.result.now c.at.ensures);
      fits = omega arith;
    }

pub returns : goal.returns
returns t c =
    let all : length (out-Node c.args.node.now).children ≡ c.loop-i.i = omega arith in
    let none = needed_from-all c.args.role c.args.node.now c.loop-i.i all in
    let so_far = c.loop-i.invariant.so_far in
    let fits = c.loop-i.invariant.fits in
    omega arith
