use Rattle.std.proofs.Common.{◌≡◌, ◌≤◌, length}
use Rattle.ecma_scope.specs.Resolved.{context_in}
use Rattle.ecma_scope.specs.Frames.{scopes_of}
use Rattle.ecma_scope.proofs.Framing.{context_before}
use Rattle.ecma_scope.proofs.frame.context_in.Given as goal

-- the scopes that are left decide
abbrev pub invariant-loop-i : goal.invariant-loop-i
invariant-loop-i l = record {
  within : l.i ≤ length l.frames;
  same : context_in l.unresolved (scopes_of l.frames) l.sym l.unresolved ≡ context_before l.unresolved l.frames l.sym l.i;
}

abbrev pub decreases-loop-i : goal.decreases-loop-i
decreases-loop-i l = l.i
