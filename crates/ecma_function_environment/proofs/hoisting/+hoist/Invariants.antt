use Rattle.std.proofs.Common.{◌≡◌, ◌++◌, drop, length}
use Rattle.ecma_tree.specs.declared.node.Node.{out-Node}
use Rattle.ecma_tree.proofs.Weights.{weight}
use Rattle.ecma_function_environment.specs.Members.{key_at}
use Rattle.ecma_function_environment.proofs.Hoisted.{hoisted_rest}
use Rattle.ecma_function_environment.proofs.hoisting.+hoist.Given as goal

-- the first i children are done, and those behind them are as they stood
abbrev pub invariant-loop-i : goal.invariant-loop-i
invariant-loop-i l = record {
  kind_is : l.kind ≡ (out-Node l.fn.node).kind;
  key_is : l.key ≡ key_at l.flags.super_disabled l.fn.node;
  same : drop l.i l.children ≡ drop l.i (out-Node l.fn.node).children;
  long : length l.children ≡ length (out-Node l.fn.node).children;
  done : l.inside ++ hoisted_rest l.flags l.names.entries l.fn.node l.seat l.i ≡ hoisted_rest l.flags l.names.entries l.fn.node l.seat 0;
}

abbrev pub decreases-hoist : goal.decreases-hoist
decreases-hoist l = weight l.node
