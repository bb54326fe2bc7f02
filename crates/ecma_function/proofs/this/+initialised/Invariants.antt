use Rattle.std.proofs.Common.{◌≡◌, ◌++◌, drop, length, map}
use Rattle.ecma_tree.specs.declared.node.Node.{out-Node}
use Rattle.ecma_tree.proofs.Weights.{weight}
use Rattle.ecma_function.specs.This.{initialised}
use Rattle.ecma_function.proofs.this.+initialised.Given as goal

-- the first i children are done, and those behind them are as they stood
abbrev pub invariant-loop-i : goal.invariant-loop-i
invariant-loop-i l = record {
  kind_is : l.kind ≡ (out-Node l.fn.node).kind;
  same : drop l.i l.children ≡ drop l.i (out-Node l.fn.node).children;
  long : length l.children ≡ length (out-Node l.fn.node).children;
  done : l.inside ++ map (initialised l.name) (drop l.i (out-Node l.fn.node).children) ≡ map (initialised l.name) (out-Node l.fn.node).children;
}

abbrev pub decreases-initialised : goal.decreases-initialised
decreases-initialised l = weight l.node
