use Rattle.std.proofs.Common.{◌≡◌, ◌++◌, ℕ, List, drop}
use Rattle.ecma_print.specs.Expressions.{template_parts}
use Rattle.ecma_print.specs.Layout.{laid}
use Rattle.ecma_print.proofs.inside.Inside.template_parts.Given as goal

-- what was written, and the parts that are left
abbrev pub invariant-loop-i : goal.invariant-loop-i
invariant-loop-i g l =
    (rest : List ℕ) → l.out.bytes.items ++ template_parts (drop l.i (laid l.quasis).parts) (drop l.i (laid l.expressions).parts) l.self.margin.now rest ≡ l.fn.out.bytes.items ++ template_parts (laid l.quasis).parts (laid l.expressions).parts l.self.margin.now rest
