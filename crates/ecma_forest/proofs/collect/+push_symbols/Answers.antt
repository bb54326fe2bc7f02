use Rattle.std.proofs.Common.{◌≡◌, ◌∙◌, ◌++◌, ◌+◌, ap, arith, false, sym}
use Rattle.ecma_tree.specs.Gathering.{symbol_here}
use Rattle.ecma_forest.specs.Summaries.{tree_summary}
use Rattle.ecma_forest.proofs.Smaller.{child-smaller}
use Rattle.ecma_forest.proofs.Gathered.{symbols-all, symbols-first, symbols-item, symbols-none, symbols_in_rest}
use Rattle.ecma_forest.proofs.collect.+push_symbols.Goals as goal

pub returns-then-not-names : goal.returns-then-not-names
returns-then-not-names t c =
    let none : (tree_summary c.args.tree.now).names ≡ false = ap (λ s. s.names) (sym c.summary.ensures) ∙ sym c.names.ensures ∙ c.if-not-names.true in
    symbols-none c.args.tree.now c.args.symbols.now none

pub loop-i-init : goal.loop-i-init
loop-i-init t c = symbols-first c.args.tree.now c.args.symbols.now c.push_symbol.new.symbols (c.in_ok-push_symbol.ensures ∙ ap (λ k. c.args.symbols.now ++ symbol_here k) c.kind.ensures)

pub push_symbols-requires : goal.push_symbols-requires
push_symbols-requires t c = let smaller = child-smaller c.args.tree.now c.child.result c.loop-i.i c.child.ensures in (omega arith, tt)

pub loop-i-preserved : goal.loop-i-preserved
loop-i-preserved t c =
    ap (λ ws. ws ++ symbols_in_rest c.args.tree.now (c.loop-i.i + 1)) c.in_ok-push_symbols.ensures
    ∙ symbols-item c.args.tree.now c.child.result c.loop-i.symbols c.loop-i.i c.child.ensures
    ∙ c.loop-i.invariant

pub returns : goal.returns
returns t c = symbols-all c.args.tree.now c.loop-i.symbols c.loop-i.i (omega arith) ∙ c.loop-i.invariant
