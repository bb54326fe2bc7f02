use Rattle.std.proofs.Common.{◌≡◌, ◌∙◌, ◌<◌, length, sym, arith}
use Rattle.ecma_function_parts.proofs.Children.{replaced-next, replaced-was}
use Rattle.ecma_function.specs.This.{initialised}
use Rattle.ecma_function.proofs.this.init_this.Goals as goal

pub loop-i-preserved : goal.loop-i-preserved
loop-i-preserved c =
    let within : c.loop-i.i < length c.args.stmts.now.items = omega arith in
    let was = replaced-was (initialised c.args.this_id.now) c.loop-i.stmts.items c.args.stmts.now.items c.loop-i.i c.replace-stmt.result _ c.loop-i.invariant within
    (sym c.index_mut.ensures.value ∙ sym c.replace-stmt.ensures.value) in
    replaced-next (initialised c.args.this_id.now) c.loop-i.stmts.items c.args.stmts.now.items c.loop-i.i c.replace-stmt.result c.replace-stmt.new.dest c.in_ok-stmts.field-0
    c.loop-i.invariant was (c.in_ok-stmts.ensures {u = tt})
