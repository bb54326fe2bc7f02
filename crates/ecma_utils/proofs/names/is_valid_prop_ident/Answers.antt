use Rattle.std.proofs.Common.{sym, arith}
use Rattle.std.proofs.lemmas.Iterator.{YieldsList-from_chars}
use Rattle.std.proofs.lemmas.Iterator.Consumers.{YieldsList-turn, YieldsList-end}
use Rattle.std.specs.Str.{chars}
use Rattle.ecma_lex.proofs.SymbolWords.{key_fails_at, key_passes_at, key_ends_at, key_whole}
use Rattle.ecma_utils.proofs.names.is_valid_prop_ident.Goals as goal

pub returns-then-not-belongs : goal.returns-then-not-belongs
returns-then-not-belongs c =
    let t = YieldsList-turn (YieldsList-from_chars c.args.text.now c.utf8.text cc) c.loop-c.yielded _ c.loop-c.yielded_by _ _ c.in-Some.c c.in-Some.is c.next.ensures.steps in
    key_whole c.args.text.now _ c.utf8.text (key_fails_at (chars c.args.text.now) c.loop-c.yielded c.loop-c.is_first c.in-Some.c t c.loop-c.invariant (sym c.if-not-belongs.ensures))

pub loop-c-preserved : goal.loop-c-preserved
loop-c-preserved c =
    let t = YieldsList-turn (YieldsList-from_chars c.args.text.now c.utf8.text cc) c.loop-c.yielded _ c.loop-c.yielded_by _ _ c.in-Some.c c.in-Some.is c.next.ensures.steps in
    key_passes_at (chars c.args.text.now) c.loop-c.yielded c.loop-c.is_first c.in-Some.c t c.loop-c.invariant (sym c.if-not-belongs.ensures)

pub returns : goal.returns
returns c =
    let t = YieldsList-end (YieldsList-from_chars c.args.text.now c.utf8.text cc) c.loop-c.yielded _ c.loop-c.yielded_by _ _ c.in-None.is c.next.ensures.steps in
    key_whole c.args.text.now _ c.utf8.text (key_ends_at (chars c.args.text.now) _ c.loop-c.is_first (omega (arith, t.1)) c.loop-c.invariant)
