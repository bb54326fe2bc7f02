use Rattle.std.proofs.Common.{rules, ◌≡◌, List, [], subst, sym}
use Rattle.ecma_hygiene.specs.Sets.{has_id, has_new, has_text}
use Rattle.ecma_hygiene.specs.declared.naming.Named.{Named}
use Rattle.ecma_hygiene.specs.Texts.{AreTexts}
use Rattle.ecma_hygiene.proofs.Getting.{no-texts-are, texts-are}
use Rattle.ecma_hygiene.proofs.texts.texts_of.Goals as goal

pub returns-then-is_empty-2 : goal.returns-then-is_empty-2
returns-then-is_empty-2 c =
    let no-fresh : c.in_ok-fresh.fresh ≡ [] = search rules in
    let no-changing : c.in_ok-changing.changing ≡ [] = search rules in
    subst (λ (names : List Named). AreTexts c.args.found.now.sights c.args.found.now.meetings names) (sym c.new.ensures)
    (no-texts-are c.args.found.now.sights c.args.found.now.meetings (has_new c.in_ok-new.new) (has_id c.in_ok-met.met) c.in_ok-fresh.fresh c.in_ok-changing.changing
    (c.in_ok-new.ensures {u = tt}) (c.in_ok-met.ensures {u = tt}) (c.in_ok-fresh.ensures {u = tt}) (c.in_ok-changing.ensures {u = tt}) no-fresh no-changing)

pub returns : goal.returns
returns c =
    texts-are c.args.found.now.sights c.args.found.now.meetings (has_new c.in_ok-new.new) (has_text c.in_ok-had.had) (has_text c.get_texts.new.had) (has_id c.in_ok-met.met)
    c.in_ok-fresh.fresh c.in_ok-changing.changing c.in_ok-names.names c.in_ok-changed.changed c.append.new.self
    (c.in_ok-new.ensures {u = tt}) (c.in_ok-met.ensures {u = tt}) (c.in_ok-had.ensures {u = tt}) (c.in_ok-fresh.ensures {u = tt}) (c.in_ok-changing.ensures {u = tt})
    c.in_ok-names.ensures.names c.in_ok-names.ensures.had c.in_ok-changed.ensures.names c.in_ok-append.ensures.ok
