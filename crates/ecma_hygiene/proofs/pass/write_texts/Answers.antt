use Rattle.std.proofs.Common.{rules, ◌≡◌, ◌∙◌, List, [], ap, sym}
use Rattle.ecma_hygiene.specs.declared.naming.Named.{Named}
use Rattle.ecma_hygiene.specs.Renamed.{Texts, at_root, renamed}
use Rattle.ecma_hygiene.specs.Texts.{text_in}
use Rattle.ecma_hygiene.proofs.Staying.{stays}
use Rattle.ecma_hygiene.proofs.pass.write_texts.Goals as goal

pub returns-then-is_empty : goal.returns-then-is_empty
returns-then-is_empty c =
    let none : c.args.names.now ≡ [] = search rules in
    sym (ap (λ (ns : List Named). renamed (text_in ns) c.args.tree.now) none ∙ stays c.args.tree.now at_root)

pub returns : goal.returns
returns c = c.in_ok-rename.ensures {u = tt} ∙ ap (λ (t : Texts). renamed t c.args.tree.now) (λ j id. c.in_ok-texts.ensures {u = tt} id j)
