use Rattle.std.proofs.Common.{◌∙◌, List, refl, sym, subst}
use Rattle.std.specs.Fn.{CalledAt}
use Rattle.std.specs.List.{FoldsTo}
use Rattle.ecma_tree.specs.declared.node.Node.{Node}
use Rattle.ecma_find.specs.declared.finder.Finder.TheVariants.{Bindings}
use Rattle.ecma_find.specs.Finders.{rules_of}
use Rattle.ecma_find.specs.Names.{itself}
use Rattle.ecma_find.proofs.Naming.{taken_here-listed}
use Rattle.ecma_find.proofs.bindings.call_listed.Goals as goal

pub returns-then-is_listed-clause-ran : goal.returns-then-is_listed-clause-ran
returns-then-is_listed-clause-ran g c =
    let called : CalledAt g.F.FnMut c.args.op.now c.args.node.now tt c.op.new.self =
    record { shown = _; shows = refl; called = c.op.ensures } in
    subst (λ (z : List Node). FoldsTo (λ p x q. CalledAt g.F.FnMut p x tt q) c.args.op.now z c.op.new.self)
    (sym (taken_here-listed Node itself (rules_of Bindings) c.args.place c.args.node.now (sym c.is_listed.ensures ∙ c.if-is_listed.true)))
    (c.op.new.self, called, refl)
