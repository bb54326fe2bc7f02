use Rattle.std.proofs.Common.{◌≡◌, Option, length, sym, subst, arith}
use Rattle.std.specs.Fn.{CalledAt}
use Rattle.std.specs.List.{FoldsTo}
use Rattle.ecma_tree.specs.declared.node.Node.{Node, out-Node}
use Rattle.ecma_find.specs.declared.finder.Finder.TheVariants.{Bindings}
use Rattle.ecma_find.specs.declared.finder.Place.{Place}
use Rattle.ecma_find.specs.Finders.{rules_of}
use Rattle.ecma_find.specs.Found.{taken_within}
use Rattle.ecma_find.specs.Names.{itself}
use Rattle.ecma_find.proofs.Calling.{StepsRest-all, StepsRest-first, StepsRest-next}
use Rattle.ecma_find.proofs.Naming.{taken-out, taken_rest-all, taken_rest-next}
use Rattle.ecma_find.proofs.bindings.+call_in.Goals as goal

pub loop-i-init : goal.loop-i-init
loop-i-init g t c = (
  c.call_listed.ensures.again,
  StepsRest-first (λ p x q. CalledAt g.F.FnMut p x tt q) c.args.op.now c.call_listed.new.op _ _ _
      (taken-out Node itself (rules_of Bindings) c.in-Some.place c.args.node.now) c.call_listed.ensures.ran,
)

pub loop-i-preserved : goal.loop-i-preserved
loop-i-preserved g t c = (
  c.call_in.ensures.again,
  StepsRest-next (λ p x q. CalledAt g.F.FnMut p x tt q) c.args.op.now c.loop-i.op c.call_in.new.op _ _ _ _
      (taken_rest-next Node itself (rules_of Bindings) c.in-Some.place c.args.node.now c.loop-i.i c.at.result.now c.at.ensures)
      (subst (λ (o : Option Place). FoldsTo (λ p x q. CalledAt g.F.FnMut p x tt q) c.loop-i.op
      (taken_within Node itself (rules_of Bindings) o c.at.result.now) c.call_in.new.op)
      c.place_at-below.ensures c.call_in.ensures.ran)
      c.loop-i.invariant.1,
)

pub returns-clause-ran : goal.returns-clause-ran
returns-clause-ran g t c =
    let all : length (out-Node c.args.node.now).children ≡ c.loop-i.i = omega arith in
    subst (λ (o : Option Place). FoldsTo (λ p x q. CalledAt g.F.FnMut p x tt q) c.args.op.now
    (taken_within Node itself (rules_of Bindings) o c.args.node.now) c.loop-i.op)
    (sym c.in-Some.is)
    (StepsRest-all (λ p x q. CalledAt g.F.FnMut p x tt q) c.args.op.now c.loop-i.op _ _
    (taken_rest-all Node itself (rules_of Bindings) c.in-Some.place c.args.node.now c.loop-i.i all) c.loop-i.invariant.1)
