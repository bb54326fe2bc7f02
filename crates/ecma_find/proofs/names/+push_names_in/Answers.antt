use Rattle.std.proofs.Common.{◌≡◌, ◌∙◌, ◌++◌, Option, length, sym, ap, arith}
use Rattle.ecma_tree.specs.declared.node.Node.{out-Node}
use Rattle.ecma_find.specs.declared.finder.Place.{Place}
use Rattle.ecma_find.specs.Finders.{rules_of}
use Rattle.ecma_find.specs.Found.{taken_in, taken_within}
use Rattle.ecma_find.specs.Names.{name_as}
use Rattle.ecma_find.proofs.Naming.{taking-all, taking-first, taking-next}
use Rattle.ecma_find.proofs.names.+push_names_in.Goals as goal

pub loop-i-init : goal.loop-i-init
loop-i-init g t c =
    taking-first _ (name_as _ g.I.IdentLike.of_ident) (rules_of c.args.finder) c.in-Some.place c.args.node.now c.args.to.now
    c.push_listed.new.to (c.in_ok-push_listed.ensures {u = tt})

pub loop-i-preserved : goal.loop-i-preserved
loop-i-preserved g t c =
    taking-next _ (name_as _ g.I.IdentLike.of_ident) (rules_of c.args.finder) c.in-Some.place c.args.node.now
    (c.args.to.now ++ taken_in _ (name_as _ g.I.IdentLike.of_ident) (rules_of c.args.finder) c.args.node.now c.in-Some.place)
    c.loop-i.to c.push_names_in.new.to c.loop-i.i c.at.result.now c.at.ensures
    (c.in_ok-push_names_in.ensures {u = tt}
    ∙ ap (λ (o : Option Place). c.loop-i.to ++ taken_within _ (name_as _ g.I.IdentLike.of_ident) (rules_of c.args.finder) o
    c.at.result.now) c.place_at-below.ensures)
    c.loop-i.invariant

pub returns : goal.returns
returns g t c =
    let all : length (out-Node c.args.node.now).children ≡ c.loop-i.i = omega arith in
    taking-all _ (name_as _ g.I.IdentLike.of_ident) (rules_of c.args.finder) c.in-Some.place c.args.node.now
    (c.args.to.now ++ taken_in _ (name_as _ g.I.IdentLike.of_ident) (rules_of c.args.finder) c.args.node.now c.in-Some.place)
    c.loop-i.to c.loop-i.i all c.loop-i.invariant
    ∙ ap (λ (o : Option Place). c.args.to.now ++ taken_within _ (name_as _ g.I.IdentLike.of_ident) (rules_of c.args.finder) o
    c.args.node.now) (sym c.in-Some.is)
