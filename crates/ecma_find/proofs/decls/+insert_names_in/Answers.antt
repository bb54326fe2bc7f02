use Rattle.std.proofs.Common.{◌≡◌, Option, length, sym, subst, arith}
use Rattle.ecma_tree.specs.declared.node.Node.{out-Node}
use Rattle.ecma_find.specs.declared.finder.Finder.TheVariants.{Declared}
use Rattle.ecma_find.specs.declared.finder.Place.{Place}
use Rattle.ecma_find.specs.Finders.{rules_of}
use Rattle.ecma_find.specs.Found.{taken_within}
use Rattle.ecma_find.specs.Names.{AddsAll, name_in}
use Rattle.ecma_find.proofs.Declaring.{SetRest-all, SetRest-first, SetRest-next}
use Rattle.ecma_find.proofs.Naming.{taken-out, taken_rest-all, taken_rest-next}
use Rattle.ecma_find.proofs.decls.+insert_names_in.Goals as goal

pub loop-i-init : goal.loop-i-init
loop-i-init g t c =
    SetRest-first _ _ g.I.PartialEq.eq c.args.set.now c.insert_listed.new.set _ _ _
    (taken-out _ (name_in _ g.I.IdentLike.of_ident c.args.only.now) (rules_of Declared) c.in-Some.place c.args.node.now)
    (c.in_ok-insert_listed.ensures {u = tt})

pub loop-i-preserved : goal.loop-i-preserved
loop-i-preserved g t c =
    SetRest-next _ _ g.I.PartialEq.eq c.args.set.now c.loop-i.set c.insert_names_in.new.set _ _ _ _
    (taken_rest-next _ (name_in _ g.I.IdentLike.of_ident c.args.only.now) (rules_of Declared) c.in-Some.place c.args.node.now
    c.loop-i.i c.at.result.now c.at.ensures)
    (subst (λ (o : Option Place). AddsAll _ _ g.I.PartialEq.eq c.loop-i.set c.insert_names_in.new.set
    (taken_within _ (name_in _ g.I.IdentLike.of_ident c.args.only.now) (rules_of Declared) o c.at.result.now))
    c.place_at-below.ensures (c.in_ok-insert_names_in.ensures {u = tt}))
    c.loop-i.invariant

pub returns : goal.returns
returns g t c =
    let all : length (out-Node c.args.node.now).children ≡ c.loop-i.i = omega arith in
    subst (λ (o : Option Place). AddsAll _ _ g.I.PartialEq.eq c.args.set.now c.loop-i.set
    (taken_within _ (name_in _ g.I.IdentLike.of_ident c.args.only.now) (rules_of Declared) o c.args.node.now))
    (sym c.in-Some.is)
    (SetRest-all _ _ g.I.PartialEq.eq c.args.set.now c.loop-i.set _ _
    (taken_rest-all _ (name_in _ g.I.IdentLike.of_ident c.args.only.now) (rules_of Declared) c.in-Some.place c.args.node.now
    c.loop-i.i all) c.loop-i.invariant)
