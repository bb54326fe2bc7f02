use Rattle.std.proofs.Common.{◌≡◌, ◌∙◌, ◌+◌, List, ℕ, Option, take, length, sym, ap, arith}
use Rattle.std.specs.Option.{option_map}
use Rattle.ecma_scope.specs.declared.clash.Clash.{Clash}
use Rattle.ecma_scope.specs.Indexed.{states_of}
use Rattle.ecma_scope.specs.Meetings.{least, met_in}
use Rattle.ecma_scope.specs.Clashes.{clash_at, clash_offsets, first_clash, sooner}
use Rattle.ecma_scope.proofs.Clashing.{among_from, among_from-all, first_among-next}
use Rattle.ecma_scope.proofs.Meeting.{clashes-met, met-next}
use Rattle.ecma_scope.proofs.Offsets.{sooner-none, sooner_assoc}
use Rattle.ecma_scope.proofs.conflicts.first_among.Goals as goal

pub loop-i-preserved : goal.loop-i-preserved
loop-i-preserved c =
    let around : List ℕ → _ = states_of c.args.around.now in
    let at : c.clashes_first.result ≡ least (clash_offsets c.args.role around (take c.loop-i.i c.args.names.now) c.at-name.result.now) =
    c.clashes_first.ensures
    ∙ sym (clashes-met c.args.role around (take c.loop-i.i c.args.names.now) c.at-name.result.now c.met_in-met.result (c.met_in-met.ensures ∙ c.loop-i.invariant.met (omega arith) c.at-name.result.now.declaration.sym)) in
    let own : c.in_ok-clash.clash ≡ option_map (clash_at c.at-name.result.now.declaration.sym) (least (clash_offsets c.args.role around (take c.loop-i.i c.args.names.now) c.at-name.result.now)) =
    c.in_ok-clash.ensures {u = tt} ∙ ap (option_map (clash_at c.at-name.result.now.declaration.sym)) at in
    let rest : Option Clash = first_clash (among_from c.args.role around c.args.names.now (c.loop-i.i + 1)) in
    record {
      same = c.loop-i.invariant.same
          ∙ ap (sooner c.loop-i.first) (first_among-next c.args.role around c.args.names.now c.loop-i.i c.at-name.result.now c.in_ok-clash.clash c.at-name.ensures own)
          ∙ sym (sooner_assoc c.loop-i.first c.in_ok-clash.clash rest)
          ∙ ap (λ (f : Option Clash). sooner f rest) (sym c.sooner-first.ensures);
      met = λ more. met-next c.args.role (met_in c.loop-i.meetings) (met_in c.meet_before.new.meetings) c.args.names.now c.loop-i.i c.at-name.result.now c.at-name.ensures (c.loop-i.invariant.met (omega arith))
          (c.in_ok-meet_before.ensures {u = tt} (omega (arith, more)));
    }

pub returns : goal.returns
returns c =
    let all : length c.args.names.now ≡ c.loop-i.i = omega arith in
    sym (c.loop-i.invariant.same
    ∙ ap (λ cs. sooner c.loop-i.first (first_clash cs)) (among_from-all c.args.role (states_of c.args.around.now) c.args.names.now c.loop-i.i all)
    ∙ sooner-none c.loop-i.first)
