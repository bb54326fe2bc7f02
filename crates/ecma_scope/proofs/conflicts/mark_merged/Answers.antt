use Rattle.std.proofs.Common.{◌≡◌, ◌∙◌, ◌&&◌, Bool, List, cond, take, ap}
use Rattle.std.proofs.Math.ListN.{length-set}
use Rattle.ecma_scope.specs.declared.form.Declaration.{Declaration}
use Rattle.ecma_scope.specs.declared.form.Form.TheVariants as form
use Rattle.ecma_scope.specs.declared.form.Located.{Located}
use Rattle.ecma_scope.specs.Conflicts.{mark, may_merge, merges}
use Rattle.ecma_scope.specs.Located.{declarations_of, has_merged}
use Rattle.ecma_scope.proofs.Clashing.{mark_from-next}
use Rattle.ecma_scope.proofs.Locating.{merges-alike}
use Rattle.ecma_scope.proofs.conflicts.mark_merged.Goals as goal

pub loop-i-preserved : goal.loop-i-preserved
loop-i-preserved c =
    let earlier : List Declaration = declarations_of (take c.loop-i.i c.loop-i.names) in
    let same : c.at.result.now ≡ c.get_mut.result.now = cc (c.at.ensures, c.get_mut.ensures.value) in
    let found : c.merges-merged.result ≡ merges earlier c.get_mut.result.now.declaration =
    c.merges-merged.ensures ∙ ap (λ (ls : List Located). may_merge c.at.result.now.declaration.form && has_merged (take c.loop-i.i ls) c.at.result.now.declaration) c.as_slice.ensures
    ∙ merges-alike (take c.loop-i.i c.loop-i.names) c.at.result.now.declaration ∙ ap (λ (l : Located). merges earlier l.declaration) same in
    let is : c.set_merged.new.name ≡ record c.get_mut.result.now { declaration = mark earlier c.get_mut.result.now.declaration } =
    c.set_merged.ensures
    ∙ ap (λ (b : Bool). record c.get_mut.result.now { declaration = cond b (record c.get_mut.result.now.declaration { form = form.Merged }) c.get_mut.result.now.declaration }) found in
    record {
      same = mark_from-next c.loop-i.names c.loop-i.i c.get_mut.result.now c.set_merged.new.name c.get_mut.ensures.value is ∙ c.loop-i.invariant.same;
      size = length-set c.loop-i.names c.loop-i.i c.set_merged.new.name ∙ c.loop-i.invariant.size;
    }
