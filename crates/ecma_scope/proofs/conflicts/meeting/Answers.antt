use Rattle.std.proofs.Common.{rules, ◌≡◌, ◌∙◌, ◌++◌, ◌&&◌, ◌||◌, List, ℕ, [], filter, ap}
use Rattle.std.proofs.lemmas.Fn.{filter_same}
use Rattle.ecma_scope.specs.declared.form.Declaration.{Declaration}
use Rattle.ecma_scope.specs.Declarations.{declares, is_stated}
use Rattle.ecma_scope.specs.Indexed.{states_of}
use Rattle.ecma_scope.specs.Conflicts.{has_parameters, is_further_out, passing}
use Rattle.ecma_scope.proofs.Indexing.{stated-declares}
use Rattle.ecma_scope.proofs.conflicts.meeting.Goals as goal
use Rattle.ecma_scope.specs.declared.form.Located.{Located}
use Rattle.ecma_scope.specs.Located.{declarations_of, located_marked, located_names, located_passing}
use Rattle.ecma_scope.proofs.Locating.{passing-alike}

pub returns : goal.returns
returns c =
    let around : List ℕ → _ = states_of c.args.around.now in
    let passed : c.in_ok-passed.passed ≡ located_passing c.args.role c.args.node.now = c.in_ok-passed.ensures {u = tt} in
    let own : c.args.own ≡ located_names c.args.role around c.args.node.now = c.requires in
    let passes : (text : List ℕ) → is_stated (states_of c.in_ok-index.index text) ≡ declares (passing c.args.role c.args.node.now) text =
    (λ text. ap is_stated (c.in_ok-index.ensures {u = tt} text) ∙ stated-declares (declarations_of c.in_ok-passed.passed) text
    ∙ ap (λ (ds : List Declaration). declares ds text) (ap declarations_of passed ∙ passing-alike c.args.role c.args.node.now)) in
    let kept : c.retain.new.self
    ≡ filter (λ (l : Located). l.declaration.stays || (is_stated (states_of c.in_ok-index.index l.declaration.sym) || (has_parameters c.args.role && is_stated (around l.declaration.sym)))) c.args.own =
    filter_same _ _ _ (λ x b f' k. search rules) _ _ c.retain.ensures in
    let meeting_own : c.retain.new.self
    ≡ filter (λ (l : Located). l.declaration.stays || is_further_out c.args.role around (passing c.args.role c.args.node.now) l.declaration.sym) (located_names c.args.role around c.args.node.now) =
    kept ∙ (λ j. filter (λ (l : Located). l.declaration.stays || (passes l.declaration.sym j || (has_parameters c.args.role && is_stated (around l.declaration.sym)))) (own j)) in
    (c.in_ok-append.ensures {u = tt}).ok ∙ (λ j. (c.mark_merged.ensures ∙ ap (located_marked []) meeting_own) j ++ passed j)
