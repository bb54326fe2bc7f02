use Rattle.std.proofs.Common.{rules, ◌≡◌, ◌∙◌, ◌++◌, ◌&&◌, Bool, List, None, Some, [], cond, ap, append_assoc, sym, arith}
use Rattle.ecma_tree.specs.declared.node.Node.{out-Node}
use Rattle.ecma_tree.proofs.Weights.{weight-child}
use Rattle.ecma_scope.specs.declared.form.Sought.{Sought}
use Rattle.ecma_scope.specs.Resolved.{is_name}
use Rattle.ecma_scope.specs.Scopes.{role_by}
use Rattle.ecma_hygiene.specs.declared.sight.Meeting.{Meeting}
use Rattle.ecma_hygiene.specs.declared.sight.Sight.{Sight}
use Rattle.ecma_hygiene.specs.Frames.{around_children, around_of, around_within, scopes_of}
use Rattle.ecma_hygiene.specs.Ids.{innermost, is_body_block, own_ids, soughts_in}
use Rattle.ecma_hygiene.specs.Sights.{Around, around_child, beside_parameters, hides, meetings_at, meets, sight_here, sights_at}
use Rattle.ecma_hygiene.proofs.Arounds.{gathered-closed, gathered-opened}
use Rattle.ecma_hygiene.proofs.Walking.{first, next}
use Rattle.ecma_hygiene.proofs.walk.+walking.Goals as goal

pub walk-returns-then-opens-clause-sights : goal.walk-returns-then-opens-clause-sights
walk-returns-then-opens-clause-sights t c =
    c.in_ok-walk_opened.ensures.sights
    ∙ first Around Sight sight_here around_child c.args.node.now (around_of c.args.role c.args.soughts.now c.args.frames.now) c.args.found.now.sights c.push_sight.new.sights (c.in_ok-push_sight.ensures {u = tt})

pub walk-returns-clause-sights : goal.walk-returns-clause-sights
walk-returns-clause-sights t c =
    let closed = sym c.opens.ensures ∙ c.if-opens.false in
    c.in_ok-walk_children.ensures.sights
    ∙ ap (λ (xs : List Sight). c.push_sight.new.sights ++ xs) (gathered-closed c.args.role c.args.soughts.now c.args.frames.now c.args.node.now Sight sight_here closed)
    ∙ first Around Sight sight_here around_child c.args.node.now (around_of c.args.role c.args.soughts.now c.args.frames.now) c.args.found.now.sights c.push_sight.new.sights (c.in_ok-push_sight.ensures {u = tt})

pub walk-returns-clause-meetings : goal.walk-returns-clause-meetings
walk-returns-clause-meetings t c =
    let closed = sym c.opens.ensures ∙ c.if-opens.false in
    let beside : List Meeting = beside_parameters (innermost (scopes_of c.args.frames.now)) (own_ids c.args.role (innermost (scopes_of c.args.frames.now)) c.args.node.now) in
    let hiding : List Meeting = hides (is_name c.args.role) (scopes_of c.args.frames.now) (out-Node c.args.node.now).kind in
    c.in_ok-walk_children.ensures.meetings
    ∙ ap (λ (xs : List Meeting). c.push_hides.new.meetings ++ xs) (gathered-closed c.args.role c.args.soughts.now c.args.frames.now c.args.node.now Meeting meets closed)
    ∙ first Around Meeting meets around_child c.args.node.now (around_of c.args.role c.args.soughts.now c.args.frames.now) c.args.found.now.meetings c.push_hides.new.meetings
    (c.in_ok-push_hides.ensures {u = tt} ∙ (λ j. c.args.found.now.meetings ++ (cond (sym closed j && is_body_block c.args.role (out-Node c.args.node.now).kind) beside [] ++ hiding)))

pub walk_opened-returns-clause-sights : goal.walk_opened-returns-clause-sights
walk_opened-returns-clause-sights t c =
    c.in_ok-walk_scope.ensures.sights
    ∙ ap (λ (xs : List Sight). c.args.found.now.sights ++ xs)
    (gathered-opened c.args.role c.args.soughts.now c.args.frames.now c.args.node.now c.in_ok-inner.inner c.in_ok-scope.scope c.requires (c.in_ok-inner.ensures {u = tt}) c.in_ok-scope.ensures.scope Sight sight_here)

pub walk_opened-returns-clause-meetings : goal.walk_opened-returns-clause-meetings
walk_opened-returns-clause-meetings t c =
    let beside : List Meeting = beside_parameters (innermost (scopes_of c.args.frames.now)) (own_ids c.args.role (innermost (scopes_of c.args.frames.now)) c.args.node.now) in
    let here : List Meeting = cond (is_body_block c.args.role (out-Node c.args.node.now).kind) beside [] in
    let hiding : List Meeting = hides (is_name c.args.role) (scopes_of c.args.frames.now) (out-Node c.args.node.now).kind in
    c.in_ok-walk_scope.ensures.meetings
    ∙ ap (λ (xs : List Meeting). c.push_hides.new.meetings ++ xs)
    (gathered-opened c.args.role c.args.soughts.now c.args.frames.now c.args.node.now c.in_ok-inner.inner c.in_ok-scope.scope c.requires (c.in_ok-inner.ensures {u = tt}) c.in_ok-scope.ensures.scope Meeting meets)
    ∙ first Around Meeting meets around_child c.args.node.now (around_of c.args.role c.args.soughts.now c.args.frames.now) c.args.found.now.meetings c.push_hides.new.meetings
    (c.in_ok-push_hides.ensures {u = tt} ∙ ap (λ (xs : List Meeting). xs ++ hiding) c.in_ok-scope.ensures.meetings ∙ append_assoc c.args.found.now.meetings here hiding
    ∙ (λ j. c.args.found.now.meetings ++ (cond (sym c.requires j && is_body_block c.args.role (out-Node c.args.node.now).kind) beside [] ++ hiding)))

pub walk_children-walk_within-requires : goal.walk_children-walk_within-requires
walk_children-walk_within-requires t c =
    let smaller = weight-child c.args.node.now c.at.result.now c.loop-i.i c.at.ensures in
    (omega arith, tt)

pub walk_children-loop-i-preserved : goal.walk_children-loop-i-preserved
walk_children-loop-i-preserved t c =
    let role = c.role_by-inner.ensures ∙ ap (λ (sourced : Bool). role_by c.args.role (out-Node c.args.node.now).kind sourced c.loop-i.i) c.is_there-sourced.ensures in
    let place : around_of c.role_by-inner.result (soughts_in c.args.soughts.now c.args.node.now c.loop-i.i) c.loop-i.frames ≡ around_children c.args.role c.args.soughts.now c.args.frames.now None c.args.node.now c.loop-i.i =
    (λ j. around_of (role j) (soughts_in c.args.soughts.now c.args.node.now c.loop-i.i) (c.loop-i.invariant.frames j)) in
    record {
      sights = next Around Sight sight_here around_child (around_children c.args.role c.args.soughts.now c.args.frames.now None c.args.node.now) c.args.node.now c.loop-i.found.sights c.walk_within.new.found.sights _
          c.loop-i.i c.at.result.now c.at.ensures c.loop-i.invariant.sights (c.in_ok-walk_within.ensures.sights ∙ ap (λ (a : Around). c.loop-i.found.sights ++ sights_at c.at.result.now a) place);
      meetings = next Around Meeting meets around_child (around_children c.args.role c.args.soughts.now c.args.frames.now None c.args.node.now) c.args.node.now c.loop-i.found.meetings c.walk_within.new.found.meetings _
          c.loop-i.i c.at.result.now c.at.ensures c.loop-i.invariant.meetings (c.in_ok-walk_within.ensures.meetings ∙ ap (λ (a : Around). c.loop-i.found.meetings ++ meetings_at c.at.result.now a) place);
      frames = c.in_ok-walk_within.ensures.frames ∙ c.loop-i.invariant.frames;
    }

pub walk_within-returns-then-is_empty-clause-sights : goal.walk_within-returns-then-is_empty-clause-sights
walk_within-returns-then-is_empty-clause-sights t c =
    let none : c.args.soughts.now ≡ [] = search rules in
    let same : c.args.soughts.now ≡ soughts_in c.args.soughts.now c.args.node.now c.args.index = none ∙ sym (ap (λ (ss : List Sought). soughts_in ss c.args.node.now c.args.index) none) in
    c.in_ok-walk.ensures.sights ∙ ap (λ (ss : List Sought). c.args.found.now.sights ++ sights_at c.args.child.now (around_of c.args.role ss c.args.frames.now)) same

pub walk_within-returns-then-is_empty-clause-meetings : goal.walk_within-returns-then-is_empty-clause-meetings
walk_within-returns-then-is_empty-clause-meetings t c =
    let none : c.args.soughts.now ≡ [] = search rules in
    let same : c.args.soughts.now ≡ soughts_in c.args.soughts.now c.args.node.now c.args.index = none ∙ sym (ap (λ (ss : List Sought). soughts_in ss c.args.node.now c.args.index) none) in
    c.in_ok-walk.ensures.meetings ∙ ap (λ (ss : List Sought). c.args.found.now.meetings ++ meetings_at c.args.child.now (around_of c.args.role ss c.args.frames.now)) same

pub walk_scope-walk_covered-requires : goal.walk_scope-walk_covered-requires
walk_scope-walk_covered-requires t c =
    let smaller = weight-child c.args.node.now c.at-child.result.now c.loop-i.i c.at-child.ensures in
    (omega arith, tt)

pub walk_scope-loop-i-preserved : goal.walk_scope-loop-i-preserved
walk_scope-loop-i-preserved t c =
    let role = c.role_by.ensures ∙ ap (λ (sourced : Bool). role_by c.args.role (out-Node c.args.node.now).kind sourced c.loop-i.i) c.is_there-sourced.ensures in
    let place : around_within c.role_by.result c.in_ok-within.within c.loop-i.frames (Some c.loop-i.scope) c.covers-covered.result ≡ around_children c.args.role c.args.soughts.now c.args.frames.now (Some c.args.scope) c.args.node.now c.loop-i.i =
    (λ j. around_within (role j) (c.in_ok-within.ensures {u = tt} j) (c.loop-i.invariant.frames j) (Some (c.loop-i.invariant.scope j)) (c.covers-covered.ensures j)) in
    record {
      sights = next Around Sight sight_here around_child (around_children c.args.role c.args.soughts.now c.args.frames.now (Some c.args.scope) c.args.node.now) c.args.node.now c.loop-i.found.sights c.walk_covered.new.found.sights _
          c.loop-i.i c.at-child.result.now c.at-child.ensures c.loop-i.invariant.sights (c.in_ok-scope.ensures.sights ∙ ap (λ (a : Around). c.loop-i.found.sights ++ sights_at c.at-child.result.now a) place);
      meetings = next Around Meeting meets around_child (around_children c.args.role c.args.soughts.now c.args.frames.now (Some c.args.scope) c.args.node.now) c.args.node.now c.loop-i.found.meetings c.walk_covered.new.found.meetings _
          c.loop-i.i c.at-child.result.now c.at-child.ensures c.loop-i.invariant.meetings (c.in_ok-scope.ensures.meetings ∙ ap (λ (a : Around). c.loop-i.found.meetings ++ meetings_at c.at-child.result.now a) place);
      frames = c.in_ok-scope.ensures.frames ∙ c.loop-i.invariant.frames;
      scope = c.in_ok-scope.ensures.scope ∙ c.loop-i.invariant.scope;
    }
