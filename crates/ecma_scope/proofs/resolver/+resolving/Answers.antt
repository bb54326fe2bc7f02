use Rattle.std.proofs.Common.{rules, refl, ◌≡◌, ◌∙◌, ◌+◌, ◌<◌, OnOk, sym, ap, ap₂, subst, List, ℕ, Some, Err, length, slice_get, arith}
use Rattle.ecma_kind.specs.declared.error.PassError.TheVariants.{Spent}
use Rattle.ecma_tree.specs.declared.node.Node.{Node, out-Node}
use Rattle.ecma_tree.proofs.Weights.{weight-child}
use Rattle.ecma_scope.specs.declared.frame.Frame.{Frame}
use Rattle.ecma_scope.specs.declared.role.Role.{Role}
use Rattle.ecma_scope.specs.Scopes.{covers, role_in}
use Rattle.ecma_scope.specs.declared.form.Declaration.{Declaration}
use Rattle.ecma_scope.specs.Declarations.{stated}
use Rattle.ecma_scope.specs.Located.{declarations_of}
use Rattle.ecma_scope.specs.Resolved.{Place, context_count, innermost, kind_at, resolved_at}
use Rattle.ecma_scope.specs.Drawing.{HasGivenAtMost}
use Rattle.ecma_scope.specs.Frames.{place_inside, place_of, plain_places, scope_places, scopes_of, with_children}
use Rattle.ecma_scope.proofs.Drawing.{drawn-below, given-more, given-next, given-none, given-wider}
use Rattle.ecma_scope.proofs.Locating.{names-alike}
use Rattle.ecma_scope.proofs.Resolving.{child_at, done-all, done-next, done-none, done-spent}
use Rattle.ecma_scope.proofs.Opening.{below-opens, below-plain, context_count-plain, count-opens, resolved_at-below, same-cover, same-role-sourced, spent-below, spent-here}
use Rattle.ecma_scope.proofs.resolver.+resolving.Goals as goal

pub resolve_in-returns-clause-node : goal.resolve_in-returns-clause-node
resolve_in-returns-clause-node t c =
    resolved_at-below c.args.given.now.unresolved c.args.given.now.top c.args.node.now c.resolve_below.new.node c.set_context.new.kind (place_of c.args.role c.args.frames.now) c.args.session.now.left
    (c.in_ok-resolve_below.ensures.node)
    (c.set_context.ensures ∙ ap (λ (f : List Frame). kind_at c.args.given.now.unresolved (place_of c.args.role f) (out-Node c.resolve_below.new.node).kind) (c.in_ok-resolve_below.ensures.frames))

pub resolve_children-resolve_in-requires : goal.resolve_children-resolve_in-requires
resolve_children-resolve_in-requires t c =
    let was : slice_get (out-Node c.args.node.now).children c.loop-i.i ≡ Some c.get_mut.result.now =
    child_at _ _ _ c.args.node.now c.loop-i.node _ c.loop-i.i _ c.get_mut.result.now c.loop-i.invariant.done c.get_mut.ensures.value in
    let smaller = weight-child c.args.node.now c.get_mut.result.now c.loop-i.i was in
    (omega arith, tt)

pub resolve_children-returns-in_err-resolve_in-clause-spent : goal.resolve_children-returns-in_err-resolve_in-clause-spent
resolve_children-returns-in_err-resolve_in-clause-spent t c = λ h.
    (let spent : c.resolve_in.result ≡ Err Spent = search rules in
    let inner : c.role_by-inner.result ≡ role_in c.args.role c.args.node.now c.loop-i.i =
    same-role-sourced c.args.node.now c.loop-i.node c.args.role c.role_by-inner.result c.is_sourced-sourced.result c.loop-i.i c.loop-i.invariant.done.kind c.is_sourced-sourced.ensures c.role_by-inner.ensures in
    done-spent c.args.given.now.unresolved c.args.given.now.top (plain_places c.args.role c.args.frames.now c.args.node.now) c.args.node.now c.loop-i.node c.args.session.now.left c.loop-i.i c.loop-i.session.left
    c.get_mut.result.now c.loop-i.invariant.done c.get_mut.ensures.value
    (subst (λ (r : Role). c.loop-i.session.left < context_count c.get_mut.result.now r) inner (c.resolve_in.ensures.spent spent)))

pub resolve_children-loop-i-preserved : goal.resolve_children-loop-i-preserved
resolve_children-loop-i-preserved t c =
    let inner : c.role_by-inner.result ≡ role_in c.args.role c.args.node.now c.loop-i.i =
    same-role-sourced c.args.node.now c.loop-i.node c.args.role c.role_by-inner.result c.is_sourced-sourced.result c.loop-i.i c.loop-i.invariant.done.kind c.is_sourced-sourced.ensures c.role_by-inner.ensures in
    let places : ℕ → Place = plain_places c.args.role c.args.frames.now c.args.node.now in
    record {
      done = done-next c.args.given.now.unresolved c.args.given.now.top places c.args.node.now c.loop-i.node c.args.session.now.left c.loop-i.i c.loop-i.session.left c.resolve_in.new.session.left
          c.get_mut.result.now c.resolve_in.new.node c.loop-i.invariant.done c.get_mut.ensures.value
          (c.in_ok-resolve_in.ensures.node ∙ ap₂ (λ (r : Role) (f : List Frame). resolved_at c.args.given.now.unresolved c.args.given.now.top c.get_mut.result.now (place_of r f) c.loop-i.session.left) inner c.loop-i.invariant.frames)
          (ap (λ (r : Role). c.resolve_in.new.session.left + context_count c.get_mut.result.now r) (sym inner) ∙ c.in_ok-resolve_in.ensures.left);
      frames = c.in_ok-resolve_in.ensures.frames ∙ c.loop-i.invariant.frames;
      given = given-next c.args.given.now.unresolved c.args.given.now.top places c.args.node.now c.loop-i.node c.loop-i.i c.get_mut.result.now c.args.session.now c.loop-i.session c.resolve_in.new.session
          c.loop-i.invariant.done c.get_mut.ensures.value c.loop-i.invariant.given
          (subst (λ (r : Role). HasGivenAtMost (context_count c.get_mut.result.now r) c.loop-i.session c.resolve_in.new.session) inner c.resolve_in.ensures.session);
    }

pub resolve_children-returns-clause-node : goal.resolve_children-returns-clause-node
resolve_children-returns-clause-node t c =
    let all : length (out-Node c.args.node.now).children ≡ c.loop-i.i = omega arith in
    done-all c.args.given.now.unresolved c.args.given.now.top (plain_places c.args.role c.args.frames.now c.args.node.now) c.args.node.now c.loop-i.node c.args.session.now.left c.loop-i.i c.loop-i.session.left
    c.loop-i.invariant.done all

pub resolve_scope-resolve_inside-requires : goal.resolve_scope-resolve_inside-requires
resolve_scope-resolve_inside-requires t c =
    let was : slice_get (out-Node c.args.node.now).children c.loop-i.i ≡ Some c.get_mut.result.now =
    child_at _ _ _ c.args.node.now c.loop-i.node _ c.loop-i.i _ c.get_mut.result.now c.loop-i.invariant.done c.get_mut.ensures.value in
    let smaller = weight-child c.args.node.now c.get_mut.result.now c.loop-i.i was in
    (omega arith, tt)

pub resolve_scope-returns-clause-node : goal.resolve_scope-returns-clause-node
resolve_scope-returns-clause-node t c =
    let all : length (out-Node c.args.node.now).children ≡ c.loop-i.i = omega arith in
    done-all c.args.given.now.unresolved c.args.given.now.top (scope_places c.args.role c.args.frames.now c.args.scope c.args.node.now) c.args.node.now c.loop-i.node c.args.session.now.left c.loop-i.i c.loop-i.session.left
    c.loop-i.invariant.done all

pub resolve_scope-loop-i-preserved : goal.resolve_scope-loop-i-preserved
resolve_scope-loop-i-preserved t c =
    let inner : c.role_by-inner.result ≡ role_in c.args.role c.args.node.now c.loop-i.i =
    same-role-sourced c.args.node.now c.loop-i.node c.args.role c.role_by-inner.result c.is_sourced-sourced.result c.loop-i.i c.loop-i.invariant.done.kind c.is_sourced-sourced.ensures c.role_by-inner.ensures in
    let covered : c.covers-covered.result ≡ covers c.args.role (out-Node c.args.node.now).kind c.loop-i.i =
    same-cover c.args.node.now c.loop-i.node c.args.role c.covers-covered.result c.loop-i.i c.loop-i.invariant.done.kind c.covers-covered.ensures in
    let place : place_inside c.role_by-inner.result c.loop-i.frames c.loop-i.scope c.covers-covered.result ≡ scope_places c.args.role c.args.frames.now c.args.scope c.args.node.now c.loop-i.i =
    (λ j. place_inside (inner j) (c.loop-i.invariant.frames j) (c.loop-i.invariant.scope j) (covered j)) in
    let places : ℕ → Place = scope_places c.args.role c.args.frames.now c.args.scope c.args.node.now in
    record {
      done = done-next c.args.given.now.unresolved c.args.given.now.top places c.args.node.now c.loop-i.node c.args.session.now.left c.loop-i.i c.loop-i.session.left c.resolve_inside.new.session.left
          c.get_mut.result.now c.resolve_inside.new.node c.loop-i.invariant.done c.get_mut.ensures.value
          (c.in_ok-scope.ensures.node ∙ ap (λ (p : Place). resolved_at c.args.given.now.unresolved c.args.given.now.top c.get_mut.result.now p c.loop-i.session.left) place)
          (ap (λ (r : Role). c.resolve_inside.new.session.left + context_count c.get_mut.result.now r) (sym inner) ∙ c.in_ok-scope.ensures.left);
      frames = c.in_ok-scope.ensures.frames ∙ c.loop-i.invariant.frames;
      scope = c.in_ok-scope.ensures.scope ∙ c.loop-i.invariant.scope;
      given = given-next c.args.given.now.unresolved c.args.given.now.top places c.args.node.now c.loop-i.node c.loop-i.i c.get_mut.result.now c.args.session.now c.loop-i.session c.resolve_inside.new.session
          c.loop-i.invariant.done c.get_mut.ensures.value c.loop-i.invariant.given
          (subst (λ (r : Role). HasGivenAtMost (context_count c.get_mut.result.now r) c.loop-i.session c.resolve_inside.new.session) inner c.resolve_inside.ensures.session);
    }

pub resolve_scope-returns-in_err-scope-clause-spent : goal.resolve_scope-returns-in_err-scope-clause-spent
resolve_scope-returns-in_err-scope-clause-spent t c = λ h.
    (let spent : c.resolve_inside.result ≡ Err Spent = search rules in
    let inner : c.role_by-inner.result ≡ role_in c.args.role c.args.node.now c.loop-i.i =
    same-role-sourced c.args.node.now c.loop-i.node c.args.role c.role_by-inner.result c.is_sourced-sourced.result c.loop-i.i c.loop-i.invariant.done.kind c.is_sourced-sourced.ensures c.role_by-inner.ensures in
    done-spent c.args.given.now.unresolved c.args.given.now.top (scope_places c.args.role c.args.frames.now c.args.scope c.args.node.now) c.args.node.now c.loop-i.node c.args.session.now.left c.loop-i.i c.loop-i.session.left
    c.get_mut.result.now c.loop-i.invariant.done c.get_mut.ensures.value
    (subst (λ (r : Role). c.loop-i.session.left < context_count c.get_mut.result.now r) inner (c.resolve_inside.ensures.spent spent)))

pub resolve_below-returns-else-opens-clause-spent : goal.resolve_below-returns-else-opens-clause-spent
resolve_below-returns-else-opens-clause-spent t c = λ h.
    (let plain = context_count-plain c.args.node.now c.args.role (sym c.opens.ensures ∙ c.if-opens.false) in
    subst (λ (k : ℕ). c.args.session.now.left < k) (sym plain) (c.resolve_children.ensures.spent h))

pub resolve_below-returns-else-opens-clause-left : goal.resolve_below-returns-else-opens-clause-left
resolve_below-returns-else-opens-clause-left t c =
    let plain = context_count-plain c.args.node.now c.args.role (sym c.opens.ensures ∙ c.if-opens.false) in
    subst (λ (k : ℕ). OnOk c.resolve_children.result (c.resolve_children.new.session.left + k ≡ c.args.session.now.left)) (sym plain) c.resolve_children.ensures.left

pub resolve_below-returns-else-opens-clause-node : goal.resolve_below-returns-else-opens-clause-node
resolve_below-returns-else-opens-clause-node t c =
    let plain = below-plain c.args.given.now.unresolved c.args.given.now.top c.args.node.now c.args.role c.args.frames.now c.args.session.now.left (sym c.opens.ensures ∙ c.if-opens.false) in
    subst (λ (children : List Node). OnOk c.resolve_children.result (c.resolve_children.new.node ≡ with_children c.args.node.now children)) (sym plain) c.resolve_children.ensures.node

pub resolve_opening-returns-in_err-ctxt-clause-spent : goal.resolve_opening-returns-in_err-ctxt-clause-spent
resolve_opening-returns-in_err-ctxt-clause-spent t c = λ h.
    spent-here c.args.node.now c.args.role c.args.session.now.left c.requires c.in_err-ctxt.ensures.spent

pub resolve_opening-returns-in_err-resolve_scope-clause-spent : goal.resolve_opening-returns-in_err-resolve_scope-clause-spent
resolve_opening-returns-in_err-resolve_scope-clause-spent t c = λ h.
    (let spent : c.resolve_scope.result ≡ Err Spent = search rules in
    spent-below c.args.node.now c.args.role c.args.session.now.left c.draw.new.session.left c.requires c.in_ok-ctxt.ensures.left (c.resolve_scope.ensures.spent spent))

pub resolve_opening-returns-clause-left : goal.resolve_opening-returns-clause-left
resolve_opening-returns-clause-left t c =
    count-opens c.args.node.now c.args.role c.args.session.now.left c.draw.new.session.left c.resolve_scope.new.session.left c.requires c.in_ok-ctxt.ensures.left c.in_ok-resolve_scope.ensures.left

pub resolve_opening-returns-clause-node : goal.resolve_opening-returns-clause-node
resolve_opening-returns-clause-node t c =
    c.in_ok-resolve_scope.ensures.node
    ∙ ap (λ (children : List Node). with_children c.args.node.now children)
    (sym (below-opens c.args.given.now.unresolved c.args.given.now.top c.args.node.now c.args.role c.args.frames.now (record { ctxt = c.in_ok-ctxt.ctxt; index = c.in_ok-index.index })
    c.args.session.now.left c.draw.new.session.left c.requires c.in_ok-ctxt.ensures.ctxt
    (λ text. c.in_ok-index.ensures {u = tt} text ∙ ap (λ (ds : List Declaration). stated ds text) (ap declarations_of (c.in_ok-names.ensures {u = tt}) ∙ names-alike c.args.role (innermost (scopes_of c.args.frames.now)) c.args.node.now)) c.in_ok-ctxt.ensures.left))

pub resolve_children-loop-i-init : goal.resolve_children-loop-i-init
resolve_children-loop-i-init t c =
    record {
      done = done-none c.args.given.now.unresolved c.args.given.now.top (plain_places c.args.role c.args.frames.now c.args.node.now) c.args.node.now c.args.session.now.left;
      frames = refl;
      given = given-none _ c.args.session.now;
    }

pub resolve_children-returns-in_err-resolve_in-clause-session : goal.resolve_children-returns-in_err-resolve_in-clause-session
resolve_children-returns-in_err-resolve_in-clause-session t c =
    let inner : c.role_by-inner.result ≡ role_in c.args.role c.args.node.now c.loop-i.i =
    same-role-sourced c.args.node.now c.loop-i.node c.args.role c.role_by-inner.result c.is_sourced-sourced.result c.loop-i.i c.loop-i.invariant.done.kind c.is_sourced-sourced.ensures c.role_by-inner.ensures in
    given-next c.args.given.now.unresolved c.args.given.now.top (plain_places c.args.role c.args.frames.now c.args.node.now) c.args.node.now c.loop-i.node c.loop-i.i c.get_mut.result.now c.args.session.now
    c.loop-i.session c.resolve_in.new.session c.loop-i.invariant.done c.get_mut.ensures.value c.loop-i.invariant.given
    (subst (λ (r : Role). HasGivenAtMost (context_count c.get_mut.result.now r) c.loop-i.session c.resolve_in.new.session) inner c.resolve_in.ensures.session)

pub resolve_children-returns-in_err-resolve_in-clause-drained : goal.resolve_children-returns-in_err-resolve_in-clause-drained
resolve_children-returns-in_err-resolve_in-clause-drained t c = λ h.
    (let spent : c.resolve_in.result ≡ Err Spent = search rules in
    c.resolve_in.ensures.drained spent)

pub resolve_children-returns-clause-session : goal.resolve_children-returns-clause-session
resolve_children-returns-clause-session t c = c.loop-i.invariant.given

pub resolve_scope-loop-i-init : goal.resolve_scope-loop-i-init
resolve_scope-loop-i-init t c =
    record {
      done = done-none c.args.given.now.unresolved c.args.given.now.top (scope_places c.args.role c.args.frames.now c.args.scope c.args.node.now) c.args.node.now c.args.session.now.left;
      frames = refl;
      scope = refl;
      given = given-none _ c.args.session.now;
    }

pub resolve_scope-returns-in_err-scope-clause-session : goal.resolve_scope-returns-in_err-scope-clause-session
resolve_scope-returns-in_err-scope-clause-session t c =
    let inner : c.role_by-inner.result ≡ role_in c.args.role c.args.node.now c.loop-i.i =
    same-role-sourced c.args.node.now c.loop-i.node c.args.role c.role_by-inner.result c.is_sourced-sourced.result c.loop-i.i c.loop-i.invariant.done.kind c.is_sourced-sourced.ensures c.role_by-inner.ensures in
    given-next c.args.given.now.unresolved c.args.given.now.top (scope_places c.args.role c.args.frames.now c.args.scope c.args.node.now) c.args.node.now c.loop-i.node c.loop-i.i c.get_mut.result.now c.args.session.now
    c.loop-i.session c.resolve_inside.new.session c.loop-i.invariant.done c.get_mut.ensures.value c.loop-i.invariant.given
    (subst (λ (r : Role). HasGivenAtMost (context_count c.get_mut.result.now r) c.loop-i.session c.resolve_inside.new.session) inner c.resolve_inside.ensures.session)

pub resolve_scope-returns-in_err-scope-clause-drained : goal.resolve_scope-returns-in_err-scope-clause-drained
resolve_scope-returns-in_err-scope-clause-drained t c = λ h.
    (let spent : c.resolve_inside.result ≡ Err Spent = search rules in
    c.resolve_inside.ensures.drained spent)

pub resolve_scope-returns-clause-session : goal.resolve_scope-returns-clause-session
resolve_scope-returns-clause-session t c = c.loop-i.invariant.given

pub resolve_below-returns-else-opens-clause-session : goal.resolve_below-returns-else-opens-clause-session
resolve_below-returns-else-opens-clause-session t c =
    let plain = context_count-plain c.args.node.now c.args.role (sym c.opens.ensures ∙ c.if-opens.false) in
    subst (λ (k : ℕ). HasGivenAtMost k c.args.session.now c.resolve_children.new.session) (sym plain) c.resolve_children.ensures.session

pub resolve_opening-returns-in_err-ctxt-clause-session : goal.resolve_opening-returns-in_err-ctxt-clause-session
resolve_opening-returns-in_err-ctxt-clause-session t c = given-wider _ _ _ _ _ (drawn-below c.args.node.now c.args.role c.requires) c.draw.ensures.session

pub resolve_opening-returns-in_err-names-clause-session : goal.resolve_opening-returns-in_err-names-clause-session
resolve_opening-returns-in_err-names-clause-session t c = given-wider _ _ _ _ _ (drawn-below c.args.node.now c.args.role c.requires) c.draw.ensures.session

pub resolve_opening-returns-in_err-index-clause-session : goal.resolve_opening-returns-in_err-index-clause-session
resolve_opening-returns-in_err-index-clause-session t c = given-wider _ _ _ _ _ (drawn-below c.args.node.now c.args.role c.requires) c.draw.ensures.session

pub resolve_opening-returns-in_err-resolve_scope-clause-session : goal.resolve_opening-returns-in_err-resolve_scope-clause-session
resolve_opening-returns-in_err-resolve_scope-clause-session t c =
    given-more _ _ _ _ _ _ (drawn-below c.args.node.now c.args.role c.requires) c.draw.ensures.session c.resolve_scope.ensures.session

pub resolve_opening-returns-in_err-resolve_scope-clause-drained : goal.resolve_opening-returns-in_err-resolve_scope-clause-drained
resolve_opening-returns-in_err-resolve_scope-clause-drained t c = λ h.
    (let spent : c.resolve_scope.result ≡ Err Spent = search rules in
    c.resolve_scope.ensures.drained spent)

pub resolve_opening-returns-clause-session : goal.resolve_opening-returns-clause-session
resolve_opening-returns-clause-session t c =
    given-more _ _ _ _ _ _ (drawn-below c.args.node.now c.args.role c.requires) c.draw.ensures.session c.resolve_scope.ensures.session
