use Rattle.std.proofs.Common.{◌≡◌, ◌∙◌, ◌≤◌, sym, subst, arith}
use Rattle.ecma_tree.specs.declared.node.Node.{Node}
use Rattle.ecma_scope.specs.declared.role.Role.TheVariants as role
use Rattle.ecma_scope.specs.Bindings.{FollowBindings}
use Rattle.ecma_scope.specs.Frames.{place_of}
use Rattle.ecma_scope.specs.Resolved.{contexts, resolved, resolved_at}
use Rattle.ecma_scope.proofs.Following.{resolved-follows}
use Rattle.ecma_scope.proofs.resolver.resolve.Goals as goal

pub returns-clause-bindings : goal.returns-clause-bindings
returns-clause-bindings c = λ given also apart.
    (let left = c.in_ok-resolve_in.ensures.left in
    let enough : contexts c.args.tree.now ≤ c.args.session.now.left = omega arith in
    let is : c.resolve_in.new.node ≡ resolved c.args.unresolved c.args.top c.args.session.now.left c.args.tree.now =
    c.in_ok-resolve_in.ensures.node
    ∙ (λ j. resolved_at (c.apply_mark.ensures j) (c.apply_mark-2.ensures j) c.args.tree.now (place_of role.Root (c.new-frames.ensures j)) c.args.session.now.left) in
    subst (λ (t : Node). FollowBindings c.args.unresolved t c.args.tree.now) (sym is)
    (resolved-follows c.args.unresolved c.args.top c.args.session.now.left c.args.tree.now given.0 also.0 apart enough))
