-- How many marks a session has given on the way.
use Rattle.std.proofs.Common.{◌≡◌, ℕ, ◌+◌, ◌≤◌, ◌∙◌, true, cond, Some, refl, slice_get, arith}
use Rattle.ecma_kind.specs.Sessions.{SessionState, drawn}
use Rattle.ecma_tree.specs.declared.node.Node.{Node, out-Node}
use Rattle.ecma_scope.specs.declared.role.Role.{Role}
use Rattle.ecma_scope.specs.Scopes.{is_root, opens}
use Rattle.ecma_scope.specs.Drawing.{HasGivenAtMost}
use Rattle.ecma_scope.specs.Resolved.{Place, context_count}
use Rattle.ecma_scope.specs.Frames.{children_count}
use Rattle.ecma_scope.proofs.Opening.{context_count-opens, one-drawn}
use Rattle.ecma_scope.proofs.Resolving.{Done, child_at, rest_count, rest_count-next}

pub given-none : (count : ℕ) (session : SessionState) → HasGivenAtMost count session session
given-none count session = record { fewer = omega arith; most = omega arith; total = refl; slots = refl }

pub given-one : (count : ℕ) (session : SessionState) → 1 ≤ count → HasGivenAtMost count session (drawn session)
given-one count session one = record { fewer = omega arith; most = omega arith; total = refl; slots = refl }

pub given-more : (count one more : ℕ) (a b c : SessionState) → one + more ≤ count → HasGivenAtMost one a b → HasGivenAtMost more b c → HasGivenAtMost count a c
given-more count one more a b c within first then_ =
    let fewer = first.fewer in
    let most = first.most in
    let fewer' = then_.fewer in
    let most' = then_.most in
    record { fewer = omega arith; most = omega arith; total = then_.total ∙ first.total; slots = then_.slots ∙ first.slots }

pub given-wider : (count one more : ℕ) (a b : SessionState) → one + more ≤ count → HasGivenAtMost one a b → HasGivenAtMost count a b
given-wider count one more a b within given = given-more count one more a b b within given (given-none more b)

-- what the scope that a node opens takes, and what stands in it
pub drawn-below : (n : Node) (role : Role) → opens role n ≡ true → cond (is_root role) 0 1 + children_count n role ≤ context_count n role
drawn-below n role opened =
    let all = context_count-opens n role opened in
    let one = one-drawn (is_root role) in
    omega arith

module _ (unresolved top : ℕ) (places : ℕ → Place) where
  -- of the children of a node the first were given their contexts, and the next one some of its own
  pub given-next : (n m : Node) (i : ℕ) (x : Node) (before now after : SessionState) → Done unresolved top places n m before.left i now.left → slice_get (out-Node m).children i ≡ Some x
      → HasGivenAtMost (rest_count unresolved top places (out-Node n).children 0) before now → HasGivenAtMost (context_count x (places i).role) now after
      → HasGivenAtMost (rest_count unresolved top places (out-Node n).children 0) before after
  given-next n m i x before now after done at so_far given =
      let counts = rest_count-next unresolved top places (out-Node n).children i x (child_at unresolved top places n m before.left i now.left x done at) in
      let count = done.count in
      let fewer = so_far.fewer in
      let fewer' = given.fewer in
      let most' = given.most in
      record { fewer = omega arith; most = omega arith; total = given.total ∙ so_far.total; slots = given.slots ∙ so_far.slots }
