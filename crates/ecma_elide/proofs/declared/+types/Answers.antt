use Rattle.std.proofs.Common.{◌≡◌, ◌∙◌, ◌++◌, ℕ, List, ap, length, Option, arith}
use Rattle.ecma_tree.specs.declared.node.Node.{out-Node}
use Rattle.ecma_walks.specs.Listing.{listed_within}
use Rattle.ecma_elide.specs.declared.typed.Typed.{Typed}
use Rattle.ecma_elide.specs.DeclaredNames.{types_in}
use Rattle.ecma_elide.proofs.Naming.{types-all, types-first, types-next}
use Rattle.ecma_elide.proofs.declared.+types.Goals as goal

pub push_types-loop-i-init : goal.push_types-loop-i-init
push_types-loop-i-init t c = types-first c.args.typed c.args.node.now c.args.texts.now c.push_type_here.new.texts (c.in_ok-push_type_here.ensures {u = tt})

pub push_types-loop-i-preserved : goal.push_types-loop-i-preserved
push_types-loop-i-preserved t c =
    types-next c.args.typed c.args.node.now c.args.texts.now c.loop-i.texts c.push_types_within.new.texts c.loop-i.i c.at.result.now c.at.ensures c.loop-i.invariant
    (c.in_ok-push_types_within.ensures {u = tt} ∙ ap (λ (s : Option Typed). c.loop-i.texts ++ listed_within Typed (List ℕ) s (types_in c.at.result.now)) c.type_in.ensures)

pub push_types-returns : goal.push_types-returns
push_types-returns t c =
    let all : length (out-Node c.args.node.now).children ≡ c.loop-i.i = omega arith in
    types-all c.args.typed c.args.node.now c.args.texts.now c.loop-i.texts c.loop-i.i all c.loop-i.invariant
