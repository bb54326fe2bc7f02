use Rattle.std.proofs.Common.{◌≡◌, ◌∙◌, ◌++◌, ℕ, List, ap, length, Option, arith}
use Rattle.ecma_tree.specs.declared.node.Node.{out-Node}
use Rattle.ecma_walks.specs.Listing.{listed_within}
use Rattle.ecma_exports.specs.declared.place.Place.{Place}
use Rattle.ecma_exports.specs.Places.{texts_in}
use Rattle.ecma_exports.proofs.Naming.{texts-all, texts-first, texts-next}
use Rattle.ecma_exports.proofs.names.+texts.Goals as goal

pub push_texts-loop-i-init : goal.push_texts-loop-i-init
push_texts-loop-i-init t c = texts-first c.args.free c.args.place c.args.node.now c.args.texts.now c.push_here.new.texts (c.in_ok-push_here.ensures {u = tt})

pub push_texts-loop-i-preserved : goal.push_texts-loop-i-preserved
push_texts-loop-i-preserved t c =
    texts-next c.args.free c.args.place c.args.node.now c.args.texts.now c.loop-i.texts c.push_within.new.texts c.loop-i.i c.at.result.now c.at.ensures c.loop-i.invariant
    (c.in_ok-push_within.ensures {u = tt} ∙ ap (λ (s : Option Place). c.loop-i.texts ++ listed_within Place (List ℕ) s (texts_in c.args.free c.at.result.now)) c.place_in.ensures)

pub push_texts-returns : goal.push_texts-returns
push_texts-returns t c =
    let all : length (out-Node c.args.node.now).children ≡ c.loop-i.i = omega arith in
    texts-all c.args.free c.args.place c.args.node.now c.args.texts.now c.loop-i.texts c.loop-i.i all c.loop-i.invariant
