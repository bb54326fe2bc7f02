use Rattle.std.proofs.Common.{◌≡◌, ◌<◌, ◌≤◌, ◌∙◌, arith, ap, get_or, map, length}
use Rattle.ecma_forest.specs.Scanning.{scanned}
use Rattle.ecma_forest.proofs.Scans.{scan-all, scan-front, scan-next}
use Rattle.ecma_forest.proofs.forest.Forest.scan.Goals as goal

pub scan_slot-next-requires-clause-front : goal.scan_slot-next-requires-clause-front
scan_slot-next-requires-clause-front g c =
    let within : c.loop-slot.slot-index < length c.self.inside.below.items = omega (arith, ap length c.as_slice-slot-items.ensures.value) in
    let is : c.slot-item.result ≡ get_or c.self.inside.below.items c.loop-slot.slot-index c.slot-item.result =
    c.slot-item.is ∙ ap (λ ss. get_or ss c.loop-slot.slot-index c.slot-item.result) c.as_slice-slot-items.ensures.value in
    rw c.as_slice.ensures.value (scan-front (g.S.Scan.step c.args.scan.now) c.self.inside.kinds c.self.inside.below.items
    c.self.inside.roots.items c.self.invariant c.loop-slot.slot-index within c.slot-item.result is c.loop-slot.made.items c.loop-slot.invariant)

pub loop-slot-preserved : goal.loop-slot-preserved
loop-slot-preserved g c =
    let within : c.loop-slot.slot-index < length c.self.inside.below.items = omega (arith, ap length c.as_slice-slot-items.ensures.value) in
    let is : c.slot-item.result ≡ get_or c.self.inside.below.items c.loop-slot.slot-index c.slot-item.result =
    c.slot-item.is ∙ ap (λ ss. get_or ss c.loop-slot.slot-index c.slot-item.result) c.as_slice-slot-items.ensures.value in
    rw (c.in_ok-push.ensures.items, c.scan_slot-next.ensures, c.as_slice.ensures.value) (scan-next (g.S.Scan.step c.args.scan.now)
    c.self.inside.kinds c.self.inside.below.items c.self.inside.roots.items c.self.invariant c.loop-slot.slot-index within
    c.slot-item.result is c.loop-slot.made.items c.loop-slot.invariant)

pub returns : goal.returns
returns g c =
    let all : length c.self.inside.below.items ≤ c.loop-slot.slot-index = omega (arith, ap length c.as_slice-slot-items.ensures.value) in
    c.loop-slot.invariant ∙ scan-all (g.S.Scan.step c.args.scan.now) c.self.inside.kinds c.self.inside.below.items
    c.loop-slot.slot-index all ∙ ap (λ t. map (scanned (g.S.Scan.step c.args.scan.now)) t.below) c.self.view_is
