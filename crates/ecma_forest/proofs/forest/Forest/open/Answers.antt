use Rattle.std.proofs.Common.{◌≡◌, ◌≤◌, ◌+◌, ◌-◌, ℕ, ap, arith, length}
use Rattle.ecma_forest.proofs.Opening.{last-front, opened-rooted, opened-roots, roots-length}
use Rattle.ecma_forest.proofs.forest.Forest.open.Goals as goal

-- how long a part is
part-length : (first count : ℕ) → first + count - first ≡ count
part-length first count = omega arith

pub slice_bounds-replace_last-end : goal.slice_bounds-replace_last-end
slice_bounds-replace_last-end c =
    let front : c.index-slot.result.now.first + c.index-slot.result.now.count ≤ length c.self.inside.below.items = last-front
    c.self.inside.kinds c.self.inside.below.items c.self.inside.roots.items c.args.self.now c.self.view_is c.self.invariant
    (c.len-last.result - 1) (omega (
      arith,
      c.len-last.ensures,
      c.self.inside.roots.ok.0,
      roots-length c.self.inside.kinds
          c.self.inside.below.items c.self.inside.roots.items c.args.self.now c.self.view_is c.self.invariant,
      c.requires,
    ))
    c.index-slot.result.now c.index-slot.ensures in
    omega (arith, front, ap length c.deref.ensures.value)

pub invariant_of-self-2 : goal.invariant_of-self-2
invariant_of-self-2 c =
    rw (c.in_ok-replace_last.ensures.ok, c.deref.ensures.value, part-length)
    (opened-rooted c.self.inside.kinds c.self.inside.below.items c.self.inside.roots.items c.args.self.now c.self.view_is c.self.invariant
    (c.len-last.result - 1) (omega (
      arith,
      c.len-last.ensures,
      c.self.inside.roots.ok.0,
      roots-length c.self.inside.kinds
          c.self.inside.below.items c.self.inside.roots.items c.args.self.now c.self.view_is c.self.invariant,
      c.requires,
    ))
    c.index-slot.result.now c.index-slot.ensures)

pub returns-clause-roots : goal.returns-clause-roots
returns-clause-roots c =
    rw (c.in_ok-replace_last.ensures.ok, c.deref.ensures.value, part-length)
    (opened-roots c.self.inside.kinds c.self.inside.below.items c.self.inside.roots.items c.args.self.now c.self.view_is c.self.invariant
    (c.len-last.result - 1) (omega (
      arith,
      c.len-last.ensures,
      c.self.inside.roots.ok.0,
      roots-length c.self.inside.kinds
          c.self.inside.below.items c.self.inside.roots.items c.args.self.now c.self.view_is c.self.invariant,
      c.requires,
    ))
    c.index-slot.result.now c.index-slot.ensures)
