-- The levels, one further in.
use Rattle.std.proofs.Common.{◌≡◌, ℕ, zero, suc, ◌-◌, ◌≢◌, List, refl, arith}
use Rattle.ecma_grammar.specs.declared.production.Mode.{Mode}
use Rattle.ecma_grammar.specs.declared.production.Part.{Part}
use Rattle.ecma_grammar.specs.Reading.{Position, too_deep}
use Rattle.ecma_grammar.specs.Reads.{reads_with_types, levels_by, levels_with_types}
use Rattle.ecma_grammar.specs.PartBodies.{part_body}

pub levels-none : (text : List ℕ) (mode : Mode) (left : ℕ) (u : Part) (at : ℕ) (s : Position) → left ≡ zero → levels_with_types text mode left u at s ≡ too_deep at
unfolding levels_by
levels-none text mode left u at s none = rw none refl

levels-more : (text : List ℕ) (mode : Mode) (left inside : ℕ) (u : Part) (at : ℕ) (s : Position) → left ≡ suc inside → levels_with_types text mode left u at s ≡ reads_with_types text mode (levels_with_types text mode inside) (part_body u) s
unfolding levels_by
levels-more text mode left inside u at s one = rw one refl

pub levels-inside : (text : List ℕ) (mode : Mode) (left : ℕ) (u : Part) (at : ℕ) (s : Position) → left ≢ zero → levels_with_types text mode left u at s ≡ reads_with_types text mode (levels_with_types text mode (left - 1)) (part_body u) s
levels-inside text mode left u at s some = levels-more text mode left (left - 1) u at s (omega arith)

pub ruleset entering = (levels-none, levels-inside)
