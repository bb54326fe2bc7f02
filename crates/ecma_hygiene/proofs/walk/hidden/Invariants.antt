use Rattle.std.proofs.Common.{◌≡◌, [], drop}
use Rattle.ecma_hygiene.specs.Frames.{scopes_of}
use Rattle.ecma_hygiene.specs.Sights.{hidden}
use Rattle.ecma_hygiene.proofs.walk.hidden.Given as goal

-- the scopes further in decide
abbrev pub invariant-loop-frame : goal.invariant-loop-frame
invariant-loop-frame l = hidden (scopes_of (drop l.frame-index l.frame-items)) l.id l.so_far ≡ hidden (scopes_of l.frames) l.id []
