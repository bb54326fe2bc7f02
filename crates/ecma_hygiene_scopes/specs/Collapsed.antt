-- Contexts of which it counts alone whether they are empty, that of free names, or a scope's.
use Rattle.std.specs.Prelude.{ℕ, ◌==◌, cond}

-- the contexts of all scopes become one
abbrev pub collapsed : ℕ → ℕ → ℕ
collapsed free ctxt = cond (ctxt == 0) 0 (cond (ctxt == free) 1 2)
