-- What the devices over the standard library are.
use Rattle.std.specs.Prelude.{ℕ}

-- a reader that is called for a source
pub record StdSourceState (R : Type 0) : Type 0 where
  pub reader : R
  pub faults : ℕ
  pub calls : ℕ

-- a writer that is called for a sink
pub record StdSinkState (W : Type 0) : Type 0 where
  pub writer : W
  pub faults : ℕ
  pub calls : ℕ
