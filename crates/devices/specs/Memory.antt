-- What the devices in memory are.
use Rattle.std.specs.Prelude.{ℕ, List}

-- a source that never fails
pub record SliceSourceState : Type 0 where
  pub left : List ℕ
  pub calls : ℕ

-- a source that fails at the calls listed, numbered from 1
pub record MemSourceState : Type 0 where
  pub left : List ℕ
  pub fail_at : List ℕ
  pub faults : ℕ
  pub calls : ℕ

-- a sink that never fails but for want of memory
pub record VecSinkState : Type 0 where
  pub taken : List ℕ
  pub calls : ℕ

-- a sink that takes at most so many bytes a call, and fails at the calls listed, numbered from 1
pub record MemSinkState : Type 0 where
  pub taken : List ℕ
  pub at_most : ℕ
  pub fail_at : List ℕ
  pub faults : ℕ
  pub calls : ℕ
