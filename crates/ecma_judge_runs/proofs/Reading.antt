-- What is read of names, and operators on values, leave all as it was.
use Rattle.std.proofs.Common.{ℕ, List, bytes_eq, codes}
use Rattle.ecma_kind.specs.declared.operators.BinaryOp.{BinaryOp}
use Rattle.ecma_kind.specs.declared.operators.BinaryOp.TheVariants as binary
use Rattle.ecma_runs.specs.Values.{Value, Number, Own, Host, Error, length_of}
use Rattle.ecma_runs.specs.State.{State}
use Rattle.ecma_runs.specs.Environment.{Reference, ToVariable, ToFree, ToMember, ToSuper, ToImportMeta, ToMetaMember, ToValue}
use Rattle.ecma_runs.specs.Meaning.{ExecutionContext}
use Rattle.ecma_runs.specs.Operators.{key_from, binary_value}
use Rattle.ecma_runs.specs.Members.{text_member}
use Rattle.ecma_runs.specs.Functions.{read, read_typed}
use Rattle.ecma_runs.specs.Expressions.{is_in, applied}
use Rattle.ecma_judge_runs.proofs.Lone.{lone}
use Rattle.ecma_judge_runs.proofs.Leaving.{Leaves, bind_leaves, give_leaves, throw_leaves, outside_leaves, when_leaves, unless_leaves, given_leaves}
use Rattle.ecma_judge_runs.proofs.Records.{Readable, read_variable_leaves, read_free_leaves, read_free_typed_leaves}
use Rattle.ecma_judge_runs.proofs.Objects.{has_member_leaves, instance_of_leaves}

module _ (old : State) where
  -- a member of a text
  pub text_member_leaves : (text key : List ℕ) → Leaves old (text_member text key)
  text_member_leaves text key = when_leaves old (bytes_eq key (codes "length")) (bind_leaves old (given_leaves old (length_of text)) (λ n. give_leaves old (Number n))) (outside_leaves old)

  module _ (x : ExecutionContext) where
    pub read_leaves : (r : Reference) → Readable r → Leaves old (read (lone x) r)
    read_leaves (ToVariable place id) h = read_variable_leaves old x.provided.imports place id
    read_leaves (ToFree name) h = unless_leaves old (bytes_eq name (codes "arguments")) _ h (read_free_leaves old x.provided.frees name)
    read_leaves (ToMember o key) h = absurd h
    read_leaves (ToSuper this base key) h = absurd h
    read_leaves ToImportMeta h = outside_leaves old
    read_leaves (ToMetaMember v) h = give_leaves old v
    read_leaves (ToValue v) h = give_leaves old v

    pub read_typed_leaves : (r : Reference) → Readable r → Leaves old (read_typed (lone x) r)
    read_typed_leaves (ToFree name) h = unless_leaves old (bytes_eq name (codes "arguments")) _ h (read_free_typed_leaves old x.provided.frees name)
    read_typed_leaves (ToVariable place id) h = read_leaves (ToVariable place id) h
    read_typed_leaves (ToMember o key) h = absurd h
    read_typed_leaves (ToSuper this base key) h = absurd h
    read_typed_leaves ToImportMeta h = outside_leaves old
    read_typed_leaves (ToMetaMember v) h = give_leaves old v
    read_typed_leaves (ToValue v) h = give_leaves old v

  is_in_leaves : (v w : Value) → Leaves old (is_in v w)
  is_in_leaves v (Own place) = bind_leaves old (given_leaves old (key_from v)) (λ k. has_member_leaves old (Own place) k)
  is_in_leaves v (Host number) = outside_leaves old
  is_in_leaves v (Error error_kind) = outside_leaves old
  is_in_leaves v _ = throw_leaves old _

  pub applied_leaves : (op : BinaryOp) (v w : Value) → Leaves old (applied op v w)
  applied_leaves binary.In v w = is_in_leaves v w
  applied_leaves binary.InstanceOf v w = instance_of_leaves old v w
  applied_leaves op v w = given_leaves old (binary_value op v w)
