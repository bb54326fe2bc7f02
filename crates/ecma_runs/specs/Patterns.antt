-- What patterns do, declared and assigned, and parameters (ECMAScript, 8.6 Miscellaneous, 13.15.5 Destructuring Assignment, 14.3.3 Destructuring Binding Patterns).
-- Array patterns and rest are open.
use Rattle.std.specs.Prelude.{List, [], ◌∷◌}
use Rattle.ecma_kind.specs.declared.kind.Kind.{Kind}
use Rattle.ecma_kind.specs.declared.kind.Kind.TheVariants as kind
use Rattle.ecma_tree.specs.declared.node.Node.{Node}
use Rattle.ecma_runs.specs.Values.{Value, is_undefined, is_nullish}
use Rattle.ecma_runs.specs.Run.{Run, ◌>>=◌, give, outside, type_error, when, given}
use Rattle.ecma_runs.specs.Environment.{initialize}
use Rattle.ecma_runs.specs.Meaning.{Evaluation, Meaning}
use Rattle.ecma_runs.specs.Members.{member}
use Rattle.ecma_runs.specs.Functions.{write, first_or_undefined, all_but_first}
use Rattle.ecma_runs.specs.Expressions.{written_of}

-- a default stands in for undefined
abbrev pub or_default : Meaning → Run Value → Evaluation Value
or_default default get x = get >>= λ v. when (is_undefined v) (default.initial x) (give v)

-- a target gets a value: what it refers to, then the value, then it is written
abbrev pub assigned_of : Node → Kind → List Meaning → Run Value → Evaluation Value
assigned_of node (kind.ObjectPat optional) (properties ∷ type ∷ []) get x =
    get >>= λ v. when (is_nullish v) type_error (properties.targets v x) >>= λ _. give v
assigned_of node kind.AssignPat (target ∷ default ∷ []) get x = target.assigned (or_default default get x) x
assigned_of node k children get x = written_of node k children x >>= λ r. get >>= λ v. write x r v >>= λ _. give v

abbrev pub all_targets : List Meaning → Value → Evaluation (Unit {0})
all_targets [] v x = give tt
all_targets (m ∷ ms) v x = m.targets v x >>= λ _. all_targets ms v x

-- 13.15.5.3 PropertyDestructuringAssignmentEvaluation: the key, the target, the member
abbrev pub targets_of : Kind → List Meaning → Value → Evaluation (Unit {0})
targets_of kind.List items v x = all_targets items v x
targets_of kind.KeyValuePatProp (key ∷ target ∷ []) v x = key.key x >>= λ k. target.assigned (member x v k) x >>= λ _. give tt
targets_of kind.AssignPatProp (name ∷ default ∷ []) v x = given name.text >>= λ k. name.assigned (or_default default (member x v k) x) x >>= λ _. give tt
targets_of (kind.TsTypeAliasDecl declare) children v x = give tt
targets_of _ children v x = outside

abbrev pub all_matched : List Meaning → Value → Evaluation (Unit {0})
all_matched [] v x = give tt
all_matched (m ∷ ms) v x = m.matched v x >>= λ _. all_matched ms v x

-- 14.3.3.1 PropertyBindingInitialization
abbrev pub matched_of : Kind → List Meaning → Value → Evaluation (Unit {0})
matched_of kind.List items v x = all_matched items v x
matched_of kind.KeyValuePatProp (key ∷ pattern' ∷ []) v x = key.key x >>= λ k. member x v k >>= λ w. pattern'.bound w x
matched_of kind.AssignPatProp (name ∷ default ∷ []) v x = given name.text >>= λ k. or_default default (member x v k) x >>= λ w. name.bound w x
matched_of (kind.TsTypeAliasDecl declare) children v x = give tt
matched_of _ children v x = outside

-- 8.6.2 BindingInitialization
abbrev pub bound_of : Kind → List Meaning → Value → Evaluation (Unit {0})
bound_of kind.BindingIdent (id ∷ annotation ∷ []) v x = initialize x.scope id.names v
bound_of kind.AssignPat (pattern' ∷ default ∷ []) v x = or_default default (give v) x >>= λ w. pattern'.bound w x
bound_of (kind.ObjectPat optional) (properties ∷ type ∷ []) v x = when (is_nullish v) type_error (properties.matched v x)
bound_of _ children v x = outside

abbrev pub all_parameters : List Meaning → List Value → Evaluation (List Value)
all_parameters [] arguments x = give arguments
all_parameters (m ∷ ms) arguments x = m.parameters arguments x >>= λ left. all_parameters ms left x

-- parameters take arguments, and give those that are left (8.6.3 IteratorBindingInitialization)
abbrev pub parameters_of : Kind → List Meaning → List Value → Evaluation (List Value)
parameters_of kind.List items arguments x = all_parameters items arguments x
parameters_of kind.Param (pattern' ∷ []) arguments x = pattern'.bound (first_or_undefined arguments) x >>= λ _. give (all_but_first arguments)
parameters_of (kind.TsTypeAliasDecl declare) children arguments x = give arguments
-- of an arrow
parameters_of k children arguments x = bound_of k children (first_or_undefined arguments) x >>= λ _. give (all_but_first arguments)
