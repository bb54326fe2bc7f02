-- Patterns, declared and assigned, and parameters keep it so.
use Rattle.std.proofs.Common.{List, [], ◌∷◌}
use Rattle.ecma_kind.specs.declared.kind.Kind.{Kind}
use Rattle.ecma_kind.specs.declared.kind.Kind.TheVariants as kind
use Rattle.ecma_tree.specs.declared.node.Node.{Node}
use Rattle.ecma_runs.specs.declared.shown.ErrorKind.TheVariants as error
use Rattle.ecma_runs.specs.Values.{Value, Error, is_undefined, is_nullish}
use Rattle.ecma_runs.specs.Run.{Run, ◌>>=◌, give}
use Rattle.ecma_runs.specs.Meaning.{ExecutionContext}
use Rattle.ecma_runs.specs.Functions.{write, first_or_undefined, all_but_first}
use Rattle.ecma_runs.specs.Expressions.{written_of}
use Rattle.ecma_runs.specs.Patterns.{or_default, assigned_of, all_targets, targets_of, all_matched, matched_of, bound_of, all_parameters, parameters_of}
use Rattle.ecma_run_constructions.proofs.Keeping.{Keeps, bind, give_keeps, throw_keeps, outside_keeps, when_keeps, given_keeps}
use Rattle.ecma_run_constructions.proofs.States.{initialize_keeps}
use Rattle.ecma_run_constructions.proofs.Functions.{Sound, member_keeps, write_keeps}
use Rattle.ecma_run_constructions.proofs.Expressions.{Part, meanings, written_keeps}

module _ (x : ExecutionContext) (sound : Sound x.functions) where
  or_default_keeps : (default : Part) {get : Run Value} → Keeps get → Keeps (or_default default.0 get x)
  or_default_keeps default h = bind h (λ v. when_keeps (is_undefined v) (default.1.initial x sound) (give_keeps v))

  module _ (node : Node) where
    gets_keeps : (k : Kind) (ps : List Part) {get : Run Value} → Keeps get → Keeps (written_of node k (meanings ps) x >>= λ r. get >>= λ v. write x r v >>= λ _. give v)
    gets_keeps k ps h = bind (written_keeps x sound node k ps) (λ r. bind h (λ v. bind (write_keeps x sound r v) (λ _. give_keeps v)))

    pub assigned_keeps : (k : Kind) (ps : List Part) {get : Run Value} → Keeps get → Keeps (assigned_of node k (meanings ps) get x)
    assigned_keeps (kind.ObjectPat optional) (properties ∷ type ∷ []) h = bind h (λ v. bind (when_keeps (is_nullish v) (throw_keeps (Error error.Kind)) (properties.1.targets v x sound)) (λ _. give_keeps v))
    assigned_keeps kind.AssignPat (target ∷ default ∷ []) h = target.1.assigned (or_default_keeps default h) x sound
    assigned_keeps k ps h = gets_keeps k ps h

  all_targets_keeps : (ps : List Part) (v : Value) → Keeps (all_targets (meanings ps) v x)
  all_targets_keeps [] v = give_keeps tt
  all_targets_keeps (p ∷ ps) v = bind (p.1.targets v x sound) (λ _. all_targets_keeps ps v)

  pub targets_keeps : (k : Kind) (ps : List Part) (v : Value) → Keeps (targets_of k (meanings ps) v x)
  targets_keeps kind.List ps v = all_targets_keeps ps v
  targets_keeps kind.KeyValuePatProp (key ∷ target ∷ []) v = bind (key.1.key x sound) (λ k. bind (target.1.assigned (member_keeps x sound v k) x sound) (λ _. give_keeps tt))
  targets_keeps kind.AssignPatProp (name ∷ default ∷ []) v = bind (given_keeps name.0.text) (λ k. bind (name.1.assigned (or_default_keeps default (member_keeps x sound v k)) x sound) (λ _. give_keeps tt))
  targets_keeps (kind.TsTypeAliasDecl declare) ps v = give_keeps tt
  targets_keeps _ ps v = outside_keeps

  all_matched_keeps : (ps : List Part) (v : Value) → Keeps (all_matched (meanings ps) v x)
  all_matched_keeps [] v = give_keeps tt
  all_matched_keeps (p ∷ ps) v = bind (p.1.matched v x sound) (λ _. all_matched_keeps ps v)

  pub matched_keeps : (k : Kind) (ps : List Part) (v : Value) → Keeps (matched_of k (meanings ps) v x)
  matched_keeps kind.List ps v = all_matched_keeps ps v
  matched_keeps kind.KeyValuePatProp (key ∷ pattern' ∷ []) v = bind (key.1.key x sound) (λ k. bind (member_keeps x sound v k) (λ w. pattern'.1.bound w x sound))
  matched_keeps kind.AssignPatProp (name ∷ default ∷ []) v = bind (given_keeps name.0.text) (λ k. bind (or_default_keeps default (member_keeps x sound v k)) (λ w. name.1.bound w x sound))
  matched_keeps (kind.TsTypeAliasDecl declare) ps v = give_keeps tt
  matched_keeps _ ps v = outside_keeps

  pub bound_keeps : (k : Kind) (ps : List Part) (v : Value) → Keeps (bound_of k (meanings ps) v x)
  bound_keeps kind.BindingIdent (id ∷ annotation ∷ []) v = initialize_keeps x.scope id.0.names v
  bound_keeps kind.AssignPat (pattern' ∷ default ∷ []) v = bind (or_default_keeps default (give_keeps v)) (λ w. pattern'.1.bound w x sound)
  bound_keeps (kind.ObjectPat optional) (properties ∷ type ∷ []) v = when_keeps (is_nullish v) (throw_keeps (Error error.Kind)) (properties.1.matched v x sound)
  bound_keeps _ ps v = outside_keeps

  all_parameters_keeps : (ps : List Part) (vs : List Value) → Keeps (all_parameters (meanings ps) vs x)
  all_parameters_keeps [] vs = give_keeps vs
  all_parameters_keeps (p ∷ ps) vs = bind (p.1.parameters vs x sound) (λ left. all_parameters_keeps ps left)

  bound_first : (k : Kind) (ps : List Part) (vs : List Value) → Keeps (bound_of k (meanings ps) (first_or_undefined vs) x >>= λ _. give (all_but_first vs))
  bound_first k ps vs = bind (bound_keeps k ps (first_or_undefined vs)) (λ _. give_keeps (all_but_first vs))

  pub parameters_keeps : (k : Kind) (ps : List Part) (vs : List Value) → Keeps (parameters_of k (meanings ps) vs x)
  parameters_keeps kind.List ps vs = all_parameters_keeps ps vs
  parameters_keeps kind.Param (pattern' ∷ []) vs = bind (pattern'.1.bound (first_or_undefined vs) x sound) (λ _. give_keeps (all_but_first vs))
  parameters_keeps (kind.TsTypeAliasDecl declare) ps vs = give_keeps vs
  parameters_keeps k ps vs = bound_first k ps vs
