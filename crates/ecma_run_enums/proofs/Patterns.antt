-- Patterns, declared and assigned, and parameters do the same.
use Rattle.std.proofs.Common.{◌≡◌, refl, List, [], ◌∷◌}
use Rattle.ecma_kind.specs.declared.kind.Kind.{Kind}
use Rattle.ecma_kind.specs.declared.kind.Kind.TheVariants as kind
use Rattle.ecma_tree.specs.declared.node.Node.{Node}
use Rattle.ecma_runs.specs.Values.{Value, is_undefined, is_nullish}
use Rattle.ecma_runs.specs.Run.{Run, ◌>>=◌, give, given, when, type_error}
use Rattle.ecma_runs.specs.Meaning.{ExecutionContext}
use Rattle.ecma_runs.specs.Functions.{write, first_or_undefined, all_but_first}
use Rattle.ecma_runs.specs.Expressions.{written_of}
use Rattle.ecma_runs.specs.Patterns.{or_default, assigned_of, all_targets, targets_of, all_matched, matched_of, bound_of, all_parameters, parameters_of}
use Rattle.ecma_run_enums.proofs.Two.{Two, first, second, Part, meanings, assigned_by}
use Rattle.ecma_run_enums.proofs.Functions.{member_same, write_same}
use Rattle.ecma_run_enums.proofs.Expressions.{Unasked, written_same}

module _ (t : Two) (x : ExecutionContext) where
  or_default_same : (default : Part t) {get get' : Run Value} → get ≡ get' → or_default default.0 get (first t x) ≡ or_default default.0 get' (second t x)
  or_default_same default same = λ i. same i >>= λ v. when (is_undefined v) (default.1.initial x i) (give v)

  module _ (node : Node) where
    gets_same : (k : Kind) (ps : List (Part t)) (get : Run Value) → Unasked t node k
        → (written_of node k (meanings t ps) (first t x) >>= λ r. get >>= λ v. write (first t x) r v >>= λ _. give v) ≡ (written_of node k (meanings t ps) (second t x) >>= λ r. get >>= λ v. write (second t x) r v >>= λ _. give v)
    gets_same k ps get h = λ i. written_same t x node k ps h i >>= λ r. get >>= λ v. write_same t x r v i >>= λ _. give v

    pub assigned_same : (k : Kind) (ps : List (Part t)) (get : Run Value) → Unasked t node k → assigned_of node k (meanings t ps) get (first t x) ≡ assigned_of node k (meanings t ps) get (second t x)
    assigned_same (kind.ObjectPat optional) (properties ∷ type ∷ []) get h = λ i. get >>= λ v. when (is_nullish v) type_error (properties.1.targets v x i) >>= λ _. give v
    assigned_same kind.AssignPat (target ∷ default ∷ []) get h = assigned_by t x target (or_default_same default refl)
    assigned_same k ps get h = gets_same k ps get h

  all_targets_same : (ps : List (Part t)) (v : Value) → all_targets (meanings t ps) v (first t x) ≡ all_targets (meanings t ps) v (second t x)
  all_targets_same [] v = refl
  all_targets_same (p ∷ ps) v = λ i. p.1.targets v x i >>= λ _. all_targets_same ps v i

  pub targets_same : (k : Kind) (ps : List (Part t)) (v : Value) → targets_of k (meanings t ps) v (first t x) ≡ targets_of k (meanings t ps) v (second t x)
  targets_same kind.List ps v = all_targets_same ps v
  targets_same kind.KeyValuePatProp (key ∷ target ∷ []) v = λ i. key.1.key x i >>= λ k. assigned_by t x target (member_same t x v k) i >>= λ _. give tt
  targets_same kind.AssignPatProp (name ∷ default ∷ []) v = λ i. given name.0.text >>= λ k. assigned_by t x name (or_default_same default (member_same t x v k)) i >>= λ _. give tt
  targets_same _ ps v = refl

  all_matched_same : (ps : List (Part t)) (v : Value) → all_matched (meanings t ps) v (first t x) ≡ all_matched (meanings t ps) v (second t x)
  all_matched_same [] v = refl
  all_matched_same (p ∷ ps) v = λ i. p.1.matched v x i >>= λ _. all_matched_same ps v i

  pub matched_same : (k : Kind) (ps : List (Part t)) (v : Value) → matched_of k (meanings t ps) v (first t x) ≡ matched_of k (meanings t ps) v (second t x)
  matched_same kind.List ps v = all_matched_same ps v
  matched_same kind.KeyValuePatProp (key ∷ pattern' ∷ []) v = λ i. key.1.key x i >>= λ k. member_same t x v k i >>= λ w. pattern'.1.bound w x i
  matched_same kind.AssignPatProp (name ∷ default ∷ []) v = λ i. given name.0.text >>= λ k. or_default_same default (member_same t x v k) i >>= λ w. name.1.bound w x i
  matched_same _ ps v = refl

  pub bound_same : (k : Kind) (ps : List (Part t)) (v : Value) → bound_of k (meanings t ps) v (first t x) ≡ bound_of k (meanings t ps) v (second t x)
  bound_same kind.BindingIdent (id ∷ annotation ∷ []) v = refl
  bound_same kind.AssignPat (pattern' ∷ default ∷ []) v = λ i. or_default_same default {get = give v} refl i >>= λ w. pattern'.1.bound w x i
  bound_same (kind.ObjectPat optional) (properties ∷ type ∷ []) v = λ i. when (is_nullish v) type_error (properties.1.matched v x i)
  bound_same _ ps v = refl

  all_parameters_same : (ps : List (Part t)) (vs : List Value) → all_parameters (meanings t ps) vs (first t x) ≡ all_parameters (meanings t ps) vs (second t x)
  all_parameters_same [] vs = refl
  all_parameters_same (p ∷ ps) vs = λ i. p.1.parameters vs x i >>= λ left. all_parameters_same ps left i

  pub parameters_same : (k : Kind) (ps : List (Part t)) (vs : List Value) → parameters_of k (meanings t ps) vs (first t x) ≡ parameters_of k (meanings t ps) vs (second t x)
  parameters_same kind.List ps vs = all_parameters_same ps vs
  parameters_same kind.Param (pattern' ∷ []) vs = λ i. pattern'.1.bound (first_or_undefined vs) x i >>= λ _. give (all_but_first vs)
  parameters_same (kind.TsTypeAliasDecl declare) ps vs = refl
  parameters_same k ps vs = λ i. bound_same k ps (first_or_undefined vs) i >>= λ _. give (all_but_first vs)
