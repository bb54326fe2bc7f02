-- Patterns and parameters do alike where their parts do.
use Rattle.std.proofs.Common.{List, [], ◌∷◌}
use Rattle.ecma_kind.specs.declared.kind.Kind.{Kind}
use Rattle.ecma_kind.specs.declared.kind.Kind.TheVariants as kind
use Rattle.ecma_tree.specs.declared.node.Node.{Node}
use Rattle.ecma_runs.specs.Values.{Value, is_undefined, is_nullish}
use Rattle.ecma_runs.specs.State.{Entered}
use Rattle.ecma_runs.specs.Run.{Run, ◌>>=◌, give, given}
use Rattle.ecma_runs.specs.Functions.{write, first_or_undefined, all_but_first}
use Rattle.ecma_runs.specs.Expressions.{written_of}
use Rattle.ecma_runs.specs.Patterns.{or_default, assigned_of, all_targets, targets_of, all_matched, matched_of, bound_of, all_parameters, parameters_of}
use Rattle.ecma_runs.specs.Sought.{meanings, all_sought, sought_of}
use Rattle.ecma_runs.proofs.Scopes.{one, two}
use Rattle.ecma_runs.proofs.Alike.{Change, Standing, Alike, bind_by, bind_alike, give_alike, throw_alike, outside_alike, when_alike, given_alike}
use Rattle.ecma_runs.proofs.Environments.{KeepTexts, initialize_alike}
use Rattle.ecma_runs.proofs.Meanings.{at, World, first, second, Both, seekers, firsts, seconds}
use Rattle.ecma_runs.proofs.Members.{member_alike}
use Rattle.ecma_runs.proofs.Functions.{write_alike}
use Rattle.ecma_runs.proofs.Premises.{renamed_kind, KeptLayer, PlacedNode}
use Rattle.ecma_runs.proofs.Lists.{all_stay, all_targets_alike, all_matched_alike, all_parameters_alike}
use Rattle.ecma_runs.proofs.Expressions.{written_alike}

module _ (c : Change) {a : List Entered} (w : World (at c a)) where
  abbrev d : Change
  d = at c a

  or_default_alike : (default : Both c) → Standing c w.scope default.0.seeks.sought → {get get' : Run Value} → Alike d get get' → Alike d (or_default default.0.meaning get (first d w)) (or_default default.1 get' (second d w))
  or_default_alike default s h = bind_alike d h (λ v. when_alike d (is_undefined v) (default.2.initial w s) (give_alike d v))

  module _ (n : Node) (fine : c.fine n) where
    write_target_alike : (k : Kind) (ps : List (Both c)) → KeptLayer c k (firsts c ps) → PlacedNode c n w.scope k (seekers c ps) → {get get' : Run Value} → Alike d get get'
        → Alike d (written_of n k (firsts c ps) (first d w) >>= λ r. get >>= λ v. write (first d w) r v >>= λ _. give v)
        (written_of (c.node n) (renamed_kind c k) (seconds c ps) (second d w) >>= λ r. get' >>= λ v. write (second d w) r v >>= λ _. give v)
    write_target_alike k ps kept p {get' = get'} h =
        bind_by d (λ r. get' >>= λ v. write (second d w) r v >>= λ _. give v) (written_alike c w n fine k ps kept p) (λ r q. bind_alike d h (λ v. bind_alike d (write_alike d w r q v) (λ _. give_alike d v)))

    pub assigned_alike : (k : Kind) (ps : List (Both c)) → KeptLayer c k (firsts c ps) → PlacedNode c n w.scope k (seekers c ps) → (get get' : Run Value) → Alike d get get'
        → Alike d (assigned_of n k (firsts c ps) get (first d w)) (assigned_of (c.node n) (renamed_kind c k) (seconds c ps) get' (second d w))
    assigned_alike (kind.ObjectPat optional) (properties ∷ type ∷ []) kept p get get' h =
        bind_alike d h (λ v. bind_alike d (when_alike d (is_nullish v) (throw_alike d _) (properties.2.targets v w (one c.names _ _ p.0.0))) (λ _. give_alike d v))
    assigned_alike kind.AssignPat (target ∷ default ∷ []) kept p get get' h = target.2.assigned _ _ (or_default_alike default (two c.names _ _ _ p.0.0) h) w (one c.names _ _ p.0.0)
    assigned_alike k ps kept p get get' h = write_target_alike k ps kept p h

  text_alike : (name : Both c) → KeepTexts c name.0.meaning.shorthands → Alike d (given name.0.meaning.text) (given name.1.text)
  text_alike name texts = rw (name.2.text texts) (given_alike d name.0.meaning.text)

  pub targets_alike : (k : Kind) (ps : List (Both c)) → KeptLayer c k (firsts c ps) → Standing c w.scope (sought_of k (seekers c ps)) → (v : Value) → Alike d (targets_of k (firsts c ps) v (first d w)) (targets_of (renamed_kind c k) (seconds c ps) v (second d w))
  targets_alike kind.List ps kept s v = all_stay c (λ ls ms'. Standing c w.scope (all_sought ls) → Alike d (all_targets (meanings ls) v (first d w)) (all_targets ms' v (second d w))) (λ items z. all_targets_alike c w items z v) ps s
  targets_alike kind.KeyValuePatProp (key ∷ target ∷ []) u s v = bind_alike d (key.2.key w (one c.names _ _ s)) (λ k. bind_alike d (target.2.assigned _ _ (member_alike d w u v k) w (two c.names _ _ _ s)) (λ _. give_alike d tt))
  targets_alike kind.AssignPatProp (name ∷ default ∷ []) kept s v =
      bind_alike d (text_alike name kept.1) (λ k. bind_alike d (name.2.assigned _ _ (or_default_alike default (two c.names _ _ _ s) (member_alike d w kept.0 v k)) w (one c.names _ _ s)) (λ _. give_alike d tt))
  targets_alike (kind.TsTypeAliasDecl declare) ps kept s v = give_alike d tt
  targets_alike _ ps kept s v = outside_alike d

  pub matched_alike : (k : Kind) (ps : List (Both c)) → KeptLayer c k (firsts c ps) → Standing c w.scope (sought_of k (seekers c ps)) → (v : Value) → Alike d (matched_of k (firsts c ps) v (first d w)) (matched_of (renamed_kind c k) (seconds c ps) v (second d w))
  matched_alike kind.List ps kept s v = all_stay c (λ ls ms'. Standing c w.scope (all_sought ls) → Alike d (all_matched (meanings ls) v (first d w)) (all_matched ms' v (second d w))) (λ items z. all_matched_alike c w items z v) ps s
  matched_alike kind.KeyValuePatProp (key ∷ pattern' ∷ []) u s v = bind_alike d (key.2.key w (one c.names _ _ s)) (λ k. bind_alike d (member_alike d w u v k) (λ z. pattern'.2.bound z w (two c.names _ _ _ s)))
  matched_alike kind.AssignPatProp (name ∷ default ∷ []) kept s v =
      bind_alike d (text_alike name kept.1) (λ k. bind_alike d (or_default_alike default (two c.names _ _ _ s) (member_alike d w kept.0 v k)) (λ z. name.2.bound z w (one c.names _ _ s)))
  matched_alike (kind.TsTypeAliasDecl declare) ps kept s v = give_alike d tt
  matched_alike _ ps kept s v = outside_alike d

  pub bound_alike : (k : Kind) (ps : List (Both c)) → Standing c w.scope (sought_of k (seekers c ps)) → (v : Value) → Alike d (bound_of k (firsts c ps) v (first d w)) (bound_of (renamed_kind c k) (seconds c ps) v (second d w))
  bound_alike kind.BindingIdent (id ∷ annotation ∷ []) s v = rw (id.2.names) (initialize_alike d w.scope w.there id.0.meaning.names (one c.names _ _ s) v)
  bound_alike kind.AssignPat (pattern' ∷ default ∷ []) s v = bind_alike d (or_default_alike default (two c.names _ _ _ s) (give_alike d v)) (λ z. pattern'.2.bound z w (one c.names _ _ s))
  bound_alike (kind.ObjectPat optional) (properties ∷ type ∷ []) s v = when_alike d (is_nullish v) (throw_alike d _) (properties.2.matched v w (one c.names _ _ s))
  bound_alike _ ps s v = outside_alike d

  positional_alike : (k : Kind) (ps : List (Both c)) → Standing c w.scope (sought_of k (seekers c ps)) → (arguments : List Value)
      → Alike d (bound_of k (firsts c ps) (first_or_undefined arguments) (first d w) >>= λ _. give (all_but_first arguments)) (bound_of (renamed_kind c k) (seconds c ps) (first_or_undefined arguments) (second d w) >>= λ _. give (all_but_first arguments))
  positional_alike k ps s arguments = bind_alike d (bound_alike k ps s (first_or_undefined arguments)) (λ _. give_alike d (all_but_first arguments))

  pub parameters_alike : (k : Kind) (ps : List (Both c)) → Standing c w.scope (sought_of k (seekers c ps)) → (arguments : List Value) → Alike d (parameters_of k (firsts c ps) arguments (first d w)) (parameters_of (renamed_kind c k) (seconds c ps) arguments (second d w))
  parameters_alike kind.List ps s arguments =
      all_stay c (λ ls ms'. Standing c w.scope (all_sought ls) → Alike d (all_parameters (meanings ls) arguments (first d w)) (all_parameters ms' arguments (second d w))) (λ items z. all_parameters_alike c w items z arguments) ps s
  parameters_alike kind.Param (pattern' ∷ []) s arguments = bind_alike d (pattern'.2.bound (first_or_undefined arguments) w (one c.names _ _ s)) (λ _. give_alike d (all_but_first arguments))
  parameters_alike (kind.TsTypeAliasDecl declare) ps s arguments = give_alike d arguments
  parameters_alike k ps s arguments = positional_alike k ps s arguments
