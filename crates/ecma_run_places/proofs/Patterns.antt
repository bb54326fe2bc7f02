-- Patterns, declared and assigned, and parameters do alike.
use Rattle.std.proofs.Common.{List, [], ◌∷◌}
use Rattle.ecma_kind.specs.declared.kind.Kind.{Kind}
use Rattle.ecma_kind.specs.declared.kind.Kind.TheVariants as kind
use Rattle.ecma_tree.specs.declared.node.Node.{Node}
use Rattle.ecma_runs.specs.declared.shown.ErrorKind.TheVariants as error
use Rattle.ecma_runs.specs.Values.{Value}
use Rattle.ecma_runs.specs.Run.{Run, ◌>>=◌, give}
use Rattle.ecma_runs.specs.Functions.{write, first_or_undefined, all_but_first}
use Rattle.ecma_runs.specs.Expressions.{written_of}
use Rattle.ecma_runs.specs.Patterns.{or_default, assigned_of, all_targets, targets_of, all_matched, matched_of, bound_of, all_parameters, parameters_of}
use Rattle.ecma_run_places.specs.Worlds.{World, Above, Same, is, Like, errors}
use Rattle.ecma_run_places.specs.Alike.{Alike, Likes, Contexts, first, second}
use Rattle.ecma_run_places.proofs.Growing.{above, itself, value_up, values_up, reference_up, later}
use Rattle.ecma_run_places.proofs.Combinators.{keeps_alike, here_bind_same, bind, bind_same, give_alike, throw_alike, outside_alike, when_alike, given_same}
use Rattle.ecma_run_places.proofs.Records.{initialize_kept}
use Rattle.ecma_run_places.proofs.Operators.{undefined_same, nullish_same}
use Rattle.ecma_run_places.proofs.Members.{member_alike}
use Rattle.ecma_run_places.proofs.Functions.{write_alike, first_like, others_like}
use Rattle.ecma_run_places.proofs.Expressions.{Part, meanings, written_alike}

-- a run that gives a value, now and later
abbrev pub Gives : World → Run Value → Run Value → Type 0
Gives w get get' = (v : World) → Above w v → Alike v Like get get'

or_default_alike : {w : World} (c : Contexts w) (default : Part) {get get' : Run Value} → Alike w Like get get' → Alike w Like (or_default default.0 get (first c)) (or_default default.0 get' (second c))
or_default_alike c default h = bind h (λ v u _ _ q. when_alike (undefined_same q) (default.1.initial (later u c)) (give_alike q))

module _ (node : Node) where
  gets_alike : {w : World} (c : Contexts w) {get get' : Run Value} → Gives w get get' → (k : Kind) (ps : List Part)
      → Alike w Like (written_of node k (meanings ps) (first c) >>= λ r. get >>= λ v. write (first c) r v >>= λ _. give v) (written_of node k (meanings ps) (second c) >>= λ r. get' >>= λ v. write (second c) r v >>= λ _. give v)
  gets_alike c h k ps =
      bind (written_alike node c k ps) (λ v u _ _ r. bind (h v u) (λ v' u' _ _ q. bind_same (write_alike (later (above u u') c) (reference_up u' r) q) (λ v'' u'' _. give_alike (value_up u'' q))))

  pub assigned_alike : {w : World} (c : Contexts w) {get get' : Run Value} → Gives w get get' → (k : Kind) (ps : List Part)
      → Alike w Like (assigned_of node k (meanings ps) get (first c)) (assigned_of node k (meanings ps) get' (second c))
  assigned_alike {w} c h (kind.ObjectPat optional) (properties ∷ type ∷ []) =
      bind (h w itself) (λ v u _ _ q. bind_same (when_alike (nullish_same q) (throw_alike (errors error.Kind)) (properties.1.targets (later u c) q)) (λ v' u' _. give_alike (value_up u' q)))
  assigned_alike c h kind.AssignPat (target ∷ default ∷ []) = target.1.assigned c (λ v u. or_default_alike (later u c) default (h v u))
  assigned_alike c h k ps = gets_alike c h k ps

all_targets_alike : {w : World} (c : Contexts w) (ps : List Part) {v v' : Value} → Like w v v' → Alike w Same (all_targets (meanings ps) v (first c)) (all_targets (meanings ps) v' (second c))
all_targets_alike c [] q = give_alike is
all_targets_alike c (p ∷ ps) q = bind_same (p.1.targets c q) (λ v u _. all_targets_alike (later u c) ps (value_up u q))

pub targets_alike : {w : World} (c : Contexts w) (k : Kind) (ps : List Part) {v v' : Value} → Like w v v' → Alike w Same (targets_of k (meanings ps) v (first c)) (targets_of k (meanings ps) v' (second c))
targets_alike c kind.List ps q = all_targets_alike c ps q
targets_alike c kind.KeyValuePatProp (key ∷ target ∷ []) q =
    bind_same (key.1.key c) (λ v u k. bind (target.1.assigned (later u c) (λ v' u'. member_alike (later (above u u') c) (value_up (above u u') q) k)) (λ v' u' _ _ _. give_alike is))
targets_alike c kind.AssignPatProp (name ∷ default ∷ []) q =
    here_bind_same (given_same name.0.text) (λ k. bind (name.1.assigned c (λ v u. or_default_alike (later u c) default (member_alike (later u c) (value_up u q) k))) (λ v u _ _ _. give_alike is))
targets_alike c (kind.TsTypeAliasDecl declare) ps q = give_alike is
targets_alike c _ ps q = outside_alike

all_matched_alike : {w : World} (c : Contexts w) (ps : List Part) {v v' : Value} → Like w v v' → Alike w Same (all_matched (meanings ps) v (first c)) (all_matched (meanings ps) v' (second c))
all_matched_alike c [] q = give_alike is
all_matched_alike c (p ∷ ps) q = bind_same (p.1.matched c q) (λ v u _. all_matched_alike (later u c) ps (value_up u q))

pub matched_alike : {w : World} (c : Contexts w) (k : Kind) (ps : List Part) {v v' : Value} → Like w v v' → Alike w Same (matched_of k (meanings ps) v (first c)) (matched_of k (meanings ps) v' (second c))
matched_alike c kind.List ps q = all_matched_alike c ps q
matched_alike c kind.KeyValuePatProp (key ∷ pattern' ∷ []) q =
    bind_same (key.1.key c) (λ v u k. bind (member_alike (later u c) (value_up u q) k) (λ v' u' _ _ r. pattern'.1.bound (later (above u u') c) r))
matched_alike c kind.AssignPatProp (name ∷ default ∷ []) q =
    here_bind_same (given_same name.0.text) (λ k. bind (or_default_alike c default (member_alike c q k)) (λ v u _ _ r. name.1.bound (later u c) r))
matched_alike c (kind.TsTypeAliasDecl declare) ps q = give_alike is
matched_alike c _ ps q = outside_alike

pub bound_alike : {w : World} (c : Contexts w) (k : Kind) (ps : List Part) {v v' : Value} → Like w v v' → Alike w Same (bound_of k (meanings ps) v (first c)) (bound_of k (meanings ps) v' (second c))
bound_alike c kind.BindingIdent (id ∷ annotation ∷ []) q = keeps_alike (initialize_kept c.scopes id.0.names q)
bound_alike c kind.AssignPat (pattern' ∷ default ∷ []) q = bind (or_default_alike c default (give_alike q)) (λ v u _ _ r. pattern'.1.bound (later u c) r)
bound_alike c (kind.ObjectPat optional) (properties ∷ type ∷ []) q = when_alike (nullish_same q) (throw_alike (errors error.Kind)) (properties.1.matched c q)
bound_alike c _ ps q = outside_alike

all_parameters_alike : {w : World} (c : Contexts w) (ps : List Part) {vs vs' : List Value} → Likes w vs vs'
    → Alike w Likes (all_parameters (meanings ps) vs (first c)) (all_parameters (meanings ps) vs' (second c))
all_parameters_alike c [] qs = give_alike qs
all_parameters_alike c (p ∷ ps) qs = bind (p.1.parameters c qs) (λ v u _ _ left. all_parameters_alike (later u c) ps left)

bound_first : {w : World} (c : Contexts w) (k : Kind) (ps : List Part) {vs vs' : List Value} → Likes w vs vs'
    → Alike w Likes (bound_of k (meanings ps) (first_or_undefined vs) (first c) >>= λ _. give (all_but_first vs)) (bound_of k (meanings ps) (first_or_undefined vs') (second c) >>= λ _. give (all_but_first vs'))
bound_first c k ps qs = bind_same (bound_alike c k ps (first_like qs)) (λ v u _. give_alike (values_up u (others_like qs)))

pub parameters_alike : {w : World} (c : Contexts w) (k : Kind) (ps : List Part) {vs vs' : List Value} → Likes w vs vs'
    → Alike w Likes (parameters_of k (meanings ps) vs (first c)) (parameters_of k (meanings ps) vs' (second c))
parameters_alike c kind.List ps qs = all_parameters_alike c ps qs
parameters_alike c kind.Param (pattern' ∷ []) qs = bind_same (pattern'.1.bound c (first_like qs)) (λ v u _. give_alike (values_up u (others_like qs)))
parameters_alike c (kind.TsTypeAliasDecl declare) ps qs = give_alike qs
parameters_alike c k ps qs = bound_first c k ps qs
