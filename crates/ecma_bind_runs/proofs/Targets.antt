-- What a pattern that is assigned to means is made of what its parts mean as targets.
use Rattle.std.proofs.Common.{◌≡◌, ◌∙◌, Bool, List, [], ◌∷◌, ◌++◌, map, None, refl, sym, ap, ap₂}
use Rattle.ecma_kind.specs.declared.kind.Kind.TheVariants as kind
use Rattle.ecma_kind.specs.declared.operators.AssignOp.TheVariants.{Assign}
use Rattle.ecma_tree.specs.declared.node.Node.{Node}
use Rattle.ecma_tree.specs.Nodes.{absent}
use Rattle.ecma_runs.specs.Values.{Value}
use Rattle.ecma_runs.specs.State.{Id, Binding}
use Rattle.ecma_runs.specs.Run.{◌>>=◌}
use Rattle.ecma_runs.specs.Meaning.{Evaluation, Meaning}
use Rattle.ecma_runs.specs.Patterns.{all_targets, assigned_of}
use Rattle.ecma_runs.specs.Declarations.{all_declared, all_names, all_vars}
use Rattle.ecma_runs.specs.Evaluation.{meaning_by, role_by}

-- what a meaning is as a target, as one of the targets of a pattern, and what it declares
abbrev pub target_alone : Meaning → Meaning
target_alone m = record (role_by absent kind.Absent []) { assigned = m.assigned; targets = m.targets; names = m.names; vars = m.vars; declared = m.declared; text = m.text }

-- two that mean the same as targets
abbrev pub Near : Meaning → Meaning → Type 0
Near m m' = target_alone m ≡ target_alone m'

-- ---- lists

targets_alone : (ms : List Meaning) → all_targets ms ≡ all_targets (map target_alone ms)
targets_alone [] = refl
targets_alone (m ∷ ms) = ap (λ f v x. m.targets v x >>= λ _. f v x) (targets_alone ms)

names_alone : (ms : List Meaning) → all_names ms ≡ all_names (map target_alone ms)
names_alone [] = refl
names_alone (m ∷ ms) = ap (λ z. m.names ++ z) (names_alone ms)

vars_alone : (ms : List Meaning) → all_vars ms ≡ all_vars (map target_alone ms)
vars_alone [] = refl
vars_alone (m ∷ ms) = ap (λ z. m.vars ++ z) (vars_alone ms)

declared_alone : (ms : List Meaning) → all_declared ms ≡ all_declared (map target_alone ms)
declared_alone [] = refl
declared_alone (m ∷ ms) = ap (λ z. m.declared ++ z) (declared_alone ms)

abbrev listed : (Value → Evaluation (Unit {0})) → List Id → List Binding → List Id → Meaning
listed targets names vars declared = record (role_by absent kind.Absent []) { assigned = assigned_of absent kind.List []; targets = targets; names = names; vars = vars; declared = declared; text = None }

listed_is : (n : Node) (ms : List Meaning) → target_alone (meaning_by n kind.List ms) ≡ listed (all_targets ms) (all_names ms) (all_vars ms) (all_declared ms)
listed_is n ms = refl

pub list_near : (n n' : Node) (ms ms' : List Meaning) → map target_alone ms ≡ map target_alone ms' → Near (meaning_by n kind.List ms) (meaning_by n' kind.List ms')
list_near n n' ms ms' near = listed_is n ms ∙ alone ms ∙ ap (λ zs. listed (all_targets zs) (all_names zs) (all_vars zs) (all_declared zs)) near ∙ sym (alone ms') ∙ sym (listed_is n' ms')
  where
    alone : (ms : List Meaning) → listed (all_targets ms) (all_names ms) (all_vars ms) (all_declared ms)
        ≡ listed (all_targets (map target_alone ms)) (all_names (map target_alone ms)) (all_vars (map target_alone ms)) (all_declared (map target_alone ms))
    alone ms =
        ap₂ (λ t v. listed t (all_names ms) v (all_declared ms)) (targets_alone ms) (vars_alone ms)
        ∙ ap₂ (λ l d. listed (all_targets (map target_alone ms)) l (all_vars (map target_alone ms)) d) (names_alone ms) (declared_alone ms)

-- ---- patterns

module _ (n n' : Node) where
  array_alone : (o : Bool) (m : Meaning) (ms : List Meaning) → target_alone (meaning_by n (kind.ArrayPat o) (m ∷ ms)) ≡ target_alone (meaning_by n' (kind.ArrayPat o) (target_alone m ∷ ms))
  array_alone o m [] = refl
  array_alone o m (t ∷ []) = refl
  array_alone o m (t ∷ u ∷ ms) = refl

  object_alone : (o : Bool) (m : Meaning) (ms : List Meaning) → target_alone (meaning_by n (kind.ObjectPat o) (m ∷ ms)) ≡ target_alone (meaning_by n' (kind.ObjectPat o) (target_alone m ∷ ms))
  object_alone o m [] = refl
  object_alone o m (t ∷ []) = refl
  object_alone o m (t ∷ u ∷ ms) = refl

  rest_alone : (m : Meaning) (ms : List Meaning) → target_alone (meaning_by n kind.RestPat (m ∷ ms)) ≡ target_alone (meaning_by n' kind.RestPat (target_alone m ∷ ms))
  rest_alone m [] = refl
  rest_alone m (t ∷ []) = refl
  rest_alone m (t ∷ u ∷ ms) = refl

  default_alone : (m : Meaning) (ms : List Meaning) → target_alone (meaning_by n kind.AssignPat (m ∷ ms)) ≡ target_alone (meaning_by n' kind.AssignPat (target_alone m ∷ ms))
  default_alone m [] = refl
  default_alone m (d ∷ []) = refl
  default_alone m (d ∷ u ∷ ms) = refl

  short_alone : (m : Meaning) (ms : List Meaning) → target_alone (meaning_by n kind.AssignPatProp (m ∷ ms)) ≡ target_alone (meaning_by n' kind.AssignPatProp (target_alone m ∷ ms))
  short_alone m [] = refl
  short_alone m (d ∷ []) = refl
  short_alone m (d ∷ u ∷ ms) = refl

  key_alone : (k m : Meaning) (ms : List Meaning) → target_alone (meaning_by n kind.KeyValuePatProp (k ∷ m ∷ ms)) ≡ target_alone (meaning_by n' kind.KeyValuePatProp (k ∷ target_alone m ∷ ms))
  key_alone k m [] = refl
  key_alone k m (u ∷ ms) = refl

module _ (n n' : Node) (m m' : Meaning) (ms : List Meaning) (near : Near m m') where
  pub array_near : (o : Bool) → Near (meaning_by n (kind.ArrayPat o) (m ∷ ms)) (meaning_by n' (kind.ArrayPat o) (m' ∷ ms))
  array_near o = array_alone n n' o m ms ∙ ap (λ z. target_alone (meaning_by n' (kind.ArrayPat o) (z ∷ ms))) near ∙ sym (array_alone n' n' o m' ms)

  pub object_near : (o : Bool) → Near (meaning_by n (kind.ObjectPat o) (m ∷ ms)) (meaning_by n' (kind.ObjectPat o) (m' ∷ ms))
  object_near o = object_alone n n' o m ms ∙ ap (λ z. target_alone (meaning_by n' (kind.ObjectPat o) (z ∷ ms))) near ∙ sym (object_alone n' n' o m' ms)

  pub rest_near : Near (meaning_by n kind.RestPat (m ∷ ms)) (meaning_by n' kind.RestPat (m' ∷ ms))
  rest_near = rest_alone n n' m ms ∙ ap (λ z. target_alone (meaning_by n' kind.RestPat (z ∷ ms))) near ∙ sym (rest_alone n' n' m' ms)

  pub default_near : Near (meaning_by n kind.AssignPat (m ∷ ms)) (meaning_by n' kind.AssignPat (m' ∷ ms))
  default_near = default_alone n n' m ms ∙ ap (λ z. target_alone (meaning_by n' kind.AssignPat (z ∷ ms))) near ∙ sym (default_alone n' n' m' ms)

  pub short_near : Near (meaning_by n kind.AssignPatProp (m ∷ ms)) (meaning_by n' kind.AssignPatProp (m' ∷ ms))
  short_near = short_alone n n' m ms ∙ ap (λ z. target_alone (meaning_by n' kind.AssignPatProp (z ∷ ms))) near ∙ sym (short_alone n' n' m' ms)

  pub key_near : (k : Meaning) → Near (meaning_by n kind.KeyValuePatProp (k ∷ m ∷ ms)) (meaning_by n' kind.KeyValuePatProp (k ∷ m' ∷ ms))
  key_near k = key_alone n n' k m ms ∙ ap (λ z. target_alone (meaning_by n' kind.KeyValuePatProp (k ∷ z ∷ ms))) near ∙ sym (key_alone n' n' k m' ms)

-- ---- what assigns

module _ (n : Node) where
  assign_alone : (m : Meaning) (ms : List Meaning) → meaning_by n (kind.AssignExpr Assign) (m ∷ ms) ≡ meaning_by n (kind.AssignExpr Assign) (target_alone m ∷ ms)
  assign_alone m [] = refl
  assign_alone m (r ∷ []) = refl
  assign_alone m (r ∷ u ∷ ms) = refl

  in_alone : (m : Meaning) (ms : List Meaning) → meaning_by n kind.ForInStmt (m ∷ ms) ≡ meaning_by n kind.ForInStmt (target_alone m ∷ ms)
  in_alone m ms = refl

  of_alone : (b : Bool) (m : Meaning) (ms : List Meaning) → meaning_by n (kind.ForOfStmt b) (m ∷ ms) ≡ meaning_by n (kind.ForOfStmt b) (target_alone m ∷ ms)
  of_alone b m ms = refl

module _ (n : Node) (m m' : Meaning) (ms : List Meaning) (near : Near m m') where
  pub assign_same : meaning_by n (kind.AssignExpr Assign) (m ∷ ms) ≡ meaning_by n (kind.AssignExpr Assign) (m' ∷ ms)
  assign_same = assign_alone n m ms ∙ ap (λ z. meaning_by n (kind.AssignExpr Assign) (z ∷ ms)) near ∙ sym (assign_alone n m' ms)

  pub in_same : meaning_by n kind.ForInStmt (m ∷ ms) ≡ meaning_by n kind.ForInStmt (m' ∷ ms)
  in_same = in_alone n m ms ∙ ap (λ z. meaning_by n kind.ForInStmt (z ∷ ms)) near ∙ sym (in_alone n m' ms)

  pub of_same : (b : Bool) → meaning_by n (kind.ForOfStmt b) (m ∷ ms) ≡ meaning_by n (kind.ForOfStmt b) (m' ∷ ms)
  of_same b = of_alone n b m ms ∙ ap (λ z. meaning_by n (kind.ForOfStmt b) (z ∷ ms)) near ∙ sym (of_alone n b m' ms)
