-- A function expression that does nothing leaves all as it was when it is called where it stands.
use Rattle.std.proofs.Common.{◌≡◌, refl, sym, ap, ◌∙◌, subst, ◌⊎◌, inl, inr, ℕ, ◌++◌, List, [], ◌∷◌, map, Option, Some, None, Bool, true, false, ◌&&◌, ◌||◌, cond, codes, slice_get}
use Rattle.std.specs.List.{list_all}
use Rattle.ecma_kind.specs.declared.kind.Kind.{Kind}
use Rattle.ecma_kind.specs.declared.kind.Kind.TheVariants as kind
use Rattle.ecma_tree.specs.declared.node.Node.{Node, out-Node}
use Rattle.ecma_runs.specs.Values.{Value, Undefined, Own}
use Rattle.ecma_runs.specs.State.{Id, Entered, Binding, Activation, Sort, Plain, Method, Closure, Code, Entry, Object, State}
use Rattle.ecma_runs.specs.Run.{Ended, TurnsSpent, Run, then_outcome, ◌>>=◌, give, outside, when}
use Rattle.ecma_runs.specs.Environment.{Reference, ToValue, empty, is_among, initialize, initialize_one}
use Rattle.ecma_runs.specs.Meaning.{Invocation, AsCall, Known, ExecutionContext, inside, Meaning}
use Rattle.ecma_runs.specs.Objects.{callable_in, code_in, Function, calling_of}
use Rattle.ecma_runs.specs.Declarations.{all_names, has_no_effect}
use Rattle.ecma_runs.specs.Patterns.{all_parameters}
use Rattle.ecma_runs.specs.Functions.{prototype_entries, function_entries, open_entries, plain_object, function_object, closure_of, new_function, callee_by, call, call_calling, call_own}
use Rattle.ecma_runs.specs.Expressions.{function_value, chained, continued, call_by, call_link}
use Rattle.ecma_runs.specs.Classes.{run_code}
use Rattle.ecma_runs.specs.Evaluation.{in_record, as_it_is, called_with, entered, role_by, no_effect, meaning_by, meaning, invoked, closure_context, invoke_closure, functions_with, apply_at, apply}
use Rattle.ecma_runs.proofs.Layer.{meaning_out}
use Rattle.ecma_runs.proofs.Names.{among_first}
use Rattle.ecma_runs.proofs.Scopes.{ids_of-empties}
use Rattle.ecma_judge_runs.proofs.Lone.{lone}
use Rattle.ecma_judge_runs.specs.Still.{Still}
use Rattle.ecma_judge_runs.specs.Called.{is_function_expression, called, AppliesFunctions}
use Rattle.ecma_judge_runs.specs.Idle.{is_named_by, is_named, is_plain_by, is_plain, are_plain_by, are_plain, has_none_by, has_none, is_empty_by, is_empty, is_harmless_by, is_harmless}
use Rattle.ecma_judge.specs.Parts.{passes_at}
use Rattle.ecma_judge_runs.proofs.Passing.{passes_second}
use Rattle.ecma_judge_runs.proofs.Callees.{some_leaves}
use Rattle.ecma_judge_runs.proofs.Both.{both_true, two_true}
use Rattle.ecma_judge_runs.proofs.Fronts.{last_at, front_at}
use Rattle.ecma_judge_runs.proofs.Leaving.{LeavesBy, Leaves, bind_by, bind_leaves, give_leaves, outside_leaves, when_leaves, returned_by_leaves, spend_leaves}
use Rattle.ecma_judge_runs.proofs.Keeping.{Any, FollowsIn, LeavesFrom, bind_from, of_leaves, leaves_of, leaves_by_of, kept_from, where_alone_from, give_from, when_from}
use Rattle.ecma_judge_runs.proofs.Records.{Readable, NewRecord, new_environment_as, new_environment_by, set_variable_leaves}
use Rattle.ecma_judge_runs.proofs.Objects.{new_object_leaves}
use Rattle.ecma_judge_runs.proofs.Data.{set_all_from}

-- ---- names among others

abbrev all_among : List Id → List Id → Bool
all_among ids others = list_all (λ (id : Id). is_among id others) ids

or_right : (a b : Bool) → b ≡ true → (a || b) ≡ true
or_right true b h = refl
or_right false b h = h

among_more : (ids others : List Id) (other : Id) → all_among ids others ≡ true → all_among ids (other ∷ others) ≡ true
among_more [] others other h = refl
among_more (id ∷ ids) others other h =
    let t = both_true (is_among id others) (all_among ids others) h in
    two_true (is_among id (other ∷ others)) (all_among ids (other ∷ others)) (or_right _ (is_among id others) t.0) (among_more ids others other t.1)

among_itself : (ids : List Id) → all_among ids ids ≡ true
among_itself [] = refl
among_itself (id ∷ ids) = two_true (is_among id (id ∷ ids)) (all_among ids (id ∷ ids)) (among_first id ids) (among_more ids ids id (among_itself ids))

among_parts : (ids more others : List Id) → all_among (ids ++ more) others ≡ true → (all_among ids others ≡ true) × (all_among more others ≡ true)
among_parts [] more others h = (refl, h)
among_parts (id ∷ ids) more others h =
    let t = both_true (is_among id others) (all_among (ids ++ more) others) h in
    let u = among_parts ids more others t.1 in (two_true (is_among id others) (all_among ids others) t.0 u.0, u.1)

met_leaves : (old : State) {A : Type 0} (b : Bool) {m : Run A} (k : Run A) → b ≡ true → Leaves old m → Leaves old (when b m k)
met_leaves old true k is h = h
met_leaves old false k is h = absurd (cc)

module _ (old : State) where
  -- ---- the code

  -- names of a new record get their first values in it
  initialize_leaves : (place : Entered) (outer : List Entered) (ids : List Id) (v : Value) → NewRecord old place → all_among ids place.ids ≡ true → Leaves old (initialize (place ∷ outer) ids v)
  initialize_leaves place outer [] v new among = give_leaves old tt
  initialize_leaves place outer (id ∷ ids) v new among =
      let t = both_true (is_among id place.ids) (all_among ids place.ids) among in
      bind_leaves old (met_leaves old (is_among id place.ids) (initialize_one outer id v) t.0 (set_variable_leaves old place.place id v new)) (λ _. initialize_leaves place outer ids v new t.1)

  module _ (y : ExecutionContext) (place : Entered) (new : NewRecord old place) where
    bound_by : (n : Node) (k : Kind) (cs : List Node) → is_named_by k cs ≡ true → all_among (meaning_by n k (map meaning cs)).names place.ids ≡ true → (v : Value) → Leaves old ((meaning_by n k (map meaning cs)).bound v (inside y place))
    bound_by n kind.BindingIdent (id ∷ annotation ∷ []) named among v = initialize_leaves place y.scope (meaning id).names v new among
    bound_by n k cs named among v = absurd (cc)

    bound_leaves : (n : Node) → is_named n ≡ true → all_among (meaning n).names place.ids ≡ true → (v : Value) → Leaves old ((meaning n).bound v (inside y place))
    bound_leaves n named among v =
        subst (λ m. Leaves old (m.bound v (inside y place))) (sym (meaning_out n))
        (bound_by n (out-Node n).kind (out-Node n).children named (subst (λ m. all_among m.names place.ids ≡ true) (meaning_out n) among) v)

    either_parameter : (n p : Node) (b : Bool) → is_named p ≡ true → all_among (cond b (no_effect n) (role_by n kind.Param (meaning p ∷ []))).names place.ids ≡ true → (arguments : List Value)
        → Leaves old ((cond b (no_effect n) (role_by n kind.Param (meaning p ∷ []))).parameters arguments (inside y place))
    either_parameter n p true named among arguments = give_leaves old arguments
    either_parameter n p false named among arguments = bind_leaves old (bound_leaves p named among _) (λ _. give_leaves old _)

    parameter_by : (n : Node) (k : Kind) (cs : List Node) → is_plain_by k cs ≡ true → all_among (meaning_by n k (map meaning cs)).names place.ids ≡ true → (arguments : List Value)
        → Leaves old ((meaning_by n k (map meaning cs)).parameters arguments (inside y place))
    parameter_by n kind.Param (p ∷ []) plain among arguments = either_parameter n p (meaning p).is_this plain among arguments
    parameter_by n k cs plain among arguments = absurd (cc)

    parameter_leaves : (n : Node) → is_plain n ≡ true → all_among (meaning n).names place.ids ≡ true → (arguments : List Value) → Leaves old ((meaning n).parameters arguments (inside y place))
    parameter_leaves n plain among arguments =
        subst (λ m. Leaves old (m.parameters arguments (inside y place))) (sym (meaning_out n))
        (parameter_by n (out-Node n).kind (out-Node n).children plain (subst (λ m. all_among m.names place.ids ≡ true) (meaning_out n) among) arguments)

    all_parameters_leaves : (ns : List Node) → list_all is_plain ns ≡ true → all_among (all_names (map meaning ns)) place.ids ≡ true → (arguments : List Value) → Leaves old (all_parameters (map meaning ns) arguments (inside y place))
    all_parameters_leaves [] plain among arguments = give_leaves old arguments
    all_parameters_leaves (n ∷ ns) plain among arguments =
        let p = both_true (is_plain n) (list_all is_plain ns) plain in
        let t = among_parts (meaning n).names (all_names (map meaning ns)) place.ids among in
        bind_leaves old (parameter_leaves n p.0 t.0 arguments) (λ left. all_parameters_leaves ns p.1 t.1 left)

    parameters_by : (n : Node) (k : Kind) (cs : List Node) → are_plain_by k cs ≡ true → all_among (meaning_by n k (map meaning cs)).names place.ids ≡ true → (arguments : List Value)
        → Leaves old ((meaning_by n k (map meaning cs)).parameters arguments (inside y place))
    parameters_by n kind.List cs plain among arguments = all_parameters_leaves cs plain among arguments
    parameters_by n k cs plain among arguments = absurd (cc)

    parameters_leaves : (n : Node) → are_plain n ≡ true → all_among (meaning n).names place.ids ≡ true → (arguments : List Value) → Leaves old ((meaning n).parameters arguments (inside y place))
    parameters_leaves n plain among arguments =
        subst (λ m. Leaves old (m.parameters arguments (inside y place))) (sym (meaning_out n))
        (parameters_by n (out-Node n).kind (out-Node n).children plain (subst (λ m. all_among m.names place.ids ≡ true) (meaning_out n) among) arguments)

  none_by : (z : ExecutionContext) (n : Node) (k : Kind) (cs : List Node) → has_none_by k cs ≡ true → Leaves old ((meaning_by n k (map meaning cs)).hoisted z) × Leaves old ((meaning_by n k (map meaning cs)).completion z)
  none_by z n kind.List [] h = (give_leaves old tt, give_leaves old tt)
  none_by z n k cs h = absurd (cc)

  none_leaves : (z : ExecutionContext) (n : Node) → has_none n ≡ true → Leaves old ((meaning n).hoisted z) × Leaves old ((meaning n).completion z)
  none_leaves z n h = subst (λ m. Leaves old (m.hoisted z) × Leaves old (m.completion z)) (sym (meaning_out n)) (none_by z n (out-Node n).kind (out-Node n).children h)

  body_by : (z : ExecutionContext) (names : List Id) (n : Node) (k : Kind) (cs : List Node) → is_empty_by k cs ≡ true → Leaves old ((meaning_by n k (map meaning cs)).body names z)
  body_by z names n kind.BlockStmt (statements ∷ []) h =
      bind_by old (new_environment_by old _ None) (λ place new. bind_leaves old (none_leaves (inside z place) statements h).0 (λ _. (none_leaves (inside z place) statements h).1))
  body_by z names n k cs h = absurd (cc)

  body_leaves : (z : ExecutionContext) (names : List Id) (n : Node) → is_empty n ≡ true → Leaves old ((meaning n).body names z)
  body_leaves z names n h = subst (λ m. Leaves old (m.body names z)) (sym (meaning_out n)) (body_by z names n (out-Node n).kind (out-Node n).children h)

  code_leaves : (y : ExecutionContext) (place : Entered) → NewRecord old place → (parameters body : Node) → are_plain parameters ≡ true → is_empty body ≡ true
      → all_among (meaning parameters).names place.ids ≡ true → (arguments : List Value)
      → Leaves old (run_code (meaning parameters) (meaning body) arguments (inside y place))
  code_leaves y place new parameters body plain empty' among arguments =
      bind_leaves old (parameters_leaves y place new parameters plain among arguments)
      (λ _. when_leaves old _ (body_leaves (inside y place) (meaning parameters).names body empty') (outside_leaves old))

  -- of what has no code, a call is open
  open_leaves : (y : ExecutionContext) (bindings : List Binding) (activation : Option Activation) → Leaves old (in_record bindings activation (λ z. outside) as_it_is y)
  open_leaves y bindings activation =
      bind_by old (new_environment_by old bindings activation) (λ place new. bind_leaves old (returned_by_leaves old {A = Unit {0}} (λ _. Undefined) (outside_leaves old)) (λ v. give_leaves old v))

  entered_by : (y : ExecutionContext) (activation : Option Activation) (arguments : List Value) (n : Node) (k : Kind) (cs : List Node) → is_harmless_by k cs ≡ true
      → Leaves old (entered (meaning_by n k (map meaning cs)) activation arguments as_it_is y)
  entered_by y activation arguments n (kind.Function false false) (parameters ∷ body ∷ types ∷ return_type ∷ []) h =
      let t = both_true (are_plain parameters) (is_empty body) h in
      bind_by old (new_environment_as old (map (empty false) (meaning parameters).names) activation) (λ place new.
      bind_leaves old (returned_by_leaves old (λ _. Undefined) (code_leaves y place new.0 parameters body t.0 t.1
      (subst (λ ids. all_among (meaning parameters).names ids ≡ true) (sym (new.1 ∙ ids_of-empties false (meaning parameters).names)) (among_itself (meaning parameters).names)) arguments)) (λ v. give_leaves old v))
  entered_by y activation arguments n (kind.Function false true) cs h = open_leaves y [] activation
  entered_by y activation arguments n (kind.Function true is_async) cs h = open_leaves y [] activation
  entered_by y activation arguments n k cs h = absurd (cc)

  -- a function that does nothing is called
  entered_leaves : (y : ExecutionContext) (activation : Option Activation) (arguments : List Value) (n : Node) → is_harmless n ≡ true → Leaves old (entered (meaning n) activation arguments as_it_is y)
  entered_leaves y activation arguments n h = subst (λ m. Leaves old (entered m activation arguments as_it_is y)) (sym (meaning_out n)) (entered_by y activation arguments n (out-Node n).kind (out-Node n).children h)

-- ---- its object

-- a call of a function of this kind comes to its code
abbrev is_entered : Sort → Bool
is_entered Plain = true
is_entered Method = true
is_entered sort = false

pub record IsIdleAt (f : ℕ) (objects : List Object) : Type 0 where
  pub object : Object
  pub closure : Closure
  pub at : slice_get objects f ≡ Some object
  pub code : object.callable ≡ Some (Code closure)
  pub enters : is_entered closure.sort ≡ true
  pub idle : is_harmless closure.node ≡ true

still_idle : (f : ℕ) (s t : State) → Still s t → IsIdleAt f s.objects → IsIdleAt f t.objects
still_idle f s t still h = record { object = h.object; closure = h.closure; at = front_at s.objects t.objects f h.object still.objects h.at; code = h.code; enters = h.enters; idle = h.idle }

module _ (old : State) where
  abbrev Idle : ℕ → State → Type 0
  Idle f s = IsIdleAt f s.objects

  new_idle : (x : ExecutionContext) (entries : List Entry) (parent : Option ℕ) (n : Node) (sort : Sort) → is_entered sort ≡ true → is_harmless n ≡ true → LeavesFrom old Any Idle (new_function entries parent n sort None x)
  new_idle x entries parent n sort is h =
      let o : Object = function_object entries parent (Code (closure_of n sort None x)) in
      record { at = λ s g r. (((new_object_leaves old o).at s g).0, record { object = o; closure = closure_of n sort None x; at = last_at s.objects o; code = refl; enters = is; idle = h }) }

  made_by : (x : ExecutionContext) (n : Node) (k : Kind) (cs : List Node) → (is_harmless_by k cs ≡ true → is_harmless n ≡ true) → is_harmless_by k cs ≡ true
      → LeavesFrom old Any Idle ((meaning_by n k (map meaning cs)).made Plain None x)
  made_by x n (kind.Function false false) cs up h = bind_from old (of_leaves old {R = Any} (new_object_leaves old _)) (λ place. new_idle x (prototype_entries true place) None n Plain refl (up h))
  made_by x n (kind.Function false true) cs up h = new_idle x function_entries None n Method refl (up h)
  made_by x n (kind.Function true is_async) cs up h =
      bind_from old (of_leaves old {R = Any} (new_object_leaves old _)) (λ above. bind_from old (of_leaves old {R = Any} (new_object_leaves old (plain_object [] (Some above)))) (λ place.
      bind_from old (of_leaves old {R = Any} (new_object_leaves old (plain_object (open_entries (codes "prototype" ∷ [])) None))) (λ functions. new_idle x (prototype_entries true place) (Some functions) n Method refl (up h))))
  made_by x n k cs up h = absurd (cc)

  made_idle : (x : ExecutionContext) (n : Node) → is_harmless n ≡ true → LeavesFrom old Any Idle ((meaning n).made Plain None x)
  made_idle x n h = subst (λ m. LeavesFrom old Any Idle (m.made Plain None x)) (sym (meaning_out n)) (made_by x n (out-Node n).kind (out-Node n).children (λ is. is) h)

  -- what the expression refers to
  abbrev RefersToIdle : Reference → State → Type 0
  RefersToIdle r s = (f : ℕ) × (r ≡ ToValue (Own f)) × Idle f s

  module _ (x : ExecutionContext) where
    value_idle : (ids : List Id) (function : Node) → is_harmless function ≡ true → LeavesFrom old Any RefersToIdle (function_value ids (meaning function) (lone x) >>= λ v. give (ToValue v))
    value_idle ids function h =
        bind_from old {P = λ v s. (f : ℕ) × (v ≡ Own f) × Idle f s}
        (bind_from old (of_leaves old {R = Any} (new_environment_by old (map (empty true) ids) None)) (λ place. where_alone_from old (λ new.
        bind_from old (made_idle (inside (lone x) place) function h) (λ f. bind_from old (set_all_from old (IsIdleAt f) ids place.place (Own f) new) (λ _. give_from old (Own f) (λ s i. (f, refl, i)))))))
        (λ v. give_from old (ToValue v) (λ s i. (i.0, ap ToValue i.1, i.2)))

    -- ---- its call

    invoked_leaves : (m : Meaning) (f : ℕ) (home : Option ℕ) (sort : Sort) (vs : List Value) (y : ExecutionContext) → is_entered sort ≡ true
        → Leaves old (entered m (Some (called_with Undefined f home vs)) vs as_it_is y) → Leaves old (invoked m f home sort (AsCall Undefined) vs y)
    invoked_leaves m f home Plain vs y is h = h
    invoked_leaves m f home Method vs y is h = h
    invoked_leaves m f home sort vs y is h = absurd (cc)

    calling_follows : (f : ℕ) (sort : Sort) (vs : List Value) (s : State) → is_entered sort ≡ true
        → FollowsIn old (λ v t. Unit {0}) (x.functions.invoke f (AsCall Undefined) vs s) → FollowsIn old (λ v t. Unit {0}) (call_calling (lone x) f Undefined vs (Some (Function sort)) s)
    calling_follows f Plain vs s is h = h
    calling_follows f Method vs s is h = h
    calling_follows f sort vs s is h = absurd (cc)

    module _ (applies : AppliesFunctions (lone x)) where
      apply_at_idle : (inner : ℕ → Invocation → List Value → Run Value) (known : Known) (f : ℕ) (vs : List Value) → LeavesFrom old (Idle f) (λ v s. Unit {0}) (apply_at inner x.provided known f (AsCall Undefined) vs)
      apply_at_idle inner known f vs = record {
        at = λ s g h.
            let functions = functions_with inner x.provided known in
            subst (λ z. FollowsIn old (λ v s. Unit {0}) (invoke_closure functions x.provided known f (AsCall Undefined) vs (code_in (callable_in z)) s)) (sym h.at)
            (subst (λ z. FollowsIn old (λ v s. Unit {0}) (invoke_closure functions x.provided known f (AsCall Undefined) vs (code_in z) s)) (sym h.code)
            ((of_leaves old {R = Any} (invoked_leaves (meaning h.closure.node) f h.closure.home h.closure.sort vs (closure_context functions x.provided known h.closure) h.enters
            (entered_leaves old (closure_context functions x.provided known h.closure) (Some (called_with Undefined f h.closure.home vs)) vs h.closure.node h.idle))).at s g tt));
      }

      apply_idle : (inner : ℕ → Invocation → List Value → Run Value) (known : Known) (f : ℕ) (vs : List Value) → LeavesFrom old (Idle f) (λ v s. Unit {0}) (apply inner x.provided known f (AsCall Undefined) vs)
      apply_idle inner known f vs = bind_from old (kept_from old (Idle f) (still_idle f) (λ s. spend_leaves s)) (λ _. apply_at_idle inner known f vs)

      invoke_follows : (f : ℕ) (vs : List Value) (s : State) → Still old s → Idle f s
          → ((x.functions.invoke f (AsCall Undefined) vs s ≡ Ended TurnsSpent s)
          ⊎ ((inner : ℕ → Invocation → List Value → Run Value) × (known : Known) × (x.functions.invoke f (AsCall Undefined) vs s ≡ apply inner x.provided known f (AsCall Undefined) vs s)))
          → FollowsIn old (λ v t. Unit {0}) (x.functions.invoke f (AsCall Undefined) vs s)
      invoke_follows f vs s g h (inl e) = subst (λ r. FollowsIn old (λ v t. Unit {0}) r) (sym e) g
      invoke_follows f vs s g h (inr e) = subst (λ r. FollowsIn old (λ v t. Unit {0}) r) (sym e.2) ((apply_idle e.0 e.1 f vs).at s g h)

      call_idle : (f : ℕ) (vs : List Value) → LeavesFrom old (Idle f) (λ v s. Unit {0}) (call_own (lone x) f Undefined vs)
      call_idle f vs = record {
        at = λ s g h.
            subst (λ z. FollowsIn old (λ v t. Unit {0}) (then_outcome (calling_of (callable_in z) s) (λ o. call_calling (lone x) f Undefined vs o))) (sym h.at)
            (subst (λ z. FollowsIn old (λ v t. Unit {0}) (then_outcome (calling_of z s) (λ o. call_calling (lone x) f Undefined vs o))) (sym h.code)
            (calling_follows f h.closure.sort vs s h.enters (invoke_follows f vs s g h (applies f (AsCall Undefined) vs s))));
      }

      -- on values that are there

      call_of : (values : List Value) (r : Reference) → LeavesFrom old (RefersToIdle r) (λ v s. Unit {0}) (callee_by (lone x) r >>= λ c. call (lone x) c values)
      call_of values r = record {
        at = λ s g i. subst (λ z. FollowsIn old (λ v t. Unit {0}) ((callee_by (lone x) z >>= λ c. call (lone x) c values) s)) (sym i.1) ((call_idle i.0 values).at s g i.2);
      }

      either_called_on : (values : List Value) (b : Bool) (m k : Meaning) → Leaves old (called m values (lone x)) → Leaves old (called k values (lone x)) → Leaves old (called (cond b m k) values (lone x))
      either_called_on values true m k hm hk = hm
      either_called_on values false m k hm hk = hk

      function_called : (values : List Value) (n : Node) (k : Kind) (cs : List Node) → (out-Node n).children ≡ cs → is_function_expression k ≡ true → passes_at is_harmless 1 n ≡ true
          → Leaves old (called (meaning_by n k (map meaning cs)) values (lone x))
      function_called values n kind.FnExpr (name ∷ function ∷ []) shape is idle =
          either_called_on values (has_no_effect kind.FnExpr (meaning name ∷ meaning function ∷ [])) (no_effect n) (role_by n kind.FnExpr (meaning name ∷ meaning function ∷ [])) (outside_leaves old)
          (leaves_of old (bind_from old (value_idle (meaning name).names function (passes_second is_harmless n name function [] shape idle)) (call_of values)))
      function_called values n kind.FnExpr cs shape is idle = outside_leaves old
      function_called values n k cs shape is idle = absurd (cc)

      pub function_called_on : (values : List Value) (n : Node) → is_function_expression (out-Node n).kind ≡ true → passes_at is_harmless 1 n ≡ true → Leaves old (called (meaning n) values (lone x))
      function_called_on values n is idle =
          subst (λ m. Leaves old (called m values (lone x))) (sym (meaning_out n)) (function_called values n (out-Node n).kind (out-Node n).children refl is idle)

      -- on arguments that leave all as it was

      module _ (arguments : Meaning) (h : (s : State) → Leaves s (arguments.arguments (lone x))) where
        call_behind : (r : Reference) → LeavesFrom old (RefersToIdle r) (λ v s. Unit {0}) (callee_by (lone x) r >>= λ c. arguments.arguments (lone x) >>= λ vs. call (lone x) c vs)
        call_behind r = record {
          at = λ s g i. subst (λ z. FollowsIn old (λ v t. Unit {0}) ((callee_by (lone x) z >>= λ c. arguments.arguments (lone x) >>= λ vs. call (lone x) c vs) s)) (sym i.1)
              ((bind_from old (kept_from old (Idle i.0) (still_idle i.0) h) (λ vs. call_idle i.0 vs)).at s g i.2);
        }

        link_behind : (optional : Bool) (r : Reference) → LeavesFrom old (RefersToIdle r) (λ o s. Readable (chained o)) (callee_by (lone x) r >>= λ c. call_link optional c arguments (lone x))
        link_behind optional r = record {
          at = λ s g i. subst (λ z. FollowsIn old (λ o t. Readable (chained o)) ((callee_by (lone x) z >>= λ c. call_link optional c arguments (lone x)) s)) (sym i.1)
              ((when_from old (optional && false) (give_from old None (λ t j. tt))
              (bind_from old (kept_from old (Idle i.0) (still_idle i.0) h) (λ vs. bind_from old (call_idle i.0 vs) (λ v. give_from old (Some (ToValue v)) (λ t j. tt))))).at s g i.2);
        }

        either_call : (b : Bool) (m k : Meaning) → Leaves old (call_by m.is_super m arguments (lone x)) → Leaves old (call_by k.is_super k arguments (lone x)) → Leaves old (call_by (cond b m k).is_super (cond b m k) arguments (lone x))
        either_call true m k hm hk = hm
        either_call false m k hm hk = hk

        function_call : (n : Node) (k : Kind) (cs : List Node) → (out-Node n).children ≡ cs → is_function_expression k ≡ true → passes_at is_harmless 1 n ≡ true
            → Leaves old (call_by (meaning_by n k (map meaning cs)).is_super (meaning_by n k (map meaning cs)) arguments (lone x))
        function_call n kind.FnExpr (name ∷ function ∷ []) shape is idle =
            either_call (has_no_effect kind.FnExpr (meaning name ∷ meaning function ∷ [])) (no_effect n) (role_by n kind.FnExpr (meaning name ∷ meaning function ∷ [])) (outside_leaves old)
            (leaves_of old (bind_from old (value_idle (meaning name).names function (passes_second is_harmless n name function [] shape idle)) call_behind))
        function_call n kind.FnExpr cs shape is idle = outside_leaves old
        function_call n k cs shape is idle = absurd (cc)

        -- a call of such an expression
        pub call_function_leaves : (n : Node) → is_function_expression (out-Node n).kind ≡ true → passes_at is_harmless 1 n ≡ true → Leaves old (call_by (meaning n).is_super (meaning n) arguments (lone x))
        call_function_leaves n is idle =
            subst (λ m. Leaves old (call_by m.is_super m arguments (lone x))) (sym (meaning_out n)) (function_call n (out-Node n).kind (out-Node n).children refl is idle)

        module _ (optional : Bool) where
          abbrev LinksWell : Meaning → Type 0
          LinksWell m = LeavesBy old (λ o. Readable (chained o)) (m.chain (lone x) >>= λ o. continued o (λ r. callee_by (lone x) r >>= λ c. call_link optional c arguments (lone x)))

          either_link : (b : Bool) (m k : Meaning) → LinksWell m → LinksWell k → LinksWell (cond b m k)
          either_link true m k hm hk = hm
          either_link false m k hm hk = hk

          function_link : (n : Node) (k : Kind) (cs : List Node) → (out-Node n).children ≡ cs → is_function_expression k ≡ true → passes_at is_harmless 1 n ≡ true → LinksWell (meaning_by n k (map meaning cs))
          function_link n kind.FnExpr (name ∷ function ∷ []) shape is idle =
              either_link (has_no_effect kind.FnExpr (meaning name ∷ meaning function ∷ [])) (no_effect n) (role_by n kind.FnExpr (meaning name ∷ meaning function ∷ [])) (outside_leaves old)
              (some_leaves old (λ o. Readable (chained o)) (function_value (meaning name).names (meaning function) (lone x) >>= λ v. give (ToValue v)) (λ r. callee_by (lone x) r >>= λ c. call_link optional c arguments (lone x))
              (leaves_by_of old (bind_from old (value_idle (meaning name).names function (passes_second is_harmless n name function [] shape idle)) (link_behind optional))))
          function_link n kind.FnExpr cs shape is idle = outside_leaves old
          function_link n k cs shape is idle = absurd (cc)

          -- an optional call
          pub link_function_leaves : (n : Node) → is_function_expression (out-Node n).kind ≡ true → passes_at is_harmless 1 n ≡ true → LinksWell (meaning n)
          link_function_leaves n is idle = subst LinksWell (sym (meaning_out n)) (function_link n (out-Node n).kind (out-Node n).children refl is idle)
