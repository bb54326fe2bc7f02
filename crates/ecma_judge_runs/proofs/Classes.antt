-- Classes, properties and members without effects leave all as it was.
use Rattle.std.proofs.Common.{◌≡◌, refl, ◌∙◌, inl, ℕ, ◌++◌, List, [], ◌∷◌, map, Some, None, Bool, true, false, cond}
use Rattle.ecma_kind.specs.declared.kind.Kind.{Kind}
use Rattle.ecma_kind.specs.declared.kind.Kind.TheVariants as kind
use Rattle.ecma_kind.specs.declared.operators.MethodKind.TheVariants as method
use Rattle.ecma_tree.specs.declared.node.Node.{Node}
use Rattle.ecma_judge.specs.declared.ctx.ExprCtx.{ExprCtx}
use Rattle.ecma_judge.specs.Effects.{effects_by, access_effects_by, part_effects_by}
use Rattle.ecma_judge.specs.Judged.{judged}
use Rattle.ecma_judge.specs.PureCallees.{pure_callee_by}
use Rattle.ecma_runs.specs.Values.{Own}
use Rattle.ecma_runs.specs.State.{Id, Entered, Method, BaseClass, DerivedClass, State}
use Rattle.ecma_runs.specs.Environment.{empty}
use Rattle.ecma_runs.specs.Meaning.{ExecutionContext, Meaning}
use Rattle.ecma_runs.specs.Evaluation.{role_by, meaning}
use Rattle.ecma_runs.specs.Functions.{prototype_entries}
use Rattle.ecma_runs.specs.Classes.{heritage, field_activation, class_in, class_value, class_made_of, sets_prototype, literal_key, all_defined, defined_of, field_with, all_statics, statics_of}
use Rattle.ecma_runs.proofs.Scopes.{ids_of-empties}
use Rattle.ecma_judge_runs.proofs.Lone.{lone}
use Rattle.ecma_judge_runs.specs.Called.{Assumed}
use Rattle.ecma_judge_runs.specs.Taken.{is_taken}
use Rattle.ecma_judge_runs.proofs.Leaving.{Leaves, bind_by, bind_leaves, give_leaves, outside_leaves, when_leaves}
use Rattle.ecma_judge_runs.proofs.Keeping.{leaves_of, weaker_from, outside_from}
use Rattle.ecma_judge_runs.proofs.Records.{NewRecord, new_environment_as, set_all_leaves}
use Rattle.ecma_judge_runs.proofs.Objects.{NewObject, new_prototype_by, new_function_by, make_function_leaves, define_data_leaves, define_method_leaves, keep_field_keys_leaves, prototype_property_leaves, parent_class_leaves, parent_prototype_leaves}
use Rattle.ecma_judge_runs.proofs.Reading.{read_leaves}
use Rattle.ecma_judge_runs.proofs.Data.{make_function_from, make_generator_from}
use Rattle.ecma_judge_runs.proofs.Both.{both_true, neither_true}
use Rattle.ecma_judge_runs.proofs.Meanings.{NamesApart, Apart, apart_inside, within, Makes, Quiet, Claimed, meanings, HasNone, IsTaken, AllQuiet, all_quiet, first_quiet, second_whole}
use Rattle.ecma_judge_runs.proofs.Expressions.{identifier_by}

module _ (ctx : ExprCtx) (sure : Assumed) (off : ctx.is_unresolved_ref_safe ≡ false) (x : ExecutionContext) where
  -- a function's object is made, whatever the function is
  pub made_leaves : (n : Node) (k : Kind) (ms : List Meaning) → Makes ctx sure (lone x) (role_by n k ms)
  made_leaves n (kind.Function false false) ms sort home old scope = weaker_from old (λ f s d. inl d) (make_function_from old (within ctx sure (lone x) scope) n sort home)
  made_leaves n (kind.Function false true) ms sort home old scope = weaker_from old (λ f s d. inl d) (make_function_from old (within ctx sure (lone x) scope) n Method home)
  made_leaves n (kind.Function true is_async) ms sort home old scope = make_generator_from old (within ctx sure (lone x) scope) n home
  made_leaves n _ ms sort home old scope = outside_from old

  module _ (old : State) (scope : List Entered) (apart : Apart ctx sure scope) where
    heritage_leaves : (super : Meaning) → Quiet ctx sure (lone x) super → Leaves old (heritage super (within ctx sure (lone x) scope))
    heritage_leaves super q =
        when_leaves old super.is_absent (give_leaves old (None, None))
        (bind_leaves old (q.value old scope apart) (λ v. bind_leaves old (parent_class_leaves old v) (λ parent. bind_leaves old (prototype_property_leaves old parent) (λ w.
        bind_leaves old (parent_prototype_leaves old w) (λ prototype. give_leaves old (Some parent, Some prototype))))))

    pub literal_key_leaves : (is_computed : Bool) (key : List ℕ) → Leaves old (literal_key is_computed key)
    literal_key_leaves is_computed key = when_leaves old (sets_prototype is_computed key) (outside_leaves old) (give_leaves old key)

    chosen : (b : Bool) (class object : ℕ) → NewObject old class → NewObject old object → NewObject old (cond b class object)
    chosen true class object c o = c
    chosen false class object c o = o

    all_defined_leaves : (ns : List (Claimed ctx sure (lone x))) → AllQuiet ctx sure (lone x) ns → (class object : ℕ) → NewObject old class → NewObject old object →
        Leaves old (all_defined (meanings ctx sure (lone x) ns) class object (within ctx sure (lone x) scope))
    all_defined_leaves [] q class object c o = give_leaves old []
    all_defined_leaves (n ∷ ns) q class object c o = bind_leaves old (q.0.defined class object old scope apart c o) (λ ks. bind_leaves old (all_defined_leaves ns q.1 class object c o) (λ ls. give_leaves old (ks ++ ls)))

    -- properties and methods

    pub defined_leaves : (n : Node) (k : Kind) (ns : List (Claimed ctx sure (lone x))) → HasNone ctx sure (lone x) n k ns → IsTaken ctx sure (lone x) k ns → (class object : ℕ) → NewObject old class → NewObject old object
        → Leaves old (defined_of n k (meanings ctx sure (lone x) ns) class object (within ctx sure (lone x) scope))
    unfolding effects_by access_effects_by part_effects_by pure_callee_by
    defined_leaves n kind.List ns none whole class object c o = all_defined_leaves ns (all_quiet ctx sure (lone x) ns none whole) class object c o
    defined_leaves n (kind.Ident sym ctxt optional) [] none whole class object c o =
        bind_by old (identifier_by ctx sure off (lone x) old scope sym ctxt optional n none whole) (λ r readable. bind_leaves old (read_leaves old (within ctx sure (lone x) scope) r readable) (λ v.
        bind_leaves old (define_data_leaves old object sym v o) (λ _. give_leaves old [])))
    defined_leaves n kind.KeyValueProp (key ∷ value ∷ []) none whole class object c o =
        let e = neither_true (judged ctx key.0).effects (judged ctx value.0).effects none in
        bind_leaves old ((first_quiet ctx sure (lone x) key (value ∷ []) e.0 whole).key old scope apart) (λ k. bind_leaves old (literal_key_leaves (meaning key.0).is_computed k) (λ k.
        bind_leaves old ((value.1.quiet e.1 (second_whole ctx sure (lone x) key value [] whole)).value old scope apart) (λ v. bind_leaves old (define_data_leaves old object k v o) (λ _. give_leaves old []))))
    defined_leaves n kind.MethodProp (key ∷ function ∷ []) none whole class object c o =
        bind_leaves old ((first_quiet ctx sure (lone x) key (function ∷ []) none whole).key old scope apart) (λ k. bind_leaves old (leaves_of old (function.1.made Method (Some object) old scope)) (λ f.
        bind_leaves old (define_method_leaves old method.Method object k f o) (λ _. give_leaves old [])))
    defined_leaves n kind.GetterProp (key ∷ type ∷ body ∷ []) none whole class object c o =
        bind_leaves old ((key.1.quiet none whole).key old scope apart) (λ k. bind_leaves old (make_function_leaves old (within ctx sure (lone x) scope) n Method (Some object)) (λ f.
        bind_leaves old (define_method_leaves old method.Getter object k f o) (λ _. give_leaves old [])))
    defined_leaves n kind.SetterProp (key ∷ this_parameter ∷ parameter ∷ body ∷ []) none whole class object c o =
        bind_leaves old ((key.1.quiet none whole).key old scope apart) (λ k. bind_leaves old (make_function_leaves old (within ctx sure (lone x) scope) n Method (Some object)) (λ f.
        bind_leaves old (define_method_leaves old method.Setter object k f o) (λ _. give_leaves old [])))
    defined_leaves n (kind.ClassMethod sort modifiers) (key ∷ function ∷ []) none whole class object c o =
        bind_leaves old ((first_quiet ctx sure (lone x) key (function ∷ []) none whole).key old scope apart) (λ k.
        bind_leaves old (leaves_of old (function.1.made Method (Some (cond modifiers.is_static class object)) old scope)) (λ f.
        bind_leaves old (define_method_leaves old sort (cond modifiers.is_static class object) k f (chosen modifiers.is_static class object c o)) (λ _. give_leaves old [])))
    defined_leaves n (kind.ClassProp modifiers readonly declare definite) (key ∷ value ∷ type ∷ []) none whole class object c o =
        let e = neither_true (judged ctx key.0).effects (judged ctx value.0).effects none in
        let t = both_true (is_taken ctx x.known.declared sure key.0) (is_taken ctx x.known.declared sure value.0) whole in
        bind_leaves old ((key.1.quiet e.0 t.0).key old scope apart) (λ k. give_leaves old (k ∷ []))
    defined_leaves n (kind.Constructor accessibility is_optional) ns none whole class object c o = give_leaves old []
    defined_leaves n (kind.TsTypeAliasDecl declare) ns none whole class object c o = give_leaves old []
    defined_leaves n _ ns none whole class object c o = outside_leaves old

    -- static fields

    field_with_leaves : (is_here : Bool) (value : Meaning) → Quiet ctx sure (lone x) value → (keys : List (List ℕ)) (object : ℕ) → NewObject old object →
        Leaves old (field_with is_here value keys (Own object) (within ctx sure (lone x) scope))
    field_with_leaves is_here value q [] object new = outside_leaves old
    field_with_leaves is_here value q (key ∷ keys) object new =
        bind_leaves old (when_leaves old is_here (bind_leaves old (q.initial old scope apart) (λ v. define_data_leaves old object key v new)) (give_leaves old tt)) (λ _. give_leaves old keys)

    all_statics_leaves : (ns : List (Claimed ctx sure (lone x))) → AllQuiet ctx sure (lone x) ns → (keys : List (List ℕ)) (class : ℕ) → NewObject old class →
        Leaves old (all_statics (meanings ctx sure (lone x) ns) keys (Own class) (within ctx sure (lone x) scope))
    all_statics_leaves [] q keys class c = give_leaves old keys
    all_statics_leaves (n ∷ ns) q keys class c = bind_leaves old (q.0.statics keys class old scope apart c) (λ left. all_statics_leaves ns q.1 left class c)

    pub statics_leaves : (n : Node) (k : Kind) (ns : List (Claimed ctx sure (lone x))) → HasNone ctx sure (lone x) n k ns → IsTaken ctx sure (lone x) k ns → (keys : List (List ℕ)) (class : ℕ) → NewObject old class
        → Leaves old (statics_of k (meanings ctx sure (lone x) ns) keys (Own class) (within ctx sure (lone x) scope))
    unfolding effects_by access_effects_by part_effects_by pure_callee_by
    statics_leaves n kind.List ns none whole keys class c = all_statics_leaves ns (all_quiet ctx sure (lone x) ns none whole) keys class c
    statics_leaves n (kind.ClassProp modifiers readonly declare definite) (key ∷ value ∷ type ∷ []) none whole keys class c =
        let e = neither_true (judged ctx key.0).effects (judged ctx value.0).effects none in
        let t = both_true (is_taken ctx x.known.declared sure key.0) (is_taken ctx x.known.declared sure value.0) whole in
        field_with_leaves modifiers.is_static (meaning value.0) (value.1.quiet e.1 t.1) keys class c
    statics_leaves n (kind.Constructor accessibility is_optional) ns none whole keys class c = give_leaves old keys
    statics_leaves n (kind.ClassMethod sort modifiers) ns none whole keys class c = give_leaves old keys
    statics_leaves n (kind.TsTypeAliasDecl declare) ns none whole keys class c = give_leaves old keys
    statics_leaves n _ ns none whole keys class c = outside_leaves old

  -- classes

  class_in_leaves : (old : State) (scope : List Entered) (n : Node) (super body : Meaning) (names : List Id) → Quiet ctx sure (lone x) super → Quiet ctx sure (lone x) body → (entered : Entered) → Apart ctx sure scope →
      Apart ctx sure (entered ∷ scope)
      → NewRecord old entered → Leaves old (class_in n super body names entered (within ctx sure (lone x) scope))
  class_in_leaves old scope n super body names q r entered apart inner new =
      bind_leaves old (heritage_leaves old (entered ∷ scope) inner super q) (λ parents.
      bind_by old (new_prototype_by old parents.1) (λ prototype new_place.
      bind_by old (new_function_by old (within ctx sure (lone x) (entered ∷ scope)) (prototype_entries false prototype) parents.0 n (cond super.is_absent BaseClass DerivedClass) (Some prototype)) (λ class new_class.
      bind_leaves old (r.defined class prototype old (entered ∷ scope) inner new_class new_place) (λ keys.
      bind_leaves old (keep_field_keys_leaves old class keys new_class) (λ _.
      bind_leaves old (set_all_leaves old names entered.place (Own class) new) (λ _.
      bind_by old (new_environment_as old [] (Some (field_activation (Own class) (Some class)))) (λ place newer.
      bind_leaves old (r.statics keys class old (place ∷ entered ∷ scope) (apart_inside ctx sure place (entered ∷ scope) [] newer.1 (λ g. refl) inner) new_class) (λ _. give_leaves old (Own class)))))))))

  class_value_leaves : (old : State) (scope : List Entered) → Apart ctx sure scope → (n : Node) (super body : Meaning) (names : List Id) → NamesApart ctx sure names → Quiet ctx sure (lone x) super → Quiet ctx sure (lone x) body
      → Leaves old (class_value n super body names (within ctx sure (lone x) scope))
  class_value_leaves old scope apart n super body names named q r =
      bind_by old (new_environment_as old (map (empty true) names) None)
      (λ entered new. class_in_leaves old scope n super body names q r entered apart (apart_inside ctx sure entered scope names (new.1 ∙ ids_of-empties true names) named apart) new.0)

  pub class_made_leaves : (old : State) (scope : List Entered) → Apart ctx sure scope → (n : Node) (k : Kind) (ns : List (Claimed ctx sure (lone x)))
      → HasNone ctx sure (lone x) n k ns → IsTaken ctx sure (lone x) k ns → (names : List Id) → NamesApart ctx sure names
      → Leaves old (class_made_of n k (meanings ctx sure (lone x) ns) names (within ctx sure (lone x) scope))
  unfolding effects_by access_effects_by part_effects_by pure_callee_by
  class_made_leaves old scope apart n (kind.Class is_abstract) (super ∷ body ∷ types ∷ super_types ∷ implements ∷ []) none whole names named =
      let e = neither_true (judged ctx super.0).effects (judged ctx body.0).effects none in
      let t = both_true (is_taken ctx x.known.declared sure super.0) (is_taken ctx x.known.declared sure body.0) whole in
      class_value_leaves old scope apart n (meaning super.0) (meaning body.0) names named (super.1.quiet e.0 t.0) (body.1.quiet e.1 t.1)
  class_made_leaves old scope apart n _ ns none whole names named = outside_leaves old
