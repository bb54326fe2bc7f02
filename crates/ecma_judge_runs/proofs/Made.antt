-- What is made where a member of it is read has no accessor: object literals, classes and functions.
use Rattle.std.proofs.Common.{◌≡◌, refl, ap, ◌∙◌, ◌⊎◌, inl, inr, ℕ, ◌<◌, ◌++◌, List, [], ◌∷◌, map, Some, None, Bool, true, false, not, ◌&&◌, ◌||◌, cond}
use Rattle.std.specs.List.{list_all}
use Rattle.ecma_kind.specs.declared.kind.Kind.{Kind}
use Rattle.ecma_kind.specs.declared.kind.Kind.TheVariants as kind
use Rattle.ecma_kind.specs.declared.operators.MethodKind.{MethodKind}
use Rattle.ecma_kind.specs.declared.operators.MethodKind.TheVariants as method
use Rattle.ecma_tree.specs.declared.node.Node.{Node}
use Rattle.ecma_judge.specs.declared.ctx.ExprCtx.{ExprCtx}
use Rattle.ecma_judge.specs.Effects.{is_accessor_kind, reading_may_call_by, effects_by, access_effects_by, part_effects_by}
use Rattle.ecma_judge.specs.Judged.{judged}
use Rattle.ecma_judge.specs.Judgement.{any_has_effects}
use Rattle.ecma_judge.specs.PureCallees.{pure_callee_by}
use Rattle.ecma_runs.specs.Values.{Value, Own}
use Rattle.ecma_runs.specs.State.{Id, Entered, Plain, Method, Arrow, BaseClass, DerivedClass, Ordinary, State}
use Rattle.ecma_runs.specs.Run.{Run, ◌>>=◌, give, when}
use Rattle.ecma_runs.specs.Environment.{ToValue, empty, new_environment, set_all}
use Rattle.ecma_runs.specs.Meaning.{ExecutionContext, inside, Meaning}
use Rattle.ecma_runs.specs.Evaluation.{meaning}
use Rattle.ecma_runs.specs.Functions.{new_prototype, new_function, prototype_entries}
use Rattle.ecma_runs.specs.Expressions.{function_value, value_of, reference_of}
use Rattle.ecma_runs.specs.Classes.{field_activation, keep_field_keys, class_in, class_value, class_made_of, all_defined, defined_of, field_with, all_statics, statics_of}
use Rattle.ecma_runs.proofs.Scopes.{ids_of-empties}
use Rattle.ecma_judge_runs.proofs.Lone.{lone}
use Rattle.ecma_judge_runs.specs.Called.{Assumed}
use Rattle.ecma_judge_runs.specs.Taken.{Taken, all_whole, in_place, in_place_by, read_by, taken, is_taken}
use Rattle.ecma_judge_runs.proofs.Both.{both_true, neither_true}
use Rattle.ecma_judge_runs.proofs.Leaving.{weaker}
use Rattle.ecma_judge_runs.proofs.Keeping.{Any, LeavesFrom, bind_from, of_leaves, leaves_of, kept_by, where_from, where_both_from, where_alone_from, same_from, give_from, outside_from, when_from}
use Rattle.ecma_judge_runs.proofs.Records.{NewRecord, Readable, new_environment_as, new_environment_by}
use Rattle.ecma_judge_runs.proofs.Objects.{NewObject}
use Rattle.ecma_judge_runs.proofs.Reading.{read_leaves}
use Rattle.ecma_judge_runs.proofs.Data.{IsDataIn, IsDataAt, IsReadIn, IsReadAt, still_data, Keeps, keeps_data, give_keeps, define_data_keeps, define_method_keeps, keep_field_keys_keeps, new_data_from, new_prototype_from, new_class_from, make_function_from, set_all_from}
use Rattle.ecma_judge_runs.proofs.Meanings.{NamesApart, Apart, apart_inside, within, Makes, Quiet, Place, IsNew, RefersToNew, Claimed, meanings, judgements, takens, HasNone, IsTaken, first_quiet, second_whole}
use Rattle.ecma_judge_runs.proofs.Expressions.{asked, identifier_by}
use Rattle.ecma_judge_runs.proofs.Classes.{literal_key_leaves}

abbrev all_in_place : Bool → List Taken → Bool
all_in_place is_class ts = list_all (λ (t : Taken). in_place is_class t) ts

-- a method is no accessor, or is defined on the prototype
method_spares : (is_class : Bool) (sort : MethodKind) (is_static : Bool) (kept object : ℕ) → Place is_class kept object
    → (not (is_accessor_kind sort) || (is_class && not is_static)) ≡ true → (is_accessor_kind sort ≡ false) ⊎ (cond is_static kept object < kept)
method_spares true method.Method is_static kept object place h = inl refl
method_spares false method.Method is_static kept object place h = inl refl
method_spares true sort false kept object place h = inr place
method_spares true method.Getter true kept object place h = absurd (cc)
method_spares true method.Setter true kept object place h = absurd (cc)
method_spares false method.Getter is_static kept object place h = absurd (cc)
method_spares false method.Setter is_static kept object place h = absurd (cc)

new_place : (b : Bool) (P : ℕ → Type 0) (class object : ℕ) → P class → P object → P (cond b class object)
new_place true P class object c o = c
new_place false P class object c o = o

-- where a test is known
known_when : {A : Type 0} {P : A → State → Type 0} {R : State → Type 0} (old : State) (b : Bool) {m : Run A} (k : Run A) → b ≡ true → LeavesFrom old R P m → LeavesFrom old R P (when b m k)
known_when old true k is h = h
known_when old false k is h = absurd (cc)

module _ (ctx : ExprCtx) (sure : Assumed) (off : ctx.is_unresolved_ref_safe ≡ false) (x : ExecutionContext) where
  module _ (old : State) (scope : List Entered) (apart : Apart ctx sure scope) where
    -- ---- properties and members

    module _ (is_class : Bool) (kept object : ℕ) (place : Place is_class kept object) (new : NewObject old kept) (new' : NewObject old object) where
      list_defines : (ns : List (Claimed ctx sure (lone x))) → any_has_effects (judgements ctx sure (lone x) ns) ≡ false → all_whole (takens ctx sure (lone x) ns) ≡ true → all_in_place is_class (takens ctx sure (lone x) ns) ≡ true
          → Keeps old kept (all_defined (meanings ctx sure (lone x) ns) kept object (within ctx sure (lone x) scope))
      list_defines [] none whole here = give_keeps old kept []
      list_defines (n ∷ ns) none whole here =
          let e = neither_true (judged ctx n.0).effects (any_has_effects (judgements ctx sure (lone x) ns)) none in
          let t = both_true (is_taken ctx x.known.declared sure n.0) (all_whole (takens ctx sure (lone x) ns)) whole in
          let p = both_true (in_place is_class (taken ctx x.known.declared sure n.0)) (all_in_place is_class (takens ctx sure (lone x) ns)) here in
          bind_from old (n.1.defines e.0 t.0 is_class p.0 kept object place old scope apart new new') (λ ks.
          bind_from old (list_defines ns e.1 t.1 p.1) (λ ls. give_keeps old kept (ks ++ ls)))

      method_place : (sort : MethodKind) (is_static : Bool) → NewObject old (cond is_static kept object)
      method_place sort is_static = new_place is_static (NewObject old) kept object new new'

    pub defines_by : (n : Node) (k : Kind) (ns : List (Claimed ctx sure (lone x))) → HasNone ctx sure (lone x) n k ns → IsTaken ctx sure (lone x) k ns → (is_class : Bool) → in_place_by is_class k (takens ctx sure (lone x) ns) ≡ true
        → (kept object : ℕ) → Place is_class kept object → NewObject old kept → NewObject old object → Keeps old kept (defined_of n k (meanings ctx sure (lone x) ns) kept object (within ctx sure (lone x) scope))
    unfolding effects_by access_effects_by part_effects_by pure_callee_by
    defines_by n kind.List ns none whole is_class here kept object place new new' =
        list_defines is_class kept object place new new' ns none whole here
    defines_by n (kind.Ident sym ctxt optional) [] none whole is_class here kept object place new new' =
        bind_from old (kept_by old Readable (IsDataAt kept) (still_data kept) (λ s. identifier_by ctx sure off (lone x) s scope sym ctxt optional n none whole)) (λ r. where_from old (λ readable.
        bind_from old (keeps_data old kept (λ s. read_leaves s (within ctx sure (lone x) scope) r readable)) (λ v.
        bind_from old (define_data_keeps old kept object sym v new') (λ _. give_keeps old kept []))))
    defines_by n kind.KeyValueProp (key ∷ value ∷ []) none whole is_class here kept object place new new' =
        let e = neither_true (judged ctx key.0).effects (judged ctx value.0).effects none in
        bind_from old (keeps_data old kept (λ s. (first_quiet ctx sure (lone x) key (value ∷ []) e.0 whole).key s scope apart)) (λ k.
        bind_from old (keeps_data old kept (λ s. literal_key_leaves ctx sure off (lone x) s scope apart (meaning key.0).is_computed k)) (λ k.
        bind_from old (keeps_data old kept (λ s. (value.1.quiet e.1 (second_whole ctx sure (lone x) key value [] whole)).value s scope apart)) (λ v.
        bind_from old (define_data_keeps old kept object k v new') (λ _. give_keeps old kept []))))
    defines_by n kind.MethodProp (key ∷ function ∷ []) none whole is_class here kept object place new new' =
        bind_from old (keeps_data old kept (λ s. (first_quiet ctx sure (lone x) key (function ∷ []) none whole).key s scope apart)) (λ k.
        bind_from old (keeps_data old kept (λ s. leaves_of s (function.1.made Method (Some object) s scope))) (λ f.
        bind_from old (define_method_keeps old kept method.Method object k f new' (inl refl)) (λ _. give_keeps old kept [])))
    defines_by n kind.GetterProp (key ∷ type ∷ body ∷ []) none whole true here kept object place new new' =
        bind_from old (keeps_data old kept (λ s. (key.1.quiet none whole).key s scope apart)) (λ k.
        bind_from old (keeps_data old kept (λ s. leaves_of s (make_function_from s (within ctx sure (lone x) scope) n Method (Some object)))) (λ f.
        bind_from old (define_method_keeps old kept method.Getter object k f new' (inr place)) (λ _. give_keeps old kept [])))
    defines_by n kind.SetterProp (key ∷ this_parameter ∷ parameter ∷ body ∷ []) none whole true here kept object place new new' =
        bind_from old (keeps_data old kept (λ s. (key.1.quiet none whole).key s scope apart)) (λ k.
        bind_from old (keeps_data old kept (λ s. leaves_of s (make_function_from s (within ctx sure (lone x) scope) n Method (Some object)))) (λ f.
        bind_from old (define_method_keeps old kept method.Setter object k f new' (inr place)) (λ _. give_keeps old kept [])))
    defines_by n kind.GetterProp (key ∷ type ∷ body ∷ []) none whole false here kept object place new new' = absurd (cc)
    defines_by n kind.SetterProp (key ∷ this_parameter ∷ parameter ∷ body ∷ []) none whole false here kept object place new new' = absurd (cc)
    defines_by n (kind.ClassMethod sort modifiers) (key ∷ function ∷ []) none whole is_class here kept object place new new' =
        bind_from old (keeps_data old kept (λ s. (first_quiet ctx sure (lone x) key (function ∷ []) none whole).key s scope apart)) (λ k.
        bind_from old (keeps_data old kept (λ s. leaves_of s (function.1.made Method (Some (cond modifiers.is_static kept object)) s scope))) (λ f.
        bind_from old (define_method_keeps old kept sort (cond modifiers.is_static kept object) k f (method_place is_class kept object place new new' sort modifiers.is_static)
        (method_spares is_class sort modifiers.is_static kept object place here)) (λ _. give_keeps old kept [])))
    defines_by n (kind.ClassProp modifiers readonly declare definite) (key ∷ value ∷ type ∷ []) none whole is_class here kept object place new new' =
        let e = neither_true (judged ctx key.0).effects (judged ctx value.0).effects none in
        let t = both_true (is_taken ctx x.known.declared sure key.0) (is_taken ctx x.known.declared sure value.0) whole in
        bind_from old (keeps_data old kept (λ s. (key.1.quiet e.0 t.0).key s scope apart)) (λ k. give_keeps old kept (k ∷ []))
    defines_by n (kind.Constructor accessibility is_optional) ns none whole is_class here kept object place new new' = give_keeps old kept []
    defines_by n (kind.TsTypeAliasDecl declare) ns none whole is_class here kept object place new new' = give_keeps old kept []
    defines_by n _ ns none whole is_class here kept object place new new' = outside_from old

    -- ---- static fields

    module _ (kept : ℕ) (new : NewObject old kept) where
      field_with_keeps : (is_here : Bool) (value : Meaning) → Quiet ctx sure (lone x) value → (keys : List (List ℕ)) → Keeps old kept (field_with is_here value keys (Own kept) (within ctx sure (lone x) scope))
      field_with_keeps is_here value q [] = outside_from old
      field_with_keeps is_here value q (key ∷ keys) =
          bind_from old (when_from old is_here (bind_from old (keeps_data old kept (λ s. q.initial s scope apart)) (λ v. define_data_keeps old kept kept key v new)) (give_keeps old kept tt)) (λ _. give_keeps old kept keys)

      list_sets : (ns : List (Claimed ctx sure (lone x))) → any_has_effects (judgements ctx sure (lone x) ns) ≡ false → all_whole (takens ctx sure (lone x) ns) ≡ true → (keys : List (List ℕ))
          → Keeps old kept (all_statics (meanings ctx sure (lone x) ns) keys (Own kept) (within ctx sure (lone x) scope))
      list_sets [] none whole keys = give_keeps old kept keys
      list_sets (n ∷ ns) none whole keys =
          let e = neither_true (judged ctx n.0).effects (any_has_effects (judgements ctx sure (lone x) ns)) none in
          let t = both_true (is_taken ctx x.known.declared sure n.0) (all_whole (takens ctx sure (lone x) ns)) whole in
          bind_from old (n.1.sets e.0 t.0 keys kept old scope apart new) (λ left. list_sets ns e.1 t.1 left)

      pub sets_by : (n : Node) (k : Kind) (ns : List (Claimed ctx sure (lone x))) → HasNone ctx sure (lone x) n k ns → IsTaken ctx sure (lone x) k ns → (keys : List (List ℕ))
          → Keeps old kept (statics_of k (meanings ctx sure (lone x) ns) keys (Own kept) (within ctx sure (lone x) scope))
      unfolding effects_by access_effects_by part_effects_by pure_callee_by
      sets_by n kind.List ns none whole keys = list_sets ns none whole keys
      sets_by n (kind.ClassProp modifiers readonly declare definite) (key ∷ value ∷ type ∷ []) none whole keys =
          let e = neither_true (judged ctx key.0).effects (judged ctx value.0).effects none in
          let t = both_true (is_taken ctx x.known.declared sure key.0) (is_taken ctx x.known.declared sure value.0) whole in
          field_with_keeps modifiers.is_static (meaning value.0) (value.1.quiet e.1 t.1) keys
      sets_by n (kind.Constructor accessibility is_optional) ns none whole keys = give_keeps old kept keys
      sets_by n (kind.ClassMethod sort modifiers) ns none whole keys = give_keeps old kept keys
      sets_by n (kind.TsTypeAliasDecl declare) ns none whole keys = give_keeps old kept keys
      sets_by n _ ns none whole keys = outside_from old

  -- ---- classes

  module _ (old : State) (scope : List Entered) (apart : Apart ctx sure scope) (n : Node) (super body : Claimed ctx sure (lone x)) (names : List Id) (named : NamesApart ctx sure names) (absent : (meaning super.0).is_absent ≡ true)
      (none : (judged ctx body.0).effects ≡ false) (whole : is_taken ctx x.known.declared sure body.0 ≡ true) (here : (taken ctx x.known.declared sure body.0).in_class ≡ true) where
    module _ (entered : Entered) (new : NewRecord old entered) (inner : Apart ctx sure (entered ∷ scope)) where
      abbrev around : ExecutionContext
      around = within ctx sure (lone x) (entered ∷ scope)

      class_behind : (prototype : ℕ) → NewObject old prototype → (class : ℕ) → NewObject old class → prototype < class → LeavesFrom old (IsDataAt class) IsNew
          ((meaning body.0).defined class prototype around >>= λ keys. keep_field_keys class keys >>= λ _. set_all names entered.place (Own class) >>= λ _.
          new_environment [] (Some (field_activation (Own class) (Some class))) >>= λ place. (meaning body.0).statics keys (Own class) (inside around place) >>= λ _. give (Own class))
      class_behind prototype new_prototype_place class new_class before =
          bind_from old (body.1.defines none whole true here class prototype before old (entered ∷ scope) inner new_class new_prototype_place) (λ keys.
          bind_from old (keep_field_keys_keeps old class class keys new_class) (λ _.
          bind_from old (set_all_from old (IsDataIn class) names entered.place (Own class) new) (λ _.
          bind_from old (kept_by old (λ place. place.ids ≡ []) (IsDataAt class) (still_data class) (λ s. weaker s (λ place h. h.1) (new_environment_as s [] (Some (field_activation (Own class) (Some class))))))
          (λ place. where_from old (λ no_ids.
          bind_from old (body.1.sets none whole keys class old (place ∷ entered ∷ scope) (apart_inside ctx sure place (entered ∷ scope) [] no_ids (λ g. refl) inner) new_class) (λ _. give_from old (Own class) (λ s d. (class, refl, inl d))))))))

      class_in_read : LeavesFrom old Any IsNew (class_in n (meaning super.0) (meaning body.0) names entered (within ctx sure (lone x) scope))
      class_in_read =
          bind_from old {P = λ parents s. parents ≡ (None, None)} (known_when old (meaning super.0).is_absent _ absent (give_from old (None, None) (λ s r. refl)))
          (same_from old (None, None) (λ parents.
          new_prototype parents.1 >>= λ prototype.
          new_function (prototype_entries false prototype) parents.0 n (cond (meaning super.0).is_absent BaseClass DerivedClass) (Some prototype) around >>= λ class.
          (meaning body.0).defined class prototype around >>= λ keys. keep_field_keys class keys >>= λ _. set_all names entered.place (Own class) >>= λ _.
          new_environment [] (Some (field_activation (Own class) (Some class))) >>= λ place. (meaning body.0).statics keys (Own class) (inside around place) >>= λ _. give (Own class))
          (bind_from old (new_prototype_from old None) (λ prototype. where_from old (λ new_prototype_place.
          bind_from old (new_class_from old (λ p. prototype < p) around prototype n (cond (meaning super.0).is_absent BaseClass DerivedClass) (Some prototype))
          (λ class. where_both_from old (λ new_class before. class_behind prototype new_prototype_place class new_class before))))))

    class_value_read : LeavesFrom old Any IsNew (class_value n (meaning super.0) (meaning body.0) names (within ctx sure (lone x) scope))
    class_value_read =
        bind_from old (of_leaves old {R = Any} (new_environment_as old (map (empty true) names) None)) (λ entered. where_alone_from old (λ new.
        class_in_read entered new.0 (apart_inside ctx sure entered scope names (new.1 ∙ ids_of-empties true names) named apart)))

  pub class_read_by : (n : Node) (k : Kind) (ns : List (Claimed ctx sure (lone x))) → HasNone ctx sure (lone x) n k ns → IsTaken ctx sure (lone x) k ns →
      in_place_by true k (takens ctx sure (lone x) ns) ≡ true → (names : List Id) → NamesApart ctx sure names
      → (old : State) (scope : List Entered) → Apart ctx sure scope → LeavesFrom old Any IsNew (class_made_of n k (meanings ctx sure (lone x) ns) names (within ctx sure (lone x) scope))
  unfolding effects_by access_effects_by part_effects_by pure_callee_by
  class_read_by n (kind.Class is_abstract) (super ∷ body ∷ types ∷ super_types ∷ implements ∷ []) none whole here names named old scope apart =
      let e = neither_true (judged ctx super.0).effects (judged ctx body.0).effects none in
      let t = both_true (is_taken ctx x.known.declared sure super.0) (is_taken ctx x.known.declared sure body.0) whole in
      let p = both_true (taken ctx x.known.declared sure super.0).missing (taken ctx x.known.declared sure body.0).in_class here in
      class_value_read old scope apart n super body names named (super.1.missing p.0) e.1 t.1 p.1
  class_read_by n _ ns none whole here names named old scope apart = outside_from old

  -- ---- objects of which members are read

  module _ (old : State) (scope : List Entered) (apart : Apart ctx sure scope) where
    give_new : (o : ℕ) → LeavesFrom old (IsDataAt o) IsNew (give (Own o))
    give_new o = give_from old (Own o) (λ s d. (o, refl, inl d))

    give_read : (o : ℕ) → LeavesFrom old (IsReadAt o) IsNew (give (Own o))
    give_read o = give_from old (Own o) (λ s r. (o, refl, r))

    function_read : (ids : List Id) (function : Meaning) → Makes ctx sure (lone x) function → LeavesFrom old Any IsNew (function_value ids function (within ctx sure (lone x) scope))
    function_read ids function made =
        bind_from old (of_leaves old {R = Any} (new_environment_by old (map (empty true) ids) None)) (λ entered. where_alone_from old (λ new.
        bind_from old (made Plain None old (entered ∷ scope)) (λ f. bind_from old (set_all_from old (IsReadIn f) ids entered.place (Own f) new) (λ _. give_read f))))

    value_read : (n : Node) (k : Kind) (ns : List (Claimed ctx sure (lone x))) → HasNone ctx sure (lone x) n k ns → read_by ctx x.known.declared sure k (takens ctx sure (lone x) ns) ≡ true → reading_may_call_by k n ≡ false
        → LeavesFrom old Any IsNew (value_of n k (meanings ctx sure (lone x) ns) (within ctx sure (lone x) scope))
    unfolding effects_by access_effects_by part_effects_by pure_callee_by
    value_read n kind.ObjectLit (properties ∷ []) none read plain =
        let t = both_true (is_taken ctx x.known.declared sure properties.0) (taken ctx x.known.declared sure properties.0).in_object read in
        bind_from old (new_data_from old (λ p. Unit {0}) (record { entries = []; prototype = None; callable = None; extent = Ordinary }) (refl, refl)) (λ o. where_both_from old (λ new u.
        bind_from old (properties.1.defines none t.0 false t.1 o o refl old scope apart new new) (λ _. give_new o)))
    value_read n kind.ClassExpr (name ∷ class ∷ []) none read plain =
        let t = both_true (is_taken ctx x.known.declared sure name.0) (is_taken ctx x.known.declared sure class.0 &&
        ((not sure.globals || (taken ctx x.known.declared sure name.0).named) && (taken ctx x.known.declared sure class.0).in_class)) read in
        let u = both_true (is_taken ctx x.known.declared sure class.0) ((not sure.globals || (taken ctx x.known.declared sure name.0).named) && (taken ctx x.known.declared sure class.0).in_class) t.1 in
        let w = both_true (not sure.globals || (taken ctx x.known.declared sure name.0).named) (taken ctx x.known.declared sure class.0).in_class u.1 in
        class.1.class_read none u.0 w.1 (meaning name.0).names (λ g. name.1.named (asked sure.globals (taken ctx x.known.declared sure name.0).named w.0 g)) old scope apart
    value_read n kind.FnExpr (name ∷ function ∷ []) none read plain = function_read (meaning name.0).names (meaning function.0) function.1.made
    value_read n (kind.ArrowExpr is_async false) ns none read plain = bind_from old (make_function_from old (within ctx sure (lone x) scope) n Arrow None) (λ f. give_new f)
    value_read n kind.ObjectLit ns none read plain = outside_from old
    value_read n kind.ClassExpr ns none read plain = outside_from old
    value_read n kind.FnExpr ns none read plain = outside_from old
    value_read n (kind.ArrowExpr is_async true) ns none read plain = outside_from old
    value_read n k ns none read plain = absurd (cc)

    as_reference : (m : Run Value) → LeavesFrom old Any IsNew m → LeavesFrom old Any RefersToNew (m >>= λ v. give (ToValue v))
    as_reference m h = bind_from old h (λ v. give_from old (ToValue v) (λ s d. (d.0, ap ToValue d.1, d.2)))

    pub read_reference : (n : Node) (k : Kind) (ns : List (Claimed ctx sure (lone x))) → HasNone ctx sure (lone x) n k ns → read_by ctx x.known.declared sure k (takens ctx sure (lone x) ns) ≡ true → reading_may_call_by k n ≡ false
        → LeavesFrom old Any RefersToNew (reference_of n k (meanings ctx sure (lone x) ns) (within ctx sure (lone x) scope))
    read_reference n kind.ObjectLit ns none read plain = as_reference (value_of n kind.ObjectLit (meanings ctx sure (lone x) ns) (within ctx sure (lone x) scope)) (value_read n kind.ObjectLit ns none read plain)
    read_reference n kind.ClassExpr ns none read plain = as_reference (value_of n kind.ClassExpr (meanings ctx sure (lone x) ns) (within ctx sure (lone x) scope)) (value_read n kind.ClassExpr ns none read plain)
    read_reference n kind.FnExpr ns none read plain = as_reference (value_of n kind.FnExpr (meanings ctx sure (lone x) ns) (within ctx sure (lone x) scope)) (value_read n kind.FnExpr ns none read plain)
    read_reference n (kind.ArrowExpr is_async is_generator) ns none read plain =
        as_reference (value_of n (kind.ArrowExpr is_async is_generator) (meanings ctx sure (lone x) ns) (within ctx sure (lone x) scope)) (value_read n (kind.ArrowExpr is_async is_generator) ns none read plain)
    read_reference n k ns none read plain = absurd (cc)
