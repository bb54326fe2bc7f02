-- Each node's value is as the node is judged.
use Rattle.std.proofs.Common.{◌≡◌, refl, sym, ap, ◌∙◌, subst, List, [], ◌∷◌, map, Some, None, Bool, true, false, cond}
use Rattle.ecma_number.specs.declared.types.Purity.{Purity}
use Rattle.ecma_number.specs.declared.value.Value.{Value as KnownOr}
use Rattle.ecma_number.specs.declared.js_number.JsNumber.{JsNumber}
use Rattle.ecma_kind.specs.declared.kind.Kind.{Kind}
use Rattle.ecma_kind.specs.declared.kind.Kind.TheVariants as kind
use Rattle.ecma_kind.specs.declared.operators.VarDeclKind.TheVariants.{Const}
use Rattle.ecma_tree.specs.declared.node.Node.{Node, Node-F, fold-roll-Node, roll-Node, out-Node, ind-Node}
use Rattle.ecma_tree.specs.declared.node.Node.TheViews.{out-roll-Node}
use Rattle.ecma_judge.specs.declared.ctx.ExprCtx.{ExprCtx}
use Rattle.ecma_judge.specs.Judged.{judged, kids_of}
use Rattle.ecma_judge.specs.Judgement.{purity_of}
use Rattle.ecma_judge.specs.Numbers.{number_by}
use Rattle.ecma_judge.specs.Texts.{text_by}
use Rattle.ecma_judge.specs.Truths.{truth_by}
use Rattle.ecma_judge.specs.Types.{type_by}
use Rattle.ecma_judge.proofs.Judging.{truth-out, number-out, text-out, type-out}
use Rattle.ecma_runs.specs.Values.{Value, Own, truth_of}
use Rattle.ecma_runs.specs.State.{Id, Entered, BaseClass, DerivedClass}
use Rattle.ecma_runs.specs.Run.{Run}
use Rattle.ecma_runs.specs.Meaning.{ExecutionContext, inside, Meaning}
use Rattle.ecma_runs.specs.Declarations.{has_no_effect}
use Rattle.ecma_runs.specs.Classes.{class_in, class_made_of, heritage, field_activation, keep_field_keys}
use Rattle.ecma_runs.specs.Environment.{empty, new_environment, set_all}
use Rattle.ecma_runs.specs.Functions.{new_prototype, new_function, prototype_entries}
use Rattle.ecma_runs.specs.Evaluation.{role_by, no_effect, constant_meaning, set_export, meaning_by, meaning}
use Rattle.ecma_runs.proofs.Layer.{meaning-roll}
use Rattle.ecma_judge_runs.proofs.Lone.{lone}
use Rattle.ecma_judge_runs.specs.Known.{HasTruth, HasNumber, HasText, HasType, IsAsJudged, ConstructsObjects, Marks, marks, marks_by, marks_step, is_valued_by, is_assignable_by, declares_no_global}
use Rattle.ecma_judge_runs.proofs.Giving.{GivesBy, CameFrom, came_from, then_gives, any_gives, weaker_gives, give_gives, outside_gives}
use Rattle.ecma_judge_runs.proofs.Literals.{Fits}
use Rattle.ecma_judge_runs.proofs.Assignments.{assigned_passes}
use Rattle.ecma_judge_runs.proofs.Valuing.{Valued, ValuedNode, nodes, meanings, judgements, all_marks, value_gives}

pub marks-roll : (objects : Bool) (parts : Node-F Node) → marks objects (roll-Node parts) ≡ marks_by objects parts.kind (map (marks objects) parts.children)
marks-roll objects parts = fold-roll-Node Marks (marks_step objects) parts

-- what is told by the node's kind and children is what is judged of it
judged_fits : (ctx : ExprCtx) (n : Node) (v : Value) → Fits ctx (purity_of (judged ctx n).effects) n (out-Node n).kind (kids_of ctx n) v → IsAsJudged (judged ctx n) v
judged_fits ctx n v h = record {
  truth = subst (λ (t : Purity × KnownOr Bool). HasTruth t.1 v) (sym (truth-out ctx n)) h.truth;
  number = subst (λ (t : Purity × KnownOr JsNumber). HasNumber t.1 v) (sym (number-out ctx n)) h.number;
  text = subst (λ t. HasText t v) (sym (text-out ctx n)) h.text;
  type = subst (λ t. HasType t v) (sym (type-out ctx n)) h.type;
}

module _ (ctx : ExprCtx) (objects : Bool) (x : ExecutionContext) (known : objects ≡ true → ConstructsObjects (lone x)) (apart : declares_no_global ctx x.scope ≡ true) where
  -- a class that is made is true

  either_class : (b : Bool) (m k : Meaning) (names : List Id) → GivesBy (λ v. truth_of v ≡ true) (m.class_made names (lone x)) → GivesBy (λ v. truth_of v ≡ true) (k.class_made names (lone x))
      → GivesBy (λ v. truth_of v ≡ true) ((cond b m k).class_made names (lone x))
  either_class true m k names hm hk = hm
  either_class false m k names hm hk = hk

  class_in_gives : (n : Node) (super body : Meaning) (names : List Id) (scope : Entered) → GivesBy (λ v. truth_of v ≡ true) (class_in n super body names scope (lone x))
  class_in_gives n super body names scope =
      then_gives (heritage super (inside (lone x) scope)) (λ parents.
      then_gives (new_prototype parents.1) (λ prototype.
      then_gives (new_function (prototype_entries false prototype) parents.0 n (cond super.is_absent BaseClass DerivedClass) (Some prototype) (inside (lone x) scope)) (λ class.
      then_gives (body.defined class prototype (inside (lone x) scope)) (λ keys.
      then_gives (keep_field_keys class keys) (λ _.
      then_gives (set_all names scope.place (Own class)) (λ _.
      then_gives (new_environment [] (Some (field_activation (Own class) (Some class)))) (λ place.
      then_gives (body.statics keys (Own class) (inside (inside (lone x) scope) place)) (λ _. give_gives (Own class) refl))))))))

  class_gives : (n : Node) (k : Kind) (ms : List Meaning) (names : List Id) → GivesBy (λ v. truth_of v ≡ true) (class_made_of n k ms names (lone x))
  class_gives n (kind.Class is_abstract) (super ∷ body ∷ types ∷ super_types ∷ implements ∷ []) names =
      then_gives (new_environment (map (empty true) names) None) (λ scope. class_in_gives n super body names scope)
  class_gives n _ ms names = outside_gives

  layer_class : (n : Node) (k : Kind) (ns : List (ValuedNode ctx objects (lone x))) (names : List Id) → GivesBy (λ v. truth_of v ≡ true) ((meaning_by n k (meanings ctx objects (lone x) ns)).class_made names (lone x))
  layer_class n kind.ParenExpr (e ∷ []) names = e.1.class names
  layer_class n kind.TsAsExpr (e ∷ type ∷ []) names = e.1.class names
  layer_class n kind.TsTypeAssertion (e ∷ type ∷ []) names = e.1.class names
  layer_class n kind.TsConstAssertion (e ∷ []) names = e.1.class names
  layer_class n kind.TsNonNullExpr (e ∷ []) names = e.1.class names
  layer_class n kind.TsInstantiation (e ∷ types ∷ []) names = e.1.class names
  layer_class n kind.TsSatisfiesExpr (e ∷ type ∷ []) names = e.1.class names
  layer_class n kind.TsTypeAnn ns names = outside_gives
  layer_class n kind.TsTypeParamDecl ns names = outside_gives
  layer_class n kind.TsTypeParamInstantiation ns names = outside_gives
  layer_class n kind.TsQualifiedName (left ∷ right ∷ []) names = outside_gives
  layer_class n (kind.TsImportEqualsDecl false false) (name ∷ source ∷ []) names = outside_gives
  layer_class n (kind.TsImportEqualsDecl true false) (name ∷ source ∷ []) names =
      either_class (meaning source.0).is_required (constant_meaning n (meaning name.0) (set_export n (meaning name.0) (meaning source.0)))
      (role_by n kind.ExportDecl (constant_meaning n (meaning name.0) (meaning source.0) ∷ [])) names outside_gives outside_gives
  layer_class n (kind.TsEnumDecl false is_const) (name ∷ members ∷ []) names = outside_gives
  layer_class n kind.TsEnumMember (name ∷ init ∷ []) names = outside_gives
  layer_class n k ns names = either_class (has_no_effect k (meanings ctx objects (lone x) ns)) (no_effect n) (role_by n k (meanings ctx objects (lone x) ns)) names outside_gives (class_gives n k (meanings ctx objects (lone x) ns) names)

  -- what is assigned is given

  either_assigned : (b : Bool) (m k : Meaning) (P : Value → Type 0) (get : Run Value) → GivesBy P (m.assigned get (lone x)) → GivesBy P (k.assigned get (lone x)) → GivesBy P ((cond b m k).assigned get (lone x))
  either_assigned true m k P get hm hk = hm
  either_assigned false m k P get hm hk = hk

  layer_assigned : (n : Node) (k : Kind) (ns : List (ValuedNode ctx objects (lone x))) → is_assignable_by k (all_marks ctx objects (lone x) ns) ≡ true → (get : Run Value) →
      GivesBy (CameFrom get) ((meaning_by n k (meanings ctx objects (lone x) ns)).assigned get (lone x))
  layer_assigned n kind.ParenExpr (e ∷ []) is get = e.1.assigned is get
  layer_assigned n kind.TsAsExpr (e ∷ type ∷ []) is get = e.1.assigned is get
  layer_assigned n kind.TsTypeAssertion (e ∷ type ∷ []) is get = e.1.assigned is get
  layer_assigned n kind.TsConstAssertion (e ∷ []) is get = e.1.assigned is get
  layer_assigned n kind.TsNonNullExpr (e ∷ []) is get = e.1.assigned is get
  layer_assigned n kind.TsInstantiation (e ∷ types ∷ []) is get = e.1.assigned is get
  layer_assigned n kind.TsSatisfiesExpr (e ∷ type ∷ []) is get = e.1.assigned is get
  layer_assigned n kind.TsTypeAnn ns is get = assigned_passes (lone x) n kind.Absent [] [] refl (CameFrom get) get (came_from get)
  layer_assigned n kind.TsTypeParamDecl ns is get = assigned_passes (lone x) n kind.Absent [] [] refl (CameFrom get) get (came_from get)
  layer_assigned n kind.TsTypeParamInstantiation ns is get = assigned_passes (lone x) n kind.Absent [] [] refl (CameFrom get) get (came_from get)
  layer_assigned n kind.TsQualifiedName (left ∷ right ∷ []) is get = assigned_passes (lone x) n kind.MemberExpr (meaning left.0 ∷ meaning right.0 ∷ []) [] refl (CameFrom get) get (came_from get)
  layer_assigned n (kind.TsImportEqualsDecl false false) (name ∷ source ∷ []) is get =
      assigned_passes (lone x) n (kind.VarDecl Const false)
      (role_by n kind.List (role_by n (kind.VarDeclarator false) (role_by n kind.BindingIdent (meaning name.0 ∷ role_by n kind.Absent [] ∷ []) ∷ meaning source.0 ∷ []) ∷ []) ∷ []) [] refl (CameFrom get) get (came_from get)
  layer_assigned n (kind.TsImportEqualsDecl true false) (name ∷ source ∷ []) is get =
      either_assigned (meaning source.0).is_required (constant_meaning n (meaning name.0) (set_export n (meaning name.0) (meaning source.0)))
      (role_by n kind.ExportDecl (constant_meaning n (meaning name.0) (meaning source.0) ∷ [])) (CameFrom get) get
      (assigned_passes (lone x) n (kind.VarDecl Const false)
      (role_by n kind.List (role_by n (kind.VarDeclarator false) (role_by n kind.BindingIdent (meaning name.0 ∷ role_by n kind.Absent [] ∷ []) ∷ set_export n (meaning name.0) (meaning source.0) ∷ []) ∷ []) ∷ []) [] refl (CameFrom get) get (came_from get))
      (assigned_passes (lone x) n kind.ExportDecl (constant_meaning n (meaning name.0) (meaning source.0) ∷ []) [] refl (CameFrom get) get (came_from get))
  layer_assigned n (kind.TsEnumDecl false is_const) (name ∷ members ∷ []) is get = assigned_passes (lone x) n (kind.TsEnumDecl false is_const) (meaning name.0 ∷ meaning members.0 ∷ []) [] refl (CameFrom get) get (came_from get)
  layer_assigned n kind.TsEnumMember (name ∷ init ∷ []) is get = assigned_passes (lone x) n kind.TsEnumMember (meaning name.0 ∷ meaning init.0 ∷ []) [] refl (CameFrom get) get (came_from get)
  layer_assigned n k ns is get =
      either_assigned (has_no_effect k (meanings ctx objects (lone x) ns)) (no_effect n) (role_by n k (meanings ctx objects (lone x) ns)) (CameFrom get) get
      (assigned_passes (lone x) n (kind.TsTypeAliasDecl false) [] [] refl (CameFrom get) get (came_from get))
      (assigned_passes (lone x) n k (meanings ctx objects (lone x) ns) (all_marks ctx objects (lone x) ns) is (CameFrom get) get (came_from get))

  -- a node from its children

  module _ (own : Purity) where
    either_value : (b : Bool) (P : Value → Type 0) (m k : Meaning) → GivesBy P (m.value (lone x)) → GivesBy P (k.value (lone x)) → GivesBy P ((cond b m k).value (lone x))
    either_value true P m k hm hk = hm
    either_value false P m k hm hk = hk

    layer_value : (n : Node) (k : Kind) (ns : List (ValuedNode ctx objects (lone x))) → (out-Node n).children ≡ nodes ctx objects (lone x) ns → is_valued_by objects k (all_marks ctx objects (lone x) ns) ≡ true
        → GivesBy (Fits ctx own n k (judgements ctx objects (lone x) ns)) ((meaning_by n k (meanings ctx objects (lone x) ns)).value (lone x))
    unfolding truth_by number_by text_by type_by
    layer_value n kind.ParenExpr (e ∷ []) shape is = weaker_gives (λ v h. record { truth = h.truth; number = tt; text = tt; type = tt }) (e.1.value is)
    layer_value n kind.TsAsExpr (e ∷ type ∷ []) shape is = any_gives (λ v. record { truth = tt; number = tt; text = tt; type = tt })
    layer_value n kind.TsTypeAssertion (e ∷ type ∷ []) shape is = any_gives (λ v. record { truth = tt; number = tt; text = tt; type = tt })
    layer_value n kind.TsConstAssertion (e ∷ []) shape is = any_gives (λ v. record { truth = tt; number = tt; text = tt; type = tt })
    layer_value n kind.TsNonNullExpr (e ∷ []) shape is = any_gives (λ v. record { truth = tt; number = tt; text = tt; type = tt })
    layer_value n kind.TsInstantiation (e ∷ types ∷ []) shape is = any_gives (λ v. record { truth = tt; number = tt; text = tt; type = tt })
    layer_value n kind.TsSatisfiesExpr (e ∷ type ∷ []) shape is = any_gives (λ v. record { truth = tt; number = tt; text = tt; type = tt })
    layer_value n kind.TsTypeAnn ns shape is = outside_gives
    layer_value n kind.TsTypeParamDecl ns shape is = outside_gives
    layer_value n kind.TsTypeParamInstantiation ns shape is = outside_gives
    layer_value n kind.TsQualifiedName (left ∷ right ∷ []) shape is = any_gives (λ v. record { truth = tt; number = tt; text = tt; type = tt })
    layer_value n (kind.TsImportEqualsDecl true false) (name ∷ source ∷ []) shape is = any_gives (λ v. record { truth = tt; number = tt; text = tt; type = tt })
    layer_value n (kind.TsImportEqualsDecl false false) (name ∷ source ∷ []) shape is = any_gives (λ v. record { truth = tt; number = tt; text = tt; type = tt })
    layer_value n (kind.TsEnumDecl false is_const) (name ∷ members ∷ []) shape is = outside_gives
    layer_value n kind.TsEnumMember (name ∷ init ∷ []) shape is = outside_gives
    layer_value n k ns shape is = either_value (has_no_effect k (meanings ctx objects (lone x) ns)) (Fits ctx own n k (judgements ctx objects (lone x) ns)) (no_effect n)
        (role_by n k (meanings ctx objects (lone x) ns)) outside_gives (value_gives ctx objects (lone x) known apart own n k ns shape is)

  -- all nodes

  valued_roll : (parts : Node-F Node) (ns : List (ValuedNode ctx objects (lone x))) → nodes ctx objects (lone x) ns ≡ parts.children → Valued ctx objects (lone x) (roll-Node parts)
  valued_roll parts ns is =
      let e : meaning (roll-Node parts) ≡ meaning_by (roll-Node parts) parts.kind (meanings ctx objects (lone x) ns) = meaning-roll parts ∙ ap (λ l. meaning_by (roll-Node parts) parts.kind (map meaning l)) (sym is) in
      let shape : (out-Node (roll-Node parts)).children ≡ nodes ctx objects (lone x) ns = ap (λ (z : Node-F Node). z.children) (out-roll-Node parts) ∙ sym is in
      let own = purity_of (judged ctx (roll-Node parts)).effects in
      record {
        value = λ valued. weaker_gives
            (λ v h. judged_fits ctx (roll-Node parts) v
            (subst (λ (z : Node-F Node). Fits ctx own (roll-Node parts) z.kind (map (judged ctx) z.children) v) (sym (out-roll-Node parts))
            (subst (λ l. Fits ctx own (roll-Node parts) parts.kind (map (judged ctx) l) v) is h)))
            (subst (λ m. GivesBy (Fits ctx own (roll-Node parts) parts.kind (judgements ctx objects (lone x) ns)) (m.value (lone x))) (sym e)
            (layer_value own (roll-Node parts) parts.kind ns shape
            (subst (λ l. is_valued_by objects parts.kind (map (marks objects) l) ≡ true) (sym is) (sym (ap (λ (m : Marks). m.valued) (marks-roll objects parts)) ∙ valued))));
        assigned = λ assignable get. subst (λ m. GivesBy (CameFrom get) (m.assigned get (lone x))) (sym e)
            (layer_assigned (roll-Node parts) parts.kind ns
            (subst (λ l. is_assignable_by parts.kind (map (marks objects) l) ≡ true) (sym is) (sym (ap (λ (m : Marks). m.assignable) (marks-roll objects parts)) ∙ assignable)) get);
        class = λ names. subst (λ m. GivesBy (λ v. truth_of v ≡ true) (m.class_made names (lone x))) (sym e) (layer_class (roll-Node parts) parts.kind ns names);
      }

  pub valued : (n : Node) → Valued ctx objects (lone x) n
  valued = ind-Node (Valued ctx objects (lone x)) (λ parts y is. valued_roll parts y.children (ap (λ z. z.children) is))
