-- Each node without effects leaves all as it was, in each role in which it may stand in an expression.
use Rattle.std.proofs.Common.{◌≡◌, refl, sym, ap, ◌∙◌, subst, ℕ, ◌++◌, List, [], ◌∷◌, map, Bool, true, false, not, ◌&&◌, cond}
use Rattle.ecma_kind.specs.declared.kind.Kind.{Kind}
use Rattle.ecma_kind.specs.declared.kind.Kind.TheVariants as kind
use Rattle.ecma_tree.specs.declared.node.Node.{Node, Node-F, roll-Node, out-Node, ind-Node}
use Rattle.ecma_tree.specs.declared.node.Node.TheViews.{out-roll-Node}
use Rattle.ecma_judge.specs.declared.ctx.ExprCtx.{ExprCtx}
use Rattle.ecma_judge.specs.Effects.{reading_may_call_by, effects_by, access_effects_by, part_effects_by}
use Rattle.ecma_judge.specs.Judged.{judged}
use Rattle.ecma_judge.specs.Parts.{is_optional_call}
use Rattle.ecma_judge.specs.PureCallees.{pure_callee_by}
use Rattle.ecma_judge.proofs.Judging.{effects-out, callee-out}
use Rattle.ecma_runs.specs.Values.{Own}
use Rattle.ecma_runs.specs.State.{Id, Entered, State}
use Rattle.ecma_runs.specs.Meaning.{ExecutionContext, Meaning}
use Rattle.ecma_runs.specs.Declarations.{all_names, names_of, has_no_effect}
use Rattle.ecma_runs.specs.Run.{◌>>=◌}
use Rattle.ecma_runs.specs.Functions.{callee_by}
use Rattle.ecma_runs.specs.Expressions.{chained, continued, call_link}
use Rattle.ecma_runs.specs.Evaluation.{role_by, ending_chain, no_effect, constant_meaning, set_export, meaning_by, meaning}
use Rattle.ecma_runs.proofs.Layer.{meaning-roll}
use Rattle.ecma_judge_runs.proofs.Lone.{lone}
use Rattle.ecma_judge_runs.specs.Called.{is_function_expression, is_loose, are_apart, Assumed, AppliesFunctions}
use Rattle.ecma_judge_runs.specs.Taken.{Taken, all_named, in_place, in_place_by, missing_by, named_by, read_by, taken_by, taken, is_taken}
use Rattle.ecma_judge_runs.proofs.Both.{both_true, two_true, not_true}
use Rattle.ecma_judge_runs.proofs.Leaving.{LeavesBy, give_leaves, outside_leaves}
use Rattle.ecma_judge_runs.proofs.Keeping.{Any, LeavesFrom, outside_from}
use Rattle.ecma_judge_runs.proofs.Records.{Readable}
use Rattle.ecma_judge_runs.proofs.Objects.{NewObject}
use Rattle.ecma_judge_runs.proofs.Data.{Keeps, give_keeps}
use Rattle.ecma_judge_runs.proofs.Meanings.{taken-roll, called_idle, called_name, NamesApart, Apart, within, Makes, Quiet, Place, IsNew, RefersToNew, Claim, Claimed, nodes, meanings, takens, HasNone, IsTaken, Has, first_whole, first_quiet}
use Rattle.ecma_judge_runs.proofs.Callees.{link_leaves}
use Rattle.ecma_judge_runs.proofs.IdleCalls.{link_function_leaves}
use Rattle.ecma_judge_runs.proofs.Expressions.{none_called, value_leaves, reference_by, initial_leaves, arguments_leaves, elements_leaves, key_leaves}
use Rattle.ecma_judge_runs.proofs.Classes.{made_leaves, class_made_leaves, defined_leaves, statics_leaves}
use Rattle.ecma_judge_runs.proofs.Made.{defines_by, sets_by, class_read_by, read_reference}

pub effects-roll : (ctx : ExprCtx) (parts : Node-F Node)
    → (judged ctx (roll-Node parts)).effects ≡ (not (pure_callee_by ctx parts.kind (roll-Node parts)) && effects_by ctx parts.kind (roll-Node parts) (map (judged ctx) parts.children))
effects-roll ctx parts =
    effects-out ctx (roll-Node parts)
    ∙ ap (λ (z : Node-F Node). not (pure_callee_by ctx z.kind (roll-Node parts)) && effects_by ctx z.kind (roll-Node parts) (map (judged ctx) z.children)) (out-roll-Node parts)

-- names of which each has a context of its own, one behind the other
apart_behind : (ctx : ExprCtx) (ids others : List Id) → are_apart ctx ids ≡ true → are_apart ctx others ≡ true → are_apart ctx (ids ++ others) ≡ true
apart_behind ctx [] others h k = k
apart_behind ctx (id ∷ ids) others h k =
    let t = both_true (not (is_loose ctx id.ctxt)) (are_apart ctx ids) h in two_true (not (is_loose ctx id.ctxt)) (are_apart ctx (ids ++ others)) t.0 (apart_behind ctx ids others t.1 k)

module _ (ctx : ExprCtx) (sure : Assumed) (off : ctx.is_unresolved_ref_safe ≡ false) (x : ExecutionContext) (applies : sure.calls ≡ true → AppliesFunctions (lone x)) where
  abbrev ClaimedNode : Type 0
  ClaimedNode = Claimed ctx sure (lone x)

  abbrev here : List ClaimedNode → List Meaning
  here ns = meanings ctx sure (lone x) ns

  abbrev marks : List ClaimedNode → List Taken
  marks ns = takens ctx sure (lone x) ns

  -- ---- functions that are made

  no_effect_makes : (n : Node) → Makes ctx sure (lone x) (no_effect n)
  no_effect_makes n sort home old scope = outside_from old

  either_makes : (b : Bool) (m k : Meaning) → Makes ctx sure (lone x) m → Makes ctx sure (lone x) k → Makes ctx sure (lone x) (cond b m k)
  either_makes true m k hm hk = hm
  either_makes false m k hm hk = hk

  layer_makes : (n : Node) (k : Kind) (ns : List ClaimedNode) → Makes ctx sure (lone x) (meaning_by n k (here ns))
  layer_makes n kind.ParenExpr (e ∷ []) = e.1.made
  layer_makes n kind.TsAsExpr (e ∷ type ∷ []) = e.1.made
  layer_makes n kind.TsTypeAssertion (e ∷ type ∷ []) = e.1.made
  layer_makes n kind.TsConstAssertion (e ∷ []) = e.1.made
  layer_makes n kind.TsNonNullExpr (e ∷ []) = e.1.made
  layer_makes n kind.TsInstantiation (e ∷ types ∷ []) = e.1.made
  layer_makes n kind.TsSatisfiesExpr (e ∷ type ∷ []) = e.1.made
  layer_makes n kind.TsTypeAnn ns = no_effect_makes n
  layer_makes n kind.TsTypeParamDecl ns = no_effect_makes n
  layer_makes n kind.TsTypeParamInstantiation ns = no_effect_makes n
  layer_makes n kind.TsQualifiedName (left ∷ right ∷ []) = no_effect_makes n
  layer_makes n (kind.TsImportEqualsDecl false false) (name ∷ source ∷ []) = no_effect_makes n
  layer_makes n (kind.TsImportEqualsDecl true false) (name ∷ source ∷ []) =
      either_makes (meaning source.0).is_required (constant_meaning n (meaning name.0) (set_export n (meaning name.0) (meaning source.0)))
      (role_by n kind.ExportDecl (constant_meaning n (meaning name.0) (meaning source.0) ∷ [])) (no_effect_makes n) (no_effect_makes n)
  layer_makes n (kind.TsEnumDecl false is_const) (name ∷ members ∷ []) = no_effect_makes n
  layer_makes n kind.TsEnumMember (name ∷ init ∷ []) = no_effect_makes n
  layer_makes n k ns = either_makes (has_no_effect k (here ns)) (no_effect n) (role_by n k (here ns)) (no_effect_makes n) (made_leaves ctx sure off (lone x) n k (here ns))

  -- ---- names

  abbrev Named : Meaning → Type 0
  Named m = are_apart ctx m.names ≡ true

  either_named : (b : Bool) (m k : Meaning) → Named m → Named k → Named (cond b m k)
  either_named true m k hm hk = hm
  either_named false m k hm hk = hk

  list_named : (ns : List ClaimedNode) → all_named (marks ns) ≡ true → are_apart ctx (all_names (here ns)) ≡ true
  list_named [] h = refl
  list_named (n ∷ ns) h =
      let t = both_true (taken ctx x.known.declared sure n.0).named (all_named (marks ns)) h in apart_behind ctx (meaning n.0).names (all_names (here ns)) (n.1.named t.0) (list_named ns t.1)

  first_named : (n : ClaimedNode) (ns : List ClaimedNode) → all_named (marks (n ∷ ns)) ≡ true → Named (meaning n.0)
  first_named n ns h = n.1.named (both_true (taken ctx x.known.declared sure n.0).named (all_named (marks ns)) h).0

  second_named : (m n : ClaimedNode) (ns : List ClaimedNode) → all_named (marks (m ∷ n ∷ ns)) ≡ true → Named (meaning n.0)
  second_named m n ns h = first_named n ns (both_true (taken ctx x.known.declared sure m.0).named (all_named (marks (n ∷ ns))) h).1

  role_named : (n : Node) (k : Kind) (ns : List ClaimedNode) → named_by ctx x.known.declared sure k (marks ns) ≡ true → are_apart ctx (names_of k (here ns)) ≡ true
  role_named n (kind.Ident sym ctxt optional) [] h = two_true (not (is_loose ctx ctxt)) true h refl
  role_named n kind.BindingIdent (id ∷ annotation ∷ []) h = first_named id (annotation ∷ []) h
  role_named n (kind.VarDeclarator definite) (name ∷ init ∷ []) h = first_named name (init ∷ []) h
  role_named n kind.AssignPat (pattern' ∷ default ∷ []) h = first_named pattern' (default ∷ []) h
  role_named n (kind.ArrayPat optional) (elements ∷ type ∷ []) h = first_named elements (type ∷ []) h
  role_named n (kind.ObjectPat optional) (properties ∷ type ∷ []) h = first_named properties (type ∷ []) h
  role_named n kind.RestPat (pattern' ∷ type ∷ []) h = first_named pattern' (type ∷ []) h
  role_named n kind.KeyValuePatProp (key ∷ pattern' ∷ []) h = second_named key pattern' [] h
  role_named n kind.AssignPatProp (name ∷ default ∷ []) h = first_named name (default ∷ []) h
  role_named n kind.Param (pattern' ∷ []) h = first_named pattern' [] h
  role_named n (kind.TsParamProp accessibility is_override readonly) (pattern' ∷ []) h = first_named pattern' [] h
  role_named n kind.List ns h = list_named ns h
  role_named n _ ns h = refl

  layer_named : (n : Node) (k : Kind) (ns : List ClaimedNode) → named_by ctx x.known.declared sure k (marks ns) ≡ true → Named (meaning_by n k (here ns))
  layer_named n kind.ParenExpr (e ∷ []) h = first_named e [] h
  layer_named n kind.TsAsExpr (e ∷ type ∷ []) h = first_named e (type ∷ []) h
  layer_named n kind.TsTypeAssertion (e ∷ type ∷ []) h = first_named e (type ∷ []) h
  layer_named n kind.TsConstAssertion (e ∷ []) h = first_named e [] h
  layer_named n kind.TsNonNullExpr (e ∷ []) h = first_named e [] h
  layer_named n kind.TsInstantiation (e ∷ types ∷ []) h = first_named e (types ∷ []) h
  layer_named n kind.TsSatisfiesExpr (e ∷ type ∷ []) h = first_named e (type ∷ []) h
  layer_named n kind.TsTypeAnn ns h = refl
  layer_named n kind.TsTypeParamDecl ns h = refl
  layer_named n kind.TsTypeParamInstantiation ns h = refl
  layer_named n kind.TsQualifiedName (left ∷ right ∷ []) h = refl
  layer_named n (kind.TsImportEqualsDecl false false) (name ∷ source ∷ []) h = refl
  layer_named n (kind.TsImportEqualsDecl true false) (name ∷ source ∷ []) h =
      either_named (meaning source.0).is_required (constant_meaning n (meaning name.0) (set_export n (meaning name.0) (meaning source.0)))
      (role_by n kind.ExportDecl (constant_meaning n (meaning name.0) (meaning source.0) ∷ [])) refl refl
  layer_named n (kind.TsEnumDecl false is_const) (name ∷ members ∷ []) h = refl
  layer_named n kind.TsEnumMember (name ∷ init ∷ []) h = refl
  layer_named n k ns h = either_named (has_no_effect k (here ns)) (no_effect n) (role_by n k (here ns)) refl (role_named n k ns h)

  -- a child that is missing
  layer_missing : (n : Node) (k : Kind) (ns : List ClaimedNode) → missing_by k ≡ true → (meaning_by n k (here ns)).is_absent ≡ true
  layer_missing n kind.Absent ns h = refl
  layer_missing n k ns h = absurd (cc)

  -- ---- what leaves all as it was

  no_effect_quiet : (n : Node) → Quiet ctx sure (lone x) (no_effect n)
  no_effect_quiet n = record {
    value = λ old scope apart. outside_leaves old;
    reference = λ old scope apart. outside_from old;
    initial = λ old scope apart. outside_leaves old;
    arguments = λ old scope apart. give_leaves old [];
    elements = λ old scope apart. give_leaves old [];
    key = λ old scope apart. outside_leaves old;
    class_made = λ names named old scope apart. outside_leaves old;
    defined = λ class object old scope apart c o. give_leaves old [];
    statics = λ keys class old scope apart c. give_leaves old keys;
  }

  either_quiet : (b : Bool) {m k : Meaning} → Quiet ctx sure (lone x) m → Quiet ctx sure (lone x) k → Quiet ctx sure (lone x) (cond b m k)
  either_quiet true hm hk = hm
  either_quiet false hm hk = hk

  ending_quiet : (m : Meaning) → Quiet ctx sure (lone x) m → Quiet ctx sure (lone x) (ending_chain m)
  ending_quiet m q = record {
    value = q.value;
    reference = q.reference;
    initial = q.initial;
    arguments = q.arguments;
    elements = q.elements;
    key = q.key;
    class_made = q.class_made;
    defined = q.defined;
    statics = q.statics;
  }

  role_quiet : (n : Node) (k : Kind) (ns : List ClaimedNode) → Has ctx sure (lone x) n ns → HasNone ctx sure (lone x) n k ns → IsTaken ctx sure (lone x) k ns → Quiet ctx sure (lone x) (role_by n k (here ns))
  role_quiet n k ns has none whole = record {
    value = λ old scope apart. value_leaves ctx sure off (lone x) applies old scope apart n k ns has none whole;
    reference = λ old scope apart. reference_by ctx sure off (lone x) applies old scope apart n k ns has none whole;
    initial = λ old scope apart. initial_leaves ctx sure off (lone x) applies old scope apart n k ns has none whole;
    arguments = λ old scope apart. arguments_leaves ctx sure off (lone x) applies old scope apart n k ns has none whole;
    elements = λ old scope apart. elements_leaves ctx sure off (lone x) applies old scope apart n k ns has none whole;
    key = λ old scope apart. key_leaves ctx sure off (lone x) applies old scope apart n k ns none whole;
    class_made = λ names named old scope apart. class_made_leaves ctx sure off (lone x) old scope apart n k ns none whole names named;
    defined = λ class object old scope apart c o. defined_leaves ctx sure off (lone x) old scope apart n k ns none whole class object c o;
    statics = λ keys class old scope apart c. statics_leaves ctx sure off (lone x) old scope apart n k ns none whole keys class c;
  }

  layer_quiet : (n : Node) (k : Kind) (ns : List ClaimedNode) → Has ctx sure (lone x) n ns → HasNone ctx sure (lone x) n k ns → IsTaken ctx sure (lone x) k ns → Quiet ctx sure (lone x) (meaning_by n k (here ns))
  unfolding effects_by access_effects_by part_effects_by pure_callee_by
  layer_quiet n kind.ParenExpr (e ∷ []) has none whole = ending_quiet (meaning e.0) (first_quiet ctx sure (lone x) e [] none whole)
  layer_quiet n kind.TsAsExpr (e ∷ type ∷ []) has none whole = e.1.quiet none whole
  layer_quiet n kind.TsTypeAssertion (e ∷ type ∷ []) has none whole = e.1.quiet none whole
  layer_quiet n kind.TsConstAssertion (e ∷ []) has none whole = first_quiet ctx sure (lone x) e [] none whole
  layer_quiet n kind.TsNonNullExpr (e ∷ []) has none whole = first_quiet ctx sure (lone x) e [] none whole
  layer_quiet n kind.TsInstantiation (e ∷ types ∷ []) has none whole = e.1.quiet none whole
  layer_quiet n kind.TsSatisfiesExpr (e ∷ type ∷ []) has none whole = e.1.quiet none whole
  layer_quiet n kind.TsTypeAnn ns has none whole = absurd (cc)
  layer_quiet n kind.TsTypeParamDecl ns has none whole = absurd (cc)
  layer_quiet n kind.TsTypeParamInstantiation ns has none whole = absurd (cc)
  layer_quiet n kind.TsQualifiedName (left ∷ right ∷ []) has none whole = absurd (cc)
  layer_quiet n (kind.TsImportEqualsDecl false false) (name ∷ source ∷ []) has none whole = absurd (cc)
  layer_quiet n (kind.TsImportEqualsDecl true false) (name ∷ source ∷ []) has none whole = absurd (cc)
  layer_quiet n (kind.TsEnumDecl false is_const) (name ∷ members ∷ []) has none whole = absurd (cc)
  layer_quiet n kind.TsEnumMember (name ∷ init ∷ []) has none whole = absurd (cc)
  layer_quiet n k ns has none whole = either_quiet (has_no_effect k (here ns)) (no_effect_quiet n) (role_quiet n k ns has none whole)

  -- ---- objects of which members are read

  module _ (old : State) (scope : List Entered) (apart : Apart ctx sure scope) where
    abbrev around : ExecutionContext
    around = within ctx sure (lone x) scope

    either_read : (b : Bool) (m k : Meaning) → LeavesFrom old Any RefersToNew (m.reference around) → LeavesFrom old Any RefersToNew (k.reference around) → LeavesFrom old Any RefersToNew ((cond b m k).reference around)
    either_read true m k hm hk = hm
    either_read false m k hm hk = hk

    layer_read : (n : Node) (k : Kind) (ns : List ClaimedNode) → HasNone ctx sure (lone x) n k ns → read_by ctx x.known.declared sure k (marks ns) ≡ true → reading_may_call_by k n ≡ false
        → LeavesFrom old Any RefersToNew ((meaning_by n k (here ns)).reference around)
    layer_read n kind.ObjectLit ns none read plain = read_reference ctx sure off (lone x) old scope apart n kind.ObjectLit ns none read plain
    layer_read n kind.ClassExpr ns none read plain = read_reference ctx sure off (lone x) old scope apart n kind.ClassExpr ns none read plain
    layer_read n kind.FnExpr ns none read plain =
        either_read (has_no_effect kind.FnExpr (here ns)) (no_effect n) (role_by n kind.FnExpr (here ns)) (outside_from old) (read_reference ctx sure off (lone x) old scope apart n kind.FnExpr ns none read plain)
    layer_read n (kind.ArrowExpr is_async is_generator) ns none read plain = read_reference ctx sure off (lone x) old scope apart n (kind.ArrowExpr is_async is_generator) ns none read plain
    layer_read n k ns none read plain = absurd (cc)

    -- ---- optional calls

    either_linked : (callee arguments : ClaimedNode) → ((judged ctx callee.0).pure_callee ≡ true) × ((judged ctx arguments.0).effects ≡ false)
        → ((taken ctx x.known.declared sure callee.0).called ≡ true) × (is_taken ctx x.known.declared sure arguments.0 ≡ true) → (b : Bool) → is_function_expression (out-Node callee.0).kind ≡ b → (optional : Bool)
        → LeavesBy old (λ o. Readable (chained o)) ((meaning callee.0).chain around >>= λ o. continued o (λ r. callee_by around r >>= λ c. call_link optional c (meaning arguments.0) around))
    either_linked callee arguments none t true is optional =
        let idle = called_idle ctx sure (lone x) callee.0 t.0 is in
        link_function_leaves old around (applies idle.0) (meaning arguments.0) (λ s. (arguments.1.quiet none.1 t.1).arguments s scope apart) optional callee.0 is idle.1
    either_linked callee arguments none t false is optional =
        link_leaves ctx old around (meaning arguments.0) ((arguments.1.quiet none.1 t.1).arguments old scope apart) optional callee.0
        is (λ is'. apart (called_name ctx sure (lone x) callee.0 t.0 is')) (sym (callee-out ctx callee.0) ∙ none.0)

    role_linked : (n : Node) (ns : List ClaimedNode) → HasNone ctx sure (lone x) n kind.OptCall ns → IsTaken ctx sure (lone x) kind.OptCall ns → (optional : Bool)
        → LeavesBy old (λ o. Readable (chained o)) ((role_by n kind.OptCall (here ns)).link optional around)
    unfolding effects_by access_effects_by pure_callee_by
    role_linked n (callee ∷ arguments ∷ types ∷ []) none whole optional =
        either_linked callee arguments (none_called ctx sure off (lone x) applies old scope apart callee arguments none)
        (both_true (taken ctx x.known.declared sure callee.0).called (is_taken ctx x.known.declared sure arguments.0) whole) (is_function_expression (out-Node callee.0).kind) refl optional
    role_linked n ns none whole optional = outside_leaves old

    layer_linked : (n : Node) (k : Kind) (ns : List ClaimedNode) → HasNone ctx sure (lone x) n k ns → IsTaken ctx sure (lone x) k ns → is_optional_call k ≡ true → (optional : Bool)
        → LeavesBy old (λ o. Readable (chained o)) ((meaning_by n k (here ns)).link optional around)
    layer_linked n kind.OptCall ns none whole is optional = role_linked n ns none whole optional
    layer_linked n k ns none whole is optional = absurd (cc)

    -- ---- classes

    either_class : (b : Bool) (m k : Meaning) (names : List Id) → LeavesFrom old Any IsNew (m.class_made names around) → LeavesFrom old Any IsNew (k.class_made names around) → LeavesFrom old Any IsNew ((cond b m k).class_made names around)
    either_class true m k names hm hk = hm
    either_class false m k names hm hk = hk

    layer_class : (n : Node) (k : Kind) (ns : List ClaimedNode) → HasNone ctx sure (lone x) n k ns → IsTaken ctx sure (lone x) k ns → in_place_by true k (marks ns) ≡ true → (names : List Id) → NamesApart ctx sure names
        → LeavesFrom old Any IsNew ((meaning_by n k (here ns)).class_made names around)
    unfolding effects_by access_effects_by part_effects_by pure_callee_by
    layer_class n kind.ParenExpr (e ∷ []) none whole in_class names named = e.1.class_read none (first_whole ctx sure (lone x) e [] whole) in_class names named old scope apart
    layer_class n kind.TsAsExpr (e ∷ type ∷ []) none whole in_class names named = e.1.class_read none whole in_class names named old scope apart
    layer_class n kind.TsTypeAssertion (e ∷ type ∷ []) none whole in_class names named = e.1.class_read none whole in_class names named old scope apart
    layer_class n kind.TsConstAssertion (e ∷ []) none whole in_class names named = e.1.class_read none (first_whole ctx sure (lone x) e [] whole) in_class names named old scope apart
    layer_class n kind.TsNonNullExpr (e ∷ []) none whole in_class names named = e.1.class_read none (first_whole ctx sure (lone x) e [] whole) in_class names named old scope apart
    layer_class n kind.TsInstantiation (e ∷ types ∷ []) none whole in_class names named = e.1.class_read none whole in_class names named old scope apart
    layer_class n kind.TsSatisfiesExpr (e ∷ type ∷ []) none whole in_class names named = e.1.class_read none whole in_class names named old scope apart
    layer_class n kind.TsTypeAnn ns none whole in_class names named = absurd (cc)
    layer_class n kind.TsTypeParamDecl ns none whole in_class names named = absurd (cc)
    layer_class n kind.TsTypeParamInstantiation ns none whole in_class names named = absurd (cc)
    layer_class n kind.TsQualifiedName (left ∷ right ∷ []) none whole in_class names named = absurd (cc)
    layer_class n (kind.TsImportEqualsDecl false false) (name ∷ source ∷ []) none whole in_class names named = absurd (cc)
    layer_class n (kind.TsImportEqualsDecl true false) (name ∷ source ∷ []) none whole in_class names named = absurd (cc)
    layer_class n (kind.TsEnumDecl false is_const) (name ∷ members ∷ []) none whole in_class names named = absurd (cc)
    layer_class n kind.TsEnumMember (name ∷ init ∷ []) none whole in_class names named = absurd (cc)
    layer_class n k ns none whole in_class names named =
        either_class (has_no_effect k (here ns)) (no_effect n) (role_by n k (here ns)) names (outside_from old) (class_read_by ctx sure off (lone x) n k ns none whole in_class names named old scope apart)

    -- ---- properties, members and static fields

    either_defines : (b : Bool) (m k : Meaning) (kept object : ℕ) → Keeps old kept (m.defined kept object around) → Keeps old kept (k.defined kept object around) → Keeps old kept ((cond b m k).defined kept object around)
    either_defines true m k kept object hm hk = hm
    either_defines false m k kept object hm hk = hk

    module _ (is_class : Bool) (kept object : ℕ) (place : Place is_class kept object) (new : NewObject old kept) (new' : NewObject old object) where
      wrapped_in : (e : ClaimedNode) → in_place is_class (taken ctx x.known.declared sure e.0) ≡ true → (judged ctx e.0).effects ≡ false → is_taken ctx x.known.declared sure e.0 ≡ true
          → Keeps old kept ((meaning e.0).defined kept object around)
      wrapped_in e in_this none whole = e.1.defines none whole is_class in_this kept object place old scope apart new new'

    layer_defines : (n : Node) (k : Kind) (ns : List ClaimedNode) → HasNone ctx sure (lone x) n k ns → IsTaken ctx sure (lone x) k ns → (is_class : Bool) → in_place_by is_class k (marks ns) ≡ true
        → (kept object : ℕ) → Place is_class kept object → NewObject old kept → NewObject old object → Keeps old kept ((meaning_by n k (here ns)).defined kept object around)
    unfolding effects_by access_effects_by part_effects_by pure_callee_by
    layer_defines n kind.ParenExpr (e ∷ []) none whole is_class in_this kept object place new new' = wrapped_in is_class kept object place new new' e in_this none (first_whole ctx sure (lone x) e [] whole)
    layer_defines n kind.TsAsExpr (e ∷ type ∷ []) none whole is_class in_this kept object place new new' = wrapped_in is_class kept object place new new' e in_this none whole
    layer_defines n kind.TsTypeAssertion (e ∷ type ∷ []) none whole is_class in_this kept object place new new' = wrapped_in is_class kept object place new new' e in_this none whole
    layer_defines n kind.TsConstAssertion (e ∷ []) none whole is_class in_this kept object place new new' = wrapped_in is_class kept object place new new' e in_this none (first_whole ctx sure (lone x) e [] whole)
    layer_defines n kind.TsNonNullExpr (e ∷ []) none whole is_class in_this kept object place new new' = wrapped_in is_class kept object place new new' e in_this none (first_whole ctx sure (lone x) e [] whole)
    layer_defines n kind.TsInstantiation (e ∷ types ∷ []) none whole is_class in_this kept object place new new' = wrapped_in is_class kept object place new new' e in_this none whole
    layer_defines n kind.TsSatisfiesExpr (e ∷ type ∷ []) none whole is_class in_this kept object place new new' = wrapped_in is_class kept object place new new' e in_this none whole
    layer_defines n kind.TsTypeAnn ns none whole is_class in_this kept object place new new' = absurd (cc)
    layer_defines n kind.TsTypeParamDecl ns none whole is_class in_this kept object place new new' = absurd (cc)
    layer_defines n kind.TsTypeParamInstantiation ns none whole is_class in_this kept object place new new' = absurd (cc)
    layer_defines n kind.TsQualifiedName (left ∷ right ∷ []) none whole is_class in_this kept object place new new' = absurd (cc)
    layer_defines n (kind.TsImportEqualsDecl false false) (name ∷ source ∷ []) none whole is_class in_this kept object place new new' = absurd (cc)
    layer_defines n (kind.TsImportEqualsDecl true false) (name ∷ source ∷ []) none whole is_class in_this kept object place new new' = absurd (cc)
    layer_defines n (kind.TsEnumDecl false is_const) (name ∷ members ∷ []) none whole is_class in_this kept object place new new' = absurd (cc)
    layer_defines n kind.TsEnumMember (name ∷ init ∷ []) none whole is_class in_this kept object place new new' = absurd (cc)
    layer_defines n k ns none whole is_class in_this kept object place new new' =
        either_defines (has_no_effect k (here ns)) (no_effect n) (role_by n k (here ns)) kept object (give_keeps old kept [])
        (defines_by ctx sure off (lone x) old scope apart n k ns none whole is_class in_this kept object place new new')

    either_sets : (b : Bool) (m k : Meaning) (keys : List (List ℕ)) (kept : ℕ) → Keeps old kept (m.statics keys (Own kept) around) → Keeps old kept (k.statics keys (Own kept) around)
        → Keeps old kept ((cond b m k).statics keys (Own kept) around)
    either_sets true m k keys kept hm hk = hm
    either_sets false m k keys kept hm hk = hk

    layer_sets : (n : Node) (k : Kind) (ns : List ClaimedNode) → HasNone ctx sure (lone x) n k ns → IsTaken ctx sure (lone x) k ns → (keys : List (List ℕ)) (kept : ℕ) → NewObject old kept
        → Keeps old kept ((meaning_by n k (here ns)).statics keys (Own kept) around)
    unfolding effects_by access_effects_by part_effects_by pure_callee_by
    layer_sets n kind.ParenExpr (e ∷ []) none whole keys kept new = e.1.sets none (first_whole ctx sure (lone x) e [] whole) keys kept old scope apart new
    layer_sets n kind.TsAsExpr (e ∷ type ∷ []) none whole keys kept new = e.1.sets none whole keys kept old scope apart new
    layer_sets n kind.TsTypeAssertion (e ∷ type ∷ []) none whole keys kept new = e.1.sets none whole keys kept old scope apart new
    layer_sets n kind.TsConstAssertion (e ∷ []) none whole keys kept new = e.1.sets none (first_whole ctx sure (lone x) e [] whole) keys kept old scope apart new
    layer_sets n kind.TsNonNullExpr (e ∷ []) none whole keys kept new = e.1.sets none (first_whole ctx sure (lone x) e [] whole) keys kept old scope apart new
    layer_sets n kind.TsInstantiation (e ∷ types ∷ []) none whole keys kept new = e.1.sets none whole keys kept old scope apart new
    layer_sets n kind.TsSatisfiesExpr (e ∷ type ∷ []) none whole keys kept new = e.1.sets none whole keys kept old scope apart new
    layer_sets n kind.TsTypeAnn ns none whole keys kept new = absurd (cc)
    layer_sets n kind.TsTypeParamDecl ns none whole keys kept new = absurd (cc)
    layer_sets n kind.TsTypeParamInstantiation ns none whole keys kept new = absurd (cc)
    layer_sets n kind.TsQualifiedName (left ∷ right ∷ []) none whole keys kept new = absurd (cc)
    layer_sets n (kind.TsImportEqualsDecl false false) (name ∷ source ∷ []) none whole keys kept new = absurd (cc)
    layer_sets n (kind.TsImportEqualsDecl true false) (name ∷ source ∷ []) none whole keys kept new = absurd (cc)
    layer_sets n (kind.TsEnumDecl false is_const) (name ∷ members ∷ []) none whole keys kept new = absurd (cc)
    layer_sets n kind.TsEnumMember (name ∷ init ∷ []) none whole keys kept new = absurd (cc)
    layer_sets n k ns none whole keys kept new =
        either_sets (has_no_effect k (here ns)) (no_effect n) (role_by n k (here ns)) keys kept (give_keeps old kept keys) (sets_by ctx sure off (lone x) old scope apart kept new n k ns none whole keys)

  -- ---- all nodes

  module _ (parts : Node-F Node) (ns : List ClaimedNode) (is : nodes ctx sure (lone x) ns ≡ parts.children) where
    abbrev this : Node
    this = roll-Node parts

    same_meaning : meaning this ≡ meaning_by this parts.kind (here ns)
    same_meaning = meaning-roll parts ∙ ap (λ l. meaning_by this parts.kind (map meaning l)) (sym is)

    has_these : Has ctx sure (lone x) this ns
    has_these = ap (λ (z : Node-F Node). z.children) (out-roll-Node parts) ∙ sym is

    same_marks : taken ctx x.known.declared sure this ≡ taken_by ctx x.known.declared sure parts.kind this (marks ns)
    same_marks = taken-roll ctx sure (lone x) parts ∙ ap (λ l. taken_by ctx x.known.declared sure parts.kind this (map (taken ctx x.known.declared sure) l)) (sym is)

    mark : (f : Taken → Bool) → f (taken ctx x.known.declared sure this) ≡ true → f (taken_by ctx x.known.declared sure parts.kind this (marks ns)) ≡ true
    mark f h = sym (ap f same_marks) ∙ h

    none_here : (judged ctx this).effects ≡ false → HasNone ctx sure (lone x) this parts.kind ns
    none_here none =
        subst (λ l. (not (pure_callee_by ctx parts.kind this) && effects_by ctx parts.kind this (map (judged ctx) l)) ≡ false) (sym is) (sym (effects-roll ctx parts) ∙ none)

    place_mark : (is_class : Bool) → in_place is_class (taken ctx x.known.declared sure this) ≡ true → in_place_by is_class parts.kind (marks ns) ≡ true
    place_mark true h = mark (λ t. t.in_class) h
    place_mark false h = mark (λ t. t.in_object) h

    claim_roll : Claim ctx sure (lone x) this
    claim_roll = record {
      made = subst (Makes ctx sure (lone x)) (sym same_meaning) (layer_makes this parts.kind ns);
      named = λ h. subst (λ m. are_apart ctx m.names ≡ true) (sym same_meaning) (layer_named this parts.kind ns (mark (λ t. t.named) h));
      missing = λ h. subst (λ m. m.is_absent ≡ true) (sym same_meaning) (layer_missing this parts.kind ns (mark (λ t. t.missing) h));
      quiet = λ none whole. subst (Quiet ctx sure (lone x)) (sym same_meaning) (layer_quiet this parts.kind ns has_these (none_here none) (mark (λ t. t.whole) whole));
      read = λ none read plain old scope apart. subst (λ m. LeavesFrom old Any RefersToNew (m.reference (within ctx sure (lone x) scope))) (sym same_meaning)
          (layer_read old scope apart this parts.kind ns (none_here none) (mark (λ t. t.read) read)
          (subst (λ (z : Node-F Node). reading_may_call_by z.kind this ≡ false) (out-roll-Node parts) (not_true (reading_may_call_by (out-Node this).kind this) plain)));
      class_read = λ none whole in_class names named old scope apart. subst (λ m. LeavesFrom old Any IsNew (m.class_made names (within ctx sure (lone x) scope))) (sym same_meaning)
          (layer_class old scope apart this parts.kind ns (none_here none) (mark (λ t. t.whole) whole) (mark (λ t. t.in_class) in_class) names named);
      defines = λ none whole is_class in_this kept object place old scope apart new new'. subst (λ m. Keeps old kept (m.defined kept object (within ctx sure (lone x) scope))) (sym same_meaning)
          (layer_defines old scope apart this parts.kind ns (none_here none) (mark (λ t. t.whole) whole) is_class (place_mark is_class in_this) kept object place new new');
      sets = λ none whole keys kept old scope apart new. subst (λ m. Keeps old kept (m.statics keys (Own kept) (within ctx sure (lone x) scope))) (sym same_meaning)
          (layer_sets old scope apart this parts.kind ns (none_here none) (mark (λ t. t.whole) whole) keys kept new);
      linked = λ none whole is_call optional old scope apart. subst (λ m. LeavesBy old (λ o. Readable (chained o)) (m.link optional (within ctx sure (lone x) scope))) (sym same_meaning)
          (layer_linked old scope apart this parts.kind ns (none_here none) (mark (λ t. t.whole) whole) (subst (λ (z : Node-F Node). is_optional_call z.kind ≡ true) (out-roll-Node parts) is_call) optional);
    }

  pub claim : (n : Node) → Claim ctx sure (lone x) n
  claim = ind-Node (Claim ctx sure (lone x)) (λ parts y is. claim_roll parts y.children (ap (λ z. z.children) is))
