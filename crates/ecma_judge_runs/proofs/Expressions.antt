-- Expressions without effects leave all as it was: a line for each kind in each role.
use Rattle.std.proofs.Common.{◌≡◌, refl, sym, ap, ◌∙◌, subst, ◌⊎◌, inl, inr, ℕ, ◌++◌, List, [], ◌∷◌, map, Option, Some, None, Bool, true, false, not, ◌&&◌, ◌||◌, ◌==◌, bytes_eq, codes}
use Rattle.std.proofs.lemmas.Slice.Eq.{bytes_eq-Decides}
use Rattle.ecma_number.specs.Text.{text_of}
use Rattle.ecma_kind.specs.declared.kind.Kind.{Kind}
use Rattle.ecma_kind.specs.declared.kind.Kind.TheVariants as kind
use Rattle.ecma_kind.specs.declared.operators.BinaryOp.{BinaryOp}
use Rattle.ecma_kind.specs.declared.operators.MetaPropKind.TheVariants.{NewTarget, ImportMeta}
use Rattle.ecma_kind.specs.declared.operators.UnaryOp.{UnaryOp}
use Rattle.ecma_kind.specs.declared.operators.UnaryOp.TheVariants as operator
use Rattle.ecma_tree.specs.declared.node.Node.{Node, out-Node}
use Rattle.ecma_judge.specs.declared.ctx.ExprCtx.{ExprCtx}
use Rattle.ecma_judge.specs.Effects.{is_safe_name, is_delete, reads_plainly, effects_by, access_effects_by, part_effects_by}
use Rattle.ecma_judge.specs.Judged.{judged}
use Rattle.ecma_judge.specs.Parts.{has_kind, is_optional_call, passes_at}
use Rattle.ecma_judge.specs.PureCallees.{pure_callee_by}
use Rattle.ecma_judge.proofs.Judging.{callee-out}
use Rattle.ecma_runs.specs.Values.{Value, Undefined, Null, Truth, Number, Text, Own, truth_of}
use Rattle.ecma_runs.specs.State.{Id, Entered, Plain, Arrow, Ordinary, State}
use Rattle.ecma_runs.specs.Run.{Run, ◌>>=◌, give}
use Rattle.ecma_runs.specs.Environment.{Reference, ToMember, ToValue, empty, is_among}
use Rattle.ecma_runs.specs.Meaning.{ExecutionContext, Meaning}
use Rattle.ecma_runs.specs.Evaluation.{meaning}
use Rattle.ecma_runs.specs.Functions.{read}
use Rattle.ecma_runs.specs.Operators.{key_from, short_circuit, unary_value}
use Rattle.ecma_runs.specs.Expressions.{identifier, member_of, member_reference, chained, call_by, binary_rest, unary, sequence, function_value, value_of, reference_of, initial_of, all_arguments, arguments_of, all_elements, elements_of, key_of}
use Rattle.ecma_judge_runs.proofs.Lone.{lone}
use Rattle.ecma_judge_runs.proofs.Leaving.{LeavesBy, Leaves, bind_by, bind_leaves, give_leaves, outside_leaves, when_leaves, given_leaves}
use Rattle.ecma_judge_runs.proofs.Records.{Readable, new_environment_by, set_all_leaves, activation_leaves, this_leaves, resolved_by}
use Rattle.ecma_judge_runs.proofs.Objects.{new_object_by, new_array_leaves, make_function_leaves, new_regular_expression_leaves, type_of_leaves}
use Rattle.ecma_judge_runs.proofs.Reading.{read_leaves, applied_leaves}
use Rattle.ecma_judge_runs.specs.Called.{is_function_expression, Assumed, AppliesFunctions}
use Rattle.ecma_judge_runs.specs.Taken.{taken, is_taken}
use Rattle.ecma_judge_runs.proofs.Both.{both_true, neither_true, certain, pure_or_plain}
use Rattle.ecma_judge_runs.proofs.Passing.{passes_first}
use Rattle.ecma_judge_runs.proofs.Keeping.{Any, FollowsIn, LeavesFrom, bind_from, of_leaves, leaves_of, weaker_from, kept_from, give_from}
use Rattle.ecma_judge_runs.proofs.Data.{IsReadAt, still_read, ReadableIn, readable_in, read_from, read_typed_from}
use Rattle.ecma_judge_runs.proofs.Callees.{IsTextMember, pure_member, call_leaves}
use Rattle.ecma_judge_runs.proofs.IdleCalls.{call_function_leaves}
use Rattle.ecma_judge_runs.proofs.Meanings.{read_name, called_idle, called_name, Apart, within, Makes, Quiet, RefersToNew, Claimed, meanings, HasNone, IsTaken, Has, AllQuiet, all_quiet, first_whole, first_quiet}

-- ---- names

-- a global name that no host need have has effects, unless it is the name of a pure callee
told_apart : (global date safe_anywhere safe : Bool) → global ≡ true → date ≡ false → safe_anywhere ≡ false → safe ≡ false → (not (global && date) && (not safe_anywhere && global && not safe)) ≡ false → ⊥
told_apart true false false false g d a s h = cc
told_apart false d a s g d' a' s' h = cc
told_apart true true a s g d' a' s' h = cc
told_apart true false true s g d a' s' h = cc
told_apart true false false true g d a s' h = cc

pub asked : (globals named : Bool) → (not globals || named) ≡ true → globals ≡ true → named ≡ true
asked true named h g = h
asked false named h g = absurd (cc)

second_true : (a b : Bool) → a || b ≡ true → a ≡ false → b ≡ true
second_true true b h is = cc
second_true false b h is = h

module _ (ctx : ExprCtx) (sure : Assumed) (off : ctx.is_unresolved_ref_safe ≡ false) (x : ExecutionContext) where
  not_arguments : (sym : List ℕ) (ctxt : ℕ) (optional : Bool) (n : Node) → HasNone ctx sure (lone x) n (kind.Ident sym ctxt optional) [] → IsTaken ctx sure (lone x) (kind.Ident sym ctxt optional) []
      → is_among (record { sym = sym; ctxt = ctxt }) x.known.declared ≡ false → (b : Bool) → bytes_eq sym (codes "arguments") ≡ b → b ≡ false
  unfolding effects_by pure_callee_by
  not_arguments sym ctxt optional n none whole free false is = refl
  not_arguments sym ctxt optional n none whole free true is =
      let same : sym ≡ codes "arguments" = (bytes_eq-Decides sym (codes "arguments")).0 is in
      absurd (told_apart (ctxt == ctx.unresolved_ctxt) (bytes_eq sym (codes "Date")) ctx.is_unresolved_ref_safe (is_safe_name sym)
      (second_true (is_among (record { sym = sym; ctxt = ctxt }) x.known.declared) (ctxt == ctx.unresolved_ctxt) whole free)
      (ap (λ z. bytes_eq z (codes "Date")) same) off (ap is_safe_name same) none)

  -- a name without effects may be read
  pub identifier_by : (old : State) (scope : List Entered) (sym : List ℕ) (ctxt : ℕ) (optional : Bool) (n : Node) → HasNone ctx sure (lone x) n (kind.Ident sym ctxt optional) [] → IsTaken ctx sure (lone x) (kind.Ident sym ctxt optional) []
      → LeavesBy old Readable (identifier sym ctxt (within ctx sure (lone x) scope))
  identifier_by old scope sym ctxt optional n none whole =
      resolved_by old scope x.known.declared (record { sym = sym; ctxt = ctxt }) (λ free. not_arguments sym ctxt optional n none whole free (bytes_eq sym (codes "arguments")) refl)

  module _ (applies : sure.calls ≡ true → AppliesFunctions (lone x)) (old : State) (scope : List Entered) (apart : Apart ctx sure scope) where
    -- operators

    binary_rest_leaves : (op : BinaryOp) (o : Option Bool) (v : Value) (right : Meaning) → Quiet ctx sure (lone x) right → Leaves old (binary_rest op o v right (within ctx sure (lone x) scope))
    binary_rest_leaves op (Some true) v right q = give_leaves old v
    binary_rest_leaves op (Some false) v right q = q.value old scope apart
    binary_rest_leaves op None v right q = bind_leaves old (q.value old scope apart) (λ w. applied_leaves old op v w)

    unary_leaves : (op : UnaryOp) (operand : Meaning) → is_delete op ≡ false → Quiet ctx sure (lone x) operand → Leaves old (unary op operand (within ctx sure (lone x) scope))
    unary_leaves operator.TypeOf operand is q =
        leaves_of old (bind_from old (q.reference old scope apart) (λ r. bind_from old (read_typed_from old (within ctx sure (lone x) scope) r) (λ v. of_leaves old (type_of_leaves old v))))
    unary_leaves operator.Delete operand is q = absurd (cc)
    unary_leaves op operand is q = bind_leaves old (q.value old scope apart) (λ v. given_leaves old (unary_value op v))

    sequence_leaves : (ns : List (Claimed ctx sure (lone x))) → AllQuiet ctx sure (lone x) ns → Leaves old (sequence (meanings ctx sure (lone x) ns) (within ctx sure (lone x) scope))
    sequence_leaves [] q = outside_leaves old
    sequence_leaves (n ∷ []) q = q.0.value old scope apart
    sequence_leaves (n ∷ m ∷ ns) q = bind_leaves old (q.0.value old scope apart) (λ _. sequence_leaves (m ∷ ns) q.1)

    function_value_leaves : (ids : List Id) (function : Meaning) → Makes ctx sure (lone x) function → Leaves old (function_value ids function (within ctx sure (lone x) scope))
    function_value_leaves ids function made =
        bind_by old (new_environment_by old (map (empty true) ids) None) (λ entered new.
        bind_leaves old (leaves_of old (made Plain None old (entered ∷ scope))) (λ f. bind_leaves old (set_all_leaves old ids entered.place (Own f) new) (λ _. give_leaves old (Own f))))

    all_arguments_leaves : (ns : List (Claimed ctx sure (lone x))) → AllQuiet ctx sure (lone x) ns → Leaves old (all_arguments (meanings ctx sure (lone x) ns) (within ctx sure (lone x) scope))
    all_arguments_leaves [] q = give_leaves old []
    all_arguments_leaves (n ∷ ns) q = bind_leaves old (q.0.arguments old scope apart) (λ vs. bind_leaves old (all_arguments_leaves ns q.1) (λ ws. give_leaves old (vs ++ ws)))

    all_elements_leaves : (ns : List (Claimed ctx sure (lone x))) → AllQuiet ctx sure (lone x) ns → Leaves old (all_elements (meanings ctx sure (lone x) ns) (within ctx sure (lone x) scope))
    all_elements_leaves [] q = give_leaves old []
    all_elements_leaves (n ∷ ns) q = bind_leaves old (q.0.elements old scope apart) (λ vs. bind_leaves old (all_elements_leaves ns q.1) (λ ws. give_leaves old (vs ++ ws)))

    -- members

    -- of a new object
    member_of_new : (key : Run (List ℕ)) → ((s : State) → Leaves s key) → (o : ℕ) → LeavesFrom old (IsReadAt o) ReadableIn (member_of (within ctx sure (lone x) scope) (ToValue (Own o)) key)
    member_of_new key h o = bind_from old (kept_from old (IsReadAt o) (still_read o) h) (λ k. give_from old (ToMember (Own o) k) (λ s d. d))

    member_of_read : (key : Run (List ℕ)) → ((s : State) → Leaves s key) → (r : Reference) → LeavesFrom old (RefersToNew r) ReadableIn (member_of (within ctx sure (lone x) scope) r key)
    member_of_read key h r = record {
      at = λ s g new. subst (λ z. FollowsIn old ReadableIn (member_of (within ctx sure (lone x) scope) z key s)) (sym new.1) ((member_of_new key h new.0).at s g new.2);
    }

    plain_member : (object key : Claimed ctx sure (lone x)) → reads_plainly object.0 ≡ true → (judged ctx object.0).effects ≡ false → (judged ctx key.0).effects ≡ false
        → (taken ctx x.known.declared sure object.0).read && is_taken ctx x.known.declared sure key.0 ≡ true → LeavesFrom old Any ReadableIn (member_reference (meaning object.0) (meaning key.0) (within ctx sure (lone x) scope))
    plain_member object key plain none none' whole =
        let t = both_true (taken ctx x.known.declared sure object.0).read (is_taken ctx x.known.declared sure key.0) whole in
        bind_from old (object.1.read none t.0 plain old scope apart) (λ r. member_of_read ((meaning key.0).key (within ctx sure (lone x) scope)) (λ s. (key.1.quiet none' t.1).key s scope apart) r)

    text_readable : (r : Reference) (s : State) → IsTextMember ctx old r → ReadableIn r s
    text_readable r s h = subst (λ z. ReadableIn z s) (sym h.2) tt

    pure_member_by : (n : Node) (object key : Claimed ctx sure (lone x)) → Has ctx sure (lone x) n (object ∷ key ∷ []) → pure_callee_by ctx kind.MemberExpr n ≡ true
        → (taken ctx x.known.declared sure object.0).read && is_taken ctx x.known.declared sure key.0 ≡ true → LeavesFrom old Any ReadableIn (member_reference (meaning object.0) (meaning key.0) (within ctx sure (lone x) scope))
    pure_member_by n object key has pure whole =
        let t = both_true (taken ctx x.known.declared sure object.0).read (is_taken ctx x.known.declared sure key.0) whole in
        weaker_from old text_readable (of_leaves old {R = Any} (pure_member ctx old (within ctx sure (lone x) scope) n object.0 key.0 has (λ is. apart (read_name ctx sure (lone x) object.0 t.0 is)) pure))

    either_member : (n : Node) (object key : Claimed ctx sure (lone x)) → Has ctx sure (lone x) n (object ∷ key ∷ [])
        → (pure_callee_by ctx kind.MemberExpr n ≡ true) ⊎ ((passes_at reads_plainly 0 n ≡ true) × (((judged ctx object.0).effects || (judged ctx key.0).effects) ≡ false))
        → (taken ctx x.known.declared sure object.0).read && is_taken ctx x.known.declared sure key.0 ≡ true → LeavesFrom old Any ReadableIn (member_reference (meaning object.0) (meaning key.0) (within ctx sure (lone x) scope))
    either_member n object key has (inl pure) whole = pure_member_by n object key has pure whole
    either_member n object key has (inr h) whole =
        let e = neither_true (judged ctx object.0).effects (judged ctx key.0).effects h.1 in
        plain_member object key (passes_first reads_plainly n object.0 (key.0 ∷ []) has h.0) e.0 e.1 whole

    member_by : (n : Node) (object key : Claimed ctx sure (lone x)) → Has ctx sure (lone x) n (object ∷ key ∷ []) → HasNone ctx sure (lone x) n kind.MemberExpr (object ∷ key ∷ []) →
        IsTaken ctx sure (lone x) kind.MemberExpr (object ∷ key ∷ [])
        → LeavesFrom old Any ReadableIn (member_reference (meaning object.0) (meaning key.0) (within ctx sure (lone x) scope))
    unfolding effects_by access_effects_by
    member_by n object key has none whole =
        either_member n object key has (pure_or_plain (pure_callee_by ctx kind.MemberExpr n) (passes_at reads_plainly 0 n) ((judged ctx object.0).effects || (judged ctx key.0).effects) none) whole

    member_value : (n : Node) (object key : Claimed ctx sure (lone x)) → Has ctx sure (lone x) n (object ∷ key ∷ []) → HasNone ctx sure (lone x) n kind.MemberExpr (object ∷ key ∷ []) →
        IsTaken ctx sure (lone x) kind.MemberExpr (object ∷ key ∷ [])
        → Leaves old (member_reference (meaning object.0) (meaning key.0) (within ctx sure (lone x) scope) >>= λ r. read (within ctx sure (lone x) scope) r)
    member_value n object key has none whole = leaves_of old (bind_from old (member_by n object key has none whole) (λ r. read_from old (within ctx sure (lone x) scope) r))

    -- calls

    pub none_called : (callee arguments : Claimed ctx sure (lone x)) → (not (judged ctx callee.0).pure_callee || (judged ctx arguments.0).effects) ≡ false → ((judged ctx callee.0).pure_callee ≡ true) ×
        ((judged ctx arguments.0).effects ≡ false)
    none_called callee arguments none = let e = neither_true (not (judged ctx callee.0).pure_callee) (judged ctx arguments.0).effects none in (certain (judged ctx callee.0).pure_callee e.0, e.1)

    either_called : (callee arguments : Claimed ctx sure (lone x)) → ((judged ctx callee.0).pure_callee ≡ true) × ((judged ctx arguments.0).effects ≡ false)
        → ((taken ctx x.known.declared sure callee.0).called ≡ true) × (is_taken ctx x.known.declared sure arguments.0 ≡ true) → (b : Bool) → is_function_expression (out-Node callee.0).kind ≡ b
        → Leaves old (call_by (meaning callee.0).is_super (meaning callee.0) (meaning arguments.0) (within ctx sure (lone x) scope))
    either_called callee arguments none t true is =
        let idle = called_idle ctx sure (lone x) callee.0 t.0 is in
        call_function_leaves old (within ctx sure (lone x) scope) (applies idle.0) (meaning arguments.0) (λ s. (arguments.1.quiet none.1 t.1).arguments s scope apart) callee.0 is idle.1
    either_called callee arguments none t false is =
        call_leaves ctx old (within ctx sure (lone x) scope) (meaning arguments.0) ((arguments.1.quiet none.1 t.1).arguments old scope apart) callee.0
        is (λ is'. apart (called_name ctx sure (lone x) callee.0 t.0 is')) (sym (callee-out ctx callee.0) ∙ none.0)

    call_value_leaves : (callee arguments : Claimed ctx sure (lone x)) → ((judged ctx callee.0).pure_callee ≡ true) × ((judged ctx arguments.0).effects ≡ false)
        → (taken ctx x.known.declared sure callee.0).called && is_taken ctx x.known.declared sure arguments.0 ≡ true →
        Leaves old (call_by (meaning callee.0).is_super (meaning callee.0) (meaning arguments.0) (within ctx sure (lone x) scope))
    call_value_leaves callee arguments none whole =
        either_called callee arguments none (both_true (taken ctx x.known.declared sure callee.0).called (is_taken ctx x.known.declared sure arguments.0) whole) (is_function_expression (out-Node callee.0).kind) refl

    -- optional chains

    chain_by : (n : Node) (optional : Bool) (base : Claimed ctx sure (lone x)) → Has ctx sure (lone x) n (base ∷ []) → HasNone ctx sure (lone x) n (kind.OptChainExpr optional) (base ∷ []) →
        IsTaken ctx sure (lone x) (kind.OptChainExpr optional) (base ∷ [])
        → LeavesBy old (λ o. Readable (chained o)) ((meaning base.0).link optional (within ctx sure (lone x) scope))
    unfolding effects_by access_effects_by pure_callee_by
    chain_by n optional base has none whole =
        let e = neither_true (not (passes_at (has_kind is_optional_call) 0 n)) (judged ctx base.0).effects none in
        base.1.linked e.1 (first_whole ctx sure (lone x) base [] whole) (passes_first (has_kind is_optional_call) n base.0 [] has (certain (passes_at (has_kind is_optional_call) 0 n) e.0)) optional old scope apart

    chain_value : (n : Node) (optional : Bool) (base : Claimed ctx sure (lone x)) → Has ctx sure (lone x) n (base ∷ []) → HasNone ctx sure (lone x) n (kind.OptChainExpr optional) (base ∷ []) →
        IsTaken ctx sure (lone x) (kind.OptChainExpr optional) (base ∷ [])
        → Leaves old ((meaning base.0).link optional (within ctx sure (lone x) scope) >>= λ o. read (within ctx sure (lone x) scope) (chained o))
    chain_value n optional base has none whole = bind_by old (chain_by n optional base has none whole) (λ o readable. read_leaves old (within ctx sure (lone x) scope) (chained o) readable)

    chain_reference : (n : Node) (optional : Bool) (base : Claimed ctx sure (lone x)) → Has ctx sure (lone x) n (base ∷ []) → HasNone ctx sure (lone x) n (kind.OptChainExpr optional) (base ∷ []) →
        IsTaken ctx sure (lone x) (kind.OptChainExpr optional) (base ∷ [])
        → LeavesFrom old Any ReadableIn ((meaning base.0).link optional (within ctx sure (lone x) scope) >>= λ o. give (chained o))
    chain_reference n optional base has none whole =
        bind_from old (of_leaves old {R = Any} (chain_by n optional base has none whole)) (λ o. give_from old (chained o) (λ s readable. readable_in (chained o) s readable))

    -- the value of an expression

    pub value_leaves : (n : Node) (k : Kind) (ns : List (Claimed ctx sure (lone x))) → Has ctx sure (lone x) n ns → HasNone ctx sure (lone x) n k ns → IsTaken ctx sure (lone x) k ns →
        Leaves old (value_of n k (meanings ctx sure (lone x) ns) (within ctx sure (lone x) scope))
    unfolding effects_by access_effects_by part_effects_by pure_callee_by
    value_leaves n (kind.Ident sym ctxt optional) [] has none whole = bind_by old (identifier_by old scope sym ctxt optional n none whole) (λ r readable. read_leaves old (within ctx sure (lone x) scope) r readable)
    value_leaves n (kind.Str text raw) [] has none whole = give_leaves old (Text text)
    value_leaves n (kind.Number number raw) [] has none whole = bind_leaves old (given_leaves old number) (λ v. give_leaves old (Number v))
    value_leaves n (kind.Bool truth) [] has none whole = give_leaves old (Truth truth)
    value_leaves n kind.Null [] has none whole = give_leaves old Null
    value_leaves n kind.ThisExpr [] has none whole = this_leaves old scope
    value_leaves n (kind.Regex exp flags) [] has none whole = bind_leaves old (new_regular_expression_leaves old) (λ o. give_leaves old (Own o))
    value_leaves n kind.Tpl (expressions ∷ parts ∷ []) has none whole = absurd (cc)
    value_leaves n kind.ArrayLit (elements ∷ []) has none whole =
        bind_leaves old ((first_quiet ctx sure (lone x) elements [] none whole).elements old scope apart) (λ es. bind_leaves old (new_array_leaves old es) (λ o. give_leaves old (Own o)))
    value_leaves n kind.ObjectLit (properties ∷ []) has none whole =
        bind_by old (new_object_by old (record { entries = []; prototype = None; callable = None; extent = Ordinary }))
        (λ o new. bind_leaves old ((first_quiet ctx sure (lone x) properties [] none whole).defined o o old scope apart new new) (λ _. give_leaves old (Own o)))
    value_leaves n kind.FnExpr (name ∷ function ∷ []) has none whole = function_value_leaves (meaning name.0).names (meaning function.0) function.1.made
    value_leaves n kind.ClassExpr (name ∷ class ∷ []) has none whole =
        let t = both_true (is_taken ctx x.known.declared sure name.0) (is_taken ctx x.known.declared sure class.0 && (not sure.globals || (taken ctx x.known.declared sure name.0).named)) whole in
        let u = both_true (is_taken ctx x.known.declared sure class.0) (not sure.globals || (taken ctx x.known.declared sure name.0).named) t.1 in
        (class.1.quiet none u.0).class_made (meaning name.0).names (λ g. name.1.named (asked sure.globals (taken ctx x.known.declared sure name.0).named u.1 g)) old scope apart
    value_leaves n (kind.ArrowExpr is_async false) ns has none whole = bind_leaves old (make_function_leaves old (within ctx sure (lone x) scope) n Arrow None) (λ f. give_leaves old (Own f))
    value_leaves n (kind.UnaryExpr op) (operand ∷ []) has none whole =
        let e = neither_true (is_delete op) (judged ctx operand.0).effects none in unary_leaves op (meaning operand.0) e.0 (first_quiet ctx sure (lone x) operand [] e.1 whole)
    value_leaves n (kind.UpdateExpr op prefix) (operand ∷ []) has none whole = absurd (cc)
    value_leaves n (kind.BinExpr op) (left ∷ right ∷ []) has none whole =
        let q = all_quiet ctx sure (lone x) (left ∷ right ∷ []) none whole in bind_leaves old (q.0.value old scope apart) (λ v. binary_rest_leaves op (short_circuit op v) v (meaning right.0) q.1.0)
    value_leaves n (kind.AssignExpr op) (target ∷ right ∷ []) has none whole = absurd (cc)
    value_leaves n kind.CondExpr (test ∷ yes' ∷ no' ∷ []) has none whole =
        let q = all_quiet ctx sure (lone x) (test ∷ yes' ∷ no' ∷ []) none whole in
        bind_leaves old (q.0.value old scope apart) (λ v. when_leaves old (truth_of v) (q.1.0.value old scope apart) (q.1.1.0.value old scope apart))
    value_leaves n kind.SeqExpr ns has none whole = sequence_leaves ns (all_quiet ctx sure (lone x) ns none whole)
    value_leaves n kind.MemberExpr (object ∷ key ∷ []) has none whole = member_value n object key has none whole
    value_leaves n kind.SuperPropExpr (super ∷ key ∷ []) has none whole = absurd (cc)
    value_leaves n kind.CallExpr (callee ∷ arguments ∷ types ∷ []) has none whole = call_value_leaves callee arguments (none_called callee arguments none) whole
    value_leaves n kind.NewExpr (callee ∷ arguments ∷ types ∷ []) has none whole = absurd (cc)
    value_leaves n kind.TsExternalModuleRef (source ∷ []) has none whole = absurd (cc)
    value_leaves n (kind.MetaPropExpr NewTarget) [] has none whole = bind_leaves old (activation_leaves old scope) (λ a. given_leaves old a.1.new_target)
    value_leaves n (kind.OptChainExpr optional) (base ∷ []) has none whole = chain_value n optional base has none whole
    value_leaves n _ ns has none whole = outside_leaves old

    -- what an expression refers to may be read

    as_value_by : (n : Node) (k : Kind) (ns : List (Claimed ctx sure (lone x))) → Has ctx sure (lone x) n ns → HasNone ctx sure (lone x) n k ns → IsTaken ctx sure (lone x) k ns
        → LeavesFrom old Any ReadableIn (value_of n k (meanings ctx sure (lone x) ns) (within ctx sure (lone x) scope) >>= λ v. give (ToValue v))
    as_value_by n k ns has none whole = bind_from old (of_leaves old {R = Any} (value_leaves n k ns has none whole)) (λ v. give_from old (ToValue v) (λ s h. tt))

    pub reference_by : (n : Node) (k : Kind) (ns : List (Claimed ctx sure (lone x))) → Has ctx sure (lone x) n ns → HasNone ctx sure (lone x) n k ns → IsTaken ctx sure (lone x) k ns
        → LeavesFrom old Any ReadableIn (reference_of n k (meanings ctx sure (lone x) ns) (within ctx sure (lone x) scope))
    unfolding effects_by access_effects_by part_effects_by pure_callee_by
    reference_by n (kind.Ident sym ctxt optional) [] has none whole = weaker_from old (λ r s h. readable_in r s h) (of_leaves old {R = Any} (identifier_by old scope sym ctxt optional n none whole))
    reference_by n kind.BindingIdent (id ∷ annotation ∷ []) has none whole = absurd (cc)
    reference_by n kind.MemberExpr (object ∷ key ∷ []) has none whole = member_by n object key has none whole
    reference_by n kind.SuperPropExpr (super ∷ key ∷ []) has none whole = absurd (cc)
    reference_by n (kind.MetaPropExpr ImportMeta) [] has none whole = absurd (cc)
    reference_by n (kind.OptChainExpr optional) (base ∷ []) has none whole = chain_reference n optional base has none whole
    reference_by n k ns has none whole = as_value_by n k ns has none whole

    -- the other roles

    pub initial_leaves : (n : Node) (k : Kind) (ns : List (Claimed ctx sure (lone x))) → Has ctx sure (lone x) n ns → HasNone ctx sure (lone x) n k ns → IsTaken ctx sure (lone x) k ns →
        Leaves old (initial_of n k (meanings ctx sure (lone x) ns) (within ctx sure (lone x) scope))
    initial_leaves n kind.Absent ns has none whole = give_leaves old Undefined
    initial_leaves n k ns has none whole = value_leaves n k ns has none whole

    pub arguments_leaves : (n : Node) (k : Kind) (ns : List (Claimed ctx sure (lone x))) → Has ctx sure (lone x) n ns → HasNone ctx sure (lone x) n k ns → IsTaken ctx sure (lone x) k ns →
        Leaves old (arguments_of n k (meanings ctx sure (lone x) ns) (within ctx sure (lone x) scope))
    unfolding effects_by access_effects_by part_effects_by pure_callee_by
    arguments_leaves n kind.Absent ns has none whole = give_leaves old []
    arguments_leaves n kind.List ns has none whole = all_arguments_leaves ns (all_quiet ctx sure (lone x) ns none whole)
    arguments_leaves n (kind.TsTypeAliasDecl declare) ns has none whole = give_leaves old []
    arguments_leaves n k ns has none whole = bind_leaves old (value_leaves n k ns has none whole) (λ v. give_leaves old (v ∷ []))

    pub elements_leaves : (n : Node) (k : Kind) (ns : List (Claimed ctx sure (lone x))) → Has ctx sure (lone x) n ns → HasNone ctx sure (lone x) n k ns → IsTaken ctx sure (lone x) k ns →
        Leaves old (elements_of n k (meanings ctx sure (lone x) ns) (within ctx sure (lone x) scope))
    unfolding effects_by access_effects_by part_effects_by pure_callee_by
    elements_leaves n kind.Absent ns has none whole = give_leaves old _
    elements_leaves n kind.List ns has none whole = all_elements_leaves ns (all_quiet ctx sure (lone x) ns none whole)
    elements_leaves n (kind.TsTypeAliasDecl declare) ns has none whole = give_leaves old []
    elements_leaves n k ns has none whole = bind_leaves old (value_leaves n k ns has none whole) (λ v. give_leaves old (Some v ∷ []))

    pub key_leaves : (n : Node) (k : Kind) (ns : List (Claimed ctx sure (lone x))) → HasNone ctx sure (lone x) n k ns → IsTaken ctx sure (lone x) k ns → Leaves old (key_of k (meanings ctx sure (lone x) ns) (within ctx sure (lone x) scope))
    unfolding effects_by access_effects_by part_effects_by pure_callee_by
    key_leaves n (kind.IdentName sym) [] none whole = give_leaves old sym
    key_leaves n (kind.Str text raw) [] none whole = give_leaves old text
    key_leaves n (kind.Number number raw) [] none whole = bind_leaves old (given_leaves old number) (λ v. give_leaves old (text_of v))
    key_leaves n kind.ComputedPropName (e ∷ []) none whole = bind_leaves old ((first_quiet ctx sure (lone x) e [] none whole).value old scope apart) (λ v. given_leaves old (key_from v))
    key_leaves n _ ns none whole = outside_leaves old
