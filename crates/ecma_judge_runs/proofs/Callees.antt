-- A call of a pure callee that is no function expression leaves all as it was: what is called is open, or no function.
use Rattle.std.proofs.Common.{◌≡◌, refl, sym, ap, ◌∙◌, subst, ◌⊎◌, inl, inr, ℕ, List, [], ◌∷◌, map, Bool, true, false, not, ◌&&◌, ◌||◌, ◌==◌, bytes_eq, codes, Option, Some, None}
use Rattle.std.specs.List.{list_all}
use Rattle.std.proofs.lemmas.Slice.Eq.{bytes_eq-Decides}
use Rattle.ecma_number.specs.declared.js_number.JsNumber.{JsNumber}
use Rattle.ecma_kind.specs.declared.kind.Kind.{Kind}
use Rattle.ecma_kind.specs.declared.kind.Kind.TheVariants as kind
use Rattle.ecma_tree.specs.declared.node.Node.{Node, out-Node}
use Rattle.ecma_judge.specs.declared.ctx.ExprCtx.{ExprCtx}
use Rattle.ecma_judge.specs.Contexts.{is_among as is_word}
use Rattle.ecma_judge.specs.Parts.{is_text_literal}
use Rattle.ecma_judge.specs.Effects.{effects_by, access_effects_by}
use Rattle.ecma_judge.specs.Judged.{judged, kids_of}
use Rattle.ecma_judge.specs.Judgement.{Judged}
use Rattle.ecma_judge.specs.PureCallees.{is_math, reading_methods, is_pure_member, is_pure_member_of, has_pure_key, pure_callee_by}
use Rattle.ecma_judge.proofs.Judging.{effects-out}
use Rattle.ecma_runs.specs.declared.shown.ErrorKind.TheVariants as error
use Rattle.ecma_runs.specs.Values.{Value, Number, Text, Error, length_of}
use Rattle.ecma_runs.specs.State.{Id, same_id, Entered, State}
use Rattle.ecma_runs.specs.Run.{Outcome, Done, Thrown, Returned, Broken, Continued, Ended, Run, then_outcome, ◌>>=◌, give}
use Rattle.ecma_runs.specs.Environment.{Reference, ToVariable, ToFree, ToMember, ToValue, resolved, is_among}
use Rattle.ecma_runs.specs.Meaning.{ExecutionContext, Meaning}
use Rattle.ecma_runs.specs.Evaluation.{meaning_by, meaning}
use Rattle.ecma_runs.specs.Functions.{Callee, Called, read, callee_by, call}
use Rattle.ecma_runs.specs.Expressions.{call_by, member_of, chained, continued, call_link}
use Rattle.ecma_runs.proofs.Layer.{meaning_out}
use Rattle.ecma_runs.proofs.Names.{same_id-equal}
use Rattle.ecma_judge_runs.proofs.Lone.{lone}
use Rattle.ecma_judge_runs.specs.Called.{is_function_expression, is_loose, declares_no_loose, called}
use Rattle.ecma_judge_runs.proofs.Leaving.{Follows, LeavesBy, Leaves, bind_by, bind_leaves, weaker, give_by, give_leaves, throw_leaves, outside_leaves, when_leaves, unless_leaves, given_leaves}
use Rattle.ecma_judge_runs.proofs.Literals.{contrary, or_false}
use Rattle.ecma_judge_runs.proofs.Records.{Readable}
use Rattle.ecma_judge_runs.proofs.Reading.{text_member_leaves, read_leaves}
use Rattle.ecma_judge_runs.proofs.Meanings.{is_name, needs_globals}
use Rattle.ecma_judge_runs.proofs.Both.{both_true, neither_true, certain}
use Rattle.ecma_judge_runs.proofs.Passing.{passes_first, passes_second}

loose_from : (a b : Bool) → a ≡ true → (a || b) ≡ true
loose_from true b is = refl
loose_from false b is = absurd (cc)

either_true : (a b : Bool) → (a || b) ≡ true → (a ≡ true) ⊎ (b ≡ true)
either_true true b is = inl refl
either_true false b is = inr is

-- a chain goes on behind a reference that is there
some_follows : (old : State) (Q : Option Reference → Type 0) (next : Reference → Run (Option Reference)) (r : Outcome Reference) → Follows old Q (then_outcome r next)
    → Follows old Q (then_outcome (then_outcome r (λ z. give (Some z))) (λ o. continued o next))
some_follows old Q next (Done a s) e = e
some_follows old Q next (Thrown v s) e = e
some_follows old Q next (Returned v s) e = e
some_follows old Q next (Broken s) e = e
some_follows old Q next (Continued s) e = e
some_follows old Q next (Ended why s) e = e

pub some_leaves : (old : State) (Q : Option Reference → Type 0) (m : Run Reference) (next : Reference → Run (Option Reference)) → LeavesBy old Q (m >>= next)
    → LeavesBy old Q ((m >>= λ z. give (Some z)) >>= λ o. continued o next)
some_leaves old Q m next h = record { at = λ s g. some_follows old Q next (m s) (h.at s g) }

module _ (ctx : ExprCtx) where
  -- names with a context that no scope declares

  differs : (id other : Id) → not (is_loose ctx other.ctxt) ≡ true → is_loose ctx id.ctxt ≡ true → (b : Bool) → same_id other id ≡ b → b ≡ false
  differs id other n is false e = refl
  differs id other n is true e = absurd (contrary (is_loose ctx id.ctxt) is (subst (λ (z : Id). not (is_loose ctx z.ctxt) ≡ true) (same_id-equal other id e) n))

  none_among : (id : Id) (ids : List Id) → list_all (λ (z : Id). not (is_loose ctx z.ctxt)) ids ≡ true → is_loose ctx id.ctxt ≡ true → is_among id ids ≡ false
  none_among id [] all is = refl
  none_among id (other ∷ others) all is =
      let t = both_true (not (is_loose ctx other.ctxt)) (list_all (λ (z : Id). not (is_loose ctx z.ctxt)) others) all in
      or_false (same_id other id) (is_among id others) (differs id other t.0 is (same_id other id) refl) (none_among id others t.1 is)

  module _ (old : State) where
    loose_by : (scope : List Entered) → declares_no_loose ctx scope ≡ true → (declared : List Id) (id : Id) → is_loose ctx id.ctxt ≡ true → LeavesBy old (λ r. r ≡ ToFree id.sym) (resolved scope declared id)
    loose_by [] all declared id is = when_leaves old (is_among id declared) (outside_leaves old) (give_by old (ToFree id.sym) refl)
    loose_by (e ∷ outer) all declared id is =
        let t = both_true (list_all (λ (z : Id). not (is_loose ctx z.ctxt)) e.ids) (declares_no_loose ctx outer) all in
        unless_leaves old (is_among id e.ids) (give (ToVariable e.place id)) (none_among id e.ids t.0 is) (loose_by outer t.1 declared id is)

    -- a pure callee refers to `Date`, or to a member of a text

    abbrev pub IsTextMember : Reference → Type 0
    IsTextMember r = (text : List ℕ) × (key : List ℕ) × (r ≡ ToMember (Text text) key)

    abbrev pub RefersPurely : Reference → Type 0
    RefersPurely r = (r ≡ ToFree (codes "Date")) ⊎ IsTextMember r

    module _ (x : ExecutionContext) where
      abbrev pub Clear : Type 0
      Clear = declares_no_loose ctx x.scope ≡ true

      -- members of `Math` are open

      math_member : (name : List ℕ) → name ≡ codes "Math" → (key : Run (List ℕ)) → LeavesBy old IsTextMember (member_of (lone x) (ToFree name) key)
      math_member name is key = subst (λ z. LeavesBy old IsTextMember (member_of (lone x) (ToFree z) key)) (sym is) (outside_leaves old)

      math_reference : (object : Node) (k : Kind) (os : List Node) → (is_name k ≡ true → Clear) → is_math ctx k ≡ true → (key : Run (List ℕ))
          → LeavesBy old IsTextMember ((meaning_by object k (map meaning os)).reference (lone x) >>= λ r. member_of (lone x) r key)
      math_reference object (kind.Ident name ctxt optional) [] clear is key =
          let t = both_true (is_loose ctx ctxt) (bytes_eq name (codes "Math")) is in
          bind_by old (loose_by x.scope (clear refl) x.known.declared (record { sym = name; ctxt = ctxt }) t.0)
          (λ r same. subst (λ z. LeavesBy old IsTextMember (member_of (lone x) z key)) (sym same) (math_member name ((bytes_eq-Decides name (codes "Math")).0 t.1) key))
      math_reference object (kind.Ident name ctxt optional) (c ∷ cs) clear is key = outside_leaves old
      math_reference object k os clear is key = absurd (cc)

      -- members of a text literal

      text_member_by : (text : List ℕ) (key : Run (List ℕ)) → Leaves old key → LeavesBy old IsTextMember (member_of (lone x) (ToValue (Text text)) key)
      text_member_by text key h =
          bind_by old {P = λ v. v ≡ Text text} (give_by old (Text text) refl) (λ o is. bind_leaves old h (λ k. give_by old (ToMember o k) (text, k, ap (λ z. ToMember z k) is)))

      text_reference : (object : Node) (k : Kind) (os : List Node) → is_text_literal k ≡ true → (key : Run (List ℕ)) → Leaves old key
          → LeavesBy old IsTextMember ((meaning_by object k (map meaning os)).reference (lone x) >>= λ r. member_of (lone x) r key)
      text_reference object (kind.Str text raw) [] is key h =
          bind_by old {P = λ r. r ≡ ToValue (Text text)} (bind_by old {P = λ v. v ≡ Text text} (give_by old (Text text) refl) (λ v same. give_by old (ToValue v) (ap ToValue same)))
          (λ r same. subst (λ z. LeavesBy old IsTextMember (member_of (lone x) z key)) (sym same) (text_member_by text key h))
      text_reference object (kind.Str text raw) (c ∷ cs) is key h = outside_leaves old
      text_reference object k os is key h = absurd (cc)

      name_key : (key : Node) (name : List ℕ) (ks : List Node) → Leaves old ((meaning_by key (kind.IdentName name) (map meaning ks)).key (lone x))
      name_key key name [] = give_leaves old name
      name_key key name (c ∷ cs) = outside_leaves old

      named_member : (object key : Node) (k : Kind) (name : List ℕ) (os ks : List Node) → (is_name k ≡ true → Clear) → (is_math ctx k ≡ true) ⊎ ((is_text_literal k && is_word name reading_methods) ≡ true)
          → LeavesBy old IsTextMember ((meaning_by object k (map meaning os)).reference (lone x) >>= λ r. member_of (lone x) r ((meaning_by key (kind.IdentName name) (map meaning ks)).key (lone x)))
      named_member object key k name os ks clear (inl is) = math_reference object k os clear is ((meaning_by key (kind.IdentName name) (map meaning ks)).key (lone x))
      named_member object key k name os ks clear (inr is) =
          text_reference object k os (both_true (is_text_literal k) (is_word name reading_methods) is).0 ((meaning_by key (kind.IdentName name) (map meaning ks)).key (lone x)) (name_key key name ks)

      member_kinds : (object key : Node) (k l : Kind) (os ks : List Node) → (is_name k ≡ true → Clear) → is_pure_member ctx k l ≡ true
          → LeavesBy old IsTextMember ((meaning_by object k (map meaning os)).reference (lone x) >>= λ r. member_of (lone x) r ((meaning_by key l (map meaning ks)).key (lone x)))
      member_kinds object key k (kind.IdentName name) os ks clear is = named_member object key k name os ks clear (either_true (is_math ctx k) (is_text_literal k && is_word name reading_methods) is)
      member_kinds object key k l os ks clear is = absurd (cc)

      member_of_pure : (object key : Node) → (is_name (out-Node object).kind ≡ true → Clear) → is_pure_member_of ctx object key ≡ true
          → LeavesBy old IsTextMember ((meaning object).reference (lone x) >>= λ r. member_of (lone x) r ((meaning key).key (lone x)))
      member_of_pure object key clear is =
          subst (λ m. LeavesBy old IsTextMember (m.reference (lone x) >>= λ r. member_of (lone x) r ((meaning key).key (lone x)))) (sym (meaning_out object))
          (subst (λ m. LeavesBy old IsTextMember ((meaning_by object (out-Node object).kind (map meaning (out-Node object).children)).reference (lone x) >>= λ r. member_of (lone x) r (m.key (lone x)))) (sym (meaning_out key))
          (member_kinds object key (out-Node object).kind (out-Node key).kind (out-Node object).children (out-Node key).children clear is))

      pub pure_member : (n object key : Node) → (out-Node n).children ≡ object ∷ key ∷ [] → (is_name (out-Node object).kind ≡ true → Clear) → pure_callee_by ctx kind.MemberExpr n ≡ true
          → LeavesBy old IsTextMember ((meaning object).reference (lone x) >>= λ r. member_of (lone x) r ((meaning key).key (lone x)))
      unfolding pure_callee_by
      pure_member n object key shape clear is =
          member_of_pure object key clear (passes_second (is_pure_member_of ctx object) n object key [] shape (passes_first (has_pure_key ctx n) n object (key ∷ []) shape is))

      pure_refers : (n : Node) (k : Kind) (cs : List Node) → (out-Node n).children ≡ cs → is_function_expression k ≡ false → (needs_globals k cs ≡ true → Clear) → pure_callee_by ctx k n ≡ true
          → LeavesBy old RefersPurely ((meaning_by n k (map meaning cs)).reference (lone x))
      unfolding pure_callee_by
      pure_refers n (kind.Ident name ctxt optional) [] shape other clear is =
          let t = both_true (ctxt == ctx.unresolved_ctxt) (bytes_eq name (codes "Date")) is in
          weaker old (λ r same. inl (same ∙ ap ToFree ((bytes_eq-Decides name (codes "Date")).0 t.1)))
          (loose_by x.scope (clear refl) x.known.declared (record { sym = name; ctxt = ctxt }) (loose_from (ctxt == ctx.unresolved_ctxt) (ctxt == 0) t.0))
      pure_refers n (kind.Ident name ctxt optional) (c ∷ cs) shape other clear is = outside_leaves old
      pure_refers n kind.MemberExpr (object ∷ key ∷ []) shape other clear is = weaker old (λ r h. inr h) (pure_member n object key shape clear is)
      pure_refers n kind.MemberExpr cs shape other clear is = outside_leaves old
      pure_refers n kind.FnExpr cs shape other clear is = absurd (cc)
      pure_refers n k cs shape other clear is = absurd (cc)

      module _ {A : Type 0} (Q : A → Type 0) (then_run : Reference → Run A) (date : LeavesBy old Q (then_run (ToFree (codes "Date")))) (text : (t key : List ℕ) → LeavesBy old Q (then_run (ToMember (Text t) key))) where
        then_by : (r : Reference) → RefersPurely r → LeavesBy old Q (then_run r)
        then_by r (inl same) = subst (λ z. LeavesBy old Q (then_run z)) (sym same) date
        then_by r (inr h) = subst (λ z. LeavesBy old Q (then_run z)) (sym h.2) (text h.0 h.1)

        -- what follows a pure callee
        pub pure_then : (n : Node) (k : Kind) (cs : List Node) → (out-Node n).children ≡ cs → is_function_expression k ≡ false → (needs_globals k cs ≡ true → Clear) → pure_callee_by ctx k n ≡ true
            → LeavesBy old Q ((meaning_by n k (map meaning cs)).reference (lone x) >>= λ r. then_run r)
        pure_then n k cs shape other clear is = bind_by old (pure_refers n k cs shape other clear is) then_by

  -- a member of a text is its length, which is no function, or open
  text_call : {A : Type 0} (Q : A → Type 0) (old : State) (x : ExecutionContext) (calls : Callee → Run A) → ((n : JsNumber) (text : List ℕ) → LeavesBy old Q (calls (Called (Number n) (Text text)))) → (text key : List ℕ)
      → LeavesBy old Q (callee_by x (ToMember (Text text) key) >>= calls)
  text_call Q old x calls no_function text key =
      bind_by old {P = λ c. (n : JsNumber) × (c ≡ Called (Number n) (Text text))}
      (bind_by old {P = λ v. (n : JsNumber) × (v ≡ Number n)}
      (when_leaves old (bytes_eq key (codes "length")) (bind_leaves old (given_leaves old (length_of text)) (λ n. give_by old (Number n) (n, refl))) (outside_leaves old))
      (λ v is. give_by old (Called v (Text text)) (is.0, ap (λ z. Called z (Text text)) is.1)))
      (λ c is. subst (λ z. LeavesBy old Q (calls z)) (sym is.1) (no_function is.0 text))

  module _ (old : State) (x : ExecutionContext) where
    -- such an expression that is read

    callee_value : (n : Node) (k : Kind) (cs : List Node) → (out-Node n).children ≡ cs → is_function_expression k ≡ false → (needs_globals k cs ≡ true → Clear old (lone x)) → pure_callee_by ctx k n ≡ true
        → Leaves old ((meaning_by n k (map meaning cs)).value (lone x))
    unfolding pure_callee_by
    callee_value n (kind.Ident name ctxt optional) [] shape other clear is =
        pure_then old (lone x) (λ v. Unit {0}) (λ r. read (lone x) r) (read_leaves old (lone x) (ToFree (codes "Date")) refl) (text_member_leaves old) n (kind.Ident name ctxt optional) [] shape other clear is
    callee_value n (kind.Ident name ctxt optional) (c ∷ cs) shape other clear is = outside_leaves old
    callee_value n kind.MemberExpr (object ∷ key ∷ []) shape other clear is =
        pure_then old (lone x) (λ v. Unit {0}) (λ r. read (lone x) r) (read_leaves old (lone x) (ToFree (codes "Date")) refl) (text_member_leaves old) n kind.MemberExpr (object ∷ key ∷ []) shape other clear is
    callee_value n kind.MemberExpr cs shape other clear is = outside_leaves old
    callee_value n kind.FnExpr cs shape other clear is = absurd (cc)
    callee_value n k cs shape other clear is = absurd (cc)

    pub read_callee : (n : Node) → is_function_expression (out-Node n).kind ≡ false → (needs_globals (out-Node n).kind (out-Node n).children ≡ true → Clear old (lone x)) → pure_callee_by ctx (out-Node n).kind n ≡ true
        → Leaves old ((meaning n).value (lone x))
    read_callee n other clear is = subst (λ m. Leaves old (m.value (lone x))) (sym (meaning_out n)) (callee_value n (out-Node n).kind (out-Node n).children refl other clear is)

    -- a call on values that are there
    pub call_on : (values : List Value) (n : Node) (k : Kind) (cs : List Node) → (out-Node n).children ≡ cs → is_function_expression k ≡ false → (needs_globals k cs ≡ true → Clear old (lone x))
        → pure_callee_by ctx k n ≡ true → Leaves old (called (meaning_by n k (map meaning cs)) values (lone x))
    call_on values n k cs shape other clear is =
        pure_then old (lone x) (λ v. Unit {0}) (λ r. callee_by (lone x) r >>= λ c. call (lone x) c values) (outside_leaves old)
        (text_call (λ v. Unit {0}) old (lone x) (λ c. call (lone x) c values) (λ m text. throw_leaves old (Error error.Kind))) n k cs shape other clear is

    -- ---- on arguments that leave all as it was

    module _ (arguments : Meaning) (h : Leaves old (arguments.arguments (lone x))) where
      call_behind : (n : Node) (k : Kind) (cs : List Node) → (out-Node n).children ≡ cs → is_function_expression k ≡ false → (needs_globals k cs ≡ true → Clear old (lone x)) → pure_callee_by ctx k n ≡ true
          → Leaves old ((meaning_by n k (map meaning cs)).reference (lone x) >>= λ r. callee_by (lone x) r >>= λ c. arguments.arguments (lone x) >>= λ vs. call (lone x) c vs)
      call_behind n k cs shape other clear is =
          pure_then old (lone x) (λ v. Unit {0}) (λ r. callee_by (lone x) r >>= λ c. arguments.arguments (lone x) >>= λ vs. call (lone x) c vs) (outside_leaves old)
          (text_call (λ v. Unit {0}) old (lone x) (λ c. arguments.arguments (lone x) >>= λ vs. call (lone x) c vs) (λ m text. bind_leaves old h (λ vs. throw_leaves old (Error error.Kind)))) n k cs shape other clear is

      call_expression : (n : Node) (k : Kind) (cs : List Node) → (out-Node n).children ≡ cs → is_function_expression k ≡ false → (needs_globals k cs ≡ true → Clear old (lone x)) → pure_callee_by ctx k n ≡ true
          → Leaves old (call_by (meaning_by n k (map meaning cs)).is_super (meaning_by n k (map meaning cs)) arguments (lone x))
      unfolding pure_callee_by
      call_expression n (kind.Ident name ctxt optional) cs shape other clear is = call_behind n (kind.Ident name ctxt optional) cs shape other clear is
      call_expression n kind.MemberExpr cs shape other clear is = call_behind n kind.MemberExpr cs shape other clear is
      call_expression n kind.FnExpr cs shape other clear is = absurd (cc)
      call_expression n k cs shape other clear is = absurd (cc)

      pub call_leaves : (n : Node) → is_function_expression (out-Node n).kind ≡ false → (needs_globals (out-Node n).kind (out-Node n).children ≡ true → Clear old (lone x)) → pure_callee_by ctx (out-Node n).kind n ≡ true
          → Leaves old (call_by (meaning n).is_super (meaning n) arguments (lone x))
      call_leaves n other clear is =
          subst (λ m. Leaves old (call_by m.is_super m arguments (lone x))) (sym (meaning_out n)) (call_expression n (out-Node n).kind (out-Node n).children refl other clear is)

      -- an optional call gives a value, or ends the chain

      module _ (optional : Bool) where
        abbrev GivesValue : Option Reference → Type 0
        GivesValue o = Readable (chained o)

        abbrev linked : Reference → Run (Option Reference)
        linked r = callee_by (lone x) r >>= λ c. call_link optional c arguments (lone x)

        link_text : (n : JsNumber) (text : List ℕ) → LeavesBy old GivesValue (call_link optional (Called (Number n) (Text text)) arguments (lone x))
        link_text n text = when_leaves old (optional && false) (give_by old None tt) (bind_leaves old h (λ vs. throw_leaves old (Error error.Kind)))

        link_behind : (n : Node) (k : Kind) (cs : List Node) → (out-Node n).children ≡ cs → is_function_expression k ≡ false → (needs_globals k cs ≡ true → Clear old (lone x)) → pure_callee_by ctx k n ≡ true
            → LeavesBy old GivesValue (((meaning_by n k (map meaning cs)).reference (lone x) >>= λ z. give (Some z)) >>= λ o. continued o linked)
        link_behind n k cs shape other clear is =
            some_leaves old GivesValue ((meaning_by n k (map meaning cs)).reference (lone x)) linked
            (pure_then old (lone x) GivesValue linked (outside_leaves old) (text_call GivesValue old (lone x) (λ c. call_link optional c arguments (lone x)) link_text) n k cs shape other clear is)

        link_expression : (n : Node) (k : Kind) (cs : List Node) → (out-Node n).children ≡ cs → is_function_expression k ≡ false → (needs_globals k cs ≡ true → Clear old (lone x)) → pure_callee_by ctx k n ≡ true
            → LeavesBy old GivesValue ((meaning_by n k (map meaning cs)).chain (lone x) >>= λ o. continued o linked)
        unfolding pure_callee_by
        link_expression n (kind.Ident name ctxt optional') cs shape other clear is = link_behind n (kind.Ident name ctxt optional') cs shape other clear is
        link_expression n kind.MemberExpr cs shape other clear is = link_behind n kind.MemberExpr cs shape other clear is
        link_expression n kind.FnExpr cs shape other clear is = absurd (cc)
        link_expression n k cs shape other clear is = absurd (cc)

        pub link_leaves : (n : Node) → is_function_expression (out-Node n).kind ≡ false → (needs_globals (out-Node n).kind (out-Node n).children ≡ true → Clear old (lone x)) → pure_callee_by ctx (out-Node n).kind n ≡ true
            → LeavesBy old GivesValue ((meaning n).chain (lone x) >>= λ o. continued o linked)
        link_leaves n other clear is =
            subst (λ m. LeavesBy old GivesValue (m.chain (lone x) >>= λ o. continued o linked)) (sym (meaning_out n)) (link_expression n (out-Node n).kind (out-Node n).children refl other clear is)

  -- what a call without effects says of its parts

  call_none : (n : Node) (callee arguments types : Judged) → (not (pure_callee_by ctx kind.CallExpr n) && effects_by ctx kind.CallExpr n (callee ∷ arguments ∷ types ∷ [])) ≡ false
      → (callee.pure_callee ≡ true) × (arguments.effects ≡ false)
  unfolding effects_by access_effects_by pure_callee_by
  call_none n callee arguments types is = let t = neither_true (not callee.pure_callee) arguments.effects is in (certain callee.pure_callee t.0, t.1)

  pub call_parts : (n callee arguments types : Node) → (out-Node n).kind ≡ kind.CallExpr → (out-Node n).children ≡ callee ∷ arguments ∷ types ∷ [] → (judged ctx n).effects ≡ false
      → ((judged ctx callee).pure_callee ≡ true) × ((judged ctx arguments).effects ≡ false)
  call_parts n callee arguments types is shape none =
      call_none n (judged ctx callee) (judged ctx arguments) (judged ctx types)
      (subst (λ cs. (not (pure_callee_by ctx kind.CallExpr n) && effects_by ctx kind.CallExpr n (map (judged ctx) cs)) ≡ false) shape
      (subst (λ k. (not (pure_callee_by ctx k n) && effects_by ctx k n (kids_of ctx n)) ≡ false) is (sym (effects-out ctx n) ∙ none)))
