-- Where a Number is known of a value that is an object, that is an array, and the Number is that of its text in the state behind.
use Rattle.std.proofs.Common.{◌≡◌, refl, sym, ap, ◌∙◌, subst, ℕ, suc, arith, ◌-◌, length, List, [], ◌∷◌, map, Bool, true, false, ◌&&◌, ◌||◌, ◌==◌, bytes_eq, codes, if◌then◌else◌}
use Rattle.ecma_number.specs.StringToNumber.{text_number_of}
use Rattle.ecma_number.specs.declared.js_number.JsNumber.{JsNumber}
use Rattle.ecma_number.specs.declared.js_number.JsNumber.TheVariants as js_number
use Rattle.ecma_number.specs.declared.types.JsType.TheVariants as js_type
use Rattle.ecma_number.specs.declared.types.Purity.{Purity}
use Rattle.ecma_number.specs.declared.types.Purity.TheVariants.{Pure}
use Rattle.ecma_number.specs.declared.value.Value.{Value as KnownOr}
use Rattle.ecma_number.specs.declared.value.Value.TheVariants.{Known, Unknown}
use Rattle.ecma_kind.specs.declared.kind.Kind.{Kind}
use Rattle.ecma_kind.specs.declared.kind.Kind.TheVariants as kind
use Rattle.ecma_kind.specs.declared.operators.UnaryOp.{UnaryOp}
use Rattle.ecma_kind.specs.declared.operators.UnaryOp.TheVariants as operator
use Rattle.ecma_tree.specs.declared.node.Node.{Node, Node-F, roll-Node, out-Node, ind-Node}
use Rattle.ecma_tree.specs.declared.node.Node.TheViews.{out-roll-Node}
use Rattle.ecma_judge.specs.declared.ctx.ExprCtx.{ExprCtx}
use Rattle.ecma_judge.specs.Judged.{judged, kids_of}
use Rattle.ecma_judge.specs.Judgement.{Judged, purity_of, kid}
use Rattle.ecma_judge.specs.Numbers.{number_by, array_number}
use Rattle.ecma_judge.specs.Texts.{text_by}
use Rattle.ecma_judge.specs.Types.{unary_type, type_by}
use Rattle.ecma_judge.specs.Values.{last_index}
use Rattle.ecma_judge.proofs.Judging.{number-out, text-out, type-out}
use Rattle.ecma_runs.specs.Values.{Value, Own}
use Rattle.ecma_runs.specs.State.{State}
use Rattle.ecma_runs.specs.Run.{Outcome, Done, Thrown, Returned, Broken, Continued, Ended, Run, then_outcome, ◌>>=◌}
use Rattle.ecma_runs.specs.Meaning.{ExecutionContext}
use Rattle.ecma_runs.specs.Expressions.{sequence}
use Rattle.ecma_runs.specs.Evaluation.{meaning_by, meaning}
use Rattle.ecma_runs.proofs.Layer.{meaning_out}
use Rattle.ecma_judge_runs.specs.InState.{HasArrayNumber}
use Rattle.ecma_judge_runs.specs.Known.{HasType, ConstructsObjects, declares_no_global}
use Rattle.ecma_judge_runs.proofs.Lone.{lone}
use Rattle.ecma_judge_runs.proofs.Giving.{Gave, GivesBy}
use Rattle.ecma_judge_runs.proofs.Keeping.{FollowsIn}
use Rattle.ecma_judge_runs.proofs.Shapes.{untrue}
use Rattle.ecma_judge_runs.proofs.ValuedNodes.{valued}
use Rattle.ecma_judge_runs.proofs.ValuedShapes.{shape_valued}
use Rattle.ecma_judge_runs.proofs.Settling.{Settles}
use Rattle.ecma_judge_runs.proofs.Steady.{is_parted, EachOf, Steady}
use Rattle.ecma_judge_runs.proofs.Asking.{IsSorted, sorted_each}
use Rattle.ecma_judge_runs.proofs.Joined.{unknown_known, known_array}

-- ---- what is so of the state in which a run gives something

abbrev GaveIn : {A : Type 0} → (A → State → Type 0) → Outcome A → Type 0
GaveIn P (Done a s) = P a s
GaveIn P (Thrown v s) = Unit {0}
GaveIn P (Returned v s) = Unit {0}
GaveIn P (Broken s) = Unit {0}
GaveIn P (Continued s) = Unit {0}
GaveIn P (Ended why s) = Unit {0}

pub record GivesIn {A : Type 0} (P : A → State → Type 0) (m : Run A) : Type 0 where
  pub at : (s : State) → GaveIn P (m s)

pub given_there : {A : Type 0} (P : A → State → Type 0) (m : Run A) (s t : State) (a : A) → GivesIn P m → m s ≡ Done a t → P a t
given_there P m s t a h done = subst (λ r. GaveIn P r) done (h.at s)

then_given : {A B : Type 0} (Q : B → State → Type 0) (k : A → Run B) → ((a : A) → GivesIn Q (k a)) → (r : Outcome A) → GaveIn Q (then_outcome r k)
then_given Q k h (Done a s) = (h a).at s
then_given Q k h (Thrown v s) = tt
then_given Q k h (Returned v s) = tt
then_given Q k h (Broken s) = tt
then_given Q k h (Continued s) = tt
then_given Q k h (Ended why s) = tt

-- whatever the first part does
behind_given : {A B : Type 0} {Q : B → State → Type 0} (m : Run A) {k : A → Run B} → ((a : A) → GivesIn Q (k a)) → GivesIn Q (m >>= k)
behind_given {Q = Q} m {k = k} h = record { at = λ s. then_given Q k h (m s) }

settled_given : {A : Type 0} (s : State) (P Q : A → State → Type 0) → ((a : A) (t : State) → P a t → Q a t) → (r : Outcome A) → FollowsIn s P r → GaveIn Q r
settled_given s P Q h (Done a t) e = h a t e.1
settled_given s P Q h (Thrown v t) e = tt
settled_given s P Q h (Returned v t) e = tt
settled_given s P Q h (Broken t) e = tt
settled_given s P Q h (Continued t) e = tt
settled_given s P Q h (Ended why t) e = tt

of_settled : {A : Type 0} {P Q : A → State → Type 0} {m : Run A} → ((a : A) (t : State) → P a t → Q a t) → Settles P m → GivesIn Q m
of_settled {P = P} {Q = Q} {m = m} h hm = record { at = λ s. settled_given s P Q h (m s) (hm.at s tt) }

gave_given : {A : Type 0} (P : A → Type 0) (Q : A → State → Type 0) → ((a : A) (t : State) → P a → Q a t) → (r : Outcome A) → Gave P r → GaveIn Q r
gave_given P Q h (Done a t) e = h a t e
gave_given P Q h (Thrown v t) e = tt
gave_given P Q h (Returned v t) e = tt
gave_given P Q h (Broken t) e = tt
gave_given P Q h (Continued t) e = tt
gave_given P Q h (Ended why t) e = tt

of_gives : {A : Type 0} {P : A → Type 0} {Q : A → State → Type 0} {m : Run A} → ((a : A) (t : State) → P a → Q a t) → GivesBy P m → GivesIn Q m
of_gives {P = P} {Q = Q} {m = m} h hm = record { at = λ s. gave_given P Q h (m s) (hm.at s) }

-- ---- what has a Number and is no array or sequence is no object

abbrev name_numbered : (g u i n : Bool) → Purity → Purity × KnownOr JsNumber
name_numbered g u i n own = (if g && (u || n) then (Pure, Known js_number.NaN) else if g && i then (Pure, Known js_number.Infinity) else (own, Unknown))

no_object : (o : ℕ) (g u i n : Bool) (own : Purity) (number : JsNumber)
    → (name_numbered g u i n own).1 ≡ Known number
    → HasType (if g && u then Known js_type.Undefined else if g && (n || i) then Known js_type.Num else Unknown) (Own o) → ⊥
no_object o false u i n own number known is = unknown_known refl known
no_object o true true i n own number known is = untrue is
no_object o true false i true own number known is = untrue is
no_object o true false true false own number known is = untrue is
no_object o true false false false own number known is = unknown_known refl known

unary_object : (op : UnaryOp) (o : ℕ) → HasType (Known (unary_type op)) (Own o) → ⊥
unary_object operator.Minus o is = untrue is
unary_object operator.Plus o is = untrue is
unary_object operator.Tilde o is = untrue is
unary_object operator.Bang o is = untrue is
unary_object operator.Delete o is = untrue is
unary_object operator.TypeOf o is = untrue is
unary_object operator.Void o is = untrue is

abbrev is_made : Kind → Bool
is_made kind.ArrayLit = true
is_made kind.SeqExpr = true
is_made k = false

module _ (ctx : ExprCtx) (own : Purity) (n : Node) (kids : List Judged) (number : JsNumber) (o : ℕ) where
  number_object : (k : Kind) → is_made k ≡ false → (number_by ctx own k n kids).1 ≡ Known number → HasType (type_by ctx k n kids) (Own o) → ⊥
  unfolding number_by type_by
  number_object (kind.Ident sym ctxt optional) m known is =
      no_object o (ctxt == ctx.unresolved_ctxt) (bytes_eq sym (codes "undefined")) (bytes_eq sym (codes "Infinity")) (bytes_eq sym (codes "NaN")) own number known is
  number_object (kind.Bool value) m known is = untrue is
  number_object kind.Null m known is = untrue is
  number_object (kind.Number value raw) m known is = untrue is
  number_object (kind.Str value raw) m known is = untrue is
  number_object (kind.UnaryExpr op) m known is = unary_object op o is
  number_object kind.ArrayLit m known is = untrue (sym m)
  number_object kind.SeqExpr m known is = untrue (sym m)
  number_object k m known is = unknown_known refl known

-- the text that a known Number of an array is told from
number_text : (own : Purity) (text : KnownOr (List ℕ)) (number : JsNumber) → (array_number own text).1 ≡ Known number → (t : List ℕ) × (text ≡ Known t) × (text_number_of t ≡ Known number)
number_text own (Known t) number is = (t, refl, is)
number_text own Unknown number is = absurd (unknown_known refl is)

array_here : (ctx : ExprCtx) (e : Node) (number : JsNumber) → (out-Node e).kind ≡ kind.ArrayLit → (judged ctx e).number.1 ≡ Known number → (t : List ℕ) × ((judged ctx e).text ≡ Known t) × (text_number_of t ≡ Known number)
unfolding number_by text_by
array_here ctx e number is known =
    let own = purity_of (judged ctx e).effects in
    let n : (judged ctx e).number ≡ number_by ctx own kind.ArrayLit e (kids_of ctx e) = number-out ctx e ∙ ap (λ k. number_by ctx own k e (kids_of ctx e)) is in
    let t : (judged ctx e).text ≡ text_by ctx own kind.ArrayLit (kids_of ctx e) = text-out ctx e ∙ ap (λ k. text_by ctx own k (kids_of ctx e)) is in
    let f = number_text own (kid (kids_of ctx e) 0).text number (sym (ap (λ (z : Purity × KnownOr JsNumber). z.1) n) ∙ known) in
    (f.0, t ∙ f.1, f.2)

-- where the value is an object, that is an array, and the Number is that of its text
abbrev pub IsArrayNumber : JsNumber → Value → State → Type 0
IsArrayNumber number v s = (o : ℕ) → v ≡ Own o → HasArrayNumber s v number

module _ (ctx : ExprCtx) (x : ExecutionContext) (apart : declares_no_global ctx x.scope ≡ true) (steadies : (n : Node) → Steady ctx (IsSorted ctx (lone x)) (lone x) n) (objects : ConstructsObjects (lone x)) where
  record Numbered (n : Node) : Type 0 where
    pub number : IsSorted ctx (lone x) n → (number : JsNumber) → (judged ctx n).number.1 ≡ Known number → GivesIn (IsArrayNumber number) ((meaning n).value (lone x))

  abbrev NumberedNode : Type 0
  NumberedNode = (n : Node) × Numbered n

  abbrev nodes : List NumberedNode → List Node
  nodes ns = map (λ e. e.0) ns

  array_numbered : (n : Node) → IsSorted ctx (lone x) n → (out-Node n).kind ≡ kind.ArrayLit → (number : JsNumber) → (judged ctx n).number.1 ≡ Known number → GivesIn (IsArrayNumber number) ((meaning n).value (lone x))
  array_numbered n h is number known =
      let f = array_here ctx n number is known in
      of_settled (λ v s a o e. (f.0, a, f.2)) (known_array ctx (lone x) apart steadies n h is f.0 f.1)

  last_step : (a : ℕ) → suc (suc a) - 1 ≡ suc (suc a - 1)
  last_step a = omega arith

  sequence_numbered : (ns : List NumberedNode) → EachOf (IsSorted ctx (lone x)) (nodes ns) → (number : JsNumber) → (kid (map (judged ctx) (nodes ns)) (last_index (length (nodes ns)))).number.1 ≡ Known number
      → GivesIn (IsArrayNumber number) (sequence (map meaning (nodes ns)) (lone x))
  sequence_numbered [] h number known = record { at = λ s. tt }
  sequence_numbered (m ∷ []) h number known = m.1.number h.0 number known
  sequence_numbered (m ∷ p ∷ ns) h number known =
      behind_given ((meaning m.0).value (lone x)) (λ _. sequence_numbered (p ∷ ns) h.1 number
      (subst (λ i. (kid (map (judged ctx) (nodes (m ∷ p ∷ ns))) i).number.1 ≡ Known number) (last_step (length (nodes ns))) known))

  list_numbered : (n : Node) → IsSorted ctx (lone x) n → (out-Node n).kind ≡ kind.SeqExpr → (ns : List NumberedNode) → nodes ns ≡ (out-Node n).children → (number : JsNumber) → (judged ctx n).number.1 ≡ Known number
      → GivesIn (IsArrayNumber number) ((meaning n).value (lone x))
  unfolding number_by
  list_numbered n h is ns same number known =
      let own = purity_of (judged ctx n).effects in
      let mean : meaning n ≡ meaning_by n kind.SeqExpr (map meaning (nodes ns)) =
      meaning_out n ∙ ap (λ l. meaning_by n l (map meaning (out-Node n).children)) is ∙ ap (λ l. meaning_by n kind.SeqExpr (map meaning l)) (sym same) in
      let told : (judged ctx n).number ≡ number_by ctx own kind.SeqExpr n (kids_of ctx n) = number-out ctx n ∙ ap (λ k. number_by ctx own k n (kids_of ctx n)) is in
      let last = sym (ap (λ (z : Purity × KnownOr JsNumber). z.1) told) ∙ known in
      subst (λ m. GivesIn (IsArrayNumber number) (m.value (lone x))) (sym mean)
      (sequence_numbered ns (subst (EachOf (IsSorted ctx (lone x))) (sym same) (sorted_each ctx (lone x) n h (subst (λ k. is_parted k ≡ true) (sym is) refl))) number
      (subst (λ l. (kid (map (judged ctx) l) (last_index (length l))).number.1 ≡ Known number) (sym same) last))

  other_numbered : (n : Node) → IsSorted ctx (lone x) n → is_made (out-Node n).kind ≡ false → (number : JsNumber) → (judged ctx n).number.1 ≡ Known number → GivesIn (IsArrayNumber number) ((meaning n).value (lone x))
  other_numbered n h m number known =
      of_gives (λ v s j o is. absurd (number_object ctx (purity_of (judged ctx n).effects) n (kids_of ctx n) number o (out-Node n).kind m
      (sym (ap (λ (z : Purity × KnownOr JsNumber). z.1) (number-out ctx n)) ∙ known) (subst (λ w. HasType (type_by ctx (out-Node n).kind n (kids_of ctx n)) w) is (subst (λ z. HasType z v) (type-out ctx n) j.type))))
      ((valued ctx true (lone x) (λ f. objects) apart n).value (shape_valued n h.shape h.has))

  number_at : (n : Node) → IsSorted ctx (lone x) n → (k : Kind) → (out-Node n).kind ≡ k → (ns : List NumberedNode) → nodes ns ≡ (out-Node n).children → (number : JsNumber) → (judged ctx n).number.1 ≡ Known number
      → GivesIn (IsArrayNumber number) ((meaning n).value (lone x))
  number_at n h kind.ArrayLit is ns same number known = array_numbered n h is number known
  number_at n h kind.SeqExpr is ns same number known = list_numbered n h is ns same number known
  number_at n h k is ns same number known = other_numbered n h (ap is_made is) number known

  numbered : (n : Node) → Numbered n
  numbered = ind-Node Numbered (λ parts y is. record {
    number = λ h number known. number_at (roll-Node parts) h (out-Node (roll-Node parts)).kind refl y.children (ap (λ z. z.children) is ∙ sym (ap (λ (z : Node-F Node). z.children) (out-roll-Node parts))) number known;
  })

  pub known_number : (n : Node) → IsSorted ctx (lone x) n → (number : JsNumber) → (judged ctx n).number.1 ≡ Known number → GivesIn (IsArrayNumber number) ((meaning n).value (lone x))
  known_number n h number known = (numbered n).number h number known
