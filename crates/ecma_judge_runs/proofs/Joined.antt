-- Where a text is known it is that of the value in the state behind it: of an array that of its elements there.
use Rattle.std.proofs.Common.{◌≡◌, refl, sym, ap, ◌∙◌, subst, ◌⊎◌, inl, inr, ℕ, length, replicate, List, [], ◌∷◌, ◌++◌, map, Some, None, Bool, true, false, not, ◌&&◌, ◌||◌, ◌==◌, bytes_eq, codes, if◌then◌else◌}
use Rattle.ecma_number.specs.Text.{text_of}
use Rattle.ecma_number.specs.Types.{is_pure}
use Rattle.ecma_number.specs.Value.{logical_not}
use Rattle.ecma_number.specs.declared.types.JsType.TheVariants as js_type
use Rattle.ecma_number.specs.declared.types.Purity.{Purity}
use Rattle.ecma_number.specs.declared.types.Purity.TheVariants.{MayBeImpure, Pure}
use Rattle.ecma_number.specs.declared.value.Value.{Value as KnownOr}
use Rattle.ecma_number.specs.declared.value.Value.TheVariants.{Known, Unknown}
use Rattle.ecma_kind.specs.Sorts.{belongs}
use Rattle.ecma_kind.specs.declared.kind.Kind.{Kind}
use Rattle.ecma_kind.specs.declared.kind.Kind.TheVariants as kind
use Rattle.ecma_kind.specs.declared.operators.UnaryOp.{UnaryOp}
use Rattle.ecma_kind.specs.declared.operators.UnaryOp.TheVariants as operator
use Rattle.ecma_kind.specs.declared.shapes.Count.{Count}
use Rattle.ecma_kind.specs.declared.shapes.Count.TheVariants.{One, Maybe, Many, MaybeMany, Holes}
use Rattle.ecma_kind.specs.declared.shapes.Shape.{Shape}
use Rattle.ecma_kind.specs.declared.shapes.Sort.{Sort}
use Rattle.ecma_kind.specs.declared.shapes.Sort.TheVariants as sort
use Rattle.ecma_tree.specs.Sorted.{is_absent, is_list, allows, child_shapes, all_have_shapes, has_shape, item_shape, with_holes}
use Rattle.ecma_tree.specs.declared.node.Node.{Node, Node-F, fold_out-Node, roll-Node, out-Node, ind-Node}
use Rattle.ecma_tree.specs.declared.node.Node.TheViews.{out-roll-Node}
use Rattle.ecma_judge.specs.declared.ctx.ExprCtx.{ExprCtx}
use Rattle.ecma_judge.specs.Judged.{judged, kids_of}
use Rattle.ecma_judge.specs.Judgement.{Judged, purity_of, kid}
use Rattle.ecma_judge.specs.Texts.{bool_text, known_bool_text, text_by, is_nothing_by, joined_behind, followed_by}
use Rattle.ecma_judge.specs.Truths.{truth_by}
use Rattle.ecma_judge.specs.Types.{type_by}
use Rattle.ecma_judge.specs.Values.{is_void}
use Rattle.ecma_judge.proofs.Judging.{truth-out, text-out, type-out, element-out}
use Rattle.ecma_runs.specs.Values.{Value, Undefined, Null, Truth, Number, Text, truth_of}
use Rattle.ecma_runs.specs.State.{State}
use Rattle.ecma_runs.specs.Run.{◌>>=◌, give}
use Rattle.ecma_runs.specs.Meaning.{ExecutionContext, Meaning}
use Rattle.ecma_runs.specs.Operators.{text_from}
use Rattle.ecma_runs.specs.Expressions.{all_elements}
use Rattle.ecma_runs.specs.Evaluation.{meaning_by, meaning}
use Rattle.ecma_runs.proofs.Layer.{meaning_out}
use Rattle.ecma_judge_runs.proofs.Lone.{lone}
use Rattle.ecma_judge_runs.specs.InState.{adds_nothing, with_commas, none_left, empty_text, own_text, array_text, HaveTextsIn, HasArrayText}
use Rattle.ecma_judge_runs.specs.Known.{HasTruth, HasText, HasType, Marks, marks, marks_step, is_valued, is_valued_by, is_of_type, declares_no_global}
use Rattle.ecma_judge_runs.proofs.Both.{both_true}
use Rattle.ecma_judge_runs.specs.Told.{are_told}
use Rattle.ecma_judge_runs.proofs.Shapes.{shaped, untrue}
use Rattle.ecma_judge_runs.proofs.ValuedNodes.{valued}
use Rattle.ecma_judge_runs.proofs.Settling.{Settles, bind_settles, weaker_settles, beside_settles, give_settles, outside_settles, settled, OneText, one_still, JoinedTexts, joined_more, array_settles}
use Rattle.ecma_judge_runs.proofs.Steady.{is_parted, Steady}
use Rattle.ecma_judge_runs.proofs.Asking.{IsSorted, all_told, sorted_below}

-- ---- of what is known

known_never : {A : Type 0} {a : A} → Known a ≡ Unknown → ⊥
known_never h = cc

pub unknown_known : {A : Type 0} {a : A} {b : KnownOr A} → b ≡ Unknown → b ≡ Known a → ⊥
unknown_known is known = known_never (sym known ∙ is)

abbrev known_or : {A : Type 0} → A → KnownOr A → A
known_or other (Known a) = a
known_or other Unknown = other

known_same : {A : Type 0} {a b : A} → Known a ≡ Known b → a ≡ b
known_same {a = a} h = ap (known_or a) h

-- a value with this text, that adds nothing as an element or not
abbrev pub Plain : Value → List ℕ → Bool → Type 0
Plain v text nothing = (text_from v ≡ Some text) × (adds_nothing (Some v) ≡ nothing)

module _ (text : List ℕ) where
  str_plain : (v : Value) → is_of_type js_type.Str v ≡ true → HasText (Known text) v → Plain v text false
  str_plain (Text t) is h = (ap Some (h t refl), refl)
  str_plain v is h = absurd (untrue is)

  num_plain : (v : Value) → is_of_type js_type.Num v ≡ true → HasText (Known text) v → Plain v text false
  num_plain (Number n) is h = (ap Some (h (text_of n) refl), refl)
  num_plain v is h = absurd (untrue is)

  bool_plain : (v : Value) → is_of_type js_type.Bool v ≡ true → HasText (Known text) v → Plain v text false
  bool_plain (Truth true) is h = (ap Some (h (codes "true") refl), refl)
  bool_plain (Truth false) is h = (ap Some (h (codes "false") refl), refl)
  bool_plain v is h = absurd (untrue is)

  null_plain : (v : Value) → is_of_type js_type.Null v ≡ true → HasText (Known text) v → Plain v text true
  null_plain Null is h = (ap Some (h (codes "null") refl), refl)
  null_plain v is h = absurd (untrue is)

  undefined_plain : (v : Value) → is_of_type js_type.Undefined v ≡ true → HasText (Known text) v → Plain v text true
  undefined_plain Undefined is h = (ap Some (h (codes "undefined") refl), refl)
  undefined_plain v is h = absurd (untrue is)

  -- a name that is its own text: `undefined` (u), `Infinity` (i) or `NaN` (n), with the context of what is not resolved (g)
  name_plain : (g u i n : Bool) (sym : List ℕ) (v : Value) → (if g && (u || i || n) then Known sym else Unknown) ≡ Known text
      → HasType (if g && u then Known js_type.Undefined else if g && (n || i) then Known js_type.Num else Unknown) v → HasText (Known text) v → Plain v text (g && u)
  name_plain false u i n sym v known is h = absurd (unknown_known refl known)
  name_plain true true i n sym v known is h = undefined_plain v is h
  name_plain true false true true sym v known is h = num_plain v is h
  name_plain true false true false sym v known is h = num_plain v is h
  name_plain true false false true sym v known is h = num_plain v is h
  name_plain true false false false sym v known is h = absurd (unknown_known refl known)

void_nothing : (own : Purity) (text t : List ℕ) → (if is_pure own then Known text else Unknown) ≡ Known t → is_pure own ≡ true
void_nothing Pure text t known = refl
void_nothing MayBeImpure text t known = absurd (unknown_known refl known)

-- kinds whose text is known by the kind, if it is
abbrev is_plain : Kind → Bool
is_plain (kind.Str value raw) = true
is_plain (kind.Number value raw) = true
is_plain (kind.Bool value) = true
is_plain kind.Null = true
is_plain (kind.Ident sym ctxt optional) = true
is_plain (kind.UnaryExpr op) = is_void op
is_plain k = false

module _ (ctx : ExprCtx) (own : Purity) (n : Node) (kids : List Judged) (text : List ℕ) where
  void_plain : (op : UnaryOp) → is_void op ≡ true → text_by ctx own (kind.UnaryExpr op) kids ≡ Known text → (v : Value) → HasText (Known text) v → HasType (type_by ctx (kind.UnaryExpr op) n kids) v
      → Plain v text (is_nothing_by ctx own (kind.UnaryExpr op))
  unfolding text_by type_by is_nothing_by
  void_plain operator.Void p known v h is = let u = undefined_plain text v is h in (u.0, u.1 ∙ sym (void_nothing own (codes "undefined") text known))
  void_plain op p known v h is = absurd (untrue p)

  plain : (k : Kind) → is_plain k ≡ true → text_by ctx own k kids ≡ Known text → (v : Value) → HasText (Known text) v → HasType (type_by ctx k n kids) v → Plain v text (is_nothing_by ctx own k)
  unfolding text_by type_by is_nothing_by
  plain (kind.Str value raw) p known v h is = str_plain text v is h
  plain (kind.Number value raw) p known v h is = num_plain text v is h
  plain (kind.Bool value) p known v h is = bool_plain text v is h
  plain kind.Null p known v h is = null_plain text v is h
  plain (kind.Ident sym ctxt optional) p known v h is =
      name_plain text (ctxt == ctx.unresolved_ctxt) (bytes_eq sym (codes "undefined")) (bytes_eq sym (codes "Infinity")) (bytes_eq sym (codes "NaN")) sym v known is h
  plain (kind.UnaryExpr op) p known v h is = void_plain op p known v h is
  plain k p known v h is = absurd (untrue p)

-- `!e`
bang_plain : (p : Purity) (k : KnownOr Bool) (text : List ℕ) → known_bool_text (logical_not (if is_pure p then k else Unknown)) ≡ Known text
    → (p ≡ Pure) × ((v : Value) → HasTruth (logical_not k) v → is_of_type js_type.Bool v ≡ true → Plain v text false)
bang_plain Pure (Known b) text known = (refl, λ v t is. truth_plain v t is)
  where
    truth_plain : (v : Value) → truth_of v ≡ not b → is_of_type js_type.Bool v ≡ true → Plain v text false
    truth_plain (Truth true) t is = (ap Some (ap bool_text t ∙ known_same known), refl)
    truth_plain (Truth false) t is = (ap Some (ap bool_text t ∙ known_same known), refl)
    truth_plain v t is = absurd (untrue is)
bang_plain Pure Unknown text known = absurd (unknown_known refl known)
bang_plain MayBeImpure k text known = absurd (unknown_known refl known)

-- a name that adds nothing has a text
name_known : (g u i n : Bool) (sym : List ℕ) → (g && u) ≡ true → (if g && (u || i || n) then Known sym else Unknown) ≡ Known sym
name_known true true i n sym h = refl
name_known true false i n sym h = absurd (untrue h)
name_known false u i n sym h = absurd (untrue h)

-- a text of two parts
record Followed (a b : KnownOr (List ℕ)) (t : List ℕ) : Type 0 where
  pub first : List ℕ
  pub second : List ℕ
  pub is_first : a ≡ Known first
  pub is_second : b ≡ Known second
  pub is : t ≡ first ++ second

followed_parts : (a b : KnownOr (List ℕ)) (t : List ℕ) → followed_by a b ≡ Known t → Followed a b t
followed_parts (Known u) (Known w) t is = record { first = u; second = w; is_first = refl; is_second = refl; is = sym (known_same is) }
followed_parts (Known u) Unknown t is = absurd (unknown_known refl is)
followed_parts Unknown b t is = absurd (unknown_known refl is)

-- ---- nodes

-- kinds whose value is one element
abbrev is_element : Kind → Bool
is_element kind.ArrayLit = true
is_element (kind.UnaryExpr op) = true
is_element k = is_plain k

element_run : (n : Node) (k : Kind) (ms : List Meaning) (x : ExecutionContext) → is_element k ≡ true → (meaning_by n k ms).elements x ≡ ((meaning_by n k ms).value x >>= λ v. give (Some v ∷ []))
element_run n (kind.Str value raw) ms x h = refl
element_run n (kind.Number value raw) ms x h = refl
element_run n (kind.Bool value) ms x h = refl
element_run n kind.Null ms x h = refl
element_run n (kind.Ident sym ctxt optional) ms x h = refl
element_run n (kind.UnaryExpr op) ms x h = refl
element_run n kind.ArrayLit ms x h = refl
element_run n k ms x h = absurd (untrue h)

plain_valued : (k : Kind) (ms : List Marks) → is_plain k ≡ true → is_valued_by false k ms ≡ true
plain_valued (kind.Str value raw) ms h = refl
plain_valued (kind.Number value raw) ms h = refl
plain_valued (kind.Bool value) ms h = refl
plain_valued kind.Null ms h = refl
plain_valued (kind.Ident sym ctxt optional) ms h = refl
plain_valued (kind.UnaryExpr operator.Void) [] h = refl
plain_valued (kind.UnaryExpr operator.Void) (m ∷ ms) h = refl
plain_valued (kind.UnaryExpr op) ms h = absurd (untrue h)
plain_valued k ms h = absurd (untrue h)

plain_marks : (n : Node) → is_plain (out-Node n).kind ≡ true → is_valued false n ≡ true
plain_marks n h = ap (λ (m : Marks). m.valued) (fold_out-Node Marks (marks_step false) n) ∙ plain_valued (out-Node n).kind (map (marks false) (out-Node n).children) h

-- an array and a truth value add something
abbrev pub nothing_in : ExprCtx → Node → Bool
nothing_in ctx n = is_nothing_by ctx (purity_of (judged ctx n).effects) (out-Node n).kind

-- its value has this text in the state behind it
abbrev pub IsText : ExprCtx → Node → List ℕ → Value → State → Type 0
IsText ctx n text v s = Plain v text (nothing_in ctx n) ⊎ (HasArrayText s v text × (nothing_in ctx n ≡ false))

-- ---- elements

-- as an element it adds its text, or nothing
plain_element : (s : State) (v : Value) (text t : List ℕ) (nothing : Bool) → Plain v text nothing → (if nothing then Known [] else Known text) ≡ Known t → OneText s (Some v ∷ []) t
plain_element s v text t true p is = record { element = Some v; is = refl; have = subst (λ l. HaveTextsIn s (Some v ∷ []) (l ∷ [])) (known_same is) (empty_text p.1 none_left) }
plain_element s v text t false p is = record { element = Some v; is = refl; have = subst (λ l. HaveTextsIn s (Some v ∷ []) (l ∷ [])) (known_same is) (own_text p.1 p.0 none_left) }

array_element : (s : State) (v : Value) (text t : List ℕ) (nothing : Bool) → HasArrayText s v text → nothing ≡ false → (if nothing then Known [] else Known text) ≡ Known t → OneText s (Some v ∷ []) t
array_element s v text t true a n is = absurd (untrue (sym n))
array_element s v text t false a n is = record {
  element = Some v;
  is = refl;
  have = subst (λ l. HaveTextsIn s (Some v ∷ []) (l ∷ [])) (sym a.joined ∙ known_same is)
      (subst (λ w. HaveTextsIn s (Some w ∷ []) (with_commas a.parts ∷ [])) (sym a.is) (array_text a.at a.array a.have none_left));
}

element_of : (ctx : ExprCtx) (n : Node) (text t : List ℕ) (v : Value) (s : State) → (if nothing_in ctx n then Known [] else Known text) ≡ Known t → IsText ctx n text v s → OneText s (Some v ∷ []) t
element_of ctx n text t v s is (inl p) = plain_element s v text t (nothing_in ctx n) p is
element_of ctx n text t v s is (inr a) = array_element s v text t (nothing_in ctx n) a.0 a.1 is

-- what adds nothing, and is there, has a text
void_known : (own : Purity) (text : List ℕ) → is_pure own ≡ true → (if is_pure own then Known text else Unknown) ≡ Known text
void_known Pure text h = refl
void_known MayBeImpure text h = absurd (untrue h)

nothing_known : (ctx : ExprCtx) (own : Purity) (k : Kind) (kids : List Judged) → is_nothing_by ctx own k ≡ true → is_absent k ≡ false → (u : List ℕ) × (text_by ctx own k kids ≡ Known u)
unfolding text_by is_nothing_by
nothing_known ctx own kind.Null kids h a = (codes "null", refl)
nothing_known ctx own (kind.Ident sym ctxt optional) kids h a =
    (sym, name_known (ctxt == ctx.unresolved_ctxt) (bytes_eq sym (codes "undefined")) (bytes_eq sym (codes "Infinity")) (bytes_eq sym (codes "NaN")) sym h)
nothing_known ctx own (kind.UnaryExpr operator.Void) kids h a = (codes "undefined", void_known own (codes "undefined") h)
nothing_known ctx own (kind.UnaryExpr op) kids h a = absurd (untrue h)
nothing_known ctx own kind.Absent kids h a = absurd (untrue (sym a))
nothing_known ctx own k kids h a = absurd (untrue h)

-- what is an element by its text is of one of these kinds
element_kind : (ctx : ExprCtx) (own : Purity) (k : Kind) (kids : List Judged) (u : List ℕ) → text_by ctx own k kids ≡ Known u → is_list k ≡ false → is_element k ≡ true
unfolding text_by
element_kind ctx own (kind.Str value raw) kids u h single = refl
element_kind ctx own (kind.Number value raw) kids u h single = refl
element_kind ctx own (kind.Bool value) kids u h single = refl
element_kind ctx own kind.Null kids u h single = refl
element_kind ctx own (kind.Ident sym ctxt optional) kids u h single = refl
element_kind ctx own (kind.UnaryExpr op) kids u h single = refl
element_kind ctx own kind.ArrayLit kids u h single = refl
element_kind ctx own kind.List kids u h single = absurd (untrue (sym single))
element_kind ctx own k kids u h single = absurd (unknown_known refl h)

-- ---- lists of items

never_list : (s : Sort) → belongs s kind.List ≡ false
never_list sort.Program = refl
never_list _ = refl

pub item_no_list : (c : Count) (s : Sort) (k : Kind) → allows (item_shape (record { count = c; sort = s })) k ≡ true → is_list k ≡ false
item_no_list One s kind.List h = absurd (untrue (sym (never_list s) ∙ h))
item_no_list Maybe s kind.List h = absurd (untrue (sym (never_list s) ∙ h))
item_no_list Many s kind.List h = absurd (untrue (sym (never_list s) ∙ h))
item_no_list MaybeMany s kind.List h = absurd (untrue (sym (never_list s) ∙ h))
item_no_list Holes s kind.List h = absurd (untrue (sym (never_list s) ∙ h))
item_no_list c s k h = refl

module _ (ctx : ExprCtx) (x : ExecutionContext) (apart : declares_no_global ctx x.scope ≡ true) (steadies : (n : Node) → Steady ctx (IsSorted ctx (lone x)) (lone x) n) where
  record Texted (n : Node) : Type 0 where
    pub value : IsSorted ctx (lone x) n → is_list (out-Node n).kind ≡ false → (t : List ℕ) → (judged ctx n).text ≡ Known t → Settles (IsText ctx n t) ((meaning n).value (lone x))
    pub one : IsSorted ctx (lone x) n → is_list (out-Node n).kind ≡ false → (t : List ℕ) → (judged ctx n).element ≡ Known t → Settles (λ es s. OneText s es t) ((meaning n).elements (lone x))
    pub several : IsSorted ctx (lone x) n → is_list (out-Node n).kind ≡ true → (t : List ℕ) → (judged ctx n).text ≡ Known t → Settles (λ es s. JoinedTexts s es [] t) ((meaning n).elements (lone x))

  abbrev TextedNode : Type 0
  TextedNode = (n : Node) × Texted n

  abbrev nodes : List TextedNode → List Node
  nodes ns = map (λ e. e.0) ns

  -- a node of this kind, with these children
  module _ (n : Node) (h : IsSorted ctx (lone x) n) (k : Kind) (is : (out-Node n).kind ≡ k) (ns : List TextedNode) (same : nodes ns ≡ (out-Node n).children) where
    abbrev own : Purity
    own = purity_of (judged ctx n).effects

    abbrev kids : List Judged
    kids = map (judged ctx) (nodes ns)

    means : meaning n ≡ meaning_by n k (map meaning (nodes ns))
    means = meaning_out n ∙ ap (λ l. meaning_by n l (map meaning (out-Node n).children)) is ∙ ap (λ l. meaning_by n k (map meaning l)) (sym same)

    text_here : (judged ctx n).text ≡ text_by ctx own k kids
    text_here = text-out ctx n ∙ ap (λ l. text_by ctx own l (kids_of ctx n)) is ∙ ap (λ l. text_by ctx own k (map (judged ctx) l)) (sym same)

    truth_here : (judged ctx n).truth ≡ truth_by ctx own k n kids
    truth_here = truth-out ctx n ∙ ap (λ l. truth_by ctx own l n (kids_of ctx n)) is ∙ ap (λ l. truth_by ctx own k n (map (judged ctx) l)) (sym same)

    type_here : (judged ctx n).type ≡ type_by ctx k n kids
    type_here = type-out ctx n ∙ ap (λ l. type_by ctx l n (kids_of ctx n)) is ∙ ap (λ l. type_by ctx k n (map (judged ctx) l)) (sym same)

    nothing_here : nothing_in ctx n ≡ is_nothing_by ctx own k
    nothing_here = ap (λ l. is_nothing_by ctx own l) is

    below : is_parted k ≡ true → (all_have_shapes (child_shapes k h.shape (length (nodes ns))) (map has_shape (nodes ns)) ≡ true) × (all_told ctx (lone x) (nodes ns) ≡ true)
    below p =
        let b = sorted_below ctx (lone x) n h (subst (λ l. is_parted l ≡ true) (sym is) p) in (
          subst (λ l. all_have_shapes (child_shapes k h.shape (length l)) (map has_shape l) ≡ true) (sym same)
              (subst (λ l. all_have_shapes (child_shapes l h.shape (length (out-Node n).children)) (map has_shape (out-Node n).children) ≡ true) is b.0),
          subst (λ l. all_told ctx (lone x) l ≡ true) (sym same) b.1,
        )

    plain_value : is_plain k ≡ true → (t : List ℕ) → (judged ctx n).text ≡ Known t → Settles (IsText ctx n t) ((meaning n).value (lone x))
    plain_value p t known =
        weaker_settles (λ v s j. inl (subst (Plain v t) (sym nothing_here)
        (plain ctx own n kids t k p (sym text_here ∙ known) v (subst (λ z. HasText z v) known j.text) (subst (λ z. HasType z v) type_here j.type))))
        (settled (λ old. ((steadies n).text h t known old).0) ((valued ctx false (lone x) (λ f. absurd (untrue f)) apart n).value (plain_marks n (subst (λ l. is_plain l ≡ true) (sym is) p))))

  bang_value : (n : Node) (h : IsSorted ctx (lone x) n) (is : (out-Node n).kind ≡ kind.UnaryExpr operator.Bang) (ns : List TextedNode) (same : nodes ns ≡ (out-Node n).children) (t : List ℕ) → (judged ctx n).text ≡ Known t
      → Settles (IsText ctx n t) ((meaning n).value (lone x))
  unfolding text_by truth_by type_by is_nothing_by
  bang_value n h is ns same t known =
      let k = kind.UnaryExpr operator.Bang in
      let j = kid (map (judged ctx) (nodes ns)) 0 in
      let b = bang_plain j.truth.0 j.truth.1 t (sym (text_here n h k is ns same) ∙ known) in
      let told = (steadies n).truth h (ap (λ (z : Purity × KnownOr Bool). z.0) (truth_here n h k is ns same) ∙ b.0) in
      weaker_settles (λ v s g. inl (subst (Plain v t) (sym (nothing_here n h k is ns same))
      (b.1 v (subst (λ (z : Purity × KnownOr Bool). HasTruth z.1 v) (truth_here n h k is ns same) g.0) (subst (λ z. HasType z v) (type_here n h k is ns same) g.1))))
      (settled told.leaves told.gives)

  array_value : (n : Node) (h : IsSorted ctx (lone x) n) (is : (out-Node n).kind ≡ kind.ArrayLit) (ns : List TextedNode) (same : nodes ns ≡ (out-Node n).children) (t : List ℕ) → (judged ctx n).text ≡ Known t
      → Settles (λ v s. HasArrayText s v t) ((meaning n).value (lone x))
  unfolding text_by
  array_value n h is [] same t known = absurd (unknown_known refl (sym (text_here n h kind.ArrayLit is [] same) ∙ known))
  array_value n h is (e ∷ []) same t known =
      let b = below n h kind.ArrayLit is (e ∷ []) same refl in
      let has = (both_true (has_shape e.0 (with_holes sort.ExprOrSpread)) true b.0).0 in
      let sorted : IsSorted ctx (lone x) e.0 = record { shape = with_holes sort.ExprOrSpread; has = has; told = (both_true (are_told ctx x.known.declared e.0) true b.1).0 } in
      subst (λ m. Settles (λ v s. HasArrayText s v t) (m.value (lone x))) (sym (means n h kind.ArrayLit is (e ∷ []) same))
      (bind_settles (e.1.several sorted (shaped e.0 (with_holes sort.ExprOrSpread) has).0 t (sym (text_here n h kind.ArrayLit is (e ∷ []) same) ∙ known)) (λ es. array_settles es t))
  array_value n h is (e ∷ f ∷ ns) same t known = subst (λ m. Settles (λ v s. HasArrayText s v t) (m.value (lone x))) (sym (means n h kind.ArrayLit is (e ∷ f ∷ ns) same)) outside_settles

  value_at : (n : Node) (h : IsSorted ctx (lone x) n) (k : Kind) (is : (out-Node n).kind ≡ k) (ns : List TextedNode) (same : nodes ns ≡ (out-Node n).children) → is_element k ≡ true → (t : List ℕ) → (judged ctx n).text ≡ Known t
      → Settles (IsText ctx n t) ((meaning n).value (lone x))
  unfolding text_by is_nothing_by
  value_at n h kind.ArrayLit is ns same e t known = weaker_settles (λ v s a. inr (a, nothing_here n h kind.ArrayLit is ns same)) (array_value n h is ns same t known)
  value_at n h (kind.UnaryExpr operator.Bang) is ns same e t known = bang_value n h is ns same t known
  value_at n h (kind.UnaryExpr operator.Void) is ns same e t known = plain_value n h (kind.UnaryExpr operator.Void) is ns same refl t known
  value_at n h (kind.UnaryExpr op) is ns same e t known = absurd (unknown_known refl (sym (text_here n h (kind.UnaryExpr op) is ns same) ∙ known))
  value_at n h k is ns same e t known = plain_value n h k is ns same e t known

  -- an element that is there
  element_at : (n : Node) (h : IsSorted ctx (lone x) n) (k : Kind) (is : (out-Node n).kind ≡ k) (ns : List TextedNode) (same : nodes ns ≡ (out-Node n).children) → is_list k ≡ false → (u t : List ℕ) → (judged ctx n).text ≡ Known u
      → (if nothing_in ctx n then Known [] else (judged ctx n).text) ≡ Known t → Settles (λ es s. OneText s es t) ((meaning n).elements (lone x))
  element_at n h k is ns same single u t text known =
      let e = element_kind ctx (own n h k is ns same) k (kids n h k is ns same) u (sym (text_here n h k is ns same) ∙ text) single in
      let m = means n h k is ns same in
      subst (λ r. Settles (λ es s. OneText s es t) r)
      (ap (λ (z : Meaning). z.value (lone x) >>= λ v. give (Some v ∷ [])) m ∙ sym (element_run n k (map meaning (nodes ns)) (lone x) e) ∙ ap (λ (z : Meaning). z.elements (lone x)) (sym m))
      (bind_settles (value_at n h k is ns same e u text)
      (λ v. give_settles (Some v ∷ []) (λ s p. element_of ctx n u t v s (subst (λ z. (if nothing_in ctx n then Known [] else z) ≡ Known t) text known) p)))

  -- whether it adds nothing is one or the other
  by_nothing : (n : Node) (h : IsSorted ctx (lone x) n) (k : Kind) (is : (out-Node n).kind ≡ k) (ns : List TextedNode) (same : nodes ns ≡ (out-Node n).children) → is_list k ≡ false → is_absent k ≡ false → (t : List ℕ)
      → (b : Bool) → nothing_in ctx n ≡ b → (if nothing_in ctx n then Known [] else (judged ctx n).text) ≡ Known t → Settles (λ es s. OneText s es t) ((meaning n).elements (lone x))
  by_nothing n h k is ns same single there t true e known =
      let u = nothing_known ctx (own n h k is ns same) k (kids n h k is ns same) (sym (nothing_here n h k is ns same) ∙ e) there in
      element_at n h k is ns same single u.0 t (text_here n h k is ns same ∙ u.1) known
  by_nothing n h k is ns same single there t false e known =
      element_at n h k is ns same single t t (subst (λ b. (if b then Known [] else (judged ctx n).text) ≡ Known t) e known) known

  one_at : (n : Node) (h : IsSorted ctx (lone x) n) (k : Kind) (is : (out-Node n).kind ≡ k) (ns : List TextedNode) (same : nodes ns ≡ (out-Node n).children) → is_list k ≡ false → (t : List ℕ)
      → (if nothing_in ctx n then Known [] else (judged ctx n).text) ≡ Known t → Settles (λ es s. OneText s es t) ((meaning n).elements (lone x))
  unfolding is_nothing_by
  one_at n h kind.Absent is ns same single t known =
      subst (λ m. Settles (λ es s. OneText s es t) (m.elements (lone x))) (sym (means n h kind.Absent is ns same))
      (give_settles (None ∷ []) (λ s r. record {
        element = None;
        is = refl;
        have = subst (λ l. HaveTextsIn s (None ∷ []) (l ∷ []))
            (known_same (subst (λ b. (if b then Known [] else (judged ctx n).text) ≡ Known t) (nothing_here n h kind.Absent is ns same) known)) (empty_text refl none_left);
      }))
  one_at n h k is ns same single t known = by_nothing n h k is ns same single refl t (nothing_in ctx n) refl known

  -- the elements of an array literal
  list_settles : (s : Shape) (ns : List TextedNode) → all_have_shapes (replicate (length (nodes ns)) (item_shape s)) (map has_shape (nodes ns)) ≡ true → all_told ctx (lone x) (nodes ns) ≡ true → (front t : List ℕ)
      → joined_behind front (map (judged ctx) (nodes ns)) ≡ Known t → Settles (λ es s. JoinedTexts s es front t) (all_elements (map meaning (nodes ns)) (lone x))
  list_settles s [] shapes told front t is = give_settles [] (λ r p. record { texts = []; have = none_left; joined = sym (known_same is) })
  list_settles s (n ∷ ns) shapes told front t is =
      let a = both_true (has_shape n.0 (item_shape s)) (all_have_shapes (replicate (length (nodes ns)) (item_shape s)) (map has_shape (nodes ns))) shapes in
      let b = both_true (are_told ctx x.known.declared n.0) (all_told ctx (lone x) (nodes ns)) told in
      let f = followed_parts (followed_by (Known front) (judged ctx n.0).element) (joined_behind (44 ∷ []) (map (judged ctx) (nodes ns))) t is in
      let g = followed_parts (Known front) (judged ctx n.0).element f.first f.is_first in
      let sorted : IsSorted ctx (lone x) n.0 = record { shape = item_shape s; has = a.0; told = b.0 } in
      let single = item_no_list s.count s.sort (out-Node n.0).kind (shaped n.0 (item_shape s) a.0).0 in
      let whole : (front ++ g.second) ++ f.second ≡ t = ap (λ l. (l ++ g.second) ++ f.second) (known_same g.is_first) ∙ ap (λ l. l ++ f.second) (sym g.is) ∙ sym f.is in
      subst (λ l. Settles (λ es r. JoinedTexts r es front l) (all_elements (map meaning (nodes (n ∷ ns))) (lone x))) whole
      (bind_settles (n.1.one sorted single g.second g.is_second) (λ vs.
      bind_settles (beside_settles (one_still g.second vs) (list_settles s ns a.1 b.1 (44 ∷ []) f.second f.is_second)) (λ ws.
      give_settles (vs ++ ws) (λ r p. joined_more front g.second f.second p.0 p.1))))

  several_at : (n : Node) (h : IsSorted ctx (lone x) n) (k : Kind) (is : (out-Node n).kind ≡ k) (ns : List TextedNode) (same : nodes ns ≡ (out-Node n).children) → is_list k ≡ true → (t : List ℕ) → (judged ctx n).text ≡ Known t
      → Settles (λ es s. JoinedTexts s es [] t) ((meaning n).elements (lone x))
  unfolding text_by
  several_at n h kind.List is ns same listed t known =
      let b = below n h kind.List is ns same refl in
      subst (λ m. Settles (λ es s. JoinedTexts s es [] t) (m.elements (lone x))) (sym (means n h kind.List is ns same))
      (list_settles h.shape ns b.0 b.1 [] t (sym (text_here n h kind.List is ns same) ∙ known))
  several_at n h k is ns same listed t known = absurd (untrue listed)

  texted_by : (n : Node) (ns : List TextedNode) → nodes ns ≡ (out-Node n).children → Texted n
  texted_by n ns same = record {
    value = λ h single t known. value_at n h (out-Node n).kind refl ns same
        (element_kind ctx (own n h (out-Node n).kind refl ns same) (out-Node n).kind (kids n h (out-Node n).kind refl ns same) t (sym (text_here n h (out-Node n).kind refl ns same) ∙ known) single) t known;
    one = λ h single t known. one_at n h (out-Node n).kind refl ns same single t (sym (element-out ctx n) ∙ known);
    several = λ h listed t known. several_at n h (out-Node n).kind refl ns same listed t known;
  }

  texted : (n : Node) → Texted n
  texted = ind-Node Texted (λ parts y is. texted_by (roll-Node parts) y.children (ap (λ z. z.children) is ∙ sym (ap (λ (z : Node-F Node). z.children) (out-roll-Node parts))))

  -- what has a known text leaves all as it was, and its value has that text in the state behind it
  pub known_text : (n : Node) → IsSorted ctx (lone x) n → is_list (out-Node n).kind ≡ false → (t : List ℕ) → (judged ctx n).text ≡ Known t → Settles (IsText ctx n t) ((meaning n).value (lone x))
  known_text n h single t known = (texted n).value h single t known

  -- each child, with what is shown of it
  abbrev texted_all : List Node → List TextedNode
  texted_all [] = []
  texted_all (n ∷ ns) = (n, texted n) ∷ texted_all ns

  same_all : (ns : List Node) → nodes (texted_all ns) ≡ ns
  same_all [] = refl
  same_all (n ∷ ns) = ap (λ l. n ∷ l) (same_all ns)

  pub known_array : (n : Node) → IsSorted ctx (lone x) n → (out-Node n).kind ≡ kind.ArrayLit → (t : List ℕ) → (judged ctx n).text ≡ Known t → Settles (λ v s. HasArrayText s v t) ((meaning n).value (lone x))
  known_array n h is t known = array_value n h is (texted_all (out-Node n).children) (same_all (out-Node n).children) t known
