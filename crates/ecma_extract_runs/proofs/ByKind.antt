-- What is extracted of a node has its effects, by kind and by what its children mean.
use Rattle.std.proofs.Common.{◌≡◌, refl, sym, ap, ◌∙◌, subst, ℕ, List, [], ◌∷◌, ◌++◌, map, length, append-nil, Option, Some, Bool, true, false, ◌||◌, slice_get}
use Rattle.std.specs.List.{flat_map, list_all, list_any}
use Rattle.std.proofs.lemmas.Bool.{false≢true}
use Rattle.ecma_kind.specs.declared.kind.Kind.{Kind}
use Rattle.ecma_kind.specs.declared.kind.Kind.TheVariants as kind
use Rattle.ecma_kind.specs.declared.operators.BinaryOp.{BinaryOp}
use Rattle.ecma_kind.specs.declared.operators.BinaryOp.TheVariants.{LogicalOr, LogicalAnd, NullishCoalescing}
use Rattle.ecma_kind.specs.declared.operators.UnaryOp.{UnaryOp}
use Rattle.ecma_kind.specs.declared.operators.UnaryOp.TheVariants as operator
use Rattle.ecma_tree.specs.declared.node.Node.{Node, out-Node}
use Rattle.ecma_judge.specs.declared.ctx.ExprCtx.{ExprCtx}
use Rattle.ecma_judge.specs.Extraction.{extracted, given as left_of, way_by, name_way, array_way, object_way, new_way, unary_way, binary_way, has_spread, has_kept, is_date, is_kept, makes_date, is_name, part_way_by}
use Rattle.ecma_judge.specs.Judged.{judged}
use Rattle.ecma_judge.specs.Parts.{passes_at, has_kind, has_no_items}
use Rattle.std.specs.Option.{option_map_or}
use Rattle.ecma_runs.specs.Members.{type_of}
use Rattle.ecma_runs.specs.Functions.{read_typed, read_object, construct}
use Rattle.ecma_runs.specs.Classes.{made_of, all_defined}
use Rattle.ecma_run_places.specs.Worlds.{World, Among, among_first, States}
use Rattle.ecma_extract_runs.proofs.Free.{above_free, next_free, made_free}
use Rattle.ecma_extract_runs.proofs.Dates.{both_true, undone_together}
use Rattle.ecma_extract_runs.proofs.References.{IsBound}
use Rattle.ecma_runs.specs.Values.{Value, Text, Own}
use Rattle.ecma_runs.specs.State.{Sort, State, Method}
use Rattle.ecma_runs.specs.Run.{Run, then_outcome, ◌>>=◌, give}
use Rattle.ecma_runs.specs.Meaning.{ExecutionContext, Evaluation, Meaning}
use Rattle.ecma_runs.specs.Operators.{text_from, key_from, unary_value}
use Rattle.ecma_runs.specs.Expressions.{chained, interleaved, sequence, value_of, all_elements, elements_of, all_texts, texts_of, key_of}
use Rattle.ecma_runs.specs.Declarations.{has_no_effect}
use Rattle.ecma_runs.specs.Evaluation.{meaning}
use Rattle.ecma_run_places.specs.Alike.{Contexts, first, second}
use Rattle.ecma_run_places.specs.Making.{making, only_by}
use Rattle.ecma_run_places.proofs.Growing.{later}
use Rattle.ecma_run_places.proofs.Dropping.{Drops}
use Rattle.ecma_run_places.proofs.Idle.{NoMembers, drops_bind, drops_together, type_of_drops, make_function_drops, make_generator_drops, given_drops, give_drops, outside_drops, new_object_drops, applied_drops}
use Rattle.ecma_extract_runs.specs.Evaluated.{evaluated, declares_no_global}
use Rattle.ecma_extract_runs.specs.Fits.{is_list, is_single_item, single_by, item_by, is_item, lists_items, all_fit, fits_by, fits}
use Rattle.ecma_extract_runs.proofs.Leading.{Led, Undone, undone_leads, undone_on, undone_behind, raised, unnested, Leads, drops_lead, outside_leads, lead_drop, lead_bind, drop_bind, lead_append}

-- no scope around declares a name with the context of what is not resolved, and no name is that of a member of an enum
abbrev pub IsLone : ExprCtx → ExecutionContext → Type 0
IsLone ctx x = (declares_no_global ctx x.scope ≡ true) × (x.known.enums.names ≡ [])

-- what is shown of a node: of it are left these expressions
pub record Claim (ctx : ExprCtx) (n : Node) (fit item name opens : Bool) (es : List Node) (m : Meaning) : Type 0 where
  pub value : {w : World} (c : Contexts w) → fit ≡ true → IsLone ctx (first c) → Leads w (m.value (first c)) (evaluated es (second c))
  pub elements : {w : World} (c : Contexts w) → fit ≡ true → item ≡ true → IsLone ctx (first c) → Leads w (m.elements (first c)) (evaluated es (second c))
  pub texts : {w : World} (c : Contexts w) → fit ≡ true → item ≡ true → IsLone ctx (first c) → Leads w (m.texts (first c)) (evaluated es (second c))
  pub key : {w : World} (c : Contexts w) → fit ≡ true → IsLone ctx (first c) → Leads w (m.key (first c)) (evaluated es (second c))
  pub defined : {w : World} (c : Contexts w) (a o : ℕ) → Among o w.free → fit ≡ true → item ≡ true → IsLone ctx (first c) → Leads w (m.defined a o (first c)) (evaluated es (second c))
  pub never_defined : opens ≡ true → (a o : ℕ) (x : ExecutionContext) (s : State) → Undone (m.defined a o x s)
  pub made : {w : World} (x : ExecutionContext) (sort : Sort) (home : Option ℕ) → Drops w (m.made sort home x)
  pub named : {w : World} (c : Contexts w) → IsLone ctx (first c) → name ≡ true → Drops w (m.reference (first c) >>= λ r. read_typed (first c) r)
  pub typed : {w : World} (c : Contexts w) → fit ≡ true → name ≡ false → IsLone ctx (first c) → Leads w (m.reference (first c) >>= λ r. read_typed (first c) r) (evaluated es (second c))
  pub date : is_date ctx n ≡ true → (x : ExecutionContext) → IsLone ctx x → (s : State) → Undone (then_outcome (m.reference x s) (λ r. read_object x r))
  pub link : (optional : Bool) (x : ExecutionContext) → IsBound (m.link optional x >>= λ o. give (chained o))

-- a spread and `a = e`, or a list of properties with one
abbrev pub opens_by : Kind → List Node → Bool
opens_by kind.SpreadElement ns = true
opens_by kind.AssignProp ns = true
opens_by kind.List ns = list_any (has_kind is_kept) ns
opens_by k ns = false

abbrev pub opens : Node → Bool
opens n = opens_by (out-Node n).kind (out-Node n).children

-- what is known of a node beside its children: it does what it does, and may go if it only makes
pub record Here (n : Node) (ns : List Node) (only : Bool) (m : Evaluation Value) : Type 0 where
  pub shape : (out-Node n).children ≡ ns
  pub whole : {w : World} (c : Contexts w) → Leads w (m (first c)) (evaluated (n ∷ []) (second c))
  pub drops : {w : World} (c : Contexts w) → NoMembers c → only ≡ true → Drops w (m (first c))

module _ (ctx : ExprCtx) where
  abbrev pub Child : Type 0
  Child = (n : Node) × Claim ctx n (fits n) (is_item n) (is_name n) (opens n) (extracted ctx n) (meaning n)

  abbrev pub nodes : List Child → List Node
  nodes ps = map (λ p. p.0) ps

  abbrev pub meanings : List Child → List Meaning
  meanings ps = map meaning (nodes ps)

  abbrev pub keeps : List Child → List (List Node)
  keeps ps = map (extracted ctx) (nodes ps)

  abbrev pub kept_of : List Child → List Node
  kept_of ps = flat_map (λ x. x) (keeps ps)

  abbrev pub fit_all : List Child → Bool
  fit_all ps = all_fit (map fits (nodes ps))

  -- a single item is an item
  item_single : (k : Kind) (ns : List Node) (ms : List Meaning) → single_by k ms ≡ true → item_by k ns (single_by k ms) ≡ true
  item_single kind.List ns ms h = absurd (false≢true h)
  item_single k ns ms h = h

  single_is_item : (n : Node) → is_single_item n ≡ true → is_item n ≡ true
  single_is_item n h = item_single (out-Node n).kind (out-Node n).children (map meaning (out-Node n).children) h

  -- to what leads to a list, and to nothing behind it
  pub alone : {w : World} {A : Type 0} {m : Run A} (es : List Node) (x : ExecutionContext) → Leads w m (evaluated es x) → Leads w m (evaluated (es ++ []) x)
  alone {w} {A} {m} es x h = subst (λ ns. Leads w m (evaluated ns x)) (sym (append-nil es)) h

  -- ---- lists

  elements_lead : {w : World} (c : Contexts w) (ps : List Child) → fit_all ps ≡ true → list_all is_single_item (nodes ps) ≡ true → IsLone ctx (first c)
      → Leads w (all_elements (meanings ps) (first c)) (evaluated (kept_of ps) (second c))
  elements_lead c [] f i d = drops_lead (give_drops [])
  elements_lead c (p ∷ ps) f i d =
      let g = both_true (fits p.0) (fit_all ps) f in
      let j = both_true (is_single_item p.0) (list_all is_single_item (nodes ps)) i in
      lead_append (extracted ctx p.0) (kept_of ps) (second c) (lead_bind (p.1.elements c g.0 (single_is_item p.0 j.0) d) (λ v u vs. lead_drop (elements_lead (later u c) ps g.1 j.1 d) (λ _ _ ws. give_drops (vs ++ ws))))

  texts_lead : {w : World} (c : Contexts w) (ps : List Child) → fit_all ps ≡ true → list_all is_single_item (nodes ps) ≡ true → IsLone ctx (first c)
      → Leads w (all_texts (meanings ps) (first c)) (evaluated (kept_of ps) (second c))
  texts_lead c [] f i d = drops_lead (give_drops [])
  texts_lead c (p ∷ ps) f i d =
      let g = both_true (fits p.0) (fit_all ps) f in
      let j = both_true (is_single_item p.0) (list_all is_single_item (nodes ps)) i in
      lead_append (extracted ctx p.0) (kept_of ps) (second c) (lead_bind (p.1.texts c g.0 (single_is_item p.0 j.0) d) (λ v u vs. lead_drop (texts_lead (later u c) ps g.1 j.1 d) (λ _ _ ws. give_drops (vs ++ ws))))

  sequence_leads : {w : World} (c : Contexts w) (ps : List Child) → fit_all ps ≡ true → IsLone ctx (first c) → Leads w (sequence (meanings ps) (first c)) (evaluated (kept_of ps) (second c))
  sequence_leads c [] f d = outside_leads
  sequence_leads c (p ∷ []) f d = alone (extracted ctx p.0) (second c) (p.1.value c (both_true (fits p.0) true f).0 d)
  sequence_leads c (p ∷ q ∷ ps) f d =
      let g = both_true (fits p.0) (fit_all (q ∷ ps)) f in
      lead_append (extracted ctx p.0) (kept_of (q ∷ ps)) (second c) (lead_bind (p.1.value c g.0 d) (λ v u _. sequence_leads (later u c) (q ∷ ps) g.1 d))

  open_list : (k : Kind) (ns : List Node) → is_list k ≡ true → list_any (has_kind is_kept) ns ≡ true → opens_by k ns ≡ true
  open_list kind.List ns l h = h
  open_list k ns l h = absurd (false≢true l)

  open_item : (k : Kind) (ns : List Node) → is_kept k ≡ true → opens_by k ns ≡ true
  open_item kind.SpreadElement ns h = refl
  open_item kind.AssignProp ns h = refl
  open_item k ns h = absurd (false≢true h)

  pub never_all : (ps : List Child) → list_any (has_kind is_kept) (nodes ps) ≡ true → (a o : ℕ) (x : ExecutionContext) (s : State) → Undone (all_defined (meanings ps) a o x s)
  never_all [] h a o x s = absurd (false≢true h)
  never_all (p ∷ ps) h a o x s = by (is_kept (out-Node p.0).kind) refl (λ g t. never_all ps g a o x t)
    where
      by : (b : Bool) → is_kept (out-Node p.0).kind ≡ b → (list_any (has_kind is_kept) (nodes ps) ≡ true → (t : State) → Undone (all_defined (meanings ps) a o x t)) → Undone (all_defined (meanings (p ∷ ps)) a o x s)
      by true e rest = undone_on (λ ks. all_defined (meanings ps) a o x >>= λ ls. give (ks ++ ls)) (p.1.never_defined (open_item (out-Node p.0).kind (out-Node p.0).children e) a o x s)
      by false e rest =
          undone_behind (λ ks. all_defined (meanings ps) a o x >>= λ ls. give (ks ++ ls)) (λ ks t. undone_on (λ ls. give (ks ++ ls))
          (rest (subst (λ b. (b || list_any (has_kind is_kept) (nodes ps)) ≡ true) e h) t)) ((meaning p.0).defined a o x s)

  pub defined_lead : {w : World} (c : Contexts w) (ps : List Child) (a o : ℕ) → Among o w.free → fit_all ps ≡ true → list_all is_single_item (nodes ps) ≡ true → IsLone ctx (first c)
      → Leads w (all_defined (meanings ps) a o (first c)) (evaluated (kept_of ps) (second c))
  defined_lead c [] a o m f i d = drops_lead (give_drops [])
  defined_lead c (p ∷ ps) a o m f i d =
      let g = both_true (fits p.0) (fit_all ps) f in
      let j = both_true (is_single_item p.0) (list_all is_single_item (nodes ps)) i in
      lead_append (extracted ctx p.0) (kept_of ps) (second c) (lead_bind (p.1.defined c a o m g.0 (single_is_item p.0 j.0) d)
      (λ v u vs. lead_drop (defined_lead (later u c) ps a o (u.free o m) g.1 j.1 d) (λ _ _ ws. give_drops (vs ++ ws))))

  -- ---- operators

  binary_leads : {w : World} (c : Contexts w) (n : Node) (op : BinaryOp) (left right : Child) → Here n (nodes (left ∷ right ∷ [])) (only_by (kind.BinExpr op) (map making (nodes (left ∷ right ∷ [])))) (value_of n (kind.BinExpr op) (meanings (left ∷ right ∷ [])))
      → fit_all (left ∷ right ∷ []) ≡ true → IsLone ctx (first c)
      → Leads w (value_of n (kind.BinExpr op) (meanings (left ∷ right ∷ [])) (first c)) (evaluated (left_of ctx (binary_way op) n (keeps (left ∷ right ∷ []))) (second c))
  binary_leads c n LogicalOr left right here f d = here.whole c
  binary_leads c n LogicalAnd left right here f d = here.whole c
  binary_leads c n NullishCoalescing left right here f d = here.whole c
  binary_leads c n op left right here f d =
      let g = both_true (fits left.0) (fit_all (right ∷ [])) f in
      lead_append (extracted ctx left.0) (kept_of (right ∷ [])) (second c) (lead_bind (left.1.value c g.0 d) (λ v u a.
      alone (extracted ctx right.0) (second c) (lead_drop (right.1.value (later u c) (both_true (fits right.0) true g.1).0 d) (λ _ _ b. applied_drops op a b))))

  unary_leads : {w : World} (c : Contexts w) (n : Node) (op : UnaryOp) (operand : Child) → Here n (nodes (operand ∷ [])) (only_by (kind.UnaryExpr op) (map making (nodes (operand ∷ [])))) (value_of n (kind.UnaryExpr op) (meanings (operand ∷ [])))
      → fit_all (operand ∷ []) ≡ true → IsLone ctx (first c)
      → Leads w (value_of n (kind.UnaryExpr op) (meanings (operand ∷ [])) (first c)) (evaluated (left_of ctx (unary_way op n) n (keeps (operand ∷ []))) (second c))
  unary_leads c n operator.Delete operand here f d = here.whole c
  unary_leads {w} c n operator.TypeOf operand here f d = by (passes_at is_name 0 n) refl
    where
      operand_name : (b : Bool) → passes_at is_name 0 n ≡ b → is_name operand.0 ≡ b
      operand_name b e = sym (ap (λ (ns : List Node). option_map_or is_name (slice_get ns 0) false) here.shape) ∙ e

      by : (b : Bool) → passes_at is_name 0 n ≡ b → Leads w (value_of n (kind.UnaryExpr operator.TypeOf) (meanings (operand ∷ [])) (first c)) (evaluated (left_of ctx (unary_way operator.TypeOf n) n (keeps (operand ∷ []))) (second c))
      by true e = rw e (drops_lead (drops_together ((meaning operand.0).reference (first c)) (λ r. read_typed (first c) r) type_of (drops_bind (operand.1.named c d (operand_name true e)) (λ v. type_of_drops v))))
      by false e =
          rw e (alone (extracted ctx operand.0) (second c)
          (unnested ((meaning operand.0).reference (first c)) (λ r. read_typed (first c) r) type_of (lead_drop (operand.1.typed c (both_true (fits operand.0) true f).0 (operand_name false e) d) (λ _ _ v. type_of_drops v))))
  unary_leads c n op operand here f d =
      alone (extracted ctx operand.0) (second c) (lead_drop (operand.1.value c (both_true (fits operand.0) true f).0 d) (λ _ _ a. given_drops (unary_value op a)))

  -- ---- by kind

  module _ (n : Node) where
    pub value_leads : {w : World} (c : Contexts w) (k : Kind) (ps : List Child) → Here n (nodes ps) (only_by k (map making (nodes ps))) (value_of n k (meanings ps))
        → fits_by k (nodes ps) (map fits (nodes ps)) ≡ true → IsLone ctx (first c)
        → Leads w (value_of n k (meanings ps) (first c)) (evaluated (left_of ctx (way_by ctx k n) n (keeps ps)) (second c))
    unfolding way_by part_way_by
    value_leads {w} c (kind.Ident name ctxt optional) ps here f d = by (judged ctx n).effects refl
      where
        by : (b : Bool) → (judged ctx n).effects ≡ b → Leads w (value_of n (kind.Ident name ctxt optional) (meanings ps) (first c)) (evaluated (left_of ctx (name_way ctx n) n (keeps ps)) (second c))
        by true e = rw e (here.whole c)
        by false e = rw e (drops_lead (here.drops c d.1 refl))
    value_leads c (kind.Str text raw) ps here f d = drops_lead (here.drops c d.1 refl)
    value_leads c (kind.Bool truth) ps here f d = drops_lead (here.drops c d.1 refl)
    value_leads c kind.Null ps here f d = drops_lead (here.drops c d.1 refl)
    value_leads c (kind.Number number raw) ps here f d = drops_lead (here.drops c d.1 refl)
    value_leads c (kind.Regex exp flags) ps here f d = drops_lead (here.drops c d.1 refl)
    value_leads c kind.ThisExpr ps here f d = drops_lead (here.drops c d.1 refl)
    value_leads c kind.FnExpr ps here f d = drops_lead (here.drops c d.1 refl)
    value_leads c (kind.ArrowExpr is_async is_generator) ps here f d = drops_lead (here.drops c d.1 refl)
    value_leads c (kind.UnaryExpr op) (operand ∷ []) here f d = unary_leads c n op operand here f d
    value_leads c (kind.UnaryExpr op) [] here f d = outside_leads
    value_leads c (kind.UnaryExpr op) (p ∷ q ∷ ps) here f d = outside_leads
    value_leads c (kind.BinExpr op) (left ∷ right ∷ []) here f d = binary_leads c n op left right here f d
    value_leads c (kind.BinExpr op) [] here f d = outside_leads
    value_leads c (kind.BinExpr op) (p ∷ []) here f d = outside_leads
    value_leads c (kind.BinExpr op) (p ∷ q ∷ r ∷ ps) here f d = outside_leads
    value_leads c kind.SeqExpr ps here f d = sequence_leads c ps f d
    value_leads c kind.Tpl (expressions ∷ parts ∷ []) here f d =
        let g = both_true (lists_items (nodes (expressions ∷ parts ∷ []))) (fit_all (expressions ∷ parts ∷ [])) f in
        let h = both_true (fits expressions.0) (fit_all (parts ∷ [])) g.1 in
        drop_bind (given_drops (meaning parts.0).cooked) (λ ps. lead_drop (expressions.1.texts c h.0 (both_true _ (is_item expressions.0) g.0).1 d) (λ _ _ ts. give_drops (Text (interleaved ps ts))))
    value_leads {w} c kind.ArrayLit (elements ∷ []) here f d = by (passes_at has_spread 0 n) refl
      where
        by : (b : Bool) → passes_at has_spread 0 n ≡ b → Leads w (value_of n kind.ArrayLit (meanings (elements ∷ [])) (first c)) (evaluated (left_of ctx (array_way n) n (keeps (elements ∷ []))) (second c))
        by true e = rw e (here.whole c)
        by false e =
            let g = both_true (lists_items (nodes (elements ∷ []))) (fit_all (elements ∷ [])) f in
            rw e (alone (extracted ctx elements.0) (second c) (lead_drop (elements.1.elements c (both_true (fits elements.0) true g.1).0 (both_true _ (is_item elements.0) g.0).1 d) (λ _ _ es. drops_bind (new_object_drops _) (λ o. give_drops (Own o)))))
    value_leads c kind.ArrayLit [] here f d = outside_leads
    value_leads c kind.ArrayLit (p ∷ q ∷ ps) here f d = outside_leads
    value_leads {w} c kind.ObjectLit (properties ∷ []) here f d = by (passes_at has_kept 0 n) refl
      where
        g : (lists_items (properties.0 ∷ []) ≡ true) × (fit_all (properties ∷ []) ≡ true)
        g = both_true (lists_items (properties.0 ∷ [])) (fit_all (properties ∷ [])) f

        j : (is_list (out-Node properties.0).kind ≡ true) × (is_item properties.0 ≡ true)
        j = both_true (is_list (out-Node properties.0).kind) (is_item properties.0) g.0

        never : passes_at has_kept 0 n ≡ true → (s : State) → Undone (value_of n kind.ObjectLit (meanings (properties ∷ [])) (first c) s)
        never e s =
            undone_on (λ _. give (Own (length s.objects))) (properties.1.never_defined (open_list (out-Node properties.0).kind (out-Node properties.0).children j.0
            (sym (ap (λ (ns : List Node). option_map_or has_kept (slice_get ns 0) false) here.shape) ∙ e)) _ _ (first c) _)

        object_led : {s s' : State} → States w s s' → Led w (value_of n kind.ObjectLit (meanings (properties ∷ [])) (first c) s) (evaluated (extracted ctx properties.0) (second c) s')
        object_led {s} {s'} st =
            let up = above_free w (length s.objects) (next_free st) in
            raised up ((lead_drop (properties.1.defined (later up c) (length s.objects) (length s.objects) among_first (both_true (fits properties.0) true g.1).0 j.1 d) (λ _ _ _. give_drops (Own (length s.objects)))).at (made_free st _))

        by : (b : Bool) → passes_at has_kept 0 n ≡ b → Leads w (value_of n kind.ObjectLit (meanings (properties ∷ [])) (first c)) (evaluated (left_of ctx (object_way n) n (keeps (properties ∷ []))) (second c))
        by true e = rw e (record { at = λ st. undone_leads (never e _) })
        by false e = rw e (alone (extracted ctx properties.0) (second c) (record { at = λ st. object_led st }))
    value_leads {w} c kind.NewExpr (callee ∷ arguments ∷ types ∷ []) here f d = by (makes_date ctx n) refl
      where
        by : (b : Bool) → makes_date ctx n ≡ b → Leads w (value_of n kind.NewExpr (meanings (callee ∷ arguments ∷ types ∷ [])) (first c)) (evaluated (left_of ctx (new_way ctx n) n (keeps (callee ∷ arguments ∷ types ∷ []))) (second c))
        by true e =
            rw e (record {
              at = λ st. undone_leads (undone_together ((meaning callee.0).reference (first c) _) (λ r. read_object (first c) r) (λ f. (meaning arguments.0).arguments (first c) >>= λ vs. construct (first c) f vs)
                  (callee.1.date (sym (ap (λ (ns : List Node). option_map_or (is_date ctx) (slice_get ns 0) false) here.shape) ∙ (both_true (passes_at (is_date ctx) 0 n) (passes_at has_no_items 1 n) e).0) (first c) d _));
            })
        by false e = rw e (here.whole c)
    value_leads c (kind.BigInt text raw) ps here f d = outside_leads
    value_leads c (kind.PrivateName name) ps here f d = outside_leads
    value_leads c kind.Absent ps here f d = outside_leads
    value_leads c kind.List ps here f d = outside_leads
    value_leads c (kind.IdentName name) ps here f d = outside_leads
    value_leads c kind.ComputedPropName ps here f d = outside_leads
    value_leads c kind.KeyValueProp ps here f d = outside_leads
    value_leads c kind.GetterProp ps here f d = outside_leads
    value_leads c kind.SetterProp ps here f d = outside_leads
    value_leads c kind.MethodProp ps here f d = outside_leads
    value_leads c kind.ParenExpr ps here f d = outside_leads
    value_leads c kind.TsAsExpr ps here f d = outside_leads
    value_leads c kind.TsTypeAssertion ps here f d = outside_leads
    value_leads c kind.TsConstAssertion ps here f d = outside_leads
    value_leads c kind.TsNonNullExpr ps here f d = outside_leads
    value_leads c kind.TsInstantiation ps here f d = outside_leads
    value_leads c kind.TsSatisfiesExpr ps here f d = outside_leads
    value_leads c kind.Tpl ps here f d = outside_leads
    value_leads c kind.ObjectLit ps here f d = outside_leads
    value_leads c kind.NewExpr ps here f d = outside_leads
    value_leads c k ps here f d = here.whole c

    pub elements_of_lead : {w : World} (c : Contexts w) (k : Kind) (ps : List Child) → Here n (nodes ps) (only_by k (map making (nodes ps))) (value_of n k (meanings ps)) → has_no_effect k (meanings ps) ≡ false
        → fits_by k (nodes ps) (map fits (nodes ps)) ≡ true → item_by k (nodes ps) (single_by k (meanings ps)) ≡ true → IsLone ctx (first c)
        → Leads w (elements_of n k (meanings ps) (first c)) (evaluated (left_of ctx (way_by ctx k n) n (keeps ps)) (second c))
    unfolding way_by part_way_by
    elements_of_lead c kind.Absent ps here e f i d = drops_lead (give_drops _)
    elements_of_lead c kind.List ps here e f i d = elements_lead c ps f i d
    elements_of_lead c (kind.TsTypeAliasDecl declare) ps here e f i d = absurd (false≢true (sym e))
    elements_of_lead c k ps here e f i d = lead_drop (value_leads c k ps here f d) (λ _ _ v. give_drops (Some v ∷ []))

    pub texts_of_lead : {w : World} (c : Contexts w) (k : Kind) (ps : List Child) → Here n (nodes ps) (only_by k (map making (nodes ps))) (value_of n k (meanings ps)) → has_no_effect k (meanings ps) ≡ false
        → fits_by k (nodes ps) (map fits (nodes ps)) ≡ true → item_by k (nodes ps) (single_by k (meanings ps)) ≡ true → IsLone ctx (first c)
        → Leads w (texts_of n k (meanings ps) (first c)) (evaluated (left_of ctx (way_by ctx k n) n (keeps ps)) (second c))
    unfolding way_by part_way_by
    texts_of_lead c kind.List ps here e f i d = texts_lead c ps f i d
    texts_of_lead c (kind.TsTypeAliasDecl declare) ps here e f i d = absurd (false≢true (sym e))
    texts_of_lead c k ps here e f i d = lead_drop (value_leads c k ps here f d) (λ _ _ v. drops_bind (given_drops (text_from v)) (λ t. give_drops (t ∷ [])))

    pub key_leads : {w : World} (c : Contexts w) (k : Kind) (ps : List Child) → fits_by k (nodes ps) (map fits (nodes ps)) ≡ true → IsLone ctx (first c)
        → Leads w (key_of k (meanings ps) (first c)) (evaluated (left_of ctx (way_by ctx k n) n (keeps ps)) (second c))
    unfolding way_by part_way_by
    key_leads c (kind.IdentName name) [] f d = drops_lead (give_drops _)
    key_leads c (kind.Str text raw) [] f d = drops_lead (give_drops _)
    key_leads c (kind.Number number raw) [] f d = drops_lead (drops_bind (given_drops number) (λ n. give_drops _))
    key_leads c kind.ComputedPropName (e ∷ []) f d = alone (extracted ctx e.0) (second c) (lead_drop (e.1.value c (both_true (fits e.0) true f).0 d) (λ _ _ v. given_drops (key_from v)))
    key_leads c k ps f d = outside_leads

    pub made_drops : {w : World} (k : Kind) (ms : List Meaning) (x : ExecutionContext) (sort : Sort) (home : Option ℕ) → Drops w (made_of n k ms sort home x)
    made_drops (kind.Function false false) ms x sort home = make_function_drops n sort home x
    made_drops (kind.Function false true) ms x sort home = make_function_drops n Method home x
    made_drops (kind.Function true is_async) ms x sort home = make_generator_drops n home x
    made_drops _ ms x sort home = outside_drops
